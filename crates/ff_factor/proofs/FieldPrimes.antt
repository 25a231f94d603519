-- Where k[x] modulo a monic polynomial is a field, its one primitive idempotent is 1, whose prime is the polynomial
-- itself.
use Rattle.std.proofs.Common.{◌≡◌, ℕ, zero, suc, inl, inr, List, [], ◌∷◌, refl, sym, ap, ◌∙◌, subst}
use Rattle.std.proofs.lemmas.List.Elements.{All-nil}
use Rattle.ring_lemmas.specs.Ring.{CommRing, IsField, pow}
use Rattle.ring_lemmas.specs.Congruence.{IsCongruent}
use Rattle.ring_theory.specs.Members.{In}
use Rattle.ring_lemmas.proofs.Ring.{one_mul, mul_zero, zero_add}
use Rattle.ring_lemmas.proofs.Congruence.{congruent_same, congruent_sym, congruent_trans}
use Rattle.ff_fields.specs.Field.{CodeField}
use Rattle.ff_fields.specs.Over.{IsOver}
use Rattle.ff_poly.specs.Value.{value}
use Rattle.ff_poly.specs.Polynomials.{Polynomial, polynomials}
use Rattle.polynomial_theory.proofs.Divisors.{divisor_of_divides, divides_of_divisor}
use Rattle.ff_falg.specs.Algebras.{AlgebraOps, IsAlgebra, IsVector, IsFieldAlgebra, IsNilpotentVector, IsPrimitiveVector, zero_of}
use Rattle.ff_falg.specs.Idempotents.{IsPrimitiveList, vector_sum}
use Rattle.ff_falg.proofs.FieldLaws.{value_field}
use Rattle.ff_falg.proofs.PowerLaws.{power_first}
use Rattle.ff_falg.proofs.Vectors.{vector_ring, vector_discrete}
use Rattle.ff_factor.specs.Factors.{IsBeforePoly}
use Rattle.ff_factor.specs.Primes.{IsPrimeAt}
use Rattle.ff_factor.specs.Pulls.{ArePrimesOf}
use Rattle.ff_factor.specs.Quotients.{IsModulus, product_modulo, quotient_algebra}
use Rattle.ff_factor.specs.QuotientLaws.{quotient_laws, product_in, value_product_modulo, value_quotient_unit, zero_class}
use Rattle.ff_factor.proofs.FieldsByIrreducibles.{modulus_null}
use Rattle.ff_factor.proofs.VectorClasses.{nilpotent_vector}

-- in a field no power of an element that isn't 0 is 0
field_powers : {E : Type 0} (R : CommRing E) → IsField R.ops → (x : E) → ¬ (x ≡ R.𝟘) → (n : ℕ) → pow R.ops x n ≡ R.𝟘 → ⊥
field_powers R F x some zero e = F.one_not_zero e
field_powers R F x some (suc n) e =
    let i = F.inverse x some in
    field_powers R F x some n
    (sym (one_mul R (pow R.ops x n)) ∙ ap (λ w. R.◌⊗◌ w (pow R.ops x n)) (sym i.1 ∙ R.mul_comm x i.0)
    ∙ R.mul_assoc i.0 x (pow R.ops x n) ∙ ap (R.◌⊗◌ i.0) e ∙ mul_zero R i.0)

module _ (k : CodeField) (A : AlgebraOps) (law : IsAlgebra k A) (F : IsFieldAlgebra k.ops A) where
  field_nilpotent : (v : List ℕ) → IsVector k.ops A.size v → IsNilpotentVector k.ops A v → v ≡ zero_of A
  field_nilpotent v v_in nilpotent = go (vector_discrete k A.size (v, v_in) (vector_ring k A law).𝟘)
    where
      go : Dec ((v, v_in) ≡ (vector_ring k A law).𝟘) → v ≡ zero_of A
      go (yes e) = ap (λ y. y.0) e
      go (no some) =
          let n = (nilpotent_vector k A law (v, v_in)).1 nilpotent in
          absurd (field_powers (vector_ring k A law) (value_field k A law F) (v, v_in) some n.0 n.1)

  field_primitive : (e : List ℕ) → IsPrimitiveVector k.ops A e → e ≡ A.unit
  field_primitive e p =
      let e_in = p.idempotent.vector in
      let i = F.inverse e e_in p.nonzero in
      sym (law.unit_times e e_in) ∙ law.commutative A.unit e law.unit_in e_in
      ∙ ap (A.product k.ops e) (sym i.2) ∙ sym (law.associative e e i.0 e_in e_in i.1)
      ∙ ap (λ w. A.product k.ops w i.0) p.idempotent.square ∙ i.2

module _ (k : CodeField) (g : List ℕ) (h : IsModulus k.ops g) (F : IsFieldAlgebra k.ops (quotient_algebra g)) where
  infixl 65 ◌⊕◌
  infixl 70 ◌⊗◌
  open polynomials k use {𝟘, 𝟙, ◌⊕◌, ◌⊗◌}

  abbrev S : CommRing (Polynomial k)
  S = (polynomials k).ring

  abbrev A : AlgebraOps
  A = quotient_algebra g

  abbrev law : IsAlgebra k (quotient_algebra g)
  law = quotient_laws k g h

  -- u times the unit
  abbrev class_of : List ℕ → List ℕ
  class_of u = product_modulo k.ops g u (quotient_algebra g).unit

  class_in : (u : List ℕ) → IsOver k.ops u → IsVector k.ops (quotient_algebra g).size (class_of u)
  class_in u u_in = product_in k g h u (quotient_algebra g).unit u_in law.unit_in

  class_is : (u : List ℕ) → IsOver k.ops u
      → IsCongruent (polynomials k).ops (value k g) (value k (class_of u)) (value k u)
  class_is u u_in =
      congruent_trans S (value k g) _ (value k u ⊗ value k (quotient_algebra g).unit) (value k u)
      (value_product_modulo k g h u (quotient_algebra g).unit u_in law.unit_in)
      (congruent_same S (value k g) _ _ (ap (λ w. value k u ⊗ w) (value_quotient_unit k g h) ∙ S.mul_one (value k u)))

  prime_at_unit : IsPrimeAt k.ops g (quotient_algebra g).unit g
  prime_at_unit = record {
    over = h.over;
    monic = h.monic;
    multiples = λ u u_in u_poly. (
      λ d. record {
        exponent = 1;
        is =
            power_first k (quotient_algebra g) law (class_of u) (class_in u u_in)
            ∙ (zero_class k g h (class_of u) (class_in u u_in)).1
            (congruent_trans S (value k g) _ (value k u) 𝟘 (class_is u u_in)
            (congruent_trans S (value k g) _ (value k g ⊗ value k d.quotient) 𝟘
            (congruent_same S (value k g) _ _ (divisor_of_divides k g u h.over d))
            (modulus_null k g h (value k d.quotient))));
      },
      λ n.
          let c =
          congruent_trans S (value k g) (value k u) (value k (class_of u)) 𝟘
          (congruent_sym S (value k g) _ _ (class_is u u_in))
          ((zero_class k g h (class_of u) (class_in u u_in)).0
          (field_nilpotent k (quotient_algebra g) law F (class_of u) (class_in u u_in) n)) in
          divides_of_divisor k g u h.over u_in u_poly (c.times, c.differs ∙ zero_add S _),
    );
  }

  -- the primes of all primitive idempotents
  pub field_primes : (es ps : List (List ℕ)) → IsPrimitiveList k.ops (quotient_algebra g) es → ps ≡ g ∷ []
      → ArePrimesOf k.ops g es ps
  field_primes es ps list ps_is =
      subst (ArePrimesOf k.ops g es) (sym ps_is) (record {
        each = λ p i. elim i [
          | inl same ↦ let m = some_member es list.sum in
              (m.0, m.1, subst (IsPrimeAt k.ops g m.0) (sym same) (at m.0 m.1))
          | inr none ↦ absurd none
        ];
        all = λ e i. (g, inl refl, at e i);
        ascending = (All-nil (IsBeforePoly g), tt);
      })
    where
      at : (e : List ℕ) → In e es → IsPrimeAt k.ops g e g
      at e i = subst (λ w. IsPrimeAt k.ops g w g)
          (sym (field_primitive k (quotient_algebra g) law F e ((list.members e).0 i))) prime_at_unit

      some_member : (fs : List (List ℕ)) → vector_sum k.ops (quotient_algebra g) fs ≡ (quotient_algebra g).unit
          → (e : List ℕ) × In e fs
      some_member [] sum = absurd (F.one_not_zero (sym sum))
      some_member (f ∷ fs) sum = (f, inl refl)
