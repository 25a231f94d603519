-- The prime of a primitive idempotent, out of the first relation among its products with powers of a high power of x.
use Rattle.std.proofs.Common.{◌≡◌, ℕ, zero, suc, ◌+◌, ◌-◌, ◌<◌, ◌≤◌, ◌^◌, ◌↔◌, ◌⊎◌, inl, inr, List, [], ◌∷◌, ◌++◌, length, map, take, refl, sym, ap, ap₂, ◌∙◌, subst, arith}
use Rattle.std.proofs.lemmas.List.{length-map, length_push}
use Rattle.ring_lemmas.specs.Ring.{CommRing, pow}
use Rattle.ring_lemmas.specs.Lists.{neg_list}
use Rattle.ring_lemmas.proofs.Ring.{mul_pow}
use Rattle.ring_lemmas.proofs.Solver.{ring, reads, from_one}
use Rattle.ring_lemmas.proofs.Lists.{length_neg_list}
use Rattle.ring_lemmas.proofs.Congruence.{congruent_refl}
use Rattle.ring_theory.proofs.Evaluate.{evaluate}
use Rattle.ff_fields.specs.Field.{CodeField}
use Rattle.ff_fields.specs.Code.{Code, raw_ring, code_ring, read_code}
use Rattle.ff_fields.specs.Numbers.{read}
use Rattle.ff_fields.specs.Over.{IsOver, IsOver_nil, IsOver_cons, IsOver_append, IsOver_neg, IsOver_take}
use Rattle.linear_theory.specs.Euclidean.{IsDivisorIn}
use Rattle.ff_poly.specs.Words.{IsMonicList}
use Rattle.ff_poly.specs.Value.{value}
use Rattle.ff_poly.specs.Polynomials.{Polynomial, polynomials, polynomial_discrete, x_poly}
use Rattle.ff_linalg.specs.Matrix.{MatrixValue}
use Rattle.finite_algebra_theory.specs.Algebra.{FiniteAlgebra, IsPrimitive}
use Rattle.finite_algebra_theory.specs.ByMap.{Image}
use Rattle.finite_algebra_theory.specs.Horner.{value as horner}
use Rattle.finite_algebra_theory.specs.Maximal.{NilpotentAt, IsMaximal}
use Rattle.finite_algebra_theory.specs.Minimal.{Minimal}
use Rattle.finite_algebra_theory.proofs.Above.{above_maximal}
use Rattle.finite_algebra_theory.proofs.Horner.{leading_list}
use Rattle.finite_algebra_theory.proofs.Nilpotent.{nilpotent_kernel}
use Rattle.ff_falg.specs.Algebras.{IsAlgebra, IsVector, IsPrimitiveVector, IsNilpotentVector}
use Rattle.ff_falg.specs.Relations.{IsRelation}
use Rattle.ff_falg.proofs.PolynomialValues.{negatives_scalar}
use Rattle.ff_falg.proofs.PowerSpans.{minimal_of_first}
use Rattle.ff_falg.proofs.VectorAlgebra.{scalar, scalar_map, scalars_in, vector_algebra, length_scalars, length_basis}
use Rattle.ff_factor.specs.Quotients.{IsModulus, product_modulo, quotient_algebra}
use Rattle.ff_factor.specs.Primes.{IsPrimeAt, IsHighPower}
use Rattle.ff_factor.specs.QuotientLaws.{quotient_laws}
use Rattle.polynomial_theory.proofs.ListValues.{length_value, monic_poly}
use Rattle.polynomial_theory.specs.Division.{Divided}
use Rattle.polynomial_theory.proofs.Division.{divide}
use Rattle.polynomial_theory.proofs.Irreducible.{made_monic}
use Rattle.ff_factor.proofs.VectorClasses.{primitive_vector, nilpotent_vector, evaluate_monic, evaluate_power, V, ring_of_vectors, same_classes, vector_of, vector_of_is, vector_hom, onto, product_vector, vector_power, vector_value}
use Rattle.polynomial_theory.proofs.Divisors.{some_value, divisor_of_divides, divides_of_divisor}

idempotent_power : {A : Type 0} (R : CommRing A) (e : A) → R.◌⊗◌ e e ≡ e → (n : ℕ) → 0 < n → pow R.ops e n ≡ e
idempotent_power R e idem zero some = absurd (omega arith)
idempotent_power R e idem (suc zero) some = R.mul_one e
idempotent_power R e idem (suc (suc n)) some = ap (R.◌⊗◌ e) (idempotent_power R e idem (suc n) (omega arith)) ∙ idem

module _ (k : CodeField) (g : List ℕ) (h : IsModulus k.ops g) (e : List ℕ)
    (primitive : IsPrimitiveVector k.ops (quotient_algebra g) e) where
  infixl 65 ◌⊕◌
  infixl 70 ◌⊗◌
  infixr 80 ⊖◌
  open polynomials k use {𝟘, 𝟙, ◌⊕◌, ◌⊗◌, ⊖◌}

  abbrev P : CommRing (Polynomial k)
  P = (polynomials k).ring

  abbrev n : ℕ
  n = length g - 1

  abbrev law : IsAlgebra k (quotient_algebra g)
  law = quotient_laws k g h

  some : 0 < n
  some = let l = h.not_constant in omega arith

  abbrev R : CommRing (V k g h)
  R = ring_of_vectors k g h

  abbrev ι : Code k → V k g h
  ι = scalar k (quotient_algebra g) law

  abbrev S : V k g h → Type 0
  S = Image ι

  abbrev 𝓐 : FiniteAlgebra R.ops S
  𝓐 = vector_algebra k (quotient_algebra g) law some

  abbrev E : V k g h
  E = (e, primitive.idempotent.vector)

  abbrev of : Polynomial k → V k g h
  of = vector_of k g h

  primitive_E : IsPrimitive R.ops E
  primitive_E = primitive_vector k (quotient_algebra g) law e primitive

  -- the polynomials that are nilpotent at e
  abbrev pub At : Polynomial k → Type 0
  At u = NilpotentAt R.ops E (of u)

  pub at_maximal : IsMaximal P.ops At
  at_maximal = above_maximal P R S 𝓐 of (vector_hom k g h) (onto k g h) E primitive_E

  -- said of lists
  pub at_nilpotent : (u : List ℕ) → IsOver k.ops u
      → At (value k u) ↔ IsNilpotentVector k.ops (quotient_algebra g) (product_modulo k.ops g u e)
  at_nilpotent u u_in =
      let s = nilpotent_vector k (quotient_algebra g) law (R.◌⊗◌ (of (value k u)) E) in
      let same = product_vector k g h u E u_in in (
        λ a. subst (IsNilpotentVector k.ops (quotient_algebra g)) (sym same) (s.0 a),
        λ a. s.1 (subst (IsNilpotentVector k.ops (quotient_algebra g)) same a),
      )

  module _ (z : List ℕ) (z_in : IsVector k.ops n z) (high : IsHighPower k g n z) where
    abbrev q : ℕ
    q = length 𝓐.codes ^ high.times

    abbrev Z : V k g h
    Z = (z, z_in)

    same_size : k.size ^ high.times ≡ q
    same_size = ap (λ s. s ^ high.times) (sym (length_scalars k (quotient_algebra g) law some))

    reached : length 𝓐.basis ≤ q
    reached = let r = high.reached in let e = length_basis k (quotient_algebra g) law in let s = same_size in omega
        arith

    z_is : Z ≡ pow R.ops (of (x_poly k)) q
    z_is =
        same_classes k g h Z (of (pow P.ops (x_poly k) (k.size ^ high.times))) _ _ high.is
        (vector_of_is k g h (pow P.ops (x_poly k) (k.size ^ high.times)))
        (congruent_refl P (value k g) (pow P.ops (x_poly k) (k.size ^ high.times)))
        ∙ vector_power k g h (x_poly k) (k.size ^ high.times) ∙ ap (pow R.ops (of (x_poly k))) same_size

    abbrev value_at_z : List ℕ → V k g h
    value_at_z u = evaluate (code_ring k) R ι (scalar_map k (quotient_algebra g) law) Z (read k u)

    power_is : (u : List ℕ) → IsOver k.ops u → pow R.ops (R.◌⊗◌ (of (value k u)) E) q ≡ R.◌⊗◌ (value_at_z u) E
    power_is u u_in =
        mul_pow R (of (value k u)) E q
        ∙ ap₂ R.◌⊗◌
        (ap (λ y. pow R.ops y q) (vector_value k g h u u_in)
        ∙ evaluate_power k (quotient_algebra g) law some high.times (of (x_poly k)) (read k u)
        ∙ ap (λ t. evaluate (code_ring k) R ι (scalar_map k (quotient_algebra g) law) t (read k u)) (sym z_is))
        (idempotent_power R E primitive_E.idempotent q positive)
      where
        positive : 0 < q
        positive = let r = reached in let e = length_basis k (quotient_algebra g) law in let s = some in omega arith

    -- nilpotent at e: the value at z is 0 there
    at_value : (u : List ℕ) → IsOver k.ops u → At (value k u) ↔ (R.◌⊗◌ (value_at_z u) E ≡ R.𝟘)
    at_value u u_in =
        let nk = nilpotent_kernel R S 𝓐 high.times reached (R.◌⊗◌ (of (value k u)) E) in (
          λ a. sym (power_is u u_in) ∙ nk.0 a,
          λ v. nk.1 (power_is u u_in ∙ v),
        )

    module _ (m : MatrixValue) (v : List ℕ) (relation : IsRelation k.ops (quotient_algebra g) z e m v) where
      v_in : IsOver k.ops v
      v_in = relation.first.relation.over

      abbrev pub prime : List ℕ
      prime = neg_list (raw_ring k.ops) v ++ 1 ∷ []

      pub prime_in : IsOver k.ops prime
      prime_in = IsOver_append (IsOver_neg k v v_in) (IsOver_cons k.laws.one_below IsOver_nil)

      prime_length : length prime ≡ length v + 1
      prime_length = length_push (neg_list (raw_ring k.ops) v) 1 ∙ ap (λ l. l + 1) (length_neg_list (raw_ring k.ops) v)

      min : Minimal R.ops S Z E (length (map ι (read k v))) (horner R.ops (map R.⊖◌ (map ι (read k v))) R.𝟙)
      min = minimal_of_first k (quotient_algebra g) law z e z_in primitive.idempotent.vector m relation.powers some v
          relation.first

      degree_is : length (map ι (read k v)) ≡ length v
      degree_is = length-map (read k v) ι ∙ length-map v (read_code k)

      prime_at_e : At (value k prime)
      prime_at_e =
          (at_value prime prime_in).1
          (ap (λ y. R.◌⊗◌ y E)
          (evaluate_monic k (quotient_algebra g) law Z (neg_list (raw_ring k.ops) v)
          ∙ ap (λ cs. horner R.ops cs R.𝟙 Z) (sym (negatives_scalar k (quotient_algebra g) law v v_in)))
          ∙ min.kills)

      -- what is monic and nilpotent at e has at least the degree
      long : (w : List ℕ) → IsOver k.ops w → IsMonicList w → At (value k w) → length v < length w
      long w w_in monic a = go (less (length monic.0) (length v))
        where
          less : (i j : ℕ) → (i < j) ⊎ (j ≤ i)
          less i j = grind arith

          lower_in : IsOver k.ops monic.0
          lower_in = subst (IsOver k.ops) (take_lower monic.0)
              (IsOver_take (length monic.0) (subst (IsOver k.ops) monic.1 w_in))
            where
              take_lower : (xs : List ℕ) → take (length xs) (xs ++ 1 ∷ []) ≡ xs
              take_lower [] = refl
              take_lower (x ∷ xs) = ap (λ ys. x ∷ ys) (take_lower xs)

          size : length w ≡ length monic.0 + 1
          size = ap length monic.1 ∙ length_push monic.0 1

          lower_size : length (map ι (read k monic.0)) ≡ length monic.0
          lower_size = length-map (read k monic.0) ι ∙ length-map monic.0 (read_code k)

          go : (length monic.0 < length v) ⊎ (length v ≤ length monic.0) → length v < length w
          go (inl l) =
              absurd
              (min.least (length (map ι (read k monic.0))) (let d = degree_is in let s = lower_size in omega arith)
              (horner R.ops (map ι (read k monic.0)) R.𝟙)
              (leading_list R S 𝓐.subring (map ι (read k monic.0)) R.𝟙
              (scalars_in k (quotient_algebra g) law (read k monic.0)))
              (ap (λ y. R.◌⊗◌ y E) (sym (evaluate_monic k (quotient_algebra g) law Z monic.0)
              ∙ ap value_at_z (sym monic.1)) ∙ (at_value w w_in).0 a))
          go (inr l) = let s = size in omega arith

      prime_monic : IsMonicList prime
      prime_monic = (neg_list (raw_ring k.ops) v, refl)

      prime_some : ¬ (value k prime ≡ 𝟘)
      prime_some = some_value k prime prime_in (monic_poly k prime prime_monic) (let l = prime_length in omega arith)

      -- and all that are nilpotent at e are multiples
      pub prime_divides : (u : Polynomial k) → At u → IsDivisorIn (polynomials k).ops (value k prime) u
      prime_divides u a = go (polynomial_discrete k d.rest 𝟘)
        where
          d : Divided k u (value k prime)
          d = divide k u (value k prime) prime_some

          left : u ⊕ ⊖ d.quotient ⊗ value k prime ≡ d.rest
          left = from_one P 𝟙 d.is (step u (value k prime) d.quotient d.rest)
            where
              step : (u p w r : Polynomial k) → u ⊕ ⊖ w ⊗ p ⊕ ⊖ r ≡ 𝟙 ⊗ (u ⊕ ⊖ (p ⊗ w ⊕ r))
              step u p w r = ring P (u ∷ p ∷ w ∷ r ∷ []) λ q x. simp (reads, q, x 0, x 1, x 2, x 3) (q.equal _ _ refl)

          rest_at : At d.rest
          rest_at = subst At left (at_maximal.ideal.sum_in _ _ a
              (at_maximal.ideal.scale_in (⊖ d.quotient) (value k prime) tt prime_at_e))

          go : Dec (d.rest ≡ 𝟘) → IsDivisorIn (polynomials k).ops (value k prime) u
          go (yes z) = (d.quotient, d.is ∙ ap (λ r. value k prime ⊗ d.quotient ⊕ r) z ∙ P.add_zero _)
          go (no ne) =
              let w = made_monic k d.rest ne in
              let l = long w.codes w.over w.monic
              (subst At (sym w.is) (at_maximal.ideal.scale_in w.factor d.rest tt rest_at)) in
              let s = w.length_is in
              let t = d.shorter in
              absurd (omega (arith, prime_length, length_value k prime prime_in (monic_poly k prime prime_monic)))

      pub prime_of_relation : IsPrimeAt k.ops g e prime
      prime_of_relation = record {
        over = prime_in;
        monic = prime_monic;
        multiples = λ u u_in u_poly. (
          λ d. (at_nilpotent u u_in).0
              (subst At (P.mul_comm _ _ ∙ sym (divisor_of_divides k prime u prime_in d))
              (at_maximal.ideal.scale_in (value k d.quotient) (value k prime) tt prime_at_e)),
          λ a. divides_of_divisor k prime u prime_in u_in u_poly
              (prime_divides (value k u) ((at_nilpotent u u_in).1 a)),
        );
      }
