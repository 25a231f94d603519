-- k[x] modulo a monic polynomial is a field exactly where the polynomial is irreducible.
use Rattle.std.proofs.Common.{◌≡◌, ◌≢◌, Result, Ok, Err, Bool, IfOk, IsTrue, ℕ, zero, suc, ◌-◌, ◌<◌, ◌≤◌, ◌↔◌, List, [], ◌∷◌, length, get_or, replicate, refl, sym, ap, ◌∙◌, subst, arith}
use Rattle.ring_lemmas.specs.Ring.{CommRing}
use Rattle.ring_lemmas.specs.Congruence.{IsCongruent}
use Rattle.ring_lemmas.proofs.Ring.{mul_zero, zero_add}
use Rattle.ring_lemmas.proofs.Solver.{ring, reads, from_one}
use Rattle.ring_theory.proofs.Polynomials.{length_product}
use Rattle.ring_lemmas.proofs.Congruence.{congruent_same, congruent_sym, congruent_trans, congruent_mul_left}
use Rattle.linear_theory.specs.Euclidean.{IsDivisorIn}
use Rattle.linear_theory.proofs.Euclid.{bezout}
use Rattle.ff_fields.specs.Field.{CodeField}
use Rattle.ff_fields.specs.Code.{code_ring, code_domain}
use Rattle.ff_fields.specs.Over.{IsOver}
use Rattle.ff_poly.specs.Words.{IsMonicList, IsIrreducibleList, DividesList}
use Rattle.ff_poly.specs.Value.{value, numbers_value}
use Rattle.ff_poly.specs.Polynomials.{Polynomial, polynomials, codes_of}
use Rattle.ff_falg.specs.Algebras.{IsVector, IsFieldAlgebra}
use Rattle.ff_factor.specs.Quotients.{IsModulus, product_modulo, quotient_algebra}
use Rattle.polynomial_theory.proofs.ListValues.{length_value, monic_poly}
use Rattle.ff_factor.specs.QuotientLaws.{modulus_length, short_eq, same_by, product_in, value_product_modulo, value_quotient_unit, quotient_laws, zero_class, stands_for}
use Rattle.polynomial_theory.proofs.Lengths.{zero_length}
use Rattle.polynomial_theory.proofs.Division.{euclidean}
use Rattle.polynomial_theory.proofs.Irreducible.{irreducible}
use Rattle.polynomial_theory.proofs.Divisors.{some_value, divisor_of_divides}

-- an answer to one question answers an equivalent one
pub answer_as : {E : Type 0} {P Q : Type 0} (r : Result Bool E) → IfOk r (λ t. IsTrue t ↔ P) → (P ↔ Q)
    → IfOk r (λ t. IsTrue t ↔ Q)
answer_as (Ok t) h e = (λ x. e.0 (h.0 x), λ q. h.1 (e.1 q))
answer_as (Err e) h pq = tt

module _ (k : CodeField) where
  infixl 65 ◌⊕◌
  infixl 70 ◌⊗◌
  infixr 80 ⊖◌
  open polynomials k use {𝟘, 𝟙, ◌⊕◌, ◌⊗◌, ⊖◌}

  abbrev S : CommRing (Polynomial k)
  S = (polynomials k).ring

  module _ (g : List ℕ) (h : IsModulus k.ops g) where
    abbrev G : Polynomial k
    G = value k g

    -- the modulus is congruent to 0
    pub modulus_null : (a : Polynomial k) → IsCongruent (polynomials k).ops G (G ⊗ a) 𝟘
    modulus_null a = record { times = a; differs = sym (zero_add S (G ⊗ a)) }

    modulus_some : ¬ (G ≡ 𝟘)
    modulus_some = some_value k g h.over (monic_poly k g h.monic) (let l = h.not_constant in omega arith)

    no_divisor : IsFieldAlgebra k.ops (quotient_algebra g) → (b : List ℕ) → IsOver k.ops b → IsMonicList b → 2 ≤ length b
        → length b < length g → ¬ DividesList k.ops b g
    no_divisor F b b_in b_monic b_long b_short d = none
      where
        B : Polynomial k
        B = value k b

        Q : Polynomial k
        Q = value k d.quotient

        whole : G ≡ B ⊗ Q
        whole = divisor_of_divides k b g b_in d

        b_some : ¬ (B ≡ 𝟘)
        b_some = some_value k b b_in (monic_poly k b b_monic) (omega arith)

        q_some : ¬ (Q ≡ 𝟘)
        q_some z = modulus_some (whole ∙ ap (λ w. B ⊗ w) z ∙ mul_zero S B)

        b_length : length B.0 ≡ length b
        b_length = length_value k b b_in (monic_poly k b b_monic)

        q_short : length Q.0 < length g
        q_short =
            let e : length G.0 ≡ length (B ⊗ Q).0 = ap (λ p. length p.0) whole in
            let l = b_length in
            let m = modulus_length k g h in
            omega (arith, length_product (code_ring k) (code_domain k) B Q b_some q_some)

        none : ⊥
        none =
            let s = stands_for k g h B in
            let law = quotient_laws k g h in
            let n = length g - 1 in
            let some : s.vector ≢ replicate n 0 = λ e.
            b_some (short_eq k g h B 𝟘 (omega (arith, b_length))
            (let z = zero_length k in omega (arith, h.not_constant))
            (congruent_trans S G B (value k s.vector) 𝟘 (congruent_sym S G (value k s.vector) B s.value_is)
            ((zero_class k g h s.vector s.vector_in).0 e))) in
            let i = F.inverse s.vector s.vector_in some in
            let one : IsCongruent (polynomials k).ops G (B ⊗ value k i.0) 𝟙
            = congruent_trans S G (B ⊗ value k i.0) (value k s.vector ⊗ value k i.0) 𝟙
            (congruent_trans S G _ (value k i.0 ⊗ B) _ (congruent_same S G _ _ (S.mul_comm B (value k i.0)))
            (congruent_trans S G _ (value k i.0 ⊗ value k s.vector) _
            (congruent_mul_left S G (value k i.0) B (value k s.vector)
            (congruent_sym S G (value k s.vector) B s.value_is))
            (congruent_same S G _ _ (S.mul_comm (value k i.0) (value k s.vector)))))
            (congruent_trans S G _ (value k (product_modulo k.ops g s.vector i.0)) 𝟙
            (congruent_sym S G _ _ (value_product_modulo k g h s.vector i.0 s.vector_in.over i.1))
            (congruent_same S G _ _ (ap (value k) i.2 ∙ value_quotient_unit k g h))) in
            q_some (short_eq k g h Q 𝟘 q_short (let z = zero_length k in omega (arith, h.not_constant))
            (congruent_trans S G Q (Q ⊗ (B ⊗ value k i.0)) 𝟘
            (congruent_trans S G Q (Q ⊗ 𝟙) _ (congruent_same S G _ _ (sym (S.mul_one Q)))
            (congruent_mul_left S G Q 𝟙 (B ⊗ value k i.0) (congruent_sym S G _ _ one)))
            (congruent_trans S G _ (G ⊗ value k i.0) 𝟘
            (congruent_same S G _ _ (moved Q B (value k i.0) ∙ ap (λ w. w ⊗ value k i.0) (sym whole)))
            (modulus_null (value k i.0)))))
          where
            moved : (q b c : Polynomial k) → q ⊗ (b ⊗ c) ≡ b ⊗ q ⊗ c
            moved q b c = ring S (q ∷ b ∷ c ∷ []) λ x y. simp (reads, x, y 0, y 1, y 2) (x.equal _ _ refl)

    pub irreducible_of_field : IsFieldAlgebra k.ops (quotient_algebra g) → IsIrreducibleList k.ops g
    irreducible_of_field F = record { monic = h.monic; not_constant = h.not_constant; no_divisor = no_divisor F }

    one_zero : (m : ℕ) → 0 < m → ◌≡◌ {A = List ℕ} (1 ∷ replicate (m - 1) 0) (replicate m 0) → ⊥
    one_zero zero some e = absurd (omega arith)
    one_zero (suc m) some e = let f : ◌≡◌ {A = ℕ} 1 0 = ap (λ w. get_or w 0 0) e in differ 1 0 refl refl f
      where
        differ : (x y : ℕ) → x ≡ 1 → y ≡ 0 → x ≡ y → ⊥
        differ x y a b c = omega arith

    pub field_of_irreducible : IsIrreducibleList k.ops g → IsFieldAlgebra k.ops (quotient_algebra g)
    field_of_irreducible i = record {
      one_not_zero = one_zero (length g - 1) (let l = h.not_constant in omega arith);
      inverse = inverse;
    }
      where
        i' : IsIrreducibleList k.ops (codes_of k G)
        i' = subst (IsIrreducibleList k.ops) (sym (numbers_value k g h.over (monic_poly k g h.monic))) i

        inverse : (a : List ℕ) → IsVector k.ops (length g - 1) a → a ≢ replicate (length g - 1) 0
            → (b : List ℕ) × IsVector k.ops (length g - 1) b × (product_modulo k.ops g a b ≡ (quotient_algebra g).unit)
        inverse a a_in ne =
            let no_divide : ¬ IsDivisorIn (polynomials k).ops G (value k a) = not_divisor a a_in ne in
            let z = bezout (euclidean k) G (irreducible k G i') (value k a) no_divide in
            let s = stands_for k g h z.left in (
              s.vector,
              s.vector_in,
              same_by k g h _ _ 𝟙 𝟙 (product_in k g h a s.vector a_in.over s.vector_in) (quotient_laws k g h).unit_in
                  (congruent_trans S G _ (value k a ⊗ value k s.vector) 𝟙
                  (value_product_modulo k g h a s.vector a_in.over s.vector_in)
                  (congruent_trans S G _ (value k a ⊗ z.left) 𝟙
                  (congruent_mul_left S G (value k a) (value k s.vector) z.left s.value_is)
                  (record { times = ⊖ z.right; differs = from_one S 𝟙 z.is (step z.left (value k a) z.right G) })))
                  (congruent_same S G _ _ (value_quotient_unit k g h)) refl,
            )
          where
            step : (l a r p : Polynomial k) → a ⊗ l ⊕ ⊖ (𝟙 ⊕ p ⊗ ⊖ r) ≡ 𝟙 ⊗ (l ⊗ a ⊕ r ⊗ p ⊕ ⊖ 𝟙)
            step l a r p = ring S (l ∷ a ∷ r ∷ p ∷ []) λ x y. simp (reads, x, y 0, y 1, y 2, y 3) (x.equal _ _ refl)

            not_divisor : (a : List ℕ) → IsVector k.ops (length g - 1) a → a ≢ replicate (length g - 1) 0
                → ¬ IsDivisorIn (polynomials k).ops G (value k a)
            not_divisor a a_in ne d =
                ne ((zero_class k g h a a_in).1
                (congruent_trans S G _ (G ⊗ d.0) 𝟘 (congruent_same S G _ _ d.1) (modulus_null d.0)))

    pub field_irreducible : IsFieldAlgebra k.ops (quotient_algebra g) ↔ IsIrreducibleList k.ops g
    field_irreducible = (irreducible_of_field, field_of_irreducible)
