-- Divisors in k[x], and divisors among lists of codes: what divides as a list divides in k[x] and the other way round,
-- a divisor isn't longer, and monic polynomials that divide each other are the same.
use Rattle.std.proofs.Common.{◌≡◌, ℕ, ◌-◌, ◌<◌, ◌≤◌, ◌⊎◌, inl, inr, List, [], ◌∷◌, length, refl, sym, ap, ap₂, ◌∙◌, subst, arith}
use Rattle.std.proofs.lemmas.List.{length_push}
use Rattle.ring_lemmas.specs.Ring.{CommRing}
use Rattle.ring_lemmas.specs.Lists.{coeff_of, mul_lists}
use Rattle.ring_lemmas.proofs.Ring.{zero_mul, mul_zero, eq_of_sub}
use Rattle.ring_lemmas.proofs.Solver.{ring, reads, from_one}
use Rattle.ring_lemmas.proofs.Polynomials.{series_add, series_neg, coeff_past}
use Rattle.ring_lemmas.proofs.Division.{length_bound}
use Rattle.ring_theory.proofs.Division.{short_multiple}
use Rattle.linear_theory.specs.Euclidean.{IsDivisorIn}
use Rattle.ff_fields.specs.Field.{CodeField}
use Rattle.ff_fields.specs.Code.{code_ring, code_domain, raw_ring}
use Rattle.ff_fields.specs.Over.{IsOver}
use Rattle.ff_poly.specs.Words.{IsPoly, IsMonicList, DividesList, product_of}
use Rattle.ff_poly.specs.PolyOver.{IsOver_product_of, IsPoly_poly_of}
use Rattle.ff_poly.specs.Value.{value, same_from_value, value_product}
use Rattle.ff_poly.specs.Polynomials.{Polynomial, polynomials, value_not_zero, codes_of, IsOver_codes_of, IsPoly_codes_of, value_codes_of}
use Rattle.polynomial_theory.proofs.Lengths.{product_longer}
use Rattle.polynomial_theory.proofs.ListValues.{length_value, monic_poly, monic_top}

module _ (k : CodeField) where
  infixl 65 ◌⊕◌
  infixl 70 ◌⊗◌
  infixr 80 ⊖◌
  open polynomials k use {𝟘, 𝟙, ◌⊕◌, ◌⊗◌, ⊖◌}

  abbrev P : CommRing (Polynomial k)
  P = (polynomials k).ring

  pub some_value : (d : List ℕ) → IsOver k.ops d → IsPoly d → 0 < length d → ¬ (value k d ≡ 𝟘)
  some_value d d_in d_poly some = value_not_zero k d d_in d_poly (λ e. let l = ap length e in absurd (omega arith))

  -- what divides as a list divides in k[x]
  pub divisor_of_divides : (b a : List ℕ) → IsOver k.ops b → (d : DividesList k.ops b a)
      → value k a ≡ value k b ⊗ value k d.quotient
  divisor_of_divides b a b_in d = ap (value k) d.product ∙ value_product k b d.quotient b_in d.quotient_in

  -- what divides in k[x] divides as a list
  pub divides_of_divisor : (b a : List ℕ) → IsOver k.ops b → IsOver k.ops a → IsPoly a
      → IsDivisorIn (polynomials k).ops (value k b) (value k a) → DividesList k.ops b a
  divides_of_divisor b a b_in a_in a_poly d = record {
    quotient = codes_of k d.0;
    quotient_in = IsOver_codes_of k d.0;
    quotient_poly = IsPoly_codes_of k d.0;
    product =
        same_from_value k a (product_of k.ops b (codes_of k d.0)) a_in
        (IsOver_product_of k b_in (IsOver_codes_of k d.0)) a_poly
        (IsPoly_poly_of (mul_lists (raw_ring k.ops) b (codes_of k d.0)))
        (d.1 ∙ sym (value_product k b (codes_of k d.0) b_in (IsOver_codes_of k d.0)
        ∙ ap ((polynomials k).◌⊗◌ (value k b)) (value_codes_of k d.0)));
  }

  pub divisor_refl : (a : Polynomial k) → IsDivisorIn P.ops a a
  divisor_refl a = (𝟙, sym (P.mul_one a))

  pub divisor_length : (a b : Polynomial k) → ¬ (b ≡ 𝟘) → IsDivisorIn P.ops a b → length a.0 ≤ length b.0
  divisor_length a b b_some d =
      let a_some : ¬ (a ≡ 𝟘) = λ z. b_some (d.1 ∙ ap (λ x. x ⊗ d.0) z ∙ zero_mul P d.0) in
      let c_some : ¬ (d.0 ≡ 𝟘) = λ z. b_some (d.1 ∙ ap (λ x. a ⊗ x) z ∙ mul_zero P a) in
      subst (λ w. length a.0 ≤ length w.0) (sym d.1) (product_longer k a d.0 a_some c_some)

  -- the difference of two monic lists of one length is shorter
  pub monic_gap : (p q : List ℕ) → IsOver k.ops p → IsOver k.ops q → IsMonicList p → IsMonicList q → length q ≡ length p
      → length (value k q ⊕ ⊖ value k p).0 ≤ length p - 1
  monic_gap p q p_in q_in p_monic q_monic same =
      length_bound (code_ring k) gap.0 (length p - 1) gap.1 (λ i le.
      series_add (code_ring k) (value k q) (⊖ value k p) i
      ∙ ap (λ w. (code_ring k).◌⊕◌ (coeff_of (code_ring k).ops (value k q).0 i) w)
      (series_neg (code_ring k) (value k p) i)
      ∙ go i (split i le))
    where
      gap : Polynomial k
      gap = value k q ⊕ ⊖ value k p

      p_long : 0 < length p
      p_long = let l = ap length p_monic.1 in let m = length_push p_monic.0 1 in omega arith

      p_size : length (value k p).0 ≡ length p
      p_size = length_value k p p_in (monic_poly k p p_monic)

      q_size : length (value k q).0 ≡ length q
      q_size = length_value k q q_in (monic_poly k q q_monic)

      split : (i : ℕ) → length p - 1 ≤ i → (i ≡ length p - 1) ⊎ (length p ≤ i)
      split i le = let l = p_long in grind arith

      go : (i : ℕ) → (i ≡ length p - 1) ⊎ (length p ≤ i)
          → (code_ring k).◌⊕◌ (coeff_of (code_ring k).ops (value k q).0 i)
          ((code_ring k).⊖◌ (coeff_of (code_ring k).ops (value k p).0 i)) ≡ (code_ring k).𝟘
      go i (inl e) =
          ap₂ (λ x y. (code_ring k).◌⊕◌ x ((code_ring k).⊖◌ y))
          (ap (coeff_of (code_ring k).ops (value k q).0)
          (let s = same in let t = q_size in let f : i ≡ length (value k q).0 - 1 = omega arith in f)
          ∙ monic_top k q q_in q_monic)
          (ap (coeff_of (code_ring k).ops (value k p).0)
          (let t = p_size in let f : i ≡ length (value k p).0 - 1 = omega arith in f) ∙ monic_top k p p_in p_monic)
          ∙ (code_ring k).add_neg (code_ring k).𝟙
      go i (inr l) =
          ap₂ (λ x y. (code_ring k).◌⊕◌ x ((code_ring k).⊖◌ y))
          (coeff_past (code_ring k) (value k q).0 i (let s = same in let t = q_size in omega arith))
          (coeff_past (code_ring k) (value k p).0 i (let t = p_size in omega arith))
          ∙ (code_ring k).add_neg (code_ring k).𝟘

  -- monic lists that divide each other are the same
  pub monic_unique : (p q : List ℕ) → IsOver k.ops p → IsOver k.ops q → IsMonicList p → IsMonicList q
      → IsDivisorIn P.ops (value k p) (value k q)
      → IsDivisorIn P.ops (value k q) (value k p) → p ≡ q
  monic_unique p q p_in q_in p_monic q_monic d e =
      same_from_value k p q p_in q_in (monic_poly k p p_monic) (monic_poly k q q_monic)
      (sym (eq_of_sub P (value k q) (value k p) none))
    where
      p_long : 0 < length p
      p_long = let l = ap length p_monic.1 in let m = length_push p_monic.0 1 in omega arith

      q_long : 0 < length q
      q_long = let l = ap length q_monic.1 in let m = length_push q_monic.0 1 in omega arith

      p_size : length (value k p).0 ≡ length p
      p_size = length_value k p p_in (monic_poly k p p_monic)

      q_size : length (value k q).0 ≡ length q
      q_size = length_value k q q_in (monic_poly k q q_monic)

      same : length q ≡ length p
      same =
          let a = divisor_length (value k p) (value k q) (some_value q q_in (monic_poly k q q_monic) q_long) d in
          let b = divisor_length (value k q) (value k p) (some_value p p_in (monic_poly k p p_monic) p_long) e in
          omega (arith, p_size, q_size)

      gap : Polynomial k
      gap = value k q ⊕ ⊖ value k p

      multiple : gap ≡ value k p ⊗ (d.0 ⊕ ⊖ 𝟙)
      multiple = from_one P 𝟙 d.1 (step (value k q) (value k p) d.0)
        where
          step : (q p c : Polynomial k) → q ⊕ ⊖ p ⊕ ⊖ (p ⊗ (c ⊕ ⊖ 𝟙)) ≡ 𝟙 ⊗ (q ⊕ ⊖ (p ⊗ c))
          step q p c = ring P (q ∷ p ∷ c ∷ []) λ x y. simp (reads, x, y 0, y 1, y 2) (x.equal _ _ refl)

      short : length gap.0 ≤ length p - 1
      short = monic_gap p q p_in q_in p_monic q_monic same

      none : gap ≡ 𝟘
      none =
          multiple
          ∙ ap (λ w. value k p ⊗ w)
          (short_multiple (code_ring k) (code_domain k) (value k p) (d.0 ⊕ ⊖ 𝟙)
          (subst (λ w. length w.0 < length (value k p).0) multiple
          (let s = short in let t = p_size in let l = p_long in omega arith)))
          ∙ mul_zero P (value k p)
