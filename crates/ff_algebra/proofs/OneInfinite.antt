-- There is one infinite presentation: polynomials that are the same at 1/x are the same.
use Rattle.std.proofs.Common.{◌≡◌, ℕ, zero, suc, ◌+◌, ◌<◌, List, [], ◌∷◌, ◌++◌, length, get_or, reverse, replicate, refl, sym, ap, ap₂, ◌∙◌, arith, All}
use Rattle.std.proofs.lemmas.List.{same_lists, length-append, length-replicate, length-reverse}
use Rattle.std.proofs.lemmas.List.Elements.{All-get_or}
use mathlib.Core.List.{reverse-reverse}
use Rattle.ring_lemmas.specs.Ring.{CommRing, pow}
use Rattle.ring_lemmas.specs.Rows.{row_scale}
use Rattle.ring_lemmas.proofs.Ring.{mul_zero, zero_add, one_mul}
use Rattle.ff_fields.specs.Field.{CodeField}
use Rattle.ff_fields.specs.Over.{IsOver, IsOver_append, IsOver_zeros}
use Rattle.ff_fields.specs.Numbers.{read, numbers_read, numbers_trim}
use Rattle.ff_poly.specs.Words.{IsPoly, poly_of}
use Rattle.ff_poly.specs.Value.{value}
use Rattle.ff_poly.specs.Polynomials.{Polynomial, polynomials, codes_of, x_poly, x_poly_not_zero}
use Rattle.function_field.specs.declared.side.Side.TheVariants.{Finite, Infinite}
use Rattle.function_field.specs.Functions.{Equation, function_same, of_poly}
use Rattle.function_field.specs.Values.{PresValue, IsPresOver, functions, equation_of}
use Rattle.function_field.specs.Curves.{CurveValue}
use Rattle.ff_algebra.specs.CurveTerms.{IsCurveOf}
use Rattle.function_field.specs.Infinity.{IsInfinitePresentation, constant, value_at, variable}
use Rattle.function_field.proofs.OnSide.{den_inverse, value_at_x}
use Rattle.function_field.proofs.Reversal.{value as value_of, value_reverse}
use Rattle.ff_algebra.proofs.CurveTerms.{read_any, get_or_poly_of}
use Rattle.ff_algebra.proofs.CurveFaults.{same_codes, same_pres, same_parts}
use Rattle.function_field.proofs.InfinitePresentations.{All_reverse, constant_zero, value_at_value}

-- polynomials are the same as functions only where they are the same
pub of_poly_one_way : {k : CodeField} (c : Equation k) (a b : Polynomial k) → of_poly c a ≡ of_poly c b → a ≡ b
unfolding row_scale
of_poly_one_way {k = k} c a b e =
    let same = ap (λ t. t.0) (function_same c _ _ e) in
    sym (one_mul (polynomials k).ring a) ∙ same ∙ one_mul (polynomials k).ring b

-- zeros on top
get_or_padded : (a : List ℕ) (m j : ℕ) → get_or (a ++ replicate m 0) j 0 ≡ get_or a j 0
get_or_padded [] zero j = refl
get_or_padded [] (suc m) zero = refl
get_or_padded [] (suc m) (suc j) = get_or_padded [] m j
get_or_padded (c ∷ a) m zero = refl
get_or_padded (c ∷ a) m (suc j) = get_or_padded a m j

module _ {E : Type 0} (F : CommRing E) (e : ℕ → E) (e_zero : e 0 ≡ F.𝟘) where
  open F use {𝟘, 𝟙, ◌⊕◌, ◌⊗◌}

  infixl 65 ◌⊕◌
  infixl 70 ◌⊗◌
  value_padded : (t : E) (a : List ℕ) (m : ℕ) → value_of F e t (a ++ replicate m 0) ≡ value_of F e t a
  unfolding value_of
  value_padded t [] zero = refl
  value_padded t [] (suc m) = ap₂ (λ u v. u ⊕ t ⊗ v) e_zero (value_padded t [] m) ∙ zero_add F (t ⊗ 𝟘) ∙ mul_zero F t
  value_padded t (c ∷ a) m = ap (λ v. e c ⊕ t ⊗ v) (value_padded t a m)

  cancel_left : (x t u v : E) → x ⊗ t ≡ 𝟙 → x ⊗ u ≡ x ⊗ v → u ≡ v
  cancel_left x t u v inverse same = sym (back u) ∙ ap (λ w. t ⊗ w) same ∙ back v
    where
      back : (u : E) → t ⊗ (x ⊗ u) ≡ u
      back u = sym (F.mul_assoc t x u) ∙ ap (λ w. w ⊗ u) (F.mul_comm t x ∙ inverse) ∙ one_mul F u

  -- lists of one length that are the same at t are, in reverse, the same at x
  reversed_same : (x t : E) (a b : List ℕ) → x ⊗ t ≡ 𝟙 → length a ≡ length b → value_of F e t a ≡ value_of F e t b
      → value_of F e x (reverse a) ≡ value_of F e x (reverse b)
  reversed_same x t a b inverse size same =
      cancel_left x t (value_of F e x (reverse a)) (value_of F e x (reverse b)) inverse
      (sym (value_reverse F e x t inverse a) ∙ ap₂ (λ n v. pow F.ops x n ⊗ v) size same
      ∙ value_reverse F e x t inverse b)

module _ (k : CodeField) (p : PresValue) where
  -- lists with one value as polynomials have the same codes
  same_value_codes : (a b : List ℕ) → IsOver k.ops a → IsOver k.ops b → value k a ≡ value k b → (j : ℕ)
      → get_or a j 0 ≡ get_or b j 0
  same_value_codes a b a_in b_in same j =
      sym (get_or_poly_of a j) ∙ ap (λ w. get_or w j 0) (sym (written a a_in) ∙ ap (codes_of k) same ∙ written b b_in)
      ∙ get_or_poly_of b j
    where
      written : (a : List ℕ) → IsOver k.ops a → codes_of k (value k a) ≡ poly_of a
      written a a_in = numbers_trim k (read k a) ∙ ap poly_of (numbers_read k a a_in)

  one_at_infinity : (a b : List ℕ) → IsOver k.ops a → IsOver k.ops b → IsPoly a → IsPoly b
      → value_at k p (variable k p Infinite) a ≡ value_at k p (variable k p Infinite) b → a ≡ b
  one_at_infinity a b a_in b_in a_poly b_poly same =
      same_codes a b a_poly.trimmed b_poly.trimmed
      (λ j. sym (get_or_padded a (length b) j) ∙ ap (λ w. get_or w j 0) padded ∙ get_or_padded b (length a) j)
    where
      t_value : (a : List ℕ) (m : ℕ) → value_of (functions k p) (constant k p) (variable k p Infinite)
          (a ++ replicate m 0) ≡ value_at k p (variable k p Infinite) a
      t_value a m = value_padded (functions k p) (constant k p) (constant_zero k p) (variable k p Infinite) a m
          ∙ sym (value_at_value k p (variable k p Infinite) a)

      size : (a b : List ℕ) → length (a ++ replicate (length b) 0) ≡ length a + length b
      size a b = length-append a (replicate (length b) 0) ∙ ap (λ n. length a + n) (length-replicate (length b) 0)

      sizes : length (a ++ replicate (length b) 0) ≡ length (b ++ replicate (length a) 0)
      sizes = let u = size a b in let v = size b a in omega (arith, u, v)

      reversed_in : (a : List ℕ) (m : ℕ) → IsOver k.ops a → IsOver k.ops (reverse (a ++ replicate m 0))
      reversed_in a m a_in = record {
        each = All_reverse k (λ c. c < k.size) (a ++ replicate m 0)
            (IsOver_append a_in (IsOver_zeros k m)).each;
      }

      x_value : (w : List ℕ) → value_of (functions k p) (constant k p) (variable k p Finite) w
          ≡ of_poly (equation_of k p) (value k w)
      x_value w = sym (value_at_value k p (variable k p Finite) w) ∙ value_at_x k p w

      at_x : value k (reverse (a ++ replicate (length b) 0)) ≡ value k (reverse (b ++ replicate (length a) 0))
      at_x =
          of_poly_one_way (equation_of k p) _ _
          (sym (x_value (reverse (a ++ replicate (length b) 0)))
          ∙ reversed_same (functions k p) (constant k p) (constant_zero k p) (variable k p Finite)
          (variable k p Infinite) (a ++ replicate (length b) 0) (b ++ replicate (length a) 0)
          (den_inverse (equation_of k p) (x_poly k) (x_poly_not_zero k)) sizes
          (t_value a (length b) ∙ same ∙ sym (t_value b (length a)))
          ∙ x_value (reverse (b ++ replicate (length a) 0)))

      backwards : reverse (a ++ replicate (length b) 0) ≡ reverse (b ++ replicate (length a) 0)
      backwards =
          same_lists _ _ (length-reverse (a ++ replicate (length b) 0) ∙ sizes
          ∙ sym (length-reverse (b ++ replicate (length a) 0)))
          (λ j d less.
          read_any (reverse (a ++ replicate (length b) 0)) j d 0 less
          ∙ same_value_codes (reverse (a ++ replicate (length b) 0)) (reverse (b ++ replicate (length a) 0))
          (reversed_in a (length b) a_in) (reversed_in b (length a) b_in) at_x j
          ∙ read_any (reverse (b ++ replicate (length a) 0)) j 0 d
          (let u = length-reverse (a ++ replicate (length b) 0) in let
          v = length-reverse (b ++ replicate (length a) 0) in omega (arith, u, v, sizes)))

      padded : a ++ replicate (length b) 0 ≡ b ++ replicate (length a) 0
      padded = sym (reverse-reverse (a ++ replicate (length b) 0)) ∙ ap reverse backwards
          ∙ reverse-reverse (b ++ replicate (length a) 0)

  pub one_infinite : (c : ℕ) (q r : PresValue) → IsInfinitePresentation k p c q → IsInfinitePresentation k p c r
      → IsPresOver k.ops q → IsPresOver k.ops r → All IsPoly q.coeffs → All IsPoly r.coeffs → q ≡ r
  one_infinite c q r h g q_in r_in q_poly r_poly =
      let degrees : q.n ≡ r.n = h.degree ∙ sym g.degree in
      same_pres q r degrees
      (same_lists q.coeffs r.coeffs (h.one_each ∙ degrees ∙ sym g.one_each) (λ i d less.
      let p_in : i < p.n = omega (arith, h.one_each, h.degree) in
      let r_less : i < length r.coeffs = omega (arith, g.one_each, g.degree, p_in) in
      read_any q.coeffs i d [] less
      ∙ one_at_infinity (get_or q.coeffs i []) (get_or r.coeffs i [])
      (All-get_or (IsOver k.ops) q.coeffs i [] less q_in.coeffs_over)
      (All-get_or (IsOver k.ops) r.coeffs i [] r_less r_in.coeffs_over)
      (All-get_or IsPoly q.coeffs i [] less q_poly) (All-get_or IsPoly r.coeffs i [] r_less r_poly)
      (h.coefficients i p_in ∙ sym (g.coefficients i p_in))
      ∙ read_any r.coeffs i [] d r_less))

-- terms have one curve
pub one_curve : (k : CodeField) (f : List (ℕ × ℕ × ℕ)) (c d : CurveValue) → IsCurveOf k f c → IsCurveOf k f d → c ≡ d
one_curve k f c d h g =
    let parts = same_parts k f c d h g in
    let moved : IsInfinitePresentation k c.fin c.c d.inf = rw (parts.0, parts.2) g.curve.infinite in
    let inf = one_infinite k c.fin c.c c.inf d.inf h.curve.infinite moved h.curve.inf_over g.curve.inf_over
    h.curve.inf_poly g.curve.inf_poly in
    λ i. record { fin = parts.0 i; inf = inf i; c = parts.2 i; disc = parts.1 i }
