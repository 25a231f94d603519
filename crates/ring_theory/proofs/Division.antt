-- Division of polynomials with a rest, where the top of the divisor has an inverse, and that there is one way to
-- divide.
use Rattle.std.proofs.Common.{◌≡◌, ℕ, ◌-◌, ◌<◌, ◌≤◌, [], ◌∷◌, length, refl, sym, ap, ap₂, ◌∙◌, arith, subst}
use Rattle.ring_lemmas.specs.Ring.{TestedRing, IsDomain}
use Rattle.ring_lemmas.specs.Polynomials.{Pol, pol_ops}
use Rattle.ring_lemmas.proofs.Ring.{zero_add, mul_zero, mul_neg, neg_zero, cross, eq_of_sub}
use Rattle.ring_lemmas.proofs.Polynomials.{same_pol, series_add, series_neg, length_mul, coeff_past}
use Rattle.ring_lemmas.proofs.Division.{length_bound}
use Rattle.ring_theory.specs.Division.{IsDivision}
use Rattle.ring_theory.specs.PolynomialRing.{pol_ring}

module _ {A : Type 0} (r : TestedRing A) where
  abbrev s : TestedRing (Pol r)
  s = pol_ring r

  pub length_add : (a b : Pol r) (n : ℕ) → length a.0 ≤ n → length b.0 ≤ n → length (s.◌⊕◌ a b).0 ≤ n
  length_add a b n a_short b_short =
      length_bound r (s.◌⊕◌ a b).0 n (s.◌⊕◌ a b).1 (λ i le.
      series_add r a b i
      ∙ ap₂ r.◌⊕◌ (coeff_past r a.0 i (omega arith)) (coeff_past r b.0 i (omega arith))
      ∙ zero_add r.ring r.𝟘)

  pub length_neg : (a : Pol r) (n : ℕ) → length a.0 ≤ n → length (s.⊖◌ a).0 ≤ n
  length_neg a n a_short =
      length_bound r (s.⊖◌ a).0 n (s.⊖◌ a).1 (λ i le.
      series_neg r a i
      ∙ ap r.⊖◌ (coeff_past r a.0 i (omega arith))
      ∙ neg_zero r.ring)

  -- a multiple of b that is shorter than b is a multiple by zero
  pub short_multiple : IsDomain r.ops → (b q : Pol r) → length (s.◌⊗◌ b q).0 < length b.0 → q ≡ s.𝟘
  unfolding pol_ops
  short_multiple domain (bs, bt) ([], tt') short = same_pol r _ _ (λ n. refl)
  short_multiple domain ([], bt) ((y ∷ ys), yt) short = absurd (omega arith)
  short_multiple domain ((x ∷ xs), xt) ((y ∷ ys), yt) short = absurd
      (omega (arith, length_mul r domain x y xs ys xt yt))

  -- there is one way to divide
  pub one_way : IsDomain r.ops → (a b q q' rest rest' : Pol r) → IsDivision r a b q rest → IsDivision r a b q' rest'
      → (q ≡ q') × (rest ≡ rest')
  one_way domain a b q q' rest rest' d d' = (same_q, same_rest)
    where
      gap : Pol r
      gap = s.◌⊕◌ q (s.⊖◌ q')

      moved : s.◌⊗◌ b gap ≡ s.◌⊕◌ rest' (s.⊖◌ rest)
      moved =
          s.mul_add b q (s.⊖◌ q') ∙ ap (s.◌⊕◌ (s.◌⊗◌ b q)) (mul_neg s.ring b q')
          ∙ cross s.ring (s.◌⊗◌ b q) rest (s.◌⊗◌ b q') rest' (sym d.whole ∙ d'.whole)

      short : length (s.◌⊗◌ b gap).0 < length b.0
      short =
          let left = d'.shorter in
          let right = d.shorter in
          subst (λ w. length w.0 < length b.0) (sym moved)
          (omega (
            arith,
            length_add rest' (s.⊖◌ rest) (length b.0 - 1) (omega arith)
                (length_neg rest (length b.0 - 1) (omega arith)),
          ))

      no_gap : gap ≡ s.𝟘
      no_gap = short_multiple domain b gap short

      same_q : q ≡ q'
      same_q = eq_of_sub s.ring q q' no_gap

      same_rest : rest ≡ rest'
      same_rest = sym (eq_of_sub s.ring rest' rest (sym moved ∙ ap (s.◌⊗◌ b) no_gap ∙ mul_zero s.ring b))
