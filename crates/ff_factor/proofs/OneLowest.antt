-- Fractions have one form in lowest terms: of two denominators of least degree the difference would be a smaller one.
use Rattle.std.proofs.Common.{◌≡◌, ◌≢◌, ℕ, ◌-◌, ◌<◌, ◌≤◌, List, [], length, map, All, sym, ap, ◌∙◌, subst, arith}
use Rattle.std.proofs.lemmas.List.{length-map, length_push}
use Rattle.ring_lemmas.specs.Ring.{CommRing}
use Rattle.ring_lemmas.proofs.Ring.{eq_of_sub}
use Rattle.ff_fields.specs.Field.{CodeField}
use Rattle.ff_fields.specs.Over.{IsOver}
use Rattle.ff_poly.specs.Words.{IsPoly, IsMonicList}
use Rattle.ff_poly.specs.Value.{value, same_from_value}
use Rattle.ff_poly.specs.Polynomials.{Polynomial, polynomials, numbers_discrete, codes_of, value_nil, value_codes_of, IsOver_codes_of, IsPoly_codes_of}
use Rattle.ff_factor.specs.LowestTerms.{IsInLowestTermsOf}
use Rattle.polynomial_theory.proofs.ListValues.{monic_poly}
use Rattle.ff_factor.specs.Reductions.{values}
use Rattle.ff_factor.proofs.CommonFactors.{times, times_cancel, cross_same, gaps, gaps_same}
use Rattle.ff_factor.proofs.ValueLists.{same_values, same_products, values_same, values_codes, over_codes}
use Rattle.ff_factor.proofs.LowestTerms.{cancel}
use Rattle.polynomial_theory.proofs.Divisors.{monic_gap}
use Rattle.ff_factor.proofs.PullSteps.{list_some}

monic_long : (d : List ℕ) → IsMonicList d → 0 < length d
monic_long d m = let l = ap length m.1 in let n = length_push m.0 1 in omega arith

module _ (k : CodeField) where
  infixl 65 ◌⊕◌
  infixl 70 ◌⊗◌
  infixr 80 ⊖◌
  open polynomials k use {𝟘, 𝟙, ◌⊕◌, ◌⊗◌, ⊖◌}

  abbrev P : CommRing (Polynomial k)
  P = (polynomials k).ring

  module _ (num : List (List ℕ)) (den : List ℕ) (num_in : All (IsOver k.ops) num) (den_in : IsOver k.ops den)
      (den_poly : IsPoly den) (den_some : den ≢ []) where
    -- two forms are the same fractions
    both_same : (vs : List (List ℕ)) (d : List ℕ) (ws : List (List ℕ)) (e : List ℕ)
        → IsInLowestTermsOf k.ops num den vs d → IsInLowestTermsOf k.ops num den ws e
        → times P (value k e) (values k vs) ≡ times P (value k d) (values k ws)
    both_same vs d ws e a b =
        cross_same P (value k den) (value k d) (value k e)
        (λ x y. cancel k (value k den) x y (list_some k den den_in den_poly den_some)) (values k num) (values k vs)
        (values k ws)
        (same_values k den d vs num den_in a.den_over a.num_over num_in a.same)
        (same_values k den e ws num den_in b.den_over b.num_over num_in b.same)

    not_longer : (vs : List (List ℕ)) (d : List ℕ) (ws : List (List ℕ)) (e : List ℕ)
        → IsInLowestTermsOf k.ops num den vs d → IsInLowestTermsOf k.ops num den ws e
        → length d ≤ length e
    not_longer vs d ws e a b =
        a.least ws e b.num_over b.den_over (monic_poly k e b.monic)
        (λ z. let l = monic_long e b.monic in let m = ap length z in absurd (omega arith))
        (same_products k e d vs ws b.den_over a.den_over a.num_over b.num_over (both_same vs d ws e a b))

    one_denominator : (vs : List (List ℕ)) (d : List ℕ) (ws : List (List ℕ)) (e : List ℕ)
        → IsInLowestTermsOf k.ops num den vs d → IsInLowestTermsOf k.ops num den ws e
        → d ≡ e
    one_denominator vs d ws e a b = go (numbers_discrete d e)
      where
        gap : Polynomial k
        gap = value k d ⊕ ⊖ value k e

        rows : List (Polynomial k)
        rows = gaps P (values k vs) (values k ws)

        size : length d ≡ length e
        size = let l = not_longer vs d ws e a b in let m = not_longer ws e vs d b a in omega arith

        short : length (codes_of k gap) ≤ length e - 1
        short = subst (λ n. n ≤ length e - 1) (sym (length-map gap.0 (λ x. x.0)))
            (monic_gap k e d b.den_over a.den_over b.monic a.monic size)

        same : times P (value k (codes_of k gap)) (values k vs) ≡ times P (value k d) (values k (map (codes_of k) rows))
        same =
            ap (λ x. times P x (values k vs)) (value_codes_of k gap)
            ∙ gaps_same P (value k d) (value k e) (values k vs) (values k ws) (both_same vs d ws e a b)
            ∙ ap (times P (value k d)) (sym (values_codes k rows))

        least : codes_of k gap ≢ [] → length d ≤ length (codes_of k gap)
        least some =
            a.least (map (codes_of k) rows) (codes_of k gap) (over_codes k rows) (IsOver_codes_of k gap)
            (IsPoly_codes_of k gap) some
            (same_products k (codes_of k gap) d vs (map (codes_of k) rows) (IsOver_codes_of k gap) a.den_over a.num_over
            (over_codes k rows) same)

        none : codes_of k gap ≡ [] → d ≡ e
        none z =
            same_from_value k d e a.den_over b.den_over (monic_poly k d a.monic) (monic_poly k e b.monic)
            (eq_of_sub P (value k d) (value k e) (sym (value_codes_of k gap) ∙ ap (value k) z ∙ value_nil k))

        go : Dec (d ≡ e) → d ≡ e
        go (yes s) = s
        go (no n) = let l = least (λ z. n (none z)) in let m = short in let s = size in let o = monic_long d a.monic in
            absurd (omega arith)

    pub one_form : (vs : List (List ℕ)) (d : List ℕ) (ws : List (List ℕ)) (e : List ℕ)
        → IsInLowestTermsOf k.ops num den vs d → IsInLowestTermsOf k.ops num den ws e
        → (vs ≡ ws) × (d ≡ e)
    one_form vs d ws e a b =
        let s = one_denominator vs d ws e a b in
        let same : times P (value k d) (values k vs) ≡ times P (value k d) (values k ws)
        = ap (λ x. times P (value k x) (values k vs)) s ∙ both_same vs d ws e a b in (
          values_same k vs ws a.num_over b.num_over a.num_poly b.num_poly
              (times_cancel P (value k d)
              (λ x y. cancel k (value k d) x y
              (list_some k d a.den_over (monic_poly k d a.monic)
              (λ z. let l = monic_long d a.monic in let m = ap length z in absurd (omega arith))))
              (values k vs) (values k ws) same),
          s,
        )
