-- The denominator of fractions in lowest terms divides each other denominator of theirs.
use Rattle.std.proofs.Common.{◌≡◌, ◌≢◌, ℕ, ◌+◌, ◌<◌, ◌≤◌, List, [], ◌∷◌, length, map, refl, sym, ◌∙◌, ap, ap₂, arith, All}
use Rattle.std.proofs.lemmas.List.Elements.{All-head, All-tail}
use Rattle.ring_lemmas.specs.Ring.{CommRing}
use Rattle.ring_lemmas.proofs.Ring.{mul_zero}
use Rattle.ring_theory.proofs.Polynomials.{length_product}
use Rattle.linear_theory.specs.Euclidean.{IsDivisorIn}
use Rattle.ff_fields.specs.Field.{CodeField}
use Rattle.ff_fields.specs.Code.{code_ring, code_domain}
use Rattle.ff_fields.specs.Over.{IsOver}
use Rattle.ff_poly.specs.Words.{IsPoly, DividesList}
use Rattle.ff_poly.specs.Value.{value}
use Rattle.ff_poly.specs.Polynomials.{Polynomial, polynomials, codes_of, value_codes_of, value_nil, IsOver_codes_of, IsPoly_codes_of}
use Rattle.polynomial_theory.proofs.ListValues.{monic_poly}
use Rattle.polynomial_theory.proofs.Divisors.{divides_of_divisor}
use Rattle.polynomial_theory.proofs.ListValues.{length_value}
use Rattle.ff_factor.specs.LowestTerms.{AreSameFractions, IsInLowestTermsOf}
use Rattle.ff_factor.specs.Reductions.{values}
use Rattle.ff_factor.proofs.CommonFactors.{times, times_times, divides_members}
use Rattle.ff_factor.proofs.ValueLists.{same_values, same_products, values_codes, over_codes}
use Rattle.ff_factor.proofs.LowestTerms.{IsPrime, least_denominator}
use Rattle.ff_lattice.proofs.Divisors.{monic_value}

module _ (k : CodeField) where
  infixl 70 ◌⊗◌
  open polynomials k use {𝟘, ◌⊗◌}

  abbrev P : CommRing (Polynomial k)
  P = (polynomials k).ring

  -- all divided by a divisor
  divided : (a : Polynomial k) (vs : List (Polynomial k)) → All (IsDivisorIn P.ops a) vs
      → (xs : List (Polynomial k)) × (vs ≡ times P a xs)
  divided a [] h = ([], refl)
  divided a (v ∷ vs) h =
      let d = All-head (IsDivisorIn P.ops a) v vs h in
      let r = divided a vs (All-tail (IsDivisorIn P.ops a) v vs h) in
      (d.0 ∷ r.0, ap₂ ◌∷◌ d.1 r.1)

  module _ (num : List (List ℕ)) (den : List ℕ) (vs : List (List ℕ)) (d : List ℕ)
      (low : IsInLowestTermsOf k.ops num den vs d) where
    D_some : ¬ (value k d ≡ 𝟘)
    D_some = monic_value k d low.den_over (monic_poly k d low.monic) low.monic

    free : (p : List ℕ) → IsPrime k p → IsDivisorIn P.ops (value k p) (value k d)
        → ¬ All (IsDivisorIn P.ops (value k p)) (values k vs)
    free p g divides all = absurd (omega (arith, shorter, longer, l))
      where
        a : Polynomial k
        a = value k p

        b : Polynomial k
        b = divides.0

        d_is : value k d ≡ a ⊗ b
        d_is = divides.1

        r : (xs : List (Polynomial k)) × (values k vs ≡ times P a xs)
        r = divided a (values k vs) all

        b_some : ¬ (b ≡ 𝟘)
        b_some z = D_some (d_is ∙ ap (λ x. a ⊗ x) z ∙ mul_zero P a)

        a_some : ¬ (a ≡ 𝟘)
        a_some z = D_some (d_is ∙ ap (λ x. x ⊗ b) z ∙ P.mul_comm 𝟘 b ∙ mul_zero P b)

        codes_some : codes_of k b ≢ []
        codes_some z = b_some (sym (value_codes_of k b) ∙ ap (value k) z ∙ value_nil k)

        same : times P (value k (codes_of k b)) (values k vs) ≡ times P (value k d) (values k (map (codes_of k) r.0))
        same =
            ap₂ (times P) (value_codes_of k b) r.1
            ∙ times_times P b a r.0
            ∙ ap₂ (times P) (P.mul_comm b a ∙ sym d_is) (sym (values_codes k r.0))

        longer : length d ≤ length (codes_of k b)
        longer =
            low.least (map (codes_of k) r.0) (codes_of k b) (over_codes k r.0) (IsOver_codes_of k b)
            (IsPoly_codes_of k b)
            codes_some
            (same_products k (codes_of k b) d vs (map (codes_of k) r.0) (IsOver_codes_of k b) low.den_over low.num_over
            (over_codes k r.0) same)

        l : 2 ≤ length p
        l = g.irreducible.not_constant

        shorter : length (codes_of k b) < length d
        shorter =
            let s : length (value k d).0 ≡ length (a ⊗ b).0 = ap (λ x. length x.0) d_is in
            omega (
              arith,
              s,
              l,
              length_product (code_ring k) (code_domain k) a b a_some b_some,
              length_value k p g.over (monic_poly k p g.irreducible.monic),
              length_value k d low.den_over (monic_poly k d low.monic),
              length_value k (codes_of k b) (IsOver_codes_of k b) (IsPoly_codes_of k b),
              ap (λ (x : Polynomial k). length x.0) (value_codes_of k b),
            )

    pub multiple_of_lowest : (us : List (List ℕ)) (e : List ℕ) → All (IsOver k.ops) us → IsOver k.ops e → IsPoly e
        → e ≢ [] → AreSameFractions k.ops vs d us e → DividesList k.ops d e
    multiple_of_lowest us e us_in e_in e_poly some same =
        divides_of_divisor k d e low.den_over e_in e_poly
        (least_denominator k (length (value k d).0 + 1) (value k d) (omega arith) D_some (values k vs) free (value k e)
        (divides_members P (value k d) (value k e) (values k vs) (values k us)
        (same_values k e d vs us e_in low.den_over low.num_over us_in same)))
