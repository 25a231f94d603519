-- The functions that are integral over k[t] are those that are integral over the polynomials of the infinite
-- presentation.
use Rattle.std.proofs.Common.{◌↔◌, ℕ, ◌≤◌, sym, ◌∙◌, ap}
use Rattle.ring_theory.specs.Integral.{IsIntegral}
use Rattle.ff_fields.specs.Field.{CodeField}
use Rattle.function_field.specs.declared.side.Side.TheVariants.{Finite, Infinite}
use Rattle.function_field.specs.Functions.{of_poly, IsPolynomial}
use Rattle.function_field.specs.Values.{PresValue, Functions, functions, setting, equation_of}
use Rattle.function_field.specs.Places.{IsIntegralAt}
use Rattle.function_field.specs.Infinity.{variable, IsInfinitePresentation}
use Rattle.places_theory.specs.InfiniteSide.{InReverse}
use Rattle.places_theory.proofs.AtInfinity.{at_codes}
use Rattle.places_theory.proofs.PresentationMap.{presentation_map, map_poly}
use Rattle.places_theory.proofs.Presentations.{map_injective, presentation_isomorphism}
use Rattle.places_theory.proofs.Transport.{integral_iff}

module _ (k : CodeField) (p q : PresValue) (c : ℕ) (h : IsInfinitePresentation k p c q) (some : 1 ≤ p.n) where
  -- polynomials go to k[t], and nothing else does
  pub polynomial_iff : (z : Functions k q)
      → IsPolynomial (equation_of k q) z ↔ InReverse k p (presentation_map k p q c h some z)
  polynomial_iff z = (
    λ g. record {
      polynomial = g.polynomial;
      value = ap (presentation_map k p q c h some) g.value ∙ map_poly k p q c h some g.polynomial
          ∙ at_codes k p (variable k p Infinite) g.polynomial;
    },
    λ g. record {
      polynomial = g.polynomial;
      value =
          map_injective k p q c h some z (of_poly (equation_of k q) g.polynomial)
          (g.value ∙ sym (map_poly k p q c h some g.polynomial ∙ at_codes k p (variable k p Infinite) g.polynomial));
    },
  )

  pub integral_reverse : (z : Functions k q)
      → IsIntegralAt (setting k q) Finite z
      ↔ IsIntegral (functions k p).ops (InReverse k p) (presentation_map k p q c h some z)
  integral_reverse z =
      integral_iff (functions k q) (functions k p) (presentation_map k p q c h some)
      (presentation_isomorphism k p q c h some)
      (IsPolynomial (equation_of k q)) (InReverse k p) polynomial_iff z
