-- Membership in O_inf, and in a span over the fractions of degree at most 0, is decided; so each infinite place has t.
use Rattle.std.proofs.Common.{◌≡◌, ℕ, ◌≤◌, ◌*◌, ◌-◌, List, [], ◌∷◌, map, refl, sym, ◌∙◌, ap, ap₂, subst}
use Rattle.ring_lemmas.specs.Ring.{pow}
use Rattle.ring_theory.specs.Subsets.{Span}
use Rattle.ring_lemmas.proofs.Ring.{mul_zero, mul_left_comm}
use Rattle.ring_theory.proofs.RowMaps.{hom_zero}
use Rattle.ff_fields.specs.Field.{CodeField}
use Rattle.ff_poly.specs.Polynomials.{polynomials, polynomials_domain, x_poly}
use Rattle.function_field.specs.declared.side.Side.TheVariants.{Finite, Infinite}
use Rattle.function_field.specs.Functions.{of_poly, IsPolynomial, IsFiniteAtInfinity}
use Rattle.function_field.specs.Discriminant.{discriminant}
use Rattle.function_field.specs.Values.{PresValue, Functions, functions, setting, equation_of}
use Rattle.function_field.specs.Places.{IsPlace, IsIn, IsIntegralAt}
use Rattle.function_field.specs.Infinity.{variable, IsInfinitePresentation}
use Rattle.function_field.proofs.OnSide.{of_poly_zero}
use Rattle.places_theory.proofs.AtInfinity.{at, at_hom, at_codes, powers_cancel}
use Rattle.places_theory.proofs.Transport.{back, f_back}
use Rattle.trace_theory.proofs.FunctionTraces.{polynomial_value}
use Rattle.trace_theory.proofs.InfiniteDiscriminant.{infinite_discriminant}
use Rattle.order_theory.proofs.InfinitePlaces.{infinite, infinite_over_t}
use Rattle.order_theory.proofs.IntegralLattice.{integral_lattice}
use Rattle.infinite_theory.specs.Supported.{IsLocallyIn}
use Rattle.infinite_theory.specs.InfiniteMaps.{IsInfiniteMap}
use Rattle.infinite_theory.proofs.InfiniteTransport.{x_irreducible}
use Rattle.infinite_theory.proofs.LocalSpans.{locally_spanned_decided, locally_in_decided}

module _ (k : CodeField) (p q : PresValue) (c : ℕ) (h : IsInfinitePresentation k p c q) (some : 1 ≤ p.n) where
  -- the discriminant of the infinite presentation is 0 only where that of the curve is
  pub infinite_some : ¬ (discriminant (equation_of k p) ≡ (polynomials k).𝟘)
      → ¬ (discriminant (equation_of k q) ≡ (polynomials k).𝟘)
  infinite_some d e =
      d
      (polynomial_value (equation_of k p) (discriminant (equation_of k p)) (polynomials k).𝟘 (polynomials k).𝟙
      (polynomials_domain k).one_not_zero
      (cancelled (of_poly (equation_of k p) (discriminant (equation_of k p)))
      (pow (functions k p).ops (variable k p Infinite) m) (pow (functions k p).ops (variable k p Finite) m)
      (powers_cancel k p m) null ∙ of_poly_zero (equation_of k p))
      ∙ mul_zero (polynomials k).ring (polynomials k).𝟙)
    where
      m : ℕ
      m = c * (p.n * (p.n - 1))

      cancelled : (a t x : Functions k p) → (functions k p).◌⊗◌ x t ≡ (functions k p).𝟙 → (functions k p).◌⊗◌ a t
          ≡ (functions k p).𝟘 → a ≡ (functions k p).𝟘
      cancelled a t x i z =
          sym ((functions k p).mul_one a) ∙ ap ((functions k p).◌⊗◌ a) (sym i) ∙ mul_left_comm (functions k p) a x t
          ∙ ap ((functions k p).◌⊗◌ x) z
          ∙ mul_zero (functions k p) x

      null : (functions k p).◌⊗◌ (of_poly (equation_of k p) (discriminant (equation_of k p)))
          (pow (functions k p).ops (variable k p Infinite) m) ≡ (functions k p).𝟘
      null =
          sym (infinite_discriminant k p q c h some)
          ∙ sym (at_codes k p (variable k p Infinite) (discriminant (equation_of k q)))
          ∙ ap (at k p (variable k p Infinite)) e
          ∙ hom_zero (polynomials k).ring (functions k p) (at k p (variable k p Infinite))
          (at_hom k p (variable k p Infinite))

module _ (k : CodeField) (p q : PresValue) (c : ℕ) (f : Functions k q → Functions k p)
    (g : IsInfiniteMap k p q c f) where
  abbrev lift : Functions k p → Functions k q
  lift w = back (functions k q) (functions k p) f g.isomorphism w

  f_lift : (w : Functions k p) → f (lift w) ≡ w
  f_lift w = f_back (functions k q) (functions k p) f g.isomorphism w

  pub map_lift : (ws : List (Functions k p)) → map f (map lift ws) ≡ ws
  map_lift [] = refl
  map_lift (w ∷ ws) = ap₂ (λ x xs. x ∷ xs) (f_lift w) (map_lift ws)

  -- membership in a span over the fractions of degree at most 0 is decided
  pub infinite_span_decided : (ws : List (Functions k p)) (w : Functions k p)
      → Dec (Span (functions k p).ops (IsFiniteAtInfinity (equation_of k p)) ws w)
  infinite_span_decided ws w =
      go (locally_spanned_decided (equation_of k q) (x_poly k) (x_irreducible k) (map lift ws) (lift w))
    where
      same : Span (functions k p).ops (IsFiniteAtInfinity (equation_of k p)) (map f (map lift ws)) (f (lift w))
          ≡ Span (functions k p).ops (IsFiniteAtInfinity (equation_of k p)) ws w
      same = ap₂ (Span (functions k p).ops (IsFiniteAtInfinity (equation_of k p))) (map_lift ws) (f_lift w)

      go : Dec (IsLocallyIn (equation_of k q) (x_poly k)
          (Span (functions k q).ops (IsPolynomial (equation_of k q)) (map lift ws)) (lift w))
          → Dec (Span (functions k p).ops (IsFiniteAtInfinity (equation_of k p)) ws w)
      go (yes m) = yes (subst (λ T. T) same ((g.spans (map lift ws) (lift w)).0 m))
      go (no n) = no (λ m. n ((g.spans (map lift ws) (lift w)).1 (subst (λ T. T) (sym same) m)))

  -- so each infinite place has t
  pub infinite_has_t : (ws : List (Functions k p)) → IsPlace (setting k p) (infinite (equation_of k p) ws)
      → IsIn (setting k p) (infinite (equation_of k p) ws) (setting k p).one_over_x
  infinite_has_t ws place =
      infinite_over_t (equation_of k p) ws place (infinite_span_decided ws (setting k p).one_over_x)

  -- membership in O_inf is decided
  pub infinite_integral_decided : ¬ (discriminant (equation_of k q) ≡ (polynomials k).𝟘) → (w : Functions k p)
      → Dec (IsIntegralAt (setting k p) Infinite w)
  infinite_integral_decided some w =
      go (locally_in_decided (equation_of k q) (x_poly k) (x_irreducible k) (IsIntegralAt (setting k q) Finite)
      (integral_lattice (equation_of k q) some) (lift w))
    where
      go : Dec (IsLocallyIn (equation_of k q) (x_poly k) (IsIntegralAt (setting k q) Finite) (lift w))
          → Dec (IsIntegralAt (setting k p) Infinite w)
      go (yes m) = yes (subst (IsIntegralAt (setting k p) Infinite) (f_lift w) ((g.integral (lift w)).0 m))
      go (no n) = no (λ m. n ((g.integral (lift w)).1 (subst (IsIntegralAt (setting k p) Infinite) (sym (f_lift w)) m)))
