-- The combinations of a lattice over k[t] are a lattice at infinity, and so is O_inf where the discriminant isn't 0.
use Rattle.std.proofs.Common.{◌≡◌, ◌↔◌, ℕ, List, map, refl, ◌∙◌, ap, subst}
use Rattle.ring_lemmas.specs.Ring.{pow}
use Rattle.ring_theory.specs.Subsets.{Span}
use Rattle.ring_lemmas.proofs.Ring.{mul_left_comm}
use Rattle.prime_theory.specs.Ideals.{SameSet}
use Rattle.linear_theory.proofs.Euclid.{order_at}
use Rattle.ff_fields.specs.Field.{CodeField}
use Rattle.ff_poly.specs.Polynomials.{polynomials, x_poly}
use Rattle.function_field.specs.declared.side.Side.TheVariants.{Infinite}
use Rattle.function_field.specs.Discriminant.{discriminant}
use Rattle.function_field.specs.Functions.{Equation, FunctionOf, ring_of, of_poly, setting_of, IsPolynomial, IsFiniteAtInfinity}
use Rattle.function_field.specs.Places.{IsIntegralAt}
use Rattle.function_field.specs.Values.{PresValue, Functions, functions, setting, equation_of}
use Rattle.places_theory.proofs.PresentationMap.{presentation_map}
use Rattle.places_theory.proofs.YRoot.{poly_hom}
use Rattle.polynomial_theory.proofs.Division.{euclidean}
use Rattle.polynomial_theory.proofs.Irreducible.{irreducible}
use Rattle.lattice_theory.specs.Lattices.{IsLattice}
use Rattle.order_theory.proofs.LocalOrders.{power_value}
use Rattle.infinite_theory.specs.Supported.{IsLocallyIn}
use Rattle.infinite_theory.specs.InfiniteMaps.{IsInfiniteMap}
use Rattle.infinite_theory.proofs.InfiniteTransport.{x_irreducible, infinite_map}
use Rattle.infinite_theory.proofs.InfiniteDecisions.{infinite_some}
use Rattle.infinite_theory.proofs.InfiniteLaws.{taken_spans}
use Rattle.infinite_theory.proofs.InfiniteOrders.{combination_local}
use Rattle.infinite_theory.proofs.LocalIntegral.{taken_order}
use Rattle.infinite_theory.proofs.PushedPlaces.{each}
use Rattle.infinite_theory.proofs.EachEquation.{each_equation}
use Rattle.space_theory.specs.Spaces.{IsLatticeAtInfinity}
use Rattle.space_theory.proofs.FewGenerators.{power_image}

module _ (k : CodeField) (p q : PresValue) (c : ℕ) (f : Functions k q → Functions k p)
    (g : IsInfiniteMap k p q c f) where
  -- a power of the variable takes each function into a lattice, locally
  locally_taken : (L : Functions k q → Type 0) → IsLattice (equation_of k q) L → (z : Functions k q)
      → (j : ℕ) × IsLocallyIn (equation_of k q) (x_poly k) L
      ((functions k q).◌⊗◌ (pow (functions k q).ops (setting k q).x j) z)
  locally_taken L 𝓛 z =
      let a = 𝓛.full z in
      let o = order_at (euclidean k) (x_poly k) (irreducible k (x_poly k) (x_irreducible k)) a.factor a.some in (
        o.order,
        record {
          factor = of_poly (equation_of k q) o.cofactor;
          factor_in = record { polynomial = o.cofactor; not_divided = o.cofactor_free; value = refl };
          multiple_in =
              subst L
              (ap (λ w. (functions k q).◌⊗◌ w z)
              (ap (of_poly (equation_of k q)) o.is ∙ (poly_hom (equation_of k q)).mul _ o.cofactor
              ∙ ap (λ w. (functions k q).◌⊗◌ w (of_poly (equation_of k q) o.cofactor))
              (power_value (equation_of k q) (x_poly k) o.order))
              ∙ (functions k q).mul_assoc _ _ z ∙ mul_left_comm (functions k q) _ _ z) a.multiple_in;
        },
      )

  pub taken_at : (L : Functions k q → Type 0) → IsLattice (equation_of k q) L → (gs : List (Functions k q))
      → SameSet L (Span (functions k q).ops (IsPolynomial (equation_of k q)) gs) → (w : Functions k p)
      → (j : ℕ)
      × Span (functions k p).ops (IsFiniteAtInfinity (equation_of k p)) (map f gs)
      ((functions k p).◌⊗◌ (pow (functions k p).ops (setting k p).one_over_x j) w)
  taken_at L 𝓛 gs spanned =
      each k p q c f g
      (λ w. (j : ℕ)
      × Span (functions k p).ops (IsFiniteAtInfinity (equation_of k p)) (map f gs)
      ((functions k p).◌⊗◌ (pow (functions k p).ops (setting k p).one_over_x j) w))
      (λ z.
      let t = locally_taken L 𝓛 z in (
        t.0,
        subst (Span (functions k p).ops (IsFiniteAtInfinity (equation_of k p)) (map f gs))
            (power_image k p q c f g t.0 z)
            ((combination_local k p q c f g L 𝓛 gs spanned _).1 t.1),
      ))

  -- the combinations of a lattice over k[t]
  pub combinations_lattice : (L : Functions k q → Type 0) → IsLattice (equation_of k q) L → (gs : List (Functions k q))
      → SameSet L (Span (functions k q).ops (IsPolynomial (equation_of k q)) gs)
      → IsLatticeAtInfinity (equation_of k p)
      (Span (functions k p).ops (IsFiniteAtInfinity (equation_of k p)) (map f gs))
  combinations_lattice L 𝓛 gs spanned = record {
    generators = map f gs;
    spanned = λ z. (λ h. h, λ h. h);
    exponent = λ w. (taken_at L 𝓛 gs spanned w).0;
    taken = λ w. (taken_at L 𝓛 gs spanned w).1;
  }

-- functions that span O_inf, with powers of 1/x that take each function into their span
abbrev IntegralSpan : {k : CodeField} → Equation k → Type 0
IntegralSpan c = (gs : List (FunctionOf c))
    × SameSet (IsIntegralAt (setting_of c) Infinite) (Span (ring_of c).ops (IsFiniteAtInfinity c) gs)
    × ((z : FunctionOf c) → (j : ℕ)
    × Span (ring_of c).ops (IsFiniteAtInfinity c) gs
    ((ring_of c).◌⊗◌ (pow (ring_of c).ops (setting_of c).one_over_x j) z))

integral_span : {k : CodeField} (c : Equation k) → ¬ (discriminant c ≡ (polynomials k).𝟘) → IntegralSpan c
integral_span {k} c =
    each_equation k (λ c. ¬ (discriminant c ≡ (polynomials k).𝟘) → IntegralSpan c)
    (λ p q n some h d.
    let f = presentation_map k p q n h some in
    let g = infinite_map k p q n h some in
    let r = infinite_some k p q n h some d in
    let o = (taken_order (equation_of k q) (x_poly k) (x_irreducible k) r).lattice in (
      map f o.generators,
      each k p q n f g
          (λ w. IsIntegralAt (setting k p) Infinite w
          ↔ Span (functions k p).ops (IsFiniteAtInfinity (equation_of k p)) (map f o.generators) w)
          (taken_spans k p q n f g r o.generators o.spanned),
      taken_at k p q n f g _ o o.generators o.spanned,
    )) c

-- O_inf is a lattice at infinity
pub integral_at_infinity : {k : CodeField} (c : Equation k) → ¬ (discriminant c ≡ (polynomials k).𝟘)
    → IsLatticeAtInfinity c (IsIntegralAt (setting_of c) Infinite)
integral_at_infinity c some =
    let s = integral_span c some in
    record {
      generators = s.0;
      spanned = s.1;
      exponent = λ z. (s.2 z).0;
      taken = λ z. (s.1 _).1 (s.2 z).1;
    }
