-- What finitely many functions span over the fractions of degree at most 0, and powers of 1/x take each function into,
-- n functions span.
use Rattle.std.proofs.Common.{◌≡◌, ◌↔◌, ℕ, List, length, map, sym, ◌∙◌, ap, ap₂, subst, arith}
use Rattle.std.proofs.lemmas.List.{length-map}
use Rattle.ring_lemmas.specs.Ring.{pow}
use Rattle.ring_theory.specs.Subsets.{Span}
use Rattle.ring_lemmas.proofs.Ring.{mul_zero}
use Rattle.ff_fields.specs.Field.{CodeField}
use Rattle.linear_theory.specs.Euclidean.{IsDivisorIn}
use Rattle.ff_poly.specs.Polynomials.{Polynomial, polynomials, x_poly, x_poly_not_zero}
use Rattle.function_field.specs.Functions.{Equation, FunctionOf, ring_of, of_poly, setting_of, degree_of_y, IsPolynomial, IsFiniteAtInfinity}
use Rattle.function_field.specs.Values.{PresValue, Functions, functions, setting, equation_of}
use Rattle.function_field.proofs.ScalarRings.{bottoms_not_zero}
use Rattle.places_theory.proofs.Transport.{back}
use Rattle.places_theory.proofs.YRoot.{poly_hom}
use Rattle.trace_theory.proofs.Determinants.{image_power}
use Rattle.trace_theory.proofs.FunctionPowers.{power_some}
use Rattle.lattice_theory.specs.Lattices.{IsLattice}
use Rattle.order_theory.specs.Orders.{IsPrimeTo}
use Rattle.order_theory.proofs.LocalOrders.{power_value}
use Rattle.infinite_theory.specs.Supported.{IsLocallyIn}
use Rattle.infinite_theory.specs.InfiniteMaps.{IsInfiniteMap}
use Rattle.infinite_theory.proofs.InfiniteTransport.{infinite_map}
use Rattle.places_theory.proofs.PresentationMap.{presentation_map}
use Rattle.infinite_theory.proofs.InfiniteOrders.{combination_local}
use Rattle.infinite_theory.proofs.PushedPlaces.{each}
use Rattle.infinite_theory.proofs.EachEquation.{each_equation}
use Rattle.space_theory.proofs.LatticeBases.{lattice_of_span, span_of_lattice, basis_of_lattice}
use Rattle.infinite_theory.proofs.InfiniteDecisions.{map_lift}

-- n functions with the same span at infinity
pub record FewGenerators {k : CodeField} (c : Equation k) (gs : List (FunctionOf c)) : Type 0 where
  pub functions : List (FunctionOf c)
  pub count : length functions ≡ degree_of_y c
  pub same : (z : FunctionOf c) → Span (ring_of c).ops (IsFiniteAtInfinity c) gs z
      ↔ Span (ring_of c).ops (IsFiniteAtInfinity c) functions z

module _ (k : CodeField) (p q : PresValue) (c : ℕ) (f : Functions k q → Functions k p)
    (g : IsInfiniteMap k p q c f) where
  -- powers of the variable go to powers of 1/x
  pub power_image : (j : ℕ) (z : Functions k q)
      → f ((functions k q).◌⊗◌ (pow (functions k q).ops (setting k q).x j) z)
      ≡ (functions k p).◌⊗◌ (pow (functions k p).ops (setting k p).one_over_x j) (f z)
  power_image j z =
      g.isomorphism.hom.mul _ z
      ∙ ap (λ w. (functions k p).◌⊗◌ w (f z))
      (image_power (functions k q) (functions k p) f g.isomorphism.hom j (setting k q).x
      ∙ ap (λ w. pow (functions k p).ops w j) g.variable)

module _ (k : CodeField) (p q : PresValue) (c : ℕ) (f : Functions k q → Functions k p) (g : IsInfiniteMap k p q c f)
    (same_degree : q.n ≡ p.n)
    (gs : List (Functions k p)) (m : Functions k p → ℕ)
    (taken : (w : Functions k p)
    → Span (functions k p).ops (IsFiniteAtInfinity (equation_of k p)) gs
    ((functions k p).◌⊗◌ (pow (functions k p).ops (setting k p).one_over_x (m w)) w)) where
  abbrev lift : Functions k p → Functions k q
  lift w = back (functions k q) (functions k p) f g.isomorphism w

  abbrev AtInfinity : List (Functions k p) → Functions k p → Type 0
  AtInfinity hs = Span (functions k p).ops (IsFiniteAtInfinity (equation_of k p)) hs

  -- the span over k[t]
  abbrev L : Functions k q → Type 0
  L = Span (functions k q).ops (IsPolynomial (equation_of k q)) (map lift gs)

  local_in : (z : Functions k q) → IsLocallyIn (equation_of k q) (x_poly k) L z ↔ AtInfinity gs (f z)
  local_in z =
      subst (λ hs. IsLocallyIn (equation_of k q) (x_poly k) L z ↔ AtInfinity hs (f z)) (map_lift k p q c f g gs)
      (g.spans (map lift gs) z)

  prime_some : (u : Functions k q) (h : IsPrimeTo (equation_of k q) (x_poly k) u) → ¬ (h.polynomial ≡ (polynomials k).𝟘)
  prime_some u h e =
      h.not_divided (subst (IsDivisorIn (polynomials k).ops (x_poly k)) (sym e)
      ((polynomials k).𝟘, sym (mul_zero (polynomials k).ring (x_poly k))))

  lattice : IsLattice (equation_of k q) L
  lattice = record {
    generators = map lift gs;
    spanned = λ z. (λ h. h, λ h. h);
    full = λ z.
        let j = m (f z) in
        let u = (local_in ((functions k q).◌⊗◌ (pow (functions k q).ops (setting k q).x j) z)).1
        (subst (AtInfinity gs) (sym (power_image k p q c f g j z)) (taken (f z))) in
        let a = u.factor_in.polynomial in
        record {
          factor = (polynomials k).◌⊗◌ a (pow (polynomials k).ops (x_poly k) j);
          some =
              bottoms_not_zero (equation_of k q) a (pow (polynomials k).ops (x_poly k) j)
              (prime_some u.factor u.factor_in)
              (power_some (equation_of k q) (x_poly k) (x_poly_not_zero k) j);
          multiple_in = subst L (whole a u.factor j z u.factor_in.value) u.multiple_in;
        };
  }
    where
      whole : (a : Polynomial k) (u : Functions k q) (j : ℕ) (z : Functions k q) → u ≡ of_poly (equation_of k q) a
          → (functions k q).◌⊗◌ u ((functions k q).◌⊗◌ (pow (functions k q).ops (setting k q).x j) z)
          ≡ (functions k q).◌⊗◌ (of_poly (equation_of k q)
          ((polynomials k).◌⊗◌ a (pow (polynomials k).ops (x_poly k) j))) z
      whole a u j z e =
          sym ((functions k q).mul_assoc u _ z)
          ∙ ap (λ w. (functions k q).◌⊗◌ w z)
          (ap₂ (functions k q).◌⊗◌ e (sym (power_value (equation_of k q) (x_poly k) j))
          ∙ sym ((poly_hom (equation_of k q)).mul a _))

  few : FewGenerators (equation_of k p) gs
  few =
      let b = basis_of_lattice (equation_of k q) L lattice in
      let spans : (z : Functions k q) → L z ↔ Span (functions k q).ops (IsPolynomial (equation_of k q)) b.0 z
      = λ z. (
        λ h. span_of_lattice (equation_of k q) b.0 z ((b.1.lattice z).0 h),
        λ h. (b.1.lattice z).1 (lattice_of_span (equation_of k q) b.0 z h),
      ) in
      record {
        functions = map f b.0;
        count = length-map b.0 f ∙ b.1.count ∙ (omega (arith, same_degree));
        same = each k p q c f g (λ w. AtInfinity gs w ↔ AtInfinity (map f b.0) w) (λ z.
            let s = combination_local k p q c f g L lattice b.0 spans z in
            (λ h. s.1 ((local_in z).1 h), λ h. (local_in z).0 (s.0 h)));
      }

pub few_generators : {k : CodeField} (c : Equation k) (gs : List (FunctionOf c)) (m : FunctionOf c → ℕ)
    → ((z : FunctionOf c) → Span (ring_of c).ops (IsFiniteAtInfinity c) gs
    ((ring_of c).◌⊗◌ (pow (ring_of c).ops (setting_of c).one_over_x (m z)) z)) → FewGenerators c gs
few_generators {k} c =
    each_equation k
    (λ c. (gs : List (FunctionOf c)) (m : FunctionOf c → ℕ)
    → ((z : FunctionOf c) → Span (ring_of c).ops (IsFiniteAtInfinity c) gs
    ((ring_of c).◌⊗◌ (pow (ring_of c).ops (setting_of c).one_over_x (m z)) z)) → FewGenerators c gs)
    (λ p q n some h. few k p q n (presentation_map k p q n h some) (infinite_map k p q n h some) h.degree) c
