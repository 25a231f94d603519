-- The infinite presentation of a curve, and the lattice of the integral functions of the infinite side: it has what
-- O_inf has with powers of t as denominators, and differs from k[t][Y] at t alone.
use Rattle.std.proofs.Common.{◌≡◌, ℕ, ◌≤◌, ◌↔◌, List, [], ◌∷◌, map, replicate, refl, sym, ap, ap₂, ◌∙◌, subst, arith, All}
use Rattle.std.proofs.lemmas.List.Elements.{All-head, All-tail}
use Rattle.ring_theory.specs.Subsets.{Span}
use Rattle.ff_fields.specs.Field.{CodeField}
use Rattle.ff_fields.specs.Over.{IsOver}
use Rattle.ff_poly.specs.Words.{IsPoly}
use Rattle.ff_poly.specs.Popov.{IsRow}
use Rattle.ff_poly.specs.Polynomials.{polynomials, x_poly, value_not_zero}
use Rattle.function_field.specs.declared.side.Side.TheVariants.{Infinite}
use Rattle.function_field.specs.Functions.{IsPolynomial}
use Rattle.function_field.specs.Places.{IsIntegralAt}
use Rattle.function_field.specs.Discriminant.{discriminant}
use Rattle.function_field.specs.Values.{Functions, functions, function_of, equation_of, setting}
use Rattle.function_field.specs.Infinity.{function_on, StandsFor, IsPolynomialOn}
use Rattle.function_field.specs.Curves.{CurveValue, IsCurve}
use Rattle.function_field.proofs.OnSide.{function_on_stands, stands_once}
use Rattle.function_field.proofs.SameValues.{monic_some}
use Rattle.places_theory.specs.InfiniteSide.{InReverse}
use Rattle.places_theory.proofs.PresentationMap.{presentation_map}
use Rattle.places_theory.proofs.Transport.{span_iff}
use Rattle.infinite_theory.specs.Supported.{IsSupportedAt, HasPowerDenominator}
use Rattle.infinite_theory.specs.InfiniteMaps.{IsInfiniteMap}
use Rattle.infinite_theory.proofs.InfiniteTransport.{x_irreducible, infinite_map}
use Rattle.infinite_theory.proofs.InfiniteDecisions.{infinite_some}
use Rattle.infinite_theory.proofs.InfiniteLaws.{taken_members}
use Rattle.infinite_theory.proofs.LocalIntegral.{taken_is_supported}
use Rattle.ff_lattice.specs.Lattices.{LatticeValue, IsLatticeValue, Contains, elems_over, row_elems}
use Rattle.ff_lattice.proofs.Normal.{monic_poly}
use Rattle.value_theory.specs.IntegralLattices.{IsOverPowerOfT, IsIntegralLattice}
use Rattle.value_theory.proofs.PowerDenominators.{power_codes, over_power, element, element_in, element_is}

power_poly : (e : ℕ) → IsPoly (power_codes e)
power_poly e = monic_poly (power_codes e) (replicate e 0, refl)

power_some : (e : ℕ) → ¬ (power_codes e ≡ [])
power_some e = monic_some (power_codes e) (replicate e 0, refl)

module _ (k : CodeField) (c : CurveValue) (curve : IsCurve k c) where
  pub some : 1 ≤ c.fin.n
  some = let two = curve.at_least_two in omega (arith, two)

  pub some_inf : 1 ≤ c.inf.n
  some_inf = let two = curve.at_least_two in let same : c.inf.n ≡ c.fin.n = curve.infinite.degree in
      omega (arith, two, same)

  -- what the elements of the infinite presentation stand for
  abbrev pub image_of : Functions k c.inf → Functions k c.fin
  image_of = presentation_map k c.fin c.inf c.c curve.infinite some

  abbrev f : Functions k c.inf → Functions k c.fin
  f = presentation_map k c.fin c.inf c.c curve.infinite some

  g : IsInfiniteMap k c.fin c.inf c.c (presentation_map k c.fin c.inf c.c curve.infinite some)
  g = infinite_map k c.fin c.inf c.c curve.infinite some

  -- the discriminants aren't 0
  pub finite_disc : ¬ (discriminant (equation_of k c.fin) ≡ (polynomials k).𝟘)
  finite_disc e = value_not_zero k c.disc curve.disc.over curve.disc.poly curve.separable (curve.disc.value ∙ e)

  pub infinite_disc : ¬ (discriminant (equation_of k c.inf) ≡ (polynomials k).𝟘)
  infinite_disc = infinite_some k c.fin c.inf c.c curve.infinite some finite_disc

  -- the rows go to the functions that they stand for
  images : (rows : List (List (List ℕ))) (den : List ℕ) → All (IsRow k.ops c.inf.n) rows → IsOver k.ops den → IsPoly den
      → ¬ (den ≡ [])
      → map f (map (function_of k c.inf) (elems_over rows den)) ≡ map (function_on k c.fin c.c Infinite)
      (elems_over rows den)
  images [] den rows_in den_in den_poly n = refl
  images (v ∷ rows) den rows_in den_in den_poly n =
      let r = All-head (IsRow k.ops c.inf.n) v rows rows_in in
      ap₂ ◌∷◌
      (g.elements (record { num = v; den = den }) (record { one_each = r.size; num_over = r.over; den_over = den_in })
      den_poly n)
      (images rows den (All-tail (IsRow k.ops c.inf.n) v rows rows_in) den_in den_poly n)

  pub rows_are : (l : LatticeValue) → IsLatticeValue k.ops c.inf.n l
      → map f (map (function_of k c.inf) (row_elems l)) ≡ map (function_on k c.fin c.c Infinite) (row_elems l)
  rows_are l form = images l.rows l.den form.rows_in form.den_in form.den_poly (monic_some l.den form.monic)

  -- powers of t as denominators, in the words of either presentation
  pub power_to : (z : Functions k c.inf) → HasPowerDenominator (equation_of k c.inf) (x_poly k) z
      → IsOverPowerOfT k c (f z)
  power_to z h =
      let w = element k c.inf z h in
      let w_in = element_in k c.inf z h some_inf in
      record {
        element = w;
        in_range = w_in;
        exponent = h.exponent;
        power = refl;
        stands =
            subst (StandsFor k c.fin c.c Infinite w)
            (sym (g.elements w w_in (power_poly h.exponent) (power_some h.exponent)) ∙ ap f (element_is k c.inf z h))
            (function_on_stands k c.fin c.c Infinite w w_in.den_over (power_poly h.exponent) (power_some h.exponent));
      }

  pub power_from : (z : Functions k c.inf) → IsOverPowerOfT k c (f z)
      → HasPowerDenominator (equation_of k c.inf) (x_poly k) z
  power_from z h =
      let w = h.element in
      let poly = subst IsPoly (sym h.power) (power_poly h.exponent) in
      let not_null : ¬ (w.den ≡ []) = λ e. power_some h.exponent (sym h.power ∙ e) in
      subst (HasPowerDenominator (equation_of k c.inf) (x_poly k))
      (sym (g.isomorphism.injective z (function_of k c.inf w)
      (stands_once k c.fin c.c Infinite w (f z) h.in_range.den_over poly not_null h.stands
      ∙ sym (g.elements w h.in_range poly not_null))))
      (over_power k c.inf w h.exponent h.power)

  module _ (l : LatticeValue) (h : IsIntegralLattice k c Infinite l) where
    -- what O_inf has with powers of t as denominators
    pub integral_members : (z : Functions k c.inf)
        → Contains k c.inf l z
        ↔ (HasPowerDenominator (equation_of k c.inf) (x_poly k) z × IsIntegralAt (setting k c.fin) Infinite (f z))
    integral_members z =
        let rows = map (function_of k c.inf) (row_elems l) in
        let s =
        span_iff (functions k c.inf) (functions k c.fin) f g.isomorphism (IsPolynomial (equation_of k c.inf))
        (InReverse k c.fin)
        g.polynomials rows z in
        let w =
        subst
        (λ hs. Span (functions k c.fin).ops (IsPolynomialOn k c.fin Infinite) hs (f z)
        ↔ (IsIntegralAt (setting k c.fin) Infinite (f z) × IsOverPowerOfT k c (f z)))
        (sym (rows_are l h.form)) (h.whole (f z)) in (
          λ m. let t = w.0 (s.0 m) in (power_from z t.1, t.0),
          λ m. s.1 (w.1 (m.1, power_to z m.0)),
        )

    -- it differs from k[t][Y] at t alone
    pub integral_supported : IsSupportedAt (equation_of k c.inf) (x_poly k) (Contains k c.inf l)
    integral_supported =
        let t = taken_is_supported (equation_of k c.inf) (x_poly k) (x_irreducible k) infinite_disc in
        let same = taken_members k c.fin c.inf c.c f g infinite_disc in
        record {
          exponent = t.exponent;
          has = λ i less. (integral_members _).1 ((same _).0 (t.has i less));
          within = λ z m. t.within z ((same z).1 ((integral_members z).0 m));
        }
