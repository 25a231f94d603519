-- A prime of the order of a side's integral functions: as an invertible lattice, with its index, and the place that its
-- rows span.
use Rattle.std.proofs.Common.{◌≡◌, suc, ◌↔◌, refl, sym, ◌∙◌, subst}
use Rattle.ring_lemmas.specs.Ring.{Operations, pow}
use Rattle.ring_theory.specs.Subsets.{IsModule}
use Rattle.prime_theory.specs.Ideals.{SameSet, Inverse, Invertible}
use Rattle.prime_theory.specs.Places.{IsMaximalIdeal}
use Rattle.prime_theory.specs.Primes.{IsPrime}
use Rattle.prime_theory.proofs.Products.{product_monotone}
use Rattle.ff_fields.specs.Field.{CodeField}
use Rattle.ff_poly.specs.Value.{value}
use Rattle.ff_poly.specs.Polynomials.{x_poly}
use Rattle.function_field.specs.declared.side.Side.{Side}
use Rattle.function_field.specs.declared.side.Side.TheVariants.{Finite, Infinite}
use Rattle.function_field.specs.Functions.{of_poly, y_of}
use Rattle.function_field.specs.Indices.{HasIndex}
use Rattle.function_field.specs.Places.{IsPlace, IsIn, IsIntegralAt}
use Rattle.function_field.specs.PlaceLists.{listed_place}
use Rattle.function_field.specs.Values.{Functions, functions, setting, equation_of}
use Rattle.function_field.specs.Curves.{CurveValue, IsCurve}
use Rattle.function_field.proofs.ScalarRings.{scalars_subring}
use Rattle.places_theory.proofs.Sides.{place_is_maximal}
use Rattle.trace_theory.specs.Traces.{HasPolynomialCoordinates}
use Rattle.ideal_theory.proofs.IdealIndices.{IsInvertibleLattice}
use Rattle.infinite_theory.specs.Supported.{IsSupportedAt}
use Rattle.infinite_theory.proofs.SupportedLattices.{coordinates_ring, polynomial_coordinates}
use Rattle.ff_lattice.specs.Lattices.{LatticeValue, Contains}
use Rattle.ff_lattice.proofs.OneForm.{one_form}
use Rattle.ff_lattice.proofs.PivotIndices.{lattice_over, index_is}
use Rattle.value_theory.specs.IntegralLattices.{presentation, IsIntegralLattice}
use Rattle.value_theory.specs.Primes.{PrimeValue}
use Rattle.value_theory.proofs.Ideals.{closed_module, members_module}
use Rattle.value_theory.proofs.InfiniteLattices.{integral_supported}
use Rattle.place_lists_theory.specs.Lists.{listed_prime}
use Rattle.place_lists_theory.proofs.InfinitePrimes.{place_of_rows}
use Rattle.place_lists_theory.proofs.IntegralOrders.{infinite_maximal}
use Rattle.ff_ideal.proofs.LatticePrimes.{prime_is}
use Rattle.pair_theory.specs.Pairs.{IsSidePrime, IsTame}
use Rattle.pair_theory.proofs.Sides.{ExtendedOn, positive_on, span_on, finite_extended, order_on, order_is, whole_on, lattice_on, one_on}

-- maximal ideals with the same members, of rings with the same members
maximal_same : {A : Type 0} (R : Operations A) (O B M N : A → Type 0) → SameSet O B → SameSet M N
    → IsMaximalIdeal R O M → IsMaximalIdeal R B N
maximal_same R O B M N s t h = record {
  ideal = record {
    within = λ a m. (s a).0 (h.ideal.within a ((t a).1 m));
    zero_in = (t _).0 h.ideal.zero_in;
    sum_in = λ a b m n. (t _).0 (h.ideal.sum_in a b ((t a).1 m) ((t b).1 n));
    scale_in = λ r a r_in m. (t _).0 (h.ideal.scale_in r a ((s r).1 r_in) ((t a).1 m));
  };
  proper = λ m. h.proper ((t _).1 m);
  invert = λ u u_in out.
      let i = h.invert u ((s u).1 u_in) (λ m. out ((t u).0 m)) in
      record { inverse = i.inverse; inverse_in = (s _).0 i.inverse_in; is = (t _).0 i.is };
}

module _ (k : CodeField) (c : CurveValue) (curve : IsCurve k c) (s : Side) (o : LatticeValue)
    (whole : IsIntegralLattice k c s o) (P : PrimeValue) (prime : IsSidePrime k c s o P) where
  abbrev O : Functions k (presentation c s) → Type 0
  O = Contains k (presentation c s) o

  abbrev M : Functions k (presentation c s) → Type 0
  M = Contains k (presentation c s) P.rows

  pub side_prime : IsPrime (functions k (presentation c s)).ops (Contains k (presentation c s) o)
      (Contains k (presentation c s) P.rows)
  side_prime =
      prime_is k (presentation c s) (positive_on k c curve s) o P.rows (order_on k c curve s o whole)
      prime.prime.ideal.lattice prime.prime.maximal

  pub side_module : IsModule (functions k (presentation c s)).ops (Contains k (presentation c s) o)
      (Contains k (presentation c s) P.rows)
  side_module = closed_module k (presentation c s) o P.rows prime.prime.ideal.closed

  pub side_invertible : Invertible (functions k (presentation c s)).ops (Contains k (presentation c s) o)
      (Contains k (presentation c s) P.rows)
  side_invertible =
      product_monotone (functions k (presentation c s)) O (order_is k c curve s o whole).ring M
      (Contains k (presentation c s) P.inverse) M (Inverse (functions k (presentation c s)).ops O M) side_module
      (λ a m. m) (λ a m. (prime.prime.inverse a).0 m) (functions k (presentation c s)).𝟙
      ((prime.prime.product (functions k (presentation c s)).𝟙).1 (order_on k c curve s o whole).one_in)

  pub prime_invertible : IsInvertibleLattice (equation_of k (presentation c s)) (Contains k (presentation c s) o)
      (order_is k c curve s o whole) (Contains k (presentation c s) P.rows)
  prime_invertible = record {
    lattice = lattice_on k c curve s P.rows prime.prime.ideal.lattice;
    module_is = side_module;
    invertible = side_invertible;
  }

  pub prime_index : HasIndex (equation_of k (presentation c s)) (Contains k (presentation c s) P.rows)
      (Contains k (presentation c s) o) P.degree
  prime_index =
      (index_is k (presentation c s) (positive_on k c curve s) P.rows o
      (lattice_over k (presentation c s) P.rows prime.prime.ideal.lattice)
      (lattice_over k (presentation c s) o (order_on k c curve s o whole).lattice)
      prime.prime.ideal.within P.degree).1 prime.prime.degree

  -- what the rows span over the ring of the side
  pub place_extended : SameSet (IsIn (setting k c.fin) (listed_place k c s (listed_prime k c s P)))
      (ExtendedOn k c curve s (Contains k (presentation c s) P.rows))
  place_extended = span_on k c curve s P.rows prime.prime.ideal.lattice

module _ (k : CodeField) (c : CurveValue) (curve : IsCurve k c) (o : LatticeValue) (P : PrimeValue) where
  finite_place : IsIntegralLattice k c Finite o → IsSidePrime k c Finite o P
      → IsPlace (setting k c.fin) (listed_place k c Finite (listed_prime k c Finite P))
  finite_place whole prime =
      let e = place_extended k c curve Finite o whole P prime in
      let w = whole_on k c curve Finite o whole in
      let a = finite_extended k c curve (Contains k c.fin o) (members_module k c.fin o) in
      let b = finite_extended k c curve (Contains k c.fin P.rows) (members_module k c.fin P.rows) in
      (place_is_maximal (setting k c.fin) (scalars_subring (equation_of k c.fin))
      (listed_place k c Finite (listed_prime k c Finite P))).1
      (maximal_same (functions k c.fin).ops (Contains k c.fin o) (IsIntegralAt (setting k c.fin) Finite)
      (Contains k c.fin P.rows) (IsIn (setting k c.fin) (listed_place k c Finite (listed_prime k c Finite P)))
      (λ z. (λ m. (w z).0 ((a z).1 m), λ m. (a z).0 ((w z).1 m)))
      (λ z. (λ m. (e z).1 ((b z).1 m), λ m. (b z).0 ((e z).0 m))) prime.prime.maximal)

  pub place_is : (s : Side) → IsIntegralLattice k c s o → IsSidePrime k c s o P
      → IsPlace (setting k c.fin) (listed_place k c s (listed_prime k c s P))
  place_is Finite whole prime = finite_place whole prime
  place_is Infinite whole prime =
      (place_of_rows k c curve o (order_on k c curve Infinite o whole) P prime.prime (prime.infinite refl)
      (infinite_maximal k c curve o whole)).place

  -- over t it differs from k[t][Y] at t alone, since the order does
  infinite_tame : IsIntegralLattice k c Infinite o → IsSidePrime k c Infinite o P
      → IsSupportedAt (equation_of k c.inf) (x_poly k) (Contains k c.inf P.rows)
  infinite_tame whole prime =
      let t = integral_supported k c curve o whole in
      let R = functions k c.inf in
      let x = of_poly (equation_of k c.inf) (x_poly k) in
      let over = subst (λ w. Contains k c.inf P.rows (of_poly (equation_of k c.inf) (value k w))) (prime.infinite refl)
      prime.prime.over in
      record {
        exponent = suc t.exponent;
        has = λ i less.
            subst (Contains k c.inf P.rows)
            (R.mul_comm _ x ∙ sym (R.mul_assoc x (pow R.ops x t.exponent) (pow R.ops (y_of (equation_of k c.inf)) i)))
            (prime.prime.ideal.closed _ x (t.has i less) over);
        within = λ z m.
            subst (HasPolynomialCoordinates (equation_of k c.inf)) (sym (R.mul_assoc x (pow R.ops x t.exponent) z))
            ((coordinates_ring (equation_of k c.inf)).product_in x _
            (polynomial_coordinates (equation_of k c.inf) x (record { polynomial = x_poly k; value = refl }))
            (t.within z (prime.prime.ideal.within z m)));
      }

  pub prime_tame : (s : Side) → IsIntegralLattice k c s o → IsSidePrime k c s o P
      → IsTame k c s (Contains k (presentation c s) P.rows)
  prime_tame Finite whole prime = tt
  prime_tame Infinite whole prime = infinite_tame whole prime

-- different primes have different places
module _ (k : CodeField) (c : CurveValue) (curve : IsCurve k c) (s : Side) (o : LatticeValue)
    (whole : IsIntegralLattice k c s o) (P Q : PrimeValue) where
  pub same_rows : IsSidePrime k c s o P → IsSidePrime k c s o Q
      → ((z : Functions k c.fin) → IsIn (setting k c.fin) (listed_place k c s (listed_prime k c s P)) z
      ↔ IsIn (setting k c.fin) (listed_place k c s (listed_prime k c s Q)) z)
      → P.rows ≡ Q.rows
  same_rows p q e =
      let a = place_extended k c curve s o whole P p in
      let b = place_extended k c curve s o whole Q q in
      one_form k (presentation c s) P.rows Q.rows p.prime.ideal.lattice q.prime.ideal.lattice
      (one_on k c curve s (Contains k (presentation c s) P.rows) (Contains k (presentation c s) Q.rows)
      (lattice_on k c curve s P.rows p.prime.ideal.lattice) (prime_tame k c curve o P s whole p)
      (lattice_on k c curve s Q.rows q.prime.ideal.lattice) (prime_tame k c curve o Q s whole q)
      (λ z. (λ m. (b z).0 ((e z).0 ((a z).1 m)), λ m. (a z).0 ((e z).1 ((b z).1 m)))))
      (positive_on k c curve s)
