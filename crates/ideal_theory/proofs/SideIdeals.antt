-- The divisors and the ideals of functions, on each side.
use Rattle.std.proofs.Common.{◌≡◌, ◌↔◌, inr, [], ◌∷◌, map, pos, All}
use Rattle.std.specs.Prelude.{ℤ, ◌+ℤ◌, ◌*ℤ◌}
use Rattle.std.proofs.lemmas.List.Elements.{All-head, All-tail}
use Rattle.prime_theory.specs.Ideals.{Multiple, SameSet}
use Rattle.prime_theory.proofs.Lists.{both}
use Rattle.ff_fields.specs.Field.{CodeField}
use Rattle.ff_poly.specs.Polynomials.{polynomials}
use Rattle.function_field.specs.declared.side.Side.{Side}
use Rattle.function_field.specs.declared.side.Side.TheVariants.{Finite, Infinite}
use Rattle.function_field.specs.Places.{Place, IsPlace, IsIn, IsSamePlace, IsIntegralAt}
use Rattle.function_field.specs.Divisors.{Entry, Divisor, HasTotalDegree, MeetsOn, none, entry}
use Rattle.function_field.specs.Functions.{Equation, FunctionOf, ring_of, setting_of}
use Rattle.function_field.specs.Discriminant.{discriminant}
use Rattle.lattice_theory.specs.Lattices.{IsLattice}
use Rattle.lattice_theory.proofs.Indices.{index_none}
use Rattle.order_theory.proofs.FinitePlaces.{Int}
use Rattle.order_theory.proofs.PlaceEntries.{any_map}
use Rattle.order_theory.proofs.SideOfPlaces.{lattice_of_place, prime_of_place, regular_functions, value_at_place, degree_of_place}
use Rattle.infinite_theory.proofs.InfiniteLaws.{regular_integral, value_exists, all_listed}
use Rattle.ideal_theory.specs.Ideals.{IsDivisorOn, IsDivisorOf, DivisorIdeal, HasValuesOf, opposite_divisor}
use Rattle.ideal_theory.proofs.DivisorIdeals.{opposite_on, meets_opposite}
use Rattle.ideal_theory.specs.Indices.{HasRelativeIndex}
use Rattle.ideal_theory.proofs.PrincipalIdeals.{principal, divisor_of_function}
use Rattle.ideal_theory.proofs.FiniteSide.{maximal_order, finite_invertible, finite_by_values}
use Rattle.ideal_theory.proofs.InfiniteSide.{infinite_prime, infinite_invertible, infinite_by_values}
use Rattle.ideal_theory.proofs.FinitePlaceLists.{listed_places}
use Rattle.ideal_theory.proofs.DegreeIndex.{index_of_degree}
use Rattle.ideal_theory.proofs.IdealIndices.{IsInvertibleLattice, order_invertible, prime_power_index}
use Rattle.ideal_theory.proofs.RelativeIndex.{relative_add, relative_same, relative_of_index}

module _ {k : CodeField} (c : Equation k) (some : ¬ (discriminant c ≡ (polynomials k).𝟘)) where
  infixl 70 ◌⊗◌
  open ring_of c use {ops, 𝟙, ◌⊗◌}

  pub side_divisor : (s : Side) (z y : FunctionOf c) → z ⊗ y ≡ 𝟙 → (D : Divisor (FunctionOf c))
      × IsDivisorOf (setting_of c) s D z
  side_divisor Finite z y inverse =
      let l = listed_places c some z y inverse in
      divisor_of_function c some Finite (λ P place e. prime_of_place c P place e) (finite_invertible c some)
      (λ z h. (regular_functions c z some).0 h)
      (λ P place e z y i. value_at_place c some P place e z y i) z y inverse l.0 l.1
  side_divisor Infinite z y inverse =
      let l = all_listed k c some in
      divisor_of_function c some Infinite (infinite_prime c) (infinite_invertible c some)
      (λ z h. (regular_integral k c some z).0 h)
      (λ P place e z y i. value_exists k c some P place e z y i) z y inverse
      (map (λ T. (T.place, T.is, T.infinite)) l.0)
      (λ P place e.
      inr (any_map (λ T. IsSamePlace (setting_of c) T.place P) (λ Q. IsSamePlace (setting_of c) Q.0 P)
      (λ T. (T.place, T.is, T.infinite)) (λ T s. s) l.0
      (l.1.complete P place e)))

  pub side_principal : (s : Side) (z y : FunctionOf c) → z ⊗ y ≡ 𝟙 → (D : Divisor (FunctionOf c))
      → IsDivisorOf (setting_of c) s D z
      → SameSet (DivisorIdeal (setting_of c) s D) (Multiple (ring_of c).ops z (IsIntegralAt (setting_of c) s))
  side_principal Finite z y inverse D d =
      principal c some Finite (λ P place e. prime_of_place c P place e) (finite_invertible c some)
      (λ z h. (regular_functions c z some).0 h)
      (λ P place e z y i. value_at_place c some P place e z y i) z y inverse D d
  side_principal Infinite z y inverse D d =
      principal c some Infinite (infinite_prime c) (infinite_invertible c some)
      (λ z h. (regular_integral k c some z).0 h)
      (λ P place e z y i. value_exists k c some P place e z y i) z y inverse D d

  -- the conditions of L(D) on a side are those of the ideal of -D
  pub space_conditions : (s : Side) (D : Divisor (FunctionOf c)) → IsDivisorOn (setting_of c) s D → (z : FunctionOf c)
      → DivisorIdeal (setting_of c) s (opposite_divisor D) z ↔ MeetsOn (setting_of c) D s z
  space_conditions s D on z =
      let a = ideal_values s (opposite_divisor D) (opposite_on (setting_of c) s D on) in
      let b = meets_opposite (setting_of c) s D z in (λ x. b.0 (a.0 x), λ x. a.1 (b.1 x))
    where
      ideal_values : (s : Side) (D : Divisor (FunctionOf c)) → IsDivisorOn (setting_of c) s D
          → DivisorIdeal (setting_of c) s D z ↔ HasValuesOf (setting_of c) s D z
      ideal_values Finite D on = finite_by_values c some D on z
      ideal_values Infinite D on = infinite_by_values c some D on z

  abbrev OnFinite : Entry (FunctionOf c) → Type 0
  OnFinite e = IsPlace (setting_of c) e.place × (e.place.side ≡ Finite)

  -- a finite place as an invertible lattice
  pub place_invertible : (P : Place (FunctionOf c)) → IsPlace (setting_of c) P → P.side ≡ Finite
      → IsInvertibleLattice c (Int c) (maximal_order c some) (IsIn (setting_of c) P)
  place_invertible P place e =
      let 𝓟 = (prime_of_place c P place e).ideal in
      record {
        lattice = lattice_of_place c P place e;
        module_is = record { zero_in = 𝓟.zero_in; sum_in = 𝓟.sum_in; scale_in = 𝓟.scale_in };
        invertible = finite_invertible c some P place e;
      }

  -- each divisor of the finite side has a degree
  total_degree : (D : Divisor (FunctionOf c)) → All (λ e. IsPlace (setting_of c) e.place × (e.place.side ≡ Finite)) D
      → (d : ℤ) × HasTotalDegree (setting_of c) D d
  total_degree [] h = (pos 0, none)
  total_degree (e ∷ D) h =
      let p = All-head OnFinite e D h in
      let r = total_degree D (All-tail OnFinite e D h) in
      let g = degree_of_place c some e.place p.0 p.1 in
      (e.times *ℤ pos g.0 +ℤ r.0, entry g.0 g.1 r.1)

  -- the index of the ideal of a divisor is its degree
  pub ideal_index : (D : Divisor (FunctionOf c)) (d : ℤ)
      → All (λ e. IsPlace (setting_of c) e.place × (e.place.side ≡ Finite)) D → HasTotalDegree (setting_of c) D d
      → IsInvertibleLattice c (Int c) (maximal_order c some) (DivisorIdeal (setting_of c) Finite D)
      × HasRelativeIndex c (DivisorIdeal (setting_of c) Finite D) (Int c) d
  ideal_index [] d h none =
      let i = order_invertible c (Int c) (maximal_order c some) in (
        i,
        relative_of_index c (Int c) (Int c) i.lattice (λ z m. m) 0 (index_none c (Int c) (Int c) i.lattice (λ z m. m)),
      )
  ideal_index (e ∷ D) m h (entry {d} g degree rest) =
      let p = All-head OnFinite e D h in
      let r = ideal_index D d (All-tail OnFinite e D h) rest in
      let t = prime_power_index c (Int c) (maximal_order c some) (IsIn (setting_of c) e.place)
      (prime_of_place c e.place p.0 p.1)
      (place_invertible e.place p.0 p.1) g (index_of_degree c e.place p.0 p.1 g degree) e.times
      (DivisorIdeal (setting_of c) Finite D) r.0 in (
        t.0,
        relative_add c (DivisorIdeal (setting_of c) Finite (e ∷ D)) (DivisorIdeal (setting_of c) Finite D)
            t.0.lattice r.0.lattice (Int c) (maximal_order c some).lattice
            _ d t.1 r.1,
      )

  -- it is an invertible lattice, whatever the degrees
  pub ideal_invertible : (D : Divisor (FunctionOf c))
      → All (λ e. IsPlace (setting_of c) e.place × (e.place.side ≡ Finite)) D
      → IsInvertibleLattice c (Int c) (maximal_order c some) (DivisorIdeal (setting_of c) Finite D)
  ideal_invertible D h = let d = total_degree D h in (ideal_index D d.0 h d.1).0

  pub divisor_lattice : (D : Divisor (FunctionOf c)) → IsDivisorOn (setting_of c) Finite D
      → IsLattice c (DivisorIdeal (setting_of c) Finite D)
  divisor_lattice D on =
      (ideal_invertible D (both (λ e. IsPlace (setting_of c) e.place) (λ e. e.place.side ≡ Finite) D
      on.divisor.places on.sides)).lattice

  pub divisor_index : (D : Divisor (FunctionOf c)) (d : ℤ) → IsDivisorOn (setting_of c) Finite D
      → HasTotalDegree (setting_of c) D d
      → HasRelativeIndex c (DivisorIdeal (setting_of c) Finite D) (Int c) d
  divisor_index D d on total =
      (ideal_index D d (both (λ e. IsPlace (setting_of c) e.place) (λ e. e.place.side ≡ Finite) D on.divisor.places
      on.sides) total).1

  -- so the index of the multiples of a function is the degree of its divisor
  pub principal_index : (z y : FunctionOf c) → z ⊗ y ≡ 𝟙 → (D : Divisor (FunctionOf c))
      → IsDivisorOf (setting_of c) Finite D z → (d : ℤ)
      → HasTotalDegree (setting_of c) D d → HasRelativeIndex c (Multiple (ring_of c).ops z (Int c)) (Int c) d
  principal_index z y inverse D is d total =
      relative_same c (DivisorIdeal (setting_of c) Finite D) (Multiple ops z (Int c)) (Int c) (Int c)
      (side_principal Finite z y inverse D is)
      (λ w. (λ m. m, λ m. m)) d (divisor_index D d is.on total)
