-- The greatest power of a prime over p that has a given lattice, in an order that is maximal at p.
use Rattle.std.proofs.Common.{◌≡◌, ◌↔◌, ◌⊎◌, List, ℕ, zero, suc, ◌+◌, ◌*◌, ◌≤◌, ◌<◌, pos, arith, le-mul_of_pos_right}
use Rattle.std.proofs.lemmas.Int.{ints}
use Rattle.std.proofs.Math.IntN.{◌-ℤ◌}
use Rattle.ring_theory.specs.Subsets.{Colon, IsModule}
use Rattle.prime_theory.specs.Ideals.{Inverse, SameSet, Power}
use Rattle.prime_theory.specs.Orders.{MaximalAt}
use Rattle.prime_theory.specs.Primes.{IsPrime, Pair, AtLeast}
use Rattle.prime_theory.proofs.Compare.{prime_in_system}
use Rattle.prime_theory.proofs.Factorisation.{power_iff_colon, power_of_value, value_of_power}
use Rattle.prime_theory.proofs.Invertible.{inverse_is_module}
use Rattle.prime_theory.proofs.Primes.{ideal_module, pair_of_invertible}
use Rattle.prime_theory.proofs.PrimeProducts.{power_monotone, power_within, inverse_same, value_same}
use Rattle.ff_fields.specs.Field.{CodeField}
use Rattle.ff_poly.specs.Words.{IsIrreducibleList}
use Rattle.ff_poly.specs.Polynomials.{Polynomial, codes_of}
use Rattle.function_field.specs.declared.side.Side.TheVariants.{Finite}
use Rattle.function_field.specs.Places.{Place, IsPlace, IsIn, IsIntegralAt, LiesOver, HasValuationAtLeast}
use Rattle.function_field.specs.Functions.{Equation, FunctionOf, ring_of, of_poly, IsPolynomial, setting_of}
use Rattle.function_field.proofs.ScalarRings.{scalars_subring}
use Rattle.places_theory.specs.Orders.{IsOrderAt, InPrime}
use Rattle.places_theory.proofs.PlaceValues.{value_iff, place_prime as prime_at_order}
use Rattle.function_field.specs.Indices.{HasIndex}
use Rattle.lattice_theory.specs.Lattices.{IsLattice}
use Rattle.lattice_theory.proofs.Indices.{index_add, index_none, index_of, index_once, index_zero}
use Rattle.lattice_theory.proofs.Operations.{lattice_within}
use Rattle.order_theory.specs.Orders.{IsOrder, IsPrimeTo}
use Rattle.order_theory.proofs.FinitePlaces.{finite, place_prime}
use Rattle.order_theory.proofs.LocalOrders.{order_integral, maximal_order_at}
use Rattle.order_theory.proofs.PrimesOver.{Index, PrimeOf, prime_is, prime_lattice, prime_invertible, prime_over, ideal_lattice, order_generators, family_of, primes_at}
use Rattle.order_theory.proofs.ReductionAt.{p_in}
use Rattle.ideal_theory.proofs.IdealIndices.{IsInvertibleLattice, invertible_same, power_of_prime}
use Rattle.ideal_theory.proofs.PowerValues.{on_side}
use Rattle.ideal_theory.proofs.RelativeIndex.{relative_at}

module _ {k : CodeField} (c : Equation k) (p : Polynomial k) (h : IsIrreducibleList k.ops (codes_of k p))
    (O : FunctionOf c → Type 0) (𝓞 : IsOrder c O)
    (maximal : MaximalAt (ring_of c).ops (of_poly c p) (IsIntegralAt (setting_of c) Finite) O)
    (P : FunctionOf c → Type 0) (𝓟 : IsPrime (ring_of c).ops O P) (over : P (of_poly c p)) where
  infixl 70 ◌⊗◌
  open ring_of c use {ops, 𝟙, ◌⊗◌}

  P_lattice : IsLattice c P
  P_lattice = ideal_lattice c p h O 𝓞 P 𝓟.ideal over 𝓟.decide

  -- the prime in the list of those over p
  listed : (i : Index c p h O 𝓞) × SameSet (PrimeOf c p h O 𝓞 i) P
  listed =
      let t = primes_at c p h O 𝓞 maximal in
      let a = prime_in_system (ring_of c) O 𝓞.ring (of_poly c p) (p_in c p h O 𝓞) (Index c p h O 𝓞)
      (PrimeOf c p h O 𝓞) (family_of c p h O 𝓞 maximal) P 𝓟
      (order_generators c p h O 𝓞 P P_lattice) t.list t.system over in (a.1, a.4)

  𝓜 : IsModule (ring_of c).ops O P
  𝓜 = ideal_module (ring_of c) O 𝓞.ring P 𝓟.ideal

  pub prime_lattice_invertible : IsInvertibleLattice c O 𝓞 P
  prime_lattice_invertible =
      invertible_same c O 𝓞 (PrimeOf c p h O 𝓞 listed.0) P listed.1
      (record {
        lattice = prime_lattice c p h O 𝓞 listed.0;
        module_is = ideal_module (ring_of c) O 𝓞.ring (PrimeOf c p h O 𝓞 listed.0) (prime_is c p h O 𝓞 listed.0).ideal;
        invertible = prime_invertible c p h O 𝓞 maximal listed.0;
      })

  -- z is in the m-th power where the m-th power of the inverse takes it into the order
  pub power_by_inverse : (m : ℕ) (z : FunctionOf c) → Power (ring_of c).ops O P m z
      ↔ Colon (ring_of c).ops O (Power (ring_of c).ops O (Inverse (ring_of c).ops O P) m) z
  power_by_inverse m z =
      let i = listed.0 in
      let s = listed.1 in
      let Q = PrimeOf c p h O 𝓞 i in
      let t = primes_at c p h O 𝓞 maximal in
      let 𝓠 = ideal_module (ring_of c) O 𝓞.ring Q (prime_is c p h O 𝓞 i).ideal in
      let e = power_iff_colon (ring_of c) O 𝓞.ring (of_poly c p) (p_in c p h O 𝓞) (Index c p h O 𝓞)
      (PrimeOf c p h O 𝓞) (family_of c p h O 𝓞 maximal)
      t.list t.system i (prime_over c p h O 𝓞 i) m z in (
        λ a y n.
            e.0 (power_monotone (ring_of c) O 𝓞.ring P Q 𝓠 (λ x. (s x).1) m z a) y
            (power_monotone (ring_of c) O 𝓞.ring (Inverse ops O P) (Inverse ops O Q)
            (inverse_is_module (ring_of c) O 𝓞.ring Q) (inverse_same (ring_of c) O 𝓞.ring P Q (λ x. (s x).0)) m y n),
        λ b.
            power_monotone (ring_of c) O 𝓞.ring Q P 𝓜 (λ x. (s x).0) m z
            (e.1 (λ y n.
            b y
            (power_monotone (ring_of c) O 𝓞.ring (Inverse ops O Q) (Inverse ops O P)
            (inverse_is_module (ring_of c) O 𝓞.ring P) (inverse_same (ring_of c) O 𝓞.ring Q P (λ x. (s x).1)) m y n))),
      )

  -- of members of the order, it is those of a value of at least m
  pub power_by_value : (t : Pair (ring_of c).ops O P) (m : ℕ) (z : FunctionOf c) → O z
      → AtLeast (ring_of c).ops O P t.tau t.gamma z m 0 ↔ Power (ring_of c).ops O P m z
  power_by_value t m z z_in =
      let i = listed.0 in
      let s = listed.1 in
      let Q = PrimeOf c p h O 𝓞 i in
      let 𝓠 = prime_is c p h O 𝓞 i in
      let fam = family_of c p h O 𝓞 maximal in
      let l = primes_at c p h O 𝓞 maximal in (
        λ v.
            power_monotone (ring_of c) O 𝓞.ring Q P 𝓜 (λ x. (s x).0) m z
            (power_of_value (ring_of c) O 𝓞.ring (of_poly c p) (p_in c p h O 𝓞) (Index c p h O 𝓞) (PrimeOf c p h O 𝓞)
            fam l.list l.system i (prime_over c p h O 𝓞 i) m z z_in
            (value_same (ring_of c) O 𝓞.ring P Q 𝓟 𝓠 t (fam.pair i) (λ x. ((s x).1, (s x).0)) z m 0 v)),
        λ w.
            value_same (ring_of c) O 𝓞.ring Q P 𝓠 𝓟 (fam.pair i) t s z m 0
            (value_of_power (ring_of c) O 𝓞.ring (of_poly c p) (p_in c p h O 𝓞) (Index c p h O 𝓞) (PrimeOf c p h O 𝓞)
            fam l.list l.system i m z
            (power_monotone (ring_of c) O 𝓞.ring P Q (ideal_module (ring_of c) O 𝓞.ring Q 𝓠.ideal) (λ x. (s x).1) m z
            w)),
      )

  module _ (D : FunctionOf c → Type 0) (𝓓 : IsLattice c D) (within : (z : FunctionOf c) → D z → O z) where
    abbrev Fits : ℕ → Type 0
    Fits m = (z : FunctionOf c) → D z → Power (ring_of c).ops O P m z

    abbrev size : (g : ℕ) × HasIndex c D O g
    size = index_of c D O 𝓓 𝓞.lattice within

    abbrev prime_size : (f : ℕ) × HasIndex c P O f
    prime_size = index_of c P O P_lattice 𝓞.lattice 𝓟.ideal.within

    positive : 1 ≤ prime_size.0
    positive = go prime_size.0 prime_size.1
      where
        go : (f : ℕ) → HasIndex c P O f → 1 ≤ f
        go zero j = absurd (𝓟.proper (index_zero c P O P_lattice j 𝟙 𝓞.ring.one_in))
        go (suc f) j = omega arith

    -- the exponent is at most the index
    bound : (m : ℕ) → Fits m → m ≤ size.0
    bound m fits =
        let r = power_of_prime c O 𝓞 P 𝓟 prime_lattice_invertible prime_size.0 prime_size.1 m in
        let Pm = Power ops O P m in
        let inner : (z : FunctionOf c) → Pm z → O z = power_within (ring_of c) O 𝓞.ring P 𝓟.ideal m in
        let t = index_of c D Pm 𝓓 r.0.lattice fits in
        let u = index_of c Pm O r.0.lattice 𝓞.lattice inner in
        let a : pos (m * prime_size.0) ≡ pos u.0 -ℤ pos 0
        = relative_at c Pm O r.0.lattice 𝓞.lattice (pos (m * prime_size.0)) r.1 O 𝓞.lattice inner (λ z x. x) u.0 0
        u.1 (index_none c O O 𝓞.lattice (λ z x. x)) in
        let b = index_once c D O 𝓓 _ _ (index_add c D Pm O 𝓓 r.0.lattice 𝓞.lattice fits inner t.0 u.0 t.1 u.1) size.1 in
        let d : m ≤ m * prime_size.0 = le-mul_of_pos_right m (let l = positive in omega (arith, l)) in
        omega (arith, ints, a, b, d)

    -- the greatest power that has the lattice
    pub greatest : (m : ℕ) × ((z : FunctionOf c) → D z → Power (ring_of c).ops O P m z)
        × (¬ ((z : FunctionOf c) → D z → Power (ring_of c).ops O P (suc m) z))
    greatest = search (suc size.0) 0 within (omega arith)
      where
        go : (m : ℕ) → Fits m → Dec (Fits (suc m)) → (Fits (suc m) → (n : ℕ) × Fits n × (¬ (Fits (suc n)))) → (n : ℕ)
            × Fits n × (¬ (Fits (suc n)))
        go m fits (yes more) again = again more
        go m fits (no less) again = (m, fits, less)

        search : (fuel m : ℕ) → Fits m → size.0 < m + fuel → (n : ℕ) × Fits n × (¬ (Fits (suc n)))
        search zero m fits l = let b = bound m fits in absurd (omega (arith, b, l))
        search (suc fuel) m fits l =
            go m fits
            (lattice_within c D (Power ops O P (suc m)) 𝓓
            (power_of_prime c O 𝓞 P 𝓟 prime_lattice_invertible prime_size.0 prime_size.1 (suc m)).0.lattice)
            (λ more. search fuel (suc m) more (omega (arith, l)))

-- the powers of the prime of a finite place over p are the values at the place
module _ {k : CodeField} (c : Equation k) (p : Polynomial k) (h : IsIrreducibleList k.ops (codes_of k p))
    (O : FunctionOf c → Type 0) (𝓞 : IsOrder c O)
    (maximal : MaximalAt (ring_of c).ops (of_poly c p) (IsIntegralAt (setting_of c) Finite) O) where
  open ring_of c use {ops, 𝟙, ◌⊗◌}

  order_at : IsOrderAt (setting_of c) Finite (IsPolynomial c) (IsPrimeTo c p) (of_poly c p) O
  order_at = maximal_order_at c p h O 𝓞 maximal

  pub power_at_place : (M : Place (FunctionOf c)) → IsPlace (setting_of c) M
      → LiesOver (setting_of c) M (of_poly c p) → (z : FunctionOf c) → O z → (m : ℕ)
      → HasValuationAtLeast (setting_of c) M z (pos m) ↔ Power (ring_of c).ops O (InPrime (setting_of c) M O) m z
  power_at_place M place over =
      on_side (setting_of c) (scalars_subring c) Finite
      (λ M. IsPlace (setting_of c) M → IsIn (setting_of c) M (of_poly c p) → (z : FunctionOf c) → O z → (m : ℕ)
      → HasValuationAtLeast (setting_of c) M z (pos m) ↔ Power ops O (InPrime (setting_of c) M O) m z)
      at M over.side place over.member
    where
      decide : (gs : List (FunctionOf c)) → IsPlace (setting_of c) (finite c gs) → (u : FunctionOf c) → O u
          → IsIn (setting_of c) (finite c gs) u ⊎ (¬ (IsIn (setting_of c) (finite c gs) u))
      decide gs place u u_in = (place_prime c gs place).decide u (order_integral c O 𝓞 u u_in)

      at : (gs : List (FunctionOf c)) → IsPlace (setting_of c) (finite c gs)
          → IsIn (setting_of c) (finite c gs) (of_poly c p) → (z : FunctionOf c) → O z → (m : ℕ)
          → HasValuationAtLeast (setting_of c) (finite c gs) z (pos m)
          ↔ Power (ring_of c).ops O (InPrime (setting_of c) (finite c gs) O) m z
      at gs place m_in z z_in m =
          let S = setting_of c in
          let P = InPrime S (finite c gs) O in
          let 𝓟 = prime_at_order S (scalars_subring c) (finite c gs) place (IsPolynomial c) (IsPrimeTo c p) O
          (of_poly c p) order_at m_in (decide gs place) in
          let over : P (of_poly c p) = (p_in c p h O 𝓞, m_in) in
          let t = pair_of_invertible (ring_of c) O 𝓞.ring P 𝓟
          (prime_lattice_invertible c p h O 𝓞 maximal P 𝓟 over).invertible in
          let v = value_iff S (scalars_subring c) (finite c gs) place (IsPolynomial c) (IsPrimeTo c p) O
          (of_poly c p) order_at m_in (decide gs place) t z (pos m) in
          let w = power_by_value c p h O 𝓞 maximal P 𝓟 over t m z z_in in (λ x. w.0 (v.0 x), λ x. v.1 (w.1 x))
