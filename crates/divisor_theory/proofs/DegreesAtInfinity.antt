-- The sums of degrees of pairs whose lattice at infinity is an invertible module over O_inf: a factor P changes them
-- by the degree of the place P. So the index of a product of powers of infinite places, relative to O_inf, is its
-- degree.
use Rattle.std.proofs.Common.{◌≡◌, ℕ, zero, suc, ◌+◌, ◌*◌, [], ◌∷◌, All, refl, sym, subst, arith, suc-mul}
use Rattle.std.proofs.lemmas.Int.{ints}
use Rattle.std.proofs.lemmas.List.Elements.{All-nil, All-head, All-tail}
use Rattle.std.proofs.Math.IntN.{ℤ, pos, ◌+ℤ◌, ◌-ℤ◌, ◌*ℤ◌}
use Rattle.ring_theory.specs.Subsets.{IsModule, Product}
use Rattle.ring_lemmas.proofs.Ring.{one_mul, zero_add}
use Rattle.ring_theory.proofs.Subsets.{product_member}
use Rattle.prime_theory.specs.Ideals.{Inverse, Invertible, SameSet, Power}
use Rattle.prime_theory.specs.IntegerValues.{up, down, PrimePower}
use Rattle.prime_theory.specs.Primes.{IsPrime}
use Rattle.prime_theory.proofs.Invertible.{trace_ideal}
use Rattle.prime_theory.proofs.Products.{product_into, product_monotone, product_swap, product_assoc, product_assoc_back, product_one, own_module, power_module, additive_of_module}
use Rattle.ff_fields.specs.Field.{CodeField}
use Rattle.ff_fields.specs.Code.{code_ring}
use Rattle.ff_poly.specs.Polynomials.{polynomials}
use Rattle.function_field.specs.declared.side.Side.TheVariants.{Infinite}
use Rattle.function_field.specs.Places.{Place, IsPlace, IsIn, IsIntegralAt}
use Rattle.function_field.specs.Divisors.{Entry, Divisor, HasTotalDegree, none, entry}
use Rattle.function_field.specs.Functions.{Equation, FunctionOf, ring_of, setting_of, degree_of_y}
use Rattle.function_field.specs.Discriminant.{discriminant}
use Rattle.function_field.specs.Indices.{HasIndex}
use Rattle.lattice_theory.specs.Lattices.{IsLattice}
use Rattle.lattice_theory.proofs.Bases.{index_same}
use Rattle.reduced_basis_theory.specs.Degree.{degree_sum}
use Rattle.infinite_theory.proofs.InfiniteLaws.{degree_exists}
use Rattle.ideal_theory.specs.Ideals.{DivisorIdeal}
use Rattle.ideal_theory.proofs.IdealIndices.{times_parts}
use Rattle.ideal_theory.proofs.InfiniteSide.{infinite_prime}
use Rattle.space_theory.proofs.AtInfinity.{integral_at_infinity}
use Rattle.space_theory.proofs.InfiniteIndices.{infinite_space, infinite_index_degrees}
use Rattle.space_theory.proofs.Pairs.{reduced_basis}
use Rattle.divisor_theory.proofs.PlacesAtInfinity.{infinite_degree_index}
use Rattle.divisor_theory.proofs.InvertibleAtInfinity.{infinite_ring, IsInvertibleAtInfinity, invertible_lattice, invertible_same, times_invertible, ring_invertible, place_at_infinity, inverse_at_infinity}
use Rattle.order_theory.proofs.IndexProducts.{times_index_over}

module _ {k : CodeField} (c : Equation k) (some : ¬ (discriminant c ≡ (polynomials k).𝟘)) where
  infixl 65 ◌⊕◌
  infixl 70 ◌⊗◌
  open ring_of c use {ops, 𝟘, 𝟙, ◌⊕◌, ◌⊗◌}

  abbrev O : FunctionOf c → Type 0
  O = IsIntegralAt (setting_of c) Infinite

  -- no dimension between equal sets
  pub index_of_same : (X Y : FunctionOf c → Type 0) → ((z : FunctionOf c) → Y z → X z) → HasIndex c X Y 0
  index_of_same X Y within = record {
    basis = [];
    is = record {
      members_in = All-nil Y;
      spanning =
          λ v h. record {
            coefficient = λ i. (code_ring k).𝟘;
            rest = v;
            rest_in = within v h;
            is = sym (zero_add (ring_of c) v);
          };
      independent = λ e m i l. absurd (omega arith);
    };
    count = refl;
  }

  -- the index of X·P in X is that of P in O_inf
  times_index : (P : FunctionOf c → Type 0) → IsPrime (ring_of c).ops O P → (f : ℕ) → HasIndex c P O f
      → (X : FunctionOf c → Type 0)
      → IsModule (ring_of c).ops O X → Invertible (ring_of c).ops O X → HasIndex c (Product (ring_of c).ops X P) X f
  times_index = times_index_over c O (infinite_ring c) (infinite_space c O (integral_at_infinity c some))

  abbrev OnInfinite : Entry (FunctionOf c) → Type 0
  OnInfinite e = IsPlace (setting_of c) e.place × (e.place.side ≡ Infinite)

  -- each divisor of the infinite side has a degree
  pub total_degree_at_infinity : (D : Divisor (FunctionOf c))
      → All (λ e. IsPlace (setting_of c) e.place × (e.place.side ≡ Infinite)) D
      → (d : ℤ) × HasTotalDegree (setting_of c) D d
  total_degree_at_infinity [] h = (pos 0, none)
  total_degree_at_infinity (e ∷ D) h =
      let p = All-head OnInfinite e D h in
      let r = total_degree_at_infinity D (All-tail OnInfinite e D h) in
      let g = degree_exists k c some e.place p.0 p.1 in
      (e.times *ℤ pos g.0 +ℤ r.0, entry g.0 g.1 r.1)

  module _ (I : FunctionOf c → Type 0) (𝓘 : IsLattice c I) where
    -- the sum of degrees of the pair (I, X)
    unfoldable pub degree_over : (X : FunctionOf c → Type 0) → IsInvertibleAtInfinity c X → ℤ
    degree_over X h = degree_sum (degree_of_y c) (reduced_basis c I X 𝓘 (invertible_lattice c X h some)).1

    pub degree_by_index : (X Y : FunctionOf c → Type 0) (h : IsInvertibleAtInfinity c X)
        (i : IsInvertibleAtInfinity c Y) → ((z : FunctionOf c) → X z → Y z)
        → (g : ℕ) → HasIndex c X Y g → degree_over X h ≡ degree_over Y i +ℤ pos g
    unfolding degree_over
    degree_by_index X Y h i within g index =
        let 𝓧 = invertible_lattice c X h some in
        let 𝓨 = invertible_lattice c Y i some in
        let r = reduced_basis c I X 𝓘 𝓧 in
        let s = reduced_basis c I Y 𝓘 𝓨 in
        let e : pos g ≡ degree_sum (degree_of_y c) r.1 -ℤ degree_sum (degree_of_y c) s.1
        = infinite_index_degrees c X Y 𝓧 𝓨 within I r.0 s.0 r.1 s.1 r.2 s.2 g index in
        omega (arith, ints)

    pub degree_same : (X Y : FunctionOf c → Type 0) (h : IsInvertibleAtInfinity c X) (i : IsInvertibleAtInfinity c Y)
        → SameSet X Y → degree_over X h ≡ degree_over Y i
    degree_same X Y h i s =
        let e = degree_by_index X Y h i (λ z. (s z).0) 0 (index_of_same X Y (λ z. (s z).1)) in
        omega (arith, ints)

    -- powers of A times X, where one factor A changes the degree by d
    module _ (A : FunctionOf c → Type 0) (𝓐 : IsInvertibleAtInfinity c A) (d : ℤ) (v : ℕ → ℤ) (start : v 0 ≡ pos 0)
        (next : (n : ℕ) → v (suc n) ≡ d +ℤ v n)
        (step : (X : FunctionOf c → Type 0) (h : IsInvertibleAtInfinity c X)
        (g : IsInvertibleAtInfinity c (Product (ring_of c).ops A X))
        → degree_over (Product (ring_of c).ops A X) g ≡ degree_over X h +ℤ d) where
      abbrev Powered : ℕ → (FunctionOf c → Type 0) → FunctionOf c → Type 0
      Powered n X = Product (ring_of c).ops (Power (ring_of c).ops O A n) X

      power_degree : (n : ℕ) (X : FunctionOf c → Type 0) (h : IsInvertibleAtInfinity c X)
          → (g : IsInvertibleAtInfinity c (Product (ring_of c).ops (Power (ring_of c).ops O A n) X))
          × (degree_over (Product (ring_of c).ops (Power (ring_of c).ops O A n) X) g ≡ degree_over X h +ℤ v n)
      power_degree zero X h =
          let s : SameSet X (Powered 0 X)
          = λ z. (
            (product_one (ring_of c) O (infinite_ring c) X h.module_is z).1,
            (product_one (ring_of c) O (infinite_ring c) X h.module_is z).0,
          ) in
          let g = invertible_same c X (Powered 0 X) s h in
          let e : degree_over X h ≡ degree_over (Powered 0 X) g = degree_same X (Powered 0 X) h g s in
          let f : v 0 ≡ pos 0 = start in
          (g, omega (arith, ints))
      power_degree (suc n) X h =
          let r = power_degree n X h in
          let Y = Powered n X in
          let s : SameSet (Product ops A Y) (Powered (suc n) X)
          = λ z. (
            product_assoc_back (ring_of c) O (infinite_ring c) A (Power ops O A n) X 𝓐.module_is z,
            product_assoc (ring_of c) O (infinite_ring c) A (Power ops O A n) X 𝓐.module_is z,
          ) in
          let t = times_invertible c A Y 𝓐 r.0 in
          let g = invertible_same c (Product ops A Y) (Powered (suc n) X) s t in
          let e : degree_over (Product ops A Y) t
          ≡ degree_over (Powered (suc n) X) g = degree_same (Product ops A Y) (Powered (suc n) X) t g s in
          let f : degree_over (Product ops A Y) t ≡ degree_over Y r.0 +ℤ d = step Y r.0 t in
          let i : degree_over Y r.0 ≡ degree_over X h +ℤ v n = r.1 in
          let j : v (suc n) ≡ d +ℤ v n = next n in
          (g, omega (arith, ints))

    module _ (P : Place (FunctionOf c)) (place : IsPlace (setting_of c) P) (e : P.side ≡ Infinite) (f : ℕ)
        (index : HasIndex c (IsIn (setting_of c) P) (IsIntegralAt (setting_of c) Infinite) f) where
      abbrev M : FunctionOf c → Type 0
      M = IsIn (setting_of c) P

      abbrev Q : FunctionOf c → Type 0
      Q = Inverse (ring_of c).ops O M

      𝓟 : IsPrime (ring_of c).ops O (IsIn (setting_of c) P)
      𝓟 = infinite_prime c P place e

      abbrev 𝓜 : IsInvertibleAtInfinity c (IsIn (setting_of c) P)
      𝓜 = place_at_infinity c some P place e

      abbrev 𝓠 : IsInvertibleAtInfinity c
          (Inverse (ring_of c).ops (IsIntegralAt (setting_of c) Infinite) (IsIn (setting_of c) P))
      𝓠 = inverse_at_infinity c some P place e

      step_up : (X : FunctionOf c → Type 0) (h : IsInvertibleAtInfinity c X)
          (g : IsInvertibleAtInfinity c (Product (ring_of c).ops M X))
          → degree_over (Product (ring_of c).ops M X) g ≡ degree_over X h +ℤ pos f
      step_up X h g =
          degree_by_index (Product ops M X) X g h
          (product_into (ring_of c) M X X (additive_of_module (ring_of c) O X h.module_is)
          (λ a b m n. h.module_is.scale_in a b (𝓟.ideal.within a m) n)) f
          (index_same c (Product ops X M) (Product ops M X) X X
          (λ z. (
            product_swap (ring_of c) O (infinite_ring c) X M 𝓜.module_is z,
            product_swap (ring_of c) O (infinite_ring c) M X h.module_is z,
          )) (λ z. (λ m. m, λ m. m)) f
          (times_index M 𝓟 f index X h.module_is h.invertible))

      step_down : (X : FunctionOf c → Type 0) (h : IsInvertibleAtInfinity c X)
          (g : IsInvertibleAtInfinity c (Product (ring_of c).ops Q X))
          → degree_over (Product (ring_of c).ops Q X) g ≡ degree_over X h +ℤ (pos 0 -ℤ pos f)
      step_down X h g =
          let r = degree_by_index X Y h g
          (λ z m. subst Y (one_mul (ring_of c) z) (product_member (ring_of c) O (infinite_ring c) Q X 𝟙 z one m)) f
          (index_same c (Product ops Y M) X Y Y (λ z. (to z, from z)) (λ z. (λ m. m, λ m. m)) f
          (times_index M 𝓟 f index Y g.module_is g.invertible)) in
          omega (arith, ints)
        where
          Y : FunctionOf c → Type 0
          Y = Product (ring_of c).ops (Inverse (ring_of c).ops O M) X

          one : Inverse (ring_of c).ops O M 𝟙
          one y m = subst O (sym (one_mul (ring_of c) y)) (𝓟.ideal.within y m)

          to : (z : FunctionOf c) → Product (ring_of c).ops Y M z → X z
          to z m =
              (product_one (ring_of c) O (infinite_ring c) X h.module_is z).0
              (product_monotone (ring_of c) O (infinite_ring c) (Product ops M Q) X O X
              (own_module (ring_of c) O (infinite_ring c))
              (trace_ideal (ring_of c) O (infinite_ring c) M 𝓜.module_is).within (λ a x. x) z
              (product_assoc_back (ring_of c) O (infinite_ring c) M Q X 𝓜.module_is z
              (product_swap (ring_of c) O (infinite_ring c) Y M 𝓜.module_is z m)))

          from : (z : FunctionOf c) → X z → Product (ring_of c).ops Y M z
          from z m =
              product_swap (ring_of c) O (infinite_ring c) M Y g.module_is z
              (product_assoc (ring_of c) O (infinite_ring c) M Q X 𝓜.module_is z
              (subst (Product ops (Product ops M Q) X) (one_mul (ring_of c) z)
              (product_member (ring_of c) O (infinite_ring c) (Product ops M Q) X 𝟙 z 𝓜.invertible m)))

      -- an integer power of the place
      pub prime_power_degree : (m : ℤ) (X : FunctionOf c → Type 0) (h : IsInvertibleAtInfinity c X)
          → (g : IsInvertibleAtInfinity c
          (Product (ring_of c).ops (PrimePower (ring_of c).ops (IsIntegralAt (setting_of c) Infinite)
          (IsIn (setting_of c) P) m) X))
          × (degree_over (Product (ring_of c).ops
          (PrimePower (ring_of c).ops (IsIntegralAt (setting_of c) Infinite) (IsIn (setting_of c) P) m) X) g
          ≡ degree_over X h +ℤ m *ℤ pos f)
      prime_power_degree m X h =
          let below = power_degree Q 𝓠 (pos 0 -ℤ pos f) (λ n. pos 0 -ℤ pos (n * f))
          (let q : 0 * f ≡ 0 = omega arith in omega (arith, ints))
          (λ n. let q : suc n * f ≡ n * f + f = suc-mul n f in omega (arith, ints)) step_down (down m) X h in
          let Z = Product ops (Power ops O Q (down m)) X in
          let above = power_degree M 𝓜 (pos f) (λ n. pos (n * f))
          (let q : 0 * f ≡ 0 = omega arith in omega (arith, ints))
          (λ n. let q : suc n * f ≡ n * f + f = suc-mul n f in omega (arith, ints)) step_up (up m) Z below.0 in
          let 𝓤 = power_module (ring_of c) O (infinite_ring c) M 𝓜.module_is (up m) in
          let U = Product ops (Power ops O M (up m)) Z in
          let V = Product ops (PrimePower ops O M m) X in
          let s : SameSet U V
          = λ z. (
            product_assoc_back (ring_of c) O (infinite_ring c) (Power ops O M (up m)) (Power ops O Q (down m)) X 𝓤 z,
            product_assoc (ring_of c) O (infinite_ring c) (Power ops O M (up m)) (Power ops O Q (down m)) X 𝓤 z,
          ) in
          let g = invertible_same c U V s above.0 in
          let a : degree_over U above.0 ≡ degree_over V g = degree_same U V above.0 g s in
          let b : degree_over Z below.0 ≡ degree_over X h +ℤ (pos 0 -ℤ pos (down m * f)) = below.1 in
          let d : degree_over U above.0 ≡ degree_over Z below.0 +ℤ pos (up m * f) = above.1 in
          let p : pos (up m * f) +ℤ (pos 0 -ℤ pos (down m * f)) ≡ m *ℤ pos f = times_parts m f in
          (g, omega (arith, ints))

    -- the product of the powers of a divisor
    pub ideal_degree : (D : Divisor (FunctionOf c)) (d : ℤ)
        → All (λ e. IsPlace (setting_of c) e.place × (e.place.side ≡ Infinite)) D
        → HasTotalDegree (setting_of c) D d
        → (g : IsInvertibleAtInfinity c (DivisorIdeal (setting_of c) Infinite D))
        × (degree_over (DivisorIdeal (setting_of c) Infinite D) g
        ≡ degree_over (IsIntegralAt (setting_of c) Infinite) (ring_invertible c some) +ℤ d)
    ideal_degree [] d h none = (ring_invertible c some, omega (arith, ints))
    ideal_degree (e ∷ D) m h (entry {d} g degree rest) =
        let p = All-head OnInfinite e D h in
        let r = ideal_degree D d (All-tail OnInfinite e D h) rest in
        let t = prime_power_degree e.place p.0 p.1 g (infinite_degree_index c e.place p.1 g degree) e.times
        (DivisorIdeal (setting_of c) Infinite D) r.0 in
        let a : degree_over (DivisorIdeal (setting_of c) Infinite D) r.0
        ≡ degree_over O (ring_invertible c some) +ℤ d = r.1 in
        let b : degree_over (DivisorIdeal (setting_of c) Infinite (e ∷ D)) t.0
        ≡ degree_over (DivisorIdeal (setting_of c) Infinite D) r.0 +ℤ e.times *ℤ pos g = t.1 in
        (t.0, omega (arith, ints))
