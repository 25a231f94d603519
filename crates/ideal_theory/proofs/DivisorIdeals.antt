-- The ideal of a divisor is its conditions at all places of its side, where the places of the side are invertible
-- primes of the ring of integral functions, and this ring is all functions without poles on the side.
use Rattle.std.proofs.Common.{◌≡◌, ◌⊎◌, ◌↔◌, inl, inr, zero, suc, ◌+◌, List, [], ◌∷◌, refl, sym, ◌∙◌, subst, arith, All}
use Rattle.std.specs.List.{AllPairs}
use Rattle.std.specs.Prelude.{neg_ℤ}
use Rattle.std.proofs.lemmas.List.Elements.{All-nil, All-cons, All-head, All-tail, All-weaker}
use Rattle.std.proofs.lemmas.Int.{ints}
use Rattle.std.proofs.Math.IntN.{ℤ, pos, negsuc, ◌+ℤ◌}
use lib.Signed.{◌≤ℤ◌}
use Rattle.ring_theory.specs.Subsets.{IsSubring, IsModule, Product}
use Rattle.ring_theory.proofs.Subsets.{product_module, product_member, span_members}
use Rattle.prime_theory.specs.Ideals.{Invertible, SameSet}
use Rattle.prime_theory.specs.IntegerValues.{up, down, PrimePower}
use Rattle.prime_theory.specs.Primes.{IsPrime, Pair, Different}
use Rattle.prime_theory.specs.Systems.{IsFamily, IdealPower, Generators}
use Rattle.std.proofs.lemmas.List.Kept.{AllPairs-cons}
use Rattle.prime_theory.proofs.Lists.{both, pairs_head, pairs_tail}
use Rattle.prime_theory.proofs.Compare.{compare_primes}
use Rattle.prime_theory.proofs.Primes.{pair_of_invertible}
use Rattle.prime_theory.proofs.Products.{product_into, product_universal, own_module, additive_of_module}
use Rattle.prime_theory.proofs.AtPrime.{ideal_power_module, ideal_power_add, product_exchange}
use Rattle.prime_theory.proofs.DivisorProducts.{powers_one}
use Rattle.prime_theory.proofs.Scalars.{span_wider}
use Rattle.function_field.specs.declared.side.Side.{Side}
use Rattle.function_field.specs.Setting.{Setting}
use Rattle.function_field.specs.Places.{Place, IsPlace, IsSamePlace, IsIntegralAt, IsIn, HasValuationAtLeast}
use Rattle.function_field.specs.Divisors.{Entry, Divisor, HasMultiplicity, MeetsOn}
use Rattle.places_theory.proofs.Sides.{side_ring, scalar_integral}
use Rattle.places_theory.proofs.SamePlaces.{same_place_sym, same_place_trans}
use Rattle.places_theory.proofs.Multiplicities.{multiplicity_exists, multiplicity_elsewhere}
use Rattle.places_theory.proofs.Valuations.{at_least_of_integral, at_least_product, at_least_weaker}
use Rattle.ideal_theory.specs.Ideals.{IsDivisorOn, DivisorIdeal, HasValuesOf, opposite_divisor}
use Rattle.ideal_theory.proofs.PowerValues.{place_at, on_side, values_additive, same_value, other_value}

-- the opposite of the parts of an integer
pub opposite_parts : (m : ℤ) → up m + up (neg_ℤ m) ≡ down m + down (neg_ℤ m)
opposite_parts (pos zero) = refl
opposite_parts (pos (suc n)) = omega arith
opposite_parts (negsuc n) = omega arith

none_left : (m : ℤ) → pos 0 ≤ℤ (m +ℤ neg_ℤ m)
none_left m = omega (arith, ints)

module _ {E : Type 0} (S : Setting E) where
  pub multiplicity_opposite : (D : Divisor E) (P : Place E) (m : ℤ) → HasMultiplicity S D P m
      → HasMultiplicity S (opposite_divisor D) P (neg_ℤ m)
  multiplicity_opposite [] P m h = subst (λ n. neg_ℤ n ≡ pos 0) (sym h) refl
  multiplicity_opposite (e ∷ D) P m (inl h) = inl (h.0, subst (λ n. neg_ℤ e.times ≡ neg_ℤ n) h.1 refl)
  multiplicity_opposite (e ∷ D) P m (inr h) = inr (h.0, multiplicity_opposite D P m h.1)

  multiplicity_opposite_back : (D : Divisor E) (P : Place E) (m : ℤ) → HasMultiplicity S (opposite_divisor D) P m
      → HasMultiplicity S D P (neg_ℤ m)
  multiplicity_opposite_back [] P m h = subst (λ n. neg_ℤ n ≡ pos 0) (sym h) refl
  multiplicity_opposite_back (e ∷ D) P m (inl h) = inl (h.0, twice e.times m h.1)
    where
      twice : (a b : ℤ) → neg_ℤ a ≡ b → a ≡ neg_ℤ b
      twice a b e = omega (arith, ints)
  multiplicity_opposite_back (e ∷ D) P m (inr h) = inr (h.0, multiplicity_opposite_back D P m h.1)

  opposite_all : (T : Place E → Type 0) (D : Divisor E) → All (λ e. T e.place) D
      → All (λ e. T e.place) (opposite_divisor D)
  opposite_all T [] h = All-nil (λ e. T e.place)
  opposite_all T (e ∷ D) h =
      All-cons (λ e. T e.place) (record { place = e.place; times = neg_ℤ e.times }) (opposite_divisor D)
      (All-head (λ e. T e.place) e D h)
      (opposite_all T D (All-tail (λ e. T e.place) e D h))

  opposite_apart : (D : Divisor E) → AllPairs (λ e e'. ¬ IsSamePlace S e.place e'.place) D
      → AllPairs (λ e e'. ¬ IsSamePlace S e.place e'.place) (opposite_divisor D)
  opposite_apart [] h = h
  opposite_apart (e ∷ D) h =
      AllPairs-cons (λ e e'. ¬ IsSamePlace S e.place e'.place) (record { place = e.place; times = neg_ℤ e.times })
      (opposite_divisor D)
      (opposite_all (λ P. ¬ IsSamePlace S e.place P) D (pairs_head (λ e e'. ¬ IsSamePlace S e.place e'.place) e D h))
      (opposite_apart D (pairs_tail (λ e e'. ¬ IsSamePlace S e.place e'.place) e D h))

  pub opposite_on : (s : Side) (D : Divisor E) → IsDivisorOn S s D → IsDivisorOn S s (opposite_divisor D)
  opposite_on s D on = record {
    divisor =
        record {
          places = opposite_all (IsPlace S) D on.divisor.places;
          different = opposite_apart D on.divisor.different;
        };
    sides = opposite_all (λ P. P.side ≡ s) D on.sides;
  }

  -- the conditions of L(D) on a side are the values of -D
  pub meets_opposite : (s : Side) (D : Divisor E) (z : E) → HasValuesOf S s (opposite_divisor D) z ↔ MeetsOn S D s z
  meets_opposite s D z = (
    λ f P place e m h. f P place e (neg_ℤ m) (multiplicity_opposite D P m h),
    λ f P place e m h.
        subst (HasValuationAtLeast S P z) (again m) (f P place e (neg_ℤ m) (multiplicity_opposite_back D P m h)),
  )
    where
      again : (m : ℤ) → neg_ℤ (neg_ℤ m) ≡ m
      again m = omega (arith, ints)

-- a side whose places are invertible primes
module _ {E : Type 0} (S : Setting E) (scalars : (s : Side) → IsSubring S.functions.ops (S.IsScalar s)) (s : Side)
    (prime : (P : Place E) → IsPlace S P → P.side ≡ s → IsPrime S.functions.ops (IsIntegralAt S s) (IsIn S P))
    (invertible : (P : Place E) → IsPlace S P → P.side ≡ s
    → Invertible S.functions.ops (IsIntegralAt S s) (IsIn S P)) where
  infixl 65 ◌⊕◌
  infixl 70 ◌⊗◌
  infixr 80 ⊖◌
  open S.functions use {ops, 𝟘, 𝟙, ◌⊕◌, ◌⊗◌, ⊖◌}

  abbrev B : E → Type 0
  B = IsIntegralAt S s

  𝓑 : IsSubring ops (IsIntegralAt S s)
  𝓑 = side_ring S scalars s

  -- the places of the side
  abbrev pub PlaceOn : Type 0
  PlaceOn = (P : Place E) × IsPlace S P × (P.side ≡ s)

  pub generators_on : (P : Place E) → P.side ≡ s → Generators ops (IsIntegralAt S s) (IsIn S P)
  generators_on =
      on_side S scalars s (λ P. Generators ops (IsIntegralAt S s) (IsIn S P))
      (λ gs. record {
        list = gs;
        members = span_members S.functions (S.IsScalar s) (scalars s) gs;
        spanned = λ a m. span_wider S.functions (S.IsScalar s) B (scalar_integral S scalars s) gs a m;
      })

  pub compare_places : (P Q : PlaceOn) → SameSet (IsIn S P.0) (IsIn S Q.0) ⊎ Different (IsIn S P.0) (IsIn S Q.0)
  compare_places P Q =
      compare_primes S.functions B 𝓑 (IsIn S P.0) (IsIn S Q.0) (prime P.0 P.1 P.2) (prime Q.0 Q.1 Q.2)
      (generators_on P.0 P.2) (generators_on Q.0 Q.2)

  pub pair_on : (P : PlaceOn) → Pair ops (IsIntegralAt S s) (IsIn S P.0)
  pair_on P = pair_of_invertible S.functions B 𝓑 (IsIn S P.0) (prime P.0 P.1 P.2) (invertible P.0 P.1 P.2)

  pub places_family : IsFamily ops (IsIntegralAt S s) PlaceOn (λ P. IsIn S P.0)
  places_family = record { prime = λ P. prime P.0 P.1 P.2; pair = pair_on; compare = compare_places }

  pub same_decided : (P Q : PlaceOn) → Dec (IsSamePlace S P.0 Q.0)
  same_decided P Q = go (compare_places P Q)
    where
      go : SameSet (IsIn S P.0) (IsIn S Q.0) ⊎ Different (IsIn S P.0) (IsIn S Q.0) → Dec (IsSamePlace S P.0 Q.0)
      go (inl e) = yes (record { side = P.2 ∙ sym Q.2; members = e })
      go (inr d) = no (λ e. d.first_out ((e.members d.first).0 d.first_in))

  pub power_module_on : (P : PlaceOn) (m : ℤ)
      → IsModule ops (IsIntegralAt S s) (PrimePower ops (IsIntegralAt S s) (IsIn S P.0) m)
  power_module_on P m = ideal_power_module S.functions B 𝓑 (IsIn S P.0) (prime P.0 P.1 P.2) (pair_on P) (up m) (down m)

  abbrev OnSide : Entry E → Type 0
  OnSide e = IsPlace S e.place × (e.place.side ≡ s)

  pub ideal_module : (D : Divisor E) → All (λ e. IsPlace S e.place × (e.place.side ≡ s)) D
      → IsModule ops (IsIntegralAt S s) (DivisorIdeal S s D)
  ideal_module [] h = own_module S.functions B 𝓑
  ideal_module (e ∷ D) h =
      let p = All-head OnSide e D h in
      product_module S.functions B 𝓑 (PrimePower ops (IsIntegralAt S s) (IsIn S e.place) e.times) (DivisorIdeal S s D)
      (power_module_on (e.place, p.0, p.1) e.times)

  -- opposite powers have 1 in their product
  one_in_powers : (P : PlaceOn) (m : ℤ)
      → Product ops (PrimePower ops (IsIntegralAt S s) (IsIn S P.0) m)
      (PrimePower ops (IsIntegralAt S s) (IsIn S P.0) (neg_ℤ m)) 𝟙
  one_in_powers P m =
      (ideal_power_add S.functions B 𝓑 (IsIn S P.0) (prime P.0 P.1 P.2) (pair_on P) (up m) (down m) (up (neg_ℤ m))
      (down (neg_ℤ m)) 𝟙).1
      (subst (λ n. IdealPower ops B (IsIn S P.0) (up m + up (neg_ℤ m)) n 𝟙) (opposite_parts m)
      ((powers_one S.functions B 𝓑 𝟙 𝓑.one_in PlaceOn (λ P. IsIn S P.0) places_family P (up m + up (neg_ℤ m)) 𝟙).1
      𝓑.one_in))

  -- so do the ideals of opposite divisors
  pub one_in_opposite : (D : Divisor E) → All (λ e. IsPlace S e.place × (e.place.side ≡ s)) D
      → Product ops (DivisorIdeal S s D) (DivisorIdeal S s (opposite_divisor D)) 𝟙
  one_in_opposite [] h =
      subst (Product ops B B) (S.functions.mul_one 𝟙) (product_member S.functions B 𝓑 B B 𝟙 𝟙 𝓑.one_in 𝓑.one_in)
  one_in_opposite (e ∷ D) h =
      let p = All-head OnSide e D h in
      let P : PlaceOn = (e.place, p.0, p.1) in
      let rest = All-tail OnSide e D h in
      let K = PrimePower ops B (IsIn S e.place) e.times in
      let K' = PrimePower ops B (IsIn S e.place) (neg_ℤ e.times) in
      let I = DivisorIdeal S s D in
      let I' = DivisorIdeal S s (opposite_divisor D) in
      product_exchange S.functions B 𝓑 K K' I I' (power_module_on P e.times) (power_module_on P (neg_ℤ e.times))
      (ideal_module D rest) 𝟙
      (subst (Product ops (Product ops K K') (Product ops I I')) (S.functions.mul_one 𝟙)
      (product_member S.functions B 𝓑 (Product ops K K') (Product ops I I') 𝟙 𝟙 (one_in_powers P e.times)
      (one_in_opposite D rest)))

  -- the values of the members of the ideal of a divisor
  module _ (gs : List E) (place : IsPlace S (place_at S scalars s gs)) where
    abbrev Q : PlaceOn
    Q = (place_at S scalars s gs, place, refl)

    pub value_of_ideal : (D : Divisor E) → All (λ e. IsPlace S e.place × (e.place.side ≡ s)) D
        → AllPairs (λ e e'. ¬ IsSamePlace S e.place e'.place) D
        → (m : ℤ) → HasMultiplicity S D (place_at S scalars s gs) m → (z : E) → DivisorIdeal S s D z
        → HasValuationAtLeast S (place_at S scalars s gs) z m
    value_of_ideal [] h apart m t z i =
        subst (HasValuationAtLeast S (place_at S scalars s gs) z) (sym t)
        (at_least_of_integral S scalars (place_at S scalars s gs) place z i)
    value_of_ideal (e ∷ D) h apart m (inl t) z w =
        product_into S.functions (PrimePower ops B (IsIn S e.place) e.times) (DivisorIdeal S s D)
        (λ z. HasValuationAtLeast S (place_at S scalars s gs) z m)
        (values_additive S scalars s gs place m)
        (λ a b i j.
        let n : e.times ≡ m = t.1 in
        at_least_weaker S scalars (place_at S scalars s gs) place (a ⊗ b) (e.times +ℤ pos 0) m (omega (arith, ints))
        (at_least_product S scalars (place_at S scalars s gs) place a b e.times (pos 0)
        (same_value S scalars s gs place (IsIn S e.place) t.0.members e.times a i)
        (value_of_ideal D (All-tail OnSide e D h) (pairs_tail (λ e e'. ¬ IsSamePlace S e.place e'.place) e D apart)
        (pos 0)
        (multiplicity_elsewhere S D (place_at S scalars s gs)
        (All-weaker (λ e'. ¬ IsSamePlace S e.place e'.place) (λ e'. ¬ IsSamePlace S (place_at S scalars s gs) e'.place)
        (λ e' n r. n (same_place_trans S e.place (place_at S scalars s gs) e'.place
        (same_place_sym S (place_at S scalars s gs) e.place t.0) r)) D
        (pairs_head (λ e e'. ¬ IsSamePlace S e.place e'.place) e D apart))) b j))) z w
    value_of_ideal (e ∷ D) h apart m (inr t) z w =
        product_into S.functions (PrimePower ops B (IsIn S e.place) e.times) (DivisorIdeal S s D)
        (λ z. HasValuationAtLeast S (place_at S scalars s gs) z m)
        (values_additive S scalars s gs place m)
        (λ a b i j.
        at_least_weaker S scalars (place_at S scalars s gs) place (a ⊗ b) (pos 0 +ℤ m) m (omega (arith, ints))
        (at_least_product S scalars (place_at S scalars s gs) place a b (pos 0) m
        (other (compare_places (e.place, p.0, p.1) Q) a i)
        (value_of_ideal D (All-tail OnSide e D h) (pairs_tail (λ e e'. ¬ IsSamePlace S e.place e'.place) e D apart) m
        t.1 b j))) z w
      where
        p : IsPlace S e.place × (e.place.side ≡ s)
        p = All-head OnSide e D h

        other : SameSet (IsIn S e.place) (IsIn S (place_at S scalars s gs))
            ⊎ Different (IsIn S e.place) (IsIn S (place_at S scalars s gs)) → (a : E)
            → PrimePower ops (IsIntegralAt S s) (IsIn S e.place) e.times a
            → HasValuationAtLeast S (place_at S scalars s gs) a (pos 0)
        other (inl q) a i = absurd (t.0 (record { side = sym p.1; members = λ z. ((q z).1, (q z).0) }))
        other (inr d) a i =
            other_value S scalars s gs place (prime (place_at S scalars s gs) place refl) (IsIn S e.place)
            (prime e.place p.0 p.1).ideal d.first d.first_in d.first_out
            e.times a i

  module _ (D : Divisor E) (on : IsDivisorOn S s D) where
    all_on : All (λ e. IsPlace S e.place × (e.place.side ≡ s)) D
    all_on = both (λ e. IsPlace S e.place) (λ e. e.place.side ≡ s) D on.divisor.places on.sides

    pub values_of_ideal : (z : E) → DivisorIdeal S s D z → HasValuesOf S s D z
    values_of_ideal z i P place e =
        on_side S scalars s (λ P. IsPlace S P → (m : ℤ) → HasMultiplicity S D P m → HasValuationAtLeast S P z m)
        (λ gs place m t. value_of_ideal gs place D all_on on.divisor.different m t z i) P e place

    -- where the ring is all functions without poles
    module _ (regular : (z : E) → ((P : Place E) → IsPlace S P → P.side ≡ s → HasValuationAtLeast S P z (pos 0))
        → IsIntegralAt S s z) where
      pub ideal_of_values : (z : E) → HasValuesOf S s D z → DivisorIdeal S s D z
      ideal_of_values z h =
          subst (DivisorIdeal S s D) (S.functions.mul_one z)
          (product_universal S.functions (DivisorIdeal S s D) (DivisorIdeal S s (opposite_divisor D))
          (DivisorIdeal S s D)
          (additive_of_module S.functions B (DivisorIdeal S s D) (ideal_module D all_on)) z
          (λ a b i j.
          subst (DivisorIdeal S s D) (turn a b)
          ((ideal_module D all_on).scale_in (z ⊗ b) a (regular (z ⊗ b) (λ P place e. at b j P e place)) i)) 𝟙
          (one_in_opposite D all_on))
        where
          turn : (a b : E) → z ⊗ b ⊗ a ≡ z ⊗ (a ⊗ b)
          turn a b = S.functions.mul_assoc z b a ∙ subst (λ x. z ⊗ (b ⊗ a) ≡ z ⊗ x) (S.functions.mul_comm b a) refl

          at : (b : E) → DivisorIdeal S s (opposite_divisor D) b → (P : Place E) → P.side ≡ s → IsPlace S P
              → HasValuationAtLeast S P (z ⊗ b) (pos 0)
          at b j =
              on_side S scalars s (λ P. IsPlace S P → HasValuationAtLeast S P (z ⊗ b) (pos 0))
              (λ gs place.
              let P = place_at S scalars s gs in
              let t = multiplicity_exists S D P
              (All-weaker OnSide (λ e. Dec (IsSamePlace S P e.place))
              (λ e p. same_decided (P, place, refl) (e.place, p.0, p.1)) D all_on) in
              at_least_weaker S scalars P place (z ⊗ b) (t.0 +ℤ neg_ℤ t.0) (pos 0) (none_left t.0)
              (at_least_product S scalars P place z b t.0 (neg_ℤ t.0) (h P place refl t.0 t.1)
              (value_of_ideal gs place (opposite_divisor D) (opposite_all S (λ P. IsPlace S P × (P.side ≡ s)) D all_on)
              (opposite_apart S D on.divisor.different) (neg_ℤ t.0) (multiplicity_opposite S D P t.0 t.1) b j)))

      pub by_values : (z : E) → DivisorIdeal S s D z ↔ HasValuesOf S s D z
      by_values z = (values_of_ideal z, ideal_of_values z)
