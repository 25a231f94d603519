-- The rules of valuations at a place that follow from its powers alone: a value of at least m + 1 is one of at least m,
-- there is at most one value, values of sums and products.
use Rattle.std.proofs.Common.{[], ◌∷◌, ◌≡◌, ◌⊎◌, inl, inr, ℕ, zero, suc, ◌+◌, ◌-◌, ◌≤◌, ◌<◌, refl, sym, subst, arith}
use Rattle.std.proofs.lemmas.Int.{ints, by_lt_z}
use Rattle.std.proofs.Math.IntN.{ℤ, pos, negsuc, ◌+ℤ◌, ◌-ℤ◌}
use lib.Signed.{◌≤ℤ◌}
use Rattle.ring_theory.specs.Subsets.{IsSubring, IsModule, Product}
use Rattle.ring_theory.proofs.Subsets.{product_member}
use Rattle.ring_lemmas.proofs.Ring.{one_mul}
use Rattle.ring_lemmas.proofs.Solver.{ring, reads}
use Rattle.prime_theory.specs.Ideals.{Power}
use Rattle.prime_theory.proofs.Products.{product_monotone, product_universal, additive_of_module, power_add}
use Rattle.prime_theory.proofs.Valuation.{le_or_lt}
use Rattle.function_field.specs.declared.side.Side.{Side}
use Rattle.function_field.specs.Setting.{Setting}
use Rattle.function_field.specs.Places.{Place, IsPlace, IsIntegralAt, IsIn, InPower, IsInPowerLocally, TakesPowerLocally, HasValuationAtLeast, HasValuation}
use Rattle.places_theory.proofs.Sides.{side_ring, place_module, integral_module, in_power_module, in_power_integral, in_power_descends, in_power_within, in_power_is}

module _ {E : Type 0} (S : Setting E) (scalars : (s : Side) → IsSubring S.functions.ops (S.IsScalar s)) (P : Place E)
    (place : IsPlace S P) where
  infixl 65 ◌⊕◌
  infixl 70 ◌⊗◌
  infixr 80 ⊖◌
  open S.functions use {ops, 𝟘, 𝟙, ◌⊕◌, ◌⊗◌, ⊖◌}

  abbrev O : E → Type 0
  O = IsIntegralAt S P.side

  𝓞 : IsSubring ops (IsIntegralAt S P.side)
  𝓞 = side_ring S scalars P.side

  𝓜 : IsModule ops (IsIntegralAt S P.side) (IsIn S P)
  𝓜 = place_module S scalars P place

  𝓟 : (m : ℕ) → IsModule ops (IsIntegralAt S P.side) (InPower S P m)
  𝓟 = in_power_module S scalars P place

  -- a product of integral functions outside the place is outside
  pub outside_product : (u v : E) → O u → ¬ (IsIn S P u) → ¬ (IsIn S P v) → O v → ¬ (IsIn S P (u ⊗ v))
  outside_product u v u_in u_out v_out v_in h =
      let w = place.inverse u u_in u_out in
      v_out (subst (IsIn S P) (back u v w.0)
      (𝓜.sum_in _ _ (𝓜.scale_in w.0 _ w.1 h) (𝓜.scale_in (⊖ v) _ (𝓞.neg_in v v_in) w.2)))
    where
      back : (u v w : E) → w ⊗ (u ⊗ v) ⊕ ⊖ v ⊗ (u ⊗ w ⊕ ⊖ 𝟙) ≡ v
      back u v w = ring S.functions (u ∷ v ∷ w ∷ []) λ q i. simp (reads, q, i 0, i 1, i 2) (q.equal _ _ refl)

  -- from each number to the next lower one
  power_next : (m : ℕ) (z : E) → IsInPowerLocally S P (suc m) z → IsInPowerLocally S P m z
  power_next m z h = record {
    factor = h.factor;
    integral = h.integral;
    outside = h.outside;
    product = in_power_descends S scalars P place m _ h.product;
  }

  power_last : (z : E) → IsInPowerLocally S P 0 z → TakesPowerLocally S P 1 z
  power_last z h = record {
    factor = h.factor;
    integral = h.integral;
    outside = h.outside;
    products = λ w i. 𝓞.product_in _ w h.product (in_power_integral S scalars P place 1 w i);
  }

  takes_next : (m : ℕ) (z : E) → TakesPowerLocally S P m z → TakesPowerLocally S P (suc m) z
  takes_next m z h = record {
    factor = h.factor;
    integral = h.integral;
    outside = h.outside;
    products = λ w i. h.products w (in_power_descends S scalars P place m w i);
  }

  along : (z : E) (m k : ℤ) → m ≡ k → HasValuationAtLeast S P z m → HasValuationAtLeast S P z k
  along z m k e = subst (HasValuationAtLeast S P z) e

  -- v(z) ≥ m + 1 gives v(z) ≥ m
  pub at_least_next : (z : E) (m : ℤ) → HasValuationAtLeast S P z (m +ℤ pos 1) → HasValuationAtLeast S P z m
  at_least_next z (pos m) h = power_next m z (along z (pos m +ℤ pos 1) (pos (suc m)) (omega (arith, ints)) h)
  at_least_next z (negsuc zero) h = power_last z (along z (negsuc zero +ℤ pos 1) (pos 0) (omega (arith, ints)) h)
  at_least_next z (negsuc (suc m)) h = takes_next (suc m) z
      (along z (negsuc (suc m) +ℤ pos 1) (negsuc m) (omega (arith, ints)) h)

  at_least_by : (n : ℕ) (z : E) (k : ℤ) → HasValuationAtLeast S P z (k +ℤ pos n) → HasValuationAtLeast S P z k
  at_least_by zero z k h = along z (k +ℤ pos 0) k (omega (arith, ints)) h
  at_least_by (suc n) z k h =
      at_least_by n z k (at_least_next z (k +ℤ pos n)
      (along z (k +ℤ pos (suc n)) ((k +ℤ pos n) +ℤ pos 1) (omega (arith, ints)) h))

  pub at_least_weaker : (z : E) (m k : ℤ) → k ≤ℤ m → HasValuationAtLeast S P z m → HasValuationAtLeast S P z k
  at_least_weaker z m k l h = go (m -ℤ k) refl
    where
      go : (d : ℤ) → m -ℤ k ≡ d → HasValuationAtLeast S P z k
      go (pos n) e = at_least_by n z k (along z m (k +ℤ pos n) (omega (arith, ints)) h)
      go (negsuc n) e = absurd (omega (arith, ints))

  -- at most one integer is the value
  pub valuation_unique : (z : E) (m k : ℤ) → HasValuation S P z m → HasValuation S P z k → m ≡ k
  valuation_unique z m k h i =
      by_lt_z m k (λ l. absurd (h.not_more (at_least_weaker z k (m +ℤ pos 1) (omega (arith, ints)) i.reached)))
      (λ l. by_lt_z k m (λ j. absurd (i.not_more (at_least_weaker z m (k +ℤ pos 1) (omega (arith, ints)) h.reached)))
      (λ j. omega (arith, ints)))

  -- members of the ring, members of the place, and what is outside
  pub at_least_of_integral : (z : E) → O z → HasValuationAtLeast S P z (pos 0)
  at_least_of_integral z h = record {
    factor = 𝟙;
    integral = 𝓞.one_in;
    outside = place.proper;
    product = subst O (sym (one_mul S.functions z)) h;
  }

  pub valuation_of_outside : (z : E) → O z → ¬ (IsIn S P z) → HasValuation S P z (pos 0)
  valuation_of_outside z h n = record {
    reached = at_least_of_integral z h;
    not_more = λ i.
        let j = along z (pos 0 +ℤ pos 1) (pos 1) (omega (arith, ints)) i in
        above j;
  }
    where
      above : IsInPowerLocally S P 1 z → ⊥
      above j = outside_product j.factor z j.integral j.outside n h (in_power_within S scalars P place 0 _ j.product)

  -- sums
  pub at_least_sum : (z w : E) (m : ℤ) → HasValuationAtLeast S P z m → HasValuationAtLeast S P w m
      → HasValuationAtLeast S P (z ⊕ w) m
  at_least_sum z w (pos m) h i = record {
    factor = h.factor ⊗ i.factor;
    integral = 𝓞.product_in _ _ h.integral i.integral;
    outside = outside_product _ _ h.integral h.outside i.outside i.integral;
    product =
        subst (InPower S P m) (collect h.factor i.factor)
        ((𝓟 m).sum_in _ _ ((𝓟 m).scale_in _ _ i.integral h.product) ((𝓟 m).scale_in _ _ h.integral i.product));
  }
    where
      collect : (u v : E) → v ⊗ (u ⊗ z) ⊕ u ⊗ (v ⊗ w) ≡ u ⊗ v ⊗ (z ⊕ w)
      collect u v = ring S.functions (u ∷ v ∷ z ∷ w ∷ []) λ q x. simp (reads, q, x 0, x 1, x 2, x 3) (q.equal _ _ refl)
  at_least_sum z w (negsuc m) h i = record {
    factor = h.factor ⊗ i.factor;
    integral = 𝓞.product_in _ _ h.integral i.integral;
    outside = outside_product _ _ h.integral h.outside i.outside i.integral;
    products = λ y j.
        subst O (collect h.factor i.factor y)
        (𝓞.sum_in _ _ (𝓞.product_in _ _ i.integral (h.products y j)) (𝓞.product_in _ _ h.integral (i.products y j)));
  }
    where
      collect : (u v y : E) → v ⊗ (u ⊗ z ⊗ y) ⊕ u ⊗ (v ⊗ w ⊗ y) ≡ u ⊗ v ⊗ (z ⊕ w) ⊗ y
      collect u v y = ring S.functions (u ∷ v ∷ y ∷ z ∷ w ∷ []) λ q x. simp (reads, q, x 0, x 1, x 2, x 3, x 4)
          (q.equal _ _ refl)

  -- the powers of the place multiply
  powers_join : (m n : ℕ) (a b : E) → InPower S P m a → InPower S P n b → InPower S P (m + n) (a ⊗ b)
  powers_join m n a b h i =
      let M = IsIn S P in
      (in_power_is S scalars P place (m + n) (a ⊗ b)).1
      ((power_add S.functions O 𝓞 M 𝓜 m n (a ⊗ b)).0
      (product_member S.functions O 𝓞 (Power ops O M m) (Power ops O M n) a b
      ((in_power_is S scalars P place m a).0 h) ((in_power_is S scalars P place n b).0 i)))

  powers_split : (m n : ℕ) (z : E) → InPower S P (m + n) z → Product ops (InPower S P m) (InPower S P n) z
  powers_split m n z h =
      let M = IsIn S P in
      product_monotone S.functions O 𝓞 (Power ops O M m) (Power ops O M n) (InPower S P m) (InPower S P n) (𝓟 m)
      (λ a. (in_power_is S scalars P place m a).1) (λ a. (in_power_is S scalars P place n a).1) z
      ((power_add S.functions O 𝓞 M 𝓜 m n z).1 ((in_power_is S scalars P place (m + n) z).0 h))

  product_up : (m n : ℕ) (z w : E) → IsInPowerLocally S P m z → IsInPowerLocally S P n w
      → IsInPowerLocally S P (m + n) (z ⊗ w)
  product_up m n z w h i = record {
    factor = h.factor ⊗ i.factor;
    integral = 𝓞.product_in _ _ h.integral i.integral;
    outside = outside_product _ _ h.integral h.outside i.outside i.integral;
    product = subst (InPower S P (m + n)) (swap h.factor i.factor) (powers_join m n _ _ h.product i.product);
  }
    where
      swap : (u v : E) → u ⊗ z ⊗ (v ⊗ w) ≡ u ⊗ v ⊗ (z ⊗ w)
      swap u v = ring S.functions (u ∷ v ∷ z ∷ w ∷ []) λ q x. simp (reads, q, x 0, x 1, x 2, x 3) (q.equal _ _ refl)

  product_down : (m n : ℕ) (z w : E) → TakesPowerLocally S P m z → TakesPowerLocally S P n w
      → TakesPowerLocally S P (m + n) (z ⊗ w)
  product_down m n z w h i = record {
    factor = h.factor ⊗ i.factor;
    integral = 𝓞.product_in _ _ h.integral i.integral;
    outside = outside_product _ _ h.integral h.outside i.outside i.integral;
    products = λ y j.
        product_universal S.functions (InPower S P m) (InPower S P n) O
        (additive_of_module S.functions O O (integral_module S scalars P.side)) (h.factor ⊗ i.factor ⊗ (z ⊗ w))
        (λ a b k l. subst O (swap h.factor i.factor a b) (𝓞.product_in _ _ (h.products a k) (i.products b l))) y
        (powers_split m n y j);
  }
    where
      swap : (u v a b : E) → u ⊗ z ⊗ a ⊗ (v ⊗ w ⊗ b) ≡ u ⊗ v ⊗ (z ⊗ w) ⊗ (a ⊗ b)
      swap u v a b = ring S.functions (u ∷ v ∷ z ∷ w ∷ a ∷ b ∷ []) λ q x. simp (reads, q, x 0, x 1, x 2, x 3, x 4, x 5)
          (q.equal _ _ refl)

  product_lower : (m n : ℕ) (z w : E) → IsInPowerLocally S P (m + n) z → TakesPowerLocally S P n w
      → IsInPowerLocally S P m (z ⊗ w)
  product_lower m n z w h i = record {
    factor = h.factor ⊗ i.factor;
    integral = 𝓞.product_in _ _ h.integral i.integral;
    outside = outside_product _ _ h.integral h.outside i.outside i.integral;
    product =
        subst (InPower S P m) (swap h.factor i.factor)
        (product_universal S.functions (InPower S P m) (InPower S P n) (InPower S P m)
        (additive_of_module S.functions O (InPower S P m) (𝓟 m))
        (i.factor ⊗ w)
        (λ a b k l. subst (InPower S P m) (turn i.factor a b) ((𝓟 m).scale_in _ a (i.products b l) k)) _
        (powers_split m n _ h.product));
  }
    where
      swap : (u v : E) → v ⊗ w ⊗ (u ⊗ z) ≡ u ⊗ v ⊗ (z ⊗ w)
      swap u v = ring S.functions (u ∷ v ∷ z ∷ w ∷ []) λ q x. simp (reads, q, x 0, x 1, x 2, x 3) (q.equal _ _ refl)

      turn : (v a b : E) → v ⊗ w ⊗ b ⊗ a ≡ v ⊗ w ⊗ (a ⊗ b)
      turn v a b = ring S.functions (v ∷ w ∷ a ∷ b ∷ []) λ q x. simp (reads, q, x 0, x 1, x 2, x 3) (q.equal _ _ refl)

  product_raise : (m n : ℕ) (z w : E) → IsInPowerLocally S P m z → TakesPowerLocally S P (m + n) w
      → TakesPowerLocally S P n (z ⊗ w)
  product_raise m n z w h i = record {
    factor = h.factor ⊗ i.factor;
    integral = 𝓞.product_in _ _ h.integral i.integral;
    outside = outside_product _ _ h.integral h.outside i.outside i.integral;
    products = λ y j. subst O (swap h.factor i.factor y) (i.products _ (powers_join m n _ y h.product j));
  }
    where
      swap : (u v y : E) → v ⊗ w ⊗ (u ⊗ z ⊗ y) ≡ u ⊗ v ⊗ (z ⊗ w) ⊗ y
      swap u v y = ring S.functions (u ∷ v ∷ z ∷ w ∷ y ∷ []) λ q x. simp (reads, q, x 0, x 1, x 2, x 3, x 4)
          (q.equal _ _ refl)

  product_mixed : (m j : ℕ) (z w : E) → IsInPowerLocally S P m z → TakesPowerLocally S P (suc j) w
      → HasValuationAtLeast S P (z ⊗ w) (pos m +ℤ negsuc j)
  product_mixed m j z w h i = go (le_or_lt (suc j) m)
    where
      high : (n : ℕ) → m ≡ n + suc j → HasValuationAtLeast S P (z ⊗ w) (pos m +ℤ negsuc j)
      high n e =
          along (z ⊗ w) (pos n) (pos m +ℤ negsuc j) (omega (arith, ints))
          (product_lower n (suc j) z w (subst (λ x. IsInPowerLocally S P x z) e h) i)

      low : (n : ℕ) → suc j ≡ m + suc n → HasValuationAtLeast S P (z ⊗ w) (pos m +ℤ negsuc j)
      low n e =
          along (z ⊗ w) (negsuc n) (pos m +ℤ negsuc j) (omega (arith, ints))
          (product_raise m (suc n) z w h (subst (λ x. TakesPowerLocally S P x w) e i))

      go : (suc j ≤ m) ⊎ (m < suc j) → HasValuationAtLeast S P (z ⊗ w) (pos m +ℤ negsuc j)
      go (inl l) = high (m - suc j) (omega arith)
      go (inr l) = low (j - m) (omega arith)

  -- products
  pub at_least_product : (z w : E) (m k : ℤ) → HasValuationAtLeast S P z m → HasValuationAtLeast S P w k
      → HasValuationAtLeast S P (z ⊗ w) (m +ℤ k)
  at_least_product z w (pos m) (pos n) h i = along (z ⊗ w) (pos (m + n)) (pos m +ℤ pos n) (omega (arith, ints))
      (product_up m n z w h i)
  at_least_product z w (pos m) (negsuc j) h i = product_mixed m j z w h i
  at_least_product z w (negsuc j) (pos m) h i =
      subst (λ x. HasValuationAtLeast S P x (negsuc j +ℤ pos m)) (S.functions.mul_comm w z)
      (along (w ⊗ z) (pos m +ℤ negsuc j) (negsuc j +ℤ pos m) (omega (arith, ints)) (product_mixed m j w z i h))
  at_least_product z w (negsuc i) (negsuc j) h k =
      along (z ⊗ w) (negsuc (i + suc j)) (negsuc i +ℤ negsuc j) (omega (arith, ints))
      (subst (λ n. TakesPowerLocally S P n (z ⊗ w)) (omega arith) (product_down (suc i) (suc j) z w h k))
