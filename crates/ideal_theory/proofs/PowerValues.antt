-- The values of the members of powers of places, at a place of the same side.
use Rattle.std.proofs.Common.{◌≡◌, ℕ, zero, suc, List, [], ◌∷◌, refl, sym, subst, arith}
use Rattle.std.proofs.lemmas.Int.{ints}
use Rattle.std.proofs.Math.IntN.{ℤ, pos, negsuc, ◌+ℤ◌}
use Rattle.ring_lemmas.specs.Ring.{pow}
use Rattle.ring_theory.specs.Subsets.{IsSubring}
use Rattle.ring_lemmas.proofs.Ring.{one_mul, mul_zero}
use Rattle.ring_lemmas.proofs.Solver.{ring, reads}
use Rattle.prime_theory.specs.Ideals.{IsAdditive, IsIdeal, SameSet, Inverse, Power}
use Rattle.prime_theory.specs.IntegerValues.{up, down, PrimePower}
use Rattle.prime_theory.specs.Primes.{IsPrime}
use Rattle.prime_theory.proofs.Products.{product_into, product_universal, additive_of_module, own_module, power_cancel}
use Rattle.prime_theory.proofs.Primes.{outside_power}
use Rattle.prime_theory.proofs.Invertible.{inverse_is_module}
use Rattle.prime_theory.proofs.PrimeProducts.{power_monotone, power_within}
use Rattle.function_field.specs.declared.side.Side.{Side}
use Rattle.function_field.specs.Setting.{Setting}
use Rattle.function_field.specs.Places.{Place, IsPlace, IsIntegralAt, IsIn, HasValuationAtLeast, InPower}
use Rattle.places_theory.proofs.Sides.{side_ring, place_module, in_power_module, in_power_is}
use Rattle.places_theory.proofs.Valuations.{at_least_of_integral, at_least_sum, at_least_product, at_least_weaker}

module _ {E : Type 0} (S : Setting E) (scalars : (s : Side) → IsSubring S.functions.ops (S.IsScalar s)) (s : Side) where
  infixl 65 ◌⊕◌
  infixl 70 ◌⊗◌
  infixr 80 ⊖◌
  open S.functions use {ops, 𝟘, 𝟙, ◌⊕◌, ◌⊗◌, ⊖◌}

  abbrev B : E → Type 0
  B = IsIntegralAt S s

  𝓑 : IsSubring ops (IsIntegralAt S s)
  𝓑 = side_ring S scalars s

  -- the place of the side that functions span
  abbrev pub place_at : List E → Place E
  place_at gs = record { side = s; generators = gs }

  -- what holds of each such place holds of each place of the side
  pub on_side : (T : Place E → Type 0) → ((gs : List E) → T (place_at gs)) → (P : Place E) → P.side ≡ s → T P
  on_side T f P e = subst (λ r. T (record { side = r; generators = P.generators })) (sym e) (f P.generators)

  -- the members of the n-th powers of a set and of its inverse have their products in the ring
  pub powers_kill : (P : E → Type 0) (n : ℕ) (y w : E)
      → Power ops (IsIntegralAt S s) (Inverse ops (IsIntegralAt S s) P) n y
      → Power ops (IsIntegralAt S s) P n w → IsIntegralAt S s (y ⊗ w)
  powers_kill P zero y w h i = 𝓑.product_in y w h i
  powers_kill P (suc n) y w h i =
      product_universal S.functions P (Power ops B P n) B additive y
      (λ p w' p_in w'_in.
      subst B (S.functions.mul_comm _ _)
      (product_universal S.functions (Inverse ops B P) (Power ops B (Inverse ops B P) n) B additive (p ⊗ w')
      (λ q y' q_in y'_in. subst B (turn p w' q y')
      (𝓑.product_in _ _ (q_in p p_in) (powers_kill P n y' w' y'_in w'_in))) y h)) w i
    where
      additive : IsAdditive ops (IsIntegralAt S s)
      additive = additive_of_module S.functions B B (own_module S.functions B 𝓑)

      turn : (p w' q y' : E) → (q ⊗ p) ⊗ (y' ⊗ w') ≡ (p ⊗ w') ⊗ (q ⊗ y')
      turn p w' q y' =
          ring S.functions (p ∷ w' ∷ q ∷ y' ∷ []) λ r x. simp (reads, r, x 0, x 1, x 2, x 3) (r.equal _ _ refl)

  module _ (gs : List E) (place : IsPlace S (place_at gs)) where
    abbrev M : E → Type 0
    M = IsIn S (place_at gs)

    abbrev Ge : E → ℤ → Type 0
    Ge = HasValuationAtLeast S (place_at gs)

    zero_value : (m : ℤ) → Ge 𝟘 m
    zero_value (pos n) = record {
      factor = 𝟙;
      integral = 𝓑.one_in;
      outside = place.proper;
      product =
          subst (InPower S (place_at gs) n) (sym (mul_zero S.functions 𝟙))
          (in_power_module S scalars (place_at gs) place n).zero_in;
    }
    zero_value (negsuc n) = record {
      factor = 𝟙;
      integral = 𝓑.one_in;
      outside = place.proper;
      products = λ w i. subst B (none w) 𝓑.zero_in;
    }
      where
        none : (w : E) → 𝟘 ≡ 𝟙 ⊗ 𝟘 ⊗ w
        none w = ring S.functions (w ∷ []) λ r x. simp (reads, r, x 0) (r.equal _ _ refl)

    -- functions of a value of at least m are closed under sums
    pub values_additive : (m : ℤ) → IsAdditive ops (λ z. HasValuationAtLeast S (place_at gs) z m)
    values_additive m =
        record { zero_in = zero_value m; sum_in = λ a b h i. at_least_sum S scalars (place_at gs) place a b m h i }

    power_value : (P : E → Type 0) → ((z : E) → P z → M z) → (n : ℕ) (z : E) → Power ops (IsIntegralAt S s) P n z
        → Ge z (pos n)
    power_value P f n z h = record {
      factor = 𝟙;
      integral = 𝓑.one_in;
      outside = place.proper;
      product =
          subst (InPower S (place_at gs) n) (sym (one_mul S.functions z))
          ((in_power_is S scalars (place_at gs) place n z).1
          (power_monotone S.functions B 𝓑 P M (place_module S scalars (place_at gs) place) f n z h));
    }

    inverse_value : (P : E → Type 0) → ((z : E) → M z → P z) → (n : ℕ) (z : E)
        → Power ops (IsIntegralAt S s) (Inverse ops (IsIntegralAt S s) P) (suc n) z
        → Ge z (negsuc n)
    inverse_value P f n z h = record {
      factor = 𝟙;
      integral = 𝓑.one_in;
      outside = place.proper;
      products = λ w i.
          subst (λ x. B (x ⊗ w)) (sym (one_mul S.functions z))
          (powers_kill M (suc n) z w
          (power_monotone S.functions B 𝓑 (Inverse ops B P) (Inverse ops B M) (inverse_is_module S.functions B 𝓑 M)
          (λ y g x m. g x (f x m)) (suc n) z h)
          ((in_power_is S scalars (place_at gs) place (suc n) w).0 i));
    }

    -- of powers of the same set
    pub same_value : (P : E → Type 0) → SameSet (IsIn S (place_at gs)) P → (m : ℤ) (z : E)
        → PrimePower ops (IsIntegralAt S s) P m z
        → HasValuationAtLeast S (place_at gs) z m
    same_value P same (pos n) z h =
        product_into S.functions (Power ops B P n) B (λ z. Ge z (pos n)) (values_additive (pos n))
        (λ a b i j.
        at_least_weaker S scalars (place_at gs) place (a ⊗ b) (pos n +ℤ pos 0) (pos n) (omega (arith, ints))
        (at_least_product S scalars (place_at gs) place a b (pos n) (pos 0) (power_value P (λ x. (same x).1) n a i)
        (at_least_of_integral S scalars (place_at gs) place b j))) z h
    same_value P same (negsuc n) z h =
        product_into S.functions B (Power ops B (Inverse ops B P) (suc n)) (λ z. Ge z (negsuc n))
        (values_additive (negsuc n))
        (λ a b i j.
        at_least_weaker S scalars (place_at gs) place (a ⊗ b) (pos 0 +ℤ negsuc n) (negsuc n) (omega (arith, ints))
        (at_least_product S scalars (place_at gs) place a b (pos 0) (negsuc n)
        (at_least_of_integral S scalars (place_at gs) place a i)
        (inverse_value P (λ x. (same x).0) n b j))) z h

    -- of powers of an ideal that isn't within the place
    pub other_value : IsPrime ops (IsIntegralAt S s) (IsIn S (place_at gs)) → (P : E → Type 0)
        → IsIdeal ops (IsIntegralAt S s) P → (d : E) → P d
        → ¬ (IsIn S (place_at gs) d) → (m : ℤ) (z : E) → PrimePower ops (IsIntegralAt S s) P m z
        → HasValuationAtLeast S (place_at gs) z (pos 0)
    other_value 𝓜 P 𝓟 d d_in d_out m z h =
        product_into S.functions (Power ops B P (up m)) (Power ops B (Inverse ops B P) (down m)) (λ z. Ge z (pos 0))
        (values_additive (pos 0))
        (λ a b i j.
        at_least_weaker S scalars (place_at gs) place (a ⊗ b) (pos 0 +ℤ pos 0) (pos 0) (omega (arith, ints))
        (at_least_product S scalars (place_at gs) place a b (pos 0) (pos 0)
        (at_least_of_integral S scalars (place_at gs) place a (power_within S.functions B 𝓑 P 𝓟 (up m) a i))
        (inverse b j))) z h
      where
        inverse : (b : E) → Power ops (IsIntegralAt S s) (Inverse ops (IsIntegralAt S s) P) (down m) b → Ge b (pos 0)
        inverse b j =
            let o = outside_power S.functions B 𝓑 M 𝓜 d (record { within = 𝓟.within d d_in; out = d_out }) (down m) in
            record {
              factor = pow ops d (down m);
              integral = o.within;
              outside = o.out;
              product =
                  power_cancel S.functions B 𝓑 (Inverse ops B P) d
                  (λ y g. subst B (S.functions.mul_comm y d) (g d d_in)) (down m) b j;
            }
