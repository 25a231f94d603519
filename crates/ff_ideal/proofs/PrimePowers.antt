-- The powers of an invertible prime of a ring O: an element gamma of the inverse outside O lowers exponents by one, and
-- the exponent of the greatest power that has a member of O is its value.
use Rattle.std.proofs.Common.{◌≡◌, ◌↔◌, ◌⊎◌, inl, inr, ℕ, zero, suc, ◌+◌, List, [], ◌∷◌, refl, sym, ◌∙◌, ap, subst, arith}
use Rattle.std.proofs.Math.IntN.{pos, ◌-ℤ◌}
use Rattle.ring_lemmas.specs.Ring.{CommRing}
use Rattle.ring_lemmas.specs.Sums.{sum_over}
use Rattle.ring_lemmas.proofs.Ring.{one_mul, zero_mul}
use Rattle.ring_lemmas.proofs.Solver.{ring, reads}
use Rattle.ring_theory.specs.Subsets.{IsSubring, IsModule, Factors}
use Rattle.ring_theory.proofs.Subsets.{product_member}
use Rattle.prime_theory.specs.Ideals.{Inverse, Invertible, Power}
use Rattle.prime_theory.specs.Primes.{IsPrime, Outside, Pair, AtLeast, Exactly}
use Rattle.prime_theory.specs.Systems.{IdealPower}
use Rattle.prime_theory.specs.IntegerValues.{up, down, ValueIs}
use Rattle.prime_theory.proofs.Products.{product_universal, product_into, additive_of_module, power_module}
use Rattle.prime_theory.proofs.Primes.{ideal_module}
use Rattle.prime_theory.proofs.AtPrime.{at_of, value_of_at, at_of_value}
use Rattle.prime_theory.proofs.Valuation.{more_or_exact, eq_quotient, eq_reindex}
use Rattle.prime_theory.proofs.IntegerFactors.{parts_of}

module _ {A : Type 0} (R : CommRing A) (O : A → Type 0) (𝓞 : IsSubring R.ops O)
    (P : A → Type 0) (𝓟 : IsPrime R.ops O P) where
  infixl 65 ◌⊕◌
  infixl 70 ◌⊗◌
  infixr 80 ⊖◌
  open R use {𝟘, 𝟙, ◌⊕◌, ◌⊗◌, ⊖◌}

  abbrev Pow : ℕ → A → Type 0
  Pow = Power R.ops O P

  powers : (n : ℕ) → IsModule R.ops O (Power R.ops O P n)
  powers = power_module R O 𝓞 P (ideal_module R O 𝓞 P 𝓟.ideal)

  -- each power lies in the one before
  power_before : (n : ℕ) (z : A) → Power R.ops O P (suc n) z → Power R.ops O P n z
  power_before n =
      product_into R P (Pow n) (Pow n) (additive_of_module R O (Pow n) (powers n))
      (λ a b m i. (powers n).scale_in a b (𝓟.ideal.within a m) i)

  -- a member of O is in a power of the prime where a multiple by something outside the prime is
  power_local : (n : ℕ) (u w : A) → Outside O P u → O w → Power R.ops O P n (u ⊗ w) → Power R.ops O P n w
  power_local zero u w out w_in h = w_in
  power_local (suc n) u w out w_in h =
      let i = 𝓟.invert u out.within out.out in
      let less = power_local n u w out w_in (power_before n (u ⊗ w) h) in
      let f : (y : A) → y ⊗ (u ⊗ w) ⊕ ⊖ 𝟙 ⊗ ((y ⊗ u ⊕ ⊖ 𝟙) ⊗ w) ≡ w
      = λ y. ring R (y ∷ u ∷ w ∷ []) λ q x. simp (reads, q, x 0, x 1, x 2) (q.equal _ _ refl) in
      subst (Pow (suc n)) (f i.inverse)
      ((powers (suc n)).sum_in _ _
      ((powers (suc n)).scale_in i.inverse _ i.inverse_in h)
      ((powers (suc n)).scale_in (⊖ 𝟙) _ (𝓞.neg_in 𝟙 𝓞.one_in)
      (product_member R O 𝓞 P (Pow n) _ w i.is less)))

  module _ (g : A) (g_in : Inverse R.ops O P g) (g_out : ¬ (O g)) where
    -- a member of the prime whose product with g is outside it
    record Partner : Type 0 where
      tau : A
      tau_in : P tau
      outside : Outside O P (tau ⊗ g)

    -- among the left factors of a sum of products there is one, or g times the sum is in O
    search_partner : (ps : List (Factors P (Inverse R.ops O P)))
        → Partner ⊎ O (sum_over R.ops ps (λ f. f.left ⊗ f.right) ⊗ g)
    search_partner [] = inr (subst O (sym (zero_mul R g)) 𝓞.zero_in)
    search_partner (t ∷ ts) = go (𝓟.decide (t.left ⊗ g) within) (search_partner ts)
      where
        within : O (t.left ⊗ g)
        within = subst O (R.mul_comm g t.left) (g_in t.left t.left_in)

        go : P (t.left ⊗ g) ⊎ (¬ (P (t.left ⊗ g))) → Partner ⊎ O (sum_over R.ops ts (λ f. f.left ⊗ f.right) ⊗ g)
            → Partner ⊎ O (sum_over R.ops (t ∷ ts) (λ f. f.left ⊗ f.right) ⊗ g)
        go (inr n) r = inl (record { tau = t.left; tau_in = t.left_in; outside = record { within = within; out = n } })
        go (inl m) (inl r) = inl r
        go (inl m) (inr r) =
            let f : (l r s : A) → r ⊗ (l ⊗ g) ⊕ s ⊗ g ≡ (l ⊗ r ⊕ s) ⊗ g
            = λ l r s. ring R (l ∷ r ∷ s ∷ g ∷ []) λ q x. simp (reads, q, x 0, x 1, x 2, x 3) (q.equal _ _ refl) in
            inr (subst O (f t.left t.right _) (𝓞.sum_in _ _ (t.right_in _ m) r))

    module _ (invertible : Invertible R.ops O P) where
      partner : Partner
      partner = go (search_partner invertible.0)
        where
          go : Partner ⊎ O (sum_over R.ops invertible.0 (λ f. f.left ⊗ f.right) ⊗ g) → Partner
          go (inl t) = t
          go (inr m) = absurd (g_out (subst O (ap (λ x. x ⊗ g) (sym invertible.1) ∙ one_mul R g) m))

      -- g lowers exponents by one
      pub power_step : (n : ℕ) (v : A) → O v → Power R.ops O P n (g ⊗ v) ↔ Power R.ops O P (suc n) v
      power_step n v v_in = (
        λ m.
            power_local (suc n) (partner.tau ⊗ g) v partner.outside v_in
            (subst (Pow (suc n)) (sym (R.mul_assoc partner.tau g v))
            (product_member R O 𝓞 P (Pow n) partner.tau (g ⊗ v) partner.tau_in m)),
        product_universal R P (Pow n) (Pow n) (additive_of_module R O (Pow n) (powers n)) g
            (λ a b i j. subst (Pow n) (R.mul_assoc g a b) ((powers n).scale_in (g ⊗ a) b (g_in a i) j)) v,
      )

  module _ (t : Pair R.ops O P) where
    -- members of a power have a value of at least the exponent, and members of O with such a value are in the power
    value_of_power : (n : ℕ) (w : A) → Power R.ops O P n w → AtLeast R.ops O P t.tau t.gamma w n 0
    value_of_power n w m =
        value_of_at R O 𝓞 P 𝓟 t w n 0
        (at_of R O 𝓞 P 𝓟 (IdealPower R.ops O P n 0) w
        (subst (IdealPower R.ops O P n 0) (R.mul_one w) (product_member R O 𝓞 (Pow n) O w 𝟙 m 𝓞.one_in)))

    power_of_value : (n : ℕ) (w : A) → O w → AtLeast R.ops O P t.tau t.gamma w n 0 → Power R.ops O P n w
    power_of_value n w w_in v =
        let a = at_of_value R O 𝓞 P 𝓟 t w n 0 v in
        power_local n a.factor w a.factor_in w_in
        (product_into R (Pow n) O (Pow n) (additive_of_module R O (Pow n) (powers n))
        (λ x y m i. subst (Pow n) (R.mul_comm y x) ((powers n).scale_in y x i m)) _ a.multiple_in)

    -- the exponent of the greatest power is the value
    exact_of_powers : (n : ℕ) (w : A) → O w → Power R.ops O P n w → ¬ (Power R.ops O P (suc n) w)
        → Exactly R.ops O P t.tau t.gamma w n 0
    exact_of_powers n w w_in m less = go (more_or_exact R O 𝓞 P 𝓟 t w n 0 (value_of_power n w m))
      where
        go : AtLeast R.ops O P t.tau t.gamma w (suc n) 0 ⊎ Exactly R.ops O P t.tau t.gamma w n 0
            → Exactly R.ops O P t.tau t.gamma w n 0
        go (inl v) = absurd (less (power_of_value (suc n) w w_in v))
        go (inr v) = v

    -- and the value of a quotient is the difference of the exponents
    pub value_of_powers : (d z : A) (a b : ℕ) → O d → O (d ⊗ z)
        → Power R.ops O P a (d ⊗ z) → ¬ (Power R.ops O P (suc a) (d ⊗ z))
        → Power R.ops O P b d → ¬ (Power R.ops O P (suc b) d)
        → ValueIs R.ops O P t z (pos a -ℤ pos b)
    value_of_powers d z a b d_in dz_in m less n fewer =
        let parts = parts_of a b in
        eq_reindex R O 𝓞 P 𝓟 t z (a + 0) (0 + b) (up (pos a -ℤ pos b)) (down (pos a -ℤ pos b)) (omega (arith, parts))
        (eq_quotient R O 𝓞 P 𝓟 t d z a 0 b 0 (exact_of_powers b d d_in n fewer)
        (exact_of_powers a (d ⊗ z) dz_in m less))
