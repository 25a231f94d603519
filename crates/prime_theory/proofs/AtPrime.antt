-- Modules localised at a prime, and valuations by ideals: the value of z at P is at least a - b where z is in P^(a -
-- b) at P.
use Rattle.std.proofs.Common.{◌≡◌, ℕ, ◌+◌, [], ◌∷◌, refl, sym, subst}
use Rattle.ring_lemmas.specs.Ring.{CommRing, pow}
use Rattle.ring_theory.specs.Subsets.{IsSubring, IsModule, Product}
use Rattle.ring_lemmas.proofs.Ring.{one_mul, mul_left_comm, mul_mul}
use Rattle.ring_theory.proofs.Subsets.{product_member, product_module}
use Rattle.ring_lemmas.proofs.Solver.{ring, reads, from_one}
use Rattle.prime_theory.specs.Ideals.{IsAdditive, Inverse, Power, SameSet}
use Rattle.prime_theory.specs.Primes.{IsPrime, Outside, Pair, theta, AtLeast}
use Rattle.prime_theory.specs.Systems.{At, IdealPower}
use Rattle.prime_theory.proofs.Products.{product_universal, product_into, own_module, product_monotone, power_module, power_member, power_add, power_cancel, additive_of_module, product_additive}
use Rattle.prime_theory.proofs.Primes.{ideal_module, outside_product, outside_power, one_outside, inverse_module, invertible_of_pair}
use Rattle.prime_theory.proofs.Valuation.{theta_cross}

module _ {A : Type 0} (R : CommRing A) (O : A → Type 0) (𝓞 : IsSubring R.ops O) where
  infixl 65 ◌⊕◌
  infixl 70 ◌⊗◌
  infixr 80 ⊖◌
  open R use {𝟘, 𝟙, ◌⊕◌, ◌⊗◌, ⊖◌}

  -- (K·L)·(M·N) is in (K·M)·(L·N)
  pub product_exchange : (K L M N : A → Type 0) → IsModule R.ops O K → IsModule R.ops O L → IsModule R.ops O M
      → (z : A) → Product R.ops (Product R.ops K L) (Product R.ops M N) z
      → Product R.ops (Product R.ops K M) (Product R.ops L N) z
  product_exchange K L M N 𝓚 𝓛 𝓜 =
      let all = Product R.ops (Product R.ops K M) (Product R.ops L N) in
      let 𝓐 = product_additive R O 𝓞 (Product R.ops K M) (Product R.ops L N) (product_module R O 𝓞 K M 𝓚) in
      product_into R (Product R.ops K L) (Product R.ops M N) all 𝓐
      (λ x y h k.
      product_universal R M N all 𝓐 x
      (λ c d m n.
      subst all (R.mul_comm _ _)
      (product_universal R K L all 𝓐 (c ⊗ d)
      (λ a b i j.
      subst all
      (ring R (a ∷ b ∷ c ∷ d ∷ []) λ q x. simp (reads, q, x 0, x 1, x 2, x 3) (q.equal _ _ refl))
      (product_member R O 𝓞 (Product R.ops K M) (Product R.ops L N) (a ⊗ c) (b ⊗ d)
      (product_member R O 𝓞 K M a c i m)
      (product_member R O 𝓞 L N b d j n)))
      x h))
      y k)

  module _ (P : A → Type 0) (𝓟 : IsPrime R.ops O P) where
    pub at_of : (M : A → Type 0) (z : A) → M z → At R.ops O P M z
    at_of M z m = record { factor = 𝟙; factor_in = one_outside R O 𝓞 P 𝓟; multiple_in = subst M (sym (one_mul R z)) m }

    pub at_wider : (M N : A → Type 0) → ((z : A) → M z → N z) → (z : A) → At R.ops O P M z → At R.ops O P N z
    at_wider M N f z h = record { factor = h.factor; factor_in = h.factor_in; multiple_in = f _ h.multiple_in }

    pub at_module : (M : A → Type 0) → IsModule R.ops O M → IsModule R.ops O (At R.ops O P M)
    at_module M 𝓜 = record {
      zero_in = at_of M 𝟘 𝓜.zero_in;
      sum_in = λ a b h k. record {
        factor = h.factor ⊗ k.factor;
        factor_in = outside_product R O 𝓞 P 𝓟 _ _ h.factor_in k.factor_in;
        multiple_in =
            subst M
            (ring R (a ∷ b ∷ h.factor ∷ k.factor ∷ []) λ q x. simp (reads, q, x 0, x 1, x 2, x 3) (q.equal _ _ refl))
            (𝓜.sum_in _ _
            (𝓜.scale_in k.factor _ k.factor_in.within h.multiple_in)
            (𝓜.scale_in h.factor _ h.factor_in.within k.multiple_in));
      };
      scale_in = λ s a m h. record {
        factor = h.factor;
        factor_in = h.factor_in;
        multiple_in = subst M (mul_left_comm R _ _ _) (𝓜.scale_in s _ m h.multiple_in);
      };
    }

    pub at_additive : (M : A → Type 0) → IsModule R.ops O M → IsAdditive R.ops (At R.ops O P M)
    at_additive M 𝓜 = additive_of_module R O _ (at_module M 𝓜)

    pub at_product : (M N : A → Type 0) (a b : A) → At R.ops O P M a → At R.ops O P N b
        → At R.ops O P (Product R.ops M N) (a ⊗ b)
    at_product M N a b h k = record {
      factor = h.factor ⊗ k.factor;
      factor_in = outside_product R O 𝓞 P 𝓟 _ _ h.factor_in k.factor_in;
      multiple_in =
          subst (Product R.ops M N) (mul_mul R _ _ _ _)
          (product_member R O 𝓞 M N _ _ h.multiple_in k.multiple_in);
    }

    pub at_unit : (M : A → Type 0) (u z : A) → Outside O P u → At R.ops O P M (u ⊗ z) → At R.ops O P M z
    at_unit M u z h k = record {
      factor = k.factor ⊗ u;
      factor_in = outside_product R O 𝓞 P 𝓟 _ _ k.factor_in h;
      multiple_in = subst M (sym (R.mul_assoc _ _ _)) k.multiple_in;
    }

    pub at_at : (M : A → Type 0) (z : A) → At R.ops O P (At R.ops O P M) z → At R.ops O P M z
    at_at M z h = at_unit M h.factor z h.factor_in h.multiple_in

    module _ (pair : Pair R.ops O P) where
      abbrev t : A
      t = pair.tau

      abbrev g : A
      g = pair.gamma

      abbrev Q : A → Type 0
      Q = Inverse R.ops O P

      𝓟m : IsModule R.ops O P
      𝓟m = ideal_module R O 𝓞 P 𝓟.ideal

      𝓠m : IsModule R.ops O Q
      𝓠m = inverse_module R O 𝓞 P 𝓟

      pub ideal_power_module : (a b : ℕ) → IsModule R.ops O (IdealPower R.ops O P a b)
      ideal_power_module a b = product_module R O 𝓞 _ _ (power_module R O 𝓞 P 𝓟m a)

      -- P·Q is O
      pub inverse_product : SameSet (Product R.ops P Q) O
      inverse_product z = (
        product_into R P Q O (additive_of_module R O O (own_module R O 𝓞))
            (λ a b m n. subst O (R.mul_comm b a) (n a m)) z,
        λ m. subst (Product R.ops P Q) (R.mul_one z)
            ((product_module R O 𝓞 P Q 𝓟m).scale_in z 𝟙 m (invertible_of_pair R O 𝓞 P 𝓟 pair)),
      )

      pub ideal_power_add : (a b c d : ℕ)
          → SameSet (Product R.ops (IdealPower R.ops O P a b) (IdealPower R.ops O P c d))
          (IdealPower R.ops O P (a + c) (b + d))
      ideal_power_add a b c d z =
          let pw : (n : ℕ) → A → Type 0 = Power R.ops O P in
          let qw : (n : ℕ) → A → Type 0 = Power R.ops O Q in
          let 𝓪 = power_module R O 𝓞 P 𝓟m in
          let 𝓫 = power_module R O 𝓞 Q 𝓠m in
          let up = power_add R O 𝓞 P 𝓟m a c in
          let down = power_add R O 𝓞 Q 𝓠m b d in (
            λ h.
                product_monotone R O 𝓞 (Product R.ops (pw a) (pw c)) (Product R.ops (qw b) (qw d)) (pw (a + c))
                (qw (b + d)) (𝓪 (a + c))
                (λ x. (up x).0) (λ x. (down x).0) z
                (product_exchange (pw a) (qw b) (pw c) (qw d) (𝓪 a) (𝓫 b) (𝓪 c) z h),
            λ h.
                product_exchange (pw a) (pw c) (qw b) (qw d) (𝓪 a) (𝓪 c) (𝓫 b) z
                (product_monotone R O 𝓞 (pw (a + c)) (qw (b + d)) (Product R.ops (pw a) (pw c))
                (Product R.ops (qw b) (qw d))
                (product_module R O 𝓞 (pw a) (pw c) (𝓪 a))
                (λ x. (up x).1) (λ x. (down x).1) z h),
          )

      -- P^(a - b) times theta is in O
      pub ideal_power_theta : (a b : ℕ) (z : A) → IdealPower R.ops O P a b z → O (theta R.ops t g a b ⊗ z)
      unfolding theta
      ideal_power_theta a b =
          product_universal R (Power R.ops O P a) (Power R.ops O Q b) O (additive_of_module R O O (own_module R O 𝓞))
          (theta R.ops t g a b)
          (λ x y m n.
          subst O (mul_mul R _ _ _ _)
          (𝓞.product_in _ _
          (power_cancel R O 𝓞 P g pair.gamma_in a x m)
          (power_cancel R O 𝓞 Q t (λ c k. subst O (R.mul_comm c t) (k t pair.tau_in)) b y n)))

      -- theta of the opposite exponents is in P^(a - b)
      pub theta_in_power : (a b : ℕ) → IdealPower R.ops O P a b (theta R.ops t g b a)
      unfolding theta
      theta_in_power a b =
          subst (IdealPower R.ops O P a b) (R.mul_comm _ _)
          (product_member R O 𝓞 (Power R.ops O P a) (Power R.ops O Q b) _ _
          (power_member R O 𝓞 P 𝓟m t pair.tau_in a)
          (power_member R O 𝓞 Q 𝓠m g pair.gamma_in b))

      pub value_of_at : (z : A) (a b : ℕ) → At R.ops O P (IdealPower R.ops O P a b) z → AtLeast R.ops O P t g z a b
      value_of_at z a b h = record {
        unit = h.factor;
        unit_out = h.factor_in;
        inside = subst O (R.mul_comm _ _) (ideal_power_theta a b _ h.multiple_in);
      }

      pub at_of_value : (z : A) (a b : ℕ) → AtLeast R.ops O P t g z a b → At R.ops O P (IdealPower R.ops O P a b) z
      at_of_value z a b h = record {
        factor = h.unit ⊗ pow R.ops (t ⊗ g) (a + b);
        factor_in = outside_product R O 𝓞 P 𝓟 _ _ h.unit_out (outside_power R O 𝓞 P 𝓟 _ pair.outside (a + b));
        multiple_in =
            let f : (x y r : A) → x ⊗ y ≡ r → h.unit ⊗ z ⊗ x ⊗ y ≡ h.unit ⊗ r ⊗ z
            = λ x y r e.
            from_one R (h.unit ⊗ z) e
            (ring R (h.unit ∷ z ∷ x ∷ y ∷ r ∷ []) λ q i. simp (reads, q, i 0, i 1, i 2, i 3, i 4) (q.equal _ _ refl)) in
            subst (IdealPower R.ops O P a b)
            (f (theta R.ops t g a b) (theta R.ops t g b a) (pow R.ops (t ⊗ g) (a + b)) (theta_cross R t g a b))
            ((ideal_power_module a b).scale_in _ _ h.inside (theta_in_power a b));
      }
