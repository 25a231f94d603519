-- Products of powers of primes, localised at one prime: only the exponents at that prime count.
use Rattle.std.proofs.Common.{◌↔◌, ◌⊎◌, inl, inr, ℕ, zero, suc, ◌+◌, List, [], ◌∷◌, subst, zero-add}
use Rattle.ring_lemmas.specs.Ring.{CommRing, pow}
use Rattle.ring_theory.specs.Subsets.{IsSubring, IsModule, Product}
use Rattle.ring_lemmas.proofs.Ring.{one_mul, mul_left_comm, pow_one_base}
use Rattle.ring_theory.proofs.Subsets.{product_member, product_module}
use Rattle.prime_theory.specs.Ideals.{IsIdeal, Inverse, Power, SameSet}
use Rattle.prime_theory.specs.Primes.{IsPrime, Outside, Pair, Different, AtLeast}
use Rattle.prime_theory.specs.Systems.{At, IdealPower, IdealProduct, PrimeExponent, IsFamily, counted, total_up, total_down}
use Rattle.prime_theory.proofs.Products.{product_universal, product_into, own_module, product_monotone, product_one, power_module, power_member, power_cancel, additive_of_module}
use Rattle.prime_theory.proofs.Primes.{ideal_module, outside_power, one_in_inverse, inverse_module}
use Rattle.prime_theory.proofs.AtPrime.{at_of, at_wider, at_additive, at_product, at_at, ideal_power_module, ideal_power_add, value_of_at, at_of_value}

module _ {A : Type 0} (R : CommRing A) (O : A → Type 0) (𝓞 : IsSubring R.ops O) where
  infixl 65 ◌⊕◌
  infixl 70 ◌⊗◌
  infixr 80 ⊖◌
  open R use {𝟘, 𝟙, ◌⊕◌, ◌⊗◌, ⊖◌}

  pub power_monotone : (M N : A → Type 0) → IsModule R.ops O N → ((a : A) → M a → N a) → (n : ℕ) (z : A)
      → Power R.ops O M n z → Power R.ops O N n z
  power_monotone M N 𝓝 f zero z m = m
  power_monotone M N 𝓝 f (suc n) z m =
      product_monotone R O 𝓞 M (Power R.ops O M n) N (Power R.ops O N n) 𝓝 f (power_monotone M N 𝓝 f n) z m

  pub inverse_same : (M N : A → Type 0) → ((a : A) → N a → M a) → (z : A) → Inverse R.ops O M z → Inverse R.ops O N z
  inverse_same M N f z h y m = h y (f y m)

  -- powers of an ideal within O are within O
  pub power_within : (P : A → Type 0) → IsIdeal R.ops O P → (n : ℕ) (z : A) → Power R.ops O P n z → O z
  power_within P 𝓟 zero z m = m
  power_within P 𝓟 (suc n) z m =
      product_into R P (Power R.ops O P n) O (additive_of_module R O O (own_module R O 𝓞))
      (λ a b i j. 𝓞.product_in _ _ (𝓟.within a i) (power_within P 𝓟 n b j)) z m

  -- powers of the same prime
  pub ideal_power_same : (P P' : A → Type 0) → IsPrime R.ops O P → IsPrime R.ops O P' → SameSet P P' → (a b : ℕ) (z : A)
      → IdealPower R.ops O P a b z → IdealPower R.ops O P' a b z
  ideal_power_same P P' 𝓟 𝓟' s a b z h =
      let 𝓲 = ideal_module R O 𝓞 P' 𝓟'.ideal in
      product_monotone R O 𝓞 (Power R.ops O P a) (Power R.ops O (Inverse R.ops O P) b)
      (Power R.ops O P' a) (Power R.ops O (Inverse R.ops O P') b) (power_module R O 𝓞 P' 𝓲 a)
      (power_monotone P P' 𝓲 (λ x. (s x).0) a)
      (power_monotone (Inverse R.ops O P) (Inverse R.ops O P') (inverse_module R O 𝓞 P' 𝓟')
      (inverse_same P P' (λ x. (s x).1)) b)
      z h

  pub at_same : (P P' M : A → Type 0) → SameSet P P' → (z : A) → At R.ops O P M z → At R.ops O P' M z
  at_same P P' M s z h = record {
    factor = h.factor;
    factor_in = record { within = h.factor_in.within; out = λ m. h.factor_in.out ((s _).1 m) };
    multiple_in = h.multiple_in;
  }

  -- a value does not depend on the pair, and is the same at the same prime
  pub value_same : (P P' : A → Type 0) (𝓟 : IsPrime R.ops O P) (𝓟' : IsPrime R.ops O P') (t : Pair R.ops O P)
      (t' : Pair R.ops O P')
      → SameSet P P' → (z : A) (a b : ℕ) → AtLeast R.ops O P t.tau t.gamma z a b
      → AtLeast R.ops O P' t'.tau t'.gamma z a b
  value_same P P' 𝓟 𝓟' t t' s z a b h =
      value_of_at R O 𝓞 P' 𝓟' t' z a b
      (at_same P P' _ s z
      (at_wider R O 𝓞 P 𝓟 _ _ (ideal_power_same P P' 𝓟 𝓟' s a b) z (at_of_value R O 𝓞 P 𝓟 t z a b h)))

  -- a power of a different prime is O locally
  module _ (P : A → Type 0) (𝓟 : IsPrime R.ops O P) (P' : A → Type 0) (𝓟' : IsPrime R.ops O P')
      (d : Different P' P) where
    u_outside : Outside O P d.first
    u_outside = record { within = 𝓟'.ideal.within _ d.first_in; out = d.first_out }

    pub different_within : (a b : ℕ) (z : A) → IdealPower R.ops O P' a b z → At R.ops O P O z
    different_within a b z h = record {
      factor = pow R.ops d.first b;
      factor_in = outside_power R O 𝓞 P 𝓟 d.first u_outside b;
      multiple_in =
          product_universal R (Power R.ops O P' a) (Power R.ops O (Inverse R.ops O P') b) O
          (additive_of_module R O O (own_module R O 𝓞)) (pow R.ops d.first b)
          (λ x y m n.
          subst O (mul_left_comm R _ _ _)
          (𝓞.product_in _ _ (power_within P' 𝓟'.ideal a x m)
          (power_cancel R O 𝓞 (Inverse R.ops O P') d.first (λ c k. subst O (R.mul_comm _ _) (k d.first d.first_in)) b
          y n)))
          z h;
    }

    pub different_one : (a b : ℕ) → At R.ops O P (IdealPower R.ops O P' a b) 𝟙
    different_one a b = record {
      factor = pow R.ops d.first a;
      factor_in = outside_power R O 𝓞 P 𝓟 d.first u_outside a;
      multiple_in =
          product_member R O 𝓞 (Power R.ops O P' a) (Power R.ops O (Inverse R.ops O P') b) _ _
          (power_member R O 𝓞 P' (ideal_module R O 𝓞 P' 𝓟'.ideal) d.first d.first_in a)
          (subst (Power R.ops O (Inverse R.ops O P') b) (pow_one_base R b)
          (power_member R O 𝓞 (Inverse R.ops O P') (inverse_module R O 𝓞 P' 𝓟') 𝟙 (one_in_inverse R O 𝓞 P' 𝓟') b));
    }

  module _ (I : Type 0) (P : I → A → Type 0) (fam : IsFamily R.ops O I P) where
    abbrev pub up_at : I → List (PrimeExponent I) → ℕ
    up_at i l = total_up (λ j. fam.compare j i) l

    abbrev pub down_at : I → List (PrimeExponent I) → ℕ
    down_at i l = total_down (λ j. fam.compare j i) l

    abbrev K : PrimeExponent I → A → Type 0
    K e = IdealPower R.ops O (P e.index) e.up e.down

    abbrev Prod : List (PrimeExponent I) → A → Type 0
    Prod l = IdealProduct R.ops O P l

    pub ideal_product_module : (l : List (PrimeExponent I)) → IsModule R.ops O (IdealProduct R.ops O P l)
    ideal_product_module [] = own_module R O 𝓞
    ideal_product_module (e ∷ l) =
        product_module R O 𝓞 (K e) (Prod l)
        (ideal_power_module R O 𝓞 (P e.index) (fam.prime e.index) (fam.pair e.index) e.up e.down)

    module _ (i : I) where
      abbrev Target : ℕ → ℕ → A → Type 0
      Target a b = IdealPower R.ops O (P i) a b

      abbrev 𝓟 : IsPrime R.ops O (P i)
      𝓟 = fam.prime i

      𝓜 : (a b : ℕ) → IsModule R.ops O (Target a b)
      𝓜 = ideal_power_module R O 𝓞 (P i) (fam.prime i) (fam.pair i)

      module _ (e : PrimeExponent I) (l : List (PrimeExponent I)) (a b : ℕ) where
        abbrev all : A → Type 0
        all = Target (e.up + a) (e.down + b)

        abbrev both : A → Type 0
        both = Product R.ops (K e) (Prod l)

        add : SameSet (Product R.ops (Target e.up e.down) (Target a b)) (Target (e.up + a) (e.down + b))
        add = ideal_power_add R O 𝓞 (P i) (fam.prime i) (fam.pair i) e.up e.down a b

        head_case : (c : SameSet (P e.index) (P i) ⊎ Different (P e.index) (P i))
            → ((z : A) → At R.ops O (P i) (Prod l) z ↔ At R.ops O (P i) (Target a b) z)
            → (z : A) → At R.ops O (P i) (Product R.ops (K e) (Prod l)) z
            ↔ At R.ops O (P i) (Target (counted e.up c + a) (counted e.down c + b)) z
        head_case (inl s) ih z = (
          λ h.
              at_at R O 𝓞 (P i) 𝓟 all z
              (at_wider R O 𝓞 (P i) 𝓟 (Product R.ops (K e) (Prod l)) (At R.ops O (P i) all)
              (product_into R (K e) (Prod l) (At R.ops O (P i) all)
              (at_additive R O 𝓞 (P i) 𝓟 all (𝓜 (e.up + a) (e.down + b)))
              (λ x y m n.
              at_wider R O 𝓞 (P i) 𝓟 (Product R.ops (Target e.up e.down) (Target a b)) all (λ w. (add w).0) (x ⊗ y)
              (at_product R O 𝓞 (P i) 𝓟 (Target e.up e.down) (Target a b) x y
              (at_of R O 𝓞 (P i) 𝓟 (Target e.up e.down) x
              (ideal_power_same (P e.index) (P i) (fam.prime e.index) 𝓟 s e.up e.down x m))
              ((ih y).0 (at_of R O 𝓞 (P i) 𝓟 (Prod l) y n)))))
              z h),
          λ h.
              at_at R O 𝓞 (P i) 𝓟 both z
              (at_wider R O 𝓞 (P i) 𝓟 all (At R.ops O (P i) both)
              (λ w k.
              product_into R (Target e.up e.down) (Target a b) (At R.ops O (P i) both)
              (at_additive R O 𝓞 (P i) 𝓟 both (ideal_product_module (e ∷ l)))
              (λ x y m n.
              at_product R O 𝓞 (P i) 𝓟 (K e) (Prod l) x y
              (at_of R O 𝓞 (P i) 𝓟 (K e) x
              (ideal_power_same (P i) (P e.index) 𝓟 (fam.prime e.index) (λ v. ((s v).1, (s v).0)) e.up e.down x m))
              ((ih y).1 (at_of R O 𝓞 (P i) 𝓟 (Target a b) y n)))
              w ((add w).1 k))
              z h),
        )
        head_case (inr d) ih z = rw (zero-add a, zero-add b) (
          λ h.
              at_at R O 𝓞 (P i) 𝓟 (Target a b) z
              (at_wider R O 𝓞 (P i) 𝓟 both (At R.ops O (P i) (Target a b))
              (product_into R (K e) (Prod l) (At R.ops O (P i) (Target a b))
              (at_additive R O 𝓞 (P i) 𝓟 (Target a b) (𝓜 a b))
              (λ x y m n.
              at_wider R O 𝓞 (P i) 𝓟 (Product R.ops O (Target a b)) (Target a b)
              (λ w. (product_one R O 𝓞 (Target a b) (𝓜 a b) w).0) (x ⊗ y)
              (at_product R O 𝓞 (P i) 𝓟 O (Target a b) x y
              (different_within (P i) 𝓟 (P e.index) (fam.prime e.index) d e.up e.down x m)
              ((ih y).0 (at_of R O 𝓞 (P i) 𝓟 (Prod l) y n)))))
              z h),
          λ h.
              subst (At R.ops O (P i) both) (one_mul R z)
              (at_product R O 𝓞 (P i) 𝓟 (K e) (Prod l) 𝟙 z
              (different_one (P i) 𝓟 (P e.index) (fam.prime e.index) d e.up e.down)
              ((ih z).1 h)),
        )

      -- the product of a list and the power of P i with the total exponent are the same at P i
      pub at_ideal_product : (l : List (PrimeExponent I)) (z : A)
          → At R.ops O (P i) (IdealProduct R.ops O P l) z
          ↔ At R.ops O (P i) (IdealPower R.ops O (P i) (up_at i l) (down_at i l)) z
      at_ideal_product [] z =
          let same = product_one R O 𝓞 O (own_module R O 𝓞) in (
            at_wider R O 𝓞 (P i) (fam.prime i) O (Product R.ops O O) (λ w. (same w).1) z,
            at_wider R O 𝓞 (P i) (fam.prime i) (Product R.ops O O) O (λ w. (same w).0) z,
          )
      at_ideal_product (e ∷ l) z =
          head_case e l (up_at i l) (down_at i l) (fam.compare e.index i) (at_ideal_product l) z

      abbrev Ge : A → ℕ → ℕ → Type 0
      Ge z a b = AtLeast R.ops O (P i) (fam.pair i).tau (fam.pair i).gamma z a b

      pub value_of_ideal_product : (l : List (PrimeExponent I)) (z : A) → IdealProduct R.ops O P l z
          → Ge z (up_at i l) (down_at i l)
      value_of_ideal_product l z h =
          value_of_at R O 𝓞 (P i) (fam.prime i) (fam.pair i) z _ _
          ((at_ideal_product l z).0 (at_of R O 𝓞 (P i) (fam.prime i) (Prod l) z h))

      pub ideal_product_of_value : (l : List (PrimeExponent I)) (z : A) → Ge z (up_at i l) (down_at i l)
          → At R.ops O (P i) (IdealProduct R.ops O P l) z
      ideal_product_of_value l z h =
          (at_ideal_product l z).1 (at_of_value R O 𝓞 (P i) (fam.prime i) (fam.pair i) z _ _ h)
