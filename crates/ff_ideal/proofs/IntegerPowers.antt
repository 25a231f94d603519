-- Inverses and powers of modules over a ring O, by their members.
use Rattle.std.proofs.Common.{◌≡◌, ℕ, suc, ◌+◌, sym, subst, arith}
use Rattle.std.specs.Prelude.{ℤ, pos, negsuc, ◌<ℤ◌, unsigned_abs}
use Rattle.std.proofs.lemmas.Int.{ints}
use Rattle.ring_lemmas.specs.Ring.{CommRing}
use Rattle.ring_theory.specs.Subsets.{IsSubring, IsModule, Product}
use Rattle.ring_theory.proofs.Subsets.{product_member, product_module}
use Rattle.prime_theory.specs.Ideals.{SameSet, Inverse, Invertible, Power}
use Rattle.prime_theory.proofs.Products.{product_into, product_monotone, power_module, power_add, own_module, additive_of_module}
use Rattle.prime_theory.proofs.Invertible.{inverse_is_module}
use Rattle.prime_theory.proofs.PrimeProducts.{power_monotone}
use Rattle.ff_ideal.specs.Powers.{IntegerPower}

module _ {A : Type 0} (R : CommRing A) (O : A → Type 0) (𝓞 : IsSubring R.ops O) where
  infixl 70 ◌⊗◌
  open R use {ops, 𝟙, ◌⊗◌}

  -- a set with the members of a module is one
  pub same_module : (M N : A → Type 0) → SameSet M N → IsModule R.ops O N → IsModule R.ops O M
  same_module M N s 𝓝 = record {
    zero_in = (s _).1 𝓝.zero_in;
    sum_in = λ a b m n. (s _).1 (𝓝.sum_in a b ((s a).0 m) ((s b).0 n));
    scale_in = λ c a c_in m. (s _).1 (𝓝.scale_in c a c_in ((s a).0 m));
  }

  -- the inverse of an invertible module and the module have the product O
  pub inverse_times : (I J : A → Type 0) → Invertible R.ops O I → SameSet J (Inverse R.ops O I)
      → SameSet (Product R.ops J I) O
  inverse_times I J invertible s z = (
    product_into R J I O (additive_of_module R O O (own_module R O 𝓞)) (λ a b m i. (s a).0 m b i) z,
    λ z_in. subst (Product ops J I) (R.mul_one z) (product.scale_in z 𝟙 z_in one),
  )
    where
      product : IsModule R.ops O (Product R.ops J I)
      product = product_module R O 𝓞 J I (same_module J (Inverse R.ops O I) s (inverse_is_module R O 𝓞 I))

      one : Product R.ops J I R.𝟙
      one =
          product_into R I (Inverse R.ops O I) (Product R.ops J I) (additive_of_module R O _ product)
          (λ a b m i. subst (Product R.ops J I) (R.mul_comm b a) (product_member R O 𝓞 J I b a ((s b).1 i) m))
          R.𝟙 invertible

  module _ (I : A → Type 0) (𝓘 : IsModule R.ops O I) where
    powers : (n : ℕ) → IsModule R.ops O (Power R.ops O I n)
    powers = power_module R O 𝓞 I 𝓘

    pub first_power : SameSet (Power R.ops O I 1) I
    first_power z = (
      product_into R I O I (additive_of_module R O I 𝓘)
          (λ a b m i. subst I (R.mul_comm b a) (𝓘.scale_in b a i m)) z,
      λ m. subst (Product ops I O) (R.mul_one z) (product_member R O 𝓞 I O z 𝟙 m 𝓞.one_in),
    )

    -- the square of a power
    pub square_power : (H : A → Type 0) (n m : ℕ) → n + n ≡ m → SameSet H (Power R.ops O I n)
        → SameSet (Product R.ops H H) (Power R.ops O I m)
    square_power H n m e s =
        subst (λ l. SameSet (Product ops H H) (Power ops O I l)) e
        (λ z. (
          λ h. (power_add R O 𝓞 I 𝓘 n n z).0
              (product_monotone R O 𝓞 H H (Power ops O I n) (Power ops O I n) (powers n) (λ a. (s a).0) (λ a. (s a).0)
              z h),
          λ h.
              product_monotone R O 𝓞 (Power ops O I n) (Power ops O I n) H H
              (same_module H (Power ops O I n) s (powers n)) (λ a. (s a).1) (λ a. (s a).1) z
              ((power_add R O 𝓞 I 𝓘 n n z).1 h),
        ))

    -- one factor more
    pub next_power : (H : A → Type 0) (n m : ℕ) → suc n ≡ m → SameSet H (Power R.ops O I n)
        → SameSet (Product R.ops I H) (Power R.ops O I m)
    next_power H n m e s =
        subst (λ l. SameSet (Product ops I H) (Power ops O I l)) e
        (λ z. (
          product_monotone R O 𝓞 I H I (Power ops O I n) 𝓘 (λ a m. m) (λ a. (s a).0) z,
          product_monotone R O 𝓞 I (Power ops O I n) I H 𝓘 (λ a m. m) (λ a. (s a).1) z,
        ))

  -- powers of the same modules
  pub same_power : (I J : A → Type 0) → IsModule R.ops O I → IsModule R.ops O J → SameSet J I → (n : ℕ)
      → SameSet (Power R.ops O J n) (Power R.ops O I n)
  same_power I J 𝓘 𝓙 s n z =
      (power_monotone R O 𝓞 J I 𝓘 (λ a. (s a).0) n z, power_monotone R O 𝓞 I J 𝓙 (λ a. (s a).1) n z)

  -- an exponent above 0
  pub power_up : (I : A → Type 0) (m : ℤ) → pos 0 <ℤ m
      → SameSet (Power R.ops O I (unsigned_abs m)) (IntegerPower R.ops O I m)
  power_up I (pos n) l z = (λ h. h, λ h. h)
  power_up I (negsuc n) l z = absurd (omega (arith, ints))

  -- an exponent of 0
  pub power_none : (I : A → Type 0) (m : ℤ) → m ≡ pos 0 → SameSet O (IntegerPower R.ops O I m)
  power_none I m e = subst (λ l. SameSet O (IntegerPower ops O I l)) (sym e) (λ z. (λ h. h, λ h. h))

  -- an exponent below 0, where J is the inverse
  pub power_down : (I J : A → Type 0) → SameSet J (Inverse R.ops O I) → (m : ℤ) → m <ℤ pos 0
      → SameSet (Power R.ops O J (unsigned_abs m)) (IntegerPower R.ops O I m)
  power_down I J s (pos n) l z = absurd (omega (arith, ints))
  power_down I J s (negsuc n) l z =
      let 𝓠 = inverse_is_module R O 𝓞 I in
      same_power (Inverse ops O I) J 𝓠 (same_module J (Inverse ops O I) s 𝓠) s (suc n) z
