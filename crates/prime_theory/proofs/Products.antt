-- Products of subsets: the universal property, and the laws that follow from it.
use Rattle.std.proofs.Common.{◌≡◌, ℕ, zero, suc, ◌+◌, List, [], ◌∷◌, refl, sym, subst, zero-add, suc-add}
use Rattle.ring_lemmas.specs.Ring.{CommRing, pow}
use Rattle.ring_lemmas.specs.Sums.{sum_over}
use Rattle.ring_theory.specs.Subsets.{IsSubring, IsModule, Factors, Product}
use Rattle.ring_lemmas.proofs.Ring.{mul_zero, one_mul}
use Rattle.ring_theory.proofs.Subsets.{product_member, product_module}
use Rattle.ring_lemmas.proofs.Solver.{ring, reads}
use Rattle.prime_theory.specs.Ideals.{IsAdditive, Power, SameSet}

module _ {A : Type 0} (R : CommRing A) where
  infixl 65 ◌⊕◌
  infixl 70 ◌⊗◌
  infixr 80 ⊖◌
  open R use {𝟘, 𝟙, ◌⊕◌, ◌⊗◌, ⊖◌}

  -- an additive set that has all h·(a·b) has h times the product
  pub product_universal : (M N C : A → Type 0) → IsAdditive R.ops C → (h : A)
      → ((a b : A) → M a → N b → C (h ⊗ (a ⊗ b)))
      → (z : A) → Product R.ops M N z → C (h ⊗ z)
  product_universal M N C 𝓒 h f z m = subst (λ x. C (h ⊗ x)) (sym m.1) (go m.0)
    where
      go : (ps : List (Factors M N)) → C (h ⊗ sum_over R.ops ps (λ p. p.left ⊗ p.right))
      go [] = subst C (sym (mul_zero R h)) 𝓒.zero_in
      go (p ∷ ps) =
          subst C (sym (R.mul_add _ _ _)) (𝓒.sum_in _ _ (f p.left p.right p.left_in p.right_in) (go ps))

  pub product_into : (M N C : A → Type 0) → IsAdditive R.ops C → ((a b : A) → M a → N b → C (a ⊗ b))
      → (z : A) → Product R.ops M N z → C z
  product_into M N C 𝓒 f z m =
      subst C (one_mul R z)
      (product_universal M N C 𝓒 𝟙 (λ a b x y. subst C (sym (one_mul R _)) (f a b x y)) z m)

  pub additive_of_module : (S M : A → Type 0) → IsModule R.ops S M → IsAdditive R.ops M
  additive_of_module S M 𝓜 = record { zero_in = 𝓜.zero_in; sum_in = 𝓜.sum_in }

  module _ (O : A → Type 0) (𝓞 : IsSubring R.ops O) where
    pub product_additive : (M N : A → Type 0) → IsModule R.ops O M → IsAdditive R.ops (Product R.ops M N)
    product_additive M N 𝓜 = additive_of_module O _ (product_module R O 𝓞 M N 𝓜)

    pub product_monotone : (M N M' N' : A → Type 0) → IsModule R.ops O M' → ((a : A) → M a → M' a)
        → ((a : A) → N a → N' a)
        → (z : A) → Product R.ops M N z → Product R.ops M' N' z
    product_monotone M N M' N' 𝓜 f g =
        product_into M N (Product R.ops M' N') (product_additive M' N' 𝓜)
        (λ a b m n. product_member R O 𝓞 M' N' a b (f a m) (g b n))

    pub product_swap : (M N : A → Type 0) → IsModule R.ops O N → (z : A) → Product R.ops M N z → Product R.ops N M z
    product_swap M N 𝓝 =
        product_into M N (Product R.ops N M) (product_additive N M 𝓝)
        (λ a b m n. subst (Product R.ops N M) (R.mul_comm b a) (product_member R O 𝓞 N M b a n m))

    pub product_assoc : (L M N : A → Type 0) → IsModule R.ops O L
        → (z : A) → Product R.ops (Product R.ops L M) N z → Product R.ops L (Product R.ops M N) z
    product_assoc L M N 𝓛 =
        let all = Product R.ops L (Product R.ops M N) in
        let 𝓐 = product_additive L (Product R.ops M N) 𝓛 in
        product_into (Product R.ops L M) N all 𝓐
        (λ x c m n.
        subst all (R.mul_comm c x)
        (product_universal L M all 𝓐 c
        (λ a b i j.
        let e : a ⊗ (b ⊗ c) ≡ c ⊗ (a ⊗ b) = ring R (a ∷ b ∷ c ∷ []) λ q x. simp (reads, q, x 0, x 1, x 2)
        (q.equal _ _ refl) in
        subst all e
        (product_member R O 𝓞 L (Product R.ops M N) a (b ⊗ c) i (product_member R O 𝓞 M N b c j n)))
        x m))

    pub product_assoc_back : (L M N : A → Type 0) → IsModule R.ops O L
        → (z : A) → Product R.ops L (Product R.ops M N) z → Product R.ops (Product R.ops L M) N z
    product_assoc_back L M N 𝓛 =
        let all = Product R.ops (Product R.ops L M) N in
        let 𝓐 = product_additive (Product R.ops L M) N (product_module R O 𝓞 L M 𝓛) in
        product_into L (Product R.ops M N) all 𝓐
        (λ a x m n.
        product_universal M N all 𝓐 a
        (λ b c i j.
        subst all (R.mul_assoc a b c)
        (product_member R O 𝓞 (Product R.ops L M) N (a ⊗ b) c (product_member R O 𝓞 L M a b m i) j))
        x n)

    -- the product with O
    pub product_one : (M : A → Type 0) → IsModule R.ops O M → SameSet (Product R.ops O M) M
    product_one M 𝓜 z = (
      product_into O M M (additive_of_module O M 𝓜) 𝓜.scale_in z,
      λ m. subst (Product R.ops O M) (one_mul R z) (product_member R O 𝓞 O M 𝟙 z 𝓞.one_in m),
    )

    pub own_module : IsModule R.ops O O
    own_module = record { zero_in = 𝓞.zero_in; sum_in = 𝓞.sum_in; scale_in = 𝓞.product_in }

    -- powers

    pub power_module : (P : A → Type 0) → IsModule R.ops O P → (n : ℕ) → IsModule R.ops O (Power R.ops O P n)
    power_module P 𝓟 zero = own_module
    power_module P 𝓟 (suc n) = product_module R O 𝓞 P (Power R.ops O P n) 𝓟

    pub power_member : (P : A → Type 0) → IsModule R.ops O P → (a : A) → P a → (n : ℕ)
        → Power R.ops O P n (pow R.ops a n)
    power_member P 𝓟 a m zero = 𝓞.one_in
    power_member P 𝓟 a m (suc n) = product_member R O 𝓞 P (Power R.ops O P n) a _ m (power_member P 𝓟 a m n)

    pub power_add : (P : A → Type 0) → IsModule R.ops O P → (m n : ℕ)
        → SameSet (Product R.ops (Power R.ops O P m) (Power R.ops O P n)) (Power R.ops O P (m + n))
    power_add P 𝓟 zero n z = rw zero-add (product_one (Power R.ops O P n) (power_module P 𝓟 n) z)
    power_add P 𝓟 (suc m) n z =
        let Pm = Power R.ops O P m in
        let Pn = Power R.ops O P n in
        let ih = power_add P 𝓟 m n in
        rw suc-add (
          λ h.
              product_monotone P (Product R.ops Pm Pn) P (Power R.ops O P (m + n)) 𝓟 (λ a x. x) (λ a x. (ih a).0 x) z
              (product_assoc P Pm Pn 𝓟 z h),
          λ h.
              product_assoc_back P Pm Pn 𝓟 z
              (product_monotone P (Power R.ops O P (m + n)) P (Product R.ops Pm Pn) 𝓟 (λ a x. x) (λ a x. (ih a).1 x)
              z h),
        )

    -- where a takes P into O, a^n takes the n-th power into O
    pub power_cancel : (P : A → Type 0) → (a : A) → ((y : A) → P y → O (a ⊗ y)) → (n : ℕ) (z : A) → Power R.ops O P n z
        → O (pow R.ops a n ⊗ z)
    power_cancel P a f zero z m = subst O (sym (one_mul R z)) m
    power_cancel P a f (suc n) z m =
        product_universal P (Power R.ops O P n) O (additive_of_module O O own_module) (pow R.ops a (suc n))
        (λ x y i j.
        let e : (b : A) → (a ⊗ x) ⊗ (b ⊗ y) ≡ (a ⊗ b) ⊗ (x ⊗ y)
        = λ b. ring R (a ∷ x ∷ b ∷ y ∷ []) λ q h. simp (reads, q, h 0, h 1, h 2, h 3) (q.equal _ _ refl) in
        subst O (e (pow R.ops a n)) (𝓞.product_in _ _ (f x i) (power_cancel P a f n y j)))
        z m
