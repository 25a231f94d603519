-- Finite sums: equal terms, sums and multiples of sums, exchange of two sums, and the product of matrices.
use Rattle.std.proofs.Common.{◌≡◌, ℕ, zero, suc, ◌<◌, ◌⊎◌, inl, inr, eq-or-lt_of_le, le_of_suc-le-suc, List, [], ◌∷◌, ◌++◌, map, refl, sym, ◌∙◌, ap, ap₂, arith}
use Rattle.ring_lemmas.specs.Ring.{CommRing}
use Rattle.ring_lemmas.specs.Sums.{sum_below, sum_over, matrix_product, trace}
use Rattle.ring_lemmas.proofs.Ring.{zero_add, add_add, mul_zero, zero_mul, add_mul, neg_zero, neg_sum}

module _ {A : Type 0} (R : CommRing A) where
  infixl 65 ◌⊕◌
  infixl 70 ◌⊗◌
  infixr 80 ⊖◌
  open R use {𝟘, 𝟙, ◌⊕◌, ◌⊗◌, ⊖◌}

  -- sums over the numbers below n

  pub below_cong : (n : ℕ) (f g : ℕ → A) → ((i : ℕ) → i < n → f i ≡ g i) → sum_below R.ops n f ≡ sum_below R.ops n g
  below_cong zero f g h = refl
  below_cong (suc n) f g h =
      ap₂ ◌⊕◌ (below_cong n f g (λ i l. h i (omega arith))) (h n (omega arith))

  pub below_zero : (n : ℕ) → sum_below R.ops n (λ i. 𝟘) ≡ 𝟘
  below_zero zero = refl
  below_zero (suc n) = R.add_zero _ ∙ below_zero n

  pub below_add : (n : ℕ) (f g : ℕ → A) → sum_below R.ops n (λ i. f i ⊕ g i) ≡ sum_below R.ops n f ⊕ sum_below R.ops n g
  below_add zero f g = sym (R.add_zero 𝟘)
  below_add (suc n) f g =
      ap (λ z. z ⊕ (f n ⊕ g n)) (below_add n f g) ∙ add_add R _ _ _ _

  pub below_scale : (n : ℕ) (c : A) (f : ℕ → A) → sum_below R.ops n (λ i. c ⊗ f i) ≡ c ⊗ sum_below R.ops n f
  below_scale zero c f = sym (mul_zero R c)
  below_scale (suc n) c f = ap (λ z. z ⊕ c ⊗ f n) (below_scale n c f) ∙ sym (R.mul_add _ _ _)

  pub below_scale_right : (n : ℕ) (c : A) (f : ℕ → A) → sum_below R.ops n (λ i. f i ⊗ c) ≡ sum_below R.ops n f ⊗ c
  below_scale_right zero c f = sym (zero_mul R c)
  below_scale_right (suc n) c f = ap (λ z. z ⊕ f n ⊗ c) (below_scale_right n c f) ∙ sym (add_mul R _ _ _)

  pub below_neg : (n : ℕ) (f : ℕ → A) → sum_below R.ops n (λ i. ⊖ f i) ≡ ⊖ sum_below R.ops n f
  below_neg zero f = sym (neg_zero R)
  below_neg (suc n) f = ap (λ z. z ⊕ ⊖ f n) (below_neg n f) ∙ sym (neg_sum R _ _)

  -- the first term apart
  pub below_first : (n : ℕ) (f : ℕ → A) → sum_below R.ops (suc n) f ≡ f 0 ⊕ sum_below R.ops n (λ i. f (suc i))
  below_first zero f = R.add_comm _ _
  below_first (suc n) f = ap (λ z. z ⊕ f (suc n)) (below_first n f) ∙ R.add_assoc _ _ _

  pub below_swap : (m n : ℕ) (f : ℕ → ℕ → A)
      → sum_below R.ops m (λ i. sum_below R.ops n (f i)) ≡ sum_below R.ops n (λ j. sum_below R.ops m (λ i. f i j))
  below_swap zero n f = sym (below_zero n)
  below_swap (suc m) n f =
      ap (λ z. z ⊕ sum_below R.ops n (f m)) (below_swap m n f) ∙ sym (below_add n _ _)

  -- a sum of which one term is left
  pub below_single : (n i : ℕ) (f : ℕ → A) → i < n → ((j : ℕ) → j < n → ¬ (j ≡ i) → f j ≡ 𝟘) → sum_below R.ops n f ≡ f i
  below_single zero i f l h = absurd (omega arith)
  below_single (suc n) i f l h = go (eq-or-lt_of_le (le_of_suc-le-suc l)) (below_single n i f)
    where
      go : (i ≡ n) ⊎ (i < n) → (i < n → ((j : ℕ) → j < n → ¬ (j ≡ i) → f j ≡ 𝟘) → sum_below R.ops n f ≡ f i)
          → sum_below R.ops (suc n) f ≡ f i
      go (inl e) ih =
          ap₂ ◌⊕◌ (below_cong n f (λ j. 𝟘) (λ j k. h j (omega arith) (λ q. omega arith)) ∙ below_zero n) (ap f (sym e))
          ∙ zero_add R (f i)
      go (inr k) ih =
          ap₂ ◌⊕◌ (ih k (λ j k'. h j (omega arith))) (h n (omega arith) (λ q. omega arith))
          ∙ R.add_zero (f i)

  -- sums over lists

  pub over_append : {I : Type 0} (f : I → A) (xs ys : List I)
      → sum_over R.ops (xs ++ ys) f ≡ sum_over R.ops xs f ⊕ sum_over R.ops ys f
  over_append f [] ys = sym (zero_add R _)
  over_append f (x ∷ xs) ys = ap (λ z. f x ⊕ z) (over_append f xs ys) ∙ sym (R.add_assoc _ _ _)

  pub over_cong : {I : Type 0} (f g : I → A) → ((x : I) → f x ≡ g x) → (xs : List I)
      → sum_over R.ops xs f ≡ sum_over R.ops xs g
  over_cong f g h [] = refl
  over_cong f g h (x ∷ xs) = ap₂ ◌⊕◌ (h x) (over_cong f g h xs)

  pub over_map : {I J : Type 0} (f : J → A) (g : I → J) (xs : List I)
      → sum_over R.ops (map g xs) f ≡ sum_over R.ops xs (λ x. f (g x))
  over_map f g [] = refl
  over_map f g (x ∷ xs) = ap (λ z. f (g x) ⊕ z) (over_map f g xs)

  pub over_zero : {I : Type 0} (xs : List I) → sum_over R.ops xs (λ x. 𝟘) ≡ 𝟘
  over_zero [] = refl
  over_zero (x ∷ xs) = zero_add R _ ∙ over_zero xs

  pub over_add : {I : Type 0} (f g : I → A) (xs : List I)
      → sum_over R.ops xs (λ x. f x ⊕ g x) ≡ sum_over R.ops xs f ⊕ sum_over R.ops xs g
  over_add f g [] = sym (R.add_zero 𝟘)
  over_add f g (x ∷ xs) = ap (λ z. (f x ⊕ g x) ⊕ z) (over_add f g xs) ∙ add_add R _ _ _ _

  pub over_scale : {I : Type 0} (c : A) (f : I → A) (xs : List I)
      → sum_over R.ops xs (λ x. c ⊗ f x) ≡ c ⊗ sum_over R.ops xs f
  over_scale c f [] = sym (mul_zero R c)
  over_scale c f (x ∷ xs) = ap (λ z. c ⊗ f x ⊕ z) (over_scale c f xs) ∙ sym (R.mul_add _ _ _)

  pub over_swap : {I J : Type 0} (f : I → J → A) (xs : List I) (ys : List J)
      → sum_over R.ops xs (λ x. sum_over R.ops ys (f x)) ≡ sum_over R.ops ys (λ y. sum_over R.ops xs (λ x. f x y))
  over_swap f [] ys = sym (over_zero ys)
  over_swap f (x ∷ xs) ys =
      ap (λ z. sum_over R.ops ys (f x) ⊕ z) (over_swap f xs ys) ∙ sym (over_add _ _ ys)

  -- the product of matrices

  pub matrix_assoc : (m n : ℕ) (a b c : ℕ → ℕ → A) (i j : ℕ)
      → matrix_product R.ops n (matrix_product R.ops m a b) c i j
      ≡ matrix_product R.ops m a (matrix_product R.ops n b c) i j
  matrix_assoc m n a b c i j =
      below_cong n _ _ (λ k l. sym (below_scale_right m (c k j) (λ h. a i h ⊗ b h k)))
      ∙ below_swap n m (λ k h. (a i h ⊗ b h k) ⊗ c k j)
      ∙ below_cong m _ _ (λ h l. below_cong n _ _ (λ k l'. R.mul_assoc (a i h) (b h k) (c k j))
      ∙ below_scale n (a i h) (λ k. b h k ⊗ c k j))

  pub trace_swap : (m n : ℕ) (a b : ℕ → ℕ → A)
      → trace R.ops m (matrix_product R.ops n a b) ≡ trace R.ops n (matrix_product R.ops m b a)
  trace_swap m n a b =
      below_swap m n (λ i k. a i k ⊗ b k i)
      ∙ below_cong n _ _ (λ k l. below_cong m _ _ (λ i l'. R.mul_comm (a i k) (b k i)))
