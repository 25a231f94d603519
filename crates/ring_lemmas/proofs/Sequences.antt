-- Sequences over a ring, added by positions and multiplied as power series.
use Rattle.std.proofs.Common.{◌≡◌, ℕ, zero, suc, ◌+◌, ◌<◌, refl, sym, ap, ap₂, ◌∙◌, arith, suc-add, zero-add}
use Rattle.ring_lemmas.specs.Ring.{CommRing}
use Rattle.ring_lemmas.specs.Lists.{tail_of, convolution}
use Rattle.ring_lemmas.proofs.Ring.{zero_add, add_add, add_mul, mul_zero, zero_mul}

module _ {A : Type 0} (r : CommRing A) where
  open r use {𝟘, 𝟙, ◌⊕◌, ◌⊗◌, ⊖◌}

  infixl 65 ◌⊕◌
  infixl 70 ◌⊗◌
  infixr 80 ⊖◌
  abbrev sum_of : (ℕ → A) → (ℕ → A) → ℕ → A
  sum_of f g n = f n ⊕ g n

  abbrev scaled : A → (ℕ → A) → ℕ → A
  scaled c f n = c ⊗ f n

  pub convolution_add_left : (f f' g : ℕ → A) (n : ℕ)
      → convolution r.ops (sum_of f f') g n ≡ convolution r.ops f g n ⊕ convolution r.ops f' g n
  convolution_add_left f f' g zero = add_mul r (f zero) (f' zero) (g zero)
  convolution_add_left f f' g (suc n) =
      ap₂ ◌⊕◌ (add_mul r (f zero) (f' zero) (g (suc n))) (convolution_add_left (tail_of f) (tail_of f') g n)
      ∙ add_add r _ _ _ _

  pub convolution_scale_left : (c : A) (f g : ℕ → A) (n : ℕ)
      → convolution r.ops (scaled c f) g n ≡ c ⊗ convolution r.ops f g n
  convolution_scale_left c f g zero = r.mul_assoc c (f zero) (g zero)
  convolution_scale_left c f g (suc n) =
      ap₂ ◌⊕◌ (r.mul_assoc c (f zero) (g (suc n))) (convolution_scale_left c (tail_of f) g n)
      ∙ sym (r.mul_add c _ _)

  -- the same sum, with its last term apart
  pub convolution_last : (f g : ℕ → A) (n : ℕ)
      → convolution r.ops f g (suc n) ≡ convolution r.ops f (tail_of g) n ⊕ f (suc n) ⊗ g zero
  convolution_last f g zero = refl
  convolution_last f g (suc n) =
      ap (λ w. f zero ⊗ g (suc (suc n)) ⊕ w) (convolution_last (tail_of f) g n)
      ∙ sym (r.add_assoc _ _ _)

  pub convolution_comm : (f g : ℕ → A) (n : ℕ) → convolution r.ops f g n ≡ convolution r.ops g f n
  convolution_comm f g zero = r.mul_comm (f zero) (g zero)
  convolution_comm f g (suc n) =
      ap₂ ◌⊕◌ (r.mul_comm (f zero) (g (suc n))) (convolution_comm (tail_of f) g n)
      ∙ r.add_comm _ _
      ∙ sym (convolution_last g f n)

  pub convolution_assoc : (f g h : ℕ → A) (n : ℕ)
      → convolution r.ops (convolution r.ops f g) h n ≡ convolution r.ops f (convolution r.ops g h) n
  convolution_assoc f g h zero = r.mul_assoc (f zero) (g zero) (h zero)
  convolution_assoc f g h (suc n) =
      ap₂ ◌⊕◌ (r.mul_assoc (f zero) (g zero) (h (suc n)))
      (convolution_add_left (scaled (f zero) (tail_of g)) (convolution r.ops (tail_of f) g) h n
      ∙ ap₂ ◌⊕◌ (convolution_scale_left (f zero) (tail_of g) h n) (convolution_assoc (tail_of f) g h n))
      ∙ sym (r.add_assoc _ _ _)
      ∙ ap (λ w. w ⊕ convolution r.ops (tail_of f) (convolution r.ops g h) n) (sym (r.mul_add (f zero) _ _))

  pub convolution_add_right : (f g g' : ℕ → A) (n : ℕ)
      → convolution r.ops f (sum_of g g') n ≡ convolution r.ops f g n ⊕ convolution r.ops f g' n
  convolution_add_right f g g' n =
      convolution_comm f (sum_of g g') n ∙ convolution_add_left g g' f n
      ∙ ap₂ ◌⊕◌ (convolution_comm g f n) (convolution_comm g' f n)

  pub convolution_null_left : (f g : ℕ → A) → ((i : ℕ) → f i ≡ 𝟘) → (n : ℕ) → convolution r.ops f g n ≡ 𝟘
  convolution_null_left f g null zero = ap (λ w. w ⊗ g zero) (null zero) ∙ zero_mul r (g zero)
  convolution_null_left f g null (suc n) =
      ap₂ ◌⊕◌ (ap (λ w. w ⊗ g (suc n)) (null zero) ∙ zero_mul r (g (suc n)))
      (convolution_null_left (tail_of f) g (λ i. null (suc i)) n)
      ∙ zero_add r 𝟘

  -- a constant times a series
  pub convolution_constant_left : (f g : ℕ → A) → ((i : ℕ) → f (suc i) ≡ 𝟘) → (n : ℕ)
      → convolution r.ops f g n ≡ f zero ⊗ g n
  convolution_constant_left f g constant zero = refl
  convolution_constant_left f g constant (suc n) =
      ap (λ w. f zero ⊗ g (suc n) ⊕ w) (convolution_null_left (tail_of f) g constant n) ∙ r.add_zero _

  -- where f ends at m and g at n, the product ends at m + n
  pub convolution_past : (m n : ℕ) (f g : ℕ → A) → ((i : ℕ) → m < i → f i ≡ 𝟘) → ((j : ℕ) → n < j → g j ≡ 𝟘) → (i : ℕ)
      → m + n < i → convolution r.ops f g i ≡ 𝟘
  convolution_past m n f g f_ends g_ends zero past = absurd (omega arith)
  convolution_past zero n f g f_ends g_ends (suc i) past =
      ap₂ ◌⊕◌ (ap (λ w. f zero ⊗ w) (g_ends (suc i) (omega arith)) ∙ mul_zero r (f zero))
      (convolution_null_left (tail_of f) g (λ j. f_ends (suc j) (omega arith)) i)
      ∙ zero_add r 𝟘
  convolution_past (suc m) n f g f_ends g_ends (suc i) past =
      ap₂ ◌⊕◌ (ap (λ w. f zero ⊗ w) (g_ends (suc i) (omega arith)) ∙ mul_zero r (f zero))
      (convolution_past m n (tail_of f) g (λ j less. f_ends (suc j) (omega arith)) g_ends i (omega arith))
      ∙ zero_add r 𝟘

  -- and there it is the product of the two ends
  pub convolution_top : (m n : ℕ) (f g : ℕ → A) → ((i : ℕ) → m < i → f i ≡ 𝟘) → ((j : ℕ) → n < j → g j ≡ 𝟘)
      → convolution r.ops f g (m + n) ≡ f m ⊗ g n
  convolution_top zero n f g f_ends g_ends =
      ap (convolution r.ops f g) (zero-add n) ∙ convolution_constant_left f g (λ i. f_ends (suc i) (omega arith)) n
  convolution_top (suc m) n f g f_ends g_ends =
      ap (convolution r.ops f g) (suc-add m n)
      ∙ ap₂ ◌⊕◌ (ap (λ w. f zero ⊗ w) (g_ends (suc (m + n)) (omega arith)) ∙ mul_zero r (f zero))
      (convolution_top m n (tail_of f) g (λ j less. f_ends (suc j) (omega arith)) g_ends)
      ∙ zero_add r _
