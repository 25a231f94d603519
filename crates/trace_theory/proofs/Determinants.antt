-- Determinants: of matrices with equal entries, of diagonal matrices, of a multiple of a row, of matrices near 1, and
-- of images.
use mathlib.Core.Path.{fun_ext}
use Rattle.std.proofs.Common.{◌≡◌, ℕ, zero, suc, ◌<◌, [], ◌∷◌, refl, sym, ◌∙◌, ap, ap₂, arith}
use Rattle.ring_lemmas.specs.Ring.{Operations, CommRing, pow}
use Rattle.ring_lemmas.specs.Sums.{sum_below, matrix_product, trace}
use Rattle.ring_theory.specs.Determinant.{determinant, minor, with_row}
use Rattle.ring_lemmas.proofs.Ring.{zero_add, one_mul, mul_zero, zero_mul, add_cancel_left}
use Rattle.ring_lemmas.proofs.Sums.{below_cong, below_first, below_zero, below_single, below_scale, below_swap}
use Rattle.ring_lemmas.proofs.Solver.{ring, reads}
use Rattle.ring_theory.specs.Maps.{IsHom}
use Rattle.ring_theory.proofs.RowMaps.{hom_zero, hom_neg}
use Rattle.ring_theory.proofs.Determinant.{determinant_product}
use Rattle.ring_theory.proofs.Cramer.{determinant_linear}

-- the matrix with r 0, r 1, .. on its diagonal
abbrev pub diagonal : {A : Type 0} → Operations A → (ℕ → A) → ℕ → ℕ → A
diagonal R r zero zero = r 0
diagonal R r zero (suc j) = R.𝟘
diagonal R r (suc i) zero = R.𝟘
diagonal R r (suc i) (suc j) = diagonal R (λ l. r (suc l)) i j

-- the product of f i for i below n
abbrev pub product_below : {A : Type 0} → Operations A → ℕ → (ℕ → A) → A
product_below R zero f = R.𝟙
product_below R (suc n) f = R.◌⊗◌ (f 0) (product_below R n (λ i. f (suc i)))

-- the r-th number that is not i
abbrev pub skip : ℕ → ℕ → ℕ
skip zero r = suc r
skip (suc i) zero = zero
skip (suc i) (suc r) = suc (skip i r)

skip_below : (n i r : ℕ) → r < n → skip i r < suc n
skip_below n zero r l = omega arith
skip_below n (suc i) zero l = omega arith
skip_below zero (suc i) (suc r) l = absurd (omega arith)
skip_below (suc n) (suc i) (suc r) l = let h = skip_below n i r (omega arith) in omega arith

minor_is : {A : Type 0} (i : ℕ) (m : ℕ → ℕ → A) (r c : ℕ) → minor i m r c ≡ m (skip i r) (suc c)
minor_is zero m r c = refl
minor_is (suc i) m zero c = refl
minor_is (suc i) m (suc r) c = minor_is i (λ j. m (suc j)) r c

minor_cong : {A : Type 0} (n i : ℕ) (m m' : ℕ → ℕ → A) → ((r c : ℕ) → r < suc n → c < suc n → m r c ≡ m' r c)
    → (r c : ℕ) → r < n → c < n → minor i m r c ≡ minor i m' r c
minor_cong n i m m' h r c a b =
    minor_is i m r c ∙ h (skip i r) (suc c) (skip_below n i r a) (omega arith) ∙ sym (minor_is i m' r c)

module _ {A : Type 0} (R : CommRing A) where
  infixl 65 ◌⊕◌
  infixl 70 ◌⊗◌
  infixr 80 ⊖◌
  open R use {𝟘, 𝟙, ◌⊕◌, ◌⊗◌, ⊖◌}

  pub determinant_cong : (n : ℕ) (m m' : ℕ → ℕ → A) → ((i j : ℕ) → i < n → j < n → m i j ≡ m' i j)
      → determinant R.ops n m ≡ determinant R.ops n m'
  determinant_cong zero m m' h = refl
  determinant_cong (suc n) m m' h =
      below_cong R (suc n) _ _ (λ i l.
      ap₂ (λ x d. pow R.ops (⊖ 𝟙) i ⊗ (x ⊗ d)) (h i 0 l (omega arith))
      (determinant_cong n (minor i m) (minor i m') (minor_cong n i m m' h)))

  pub diagonal_here : (r : ℕ → A) (i : ℕ) → diagonal R.ops r i i ≡ r i
  diagonal_here r zero = refl
  diagonal_here r (suc i) = diagonal_here (λ l. r (suc l)) i

  pub diagonal_other : (r : ℕ → A) (i j : ℕ) → ¬ (j ≡ i) → diagonal R.ops r i j ≡ 𝟘
  diagonal_other r zero zero ne = absurd (ne refl)
  diagonal_other r zero (suc j) ne = refl
  diagonal_other r (suc i) zero ne = refl
  diagonal_other r (suc i) (suc j) ne = diagonal_other (λ l. r (suc l)) i j (λ e. ne (ap suc e))

  pub diagonal_determinant : (n : ℕ) (r : ℕ → A) → determinant R.ops n (diagonal R.ops r) ≡ product_below R.ops n r
  diagonal_determinant zero r = refl
  diagonal_determinant (suc n) r =
      below_first R n _
      ∙ ap₂ ◌⊕◌ (one_mul R _ ∙ ap (λ d. r 0 ⊗ d) (diagonal_determinant n (λ l. r (suc l))))
      (below_cong R n _ (λ i. 𝟘) (λ i l. ap (λ x. pow R.ops (⊖ 𝟙) (suc i) ⊗ x) (zero_mul R _) ∙ mul_zero R _)
      ∙ below_zero R n)
      ∙ R.add_zero _

  -- r_i·m_ij·s_j
  pub determinant_weights : (n : ℕ) (r s : ℕ → A) (m : ℕ → ℕ → A)
      → determinant R.ops n (λ i j. r i ⊗ m i j ⊗ s j)
      ≡ product_below R.ops n r ⊗ determinant R.ops n m ⊗ product_below R.ops n s
  determinant_weights n r s m =
      determinant_cong n _ (matrix_product R.ops n (diagonal R.ops r) (matrix_product R.ops n m (diagonal R.ops s)))
      entries
      ∙ determinant_product R n (diagonal R.ops r) (matrix_product R.ops n m (diagonal R.ops s))
      ∙ ap₂ ◌⊗◌ (diagonal_determinant n r)
      (determinant_product R n m (diagonal R.ops s)
      ∙ ap (λ d. determinant R.ops n m ⊗ d) (diagonal_determinant n s))
      ∙ sym (R.mul_assoc _ _ _)
    where
      right : (i j : ℕ) → j < n → matrix_product R.ops n m (diagonal R.ops s) i j ≡ m i j ⊗ s j
      right i j l =
          below_single R n j (λ k. m i k ⊗ diagonal R.ops s k j) l
          (λ k b ne. ap (λ x. m i k ⊗ x) (diagonal_other s k j (λ e. ne (sym e))) ∙ mul_zero R _)
          ∙ ap (λ x. m i j ⊗ x) (diagonal_here s j)

      entries : (i j : ℕ) → i < n → j < n
          → r i ⊗ m i j ⊗ s j ≡ matrix_product R.ops n (diagonal R.ops r) (matrix_product R.ops n m (diagonal R.ops s))
          i j
      entries i j k l =
          R.mul_assoc _ _ _ ∙ ap (λ x. r i ⊗ x) (sym (right i j l))
          ∙ ap (λ x. x ⊗ matrix_product R.ops n m (diagonal R.ops s) i j) (sym (diagonal_here r i))
          ∙ sym (below_single R n i (λ k. diagonal R.ops r i k ⊗ matrix_product R.ops n m (diagonal R.ops s) k j) k
          (λ k b ne. ap (λ x. x ⊗ matrix_product R.ops n m (diagonal R.ops s) k j) (diagonal_other r i k ne)
          ∙ zero_mul R _))

  pub zero_row : (n i : ℕ) → i < n → (a : ℕ → ℕ → A) → determinant R.ops n (with_row i (λ j. 𝟘) a) ≡ 𝟘
  zero_row n i l a =
      add_cancel_left R d d 𝟘
      (ap (λ x. x ⊕ d) (sym (one_mul R d))
      ∙ sym (determinant_linear R n i l (λ j. 𝟘) (λ j. 𝟘) 𝟙 a)
      ∙ ap (λ v. determinant R.ops n (with_row i v a)) (fun_ext (λ j. R.add_zero _ ∙ mul_zero R 𝟙))
      ∙ sym (R.add_zero d))
    where
      d : A
      d = determinant R.ops n (with_row i (λ j. 𝟘) a)

  -- a multiple of a row
  pub scaled_row : (n i : ℕ) → i < n → (c : A) (u : ℕ → A) (a : ℕ → ℕ → A)
      → determinant R.ops n (with_row i (λ j. c ⊗ u j) a) ≡ c ⊗ determinant R.ops n (with_row i u a)
  scaled_row n i l c u a =
      ap (λ v. determinant R.ops n (with_row i v a)) (fun_ext (λ j. sym (R.add_zero _)))
      ∙ determinant_linear R n i l u (λ j. 𝟘) c a
      ∙ ap (λ x. c ⊗ determinant R.ops n (with_row i u a) ⊕ x) (zero_row n i l a) ∙ R.add_zero _

  -- a determinant near that of 1

  pub record Near (a d t : A) : Type 0 where
    pub rest : A
    pub is : d ≡ 𝟙 ⊕ a ⊗ t ⊕ a ⊗ a ⊗ rest

  abbrev pub near : A → (ℕ → ℕ → A) → ℕ → ℕ → A
  near a m i j = diagonal R.ops (λ l. 𝟙) i j ⊕ a ⊗ m i j

  -- a multiple of a, where row 0 has multiples of a
  multiple_row : (n : ℕ) (a : A) (v : ℕ → A) (m : ℕ → ℕ → A) → ((j : ℕ) → m 0 j ≡ a ⊗ v j)
      → determinant R.ops (suc n) m ≡ a ⊗ determinant R.ops (suc n) (with_row 0 v m)
  multiple_row n a v m h =
      determinant_cong (suc n) m (with_row 0 (λ j. a ⊗ v j) m) entries ∙ scaled_row (suc n) 0 (omega arith) a v m
    where
      entries : (i j : ℕ) → i < suc n → j < suc n → m i j ≡ with_row 0 (λ j. a ⊗ v j) m i j
      entries zero j k l = h j
      entries (suc i) j k l = refl

  -- the other terms of the expansion are multiples of a²
  square_term : (n i : ℕ) → i < n → (a : A) (m : ℕ → ℕ → A)
      → (w : A) × (pow R.ops (⊖ 𝟙) (suc i) ⊗ (near a m (suc i) 0 ⊗ determinant R.ops n (minor (suc i) (near a m)))
      ≡ a ⊗ a ⊗ w)
  square_term zero i l a m = absurd (omega arith)
  square_term (suc n) i l a m =
      let v : ℕ → A = λ j. m 0 (suc j) in
      let d = determinant R.ops (suc n) (with_row 0 v (minor (suc i) (near a m))) in (
        pow R.ops (⊖ 𝟙) (suc i) ⊗ (m (suc i) 0 ⊗ d),
        ap₂ (λ x y. pow R.ops (⊖ 𝟙) (suc i) ⊗ (x ⊗ y)) (zero_add R _)
            (multiple_row n a v (minor (suc i) (near a m)) (λ j. zero_add R _))
            ∙ regroup (pow R.ops (⊖ 𝟙) (suc i)) a (m (suc i) 0) d,
      )
    where
      regroup : (s a x d : A) → s ⊗ (a ⊗ x ⊗ (a ⊗ d)) ≡ a ⊗ a ⊗ (s ⊗ (x ⊗ d))
      regroup s a x d = ring R (s ∷ a ∷ x ∷ d ∷ []) λ q h. simp (reads, q, h 0, h 1, h 2, h 3) (q.equal _ _ refl)

  square_sum : (n : ℕ) (a : A) (f : ℕ → A) → ((i : ℕ) → i < n → (w : A) × (f i ≡ a ⊗ a ⊗ w))
      → (w : A) × (sum_below R.ops n f ≡ a ⊗ a ⊗ w)
  square_sum zero a f h = (𝟘, sym (mul_zero R _))
  square_sum (suc n) a f h =
      let p = square_sum n a f (λ i l. h i (omega arith)) in
      let t = h n (omega arith) in
      (p.0 ⊕ t.0, ap₂ ◌⊕◌ p.1 t.1 ∙ sym (R.mul_add _ _ _))

  -- the determinant of 1 + a·m is 1 + a·(the trace of m), up to a multiple of a²
  pub near_one : (n : ℕ) (a : A) (m : ℕ → ℕ → A) → Near a (determinant R.ops n (near a m)) (trace R.ops n m)
  near_one zero a m = record {
    rest = 𝟘;
    is = ring R (a ∷ []) λ q h. simp (reads, q, h 0) (q.equal _ _ refl);
  }
  near_one (suc n) a m =
      let r = near_one n a (λ i j. m (suc i) (suc j)) in
      let p = square_sum n a (λ i. pow R.ops (⊖ 𝟙) (suc i) ⊗
      (near a m (suc i) 0 ⊗ determinant R.ops n (minor (suc i) (near a m)))) (λ i l. square_term n i l a m) in
      let t = sum_below R.ops n (λ i. m (suc i) (suc i)) in
      record {
        rest = r.rest ⊕ m 0 0 ⊗ t ⊕ a ⊗ m 0 0 ⊗ r.rest ⊕ p.0;
        is =
            below_first R n (λ i. pow R.ops (⊖ 𝟙) i ⊗ (near a m i 0 ⊗ determinant R.ops n (minor i (near a m))))
            ∙ ap₂ ◌⊕◌ (ap (λ d. 𝟙 ⊗ ((𝟙 ⊕ a ⊗ m 0 0) ⊗ d)) r.is) p.1
            ∙ collect a (m 0 0) t r.rest p.0
            ∙ ap (λ s. 𝟙 ⊕ a ⊗ s ⊕ a ⊗ a ⊗ (r.rest ⊕ m 0 0 ⊗ t ⊕ a ⊗ m 0 0 ⊗ r.rest ⊕ p.0))
            (sym (below_first R n (λ i. m i i)));
      }
    where
      collect : (a x t w u : A) → 𝟙 ⊗ ((𝟙 ⊕ a ⊗ x) ⊗ (𝟙 ⊕ a ⊗ t ⊕ a ⊗ a ⊗ w)) ⊕ a ⊗ a ⊗ u
          ≡ 𝟙 ⊕ a ⊗ (x ⊕ t) ⊕ a ⊗ a ⊗ (w ⊕ x ⊗ t ⊕ a ⊗ x ⊗ w ⊕ u)
      collect a x t w u =
          ring R (a ∷ x ∷ t ∷ w ∷ u ∷ []) λ q h. simp (reads, q, h 0, h 1, h 2, h 3, h 4) (q.equal _ _ refl)

  -- the expansion along the first row

  -- the columns but column j, and the rows but the first
  abbrev without : ℕ → (ℕ → ℕ → A) → ℕ → ℕ → A
  without j m r c = m (suc r) (skip j c)

  first_row : (n : ℕ) (m : ℕ → ℕ → A)
      → determinant R.ops (suc n) m ≡ sum_below R.ops (suc n)
      (λ j. pow R.ops (⊖ 𝟙) j ⊗ (m 0 j ⊗ determinant R.ops n (without j m)))
  first_row zero m = refl
  first_row (suc n) m =
      let s : ℕ → A = λ i. pow R.ops (⊖ 𝟙) i in
      let d : ℕ → ℕ → A = λ i j. determinant R.ops n (minor i (without (suc j) m)) in
      below_first R (suc n) _
      ∙ ap (λ x. s 0 ⊗ (m 0 0 ⊗ determinant R.ops (suc n) (minor 0 m)) ⊕ x)
      (below_cong R (suc n) _ (λ i. sum_below R.ops (suc n)
      (λ j. s (suc i) ⊗ (m (suc i) 0 ⊗ (s j ⊗ (m 0 (suc j) ⊗ d i j)))))
      (λ i l.
      ap (λ x. s (suc i) ⊗ (m (suc i) 0 ⊗ x))
      (first_row n (minor (suc i) m)
      ∙ below_cong R (suc n) _ (λ j. s j ⊗ (m 0 (suc j) ⊗ d i j)) (λ j b.
      ap (λ x. s j ⊗ (m 0 (suc j) ⊗ x)) (determinant_cong n _ _ (λ r c k k'. both i j r c))))
      ∙ ap (λ x. s (suc i) ⊗ x) (sym (below_scale R (suc n) (m (suc i) 0) _))
      ∙ sym (below_scale R (suc n) (s (suc i)) _))
      ∙ below_swap R (suc n) (suc n) (λ i j. s (suc i) ⊗ (m (suc i) 0 ⊗ (s j ⊗ (m 0 (suc j) ⊗ d i j))))
      ∙ below_cong R (suc n) _ (λ j. s (suc j) ⊗ (m 0 (suc j) ⊗ determinant R.ops (suc n) (without (suc j) m))) (λ j b.
      below_cong R (suc n) _ (λ i. (s (suc j) ⊗ m 0 (suc j)) ⊗ (s i ⊗ (m (suc i) 0 ⊗ d i j)))
      (λ i l. regroup (s i) (m (suc i) 0) (s j) (m 0 (suc j)) (d i j))
      ∙ below_scale R (suc n) (s (suc j) ⊗ m 0 (suc j)) _ ∙ R.mul_assoc _ _ _))
      ∙ sym (below_first R (suc n) (λ j. s j ⊗ (m 0 j ⊗ determinant R.ops (suc n) (without j m))))
    where
      both : (i j r c : ℕ) → minor (suc i) m (suc r) (skip j c) ≡ minor i (without (suc j) m) r c
      both i j r c = minor_is i (λ l. m (suc l)) r (skip j c) ∙ sym (minor_is i (without (suc j) m) r c)

      regroup : (s x s' x' d : A) → (⊖ 𝟙 ⊗ s) ⊗ (x ⊗ (s' ⊗ (x' ⊗ d))) ≡ ((⊖ 𝟙 ⊗ s') ⊗ x') ⊗ (s ⊗ (x ⊗ d))
      regroup s x s' x' d =
          ring R (s ∷ x ∷ s' ∷ x' ∷ d ∷ []) λ q h. simp (reads, q, h 0, h 1, h 2, h 3, h 4) (q.equal _ _ refl)

  -- a matrix and its transposed one have one determinant
  pub transposed : (n : ℕ) (m : ℕ → ℕ → A) → determinant R.ops n (λ i j. m j i) ≡ determinant R.ops n m
  transposed zero m = refl
  transposed (suc n) m =
      below_cong R (suc n) _ _ (λ i l.
      ap (λ d. pow R.ops (⊖ 𝟙) i ⊗ (m 0 i ⊗ d))
      (determinant_cong n _ (λ r c. without i m c r) (λ r c k k'. minor_is i (λ a b. m b a) r c)
      ∙ transposed n (without i m)))
      ∙ sym (first_row n m)

-- a homomorphism takes determinants to determinants
module _ {A B : Type 0} (R : CommRing A) (S : CommRing B) (φ : A → B) (hom : IsHom R S φ) where
  pub image_sum : (n : ℕ) (f : ℕ → A) → φ (sum_below R.ops n f) ≡ sum_below S.ops n (λ i. φ (f i))
  image_sum zero f = hom_zero R S φ hom
  image_sum (suc n) f = hom.add _ _ ∙ ap (λ x. S.◌⊕◌ x (φ (f n))) (image_sum n f)

  pub image_power : (n : ℕ) (a : A) → φ (pow R.ops a n) ≡ pow S.ops (φ a) n
  image_power zero a = hom.𝟙
  image_power (suc n) a = hom.mul _ _ ∙ ap (S.◌⊗◌ (φ a)) (image_power n a)

  pub image_determinant : (n : ℕ) (m : ℕ → ℕ → A) → φ (determinant R.ops n m) ≡ determinant S.ops n (λ i j. φ (m i j))
  image_determinant zero m = hom.𝟙
  image_determinant (suc n) m =
      image_sum (suc n) _
      ∙ below_cong S (suc n) _ _ (λ i l.
      hom.mul _ _
      ∙ ap₂ S.◌⊗◌ (image_power i (R.⊖◌ R.𝟙) ∙ ap (λ x. pow S.ops x i) (hom_neg R S φ hom R.𝟙 ∙ ap S.⊖◌ hom.𝟙))
      (hom.mul _ _ ∙ ap (S.◌⊗◌ (φ (m i 0))) (image_determinant n (minor i m)
      ∙ determinant_cong S n _ _ (λ r c k k'. ap φ (minor_is i m r c) ∙ sym (minor_is i (λ i j. φ (m i j)) r c)))))
