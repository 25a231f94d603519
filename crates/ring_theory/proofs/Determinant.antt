-- Determinants by one operator: for a vector v, `wedge v` multiplies by v in the exterior algebra. An element of that
-- algebra is a function of masks, lists of flags that say which unit vectors a product has.
use mathlib.Core.Path.{fun_ext}
use Rattle.std.proofs.Common.{◌≡◌, ℕ, zero, suc, ◌<◌, Bool, true, false, List, [], ◌∷◌, replicate, refl, sym, ◌∙◌, ap, ap₂, arith}
use Rattle.ring_lemmas.specs.Ring.{Operations, CommRing, pow}
use Rattle.ring_lemmas.specs.Sums.{sum_below, matrix_product}
use Rattle.ring_theory.specs.Determinant.{minor, determinant}
use Rattle.ring_lemmas.proofs.Ring.{zero_add, one_mul, zero_mul, neg_zero, neg_neg}
use Rattle.ring_lemmas.proofs.Solver.{ring, reads, from_three}
use Rattle.ring_lemmas.proofs.Sums.{below_cong, below_neg, below_first}

abbrev pub wedge : {A : Type 0} → Operations A → (ℕ → A) → (List Bool → A) → List Bool → A
wedge R v x [] = R.𝟘
wedge R v x (false ∷ m) = wedge R (λ i. v (suc i)) (λ k. x (false ∷ k)) m
wedge R v x (true ∷ m) =
    R.◌⊕◌ (R.◌⊗◌ (v 0) (x (false ∷ m))) (R.⊖◌ (wedge R (λ i. v (suc i)) (λ k. x (true ∷ k)) m))

-- the element 1
abbrev pub unit : {A : Type 0} → Operations A → List Bool → A
unit R [] = R.𝟙
unit R (false ∷ m) = unit R m
unit R (true ∷ m) = R.𝟘

-- the product of the first k rows and x
abbrev pub wedges : {A : Type 0} → Operations A → ℕ → (ℕ → ℕ → A) → (List Bool → A) → List Bool → A
wedges R zero a x = x
wedges R (suc k) a x = wedge R (a 0) (wedges R k (λ i. a (suc i)) x)

-- how many flags are set
abbrev count : List Bool → ℕ
count [] = 0
count (false ∷ m) = count m
count (true ∷ m) = suc (count m)

module _ {A : Type 0} (R : CommRing A) where
  infixl 65 ◌⊕◌
  infixl 70 ◌⊗◌
  infixr 80 ⊖◌
  open R use {𝟘, 𝟙, ◌⊕◌, ◌⊗◌, ⊖◌}

  pub wedge_cong : (v : ℕ → A) (x y : List Bool → A) → ((m : List Bool) → x m ≡ y m)
      → (m : List Bool) → wedge R.ops v x m ≡ wedge R.ops v y m
  wedge_cong v x y h [] = refl
  wedge_cong v x y h (false ∷ m) = wedge_cong (λ i. v (suc i)) (λ k. x (false ∷ k)) (λ k. y (false ∷ k))
      (λ k. h (false ∷ k)) m
  wedge_cong v x y h (true ∷ m) =
      ap₂ (λ s t. v 0 ⊗ s ⊕ ⊖ t) (h (false ∷ m))
      (wedge_cong (λ i. v (suc i)) (λ k. x (true ∷ k)) (λ k. y (true ∷ k)) (λ k. h (true ∷ k)) m)

  pub wedge_zero : (v : ℕ → A) (m : List Bool) → wedge R.ops v (λ k. 𝟘) m ≡ 𝟘
  wedge_zero v [] = refl
  wedge_zero v (false ∷ m) = wedge_zero (λ i. v (suc i)) m
  wedge_zero v (true ∷ m) =
      ap (λ t. v 0 ⊗ 𝟘 ⊕ ⊖ t) (wedge_zero (λ i. v (suc i)) m)
      ∙ ring R (v 0 ∷ []) λ q h. simp (reads, q, h 0) (q.equal _ _ refl)

  linear_step : (a c s t p r : A) → a ⊗ (c ⊗ s ⊕ t) ⊕ ⊖ (c ⊗ p ⊕ r) ≡ c ⊗ (a ⊗ s ⊕ ⊖ p) ⊕ (a ⊗ t ⊕ ⊖ r)
  linear_step a c s t p r =
      ring R (a ∷ c ∷ s ∷ t ∷ p ∷ r ∷ []) λ q h. simp (reads, q, h 0, h 1, h 2, h 3, h 4, h 5) (q.equal _ _ refl)

  -- linear in x, in one step: c·x + y
  pub wedge_linear : (v : ℕ → A) (c : A) (x y : List Bool → A) (m : List Bool)
      → wedge R.ops v (λ k. c ⊗ x k ⊕ y k) m ≡ c ⊗ wedge R.ops v x m ⊕ wedge R.ops v y m
  wedge_linear v c x y [] = ring R (c ∷ []) λ q h. simp (reads, q, h 0) (q.equal _ _ refl)
  wedge_linear v c x y (false ∷ m) = wedge_linear (λ i. v (suc i)) c (λ k. x (false ∷ k)) (λ k. y (false ∷ k)) m
  wedge_linear v c x y (true ∷ m) =
      ap (λ t. v 0 ⊗ (c ⊗ x (false ∷ m) ⊕ y (false ∷ m)) ⊕ ⊖ t)
      (wedge_linear (λ i. v (suc i)) c (λ k. x (true ∷ k)) (λ k. y (true ∷ k)) m)
      ∙ linear_step (v 0) c (x (false ∷ m)) (y (false ∷ m)) _ _

  -- and in v
  pub wedge_linear_vector : (u v : ℕ → A) (c : A) (x : List Bool → A) (m : List Bool)
      → wedge R.ops (λ i. c ⊗ u i ⊕ v i) x m ≡ c ⊗ wedge R.ops u x m ⊕ wedge R.ops v x m
  wedge_linear_vector u v c x [] = ring R (c ∷ []) λ q h. simp (reads, q, h 0) (q.equal _ _ refl)
  wedge_linear_vector u v c x (false ∷ m) =
      wedge_linear_vector (λ i. u (suc i)) (λ i. v (suc i)) c (λ k. x (false ∷ k)) m
  wedge_linear_vector u v c x (true ∷ m) =
      ap (λ t. (c ⊗ u 0 ⊕ v 0) ⊗ x (false ∷ m) ⊕ ⊖ t)
      (wedge_linear_vector (λ i. u (suc i)) (λ i. v (suc i)) c (λ k. x (true ∷ k)) m)
      ∙ ring R (u 0 ∷ v 0 ∷ c ∷ x (false ∷ m)
      ∷ wedge R.ops (λ i. u (suc i)) (λ k. x (true ∷ k)) m
      ∷ wedge R.ops (λ i. v (suc i)) (λ k. x (true ∷ k)) m ∷ []) λ q h.
      simp (wedge, reads, q, h 0, h 1, h 2, h 3, h 4, h 5) (q.equal _ _ refl)

  wedge_neg : (v : ℕ → A) (x : List Bool → A) (m : List Bool) → wedge R.ops v (λ k. ⊖ x k) m ≡ ⊖ wedge R.ops v x m
  wedge_neg v x m =
      wedge_cong v (λ k. ⊖ x k) (λ k. ⊖ 𝟙 ⊗ x k ⊕ 𝟘) (λ k. minus (x k)) m
      ∙ wedge_linear v (⊖ 𝟙) x (λ k. 𝟘) m
      ∙ ap (λ t. ⊖ 𝟙 ⊗ wedge R.ops v x m ⊕ t) (wedge_zero v m)
      ∙ sym (minus _)
    where
      minus : (a : A) → ⊖ a ≡ ⊖ 𝟙 ⊗ a ⊕ 𝟘
      minus a = ring R (a ∷ []) λ q h. simp (reads, q, h 0) (q.equal _ _ refl)

  wedge_twice : (v : ℕ → A) (x : List Bool → A) (m : List Bool) → wedge R.ops v (wedge R.ops v x) m ≡ 𝟘
  wedge_twice v x [] = refl
  wedge_twice v x (false ∷ m) = wedge_twice (λ i. v (suc i)) (λ k. x (false ∷ k)) m
  wedge_twice v x (true ∷ m) =
      let w : ℕ → A = λ i. v (suc i) in
      let xf : List Bool → A = λ k. x (false ∷ k) in
      let xt : List Bool → A = λ k. x (true ∷ k) in
      let e : wedge R.ops w (λ k. v 0 ⊗ xf k ⊕ ⊖ wedge R.ops w xt k) m ≡ v 0 ⊗ wedge R.ops w xf m ⊕ ⊖ 𝟘
      = wedge_linear w (v 0) xf (λ k. ⊖ wedge R.ops w xt k) m
      ∙ ap (λ t. v 0 ⊗ wedge R.ops w xf m ⊕ t)
      (wedge_neg w (wedge R.ops w xt) m ∙ ap ⊖◌ (wedge_twice w xt m)) in
      ap (λ t. v 0 ⊗ wedge R.ops w xf m ⊕ ⊖ t) e
      ∙ ring R (v 0 ∷ wedge R.ops w xf m ∷ []) λ q h. simp (reads, q, h 0, h 1) (q.equal _ _ refl)

  -- two vectors anticommute: expand the square of their sum
  wedge_swap : (u v : ℕ → A) (x : List Bool → A) (m : List Bool)
      → wedge R.ops u (wedge R.ops v x) m ≡ ⊖ wedge R.ops v (wedge R.ops u x) m
  wedge_swap u v x m =
      let s : ℕ → A = λ i. 𝟙 ⊗ u i ⊕ v i in
      let inner : (k : List Bool) → wedge R.ops s x k ≡ 𝟙 ⊗ wedge R.ops u x k ⊕ wedge R.ops v x k
      = λ k. wedge_linear_vector u v 𝟙 x k in
      let of : (w : ℕ → A) → wedge R.ops w (wedge R.ops s x) m
      ≡ 𝟙 ⊗ wedge R.ops w (wedge R.ops u x) m ⊕ wedge R.ops w (wedge R.ops v x) m
      = λ w. wedge_cong w (wedge R.ops s x) _ inner m ∙ wedge_linear w 𝟙 (wedge R.ops u x) (wedge R.ops v x) m in
      let all = sym (wedge_twice s x m) ∙ wedge_linear_vector u v 𝟙 (wedge R.ops s x) m
      ∙ ap₂ (λ a b. 𝟙 ⊗ a ⊕ b) (of u) (of v) in
      anti _ _ _ _ all (wedge_twice u x m) (wedge_twice v x m)
    where
      anti : (uu uv vu vv : A) → 𝟘 ≡ 𝟙 ⊗ (𝟙 ⊗ uu ⊕ uv) ⊕ (𝟙 ⊗ vu ⊕ vv) → uu ≡ 𝟘 → vv ≡ 𝟘 → uv ≡ ⊖ vu
      anti uu uv vu vv e f g =
          from_three R (⊖ 𝟙) (⊖ 𝟙) (⊖ 𝟙) e f g (ring R (uu ∷ uv ∷ vu ∷ vv ∷ []) λ q h.
          simp (reads, q, h 0, h 1, h 2, h 3) (q.equal _ _ refl))

  -- a repeated row makes the product 0

  wedges_again : (k : ℕ) (a : ℕ → ℕ → A) (x : List Bool → A) (j : ℕ) → j < k
      → (m : List Bool) → wedge R.ops (a j) (wedges R.ops k a x) m ≡ 𝟘
  wedges_again zero a x j l m = absurd (omega arith)
  wedges_again (suc k) a x zero l m = wedge_twice (a 0) (wedges R.ops k (λ i. a (suc i)) x) m
  wedges_again (suc k) a x (suc j) l m =
      wedge_swap (a (suc j)) (a 0) (wedges R.ops k (λ i. a (suc i)) x) m
      ∙ ap ⊖◌
      (wedge_cong (a 0) _ (λ k. 𝟘) (λ m. wedges_again k (λ i. a (suc i)) x j (omega arith) m) m
      ∙ wedge_zero (a 0) m)
      ∙ neg_zero R

  pub wedges_repeated : (k : ℕ) (a : ℕ → ℕ → A) (x : List Bool → A) (i j : ℕ) → i < j → j < k
      → a i ≡ a j → (m : List Bool) → wedges R.ops k a x m ≡ 𝟘
  wedges_repeated zero a x i j l l' e m = absurd (omega arith)
  wedges_repeated (suc k) a x i zero l l' e m = absurd (omega arith)
  wedges_repeated (suc k) a x zero (suc j) l l' e m =
      ap (λ v. wedge R.ops v (wedges R.ops k (λ i. a (suc i)) x) m) e
      ∙ wedges_again k (λ i. a (suc i)) x j (omega arith) m
  wedges_repeated (suc k) a x (suc i) (suc j) l l' e m =
      wedge_cong (a 0) _ (λ k. 𝟘) (λ m. wedges_repeated k (λ i. a (suc i)) x i j (omega arith) (omega arith) e m) m
      ∙ wedge_zero (a 0) m

  -- degrees: which masks an element may have

  Degree : (List Bool → A) → ℕ → Type 0
  Degree x d = (m : List Bool) → ¬ (count m ≡ d) → x m ≡ 𝟘

  unit_degree : Degree (unit R.ops) 0
  unfolding Degree
  unit_degree [] ne = absurd (ne refl)
  unit_degree (false ∷ m) ne = unit_degree m ne
  unit_degree (true ∷ m) ne = refl

  wedge_degree : (v : ℕ → A) (x : List Bool → A) (d : ℕ) → Degree x d → Degree (wedge R.ops v x) (suc d)
  unfolding Degree
  wedge_degree v x d h [] ne = refl
  wedge_degree v x d h (false ∷ m) ne = wedge_degree (λ i. v (suc i)) (λ k. x (false ∷ k)) d (λ k. h (false ∷ k)) m ne
  wedge_degree v x zero h (true ∷ m) ne =
      ap₂ (λ s t. v 0 ⊗ s ⊕ ⊖ t) (h (false ∷ m) (λ e. ne (ap suc e)))
      (wedge_cong (λ i. v (suc i)) _ (λ k. 𝟘) (λ k. h (true ∷ k) (λ e. omega arith)) m ∙ wedge_zero _ m)
      ∙ ring R (v 0 ∷ []) λ q h. simp (reads, q, h 0) (q.equal _ _ refl)
  wedge_degree v x (suc d) h (true ∷ m) ne =
      ap₂ (λ s t. v 0 ⊗ s ⊕ ⊖ t) (h (false ∷ m) (λ e. ne (ap suc e)))
      (wedge_degree (λ i. v (suc i)) (λ k. x (true ∷ k)) d (λ k n. h (true ∷ k) (λ e. n (omega arith))) m
      (λ e. ne (ap suc e)))
      ∙ ring R (v 0 ∷ []) λ q h. simp (reads, q, h 0) (q.equal _ _ refl)

  wedges_degree : (k : ℕ) (a : ℕ → ℕ → A) → Degree (wedges R.ops k a (unit R.ops)) k
  wedges_degree zero a = unit_degree
  wedges_degree (suc k) a = wedge_degree (a 0) _ k (wedges_degree k (λ i. a (suc i)))

  -- rows of a product of matrices, and the map that puts the rows of b for the unit vectors

  unfoldable pub combined : ℕ → (ℕ → A) → (ℕ → ℕ → A) → ℕ → A
  combined zero v b c = 𝟘
  combined (suc n) v b c = v 0 ⊗ b 0 c ⊕ combined n (λ i. v (suc i)) (λ i. b (suc i)) c

  put : ℕ → (ℕ → ℕ → A) → (List Bool → A) → List Bool → A
  put zero b x m = x [] ⊗ unit R.ops m
  put (suc n) b x m =
      put n (λ i. b (suc i)) (λ k. x (false ∷ k)) m
      ⊕ wedge R.ops (b 0) (put n (λ i. b (suc i)) (λ k. x (true ∷ k))) m

  put_cong : (n : ℕ) (b : ℕ → ℕ → A) (x y : List Bool → A) → ((m : List Bool) → x m ≡ y m)
      → (m : List Bool) → put n b x m ≡ put n b y m
  unfolding put
  put_cong zero b x y h m = ap (λ s. s ⊗ unit R.ops m) (h [])
  put_cong (suc n) b x y h m =
      ap₂ ◌⊕◌ (put_cong n (λ i. b (suc i)) _ _ (λ k. h (false ∷ k)) m)
      (wedge_cong (b 0) _ _ (put_cong n (λ i. b (suc i)) _ _ (λ k. h (true ∷ k))) m)

  put_linear : (n : ℕ) (b : ℕ → ℕ → A) (c : A) (x y : List Bool → A) (m : List Bool)
      → put n b (λ k. c ⊗ x k ⊕ y k) m ≡ c ⊗ put n b x m ⊕ put n b y m
  unfolding put
  put_linear zero b c x y m =
      ring R (c ∷ x [] ∷ y [] ∷ unit R.ops m ∷ []) λ q h. simp (put, reads, q, h 0, h 1, h 2, h 3) (q.equal _ _ refl)
  put_linear (suc n) b c x y m =
      ap₂ ◌⊕◌ (put_linear n (λ i. b (suc i)) c _ _ m)
      (wedge_cong (b 0) _ _ (put_linear n (λ i. b (suc i)) c _ _) m ∙ wedge_linear (b 0) c _ _ m)
      ∙ regroup c _ _ _ _
    where
      regroup : (c p q r s : A) → (c ⊗ p ⊕ q) ⊕ (c ⊗ r ⊕ s) ≡ c ⊗ (p ⊕ r) ⊕ (q ⊕ s)
      regroup c p q r s = ring R (c ∷ p ∷ q ∷ r ∷ s ∷ []) λ z h. simp (reads, z, h 0, h 1, h 2, h 3, h 4)
          (z.equal _ _ refl)

  put_high : (n d : ℕ) (b : ℕ → ℕ → A) (x : List Bool → A) → Degree x d → n < d → (m : List Bool) → put n b x m ≡ 𝟘
  unfolding put Degree
  put_high zero d b x h l m = ap (λ s. s ⊗ unit R.ops m) (h [] (λ e. omega arith)) ∙ zero_mul R _
  put_high (suc n) zero b x h l m = absurd (omega arith)
  put_high (suc n) (suc d) b x h l m =
      ap₂ ◌⊕◌ (put_high n (suc d) (λ i. b (suc i)) _ (λ k. h (false ∷ k)) (omega arith) m)
      (wedge_cong (b 0) _ (λ k. 𝟘)
      (put_high n d (λ i. b (suc i)) _ (λ k ne. h (true ∷ k) (λ e. ne (omega arith))) (omega arith)) m
      ∙ wedge_zero (b 0) m)
      ∙ R.add_zero 𝟘

  -- an element of the top degree goes to its one value times the product of the rows
  put_top : (n : ℕ) (b : ℕ → ℕ → A) (x : List Bool → A) → Degree x n
      → (m : List Bool) → put n b x m ≡ x (replicate n true) ⊗ wedges R.ops n b (unit R.ops) m
  unfolding put Degree
  put_top zero b x h m = refl
  put_top (suc n) b x h m =
      let t : A = x (true ∷ replicate n true) in
      let y : List Bool → A = wedges R.ops n (λ i. b (suc i)) (unit R.ops) in
      ap₂ ◌⊕◌ (put_high n (suc n) (λ i. b (suc i)) _ (λ k. h (false ∷ k)) (omega arith) m)
      (wedge_cong (b 0) _ (λ k. t ⊗ y k ⊕ 𝟘)
      (λ k. put_top n (λ i. b (suc i)) _ (λ k' ne. h (true ∷ k') (λ e. ne (omega arith))) k ∙ sym (R.add_zero _)) m
      ∙ wedge_linear (b 0) t y (λ k. 𝟘) m
      ∙ ap (λ s. t ⊗ wedge R.ops (b 0) y m ⊕ s) (wedge_zero (b 0) m)
      ∙ R.add_zero _)
      ∙ zero_add R _

  put_zero : (n : ℕ) (b : ℕ → ℕ → A) (m : List Bool) → put n b (λ k. 𝟘) m ≡ 𝟘
  unfolding Degree
  put_zero n b m = put_high n (suc n) b (λ k. 𝟘) (λ k ne. refl) (omega arith) m

  put_unit : (n : ℕ) (b : ℕ → ℕ → A) (m : List Bool) → put n b (unit R.ops) m ≡ unit R.ops m
  unfolding put
  put_unit zero b m = one_mul R _
  put_unit (suc n) b m =
      ap₂ ◌⊕◌ (put_unit n (λ i. b (suc i)) m)
      (wedge_cong (b 0) _ (λ k. 𝟘) (put_zero n (λ i. b (suc i))) m ∙ wedge_zero (b 0) m)
      ∙ R.add_zero _

  pub wedge_zero_vector : (x : List Bool → A) (m : List Bool) → wedge R.ops (λ i. 𝟘) x m ≡ 𝟘
  wedge_zero_vector x [] = refl
  wedge_zero_vector x (false ∷ m) = wedge_zero_vector (λ k. x (false ∷ k)) m
  wedge_zero_vector x (true ∷ m) =
      ap (λ t. 𝟘 ⊗ x (false ∷ m) ⊕ ⊖ t) (wedge_zero_vector (λ k. x (true ∷ k)) m)
      ∙ ring R (x (false ∷ m) ∷ []) λ q h. simp (reads, q, h 0) (q.equal _ _ refl)

  put_neg : (n : ℕ) (b : ℕ → ℕ → A) (x : List Bool → A) (m : List Bool) → put n b (λ k. ⊖ x k) m ≡ ⊖ put n b x m
  put_neg n b x m =
      put_cong n b (λ k. ⊖ x k) (λ k. ⊖ 𝟙 ⊗ x k ⊕ 𝟘) (λ k. minus (x k)) m
      ∙ put_linear n b (⊖ 𝟙) x (λ k. 𝟘) m
      ∙ ap (λ t. ⊖ 𝟙 ⊗ put n b x m ⊕ t) (put_zero n b m)
      ∙ sym (minus _)
    where
      minus : (a : A) → ⊖ a ≡ ⊖ 𝟙 ⊗ a ⊕ 𝟘
      minus a = ring R (a ∷ []) λ q h. simp (reads, q, h 0) (q.equal _ _ refl)

  put_wedge : (n : ℕ) (b : ℕ → ℕ → A) (v : ℕ → A) (x : List Bool → A) (m : List Bool)
      → put n b (wedge R.ops v x) m ≡ wedge R.ops (combined n v b) (put n b x) m
  unfolding put combined
  put_wedge zero b v x m = zero_mul R _ ∙ sym (wedge_zero_vector _ m)
  put_wedge (suc n) b v x m =
      let b' : ℕ → ℕ → A = λ i. b (suc i) in
      let w : ℕ → A = combined n (λ i. v (suc i)) b' in
      let xf : List Bool → A = λ k. x (false ∷ k) in
      let xt : List Bool → A = λ k. x (true ∷ k) in
      let pf : List Bool → A = put n b' xf in
      let pt : List Bool → A = put n b' xt in
      let first : put n b' (wedge R.ops (λ i. v (suc i)) xf) m ≡ wedge R.ops w pf m
      = put_wedge n b' (λ i. v (suc i)) xf m in
      let inner : (k : List Bool)
      → put n b' (λ k. v 0 ⊗ xf k ⊕ ⊖ wedge R.ops (λ i. v (suc i)) xt k) k ≡ v 0 ⊗ pf k ⊕ ⊖ wedge R.ops w pt k
      = λ k. put_linear n b' (v 0) xf _ k
      ∙ ap (λ t. v 0 ⊗ pf k ⊕ t) (put_neg n b' _ k ∙ ap ⊖◌ (put_wedge n b' (λ i. v (suc i)) xt k)) in
      let second : wedge R.ops (b 0) (put n b' (λ k. v 0 ⊗ xf k ⊕ ⊖ wedge R.ops (λ i. v (suc i)) xt k)) m
      ≡ v 0 ⊗ wedge R.ops (b 0) pf m ⊕ wedge R.ops w (wedge R.ops (b 0) pt) m
      = wedge_cong (b 0) _ _ inner m
      ∙ wedge_linear (b 0) (v 0) pf _ m
      ∙ ap (λ t. v 0 ⊗ wedge R.ops (b 0) pf m ⊕ t)
      (wedge_neg (b 0) _ m ∙ ap ⊖◌ (wedge_swap (b 0) w pt m) ∙ neg_neg R _) in
      -- the right side: the row combined, at the sum of the two parts
      let part : (u : ℕ → A) → wedge R.ops u (λ k. pf k ⊕ wedge R.ops (b 0) pt k) m
      ≡ wedge R.ops u pf m ⊕ wedge R.ops u (wedge R.ops (b 0) pt) m
      = λ u. wedge_cong u _ (λ k. 𝟙 ⊗ pf k ⊕ wedge R.ops (b 0) pt k)
      (λ k. ap (λ t. t ⊕ wedge R.ops (b 0) pt k) (sym (one_mul R (pf k)))) m
      ∙ wedge_linear u 𝟙 pf _ m
      ∙ ap (λ t. t ⊕ wedge R.ops u (wedge R.ops (b 0) pt) m) (one_mul R _) in
      let right : wedge R.ops (λ c. v 0 ⊗ b 0 c ⊕ w c) (λ k. pf k ⊕ wedge R.ops (b 0) pt k) m
      ≡ v 0 ⊗ (wedge R.ops (b 0) pf m ⊕ 𝟘) ⊕ (wedge R.ops w pf m ⊕ wedge R.ops w (wedge R.ops (b 0) pt) m)
      = wedge_linear_vector (b 0) w (v 0) _ m
      ∙ ap₂ (λ s t. v 0 ⊗ s ⊕ t)
      (part (b 0) ∙ ap (λ t. wedge R.ops (b 0) pf m ⊕ t) (wedge_twice (b 0) pt m)) (part w) in
      ap₂ ◌⊕◌ first second ∙ regroup (v 0) _ _ _ ∙ sym right
    where
      regroup : (c p q r : A) → p ⊕ (c ⊗ q ⊕ r) ≡ c ⊗ (q ⊕ 𝟘) ⊕ (p ⊕ r)
      regroup c p q r = ring R (c ∷ p ∷ q ∷ r ∷ []) λ z h. simp (reads, z, h 0, h 1, h 2, h 3) (z.equal _ _ refl)

  put_wedges : (n k : ℕ) (a b : ℕ → ℕ → A) (x : List Bool → A) (m : List Bool)
      → put n b (wedges R.ops k a x) m ≡ wedges R.ops k (λ i. combined n (a i) b) (put n b x) m
  put_wedges n zero a b x m = refl
  put_wedges n (suc k) a b x m =
      put_wedge n b (a 0) _ m ∙ wedge_cong (combined n (a 0) b) _ _ (put_wedges n k (λ i. a (suc i)) b x) m

  wedges_cong : (k : ℕ) (a : ℕ → ℕ → A) (x y : List Bool → A) → ((m : List Bool) → x m ≡ y m)
      → (m : List Bool) → wedges R.ops k a x m ≡ wedges R.ops k a y m
  wedges_cong zero a x y h m = h m
  wedges_cong (suc k) a x y h m = wedge_cong (a 0) _ _ (wedges_cong k (λ i. a (suc i)) x y h) m

  -- the determinant by the operator, and that it takes products to products
  unfoldable pub volume : ℕ → (ℕ → ℕ → A) → A
  volume n a = wedges R.ops n a (unit R.ops) (replicate n true)

  volume_product : (n : ℕ) (a b : ℕ → ℕ → A) → volume n (λ i. combined n (a i) b) ≡ volume n a ⊗ volume n b
  unfolding volume
  volume_product n a b =
      let top : List Bool = replicate n true in
      wedges_cong n _ _ _ (λ m. sym (put_unit n b m)) top
      ∙ sym (put_wedges n n a b (unit R.ops) top)
      ∙ put_top n b (wedges R.ops n a (unit R.ops)) (wedges_degree n a) top

  pub combined_sum : (n : ℕ) (v : ℕ → A) (b : ℕ → ℕ → A) (c : ℕ)
      → combined n v b c ≡ sum_below R.ops n (λ k. v k ⊗ b k c)
  unfolding combined
  combined_sum zero v b c = refl
  combined_sum (suc n) v b c =
      ap (λ t. v 0 ⊗ b 0 c ⊕ t) (combined_sum n (λ i. v (suc i)) (λ i. b (suc i)) c)
      ∙ sym (below_first R n (λ k. v k ⊗ b k c))

  volume_multiplies : (n : ℕ) (a b : ℕ → ℕ → A) → volume n (matrix_product R.ops n a b) ≡ volume n a ⊗ volume n b
  volume_multiplies n a b =
      ap (volume n) (fun_ext (λ i. fun_ext (λ c. sym (combined_sum n (a i) b c)))) ∙ volume_product n a b

  -- expansion along the first column

  wedge_sum : (n : ℕ) (v : ℕ → A) (f : ℕ → List Bool → A) (m : List Bool)
      → wedge R.ops v (λ k. sum_below R.ops n (λ i. f i k)) m ≡ sum_below R.ops n (λ i. wedge R.ops v (f i) m)
  wedge_sum zero v f m = wedge_zero v m
  wedge_sum (suc n) v f m =
      wedge_cong v _ (λ k. 𝟙 ⊗ f n k ⊕ sum_below R.ops n (λ i. f i k))
      (λ k. R.add_comm _ _ ∙ ap (λ t. t ⊕ sum_below R.ops n (λ i. f i k)) (sym (one_mul R _))) m
      ∙ wedge_linear v 𝟙 (f n) _ m
      ∙ ap₂ ◌⊕◌ (one_mul R _) (wedge_sum n v f m)
      ∙ R.add_comm _ _

  wedge_scale : (v : ℕ → A) (c : A) (x : List Bool → A) (m : List Bool)
      → wedge R.ops v (λ k. c ⊗ x k) m ≡ c ⊗ wedge R.ops v x m
  wedge_scale v c x m =
      wedge_cong v _ (λ k. c ⊗ x k ⊕ 𝟘) (λ k. sym (R.add_zero _)) m
      ∙ wedge_linear v c x (λ k. 𝟘) m
      ∙ ap (λ t. c ⊗ wedge R.ops v x m ⊕ t) (wedge_zero v m)
      ∙ R.add_zero _

  without_first : (k : ℕ) (a : ℕ → ℕ → A) (m : List Bool)
      → wedges R.ops k a (unit R.ops) (false ∷ m) ≡ wedges R.ops k (λ i c. a i (suc c)) (unit R.ops) m
  without_first zero a m = refl
  without_first (suc k) a m = wedge_cong (λ c. a 0 (suc c)) _ _ (without_first k (λ i. a (suc i))) m

  column : (k : ℕ) (a : ℕ → ℕ → A) (m : List Bool)
      → wedges R.ops (suc k) a (unit R.ops) (true ∷ m)
      ≡ sum_below R.ops (suc k) (λ i. pow R.ops (⊖ 𝟙) i ⊗ (a i 0 ⊗ wedges R.ops k (minor i a) (unit R.ops) m))
  column zero a m =
      ap (λ t. a 0 0 ⊗ unit R.ops m ⊕ ⊖ t) (wedge_zero _ m) ∙ alone (a 0 0) (unit R.ops m)
    where
      alone : (p u : A) → p ⊗ u ⊕ ⊖ 𝟘 ≡ 𝟘 ⊕ 𝟙 ⊗ (p ⊗ u)
      alone p u = ring R (p ∷ u ∷ []) λ q h. simp (reads, q, h 0, h 1) (q.equal _ _ refl)
  column (suc k) a m =
      let a' : ℕ → ℕ → A = λ i. a (suc i) in
      let v : ℕ → A = λ c. a 0 (suc c) in
      let x : ℕ → List Bool → A = λ i. wedges R.ops k (minor i a') (unit R.ops) in
      let s : ℕ → A = λ i. pow R.ops (⊖ 𝟙) i in
      let rest : wedge R.ops v (λ k'. wedges R.ops (suc k) a' (unit R.ops) (true ∷ k')) m
      ≡ sum_below R.ops (suc k) (λ i. s i ⊗ (a' i 0 ⊗ wedge R.ops v (x i) m))
      = wedge_cong v _ _ (column k a') m
      ∙ wedge_sum (suc k) v (λ i k'. s i ⊗ (a' i 0 ⊗ x i k')) m
      ∙ below_cong R (suc k) _ _ (λ i l.
      wedge_scale v (s i) (λ k'. a' i 0 ⊗ x i k') m ∙ ap (λ t. s i ⊗ t) (wedge_scale v (a' i 0) (x i) m)) in
      let negated : ⊖ sum_below R.ops (suc k) (λ i. s i ⊗ (a' i 0 ⊗ wedge R.ops v (x i) m))
      ≡ sum_below R.ops (suc k) (λ i. s (suc i) ⊗ (a' i 0 ⊗ wedge R.ops v (x i) m))
      = sym (below_neg R (suc k) _) ∙ below_cong R (suc k) _ _ (λ i l. turn (s i) (a' i 0 ⊗ wedge R.ops v (x i) m)) in
      ap₂ (λ p q. a 0 0 ⊗ p ⊕ ⊖ q) (without_first (suc k) a' m) rest
      ∙ ap₂ ◌⊕◌ (sym (one_mul R _)) negated
      ∙ sym (below_first R (suc k) (λ i. s i ⊗ (a i 0 ⊗ wedges R.ops (suc k) (minor i a) (unit R.ops) m)))
    where
      turn : (s p : A) → ⊖ (s ⊗ p) ≡ (⊖ 𝟙 ⊗ s) ⊗ p
      turn s p = ring R (s ∷ p ∷ []) λ q h. simp (reads, q, h 0, h 1) (q.equal _ _ refl)

  pub volume_is : (n : ℕ) (a : ℕ → ℕ → A) → volume n a ≡ determinant R.ops n a
  unfolding volume
  volume_is zero a = refl
  volume_is (suc n) a =
      column n a (replicate n true)
      ∙ below_cong R (suc n) _ _ (λ i l. ap (λ t. pow R.ops (⊖ 𝟙) i ⊗ (a i 0 ⊗ t)) (volume_is n (minor i a)))

  pub determinant_product : (n : ℕ) (a b : ℕ → ℕ → A)
      → determinant R.ops n (matrix_product R.ops n a b) ≡ determinant R.ops n a ⊗ determinant R.ops n b
  determinant_product n a b =
      sym (volume_is n _) ∙ volume_multiplies n a b ∙ ap₂ ◌⊗◌ (volume_is n a) (volume_is n b)

  pub determinant_repeated : (n : ℕ) (a : ℕ → ℕ → A) (i j : ℕ) → i < j → j < n → a i ≡ a j → determinant R.ops n a ≡ 𝟘
  unfolding volume
  determinant_repeated n a i j l l' e =
      sym (volume_is n a) ∙ wedges_repeated n a (unit R.ops) i j l l' e (replicate n true)
