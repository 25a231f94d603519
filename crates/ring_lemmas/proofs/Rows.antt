-- The laws of a ring for rows modulo f.
use Rattle.std.proofs.Common.{◌≡◌, ℕ, zero, suc, ◌≤◌, refl, sym, ◌∙◌, ap, ap₂, le_of_suc-le-suc, le_refl, arith}
use Rattle.ring_lemmas.specs.Ring.{CommRing}
use Rattle.ring_lemmas.specs.Rows.{row_one, row_mul, Row, row_zero, row_add, row_neg, row_scale, shift, top, times_y, row_times, entry, diagonal_sum, row_trace, y_to}
use Rattle.ring_lemmas.proofs.Ring.{neg_sum, neg_zero, mul_zero, mul_neg, add_mul}

pub pair_path : {A B : Type 0} {a a' : A} {b b' : B} → a ≡ a' → b ≡ b' → ◌≡◌ {A = A × B} (a, b) (a', b')
pair_path p q = λ i. (p i, q i)

module _ {P : Type 0} (S : CommRing P) where
  pub row_set : (n : ℕ) → IsSet (Row P n)
  row_set zero = hlevel
  row_set (suc n) = hlevel (S.is_set, row_set n)

  pub row_add_assoc : (n : ℕ) (v w u : Row P n)
      → row_add S.ops n (row_add S.ops n v w) u ≡ row_add S.ops n v (row_add S.ops n w u)
  unfolding row_add
  row_add_assoc zero v w u = refl
  row_add_assoc (suc n) (a, v) (b, w) (c, u) = pair_path (S.add_assoc a b c) (row_add_assoc n v w u)

  pub row_add_comm : (n : ℕ) (v w : Row P n) → row_add S.ops n v w ≡ row_add S.ops n w v
  unfolding row_add
  row_add_comm zero v w = refl
  row_add_comm (suc n) (a, v) (b, w) = pair_path (S.add_comm a b) (row_add_comm n v w)

  pub row_add_zero : (n : ℕ) (v : Row P n) → row_add S.ops n v (row_zero S.ops n) ≡ v
  unfolding row_add row_zero
  row_add_zero zero v = refl
  row_add_zero (suc n) (a, v) = pair_path (S.add_zero a) (row_add_zero n v)

  pub row_add_neg : (n : ℕ) (v : Row P n) → row_add S.ops n v (row_neg S.ops n v) ≡ row_zero S.ops n
  unfolding row_add row_zero row_neg
  row_add_neg zero v = refl
  row_add_neg (suc n) (a, v) = pair_path (S.add_neg a) (row_add_neg n v)

  pub row_scale_add : (n : ℕ) (d : P) (v w : Row P n)
      → row_scale S.ops n d (row_add S.ops n v w) ≡ row_add S.ops n (row_scale S.ops n d v) (row_scale S.ops n d w)
  unfolding row_add row_scale
  row_scale_add zero d v w = refl
  row_scale_add (suc n) d (a, v) (b, w) = pair_path (S.mul_add d a b) (row_scale_add n d v w)

  pub row_add_scale : (n : ℕ) (d e : P) (v : Row P n)
      → row_scale S.ops n (S.◌⊕◌ d e) v ≡ row_add S.ops n (row_scale S.ops n d v) (row_scale S.ops n e v)
  unfolding row_add row_scale
  row_add_scale zero d e v = refl
  row_add_scale (suc n) d e (a, v) = pair_path (add_mul S d e a) (row_add_scale n d e v)

  pub row_scale_scale : (n : ℕ) (d e : P) (v : Row P n)
      → row_scale S.ops n (S.◌⊗◌ d e) v ≡ row_scale S.ops n d (row_scale S.ops n e v)
  unfolding row_scale
  row_scale_scale zero d e v = refl
  row_scale_scale (suc n) d e (a, v) = pair_path (S.mul_assoc d e a) (row_scale_scale n d e v)

  pub row_scale_one : (n : ℕ) (v : Row P n) → row_scale S.ops n S.𝟙 v ≡ v
  unfolding row_scale
  row_scale_one zero v = refl
  row_scale_one (suc n) (a, v) = pair_path (S.mul_comm S.𝟙 a ∙ S.mul_one a) (row_scale_one n v)

  pub row_scale_zero : (n : ℕ) (d : P) → row_scale S.ops n d (row_zero S.ops n) ≡ row_zero S.ops n
  unfolding row_scale row_zero
  row_scale_zero zero d = refl
  row_scale_zero (suc n) d = pair_path (mul_zero S d) (row_scale_zero n d)

  pub row_zero_scale : (n : ℕ) (v : Row P n) → row_scale S.ops n S.𝟘 v ≡ row_zero S.ops n
  unfolding row_scale row_zero
  row_zero_scale zero v = refl
  row_zero_scale (suc n) (a, v) = pair_path (S.mul_comm S.𝟘 a ∙ mul_zero S a) (row_zero_scale n v)

  pub row_add_left_comm : (n : ℕ) (v w u : Row P n)
      → row_add S.ops n v (row_add S.ops n w u) ≡ row_add S.ops n w (row_add S.ops n v u)
  row_add_left_comm n v w u =
      sym (row_add_assoc n v w u) ∙ ap (λ t. row_add S.ops n t u) (row_add_comm n v w) ∙ row_add_assoc n w v u

  pub row_scale_comm : (n : ℕ) (d e : P) (v : Row P n)
      → row_scale S.ops n d (row_scale S.ops n e v) ≡ row_scale S.ops n e (row_scale S.ops n d v)
  row_scale_comm n d e v =
      sym (row_scale_scale n d e v) ∙ ap (λ t. row_scale S.ops n t v) (S.mul_comm d e) ∙ row_scale_scale n e d v

  pub shift_add : (n : ℕ) (c d : P) (v w : Row P n)
      → shift S.ops n (S.◌⊕◌ c d) (row_add S.ops n v w) ≡ row_add S.ops n (shift S.ops n c v) (shift S.ops n d w)
  unfolding row_add shift
  shift_add zero c d v w = refl
  shift_add (suc n) c d (a, v) (b, w) = pair_path refl (shift_add n a b v w)

  pub shift_scale : (n : ℕ) (e c : P) (v : Row P n)
      → shift S.ops n (S.◌⊗◌ e c) (row_scale S.ops n e v) ≡ row_scale S.ops n e (shift S.ops n c v)
  unfolding row_scale shift
  shift_scale zero e c v = refl
  shift_scale (suc n) e c (a, v) = pair_path refl (shift_scale n e a v)

  pub top_add : (n : ℕ) (c d : P) (v w : Row P n)
      → top S.ops n (S.◌⊕◌ c d) (row_add S.ops n v w) ≡ S.◌⊕◌ (top S.ops n c v) (top S.ops n d w)
  unfolding row_add top
  top_add zero c d v w = refl
  top_add (suc n) c d (a, v) (b, w) = top_add n a b v w

  pub top_scale : (n : ℕ) (e c : P) (v : Row P n)
      → top S.ops n (S.◌⊗◌ e c) (row_scale S.ops n e v) ≡ S.◌⊗◌ e (top S.ops n c v)
  unfolding row_scale top
  top_scale zero e c v = refl
  top_scale (suc n) e c (a, v) = top_scale n e a v

pub ruleset row_rules = (row_scale_add, row_add_assoc, row_add_comm, row_add_left_comm, row_scale_comm)

module _ {P : Type 0} (S : CommRing P) (n : ℕ) (f : Row P n) where
  shift_zero_add : (v w : Row P n) → shift S.ops n S.𝟘 (row_add S.ops n v w)
      ≡ row_add S.ops n (shift S.ops n S.𝟘 v) (shift S.ops n S.𝟘 w)
  shift_zero_add v w = ap (λ c. shift S.ops n c (row_add S.ops n v w)) (sym (S.add_zero S.𝟘))
      ∙ shift_add S n S.𝟘 S.𝟘 v w

  shift_zero_scale : (e : P) (v : Row P n)
      → shift S.ops n S.𝟘 (row_scale S.ops n e v) ≡ row_scale S.ops n e (shift S.ops n S.𝟘 v)
  shift_zero_scale e v = ap (λ c. shift S.ops n c (row_scale S.ops n e v)) (sym (mul_zero S e))
      ∙ shift_scale S n e S.𝟘 v

  top_zero_add : (v w : Row P n) → top S.ops n S.𝟘 (row_add S.ops n v w) ≡ S.◌⊕◌ (top S.ops n S.𝟘 v) (top S.ops n S.𝟘 w)
  top_zero_add v w = ap (λ c. top S.ops n c (row_add S.ops n v w)) (sym (S.add_zero S.𝟘)) ∙ top_add S n S.𝟘 S.𝟘 v w

  top_zero_scale : (e : P) (v : Row P n) → top S.ops n S.𝟘 (row_scale S.ops n e v) ≡ S.◌⊗◌ e (top S.ops n S.𝟘 v)
  top_zero_scale e v = ap (λ c. top S.ops n c (row_scale S.ops n e v)) (sym (mul_zero S e)) ∙ top_scale S n e S.𝟘 v

  pub times_y_add : (v w : Row P n) → times_y S.ops n f (row_add S.ops n v w)
      ≡ row_add S.ops n (times_y S.ops n f v) (times_y S.ops n f w)
  unfolding times_y
  times_y_add v w = simp (shift_zero_add, top_zero_add, neg_sum, row_add_scale, row_rules)

  pub times_y_scale : (e : P) (v : Row P n)
      → times_y S.ops n f (row_scale S.ops n e v) ≡ row_scale S.ops n e (times_y S.ops n f v)
  unfolding times_y
  times_y_scale e v = simp (shift_zero_scale, top_zero_scale, ← (mul_neg S), row_scale_scale, row_rules)

  pub times_y_zero : times_y S.ops n f (row_zero S.ops n) ≡ row_zero S.ops n
  times_y_zero =
      ap (times_y S.ops n f) (sym (row_zero_scale S n (row_zero S.ops n))) ∙ times_y_scale S.𝟘 (row_zero S.ops n)
      ∙ row_zero_scale S n (times_y S.ops n f (row_zero S.ops n))

  -- the product is linear on the right
  pub times_add : (m : ℕ) (v : Row P m) (w w' : Row P n)
      → row_times S.ops n m f v (row_add S.ops n w w')
      ≡ row_add S.ops n (row_times S.ops n m f v w) (row_times S.ops n m f v w')
  unfolding row_times
  times_add zero v w w' = sym (row_add_zero S n (row_zero S.ops n))
  times_add (suc m) (a, v) w w' = simp (times_add m v w w', times_y_add, row_rules)

  pub times_scale : (m : ℕ) (e : P) (v : Row P m) (w : Row P n)
      → row_times S.ops n m f v (row_scale S.ops n e w) ≡ row_scale S.ops n e (row_times S.ops n m f v w)
  unfolding row_times
  times_scale zero e v w = sym (row_scale_zero S n e)
  times_scale (suc m) e (a, v) w = simp (times_scale m e v w, times_y_scale, row_rules)

  pub times_times_y : (m : ℕ) (v : Row P m) (w : Row P n)
      → row_times S.ops n m f v (times_y S.ops n f w) ≡ times_y S.ops n f (row_times S.ops n m f v w)
  unfolding row_times
  times_times_y zero v w = sym times_y_zero
  times_times_y (suc m) (a, v) w = simp (times_times_y m v w, times_y_add, times_y_scale, row_rules)

  pub times_zero : (m : ℕ) (v : Row P m) → row_times S.ops n m f v (row_zero S.ops n) ≡ row_zero S.ops n
  times_zero m v =
      ap (row_times S.ops n m f v) (sym (row_zero_scale S n (row_zero S.ops n)))
      ∙ times_scale m S.𝟘 v (row_zero S.ops n)
      ∙ row_zero_scale S n (row_times S.ops n m f v (row_zero S.ops n))

  -- on the left
  pub add_times : (m : ℕ) (v v' : Row P m) (w : Row P n)
      → row_times S.ops n m f (row_add S.ops m v v') w
      ≡ row_add S.ops n (row_times S.ops n m f v w) (row_times S.ops n m f v' w)
  unfolding row_times row_add
  add_times zero v v' w = sym (row_add_zero S n (row_zero S.ops n))
  add_times (suc m) (a, v) (a', v') w = simp (add_times m v v' w, times_y_add, row_add_scale, row_rules)

  pub scale_times : (m : ℕ) (e : P) (v : Row P m) (w : Row P n)
      → row_times S.ops n m f (row_scale S.ops m e v) w ≡ row_scale S.ops n e (row_times S.ops n m f v w)
  unfolding row_times row_scale
  scale_times zero e v w = sym (row_scale_zero S n e)
  scale_times (suc m) e (a, v) w = simp (scale_times m e v w, times_y_scale, row_scale_scale, row_rules)

  pub times_swap : (m l : ℕ) (v : Row P m) (u : Row P l) (w : Row P n)
      → row_times S.ops n m f v (row_times S.ops n l f u w) ≡ row_times S.ops n l f u (row_times S.ops n m f v w)
  unfolding row_times
  times_swap zero l v u w = sym (times_zero l u)
  times_swap (suc m) l (a, v) u w =
      simp (times_swap m l v u w, times_add, times_scale, times_times_y)

module _ {P : Type 0} (S : CommRing P) where
  -- the first entries of v, and 0 after them
  unfoldable pub pad : (n m : ℕ) → Row P m → Row P n
  pad zero m v = tt
  pad (suc n) zero v = row_zero S.ops (suc n)
  pad (suc n) (suc m) (a, v) = (a, pad n m v)

  pad_self : (n : ℕ) (v : Row P n) → pad n n v ≡ v
  unfolding pad
  pad_self zero v = refl
  pad_self (suc n) (a, v) = pair_path refl (pad_self n v)

  pub pad_none : (n : ℕ) (v : Row P 0) → pad n 0 v ≡ row_zero S.ops n
  unfolding pad row_zero
  pad_none zero v = refl
  pad_none (suc n) v = refl

  shift_zero_zero : (n : ℕ) → shift S.ops n S.𝟘 (row_zero S.ops n) ≡ row_zero S.ops n
  unfolding shift row_zero
  shift_zero_zero zero = refl
  shift_zero_zero (suc n) = pair_path refl (shift_zero_zero n)

  top_zero_zero : (n : ℕ) → top S.ops n S.𝟘 (row_zero S.ops n) ≡ S.𝟘
  unfolding top row_zero
  top_zero_zero zero = refl
  top_zero_zero (suc n) = top_zero_zero n

  shift_pad : (n m : ℕ) (c : P) (v : Row P m) → m ≤ n → shift S.ops (suc n) c (pad (suc n) m v) ≡ (c, pad n m v)
  unfolding shift pad row_zero
  shift_pad n zero c v h = pair_path refl (shift_zero_zero n ∙ sym (pad_none n v))
  shift_pad zero (suc m) c (a, v) h = absurd (omega arith)
  shift_pad (suc n) (suc m) c (a, v) h = pair_path refl (shift_pad n m a v (le_of_suc-le-suc h))

  top_pad : (n m : ℕ) (c : P) (v : Row P m) → m ≤ n → top S.ops (suc n) c (pad (suc n) m v) ≡ S.𝟘
  unfolding top pad row_zero
  top_pad n zero c v h = top_zero_zero n
  top_pad zero (suc m) c (a, v) h = absurd (omega arith)
  top_pad (suc n) (suc m) c (a, v) h = top_pad n m a v (le_of_suc-le-suc h)

module _ {P : Type 0} (S : CommRing P) (n : ℕ) (f : Row P (suc n)) where
  times_y_pad : (m : ℕ) (v : Row P m) → m ≤ n → times_y S.ops (suc n) f (pad S (suc n) m v) ≡ (S.𝟘, pad S n m v)
  unfolding times_y
  times_y_pad m v h =
      ap₂ (λ s t. row_add S.ops (suc n) s (row_scale S.ops (suc n) (S.⊖◌ t) f)) (shift_pad S n m S.𝟘 v h)
      (top_pad S n m S.𝟘 v h)
      ∙ ap (λ t. row_add S.ops (suc n) (S.𝟘, pad S n m v) (row_scale S.ops (suc n) t f)) (neg_zero S)
      ∙ ap (row_add S.ops (suc n) (S.𝟘, pad S n m v)) (row_zero_scale S (suc n) f)
      ∙ row_add_zero S (suc n) (S.𝟘, pad S n m v)

  scale_one_add : (a : P) (u : Row P n) → row_add S.ops (suc n) (row_scale S.ops (suc n) a (row_one S n)) (S.𝟘, u)
      ≡ (a, u)
  unfolding row_add row_scale row_one
  scale_one_add a u =
      pair_path (S.add_zero (S.◌⊗◌ a S.𝟙) ∙ S.mul_one a)
      (ap (λ t. row_add S.ops n t u) (row_scale_zero S n a) ∙ row_add_comm S n (row_zero S.ops n) u
      ∙ row_add_zero S n u)

  pub times_one_pad : (m : ℕ) (v : Row P m) → m ≤ suc n
      → row_times S.ops (suc n) m f v (row_one S n) ≡ pad S (suc n) m v
  unfolding row_times pad
  times_one_pad zero v h = refl
  times_one_pad (suc m) (a, v) h =
      ap (λ t. row_add S.ops (suc n) (row_scale S.ops (suc n) a (row_one S n)) (times_y S.ops (suc n) f t))
      (times_one_pad m v (omega arith))
      ∙ ap (row_add S.ops (suc n) (row_scale S.ops (suc n) a (row_one S n))) (times_y_pad m v (le_of_suc-le-suc h))
      ∙ scale_one_add a (pad S n m v)

  pub row_mul_one : (v : Row P (suc n)) → row_mul S n f v (row_one S n) ≡ v
  unfolding row_mul
  row_mul_one v = times_one_pad (suc n) v (le_refl (suc n)) ∙ pad_self S (suc n) v

  pub row_mul_swap : (v u w : Row P (suc n)) → row_mul S n f v (row_mul S n f u w) ≡ row_mul S n f u (row_mul S n f v w)
  unfolding row_mul
  row_mul_swap v u w = times_swap S (suc n) f (suc n) (suc n) v u w

  pub row_mul_comm : (v w : Row P (suc n)) → row_mul S n f v w ≡ row_mul S n f w v
  row_mul_comm v w = ap (row_mul S n f v) (sym (row_mul_one w)) ∙ row_mul_swap v w (row_one S n)
      ∙ ap (row_mul S n f w) (row_mul_one v)

  pub row_mul_assoc : (v w u : Row P (suc n))
      → row_mul S n f (row_mul S n f v w) u ≡ row_mul S n f v (row_mul S n f w u)
  row_mul_assoc v w u = row_mul_comm (row_mul S n f v w) u ∙ row_mul_swap u v w
      ∙ ap (row_mul S n f v) (row_mul_comm u w)

  pub row_mul_add : (v w u : Row P (suc n))
      → row_mul S n f v (row_add S.ops (suc n) w u) ≡ row_add S.ops (suc n) (row_mul S n f v w) (row_mul S n f v u)
  unfolding row_mul
  row_mul_add v w u = times_add S (suc n) f (suc n) v w u

  pub scale_row_mul : (d : P) (v w : Row P (suc n))
      → row_scale S.ops (suc n) d (row_mul S n f v w) ≡ row_mul S n f (row_scale S.ops (suc n) d v) w
  unfolding row_mul
  scale_row_mul d v w = sym (scale_times S (suc n) f (suc n) d v w)

  pub entry_scale : (m i : ℕ) (d : P) (v : Row P m)
      → entry S.ops m i (row_scale S.ops m d v) ≡ S.◌⊗◌ d (entry S.ops m i v)
  unfolding entry row_scale
  entry_scale zero i d v = sym (mul_zero S d)
  entry_scale (suc m) zero d (a, v) = refl
  entry_scale (suc m) (suc i) d (a, v) = entry_scale m i d v

  diagonal_sum_scale : (m : ℕ) (d : P) (v : Row P (suc n))
      → diagonal_sum S.ops n m f (row_scale S.ops (suc n) d v) ≡ S.◌⊗◌ d (diagonal_sum S.ops n m f v)
  unfolding diagonal_sum
  diagonal_sum_scale zero d v = sym (mul_zero S d)
  diagonal_sum_scale (suc i) d v =
      ap₂ S.◌⊕◌ (diagonal_sum_scale i d v)
      (ap (entry S.ops (suc n) i) (scale_times S (suc n) f (suc n) d v (y_to S.ops n f i))
      ∙ entry_scale (suc n) i d (row_times S.ops (suc n) (suc n) f v (y_to S.ops n f i)))
      ∙ sym (S.mul_add d (diagonal_sum S.ops n i f v)
      (entry S.ops (suc n) i (row_times S.ops (suc n) (suc n) f v (y_to S.ops n f i))))

  pub row_trace_scale : (d : P) (v : Row P (suc n))
      → row_trace S.ops n f (row_scale S.ops (suc n) d v) ≡ S.◌⊗◌ d (row_trace S.ops n f v)
  unfolding row_trace
  row_trace_scale d v = diagonal_sum_scale (suc n) d v
