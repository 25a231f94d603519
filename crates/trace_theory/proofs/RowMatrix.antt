-- A row is the sum of its entries times the powers of y, and multiplication by a row has a matrix.
use Rattle.std.proofs.Common.{◌≡◌, ℕ, zero, suc, ◌<◌, ◌+◌, refl, sym, ◌∙◌, ap, ap₂, arith, zero-add}
use Rattle.ring_lemmas.specs.Ring.{CommRing}
use Rattle.ring_lemmas.specs.Rows.{Row, row_zero, row_add, row_scale, shift, top, times_y, row_times, entry, y_to, diagonal_sum, row_trace, row_one, row_mul}
use Rattle.ring_lemmas.specs.Sums.{sum_below, matrix_product, trace}
use Rattle.ring_lemmas.proofs.Ring.{mul_zero, neg_zero}
use Rattle.ring_lemmas.proofs.Sums.{below_cong, below_first, below_add}
use Rattle.ring_lemmas.proofs.Rows.{pair_path, row_add_zero, row_zero_scale, times_scale, times_times_y, row_mul_one, entry_scale, row_trace_scale, scale_row_mul}
use Rattle.ring_theory.specs.RowRing.{row_ring}

module _ {P : Type 0} (S : CommRing P) where
  -- the row of the i-th power of y
  unfoldable pub unit_row : (n : ℕ) → ℕ → Row P n
  unit_row zero i = tt
  unit_row (suc n) zero = (S.𝟙, row_zero S.ops n)
  unit_row (suc n) (suc i) = (S.𝟘, unit_row n i)

  pub entry_here : (n i : ℕ) → i < n → entry S.ops n i (unit_row n i) ≡ S.𝟙
  unfolding entry unit_row
  entry_here zero i l = absurd (omega arith)
  entry_here (suc n) zero l = refl
  entry_here (suc n) (suc i) l = entry_here n i (omega arith)

  pub entry_zero : (n i : ℕ) → entry S.ops n i (row_zero S.ops n) ≡ S.𝟘
  unfolding entry row_zero
  entry_zero zero i = refl
  entry_zero (suc n) zero = refl
  entry_zero (suc n) (suc i) = entry_zero n i

  pub entry_other : (n i j : ℕ) → ¬ (i ≡ j) → entry S.ops n i (unit_row n j) ≡ S.𝟘
  unfolding entry unit_row
  entry_other zero i j ne = refl
  entry_other (suc n) zero zero ne = absurd (ne refl)
  entry_other (suc n) (suc i) zero ne = entry_zero n i
  entry_other (suc n) zero (suc j) ne = refl
  entry_other (suc n) (suc i) (suc j) ne = entry_other n i j (λ e. ne (ap suc e))

  pub entry_add : (n i : ℕ) (v w : Row P n)
      → entry S.ops n i (row_add S.ops n v w) ≡ S.◌⊕◌ (entry S.ops n i v) (entry S.ops n i w)
  unfolding entry row_add
  entry_add zero i v w = sym (S.add_zero S.𝟘)
  entry_add (suc n) zero (a, v) (b, w) = refl
  entry_add (suc n) (suc i) (a, v) (b, w) = entry_add n i v w

  -- rows with equal entries are equal
  pub row_by_entries : (n : ℕ) (v w : Row P n) → ((i : ℕ) → i < n → entry S.ops n i v ≡ entry S.ops n i w) → v ≡ w
  unfolding entry
  row_by_entries zero v w h = refl
  row_by_entries (suc n) (a, v) (b, w) h = pair_path (h 0 (omega arith))
      (row_by_entries n v w (λ i l. h (suc i) (omega arith)))

  -- the row with given entries
  unfoldable pub row_with : (n : ℕ) → (ℕ → P) → Row P n
  row_with zero f = tt
  row_with (suc n) f = (f 0, row_with n (λ i. f (suc i)))

  pub entry_with : (n i : ℕ) (f : ℕ → P) → i < n → entry S.ops n i (row_with n f) ≡ f i
  unfolding entry row_with
  entry_with zero i f l = absurd (omega arith)
  entry_with (suc n) zero f l = refl
  entry_with (suc n) (suc i) f l = entry_with n i (λ i. f (suc i)) (omega arith)

  shift_next : (n : ℕ) (a : P) → a ≡ S.𝟙 → shift S.ops n a (row_zero S.ops n) ≡ unit_row n 0
  unfolding shift unit_row row_zero
  shift_next zero a e = refl
  shift_next (suc n) a e = pair_path e (shift_none n)
    where
      shift_none : (n : ℕ) → shift S.ops n S.𝟘 (row_zero S.ops n) ≡ row_zero S.ops n
      shift_none zero = refl
      shift_none (suc n) = pair_path refl (shift_none n)

  shift_unit : (n i : ℕ) → shift S.ops n S.𝟘 (unit_row n i) ≡ unit_row n (suc i)
  unfolding shift unit_row
  shift_unit zero i = refl
  shift_unit (suc n) zero = pair_path refl (shift_next n S.𝟙 refl)
  shift_unit (suc n) (suc i) = pair_path refl (shift_unit n i)

  top_none : (n : ℕ) → top S.ops n S.𝟘 (row_zero S.ops n) ≡ S.𝟘
  unfolding top row_zero
  top_none zero = refl
  top_none (suc n) = top_none n

  top_unit : (n i : ℕ) → suc i < n → top S.ops n S.𝟘 (unit_row n i) ≡ S.𝟘
  unfolding top unit_row row_zero
  top_unit zero i l = absurd (omega arith)
  top_unit (suc zero) zero l = absurd (omega arith)
  top_unit (suc (suc n)) zero l = top_none n
  top_unit (suc n) (suc i) l = top_unit n i (omega arith)

module _ {P : Type 0} (S : CommRing P) (n : ℕ) (f : Row P (suc n)) where
  infixl 65 ◌⊕◌
  infixl 70 ◌⊗◌
  open S use {𝟘, 𝟙, ◌⊕◌, ◌⊗◌}

  abbrev pub rows : CommRing (Row P (suc n))
  rows = row_ring S n f

  abbrev pub y : ℕ → Row P (suc n)
  y i = y_to S.ops n f i

  abbrev pub tr : Row P (suc n) → P
  tr v = row_trace S.ops n f v

  abbrev pub at : ℕ → Row P (suc n) → P
  at i v = entry S.ops (suc n) i v

  times_unit : (i : ℕ) → suc i < suc n → times_y S.ops (suc n) f (unit_row S (suc n) i) ≡ unit_row S (suc n) (suc i)
  unfolding times_y
  times_unit i l =
      ap₂ (λ s t. row_add S.ops (suc n) s (row_scale S.ops (suc n) (S.⊖◌ t) f)) (shift_unit S (suc n) i)
      (top_unit S (suc n) i l)
      ∙ ap (λ t. row_add S.ops (suc n) (unit_row S (suc n) (suc i)) (row_scale S.ops (suc n) t f)) (neg_zero S)
      ∙ ap (row_add S.ops (suc n) (unit_row S (suc n) (suc i))) (row_zero_scale S (suc n) f)
      ∙ row_add_zero S (suc n) (unit_row S (suc n) (suc i))

  -- the powers of y below the degree are the unit rows
  pub y_unit : (i : ℕ) → i < suc n → y i ≡ unit_row S (suc n) i
  unfolding y_to unit_row
  y_unit zero l = refl
  y_unit (suc i) l = ap (times_y S.ops (suc n) f) (y_unit i (omega arith)) ∙ times_unit i l

  pub y_zero : y 0 ≡ rows.𝟙
  unfolding y_to row_one
  y_zero = refl

  y_next : (i : ℕ) → times_y S.ops (suc n) f (y i) ≡ y (suc i)
  unfolding y_to
  y_next i = refl

  -- v·y^i
  pub times_power : (v : Row P (suc n)) (i : ℕ) → times_y S.ops (suc n) f (rows.◌⊗◌ v (y i)) ≡ rows.◌⊗◌ v (y (suc i))
  unfolding row_mul y_to
  times_power v i = sym (times_times_y S (suc n) f (suc n) v (y i))

  pub y_product : (i j : ℕ) → rows.◌⊗◌ (y i) (y j) ≡ y (i + j)
  y_product i zero = ap (rows.◌⊗◌ (y i)) y_zero ∙ rows.mul_one (y i) ∙ ap y (let e : i ≡ i + 0 = omega arith in e)
  y_product i (suc j) =
      sym (times_power (y i) j) ∙ ap (times_y S.ops (suc n) f) (y_product i j) ∙ y_next (i + j)
      ∙ ap y (let e : suc (i + j) ≡ i + suc j = omega arith in e)

  -- a map that keeps sums and multiples takes a sum of multiples to the sum of the multiples of the values
  module _ (g : Row P (suc n) → P) (add : (v w : Row P (suc n)) → g (rows.◌⊕◌ v w) ≡ g v ⊕ g w)
      (scale : (d : P) (v : Row P (suc n)) → g (row_scale S.ops (suc n) d v) ≡ d ⊗ g v) where
    map_zero : g rows.𝟘 ≡ 𝟘
    map_zero = ap g (sym (row_zero_scale S (suc n) rows.𝟘)) ∙ scale 𝟘 rows.𝟘 ∙ S.mul_comm 𝟘 _ ∙ mul_zero S _

    map_times : (m : ℕ) (v : Row P m) (e : ℕ)
        → g (row_times S.ops (suc n) m f v (y e)) ≡ sum_below S.ops m (λ i. entry S.ops m i v ⊗ g (y (e + i)))
    unfolding row_times entry
    map_times zero v e = map_zero
    map_times (suc m) (a, v) e =
        add _ _
        ∙ ap₂ ◌⊕◌ (scale a (y e) ∙ ap (λ k. a ⊗ g (y k)) (let q : e ≡ e + 0 = omega arith in q))
        (ap g (sym (times_times_y S (suc n) f m v (y e)) ∙ ap (row_times S.ops (suc n) m f v) (y_next e))
        ∙ map_times m v (suc e)
        ∙ below_cong S m (λ i. entry S.ops m i v ⊗ g (y (suc e + i))) (λ i. entry S.ops m i v ⊗ g (y (e + suc i)))
        (λ i l. ap (λ k. entry S.ops m i v ⊗ g (y k)) (let q : suc e + i ≡ e + suc i = omega arith in q)))
        ∙ sym (below_first S m (λ i. entry S.ops (suc m) i (a, v) ⊗ g (y (e + i))))

    -- the value at v·w is the sum of v_i times the value at y^i·w
    pub map_sum : (v : Row P (suc n)) → g v ≡ sum_below S.ops (suc n) (λ i. at i v ⊗ g (y i))
    unfolding row_mul
    map_sum v =
        ap g (sym (row_mul_one S n f v) ∙ ap (row_mul S n f v) (sym y_zero)) ∙ map_times (suc n) v 0
        ∙ below_cong S (suc n) _ _ (λ i l. ap (λ k. at i v ⊗ g (y k)) (zero-add i))

  pub at_scale : (i : ℕ) (d : P) (v : Row P (suc n)) → at i (row_scale S.ops (suc n) d v) ≡ d ⊗ at i v
  at_scale i d v = entry_scale S n f (suc n) i d v

  -- the matrix of multiplication by v: row i has v·y^i
  unfoldable pub matrix : Row P (suc n) → ℕ → ℕ → P
  matrix v i j = at j (rows.◌⊗◌ v (y i))

  diagonal_is : (m : ℕ) (v : Row P (suc n)) → diagonal_sum S.ops n m f v ≡ sum_below S.ops m (λ i. matrix v i i)
  unfolding diagonal_sum matrix row_mul
  diagonal_is zero v = refl
  diagonal_is (suc m) v = ap (λ s. s ⊕ at m (row_times S.ops (suc n) (suc n) f v (y m))) (diagonal_is m v)

  pub trace_is : (v : Row P (suc n)) → tr v ≡ trace S.ops (suc n) (matrix v)
  unfolding row_trace
  trace_is v = diagonal_is (suc n) v

  right_scale : (d : P) (v u : Row P (suc n))
      → rows.◌⊗◌ v (row_scale S.ops (suc n) d u) ≡ row_scale S.ops (suc n) d (rows.◌⊗◌ v u)
  unfolding row_mul
  right_scale d v u = times_scale S (suc n) f (suc n) d v u

  pub matrix_mul : (v w : Row P (suc n)) (i j : ℕ)
      → matrix (rows.◌⊗◌ v w) i j ≡ matrix_product S.ops (suc n) (matrix w) (matrix v) i j
  unfolding matrix
  matrix_mul v w i j =
      ap (at j) (rows.mul_assoc v w (y i))
      ∙ map_sum (λ u. at j (rows.◌⊗◌ v u))
      (λ u u'. ap (at j) (rows.mul_add v u u') ∙ entry_add S (suc n) j _ _)
      (λ d u. ap (at j) (right_scale d v u) ∙ at_scale j d _)
      (rows.◌⊗◌ w (y i))

  pub trace_add : (v w : Row P (suc n)) → tr (rows.◌⊕◌ v w) ≡ tr v ⊕ tr w
  unfolding matrix
  trace_add v w =
      trace_is (rows.◌⊕◌ v w)
      ∙ below_cong S (suc n) _ _ (λ i l. ap (at i)
      (rows.mul_comm _ _ ∙ rows.mul_add (y i) v w ∙ ap₂ rows.◌⊕◌ (rows.mul_comm _ _) (rows.mul_comm _ _))
      ∙ entry_add S (suc n) i _ _)
      ∙ below_add S (suc n) _ _ ∙ sym (ap₂ ◌⊕◌ (trace_is v) (trace_is w))

  pub trace_scale : (d : P) (v : Row P (suc n)) → tr (row_scale S.ops (suc n) d v) ≡ d ⊗ tr v
  trace_scale d v = row_trace_scale S n f d v

  pub left_scale : (d : P) (u : Row P (suc n)) (j : ℕ)
      → rows.◌⊗◌ (row_scale S.ops (suc n) d u) (y j) ≡ row_scale S.ops (suc n) d (rows.◌⊗◌ u (y j))
  left_scale d u j = sym (scale_row_mul S n f d u (y j))

  -- the trace of v·y^j is the sum of v_i times the trace of y^(i+j)
  pub trace_form : (v : Row P (suc n)) (j : ℕ)
      → tr (rows.◌⊗◌ v (y j)) ≡ sum_below S.ops (suc n) (λ i. at i v ⊗ tr (y (i + j)))
  trace_form v j =
      map_sum (λ u. tr (rows.◌⊗◌ u (y j)))
      (λ u u'. ap tr (rows.mul_comm _ _ ∙ rows.mul_add (y j) u u'
      ∙ ap₂ rows.◌⊕◌ (rows.mul_comm _ _) (rows.mul_comm _ _)) ∙ trace_add _ _)
      (λ d u. ap tr (left_scale d u j) ∙ trace_scale d _) v
      ∙ below_cong S (suc n) _ _ (λ i l. ap (λ u. at i v ⊗ tr u) (y_product i j))

  pub trace_expand : (v : Row P (suc n)) → tr v ≡ sum_below S.ops (suc n) (λ i. at i v ⊗ tr (y i))
  trace_expand v = map_sum tr trace_add trace_scale v

  -- the trace of v·w is the sum of v_i times the trace of w·y^i
  pub trace_product : (v w : Row P (suc n))
      → tr (rows.◌⊗◌ v w) ≡ sum_below S.ops (suc n) (λ i. at i v ⊗ tr (rows.◌⊗◌ w (y i)))
  trace_product v w =
      ap tr (rows.mul_comm v w)
      ∙ map_sum (λ u. tr (rows.◌⊗◌ w u)) (λ u u'. ap tr (rows.mul_add w u u') ∙ trace_add _ _)
      (λ d u. ap tr (right_scale d w u) ∙ trace_scale d _) v

  pub trace_unit : tr rows.𝟙 ≡ sum_below S.ops (suc n) (λ i. 𝟙)
  unfolding matrix
  trace_unit =
      trace_is rows.𝟙
      ∙ below_cong S (suc n) _ _ (λ i l. ap (at i) (rows.mul_comm rows.𝟙 (y i) ∙ rows.mul_one (y i) ∙ y_unit i l)
      ∙ entry_here S (suc n) i l)
