-- Steps of the loops over rows.
use Rattle.std.proofs.Common.{◌≡◌, ℕ, zero, suc, ◌+◌, ◌<◌, ◌≤◌, List, [], ◌∷◌, ◌++◌, length, get_or, take, drop, set, replicate, All, refl, sym, ap, ap₂, ◌∙◌, subst, arith, add-one}
use native.Mathlib.Decide.{ℕ_discrete}
use Rattle.std.proofs.Math.Seq.{drop-cons}
use Rattle.std.proofs.lemmas.List.{take_all, drop_all, append-nil, get_or-set_same, get_or-set_other, set-get_or, length-set, length-replicate}
use Rattle.std.proofs.lemmas.List.Elements.{All-set, All-replicate, All-drop, All-head, All-tail, All-get_or}
use Rattle.ring_lemmas.specs.Lists.{add_lists, scale_list}
use Rattle.ff_fields.specs.Field.{CodeField}
use Rattle.ff_fields.specs.Code.{raw_ring}
use Rattle.ff_fields.specs.Over.{IsOver, get_or_below, IsOver_drop}
use Rattle.linear_theory.specs.Module.{combination}
use Rattle.ff_linalg.specs.Matrix.{MatrixValue, IsMatrixOver, HasShape, matrix_row, with_entry, zero_matrix}
use Rattle.ff_linalg.specs.MatrixOver.{zero_matrix_over}
use Rattle.ff_linalg.specs.Space.{row_ops, row_product}
use Rattle.ff_falg.specs.Algebras.{IsVector}
use Rattle.ff_falg.specs.Steps.{with_matrix_row, HasRowsBelow}
use Rattle.ff_falg.proofs.Lists.{lists_comm, lists_assoc, lists_zero}
use Rattle.ff_falg.proofs.Vectors.{zeros_in, sum_in, multiple_in}

set_set : {X : Type 0} (xs : List X) (i : ℕ) (y z : X) → set (set xs i y) i z ≡ set xs i z
set_set [] i y z = refl
set_set (x ∷ xs) zero y z = refl
set_set (x ∷ xs) (suc i) y z = ap (λ w. x ∷ w) (set_set xs i y z)

-- one more code is written over
overwritten_more : (new old : List ℕ) (j : ℕ) → length new ≡ length old → j < length new
    → set (take j new ++ drop j old) j (get_or new j 0) ≡ take (suc j) new ++ drop (suc j) old
overwritten_more [] old j same less = absurd (omega arith)
overwritten_more (x ∷ new) [] j same less = absurd (omega arith)
overwritten_more (x ∷ new) (o ∷ old) zero same less = refl
overwritten_more (x ∷ new) (o ∷ old) (suc j) same less = ap (λ w. x ∷ w)
    (overwritten_more new old j (omega arith) (omega arith))

-- a row of which the first codes are written over
abbrev pub overwritten : List ℕ → MatrixValue → ℕ → ℕ → MatrixValue
overwritten new m i j = with_matrix_row m i (take j new ++ drop j (matrix_row m i))

pub overwritten_start : (new : List ℕ) (m : MatrixValue) (i : ℕ) → m ≡ overwritten new m i 0
overwritten_start new m i = ap (λ rows. record { cols = m.cols; rows = rows }) (sym (set-get_or m.rows i []))

pub overwritten_step : (new : List ℕ) (m now : MatrixValue) (i j x : ℕ) → i < length m.rows → length new ≡ m.cols
    → HasShape m (length m.rows) m.cols
    → j < length new → x ≡ get_or new j 0 → now ≡ overwritten new m i j
    → with_entry now i j x ≡ overwritten new m i (j + 1)
overwritten_step new m now i j x within width shape less x_is now_is =
    rw (now_is, x_is, add-one)
    (ap (λ rows. record { cols = m.cols; rows = rows })
    (ap (λ row. set (set m.rows i (take j new ++ drop j (get_or m.rows i []))) i (set row j (get_or new j 0)))
    (get_or-set_same m.rows i (take j new ++ drop j (get_or m.rows i [])) [] within)
    ∙ set_set m.rows i _ _
    ∙ ap (set m.rows i)
    (overwritten_more new (get_or m.rows i []) j
    (let e : length (get_or m.rows i []) ≡ m.cols = shape.each i [] within in omega arith) less)))

pub overwritten_end : (new : List ℕ) (m now : MatrixValue) (i j : ℕ) → i < length m.rows → length new ≡ m.cols
    → HasShape m (length m.rows) m.cols
    → length new ≤ j → now ≡ overwritten new m i j → now ≡ with_matrix_row m i new
overwritten_end new m now i j within width shape le now_is =
    now_is
    ∙ ap (with_matrix_row m i)
    (ap₂ (λ x y. x ++ y) (take_all j new le)
    (drop_all j (get_or m.rows i []) (let e : length (get_or m.rows i [])
    ≡ m.cols = shape.each i [] within in omega arith))
    ∙ append-nil new)

-- what becomes of a matrix of which a row is written over
pub with_row_shape : (m : MatrixValue) (n cols i : ℕ) (row : List ℕ) → HasShape m n cols → length row ≡ cols
    → HasShape (with_matrix_row m i row) n cols
with_row_shape m n cols i row shape width = record {
  row_count = length-set m.rows i row ∙ shape.row_count;
  col_count = shape.col_count;
  each = All-set (λ r. length r ≡ cols) m.rows i row width shape.each;
}

pub with_row_other : (m : MatrixValue) (i l : ℕ) (row : List ℕ) → ¬ (l ≡ i)
    → matrix_row (with_matrix_row m i row) l ≡ matrix_row m l
with_row_other m i l row ne = get_or-set_other m.rows i l row [] ne

pub with_row_same : (m : MatrixValue) (i : ℕ) (row : List ℕ) → i < length m.rows
    → matrix_row (with_matrix_row m i row) i ≡ row
with_row_same m i row within = get_or-set_same m.rows i row [] within

module _ (k : CodeField) where
  pub with_row_over : (m : MatrixValue) (i : ℕ) (row : List ℕ) → IsMatrixOver k.ops m → IsOver k.ops row
      → IsMatrixOver k.ops (with_matrix_row m i row)
  with_row_over m i row over row_in = record { each = All-set (IsOver k.ops) m.rows i row row_in over.each }

  -- a row of a matrix is a vector
  pub row_in : (m : MatrixValue) (n cols i : ℕ) → HasShape m n cols → IsMatrixOver k.ops m → i < n
      → IsVector k.ops cols (matrix_row m i)
  row_in m n cols i shape over within =
      let l : i < length m.rows = let e = shape.row_count in omega arith in
      record { size = shape.each i [] l; over = over.each i [] l }

  pub rows_in : (m : MatrixValue) (n cols : ℕ) → HasShape m n cols → IsMatrixOver k.ops m
      → All (IsVector k.ops cols) m.rows
  rows_in m n cols shape over = λ i d l. record { size = shape.each i d l; over = over.each i d l }

  -- a combination of vectors is one
  pub combination_in : (n : ℕ) (cs : List ℕ) (rows : List (List ℕ)) → IsOver k.ops cs → All (IsVector k.ops n) rows
      → IsVector k.ops n (combination (row_ops k.ops n) cs rows)
  combination_in n [] rows cs_in all = zeros_in k n
  combination_in n (c ∷ cs) [] cs_in all = zeros_in k n
  combination_in n (c ∷ cs) (r ∷ rows) cs_in all =
      sum_in k n _ _ (multiple_in k n c r (cs_in.each 0 0 (omega arith)) (All-head (IsVector k.ops n) r rows all))
      (combination_in n cs rows (IsOver_drop 1 cs_in) (All-tail (IsVector k.ops n) r rows all))

  pub product_in : (m : MatrixValue) (v : List ℕ) → IsOver k.ops v → HasShape m (length m.rows) m.cols
      → IsMatrixOver k.ops m
      → IsVector k.ops m.cols (row_product k.ops v m)
  product_in m v v_in shape over = combination_in m.cols v m.rows v_in (rows_in m (length m.rows) m.cols shape over)

  -- a sum is made from the first row on: what is summed, and the combination of the rows that are left
  pub record IsSummed (m : MatrixValue) (v old : List ℕ) (i : ℕ) (sum : List ℕ) : Type 0 where
    pub vector : IsVector k.ops m.cols sum
    pub is : add_lists (raw_ring k.ops) sum (combination (row_ops k.ops m.cols) (drop i v) (drop i m.rows))
        ≡ add_lists (raw_ring k.ops) old (row_product k.ops v m)

  pub zero_first : (n : ℕ) (w : List ℕ) → IsVector k.ops n w → add_lists (raw_ring k.ops) (replicate n 0) w ≡ w
  zero_first n w w_in =
      lists_comm k (replicate n 0) w (zeros_in k n).over w_in.over
      ∙ ap (λ n. add_lists (raw_ring k.ops) w (replicate n 0)) (sym w_in.size) ∙ lists_zero k w w_in.over

  pub summed_step : (m : MatrixValue) (v old sum new row : List ℕ) (i c : ℕ) → IsOver k.ops v
      → All (IsVector k.ops m.cols) m.rows
      → i < length v → length v ≤ length m.rows → c ≡ get_or v i 0 → row ≡ matrix_row m i
      → new ≡ add_lists (raw_ring k.ops) sum (scale_list (raw_ring k.ops) c row) → IsSummed m v old i sum
      → IsSummed m v old (i + 1) new
  summed_step m v old sum new row i c v_in all less le c_is row_is new_is before =
      let l : i < length m.rows = omega arith in
      let r = All-get_or (IsVector k.ops m.cols) m.rows i [] l all in
      let part = multiple_in k m.cols (get_or v i 0) (matrix_row m i) (get_or_below k v i v_in) r in
      let new_value : new ≡ add_lists (raw_ring k.ops) sum (scale_list (raw_ring k.ops) (get_or v i 0) (matrix_row m i))
      = new_is ∙ ap₂ (λ x y. add_lists (raw_ring k.ops) sum (scale_list (raw_ring k.ops) x y)) c_is row_is in
      record {
        vector = subst (IsVector k.ops m.cols) (sym new_value) (sum_in k m.cols sum _ before.vector part);
        is =
            ap₂ (λ x j. add_lists (raw_ring k.ops) x (combination (row_ops k.ops m.cols) (drop j v) (drop j m.rows)))
            new_value (add-one i)
            ∙ lists_assoc k sum _ _ before.vector.over part.over
            (combination_in m.cols (drop (suc i) v) (drop (suc i) m.rows) (IsOver_drop (suc i) v_in)
            (All-drop (IsVector k.ops m.cols) (suc i) m.rows all)).over
            ∙ ap (add_lists (raw_ring k.ops) sum)
            (sym (ap₂ (combination (row_ops k.ops m.cols)) (drop-cons v i 0 less) (drop-cons m.rows i [] l)))
            ∙ before.is;
      }

  pub summed_end : (m : MatrixValue) (v old sum : List ℕ) (i : ℕ) → length v ≤ i → IsSummed m v old i sum
      → sum ≡ add_lists (raw_ring k.ops) old (row_product k.ops v m)
  summed_end m v old sum i le h =
      sym (ap (λ n. add_lists (raw_ring k.ops) sum (replicate n 0)) (sym h.vector.size)
      ∙ lists_zero k sum h.vector.over)
      ∙ ap (λ xs. add_lists (raw_ring k.ops) sum (combination (row_ops k.ops m.cols) xs (drop i m.rows)))
      (sym (drop_all i v le))
      ∙ h.is

  pub holds_step : (f : ℕ → List ℕ) (n cols i : ℕ) (m new : MatrixValue) (row : List ℕ) → i < n
      → IsVector k.ops cols (f i) → row ≡ f i
      → new ≡ with_matrix_row m i row → HasRowsBelow k.ops f n cols i m → HasRowsBelow k.ops f n cols (i + 1) new
  holds_step f n cols i m new row within value_in row_is new_is before =
      subst (HasRowsBelow k.ops f n cols (i + 1)) (sym (new_is ∙ ap (with_matrix_row m i) row_is)) (record {
        shape = with_row_shape m n cols i (f i) before.shape value_in.size;
        over = with_row_over m i (f i) before.over value_in.over;
        rows = λ l less. go l less (ℕ_discrete l i);
      })
    where
      go : (l : ℕ) → l < i + 1 → Dec (l ≡ i) → matrix_row (with_matrix_row m i (f i)) l ≡ f l
      go l less (yes e) =
          ap (matrix_row (with_matrix_row m i (f i))) e
          ∙ with_row_same m i (f i) (let s = before.shape.row_count in omega arith)
          ∙ sym (ap f e)
      go l less (no ne) = with_row_other m i l (f i) ne ∙ before.rows l (omega arith)

  pub zero_holds : (f : ℕ → List ℕ) (n cols : ℕ) → HasRowsBelow k.ops f n cols 0 (zero_matrix n cols)
  zero_holds f n cols = record {
    shape = record {
      row_count = length-replicate {A = List ℕ} n (replicate cols 0);
      col_count = refl;
      each = All-replicate (λ r. length r ≡ cols) n (replicate cols 0) (length-replicate {A = ℕ} cols 0);
    };
    over = zero_matrix_over k n cols;
    rows = λ l less. absurd (omega arith);
  }
