-- Rows that are written one after another, and the first rows of an echelon form.
use Rattle.std.proofs.Common.{◌≡◌, ℕ, zero, suc, ◌+◌, ◌-◌, ◌*◌, ◌<◌, ◌≤◌, List, [], ◌∷◌, ◌++◌, length, get_or, map, take, drop, replicate, set, refl, sym, ◌∙◌, ap, ap₂, subst, arith, ◌↔◌, All}
use Rattle.std.proofs.lemmas.List.{length-drop, length-take-le, length-map, length-set, length-replicate, take_all, take_more, nil_from_length}
use Rattle.std.proofs.lemmas.List.Elements.{All-nil, All-cons, All-head, All-tail, All-weaker, All-replicate, All-take, All-set, All-get_or}
use Rattle.std.proofs.lemmas.Grind.{take-set_at}
use Rattle.std.proofs.Math.Nat.{suc-mul}
use Rattle.ring_lemmas.specs.Lists.{coeff_of}
use Rattle.ring_lemmas.specs.Ring.{CommRing}
use Rattle.ring_lemmas.proofs.Ring.{mul_zero}
use Rattle.ff_fields.specs.Field.{CodeField}
use Rattle.ff_fields.specs.Code.{Code, code_ring, raw_ring}
use Rattle.ff_fields.specs.Numbers.{read}
use Rattle.ff_fields.specs.Over.{IsOver}
use Rattle.linear_theory.specs.Module.{combine, sequence_ops}
use Rattle.linear_theory.specs.Echelon.{row, IsReducedEchelon}
use Rattle.linear_theory.proofs.Echelon.{column_none}
use Rattle.ff_linalg.specs.Forms.{sequences_of, IsReducedBelow}
use Rattle.ff_linalg.specs.Matrix.{MatrixValue, IsMatrixOver, HasShape, first_rows_of, rows_in, zero_matrix}
use Rattle.ff_linalg.specs.Space.{IsInRowSpace, IsReducedForm}
use Rattle.ff_linalg.proofs.Bridge.{codes_of_form, form_of_codes, space_of_codes, codes_of_space, combination_over, length_combination}
use Rattle.function_field.specs.Values.{ElemValue, PresValue}
use Rattle.ff_written.specs.LowestTerms.{IsWritten}
use Rattle.ff_space.specs.Spaces.{AreRowFunctions, written}
use Rattle.ff_space.specs.Steps.{AreShort, IsEchelonBasisOf, IsLongest, with_row}
use Rattle.ff_space.specs.Vectors.{over_den, vector_of}
use Rattle.ff_space.proofs.Quotients.{All-last}
use Rattle.ff_space.proofs.VectorLists.{padded}

-- the codes at the start of a row are all of it
pub whole_row : (m : MatrixValue) (i : ℕ) (codes : List ℕ) → i < length m.rows → length codes ≡ m.cols
    → HasShape m (length m.rows) m.cols
    → record { cols = m.cols; rows = set m.rows i (codes ++ drop (length codes) (get_or m.rows i [])) }
    ≡ with_row m i codes
whole_row m i codes less long shape =
    ap (λ r. record { cols = m.cols; rows = set m.rows i r })
    (ap (λ xs. codes ++ xs)
    (nil_from_length (drop (length codes) (get_or m.rows i []))
    (length-drop (length codes) (get_or m.rows i [])
    ∙ (let w = All-get_or (λ r. length r ≡ m.cols) m.rows i [] less shape.each in omega (arith, w, long))))
    ∙ none codes)
  where
    none : {A : Type 0} (xs : List A) → xs ++ [] ≡ xs
    none [] = refl
    none (x ∷ xs) = ap (λ zs. x ∷ zs) (none xs)

pub own_shape : (m : MatrixValue) (rows cols : ℕ) → HasShape m rows cols → HasShape m (length m.rows) m.cols
own_shape m rows cols h = record {
  row_count = refl;
  col_count = refl;
  each = subst (λ n. All (λ r. length r ≡ n) m.rows) (sym h.col_count) h.each;
}

pub row_long : (m : MatrixValue) (i : ℕ) → i < length m.rows → HasShape m (length m.rows) m.cols
    → length (get_or m.rows i []) ≡ m.cols
row_long m i less h = All-get_or (λ r. length r ≡ m.cols) m.rows i [] less h.each

-- one row more is written
pub record RowsWritten (rows cols i : ℕ) (rest codes : List ℕ) (m : MatrixValue) : Type 0 where
  pub shape : HasShape m rows cols
  pub long : length rest ≡ (rows - i) * cols
  pub is : take i m.rows ++ rows_in cols (rows - i) rest ≡ rows_in cols rows codes

with_row_shape : (m : MatrixValue) (rows cols i : ℕ) (codes : List ℕ) → HasShape m rows cols → length codes ≡ cols
    → HasShape (with_row m i codes) rows cols
with_row_shape m rows cols i codes shape long = record {
  row_count = length-set m.rows i codes ∙ shape.row_count;
  col_count = shape.col_count;
  each = All-set (λ r. length r ≡ cols) m.rows i codes long shape.each;
}

zeros_shape : (rows cols : ℕ) → HasShape (zero_matrix rows cols) rows cols
zeros_shape rows cols = record {
  row_count = length-replicate rows (replicate cols 0);
  col_count = refl;
  each = All-replicate (λ r. length r ≡ cols) rows (replicate cols 0) (length-replicate cols 0);
}

pub rows_written_start : (rows cols : ℕ) (codes : List ℕ) (m : MatrixValue) → length codes ≡ rows * cols
    → m ≡ zero_matrix rows cols → RowsWritten rows cols 0 codes codes m
rows_written_start rows cols codes m long m_is =
    subst (RowsWritten rows cols 0 codes codes) (sym m_is)
    (record {
      shape = zeros_shape rows cols;
      long = long ∙ ap (λ n. n * cols) (sym (less_nothing rows));
      is = ap (λ n. rows_in cols n codes) (less_nothing rows);
    })
  where
    less_nothing : (n : ℕ) → n - 0 ≡ n
    less_nothing n = omega arith

pub long_rest : (rows cols i : ℕ) (rest codes : List ℕ) (m : MatrixValue) → i < rows
    → RowsWritten rows cols i rest codes m
    → cols ≤ length rest
long_rest rows cols i rest codes m less h =
    let e : rows - i ≡ suc (rows - (i + 1)) = omega arith in
    let l : length rest ≡ suc (rows - (i + 1)) * cols = h.long ∙ ap (λ n. n * cols) e in
    omega (arith, l, suc-mul (rows - (i + 1)) cols)

pub rows_written_more : (rows cols i : ℕ) (rest codes first others : List ℕ) (m new : MatrixValue) → i < rows
    → RowsWritten rows cols i rest codes m → first ≡ take cols rest → others ≡ drop cols rest
    → new ≡ with_row m i first → RowsWritten rows cols (i + 1) others codes new
rows_written_more rows cols i rest codes first others m new less so_far first_is others_is new_is =
    let count : rows - i ≡ suc (rows - (i + 1)) = omega arith in
    let s = suc-mul (rows - (i + 1)) cols in
    let long : length rest ≡ suc (rows - (i + 1)) * cols = so_far.long ∙ ap (λ n. n * cols) count in
    let first_long : length first ≡ cols
    = ap length first_is ∙ length-take-le cols rest (omega (arith, s, long)) in
    subst (RowsWritten rows cols (i + 1) others codes) (sym new_is) (record {
      shape = with_row_shape m rows cols i first so_far.shape first_long;
      long = ap length others_is ∙ length-drop cols rest ∙ (omega (arith, s, long));
      is =
          ap₂ (λ xs ys. xs ++ rows_in cols (rows - (i + 1)) ys)
          (take-set_at m.rows i (i + 1) first refl (subst (λ n. i < n) (sym so_far.shape.row_count) less)) others_is
          ∙ push (take i m.rows) first (rows_in cols (rows - (i + 1)) (drop cols rest))
          ∙ ap (λ x. take i m.rows ++ x ∷ rows_in cols (rows - (i + 1)) (drop cols rest)) first_is
          ∙ sym (ap (λ n. take i m.rows ++ rows_in cols n rest) count)
          ∙ so_far.is;
    })
  where
    push : {A : Type 0} (xs : List A) (x : A) (ys : List A) → (xs ++ x ∷ []) ++ ys ≡ xs ++ x ∷ ys
    push [] x ys = refl
    push (z ∷ xs) x ys = ap (λ zs. z ∷ zs) (push xs x ys)

pub rows_written_end : (rows cols i : ℕ) (rest codes : List ℕ) (m : MatrixValue) → rows ≤ i
    → RowsWritten rows cols i rest codes m → m ≡ record { cols = cols; rows = rows_in cols rows codes }
rows_written_end rows cols i rest codes m done h =
    ap₂ (λ c (rs : List (List ℕ)). record { cols = c; rows = rs }) h.shape.col_count
    (sym (take_all i m.rows (omega (arith, h.shape.row_count)))
    ∙ sym (none (take i m.rows))
    ∙ sym (ap (λ n. take i m.rows ++ rows_in cols n rest) (let e : rows - i ≡ 0 = omega arith in e)) ∙ h.is)
  where
    none : {A : Type 0} (xs : List A) → xs ++ [] ≡ xs
    none [] = refl
    none (x ∷ xs) = ap (λ zs. x ∷ zs) (none xs)

-- one of the first rows more
pub record FirstRowsWritten (rows i : ℕ) (m first : MatrixValue) : Type 0 where
  pub shape : HasShape first rows m.cols
  pub is : take i first.rows ≡ take i m.rows

pub first_rows_start : (rows : ℕ) (m first : MatrixValue) → first ≡ zero_matrix rows m.cols
    → FirstRowsWritten rows 0 m first
first_rows_start rows m first first_is =
    subst (FirstRowsWritten rows 0 m) (sym first_is) (record { shape = zeros_shape rows m.cols; is = refl })

pub first_rows_more : (rows i : ℕ) (m first new : MatrixValue) (r : List ℕ) → i < rows → rows ≤ length m.rows
    → HasShape m (length m.rows) m.cols → r ≡ get_or m.rows i [] → FirstRowsWritten rows i m first
    → new ≡ with_row first i r → FirstRowsWritten rows (i + 1) m new
first_rows_more rows i m first new r less within shape r_is h new_is =
    subst (FirstRowsWritten rows (i + 1) m) (sym new_is) (record {
      shape = with_row_shape first rows m.cols i r h.shape
          (ap length r_is ∙ All-get_or (λ r. length r ≡ m.cols) m.rows i [] (omega arith) shape.each);
      is =
          take-set_at first.rows i (i + 1) r refl (subst (λ n. i < n) (sym h.shape.row_count) less)
          ∙ ap₂ (λ xs x. xs ++ x ∷ []) h.is r_is ∙ sym (take_more m.rows i [] (omega arith));
    })

pub first_rows_end : (rows i : ℕ) (m first : MatrixValue) → i ≡ rows → FirstRowsWritten rows i m first
    → first ≡ first_rows_of m rows
first_rows_end rows i m first done h =
    ap₂ (λ c (rs : List (List ℕ)). record { cols = c; rows = rs }) h.shape.col_count
    (sym (take_all i first.rows (omega (arith, h.shape.row_count))) ∙ h.is ∙ ap (λ n. take n m.rows) done)

-- the first rows of a form whose other rows are 0
module _ {A : Type 0} (R : CommRing A) where
  row_first : (rs : List (ℕ → A)) (r i j : ℕ) → i < r → row R.ops (take r rs) i j ≡ row R.ops rs i j
  row_first [] zero i j l = refl
  row_first [] (suc r) i j l = refl
  row_first (x ∷ rs) zero i j l = absurd (omega arith)
  row_first (x ∷ rs) (suc r) zero j l = refl
  row_first (x ∷ rs) (suc r) (suc i) j l = row_first rs r i j (omega arith)

  combine_first : (c : ℕ → A) (rs : List (ℕ → A)) (r j : ℕ)
      → ((i : ℕ) → r ≤ i → i < length rs → row R.ops rs i j ≡ R.𝟘)
      → combine (sequence_ops R.ops) c (take r rs) j ≡ combine (sequence_ops R.ops) c rs j
  combine_first c [] zero j h = refl
  combine_first c [] (suc r) j h = refl
  combine_first c (x ∷ rs) zero j h =
      sym (column_none R c (x ∷ rs) j (λ l k. ap (R.◌⊗◌ (c l)) (h l (omega arith) k) ∙ mul_zero R (c l)))
  combine_first c (x ∷ rs) (suc r) j h =
      ap (R.◌⊕◌ (R.◌⊗◌ (c 0) (x j)))
      (combine_first (λ i. c (suc i)) rs r j (λ i l k. h (suc i) (omega arith) (omega arith)))

  reduced_first : (width : ℕ) (rs : List (ℕ → A)) (f : IsReducedEchelon R.ops width rs)
      → length (take f.rank rs) ≡ f.rank → (g : IsReducedEchelon R.ops width (take f.rank rs)) × (g.rank ≡ f.rank)
  reduced_first width rs f long = (
    record {
      rank = f.rank;
      rank_within = omega (arith, long);
      zero_rows = λ i j l k b. absurd (omega (arith, long));
      pivot = f.pivot;
      pivot_below = f.pivot_below;
      increasing = f.increasing;
      left_zero = λ i j l b. row_first rs f.rank i j l ∙ f.left_zero i j l b;
      pivot_one = λ i l. row_first rs f.rank i (f.pivot i) l ∙ f.pivot_one i l;
      column_zero = λ i l a b ne.
          row_first rs f.rank l (f.pivot i) (omega (arith, long))
          ∙ f.column_zero i l a (let w = f.rank_within in omega (arith, long)) ne;
    },
    refl,
  )

map_take : {A B : Type 0} (f : A → B) (r : ℕ) (xs : List A) → map f (take r xs) ≡ take r (map f xs)
map_take f zero xs = refl
map_take f (suc r) [] = refl
map_take f (suc r) (x ∷ xs) = ap (λ ys. f x ∷ ys) (map_take f r xs)

pub rank_within : (k : CodeField) (m : MatrixValue) (rank : ℕ) → IsReducedForm k.ops m rank → rank ≤ length m.rows
rank_within k m rank h =
    let w = h.form.rank_within in
    let e = h.rank_is in
    let l = length-map m.rows (coeff_of (raw_ring k.ops)) in
    omega (arith, w, e, l)

module _ (k : CodeField) (m : MatrixValue) (rank : ℕ) (shape : HasShape m (length m.rows) m.cols)
    (m_in : IsMatrixOver k.ops m) (reduced : IsReducedForm k.ops m rank) where
  abbrev R : CommRing (Code k)
  R = (code_ring k).ring

  abbrev first : MatrixValue
  first = first_rows_of m rank

  form : IsReducedBelow k m.cols m.rows rank
  form = codes_of_form k m rank reduced

  sequences_first : sequences_of k first.rows ≡ take rank (sequences_of k m.rows)
  sequences_first =
      ap (map (coeff_of R.ops)) (map_take (read k) rank m.rows)
      ∙ map_take (coeff_of R.ops) rank (map (read k) m.rows)

  count_all : length (sequences_of k m.rows) ≡ length m.rows
  count_all = length-map (map (read k) m.rows) (coeff_of R.ops) ∙ length-map m.rows (read k)

  within : rank ≤ length m.rows
  within = let w = form.form.rank_within in let e = form.rank_is in omega (arith, count_all)

  first_count : length first.rows ≡ rank
  first_count = length-take-le rank m.rows within

  first_wide : All (λ r. length r ≡ m.cols) first.rows
  first_wide = All-take (λ r. length r ≡ m.cols) rank m.rows shape.each

  first_over : All (IsOver k.ops) first.rows
  first_over = All-take (IsOver k.ops) rank m.rows m_in.each

  zero_after : (i j : ℕ) → rank ≤ i → i < length (sequences_of k m.rows) → j < m.cols
      → row R.ops (sequences_of k m.rows) i j ≡ R.𝟘
  zero_after i j l b d = form.form.zero_rows i j (let e = form.rank_is in omega arith) b d

  first_reduced : IsReducedForm k.ops first (length first.rows)
  first_reduced =
      let e = form.rank_is in
      let long : length (take form.form.rank (sequences_of k m.rows)) ≡ form.form.rank
      = length-take-le form.form.rank (sequences_of k m.rows) (let w = form.form.rank_within in w) in
      let g = reduced_first R m.cols (sequences_of k m.rows) form.form long in
      let below : IsReducedBelow k m.cols first.rows rank
      = to_below (subst (λ (rs : List (ℕ → Code k)). (h : IsReducedEchelon R.ops m.cols rs) × (h.rank ≡ rank))
      (ap (λ n. take n (sequences_of k m.rows)) e ∙ sym sequences_first) (g.0, g.1 ∙ e)) in
      form_of_codes k first (length first.rows) first_over
      (subst (IsReducedBelow k m.cols first.rows) (sym first_count) below)
    where
      to_below : (h : IsReducedEchelon R.ops m.cols (sequences_of k first.rows)) × (h.rank ≡ rank)
          → IsReducedBelow k m.cols first.rows rank
      to_below t = record { form = t.0; rank_is = t.1 }

  same_entries : (c : ℕ → Code k) (j : ℕ) → j < m.cols
      → combine (sequence_ops R.ops) c (sequences_of k first.rows) j
      ≡ combine (sequence_ops R.ops) c (sequences_of k m.rows) j
  same_entries c j l =
      ap (λ rs. combine (sequence_ops R.ops) c rs j) sequences_first
      ∙ combine_first R c (sequences_of k m.rows) rank j (λ i a b. zero_after i j a b l)

  first_space : (v : List ℕ) → IsInRowSpace k.ops first v ↔ IsInRowSpace k.ops m v
  first_space v = (to, from)
    where
      to : IsInRowSpace k.ops first v → IsInRowSpace k.ops m v
      to h =
          let s = space_of_codes k first v first_over h in
          codes_of_space k m v m_in.each shape.each
          (subst (IsOver k.ops) (sym h.is) (combination_over k m.cols h.coefficients first.rows h.over first_over))
          (ap length h.is ∙ length_combination k m.cols h.coefficients first.rows first_wide)
          (record { coefficient = s.coefficient; is = λ j l. s.is j l ∙ same_entries s.coefficient j l })

      from : IsInRowSpace k.ops m v → IsInRowSpace k.ops first v
      from h =
          let s = space_of_codes k m v m_in.each h in
          codes_of_space k first v first_over first_wide
          (subst (IsOver k.ops) (sym h.is) (combination_over k m.cols h.coefficients m.rows h.over m_in.each))
          (ap length h.is ∙ length_combination k m.cols h.coefficients m.rows shape.each)
          (record { coefficient = s.coefficient; is = λ j l. s.is j l ∙ sym (same_entries s.coefficient j l) })

  pub first_is_basis : (old : MatrixValue) → m.cols ≡ old.cols
      → ((v : List ℕ) → IsInRowSpace k.ops m v ↔ IsInRowSpace k.ops old v)
      → IsEchelonBasisOf k old (first_rows_of m rank)
  first_is_basis old cols same = record {
    shape = record {
      row_count = refl;
      col_count = cols;
      each = subst (λ n. All (λ r. length r ≡ n) first.rows) cols first_wide;
    };
    over = record { each = first_over };
    reduced = first_reduced;
    row_space = λ v. (λ h. (same v).0 ((first_space v).0 h), λ h. (first_space v).1 ((same v).1 h));
  }

-- one function more
pub row_functions_more : (k : CodeField) (p : PresValue) (den : List ℕ) (width : ℕ) (rows : List (List ℕ))
    (zs new : List ElemValue) (i : ℕ) (z : ElemValue) (r : List ℕ) → i < length rows → r ≡ get_or rows i []
    → AreRowFunctions k p den width (take i rows) zs → IsWritten k p (over_den k p den width r) (written z)
    → new ≡ zs ++ z ∷ [] → AreRowFunctions k p den width (take (i + 1) rows) new
row_functions_more k p den width rows zs new i z r less r_is so_far h new_is =
    subst (AreRowFunctions k p den width (take (i + 1) rows)) (sym new_is)
    (subst (λ rs. AreRowFunctions k p den width rs (zs ++ z ∷ []))
    (ap (λ x. take i rows ++ x ∷ []) r_is ∙ sym (take_more rows i [] less))
    (push (take i rows) zs so_far))
  where
    push : (rs : List (List ℕ)) (zs : List ElemValue) → AreRowFunctions k p den width rs zs
        → AreRowFunctions k p den width (rs ++ r ∷ []) (zs ++ z ∷ [])
    push [] zs f = subst (λ xs. AreRowFunctions k p den width (r ∷ []) (xs ++ z ∷ [])) (sym f) (h, refl)
    push (x ∷ rs) [] f = absurd f
    push (x ∷ rs) (y ∷ zs) f = (f.0, push rs zs f.1)

-- the codes of one polynomial more, and the greatest length
pub vector_more : (width : ℕ) (ws : List (List ℕ)) (old new : List ℕ) (i : ℕ) (w : List ℕ) → i < length ws
    → w ≡ get_or ws i w → old ≡ vector_of width (take i ws) → new ≡ old ++ padded width w
    → new ≡ vector_of width (take (i + 1) ws)
vector_more width ws old new i w less w_is old_is new_is =
    new_is ∙ ap (λ v. v ++ padded width w) old_is ∙ sym (push (take i ws))
    ∙ ap (vector_of width) (ap (λ x. take i ws ++ x ∷ []) w_is ∙ sym (take_more ws i w less))
  where
    assoc : {A : Type 0} (xs ys zs : List A) → xs ++ (ys ++ zs) ≡ (xs ++ ys) ++ zs
    assoc [] ys zs = refl
    assoc (x ∷ xs) ys zs = ap (λ vs. x ∷ vs) (assoc xs ys zs)

    none : {A : Type 0} (xs : List A) → xs ++ [] ≡ xs
    none [] = refl
    none (x ∷ xs) = ap (λ zs. x ∷ zs) (none xs)

    push : (us : List (List ℕ)) → vector_of width (us ++ w ∷ []) ≡ vector_of width us ++ padded width w
    push [] = none (padded width w)
    push (u ∷ us) = ap (λ v. padded width u ++ v) (push us) ∙ assoc (padded width u) (vector_of width us)
        (padded width w)

pub longest_more : (ws : List (List ℕ)) (i most new : ℕ) (w : List ℕ) → i < length ws → w ≡ get_or ws i w
    → IsLongest (take i ws) most → most ≤ new → length w ≤ new → ((bound : ℕ) → most ≤ bound → length w ≤ bound
    → new ≤ bound)
    → IsLongest (take (i + 1) ws) new
longest_more ws i most new w less w_is h more longer least =
    subst (λ xs. IsLongest xs new) (ap (λ x. take i ws ++ x ∷ []) w_is ∙ sym (take_more ws i w less)) (record {
      short = All-last (λ x. length x ≤ new) (take i ws) w
          (All-weaker (λ x. length x ≤ most) (λ x. length x ≤ new) (λ x l. omega (arith, l, more)) (take i ws) h.short)
          longer;
      least = λ bound short.
          least bound (h.least bound (front (take i ws) short)) (last (take i ws) short);
    })
  where
    front : {bound : ℕ} (xs : List (List ℕ)) → AreShort bound (xs ++ w ∷ []) → AreShort bound xs
    front {bound} [] f = All-nil (λ x. length x ≤ bound)
    front {bound} (x ∷ xs) f =
        All-cons (λ x. length x ≤ bound) x xs (All-head (λ x. length x ≤ bound) x (xs ++ w ∷ []) f)
        (front xs (All-tail (λ x. length x ≤ bound) x (xs ++ w ∷ []) f))

    last : {bound : ℕ} (xs : List (List ℕ)) → AreShort bound (xs ++ w ∷ []) → length w ≤ bound
    last {bound} [] f = All-head (λ x. length x ≤ bound) w [] f
    last {bound} (x ∷ xs) f = last xs (All-tail (λ x. length x ≤ bound) x (xs ++ w ∷ []) f)
