-- Reduced echelon bases of spaces of vectors: their rows are independent, and span the space.
use Rattle.std.proofs.Common.{◌≡◌, ℕ, zero, suc, ◌<◌, inl, inr, List, [], ◌∷◌, length, get_or, replicate, All, refl, sym, ap, ap₂, ◌∙◌, subst, arith}
use Rattle.std.proofs.lemmas.List.{length-map}
use Rattle.std.proofs.lemmas.List.Elements.{All-nil, All-cons, All-head, All-tail}
use Rattle.ring_lemmas.specs.Ring.{CommRing}
use Rattle.ring_theory.specs.Subsets.{Span}
use Rattle.ring_lemmas.specs.Lists.{coeff_of, add_lists, scale_list}
use Rattle.ring_theory.specs.Members.{In}
use Rattle.ring_theory.proofs.Subsets.{span_head, span_tail, span_zero}
use Rattle.ff_fields.specs.Field.{CodeField}
use Rattle.ff_fields.specs.Code.{code_ring, raw_ring, zero_in}
use Rattle.ff_fields.specs.Numbers.{numbers, IsOver_numbers}
use Rattle.ff_fields.specs.Over.{IsOver, IsOver_tail, get_or_below}
use Rattle.linear_theory.specs.Echelon.{row, rows_as_sequences}
use Rattle.linear_theory.specs.Module.{combination as row_combination}
use Rattle.ff_linalg.specs.Matrix.{MatrixValue}
use Rattle.ff_linalg.specs.Space.{row_ops}
use Rattle.finite_algebra_theory.specs.Algebra.{Dependent}
use Rattle.finite_algebra_theory.specs.ByMap.{Image}
use Rattle.finite_algebra_theory.proofs.ByMap.{image_subring}
use Rattle.ff_falg.specs.Algebras.{AlgebraOps, IsAlgebra, IsVector}
use Rattle.ff_falg.specs.Spaces.{IsEchelonBasisMatrix}
use Rattle.ff_falg.proofs.Lists.{code_add_zero, code_mul_zero}
use Rattle.ff_falg.proofs.RowSteps.{rows_in}
use Rattle.ff_falg.proofs.Vectors.{Vector, vector_ring, multiple_in}
use Rattle.ff_falg.proofs.VectorAlgebra.{vectors, rows_of_vectors, length_vectors, scalar, scalar_map, scalar_times, span_combination, combination_span, combination_value}

module _ (k : CodeField) where
  -- the entries of sums and multiples
  get_add : (xs ys : List ℕ) (j : ℕ) → IsOver k.ops xs → IsOver k.ops ys
      → get_or (add_lists (raw_ring k.ops) xs ys) j 0 ≡ k.add (get_or xs j 0) (get_or ys j 0)
  get_add [] ys j xs_in ys_in = sym (k.laws.zero_add _ (get_or_below k ys j ys_in))
  get_add (x ∷ xs) [] j xs_in ys_in = sym (code_add_zero k _ (get_or_below k (x ∷ xs) j xs_in))
  get_add (x ∷ xs) (y ∷ ys) zero xs_in ys_in = refl
  get_add (x ∷ xs) (y ∷ ys) (suc j) xs_in ys_in = get_add xs ys j (IsOver_tail xs_in) (IsOver_tail ys_in)

  get_scale : (c : ℕ) (xs : List ℕ) (j : ℕ) → c < k.size
      → get_or (scale_list (raw_ring k.ops) c xs) j 0 ≡ k.mul c (get_or xs j 0)
  get_scale c [] j c_in = sym (code_mul_zero k c c_in)
  get_scale c (x ∷ xs) zero c_in = refl
  get_scale c (x ∷ xs) (suc j) c_in = get_scale c xs j c_in

  coeff_raw : (xs : List ℕ) (j : ℕ) → coeff_of (raw_ring k.ops) xs j ≡ get_or xs j 0
  coeff_raw [] j = refl
  coeff_raw (x ∷ xs) zero = refl
  coeff_raw (x ∷ xs) (suc j) = coeff_raw xs j

  row_raw : (rows : List (List ℕ)) (i j : ℕ)
      → row (raw_ring k.ops) (rows_as_sequences (raw_ring k.ops) rows) i j ≡ get_or (get_or rows i []) j 0
  row_raw [] i j = refl
  row_raw (r ∷ rows) zero j = coeff_raw r j
  row_raw (r ∷ rows) (suc i) j = row_raw rows i j

module _ (k : CodeField) (A : AlgebraOps) (law : IsAlgebra k A) where
  abbrev R : CommRing (Vector k A.size)
  R = vector_ring k A law

  abbrev S : Vector k A.size → Type 0
  S = Image (scalar k A law)

  -- a column that is 0 in the generators is 0 in the span
  span_column : (bs : List (Vector k A.size)) (j : ℕ) → All (λ b. get_or b.0 j 0 ≡ 0) bs → (x : Vector k A.size)
      → Span R.ops S bs x
      → get_or x.0 j 0 ≡ 0
  span_column [] j all x h = ap (λ y. get_or y.0 j 0) h ∙ zeros A.size j
    where
      zeros : (n j : ℕ) → ◌≡◌ {A = ℕ} (get_or (replicate n 0) j 0) 0
      zeros zero j = refl
      zeros (suc n) zero = refl
      zeros (suc n) (suc j) = zeros n j
  span_column (b ∷ bs) j all x h =
      let c = h.scalar_in.0 in
      ap (λ y. get_or y.0 j 0) (h.is ∙ ap (λ s. R.◌⊕◌ (R.◌⊗◌ s b) h.rest) h.scalar_in.1)
      ∙ ap (λ y. get_or (add_lists (raw_ring k.ops) y h.rest.0) j 0) (scalar_times k A law c b)
      ∙ get_add k _ h.rest.0 j (multiple_in k A.size c.0 b.0 c.1 b.1).over h.rest.1.over
      ∙ ap₂ k.add
      (get_scale k c.0 b.0 j c.1 ∙ ap (k.mul c.0) (All-head (λ b. get_or b.0 j 0 ≡ 0) b bs all)
      ∙ code_mul_zero k c.0 c.1)
      (span_column bs j (All-tail (λ b. get_or b.0 j 0 ≡ 0) b bs all) h.rest h.rest_in)
      ∙ code_add_zero k 0 (zero_in k)

  independent : (rows : List (List ℕ)) (all : All (IsVector k.ops A.size) rows) (pivot : ℕ → ℕ)
      → ((i : ℕ) → i < length rows → get_or (get_or rows i []) (pivot i) 0 ≡ 1)
      → ((i l : ℕ) → i < l → l < length rows → get_or (get_or rows l []) (pivot i) 0 ≡ 0)
      → Dependent R.ops S (vectors k A.size rows all) → ⊥
  independent [] all pivot one others d = d
  independent (r ∷ rows) all pivot one others (inl s) =
      one_zero _ (one 0 (omega arith))
      (span_column (vectors k A.size rows (All-tail (IsVector k.ops A.size) r rows all)) (pivot 0)
      (column rows (All-tail (IsVector k.ops A.size) r rows all)
      (λ l less. others 0 (suc l) (omega arith) (omega arith))) _ s)
    where
      one_zero : (x : ℕ) → x ≡ 1 → x ≡ 0 → ⊥
      one_zero x e f = omega arith

      column : (rows : List (List ℕ)) (all : All (IsVector k.ops A.size) rows)
          → ((l : ℕ) → l < length rows → get_or (get_or rows l []) (pivot 0) 0 ≡ 0)
          → All (λ b. get_or b.0 (pivot 0) 0 ≡ 0) (vectors k A.size rows all)
      column [] all h = All-nil (λ b. get_or b.0 (pivot 0) 0 ≡ 0)
      column (r ∷ rows) all h =
          All-cons (λ b. get_or b.0 (pivot 0) 0 ≡ 0) _ _ (h 0 (omega arith))
          (column rows (All-tail (IsVector k.ops A.size) r rows all) (λ l less. h (suc l) (omega arith)))
  independent (r ∷ rows) all pivot one others (inr d) =
      independent rows (All-tail (IsVector k.ops A.size) r rows all) (λ i. pivot (suc i))
      (λ i less. one (suc i) (omega arith))
      (λ i l less less'. others (suc i) (suc l) (omega arith) (omega arith)) d

  in_span : (bs : List (Vector k A.size)) (b : Vector k A.size) → In b bs → Span R.ops S bs b
  in_span [] b i = absurd i
  in_span (c ∷ bs) b (inl e) =
      subst (Span R.ops S (c ∷ bs)) (sym e)
      (span_head R S (image_subring (code_ring k).ring R (scalar k A law) (scalar_map k A law)) c bs)
  in_span (c ∷ bs) b (inr i) =
      span_tail R S (image_subring (code_ring k).ring R (scalar k A law) (scalar_map k A law)) c bs b (in_span bs b i)

  module _ (space : List ℕ → Type 0) (m : MatrixValue) (h : IsEchelonBasisMatrix k.ops A.size space m) where
    -- the rows as vectors
    abbrev pub basis_vectors : List (Vector k A.size)
    basis_vectors = vectors k A.size m.rows (rows_in k m (length m.rows) A.size h.shape h.over)

    pub length_basis_vectors : length basis_vectors ≡ length m.rows
    length_basis_vectors = length_vectors k A.size m.rows (rows_in k m (length m.rows) A.size h.shape h.over)

    pub basis_independent : Dependent R.ops S basis_vectors → ⊥
    basis_independent =
        let form = h.reduced.form in
        let rank = h.reduced.rank_is in
        independent m.rows (rows_in k m (length m.rows) A.size h.shape h.over) form.pivot
        (λ i less. sym (row_raw k m.rows i (form.pivot i)) ∙ form.pivot_one i (omega arith))
        (λ i l less less'.
        sym (row_raw k m.rows l (form.pivot i))
        ∙ form.column_zero i l (omega arith) (let e = length-map m.rows (coeff_of (raw_ring k.ops)) in omega arith)
        (λ e. omega arith))

    pub span_space : (x : Vector k A.size) → Span R.ops S basis_vectors x → space x.0
    span_space x s =
        let r = span_combination k A law basis_vectors x s in
        ((h.row_space x.0).0 (record {
          coefficients = numbers k r.0;
          one_each = length-map r.0 (λ c. c.0) ∙ r.1 ∙ length_basis_vectors;
          over = IsOver_numbers k r.0;
          is =
              ap (λ y. y.0) r.2 ∙ combination_value k A law r.0 basis_vectors
              ∙ ap₂ (λ n rows. row_combination (row_ops k.ops n) (numbers k r.0) rows) (sym h.shape.col_count)
              (rows_of_vectors k A.size m.rows (rows_in k m (length m.rows) A.size h.shape h.over));
        })).1

    pub space_span : (x : Vector k A.size) → space x.0 → Span R.ops S basis_vectors x
    space_span x s =
        let r = (h.row_space x.0).1 (x.1, s) in
        combination_span k A law r.coefficients basis_vectors x r.over
        (r.is ∙ ap₂ (λ n rows. row_combination (row_ops k.ops n) r.coefficients rows) h.shape.col_count
        (sym (rows_of_vectors k A.size m.rows (rows_in k m (length m.rows) A.size h.shape h.over))))

    pub member_space : (x : Vector k A.size) → In x basis_vectors → space x.0
    member_space x i = span_space x (in_span basis_vectors x i)

    -- the basis is empty exactly where the space is 0
    pub no_rows : length m.rows ≡ 0 → (x : Vector k A.size) → space x.0 → x ≡ R.𝟘
    no_rows e x s = go basis_vectors (length_basis_vectors ∙ e) (space_span x s)
      where
        go : (bs : List (Vector k A.size)) → length bs ≡ 0 → Span R.ops S bs x → x ≡ R.𝟘
        go [] e s = s
        go (b ∷ bs) e s = absurd (omega arith)

    pub rows_none : ((x : Vector k A.size) → space x.0 → x ≡ R.𝟘) → length m.rows ≡ 0
    rows_none z = sym length_basis_vectors ∙ go basis_vectors basis_independent (λ x i. z x (member_space x i))
      where
        go : (bs : List (Vector k A.size)) → (Dependent R.ops S bs → ⊥) → ((x : Vector k A.size) → In x bs → x ≡ R.𝟘)
            → length bs ≡ 0
        go [] n z = refl
        go (b ∷ bs) n z =
            absurd (n (inl (subst (Span R.ops S bs) (sym (z b (inl refl)))
            (span_zero R S (image_subring (code_ring k).ring R (scalar k A law) (scalar_map k A law)) bs))))
