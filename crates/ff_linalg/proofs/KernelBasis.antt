-- The lower right part of the eliminated matrix is the reduced echelon basis of the kernel.
use Rattle.std.proofs.Common.{◌≡◌, ℕ, ◌+◌, ◌-◌, ◌*◌, ◌<◌, List, [], ◌∷◌, length, get_or, drop, map, replicate, refl, sym, ◌∙◌, ap, ap₂, subst, arith}
use Rattle.std.proofs.lemmas.List.{length-map, length-drop, length-replicate, get_or-map, get_or-drop}
use Rattle.std.proofs.lemmas.List.Elements.{All-nil, All-cons, All-head, All-tail, All-drop}
use Rattle.std.specs.Prelude.{All}
use Rattle.ff_fields.specs.Field.{CodeField}
use Rattle.ff_fields.specs.Code.{Code, code_ring, read_code}
use Rattle.ff_fields.specs.Numbers.{read}
use Rattle.ff_fields.specs.Over.{IsOver, IsOver_drop, IsOver_zeros}
use Rattle.ring_lemmas.specs.Lists.{coeff_of}
use Rattle.ring_lemmas.specs.Ring.{CommRing}
use Rattle.linear_theory.specs.Echelon.{row, InRowSpace}
use Rattle.linear_theory.specs.Kernel.{Eliminated}
use Rattle.linear_theory.proofs.Kernel.{kernel_rows, kernel_entry, length_kernel_rows, kernel_reduced, kernel_rank, kernel_spanned, kernel_members, full_rank}
use Rattle.linear_theory.proofs.SameRows.{HasEntries, entries_back, reduced_of_entries, space_of_entries}
use Rattle.ff_linalg.specs.Matrix.{MatrixValue, rows_in, IsMatrixOver}
use Rattle.ff_linalg.specs.Forms.{sequences_of, IsReducedBelow, IsEliminated}
use Rattle.ff_linalg.specs.Space.{row_product, IsInRowSpace}
use Rattle.ff_linalg.specs.Kernel.{IsInKernel, IsKernelBasis}
use Rattle.ff_linalg.proofs.Flat.{length_rows_in, rows_in_wide, rows_in_over}
use Rattle.ff_linalg.proofs.Views.{view_of}
use Rattle.ff_linalg.proofs.Reduced.{view_over}
use Rattle.ff_linalg.proofs.Reading.{row_entry, length_sequences}
use Rattle.ff_linalg.proofs.Bridge.{coeff_zeros, combination_over, length_combination, combination_is, codes_ext, space_of_codes, codes_of_space, form_of_codes}
use Rattle.ff_linalg.proofs.Beside.{domain_of_codes}

all_map : {X Y : Type 0} (P : X → Type 0) (Q : Y → Type 0) (f : X → Y) → ((x : X) → P x → Q (f x)) → (xs : List X)
    → All P xs → All Q (map f xs)
all_map P Q f h [] a = All-nil Q
all_map P Q f h (x ∷ xs) a = All-cons Q (f x) (map f xs) (h x (All-head P x xs a))
    (all_map P Q f h xs (All-tail P x xs a))

module _ (k : CodeField) (a : MatrixValue) (over : All (IsOver k.ops) a.rows)
    (wide : All (λ r. length r ≡ a.cols) a.rows)
    (whole : List (List ℕ)) (rank : ℕ) (whole_over : All (IsOver k.ops) whole)
    (whole_wide : All (λ r. length r ≡ a.cols + length a.rows) whole)
    (whole_count : length whole ≡ length a.rows) (done : IsEliminated k a.cols a.rows whole rank) where
  abbrev R : CommRing (Code k)
  R = (code_ring k).ring

  abbrev F : List (ℕ → Code k)
  F = sequences_of k a.rows

  abbrev E : Eliminated R a.cols F
  E = done.elimination

  abbrev pub basis : MatrixValue
  basis = record { cols = length a.rows; rows = map (drop a.cols) (drop rank whole) }

  basis_count : length basis.rows ≡ length a.rows - rank
  basis_count = length-map (drop rank whole) (drop a.cols) ∙ length-drop rank whole ∙ ap (λ n. n - rank) whole_count

  form_count : length E.form ≡ length a.rows
  form_count = ap length done.form_is ∙ length_sequences k whole ∙ whole_count

  basis_over : All (IsOver k.ops) basis.rows
  basis_over = all_map (IsOver k.ops) (IsOver k.ops) (drop a.cols) (λ r h. IsOver_drop a.cols h) (drop rank whole)
      (All-drop (IsOver k.ops) rank whole whole_over)

  basis_wide : All (λ r. length r ≡ length a.rows) basis.rows
  basis_wide =
      all_map (λ r. length r ≡ a.cols + length a.rows) (λ r. length r ≡ length a.rows) (drop a.cols)
      (λ r h. omega (arith, h, length-drop a.cols r)) (drop rank whole)
      (All-drop (λ r. length r ≡ a.cols + length a.rows) rank whole whole_wide)

  entries : (i j : ℕ) → i < length (kernel_rows R a.cols F E)
      → row R.ops (sequences_of k basis.rows) i j ≡ row R.ops (kernel_rows R a.cols F E) i j
  entries i j l =
      let within : i < length (drop rank whole) = omega
      (arith, l, length_kernel_rows R a.cols F E, form_count, done.split_is, length-drop rank whole, whole_count)
      in
      row_entry k basis.rows i j
      ∙ ap (read_code k)
      (ap (λ r. get_or r j 0) (get_or-map (drop a.cols) (drop rank whole) i [] [] within
      ∙ ap (drop a.cols) (get_or-drop rank whole i []))
      ∙ get_or-drop a.cols (get_or whole (rank + i) []) j 0)
      ∙ sym (kernel_entry R a.cols F E i j
      ∙ ap₂ (λ f s. row R.ops f (s + i) (a.cols + j)) done.form_is done.split_is
      ∙ row_entry k whole (rank + i) (a.cols + j))

  has_entries : HasEntries R (length F) (kernel_rows R a.cols F E) (sequences_of k basis.rows)
  has_entries = record {
    count = length_sequences k basis.rows ∙ basis_count
        ∙ sym (length_kernel_rows R a.cols F E ∙ ap₂ (λ m n. m - n) form_count done.split_is);
    entry = λ i j l b. entries i j l;
  }

  all_pivots : E.reduced.rank ≡ length a.rows
  all_pivots = full_rank (domain_of_codes k) a.cols F E.form E.reduced E.same
      (form_count ∙ sym (length_sequences k a.rows)) ∙ length_sequences k a.rows

  basis_reduced : IsReducedBelow k (length a.rows) basis.rows (length basis.rows)
  basis_reduced =
      subst (λ n. IsReducedBelow k n basis.rows (length basis.rows)) (length_sequences k a.rows)
      (record {
        form = reduced_of_entries R (length F) (kernel_rows R a.cols F E) (sequences_of k basis.rows) has_entries
            (kernel_reduced R a.cols F E);
        rank_is = kernel_rank R a.cols F E ∙ ap₂ (λ m n. m - n) all_pivots done.split_is ∙ sym basis_count;
      })

  into : (w : List ℕ) → IsInRowSpace k.ops basis w → IsInKernel k.ops a w
  into w h = record {
    one_each = ap length h.is ∙ length_combination k (length a.rows) h.coefficients basis.rows basis_wide;
    over = w_in;
    product = codes_ext k (row_product k.ops w a) (replicate a.cols 0) (combination_over k a.cols w a.rows w_in over)
        (IsOver_zeros k a.cols)
        (length_combination k a.cols w a.rows wide ∙ sym (length-replicate a.cols 0)) (λ j l.
        combination_is k a.cols w a.rows w_in over j
        ∙ kernel_members R a.cols F E (coeff_of R.ops (read k w)) in_space j
        (subst (λ n. j < n) (length_combination k a.cols w a.rows wide) l)
        ∙ sym (coeff_zeros k a.cols j));
  }
    where
      w_in : IsOver k.ops w
      w_in = rw h.is (combination_over k (length a.rows) h.coefficients basis.rows h.over basis_over)

      in_space : InRowSpace R.ops (length F) (kernel_rows R a.cols F E) (coeff_of R.ops (read k w))
      in_space =
          space_of_entries R (length F) (sequences_of k basis.rows) (kernel_rows R a.cols F E)
          (entries_back R (length F) (kernel_rows R a.cols F E) (sequences_of k basis.rows) has_entries)
          (coeff_of R.ops (read k w))
          (subst (λ n. InRowSpace R.ops n (sequences_of k basis.rows) (coeff_of R.ops (read k w)))
          (sym (length_sequences k a.rows)) (space_of_codes k basis w basis_over h))

  back : (w : List ℕ) → IsInKernel k.ops a w → IsInRowSpace k.ops basis w
  back w h =
      codes_of_space k basis w basis_over basis_wide h.over h.one_each
      (subst (λ n. InRowSpace R.ops n (sequences_of k basis.rows) (coeff_of R.ops (read k w)))
      (length_sequences k a.rows)
      (space_of_entries R (length F) (kernel_rows R a.cols F E) (sequences_of k basis.rows) has_entries
      (coeff_of R.ops (read k w))
      (kernel_spanned R a.cols F E (coeff_of R.ops (read k w)) (λ j l.
      sym (combination_is k a.cols w a.rows h.over over j) ∙ ap (λ xs. coeff_of R.ops (read k xs) j) h.product
      ∙ coeff_zeros k a.cols j))))

  pub kernel_basis_is : IsKernelBasis k.ops a basis
  kernel_basis_is = record {
    shape = record { row_count = refl; col_count = refl; each = basis_wide };
    over = record { each = basis_over };
    reduced = form_of_codes k basis (length basis.rows) basis_over basis_reduced;
    row_space = λ w. (into w, back w);
  }

-- the same, from the buffers
pub kernel_view : (k : CodeField) (cols n rank : ℕ) (items whole entries : List ℕ) (a : MatrixValue)
    → view_of cols n items ≡ a → IsMatrixOver k.ops a
    → length items ≡ n * cols → length whole ≡ n * (cols + n) → IsOver k.ops whole
    → IsEliminated k cols (rows_in cols n items) (rows_in (cols + n) n whole) rank
    → rows_in (cols + n - cols) (n - rank) entries ≡ map (drop cols) (drop rank (rows_in (cols + n) n whole))
    → IsKernelBasis k.ops a (view_of n (n - rank) entries)
kernel_view k cols n rank items whole entries a view_is over shape long whole_in done entries_is =
    subst (λ v. IsKernelBasis k.ops v (view_of n (n - rank) entries)) view_is
    (subst (IsKernelBasis k.ops A) (sym same_basis)
    (kernel_basis_is k A (view_over k cols n items a view_is over).each (rows_in_wide cols n items shape) W rank
    (rows_in_over k.ops (cols + n) n whole whole_in)
    (subst (λ m. All (λ r. length r ≡ cols + m) W) (sym count) (rows_in_wide (cols + n) n whole long))
    (length_rows_in (cols + n) n whole ∙ sym count) done))
  where
    A : MatrixValue
    A = view_of cols n items

    W : List (List ℕ)
    W = rows_in (cols + n) n whole

    count : length (rows_in cols n items) ≡ n
    count = length_rows_in cols n items

    same_basis : view_of n (n - rank) entries
        ≡ record { cols = length (rows_in cols n items); rows = map (drop cols) (drop rank W) }
    same_basis =
        ap₂ (λ c r. record { cols = c; rows = r }) (sym count)
        (ap (λ m. rows_in m (n - rank) entries) (let e : n ≡ cols + n - cols = omega arith in e) ∙ entries_is)
