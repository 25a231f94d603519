-- The rows of the unit matrix are in Popov form, with the pivot degree 0, and span a lattice over 1.
use Rattle.std.proofs.Common.{◌≡◌, ◌≢◌, ℕ, zero, suc, ◌+◌, ◌-◌, ◌<◌, ◌≤◌, ◌⊎◌, inl, inr, List, [], ◌∷◌, ◌++◌, length, get_or, replicate, refl, sym, ◌∙◌, ap, ap₂, subst, arith, add-one, All}
use Rattle.std.specs.Global.{Vec}
use Rattle.std.proofs.lemmas.List.{length-append, get_or_append_left, length-replicate, get_or-set_same, get_or-set_other}
use Rattle.std.proofs.Math.Seq.{get_or-append_seam}
use Rattle.std.proofs.lemmas.Bool.{cases_lt}
use native.Mathlib.Decide.{ℕ_discrete}
use Rattle.ff_fields.specs.Field.{CodeField}
use Rattle.ff_poly.specs.Words.{IsPoly}
use Rattle.ff_poly.specs.Popov.{rows_of, entry_at, row_at, IsRow, IsPivot, IsPopovMatrix, pivot_degree, pivot_degree_from}
use Rattle.ff_lattice.specs.Lattices.{LatticeValue, IsLatticeValue, IsSpannedBy, elems_over}
use Rattle.ff_lattice.specs.Steps.{unit_row, IsReducedTo}
use Rattle.ff_lattice.specs.Units.{unit_rows}
use Rattle.ff_lattice.proofs.Preimages.{unit_length, unit_over}
use Rattle.ff_lattice.proofs.Pushes.{rows_push}
use Rattle.ff_lattice.proofs.SpannedSets.{reduced_set}

-- the rows that a loop makes
pub no_units : (n : ℕ) → rows_of [] ≡ unit_rows n 0
unfolding unit_rows
no_units n = refl

pub more_units : (n i : ℕ) (old new : List (Vec (List ℕ))) (v : Vec (List ℕ)) → rows_of old ≡ unit_rows n i
    → v.items ≡ unit_row n i → new ≡ old ++ v ∷ [] → rows_of new ≡ unit_rows n (i + 1)
unfolding unit_rows
more_units n i old new v so_far v_is new_is =
    ap rows_of new_is ∙ rows_push old v ∙ ap₂ (λ xs x. xs ++ x ∷ []) so_far v_is ∙ ap (unit_rows n) (sym (add-one i))

pub unit_rows_length : (n i : ℕ) → length (unit_rows n i) ≡ i
unfolding unit_rows
unit_rows_length n zero = refl
unit_rows_length n (suc i) = let e = unit_rows_length n i in length-append (unit_rows n i) (unit_row n i ∷ [])
    ∙ omega arith

pub unit_rows_at : (n i j : ℕ) → j < i → row_at (unit_rows n i) j ≡ unit_row n j
unfolding unit_rows
unit_rows_at n zero j less = absurd (omega arith)
unit_rows_at n (suc i) j less = go (cases_lt j i) (unit_rows_at n i j)
  where
    size : length (unit_rows n i) ≡ i
    size = unit_rows_length n i

    go : (j < i) ⊎ (i ≤ j) → (j < i → row_at (unit_rows n i) j ≡ unit_row n j)
        → row_at (unit_rows n i ++ unit_row n i ∷ []) j ≡ unit_row n j
    go (inl l) before = get_or_append_left (unit_rows n i) (unit_row n i ∷ []) [] j (omega (arith, size)) ∙ before l
    go (inr m) before =
        let e : j ≡ length (unit_rows n i) = omega (arith, size) in
        let f : i ≡ j = omega arith in
        ap (row_at (unit_rows n i ++ unit_row n i ∷ [])) e ∙ get_or-append_seam (unit_rows n i) (unit_row n i) [] []
        ∙ ap (unit_row n) f

unit_here : (n i : ℕ) → i < n → entry_at (unit_row n i) i ≡ 1 ∷ []
unit_here n i less =
    let size : length (replicate {A = List ℕ} n []) ≡ n = length-replicate n [] in
    get_or-set_same (replicate n []) i (1 ∷ []) [] (omega (arith, less, size))

none_at : (n j : ℕ) → entry_at (replicate n []) j ≡ []
none_at zero j = refl
none_at (suc n) zero = refl
none_at (suc n) (suc j) = none_at n j

unit_elsewhere : (n i j : ℕ) → j ≢ i → entry_at (unit_row n i) j ≡ []
unit_elsewhere n i j differ = get_or-set_other (replicate n []) i j (1 ∷ []) [] differ ∙ none_at n j

-- the entries have at most one code, and one only on the diagonal
short : (n i j : ℕ) → i < n → Dec (j ≡ i) → length (entry_at (unit_row n i) j) ≤ 1
short n i j less (yes e) = omega (arith, ap (λ m. length (entry_at (unit_row n i) m)) e, ap length (unit_here n i less))
short n i j less (no differ) = omega (arith, ap length (unit_elsewhere n i j differ))

pub unit_pivot : (n i : ℕ) → i < n → IsPivot (unit_row n i) i
unit_pivot n i less =
    let one : length (entry_at (unit_row n i) i) ≡ 1 = ap length (unit_here n i less) in
    record {
      some = omega (arith, one);
      greatest = λ j. omega (arith, one, short n i j less (ℕ_discrete j i));
      rightmost =
          λ j behind. omega (arith, one, ap length (unit_elsewhere n i j (λ e. absurd (omega (arith, e, behind)))));
    }

trimmed_at : (n i j : ℕ) → (i < n) ⊎ (n ≤ i) → Dec (j ≡ i) → IsPoly (entry_at (row_at (unit_rows n n) i) j)
trimmed_at n i j (inl less) (yes e) =
    subst IsPoly (sym (ap (λ r. entry_at r j) (unit_rows_at n n i less) ∙ ap (entry_at (unit_row n i)) e
    ∙ unit_here n i less)) (record { trimmed = refl })
trimmed_at n i j (inl less) (no differ) =
    subst IsPoly (sym (ap (λ r. entry_at r j) (unit_rows_at n n i less) ∙ unit_elsewhere n i j differ))
    (record { trimmed = tt })
trimmed_at n i j (inr more) d =
    subst IsPoly (sym (ap (λ r. entry_at r j)
    (rows_past (unit_rows n n) i (omega (arith, more, unit_rows_length n n))))) (record { trimmed = tt })
  where
    rows_past : (rows : List (List (List ℕ))) (i : ℕ) → length rows ≤ i → row_at rows i ≡ []
    rows_past [] i le = refl
    rows_past (r ∷ rows) zero le = absurd (omega (arith, le))
    rows_past (r ∷ rows) (suc i) le = rows_past rows i (omega (arith, le))

pub unit_popov : (n : ℕ) → IsPopovMatrix n (unit_rows n n)
unit_popov n = record {
  size = unit_rows_length n n;
  pivot_at = λ i less. subst (λ r. IsPivot r i) (sym (unit_rows_at n n i less)) (unit_pivot n i less);
  monic = λ i less. ([], ap (λ r. entry_at r i) (unit_rows_at n n i less) ∙ unit_here n i less);
  smaller = λ i j i_less j_less differ.
      omega (
        arith,
        ap (λ r. length (entry_at r j)) (unit_rows_at n n i i_less),
        ap length (unit_elsewhere n i j (λ e. differ (sym e))),
        ap (λ r. length (entry_at r j)) (unit_rows_at n n j j_less),
        ap length (unit_here n j j_less),
      );
  trimmed = λ i j. trimmed_at n i j (cases_lt i n) (ℕ_discrete j i);
}

no_degrees : (rows : List (List (List ℕ))) (i : ℕ)
    → ((j m : ℕ) → j < length rows → m ≡ i + j → length (entry_at (row_at rows j) m) ≡ 1) → pivot_degree_from i rows ≡ 0
no_degrees [] i h = refl
no_degrees (r ∷ rows) i h =
    omega (
      arith,
      h 0 i (omega arith) (omega arith),
      no_degrees rows (suc i) (λ j m less e. h (suc j) m (omega (arith, less)) (omega (arith, e))),
    )

pub unit_degree : (n : ℕ) → pivot_degree (unit_rows n n) ≡ 0
unit_degree n =
    no_degrees (unit_rows n n) 0
    (λ j m less e.
    let below : j < n = omega (arith, less, unit_rows_length n n) in
    let same : m ≡ j = omega (arith, e) in
    ap (λ r. length (entry_at r m)) (unit_rows_at n n j below) ∙ ap (λ i. length (entry_at (unit_row n j) i)) same
    ∙ ap length (unit_here n j below))

pub unit_rows_in : (k : CodeField) (n : ℕ) → All (IsRow k.ops n) (unit_rows n n)
unit_rows_in k n i d less =
    let below : i < n = omega (arith, less, unit_rows_length n n) in
    subst (IsRow k.ops n) (sym (unit_rows_at n n i below) ∙ any_row (unit_rows n n) i d less)
    (record { size = unit_length n i; over = unit_over k n i })
  where
    any_row : (rows : List (List (List ℕ))) (i : ℕ) (d : List (List ℕ)) → i < length rows
        → row_at rows i ≡ get_or rows i d
    any_row [] i d less = absurd (omega (arith, less))
    any_row (r ∷ rows) zero d less = refl
    any_row (r ∷ rows) (suc i) d less = any_row rows i d (omega (arith, less))

-- what brings them to the least denominator keeps the members
pub units_spanned : (k : CodeField) (n : ℕ) (rows : List (List (List ℕ))) (l : LatticeValue) → rows ≡ unit_rows n n
    → IsLatticeValue k.ops n l → IsReducedTo k.ops rows (1 ∷ []) l → IsSpannedBy k n (elems_over (unit_rows n n) (1 ∷ [])) l
units_spanned k n rows l rows_are form reduced = record {
  members = λ p n_is z.
      reduced_set k p n (unit_rows n n) (1 ∷ []) l form (subst (λ vs. IsReducedTo k.ops vs (1 ∷ []) l) rows_are reduced)
      z;
}
