-- Coordinates that are found row by row.
use Rattle.std.proofs.Common.{◌≡◌, ℕ, zero, suc, ◌+◌, ◌<◌, List, [], ◌∷◌, ◌++◌, length, refl, sym, ◌∙◌, ap, subst, arith, below_more, Option}
use Rattle.std.specs.Prelude.{Result, IfOk, MatchOption}
use Rattle.std.specs.Global.{Vec}
use Rattle.std.proofs.lemmas.List.{length-map}
use Rattle.ff_fields.specs.Field.{FieldOps, CodeField}
use Rattle.ff_poly.specs.Popov.{rows_of, row_at, InRowSpan, IsCombinationList}
use Rattle.function_field.specs.Curves.{CurveValue, IsCurve}
use Rattle.linear_theory.specs.Lists.{tabulate}
use Rattle.ff_lattice.specs.Lattices.{LatticeValue, IsLatticeValue}
use Rattle.ff_lattice.proofs.Pushes.{rows_push}
use Rattle.split_theory.specs.Splits.{IsPowerRow, AreCoordinatesInT}
use Rattle.split_theory.proofs.Found.{found_coordinates}
use Rattle.ff_split.specs.Steps.{power_row}
use Rattle.ff_split.proofs.PowerRows.{power_row_is}

row_before : (rows : List (List (List ℕ))) (v : List (List ℕ)) (i : ℕ) → i < length rows
    → row_at (rows ++ v ∷ []) i ≡ row_at rows i
row_before [] v i less = absurd (omega (arith, less))
row_before (r ∷ rows) v zero less = refl
row_before (r ∷ rows) v (suc i) less = row_before rows v i (omega (arith, less))

row_last : (rows : List (List (List ℕ))) (v : List (List ℕ)) → row_at (rows ++ v ∷ []) (length rows) ≡ v
row_last [] v = refl
row_last (r ∷ rows) v = row_last rows v

-- a fact of each row, with one row more
pub each_more : (P : ℕ → List (List ℕ) → Type 0) (old new : List (Vec (List ℕ))) (v : Vec (List ℕ)) (j : ℕ)
    → length old ≡ j → ((i : ℕ) → i < j → P i (row_at (rows_of old) i)) → P j v.items → new ≡ old ++ v ∷ []
    → (i : ℕ) → i < j + 1 → P i (row_at (rows_of new) i)
each_more P old new v j size so_far here is =
    let whole : rows_of new ≡ rows_of old ++ v.items ∷ [] = ap rows_of is ∙ rows_push old v in
    let count : length (rows_of old) ≡ j = length-map old (λ u. u.items) ∙ size in
    let last : row_at (rows_of new) j ≡ v.items
    = ap (λ rows. row_at rows j) whole ∙ ap (row_at (rows_of old ++ v.items ∷ [])) (sym count)
    ∙ row_last (rows_of old) v.items in
    below_more (λ i. P i (row_at (rows_of new) i)) j
    (λ i less.
    subst (P i) (sym (ap (λ rows. row_at rows i) whole ∙ row_before (rows_of old) v.items i (omega
    (arith, less, count))))
    (so_far i less))
    (subst (P j) (sym last) here)

tabulated : (n : ℕ) (f : ℕ → List (List ℕ)) (i : ℕ) → i < n → row_at (tabulate n f) i ≡ f i
tabulated zero f i less = absurd (omega (arith, less))
tabulated (suc n) f zero less = refl
tabulated (suc n) f (suc i) less = tabulated n (λ j. f (suc j)) i (omega (arith, less))

pub found_rows : (k : CodeField) (c : CurveValue) (inf : LatticeValue) → IsCurve k c → IsLatticeValue k.ops c.inf.n inf
    → (e : ℕ) (q : List (Vec (List ℕ))) → length q ≡ c.inf.n
    → ((j : ℕ) → j < c.inf.n
    → IsCombinationList k.ops c.inf.n inf.rows (power_row c.inf.n inf.den e j) (row_at (rows_of q) j))
    → AreCoordinatesInT k c inf e (rows_of q)
found_rows k c inf curve form e q size found =
    found_coordinates k c curve inf form e (rows_of q) (tabulate c.inf.n (power_row c.inf.n inf.den e))
    (length-map q (λ u. u.items) ∙ size)
    (λ j less. subst (IsPowerRow k c inf e j) (sym (tabulated c.inf.n (power_row c.inf.n inf.den e) j less))
    (power_row_is k c inf form e j less))
    (λ j less.
    subst (λ v. IsCombinationList k.ops c.inf.n inf.rows v (row_at (rows_of q) j))
    (sym (tabulated c.inf.n (power_row c.inf.n inf.den e) j less)) (found j less))

-- coordinates of v in the rows, None where there are none
abbrev pub AreFound : FieldOps → ℕ → List (List (List ℕ)) → List (List ℕ) → Option (Vec (List ℕ)) → Type 0
AreFound k n rows v found =
    MatchOption found (¬ InRowSpan k n rows v) (λ q. IsCombinationList k n rows v q.items)

pub decided_same : {E : Type 0} (k : FieldOps) (r : Result (Option (Vec (List ℕ))) E) (m n : ℕ)
    (rows rows' : List (List (List ℕ))) (v v' : List (List ℕ)) → m ≡ n → rows ≡ rows' → v ≡ v'
    → IfOk r (AreFound k m rows v) → IfOk r (AreFound k n rows' v')
decided_same k r m n rows rows' v v' same_n same_rows same_v h =
    subst (λ m. IfOk r (AreFound k m rows' v')) same_n
    (subst (λ rows. IfOk r (AreFound k m rows v')) same_rows (subst (λ v. IfOk r (AreFound k m rows v)) same_v h))
