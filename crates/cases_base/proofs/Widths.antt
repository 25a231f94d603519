-- Rows of one width have the width of the first.
use Rattle.std.specs.Prelude.{ℕ, List, [], ◌∷◌, All}
use Rattle.std.proofs.Common.{sym, subst}
use Rattle.std.proofs.lemmas.List.Elements.{All-nil, All-head}
use Rattle.ff_fields.specs.Field.{FieldOps}
use Rattle.ff_poly.specs.Popov.{width_of, IsRow}

pub first_width : (k : FieldOps) (w : ℕ) (rows : List (List (List ℕ))) → All (IsRow k w) rows
    → All (IsRow k (width_of rows)) rows
first_width k w [] over = All-nil (IsRow k (width_of []))
first_width k w (row ∷ rows) over = subst (λ n. All (IsRow k n) (row ∷ rows))
    (sym (All-head (IsRow k w) row rows over).size) over
