use Rattle.std.proofs.Common.{◌≡◌, map, take}
use Rattle.ff_poly.specs.Popov.{rows_of, combination_list}
use Rattle.ff_split.proofs.rows.combinations.Given as goal

abbrev pub invariant-loop-c : goal.invariant-loop-c
invariant-loop-c g l =
    let k = (g.K.SmallField.field l.k).ops in
    rows_of l.out.items ≡ map (λ c. combination_list k l.n c (rows_of l.rows)) (take l.c-index (rows_of l.coefficients))
