use Rattle.std.proofs.Common.{[], ◌∷◌, take, All}
use Rattle.ff_poly.specs.Popov.{rows_of}
use Rattle.ff_lattice.specs.Steps.{IsNext, IsRowMultiplier}
use Rattle.ff_lattice.proofs.multipliers.least_multiplier.Given as goal

abbrev pub invariant-loop-row : goal.invariant-loop-row
invariant-loop-row g l =
    let k = (g.K.SmallField.field l.k).ops in
    IsNext k (1 ∷ []) (λ u. All (λ row. IsRowMultiplier k l.e row u) (take l.row-index (rows_of l.rows))) l.h
