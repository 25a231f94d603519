use Rattle.std.proofs.Common.{◌≡◌, take, map}
use Rattle.ff_written.specs.LowestTerms.{elem_of}
use Rattle.ff_session.proofs.statements.constants.rows_of.Given as goal

-- the elements so far
abbrev pub invariant-loop-z : goal.invariant-loop-z
invariant-loop-z l = map elem_of l.rows.items ≡ take l.z-index l.elems
