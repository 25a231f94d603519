use Rattle.ff_space.specs.Spaces.{InCodeSpan}
use Rattle.ff_space.proofs.OnePrinted.{one_basis}
use Rattle.ff_space.proofs.PrintedSets.{basis_of_same}
use Rattle.ff_space.proofs.laws.one_printed_basis.Goals as goal

pub returns : goal.returns
returns c =
    λ k p fs gs zs ws some same h g.
    one_basis k p some (InCodeSpan k p gs) zs ws
    (basis_of_same k p (InCodeSpan k p fs) (InCodeSpan k p gs) same zs h) g
