use Rattle.std.proofs.Common.{map, subst, sym}
use Rattle.function_field.specs.Divisors.{IsSpaceBasis}
use Rattle.function_field.specs.Values.{function_of, setting}
use Rattle.ff_space.specs.Spaces.{InCodeSpan}
use Rattle.ff_space.proofs.PrintedBases.{printed_basis}
use Rattle.ff_space.proofs.laws.printed_is_basis.Goals as goal

pub returns : goal.returns
returns c =
    λ k p fs zs some h.
    subst (λ xs. IsSpaceBasis (setting k p) (InCodeSpan k p fs) (map (function_of k p) xs)) (sym h.are)
    (printed_basis k p some (InCodeSpan k p fs) h.space h.printed)
