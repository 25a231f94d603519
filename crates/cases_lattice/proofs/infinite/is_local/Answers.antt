use Rattle.std.proofs.Common.{sym, subst}
use Rattle.ff_poly.specs.Polynomials.{x_poly}
use Rattle.function_field.specs.Values.{equation_of}
use Rattle.infinite_theory.specs.Supported.{IsSupportedAt}
use Rattle.ff_lattice.specs.Lattices.{Contains}
use Rattle.cases_lattice.proofs.infinite.is_local.Goals as goal

pub local_contains-requires-clause-tame : goal.local_contains-requires-clause-tame
local_contains-requires-clause-tame g c =
    let k = g.K.SmallField.field c.args.k.now in
    let q = c.args.c.now.inf in
    subst (λ l. IsSupportedAt (equation_of k q) (x_poly k) (Contains k q l)) (sym c.lattice-l.ensures)
    c.in_ok-start.ensures.tame
