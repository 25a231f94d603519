use Rattle.ff_poly.specs.Words.{shifted}
use Rattle.ff_lattice.specs.Residues.{IsRestModulo, HasResidues}
use Rattle.ff_lattice.proofs.multipliers.residues.Given as goal

abbrev pub invariant-loop-j : goal.invariant-loop-j
invariant-loop-j g l =
    let k = (g.K.SmallField.field l.k).ops in
    record {
      rows : HasResidues k l.e l.v l.j l.rows;
      rest : IsRestModulo k l.e (shifted l.v l.j) l.rest;
    }
