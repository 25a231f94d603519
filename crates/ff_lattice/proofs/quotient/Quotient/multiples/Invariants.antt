use Rattle.std.proofs.Common.{◌≡◌, map, take}
use Rattle.ff_poly.specs.Popov.{rows_of}
use Rattle.ff_lattice.specs.Quotients.{spread}
use Rattle.ff_lattice.proofs.quotient.Quotient.multiples.Given as goal

abbrev pub invariant-loop-i : goal.invariant-loop-i
invariant-loop-i g l =
    let k = g.K.SmallField.field l.k in
    rows_of l.multiples.items ≡ map (λ rows. spread k.ops l.self rows l.b) (take l.i l.self.products)
