use Rattle.std.proofs.Common.{◌≡◌, length, refl, arith}
use Rattle.ff_popov.proofs.ReadRows.{same_row}
use Rattle.ff_lattice.proofs.sets.same_row.Goals as goal

pub returns : goal.returns
returns c =
    let size : length c.args.v.now ≡ length c.args.w.now = omega arith in
    (λ _. same_row c.args.v.now c.args.w.now size (λ j less. c.loop-j.invariant j (omega (arith, less))), λ _. refl)
