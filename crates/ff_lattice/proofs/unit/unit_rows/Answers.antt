use Rattle.std.proofs.Common.{◌≡◌, ◌∙◌, ap, arith}
use Rattle.ff_poly.specs.Popov.{rows_of}
use Rattle.ff_lattice.specs.Units.{unit_rows}
use Rattle.ff_lattice.proofs.UnitRows.{no_units, more_units}
use Rattle.ff_lattice.proofs.unit.unit_rows.Goals as goal

pub loop-i-init : goal.loop-i-init
loop-i-init c = ap rows_of c.new-rows.ensures.items ∙ no_units c.args.n

pub loop-i-preserved : goal.loop-i-preserved
loop-i-preserved c =
    more_units c.args.n c.loop-i.i c.loop-i.rows.items c.push.new.self.items c.in_ok-unit_row.field-0 c.loop-i.invariant
    c.in_ok-unit_row.ensures c.in_ok-push.ensures.items

pub returns : goal.returns
returns c =
    let done : c.loop-i.i ≡ c.args.n = omega arith in
    c.loop-i.invariant ∙ ap (unit_rows c.args.n) done
