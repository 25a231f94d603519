use Rattle.std.proofs.Common.{◌<◌, length, arith}
use Rattle.ff_lattice.specs.Lattices.{IsLatticeValue, row_elems}
use Rattle.ff_lattice.proofs.RowElems.{elems_length}
use Rattle.std.proofs.Common.{subst}
use Rattle.ff_written.proofs.WrittenRows.{one_degree, rows_more}
use Rattle.ff_written.proofs.rows.written_rows.Goals as goal

pub loop-i-preserved : goal.loop-i-preserved
loop-i-preserved g c =
    let l = c.args.l.now in
    let r = c.in_ok-r.r in
    let end = c.len-i-end.ensures in
    let test = c.loop-i-test.true in
    let less : c.loop-i.i < length (row_elems l) = omega (arith, elems_length l, end, test) in
    rows_more (g.K.SmallField.field c.args.k.now) c.args.curve.now c.args.side (row_elems l) c.loop-i.i
    c.loop-i.rows.items c.push.new.self.items r c.in_ok-written.field-0 less c.in_ok-r.ensures.row
    c.loop-i.invariant c.in_ok-written.ensures c.in_ok-push.ensures.items

pub written-requires-clause-r_in : goal.written-requires-clause-r_in
written-requires-clause-r_in g c =
    let k = g.K.SmallField.field c.args.k.now in
    c.in_ok-r.ensures.in_range k.ops c.args.curve.now.fin.n
    (subst (λ n. IsLatticeValue k.ops n c.args.l.now) (one_degree k c.args.curve.now c.requires.curve c.args.side)
    c.requires.form)
