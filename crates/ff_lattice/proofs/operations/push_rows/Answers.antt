use Rattle.std.proofs.Common.{◌≡◌, ℕ, ◌<◌, ◌++◌, length, take, arith}
use Rattle.ff_lattice.proofs.Results.{on_err_anyway}
use Rattle.ff_lattice.proofs.RowElems.{elems_length}
use Rattle.ff_lattice.specs.Lattices.{row_elems}
use Rattle.ff_lattice.proofs.SumsAndProducts.{elems_more}
use Rattle.ff_lattice.proofs.operations.push_rows.Goals as goal

pub loop-i-preserved : goal.loop-i-preserved
loop-i-preserved c =
    let a = c.args.a.now in
    let less : c.loop-i.i < length (row_elems a) = omega (arith, elems_length a) in
    elems_more c.loop-i.gens.items c.push.new.self.items c.args.gens.now.items (row_elems a) c.loop-i.i
    c.in_ok-row.field-0 less c.loop-i.invariant c.in_ok-row.ensures.row c.in_ok-push.ensures.items

pub returns-in_err-row-clause-first_ones : goal.returns-in_err-row-clause-first_ones
returns-in_err-row-clause-first_ones c =
    on_err_anyway c.from_residual.result
    ((m : ℕ) × (c.loop-i.gens.items ≡ c.args.gens.now.items ++ take m (row_elems c.args.a.now)))
    (c.loop-i.i, c.loop-i.invariant)
