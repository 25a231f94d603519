use Rattle.std.proofs.Common.{◌<◌, ◌≤◌, length, subst, arith, All, ◌↔◌}
use Rattle.std.proofs.lemmas.List.{take_all}
use Rattle.function_field.specs.Values.{Functions, functions, function_of}
use Rattle.ff_lattice.specs.Lattices.{row_elems, Contains}
use Rattle.ff_lattice.proofs.RowElems.{elems_length}
use Rattle.ff_lattice.proofs.ColonSets.{colon_more}
use Rattle.ff_lattice.proofs.colons.restricted_by_rows.Goals as goal

pub loop-i-preserved : goal.loop-i-preserved
loop-i-preserved g c =
    let k = g.K.SmallField.field c.args.k.now in
    let b = c.args.b.now in
    let less : c.loop-i.i < length (row_elems b) = omega (arith, elems_length b) in
    record {
      form = c.in_ok-found.ensures.form;
      members =
          colon_more k c.args.p.now c.args.a.now b c.args.start c.loop-i.found c.in_ok-found.found c.loop-i.i
          c.in_ok-row.row less c.in_ok-row.ensures.row
          c.loop-i.invariant.members c.in_ok-found.ensures.members;
    }

pub returns-clause-members : goal.returns-clause-members
returns-clause-members g c =
    let k = g.K.SmallField.field c.args.k.now in
    let p = c.args.p.now in
    let b = c.args.b.now in
    let size : length (row_elems b) ≤ c.loop-i.i = omega (arith, elems_length b) in
    subst
    (λ ws. (z : Functions k p) → Contains k p c.loop-i.found z
    ↔ (Contains k p c.args.start z × All (λ w. Contains k p c.args.a.now
    ((functions k p).◌⊗◌ (function_of k p w) z)) ws))
    (take_all c.loop-i.i (row_elems b) size) c.loop-i.invariant.members

pub restricted-requires-clause-w_in : goal.restricted-requires-clause-w_in
restricted-requires-clause-w_in g c = c.in_ok-row.ensures.in_range (g.K.SmallField.field c.args.k.now).ops
    c.args.p.now.n c.requires.b_form
