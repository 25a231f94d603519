use Rattle.ff_fields.specs.Over.{IsOver}
use Rattle.ff_popov.proofs.Entries.{read_default}
use Rattle.ff_lattice.proofs.Quotients.{row_quotient_more}
use Rattle.ff_lattice.proofs.denominators.row_quotient.Goals as goal

pub exact_quotient-requires-clause-a_in : goal.exact_quotient-requires-clause-a_in
exact_quotient-requires-clause-a_in g c =
    let k = g.K.SmallField.field c.args.k.now in
    read_default (IsOver k.ops) c.args.row.now c.loop-v.v-index c.v-item.result c.requires.row_in c.loop-v-test.true
    c.v-item.is

pub loop-v-preserved : goal.loop-v-preserved
loop-v-preserved g c =
    let k = g.K.SmallField.field c.args.k.now in
    row_quotient_more k.ops c.args.g.now c.args.row.now c.loop-v.quotients.items c.push.new.self.items c.loop-v.v-index
    c.v-item.result c.in_ok-exact_quotient.field-0
    c.loop-v.invariant c.loop-v-test.true c.v-item.is c.in_ok-exact_quotient.ensures.product
    c.in_ok-exact_quotient.ensures.over c.in_ok-exact_quotient.ensures.poly c.in_ok-push.ensures.items
