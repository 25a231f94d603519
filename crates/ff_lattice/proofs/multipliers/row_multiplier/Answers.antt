use Rattle.std.proofs.Common.{ℕ, List, subst, arith}
use Rattle.ff_fields.specs.Over.{IsOver}
use Rattle.ff_poly.specs.Words.{DividesList, product_of}
use Rattle.ff_lattice.specs.Steps.{IsNext}
use Rattle.ff_popov.proofs.Entries.{read_default}
use Rattle.ff_lattice.proofs.Annihilators.{next_more, next_all}
use Rattle.ff_lattice.proofs.multipliers.row_multiplier.Goals as goal

pub next_multiplier-requires-clause-v_in : goal.next_multiplier-requires-clause-v_in
next_multiplier-requires-clause-v_in g c =
    let k = g.K.SmallField.field c.args.k.now in
    read_default (IsOver k.ops) c.args.row.now c.loop-v.v-index c.v-item.result c.requires.row_in c.loop-v-test.true
    c.v-item.is

pub loop-v-preserved : goal.loop-v-preserved
loop-v-preserved g c =
    let k = g.K.SmallField.field c.args.k.now in
    next_more k c.args.h c.loop-v.next c.in_ok-next.next (λ u v. DividesList k.ops c.args.e.now (product_of k.ops u v))
    c.args.row.now c.loop-v.v-index c.v-item.result c.loop-v-test.true c.loop-v.invariant
    (subst (λ v. IsNext k.ops c.loop-v.next (λ u. DividesList k.ops c.args.e.now (product_of k.ops u v))
    c.in_ok-next.next) c.v-item.is c.in_ok-next.ensures)

pub returns : goal.returns
returns g c =
    let k = g.K.SmallField.field c.args.k.now in
    next_all k c.args.h c.loop-v.next (λ (u v : List ℕ). DividesList k.ops c.args.e.now (product_of k.ops u v))
    c.args.row.now c.loop-v.v-index (omega arith) c.loop-v.invariant
