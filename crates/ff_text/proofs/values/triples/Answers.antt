use Rattle.std.proofs.lemmas.Result.{err_from_is_err_and}
use Rattle.std.proofs.Common.{refl}
use Rattle.ff_text.proofs.Gathered.{listed_none, listed_more, listed_all, no_more, fault_of_all}
use Rattle.ff_text.proofs.values.triples.Goals as goal

pub loop-t-init : goal.loop-t-init
loop-t-init g c = rw c.new-list.ensures.items
    (listed_none (g.K.SmallField.field c.args.k.now).ops c.args.terms.now 0 refl)

pub returns-in_err-triple-clause-fault : goal.returns-in_err-triple-clause-fault
returns-in_err-triple-clause-fault g c =
    let e = err_from_is_err_and c.from_residual.result c.from_residual.ensures.1 in
    rw (e.1, e.2) (fault_of_all (g.K.SmallField.field c.args.k.now).size c.args.terms.now c.loop-t.t-index
    c.t-item.result c.in_err-triple.field-0.0 c.loop-t-test.true c.t-item.is c.loop-t.invariant.found
    c.in_err-triple.ensures.fault)

pub loop-t-preserved : goal.loop-t-preserved
loop-t-preserved g c =
    listed_more (g.K.SmallField.field c.args.k.now).ops c.args.terms.now c.loop-t.t-index c.loop-t.list.items
    c.push.new.self.items c.t-item.result _ c.loop-t.invariant c.loop-t-test.true c.t-item.is
    c.in_ok-triple.ensures.codes_in c.in_ok-triple.ensures.value c.in_ok-triple.ensures.in_range
    c.in_ok-push.ensures.items

pub returns-clause-codes_in : goal.returns-clause-codes_in
returns-clause-codes_in g c = no_more (g.K.SmallField.field c.args.k.now).size c.args.terms.now c.loop-t.t-index
    c.loop-t-test.false c.loop-t.invariant.found

pub returns-clause-value : goal.returns-clause-value
returns-clause-value g c = listed_all (g.K.SmallField.field c.args.k.now).ops c.args.terms.now c.loop-t.t-index
    c.loop-t.list.items c.loop-t.invariant c.loop-t-test.false
