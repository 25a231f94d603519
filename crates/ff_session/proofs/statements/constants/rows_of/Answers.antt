use Rattle.std.proofs.Common.{◌∙◌, arith}
use Rattle.std.proofs.lemmas.List.{take_all}
use Rattle.ff_session.proofs.FieldAnswers.{written_more}
use Rattle.ff_session.proofs.statements.constants.rows_of.Goals as goal

pub loop-z-preserved : goal.loop-z-preserved
loop-z-preserved c =
    written_more c.args.elems.now c.loop-z.z-index c.z-item.result c.loop-z.rows.items c.push.new.self.items
    c.in_ok-as_written.field-0 c.loop-z-test.true c.z-item.is c.loop-z.invariant c.in_ok-as_written.ensures
    c.in_ok-push.ensures.items

pub returns : goal.returns
returns c = c.loop-z.invariant ∙ take_all c.loop-z.z-index c.args.elems.now (omega arith)
