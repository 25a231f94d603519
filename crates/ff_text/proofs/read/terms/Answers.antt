use Rattle.std.proofs.Common.{get_or, sym, ◌∙◌}
use Rattle.ff_text.proofs.Machines.{step_made}
use Rattle.ff_text.proofs.ReadTerms.{terms_step, AreTermsRead, terms_whole, terms_on, terms_room, terms_ended, terms_stopped, terms_found, terms_nothing}
use Rattle.ff_text.proofs.read.terms.Goals as goal
use Rattle.ff_text.proofs.read.terms.Goals.{else-loop-reach-test, then-loop-reach-test+in_ok-step+then-not-branch}

pub step-requires : goal.step-requires
step-requires c = terms_room c.args.y c.args.line.now c.args.at c.loop-reach.reach c.loop-reach.end c.loop-reach.scan
    c.loop-reach.invariant

pub loop-reach-preserved-then-is_whole : goal.loop-reach-preserved-then-is_whole
loop-reach-preserved-then-is_whole c =
    terms_whole c.args.y c.args.line.now c.args.at c.loop-reach.reach c.loop-reach.end c.loop-reach.scan c.step.new.self
    c.loop-reach.invariant c.loop-reach-test.true
    (step_made (terms_step c.args.y c.loop-reach.scan (get_or c.args.line.now c.loop-reach.reach 0)) c.loop-reach.scan
    c.step.new.self c.in_ok-step.field-0 c.in_ok-step.ensures c.if-not-branch.false)
    (sym c.is_whole.ensures ∙ c.if-is_whole.true)

pub loop-reach-preserved : goal.loop-reach-preserved
loop-reach-preserved c =
    terms_on c.args.y c.args.line.now c.args.at c.loop-reach.reach c.loop-reach.end c.loop-reach.scan c.step.new.self
    c.loop-reach.invariant c.loop-reach-test.true
    (step_made (terms_step c.args.y c.loop-reach.scan (get_or c.args.line.now c.loop-reach.reach 0)) c.loop-reach.scan
    c.step.new.self c.in_ok-step.field-0 c.in_ok-step.ensures c.if-not-branch.false)
    (sym c.is_whole.ensures ∙ c.if-is_whole.false)

pub returns-in-Some-clause-found : goal.returns-in-Some-clause-found
returns-in-Some-clause-found c =
    let r : AreTermsRead c.args.y c.args.line.now c.args.at c.loop-reach.reach c.loop-reach.end c.loop-reach-test.scan =
    elim c.loop-reach-test.branch [
      | else-loop-reach-test w ↦ terms_ended c.args.y c.args.line.now c.args.at c.loop-reach.reach c.loop-reach.end
          c.loop-reach.scan c.loop-reach-test.scan c.loop-reach.invariant w.scan-is w.loop-reach-test.false
      | then-loop-reach-test+in_ok-step+then-not-branch w ↦ terms_stopped c.args.y c.args.line.now c.args.at
          c.loop-reach.reach c.loop-reach.end c.loop-reach.scan w.step.new.self c.loop-reach-test.scan
          w.in_ok-step.field-0 c.loop-reach.invariant w.scan-is w.in_ok-step.ensures w.if-not-branch.true
    ] in
    terms_found c.args.y c.args.line.now c.args.at c.loop-reach.reach c.loop-reach.end c.loop-reach-test.scan
    c.in-Some.terms r (sym c.in_ok-terms.ensures ∙ c.in-Some.is)

pub returns-in-None-clause-fault : goal.returns-in-None-clause-fault
returns-in-None-clause-fault c =
    let r : AreTermsRead c.args.y c.args.line.now c.args.at c.loop-reach.reach c.loop-reach.end c.loop-reach-test.scan =
    elim c.loop-reach-test.branch [
      | else-loop-reach-test w ↦ terms_ended c.args.y c.args.line.now c.args.at c.loop-reach.reach c.loop-reach.end
          c.loop-reach.scan c.loop-reach-test.scan c.loop-reach.invariant w.scan-is w.loop-reach-test.false
      | then-loop-reach-test+in_ok-step+then-not-branch w ↦ terms_stopped c.args.y c.args.line.now c.args.at
          c.loop-reach.reach c.loop-reach.end c.loop-reach.scan w.step.new.self c.loop-reach-test.scan
          w.in_ok-step.field-0 c.loop-reach.invariant w.scan-is w.in_ok-step.ensures w.if-not-branch.true
    ] in
    terms_nothing c.args.y c.args.line.now c.args.at c.loop-reach.reach c.loop-reach.end c.loop-reach-test.scan r
    (sym c.in_ok-terms.ensures ∙ c.in-None.is)
