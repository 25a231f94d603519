use Rattle.std.proofs.Common.{◌≡◌, suc, ◌+◌, [], drop, sym, ◌∙◌, subst, arith}
use Rattle.std.proofs.lemmas.List.{drop_all}
use Rattle.ff_script.specs.Scripts.{AreInOrderFrom}
use Rattle.ff_program.specs.Output.{IsAnsweredSoFar}
use Rattle.ff_program.specs.Printing.{Prints, BreaksOff}
use Rattle.ff_program.proofs.Runs.{after_answer}
use Rattle.ff_program.proofs.Steps.{on_err, on_ok, rest_at, stopped, broken, printed_on, refused, finished}
use Rattle.ff_program.proofs.run.answer_all.Goals as goal

pub returns-then-is_err : goal.returns-then-is_err
returns-then-is_err g c =
    let inv = c.loop-s.invariant.printed in
    let rest = rest_at c.args.script.now c.loop-s.s-index c.s-item.result (omega arith) c.s-item.is in
    broken g.T.Sink.taken g.T.Sink.faults g.T.Sink.free c.args.script.now c.args.out.now inv.0 c.loop-s.session
    c.s-item.result (drop (c.loop-s.s-index + 1) c.args.script.now)
    c.loop-s.out c.print.new.out (subst (IsAnsweredSoFar c.args.script.now inv.0 c.loop-s.session) rest inv.1) inv.2
    c.step.new.self c.in-Ok.text.items c.in-Ok.ensures.block
    (subst (BreaksOff g.T.Sink.taken g.T.Sink.faults g.T.Sink.free c.loop-s.out c.print.new.out)
    c.as_slice.ensures.value
    (on_err c.print.result _ (sym c.is_err.ensures.value ∙ c.if-is_err.true) c.print.ensures.part))

pub returns-then-is_memory : goal.returns-then-is_memory
returns-then-is_memory g c =
    let inv = c.loop-s.invariant.printed in
    stopped g.T.Sink.taken g.T.Sink.faults g.T.Sink.free c.args.script.now c.args.out.now inv.0 c.loop-s.session
    (drop c.loop-s.s-index c.args.script.now) c.loop-s.out inv.1 inv.2

pub returns-in_default : goal.returns-in_default
returns-in_default g c =
    let inv = c.loop-s.invariant.printed in
    stopped g.T.Sink.taken g.T.Sink.faults g.T.Sink.free c.args.script.now c.args.out.now inv.0 c.loop-s.session
    (drop c.loop-s.s-index c.args.script.now) c.loop-s.out inv.1 inv.2

pub returns-in_default-end_text : goal.returns-in_default-end_text
returns-in_default-end_text g c =
    let inv = c.loop-s.invariant.printed in
    stopped g.T.Sink.taken g.T.Sink.faults g.T.Sink.free c.args.script.now c.args.out.now inv.0 c.loop-s.session
    (drop c.loop-s.s-index c.args.script.now) c.loop-s.out inv.1 inv.2

pub returns-in-Err : goal.returns-in-Err
returns-in-Err g c =
    let inv = c.loop-s.invariant.printed in
    let rest = rest_at c.args.script.now c.loop-s.s-index c.s-item.result (omega arith) c.s-item.is in
    refused g.T.Sink.taken g.T.Sink.faults g.T.Sink.free c.args.script.now c.args.out.now inv.0 c.loop-s.session
    c.s-item.result (drop (c.loop-s.s-index + 1) c.args.script.now)
    c.loop-s.out c.close.new.out (subst (IsAnsweredSoFar c.args.script.now inv.0 c.loop-s.session) rest inv.1) inv.2
    c.in-Err.r c.as_slice-in-Err.result.now c.close.result
    (c.in-Err.ensures.refused (λ e. absurd (let none = c.if-is_memory.ensures.1 e in cc)))
    (c.as_slice-in-Err.ensures.value ∙ c.in-Ok-refusal_text.ensures) c.close.ensures

pub loop-s-preserved : goal.loop-s-preserved
loop-s-preserved g c =
    let inv = c.loop-s.invariant.printed in
    let rest = rest_at c.args.script.now c.loop-s.s-index c.s-item.result (omega arith) c.s-item.is in
    let more : suc c.loop-s.s-index ≡ c.loop-s.s-index + 1 = omega arith in
    record {
      order = subst (λ k. AreInOrderFrom k (drop (c.loop-s.s-index + 1) c.args.script.now)) more
          (subst (AreInOrderFrom c.loop-s.s-index) rest c.loop-s.invariant.order).1;
      stage = after_answer c.loop-s.s-index c.loop-s.session.bindings c.s-item.result c.in-Ok.ensures.block.answer
          c.step.new.self.bindings c.loop-s.invariant.stage c.in-Ok.ensures.block.takes.is_true;
      printed = printed_on g.T.Sink.taken g.T.Sink.faults g.T.Sink.free c.args.script.now c.args.out.now inv.0
          c.loop-s.session c.s-item.result
          (drop (c.loop-s.s-index + 1) c.args.script.now) c.loop-s.out c.print.new.out
          (subst (IsAnsweredSoFar c.args.script.now inv.0 c.loop-s.session) rest inv.1) inv.2 c.step.new.self
          c.in-Ok.text.items c.in-Ok.ensures.block
          (subst (Prints g.T.Sink.taken g.T.Sink.faults g.T.Sink.free c.loop-s.out c.print.new.out)
          c.as_slice.ensures.value
          (on_ok c.print.result _ (sym c.is_err.ensures.value ∙ c.if-is_err.false) c.print.ensures.whole));
    }

pub returns : goal.returns
returns g c =
    let inv = c.loop-s.invariant.printed in
    let none : drop c.loop-s.s-index c.args.script.now
    ≡ [] = drop_all c.loop-s.s-index c.args.script.now (omega arith) in
    finished g.T.Sink.taken g.T.Sink.faults g.T.Sink.free c.args.script.now c.args.out.now inv.0 c.loop-s.session
    c.loop-s.out c.close-2.new.out
    (subst (IsAnsweredSoFar c.args.script.now inv.0 c.loop-s.session) none inv.1) inv.2 c.as_slice-2.result.now
    c.close-2.result (c.as_slice-2.ensures.value ∙ c.in-Ok-end_text.ensures) c.close-2.ensures
