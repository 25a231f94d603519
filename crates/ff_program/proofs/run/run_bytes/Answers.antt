use Rattle.std.proofs.Common.{false, sym, ◌∙◌, subst, All}
use Rattle.ff_script.specs.Scripts.{IsScript, IsScriptFault, IsSyntaxFault, IsMisplaced}
use Rattle.ff_program.specs.Output.{IsOutput, Syntax, Misplaced}
use Rattle.ff_program.specs.Ready.{IsReady}
use Rattle.ff_program.proofs.Outcomes.{script_ends, line_ends, nothing_begun}
use Rattle.ff_program.proofs.Scripts.{script_ready}
use Rattle.ff_program.proofs.run.run_bytes.Goals as goal

pub run_script-requires-clause-ready : goal.run_script-requires-clause-ready
run_script-requires-clause-ready g c = subst (All IsReady) (sym c.as_slice.ensures.value)
    (script_ready c.args.bytes.now c.in-Ok.script.items c.requires c.in-Ok.ensures.found)

pub returns-in-Ok : goal.returns-in-Ok
returns-in-Ok g c =
    script_ends g.T.Sink.taken g.T.Sink.faults g.T.Sink.free c.args.bytes.now c.as_slice.result.now c.args.out.now
    c.run_script.new.out c.run_script.result c.requires
    (subst (IsScript c.args.bytes.now) (sym c.as_slice.ensures.value) c.in-Ok.ensures.found) c.run_script.ensures

pub returns-in-Ok-syntax_text : goal.returns-in-Ok-syntax_text
returns-in-Ok-syntax_text g c =
    let bad : IsSyntaxFault c.args.bytes.now c.in-Err-Syntax.line = subst (IsScriptFault c.args.bytes.now)
    c.in-Err-Syntax.field-0-is c.in-Err-Syntax.ensures.fault in
    let text = c.as_slice-in-Err-Syntax.ensures.value ∙ c.in-Ok-syntax_text.ensures in
    line_ends g.T.Sink.taken g.T.Sink.faults g.T.Sink.free c.args.bytes.now c.as_slice-in-Err-Syntax.result.now
    c.args.out.now c.close.new.out c.close.result
    (subst (λ t. IsOutput c.args.bytes.now t false) (sym text) (Syntax c.in-Err-Syntax.line c.requires bad))
    c.close.ensures

pub returns-in-Ok-misplaced_text : goal.returns-in-Ok-misplaced_text
returns-in-Ok-misplaced_text g c =
    let bad : IsMisplaced c.args.bytes.now c.in-Err-Misplaced.line = subst (IsScriptFault c.args.bytes.now)
    c.in-Err-Misplaced.field-0-is c.in-Err-Misplaced.ensures.fault in
    let text = c.as_slice-in-Err-Misplaced.ensures.value ∙ c.in-Ok-misplaced_text.ensures in
    line_ends g.T.Sink.taken g.T.Sink.faults g.T.Sink.free c.args.bytes.now c.as_slice-in-Err-Misplaced.result.now
    c.args.out.now c.close-in-Err-Misplaced.new.out c.close-in-Err-Misplaced.result
    (subst (λ t. IsOutput c.args.bytes.now t false) (sym text) (Misplaced c.in-Err-Misplaced.line c.requires bad))
    c.close-in-Err-Misplaced.ensures

pub returns-in_default : goal.returns-in_default
returns-in_default g c = nothing_begun g.T.Sink.taken g.T.Sink.faults g.T.Sink.free c.args.bytes.now c.args.out.now

pub returns-in_default-misplaced_text : goal.returns-in_default-misplaced_text
returns-in_default-misplaced_text g c = nothing_begun g.T.Sink.taken g.T.Sink.faults g.T.Sink.free c.args.bytes.now
    c.args.out.now

pub returns-in-Err-Memory : goal.returns-in-Err-Memory
returns-in-Err-Memory g c = nothing_begun g.T.Sink.taken g.T.Sink.faults g.T.Sink.free c.args.bytes.now c.args.out.now
