use Rattle.std.proofs.Common.{true, Err, refl}
use Rattle.std.proofs.lemmas.Result.{err_from_is_err_and}
use Rattle.ff_script.specs.Scripts.{IsScriptFault}
use Rattle.ff_script.proofs.Steps.{nil_tested}
use Rattle.ff_script.proofs.Progress.{line_fault, misplaced_taken, script_taken}
use Rattle.ff_script.proofs.OneScript.{script_given, script_no_misplaced, same_script}
use Rattle.ff_script.proofs.TextLaws.{one_line}
use Rattle.ff_script.proofs.parsing.parse.Goals as goal

pub returns-in_err-take-clause-fault : goal.returns-in_err-take-clause-fault
returns-in_err-take-clause-fault c =
    let p = err_from_is_err_and c.from_residual.result c.from_residual.ensures.1 in
    rw (p.1, p.2) (line_fault c.args.bytes.now c.loop-rest.rest.now c.first_line.result.1.now c.first_line.result.0.now
    c.loop-rest.count c.loop-rest.progress.statements.items c.loop-rest.progress.misplaced c.in_err-take.field-0.0
    c.loop-rest.invariant c.first_line.ensures.line c.in_err-take.ensures.fault)

pub returns-in_err-take-clause-only : goal.returns-in_err-take-clause-only
returns-in_err-take-clause-only c = λ ss is.
    let p = err_from_is_err_and c.from_residual.result c.from_residual.ensures.1 in
    let fault : IsScriptFault c.args.bytes.now c.in_err-take.field-0.0 = line_fault c.args.bytes.now
    c.loop-rest.rest.now c.first_line.result.1.now c.first_line.result.0.now c.loop-rest.count
    c.loop-rest.progress.statements.items c.loop-rest.progress.misplaced c.in_err-take.field-0.0
    c.loop-rest.invariant c.first_line.ensures.line c.in_err-take.ensures.fault in
    rw (p.1, p.2) (script_given one_line c.args.bytes.now (Err c.in_err-take.field-0.0) ss fault is)

pub returns-in-Some-clause-fault : goal.returns-in-Some-clause-fault
returns-in-Some-clause-fault c = misplaced_taken c.args.bytes.now c.loop-rest.rest.now c.loop-rest.count
    c.loop-rest.progress.statements.items c.loop-rest.progress.misplaced c.in-Some.n c.loop-rest.invariant
    (nil_tested c.loop-rest.rest.now true c.loop-rest-test.ensures refl) c.in-Some.is

pub returns-in-Some-clause-only : goal.returns-in-Some-clause-only
returns-in-Some-clause-only c = λ ss is.
    script_no_misplaced one_line c.args.bytes.now ss c.in-Some.n is
    (misplaced_taken c.args.bytes.now c.loop-rest.rest.now c.loop-rest.count c.loop-rest.progress.statements.items
    c.loop-rest.progress.misplaced c.in-Some.n c.loop-rest.invariant
    (nil_tested c.loop-rest.rest.now true c.loop-rest-test.ensures refl) c.in-Some.is)

pub returns-in-None-clause-only : goal.returns-in-None-clause-only
returns-in-None-clause-only c = λ ss is.
    same_script one_line c.args.bytes.now c.loop-rest.progress.statements.items ss
    (script_taken c.args.bytes.now c.loop-rest.rest.now c.loop-rest.count c.loop-rest.progress.statements.items
    c.loop-rest.progress.misplaced c.loop-rest.invariant
    (nil_tested c.loop-rest.rest.now true c.loop-rest-test.ensures refl) c.in-None.is)
    is
