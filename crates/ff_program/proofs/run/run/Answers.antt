use Rattle.std.proofs.Common.{Err, ap, subst}
use Rattle.ff_program.specs.Output.{IsOutput, IsBegun}
use Rattle.ff_program.specs.Printing.{EndsAs}
use Rattle.ff_program.proofs.Outcomes.{runs_read, runs_too_long, nothing_begun}
use Rattle.ff_program.proofs.run.run.Goals as goal

pub returns-in-Ok-clause-runs : goal.returns-in-Ok-clause-runs
returns-in-Ok-clause-runs g c =
    let same = c.as_slice.ensures.value in
    runs_read g.S.Source.left g.S.Source.faults g.T.Sink.taken g.T.Sink.faults g.T.Sink.free c.args.src.now
    c.read_all.new.src c.args.out.now c.run_bytes.new.out
    c.in-Ok.bytes.items c.run_bytes.result c.in-Ok.ensures.within c.in-Ok.ensures.whole
    (subst (λ b. EndsAs g.T.Sink.taken g.T.Sink.faults g.T.Sink.free (IsOutput b) (IsBegun b) c.args.out.now
    c.run_bytes.new.out c.run_bytes.result) same c.run_bytes.ensures)

pub returns-in-Err-TooLong-clause-runs : goal.returns-in-Err-TooLong-clause-runs
returns-in-Err-TooLong-clause-runs g c =
    runs_too_long g.S.Source.left g.S.Source.faults g.T.Sink.taken g.T.Sink.faults g.T.Sink.free c.args.src.now
    c.read_all.new.src c.args.out.now c.close.new.out
    c.close.result (c.in-Err-TooLong.ensures.too_long (ap Err c.in-Err-TooLong.field-0-is)) c.close.ensures

pub returns-in-Err-Memory-clause-runs : goal.returns-in-Err-Memory-clause-runs
returns-in-Err-Memory-clause-runs g c = λ xs e. nothing_begun g.T.Sink.taken g.T.Sink.faults g.T.Sink.free xs
    c.args.out.now
