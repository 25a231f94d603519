use Rattle.std.proofs.Common.{refl, subst}
use Rattle.ff_program.specs.Commands.{Runs}
use Rattle.ff_program.proofs.Outcomes.{truth_of, faultless_of}
use Rattle.ff_program.proofs.program.top.Goals as goal

pub returns-clause-truth : goal.returns-clause-truth
returns-clause-truth g c = λ e bytes told.
    let done = subst (Runs g.S.Source.left g.S.Source.faults g.T.Sink.taken g.T.Sink.faults g.T.Sink.free c.args.src.now
    c.run.new.src c.args.out.now c.run.new.out) e c.run.ensures.runs in
    let ends = (done bytes told).ends in
    (ends.0, truth_of bytes ends.0 _ ends.1 refl, ends.2)

pub returns-clause-faultless : goal.returns-clause-faultless
returns-clause-faultless g c = λ _ steady bytes told room f fits.
    faultless_of g.S.Source.left g.S.Source.faults g.T.Sink.taken g.T.Sink.faults g.T.Sink.free c.args.src.now
    c.run.new.src c.args.out.now c.run.new.out c.run.result
    c.run.ensures.runs (c.run.ensures.stays_steady steady).2 bytes told room f fits
