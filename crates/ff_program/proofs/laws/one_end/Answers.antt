use Rattle.std.proofs.Common.{true, false, sym, subst}
use Rattle.ff_program.specs.Printing.{Prints}
use Rattle.ff_program.proofs.OneOutput.{one_output}
use Rattle.ff_program.proofs.laws.one_end.Goals as goal

pub returns-clause-done : goal.returns-clause-done
returns-clause-done g c = λ bytes text finished h ends.
    let one = one_output bytes ends.0 text true finished ends.1 h in
    (sym one.1, subst (Prints g.T.Sink.taken g.T.Sink.faults g.T.Sink.free c.args.old.now c.args.new.now) one.0 ends.2)

pub returns-clause-refused : goal.returns-clause-refused
returns-clause-refused g c = λ bytes text finished h ends.
    let one = one_output bytes ends.0 text false finished ends.1 h in
    (sym one.1, subst (Prints g.T.Sink.taken g.T.Sink.faults g.T.Sink.free c.args.old.now c.args.new.now) one.0 ends.2)
