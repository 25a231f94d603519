use Rattle.std.proofs.Common.{arith}
use Rattle.ff_program.proofs.OneOutput.{one_output, begins_output, not_longer, answered_finished}
use Rattle.ff_program.proofs.Outcomes.{truth_of}
use Rattle.ff_program.proofs.laws.one_output.Goals as goal

pub returns-clause-one : goal.returns-clause-one
returns-clause-one c = one_output

pub returns-clause-begins : goal.returns-clause-begins
returns-clause-begins c = begins_output

pub returns-clause-answered : goal.returns-clause-answered
returns-clause-answered c = λ bytes text finished within h.
    (truth_of bytes text finished h, answered_finished bytes text finished within h)

pub returns-clause-room : goal.returns-clause-room
returns-clause-room c = λ bytes whole finished room h within text begun. let
    le = not_longer bytes text whole finished begun h in omega (arith, within, le)
