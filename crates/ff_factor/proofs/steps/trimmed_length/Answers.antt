use Rattle.std.proofs.Common.{arith}
use Rattle.ff_factor.proofs.QuotientSteps.{zeros_step}
use Rattle.ff_factor.proofs.steps.trimmed_length.Goals as goal

pub loop-i-preserved : goal.loop-i-preserved
loop-i-preserved c = zeros_step c.args.codes.now c.loop-i.i (omega arith) (omega arith) c.if-codes-i-ne0.false
    c.loop-i.invariant
