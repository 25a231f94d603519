-- The theorem of `TraceForm`.
use Rattle.trace_theory.proofs.TraceForm.{trace_form}
use Rattle.trace_theory.proofs.trace_form_law.Goals as goal

pub returns : goal.returns
returns c = λ k e. trace_form e
