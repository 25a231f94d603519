-- The theorem of `SplitDegrees`.
use Rattle.split_theory.proofs.SplitDegrees.{split_sum}
use Rattle.split_theory.proofs.split_degrees_law.Goals as goal

pub returns : goal.returns
returns g = λ k c fin inf bs d curve fin_form inf_form tame reduced.
    split_sum k c curve fin inf fin_form inf_form tame bs d reduced
