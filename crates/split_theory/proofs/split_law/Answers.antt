-- The theorems of `SplitBases`.
use Rattle.split_theory.proofs.SplitBases.{split_reduced, split_both}
use Rattle.split_theory.proofs.split_law.Goals as goal

pub returns-clause-reduced : goal.returns-clause-reduced
returns-clause-reduced g = λ k c fin inf u m bs curve fin_form inf_form u_in monic popov spanned rows.
    split_reduced k c curve fin inf fin_form inf_form u u_in monic m popov spanned bs rows

pub returns-clause-both : goal.returns-clause-both
returns-clause-both g = λ k c fin inf u m bs curve fin_form inf_form u_in monic popov spanned rows.
    split_both k c curve fin inf fin_form inf_form u u_in monic m popov spanned bs rows
