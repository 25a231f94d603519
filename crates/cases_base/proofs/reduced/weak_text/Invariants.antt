use Rattle.cases_base.proofs.reduced.weak_text.Given as goal

abbrev pub ghosts-steps_taken : goal.ghosts-steps_taken
ghosts-steps_taken g a = record { name = a.blank.name; parts = a.blank.parts }
