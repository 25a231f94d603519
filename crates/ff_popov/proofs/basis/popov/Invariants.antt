use Rattle.ff_popov.proofs.basis.popov.Given as goal

abbrev pub ghosts-reduce_rows : goal.ghosts-reduce_rows
ghosts-reduce_rows g a = record { name = a.blank.name; parts = a.blank.parts }
