use Rattle.ff_poly.specs.Popov.{rows_of}
use Rattle.cases_base.proofs.Widths.{first_width}
use Rattle.cases_base.proofs.reduced.weak_text.Goals as goal

pub steps_taken-requires-clause-rows_in : goal.steps_taken-requires-clause-rows_in
steps_taken-requires-clause-rows_in g c =
    first_width (g.K.SmallField.field c.args.k.now).ops c.args.width (rows_of c.args.found.items) c.requires
