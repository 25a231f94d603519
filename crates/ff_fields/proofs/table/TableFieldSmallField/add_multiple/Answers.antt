use Rattle.ff_fields.specs.Standards.{standard_of}
use Rattle.ff_fields.proofs.Sums.{sum_nothing}
use Rattle.ff_fields.proofs.table.TableFieldSmallField.add_multiple.Goals as goal

pub returns-then-c-eq0 : goal.returns-then-c-eq0
returns-then-c-eq0 c =
    sum_nothing (standard_of c.args.self.now) c.args.c c.args.sum.now c.args.codes.now c.requires.sum_in
    c.requires.codes_in c.requires.fits c.if-c-eq0.true
