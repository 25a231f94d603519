use Rattle.std.proofs.Common.{◌<◌, sym, subst}
use Rattle.ff_fields.specs.Standards.{standard_of}
use Rattle.ff_fields.proofs.table.TableFieldSmallField.sub.Goals as goal

pub add-requires-clause-b_in : goal.add-requires-clause-b_in
add-requires-clause-b_in c =
    let k = standard_of c.args.self.now in
    subst (λ w. w < k.size) (sym c.neg.ensures) (k.laws.neg_below c.args.b c.requires.b_in)
