use Rattle.std.proofs.Common.{◌∙◌, sym, ap}
use Rattle.ff_fields.specs.Code.{zero_in}
use Rattle.ff_fields.specs.Standards.{standard_of}
use Rattle.ff_fields.proofs.table.TableFieldSmallField.add.Goals as goal

pub returns-then-b-eq0 : goal.returns-then-b-eq0
returns-then-b-eq0 c =
    let k = standard_of c.args.self.now in
    sym (ap (k.add c.args.a) c.if-b-eq0.true ∙ k.laws.add_comm c.args.a 0 c.requires.a_in (zero_in k)
    ∙ k.laws.zero_add c.args.a c.requires.a_in)

pub add_product-requires-clause-c_in : goal.add_product-requires-clause-c_in
add_product-requires-clause-c_in c = (standard_of c.args.self.now).laws.one_below

pub returns : goal.returns
returns c =
    let k = standard_of c.args.self.now in
    c.add_product.ensures ∙ ap (k.add c.args.a) (k.laws.one_mul c.args.b c.requires.b_in)
