use Rattle.std.proofs.Common.{◌∙◌}
use Rattle.ff_fields.specs.Standards.{standard_of}
use Rattle.ff_fields.proofs.TableSteps.{tables_at, minus_one_in, negative_is}
use Rattle.ff_fields.proofs.table.TableFieldSmallField.neg.Goals as goal

pub mul-requires-clause-a_in : goal.mul-requires-clause-a_in
mul-requires-clause-a_in c =
    let k = standard_of c.args.self.now in
    let s = c.self.inside in
    let T = tables_at s.base c.args.self.now s.generator s.minus_one s.powers.items s.logs.items c.self.view_is
    c.self.invariant in
    minus_one_in k s.generator s.minus_one s.powers.items s.logs.items T

pub returns : goal.returns
returns c =
    let k = standard_of c.args.self.now in
    let s = c.self.inside in
    let T = tables_at s.base c.args.self.now s.generator s.minus_one s.powers.items s.logs.items c.self.view_is
    c.self.invariant in
    c.mul.ensures ∙ negative_is k s.generator s.minus_one s.powers.items s.logs.items T c.args.a c.requires
