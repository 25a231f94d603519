use Rattle.std.proofs.Common.{◌∙◌}
use Rattle.ff_fields.specs.Standards.{standard_of}
use Rattle.ff_fields.proofs.TableSteps.{tables_at, inverse_at}
use Rattle.ff_fields.proofs.table.TableFieldSmallField.inv.Goals as goal

pub returns : goal.returns
returns c =
    let k = standard_of c.args.self.now in
    let s = c.self.inside in
    let T = tables_at s.base c.args.self.now s.generator s.minus_one s.powers.items s.logs.items c.self.view_is
    c.self.invariant in
    inverse_at k s.generator s.minus_one s.powers.items s.logs.items T c.args.a c.index.result.now c.len-n.result
    c.reduced.result c.index-2.result.now
    c.requires.a_in c.requires.not_zero c.index.ensures (c.len-n.ensures ∙ s.powers.ok.0) c.reduced.ensures
    c.index-2.ensures
