use Rattle.std.proofs.Common.{◌∙◌, arith}
use Rattle.ff_fields.specs.Standards.{standard_of}
use Rattle.ff_fields.proofs.TableSteps.{tables_at, log_below, product_at, zero_product}
use Rattle.ff_fields.proofs.table.TableFieldSmallField.mul.Goals as goal

pub returns-then-a-eq0 : goal.returns-then-a-eq0
returns-then-a-eq0 c =
    zero_product (standard_of c.args.self.now) c.args.a c.args.b c.requires.a_in c.requires.b_in c.then-a-eq0.either

pub reduced-requires : goal.reduced-requires
reduced-requires c =
    let k = standard_of c.args.self.now in
    let s = c.self.inside in
    let T = tables_at s.base c.args.self.now s.generator s.minus_one s.powers.items s.logs.items c.self.view_is
    c.self.invariant in
    let n_is = c.len.ensures ∙ s.powers.ok.0 in
    let first = log_below k s.generator s.minus_one s.powers.items s.logs.items T c.args.a c.index.result.now
    c.len.result c.requires.a_in c.if-a-eq0.false c.index.ensures n_is in
    let second = log_below k s.generator s.minus_one s.powers.items s.logs.items T c.args.b c.index-2.result.now
    c.len.result c.requires.b_in c.if-b-eq0.false c.index-2.ensures n_is in
    omega (arith, first, second)

pub returns : goal.returns
returns c =
    let k = standard_of c.args.self.now in
    let s = c.self.inside in
    let T = tables_at s.base c.args.self.now s.generator s.minus_one s.powers.items s.logs.items c.self.view_is
    c.self.invariant in
    product_at k s.generator s.minus_one s.powers.items s.logs.items T c.args.a c.args.b c.index.result.now
    c.index-2.result.now c.len.result c.reduced.result c.index-3.result.now
    c.requires.a_in c.requires.b_in c.if-a-eq0.false c.if-b-eq0.false c.index.ensures c.index-2.ensures
    (c.len.ensures ∙ s.powers.ok.0) c.reduced.ensures c.index-3.ensures
