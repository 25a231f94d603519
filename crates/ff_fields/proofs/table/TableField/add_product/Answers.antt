use Rattle.std.proofs.Common.{◌∙◌, sym, ap, arith}
use Rattle.ff_fields.specs.Standards.{standard_of}
use Rattle.ff_fields.proofs.TableSteps.{tables_at, log_below, product_at, product_power_at, sum_null_at, next_at, sum_at}
use Rattle.ff_fields.proofs.table.TableField.add_product.Goals as goal

pub returns-then-a-eq0 : goal.returns-then-a-eq0
returns-then-a-eq0 c =
    let k = standard_of c.args.self.now in
    let s = c.self.inside in
    let T = tables_at s.base c.args.self.now s.generator s.minus_one s.powers.items s.logs.items c.self.view_is
    c.self.invariant in
    let product = k.mul c.args.c c.args.b in
    product_at k s.generator s.minus_one s.powers.items s.logs.items T c.args.c c.args.b c.index.result.now
    c.index-2.result.now c.len-n.result c.reduced-other.result c.index-then-a-eq0.result.now
    c.requires.c_in c.requires.b_in c.requires.c_some c.requires.b_some c.index.ensures c.index-2.ensures
    (c.len-n.ensures ∙ s.powers.ok.0) c.reduced-other.ensures c.index-then-a-eq0.ensures
    ∙ sym (ap (λ w. k.add w product) c.if-a-eq0.true
    ∙ k.laws.zero_add product (k.laws.mul_below c.args.c c.args.b c.requires.c_in c.requires.b_in))

pub overflow_sub-n : goal.overflow_sub-n
overflow_sub-n c =
    let k = standard_of c.args.self.now in
    let s = c.self.inside in
    let T = tables_at s.base c.args.self.now s.generator s.minus_one s.powers.items s.logs.items c.self.view_is
    c.self.invariant in
    let below = log_below k s.generator s.minus_one s.powers.items s.logs.items T c.args.a c.index-3.result.now
    c.len-n.result c.requires.a_in c.if-a-eq0.false c.index-3.ensures (c.len-n.ensures ∙ s.powers.ok.0) in
    omega (arith, below)

pub returns-then-next : goal.returns-then-next
returns-then-next c =
    let k = standard_of c.args.self.now in
    let s = c.self.inside in
    let T = tables_at s.base c.args.self.now s.generator s.minus_one s.powers.items s.logs.items c.self.view_is
    c.self.invariant in
    let n_is = c.len-n.ensures ∙ s.powers.ok.0 in
    let other =
    product_power_at k s.generator s.minus_one s.powers.items s.logs.items T c.args.c c.args.b c.index.result.now
    c.index-2.result.now c.len-n.result c.reduced-other.result
    c.requires.c_in c.requires.b_in c.requires.c_some c.requires.b_some c.index.ensures c.index-2.ensures n_is
    c.reduced-other.ensures in
    sum_null_at k s.generator s.minus_one s.powers.items s.logs.items T c.args.a (k.mul c.args.c c.args.b)
    c.index-3.result.now c.reduced-other.result c.len-n.result c.reduced.result c.index-4.result.now
    c.requires.a_in c.if-a-eq0.false c.index-3.ensures other n_is c.reduced.ensures c.index-4.ensures c.if-next.true

pub reduced-requires-2 : goal.reduced-requires-2
reduced-requires-2 c =
    let k = standard_of c.args.self.now in
    let s = c.self.inside in
    let T = tables_at s.base c.args.self.now s.generator s.minus_one s.powers.items s.logs.items c.self.view_is
    c.self.invariant in
    let n_is = c.len-n.ensures ∙ s.powers.ok.0 in
    let other =
    product_power_at k s.generator s.minus_one s.powers.items s.logs.items T c.args.c c.args.b c.index.result.now
    c.index-2.result.now c.len-n.result c.reduced-other.result
    c.requires.c_in c.requires.b_in c.requires.c_some c.requires.b_some c.index.ensures c.index-2.ensures n_is
    c.reduced-other.ensures in
    let below = log_below k s.generator s.minus_one s.powers.items s.logs.items T c.args.a c.index-3.result.now
    c.len-n.result c.requires.a_in c.if-a-eq0.false c.index-3.ensures n_is in
    let next =
    next_at k s.generator s.minus_one s.powers.items s.logs.items T c.args.a (k.mul c.args.c c.args.b)
    c.index-3.result.now c.reduced-other.result c.len-n.result c.reduced.result c.index-4.result.now
    c.requires.a_in c.if-a-eq0.false c.index-3.ensures other n_is c.reduced.ensures c.index-4.ensures c.if-next.false in
    omega (arith, below, next)

pub returns : goal.returns
returns c =
    let k = standard_of c.args.self.now in
    let s = c.self.inside in
    let T = tables_at s.base c.args.self.now s.generator s.minus_one s.powers.items s.logs.items c.self.view_is
    c.self.invariant in
    let n_is = c.len-n.ensures ∙ s.powers.ok.0 in
    let other =
    product_power_at k s.generator s.minus_one s.powers.items s.logs.items T c.args.c c.args.b c.index.result.now
    c.index-2.result.now c.len-n.result c.reduced-other.result
    c.requires.c_in c.requires.b_in c.requires.c_some c.requires.b_some c.index.ensures c.index-2.ensures n_is
    c.reduced-other.ensures in
    sum_at k s.generator s.minus_one s.powers.items s.logs.items T c.args.a (k.mul c.args.c c.args.b)
    c.index-3.result.now c.reduced-other.result c.len-n.result c.reduced.result c.index-4.result.now
    c.requires.a_in c.if-a-eq0.false c.index-3.ensures other n_is c.reduced.ensures c.index-4.ensures
    c.reduced-2.result c.index-5.result.now c.if-next.false c.reduced-2.ensures c.index-5.ensures
