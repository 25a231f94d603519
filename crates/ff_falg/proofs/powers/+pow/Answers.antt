use Rattle.std.proofs.Common.{◌/◌, sym, ap, ap₂, ◌∙◌, subst}
use Rattle.std.proofs.lemmas.Result.{IfOk-weaker}
use Rattle.ff_falg.specs.Algebras.{IsVector}
use Rattle.ff_falg.proofs.powers.+pow.Goals as goal
use Rattle.ff_falg.proofs.PowerLaws.{power_even, power_odd}
use Rattle.ff_falg.proofs.Vectors.{power_in}

pub mul-requires-clause-a_in : goal.mul-requires-clause-a_in
mul-requires-clause-a_in g t c =
    let k = g.K.SmallField.field c.args.k.now in
    let A = g.A.FiniteAlgebra.algebra c.args.a.now in
    let law = g.A.FiniteAlgebra.laws c.args.a.now k c.requires.over in
    subst (IsVector k.ops A.size) (sym (c.as_slice.ensures.value ∙ c.in_ok-half.ensures))
    (power_in k A law c.args.x.now (c.args.e / 2) c.requires.x_in)

pub mul-requires-clause-b_in : goal.mul-requires-clause-b_in
mul-requires-clause-b_in g t c =
    let k = g.K.SmallField.field c.args.k.now in
    let A = g.A.FiniteAlgebra.algebra c.args.a.now in
    let law = g.A.FiniteAlgebra.laws c.args.a.now k c.requires.over in
    subst (IsVector k.ops A.size) (sym (c.as_slice-2.ensures.value ∙ c.in_ok-half.ensures))
    (power_in k A law c.args.x.now (c.args.e / 2) c.requires.x_in)

pub returns-then-e-eq0 : goal.returns-then-e-eq0
returns-then-e-eq0 g t c =
    let k = g.K.SmallField.field c.args.k.now in
    let A = g.A.FiniteAlgebra.algebra c.args.a.now in
    let law = g.A.FiniteAlgebra.laws c.args.a.now k c.requires.over in
    c.in_ok-square.ensures
    ∙ ap₂ (A.product k.ops) (c.as_slice.ensures.value ∙ c.in_ok-half.ensures)
    (c.as_slice-2.ensures.value ∙ c.in_ok-half.ensures)
    ∙ power_even k A law c.args.x.now c.args.e c.requires.x_in c.if-e-eq0.true

pub mul-requires-2-clause-b_in : goal.mul-requires-2-clause-b_in
mul-requires-2-clause-b_in g t c =
    let k = g.K.SmallField.field c.args.k.now in
    let A = g.A.FiniteAlgebra.algebra c.args.a.now in
    let law = g.A.FiniteAlgebra.laws c.args.a.now k c.requires.over in
    let half = power_in k A law c.args.x.now (c.args.e / 2) c.requires.x_in in
    subst (IsVector k.ops A.size)
    (sym (c.as_slice-3.ensures.value ∙ c.in_ok-square.ensures
    ∙ ap₂ (A.product k.ops) (c.as_slice.ensures.value ∙ c.in_ok-half.ensures)
    (c.as_slice-2.ensures.value ∙ c.in_ok-half.ensures)))
    (law.product_in _ _ half half)

pub returns : goal.returns
returns g t c =
    let k = g.K.SmallField.field c.args.k.now in
    let A = g.A.FiniteAlgebra.algebra c.args.a.now in
    let law = g.A.FiniteAlgebra.laws c.args.a.now k c.requires.over in
    IfOk-weaker c.mul-2.result _ _ (λ v e. e
    ∙ ap (A.product k.ops c.args.x.now) (c.as_slice-3.ensures.value ∙ c.in_ok-square.ensures
    ∙ ap₂ (A.product k.ops) (c.as_slice.ensures.value ∙ c.in_ok-half.ensures)
    (c.as_slice-2.ensures.value ∙ c.in_ok-half.ensures))
    ∙ power_odd k A law c.args.x.now c.args.e c.requires.x_in c.if-e-eq0.false) c.mul-2.ensures
