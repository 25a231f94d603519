use Rattle.std.proofs.Common.{◌-◌, length, arith, sym, ap, ◌∙◌, subst}
use Rattle.std.proofs.lemmas.Result.{IfOk-weaker}
use Rattle.ff_linalg.specs.Matrix.{matrix_row}
use Rattle.ff_falg.specs.Algebras.{IsVector}
use Rattle.ff_falg.proofs.relations.next_power.Goals as goal
use Rattle.ff_falg.proofs.RowSteps.{row_in}
use Rattle.ff_falg.proofs.PowerRows.{next_at}

pub mul-requires-clause-b_in : goal.mul-requires-clause-b_in
mul-requires-clause-b_in g c =
    let k = g.K.SmallField.field c.args.k.now in
    let A = g.A.FiniteAlgebra.algebra c.args.a.now in
    subst (IsVector k.ops A.size) (sym c.row-2.ensures)
    (row_in k c.args.powers.now (length c.args.powers.now.rows) A.size (c.args.l - 1) c.requires.before.written.shape
    c.requires.before.written.over (omega arith))

pub returns : goal.returns
returns g c =
    let k = g.K.SmallField.field c.args.k.now in
    let A = g.A.FiniteAlgebra.algebra c.args.a.now in
    let law = g.A.FiniteAlgebra.laws c.args.a.now k c.requires.over in
    let r = c.rows.ensures in
    let e_in = row_in k c.args.known.now (length c.args.known.now.rows) A.size 0 c.requires.known.written.shape
    c.requires.known.written.over c.requires.some in
    IfOk-weaker c.mul.result _ _
    (λ v e. e
    ∙ ap (A.product k.ops c.args.x.now) (c.row-2.ensures ∙ c.requires.before.written.rows (c.args.l - 1) (omega arith))
    ∙ next_at k A law c.args.x.now c.requires.x_in (matrix_row c.args.known.now 0) c.args.l e_in (omega arith))
    c.mul.ensures
