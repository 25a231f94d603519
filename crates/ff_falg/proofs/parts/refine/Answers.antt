use Rattle.std.proofs.Common.{take, arith, refl, sym, ◌∙◌, subst}
use Rattle.std.proofs.lemmas.List.{take_all}
use Rattle.ff_linalg.specs.Matrix.{matrix_row}
use Rattle.ff_falg.specs.Algebras.{IsVector, IsFixedVector, IsIdempotentVector}
use Rattle.ff_falg.specs.Relations.{IsBounded}
use Rattle.ff_falg.specs.Splits.{IsSplitOnto}
use Rattle.ff_falg.specs.Idempotents.{elements_of}
use Rattle.ff_falg.proofs.parts.refine.Goals as goal
use Rattle.ff_falg.proofs.RefineSteps.{basis_row, basis_fixed, member_at, elements_more, relation_bound}
use Rattle.ff_falg.proofs.Splittings.{IsRefined, refined_step, refined_end}

pub split-requires-clause-x_in : goal.split-requires-clause-x_in
split-requires-clause-x_in g c =
    let k = g.K.SmallField.field c.args.k.now in
    let A = g.A.FiniteAlgebra.algebra c.args.a.now in
    let law = g.A.FiniteAlgebra.laws c.args.a.now k c.requires.over in
    subst (IsVector k.ops A.size) (sym c.row.ensures)
    (basis_row k A law c.args.basis.now c.requires.basis c.args.i c.requires.within)

pub split-requires-clause-fixed : goal.split-requires-clause-fixed
split-requires-clause-fixed g c =
    let k = g.K.SmallField.field c.args.k.now in
    let A = g.A.FiniteAlgebra.algebra c.args.a.now in
    let law = g.A.FiniteAlgebra.laws c.args.a.now k c.requires.over in
    subst (IsFixedVector k.ops A) (sym c.row.ensures)
    (basis_fixed k A law c.args.basis.now c.requires.basis c.args.i c.requires.within)

pub split-requires-clause-idempotent : goal.split-requires-clause-idempotent
split-requires-clause-idempotent g c =
    let k = g.K.SmallField.field c.args.k.now in
    let A = g.A.FiniteAlgebra.algebra c.args.a.now in
    let law = g.A.FiniteAlgebra.laws c.args.a.now k c.requires.over in
    subst (IsIdempotentVector k.ops A) (sym c.as_slice.ensures.value)
    (member_at k A law c.args.parts.now c.loop-e.e-index c.e-item.result c.e-item.is (omega arith)
    c.requires.splitting.orthogonal).0

pub split-requires-clause-nonzero : goal.split-requires-clause-nonzero
split-requires-clause-nonzero g c =
    let k = g.K.SmallField.field c.args.k.now in
    let A = g.A.FiniteAlgebra.algebra c.args.a.now in
    let law = g.A.FiniteAlgebra.laws c.args.a.now k c.requires.over in
    λ z. (member_at k A law c.args.parts.now c.loop-e.e-index c.e-item.result c.e-item.is (omega arith)
    c.requires.splitting.orthogonal).1
    (sym c.as_slice.ensures.value ∙ z)

pub split-requires-clause-bounded : goal.split-requires-clause-bounded
split-requires-clause-bounded g c =
    let k = g.K.SmallField.field c.args.k.now in
    let A = g.A.FiniteAlgebra.algebra c.args.a.now in
    let law = g.A.FiniteAlgebra.laws c.args.a.now k c.requires.over in
    let e = member_at k A law c.args.parts.now c.loop-e.e-index c.e-item.result c.e-item.is (omega arith)
    c.requires.splitting.orthogonal in
    subst (λ x. IsBounded k.ops A x c.as_slice.result.now c.rows.result) (sym c.row.ensures)
    (subst (λ y. IsBounded k.ops A (matrix_row c.args.basis.now c.args.i) y c.rows.result) (sym c.as_slice.ensures.value)
    (subst (IsBounded k.ops A (matrix_row c.args.basis.now c.args.i) c.e-item.result.items) (sym c.rows.ensures)
    (relation_bound k A law c.args.basis.now c.requires.basis c.args.i c.e-item.result.items c.requires.within e.0
    e.1)))

pub loop-e-preserved : goal.loop-e-preserved
loop-e-preserved g c =
    let k = g.K.SmallField.field c.args.k.now in
    let A = g.A.FiniteAlgebra.algebra c.args.a.now in
    let law' = g.A.FiniteAlgebra.laws c.args.a.now k c.requires.over in
    let e = member_at k A law' c.args.parts.now c.loop-e.e-index c.e-item.result c.e-item.is (omega arith)
    c.requires.splitting.orthogonal in
    λ law x_in.
    subst (λ es. IsRefined k A law (matrix_row c.args.basis.now c.args.i, x_in) es (elements_of c.split.new.out.items))
    (sym (elements_more k A law c.args.parts.now c.loop-e.e-index c.e-item.result c.e-item.is (omega arith)))
    (refined_step k A law (matrix_row c.args.basis.now c.args.i, x_in)
    (elements_of (take c.loop-e.e-index c.args.parts.now)) (elements_of c.loop-e.out.items)
    c.e-item.result.items (elements_of c.split.new.out.items) e.0.vector
    (subst (λ y. IsSplitOnto k.ops A (matrix_row c.args.basis.now c.args.i) y (elements_of c.loop-e.out.items)
    (elements_of c.split.new.out.items))
    c.as_slice.ensures.value
    (subst (λ x. IsSplitOnto k.ops A x c.as_slice.result.now (elements_of c.loop-e.out.items)
    (elements_of c.split.new.out.items))
    c.row.ensures c.in_ok-split.ensures))
    (c.loop-e.invariant law x_in))

pub returns : goal.returns
returns g c =
    let k = g.K.SmallField.field c.args.k.now in
    let A = g.A.FiniteAlgebra.algebra c.args.a.now in
    let law = g.A.FiniteAlgebra.laws c.args.a.now k c.requires.over in
    let x_in = basis_row k A law c.args.basis.now c.requires.basis c.args.i c.requires.within in
    refined_end k A law c.args.basis.now c.args.i (elements_of c.args.parts.now) (elements_of c.loop-e.out.items)
    (λ l le. basis_row k A law c.args.basis.now c.requires.basis l (let w = c.requires.within in omega arith))
    (matrix_row c.args.basis.now c.args.i, x_in) refl c.requires.splitting
    (subst (λ ps. IsRefined k A law (matrix_row c.args.basis.now c.args.i, x_in) (elements_of ps)
    (elements_of c.loop-e.out.items))
    (take_all c.loop-e.e-index c.args.parts.now (omega arith)) (c.loop-e.invariant law x_in))
