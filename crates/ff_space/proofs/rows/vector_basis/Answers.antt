use Rattle.std.proofs.Common.{◌≡◌, ◌*◌, ◌∙◌, length, ap, ap₂, subst, sym, rules}
use Rattle.ff_linalg.specs.Matrix.{HasShape, IsMatrixOver, rows_in}
use Rattle.ff_space.specs.Steps.{vector_rows}
use Rattle.ff_space.proofs.VectorLists.{rows_long, rows_over, rows_shape}
use Rattle.ff_space.proofs.rows.vector_basis.Goals as goal

pub matrix_of-requires : goal.matrix_of-requires
matrix_of-requires g c =
    let k = g.K.SmallField.field c.args.k.now in
    let cols_is : c.in_ok-cols.cols ≡ c.args.n * c.args.width = search rules in
    ap length (c.as_slice.ensures.value ∙ c.in_ok-codes.ensures)
    ∙ rows_long k c.args.width c.args.n c.args.count c.args.num.now c.requires.count c.requires.short
    ∙ ap (λ m. c.args.count * m) (sym cols_is)

pub echelon_rows-requires-clause-over : goal.echelon_rows-requires-clause-over
echelon_rows-requires-clause-over g c =
    let k = g.K.SmallField.field c.args.k.now in
    let cols_is : c.in_ok-cols.cols ≡ c.args.n * c.args.width = search rules in
    let m_is : c.in_ok-m.m ≡ vector_rows c.args.num.now c.args.count c.args.n c.args.width
    = c.in_ok-m.ensures
    ∙ ap₂ (λ m v. record { cols = m; rows = rows_in m c.args.count v }) cols_is
    (c.as_slice.ensures.value ∙ c.in_ok-codes.ensures) in
    subst (IsMatrixOver k.ops) (sym m_is)
    (rows_over k c.args.width c.args.n c.args.count c.args.num.now c.requires.over)

pub echelon_rows-requires-clause-shape : goal.echelon_rows-requires-clause-shape
echelon_rows-requires-clause-shape g c =
    let k = g.K.SmallField.field c.args.k.now in
    let cols_is : c.in_ok-cols.cols ≡ c.args.n * c.args.width = search rules in
    let m_is : c.in_ok-m.m ≡ vector_rows c.args.num.now c.args.count c.args.n c.args.width
    = c.in_ok-m.ensures
    ∙ ap₂ (λ m v. record { cols = m; rows = rows_in m c.args.count v }) cols_is
    (c.as_slice.ensures.value ∙ c.in_ok-codes.ensures) in
    subst (λ m. HasShape m (length m.rows) m.cols) (sym m_is)
    (rows_shape k c.args.width c.args.n c.args.count c.args.num.now c.requires.count c.requires.short)
