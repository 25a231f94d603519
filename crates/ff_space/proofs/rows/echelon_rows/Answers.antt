use Rattle.std.proofs.Common.{subst, sym}
use Rattle.std.proofs.lemmas.Result.{IfOk-weaker}
use Rattle.ff_space.specs.Steps.{IsEchelonBasisOf}
use Rattle.ff_space.proofs.RowLists.{first_is_basis, own_shape, rank_within}
use Rattle.ff_space.proofs.rows.echelon_rows.Goals as goal

pub first_rows-requires-clause-within : goal.first_rows-requires-clause-within
first_rows-requires-clause-within g c =
    rank_within (g.K.SmallField.field c.args.k.now) c.echelon-rank.new.a c.echelon-rank.result
    c.echelon-rank.ensures.reduced

pub first_rows-requires-clause-shape : goal.first_rows-requires-clause-shape
first_rows-requires-clause-shape g c = own_shape c.echelon-rank.new.a _ _ c.echelon-rank.ensures.shape

pub returns : goal.returns
returns g c =
    let k = g.K.SmallField.field c.args.k.now in
    IfOk-weaker c.first_rows.result _ _
    (λ r r_is.
    subst (IsEchelonBasisOf k c.args.m) (sym r_is)
    (first_is_basis k c.echelon-rank.new.a c.echelon-rank.result
    (own_shape c.echelon-rank.new.a _ _ c.echelon-rank.ensures.shape)
    c.echelon-rank.ensures.over c.echelon-rank.ensures.reduced c.args.m c.echelon-rank.ensures.shape.col_count
    c.echelon-rank.ensures.row_space))
    c.first_rows.ensures
