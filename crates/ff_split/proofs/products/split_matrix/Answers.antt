use Rattle.std.proofs.Common.{subst, sym, ◌∙◌, All}
use Rattle.std.specs.Prelude.{MatchOption}
use Rattle.ff_poly.specs.Popov.{rows_of, IsRow, IsPopovMatrix, HaveSameRowSpan, HasFullRankMatrix}
use Rattle.ff_split.proofs.SpanRows.{full_rank, split_matrix_is}
use Rattle.ff_split.proofs.products.split_matrix.Goals as goal

pub popov-requires : goal.popov-requires
popov-requires g c =
    let k = g.K.SmallField.field c.args.k.now in
    subst (λ n. All (IsRow k.ops n) (rows_of c.in_ok-rows.rows.items))
    (sym (c.len.ensures ∙ c.requires.finite.popov.size)) c.in_ok-rows.ensures.spans.rows_in

pub unreachable-requires : goal.unreachable-requires
unreachable-requires g c =
    let k = g.K.SmallField.field c.args.k.now in
    let n = c.len.result in
    let rows = rows_of c.in_ok-rows.rows.items in
    let none = subst (λ f. MatchOption f (¬ HasFullRankMatrix k.ops n rows)
    (λ m. IsPopovMatrix n (rows_of m.items) × All (IsRow k.ops n) (rows_of m.items)
    × HaveSameRowSpan k.ops n rows (rows_of m.items))) c.in-None.is c.in_ok-basis.ensures in
    subst (λ n. ¬ HasFullRankMatrix k.ops n rows) (c.len.ensures ∙ c.requires.finite.popov.size) none
    (full_rank k c.args.c.now c.requires.curve c.args.fin.now c.args.inf.now c.requires.finite c.requires.infinite
    c.in_ok-rows.u rows c.in_ok-rows.ensures.over c.in_ok-rows.ensures.monic c.in_ok-rows.ensures.spans)

pub returns : goal.returns
returns g c =
    let k = g.K.SmallField.field c.args.k.now in
    let n = c.len.result in
    let rows = rows_of c.in_ok-rows.rows.items in
    let made = subst (λ f. MatchOption f (¬ HasFullRankMatrix k.ops n rows)
    (λ m. IsPopovMatrix n (rows_of m.items) × All (IsRow k.ops n) (rows_of m.items)
    × HaveSameRowSpan k.ops n rows (rows_of m.items))) c.in-Some.is c.in_ok-basis.ensures in
    split_matrix_is k c.args.c.now c.requires.curve c.args.fin.now c.args.inf.now c.requires.finite
    c.requires.infinite n c.in_ok-rows.u rows (rows_of c.in-Some.basis.items)
    (c.len.ensures ∙ c.requires.finite.popov.size) c.in_ok-rows.ensures.over c.in_ok-rows.ensures.monic
    c.in_ok-rows.ensures.spans made
