use Rattle.std.proofs.Common.{◌≡◌, ℕ, [], ◌<◌, length, sym, subst, ◌∙◌, arith, eqb-true}
use Rattle.std.specs.Prelude.{All, MatchOption}
use Rattle.std.proofs.lemmas.Bool.{eqb-false}
use Rattle.std.proofs.lemmas.List.{length-map}
use Rattle.ff_poly.specs.Popov.{rows_of, width_of, IsRow, IsPopovMatrix, HaveSameRowSpan}
use Rattle.ff_popov.specs.Rows.{IsMissing}
use Rattle.ff_popov.proofs.basis.popov.Goals as goal
use Rattle.ff_popov.proofs.FullRank.{no_rows, no_columns, found_of}

pub returns-then-width-eq0 : goal.returns-then-width-eq0
returns-then-width-eq0 g c =
    let k = g.K.SmallField.field c.args.k.now in
    let rows = rows_of c.args.rows.items in
    subst (λ vs. IsPopovMatrix c.args.width (rows_of vs) × All (IsRow k.ops c.args.width) (rows_of vs)
    × HaveSameRowSpan k.ops c.args.width rows (rows_of vs)) (sym c.new.ensures.items)
    (no_columns k c.args.width rows c.requires c.if-width-eq0.true)

pub returns-then-is_empty : goal.returns-then-is_empty
returns-then-is_empty g c =
    let none = eqb-true _ 0 (sym c.is_empty.ensures ∙ c.if-is_empty.true) in
    no_rows (g.K.SmallField.field c.args.k.now) c.args.width (rows_of c.args.rows.items) c.requires (omega arith)
    (length-map c.args.rows.items (λ v. v.items) ∙ omega (arith, none))

pub returns : goal.returns
returns g c =
    let k = g.K.SmallField.field c.args.k.now in
    let w = c.args.width in
    let rows = rows_of c.args.rows.items in
    let reduced = rows_of c.reduce_rows.new.rows.items in
    let some = eqb-false _ 0 (sym c.is_empty.ensures ∙ c.if-is_empty.false) in
    let less : 0 < length rows = omega (arith, length-map c.args.rows.items (λ v. v.items), some) in
    let same : width_of rows ≡ w = (c.requires 0 [] less).size in
    let found =
    subst (λ vs. MatchOption c.in_ok-found.found ((j : ℕ) × (j < w) × IsMissing (rows_of vs) j)
    (λ basis. IsPopovMatrix w (rows_of basis.items) × All (IsRow k.ops w) (rows_of basis.items)
    × HaveSameRowSpan k.ops w (rows_of vs) (rows_of basis.items)))
    c.deref.ensures.value c.in_ok-found.ensures in
    found_of k w rows c.requires (omega arith) reduced
    (subst (λ n. HaveSameRowSpan k.ops n rows reduced) same c.in_ok-reduce_rows.ensures.span)
    (subst (λ n. All (IsRow k.ops n) reduced) same c.in_ok-reduce_rows.ensures.rows_in)
    c.in_ok-reduce_rows.ensures.weak
    c.in_ok-found.found (λ basis. rows_of basis.items) found
