use Rattle.std.proofs.Common.{ℕ, List, [], ◌∷◌, ◌<◌, length, subst, sym, All, ◌∙◌, arith}
use Rattle.std.proofs.lemmas.List.{length-map}
use Rattle.ff_fields.specs.Over.{IsOver}
use Rattle.ff_poly.specs.Popov.{rows_of, IsRow}
use Rattle.ff_lattice.specs.Steps.{IsNext, IsRowMultiplier}
use Rattle.ff_lattice.proofs.Pushes.{read_all, read_row}
use Rattle.ff_lattice.proofs.Annihilators.{next_more, next_all, least_multiplier_is}
use Rattle.ff_lattice.proofs.multipliers.least_multiplier.Goals as goal

pub row_multiplier-requires-clause-row_in : goal.row_multiplier-requires-clause-row_in
row_multiplier-requires-clause-row_in g c =
    let k = g.K.SmallField.field c.args.k.now in
    subst (All (IsOver k.ops)) (sym c.deref.ensures.value)
    (read_all (IsRow k.ops c.args.n) c.args.rows.now c.loop-row.row-index c.row-item.result c.requires.rows_in
    c.loop-row-test.true c.row-item.is).over

pub loop-row-preserved : goal.loop-row-preserved
loop-row-preserved g c =
    let k = g.K.SmallField.field c.args.k.now in
    let less : c.loop-row.row-index < length (rows_of c.args.rows.now) = omega
    (arith, length-map c.args.rows.now (λ v. v.items)) in
    next_more k (1 ∷ []) c.loop-row.h c.in_ok-h-2.h (λ u row. IsRowMultiplier k.ops c.args.e.now row u)
    (rows_of c.args.rows.now) c.loop-row.row-index [] less c.loop-row.invariant
    (subst (λ row. IsNext k.ops c.loop-row.h (IsRowMultiplier k.ops c.args.e.now row) c.in_ok-h-2.h)
    (c.deref.ensures.value ∙ read_row c.args.rows.now c.loop-row.row-index c.row-item.result c.loop-row-test.true
    c.row-item.is) c.in_ok-h-2.ensures)

pub returns : goal.returns
returns g c =
    let k = g.K.SmallField.field c.args.k.now in
    least_multiplier_is k (rows_of c.args.rows.now) c.args.e.now c.loop-row.h
    (next_all k (1 ∷ []) c.loop-row.h (λ (u : List ℕ) (row : List (List ℕ)). IsRowMultiplier k.ops c.args.e.now row u)
    (rows_of c.args.rows.now) c.loop-row.row-index (omega (arith, length-map c.args.rows.now (λ v. v.items)))
    c.loop-row.invariant)
