use Rattle.std.proofs.Common.{◌≡◌, ◌<◌, [], length, subst, sym, ◌∙◌, arith, false, true}
use borrow.Author.Count.{below_more}
use Rattle.ff_poly.specs.Popov.{rows_of, row_at, entry_at}
use Rattle.ff_lattice.proofs.Pushes.{read_row}
use Rattle.ff_lattice.proofs.preimage.has_zero_corner.Goals as goal

pub loop-i-preserved : goal.loop-i-preserved
loop-i-preserved c =
    let less : c.loop-i.i < length c.args.rows.now = omega arith in
    let zeros = c.is_zero_from.ensures.0 c.if-not-is_zero_from.false in
    let is = c.deref.ensures.value ∙ read_row c.args.rows.now c.loop-i.i c.index-rows-i.result less c.index-rows-i.is in
    λ m j m_less past.
    below_more (λ n. entry_at (row_at (rows_of c.args.rows.now) n) j ≡ []) c.loop-i.i
    (λ n n_less. c.loop-i.invariant n j n_less past)
    (subst (λ row. entry_at row j ≡ []) is (zeros j past)) m m_less

pub returns-then-not-is_zero_from : goal.returns-then-not-is_zero_from
returns-then-not-is_zero_from c =
    let less : c.loop-i.i < length c.args.rows.now = omega arith in
    let inside : c.loop-i.i < c.args.n = omega arith in
    let is = c.deref.ensures.value
    ∙ read_row c.args.rows.now c.loop-i.i c.index-rows-i.result less c.index-rows-i.is in (
      λ t. let no : false ≡ true = t in (cc),
      λ h.
          sym c.if-not-is_zero_from.true
          ∙ c.is_zero_from.ensures.1 (λ j past. subst (λ row. entry_at row j ≡ []) (sym is)
          (h.zero_at c.loop-i.i j inside past)),
    )
