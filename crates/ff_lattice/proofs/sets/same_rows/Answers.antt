use Rattle.std.proofs.Common.{◌≡◌, ◌<◌, length, false, true, refl, sym, ap, ◌∙◌, arith}
use Rattle.std.proofs.lemmas.List.{length-map}
use borrow.Author.Count.{below_more}
use Rattle.ff_poly.specs.Popov.{rows_of, row_at}
use Rattle.ff_lattice.proofs.Pushes.{read_row}
use Rattle.ff_lattice.proofs.RowLists.{same_lists}
use Rattle.ff_lattice.proofs.sets.same_rows.Goals as goal

pub returns-then-not-same_row : goal.returns-then-not-same_row
returns-then-not-same_row c =
    let w_less : c.loop-i.i < length c.args.ws.now = omega arith in
    let v = c.deref.ensures.value ∙ read_row c.args.vs.now c.loop-i.i c.index-vs-i.result c.loop-i-test.true
    c.index-vs-i.is in
    let w = c.deref-in-loop-i.ensures.value
    ∙ read_row c.args.ws.now c.loop-i.i c.index-ws-i.result w_less c.index-ws-i.is in (
      λ t. let no : false ≡ true = t in (cc),
      λ same. sym c.if-not-same_row.true
          ∙ c.same_row.ensures.1 (v ∙ ap (λ xs. row_at xs c.loop-i.i) same ∙ sym w),
    )

pub loop-i-preserved : goal.loop-i-preserved
loop-i-preserved c =
    let w_less : c.loop-i.i < length c.args.ws.now = omega arith in
    let v = c.deref.ensures.value ∙ read_row c.args.vs.now c.loop-i.i c.index-vs-i.result c.loop-i-test.true
    c.index-vs-i.is in
    let w = c.deref-in-loop-i.ensures.value
    ∙ read_row c.args.ws.now c.loop-i.i c.index-ws-i.result w_less c.index-ws-i.is in
    below_more (λ m. row_at (rows_of c.args.vs.now) m ≡ row_at (rows_of c.args.ws.now) m) c.loop-i.i c.loop-i.invariant
    (sym v ∙ c.same_row.ensures.0 c.if-not-same_row.false ∙ w)

pub returns : goal.returns
returns c =
    let size : length (rows_of c.args.vs.now)
    ≡ length (rows_of c.args.ws.now) = omega
    (arith, length-map c.args.vs.now (λ v. v.items), length-map c.args.ws.now (λ v. v.items)) in (
      λ _. same_lists (rows_of c.args.vs.now) (rows_of c.args.ws.now) size
          (λ j less. c.loop-i.invariant j (omega (arith, less, length-map c.args.vs.now (λ v. v.items)))),
      λ _. refl,
    )
