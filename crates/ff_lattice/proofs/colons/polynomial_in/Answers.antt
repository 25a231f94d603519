use Rattle.std.proofs.Common.{◌≡◌, ◌<◌, ◌∙◌, ◌++◌, sym, ap, subst, length, get_or, [], ◌∷◌, All, arith}
use Rattle.std.proofs.lemmas.List.{length-map}
use Rattle.std.proofs.lemmas.List.Elements.{All-nil, All-cons}
use Rattle.ff_poly.specs.Popov.{rows_of, row_at, IsRow, IsPopovMatrix}
use Rattle.ff_popov.proofs.Entries.{any_default}
use Rattle.ff_lattice.specs.Lattices.{IsLatticeValue}
use Rattle.ff_lattice.specs.Colons.{one_row}
use Rattle.ff_lattice.specs.Steps.{IsPreimage}
use Rattle.ff_lattice.proofs.Pushes.{read_row}
use Rattle.ff_lattice.proofs.ColonSets.{one_row_in, polynomial_inside, polynomial_over, polynomial_monic}
use Rattle.ff_lattice.proofs.colons.polynomial_in.Goals as goal

pub preimage-requires-clause-m_in : goal.preimage-requires-clause-m_in
preimage-requires-clause-m_in g c =
    let k = g.K.SmallField.field c.args.k.now in
    let b = c.args.b.now in
    let n = c.args.n in
    let m_is : rows_of c.deref.result.now ≡ one_row n b.den ∷ []
    = ap rows_of (c.deref.ensures.value ∙ c.in_ok-push.ensures.items
    ∙ ap (λ xs. xs ++ c.in_ok-row.row ∷ []) c.new-m.ensures.items)
    ∙ ap (λ r. r ∷ []) (c.in_ok-row.ensures ∙ ap (one_row n) c.den.ensures.den) in
    subst (All (IsRow k.ops n)) (sym m_is)
    (All-cons (IsRow k.ops n) (one_row n b.den) [] (one_row_in k n b.den c.requires.b_form.den_in)
    (All-nil (IsRow k.ops n)))

pub preimage-requires-clause-popov : goal.preimage-requires-clause-popov
preimage-requires-clause-popov g c = subst (IsPopovMatrix c.args.n) (sym c.rows.ensures.rows) c.requires.b_form.popov

pub index-requires-2 : goal.index-requires-2
index-requires-2 g c =
    let k = g.K.SmallField.field c.args.k.now in
    let b = c.args.b.now in
    let n = c.args.n in
    let m_is : rows_of c.deref.result.now ≡ one_row n b.den ∷ []
    = ap rows_of (c.deref.ensures.value ∙ c.in_ok-push.ensures.items
    ∙ ap (λ xs. xs ++ c.in_ok-row.row ∷ []) c.new-m.ensures.items)
    ∙ ap (λ r. r ∷ []) (c.in_ok-row.ensures ∙ ap (one_row n) c.den.ensures.den) in
    let size : length c.deref.result.now ≡ 1 = sym (length-map c.deref.result.now (λ v. v.items)) ∙ ap length m_is in
    let basis = rows_of c.in_ok-basis.basis.items in
    let pre : IsPreimage k.ops 1 n (one_row n b.den ∷ []) b.rows basis
    = subst (λ r. IsPreimage k.ops r n (one_row n b.den ∷ []) b.rows basis) size
    (subst (λ xs. IsPreimage k.ops (length c.deref.result.now) n xs b.rows basis) m_is
    (subst (λ ys. IsPreimage k.ops (length c.deref.result.now) n (rows_of c.deref.result.now) ys basis)
    c.rows.ensures.rows c.in_ok-basis.ensures)) in
    let some : 0 < length c.in_ok-basis.basis.items = omega
    (arith, pre.popov.size, length-map c.in_ok-basis.basis.items (λ v. v.items)) in
    let read = read_row c.in_ok-basis.basis.items 0 c.index.result.now some c.index.ensures in
    let row_size = (pre.rows_in 0 [] (omega (arith, pre.popov.size))).size in
    omega (arith, ap length read, row_size)

pub returns-clause-over : goal.returns-clause-over
returns-clause-over g c =
    let k = g.K.SmallField.field c.args.k.now in
    let b = c.args.b.now in
    let n = c.args.n in
    let m_is : rows_of c.deref.result.now ≡ one_row n b.den ∷ []
    = ap rows_of (c.deref.ensures.value ∙ c.in_ok-push.ensures.items
    ∙ ap (λ xs. xs ++ c.in_ok-row.row ∷ []) c.new-m.ensures.items)
    ∙ ap (λ r. r ∷ []) (c.in_ok-row.ensures ∙ ap (one_row n) c.den.ensures.den) in
    let size : length c.deref.result.now ≡ 1 = sym (length-map c.deref.result.now (λ v. v.items)) ∙ ap length m_is in
    let basis = rows_of c.in_ok-basis.basis.items in
    let pre : IsPreimage k.ops 1 n (one_row n b.den ∷ []) b.rows basis
    = subst (λ r. IsPreimage k.ops r n (one_row n b.den ∷ []) b.rows basis) size
    (subst (λ xs. IsPreimage k.ops (length c.deref.result.now) n xs b.rows basis) m_is
    (subst (λ ys. IsPreimage k.ops (length c.deref.result.now) n (rows_of c.deref.result.now) ys basis)
    c.rows.ensures.rows c.in_ok-basis.ensures)) in
    let some : 0 < length c.in_ok-basis.basis.items = omega
    (arith, pre.popov.size, length-map c.in_ok-basis.basis.items (λ v. v.items)) in
    let read = read_row c.in_ok-basis.basis.items 0 c.index.result.now some c.index.ensures in
    let row_size = (pre.rows_in 0 [] (omega (arith, pre.popov.size))).size in
    let h_is = c.in_ok-h.ensures ∙ c.index-2.ensures ∙ ap (λ row. get_or row 0 c.index-2.result.now) read
    ∙ any_default (row_at basis 0) 0 c.index-2.result.now [] (omega (arith, row_size)) in
    polynomial_over k n (one_row n b.den ∷ []) b.rows basis pre c.in_ok-h.h h_is

pub returns-clause-monic : goal.returns-clause-monic
returns-clause-monic g c =
    let k = g.K.SmallField.field c.args.k.now in
    let b = c.args.b.now in
    let n = c.args.n in
    let m_is : rows_of c.deref.result.now ≡ one_row n b.den ∷ []
    = ap rows_of (c.deref.ensures.value ∙ c.in_ok-push.ensures.items
    ∙ ap (λ xs. xs ++ c.in_ok-row.row ∷ []) c.new-m.ensures.items)
    ∙ ap (λ r. r ∷ []) (c.in_ok-row.ensures ∙ ap (one_row n) c.den.ensures.den) in
    let size : length c.deref.result.now ≡ 1 = sym (length-map c.deref.result.now (λ v. v.items)) ∙ ap length m_is in
    let basis = rows_of c.in_ok-basis.basis.items in
    let pre : IsPreimage k.ops 1 n (one_row n b.den ∷ []) b.rows basis
    = subst (λ r. IsPreimage k.ops r n (one_row n b.den ∷ []) b.rows basis) size
    (subst (λ xs. IsPreimage k.ops (length c.deref.result.now) n xs b.rows basis) m_is
    (subst (λ ys. IsPreimage k.ops (length c.deref.result.now) n (rows_of c.deref.result.now) ys basis)
    c.rows.ensures.rows c.in_ok-basis.ensures)) in
    let some : 0 < length c.in_ok-basis.basis.items = omega
    (arith, pre.popov.size, length-map c.in_ok-basis.basis.items (λ v. v.items)) in
    let read = read_row c.in_ok-basis.basis.items 0 c.index.result.now some c.index.ensures in
    let row_size = (pre.rows_in 0 [] (omega (arith, pre.popov.size))).size in
    let h_is = c.in_ok-h.ensures ∙ c.index-2.ensures ∙ ap (λ row. get_or row 0 c.index-2.result.now) read
    ∙ any_default (row_at basis 0) 0 c.index-2.result.now [] (omega (arith, row_size)) in
    polynomial_monic k n (one_row n b.den ∷ []) b.rows basis pre c.in_ok-h.h h_is

pub returns-clause-inside : goal.returns-clause-inside
returns-clause-inside g c =
    let k = g.K.SmallField.field c.args.k.now in
    let b = c.args.b.now in
    let n = c.args.n in
    let m_is : rows_of c.deref.result.now ≡ one_row n b.den ∷ []
    = ap rows_of (c.deref.ensures.value ∙ c.in_ok-push.ensures.items
    ∙ ap (λ xs. xs ++ c.in_ok-row.row ∷ []) c.new-m.ensures.items)
    ∙ ap (λ r. r ∷ []) (c.in_ok-row.ensures ∙ ap (one_row n) c.den.ensures.den) in
    let size : length c.deref.result.now ≡ 1 = sym (length-map c.deref.result.now (λ v. v.items)) ∙ ap length m_is in
    let basis = rows_of c.in_ok-basis.basis.items in
    let pre : IsPreimage k.ops 1 n (one_row n b.den ∷ []) b.rows basis
    = subst (λ r. IsPreimage k.ops r n (one_row n b.den ∷ []) b.rows basis) size
    (subst (λ xs. IsPreimage k.ops (length c.deref.result.now) n xs b.rows basis) m_is
    (subst (λ ys. IsPreimage k.ops (length c.deref.result.now) n (rows_of c.deref.result.now) ys basis)
    c.rows.ensures.rows c.in_ok-basis.ensures)) in
    let some : 0 < length c.in_ok-basis.basis.items = omega
    (arith, pre.popov.size, length-map c.in_ok-basis.basis.items (λ v. v.items)) in
    let read = read_row c.in_ok-basis.basis.items 0 c.index.result.now some c.index.ensures in
    let row_size = (pre.rows_in 0 [] (omega (arith, pre.popov.size))).size in
    let h_is = c.in_ok-h.ensures ∙ c.index-2.ensures ∙ ap (λ row. get_or row 0 c.index-2.result.now) read
    ∙ any_default (row_at basis 0) 0 c.index-2.result.now [] (omega (arith, row_size)) in
    λ p n_is.
    polynomial_inside k p b (subst (λ n. 0 < n) (sym n_is) c.requires.positive)
    (subst (λ n. IsLatticeValue k.ops n b) (sym n_is) c.requires.b_form) basis
    (subst (λ n. IsPreimage k.ops 1 n (one_row n b.den ∷ []) b.rows basis) (sym n_is) pre) c.in_ok-h.h h_is
