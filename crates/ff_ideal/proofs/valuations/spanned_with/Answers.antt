use Rattle.std.proofs.Common.{◌≡◌, ◌↔◌, [], ◌∷◌, ◌++◌, All, ap, ap₂, ◌∙◌, subst, sym}
use Rattle.std.specs.Prelude.{IfOk}
use Rattle.function_field.specs.Values.{IsElem, Functions, function_of}
use Rattle.ff_lattice.specs.Lattices.{LatticeValue, Contains, InSpanOf, IsFullLattice, row_elems}
use Rattle.ff_lattice.proofs.Results.{ok_through}
use Rattle.ff_ideal.proofs.Denominators.{with_elems, with_full, with_member}
use Rattle.ff_ideal.proofs.valuations.spanned_with.Goals as goal

pub spanned-requires-clause-gens_in : goal.spanned-requires-clause-gens_in
spanned-requires-clause-gens_in g c =
    let k = g.K.SmallField.field c.args.k.now in
    let p = c.args.p.now in
    let o = c.args.o.now in
    let z = c.args.z.now in
    let is : c.deref.result.now ≡ row_elems o ++ z ∷ []
    = c.deref.ensures.value ∙ c.in_ok-push.ensures.items
    ∙ ap (λ xs. xs ++ c.in_ok-copy.field-0 ∷ []) (c.in_ok-push_rows.ensures.all
    ∙ ap (λ xs. xs ++ row_elems c.lattice.result.now) c.new-gens.ensures.items)
    ∙ ap₂ (λ (x : LatticeValue) y. row_elems x ++ y ∷ []) c.lattice.ensures c.in_ok-copy.ensures in
    subst (All (IsElem k.ops p.n)) (sym is) (with_elems k p o c.requires.order.lattice z c.requires.z_in)

pub spanned-requires-clause-full : goal.spanned-requires-clause-full
spanned-requires-clause-full g c =
    let k = g.K.SmallField.field c.args.k.now in
    let p = c.args.p.now in
    let o = c.args.o.now in
    let z = c.args.z.now in
    let is : c.deref.result.now ≡ row_elems o ++ z ∷ []
    = c.deref.ensures.value ∙ c.in_ok-push.ensures.items
    ∙ ap (λ xs. xs ++ c.in_ok-copy.field-0 ∷ []) (c.in_ok-push_rows.ensures.all
    ∙ ap (λ xs. xs ++ row_elems c.lattice.result.now) c.new-gens.ensures.items)
    ∙ ap₂ (λ (x : LatticeValue) y. row_elems x ++ y ∷ []) c.lattice.ensures c.in_ok-copy.ensures in
    subst (λ gens. IsFullLattice k p (InSpanOf k p gens)) (sym is)
    (with_full k p o c.requires.order.lattice z c.n-degree.ensures.range.positive)

pub returns-clause-member : goal.returns-clause-member
returns-clause-member g c =
    let k = g.K.SmallField.field c.args.k.now in
    let p = c.args.p.now in
    let o = c.args.o.now in
    let z = c.args.z.now in
    let is : c.deref.result.now ≡ row_elems o ++ z ∷ []
    = c.deref.ensures.value ∙ c.in_ok-push.ensures.items
    ∙ ap (λ xs. xs ++ c.in_ok-copy.field-0 ∷ []) (c.in_ok-push_rows.ensures.all
    ∙ ap (λ xs. xs ++ row_elems c.lattice.result.now) c.new-gens.ensures.items)
    ∙ ap₂ (λ (x : LatticeValue) y. row_elems x ++ y ∷ []) c.lattice.ensures c.in_ok-copy.ensures in
    ok_through c.spanned.result
    (λ l h. (h (function_of k p z)).1 (with_member k p o c.requires.order.lattice z))
    (subst (λ gens. IfOk c.spanned.result (λ l. (u : Functions k p) → Contains k p l u ↔ InSpanOf k p gens u)) is
    c.spanned.ensures.members)
