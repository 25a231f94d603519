use Rattle.std.proofs.Common.{◌≡◌, ◌↔◌, ◌++◌, subst, sym, ap, All, ◌∙◌}
use Rattle.std.specs.Prelude.{IfOk}
use Rattle.std.proofs.lemmas.List.Elements.{All-append}
use Rattle.function_field.specs.Values.{IsElem, Functions}
use Rattle.ff_lattice.specs.Lattices.{row_elems, IsFullLattice, InSpanOf, Contains}
use Rattle.ff_lattice.proofs.Results.{members_through}
use Rattle.ff_lattice.proofs.SpannedSets.{lattice_full}
use Rattle.ff_lattice.proofs.SumsAndProducts.{rows_elems, sum_iff, sum_full}
use Rattle.ff_lattice.proofs.operations.sum.Goals as goal

pub spanned-requires-clause-gens_in : goal.spanned-requires-clause-gens_in
spanned-requires-clause-gens_in g c =
    let k = g.K.SmallField.field c.args.k.now in
    let p = c.args.p.now in
    let a = c.args.a.now in
    let b = c.args.b.now in
    let is : c.deref.result.now ≡ row_elems a ++ row_elems b
    = c.deref.ensures.value ∙ c.in_ok-push_rows-2.ensures.all
    ∙ ap (λ xs. xs ++ row_elems b) (c.in_ok-push_rows.ensures.all
    ∙ ap (λ xs. xs ++ row_elems a) c.in_ok-gens.ensures.items) in
    subst (All (IsElem k.ops p.n)) (sym is)
    (All-append (IsElem k.ops p.n) (row_elems a) (row_elems b) (rows_elems k p.n a c.requires.a_form)
    (rows_elems k p.n b c.requires.b_form))

pub spanned-requires-clause-full : goal.spanned-requires-clause-full
spanned-requires-clause-full g c =
    let k = g.K.SmallField.field c.args.k.now in
    let p = c.args.p.now in
    let a = c.args.a.now in
    let b = c.args.b.now in
    let is : c.deref.result.now ≡ row_elems a ++ row_elems b
    = c.deref.ensures.value ∙ c.in_ok-push_rows-2.ensures.all
    ∙ ap (λ xs. xs ++ row_elems b) (c.in_ok-push_rows.ensures.all
    ∙ ap (λ xs. xs ++ row_elems a) c.in_ok-gens.ensures.items) in
    subst (λ gens. IsFullLattice k p (InSpanOf k p gens)) (sym is)
    (sum_full k p (row_elems a) (row_elems b) (lattice_full k p a c.n.ensures.range.positive c.requires.a_form))

pub returns-clause-members : goal.returns-clause-members
returns-clause-members g c =
    let k = g.K.SmallField.field c.args.k.now in
    let p = c.args.p.now in
    let a = c.args.a.now in
    let b = c.args.b.now in
    let is : c.deref.result.now ≡ row_elems a ++ row_elems b
    = c.deref.ensures.value ∙ c.in_ok-push_rows-2.ensures.all
    ∙ ap (λ xs. xs ++ row_elems b) (c.in_ok-push_rows.ensures.all
    ∙ ap (λ xs. xs ++ row_elems a) c.in_ok-gens.ensures.items) in
    members_through k p c.spanned.result (sum_iff k p (row_elems a) (row_elems b))
    (subst (λ gens. IfOk c.spanned.result (λ l. (z : Functions k p) → Contains k p l z ↔ InSpanOf k p gens z)) is
    c.spanned.ensures.members)
