use Rattle.std.proofs.Common.{◌≡◌, ◌↔◌, ◌++◌, sym, ◌∙◌, ap, subst, All}
use Rattle.std.proofs.lemmas.List.Elements.{All-append}
use Rattle.std.specs.Prelude.{IfOk}
use Rattle.function_field.specs.Values.{PresValue, IsElem, Functions}
use Rattle.ff_lattice.specs.Lattices.{Contains, InSpanOf, IsFullLattice, row_elems}
use Rattle.ff_lattice.proofs.Results.{ok_through}
use Rattle.ff_lattice.proofs.SumsAndProducts.{rows_elems}
use Rattle.ff_order.proofs.RadicalSets.{lifts_full, radical_spanned}
use Rattle.ff_order.proofs.radicals.radical_by.Goals as goal

pub spanned-requires-clause-gens_in : goal.spanned-requires-clause-gens_in
spanned-requires-clause-gens_in g c =
    let k = g.K.SmallField.field c.args.k.now in
    let q = c.args.q.now in
    let lifts = c.in_ok-gens.gens.items in
    let is : c.deref.result.now ≡ lifts ++ row_elems q.ideal
    = c.deref.ensures.value ∙ c.in_ok-push_rows.ensures.all ∙ ap (λ l. lifts ++ row_elems l) c.ideal.ensures in
    subst (λ (p : PresValue). All (IsElem k.ops p.n) c.deref.result.now) (sym c.p-2.ensures)
    (subst (All (IsElem k.ops q.p.n)) (sym is)
    (All-append (IsElem k.ops q.p.n) lifts (row_elems q.ideal) c.in_ok-gens.ensures.elems
    (rows_elems k q.p.n q.ideal c.requires.over.quotient.frame.ideal.lattice)))

pub spanned-requires-clause-full : goal.spanned-requires-clause-full
spanned-requires-clause-full g c =
    let k = g.K.SmallField.field c.args.k.now in
    let q = c.args.q.now in
    let frame = c.requires.over.quotient.frame in
    let lifts = c.in_ok-gens.gens.items in
    let is : c.deref.result.now ≡ lifts ++ row_elems q.ideal
    = c.deref.ensures.value ∙ c.in_ok-push_rows.ensures.all ∙ ap (λ l. lifts ++ row_elems l) c.ideal.ensures in
    subst (λ p. IsFullLattice k p (InSpanOf k p c.deref.result.now)) (sym c.p-2.ensures)
    (subst (λ gens. IsFullLattice k q.p (InSpanOf k q.p gens)) (sym is)
    (lifts_full k q.p frame.positive q.order frame.order lifts q.ideal frame.ideal.lattice))

pub returns-clause-members : goal.returns-clause-members
returns-clause-members g c =
    let k = g.K.SmallField.field c.args.k.now in
    let q = c.args.q.now in
    let frame = c.requires.over.quotient.frame in
    let lifts = c.in_ok-gens.gens.items in
    let is : c.deref.result.now ≡ lifts ++ row_elems q.ideal
    = c.deref.ensures.value ∙ c.in_ok-push_rows.ensures.all ∙ ap (λ l. lifts ++ row_elems l) c.ideal.ensures in
    ok_through c.spanned.result
    (λ l members a same z.
    let m = members z in
    let r = radical_spanned k q.p frame.positive q.order frame.order a q.ideal same lifts c.in_ok-gens.ensures z in
    (λ x. r.0 (m.0 x), λ x. m.1 (r.1 x)))
    (subst (λ gens. IfOk c.spanned.result (λ l. (z : Functions k q.p) → Contains k q.p l z ↔ InSpanOf k q.p gens z)) is
    (subst
    (λ (p : PresValue). IfOk c.spanned.result
    (λ l. (z : Functions k p) → Contains k p l z ↔ InSpanOf k p c.deref.result.now z))
    c.p-2.ensures c.spanned.ensures.members))
