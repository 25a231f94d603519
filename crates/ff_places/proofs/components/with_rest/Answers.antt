use Rattle.std.proofs.Common.{◌≡◌, ◌↔◌, [], ◌∷◌, ◌++◌, All, ap, ◌∙◌, subst, sym}
use Rattle.std.specs.Prelude.{IfOk}
use Rattle.function_field.specs.Values.{PresValue, IsElem, Functions, function_of}
use Rattle.ff_falg.specs.Algebras.{IsVector}
use Rattle.ff_lattice.specs.Lattices.{IsLatticeValue, Contains, InSpanOf, IsFullLattice, row_elems}
use Rattle.ff_lattice.specs.Quotients.{dimension, lifted}
use Rattle.ff_lattice.proofs.Results.{members_through}
use Rattle.ff_ideal.proofs.Denominators.{with_elems, with_full}
use Rattle.ff_places.proofs.ComponentSets.{rest_vector, with_one_more}
use Rattle.ff_places.proofs.components.with_rest.Goals as goal

pub lift-requires-clause-a_in : goal.lift-requires-clause-a_in
lift-requires-clause-a_in g c =
    let k = g.K.SmallField.field c.args.k.now in
    let q = c.args.q.now in
    subst (IsVector k.ops (dimension q)) (sym (c.as_slice.ensures.value ∙ c.in_ok-codes.ensures))
    (rest_vector k q c.requires.over.quotient c.args.ideal.now c.requires.ideal c.args.e.now c.requires.e_in)

pub spanned-requires-clause-gens_in : goal.spanned-requires-clause-gens_in
spanned-requires-clause-gens_in g c =
    let k = g.K.SmallField.field c.args.k.now in
    let q = c.args.q.now in
    let l = c.args.ideal.now in
    let z = c.in_ok-lift.field-0 in
    let is : c.deref.result.now ≡ row_elems l ++ z ∷ []
    = c.deref.ensures.value ∙ c.in_ok-push.ensures.items
    ∙ ap (λ xs. xs ++ z ∷ []) (c.in_ok-push_rows.ensures.all ∙ ap (λ xs. xs ++ row_elems l) c.new-gens.ensures.items) in
    subst (λ (p : PresValue). All (IsElem k.ops p.n) c.deref.result.now) (sym c.p-2.ensures)
    (subst (All (IsElem k.ops q.p.n)) (sym is)
    (with_elems k q.p l c.requires.ideal.ideal.lattice z c.in_ok-lift.ensures.in_range))

pub spanned-requires-clause-full : goal.spanned-requires-clause-full
spanned-requires-clause-full g c =
    let k = g.K.SmallField.field c.args.k.now in
    let q = c.args.q.now in
    let l = c.args.ideal.now in
    let z = c.in_ok-lift.field-0 in
    let is : c.deref.result.now ≡ row_elems l ++ z ∷ []
    = c.deref.ensures.value ∙ c.in_ok-push.ensures.items
    ∙ ap (λ xs. xs ++ z ∷ []) (c.in_ok-push_rows.ensures.all ∙ ap (λ xs. xs ++ row_elems l) c.new-gens.ensures.items) in
    subst (λ p. IsFullLattice k p (InSpanOf k p c.deref.result.now)) (sym c.p-2.ensures)
    (subst (λ gens. IsFullLattice k q.p (InSpanOf k q.p gens)) (sym is)
    (with_full k q.p l c.requires.ideal.ideal.lattice z c.requires.over.quotient.frame.positive))

pub returns-clause-form : goal.returns-clause-form
returns-clause-form g c =
    let k = g.K.SmallField.field c.args.k.now in
    subst (λ (p : PresValue). IfOk c.spanned.result (IsLatticeValue k.ops p.n)) c.p-2.ensures c.spanned.ensures.form

pub returns-clause-members : goal.returns-clause-members
returns-clause-members g c =
    let k = g.K.SmallField.field c.args.k.now in
    let q = c.args.q.now in
    let l = c.args.ideal.now in
    let z = c.in_ok-lift.field-0 in
    let codes_are = c.as_slice.ensures.value ∙ c.in_ok-codes.ensures in
    let is : c.deref.result.now ≡ row_elems l ++ z ∷ []
    = c.deref.ensures.value ∙ c.in_ok-push.ensures.items
    ∙ ap (λ xs. xs ++ z ∷ []) (c.in_ok-push_rows.ensures.all ∙ ap (λ xs. xs ++ row_elems l) c.new-gens.ensures.items) in
    members_through k q.p c.spanned.result
    (with_one_more k q l c.deref.result.now z _ is
    (c.in_ok-lift.ensures.lifted ∙ ap (λ a. function_of k q.p (lifted k.ops q a)) codes_are))
    (subst
    (λ (p : PresValue). IfOk c.spanned.result
    (λ l. (z : Functions k p) → Contains k p l z ↔ InSpanOf k p c.deref.result.now z))
    c.p-2.ensures c.spanned.ensures.members)
