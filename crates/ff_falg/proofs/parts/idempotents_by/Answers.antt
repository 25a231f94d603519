use Rattle.std.proofs.Common.{arith, sym, ap, ◌∙◌, subst}
use Rattle.std.proofs.lemmas.List.Sorted.{IsPermutation-map}
use Rattle.ff_falg.specs.Idempotents.{elements_of, IsPrimitiveList}
use Rattle.ff_falg.proofs.parts.idempotents_by.Goals as goal
use Rattle.ff_falg.proofs.RefineSteps.{basis_some}
use Rattle.ff_falg.proofs.Sorting.{reordered, ascending}
use Rattle.ff_falg.proofs.PrimitiveLists.{distinct_lists, primitive_list, none_list}

pub returns-then-rows-eq0 : goal.returns-then-rows-eq0
returns-then-rows-eq0 g c =
    let k = g.K.SmallField.field c.args.k.now in
    let A = g.A.FiniteAlgebra.algebra c.args.a.now in
    let law = g.A.FiniteAlgebra.laws c.args.a.now k c.requires.over in
    subst (IsPrimitiveList k.ops A) (ap elements_of (sym c.new.ensures.items))
    (none_list k A law c.args.basis.now c.requires.basis (sym c.rows.ensures ∙ c.if-rows-eq0.true))

pub returns : goal.returns
returns g c =
    let k = g.K.SmallField.field c.args.k.now in
    let A = g.A.FiniteAlgebra.algebra c.args.a.now in
    let law = g.A.FiniteAlgebra.laws c.args.a.now k c.requires.over in
    let some = basis_some k A law c.args.basis.now c.requires.basis
    (let r = c.rows.ensures in let n = c.if-rows-eq0.false in omega arith) in
    let es = elements_of c.in_ok-parts.parts.items in
    let ts = elements_of c.sort.new.self.items in
    let r = reordered es ts (distinct_lists k A law c.args.basis.now c.requires.basis some es c.in_ok-parts.ensures)
    (IsPermutation-map (λ v. v.items) _ _ c.in_ok-sort.ensures.permutation) in
    primitive_list k A law c.args.basis.now c.requires.basis some es c.in_ok-parts.ensures ts r
    (ascending c.sort.new.self.items c.in_ok-sort.ensures.sorted r.distinct)
