use Rattle.std.proofs.Common.{map, subst, sym, ap, ◌∙◌, refl, All}
use Rattle.std.proofs.lemmas.Result.{IfOk-weaker}
use Rattle.function_field.specs.Values.{IsElem, function_of}
use Rattle.ff_space.specs.Spaces.{InCodeSpan, IsPrintedSpace}
use Rattle.ff_space.proofs.LayerFunctions.{layers_functions, layers_in}
use Rattle.ff_space.proofs.PrintedBases.{printed_basis, row_elements}
use Rattle.ff_space.proofs.space.spanned.Goals as goal

pub span-requires-clause-elements : goal.span-requires-clause-elements
span-requires-clause-elements g c =
    let k = g.K.SmallField.field c.args.k.now in
    let n = c.args.p.now.n in
    subst (All (IsElem k.ops n)) (sym (c.as_slice.ensures.value ∙ c.in_ok-zs.ensures))
    (layers_in k n c.args.basis.now c.args.degrees.now c.requires.elements)

pub returns-clause-space : goal.returns-clause-space
returns-clause-space g c =
    let k = g.K.SmallField.field c.args.k.now in
    let p = c.args.p.now in
    IfOk-weaker c.span.result _ _
    (λ s h.
    subst (λ fs. IsPrintedSpace k p (InCodeSpan k p fs) s)
    (ap (map (function_of k p)) (c.as_slice.ensures.value ∙ c.in_ok-zs.ensures)
    ∙ layers_functions k p p.n c.args.basis.now c.args.degrees.now c.requires.one_each c.requires.elements) h)
    c.span.ensures

pub returns-clause-printed : goal.returns-clause-printed
returns-clause-printed g c =
    let k = g.K.SmallField.field c.args.k.now in
    let p = c.args.p.now in
    IfOk-weaker c.span.result _ _
    (λ s h. record {
      space = s;
      printed = subst (λ fs. IsPrintedSpace k p (InCodeSpan k p fs) s)
          (ap (map (function_of k p)) (c.as_slice.ensures.value ∙ c.in_ok-zs.ensures)
          ∙ layers_functions k p p.n c.args.basis.now c.args.degrees.now c.requires.one_each c.requires.elements) h;
      are = refl;
    })
    c.span.ensures

pub returns-clause-basis : goal.returns-clause-basis
returns-clause-basis g c =
    let k = g.K.SmallField.field c.args.k.now in
    let p = c.args.p.now in
    IfOk-weaker c.span.result _ _
    (λ s h.
    printed_basis k p c.requires.positive _ s
    (subst (λ fs. IsPrintedSpace k p (InCodeSpan k p fs) s)
    (ap (map (function_of k p)) (c.as_slice.ensures.value ∙ c.in_ok-zs.ensures)
    ∙ layers_functions k p p.n c.args.basis.now c.args.degrees.now c.requires.one_each c.requires.elements) h))
    c.span.ensures

pub returns-clause-elements : goal.returns-clause-elements
returns-clause-elements g c =
    let k = g.K.SmallField.field c.args.k.now in
    let p = c.args.p.now in
    IfOk-weaker c.span.result _ _
    (λ s h. row_elements k p s.den s.width s.rows.rows s.functions h.form.functions) c.span.ensures
