use Rattle.std.proofs.Common.{◌∙◌, sym, ap, subst, All}
use Rattle.ff_poly.specs.Polynomials.{x_poly}
use Rattle.function_field.specs.Curves.{CurveValue}
use Rattle.function_field.specs.Values.{PresValue, IsElem, equation_of}
use Rattle.infinite_theory.specs.Supported.{IsSupportedAt}
use Rattle.ff_lattice.specs.Lattices.{LatticeValue, Contains}
use Rattle.ff_rr.proofs.FrameSets.{frame_tame}
use Rattle.ff_rr.proofs.MadeConstants.{constants_of_equals}
use Rattle.ff_rr.proofs.spaces.constants.Goals as goal

pub split-requires-clause-tame : goal.split-requires-clause-tame
split-requires-clause-tame g c =
    let k = g.K.SmallField.field c.args.k.now in
    subst (λ (q : CurveValue). IsSupportedAt (equation_of k q.inf) (x_poly k) (Contains k q.inf c.lattice-2.result.now))
    (sym c.curve-curve.ensures)
    (subst (λ (l : LatticeValue). IsSupportedAt (equation_of k c.args.f.now.curve.inf) (x_poly k)
    (Contains k c.args.f.now.curve.inf l)) (sym (c.lattice-2.ensures ∙ c.inf.ensures))
    (frame_tame k c.args.f.now c.requires))

pub spanned-requires-clause-elements : goal.spanned-requires-clause-elements
spanned-requires-clause-elements g c =
    let k = g.K.SmallField.field c.args.k.now in
    let p_is = c.fin-2.ensures ∙ ap (λ (q : CurveValue). q.fin) c.curve-curve.ensures in
    let p_was = ap (λ (q : CurveValue). q.fin) c.curve-curve.ensures in
    subst (λ (q : PresValue). All (IsElem k.ops q.n) c.basis.result.now) (sym c.fin-2.ensures)
    (subst (All (IsElem k.ops c.curve-curve.result.now.fin.n)) (sym c.basis.ensures) c.in_ok-split.ensures.elements)

pub returns : goal.returns
returns g c =
    let k = g.K.SmallField.field c.args.k.now in
    let split = c.in_ok-split.ensures in
    let span = c.in_ok-space.ensures in
    constants_of_equals k c.args.f.now c.requires c.curve-curve.result.now c.lattice.result.now c.lattice-2.result.now
    c.fin-2.result.now c.basis.result.now c.degrees.result.now c.in_ok-split.split c.in_ok-space.space
    c.curve-curve.ensures (c.lattice.ensures ∙ c.fin.ensures) (c.lattice-2.ensures ∙ c.inf.ensures)
    (c.fin-2.ensures ∙ ap (λ (q : CurveValue). q.fin) c.curve-curve.ensures) c.basis.ensures c.degrees.ensures
    (record {
      both = split.both;
      form = split.form;
      elements = split.elements;
      lowest = split.lowest;
      ascending = split.ascending;
      sum = split.sum;
    })
    (record { space = span.space; basis = span.basis; elements = span.elements })
