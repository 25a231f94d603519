use Rattle.std.proofs.Common.{◌∙◌, sym, ap, subst, All}
use Rattle.ff_poly.specs.Polynomials.{x_poly}
use Rattle.function_field.specs.Curves.{CurveValue}
use Rattle.function_field.specs.Values.{PresValue, IsElem, equation_of}
use Rattle.infinite_theory.specs.Supported.{IsSupportedAt}
use Rattle.ff_lattice.specs.Lattices.{Contains}
use Rattle.ff_rr.proofs.DivisorSpaces.{finite_form, infinite_form, infinite_tame, space_of_equals}
use Rattle.ff_rr.proofs.spaces.space.Goals as goal

pub split-requires-clause-finite : goal.split-requires-clause-finite
split-requires-clause-finite g c =
    rw c.curve.ensures
    (finite_form (g.K.SmallField.field c.args.k.now) c.args.f.now c.requires.frame c.args.primes.now c.args.mult.now
    c.requires.primes c.in_ok-fin.fin c.in_ok-fin.inf c.in_ok-fin.ensures.finite c.in_ok-fin.ensures.infinite)

pub split-requires-clause-infinite : goal.split-requires-clause-infinite
split-requires-clause-infinite g c =
    rw c.curve.ensures
    (infinite_form (g.K.SmallField.field c.args.k.now) c.args.f.now c.requires.frame c.args.primes.now c.args.mult.now
    c.requires.primes c.in_ok-fin.fin c.in_ok-fin.inf c.in_ok-fin.ensures.finite c.in_ok-fin.ensures.infinite)

pub split-requires-clause-tame : goal.split-requires-clause-tame
split-requires-clause-tame g c =
    let k = g.K.SmallField.field c.args.k.now in
    subst (λ (q : CurveValue). IsSupportedAt (equation_of k q.inf) (x_poly k) (Contains k q.inf c.in_ok-fin.inf))
    (sym c.curve.ensures)
    (infinite_tame k c.args.f.now c.requires.frame c.args.primes.now c.args.mult.now c.requires.primes c.in_ok-fin.fin
    c.in_ok-fin.inf c.in_ok-fin.ensures.finite c.in_ok-fin.ensures.infinite)

pub spanned-requires-clause-elements : goal.spanned-requires-clause-elements
spanned-requires-clause-elements g c =
    let k = g.K.SmallField.field c.args.k.now in
    let elements = subst (λ (q : CurveValue). All (IsElem k.ops q.fin.n) c.in_ok-split.split.basis)
    (c.curve.ensures ∙ sym c.curve-2.ensures) c.in_ok-split.ensures.elements in
    subst (λ (q : PresValue). All (IsElem k.ops q.n) c.basis.result.now) (sym c.fin-2.ensures)
    (subst (All (IsElem k.ops c.curve-2.result.now.fin.n)) (sym c.basis.ensures) elements)

pub returns : goal.returns
returns g c =
    let split = c.in_ok-split.ensures in
    let span = c.in_ok-space.ensures in
    space_of_equals (g.K.SmallField.field c.args.k.now) c.args.f.now c.requires.frame c.args.primes.now c.args.mult.now
    c.requires.primes c.in_ok-fin.fin c.in_ok-fin.inf c.in_ok-fin.ensures.finite c.in_ok-fin.ensures.infinite
    c.curve.result.now c.fin-2.result.now c.basis.result.now c.degrees.result.now c.in_ok-split.split
    c.in_ok-space.space c.curve.ensures (c.fin-2.ensures ∙ ap (λ (q : CurveValue). q.fin) c.curve-2.ensures)
    c.basis.ensures c.degrees.ensures
    (record {
      both = split.both;
      form = split.form;
      elements = split.elements;
      lowest = split.lowest;
      ascending = split.ascending;
      sum = split.sum;
    })
    (record { space = span.space; basis = span.basis; elements = span.elements })
