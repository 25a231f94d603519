use Rattle.std.proofs.Common.{◌≡◌, ◌≤◌, length, ap, IfOk, IsTrue, ◌↔◌, ◌∙◌, subst, arith, sym}
use Rattle.ff_falg.specs.Algebras.{IsFieldAlgebra}
use Rattle.ff_factor.specs.Quotients.{IsModulus, quotient_algebra}
use Rattle.polynomial_theory.proofs.ListValues.{monic_of_top}
use Rattle.ff_factor.proofs.FieldsByIrreducibles.{field_irreducible, answer_as}
use Rattle.ff_factor.proofs.decisions.is_irreducible.Goals as goal

pub returns : goal.returns
returns g c =
    let k = g.K.SmallField.field c.args.k.now in
    let l : length c.codes.result.now ≡ length c.args.g.now = ap length c.codes.ensures.codes in
    let long : 2 ≤ length c.args.g.now = omega (arith, c.if-codes-lt2.false, l) in
    let one : c.top.result ≡ 1 = omega (arith, c.if-top-ne1.false) in
    let h : IsModulus k.ops c.args.g.now
    = record {
      over = c.requires;
      monic = monic_of_top c.args.g.now (omega (arith, long)) (sym c.top.ensures.top ∙ one);
      not_constant = long;
    } in
    answer_as c.is_field-2.result
    (subst (λ w. IfOk c.is_field-2.result (λ t. IsTrue t ↔ IsFieldAlgebra k.ops (quotient_algebra w)))
    c.in_ok-new.ensures c.is_field-2.ensures)
    (field_irreducible k c.args.g.now h)
