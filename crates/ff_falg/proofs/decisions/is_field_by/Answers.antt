use Rattle.std.proofs.Common.{arith, sym, ◌∙◌, eqb-true, eq-eqb}
use Rattle.ff_falg.proofs.decisions.is_field_by.Goals as goal
use Rattle.ff_falg.proofs.FieldLaws.{field_test, field_fixed, killed_space}

pub returns-then-rows-ne1 : goal.returns-then-rows-ne1
returns-then-rows-ne1 g c =
    let k = g.K.SmallField.field c.args.k.now in
    let A = g.A.FiniteAlgebra.algebra c.args.a.now in
    let law = g.A.FiniteAlgebra.laws c.args.a.now k c.requires.over in (
      (λ f. (cc)),
      (λ F. let e = field_fixed k A law c.args.basis.now c.requires.basis F in absurd
          (let r = c.rows.ensures in omega arith)),
    )

pub returns : goal.returns
returns g c =
    let k = g.K.SmallField.field c.args.k.now in
    let A = g.A.FiniteAlgebra.algebra c.args.a.now in
    let law = g.A.FiniteAlgebra.laws c.args.a.now k c.requires.over in
    let killed = killed_space k A law c.args.map.now _ c.requires.map c.in_ok-kernel.ensures in
    let test = field_test k A law _ _ killed c.requires.basis in (
      (λ t. test.0 (sym c.rows-3.ensures ∙ eqb-true _ 0 t, let r = c.rows.ensures in omega arith)),
      (λ F. eq-eqb _ 0 (c.rows-3.ensures ∙ (test.1 F).0)),
    )
