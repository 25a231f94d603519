use Rattle.std.proofs.Common.{◌<◌, length, refl, sym, ap, ◌∙◌, arith}
use Rattle.ff_linalg.specs.Steps.{unit_row}
use Rattle.ff_falg.specs.Algebras.{power}
use Rattle.ff_falg.proofs.powers.fill_from.Goals as goal
use Rattle.ff_falg.proofs.ChainSteps.{flag_here, power_at_in, filled, kept_on, here_on}

pub set_row-requires-clause-width : goal.set_row-requires-clause-width
set_row-requires-clause-width g c =
    let k = g.K.SmallField.field c.args.k.now in
    let A = g.A.FiniteAlgebra.algebra c.args.a.now in
    let law = g.A.FiniteAlgebra.laws c.args.a.now k c.requires.over in
    let element = c.as_slice.ensures.value ∙ c.in_ok-element.ensures ∙ ap (λ n. unit_row n c.args.j) c.dim.ensures in
    ap length (c.as_slice-2.ensures.value ∙ c.in_ok-row.ensures ∙ ap (λ x. power k.ops A x c.size.result) element
    ∙ ap (power k.ops A (unit_row A.size c.args.j)) c.size.ensures)
    ∙ (power_at_in k A law c.args.j c.requires.within).size ∙ sym c.requires.filled.shape.col_count

pub follow-requires-clause-filled : goal.follow-requires-clause-filled
follow-requires-clause-filled g c =
    let k = g.K.SmallField.field c.args.k.now in
    let A = g.A.FiniteAlgebra.algebra c.args.a.now in
    let law = g.A.FiniteAlgebra.laws c.args.a.now k c.requires.over in
    let element = c.as_slice.ensures.value ∙ c.in_ok-element.ensures ∙ ap (λ n. unit_row n c.args.j) c.dim.ensures in
    filled k A law c.args.done.now _ c.args.rows.now _ c.args.j c.as_slice-2.result.now c.requires.within
    (c.as_slice-2.ensures.value ∙ c.in_ok-row.ensures ∙ ap (λ x. power k.ops A x c.size.result) element
    ∙ ap (power k.ops A (unit_row A.size c.args.j)) c.size.ensures)
    c.set_row.ensures refl c.requires.filled

pub follow-requires-clause-first : goal.follow-requires-clause-first
follow-requires-clause-first g c =
    let d : c.args.j < length c.args.done.now = let s = c.requires.filled.size in let w = c.requires.within in omega
    arith in
    flag_here c.args.done.now _ c.args.j d refl

pub returns-clause-here : goal.returns-clause-here
returns-clause-here g c =
    let d : c.args.j < length c.args.done.now = let s = c.requires.filled.size in let w = c.requires.within in omega
    arith in
    here_on c.follow.result c.args.done.now _ _ c.args.j d refl c.follow.ensures.kept

pub returns-clause-kept : goal.returns-clause-kept
returns-clause-kept g c =
    let d : c.args.j < length c.args.done.now = let s = c.requires.filled.size in let w = c.requires.within in omega
    arith in
    kept_on c.follow.result c.args.done.now _ _ c.args.j d refl c.follow.ensures.kept
