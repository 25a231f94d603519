use Rattle.std.proofs.Common.{◌-◌, ◌++◌, replicate, arith, ap, ap₂, ◌∙◌}
use Rattle.std.proofs.lemmas.List.{take_all}
use Rattle.ff_poly.proofs.poly.Poly.sub_multiple.Goals as goal
use Rattle.ff_fields.specs.Code.{raw_ring}
use Rattle.ring_lemmas.specs.Lists.{add_lists, scale_list}
use Rattle.ff_poly.specs.Words.{poly_of}
use Rattle.ff_poly.specs.Terms.{IsOver_less_multiple}
use Rattle.ff_poly.proofs.Results.{written_back}
use Rattle.ff_poly.proofs.TermSteps.{less_multiple_written}

pub invariant_of-self-2 : goal.invariant_of-self-2
invariant_of-self-2 g c = c.drop_zeros.ensures.poly

pub returns-clause-difference : goal.returns-clause-difference
returns-clause-difference g c =
    let k = g.K.SmallField.field c.args.k.now in
    let r = raw_ring k.ops in
    c.drop_zeros.ensures.dropped
    ∙ written_back c.subtract_at.new.sum _ _ (omega arith)
    ∙ ap poly_of c.subtract_at.ensures
    ∙ ap₂ (λ x y. poly_of (add_lists r x (replicate c.args.j 0 ++ scale_list r (k.neg c.args.c) y)))
    (c.as_mut_slice.ensures.value ∙ c.in_ok-resize.ensures.items
    ∙ ap₂ (λ x y. x ++ y) (take_all _ _ (omega arith) ∙ c.self.view_is) (ap (λ n. replicate n 0) (omega arith)))
    (c.as_slice.ensures.value ∙ c.other.view_is)
    ∙ less_multiple_written k c.args.self.now c.args.c c.requires.c_in c.args.j c.args.other.now
    (c.max-len.result - c.len.result) c.requires.self_in c.requires.other_in

pub returns-clause-over : goal.returns-clause-over
returns-clause-over g c =
    let k = g.K.SmallField.field c.args.k.now in
    rw (returns-clause-difference g c) (IsOver_less_multiple k _ c.args.c c.args.j _ c.requires.self_in c.requires.c_in
    c.requires.other_in)

pub returns-clause-trimmed : goal.returns-clause-trimmed
returns-clause-trimmed g c = c.drop_zeros.ensures.poly
