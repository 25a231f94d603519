use Rattle.std.proofs.Common.{◌≡◌, ◌+◌, ◌^◌, ◌<◌, length, arith, subst, sym, ap, ◌∙◌}
use Rattle.std.proofs.lemmas.List.{take_at}
use Rattle.ff_fields.specs.Over.{IsOver}
use Rattle.ff_fields.specs.Prime.{prime_of}
use Rattle.ff_fields.specs.Residue.{digits, digits_number, number_below}
use Rattle.ff_fields.proofs.PolyCodes.{base_pos}
use Rattle.ff_fields.proofs.Sizes.{size_short, length_positions}
use Rattle.ff_fields.proofs.residue.ResidueField.new.Goals as goal

pub slice_bounds-padded-end : goal.slice_bounds-padded-end
slice_bounds-padded-end c = let le = size_short c.args.p c.args.m c.in-Some.ensures.0 in omega (arith, le, c.requires)

pub slice_bounds-copy_from_slice-end : goal.slice_bounds-copy_from_slice-end
slice_bounds-copy_from_slice-end c =
    let le = size_short c.args.p c.args.m c.in-Some.ensures.0 in sym
    (length_positions (length c.args.modulus.now) (omega (arith, le, c.requires)))

pub copy_from_slice-requires : goal.copy_from_slice-requires
copy_from_slice-requires c =
    let le = size_short c.args.p c.args.m c.in-Some.ensures.0 in length_positions (length c.args.modulus.now)
    (omega (arith, le, c.requires))

pub invariant_of-result-clause-code_is : goal.invariant_of-result-clause-code_is
invariant_of-result-clause-code_is c =
    let over : IsOver (prime_of c.args.p) c.args.modulus.now = c.in_default-first_outside.ensures.none in
    let same : length c.copy_from_slice.new.self ≡ c.args.m + 1 = ap length c.copy_from_slice.ensures.after
    ∙ c.requires in
    ap (digits c.args.p (c.args.m + 1)) c.code_of.ensures
    ∙ digits_number c.args.p (base_pos c.args.p c.in-Some.ensures.0.listed) (c.args.m + 1) c.args.modulus.now c.requires
    over
    ∙ sym (take_at c.copy_from_slice.new.self _ (c.args.m + 1) same ∙ c.copy_from_slice.ensures.after)

pub invariant_of-result-clause-code_in : goal.invariant_of-result-clause-code_in
invariant_of-result-clause-code_in c =
    let over : IsOver (prime_of c.args.p) c.args.modulus.now = c.in_default-first_outside.ensures.none in
    subst (λ w. w < c.args.p ^ (c.args.m + 1)) (sym c.code_of.ensures)
    (number_below c.args.p (base_pos c.args.p c.in-Some.ensures.0.listed) (c.args.m + 1) c.args.modulus.now c.requires
    over)
