use Rattle.std.proofs.Common.{◌^◌, ◌≤◌, get_or, sym, ap, ◌∙◌, arith, subst}
use Rattle.ff_fields.specs.Over.{IsOver}
use Rattle.ff_fields.specs.Prime.{prime_of}
use Rattle.ff_fields.specs.Residue.{IsOver_digits}
use Rattle.ff_fields.proofs.PolyCodes.{base_pos}
use Rattle.ff_fields.proofs.Products.{written_product}
use Rattle.ff_fields.proofs.Sizes.{size_short, length_zeros, first_zeros}
use Rattle.ff_fields.proofs.reduce.multiply_residues.Goals as goal

pub slice_bounds-x-end-2 : goal.slice_bounds-x-end-2
slice_bounds-x-end-2 c = sym (length_zeros c.args.m (size_short c.args.p c.args.m c.requires.size))

pub slice_bounds-y-end-2 : goal.slice_bounds-y-end-2
slice_bounds-y-end-2 c = sym (length_zeros c.args.m (size_short c.args.p c.args.m c.requires.size))

pub slice_bounds-rest-end-2 : goal.slice_bounds-rest-end-2
slice_bounds-rest-end-2 c = sym (length_zeros c.args.m (size_short c.args.p c.args.m c.requires.size))

pub slice_bounds-quotient-end-2 : goal.slice_bounds-quotient-end-2
slice_bounds-quotient-end-2 c = sym (length_zeros c.args.m (size_short c.args.p c.args.m c.requires.size))

pub reduce_product-requires-clause-modulus_long : goal.reduce_product-requires-clause-modulus_long
reduce_product-requires-clause-modulus_long c =
    let room = length_zeros c.args.m (size_short c.args.p c.args.m c.requires.size) in omega
    (arith, room, c.requires.long)

pub reduce_product-requires-clause-monic : goal.reduce_product-requires-clause-monic
reduce_product-requires-clause-monic c =
    ap (λ i. get_or c.args.modulus.now i 0) (length_zeros c.args.m (size_short c.args.p c.args.m c.requires.size))
    ∙ c.requires.monic

pub reduce_product-requires-clause-a_in : goal.reduce_product-requires-clause-a_in
reduce_product-requires-clause-a_in c =
    subst (λ w. IsOver (prime_of c.args.p) w) (sym c.write_digits.ensures)
    (IsOver_digits c.args.p (base_pos c.args.p c.requires.size.listed) _ c.args.a)

pub reduce_product-requires-clause-b_in : goal.reduce_product-requires-clause-b_in
reduce_product-requires-clause-b_in c =
    subst (λ w. IsOver (prime_of c.args.p) w) (sym c.write_digits-2.ensures)
    (IsOver_digits c.args.p (base_pos c.args.p c.requires.size.listed) _ c.args.b)

pub code_of-requires-clause-size : goal.code_of-requires-clause-size
code_of-requires-clause-size c =
    let short = size_short c.args.p c.args.m c.requires.size in
    subst (λ n. c.args.p ^ n ≤ 2 ^ 20) (sym (c.reduce_product.auto.rest ∙ length_zeros c.args.m short))
    (let small = c.requires.size.small in omega (arith, small))

pub returns : goal.returns
returns c =
    let short = size_short c.args.p c.args.m c.requires.size in
    c.code_of.ensures
    ∙ written_product c.args.p c.args.m c.args.modulus.now c.requires c.args.a c.args.b _ _ _ _
    c.reduce_product.new.rest (first_zeros c.args.m short) c.write_digits.ensures c.write_digits-2.ensures
    c.reduce_product.auto.rest c.reduce_product.ensures.rest_in c.reduce_product.ensures.whole
