use Rattle.std.proofs.Common.{ℕ, ◌+◌, ◌^◌, ◌<◌, ◌≤◌, List, get_or, add-one, sym, ap, ◌∙◌, arith, subst}
use Rattle.std.proofs.lemmas.List.{length-take-le}
use Rattle.ff_fields.specs.Over.{IsOver}
use Rattle.ff_fields.specs.Prime.{prime_of}
use Rattle.ff_fields.specs.Residue.{digits, number_below, IsOver_digits}
use Rattle.ff_fields.specs.Modulus.{IsMonicModulus, IsFactor}
use Rattle.ff_fields.proofs.PolyCodes.{base_pos}
use Rattle.ff_fields.proofs.Products.{monic_digit, written_division}
use Rattle.ff_fields.proofs.Sizes.{size_short, length_zeros, length_unit, length_positions, first_unit, power_small}
use Rattle.ff_fields.proofs.factors.cofactor.Goals as goal

short : (p m e : ℕ) (modulus : List ℕ) → IsMonicModulus p m modulus → e + e ≤ m → (m ≤ 16) × (e ≤ 16) × (e + 1 ≤ 17)
short p m e modulus poly half = let le = size_short p m poly.size in (le, omega (arith, le), omega (arith, le))

pub slice_bounds-divisor-end : goal.slice_bounds-divisor-end
slice_bounds-divisor-end c = (short c.args.p c.args.m c.args.degree c.args.modulus.now c.requires.modulus
    c.requires.half).2

pub slice_bounds-divisor-end-2 : goal.slice_bounds-divisor-end-2
slice_bounds-divisor-end-2 c = sym (length_positions (c.args.degree + 1)
    (short c.args.p c.args.m c.args.degree c.args.modulus.now c.requires.modulus c.requires.half).2)

pub slice_bounds-one-end : goal.slice_bounds-one-end
slice_bounds-one-end c = (short c.args.p c.args.m c.args.degree c.args.modulus.now c.requires.modulus c.requires.half).1

pub slice_bounds-one-end-2 : goal.slice_bounds-one-end-2
slice_bounds-one-end-2 c = sym (length_unit c.args.degree c.requires.some
    (short c.args.p c.args.m c.args.degree c.args.modulus.now c.requires.modulus c.requires.half).1)

pub slice_bounds-rest-end : goal.slice_bounds-rest-end
slice_bounds-rest-end c = (short c.args.p c.args.m c.args.degree c.args.modulus.now c.requires.modulus
    c.requires.half).1

pub slice_bounds-rest-end-2 : goal.slice_bounds-rest-end-2
slice_bounds-rest-end-2 c = sym (length_unit c.args.degree c.requires.some
    (short c.args.p c.args.m c.args.degree c.args.modulus.now c.requires.modulus c.requires.half).1)

pub slice_bounds-quotient-end : goal.slice_bounds-quotient-end
slice_bounds-quotient-end c = (short c.args.p c.args.m c.args.degree c.args.modulus.now c.requires.modulus
    c.requires.half).0

pub slice_bounds-quotient-end-2 : goal.slice_bounds-quotient-end-2
slice_bounds-quotient-end-2 c = sym (length_zeros c.args.m
    (short c.args.p c.args.m c.args.degree c.args.modulus.now c.requires.modulus c.requires.half).0)

pub reduce_product-requires-clause-room : goal.reduce_product-requires-clause-room
reduce_product-requires-clause-room c =
    let le = (short c.args.p c.args.m c.args.degree c.args.modulus.now c.requires.modulus c.requires.half).0 in
    length_zeros c.args.m le ∙ sym (length-take-le c.args.m c.args.modulus.now (omega (arith, c.requires.modulus.long)))

pub reduce_product-requires-clause-monic : goal.reduce_product-requires-clause-monic
reduce_product-requires-clause-monic c =
    let le = short c.args.p c.args.m c.args.degree c.args.modulus.now c.requires.modulus c.requires.half in
    ap (λ i. get_or c.write_digits.new.out i 0) (length_unit c.args.degree c.requires.some le.1)
    ∙ ap (λ w. get_or w c.args.degree 0)
    (c.write_digits.ensures ∙ ap (λ n. digits c.args.p n c.args.d)
    (length_positions (c.args.degree + 1) le.2 ∙ add-one c.args.degree))
    ∙ monic_digit c.args.p c.args.degree c.args.d c.requires.modulus.size.listed c.requires.monic

pub reduce_product-requires-clause-modulus_in : goal.reduce_product-requires-clause-modulus_in
reduce_product-requires-clause-modulus_in c =
    subst (λ w. IsOver (prime_of c.args.p) w) (sym c.write_digits.ensures)
    (IsOver_digits c.args.p (base_pos c.args.p c.requires.modulus.size.listed) _ c.args.d)

pub code_of-requires-clause-size : goal.code_of-requires-clause-size
code_of-requires-clause-size c =
    let le = (short c.args.p c.args.m c.args.degree c.args.modulus.now c.requires.modulus c.requires.half).1 in
    subst (λ n. c.args.p ^ n ≤ 2 ^ 20) (sym (c.reduce_product.auto.rest ∙ length_unit c.args.degree c.requires.some le))
    (let small = power_small c.args.p c.args.m c.args.degree c.requires.modulus.size (omega (arith, c.requires.half)) in
    omega (arith, small))

pub code_of-requires-then-code_of-eq0-clause-size : goal.code_of-requires-then-code_of-eq0-clause-size
code_of-requires-then-code_of-eq0-clause-size c =
    let le = (short c.args.p c.args.m c.args.degree c.args.modulus.now c.requires.modulus c.requires.half).0 in
    subst (λ n. c.args.p ^ n ≤ 2 ^ 20) (sym (c.reduce_product.auto.quotient ∙ length_zeros c.args.m le))
    (let small = c.requires.modulus.size.small in omega (arith, small))

pub returns-then-code_of-eq0-clause-some : goal.returns-then-code_of-eq0-clause-some
returns-then-code_of-eq0-clause-some c =
    let p = c.args.p in
    let le = short p c.args.m c.args.degree c.args.modulus.now c.requires.modulus c.requires.half in
    let q_long = c.reduce_product.auto.quotient ∙ length_zeros c.args.m le.0 in
    let trial = written_division p c.args.m c.args.modulus.now c.requires.modulus c.args.degree c.args.d c.requires.some
    c.requires.half c.requires.monic _ _ c.write_digits.new.out c.reduce_product.new.quotient
    c.reduce_product.new.rest
    (length_positions (c.args.degree + 1) le.2 ∙ add-one c.args.degree) c.write_digits.ensures
    (first_unit c.args.degree c.requires.some le.1)
    q_long c.reduce_product.ensures.quotient_in
    (c.reduce_product.auto.rest ∙ length_unit c.args.degree c.requires.some le.1) c.reduce_product.ensures.rest_in
    c.reduce_product.ensures.whole in
    subst (λ w. (w < p ^ c.args.m) × IsFactor p c.args.m c.args.modulus.now c.args.d w)
    (sym c.code_of-then-code_of-eq0.ensures)
    ((
      number_below p (base_pos p c.requires.modulus.size.listed) c.args.m c.reduce_product.new.quotient q_long
          c.reduce_product.ensures.quotient_in,
      trial.0 (sym c.code_of.ensures ∙ c.if-code_of-eq0.true),
    ))

pub returns-else-code_of-eq0-clause-none : goal.returns-else-code_of-eq0-clause-none
returns-else-code_of-eq0-clause-none c =
    let p = c.args.p in
    let le = short p c.args.m c.args.degree c.args.modulus.now c.requires.modulus c.requires.half in
    let trial = written_division p c.args.m c.args.modulus.now c.requires.modulus c.args.degree c.args.d c.requires.some
    c.requires.half c.requires.monic _ _ c.write_digits.new.out c.reduce_product.new.quotient
    c.reduce_product.new.rest
    (length_positions (c.args.degree + 1) le.2 ∙ add-one c.args.degree) c.write_digits.ensures
    (first_unit c.args.degree c.requires.some le.1)
    (c.reduce_product.auto.quotient ∙ length_zeros c.args.m le.0) c.reduce_product.ensures.quotient_in
    (c.reduce_product.auto.rest ∙ length_unit c.args.degree c.requires.some le.1) c.reduce_product.ensures.rest_in
    c.reduce_product.ensures.whole in
    trial.1 (λ e. c.if-code_of-eq0.false (c.code_of.ensures ∙ e))
