use Rattle.std.proofs.Common.{◌≡◌, ◌-◌, ◌++◌, [], ◌∷◌, length, arith, sym, ap, ◌∙◌, subst}
use Rattle.ff_falg.specs.Relations.{IsBounded}
use Rattle.ring_lemmas.specs.Lists.{neg_list}
use Rattle.ring_lemmas.proofs.Lists.{trim_trimmed}
use Rattle.ff_fields.specs.Code.{is_zero_code, raw_ring}
use Rattle.ff_poly.specs.Words.{poly_of}
use Rattle.ff_factor.proofs.QuotientSteps.{written}
use Rattle.ff_factor.specs.Primes.{IsPrimeAt}
use Rattle.ff_factor.specs.Quotients.{quotient_algebra}
use Rattle.ff_factor.specs.QuotientLaws.{quotient_laws}
use Rattle.polynomial_theory.proofs.ListValues.{monic_poly}
use Rattle.ff_factor.proofs.PowerBounds.{powers_bounded_by_size}
use Rattle.ff_factor.proofs.PrimeIdeals.{prime_of_relation}
use Rattle.ff_factor.proofs.primes.prime_at.Goals as goal

pub first_relation-requires-clause-bounded : goal.first_relation-requires-clause-bounded
first_relation-requires-clause-bounded g c =
    let k = g.K.SmallField.field c.args.k.now in
    let A = quotient_algebra c.args.a.now in
    let law = quotient_laws k c.args.a.now c.requires.modulus in
    let same : length c.codes.result.now
    ≡ length c.args.a.now = ap length (c.codes.ensures.codes ∙ c.modulus.ensures) in
    let l = c.requires.modulus.not_constant in
    subst (λ n. IsBounded k.ops A c.args.z.now c.args.e.now (n - 1)) (sym same)
    (powers_bounded_by_size k A law (omega arith) c.args.z.now c.args.e.now c.requires.vector
    c.requires.primitive.idempotent.vector)

pub returns : goal.returns
returns g c =
    let k = g.K.SmallField.field c.args.k.now in
    let v = c.in_ok-relation.relation.coefficients.items in
    let h = c.requires.modulus in
    let made = prime_of_relation k c.args.a.now h c.args.e.now c.requires.primitive c.args.z.now c.requires.vector
    c.requires.high
    c.in_ok-relation.relation.powers v c.in_ok-relation.ensures in
    let codes_is : c.from_codes.result ≡ poly_of (neg_list (raw_ring k.ops) v ++ 1 ∷ [])
    = c.from_codes.ensures
    ∙ ap poly_of
    (c.in_ok-push.ensures.items
    ∙ ap (λ w. w ++ 1 ∷ []) (written c.negate_all.new.codes _ _ (omega arith) ∙ c.negate_all.ensures
    ∙ ap (neg_list (raw_ring k.ops)) c.as_mut_slice.ensures.value)) in
    subst (IsPrimeAt k.ops c.args.a.now c.args.e.now)
    (sym (codes_is ∙ trim_trimmed is_zero_code (neg_list (raw_ring k.ops) v ++ 1 ∷ [])
    (monic_poly k _ made.monic).trimmed))
    made
