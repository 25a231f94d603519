use Rattle.std.proofs.Common.{◌++◌, [], ◌∷◌, sym, ap₂, ◌∙◌, subst, All}
use Rattle.std.proofs.lemmas.Result.{IfOk-weaker}
use Rattle.ff_falg.specs.Algebras.{IsPrimitiveVector}
use Rattle.ff_falg.specs.Idempotents.{elements_of}
use Rattle.ff_factor.specs.Pulls.{ArePrimesOf}
use Rattle.ff_factor.specs.Quotients.{quotient_algebra}
use Rattle.ff_factor.proofs.FieldPrimes.{field_primes}
use Rattle.ff_factor.proofs.SplitSteps.{all_of_in}
use Rattle.ff_factor.proofs.primes.divisors_of.Goals as goal

pub returns-then-branch : goal.returns-then-branch
returns-then-branch g c =
    let k = g.K.SmallField.field c.args.k.now in
    record {
      idempotents = elements_of c.in_ok-found.found.items;
      list = c.in_ok-found.ensures;
      primes = field_primes k c.args.a.now c.requires (c.in_ok-is_field_by.ensures.0 c.if-branch.true)
          (elements_of c.in_ok-found.found.items) _
          c.in_ok-found.ensures
          (c.in_ok-push.ensures.items ∙ ap₂ (λ xs x. xs ++ x ∷ []) c.new-primes.ensures.items
          (c.in_ok-copy.ensures ∙ c.modulus.ensures));
    }

pub primes_of-requires-clause-primitive : goal.primes_of-requires-clause-primitive
primes_of-requires-clause-primitive g c =
    let k = g.K.SmallField.field c.args.k.now in
    subst (λ vs. All (IsPrimitiveVector k.ops (quotient_algebra c.args.a.now)) (elements_of vs))
    (sym c.as_slice.ensures.value)
    (all_of_in (IsPrimitiveVector k.ops (quotient_algebra c.args.a.now)) (elements_of c.in_ok-found.found.items)
    (λ e i. (c.in_ok-found.ensures.members e).0 i))

pub returns : goal.returns
returns g c =
    let k = g.K.SmallField.field c.args.k.now in
    IfOk-weaker c.primes_of.result _ _ (λ v h.
    record {
      idempotents = elements_of c.in_ok-found.found.items;
      list = c.in_ok-found.ensures;
      primes = subst (λ vs. ArePrimesOf k.ops c.args.a.now (elements_of vs) v.items) c.as_slice.ensures.value h;
    }) c.primes_of.ensures
