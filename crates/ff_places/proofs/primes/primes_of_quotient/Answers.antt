use Rattle.std.proofs.Common.{ℕ, List, subst, sym, All}
use Rattle.std.specs.Prelude.{IfOk}
use Rattle.std.specs.Global.{Vec}
use Rattle.std.specs.List.{AllZip}
use Rattle.ff_falg.specs.Idempotents.{elements_of}
use Rattle.ff_lattice.proofs.Results.{ok_through}
use Rattle.decomposition_theory.specs.Decompositions.{AreIdempotentsModulo, IsComponentPrime}
use Rattle.decomposition_theory.proofs.ComponentPrimes.{component_primes}
use Rattle.decomposition_theory.proofs.ComponentSystems.{component_system}
use Rattle.ff_places.specs.Steps.{HasComponent}
use Rattle.ff_places.proofs.Systems.{radical_above, all_components}
use Rattle.ff_places.proofs.primes.primes_of_quotient.Goals as goal

pub primes_of_idempotents-requires-clause-radical : goal.primes_of_idempotents-requires-clause-radical
primes_of_idempotents-requires-clause-radical g c =
    let pi = c.args.pi.now in
    radical_above (g.K.SmallField.field c.args.k.now) c.args.q.now pi c.requires.order c.requires.ideal
    c.in_ok-radical.radical c.in_ok-radical.ensures.form (c.in_ok-radical.ensures.members pi c.requires.ideal)

pub primes_of_idempotents-requires-clause-components : goal.primes_of_idempotents-requires-clause-components
primes_of_idempotents-requires-clause-components g c =
    let k = g.K.SmallField.field c.args.k.now in
    let q = c.args.q.now in
    let pi = c.args.pi.now in
    let radical = c.in_ok-radical.radical in
    let es = elements_of c.in_ok-idempotents.idempotents.items in
    let all : AreIdempotentsModulo k q pi es
    = record {
      quotient = c.requires.over;
      ideal = c.requires.ideal;
      idempotents = c.in_ok-idempotents.ensures;
    } in
    subst (λ (vs : List (Vec ℕ)). All (HasComponent k q pi radical) (elements_of vs)) (sym c.as_slice.ensures.value)
    (all_components k q pi c.requires.order c.requires.ideal radical c.in_ok-radical.ensures.form
    (c.in_ok-radical.ensures.members pi c.requires.ideal) es all (component_primes k q pi es c.requires.order all))

pub returns-clause-primes : goal.returns-clause-primes
returns-clause-primes g c =
    let k = g.K.SmallField.field c.args.k.now in
    let q = c.args.q.now in
    let pi = c.args.pi.now in
    let es = elements_of c.in_ok-idempotents.idempotents.items in
    let r = c.primes_of_idempotents.result in
    ok_through r
    (λ v zip. component_system k q pi es v.items c.requires.order
    (record {
      quotient = c.requires.over;
      ideal = c.requires.ideal;
      idempotents = c.in_ok-idempotents.ensures;
    }) zip)
    (subst (λ (vs : List (Vec ℕ)). IfOk r (λ v. AllZip (IsComponentPrime k q pi) (elements_of vs) v.items))
    c.as_slice.ensures.value c.primes_of_idempotents.ensures.primes)
