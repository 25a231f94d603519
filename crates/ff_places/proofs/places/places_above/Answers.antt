use Rattle.std.proofs.Common.{◌≡◌, sym, subst, All}
use Rattle.ff_lattice.proofs.Results.{ok_through}
use Rattle.function_field.specs.Values.{IsPresOver}
use Rattle.value_theory.specs.Primes.{PrimeValue}
use Rattle.decomposition_theory.specs.Decompositions.{IsMaximalOrderAt}
use Rattle.ff_places.specs.Steps.{AreListed}
use Rattle.ff_places.proofs.Sides.{over_side, system_of_side, system_forms, side_primes, side_places, side_order, side_kept}
use Rattle.ff_places.proofs.places.places_above.Goals as goal

pub primes_above-requires-clause-p_in : goal.primes_above-requires-clause-p_in
primes_above-requires-clause-p_in g c =
    let k = g.K.SmallField.field c.args.k.now in
    subst (IsPresOver k.ops) (sym c.presentation.ensures) (over_side k c.args.c.now c.requires.curve c.args.side)

pub primes_above-requires-clause-order : goal.primes_above-requires-clause-order
primes_above-requires-clause-order g c =
    let k = g.K.SmallField.field c.args.k.now in
    subst (λ p. IsMaximalOrderAt k p c.args.o.now c.args.pi.now) (sym c.presentation.ensures) c.requires.order

pub ordered-requires-clause-forms : goal.ordered-requires-clause-forms
ordered-requires-clause-forms g c =
    let k = g.K.SmallField.field c.args.k.now in
    system_forms k c.args.c.now c.args.side c.args.o.now c.args.pi.now c.as_slice.result.now
    (system_of_side k c.args.c.now c.args.side c.args.o.now c.args.pi.now c.presentation.result.now
    c.presentation.ensures c.in_ok-primes.primes.items c.as_slice.result.now c.as_slice.ensures.value
    c.in_ok-primes.ensures.primes)

pub returns : goal.returns
returns g c =
    let k = g.K.SmallField.field c.args.k.now in
    let C = c.args.c.now in
    let s = c.args.side in
    let o = c.args.o.now in
    let pi = c.args.pi.now in
    let curve = c.requires.curve in
    let at = c.requires.order in
    let Ps = c.as_slice.result.now in
    let ls = c.as_slice-2.result.now in
    let sides = subst (All (λ (P : PrimeValue). P.side ≡ s)) (sym c.as_slice.ensures.value)
    c.in_ok-primes.ensures.sides in
    let system = system_of_side k C s o pi c.presentation.result.now c.presentation.ensures
    c.in_ok-primes.primes.items Ps c.as_slice.ensures.value c.in_ok-primes.ensures.primes in
    let listed = subst (AreListed k C s Ps) (sym c.as_slice-2.ensures.value) c.in_ok-list.ensures in
    let zips = c.numbered.ensures.primes in
    record {
      primes = ok_through c.numbered.result
          (λ v zip. side_primes k C curve s o pi at Ps system ls listed v.items zip) zips;
      sides = ok_through c.numbered.result
          (λ v zip. side_kept k C curve s o pi at Ps system ls listed v.items zip sides) zips;
      places = ok_through c.numbered.result
          (λ v zip. side_places k C curve s o pi at Ps system ls listed v.items zip c.requires.infinite) zips;
      order = ok_through c.numbered.result
          (λ v zip. side_order k C curve s o pi at Ps system ls listed v.items zip) zips;
      numbers = c.numbered.ensures.numbers;
    }
