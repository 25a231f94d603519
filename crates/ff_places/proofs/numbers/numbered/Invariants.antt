use Rattle.std.proofs.Common.{◌≡◌, take}
use Rattle.std.specs.List.{AllZip}
use Rattle.ff_places.specs.Numbers.{NumberedFrom}
use Rattle.ff_places.specs.Steps.{IsNumbered}
use Rattle.ff_places.proofs.numbers.numbered.Given as goal

abbrev pub invariant-loop-l : goal.invariant-loop-l
invariant-loop-l l = record {
  number : l.number ≡ l.l-index;
  primes : AllZip IsNumbered (take l.l-index l.list) l.primes.items;
  numbers : NumberedFrom 1 l.primes.items;
}
