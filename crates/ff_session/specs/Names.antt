-- The named places that a map holds.
use Rattle.std.specs.Prelude.{ℕ, List, map}
use Rattle.std.specs.Global.{Vec}
use Rattle.value_theory.specs.Primes.{PrimeValue}
use Rattle.ff_meaning.specs.Bindings.{NamedPlace}

-- each name with its place, in the order of the map
abbrev pub named_places : List (Vec ℕ × PrimeValue) → List NamedPlace
named_places es = map (λ e. record { name = e.0.items; place = e.1 }) es
