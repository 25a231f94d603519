-- The theorem of `PlacesOfPrimes`.
use Rattle.place_lists_theory.proofs.PlacesOfPrimes.{places_of_primes}
use Rattle.place_lists_theory.proofs.places_of_primes_law.Goals as goal

pub returns : goal.returns
returns g = λ k c s o pi Ps curve order pi_in irreducible t h.
    places_of_primes k c curve o pi pi_in irreducible Ps s t order h
