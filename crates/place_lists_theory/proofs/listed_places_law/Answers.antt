-- The theorem of `ListedPlaces`.
use Rattle.place_lists_theory.proofs.ListedPlaces.{listed_places}
use Rattle.place_lists_theory.proofs.listed_places_law.Goals as goal

pub returns : goal.returns
returns g = λ k c s o pi Ps curve order pi_in irreducible t h whole.
    listed_places k c curve o pi pi_in irreducible Ps s t order h whole
