-- The theorem of `WholePlaces`.
use Rattle.place_lists_theory.proofs.WholePlaces.{whole_place}
use Rattle.place_lists_theory.proofs.whole_place_law.Goals as goal

pub returns : goal.returns
returns g = λ k c s o pi P curve whole t prime over. whole_place k c curve o P s pi whole t prime over
