-- The theorem of `RecordPlaces`.
use Rattle.ideal_theory.proofs.RecordPlaces.{record_places}
use Rattle.ideal_theory.proofs.recorded_places_law.Goals as goal

pub returns : goal.returns
returns c = λ k e p ps some h valid. record_places e some p h ps valid
