-- The theorem of `Presentations`.
use Rattle.places_theory.proofs.PresentationMap.{presentation_map, map_element}
use Rattle.places_theory.proofs.Presentations.{presentation_isomorphism}
use Rattle.places_theory.proofs.InfinitePresentation.{integral_reverse}
use Rattle.places_theory.proofs.presentations_law.Goals as goal

pub returns : goal.returns
returns c = λ k p q n some h. (
  presentation_map k p q n h some,
  presentation_isomorphism k p q n h some,
  map_element k p q n h some,
  integral_reverse k p q n h some,
)
