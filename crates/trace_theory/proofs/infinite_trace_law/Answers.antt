-- The theorem of `InfiniteTraces`.
use Rattle.places_theory.proofs.PresentationMap.{presentation_map, map_element}
use Rattle.places_theory.proofs.Presentations.{presentation_isomorphism}
use Rattle.trace_theory.proofs.InfiniteTraces.{same_trace}
use Rattle.trace_theory.proofs.infinite_trace_law.Goals as goal

pub returns : goal.returns
returns c = λ k p q n some h. (
  presentation_map k p q n h some,
  presentation_isomorphism k p q n h some,
  map_element k p q n h some,
  same_trace k p q n h some,
)
