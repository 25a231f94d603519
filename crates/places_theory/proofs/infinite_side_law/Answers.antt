-- The theorems of `InfiniteSide`.
use Rattle.places_theory.proofs.InfiniteSide.{scalars_local, integral_local, span_local}
use Rattle.places_theory.proofs.infinite_side_law.Goals as goal

pub returns-clause-scalars : goal.returns-clause-scalars
returns-clause-scalars c = scalars_local

pub returns-clause-integral : goal.returns-clause-integral
returns-clause-integral c = integral_local

pub returns-clause-spans : goal.returns-clause-spans
returns-clause-spans c = span_local
