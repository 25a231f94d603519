-- The theorems of `InfiniteLaws` on one infinite place.
use Rattle.infinite_theory.proofs.InfiniteLaws.{over_t, same_decided, degree_exists}
use Rattle.infinite_theory.proofs.infinite_place_law.Goals as goal

pub returns-clause-over : goal.returns-clause-over
returns-clause-over c = over_t

pub returns-clause-same : goal.returns-clause-same
returns-clause-same c = same_decided

pub returns-clause-has_degree : goal.returns-clause-has_degree
returns-clause-has_degree c = degree_exists
