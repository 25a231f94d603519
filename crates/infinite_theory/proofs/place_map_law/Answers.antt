-- The theorems of `PlaceMaps`.
use Rattle.infinite_theory.proofs.PlaceMaps.{place_of, members_of, degree_of, value_of, every_place}
use Rattle.infinite_theory.proofs.place_map_law.Goals as goal

pub returns-clause-place : goal.returns-clause-place
returns-clause-place c = place_of

pub returns-clause-members : goal.returns-clause-members
returns-clause-members c = members_of

pub returns-clause-degree : goal.returns-clause-degree
returns-clause-degree c = degree_of

pub returns-clause-value : goal.returns-clause-value
returns-clause-value c = value_of

pub returns-clause-every : goal.returns-clause-every
returns-clause-every c = every_place
