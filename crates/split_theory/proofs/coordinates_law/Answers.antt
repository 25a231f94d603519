-- The theorems of `Coordinates`.
use Rattle.split_theory.proofs.Coordinates.{coordinates_in_t, turned_coordinates, coordinates_in_x}
use Rattle.split_theory.proofs.coordinates_law.Goals as goal

pub returns-clause-in_t : goal.returns-clause-in_t
returns-clause-in_t g = λ k c inf curve form tame. coordinates_in_t k c curve inf form tame

pub returns-clause-turned : goal.returns-clause-turned
returns-clause-turned g = λ k c inf e D q curve form h le short. turned_coordinates k c curve inf form e D q h le short

pub returns-clause-in_x : goal.returns-clause-in_x
returns-clause-in_x g = λ k c inf curve form tame. coordinates_in_x k c curve inf form tame
