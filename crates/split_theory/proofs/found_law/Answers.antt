-- The theorems of `Found`.
use Rattle.split_theory.proofs.Found.{found_coordinates, found_from}
use Rattle.split_theory.proofs.found_law.Goals as goal

pub returns-clause-coordinates : goal.returns-clause-coordinates
returns-clause-coordinates g = λ k c inf e q vs curve form size h found.
    found_coordinates k c curve inf form e q vs size h found

pub returns-clause-from_exponent : goal.returns-clause-from_exponent
returns-clause-from_exponent g = λ k c inf tame e j v curve form le less h.
    found_from k c curve inf form tame e j v le less h
