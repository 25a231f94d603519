-- The theorems of `SideOfPlaces`.
use Rattle.order_theory.proofs.SideOfPlaces.{lattice_of_place, prime_of_place, same_decided, degree_from_index, degree_of_place}
use Rattle.order_theory.proofs.finite_place_law.Goals as goal

pub returns-clause-lattice : goal.returns-clause-lattice
returns-clause-lattice c = λ k e P h s. lattice_of_place e P h s

pub returns-clause-prime : goal.returns-clause-prime
returns-clause-prime c = λ k e P h s. prime_of_place e P h s

pub returns-clause-same : goal.returns-clause-same
returns-clause-same c = λ k e P Q h s h' s'. same_decided e P Q h s h' s'

pub returns-clause-degree : goal.returns-clause-degree
returns-clause-degree c = λ k e P g s i. degree_from_index e P g s i

pub returns-clause-has_degree : goal.returns-clause-has_degree
returns-clause-has_degree c = λ k e P some h s. degree_of_place e some P h s
