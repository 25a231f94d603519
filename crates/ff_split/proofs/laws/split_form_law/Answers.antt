-- The theorems of `Forms`.
use Rattle.ff_split.proofs.Forms.{one_functions, one_degrees, one_value}
use Rattle.ff_split.proofs.laws.split_form_law.Goals as goal

pub returns-clause-functions : goal.returns-clause-functions
returns-clause-functions g = λ k c fin inf s t curve form f h. one_functions k c curve fin inf form s t f h

pub returns-clause-degrees : goal.returns-clause-degrees
returns-clause-degrees g = λ k c fin inf s t curve form f h. one_degrees k c curve fin inf form s t f h

pub returns-clause-values : goal.returns-clause-values
returns-clause-values g = λ k c fin inf s t curve form f h a b. one_value k c curve fin inf form s t f h a b
