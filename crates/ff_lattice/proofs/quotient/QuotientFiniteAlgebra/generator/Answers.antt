use Rattle.ff_lattice.proofs.Results.{ok_through}
use Rattle.ff_lattice.proofs.quotient.QuotientFiniteAlgebra.generator.Goals as goal

pub class_of_x-requires : goal.class_of_x-requires
class_of_x-requires g c = c.requires.over.quotient

pub returns : goal.returns
returns g c = ok_through c.class_of_x.result (λ a h. h.codes) c.class_of_x.ensures
