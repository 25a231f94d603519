-- The theorems of `Index` and `Rescale`.
use Rattle.reduced_basis_theory.proofs.Laws.{lattice_dimension, family_dimension}
use Rattle.reduced_basis_theory.proofs.Rescale.{shift_law}
use Rattle.reduced_basis_theory.proofs.index_law.Goals as goal

pub returns-clause-finite : goal.returns-clause-finite
returns-clause-finite g c =
    λ k field M n b b' d d' reduced reduced' inner. lattice_dimension k field M n g.I.Subset.members
    g.J.Subset.members g.N.Filtration.members b b' d d' reduced reduced' inner

pub returns-clause-infinite : goal.returns-clause-infinite
returns-clause-infinite g c =
    λ k field M n b b' d d' x reduced reduced' inner. family_dimension k field M n x g.I.Subset.members
    g.N.Filtration.members g.L.Filtration.members b b' d d' reduced reduced' inner

pub returns-clause-shift : goal.returns-clause-shift
returns-clause-shift g c = λ k field M n b c b' c' d f d' f' one two three four e some inner.
    shift_law k field M n g.I.Subset.members g.J.Subset.members g.N.Filtration.members g.L.Filtration.members b c b'
    c' d f d' f' one two three four e some inner
