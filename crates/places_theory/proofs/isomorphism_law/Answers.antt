-- The theorems of `Transport`.
use Rattle.places_theory.proofs.Transport.{integral_iff, span_iff, maximal_iff, value_iff, value_minus_iff}
use Rattle.places_theory.proofs.isomorphism_law.Goals as goal

pub returns-clause-integral : goal.returns-clause-integral
returns-clause-integral g c = λ R A f iso e. integral_iff R A f iso g.O.Subset.members g.B.Subset.members e

pub returns-clause-spans : goal.returns-clause-spans
returns-clause-spans g c = λ R A f iso e. span_iff R A f iso g.O.Subset.members g.B.Subset.members e

pub returns-clause-maximal : goal.returns-clause-maximal
returns-clause-maximal g c = λ R A f iso e d. maximal_iff R A f iso g.O.Subset.members g.M.Subset.members
    g.B.Subset.members g.N.Subset.members e d

pub returns-clause-values : goal.returns-clause-values
returns-clause-values g c = λ R A f iso e d. value_iff R A f iso g.O.Subset.members g.M.Subset.members
    g.B.Subset.members g.N.Subset.members e d

pub returns-clause-poles : goal.returns-clause-poles
returns-clause-poles g c = λ R A f iso e d. value_minus_iff R A f iso g.O.Subset.members g.M.Subset.members
    g.B.Subset.members g.N.Subset.members e d
