-- The theorems of `FieldDegrees`.
use Rattle.constants_theory.proofs.FieldDegrees.{degrees_nonnegative, dimension_positive, genus_by_degrees, genus_quotient}
use Rattle.constants_theory.proofs.field_degrees_law.Goals as goal

pub returns-clause-nonnegative : goal.returns-clause-nonnegative
returns-clause-nonnegative g = λ k c some field b d reduced i l. degrees_nonnegative c some field b d reduced i l

pub returns-clause-positive : goal.returns-clause-positive
returns-clause-positive g = λ k c some field b d reduced. dimension_positive c some field b d reduced

pub returns-clause-genus : goal.returns-clause-genus
returns-clause-genus q = λ k c some field b d reduced g h. genus_by_degrees c some field b d reduced g h

pub returns-clause-quotient : goal.returns-clause-quotient
returns-clause-quotient q = λ k c some field b d reduced. genus_quotient c some field b d reduced
