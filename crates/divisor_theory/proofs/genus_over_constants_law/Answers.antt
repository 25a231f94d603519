-- The theorems of `Genus`.
use Rattle.divisor_theory.proofs.Genus.{genus_degrees, genus_exists, genus_once}
use Rattle.divisor_theory.proofs.genus_over_constants_law.Goals as goal

pub returns-clause-degrees : goal.returns-clause-degrees
returns-clause-degrees c =
    λ k e some field b d reduced n constants g genus. genus_degrees e some field b d reduced n constants g genus

pub returns-clause-exists : goal.returns-clause-exists
returns-clause-exists c = λ k e some field. genus_exists e some field

pub returns-clause-once : goal.returns-clause-once
returns-clause-once c = λ k e some field g h i j. genus_once e some field g h i j
