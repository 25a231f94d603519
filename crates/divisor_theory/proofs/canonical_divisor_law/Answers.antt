-- The theorems of `CanonicalDivisors` and `Allowed`.
use Rattle.divisor_theory.proofs.CanonicalDivisors.{canonical_exists}
use Rattle.divisor_theory.proofs.Allowed.{canonical_once, allowed_order}
use Rattle.divisor_theory.proofs.canonical_divisor_law.Goals as goal

pub returns-clause-exists : goal.returns-clause-exists
returns-clause-exists c = λ k e some field. canonical_exists e some field

pub returns-clause-once : goal.returns-clause-once
returns-clause-once c = λ k e W V some w v P place m n h i. canonical_once e some W V w v P place m n h i

pub returns-clause-allowed : goal.returns-clause-allowed
returns-clause-allowed c = λ k e D E some is P place within m n h i. allowed_order e some D E is P place within m n h i
