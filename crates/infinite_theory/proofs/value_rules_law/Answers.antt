-- The theorems of `ValueRules`.
use Rattle.infinite_theory.proofs.ValueRules.{product_rule, sum_rule}
use Rattle.infinite_theory.proofs.value_rules_law.Goals as goal

pub returns-clause-product : goal.returns-clause-product
returns-clause-product c = product_rule

pub returns-clause-sum : goal.returns-clause-sum
returns-clause-sum c = sum_rule
