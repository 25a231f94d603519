use Rattle.std.proofs.Common.{◌≡◌, drop}
use Rattle.ff_factor.specs.Quotients.{product_modulo}
use Rattle.ff_factor.proofs.steps.multiply.Given as goal

abbrev pub invariant-loop-i : goal.invariant-loop-i
invariant-loop-i g l = l.product ≡ product_modulo (g.K.SmallField.field l.k).ops l.g (drop l.i l.a) l.b
