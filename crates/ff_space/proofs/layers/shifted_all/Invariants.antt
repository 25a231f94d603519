use Rattle.std.proofs.Common.{◌≡◌, map, take}
use Rattle.ff_poly.specs.Words.{shifted}
use Rattle.ff_space.proofs.layers.shifted_all.Given as goal

-- the polynomials so far
abbrev pub invariant-loop-v : goal.invariant-loop-v
invariant-loop-v l = l.shifted.items ≡ map (λ v. shifted v 1) (take l.v-index l.polys)
