-- Division with rest.
use Rattle.std.specs.Prelude.{◌≡◌, ◌<◌, length}
use Rattle.ring_lemmas.specs.Ring.{TestedRing}
use Rattle.ring_lemmas.specs.Polynomials.{Pol, pol_ops}

-- a is b times q and the rest, which is shorter than b
pub record IsDivision {A : Type 0} (r : TestedRing A) (a b q rest : Pol r) : Type 0 where
  pub whole : a ≡ (pol_ops r).◌⊕◌ ((pol_ops r).◌⊗◌ b q) rest
  pub shorter : length rest.0 < length b.0
