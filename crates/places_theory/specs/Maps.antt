-- Isomorphisms of rings.
use Rattle.std.specs.Prelude.{◌≡◌}
use Rattle.ring_lemmas.specs.Ring.{CommRing}
use Rattle.ring_theory.specs.Maps.{IsHom}

-- a homomorphism that takes different elements to different ones and has each element as a value
pub record IsIsomorphism {A B : Type 0} (R : CommRing A) (S : CommRing B) (f : A → B) : Type 0 where
  pub hom : IsHom R S f
  pub injective : (a b : A) → f a ≡ f b → a ≡ b
  pub onto : (b : B) → (a : A) × (f a ≡ b)
