-- Maps of rings.
use Rattle.std.specs.Prelude.{◌≡◌}
use Rattle.ring_lemmas.specs.Ring.{CommRing}

-- the map keeps sums, products and 1
pub record IsHom {P E : Type 0} (S : CommRing P) (F : CommRing E) (map : P → E) : Type 0 where
  pub add : (a b : P) → map (S.◌⊕◌ a b) ≡ F.◌⊕◌ (map a) (map b)
  pub mul : (a b : P) → map (S.◌⊗◌ a b) ≡ F.◌⊗◌ (map a) (map b)
  pub 𝟙 : map S.𝟙 ≡ F.𝟙
