-- Congruence modulo an element, and what stands for the classes.
use Rattle.std.specs.Prelude.{◌≡◌}
use Rattle.ring_lemmas.specs.Ring.{Operations}

-- x and y differ by a multiple of m
pub record IsCongruent {S : Type 0} (s : Operations S) (m x y : S) : Type 0 where
  pub times : S
  pub differs : x ≡ s.◌⊕◌ y (s.◌⊗◌ m times)

-- C stands for the classes of S modulo m: `of` gives a representative, and two that are congruent are one
pub record Represents {C S : Type 0} (c : Operations C) (s : Operations S) (m : S) : Type 0 where
  pub of : C → S
  pub of_zero : IsCongruent s m (of c.𝟘) s.𝟘
  pub of_one : IsCongruent s m (of c.𝟙) s.𝟙
  pub of_add : (x y : C) → IsCongruent s m (of (c.◌⊕◌ x y)) (s.◌⊕◌ (of x) (of y))
  pub of_neg : (x : C) → IsCongruent s m (of (c.⊖◌ x)) (s.⊖◌ (of x))
  pub of_mul : (x y : C) → IsCongruent s m (of (c.◌⊗◌ x y)) (s.◌⊗◌ (of x) (of y))
  pub same : (x y : C) → IsCongruent s m (of x) (of y) → x ≡ y
