-- A ring modulo an element, as a ring of its own; and the primitive idempotents of a ring as a type.
use Rattle.std.specs.Prelude.{◌≡◌, ◌↔◌}
use Rattle.ring_lemmas.specs.Ring.{Operations}
use Rattle.prime_theory.specs.Ideals.{Multiple}
use Rattle.finite_algebra_theory.specs.Algebra.{IsPrimitive}

-- Q is O modulo p: `reduce` keeps sums and products of members of O and is 0 exactly on p·O, `lift` takes
-- representatives in O
pub record IsReduction {A B : Type 0} (R : Operations A) (O : A → Type 0) (p : A) (Q : Operations B) (reduce : A → B)
    (lift : B → A) : Type 0 where
  pub lift_in : (b : B) → O (lift b)
  pub reduce_lift : (b : B) → reduce (lift b) ≡ b
  pub one : reduce R.𝟙 ≡ Q.𝟙
  pub add : (a c : A) → O a → O c → reduce (R.◌⊕◌ a c) ≡ Q.◌⊕◌ (reduce a) (reduce c)
  pub mul : (a c : A) → O a → O c → reduce (R.◌⊗◌ a c) ≡ Q.◌⊗◌ (reduce a) (reduce c)
  pub kernel : (a : A) → O a → (reduce a ≡ Q.𝟘) ↔ Multiple R p O a

-- a primitive idempotent
abbrev pub Primitive : {B : Type 0} → Operations B → Type 0
Primitive {B} Q = (e : B) × IsPrimitive Q e
