-- A commutative ring whose equality is a relation, as fractions with `a/b` the same as `c/d` where `a·d` is `c·b`.
use mathlib.Core.Path.{fun_ext}
use mathlib.Core.Quot.{Quot, mk, Quot-set, sound, ind, lift}
use Rattle.ring_lemmas.specs.Ring.{Operations}

module _ {B : Type 0} (O : Operations B) where
  infixl 65 ◌⊕◌
  infixl 70 ◌⊗◌
  infixr 80 ⊖◌
  open O use {𝟘, 𝟙, ◌⊕◌, ◌⊗◌, ⊖◌}

  pub record RingUpTo (r : B → B → Type 0) : Type 0 where
    pub prop : (a b : B) → IsProp (r a b)
    pub refl : (a : B) → r a a
    pub symm : (a b : B) → r a b → r b a
    pub trans : (a b c : B) → r a b → r b c → r a c
    pub sum_same : (a a' b b' : B) → r a a' → r b b' → r (a ⊕ b) (a' ⊕ b')
    pub product_same : (a a' b b' : B) → r a a' → r b b' → r (a ⊗ b) (a' ⊗ b')
    pub neg_same : (a a' : B) → r a a' → r (⊖ a) (⊖ a')
    pub add_assoc : (a b c : B) → r ((a ⊕ b) ⊕ c) (a ⊕ (b ⊕ c))
    pub add_comm : (a b : B) → r (a ⊕ b) (b ⊕ a)
    pub add_zero : (a : B) → r (a ⊕ 𝟘) a
    pub add_neg : (a : B) → r (a ⊕ ⊖ a) 𝟘
    pub mul_assoc : (a b c : B) → r ((a ⊗ b) ⊗ c) (a ⊗ (b ⊗ c))
    pub mul_comm : (a b : B) → r (a ⊗ b) (b ⊗ a)
    pub mul_one : (a : B) → r (a ⊗ 𝟙) a
    pub mul_add : (a b c : B) → r (a ⊗ (b ⊕ c)) (a ⊗ b ⊕ a ⊗ c)

module _ {B : Type 0} (O : Operations B) (r : B → B → Type 0) (L : RingUpTo O r) where
  -- a function of two classes
  abbrev pub lift2 : (f : B → B → B) → ((a a' b b' : B) → r a a' → r b b' → r (f a b) (f a' b')) → Quot r → Quot r
      → Quot r
  lift2 f h =
      lift {r = r} (hlevel Quot-set) (λ a. lift {r = r} Quot-set (λ b. mk (f a b))
      (λ b b' k. sound (h a a b b' (L.refl a) k)))
      (λ a a' k. fun_ext (ind {r = r} (λ q. Quot-set _ _) (λ b. sound (h a a' b b k (L.refl b)))))

  abbrev pub quotient_ops : Operations (Quot r)
  quotient_ops = record {
    𝟘 = mk O.𝟘;
    𝟙 = mk O.𝟙;
    ◌⊕◌ = lift2 O.◌⊕◌ L.sum_same;
    ◌⊗◌ = lift2 O.◌⊗◌ L.product_same;
    ⊖◌ = lift {r = r} Quot-set (λ a. mk (O.⊖◌ a)) (λ a a' k. sound (L.neg_same a a' k));
  }
