-- Congruence modulo an element, and the laws of a ring for what stands for the classes.
use Rattle.std.proofs.Common.{◌≡◌, refl, sym, ap, ap₂, ◌∙◌}
use Rattle.ring_lemmas.specs.Ring.{Operations, CommRing}
use Rattle.ring_lemmas.specs.Congruence.{IsCongruent, Represents}
use Rattle.ring_lemmas.proofs.Ring.{add_add, mul_zero, mul_left_comm}

module _ {S : Type 0} (s : CommRing S) (m : S) where
  open s use {𝟘, ◌⊕◌, ◌⊗◌, ⊖◌}

  infixl 65 ◌⊕◌
  infixl 70 ◌⊗◌
  infixr 80 ⊖◌
  pub congruent_same : (x y : S) → x ≡ y → IsCongruent s.ops m x y
  congruent_same x y same = record { times = 𝟘; differs = same ∙ sym (ap (λ w. y ⊕ w) (mul_zero s m) ∙ s.add_zero y) }

  pub congruent_refl : (x : S) → IsCongruent s.ops m x x
  congruent_refl x = congruent_same x x refl

  pub congruent_sym : (x y : S) → IsCongruent s.ops m x y → IsCongruent s.ops m y x
  congruent_sym x y c = record {
    times = ⊖ c.times;
    differs = sym (
        ap (λ w. w ⊕ m ⊗ ⊖ c.times) c.differs
        ∙ s.add_assoc y (m ⊗ c.times) (m ⊗ ⊖ c.times)
        ∙ ap (λ w. y ⊕ w) (sym (s.mul_add m c.times (⊖ c.times)) ∙ ap (λ w. m ⊗ w) (s.add_neg c.times) ∙ mul_zero s m)
        ∙ s.add_zero y);
  }

  pub congruent_trans : (x y z : S) → IsCongruent s.ops m x y → IsCongruent s.ops m y z → IsCongruent s.ops m x z
  congruent_trans x y z c d = record {
    times = d.times ⊕ c.times;
    differs =
        c.differs ∙ ap (λ w. w ⊕ m ⊗ c.times) d.differs ∙ s.add_assoc z (m ⊗ d.times) (m ⊗ c.times)
        ∙ ap (λ w. z ⊕ w) (sym (s.mul_add m d.times c.times));
  }

  pub congruent_add : (x x' y y' : S) → IsCongruent s.ops m x x' → IsCongruent s.ops m y y'
      → IsCongruent s.ops m (x ⊕ y) (x' ⊕ y')
  congruent_add x x' y y' c d = record {
    times = c.times ⊕ d.times;
    differs =
        ap₂ ◌⊕◌ c.differs d.differs ∙ add_add s x' (m ⊗ c.times) y' (m ⊗ d.times)
        ∙ ap (λ w. x' ⊕ y' ⊕ w) (sym (s.mul_add m c.times d.times));
  }

  pub congruent_mul_left : (a x x' : S) → IsCongruent s.ops m x x' → IsCongruent s.ops m (a ⊗ x) (a ⊗ x')
  congruent_mul_left a x x' c = record {
    times = a ⊗ c.times;
    differs = ap (λ w. a ⊗ w) c.differs ∙ s.mul_add a x' (m ⊗ c.times)
        ∙ ap (λ w. a ⊗ x' ⊕ w) (mul_left_comm s a m c.times);
  }

  pub congruent_mul : (x x' y y' : S) → IsCongruent s.ops m x x' → IsCongruent s.ops m y y'
      → IsCongruent s.ops m (x ⊗ y) (x' ⊗ y')
  congruent_mul x x' y y' c d =
      congruent_trans (x ⊗ y) (x ⊗ y') (x' ⊗ y') (congruent_mul_left x y y' d)
      (congruent_trans (x ⊗ y') (y' ⊗ x) (x' ⊗ y') (congruent_same (x ⊗ y') (y' ⊗ x) (s.mul_comm x y'))
      (congruent_trans (y' ⊗ x) (y' ⊗ x') (x' ⊗ y') (congruent_mul_left y' x x' c)
      (congruent_same (y' ⊗ x') (x' ⊗ y') (s.mul_comm y' x'))))

module _ {C S : Type 0} (c : Operations C) (s : CommRing S) (m : S) (rep : Represents c s.ops m) where
  same : (x : S) → IsCongruent s.ops m x x
  same x = congruent_refl s m x

  trans : {x y z : S} → IsCongruent s.ops m x y → IsCongruent s.ops m y z → IsCongruent s.ops m x z
  trans {x = x} {y = y} {z = z} a b = congruent_trans s m x y z a b

  add : {x x' y y' : S} → IsCongruent s.ops m x x' → IsCongruent s.ops m y y'
      → IsCongruent s.ops m (s.◌⊕◌ x y) (s.◌⊕◌ x' y')
  add {x = x} {x' = x'} {y = y} {y' = y'} a b = congruent_add s m x x' y y' a b

  mul : {x x' y y' : S} → IsCongruent s.ops m x x' → IsCongruent s.ops m y y'
      → IsCongruent s.ops m (s.◌⊗◌ x y) (s.◌⊗◌ x' y')
  mul {x = x} {x' = x'} {y = y} {y' = y'} a b = congruent_mul s m x x' y y' a b

  by : {x y : C} {u v : S} → IsCongruent s.ops m (rep.of x) u → IsCongruent s.ops m (rep.of y) v → u ≡ v → x ≡ y
  by {x = x} {y = y} {u = u} {v = v} x_is y_is equal =
      rep.same x y (trans x_is (trans (congruent_same s m u v equal) (congruent_sym s m (rep.of y) v y_is)))

  pub represented_add_assoc : (x y z : C) → c.◌⊕◌ (c.◌⊕◌ x y) z ≡ c.◌⊕◌ x (c.◌⊕◌ y z)
  represented_add_assoc x y z =
      by (trans (rep.of_add (c.◌⊕◌ x y) z) (add (rep.of_add x y) (same (rep.of z))))
      (trans (rep.of_add x (c.◌⊕◌ y z)) (add (same (rep.of x)) (rep.of_add y z)))
      (s.add_assoc (rep.of x) (rep.of y) (rep.of z))

  pub represented_add_comm : (x y : C) → c.◌⊕◌ x y ≡ c.◌⊕◌ y x
  represented_add_comm x y = by (rep.of_add x y) (rep.of_add y x) (s.add_comm (rep.of x) (rep.of y))

  pub represented_add_zero : (x : C) → c.◌⊕◌ x c.𝟘 ≡ x
  represented_add_zero x =
      by (trans (rep.of_add x c.𝟘) (add (same (rep.of x)) rep.of_zero)) (same (rep.of x)) (s.add_zero (rep.of x))

  pub represented_add_neg : (x : C) → c.◌⊕◌ x (c.⊖◌ x) ≡ c.𝟘
  represented_add_neg x =
      by (trans (rep.of_add x (c.⊖◌ x)) (add (same (rep.of x)) (rep.of_neg x))) rep.of_zero (s.add_neg (rep.of x))

  pub represented_mul_assoc : (x y z : C) → c.◌⊗◌ (c.◌⊗◌ x y) z ≡ c.◌⊗◌ x (c.◌⊗◌ y z)
  represented_mul_assoc x y z =
      by (trans (rep.of_mul (c.◌⊗◌ x y) z) (mul (rep.of_mul x y) (same (rep.of z))))
      (trans (rep.of_mul x (c.◌⊗◌ y z)) (mul (same (rep.of x)) (rep.of_mul y z)))
      (s.mul_assoc (rep.of x) (rep.of y) (rep.of z))

  pub represented_mul_comm : (x y : C) → c.◌⊗◌ x y ≡ c.◌⊗◌ y x
  represented_mul_comm x y = by (rep.of_mul x y) (rep.of_mul y x) (s.mul_comm (rep.of x) (rep.of y))

  pub represented_mul_one : (x : C) → c.◌⊗◌ x c.𝟙 ≡ x
  represented_mul_one x =
      by (trans (rep.of_mul x c.𝟙) (mul (same (rep.of x)) rep.of_one)) (same (rep.of x)) (s.mul_one (rep.of x))

  pub represented_mul_add : (x y z : C) → c.◌⊗◌ x (c.◌⊕◌ y z) ≡ c.◌⊕◌ (c.◌⊗◌ x y) (c.◌⊗◌ x z)
  represented_mul_add x y z =
      by (trans (rep.of_mul x (c.◌⊕◌ y z)) (mul (same (rep.of x)) (rep.of_add y z)))
      (trans (rep.of_add (c.◌⊗◌ x y) (c.◌⊗◌ x z)) (add (rep.of_mul x y) (rep.of_mul x z)))
      (s.mul_add (rep.of x) (rep.of y) (rep.of z))
