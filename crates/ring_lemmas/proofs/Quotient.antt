-- Classes up to a relation: what holds of classes of members holds of all, and related members have one class.
use mathlib.Core.Quot.{Quot, mk, Quot-set, sound, ind}
use mathlib.Core.Quot.Setoid.{Setoid}
use mathlib.Core.Quot.Quotient.{exact}
use Rattle.std.proofs.Common.{◌≡◌, ◌↔◌}
use Rattle.ring_lemmas.specs.Ring.{Operations}
use Rattle.ring_lemmas.specs.Quotient.{RingUpTo}

module _ {B : Type 0} (O : Operations B) (r : B → B → Type 0) (L : RingUpTo O r) where
  -- an equation for all classes holds where it holds for those of members
  pub each : {X : Type 0} → IsSet X → (f g : Quot r → X) → ((a : B) → f (mk a) ≡ g (mk a)) → (q : Quot r) → f q ≡ g q
  each set f g h = ind {r = r} (λ q. set (f q) (g q)) h

  pub each2 : (f g : Quot r → Quot r → Quot r) → ((a b : B) → f (mk a) (mk b) ≡ g (mk a) (mk b))
      → (p q : Quot r) → f p q ≡ g p q
  each2 f g h p q = each Quot-set (λ p. f p q) (λ p. g p q) (λ a. each Quot-set (f (mk a)) (g (mk a)) (h a) q) p

  pub each3 : (f g : Quot r → Quot r → Quot r → Quot r)
      → ((a b c : B) → f (mk a) (mk b) (mk c) ≡ g (mk a) (mk b) (mk c))
      → (p q s : Quot r) → f p q s ≡ g p q s
  each3 f g h p q s =
      each Quot-set (λ p. f p q s) (λ p. g p q s) (λ a. each2 (f (mk a)) (g (mk a)) (h a) q s) p

  relation : Setoid {0, 0} B
  relation = record { r = r; iseqv = record { refl = L.refl; symm = L.symm; trans = L.trans } }

  pub class_eq : (a b : B) → (◌≡◌ {A = Quot r} (mk a) (mk b)) ↔ r a b
  unfolding relation
  class_eq a b = (λ e. exact relation L.prop e, λ h. sound h)
