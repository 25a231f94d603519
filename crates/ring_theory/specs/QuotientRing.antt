-- The ring of the classes of a ring up to a relation.
use mathlib.Core.Quot.{Quot, Quot-set, sound, ind}
use Rattle.ring_lemmas.specs.Ring.{Operations, CommRing}
use Rattle.ring_lemmas.specs.Quotient.{RingUpTo, quotient_ops}
use Rattle.ring_lemmas.proofs.Quotient.{each2, each3}

module _ {B : Type 0} (O : Operations B) (r : B → B → Type 0) (L : RingUpTo O r) where
  infixl 65 ◌⊕◌
  infixl 70 ◌⊗◌
  open quotient_ops O r L use {◌⊕◌, ◌⊗◌}

  abbrev pub quotient_ring : CommRing (Quot r)
  quotient_ring = record {
    ops = quotient_ops O r L;
    is_set = Quot-set;
    add_assoc = each3 O r L (λ a b c. (a ⊕ b) ⊕ c) (λ a b c. a ⊕ (b ⊕ c)) (λ a b c. sound (L.add_assoc a b c));
    add_comm = each2 O r L (λ a b. a ⊕ b) (λ a b. b ⊕ a) (λ a b. sound (L.add_comm a b));
    add_zero = ind {r = r} (λ q. Quot-set _ _) (λ a. sound (L.add_zero a));
    add_neg = ind {r = r} (λ q. Quot-set _ _) (λ a. sound (L.add_neg a));
    mul_assoc = each3 O r L (λ a b c. (a ⊗ b) ⊗ c) (λ a b c. a ⊗ (b ⊗ c)) (λ a b c. sound (L.mul_assoc a b c));
    mul_comm = each2 O r L (λ a b. a ⊗ b) (λ a b. b ⊗ a) (λ a b. sound (L.mul_comm a b));
    mul_one = ind {r = r} (λ q. Quot-set _ _) (λ a. sound (L.mul_one a));
    mul_add = each3 O r L (λ a b c. a ⊗ (b ⊕ c)) (λ a b c. a ⊗ b ⊕ a ⊗ c) (λ a b c. sound (L.mul_add a b c));
  }
