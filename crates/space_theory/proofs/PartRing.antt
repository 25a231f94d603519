-- A subring that is given by a proposition, as a ring of its own.
use Rattle.std.proofs.Common.{◌≡◌}
use mathlib.Core.HLevel.{Σ_prop_path}
use Rattle.ring_lemmas.specs.Ring.{CommRing}
use Rattle.ring_theory.specs.Subsets.{IsSubring}

module _ {A : Type 0} (R : CommRing A) (S : A → Type 0) (𝓢 : IsSubring R.ops S) (prop : (a : A) → IsProp (S a)) where
  abbrev pub Part : Type 0
  Part = (a : A) × S a

  pub same_part : (a b : Part) → a.0 ≡ b.0 → a ≡ b
  same_part a b e = Σ_prop_path prop e

  pub part_set : IsSet Part
  part_set = hlevel (R.is_set, prop)

  abbrev pub part_ring : CommRing Part
  part_ring = record {
    ops = record {
      𝟘 = (R.𝟘, 𝓢.zero_in);
      𝟙 = (R.𝟙, 𝓢.one_in);
      ◌⊕◌ = λ a b. (R.◌⊕◌ a.0 b.0, 𝓢.sum_in a.0 b.0 a.1 b.1);
      ◌⊗◌ = λ a b. (R.◌⊗◌ a.0 b.0, 𝓢.product_in a.0 b.0 a.1 b.1);
      ⊖◌ = λ a. (R.⊖◌ a.0, 𝓢.neg_in a.0 a.1);
    };
    is_set = part_set;
    add_assoc = λ a b c. same_part _ _ (R.add_assoc a.0 b.0 c.0);
    add_comm = λ a b. same_part _ _ (R.add_comm a.0 b.0);
    add_zero = λ a. same_part _ _ (R.add_zero a.0);
    add_neg = λ a. same_part _ _ (R.add_neg a.0);
    mul_assoc = λ a b c. same_part _ _ (R.mul_assoc a.0 b.0 c.0);
    mul_comm = λ a b. same_part _ _ (R.mul_comm a.0 b.0);
    mul_one = λ a. same_part _ _ (R.mul_one a.0);
    mul_add = λ a b c. same_part _ _ (R.mul_add a.0 b.0 c.0);
  }
