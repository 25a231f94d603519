-- Orders that are maximal at p are those that have the integral elements locally at p.
use Rattle.std.proofs.Common.{◌↔◌, subst}
use Rattle.ring_lemmas.specs.Ring.{CommRing}
use Rattle.ring_theory.specs.Subsets.{IsSubring, IsModule}
use Rattle.ring_theory.specs.Local.{PrimeTo, Locally}
use Rattle.ring_theory.proofs.Local.{two_denominators}
use Rattle.prime_theory.specs.Orders.{MaximalAt, Denominator}

module _ {A : Type 0} (R : CommRing A) (S : A → Type 0) (𝓢 : IsSubring R.ops S) where
  infixl 65 ◌⊕◌
  infixl 70 ◌⊗◌
  infixr 80 ⊖◌
  open R use {𝟘, 𝟙, ◌⊕◌, ◌⊗◌, ⊖◌}

  module _ (N : A → Type 0) (p : A) (𝓝 : PrimeTo R.ops S N p) (Int : A → Type 0) where
    pub maximal_of_locally : (O : A → Type 0) → IsModule R.ops S O → ((z : A) → Int z → Locally R.ops N O z)
        → MaximalAt R.ops p Int O
    maximal_of_locally O 𝓞 f z n h m =
        let l = f z h in two_denominators R S 𝓢 N p 𝓝 O 𝓞 l.factor z n l.factor_in l.multiple_in m

    -- where integral elements are closed under multiples by N and have denominators, maximal at p means integral
    -- elements locally
    pub maximal_iff_locally : (O : A → Type 0) → IsModule R.ops S O → ((w z : A) → N w → Int z → Int (w ⊗ z))
        → ((z : A) → Int z → Denominator R.ops N O p z)
        → MaximalAt R.ops p Int O ↔ ((z : A) → Int z → Locally R.ops N O z)
    maximal_iff_locally O 𝓞 scale den = (
      λ h z m.
          let d = den z m in
          record {
            factor = d.cofactor;
            factor_in = d.cofactor_in;
            multiple_in =
                h (d.cofactor ⊗ z) d.exponent (scale d.cofactor z d.cofactor_in m)
                (subst O (R.mul_assoc _ _ _) d.multiple_in);
          },
      maximal_of_locally O 𝓞,
    )
