-- Enlarging an order at one element after another: the integral elements that a product of powers takes into the order.
use Rattle.std.proofs.Common.{◌↔◌, List, [], ◌∷◌, refl, sym, ◌∙◌, ap, subst, All}
use Rattle.std.proofs.lemmas.List.Elements.{All-head, All-tail}
use Rattle.ring_lemmas.specs.Ring.{CommRing, pow}
use Rattle.ring_lemmas.proofs.Ring.{one_mul}
use Rattle.ring_theory.specs.Subsets.{IsSubring}
use Rattle.ring_theory.proofs.Local.{power_in}
use Rattle.prime_theory.specs.Orders.{Enlarged, EnlargedAt, PowersOf}

module _ {A : Type 0} (R : CommRing A) (S : A → Type 0) (𝓢 : IsSubring R.ops S) (Int : A → Type 0)
    (scale : (s z : A) → S s → Int z → Int (R.ops.◌⊗◌ s z)) where
  infixl 70 ◌⊗◌
  open R use {𝟙, ◌⊗◌}

  powers_in : (ps : List A) → All S ps → (d : A) → PowersOf R ps d → S d
  powers_in [] h d k = subst S (sym k) 𝓢.one_in
  powers_in (p ∷ ps) h d k =
      subst S (sym k.3)
      (𝓢.product_in _ _ (power_in R S 𝓢 p (All-head S p ps h) k.0) (powers_in ps (All-tail S p ps h) k.1 k.2))

  pub enlarged_iff : (ps : List A) → All S ps → (O : A → Type 0) → ((z : A) → O z → Int z) → (z : A)
      → EnlargedAt R Int ps O z ↔ (Int z × ((d : A) × PowersOf R ps d × O (d ⊗ z)))
  enlarged_iff [] h O f z = (
    λ m. (f z m, (𝟙, refl, subst O (sym (one_mul R z)) m)),
    λ m. subst O (ap (λ x. x ⊗ z) m.1.1 ∙ one_mul R z) m.1.2,
  )
  enlarged_iff (p ∷ ps) h O f z =
      let ih = enlarged_iff ps (All-tail S p ps h) (Enlarged R Int p O) (λ y m. m.in_Int) z in (
        λ m.
            let r = ih.0 m in
            let e = r.1.2 in (
              r.0,
              (
                pow R.ops p e.exponent ⊗ r.1.0,
                (e.exponent, r.1.0, r.1.1, refl),
                subst O (sym (R.mul_assoc _ _ _)) e.inside,
              ),
            ),
        λ m.
            let k = m.1.1 in
            ih.1 (
              m.0,
              (
                k.1,
                k.2,
                record {
                  in_Int = scale k.1 z (powers_in ps (All-tail S p ps h) k.1 k.2) m.0;
                  exponent = k.0;
                  inside = subst O (ap (λ x. x ⊗ z) k.3 ∙ R.mul_assoc _ _ _) m.1.2;
                },
              ),
            ),
      )
