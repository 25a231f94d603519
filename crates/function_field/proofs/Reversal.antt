-- A polynomial at 1/x, times a power of x, is the reversed polynomial at x.
use Rattle.std.proofs.Common.{◌≡◌, ℕ, List, [], ◌∷◌, ◌++◌, length, reverse, sym, ◌∙◌, ap, ap₂}
use Rattle.std.proofs.lemmas.List.{length-reverse}
use mathlib.Core.List.{reverse-cons}
use Rattle.ring_lemmas.specs.Ring.{CommRing, pow}
use Rattle.ring_lemmas.proofs.Ring.{ring_rules, mul_zero}

module _ {E : Type 0} (F : CommRing E) (e : ℕ → E) where
  open F use {𝟘, 𝟙, ◌⊕◌, ◌⊗◌, ⊖◌}

  infixl 65 ◌⊕◌
  infixl 70 ◌⊗◌
  infixr 80 ⊖◌
  -- the sum of e(c_i)·t^i
  unfoldable pub value : E → List ℕ → E
  value t [] = 𝟘
  value t (c ∷ w) = e c ⊕ t ⊗ value t w

  pub value_append : (x : E) (w : List ℕ) (c : ℕ) → value x (w ++ c ∷ []) ≡ value x w ⊕ pow F.ops x (length w) ⊗ e c
  unfolding value
  value_append x [] c =
      ap (λ s. e c ⊕ s) (mul_zero F x) ∙ F.add_comm (e c) 𝟘
      ∙ ap (λ s. 𝟘 ⊕ s) (sym (F.mul_comm 𝟙 (e c) ∙ F.mul_one (e c)))
  value_append x (b ∷ w) c =
      ap (λ s. e b ⊕ x ⊗ s) (value_append x w c) ∙ regroup (e b) x (value x w) (pow F.ops x (length w)) (e c)
    where
      regroup : (b x v p c : E) → b ⊕ x ⊗ (v ⊕ p ⊗ c) ≡ b ⊕ x ⊗ v ⊕ x ⊗ p ⊗ c
      regroup b x v p c = simp ring_rules

  pub value_reverse : (x t : E) → x ⊗ t ≡ 𝟙 → (w : List ℕ)
      → pow F.ops x (length w) ⊗ value t w ≡ x ⊗ value x (reverse w)
  unfolding value
  value_reverse x t h [] = mul_zero F 𝟙 ∙ sym (mul_zero F x)
  value_reverse x t h (c ∷ w) =
      regroup (pow F.ops x (length w)) x (e c) t (value t w)
      ∙ ap₂ (λ s u. x ⊗ pow F.ops x (length w) ⊗ e c ⊕ s ⊗ u) h (value_reverse x t h w)
      ∙ collect (pow F.ops x (length w)) x (e c) (value x (reverse w))
      ∙ ap (λ n. x ⊗ (value x (reverse w) ⊕ pow F.ops x n ⊗ e c)) (sym (length-reverse w))
      ∙ ap (λ s. x ⊗ s) (sym (value_append x (reverse w) c) ∙ ap (value x) (sym (reverse-cons c w)))
    where
      regroup : (p x c t v : E) → x ⊗ p ⊗ (c ⊕ t ⊗ v) ≡ x ⊗ p ⊗ c ⊕ x ⊗ t ⊗ (p ⊗ v)
      regroup p x c t v = simp ring_rules

      collect : (p x c v : E) → x ⊗ p ⊗ c ⊕ 𝟙 ⊗ (x ⊗ v) ≡ x ⊗ (v ⊕ p ⊗ c)
      collect p x c v = ap (λ s. x ⊗ p ⊗ c ⊕ s) (F.mul_comm 𝟙 (x ⊗ v) ∙ F.mul_one (x ⊗ v)) ∙ simp ring_rules
