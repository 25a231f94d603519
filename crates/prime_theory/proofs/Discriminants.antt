-- An element whose products with a basis have traces in S has coordinates in S times the inverse of the discriminant.
use Rattle.std.proofs.Common.{◌≡◌, ℕ, zero, suc, ◌<◌, ◌∙◌, ap, subst}
use mathlib.Core.Path.{fun_ext}
use Rattle.ring_lemmas.specs.Ring.{CommRing, pow}
use Rattle.ring_lemmas.specs.Sums.{sum_below}
use Rattle.ring_theory.specs.Subsets.{IsSubring}
use Rattle.ring_theory.specs.Determinant.{determinant, minor, with_row}
use Rattle.ring_theory.proofs.Local.{power_in}
use Rattle.ring_theory.proofs.Cramer.{cramer}

module _ {A : Type 0} (R : CommRing A) (S : A → Type 0) (𝓢 : IsSubring R.ops S) where
  infixl 65 ◌⊕◌
  infixl 70 ◌⊗◌
  infixr 80 ⊖◌
  open R use {𝟘, 𝟙, ◌⊕◌, ◌⊗◌, ⊖◌}

  pub below_in : (n : ℕ) (f : ℕ → A) → ((i : ℕ) → S (f i)) → S (sum_below R.ops n f)
  below_in zero f h = 𝓢.zero_in
  below_in (suc n) f h = 𝓢.sum_in _ _ (below_in n f h) (h n)

  minor_in : (i : ℕ) (m : ℕ → ℕ → A) → ((r c : ℕ) → S (m r c)) → (r c : ℕ) → S (minor i m r c)
  minor_in zero m h r c = h (suc r) (suc c)
  minor_in (suc i) m h zero c = h zero (suc c)
  minor_in (suc i) m h (suc r) c = minor_in i (λ j. m (suc j)) (λ r c. h (suc r) c) r c

  -- a matrix over S has its determinant in S
  pub determinant_in : (n : ℕ) (m : ℕ → ℕ → A) → ((r c : ℕ) → S (m r c)) → S (determinant R.ops n m)
  determinant_in zero m h = 𝓢.one_in
  determinant_in (suc n) m h =
      below_in (suc n) (λ i. pow R.ops (⊖ 𝟙) i ⊗ (m i zero ⊗ determinant R.ops n (minor i m)))
      (λ i. 𝓢.product_in _ _ (power_in R S 𝓢 (⊖ 𝟙) (𝓢.neg_in 𝟙 𝓢.one_in) i)
      (𝓢.product_in _ _ (h i zero) (determinant_in n (minor i m) (minor_in i m h))))

  with_row_in : (i : ℕ) (v : ℕ → A) (m : ℕ → ℕ → A) → ((c : ℕ) → S (v c)) → ((r c : ℕ) → S (m r c)) → (r c : ℕ)
      → S (with_row i v m r c)
  with_row_in zero v m g h zero c = g c
  with_row_in zero v m g h (suc r) c = h (suc r) c
  with_row_in (suc i) v m g h zero c = h zero c
  with_row_in (suc i) v m g h (suc r) c = with_row_in i v (λ j. m (suc j)) g (λ r c. h (suc r) c) r c

  -- z has the coordinates v, tr is a trace
  pub discriminant_bound : (tr : A → A) (n : ℕ) (b v : ℕ → A) (z : A)
      → ((j : ℕ) → tr (z ⊗ b j) ≡ sum_below R.ops n (λ i. v i ⊗ tr (b i ⊗ b j)))
      → ((i j : ℕ) → S (tr (b i ⊗ b j))) → ((j : ℕ) → S (tr (z ⊗ b j)))
      → (i : ℕ) → i < n → S (v i ⊗ determinant R.ops n (λ i j. tr (b i ⊗ b j)))
  discriminant_bound tr n b v z linear form traces i l =
      subst S
      (ap (λ w. determinant R.ops n (with_row i w (λ i j. tr (b i ⊗ b j)))) (fun_ext linear)
      ∙ cramer R n i l v (λ i j. tr (b i ⊗ b j)))
      (determinant_in n (with_row i (λ j. tr (z ⊗ b j)) (λ i j. tr (b i ⊗ b j))) (with_row_in i _ _ traces form))
