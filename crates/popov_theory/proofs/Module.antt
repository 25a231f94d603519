-- The laws of a module over k[x], from the coefficients of its elements.
use Rattle.std.proofs.Common.{◌≡◌, [], ◌∷◌, ℕ, zero, suc, ◌<◌, ◌+◌, ◌*◌, ◌/◌, ◌%◌, refl, sym, ◌∙◌, ap, ap₂, subst}
use Rattle.std.proofs.lemmas.Nat.{div-add-mod', mod_below}
use mathlib.Core.Path.{fun_ext}
use Rattle.ring_lemmas.specs.Ring.{TestedRing}
use Rattle.ring_lemmas.specs.Lists.{coeff_of, convolution}
use Rattle.ring_lemmas.proofs.Ring.{neg_neg, neg_sum}
use Rattle.ring_lemmas.proofs.Sequences.{convolution_add_left, convolution_add_right, convolution_assoc, convolution_comm, convolution_null_left, convolution_constant_left}
use Rattle.ring_lemmas.specs.Polynomials.{Pol, pol_ops}
use Rattle.ring_theory.specs.PolynomialRing.{pol_ring}
use Rattle.ring_lemmas.proofs.Polynomials.{series_add, series_mul}
use Rattle.ring_lemmas.proofs.Lists.{coeff_trim}
use Rattle.popov_theory.specs.Module.{PolynomialModule}

module _ {A V : Type 0} {k : TestedRing A} (M : PolynomialModule k V) where
  infixl 65 ◌⊞◌
  infixl 70 ◌·◌
  infixr 80 ⊟◌
  infixl 65 ◌⊕◌
  infixl 70 ◌⊗◌
  infixr 80 ⊖◌
  open M use {width, 𝟎, ◌⊞◌, ⊟◌, ◌·◌, coef}
  open k use {𝟘, 𝟙, ◌⊕◌, ◌⊗◌, ⊖◌}

  abbrev P : TestedRing (Pol k)
  P = pol_ring k

  -- a position by its degree and its column
  pub split : (e : ℕ) → e / width * width + e % width ≡ e
  split e = div-add-mod' e width

  pub column_below : (e : ℕ) → e % width < width
  column_below e = mod_below e width M.positive

  -- rows that agree in each column are the same
  pub same_columns : (u v : V) → ((s j : ℕ) → j < width → coef u (s * width + j) ≡ coef v (s * width + j)) → u ≡ v
  same_columns u v h = M.same u v (λ e. subst (λ i. coef u i ≡ coef v i) (split e)
      (h (e / width) (e % width) (column_below e)))

  pub v_add_assoc : (u v w : V) → (u ⊞ v) ⊞ w ≡ u ⊞ (v ⊞ w)
  v_add_assoc u v w =
      M.same _ _ (λ e.
      M.coef_add (u ⊞ v) w e ∙ ap (λ x. x ⊕ coef w e) (M.coef_add u v e) ∙ k.add_assoc _ _ _
      ∙ sym (M.coef_add u (v ⊞ w) e ∙ ap (λ x. coef u e ⊕ x) (M.coef_add v w e)))

  pub v_add_comm : (u v : V) → u ⊞ v ≡ v ⊞ u
  v_add_comm u v = M.same _ _ (λ e. M.coef_add u v e ∙ k.add_comm _ _ ∙ sym (M.coef_add v u e))

  pub v_add_zero : (v : V) → v ⊞ 𝟎 ≡ v
  v_add_zero v = M.same _ _ (λ e. M.coef_add v 𝟎 e ∙ ap (λ x. coef v e ⊕ x) (M.coef_zero e) ∙ k.add_zero _)

  pub v_zero_add : (v : V) → 𝟎 ⊞ v ≡ v
  v_zero_add v = v_add_comm 𝟎 v ∙ v_add_zero v

  pub v_add_neg : (v : V) → v ⊞ ⊟ v ≡ 𝟎
  v_add_neg v = M.same _ _ (λ e. M.coef_add v (⊟ v) e ∙ ap (λ x. coef v e ⊕ x) (M.coef_neg v e) ∙ k.add_neg _
      ∙ sym (M.coef_zero e))

  pub v_add_left_comm : (u v w : V) → u ⊞ (v ⊞ w) ≡ v ⊞ (u ⊞ w)
  v_add_left_comm u v w = sym (v_add_assoc u v w) ∙ ap (λ x. x ⊞ w) (v_add_comm u v) ∙ v_add_assoc v u w

  pub v_add_add : (a b c d : V) → (a ⊞ b) ⊞ (c ⊞ d) ≡ (a ⊞ c) ⊞ (b ⊞ d)
  v_add_add a b c d = simp (v_add_assoc, v_add_left_comm)

  -- what was taken away is put back
  pub v_sub_add : (u v : V) → (u ⊞ ⊟ v) ⊞ v ≡ u
  v_sub_add u v = v_add_assoc u (⊟ v) v ∙ ap (λ x. u ⊞ x) (v_add_comm (⊟ v) v ∙ v_add_neg v) ∙ v_add_zero u

  pub v_eq_of_sub : (u v : V) → u ⊞ ⊟ v ≡ 𝟎 → u ≡ v
  v_eq_of_sub u v e = sym (v_sub_add u v) ∙ ap (λ x. x ⊞ v) e ∙ v_zero_add v

  pub v_add_sub : (u v : V) → u ⊞ (v ⊞ ⊟ u) ≡ v
  v_add_sub u v = v_add_comm u (v ⊞ ⊟ u) ∙ v_sub_add v u

  pub v_neg_zero : ⊟ 𝟎 ≡ 𝟎
  v_neg_zero = sym (v_zero_add (⊟ 𝟎)) ∙ v_add_neg 𝟎

  pub v_neg_neg : (v : V) → ⊟ (⊟ v) ≡ v
  v_neg_neg v = M.same _ _ (λ e. M.coef_neg (⊟ v) e ∙ ap ⊖◌ (M.coef_neg v e) ∙ neg_neg k.ring _)

  pub v_neg_add : (u v : V) → ⊟ (u ⊞ v) ≡ ⊟ u ⊞ ⊟ v
  v_neg_add u v =
      M.same _ _ (λ e.
      M.coef_neg (u ⊞ v) e ∙ ap ⊖◌ (M.coef_add u v e) ∙ neg_sum k.ring _ _
      ∙ sym (M.coef_add (⊟ u) (⊟ v) e ∙ ap₂ ◌⊕◌ (M.coef_neg u e) (M.coef_neg v e)))

  pub scale_add : (c : Pol k) (u v : V) → c · (u ⊞ v) ≡ c · u ⊞ c · v
  scale_add c u v =
      same_columns _ _ (λ s j less.
      M.coef_scale c (u ⊞ v) s j less
      ∙ ap (λ g. convolution k.ops (coeff_of k.ops c.0) g s) (fun_ext (λ t. M.coef_add u v (t * width + j)))
      ∙ convolution_add_right k.ring (coeff_of k.ops c.0) (λ t. coef u (t * width + j)) (λ t. coef v (t * width + j)) s
      ∙ sym (M.coef_add (c · u) (c · v) (s * width + j)
      ∙ ap₂ ◌⊕◌ (M.coef_scale c u s j less) (M.coef_scale c v s j less)))

  pub add_scale : (c d : Pol k) (v : V) → P.◌⊕◌ c d · v ≡ c · v ⊞ d · v
  add_scale c d v =
      same_columns _ _ (λ s j less.
      M.coef_scale (P.◌⊕◌ c d) v s j less
      ∙ ap (λ f. convolution k.ops f (λ t. coef v (t * width + j)) s) (fun_ext (series_add k c d))
      ∙ convolution_add_left k.ring (coeff_of k.ops c.0) (coeff_of k.ops d.0) (λ t. coef v (t * width + j)) s
      ∙ sym (M.coef_add (c · v) (d · v) (s * width + j)
      ∙ ap₂ ◌⊕◌ (M.coef_scale c v s j less) (M.coef_scale d v s j less)))

  pub scale_scale : (c d : Pol k) (v : V) → P.◌⊗◌ c d · v ≡ c · (d · v)
  scale_scale c d v =
      same_columns _ _ (λ s j less.
      M.coef_scale (P.◌⊗◌ c d) v s j less
      ∙ ap (λ f. convolution k.ops f (λ t. coef v (t * width + j)) s) (fun_ext (series_mul k c d))
      ∙ convolution_assoc k.ring (coeff_of k.ops c.0) (coeff_of k.ops d.0) (λ t. coef v (t * width + j)) s
      ∙ ap (λ g. convolution k.ops (coeff_of k.ops c.0) g s) (fun_ext (λ t. sym (M.coef_scale d v t j less)))
      ∙ sym (M.coef_scale c (d · v) s j less))

  pub zero_scale : (v : V) → P.𝟘 · v ≡ 𝟎
  unfolding pol_ops
  zero_scale v =
      same_columns _ _ (λ s j less.
      M.coef_scale P.𝟘 v s j less
      ∙ convolution_null_left k.ring (coeff_of k.ops []) (λ t. coef v (t * width + j)) (λ _. refl) s
      ∙ sym (M.coef_zero (s * width + j)))

  pub scale_zero : (c : Pol k) → c · 𝟎 ≡ 𝟎
  scale_zero c =
      same_columns _ _ (λ s j less.
      M.coef_scale c 𝟎 s j less
      ∙ convolution_comm k.ring (coeff_of k.ops c.0) (λ t. coef 𝟎 (t * width + j)) s
      ∙ convolution_null_left k.ring (λ t. coef 𝟎 (t * width + j)) (coeff_of k.ops c.0)
      (λ t. M.coef_zero (t * width + j)) s
      ∙ sym (M.coef_zero (s * width + j)))

  pub scale_one : (v : V) → P.𝟙 · v ≡ v
  unfolding pol_ops
  scale_one v =
      same_columns _ _ (λ s j less.
      M.coef_scale P.𝟙 v s j less
      ∙ convolution_constant_left k.ring (coeff_of k.ops P.𝟙.0) (λ t. coef v (t * width + j))
      (λ i. coeff_trim k (𝟙 ∷ []) (suc i)) s
      ∙ ap (λ x. x ⊗ coef v (s * width + j)) (coeff_trim k (𝟙 ∷ []) zero)
      ∙ k.ring.mul_comm _ _ ∙ k.ring.mul_one _)

  pub neg_scale : (c : Pol k) (v : V) → P.⊖◌ c · v ≡ ⊟ (c · v)
  neg_scale c v =
      v_eq_of_sub _ _
      (ap (λ x. P.⊖◌ c · v ⊞ x) (v_neg_neg (c · v)) ∙ sym (add_scale (P.⊖◌ c) c v)
      ∙ ap (λ d. d · v) (P.add_comm (P.⊖◌ c) c ∙ P.add_neg c) ∙ zero_scale v)

  pub v_sub_sub : (u v : V) → u ⊞ ⊟ (u ⊞ ⊟ v) ≡ v
  v_sub_sub u v =
      ap (λ x. u ⊞ x) (v_neg_add u (⊟ v) ∙ ap (λ x. ⊟ u ⊞ x) (v_neg_neg v))
      ∙ sym (v_add_assoc u (⊟ u) v) ∙ ap (λ x. x ⊞ v) (v_add_neg u) ∙ v_zero_add v

  pub scale_neg : (c : Pol k) (v : V) → c · ⊟ v ≡ ⊟ (c · v)
  scale_neg c v =
      v_eq_of_sub _ _
      (ap (λ x. c · ⊟ v ⊞ x) (v_neg_neg (c · v)) ∙ sym (scale_add c (⊟ v) v)
      ∙ ap (λ x. c · x) (v_add_comm (⊟ v) v ∙ v_add_neg v) ∙ scale_zero c)
