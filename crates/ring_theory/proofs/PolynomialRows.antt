-- The coefficients of rows of polynomials.
use Rattle.std.proofs.Common.{◌≡◌, ◌≢◌, ℕ, zero, suc, ◌<◌, ◌≤◌, ◌+◌, ◌*◌, ◌/◌, ◌%◌, length, refl, sym, ◌∙◌, ap, ap₂, arith, le_of_suc-le-suc}
use Rattle.std.proofs.lemmas.Nat.{div-add-mod', mod_below, mod-mul-add, div-mul-add}
use Rattle.ring_lemmas.specs.Ring.{TestedRing}
use Rattle.ring_lemmas.specs.Lists.{coeff_of}
use Rattle.ring_lemmas.specs.Rows.{Row, row_zero, row_add, row_neg, row_scale, entry}
use Rattle.ring_lemmas.specs.Polynomials.{Pol, pol_ops}
use Rattle.ring_lemmas.proofs.Ring.{neg_zero, mul_zero}
use Rattle.ring_lemmas.proofs.Rows.{pair_path}
use Rattle.ring_theory.specs.PolynomialRing.{pol_ring}
use Rattle.ring_theory.specs.Monomials.{monomial}
use Rattle.ring_theory.specs.PolynomialRows.{in_column, lengths, row_coef}
use Rattle.ring_theory.proofs.Monomials.{monomial_off}

module _ {A : Type 0} (k : TestedRing A) where
  abbrev P : TestedRing (Pol k)
  P = pol_ring k

  pub entry_zero : (n i : ℕ) → entry P.ops n i (row_zero P.ops n) ≡ P.𝟘
  unfolding entry row_zero
  entry_zero zero i = refl
  entry_zero (suc n) zero = refl
  entry_zero (suc n) (suc i) = entry_zero n i

  pub entry_add : (n i : ℕ) (u v : Row (Pol k) n)
      → entry P.ops n i (row_add P.ops n u v) ≡ P.◌⊕◌ (entry P.ops n i u) (entry P.ops n i v)
  unfolding entry row_add
  entry_add zero i u v = sym (P.add_zero P.𝟘)
  entry_add (suc n) zero (a, u) (b, v) = refl
  entry_add (suc n) (suc i) (a, u) (b, v) = entry_add n i u v

  pub entry_neg : (n i : ℕ) (v : Row (Pol k) n) → entry P.ops n i (row_neg P.ops n v) ≡ P.⊖◌ (entry P.ops n i v)
  unfolding entry row_neg
  entry_neg zero i v = sym (neg_zero P.ring)
  entry_neg (suc n) zero (a, v) = refl
  entry_neg (suc n) (suc i) (a, v) = entry_neg n i v

  pub entry_scale : (n i : ℕ) (c : Pol k) (v : Row (Pol k) n)
      → entry P.ops n i (row_scale P.ops n c v) ≡ P.◌⊗◌ c (entry P.ops n i v)
  unfolding entry row_scale
  entry_scale zero i c v = sym (mul_zero P.ring c)
  entry_scale (suc n) zero c (a, v) = refl
  entry_scale (suc n) (suc i) c (a, v) = entry_scale n i c v

  -- rows with the same entries are the same
  pub same_entries : (n : ℕ) (u v : Row (Pol k) n) → ((i : ℕ) → i < n → entry P.ops n i u ≡ entry P.ops n i v) → u ≡ v
  unfolding entry
  same_entries zero u v h = refl
  same_entries (suc n) (a, u) (b, v) h = pair_path (h 0 (omega arith))
      (same_entries n u v (λ i less. h (suc i) (omega (arith, less))))

  pub entry_length : (n i : ℕ) (v : Row (Pol k) n) → length (entry P.ops n i v).0 ≤ lengths k n v
  unfolding entry lengths pol_ops
  entry_length zero i v = omega arith
  entry_length (suc n) zero (a, v) = omega arith
  entry_length (suc n) (suc i) (a, v) = omega (arith, entry_length n i v)

  pub in_column_at : (n i : ℕ) (p : Pol k) → i < n → entry P.ops n i (in_column k n i p) ≡ p
  unfolding entry in_column
  in_column_at zero i p less = absurd (omega arith)
  in_column_at (suc n) zero p less = refl
  in_column_at (suc n) (suc i) p less = in_column_at n i p (le_of_suc-le-suc less)

  pub in_column_off : (n i j : ℕ) (p : Pol k) → i ≢ j → entry P.ops n j (in_column k n i p) ≡ P.𝟘
  unfolding entry in_column
  in_column_off zero i j p differ = refl
  in_column_off (suc n) zero zero p differ = absurd (differ refl)
  in_column_off (suc n) zero (suc j) p differ = entry_zero n j
  in_column_off (suc n) (suc i) zero p differ = refl
  in_column_off (suc n) (suc i) (suc j) p differ = in_column_off n i j p (λ e. differ (ap suc e))

  pub series_zero : (i : ℕ) → coeff_of k.ops P.𝟘.0 i ≡ k.𝟘
  unfolding pol_ops
  series_zero i = refl

  module _ (n : ℕ) where
    abbrev pub w : ℕ
    w = suc n

    pub row_coef_at : (v : Row (Pol k) w) (s j : ℕ) → j < w → row_coef k n v (s * w + j)
        ≡ coeff_of k.ops (entry P.ops w j v).0 s
    unfolding row_coef
    row_coef_at v s j less = ap₂ (λ i d. coeff_of k.ops (entry P.ops w i v).0 d) (mod-mul-add s w j less)
        (div-mul-add s w j less)

    pub unit_off : (e i : ℕ) → ¬ (i ≡ e) → Dec (e % w ≡ i % w)
        → row_coef k n (in_column k w (e % w) (monomial k k.𝟙 (e / w))) i ≡ k.𝟘
    unfolding row_coef
    unit_off e i differ (no off) = ap (λ p. coeff_of k.ops p.0 (i / w))
        (in_column_off w (e % w) (i % w) (monomial k k.𝟙 (e / w)) off) ∙ series_zero (i / w)
    unit_off e i differ (yes same) =
        ap (λ j. coeff_of k.ops (entry P.ops w j (in_column k w (e % w) (monomial k k.𝟙 (e / w)))).0 (i / w)) (sym same)
        ∙ ap (λ p. coeff_of k.ops p.0 (i / w))
        (in_column_at w (e % w) (monomial k k.𝟙 (e / w)) (mod_below e w (omega arith)))
        ∙ monomial_off k k.𝟙 (e / w) (i / w)
        (λ z. differ (sym (div-add-mod' i w) ∙ ap₂ (λ d j. d * w + j) z (sym same) ∙ div-add-mod' e w))
