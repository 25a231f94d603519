-- Polynomials over a ring, as lists of coefficients without a zero on top: the laws of a ring, and lengths.
use Rattle.std.proofs.Common.{◌≡◌, ◌≢◌, ℕ, zero, suc, ◌+◌, ◌<◌, ◌≤◌, Bool, true, false, List, [], ◌∷◌, length, refl, sym, ap, ap₂, ◌∙◌, arith}
use mathlib.Core.HLevel.{Σ_prop_path, Unit-prop}
use mathlib.Core.List.{is_set as list_set}
use mathlib.Core.Bool.{Bool-set}
use mathlib.Core.Path.{fun_ext}
use Rattle.ring_lemmas.specs.Ring.{Operations, TestedRing, IsDomain}
use Rattle.ring_lemmas.specs.Polynomials.{Pol, is_empty, pol_ops}
use Rattle.ring_lemmas.specs.Lists.{coeff_of, convolution, mul_lists, trim, IsTrimmed, IsTrimmed_trim}
use Rattle.ring_lemmas.proofs.Ring.{one_mul, product_not_zero}
use Rattle.ring_lemmas.proofs.Sequences.{convolution_comm, convolution_assoc, convolution_constant_left, convolution_past, convolution_top, convolution_add_right}
use Rattle.ring_lemmas.proofs.Lists.{IsTrimmed_tail, coeff_add, coeff_neg, coeff_mul, coeff_trim, all_zero_empty, same_from_coeffs}

pub IsTrimmed_prop : {A : Type 0} (z : A → Bool) (xs : List A) → IsProp (IsTrimmed z xs)
IsTrimmed_prop z [] = Unit-prop
IsTrimmed_prop z (x ∷ []) = Bool-set (z x) false
IsTrimmed_prop z (x ∷ y ∷ ys) = IsTrimmed_prop z (y ∷ ys)

module _ {A : Type 0} (r : TestedRing A) where
  -- the coefficients of a polynomial
  abbrev series : Pol r → ℕ → A
  series a = coeff_of r.ops a.0

  pub same_pol : (a b : Pol r) → ((n : ℕ) → series a n ≡ series b n) → a ≡ b
  same_pol a b same = Σ_prop_path (IsTrimmed_prop r.is_zero) (same_from_coeffs r a.0 b.0 a.1 b.1 same)

  pub series_add : (a b : Pol r) (n : ℕ) → series ((pol_ops r).◌⊕◌ a b) n ≡ r.◌⊕◌ (series a n) (series b n)
  unfolding pol_ops
  series_add a b n = coeff_trim r _ n ∙ coeff_add r a.0 b.0 n

  pub series_neg : (a : Pol r) (n : ℕ) → series ((pol_ops r).⊖◌ a) n ≡ r.⊖◌ (series a n)
  unfolding pol_ops
  series_neg a n = coeff_trim r _ n ∙ coeff_neg r a.0 n

  pub series_mul : (a b : Pol r) (n : ℕ) → series ((pol_ops r).◌⊗◌ a b) n ≡ convolution r.ops (series a) (series b) n
  unfolding pol_ops
  series_mul a b n = coeff_trim r _ n ∙ coeff_mul r a.0 b.0 n

  pub pol_set : IsSet (Pol r)
  pol_set = hlevel (list_set r.is_set, IsTrimmed_prop r.is_zero)

  abbrev s : Operations (Pol r)
  s = pol_ops r

  pub pol_add_assoc : (a b c : Pol r) → s.◌⊕◌ (s.◌⊕◌ a b) c ≡ s.◌⊕◌ a (s.◌⊕◌ b c)
  pol_add_assoc a b c =
      same_pol _ _ (λ n.
      series_add (s.◌⊕◌ a b) c n ∙ ap (λ w. r.◌⊕◌ w (series c n)) (series_add a b n) ∙ r.add_assoc _ _ _
      ∙ sym (series_add a (s.◌⊕◌ b c) n ∙ ap (r.◌⊕◌ (series a n)) (series_add b c n)))

  pub pol_add_comm : (a b : Pol r) → s.◌⊕◌ a b ≡ s.◌⊕◌ b a
  pol_add_comm a b = same_pol _ _ (λ n. series_add a b n ∙ r.add_comm _ _ ∙ sym (series_add b a n))

  pub pol_add_zero : (a : Pol r) → s.◌⊕◌ a s.𝟘 ≡ a
  unfolding pol_ops
  pol_add_zero a = same_pol _ a (λ n. series_add a s.𝟘 n ∙ r.add_zero _)

  pub pol_add_neg : (a : Pol r) → s.◌⊕◌ a (s.⊖◌ a) ≡ s.𝟘
  unfolding pol_ops
  pol_add_neg a =
      same_pol _ s.𝟘 (λ n. series_add a (s.⊖◌ a) n ∙ ap (λ w. r.◌⊕◌ (series a n) w) (series_neg a n) ∙ r.add_neg _)

  pub pol_mul_comm : (a b : Pol r) → s.◌⊗◌ a b ≡ s.◌⊗◌ b a
  pol_mul_comm a b =
      same_pol _ _ (λ n. series_mul a b n ∙ convolution_comm r.ring (series a) (series b) n ∙ sym (series_mul b a n))

  pub pol_mul_assoc : (a b c : Pol r) → s.◌⊗◌ (s.◌⊗◌ a b) c ≡ s.◌⊗◌ a (s.◌⊗◌ b c)
  pol_mul_assoc a b c =
      same_pol _ _ (λ n.
      series_mul (s.◌⊗◌ a b) c n
      ∙ ap (λ f. convolution r.ops f (series c) n) (fun_ext (series_mul a b))
      ∙ convolution_assoc r.ring (series a) (series b) (series c) n
      ∙ sym (series_mul a (s.◌⊗◌ b c) n ∙ ap (λ f. convolution r.ops (series a) f n) (fun_ext (series_mul b c))))

  pub pol_mul_one : (a : Pol r) → s.◌⊗◌ a s.𝟙 ≡ a
  unfolding pol_ops
  pol_mul_one a =
      same_pol _ a (λ n.
      series_mul a s.𝟙 n
      ∙ convolution_comm r.ring (series a) (series s.𝟙) n
      ∙ convolution_constant_left r.ring (series s.𝟙) (series a) (λ i. coeff_trim r (r.𝟙 ∷ []) (suc i)) n
      ∙ ap (λ w. r.◌⊗◌ w (series a n)) (coeff_trim r (r.𝟙 ∷ []) zero)
      ∙ one_mul r.ring _)

  pub pol_mul_add : (a b c : Pol r) → s.◌⊗◌ a (s.◌⊕◌ b c) ≡ s.◌⊕◌ (s.◌⊗◌ a b) (s.◌⊗◌ a c)
  pol_mul_add a b c =
      same_pol _ _ (λ n.
      series_mul a (s.◌⊕◌ b c) n
      ∙ ap (λ f. convolution r.ops (series a) f n) (fun_ext (series_add b c))
      ∙ convolution_add_right r.ring (series a) (series b) (series c) n
      ∙ sym (series_add (s.◌⊗◌ a b) (s.◌⊗◌ a c) n ∙ ap₂ r.◌⊕◌ (series_mul a b n) (series_mul a c n)))

  pub zero_empty : is_empty s.𝟘.0 ≡ true
  unfolding pol_ops
  zero_empty = refl

  pub empty_zero : (a : Pol r) → is_empty a.0 ≡ true → a ≡ s.𝟘
  unfolding pol_ops
  empty_zero ([], t) e = same_pol ([], t) s.𝟘 (λ n. refl)
  empty_zero ((x ∷ xs), t) e = absurd (cc)

  pub coeff_past : (xs : List A) (i : ℕ) → length xs ≤ i → coeff_of r.ops xs i ≡ r.𝟘
  coeff_past [] i past = refl
  coeff_past (x ∷ xs) zero past = absurd (omega arith)
  coeff_past (x ∷ xs) (suc i) past = coeff_past xs i (omega arith)

  pub coeff_top : (x : A) (xs : List A) → IsTrimmed r.is_zero (x ∷ xs) → coeff_of r.ops (x ∷ xs) (length xs) ≢ r.𝟘
  coeff_top x [] t = λ e. let same : true ≡ false = sym r.zero_is_zero ∙ ap r.is_zero (sym e) ∙ t in (cc)
  coeff_top x (y ∷ ys) t = coeff_top y ys t

  -- a trimmed list that ends at d has d + 1 positions
  pub length_from_top : (zs : List A) (d : ℕ) → IsTrimmed r.is_zero zs → coeff_of r.ops zs d ≢ r.𝟘
      → ((i : ℕ) → d < i → coeff_of r.ops zs i ≡ r.𝟘) → length zs ≡ suc d
  length_from_top [] d t top ends = absurd (top refl)
  length_from_top (z ∷ []) zero t top ends = refl
  length_from_top (z ∷ y ∷ ys) zero t top ends = absurd (all_zero_empty r y ys t (λ n. ends (suc n) (omega arith)))
  length_from_top (z ∷ zs) (suc d) t top ends =
      ap suc (length_from_top zs d (IsTrimmed_tail r.is_zero z zs t) top (λ i less. ends (suc i) (omega arith)))

  -- the degree of a product is the sum of the degrees
  pub length_mul : IsDomain r.ops → (x y : A) (xs ys : List A) → IsTrimmed r.is_zero (x ∷ xs)
      → IsTrimmed r.is_zero (y ∷ ys) → length (trim r.is_zero (mul_lists r.ops (x ∷ xs) (y ∷ ys)))
      ≡ suc (length xs + length ys)
  length_mul domain x y xs ys s t =
      length_from_top (trim r.is_zero (mul_lists r.ops (x ∷ xs) (y ∷ ys))) (length xs + length ys)
      (IsTrimmed_trim r.is_zero (mul_lists r.ops (x ∷ xs) (y ∷ ys)))
      (λ e. product_not_zero domain _ _ (coeff_top x xs s) (coeff_top y ys t)
      (sym (product (length xs + length ys) ∙ top) ∙ e))
      (λ i past. product i ∙ convolution_past r.ring (length xs) (length ys) (coeff_of r.ops (x ∷ xs))
      (coeff_of r.ops (y ∷ ys)) xs_end ys_end i past)
    where
      product : (i : ℕ) → coeff_of r.ops (trim r.is_zero (mul_lists r.ops (x ∷ xs) (y ∷ ys))) i
          ≡ convolution r.ops (coeff_of r.ops (x ∷ xs)) (coeff_of r.ops (y ∷ ys)) i
      product i = coeff_trim r (mul_lists r.ops (x ∷ xs) (y ∷ ys)) i ∙ coeff_mul r (x ∷ xs) (y ∷ ys) i

      xs_end : (i : ℕ) → length xs < i → coeff_of r.ops (x ∷ xs) i ≡ r.𝟘
      xs_end i less = coeff_past (x ∷ xs) i less

      ys_end : (i : ℕ) → length ys < i → coeff_of r.ops (y ∷ ys) i ≡ r.𝟘
      ys_end i less = coeff_past (y ∷ ys) i less

      top : convolution r.ops (coeff_of r.ops (x ∷ xs)) (coeff_of r.ops (y ∷ ys)) (length xs + length ys)
          ≡ r.◌⊗◌ (coeff_of r.ops (x ∷ xs) (length xs)) (coeff_of r.ops (y ∷ ys) (length ys))
      top = convolution_top r.ring (length xs) (length ys) (coeff_of r.ops (x ∷ xs)) (coeff_of r.ops (y ∷ ys)) xs_end
          ys_end
