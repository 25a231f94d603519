-- The loop that divides lists of coefficients, where the top of the divisor has an inverse.
use Rattle.std.proofs.Common.{◌≡◌, ℕ, zero, suc, ◌-◌, ◌<◌, ◌≤◌, List, [], ◌∷◌, length, ◌⊎◌, refl, sym, ap, ap₂, ◌∙◌, arith, subst, inl, inr, eq-or-lt_of_le}
use Rattle.std.proofs.lemmas.Bool.{cases_lt}
use Rattle.std.proofs.lemmas.List.{length-replicate}
use Rattle.ring_lemmas.specs.Ring.{Operations, TestedRing}
use Rattle.ring_lemmas.specs.Lists.{coeff_of, convolution, IsTrimmed, scale_list, digit_of, rest_from, quotient_from}
use Rattle.ring_lemmas.specs.Polynomials.{Pol, pol_of}
use Rattle.ring_lemmas.proofs.Ring.{zero_add, mul_zero, neg_mul, add_sub}
use Rattle.ring_lemmas.proofs.Sequences.{convolution_null_left}
use Rattle.ring_lemmas.proofs.Lists.{coeff_add, coeff_scale, coeff_append_zeros, length_add_lists, length_scale_list, coeff_trim}
use Rattle.ring_lemmas.proofs.Polynomials.{coeff_past, coeff_top}

module _ {A : Type 0} (r : TestedRing A) where
  -- a list is no longer than its last coefficient that is not zero
  pub length_bound : (xs : List A) (n : ℕ) → IsTrimmed r.is_zero xs → ((i : ℕ) → n ≤ i → coeff_of r.ops xs i ≡ r.𝟘)
      → length xs ≤ n
  length_bound [] n t ends = omega arith
  length_bound (x ∷ xs) n t ends = go (cases_lt (length xs) n)
    where
      go : (length xs < n) ⊎ (n ≤ length xs) → length (x ∷ xs) ≤ n
      go (inl less) = less
      go (inr more) = absurd (coeff_top r x xs t (ends (length xs) more))

pub length_rest_from : {A : Type 0} (r : Operations A) (b : List A) (inverse : A) (xs : List A)
    → length b - 1 ≤ length (rest_from r b inverse xs)
length_rest_from r b inverse [] = omega (arith, length-replicate (length b - 1) r.𝟘)
length_rest_from r b inverse (x ∷ xs) =
    let t = x ∷ rest_from r b inverse xs in
    let digit = r.⊖◌ (digit_of r b inverse t) in
    let before = length_rest_from r b inverse xs in
    let scaled = length_scale_list r digit b in
    omega (arith, before, scaled, length_add_lists r t (scale_list r digit b) (omega (arith, before, scaled)))

module _ {A : Type 0} (r : TestedRing A) (b : List A) (inverse : A) where
  open r use {𝟘, ◌⊕◌, ◌⊗◌, ⊖◌}

  infixl 65 ◌⊕◌
  infixl 70 ◌⊗◌
  infixr 80 ⊖◌
  abbrev part : List A → List A
  part xs = rest_from r.ops b inverse xs

  take_back : (c e x : A) → (c ⊗ e) ⊕ (x ⊕ ⊖ c ⊗ e) ≡ x
  take_back c e x = ap (λ w. c ⊗ e ⊕ (x ⊕ w)) (neg_mul r.ring c e) ∙ add_sub r.ring x (c ⊗ e)

  -- a is b times the quotient and the rest
  pub divided : (xs : List A) (n : ℕ) → coeff_of r.ops xs n
      ≡ convolution r.ops (coeff_of r.ops (quotient_from r.ops b inverse xs)) (coeff_of r.ops b) n ⊕ coeff_of r.ops
      (part xs) n
  divided [] n =
      sym (ap₂ ◌⊕◌ (convolution_null_left r.ring (coeff_of r.ops []) (coeff_of r.ops b) (λ _. refl) n)
      (coeff_append_zeros r [] (length b - 1) n) ∙ zero_add r.ring 𝟘)
  divided (x ∷ xs) zero =
      let t = x ∷ part xs in
      let c = digit_of r.ops b inverse t in
      sym (ap (λ w. c ⊗ coeff_of r.ops b zero ⊕ w)
      (coeff_add r t (scale_list r.ops (⊖ c) b) zero ∙ ap (λ w. x ⊕ w) (coeff_scale r (⊖ c) b zero))
      ∙ take_back c (coeff_of r.ops b zero) x)
  divided (x ∷ xs) (suc n) =
      let t = x ∷ part xs in
      let c = digit_of r.ops b inverse t in
      let e = coeff_of r.ops b (suc n) in
      let f = convolution r.ops (coeff_of r.ops (quotient_from r.ops b inverse xs)) (coeff_of r.ops b) n in
      let old = coeff_of r.ops (part xs) n in
      divided xs n
      ∙ sym (ap (λ w. (c ⊗ e ⊕ f) ⊕ w) (coeff_add r t (scale_list r.ops (⊖ c) b) (suc n)
      ∙ ap (λ w. old ⊕ w) (coeff_scale r (⊖ c) b (suc n)))
      ∙ ap (λ w. w ⊕ (old ⊕ ⊖ c ⊗ e)) (r.add_comm (c ⊗ e) f)
      ∙ r.add_assoc f (c ⊗ e) (old ⊕ ⊖ c ⊗ e)
      ∙ ap (λ w. f ⊕ w) (take_back c e old))

  -- the rest ends before the top of b
  pub rest_ends : r.◌⊗◌ inverse (coeff_of r.ops b (length b - 1)) ≡ r.𝟙 → (xs : List A) (n : ℕ) → length b - 1 ≤ n
      → coeff_of r.ops (part xs) n ≡ 𝟘
  rest_ends inverts [] n le = coeff_append_zeros r [] (length b - 1) n
  rest_ends inverts (x ∷ xs) n le = coeff_add r t (scale_list r.ops (⊖ c) b) n
      ∙ ap (λ w. coeff_of r.ops t n ⊕ w) (coeff_scale r (⊖ c) b n) ∙ go (rest_ends inverts xs) (eq-or-lt_of_le le)
    where
      t : List A
      t = x ∷ part xs

      c : A
      c = digit_of r.ops b inverse t

      top : c ⊗ coeff_of r.ops b (length b - 1) ≡ coeff_of r.ops t (length b - 1)
      top = r.mul_assoc (coeff_of r.ops t (length b - 1)) inverse (coeff_of r.ops b (length b - 1))
          ∙ ap (λ w. coeff_of r.ops t (length b - 1) ⊗ w) inverts ∙ r.mul_one (coeff_of r.ops t (length b - 1))

      past : ((m : ℕ) → length b - 1 ≤ m → coeff_of r.ops (part xs) m ≡ 𝟘) → (m : ℕ) → length b - 1 < m
          → coeff_of r.ops t m ⊕ ⊖ c ⊗ coeff_of r.ops b m ≡ 𝟘
      past earlier zero less = absurd (omega arith)
      past earlier (suc m) less =
          ap₂ ◌⊕◌ (earlier m (omega arith))
          (ap (λ w. ⊖ c ⊗ w) (coeff_past r b (suc m) (omega arith)) ∙ mul_zero r.ring (⊖ c))
          ∙ zero_add r.ring 𝟘

      go : ((m : ℕ) → length b - 1 ≤ m → coeff_of r.ops (part xs) m ≡ 𝟘) → (length b - 1 ≡ n) ⊎ (length b - 1 < n)
          → coeff_of r.ops t n ⊕ ⊖ c ⊗ coeff_of r.ops b n ≡ 𝟘
      go earlier (inl here) =
          subst (λ m. coeff_of r.ops t m ⊕ ⊖ c ⊗ coeff_of r.ops b m ≡ 𝟘) here
          (ap (λ w. coeff_of r.ops t (length b - 1) ⊕ w)
          (neg_mul r.ring c (coeff_of r.ops b (length b - 1)) ∙ ap ⊖◌ top)
          ∙ r.add_neg (coeff_of r.ops t (length b - 1)))
      go earlier (inr less) = past earlier n less

-- the rest modulo a monic polynomial is shorter than it
module _ {A : Type 0} (r : TestedRing A) (f : Pol r)
    (monic : r.◌⊗◌ r.𝟙 (coeff_of r.ops f.0 (length f.0 - 1)) ≡ r.𝟙) (deep : 1 < length f.0) where
  pub rest_shorter : (a : Pol r) → length (pol_of r (rest_from r.ops f.0 r.𝟙 a.0)).0 < length f.0
  rest_shorter a =
      let rest = pol_of r (rest_from r.ops f.0 r.𝟙 a.0) in
      let bound = length_bound r rest.0 (length f.0 - 1) rest.1
      (λ i le. coeff_trim r _ i ∙ rest_ends r f.0 r.𝟙 monic a.0 i le) in
      omega (arith, bound, deep)
