-- The coefficients of what the operations on lists make; lists without a zero on top.
use Rattle.std.proofs.Common.{◌≡◌, ℕ, zero, suc, ◌<◌, ◌≤◌, Bool, true, false, cond, List, [], ◌∷◌, ◌++◌, length, get_or, replicate, refl, sym, ap, ap₂, ◌∙◌, arith}
use Rattle.ring_lemmas.specs.Ring.{Operations, TestedRing}
use Rattle.ring_lemmas.specs.Lists.{IsTrimmed_trim, coeff_of, convolution, add_lists, scale_list, neg_list, mul_lists, mul_onto, trim_onto, trim, IsTrimmed}
use Rattle.ring_lemmas.proofs.Ring.{zero_add, mul_zero, neg_zero}
use Rattle.ring_lemmas.proofs.Sequences.{convolution_null_left}

pub IsTrimmed_tail : {A : Type 0} (z : A → Bool) (x : A) (xs : List A) → IsTrimmed z (x ∷ xs) → IsTrimmed z xs
IsTrimmed_tail z x [] t = tt
IsTrimmed_tail z x (y ∷ ys) t = t

pub trim_trimmed : {A : Type 0} (z : A → Bool) (xs : List A) → IsTrimmed z xs → trim z xs ≡ xs
trim_trimmed z [] t = refl
trim_trimmed z (x ∷ []) t = ap (λ b. cond b [] (x ∷ [])) t
trim_trimmed z (x ∷ y ∷ ys) t = ap (trim_onto z x) (trim_trimmed z (y ∷ ys) t)

pub trim_push_zero : {A : Type 0} (z : A → Bool) (xs : List A) (x : A) → z x ≡ true → trim z (xs ++ x ∷ []) ≡ trim z xs
trim_push_zero z [] x e = ap (λ b. cond b [] (x ∷ [])) e
trim_push_zero z (y ∷ ys) x e = ap (trim_onto z y) (trim_push_zero z ys x e)

pub IsTrimmed_push : {A : Type 0} (z : A → Bool) (xs : List A) (x : A) → z x ≡ false → IsTrimmed z (xs ++ x ∷ [])
IsTrimmed_push z [] x e = e
IsTrimmed_push z (y ∷ []) x e = e
IsTrimmed_push z (y ∷ w ∷ ws) x e = IsTrimmed_push z (w ∷ ws) x e

pub add_lists_nil : {A : Type 0} (r : Operations A) (xs : List A) → add_lists r xs [] ≡ xs
add_lists_nil r [] = refl
add_lists_nil r (x ∷ xs) = refl

pub length_add_lists : {A : Type 0} (r : Operations A) (xs ys : List A) → length ys ≤ length xs
    → length (add_lists r xs ys) ≡ length xs
length_add_lists r [] [] le = refl
length_add_lists r [] (y ∷ ys) le = absurd (omega arith)
length_add_lists r (x ∷ xs) [] le = refl
length_add_lists r (x ∷ xs) (y ∷ ys) le = ap suc (length_add_lists r xs ys (omega arith))

pub length_scale_list : {A : Type 0} (r : Operations A) (c : A) (ys : List A) → length (scale_list r c ys) ≡ length ys
length_scale_list r c [] = refl
length_scale_list r c (y ∷ ys) = ap suc (length_scale_list r c ys)

pub length_neg_list : {A : Type 0} (r : Operations A) (ys : List A) → length (neg_list r ys) ≡ length ys
length_neg_list r [] = refl
length_neg_list r (y ∷ ys) = ap suc (length_neg_list r ys)

pub get_or_scale_list : {A : Type 0} (r : Operations A) (c : A) (ys : List A) (j : ℕ) (d : A) → j < length ys
    → get_or (scale_list r c ys) j d ≡ r.◌⊗◌ c (get_or ys j d)
get_or_scale_list r c [] j d less = absurd (omega arith)
get_or_scale_list r c (y ∷ ys) zero d less = refl
get_or_scale_list r c (y ∷ ys) (suc j) d less = get_or_scale_list r c ys j d (omega arith)

pub get_or_neg_list : {A : Type 0} (r : Operations A) (ys : List A) (j : ℕ) (d : A) → j < length ys
    → get_or (neg_list r ys) j d ≡ r.⊖◌ (get_or ys j d)
get_or_neg_list r [] j d less = absurd (omega arith)
get_or_neg_list r (y ∷ ys) zero d less = refl
get_or_neg_list r (y ∷ ys) (suc j) d less = get_or_neg_list r ys j d (omega arith)

module _ {A : Type 0} (r : TestedRing A) where
  pub coeff_add : (xs ys : List A) (n : ℕ)
      → coeff_of r.ops (add_lists r.ops xs ys) n ≡ r.◌⊕◌ (coeff_of r.ops xs n) (coeff_of r.ops ys n)
  coeff_add [] ys n = sym (zero_add r.ring _)
  coeff_add (x ∷ xs) [] n = sym (r.add_zero _)
  coeff_add (x ∷ xs) (y ∷ ys) zero = refl
  coeff_add (x ∷ xs) (y ∷ ys) (suc n) = coeff_add xs ys n

  pub coeff_scale : (c : A) (ys : List A) (n : ℕ)
      → coeff_of r.ops (scale_list r.ops c ys) n ≡ r.◌⊗◌ c (coeff_of r.ops ys n)
  coeff_scale c [] n = sym (mul_zero r.ring c)
  coeff_scale c (y ∷ ys) zero = refl
  coeff_scale c (y ∷ ys) (suc n) = coeff_scale c ys n

  pub coeff_neg : (ys : List A) (n : ℕ) → coeff_of r.ops (neg_list r.ops ys) n ≡ r.⊖◌ (coeff_of r.ops ys n)
  coeff_neg [] n = sym (neg_zero r.ring)
  coeff_neg (y ∷ ys) zero = refl
  coeff_neg (y ∷ ys) (suc n) = coeff_neg ys n

  pub coeff_mul : (xs ys : List A) (n : ℕ)
      → coeff_of r.ops (mul_lists r.ops xs ys) n ≡ convolution r.ops (coeff_of r.ops xs) (coeff_of r.ops ys) n
  coeff_mul [] ys n = sym (convolution_null_left r.ring (coeff_of r.ops []) (coeff_of r.ops ys) (λ _. refl) n)
  coeff_mul (x ∷ xs) ys zero =
      coeff_add (scale_list r.ops x ys) (r.𝟘 ∷ mul_lists r.ops xs ys) zero
      ∙ ap (λ w. r.◌⊕◌ w r.𝟘) (coeff_scale x ys zero)
      ∙ r.add_zero _
  coeff_mul (x ∷ xs) ys (suc n) =
      coeff_add (scale_list r.ops x ys) (r.𝟘 ∷ mul_lists r.ops xs ys) (suc n)
      ∙ ap₂ r.◌⊕◌ (coeff_scale x ys (suc n)) (coeff_mul xs ys n)

  pub coeff_append_zeros : (xs : List A) (m n : ℕ) → coeff_of r.ops (xs ++ replicate m r.𝟘) n ≡ coeff_of r.ops xs n
  coeff_append_zeros [] zero n = refl
  coeff_append_zeros [] (suc m) zero = refl
  coeff_append_zeros [] (suc m) (suc n) = coeff_append_zeros [] m n
  coeff_append_zeros (x ∷ xs) m zero = refl
  coeff_append_zeros (x ∷ xs) m (suc n) = coeff_append_zeros xs m n

  pub coeff_mul_onto : (xs ys zs : List A) → ((n : ℕ) → coeff_of r.ops zs n ≡ r.𝟘) → (n : ℕ)
      → coeff_of r.ops (mul_onto r.ops xs ys zs) n ≡ coeff_of r.ops (mul_lists r.ops xs ys) n
  coeff_mul_onto [] ys zs null n = null n
  coeff_mul_onto (x ∷ xs) ys zs null zero =
      coeff_add (r.𝟘 ∷ mul_onto r.ops xs ys zs) (scale_list r.ops x ys) zero
      ∙ r.add_comm _ _
      ∙ sym (coeff_add (scale_list r.ops x ys) (r.𝟘 ∷ mul_lists r.ops xs ys) zero)
  coeff_mul_onto (x ∷ xs) ys zs null (suc n) =
      coeff_add (r.𝟘 ∷ mul_onto r.ops xs ys zs) (scale_list r.ops x ys) (suc n)
      ∙ r.add_comm _ _
      ∙ ap (r.◌⊕◌ (coeff_of r.ops (scale_list r.ops x ys) (suc n))) (coeff_mul_onto xs ys zs null n)
      ∙ sym (coeff_add (scale_list r.ops x ys) (r.𝟘 ∷ mul_lists r.ops xs ys) (suc n))

  coeff_trim_onto : (x : A) (xs : List A) (n : ℕ)
      → coeff_of r.ops (trim_onto r.is_zero x xs) n ≡ coeff_of r.ops (x ∷ xs) n
  coeff_trim_onto x [] n = go (r.is_zero x) refl n
    where
      go : (b : Bool) → r.is_zero x ≡ b → (n : ℕ) → coeff_of r.ops (cond b [] (x ∷ [])) n ≡ coeff_of r.ops (x ∷ []) n
      go true e zero = sym (r.zero_from x e)
      go true e (suc n) = refl
      go false e n = refl
  coeff_trim_onto x (y ∷ ys) n = refl

  pub coeff_trim : (xs : List A) (n : ℕ) → coeff_of r.ops (trim r.is_zero xs) n ≡ coeff_of r.ops xs n
  coeff_trim [] n = refl
  coeff_trim (x ∷ xs) zero = coeff_trim_onto x (trim r.is_zero xs) zero
  coeff_trim (x ∷ xs) (suc n) = coeff_trim_onto x (trim r.is_zero xs) (suc n) ∙ coeff_trim xs n

  -- a trimmed list without coefficients is empty
  pub all_zero_empty : (x : A) (xs : List A) → IsTrimmed r.is_zero (x ∷ xs)
      → ((n : ℕ) → coeff_of r.ops (x ∷ xs) n ≡ r.𝟘) → ⊥
  all_zero_empty x [] t none = let same : true ≡ false = sym r.zero_is_zero ∙ ap r.is_zero (sym (none zero)) ∙ t in (cc)
  all_zero_empty x (y ∷ ys) t none = all_zero_empty y ys t (λ n. none (suc n))

  -- trimmed lists with the same coefficients are the same
  pub same_from_coeffs : (xs ys : List A) → IsTrimmed r.is_zero xs → IsTrimmed r.is_zero ys
      → ((n : ℕ) → coeff_of r.ops xs n ≡ coeff_of r.ops ys n) → xs ≡ ys
  same_from_coeffs [] [] s t same = refl
  same_from_coeffs [] (y ∷ ys) s t same = absurd (all_zero_empty y ys t (λ n. sym (same n)))
  same_from_coeffs (x ∷ xs) [] s t same = absurd (all_zero_empty x xs s same)
  same_from_coeffs (x ∷ xs) (y ∷ ys) s t same =
      ap₂ ◌∷◌ (same zero) (same_from_coeffs xs ys (IsTrimmed_tail r.is_zero x xs s) (IsTrimmed_tail r.is_zero y ys t)
      (λ n. same (suc n)))

  pub same_trims : (xs ys : List A) → ((n : ℕ) → coeff_of r.ops xs n ≡ coeff_of r.ops ys n)
      → trim r.is_zero xs ≡ trim r.is_zero ys
  same_trims xs ys same =
      same_from_coeffs (trim r.is_zero xs) (trim r.is_zero ys) (IsTrimmed_trim r.is_zero xs)
      (IsTrimmed_trim r.is_zero ys)
      (λ n. coeff_trim xs n ∙ same n ∙ sym (coeff_trim ys n))
