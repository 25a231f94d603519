-- The q-th power of a sum of polynomials is the sum of the q-th powers, q being the number of codes of the field; and
-- so in each ring over the field.
use Rattle.std.proofs.Common.{◌≡◌, ℕ, suc, ◌-◌, ◌≤◌, inl, inr, List, [], ◌∷◌, length, All, sym, ◌∙◌, ap, arith}
use Rattle.std.proofs.lemmas.List.Elements.{All-nil, All-cons}
use Rattle.ring_lemmas.specs.Ring.{CommRing, pow}
use Rattle.ring_theory.specs.Members.{In, IsDistinct}
use Rattle.ring_theory.specs.Maps.{IsHom}
use Rattle.ring_theory.proofs.RowMaps.{hom_zero}
use Rattle.ring_lemmas.specs.Polynomials.{constant}
use Rattle.ring_theory.proofs.Evaluate.{constant_hom}
use Rattle.linear_theory.specs.Fields.{Domain}
use Rattle.linear_theory.specs.Distinct.{Distinct}
use Rattle.linear_theory.proofs.Frobenius.{frobenius}
use Rattle.ff_fields.specs.Field.{CodeField}
use Rattle.ff_fields.specs.Code.{Code, code_ring, code_domain}
use Rattle.ff_poly.specs.Polynomials.{Polynomial, polynomials}
use Rattle.polynomial_theory.proofs.CodeFields.{code_finite}

-- the two forms of "no member stands twice"
not_in : {A : Type 0} (x : A) (ys : List A) → (In x ys → ⊥) → All (λ y. ¬ (y ≡ x)) ys
not_in x [] h = All-nil (λ y. ¬ (y ≡ x))
not_in x (y ∷ ys) h = All-cons (λ y. ¬ (y ≡ x)) y ys (λ e. h (inl (sym e))) (not_in x ys (λ i. h (inr i)))

distinct : {A : Type 0} (xs : List A) → IsDistinct xs → Distinct xs
distinct [] h = tt
distinct (x ∷ xs) h = (not_in x xs h.0, distinct xs h.1)

every : {A : Type 0} (T : A → Type 0) → ((a : A) → T a) → (xs : List A) → All T xs
every T h [] = All-nil T
every T h (x ∷ xs) = All-cons T x xs (h x) (every T h xs)

module _ (k : CodeField) where
  abbrev pub codes : Domain (Code k)
  codes = record { tested = code_ring k; is_domain = code_domain k }

  -- the number of codes, as a successor
  pub size_less : ℕ
  size_less = length (code_finite k).codes - 1

  abbrev pub q : ℕ
  q = suc size_less

  some_codes : (xs : List (Code k)) → In (code_ring k).𝟘 xs → length xs ≡ suc (length xs - 1)
  some_codes [] h = absurd h
  some_codes (x ∷ xs) h = omega arith

  pub codes_number : length (code_finite k).codes ≡ q
  unfolding size_less
  codes_number = some_codes (code_finite k).codes ((code_finite k).codes_all (code_ring k).𝟘)

  -- 0 and 1 are two codes
  two_codes : (xs : List (Code k)) → In (code_ring k).𝟘 xs → In (code_ring k).𝟙 xs → 1 ≤ length xs - 1
  two_codes [] h g = absurd h
  two_codes (x ∷ []) (inl e) (inl f) = absurd ((code_domain k).one_not_zero (f ∙ sym e))
  two_codes (x ∷ []) (inr e) g = absurd e
  two_codes (x ∷ []) (inl e) (inr g) = absurd g
  two_codes (x ∷ y ∷ xs) h g = omega arith

  pub size_some : 1 ≤ size_less
  unfolding size_less
  size_some =
      two_codes (code_finite k).codes ((code_finite k).codes_all (code_ring k).𝟘)
      ((code_finite k).codes_all (code_ring k).𝟙)

  code_power : (a : Code k) → pow (code_ring k).ops a q ≡ a
  code_power a = ap (pow (code_ring k).ops a) (sym codes_number) ∙ (code_finite k).power a

  -- the q-th power is additive in each ring over k
  pub power_add : {B : Type 0} (S : CommRing B) (e : Code k → B) → IsHom (code_ring k).ring S e → (a b : B)
      → pow S.ops (S.◌⊕◌ a b) q ≡ S.◌⊕◌ (pow S.ops a q) (pow S.ops b q)
  power_add S e h a b =
      frobenius codes size_less (code_finite k).codes (distinct (code_finite k).codes (code_finite k).codes_distinct)
      codes_number
      (every (λ c. pow (code_ring k).ops c q ≡ c) code_power (code_finite k).codes)
      (every (λ c. pow (code_ring k).ops ((code_ring k).◌⊕◌ c (code_ring k).𝟙) q ≡ (code_ring k).◌⊕◌ c (code_ring k).𝟙)
      (λ c. code_power _) (code_finite k).codes)
      S e (record { zero_is = hom_zero (code_ring k).ring S e h; one_is = h.𝟙; sum_is = h.add; product_is = h.mul }) a b

  pub polynomial_power_add : (a b : Polynomial k)
      → pow (polynomials k).ops ((polynomials k).◌⊕◌ a b) q
      ≡ (polynomials k).◌⊕◌ (pow (polynomials k).ops a q) (pow (polynomials k).ops b q)
  polynomial_power_add a b = power_add (polynomials k).ring (constant (code_ring k)) (constant_hom (code_ring k)) a b
