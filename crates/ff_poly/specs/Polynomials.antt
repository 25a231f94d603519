-- The ring k[x], and how lists of codes stand for its members.
use Rattle.std.specs.Prelude.{◌≡◌, ℕ, zero, suc, ◌<◌, List, [], ◌∷◌, refl}
use Rattle.std.proofs.Common.{sym, ap, ap₂, ◌∙◌}
use mathlib.Core.HLevel.{Σ_prop_path}
use native.Mathlib.Decide.{ℕ_discrete}
use Rattle.ring_lemmas.specs.Ring.{TestedRing, IsDomain}
use Rattle.ring_lemmas.specs.Lists.{coeff_of, add_lists, mul_lists}
use Rattle.ring_lemmas.proofs.Ring.{zero_add, zero_mul, one_mul}
use Rattle.ring_lemmas.proofs.Sequences.{convolution_constant_left}
use Rattle.ring_lemmas.proofs.Lists.{trim_trimmed, coeff_trim}
use Rattle.ring_lemmas.specs.Polynomials.{Pol, pol_of, pol_ops}
use Rattle.ring_theory.specs.PolynomialRing.{pol_ring}
use Rattle.ring_theory.proofs.Polynomials.{pol_domain}
use Rattle.ring_lemmas.proofs.Polynomials.{same_pol, series_add, series_mul, IsTrimmed_prop}
use Rattle.ff_fields.specs.Field.{CodeField}
use Rattle.ff_fields.specs.Code.{zero_in, Code, same_code, code_ring, code_domain, read_code, read_code_below}
use Rattle.ff_fields.specs.Over.{IsOver, IsOver_nil, IsOver_cons}
use Rattle.ff_fields.specs.Numbers.{numbers, read, read_numbers, numbers_trim, numbers_add, numbers_mul, IsOver_numbers}
use Rattle.ff_poly.specs.Words.{IsPoly, poly_of, sum_of, product_of}
use Rattle.ff_poly.specs.PolyOver.{IsPoly_poly_of}
use Rattle.ff_poly.specs.Value.{value, numbers_value}

abbrev pub Polynomial : CodeField → Type 0
Polynomial k = Pol (code_ring k)

-- lists of numbers that are equal, or not
numbers_equal : (a b : ℕ) (p q : List ℕ) → Dec (a ≡ b) → Dec (p ≡ q) → Dec (a ∷ p ≡ b ∷ q)
numbers_equal a b p q (yes e) (yes d) = yes (ap₂ (λ x y. x ∷ y) e d)
numbers_equal a b p q (yes e) (no m) = no (λ h. let t : p ≡ q = cc in m t)
numbers_equal a b p q (no m) d = no (λ h. let t : a ≡ b = cc in m t)

pub numbers_discrete : (p q : List ℕ) → Dec (p ≡ q)
numbers_discrete [] [] = yes refl
numbers_discrete [] (b ∷ q) = no (λ h. cc)
numbers_discrete (a ∷ p) [] = no (λ h. cc)
numbers_discrete (a ∷ p) (b ∷ q) = numbers_equal a b p q (ℕ_discrete a b) (numbers_discrete p q)

module _ (k : CodeField) where
  -- k[x]
  abbrev pub polynomials : TestedRing (Polynomial k)
  polynomials = pol_ring (code_ring k)

  pub polynomials_domain : IsDomain polynomials.ops
  polynomials_domain = pol_domain (code_ring k) (code_domain k)

  -- the list of the codes of a polynomial
  abbrev pub codes_of : Polynomial k → List ℕ
  codes_of p = numbers k p.0

  pub IsOver_codes_of : (p : Polynomial k) → IsOver k.ops (codes_of p)
  IsOver_codes_of p = IsOver_numbers k p.0

  codes_of_poly_of : (p : Polynomial k) → poly_of (codes_of p) ≡ codes_of p
  codes_of_poly_of p =
      sym (numbers_trim k p.0) ∙ ap (numbers k) (trim_trimmed (code_ring k).is_zero p.0 p.1)

  pub IsPoly_codes_of : (p : Polynomial k) → IsPoly (codes_of p)
  IsPoly_codes_of p = rw (← (codes_of_poly_of p)) (IsPoly_poly_of (codes_of p))

  -- a polynomial is what its codes stand for
  pub value_codes_of : (p : Polynomial k) → value k (codes_of p) ≡ p
  value_codes_of p =
      ap (pol_of (code_ring k)) (read_numbers k p.0)
      ∙ Σ_prop_path (IsTrimmed_prop (code_ring k).is_zero) (trim_trimmed (code_ring k).is_zero p.0 p.1)

  pub polynomial_eq : (p q : Polynomial k) → codes_of p ≡ codes_of q → p ≡ q
  polynomial_eq p q e = sym (value_codes_of p) ∙ ap (value k) e ∙ value_codes_of q

  pub polynomial_discrete : (p q : Polynomial k) → Dec (p ≡ q)
  polynomial_discrete p q = decide (numbers_discrete (codes_of p) (codes_of q))
    where
      decide : Dec (codes_of p ≡ codes_of q) → Dec (p ≡ q)
      decide (yes e) = yes (polynomial_eq p q e)
      decide (no n) = no (λ e. n (ap codes_of e))

  -- the constants and x
  abbrev pub constant_poly : ℕ → Polynomial k
  constant_poly c = value k (c ∷ [])

  abbrev pub x_poly : Polynomial k
  x_poly = value k (0 ∷ 1 ∷ [])

  pub value_nil : value k [] ≡ polynomials.𝟘
  unfolding pol_ops
  value_nil = refl

  read_code_self : (c : ℕ) (x : Code k) → c ≡ x.0 → read_code k c ≡ x
  read_code_self c x e = same_code k _ x (ap (λ n. (read_code k n).0) e ∙ read_code_below k x.0 x.1)

  read_one : read_code k 1 ≡ (code_ring k).𝟙
  read_one = read_code_self 1 (code_ring k).𝟙 refl

  read_zero : read_code k 0 ≡ (code_ring k).𝟘
  read_zero = read_code_self 0 (code_ring k).𝟘 refl

  pub value_one : value k (1 ∷ []) ≡ polynomials.𝟙
  unfolding pol_ops
  value_one = ap (λ c. pol_of (code_ring k) (c ∷ [])) read_one

  -- the coefficients of what a list stands for
  pub series_read : (w : List ℕ) (n : ℕ)
      → coeff_of (code_ring k).ops (value k w).0 n ≡ coeff_of (code_ring k).ops (read k w) n
  series_read w n = coeff_trim (code_ring k) (read k w) n

  times_x : (p : Polynomial k) (n : ℕ) → coeff_of (code_ring k).ops (polynomials.◌⊗◌ x_poly p).0 (suc n)
      ≡ coeff_of (code_ring k).ops p.0 n
  times_x p n =
      series_mul (code_ring k) x_poly p (suc n)
      ∙ ap₂ (code_ring k).◌⊕◌
      (ap (λ c. (code_ring k).◌⊗◌ c (coeff_of (code_ring k).ops p.0 (suc n))) (series_read (0 ∷ 1 ∷ []) 0 ∙ read_zero)
      ∙ zero_mul (code_ring k).ring _)
      (convolution_constant_left (code_ring k).ring _ (coeff_of (code_ring k).ops p.0)
      (λ i. series_read (0 ∷ 1 ∷ []) (suc (suc i))) n
      ∙ ap (λ c. (code_ring k).◌⊗◌ c (coeff_of (code_ring k).ops p.0 n)) (series_read (0 ∷ 1 ∷ []) 1 ∙ read_one)
      ∙ one_mul (code_ring k).ring _)
      ∙ zero_add (code_ring k).ring _

  times_x_low : (p : Polynomial k) → coeff_of (code_ring k).ops (polynomials.◌⊗◌ x_poly p).0 zero ≡ (code_ring k).𝟘
  times_x_low p =
      series_mul (code_ring k) x_poly p zero
      ∙ ap (λ c. (code_ring k).◌⊗◌ c (coeff_of (code_ring k).ops p.0 zero)) (series_read (0 ∷ 1 ∷ []) 0 ∙ read_zero)
      ∙ zero_mul (code_ring k).ring _

  -- a list is its first code, and x times the rest
  pub value_cons : (c : ℕ) (w : List ℕ) → value k (c ∷ w)
      ≡ polynomials.◌⊕◌ (constant_poly c) (polynomials.◌⊗◌ x_poly (value k w))
  value_cons c w = same_pol (code_ring k) _ _ go
    where
      go : (n : ℕ) → coeff_of (code_ring k).ops (value k (c ∷ w)).0 n
          ≡ coeff_of (code_ring k).ops (polynomials.◌⊕◌ (constant_poly c) (polynomials.◌⊗◌ x_poly (value k w))).0 n
      go zero =
          series_read (c ∷ w) zero ∙ sym ((code_ring k).add_zero _)
          ∙ ap₂ (code_ring k).◌⊕◌ (sym (series_read (c ∷ []) zero)) (sym (times_x_low (value k w)))
          ∙ sym (series_add (code_ring k) (constant_poly c) (polynomials.◌⊗◌ x_poly (value k w)) zero)
      go (suc n) =
          series_read (c ∷ w) (suc n) ∙ sym (series_read w n) ∙ sym (zero_add (code_ring k).ring _)
          ∙ ap₂ (code_ring k).◌⊕◌ (sym (series_read (c ∷ []) (suc n))) (sym (times_x (value k w) n))
          ∙ sym (series_add (code_ring k) (constant_poly c) (polynomials.◌⊗◌ x_poly (value k w)) (suc n))

  -- what has no codes is 0, and what is 0 has none
  pub value_some : (d : List ℕ) → ¬ (codes_of (value k d) ≡ []) → ¬ (value k d ≡ polynomials.𝟘)
  value_some d n e = n (ap codes_of e ∙ zero_codes)
    where
      zero_codes : codes_of polynomials.𝟘 ≡ []
      zero_codes = ap codes_of (sym value_nil)

  -- a list of codes without a zero on top stands for 0 only where it is empty
  pub value_not_zero : (d : List ℕ) → IsOver k.ops d → IsPoly d → ¬ (d ≡ []) → ¬ (value k d ≡ polynomials.𝟘)
  value_not_zero d d_in d_poly n = value_some d (λ e. n (sym (numbers_value k d d_in d_poly) ∙ e))

  -- a list whose first code is not 0 stands for a polynomial other than 0
  pub value_first : (c : ℕ) (w : List ℕ) → c < k.size → ¬ (c ≡ 0) → ¬ (value k (c ∷ w) ≡ polynomials.𝟘)
  value_first c w c_in some e =
      some
      (sym (read_code_below k c c_in)
      ∙ ap (λ x. x.0) (sym (series_read (c ∷ w) zero) ∙ ap (λ p. coeff_of (code_ring k).ops p.0 zero) e
      ∙ ap (λ p. coeff_of (code_ring k).ops p.0 zero) (sym value_nil)))

  pub x_poly_not_zero : ¬ (x_poly ≡ polynomials.𝟘)
  x_poly_not_zero =
      value_not_zero (0 ∷ 1 ∷ []) (IsOver_cons (zero_in k) (IsOver_cons k.laws.one_below IsOver_nil))
      (record { trimmed = refl }) (λ e. cc)

  -- the codes of sums, products and negatives
  pub codes_of_sum : (p q : Polynomial k) → codes_of (polynomials.◌⊕◌ p q) ≡ sum_of k.ops (codes_of p) (codes_of q)
  unfolding pol_ops
  codes_of_sum p q = numbers_trim k (add_lists (code_ring k).ops p.0 q.0) ∙ ap poly_of (numbers_add k p.0 q.0)

  pub codes_of_product : (p q : Polynomial k)
      → codes_of (polynomials.◌⊗◌ p q) ≡ product_of k.ops (codes_of p) (codes_of q)
  unfolding pol_ops
  codes_of_product p q = numbers_trim k (mul_lists (code_ring k).ops p.0 q.0) ∙ ap poly_of (numbers_mul k p.0 q.0)
