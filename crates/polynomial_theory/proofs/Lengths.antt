-- The lengths of polynomials that are not 0, and the powers of x.
use Rattle.std.proofs.Common.{◌≡◌, ℕ, zero, suc, ◌<◌, ◌≤◌, ◌⊎◌, inl, inr, [], ◌∷◌, length, refl, sym, ◌∙◌, ap, arith}
use Rattle.ring_lemmas.specs.Ring.{pow}
use Rattle.ring_lemmas.proofs.Ring.{mul_zero, product_not_zero}
use Rattle.ring_lemmas.specs.Polynomials.{pol_ops}
use Rattle.ring_lemmas.proofs.Polynomials.{coeff_past}
use Rattle.ring_theory.proofs.Polynomials.{length_product}
use Rattle.ff_fields.specs.Field.{CodeField}
use Rattle.ff_fields.specs.Code.{code_ring, code_domain, read_code, read_code_below}
use Rattle.ff_poly.specs.Polynomials.{Polynomial, polynomials, polynomials_domain, polynomial_discrete, x_poly, x_poly_not_zero, series_read}
use Rattle.std.proofs.lemmas.Bool.{cases_lt}

-- a number above 0
pub one_or_more : (n : ℕ) → 0 < n → (n ≡ 1) ⊎ (2 ≤ n)
one_or_more n l = grind arith

module _ (k : CodeField) where
  pub zero_length : length (polynomials k).𝟘.0 ≡ 0
  unfolding pol_ops
  zero_length = refl

  pub some_long : (a : Polynomial k) → ¬ (a ≡ (polynomials k).𝟘) → 0 < length a.0
  some_long a n = omega (arith, length_product (code_ring k) (code_domain k) a a n n)

  pub some_of_long : (a : Polynomial k) → 0 < length a.0 → ¬ (a ≡ (polynomials k).𝟘)
  some_of_long a l e = let q : length a.0 ≡ 0 = ap (λ p. length p.0) e ∙ zero_length in absurd (omega arith)

  pub product_longer : (a b : Polynomial k) → ¬ (a ≡ (polynomials k).𝟘) → ¬ (b ≡ (polynomials k).𝟘)
      → length a.0 ≤ length ((polynomials k).◌⊗◌ a b).0
  product_longer a b n m = omega (arith, some_long b m, length_product (code_ring k) (code_domain k) a b n m)

  x_long : 2 ≤ length (x_poly k).0
  x_long = go (cases_lt 1 (length (x_poly k).0))
    where
      go : (2 ≤ length (x_poly k).0) ⊎ (length (x_poly k).0 ≤ 1) → 2 ≤ length (x_poly k).0
      go (inl l) = l
      go (inr l) =
          let e : (read_code k 1).0 ≡ 0 = ap (λ c. c.0)
          (sym (series_read k (0 ∷ 1 ∷ []) 1) ∙ coeff_past (code_ring k) (x_poly k).0 1 l) in
          let f = read_code_below k 1 k.laws.one_below in absurd (omega arith)

  pub x_power_not_zero : (n : ℕ) → ¬ (pow (polynomials k).ops (x_poly k) n ≡ (polynomials k).𝟘)
  x_power_not_zero zero = (polynomials_domain k).one_not_zero
  x_power_not_zero (suc n) = product_not_zero (polynomials_domain k) (x_poly k) _ (x_poly_not_zero k)
      (x_power_not_zero n)

  -- x^m has m + 1 coefficients at least
  pub x_power_long : (m : ℕ) → m < length (pow (polynomials k).ops (x_poly k) m).0
  x_power_long zero = some_long (polynomials k).𝟙 (polynomials_domain k).one_not_zero
  x_power_long (suc m) =
      omega (
        arith,
        x_long,
        x_power_long m,
        length_product (code_ring k) (code_domain k) (x_poly k)
            (pow (polynomials k).ops (x_poly k) m) (x_poly_not_zero k) (x_power_not_zero m),
      )

  -- what is divided by every polynomial but 0 is 0
  pub zero_of_multiples : (b : Polynomial k)
      → ((a : Polynomial k) → ¬ (a ≡ (polynomials k).𝟘) → (w : Polynomial k) × (b ≡ (polynomials k).◌⊗◌ a w))
      → b ≡ (polynomials k).𝟘
  zero_of_multiples b h = go (polynomial_discrete k b (polynomials k).𝟘)
    where
      a : Polynomial k
      a = pow (polynomials k).ops (x_poly k) (length b.0)

      impossible : ¬ (b ≡ (polynomials k).𝟘)
          → (w : Polynomial k) × (b ≡ (polynomials k).◌⊗◌ (pow (polynomials k).ops (x_poly k) (length b.0)) w) → ⊥
      impossible n (w, e) =
          let some : ¬ (w ≡ (polynomials k).𝟘) = λ z. n
          (e ∙ ap (λ w. (polynomials k).◌⊗◌ (pow (polynomials k).ops (x_poly k) (length b.0)) w) z
          ∙ mul_zero (polynomials k).ring _) in
          absurd
          (omega (
            arith,
            x_power_long (length b.0),
            some_long w some,
            ap (λ p. length p.0) e,
            length_product (code_ring k) (code_domain k) (pow (polynomials k).ops (x_poly k) (length b.0)) w
                (x_power_not_zero (length b.0)) some,
          ))

      go : Dec (b ≡ (polynomials k).𝟘) → b ≡ (polynomials k).𝟘
      go (yes e) = e
      go (no n) = absurd (impossible n (h (pow (polynomials k).ops (x_poly k) (length b.0))
          (x_power_not_zero (length b.0))))
