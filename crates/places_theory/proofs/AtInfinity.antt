-- Polynomials at t = 1/x: a power of x times the value is the reversed polynomial.
use Rattle.finite_algebra_theory.proofs.ByMap.{map_pow}
use Rattle.ring_lemmas.proofs.Ring.{mul_pow, pow_one_base}
use Rattle.std.proofs.Common.{◌≡◌, ℕ, List, [], ◌∷◌, length, reverse, refl, sym, ◌∙◌, ap}
use Rattle.ring_lemmas.specs.Ring.{pow}
use Rattle.ring_theory.specs.Maps.{IsHom}
use Rattle.ring_theory.proofs.RowMaps.{hom_zero}
use Rattle.ring_lemmas.specs.Polynomials.{constant}
use Rattle.ring_theory.proofs.Evaluate.{constant_hom, evaluate, evaluate_trim, value_of, value_hom, hom_after}
use Rattle.ff_fields.specs.Field.{CodeField}
use Rattle.ff_fields.specs.Code.{Code, code_ring, same_code, read_code, read_code_below, zero_in}
use Rattle.ff_fields.specs.Numbers.{read}
use Rattle.ff_poly.specs.Value.{value}
use Rattle.ff_poly.specs.Polynomials.{Polynomial, polynomials, polynomials_domain, codes_of, value_codes_of, value_nil, IsOver_codes_of, IsPoly_codes_of, x_poly, x_poly_not_zero, constant_poly}
use Rattle.function_field.specs.declared.side.Side.TheVariants.{Finite, Infinite}
use Rattle.function_field.specs.Functions.{of_poly}
use Rattle.function_field.specs.Values.{PresValue, Functions, functions, equation_of}
use Rattle.function_field.specs.Infinity.{constant as constant_code, value_at, variable}
use Rattle.function_field.proofs.Reversal.{value as value_by, value_reverse}
use Rattle.function_field.proofs.OnSide.{value_at_x, den_inverse, reverse_not_zero}
use Rattle.places_theory.proofs.YRoot.{poly_hom}

module _ (k : CodeField) where
  pub constant_zero : constant_poly k 0 ≡ (polynomials k).𝟘
  constant_zero =
      ap (constant (code_ring k)) (same_code k (read_code k 0) (code_ring k).𝟘 (read_code_below k 0 (zero_in k)))
      ∙ hom_zero (code_ring k).ring (polynomials k).ring (constant (code_ring k)) (constant_hom (code_ring k))

module _ (k : CodeField) (p : PresValue) where
  -- a code as a function
  abbrev pub of_code : Code k → Functions k p
  of_code a = of_poly (equation_of k p) (constant (code_ring k) a)

  pub code_hom : IsHom (code_ring k).ring (functions k p) of_code
  code_hom =
      hom_after (code_ring k).ring (polynomials k).ring (functions k p) (constant (code_ring k))
      (of_poly (equation_of k p))
      (constant_hom (code_ring k)) (poly_hom (equation_of k p))

  -- the value of a polynomial at a function
  abbrev pub at : Functions k p → Polynomial k → Functions k p
  at t a = value_of (code_ring k) (functions k p) of_code code_hom t a

  pub at_hom : (t : Functions k p) → IsHom (polynomials k).ring (functions k p) (at t)
  at_hom t = value_hom (code_ring k) (functions k p) of_code code_hom t

  value_at_read : (t : Functions k p) (w : List ℕ)
      → value_at k p t w ≡ evaluate (code_ring k) (functions k p) of_code code_hom t (read k w)
  value_at_read t [] = refl
  value_at_read t (a ∷ w) = ap (λ s. (functions k p).◌⊕◌ (constant_code k p a) ((functions k p).◌⊗◌ t s))
      (value_at_read t w)

  pub value_at_is : (t : Functions k p) (w : List ℕ) → value_at k p t w ≡ at t (value k w)
  value_at_is t w = value_at_read t w ∙ sym (evaluate_trim (code_ring k) (functions k p) of_code code_hom t (read k w))

  pub at_codes : (t : Functions k p) (a : Polynomial k) → at t a ≡ value_at k p t (codes_of k a)
  at_codes t a = ap (at t) (sym (value_codes_of k a)) ∙ sym (value_at_is t (codes_of k a))

  -- the value at x is the polynomial
  pub at_x : (a : Polynomial k) → at (variable k p Finite) a ≡ of_poly (equation_of k p) a
  at_x a = at_codes (variable k p Finite) a ∙ value_at_x k p (codes_of k a)
      ∙ ap (of_poly (equation_of k p)) (value_codes_of k a)

  pub x_times_t : (functions k p).◌⊗◌ (variable k p Finite) (variable k p Infinite) ≡ (functions k p).𝟙
  x_times_t = den_inverse (equation_of k p) (x_poly k) (x_poly_not_zero k)

  -- powers of x and of 1/x
  pub x_power : (n : ℕ) → of_poly (equation_of k p) (pow (polynomials k).ops (x_poly k) n)
      ≡ pow (functions k p).ops (variable k p Finite) n
  x_power n = map_pow (polynomials k).ring (functions k p) (of_poly (equation_of k p)) (poly_hom (equation_of k p))
      (x_poly k) n

  pub powers_cancel : (n : ℕ)
      → (functions k p).◌⊗◌ (pow (functions k p).ops (variable k p Finite) n)
      (pow (functions k p).ops (variable k p Infinite) n) ≡ (functions k p).𝟙
  powers_cancel n =
      sym (mul_pow (functions k p) (variable k p Finite) (variable k p Infinite) n)
      ∙ ap (λ s. pow (functions k p).ops s n) x_times_t ∙ pow_one_base (functions k p) n

  value_at_value : (t : Functions k p) (w : List ℕ)
      → value_at k p t w ≡ value_by (functions k p) (constant_code k p) t w
  unfolding value_by
  value_at_value t [] = refl
  value_at_value t (a ∷ w) = ap (λ s. (functions k p).◌⊕◌ (constant_code k p a) ((functions k p).◌⊗◌ t s))
      (value_at_value t w)

  -- x^m times the value at 1/x of a list of m codes is x times the value at x of the reversed list
  pub reversed : (w : List ℕ) → (functions k p).◌⊗◌ (pow (functions k p).ops (variable k p Finite) (length w))
      (value_at k p (variable k p Infinite) w)
      ≡ of_poly (equation_of k p) ((polynomials k).◌⊗◌ (x_poly k) (value k (reverse w)))
  reversed w =
      ap ((functions k p).◌⊗◌ (pow (functions k p).ops (variable k p Finite) (length w)))
      (value_at_value (variable k p Infinite) w)
      ∙ value_reverse (functions k p) (constant_code k p) (variable k p Finite) (variable k p Infinite) x_times_t w
      ∙ ap ((functions k p).◌⊗◌ (variable k p Finite))
      (sym (value_at_value (variable k p Finite) (reverse w)) ∙ value_at_x k p (reverse w))
      ∙ sym ((poly_hom (equation_of k p)).mul (x_poly k) (value k (reverse w)))

  -- x^m·a(1/x) as a polynomial, for a of m codes
  abbrev pub turned : Polynomial k → Polynomial k
  turned a = (polynomials k).◌⊗◌ (x_poly k) (value k (reverse (codes_of k a)))

  pub turned_is : (a : Polynomial k) → (functions k p).◌⊗◌
      (pow (functions k p).ops (variable k p Finite) (length (codes_of k a))) (at (variable k p Infinite) a)
      ≡ of_poly (equation_of k p) (turned a)
  turned_is a =
      ap ((functions k p).◌⊗◌ (pow (functions k p).ops (variable k p Finite) (length (codes_of k a))))
      (at_codes (variable k p Infinite) a)
      ∙ reversed (codes_of k a)

  -- it is 0 only where a is
  pub turned_zero : (a : Polynomial k) → turned a ≡ (polynomials k).𝟘 → a ≡ (polynomials k).𝟘
  turned_zero a e = go (codes_of k a) refl
    where
      null : value k (reverse (codes_of k a)) ≡ (polynomials k).𝟘
      null = (polynomials_domain k).cancel_zero (x_poly k) (value k (reverse (codes_of k a))) (x_poly_not_zero k) e

      go : (w : List ℕ) → codes_of k a ≡ w → a ≡ (polynomials k).𝟘
      go [] h = sym (value_codes_of k a) ∙ ap (value k) h ∙ value_nil k
      go (d ∷ w) h = absurd (reverse_not_zero k p (codes_of k a) (IsOver_codes_of k a) (IsPoly_codes_of k a)
          (λ n. some d w (sym h ∙ n)) null)
        where
          some : (d : ℕ) (w : List ℕ) → d ∷ w ≡ [] → ⊥
          some d w f = cc
