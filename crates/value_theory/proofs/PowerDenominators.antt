-- The functions that powers of t take into k[t][Y] are the elements of the infinite presentation over powers of t.
use Rattle.std.proofs.Common.{◌≡◌, ℕ, zero, suc, ◌-◌, ◌≤◌, List, [], ◌∷◌, ◌++◌, replicate, refl, sym, ap, ap₂, ◌∙◌, arith}
use Rattle.ring_lemmas.specs.Ring.{pow}
use Rattle.ring_lemmas.proofs.Ring.{zero_add}
use Rattle.ring_lemmas.proofs.Solver.{ring, reads, from_two}
use Rattle.ff_fields.specs.Field.{CodeField}
use Rattle.ff_fields.specs.Over.{IsOver, IsOver_nil, IsOver_cons, IsOver_append, IsOver_zeros}
use Rattle.ff_poly.specs.Value.{value}
use Rattle.ff_poly.specs.Polynomials.{Polynomial, polynomials, value_cons, value_one, x_poly}
use Rattle.function_field.specs.Functions.{of_poly, over, row_of}
use Rattle.function_field.specs.Values.{PresValue, ElemValue, IsElem, Functions, functions, equation_of, row_of_list, row_over, function_of}
use Rattle.function_field.proofs.OnSide.{den_inverse}
use Rattle.function_field.proofs.SameValues.{row_over_num, row_over_den}
use Rattle.places_theory.proofs.YRoot.{at_y, den_times, at_y_plain}
use Rattle.polynomial_theory.proofs.Lengths.{x_power_not_zero}
use Rattle.places_theory.proofs.AtInfinity.{constant_zero, x_power}
use Rattle.infinite_theory.specs.Supported.{HasPowerDenominator}
use Rattle.ff_lattice.proofs.Elements.{read_is}
use Rattle.ff_lattice.proofs.Spaces.{codes_row, codes_row_length, codes_row_over, read_codes_row}

-- the powers of t as lists of codes
abbrev pub power_codes : ℕ → List ℕ
power_codes e = replicate e 0 ++ 1 ∷ []

module _ (k : CodeField) where
  pub power_over : (e : ℕ) → IsOver k.ops (power_codes e)
  power_over e = IsOver_append (IsOver_zeros k e) (IsOver_cons k.laws.one_below IsOver_nil)

  power_value : (e : ℕ) → value k (replicate e 0 ++ 1 ∷ []) ≡ pow (polynomials k).ops (x_poly k) e
  power_value zero = value_one k
  power_value (suc e) =
      value_cons k 0 (replicate e 0 ++ 1 ∷ [])
      ∙ ap₂ (polynomials k).◌⊕◌ (constant_zero k) (ap ((polynomials k).◌⊗◌ (x_poly k)) (power_value e))
      ∙ zero_add (polynomials k).ring _

module _ (k : CodeField) (q : PresValue) where
  infixl 65 ◌⊕◌
  infixl 70 ◌⊗◌
  infixr 80 ⊖◌
  open functions k q use {𝟘, 𝟙, ◌⊕◌, ◌⊗◌, ⊖◌}

  abbrev of : Polynomial k → Functions k q
  of a = of_poly (equation_of k q) a

  abbrev power : ℕ → Polynomial k
  power e = pow (polynomials k).ops (x_poly k) e

  -- a power of the variable times an element over it is the sum of its numerators
  power_times : (w : ElemValue) (e : ℕ) → w.den ≡ replicate e 0 ++ 1 ∷ []
      → of (power e) ⊗ function_of k q w ≡ at_y (equation_of k q) (suc (q.n - 1)) (row_of_list k (suc (q.n - 1)) w.num)
  power_times w e den =
      let is : value k w.den ≡ power e = ap (value k) den ∙ power_value k e in
      ap (λ d. of d ⊗ function_of k q w) (sym is ∙ sym (row_over_den k q w (λ z. x_power_not_zero k e (sym is ∙ z))))
      ∙ den_times (equation_of k q) (row_over k q w)
      ∙ ap (at_y (equation_of k q) (suc (q.n - 1))) (row_over_num k q w)

  pub over_power : (w : ElemValue) (e : ℕ) → w.den ≡ replicate e 0 ++ 1 ∷ []
      → HasPowerDenominator (equation_of k q) (x_poly k) (function_of k q w)
  over_power w e den = record {
    exponent = e;
    cleared = record {
      coordinates = row_of_list k (suc (q.n - 1)) w.num;
      value =
          ap (λ d. d ⊗ function_of k q w) (sym (x_power k q e)) ∙ power_times w e den
          ∙ at_y_plain (equation_of k q) (row_of_list k (suc (q.n - 1)) w.num);
    };
  }

  module _ (z : Functions k q) (h : HasPowerDenominator (equation_of k q) (x_poly k) z) where
    -- the element with the coordinates over the power
    abbrev pub element : ElemValue
    element = record { num = codes_row k (suc (q.n - 1)) h.cleared.coordinates; den = replicate h.exponent 0 ++ 1 ∷ [] }

    pub element_in : 1 ≤ q.n → IsElem k.ops q.n element
    element_in some = record {
      one_each = codes_row_length k (suc (q.n - 1)) h.cleared.coordinates
          ∙ (let e : suc (q.n - 1) ≡ q.n = omega (arith, some) in e);
      num_over = codes_row_over k (suc (q.n - 1)) h.cleared.coordinates;
      den_over = power_over k h.exponent;
    }

    pub element_is : function_of k q element ≡ z
    element_is =
        cancel (of (power h.exponent))
        (over (equation_of k q) (row_of (equation_of k q) (polynomials k).𝟙) (power h.exponent)
        (x_power_not_zero k h.exponent))
        (function_of k q element) z (den_inverse (equation_of k q) (power h.exponent) (x_power_not_zero k h.exponent))
        (power_times element h.exponent refl ∙ ap (at_y (equation_of k q) (suc (q.n - 1)))
        (sym (read_is k (suc (q.n - 1)) (codes_row k (suc (q.n - 1)) h.cleared.coordinates))
        ∙ read_codes_row k (suc (q.n - 1)) h.cleared.coordinates)
        ∙ at_y_plain (equation_of k q) h.cleared.coordinates ∙ sym h.cleared.value
        ∙ ap (λ d. d ⊗ z) (sym (x_power k q h.exponent)))
      where
        cancel : (d i z w : Functions k q) → d ⊗ i ≡ 𝟙 → d ⊗ z ≡ d ⊗ w → z ≡ w
        cancel d i z w f g =
            from_two (functions k q) (w ⊕ ⊖ z) i f g
            (ring (functions k q) (d ∷ i ∷ z ∷ w ∷ []) λ o n. simp (reads, o, n 0, n 1, n 2, n 3) (o.equal _ _ refl))
