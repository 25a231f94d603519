-- The discriminant takes a function whose products with the powers of y have polynomials as traces to polynomial
-- coordinates.
use Rattle.std.proofs.Common.{◌≡◌, ℕ, zero, suc, ◌<◌, sym, ◌∙◌, ap, arith}
use Rattle.ring_lemmas.specs.Ring.{pow}
use Rattle.ring_lemmas.specs.Rows.{Row, row_scale}
use Rattle.ring_lemmas.proofs.Ring.{one_mul}
use Rattle.ring_lemmas.proofs.Rows.{row_scale_one}
use Rattle.ff_fields.specs.Field.{CodeField}
use Rattle.ff_poly.specs.Polynomials.{Polynomial, polynomials}
use Rattle.function_field.specs.Functions.{Equation, FunctionOf, ring_of, row_of, of_poly, over, y_of, trace_of, degree_of_y, IsPolynomial}
use Rattle.function_field.specs.Discriminant.{discriminant}
use Rattle.trace_theory.specs.Traces.{HasPolynomialCoordinates}
use Rattle.trace_theory.proofs.RowMatrix.{row_with}
use Rattle.trace_theory.proofs.RowForm.{replaced, row_form}
use Rattle.trace_theory.proofs.FunctionTraces.{R, Y, Tr, one_some, over_product, over_eq, as_row, row_of_times, trace_power, polynomial_value}

-- a value for each number below m, as a function of all numbers
pub record Choice {P : Type 0} (Q : ℕ → P → Type 0) (m : ℕ) : Type 0 where
  pub chosen : ℕ → P
  pub holds : (j : ℕ) → j < m → Q j (chosen j)

first_then : {P : Type 0} → P → (ℕ → P) → ℕ → P
first_then a t zero = a
first_then a t (suc j) = t j

more : {P : Type 0} (Q : ℕ → P → Type 0) (m : ℕ) (a : P) → Q 0 a → Choice (λ j. Q (suc j)) m → Choice Q (suc m)
unfolding first_then
more Q m a h rest = record { chosen = first_then a rest.chosen; holds = at_each }
  where
    at_each : (j : ℕ) → j < suc m → Q j (first_then a rest.chosen j)
    at_each zero l = h
    at_each (suc j) l = rest.holds j (omega arith)

pub choose : {P : Type 0} (Q : ℕ → P → Type 0) (m : ℕ) → P → ((j : ℕ) → j < m → (a : P) × Q j a) → Choice Q m
choose Q zero d h = record { chosen = λ j. d; holds = λ j l. absurd (omega arith) }
choose Q (suc m) d h =
    let p = h 0 (omega arith) in more Q m p.0 p.1 (choose (λ j. Q (suc j)) m d (λ j l. h (suc j) (omega arith)))

module _ {k : CodeField} (c : Equation k) where
  infixl 70 ◌⊗◌
  open ring_of c use {◌⊗◌}

  -- where the traces of (v/d)·y^j are the polynomials t_j, the discriminant times v/d is the row of the determinants
  -- with t in place of a row
  pub form_value : (v : Row (Polynomial k) (suc c.lower_degree)) (d : Polynomial k) (n : ¬ (d ≡ (polynomials k).𝟘))
      (t : ℕ → Polynomial k)
      → ((j : ℕ) → j < degree_of_y c → trace_of c (over c v d n ⊗ pow (ring_of c).ops (y_of c) j) ≡ of_poly c (t j))
      → of_poly c (discriminant c) ⊗ over c v d n
      ≡ over c (row_with (polynomials k).ring (suc c.lower_degree)
      (replaced (polynomials k).ring c.lower_degree c.coefficients t)) (polynomials k).𝟙 (one_some c)
  form_value v d n t h =
      over_product c (row_of c (discriminant c)) v (polynomials k).𝟙 d (one_some c) n
      ∙ over_eq c _ _ _ _ _ _
      (row_scale_one (polynomials k).ring (suc c.lower_degree) _
      ∙ row_of_times c (discriminant c) v
      ∙ row_form (polynomials k).ring c.lower_degree c.coefficients v d t (λ j l.
      polynomial_value c (Tr c ((R c).◌⊗◌ v (Y c j))) (t j) d n (sym (trace_power c v d n j) ∙ h j l))
      ∙ ap (λ e. row_scale (polynomials k).ops (suc c.lower_degree) e
      (row_with (polynomials k).ring (suc c.lower_degree)
      (replaced (polynomials k).ring c.lower_degree c.coefficients t)))
      (sym (one_mul (polynomials k).ring d)))

  pub trace_form : (z : FunctionOf c)
      → ((i : ℕ) → i < degree_of_y c → IsPolynomial c (trace_of c (z ⊗ pow (ring_of c).ops (y_of c) i)))
      → HasPolynomialCoordinates c (of_poly c (discriminant c) ⊗ z)
  trace_form z h =
      let r = as_row c z in
      let t : Choice (λ j a. trace_of c (z ⊗ pow (ring_of c).ops (y_of c) j) ≡ of_poly c a) (degree_of_y c)
      = choose _ (degree_of_y c) (polynomials k).𝟘 (λ j l. let p = h j l in (p.polynomial, p.value)) in
      record {
        coordinates = row_with (polynomials k).ring (suc c.lower_degree)
            (replaced (polynomials k).ring c.lower_degree c.coefficients t.chosen);
        value =
            ap (λ u. of_poly c (discriminant c) ⊗ u) r.is
            ∙ form_value r.num r.den r.not_zero t.chosen (λ j l.
            ap (λ u. trace_of c (u ⊗ pow (ring_of c).ops (y_of c) j)) (sym r.is) ∙ t.holds j l);
      }
