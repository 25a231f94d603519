-- The trace form is degenerate exactly where the discriminant is 0.
use Rattle.std.proofs.Common.{◌≡◌, ℕ, suc, ◌<◌, ◌↔◌, refl, sym, ◌∙◌, ap}
use Rattle.ring_lemmas.specs.Ring.{pow}
use Rattle.ring_lemmas.specs.Rows.{row_zero, entry}
use Rattle.ring_lemmas.proofs.Ring.{mul_zero}
use Rattle.ring_lemmas.proofs.Rows.{row_scale_one, row_scale_zero}
use Rattle.ring_theory.specs.FunctionRing.{whole_pair}
use Rattle.ring_lemmas.proofs.Sums.{below_cong}
use Rattle.linear_theory.specs.Fields.{Domain}
use Rattle.ff_fields.specs.Field.{CodeField}
use Rattle.ff_poly.specs.Polynomials.{Polynomial, polynomials, polynomials_domain, polynomial_discrete}
use Rattle.function_field.specs.Functions.{Equation, FunctionOf, ring_of, function_eq, over, y_of, trace_of, degree_of_y, zero_function, whole_row}
use Rattle.function_field.specs.Discriminant.{discriminant}
use Rattle.function_field.proofs.Horner.{plain}
use Rattle.function_field.proofs.OnSide.{of_poly_zero}
use Rattle.trace_theory.specs.Traces.{HasDegenerateTraceForm}
use Rattle.trace_theory.proofs.RowMatrix.{at, row_with, entry_with, entry_zero, row_by_entries, trace_form as row_trace_form}
use Rattle.trace_theory.proofs.Determinants.{zero_row}
use Rattle.trace_theory.proofs.RowForm.{gram, entry_form}
use Rattle.trace_theory.proofs.Dependence.{RowRelation, row_relation}
use Rattle.trace_theory.proofs.FunctionTraces.{K, R, Y, Tr, one_some, over_same, over_eq, as_row, trace_power, polynomial_value, value_polynomial}

module _ {k : CodeField} (c : Equation k) where
  infixl 70 ◌⊗◌
  open ring_of c use {◌⊗◌}

  abbrev pub domain : Domain (Polynomial k)
  domain = record { tested = polynomials k; is_domain = polynomials_domain k }

  abbrev N : ℕ
  N = suc c.lower_degree

  pub zero_over : (d : Polynomial k) (n : ¬ (d ≡ (K c).𝟘)) → (ring_of c).𝟘 ≡ over c (row_zero (K c).ops N) d n
  unfolding whole_pair
  zero_over d n =
      zero_function c
      ∙ function_eq c (whole_row c (row_zero (K c).ops N)) (plain c (row_zero (K c).ops N)) refl
      ∙ over_eq c (row_zero (K c).ops N) (row_zero (K c).ops N) (K c).𝟙 d (one_some c) n
      (row_scale_zero (K c) N d ∙ sym (row_scale_zero (K c) N (K c).𝟙))

  pub zero_by_traces : (z : FunctionOf c) → ¬ (discriminant c ≡ (polynomials k).𝟘)
      → ((i : ℕ) → i < degree_of_y c → trace_of c (z ⊗ pow (ring_of c).ops (y_of c) i) ≡ (ring_of c).𝟘)
      → z ≡ (ring_of c).𝟘
  zero_by_traces z some h =
      let r = as_row c z in
      let null : r.num ≡ row_zero (K c).ops N
      = row_by_entries (K c) N r.num (row_zero (K c).ops N) (λ i l.
      (polynomials_domain k).cancel_zero (discriminant c) (at (K c) c.lower_degree c.coefficients i r.num) some
      ((K c).mul_comm _ _
      ∙ entry_form (K c) c.lower_degree c.coefficients r.num r.den (λ j. (K c).𝟘) (λ j b.
      polynomial_value c (Tr c ((R c).◌⊗◌ r.num (Y c j))) (K c).𝟘 r.den r.not_zero
      (sym (trace_power c r.num r.den r.not_zero j)
      ∙ ap (λ u. trace_of c (u ⊗ pow (ring_of c).ops (y_of c) j)) (sym r.is) ∙ h j b ∙ of_poly_zero c)) i l
      ∙ ap (λ x. (K c).◌⊗◌ r.den x) (zero_row (K c) N i l (gram (K c) c.lower_degree c.coefficients))
      ∙ mul_zero (K c) r.den)
      ∙ sym (entry_zero (K c) N i)) in
      r.is ∙ ap (λ v. over c v r.den r.not_zero) null ∙ sym (zero_over r.den r.not_zero)

  of_row_relation : RowRelation domain N (gram (K c) c.lower_degree c.coefficients) → HasDegenerateTraceForm c
  of_row_relation r =
      let v = row_with (K c) N r.coefficient in
      record {
        member = over c v (K c).𝟙 (one_some c);
        not_null = λ e.
            r.nonzero
            (sym (entry_with (K c) N r.position r.coefficient r.position_below)
            ∙ ap (entry (K c).ops N r.position)
            (sym (row_scale_one (K c) N v)
            ∙ over_same c v (row_zero (K c).ops N) (K c).𝟙 (K c).𝟙 (one_some c) (one_some c)
            (e ∙ zero_over (K c).𝟙 (one_some c))
            ∙ row_scale_one (K c) N (row_zero (K c).ops N))
            ∙ entry_zero (K c) N r.position);
        traces = λ j l.
            trace_power c v (K c).𝟙 (one_some c) j
            ∙ value_polynomial c (Tr c ((R c).◌⊗◌ v (Y c j))) (K c).𝟘 (K c).𝟙 (one_some c)
            (row_trace_form (K c) c.lower_degree c.coefficients v j
            ∙ below_cong (K c) N _ _ (λ i b.
            ap (λ x. (K c).◌⊗◌ x (gram (K c) c.lower_degree c.coefficients i j)) (entry_with (K c) N i r.coefficient b))
            ∙ r.is j l ∙ sym (mul_zero (K c) (K c).𝟙))
            ∙ sym (of_poly_zero c);
      }

  pub degenerate : (discriminant c ≡ (polynomials k).𝟘) ↔ HasDegenerateTraceForm c
  degenerate = (
    λ e. of_row_relation (row_relation domain N (gram (K c) c.lower_degree c.coefficients) e),
    λ h. go h (polynomial_discrete k (discriminant c) (polynomials k).𝟘),
  )
    where
      go : HasDegenerateTraceForm c → Dec (discriminant c ≡ (polynomials k).𝟘) → discriminant c ≡ (polynomials k).𝟘
      go h (yes e) = e
      go h (no n) = absurd (h.not_null (zero_by_traces h.member n h.traces))
