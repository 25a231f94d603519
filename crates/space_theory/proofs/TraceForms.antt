-- The trace of a product as a form with values in the rational functions: it tells functions apart where the
-- discriminant isn't 0.
use Rattle.std.proofs.Common.{◌≡◌, [], ◌∷◌, refl, ◌∙◌, ap}
use Rattle.ring_lemmas.specs.Ring.{pow}
use Rattle.ring_lemmas.proofs.Ring.{add_mul, eq_of_sub}
use Rattle.ring_lemmas.proofs.Solver.{ring, reads}
use Rattle.ff_fields.specs.Field.{CodeField}
use Rattle.ff_fields.specs.Code.{code_ring}
use Rattle.ff_poly.specs.Polynomials.{polynomials, polynomials_domain}
use Rattle.function_field.specs.Discriminant.{discriminant}
use Rattle.function_field.specs.Functions.{Equation, FunctionOf, ring_of, of_poly, row_of, y_of, trace_of}
use Rattle.trace_theory.proofs.FunctionTraces.{as_row, trace_plus, trace_times, trace_rational}
use Rattle.trace_theory.proofs.Degenerate.{zero_by_traces}
use Rattle.lattice_theory.specs.Lattices.{polynomial_ops}
use Rattle.reduced_basis_theory.specs.Canonical.{IsTraceForm}
use Rattle.space_theory.proofs.RationalPart.{rational_ring, rational_first, same_rational, polynomial_part, rational_fractions}
use Rattle.trace_theory.proofs.DualBasis.{trace_minus}

module _ {k : CodeField} (c : Equation k) where
  infixl 65 ◌⊕◌
  infixl 70 ◌⊗◌
  infixr 80 ⊖◌
  open ring_of c use {𝟘, 𝟙, ◌⊕◌, ◌⊗◌, ⊖◌}

  abbrev pub form : FunctionOf c → FunctionOf c → (z : FunctionOf c) × ((as_row c z).num ≡ row_of c (as_row c z).num.0)
  form u v = (
    trace_of c ((ring_of c).◌⊗◌ u v),
    rational_first c (trace_of c ((ring_of c).◌⊗◌ u v)) (trace_rational c ((ring_of c).◌⊗◌ u v)),
  )

  difference : (z w u : FunctionOf c) → (z ⊕ ⊖ w) ⊗ u ≡ z ⊗ u ⊕ ⊖ (w ⊗ u)
  difference z w u = ring (ring_of c) (z ∷ w ∷ u ∷ []) λ q h. simp (reads, q, h 0, h 1, h 2) (q.equal _ _ refl)

  pub trace_form : ¬ (discriminant c ≡ (polynomials k).𝟘)
      → IsTraceForm (code_ring k) (polynomial_ops c) (ring_of c).ops (rational_ring c).ops (polynomial_part c) form
  trace_form some = record {
    fractions = rational_fractions c;
    form = record {
      sum = λ u v w. same_rational c _ _ (ap (trace_of c) (add_mul (ring_of c) u v w) ∙ trace_plus c (u ⊗ w) (v ⊗ w));
      scale = λ p u w.
          same_rational c _ _
          (ap (trace_of c) ((ring_of c).mul_assoc (of_poly c p) u w)
          ∙ trace_times c (of_poly c p) (u ⊗ w)
          (record {
            top = p;
            bottom = (polynomials k).𝟙;
            not_null = (polynomials_domain k).one_not_zero;
            value = refl;
          }));
      symmetric = λ u v. same_rational c _ _ (ap (trace_of c) ((ring_of c).mul_comm u v));
      separates = λ y z h.
          eq_of_sub (ring_of c) y z
          (zero_by_traces c (y ⊕ ⊖ z) some (λ i l.
          ap (trace_of c) (difference y z (pow (ring_of c).ops (y_of c) i))
          ∙ trace_minus c _ _ (ap (λ a. a.0) (h (pow (ring_of c).ops (y_of c) i)))));
    };
    move = λ x y z. same_rational c _ _ (ap (trace_of c) ((ring_of c).mul_assoc x y z));
  }
