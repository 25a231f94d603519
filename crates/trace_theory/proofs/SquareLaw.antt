-- Where an irreducible p takes a function to polynomial coordinates that the function doesn't have, while its traces
-- are polynomials, the square of p divides the discriminant.
use Rattle.std.proofs.Common.{◌≡◌, ℕ, suc, ◌<◌, ◌⊎◌, inl, inr, refl, sym, ◌∙◌, ap, ap₂, subst, zero}
use Rattle.ring_lemmas.specs.Ring.{pow}
use Rattle.ring_lemmas.specs.Rows.{Row}
use Rattle.ring_lemmas.proofs.Ring.{mul_left_comm, domain_cancel, product_not_zero, one_mul}
use Rattle.ring_lemmas.proofs.Rows.{row_scale_one}
use Rattle.ring_lemmas.proofs.Solver.{ring}
use Rattle.linear_theory.specs.Euclidean.{IsDivisorIn}
use Rattle.linear_theory.proofs.Domain.{least}
use Rattle.ff_fields.specs.Field.{CodeField}
use Rattle.ff_poly.specs.Words.{IsIrreducibleList}
use Rattle.ff_poly.specs.Polynomials.{Polynomial, polynomials, polynomials_domain, codes_of}
use Rattle.function_field.specs.Functions.{Equation, FunctionOf, ring_of, row_of, of_poly, over, y_of, trace_of, degree_of_y, IsPolynomial, setting_of}
use Rattle.function_field.specs.declared.side.Side.TheVariants.{Finite}
use Rattle.function_field.specs.Places.{IsIntegralAt}
use Rattle.function_field.specs.Discriminant.{discriminant}
use Rattle.function_field.proofs.OnSide.{den_inverse}
use Rattle.function_field.proofs.ScalarRings.{polynomials_subring}
use Rattle.prime_theory.specs.Orders.{MaximalAt}
use Rattle.prime_theory.proofs.IntegralRing.{integral_base}
use Rattle.ring_theory.proofs.Local.{power_in}
use Rattle.trace_theory.specs.Traces.{HasPolynomialCoordinates}
use Rattle.trace_theory.proofs.RowMatrix.{at, at_scale, row_with, entry_with, row_by_entries}
use Rattle.trace_theory.proofs.RowForm.{entry_square}
use Rattle.trace_theory.proofs.TraceForm.{Choice, choose}
use Rattle.trace_theory.proofs.FunctionTraces.{K, R, Y, Tr, one_some, over_product, over_eq, trace_over, trace_power, polynomial_value}
use Rattle.trace_theory.proofs.Reduced.{den_clears}
use Rattle.trace_theory.proofs.IntegralLaw.{integral_trace, integral_traces, integral_times}
use Rattle.polynomial_theory.proofs.Irreducible.{decide_divides, prime, irreducible_some}
use Rattle.places_theory.proofs.YRoot.{cancel_invertible}

module _ {k : CodeField} (c : Equation k) (p : Polynomial k) (h : IsIrreducibleList k.ops (codes_of k p)) where
  infixl 70 ◌⊗◌
  open ring_of c use {◌⊗◌}

  abbrev Divides : Polynomial k → Type 0
  Divides a = IsDivisorIn (polynomials k).ops p a

  p_some : ¬ (p ≡ (K c).𝟘)
  p_some = irreducible_some k p h

  -- p doesn't divide a, and p² divides a²·b: p² divides b
  square_divides : (a b g : Polynomial k) → ¬ Divides a → (K c).◌⊗◌ a ((K c).◌⊗◌ a b) ≡ (K c).◌⊗◌ p ((K c).◌⊗◌ p g)
      → IsDivisorIn (polynomials k).ops ((K c).◌⊗◌ p p) b
  square_divides a b g free e = at_first (twice b ((K c).◌⊗◌ p g) e)
    where
      other : (x : Polynomial k) → Divides ((polynomials k).◌⊗◌ a x) → Divides x
      other x d = elim (prime k p h a x d) [ inl y ↦ absurd (free y) | inr y ↦ y ]

      twice : (x y : Polynomial k) → (polynomials k).◌⊗◌ a ((polynomials k).◌⊗◌ a x) ≡ (polynomials k).◌⊗◌ p y
          → Divides x
      twice x y f = other x (other ((polynomials k).◌⊗◌ a x) (y, f))

      at_first : Divides b → IsDivisorIn (polynomials k).ops ((polynomials k).◌⊗◌ p p) b
      at_first (f, is) =
          let q = twice f g
          (domain_cancel (K c) (polynomials_domain k) p _ _ p_some
          (turn p a f ∙ ap (λ x. (K c).◌⊗◌ a ((K c).◌⊗◌ a x)) (sym is) ∙ e)) in
          (q.0, is ∙ ap ((K c).◌⊗◌ p) q.1 ∙ sym ((K c).mul_assoc p p q.0))
        where
          turn : (p a f : Polynomial k)
              → (polynomials k).◌⊗◌ p ((polynomials k).◌⊗◌ a ((polynomials k).◌⊗◌ a f))
              ≡ (polynomials k).◌⊗◌ a ((polynomials k).◌⊗◌ a ((polynomials k).◌⊗◌ p f))
          turn p a f = mul_left_comm (polynomials k).ring p a _
              ∙ ap ((polynomials k).◌⊗◌ a) (mul_left_comm (polynomials k).ring p a f)

  -- the function w/p
  over_p : (z : FunctionOf c) (w : Row (Polynomial k) (suc c.lower_degree))
      → of_poly c p ⊗ z ≡ over c w (K c).𝟙 (one_some c) → z ≡ over c w p p_some
  over_p z w e =
      cancel_invertible (ring_of c) (of_poly c p) (over c (row_of c (K c).𝟙) p p_some) z (over c w p p_some)
      (den_inverse c p p_some) (e ∙ sym (den_clears c w p p_some))

  -- where p divides each entry, w/p has polynomial coordinates
  all_divided : (w : Row (Polynomial k) (suc c.lower_degree))
      → ((i : ℕ) → i < suc c.lower_degree → Divides (at (K c) c.lower_degree c.coefficients i w))
      → HasPolynomialCoordinates c (over c w p p_some)
  all_divided w d =
      let e : Choice (λ i b. at (K c) c.lower_degree c.coefficients i w ≡ (K c).◌⊗◌ p b) (suc c.lower_degree) = choose _
      (suc c.lower_degree) (K c).𝟘 d in
      let v = row_with (K c) (suc c.lower_degree) e.chosen in
      record {
        coordinates = v;
        value =
            over_eq c w v p (K c).𝟙 p_some (one_some c)
            (row_scale_one (K c) (suc c.lower_degree) w
            ∙ row_by_entries (K c) (suc c.lower_degree) w _ (λ i l.
            e.holds i l ∙ ap ((K c).◌⊗◌ p) (sym (entry_with (K c) (suc c.lower_degree) i e.chosen l))
            ∙ sym (at_scale (K c) c.lower_degree c.coefficients i p v)));
      }

  decide_not : (a : Polynomial k) → Dec (¬ Divides a)
  decide_not a = elim (decide_divides k p h a) [ yes d ↦ no (λ n. n d) | no n ↦ yes n ]

  not_not : (a : Polynomial k) → ¬ ¬ Divides a → Divides a
  not_not a n = elim (decide_divides k p h a) [ yes d ↦ d | no m ↦ absurd (n m) ]

  -- the square divides the discriminant, or the function has polynomial coordinates
  square_or_whole : (z : FunctionOf c) → HasPolynomialCoordinates c (of_poly c p ⊗ z)
      → ((i : ℕ) → i < degree_of_y c → IsPolynomial c (trace_of c (z ⊗ pow (ring_of c).ops (y_of c) i)))
      → IsPolynomial c (trace_of c (z ⊗ z))
      → IsDivisorIn (polynomials k).ops ((K c).◌⊗◌ p p) (discriminant c) ⊎ HasPolynomialCoordinates c z
  square_or_whole z times traces square = go
      (least (λ i. ¬ Divides (at (K c) c.lower_degree c.coefficients i times.coordinates)) (λ i. decide_not _)
      (suc c.lower_degree))
    where
      t : Choice (λ j a. Tr c ((R c).◌⊗◌ times.coordinates (Y c j)) ≡ (K c).◌⊗◌ p a) (suc c.lower_degree)
      t =
          choose _ (suc c.lower_degree) (K c).𝟘 (λ j l. (
            (traces j l).polynomial,
            polynomial_value c (Tr c ((R c).◌⊗◌ times.coordinates (Y c j))) (traces j l).polynomial p p_some
                (sym (trace_power c times.coordinates p p_some j)
                ∙ ap (λ u. trace_of c ((ring_of c).◌⊗◌ u (pow (ring_of c).ops (y_of c) j)))
                (sym (over_p z times.coordinates times.value))
                ∙ (traces j l).value),
          ))

      squared : Tr c ((R c).◌⊗◌ times.coordinates times.coordinates) ≡ (K c).◌⊗◌ p ((K c).◌⊗◌ p square.polynomial)
      squared =
          polynomial_value c (Tr c ((R c).◌⊗◌ times.coordinates times.coordinates)) square.polynomial ((K c).◌⊗◌ p p)
          (product_not_zero (polynomials_domain k) p p p_some p_some)
          (sym (trace_over c _ _ _) ∙ ap (trace_of c)
          (over_eq c _ _ _ _ _ _ refl ∙ sym (over_product c times.coordinates times.coordinates p p p_some p_some)
          ∙ sym (ap₂ (ring_of c).◌⊗◌ (over_p z times.coordinates times.value) (over_p z times.coordinates times.value)))
          ∙ square.value)
          ∙ (K c).mul_assoc p p square.polynomial

      go : ((i : ℕ) × (i < suc c.lower_degree)
          × (¬ Divides (at (K c) c.lower_degree c.coefficients i times.coordinates))
          × ((j : ℕ) → j < i → ¬ ¬ Divides (at (K c) c.lower_degree c.coefficients j times.coordinates)))
          ⊎ ((i : ℕ) → i < suc c.lower_degree
          → ¬ ¬ Divides (at (K c) c.lower_degree c.coefficients i times.coordinates))
          → IsDivisorIn (polynomials k).ops ((K c).◌⊗◌ p p) (discriminant c) ⊎ HasPolynomialCoordinates c z
      go (inl (i, l, free, before)) =
          let g = entry_square (K c) c.lower_degree c.coefficients times.coordinates p t.chosen t.holds
          (polynomials_domain k) p_some square.polynomial squared i l in
          inl (square_divides (at (K c) c.lower_degree c.coefficients i times.coordinates) (discriminant c) g.0 free
          g.1)
      go (inr all) =
          inr (subst (HasPolynomialCoordinates c) (sym (over_p z times.coordinates times.value))
          (all_divided times.coordinates
          (λ i l. not_not (at (K c) c.lower_degree c.coefficients i times.coordinates) (all i l))))

  pub square_law : (z : FunctionOf c) → HasPolynomialCoordinates c (of_poly c p ⊗ z) → ¬ HasPolynomialCoordinates c z
      → ((i : ℕ) → i < degree_of_y c → IsPolynomial c (trace_of c (z ⊗ pow (ring_of c).ops (y_of c) i)))
      → IsPolynomial c (trace_of c (z ⊗ z))
      → IsDivisorIn (polynomials k).ops ((K c).◌⊗◌ p p) (discriminant c)
  square_law z times not_z traces square = elim (square_or_whole z times traces square)
      [ inl d ↦ d | inr w ↦ absurd (not_z w) ]

  -- where the square of p doesn't divide the discriminant, k[x][y] has each integral function that p takes into it
  pub whole_at : ¬ IsDivisorIn (polynomials k).ops ((K c).◌⊗◌ p p) (discriminant c) → (z : FunctionOf c)
      → IsIntegralAt (setting_of c) Finite z
      → HasPolynomialCoordinates c (of_poly c p ⊗ z) → HasPolynomialCoordinates c z
  whole_at free z integral times =
      elim (square_or_whole z times (integral_traces c z integral)
      (integral_trace c Finite (z ⊗ z) (integral_times c z z integral integral)))
      [ inl d ↦ absurd (free d) | inr w ↦ w ]

  -- so it is maximal at p
  pub maximal_at : ¬ IsDivisorIn (polynomials k).ops ((K c).◌⊗◌ p p) (discriminant c)
      → MaximalAt (ring_of c).ops (of_poly c p) (IsIntegralAt (setting_of c) Finite) (HasPolynomialCoordinates c)
  maximal_at free z zero h g = subst (HasPolynomialCoordinates c) (one_mul (ring_of c) z) g
  maximal_at free z (suc n) h g =
      maximal_at free z n h
      (whole_at free (pow (ring_of c).ops (of_poly c p) n ⊗ z)
      (integral_times c (pow (ring_of c).ops (of_poly c p) n) z (power_integral n) h)
      (subst (HasPolynomialCoordinates c) ((ring_of c).mul_assoc (of_poly c p) (pow (ring_of c).ops (of_poly c p) n) z)
      g))
    where
      power_integral : (n : ℕ) → IsIntegralAt (setting_of c) Finite (pow (ring_of c).ops (of_poly c p) n)
      power_integral n =
          integral_base (ring_of c) (IsPolynomial c) (polynomials_subring c) _
          (power_in (ring_of c) (IsPolynomial c) (polynomials_subring c) (of_poly c p)
          (record { polynomial = p; value = refl }) n)
