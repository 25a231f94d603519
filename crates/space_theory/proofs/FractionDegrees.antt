-- The degree of a rational function, as that of a fraction and by its products with powers of x.
use Rattle.std.proofs.Common.{◌≡◌, zero, suc, ◌≤◌, ℤ, pos, negsuc, ◌+ℤ◌, ◌-ℤ◌, [], ◌∷◌, length, refl, sym, ◌∙◌, ap, ap₂, subst, arith}
use Rattle.std.proofs.Math.IntN.{neg_ℤ}
use Rattle.std.proofs.lemmas.Int.{ints}
use Rattle.ring_lemmas.specs.Ring.{pow}
use Rattle.ring_lemmas.proofs.Ring.{mul_left_comm}
use Rattle.ring_lemmas.proofs.Solver.{ring, reads, from_one}
use Rattle.ff_fields.specs.Field.{CodeField}
use Rattle.ff_fields.specs.Code.{code_ring, code_domain}
use Rattle.ff_poly.specs.Polynomials.{Polynomial, polynomials, x_poly, x_poly_not_zero}
use Rattle.function_field.specs.Functions.{Equation, FunctionOf, ring_of, of_poly, row_of, setting_of, IsFiniteAtInfinity}
use Rattle.function_field.specs.Divisors.{x_to}
use Rattle.function_field.proofs.ScalarRings.{bottoms_not_zero}
use Rattle.places_theory.proofs.YRoot.{poly_hom, over_times_den}
use Rattle.trace_theory.proofs.FunctionPowers.{power_some}
use Rattle.order_theory.proofs.LocalOrders.{power_value}
use Rattle.reduced_basis_theory.specs.Degree.{DegreeAtMost, degree}
use Rattle.reduced_basis_theory.specs.Dual.{FractionAtMost}
use Rattle.reduced_basis_theory.proofs.Degree.{degree_own, degree_product, degree_multiply}
use Rattle.trace_theory.proofs.FunctionTraces.{as_row}
use Rattle.space_theory.proofs.FunctionModule.{cancel}
use Rattle.space_theory.proofs.InfiniteBases.{x_to_t}
use Rattle.space_theory.proofs.Simultaneous.{fraction_by, scaled_finite, power_cancel, degree_of_power}
use Rattle.space_theory.proofs.RationalPart.{rational_ring, same_rational, polynomial_part}

pub minus_neg : (m : ℤ) → pos 0 -ℤ neg_ℤ m ≡ m
minus_neg (pos zero) = omega (arith, ints)
minus_neg (pos (suc j)) = omega (arith, ints)
minus_neg (negsuc j) = omega (arith, ints)

module _ {k : CodeField} (c : Equation k) where
  infixl 70 ◌⊗◌
  open ring_of c use {𝟙, ◌⊗◌}

  abbrev Rational : Type 0
  Rational = (z : FunctionOf c) × ((as_row c z).num ≡ row_of c (as_row c z).num.0)

  abbrev AtMost : Rational → ℤ → Type 0
  AtMost r m = FractionAtMost (code_ring k) (rational_ring c).ops (polynomial_part c) r m

  pub finite_of_fraction : (r : Rational) (m : ℤ) → AtMost r m
      → IsFiniteAtInfinity c (x_to (setting_of c) (neg_ℤ m) ⊗ r.0)
  finite_of_fraction r m h =
      let e = h.fraction.denominator in
      let p = h.fraction.numerator in
      let w : degree (code_ring k) e +ℤ m
      ≡ degree (code_ring k) e +ℤ (pos 0 -ℤ neg_ℤ m) = ap (λ i. degree (code_ring k) e +ℤ i) (sym (minus_neg m)) in
      subst (IsFiniteAtInfinity c)
      ((ring_of c).mul_comm _ _
      ∙ ap (λ z. x_to (setting_of c) (neg_ℤ m) ⊗ z)
      (sym (fraction_by c p e h.fraction.nonzero r.0 (ap (λ a. a.0) h.fraction.is))))
      (scaled_finite c p e h.fraction.nonzero (neg_ℤ m) (subst (DegreeAtMost (code_ring k) p) w h.bound))

  short_at : (f : Polynomial k) (a : Polynomial k) → length a.0 ≤ length f.0
      → DegreeAtMost (code_ring k) a (degree (code_ring k) f)
  short_at f a l = let o = degree_own (code_ring k) (code_domain k) f in omega (arith, l, o)

  fraction_of_finite : (s : Rational) → IsFiniteAtInfinity c s.0 → AtMost s (pos 0)
  fraction_of_finite s h =
      let w : degree (code_ring k) h.bottom ≡ degree (code_ring k) h.bottom +ℤ pos 0 = omega (arith, ints) in
      record {
        fraction = record {
          denominator = h.bottom;
          nonzero = h.not_null;
          numerator = h.top;
          is = same_rational c _ _ (ap (λ z. of_poly c h.bottom ⊗ z) h.value
              ∙ over_times_den c h.top h.bottom h.not_null);
        };
        bound = subst (DegreeAtMost (code_ring k) h.top) w (short_at h.bottom h.top h.degrees);
      }

  -- where s is r over x^l
  pub raised : (r s : Rational) (m l : ℤ) → s.0 ≡ x_to (setting_of c) (neg_ℤ l) ⊗ r.0 → AtMost s m → AtMost r (m +ℤ l)
  raised r s m (pos j) is h =
      let e = h.fraction.denominator in
      let p = h.fraction.numerator in
      let u = pow (polynomials k).ops (x_poly k) j in
      let d = degree_of_power c j in
      let w : degree (code_ring k) u +ℤ (degree (code_ring k) e +ℤ m)
      ≡ degree (code_ring k) e +ℤ (m +ℤ pos j) = omega (arith, ints) in
      record {
        fraction = record {
          denominator = e;
          nonzero = h.fraction.nonzero;
          numerator = (polynomials k).◌⊗◌ u p;
          is =
              same_rational c _ _
              (ap (λ z. of_poly c e ⊗ z)
              (sym (cancel c (x_to (setting_of c) (pos j)) _ r.0 (power_cancel c (pos j)))
              ∙ ap (λ z. x_to (setting_of c) (pos j) ⊗ z) (sym is))
              ∙ mul_left_comm (ring_of c) (of_poly c e) _ s.0
              ∙ ap₂ ◌⊗◌ (sym (power_value c (x_poly k) j)) (ap (λ a. a.0) h.fraction.is) ∙ sym ((poly_hom c).mul u p));
        };
        bound =
            subst (DegreeAtMost (code_ring k) ((polynomials k).◌⊗◌ u p)) w
            (degree_product (code_ring k) (code_domain k) u p _ _ (degree_own (code_ring k) (code_domain k) u) h.bound);
      }
  raised r s m (negsuc j) is h =
      let e = h.fraction.denominator in
      let p = h.fraction.numerator in
      let u = pow (polynomials k).ops (x_poly k) (suc j) in
      let u_some = power_some c (x_poly k) (x_poly_not_zero k) (suc j) in
      let d = degree_of_power c (suc j) in
      let f = degree_multiply (code_ring k) (code_domain k) e u h.fraction.nonzero u_some in
      let w : degree (code_ring k) e +ℤ m
      ≡ degree (code_ring k) ((polynomials k).◌⊗◌ e u) +ℤ (m +ℤ negsuc j) = omega (arith, ints) in
      record {
        fraction = record {
          denominator = (polynomials k).◌⊗◌ e u;
          nonzero = bottoms_not_zero c e u h.fraction.nonzero u_some;
          numerator = p;
          is =
              same_rational c _ _
              (ap₂ ◌⊗◌ ((poly_hom c).mul e u ∙ ap (λ a. of_poly c e ⊗ a) (power_value c (x_poly k) (suc j)))
              (sym (cancel c (x_to (setting_of c) (negsuc j)) _ r.0 (power_cancel c (negsuc j)))
              ∙ ap (λ z. x_to (setting_of c) (negsuc j) ⊗ z) (sym is))
              ∙ swap (of_poly c e) _ _ s.0 (x_to_t c (suc j)) ∙ ap (λ a. a.0) h.fraction.is);
        };
        bound = subst (DegreeAtMost (code_ring k) p) w h.bound;
      }
    where
      swap : (a u v s : FunctionOf c) → u ⊗ v ≡ 𝟙 → a ⊗ u ⊗ (v ⊗ s) ≡ a ⊗ s
      swap a u v s f =
          from_one (ring_of c) (a ⊗ s) f
          (ring (ring_of c) (a ∷ u ∷ v ∷ s ∷ []) λ q i. simp (reads, q, i 0, i 1, i 2, i 3) (q.equal _ _ refl))

  pub fraction_of : (r s : Rational) (m : ℤ) → s.0 ≡ x_to (setting_of c) (neg_ℤ m) ⊗ r.0 → IsFiniteAtInfinity c s.0
      → AtMost r m
  fraction_of r s m is h =
      let w : pos 0 +ℤ m ≡ m = omega (arith, ints) in
      subst (AtMost r) w (raised r s (pos 0) m is (fraction_of_finite s h))
