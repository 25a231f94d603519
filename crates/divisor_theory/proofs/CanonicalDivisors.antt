-- Where F is a field, there is a canonical divisor.
use Rattle.std.proofs.Common.{◌≡◌, sym, ap, subst}
use Rattle.ring_lemmas.specs.Ring.{IsField}
use Rattle.ring_theory.specs.Subsets.{IsModule}
use Rattle.ring_lemmas.proofs.Ring.{one_mul}
use Rattle.prime_theory.specs.Ideals.{Invertible}
use Rattle.ff_fields.specs.Field.{CodeField}
use Rattle.ff_poly.specs.Polynomials.{polynomials}
use Rattle.function_field.specs.declared.side.Side.{Side}
use Rattle.function_field.specs.declared.side.Side.TheVariants.{Finite, Infinite}
use Rattle.function_field.specs.Discriminant.{discriminant}
use Rattle.function_field.specs.Places.{IsIntegralAt}
use Rattle.function_field.specs.Divisors.{Divisor, IsCanonical}
use Rattle.function_field.specs.Functions.{Equation, FunctionOf, ring_of, trace_of, setting_of, IsPolynomial}
use Rattle.space_theory.specs.TraceDuals.{TraceDual, CanonicalDual}
use Rattle.divisor_theory.proofs.LeastValues.{module_divisor}
use Rattle.divisor_theory.proofs.TraceModules.{finite_dual_module, finite_dual_invertible, canonical_module, canonical_invertible}

module _ {k : CodeField} (c : Equation k) (some : ¬ (discriminant c ≡ (polynomials k).𝟘))
    (field : IsField (ring_of c).ops) where
  infixl 70 ◌⊗◌
  open ring_of c use {𝟙, ◌⊗◌}

  -- the duals of the integral functions of the sides
  abbrev Dual : Side → FunctionOf c → Type 0
  Dual Finite = TraceDual c (IsIntegralAt (setting_of c) Finite)
  Dual Infinite = CanonicalDual c (IsIntegralAt (setting_of c) Infinite)

  modules : (s : Side) → IsModule (ring_of c).ops (IsIntegralAt (setting_of c) s) (Dual s)
  modules Finite = finite_dual_module c some
  modules Infinite = canonical_module c

  invertible : (s : Side) → Invertible (ring_of c).ops (IsIntegralAt (setting_of c) s) (Dual s)
  invertible Finite = finite_dual_invertible c some
  invertible Infinite = canonical_invertible c some

  pub canonical_exists : (W : Divisor (FunctionOf c)) × IsCanonical (setting_of c) W
  canonical_exists =
      let r = module_divisor c some field Dual modules invertible in (
        r.0,
        record {
          divisor = r.1;
          finite = λ z. (
            λ m u u_in. subst (IsPolynomial c) (ap (λ w. trace_of c (w ⊗ u)) (sym (one_mul (ring_of c) z)))
                ((r.2 Finite z).1 m u u_in),
            λ h. (r.2 Finite z).0 (λ u u_in. subst (IsPolynomial c)
                (ap (λ w. trace_of c (w ⊗ u)) (one_mul (ring_of c) z)) (h u u_in)),
          );
          infinite = λ z. ((r.2 Infinite z).1, (r.2 Infinite z).0);
        },
      )
