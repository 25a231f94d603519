-- The trace of a function is the same in both presentations.
use Rattle.std.proofs.Common.{◌≡◌, ℕ, suc, ◌≤◌, ◌-◌, ◌*◌, length, sym, ◌∙◌, ap, ap₂}
use Rattle.ring_lemmas.specs.Ring.{CommRing, pow}
use Rattle.ring_lemmas.specs.Rows.{Row, entry}
use Rattle.ring_lemmas.specs.Sums.{sum_below}
use Rattle.ring_lemmas.proofs.Ring.{mul_pow, pow_mul}
use Rattle.ring_lemmas.proofs.Sums.{below_cong}
use Rattle.ring_theory.proofs.RowMaps.{eval}
use Rattle.ff_fields.specs.Field.{CodeField}
use Rattle.ff_poly.specs.Polynomials.{Polynomial, polynomials, codes_of, x_poly, x_poly_not_zero}
use Rattle.function_field.specs.declared.side.Side.TheVariants.{Finite, Infinite}
use Rattle.function_field.specs.Functions.{row_of, y_of, trace_of}
use Rattle.function_field.specs.Values.{PresValue, Functions, functions, equation_of}
use Rattle.function_field.specs.Infinity.{variable, IsInfinitePresentation}
use Rattle.places_theory.proofs.YRoot.{over_unique, eval_constant}
use Rattle.polynomial_theory.proofs.Lengths.{x_power_not_zero}
use Rattle.places_theory.proofs.AtInfinity.{at, at_hom, x_power, turned, turned_is, turned_zero}
use Rattle.places_theory.proofs.PresentationMap.{presentation_map, map_row, unit as unit_of, unit_law, η}
use Rattle.trace_theory.specs.Traces.{IsRational}
use Rattle.trace_theory.proofs.RowMatrix.{tr, y, trace_expand}
use Rattle.trace_theory.proofs.Determinants.{image_sum}
use Rattle.trace_theory.proofs.FunctionTraces.{as_row, trace_over, trace_times, y_power}
use Rattle.trace_theory.proofs.FunctionPowers.{power_some}
use Rattle.trace_theory.proofs.Reduced.{trace_sum}
use Rattle.trace_theory.proofs.IntegralFunctions.{fraction_power}
use Rattle.trace_theory.proofs.IntegralLaw.{eval_sum}
use Rattle.trace_theory.proofs.InfiniteDiscriminant.{T, infinite_trace}

module _ (k : CodeField) (p q : PresValue) (c : ℕ) (h : IsInfinitePresentation k p c q) (some : 1 ≤ p.n) where
  infixl 70 ◌⊗◌
  open functions k p use {𝟙, ◌⊗◌}

  abbrev F : CommRing (Functions k p)
  F = functions k p

  abbrev P : CommRing (Polynomial k)
  P = (polynomials k).ring

  abbrev map : Functions k q → Functions k p
  map z = presentation_map k p q c h some z

  -- values at t = 1/x are rational functions, and so are their inverses and the powers of t
  at_rational : (a : Polynomial k) → IsRational (equation_of k p) (at k p (variable k p Infinite) a)
  at_rational a =
      let L = length (codes_of k a) in
      record {
        top = turned k p a;
        bottom = pow P.ops (x_poly k) L;
        not_null = x_power_not_zero k L;
        value =
            over_unique (equation_of k p) (turned k p a) (pow P.ops (x_poly k) L) (x_power_not_zero k L)
            (at k p (variable k p Infinite) a)
            (ap (λ z. z ⊗ at k p (variable k p Infinite) a) (x_power k p L) ∙ turned_is k p a);
      }

  unit_rational : (d : Polynomial k) (n : ¬ (d ≡ (polynomials k).𝟘))
      → IsRational (equation_of k p) (unit_of k p q c h some d n)
  unit_rational d n =
      let L = length (codes_of k d) in
      let u = unit_of k p q c h some d n in
      record {
        top = pow P.ops (x_poly k) L;
        bottom = turned k p d;
        not_null = λ e. n (turned_zero k p d e);
        value =
            over_unique (equation_of k p) (pow P.ops (x_poly k) L) (turned k p d) (λ e. n (turned_zero k p d e)) u
            (ap (λ z. z ⊗ u) (sym (turned_is k p d)) ∙ F.mul_assoc _ _ _
            ∙ ap (λ z. pow F.ops (variable k p Finite) L ⊗ z) (unit_law k p q c h some d n)
            ∙ F.mul_one _ ∙ sym (x_power k p L));
      }

  t_rational : (m : ℕ) → IsRational (equation_of k p) (pow F.ops (variable k p Infinite) m)
  t_rational m = record {
    top = pow P.ops P.𝟙 m;
    bottom = pow P.ops (x_poly k) m;
    not_null = power_some (equation_of k p) (x_poly k) (x_poly_not_zero k) m;
    value = fraction_power (equation_of k p) P.𝟙 (x_poly k) (x_poly_not_zero k) m;
  }

  -- the trace of Y^i
  trace_generator : (i : ℕ) → trace_of (equation_of k p) (pow F.ops (η k p q c) i)
      ≡ at k p (variable k p Infinite) (tr P (q.n - 1) (equation_of k q).coefficients
      (y P (q.n - 1) (equation_of k q).coefficients i))
  trace_generator i =
      ap (trace_of (equation_of k p))
      (mul_pow F (y_of (equation_of k p)) (T k p q c h some) i ∙ F.mul_comm _ _
      ∙ ap (λ z. z ⊗ pow F.ops (y_of (equation_of k p)) i) (sym (pow_mul F (variable k p Infinite) c i)))
      ∙ trace_times (equation_of k p) (pow F.ops (variable k p Infinite) (c * i)) (pow F.ops (y_of (equation_of k p)) i)
      (t_rational (c * i))
      ∙ ap₂ ◌⊗◌ (pow_mul F (variable k p Infinite) c i)
      (ap (trace_of (equation_of k p)) (y_power (equation_of k p) i) ∙ trace_over (equation_of k p) _ _ _)
      ∙ F.mul_comm _ _ ∙ sym (infinite_trace k p q c h some i)

  -- the trace of the sum of v_i(1/x)·Y^i
  trace_row : (v : Row (Polynomial k) (suc (q.n - 1)))
      → trace_of (equation_of k p) (eval P F (at k p (variable k p Infinite)) (at_hom k p (variable k p Infinite))
      (η k p q c) (suc (q.n - 1)) v)
      ≡ at k p (variable k p Infinite) (tr P (q.n - 1) (equation_of k q).coefficients v)
  trace_row v =
      ap (trace_of (equation_of k p)) (eval_sum P F (at k p (variable k p Infinite))
      (at_hom k p (variable k p Infinite)) (η k p q c) (suc (q.n - 1)) v)
      ∙ trace_sum (equation_of k p) (suc (q.n - 1)) _
      ∙ below_cong F (suc (q.n - 1)) _ (λ i. at k p (variable k p Infinite)
      (P.◌⊗◌ (entry P.ops (suc (q.n - 1)) i v) (Yq i))) (λ i l.
      trace_times (equation_of k p) (at k p (variable k p Infinite) (entry P.ops (suc (q.n - 1)) i v))
      (pow F.ops (η k p q c) i) (at_rational (entry P.ops (suc (q.n - 1)) i v))
      ∙ ap (λ z. at k p (variable k p Infinite) (entry P.ops (suc (q.n - 1)) i v) ⊗ z) (trace_generator i)
      ∙ sym ((at_hom k p (variable k p Infinite)).mul _ _))
      ∙ sym (image_sum P F (at k p (variable k p Infinite)) (at_hom k p (variable k p Infinite)) (suc (q.n - 1)) _)
      ∙ ap (at k p (variable k p Infinite)) (sym (expand v))
    where
      Yq : ℕ → Polynomial k
      Yq i = tr (polynomials k).ring (q.n - 1) (equation_of k q).coefficients
          (y (polynomials k).ring (q.n - 1) (equation_of k q).coefficients i)

      expand : (v : Row (Polynomial k) (suc (q.n - 1)))
          → tr (polynomials k).ring (q.n - 1) (equation_of k q).coefficients v
          ≡ sum_below (polynomials k).ops (suc (q.n - 1))
          (λ i. (polynomials k).◌⊗◌ (entry (polynomials k).ops (suc (q.n - 1)) i v) (Yq i))
      expand v = trace_expand (polynomials k).ring (q.n - 1) (equation_of k q).coefficients v

  pub same_trace : (z : Functions k q) → trace_of (equation_of k p) (map z) ≡ map (trace_of (equation_of k q) z)
  same_trace z =
      let r = as_row (equation_of k q) z in
      let u = unit_of k p q c h some r.den r.not_zero in
      ap (λ z. trace_of (equation_of k p) (map z)) r.is
      ∙ ap (trace_of (equation_of k p)) (map_row k p q c h some
      (record { num = r.num; den = r.den; den_not_zero = r.not_zero }))
      ∙ trace_times (equation_of k p) u _ (unit_rational r.den r.not_zero)
      ∙ ap (λ z. u ⊗ z) (trace_row r.num
      ∙ sym (eval_constant P F (at k p (variable k p Infinite)) (at_hom k p (variable k p Infinite)) (η k p q c)
      (q.n - 1) (tr P (q.n - 1) (equation_of k q).coefficients r.num)))
      ∙ sym (map_row k p q c h some (record {
        num = row_of (equation_of k q) (tr P (q.n - 1) (equation_of k q).coefficients r.num);
        den = r.den;
        den_not_zero = r.not_zero;
      }))
      ∙ ap map (sym (ap (trace_of (equation_of k q)) r.is ∙ trace_over (equation_of k q) r.num r.den r.not_zero))
