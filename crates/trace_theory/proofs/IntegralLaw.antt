-- A rational function t with a multiple d·t^m in the polynomials, or in the fractions of degree at most 0, for one d
-- and for exponents m as large as wanted, is such a function itself; so traces of integral functions are.
use Rattle.std.proofs.Common.{◌≡◌, ℕ, zero, suc, ◌<◌, ◌≤◌, ◌⊎◌, inl, inr, [], ◌∷◌, length, refl, sym, ◌∙◌, ap, ap₂, subst, arith}
use Rattle.ring_lemmas.specs.Ring.{CommRing, pow}
use Rattle.ring_lemmas.specs.Rows.{Row, row_zero, entry}
use Rattle.ring_lemmas.specs.Sums.{sum_below}
use Rattle.ring_theory.specs.Subsets.{IsSubring}
use Rattle.ring_theory.specs.Integral.{IsIntegral}
use Rattle.ring_lemmas.proofs.Ring.{one_mul, zero_mul, mul_zero, mul_left_comm, product_not_zero}
use Rattle.ring_lemmas.proofs.Sums.{below_scale, below_cong, below_first}
use Rattle.ring_theory.specs.Maps.{IsHom}
use Rattle.ring_theory.proofs.RowMaps.{eval, eval_none, eval_cons}
use Rattle.ring_theory.proofs.Local.{power_in}
use Rattle.ring_lemmas.proofs.Solver.{ring, reads, from_one}
use Rattle.ring_theory.proofs.Polynomials.{length_product}
use Rattle.prime_theory.proofs.IntegralRing.{integral_ring}
use Rattle.ff_fields.specs.Field.{CodeField}
use Rattle.ff_fields.specs.Code.{code_ring, code_domain}
use Rattle.ff_poly.specs.Polynomials.{Polynomial, polynomials, polynomials_domain, polynomial_discrete}
use Rattle.function_field.specs.declared.side.Side.{Side}
use Rattle.function_field.specs.declared.side.Side.TheVariants.{Finite, Infinite}
use Rattle.function_field.specs.Places.{IsIntegralAt}
use Rattle.function_field.specs.Functions.{Equation, FunctionOf, ring_of, row_of, of_poly, over, y_of, trace_of, degree_of_y, IsPolynomial, IsFiniteAtInfinity, IsScalar, setting_of}
use Rattle.function_field.specs.Discriminant.{discriminant}
use Rattle.function_field.proofs.OnSide.{of_poly_zero}
use Rattle.function_field.proofs.ScalarRings.{over_plus, over_times, bottoms_not_zero, scalars_subring, polynomials_subring}
use Rattle.places_theory.proofs.YRoot.{poly_hom, y_root}
use Rattle.trace_theory.specs.Traces.{IsRational, HasPolynomialCoordinates}
use Rattle.trace_theory.proofs.FunctionTraces.{K, one_some, trace_plus, trace_times, trace_rational, polynomial_value}
use Rattle.polynomial_theory.proofs.Lengths.{some_long, zero_length}
use Rattle.trace_theory.proofs.FunctionPowers.{power_some, Exponent, exponent_of}
use Rattle.trace_theory.proofs.Degenerate.{zero_over}
use Rattle.trace_theory.proofs.TraceForm.{trace_form}
use Rattle.trace_theory.proofs.Reduced.{one_not_zero}
use Rattle.polynomial_theory.proofs.Division.{divide}
use Rattle.trace_theory.proofs.IntegralTraces.{PowersCleared, powers_cleared}
use Rattle.trace_theory.proofs.IntegralFunctions.{power_gap, fraction_eq, fraction_same, fraction_power, scalar_rational, rational_cleared}
use Rattle.std.proofs.lemmas.Bool.{cases_lt}

module _ {P E : Type 0} (S : CommRing P) (F : CommRing E) (φ : P → E) (hom : IsHom S F φ) (η : E) where
  -- a row at η as a sum
  pub eval_sum : (m : ℕ) (v : Row P m) → eval S F φ hom η m v
      ≡ sum_below F.ops m (λ i. F.◌⊗◌ (φ (entry S.ops m i v)) (pow F.ops η i))
  unfolding entry
  eval_sum zero v = eval_none S F φ hom η v
  eval_sum (suc m) (a, v) =
      eval_cons S F φ hom η m a v
      ∙ ap₂ F.◌⊕◌ (sym (F.mul_one (φ a)))
      (ap (F.◌⊗◌ η) (eval_sum m v) ∙ sym (below_scale F m η _)
      ∙ below_cong F m _ _ (λ i l. mul_left_comm F η (φ (entry S.ops m i v)) (pow F.ops η i)))
      ∙ sym (below_first F m (λ i. F.◌⊗◌ (φ (entry S.ops (suc m) i (a, v))) (pow F.ops η i)))

-- the equation e² - e of an idempotent
square_minus : {A : Type 0} (R : CommRing A) → ℕ → A
square_minus R zero = R.𝟘
square_minus R (suc i) = R.⊖◌ R.𝟙

idempotent_flat : {A : Type 0} (R : CommRing A) (e : A) → R.◌⊗◌ e e ≡ e
    → R.◌⊕◌ (R.◌⊗◌ e (R.◌⊗◌ e R.𝟙)) (R.◌⊕◌ (R.◌⊕◌ R.𝟘 (R.◌⊗◌ R.𝟘 R.𝟙)) (R.◌⊗◌ (R.⊖◌ R.𝟙) (R.◌⊗◌ e R.𝟙))) ≡ R.𝟘
idempotent_flat R e h = from_one R R.𝟙 h (ring R (e ∷ []) λ q x. simp (reads, q, x 0) (q.equal _ _ refl))

idempotent_integral : {A : Type 0} (R : CommRing A) (S : A → Type 0) → IsSubring R.ops S → (e : A) → R.◌⊗◌ e e ≡ e
    → IsIntegral R.ops S e
unfolding square_minus
idempotent_integral R S 𝓢 e h = record {
  degree = 2;
  positive = omega arith;
  coefficient = square_minus R;
  coefficient_in = elim [ zero ↦ 𝓢.zero_in | suc i ↦ 𝓢.neg_in R.𝟙 𝓢.one_in ];
  root = idempotent_flat R e h;
}

module _ {k : CodeField} (c : Equation k) where
  infixl 65 ◌⊕◌
  infixl 70 ◌⊗◌
  infixr 80 ⊖◌
  open ring_of c use {𝟘, 𝟙, ◌⊕◌, ◌⊗◌, ⊖◌}

  abbrev F : CommRing (FunctionOf c)
  F = ring_of c

  invertible_some : (d i : FunctionOf c) → d ⊗ i ≡ 𝟙 → ¬ (d ≡ 𝟘)
  invertible_some d i e z = one_not_zero c (sym e ∙ ap (λ x. x ⊗ i) z ∙ zero_mul F i)

  -- a is b times the quotient and the rest: a/b is the quotient plus the rest over b
  split_fraction : (a b g r : Polynomial k) (n : ¬ (b ≡ (K c).𝟘)) → a ≡ (K c).◌⊕◌ ((K c).◌⊗◌ b g) r
      → over c (row_of c a) b n ≡ of_poly c g ⊕ over c (row_of c r) b n
  split_fraction a b g r n e =
      fraction_eq c a ((K c).◌⊕◌ ((K c).◌⊗◌ b g) ((K c).◌⊗◌ (K c).𝟙 r)) b ((K c).◌⊗◌ (K c).𝟙 b) n
      (bottoms_not_zero c (K c).𝟙 b (one_some c) n)
      (ap₂ (K c).◌⊗◌ (one_mul (K c) b) (e ∙ ap ((K c).◌⊕◌ ((K c).◌⊗◌ b g)) (sym (one_mul (K c) r))))
      ∙ sym (over_plus c g r (K c).𝟙 b (one_some c) n)

  -- where d·(r/b)^m is a polynomial, m at least the length of d, and r is shorter than b, r is 0
  short_rest : (d r b w : Polynomial k) (n : ¬ (b ≡ (K c).𝟘)) (m : ℕ) → ¬ (d ≡ (K c).𝟘) → length r.0 < length b.0
      → length d.0 ≤ m
      → of_poly c d ⊗ pow F.ops (over c (row_of c r) b n) m ≡ of_poly c w → Dec (r ≡ (K c).𝟘) → r ≡ (K c).𝟘
  short_rest d r b w n m d_some short large e (yes z) = z
  short_rest d r b w n m d_some short large e (no r_some) =
      let gap = power_gap k b r n r_some short m in
      let B = pow (K c).ops b m in
      let Q = pow (K c).ops r m in
      let f : (K c).◌⊗◌ d Q ≡ (K c).◌⊗◌ B w
      = polynomial_value c ((K c).◌⊗◌ d Q) w ((K c).◌⊗◌ (K c).𝟙 B)
      (bottoms_not_zero c (K c).𝟙 B (one_some c) (power_some c b n m))
      (sym (over_times c d Q (K c).𝟙 B (one_some c) (power_some c b n m))
      ∙ ap (λ u. of_poly c d ⊗ u) (sym (fraction_power c r b n m)) ∙ e)
      ∙ ap (λ u. (K c).◌⊗◌ u w) (one_mul (K c) B) in
      let w_some : ¬ (w ≡ (K c).𝟘)
      = λ z. product_not_zero (polynomials_domain k) d Q d_some gap.1 (f ∙ ap ((K c).◌⊗◌ B) z ∙ mul_zero (K c) B) in
      absurd
      (omega (
        arith,
        gap.2,
        large,
        some_long k w w_some,
        ap (λ p. length p.0) f,
        length_product (code_ring k) (code_domain k) d Q d_some gap.1,
        length_product (code_ring k) (code_domain k) B w gap.0 w_some,
      ))

  finite_end : (d i t : FunctionOf c) → d ⊗ i ≡ 𝟙 → IsPolynomial c d → IsRational c t
      → ((n : ℕ) → (e : Exponent c n) → IsPolynomial c (d ⊗ pow F.ops t e.exponent)) → IsPolynomial c t
  unfolding row_zero
  finite_end d i t inverts d_in h powers =
      let D = d_in.polynomial in
      let p = divide k h.top h.bottom h.not_null in
      let e = exponent_of c (length D.0) in
      let f = powers (length D.0) e in
      let rest = over c (row_of c p.rest) h.bottom h.not_null in
      let whole : t ≡ of_poly c p.quotient ⊕ rest = h.value
      ∙ split_fraction h.top h.bottom p.quotient p.rest h.not_null p.is in
      let D_some : ¬ (D ≡ (K c).𝟘) = λ z. invertible_some d i inverts
      (d_in.value ∙ ap (of_poly c) z ∙ sym (of_poly_zero c)) in
      let m : IsPolynomial c (d ⊗ pow F.ops rest e.exponent)
      = subst (IsPolynomial c) (remainder d (pow F.ops t e.exponent) (pow F.ops (of_poly c p.quotient) e.exponent)
      (pow F.ops rest e.exponent)
      (ap (λ t. pow F.ops t e.exponent) whole ∙ e.add _ _))
      ((polynomials_subring c).sum_in _ _ f
      ((polynomials_subring c).neg_in _ ((polynomials_subring c).product_in _ _ d_in
      (power_in F (IsPolynomial c) (polynomials_subring c) (of_poly c p.quotient)
      (record { polynomial = p.quotient; value = refl }) e.exponent)))) in
      let null = short_rest D p.rest h.bottom m.polynomial h.not_null e.exponent D_some p.shorter e.large
      (ap (λ d. d ⊗ pow F.ops rest e.exponent) (sym d_in.value) ∙ m.value) (polynomial_discrete k p.rest (K c).𝟘) in
      record {
        polynomial = p.quotient;
        value =
            whole
            ∙ ap (λ x. of_poly c p.quotient ⊕ x)
            (ap (λ r. over c (row_of c r) h.bottom h.not_null) null ∙ sym (zero_over c h.bottom h.not_null))
            ∙ F.add_zero _;
      }
    where
      remainder : (d T G Q : FunctionOf c) → T ≡ (ring_of c).◌⊕◌ G Q
          → (ring_of c).◌⊕◌ ((ring_of c).◌⊗◌ d T) ((ring_of c).⊖◌ ((ring_of c).◌⊗◌ d G)) ≡ (ring_of c).◌⊗◌ d Q
      remainder d T G Q e = from_one (ring_of c) d e
          (ring (ring_of c) (d ∷ T ∷ G ∷ Q ∷ []) λ q h. simp (reads, q, h 0, h 1, h 2, h 3) (q.equal _ _ refl))

  -- where d·(a/b)^m is a fraction of degree at most 0, m at least the length of d's denominator, a is not longer than b
  short_top : (d1 d2 a b u v : Polynomial k) (n2 : ¬ (d2 ≡ (K c).𝟘)) (n : ¬ (b ≡ (K c).𝟘)) (nv : ¬ (v ≡ (K c).𝟘))
      (m : ℕ) → ¬ (d1 ≡ (K c).𝟘)
      → length d2.0 ≤ m → length u.0 ≤ length v.0
      → over c (row_of c d1) d2 n2 ⊗ pow F.ops (over c (row_of c a) b n) m ≡ over c (row_of c u) v nv
      → length b.0 < length a.0 → ⊥
  short_top d1 d2 a b u v n2 n nv m some large short e longer =
      let a_some : ¬ (a ≡ (K c).𝟘) = λ z. let q : length a.0 ≡ 0 = ap (λ p. length p.0) z
      ∙ zero_length k in absurd (omega arith) in
      let gap = power_gap k a b a_some n longer m in
      let A = pow (K c).ops a m in
      let B = pow (K c).ops b m in
      let f : (K c).◌⊗◌ v ((K c).◌⊗◌ d1 A) ≡ (K c).◌⊗◌ ((K c).◌⊗◌ d2 B) u
      = fraction_same c ((K c).◌⊗◌ d1 A) u ((K c).◌⊗◌ d2 B) v (bottoms_not_zero c d2 B n2 (power_some c b n m)) nv
      (sym (over_times c d1 A d2 B n2 (power_some c b n m))
      ∙ ap (λ w. over c (row_of c d1) d2 n2 ⊗ w) (sym (fraction_power c a b n m)) ∙ e) in
      let left = product_not_zero (polynomials_domain k) d1 A some gap.0 in
      let right = product_not_zero (polynomials_domain k) d2 B n2 gap.1 in
      let u_some : ¬ (u ≡ (K c).𝟘)
      = λ z. product_not_zero (polynomials_domain k) v ((K c).◌⊗◌ d1 A) nv left
      (f ∙ ap ((K c).◌⊗◌ ((K c).◌⊗◌ d2 B)) z ∙ mul_zero (K c) _) in
      absurd
      (omega (
        arith,
        gap.2,
        large,
        short,
        some_long k d1 some,
        ap (λ p. length p.0) f,
        length_product (code_ring k) (code_domain k) v ((K c).◌⊗◌ d1 A) nv left,
        length_product (code_ring k) (code_domain k) d1 A some gap.0,
        length_product (code_ring k) (code_domain k) ((K c).◌⊗◌ d2 B) u right u_some,
        length_product (code_ring k) (code_domain k) d2 B n2 gap.1,
      ))

  infinite_end : (d i t : FunctionOf c) → d ⊗ i ≡ 𝟙 → IsFiniteAtInfinity c d → IsRational c t
      → ((n : ℕ) → (e : Exponent c n) → IsFiniteAtInfinity c (d ⊗ pow F.ops t e.exponent)) → IsFiniteAtInfinity c t
  unfolding row_zero
  infinite_end d i t inverts d_in h powers = record {
    top = h.top;
    bottom = h.bottom;
    not_null = h.not_null;
    degrees = go (cases_lt (length h.bottom.0) (length h.top.0));
    value = h.value;
  }
    where
      go : (length h.bottom.0 < length h.top.0) ⊎ (length h.top.0 ≤ length h.bottom.0)
          → length h.top.0 ≤ length h.bottom.0
      go (inr l) = l
      go (inl l) =
          let e = exponent_of c (length d_in.bottom.0) in
          let f = powers (length d_in.bottom.0) e in
          absurd
          (short_top d_in.top d_in.bottom h.top h.bottom f.top f.bottom d_in.not_null h.not_null f.not_null e.exponent
          (λ z. invertible_some d i inverts
          (d_in.value ∙ ap (λ a. over c (row_of c a) d_in.bottom d_in.not_null) z
          ∙ sym (zero_over c d_in.bottom d_in.not_null)))
          e.large f.degrees
          (ap₂ (λ d t. (ring_of c).◌⊗◌ d (pow (ring_of c).ops t e.exponent)) (sym d_in.value) (sym h.value) ∙ f.value)
          l)

  pub integral_trace : (s : Side) (z : FunctionOf c) → IsIntegralAt (setting_of c) s z → IsScalar c s (trace_of c z)
  integral_trace s z h = go s (powers_cleared F (IsScalar c s) (scalars_subring c s) (trace_of c) (trace_plus c)
      (λ a z h. trace_times c a z (scalar_rational c s a h)) z h
      (λ i. rational_cleared c s (trace_of c (pow F.ops z i)) (trace_rational c (pow F.ops z i))))
    where
      go : (s : Side)
          → PowersCleared (ring_of c) (IsScalar c s) (scalars_subring c s) (trace_of c) (trace_plus c)
          (λ a z h. trace_times c a z (scalar_rational c s a h)) z
          → IsScalar c s (trace_of c z)
      go Finite p =
          finite_end p.factor p.inverse (trace_of c z) p.inverts p.factor_in (trace_rational c z)
          (λ n e. subst (λ t. IsPolynomial c ((ring_of c).◌⊗◌ p.factor t)) (e.trace z) (p.products_in e.exponent))
      go Infinite p =
          infinite_end p.factor p.inverse (trace_of c z) p.inverts p.factor_in (trace_rational c z)
          (λ n e. subst (λ t. IsFiniteAtInfinity c ((ring_of c).◌⊗◌ p.factor t)) (e.trace z) (p.products_in e.exponent))

  -- y is integral over the polynomials
  y_integral : IsIntegralAt (setting_of c) Finite (y_of c)
  y_integral = record {
    degree = suc c.lower_degree;
    positive = omega arith;
    coefficient = λ i. of_poly c (entry (polynomials k).ops (suc c.lower_degree) i c.coefficients);
    coefficient_in = λ i. record {
      polynomial = entry (polynomials k).ops (suc c.lower_degree) i c.coefficients;
      value =
          refl;
    };
    root =
        ap (λ s. pow F.ops (y_of c) (suc c.lower_degree) ⊕ s)
        (sym (eval_sum (K c) F (of_poly c) (poly_hom c) (y_of c) (suc c.lower_degree) c.coefficients)) ∙ y_root c;
  }

  pub integral_times : (z w : FunctionOf c) → IsIntegralAt (setting_of c) Finite z
      → IsIntegralAt (setting_of c) Finite w
      → IsIntegralAt (setting_of c) Finite (z ⊗ w)
  integral_times z w h g = (integral_ring F (IsPolynomial c) (polynomials_subring c)).product_in z w h g

  -- the traces of the products of an integral function with the powers of y
  pub integral_traces : (z : FunctionOf c) → IsIntegralAt (setting_of c) Finite z
      → (i : ℕ) → i < degree_of_y c → IsPolynomial c (trace_of c (z ⊗ pow F.ops (y_of c) i))
  integral_traces z h i l =
      integral_trace Finite (z ⊗ pow F.ops (y_of c) i)
      (integral_times _ _ h
      (power_in F (IsIntegral F.ops (IsPolynomial c)) (integral_ring F (IsPolynomial c) (polynomials_subring c))
      (y_of c) y_integral i))

  -- the discriminant takes a function that is integral over the polynomials to polynomial coordinates
  pub discriminant_clears : (z : FunctionOf c) → IsIntegralAt (setting_of c) Finite z
      → HasPolynomialCoordinates c (of_poly c (discriminant c) ⊗ z)
  discriminant_clears z h = trace_form c z (integral_traces z h)

  pub idempotent_at : (s : Side) (e : FunctionOf c) → e ⊗ e ≡ e → IsIntegralAt (setting_of c) s e
  idempotent_at s e h = idempotent_integral F (IsScalar c s) (scalars_subring c s) e h
