-- Powers of functions, and exponents m, as large as wanted, for which the m-th power keeps sums and traces.
use Rattle.std.proofs.Common.{◌≡◌, ℕ, zero, suc, ◌≤◌, ◌*◌, ◌+◌, refl, sym, ◌∙◌, ap, ap₂, arith, mul-suc}
use Rattle.ring_lemmas.specs.Ring.{CommRing, pow}
use Rattle.ring_lemmas.specs.Rows.{Row, row_zero, row_scale}
use Rattle.ring_lemmas.proofs.Ring.{pow_one, pow_mul, product_not_zero}
use Rattle.ring_lemmas.proofs.Rows.{row_scale_one, row_scale_zero}
use Rattle.ring_theory.specs.Maps.{IsHom}
use Rattle.ring_lemmas.specs.Polynomials.{constant}
use Rattle.ring_theory.proofs.Evaluate.{constant_hom, hom_after}
use Rattle.ff_fields.specs.Field.{CodeField}
use Rattle.ff_fields.specs.Code.{code_ring}
use Rattle.ff_poly.specs.Polynomials.{Polynomial, polynomials_domain, polynomial_discrete}
use Rattle.function_field.specs.Functions.{Equation, FunctionOf, ring_of, row_of, of_poly, over, trace_of}
use Rattle.places_theory.proofs.YRoot.{poly_hom}
use Rattle.trace_theory.specs.Traces.{IsRational}
use Rattle.trace_theory.proofs.RowMatrix.{y_zero}
use Rattle.trace_theory.proofs.Determinants.{image_power}
use Rattle.trace_theory.proofs.FunctionTraces.{K, R, Tr, one_some, over_product, over_same, over_eq, as_row, y_power, trace_over}
use Rattle.trace_theory.proofs.Powers.{q, size_less, size_some, power_add, row_hom}
use Rattle.trace_theory.proofs.TracePowers.{row_trace_power}
use Rattle.trace_theory.proofs.Degenerate.{zero_over}

module _ {k : CodeField} (c : Equation k) where
  infixl 65 ◌⊕◌
  infixl 70 ◌⊗◌
  open ring_of c use {𝟘, 𝟙, ◌⊕◌, ◌⊗◌}

  abbrev F : CommRing (FunctionOf c)
  F = ring_of c

  pub power_some : (d : Polynomial k) → ¬ (d ≡ (K c).𝟘) → (m : ℕ) → ¬ (pow (K c).ops d m ≡ (K c).𝟘)
  power_some d n zero = one_some c
  power_some d n (suc m) = product_not_zero (polynomials_domain k) d (pow (K c).ops d m) n (power_some d n m)

  pub power_over : (v : Row (Polynomial k) (suc c.lower_degree)) (d : Polynomial k) (n : ¬ (d ≡ (K c).𝟘)) (m : ℕ)
      → pow F.ops (over c v d n) m ≡ over c (pow (R c).ops v m) (pow (K c).ops d m) (power_some d n m)
  power_over v d n zero =
      y_power c 0 ∙ ap (λ v. over c v (K c).𝟙 (one_some c)) (y_zero (K c) c.lower_degree c.coefficients)
      ∙ over_eq c _ _ _ _ _ _ refl
  power_over v d n (suc m) =
      ap (λ z. over c v d n ⊗ z) (power_over v d n m)
      ∙ over_product c v (pow (R c).ops v m) d (pow (K c).ops d m) n (power_some d n m)
      ∙ over_eq c _ _ _ _ _ _ refl

  code_hom : IsHom (code_ring k).ring F (λ a. of_poly c (constant (code_ring k) a))
  code_hom = hom_after (code_ring k).ring (K c) F (constant (code_ring k)) (of_poly c) (constant_hom (code_ring k))
      (poly_hom c)

  q_add : (z w : FunctionOf c) → pow F.ops (z ⊕ w) (q k) ≡ pow F.ops z (q k) ⊕ pow F.ops w (q k)
  q_add z w = power_add k F (λ a. of_poly c (constant (code_ring k) a)) code_hom z w

  q_trace : (z : FunctionOf c) → trace_of c (pow F.ops z (q k)) ≡ pow F.ops (trace_of c z) (q k)
  q_trace z =
      let r = as_row c z in
      ap (λ z. trace_of c (pow F.ops z (q k))) r.is
      ∙ ap (trace_of c) (power_over r.num r.den r.not_zero (q k))
      ∙ trace_over c _ _ _
      ∙ ap (λ v. over c v (pow (K c).ops r.den (q k)) (power_some r.den r.not_zero (q k)))
      (ap (row_of c) (row_trace_power c r.num) ∙ image_power (K c) (R c) (row_of c) (row_hom c) (q k) (Tr c r.num))
      ∙ sym (power_over (row_of c (Tr c r.num)) r.den r.not_zero (q k))
      ∙ ap (λ t. pow F.ops t (q k)) (sym (ap (trace_of c) r.is ∙ trace_over c r.num r.den r.not_zero))

  -- an exponent of at least n
  pub record Exponent (n : ℕ) : Type 0 where
    pub exponent : ℕ
    pub positive : 1 ≤ exponent
    pub large : n ≤ exponent
    pub add : (z w : FunctionOf c) → pow F.ops (z ⊕ w) exponent ≡ pow F.ops z exponent ⊕ pow F.ops w exponent
    pub trace : (z : FunctionOf c) → trace_of c (pow F.ops z exponent) ≡ pow F.ops (trace_of c z) exponent

  larger : (m s : ℕ) → 1 ≤ s → m + m ≤ m * suc s
  larger m zero l = absurd (omega arith)
  larger m (suc s) l = rw (mul-suc m (suc s), mul-suc m s) (omega arith)

  pub exponent_of : (n : ℕ) → Exponent n
  exponent_of zero = record {
    exponent = 1;
    positive = omega arith;
    large = omega arith;
    add = λ z w. pow_one F (z ⊕ w) ∙ sym (ap₂ ◌⊕◌ (pow_one F z) (pow_one F w));
    trace = λ z. ap (trace_of c) (pow_one F z) ∙ sym (pow_one F (trace_of c z));
  }
  exponent_of (suc n) =
      let e = exponent_of n in
      let a = e.positive in
      let b = e.large in
      let g = larger e.exponent (size_less k) (size_some k) in
      record {
        exponent = e.exponent * q k;
        positive = omega arith;
        large = omega arith;
        add = λ z w.
            pow_mul F (z ⊕ w) e.exponent (q k) ∙ ap (λ u. pow F.ops u (q k)) (e.add z w)
            ∙ q_add _ _ ∙ sym (ap₂ ◌⊕◌ (pow_mul F z e.exponent (q k)) (pow_mul F w e.exponent (q k)));
        trace = λ z.
            ap (trace_of c) (pow_mul F z e.exponent (q k)) ∙ q_trace _ ∙ ap (λ u. pow F.ops u (q k)) (e.trace z)
            ∙ sym (pow_mul F (trace_of c z) e.exponent (q k));
      }

  -- a rational function with a power 0 is 0
  pub rational_reduced : (t : FunctionOf c) → IsRational c t → (m : ℕ) → pow F.ops t m ≡ 𝟘 → t ≡ 𝟘
  unfolding row_zero
  rational_reduced t h m e =
      let a = h.top in
      let null : pow (K c).ops a m ≡ (K c).𝟘
      = first (pow (K c).ops a m)
      (over_same c (row_of c (pow (K c).ops a m)) (row_zero (K c).ops (suc c.lower_degree)) (pow (K c).ops h.bottom m)
      (K c).𝟙 (power_some h.bottom h.not_null m) (one_some c)
      (ap (λ v. over c v (pow (K c).ops h.bottom m) (power_some h.bottom h.not_null m))
      (image_power (K c) (R c) (row_of c) (row_hom c) m a)
      ∙ sym (power_over (row_of c a) h.bottom h.not_null m) ∙ ap (λ t. pow F.ops t m) (sym h.value) ∙ e
      ∙ zero_over c (K c).𝟙 (one_some c))) in
      h.value ∙ ap (λ a. over c (row_of c a) h.bottom h.not_null) (root (polynomial_discrete k a (K c).𝟘) null)
      ∙ sym (zero_over c h.bottom h.not_null)
    where
      root : {a : Polynomial k} → Dec (a ≡ (K c).𝟘) → pow (K c).ops a m ≡ (K c).𝟘 → a ≡ (K c).𝟘
      root (yes f) g = f
      root {a} (no n) g = absurd (power_some a n m g)

      first : (b : Polynomial k) → row_scale (K c).ops (suc c.lower_degree) (K c).𝟙 (row_of c b)
          ≡ row_scale (K c).ops (suc c.lower_degree) (pow (K c).ops h.bottom m)
          (row_zero (K c).ops (suc c.lower_degree)) → b ≡ (K c).𝟘
      first b g = ap (λ r. r.0) (sym (row_scale_one (K c) (suc c.lower_degree) (row_of c b)) ∙ g
          ∙ row_scale_zero (K c) (suc c.lower_degree) (pow (K c).ops h.bottom m))
