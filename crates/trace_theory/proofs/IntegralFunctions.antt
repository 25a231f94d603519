-- The traces of integral functions of both sides.
use Rattle.std.proofs.Common.{◌≡◌, ℕ, zero, suc, ◌<◌, ◌≤◌, ◌+◌, length, refl, sym, ◌∙◌, ap, subst, arith, le_refl}
use Rattle.ring_lemmas.specs.Ring.{CommRing, pow}
use Rattle.ring_lemmas.specs.Rows.{row_scale}
use Rattle.ring_lemmas.proofs.Ring.{one_mul, product_not_zero}
use Rattle.ring_lemmas.proofs.Rows.{pair_path, row_scale_zero}
use Rattle.ring_theory.proofs.Polynomials.{length_product}
use Rattle.ff_fields.specs.Field.{CodeField}
use Rattle.ff_fields.specs.Code.{code_ring, code_domain}
use Rattle.ff_poly.specs.Polynomials.{Polynomial, polynomials, polynomials_domain, x_poly}
use Rattle.function_field.specs.declared.side.Side.{Side}
use Rattle.function_field.specs.declared.side.Side.TheVariants.{Finite, Infinite}
use Rattle.function_field.specs.Functions.{Equation, FunctionOf, ring_of, row_of, of_poly, over, trace_of, IsScalar}
use Rattle.function_field.proofs.OnSide.{den_inverse}
use Rattle.function_field.proofs.ScalarRings.{over_times, bottoms_not_zero, scalars_subring}
use Rattle.polynomial_theory.proofs.Lengths.{x_power_not_zero, some_long, x_power_long}
use Rattle.trace_theory.specs.Traces.{IsRational}
use Rattle.trace_theory.proofs.FunctionTraces.{K, R, one_some, over_same, over_eq, trace_plus, trace_times}
use Rattle.trace_theory.proofs.Determinants.{image_power}
use Rattle.trace_theory.proofs.Powers.{row_hom}
use Rattle.trace_theory.proofs.FunctionPowers.{power_some, power_over}
use Rattle.trace_theory.proofs.Reduced.{den_clears}
use Rattle.trace_theory.proofs.IntegralTraces.{Cleared}

module _ (k : CodeField) where
  -- powers of a longer polynomial are longer, by one for each factor
  pub power_gap : (a b : Polynomial k) → ¬ (a ≡ (polynomials k).𝟘) → ¬ (b ≡ (polynomials k).𝟘) → length b.0 < length a.0
      → (m : ℕ)
      → (¬ (pow (polynomials k).ops a m ≡ (polynomials k).𝟘)) × (¬ (pow (polynomials k).ops b m ≡ (polynomials k).𝟘))
      × (length (pow (polynomials k).ops b m).0 + m ≤ length (pow (polynomials k).ops a m).0)
  power_gap a b n n' l zero = ((polynomials_domain k).one_not_zero, (polynomials_domain k).one_not_zero, omega arith)
  power_gap a b n n' l (suc m) =
      let h = power_gap a b n n' l m in (
        product_not_zero (polynomials_domain k) a (pow (polynomials k).ops a m) n h.0,
        product_not_zero (polynomials_domain k) b (pow (polynomials k).ops b m) n' h.1,
        omega (
          arith,
          l,
          h.2,
          length_product (code_ring k) (code_domain k) a (pow (polynomials k).ops a m) n h.0,
          length_product (code_ring k) (code_domain k) b (pow (polynomials k).ops b m) n' h.1,
        ),
      )

module _ {k : CodeField} (c : Equation k) where
  infixl 65 ◌⊕◌
  infixl 70 ◌⊗◌
  infixr 80 ⊖◌
  open ring_of c use {𝟘, 𝟙, ◌⊕◌, ◌⊗◌, ⊖◌}

  abbrev F : CommRing (FunctionOf c)
  F = ring_of c

  -- a/d is b/e where e·a is d·b
  pub fraction_eq : (a b d e : Polynomial k) (n : ¬ (d ≡ (K c).𝟘)) (m : ¬ (e ≡ (K c).𝟘)) → (K c).◌⊗◌ e a ≡ (K c).◌⊗◌ d b
      → over c (row_of c a) d n ≡ over c (row_of c b) e m
  unfolding row_scale
  fraction_eq a b d e n m h =
      over_eq c (row_of c a) (row_of c b) d e n m
      (pair_path h (row_scale_zero (K c) c.lower_degree e ∙ sym (row_scale_zero (K c) c.lower_degree d)))

  pub fraction_same : (a b d e : Polynomial k) (n : ¬ (d ≡ (K c).𝟘)) (m : ¬ (e ≡ (K c).𝟘))
      → over c (row_of c a) d n ≡ over c (row_of c b) e m → (K c).◌⊗◌ e a ≡ (K c).◌⊗◌ d b
  unfolding row_scale
  fraction_same a b d e n m h = ap (λ r. r.0) (over_same c (row_of c a) (row_of c b) d e n m h)

  pub fraction_power : (a d : Polynomial k) (n : ¬ (d ≡ (K c).𝟘)) (m : ℕ)
      → pow F.ops (over c (row_of c a) d n) m
      ≡ over c (row_of c (pow (K c).ops a m)) (pow (K c).ops d m) (power_some c d n m)
  fraction_power a d n m =
      power_over c (row_of c a) d n m
      ∙ ap (λ v. over c v (pow (K c).ops d m) (power_some c d n m))
      (sym (image_power (K c) (R c) (row_of c) (row_hom c) m a))

  -- the scalars of a side are rational functions, and each rational function is cleared by one of them
  pub scalar_rational : (s : Side) (z : FunctionOf c) → IsScalar c s z → IsRational c z
  scalar_rational Finite z h = record { top = h.polynomial; bottom = (K c).𝟙; not_null = one_some c; value = h.value }
  scalar_rational Infinite z h = record { top = h.top; bottom = h.bottom; not_null = h.not_null; value = h.value }

  short_fraction : (a b : Polynomial k) (m : ℕ) → length a.0 ≤ m → ¬ (b ≡ (K c).𝟘)
      → length ((K c).◌⊗◌ (K c).𝟙 a).0 ≤ length ((K c).◌⊗◌ (pow (K c).ops (x_poly k) m) b).0
  short_fraction a b m l n =
      subst (λ p. length p.0 ≤ length ((K c).◌⊗◌ (pow (K c).ops (x_poly k) m) b).0) (sym (one_mul (K c) a))
      (omega (
        arith,
        l,
        x_power_long k m,
        some_long k b n,
        length_product (code_ring k) (code_domain k)
            (pow (K c).ops (x_poly k) m) b (x_power_not_zero k m) n,
      ))

  pub rational_cleared : (s : Side) (t : FunctionOf c) → IsRational c t
      → Cleared F (IsScalar c s) (scalars_subring c s) (trace_of c) (trace_plus c)
      (λ a z h. trace_times c a z (scalar_rational s a h)) t
  rational_cleared Finite t h = record {
    factor = of_poly c h.bottom;
    factor_in = record { polynomial = h.bottom; value = refl };
    inverse = over c (row_of c (K c).𝟙) h.bottom h.not_null;
    inverts = den_inverse c h.bottom h.not_null;
    product_in = record {
      polynomial = h.top;
      value = ap (λ t. of_poly c h.bottom ⊗ t) h.value ∙ den_clears c (row_of c h.top) h.bottom h.not_null;
    };
  }
  rational_cleared Infinite t h =
      let X = pow (K c).ops (x_poly k) (length h.top.0) in
      let X_some = x_power_not_zero k (length h.top.0) in
      record {
        factor = over c (row_of c (K c).𝟙) X X_some;
        factor_in = record {
          top = (K c).𝟙;
          bottom = X;
          not_null = X_some;
          degrees = one_short (length h.top.0);
          value = refl;
        };
        inverse = of_poly c X;
        inverts = F.mul_comm _ _ ∙ den_inverse c X X_some;
        product_in = record {
          top = (K c).◌⊗◌ (K c).𝟙 h.top;
          bottom = (K c).◌⊗◌ X h.bottom;
          not_null = bottoms_not_zero c X h.bottom X_some h.not_null;
          degrees = short_fraction h.top h.bottom (length h.top.0) (le_refl _) h.not_null;
          value = ap (λ t. over c (row_of c (K c).𝟙) X X_some ⊗ t) h.value
              ∙ over_times c (K c).𝟙 h.top X h.bottom X_some h.not_null;
        };
      }
    where
      one_length : (p : Polynomial k) → p ≡ (K c).𝟙 → suc (length ((K c).◌⊗◌ p p).0) ≡ length p.0 + length p.0
          → length p.0 ≤ 1
      one_length p e f = let g : length ((K c).◌⊗◌ p p).0
          ≡ length p.0 = ap (λ r. length r.0) (ap ((K c).◌⊗◌ p) e ∙ (K c).mul_one p) in omega arith

      one_short : (m : ℕ) → length (K c).𝟙.0 ≤ length (pow (K c).ops (x_poly k) m).0
      one_short m =
          let a = one_length (K c).𝟙 refl
          (length_product (code_ring k) (code_domain k) (K c).𝟙 (K c).𝟙 (one_some c) (one_some c)) in
          omega (arith, a, x_power_long k m)
