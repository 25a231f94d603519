-- Lattices that differ from k[t][Y] at t alone: products, inverses and powers of them are such, and over the order of
-- the integral functions of the side they are admitted, so that they have inverses and powers.
use Rattle.std.proofs.Common.{◌≡◌, ℕ, zero, suc, ◌+◌, inl, inr, refl, sym, ◌∙◌, ap, subst, arith}
use Rattle.std.proofs.Math.IntN.{ℤ, pos, negsuc}
use Rattle.ring_lemmas.specs.Ring.{pow}
use Rattle.ring_lemmas.proofs.Ring.{mul_mul, mul_pow, pow_add}
use Rattle.ring_theory.specs.Subsets.{Product}
use Rattle.ring_theory.proofs.Local.{power_in}
use Rattle.prime_theory.specs.Ideals.{SameSet, Inverse, Power}
use Rattle.prime_theory.specs.Orders.{MaximalAt}
use Rattle.linear_theory.specs.Euclidean.{IsDivisorIn}
use Rattle.ff_fields.specs.Field.{CodeField}
use Rattle.ff_poly.specs.Words.{IsIrreducibleList}
use Rattle.ff_poly.specs.Polynomials.{Polynomial, polynomials, codes_of, x_poly}
use Rattle.polynomial_theory.proofs.Irreducible.{decide_divides}
use Rattle.function_field.specs.declared.side.Side.{Side}
use Rattle.function_field.specs.declared.side.Side.TheVariants.{Finite, Infinite}
use Rattle.function_field.specs.Functions.{of_poly, IsPolynomial}
use Rattle.function_field.specs.Places.{IsIntegralAt}
use Rattle.function_field.specs.Values.{Functions, functions, setting, equation_of}
use Rattle.function_field.specs.Curves.{CurveValue, IsCurve}
use Rattle.function_field.proofs.ScalarRings.{polynomials_subring}
use Rattle.places_theory.proofs.YRoot.{poly_hom}
use Rattle.trace_theory.specs.Traces.{HasPolynomialCoordinates}
use Rattle.lattice_theory.specs.Lattices as theory
use Rattle.lattice_theory.proofs.Lattices.{lattice_module}
use Rattle.order_theory.specs.Orders.{IsPrimeTo, IsOrderUpTo}
use Rattle.order_theory.proofs.LocalOrders.{prime_to}
use Rattle.infinite_theory.specs.Supported.{IsSupportedAt}
use Rattle.infinite_theory.proofs.InfiniteTransport.{x_irreducible}
use Rattle.infinite_theory.proofs.SupportedLattices.{coordinates_ring, product_supported, colon_supported}
use Rattle.ideal_theory.specs.Records.{IsAdmitted}
use Rattle.ideal_theory.proofs.IdealIndices.{IsInvertibleLattice, invertible_same, order_invertible, times_invertible, inverse_invertible}
use Rattle.ff_lattice.specs.Lattices.{LatticeValue, Contains}
use Rattle.value_theory.specs.IntegralLattices.{presentation, IsIntegralLattice}
use Rattle.value_theory.proofs.InfiniteLattices.{integral_supported}
use Rattle.place_lists_theory.proofs.IntegralOrders.{finite_members, infinite_maximal}
use Rattle.ff_ideal.specs.Powers.{IntegerPower}
use Rattle.pair_theory.specs.Pairs.{IsTame}
use Rattle.pair_theory.proofs.Sides.{HasDenominatorOn, order_is}

module _ (k : CodeField) (c : CurveValue) where
  pub tame_same : (s : Side) (X Y : Functions k (presentation c s) → Type 0) → SameSet X Y → IsTame k c s X
      → IsTame k c s Y
  tame_same Finite X Y e t = tt
  tame_same Infinite X Y e t = record {
    exponent = t.exponent;
    has = λ i l. (e _).0 (t.has i l);
    within = λ z m. t.within z ((e z).1 m);
  }

  pub tame_product : (s : Side) (X Y : Functions k (presentation c s) → Type 0)
      → theory.IsLattice (equation_of k (presentation c s)) X → theory.IsLattice (equation_of k (presentation c s)) Y
      → IsTame k c s X → IsTame k c s Y → IsTame k c s (Product (functions k (presentation c s)).ops X Y)
  tame_product Finite X Y 𝓧 𝓨 a b = tt
  tame_product Infinite X Y 𝓧 𝓨 a b =
      product_supported (equation_of k c.inf) (x_poly k) (x_irreducible k) X Y 𝓧 𝓨 a b

  pub tame_inverse : (s : Side) (O X : Functions k (presentation c s) → Type 0)
      → theory.IsLattice (equation_of k (presentation c s)) O → theory.IsLattice (equation_of k (presentation c s)) X
      → IsTame k c s O → IsTame k c s X → IsTame k c s (Inverse (functions k (presentation c s)).ops O X)
  tame_inverse Finite O X 𝓞 𝓧 a b = tt
  tame_inverse Infinite O X 𝓞 𝓧 a b =
      colon_supported (equation_of k c.inf) (x_poly k) (x_irreducible k) O X 𝓞 𝓧 a b

  -- the order of the integral functions is such
  pub order_tame : (curve : IsCurve k c) (o : LatticeValue) (s : Side) → IsIntegralLattice k c s o
      → IsTame k c s (Contains k (presentation c s) o)
  order_tame curve o Finite whole = tt
  order_tame curve o Infinite whole = integral_supported k c curve o whole

  -- functions with powers of t as denominators have products with such
  pub denominator_product : (curve : IsCurve k c) (s : Side) (u v : Functions k (presentation c s))
      → HasDenominatorOn k c curve s u → HasDenominatorOn k c curve s v
      → HasDenominatorOn k c curve s ((functions k (presentation c s)).◌⊗◌ u v)
  denominator_product curve Finite u v a b = tt
  denominator_product curve Infinite u v a b =
      let R = functions k c.inf in
      let x = of_poly (equation_of k c.inf) (x_poly k) in
      record {
        exponent = a.exponent + b.exponent;
        cleared =
            subst (λ w. HasPolynomialCoordinates (equation_of k c.inf) w)
            (mul_mul R (pow R.ops x a.exponent) u (pow R.ops x b.exponent) v
            ∙ ap (λ w. R.◌⊗◌ w (R.◌⊗◌ u v)) (sym (pow_add R x a.exponent b.exponent)))
            ((coordinates_ring (equation_of k c.inf)).product_in _ _ a.cleared b.cleared);
      }

module _ (k : CodeField) (c : CurveValue) (curve : IsCurve k c) (s : Side) (o : LatticeValue)
    (whole : IsIntegralLattice k c s o) where
  abbrev O : Functions k (presentation c s) → Type 0
  O = Contains k (presentation c s) o

  -- an invertible lattice over the order that differs from k[t][Y] at t alone
  pub record IsTameLattice (X : Functions k (presentation c s) → Type 0) : Type 0 where
    pub invertible : IsInvertibleLattice (equation_of k (presentation c s)) (Contains k (presentation c s) o)
        (order_is k c curve s o whole) X
    pub tame : IsTame k c s X

  pub tame_lattice_same : (X Y : Functions k (presentation c s) → Type 0) → SameSet X Y → IsTameLattice X
      → IsTameLattice Y
  tame_lattice_same X Y e h = record {
    invertible = invertible_same (equation_of k (presentation c s)) O (order_is k c curve s o whole) X Y e
        h.invertible;
    tame = tame_same k c s X Y e h.tame;
  }

  pub tame_order : IsTameLattice (Contains k (presentation c s) o)
  tame_order = record {
    invertible = order_invertible (equation_of k (presentation c s)) O (order_is k c curve s o whole);
    tame = order_tame k c curve o s whole;
  }

  pub tame_times : (X Y : Functions k (presentation c s) → Type 0) → IsTameLattice X → IsTameLattice Y
      → IsTameLattice (Product (functions k (presentation c s)).ops X Y)
  tame_times X Y h i = record {
    invertible = times_invertible (equation_of k (presentation c s)) O (order_is k c curve s o whole) X Y h.invertible
        i.invertible;
    tame = tame_product k c s X Y h.invertible.lattice i.invertible.lattice h.tame i.tame;
  }

  pub tame_opposite : (X : Functions k (presentation c s) → Type 0) → IsTameLattice X
      → IsTameLattice (Inverse (functions k (presentation c s)).ops (Contains k (presentation c s) o) X)
  tame_opposite X h = record {
    invertible = inverse_invertible (equation_of k (presentation c s)) O (order_is k c curve s o whole) X h.invertible;
    tame =
        tame_inverse k c s O X (order_is k c curve s o whole).lattice h.invertible.lattice tame_order.tame h.tame;
  }

  tame_power : (X : Functions k (presentation c s) → Type 0) → IsTameLattice X → (n : ℕ)
      → IsTameLattice (Power (functions k (presentation c s)).ops (Contains k (presentation c s) o) X n)
  tame_power X h zero = tame_order
  tame_power X h (suc n) =
      tame_times X (Power (functions k (presentation c s)).ops O X n) h (tame_power X h n)

  pub tame_integer : (X : Functions k (presentation c s) → Type 0) → IsTameLattice X → (m : ℤ)
      → IsTameLattice (IntegerPower (functions k (presentation c s)).ops (Contains k (presentation c s) o) X m)
  tame_integer X h (pos n) = tame_power X h n
  tame_integer X h (negsuc n) =
      tame_power (Inverse (functions k (presentation c s)).ops O X) (tame_opposite X h) (suc n)

-- such lattices are admitted
module _ (k : CodeField) (c : CurveValue) (curve : IsCurve k c) (o : LatticeValue) where
  finite_admitted : IsIntegralLattice k c Finite o → (X : Functions k c.fin → Type 0)
      → IsAdmitted (equation_of k c.fin) (Contains k c.fin o) X
  finite_admitted whole X p h = inl (λ z n z_in m. (finite_members k c curve o whole z).1 z_in)

  module _ (whole : IsIntegralLattice k c Infinite o) (X : Functions k c.inf → Type 0)
      (𝓧 : theory.IsLattice (equation_of k c.inf) X)
      (tame : IsSupportedAt (equation_of k c.inf) (x_poly k) X) where
    abbrev x : Functions k c.inf
    x = of_poly (equation_of k c.inf) (x_poly k)

    abbrev power : ℕ → Functions k c.inf
    power n = pow (functions k c.inf).ops (of_poly (equation_of k c.inf) (x_poly k)) n

    abbrev Oi : Functions k c.inf → Type 0
    Oi = Contains k c.inf o

    -- what takes X into the order has a power of t
    away : IsSupportedAt (equation_of k c.inf) (x_poly k) (Inverse (functions k c.inf).ops (Contains k c.inf o) X)
    away =
        colon_supported (equation_of k c.inf) (x_poly k) (x_irreducible k) Oi X
        (order_is k c curve Infinite o whole).lattice 𝓧 (integral_supported k c curve o whole) tame

    first : (Y : Functions k c.inf → Type 0) (t : IsSupportedAt (equation_of k c.inf) (x_poly k) Y)
        → Y (pow (functions k c.inf).ops (of_poly (equation_of k c.inf) (x_poly k)) t.exponent)
    first Y t = subst Y ((functions k c.inf).mul_one (power t.exponent)) (t.has 0 (omega arith))

    module _ (p : Polynomial k) (h : IsIrreducibleList k.ops (codes_of k p)) where
      -- where p divides t, up to powers of p is up to powers of t
      at_variable : IsDivisorIn (polynomials k).ops p (x_poly k)
          → MaximalAt (functions k c.inf).ops (of_poly (equation_of k c.inf) p) (IsIntegralAt (setting k c.inf) Finite)
          (Contains k c.inf o)
      at_variable d z n z_in m =
          let R = functions k c.inf in
          let P = of_poly (equation_of k c.inf) p in
          let C = of_poly (equation_of k c.inf) d.0 in
          let e : x ≡ R.◌⊗◌ C P
          = ap (of_poly (equation_of k c.inf)) d.1 ∙ (poly_hom (equation_of k c.inf)).mul p d.0 ∙ R.mul_comm P C in
          infinite_maximal k c curve o whole z n z_in
          (subst Oi
          (sym (R.mul_assoc (pow R.ops C n) (pow R.ops P n) z)
          ∙ ap (λ w. R.◌⊗◌ w z) (sym (mul_pow R C P n) ∙ ap (λ w. pow R.ops w n) (sym e)))
          ((lattice_module (equation_of k c.inf) Oi (order_is k c curve Infinite o whole).lattice).scale_in
          (pow R.ops C n) _
          (power_in R (IsPolynomial (equation_of k c.inf)) (polynomials_subring (equation_of k c.inf)) C
          (record { polynomial = d.0; value = refl }) n) m))

      elsewhere : ¬ IsDivisorIn (polynomials k).ops p (x_poly k)
          → IsOrderUpTo (equation_of k c.inf) p (Contains k c.inf o) X
      elsewhere n = record {
        factor = power away.exponent;
        factor_in = powers away.exponent;
        takes = λ z m. first (Inverse (functions k c.inf).ops Oi X) away z m;
        member = power tame.exponent;
        member_in = powers tame.exponent;
        has = first X tame;
      }
        where
          powers : (j : ℕ) → IsPrimeTo (equation_of k c.inf) p
              (pow (functions k c.inf).ops (of_poly (equation_of k c.inf) (x_poly k)) j)
          powers zero = (prime_to (equation_of k c.inf) p h).one_in
          powers (suc j) =
              (prime_to (equation_of k c.inf) p h).product_in x (power j)
              (record { polynomial = x_poly k; not_divided = n; value = refl }) (powers j)

    infinite_admitted : IsAdmitted (equation_of k c.inf) (Contains k c.inf o) X
    infinite_admitted p h =
        elim (decide_divides k p h (x_poly k)) [ yes d ↦ inl (at_variable p h d) | no n ↦ inr (elsewhere p h n) ]

  pub tame_admitted : (s : Side) → IsIntegralLattice k c s o → (X : Functions k (presentation c s) → Type 0)
      → theory.IsLattice (equation_of k (presentation c s)) X → IsTame k c s X
      → IsAdmitted (equation_of k (presentation c s)) (Contains k (presentation c s) o) X
  tame_admitted Finite whole X 𝓧 tame = finite_admitted whole X
  tame_admitted Infinite whole X 𝓧 tame = infinite_admitted whole X 𝓧 tame
