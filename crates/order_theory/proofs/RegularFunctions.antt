-- A function whose value is at least 0 at each place over p is integral over the polynomials up to a factor prime to
-- p; so where it is at least 0 at each finite place, it is integral.
use Rattle.std.proofs.Common.{◌≡◌, ◌⊎◌, inl, inr, ℕ, zero, suc, ◌≤◌, List, length, pos, sym, ◌∙◌, ap, subst, arith}
use Rattle.std.proofs.lemmas.List.{length-map}
use Rattle.ring_lemmas.specs.Ring.{pow}
use Rattle.ring_theory.specs.Local.{Locally}
use Rattle.ring_lemmas.specs.Lists.{coeff_of}
use Rattle.ring_theory.proofs.Local.{power_in}
use Rattle.ring_lemmas.proofs.Ring.{one_mul, mul_zero, zero_mul, add_mul}
use Rattle.ring_lemmas.specs.Polynomials.{constant}
use Rattle.ring_theory.proofs.Evaluate.{constant_hom}
use Rattle.ring_theory.proofs.Polynomials.{length_product}
use Rattle.prime_theory.specs.Ideals.{IsIdeal}
use Rattle.prime_theory.specs.Orders.{Denominator}
use Rattle.prime_theory.specs.Systems.{Escapes}
use Rattle.prime_theory.proofs.Lists.{everywhere}
use Rattle.prime_theory.proofs.Systems.{covering}
use Rattle.prime_theory.proofs.Localisation.{lift}
use Rattle.ff_fields.specs.Field.{CodeField}
use Rattle.ff_fields.specs.Code.{code_ring, code_domain}
use Rattle.ff_poly.specs.Words.{IsIrreducibleList}
use Rattle.ff_poly.specs.Polynomials.{Polynomial, polynomials, polynomial_discrete, codes_of}
use Rattle.function_field.specs.Places.{IsPlace, IsIn, HasValuationAtLeast}
use Rattle.function_field.specs.Functions.{Equation, FunctionOf, ring_of, of_poly, setting_of}
use Rattle.function_field.specs.Discriminant.{discriminant}
use Rattle.places_theory.proofs.YRoot.{poly_hom}
use Rattle.polynomial_theory.proofs.Lengths.{some_long}
use Rattle.polynomial_theory.proofs.Irreducible.{irreducible_some}
use Rattle.lattice_theory.proofs.Lattices.{lattice_decided}
use Rattle.order_theory.proofs.LeastPolynomials.{Least, least_polynomial}
use Rattle.lattice_theory.proofs.Bases.{monic_multiple}
use Rattle.order_theory.proofs.Degrees.{constant_of}
use Rattle.order_theory.specs.Orders.{IsPrimeTo}
use Rattle.order_theory.proofs.LocalOrders.{prime_to, denominator}
use Rattle.order_theory.proofs.IntegralLattice.{integral_lattice, integral_subring, polynomial_integral, polynomial_in}
use Rattle.order_theory.proofs.FinitePlaces.{Int, finite}
use Rattle.order_theory.proofs.ReductionAt.{p_in}
use Rattle.order_theory.proofs.PrimesOver.{Index, PrimeOf, prime_over, family_of, primes_at}
use Rattle.order_theory.proofs.PlaceLists.{integral_order, integral_maximal, rows, members, prime_place}
use Rattle.order_theory.proofs.InvertibleIdeals.{divisor_of, divides_it, divisor_irreducible}
use Rattle.std.proofs.lemmas.Bool.{cases_lt}

module _ {k : CodeField} (c : Equation k) (z : FunctionOf c) where
  infixl 65 ◌⊕◌
  infixl 70 ◌⊗◌
  open ring_of c use {𝟘, 𝟙, ◌⊕◌, ◌⊗◌}

  -- the integral functions that take z to an integral function
  abbrev J : FunctionOf c → Type 0
  J u = Int c u × Int c (u ⊗ z)

  𝓙 : IsIdeal (ring_of c).ops (Int c) (λ u. Int c u × Int c (u ⊗ z))
  𝓙 = record {
    within = λ a m. m.0;
    zero_in = ((integral_subring c).zero_in, subst (Int c) (sym (zero_mul (ring_of c) z)) (integral_subring c).zero_in);
    sum_in = λ a b m n. (
      (integral_subring c).sum_in a b m.0 n.0,
      subst (Int c) (sym (add_mul (ring_of c) a b z)) ((integral_subring c).sum_in _ _ m.1 n.1),
    );
    scale_in = λ s a s_in m. (
      (integral_subring c).product_in s a s_in m.0,
      subst (Int c) (sym ((ring_of c).mul_assoc s a z)) ((integral_subring c).product_in s _ s_in m.1),
    );
  }

module _ {k : CodeField} (c : Equation k) (some : ¬ (discriminant c ≡ (polynomials k).𝟘)) (z : FunctionOf c)
    (p : Polynomial k) (h : IsIrreducibleList k.ops (codes_of k p))
    (regular : (gs : List (FunctionOf c)) → IsPlace (setting_of c) (finite c gs)
    → IsIn (setting_of c) (finite c gs) (of_poly c p)
    → HasValuationAtLeast (setting_of c) (finite c gs) z (pos 0)) where
  infixl 65 ◌⊕◌
  infixl 70 ◌⊗◌
  open ring_of c use {𝟘, 𝟙, ◌⊕◌, ◌⊗◌}

  -- what p takes into J is in J
  cancelled : (w : FunctionOf c) → Int c w → J c z (of_poly c p ⊗ w) → J c z w
  cancelled w w_in m =
      let primes = primes_at c p h (Int c) (integral_order c some p h) (integral_maximal c some p h) in
      let P = PrimeOf c p h (Int c) (integral_order c some p h) in
      let u = covering (ring_of c) (Int c) (integral_subring c) (of_poly c p)
      (p_in c p h (Int c) (integral_order c some p h)) (Index c p h (Int c) (integral_order c some p h)) P
      (family_of c p h (Int c) (integral_order c some p h) (integral_maximal c some p h)) primes.list primes.system
      (λ u. Int c u × Int c (u ⊗ z)) (𝓙 c z)
      (everywhere (λ i. Escapes (λ u. Int c u × Int c (u ⊗ z)) (P i))
      (λ i. let v =
      regular (rows c some p h i) (prime_place c some p h i)
      ((members c some p h i _).0 (prime_over c p h (Int c) (integral_order c some p h) i)) in
      record {
        member = v.factor;
        member_in = (v.integral, v.product);
        out = λ n. v.outside ((members c some p h i v.factor).0 n);
      }) primes.list) in
      lift (ring_of c) (Int c) (integral_subring c) (of_poly c p) (p_in c p h (Int c) (integral_order c some p h))
      (λ u. Int c u × Int c (u ⊗ z)) (𝓙 c z)
      u.member u.member_in u.one_modulo 1 w w_in (subst (λ x. J c z (x ⊗ w)) (sym ((ring_of c).mul_one _)) m)

  -- a factor prime to p takes z to an integral function
  pub regular_locally : Locally (ring_of c).ops (IsPrimeTo c p) (Int c) z
  regular_locally =
      record {
        factor = d.cofactor;
        factor_in = d.cofactor_in;
        multiple_in =
            (go d.exponent (power_in (ring_of c) (Int c) (integral_subring c) _ p_int d.exponent, d.multiple_in)).1;
      }
    where
      d : Denominator (ring_of c).ops (IsPrimeTo c p) (Int c) (of_poly c p) z
      d = denominator c p h (Int c) (integral_lattice c some) z

      p_int : Int c (of_poly c p)
      p_int = polynomial_in c p

      w_int : Int c d.cofactor
      w_int = polynomial_integral c d.cofactor ((prime_to c p h).within d.cofactor d.cofactor_in)

      go : (n : ℕ) → Int c (pow (ring_of c).ops (of_poly c p) n)
          × Int c (pow (ring_of c).ops (of_poly c p) n ⊗ d.cofactor ⊗ z) → J c z d.cofactor
      go zero m = (w_int, subst (λ x. Int c (x ⊗ z)) (one_mul (ring_of c) d.cofactor) m.1)
      go (suc n) m =
          let q = power_in (ring_of c) (Int c) (integral_subring c) (of_poly c p) p_int n in
          let q_w = (integral_subring c).product_in _ _ q w_int in
          go n (
            q,
            (cancelled (pow (ring_of c).ops (of_poly c p) n ⊗ d.cofactor) q_w (
              (integral_subring c).product_in _ _ p_int q_w,
              subst (λ x. Int c (x ⊗ z)) ((ring_of c).mul_assoc _ _ d.cofactor) m.1,
            )).1,
          )

module _ {k : CodeField} (c : Equation k) (some : ¬ (discriminant c ≡ (polynomials k).𝟘)) (z : FunctionOf c)
    (regular : (gs : List (FunctionOf c)) → IsPlace (setting_of c) (finite c gs)
    → HasValuationAtLeast (setting_of c) (finite c gs) z (pos 0)) where
  infixl 65 ◌⊕◌
  infixl 70 ◌⊗◌
  open ring_of c use {𝟘, 𝟙, ◌⊕◌, ◌⊗◌}

  abbrev Clears : Polynomial k → Type 0
  Clears a = (¬ (a ≡ (polynomials k).𝟘)) × Int c (of_poly c a ⊗ z)

  decide : (a : Polynomial k) → Dec (Clears a)
  decide a =
      go (polynomial_discrete k a (polynomials k).𝟘)
      (lattice_decided c (Int c) (integral_lattice c some) (of_poly c a ⊗ z))
    where
      go : Dec (a ≡ (polynomials k).𝟘) → Dec (Int c (of_poly c a ⊗ z)) → Dec (Clears a)
      go (yes e) d = no (λ h. h.0 e)
      go (no n) (yes m) = yes (n, m)
      go (no n) (no m) = no (λ h. m h.1)

  smallest : Least k Clears
  smallest = let f = (integral_lattice c some).full z in
      least_polynomial k Clears decide f.factor (f.some, f.multiple_in)

  pub regular_is_integral : Int c z
  regular_is_integral = subst (Int c) (one_mul (ring_of c) z) (go (cases_lt 1 (length smallest.member.0)))
    where
      go : (2 ≤ length smallest.member.0) ⊎ (length smallest.member.0 ≤ 1) → Int c (𝟙 ⊗ z)
      go (inr short) =
          let m = monic_multiple k smallest.member smallest.has.0 in
          let s = m.monic.size in
          let d = m.degree in
          let l = some_long k smallest.member smallest.has.0 in
          let zero : m.monic.degree ≡ 0 = omega arith in
          let top : coeff_of (code_ring k).ops m.product.0 0 ≡ (code_ring k).𝟙
          = subst (λ n. coeff_of (code_ring k).ops m.product.0 n ≡ (code_ring k).𝟙) zero m.monic.top in
          let one : m.product ≡ (polynomials k).𝟙
          = constant_of c m.product (omega arith) ∙ ap (constant (code_ring k)) top ∙ (constant_hom (code_ring k)).𝟙 in
          subst (λ u. Int c (u ⊗ z)) (sym ((poly_hom c).mul _ _) ∙ ap (of_poly c) (sym m.is ∙ one) ∙ (poly_hom c).𝟙)
          ((𝓙 c z).scale_in (of_poly c m.unit) (of_poly c smallest.member) (polynomial_in c m.unit)
          (polynomial_in c smallest.member, smallest.has.1)).1
      go (inl long) =
          let g = smallest.member in
          let p = divisor_of k g smallest.has.0 long in
          let irr = divisor_irreducible k g smallest.has.0 long in
          let d = divides_it k g smallest.has.0 long in
          let u = d.0 in
          let u_some : ¬ (u ≡ (polynomials k).𝟘) = λ e. smallest.has.0
          (d.1 ∙ ap ((polynomials k).◌⊗◌ p) e ∙ mul_zero (polynomials k).ring p) in
          let u_in = cancelled c some z p irr (λ gs place over. regular gs place) (of_poly c u) (polynomial_in c u)
          (subst (J c z) (ap (of_poly c) d.1 ∙ (poly_hom c).mul p u) (polynomial_in c g, smallest.has.1)) in
          let le = smallest.least u (u_some, u_in.1) in
          let l = length_product (code_ring k) (code_domain k) p u (irreducible_some k p irr) u_some in
          let f : length g.0 ≡ length ((polynomials k).◌⊗◌ p u).0 = ap (λ q. length q.0) d.1 in
          let p_long : 2 ≤ length p.0 = subst (λ n. 2 ≤ n) (length-map p.0 (λ x. x.0)) irr.not_constant in
          absurd (omega (arith, le, l, f, p_long))
