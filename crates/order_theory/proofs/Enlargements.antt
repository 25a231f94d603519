-- Enlarging an order at an irreducible polynomial p by the multipliers of its radical (Pohst and Zassenhaus,
-- Algorithmic Algebraic Number Theory, chapter 5): they lie among the integral functions that powers of p take into
-- the order, and where they add nothing, the order is maximal at p.
use Rattle.std.proofs.Common.{◌↔◌, ℕ, ◌+◌, List, [], ◌∷◌, ◌++◌, map, All, refl, sym, ◌∙◌, ap, subst}
use Rattle.std.proofs.lemmas.List.Elements.{All-nil, All-cons, All-weaker}
use Rattle.ring_lemmas.specs.Ring.{pow}
use Rattle.ring_theory.specs.Subsets.{IsSubring, IsModule, Span, Colon}
use Rattle.ring_theory.specs.Integral.{IsIntegral}
use Rattle.ring_lemmas.proofs.Ring.{one_mul, pow_add, mul_left_comm}
use Rattle.ring_theory.proofs.Subsets.{span_least, span_module, span_members}
use Rattle.prime_theory.specs.Ideals.{IsIdeal, SameSet}
use Rattle.prime_theory.specs.Orders.{MaximalAt, Radical, Enlarged, EnlargedAt, PowersOf}
use Rattle.prime_theory.proofs.Enlarge.{enlarged_iff}
use Rattle.prime_theory.proofs.Radicals.{radical_ideal, p_in_radical, criterion_iff}
use Rattle.ff_fields.specs.Field.{CodeField}
use Rattle.ff_poly.specs.Words.{IsIrreducibleList}
use Rattle.ff_poly.specs.Polynomials.{Polynomial, codes_of}
use Rattle.function_field.specs.declared.side.Side.TheVariants.{Finite}
use Rattle.function_field.specs.Places.{IsIntegralAt}
use Rattle.function_field.specs.Functions.{Equation, FunctionOf, ring_of, of_poly, IsPolynomial, setting_of}
use Rattle.function_field.proofs.ScalarRings.{polynomials_subring}
use Rattle.polynomial_theory.proofs.Irreducible.{irreducible}
use Rattle.lattice_theory.specs.Lattices.{IsLattice}
use Rattle.lattice_theory.proofs.Operations.{inverse_of}
use Rattle.order_theory.specs.Orders.{IsOrder, TakenByPowers}
use Rattle.order_theory.proofs.IntegralLattice.{integral_module}
use Rattle.order_theory.proofs.LocalOrders.{order_integral, stable_integral, order_polynomials}

module _ {k : CodeField} (c : Equation k) where
  infixl 65 ◌⊕◌
  infixl 70 ◌⊗◌
  infixr 80 ⊖◌
  open ring_of c use {𝟘, 𝟙, ◌⊕◌, ◌⊗◌, ⊖◌}

  𝓢 : IsSubring (ring_of c).ops (IsPolynomial c)
  𝓢 = polynomials_subring c

  abbrev Int : FunctionOf c → Type 0
  Int = IsIntegralAt (setting_of c) Finite

  -- ---- orders and the polynomials in them

  module _ (O : FunctionOf c → Type 0) (𝓞 : IsOrder c O) where
    pub order_has : (p : Polynomial k) → O (of_poly c p)
    order_has p = order_polynomials c O 𝓞 (of_poly c p) (record { polynomial = p; value = refl })

    -- what is integral over the polynomials is integral over the order
    integral_over : (z : FunctionOf c) → Int z → IsIntegral (ring_of c).ops O z
    integral_over z h = record {
      degree = h.degree;
      positive = h.positive;
      coefficient = h.coefficient;
      coefficient_in = λ i. order_polynomials c O 𝓞 (h.coefficient i) (h.coefficient_in i);
      root = h.root;
    }

    -- an ideal of the order is a module over the polynomials
    pub ideal_module : (I : FunctionOf c → Type 0) → IsIdeal (ring_of c).ops O I
        → IsModule (ring_of c).ops (IsPolynomial c) I
    ideal_module I 𝓘 = record {
      zero_in = 𝓘.zero_in;
      sum_in = 𝓘.sum_in;
      scale_in = λ s a s_in a_in. 𝓘.scale_in s a (order_polynomials c O 𝓞 s s_in) a_in;
    }

    module _ (p : Polynomial k) where
      -- ---- the radical

      pub radical_of_order : IsIdeal (ring_of c).ops O (Radical (ring_of c).ops O (of_poly c p))
      radical_of_order = radical_ideal (ring_of c) O 𝓞.ring (of_poly c p) (order_has p)

      -- what spans the radical over the polynomials spans it over the order
      spans_over : (ys : List (FunctionOf c))
          → SameSet (Radical (ring_of c).ops O (of_poly c p)) (Span (ring_of c).ops (IsPolynomial c) ys)
          → SameSet (Radical (ring_of c).ops O (of_poly c p)) (Span (ring_of c).ops O ys)
      spans_over ys same z = (
        λ h.
            span_least (ring_of c) (IsPolynomial c) 𝓢 (Span (ring_of c).ops O ys) 𝓜 ys
            (span_members (ring_of c) O 𝓞.ring ys) z
            ((same z).0 h),
        span_least (ring_of c) O 𝓞.ring (Radical (ring_of c).ops O (of_poly c p)) 𝓡 ys all_in z,
      )
        where
          𝓜 : IsModule (ring_of c).ops (IsPolynomial c) (Span (ring_of c).ops O ys)
          𝓜 =
              let m = span_module (ring_of c) O 𝓞.ring ys in
              record {
                zero_in = m.zero_in;
                sum_in = m.sum_in;
                scale_in = λ s a s_in a_in. m.scale_in s a (order_polynomials c O 𝓞 s s_in) a_in;
              }

          𝓡 : IsModule (ring_of c).ops O (Radical (ring_of c).ops O (of_poly c p))
          𝓡 = record {
            zero_in = radical_of_order.zero_in;
            sum_in = radical_of_order.sum_in;
            scale_in = radical_of_order.scale_in;
          }

          all_in : All (Radical (ring_of c).ops O (of_poly c p)) ys
          all_in =
              All-weaker (Span (ring_of c).ops (IsPolynomial c) ys) (Radical (ring_of c).ops O (of_poly c p))
              (λ y h. (same y).1 h) ys
              (span_members (ring_of c) (IsPolynomial c) 𝓢 ys)

      -- the members of the order take an ideal into itself
      pub multipliers_have : (I : FunctionOf c → Type 0) → IsIdeal (ring_of c).ops O I → (z : FunctionOf c) → O z
          → Colon (ring_of c).ops I I z
      multipliers_have I 𝓘 z h y y_in = 𝓘.scale_in z y h y_in

      -- what takes a lattice into itself that lies in the order and has p is integral, and p takes it into the order
      pub multipliers_taken : (I : FunctionOf c → Type 0) → IsLattice c I → ((z : FunctionOf c) → I z → O z)
          → I (of_poly c p)
          → (z : FunctionOf c) → Colon (ring_of c).ops I I z → TakenByPowers c p O z
      multipliers_taken I 𝓛 within p_in z h = record {
        in_Int = stable_integral c I 𝓛 z h;
        exponent = 1;
        inside =
            subst O ((ring_of c).mul_comm z (of_poly c p) ∙ ap (λ x. x ⊗ z) (sym ((ring_of c).mul_one (of_poly c p))))
            (within (z ⊗ of_poly c p) (h (of_poly c p) p_in));
      }

      pub radical_has : Radical (ring_of c).ops O (of_poly c p) (of_poly c p)
      radical_has =
          p_in_radical (ring_of c) O 𝓞.ring (of_poly c p) (order_has p) (of_poly c p)
          (record { quotient = 𝟙; quotient_in = 𝓞.ring.one_in; is = sym ((ring_of c).mul_one (of_poly c p)) })

      -- where the multipliers of the radical add nothing, the order is maximal at p
      pub maximal_of_multipliers : IsIrreducibleList k.ops (codes_of k p) → (ys : List (FunctionOf c))
          → SameSet (Radical (ring_of c).ops O (of_poly c p)) (Span (ring_of c).ops (IsPolynomial c) ys)
          → ((z : FunctionOf c) → Colon (ring_of c).ops (Radical (ring_of c).ops O (of_poly c p))
          (Radical (ring_of c).ops O (of_poly c p)) z → O z)
          → MaximalAt (ring_of c).ops (of_poly c p) Int O
      maximal_of_multipliers irr ys same h z n z_int m =
          let u = inverse_of c p (irreducible k p irr).nonzero in
          (criterion_iff (ring_of c) O 𝓞.ring (of_poly c p) (order_has p) u.0 ((ring_of c).mul_comm _ _ ∙ u.1) ys
          (spans_over ys same)).0 h z n
          (integral_over z z_int) m

      -- ---- chains of enlargements

      -- the order is among the integral functions that powers of p take into it
      pub taken_has : (z : FunctionOf c) → O z → TakenByPowers c p O z
      taken_has z h =
          record { in_Int = order_integral c O 𝓞 z h; exponent = 0; inside = subst O (sym (one_mul (ring_of c) z)) h }

      -- what powers of p take into an order, whose members they take into O, they take into O
      pub taken_again : (M : FunctionOf c → Type 0) → ((z : FunctionOf c) → M z → TakenByPowers c p O z)
          → (z : FunctionOf c)
          → TakenByPowers c p M z → TakenByPowers c p O z
      taken_again M taken z h =
          let t = taken (pow (ring_of c).ops (of_poly c p) h.exponent ⊗ z) h.inside in
          record {
            in_Int = h.in_Int;
            exponent = t.exponent + h.exponent;
            inside =
                subst O (sym ((ring_of c).mul_assoc _ _ z)
                ∙ ap (λ x. x ⊗ z) (sym (pow_add (ring_of c) (of_poly c p) t.exponent h.exponent))) t.inside;
          }

      -- an order between O and these functions that is maximal at p has all of them
      pub taken_is : (M : FunctionOf c → Type 0) → ((z : FunctionOf c) → O z → M z)
          → ((z : FunctionOf c) → M z → TakenByPowers c p O z)
          → MaximalAt (ring_of c).ops (of_poly c p) Int M → (z : FunctionOf c) → M z ↔ TakenByPowers c p O z
      taken_is M has taken maximal z = (taken z, λ t. maximal z t.exponent t.in_Int (has _ t.inside))

  -- ---- one polynomial after another

  -- the same sets give the same enlargements
  pub enlarged_same : (a : FunctionOf c) (O M : FunctionOf c → Type 0) → SameSet O M
      → SameSet (Enlarged (ring_of c) Int a O) (Enlarged (ring_of c) Int a M)
  enlarged_same a O M same z = (
    λ h. record { in_Int = h.in_Int; exponent = h.exponent; inside = (same _).0 h.inside },
    λ h. record { in_Int = h.in_Int; exponent = h.exponent; inside = (same _).1 h.inside },
  )

  -- one polynomial more
  pub enlarged_more : (es : List (FunctionOf c)) (a : FunctionOf c) (O : FunctionOf c → Type 0)
      → SameSet (Enlarged (ring_of c) Int a (EnlargedAt (ring_of c) Int es O))
      (EnlargedAt (ring_of c) Int (es ++ a ∷ []) O)
  enlarged_more [] a O z = (λ h. h, λ h. h)
  enlarged_more (b ∷ es) a O z = enlarged_more es a (Enlarged (ring_of c) Int b O) z

  -- the integral functions that a product of powers takes into an order
  pub products_iff : (ps : List (Polynomial k)) (O : FunctionOf c → Type 0) → IsOrder c O → (z : FunctionOf c)
      → EnlargedAt (ring_of c) Int (map (of_poly c) ps) O z
      ↔ (Int z × ((d : FunctionOf c) × PowersOf (ring_of c) (map (of_poly c) ps) d × O (d ⊗ z)))
  products_iff ps O 𝓞 z =
      enlarged_iff (ring_of c) (IsPolynomial c) 𝓢 Int (integral_module c).scale_in (map (of_poly c) ps)
      (all_polynomials ps) O (order_integral c O 𝓞) z
    where
      all_polynomials : (ps : List (Polynomial k)) → All (IsPolynomial c) (map (of_poly c) ps)
      all_polynomials [] = All-nil (IsPolynomial c)
      all_polynomials (p ∷ ps) =
          All-cons (IsPolynomial c) (of_poly c p) (map (of_poly c) ps) (record { polynomial = p; value = refl })
          (all_polynomials ps)

  -- powers of the listed elements, times a product of such powers
  powers_raised : (es : List (FunctionOf c))
      → All (λ a. (n : ℕ) (d : FunctionOf c) → PowersOf (ring_of c) es d
      → PowersOf (ring_of c) es (pow (ring_of c).ops a n ⊗ d)) es
  powers_raised [] =
      All-nil (λ a. (n : ℕ) (d : FunctionOf c) → PowersOf (ring_of c) [] d
      → PowersOf (ring_of c) [] (pow (ring_of c).ops a n ⊗ d))
  powers_raised (b ∷ es) =
      All-cons Raised b es
      (λ n d h. (
        n + h.0,
        h.1,
        h.2,
        ap (λ x. pow (ring_of c).ops b n ⊗ x) h.3 ∙ sym ((ring_of c).mul_assoc _ _ h.1)
            ∙ ap (λ x. x ⊗ h.1) (sym (pow_add (ring_of c) b n h.0)),
      ))
      (All-weaker (λ a. (n : ℕ) (d : FunctionOf c) → PowersOf (ring_of c) es d
      → PowersOf (ring_of c) es (pow (ring_of c).ops a n ⊗ d)) Raised
      (λ a raise n d h. (
        h.0,
        pow (ring_of c).ops a n ⊗ h.1,
        raise n h.1 h.2,
        ap (λ x. pow (ring_of c).ops a n ⊗ x) h.3 ∙ mul_left_comm (ring_of c) _ _ h.1,
      ))
      es (powers_raised es))
    where
      Raised : FunctionOf c → Type 0
      Raised a = (n : ℕ) (d : FunctionOf c) → PowersOf (ring_of c) (b ∷ es) d
          → PowersOf (ring_of c) (b ∷ es) (pow (ring_of c).ops a n ⊗ d)

  -- they are maximal at each of the polynomials
  pub products_maximal : (es : List (FunctionOf c)) (O M : FunctionOf c → Type 0)
      → ((z : FunctionOf c) → M z ↔ (Int z × ((d : FunctionOf c) × PowersOf (ring_of c) es d × O (d ⊗ z))))
      → All (λ a. MaximalAt (ring_of c).ops a Int M) es
  products_maximal es O M is =
      All-weaker (λ a. (n : ℕ) (d : FunctionOf c) → PowersOf (ring_of c) es d
      → PowersOf (ring_of c) es (pow (ring_of c).ops a n ⊗ d))
      (λ a. MaximalAt (ring_of c).ops a Int M)
      (λ a raise z n z_int m.
      let t = ((is (pow (ring_of c).ops a n ⊗ z)).0 m).1 in
      (is z).1 (
        z_int,
        (
          pow (ring_of c).ops a n ⊗ t.0,
          raise n t.0 t.1,
          subst O (sym ((ring_of c).mul_assoc _ _ z) ∙ ap (λ x. x ⊗ z) ((ring_of c).mul_comm _ _)) t.2,
        ),
      ))
      es (powers_raised es)
