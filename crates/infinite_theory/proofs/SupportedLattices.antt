-- Lattices that are k[x][y] up to powers of an irreducible polynomial p: sums, products, colons, multiples, radicals,
-- and what lies between two.
use Rattle.std.proofs.Common.{◌≡◌, ◌↔◌, All, ℕ, zero, suc, ◌+◌, ◌<◌, List, [], ◌∷◌, refl, sym, ◌∙◌, ap, ap₂, subst, arith}
use Rattle.std.proofs.lemmas.List.Elements.{All-nil, All-cons, All-head, All-tail, All-weaker}
use Rattle.ring_lemmas.specs.Ring.{pow}
use Rattle.ring_lemmas.specs.Rows.{entry, row_mul}
use Rattle.ring_lemmas.specs.Sums.{sum_below}
use Rattle.ring_theory.specs.Subsets.{IsSubring, IsModule, Product, Colon}
use Rattle.ring_theory.specs.Local.{PrimeTo}
use Rattle.ring_lemmas.proofs.Ring.{neg_mul, one_mul, mul_left_comm, pow_add}
use Rattle.ring_lemmas.proofs.Sums.{below_scale}
use Rattle.ring_theory.proofs.Subsets.{span_least}
use Rattle.ring_theory.proofs.Local.{power_in, two_denominators}
use Rattle.ring_lemmas.proofs.Solver.{ring, reads, from_one}
use Rattle.prime_theory.specs.Ideals.{Multiple}
use Rattle.prime_theory.specs.Orders.{Radical}
use Rattle.prime_theory.proofs.Radicals.{p_in_radical}
use Rattle.prime_theory.proofs.Supported.{SupportedAt, supported_between, supported_product, supported_colon}
use Rattle.linear_theory.specs.Basis.{IsSum}
use Rattle.ff_fields.specs.Field.{CodeField}
use Rattle.ff_poly.specs.Words.{IsIrreducibleList}
use Rattle.ff_poly.specs.Polynomials.{Polynomial, polynomials, codes_of}
use Rattle.function_field.specs.Functions.{Equation, FunctionOf, ring_of, ring_of_x, of_poly, row_of, y_of, degree_of_y, IsPolynomial}
use Rattle.function_field.specs.Discriminant.{discriminant}
use Rattle.function_field.proofs.ScalarRings.{polynomials_subring, of_poly_one}
use Rattle.function_field.proofs.Horner.{mul_plain}
use Rattle.places_theory.proofs.YRoot.{poly_hom, at_y_plain}
use Rattle.trace_theory.specs.Traces.{HasPolynomialCoordinates}
use Rattle.trace_theory.proofs.IntegralLaw.{eval_sum}
use Rattle.function_field.specs.Indices.{space_ops}
use Rattle.lattice_theory.specs.Lattices.{IsLattice}
use Rattle.lattice_theory.proofs.Lattices.{lattice_module, lattice_generators}
use Rattle.lattice_theory.proofs.Operations.{polynomial_lattice, quotient_module}
use Rattle.order_theory.specs.Orders.{IsOrder, IsPrimeTo, TakenByPowers}
use Rattle.order_theory.proofs.LocalOrders.{prime_to, order_integral, larger_order}
use Rattle.infinite_theory.specs.Supported.{IsSupportedAt, HasPowerDenominator, IsLocallyIn}

module _ {k : CodeField} (c : Equation k) where
  infixl 65 ◌⊕◌
  infixl 70 ◌⊗◌
  infixr 80 ⊖◌
  open ring_of c use {𝟘, 𝟙, ◌⊕◌, ◌⊗◌, ⊖◌}

  𝓢 : IsSubring (ring_of c).ops (IsPolynomial c)
  𝓢 = polynomials_subring c

  abbrev W : FunctionOf c → Type 0
  W = HasPolynomialCoordinates c

  𝓦 : IsModule (ring_of c).ops (IsPolynomial c) (HasPolynomialCoordinates c)
  𝓦 = lattice_module c (HasPolynomialCoordinates c) (polynomial_lattice c)

  -- k[x][y] is a ring over k[x], with y
  pub coordinates_ring : IsSubring (ring_of c).ops (HasPolynomialCoordinates c)
  coordinates_ring = record {
    zero_in = 𝓦.zero_in;
    one_in = record { coordinates = row_of c (polynomials k).𝟙; value = of_poly_one c };
    sum_in = 𝓦.sum_in;
    neg_in =
        λ a h. subst W (neg_mul (ring_of c) 𝟙 a ∙ ap ⊖◌ (one_mul (ring_of c) a))
        (𝓦.scale_in (⊖ 𝟙) a (𝓢.neg_in 𝟙 𝓢.one_in) h);
    product_in = λ a b h g. record {
      coordinates = row_mul (ring_of_x c) c.lower_degree c.coefficients h.coordinates g.coordinates;
      value = ap₂ ◌⊗◌ h.value g.value ∙ mul_plain c h.coordinates g.coordinates;
    };
  }

  pub coordinates_order : IsOrder c (HasPolynomialCoordinates c)
  coordinates_order = record { lattice = polynomial_lattice c; ring = coordinates_ring }

  pub polynomial_coordinates : (s : FunctionOf c) → IsPolynomial c s → HasPolynomialCoordinates c s
  polynomial_coordinates s h = record { coordinates = row_of c h.polynomial; value = h.value }

  y_coordinates : HasPolynomialCoordinates c (y_of c)
  y_coordinates = record { coordinates = _; value = refl }

  -- sums of members
  pub sum_in : (L : FunctionOf c → Type 0) → IsModule (ring_of c).ops (IsPolynomial c) L
      → (n : ℕ) (g : ℕ → FunctionOf c) → ((i : ℕ) → i < n → L (g i))
      → L (sum_below (ring_of c).ops n g)
  sum_in L 𝓛 zero g h = 𝓛.zero_in
  sum_in L 𝓛 (suc n) g h = 𝓛.sum_in _ _ (sum_in L 𝓛 n g (λ i l. h i (omega arith))) (h n (omega arith))

  module _ (p : Polynomial k) (h : IsIrreducibleList k.ops (codes_of k p)) where
    abbrev P : FunctionOf c
    P = of_poly c p

    abbrev power : ℕ → FunctionOf c
    power n = pow (ring_of c).ops (of_poly c p) n

    𝓝 : PrimeTo (ring_of c).ops (IsPolynomial c) (IsPrimeTo c p) (of_poly c p)
    𝓝 = prime_to c p h

    power_poly : (n : ℕ) → IsPolynomial c (pow (ring_of c).ops (of_poly c p) n)
    power_poly n = power_in (ring_of c) (IsPolynomial c) 𝓢 (of_poly c p) (record { polynomial = p; value = refl }) n

    twice : (a b : ℕ) (z : FunctionOf c) → power (a + b) ⊗ z ≡ power a ⊗ (power b ⊗ z)
    twice a b z = ap (λ x. x ⊗ z) (pow_add (ring_of c) P a b) ∙ (ring_of c).mul_assoc _ _ z

    -- more powers do no harm
    raised : (L : FunctionOf c → Type 0) → IsModule (ring_of c).ops (IsPolynomial c) L → (a b : ℕ) (z : FunctionOf c)
        → L (power b ⊗ z) → L (power (a + b) ⊗ z)
    raised L 𝓛 a b z m = subst L (sym (twice a b z)) (𝓛.scale_in _ _ (power_poly a) m)

    raised_left : (L : FunctionOf c → Type 0) → IsModule (ring_of c).ops (IsPolynomial c) L
        → (a b : ℕ) (z : FunctionOf c) → L (power a ⊗ z) → L (power (a + b) ⊗ z)
    raised_left L 𝓛 a b z m =
        subst (λ n. L (power n ⊗ z)) (let e : b + a ≡ a + b = omega arith in e) (raised L 𝓛 b a z m)

    -- a power of p takes k[x][y] into a module supported at p
    all_of : (L : FunctionOf c → Type 0) → IsModule (ring_of c).ops (IsPolynomial c) L → (t : IsSupportedAt c p L)
        → (z : FunctionOf c)
        → HasPolynomialCoordinates c z → L (power t.exponent ⊗ z)
    all_of L 𝓛 t z m =
        subst L
        (below_scale (ring_of c) (degree_of_y c) (power t.exponent) _
        ∙ ap (λ x. power t.exponent ⊗ x)
        (sym (m.value ∙ sym (at_y_plain c m.coordinates)
        ∙ eval_sum (polynomials k).ring (ring_of c) (of_poly c) (poly_hom c) (y_of c) (degree_of_y c) m.coordinates)))
        (sum_in L 𝓛 (degree_of_y c) _
        (λ i l. subst L (mul_left_comm (ring_of c) _ _ _)
        (𝓛.scale_in (of_poly c (entry (polynomials k).ops (degree_of_y c) i m.coordinates)) _
        (record { polynomial = entry (polynomials k).ops (degree_of_y c) i m.coordinates; value = refl }) (t.has i l))))

    to_supported : (L : FunctionOf c → Type 0) → IsModule (ring_of c).ops (IsPolynomial c) L → IsSupportedAt c p L
        → SupportedAt (ring_of c) (HasPolynomialCoordinates c) (of_poly c p) L
    to_supported L 𝓛 t = record { exponent = t.exponent; has = all_of L 𝓛 t; within = t.within }

    of_supported : (L : FunctionOf c → Type 0) → SupportedAt (ring_of c) (HasPolynomialCoordinates c) (of_poly c p) L
        → IsSupportedAt c p L
    of_supported L t = record {
      exponent = t.exponent;
      has = λ i l. t.has _ (power_in (ring_of c) (HasPolynomialCoordinates c) coordinates_ring (y_of c) y_coordinates
          i);
      within = t.within;
    }

    pub coordinates_supported : IsSupportedAt c p (HasPolynomialCoordinates c)
    coordinates_supported = record {
      exponent = 0;
      has = λ i l. subst W (sym (one_mul (ring_of c) _))
          (power_in (ring_of c) (HasPolynomialCoordinates c) coordinates_ring (y_of c) y_coordinates i);
      within = λ z m. subst W (sym (one_mul (ring_of c) z)) m;
    }

    -- with what a power of p takes k[x][y] into, and generators with powers of p as denominators
    pub supported_of_generators : (L : FunctionOf c → Type 0) (𝓛 : IsLattice c L) (a : ℕ)
        → ((z : FunctionOf c) → HasPolynomialCoordinates c z → L (power a ⊗ z))
        → All (HasPowerDenominator c p) 𝓛.generators → IsSupportedAt c p L
    supported_of_generators L 𝓛 a has poles = of_supported L (record {
      exponent = a + b.0;
      has = λ z m. raised_left L (lattice_module c L 𝓛) a b.0 z (has z m);
      within = λ z m.
          raised W 𝓦 a b.0 z
          (span_least (ring_of c) (IsPolynomial c) 𝓢 (λ y. W (power b.0 ⊗ y))
          (quotient_module (ring_of c) (IsPolynomial c) W 𝓦 (power b.0)) 𝓛.generators b.1 z
          ((𝓛.spanned z).0 m));
    })
      where
        bound : (gs : List (FunctionOf c)) → All (HasPowerDenominator c p) gs → (b : ℕ)
            × All (λ z. HasPolynomialCoordinates c (power b ⊗ z)) gs
        bound [] m = (0, All-nil _)
        bound (g ∷ gs) m =
            let d = All-head (HasPowerDenominator c p) g gs m in
            let r = bound gs (All-tail (HasPowerDenominator c p) g gs m) in (
              d.exponent + r.0,
              All-cons (λ z. W (power (d.exponent + r.0) ⊗ z)) g gs (raised_left W 𝓦 d.exponent r.0 g d.cleared)
                  (All-weaker (λ z. W (power r.0 ⊗ z)) (λ z. W (power (d.exponent + r.0) ⊗ z))
                  (λ z n. raised W 𝓦 d.exponent r.0 z n) gs r.1),
            )

        b : (b : ℕ) × All (λ z. HasPolynomialCoordinates c (power b ⊗ z)) 𝓛.generators
        b = bound 𝓛.generators poles

    -- between two modules supported at p
    pub between_supported : (L M K : FunctionOf c → Type 0) → IsModule (ring_of c).ops (IsPolynomial c) L
        → IsModule (ring_of c).ops (IsPolynomial c) M
        → IsModule (ring_of c).ops (IsPolynomial c) K → IsSupportedAt c p L → IsSupportedAt c p K
        → ((z : FunctionOf c) → L z → M z) → ((z : FunctionOf c) → M z → K z) → IsSupportedAt c p M
    between_supported L M K 𝓛 𝓜 𝓚 l n f g =
        of_supported M
        (supported_between (ring_of c) (IsPolynomial c) 𝓢 (IsPrimeTo c p) P 𝓝 W coordinates_ring
        polynomial_coordinates L M K 𝓜 (to_supported L 𝓛 l) (to_supported K 𝓚 n) f g)

    -- the multiples by u, where powers of p take u and its inverse v to polynomials
    pub multiple_supported : (L : FunctionOf c → Type 0) → IsModule (ring_of c).ops (IsPolynomial c) L
        → IsSupportedAt c p L → (n : ℕ) (u v : FunctionOf c) → u ⊗ v ≡ 𝟙
        → IsPolynomial c (power n ⊗ u) → IsPolynomial c (power n ⊗ v) → IsSupportedAt c p (Multiple (ring_of c).ops u L)
    multiple_supported L 𝓛 t n u v inverse u_in v_in = of_supported (Multiple (ring_of c).ops u L) (record {
      exponent = n + t.exponent;
      has = λ z m. record {
        quotient = (power n ⊗ v) ⊗ (power t.exponent ⊗ z);
        quotient_in = 𝓛.scale_in _ _ v_in (all_of L 𝓛 t z m);
        is = ap (λ x. x ⊗ z) (pow_add (ring_of c) P n t.exponent) ∙ moved (power n) (power t.exponent) u v z inverse;
      };
      within = λ z m.
          subst W (sym (ap₂ (λ x y. x ⊗ y) (pow_add (ring_of c) P n t.exponent) m.is
          ∙ turned (power n) (power t.exponent) u m.quotient))
          (𝓦.scale_in _ _ u_in (t.within m.quotient m.quotient_in));
    })
      where
        moved : (a b u v z : FunctionOf c) → u ⊗ v ≡ 𝟙 → a ⊗ b ⊗ z ≡ u ⊗ ((a ⊗ v) ⊗ (b ⊗ z))
        moved a b u v z e =
            sym (from_one (ring_of c) (a ⊗ b ⊗ z) e
            (ring (ring_of c) (a ∷ b ∷ u ∷ v ∷ z ∷ []) λ q i. simp (reads, q, i 0, i 1, i 2, i 3, i 4)
            (q.equal _ _ refl)))

        turned : (a b u z : FunctionOf c) → a ⊗ b ⊗ (u ⊗ z) ≡ (a ⊗ u) ⊗ (b ⊗ z)
        turned a b u z =
            ring (ring_of c) (a ∷ b ∷ u ∷ z ∷ []) λ q i. simp (reads, q, i 0, i 1, i 2, i 3) (q.equal _ _ refl)

    module _ (A B : FunctionOf c → Type 0) (𝓐 : IsLattice c A) (𝓑 : IsLattice c B) (a : IsSupportedAt c p A)
        (b : IsSupportedAt c p B) where
      pub sum_supported : IsSupportedAt c p (IsSum (space_ops c) A B)
      sum_supported = of_supported (IsSum (space_ops c) A B) (record {
        exponent = a.exponent + b.exponent;
        has = λ z m. record {
          left = power (a.exponent + b.exponent) ⊗ z;
          left_in =
              raised_left A (lattice_module c A 𝓐) a.exponent b.exponent z (all_of A (lattice_module c A 𝓐) a z m);
          right = 𝟘;
          right_in = (lattice_module c B 𝓑).zero_in;
          is = sym ((ring_of c).add_zero _);
        };
        within = λ z m.
            subst W (sym (ap (λ x. power (a.exponent + b.exponent) ⊗ x) m.is ∙ (ring_of c).mul_add _ _ _))
            (𝓦.sum_in _ _ (raised_left W 𝓦 a.exponent b.exponent m.left (a.within m.left m.left_in))
            (raised W 𝓦 a.exponent b.exponent m.right (b.within m.right m.right_in)));
      })

      pub product_supported : IsSupportedAt c p (Product (ring_of c).ops A B)
      product_supported =
          of_supported (Product (ring_of c).ops A B)
          (supported_product (ring_of c) (IsPolynomial c) 𝓢 (IsPrimeTo c p) P 𝓝 W coordinates_ring
          polynomial_coordinates A B (lattice_module c A 𝓐)
          (to_supported A (lattice_module c A 𝓐) a) (to_supported B (lattice_module c B 𝓑) b))

      pub colon_supported : IsSupportedAt c p (Colon (ring_of c).ops A B)
      colon_supported =
          of_supported (Colon (ring_of c).ops A B)
          (supported_colon (ring_of c) (IsPolynomial c) 𝓢 (IsPrimeTo c p) P 𝓝 W coordinates_ring
          polynomial_coordinates A B
          (to_supported A (lattice_module c A 𝓐) a) (to_supported B (lattice_module c B 𝓑) b))

    -- a module supported at p is what it is locally, among what has powers of p as denominators
    module _ (L : FunctionOf c → Type 0) (𝓛 : IsModule (ring_of c).ops (IsPolynomial c) L)
        (t : IsSupportedAt c p L) where
      pub local_members : (z : FunctionOf c) → L z ↔ (HasPowerDenominator c p z × IsLocallyIn c p L z)
      local_members z = (
        λ m. (
          record { exponent = t.exponent; cleared = t.within z m },
          record { factor = 𝟙; factor_in = 𝓝.one_in; multiple_in = subst L (sym (one_mul (ring_of c) z)) m },
        ),
        λ m.
            two_denominators (ring_of c) (IsPolynomial c) 𝓢 (IsPrimeTo c p) P 𝓝 L 𝓛 m.1.factor z
            (t.exponent + m.0.exponent) m.1.factor_in m.1.multiple_in
            (subst L (sym (twice t.exponent m.0.exponent z)) (all_of L 𝓛 t _ m.0.cleared)),
      )

      -- membership up to factors prime to p is membership of one multiple
      pub local_member : (z u : FunctionOf c) → IsPrimeTo c p u → HasPowerDenominator c p (u ⊗ z)
          → IsLocallyIn c p L z ↔ L (u ⊗ z)
      local_member z u u_in d = (
        λ m.
            (local_members (u ⊗ z)).1 (
              d,
              record {
                factor = m.factor;
                factor_in = m.factor_in;
                multiple_in =
                    subst L (mul_left_comm (ring_of c) u m.factor z) (𝓛.scale_in u _ (𝓝.within u u_in) m.multiple_in);
              },
            ),
        λ m. record { factor = u; factor_in = u_in; multiple_in = m },
      )

    module _ (O : FunctionOf c → Type 0) (𝓞 : IsOrder c O) (t : IsSupportedAt c p O) where
      abbrev 𝓜 : IsModule (ring_of c).ops (IsPolynomial c) O
      𝓜 = lattice_module c O 𝓞.lattice

      polynomial_member : (s : FunctionOf c) → IsPolynomial c s → O s
      polynomial_member s m = subst O ((ring_of c).mul_one s) (𝓜.scale_in s 𝟙 m 𝓞.ring.one_in)

      p_member : O (of_poly c p)
      p_member = polynomial_member _ (record { polynomial = p; value = refl })

      -- the radical at p
      pub radical_supported : IsSupportedAt c p (Radical (ring_of c).ops O (of_poly c p))
      radical_supported = of_supported (Radical (ring_of c).ops O P) (record {
        exponent = suc t.exponent;
        has = λ z m.
            p_in_radical (ring_of c) O 𝓞.ring P p_member _
            (record {
              quotient = power t.exponent ⊗ z;
              quotient_in = all_of O 𝓜 t z m;
              is = (ring_of c).mul_assoc _ _ z;
            });
        within =
            λ z m. subst W (sym ((ring_of c).mul_assoc P _ z))
            (𝓦.scale_in P _ (record { polynomial = p; value = refl }) (t.within z m.within));
      })

      -- the integral functions that powers of p take into O
      pub taken_supported : ¬ (discriminant c ≡ (polynomials k).𝟘) → IsSupportedAt c p (TakenByPowers c p O)
      taken_supported some =
          supported_of_generators (TakenByPowers c p O) 𝓣 t.exponent
          (λ z m. record {
            in_Int = order_integral c O 𝓞 _ (all_of O 𝓜 t z m);
            exponent = 0;
            inside = subst O (sym (one_mul (ring_of c) _)) (all_of O 𝓜 t z m);
          })
          (All-weaker (TakenByPowers c p O) (HasPowerDenominator c p)
          (λ z m. record {
            exponent = t.exponent + m.exponent;
            cleared = subst W (sym (twice t.exponent m.exponent z)) (t.within _ m.inside);
          })
          𝓣.generators (lattice_generators c (TakenByPowers c p O) 𝓣))
        where
          𝓣 : IsLattice c (TakenByPowers c p O)
          𝓣 = (larger_order c p h some O 𝓞).lattice
