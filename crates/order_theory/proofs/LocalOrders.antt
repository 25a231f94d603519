-- Lattices and orders at an irreducible polynomial p: what is prime to p, denominators, and the order of all integral
-- functions that powers of p take into a given one.
use Rattle.std.proofs.Common.{◌≡◌, ℕ, zero, suc, ◌+◌, inl, inr, refl, sym, ◌∙◌, ap, ap₂, subst, arith, ◌↔◌}
use Rattle.ring_lemmas.specs.Ring.{pow}
use Rattle.ring_theory.specs.Subsets.{IsSubring, IsModule}
use Rattle.ring_theory.specs.Local.{PrimeTo, Locally}
use Rattle.ring_lemmas.proofs.Ring.{pow_add, mul_zero, mul_neg, mul_mul, one_mul}
use Rattle.ring_theory.proofs.Local.{two_denominators}
use Rattle.prime_theory.specs.Orders.{MaximalAt, Denominator, Enlarged}
use Rattle.prime_theory.proofs.IntegralRing.{integral_of_order, integral_of_stable}
use Rattle.prime_theory.proofs.Maximal.{maximal_iff_locally}
use Rattle.linear_theory.specs.Euclidean.{IsDivisorIn}
use Rattle.linear_theory.proofs.Euclid.{bezout, order_at}
use Rattle.ff_fields.specs.Field.{CodeField}
use Rattle.ff_poly.specs.Words.{IsIrreducibleList}
use Rattle.ff_poly.specs.Polynomials.{Polynomial, polynomials, codes_of}
use Rattle.function_field.specs.declared.side.Side.TheVariants.{Finite}
use Rattle.function_field.specs.Places.{IsIntegralAt}
use Rattle.function_field.specs.Functions.{Equation, FunctionOf, ring_of, of_poly, IsPolynomial, setting_of}
use Rattle.function_field.specs.Discriminant.{discriminant}
use Rattle.function_field.proofs.ScalarRings.{polynomials_subring, of_poly_one}
use Rattle.places_theory.specs.Orders.{IsOrderAt}
use Rattle.places_theory.proofs.YRoot.{poly_hom}
use Rattle.polynomial_theory.proofs.Division.{euclidean}
use Rattle.polynomial_theory.proofs.Irreducible.{irreducible, prime}
use Rattle.lattice_theory.specs.Lattices.{IsLattice}
use Rattle.order_theory.specs.Orders.{IsOrder, IsPrimeTo}
use Rattle.lattice_theory.proofs.Lattices.{lattice_module, lattice_decided}
use Rattle.lattice_theory.proofs.Between.{lattice_between}
use Rattle.lattice_theory.proofs.Operations.{common_factor, polynomial_of, inverse_of}
use Rattle.order_theory.proofs.IntegralLattice.{integral_subring, integral_lattice, integral_module}

module _ {k : CodeField} (c : Equation k) where
  infixl 65 ◌⊕◌
  infixl 70 ◌⊗◌
  infixr 80 ⊖◌
  open ring_of c use {𝟘, 𝟙, ◌⊕◌, ◌⊗◌, ⊖◌}

  𝓢 : IsSubring (ring_of c).ops (IsPolynomial c)
  𝓢 = polynomials_subring c

  abbrev pub Int : FunctionOf c → Type 0
  Int = IsIntegralAt (setting_of c) Finite

  pub power_value : (a : Polynomial k) (n : ℕ) → of_poly c (pow (polynomials k).ops a n)
      ≡ pow (ring_of c).ops (of_poly c a) n
  power_value a zero = (poly_hom c).𝟙
  power_value a (suc n) = (poly_hom c).mul a _ ∙ ap (λ x. of_poly c a ⊗ x) (power_value a n)

  -- the members of an order, and what takes a lattice into itself, are integral
  pub order_integral : (O : FunctionOf c → Type 0) → IsOrder c O → (z : FunctionOf c) → O z → Int z
  order_integral O 𝓞 z h =
      integral_of_order (ring_of c) (IsPolynomial c) 𝓢 O 𝓞.ring 𝓞.lattice.generators (λ z. (𝓞.lattice.spanned z).0)
      (λ z. (𝓞.lattice.spanned z).1) z h

  -- and an order has the polynomials
  pub order_polynomials : (O : FunctionOf c → Type 0) → IsOrder c O → (s : FunctionOf c) → IsPolynomial c s → O s
  order_polynomials O 𝓞 s m =
      subst O ((ring_of c).mul_one s) ((lattice_module c O 𝓞.lattice).scale_in s 𝟙 m 𝓞.ring.one_in)

  pub stable_integral : (L : FunctionOf c → Type 0) → IsLattice c L → (z : FunctionOf c)
      → ((y : FunctionOf c) → L y → L (z ⊗ y)) → Int z
  stable_integral L 𝓛 z f =
      let d = polynomial_of c L 𝓛 in
      let u = inverse_of c d.0 d.1 in
      integral_of_stable (ring_of c) (IsPolynomial c) 𝓢 𝓛.generators (of_poly c d.0) u.0 z
      ((ring_of c).mul_comm _ _ ∙ u.1) ((𝓛.spanned _).0 d.2)
      (λ y h. (𝓛.spanned _).0 (f y ((𝓛.spanned y).1 h)))

  module _ (p : Polynomial k) (h : IsIrreducibleList k.ops (codes_of k p)) where
    not_one : ¬ IsDivisorIn (polynomials k).ops p (polynomials k).𝟙
    not_one d = (irreducible k p h).nonunit (d.0, sym d.1)

    pub prime_to : PrimeTo (ring_of c).ops (IsPolynomial c) (IsPrimeTo c p) (of_poly c p)
    prime_to = record {
      p_in = record { polynomial = p; value = refl };
      within = λ w m. record { polynomial = m.polynomial; value = m.value };
      one_in = record { polynomial = (polynomials k).𝟙; not_divided = not_one; value = of_poly_one c };
      product_in = λ a b m n. record {
        polynomial = (polynomials k).◌⊗◌ m.polynomial n.polynomial;
        not_divided =
            λ d. elim (prime k p h m.polynomial n.polynomial d) [ inl e ↦ m.not_divided e | inr e ↦ n.not_divided e ];
        value = ap₂ ◌⊗◌ m.value n.value ∙ sym ((poly_hom c).mul _ _);
      };
      comaximal = λ w m. let b = bezout (euclidean k) p (irreducible k p h) m.polynomial m.not_divided in record {
        left = of_poly c b.left;
        left_in = record { polynomial = b.left; value = refl };
        right = of_poly c b.right;
        right_in = record { polynomial = b.right; value = refl };
        is =
            ap₂ ◌⊕◌ (ap (λ x. of_poly c b.left ⊗ x) m.value ∙ sym ((poly_hom c).mul _ _)) (sym ((poly_hom c).mul _ _))
            ∙ sym ((poly_hom c).add _ _) ∙ ap (of_poly c) b.is ∙ (poly_hom c).𝟙;
      };
    }

    -- a polynomial other than 0 is a power of p times one that is prime to p
    pub record SplitAt (a : Polynomial k) : Type 0 where
      pub exponent : ℕ
      pub cofactor : FunctionOf c
      pub cofactor_in : IsPrimeTo c p cofactor
      pub is : of_poly c a ≡ pow (ring_of c).ops (of_poly c p) exponent ⊗ cofactor

    pub split_at : (a : Polynomial k) → ¬ (a ≡ (polynomials k).𝟘) → SplitAt a
    split_at a some =
        let o = order_at (euclidean k) p (irreducible k p h) a some in
        record {
          exponent = o.order;
          cofactor = of_poly c o.cofactor;
          cofactor_in = record { polynomial = o.cofactor; not_divided = o.cofactor_free; value = refl };
          is = ap (of_poly c) o.is ∙ (poly_hom c).mul _ _ ∙ ap (λ x. x ⊗ of_poly c o.cofactor) (power_value p o.order);
        }

    -- each function has a denominator at p in a lattice
    pub denominator : (L : FunctionOf c → Type 0) → IsLattice c L → (z : FunctionOf c)
        → Denominator (ring_of c).ops (IsPrimeTo c p) L (of_poly c p) z
    denominator L 𝓛 z =
        let f = 𝓛.full z in
        let s = split_at f.factor f.some in
        record {
          exponent = s.exponent;
          cofactor = s.cofactor;
          cofactor_in = s.cofactor_in;
          multiple_in = subst (λ x. L (x ⊗ z)) s.is f.multiple_in;
        }

    -- an order is maximal at p exactly where it has each integral function up to a factor prime to p
    pub maximal_iff : (O : FunctionOf c → Type 0) → IsLattice c O
        → MaximalAt (ring_of c).ops (of_poly c p) Int O
        ↔ ((z : FunctionOf c) → Int z → Locally (ring_of c).ops (IsPrimeTo c p) O z)
    maximal_iff O 𝓞 =
        maximal_iff_locally (ring_of c) (IsPolynomial c) 𝓢 (IsPrimeTo c p) (of_poly c p) prime_to Int O
        (lattice_module c O 𝓞)
        (λ w z m n. (integral_module c).scale_in w z (prime_to.within w m) n) (λ z m. denominator O 𝓞 z)

    -- an order that is maximal at p has each integral function up to a factor prime to p
    pub maximal_order_at : (O : FunctionOf c → Type 0) → IsOrder c O → MaximalAt (ring_of c).ops (of_poly c p) Int O
        → IsOrderAt (setting_of c) Finite (IsPolynomial c) (IsPrimeTo c p) (of_poly c p) O
    maximal_order_at O 𝓞 maximal = record {
      base_ring = polynomials_subring c;
      prime_to = prime_to;
      ring = 𝓞.ring;
      base = order_polynomials O 𝓞;
      integral = order_integral O 𝓞;
      locally = (maximal_iff O 𝓞.lattice).0 maximal;
    }

    -- they are maximal at p
    pub larger_maximal : (O : FunctionOf c → Type 0)
        → MaximalAt (ring_of c).ops (of_poly c p) Int (Enlarged (ring_of c) Int (of_poly c p) O)
    larger_maximal O z n z_int m = record {
      in_Int = z_int;
      exponent = m.exponent + n;
      inside =
          subst O (sym ((ring_of c).mul_assoc _ _ z)
          ∙ ap (λ x. x ⊗ z) (sym (pow_add (ring_of c) (of_poly c p) m.exponent n))) m.inside;
    }

    -- the integral functions that powers of p take into an order
    module _ (some : ¬ (discriminant c ≡ (polynomials k).𝟘)) (O : FunctionOf c → Type 0) (𝓞 : IsOrder c O) where
      abbrev Larger : FunctionOf c → Type 0
      Larger = Enlarged (ring_of c) Int (of_poly c p) O

      𝓜 : IsModule (ring_of c).ops (IsPolynomial c) O
      𝓜 = lattice_module c O 𝓞.lattice

      power_poly : (n : ℕ) → IsPolynomial c (pow (ring_of c).ops (of_poly c p) n)
      power_poly n = record { polynomial = pow (polynomials k).ops p n; value = sym (power_value p n) }

      -- a higher power does as well
      raised : (m n : ℕ) (z : FunctionOf c) → O (pow (ring_of c).ops (of_poly c p) n ⊗ z)
          → O (pow (ring_of c).ops (of_poly c p) (m + n) ⊗ z)
      raised m n z h' =
          subst O (sym ((ring_of c).mul_assoc _ _ z) ∙ ap (λ x. x ⊗ z) (sym (pow_add (ring_of c) (of_poly c p) m n)))
          (𝓜.scale_in _ _ (power_poly m) h')

      raised_right : (m n : ℕ) (z : FunctionOf c) → O (pow (ring_of c).ops (of_poly c p) m ⊗ z)
          → O (pow (ring_of c).ops (of_poly c p) (m + n) ⊗ z)
      raised_right m n z h' =
          subst (λ l. O (pow (ring_of c).ops (of_poly c p) l ⊗ z)) (let q : n + m ≡ m + n = omega arith in q)
          (raised n m z h')

      larger_ring : IsSubring (ring_of c).ops Larger
      larger_ring = record {
        zero_in =
            record {
              in_Int = (integral_subring c).zero_in;
              exponent = 0;
              inside = subst O (sym (mul_zero (ring_of c) _)) 𝓞.ring.zero_in;
            };
        one_in =
            record {
              in_Int = (integral_subring c).one_in;
              exponent = 0;
              inside = subst O (sym ((ring_of c).mul_one _)) 𝓞.ring.one_in;
            };
        sum_in = λ a b m n. record {
          in_Int = (integral_subring c).sum_in a b m.in_Int n.in_Int;
          exponent = m.exponent + n.exponent;
          inside =
              subst O (sym ((ring_of c).mul_add _ a b))
              (𝓞.ring.sum_in _ _ (raised_right m.exponent n.exponent a m.inside)
              (raised m.exponent n.exponent b n.inside));
        };
        neg_in = λ a m. record {
          in_Int = (integral_subring c).neg_in a m.in_Int;
          exponent = m.exponent;
          inside = subst O (sym (mul_neg (ring_of c) _ a)) (𝓞.ring.neg_in _ m.inside);
        };
        product_in = λ a b m n. record {
          in_Int = (integral_subring c).product_in a b m.in_Int n.in_Int;
          exponent = m.exponent + n.exponent;
          inside =
              subst O (mul_mul (ring_of c) _ a _ b
              ∙ ap (λ x. x ⊗ (a ⊗ b)) (sym (pow_add (ring_of c) (of_poly c p) m.exponent n.exponent)))
              (𝓞.ring.product_in _ _ m.inside n.inside);
        };
      }

      d : (a : Polynomial k) × (¬ (a ≡ (polynomials k).𝟘)) × ((z : FunctionOf c) → Int z → O (of_poly c a ⊗ z))
      d = common_factor c O 𝓞.lattice Int (integral_lattice c some)

      s : SplitAt d.0
      s = split_at d.0 d.1

      -- one power of p is enough
      enough : (z : FunctionOf c) → Larger z → O (pow (ring_of c).ops (of_poly c p) s.exponent ⊗ z)
      enough z m =
          two_denominators (ring_of c) (IsPolynomial c) 𝓢 (IsPrimeTo c p) (of_poly c p) prime_to O 𝓜 s.cofactor
          (pow (ring_of c).ops (of_poly c p) s.exponent ⊗ z) m.exponent s.cofactor_in
          (subst O (ap (λ x. x ⊗ z) (s.is ∙ (ring_of c).mul_comm _ _) ∙ (ring_of c).mul_assoc _ _ z) (d.2 z m.in_Int))
          (subst O (ap (λ x. x ⊗ z) (pow_add (ring_of c) (of_poly c p) m.exponent s.exponent)
          ∙ (ring_of c).mul_assoc _ _ z)
          (raised_right m.exponent s.exponent z m.inside))

      larger_decided : (z : FunctionOf c) → Int z → Dec (Larger z)
      larger_decided z z_int = go (lattice_decided c O 𝓞.lattice (pow (ring_of c).ops (of_poly c p) s.exponent ⊗ z))
        where
          go : Dec (O (pow (ring_of c).ops (of_poly c p) s.exponent ⊗ z)) → Dec (Larger z)
          go (yes m) = yes (record { in_Int = z_int; exponent = s.exponent; inside = m })
          go (no n) = no (λ m. n (enough z m))

      pub larger_order : IsOrder c Larger
      larger_order = record {
        lattice =
            lattice_between c Larger Int (integral_lattice c some) larger_decided O 𝓞.lattice
            (record {
              zero_in = larger_ring.zero_in;
              sum_in = larger_ring.sum_in;
              scale_in =
                  λ s a s_in m. larger_ring.product_in s a
                  (from_order s (subst O ((ring_of c).mul_one s) (𝓜.scale_in s 𝟙 s_in 𝓞.ring.one_in))) m;
            })
            from_order (λ z m. m.in_Int);
        ring = larger_ring;
      }
        where
          from_order : (z : FunctionOf c) → O z → Larger z
          from_order z m =
              record { in_Int = order_integral O 𝓞 z m; exponent = 0; inside = subst O (sym (one_mul (ring_of c) z)) m }
