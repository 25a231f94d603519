-- Lattices out of lattices: k[x][y], multiples, sums, products, intersections, colons.
use Rattle.std.proofs.Common.{◌≡◌, All, List, [], ◌∷◌, ◌++◌, map, refl, sym, ◌∙◌, ap, ap₂, subst}
use Rattle.std.proofs.lemmas.List.Elements.{All-nil, All-cons, All-append, All-weaker, All-map}
use Rattle.ring_lemmas.specs.Ring.{CommRing}
use Rattle.ring_theory.specs.Subsets.{IsSubring, IsModule, Span, Product, Colon, products}
use Rattle.ring_lemmas.proofs.Ring.{one_mul, zero_add, mul_zero, mul_left_comm, add_add, product_not_zero}
use Rattle.ring_theory.proofs.Subsets.{span_least, span_module, span_multiples, span_append_left, span_append_right, product_of_spans, product_member, colon_module}
use Rattle.prime_theory.specs.Ideals.{Multiple}
use Rattle.prime_theory.proofs.Products.{product_monotone}
use Rattle.linear_theory.specs.Basis.{IsSum}
use Rattle.places_theory.proofs.SamePlaces.{decide_all}
use Rattle.places_theory.proofs.YRoot.{poly_hom, over_times_den, den_times, at_y_plain}
use Rattle.popov_theory.proofs.Dimension.{units, in_units}
use Rattle.trace_theory.specs.Traces.{HasPolynomialCoordinates}
use Rattle.trace_theory.proofs.FunctionTraces.{as_row}
use Rattle.ff_fields.specs.Code.{code_field}
use Rattle.lattice_theory.proofs.Parts.{module_of, part, span_of_rows, rows_of_span}
use Rattle.ff_fields.specs.Field.{CodeField}
use Rattle.ff_poly.specs.Polynomials.{Polynomial, polynomials, polynomials_domain}
use Rattle.function_field.specs.Functions.{Equation, FunctionOf, ring_of, of_poly, row_of, over, IsPolynomial}
use Rattle.function_field.proofs.ScalarRings.{polynomials_subring, of_poly_one}
use Rattle.function_field.specs.Indices.{space_ops}
use Rattle.lattice_theory.specs.Lattices.{IsLattice}
use Rattle.lattice_theory.proofs.Lattices.{lattice_module, lattice_generators, lattice_decided}
use Rattle.lattice_theory.proofs.Between.{lattice_between}

module _ {A : Type 0} (R : CommRing A) (S L : A → Type 0) (𝓛 : IsModule R.ops S L) (u : A) where
  infixl 65 ◌⊕◌
  infixl 70 ◌⊗◌
  infixr 80 ⊖◌
  open R use {𝟘, 𝟙, ◌⊕◌, ◌⊗◌, ⊖◌}

  -- the multiples of a module by u, and what u takes into it
  pub multiple_module : IsModule R.ops S (Multiple R.ops u L)
  multiple_module = record {
    zero_in = record { quotient = 𝟘; quotient_in = 𝓛.zero_in; is = sym (mul_zero R u) };
    sum_in = λ a b h h'. record {
      quotient = h.quotient ⊕ h'.quotient;
      quotient_in = 𝓛.sum_in _ _ h.quotient_in h'.quotient_in;
      is = ap₂ ◌⊕◌ h.is h'.is ∙ sym (R.mul_add u _ _);
    };
    scale_in = λ s a s_in h. record {
      quotient = s ⊗ h.quotient;
      quotient_in = 𝓛.scale_in s _ s_in h.quotient_in;
      is = ap (λ x. s ⊗ x) h.is ∙ mul_left_comm R s u _;
    };
  }

  pub quotient_module : IsModule R.ops S (λ z. L (u ⊗ z))
  quotient_module = record {
    zero_in = subst L (sym (mul_zero R u)) 𝓛.zero_in;
    sum_in = λ a b h h'. subst L (sym (R.mul_add u a b)) (𝓛.sum_in _ _ h h');
    scale_in = λ s a s_in h. subst L (mul_left_comm R s u a) (𝓛.scale_in s _ s_in h);
  }

module _ {k : CodeField} (c : Equation k) where
  infixl 65 ◌⊕◌
  infixl 70 ◌⊗◌
  infixr 80 ⊖◌
  open ring_of c use {𝟘, 𝟙, ◌⊕◌, ◌⊗◌, ⊖◌}

  abbrev Spanned : List (FunctionOf c) → FunctionOf c → Type 0
  Spanned gs = Span (ring_of c).ops (IsPolynomial c) gs

  𝓢 : IsSubring (ring_of c).ops (IsPolynomial c)
  𝓢 = polynomials_subring c

  -- a polynomial other than 0 has an inverse in F
  pub inverse_of : (a : Polynomial k) → ¬ (a ≡ (polynomials k).𝟘) → (u : FunctionOf c) × (of_poly c a ⊗ u ≡ 𝟙)
  inverse_of a n =
      (over c (row_of c (polynomials k).𝟙) a n, over_times_den c (polynomials k).𝟙 a n ∙ sym (of_poly_one c))

  polynomial_in : (a : Polynomial k) → IsPolynomial c (of_poly c a)
  polynomial_in a = record { polynomial = a; value = refl }

  module _ (L : FunctionOf c → Type 0) (𝓛 : IsLattice c L) where
    -- a lattice has a polynomial other than 0
    pub polynomial_of : (a : Polynomial k) × (¬ (a ≡ (polynomials k).𝟘)) × L (of_poly c a)
    polynomial_of = let f = 𝓛.full 𝟙 in (f.factor, f.some, subst L ((ring_of c).mul_one _) f.multiple_in)

    -- the multiples by an invertible function
    pub multiple_lattice : (u v : FunctionOf c) → u ⊗ v ≡ 𝟙 → IsLattice c (Multiple (ring_of c).ops u L)
    multiple_lattice u v e = record {
      generators = map (◌⊗◌ u) 𝓛.generators;
      spanned =
          λ z. (
            to z,
            span_least (ring_of c) (IsPolynomial c) 𝓢 (Multiple (ring_of c).ops u L) module_is
                (map (◌⊗◌ u) 𝓛.generators) all_in z,
          );
      full = λ z. let f = 𝓛.full (v ⊗ z) in record {
        factor = f.factor;
        some = f.some;
        multiple_in =
            record {
              quotient = of_poly c f.factor ⊗ (v ⊗ z);
              quotient_in = f.multiple_in;
              is = moved (of_poly c f.factor) z;
            };
      };
    }
      where
        moved : (a z : FunctionOf c) → a ⊗ z ≡ u ⊗ (a ⊗ (v ⊗ z))
        moved a z =
            ap (λ x. a ⊗ x) (sym (one_mul (ring_of c) z) ∙ ap (λ x. x ⊗ z) (sym e) ∙ (ring_of c).mul_assoc u v z)
            ∙ mul_left_comm (ring_of c) a u (v ⊗ z)

        module_is : IsModule (ring_of c).ops (IsPolynomial c) (Multiple (ring_of c).ops u L)
        module_is = multiple_module (ring_of c) (IsPolynomial c) L (lattice_module c L 𝓛) u

        to : (z : FunctionOf c) → Multiple (ring_of c).ops u L z → Spanned (map (◌⊗◌ u) 𝓛.generators) z
        to z h =
            subst (Spanned (map (◌⊗◌ u) 𝓛.generators)) (sym h.is)
            (span_multiples (ring_of c) (IsPolynomial c) 𝓢 u 𝓛.generators h.quotient
            ((𝓛.spanned h.quotient).0 h.quotient_in))

        all_in : All (Multiple (ring_of c).ops u L) (map (◌⊗◌ u) 𝓛.generators)
        all_in =
            All-map (Multiple (ring_of c).ops u L) (◌⊗◌ u) 𝓛.generators
            (All-weaker L (λ z. Multiple (ring_of c).ops u L (u ⊗ z))
            (λ z h. record { quotient = z; quotient_in = h; is = refl }) 𝓛.generators
            (lattice_generators c L 𝓛))

    -- one polynomial takes another lattice into it
    pub common_factor : (A : FunctionOf c → Type 0) → IsLattice c A
        → (a : Polynomial k) × (¬ (a ≡ (polynomials k).𝟘)) × ((z : FunctionOf c) → A z → L (of_poly c a ⊗ z))
    common_factor A 𝓐 = let t = for_list 𝓐.generators in (
      t.0,
      t.1,
      λ z h. span_least (ring_of c) (IsPolynomial c) 𝓢 _ (taken t.0) 𝓐.generators t.2 z
          ((𝓐.spanned z).0 h),
    )
      where
        taken : (a : Polynomial k) → IsModule (ring_of c).ops (IsPolynomial c) (λ z. L (of_poly c a ⊗ z))
        taken a = quotient_module (ring_of c) (IsPolynomial c) L (lattice_module c L 𝓛) (of_poly c a)

        for_list : (gs : List (FunctionOf c)) → (a : Polynomial k) × (¬ (a ≡ (polynomials k).𝟘))
            × All (λ z. L (of_poly c a ⊗ z)) gs
        for_list [] = ((polynomials k).𝟙, (polynomials_domain k).one_not_zero, All-nil _)
        for_list (g ∷ gs) =
            let t = for_list gs in
            let f = 𝓛.full g in (
              (polynomials k).◌⊗◌ f.factor t.0,
              product_not_zero (polynomials_domain k) f.factor t.0 f.some t.1,
              All-cons (λ z. L (of_poly c ((polynomials k).◌⊗◌ f.factor t.0) ⊗ z)) g gs
                  (subst L (swapped f.factor t.0 g)
                  ((lattice_module c L 𝓛).scale_in _ _ (polynomial_in t.0) f.multiple_in))
                  (All-weaker (λ z. L (of_poly c t.0 ⊗ z)) (λ z. L (of_poly c ((polynomials k).◌⊗◌ f.factor t.0) ⊗ z))
                  (λ z h. subst L (joined f.factor t.0 z)
                  ((lattice_module c L 𝓛).scale_in _ _ (polynomial_in f.factor) h)) gs t.2),
            )
          where
            joined : (a b : Polynomial k) (z : FunctionOf c) → of_poly c a ⊗ (of_poly c b ⊗ z)
                ≡ of_poly c ((polynomials k).◌⊗◌ a b) ⊗ z
            joined a b z = sym ((ring_of c).mul_assoc _ _ z) ∙ ap (λ x. x ⊗ z) (sym ((poly_hom c).mul a b))

            swapped : (a b : Polynomial k) (z : FunctionOf c) → of_poly c b ⊗ (of_poly c a ⊗ z)
                ≡ of_poly c ((polynomials k).◌⊗◌ a b) ⊗ z
            swapped a b z = mul_left_comm (ring_of c) _ _ z ∙ joined a b z

  -- k[x][y]
  pub polynomial_lattice : IsLattice c (HasPolynomialCoordinates c)
  polynomial_lattice = record {
    generators = map (part c one some) (units (module_of c));
    spanned = λ z. (
      λ h. subst (Spanned (map (part c one some) (units (module_of c)))) (sym h.value)
          (span_of_rows c one some (units (module_of c)) h.coordinates
          (in_units (module_of c) (code_field k) h.coordinates)),
      λ h. let t = rows_of_span c one some (units (module_of c)) z h in record { coordinates = t.0; value = t.2 },
    );
    full = λ z. let r = as_row c z in record {
      factor = r.den;
      some = r.not_zero;
      multiple_in =
          record {
            coordinates = r.num;
            value = ap (λ x. of_poly c r.den ⊗ x) r.is
                ∙ den_times c (record { num = r.num; den = r.den; den_not_zero = r.not_zero }) ∙ at_y_plain c r.num;
          };
    };
  }
    where
      one : Polynomial k
      one = (polynomials k).𝟙

      some : ¬ ((polynomials k).𝟙 ≡ (polynomials k).𝟘)
      some = (polynomials_domain k).one_not_zero

  module _ (A B : FunctionOf c → Type 0) (𝓐 : IsLattice c A) (𝓑 : IsLattice c B) where
    -- the sum
    pub sum_lattice : IsLattice c (IsSum (space_ops c) A B)
    sum_lattice = record {
      generators = 𝓐.generators ++ 𝓑.generators;
      spanned = λ z. (
        λ h.
            subst (Spanned (𝓐.generators ++ 𝓑.generators)) (sym h.is)
            ((span_module (ring_of c) (IsPolynomial c) 𝓢 (𝓐.generators ++ 𝓑.generators)).sum_in _ _
            (span_append_left (ring_of c) (IsPolynomial c) 𝓢 𝓐.generators 𝓑.generators h.left
            ((𝓐.spanned h.left).0 h.left_in))
            (span_append_right (ring_of c) (IsPolynomial c) 𝓢 𝓐.generators 𝓑.generators h.right
            ((𝓑.spanned h.right).0 h.right_in))),
        span_least (ring_of c) (IsPolynomial c) 𝓢 (IsSum (space_ops c) A B) sum_module (𝓐.generators ++ 𝓑.generators)
            (All-append (IsSum (space_ops c) A B) 𝓐.generators 𝓑.generators
            (All-weaker A (IsSum (space_ops c) A B) in_left 𝓐.generators (lattice_generators c A 𝓐))
            (All-weaker B (IsSum (space_ops c) A B) in_right 𝓑.generators (lattice_generators c B 𝓑))) z,
      );
      full = λ z. let f = 𝓐.full z in
          record { factor = f.factor; some = f.some; multiple_in = in_left _ f.multiple_in };
    }
      where
        in_left : (z : FunctionOf c) → A z → IsSum (space_ops c) A B z
        in_left z h =
            record {
              left = z;
              left_in = h;
              right = 𝟘;
              right_in = (lattice_module c B 𝓑).zero_in;
              is = sym ((ring_of c).add_zero z);
            }

        in_right : (z : FunctionOf c) → B z → IsSum (space_ops c) A B z
        in_right z h =
            record {
              left = 𝟘;
              left_in = (lattice_module c A 𝓐).zero_in;
              right = z;
              right_in = h;
              is = sym (zero_add (ring_of c) z);
            }

        sum_module : IsModule (ring_of c).ops (IsPolynomial c) (IsSum (space_ops c) A B)
        sum_module = record {
          zero_in = in_left 𝟘 (lattice_module c A 𝓐).zero_in;
          sum_in = λ u v h h'. record {
            left = h.left ⊕ h'.left;
            left_in = (lattice_module c A 𝓐).sum_in _ _ h.left_in h'.left_in;
            right = h.right ⊕ h'.right;
            right_in = (lattice_module c B 𝓑).sum_in _ _ h.right_in h'.right_in;
            is = ap₂ ◌⊕◌ h.is h'.is ∙ add_add (ring_of c) _ _ _ _;
          };
          scale_in = λ s u s_in h. record {
            left = s ⊗ h.left;
            left_in = (lattice_module c A 𝓐).scale_in s _ s_in h.left_in;
            right = s ⊗ h.right;
            right_in = (lattice_module c B 𝓑).scale_in s _ s_in h.right_in;
            is = ap (λ x. s ⊗ x) h.is ∙ (ring_of c).mul_add s _ _;
          };
        }

    -- the product
    pub product_lattice : IsLattice c (Product (ring_of c).ops A B)
    product_lattice = record {
      generators = products (ring_of c).ops 𝓐.generators 𝓑.generators;
      spanned = λ z. (
        λ h.
            (product_of_spans (ring_of c) (IsPolynomial c) 𝓢 𝓐.generators 𝓑.generators z).0
            (product_monotone (ring_of c) (IsPolynomial c) 𝓢 A B (Spanned 𝓐.generators) (Spanned 𝓑.generators)
            (span_module (ring_of c) (IsPolynomial c) 𝓢 𝓐.generators)
            (λ a. (𝓐.spanned a).0) (λ a. (𝓑.spanned a).0) z h),
        λ h.
            product_monotone (ring_of c) (IsPolynomial c) 𝓢 (Spanned 𝓐.generators) (Spanned 𝓑.generators) A B
            (lattice_module c A 𝓐)
            (λ a. (𝓐.spanned a).1) (λ a. (𝓑.spanned a).1) z
            ((product_of_spans (ring_of c) (IsPolynomial c) 𝓢 𝓐.generators 𝓑.generators z).1 h),
      );
      full = λ z. let f = 𝓐.full z in let d = polynomial_of B 𝓑 in record {
        factor = (polynomials k).◌⊗◌ f.factor d.0;
        some = product_not_zero (polynomials_domain k) f.factor d.0 f.some d.1;
        multiple_in =
            subst (Product (ring_of c).ops A B) (moved f.factor d.0 z)
            (product_member (ring_of c) (IsPolynomial c) 𝓢 A B _ _ f.multiple_in d.2);
      };
    }
      where
        moved : (a b : Polynomial k) (z : FunctionOf c) → (of_poly c a ⊗ z) ⊗ of_poly c b
            ≡ of_poly c ((polynomials k).◌⊗◌ a b) ⊗ z
        moved a b z =
            (ring_of c).mul_assoc _ z _ ∙ ap (λ x. of_poly c a ⊗ x) ((ring_of c).mul_comm z _)
            ∙ sym ((ring_of c).mul_assoc _ _ z)
            ∙ ap (λ x. x ⊗ z) (sym ((poly_hom c).mul a b))

    -- the intersection
    pub intersection_lattice : IsLattice c (λ z. A z × B z)
    intersection_lattice =
        lattice_between c (λ z. A z × B z) A 𝓐 (λ z h. by z h (lattice_decided c B 𝓑 z))
        (Multiple (ring_of c).ops (of_poly c d.0) A)
        (multiple_lattice A 𝓐 (of_poly c d.0) (inverse_of d.0 d.1).0 (inverse_of d.0 d.1).1)
        (record {
          zero_in = ((lattice_module c A 𝓐).zero_in, (lattice_module c B 𝓑).zero_in);
          sum_in = λ u v h h'. ((lattice_module c A 𝓐).sum_in u v h.0 h'.0, (lattice_module c B 𝓑).sum_in u v h.1 h'.1);
          scale_in =
              λ s u s_in h. (
                (lattice_module c A 𝓐).scale_in s u s_in h.0,
                (lattice_module c B 𝓑).scale_in s u s_in h.1,
              );
        })
        (λ z h. (
          subst A (sym h.is) ((lattice_module c A 𝓐).scale_in _ _ (polynomial_in d.0) h.quotient_in),
          subst B (sym h.is) (d.2 h.quotient h.quotient_in),
        ))
        (λ z h. h.0)
      where
        d : (a : Polynomial k) × (¬ (a ≡ (polynomials k).𝟘)) × ((z : FunctionOf c) → A z → B (of_poly c a ⊗ z))
        d = common_factor B 𝓑 A 𝓐

        by : (z : FunctionOf c) → A z → Dec (B z) → Dec (A z × B z)
        by z h (yes m) = yes (h, m)
        by z h (no n) = no (λ m. n m.1)

    -- the elements that take B into A
    pub colon_lattice : IsLattice c (Colon (ring_of c).ops A B)
    colon_lattice =
        lattice_between c (Colon (ring_of c).ops A B) (Multiple (ring_of c).ops inverse.0 A)
        (multiple_lattice A 𝓐 inverse.0 (of_poly c e.0) ((ring_of c).mul_comm _ _ ∙ inverse.1))
        (λ z h. by z (decide_all (λ b. A (z ⊗ b)) (λ b. lattice_decided c A 𝓐 (z ⊗ b)) 𝓑.generators))
        (Multiple (ring_of c).ops (of_poly c d.0) A)
        (multiple_lattice A 𝓐 (of_poly c d.0) (inverse_of d.0 d.1).0 (inverse_of d.0 d.1).1)
        (colon_module (ring_of c) (IsPolynomial c) 𝓢 A B (lattice_module c A 𝓐))
        (λ z h y y_in.
        subst A (sym ((ring_of c).mul_assoc _ _ y) ∙ ap (λ x. x ⊗ y) (sym h.is))
        (d.2 (h.quotient ⊗ y) (product_member (ring_of c) (IsPolynomial c) 𝓢 A B h.quotient y h.quotient_in y_in)))
        (λ z h. record {
          quotient = z ⊗ of_poly c e.0;
          quotient_in = h (of_poly c e.0) e.2;
          is = sym (mul_left_comm (ring_of c) inverse.0 z (of_poly c e.0)
              ∙ ap (λ x. z ⊗ x) ((ring_of c).mul_comm _ _ ∙ inverse.1) ∙ (ring_of c).mul_one z);
        })
      where
        e : (a : Polynomial k) × (¬ (a ≡ (polynomials k).𝟘)) × B (of_poly c a)
        e = polynomial_of B 𝓑

        inverse : (u : FunctionOf c) × (of_poly c e.0 ⊗ u ≡ 𝟙)
        inverse = inverse_of e.0 e.1

        d : (a : Polynomial k) × (¬ (a ≡ (polynomials k).𝟘))
            × ((z : FunctionOf c) → Product (ring_of c).ops A B z → A (of_poly c a ⊗ z))
        d = common_factor A 𝓐 (Product (ring_of c).ops A B) product_lattice

        by : (z : FunctionOf c) → Dec (All (λ b. A (z ⊗ b)) 𝓑.generators) → Dec (Colon (ring_of c).ops A B z)
        by z (yes h) =
            yes (λ y y_in.
            span_least (ring_of c) (IsPolynomial c) 𝓢 (λ y. A (z ⊗ y))
            (quotient_module (ring_of c) (IsPolynomial c) A (lattice_module c A 𝓐) z) 𝓑.generators h y
            ((𝓑.spanned y).0 y_in))
        by z (no n) = no (λ h. n (All-weaker B (λ b. A (z ⊗ b)) h 𝓑.generators (lattice_generators c B 𝓑)))

    -- whether a lattice lies in another is decided
    pub lattice_within : Dec ((z : FunctionOf c) → A z → B z)
    lattice_within = go (decide_all B (lattice_decided c B 𝓑) 𝓐.generators)
      where
        go : Dec (All B 𝓐.generators) → Dec ((z : FunctionOf c) → A z → B z)
        go (yes h) =
            yes (λ z m. span_least (ring_of c) (IsPolynomial c) 𝓢 B (lattice_module c B 𝓑) 𝓐.generators h z
            ((𝓐.spanned z).0 m))
        go (no n) = no (λ f. n (All-weaker A B f 𝓐.generators (lattice_generators c A 𝓐)))
