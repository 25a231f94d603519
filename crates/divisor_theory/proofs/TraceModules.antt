-- The duals of O_fin and of O_inf under the trace are modules over these rings, and invertible.
use Rattle.std.proofs.Common.{◌≡◌, ℕ, ℤ, inl, List, [], ◌∷◌, map, All, refl, sym, ◌∙◌, ap, subst}
use Rattle.std.proofs.lemmas.List.Elements.{All-nil, All-cons, All-head, All-tail, All-map, All-weaker}
use Rattle.ring_theory.specs.Local.{PrimeTo}
use Rattle.ring_lemmas.specs.Ring.{pow}
use Rattle.ring_theory.specs.Subsets.{IsSubring, IsModule, Product}
use Rattle.ring_lemmas.proofs.Ring.{one_mul, zero_mul, mul_zero, add_mul, mul_mul, mul_left_comm}
use Rattle.ring_theory.proofs.RowMaps.{hom_zero}
use Rattle.ring_lemmas.proofs.Solver.{ring, reads}
use Rattle.ring_theory.proofs.Subsets.{product_member, product_module, span_least}
use Rattle.prime_theory.specs.Ideals.{Inverse, Invertible, IsAdditive}
use Rattle.prime_theory.proofs.Localisation.{Common, common}
use Rattle.prime_theory.proofs.Products.{product_into, additive_of_module, own_module}
use Rattle.ff_fields.specs.Field.{CodeField}
use Rattle.ff_poly.specs.Polynomials.{polynomials, polynomials_domain, x_poly}
use Rattle.function_field.specs.declared.side.Side.TheVariants.{Finite, Infinite}
use Rattle.function_field.specs.Discriminant.{discriminant}
use Rattle.function_field.specs.Places.{IsIntegralAt}
use Rattle.function_field.specs.Functions.{Equation, FunctionOf, ring_of, of_poly, trace_of, setting_of, IsPolynomial, IsFiniteAtInfinity}
use Rattle.function_field.specs.Values.{PresValue, Functions, functions, setting, equation_of}
use Rattle.function_field.proofs.OnSide.{of_poly_zero}
use Rattle.function_field.proofs.ScalarRings.{scalars_subring, polynomials_subring, finite_at_infinity_subring}
use Rattle.places_theory.proofs.PresentationMap.{presentation_map}
use Rattle.places_theory.proofs.Sides.{side_ring}
use Rattle.trace_theory.proofs.FunctionTraces.{trace_plus, trace_times}
use Rattle.lattice_theory.specs.Lattices.{IsLattice}
use Rattle.lattice_theory.proofs.Lattices.{lattice_module, lattice_generators}
use Rattle.order_theory.specs.Orders.{IsPrimeTo}
use Rattle.order_theory.proofs.IntegralLattice.{integral_lattice}
use Rattle.order_theory.proofs.InvertibleIdeals.{lattice_invertible}
use Rattle.order_theory.proofs.LocalOrders.{prime_to}
use Rattle.infinite_theory.specs.Supported.{IsLocallyIn}
use Rattle.infinite_theory.specs.InfiniteMaps.{IsInfiniteMap}
use Rattle.infinite_theory.proofs.EachEquation.{each_equation}
use Rattle.infinite_theory.proofs.InfiniteDecisions.{infinite_some}
use Rattle.infinite_theory.proofs.InfiniteTransport.{x_irreducible, infinite_map}
use Rattle.infinite_theory.proofs.PushedPlaces.{each}
use Rattle.ideal_theory.proofs.FiniteSide.{maximal_order}
use Rattle.space_theory.specs.Spaces.{IsReducedBasis}
use Rattle.space_theory.specs.TraceDuals.{TraceDual, InfiniteTraceDual, CanonicalDual}
use Rattle.space_theory.proofs.FunctionModule.{cancel}
use Rattle.space_theory.proofs.InfiniteBases.{x_to_t}
use Rattle.space_theory.proofs.LatticeBases.{lattice_of_span, span_of_lattice}
use Rattle.space_theory.proofs.TraceDuals.{duality}
use Rattle.divisor_theory.proofs.LargeDegrees.{finite_closed}
use Rattle.space_theory.proofs.Pairs.{sides_basis}
use Rattle.space_theory.proofs.RationalPart.{polynomial_rational}

module _ {k : CodeField} (c : Equation k) where
  infixl 65 ◌⊕◌
  infixl 70 ◌⊗◌
  open ring_of c use {ops, 𝟘, 𝟙, ◌⊕◌, ◌⊗◌}

  abbrev Fin : FunctionOf c → Type 0
  Fin = IsIntegralAt (setting_of c) Finite

  abbrev Inf : FunctionOf c → Type 0
  Inf = IsIntegralAt (setting_of c) Infinite

  𝓕 : IsSubring (ring_of c).ops (IsIntegralAt (setting_of c) Finite)
  𝓕 = side_ring (setting_of c) (scalars_subring c) Finite

  𝓘 : IsSubring (ring_of c).ops (IsIntegralAt (setting_of c) Infinite)
  𝓘 = side_ring (setting_of c) (scalars_subring c) Infinite

  -- the trace of a product with 0
  trace_zero : (u : FunctionOf c) → trace_of c (𝟘 ⊗ u) ≡ 𝟘
  trace_zero u =
      ap (λ z. trace_of c (z ⊗ u)) (of_poly_zero c)
      ∙ trace_times c (of_poly c (polynomials k).𝟘) u (polynomial_rational c (polynomials k).𝟘)
      ∙ ap (λ z. z ⊗ trace_of c u) (sym (of_poly_zero c)) ∙ zero_mul (ring_of c) (trace_of c u)

  -- the lattice of a reduced basis
  pub lattice_of_reduced : (I N : FunctionOf c → Type 0) (b : List (FunctionOf c)) (d : ℕ → ℤ)
      → IsReducedBasis c I N b d → IsLattice c I
  lattice_of_reduced I N b d reduced = record {
    generators = b;
    spanned =
        λ z. (
          λ h. span_of_lattice c b z ((reduced.lattice z).0 h),
          λ h. (reduced.lattice z).1 (lattice_of_span c b z h),
        );
    full = λ z.
        let q = reduced.at.coordinates z in
        record {
          factor = q.denominator;
          some = q.nonzero;
          multiple_in = (reduced.lattice _).1 (record { coefficient = q.coefficient; is = q.is });
        };
  }

  -- at the finite places
  module _ (some : ¬ (discriminant c ≡ (polynomials k).𝟘)) where
    dual_lattice : IsLattice c (TraceDual c (IsIntegralAt (setting_of c) Finite))
    dual_lattice =
        let r = sides_basis c some in
        let D = duality c some Fin Inf r.0 r.1 r.2 in
        lattice_of_reduced (TraceDual c Fin) (InfiniteTraceDual c Inf) D.basis _ D.dual

    pub finite_dual_module : IsModule (ring_of c).ops (IsIntegralAt (setting_of c) Finite)
        (TraceDual c (IsIntegralAt (setting_of c) Finite))
    finite_dual_module =
        let m = lattice_module c (TraceDual c Fin) dual_lattice in
        record {
          zero_in = m.zero_in;
          sum_in = m.sum_in;
          scale_in = λ s a s_in h.
              finite_closed c Fin Inf (λ v u i j. 𝓕.product_in v u i j) (λ v u i j. 𝓘.product_in v u i j) s a s_in h;
        }

    pub finite_dual_invertible : Invertible (ring_of c).ops (IsIntegralAt (setting_of c) Finite)
        (TraceDual c (IsIntegralAt (setting_of c) Finite))
    finite_dual_invertible =
        lattice_invertible c Fin (maximal_order c some) (TraceDual c Fin) dual_lattice finite_dual_module
        (λ p h. inl (λ z n m i. m))

  -- at infinity
  infinite_module : IsModule (ring_of c).ops (IsIntegralAt (setting_of c) Infinite)
      (InfiniteTraceDual c (IsIntegralAt (setting_of c) Infinite))
  infinite_module = record {
    zero_in = λ u u_in. subst (IsFiniteAtInfinity c) (sym (trace_zero u)) (finite_at_infinity_subring c).zero_in;
    sum_in = λ a b h i u u_in.
        subst (IsFiniteAtInfinity c) (sym (ap (trace_of c) (add_mul (ring_of c) a b u) ∙ trace_plus c (a ⊗ u) (b ⊗ u)))
        ((finite_at_infinity_subring c).sum_in _ _ (h u u_in) (i u u_in));
    scale_in =
        λ s a s_in h u u_in. subst (IsFiniteAtInfinity c) (ap (trace_of c) (turn s a u))
        (h (s ⊗ u) (𝓘.product_in s u s_in u_in));
  }
    where
      turn : (s a u : FunctionOf c) → a ⊗ (s ⊗ u) ≡ s ⊗ a ⊗ u
      turn s a u = ring (ring_of c) (s ∷ a ∷ u ∷ []) λ q i. simp (reads, q, i 0, i 1, i 2) (q.equal _ _ refl)

  abbrev x2 : FunctionOf c
  x2 = pow (ring_of c).ops (setting_of c).x 2

  abbrev t2 : FunctionOf c
  t2 = pow (ring_of c).ops (setting_of c).one_over_x 2

  pub canonical_module : IsModule (ring_of c).ops (IsIntegralAt (setting_of c) Infinite)
      (CanonicalDual c (IsIntegralAt (setting_of c) Infinite))
  canonical_module = record {
    zero_in = subst (InfiniteTraceDual c Inf) (sym (mul_zero (ring_of c) x2)) infinite_module.zero_in;
    sum_in =
        λ a b h i. subst (InfiniteTraceDual c Inf) (sym ((ring_of c).mul_add x2 a b)) (infinite_module.sum_in _ _ h i);
    scale_in =
        λ s a s_in h. subst (InfiniteTraceDual c Inf) (mul_left_comm (ring_of c) s x2 a)
        (infinite_module.scale_in s (x2 ⊗ a) s_in h);
  }

  -- what is invertible stays so times a power of x
  canonical_from : Invertible (ring_of c).ops (IsIntegralAt (setting_of c) Infinite)
      (InfiniteTraceDual c (IsIntegralAt (setting_of c) Infinite))
      → Invertible (ring_of c).ops (IsIntegralAt (setting_of c) Infinite)
      (CanonicalDual c (IsIntegralAt (setting_of c) Infinite))
  canonical_from h =
      product_into (ring_of c) C (Inverse ops Inf C) T
      (additive_of_module (ring_of c) Inf T (product_module (ring_of c) Inf 𝓘 C' (Inverse ops Inf C') canonical_module))
      (λ a b m n.
      subst T (mul_mul (ring_of c) t2 a x2 b ∙ ap (λ w. w ⊗ (a ⊗ b)) ((ring_of c).mul_comm t2 x2 ∙ x_to_t c 2)
      ∙ one_mul (ring_of c) (a ⊗ b))
      (product_member (ring_of c) Inf 𝓘 C' (Inverse ops Inf C') (t2 ⊗ a) (x2 ⊗ b)
      (subst C (sym (cancel c x2 t2 a (x_to_t c 2))) m)
      (λ y i. subst Inf (turn b y) (n (x2 ⊗ y) i)))) 𝟙 h
    where
      C : FunctionOf c → Type 0
      C = InfiniteTraceDual c Inf

      C' : FunctionOf c → Type 0
      C' = CanonicalDual c Inf

      T : FunctionOf c → Type 0
      T = Product ops C' (Inverse ops Inf C')

      turn : (b y : FunctionOf c) → b ⊗ (x2 ⊗ y) ≡ x2 ⊗ b ⊗ y
      turn b y = mul_left_comm (ring_of c) b x2 y ∙ sym ((ring_of c).mul_assoc x2 b y)

-- at infinity the dual of O_inf is, up to factors that t doesn't divide, that of what is integral over the polynomials
-- in the infinite presentation
module _ (k : CodeField) (p q : PresValue) (c : ℕ) (f : Functions k q → Functions k p) (g : IsInfiniteMap k p q c f)
    (some : ¬ (discriminant (equation_of k q) ≡ (polynomials k).𝟘)) where
  infixl 65 ◌⊕◌
  infixl 70 ◌⊗◌
  open functions k q use {𝟘, 𝟙, ◌⊕◌, ◌⊗◌}

  abbrev Q : Equation k
  Q = equation_of k q

  abbrev Int : Functions k q → Type 0
  Int = IsIntegralAt (setting k q) Finite

  abbrev InfP : Functions k p → Type 0
  InfP = IsIntegralAt (setting k p) Infinite

  abbrev L : Functions k q → Type 0
  L = TraceDual Q Int

  abbrev N : Functions k p → Type 0
  N = InfiniteTraceDual (equation_of k p) InfP

  abbrev tr : Functions k q → Functions k q
  tr = trace_of Q

  𝓝 : PrimeTo (functions k q).ops (IsPolynomial (equation_of k q)) (IsPrimeTo (equation_of k q) (x_poly k))
      (of_poly (equation_of k q) (x_poly k))
  𝓝 = prime_to Q (x_poly k) (x_irreducible k)

  trace_scaled : (w z : Functions k q) → IsPolynomial Q w → tr (w ⊗ z) ≡ w ⊗ tr z
  trace_scaled w z h =
      trace_times Q w z (record {
        top = h.polynomial;
        bottom = (polynomials k).𝟙;
        not_null = (polynomials_domain k).one_not_zero;
        value = h.value;
      })

  image_trace : (z u : Functions k q) → trace_of (equation_of k p) ((functions k p).◌⊗◌ (f z) (f u)) ≡ f (tr (z ⊗ u))
  image_trace z u = ap (trace_of (equation_of k p)) (sym (g.isomorphism.hom.mul z u)) ∙ g.traces (z ⊗ u)

  push : (z : Functions k q) → L z → N (f z)
  push z m =
      each k p q c f g (λ w. InfP w
      → IsFiniteAtInfinity (equation_of k p) (trace_of (equation_of k p) ((functions k p).◌⊗◌ (f z) w)))
      (λ u u_in.
      let l = (g.integral u).1 u_in in
      subst (IsFiniteAtInfinity (equation_of k p)) (sym (image_trace z u))
      ((g.scalars (tr (z ⊗ u))).0 (record {
        factor = l.factor;
        factor_in = l.factor_in;
        multiple_in =
            subst (IsPolynomial Q) (ap tr (mul_left_comm (functions k q) z l.factor u)
            ∙ trace_scaled l.factor (z ⊗ u) (𝓝.within l.factor l.factor_in))
            (m (l.factor ⊗ u) l.multiple_in);
      })))

  -- one factor for all traces with the members of a list
  near : (y : Functions k q) → N (f y) → IsLocallyIn Q (x_poly k) L y
  near y m = record { factor = w.factor; factor_in = w.factor_in; multiple_in = within }
    where
      𝓘 : IsLattice (equation_of k q) (IsIntegralAt (setting k q) Finite)
      𝓘 = integral_lattice Q some

      us : List (Functions k q)
      us = 𝓘.generators

      at : (u : Functions k q) → Int u → IsLocallyIn Q (x_poly k) (IsPolynomial Q) (tr (y ⊗ u))
      at u u_in =
          (g.scalars (tr (y ⊗ u))).1
          (subst (IsFiniteAtInfinity (equation_of k p)) (image_trace y u)
          (m (f u) ((g.integral u).0
          (record {
            factor = 𝟙;
            factor_in = 𝓝.one_in;
            multiple_in = subst Int (sym (one_mul (functions k q) u)) u_in;
          }))))

      w : Common (functions k q) (IsPolynomial Q) (polynomials_subring Q) (IsPrimeTo Q (x_poly k))
          (of_poly Q (x_poly k)) 𝓝 (IsPolynomial Q) (map (λ u. tr (y ⊗ u)) us)
      w =
          common (functions k q) (IsPolynomial Q) (polynomials_subring Q) (IsPrimeTo Q (x_poly k))
          (of_poly Q (x_poly k)) 𝓝 (IsPolynomial Q)
          (own_module (functions k q) (IsPolynomial Q) (polynomials_subring Q)) (map (λ u. tr (y ⊗ u)) us)
          (All-map (IsLocallyIn Q (x_poly k) (IsPolynomial Q)) (λ u. tr (y ⊗ u)) us
          (All-weaker Int (λ u. IsLocallyIn Q (x_poly k) (IsPolynomial Q) (tr (y ⊗ u))) at us
          (lattice_generators Q Int 𝓘)))

      z : Functions k q
      z = w.factor ⊗ y

      polynomial_trace : (u : Functions k q) → IsPolynomial Q (w.factor ⊗ tr (y ⊗ u)) → IsPolynomial Q (tr (z ⊗ u))
      polynomial_trace u h =
          subst (IsPolynomial Q)
          (sym (ap tr ((functions k q).mul_assoc w.factor y u)
          ∙ trace_scaled w.factor (y ⊗ u) (𝓝.within w.factor w.factor_in))) h

      traces : IsModule (functions k q).ops (IsPolynomial Q) (λ u. IsPolynomial Q (tr (z ⊗ u)))
      traces = record {
        zero_in =
            subst (IsPolynomial Q) (sym (ap tr ((functions k q).mul_comm z 𝟘) ∙ trace_zero Q z))
            (polynomials_subring Q).zero_in;
        sum_in = λ a b h i.
            subst (IsPolynomial Q) (sym (ap tr ((functions k q).mul_add z a b) ∙ trace_plus Q (z ⊗ a) (z ⊗ b)))
            ((polynomials_subring Q).sum_in _ _ h i);
        scale_in = λ s a s_in h.
            subst (IsPolynomial Q) (sym (ap tr (mul_left_comm (functions k q) z s a) ∙ trace_scaled s (z ⊗ a) s_in))
            ((polynomials_subring Q).product_in _ _ s_in h);
      }

      by_list : (vs : List (Functions k q)) → All (λ t. IsPolynomial Q (w.factor ⊗ t)) (map (λ u. tr (y ⊗ u)) vs)
          → All (λ u. IsPolynomial Q (tr (z ⊗ u))) vs
      by_list [] h = All-nil (λ u. IsPolynomial Q (tr (z ⊗ u)))
      by_list (v ∷ vs) h =
          All-cons (λ u. IsPolynomial Q (tr (z ⊗ u))) v vs
          (polynomial_trace v (All-head (λ t. IsPolynomial Q (w.factor ⊗ t)) (tr (y ⊗ v)) (map (λ u. tr (y ⊗ u)) vs) h))
          (by_list vs (All-tail (λ t. IsPolynomial Q (w.factor ⊗ t)) (tr (y ⊗ v)) (map (λ u. tr (y ⊗ u)) vs) h))

      within : L z
      within u u_in =
          span_least (functions k q) (IsPolynomial Q) (polynomials_subring Q) (λ u. IsPolynomial Q (tr (z ⊗ u)))
          traces us (by_list us w.multiples_in) u ((𝓘.spanned u).0 u_in)

  push_inverse : (b : Functions k q) → Inverse (functions k q).ops Int L b → Inverse (functions k p).ops InfP N (f b)
  push_inverse b n =
      each k p q c f g (λ w. N w → InfP ((functions k p).◌⊗◌ (f b) w))
      (λ y m.
      let l = near y m in
      subst InfP (g.isomorphism.hom.mul b y)
      ((g.integral (b ⊗ y)).0 (record {
        factor = l.factor;
        factor_in = l.factor_in;
        multiple_in = subst Int (mul_left_comm (functions k q) b l.factor y) (n (l.factor ⊗ y) l.multiple_in);
      })))

  image_invertible : Invertible (functions k p).ops (IsIntegralAt (setting k p) Infinite)
      (InfiniteTraceDual (equation_of k p) (IsIntegralAt (setting k p) Infinite))
  image_invertible =
      subst T g.isomorphism.hom.𝟙
      (product_into (functions k q) L (Inverse (functions k q).ops Int L) (λ z. T (f z)) additive
      (λ a b m n.
      subst T (sym (g.isomorphism.hom.mul a b))
      (product_member (functions k p) InfP 𝓡 N (Inverse (functions k p).ops InfP N) (f a) (f b) (push a m)
      (push_inverse b n))) 𝟙
      (finite_dual_invertible Q some))
    where
      𝓡 : IsSubring (functions k p).ops (IsIntegralAt (setting k p) Infinite)
      𝓡 = side_ring (setting k p) (scalars_subring (equation_of k p)) Infinite

      T : Functions k p → Type 0
      T = Product (functions k p).ops N (Inverse (functions k p).ops InfP N)

      𝓣 : IsModule (functions k p).ops InfP T
      𝓣 = product_module (functions k p) InfP 𝓡 N (Inverse (functions k p).ops InfP N)
          (infinite_module (equation_of k p))

      additive : IsAdditive (functions k q).ops (λ z. T (f z))
      additive = record {
        zero_in = subst T (sym (hom_zero (functions k q) (functions k p) f g.isomorphism.hom)) 𝓣.zero_in;
        sum_in = λ a b i j. subst T (sym (g.isomorphism.hom.add a b)) (𝓣.sum_in _ _ i j);
      }

pub canonical_invertible : {k : CodeField} (c : Equation k) → ¬ (discriminant c ≡ (polynomials k).𝟘)
    → Invertible (ring_of c).ops (IsIntegralAt (setting_of c) Infinite)
    (CanonicalDual c (IsIntegralAt (setting_of c) Infinite))
canonical_invertible {k} c some =
    canonical_from c
    (each_equation k
    (λ c. ¬ (discriminant c ≡ (polynomials k).𝟘)
    → Invertible (ring_of c).ops (IsIntegralAt (setting_of c) Infinite)
    (InfiniteTraceDual c (IsIntegralAt (setting_of c) Infinite)))
    (λ p q n s h d. image_invertible k p q n (presentation_map k p q n h s) (infinite_map k p q n h s)
    (infinite_some k p q n h s d)) c some)
