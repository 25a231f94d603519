-- An infinite place has a prime over t in each order over k[t] that is maximal at t: the members of the order that go
-- into it. It is spanned by the images of functions that span the prime.
use Rattle.std.proofs.Common.{◌≡◌, ◌↔◌, ◌⊎◌, inl, inr, ℕ, List, [], ◌∷◌, map, refl, sym, ◌∙◌, ap, ap₂, subst}
use Rattle.ring_theory.specs.Subsets.{IsModule, Span}
use Rattle.ring_theory.specs.Local.{PrimeTo}
use Rattle.ring_theory.proofs.RowMaps.{hom_zero, hom_neg}
use Rattle.ring_lemmas.proofs.Solver.{ring, reads, from_one}
use Rattle.ring_theory.proofs.Subsets.{span_module}
use Rattle.prime_theory.specs.Ideals.{IsIdeal, SameSet}
use Rattle.prime_theory.specs.Orders.{MaximalAt}
use Rattle.prime_theory.specs.Primes.{IsPrime, InverseModulo}
use Rattle.prime_theory.proofs.IntegralRing.{integral_ring}
use Rattle.ff_fields.specs.Field.{CodeField}
use Rattle.ff_poly.specs.Polynomials.{x_poly}
use Rattle.function_field.specs.declared.side.Side.{Side}
use Rattle.function_field.specs.declared.side.Side.TheVariants.{Finite, Infinite}
use Rattle.function_field.specs.Functions.{of_poly, IsPolynomial, IsFiniteAtInfinity}
use Rattle.function_field.specs.Values.{PresValue, Functions, functions, setting, equation_of}
use Rattle.function_field.specs.Places.{Place, IsPlace, IsIn, IsSamePlace, IsIntegralAt}
use Rattle.function_field.proofs.ScalarRings.{finite_at_infinity_subring}
use Rattle.lattice_theory.specs.Lattices.{IsLattice}
use Rattle.order_theory.specs.Orders.{IsOrder, IsPrimeTo}
use Rattle.order_theory.proofs.InfinitePlaces.{infinite}
use Rattle.order_theory.proofs.LocalOrders.{prime_to, order_integral, order_polynomials}
use Rattle.order_theory.proofs.PrimesOver.{ideal_lattice}
use Rattle.infinite_theory.specs.Supported.{IsLocallyIn}
use Rattle.infinite_theory.specs.InfiniteMaps.{IsInfiniteMap, IsMemberBelow}
use Rattle.infinite_theory.proofs.InfiniteTransport.{x_irreducible}
use Rattle.infinite_theory.proofs.LocalIntegral.{maximal_local}
use Rattle.infinite_theory.proofs.InfiniteDecisions.{infinite_span_decided, infinite_has_t}
use Rattle.infinite_theory.proofs.PushedPlaces.{each, integral_of, pushed, sum_of_parts}

module _ (k : CodeField) (p q : PresValue) (c : ℕ) (f : Functions k q → Functions k p) (g : IsInfiniteMap k p q c f)
    (ws : List (Functions k p)) (place : IsPlace (setting k p) (infinite (equation_of k p) ws)) where
  infixl 65 ◌⊕◌
  infixl 70 ◌⊗◌
  infixr 80 ⊖◌
  open functions k q use {𝟘, 𝟙, ◌⊕◌, ◌⊗◌, ⊖◌}

  abbrev X : Functions k q
  X = of_poly (equation_of k q) (x_poly k)

  abbrev Inf : Functions k p → Type 0
  Inf = IsIntegralAt (setting k p) Infinite

  abbrev In : Functions k p → Type 0
  In = IsIn (setting k p) (infinite (equation_of k p) ws)

  𝓝 : PrimeTo (functions k q).ops (IsPolynomial (equation_of k q)) (IsPrimeTo (equation_of k q) (x_poly k))
      (of_poly (equation_of k q) (x_poly k))
  𝓝 = prime_to (equation_of k q) (x_poly k) (x_irreducible k)

  𝓜 : IsModule (functions k p).ops (IsFiniteAtInfinity (equation_of k p))
      (IsIn (setting k p) (infinite (equation_of k p) ws))
  𝓜 = span_module (functions k p) (IsFiniteAtInfinity (equation_of k p))
      (finite_at_infinity_subring (equation_of k p)) ws

  -- what goes into the place is closed under sums, and under products with what goes to O_inf
  into_sum : (a b : Functions k q) → In (f a) → In (f b) → In (f (a ⊕ b))
  into_sum a b i j = subst In (sym (g.isomorphism.hom.add a b)) (𝓜.sum_in _ _ i j)

  into_scale : (s a : Functions k q) → Inf (f s) → In (f a) → In (f (s ⊗ a))
  into_scale s a s_in i = subst In (sym (g.isomorphism.hom.mul s a)) (place.ideal (f s) (f a) s_in i)

  into_variable : In (f (of_poly (equation_of k q) (x_poly k)))
  into_variable = subst In (sym g.variable) (infinite_has_t k p q c f g ws place)

  infinite_product : (a b : Functions k q) → Inf (f a) → Inf (f b) → Inf (f (a ⊗ b))
  infinite_product a b i j =
      subst Inf (sym (g.isomorphism.hom.mul a b))
      ((integral_ring (functions k p) (IsFiniteAtInfinity (equation_of k p))
      (finite_at_infinity_subring (equation_of k p))).product_in _ _ i j)

  module _ (O : Functions k q → Type 0) (𝓞 : IsOrder (equation_of k q) O)
      (maximal : MaximalAt (functions k q).ops (of_poly (equation_of k q) (x_poly k))
      (IsIntegralAt (setting k q) Finite) O) where
    near : (z : Functions k q) → Inf (f z) → IsLocallyIn (equation_of k q) (x_poly k) O z
    near z m = (maximal_local (equation_of k q) (x_poly k) (x_irreducible k) O 𝓞 maximal z).1 ((g.integral z).1 m)

    image : (z : Functions k q) → O z → Inf (f z)
    image z m = integral_of k p q c f g z (order_integral (equation_of k q) O 𝓞 z m)

    base : (s : Functions k q) → IsPolynomial (equation_of k q) s → O s
    base = order_polynomials (equation_of k q) O 𝓞

    -- the members of the order that go into the place
    abbrev pub Below : Functions k q → Type 0
    Below z = O z × IsIn (setting k p) (infinite (equation_of k p) ws) (f z)

    below_ideal : IsIdeal (functions k q).ops O (λ z. O z × IsIn (setting k p) (infinite (equation_of k p) ws) (f z))
    below_ideal = record {
      within = λ a m. m.0;
      zero_in =
          (𝓞.ring.zero_in, subst In (sym (hom_zero (functions k q) (functions k p) f g.isomorphism.hom)) 𝓜.zero_in);
      sum_in = λ a b m n. (𝓞.ring.sum_in a b m.0 n.0, into_sum a b m.1 n.1);
      scale_in = λ s a s_in m. (𝓞.ring.product_in s a s_in m.0, into_scale s a (image s s_in) m.1);
    }

    pub below_variable : Below (of_poly (equation_of k q) (x_poly k))
    below_variable = (base X (record { polynomial = x_poly k; value = refl }), into_variable)

    decide : (z : Functions k q) → O z → Below z ⊎ (¬ (Below z))
    decide z z_in = by (infinite_span_decided k p q c f g ws (f z))
      where
        by : Dec (In (f z)) → Below z ⊎ (¬ (Below z))
        by (yes m) = inl (z_in, m)
        by (no n) = inr (λ m. n m.1)

    -- they are a lattice, and a prime
    pub below_lattice : IsLattice (equation_of k q)
        (λ z. O z × IsIn (setting k p) (infinite (equation_of k p) ws) (f z))
    below_lattice =
        ideal_lattice (equation_of k q) (x_poly k) (x_irreducible k) O 𝓞 Below below_ideal below_variable decide

    pub below_prime : IsPrime (functions k q).ops O
        (λ z. O z × IsIn (setting k p) (infinite (equation_of k p) ws) (f z))
    below_prime = record {
      ideal = below_ideal;
      proper = λ m. place.proper (subst In g.isomorphism.hom.𝟙 m.1);
      invert = λ u u_in n. let i = place.inverse (f u) (image u u_in) (λ m. n (u_in, m)) in inverse u u_in i.0 i.1 i.2;
      decide = decide;
    }
      where
        moved : (l u r x z w : Functions k q) → l ⊗ u ⊕ r ⊗ x ≡ 𝟙 → l ⊗ u ⊗ (z ⊗ w ⊕ ⊖ 𝟙) ⊕ (⊖ r) ⊗ x
            ≡ l ⊗ (u ⊗ w) ⊗ z ⊕ ⊖ 𝟙
        moved l u r x z w e =
            from_one (functions k q) (⊖ 𝟙) e
            (ring (functions k q) (l ∷ u ∷ r ∷ x ∷ z ∷ w ∷ []) λ o i. simp (reads, o, i 0, i 1, i 2, i 3, i 4, i 5)
            (o.equal _ _ refl))

        inverse : (z : Functions k q) → O z → (w : Functions k p) → Inf w
            → In ((functions k p).◌⊕◌ ((functions k p).◌⊗◌ (f z) w) ((functions k p).⊖◌ (functions k p).𝟙))
            → InverseModulo (functions k q).ops O Below z
        inverse z z_in = each k p q c f g
            (λ w. Inf w → In ((functions k p).◌⊕◌ ((functions k p).◌⊗◌ (f z) w)
            ((functions k p).⊖◌ (functions k p).𝟙)) → InverseModulo (functions k q).ops O Below z)
            (λ w w_in m.
            let a = near w w_in in
            let b = 𝓝.comaximal a.factor a.factor_in in
            let y_in : O (b.left ⊗ (a.factor ⊗ w)) = 𝓞.ring.product_in _ _ (base b.left b.left_in) a.multiple_in in
            record {
              inverse = b.left ⊗ (a.factor ⊗ w);
              inverse_in = y_in;
              is = (
                𝓞.ring.sum_in _ _ (𝓞.ring.product_in _ _ y_in z_in) (𝓞.ring.neg_in 𝟙 𝓞.ring.one_in),
                subst (λ v. In (f v)) (moved b.left a.factor b.right X z w b.is)
                    (into_sum _ _
                    (into_scale (b.left ⊗ a.factor) (z ⊗ w ⊕ ⊖ 𝟙)
                    (image _ (𝓞.ring.product_in _ _ (base b.left b.left_in)
                    (base a.factor (𝓝.within a.factor a.factor_in))))
                    (subst In
                    (sym (g.isomorphism.hom.add (z ⊗ w) (⊖ 𝟙)
                    ∙ ap₂ (functions k p).◌⊕◌ (g.isomorphism.hom.mul z w)
                    (hom_neg (functions k q) (functions k p) f g.isomorphism.hom 𝟙
                    ∙ ap (functions k p).⊖◌ g.isomorphism.hom.𝟙))) m))
                    (into_scale (⊖ b.right) X (image _ (𝓞.ring.neg_in _ (base b.right b.right_in))) into_variable)),
              );
            })

    -- the images of functions that span them span the place
    pub below_same : (gs : List (Functions k q))
        → SameSet (λ z. O z × IsIn (setting k p) (infinite (equation_of k p) ws) (f z))
        (Span (functions k q).ops (IsPolynomial (equation_of k q)) gs)
        → IsSamePlace (setting k p) (pushed k p q c f g gs) (infinite (equation_of k p) ws)
    below_same gs spanned = record {
      side = refl;
      members = each k p q c f g (λ w. IsIn (setting k p) (pushed k p q c f g gs) w ↔ In w) (λ z. (to z, from z));
    }
      where
        to : (z : Functions k q) → IsIn (setting k p) (pushed k p q c f g gs) (f z) → In (f z)
        to z m =
            let l = (g.spans gs z).1 m in
            let b = 𝓝.comaximal l.factor l.factor_in in
            let i = (spanned (l.factor ⊗ z)).1 l.multiple_in in
            let z_in : Inf (f z)
            = (g.integral z).0 (record
            { factor = l.factor; factor_in = l.factor_in; multiple_in = order_integral (equation_of k q) O 𝓞 _ i.0 }) in
            subst (λ v. In (f v)) (sum_of_parts (functions k q) b.left l.factor b.right X z b.is)
            (into_sum _ _ (into_scale b.left _ (image b.left (base b.left b.left_in)) i.1)
            (into_scale (b.right ⊗ z) X (infinite_product b.right z (image b.right (base b.right b.right_in)) z_in)
            into_variable))

        from : (z : Functions k q) → In (f z) → IsIn (setting k p) (pushed k p q c f g gs) (f z)
        from z m =
            let a = near z (place.integral (f z) m) in
            (g.spans gs z).0
            (record {
              factor = a.factor;
              factor_in = a.factor_in;
              multiple_in = (spanned (a.factor ⊗ z)).0 (
                a.multiple_in,
                into_scale a.factor z
                    (image a.factor (base a.factor (𝓝.within a.factor a.factor_in))) m,
              );
            })

-- for places whose side is given by an equation
module _ (k : CodeField) (p q : PresValue) (c : ℕ) (f : Functions k q → Functions k p) (g : IsInfiniteMap k p q c f)
    (O : Functions k q → Type 0) (𝓞 : IsOrder (equation_of k q) O)
    (maximal : MaximalAt (functions k q).ops (of_poly (equation_of k q) (x_poly k))
    (IsIntegralAt (setting k q) Finite) O) where
  abbrev Under : Place (Functions k p) → Functions k q → Type 0
  Under = IsMemberBelow k p q f O

  pub every_prime : (P : Place (Functions k p)) → IsPlace (setting k p) P → P.side ≡ Infinite
      → IsPrime (functions k q).ops O (IsMemberBelow k p q f O P)
      × IsLattice (equation_of k q) (IsMemberBelow k p q f O P) × IsMemberBelow k p q f O P (setting k q).x
      × ((gs : List (Functions k q))
      → SameSet (IsMemberBelow k p q f O P) (Span (functions k q).ops (IsPolynomial (equation_of k q)) gs)
      → IsSamePlace (setting k p) (record { side = Infinite; generators = map f gs }) P)
  every_prime P place e = go P.side P.generators e place
    where
      go : (s : Side) (ws : List (Functions k p)) → s ≡ Infinite
          → IsPlace (setting k p) (record { side = s; generators = ws })
          → IsPrime (functions k q).ops O (Under (record { side = s; generators = ws }))
          × IsLattice (equation_of k q) (Under (record { side = s; generators = ws }))
          × Under (record { side = s; generators = ws }) (setting k q).x
          × ((gs : List (Functions k q))
          → SameSet (Under (record { side = s; generators = ws }))
          (Span (functions k q).ops (IsPolynomial (equation_of k q)) gs)
          → IsSamePlace (setting k p) (record { side = Infinite; generators = map f gs })
          (record { side = s; generators = ws }))
      go Finite ws e place = absurd (cc)
      go Infinite ws e place = (
        below_prime k p q c f g ws place O 𝓞 maximal,
        below_lattice k p q c f g ws place O 𝓞 maximal,
        below_variable k p q c f g ws place O 𝓞 maximal,
        below_same k p q c f g ws place O 𝓞 maximal,
      )
