-- A finite place of the infinite presentation over its variable has the valuation of the infinite place that it gives.
use Rattle.std.proofs.Common.{◌≡◌, ℕ, zero, suc, List, [], ◌∷◌, refl, sym, ◌∙◌, ap, subst}
use Rattle.std.specs.Prelude.{ℤ, pos, negsuc}
use Rattle.std.proofs.lemmas.List.Elements.{All-weaker}
use Rattle.ring_theory.specs.Subsets.{IsSubring, IsModule}
use Rattle.ring_theory.specs.Local.{PrimeTo}
use Rattle.ring_theory.specs.Maps.{IsHom}
use Rattle.ring_theory.proofs.RowMaps.{hom_zero}
use Rattle.ring_lemmas.proofs.Solver.{ring, reads}
use Rattle.ring_theory.proofs.Subsets.{span_least}
use Rattle.ring_theory.proofs.Local.{locally_module, locally_product}
use Rattle.prime_theory.proofs.Localisation.{Common, common}
use Rattle.prime_theory.proofs.Products.{product_into}
use Rattle.ff_fields.specs.Field.{CodeField}
use Rattle.ff_poly.specs.Polynomials.{polynomials, x_poly}
use Rattle.function_field.specs.declared.side.Side.TheVariants.{Finite, Infinite}
use Rattle.function_field.specs.Functions.{of_poly, IsPolynomial}
use Rattle.function_field.specs.Discriminant.{discriminant}
use Rattle.function_field.specs.Values.{PresValue, Functions, functions, setting, equation_of}
use Rattle.function_field.specs.Places.{IsPlace, IsIn, IsIntegralAt, InPower, HasValuationAtLeast, HasValuation}
use Rattle.function_field.proofs.ScalarRings.{polynomials_subring, scalars_subring}
use Rattle.places_theory.proofs.Sides.{in_power_module}
use Rattle.places_theory.proofs.Transport.{back, f_back, back_f, back_hom, product_image}
use Rattle.lattice_theory.specs.Lattices.{IsLattice}
use Rattle.lattice_theory.proofs.Lattices.{lattice_generators}
use Rattle.lattice_theory.proofs.Operations.{quotient_module, product_lattice}
use Rattle.order_theory.specs.Orders.{IsPrimeTo}
use Rattle.order_theory.proofs.IntegralLattice.{integral_subring, integral_module, integral_lattice, polynomial_integral}
use Rattle.order_theory.proofs.LocalOrders.{prime_to}
use Rattle.order_theory.proofs.FinitePlaces.{finite, place_lattice}
use Rattle.infinite_theory.specs.Supported.{IsLocallyIn}
use Rattle.infinite_theory.specs.InfiniteMaps.{IsInfiniteMap}
use Rattle.infinite_theory.proofs.InfiniteTransport.{x_irreducible}
use Rattle.infinite_theory.proofs.PushedPlaces.{each, integral_of, prime_integral, pushed, pushed_of, pushed_members}

module _ (k : CodeField) (p q : PresValue) (c : ℕ) (f : Functions k q → Functions k p) (g : IsInfiniteMap k p q c f)
    (gs : List (Functions k q)) (place : IsPlace (setting k q) (finite (equation_of k q) gs))
    (over : IsIn (setting k q) (finite (equation_of k q) gs) (of_poly (equation_of k q) (x_poly k))) where
  infixl 65 ◌⊕◌
  infixl 70 ◌⊗◌
  infixr 80 ⊖◌
  open functions k q use {𝟘, 𝟙, ◌⊕◌, ◌⊗◌, ⊖◌}

  abbrev Int : Functions k q → Type 0
  Int = IsIntegralAt (setting k q) Finite

  abbrev Inf : Functions k p → Type 0
  Inf = IsIntegralAt (setting k p) Infinite

  abbrev M : Functions k q → Type 0
  M = IsIn (setting k q) (finite (equation_of k q) gs)

  abbrev In : Functions k p → Type 0
  In = IsIn (setting k p) (pushed k p q c f g gs)

  abbrev Power : ℕ → Functions k q → Type 0
  Power m = InPower (setting k q) (finite (equation_of k q) gs) m

  abbrev Pushed : ℕ → Functions k p → Type 0
  Pushed m = InPower (setting k p) (pushed k p q c f g gs) m

  abbrev Near : (Functions k q → Type 0) → Functions k q → Type 0
  Near L = IsLocallyIn (equation_of k q) (x_poly k) L

  abbrev lift : Functions k p → Functions k q
  lift w = back (functions k q) (functions k p) f g.isomorphism w

  f_lift : (w : Functions k p) → f (lift w) ≡ w
  f_lift w = f_back (functions k q) (functions k p) f g.isomorphism w

  𝓢 : IsSubring (functions k q).ops (IsPolynomial (equation_of k q))
  𝓢 = polynomials_subring (equation_of k q)

  𝓘 : IsSubring (functions k q).ops (IsIntegralAt (setting k q) Finite)
  𝓘 = integral_subring (equation_of k q)

  𝓝 : PrimeTo (functions k q).ops (IsPolynomial (equation_of k q)) (IsPrimeTo (equation_of k q) (x_poly k))
      (of_poly (equation_of k q) (x_poly k))
  𝓝 = prime_to (equation_of k q) (x_poly k) (x_irreducible k)

  power_ideal : (m : ℕ) → IsModule (functions k q).ops (IsIntegralAt (setting k q) Finite)
      (InPower (setting k q) (finite (equation_of k q) gs) m)
  power_ideal m =
      in_power_module (setting k q) (scalars_subring (equation_of k q)) (finite (equation_of k q) gs) place m

  power_module : (m : ℕ) → IsModule (functions k q).ops (IsPolynomial (equation_of k q))
      (InPower (setting k q) (finite (equation_of k q) gs) m)
  power_module m = record {
    zero_in = (power_ideal m).zero_in;
    sum_in = (power_ideal m).sum_in;
    scale_in = λ s a s_in n. (power_ideal m).scale_in s a (polynomial_integral (equation_of k q) s s_in) n;
  }

  -- powers of the place go to powers of the infinite one, and nothing else does, up to factors prime to the variable
  power_image : (m : ℕ) (z : Functions k q) → InPower (setting k q) (finite (equation_of k q) gs) m z
      → InPower (setting k p) (pushed k p q c f g gs) m (f z)
  power_image zero z n = integral_of k p q c f g z n
  power_image (suc m) z n =
      product_image (functions k q) (functions k p) f g.isomorphism.hom (Power m) M (Pushed m) In (power_image m)
      (pushed_of k p q c f g gs) z n

  power_near : (m : ℕ) (z : Functions k q) → InPower (setting k p) (pushed k p q c f g gs) m (f z)
      → IsLocallyIn (equation_of k q) (x_poly k) (Power m) z
  power_near zero z n = (g.integral z).1 n
  power_near (suc m) z n =
      subst (Near (Power (suc m))) (back_f (functions k q) (functions k p) f g.isomorphism z)
      (product_into (functions k p) (Pushed m) In (λ w. Near (Power (suc m)) (lift w))
      (record {
        zero_in =
            subst (Near (Power (suc m)))
            (sym (hom_zero (functions k p) (functions k q) (back (functions k q) (functions k p) f g.isomorphism)
            hom)) 𝓟.zero_in;
        sum_in = λ a b i j. subst (Near (Power (suc m))) (sym (hom.add a b)) (𝓟.sum_in _ _ i j);
      })
      (λ a b i j.
      subst (Near (Power (suc m))) (sym (hom.mul a b))
      (locally_product (functions k q) (IsPolynomial (equation_of k q)) 𝓢 (IsPrimeTo (equation_of k q) (x_poly k)) _
      𝓝 (Power m) M (lift a) (lift b)
      (power_near m (lift a) (subst (Pushed m) (sym (f_lift a)) i))
      ((g.spans gs (lift b)).1 (subst In (sym (f_lift b)) j))))
      (f z) n)
    where
      hom : IsHom (functions k p) (functions k q) (back (functions k q) (functions k p) f g.isomorphism)
      hom = back_hom (functions k q) (functions k p) f g.isomorphism

      𝓟 : IsModule (functions k q).ops (IsPolynomial (equation_of k q))
          (IsLocallyIn (equation_of k q) (x_poly k) (Power (suc m)))
      𝓟 = locally_module (functions k q) (IsPolynomial (equation_of k q)) 𝓢 (IsPrimeTo (equation_of k q) (x_poly k))
          _ 𝓝 (Power (suc m)) (power_module (suc m))

  three : (u z w : Functions k q) → f (u ⊗ z ⊗ w) ≡ (functions k p).◌⊗◌ ((functions k p).◌⊗◌ (f u) (f z)) (f w)
  three u z w = g.isomorphism.hom.mul (u ⊗ z) w ∙ ap (λ x. (functions k p).◌⊗◌ x (f w)) (g.isomorphism.hom.mul u z)

  -- a value of at least m here is one there
  pub at_least_image : (z : Functions k q) (m : ℤ) → HasValuationAtLeast (setting k q) (finite (equation_of k q) gs) z m
      → HasValuationAtLeast (setting k p) (pushed k p q c f g gs) (f z) m
  at_least_image z (pos m) v = record {
    factor = f v.factor;
    integral = integral_of k p q c f g v.factor v.integral;
    outside = λ n. v.outside (pushed_members k p q c f g gs place over v.factor v.integral n);
    product = subst (Pushed m) (g.isomorphism.hom.mul v.factor z) (power_image m _ v.product);
  }
  at_least_image z (negsuc m) v = record {
    factor = f v.factor;
    integral = integral_of k p q c f g v.factor v.integral;
    outside = λ n. v.outside (pushed_members k p q c f g gs place over v.factor v.integral n);
    products =
        each k p q c f g (λ w. Pushed (suc m) w → Inf ((functions k p).◌⊗◌ ((functions k p).◌⊗◌ (f v.factor) (f z)) w))
        (λ w n.
        let l = power_near (suc m) w n in
        subst Inf (three v.factor z w)
        ((g.integral (v.factor ⊗ z ⊗ w)).0
        (record {
          factor = l.factor;
          factor_in = l.factor_in;
          multiple_in = subst Int (moved v.factor z l.factor w) (v.products (l.factor ⊗ w) l.multiple_in);
        })));
  }
    where
      moved : (u z l w : Functions k q) → u ⊗ z ⊗ (l ⊗ w) ≡ l ⊗ (u ⊗ z ⊗ w)
      moved u z l w =
          ring (functions k q) (u ∷ z ∷ l ∷ w ∷ []) λ o i. simp (reads, o, i 0, i 1, i 2, i 3) (o.equal _ _ refl)

  -- a function that isn't in the infinite place stays outside after multiplication by what is prime to the variable
  outside_near : (u v : Functions k q) → IsPrimeTo (equation_of k q) (x_poly k) v
      → ¬ (IsIn (setting k p) (pushed k p q c f g gs) (f u))
      → ¬ (IsIn (setting k q) (finite (equation_of k q) gs) (v ⊗ u))
  outside_near u v v_in n m = n ((g.spans gs u).0 (record { factor = v; factor_in = v_in; multiple_in = m }))

  module _ (some : ¬ (discriminant (equation_of k q) ≡ (polynomials k).𝟘)) where
    power_lattice : (m : ℕ) → IsLattice (equation_of k q) (InPower (setting k q) (finite (equation_of k q) gs) m)
    power_lattice zero = integral_lattice (equation_of k q) some
    power_lattice (suc m) =
        product_lattice (equation_of k q) (Power m) M (power_lattice m) (place_lattice (equation_of k q) gs place)

    pub at_least_back : (z : Functions k q) (m : ℤ) → HasValuationAtLeast (setting k p) (pushed k p q c f g gs) (f z) m
        → HasValuationAtLeast (setting k q) (finite (equation_of k q) gs) z m
    at_least_back z (pos m) v =
        let u = lift v.factor in
        let a = (g.integral u).1 (subst Inf (sym (f_lift v.factor)) v.integral) in
        let b = power_near m (u ⊗ z)
        (subst (Pushed m) (ap (λ x. (functions k p).◌⊗◌ x (f z)) (sym (f_lift v.factor))
        ∙ sym (g.isomorphism.hom.mul u z)) v.product) in
        record {
          factor = b.factor ⊗ (a.factor ⊗ u);
          integral = 𝓘.product_in _ _ (prime_integral k p q c f g b.factor b.factor_in) a.multiple_in;
          outside = λ n.
              outside_near u (b.factor ⊗ a.factor) (𝓝.product_in _ _ b.factor_in a.factor_in)
              (λ i. v.outside (subst In (f_lift v.factor) i))
              (subst M (sym ((functions k q).mul_assoc b.factor a.factor u)) n);
          product =
              subst (Power m) (moved b.factor a.factor u z)
              ((power_ideal m).scale_in a.factor _ (prime_integral k p q c f g a.factor a.factor_in) b.multiple_in);
        }
      where
        moved : (b a u z : Functions k q) → a ⊗ (b ⊗ (u ⊗ z)) ≡ b ⊗ (a ⊗ u) ⊗ z
        moved b a u z =
            ring (functions k q) (b ∷ a ∷ u ∷ z ∷ []) λ o i. simp (reads, o, i 0, i 1, i 2, i 3) (o.equal _ _ refl)
    at_least_back z (negsuc m) v = record {
      factor = w.factor ⊗ (a.factor ⊗ u);
      integral = 𝓘.product_in _ _ (prime_integral k p q c f g w.factor w.factor_in) a.multiple_in;
      outside = λ n.
          outside_near u (w.factor ⊗ a.factor) (𝓝.product_in _ _ w.factor_in a.factor_in)
          (λ i. v.outside (subst In (f_lift v.factor) i))
          (subst M (sym ((functions k q).mul_assoc w.factor a.factor u)) n);
      products = λ y n.
          subst Int (moved w.factor a.factor u z y)
          (𝓘.product_in _ _ (prime_integral k p q c f g a.factor a.factor_in) (taken y n));
    }
      where
        u : Functions k q
        u = lift v.factor

        a : IsLocallyIn (equation_of k q) (x_poly k) (IsIntegralAt (setting k q) Finite) (lift v.factor)
        a = (g.integral (lift v.factor)).1 (subst Inf (sym (f_lift v.factor)) v.integral)

        -- u·z takes each generator of the power to what is integral up to a factor prime to the variable
        𝓣 : IsModule (functions k q).ops (IsPolynomial (equation_of k q))
            (λ y. IsIntegralAt (setting k q) Finite (lift v.factor ⊗ z ⊗ y))
        𝓣 = quotient_module (functions k q) (IsPolynomial (equation_of k q)) Int (integral_module (equation_of k q))
            (lift v.factor ⊗ z)

        near : (y : Functions k q) → Power (suc m) y
            → IsLocallyIn (equation_of k q) (x_poly k)
            (λ y. IsIntegralAt (setting k q) Finite (lift v.factor ⊗ z ⊗ y)) y
        near y n =
            let l = (g.integral (lift v.factor ⊗ z ⊗ y)).1
            (subst Inf (ap (λ x. (functions k p).◌⊗◌ ((functions k p).◌⊗◌ x (f z)) (f y)) (sym (f_lift v.factor))
            ∙ sym (three (lift v.factor) z y))
            (v.products (f y) (power_image (suc m) y n))) in
            record {
              factor = l.factor;
              factor_in = l.factor_in;
              multiple_in = subst Int (turned l.factor (lift v.factor) z y) l.multiple_in;
            }
          where
            turned : (l u z y : Functions k q) → l ⊗ (u ⊗ z ⊗ y) ≡ u ⊗ z ⊗ (l ⊗ y)
            turned l u z y =
                ring (functions k q) (l ∷ u ∷ z ∷ y ∷ []) λ o i. simp (reads, o, i 0, i 1, i 2, i 3) (o.equal _ _ refl)

        w : Common (functions k q) (IsPolynomial (equation_of k q)) 𝓢 (IsPrimeTo (equation_of k q) (x_poly k)) _ 𝓝
            (λ y. IsIntegralAt (setting k q) Finite (lift v.factor ⊗ z ⊗ y)) (power_lattice (suc m)).generators
        w =
            common (functions k q) (IsPolynomial (equation_of k q)) 𝓢 (IsPrimeTo (equation_of k q) (x_poly k)) _ 𝓝
            (λ y. IsIntegralAt (setting k q) Finite (lift v.factor ⊗ z ⊗ y)) 𝓣 (power_lattice (suc m)).generators
            (All-weaker (Power (suc m)) _ near (power_lattice (suc m)).generators
            (lattice_generators (equation_of k q) (Power (suc m)) (power_lattice (suc m))))

        taken : (y : Functions k q) → Power (suc m) y
            → IsIntegralAt (setting k q) Finite (lift v.factor ⊗ z ⊗ (w.factor ⊗ y))
        taken y n =
            span_least (functions k q) (IsPolynomial (equation_of k q)) 𝓢
            (λ y. IsIntegralAt (setting k q) Finite (lift v.factor ⊗ z ⊗ (w.factor ⊗ y)))
            (quotient_module (functions k q) (IsPolynomial (equation_of k q))
            (λ y. IsIntegralAt (setting k q) Finite (lift v.factor ⊗ z ⊗ y)) 𝓣 w.factor)
            (power_lattice (suc m)).generators w.multiples_in y (((power_lattice (suc m)).spanned y).0 n)

        moved : (w a u z y : Functions k q) → a ⊗ (u ⊗ z ⊗ (w ⊗ y)) ≡ w ⊗ (a ⊗ u) ⊗ z ⊗ y
        moved w a u z y =
            ring (functions k q) (w ∷ a ∷ u ∷ z ∷ y ∷ []) λ o i. simp (reads, o, i 0, i 1, i 2, i 3, i 4)
            (o.equal _ _ refl)

    pub pushed_value : (z : Functions k q) (m : ℤ) → HasValuation (setting k q) (finite (equation_of k q) gs) z m
        → HasValuation (setting k p) (pushed k p q c f g gs) (f z) m
    pushed_value z m v =
        record { reached = at_least_image z m v.reached; not_more = λ n. v.not_more (at_least_back z _ n) }

    pub value_back : (z : Functions k q) (m : ℤ) → HasValuation (setting k p) (pushed k p q c f g gs) (f z) m
        → HasValuation (setting k q) (finite (equation_of k q) gs) z m
    value_back z m v =
        record { reached = at_least_back z m v.reached; not_more = λ n. v.not_more (at_least_image z _ n) }
