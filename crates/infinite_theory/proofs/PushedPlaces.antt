-- Primes over the variable of orders of the infinite presentation, and its finite places over the variable, as
-- infinite places of the curve.
use Rattle.std.proofs.Common.{◌≡◌, ◌↔◌, ℕ, List, [], ◌∷◌, map, refl, sym, ◌∙◌, ap, ap₂, subst}
use Rattle.ring_theory.specs.Subsets.{IsSubring, Span}
use Rattle.ring_theory.specs.Local.{PrimeTo}
use Rattle.ring_lemmas.proofs.Ring.{one_mul, mul_mul}
use Rattle.ring_theory.proofs.RowMaps.{hom_neg}
use Rattle.ring_lemmas.proofs.Solver.{ring, reads, from_one}
use Rattle.prime_theory.specs.Ideals.{SameSet}
use Rattle.prime_theory.specs.Primes.{IsPrime}
use Rattle.ff_fields.specs.Field.{CodeField}
use Rattle.ff_poly.specs.Polynomials.{x_poly}
use Rattle.function_field.specs.declared.side.Side.TheVariants.{Finite, Infinite}
use Rattle.function_field.specs.Functions.{of_poly, IsPolynomial}
use Rattle.function_field.specs.Values.{PresValue, Functions, functions, setting, equation_of}
use Rattle.function_field.specs.Places.{Place, IsPlace, IsIn, IsSamePlace, IsIntegralAt}
use Rattle.order_theory.specs.Orders.{IsPrimeTo}
use Rattle.order_theory.proofs.IntegralLattice.{integral_subring, polynomial_integral}
use Rattle.order_theory.proofs.LocalOrders.{prime_to}
use Rattle.order_theory.proofs.FinitePlaces.{finite, place_prime}
use Rattle.infinite_theory.specs.Supported.{IsLocallyIn}
use Rattle.infinite_theory.specs.InfiniteMaps.{IsInfiniteMap}
use Rattle.infinite_theory.proofs.InfiniteTransport.{x_irreducible}
use Rattle.ring_lemmas.specs.Ring.{CommRing}

-- where l·u + r·x is 1, the parts of z add up
pub sum_of_parts : {A : Type 0} (R : CommRing A) (l u r x z : A) → R.◌⊕◌ (R.◌⊗◌ l u) (R.◌⊗◌ r x) ≡ R.𝟙
    → R.◌⊕◌ (R.◌⊗◌ l (R.◌⊗◌ u z)) (R.◌⊗◌ (R.◌⊗◌ r z) x) ≡ z
sum_of_parts R l u r x z e =
    from_one R z e
    (ring R (l ∷ u ∷ r ∷ x ∷ z ∷ []) λ o i. simp (reads, o, i 0, i 1, i 2, i 3, i 4) (o.equal _ _ refl))

module _ (k : CodeField) (p q : PresValue) (c : ℕ) (f : Functions k q → Functions k p)
    (g : IsInfiniteMap k p q c f) where
  infixl 65 ◌⊕◌
  infixl 70 ◌⊗◌
  infixr 80 ⊖◌
  open functions k q use {𝟘, 𝟙, ◌⊕◌, ◌⊗◌, ⊖◌}

  abbrev X : Functions k q
  X = of_poly (equation_of k q) (x_poly k)

  abbrev Int : Functions k q → Type 0
  Int = IsIntegralAt (setting k q) Finite

  abbrev Inf : Functions k p → Type 0
  Inf = IsIntegralAt (setting k p) Infinite

  𝓝 : PrimeTo (functions k q).ops (IsPolynomial (equation_of k q)) (IsPrimeTo (equation_of k q) (x_poly k))
      (of_poly (equation_of k q) (x_poly k))
  𝓝 = prime_to (equation_of k q) (x_poly k) (x_irreducible k)

  𝓘 : IsSubring (functions k q).ops (IsIntegralAt (setting k q) Finite)
  𝓘 = integral_subring (equation_of k q)

  -- what holds of each image holds of each function
  pub each : (T : Functions k p → Type 0) → ((z : Functions k q) → T (f z)) → (w : Functions k p) → T w
  each T t w = let z = g.isomorphism.onto w in subst T z.1 (t z.0)

  pub prime_integral : (w : Functions k q) → IsPrimeTo (equation_of k q) (x_poly k) w
      → IsIntegralAt (setting k q) Finite w
  prime_integral w w_in = polynomial_integral (equation_of k q) w (𝓝.within w w_in)

  -- what is integral goes to what is integral at infinity
  pub integral_of : (z : Functions k q) → IsIntegralAt (setting k q) Finite z
      → IsIntegralAt (setting k p) Infinite (f z)
  integral_of z z_in =
      (g.integral z).0 (record {
        factor = 𝟙;
        factor_in = 𝓝.one_in;
        multiple_in = subst Int (sym (one_mul (functions k q) z)) z_in;
      })

  -- the infinite place that the images of a list span
  abbrev pub pushed : List (Functions k q) → Place (Functions k p)
  pushed gs = record { side = Infinite; generators = map f gs }

  -- a prime P over the variable of a ring O over k[x] that has the integral functions up to factors prime to the
  -- variable, spanned by a list over k[x]
  module _ (O P : Functions k q → Type 0) (𝓞 : IsSubring (functions k q).ops O)
      (base : (s : Functions k q) → IsPolynomial (equation_of k q) s → O s)
      (same : (z : Functions k q) → IsLocallyIn (equation_of k q) (x_poly k) O z
      ↔ IsLocallyIn (equation_of k q) (x_poly k) (IsIntegralAt (setting k q) Finite) z)
      (𝓟 : IsPrime (functions k q).ops O P) (over : P (of_poly (equation_of k q) (x_poly k)))
      (gs : List (Functions k q))
      (spanned : SameSet P (Span (functions k q).ops (IsPolynomial (equation_of k q)) gs)) where
    abbrev In : Functions k p → Type 0
    In = IsIn (setting k p) (pushed gs)

    abbrev Near : (Functions k q → Type 0) → Functions k q → Type 0
    Near L = IsLocallyIn (equation_of k q) (x_poly k) L

    near_of : (L : Functions k q → Type 0) (z : Functions k q) → L z → Near L z
    near_of L z m =
        record { factor = 𝟙; factor_in = 𝓝.one_in; multiple_in = subst L (sym (one_mul (functions k q) z)) m }

    -- the span of the images is P up to such factors, and O_inf is O
    to_near : (z : Functions k q) → In (f z) → Near P z
    to_near z m = let l = (g.spans gs z).1 m in
        record { factor = l.factor; factor_in = l.factor_in; multiple_in = (spanned _).1 l.multiple_in }

    of_near : (z : Functions k q) → Near P z → In (f z)
    of_near z m =
        (g.spans gs z).0 (record {
          factor = m.factor;
          factor_in = m.factor_in;
          multiple_in = (spanned _).0 m.multiple_in;
        })

    ring_near : (z : Functions k q) → Inf (f z) → Near O z
    ring_near z m = (same z).1 ((g.integral z).1 m)

    ring_image : (z : Functions k q) → Near O z → Inf (f z)
    ring_image z m = (g.integral z).0 ((same z).0 m)

    -- a member of O is in the place exactly where it is in P
    pub prime_members : (z : Functions k q) → O z → IsIn (setting k p) (pushed gs) (f z) ↔ P z
    prime_members z z_in = (
      λ n.
          let m = to_near z n in
          let b = 𝓝.comaximal m.factor m.factor_in in
          subst P (sum_of_parts (functions k q) b.left m.factor b.right X z b.is)
          (𝓟.ideal.sum_in _ _ (𝓟.ideal.scale_in b.left _ (base b.left b.left_in) m.multiple_in)
          (𝓟.ideal.scale_in (b.right ⊗ z) X (𝓞.product_in _ _ (base b.right b.right_in) z_in) over)),
      λ n. of_near z (near_of P z n),
    )

    -- the images span an infinite place
    pub prime_place : IsPlace (setting k p) (pushed gs)
    prime_place = record {
      integral = each (λ w. In w → Inf w) integral;
      ideal = each (λ z. (w : Functions k p) → Inf z → In w → In ((functions k p).◌⊗◌ z w))
          (λ z. each (λ w. Inf (f z) → In w → In ((functions k p).◌⊗◌ (f z) w)) (ideal z));
      proper = λ m. 𝓟.proper ((prime_members 𝟙 𝓞.one_in).0 (subst In (sym g.isomorphism.hom.𝟙) m));
      inverse = each
          (λ z. Inf z → ¬ (In z) → (w : Functions k p) × Inf w
          × In ((functions k p).◌⊕◌ ((functions k p).◌⊗◌ z w) ((functions k p).⊖◌ (functions k p).𝟙))) inverse;
    }
      where
        integral : (z : Functions k q) → In (f z) → Inf (f z)
        integral z m =
            let l = to_near z m in ring_image z
            (record { factor = l.factor; factor_in = l.factor_in; multiple_in = 𝓟.ideal.within _ l.multiple_in })

        ideal : (z w : Functions k q) → Inf (f z) → In (f w) → In ((functions k p).◌⊗◌ (f z) (f w))
        ideal z w z_in m =
            let a = ring_near z z_in in
            let b = to_near w m in
            subst In (g.isomorphism.hom.mul z w)
            (of_near (z ⊗ w)
            (record {
              factor = a.factor ⊗ b.factor;
              factor_in = 𝓝.product_in _ _ a.factor_in b.factor_in;
              multiple_in =
                  subst P (mul_mul (functions k q) a.factor z b.factor w)
                  (𝓟.ideal.scale_in _ _ a.multiple_in b.multiple_in);
            }))

        inverse : (z : Functions k q) → Inf (f z) → ¬ (In (f z))
            → (w : Functions k p) × Inf w
            × In ((functions k p).◌⊕◌ ((functions k p).◌⊗◌ (f z) w) ((functions k p).⊖◌ (functions k p).𝟙))
        inverse z z_in n =
            let a = ring_near z z_in in
            let i = 𝓟.invert (a.factor ⊗ z) a.multiple_in
            (λ m. n (of_near z (record { factor = a.factor; factor_in = a.factor_in; multiple_in = m }))) in (
              f (a.factor ⊗ i.inverse),
              ring_image _ (near_of O _
                  (𝓞.product_in _ _ (base a.factor (𝓝.within a.factor a.factor_in)) i.inverse_in)),
              subst In
                  (g.isomorphism.hom.add _ _
                  ∙ ap₂ (functions k p).◌⊕◌ (g.isomorphism.hom.mul z (a.factor ⊗ i.inverse))
                  (hom_neg (functions k q) (functions k p) f g.isomorphism.hom 𝟙
                  ∙ ap (functions k p).⊖◌ g.isomorphism.hom.𝟙))
                  (of_near _ (near_of P _ (subst P (ap (λ x. x ⊕ ⊖ 𝟙) (moved a.factor z i.inverse)) i.is))),
            )
          where
            moved : (u z w : Functions k q) → w ⊗ (u ⊗ z) ≡ z ⊗ (u ⊗ w)
            moved u z w = ring (functions k q) (u ∷ z ∷ w ∷ []) λ o i. simp (reads, o, i 0, i 1, i 2) (o.equal _ _ refl)

  module _ (gs : List (Functions k q)) where
    abbrev M : Functions k q → Type 0
    M = IsIn (setting k q) (finite (equation_of k q) gs)

    pub pushed_of : (z : Functions k q) → IsIn (setting k q) (finite (equation_of k q) gs) z
        → IsIn (setting k p) (pushed gs) (f z)
    pushed_of z m =
        (g.spans gs z).0 (record {
          factor = 𝟙;
          factor_in = 𝓝.one_in;
          multiple_in = subst M (sym (one_mul (functions k q) z)) m;
        })

    -- a finite place over the variable is a prime of the ring of integral functions
    module _ (place : IsPlace (setting k q) (finite (equation_of k q) gs))
        (over : IsIn (setting k q) (finite (equation_of k q) gs) (of_poly (equation_of k q) (x_poly k))) where
      pub pushed_members : (z : Functions k q) → IsIntegralAt (setting k q) Finite z
          → IsIn (setting k p) (pushed gs) (f z) → IsIn (setting k q) (finite (equation_of k q) gs) z
      pushed_members z z_in m =
          (prime_members Int M 𝓘 (polynomial_integral (equation_of k q)) (λ z. (λ n. n, λ n. n))
          (place_prime (equation_of k q) gs place) over gs (λ z. (λ n. n, λ n. n))
          z z_in).0 m

      pub pushed_place : IsPlace (setting k p) (pushed gs)
      pushed_place =
          prime_place Int M 𝓘 (polynomial_integral (equation_of k q)) (λ z. (λ n. n, λ n. n))
          (place_prime (equation_of k q) gs place) over gs (λ z. (λ n. n, λ n. n))

  -- two places that are the same as infinite places are the same
  pub pushed_same : (gs hs : List (Functions k q)) → IsPlace (setting k q) (finite (equation_of k q) gs)
      → IsPlace (setting k q) (finite (equation_of k q) hs)
      → IsIn (setting k q) (finite (equation_of k q) gs) (of_poly (equation_of k q) (x_poly k))
      → IsIn (setting k q) (finite (equation_of k q) hs) (of_poly (equation_of k q) (x_poly k))
      → IsSamePlace (setting k p) (pushed gs) (pushed hs)
      → IsSamePlace (setting k q) (finite (equation_of k q) gs) (finite (equation_of k q) hs)
  pushed_same gs hs place place' over over' s = record {
    side = refl;
    members = λ z. (
      λ m. pushed_members hs place' over' z (place.integral z m) ((s.members (f z)).0 (pushed_of gs z m)),
      λ m. pushed_members gs place over z (place'.integral z m) ((s.members (f z)).1 (pushed_of hs z m)),
    );
  }
