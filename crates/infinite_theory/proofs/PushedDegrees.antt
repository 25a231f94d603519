-- A prime over the variable of an order of the infinite presentation, and a finite place there, has the degree of the
-- infinite place that it gives.
use Rattle.std.proofs.Common.{◌↔◌, ◌≡◌, All, ℕ, ◌≤◌, List, [], ◌∷◌, length, map, refl, sym, ◌∙◌, ap, ap₂, subst, arith}
use Rattle.std.proofs.lemmas.List.{length-map}
use Rattle.std.proofs.lemmas.List.Elements.{All-nil, All-cons, All-head, All-tail, All-map, All-weaker}
use Rattle.ring_theory.specs.Subsets.{IsSubring, IsModule, Span}
use Rattle.ring_theory.specs.Local.{PrimeTo}
use Rattle.ring_lemmas.proofs.Ring.{one_mul, mul_zero}
use Rattle.ring_theory.proofs.RowMaps.{hom_zero, hom_neg}
use Rattle.ring_lemmas.proofs.Solver.{ring, reads, from_one}
use Rattle.ring_theory.proofs.Subsets.{span_module}
use Rattle.prime_theory.specs.Ideals.{SameSet}
use Rattle.prime_theory.specs.Primes.{IsPrime}
use Rattle.prime_theory.proofs.IntegralRing.{integral_ring}
use Rattle.ff_fields.specs.Field.{CodeField}
use Rattle.ff_poly.specs.Value.{value}
use Rattle.ff_poly.specs.Polynomials.{Polynomial, codes_of, value_codes_of, value_nil, x_poly}
use Rattle.function_field.specs.declared.side.Side.TheVariants.{Finite, Infinite}
use Rattle.function_field.specs.Functions.{of_poly, IsCode, IsPolynomial, IsFiniteAtInfinity}
use Rattle.function_field.specs.Values.{PresValue, Functions, functions, setting, equation_of}
use Rattle.function_field.specs.Spans.{combination}
use Rattle.function_field.specs.Places.{IsPlace, IsIn, IsIntegralAt}
use Rattle.function_field.specs.Divisors.{HasDegree}
use Rattle.function_field.specs.Infinity.{value_at, variable}
use Rattle.function_field.proofs.OnSide.{of_poly_zero}
use Rattle.function_field.proofs.ScalarRings.{finite_at_infinity_subring}
use Rattle.places_theory.proofs.Transport.{back, f_back, span_image}
use Rattle.order_theory.proofs.IntegralLattice.{integral_subring, polynomial_integral}
use Rattle.order_theory.proofs.LocalOrders.{prime_to}
use Rattle.order_theory.proofs.FinitePlaces.{finite, place_prime}
use Rattle.order_theory.proofs.Degrees.{HasClasses}
use Rattle.order_theory.specs.Orders.{IsPrimeTo}
use Rattle.infinite_theory.specs.Supported.{IsLocallyIn}
use Rattle.infinite_theory.specs.InfiniteMaps.{IsInfiniteMap}
use Rattle.infinite_theory.proofs.InfiniteTransport.{x_irreducible}
use Rattle.infinite_theory.proofs.PushedPlaces.{each, pushed, prime_members, prime_place}

module _ (k : CodeField) (p q : PresValue) (c : ℕ) (f : Functions k q → Functions k p)
    (g : IsInfiniteMap k p q c f) where
  infixl 65 ◌⊕◌
  infixl 70 ◌⊗◌
  infixr 80 ⊖◌
  open functions k q use {𝟘, 𝟙, ◌⊕◌, ◌⊗◌, ⊖◌}

  -- at most one code has no variable in it
  short_value : (w : List ℕ) → length w ≤ 1 → value_at k p (variable k p Infinite) w
      ≡ of_poly (equation_of k p) (value k w)
  short_value [] l = of_poly_zero (equation_of k p) ∙ ap (of_poly (equation_of k p)) (sym (value_nil k))
  short_value (a ∷ []) l =
      ap ((functions k p).◌⊕◌ (of_poly (equation_of k p) (value k (a ∷ []))))
      (mul_zero (functions k p) (variable k p Infinite)) ∙ (functions k p).add_zero _
  short_value (a ∷ b ∷ w) l = absurd (omega arith)

  pub constant_image : (a : Polynomial k) → length a.0 ≤ 1 → f (of_poly (equation_of k q) a)
      ≡ of_poly (equation_of k p) a
  constant_image a l =
      g.values a ∙ short_value (codes_of k a)
      (let e : length (codes_of k a) ≡ length a.0 = length-map a.0 (λ x. x.0) in omega arith)
      ∙ ap (of_poly (equation_of k p)) (value_codes_of k a)

  -- codes go to codes, and nothing else does
  code_image : (z : Functions k q) → IsCode (equation_of k q) z → IsCode (equation_of k p) (f z)
  code_image z m =
      record { code = m.code; no_degree = m.no_degree; value = ap f m.value ∙ constant_image m.code m.no_degree }

  code_back : (z : Functions k q) → IsCode (equation_of k p) (f z) → IsCode (equation_of k q) z
  code_back z m = record {
    code = m.code;
    no_degree = m.no_degree;
    value = g.isomorphism.injective z (of_poly (equation_of k q) m.code)
        (m.value ∙ sym (constant_image m.code m.no_degree));
  }

  abbrev lift : Functions k p → Functions k q
  lift w = back (functions k q) (functions k p) f g.isomorphism w

  f_lift : (w : Functions k p) → f (lift w) ≡ w
  f_lift w = f_back (functions k q) (functions k p) f g.isomorphism w

  combination_image : (cs : List (Functions k p)) (ws : List (Functions k q))
      → combination (functions k p).ops cs (map f ws) ≡ f (combination (functions k q).ops (map lift cs) ws)
  combination_image [] ws = sym (hom_zero (functions k q) (functions k p) f g.isomorphism.hom)
  combination_image (a ∷ cs) [] = sym (hom_zero (functions k q) (functions k p) f g.isomorphism.hom)
  combination_image (a ∷ cs) (w ∷ ws) =
      ap₂ (functions k p).◌⊕◌ (ap (λ x. (functions k p).◌⊗◌ x (f w)) (sym (f_lift a))
      ∙ sym (g.isomorphism.hom.mul (lift a) w)) (combination_image cs ws)
      ∙ sym (g.isomorphism.hom.add _ _)

  combination_in : (O : Functions k q → Type 0) → IsSubring (functions k q).ops O
      → ((s : Functions k q) → IsPolynomial (equation_of k q) s → O s)
      → (ds ws : List (Functions k q)) → All (IsCode (equation_of k q)) ds → All O ws
      → O (combination (functions k q).ops ds ws)
  combination_in O 𝓞 base [] ws h j = 𝓞.zero_in
  combination_in O 𝓞 base (d ∷ ds) [] h j = 𝓞.zero_in
  combination_in O 𝓞 base (d ∷ ds) (w ∷ ws) h j =
      let e = All-head (IsCode (equation_of k q)) d ds h in
      𝓞.sum_in _ _ (𝓞.product_in d w (base d (record { polynomial = e.code; value = e.value })) (All-head O w ws j))
      (combination_in O 𝓞 base ds ws (All-tail (IsCode (equation_of k q)) d ds h) (All-tail O w ws j))

  lifted_codes : (cs : List (Functions k p)) → All (IsCode (equation_of k p)) cs
      → All (IsCode (equation_of k q)) (map lift cs)
  lifted_codes cs h =
      All-map (IsCode (equation_of k q)) lift cs
      (All-weaker (IsCode (equation_of k p)) (λ w. IsCode (equation_of k q) (lift w))
      (λ w m. code_back (lift w) (subst (IsCode (equation_of k p)) (sym (f_lift w)) m)) cs h)

  zeros : (cs : List (Functions k p)) → All (λ d. d ≡ 𝟘) (map lift cs) → All (λ w. w ≡ (functions k p).𝟘) cs
  zeros [] h = All-nil _
  zeros (a ∷ cs) h =
      All-cons (λ w. w ≡ (functions k p).𝟘) a cs
      (sym (f_lift a) ∙ ap f (All-head (λ d. d ≡ 𝟘) (lift a) (map lift cs) h)
      ∙ hom_zero (functions k q) (functions k p) f g.isomorphism.hom)
      (zeros cs (All-tail (λ d. d ≡ 𝟘) (lift a) (map lift cs) h))

  -- a prime P over the variable of a ring O, as in `PushedPlaces`
  module _ (O P : Functions k q → Type 0) (𝓞 : IsSubring (functions k q).ops O)
      (base : (s : Functions k q) → IsPolynomial (equation_of k q) s → O s)
      (same : (z : Functions k q) → IsLocallyIn (equation_of k q) (x_poly k) O z
      ↔ IsLocallyIn (equation_of k q) (x_poly k) (IsIntegralAt (setting k q) Finite) z)
      (𝓟 : IsPrime (functions k q).ops O P) (over : P (of_poly (equation_of k q) (x_poly k)))
      (gs : List (Functions k q))
      (spanned : SameSet P (Span (functions k q).ops (IsPolynomial (equation_of k q)) gs)) where
    abbrev In : Functions k p → Type 0
    In = IsIn (setting k p) (pushed k p q c f g gs)

    abbrev Inf : Functions k p → Type 0
    Inf = IsIntegralAt (setting k p) Infinite

    𝓝 : PrimeTo (functions k q).ops (IsPolynomial (equation_of k q)) (IsPrimeTo (equation_of k q) (x_poly k))
        (of_poly (equation_of k q) (x_poly k))
    𝓝 = prime_to (equation_of k q) (x_poly k) (x_irreducible k)

    members : (z : Functions k q) → O z → In (f z) ↔ P z
    members = prime_members k p q c f g O P 𝓞 base same 𝓟 over gs spanned

    image : (z : Functions k q) → O z → Inf (f z)
    image z m =
        (g.integral z).0 ((same z).0
        (record { factor = 𝟙; factor_in = 𝓝.one_in; multiple_in = subst O (sym (one_mul (functions k q) z)) m }))

    𝓜 : IsModule (functions k p).ops (IsFiniteAtInfinity (equation_of k p)) (IsIn (setting k p) (pushed k p q c f g gs))
    𝓜 = span_module (functions k p) (IsFiniteAtInfinity (equation_of k p))
        (finite_at_infinity_subring (equation_of k p)) (map f gs)

    pub prime_degree : (d : ℕ) → HasClasses (equation_of k q) O P d → HasDegree (setting k p) (pushed k p q c f g gs) d
    prime_degree d deg = record {
      classes = map f deg.classes;
      count = length-map deg.classes f ∙ deg.count;
      members = All-map Inf f deg.classes (All-weaker O (λ z. Inf (f z)) image deg.classes deg.members);
      spanning = each k p q c f g
          (λ w. Inf w → (v : Functions k p)
          × Span (functions k p).ops (IsCode (equation_of k p)) (map f deg.classes) v
          × In ((functions k p).◌⊕◌ w ((functions k p).⊖◌ v))) spanning;
      independent = λ cs size all m.
          zeros cs
          (deg.independent (map lift cs) (length-map cs lift ∙ size) (lifted_codes cs all)
          ((members _ (combination_in O 𝓞 base (map lift cs) deg.classes (lifted_codes cs all) deg.members)).0
          (subst In (combination_image cs deg.classes) m)));
    }
      where
        infinite_product : (u w : Functions k p) → Inf u → Inf w → Inf ((functions k p).◌⊗◌ u w)
        infinite_product =
            (integral_ring (functions k p) (IsFiniteAtInfinity (equation_of k p))
            (finite_at_infinity_subring (equation_of k p))).product_in

        sum : (l u r x z v : Functions k q) → l ⊗ u ⊕ r ⊗ x ≡ 𝟙 → l ⊗ (u ⊗ z) ⊕ ⊖ v ⊕ (r ⊗ z) ⊗ x ≡ z ⊕ ⊖ v
        sum l u r x z v e =
            from_one (functions k q) z e
            (ring (functions k q) (l ∷ u ∷ r ∷ x ∷ z ∷ v ∷ []) λ o i. simp (reads, o, i 0, i 1, i 2, i 3, i 4, i 5)
            (o.equal _ _ refl))

        spanning : (z : Functions k q) → Inf (f z)
            → (v : Functions k p) × Span (functions k p).ops (IsCode (equation_of k p)) (map f deg.classes) v
            × In ((functions k p).◌⊕◌ (f z) ((functions k p).⊖◌ v))
        spanning z z_in =
            let a = (same z).1 ((g.integral z).1 z_in) in
            let b = 𝓝.comaximal a.factor a.factor_in in
            let y_in = 𝓞.product_in b.left (a.factor ⊗ z) (base b.left b.left_in) a.multiple_in in
            let s = deg.spanning (b.left ⊗ (a.factor ⊗ z)) y_in in (
              f s.0,
              span_image (functions k q) (functions k p) f g.isomorphism.hom (IsCode (equation_of k q))
                  (IsCode (equation_of k p)) code_image deg.classes s.0 s.1,
              subst In
                  (ap (λ x. (functions k p).◌⊕◌ (f (b.left ⊗ (a.factor ⊗ z) ⊕ ⊖ s.0)) x)
                  (ap (λ x. (functions k p).◌⊗◌ x (f (of_poly (equation_of k q) (x_poly k))))
                  (sym (g.isomorphism.hom.mul b.right z)) ∙ sym (g.isomorphism.hom.mul _ _))
                  ∙ sym (g.isomorphism.hom.add _ _)
                  ∙ ap f (sum b.left a.factor b.right (of_poly (equation_of k q) (x_poly k)) z s.0 b.is)
                  ∙ g.isomorphism.hom.add z (⊖ s.0)
                  ∙ ap ((functions k p).◌⊕◌ (f z)) (hom_neg (functions k q) (functions k p) f g.isomorphism.hom s.0))
                  (𝓜.sum_in _ _ ((members _ (𝓟.ideal.within _ s.2)).1 s.2)
                  ((prime_place k p q c f g O P 𝓞 base same 𝓟 over gs spanned).ideal _ _
                  (infinite_product (f b.right) (f z) (image b.right (base b.right b.right_in)) z_in)
                  ((members _ (𝓟.ideal.within _ over)).1 over))),
            )

  module _ (gs : List (Functions k q)) (place : IsPlace (setting k q) (finite (equation_of k q) gs))
      (over : IsIn (setting k q) (finite (equation_of k q) gs) (of_poly (equation_of k q) (x_poly k))) where
    pub pushed_degree : (d : ℕ) → HasDegree (setting k q) (finite (equation_of k q) gs) d
        → HasDegree (setting k p) (pushed k p q c f g gs) d
    pushed_degree d deg =
        prime_degree (IsIntegralAt (setting k q) Finite) (IsIn (setting k q) (finite (equation_of k q) gs))
        (integral_subring (equation_of k q))
        (polynomial_integral (equation_of k q)) (λ z. (λ n. n, λ n. n)) (place_prime (equation_of k q) gs place) over
        gs (λ z. (λ n. n, λ n. n)) d
        (record {
          classes = deg.classes;
          count = deg.count;
          members = deg.members;
          spanning = deg.spanning;
          independent = deg.independent;
        })
