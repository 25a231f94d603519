-- The powers of y below the n-th, with the degrees 0, c, 2c, .., are a reduced basis of k[x][y] and the combinations
-- of k[t][Y], where Y = y/x^c.
use Rattle.std.proofs.Common.{◌≡◌, ◌↔◌, ℕ, zero, suc, ◌+◌, ◌*◌, List, [], ◌∷◌, map, length, All, refl, sym, ◌∙◌, ap, ap₂, subst, arith}
use Rattle.std.proofs.lemmas.Int.{ints}
use Rattle.std.proofs.lemmas.List.{length-map}
use Rattle.std.proofs.lemmas.List.Elements.{All-nil, All-cons}
use Rattle.std.proofs.Math.IntN.{ℤ, pos, ◌+ℤ◌, ◌-ℤ◌}
use Rattle.ring_lemmas.specs.Ring.{pow}
use Rattle.ring_lemmas.specs.Rows.{entry}
use Rattle.ring_theory.specs.Subsets.{Span}
use Rattle.ring_lemmas.specs.Sums.{sum_below}
use Rattle.ring_theory.proofs.Local.{power_in}
use Rattle.ring_lemmas.proofs.Ring.{pow_mul, mul_pow, mul_left_comm}
use Rattle.ring_theory.proofs.Subsets.{span_least}
use Rattle.ring_lemmas.proofs.Sums.{below_cong, below_first}
use Rattle.prime_theory.specs.Ideals.{SameSet}
use Rattle.linear_theory.specs.Module.{combine}
use Rattle.linear_theory.proofs.Combination.{combine_cong}
use Rattle.ff_fields.specs.Field.{CodeField}
use Rattle.ff_fields.specs.Code.{code_ring, code_domain}
use Rattle.ff_poly.specs.Polynomials.{Polynomial, polynomials, polynomials_domain, x_poly}
use Rattle.function_field.specs.Functions.{Equation, FunctionOf, ring_of, of_poly, y_of, degree_of_y, IsPolynomial}
use Rattle.function_field.specs.Values.{PresValue, Functions, functions, setting, equation_of}
use Rattle.function_field.proofs.OnSide.{of_poly_times}
use Rattle.function_field.proofs.ScalarRings.{polynomials_subring}
use Rattle.polynomial_theory.proofs.Lengths.{x_power_not_zero}
use Rattle.places_theory.proofs.YRoot.{poly_hom, at_y_plain}
use Rattle.trace_theory.specs.Traces.{HasPolynomialCoordinates}
use Rattle.trace_theory.proofs.IntegralLaw.{eval_sum}
use Rattle.lattice_theory.specs.Lattices.{polynomial_ops}
use Rattle.lattice_theory.proofs.Lattices.{lattice_module}
use Rattle.lattice_theory.proofs.Operations.{polynomial_lattice}
use Rattle.order_theory.proofs.LocalOrders.{power_value}
use Rattle.reduced_basis_theory.specs.Degree.{DegreeAtMost, degree}
use Rattle.reduced_basis_theory.specs.Reduced.{InLattice}
use Rattle.reduced_basis_theory.proofs.Degree.{degree_own, degree_product, degree_cancel}
use Rattle.infinite_theory.specs.InfiniteMaps.{IsInfiniteMap}
use Rattle.infinite_theory.proofs.SupportedLattices.{coordinates_ring}
use Rattle.space_theory.specs.Spaces.{IsLatticeAtInfinity, IsReducedBasis}
use Rattle.space_theory.proofs.AtInfinity.{combinations_lattice}
use Rattle.space_theory.proofs.FunctionModule.{functions_module}
use Rattle.space_theory.proofs.InfiniteBases.{x_to_t, free_at, level, multiples_reduced}
use Rattle.space_theory.proofs.LatticeBases.{span_of_lattice}
use Rattle.space_theory.proofs.Simultaneous.{degree_of_power}
use Rattle.divisor_theory.proofs.CombinationIndices.{Combinations}

module _ {k : CodeField} (c : Equation k) where
  infixl 65 ◌⊕◌
  infixl 70 ◌⊗◌
  open ring_of c use {ops, 𝟘, 𝟙, ◌⊕◌, ◌⊗◌}

  abbrev y : ℕ → FunctionOf c
  y i = pow (ring_of c).ops (y_of c) i

  -- y^i and the next powers, in the number n
  unfoldable pub powers : ℕ → ℕ → List (FunctionOf c)
  powers i zero = []
  powers i (suc n) = pow (ring_of c).ops (y_of c) i ∷ powers (suc i) n

  pub powers_length : (i n : ℕ) → length (powers i n) ≡ n
  unfolding powers
  powers_length i zero = refl
  powers_length i (suc n) = ap suc (powers_length (suc i) n)

  powers_sum : (p : ℕ → Polynomial k) (i n : ℕ) → combine (polynomial_ops c) p (powers i n)
      ≡ sum_below (ring_of c).ops n (λ j. of_poly c (p j) ⊗ y (i + j))
  unfolding powers
  powers_sum p i zero = refl
  powers_sum p i (suc n) =
      ap₂ ◌⊕◌ (ap (λ m. of_poly c (p 0) ⊗ y m) (let e : i ≡ i + 0 = omega arith in e))
      (powers_sum (λ j. p (suc j)) (suc i) n
      ∙ below_cong (ring_of c) n _ _
      (λ j l. ap (λ m. of_poly c (p (suc j)) ⊗ y m) (let e : suc i + j ≡ i + suc j = omega arith in e)))
      ∙ sym (below_first (ring_of c) n (λ j. of_poly c (p j) ⊗ y (i + j)))

  power_coordinates : (i : ℕ) → HasPolynomialCoordinates c (y i)
  power_coordinates i =
      power_in (ring_of c) (HasPolynomialCoordinates c) (coordinates_ring c) (y_of c)
      (record { coordinates = _; value = refl }) i

  powers_in : (i n : ℕ) → All (HasPolynomialCoordinates c) (powers i n)
  unfolding powers
  powers_in i zero = All-nil (HasPolynomialCoordinates c)
  powers_in i (suc n) =
      All-cons (HasPolynomialCoordinates c) (y i) (powers (suc i) n) (power_coordinates i) (powers_in (suc i) n)

  -- they span k[x][y]
  pub powers_lattice : (z : FunctionOf c) → HasPolynomialCoordinates c z
      → InLattice (code_ring k) (polynomial_ops c) (powers 0 (degree_of_y c)) z
  powers_lattice z m =
      let r = λ (i : ℕ). entry (polynomials k).ops (degree_of_y c) i m.coordinates in
      record {
        coefficient = r;
        is =
            m.value ∙ sym (at_y_plain c m.coordinates)
            ∙ eval_sum (polynomials k).ring (ring_of c) (of_poly c) (poly_hom c) (y_of c) (degree_of_y c) m.coordinates
            ∙ below_cong (ring_of c) (degree_of_y c) _ _
            (λ j l. ap (λ m. of_poly c (r j) ⊗ y m) (let e : j ≡ 0 + j = omega arith in e))
            ∙ sym (powers_sum r 0 (degree_of_y c));
      }

  pub powers_spanned : SameSet (HasPolynomialCoordinates c)
      (Span (ring_of c).ops (IsPolynomial c) (powers 0 (degree_of_y c)))
  powers_spanned z = (
    λ m. span_of_lattice c (powers 0 (degree_of_y c)) z (powers_lattice z m),
    λ h.
        span_least (ring_of c) (IsPolynomial c) (polynomials_subring c) (HasPolynomialCoordinates c)
        (lattice_module c (HasPolynomialCoordinates c) (polynomial_lattice c))
        (powers 0 (degree_of_y c)) (powers_in 0 (degree_of_y c)) z h,
  )

module _ (k : CodeField) (p q : PresValue) (c : ℕ) (f : Functions k q → Functions k p) (g : IsInfiniteMap k p q c f)
    (same : degree_of_y (equation_of k q) ≡ degree_of_y (equation_of k p)) where
  infixl 65 ◌⊕◌
  infixl 70 ◌⊗◌
  open functions k p use {𝟘, 𝟙, ◌⊕◌, ◌⊗◌}

  abbrev R : Equation k
  R = equation_of k p

  abbrev Q : Equation k
  Q = equation_of k q

  abbrev n : ℕ
  n = degree_of_y (equation_of k p)

  abbrev gs : List (Functions k q)
  gs = powers (equation_of k q) 0 (degree_of_y (equation_of k q))

  abbrev us : List (Functions k p)
  us = powers (equation_of k p) 0 (degree_of_y (equation_of k p))

  abbrev N : Functions k p → Type 0
  N = Combinations k p q c f g gs

  abbrev xp : ℕ → Polynomial k
  xp j = pow (polynomials k).ops (x_poly k) j

  hom_power : (z : Functions k q) (i : ℕ) → f (pow (functions k q).ops z i) ≡ pow (functions k p).ops (f z) i
  hom_power z zero = g.isomorphism.hom.𝟙
  hom_power z (suc i) = g.isomorphism.hom.mul z (pow (functions k q).ops z i) ∙ ap (λ w. f z ⊗ w) (hom_power z i)

  -- y^i is x^(c·i) times the image of Y^i
  power_is : (i : ℕ) → pow (functions k p).ops (y_of R) i
      ≡ of_poly R (xp (c * i)) ⊗ f (pow (functions k q).ops (y_of Q) i)
  power_is i =
      let t = (setting k p).one_over_x in
      let Y = pow (functions k p).ops (y_of R) i in
      sym
      (ap₂ ◌⊗◌ (power_value R (x_poly k) (c * i))
      (hom_power (y_of Q) i ∙ ap (λ w. pow (functions k p).ops w i) g.generator_is
      ∙ mul_pow (functions k p) (y_of R) (pow (functions k p).ops t c) i
      ∙ ap (λ w. Y ⊗ w) (sym (pow_mul (functions k p) t c i)))
      ∙ mul_left_comm (functions k p) _ Y _ ∙ ap (λ w. Y ⊗ w) (x_to_t R (c * i)) ∙ (functions k p).mul_one Y)

  -- so combinations of the powers of y are ones of the images of the powers of Y
  moved : (r : ℕ → Polynomial k) (i m : ℕ)
      → combine (polynomial_ops R) r (powers R i m)
      ≡ combine (polynomial_ops R) (λ j. (polynomials k).◌⊗◌ (r j) (xp (c * (i + j)))) (map f (powers Q i m))
  unfolding powers
  moved r i zero = refl
  moved r i (suc m) =
      ap₂ ◌⊕◌
      (ap (λ w. of_poly R (r 0) ⊗ w) (power_is i) ∙ sym ((functions k p).mul_assoc _ _ _)
      ∙ ap (λ w. w ⊗ f (pow (functions k q).ops (y_of Q) i))
      (of_poly_times R (r 0) (xp (c * i))
      ∙ ap (λ l. of_poly R ((polynomials k).◌⊗◌ (r 0) (xp (c * l)))) (let e : i ≡ i + 0 = omega arith in e)))
      (moved (λ j. r (suc j)) (suc i) m
      ∙ combine_cong (functions_module R) _ _ (map f (powers Q (suc i) m))
      (λ j l. ap (λ l. (polynomials k).◌⊗◌ (r (suc j)) (xp (c * l)))
      (let e : suc i + j ≡ i + suc j = omega arith in e)))

  𝓝 : IsLatticeAtInfinity (equation_of k p)
      (Combinations k p q c f g (powers (equation_of k q) 0 (degree_of_y (equation_of k q))))
  𝓝 = combinations_lattice k p q c f g (HasPolynomialCoordinates Q) (polynomial_lattice Q) gs (powers_spanned Q)

  count : length (map f gs) ≡ n
  count = length-map gs f ∙ powers_length Q 0 (degree_of_y Q) ∙ same

  some : (j : ℕ) → ¬ (xp j ≡ (polynomials k).𝟘)
  some j = x_power_not_zero k j

  product_degree : (a : Polynomial k) (j : ℕ) (m : ℤ)
      → DegreeAtMost (code_ring k) ((polynomials k).◌⊗◌ a (xp j)) (m +ℤ (pos 0 -ℤ pos 0))
      ↔ DegreeAtMost (code_ring k) a (m +ℤ (pos 0 -ℤ pos j))
  product_degree a j m = (
    λ h.
        let d : degree (code_ring k) (xp j) ≡ pos j = degree_of_power R j in
        let e : m +ℤ (pos 0 -ℤ pos 0) ≡ degree (code_ring k) (xp j) +ℤ (m +ℤ (pos 0 -ℤ pos j)) = omega (arith, ints) in
        degree_cancel (code_ring k) (code_domain k) (xp j) a _ (some j)
        (subst (λ b. DegreeAtMost (code_ring k) b (degree (code_ring k) (xp j) +ℤ (m +ℤ (pos 0 -ℤ pos j))))
        ((polynomials k).mul_comm a (xp j))
        (subst (DegreeAtMost (code_ring k) ((polynomials k).◌⊗◌ a (xp j))) e h)),
    λ h.
        let d : degree (code_ring k) (xp j) ≡ pos j = degree_of_power R j in
        let e : (m +ℤ (pos 0 -ℤ pos j)) +ℤ degree (code_ring k) (xp j) ≡ m +ℤ (pos 0 -ℤ pos 0) = omega (arith, ints) in
        subst (DegreeAtMost (code_ring k) ((polynomials k).◌⊗◌ a (xp j))) e
        (degree_product (code_ring k) (code_domain k) a (xp j) _ _ h (degree_own (code_ring k) (code_domain k) (xp j))),
  )

  pub standard_pair : IsReducedBasis (equation_of k p) (HasPolynomialCoordinates (equation_of k p))
      (Combinations k p q c f g (powers (equation_of k q) 0 (degree_of_y (equation_of k q))))
      (powers (equation_of k p) 0 (degree_of_y (equation_of k p))) (λ i. pos (c * i))
  standard_pair = record {
    at =
        multiples_reduced R N us (λ i. pos (c * i)) (powers_length R 0 n)
        (λ r e i l. zero_of (r i) (c * i)
        (subst (λ j. (polynomials k).◌⊗◌ (r i) (xp (c * j)) ≡ (polynomials k).𝟘) (zero_plus i)
        (free_at R (map f gs) count 𝓝.exponent 𝓝.taken _ (sym (images r) ∙ e) i l)))
        (λ z.
        let m = (polynomial_lattice R).full z in
        let s = powers_lattice R (of_poly R m.factor ⊗ z) m.multiple_in in
        record { denominator = m.factor; nonzero = m.some; coefficient = s.coefficient; is = s.is })
        (λ z e r e_some is.
        let b = level R (map f gs) count 𝓝.exponent 𝓝.taken z e (λ j. (polynomials k).◌⊗◌ (r j) (xp (c * (0 + j))))
        e_some (is ∙ images r) in (
          λ h i l. (product_degree (r i) (c * i) (degree (code_ring k) e)).0
              (subst (λ j. DegreeAtMost (code_ring k) ((polynomials k).◌⊗◌ (r i) (xp (c * j)))
              (degree (code_ring k) e +ℤ (pos 0 -ℤ pos 0))) (zero_plus i) (b.0 h i l)),
          λ h.
              b.1
              (λ i l.
              subst (λ j. DegreeAtMost (code_ring k) ((polynomials k).◌⊗◌ (r i) (xp (c * j)))
              (degree (code_ring k) e +ℤ (pos 0 -ℤ pos 0))) (sym (zero_plus i))
              ((product_degree (r i) (c * i) (degree (code_ring k) e)).1 (h i l))),
        ));
    lattice = λ z. (powers_lattice R z, λ h. (powers_spanned R z).1 (span_of_lattice R us z h));
  }
    where
      zero_plus : (i : ℕ) → 0 + i ≡ i
      zero_plus i = omega arith

      zero_of : (a : Polynomial k) (j : ℕ) → (polynomials k).◌⊗◌ a (xp j) ≡ (polynomials k).𝟘 → a ≡ (polynomials k).𝟘
      zero_of a j e = (polynomials_domain k).cancel_zero (xp j) a (some j) ((polynomials k).mul_comm (xp j) a ∙ e)

      images : (r : ℕ → Polynomial k) → combine (polynomial_ops R) r us
          ≡ combine (polynomial_ops R) (λ j. (polynomials k).◌⊗◌ (r j) (xp (c * (0 + j)))) (map f gs)
      images r =
          moved r 0 n ∙ ap (λ m. combine (polynomial_ops R) (λ j. (polynomials k).◌⊗◌ (r j) (xp (c * (0 + j))))
          (map f (powers Q 0 m))) (sym same)
