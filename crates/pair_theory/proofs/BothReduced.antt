-- A basis of a lattice over the polynomials whose multiples by the x^(-d_i) are one of a lattice at infinity is a
-- reduced basis of the two, with the degrees d_i.
use Rattle.std.proofs.Common.{◌≡◌, ◌↔◌, ℕ, zero, suc, ◌+◌, ◌-◌, ◌<◌, ◌≤◌, List, [], ◌∷◌, length, refl, sym, ◌∙◌, ap, ap₂, subst, arith}
use Rattle.std.specs.Prelude.{neg_ℤ}
use Rattle.std.proofs.lemmas.Int.{ints}
use Rattle.std.proofs.Math.IntN.{ℤ, pos, negsuc, ◌+ℤ◌, ◌-ℤ◌}
use Rattle.ring_lemmas.specs.Ring.{pow}
use Rattle.ring_lemmas.proofs.Ring.{mul_zero, product_not_zero}
use Rattle.ring_lemmas.proofs.Solver.{ring, reads}
use Rattle.ring_theory.specs.Subsets.{Span}
use Rattle.ff_fields.specs.Field.{CodeField}
use Rattle.ff_fields.specs.Code.{code_ring, code_domain}
use Rattle.ff_poly.specs.Polynomials.{Polynomial, polynomials, polynomials_domain, x_poly, x_poly_not_zero}
use Rattle.function_field.specs.Functions.{Equation, FunctionOf, ring_of, of_poly, setting_of, degree_of_y, IsPolynomial, IsFiniteAtInfinity}
use Rattle.function_field.specs.Divisors.{x_to, shifted}
use Rattle.function_field.proofs.Spans.{span_list}
use Rattle.linear_theory.specs.Module.{combine}
use Rattle.linear_theory.specs.Lists.{entry}
use Rattle.places_theory.proofs.YRoot.{poly_hom}
use Rattle.trace_theory.proofs.FunctionPowers.{power_some}
use Rattle.lattice_theory.specs.Lattices.{polynomial_ops}
use Rattle.order_theory.proofs.LocalOrders.{power_value}
use Rattle.reduced_basis_theory.specs.Degree.{DegreeAtMost, degree}
use Rattle.reduced_basis_theory.specs.Reduced.{Coordinates, CoordinatesAtMost}
use Rattle.reduced_basis_theory.proofs.Degree.{degree_own, degree_product, degree_cancel, degree_multiply}
use Rattle.space_theory.specs.Spaces.{IsLatticeAtInfinity, IsReducedBasis, IsBasisOfBoth}
use Rattle.space_theory.proofs.InfiniteBases.{coordinates_at, free_at, level, multiples_reduced}
use Rattle.space_theory.proofs.LatticeBases.{lattice_of_span, span_of_lattice}
use Rattle.space_theory.proofs.Simultaneous.{power_cancel, degree_of_power}
use Rattle.divisor_theory.proofs.PowersOfX.{x_to_sum}

-- a number from which all integers of a list can be taken, and to which they can be added
magnitude : ℤ → ℕ
magnitude (pos j) = j
magnitude (negsuc j) = suc j

bound : List ℤ → ℕ
bound [] = 0
bound (d ∷ ds) = magnitude d + bound ds

below_bound : (ds : List ℤ) (i : ℕ) → i < length ds → magnitude (entry (pos 0) ds i) ≤ bound ds
unfolding bound
below_bound [] i l = absurd (omega (arith, l))
below_bound (d ∷ ds) zero l = omega arith
below_bound (d ∷ ds) (suc i) l = let r = below_bound ds i (omega (arith, l)) in omega (arith, r)

-- a number plus an integer, and less it
plus : ℕ → ℤ → ℕ
plus n (pos j) = n + j
plus n (negsuc j) = n - suc j

less : ℕ → ℤ → ℕ
less n (pos j) = n - j
less n (negsuc j) = n + suc j

plus_is : (n : ℕ) (d : ℤ) → magnitude d ≤ n → pos (plus n d) ≡ pos n +ℤ d
unfolding plus magnitude
plus_is n (pos j) l = omega (arith, ints)
plus_is n (negsuc j) l = omega (arith, ints, l)

less_is : (n : ℕ) (d : ℤ) → magnitude d ≤ n → pos (less n d) ≡ pos n -ℤ d
unfolding less magnitude
less_is n (pos j) l = omega (arith, ints, l)
less_is n (negsuc j) l = omega (arith, ints)

module _ {k : CodeField} (c : Equation k) where
  infixl 65 ◌⊕◌
  infixl 70 ◌⊗◌
  open ring_of c use {𝟘, 𝟙, ◌⊕◌, ◌⊗◌}

  abbrev X : ℕ → FunctionOf c
  X n = pow (ring_of c).ops (setting_of c).x n

  abbrev power : ℕ → Polynomial k
  power n = pow (polynomials k).ops (x_poly k) n

  shifted_count : (ds : List ℤ) (bs : List (FunctionOf c)) → length ds ≡ length bs
      → length (shifted (setting_of c) ds bs) ≡ length bs
  shifted_count [] [] l = refl
  shifted_count [] (b ∷ bs) l = absurd (omega (arith, l))
  shifted_count (d ∷ ds) [] l = absurd (omega (arith, l))
  shifted_count (d ∷ ds) (b ∷ bs) l = ap suc (shifted_count ds bs (omega (arith, l)))

  power_of : (a : Polynomial k) (n : ℕ) → of_poly c ((polynomials k).◌⊗◌ a (pow (polynomials k).ops (x_poly k) n))
      ≡ of_poly c a ⊗ pow (ring_of c).ops (setting_of c).x n
  power_of a n = (poly_hom c).mul a (power n) ∙ ap (λ w. of_poly c a ⊗ w) (power_value c (x_poly k) n)

  raised : (u n : ℕ) (d : ℤ) → pos u ≡ pos n +ℤ d → X u ⊗ x_to (setting_of c) (neg_ℤ d) ≡ X n
  raised u n d e =
      ap (λ m. x_to (setting_of c) m ⊗ x_to (setting_of c) (neg_ℤ d)) e
      ∙ ap (λ w. w ⊗ x_to (setting_of c) (neg_ℤ d)) (x_to_sum c (pos n) d)
      ∙ (ring_of c).mul_assoc (X n) (x_to (setting_of c) d) (x_to (setting_of c) (neg_ℤ d))
      ∙ ap (λ w. X n ⊗ w) (power_cancel c d) ∙ (ring_of c).mul_one (X n)

  lowered : (v n : ℕ) (d : ℤ) → pos v ≡ pos n -ℤ d → X v ≡ X n ⊗ x_to (setting_of c) (neg_ℤ d)
  lowered v n d e =
      let f : pos v ≡ pos n +ℤ neg_ℤ d = omega (arith, ints) in
      ap (x_to (setting_of c)) f ∙ x_to_sum c (pos n) (neg_ℤ d)

  -- coordinates at the b_i as coordinates at the x^(-d_i)·b_i, times a power of x
  raised_combine : (bs : List (FunctionOf c)) (ds : List ℤ) (n : ℕ) (p : ℕ → Polynomial k) (u : ℕ → ℕ)
      → length ds ≡ length bs → ((i : ℕ) → i < length ds → pos (u i) ≡ pos n +ℤ entry (pos 0) ds i)
      → combine (polynomial_ops c) (λ i. (polynomials k).◌⊗◌ (p i) (pow (polynomials k).ops (x_poly k) (u i)))
      (shifted (setting_of c) ds bs)
      ≡ X n ⊗ combine (polynomial_ops c) p bs
  raised_combine [] [] n p u l h = sym (mul_zero (ring_of c) (X n))
  raised_combine [] (d ∷ ds) n p u l h = absurd (omega (arith, l))
  raised_combine (b ∷ bs) [] n p u l h = absurd (omega (arith, l))
  raised_combine (b ∷ bs) (d ∷ ds) n p u l h =
      ap₂ ◌⊕◌
      (ap (λ w. w ⊗ (x_to (setting_of c) (neg_ℤ d) ⊗ b)) (power_of (p 0) (u 0))
      ∙ turn (of_poly c (p 0)) (X (u 0)) (x_to (setting_of c) (neg_ℤ d)) b
      ∙ ap (λ w. w ⊗ (of_poly c (p 0) ⊗ b)) (raised (u 0) n d (h 0 (omega arith))))
      (raised_combine bs ds n (λ i. p (suc i)) (λ i. u (suc i)) (omega (arith, l))
      (λ i less. h (suc i) (omega (arith, less))))
      ∙ sym ((ring_of c).mul_add (X n) (of_poly c (p 0) ⊗ b) (combine (polynomial_ops c) (λ i. p (suc i)) bs))
    where
      turn : (a u t b : FunctionOf c) → (a ⊗ u) ⊗ (t ⊗ b) ≡ (u ⊗ t) ⊗ (a ⊗ b)
      turn a u t b = ring (ring_of c) (a ∷ u ∷ t ∷ b ∷ []) λ q i. simp (reads, q, i 0, i 1, i 2, i 3) (q.equal _ _ refl)

  -- and back
  lowered_combine : (bs : List (FunctionOf c)) (ds : List ℤ) (n : ℕ) (p : ℕ → Polynomial k) (v : ℕ → ℕ)
      → length ds ≡ length bs → ((i : ℕ) → i < length ds → pos (v i) ≡ pos n -ℤ entry (pos 0) ds i)
      → combine (polynomial_ops c) (λ i. (polynomials k).◌⊗◌ (p i) (pow (polynomials k).ops (x_poly k) (v i))) bs
      ≡ X n ⊗ combine (polynomial_ops c) p (shifted (setting_of c) ds bs)
  lowered_combine [] [] n p v l h = sym (mul_zero (ring_of c) (X n))
  lowered_combine [] (d ∷ ds) n p v l h = absurd (omega (arith, l))
  lowered_combine (b ∷ bs) [] n p v l h = absurd (omega (arith, l))
  lowered_combine (b ∷ bs) (d ∷ ds) n p v l h =
      let y = x_to (setting_of c) (neg_ℤ d) in
      ap₂ ◌⊕◌
      (ap (λ w. w ⊗ b) (power_of (p 0) (v 0) ∙ ap (λ w. of_poly c (p 0) ⊗ w) (lowered (v 0) n d (h 0 (omega arith))))
      ∙ turn (of_poly c (p 0)) (X n) y b)
      (lowered_combine bs ds n (λ i. p (suc i)) (λ i. v (suc i)) (omega (arith, l))
      (λ i less. h (suc i) (omega (arith, less))))
      ∙ sym ((ring_of c).mul_add (X n) (of_poly c (p 0) ⊗ (y ⊗ b))
      (combine (polynomial_ops c) (λ i. p (suc i)) (shifted (setting_of c) ds bs)))
    where
      turn : (a x y b : FunctionOf c) → (a ⊗ (x ⊗ y)) ⊗ b ≡ x ⊗ (a ⊗ (y ⊗ b))
      turn a x y b = ring (ring_of c) (a ∷ x ∷ y ∷ b ∷ []) λ q i. simp (reads, q, i 0, i 1, i 2, i 3) (q.equal _ _ refl)

  -- the powers of x don't change what the degrees say
  raised_degree : (p e : Polynomial k) → ¬ (e ≡ (polynomials k).𝟘) → (u n : ℕ) (d : ℤ) → pos u ≡ pos n +ℤ d
      → DegreeAtMost (code_ring k) ((polynomials k).◌⊗◌ p (pow (polynomials k).ops (x_poly k) u))
      (degree (code_ring k) ((polynomials k).◌⊗◌ (pow (polynomials k).ops (x_poly k) n) e) +ℤ (pos 0 -ℤ pos 0))
      ↔ DegreeAtMost (code_ring k) p (degree (code_ring k) e +ℤ (pos 0 -ℤ d))
  raised_degree p e some u n d is =
      let a = degree_of_power c u in
      let b = degree_of_power c n in
      let some_n = power_some c (x_poly k) (x_poly_not_zero k) n in
      let some_u = power_some c (x_poly k) (x_poly_not_zero k) u in
      let m = degree_multiply (code_ring k) (code_domain k) (power n) e some_n some in
      let D = degree (code_ring k) e +ℤ (pos 0 -ℤ d) in
      let F = degree (code_ring k) ((polynomials k).◌⊗◌ (power n) e) +ℤ (pos 0 -ℤ pos 0) in
      let same : F ≡ degree (code_ring k) (power u) +ℤ D = omega (arith, ints) in (
        λ h.
            degree_cancel (code_ring k) (code_domain k) (power u) p D some_u
            (subst (λ w. DegreeAtMost (code_ring k) w (degree (code_ring k) (power u) +ℤ D))
            ((polynomials k).mul_comm p (power u))
            (subst (DegreeAtMost (code_ring k) ((polynomials k).◌⊗◌ p (power u))) same h)),
        λ h.
            subst (DegreeAtMost (code_ring k) ((polynomials k).◌⊗◌ p (power u)))
            (let r : D +ℤ degree (code_ring k) (power u) ≡ F = omega (arith, ints) in r)
            (degree_product (code_ring k) (code_domain k) p (power u) D (degree (code_ring k) (power u)) h
            (degree_own (code_ring k) (code_domain k) (power u))),
      )

  module _ (I N : FunctionOf c → Type 0) (𝓝 : IsLatticeAtInfinity c N) (bs : List (FunctionOf c)) (ds : List ℤ)
      (both : IsBasisOfBoth c I N bs ds) where
    abbrev hs : List (FunctionOf c)
    hs = shifted (setting_of c) ds bs

    abbrev d : ℕ → ℤ
    d i = entry (pos 0) ds i

    same_count : length ds ≡ length bs
    same_count = both.one_each ∙ sym both.count

    count : length (shifted (setting_of c) ds bs) ≡ degree_of_y c
    count = shifted_count ds bs same_count ∙ both.count

    in_span : (z : FunctionOf c) → N z ↔ Span (ring_of c).ops (IsFiniteAtInfinity c) (shifted (setting_of c) ds bs) z
    in_span z = (
      λ h. (span_list (ring_of c).ops (IsFiniteAtInfinity c) hs z).1 ((both.infinite z).0 h).in_span,
      λ h. (both.infinite z).1 h,
    )

    taken : (z : FunctionOf c)
        → Span (ring_of c).ops (IsFiniteAtInfinity c) (shifted (setting_of c) ds bs)
        (pow (ring_of c).ops (setting_of c).one_over_x (𝓝.exponent z) ⊗ z)
    taken z = (in_span _).0 (𝓝.taken z)

    u : ℕ → ℕ
    u i = plus (bound ds) (entry (pos 0) ds i)

    u_is : (i : ℕ) → i < length ds → pos (u i) ≡ pos (bound ds) +ℤ entry (pos 0) ds i
    unfolding u
    u_is i l = plus_is (bound ds) (d i) (below_bound ds i l)

    v : ℕ → ℕ
    v i = less (bound ds) (entry (pos 0) ds i)

    v_is : (i : ℕ) → i < length ds → pos (v i) ≡ pos (bound ds) -ℤ entry (pos 0) ds i
    unfolding v
    v_is i l = less_is (bound ds) (d i) (below_bound ds i l)

    raised_at : (p : ℕ → Polynomial k)
        → combine (polynomial_ops c) (λ i. (polynomials k).◌⊗◌ (p i) (pow (polynomials k).ops (x_poly k) (u i)))
        (shifted (setting_of c) ds bs)
        ≡ X (bound ds) ⊗ combine (polynomial_ops c) p bs
    raised_at p = raised_combine bs ds (bound ds) p u same_count u_is

    free : (p : ℕ → Polynomial k) → combine (polynomial_ops c) p bs ≡ 𝟘 → (i : ℕ) → i < degree_of_y c → p i
        ≡ (polynomials k).𝟘
    free p e i l =
        (polynomials_domain k).cancel_zero (power (u i)) (p i) (power_some c (x_poly k) (x_poly_not_zero k) (u i))
        ((polynomials k).mul_comm (power (u i)) (p i)
        ∙ free_at c hs count 𝓝.exponent taken (λ i. (polynomials k).◌⊗◌ (p i) (power (u i)))
        (raised_at p ∙ ap (λ w. X (bound ds) ⊗ w) e ∙ mul_zero (ring_of c) (X (bound ds))) i l)

    denominator : Polynomial k → Polynomial k
    denominator e = (polynomials k).◌⊗◌ (pow (polynomials k).ops (x_poly k) (bound ds)) e

    denominator_some : (e : Polynomial k) → ¬ (e ≡ (polynomials k).𝟘)
        → ¬ ((polynomials k).◌⊗◌ (pow (polynomials k).ops (x_poly k) (bound ds)) e ≡ (polynomials k).𝟘)
    denominator_some e some =
        product_not_zero (polynomials_domain k) (power (bound ds)) e
        (power_some c (x_poly k) (x_poly_not_zero k) (bound ds)) some

    times : (e : Polynomial k) (z : FunctionOf c)
        → of_poly c ((polynomials k).◌⊗◌ (pow (polynomials k).ops (x_poly k) (bound ds)) e) ⊗ z
        ≡ X (bound ds) ⊗ (of_poly c e ⊗ z)
    times e z =
        ap (λ w. w ⊗ z)
        ((poly_hom c).mul (power (bound ds)) e ∙ ap (λ w. w ⊗ of_poly c e) (power_value c (x_poly k) (bound ds)))
        ∙ (ring_of c).mul_assoc (X (bound ds)) (of_poly c e) z

    coordinates : (z : FunctionOf c) → Coordinates (code_ring k) (polynomial_ops c) bs z
    coordinates z =
        let s = coordinates_at c hs count 𝓝.exponent taken z in
        record {
          denominator = (polynomials k).◌⊗◌ (power (bound ds)) s.denominator;
          nonzero = denominator_some s.denominator s.nonzero;
          coefficient = λ i. (polynomials k).◌⊗◌ (s.coefficient i) (power (v i));
          is =
              times s.denominator z ∙ ap (λ w. X (bound ds) ⊗ w) s.is
              ∙ sym (lowered_combine bs ds (bound ds) s.coefficient v same_count v_is);
        }

    at_zero : (z : FunctionOf c) (e : Polynomial k) (p : ℕ → Polynomial k) → ¬ (e ≡ (polynomials k).𝟘)
        → of_poly c e ⊗ z ≡ combine (polynomial_ops c) p bs
        → N z ↔ CoordinatesAtMost (code_ring k) (degree_of_y c) (entry (pos 0) ds) e p (pos 0)
    at_zero z e p some is =
        let a =
        level c hs count 𝓝.exponent taken z ((polynomials k).◌⊗◌ (power (bound ds)) e)
        (λ i. (polynomials k).◌⊗◌ (p i) (power (u i))) (denominator_some e some)
        (times e z ∙ ap (λ w. X (bound ds) ⊗ w) is ∙ sym (raised_at p)) in
        let b = in_span z in
        let f = λ (i : ℕ) (l : i < degree_of_y c).
        raised_degree (p i) e some (u i) (bound ds) (d i) (u_is i (subst (λ m. i < m) (sym both.one_each) l)) in (
          λ h i l. (f i l).0 (a.0 (b.0 h) i l),
          λ h. b.1 (a.1 (λ i l. (f i l).1 (h i l))),
        )

    pub both_reduced : IsReducedBasis c I N bs (entry (pos 0) ds)
    both_reduced = record {
      at = multiples_reduced c N bs (entry (pos 0) ds) both.count free coordinates at_zero;
      lattice = λ z. (
        λ h. lattice_of_span c bs z
            ((span_list (ring_of c).ops (IsPolynomial c) bs z).1 ((both.finite z).0 h).in_span),
        λ h. (both.finite z).1 (span_of_lattice c bs z h),
      );
    }
