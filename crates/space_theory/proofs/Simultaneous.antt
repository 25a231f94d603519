-- A reduced basis of a pair is a basis of the lattice over the polynomials, and its multiples by the x^(-d_i) are one
-- of the lattice at infinity.
use Rattle.std.proofs.Common.{◌≡◌, ℕ, zero, suc, ◌<◌, ◌≤◌, ℤ, pos, negsuc, ◌+ℤ◌, ◌-ℤ◌, List, [], ◌∷◌, length, All, refl, sym, ◌∙◌, ap, ap₂, subst, arith}
use Rattle.std.proofs.Math.IntN.{neg_ℤ}
use Rattle.std.proofs.lemmas.Int.{ints}
use Rattle.std.proofs.lemmas.List.Elements.{All-nil, All-cons, All-head, All-tail}
use Rattle.ring_lemmas.specs.Ring.{pow}
use Rattle.ring_theory.specs.Subsets.{Span}
use Rattle.ring_lemmas.proofs.Ring.{mul_zero}
use Rattle.ring_lemmas.proofs.Solver.{ring, reads, from_one}
use Rattle.ring_theory.proofs.Subsets.{span_least}
use Rattle.ff_fields.specs.Field.{CodeField}
use Rattle.ff_fields.specs.Code.{code_ring, code_field, code_domain}
use Rattle.ff_poly.specs.Polynomials.{Polynomial, polynomials, x_poly, x_poly_not_zero}
use Rattle.function_field.specs.declared.side.Side.TheVariants.{Finite, Infinite}
use Rattle.function_field.specs.Functions.{Equation, FunctionOf, ring_of, of_poly, row_of, over, setting_of, degree_of_y, IsPolynomial, IsFiniteAtInfinity}
use Rattle.function_field.specs.Spans.{combination, IsIndependentList}
use Rattle.function_field.specs.Divisors.{x_to, shifted, SpansOnce}
use Rattle.function_field.proofs.OnSide.{den_inverse}
use Rattle.function_field.proofs.ScalarRings.{polynomials_subring, finite_at_infinity_subring, bottoms_not_zero, over_times, of_poly_one}
use Rattle.linear_theory.specs.Module.{combine}
use Rattle.linear_theory.specs.Lists.{entry, tabulate}
use Rattle.places_theory.proofs.YRoot.{poly_hom, over_times_den}
use Rattle.trace_theory.specs.Traces.{IsRational}
use Rattle.trace_theory.proofs.FunctionPowers.{power_some}
use Rattle.lattice_theory.specs.Lattices.{polynomial_ops}
use Rattle.order_theory.proofs.LocalOrders.{power_value}
use Rattle.reduced_basis_theory.specs.Degree.{size, DegreeAtMost, degree}
use Rattle.reduced_basis_theory.proofs.Degree.{size_is, degree_own, degree_product, degree_multiply, length_of_nonzero}
use Rattle.reduced_basis_theory.proofs.Graded.{multiple_in}
use Rattle.reduced_basis_theory.proofs.DualBasis.{length_tabulate}
use Rattle.reduced_basis_theory.proofs.Powers.{degree_power}
use Rattle.space_theory.specs.Spaces.{IsLatticeAtInfinity, multiples_of, IsReducedBasis, IsBasisOfBoth}
use Rattle.space_theory.proofs.FunctionModule.{functions_module, variable_is, polynomial_hom, cancel}
use Rattle.space_theory.proofs.Denominators.{share}
use Rattle.space_theory.proofs.LatticeBases.{lattice_of_span, span_of_lattice}
use Rattle.space_theory.proofs.InfiniteBases.{x_to_t}
use Rattle.space_theory.proofs.InfiniteIndices.{infinite_module, level_zero}
use Rattle.space_theory.proofs.ScalarLists.{independent_lists, span_once}
use Rattle.space_theory.proofs.RationalLists.{rational_independent}
use Rattle.space_theory.proofs.RationalPart.{polynomial_rational}

module _ {k : CodeField} (c : Equation k) where
  infixl 65 ◌⊕◌
  infixl 70 ◌⊗◌
  infixr 80 ⊖◌
  open ring_of c use {𝟘, 𝟙, ◌⊕◌, ◌⊗◌, ⊖◌}

  -- a/b is what b takes to a
  pub fraction_by : (a b : Polynomial k) (n : ¬ (b ≡ (polynomials k).𝟘)) (z : FunctionOf c) → of_poly c b ⊗ z
      ≡ of_poly c a → z ≡ over c (row_of c a) b n
  fraction_by a b n z e =
      sym (back z) ∙ ap (λ w. over c (row_of c (polynomials k).𝟙) b n ⊗ w) (e ∙ sym (over_times_den c a b n))
      ∙ back (over c (row_of c a) b n)
    where
      back : (z : FunctionOf c) → over c (row_of c (polynomials k).𝟙) b n ⊗ (of_poly c b ⊗ z) ≡ z
      back z =
          cancel c (over c (row_of c (polynomials k).𝟙) b n) (of_poly c b) z
          ((ring_of c).mul_comm _ _ ∙ den_inverse c b n)

  pub size_degree : (e : Polynomial k) → ¬ (e ≡ (polynomials k).𝟘) → size (degree (code_ring k) e) ≡ length e.0
  size_degree e some =
      let l = length_of_nonzero (code_ring k) (code_domain k) e some in
      let s = size_is (degree (code_ring k) e) (omega (arith, ints)) in
      omega (arith, ints)

  pub degree_of_power : (j : ℕ) → degree (code_ring k) (pow (polynomials k).ops (x_poly k) j) ≡ pos j
  degree_of_power j = ap (λ w. degree (code_ring k) (pow (polynomials k).ops w j)) (sym (variable_is k))
      ∙ degree_power (code_ring k) (code_field k) j

  pub power_cancel : (m : ℤ) → x_to (setting_of c) m ⊗ x_to (setting_of c) (neg_ℤ m) ≡ 𝟙
  power_cancel (pos zero) = (ring_of c).mul_one 𝟙
  power_cancel (pos (suc j)) = x_to_t c (suc j)
  power_cancel (negsuc j) = (ring_of c).mul_comm _ _ ∙ x_to_t c (suc j)

  -- p/e times x^m has degree at most 0 where p has at most that of e less m
  pub scaled_finite : (p e : Polynomial k) (some : ¬ (e ≡ (polynomials k).𝟘)) (m : ℤ)
      → DegreeAtMost (code_ring k) p (degree (code_ring k) e +ℤ (pos 0 -ℤ m))
      → IsFiniteAtInfinity c (over c (row_of c p) e some ⊗ x_to (setting_of c) m)
  scaled_finite p e some (pos j) h =
      let u = pow (polynomials k).ops (x_poly k) j in
      let d = degree_of_power j in
      let w : (degree (code_ring k) e +ℤ (pos 0 -ℤ pos j)) +ℤ degree (code_ring k) u
      ≡ degree (code_ring k) e = omega (arith, ints) in
      record {
        top = (polynomials k).◌⊗◌ p u;
        bottom = e;
        not_null = some;
        degrees =
            subst (λ s. length ((polynomials k).◌⊗◌ p u).0 ≤ s) (ap size w ∙ size_degree e some)
            (degree_product (code_ring k) (code_domain k) p u _ _ h (degree_own (code_ring k) (code_domain k) u));
        value =
            fraction_by ((polynomials k).◌⊗◌ p u) e some _
            (sym ((ring_of c).mul_assoc _ _ _)
            ∙ ap₂ ◌⊗◌ (over_times_den c p e some) (sym (power_value c (x_poly k) j)) ∙ sym ((poly_hom c).mul p u));
      }
  scaled_finite p e some (negsuc j) h =
      let u = pow (polynomials k).ops (x_poly k) (suc j) in
      let u_some = power_some c (x_poly k) (x_poly_not_zero k) (suc j) in
      let d = degree_of_power (suc j) in
      let f = degree_multiply (code_ring k) (code_domain k) e u some u_some in
      let w : degree (code_ring k) e +ℤ (pos 0 -ℤ negsuc j)
      ≡ degree (code_ring k) ((polynomials k).◌⊗◌ e u) = omega (arith, ints) in
      let both = bottoms_not_zero c e u some u_some in
      record {
        top = p;
        bottom = (polynomials k).◌⊗◌ e u;
        not_null = both;
        degrees = subst (λ s. length p.0 ≤ s) (ap size w ∙ size_degree ((polynomials k).◌⊗◌ e u) both) h;
        value =
            fraction_by p ((polynomials k).◌⊗◌ e u) both _
            (ap (λ a. a ⊗ (over c (row_of c p) e some ⊗ x_to (setting_of c) (negsuc j)))
            ((poly_hom c).mul e u ∙ ap (λ a. of_poly c e ⊗ a) (power_value c (x_poly k) (suc j)))
            ∙ swap (of_poly c e) _ (over c (row_of c p) e some) _ (x_to_t c (suc j)) ∙ over_times_den c p e some);
      }
    where
      swap : (a u s v : FunctionOf c) → u ⊗ v ≡ 𝟙 → a ⊗ u ⊗ (s ⊗ v) ≡ a ⊗ s
      swap a u s v f =
          from_one (ring_of c) (a ⊗ s) f
          (ring (ring_of c) (a ∷ u ∷ s ∷ v ∷ []) λ q i. simp (reads, q, i 0, i 1, i 2, i 3) (q.equal _ _ refl))

  -- the degrees as a list, beside the basis
  abbrev pub listed : List (FunctionOf c) → (ℕ → ℤ) → List ℤ
  listed bs d = tabulate (length bs) d

  rational_product : (a b : FunctionOf c) → IsRational c a → IsRational c b → IsRational c (a ⊗ b)
  rational_product a b h g = record {
    top = (polynomials k).◌⊗◌ h.top g.top;
    bottom = (polynomials k).◌⊗◌ h.bottom g.bottom;
    not_null = bottoms_not_zero c h.bottom g.bottom h.not_null g.not_null;
    value = ap₂ ◌⊗◌ h.value g.value ∙ over_times c h.top g.top h.bottom g.bottom h.not_null g.not_null;
  }

  power_rational : (z : FunctionOf c) → IsRational c z → (j : ℕ) → IsRational c (pow (ring_of c).ops z j)
  power_rational z h zero = subst (IsRational c) (sym (of_poly_one c)) (polynomial_rational c (polynomials k).𝟙)
  power_rational z h (suc j) = rational_product z _ h (power_rational z h j)

  pub x_to_rational : (m : ℤ) → IsRational c (x_to (setting_of c) m)
  x_to_rational (pos j) = power_rational (setting_of c).x (polynomial_rational c (x_poly k)) j
  x_to_rational (negsuc j) =
      power_rational (setting_of c).one_over_x
      (record { top = (polynomials k).𝟙; bottom = x_poly k; not_null = x_poly_not_zero k; value = refl }) (suc j)

  -- coefficients at the x^(-d_i)·b_i as coefficients at the b_i
  scaled : List (FunctionOf c) → (ℕ → ℤ) → List (FunctionOf c)
  scaled [] d = []
  scaled (r ∷ rs) d = (r ⊗ x_to (setting_of c) (neg_ℤ (d 0))) ∷ scaled rs (λ i. d (suc i))

  scaled_length : (rs : List (FunctionOf c)) (d : ℕ → ℤ) → length (scaled rs d) ≡ length rs
  unfolding scaled
  scaled_length [] d = refl
  scaled_length (r ∷ rs) d = ap suc (scaled_length rs (λ i. d (suc i)))

  scaled_rational : (rs : List (FunctionOf c)) (d : ℕ → ℤ) → All (IsFiniteAtInfinity c) rs
      → All (IsRational c) (scaled rs d)
  unfolding scaled
  scaled_rational [] d h = All-nil (IsRational c)
  scaled_rational (r ∷ rs) d h =
      let a = All-head (IsFiniteAtInfinity c) r rs h in
      All-cons (IsRational c) _ _
      (rational_product r _ (record { top = a.top; bottom = a.bottom; not_null = a.not_null; value = a.value })
      (x_to_rational (neg_ℤ (d 0))))
      (scaled_rational rs (λ i. d (suc i)) (All-tail (IsFiniteAtInfinity c) r rs h))

  scaled_combination : (rs bs : List (FunctionOf c)) (d : ℕ → ℤ) → length rs ≡ length bs
      → combination (ring_of c).ops (scaled rs d) bs
      ≡ combination (ring_of c).ops rs (shifted (setting_of c) (listed bs d) bs)
  unfolding scaled
  scaled_combination [] [] d l = refl
  scaled_combination [] (b ∷ bs) d l = absurd (omega arith)
  scaled_combination (r ∷ rs) [] d l = absurd (omega arith)
  scaled_combination (r ∷ rs) (b ∷ bs) d l =
      ap₂ ◌⊕◌ ((ring_of c).mul_assoc r _ b) (scaled_combination rs bs (λ i. d (suc i)) (omega arith))

  scaled_zero : (rs : List (FunctionOf c)) (d : ℕ → ℤ) → All (λ r. r ≡ 𝟘) (scaled rs d) → All (λ r. r ≡ 𝟘) rs
  unfolding scaled
  scaled_zero [] d h = All-nil (λ r. r ≡ 𝟘)
  scaled_zero (r ∷ rs) d h =
      All-cons (λ r. r ≡ 𝟘) r rs
      (back r _ _ (power_cancel (d 0)) (All-head (λ r. r ≡ 𝟘) _ _ h))
      (scaled_zero rs (λ i. d (suc i)) (All-tail (λ r. r ≡ 𝟘) _ _ h))
    where
      back : (r u v : FunctionOf c) → u ⊗ v ≡ 𝟙 → r ⊗ v ≡ 𝟘 → r ≡ 𝟘
      back r u v e f =
          sym ((ring_of c).mul_one r) ∙ ap (λ w. r ⊗ w) (sym e) ∙ swap r u v ∙ ap (λ w. u ⊗ w) f
          ∙ mul_zero (ring_of c) u
        where
          swap : (r u v : FunctionOf c) → (ring_of c).◌⊗◌ r ((ring_of c).◌⊗◌ u v)
              ≡ (ring_of c).◌⊗◌ u ((ring_of c).◌⊗◌ r v)
          swap r u v = ring (ring_of c) (r ∷ u ∷ v ∷ []) λ q i. simp (reads, q, i 0, i 1, i 2) (q.equal _ _ refl)

  pub shifted_length : (bs : List (FunctionOf c)) (d : ℕ → ℤ) → length (shifted (setting_of c) (listed bs d) bs)
      ≡ length bs
  shifted_length [] d = refl
  shifted_length (b ∷ bs) d = ap suc (shifted_length bs (λ i. d (suc i)))

  -- the x^(-d_i)·b_i are independent over the fractions of degree at most 0
  pub shifted_independent : (bs : List (FunctionOf c)) (d : ℕ → ℤ)
      → ((p : ℕ → Polynomial k) → combine (polynomial_ops c) p bs ≡ 𝟘 → (i : ℕ) → i < length bs → p i
      ≡ (polynomials k).𝟘)
      → IsIndependentList (ring_of c).ops (IsFiniteAtInfinity c) (shifted (setting_of c) (tabulate (length bs) d) bs)
  shifted_independent bs d free rs l h e =
      let l' : length rs ≡ length bs = l ∙ shifted_length bs d in
      scaled_zero rs d
      (rational_independent c bs free (scaled rs d) (scaled_length rs d ∙ l') (scaled_rational rs d h)
      (scaled_combination rs bs d l' ∙ e))

  module _ (e : Polynomial k) (some : ¬ (e ≡ (polynomials k).𝟘)) where
    abbrev part_of : FunctionOf c
    part_of = over c (row_of c (polynomials k).𝟙) e some

    -- combinations of bounded degree are in the span of the x^(-d_i)·b_i
    bounded_in : (bs : List (FunctionOf c)) (d : ℕ → ℤ) (p : ℕ → Polynomial k)
        → ((i : ℕ) → i < length bs → DegreeAtMost (code_ring k) (p i) (degree (code_ring k) e +ℤ (pos 0 -ℤ d i)))
        → Span (ring_of c).ops (IsFiniteAtInfinity c) (shifted (setting_of c) (listed bs d) bs)
        (part_of ⊗ combine (polynomial_ops c) p bs)
    bounded_in [] d p h = mul_zero (ring_of c) part_of
    bounded_in (b ∷ bs) d p h = record {
      scalar = over c (row_of c (p 0)) e some ⊗ x_to (setting_of c) (d 0);
      scalar_in = scaled_finite (p 0) e some (d 0) (h 0 (omega arith));
      rest = part_of ⊗ combine (polynomial_ops c) (λ i. p (suc i)) bs;
      rest_in = bounded_in bs (λ i. d (suc i)) (λ i. p (suc i)) (λ i l. h (suc i) (omega arith));
      is =
          share c e some part_of b _ (of_poly c e) (of_poly c (p 0)) (over c (row_of c (p 0)) e some)
          (den_inverse c e some) (over_times_den c (p 0) e some)
          ∙ ap (λ w. w ⊕ part_of ⊗ combine (polynomial_ops c) (λ i. p (suc i)) bs)
          (apart (over c (row_of c (p 0)) e some) b _ _ (power_cancel (d 0)));
    }
      where
        apart : (s b u v : FunctionOf c) → u ⊗ v ≡ 𝟙 → s ⊗ b ≡ s ⊗ u ⊗ (v ⊗ b)
        apart s b u v f =
            sym (from_one (ring_of c) (s ⊗ b) f
            (ring (ring_of c) (s ∷ b ∷ u ∷ v ∷ []) λ q i. simp (reads, q, i 0, i 1, i 2, i 3) (q.equal _ _ refl)))

    pub span_of_bounded : (bs : List (FunctionOf c)) (d : ℕ → ℤ) (p : ℕ → Polynomial k) (z : FunctionOf c)
        → ((i : ℕ) → i < length bs → DegreeAtMost (code_ring k) (p i) (degree (code_ring k) e +ℤ (pos 0 -ℤ d i)))
        → of_poly c e ⊗ z ≡ combine (polynomial_ops c) p bs
        → Span (ring_of c).ops (IsFiniteAtInfinity c) (shifted (setting_of c) (tabulate (length bs) d) bs) z
    span_of_bounded bs d p z h is =
        subst (Span (ring_of c).ops (IsFiniteAtInfinity c) (shifted (setting_of c) (listed bs d) bs))
        (ap (λ w. part_of ⊗ w) (sym is)
        ∙ cancel c part_of (of_poly c e) z ((ring_of c).mul_comm _ _ ∙ den_inverse c e some))
        (bounded_in bs d p h)

  shifted_all : (P : FunctionOf c → Type 0) (bs : List (FunctionOf c)) (d : ℕ → ℤ)
      → ((i : ℕ) → i < length bs → P (x_to (setting_of c) (neg_ℤ (d i)) ⊗ entry 𝟘 bs i))
      → All P (shifted (setting_of c) (listed bs d) bs)
  shifted_all P [] d h = All-nil P
  shifted_all P (b ∷ bs) d h =
      All-cons P _ _ (h 0 (omega arith)) (shifted_all P bs (λ i. d (suc i)) (λ i l. h (suc i) (omega arith)))

  module _ (I N : FunctionOf c → Type 0) (𝓝 : IsLatticeAtInfinity c N) (bs : List (FunctionOf c)) (d : ℕ → ℤ)
      (reduced : IsReducedBasis c I N bs d) where
    below : (i : ℕ) → i < length bs → i < degree_of_y c
    below i l = subst (λ n. i < n) reduced.at.count l

    free_in : (p : ℕ → Polynomial k) → combine (polynomial_ops c) p bs ≡ 𝟘 → (i : ℕ) → i < length bs → p i
        ≡ (polynomials k).𝟘
    free_in p e i l = reduced.at.free p e i (below i l)

    finite : SpansOnce (setting_of c) Finite I bs
    finite z = (
      λ h.
          span_once (ring_of c) (IsPolynomial c) (polynomials_subring c) bs
          (λ rs l h e. independent_lists (polynomials k).ring (ring_of c) (of_poly c) (polynomial_hom c)
          (IsPolynomial c) (λ z m. (m.polynomial, m.value)) (λ v. v ≡ 𝟘) bs free_in rs l h e)
          z (span_of_lattice c bs z ((reduced.lattice z).0 h)),
      λ h. (reduced.lattice z).1 (lattice_of_span c bs z h),
    )

    member : (i : ℕ) → i < length bs → N (x_to (setting_of c) (neg_ℤ (d i)) ⊗ entry 𝟘 bs i)
    member i l =
        let o = degree_own (code_ring k) (code_domain k) (polynomials k).𝟙 in
        let w : degree (code_ring k) (polynomials k).𝟙 ≡ d i -ℤ d i = one_degree i in
        subst (λ b. N (x_to (setting_of c) (neg_ℤ (d i)) ⊗ b)) ((functions_module c).one_scale (entry 𝟘 bs i))
        (multiple_in (code_ring k) (code_field k) (functions_module c) (degree_of_y c) (multiples_of c N) bs d
        reduced.at (d i) i (polynomials k).𝟙 (below i l)
        (subst (DegreeAtMost (code_ring k) (polynomials k).𝟙) w o))
      where
        one_degree : (i : ℕ) → degree (code_ring k) (polynomials k).𝟙 ≡ d i -ℤ d i
        one_degree i = let f = degree_of_power 0 in omega (arith, ints)

    infinite : SpansOnce (setting_of c) Infinite N (shifted (setting_of c) (tabulate (length bs) d) bs)
    infinite z = (
      λ h.
          span_once (ring_of c) (IsFiniteAtInfinity c) (finite_at_infinity_subring c) _
          (shifted_independent bs d free_in) z
          (let s = reduced.at.coordinates z in
          span_of_bounded s.denominator s.nonzero bs d s.coefficient z
          (λ i l. (reduced.at.degrees (pos 0) z s.denominator s.coefficient s.nonzero s.is).0
          ((level_zero c N z).1 h) i (below i l)) s.is),
      λ h. span_least (ring_of c) (IsFiniteAtInfinity c) (finite_at_infinity_subring c) N (infinite_module c N 𝓝) _
          (shifted_all N bs d member) z h,
    )

    pub basis_of_both : IsBasisOfBoth c I N bs (tabulate (length bs) d)
    basis_of_both =
        record {
          count = reduced.at.count;
          one_each = length_tabulate (length bs) d ∙ reduced.at.count;
          finite = finite;
          infinite = infinite;
        }
