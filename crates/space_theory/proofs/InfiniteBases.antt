-- A lattice at infinity has a basis of n functions, and its multiples x^m·N are known from the degrees of coordinates.
use Rattle.std.proofs.Common.{◌≡◌, ◌↔◌, ◌≤◌, ◌<◌, ℕ, ℤ, pos, ◌+ℤ◌, ◌-ℤ◌, List, length, sym, ◌∙◌, ap, ap₂, subst, arith}
use Rattle.std.proofs.lemmas.Int.{ints}
use Rattle.std.proofs.lemmas.List.Elements.{All-weaker}
use Rattle.ring_lemmas.specs.Ring.{pow}
use Rattle.ring_theory.specs.Subsets.{Span}
use Rattle.ring_lemmas.proofs.Ring.{mul_pow, pow_one_base, mul_left_comm}
use Rattle.ff_fields.specs.Field.{CodeField}
use Rattle.ff_fields.specs.Code.{code_ring, code_field, code_domain}
use Rattle.ff_poly.specs.Polynomials.{Polynomial, polynomials, x_poly}
use Rattle.function_field.specs.Functions.{Equation, FunctionOf, ring_of, of_poly, setting_of, degree_of_y, IsPolynomial, IsFiniteAtInfinity}
use Rattle.linear_theory.specs.Module.{combine}
use Rattle.linear_theory.proofs.Combination.{combine_scale}
use Rattle.lattice_theory.specs.Lattices.{IsLattice, polynomial_ops}
use Rattle.lattice_theory.proofs.Bases.{lattice_basis}
use Rattle.order_theory.proofs.LocalOrders.{power_value}
use Rattle.reduced_basis_theory.specs.Degree.{size, DegreeAtMost, degree}
use Rattle.reduced_basis_theory.specs.Reduced.{InLattice, Coordinates, CoordinatesAtMost, IsReducedAt}
use Rattle.reduced_basis_theory.proofs.Degree.{size_is, degree_own, degree_product, degree_cancel, length_of_nonzero}
use Rattle.reduced_basis_theory.proofs.Converse.{same_coefficients}
use Rattle.reduced_basis_theory.proofs.Family.{family_reduced}
use Rattle.reduced_basis_theory.proofs.Division.{quotient, undo_power}
use Rattle.space_theory.specs.Spaces.{IsLatticeAtInfinity, multiples_of}
use Rattle.reduced_basis_theory.proofs.Free.{free_of_spanning}
use Rattle.space_theory.proofs.FunctionModule.{functions_module, division, multiples_are, x_times_t, cancel}
use Rattle.space_theory.proofs.Denominators.{short_coordinates, span_of_short}
use Rattle.space_theory.proofs.LatticeBases.{lattice_of_span, span_of_lattice}
use Rattle.space_theory.proofs.FewGenerators.{FewGenerators, few_generators}

module _ {k : CodeField} (c : Equation k) where
  infixl 65 ◌⊕◌
  infixl 70 ◌⊗◌
  open ring_of c use {𝟘, 𝟙, ◌⊕◌, ◌⊗◌}

  pub x_to_t : (j : ℕ) → pow (ring_of c).ops (setting_of c).x j ⊗ pow (ring_of c).ops (setting_of c).one_over_x j ≡ 𝟙
  x_to_t j =
      sym (mul_pow (ring_of c) (setting_of c).x (setting_of c).one_over_x j)
      ∙ ap (λ w. pow (ring_of c).ops w j) (x_times_t c) ∙ pow_one_base (ring_of c) j

  -- n functions whose span at infinity powers of 1/x take each function into
  module _ (hs : List (FunctionOf c)) (count : length hs ≡ degree_of_y c) (m : FunctionOf c → ℕ)
      (taken : (z : FunctionOf c)
      → Span (ring_of c).ops (IsFiniteAtInfinity c) hs (pow (ring_of c).ops (setting_of c).one_over_x (m z) ⊗ z)) where
    pub coordinates_at : (z : FunctionOf c) → Coordinates (code_ring k) (polynomial_ops c) hs z
    coordinates_at z =
        let s = short_coordinates c hs _ (taken z) in
        let u = pow (polynomials k).ops (x_poly k) (m z) in
        record {
          denominator = s.denominator;
          nonzero = s.nonzero;
          coefficient = λ i. (polynomials k).◌⊗◌ u (s.coefficient i);
          is =
              sym (cancel c _ _ (of_poly c s.denominator ⊗ z) (x_to_t (m z)))
              ∙ ap₂ ◌⊗◌ (sym (power_value c (x_poly k) (m z)))
              (mul_left_comm (ring_of c) _ (of_poly c s.denominator) z ∙ s.is)
              ∙ sym (combine_scale (functions_module c) u s.coefficient hs);
        }

    lattice : IsLattice c (Span (ring_of c).ops (IsPolynomial c) hs)
    lattice = record {
      generators = hs;
      spanned = λ z. (λ h. h, λ h. h);
      full = λ z. let s = coordinates_at z in record {
        factor = s.denominator;
        some = s.nonzero;
        multiple_in = span_of_combination s.coefficient _ s.is;
      };
    }
      where
        span_of_combination : (p : ℕ → Polynomial k) (z : FunctionOf c) → z ≡ combine (polynomial_ops c) p hs
            → Span (ring_of c).ops (IsPolynomial c) hs z
        span_of_combination p z e = span_of_lattice c hs z (record { coefficient = p; is = e })

    pub free_at : (r : ℕ → Polynomial k) → combine (polynomial_ops c) r hs ≡ 𝟘 → (i : ℕ) → i < degree_of_y c → r i
        ≡ (polynomials k).𝟘
    free_at =
        let b = lattice_basis c (Span (ring_of c).ops (IsPolynomial c) hs) lattice in
        free_of_spanning (code_ring k) (code_field k) (functions_module c) (degree_of_y c) b.0 b.1
        (λ p e i l. b.2.independent p e i (subst (λ n. i < n) (sym b.1) l)) hs count
        (All-weaker (Span (ring_of c).ops (IsPolynomial c) hs) (InLattice (code_ring k) (polynomial_ops c) hs)
        (lattice_of_span c hs) b.0 b.2.members_in)

    long : (e : Polynomial k) → ¬ (e ≡ (polynomials k).𝟘) → size (degree (code_ring k) e +ℤ (pos 0 -ℤ pos 0))
        ≡ length e.0
    long e some =
        let l = length_of_nonzero (code_ring k) (code_domain k) e some in
        let w : degree (code_ring k) e +ℤ (pos 0 -ℤ pos 0) ≡ degree (code_ring k) e = omega (arith, ints) in
        let s = size_is (degree (code_ring k) e) (omega (arith, ints)) in
        ap size w ∙ (omega (arith, ints))

    pub level : (z : FunctionOf c) (e : Polynomial k) (p : ℕ → Polynomial k) → ¬ (e ≡ (polynomials k).𝟘)
        → of_poly c e ⊗ z ≡ combine (polynomial_ops c) p hs
        → Span (ring_of c).ops (IsFiniteAtInfinity c) hs z
        ↔ CoordinatesAtMost (code_ring k) (degree_of_y c) (λ i. pos 0) e p (pos 0)
    level z e p some is = (to, from)
      where
        short_at : (f : Polynomial k) → ¬ (f ≡ (polynomials k).𝟘) → (a : Polynomial k) → length a.0 ≤ length f.0
            → DegreeAtMost (code_ring k) a (degree (code_ring k) f)
        short_at f f_some a l = let o = degree_own (code_ring k) (code_domain k) f in omega (arith, l, o)

        to : Span (ring_of c).ops (IsFiniteAtInfinity c) hs z
            → CoordinatesAtMost (code_ring k) (degree_of_y c) (λ i. pos 0) e p (pos 0)
        to h i l =
            let s = short_coordinates c hs z h in
            let f = s.denominator in
            let same : (polynomials k).◌⊗◌ f (p i) ≡ (polynomials k).◌⊗◌ e (s.coefficient i)
            = same_coefficients (functions_module c) hs (degree_of_y c) free_at (λ i. (polynomials k).◌⊗◌ f (p i))
            (λ i. (polynomials k).◌⊗◌ e (s.coefficient i))
            (combine_scale (functions_module c) f p hs ∙ ap (λ w. of_poly c f ⊗ w) (sym is)
            ∙ mul_left_comm (ring_of c) (of_poly c f) (of_poly c e) z
            ∙ ap (λ w. of_poly c e ⊗ w) s.is ∙ sym (combine_scale (functions_module c) e s.coefficient hs)) i l in
            let w : degree (code_ring k) e +ℤ degree (code_ring k) f
            ≡ degree (code_ring k) f +ℤ (degree (code_ring k) e +ℤ (pos 0 -ℤ pos 0)) = omega (arith, ints) in
            degree_cancel (code_ring k) (code_domain k) f (p i) _ s.nonzero
            (subst (λ a. DegreeAtMost (code_ring k) a
            (degree (code_ring k) f +ℤ (degree (code_ring k) e +ℤ (pos 0 -ℤ pos 0)))) (sym same)
            (subst (DegreeAtMost (code_ring k) ((polynomials k).◌⊗◌ e (s.coefficient i))) w
            (degree_product (code_ring k) (code_domain k) e (s.coefficient i) _ _
            (degree_own (code_ring k) (code_domain k) e)
            (short_at f s.nonzero (s.coefficient i) (s.short i)))))

        from : CoordinatesAtMost (code_ring k) (degree_of_y c) (λ i. pos 0) e p (pos 0)
            → Span (ring_of c).ops (IsFiniteAtInfinity c) hs z
        from h =
            span_of_short c e some hs z p
            (λ i l. subst (λ s. length (p i).0 ≤ s) (long e some) (h i (subst (λ n. i < n) count l))) is

  -- the condition at level 0 tells the degrees at each x^m·N
  pub multiples_reduced : (N : FunctionOf c → Type 0) (bs : List (FunctionOf c)) (d : ℕ → ℤ) → length bs ≡ degree_of_y c
      → ((p : ℕ → Polynomial k) → combine (polynomial_ops c) p bs ≡ 𝟘 → (i : ℕ) → i < degree_of_y c → p i
      ≡ (polynomials k).𝟘)
      → ((z : FunctionOf c) → Coordinates (code_ring k) (polynomial_ops c) bs z)
      → ((z : FunctionOf c) (e : Polynomial k) (p : ℕ → Polynomial k) → ¬ (e ≡ (polynomials k).𝟘) → of_poly c e ⊗ z
      ≡ combine (polynomial_ops c) p bs
      → N z ↔ CoordinatesAtMost (code_ring k) (degree_of_y c) d e p (pos 0))
      → IsReducedAt (code_ring k) (polynomial_ops c) (degree_of_y c) (multiples_of c N) bs d
  multiples_reduced N bs d count free coordinates at_zero =
      let r = family_reduced (code_ring k) (code_field k) (functions_module c)
      (quotient (code_ring k) (code_field k) (functions_module c) (division c))
      (undo_power (code_ring k) (code_field k) (functions_module c) (division c)) (degree_of_y c) N bs d count free
      coordinates at_zero in
      record {
        count = r.count;
        free = r.free;
        coordinates = r.coordinates;
        degrees = λ m z e p some is.
            subst (λ T. T ↔ CoordinatesAtMost (code_ring k) (degree_of_y c) d e p m) (multiples_are c N m z)
            (r.degrees m z e p some is);
      }

  -- the basis of a lattice at infinity
  pub record InfiniteBasis (N : FunctionOf c → Type 0) : Type 0 where
    pub functions : List (FunctionOf c)
    pub is : IsReducedAt (code_ring k) (polynomial_ops c) (degree_of_y c) (multiples_of c N) functions (λ i. pos 0)

  pub infinite_basis : (N : FunctionOf c → Type 0) → IsLatticeAtInfinity c N → InfiniteBasis N
  infinite_basis N 𝓝 = go (few_generators c 𝓝.generators 𝓝.exponent (λ z. (𝓝.spanned _).0 (𝓝.taken z)))
    where
      go : FewGenerators c 𝓝.generators → InfiniteBasis N
      go few =
          let taken : (z : FunctionOf c)
          → Span (ring_of c).ops (IsFiniteAtInfinity c) few.functions
          (pow (ring_of c).ops (setting_of c).one_over_x (𝓝.exponent z) ⊗ z)
          = λ z. (few.same _).0 ((𝓝.spanned _).0 (𝓝.taken z)) in
          let at_level = level few.functions few.count 𝓝.exponent taken in
          record {
            functions = few.functions;
            is = multiples_reduced N few.functions (λ i. pos 0) few.count
                (free_at few.functions few.count 𝓝.exponent taken)
                (coordinates_at few.functions few.count 𝓝.exponent taken)
                (λ z e p some is.
                let a = at_level z e p some is in (
                  λ h. a.0 ((few.same z).0 ((𝓝.spanned z).0 h)),
                  λ h. (𝓝.spanned z).1 ((few.same z).1 (a.1 h)),
                ));
          }
