-- Duality under the trace for pairs of lattices, and the theorem of Riemann and Roch for them.
use Rattle.std.proofs.Common.{◌≡◌, ◌↔◌, ℕ, ◌+◌, ℤ, pos, negsuc, ◌+ℤ◌, ◌-ℤ◌, List, [], ◌∷◌, refl, sym, ◌∙◌, ap, ap₂, subst, arith}
use Rattle.std.proofs.Math.IntN.{neg_ℤ}
use Rattle.std.proofs.lemmas.Int.{ints}
use Rattle.ring_lemmas.specs.Ring.{pow}
use Rattle.ring_theory.specs.Subsets.{Colon}
use Rattle.ring_lemmas.proofs.Ring.{one_mul, mul_left_comm}
use Rattle.ring_lemmas.proofs.Solver.{ring, reads}
use Rattle.prime_theory.specs.Ideals.{SameSet}
use Rattle.ff_fields.specs.Field.{CodeField}
use Rattle.ff_fields.specs.Code.{code_ring, code_field}
use Rattle.ff_poly.specs.Polynomials.{polynomials}
use Rattle.function_field.specs.Discriminant.{discriminant}
use Rattle.function_field.specs.Functions.{Equation, FunctionOf, ring_of, of_poly, row_of, over, setting_of, trace_of, degree_of_y, IsPolynomial, IsFiniteAtInfinity}
use Rattle.function_field.specs.Divisors.{x_to, Divisor, MeetsOn, IsCanonical}
use Rattle.function_field.specs.declared.side.Side.TheVariants.{Finite, Infinite}
use Rattle.function_field.specs.Places.{IsIntegralAt}
use Rattle.function_field.proofs.OnSide.{den_inverse}
use Rattle.linear_theory.specs.Basis.{IsNull}
use Rattle.trace_theory.proofs.FunctionTraces.{trace_times}
use Rattle.function_field.specs.Indices.{HasIndex, space_ops}
use Rattle.lattice_theory.specs.Lattices.{polynomial_ops}
use Rattle.lattice_theory.proofs.Bases.{index_same}
use Rattle.reduced_basis_theory.specs.Degree.{DegreeAtMost, degree, degree_sum, dimension_sum}
use Rattle.reduced_basis_theory.specs.Reduced.{Section}
use Rattle.reduced_basis_theory.specs.Dual.{FractionAtMost, DualLattice, DualFamily, IsDualBasis}
use Rattle.reduced_basis_theory.proofs.Compare.{same_degree_sum}
use Rattle.reduced_basis_theory.proofs.Dual.{dual_reduced}
use Rattle.reduced_basis_theory.proofs.DualBasis.{dual_basis}
use Rattle.reduced_basis_theory.proofs.Graded.{single_other}
use Rattle.reduced_basis_theory.proofs.Laws.{section_dimension, genus_total, euler}
use Rattle.reduced_basis_theory.proofs.Transport.{degree_sum_from_two}
use Rattle.linear_theory.proofs.Lists.{insert_here}
use Rattle.space_theory.specs.Spaces.{multiples_of, IsReducedBasis}
use Rattle.space_theory.specs.TraceDuals.{TraceDual, InfiniteTraceDual, CanonicalDual, IsTraceDualBasis}
use Rattle.space_theory.proofs.FunctionModule.{functions_module, polynomial_hom, cancel}
use Rattle.space_theory.proofs.InfiniteBases.{multiples_reduced}
use Rattle.space_theory.proofs.InfiniteIndices.{level_zero}
use Rattle.space_theory.proofs.Simultaneous.{x_to_rational}
use Rattle.space_theory.proofs.RationalPart.{rational_ring, same_rational, polynomial_part}
use Rattle.space_theory.proofs.FractionDegrees.{finite_of_fraction, fraction_of, raised}
use Rattle.space_theory.proofs.TraceForms.{form, trace_form}

module _ {k : CodeField} (c : Equation k) where
  infixl 65 ◌⊕◌
  infixl 70 ◌⊗◌
  open ring_of c use {𝟘, 𝟙, ◌⊕◌, ◌⊗◌}

  -- the duals in the words of forms
  lattice_dual : (I : FunctionOf c → Type 0) (z : FunctionOf c)
      → DualLattice (code_ring k) (polynomial_part c) (form c) I z ↔ TraceDual c I z
  lattice_dual I z = (
    λ h u u_in. record { polynomial = (h u u_in).0; value = ap (λ a. a.0) (h u u_in).1 },
    λ h u u_in. ((h u u_in).polynomial, same_rational c _ _ (h u u_in).value),
  )

  trace_power : (m : ℤ) (z : FunctionOf c) → trace_of c (x_to (setting_of c) m ⊗ z)
      ≡ x_to (setting_of c) m ⊗ trace_of c z
  trace_power m z = trace_times c (x_to (setting_of c) m) z (x_to_rational c m)

  to_multiple : (N : FunctionOf c → Type 0) (m : ℤ) (z : FunctionOf c)
      → DualFamily (code_ring k) (rational_ring c).ops (polynomial_part c) (form c) (multiples_of c N) m z
      → multiples_of c (InfiniteTraceDual c N) m z
  to_multiple N m z h u u_in =
      let w : m +ℤ pos 0 ≡ m = omega (arith, ints) in
      subst (IsFiniteAtInfinity c)
      (sym (ap (trace_of c) ((ring_of c).mul_assoc (x_to (setting_of c) (neg_ℤ m)) z u)
      ∙ trace_power (neg_ℤ m) (z ⊗ u)))
      (finite_of_fraction c (form c z u) m
      (subst (λ l. FractionAtMost (code_ring k) (rational_ring c).ops (polynomial_part c) (form c z u) l) w
      (h (pos 0) u ((level_zero c N u).1 u_in))))

  -- what an x^l·N says of a product
  from_multiple : (N : FunctionOf c → Type 0) (m : ℤ) (z : FunctionOf c) → multiples_of c (InfiniteTraceDual c N) m z
      → DualFamily (code_ring k) (rational_ring c).ops (polynomial_part c) (form c) (multiples_of c N) m z
  from_multiple N m z h l u u_in =
      let v = x_to (setting_of c) (neg_ℤ l) ⊗ u in
      let s = form c z v in
      let a = form c (x_to (setting_of c) (neg_ℤ m) ⊗ z) v in
      raised c (form c z u) s m l
      (ap (trace_of c) (mul_left_comm (ring_of c) z (x_to (setting_of c) (neg_ℤ l)) u) ∙ trace_power (neg_ℤ l) (z ⊗ u))
      (fraction_of c s a m (ap (trace_of c) ((ring_of c).mul_assoc _ z v) ∙ trace_power (neg_ℤ m) (z ⊗ v)) (h v u_in))

  -- a dimension of the intersection of a pair is that of its degrees
  pub dimension_is : (J L : FunctionOf c → Type 0) (cs : List (FunctionOf c)) (f : ℕ → ℤ) → IsReducedBasis c J L cs f
      → (g : ℕ)
      → HasIndex c (IsNull (space_ops c)) (λ z. J z × L z) g → pos g ≡ pos (dimension_sum (degree_of_y c) f (pos 0))
  dimension_is J L cs f r g h =
      let s = section_dimension (code_ring k) (code_field k) (functions_module c) (degree_of_y c) J
      (multiples_of c L) cs f r (pos 0) in
      let i = index_same c (IsNull (space_ops c)) (IsNull (space_ops c)) (λ z. J z × L z)
      (Section J (multiples_of c L) (pos 0)) (λ z. (λ e. e, λ e. e))
      (λ z. (λ m. (m.0, (level_zero c L z).1 m.1), λ m. (m.0, (level_zero c L z).0 m.1))) g h in
      ap pos (sym i.count) ∙ s.only_size i.basis i.is

  module _ (some : ¬ (discriminant c ≡ (polynomials k).𝟘)) (I N : FunctionOf c → Type 0) (bs : List (FunctionOf c))
      (d : ℕ → ℤ)
      (reduced : IsReducedBasis c I N bs d) where
    abbrev IsDual : List (FunctionOf c) → Type 0
    IsDual cs = IsDualBasis (code_ring k) (polynomial_ops c) (polynomial_part c) (form c) (degree_of_y c) bs cs

    dual_exists : (cs : List (FunctionOf c))
        × IsDualBasis (code_ring k) (polynomial_ops c) (polynomial_part c) (form c) (degree_of_y c) bs cs
    dual_exists =
        dual_basis (code_ring k) (code_field k) (functions_module c) (rational_ring c) (polynomial_part c)
        (trace_form c some).fractions (form c) (trace_form c some).form
        (degree_of_y c) bs reduced.at.count reduced.at.free reduced.at.coordinates
        (λ e e_some z. (
          over c (row_of c (polynomials k).𝟙) e e_some ⊗ z,
          cancel c (of_poly c e) _ z (den_inverse c e e_some),
        ))

    traces_of : (cs : List (FunctionOf c)) → IsDual cs → IsTraceDualBasis c bs cs
    traces_of cs h = record {
      count = h.count;
      same = λ i l. ap (λ a. a.0) (h.forms i i l l)
          ∙ ap (of_poly c) (insert_here i (polynomials k).𝟙 (λ l. (polynomials k).𝟘)) ∙ (polynomial_hom c).one_is;
      other = λ i j l l' ne.
          ap (λ a. a.0) (h.forms i j l l') ∙ ap (of_poly c) (single_other (polynomials k).𝟘 j (polynomials k).𝟙 i ne)
          ∙ (polynomial_hom c).zero_is;
    }

    dual_pair : (cs : List (FunctionOf c)) → IsDual cs
        → IsReducedBasis c (TraceDual c I) (InfiniteTraceDual c N) cs (λ i. pos 0 -ℤ d i)
    dual_pair cs h =
        let r = dual_reduced (code_ring k) (code_field k) (functions_module c) (rational_ring c) (polynomial_part c)
        (trace_form c some).fractions (form c) (trace_form c some).form
        (degree_of_y c) bs cs h I (multiples_of c N) d reduced in
        record {
          at = record {
            count = r.at.count;
            free = r.at.free;
            coordinates = r.at.coordinates;
            degrees = λ m z e p e_some is.
                let t = r.at.degrees m z e p e_some is in
                (λ z_in. t.0 (from_multiple N m z z_in), λ b. to_multiple N m z (t.1 b));
          };
          lattice = λ z. let t = r.lattice z in
              (λ z_in. t.0 ((lattice_dual I z).1 z_in), λ b. (lattice_dual I z).0 (t.1 b));
        }

    canonical_pair : (cs : List (FunctionOf c))
        → IsReducedBasis c (TraceDual c I) (InfiniteTraceDual c N) cs (λ i. pos 0 -ℤ d i)
        → IsReducedBasis c (TraceDual c I) (CanonicalDual c N) cs (λ i. pos 2 -ℤ d i)
    canonical_pair cs r = record {
      at = multiples_reduced c (CanonicalDual c N) cs (λ i. pos 2 -ℤ d i) r.at.count r.at.free r.at.coordinates
          (λ z e p e_some is.
          let t = r.at.degrees (negsuc 1) z e p e_some is in
          let w : (i : ℕ) → degree (code_ring k) e +ℤ (negsuc 1 -ℤ (pos 0 -ℤ d i))
          ≡ degree (code_ring k) e +ℤ (pos 0 -ℤ (pos 2 -ℤ d i)) = λ i. omega (arith, ints) in (
            λ z_in i l. subst (DegreeAtMost (code_ring k) (p i)) (w i) (t.0 z_in i l),
            λ b. t.1 (λ i l. subst (DegreeAtMost (code_ring k) (p i)) (sym (w i)) (b i l)),
          ));
      lattice = r.lattice;
    }

    -- the dual basis, with the degrees -d_i, and 2 - d_i for the canonical dual
    pub record DualPair : Type 0 where
      pub basis : List (FunctionOf c)
      pub traces : IsTraceDualBasis c bs basis
      pub dual : IsReducedBasis c (TraceDual c I) (InfiniteTraceDual c N) basis (λ i. pos 0 -ℤ d i)
      pub canonical : IsReducedBasis c (TraceDual c I) (CanonicalDual c N) basis (λ i. pos 2 -ℤ d i)

    pub duality : DualPair
    duality =
        let h = dual_exists in
        let r = dual_pair h.0 h.1 in
        record { basis = h.0; traces = traces_of h.0 h.1; dual = r; canonical = canonical_pair h.0 r }

    -- Riemann and Roch
    pub riemann_roch : (g h : ℕ) → HasIndex c (IsNull (space_ops c)) (λ z. I z × N z) g
        → HasIndex c (IsNull (space_ops c)) (λ z. TraceDual c I z × CanonicalDual c N z) h → pos g -ℤ pos h
        ≡ pos (degree_of_y c) -ℤ degree_sum (degree_of_y c) d
    riemann_roch g h i j =
        let D = duality in
        let a = dimension_is I N bs d reduced g i in
        let b = dimension_is (TraceDual c I) (CanonicalDual c N) D.basis (λ i. pos 2 -ℤ d i) D.canonical h j in
        ap₂ (λ x y. x -ℤ y) a (b ∙ ap pos (genus_total (degree_of_y c) d)) ∙ euler (degree_of_y c) d

    -- the sums of degrees for the pair and its canonical dual
    pub canonical_degrees : (cs : List (FunctionOf c)) (f : ℕ → ℤ)
        → IsReducedBasis c (TraceDual c I) (CanonicalDual c N) cs f
        → degree_sum (degree_of_y c) f +ℤ degree_sum (degree_of_y c) d ≡ pos (degree_of_y c + degree_of_y c)
    canonical_degrees cs f r =
        let D = duality in
        let a = same_degree_sum (code_ring k) (code_field k) (functions_module c) (degree_of_y c) (TraceDual c I)
        (multiples_of c (CanonicalDual c N)) cs D.basis f (λ i. pos 2 -ℤ d i) r D.canonical in
        let b = degree_sum_from_two (degree_of_y c) d in
        omega (arith, ints)

  -- over rings O and P, the duals are what takes I and N into the duals of O and P
  pub dual_colon : (O I : FunctionOf c → Type 0) → O 𝟙 → ((v u : FunctionOf c) → O v → I u → I (v ⊗ u))
      → SameSet (TraceDual c I) (Colon (ring_of c).ops (TraceDual c O) I)
  dual_colon O I one closed z = (
    λ h u u_in v v_in. subst (IsPolynomial c) (ap (trace_of c) (turn z u v)) (h (v ⊗ u) (closed v u v_in u_in)),
    λ h u u_in. subst (IsPolynomial c) (ap (trace_of c) ((ring_of c).mul_one (z ⊗ u))) (h u u_in 𝟙 one),
  )
    where
      turn : (z u v : FunctionOf c) → z ⊗ (v ⊗ u) ≡ z ⊗ u ⊗ v
      turn z u v = ring (ring_of c) (z ∷ u ∷ v ∷ []) λ q i. simp (reads, q, i 0, i 1, i 2) (q.equal _ _ refl)

  pub canonical_colon : (P N : FunctionOf c → Type 0) → P 𝟙 → ((v u : FunctionOf c) → P v → N u → N (v ⊗ u))
      → SameSet (CanonicalDual c N) (Colon (ring_of c).ops (CanonicalDual c P) N)
  canonical_colon P N one closed z = (
    λ h u u_in v v_in. subst (IsFiniteAtInfinity c)
        (ap (trace_of c) (turn (pow (ring_of c).ops (setting_of c).x 2) z u v)) (h (v ⊗ u) (closed v u v_in u_in)),
    λ h u u_in.
        subst (IsFiniteAtInfinity c)
        (ap (trace_of c) ((ring_of c).mul_one _
        ∙ sym ((ring_of c).mul_assoc (pow (ring_of c).ops (setting_of c).x 2) z u))) (h u u_in 𝟙 one),
  )
    where
      turn : (w z u v : FunctionOf c) → w ⊗ z ⊗ (v ⊗ u) ≡ w ⊗ (z ⊗ u) ⊗ v
      turn w z u v = ring (ring_of c) (w ∷ z ∷ u ∷ v ∷ []) λ q i. simp (reads, q, i 0, i 1, i 2, i 3) (q.equal _ _ refl)

  -- what a canonical divisor allows are these duals of O_fin and O_inf
  pub canonical_sides : (W : Divisor (FunctionOf c)) → IsCanonical (setting_of c) W
      → SameSet (MeetsOn (setting_of c) W Finite) (TraceDual c (IsIntegralAt (setting_of c) Finite))
      × SameSet (MeetsOn (setting_of c) W Infinite) (CanonicalDual c (IsIntegralAt (setting_of c) Infinite))
  canonical_sides W h = (
    λ z. (
      λ m u u_in. subst (IsPolynomial c) (ap (λ w. trace_of c (w ⊗ u)) (one_mul (ring_of c) z))
          ((h.finite z).0 m u u_in),
      λ m. (h.finite z).1 (λ u u_in. subst (IsPolynomial c)
          (ap (λ w. trace_of c (w ⊗ u)) (sym (one_mul (ring_of c) z))) (m u u_in)),
    ),
    λ z. h.infinite z,
  )
