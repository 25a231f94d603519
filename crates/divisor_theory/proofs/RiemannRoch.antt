-- Riemann and Roch for divisors by their degrees.
use Rattle.std.proofs.Common.{◌≡◌, ℕ, ◌*◌, List, sym, ◌∙◌, ap₂, subst, arith}
use Rattle.std.specs.Prelude.{neg_ℤ}
use Rattle.std.proofs.lemmas.Int.{ints}
use Rattle.std.proofs.Math.IntN.{ℤ, pos, ◌+ℤ◌, ◌-ℤ◌}
use lib.Signed.{◌≤ℤ◌}
use Rattle.ring_lemmas.specs.Ring.{IsField}
use Rattle.prime_theory.specs.Ideals.{SameSet}
use Rattle.linear_theory.specs.Basis.{IsNull}
use Rattle.ff_fields.specs.Field.{CodeField}
use Rattle.ff_poly.specs.Polynomials.{polynomials}
use Rattle.function_field.specs.declared.side.Side.{Side}
use Rattle.function_field.specs.declared.side.Side.TheVariants.{Finite, Infinite}
use Rattle.function_field.specs.Discriminant.{discriminant}
use Rattle.function_field.specs.Places.{IsIntegralAt}
use Rattle.function_field.specs.Divisors.{Divisor, IsDivisor, HasTotalDegree, MeetsOn, InSpace, IsConstant, HasGenus, IsCanonical}
use Rattle.function_field.specs.Functions.{Equation, FunctionOf, ring_of, setting_of, degree_of_y}
use Rattle.function_field.proofs.ScalarRings.{scalars_subring}
use Rattle.places_theory.proofs.Sides.{side_ring}
use Rattle.places_theory.proofs.Valuations.{at_least_of_integral, at_least_product, at_least_weaker}
use Rattle.function_field.specs.Indices.{HasIndex, space_ops}
use Rattle.lattice_theory.proofs.Bases.{index_same}
use Rattle.lattice_theory.proofs.Indices.{codes, space}
use Rattle.linear_theory.specs.Fields.{domain_of}
use Rattle.linear_theory.proofs.Bases.{null_subspace}
use Rattle.linear_theory.proofs.Exchange.{bases_same_length}
use Rattle.reduced_basis_theory.specs.Degree.{degree_sum, dimension_sum, genus_sum}
use Rattle.reduced_basis_theory.proofs.Laws.{euler}
use Rattle.space_theory.specs.Spaces.{IsReducedBasis}
use Rattle.space_theory.specs.TraceDuals.{TraceDual, CanonicalDual}
use Rattle.space_theory.proofs.Pairs.{reduced_basis, sides_basis}
use Rattle.space_theory.proofs.TraceDuals.{riemann_roch, canonical_degrees, dual_colon, canonical_colon, canonical_sides}
use Rattle.divisor_theory.specs.Parts.{IsDifference}
use Rattle.divisor_theory.proofs.Constants.{constants_index}
use Rattle.divisor_theory.proofs.Genus.{genus_degrees}
use Rattle.divisor_theory.proofs.Pairs.{allowed_lattice, allowed_at_infinity, pair_degrees, pair_same}
use Rattle.divisor_theory.proofs.Differences.{difference_is_colon}

module _ {k : CodeField} (c : Equation k) (some : ¬ (discriminant c ≡ (polynomials k).𝟘)) where
  infixl 70 ◌⊗◌
  open ring_of c use {ops, 𝟙, ◌⊗◌}

  abbrev Fin : FunctionOf c → Type 0
  Fin = IsIntegralAt (setting_of c) Finite

  abbrev Inf : FunctionOf c → Type 0
  Inf = IsIntegralAt (setting_of c) Infinite

  -- what a divisor allows on a side is a module over the integral functions of the side
  pub allowed_closed : (D : Divisor (FunctionOf c)) → (s : Side) (v u : FunctionOf c)
      → IsIntegralAt (setting_of c) s v → MeetsOn (setting_of c) D s u
      → MeetsOn (setting_of c) D s (v ⊗ u)
  allowed_closed D s v u v_in u_in P place e m h =
      at_least_weaker (setting_of c) (scalars_subring c) P place (v ⊗ u) (pos 0 +ℤ neg_ℤ m) (neg_ℤ m) (same (neg_ℤ m))
      (at_least_product (setting_of c) (scalars_subring c) P place v u (pos 0) (neg_ℤ m)
      (at_least_of_integral (setting_of c) (scalars_subring c) P place v
      (subst (λ s. IsIntegralAt (setting_of c) s v) (sym e) v_in)) (u_in P place e m h))
    where
      same : (m : ℤ) → m ≤ℤ (pos 0 +ℤ m)
      same m = omega (arith, ints)

  pub one_in : (s : Side) → IsIntegralAt (setting_of c) s 𝟙
  one_in s = (side_ring (setting_of c) (scalars_subring c) s).one_in

  -- L(D) is the intersection of what D allows on each side
  pub space_is : (D : Divisor (FunctionOf c))
      → SameSet (InSpace (setting_of c) D)
      (λ z. MeetsOn (setting_of c) D Finite z × MeetsOn (setting_of c) D Infinite z)
  space_is D z = (λ h. (h Finite, h Infinite), λ h. go h.0 h.1)
    where
      go : MeetsOn (setting_of c) D Finite z → MeetsOn (setting_of c) D Infinite z → InSpace (setting_of c) D z
      go a b Finite = a
      go a b Infinite = b

  -- two dimensions over k of one space are the same
  pub dimension_once : (V : FunctionOf c → Type 0) (g h : ℕ) → HasIndex c (IsNull (space_ops c)) V g
      → HasIndex c (IsNull (space_ops c)) V h → g ≡ h
  dimension_once V g h i j =
      sym i.count
      ∙ bases_same_length (domain_of (codes k)) (space c) (IsNull (space_ops c)) (null_subspace (codes k) (space c))
      V i.basis j.basis i.is j.is ∙ j.count

  module _ (field : IsField (ring_of c).ops) (n : ℕ)
      (constants : HasIndex c (IsNull (space_ops c)) (IsConstant (setting_of c)) n)
      (g : ℕ) (genus : HasGenus (setting_of c) g) where
    -- n·(1 - g), as n less n·g, is the degree in y less the sum of degrees of (O_fin, O_inf)
    pub genus_by_degrees : (b : List (FunctionOf c)) (d : ℕ → ℤ)
        → IsReducedBasis c (IsIntegralAt (setting_of c) Finite) (IsIntegralAt (setting_of c) Infinite) b d
        → pos n -ℤ pos (n * g) ≡ pos (degree_of_y c) -ℤ degree_sum (degree_of_y c) d
    genus_by_degrees b d reduced =
        let a : n ≡ dimension_sum (degree_of_y c) d (pos 0)
        = dimension_once (IsConstant (setting_of c)) n _ constants (constants_index c b d reduced) in
        let e : n * g ≡ genus_sum (degree_of_y c) d = genus_degrees c some field b d reduced n constants g genus in
        ap₂ (λ x y. pos x -ℤ pos y) a e ∙ euler (degree_of_y c) d

    module _ (W D E : Divisor (FunctionOf c)) (canonical : IsCanonical (setting_of c) W)
        (is_D : IsDivisor (setting_of c) D)
        (difference : IsDifference (setting_of c) W D E) where
      -- the pair of W - D is the dual of the pair of D
      finite_dual : SameSet (MeetsOn (setting_of c) E Finite) (TraceDual c (MeetsOn (setting_of c) D Finite))
      finite_dual z =
          let a = difference_is_colon c some W D E canonical.divisor is_D difference Finite z in
          let b = dual_colon c Fin (MeetsOn (setting_of c) D Finite) (one_in Finite) (allowed_closed D Finite) z in
          let w = (canonical_sides c W canonical).0 in
          (λ h. b.1 (λ u u_in. (w (z ⊗ u)).0 (a.0 h u u_in)), λ h. a.1 (λ u u_in. (w (z ⊗ u)).1 (b.0 h u u_in)))

      infinite_dual : SameSet (MeetsOn (setting_of c) E Infinite) (CanonicalDual c (MeetsOn (setting_of c) D Infinite))
      infinite_dual z =
          let a = difference_is_colon c some W D E canonical.divisor is_D difference Infinite z in
          let b = canonical_colon c Inf (MeetsOn (setting_of c) D Infinite) (one_in Infinite)
          (allowed_closed D Infinite) z in
          let w = (canonical_sides c W canonical).1 in
          (λ h. b.1 (λ u u_in. (w (z ⊗ u)).0 (a.0 h u u_in)), λ h. a.1 (λ u u_in. (w (z ⊗ u)).1 (b.0 h u u_in)))

      -- the theorem of Riemann and Roch
      pub riemann_roch_divisors : (d : ℤ) → HasTotalDegree (setting_of c) D d → (l l' : ℕ)
          → HasIndex c (IsNull (space_ops c)) (InSpace (setting_of c) D) l
          → HasIndex c (IsNull (space_ops c)) (InSpace (setting_of c) E) l'
          → pos l -ℤ pos l' ≡ d +ℤ (pos n -ℤ pos (n * g))
      riemann_roch_divisors d total l l' first second =
          let I = MeetsOn (setting_of c) D Finite in
          let N = MeetsOn (setting_of c) D Infinite in
          let β = sides_basis c some in
          let r = reduced_basis c I N (allowed_lattice c some D is_D) (allowed_at_infinity c some D is_D) in
          let null : SameSet (IsNull (space_ops c)) (IsNull (space_ops c)) = λ z. (λ e. e, λ e. e) in
          let a = riemann_roch c some I N r.0 r.1 r.2 l l'
          (index_same c (IsNull (space_ops c)) (IsNull (space_ops c)) (InSpace (setting_of c) D) (λ z. I z × N z)
          null (space_is D) l first)
          (index_same c (IsNull (space_ops c)) (IsNull (space_ops c)) (InSpace (setting_of c) E)
          (λ z. TraceDual c I z × CanonicalDual c N z) null
          (λ z.
          let s = space_is E z in (
            λ h. let t = s.0 h in ((finite_dual z).0 t.0, (infinite_dual z).0 t.1),
            λ h. s.1 ((finite_dual z).1 h.0, (infinite_dual z).1 h.1),
          )) l' second) in
          let b = pair_degrees c some D is_D d total r.0 β.0 r.1 β.1 r.2 β.2 in
          let e = genus_by_degrees β.0 β.1 β.2 in
          omega (arith, ints)

    -- the degree of a canonical divisor is n·(2g - 2)
    pub canonical_degree : (W : Divisor (FunctionOf c)) → IsCanonical (setting_of c) W → (w : ℤ)
        → HasTotalDegree (setting_of c) W w
        → w ≡ pos (2 * (n * g)) -ℤ pos (2 * n)
    canonical_degree W canonical w total =
        let I = MeetsOn (setting_of c) W Finite in
        let N = MeetsOn (setting_of c) W Infinite in
        let β = sides_basis c some in
        let r = reduced_basis c I N (allowed_lattice c some W canonical.divisor)
        (allowed_at_infinity c some W canonical.divisor) in
        let s = canonical_sides c W canonical in
        let a = canonical_degrees c some Fin Inf β.0 β.1 β.2 r.0 r.1
        (pair_same c I (TraceDual c Fin) N (CanonicalDual c Inf) s.0 s.1 r.0 r.1 r.2) in
        let b = pair_degrees c some W canonical.divisor w total r.0 β.0 r.1 β.1 r.2 β.2 in
        let e = genus_by_degrees β.0 β.1 β.2 in
        omega (arith, ints)
