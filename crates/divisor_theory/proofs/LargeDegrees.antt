-- Where the degree of a divisor is above that of the canonical ones, its dual pair has no function but 0; so its space
-- has the dimension that its degree tells.
use Rattle.std.proofs.Common.{◌≡◌, ℕ, ◌+◌, ◌*◌, List, [], ◌∷◌, refl, ap, subst, arith}
use Rattle.std.proofs.lemmas.Int.{ints}
use Rattle.std.proofs.Math.IntN.{ℤ, pos, ◌+ℤ◌, ◌-ℤ◌}
use lib.Signed.{◌<ℤ◌}
use Rattle.ring_lemmas.specs.Ring.{IsField, pow}
use Rattle.ring_lemmas.proofs.Solver.{ring, reads}
use Rattle.linear_theory.specs.Basis.{IsNull}
use Rattle.ff_fields.specs.Field.{CodeField}
use Rattle.ff_fields.specs.Code.{code_ring, code_field}
use Rattle.ff_poly.specs.Polynomials.{polynomials}
use Rattle.function_field.specs.declared.side.Side.TheVariants.{Finite, Infinite}
use Rattle.function_field.specs.Discriminant.{discriminant}
use Rattle.function_field.specs.Places.{IsIntegralAt}
use Rattle.function_field.specs.Divisors.{Divisor, IsDivisor, HasTotalDegree, MeetsOn, InSpace, IsConstant, HasGenus}
use Rattle.function_field.specs.Functions.{Equation, FunctionOf, ring_of, trace_of, setting_of, degree_of_y, IsPolynomial, IsFiniteAtInfinity, functions_discrete}
use Rattle.function_field.specs.Indices.{HasIndex, space_ops}
use Rattle.lattice_theory.proofs.Bases.{index_same}
use Rattle.prime_theory.specs.Ideals.{SameSet}
use Rattle.reduced_basis_theory.specs.Degree.{degree_sum}
use Rattle.reduced_basis_theory.specs.Canonical.{IsModulePair}
use Rattle.reduced_basis_theory.proofs.Positivity.{positivity}
use Rattle.space_theory.specs.Spaces.{IsReducedBasis, multiples_of}
use Rattle.space_theory.specs.TraceDuals.{TraceDual, CanonicalDual}
use Rattle.space_theory.proofs.FunctionModule.{functions_module}
use Rattle.space_theory.proofs.InfiniteIndices.{level_zero}
use Rattle.space_theory.proofs.Pairs.{reduced_basis, sides_basis}
use Rattle.space_theory.proofs.TraceDuals.{duality, riemann_roch, canonical_degrees}
use Rattle.divisor_theory.proofs.DegreesAtInfinity.{index_of_same}
use Rattle.divisor_theory.proofs.Pairs.{allowed_lattice, allowed_at_infinity, pair_degrees}
use Rattle.divisor_theory.proofs.ClosedPairs.{closed_pair, times_linear}
use Rattle.divisor_theory.proofs.RiemannRoch.{allowed_closed, space_is, genus_by_degrees}

module _ {k : CodeField} (c : Equation k) where
  infixl 65 ◌⊕◌
  infixl 70 ◌⊗◌
  open ring_of c use {ops, 𝟘, 𝟙, ◌⊕◌, ◌⊗◌}

  abbrev Fin : FunctionOf c → Type 0
  Fin = IsIntegralAt (setting_of c) Finite

  abbrev Inf : FunctionOf c → Type 0
  Inf = IsIntegralAt (setting_of c) Infinite

  -- the dual of a pair that is closed under (O_fin, O_inf) is so
  module _ (I N : FunctionOf c → Type 0)
      (closed : (v u : FunctionOf c) → IsIntegralAt (setting_of c) Finite v → I u → I (v ⊗ u))
      (closed' : (v u : FunctionOf c) → IsIntegralAt (setting_of c) Infinite v → N u → N (v ⊗ u)) where
    pub finite_closed : (v u : FunctionOf c) → Fin v → TraceDual c I u → TraceDual c I (v ⊗ u)
    finite_closed v u v_in u_in w w_in =
        subst (IsPolynomial c) (ap (trace_of c) (turn u v w)) (u_in (v ⊗ w) (closed v w v_in w_in))
      where
        turn : (u v w : FunctionOf c) → u ⊗ (v ⊗ w) ≡ v ⊗ u ⊗ w
        turn u v w = ring (ring_of c) (u ∷ v ∷ w ∷ []) λ q i. simp (reads, q, i 0, i 1, i 2) (q.equal _ _ refl)

    pub infinite_closed : (v u : FunctionOf c) → Inf v → CanonicalDual c N u → CanonicalDual c N (v ⊗ u)
    infinite_closed v u v_in u_in w w_in =
        subst (IsFiniteAtInfinity c) (ap (trace_of c) (turn (pow (ring_of c).ops (setting_of c).x 2) u v w))
        (u_in (v ⊗ w) (closed' v w v_in w_in))
      where
        turn : (x u v w : FunctionOf c) → x ⊗ u ⊗ (v ⊗ w) ≡ x ⊗ (v ⊗ u) ⊗ w
        turn x u v w =
            ring (ring_of c) (x ∷ u ∷ v ∷ w ∷ []) λ q i. simp (reads, q, i 0, i 1, i 2, i 3) (q.equal _ _ refl)

    dual_module : IsModulePair (ring_of c).ops Fin (multiples_of c Inf) (TraceDual c I)
        (multiples_of c (CanonicalDual c N))
    dual_module = closed_pair c (TraceDual c I) (CanonicalDual c N) finite_closed infinite_closed

  module _ (some : ¬ (discriminant c ≡ (polynomials k).𝟘)) (field : IsField (ring_of c).ops)
      (D : Divisor (FunctionOf c)) (is : IsDivisor (setting_of c) D)
      (d : ℤ) (total : HasTotalDegree (setting_of c) D d) where
    abbrev I : FunctionOf c → Type 0
    I = MeetsOn (setting_of c) D Finite

    abbrev N : FunctionOf c → Type 0
    N = MeetsOn (setting_of c) D Infinite

    -- a function of the dual pair that isn't 0 has an inverse, and bounds the degree
    dual_null : (bs : List (FunctionOf c)) (f : ℕ → ℤ) → IsReducedBasis c I N bs f
        → (b : List (FunctionOf c)) (δ : ℕ → ℤ) → IsReducedBasis c Fin Inf b δ
        → (degree_sum (degree_of_y c) δ +ℤ degree_sum (degree_of_y c) f) <ℤ pos (degree_of_y c + degree_of_y c)
        → (z : FunctionOf c) → TraceDual c I z → CanonicalDual c N z → z ≡ 𝟘
    dual_null bs f reduced b δ reduced' large z z_in z_in' = go (functions_discrete c z 𝟘)
      where
        go : Dec (z ≡ 𝟘) → z ≡ 𝟘
        go (yes e) = e
        go (no n) =
            let y = field.inverse z n in
            let L = duality c some I N bs f reduced in
            let a = positivity (code_ring k) (code_field k) (functions_module c) (degree_of_y c) (ring_of c)
            (times_linear c) Fin (multiples_of c Inf) b δ reduced'
            (TraceDual c I) (multiples_of c (CanonicalDual c N))
            (dual_module I N (allowed_closed c some D Finite) (allowed_closed c some D Infinite)) L.basis
            (λ i. pos 2 -ℤ f i) L.canonical z y.0 y.1 z_in
            ((level_zero c (CanonicalDual c N) z).1 z_in') in
            let e = canonical_degrees c some I N bs f reduced L.basis (λ i. pos 2 -ℤ f i) L.canonical in
            absurd (omega (arith, ints))

    module _ (n : ℕ) (constants : HasIndex c (IsNull (space_ops c)) (IsConstant (setting_of c)) n) (g : ℕ)
        (genus : HasGenus (setting_of c) g)
        (large : (pos (2 * (n * g)) -ℤ pos (2 * n)) <ℤ d) where
      pub large_dimension : (l : ℕ) → HasIndex c (IsNull (space_ops c)) (InSpace (setting_of c) D) l → pos l
          ≡ d +ℤ (pos n -ℤ pos (n * g))
      large_dimension l first =
          let β = sides_basis c some in
          let r = reduced_basis c I N (allowed_lattice c some D is) (allowed_at_infinity c some D is) in
          let b = pair_degrees c some D is d total r.0 β.0 r.1 β.1 r.2 β.2 in
          let e = genus_by_degrees c some field n constants g genus β.0 β.1 β.2 in
          let small : (degree_sum (degree_of_y c) β.1 +ℤ degree_sum (degree_of_y c) r.1) <ℤ pos
          (degree_of_y c + degree_of_y c) = omega (arith, ints) in
          let null : SameSet (IsNull (space_ops c)) (IsNull (space_ops c)) = λ z. (λ e. e, λ e. e) in
          let a = riemann_roch c some I N r.0 r.1 r.2 l 0
          (index_same c (IsNull (space_ops c)) (IsNull (space_ops c)) (InSpace (setting_of c) D) (λ z. I z × N z)
          null (space_is c some D) l first)
          (index_of_same c some (IsNull (space_ops c)) (λ z. TraceDual c I z × CanonicalDual c N z)
          (λ z h. dual_null r.0 r.1 r.2 β.0 β.1 β.2 small z h.0 h.1)) in
          omega (arith, ints)
