-- What shows a basis to be reduced, and a divisor to be canonical, by the sums of degrees.
use Rattle.std.proofs.Common.{◌≡◌, ℕ, ◌+◌, ◌<◌, List, [], ◌∷◌, length, sym, ◌∙◌, ap, subst, arith}
use Rattle.std.proofs.lemmas.Int.{ints}
use Rattle.std.proofs.Math.IntN.{ℤ, pos, ◌+ℤ◌, ◌-ℤ◌}
use Rattle.ring_lemmas.proofs.Ring.{one_mul, zero_add}
use Rattle.prime_theory.specs.Ideals.{SameSet}
use Rattle.linear_theory.specs.Basis.{IsBasis}
use Rattle.linear_theory.specs.Lists.{entry}
use Rattle.ff_fields.specs.Field.{CodeField}
use Rattle.ff_fields.specs.Code.{code_ring, code_field}
use Rattle.ff_poly.specs.Polynomials.{polynomials}
use Rattle.function_field.specs.declared.side.Side.TheVariants.{Finite, Infinite}
use Rattle.function_field.specs.Discriminant.{discriminant}
use Rattle.function_field.specs.Places.{IsIntegralAt}
use Rattle.function_field.specs.Divisors.{Divisor, IsDivisor, HasTotalDegree, MeetsOn, IsCanonical}
use Rattle.function_field.specs.Functions.{Equation, FunctionOf, ring_of, trace_of, setting_of, degree_of_y, IsPolynomial}
use Rattle.function_field.specs.Indices.{space_ops}
use Rattle.lattice_theory.specs.Lattices.{polynomial_ops}
use Rattle.reduced_basis_theory.specs.Degree.{degree_sum}
use Rattle.reduced_basis_theory.specs.Reduced.{InLattice}
use Rattle.reduced_basis_theory.proofs.Converse.{converse}
use Rattle.reduced_basis_theory.proofs.Laws.{lattice_dimension, family_dimension}
use Rattle.space_theory.specs.Spaces.{IsReducedBasis, multiples_of}
use Rattle.space_theory.specs.TraceDuals.{TraceDual, CanonicalDual}
use Rattle.space_theory.proofs.FunctionModule.{functions_module, division}
use Rattle.space_theory.proofs.InfiniteIndices.{level_zero}
use Rattle.space_theory.proofs.Pairs.{reduced_basis}
use Rattle.space_theory.proofs.TraceDuals.{duality, canonical_degrees}
use Rattle.divisor_theory.proofs.Pairs.{allowed_lattice, allowed_at_infinity, pair_degrees}
use Rattle.divisor_theory.proofs.TraceModules.{lattice_of_reduced}

module _ {k : CodeField} (c : Equation k) where
  open ring_of c use {𝟘}

  -- n functions b_i in x^(d_i)·N that span I over the polynomials are a reduced basis where the sum of the d_i is that
  -- of one
  pub reduced_by_sum : (I N : FunctionOf c → Type 0) (a : List (FunctionOf c)) (e : ℕ → ℤ) → IsReducedBasis c I N a e
      → (b : List (FunctionOf c)) (d : ℕ → ℤ)
      → length b ≡ degree_of_y c → SameSet I (InLattice (code_ring k) (polynomial_ops c) b)
      → ((i : ℕ) → i < degree_of_y c → multiples_of c N (d i) (entry 𝟘 b i)) → degree_sum (degree_of_y c) d
      ≡ degree_sum (degree_of_y c) e
      → IsReducedBasis c I N b d
  reduced_by_sum I N a e reduced b d count spanned members sum =
      converse (code_ring k) (code_field k) (functions_module c) (degree_of_y c) I (multiples_of c N) a e reduced b
      count spanned d members sum

  -- where a basis over a subset is empty, the subset is all
  all_of_empty : (U V : FunctionOf c → Type 0) (ws : List (FunctionOf c))
      → IsBasis (code_ring k).ops (space_ops c) U V ws → length ws ≡ 0
      → (z : FunctionOf c) → V z → U z
  all_of_empty U V [] b e z h = let s = b.spanning z h in subst U (sym (s.is ∙ zero_add (ring_of c) s.rest)) s.rest_in
  all_of_empty U V (w ∷ ws) b e z h = absurd (omega arith)

  module _ (some : ¬ (discriminant c ≡ (polynomials k).𝟘)) (W : Divisor (FunctionOf c))
      (is : IsDivisor (setting_of c) W)
      (finite : (z : FunctionOf c) → MeetsOn (setting_of c) W Finite z
      → TraceDual c (IsIntegralAt (setting_of c) Finite) z)
      (infinite : (z : FunctionOf c) → MeetsOn (setting_of c) W Infinite z
      → CanonicalDual c (IsIntegralAt (setting_of c) Infinite) z)
      (w : ℤ) (total : HasTotalDegree (setting_of c) W w) (b : List (FunctionOf c)) (d : ℕ → ℤ)
      (reduced : IsReducedBasis c (IsIntegralAt (setting_of c) Finite) (IsIntegralAt (setting_of c) Infinite) b d)
      (degree_is : w ≡ (degree_sum (degree_of_y c) d +ℤ degree_sum (degree_of_y c) d) -ℤ pos
      (degree_of_y c + degree_of_y c)) where
    abbrev Fin : FunctionOf c → Type 0
    Fin = IsIntegralAt (setting_of c) Finite

    abbrev Inf : FunctionOf c → Type 0
    Inf = IsIntegralAt (setting_of c) Infinite

    abbrev I : FunctionOf c → Type 0
    I = MeetsOn (setting_of c) W Finite

    abbrev N : FunctionOf c → Type 0
    N = MeetsOn (setting_of c) W Infinite

    abbrev C : FunctionOf c → Type 0
    C = TraceDual c (IsIntegralAt (setting_of c) Finite)

    abbrev M : FunctionOf c → Type 0
    M = CanonicalDual c (IsIntegralAt (setting_of c) Infinite)

    -- both indices are 0, since their sum is
    both : ((z : FunctionOf c) → C z → I z) × ((z : FunctionOf c) → M z → N z)
    both =
        let D = duality c some Fin Inf b d reduced in
        let 𝓘 = allowed_lattice c some W is in
        let 𝓝 = allowed_at_infinity c some W is in
        let r = reduced_basis c I N 𝓘 𝓝 in
        let m = reduced_basis c C N (lattice_of_reduced c C M D.basis (λ i. pos 2 -ℤ d i) D.canonical) 𝓝 in
        let h = lattice_dimension (code_ring k) (code_field k) (functions_module c) (degree_of_y c) C I
        (multiples_of c N) m.0 r.0 m.1 r.1 m.2 r.2 finite in
        let j = family_dimension (code_ring k) (code_field k) (functions_module c) (degree_of_y c) (division c) C
        (multiples_of c M) (multiples_of c N) D.basis m.0
        (λ i. pos 2 -ℤ d i) m.1 D.canonical m.2 (λ l z x. infinite _ x) in
        let s = canonical_degrees c some Fin Inf b d reduced D.basis (λ i. pos 2 -ℤ d i) D.canonical in
        let t = pair_degrees c some W is w total r.0 b r.1 d r.2 reduced in
        let u = h.size in
        let v = j.size in (
          all_of_empty I C h.basis h.is (omega (arith, ints)),
          λ z z_in.
              (level_zero c N z).0
              (all_of_empty (multiples_of c N (pos 0)) (multiples_of c M (pos 0)) j.basis j.is (omega (arith, ints))
              z ((level_zero c M z).1 z_in)),
        )

    pub canonical_by_degree : IsCanonical (setting_of c) W
    canonical_by_degree =
        record {
          divisor = is;
          finite = λ z. (
            λ m u u_in. subst (IsPolynomial c)
                (ap (λ w. trace_of c ((ring_of c).◌⊗◌ w u)) (sym (one_mul (ring_of c) z))) (finite z m u u_in),
            λ h. both.0 z (λ u u_in. subst (IsPolynomial c)
                (ap (λ w. trace_of c ((ring_of c).◌⊗◌ w u)) (one_mul (ring_of c) z)) (h u u_in)),
          );
          infinite = λ z. (infinite z, both.1 z);
        }
