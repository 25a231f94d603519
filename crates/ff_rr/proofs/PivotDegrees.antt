-- The pivot degrees of the lattices of a frame are at most 0, since the integral functions have k[x][y] and k[t][Y].
use Rattle.std.proofs.Common.{◌≤◌, length, sym, subst, arith}
use Rattle.std.proofs.lemmas.Int.{ints}
use Rattle.std.proofs.lemmas.List.Elements.{All-weaker}
use Rattle.std.proofs.Math.IntN.{ℤ, pos}
use Rattle.std.specs.Prelude.{◌≤ℤ◌}
use Rattle.ring_lemmas.proofs.Ring.{one_mul}
use Rattle.linear_theory.specs.Fields.{domain_of}
use Rattle.linear_theory.specs.Basis.{IsCombination}
use Rattle.linear_theory.proofs.Exchange.{exchange}
use Rattle.ff_fields.specs.Field.{CodeField}
use Rattle.function_field.specs.Functions.{Equation, FunctionOf}
use Rattle.function_field.specs.Indices.{space_ops}
use Rattle.function_field.specs.Values.{Functions, functions, equation_of}
use Rattle.trace_theory.specs.Traces.{HasPolynomialCoordinates}
use Rattle.lattice_theory.specs.Lattices.{IsLattice}
use Rattle.lattice_theory.proofs.Indices.{codes, space, lattice_subspace}
use Rattle.lattice_theory.proofs.Operations.{polynomial_lattice}
use Rattle.order_theory.proofs.IntegralLattice.{coordinates_integral}
use Rattle.infinite_theory.proofs.InfiniteTransport.{infinite_map}
use Rattle.infinite_theory.proofs.InfiniteLaws.{taken_members}
use Rattle.ideal_theory.specs.Indices.{HasRelativeIndex}
use Rattle.ff_lattice.specs.Lattices.{Contains, pivot_degree_of}
use Rattle.value_theory.proofs.InfiniteLattices.{some, some_inf, image_of, infinite_disc, integral_members}
use Rattle.value_theory.proofs.Laws.{indices_by_degrees}
use Rattle.ff_rr.specs.Frames.{FrameValue, IsFrame}
use Rattle.ff_rr.proofs.FrameSets.{frame_finite}

module _ {k : CodeField} (c : Equation k) (A B : FunctionOf c → Type 0) (𝓑 : IsLattice c B)
    (within : (z : FunctionOf c) → B z → A z) where
  -- the index of a lattice relative to one that it has is at most 0
  pub relative_at_most : (m : ℤ) → HasRelativeIndex c A B m → m ≤ℤ pos 0
  relative_at_most m r =
      let a = r.first_index in
      let b = r.second_index in
      let l : length a.basis ≤ length b.basis
      = exchange (domain_of (codes k)) (space c) B (lattice_subspace c B 𝓑) a.basis b.basis
      (λ co h i less. a.is.independent co (within _ h) i less)
      (All-weaker _ (IsCombination (space_ops c) B b.basis) (λ z h. b.is.spanning z h) a.basis a.is.members_in) in
      let e = r.is in
      let n = a.count in
      let n' = b.count in
      omega (arith, ints)

module _ (k : CodeField) (f : FrameValue) (h : IsFrame k f) where
  pub finite_pivots : pivot_degree_of f.fin ≤ℤ pos 0
  finite_pivots =
      relative_at_most (equation_of k f.curve.fin) (Contains k f.curve.fin f.fin)
      (HasPolynomialCoordinates (equation_of k f.curve.fin)) (polynomial_lattice (equation_of k f.curve.fin))
      (λ z m. (frame_finite k f h z).1 (coordinates_integral (equation_of k f.curve.fin) z m))
      (pivot_degree_of f.fin)
      ((indices_by_degrees k f.curve.fin (some k f.curve h.curve)).coordinates f.fin h.finite.form)

  -- k[t][Y]
  infinite_has : (z : Functions k f.curve.inf) → HasPolynomialCoordinates (equation_of k f.curve.inf) z
      → Contains k f.curve.inf f.inf z
  infinite_has z m =
      let g = infinite_map k f.curve.fin f.curve.inf f.curve.c h.curve.infinite (some k f.curve h.curve) in
      let t =
      taken_members k f.curve.fin f.curve.inf f.curve.c (image_of k f.curve h.curve) g
      (infinite_disc k f.curve h.curve) z in
      (integral_members k f.curve h.curve f.inf h.infinite z).1
      (t.0 (record {
        in_Int = coordinates_integral (equation_of k f.curve.inf) z m;
        exponent = 0;
        inside =
            subst (HasPolynomialCoordinates (equation_of k f.curve.inf)) (sym (one_mul (functions k f.curve.inf) z)) m;
      }))

  pub infinite_pivots : pivot_degree_of f.inf ≤ℤ pos 0
  infinite_pivots =
      relative_at_most (equation_of k f.curve.inf) (Contains k f.curve.inf f.inf)
      (HasPolynomialCoordinates (equation_of k f.curve.inf)) (polynomial_lattice (equation_of k f.curve.inf))
      infinite_has (pivot_degree_of f.inf)
      ((indices_by_degrees k f.curve.inf (some_inf k f.curve h.curve)).coordinates f.inf h.infinite.form)
