-- The constants by a basis of both orders of a frame.
use Rattle.std.proofs.Common.{◌≡◌, ◌↔◌, ℕ, ◌-◌, ◌*◌, ◌/◌, List}
use Rattle.std.proofs.Math.IntN.{ℤ, pos, ◌+ℤ◌, ◌-ℤ◌}
use Rattle.ring_theory.specs.Subsets.{IsModule, Span}
use Rattle.ring_theory.proofs.Subsets.{span_least}
use Rattle.ff_fields.specs.Field.{CodeField}
use Rattle.ff_fields.specs.Code.{code_ring}
use Rattle.ff_poly.specs.Polynomials.{polynomials}
use Rattle.function_field.specs.declared.side.Side.TheVariants.{Finite, Infinite}
use Rattle.function_field.specs.Discriminant.{discriminant}
use Rattle.function_field.specs.Places.{IsIntegralAt}
use Rattle.function_field.specs.Divisors.{IsConstant, IsSpaceBasis}
use Rattle.function_field.specs.Functions.{Equation, FunctionOf, ring_of, setting_of, IsCode}
use Rattle.function_field.specs.Values.{Functions, setting, equation_of}
use Rattle.linear_theory.specs.Lists.{entry}
use Rattle.lattice_theory.specs.Lattices.{polynomial_ops}
use Rattle.reduced_basis_theory.specs.Degree.{size, degree_sum}
use Rattle.reduced_basis_theory.specs.Reduced.{layers}
use Rattle.space_theory.specs.Spaces.{IsReducedBasis, IsBasisOfBoth}
use Rattle.divisor_theory.proofs.Constants.{code_subring, code_on_both, constants_are}
use Rattle.constants_theory.proofs.ConstantSpace.{constants_ring, constants_space}
use Rattle.ff_lattice.specs.Lattices.{Contains, pivot_degree_of}
use Rattle.split_theory.specs.Splits.{AtInfinity}
use Rattle.ff_rr.specs.Frames.{FrameValue, IsFrame}
use Rattle.ff_rr.proofs.FrameSets.{frame_disc, frame_finite, frame_infinite, frame_tame}
use Rattle.ff_rr.proofs.BothReduced.{split_reduced}

module _ {k : CodeField} (c : Equation k) where
  -- the same of other lattices with the same members
  pub reduced_same : (I J N M : FunctionOf c → Type 0) → ((z : FunctionOf c) → I z ↔ J z)
      → ((z : FunctionOf c) → N z ↔ M z) → (bs : List (FunctionOf c)) (d : ℕ → ℤ) → IsReducedBasis c I N bs d
      → IsReducedBasis c J M bs d
  reduced_same I J N M s t bs d r = record {
    at = record {
      count = r.at.count;
      free = r.at.free;
      coordinates = r.at.coordinates;
      degrees = λ m z e p n q.
          let i = r.at.degrees m z e p n q in
          (λ h. i.0 ((t _).1 h), λ h. (t _).0 (i.1 h));
    };
    lattice = λ z. let i = r.lattice z in (λ h. i.0 ((s z).1 h), λ h. (s z).0 (i.1 h));
  }

  module _ (some : ¬ (discriminant c ≡ (polynomials k).𝟘)) where
    -- sums of constants, and products by codes, are constants
    constants_module : IsModule (ring_of c).ops (IsCode c) (IsConstant (setting_of c))
    constants_module =
        let r = constants_ring c some in
        record {
          zero_in = r.zero_in;
          sum_in = r.sum_in;
          scale_in = λ s a s_in a_in. r.product_in s a ((constants_are c some s).1 (code_on_both c s s_in)) a_in;
        }

    -- a basis of the constants spans them over k
    pub constants_spanned : (bs : List (FunctionOf c)) → IsSpaceBasis (setting_of c) (IsConstant (setting_of c)) bs
        → (z : FunctionOf c) → Span (ring_of c).ops (IsCode c) bs z ↔ IsConstant (setting_of c) z
    constants_spanned bs b z = (
      λ h. span_least (ring_of c) (IsCode c) (code_subring c) (IsConstant (setting_of c)) constants_module bs
          b.members z h,
      λ h. b.spanning z h,
    )

module _ (k : CodeField) (f : FrameValue) (h : IsFrame k f) (bs : List (Functions k f.curve.fin)) (ds : List ℤ)
    (both : IsBasisOfBoth (equation_of k f.curve.fin) (Contains k f.curve.fin f.fin) (AtInfinity k f.curve f.inf) bs ds)
    (sum :
    degree_sum f.curve.fin.n (entry (pos 0) ds)
    ≡ (pivot_degree_of f.fin +ℤ pivot_degree_of f.inf)
    +ℤ pos (f.curve.c * (f.curve.fin.n * (f.curve.fin.n - 1)) / 2)) where
  -- a reduced basis of the integral functions of both sides
  pub frame_reduced : IsReducedBasis (equation_of k f.curve.fin) (IsIntegralAt (setting k f.curve.fin) Finite)
      (IsIntegralAt (setting k f.curve.fin) Infinite) bs (entry (pos 0) ds)
  frame_reduced =
      reduced_same (equation_of k f.curve.fin) (Contains k f.curve.fin f.fin)
      (IsIntegralAt (setting k f.curve.fin) Finite) (AtInfinity k f.curve f.inf)
      (IsIntegralAt (setting k f.curve.fin) Infinite) (frame_finite k f h) (frame_infinite k f h) bs (entry (pos 0) ds)
      (split_reduced k f.curve h.curve f.fin f.inf h.finite.form h.infinite.form (frame_tame k f h) bs ds both sum)

  -- the constants have the basis x^j·b_i with 0 ≤ j ≤ -d_i
  pub frame_constants : IsSpaceBasis (setting k f.curve.fin) (IsConstant (setting k f.curve.fin))
      (layers (code_ring k) (polynomial_ops (equation_of k f.curve.fin)) bs (λ i. size (pos 0 -ℤ entry (pos 0) ds i)))
  frame_constants =
      constants_space (equation_of k f.curve.fin) (frame_disc k f h) bs (entry (pos 0) ds) frame_reduced
