-- A basis of two lattices whose degrees have the sum that those of a reduced basis have is a reduced basis.
use Rattle.std.proofs.Common.{◌≡◌, ℕ, zero, suc, ◌-◌, ◌*◌, ◌/◌, ◌<◌, List, [], ◌∷◌, length, sym, ◌∙◌, subst, arith, All}
use Rattle.std.proofs.lemmas.List.Elements.{All-head, All-tail, All-weaker}
use Rattle.std.proofs.Math.IntN.{ℤ, pos, ◌+ℤ◌}
use Rattle.std.specs.Prelude.{neg_ℤ}
use Rattle.ring_theory.proofs.Subsets.{span_members}
use Rattle.ff_fields.specs.Field.{CodeField}
use Rattle.ff_poly.specs.Polynomials.{x_poly}
use Rattle.function_field.specs.Functions.{Equation, FunctionOf, ring_of, setting_of, degree_of_y, IsPolynomial, IsFiniteAtInfinity}
use Rattle.function_field.specs.Divisors.{x_to, shifted}
use Rattle.function_field.specs.Curves.{CurveValue, IsCurve}
use Rattle.function_field.specs.Values.{Functions, equation_of}
use Rattle.function_field.proofs.ScalarRings.{finite_at_infinity_subring}
use Rattle.function_field.proofs.Spans.{span_list}
use Rattle.linear_theory.specs.Lists.{entry}
use Rattle.reduced_basis_theory.specs.Degree.{degree_sum}
use Rattle.infinite_theory.specs.Supported.{IsSupportedAt}
use Rattle.space_theory.specs.Spaces.{IsReducedBasis, IsBasisOfBoth}
use Rattle.space_theory.proofs.LatticeBases.{lattice_of_span, span_of_lattice}
use Rattle.space_theory.proofs.Pairs.{reduced_basis}
use Rattle.divisor_theory.proofs.Certificates.{reduced_by_sum}
use Rattle.ff_lattice.specs.Lattices.{LatticeValue, IsLatticeValue, Contains, pivot_degree_of}
use Rattle.value_theory.proofs.Bridge.{lattice_set}
use Rattle.value_theory.proofs.InfiniteLattices.{some}
use Rattle.split_theory.specs.Splits.{AtInfinity}
use Rattle.split_theory.proofs.InfiniteRows.{infinite_lattice}
use Rattle.split_theory.proofs.SplitDegrees.{split_sum}

module _ {k : CodeField} (c : Equation k) where
  infixl 70 ◌⊗◌
  open ring_of c use {𝟘, ◌⊗◌}

  shifted_entry : (N : FunctionOf c → Type 0) (ds : List ℤ) (bs : List (FunctionOf c))
      → All N (shifted (setting_of c) ds bs) → (i : ℕ) → i < length bs → i < length ds
      → N (x_to (setting_of c) (neg_ℤ (entry (pos 0) ds i)) ⊗ entry 𝟘 bs i)
  shifted_entry N [] bs h i l m = absurd (omega arith)
  shifted_entry N (d ∷ ds) [] h i l m = absurd (omega arith)
  shifted_entry N (d ∷ ds) (b ∷ bs) h zero l m = All-head N _ (shifted (setting_of c) ds bs) h
  shifted_entry N (d ∷ ds) (b ∷ bs) h (suc i) l m =
      shifted_entry N ds bs (All-tail N _ (shifted (setting_of c) ds bs) h) i (omega arith) (omega arith)

  module _ (I N : FunctionOf c → Type 0) (bs : List (FunctionOf c)) (ds : List ℤ) (both : IsBasisOfBoth c I N bs ds)
      (a : List (FunctionOf c)) (e : ℕ → ℤ) (reduced : IsReducedBasis c I N a e) where
    -- where the sum of the degrees is that of one reduced basis
    pub both_reduced : degree_sum (degree_of_y c) (entry (pos 0) ds) ≡ degree_sum (degree_of_y c) e
        → IsReducedBasis c I N bs (entry (pos 0) ds)
    both_reduced sum =
        reduced_by_sum c I N a e reduced bs (entry (pos 0) ds) both.count
        (λ z. (
          λ h. lattice_of_span c bs z
              ((span_list (ring_of c).ops (IsPolynomial c) bs z).1 ((both.finite z).0 h).in_span),
          λ h. (both.finite z).1 (span_of_lattice c bs z h),
        ))
        (λ i less.
        shifted_entry N ds bs
        (All-weaker _ N (λ z h. (both.infinite z).1 h) (shifted (setting_of c) ds bs)
        (span_members (ring_of c) (IsFiniteAtInfinity c) (finite_at_infinity_subring c) (shifted (setting_of c) ds bs)))
        i (subst (λ n. i < n) (sym both.count) less) (subst (λ n. i < n) (sym both.one_each) less))
        sum

module _ (k : CodeField) (c : CurveValue) (curve : IsCurve k c) (fin inf : LatticeValue)
    (fin_form : IsLatticeValue k.ops c.fin.n fin) (inf_form : IsLatticeValue k.ops c.inf.n inf)
    (tame : IsSupportedAt (equation_of k c.inf) (x_poly k) (Contains k c.inf inf)) where
  n_is : degree_of_y (equation_of k c.fin) ≡ c.fin.n
  n_is = let one = some k c curve in omega (arith, one)

  -- of two lattices by their pivot degrees
  pub split_reduced : (bs : List (Functions k c.fin)) (ds : List ℤ)
      → IsBasisOfBoth (equation_of k c.fin) (Contains k c.fin fin) (AtInfinity k c inf) bs ds
      → degree_sum c.fin.n (entry (pos 0) ds)
      ≡ (pivot_degree_of fin +ℤ pivot_degree_of inf) +ℤ pos (c.c * (c.fin.n * (c.fin.n - 1)) / 2)
      → IsReducedBasis (equation_of k c.fin) (Contains k c.fin fin) (AtInfinity k c inf) bs (entry (pos 0) ds)
  split_reduced bs ds both sum =
      let r =
      reduced_basis (equation_of k c.fin) (Contains k c.fin fin) (AtInfinity k c inf)
      (lattice_set k c.fin (some k c curve) fin fin_form) (infinite_lattice k c curve inf inf_form) in
      both_reduced (equation_of k c.fin) (Contains k c.fin fin) (AtInfinity k c inf) bs ds both r.0 r.1 r.2
      (subst (λ n. degree_sum n (entry (pos 0) ds) ≡ degree_sum n r.1) (sym n_is)
      (sum ∙ sym (split_sum k c curve fin inf fin_form inf_form tame r.0 r.1 r.2)))
