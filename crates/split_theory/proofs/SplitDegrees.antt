-- The sum of the degrees of a reduced basis of two lattices, by their pivot degrees.
use Rattle.std.proofs.Common.{◌≡◌, ℕ, suc, ◌-◌, ◌*◌, ◌/◌, List, map, sym, ◌∙◌, ap, subst, arith}
use Rattle.std.proofs.lemmas.Int.{ints}
use Rattle.std.proofs.Math.IntN.{ℤ, pos, ◌+ℤ◌}
use Rattle.ring_theory.specs.Subsets.{Span}
use Rattle.ff_fields.specs.Field.{CodeField}
use Rattle.ff_poly.specs.Polynomials.{x_poly}
use Rattle.function_field.specs.Functions.{IsFiniteAtInfinity, degree_of_y}
use Rattle.function_field.specs.Values.{Functions, functions, function_of, equation_of}
use Rattle.function_field.specs.Curves.{CurveValue, IsCurve}
use Rattle.reduced_basis_theory.specs.Degree.{degree_sum}
use Rattle.infinite_theory.specs.Supported.{IsSupportedAt}
use Rattle.space_theory.specs.Spaces.{IsReducedBasis}
use Rattle.divisor_theory.proofs.SumsOfDegrees.{sum_of_degrees, standard_sum}
use Rattle.ff_lattice.specs.Lattices.{LatticeValue, IsLatticeValue, Contains, row_elems, pivot_degree_of}
use Rattle.value_theory.proofs.Bridge.{lattice_set}
use Rattle.value_theory.proofs.InfiniteLattices.{some, some_inf, image_of}
use Rattle.value_theory.proofs.Laws.{indices_by_degrees}
use Rattle.split_theory.specs.Splits.{AtInfinity}
use Rattle.split_theory.proofs.InfiniteRows.{map_is, infinite_set, images}

-- half of a number that is taken twice
halved : (x : ℤ) (a : ℕ) → x +ℤ x ≡ pos a → x ≡ pos (a / 2)
halved x a e = omega (arith, ints)

module _ (k : CodeField) (c : CurveValue) (curve : IsCurve k c) (fin inf : LatticeValue)
    (fin_form : IsLatticeValue k.ops c.fin.n fin) (inf_form : IsLatticeValue k.ops c.inf.n inf)
    (tame : IsSupportedAt (equation_of k c.inf) (x_poly k) (Contains k c.inf inf)) where
  pub split_sum : (bs : List (Functions k c.fin)) (d : ℕ → ℤ)
      → IsReducedBasis (equation_of k c.fin) (Contains k c.fin fin) (AtInfinity k c inf) bs d
      → degree_sum c.fin.n d
      ≡ (pivot_degree_of fin +ℤ pivot_degree_of inf) +ℤ pos (c.c * (c.fin.n * (c.fin.n - 1)) / 2)
  split_sum bs d reduced =
      let one = some k c curve in
      let n_is : degree_of_y (equation_of k c.fin) ≡ c.fin.n = omega (arith, one) in
      let s =
      sum_of_degrees k c.fin c.inf c.c (image_of k c curve) (map_is k c curve inf inf_form)
      (ap (λ n. suc (n - 1)) curve.infinite.degree) (Contains k c.fin fin)
      (lattice_set k c.fin (some k c curve) fin fin_form)
      (Contains k c.inf inf) (infinite_set k c curve inf inf_form) tame (map (function_of k c.inf) (row_elems inf))
      (λ z. (λ h. h, λ h. h)) (pivot_degree_of fin) (pivot_degree_of inf)
      ((indices_by_degrees k c.fin (some k c curve)).coordinates fin fin_form)
      ((indices_by_degrees k c.inf (some_inf k c curve)).coordinates inf inf_form) bs d
      (subst
      (λ hs. IsReducedBasis (equation_of k c.fin) (Contains k c.fin fin)
      (Span (functions k c.fin).ops (IsFiniteAtInfinity (equation_of k c.fin)) hs) bs d)
      (sym (images k c curve inf inf_form)) reduced) in
      subst
      (λ n. degree_sum n d
      ≡ (pivot_degree_of fin +ℤ pivot_degree_of inf) +ℤ degree_sum n (λ i. pos (c.c * i))) n_is s
      ∙ ap (λ x. (pivot_degree_of fin +ℤ pivot_degree_of inf) +ℤ x)
      (halved (degree_sum c.fin.n (λ i. pos (c.c * i))) (c.c * (c.fin.n * (c.fin.n - 1))) (standard_sum c.c c.fin.n))
