-- The functions of the rows of an infinite lattice: they span a lattice at infinity, and are a reduced basis of it.
use Rattle.std.proofs.Common.{◌≡◌, ℕ, suc, ◌<◌, List, [], ◌∷◌, length, map, refl, ap, subst, arith}
use Rattle.std.proofs.Math.IntN.{pos}
use Rattle.std.proofs.lemmas.List.{length-map}
use Rattle.ring_lemmas.specs.Ring.{pow}
use Rattle.ring_theory.specs.Subsets.{Span}
use Rattle.ff_fields.specs.Field.{CodeField}
use Rattle.ff_fields.specs.Code.{code_ring}
use Rattle.ff_poly.specs.Polynomials.{Polynomial, polynomials}
use Rattle.function_field.specs.declared.side.Side.TheVariants.{Infinite}
use Rattle.function_field.specs.Functions.{degree_of_y, IsFiniteAtInfinity}
use Rattle.function_field.specs.Values.{Functions, functions, setting, function_of, equation_of}
use Rattle.function_field.specs.Infinity.{function_on}
use Rattle.function_field.specs.Curves.{CurveValue, IsCurve}
use Rattle.linear_theory.specs.Module.{combine}
use Rattle.lattice_theory.specs.Lattices as theory
use Rattle.lattice_theory.specs.Lattices.{polynomial_ops}
use Rattle.reduced_basis_theory.specs.Reduced.{IsReducedAt}
use Rattle.infinite_theory.specs.InfiniteMaps.{IsInfiniteMap}
use Rattle.infinite_theory.proofs.InfiniteTransport.{infinite_map}
use Rattle.space_theory.specs.Spaces.{IsLatticeAtInfinity, multiples_of}
use Rattle.space_theory.proofs.AtInfinity.{taken_at, combinations_lattice}
use Rattle.space_theory.proofs.InfiniteBases.{coordinates_at, free_at, level, multiples_reduced}
use Rattle.ff_lattice.specs.Lattices.{LatticeValue, IsLatticeValue, Contains, elems_over, row_elems}
use Rattle.value_theory.proofs.Bridge.{lattice_set}
use Rattle.value_theory.proofs.InfiniteLattices.{some, some_inf, image_of, rows_are}
use Rattle.split_theory.specs.Splits.{infinite_rows, AtInfinity}

module _ (k : CodeField) (c : CurveValue) (curve : IsCurve k c) (inf : LatticeValue)
    (form : IsLatticeValue k.ops c.inf.n inf) where
  pub map_is : IsInfiniteMap k c.fin c.inf c.c (image_of k c curve)
  map_is = infinite_map k c.fin c.inf c.c curve.infinite (some k c curve)

  pub infinite_set : theory.IsLattice (equation_of k c.inf) (Contains k c.inf inf)
  infinite_set = lattice_set k c.inf (some_inf k c curve) inf form

  -- they are the images of the rows
  pub images : map (image_of k c curve) (map (function_of k c.inf) (row_elems inf)) ≡ infinite_rows k c inf
  images = rows_are k c curve inf form

  pub infinite_lattice : IsLatticeAtInfinity (equation_of k c.fin) (AtInfinity k c inf)
  infinite_lattice =
      subst
      (λ hs. IsLatticeAtInfinity (equation_of k c.fin)
      (Span (functions k c.fin).ops (IsFiniteAtInfinity (equation_of k c.fin)) hs))
      images
      (combinations_lattice k c.fin c.inf c.c (image_of k c curve) map_is (Contains k c.inf inf) infinite_set
      (map (function_of k c.inf) (row_elems inf)) (λ z. (λ h. h, λ h. h)))

  pub rows_count : length (infinite_rows k c inf) ≡ degree_of_y (equation_of k c.fin)
  rows_count =
      let one = some k c curve in
      let same : c.inf.n ≡ c.fin.n = curve.infinite.degree in
      let rows : length inf.rows ≡ c.inf.n = form.popov.size in
      let elems : length (row_elems inf) ≡ length inf.rows = elems_count inf.rows in
      let functions : length (infinite_rows k c inf) ≡ length (row_elems inf)
      = length-map (row_elems inf) (function_on k c.fin c.c Infinite) in
      omega (arith, one, same, rows, elems, functions)
    where
      elems_count : (rows : List (List (List ℕ))) → length (elems_over rows inf.den) ≡ length rows
      elems_count [] = refl
      elems_count (v ∷ rows) = ap suc (elems_count rows)

  taken : (z : Functions k c.fin)
      → (j : ℕ)
      × Span (functions k c.fin).ops (IsFiniteAtInfinity (equation_of k c.fin)) (infinite_rows k c inf)
      ((functions k c.fin).◌⊗◌ (pow (functions k c.fin).ops (setting k c.fin).one_over_x j) z)
  taken =
      subst
      (λ hs. (z : Functions k c.fin)
      → (j : ℕ)
      × Span (functions k c.fin).ops (IsFiniteAtInfinity (equation_of k c.fin)) hs
      ((functions k c.fin).◌⊗◌ (pow (functions k c.fin).ops (setting k c.fin).one_over_x j) z))
      images
      (taken_at k c.fin c.inf c.c (image_of k c curve) map_is (Contains k c.inf inf) infinite_set
      (map (function_of k c.inf) (row_elems inf)) (λ z. (λ h. h, λ h. h)))

  pub rows_free : (r : ℕ → Polynomial k)
      → combine (polynomial_ops (equation_of k c.fin)) r (infinite_rows k c inf) ≡ (functions k c.fin).𝟘 → (i : ℕ)
      → i < degree_of_y (equation_of k c.fin) → r i ≡ (polynomials k).𝟘
  rows_free =
      free_at (equation_of k c.fin) (infinite_rows k c inf) rows_count (λ z. (taken z).0) (λ z. (taken z).1)

  pub rows_reduced : IsReducedAt (code_ring k) (polynomial_ops (equation_of k c.fin))
      (degree_of_y (equation_of k c.fin)) (multiples_of (equation_of k c.fin) (AtInfinity k c inf))
      (infinite_rows k c inf) (λ i. pos 0)
  rows_reduced =
      multiples_reduced (equation_of k c.fin) (AtInfinity k c inf) (infinite_rows k c inf) (λ i. pos 0) rows_count
      rows_free
      (coordinates_at (equation_of k c.fin) (infinite_rows k c inf) rows_count (λ z. (taken z).0) (λ z. (taken z).1))
      (level (equation_of k c.fin) (infinite_rows k c inf) rows_count (λ z. (taken z).0) (λ z. (taken z).1))
