-- The rows of a Popov basis over a polynomial are a reduced basis of the two lattices.
use Rattle.std.proofs.Common.{◌≡◌, ℕ, suc, ◌-◌, ◌<◌, List, [], length, map, get_or, sym, ◌∙◌, ap, subst, arith}
use Rattle.std.proofs.lemmas.Int.{ints}
use Rattle.std.proofs.lemmas.List.{length-map}
use Rattle.std.proofs.Math.IntN.{pos, ◌-ℤ◌}
use Rattle.ff_fields.specs.Field.{CodeField}
use Rattle.ff_fields.specs.Code.{code_ring, code_field}
use Rattle.ff_poly.specs.Popov.{row_at, entry_at, IsPopovMatrix}
use Rattle.ff_poly.specs.Value.{value, numbers_value}
use Rattle.ff_poly.specs.Words.{IsMonicList}
use Rattle.ff_fields.specs.Over.{IsOver}
use Rattle.ff_poly.specs.Polynomials.{Polynomial, polynomials}
use Rattle.function_field.specs.Functions.{Equation, FunctionOf, ring_of, of_poly, degree_of_y, over, row_of}
use Rattle.function_field.specs.Values.{Functions, functions, equation_of}
use Rattle.function_field.specs.Curves.{CurveValue, IsCurve}
use Rattle.function_field.proofs.OnSide.{den_inverse}
use Rattle.function_field.proofs.ScalarRings.{bottoms_not_zero}
use Rattle.linear_theory.specs.Lists.{tabulate}
use Rattle.lattice_theory.specs.Lattices.{polynomial_ops}
use Rattle.reduced_basis_theory.specs.Degree.{degree}
use Rattle.reduced_basis_theory.specs.Reduced.{InLattice, Coordinates, IsReducedAt}
use Rattle.reduced_basis_theory.specs.Rows.{from_rows}
use Rattle.reduced_basis_theory.proofs.Predictable.{predictable_reduced}
use Rattle.space_theory.specs.Spaces.{multiples_of, IsReducedBasis, IsBasisOfBoth}
use Rattle.space_theory.proofs.FunctionModule.{functions_module, cancel}
use Rattle.space_theory.proofs.Simultaneous.{basis_of_both}
use Rattle.ff_lattice.specs.Lattices.{LatticeValue, IsLatticeValue, Contains}
use Rattle.ff_lattice.proofs.Divisors.{monic_value}
use Rattle.ff_lattice.proofs.Normal.{monic_poly}
use Rattle.value_theory.proofs.Bridge.{lattice_set}
use Rattle.value_theory.proofs.InfiniteLattices.{some}
use Rattle.split_theory.specs.Splits.{infinite_rows, AtInfinity, row_function, SpanMultiple, AreRowsOver, split_degree, split_degrees}
use Rattle.split_theory.proofs.InfiniteRows.{infinite_lattice, rows_reduced}
use Rattle.split_theory.proofs.PopovRows.{matrix, pivot_degrees, split_rows, regular}
use Rattle.split_theory.proofs.RowFunctions.{map_tabulate, same_list, entry_map, get_map}
use Rattle.split_theory.proofs.Scaled.{reduced_degrees, reduced_over, lattice_over}

-- a polynomial other than 0 cancels
module _ {k : CodeField} (c : Equation k) (a : Polynomial k) (some : ¬ (a ≡ (polynomials k).𝟘)) where
  back : (z : FunctionOf c)
      → (ring_of c).◌⊗◌ (over c (row_of c (polynomials k).𝟙) a some) ((ring_of c).◌⊗◌ (of_poly c a) z) ≡ z
  back z =
      cancel c (over c (row_of c (polynomials k).𝟙) a some) (of_poly c a) z
      ((ring_of c).mul_comm _ _ ∙ den_inverse c a some)

  pub cancel_polynomial : (y z : FunctionOf c) → (ring_of c).◌⊗◌ (of_poly c a) y ≡ (ring_of c).◌⊗◌ (of_poly c a) z
      → y ≡ z
  cancel_polynomial y z e =
      sym (back y) ∙ ap ((ring_of c).◌⊗◌ (over c (row_of c (polynomials k).𝟙) a some)) e ∙ back z

module _ (k : CodeField) (c : CurveValue) (curve : IsCurve k c) (fin inf : LatticeValue)
    (fin_form : IsLatticeValue k.ops c.fin.n fin) (inf_form : IsLatticeValue k.ops c.inf.n inf)
    (u : List ℕ) (u_in : IsOver k.ops u) (u_monic : IsMonicList u) (m : List (List (List ℕ)))
    (popov : IsPopovMatrix c.fin.n m) (spanned : SpanMultiple k c inf fin u m)
    (bs : List (Functions k c.fin)) (rows : AreRowsOver k c inf u m bs) where
  abbrev E : Equation k
  E = equation_of k c.fin

  u_some : ¬ (value k u ≡ (polynomials k).𝟘)
  u_some = monic_value k u u_in (monic_poly u u_monic) u_monic

  -- the functions of the rows
  abbrev gs : List (Functions k c.fin)
  gs = map (row_function k c inf) m

  gs_tabulated : from_rows (code_ring k) (polynomial_ops E) (degree_of_y E) (infinite_rows k c inf)
      (matrix k c.fin.n (some k c curve) m spanned.rows_in popov) ≡ gs
  gs_tabulated =
      let one = some k c curve in
      let size : length m ≡ suc (c.fin.n - 1) = omega (arith, popov.size, one) in
      sym (map_tabulate (row_function k c inf) [] m
      ∙ ap (λ n. tabulate n (λ i. row_function k c inf (get_or m i []))) size)

  gs_multiples : gs ≡ map ((functions k c.fin).◌⊗◌ (of_poly E (value k u))) bs
  gs_multiples =
      sym (same_list (functions k c.fin).𝟘 (map ((functions k c.fin).◌⊗◌ (of_poly E (value k u))) bs) gs
      (omega (arith, mapped, imaged, popov.size, rows.count))
      (λ i less.
      let l : i < length bs = omega (arith, less, mapped) in
      let l' : i < length m = omega (arith, less, mapped, popov.size, rows.count) in
      entry_map ((functions k c.fin).◌⊗◌ (of_poly E (value k u))) (functions k c.fin).𝟘 (functions k c.fin).𝟘 bs i l
      ∙ rows.each i (omega (arith, l, rows.count))
      ∙ sym (get_map (row_function k c inf) [] (functions k c.fin).𝟘 m i l')))
    where
      mapped : length (map ((functions k c.fin).◌⊗◌ (of_poly (equation_of k c.fin) (value k u))) bs) ≡ length bs
      mapped = length-map bs _

      imaged : length (map (row_function k c inf) m) ≡ length m
      imaged = length-map m (row_function k c inf)

  -- each function has coordinates in them
  gs_coordinates : (z : Functions k c.fin)
      → Coordinates (code_ring k) (polynomial_ops E) gs z
  gs_coordinates z =
      let f = (lattice_set k c.fin (some k c curve) fin fin_form).full z in
      let r = (spanned.members _).0 f.multiple_in in
      record {
        denominator = (polynomials k).◌⊗◌ (value k u) f.factor;
        nonzero = bottoms_not_zero E (value k u) f.factor u_some f.some;
        coefficient = r.coefficient;
        is = (functions_module E).mul_scale (value k u) f.factor z ∙ r.is;
      }

  gs_reduced : IsReducedAt (code_ring k) (polynomial_ops E) (degree_of_y E)
      (multiples_of E (AtInfinity k c inf)) gs
      (pivot_degrees k c.fin.n (some k c curve) m spanned.rows_in popov)
  gs_reduced =
      subst
      (λ hs. IsReducedAt (code_ring k) (polynomial_ops E) (degree_of_y E) (multiples_of E (AtInfinity k c inf)) hs
      (pivot_degrees k c.fin.n (some k c curve) m spanned.rows_in popov))
      gs_tabulated
      (predictable_reduced (code_ring k) (functions_module E) (degree_of_y E) (multiples_of E (AtInfinity k c inf))
      (infinite_rows k c inf) (λ i. pos 0) (rows_reduced k c curve inf inf_form)
      (matrix k c.fin.n (some k c curve) m spanned.rows_in popov)
      (pivot_degrees k c.fin.n (some k c curve) m spanned.rows_in popov)
      (split_rows k c.fin.n (some k c curve) m spanned.rows_in popov)
      (regular k c.fin.n (some k c curve) m spanned.rows_in popov)
      (λ z. subst (λ hs. Coordinates (code_ring k) (polynomial_ops E) hs z) (sym gs_tabulated) (gs_coordinates z)))

  pub split_reduced : IsReducedBasis E (Contains k c.fin fin) (AtInfinity k c inf) bs (split_degree u m)
  split_reduced =
      record {
        at =
            reduced_degrees (code_ring k) (code_field k) (functions_module E) (degree_of_y E)
            (multiples_of E (AtInfinity k c inf)) bs _ (split_degree u m) (λ i less. same_degree i less)
            (reduced_over (code_ring k) (code_field k) (functions_module E) (degree_of_y E)
            (multiples_of E (AtInfinity k c inf)) (value k u) u_some (cancel_polynomial E (value k u) u_some) bs
            (pivot_degrees k c.fin.n (some k c curve) m spanned.rows_in popov)
            (subst
            (λ hs. IsReducedAt (code_ring k) (polynomial_ops E) (degree_of_y E) (multiples_of E (AtInfinity k c inf))
            hs (pivot_degrees k c.fin.n (some k c curve) m spanned.rows_in popov)) gs_multiples gs_reduced));
        lattice = λ z.
            let a = spanned.members z in
            let b = lattice_over (code_ring k) (code_field k) (functions_module E) (degree_of_y E)
            (multiples_of E (AtInfinity k c inf)) (value k u) u_some (cancel_polynomial E (value k u) u_some) bs z in (
              λ h. b.0 (subst (λ hs. InLattice (code_ring k) (polynomial_ops E) hs
                  ((functions k c.fin).◌⊗◌ (of_poly E (value k u)) z)) gs_multiples (a.0 h)),
              λ h. a.1 (subst (λ hs. InLattice (code_ring k) (polynomial_ops E) hs
                  ((functions k c.fin).◌⊗◌ (of_poly E (value k u)) z)) (sym gs_multiples) (b.1 h)),
            );
      }
    where
      same_degree : (i : ℕ) → i < degree_of_y (equation_of k c.fin)
          → (pos (length (entry_at (row_at m i) i)) -ℤ pos 1) -ℤ degree (code_ring k) (value k u) ≡ split_degree u m i
      same_degree i less =
          let l : length (value k u).0 ≡ length u
          = sym (length-map (value k u).0 (λ x. x.0)) ∙ ap length (numbers_value k u u_in (monic_poly u u_monic)) in
          omega (arith, ints)

  pub split_both : IsBasisOfBoth E (Contains k c.fin fin) (AtInfinity k c inf) bs (split_degrees u m)
  split_both =
      subst (λ n. IsBasisOfBoth E (Contains k c.fin fin) (AtInfinity k c inf) bs (tabulate n (split_degree u m)))
      (rows.count ∙ sym popov.size)
      (basis_of_both E (Contains k c.fin fin) (AtInfinity k c inf) (infinite_lattice k c curve inf inf_form) bs
      (split_degree u m) split_reduced)
