-- The rows of a lattice over k[x] times the coordinates of the powers of y: they span a multiple of the lattice.
use Rattle.std.proofs.Common.{◌≡◌, ℕ, zero, suc, ◌+◌, ◌-◌, ◌<◌, ◌≤◌, List, [], ◌∷◌, length, map, refl, sym, ◌∙◌, ap, ap₂, subst, arith}
use Rattle.std.proofs.lemmas.List.{length-map}
use Rattle.ring_lemmas.specs.Ring.{pow}
use Rattle.ring_lemmas.proofs.Ring.{one_mul, mul_zero}
use Rattle.ring_lemmas.proofs.Solver.{ring, reads}
use Rattle.ff_fields.specs.Field.{CodeField}
use Rattle.ff_fields.specs.Code.{code_ring, code_field}
use Rattle.ff_poly.specs.Value.{value}
use Rattle.ff_poly.specs.Popov.{row_at, entry_at, IsRow}
use Rattle.ff_poly.specs.Polynomials.{polynomials, x_poly}
use Rattle.function_field.specs.Functions.{Equation, FunctionOf, ring_of, of_poly, y_of, degree_of_y}
use Rattle.function_field.specs.Values.{Functions, functions, function_of, equation_of}
use Rattle.function_field.specs.Curves.{CurveValue, IsCurve}
use Rattle.function_field.proofs.Horner.{horner, den_times_function}
use Rattle.linear_theory.specs.Module.{combine}
use Rattle.linear_theory.specs.Lists.{entry}
use Rattle.linear_theory.proofs.Combination.{combine_map}
use Rattle.lattice_theory.specs.Lattices.{polynomial_ops}
use Rattle.order_theory.proofs.LocalOrders.{power_value}
use Rattle.reduced_basis_theory.specs.Reduced.{InLattice}
use Rattle.reduced_basis_theory.proofs.Rescale.{scaling_linear}
use Rattle.space_theory.specs.Spaces.{multiples_of}
use Rattle.space_theory.proofs.FunctionModule.{functions_module}
use Rattle.space_theory.proofs.LatticeBases.{lattice_of_span, span_of_lattice}
use Rattle.divisor_theory.proofs.StandardPair.{powers, powers_length}
use Rattle.ff_popov.specs.Reading.{read_row}
use Rattle.ff_popov.proofs.Entries.{any_default}
use Rattle.ff_popov.proofs.Spans.{combination_row}
use Rattle.ff_lattice.specs.Lattices.{LatticeValue, IsLatticeValue, elems_over, row_elems}
use Rattle.ff_lattice.proofs.Divisors.{monic_value}
use Rattle.ff_lattice.proofs.Elements.{elem_over}
use Rattle.ff_lattice.proofs.Normal.{monic_poly}
use Rattle.value_theory.proofs.InfiniteLattices.{some}
use Rattle.split_theory.specs.Splits.{AtInfinity, row_function, AreCoordinates, AreRowProducts, IsDenominator, SpanMultiple}
use Rattle.split_theory.proofs.RowFunctions.{same_list, entry_map, get_map}
use Rattle.split_theory.proofs.RowSpaces.{function_combination}
use Rattle.split_theory.proofs.Scaled.{lattice_over}
use Rattle.split_theory.proofs.SplitBases.{cancel_polynomial}

module _ {k : CodeField} (c : Equation k) where
  infixl 65 ◌⊕◌
  infixl 70 ◌⊗◌
  open ring_of c use {𝟘, 𝟙, ◌⊕◌, ◌⊗◌}

  abbrev ys : ℕ → FunctionOf c
  ys i = pow (ring_of c).ops (y_of c) i

  -- the sum of the v_j·y^(i + j)
  pub powers_horner : (n : ℕ) (v : List (List ℕ)) (i : ℕ) → length v ≡ n
      → combine (polynomial_ops c) (λ j. value k (entry_at v j)) (powers c i n) ≡ ys i ⊗ horner c n (read_row k n v)
  unfolding powers horner
  powers_horner zero v i size = sym (mul_zero (ring_of c) (ys i))
  powers_horner (suc n) [] i size = absurd (omega (arith, size))
  powers_horner (suc n) (a ∷ v) i size =
      ap (λ w. of_poly c (value k a) ⊗ ys i ⊕ w) (powers_horner n v (suc i) (omega (arith, size)))
      ∙ step (of_poly c (value k a)) (ys i) (y_of c) (horner c n (read_row k n v))
    where
      step : (a p y h : FunctionOf c) → a ⊗ p ⊕ (y ⊗ p) ⊗ h ≡ p ⊗ (a ⊕ y ⊗ h)
      step a p y h =
          ring (ring_of c) (a ∷ p ∷ y ∷ h ∷ []) λ q i. simp (reads, q, i 0, i 1, i 2, i 3) (q.equal _ _ refl)

  pub powers_entry : (n i j : ℕ) → j < n → entry 𝟘 (powers c i n) j ≡ ys (i + j)
  unfolding powers
  powers_entry zero i j less = absurd (omega (arith, less))
  powers_entry (suc n) i zero less = ap ys (omega arith)
  powers_entry (suc n) i (suc j) less =
      powers_entry n (suc i) j (omega (arith, less)) ∙ ap ys (omega arith)

module _ (k : CodeField) (c : CurveValue) (curve : IsCurve k c) (fin inf : LatticeValue)
    (fin_form : IsLatticeValue k.ops c.fin.n fin) (inf_form : IsLatticeValue k.ops c.inf.n inf)
    (s : ℕ) (Q : List (List (List ℕ))) (coordinates : AreCoordinates k c inf s Q) (W : List (List (List ℕ)))
    (products : AreRowProducts k c.fin.n fin.rows Q W) (u : List ℕ) (denominator : IsDenominator k fin.den s u) where
  infixl 65 ◌⊕◌
  infixl 70 ◌⊗◌
  open functions k c.fin use {𝟘, 𝟙, ◌⊕◌, ◌⊗◌}

  abbrev E : Equation k
  E = equation_of k c.fin

  pub u_some : ¬ (value k u ≡ (polynomials k).𝟘)
  u_some = monic_value k u denominator.over (monic_poly u denominator.monic) denominator.monic

  den_some : ¬ (value k fin.den ≡ (polynomials k).𝟘)
  den_some = monic_value k fin.den fin_form.den_in fin_form.den_poly fin_form.monic

  abbrev xs : Functions k c.fin
  xs = of_poly E (pow (polynomials k).ops (x_poly k) s)

  row_of_fin : (i : ℕ) → i < length fin.rows → IsRow k.ops c.fin.n (row_at fin.rows i)
  row_of_fin i less = fin_form.rows_in i [] less

  -- the powers of y, times that of x, have the rows of Q
  scaled_powers : map (λ z. xs ⊗ z) (powers E 0 (degree_of_y E)) ≡ map (row_function k c inf) Q
  scaled_powers =
      same_list 𝟘 (map (λ z. xs ⊗ z) (powers E 0 (degree_of_y E))) (map (row_function k c inf) Q)
      (omega (arith, size, image_size, one, coordinates.count))
      (λ i less.
      let l : i < degree_of_y E = omega (arith, less, size) in
      let l' : i < c.fin.n = omega (arith, l, one) in
      entry_map (λ z. xs ⊗ z) 𝟘 𝟘 (powers E 0 (degree_of_y E)) i
      (omega (arith, l, powers_length E 0 (degree_of_y E)))
      ∙ ap (λ z. xs ⊗ z)
      (powers_entry E (degree_of_y E) 0 i l ∙ ap (pow (functions k c.fin).ops (y_of E)) (omega arith))
      ∙ ap (λ w. w ⊗ pow (functions k c.fin).ops (y_of E) i) (power_value E (x_poly k) s)
      ∙ coordinates.each i l'
      ∙ sym (get_map (row_function k c inf) [] 𝟘 Q i (omega (arith, l', coordinates.count))))
    where
      one : 1 ≤ c.fin.n
      one = some k c curve

      size : length (map (λ z. xs ⊗ z) (powers E 0 (degree_of_y E))) ≡ degree_of_y E
      size = length-map (powers E 0 (degree_of_y E)) (λ z. xs ⊗ z) ∙ powers_length E 0 (degree_of_y E)

      image_size : length (map (row_function k c inf) Q) ≡ length Q
      image_size = length-map Q (row_function k c inf)

  -- u times a row of the lattice has the product as its row
  row_multiple : (i : ℕ) → i < length fin.rows
      → of_poly E (value k u) ⊗ function_of k c.fin (record { num = row_at fin.rows i; den = fin.den })
      ≡ row_function k c inf (row_at W i)
  row_multiple i less =
      let v = row_at fin.rows i in
      let row = row_of_fin i less in
      let e = products.each i less in
      let n_is : c.fin.n ≡ degree_of_y E = let one = some k c curve in omega (arith, one) in
      ap (λ a. of_poly E a ⊗ function_of k c.fin (record { num = v; den = fin.den }))
      (denominator.is ∙ (polynomials k).mul_comm (value k fin.den) (pow (polynomials k).ops (x_poly k) s))
      ∙ (functions_module E).mul_scale (pow (polynomials k).ops (x_poly k) s) (value k fin.den)
      (function_of k c.fin (record { num = v; den = fin.den }))
      ∙ ap (λ z. xs ⊗ z)
      (ap (λ z. of_poly E (value k fin.den) ⊗ z) (elem_over k c.fin fin.den den_some v)
      ∙ den_times_function E (record {
        num = read_row k (suc (c.fin.n - 1)) v;
        den = value k fin.den;
        den_not_zero = den_some;
      })
      ∙ sym (powers_horner E (degree_of_y E) v 0 (row.size ∙ n_is)
      ∙ one_mul (functions k c.fin) (horner E (degree_of_y E) (read_row k (degree_of_y E) v))))
      ∙ combine_map (functions_module E) (functions_module E) (λ z. xs ⊗ z)
      (scaling_linear (functions_module E) (pow (polynomials k).ops (x_poly k) s)) (λ j. value k (entry_at v j))
      (powers E 0 (degree_of_y E))
      ∙ ap (combine (polynomial_ops E) (λ j. value k (entry_at v j))) scaled_powers
      ∙ sym (function_combination k c curve inf inf_form v Q e.size e.over coordinates.rows_in)
      ∙ ap (row_function k c inf) (sym e.is)

  multiples : (rows V : List (List (List ℕ))) → length V ≡ length rows
      → ((i : ℕ) → i < length rows
      → of_poly E (value k u) ⊗ function_of k c.fin (record { num = row_at rows i; den = fin.den })
      ≡ row_function k c inf (row_at V i))
      → map (λ z. of_poly E (value k u) ⊗ z) (map (function_of k c.fin) (elems_over rows fin.den))
      ≡ map (row_function k c inf) V
  multiples [] [] size h = refl
  multiples [] (w ∷ V) size h = absurd (omega (arith, size))
  multiples (v ∷ rows) [] size h = absurd (omega (arith, size))
  multiples (v ∷ rows) (w ∷ V) size h =
      ap₂ ◌∷◌ (h 0 (omega arith)) (multiples rows V (omega (arith, size)) (λ i l. h (suc i) (omega (arith, l))))

  pub products_spanned : SpanMultiple k c inf fin u W
  products_spanned = record {
    rows_in = λ i d less.
        let l : i < length fin.rows = omega (arith, less, products.count) in
        let e = products.each i l in
        subst (IsRow k.ops c.fin.n) (sym e.is ∙ any_default W i [] d less)
        (combination_row k c.fin.n (row_at fin.rows i) Q e.over coordinates.rows_in);
    members = λ z.
        let fs = map (function_of k c.fin) (row_elems fin) in
        let a = lattice_over (code_ring k) (code_field k) (functions_module E) (degree_of_y E)
        (multiples_of E (AtInfinity k c inf)) (value k u) u_some (cancel_polynomial E (value k u) u_some) fs z in
        let same = multiples fin.rows W products.count row_multiple in (
          λ h. subst
              (λ gs. InLattice (code_ring k) (polynomial_ops E) gs (of_poly E (value k u) ⊗ z)) same
              (a.1 (lattice_of_span E fs z h)),
          λ h. span_of_lattice E fs z (a.0 (subst
              (λ gs. InLattice (code_ring k) (polynomial_ops E) gs (of_poly E (value k u) ⊗ z)) (sym same) h)),
        );
  }
