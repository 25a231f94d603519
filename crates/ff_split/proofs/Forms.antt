-- What the form of a split says, and that two of one form are equal.
use Rattle.std.proofs.Common.{◌≡◌, ℕ, zero, suc, ◌*◌, ◌/◌, ◌-◌, ◌<◌, List, [], ◌∷◌, length, map, refl, sym, ◌∙◌, ap, ap₂, subst, arith, All, IsPermutation}
use Rattle.std.proofs.lemmas.List.Elements.{All-head, All-tail}
use Rattle.std.proofs.lemmas.List.Sorted.{IsPermutation-map}
use Rattle.std.proofs.Math.IntN.{ℤ, pos, ◌+ℤ◌}
use Rattle.std.specs.Prelude.{◌≤ℤ◌}
use Rattle.ff_fields.specs.Field.{CodeField}
use Rattle.ff_fields.specs.Code.{code_ring, code_field}
use Rattle.ff_poly.specs.Polynomials.{x_poly}
use Rattle.function_field.specs.Functions.{Equation, degree_of_y}
use Rattle.function_field.specs.Values.{ElemValue, Functions, functions, function_of, equation_of}
use Rattle.function_field.specs.Curves.{CurveValue, IsCurve}
use Rattle.linear_theory.specs.Lists.{entry, tabulate}
use Rattle.reduced_basis_theory.specs.Degree.{degree_sum}
use Rattle.infinite_theory.specs.Supported.{IsSupportedAt}
use Rattle.space_theory.specs.Spaces.{multiples_of, IsReducedBasis, IsBasisOfBoth}
use Rattle.space_theory.proofs.FunctionModule.{functions_module}
use Rattle.ff_lattice.specs.Lattices.{LatticeValue, IsLatticeValue, Contains, pivot_degree_of}
use Rattle.value_theory.proofs.InfiniteLattices.{some}
use Rattle.split_theory.specs.Splits.{AtInfinity, split_degree, functions_of, degrees_of, degree_at}
use Rattle.split_theory.proofs.InfiniteRows.{infinite_lattice}
use Rattle.split_theory.proofs.OneSplit.{one_basis, one_degree}
use Rattle.split_theory.proofs.Permuted.{permuted_reduced, permuted_both}
use Rattle.split_theory.proofs.RowFunctions.{tabulate_same}
use Rattle.split_theory.proofs.Scaled.{reduced_degrees}
use Rattle.split_theory.proofs.SplitBases.{split_reduced}
use Rattle.split_theory.proofs.SplitDegrees.{split_sum}
use Rattle.ff_written.specs.LowestTerms.{IsWritten, elem_of}
use Rattle.ff_written.proofs.OneWritten.{one_written}
use Rattle.ff_split.specs.Splits.{SplitValue, IsLowestElem, IsInOrder, columns, IsSplitForm}
use Rattle.ff_split.proofs.Orders.{rising, same_order}

mapped : {X Y Z : Type 0} (f : Y → Z) (g : X → Y) (xs : List X) → map f (map g xs) ≡ map (λ x. f (g x)) xs
mapped f g [] = refl
mapped f g (x ∷ xs) = ap (λ ys. f (g x) ∷ ys) (mapped f g xs)

map_of_tabulate : {X Y : Type 0} (f : X → Y) (n : ℕ) (g : ℕ → X) → map f (tabulate n g) ≡ tabulate n (λ i. f (g i))
map_of_tabulate f zero g = refl
map_of_tabulate f (suc n) g = ap (λ ys. f (g 0) ∷ ys) (map_of_tabulate f n (λ i. g (suc i)))

tabulate_entries : {X : Type 0} (d : X) (xs : List X) → tabulate (length xs) (entry d xs) ≡ xs
tabulate_entries d [] = refl
tabulate_entries d (x ∷ xs) = ap (λ ys. x ∷ ys) (tabulate_entries d xs)

entry_of_tabulate : {X : Type 0} (d : X) (n : ℕ) (f : ℕ → X) (i : ℕ) → i < n → entry d (tabulate n f) i ≡ f i
entry_of_tabulate d zero f i less = absurd (omega (arith, less))
entry_of_tabulate d (suc n) f zero less = refl
entry_of_tabulate d (suc n) f (suc i) less = entry_of_tabulate d n (λ j. f (suc j)) i (omega (arith, less))

module _ (k : CodeField) (c : CurveValue) (curve : IsCurve k c) (fin inf : LatticeValue)
    (fin_form : IsLatticeValue k.ops c.fin.n fin) (inf_form : IsLatticeValue k.ops c.inf.n inf) (s : SplitValue)
    (form : IsSplitForm k c fin inf s) where
  abbrev E : Equation k
  E = equation_of k c.fin

  abbrev b : ℤ × ℕ → Functions k c.fin × ℤ
  b p = (entry (functions k c.fin).𝟘 form.bs p.1, p.0)

  -- the functions with their degrees, by the columns and in their order
  abbrev ps : List (Functions k c.fin × ℤ)
  ps = map b (columns form.u form.m)

  abbrev qs : List (Functions k c.fin × ℤ)
  qs = map b form.order

  permuted : IsPermutation ps qs
  permuted = IsPermutation-map b (columns form.u form.m) form.order form.ordered.all

  ps_functions : functions_of ps ≡ form.bs
  ps_functions =
      mapped (λ p. p.0) b (columns form.u form.m)
      ∙ map_of_tabulate (λ p. entry (functions k c.fin).𝟘 form.bs p.1) (length form.m)
      (λ i. (split_degree form.u form.m i, i))
      ∙ ap (λ n. tabulate n (entry (functions k c.fin).𝟘 form.bs)) (form.matrix.popov.size ∙ sym form.rows.count)
      ∙ tabulate_entries (functions k c.fin).𝟘 form.bs

  ps_degrees : degrees_of ps ≡ tabulate (length form.m) (split_degree form.u form.m)
  ps_degrees =
      mapped (λ p. p.1) b (columns form.u form.m)
      ∙ map_of_tabulate (λ p. p.0) (length form.m) (λ i. (split_degree form.u form.m i, i))

  qs_functions : functions_of qs ≡ map (function_of k c.fin) s.basis
  qs_functions = mapped (λ p. p.0) b form.order ∙ sym form.functions

  qs_degrees : degrees_of qs ≡ s.degrees
  qs_degrees = mapped (λ p. p.1) b form.order ∙ sym form.degrees

  first_reduced : IsReducedBasis E (Contains k c.fin fin) (AtInfinity k c inf) (functions_of ps) (degree_at ps)
  first_reduced =
      let r = split_reduced k c curve fin inf fin_form inf_form form.u form.matrix.over form.matrix.monic form.m
      form.matrix.popov form.matrix.spans form.bs form.rows in
      subst (λ fs. IsReducedBasis E (Contains k c.fin fin) (AtInfinity k c inf) fs (degree_at ps)) (sym ps_functions)
      (record {
        at =
            reduced_degrees (code_ring k) (code_field k) (functions_module E) (degree_of_y E)
            (multiples_of E (AtInfinity k c inf)) form.bs (split_degree form.u form.m) (degree_at ps)
            (λ i less.
            sym (ap (λ ds. entry (pos 0) ds i) ps_degrees
            ∙ entry_of_tabulate (pos 0) (length form.m) (split_degree form.u form.m) i (in_matrix i less)))
            r.at;
        lattice = r.lattice;
      })
    where
      in_matrix : (i : ℕ) → i < degree_of_y (equation_of k c.fin) → i < length form.m
      in_matrix i less = let one = some k c curve in omega (arith, less, one, form.matrix.popov.size)

  pub form_both : IsBasisOfBoth E (Contains k c.fin fin) (AtInfinity k c inf) (map (function_of k c.fin) s.basis)
      s.degrees
  form_both =
      subst (λ ds. IsBasisOfBoth E (Contains k c.fin fin) (AtInfinity k c inf) (map (function_of k c.fin) s.basis) ds)
      qs_degrees
      (subst (λ fs. IsBasisOfBoth E (Contains k c.fin fin) (AtInfinity k c inf) fs (degrees_of qs)) qs_functions
      (permuted_both E (Contains k c.fin fin) (AtInfinity k c inf) (infinite_lattice k c curve inf inf_form) ps qs
      permuted first_reduced))

  pub form_sum : IsSupportedAt (equation_of k c.inf) (x_poly k) (Contains k c.inf inf)
      → degree_sum c.fin.n (entry (pos 0) s.degrees)
      ≡ (pivot_degree_of fin +ℤ pivot_degree_of inf) +ℤ pos (c.c * (c.fin.n * (c.fin.n - 1)) / 2)
  form_sum tame =
      ap (λ ds. degree_sum c.fin.n (entry (pos 0) ds)) (sym qs_degrees)
      ∙ split_sum k c curve fin inf fin_form inf_form tame (functions_of qs) (degree_at qs)
      (permuted_reduced E (Contains k c.fin fin) (AtInfinity k c inf) ps qs permuted first_reduced)

  pub form_ascending : IsInOrder ◌≤ℤ◌ s.degrees
  form_ascending = subst (IsInOrder ◌≤ℤ◌) (sym form.degrees) (rising form.order form.ordered.ascending)

-- ---- one form

module _ (k : CodeField) (c : CurveValue) (curve : IsCurve k c) (fin inf : LatticeValue)
    (inf_form : IsLatticeValue k.ops c.inf.n inf) (s t : SplitValue) (f : IsSplitForm k c fin inf s)
    (g : IsSplitForm k c fin inf t) where
  same_columns : columns f.u f.m ≡ columns g.u g.m
  same_columns =
      ap (λ n. tabulate n (λ i. (split_degree f.u f.m i, i))) (f.matrix.popov.size ∙ sym g.matrix.popov.size)
      ∙ tabulate_same (length g.m) (λ i. (split_degree f.u f.m i, i)) (λ i. (split_degree g.u g.m i, i))
      (λ i less. ap (λ d. (d, i))
      (one_degree k c curve fin inf inf_form f.u g.u f.matrix.over f.matrix.monic g.matrix.over g.matrix.monic f.m g.m
      f.matrix.popov g.matrix.popov f.matrix.spans g.matrix.spans i (omega (arith, less, g.matrix.popov.size))))

  order_is : f.order ≡ g.order
  order_is =
      same_order (columns f.u f.m) f.order g.order f.ordered.all
      (subst (λ cs. IsPermutation cs g.order) (sym same_columns) g.ordered.all) f.ordered.ascending g.ordered.ascending

  bs_are : f.bs ≡ g.bs
  bs_are =
      one_basis k c curve fin inf inf_form f.u g.u f.matrix.over f.matrix.monic g.matrix.over g.matrix.monic f.m g.m
      f.matrix.popov g.matrix.popov f.matrix.spans g.matrix.spans f.bs g.bs f.rows g.rows

  pub one_functions : map (function_of k c.fin) s.basis ≡ map (function_of k c.fin) t.basis
  one_functions =
      f.functions
      ∙ ap₂ (λ bs order. map (λ (p : ℤ × ℕ). entry (functions k c.fin).𝟘 bs p.1) order) bs_are order_is
      ∙ sym g.functions

  pub one_degrees : s.degrees ≡ t.degrees
  one_degrees = f.degrees ∙ ap (map (λ (p : ℤ × ℕ). p.0)) order_is ∙ sym g.degrees

  -- elements in lowest terms with the same functions
  one_elements : (zs ws : List ElemValue) → map (function_of k c.fin) zs ≡ map (function_of k c.fin) ws
      → All (IsLowestElem k.ops c.fin.n) zs → All (IsLowestElem k.ops c.fin.n) ws → zs ≡ ws
  one_elements [] [] e h l = refl
  one_elements [] (w ∷ ws) e h l = absurd (omega (arith, ap length e))
  one_elements (z ∷ zs) [] e h l = absurd (omega (arith, ap length e))
  one_elements (z ∷ zs) (w ∷ ws) e h l =
      ap₂ ◌∷◌ (ap elem_of (one_written k c.fin (omega (arith, curve.at_least_two)) (function_of k c.fin z)
      (record { num = z.num; den = z.den }) (record { num = w.num; den = w.den })
      (is_written z z (All-head (IsLowestElem k.ops c.fin.n) z zs h) refl)
      (is_written w z (All-head (IsLowestElem k.ops c.fin.n) w ws l) (sym (ap first e)))))
      (one_elements zs ws (ap rest e) (All-tail (IsLowestElem k.ops c.fin.n) z zs h)
      (All-tail (IsLowestElem k.ops c.fin.n) w ws l))
    where
      first : List (Functions k c.fin) → Functions k c.fin
      first [] = (functions k c.fin).𝟘
      first (a ∷ fs) = a

      rest : List (Functions k c.fin) → List (Functions k c.fin)
      rest [] = []
      rest (a ∷ fs) = fs

      is_written : (z y : ElemValue) → IsLowestElem k.ops c.fin.n z → function_of k c.fin z ≡ function_of k c.fin y
          → IsWritten k c.fin (function_of k c.fin y) (record { num = z.num; den = z.den })
      is_written z y h e = record { element = h.element; trimmed = h.trimmed; lowest = h.lowest; same = e }

  pub one_value : All (IsLowestElem k.ops c.fin.n) s.basis → All (IsLowestElem k.ops c.fin.n) t.basis → s ≡ t
  one_value h l =
      let e = one_elements s.basis t.basis one_functions h l in
      let d = one_degrees in
      λ i. record { basis = e i; degrees = d i }
