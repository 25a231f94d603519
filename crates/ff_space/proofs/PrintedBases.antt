-- The functions that are printed for a space are a basis of it over k.
use Rattle.std.proofs.Common.{◌≡◌, ℕ, suc, ◌<◌, ◌≤◌, List, [], ◌∷◌, length, get_or, map, refl, sym, ◌∙◌, ap, ap₂, subst, arith, All}
use Rattle.std.proofs.lemmas.List.Elements.{All-nil, All-cons}
use Rattle.ring_lemmas.specs.Lists.{coeff_of}
use Rattle.ff_fields.specs.Field.{CodeField}
use Rattle.ff_fields.specs.Code.{code_ring}
use Rattle.ff_fields.specs.Numbers.{read}
use Rattle.ff_poly.specs.Value.{value}
use Rattle.ff_poly.specs.Polynomials.{polynomials}
use Rattle.polynomial_theory.proofs.ListValues.{monic_poly}
use Rattle.linear_theory.specs.Basis.{IsNull, IsCombination}
use Rattle.ff_linalg.proofs.Bridge.{own_row_codes}
use Rattle.function_field.specs.Divisors.{IsSpaceBasis}
use Rattle.function_field.specs.Functions.{Equation, ring_of}
use Rattle.function_field.specs.Indices.{space_ops}
use Rattle.function_field.specs.Values.{ElemValue, PresValue, Functions, IsElem, function_of, equation_of, setting}
use Rattle.space_theory.proofs.CodeBases.{basis_by_codes}
use Rattle.ff_lattice.proofs.Divisors.{monic_value}
use Rattle.ff_space.specs.Spaces.{SpaceValue, AreRowFunctions, IsPrintedSpace}
use Rattle.ff_space.specs.Vectors.{over_den}
use Rattle.ff_space.proofs.CodeSpans.{rows_free}
use Rattle.ff_space.proofs.VectorFunctions.{over_den_combination}

module _ (k : CodeField) (p : PresValue) where
  -- the functions of the rows, and their elements
  pub row_functions_are : (den : List ℕ) (width : ℕ) (rows : List (List ℕ)) (zs : List ElemValue)
      → AreRowFunctions k p den width rows zs → map (function_of k p) zs ≡ map (over_den k p den width) rows
  row_functions_are den width [] zs h = ap (map (function_of k p)) h
  row_functions_are den width (r ∷ rows) [] h = absurd h
  row_functions_are den width (r ∷ rows) (z ∷ zs) h = ap₂ ◌∷◌ h.0.same (row_functions_are den width rows zs h.1)

  pub row_elements : (den : List ℕ) (width : ℕ) (rows : List (List ℕ)) (zs : List ElemValue)
      → AreRowFunctions k p den width rows zs → All (IsElem k.ops p.n) zs
  row_elements den width [] zs h = subst (All (IsElem k.ops p.n)) (sym h) (All-nil (IsElem k.ops p.n))
  row_elements den width (r ∷ rows) [] h = absurd h
  row_elements den width (r ∷ rows) (z ∷ zs) h =
      All-cons (IsElem k.ops p.n) z zs h.0.element (row_elements den width rows zs h.1)

  module _ (some_n : 1 ≤ p.n) (In : Functions k p → Type 0) (s : SpaceValue) (printed : IsPrintedSpace k p In s) where
    abbrev c : Equation k
    c = equation_of k p

    abbrev fs : List (Functions k p)
    fs = map (over_den k p s.den s.width) s.rows.rows

    den_some : ¬ (value k s.den ≡ (polynomials k).𝟘)
    den_some = monic_value k s.den printed.form.den_over (monic_poly k s.den printed.form.monic) printed.form.monic

    wide : All (λ r. length r ≡ s.rows.cols) s.rows.rows
    wide = subst (λ n. All (λ r. length r ≡ n) s.rows.rows) (sym printed.form.shape.col_count) printed.form.shape.each

    all_map : {A B : Type 0} (T : B → Type 0) (f : A → B) (xs : List A) (d : A)
        → ((i : ℕ) → i < length xs → T (f (get_or xs i d))) → All T (map f xs)
    all_map T f [] d h = All-nil T
    all_map T f (x ∷ xs) d h =
        All-cons T (f x) (map f xs) (h 0 (omega arith)) (all_map T f xs d (λ i l. h (suc i) (omega (arith, l))))

    members : All In fs
    members =
        all_map In (over_den k p s.den s.width) s.rows.rows [] (λ i l.
        ((printed.row_space (get_or s.rows.rows i [])).0
        (own_row_codes k s.rows printed.form.over.each wide i l)).is_in)

    spanning : (z : Functions k p) → In z → IsCombination (space_ops c) (IsNull (space_ops c)) fs z
    spanning z h =
        let t = printed.vectors z h in
        let v = (printed.row_space t.vector).1
        (record { count = t.count; over = t.over; is_in = subst In t.is h }) in
        record {
          coefficient = coeff_of (code_ring k).ops (read k v.coefficients);
          rest = (ring_of c).𝟘;
          rest_in = refl;
          is =
              t.is ∙ ap (over_den k p s.den s.width) v.is
              ∙ over_den_combination k p some_n s.den den_some s.width s.rows.cols v.coefficients s.rows.rows v.one_each
              v.over printed.form.over.each
              ∙ sym ((ring_of c).add_zero _);
        }

    pub printed_basis : IsSpaceBasis (setting k p) In (map (function_of k p) s.functions)
    printed_basis =
        subst (IsSpaceBasis (setting k p) In)
        (sym (row_functions_are s.den s.width s.rows.rows s.functions printed.form.functions))
        (basis_by_codes c In fs (record {
          members_in = members;
          spanning = spanning;
          independent =
              rows_free k p some_n s.den den_some s.width s.rows printed.form.shape.col_count wide printed.form.over
              printed.reduced;
        }))
