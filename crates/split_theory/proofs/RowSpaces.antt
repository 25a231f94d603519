-- Rows of polynomials as functions in the coordinates of the infinite rows: the map is linear, and the functions of
-- combinations of rows are the combinations of their functions.
use Rattle.std.proofs.Common.{◌≡◌, ℕ, suc, ◌-◌, ◌<◌, List, [], ◌∷◌, length, map, refl, sym, ◌∙◌, ap, ap₂, subst, arith, All}
use Rattle.std.proofs.lemmas.List.{length-map}
use Rattle.std.proofs.lemmas.List.Elements.{All-nil, All-cons}
use Rattle.ring_lemmas.specs.Lists.{mul_lists}
use Rattle.ring_lemmas.specs.Rows.{Row, entry}
use Rattle.ring_lemmas.specs.Polynomials.{Pol}
use Rattle.ring_theory.specs.PolynomialRing.{pol_ring}
use Rattle.ring_theory.proofs.PolynomialRows.{same_entries, entry_zero, entry_add, entry_scale}
use Rattle.ff_fields.specs.Field.{CodeField}
use Rattle.ff_fields.specs.Code.{code_ring, raw_ring}
use Rattle.ff_fields.specs.Over.{IsOver}
use Rattle.ff_poly.specs.Words.{IsPoly, product_of}
use Rattle.ff_poly.specs.PolyOver.{IsPoly_poly_of}
use Rattle.ff_poly.specs.Value.{value}
use Rattle.ff_poly.specs.Polynomials.{Polynomial, polynomials, codes_of, value_codes_of, IsOver_codes_of, IsPoly_codes_of, value_nil}
use Rattle.ff_poly.specs.Popov.{entry_at, IsRow, InRowSpan, HaveSameRowSpan, HasFullRankMatrix, combination_list, multiple_of_row}
use Rattle.popov_theory.specs.Module.{PolynomialModule}
use Rattle.popov_theory.specs.Span as rows_span
use Rattle.popov_theory.proofs.PolynomialRows.{row_module_zero, row_module_add, row_module_scale}
use Rattle.function_field.specs.Functions.{of_poly, degree_of_y}
use Rattle.function_field.specs.Values.{Functions, functions, equation_of}
use Rattle.function_field.specs.Curves.{CurveValue, IsCurve}
use Rattle.function_field.proofs.ScalarRings.{bottoms_not_zero}
use Rattle.linear_theory.specs.Module.{combine}
use Rattle.linear_theory.proofs.Combination.{combine_cong, combine_none, combine_sum, combine_scale}
use Rattle.lattice_theory.specs.Lattices as theory
use Rattle.lattice_theory.specs.Lattices.{polynomial_ops}
use Rattle.reduced_basis_theory.specs.Reduced.{InLattice}
use Rattle.reduced_basis_theory.proofs.Converse.{same_coefficients}
use Rattle.space_theory.proofs.FunctionModule.{functions_module}
use Rattle.ff_popov.specs.Reading.{read_row, row_space, read_rows}
use Rattle.ff_popov.proofs.ReadRows.{entry_read}
use Rattle.ff_popov.proofs.Spans.{listed, listed_length, listed_at, combination_read, space_multiple, multiple_row, from_space}
use Rattle.ff_lattice.specs.Lattices.{LatticeValue, IsLatticeValue, Contains}
use Rattle.split_theory.specs.Splits.{infinite_rows, row_function, SpanMultiple}
use Rattle.split_theory.proofs.InfiniteRows.{rows_count, rows_free}

module _ (k : CodeField) (c : CurveValue) (curve : IsCurve k c) (inf : LatticeValue)
    (form : IsLatticeValue k.ops c.inf.n inf) where
  abbrev n : ℕ
  n = degree_of_y (equation_of k c.fin)

  abbrev M : PolynomialModule (code_ring k) (Row (Pol (code_ring k)) (suc (c.fin.n - 1)))
  M = row_space k c.fin.n

  infixl 65 ◌⊕◌
  infixl 70 ◌⊗◌
  open functions k c.fin use {𝟘, ◌⊕◌, ◌⊗◌}

  -- the function of a row of polynomials
  abbrev pub row_at_h : Row (Pol (code_ring k)) (suc (c.fin.n - 1)) → Functions k c.fin
  row_at_h v =
      combine (polynomial_ops (equation_of k c.fin)) (λ j. entry (pol_ring (code_ring k)).ops (suc (c.fin.n - 1)) j v)
      (infinite_rows k c inf)

  inside : (j : ℕ) → j < length (infinite_rows k c inf) → j < suc (c.fin.n - 1)
  inside j l = omega (arith, l, rows_count k c curve inf form)

  pub row_is : (v : List (List ℕ)) → row_function k c inf v ≡ row_at_h (read_row k (suc (c.fin.n - 1)) v)
  row_is v =
      combine_cong (functions_module (equation_of k c.fin)) _ _ (infinite_rows k c inf)
      (λ j l. sym (entry_read k (suc (c.fin.n - 1)) j v (inside j l)))

  h_zero : row_at_h M.𝟎 ≡ 𝟘
  h_zero =
      combine_none (functions_module (equation_of k c.fin)) _ (infinite_rows k c inf)
      (λ j l. ap (entry (pol_ring (code_ring k)).ops (suc (c.fin.n - 1)) j)
      (row_module_zero (code_ring k) (c.fin.n - 1))
      ∙ entry_zero (code_ring k) (suc (c.fin.n - 1)) j)

  h_step : (a : Polynomial k) (v w : Row (Pol (code_ring k)) (suc (c.fin.n - 1)))
      → row_at_h (M.◌⊞◌ (M.◌·◌ a v) w) ≡ of_poly (equation_of k c.fin) a ⊗ row_at_h v ⊕ row_at_h w
  h_step a v w =
      combine_cong (functions_module (equation_of k c.fin)) _ _ (infinite_rows k c inf) (λ j l.
      ap (entry (pol_ring (code_ring k)).ops (suc (c.fin.n - 1)) j)
      (row_module_add (code_ring k) (c.fin.n - 1) (M.◌·◌ a v) w)
      ∙ entry_add (code_ring k) (suc (c.fin.n - 1)) j (M.◌·◌ a v) w
      ∙ ap (λ x. (pol_ring (code_ring k)).◌⊕◌ x (entry (pol_ring (code_ring k)).ops (suc (c.fin.n - 1)) j w))
      (ap (entry (pol_ring (code_ring k)).ops (suc (c.fin.n - 1)) j)
      (row_module_scale (code_ring k) (c.fin.n - 1) a v)
      ∙ entry_scale (code_ring k) (suc (c.fin.n - 1)) j a v))
      ∙ combine_sum (functions_module (equation_of k c.fin))
      (λ j. (polynomials k).◌⊗◌ a (entry (pol_ring (code_ring k)).ops (suc (c.fin.n - 1)) j v))
      (λ j. entry (pol_ring (code_ring k)).ops (suc (c.fin.n - 1)) j w) (infinite_rows k c inf)
      ∙ ap (λ x. x ⊕ row_at_h w)
      (combine_scale (functions_module (equation_of k c.fin)) a
      (λ j. entry (pol_ring (code_ring k)).ops (suc (c.fin.n - 1)) j v) (infinite_rows k c inf))

  pub h_scale : (a : Polynomial k) (v : Row (Pol (code_ring k)) (suc (c.fin.n - 1)))
      → row_at_h (M.◌·◌ a v) ≡ of_poly (equation_of k c.fin) a ⊗ row_at_h v
  h_scale a v =
      combine_cong (functions_module (equation_of k c.fin)) _ _ (infinite_rows k c inf) (λ j l.
      ap (entry (pol_ring (code_ring k)).ops (suc (c.fin.n - 1)) j)
      (row_module_scale (code_ring k) (c.fin.n - 1) a v)
      ∙ entry_scale (code_ring k) (suc (c.fin.n - 1)) j a v)
      ∙ combine_scale (functions_module (equation_of k c.fin)) a
      (λ j. entry (pol_ring (code_ring k)).ops (suc (c.fin.n - 1)) j v) (infinite_rows k c inf)

  pub h_combine : (p : ℕ → Polynomial k) (rows : List (List (List ℕ)))
      → row_at_h (rows_span.combine M p (read_rows k c.fin.n rows))
      ≡ combine (polynomial_ops (equation_of k c.fin)) p (map (row_function k c inf) rows)
  h_combine p [] = h_zero
  h_combine p (v ∷ rows) =
      h_step (p 0) (read_row k (suc (c.fin.n - 1)) v)
      (rows_span.combine M (λ i. p (suc i)) (read_rows k c.fin.n rows))
      ∙ ap₂ (λ x y. of_poly (equation_of k c.fin) (p 0) ⊗ x ⊕ y) (sym (row_is v)) (h_combine (λ i. p (suc i)) rows)

  -- the function of a combination of rows
  pub function_combination : (cs : List (List ℕ)) (rows : List (List (List ℕ))) → length cs ≡ length rows
      → All (IsOver k.ops) cs → All (IsRow k.ops c.fin.n) rows
      → row_function k c inf (combination_list k.ops c.fin.n cs rows)
      ≡ combine (polynomial_ops (equation_of k c.fin)) (λ i. value k (entry_at cs i)) (map (row_function k c inf) rows)
  function_combination cs rows size cs_in all =
      row_is (combination_list k.ops c.fin.n cs rows)
      ∙ ap row_at_h (combination_read k c.fin.n cs rows size cs_in all)
      ∙ h_combine (λ i. value k (entry_at cs i)) rows

  -- a row is known from its function
  pub h_injective : (v w : Row (Pol (code_ring k)) (suc (c.fin.n - 1))) → row_at_h v ≡ row_at_h w → v ≡ w
  h_injective v w e =
      same_entries (code_ring k) (suc (c.fin.n - 1)) v w (λ j l.
      same_coefficients (functions_module (equation_of k c.fin)) (infinite_rows k c inf) n
      (rows_free k c curve inf form)
      (λ j. entry (pol_ring (code_ring k)).ops (suc (c.fin.n - 1)) j v)
      (λ j. entry (pol_ring (code_ring k)).ops (suc (c.fin.n - 1)) j w) e j l)

  -- coefficients as codes
  codes : ℕ → (ℕ → Polynomial k) → List (List ℕ)
  codes m p = listed m (λ i. codes_of k (p i))

  codes_size : (m : ℕ) (p : ℕ → Polynomial k) → length (codes m p) ≡ m
  unfolding codes
  codes_size m p = listed_length m (λ i. codes_of k (p i))

  codes_over : (m : ℕ) (p : ℕ → Polynomial k) → All (IsOver k.ops) (codes m p)
  unfolding codes
  codes_over m p i d less =
      subst (IsOver k.ops)
      (sym (listed_at m (λ i. codes_of k (p i)) i d (omega (arith, less, listed_length m (λ i. codes_of k (p i))))))
      (IsOver_codes_of k (p i))

  codes_value : (m : ℕ) (p : ℕ → Polynomial k) (i : ℕ) → i < m → value k (entry_at (codes m p) i) ≡ p i
  unfolding codes
  codes_value m p i less =
      ap (value k) (listed_at m (λ i. codes_of k (p i)) i [] less) ∙ value_codes_of k (p i)

  -- a combination of the functions of rows is the function of a combination of the rows
  from_codes : (rows : List (List (List ℕ))) → All (IsRow k.ops c.fin.n) rows → (p : ℕ → Polynomial k)
      → combine (polynomial_ops (equation_of k c.fin)) p (map (row_function k c inf) rows)
      ≡ row_function k c inf (combination_list k.ops c.fin.n (codes (length rows) p) rows)
  from_codes rows all p =
      sym (function_combination (codes (length rows) p) rows (codes_size (length rows) p) (codes_over (length rows) p)
      all
      ∙ combine_cong (functions_module (equation_of k c.fin)) _ p (map (row_function k c inf) rows)
      (λ i l. codes_value (length rows) p i (omega (arith, l, length-map rows (row_function k c inf)))))

  within : (rows ss : List (List (List ℕ))) → All (IsRow k.ops c.fin.n) rows → All (IsRow k.ops c.fin.n) ss
      → ((v : List (List ℕ)) → InRowSpan k.ops c.fin.n rows v → InRowSpan k.ops c.fin.n ss v) → (z : Functions k c.fin)
      → InLattice (code_ring k) (polynomial_ops (equation_of k c.fin)) (map (row_function k c inf) rows) z
      → InLattice (code_ring k) (polynomial_ops (equation_of k c.fin)) (map (row_function k c inf) ss) z
  within rows ss rows_in ss_in h z m =
      let cs = codes (length rows) m.coefficient in
      let t = h (combination_list k.ops c.fin.n cs rows) (record {
        coefficients = cs;
        is = record {
          size = codes_size (length rows) m.coefficient;
          over = codes_over (length rows) m.coefficient;
          is = refl;
        };
      }) in
      record {
        coefficient = λ i. value k (entry_at t.coefficients i);
        is = m.is ∙ from_codes rows rows_in m.coefficient ∙ ap (row_function k c inf) t.is.is
            ∙ function_combination t.coefficients ss t.is.size t.is.over ss_in;
      }

  -- rows with the same lattice have functions with the same span
  pub spanned_same : (fin : LatticeValue) (u : List ℕ) (W m : List (List (List ℕ))) → SpanMultiple k c inf fin u W
      → All (IsRow k.ops c.fin.n) m → HaveSameRowSpan k.ops c.fin.n W m → SpanMultiple k c inf fin u m
  spanned_same fin u W m spanned all same = record {
    rows_in = all;
    members = λ z. (
      λ h. within W m spanned.rows_in all same.left _ ((spanned.members z).0 h),
      λ h. (spanned.members z).1 (within m W all spanned.rows_in same.right _ h),
    );
  }

  multiple_poly : (a : List ℕ) (v : List (List ℕ)) → All IsPoly (multiple_of_row k.ops a v)
  multiple_poly a [] = All-nil IsPoly
  multiple_poly a (b ∷ v) =
      All-cons IsPoly (product_of k.ops a b) (multiple_of_row k.ops a v)
      (IsPoly_poly_of (mul_lists (raw_ring k.ops) a b)) (multiple_poly a v)

  -- rows whose functions span a multiple of a lattice are of full rank
  pub spanned_full : (fin : LatticeValue) → theory.IsLattice (equation_of k c.fin) (Contains k c.fin fin)
      → (u : List ℕ) → ¬ (value k u ≡ (polynomials k).𝟘) → (W : List (List (List ℕ))) → SpanMultiple k c inf fin u W
      → HasFullRankMatrix k.ops c.fin.n W
  spanned_full fin lattice u u_some W spanned = record {
    multiple = λ v v_row.
        let f = lattice.full (row_function k c inf v) in
        let a = (polynomials k).◌⊗◌ (value k u) f.factor in
        let m = (spanned.members _).0 f.multiple_in in
        record {
          factor = codes_of k a;
          factor_in = IsOver_codes_of k a;
          factor_poly = IsPoly_codes_of k a;
          factor_some = λ e. bottoms_not_zero (equation_of k c.fin) (value k u) f.factor u_some f.some
              (sym (value_codes_of k a) ∙ ap (value k) e ∙ value_nil k);
          in_span =
              from_space k c.fin.n W spanned.rows_in (multiple_of_row k.ops (codes_of k a) v)
              (multiple_row k c.fin.n (codes_of k a) v (IsOver_codes_of k a) v_row) (multiple_poly (codes_of k a) v)
              (record {
                coefficients = m.coefficient;
                is = h_injective _ _ (multiple_function v v_row a ∙ whole f.factor _ ∙ m.is
                    ∙ sym (h_combine m.coefficient W));
              });
        };
  }
    where
      whole : (b : Polynomial k) (z : Functions k c.fin)
          → of_poly (equation_of k c.fin) ((polynomials k).◌⊗◌ (value k u) b) ⊗ z
          ≡ of_poly (equation_of k c.fin) (value k u) ⊗ (of_poly (equation_of k c.fin) b ⊗ z)
      whole b z = (functions_module (equation_of k c.fin)).mul_scale (value k u) b z

      multiple_function : (v : List (List ℕ)) → IsRow k.ops c.fin.n v → (a : Polynomial k)
          → row_at_h (read_row k (suc (c.fin.n - 1)) (multiple_of_row k.ops (codes_of k a) v))
          ≡ of_poly (equation_of k c.fin) a ⊗ row_function k c inf v
      multiple_function v v_row a =
          combine_cong (functions_module (equation_of k c.fin)) _ _ (infinite_rows k c inf) (λ j l.
          ap (entry (pol_ring (code_ring k)).ops (suc (c.fin.n - 1)) j)
          (space_multiple k c.fin.n (codes_of k a) v (IsOver_codes_of k a) v_row.over
          ∙ row_module_scale (code_ring k) (c.fin.n - 1) (value k (codes_of k a)) (read_row k (suc (c.fin.n - 1)) v))
          ∙ entry_scale (code_ring k) (suc (c.fin.n - 1)) j (value k (codes_of k a))
          (read_row k (suc (c.fin.n - 1)) v)
          ∙ ap₂ (polynomials k).◌⊗◌ (value_codes_of k a) (entry_read k (suc (c.fin.n - 1)) j v (inside j l)))
          ∙ combine_scale (functions_module (equation_of k c.fin)) a (λ j. value k (entry_at v j))
          (infinite_rows k c inf)
