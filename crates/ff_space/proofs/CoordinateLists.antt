-- The coordinates of a function in the functions of a printed basis.
use Rattle.std.proofs.Common.{◌≡◌, ℕ, ◌*◌, ◌≤◌, List, [], ◌∷◌, length, map, refl, sym, ◌∙◌, ap, subst, arith, All}
use Rattle.std.proofs.lemmas.List.{length-map}
use Rattle.ring_lemmas.specs.Lists.{coeff_of}
use Rattle.ff_fields.specs.Field.{CodeField}
use Rattle.ff_fields.specs.Code.{code_ring}
use Rattle.ff_fields.specs.Numbers.{read}
use Rattle.ff_fields.specs.Over.{IsOver}
use Rattle.ff_poly.specs.Words.{IsPoly, IsMonicList}
use Rattle.ff_poly.specs.Value.{value}
use Rattle.ff_poly.specs.Polynomials.{polynomials, constant_poly}
use Rattle.polynomial_theory.proofs.ListValues.{monic_poly}
use Rattle.linear_theory.specs.Module.{combine}
use Rattle.ff_factor.specs.LowestTerms.{AreSameFractions}
use Rattle.ff_linalg.specs.Space.{IsSolution, HasNoSolution}
use Rattle.function_field.specs.Functions.{Equation, of_poly}
use Rattle.function_field.specs.Indices.{space_ops}
use Rattle.function_field.specs.Spans.{combination}
use Rattle.function_field.specs.Values.{ElemValue, PresValue, Functions, functions, IsElem, IsMonicElem, function_of, equation_of}
use Rattle.ff_lattice.proofs.Divisors.{monic_value}
use Rattle.ff_space.specs.Coordinates.{AreCoordinates}
use Rattle.ff_space.specs.Spaces.{SpaceValue, InCodeSpan, IsSpaceForm}
use Rattle.ff_space.specs.Steps.{AreQuotientsOver, AreShort, HasNoVectorOver, IsVectorOver}
use Rattle.ff_space.specs.Vectors.{over_den, parts_of, vector_of}
use Rattle.ff_space.proofs.CodeSpans.{vector_of_span, RowVector}
use Rattle.ff_space.proofs.Fractions.{fractions_of_functions, functions_of_fractions, numerators_same, parts_count, parts_over, parts_poly, parts_short}
use Rattle.ff_space.proofs.PrintedBases.{row_functions_are}
use Rattle.ff_space.proofs.VectorFunctions.{over_den_combination, over_den_injective}
use Rattle.ff_space.proofs.VectorLists.{parts_of_vectors, vector_long, vector_over}
use Rattle.std.specs.Prelude.{Result, Ok, Err, Option, Some, None, IfOk, MatchOption}
use Rattle.std.specs.declared.alloc.AllocError.{AllocError}
use Rattle.std.specs.Global.{Vec}

module _ (k : CodeField) (z : ElemValue) (den : List ℕ) (width : ℕ) (z_in : IsElem k.ops (length z.num) z)
    (z_monic : IsMonicElem z) (den_in : IsOver k.ops den) (den_monic : IsMonicList den) where
  -- no numerators, no vector
  pub no_vector : ((us : List (List ℕ)) → All (IsOver k.ops) us → All IsPoly us
      → ¬ AreSameFractions k.ops z.num z.den us den) → HasNoVectorOver k z den width
  no_vector none p some n_is h =
      none (parts_of width p.n h.vector) (parts_over k width p.n h.vector h.over) (parts_poly width p.n h.vector)
      (fractions_of_functions k p some z.num (parts_of width p.n h.vector) z.den den (sym n_is) z_in.num_over
      z_monic.num_poly z_in.den_over z_monic.monic
      (parts_count width p.n h.vector) (parts_over k width p.n h.vector h.over)
      (parts_poly width p.n h.vector) den_in den_monic h.is)

  module _ (ws : List (List ℕ)) (h : AreQuotientsOver k.ops den z.num z.den ws) where
    same_function : (p : PresValue) → 1 ≤ p.n → p.n ≡ length z.num
        → function_of k p z ≡ function_of k p (record { num = ws; den = den })
    same_function p some n_is =
        functions_of_fractions k p some z.num ws z.den den (sym n_is) z_in.num_over z_monic.num_poly z_in.den_over
        z_monic.monic (h.count ∙ sym n_is) h.over h.poly den_in den_monic h.same

    -- numerators that are too long
    pub long_no_vector : ¬ AreShort width ws → HasNoVectorOver k z den width
    long_no_vector long p some n_is v =
        let vs = parts_of width p.n v.vector in
        let vs_in = parts_over k width p.n v.vector v.over in
        let vs_poly = parts_poly width p.n v.vector in
        let same : ws ≡ vs
        = numerators_same k ws vs den h.over h.poly vs_in vs_poly den_in den_monic
        (fractions_of_functions k p some ws vs den den (h.count ∙ sym n_is) h.over h.poly den_in den_monic
        (parts_count width p.n v.vector) vs_in vs_poly den_in den_monic (sym (same_function p some n_is) ∙ v.is)) in
        long (subst (AreShort width) (sym same) (parts_short width p.n v.vector))

    pub is_vector : AreShort width ws → (v : List ℕ) → v ≡ vector_of width ws → IsVectorOver k z den width v
    is_vector short v v_is = subst (IsVectorOver k z den width) (sym v_is) (record {
      count = vector_long width ws short ∙ ap (λ n. n * width) h.count;
      over = vector_over k width ws h.over;
      is = λ p some n_is.
          same_function p some n_is
          ∙ ap (λ vs. function_of k p (record { num = vs; den = den }))
          (sym (parts_of_vectors k width p.n ws (h.count ∙ sym n_is) short h.over h.poly));
    })

module _ (k : CodeField) (p : PresValue) (some_n : 1 ≤ p.n) (s : SpaceValue) (form : IsSpaceForm k p s) where
  abbrev c : Equation k
  c = equation_of k p

  den_some : ¬ (value k s.den ≡ (polynomials k).𝟘)
  den_some = monic_value k s.den form.den_over (monic_poly k s.den form.monic) form.monic

  wide : All (λ r. length r ≡ s.rows.cols) s.rows.rows
  wide = subst (λ n. All (λ r. length r ≡ n) s.rows.rows) (sym form.shape.col_count) form.shape.each

  fs_are : map (function_of k p) s.functions ≡ map (over_den k p s.den s.width) s.rows.rows
  fs_are = row_functions_are k p s.den s.width s.rows.rows s.functions form.functions

  listed : (cs : List ℕ) (fs : List (Functions k p)) → length cs ≡ length fs
      → combine (space_ops (equation_of k p)) (coeff_of (code_ring k).ops (read k cs)) fs
      ≡ combination (functions k p).ops (map (λ a. of_poly (equation_of k p) (constant_poly k a)) cs) fs
  listed [] [] e = refl
  listed [] (f ∷ fs) e = absurd (omega arith)
  listed (a ∷ cs) [] e = absurd (omega arith)
  listed (a ∷ cs) (f ∷ fs) e =
      ap ((functions k p).◌⊕◌ ((functions k p).◌⊗◌ (of_poly (equation_of k p) (constant_poly k a)) f))
      (listed cs fs (omega arith))

  vector_of_member : (z : Functions k p) → InCodeSpan k p (map (function_of k p) s.functions) z
      → RowVector k p some_n s.den den_some s.width s.rows form.shape.col_count wide form.over z
  vector_of_member z h =
      vector_of_span k p some_n s.den den_some s.width s.rows form.shape.col_count wide form.over z
      (subst (λ fs. InCodeSpan k p fs z) fs_are h)

  -- no vector over the denominator
  pub outside_of_all : (z : ElemValue) → p.n ≡ length z.num → HasNoVectorOver k z s.den s.width
      → ¬ InCodeSpan k p (map (function_of k p) s.functions) (function_of k p z)
  outside_of_all z n_is none h =
      let t = vector_of_member (function_of k p z) h in
      none p some_n n_is (record { vector = t.vector; count = t.long; over = t.over; is = t.is })

  module _ (z : ElemValue) (n_is : p.n ≡ length z.num) (v : List ℕ) (h : IsVectorOver k z s.den s.width v) where
    v_long : length v ≡ p.n * s.width
    v_long = h.count ∙ ap (λ n. n * s.width) (sym n_is)

    -- a vector that is no combination of the rows
    pub outside : HasNoSolution k.ops s.rows v
        → ¬ InCodeSpan k p (map (function_of k p) s.functions) (function_of k p z)
    outside none m =
        let t = vector_of_member (function_of k p z) m in
        let same : v ≡ t.vector
        = over_den_injective k p some_n s.den den_some s.width v t.vector v_long t.long h.over t.over
        (sym (h.is p some_n n_is) ∙ t.is) in
        none t.in_space.coefficients
        (record { one_each = t.in_space.one_each; over = t.in_space.over; product = sym (same ∙ t.in_space.is) })

    pub coordinates_of_solution : (cs : List ℕ) → IsSolution k.ops s.rows v cs
        → AreCoordinates k p (map (function_of k p) s.functions) (function_of k p z) cs
    coordinates_of_solution cs sol =
        let count : length cs ≡ length (map (function_of k p) s.functions)
        = sol.one_each ∙ sym (length-map s.rows.rows (over_den k p s.den s.width)) ∙ sym (ap length fs_are) in
        record {
          one_each = count;
          over = sol.over;
          is =
              h.is p some_n n_is
              ∙ ap (over_den k p s.den s.width) (sym sol.product)
              ∙ over_den_combination k p some_n s.den den_some s.width s.rows.cols cs s.rows.rows sol.one_each sol.over
              form.over.each
              ∙ ap (combine (space_ops c) (coeff_of (code_ring k).ops (read k cs))) (sym fs_are)
              ∙ listed cs (map (function_of k p) s.functions) count;
        }

    pub coordinates_of_solve : (r : Result (Option (Vec ℕ)) AllocError)
        → IfOk r (λ o. MatchOption o (HasNoSolution k.ops s.rows v) (λ x. IsSolution k.ops s.rows v x.items))
        → IfOk r (λ o. MatchOption o (¬ InCodeSpan k p (map (function_of k p) s.functions) (function_of k p z))
        (λ x. AreCoordinates k p (map (function_of k p) s.functions) (function_of k p z) x.items))
    coordinates_of_solve (Ok None) none = outside none
    coordinates_of_solve (Ok (Some x)) sol = coordinates_of_solution x.items sol
    coordinates_of_solve (Err e) failed = failed
