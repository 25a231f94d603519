-- What a relation w·v = d says of functions: an inverse where d isn't 0, and else an element that kills.
use Rattle.std.proofs.Common.{◌≡◌, ◌≢◌, Some, ℕ, zero, suc, ◌-◌, ◌<◌, ◌≤◌, inl, inr, List, [], ◌∷◌, ◌++◌, length, get_or, sym, ap, ap₂, ◌∙◌, arith, subst}
use Rattle.std.proofs.lemmas.Bool.{cases_lt}
use Rattle.std.proofs.lemmas.List.{length-append}
use Rattle.std.proofs.lemmas.List.Elements.{All-pop}
use Rattle.std.proofs.Math.ListN.{get_or-append}
use Rattle.std.proofs.Math.Seq.{get_or-append_seam}
use Rattle.ring_lemmas.specs.Ring.{CommRing}
use Rattle.ring_lemmas.specs.Rows.{Row, row_zero, row_scale, row_one, row_mul}
use Rattle.ring_lemmas.proofs.Ring.{one_mul, zero_mul}
use Rattle.ring_lemmas.proofs.Rows.{row_mul_comm, row_scale_one, row_scale_zero, row_zero_scale, row_scale_scale, scale_row_mul}
use Rattle.ring_theory.specs.FunctionRing.{pair_mul, whole_pair}
use Rattle.ff_fields.specs.Field.{CodeField}
use Rattle.ff_fields.specs.Over.{IsOver}
use Rattle.ff_poly.specs.Words.{IsPoly}
use Rattle.ff_poly.specs.Value.{value}
use Rattle.ff_poly.specs.Polynomials.{Polynomial, polynomials, value_nil, value_not_zero}
use Rattle.function_field.specs.Functions.{RowOver, function_eq, function_same, mul_rows, whole_row, mul_function, zero_function, one_function}
use Rattle.function_field.specs.Values.{ElemValue, PresValue, IsElem, IsMonicElem, row_of_list, equation_of, row_over, function_of, functions, Functions}
use Rattle.ff_algebra.specs.RowProducts.{row_at}
use Rattle.ff_algebra.specs.Inverses.{IsInverseRelation}
use Rattle.function_field.proofs.SameValues.{elem_den, row_over_num, row_over_den}
use Rattle.ff_algebra.proofs.Elimination.{over_at, poly_at}
use Rattle.ff_algebra.proofs.EliminatedLines.{HasFactors}
use Rattle.ff_algebra.proofs.LinesMade.{row_of_append}

-- what is killed by an element other than 0 has no inverse
pub killed_has_none : {A : Type 0} (R : CommRing A) (a w z : A) → R.◌⊗◌ a w ≡ R.𝟘 → ¬ (w ≡ R.𝟘) → ¬ (R.◌⊗◌ a z ≡ R.𝟙)
killed_has_none R a w z killed some inverse =
    some
    (sym (one_mul R w) ∙ ap (λ t. R.◌⊗◌ t w) (sym inverse ∙ R.mul_comm a z) ∙ R.mul_assoc z a w ∙ ap (R.◌⊗◌ z) killed
    ∙ R.mul_comm z R.𝟘
    ∙ zero_mul R z)

module _ (k : CodeField) (p : PresValue) (v : List (List ℕ)) where
  abbrev S : CommRing (Polynomial k)
  S = (polynomials k).ring

  abbrev times : Row (Polynomial k) (suc (p.n - 1)) → Row (Polynomial k) (suc (p.n - 1))
      → Row (Polynomial k) (suc (p.n - 1))
  times = row_mul S (p.n - 1) (equation_of k p).coefficients

  -- the last factor is d
  pub split : (factors w : List (List ℕ)) (d : List ℕ) → 1 ≤ p.n → factors ≡ w ++ d ∷ [] → HasFactors k p v factors
      → IsInverseRelation k p v w d
  split factors w d positive factors_are is =
      let relation = subst (HasFactors k p v) factors_are is in
      let size : length w ≡ p.n = omega (arith, length-append w (d ∷ []), relation.row.one_each) in
      let last : get_or (w ++ d ∷ []) p.n [] ≡ d = ap (λ j. get_or (w ++ d ∷ []) j []) (sym size)
      ∙ get_or-append_seam w d [] [] in
      let overs = All-pop (IsOver k.ops) factors w (Some d) factors_are is.row.over in
      let polys = All-pop IsPoly factors w (Some d) factors_are is.row.poly in
      record {
        row = record { one_each = size; over = overs.0; poly = polys.0 };
        over = overs.1;
        poly = polys.1;
        product =
            ap (λ e. row_scale S.ops (suc (p.n - 1)) (value k e) (row_one S (p.n - 1))) (sym last)
            ∙ relation.product
            ∙ ap (λ r. times r (row_at k p v)) (row_of_append k (suc (p.n - 1)) w (d ∷ []) (omega arith));
        some = λ none.
            elim (cases_lt relation.position p.n) [
              | inl less ↦ (
                relation.position,
                less,
                λ e. relation.some
                    (get_or-append w (d ∷ []) [] relation.position (omega arith) ∙ e),
              )
              | inr past ↦ absurd (relation.some
                  (ap (λ j. get_or (w ++ d ∷ []) j [])
                  (let here : relation.position ≡ p.n = omega (arith, relation.within) in here) ∙ last ∙ none))
            ];
      }

module _ (k : CodeField) (p : PresValue) (a : ElemValue) (a_in : IsElem k.ops p.n a) (a_monic : IsMonicElem a)
    (w : List (List ℕ)) (d : List ℕ) (is : IsInverseRelation k p a.num w d) where
  abbrev E : CommRing (Functions k p)
  E = functions k p

  abbrev m : ℕ
  m = suc (p.n - 1)

  abbrev R : CommRing (Polynomial k)
  R = (polynomials k).ring

  a_den : (row_over k p a).den ≡ value k a.den
  a_den = row_over_den k p a (elem_den k p a p.n a_in a_monic)

  -- the product of a and a row over e, where the row is a multiple of w
  product_is : (e : Polynomial k) (z : RowOver (equation_of k p)) → z.num ≡ row_scale R.ops m e (row_at k p w)
      → row_mul R (p.n - 1) (equation_of k p).coefficients (row_over k p a).num z.num
      ≡ row_scale R.ops m (R.◌⊗◌ e (value k d)) (row_one R (p.n - 1))
  product_is e z num =
      let f = (equation_of k p).coefficients in
      ap₂ (row_mul R (p.n - 1) f) (row_over_num k p a) num
      ∙ row_mul_comm R (p.n - 1) f (row_at k p a.num) (row_scale R.ops m e (row_at k p w))
      ∙ sym (scale_row_mul R (p.n - 1) f e (row_at k p w) (row_at k p a.num))
      ∙ ap (row_scale R.ops m e) (sym is.product)
      ∙ sym (row_scale_scale R m e (value k d) (row_one R (p.n - 1)))

  -- d isn't 0: the inverse is den·w over d
  pub inverse_function : (num : List (List ℕ)) (z : ElemValue) → d ≢ []
      → row_at k p num ≡ row_scale R.ops m (value k a.den) (row_at k p w)
      → function_of k p z ≡ function_of k p (record { num = num; den = d })
      → E.◌⊗◌ (function_of k p a) (function_of k p z) ≡ E.𝟙
  unfolding pair_mul whole_pair
  inverse_function num z some num_is z_is =
      let c = equation_of k p in
      let given : ElemValue = record { num = num; den = d } in
      let y = row_over k p given in
      let given_den = row_over_den k p given (value_not_zero k d is.over is.poly some) in
      ap (E.◌⊗◌ (function_of k p a)) z_is
      ∙ mul_function c (row_over k p a) y
      ∙ function_eq c (mul_rows c (row_over k p a) y) (whole_row c (row_one R (p.n - 1)))
      (row_scale_one R m (row_mul R (p.n - 1) c.coefficients (row_over k p a).num y.num)
      ∙ product_is (value k a.den) y (row_over_num k p given ∙ num_is)
      ∙ ap (λ e. row_scale R.ops m e (row_one R (p.n - 1))) (ap₂ R.◌⊗◌ (sym a_den) (sym given_den)))
      ∙ sym (one_function c)

  -- d is 0: w kills
  module _ (z : ElemValue) (none : d ≡ [])
      (z_is : function_of k p z ≡ function_of k p (record { num = w; den = 1 ∷ [] })) where
    abbrev whole : ElemValue
    whole = record { num = w; den = 1 ∷ [] }

    abbrev y : RowOver (equation_of k p)
    y = row_over k p whole

    y_num : y.num ≡ row_at k p w
    y_num = row_over_num k p whole

    pub kills_function : E.◌⊗◌ (function_of k p a) (function_of k p z) ≡ E.𝟘
    unfolding pair_mul whole_pair
    kills_function =
        let c = equation_of k p in
        let zero_row = row_zero R.ops m in
        let one = row_one R (p.n - 1) in
        ap (E.◌⊗◌ (function_of k p a)) z_is
        ∙ mul_function c (row_over k p a) y
        ∙ function_eq c (mul_rows c (row_over k p a) y) (whole_row c zero_row)
        (row_scale_one R m (row_mul R (p.n - 1) c.coefficients (row_over k p a).num y.num)
        ∙ product_is R.𝟙 y (y_num ∙ sym (row_scale_one R m (row_at k p w)))
        ∙ ap (λ e. row_scale R.ops m e one) (one_mul R (value k d) ∙ ap (value k) none ∙ value_nil k)
        ∙ row_zero_scale R m one
        ∙ sym (row_scale_zero R m (R.◌⊗◌ (row_over k p a).den y.den)))
        ∙ sym (zero_function c)

    nothing_of_row : (n j : ℕ) (vs : List (List ℕ)) → j < n → row_of_list k n vs ≡ row_zero R.ops n
        → value k (get_or vs j []) ≡ R.𝟘
    unfolding row_zero
    nothing_of_row zero j vs less e = absurd (omega arith)
    nothing_of_row (suc n) j [] less e = value_nil k
    nothing_of_row (suc n) zero (u ∷ vs) less e = ap (λ t. t.0) e
    nothing_of_row (suc n) (suc j) (u ∷ vs) less e = nothing_of_row n j vs (omega arith) (ap (λ t. t.1) e)

    pub killer_not_zero : ¬ (function_of k p z ≡ E.𝟘)
    unfolding whole_pair
    killer_not_zero gone =
        let c = equation_of k p in
        let found = is.some none in
        let empty : row_at k p w ≡ row_zero R.ops m =
        sym y_num ∙ sym (row_scale_one R m y.num)
        ∙ function_same c y (whole_row c (row_zero R.ops m)) (sym z_is ∙ gone ∙ zero_function c)
        ∙ row_scale_zero R m y.den in
        value_not_zero k (get_or w found.0 []) (over_at k p.n w is.row found.0) (poly_at k p.n w is.row found.0) found.2
        (nothing_of_row m found.0 w (omega (arith, found.1)) empty)
