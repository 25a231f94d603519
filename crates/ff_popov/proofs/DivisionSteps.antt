-- The division by a Popov basis, one term after another.
use Rattle.std.proofs.Common.{◌≡◌, ◌≢◌, ℕ, zero, suc, ◌+◌, ◌-◌, ◌^◌, ◌<◌, List, [], ◌∷◌, length, get_or, set, replicate, refl, sym, ap, ap₂, ◌∙◌, arith, subst, length-set}
use Rattle.std.specs.Prelude.{All}
use Rattle.std.proofs.lemmas.List.{length-map, length-replicate, get_or-set_other, get_or-set_same}
use Rattle.std.proofs.lemmas.List.Elements.{All-replicate, All-set}
use Rattle.std.specs.Global.{Vec}
use Rattle.ff_fields.specs.Field.{FieldOps, CodeField}
use Rattle.ff_fields.specs.Code.{code_ring, is_zero_code}
use Rattle.ff_fields.specs.Over.{IsOver, IsOver_nil, IsOver_cons}
use Rattle.ring_lemmas.specs.Ring.{TestedRing}
use Rattle.ring_lemmas.specs.Lists.{tail_of}
use Rattle.ring_lemmas.specs.Rows.{Row}
use Rattle.ring_lemmas.proofs.Ring.{zero_add, mul_neg, neg_neg}
use Rattle.ring_lemmas.specs.Polynomials.{Pol}
use Rattle.ring_theory.specs.PolynomialRing.{pol_ring}
use Rattle.ff_poly.specs.Words.{IsPoly, difference_of}
use Rattle.ff_poly.specs.PolyOver.{IsOver_difference_of}
use Rattle.ff_poly.specs.Value.{value}
use Rattle.ff_poly.specs.Polynomials.{value_nil, value_one}
use Rattle.ff_poly.specs.Terms.{term, less_multiple, value_difference, value_less_multiple, IsOver_less_multiple}
use Rattle.ff_poly.specs.Popov.{rows_of, entry_at, row_at, IsRow, IsPivot, IsZeroRow, IsPopovMatrix, InRowSpan, IsCombinationList}
use Rattle.popov_theory.specs.Module.{PolynomialModule}
use Rattle.popov_theory.specs.Span.{combine}
use Rattle.popov_theory.specs.Span as theory
use Rattle.popov_theory.proofs.Module.{v_add_add, v_add_neg, v_add_zero, v_zero_add, v_add_assoc, v_add_comm, add_scale}
use Rattle.popov_theory.proofs.Measure.{zero_from_measure}
use Rattle.popov_theory.proofs.Span.{combine_zero, span_row, span_submodule, sub_in, combine_in}
use Rattle.ff_popov.specs.Reading.{read_row, row_space, read_rows}
use Rattle.ff_popov.specs.Rows.{IsRowLess, IsCleared, IsClearedBy, position}
use Rattle.ff_popov.proofs.Positions.{cleared_falls}
use Rattle.ff_popov.proofs.Lengths.{trim_length}
use Rattle.ff_popov.proofs.Entries.{any_default, read_row_of}
use Rattle.ff_popov.proofs.ReadRows.{over_at, read_row_at, space_less}
use Rattle.ff_popov.proofs.Transformations.{less_row}
use Rattle.ff_popov.proofs.Spans.{combine_same, combination_from, to_space}
use Rattle.ff_popov.proofs.Measures.{measured, zero_read}
use Rattle.ff_popov.proofs.Pivots.{pivot_below}
use Rattle.ff_popov.proofs.PopovBasis.{member_longer}

-- v is the combination of the basis with these coefficients, and the rest
pub record IsRest (k : CodeField) (w : ℕ) (basis : List (List (List ℕ))) (v cs rest : List (List ℕ)) : Type 0 where
  pub row : IsRow k.ops w rest
  pub size : length cs ≡ length basis
  pub over : All (IsOver k.ops) cs
  pub whole : read_row k (suc (w - 1)) v
      ≡ (row_space k w).◌⊞◌ (combine (row_space k w) (λ i. value k (get_or cs i [])) (read_rows k w basis))
      (read_row k (suc (w - 1)) rest)
  pub trimmed : All IsPoly rest → All IsPoly v

pub zeros_at : (n i : ℕ) → get_or (replicate {A = List ℕ} n []) i [] ≡ []
zeros_at zero i = refl
zeros_at (suc n) zero = refl
zeros_at (suc n) (suc i) = zeros_at n i

combine_ext : {A X : Type 0} {K : TestedRing A} (M : PolynomialModule K X) (rs : List X) (e f : ℕ → Pol K)
    → ((j : ℕ) → e j ≡ f j) → combine M e rs ≡ combine M f rs
combine_ext M [] e f h = refl
combine_ext M (s ∷ rs) e f h = ap₂ M.◌⊞◌ (ap (λ p. M.◌·◌ p s) (h zero))
    (combine_ext M rs (tail_of e) (tail_of f) (λ j. h (suc j)))

-- one coefficient changes
combine_changed : {A X : Type 0} {K : TestedRing A} (M : PolynomialModule K X) (rs : List X) (i : ℕ) (c d : ℕ → Pol K)
    (q : Pol K) → i < length rs → d i ≡ (pol_ring K).◌⊕◌ (c i) q → ((j : ℕ) → j ≢ i → d j ≡ c j)
    → combine M d rs ≡ M.◌⊞◌ (combine M c rs) (M.◌·◌ q (get_or rs i M.𝟎))
combine_changed M [] i c d q less at off = absurd (omega (arith, less))
combine_changed M (r ∷ rs) zero c d q less at off =
    ap₂ M.◌⊞◌ (ap (λ p. M.◌·◌ p r) at ∙ add_scale M (c zero) q r)
    (combine_ext M rs (tail_of d) (tail_of c) (λ j. off (suc j) (λ e. absurd (omega (arith, e)))))
    ∙ v_add_assoc M (M.◌·◌ (c zero) r) (M.◌·◌ q r) (combine M (tail_of c) rs)
    ∙ ap (M.◌⊞◌ (M.◌·◌ (c zero) r)) (v_add_comm M (M.◌·◌ q r) (combine M (tail_of c) rs))
    ∙ sym (v_add_assoc M (M.◌·◌ (c zero) r) (combine M (tail_of c) rs) (M.◌·◌ q r))
combine_changed M (r ∷ rs) (suc i) c d q less at off =
    ap₂ M.◌⊞◌ (ap (λ p. M.◌·◌ p r) (off zero (λ e. absurd (omega (arith, e)))))
    (combine_changed M rs i (tail_of c) (tail_of d) q (omega (arith, less)) at
    (λ j differ. off (suc j) (λ e. differ (omega (arith, e)))))
    ∙ sym (v_add_assoc M (M.◌·◌ (c zero) r) (combine M (tail_of c) rs) (M.◌·◌ q (get_or rs i M.𝟎)))

module _ (k : CodeField) where
  abbrev S : TestedRing (Pol (code_ring k))
  S = pol_ring (code_ring k)

  minus : List ℕ
  minus = difference_of k.ops [] (1 ∷ [])

  pub one_over : IsOver k.ops (1 ∷ [])
  one_over = IsOver_cons k.laws.one_below IsOver_nil

  pub minus_over : IsOver k.ops (difference_of k.ops [] (1 ∷ []))
  minus_over = IsOver_difference_of k IsOver_nil one_over

  minus_value : value k (difference_of k.ops [] (1 ∷ [])) ≡ S.⊖◌ S.𝟙
  minus_value =
      value_difference k [] (1 ∷ []) IsOver_nil one_over
      ∙ ap₂ (λ x y. S.◌⊕◌ x (S.⊖◌ y)) (value_nil k) (value_one k) ∙ zero_add S.ring (S.⊖◌ S.𝟙)

  -- a term is added where its multiple of -1 is taken away
  pub term_added : (a : List ℕ) (c s : ℕ) → IsOver k.ops a → c < k.size
      → value k (less_multiple k.ops a c s (difference_of k.ops [] (1 ∷ []))) ≡ S.◌⊕◌ (value k a) (value k (term c s))
  term_added a c s a_in c_in =
      value_less_multiple k a c s (difference_of k.ops [] (1 ∷ [])) a_in c_in minus_over
      ∙ ap (S.◌⊕◌ (value k a))
      (ap (λ x. S.⊖◌ (S.◌⊗◌ (value k (term c s)) x)) minus_value
      ∙ ap S.⊖◌ (mul_neg S.ring (value k (term c s)) S.𝟙 ∙ ap S.⊖◌ (S.mul_one (value k (term c s))))
      ∙ neg_neg S.ring (value k (term c s)))

  module _ (w : ℕ) (basis : List (List (List ℕ))) (all : All (IsRow k.ops w) basis) (popov : IsPopovMatrix w basis)
      (v : List (List ℕ)) (v_row : IsRow k.ops w v) where
    abbrev M : PolynomialModule (code_ring k) (Row (Pol (code_ring k)) (suc (w - 1)))
    M = row_space k w

    abbrev R : List (List ℕ) → Row (Pol (code_ring k)) (suc (w - 1))
    R u = read_row k (suc (w - 1)) u

    abbrev rs : List (Row (Pol (code_ring k)) (suc (w - 1)))
    rs = read_rows k w basis

    abbrev C : List (List ℕ) → Row (Pol (code_ring k)) (suc (w - 1))
    C cs = combine M (λ i. value k (get_or cs i [])) rs

    pub rest_start : IsRest k w basis v (replicate (length basis) []) v
    rest_start = record {
      row = v_row;
      size = length-replicate (length basis) [];
      over = All-replicate (IsOver k.ops) (length basis) [] IsOver_nil;
      whole =
          sym (ap (λ x. M.◌⊞◌ x (R v))
          (combine_same k w M rs (λ i. value k (get_or (replicate (length basis) []) i [])) (λ _. S.𝟘)
          (λ i less. ap (value k) (zeros_at (length basis) i) ∙ value_nil k)
          ∙ combine_zero M rs)
          ∙ v_zero_add M (R v));
      trimmed = λ h. h;
    }

    pub rest_step : (cs rest rest' : List (List ℕ)) (column c s : ℕ) → IsRest k w basis v cs rest → All IsPoly rest
        → IsPivot rest column → c < k.size → IsRowLess k.ops rest c s (row_at basis column) rest'
        → IsRest k w basis v (set cs column
        (less_multiple k.ops (entry_at cs column) c s (difference_of k.ops [] (1 ∷ [])))) rest'
    rest_step cs rest rest' column c s h rest_poly p c_in less = record {
      row = less_row k w rest (row_at basis column) rest' c s h.row b_row c_in less;
      size = length-set cs column added ∙ h.size;
      over = All-set (IsOver k.ops) cs column added
          (IsOver_less_multiple k (entry_at cs column) c s (difference_of k.ops [] (1 ∷ []))
          (over_at k cs h.over column) c_in minus_over) h.over;
      whole =
          h.whole
          ∙ sym (v_add_zero M (M.◌⊞◌ (C cs) (R rest)))
          ∙ ap (M.◌⊞◌ (M.◌⊞◌ (C cs) (R rest))) (sym (v_add_neg M x))
          ∙ v_add_add M (C cs) (R rest) x (M.⊟◌ x)
          ∙ sym (ap₂ M.◌⊞◌
          (combine_changed M rs column (λ i. value k (get_or cs i []))
          (λ i. value k (get_or (set cs column added) i [])) (value k (term c s))
          (omega (arith, in_w, popov.size, length-map basis R))
          (ap (value k) (get_or-set_same cs column added [] (omega (arith, in_w, popov.size, h.size)))
          ∙ term_added (entry_at cs column) c s (over_at k cs h.over column) c_in)
          (λ j differ. ap (value k) (get_or-set_other cs column j added [] differ)))
          (space_less k w rest (row_at basis column) rest' c s (b_row.size ∙ sym h.row.size) h.row.over b_row.over c_in
          less
          ∙ ap (λ r. M.◌⊞◌ (R rest) (M.⊟◌ (M.◌·◌ (value k (term c s)) r))) (sym (read_row_at k w basis column))));
      trimmed = λ _. h.trimmed rest_poly;
    }
      where
        in_w : column < w
        in_w = omega (arith, pivot_below rest column p, h.row.size)

        b_row : IsRow k.ops w (row_at basis column)
        b_row = all column [] (omega (arith, in_w, popov.size))

        added : List ℕ
        added = less_multiple k.ops (entry_at cs column) c s (difference_of k.ops [] (1 ∷ []))

        x : Row (Pol (code_ring k)) (suc (w - 1))
        x = M.◌·◌ (value k (term c s)) (get_or rs column M.𝟎)

    pub rest_done : (cs rest : List (List ℕ)) → IsRest k w basis v cs rest → All IsPoly rest → IsZeroRow rest
        → IsCombinationList k.ops w basis v cs
    rest_done cs rest h rest_poly null =
        combination_from k w basis all v v_row (h.trimmed rest_poly) cs h.size h.over
        (h.whole ∙ ap (M.◌⊞◌ (C cs)) (zero_from_measure M (R rest) (zero_read k w rest null)) ∙ v_add_zero M (C cs))

    pub rest_not : (cs rest : List (List ℕ)) (column : ℕ) → IsRest k w basis v cs rest → All IsPoly rest
        → IsPivot rest column → length (entry_at rest column) < length (entry_at (row_at basis column) column)
        → ¬ InRowSpan k.ops w basis v
    rest_not cs rest column h rest_poly p shorter v_in =
        let at = measured k w rest column h.row.size p (h.row.over column [] in_row) (rest_poly column [] in_row) in
        absurd (omega (
          arith,
          shorter,
          member_longer k w basis all popov (R rest) (length (entry_at rest column)) column
              rest_in at.0 at.2 p.some in_w,
        ))
      where
        in_row : column < length rest
        in_row = pivot_below rest column p

        in_w : column < w
        in_w = omega (arith, in_row, h.row.size)

        rest_is : M.◌⊞◌ (R v) (M.⊟◌ (C cs)) ≡ R rest
        rest_is =
            ap (λ r. M.◌⊞◌ r (M.⊟◌ (C cs))) (h.whole ∙ v_add_comm M (C cs) (R rest))
            ∙ v_add_assoc M (R rest) (C cs) (M.⊟◌ (C cs)) ∙ ap (M.◌⊞◌ (R rest)) (v_add_neg M (C cs))
            ∙ v_add_zero M (R rest)

        rest_in : theory.InSpan M rs (R rest)
        rest_in =
            subst (theory.InSpan M rs) rest_is
            (sub_in M (theory.InSpan M rs) (span_submodule M rs) (R v) (C cs) (to_space k w basis all v v_in)
            (combine_in M (theory.InSpan M rs) (span_submodule M rs) rs (span_row M rs)
            (λ i. value k (get_or cs i []))))

    -- the same, as the loop reads and writes
    pub step_kept : (cs rest row b rest' out : List (List ℕ)) (coef coef' one : List ℕ) (column c s : ℕ)
        → IsRest k w basis v cs rest → All IsPoly rest → IsPivot rest column
        → row ≡ rest → b ≡ row_at basis column → IsClearedBy k.ops row b column c s rest' → coef ≡ get_or cs column coef
        → coef' ≡ less_multiple k.ops coef c s one → one ≡ difference_of k.ops [] (1 ∷ []) → rest' ≡ out
        → IsRest k w basis v (set cs column coef') out
    step_kept cs rest row b rest' out coef coef' one column c s h rest_poly p row_is b_is by coef_is coef'_is one_is
        out_is =
        subst (IsRest k w basis v (set cs column coef')) out_is
        (subst (λ x. IsRest k w basis v (set cs column x) rest')
        (sym (coef'_is ∙ ap₂ (λ x y. less_multiple k.ops x c s y) (coef_is ∙ any_default cs column coef [] in_cs)
        one_is))
        (rest_step cs rest rest' column c s h rest_poly p by.scalar_in
        (subst (λ x. IsRowLess k.ops x c s (row_at basis column) rest') row_is
        (subst (λ x. IsRowLess k.ops row c s x rest') b_is by.is))))
      where
        in_cs : column < length cs
        in_cs = omega (arith, pivot_below rest column p, h.row.size, h.size, popov.size)

    pub step_falls : (cs rest row b rest' out : List (List ℕ)) (column c s : ℕ) → IsRest k w basis v cs rest
        → IsPivot rest column → row ≡ rest → IsClearedBy k.ops row b column c s rest' → rest' ≡ out
        → position w out < position w rest
    step_falls cs rest row b rest' out column c s h p row_is by out_is =
        subst (λ x. position w x < position w rest) out_is
        (cleared_falls k.ops w column rest b rest' h.row.size p
        (subst (λ x. IsCleared k.ops x b column rest') row_is by.cleared))

-- the row that is taken away
pub basis_row_read : (k : CodeField) (vs : List (Vec (List ℕ))) (w column : ℕ) (u : Vec (List ℕ)) (b : List (List ℕ))
    → IsPopovMatrix w (rows_of vs) → column < w → u ≡ get_or vs column u → b ≡ u.items → b ≡ row_at (rows_of vs) column
basis_row_read k vs w column u b popov less u_is b_is = read_row_of vs column u b
    (omega (arith, less, popov.size, length-map vs (λ x. x.items))) u_is b_is

pub self_row : (k : FieldOps) (w : ℕ) (a b : List (List ℕ)) → IsRow k w a → b ≡ a → IsRow k (length b) b
self_row k w a b a_row e = subst (λ r. IsRow k (length r) r) (sym e) (subst (λ n. IsRow k n a) (sym a_row.size) a_row)

pub other_row : (k : FieldOps) (w : ℕ) (a b c d : List (List ℕ)) → IsRow k w a → IsRow k w c → b ≡ a → d ≡ c
    → IsRow k (length b) d
other_row k w a b c d a_row c_row e f = subst (λ r. IsRow k (length b) r) (sym f)
    (subst (λ n. IsRow k n c) (sym (ap length e ∙ a_row.size)) c_row)

pub minus_fits : (k : FieldOps) (s : ℕ) (one : List ℕ) → s + 1 < 2 ^ 64 → one ≡ difference_of k [] (1 ∷ [])
    → s + length one < 2 ^ 64
minus_fits k s one fits one_is = omega (arith, fits, ap length one_is, trim_length is_zero_code (k.neg 1 ∷ []))
