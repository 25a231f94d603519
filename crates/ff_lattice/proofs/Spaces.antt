-- Rows of codes against what they stand for: spans, multiples by a power of x, and combinations with one coefficient.
use Rattle.std.proofs.Common.{◌≡◌, ℕ, zero, suc, ◌-◌, ◌<◌, ◌≤◌, ◌⊎◌, inl, inr, List, [], ◌∷◌, ◌++◌, length, replicate, refl, sym, ◌∙◌, ap, ap₂, subst, arith, All}
use Rattle.std.proofs.lemmas.Bool.{cases_lt}
use Rattle.std.proofs.lemmas.List.Elements.{All-nil, All-cons}
use Rattle.std.proofs.lemmas.List.{length-map}
use Rattle.ring_lemmas.specs.Ring.{TestedRing}
use Rattle.ring_lemmas.specs.Lists.{tail_of}
use Rattle.ring_lemmas.specs.Rows.{Row}
use Rattle.ring_lemmas.proofs.Ring.{one_mul, zero_add}
use Rattle.ring_lemmas.proofs.Rows.{pair_path}
use Rattle.ring_lemmas.specs.Polynomials.{Pol}
use Rattle.ring_theory.specs.PolynomialRing.{pol_ring}
use Rattle.ring_lemmas.proofs.Polynomials.{same_pol}
use Rattle.ff_fields.specs.Field.{CodeField}
use Rattle.ff_fields.specs.Code.{code_ring}
use Rattle.ff_fields.specs.Numbers.{numbers_read, read}
use Rattle.ff_fields.specs.Over.{IsOver, IsOver_append, IsOver_zeros}
use Rattle.ff_poly.specs.Words.{IsPoly, poly_of, shifted}
use Rattle.ff_poly.specs.Value.{value, series_value}
use Rattle.ff_poly.specs.Polynomials.{Polynomial, polynomials, codes_of, IsOver_codes_of, IsPoly_codes_of, value_codes_of, value_nil, value_one, value_cons, x_poly, series_read, constant_poly}
use Rattle.ff_poly.specs.Popov.{row_at, IsRow, InRowSpan, HaveSameRowSpan, combination_list}
use Rattle.popov_theory.specs.Module.{PolynomialModule}
use Rattle.popov_theory.specs.Span as theory
use Rattle.popov_theory.specs.Span.{combine}
use Rattle.popov_theory.proofs.Module.{zero_scale, scale_one, v_add_zero, v_zero_add}
use Rattle.popov_theory.proofs.Span.{span_row, span_zero, within_rows}
use Rattle.popov_theory.proofs.PopovForm.{row_past}
use Rattle.ff_popov.specs.Reading.{read_row, row_space, read_rows}
use Rattle.ff_popov.proofs.ReadRows.{read_row_at}
use Rattle.ff_popov.proofs.Spans.{to_space, from_space, member_poly}

module _ {A V : Type 0} {k : TestedRing A} (M : PolynomialModule k V) where
  combine_none : (rs : List V) (c : ℕ → Pol k) → ((i : ℕ) → c i ≡ (pol_ring k).𝟘) → combine M c rs ≡ M.𝟎
  combine_none [] c h = refl
  combine_none (r ∷ rs) c h =
      ap₂ M.◌⊞◌ (ap (λ a. M.◌·◌ a r) (h zero) ∙ zero_scale M r) (combine_none rs (tail_of c) (λ i. h (suc i)))
      ∙ v_add_zero M M.𝟎

  -- the combination with the coefficient 1 at one row and 0 at the others
  pub combine_one : (rs : List V) (i : ℕ) (c : ℕ → Pol k) → c i ≡ (pol_ring k).𝟙
      → ((j : ℕ) → ¬ (j ≡ i) → c j ≡ (pol_ring k).𝟘) → combine M c rs ≡ theory.row_at M rs i
  combine_one [] i c one others = refl
  combine_one (r ∷ rs) zero c one others =
      ap₂ M.◌⊞◌ (ap (λ a. M.◌·◌ a r) one ∙ scale_one M r)
      (combine_none rs (tail_of c) (λ j. others (suc j) (λ e. absurd (omega (arith, e)))))
      ∙ v_add_zero M r
  combine_one (r ∷ rs) (suc i) c one others =
      ap₂ M.◌⊞◌ (ap (λ a. M.◌·◌ a r) (others zero (λ e. absurd (omega (arith, e)))) ∙ zero_scale M r)
      (combine_one rs i (tail_of c) one (λ j differ. others (suc j) (λ e. differ (omega (arith, e)))))
      ∙ v_zero_add M (theory.row_at M rs i)

module _ (k : CodeField) where
  abbrev P : TestedRing (Polynomial k)
  P = polynomials k

  -- the zeros on top don't matter
  pub value_poly_of : (a : List ℕ) → IsOver k.ops a → value k (poly_of a) ≡ value k a
  value_poly_of a a_in =
      ap (λ ns. value k (poly_of ns)) (sym (numbers_read k a a_in))
      ∙ same_pol (code_ring k) _ _ (λ n. series_value k (read k a) n ∙ sym (series_read k a n))

  -- x to a power
  abbrev pub power_of_x : ℕ → Polynomial k
  power_of_x j = value k (replicate j 0 ++ 1 ∷ [])

  value_step : (w : List ℕ) → value k (0 ∷ w) ≡ P.◌⊗◌ (x_poly k) (value k w)
  value_step w =
      value_cons k 0 w ∙ ap (λ a. P.◌⊕◌ a (P.◌⊗◌ (x_poly k) (value k w))) zero_constant
      ∙ zero_add P.ring (P.◌⊗◌ (x_poly k) (value k w))
    where
      zero_constant : constant_poly k 0 ≡ P.𝟘
      zero_constant = sym (value_poly_of (0 ∷ []) (IsOver_zeros k 1)) ∙ value_nil k

  value_zeros : (j : ℕ) (a : List ℕ) → value k (replicate j 0 ++ a) ≡ P.◌⊗◌ (power_of_x j) (value k a)
  value_zeros zero a = sym (ap (λ u. P.◌⊗◌ u (value k a)) (value_one k) ∙ one_mul P.ring (value k a))
  value_zeros (suc j) a =
      value_step (replicate j 0 ++ a) ∙ ap (P.◌⊗◌ (x_poly k)) (value_zeros j a)
      ∙ sym (P.mul_assoc (x_poly k) (power_of_x j) (value k a))
      ∙ ap (λ u. P.◌⊗◌ u (value k a)) (sym (value_step (replicate j 0 ++ 1 ∷ [])))

  pub value_shifted : (a : List ℕ) (j : ℕ) → IsOver k.ops a → value k (shifted a j) ≡ P.◌⊗◌ (power_of_x j) (value k a)
  value_shifted a j a_in = value_poly_of (replicate j 0 ++ a) (IsOver_append (IsOver_zeros k j) a_in) ∙ value_zeros j a

  -- a row of codes for a row of polynomials
  pub codes_row : (n : ℕ) → Row (Polynomial k) n → List (List ℕ)
  codes_row zero v = []
  codes_row (suc n) (p, v) = codes_of k p ∷ codes_row n v

  pub codes_row_length : (n : ℕ) (v : Row (Polynomial k) n) → length (codes_row n v) ≡ n
  unfolding codes_row
  codes_row_length zero v = refl
  codes_row_length (suc n) (p, v) = ap suc (codes_row_length n v)

  pub codes_row_over : (n : ℕ) (v : Row (Polynomial k) n) → All (IsOver k.ops) (codes_row n v)
  unfolding codes_row
  codes_row_over zero v = All-nil (IsOver k.ops)
  codes_row_over (suc n) (p, v) = All-cons (IsOver k.ops) (codes_of k p) (codes_row n v) (IsOver_codes_of k p)
      (codes_row_over n v)

  pub codes_row_poly : (n : ℕ) (v : Row (Polynomial k) n) → All IsPoly (codes_row n v)
  unfolding codes_row
  codes_row_poly zero v = All-nil IsPoly
  codes_row_poly (suc n) (p, v) = All-cons IsPoly (codes_of k p) (codes_row n v) (IsPoly_codes_of k p)
      (codes_row_poly n v)

  pub read_codes_row : (n : ℕ) (v : Row (Polynomial k) n) → read_row k n (codes_row n v) ≡ v
  unfolding codes_row
  read_codes_row zero v = refl
  read_codes_row (suc n) (p, v) = pair_path (value_codes_of k p) (read_codes_row n v)

  -- rows with the same lattice have the same span
  module _ (w : ℕ) where
    abbrev M : PolynomialModule (code_ring k) (Row (Polynomial k) (suc (w - 1)))
    M = row_space k w

    pub row_in : (rows : List (List (List ℕ))) → All (IsRow k.ops w) rows → (i : ℕ) → i < length rows
        → IsRow k.ops w (row_at rows i)
    row_in rows all i less = all i [] less

    read_length : (rows : List (List (List ℕ))) → length (read_rows k w rows) ≡ length rows
    read_length rows = length-map rows (read_row k (suc (w - 1)))

    pub within_space : (rows rows' : List (List (List ℕ))) → All (IsRow k.ops w) rows → All (IsRow k.ops w) rows'
        → ((i : ℕ) → i < length rows → All IsPoly (row_at rows i))
        → ((v : List (List ℕ)) → InRowSpan k.ops w rows v → InRowSpan k.ops w rows' v)
        → theory.IsWithin M (read_rows k w rows) (read_rows k w rows')
    within_space rows rows' all all' polys h = within_rows M (read_rows k w rows) (read_rows k w rows')
        (λ i. go i (cases_lt i (length rows)))
      where
        go : (i : ℕ) → (i < length rows) ⊎ (length rows ≤ i)
            → theory.InSpan M (read_rows k w rows') (theory.row_at M (read_rows k w rows) i)
        go i (inr past) =
            subst (theory.InSpan M (read_rows k w rows'))
            (sym (row_past M (read_rows k w rows) i (omega (arith, past, read_length rows))))
            (span_zero M (read_rows k w rows'))
        go i (inl less) =
            subst (theory.InSpan M (read_rows k w rows')) (sym (read_row_at k w rows i))
            (to_space k w rows' all' (row_at rows i)
            (h (row_at rows i)
            (from_space k w rows all (row_at rows i) (row_in rows all i less) (polys i less)
            (subst (theory.InSpan M (read_rows k w rows)) (read_row_at k w rows i)
            (span_row M (read_rows k w rows) i)))))

    pub same_space : (rows rows' : List (List (List ℕ))) → All (IsRow k.ops w) rows → All (IsRow k.ops w) rows'
        → ((i : ℕ) → i < length rows → All IsPoly (row_at rows i))
        → ((i : ℕ) → i < length rows' → All IsPoly (row_at rows' i))
        → HaveSameRowSpan k.ops w rows rows' → theory.HaveSameSpan M (read_rows k w rows) (read_rows k w rows')
    same_space rows rows' all all' polys polys' h = record {
      left = within_space rows rows' all all' polys h.left;
      right = within_space rows' rows all' all polys' h.right;
    }

    pub combination_poly : (cs : List (List ℕ)) (rows : List (List (List ℕ))) → length cs ≡ length rows
        → All (IsOver k.ops) cs → All IsPoly (combination_list k.ops w cs rows)
    combination_poly cs rows size cs_in =
        member_poly k w rows (combination_list k.ops w cs rows)
        (record { coefficients = cs; is = record { size = size; over = cs_in; is = refl } })
