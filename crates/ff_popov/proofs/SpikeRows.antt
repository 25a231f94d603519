-- A row of the Popov basis: the rest of -x^d in one column modulo the lattice, and x^d.
use Rattle.std.proofs.Common.{◌++◌, ◌≡◌, ℕ, suc, ◌+◌, ◌-◌, ◌<◌, ◌≤◌, ◌⊎◌, inl, inr, List, [], ◌∷◌, length, get_or, set, replicate, sym, ap, ap₂, ◌∙◌, arith, subst, length-set, length-append}
use Rattle.std.proofs.lemmas.Bool.{cases_lt}
use Rattle.std.proofs.lemmas.List.{length-replicate, get_or-map, map-append, get_or_append_left, get_or-append_right, get_or-set_other, get_or-set_same}
use Rattle.std.proofs.lemmas.List.Elements.{All-replicate, All-set}
use Rattle.std.specs.Global.{Vec}
use native.Mathlib.Decide.{ℕ_discrete}
use Rattle.ff_fields.specs.Field.{CodeField}
use Rattle.ff_fields.specs.Code.{code_ring, code_field, read_code, read_code_below, same_code, is_zero_code}
use Rattle.ff_fields.specs.Over.{IsOver, IsOver_nil, get_or_below}
use Rattle.ring_lemmas.specs.Ring.{TestedRing}
use Rattle.ring_lemmas.specs.Lists.{coeff_of}
use Rattle.ring_lemmas.specs.Rows.{Row, row_add, row_neg}
use Rattle.ring_lemmas.proofs.Ring.{zero_add, neg_neg, neg_zero}
use Rattle.ring_lemmas.specs.Polynomials.{Pol}
use Rattle.ring_theory.specs.PolynomialRing.{pol_ring}
use Rattle.ring_lemmas.proofs.Polynomials.{coeff_past, series_add}
use Rattle.ff_poly.specs.Words.{IsPoly, IsMonicList, difference_of}
use Rattle.ff_poly.specs.Value.{value}
use Rattle.ff_poly.specs.Polynomials.{value_nil, value_one, series_read}
use Rattle.ff_poly.specs.Terms.{term, less_multiple, value_less_multiple, IsOver_less_multiple, IsPoly_less_multiple}
use Rattle.ff_poly.specs.Popov.{rows_of, entry_at, row_at}
use Rattle.ff_poly.proofs.Parts.{IsMonic_from_top}
use Rattle.popov_theory.specs.Module.{PolynomialModule}
use Rattle.popov_theory.specs.Span.{InSpan}
use Rattle.popov_theory.proofs.Module.{v_neg_add, v_neg_neg, v_add_comm}
use Rattle.popov_theory.proofs.Span.{span_submodule, neg_in}
use Rattle.ring_theory.proofs.PolynomialRows.{same_entries, entry_add, entry_neg}
use Rattle.popov_theory.proofs.PolynomialRows.{row_module_add, row_module_neg}
use Rattle.ff_popov.specs.Reading.{read_row, row_space, read_rows}
use Rattle.ff_popov.specs.Rows.{IsOwners, IsCongruentRow, IsPopovRow, IsPopovRows, owner_length}
use Rattle.ff_popov.proofs.Entries.{any_default}
use Rattle.ff_popov.proofs.ReadRows.{entry_read, over_at}
use Rattle.ff_popov.proofs.Lengths.{less_multiple_length, trim_length}
use Rattle.ff_popov.proofs.Measures.{value_short}
use Rattle.ff_popov.proofs.DivisionSteps.{minus_over, one_over, term_added, zeros_at}

module _ (k : CodeField) where
  abbrev S : TestedRing (Pol (code_ring k))
  S = pol_ring (code_ring k)

  top_coeff : (a : List ℕ) (d : ℕ) → IsOver k.ops a → length a ≤ d
      → coeff_of (code_ring k).ops (value k (less_multiple k.ops a 1 d (difference_of k.ops [] (1 ∷ [])))).0 d
      ≡ (code_ring k).𝟙
  top_coeff a d a_in short =
      ap (λ p. coeff_of (code_ring k).ops p.0 d) (term_added k a 1 d a_in k.laws.one_below)
      ∙ series_add (code_ring k) (value k a) (value k (term 1 d)) d
      ∙ ap₂ (code_ring k).◌⊕◌ (coeff_past (code_ring k) (value k a).0 d (omega (arith, value_short k a, short))) of_term
      ∙ zero_add (code_ring k).ring (code_ring k).𝟙
    where
      none : d - d ≡ 0
      none = omega arith

      of_term : coeff_of (code_ring k).ops (value k (term 1 d)).0 d ≡ (code_ring k).𝟙
      of_term =
          series_read k (term 1 d) d
          ∙ get_or-map (read_code k) (term 1 d) d 0 (code_ring k).𝟘
          (omega (arith, length-append {A = ℕ} (replicate d 0) (1 ∷ []), length-replicate {A = ℕ} d 0))
          ∙ ap (read_code k) (get_or-append_right (replicate {A = ℕ} d 0) (1 ∷ []) d d 0 (length-replicate {A = ℕ} d 0)
          (omega arith) ∙ ap (λ n. get_or {A = ℕ} (1 ∷ []) n 0) none)
          ∙ same_code k (read_code k 1) (code_ring k).𝟙 (read_code_below k 1 k.laws.one_below)

  module _ (a : List ℕ) (d : ℕ) (a_in : IsOver k.ops a) (short : length a ≤ d) where
    abbrev T : List ℕ
    T = less_multiple k.ops a 1 d (difference_of k.ops [] (1 ∷ []))

    top_over : IsOver k.ops T
    top_over = IsOver_less_multiple k a 1 d (difference_of k.ops [] (1 ∷ [])) a_in k.laws.one_below (minus_over k)

    pub top_length : length T ≡ suc d
    top_length = omega (arith, upper, lower (cases_lt d (length T)))
      where
        upper : length T ≤ d + 1
        upper = less_multiple_length k a 1 d (difference_of k.ops [] (1 ∷ [])) a_in k.laws.one_below (minus_over k)
            (d + 1) (omega (arith, short)) (omega (arith, trim_length is_zero_code (k.neg 1 ∷ [])))

        lower : (d < length T) ⊎ (length T ≤ d) → d < length T
        lower (inl less) = less
        lower (inr le) = absurd ((code_field k).one_not_zero
            (sym (top_coeff a d a_in short) ∙ coeff_past (code_ring k) (value k T).0 d
            (omega (arith, value_short k T, le))))

    pub top_monic : IsMonicList T
    top_monic =
        IsMonic_from_top d T top_length
        (sym (read_code_below k (get_or T d 0) (get_or_below k T d top_over))
        ∙ ap (λ x. x.0) (sym (series_read k T d
        ∙ get_or-map (read_code k) T d 0 (code_ring k).𝟘 (omega (arith, top_length))) ∙ top_coeff a d a_in short))

  -- the row that is lowered
  pub spike_bounded : (w i d : ℕ) (one : List ℕ) → length one ≤ 1 → IsOver k.ops one → i < w → (j : ℕ)
      → length (entry_at (set (replicate w []) i (less_multiple k.ops [] 1 d one)) j) ≤ d + 1
  spike_bounded w i d one size one_in less j = go (ℕ_discrete j i)
    where
      go : Dec (j ≡ i) → length (entry_at (set (replicate w []) i (less_multiple k.ops [] 1 d one)) j) ≤ d + 1
      go (yes e) =
          subst (λ n. length (entry_at (set (replicate w []) i (less_multiple k.ops [] 1 d one)) n) ≤ d + 1) (sym e)
          (omega (
            arith,
            ap length (get_or-set_same (replicate w []) i (less_multiple k.ops [] 1 d one) []
                (omega (arith, less, length-replicate {A = List ℕ} w []))),
            less_multiple_length k [] 1 d one IsOver_nil k.laws.one_below one_in (d + 1) (omega arith)
                (omega (arith, size)),
          ))
      go (no off) = omega (
        arith,
        ap length
            (get_or-set_other (replicate w []) i j (less_multiple k.ops [] 1 d one) [] off ∙ zeros_at w j),
      )

  module _ (w : ℕ) (rows : List (List (List ℕ))) (os : List ℕ) (i d : ℕ) (r : List (List ℕ)) (less : i < w)
      (owners : IsOwners w rows os) (d_is : suc d ≡ owner_length rows os i)
      (h : IsCongruentRow k w rows (set (replicate w []) i (less_multiple k.ops [] 1 d (1 ∷ []))) r)
      (shorter : (j : ℕ) → j < w → length (entry_at r j) < owner_length rows os j) where
    abbrev M : PolynomialModule (code_ring k) (Row (Pol (code_ring k)) (suc (w - 1)))
    M = row_space k w

    abbrev R : List (List ℕ) → Row (Pol (code_ring k)) (suc (w - 1))
    R v = read_row k (suc (w - 1)) v

    abbrev spike : List (List ℕ)
    spike = set (replicate w []) i (less_multiple k.ops [] 1 d (1 ∷ []))

    abbrev out : List (List ℕ)
    out = set r i (less_multiple k.ops (entry_at r i) 1 d (difference_of k.ops [] (1 ∷ [])))

    in_r : i < length r
    in_r = omega (arith, less, h.row.size)

    short : length (entry_at r i) ≤ d
    short = omega (arith, shorter i less, d_is)

    entry_in : IsOver k.ops (entry_at r i)
    entry_in = over_at k r h.row.over i

    entry_same : (j : ℕ) → Dec (j ≡ i) → value k (entry_at out j)
        ≡ S.◌⊕◌ (value k (entry_at r j)) (S.⊖◌ (value k (entry_at spike j)))
    entry_same j (no off) =
        ap (value k) (get_or-set_other r i j (less_multiple k.ops (entry_at r i) 1 d (difference_of k.ops [] (1 ∷ [])))
        [] off)
        ∙ sym (ap (λ x. S.◌⊕◌ (value k (entry_at r j)) (S.⊖◌ x))
        (ap (value k) (get_or-set_other (replicate w []) i j (less_multiple k.ops [] 1 d (1 ∷ [])) [] off
        ∙ zeros_at w j) ∙ value_nil k)
        ∙ ap (S.◌⊕◌ (value k (entry_at r j))) (neg_zero S.ring) ∙ S.add_zero (value k (entry_at r j)))
    entry_same j (yes e) =
        subst (λ n. value k (entry_at out n) ≡ S.◌⊕◌ (value k (entry_at r n)) (S.⊖◌ (value k (entry_at spike n))))
        (sym e)
        (ap (value k) (get_or-set_same r i (less_multiple k.ops (entry_at r i) 1 d (difference_of k.ops [] (1 ∷ []))) []
        in_r)
        ∙ term_added k (entry_at r i) 1 d entry_in k.laws.one_below
        ∙ sym (ap (λ x. S.◌⊕◌ (value k (entry_at r i)) (S.⊖◌ x))
        (ap (value k) (get_or-set_same (replicate w []) i (less_multiple k.ops [] 1 d (1 ∷ [])) []
        (omega (arith, less, length-replicate {A = List ℕ} w [])))
        ∙ value_less_multiple k [] 1 d (1 ∷ []) IsOver_nil k.laws.one_below (one_over k)
        ∙ ap₂ (λ x y. S.◌⊕◌ x (S.⊖◌ (S.◌⊗◌ (value k (term 1 d)) y))) (value_nil k) (value_one k)
        ∙ zero_add S.ring (S.⊖◌ (S.◌⊗◌ (value k (term 1 d)) S.𝟙)) ∙ ap S.⊖◌ (S.mul_one (value k (term 1 d))))
        ∙ ap (S.◌⊕◌ (value k (entry_at r i))) (neg_neg S.ring (value k (term 1 d)))))

    out_read : R out ≡ M.◌⊞◌ (R r) (M.⊟◌ (R spike))
    out_read =
        same_entries (code_ring k) (suc (w - 1)) (R out)
        (row_add S.ops (suc (w - 1)) (R r) (row_neg S.ops (suc (w - 1)) (R spike))) (λ j in_row.
        entry_read k (suc (w - 1)) j out in_row
        ∙ entry_same j (ℕ_discrete j i)
        ∙ sym (entry_add (code_ring k) (suc (w - 1)) j (R r) (row_neg S.ops (suc (w - 1)) (R spike))
        ∙ ap₂ S.◌⊕◌ (entry_read k (suc (w - 1)) j r in_row)
        (entry_neg (code_ring k) (suc (w - 1)) j (R spike) ∙ ap S.⊖◌ (entry_read k (suc (w - 1)) j spike in_row))))
        ∙ sym (row_module_add (code_ring k) (w - 1) (R r) (M.⊟◌ (R spike))
        ∙ ap (row_add S.ops (suc (w - 1)) (R r)) (row_module_neg (code_ring k) (w - 1) (R spike)))

    pub popov_row_is : IsPopovRow k w rows os i out
    popov_row_is = record {
      over = record {
        size = length-set r i _
            ∙ h.row.size;
        over = All-set (IsOver k.ops) r i _ (top_over (entry_at r i) d entry_in short) h.row.over;
      };
      trimmed = All-set IsPoly r i _ (IsPoly_less_multiple k.ops (entry_at r i) 1 d (difference_of k.ops [] (1 ∷ [])))
          (h.trimmed (All-set IsPoly (replicate w []) i _ (IsPoly_less_multiple k.ops [] 1 d (1 ∷ []))
          (All-replicate IsPoly w [] (record { trimmed = tt }))));
      in_span =
          subst (InSpan M (read_rows k w rows))
          (v_neg_add M (R spike) (M.⊟◌ (R r)) ∙ ap (M.◌⊞◌ (M.⊟◌ (R spike))) (v_neg_neg M (R r))
          ∙ v_add_comm M (M.⊟◌ (R spike)) (R r) ∙ sym out_read)
          (neg_in M (InSpan M (read_rows k w rows)) (span_submodule M (read_rows k w rows)) _ h.difference);
      size = ap length at ∙ top_length (entry_at r i) d entry_in short ∙ d_is;
      monic = subst IsMonicList (sym at) (top_monic (entry_at r i) d entry_in short);
      smaller = λ j in_w off. omega (
        arith,
        ap length
            (get_or-set_other r i j (less_multiple k.ops (entry_at r i) 1 d (difference_of k.ops [] (1 ∷ []))) [] off),
        shorter j in_w,
      );
    }
      where
        at : entry_at out i ≡ less_multiple k.ops (entry_at r i) 1 d (difference_of k.ops [] (1 ∷ []))
        at = get_or-set_same r i (less_multiple k.ops (entry_at r i) 1 d (difference_of k.ops [] (1 ∷ []))) [] in_r

    -- the same, as the call reads and writes
    pub popov_row_out : (items : List (List ℕ)) (x y m : List ℕ) → r ≡ items → x ≡ get_or items i x
        → y ≡ less_multiple k.ops x 1 d m → m ≡ difference_of k.ops [] (1 ∷ [])
        → IsPopovRow k w rows os i (set items i y)
    popov_row_out items x y m items_is x_is y_is m_is =
        subst (IsPopovRow k w rows os i)
        (ap₂ (λ xs z. set xs i z) items_is
        (sym (y_is ∙ ap₂ (λ a b. less_multiple k.ops a 1 d b)
        (x_is ∙ ap (λ xs. get_or xs i x) (sym items_is) ∙ any_default r i x [] in_r) m_is)))
        popov_row_is

-- the row that the call lowers
pub spike_is : (k : CodeField) (w i d : ℕ) (items v : List (List ℕ)) (x y one : List ℕ) → i < w → items ≡ replicate w []
    → x ≡ get_or items i x → y ≡ less_multiple k.ops x 1 d one → one ≡ 1 ∷ [] → v ≡ set items i y
    → v ≡ set (replicate w []) i (less_multiple k.ops [] 1 d (1 ∷ []))
spike_is k w i d items v x y one less items_is x_is y_is one_is v_is =
    v_is
    ∙ ap₂ (λ xs z. set xs i z) items_is
    (y_is ∙ ap₂ (λ a b. less_multiple k.ops a 1 d b)
    (x_is ∙ ap (λ xs. get_or xs i x) items_is
    ∙ any_default (replicate w []) i x [] (omega (arith, less, length-replicate {A = List ℕ} w [])) ∙ zeros_at w i)
    one_is)

pub spike_length : (w i : ℕ) (v : List (List ℕ)) (y : List ℕ) → v ≡ set (replicate w []) i y → length v ≡ w
spike_length w i v y is = ap length is ∙ length-set (replicate w []) i y ∙ length-replicate w []

-- a row more
pub popov_rows_more : (k : CodeField) (w : ℕ) (rows : List (List (List ℕ))) (os : List ℕ) (n : ℕ)
    (basis : List (Vec (List ℕ))) (v : Vec (List ℕ)) → IsPopovRows k w rows os n (rows_of basis)
    → IsPopovRow k w rows os n v.items → IsPopovRows k w rows os (n + 1) (rows_of (basis ++ v ∷ []))
popov_rows_more k w rows os n basis v h here = record {
  size = ap length is ∙ length-append (rows_of basis) (v.items ∷ []) ∙ ap (λ m. m + 1) h.size;
  each = λ i less. subst (λ b. IsPopovRow k w rows os i (row_at b i)) (sym is) (at i less (cases_lt i n));
}
  where
    is : rows_of (basis ++ v ∷ []) ≡ rows_of basis ++ v.items ∷ []
    is = map-append (λ u. u.items) basis (v ∷ [])

    none : n - n ≡ 0
    none = omega arith

    at : (i : ℕ) → i < n + 1 → (i < n) ⊎ (n ≤ i) → IsPopovRow k w rows os i (row_at (rows_of basis ++ v.items ∷ []) i)
    at i less (inl lower) = subst (IsPopovRow k w rows os i)
        (sym (get_or_append_left (rows_of basis) (v.items ∷ []) [] i (omega (arith, lower, h.size)))) (h.each i lower)
    at i less (inr more) =
        subst (λ l. IsPopovRow k w rows os l (row_at (rows_of basis ++ v.items ∷ []) l)) (omega (arith, less, more))
        (subst (IsPopovRow k w rows os n)
        (sym (get_or-append_right (rows_of basis) (v.items ∷ []) n n [] h.size (omega arith)
        ∙ ap (λ m. get_or (v.items ∷ []) m []) none)) here)
