-- Rows of codes and what they stand for: the operations agree, and a row over the field is known from what it stands
-- for.
use Rattle.std.proofs.Common.{◌≡◌, ℕ, zero, suc, ◌-◌, ◌<◌, ◌≤◌, ◌⊎◌, inl, inr, List, [], ◌∷◌, length, get_or, set, replicate, refl, sym, ap, ap₂, ◌∙◌, arith, subst}
use Rattle.std.specs.Prelude.{All}
use Rattle.std.proofs.lemmas.Bool.{cases_lt}
use Rattle.ff_fields.specs.Field.{CodeField}
use Rattle.ff_fields.specs.Code.{code_ring}
use Rattle.ff_fields.specs.Over.{IsOver, IsOver_nil}
use Rattle.ring_lemmas.specs.Ring.{TestedRing}
use Rattle.ring_lemmas.specs.Rows.{Row, row_zero, row_add, row_neg, row_scale, entry}
use Rattle.ring_lemmas.proofs.Ring.{mul_zero}
use Rattle.ring_lemmas.proofs.Rows.{pair_path}
use Rattle.ring_lemmas.specs.Polynomials.{Pol}
use Rattle.ring_theory.specs.PolynomialRing.{pol_ring}
use Rattle.ff_poly.specs.Words.{IsPoly, difference_of}
use Rattle.ff_poly.specs.Value.{value, value_sum, value_product, same_from_value}
use Rattle.ff_poly.specs.Polynomials.{value_nil}
use Rattle.ff_poly.specs.Terms.{term, less_multiple, value_less_multiple}
use Rattle.ff_poly.specs.Popov.{entry_at, row_at, IsRow, sum_of_rows, multiple_of_row}
use Rattle.ff_poly.proofs.Results.{product_of_nil}
use Rattle.popov_theory.specs.Module.{PolynomialModule}
use Rattle.popov_theory.specs.Popov.{put}
use Rattle.ring_theory.proofs.PolynomialRows.{same_entries, entry_add, entry_neg, entry_scale}
use Rattle.popov_theory.proofs.PolynomialRows.{row_module_zero, row_module_add, row_module_neg, row_module_scale}
use Rattle.ff_popov.specs.Reading.{read_row, row_space, read_rows}
use Rattle.ff_popov.specs.Rows.{IsRowLess}

-- entries past the end are zero
pub past_row : (row : List (List ℕ)) (j : ℕ) → length row ≤ j → entry_at row j ≡ []
past_row [] j le = refl
past_row (a ∷ row) zero le = absurd (omega (arith, le))
past_row (a ∷ row) (suc j) le = past_row row j (omega (arith, le))

-- rows of one length with the same entries
pub same_row : (u v : List (List ℕ)) → length u ≡ length v → ((j : ℕ) → j < length u → entry_at u j ≡ entry_at v j)
    → u ≡ v
same_row [] [] size h = refl
same_row [] (b ∷ v) size h = absurd (omega (arith, size))
same_row (a ∷ u) [] size h = absurd (omega (arith, size))
same_row (a ∷ u) (b ∷ v) size h = ap₂ ◌∷◌ (h 0 (omega arith))
    (same_row u v (omega (arith, size)) (λ j less. h (suc j) (omega (arith, less))))

module _ (k : CodeField) where
  abbrev S : TestedRing (Pol (code_ring k))
  S = pol_ring (code_ring k)

  pub over_at : (row : List (List ℕ)) → All (IsOver k.ops) row → (j : ℕ) → IsOver k.ops (entry_at row j)
  over_at row over j = go (cases_lt j (length row))
    where
      go : (j < length row) ⊎ (length row ≤ j) → IsOver k.ops (entry_at row j)
      go (inl less) = over j [] less
      go (inr more) = subst (IsOver k.ops) (sym (past_row row j more)) IsOver_nil

  pub read_nil : (n : ℕ) → read_row k n [] ≡ row_zero S.ops n
  unfolding row_zero
  read_nil zero = refl
  read_nil (suc n) = pair_path refl (read_nil n)

  -- the entry of what a row stands for
  pub entry_read : (n j : ℕ) (v : List (List ℕ)) → j < n → entry S.ops n j (read_row k n v) ≡ value k (entry_at v j)
  unfolding entry
  entry_read zero j v less = absurd (omega (arith, less))
  entry_read (suc n) zero [] less = sym (value_nil k)
  entry_read (suc n) (suc j) [] less = entry_read n j [] (omega (arith, less))
  entry_read (suc n) zero (a ∷ v) less = refl
  entry_read (suc n) (suc j) (a ∷ v) less = entry_read n j v (omega (arith, less))

  pub read_sum : (n : ℕ) (u v : List (List ℕ)) → length u ≡ length v → All (IsOver k.ops) u → All (IsOver k.ops) v
      → read_row k n (sum_of_rows k.ops u v) ≡ row_add S.ops n (read_row k n u) (read_row k n v)
  unfolding row_add
  read_sum zero u v size u_in v_in = refl
  read_sum (suc n) [] [] size u_in v_in = pair_path (sym (S.add_zero S.𝟘)) (read_sum n [] [] refl u_in v_in)
  read_sum (suc n) [] (b ∷ v) size u_in v_in = absurd (omega (arith, size))
  read_sum (suc n) (a ∷ u) [] size u_in v_in = absurd (omega (arith, size))
  read_sum (suc n) (a ∷ u) (b ∷ v) size u_in v_in =
      pair_path (value_sum k a b (u_in 0 [] (omega arith)) (v_in 0 [] (omega arith)))
      (read_sum n u v (omega (arith, size)) (λ j d less. u_in (suc j) d (omega (arith, less)))
      (λ j d less. v_in (suc j) d (omega (arith, less))))

  pub read_multiple : (n : ℕ) (c : List ℕ) (v : List (List ℕ)) → IsOver k.ops c → All (IsOver k.ops) v
      → read_row k n (multiple_of_row k.ops c v) ≡ row_scale S.ops n (value k c) (read_row k n v)
  unfolding row_scale
  read_multiple zero c v c_in v_in = refl
  read_multiple (suc n) c [] c_in v_in = pair_path (sym (mul_zero S.ring (value k c))) (read_multiple n c [] c_in v_in)
  read_multiple (suc n) c (a ∷ v) c_in v_in =
      pair_path (value_product k c a c_in (v_in 0 [] (omega arith)))
      (read_multiple n c v c_in (λ j d less. v_in (suc j) d (omega (arith, less))))

  pub read_zeros : (n m : ℕ) → read_row k n (replicate m []) ≡ row_zero S.ops n
  unfolding row_zero
  read_zeros zero m = refl
  read_zeros (suc n) zero = read_nil (suc n)
  read_zeros (suc n) (suc m) = pair_path (value_nil k) (read_zeros n m)

  -- what a row less a multiple stands for
  less_entry : (a b row : List (List ℕ)) (c s : ℕ) → length b ≡ length a → IsRowLess k.ops a c s b row → (j : ℕ)
      → entry_at row j ≡ less_multiple k.ops (entry_at a j) c s (entry_at b j)
  less_entry a b row c s size less j = go (cases_lt j (length a))
    where
      empty : less_multiple k.ops [] c s [] ≡ []
      empty = ap (λ w. difference_of k.ops [] w) (product_of_nil k.ops (term c s))

      go : (j < length a) ⊎ (length a ≤ j) → entry_at row j ≡ less_multiple k.ops (entry_at a j) c s (entry_at b j)
      go (inl in_row) = less.entries j in_row
      go (inr past) =
          past_row row j (omega (arith, less.size, past)) ∙ sym empty
          ∙ ap₂ (λ x y. less_multiple k.ops x c s y) (sym (past_row a j past))
          (sym (past_row b j (omega (arith, size, past))))

  pub read_less : (n : ℕ) (a b row : List (List ℕ)) (c s : ℕ) → length b ≡ length a → All (IsOver k.ops) a
      → All (IsOver k.ops) b → c < k.size → IsRowLess k.ops a c s b row
      → read_row k n row ≡ row_add S.ops n (read_row k n a)
      (row_neg S.ops n (row_scale S.ops n (value k (term c s)) (read_row k n b)))
  read_less n a b row c s size a_in b_in c_in less =
      same_entries (code_ring k) n _ _ (λ j in_row.
      entry_read n j row in_row
      ∙ ap (value k) (less_entry a b row c s size less j)
      ∙ value_less_multiple k (entry_at a j) c s (entry_at b j) (over_at a a_in j) c_in (over_at b b_in j)
      ∙ sym (entry_add (code_ring k) n j (read_row k n a)
      (row_neg S.ops n (row_scale S.ops n (value k (term c s)) (read_row k n b)))
      ∙ ap₂ S.◌⊕◌ (entry_read n j a in_row)
      (entry_neg (code_ring k) n j (row_scale S.ops n (value k (term c s)) (read_row k n b))
      ∙ ap S.⊖◌ (entry_scale (code_ring k) n j (value k (term c s)) (read_row k n b)
      ∙ ap (S.◌⊗◌ (value k (term c s))) (entry_read n j b in_row)))))

  -- a row with entries over the field and without zeros on top is known from what it stands for
  pub same_from_read : (width : ℕ) (u v : List (List ℕ)) → IsRow k.ops width u → IsRow k.ops width v → All IsPoly u
      → All IsPoly v → read_row k (suc (width - 1)) u ≡ read_row k (suc (width - 1)) v → u ≡ v
  same_from_read width u v u_row v_row u_poly v_poly same =
      same_row u v (u_row.size ∙ sym v_row.size) (λ j less.
      let in_v : j < length v = omega (arith, less, u_row.size, v_row.size) in
      let in_width : j < suc (width - 1) = omega (arith, less, u_row.size) in
      same_from_value k (entry_at u j) (entry_at v j) (u_row.over j [] less) (v_row.over j [] in_v) (u_poly j [] less)
      (v_poly j [] in_v)
      (sym (entry_read (suc (width - 1)) j u in_width) ∙ ap (entry S.ops (suc (width - 1)) j) same
      ∙ entry_read (suc (width - 1)) j v in_width))

  -- lists of rows
  module _ (width : ℕ) where
    abbrev M : PolynomialModule (code_ring k) (Row (Pol (code_ring k)) (suc (width - 1)))
    M = row_space k width

    abbrev R : List (List ℕ) → Row (Pol (code_ring k)) (suc (width - 1))
    R v = read_row k (suc (width - 1)) v

    pub read_row_at : (rows : List (List (List ℕ))) (i : ℕ) → get_or (read_rows k width rows) i M.𝟎 ≡ R (row_at rows i)
    read_row_at [] i = row_module_zero (code_ring k) (width - 1) ∙ sym (read_nil (suc (width - 1)))
    read_row_at (row ∷ rows) zero = refl
    read_row_at (row ∷ rows) (suc i) = read_row_at rows i

    pub read_set : (rows : List (List (List ℕ))) (i : ℕ) (row : List (List ℕ))
        → read_rows k width (set rows i row) ≡ put i (R row) (read_rows k width rows)
    read_set [] i row = refl
    read_set (r ∷ rows) zero row = refl
    read_set (r ∷ rows) (suc i) row = ap (λ w. R r ∷ w) (read_set rows i row)

    pub space_less : (a b row : List (List ℕ)) (c s : ℕ) → length b ≡ length a → All (IsOver k.ops) a
        → All (IsOver k.ops) b → c < k.size → IsRowLess k.ops a c s b row
        → R row ≡ M.◌⊞◌ (R a) (M.⊟◌ (M.◌·◌ (value k (term c s)) (R b)))
    space_less a b row c s size a_in b_in c_in less =
        read_less (suc (width - 1)) a b row c s size a_in b_in c_in less
        ∙ sym (row_module_add (code_ring k) (width - 1) (R a) (M.⊟◌ (M.◌·◌ (value k (term c s)) (R b)))
        ∙ ap (row_add S.ops (suc (width - 1)) (R a))
        (row_module_neg (code_ring k) (width - 1) (M.◌·◌ (value k (term c s)) (R b))
        ∙ ap (row_neg S.ops (suc (width - 1))) (row_module_scale (code_ring k) (width - 1) (value k (term c s)) (R b))))
