-- The rows z with z·m in a lattice, from the Popov basis of the rows of m beside those of the unit matrix.
use Rattle.std.proofs.Common.{◌≡◌, ◌≢◌, ℕ, zero, suc, ◌+◌, ◌-◌, ◌*◌, ◌<◌, ◌≤◌, ◌⊎◌, inl, inr, List, [], ◌∷◌, ◌++◌, length, get_or, map, replicate, take, drop, refl, sym, ◌∙◌, ap, ap₂, subst, arith, All, length-append, suc-mul}
use Rattle.std.proofs.lemmas.Bool.{cases_lt}
use Rattle.std.proofs.lemmas.List.{length-map, length-set, length-replicate, length-take-le, get_or-take, get_or-drop, get_or-set_same, get_or-set_other}
use Rattle.std.proofs.Math.ListN.{get_or-append}
use Rattle.std.proofs.Math.Seq.{take-append_seam, drop-append_seam, get_or-append_seam}
use Rattle.std.proofs.lemmas.List.Elements.{All-nil, All-cons, All-head, All-tail, All-append, All-set, All-replicate}
use native.Mathlib.Decide.{ℕ_discrete}
use mathlib.Core.Path.{fun_ext}
use Rattle.ring_lemmas.specs.Lists.{coeff_of}
use Rattle.ring_lemmas.specs.Rows.{Row, row_zero, row_scale, entry}
use Rattle.ring_lemmas.proofs.Ring.{mul_zero, product_not_zero}
use Rattle.ring_lemmas.proofs.Rows.{pair_path, row_scale_zero}
use Rattle.ff_fields.specs.Field.{CodeField}
use Rattle.ff_fields.specs.Code.{code_ring, code_field, same_code}
use Rattle.ff_fields.specs.Over.{IsOver, IsOver_nil, IsOver_cons, IsOver_zeros, IsOver_append, IsOver_trim}
use Rattle.ff_poly.specs.Words.{IsPoly, IsMonicList, shifted}
use Rattle.ff_poly.specs.PolyOver.{IsPoly_poly_of}
use Rattle.ff_poly.specs.Value.{value}
use Rattle.ff_poly.specs.Polynomials.{Polynomial, polynomials, polynomials_domain, codes_of, IsOver_codes_of, IsPoly_codes_of, value_codes_of, value_nil, value_one, value_not_zero}
use Rattle.ff_poly.specs.Popov.{row_at, entry_at, IsRow, IsPivot, IsPopovMatrix, HaveSameRowSpan, HasMultipleInRows, HasFullRankMatrix, combination_list, multiple_of_row}
use Rattle.popov_theory.specs.Module.{PolynomialModule}
use Rattle.popov_theory.specs.Span as theory
use Rattle.popov_theory.specs.Popov as forms
use Rattle.popov_theory.specs.Span.{combine}
use Rattle.popov_theory.proofs.Module.{same_columns, scale_zero}
use Rattle.popov_theory.proofs.Product.{product_zero, product_scale}
use Rattle.popov_theory.proofs.Span.{span_row, span_zero, span_least, combine_add, combine_scale, within_rows}
use Rattle.popov_theory.proofs.PopovForm.{row_past}
use Rattle.popov_theory.proofs.PolynomialRows.{row_module_zero, row_module_add, row_module_scale}
use Rattle.ring_theory.proofs.PolynomialRows.{entry_add, entry_scale, entry_zero, same_entries}
use Rattle.popov_theory.proofs.Kernel.{W, IsLinear}
use Rattle.ff_popov.specs.Reading.{read_row, row_space, read_rows}
use Rattle.ff_popov.proofs.ReadRows.{entry_read, read_row_at, past_row, read_zeros, over_at}
use Rattle.ff_popov.proofs.Spans.{to_space, from_space, space_multiple, multiple_row, combination_read, combination_row, combine_same}
use Rattle.ff_popov.proofs.Measures.{space_width, coef_read, coef_short}
use Rattle.ff_popov.proofs.PopovBasis.{basis_popov}
use Rattle.ff_popov.proofs.Entries.{any_default}
use Rattle.ff_popov.proofs.FullRank.{space_full_rank}
use Rattle.ff_lattice.specs.Steps.{unit_row, lifted, IsTwistedRows, HasZeroCorner, HasShortMultiples, corner, IsPreimage}
use Rattle.ff_lattice.proofs.Fracs.{row_cancel}
use Rattle.ff_lattice.proofs.Scaled.{coeff_code, value_length}
use Rattle.ff_lattice.proofs.Spaces.{combine_one, value_shifted, power_of_x, same_space, combination_poly}
use Rattle.ff_lattice.proofs.Transport.{moved, moved_at, moved_scale, moved_popov, span_moved, span_back}
use Rattle.ff_lattice.proofs.SpannedSets.{multiple_poly}
use Rattle.ff_lattice.proofs.SplitRows.{cut, join, cut_join, cut_width, cut_coef, cut_read}
use Rattle.ff_lattice.proofs.Corners.{twisted_multiple, right_null}
use Rattle.ff_lattice.proofs.KernelRows.{Twisted, twisted_submodule, twisted_first, twisted_second, twisted_in, kernel_rows, kernel_at, kernel_length, kernel_in, kernel_all}

-- ---- the rows of codes

none_at : (n j : ℕ) → entry_at (replicate n []) j ≡ []
none_at zero j = refl
none_at (suc n) zero = refl
none_at (suc n) (suc j) = none_at n j

zeros_at : (n i : ℕ) → ◌≡◌ {A = ℕ} (get_or (replicate n 0) i 0) 0
zeros_at zero i = refl
zeros_at (suc n) zero = refl
zeros_at (suc n) (suc i) = zeros_at n i

pub unit_length : (n i : ℕ) → length (unit_row n i) ≡ n
unit_length n i = length-set (replicate n []) i (1 ∷ []) ∙ length-replicate n []

unit_at : (n i : ℕ) → i < n → entry_at (unit_row n i) i ≡ 1 ∷ []
unit_at n i less = get_or-set_same (replicate n []) i (1 ∷ []) [] (omega (arith, less, size []))
  where
    size : (a : List ℕ) → length (replicate n a) ≡ n
    size a = length-replicate n a

unit_off : (n i j : ℕ) → j ≢ i → entry_at (unit_row n i) j ≡ []
unit_off n i j differ = get_or-set_other (replicate n []) i j (1 ∷ []) [] differ ∙ none_at n j

rows_past : (rows : List (List (List ℕ))) (i : ℕ) → length rows ≤ i → row_at rows i ≡ []
rows_past [] i le = refl
rows_past (r ∷ rows) zero le = absurd (omega (arith, le))
rows_past (r ∷ rows) (suc i) le = rows_past rows i (omega (arith, le))

module _ (k : CodeField) where
  -- codes of the polynomial 0
  no_value : (a : List ℕ) → IsOver k.ops a → IsPoly a → value k a ≡ (polynomials k).𝟘 → a ≡ []
  no_value [] a_in a_poly e = refl
  no_value (x ∷ xs) a_in a_poly e = absurd
      (value_not_zero k (x ∷ xs) a_in a_poly (λ z. absurd (omega (arith, ap length z))) e)

  pub unit_over : (n i : ℕ) → All (IsOver k.ops) (unit_row n i)
  unit_over n i = All-set (IsOver k.ops) (replicate n []) i (1 ∷ []) (IsOver_cons k.laws.one_below IsOver_nil)
      (All-replicate (IsOver k.ops) n [] IsOver_nil)

  one_poly : IsPoly (1 ∷ [])
  one_poly = record { trimmed = refl }

  unit_poly : (n i : ℕ) → All IsPoly (unit_row n i)
  unit_poly n i = All-set IsPoly (replicate n []) i (1 ∷ []) one_poly
      (All-replicate IsPoly n [] (record { trimmed = tt }))

  lifted_over : (power : ℕ) (v : List (List ℕ)) → All (IsOver k.ops) v → All (IsOver k.ops) (lifted power v)
  lifted_over power [] v_in = All-nil (IsOver k.ops)
  lifted_over power (a ∷ v) v_in =
      All-cons (IsOver k.ops) (shifted a power) (lifted power v)
      (IsOver_trim (replicate power 0 ++ a) (IsOver_append (IsOver_zeros k power) (All-head (IsOver k.ops) a v v_in)))
      (lifted_over power v (All-tail (IsOver k.ops) a v v_in))

  lifted_poly : (power : ℕ) (v : List (List ℕ)) → All IsPoly (lifted power v)
  lifted_poly power [] = All-nil IsPoly
  lifted_poly power (a ∷ v) = All-cons IsPoly (shifted a power) (lifted power v)
      (IsPoly_poly_of (replicate power 0 ++ a)) (lifted_poly power v)

  -- what a lifted row stands for
  read_lifted : (n power : ℕ) (v : List (List ℕ)) → All (IsOver k.ops) v
      → read_row k n (lifted power v) ≡ row_scale (polynomials k).ops n (power_of_x k power) (read_row k n v)
  unfolding row_scale
  read_lifted zero power v v_in = refl
  read_lifted (suc n) power [] v_in = pair_path (sym (mul_zero (polynomials k).ring (power_of_x k power)))
      (read_lifted n power [] v_in)
  read_lifted (suc n) power (a ∷ v) v_in =
      pair_path (value_shifted k a power (All-head (IsOver k.ops) a v v_in))
      (read_lifted n power v (All-tail (IsOver k.ops) a v v_in))

  -- what a unit row stands for
  pub read_unit : (r i : ℕ) → 0 < r → i < r → read_row k (suc (r - 1)) (unit_row r i) ≡ (row_space k r).unit i
  read_unit r i positive less =
      same_columns M (read_row k (suc (r - 1)) (unit_row r i)) (M.unit i) (λ s j j_less. at s j j_less (ℕ_discrete j i))
    where
      M : PolynomialModule (code_ring k) (Row (Polynomial k) (suc (r - 1)))
      M = row_space k r

      off : (s j : ℕ) → i < (row_space k r).width → (s * (row_space k r).width + j ≡ i) → s ≡ 0
      off zero j i_less e = refl
      off (suc s) j i_less e = absurd (omega (arith, e, i_less, suc-mul s (row_space k r).width))

      i_width : i < (row_space k r).width
      i_width = omega (arith, less, space_width k r, positive)

      at : (s j : ℕ) → j < (row_space k r).width → Dec (j ≡ i)
          → (row_space k r).coef (read_row k (suc (r - 1)) (unit_row r i)) (s * (row_space k r).width + j)
          ≡ (row_space k r).coef ((row_space k r).unit i) (s * (row_space k r).width + j)
      at s j j_less (no differ) =
          coef_short k r (unit_row r i) s j j_less (omega (arith, ap length (unit_off r i j differ)))
          ∙ sym ((row_space k r).coef_unit_off i (s * (row_space k r).width + j) (λ e. differ (zero_case s e)))
        where
          zero_case : (s : ℕ) → s * (row_space k r).width + j ≡ i → j ≡ i
          zero_case zero e = omega (arith, e)
          zero_case (suc s) e = let z : suc s ≡ 0 = off (suc s) j i_width e in absurd (omega (arith, z))
      at zero j j_less (yes same) =
          coef_read k r (unit_row r i) 0 j j_less
          ∙ same_code k (coeff_of (code_ring k).ops (value k (entry_at (unit_row r i) j)).0 0) (code_ring k).𝟙
          (ap (λ n. (coeff_of (code_ring k).ops (value k (entry_at (unit_row r i) n)).0 0).0) same
          ∙ ap (λ a. (coeff_of (code_ring k).ops (value k a).0 0).0) (unit_at r i less)
          ∙ coeff_code k (1 ∷ []) 0 (IsOver_cons k.laws.one_below IsOver_nil))
          ∙ sym ((row_space k r).coef_unit i)
          ∙ ap ((row_space k r).coef ((row_space k r).unit i)) (omega (arith, same))
      at (suc s) j j_less (yes same) =
          coef_short k r (unit_row r i) (suc s) j j_less
          (omega (arith, ap (λ n. length (entry_at (unit_row r i) n)) same, ap length (unit_at r i less)))
          ∙ sym ((row_space k r).coef_unit_off i (suc s * (row_space k r).width + j)
          (λ e. let z : suc s ≡ 0 = off (suc s) j i_width e in absurd (omega (arith, z))))

  -- a power of x isn't 0
  power_some : (j : ℕ) → ¬ (power_of_x k j ≡ (polynomials k).𝟘)
  power_some j e = absurd (omega (arith, one))
    where
      codes : List ℕ
      codes = replicate j 0 ++ 1 ∷ []

      codes_in : IsOver k.ops (replicate j 0 ++ 1 ∷ [])
      codes_in = IsOver_append (IsOver_zeros k j) (IsOver_cons k.laws.one_below IsOver_nil)

      one : ◌≡◌ {A = ℕ} 1 0
      one =
          sym (ap (λ n. get_or (replicate j 0 ++ 1 ∷ []) n 0) (sym (length-replicate j 0))
          ∙ get_or-append_seam (replicate j 0) 1 [] 0)
          ∙ sym (coeff_code k (replicate j 0 ++ 1 ∷ []) j codes_in)
          ∙ ap (λ q. (coeff_of (code_ring k).ops q.0 j).0) (e ∙ sym (value_nil k))
          ∙ coeff_code k [] j IsOver_nil

  module _ (r c : ℕ) (r_pos : 0 < r) (c_pos : 0 < c) (m ls : List (List (List ℕ))) (m_size : length m ≡ r)
      (m_in : All (IsRow k.ops c) m) (ls_in : All (IsRow k.ops c) ls) (power : ℕ)
      (gs : List (List (List ℕ))) (twisted : IsTwistedRows power m ls gs) where
    row_m : (i : ℕ) → i < r → IsRow k.ops c (row_at m i)
    row_m i less = m_in i [] (omega (arith, less, m_size))

    row_l : (i : ℕ) → i < length ls → IsRow k.ops c (row_at ls i)
    row_l i less = ls_in i [] less

    first_is : (j : ℕ) → j < length ls → row_at gs j ≡ replicate r [] ++ lifted power (row_at ls j)
    first_is j less = twisted.first j less ∙ ap (λ n. replicate n [] ++ lifted power (row_at ls j)) m_size

    second_is : (i : ℕ) → i < r → row_at gs (length ls + i) ≡ unit_row r i ++ lifted power (row_at m i)
    second_is i less = twisted.second i (omega (arith, less, m_size))
        ∙ ap (λ n. unit_row n i ++ lifted power (row_at m i)) m_size

    gs_size : length gs ≡ length ls + r
    gs_size = twisted.size ∙ ap (λ n. length ls + n) m_size

    -- each row of the list in one of the two forms
    each_row : (T : List (List ℕ) → Type 0) → ((i : ℕ) → i < r → T (unit_row r i ++ lifted power (row_at m i)))
        → ((j : ℕ) → j < length ls → T (replicate r [] ++ lifted power (row_at ls j)))
        → (i : ℕ) → i < length gs → T (row_at gs i)
    each_row T h h' i less = go (cases_lt i (length ls))
      where
        go : (i < length ls) ⊎ (length ls ≤ i) → T (row_at gs i)
        go (inl first) = subst T (sym (first_is i first)) (h' i first)
        go (inr second) =
            let i_less : i - length ls < r = omega (arith, less, second, gs_size) in
            let position : length ls + (i - length ls) ≡ i = omega (arith, second) in
            subst T (sym (second_is (i - length ls) i_less) ∙ ap (row_at gs) position) (h (i - length ls) i_less)

    row_gs : (i : ℕ) → i < length gs → IsRow k.ops (r + c) (row_at gs i)
    row_gs = each_row (IsRow k.ops (r + c))
        (λ i less. record {
          size =
              length-append (unit_row r i) (lifted power (row_at m i))
              ∙ ap₂ ◌+◌ (unit_length r i) (length-map (row_at m i) (λ v. shifted v power) ∙ (row_m i less).size);
          over = All-append (IsOver k.ops) (unit_row r i) (lifted power (row_at m i)) (unit_over r i)
              (lifted_over power (row_at m i) (row_m i less).over);
        })
        (λ j less. record {
          size =
              length-append (replicate r []) (lifted power (row_at ls j))
              ∙ ap₂ ◌+◌ (length-replicate r []) (length-map (row_at ls j) (λ v. shifted v power)
              ∙ (row_l j less).size);
          over = All-append (IsOver k.ops) (replicate r []) (lifted power (row_at ls j))
              (All-replicate (IsOver k.ops) r [] IsOver_nil) (lifted_over power (row_at ls j) (row_l j less).over);
        })

    pub gs_in : All (IsRow k.ops (r + c)) gs
    gs_in i d less = subst (IsRow k.ops (r + c)) (any_default gs i [] d less) (row_gs i less)

    gs_poly : (i : ℕ) → i < length gs → All IsPoly (row_at gs i)
    gs_poly = each_row (All IsPoly)
        (λ i less. All-append IsPoly (unit_row r i) (lifted power (row_at m i)) (unit_poly r i)
        (lifted_poly power (row_at m i)))
        (λ j less. All-append IsPoly (replicate r []) (lifted power (row_at ls j))
        (All-replicate IsPoly r [] (record { trimmed = tt })) (lifted_poly power (row_at ls j)))

    -- ---- what they stand for

    abbrev M : PolynomialModule (code_ring k) (Row (Polynomial k) (suc (r - 1)))
    M = row_space k r

    abbrev N : PolynomialModule (code_ring k) (Row (Polynomial k) (suc (c - 1)))
    N = row_space k c

    abbrev W₀ : PolynomialModule (code_ring k) (Row (Polynomial k) (suc (r - 1)) × Row (Polynomial k) (suc (c - 1)))
    W₀ = W M N

    abbrev whole : PolynomialModule (code_ring k) (Row (Polynomial k) (suc (r + c - 1)))
    whole = row_space k (r + c)

    width : suc (r + c - 1) ≡ suc (r - 1) + suc (c - 1)
    width = omega (arith, r_pos, c_pos)

    r_is : suc (r - 1) ≡ r
    r_is = omega (arith, r_pos)

    abbrev ι : Row (Polynomial k) (suc (r + c - 1))
        → Row (Polynomial k) (suc (r - 1)) × Row (Polynomial k) (suc (c - 1))
    ι v = cut (code_ring k) (r - 1) (c - 1) (r + c - 1) width v

    coef : (v : Row (Polynomial k) (suc (r + c - 1))) (e : ℕ) → W₀.coef (ι v) e ≡ whole.coef v e
    coef v e = cut_coef (code_ring k) (r - 1) (c - 1) (r + c - 1) width v e

    same_width : W₀.width ≡ whole.width
    same_width = cut_width (code_ring k) (r - 1) (c - 1) (r + c - 1) width

    abbrev move : List (Row (Polynomial k) (suc (r + c - 1)))
        → List (Row (Polynomial k) (suc (r - 1)) × Row (Polynomial k) (suc (c - 1)))
    move rows = moved whole W₀ ι same_width coef rows

    abbrev ms : List (Row (Polynomial k) (suc (c - 1)))
    ms = read_rows k c m

    -- z·m
    abbrev φ : Row (Polynomial k) (suc (r - 1)) → Row (Polynomial k) (suc (c - 1))
    φ v = combine N (λ i. entry (polynomials k).ops (suc (r - 1)) i v) ms

    linear : IsLinear M N φ
    linear = record {
      add = λ u v.
          ap (λ f. combine N f ms)
          (fun_ext (λ i. ap (entry (polynomials k).ops (suc (r - 1)) i) (row_module_add (code_ring k) (r - 1) u v)
          ∙ entry_add (code_ring k) (suc (r - 1)) i u v))
          ∙ combine_add N ms (λ i. entry (polynomials k).ops (suc (r - 1)) i u)
          (λ i. entry (polynomials k).ops (suc (r - 1)) i v);
      scale = λ a v.
          ap (λ f. combine N f ms)
          (fun_ext (λ i. ap (entry (polynomials k).ops (suc (r - 1)) i) (row_module_scale (code_ring k) (r - 1) a v)
          ∙ entry_scale (code_ring k) (suc (r - 1)) i a v))
          ∙ combine_scale N ms a (λ i. entry (polynomials k).ops (suc (r - 1)) i v);
    }

    ms_length : length ms ≡ r
    ms_length = length-map m (read_row k (suc (c - 1))) ∙ m_size

    φ_codes : (z : List (List ℕ)) → φ (read_row k (suc (r - 1)) z) ≡ combine N (λ i. value k (entry_at z i)) ms
    φ_codes z =
        combine_same k c N ms (λ i. entry (polynomials k).ops (suc (r - 1)) i (read_row k (suc (r - 1)) z))
        (λ i. value k (entry_at z i))
        (λ i less. entry_read k (suc (r - 1)) i z (omega (arith, less, ms_length, r_is)))

    φ_read : (z : List (List ℕ)) → IsRow k.ops r z
        → φ (read_row k (suc (r - 1)) z) ≡ read_row k (suc (c - 1)) (combination_list k.ops c z m)
    φ_read z z_row = φ_codes z ∙ sym (combination_read k c z m (z_row.size ∙ sym m_size) z_row.over m_in)

    φ_unit : (i : ℕ) → i < r → φ (M.unit i) ≡ read_row k (suc (c - 1)) (row_at m i)
    φ_unit i less =
        ap φ (sym (read_unit r i r_pos less)) ∙ φ_codes (unit_row r i)
        ∙ combine_one N ms i (λ j. value k (entry_at (unit_row r i) j))
        (ap (value k) (unit_at r i less) ∙ value_one k)
        (λ j differ. ap (value k) (unit_off r i j differ) ∙ value_nil k)
        ∙ read_row_at k c m i

    abbrev t : Polynomial k
    t = power_of_x k power

    t_some : ¬ (t ≡ (polynomials k).𝟘)
    t_some = power_some power

    t_low : (i : ℕ) → i < power → coeff_of (code_ring k).ops t.0 i ≡ (code_ring k).𝟘
    t_low i less =
        same_code k _ _
        (coeff_code k (replicate power 0 ++ 1 ∷ []) i
        (IsOver_append (IsOver_zeros k power) (IsOver_cons k.laws.one_below IsOver_nil))
        ∙ get_or-append (replicate power 0) (1 ∷ []) 0 i (omega (arith, less, length-replicate {A = ℕ} power 0))
        ∙ zeros_at power i)

    cancel : (u : Row (Polynomial k) (suc (c - 1))) → N.◌·◌ t u ≡ N.𝟎 → u ≡ N.𝟎
    cancel u e =
        row_cancel (polynomials k).ring (polynomials_domain k) (suc (c - 1)) t u
        (row_zero (polynomials k).ops (suc (c - 1))) t_some
        (sym (row_module_scale (code_ring k) (c - 1) t u) ∙ e ∙ row_module_zero (code_ring k) (c - 1)
        ∙ sym (row_scale_zero (polynomials k).ring (suc (c - 1)) t))
        ∙ sym (row_module_zero (code_ring k) (c - 1))

    abbrev ls' : List (Row (Polynomial k) (suc (c - 1)))
    ls' = read_rows k c ls

    abbrev IsTwisted : Row (Polynomial k) (suc (r - 1)) × Row (Polynomial k) (suc (c - 1)) → Type 0
    IsTwisted q = Twisted M N (code_field k) φ linear ls' t cancel q

    -- the two kinds of rows
    cut_parts : (u x : List (List ℕ)) → length u ≡ r
        → ι (read_row k (suc (r + c - 1)) (u ++ x)) ≡ (read_row k (suc (r - 1)) u, read_row k (suc (c - 1)) x)
    cut_parts u x size =
        cut_read k (r - 1) (c - 1) (r + c - 1) width (u ++ x)
        ∙ pair_path
        (ap (read_row k (suc (r - 1))) (ap (λ n. take n (u ++ x)) (r_is ∙ sym size) ∙ take-append_seam u x))
        (ap (read_row k (suc (c - 1))) (ap (λ n. drop n (u ++ x)) (r_is ∙ sym size) ∙ drop-append_seam u x))

    t_lifted : (v : List (List ℕ)) → All (IsOver k.ops) v
        → read_row k (suc (c - 1)) (lifted power v) ≡ N.◌·◌ t (read_row k (suc (c - 1)) v)
    t_lifted v v_in = read_lifted (suc (c - 1)) power v v_in
        ∙ sym (row_module_scale (code_ring k) (c - 1) t (read_row k (suc (c - 1)) v))

    read_none : (n : ℕ) → read_row k (suc (r - 1)) (replicate n []) ≡ M.𝟎
    read_none n = read_zeros k (suc (r - 1)) n ∙ sym (row_module_zero (code_ring k) (r - 1))

    moved_second : (i : ℕ) → i < r → theory.row_at W₀ (move (read_rows k (r + c) gs)) (length ls + i)
        ≡ (M.unit i, N.◌·◌ t (φ (M.unit i)))
    moved_second i less =
        moved_at whole W₀ ι same_width coef (read_rows k (r + c) gs) (length ls + i)
        ∙ ap ι (read_row_at k (r + c) gs (length ls + i) ∙ ap (read_row k (suc (r + c - 1))) (second_is i less))
        ∙ cut_parts (unit_row r i) (lifted power (row_at m i)) (unit_length r i)
        ∙ pair_path (read_unit r i r_pos less)
        (t_lifted (row_at m i) (row_m i less).over ∙ ap (N.◌·◌ t) (sym (φ_unit i less)))

    moved_first : (j : ℕ) → j < length ls
        → theory.row_at W₀ (move (read_rows k (r + c) gs)) j ≡ (M.𝟎, N.◌·◌ t (theory.row_at N ls' j))
    moved_first j less =
        moved_at whole W₀ ι same_width coef (read_rows k (r + c) gs) j
        ∙ ap ι (read_row_at k (r + c) gs j ∙ ap (read_row k (suc (r + c - 1))) (first_is j less))
        ∙ cut_parts (replicate r []) (lifted power (row_at ls j)) (length-replicate r [])
        ∙ pair_path (read_none r) (t_lifted (row_at ls j) (row_l j less).over
        ∙ ap (N.◌·◌ t) (sym (read_row_at k c ls j)))

    -- the span of the rows is the set of the twisted pairs
    abbrev Gs : List (Row (Polynomial k) (suc (r - 1)) × Row (Polynomial k) (suc (c - 1)))
    Gs = move (read_rows k (r + c) gs)

    gs_length : length Gs ≡ length ls + r
    gs_length = length-map (read_rows k (r + c) gs) ι ∙ length-map gs (read_row k (suc (r + c - 1))) ∙ gs_size

    ls_length : length ls' ≡ length ls
    ls_length = length-map ls (read_row k (suc (c - 1)))

    gs_twisted : (q : Row (Polynomial k) (suc (r - 1)) × Row (Polynomial k) (suc (c - 1))) → theory.InSpan W₀ Gs q
        → IsTwisted q
    gs_twisted = span_least W₀ IsTwisted 𝓣 Gs (λ i. go i (cases_lt i (length ls)) (cases_lt i (length ls + r)))
      where
        𝓣 : theory.IsSubmodule W₀ IsTwisted
        𝓣 = twisted_submodule M N (code_field k) φ linear ls' t cancel

        go : (i : ℕ) → (i < length ls) ⊎ (length ls ≤ i) → (i < length ls + r) ⊎ (length ls + r ≤ i)
            → IsTwisted (theory.row_at W₀ Gs i)
        go i (inl first) inside =
            subst IsTwisted (sym (moved_first i first))
            (twisted_second M N (code_field k) φ linear ls' t cancel (theory.row_at N ls' i) (span_row N ls' i))
        go i (inr second) (inl inside) =
            let i_less : i - length ls < r = omega (arith, inside, second) in
            let position : length ls + (i - length ls) ≡ i = omega (arith, second) in
            subst IsTwisted (sym (moved_second (i - length ls) i_less) ∙ ap (theory.row_at W₀ Gs) position)
            (twisted_first M N (code_field k) φ linear ls' t cancel (M.unit (i - length ls)))
        go i (inr second) (inr past) = subst IsTwisted (sym (row_past W₀ Gs i (omega (arith, past, gs_length))))
            𝓣.zero_in

    twisted_gs : (q : Row (Polynomial k) (suc (r - 1)) × Row (Polynomial k) (suc (c - 1))) → IsTwisted q
        → theory.InSpan W₀ Gs q
    twisted_gs =
        twisted_in M N (code_field k) φ linear ls' t cancel Gs
        (λ i less.
        let in_r : i < r = omega (arith, less, space_width k r, r_is) in
        subst (theory.InSpan W₀ Gs) (moved_second i in_r) (span_row W₀ Gs (length ls + i)))
        (λ j. first j (cases_lt j (length ls)))
      where
        first : (j : ℕ) → (j < length ls) ⊎ (length ls ≤ j) → theory.InSpan W₀ Gs (M.𝟎, N.◌·◌ t (theory.row_at N ls' j))
        first j (inl less) = subst (theory.InSpan W₀ Gs) (moved_first j less) (span_row W₀ Gs j)
        first j (inr past) =
            subst (theory.InSpan W₀ Gs)
            (product_zero M N ∙ pair_path refl
            (sym (ap (N.◌·◌ t) (row_past N ls' j (omega (arith, past, ls_length))) ∙ scale_zero N t)))
            (span_zero W₀ Gs)

    -- the rows have full rank where those of ls have
    codes_multiple : (v : List (List ℕ)) → IsRow k.ops (r + c) v → (h : Polynomial k) → ¬ (h ≡ (polynomials k).𝟘)
        → theory.InSpan N ls' (N.◌·◌ h (N.◌⊞◌ (ι (read_row k (suc (r + c - 1)) v)).1
        (N.⊟◌ (φ (M.◌·◌ t (ι (read_row k (suc (r + c - 1)) v)).0))))) → HasMultipleInRows k.ops (r + c) gs v
    codes_multiple v v_row h some h_in =
        let V = read_row k (suc (r + c - 1)) v in
        let d = (polynomials k).◌⊗◌ t h in
        let f_in = IsOver_codes_of k d in
        record {
          factor = codes_of k d;
          factor_in = f_in;
          factor_poly = IsPoly_codes_of k d;
          factor_some = λ e.
              product_not_zero (polynomials_domain k) t h t_some some
              (sym (value_codes_of k d) ∙ ap (value k) e ∙ value_nil k);
          in_span =
              from_space k (r + c) gs gs_in (multiple_of_row k.ops (codes_of k d) v)
              (multiple_row k (r + c) (codes_of k d) v f_in v_row) (multiple_poly k (codes_of k d) v)
              (span_back whole W₀ ι same_width coef (read_rows k (r + c) gs)
              (read_row k (suc (r + c - 1)) (multiple_of_row k.ops (codes_of k d) v))
              (subst (theory.InSpan W₀ Gs)
              (sym (product_scale M N d (ι V)) ∙ sym (moved_scale whole W₀ ι same_width coef d V)
              ∙ ap ι (ap (λ q. whole.◌·◌ q V) (sym (value_codes_of k d))
              ∙ sym (space_multiple k (r + c) (codes_of k d) v f_in v_row.over)))
              (twisted_gs _ (twisted_multiple M N (code_field k) φ linear ls' t cancel (ι V).0 (ι V).1 h h_in))));
        }

    pub gs_full : HasFullRankMatrix k.ops c ls → HasFullRankMatrix k.ops (r + c) gs
    gs_full full = record {
      multiple = λ v v_row.
          let V = read_row k (suc (r + c - 1)) v in
          let f = (space_full_rank k c c_pos ls ls_in full).multiple (N.◌⊞◌ (ι V).1 (N.⊟◌ (φ (M.◌·◌ t (ι V).0)))) in
          codes_multiple v v_row f.factor f.some f.in_span;
    }

    module _ (rows : List (List (List ℕ))) (rows_in : All (IsRow k.ops (r + c)) rows) (popov : IsPopovMatrix
        (r + c) rows)
        (span : HaveSameRowSpan k.ops (r + c) gs rows) where
      abbrev Ps : List (Row (Polynomial k) (suc (r - 1)) × Row (Polynomial k) (suc (c - 1)))
      Ps = move (read_rows k (r + c) rows)

      rows_poly : (i : ℕ) → i < length rows → All IsPoly (row_at rows i)
      rows_poly i less j d j_less = subst IsPoly (any_default (row_at rows i) j [] d j_less) (popov.trimmed i j)

      spaces : theory.HaveSameSpan whole (read_rows k (r + c) gs) (read_rows k (r + c) rows)
      spaces = same_space k (r + c) gs rows gs_in rows_in gs_poly rows_poly span

      -- the same of spans of pairs
      pairs_within : (xs ys : List (Row (Polynomial k) (suc (r + c - 1)))) → theory.IsWithin whole xs ys
          → (q : Row (Polynomial k) (suc (r - 1)) × Row (Polynomial k) (suc (c - 1))) → theory.InSpan W₀ (move xs) q
          → theory.InSpan W₀ (move ys) q
      pairs_within xs ys h q q_in =
          let v = join (code_ring k) (r - 1) (c - 1) (r + c - 1) width q in
          let is = cut_join (code_ring k) (r - 1) (c - 1) (r + c - 1) width q in
          subst (theory.InSpan W₀ (move ys)) is
          (span_moved whole W₀ ι same_width coef ys v
          (h.within v (span_back whole W₀ ι same_width coef xs v
          (subst (theory.InSpan W₀ (move xs)) (sym is) q_in))))

      p_popov : forms.IsPopov W₀ Ps
      p_popov = moved_popov whole W₀ ι same_width coef (read_rows k (r + c) rows)
          (basis_popov k (r + c) rows rows_in popov (omega (arith, r_pos)))

      left : (q : Row (Polynomial k) (suc (r - 1)) × Row (Polynomial k) (suc (c - 1))) → theory.InSpan W₀ Ps q
          → IsTwisted q
      left q q_in = gs_twisted q (pairs_within (read_rows k (r + c) rows) (read_rows k (r + c) gs) spaces.right q q_in)

      right : (q : Row (Polynomial k) (suc (r - 1)) × Row (Polynomial k) (suc (c - 1))) → IsTwisted q
          → theory.InSpan W₀ Ps q
      right q h = pairs_within (read_rows k (r + c) gs) (read_rows k (r + c) rows) spaces.left q (twisted_gs q h)

      p_at : (i : ℕ) → theory.row_at W₀ Ps i
          ≡ (read_row k (suc (r - 1)) (take r (row_at rows i)), read_row k (suc (c - 1)) (drop r (row_at rows i)))
      p_at i =
          moved_at whole W₀ ι same_width coef (read_rows k (r + c) rows) i ∙ ap ι (read_row_at k (r + c) rows i)
          ∙ cut_read k (r - 1) (c - 1) (r + c - 1) width (row_at rows i)
          ∙ ap (λ n. (
            read_row k (suc (r - 1)) (take n (row_at rows i)),
            read_row k (suc (c - 1))
                (drop n (row_at rows i)),
          )) r_is

      -- where the power of x is high enough the right parts are zero
      short_row : (bound : ℕ) → HasShortMultiples k.ops c ls bound → bound ≤ power → (i : ℕ) → i < r
          → (theory.row_at W₀ Ps i).1 ≡ N.𝟎
      short_row bound h le i less =
          let f = h.multiple (row_at m i) (row_m i less) in
          right_null M N (code_field k) φ linear ls' t cancel power t_low Ps p_popov left right i
          (omega (arith, less, space_width k r, r_is)) (value k f.factor)
          (value_not_zero k f.factor f.factor_in f.factor_poly f.factor_some)
          (omega (arith, value_length k f.factor f.factor_in f.factor_poly, h.short (row_at m i) (row_m i less), le))
          (subst (theory.InSpan N ls')
          (space_multiple k c f.factor (row_at m i) f.factor_in (row_m i less).over
          ∙ ap (N.◌·◌ (value k f.factor)) (sym (φ_unit i less)))
          (to_space k c ls ls_in (multiple_of_row k.ops f.factor (row_at m i)) f.in_span))

      entry_null : (i j : ℕ) → i < r → j < c → (theory.row_at W₀ Ps i).1 ≡ N.𝟎 → entry_at (row_at rows i) (r + j) ≡ []
      entry_null i j less j_less null =
          no_value (entry_at (row_at rows i) (r + j))
          (over_at k (row_at rows i) (rows_in i [] (omega (arith, less, popov.size))).over (r + j))
          (popov.trimmed i (r + j))
          (ap (value k) (sym (get_or-drop r (row_at rows i) j []))
          ∙ sym (entry_read k (suc (c - 1)) j (drop r (row_at rows i)) (omega (arith, j_less)))
          ∙ ap (entry (polynomials k).ops (suc (c - 1)) j)
          (sym (ap (λ q. q.1) (p_at i)) ∙ null ∙ row_module_zero (code_ring k) (c - 1))
          ∙ entry_zero (code_ring k) (suc (c - 1)) j)

      pub zero_corner : (bound : ℕ) → HasShortMultiples k.ops c ls bound → bound ≤ power → HasZeroCorner r rows
      zero_corner bound h le = record {
        zero_at = λ i j less more. go i (j - r) less (cases_lt (j - r) c) j
            (omega (arith, more));
      }
        where
          go : (i j : ℕ) → i < r → (j < c) ⊎ (c ≤ j) → (n : ℕ) → n ≡ r + j → entry_at (row_at rows i) n ≡ []
          go i j less (inl j_less) n e = ap (entry_at (row_at rows i)) e
              ∙ entry_null i j less j_less (short_row bound h le i less)
          go i j less (inr past) n e = past_row (row_at rows i) n
              (omega (arith, e, past, (rows_in i [] (omega (arith, less, popov.size))).size))

      module _ (zeros : HasZeroCorner r rows) where
        right_zero : (i : ℕ) → i < M.width → (theory.row_at W₀ Ps i).1 ≡ N.𝟎
        right_zero i less =
            ap (λ q. q.1) (p_at i)
            ∙ same_entries (code_ring k) (suc (c - 1)) (read_row k (suc (c - 1)) (drop r (row_at rows i)))
            (row_zero (polynomials k).ops (suc (c - 1))) (λ j j_less.
            entry_read k (suc (c - 1)) j (drop r (row_at rows i)) j_less
            ∙ ap (value k) (get_or-drop r (row_at rows i) j []
            ∙ zeros.zero_at i (r + j) (omega (arith, less, space_width k r, r_is)) (omega arith)) ∙ value_nil k
            ∙ sym (entry_zero (code_ring k) (suc (c - 1)) j))
            ∙ sym (row_module_zero (code_ring k) (c - 1))

        -- the left parts
        abbrev basis : List (List (List ℕ))
        basis = corner r rows

        corner_at : (xs : List (List (List ℕ))) (i : ℕ) → i < length xs
            → row_at (map (take r) xs) i ≡ take r (row_at xs i)
        corner_at [] i less = absurd (omega (arith, less))
        corner_at (x ∷ xs) zero less = refl
        corner_at (x ∷ xs) (suc i) less = corner_at xs i (omega (arith, less))

        first_length : length (take r rows) ≡ r
        first_length = length-take-le r rows (omega (arith, popov.size))

        basis_length : length basis ≡ r
        basis_length = length-map (take r rows) (take r) ∙ first_length

        basis_at : (i : ℕ) → i < r → row_at basis i ≡ take r (row_at rows i)
        basis_at i less = corner_at (take r rows) i (omega (arith, less, first_length))
            ∙ ap (take r) (get_or-take r rows i [] less)

        row_rows : (i : ℕ) → i < r → IsRow k.ops (r + c) (row_at rows i)
        row_rows i less = rows_in i [] (omega (arith, less, popov.size))

        entry_basis : (i j : ℕ) → i < r → j < r → entry_at (row_at basis i) j ≡ entry_at (row_at rows i) j
        entry_basis i j i_less j_less = ap (λ x. entry_at x j) (basis_at i i_less)
            ∙ get_or-take r (row_at rows i) j [] j_less

        take_row : (v : List (List ℕ)) → IsRow k.ops (r + c) v → IsRow k.ops r (take r v)
        take_row v row = record {
          size = length-take-le r v (omega (arith, row.size));
          over = λ j d less.
              let size : length (take r v) ≡ r = length-take-le r v (omega (arith, row.size)) in
              subst (IsOver k.ops) (sym (get_or-take r v j d (omega (arith, less, size))))
              (row.over j d (omega (arith, less, size, row.size)));
        }

        basis_row : (i : ℕ) → i < r → IsRow k.ops r (row_at basis i)
        basis_row i less = subst (IsRow k.ops r) (sym (basis_at i less)) (take_row (row_at rows i) (row_rows i less))

        pub basis_in : All (IsRow k.ops r) basis
        basis_in i d less = subst (IsRow k.ops r) (any_default basis i [] d less)
            (basis_row i (omega (arith, less, basis_length)))

        entry_past : (i j : ℕ) → i < r → r ≤ j → entry_at (row_at basis i) j ≡ []
        entry_past i j less past = past_row (row_at basis i) j (omega (arith, past, (basis_row i less).size))

        entry_short : (i j : ℕ) → i < r → length (entry_at (row_at basis i) j) ≤ length (entry_at (row_at rows i) j)
        entry_short i j less = go (cases_lt j r)
          where
            go : (j < r) ⊎ (r ≤ j) → length (entry_at (row_at basis i) j) ≤ length (entry_at (row_at rows i) j)
            go (inl in_r) = omega (arith, ap length (entry_basis i j less in_r))
            go (inr past) = omega (arith, ap length (entry_past i j less past))

        basis_pivot : (i : ℕ) → i < r → IsPivot (row_at basis i) i
        basis_pivot i less =
            let p = popov.pivot_at i (omega (arith, less)) in
            let same = ap length (entry_basis i i less less) in
            record {
              some = omega (arith, p.some, same);
              greatest = λ j. omega (arith, p.greatest j, same, entry_short i j less);
              rightmost = λ j after. omega (arith, p.rightmost j after, same, entry_short i j less);
            }

        basis_trimmed : (i j : ℕ) → (i < r) ⊎ (r ≤ i) → (j < r) ⊎ (r ≤ j) → IsPoly (entry_at (row_at basis i) j)
        basis_trimmed i j (inl less) (inl j_less) = subst IsPoly (sym (entry_basis i j less j_less)) (popov.trimmed i j)
        basis_trimmed i j (inl less) (inr past) = subst IsPoly (sym (entry_past i j less past))
            (record { trimmed = tt })
        basis_trimmed i j (inr past) side = subst (λ row. IsPoly (entry_at row j))
            (sym (rows_past basis i (omega (arith, past, basis_length)))) (record { trimmed = tt })

        pub basis_is : IsPopovMatrix r basis
        basis_is = record {
          size = basis_length;
          pivot_at = basis_pivot;
          monic = λ i less. subst IsMonicList (sym (entry_basis i i less less)) (popov.monic i (omega (arith, less)));
          smaller = λ i j i_less j_less differ.
              omega (
                arith,
                ap length (entry_basis i j i_less j_less),
                ap length (entry_basis j j j_less j_less),
                popov.smaller i j (omega (arith, i_less)) (omega (arith, j_less)) differ,
              );
          trimmed = λ i j. basis_trimmed i j (cases_lt i r) (cases_lt j r);
        }

        -- they are the rows of the kernel
        abbrev kernel : List (Row (Polynomial k) (suc (r - 1)))
        kernel = kernel_rows M N (code_field k) φ linear ls' t cancel Ps p_popov left right right_zero

        same_kernel : (i : ℕ) → theory.row_at M (read_rows k r basis) i ≡ theory.row_at M kernel i
        same_kernel i = go (cases_lt i r)
          where
            go : (i < r) ⊎ (r ≤ i) → theory.row_at M (read_rows k r basis) i ≡ theory.row_at M kernel i
            go (inl less) =
                read_row_at k r basis i ∙ ap (read_row k (suc (r - 1))) (basis_at i less)
                ∙ sym (kernel_at M N (code_field k) φ linear ls' t cancel Ps p_popov left right right_zero i
                (omega (arith, less, space_width k r, r_is)) ∙ ap (λ q. q.0) (p_at i))
            go (inr past) =
                row_past M (read_rows k r basis) i
                (omega (arith, past, basis_length, length-map basis (read_row k (suc (r - 1)))))
                ∙ sym (row_past M kernel i
                (omega (
                  arith,
                  past,
                  kernel_length M N (code_field k) φ linear ls' t cancel Ps p_popov left right
                      right_zero,
                  space_width k r,
                  r_is,
                )))

        to_kernel : (v : Row (Polynomial k) (suc (r - 1))) → theory.InSpan M (read_rows k r basis) v
            → theory.InSpan M kernel v
        to_kernel = (within_rows M (read_rows k r basis) kernel
            (λ i. subst (theory.InSpan M kernel) (sym (same_kernel i)) (span_row M kernel i))).within

        from_kernel : (v : Row (Polynomial k) (suc (r - 1))) → theory.InSpan M kernel v
            → theory.InSpan M (read_rows k r basis) v
        from_kernel = (within_rows M kernel (read_rows k r basis)
            (λ i. subst (theory.InSpan M (read_rows k r basis)) (same_kernel i)
            (span_row M (read_rows k r basis) i))).within

        -- the left parts of the first rows are the Popov basis of the rows that m takes into the lattice
        pub preimage_is : IsPreimage k.ops r c m ls basis
        preimage_is = record {
          rows_in = basis_in;
          popov = basis_is;
          members = λ z z_row z_poly.
              let size = z_row.size ∙ sym m_size in (
                λ z_in.
                    from_space k c ls ls_in (combination_list k.ops c z m) (combination_row k c z m z_row.over m_in)
                    (combination_poly k c z m size z_row.over)
                    (subst (theory.InSpan N ls') (φ_read z z_row)
                    (kernel_in M N (code_field k) φ linear ls' t cancel Ps p_popov left right right_zero
                    (read_row k (suc (r - 1)) z)
                    (to_kernel (read_row k (suc (r - 1)) z) (to_space k r basis basis_in z z_in)))),
                λ zm_in.
                    from_space k r basis basis_in z z_row z_poly
                    (from_kernel (read_row k (suc (r - 1)) z)
                    (kernel_all M N (code_field k) φ linear ls' t cancel Ps p_popov left right right_zero
                    (read_row k (suc (r - 1)) z)
                    (subst (theory.InSpan N ls') (sym (φ_read z z_row))
                    (to_space k c ls ls_in (combination_list k.ops c z m) zm_in)))),
              );
        }
