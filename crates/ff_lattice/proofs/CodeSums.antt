-- Sums of what codes stand for: maps, sums and multiples of them; the rows that the code makes of them.
use Rattle.std.proofs.Common.{◌≡◌, ℕ, zero, suc, ◌+◌, ◌-◌, ◌*◌, ◌/◌, ◌%◌, ◌<◌, ◌≤◌, ◌⊎◌, inl, inr, true, false, List, [], ◌∷◌, length, get_or, drop, refl, sym, ap, ap₂, ◌∙◌, subst, arith}
use Rattle.std.proofs.lemmas.Bool.{cases_lt, le-ltb}
use Rattle.std.proofs.lemmas.Nat.{div-add-mod', mod_below, row_fits}
use Rattle.ring_lemmas.specs.Ring.{CommRing, TestedRing}
use Rattle.ring_lemmas.specs.Lists.{add_lists, scale_list, coeff_of}
use Rattle.ring_lemmas.specs.Rows.{Row}
use Rattle.ring_lemmas.proofs.Ring.{mul_zero, neg_unique}
use Rattle.ring_lemmas.specs.Polynomials.{Pol}
use Rattle.ring_theory.specs.PolynomialRing.{pol_ring}
use Rattle.ring_lemmas.proofs.Polynomials.{same_pol}
use Rattle.ff_fields.specs.Field.{CodeField}
use Rattle.ff_fields.specs.Code.{Code, code_ring, raw_ring, zero_in}
use Rattle.ff_fields.specs.Numbers.{read, numbers_read}
use Rattle.ff_fields.specs.Over.{IsOver, IsOver_head, IsOver_tail, IsOver_drop}
use Rattle.ff_poly.specs.Words.{poly_of}
use Rattle.ff_poly.specs.Value.{value, value_sum, series_value}
use Rattle.ff_poly.specs.Polynomials.{series_read, constant_poly}
use Rattle.ff_poly.specs.Terms.{term, IsOver_term}
use Rattle.ff_poly.specs.Popov.{row_at, IsRow}
use Rattle.ff_poly.proofs.Parts.{value_multiple}
use Rattle.popov_theory.specs.Module.{PolynomialModule}
use Rattle.popov_theory.proofs.Module.{v_add_zero, v_add_assoc, v_neg_neg, neg_scale}
use Rattle.ff_popov.specs.Reading.{read_row, row_space}
use Rattle.ff_popov.proofs.ReadRows.{space_less}
use Rattle.ff_popov.proofs.Transformations.{less_row}
use Rattle.ff_lattice.specs.PositionLists.{pivot_length, row_less, is_outside, is_kept, lift_power, code_count, sum_of_codes, spread_onto}
use Rattle.ff_lattice.proofs.PositionCodes.{cond_true, cond_false, true_or_false, row_less_is}
use Rattle.ff_lattice.proofs.PositionClasses.{sum_outside, sum_kept, sum_ideal, count_outside, count_kept, count_ideal, zero_term}

module _ (k : CodeField) where
  abbrev A : TestedRing (Code k)
  A = code_ring k

  abbrev P : TestedRing (Pol (code_ring k))
  P = pol_ring (code_ring k)

  value_poly_of : (ns : List ℕ) → IsOver k.ops ns → value k (poly_of ns) ≡ value k ns
  value_poly_of ns ns_in =
      same_pol A (value k (poly_of ns)) (value k ns) (λ n.
      ap (λ ms. coeff_of A.ops (value k (poly_of ms)).0 n) (sym (numbers_read k ns ns_in))
      ∙ series_value k (read k ns) n ∙ sym (series_read k ns n))

  terms_sum : (c d s : ℕ) → add_lists (raw_ring k.ops) (term c s) (term d s) ≡ term (k.add c d) s
  terms_sum c d zero = refl
  terms_sum c d (suc s) = ap₂ ◌∷◌ (k.laws.zero_add 0 (zero_in k)) (terms_sum c d s)

  terms_scale : (c d s : ℕ) → c < k.size → scale_list (raw_ring k.ops) c (term d s) ≡ term (k.mul c d) s
  terms_scale c d zero c_in = refl
  terms_scale c d (suc s) c_in = ap₂ ◌∷◌ (ap (λ x. x.0) (mul_zero A.ring (c, c_in))) (terms_scale c d s c_in)

  pub term_add : (c d s : ℕ) → c < k.size → d < k.size
      → value k (term (k.add c d) s) ≡ P.◌⊕◌ (value k (term c s)) (value k (term d s))
  term_add c d s c_in d_in =
      sym (value_poly_of (term (k.add c d) s) (IsOver_term k (k.add c d) s (k.laws.add_below c d c_in d_in)))
      ∙ ap (λ ns. value k (poly_of ns)) (sym (terms_sum c d s))
      ∙ value_sum k (term c s) (term d s) (IsOver_term k c s c_in) (IsOver_term k d s d_in)

  pub term_mul : (c d s : ℕ) → c < k.size → d < k.size
      → value k (term (k.mul c d) s) ≡ P.◌⊗◌ (constant_poly k c) (value k (term d s))
  term_mul c d s c_in d_in =
      sym (value_poly_of (term (k.mul c d) s) (IsOver_term k (k.mul c d) s (k.laws.mul_below c d c_in d_in)))
      ∙ ap (λ ns. value k (poly_of ns)) (sym (terms_scale c d s c_in))
      ∙ value_multiple k (term d s) c (IsOver_term k d s d_in) c_in

  pub term_neg : (c s : ℕ) → c < k.size → value k (term (k.neg c) s) ≡ P.⊖◌ (value k (term c s))
  term_neg c s c_in =
      let n_in = k.laws.neg_below c c_in in
      neg_unique P.ring (value k (term c s)) (value k (term (k.neg c) s))
      (sym (term_add c (k.neg c) s c_in n_in)
      ∙ ap (λ x. value k (term x s)) (k.laws.add_comm c (k.neg c) c_in n_in ∙ k.laws.neg_add c c_in)
      ∙ zero_term k s)

-- a map that keeps sums takes a sum of codes to one
module _ (n : ℕ) (positive : 0 < n) (W J : List (List (List ℕ))) where
  pub sum_map : {V U : Type 0} (add : V → V → V) (null : V) (t : ℕ → ℕ → ℕ → V) (add' : U → U → U) (null' : U)
      (t' : ℕ → ℕ → ℕ → U) (φ : V → U) → φ null ≡ null' → ((x y : V) → φ (add x y) ≡ add' (φ x) (φ y))
      → ((c s j : ℕ) → j < n → φ (t c s j) ≡ t' c s j) → (e : ℕ) (a : List ℕ)
      → φ (sum_of_codes n W J add null t e a) ≡ sum_of_codes n W J add' null' t' e a
  sum_map add null t add' null' t' φ null_is add_is t_is zero a = null_is
  sum_map add null t add' null' t' φ null_is add_is t_is (suc e) a =
      go (true_or_false (is_outside n W J e)) (true_or_false (is_kept n W J e))
      (sum_map add null t add' null' t' φ null_is add_is t_is e)
    where
      go : (is_outside n W J e ≡ true) ⊎ (is_outside n W J e ≡ false)
          → (is_kept n W J e ≡ true) ⊎ (is_kept n W J e ≡ false)
          → ((b : List ℕ) → φ (sum_of_codes n W J add null t e b) ≡ sum_of_codes n W J add' null' t' e b)
          → φ (sum_of_codes n W J add null t (suc e) a) ≡ sum_of_codes n W J add' null' t' (suc e) a
      go (inl o) q h = ap φ (sum_outside n W J add null t e a o) ∙ h a ∙ sym (sum_outside n W J add' null' t' e a o)
      go (inr o) (inl q) h =
          ap φ (sum_kept n W J add null t e a o q)
          ∙ add_is (t (get_or a 0 0) (lift_power n W J W e) (e % n)) (sum_of_codes n W J add null t e (drop 1 a))
          ∙ ap₂ add' (t_is (get_or a 0 0) (lift_power n W J W e) (e % n) (mod_below e n positive)) (h (drop 1 a))
          ∙ sym (sum_kept n W J add' null' t' e a o q)
      go (inr o) (inr q) h = ap φ (sum_ideal n W J add null t e a o q) ∙ h a
          ∙ sym (sum_ideal n W J add' null' t' e a o q)

  module _ (k : CodeField) {V : Type 0} (F : CommRing V) (t : ℕ → ℕ → ℕ → V) where
    abbrev G : ℕ → List ℕ → V
    G e a = sum_of_codes n W J F.◌⊕◌ F.𝟘 t e a

    four : (a b c d : V) → F.◌⊕◌ (F.◌⊕◌ a b) (F.◌⊕◌ c d) ≡ F.◌⊕◌ (F.◌⊕◌ a c) (F.◌⊕◌ b d)
    four a b c d =
        F.add_assoc a b (F.◌⊕◌ c d)
        ∙ ap (F.◌⊕◌ a) (sym (F.add_assoc b c d) ∙ ap (λ x. F.◌⊕◌ x d) (F.add_comm b c) ∙ F.add_assoc c b d)
        ∙ sym (F.add_assoc a c (F.◌⊕◌ b d))

    pub sum_adds : ((c d s j : ℕ) → c < k.size → d < k.size → t (k.add c d) s j ≡ F.◌⊕◌ (t c s j) (t d s j))
        → (e : ℕ) (a b : List ℕ) → length a ≡ code_count n W J e → length b ≡ code_count n W J e → IsOver k.ops a
        → IsOver k.ops b → G e (add_lists (raw_ring k.ops) a b) ≡ F.◌⊕◌ (G e a) (G e b)
    sum_adds t_adds zero a b a_size b_size a_in b_in = sym (F.add_zero F.𝟘)
    sum_adds t_adds (suc e) a b a_size b_size a_in b_in = go (true_or_false (is_outside n W J e))
        (true_or_false (is_kept n W J e)) (sum_adds t_adds e) a b a_size b_size a_in b_in
      where
        go : (is_outside n W J e ≡ true) ⊎ (is_outside n W J e ≡ false)
            → (is_kept n W J e ≡ true) ⊎ (is_kept n W J e ≡ false)
            → ((a b : List ℕ) → length a ≡ code_count n W J e → length b ≡ code_count n W J e → IsOver k.ops a
            → IsOver k.ops b → G e (add_lists (raw_ring k.ops) a b) ≡ F.◌⊕◌ (G e a) (G e b))
            → (a b : List ℕ) → length a ≡ code_count n W J (suc e) → length b ≡ code_count n W J (suc e)
            → IsOver k.ops a → IsOver k.ops b → G (suc e) (add_lists (raw_ring k.ops) a b)
            ≡ F.◌⊕◌ (G (suc e) a) (G (suc e) b)
        go (inl o) q rec a b a_size b_size a_in b_in =
            let m = count_outside n W J e o in
            sum_outside n W J F.◌⊕◌ F.𝟘 t e (add_lists (raw_ring k.ops) a b) o
            ∙ rec a b (a_size ∙ m) (b_size ∙ m) a_in b_in
            ∙ sym (ap₂ F.◌⊕◌ (sum_outside n W J F.◌⊕◌ F.𝟘 t e a o) (sum_outside n W J F.◌⊕◌ F.𝟘 t e b o))
        go (inr o) (inr q) rec a b a_size b_size a_in b_in =
            let m = count_ideal n W J e o q in
            sum_ideal n W J F.◌⊕◌ F.𝟘 t e (add_lists (raw_ring k.ops) a b) o q
            ∙ rec a b (a_size ∙ m) (b_size ∙ m) a_in b_in
            ∙ sym (ap₂ F.◌⊕◌ (sum_ideal n W J F.◌⊕◌ F.𝟘 t e a o q) (sum_ideal n W J F.◌⊕◌ F.𝟘 t e b o q))
        go (inr o) (inl q) rec [] b a_size b_size a_in b_in = absurd (omega (arith, a_size, count_kept n W J e o q))
        go (inr o) (inl q) rec (c ∷ a) [] a_size b_size a_in b_in = absurd
            (omega (arith, b_size, count_kept n W J e o q))
        go (inr o) (inl q) rec (c ∷ a) (d ∷ b) a_size b_size a_in b_in =
            let m = count_kept n W J e o q in
            let s = lift_power n W J W e in
            sum_kept n W J F.◌⊕◌ F.𝟘 t e (k.add c d ∷ add_lists (raw_ring k.ops) a b) o q
            ∙ ap₂ F.◌⊕◌ (t_adds c d s (e % n) (IsOver_head a_in) (IsOver_head b_in))
            (rec a b (omega (arith, a_size, m)) (omega (arith, b_size, m)) (IsOver_tail a_in) (IsOver_tail b_in))
            ∙ four (t c s (e % n)) (t d s (e % n)) (G e a) (G e b)
            ∙ sym (ap₂ F.◌⊕◌ (sum_kept n W J F.◌⊕◌ F.𝟘 t e (c ∷ a) o q) (sum_kept n W J F.◌⊕◌ F.𝟘 t e (d ∷ b) o q))

    pub sum_scales : (c : ℕ) (x : V) → ((d s j : ℕ) → d < k.size → t (k.mul c d) s j ≡ F.◌⊗◌ x (t d s j))
        → (e : ℕ) (a : List ℕ) → length a ≡ code_count n W J e → IsOver k.ops a
        → G e (scale_list (raw_ring k.ops) c a) ≡ F.◌⊗◌ x (G e a)
    sum_scales c x t_scales zero a size a_in = sym (mul_zero F x)
    sum_scales c x t_scales (suc e) a size a_in = go (true_or_false (is_outside n W J e))
        (true_or_false (is_kept n W J e)) (sum_scales c x t_scales e) a size a_in
      where
        go : (is_outside n W J e ≡ true) ⊎ (is_outside n W J e ≡ false)
            → (is_kept n W J e ≡ true) ⊎ (is_kept n W J e ≡ false)
            → ((a : List ℕ) → length a ≡ code_count n W J e → IsOver k.ops a
            → G e (scale_list (raw_ring k.ops) c a) ≡ F.◌⊗◌ x (G e a))
            → (a : List ℕ) → length a ≡ code_count n W J (suc e) → IsOver k.ops a
            → G (suc e) (scale_list (raw_ring k.ops) c a) ≡ F.◌⊗◌ x (G (suc e) a)
        go (inl o) q rec a size a_in =
            sum_outside n W J F.◌⊕◌ F.𝟘 t e (scale_list (raw_ring k.ops) c a) o
            ∙ rec a (size ∙ count_outside n W J e o) a_in ∙ ap (F.◌⊗◌ x) (sym (sum_outside n W J F.◌⊕◌ F.𝟘 t e a o))
        go (inr o) (inr q) rec a size a_in =
            sum_ideal n W J F.◌⊕◌ F.𝟘 t e (scale_list (raw_ring k.ops) c a) o q
            ∙ rec a (size ∙ count_ideal n W J e o q) a_in ∙ ap (F.◌⊗◌ x) (sym (sum_ideal n W J F.◌⊕◌ F.𝟘 t e a o q))
        go (inr o) (inl q) rec [] size a_in = absurd (omega (arith, size, count_kept n W J e o q))
        go (inr o) (inl q) rec (d ∷ a) size a_in =
            let s = lift_power n W J W e in
            sum_kept n W J F.◌⊕◌ F.𝟘 t e (k.mul c d ∷ scale_list (raw_ring k.ops) c a) o q
            ∙ ap₂ F.◌⊕◌ (t_scales d s (e % n) (IsOver_head a_in))
            (rec a (omega (arith, size, count_kept n W J e o q)) (IsOver_tail a_in))
            ∙ sym (F.mul_add x (t d s (e % n)) (G e a))
            ∙ ap (F.◌⊗◌ x) (sym (sum_kept n W J F.◌⊕◌ F.𝟘 t e (d ∷ a) o q))

  -- past the pivots of the ideal no position has a code
  module _ (depth : ℕ) (deep : (j : ℕ) → j < n → pivot_length J j ≤ depth) where
    not_kept : (e : ℕ) → depth * n ≤ e → is_kept n W J e ≡ false
    not_kept e le = le-ltb (suc (e / n)) (pivot_length J (e % n)) (go (cases_lt (e / n) depth))
      where
        go : (e / n < depth) ⊎ (depth ≤ e / n) → pivot_length J (e % n) ≤ suc (e / n)
        go (inl less) = absurd (omega (
          arith,
          row_fits (e / n) n depth n less (omega arith),
          div-add-mod' e n,
          mod_below
              e n positive,
          le,
        ))
        go (inr more) = omega (arith, more, deep (e % n) (mod_below e n positive))

    pub count_past : (m : ℕ) → code_count n W J (depth * n + m) ≡ code_count n W J (depth * n)
    count_past zero =
        let z : depth * n + 0 ≡ depth * n = omega arith in
        ap (code_count n W J) z
    count_past (suc m) =
        let z : depth * n + suc m ≡ suc (depth * n + m) = omega arith in
        ap (code_count n W J) z ∙ go (true_or_false (is_outside n W J (depth * n + m))) (count_past m)
      where
        go : (is_outside n W J (depth * n + m) ≡ true) ⊎ (is_outside n W J (depth * n + m) ≡ false)
            → code_count n W J (depth * n + m) ≡ code_count n W J (depth * n)
            → code_count n W J (suc (depth * n + m)) ≡ code_count n W J (depth * n)
        go (inl o) h = count_outside n W J (depth * n + m) o ∙ h
        go (inr o) h = count_ideal n W J (depth * n + m) o (not_kept (depth * n + m) (omega arith)) ∙ h

    pub sum_past : {V : Type 0} (add : V → V → V) (null : V) (t : ℕ → ℕ → ℕ → V) (m : ℕ) (a : List ℕ)
        → sum_of_codes n W J add null t (depth * n + m) a ≡ sum_of_codes n W J add null t (depth * n) a
    sum_past add null t zero a =
        let z : depth * n + 0 ≡ depth * n = omega arith in
        ap (λ e. sum_of_codes n W J add null t e a) z
    sum_past add null t (suc m) a =
        let z : depth * n + suc m ≡ suc (depth * n + m) = omega arith in
        ap (λ e. sum_of_codes n W J add null t e a) z
        ∙ go (true_or_false (is_outside n W J (depth * n + m))) (sum_past add null t m a)
      where
        go : (is_outside n W J (depth * n + m) ≡ true) ⊎ (is_outside n W J (depth * n + m) ≡ false)
            → sum_of_codes n W J add null t (depth * n + m) a ≡ sum_of_codes n W J add null t (depth * n) a
            → sum_of_codes n W J add null t (suc (depth * n + m)) a ≡ sum_of_codes n W J add null t (depth * n) a
        go (inl o) h = sum_outside n W J add null t (depth * n + m) a o ∙ h
        go (inr o) h = sum_ideal n W J add null t (depth * n + m) a o (not_kept (depth * n + m) (omega arith)) ∙ h

-- the row that the code makes
module _ (k : CodeField) (n : ℕ) (positive : 0 < n) (W J rows : List (List (List ℕ)))
    (rows_in : (j : ℕ) → j < n → IsRow k.ops n (row_at rows j)) where
  abbrev M : PolynomialModule (code_ring k) (Row (Pol (code_ring k)) (suc (n - 1)))
  M = row_space k n

  abbrev R : List (List ℕ) → Row (Pol (code_ring k)) (suc (n - 1))
  R v = read_row k (suc (n - 1)) v

  abbrev pub spread_code : ℕ → ℕ → ℕ → Row (Pol (code_ring k)) (suc (n - 1))
  spread_code c s j = M.◌·◌ (value k (term c s)) (R (row_at rows j))

  abbrev pub spread_sum : ℕ → List ℕ → Row (Pol (code_ring k)) (suc (n - 1))
  spread_sum e a = sum_of_codes n W J M.◌⊞◌ M.𝟎 spread_code e a

  first_below : (a : List ℕ) → IsOver k.ops a → get_or a 0 0 < k.size
  first_below [] a_in = zero_in k
  first_below (c ∷ a) a_in = IsOver_head a_in

  pub spread_is : (e : ℕ) (a : List ℕ) (row : List (List ℕ)) → IsOver k.ops a → IsRow k.ops n row
      → IsRow k.ops n (spread_onto n W J k.ops rows e a row)
      × (R (spread_onto n W J k.ops rows e a row) ≡ M.◌⊞◌ (R row) (spread_sum e a))
  spread_is zero a row a_in row_in = (row_in, sym (v_add_zero M (R row)))
  spread_is (suc e) a row a_in row_in = go (true_or_false (is_outside n W J e)) (true_or_false (is_kept n W J e))
      (spread_is e)
    where
      go : (is_outside n W J e ≡ true) ⊎ (is_outside n W J e ≡ false)
          → (is_kept n W J e ≡ true) ⊎ (is_kept n W J e ≡ false)
          → ((a : List ℕ) (row : List (List ℕ)) → IsOver k.ops a → IsRow k.ops n row
          → IsRow k.ops n (spread_onto n W J k.ops rows e a row)
          × (R (spread_onto n W J k.ops rows e a row) ≡ M.◌⊞◌ (R row) (spread_sum e a)))
          → IsRow k.ops n (spread_onto n W J k.ops rows (suc e) a row)
          × (R (spread_onto n W J k.ops rows (suc e) a row) ≡ M.◌⊞◌ (R row) (spread_sum (suc e) a))
      go (inl o) q rec =
          let h = rec a row a_in row_in in
          let is = cond_true (is_outside n W J e) _ _ o in (
            subst (IsRow k.ops n) (sym is) h.0,
            ap R is ∙ h.1 ∙ ap (M.◌⊞◌ (R row)) (sym (sum_outside n W J M.◌⊞◌ M.𝟎 spread_code e a o)),
          )
      go (inr o) (inr q) rec =
          let h = rec a row a_in row_in in
          let is = cond_false (is_outside n W J e) _ _ o ∙ cond_false (is_kept n W J e) _ _ q in (
            subst (IsRow k.ops n) (sym is) h.0,
            ap R is ∙ h.1 ∙ ap (M.◌⊞◌ (R row)) (sym (sum_ideal n W J M.◌⊞◌ M.𝟎 spread_code e a o q)),
          )
      go (inr o) (inl q) rec = (
        subst (IsRow k.ops n) (sym is) h.0,
        ap R is ∙ h.1
            ∙ ap (λ x. M.◌⊞◌ x (spread_sum e (drop 1 a))) less_is
            ∙ v_add_assoc M (R row) (M.◌·◌ (value k (term c s)) (R b)) (spread_sum e (drop 1 a))
            ∙ ap (M.◌⊞◌ (R row)) (sym (sum_kept n W J M.◌⊞◌ M.𝟎 spread_code e a o q)),
      )
        where
          c : ℕ
          c = get_or a 0 0

          s : ℕ
          s = lift_power n W J W e

          b : List (List ℕ)
          b = row_at rows (e % n)

          b_row : IsRow k.ops n (row_at rows (e % n))
          b_row = rows_in (e % n) (mod_below e n positive)

          c_in : get_or a 0 0 < k.size
          c_in = first_below a a_in

          made : List (List ℕ)
          made = row_less k.ops row (k.neg (get_or a 0 0)) (lift_power n W J W e) (row_at rows (e % n))

          made_row : IsRow k.ops n (row_less k.ops row (k.neg (get_or a 0 0)) (lift_power n W J W e)
              (row_at rows (e % n)))
          made_row = less_row k n row b made (k.neg c) s row_in b_row (k.laws.neg_below c c_in)
              (row_less_is k.ops row (k.neg c) s b)

          less_is : R (row_less k.ops row (k.neg (get_or a 0 0)) (lift_power n W J W e) (row_at rows (e % n)))
              ≡ M.◌⊞◌ (R row) (M.◌·◌ (value k (term (get_or a 0 0) (lift_power n W J W e))) (R (row_at rows (e % n))))
          less_is =
              space_less k n row b made (k.neg c) s (b_row.size ∙ sym row_in.size) row_in.over b_row.over
              (k.laws.neg_below c c_in) (row_less_is k.ops row (k.neg c) s b)
              ∙ ap (M.◌⊞◌ (R row))
              (ap (λ p. M.⊟◌ (M.◌·◌ p (R b))) (term_neg k c s c_in)
              ∙ ap M.⊟◌ (neg_scale M (value k (term c s)) (R b))
              ∙ v_neg_neg M (M.◌·◌ (value k (term c s)) (R b)))

          h : IsRow k.ops n (spread_onto n W J k.ops rows e (drop 1 a) made)
              × (R (spread_onto n W J k.ops rows e (drop 1 a) made) ≡ M.◌⊞◌ (R made) (spread_sum e (drop 1 a)))
          h = rec (drop 1 a) made (IsOver_drop 1 a_in) made_row

          is : spread_onto n W J k.ops rows (suc e) a row ≡ spread_onto n W J k.ops rows e (drop 1 a) made
          is = cond_false (is_outside n W J e) _ _ o ∙ cond_true (is_kept n W J e) _ _ q
