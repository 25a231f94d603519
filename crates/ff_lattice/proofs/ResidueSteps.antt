-- The rows of residues as they are written, one after another.
use Rattle.std.proofs.Common.{◌≡◌, ◌≢◌, ℕ, zero, suc, ◌+◌, ◌-◌, ◌<◌, ◌≤◌, List, [], ◌∷◌, ◌++◌, length, get_or, take, drop, set, replicate, All, refl, sym, ap, ap₂, ◌∙◌, subst, arith, add-one, length-append}
use native.Mathlib.Decide.{ℕ_discrete}
use Rattle.std.proofs.lemmas.List.{take_all, drop-replicate, get_or-replicate, get_or-set_same, get_or-set_other, set-get_or, length-set, length-replicate}
use Rattle.std.proofs.lemmas.List.Elements.{All-set, All-replicate}
use Rattle.ring_lemmas.proofs.Ring.{one_mul}
use Rattle.ring_lemmas.specs.Lists.{neg_list}
use Rattle.ring_lemmas.proofs.Lists.{trim_trimmed, IsTrimmed_push}
use Rattle.ring_lemmas.proofs.Solver.{ring, reads, from_one, from_two}
use Rattle.ring_lemmas.proofs.Polynomials.{same_pol}
use Rattle.ff_fields.specs.Field.{FieldOps, CodeField}
use Rattle.ff_fields.specs.Code.{raw_ring, is_zero_code, code_ring}
use Rattle.ff_fields.specs.Numbers.{read, numbers_read}
use Rattle.ff_fields.specs.Over.{IsOver, IsOver_append, IsOver_zeros, IsOver_trim, get_or_below}
use Rattle.ff_poly.specs.Words.{IsPoly, poly_of, top_of, sum_of, product_of, shifted}
use Rattle.ff_poly.specs.PolyOver.{IsOver_product_of, IsOver_sum_of, IsPoly_poly_of}
use Rattle.ff_poly.specs.Terms.{term, less_multiple, value_less_multiple, IsOver_less_multiple, IsPoly_less_multiple}
use Rattle.ff_poly.specs.Value.{value, value_sum, value_product, same_from_value, series_value}
use Rattle.ff_poly.specs.Polynomials.{Polynomial, polynomials, codes_of, IsOver_codes_of, IsPoly_codes_of, value_codes_of, x_poly, series_read}
use Rattle.ff_poly.proofs.Parts.{IsPoly_sum_of}
use Rattle.polynomial_theory.proofs.ListValues.{value_up, value_padded}
use Rattle.ff_popov.proofs.Lengths.{trim_length, less_multiple_shorter, quotient_top}
use Rattle.ff_linalg.specs.Matrix.{MatrixValue, HasShape, matrix_row, with_entry, zero_matrix}
use Rattle.ff_linalg.specs.MatrixOver.{zero_matrix_over}
use Rattle.ff_linalg.proofs.Solving.{neg_list_more}
use Rattle.ff_lattice.specs.Residues.{with_start, IsRestModulo, IsPaddedRest, HasResidues, AreResidues}
use Rattle.ff_lattice.proofs.Residues.{Congruent, ResidueRows, x_to}

-- ---- codes over the start of a row

set_set : {X : Type 0} (xs : List X) (i : ℕ) (y z : X) → set (set xs i y) i z ≡ set xs i z
set_set [] i y z = refl
set_set (x ∷ xs) zero y z = refl
set_set (x ∷ xs) (suc i) y z = ap (λ w. x ∷ w) (set_set xs i y z)

written_more : (codes old : List ℕ) (j : ℕ) → j < length codes → length codes ≤ length old
    → set (take j codes ++ drop j old) j (get_or codes j 0) ≡ take (suc j) codes ++ drop (suc j) old
written_more [] old j less le = absurd (omega arith)
written_more (c ∷ codes) [] j less le = absurd (omega arith)
written_more (c ∷ codes) (o ∷ old) zero less le = refl
written_more (c ∷ codes) (o ∷ old) (suc j) less le = ap (λ w. c ∷ w)
    (written_more codes old j (omega arith) (omega arith))

-- the first j of the codes are written
abbrev pub written : List ℕ → MatrixValue → ℕ → ℕ → MatrixValue
written codes m i j = record { cols = m.cols; rows = set m.rows i (take j codes ++ drop j (matrix_row m i)) }

pub written_start : (codes : List ℕ) (m : MatrixValue) (i : ℕ) → m ≡ written codes m i 0
written_start codes m i = ap (λ rows. record { cols = m.cols; rows = rows }) (sym (set-get_or m.rows i []))

pub written_step : (codes : List ℕ) (m now : MatrixValue) (i j x : ℕ) → i < length m.rows → length codes ≤ m.cols
    → HasShape m (length m.rows) m.cols
    → j < length codes → x ≡ get_or codes j 0 → now ≡ written codes m i j
    → with_entry now i j x ≡ written codes m i (j + 1)
written_step codes m now i j x within fits shape less x_is now_is =
    rw (now_is, x_is, add-one)
    (ap (λ rows. record { cols = m.cols; rows = rows })
    (ap (λ row. set (set m.rows i (take j codes ++ drop j (get_or m.rows i []))) i (set row j (get_or codes j 0)))
    (get_or-set_same m.rows i (take j codes ++ drop j (get_or m.rows i [])) [] within)
    ∙ set_set m.rows i _ _
    ∙ ap (set m.rows i)
    (written_more codes (get_or m.rows i []) j less
    (let e : length (get_or m.rows i []) ≡ m.cols = shape.each i [] within in omega arith))))

pub written_end : (codes : List ℕ) (m now : MatrixValue) (i j : ℕ) → length codes ≤ j → j ≤ length codes
    → now ≡ written codes m i j → now ≡ with_start m i codes
written_end codes m now i j le le' now_is =
    let same : j ≡ length codes = omega arith in
    now_is ∙ ap (written codes m i) same
    ∙ ap (λ row. record { cols = m.cols; rows = set m.rows i (row ++ drop (length codes) (matrix_row m i)) })
    (take_all (length codes) codes (omega arith))

pub own_shape : (m : MatrixValue) (rows cols : ℕ) → HasShape m rows cols → HasShape m (length m.rows) m.cols
own_shape m rows cols s = record {
  row_count = refl;
  col_count = refl;
  each = subst (λ n. All (λ r. length r ≡ n) m.rows) (sym s.col_count) s.each;
}

module _ (k : CodeField) where
  infixl 65 ◌⊕◌
  infixl 70 ◌⊗◌
  infixr 80 ⊖◌
  open polynomials k use {𝟘, 𝟙, ◌⊕◌, ◌⊗◌, ⊖◌}

  -- ---- what is left modulo e

  value_shifted : (a : List ℕ) (j : ℕ) → IsOver k.ops a → value k (shifted a j) ≡ x_to k j ⊗ value k a
  value_shifted a j a_in = trimmed (replicate j 0 ++ a) (IsOver_append (IsOver_zeros k j) a_in) ∙ go j
    where
      trimmed : (a : List ℕ) → IsOver k.ops a → value k (poly_of a) ≡ value k a
      trimmed a a_in =
          ap (λ ns. value k (poly_of ns)) (sym (numbers_read k a a_in))
          ∙ same_pol (code_ring k) _ _ (λ n. series_value k (read k a) n ∙ sym (series_read k a n))

      go : (j : ℕ) → value k (replicate j 0 ++ a) ≡ x_to k j ⊗ value k a
      go zero = sym (one_mul (polynomials k).ring (value k a))
      go (suc j) =
          value_up k (replicate j 0 ++ a) ∙ ap (λ y. x_poly k ⊗ y) (go j)
          ∙ sym ((polynomials k).mul_assoc (x_poly k) (x_to k j) (value k a))

  pub IsOver_shifted : (a : List ℕ) (j : ℕ) → IsOver k.ops a → IsOver k.ops (shifted a j)
  IsOver_shifted a j a_in = IsOver_trim (replicate j 0 ++ a) (IsOver_append (IsOver_zeros k j) a_in)

  pub rest_congruent : (e a rest : List ℕ) → IsOver k.ops e → IsRestModulo k.ops e a rest
      → Congruent k (value k e) (value k a) (value k rest)
  rest_congruent e a rest e_in h =
      let d = h.division in record {
        quotient = value k h.quotient;
        is =
            ap (value k) d.whole ∙ value_sum k (product_of k.ops e h.quotient) rest
            (IsOver_product_of k e_in d.quotient_in) d.rest_in
            ∙ ap (λ y. y ⊕ value k rest) (value_product k e h.quotient e_in d.quotient_in);
      }

  congruent_rest : (e a rest : List ℕ) → IsOver k.ops e → IsOver k.ops a → IsPoly a → IsOver k.ops rest → IsPoly rest
      → length rest < length e
      → Congruent k (value k e) (value k a) (value k rest) → IsRestModulo k.ops e a rest
  congruent_rest e a rest e_in a_in a_poly rest_in rest_poly shorter c = record {
    quotient = q;
    division = record {
      whole =
          same_from_value k a (sum_of k.ops (product_of k.ops e q) rest) a_in
          (IsOver_sum_of k (IsOver_product_of k e_in q_in) rest_in) a_poly
          (IsPoly_sum_of k.ops (product_of k.ops e q) rest)
          (c.is
          ∙ sym (value_sum k (product_of k.ops e q) rest (IsOver_product_of k e_in q_in) rest_in
          ∙ ap (λ y. y ⊕ value k rest) (value_product k e q e_in q_in
          ∙ ap (λ y. value k e ⊗ y) (value_codes_of k c.quotient))));
      shorter = shorter;
      quotient_in = q_in;
      rest_in = rest_in;
      quotient_poly = IsPoly_codes_of k c.quotient;
      rest_poly = rest_poly;
    };
  }
    where
      q : List ℕ
      q = codes_of k c.quotient

      q_in : IsOver k.ops q
      q_in = IsOver_codes_of k c.quotient

  -- v itself, where it is short
  pub rest_start : (e v : List ℕ) → IsOver k.ops e → IsOver k.ops v → IsPoly v → length v < length e
      → IsRestModulo k.ops e (shifted v 0) v
  rest_start e v e_in v_in v_poly short =
      congruent_rest e (shifted v 0) v e_in (IsOver_shifted v 0 v_in) (IsPoly_poly_of v) v_in v_poly short
      (record { quotient = 𝟘; is = value_shifted v 0 v_in ∙ step (value k e) (value k v) })
    where
      step : (e v : Polynomial k) → 𝟙 ⊗ v ≡ e ⊗ 𝟘 ⊕ v
      step e v = ring (polynomials k).ring (e ∷ v ∷ []) λ q y. simp (reads, q, y 0, y 1) (q.equal _ _ refl)

  -- from one power of x to the next
  pub rest_step : (e v rest next : List ℕ) (j : ℕ) → IsOver k.ops e → IsOver k.ops v → IsRestModulo k.ops e (shifted v j) rest
      → IsRestModulo k.ops e (shifted rest 1) next
      → IsRestModulo k.ops e (shifted v (j + 1)) next
  rest_step e v rest next j e_in v_in h n =
      congruent_rest e (shifted v (j + 1)) next e_in (IsOver_shifted v (j + 1) v_in)
      (IsPoly_poly_of (replicate (j + 1) 0 ++ v)) n.division.rest_in n.division.rest_poly n.division.shorter
      (record {
        quotient = x_poly k ⊗ c.quotient ⊕ d.quotient;
        is =
            value_shifted v (j + 1) v_in ∙ ap (λ i. x_to k i ⊗ value k v) (add-one j)
            ∙ step (x_poly k) (x_to k j) (value k v) (value k e) (value k rest) (value k next) c.quotient d.quotient
            (sym (value_shifted v j v_in) ∙ c.is)
            (sym (value_shifted rest 1 h.division.rest_in) ∙ d.is);
      })
    where
      c : Congruent k (value k e) (value k (shifted v j)) (value k rest)
      c = rest_congruent e (shifted v j) rest e_in h

      d : Congruent k (value k e) (value k (shifted rest 1)) (value k next)
      d = rest_congruent e (shifted rest 1) next e_in n

      step : (x p v e r n s t : Polynomial k) → p ⊗ v ≡ e ⊗ s ⊕ r → x ⊗ 𝟙 ⊗ r ≡ e ⊗ t ⊕ n
          → x ⊗ p ⊗ v ≡ e ⊗ (x ⊗ s ⊕ t) ⊕ n
      step x p v e r n s t f g =
          from_two (polynomials k).ring x 𝟙 f g
          (ring (polynomials k).ring (x ∷ p ∷ v ∷ e ∷ r ∷ n ∷ s ∷ t ∷ []) λ q y. simp
          (reads, q, y 0, y 1, y 2, y 3, y 4, y 5, y 6, y 7) (q.equal _ _ refl))

  shifted_length : (v : List ℕ) → length (shifted v 1) ≤ length v + 1
  shifted_length v = omega (arith, trim_length is_zero_code (0 ∷ v))

  -- x·v itself, where it is short
  pub rest_short : (e v p : List ℕ) → IsOver k.ops e → IsOver k.ops v → p ≡ shifted v 1 → length p < length e
      → IsRestModulo k.ops e (shifted v 1) p
  rest_short e v p e_in v_in p_is short =
      subst (IsRestModulo k.ops e (shifted v 1)) (sym p_is)
      (congruent_rest e (shifted v 1) (shifted v 1) e_in (IsOver_shifted v 1 v_in) (IsPoly_poly_of (0 ∷ v))
      (IsOver_shifted v 1 v_in) (IsPoly_poly_of (0 ∷ v))
      (omega (arith, ap length p_is)) (record { quotient = 𝟘; is = step (value k e) (value k (shifted v 1)) }))
    where
      step : (e v : Polynomial k) → v ≡ e ⊗ 𝟘 ⊕ v
      step e v = ring (polynomials k).ring (e ∷ v ∷ []) λ q y. simp (reads, q, y 0, y 1) (q.equal _ _ refl)

  -- x·v less the multiple of e that takes its top away
  pub rest_less : (e v p next : List ℕ) (c : ℕ) → IsOver k.ops e → IsPoly e → IsOver k.ops v → length v < length e
      → p ≡ shifted v 1 → length e ≤ length p
      → (c < k.size) × (k.mul c (get_or e (length e - 1) 0) ≡ get_or p (length p - 1) 0)
      → next ≡ less_multiple k.ops p c 0 e → IsRestModulo k.ops e (shifted v 1) next
  rest_less e v p next c e_in e_poly v_in short p_is long clears next_is =
      subst (λ a. IsRestModulo k.ops e a next) p_is
      (congruent_rest e p next e_in p_in (subst IsPoly (sym p_is) (IsPoly_poly_of (0 ∷ v)))
      (subst (IsOver k.ops) (sym next_is) (IsOver_less_multiple k p c 0 e p_in clears.0 e_in))
      (subst IsPoly (sym next_is) (IsPoly_less_multiple k.ops p c 0 e))
      (omega (
        arith,
        ap length next_is,
        size,
        less_multiple_shorter k p c 0 e p_in clears.0 e_in (length e - 1) (omega (arith, size, short))
            (omega (arith, short)) (omega (arith, short))
            (clears.1 ∙ ap (λ n. get_or p (n - 1) 0) size),
      ))
      (record {
        quotient = value k (term c 0);
        is =
            step (value k p) (value k (term c 0)) (value k e) (value k next)
            (ap (value k) next_is ∙ value_less_multiple k p c 0 e p_in clears.0 e_in);
      }))
    where
      p_in : IsOver k.ops p
      p_in = subst (IsOver k.ops) (sym p_is) (IsOver_shifted v 1 v_in)

      size : length p ≡ length e
      size = omega (arith, ap length p_is, shifted_length v, short, long)

      step : (p t e n : Polynomial k) → n ≡ p ⊕ ⊖ (t ⊗ e) → p ≡ e ⊗ t ⊕ n
      step p t e n f =
          from_one (polynomials k).ring (⊖ 𝟙) f
          (ring (polynomials k).ring (p ∷ t ∷ e ∷ n ∷ []) λ q y. simp (reads, q, y 0, y 1, y 2, y 3)
          (q.equal _ _ refl))

  -- the code that clears the top
  pub top_in : (p : List ℕ) (top : ℕ) → IsOver k.ops p → top ≡ top_of p → top < k.size
  top_in p top p_in top_is = subst (λ n. n < k.size) (sym top_is) (get_or_below k p (length p - 1) p_in)

  pub clearing : (e p : List ℕ) (top lead inverse c : ℕ) → IsOver k.ops e → IsOver k.ops p → top ≡ top_of p
      → lead ≡ top_of e → lead ≢ 0 → inverse ≡ k.inv lead
      → c ≡ k.mul top inverse → (c < k.size) × (k.mul c (get_or e (length e - 1) 0) ≡ get_or p (length p - 1) 0)
  clearing e p top lead inverse c e_in p_in top_is lead_is some inverse_is c_is =
      let q = quotient_top k top lead inverse c (top_in p top p_in top_is) (top_in e lead e_in lead_is) some inverse_is
      c_is in
      (q.0, ap (k.mul c) (sym lead_is) ∙ q.1 ∙ top_is)

  -- ---- the rows

  pub residues_start : (e v : List ℕ) (m : MatrixValue) → m ≡ zero_matrix (length e) (length e - 1)
      → HasResidues k.ops e v 0 m
  residues_start e v m is = subst (HasResidues k.ops e v 0) (sym is) (record {
    shape = record {
      row_count = length-replicate {A = List ℕ} (length e) (replicate (length e - 1) 0);
      col_count = refl;
      each = All-replicate (λ r. length r ≡ length e - 1) (length e) (replicate (length e - 1) 0)
          (length-replicate {A = ℕ} (length e - 1) 0);
    };
    over = zero_matrix_over k (length e) (length e - 1);
    residues = λ j less. absurd (omega arith);
    zeros = λ j le less. get_or-replicate (length e) j (replicate (length e - 1) 0) [] less;
  })

  pub residues_step : (e v rest codes : List ℕ) (i : ℕ) (m new : MatrixValue) → i < length e
      → IsRestModulo k.ops e (shifted v i) rest → codes ≡ rest → new ≡ with_start m i codes
      → HasResidues k.ops e v i m → HasResidues k.ops e v (i + 1) new
  residues_step e v rest codes i m new within is_rest codes_is new_is before = subst (HasResidues k.ops e v (i + 1))
      (sym (new_is ∙ ap (with_start m i) codes_is)) (record {
        shape = record {
          row_count = length-set m.rows i row ∙ before.shape.row_count;
          col_count = before.shape.col_count;
          each = All-set (λ r. length r ≡ length e - 1) m.rows i row row_size before.shape.each;
        };
        over = record { each = All-set (IsOver k.ops) m.rows i row row_in before.over.each };
        residues = λ j less. go j less (ℕ_discrete j i);
        zeros = λ j le less. get_or-set_other m.rows i j row [] (let l : i + 1 ≤ j = le in λ e. absurd (omega arith))
            ∙ before.zeros j (omega arith) less;
      })
    where
      row : List ℕ
      row = rest ++ drop (length rest) (matrix_row m i)

      row_is : row ≡ rest ++ replicate (length e - 1 - length rest) 0
      row_is =
          ap (λ z. rest ++ drop (length rest) z) (before.zeros i (omega arith) within)
          ∙ ap (λ z. rest ++ z) (drop-replicate (length rest) (length e - 1) 0)

      row_size : length row ≡ length e - 1
      row_size =
          ap length row_is ∙ length-append rest (replicate (length e - 1 - length rest) 0)
          ∙ ap (λ n. length rest + n) (length-replicate {A = ℕ} (length e - 1 - length rest) 0)
          ∙ let s = is_rest.division.shorter in let t : length rest + (length e - 1 - length rest)
          ≡ length e - 1 = omega arith in t

      row_in : IsOver k.ops row
      row_in = subst (IsOver k.ops) (sym row_is)
          (IsOver_append is_rest.division.rest_in (IsOver_zeros k (length e - 1 - length rest)))

      go : (j : ℕ) → j < i + 1 → Dec (j ≡ i) → IsPaddedRest k.ops e (shifted v j) (get_or (set m.rows i row) j [])
      go j less (yes s) =
          subst (λ n. IsPaddedRest k.ops e (shifted v n) (get_or (set m.rows i row) n [])) (sym s)
          (record {
            rest = rest;
            is_rest = is_rest;
            is = get_or-set_same m.rows i row [] (let c = before.shape.row_count in omega arith) ∙ row_is;
          })
      go j less (no ne) = subst (IsPaddedRest k.ops e (shifted v j)) (sym (get_or-set_other m.rows i j row [] ne))
          (before.residues j (omega arith))

  pub residues_end : (e v : List ℕ) (i : ℕ) (m : MatrixValue) → length e ≤ i → i ≤ length e → HasResidues k.ops e v i m
      → AreResidues k.ops e v m
  residues_end e v i m le le' h = let same : i
      ≡ length e = omega arith in record
      { all = subst (λ n. HasResidues k.ops e v n m) same h }

  pub residue_rows : (e v : List ℕ) (m : MatrixValue) → IsOver k.ops e → IsOver k.ops v → 0 < length e
      → AreResidues k.ops e v m → ResidueRows k e (value k v) m
  residue_rows e v m e_in v_in some h =
      let s = h.all.shape in record {
        over = h.all.over;
        each = subst (λ n. All (λ r. length r ≡ n) m.rows) (sym s.col_count) s.each;
        short = let c = s.col_count in omega arith;
        congruent = λ j less.
            let r = h.all.residues j (let c = s.row_count in omega arith) in
            subst (λ a. Congruent k (value k e) a (value k (matrix_row m j))) (value_shifted v j v_in)
            (subst (Congruent k (value k e) (value k (shifted v j)))
            (sym (ap (value k) r.is ∙ value_padded k r.rest (length e - 1 - length r.rest)))
            (rest_congruent e (shifted v j) r.rest e_in r.is_rest));
      }

-- ---- the polynomial of a relation, as it is written

pub negatives_more : (k : FieldOps) (codes old new : List ℕ) (i x : ℕ) → i < length codes
    → old ≡ neg_list (raw_ring k) (take i codes) → x ≡ k.neg (get_or codes i 0) → new ≡ old ++ x ∷ []
    → new ≡ neg_list (raw_ring k) (take (i + 1) codes)
negatives_more k codes old new i x less so_far x_is new_is =
    new_is ∙ ap₂ (λ xs x. xs ++ x ∷ []) so_far x_is
    ∙ sym (ap (λ n. neg_list (raw_ring k) (take n codes)) (add-one i) ∙ neg_list_more k codes i less)

pub monic_from : (k : FieldOps) (codes negatives pushed : List ℕ) → negatives ≡ neg_list (raw_ring k) codes
    → pushed ≡ negatives ++ 1 ∷ [] → poly_of pushed ≡ neg_list (raw_ring k) codes ++ 1 ∷ []
monic_from k codes negatives pushed negatives_is pushed_is =
    ap poly_of (pushed_is ∙ ap (λ w. w ++ 1 ∷ []) negatives_is)
    ∙ trim_trimmed is_zero_code (neg_list (raw_ring k) codes ++ 1 ∷ [])
    (IsTrimmed_push is_zero_code (neg_list (raw_ring k) codes) 1 refl)
