-- Determinants by expansion along the first column, as a recursion over lists of rows makes them.
use mathlib.Core.Path.{fun_ext}
use Rattle.std.proofs.Common.{◌≡◌, ℕ, zero, suc, ◌+◌, ◌-◌, ◌<◌, List, [], ◌∷◌, length, get_or, refl, sym, ap, ap₂, ◌∙◌, arith, add-one}
use Rattle.std.specs.List.{remove}
use Rattle.ring_lemmas.specs.Ring.{CommRing, pow}
use Rattle.ring_lemmas.specs.Sums.{sum_below}
use Rattle.ring_theory.specs.Determinant.{minor, determinant}
use Rattle.ring_lemmas.proofs.Sums.{below_cong}
use Rattle.ring_lemmas.proofs.Ring.{one_mul, neg_mul, neg_unique}
use Rattle.ff_fields.specs.Field.{CodeField}
use Rattle.ff_fields.specs.Over.{IsOver, IsOver_nil, IsOver_cons}
use Rattle.ff_poly.specs.Words.{IsPoly, poly_of, sum_of, product_of, multiple_of}
use Rattle.ff_poly.specs.Value.{value, value_sum}
use Rattle.ff_poly.specs.Polynomials.{Polynomial, polynomials, constant_poly, value_nil, value_one}
use Rattle.ff_poly.proofs.Parts.{IsPoly_sum_of, value_sum_with_product}
use Rattle.ff_algebra.specs.CurveTerms.{matrix_of}

-- ---- matrices with the same entries

minor_cong : {A : Type 0} (a b i r c : ℕ) (m w : ℕ → ℕ → A) → ((r c : ℕ) → r < a → c < b → m r c ≡ w r c) → suc r < a
    → suc c < b → minor i m r c ≡ minor i w r c
minor_cong a b zero r c m w same r_in c_in = same (suc r) (suc c) r_in c_in
minor_cong a b (suc i) zero c m w same r_in c_in = same zero (suc c) (omega arith) c_in
minor_cong zero b (suc i) (suc r) c m w same r_in c_in = absurd (omega arith)
minor_cong (suc a) b (suc i) (suc r) c m w same r_in c_in =
    minor_cong a b i r c (λ j. m (suc j)) (λ j. w (suc j)) (λ r c r_in c_in. same (suc r) c (omega arith) c_in)
    (omega arith) c_in

pub determinant_cong : {A : Type 0} (R : CommRing A) (n : ℕ) (m w : ℕ → ℕ → A)
    → ((r c : ℕ) → r < n → c < n → m r c ≡ w r c) → determinant R.ops n m ≡ determinant R.ops n w
determinant_cong R zero m w same = refl
determinant_cong R (suc n) m w same =
    below_cong R (suc n) _ _ (λ i less.
    ap₂ (λ e d. R.◌⊗◌ (pow R.ops (R.⊖◌ R.𝟙) i) (R.◌⊗◌ e d)) (same i zero less (omega arith))
    (determinant_cong R n (minor i m) (minor i w)
    (λ r c r_in c_in. minor_cong (suc n) (suc n) i r c m w same (omega arith) (omega arith))))

-- ---- a minor is the matrix of the other rows, from the next column on

minor_rows : {A : Type 0} (g : ℕ → ℕ → A) (i r c : ℕ) (rows : List ℕ) → i < length rows
    → minor i (λ r c. g (get_or rows r 0) c) r c ≡ g (get_or (remove rows i) r 0) (suc c)
minor_rows g i r c [] less = absurd (omega arith)
minor_rows g zero r c (x ∷ rows) less = refl
minor_rows g (suc i) zero c (x ∷ rows) less = refl
minor_rows g (suc i) (suc r) c (x ∷ rows) less = minor_rows g i r c rows (omega arith)

module _ (k : CodeField) (entries : List (List ℕ)) (rows : List ℕ) (column : ℕ) where
  minor_matrix : (i : ℕ) → i < length rows
      → minor i (matrix_of k entries rows column) ≡ matrix_of k entries (remove rows i) (column + 1)
  minor_matrix i less =
      fun_ext (λ r. fun_ext (λ c.
      minor_rows (λ x c. value k (get_or entries (x + column + c) [])) i r c rows less
      ∙ (let e : get_or (remove rows i) r 0 + column + suc c
      ≡ get_or (remove rows i) r 0 + (column + 1) + c = omega arith in
      ap (λ n. value k (get_or entries n [])) e)))

  abbrev P : CommRing (Polynomial k)
  P = (polynomials k).ring

  -- the term of row i, where there are m other rows
  abbrev pub term_of : ℕ → ℕ → Polynomial k
  term_of m i =
      (polynomials k).◌⊗◌ (pow (polynomials k).ops ((polynomials k).⊖◌ (polynomials k).𝟙) i)
      ((polynomials k).◌⊗◌ (matrix_of k entries rows column i zero)
      (determinant (polynomials k).ops m (minor i (matrix_of k entries rows column))))

  abbrev pub term : ℕ → Polynomial k
  term = term_of (length rows - 1)

  -- the sum and the sign before row i
  pub record IsExpanded (i sign : ℕ) (sum : List ℕ) : Type 0 where
    pub sum_in : IsOver k.ops sum
    pub sum_poly : IsPoly sum
    pub sign_in : sign < k.size
    pub sign_is : constant_poly k sign ≡ pow (polynomials k).ops ((polynomials k).⊖◌ (polynomials k).𝟙) i
    pub sum_is : value k sum ≡ sum_below (polynomials k).ops i term

  pub expanded_none : (sum : List ℕ) → sum ≡ [] → IsExpanded 0 1 sum
  expanded_none sum sum_none = rw sum_none (record {
    sum_in = IsOver_nil;
    sum_poly = record { trimmed = tt };
    sign_in = k.laws.one_below;
    sign_is = value_one k;
    sum_is = value_nil k;
  })

  -- the constant of a negative
  constant_neg : (s : ℕ) → s < k.size → constant_poly k (k.neg s) ≡ (polynomials k).⊖◌ (constant_poly k s)
  constant_neg s s_in =
      neg_unique (polynomials k).ring (constant_poly k s) (constant_poly k (k.neg s))
      (sym (value_sum k (s ∷ []) (k.neg s ∷ []) (IsOver_cons s_in IsOver_nil)
      (IsOver_cons (k.laws.neg_below s s_in) IsOver_nil))
      ∙ ap (λ x. value k (poly_of (x ∷ [])))
      (k.laws.add_comm s (k.neg s) s_in (k.laws.neg_below s s_in) ∙ k.laws.neg_add s s_in)
      ∙ value_nil k)

  pub expanded_more : (i sign next : ℕ) (old new entry det others : List ℕ) (position : ℕ) → i < length rows
      → IsExpanded i sign old
      → others ≡ remove rows i → position ≡ get_or rows i 0 + column → IsOver k.ops entry → IsOver k.ops det
      → entry ≡ get_or entries position []
      → length others ≡ length rows - 1 → value k det
      ≡ determinant (polynomials k).ops (length others) (matrix_of k entries others (column + 1))
      → new ≡ sum_of k.ops old (multiple_of k.ops (product_of k.ops entry det) sign) → IsOver k.ops new
      → next ≡ k.neg sign → IsExpanded (i + 1) next new
  expanded_more i sign next old new entry det others position less h others_is position_is entry_in det_in entry_is size
      det_is new_is new_in next_is = record {
        sum_in = new_in;
        sum_poly = rw new_is (IsPoly_sum_of k.ops old (multiple_of k.ops (product_of k.ops entry det) sign));
        sign_in = rw next_is (k.laws.neg_below sign h.sign_in);
        sign_is =
            ap (constant_poly k) next_is ∙ constant_neg sign h.sign_in ∙ ap (polynomials k).⊖◌ h.sign_is
            ∙ sym (negative (pow P.ops (P.⊖◌ P.𝟙) i))
            ∙ ap (pow P.ops (P.⊖◌ P.𝟙)) (sym (add-one i));
        sum_is =
            ap (value k) new_is ∙ value_sum_with_product k old entry det sign h.sum_in h.sign_in entry_in det_in
            ∙ ap₂ P.◌⊕◌ h.sum_is (ap₂ P.◌⊗◌ h.sign_is
            (ap₂ P.◌⊗◌ (ap (value k) entry_is ∙ ap (λ n. value k (get_or entries n [])) same_position) minor_is))
            ∙ ap (λ n. sum_below P.ops n term) (sym (add-one i));
      }
    where
      negative : (a : Polynomial k) → P.◌⊗◌ (P.⊖◌ P.𝟙) a ≡ P.⊖◌ a
      negative a = neg_mul P P.𝟙 a ∙ ap P.⊖◌ (one_mul P a)

      same_position : position ≡ get_or rows i 0 + column + 0
      same_position = omega (arith, position_is)

      minor_is : value k det ≡ determinant P.ops (length rows - 1) (minor i (matrix_of k entries rows column))
      minor_is =
          det_is ∙ ap₂ (λ n m. determinant P.ops n m) size
          (ap (λ w. matrix_of k entries w (column + 1)) others_is ∙ sym (minor_matrix i less))

  pub expanded_all : (i sign : ℕ) (sum : List ℕ) → 0 < length rows → i ≡ length rows → IsExpanded i sign sum
      → value k sum ≡ determinant (polynomials k).ops (length rows) (matrix_of k entries rows column)
  expanded_all i sign sum some all h =
      h.sum_is ∙ ap (λ n. sum_below (polynomials k).ops n term) all ∙ go (length rows) some
    where
      go : (n : ℕ) → 0 < n → sum_below (polynomials k).ops n (term_of (n - 1))
          ≡ determinant (polynomials k).ops n (matrix_of k entries rows column)
      go zero less = absurd (omega arith)
      go (suc n) less = let e : suc n - 1
          ≡ n = omega arith in ap (λ m. sum_below (polynomials k).ops (suc n) (term_of m)) e

  pub expanded_empty : (p : List ℕ) → length rows ≡ 0 → p ≡ 1 ∷ []
      → value k p ≡ determinant (polynomials k).ops (length rows) (matrix_of k entries rows column)
  expanded_empty p none p_is = ap (value k) p_is ∙ value_one k
      ∙ ap (λ n. determinant (polynomials k).ops n (matrix_of k entries rows column)) (sym none)
