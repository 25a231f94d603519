-- Rows times a monic polynomial: they are in Popov form exactly where the rows are.
use Rattle.std.proofs.Common.{◌≡◌, ℕ, zero, suc, ◌+◌, ◌-◌, ◌<◌, ◌≤◌, ◌⊎◌, inl, inr, List, [], ◌∷◌, length, get_or, map, refl, sym, ◌∙◌, ap, ap₂, subst, arith, All}
use Rattle.std.proofs.lemmas.List.{length-map}
use Rattle.std.proofs.lemmas.List.Elements.{All-nil, All-head, All-tail}
use Rattle.ring_lemmas.specs.Ring.{TestedRing}
use Rattle.ring_lemmas.specs.Lists.{coeff_of}
use Rattle.ring_lemmas.proofs.Ring.{one_mul}
use Rattle.ring_lemmas.proofs.Sequences.{convolution_top}
use Rattle.ring_theory.proofs.Polynomials.{length_product}
use Rattle.ring_lemmas.proofs.Polynomials.{series_mul, coeff_past}
use Rattle.ff_fields.specs.Field.{CodeField}
use Rattle.ff_fields.specs.Code.{Code, code_ring, code_domain, same_code}
use Rattle.ff_fields.specs.Numbers.{read, numbers_read, numbers_get_or}
use Rattle.ff_fields.specs.Over.{IsOver}
use Rattle.ff_poly.specs.Words.{IsPoly, IsMonicList, product_of}
use Rattle.ff_poly.specs.PolyOver.{IsOver_product_of}
use Rattle.ff_poly.specs.Value.{value, numbers_value, value_product}
use Rattle.ff_poly.specs.Polynomials.{polynomials, series_read, value_not_zero}
use Rattle.ff_poly.specs.Popov.{entry_at, row_at, IsRow, IsPivot, IsPopovMatrix, multiple_of_row}
use Rattle.ff_poly.proofs.Parts.{IsPoly_product_of, IsMonic_product, IsMonic_from_top, top_of_monic}
use Rattle.ff_poly.proofs.Results.{product_of_nil}
use Rattle.ff_popov.proofs.ReadRows.{over_at}

module _ (k : CodeField) where
  abbrev K : TestedRing (Code k)
  K = code_ring k

  pub value_length : (a : List ℕ) → IsOver k.ops a → IsPoly a → length (value k a).0 ≡ length a
  value_length a a_in a_poly = sym (length-map (value k a).0 (λ x. x.0)) ∙ ap length (numbers_value k a a_in a_poly)

  -- the code at a position is the coefficient there
  pub coeff_code : (a : List ℕ) (m : ℕ) → IsOver k.ops a → (coeff_of K.ops (value k a).0 m).0 ≡ get_or a m 0
  coeff_code a m a_in = ap (λ x. x.0) (series_read k a m) ∙ numbers_get_or k (read k a) m
      ∙ ap (λ w. get_or w m 0) (numbers_read k a a_in)

  pub not_zero : (a : List ℕ) → IsOver k.ops a → IsPoly a → 0 < length a → ¬ (value k a ≡ (polynomials k).𝟘)
  not_zero a a_in a_poly some = value_not_zero k a a_in a_poly (λ e. absurd (omega (arith, some, ap length e)))

  -- the degree of a product is the sum of the degrees
  pub product_length : (a b : List ℕ) → IsOver k.ops a → IsPoly a → IsOver k.ops b → IsPoly b → 0 < length a
      → 0 < length b
      → suc (length (product_of k.ops a b)) ≡ length a + length b
  product_length a b a_in a_poly b_in b_poly a_some b_some =
      ap suc (sym (value_length (product_of k.ops a b) (IsOver_product_of k a_in b_in) (IsPoly_product_of k.ops a b))
      ∙ ap (λ q. length q.0) (value_product k a b a_in b_in))
      ∙ length_product K (code_domain k) (value k a) (value k b) (not_zero a a_in a_poly a_some)
      (not_zero b b_in b_poly b_some)
      ∙ ap₂ ◌+◌ (value_length a a_in a_poly) (value_length b b_in b_poly)

  -- the other factor of a monic product by a monic polynomial is monic
  pub monic_factor : (g a : List ℕ) → IsOver k.ops g → IsPoly g → IsMonicList g → IsOver k.ops a → IsPoly a → 0 < length a
      → IsMonicList (product_of k.ops g a) → IsMonicList a
  monic_factor g a g_in g_poly g_monic a_in a_poly some monic =
      let γ = (top_of_monic g g_monic).0 in
      let g_size = (top_of_monic g g_monic).1 in
      let m = length a - 1 in
      let t = top_of_monic (product_of k.ops g a) monic in
      let size : length a ≡ suc (length a - 1) = omega (arith, some) in
      let position : t.0 ≡ γ + m = omega
      (arith, t.1, g_size, size, product_length g a g_in g_poly a_in a_poly (omega (arith, g_size)) some) in
      let gs = coeff_of K.ops (value k g).0 in
      let as' = coeff_of K.ops (value k a).0 in
      let g_top : gs γ ≡ K.𝟙 = same_code k (gs γ) K.𝟙 (coeff_code g γ g_in ∙ (top_of_monic g g_monic).2) in
      let product_top : coeff_of K.ops (value k (product_of k.ops g a)).0 (γ + m) ≡ as' m
      = ap (λ q. coeff_of K.ops q.0 (γ + m)) (value_product k g a g_in a_in)
      ∙ series_mul K (value k g) (value k a) (γ + m)
      ∙ convolution_top K.ring γ m gs as'
      (λ i past. coeff_past K (value k g).0 i (omega (arith, past, value_length g g_in g_poly, g_size)))
      (λ i past. coeff_past K (value k a).0 i (omega (arith, past, value_length a a_in a_poly, size)))
      ∙ ap (λ x. K.◌⊗◌ x (as' m)) g_top ∙ one_mul K.ring (as' m) in
      IsMonic_from_top m a size
      (sym (coeff_code a m a_in) ∙ ap (λ x. x.0) (sym product_top)
      ∙ coeff_code (product_of k.ops g a) (γ + m) (IsOver_product_of k g_in a_in)
      ∙ ap (λ n. get_or (product_of k.ops g a) n 0) (sym position) ∙ t.2)

-- entries of multiples
pub multiple_at : (k : CodeField) (g : List ℕ) (v : List (List ℕ)) (j : ℕ)
    → entry_at (multiple_of_row k.ops g v) j ≡ product_of k.ops g (entry_at v j)
multiple_at k g [] j = sym (product_of_nil k.ops g)
multiple_at k g (a ∷ v) zero = refl
multiple_at k g (a ∷ v) (suc j) = multiple_at k g v j

-- g times each row
abbrev pub multiples : (k : CodeField) → List ℕ → List (List (List ℕ)) → List (List (List ℕ))
multiples k g rows = map (multiple_of_row k.ops g) rows

pub multiples_at : (k : CodeField) (g : List ℕ) (rows : List (List (List ℕ))) (i : ℕ)
    → row_at (multiples k g rows) i ≡ multiple_of_row k.ops g (row_at rows i)
multiples_at k g [] i = refl
multiples_at k g (r ∷ rows) zero = refl
multiples_at k g (r ∷ rows) (suc i) = multiples_at k g rows i

pub multiples_entry : (k : CodeField) (g : List ℕ) (rows : List (List (List ℕ))) (i j : ℕ)
    → entry_at (row_at (multiples k g rows) i) j ≡ product_of k.ops g (entry_at (row_at rows i) j)
multiples_entry k g rows i j = ap (λ r. entry_at r j) (multiples_at k g rows i) ∙ multiple_at k g (row_at rows i) j

-- two lengths that grow by the same number, but for 0
record Grows (γ n m : ℕ) : Type 0 where
  pub which : ((n ≡ 0) × (m ≡ 0)) ⊎ ((0 < n) × (m ≡ n + γ))

grows_le : (γ n m n' m' : ℕ) → Grows γ n m → Grows γ n' m' → n ≤ n' → m ≤ m'
grows_le γ n m n' m' h h' le = elim h.which [
  | inl x ↦ omega (arith, x.1)
  | inr x ↦ elim h'.which
      [ inl y ↦ absurd (omega (arith, le, x.0, y.0)) | inr y ↦ omega (arith, le, x.1, y.1) ]
]

grows_less : (γ n m n' m' : ℕ) → Grows γ n m → Grows γ n' m' → n < n' → m < m'
grows_less γ n m n' m' h h' le = elim h.which [
  | inl x ↦ elim h'.which [ inl y ↦ absurd (omega (arith, le, y.0)) | inr y ↦ omega (arith, x.1, y.1, y.0) ]
  | inr x ↦ elim h'.which [ inl y ↦ absurd (omega (arith, le, y.0)) | inr y ↦ omega (arith, le, x.1, y.1) ]
]

shrinks_le : (γ n m n' m' : ℕ) → Grows γ n m → Grows γ n' m' → m ≤ m' → n ≤ n'
shrinks_le γ n m n' m' h h' le = elim h.which [
  | inl x ↦ omega (arith, x.0)
  | inr x ↦ elim h'.which
      [ inl y ↦ absurd (omega (arith, le, x.0, x.1, y.1)) | inr y ↦ omega (arith, le, x.1, y.1) ]
]

shrinks_less : (γ n m n' m' : ℕ) → Grows γ n m → Grows γ n' m' → m < m' → n < n'
shrinks_less γ n m n' m' h h' le = elim h.which [
  | inl x ↦ elim h'.which [ inl y ↦ absurd (omega (arith, le, y.1)) | inr y ↦ omega (arith, x.0, y.0) ]
  | inr x ↦ elim h'.which [ inl y ↦ absurd (omega (arith, le, y.1)) | inr y ↦ omega (arith, le, x.1, y.1) ]
]

module _ (k : CodeField) (g : List ℕ) (g_in : IsOver k.ops g) (g_poly : IsPoly g) (g_monic : IsMonicList g) where
  γ : ℕ
  γ = (top_of_monic g g_monic).0

  grows : (a : List ℕ) → IsOver k.ops a → IsPoly a → Grows γ (length a) (length (product_of k.ops g a))
  unfolding γ
  grows [] a_in a_poly = record { which = inl (refl, ap length (product_of_nil k.ops g)) }
  grows (c ∷ a) a_in a_poly =
      let size = (top_of_monic g g_monic).1 in
      record {
        which = inr (
          omega arith,
          omega
              (arith, size, product_length k g (c ∷ a) g_in g_poly a_in a_poly (omega (arith, size)) (omega arith)),
        );
      }

  module _ (w : ℕ) (rows : List (List (List ℕ))) (all : All (IsRow k.ops w) rows)
      (trimmed : (i j : ℕ) → IsPoly (entry_at (row_at rows i) j)) where
    entry_over : (i j : ℕ) → IsOver k.ops (entry_at (row_at rows i) j)
    entry_over i j = over_rows rows all i
      where
        over_rows : (rs : List (List (List ℕ))) → All (IsRow k.ops w) rs → (i : ℕ)
            → IsOver k.ops (entry_at (row_at rs i) j)
        over_rows [] h i = over_at k [] (All-nil (IsOver k.ops)) j
        over_rows (r ∷ rs) h zero = over_at k r (All-head (IsRow k.ops w) r rs h).over j
        over_rows (r ∷ rs) h (suc i) = over_rows rs (All-tail (IsRow k.ops w) r rs h) i

    grows_at : (i j : ℕ) → Grows γ (length (entry_at (row_at rows i) j))
        (length (entry_at (row_at (multiples k g rows) i) j))
    grows_at i j =
        subst (λ a. Grows γ (length (entry_at (row_at rows i) j)) (length a)) (sym (multiples_entry k g rows i j))
        (grows (entry_at (row_at rows i) j) (entry_over i j) (trimmed i j))

    pivot_up : (i j : ℕ) → IsPivot (row_at rows i) j → IsPivot (row_at (multiples k g rows) i) j
    pivot_up i j p = record {
      some = grows_less γ 0 0 _ _ (record { which = inl (refl, refl) }) (grows_at i j) p.some;
      greatest = λ l. grows_le γ _ _ _ _ (grows_at i l) (grows_at i j) (p.greatest l);
      rightmost = λ l less. grows_less γ _ _ _ _ (grows_at i l) (grows_at i j) (p.rightmost l less);
    }

    pivot_down : (i j : ℕ) → IsPivot (row_at (multiples k g rows) i) j → IsPivot (row_at rows i) j
    pivot_down i j p = record {
      some = shrinks_less γ 0 0 _ _ (record { which = inl (refl, refl) }) (grows_at i j) p.some;
      greatest = λ l. shrinks_le γ _ _ _ _ (grows_at i l) (grows_at i j) (p.greatest l);
      rightmost = λ l less. shrinks_less γ _ _ _ _ (grows_at i l) (grows_at i j) (p.rightmost l less);
    }

    pub popov_multiples : IsPopovMatrix w rows → IsPopovMatrix w (multiples k g rows)
    popov_multiples p = record {
      size = length-map rows (multiple_of_row k.ops g) ∙ p.size;
      pivot_at = λ i less. pivot_up i i (p.pivot_at i less);
      monic = λ i less. subst IsMonicList (sym (multiples_entry k g rows i i))
          (IsMonic_product k g (entry_at (row_at rows i) i) g_in (entry_over i i) g_monic (p.monic i less));
      smaller = λ i j i_less j_less differ. grows_less γ _ _ _ _ (grows_at i j) (grows_at j j)
          (p.smaller i j i_less j_less differ);
      trimmed = λ i j. subst IsPoly (sym (multiples_entry k g rows i j))
          (IsPoly_product_of k.ops g (entry_at (row_at rows i) j));
    }

    pub popov_from_multiples : IsPopovMatrix w (multiples k g rows) → IsPopovMatrix w rows
    popov_from_multiples p = record {
      size = sym (length-map rows (multiple_of_row k.ops g)) ∙ p.size;
      pivot_at = λ i less. pivot_down i i (p.pivot_at i less);
      monic = λ i less.
          monic_factor k g (entry_at (row_at rows i) i) g_in g_poly g_monic (entry_over i i) (trimmed i i)
          (pivot_down i i (p.pivot_at i less)).some
          (subst IsMonicList (multiples_entry k g rows i i) (p.monic i less));
      smaller = λ i j i_less j_less differ. shrinks_less γ _ _ _ _ (grows_at i j) (grows_at j j)
          (p.smaller i j i_less j_less differ);
      trimmed = trimmed;
    }
