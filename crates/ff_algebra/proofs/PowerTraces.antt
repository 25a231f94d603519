-- The traces of the powers of y, one after another, and the discriminant that they make.
use Rattle.std.proofs.Common.{◌≡◌, ℕ, zero, suc, ◌+◌, ◌-◌, ◌*◌, ◌<◌, ◌≤◌, List, [], ◌∷◌, ◌++◌, length, get_or, take, replicate, refl, sym, ap, ap₂, ◌∙◌, arith, add-one, All, Ok, Err, Result}
use Rattle.std.specs.Prelude.{IfOk}
use Rattle.std.proofs.lemmas.List.{length-replicate, length-take, get_or-take}
use Rattle.std.proofs.lemmas.List.Elements.{All-cons, All-push, All-replicate}
use Rattle.ring_lemmas.specs.Rows.{row_trace, y_to}
use Rattle.ring_theory.specs.Determinant.{determinant}
use Rattle.ring_lemmas.proofs.Rows.{pair_path}
use Rattle.ff_fields.specs.Field.{CodeField}
use Rattle.ff_fields.specs.Over.{IsOver, IsOver_nil, IsOver_cons}
use Rattle.ff_poly.specs.Words.{IsPoly}
use Rattle.ff_poly.specs.Value.{value}
use Rattle.ff_poly.specs.Polynomials.{polynomials, value_one}
use Rattle.function_field.specs.Values.{PresValue, equation_of}
use Rattle.ff_algebra.specs.RowProducts.{IsPolyRow, row_at, y_times}
use Rattle.function_field.specs.Discriminant.{power_trace, discriminant}
use Rattle.ff_algebra.specs.CurveTerms.{matrix_of}
use Rattle.ff_algebra.proofs.RowProducts.{row_of_zeros}
use Rattle.ff_algebra.proofs.CurveTerms.{pushed_each}
use Rattle.ff_algebra.proofs.Minors.{determinant_cong}

abbrev pub four_rows : List ℕ
four_rows = 0 ∷ 1 ∷ 2 ∷ 3 ∷ []

-- the first rows are those from 0 on
first_row : (i : ℕ) → i < 4 → get_or four_rows i 0 ≡ i
first_row zero less = refl
first_row (suc zero) less = refl
first_row (suc (suc zero)) less = refl
first_row (suc (suc (suc zero))) less = refl
first_row (suc (suc (suc (suc i)))) less = absurd (omega arith)

first_count : (n : ℕ) → n ≤ 4 → length (take n four_rows) ≡ n
first_count n le = omega (arith, length-take n four_rows)

pub IfOk_three : {T E : Type 0} (r : Result T E) (P Q R S : T → Type 0) → ((x : T) → P x → Q x → R x → S x) → IfOk r P
    → IfOk r Q → IfOk r R → IfOk r S
IfOk_three (Ok x) P Q R S f p q r = f x p q r
IfOk_three (Err e) P Q R S f p q r = tt

module _ (k : CodeField) (p : PresValue) where
  -- y^m, and the traces of the powers below it
  pub record AreTraces (m : ℕ) (power traces : List (List ℕ)) : Type 0 where
    pub row : IsPolyRow k.ops p.n power
    pub power_is : row_at k p power ≡ y_to (polynomials k).ops (p.n - 1) (equation_of k p).coefficients m
    pub size : length traces ≡ m
    pub each : (i : ℕ) → i < m → value k (get_or traces i []) ≡ power_trace (equation_of k p) i
    pub over : All (IsOver k.ops) traces

  one_is : row_at k p ((1 ∷ []) ∷ replicate (p.n - 1) [])
      ≡ y_to (polynomials k).ops (p.n - 1) (equation_of k p).coefficients 0
  unfolding y_to
  one_is = pair_path (value_one k) (row_of_zeros k (p.n - 1) (p.n - 1))

  pub traces_none : (power traces : List (List ℕ)) → 1 ≤ p.n → power ≡ (1 ∷ []) ∷ replicate (p.n - 1) [] → traces ≡ []
      → AreTraces 0 power traces
  traces_none power traces some power_is none = rw (power_is, none) (record {
    row = record {
      one_each = omega (arith, length-replicate {A = List ℕ});
      over = All-cons (IsOver k.ops) (1 ∷ []) _ (IsOver_cons k.laws.one_below IsOver_nil)
          (All-replicate (IsOver k.ops) (p.n - 1) [] IsOver_nil);
      poly = All-cons IsPoly (1 ∷ []) _ (record { trimmed = refl })
          (All-replicate IsPoly (p.n - 1) [] (record { trimmed = tt }));
    };
    power_is = one_is;
    size = refl;
    each = λ i less. absurd (omega arith);
    over = λ i d less. absurd (omega arith);
  })

  power_more : (m : ℕ) (old new : List (List ℕ))
      → row_at k p old ≡ y_to (polynomials k).ops (p.n - 1) (equation_of k p).coefficients m
      → row_at k p new ≡ y_times k p (row_at k p old)
      → row_at k p new ≡ y_to (polynomials k).ops (p.n - 1) (equation_of k p).coefficients (m + 1)
  unfolding y_to
  power_more m old new old_is new_is =
      new_is ∙ ap (y_times k p) old_is ∙ ap (y_to (polynomials k).ops (p.n - 1) (equation_of k p).coefficients)
      (sym (add-one m))

  pub traces_more : (m : ℕ) (power next traces more : List (List ℕ)) (t : List ℕ) → AreTraces m power traces
      → value k t ≡ row_trace (polynomials k).ops (p.n - 1) (equation_of k p).coefficients (row_at k p power)
      → IsOver k.ops t → more ≡ traces ++ t ∷ []
      → row_at k p next ≡ y_times k p (row_at k p power) → IsPolyRow k.ops p.n next → AreTraces (m + 1) next more
  traces_more m power next traces more t h t_is t_in more_is next_is next_in = record {
    row = next_in;
    power_is = power_more m power next h.power_is next_is;
    size = let e : length more ≡ length traces + 1 = ap length more_is ∙ size_push traces t in omega (arith, e, h.size);
    each =
        pushed_each (λ i t. value k t ≡ power_trace (equation_of k p) i) traces more t [] m h.size h.each
        (t_is ∙ ap (row_trace (polynomials k).ops (p.n - 1) (equation_of k p).coefficients) h.power_is) more_is;
    over = rw more_is (All-push (IsOver k.ops) traces t h.over t_in);
  }
    where
      size_push : {A : Type 0} (xs : List A) (x : A) → length (xs ++ x ∷ []) ≡ length xs + 1
      size_push [] x = refl
      size_push (y ∷ xs) x = let e = size_push xs x in omega (arith, e)

  -- the determinant of the traces is the discriminant
  pub discriminant_is : (traces entries : List (List ℕ)) (n : ℕ) → n ≡ p.n → 1 ≤ p.n → p.n ≤ 4
      → length traces + 1 ≡ 2 * p.n → entries ≡ traces
      → ((i : ℕ) → i < length traces → value k (get_or traces i []) ≡ power_trace (equation_of k p) i)
      → determinant (polynomials k).ops (length (take n four_rows)) (matrix_of k entries (take n four_rows) 0)
      ≡ discriminant (equation_of k p)
  discriminant_is traces entries n n_is some le size same each =
      let rows = take n four_rows in
      let all : length rows ≡ suc (p.n - 1) = (let e = first_count n (omega arith) in omega (arith, e)) in
      ap₂ (λ m w. determinant (polynomials k).ops m (matrix_of k w rows 0)) all same
      ∙ determinant_cong (polynomials k).ring (suc (p.n - 1)) (matrix_of k traces rows 0)
      (λ i j. power_trace (equation_of k p) (i + j)) (λ i j i_in j_in.
      let row : get_or rows i 0 ≡ i = get_or-take n four_rows i 0 (omega arith) ∙ first_row i (omega arith) in
      let at : get_or rows i 0 + 0 + j ≡ i + j = omega (arith, row) in
      ap (λ n. value k (get_or traces n [])) at ∙ each (i + j) (omega (arith, size)))
