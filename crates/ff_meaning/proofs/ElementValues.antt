-- The element that is written: its polynomials, their degrees, and that there is one.
use Rattle.std.proofs.Common.{◌≡◌, ◌≢◌, ℕ, zero, suc, ◌+◌, ◌-◌, ◌<◌, ◌≤◌, ◌⊎◌, inl, inr, max, true≢false, eq-eqb, false, List, [], ◌∷◌, length, get_or, refl, sym, ap, ap₂, ◌∙◌, subst, arith, add-zero, All, Option, Some, None}
use Rattle.std.specs.Prelude.{find, nat_le, flat_map, IfSome, sum_by, fold}
use Rattle.std.specs.List.{AllByRecursion, slice_index_or}
use Rattle.std.proofs.lemmas.Bool.{cases_lt}
use Rattle.std.proofs.lemmas.List.{append-nil}
use Rattle.std.proofs.lemmas.List.Elements.{All-nil, All-cons, All-append}
use native.Mathlib.Decide.{ℕ_discrete}
use Rattle.ring_lemmas.specs.Lists.{IsTrimmed}
use Rattle.ff_fields.specs.Field.{FieldOps, CodeField}
use Rattle.ff_fields.specs.Code.{is_zero_code}
use Rattle.ff_poly.specs.Words.{poly_of}
use Rattle.ff_poly.specs.TermWords.{IsBefore, IsTerms, code_at}
use Rattle.ff_poly.proofs.Quotients.{top_some}
use Rattle.function_field.specs.Values.{ElemValue}
use Rattle.ff_algebra.specs.CurveTerms.{IsCoefficient, degree_in_x}
use Rattle.ff_algebra.proofs.CurveTerms.{IsCoefficient_poly_of}
use Rattle.ff_text.specs.declared.terms.Factor.{Factor}
use Rattle.ff_text.specs.declared.terms.Factor.TheVariants.{Code, X, Y}
use Rattle.ff_text.specs.declared.terms.Term.{Term}
use Rattle.ff_text.specs.declared.terms.ElemText.{ElemText}
use Rattle.ff_text.specs.Printing.{IsWritableFactor, IsWritableTerm, IsWritableTerms, IsWritableElement}
use Rattle.ff_text.specs.Values.{written_codes, exponent_of_y, triple_of, triples_of}
use Rattle.ff_text.proofs.Gathered.{found_behind}
use Rattle.ff_meaning.specs.declared.refusal.Refusal.{Refusal}
use Rattle.ff_meaning.specs.Meaning.{codes_of_den, codes_of_element, AreCodesBelow, IsSumOf, IsPolyOf, ArePolysOf, IsDenOf, IsElementOf, greatest_degree, degree_of_element}
use Rattle.ff_meaning.specs.Refusals.{IsWithinDegrees, IsElementRow, range, size, degree, zero_den}
use Rattle.ff_meaning.specs.Elements.{greatest_in_x, AreSumsOf, IsDenSumOf, AreElementSums, AreCoefficients}
use Rattle.ff_meaning.proofs.TermCodes.{code_none, code_other, code_of_each, code_above, code_on_top, same_terms}
use Rattle.ff_meaning.proofs.EntrySums.{codes_below}

abbrev pub Terms : Type 0
Terms = List (ℕ × ℕ × ℕ)

-- ---- no y stands in an element

no_y_behind : (a : ℕ) (fs : List Factor) → AllByRecursion (IsWritableFactor false) fs
    → fold (λ a f. a + exponent_of_y f) a fs ≡ a
no_y_behind a [] h = refl
no_y_behind a (Code n ∷ fs) h = ap (λ b. fold (λ a f. a + exponent_of_y f) b fs) (add-zero a) ∙ no_y_behind a fs h.1
no_y_behind a (X n ∷ fs) h = ap (λ b. fold (λ a f. a + exponent_of_y f) b fs) (add-zero a) ∙ no_y_behind a fs h.1
no_y_behind a (Y n ∷ fs) h = absurd (let e = h.0.0 in cc)

no_y_factors : (fs : List Factor) → AllByRecursion (IsWritableFactor false) fs → sum_by exponent_of_y fs ≡ 0
no_y_factors fs h = no_y_behind 0 fs h

module _ (k : FieldOps) where
  no_y_triples : (ts : List Term) → AllByRecursion (IsWritableTerm false) ts → All (λ t. t.0 ≡ 0) (triples_of k ts)
  no_y_triples [] h = All-nil (λ t. t.0 ≡ 0)
  no_y_triples (t ∷ ts) h = All-cons (λ t. t.0 ≡ 0) (triple_of k t) (triples_of k ts) (no_y_factors t.factors h.0.1)
      (no_y_triples ts h.1)

  no_y_code : (i j : ℕ) (us : Terms) → i ≢ 0 → All (λ t. t.0 ≡ 0) us → code_at k i j us ≡ 0
  no_y_code i j us some h = code_none k i j us (λ n d less at. some (sym at.0 ∙ h n d less))

-- ---- degrees

module _ (k : CodeField) where
  -- no term of the sum has y
  pub no_y_sum : (ts : List Term) (s : Terms) → IsWritableTerms false ts → IsSumOf k.ops ts s → All (λ t. t.0 ≡ 0) s
  no_y_sum ts s writable h n d less = go (ℕ_discrete t.0 0)
    where
      t : ℕ × ℕ × ℕ
      t = slice_index_or s n d

      go : Dec (t.0 ≡ 0) → t.0 ≡ 0
      go (yes e) = e
      go (no some) = absurd (h.terms.some n d less null)
        where
          null : t.2 ≡ 0
          null = sym (code_of_each k s h.terms h.codes_in n d less) ∙ h.codes t.0 t.1
              ∙ no_y_code k.ops t.0 t.1 (triples_of k.ops ts) some (no_y_triples k.ops ts writable.1)

  get_or_past : (p : List ℕ) (j : ℕ) → length p ≤ j → get_or p j 0 ≡ 0
  get_or_past [] j le = refl
  get_or_past (c ∷ p) zero le = absurd (omega arith)
  get_or_past (c ∷ p) (suc j) le = get_or_past p j (omega arith)

  -- the top code of a polynomial stands at the greatest exponent or below
  not_longer : (s : Terms) (p : List ℕ) → IsCoefficient k.ops s 0 p → length p ≤ degree_in_x s + 1
  not_longer s [] h = omega arith
  not_longer s (c ∷ p) h = go (cases_lt (degree_in_x s) (length (c ∷ p) - 1))
    where
      go : (degree_in_x s < length (c ∷ p) - 1) ⊎ (length (c ∷ p) - 1 ≤ degree_in_x s)
          → length (c ∷ p) ≤ degree_in_x s + 1
      go (inl less) = absurd ((top_some (c ∷ p) h.poly (λ e. cc)).1
          (h.codes (length (c ∷ p) - 1) ∙ code_above k.ops 0 (length (c ∷ p) - 1) s less))
      go (inr le) = omega arith

  pub degree_is : (s : Terms) (p : List ℕ) → IsTerms s → All (λ t. t.2 < k.size) s → All (λ t. t.0 ≡ 0) s
      → IsCoefficient k.ops s 0 p → length p - 1 ≡ degree_in_x s
  degree_is [] p terms terms_in no_y h = let le = not_longer [] p h in omega (arith, le)
  degree_is (t ∷ ts) p terms terms_in no_y h =
      let le = not_longer (t ∷ ts) p h in
      let more = longer (cases_lt (degree_in_x (t ∷ ts)) (length p)) in
      omega (arith, le, more)
    where
      longer : (degree_in_x (t ∷ ts) < length p) ⊎ (length p ≤ degree_in_x (t ∷ ts)) → degree_in_x (t ∷ ts) < length p
      longer (inl less) = less
      longer (inr le) = absurd (code_on_top k t ts terms terms_in no_y
          (sym (h.codes (degree_in_x (t ∷ ts))) ∙ get_or_past p (degree_in_x (t ∷ ts)) le))

  pub greatest_is : (es : List (List Term)) (ss : List Terms) (ps : List (List ℕ))
      → AllByRecursion (IsWritableTerms false) es → AreSumsOf k.ops es ss → AreCoefficients k.ops ss ps
      → greatest_degree ps ≡ greatest_in_x ss
  greatest_is [] ss ps writable h g = none ss ps h g
    where
      none : (ss : List Terms) (ps : List (List ℕ)) → ss ≡ [] → AreCoefficients k.ops ss ps
          → greatest_degree ps ≡ greatest_in_x ss
      none [] ps e g = rw g refl
      none (s ∷ ss) ps e g = absurd cc
  greatest_is (e ∷ es) [] ps writable h g = absurd h
  greatest_is (e ∷ es) (s ∷ ss) [] writable h g = absurd g
  greatest_is (e ∷ es) (s ∷ ss) (p ∷ ps) writable h g =
      let one = degree_is s p h.0.terms h.0.codes_in (no_y_sum e s writable.0 h.0) g.0 in
      let others = greatest_is es ss ps writable.1 h.1 g.1 in
      ap₂ max one others

-- ---- the polynomials of the entries

-- the polynomial of a sum is that of the terms
pub poly_is : (k : FieldOps) (ts : List Term) (s : Terms) (p : List ℕ) → IsSumOf k ts s → IsCoefficient k s 0 p
    → IsPolyOf k ts p
poly_is k ts s p h g = record { written = h.written; poly = g.poly; codes = λ j. g.codes j ∙ h.codes 0 j }

pub polys_of : (k : FieldOps) (es : List (List Term)) (ss : List Terms) (ps : List (List ℕ)) → AreSumsOf k es ss
    → AreCoefficients k ss ps → ArePolysOf k es ps
polys_of k [] ss ps h g = none ss h g
  where
    none : (ss : List Terms) → ss ≡ [] → AreCoefficients k ss ps → ps ≡ []
    none [] e g = g
    none (s ∷ ss) e g = absurd cc
polys_of k (e ∷ es) [] ps h g = absurd h
polys_of k (e ∷ es) (s ∷ ss) [] h g = absurd g
polys_of k (e ∷ es) (s ∷ ss) (p ∷ ps) h g = (poly_is k e s p h.0 g.0, polys_of k es ss ps h.1 g.1)

-- the values of a function below n
table : (ℕ → ℕ) → ℕ → List ℕ
table f zero = []
table f (suc n) = f 0 ∷ table (λ i. f (suc i)) n

get_or_table : (f : ℕ → ℕ) (n : ℕ) → ((j : ℕ) → n ≤ j → f j ≡ 0) → (j : ℕ) → get_or (table f n) j 0 ≡ f j
unfolding table
get_or_table f zero none j = sym (none j (omega arith))
get_or_table f (suc n) none zero = refl
get_or_table f (suc n) none (suc j) = get_or_table (λ i. f (suc i)) n (λ j le. none (suc j) (omega arith)) j

-- each sum has a polynomial, of whatever degree
pub coefficient_exists : (k : FieldOps) (s : Terms) → (p : List ℕ) × IsCoefficient k s 0 p
coefficient_exists k s =
    let codes = table (λ j. code_at k 0 j s) (degree_in_x s + 1) in (
      poly_of codes,
      IsCoefficient_poly_of k s 0 codes (poly_of codes)
          (get_or_table (λ j. code_at k 0 j s) (degree_in_x s + 1) (λ j le. code_above k 0 j s (omega arith))) refl,
    )

pub coefficients_exist : (k : FieldOps) (ss : List Terms) → (ps : List (List ℕ)) × AreCoefficients k ss ps
coefficients_exist k [] = ([], refl)
coefficients_exist k (s ∷ ss) =
    let first = coefficient_exists k s in
    let rest = coefficients_exist k ss in
    (first.0 ∷ rest.0, (first.1, rest.1))

-- ---- one element

some_code : (a : List ℕ) → IsTrimmed is_zero_code a → ¬ (a ≡ []) → ((j : ℕ) → get_or a j 0 ≡ 0) → ⊥
some_code [] t n h = n refl
some_code (c ∷ []) t n h = true≢false (sym (eq-eqb c 0 (h 0)) ∙ t)
some_code (c ∷ d ∷ w) t n h = some_code (d ∷ w) t (λ e. cc) (λ j. h (suc j))

trimmed_tail : (c : ℕ) (a : List ℕ) → IsTrimmed is_zero_code (c ∷ a) → IsTrimmed is_zero_code a
trimmed_tail c [] t = tt
trimmed_tail c (d ∷ a) t = t

same_codes : (a b : List ℕ) → IsTrimmed is_zero_code a → IsTrimmed is_zero_code b
    → ((j : ℕ) → get_or a j 0 ≡ get_or b j 0) → a ≡ b
same_codes [] [] s t h = refl
same_codes [] (d ∷ b) s t h = absurd (some_code (d ∷ b) t (λ e. cc) (λ j. sym (h j)))
same_codes (c ∷ a) [] s t h = absurd (some_code (c ∷ a) s (λ e. cc) h)
same_codes (c ∷ a) (d ∷ b) s t h =
    ap₂ (λ x xs. x ∷ xs) (h 0) (same_codes a b (trimmed_tail c a s) (trimmed_tail d b t) (λ j. h (suc j)))

module _ (k : FieldOps) where
  pub same_poly : (ts : List Term) (p q : List ℕ) → IsPolyOf k ts p → IsPolyOf k ts q → p ≡ q
  same_poly ts p q h g = same_codes p q h.poly.trimmed g.poly.trimmed (λ j. h.codes j ∙ sym (g.codes j))

  pub same_polys : (es : List (List Term)) (ps qs : List (List ℕ)) → ArePolysOf k es ps → ArePolysOf k es qs → ps ≡ qs
  same_polys [] ps qs h g = h ∙ sym g
  same_polys (e ∷ es) [] qs h g = absurd h
  same_polys (e ∷ es) (p ∷ ps) [] h g = absurd g
  same_polys (e ∷ es) (p ∷ ps) (q ∷ qs) h g = ap₂ (λ x xs. x ∷ xs) (same_poly e p q h.0 g.0)
      (same_polys es ps qs h.1 g.1)

  pub same_den : (o : Option (List Term)) (d c : List ℕ) → IsDenOf k o d → IsDenOf k o c → d ≡ c
  same_den None d c h g = h ∙ sym g
  same_den (Some ts) d c h g = same_poly ts d c h g

  same_degree : (e : ElemText) (z w : ElemValue) → IsElementOf k e z → IsElementOf k e w
      → degree_of_element z ≡ degree_of_element w
  same_degree e z w h g =
      ap₂ (λ ps d. max (greatest_degree ps) (length d - 1)) (same_polys e.entries z.num w.num h.numerators g.numerators)
      (same_den e.den z.den w.den h.denominator g.denominator)

  pub none_found : (q : ℕ) (codes : List ℕ) → AreCodesBelow q codes → find (λ d. nat_le q d) codes ≡ None
  none_found q codes h = ap (find (λ d. nat_le q d)) (sym (append-nil codes)) ∙ found_behind q codes [] h

  -- no row holds of an element that may stand
  pub no_element_row : (n bound : ℕ) (e : ElemText) (r : Refusal) → IsWithinDegrees k n bound e
      → ¬ IsElementRow k n bound e r
  no_element_row n bound e r h (range row) = let none = none_found k.size (codes_of_element e) h.written in absurd
      (let found = row.1 in cc)
  no_element_row n bound e r h (size below other is) = other h.size
  no_element_row n bound e r h (degree long z z_is great is) =
      let same = same_degree e z h.value z_is h.is in let le = h.small in omega (arith, same, le, great)
  no_element_row n bound e r h (zero_den long z z_is small none is) = h.over
      (same_den e.den h.value.den z.den h.is.denominator z_is.denominator ∙ none)

-- ---- denominators

-- the term 1
abbrev one_sum : Terms
one_sum = (0, 0, 1) ∷ []

one_terms : IsTerms one_sum
one_terms = record {
  ascending = (All-nil (IsBefore (0, 0, 1)), tt);
  some = All-cons (λ (t : ℕ × ℕ × ℕ). t.2 ≢ 0) (0, 0, 1) [] (λ e. absurd (omega (arith, e)))
      (All-nil (λ (t : ℕ × ℕ × ℕ). t.2 ≢ 0));
}

module _ (k : CodeField) where
  abbrev AreIn : Terms → Type 0
  AreIn s = All (λ t. t.2 < k.size) s

  one_in : AreIn one_sum
  one_in = All-cons (λ (t : ℕ × ℕ × ℕ). t.2 < k.size) (0, 0, 1) [] k.laws.one_below
      (All-nil (λ (t : ℕ × ℕ × ℕ). t.2 < k.size))

  -- terms with the sums of the term 1 are that term
  pub only_one : (s : Terms) → IsTerms s → AreIn s → ((i j : ℕ) → code_at k.ops i j s ≡ code_at k.ops i j one_sum)
      → s ≡ one_sum
  only_one s terms terms_in same = same_terms k s one_sum terms one_terms terms_in one_in same

  code_of_one : (j : ℕ) → code_at k.ops 0 j one_sum ≡ get_or (1 ∷ []) j 0
  code_of_one zero =
      let one : 1 < k.size = k.laws.one_below in
      k.laws.add_comm 1 0 one (omega (arith, one)) ∙ k.laws.zero_add 1 one
  code_of_one (suc j) = code_other k.ops 0 (suc j) (0, 0, 1) [] (λ e. absurd (let z = e.1 in omega (arith, z)))

  den_of : (o : Option (List Term)) (s : Terms) (d : List ℕ) → IsDenSumOf k.ops o s → IsCoefficient k.ops s 0 d
      → IsDenOf k.ops o d
  den_of None s d h g = same_codes d (1 ∷ []) g.poly.trimmed refl
      (λ j. g.codes j ∙ ap (code_at k.ops 0 j) h ∙ code_of_one j)
  den_of (Some ts) s d h g = poly_is k.ops ts s d h g

  den_degree : (o : Option (List Term)) (s : Terms) (d : List ℕ) → IfSome o (IsWritableTerms false)
      → IsDenSumOf k.ops o s → IsCoefficient k.ops s 0 d → length d - 1 ≡ degree_in_x s
  den_degree None s d writable h g =
      degree_is k s d (subst IsTerms (sym h) one_terms) (subst AreIn (sym h) one_in)
      (subst (All (λ (t : ℕ × ℕ × ℕ). t.0 ≡ 0)) (sym h)
      (All-cons (λ (t : ℕ × ℕ × ℕ). t.0 ≡ 0) (0, 0, 1) [] refl (All-nil (λ (t : ℕ × ℕ × ℕ). t.0 ≡ 0)))) g
  den_degree (Some ts) s d writable h g = degree_is k s d h.terms h.codes_in (no_y_sum k ts s writable h) g

  pub den_in : (o : Option (List Term)) (s : Terms) → IsDenSumOf k.ops o s → AreIn s
  den_in None s h = subst AreIn (sym h) one_in
  den_in (Some ts) s h = h.codes_in

  den_below : (o : Option (List Term)) (s : Terms) → IsDenSumOf k.ops o s → AreCodesBelow k.size (codes_of_den o)
  den_below None s h = All-nil (λ c. c < k.size)
  den_below (Some ts) s h = h.written

  -- ---- elements

  module _ (e : ElemText) (ss : List Terms) (s : Terms) (h : AreElementSums k.ops e ss s) where
    pub element_below : AreCodesBelow k.size (codes_of_element e)
    element_below = All-append (λ c. c < k.size) (flat_map written_codes e.entries) (codes_of_den e.den)
        (codes_below k.ops e.entries ss h.entries) (den_below e.den s h.denominator)

    module _ (ps : List (List ℕ)) (d : List ℕ) (num : AreCoefficients k.ops ss ps) (den : IsCoefficient k.ops s 0 d)
      where
        pub element_of : IsElementOf k.ops e (record { num = ps; den = d })
        element_of = record {
          numerators = polys_of k.ops e.entries ss ps h.entries num;
          denominator = den_of e.den s d
              h.denominator den;
        }

        -- the greatest degree of the written element
        pub element_degree : IsWritableElement e
            → degree_of_element (record { num = ps; den = d }) ≡ max (greatest_in_x ss) (degree_in_x s)
        element_degree writable = ap₂ max (greatest_is k e.entries ss ps writable.entries h.entries num)
            (den_degree e.den s d writable.den h.denominator den)
