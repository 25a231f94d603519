-- Terms by their codes: the sum of a list of terms is one list, and its degree is that of its polynomial.
use Rattle.std.proofs.Common.{◌≡◌, ◌≢◌, ℕ, zero, suc, ◌<◌, ◌≤◌, Bool, true, false, cond, ◌&&◌, nat_eq, eq-eqb, ne_eqb, List, [], ◌∷◌, length, get_or, refl, sym, ap, ap₂, ◌∙◌, arith, All, ◌⊎◌, inl, inr}
use Rattle.std.specs.List.{slice_index_or}
use Rattle.std.proofs.lemmas.Bool.{cases_lt}
use Rattle.std.proofs.lemmas.List.Elements.{All-head, All-tail, All-nil, All-cons}
use native.Mathlib.Decide.{ℕ_discrete}
use Rattle.ff_fields.specs.Field.{FieldOps, CodeField}
use Rattle.ff_poly.specs.TermWords.{IsBefore, IsTerms, code_at}
use Rattle.ff_algebra.specs.CurveTerms.{degree_in_x}

-- the term stands at y^i·x^j
abbrev pub IsAt : ℕ → ℕ → ℕ × ℕ × ℕ → Type 0
IsAt i j t = (t.0 ≡ i) × (t.1 ≡ j)

and_false : (b : Bool) → (b && false) ≡ false
and_false true = refl
and_false false = refl

-- ---- the code at a position

module _ (k : FieldOps) (i j : ℕ) (t : ℕ × ℕ × ℕ) (ts : List (ℕ × ℕ × ℕ)) where
  chosen : Bool → ℕ
  chosen b = cond b (k.add t.2 (code_at k i j ts)) (code_at k i j ts)

  pub code_here : IsAt i j t → code_at k i j (t ∷ ts) ≡ k.add t.2 (code_at k i j ts)
  unfolding chosen
  code_here e = ap chosen (ap₂ ◌&&◌ (eq-eqb t.0 i e.0) (eq-eqb t.1 j e.1))

  pub code_other : ¬ IsAt i j t → code_at k i j (t ∷ ts) ≡ code_at k i j ts
  unfolding chosen
  code_other n = go (ℕ_discrete t.0 i)
    where
      go : Dec (t.0 ≡ i) → code_at k i j (t ∷ ts) ≡ code_at k i j ts
      go (yes e) = ap chosen (ap (λ b. nat_eq t.0 i && b) (ne_eqb t.1 j (λ d. n (e, d))) ∙ and_false (nat_eq t.0 i))
      go (no m) = ap chosen (ap (λ b. b && nat_eq t.1 j) (ne_eqb t.0 i m))

pub code_none : (k : FieldOps) (i j : ℕ) (ts : List (ℕ × ℕ × ℕ)) → All (λ u. ¬ IsAt i j u) ts → code_at k i j ts ≡ 0
code_none k i j [] h = refl
code_none k i j (t ∷ ts) h =
    code_other k i j t ts (All-head (λ u. ¬ IsAt i j u) t ts h)
    ∙ code_none k i j ts (All-tail (λ u. ¬ IsAt i j u) t ts h)

not_at : (t u : ℕ × ℕ × ℕ) → IsBefore t u → ¬ IsAt t.0 t.1 u
not_at t u b e = let less = b.1 (sym e.0) in omega (arith, less, e.1)

pub terms_tail : (t : ℕ × ℕ × ℕ) (ts : List (ℕ × ℕ × ℕ)) → IsTerms (t ∷ ts) → IsTerms ts
terms_tail t ts h = record { ascending = h.ascending.1; some = All-tail (λ t. t.2 ≢ 0) t ts h.some }

-- no term behind the first has its exponents
behind_first : (k : FieldOps) (t : ℕ × ℕ × ℕ) (ts : List (ℕ × ℕ × ℕ)) → IsTerms (t ∷ ts) → code_at k t.0 t.1 ts ≡ 0
behind_first k t ts h = code_none k t.0 t.1 ts (λ i d less. not_at t (slice_index_or ts i d) (h.ascending.0 i d less))

abbrev AreIn : ℕ → List (ℕ × ℕ × ℕ) → Type 0
AreIn q ts = All (λ t. t.2 < q) ts

module _ (k : CodeField) where
  code_first : (t : ℕ × ℕ × ℕ) (ts : List (ℕ × ℕ × ℕ)) → IsTerms (t ∷ ts) → t.2 < k.size
      → code_at k.ops t.0 t.1 (t ∷ ts) ≡ t.2
  code_first t ts h t_in =
      let zero_in : 0 < k.size = let one = k.laws.one_below in omega (arith, one) in
      code_here k.ops t.0 t.1 t ts (refl, refl) ∙ ap (k.add t.2) (behind_first k.ops t ts h)
      ∙ k.laws.add_comm t.2 0 t_in zero_in ∙ k.laws.zero_add t.2 t_in

  -- each term's code is the sum of the codes at its exponents
  pub code_of_each : (ts : List (ℕ × ℕ × ℕ)) → IsTerms ts → AreIn k.size ts
      → All (λ t. code_at k.ops t.0 t.1 ts ≡ t.2) ts
  code_of_each [] h in_range = All-nil (λ t. code_at k.ops t.0 t.1 [] ≡ t.2)
  code_of_each (t ∷ ts) h in_range =
      All-cons (λ u. code_at k.ops u.0 u.1 (t ∷ ts) ≡ u.2) t ts
      (code_first t ts h (All-head (λ t. t.2 < k.size) t ts in_range))
      (λ i d less. (let u = slice_index_or ts i d in
      code_other k.ops u.0 u.1 t ts (λ e. not_at t u (h.ascending.0 i d less) (sym e.0, sym e.1))
      ∙ code_of_each ts (terms_tail t ts h) (All-tail (λ t. t.2 < k.size) t ts in_range) i d less))

  -- ---- one list for the same sums

  no_terms : (t : ℕ × ℕ × ℕ) (ts : List (ℕ × ℕ × ℕ)) → IsTerms (t ∷ ts) → t.2 < k.size
      → code_at k.ops t.0 t.1 (t ∷ ts) ≡ 0 → ⊥
  no_terms t ts h t_in none = All-head (λ t. t.2 ≢ 0) t ts h.some (sym (code_first t ts h t_in) ∙ none)

  -- a term that comes before all of a list isn't there
  code_before : (t u : ℕ × ℕ × ℕ) (us : List (ℕ × ℕ × ℕ)) → IsTerms (u ∷ us) → (t.0 < u.0) ⊎ ((t.0 ≡ u.0) × (t.1 < u.1))
      → code_at k.ops t.0 t.1 (u ∷ us) ≡ 0
  code_before t u us h less =
      code_other k.ops t.0 t.1 u us (λ e. apart less e)
      ∙ code_none k.ops t.0 t.1 us (λ i d at. far less (slice_index_or us i d) (h.ascending.0 i d at))
    where
      apart : (t.0 < u.0) ⊎ ((t.0 ≡ u.0) × (t.1 < u.1)) → ¬ IsAt t.0 t.1 u
      apart (inl l) e = omega (arith, l, e.0)
      apart (inr l) e = omega (arith, l.1, e.1)

      far : (t.0 < u.0) ⊎ ((t.0 ≡ u.0) × (t.1 < u.1)) → (v : ℕ × ℕ × ℕ) → IsBefore u v → ¬ IsAt t.0 t.1 v
      far (inl l) v b e = omega (arith, l, b.0, e.0)
      far (inr l) v b e = let less = b.1 (sym l.0 ∙ sym e.0) in omega (arith, less, l.1, e.1)

  abbrev SameCodes : List (ℕ × ℕ × ℕ) → List (ℕ × ℕ × ℕ) → Type 0
  SameCodes ts us = (i j : ℕ) → code_at k.ops i j ts ≡ code_at k.ops i j us

  -- what is known of two lists of terms with the same sums
  record AreAlike (ts us : List (ℕ × ℕ × ℕ)) : Type 0 where
    terms : IsTerms ts
    others : IsTerms us
    terms_in : AreIn k.size ts
    others_in : AreIn k.size us
    same : SameCodes ts us

  same_exponents : (t u : ℕ × ℕ × ℕ) (ts us : List (ℕ × ℕ × ℕ)) → AreAlike (t ∷ ts) (u ∷ us) → (t.0 ≡ u.0) × (t.1 ≡ u.1)
  same_exponents t u ts us h = go (cases_lt t.0 u.0) (cases_lt u.0 t.0)
    where
      first : (t.0 < u.0) ⊎ ((t.0 ≡ u.0) × (t.1 < u.1)) → ⊥
      first less = no_terms t ts h.terms (All-head (λ t. t.2 < k.size) t ts h.terms_in)
          (h.same t.0 t.1 ∙ code_before t u us h.others less)

      second : (u.0 < t.0) ⊎ ((u.0 ≡ t.0) × (u.1 < t.1)) → ⊥
      second less = no_terms u us h.others (All-head (λ t. t.2 < k.size) u us h.others_in)
          (sym (h.same u.0 u.1) ∙ code_before u t ts h.terms less)

      rest : t.0 ≡ u.0 → (t.1 < u.1) ⊎ (u.1 ≤ t.1) → (u.1 < t.1) ⊎ (t.1 ≤ u.1) → (t.0 ≡ u.0) × (t.1 ≡ u.1)
      rest e (inl l) b = absurd (first (inr (e, l)))
      rest e (inr l) (inl m) = absurd (second (inr (sym e, m)))
      rest e (inr l) (inr m) = (e, omega arith)

      go : (t.0 < u.0) ⊎ (u.0 ≤ t.0) → (u.0 < t.0) ⊎ (t.0 ≤ u.0) → (t.0 ≡ u.0) × (t.1 ≡ u.1)
      go (inl l) b = absurd (first (inl l))
      go (inr l) (inl m) = absurd (second (inl m))
      go (inr l) (inr m) = rest (omega arith) (cases_lt t.1 u.1) (cases_lt u.1 t.1)

  same_term : (t u : ℕ × ℕ × ℕ) → t.0 ≡ u.0 → t.1 ≡ u.1 → t.2 ≡ u.2 → t ≡ u
  same_term t u a b c = λ i. (a i, b i, c i)

  same_terms_from : (ts us : List (ℕ × ℕ × ℕ)) → AreAlike ts us → ts ≡ us
  same_terms_from [] [] h = refl
  same_terms_from [] (u ∷ us) h = absurd
      (no_terms u us h.others (All-head (λ t. t.2 < k.size) u us h.others_in) (sym (h.same u.0 u.1)))
  same_terms_from (t ∷ ts) [] h = absurd
      (no_terms t ts h.terms (All-head (λ t. t.2 < k.size) t ts h.terms_in) (h.same t.0 t.1))
  same_terms_from (t ∷ ts) (u ∷ us) h =
      ap₂ (λ x xs. x ∷ xs) (same_term t u e.0 e.1 codes) (same_terms_from ts us (record {
        terms = terms_tail t ts h.terms;
        others = terms_tail u us h.others;
        terms_in = All-tail (λ t. t.2 < k.size) t ts h.terms_in;
        others_in = All-tail (λ t. t.2 < k.size) u us h.others_in;
        same = rest;
      }))
    where
      e : (t.0 ≡ u.0) × (t.1 ≡ u.1)
      e = same_exponents t u ts us h

      codes : t.2 ≡ u.2
      codes =
          sym (code_first t ts h.terms (All-head (λ t. t.2 < k.size) t ts h.terms_in)) ∙ h.same t.0 t.1
          ∙ ap₂ (λ i j. code_at k.ops i j (u ∷ us)) e.0 e.1
          ∙ code_first u us h.others (All-head (λ t. t.2 < k.size) u us h.others_in)

      rest : (i j : ℕ) → code_at k.ops i j ts ≡ code_at k.ops i j us
      rest i j = go (ℕ_discrete t.0 i) (ℕ_discrete t.1 j)
        where
          other : ¬ IsAt i j t → code_at k.ops i j ts ≡ code_at k.ops i j us
          other n =
              sym (code_other k.ops i j t ts n) ∙ h.same i j
              ∙ code_other k.ops i j u us (λ d. n (e.0 ∙ d.0, e.1 ∙ d.1))

          go : Dec (t.0 ≡ i) → Dec (t.1 ≡ j) → code_at k.ops i j ts ≡ code_at k.ops i j us
          go (no n) d = other (λ d. n d.0)
          go (yes a) (no n) = other (λ d. n d.1)
          go (yes a) (yes b) =
              ap₂ (λ i j. code_at k.ops i j ts) (sym a) (sym b) ∙ behind_first k.ops t ts h.terms
              ∙ sym (ap₂ (λ i j. code_at k.ops i j us) (sym (sym e.0 ∙ a)) (sym (sym e.1 ∙ b))
              ∙ behind_first k.ops u us h.others)

  -- terms with the same sums are the same
  pub same_terms : (ts us : List (ℕ × ℕ × ℕ)) → IsTerms ts → IsTerms us → AreIn k.size ts → AreIn k.size us
      → SameCodes ts us → ts ≡ us
  same_terms ts us h g h_in g_in same = same_terms_from ts us
      (record { terms = h; others = g; terms_in = h_in; others_in = g_in; same = same })

-- ---- the degree

-- exponents of x above the greatest have the code 0
pub code_above : (k : FieldOps) (i j : ℕ) (ts : List (ℕ × ℕ × ℕ)) → degree_in_x ts < j → code_at k i j ts ≡ 0
code_above k i j [] less = refl
code_above k i j (t ∷ ts) less = code_other k i j t ts (λ e. omega (arith, e.1)) ∙ code_above k i j ts (omega arith)

-- the greatest exponent of x is that of a term
pub greatest_term : (t : ℕ × ℕ × ℕ) (ts : List (ℕ × ℕ × ℕ))
    → (n : ℕ) × (n < length (t ∷ ts)) × ((get_or (t ∷ ts) n t).1 ≡ degree_in_x (t ∷ ts))
greatest_term t [] = (0, omega arith, omega arith)
greatest_term t (u ∷ us) = go (cases_lt t.1 (degree_in_x (u ∷ us))) (greatest_term u us)
  where
    other : (xs : List (ℕ × ℕ × ℕ)) (n : ℕ) (d e : ℕ × ℕ × ℕ) → n < length xs → get_or xs n d ≡ get_or xs n e
    other [] n d e less = absurd (omega arith)
    other (x ∷ xs) zero d e less = refl
    other (x ∷ xs) (suc n) d e less = other xs n d e (omega arith)

    go : (t.1 < degree_in_x (u ∷ us)) ⊎ (degree_in_x (u ∷ us) ≤ t.1)
        → (n : ℕ) × (n < length (u ∷ us)) × ((get_or (u ∷ us) n u).1 ≡ degree_in_x (u ∷ us))
        → (n : ℕ) × (n < length (t ∷ u ∷ us)) × ((get_or (t ∷ u ∷ us) n t).1 ≡ degree_in_x (t ∷ u ∷ us))
    go (inl less) g =
        let same = ap (λ (v : ℕ × ℕ × ℕ). v.1) (other (u ∷ us) g.0 t u g.1) in
        (suc g.0, omega (arith, g.1), omega (arith, g.2, same))
    go (inr le) g = (0, omega arith, omega arith)

-- where no term has y, the code at the greatest exponent isn't 0
pub code_on_top : (k : CodeField) (t : ℕ × ℕ × ℕ) (ts : List (ℕ × ℕ × ℕ)) → IsTerms (t ∷ ts) → AreIn k.size (t ∷ ts)
    → All (λ u. u.0 ≡ 0) (t ∷ ts) → code_at k.ops 0 (degree_in_x (t ∷ ts)) (t ∷ ts) ≢ 0
code_on_top k t ts h in_range no_y none =
    let top = greatest_term t ts in
    let u = slice_index_or (t ∷ ts) top.0 t in
    h.some top.0 t top.1 (sym (code_of_each k (t ∷ ts) h in_range top.0 t top.1)
    ∙ ap₂ (λ i j. code_at k.ops i j (t ∷ ts)) (no_y top.0 t top.1) top.2 ∙ none)
