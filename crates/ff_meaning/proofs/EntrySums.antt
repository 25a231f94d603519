-- The sums of an element's entries, and their polynomials, an entry at a time.
use Rattle.std.proofs.Common.{◌≡◌, ℕ, zero, suc, ◌+◌, ◌<◌, ◌≤◌, List, [], ◌∷◌, ◌++◌, length, get_or, take, drop, refl, sym, ap, ◌∙◌, subst, arith, All, Option}
use Rattle.std.specs.Prelude.{find, nat_le, flat_map}
use Rattle.std.proofs.lemmas.List.{take_more, at_drop_more}
use Rattle.std.proofs.lemmas.List.Elements.{All-nil, All-cons, All-append}
use Rattle.ff_fields.specs.Field.{FieldOps}
use Rattle.ff_algebra.specs.CurveTerms.{IsCoefficient, degree_in_x}
use Rattle.ff_text.specs.declared.terms.Term.{Term}
use Rattle.ff_text.specs.declared.terms.ElemText.{ElemText}
use Rattle.ff_text.specs.Values.{written_codes}
use Rattle.ff_text.proofs.Gathered.{found_front, found_behind}
use Rattle.ff_meaning.specs.declared.refusal.Refusal.{Refusal}
use Rattle.ff_meaning.specs.Meaning.{codes_of_den, codes_of_element, AreCodesBelow, IsSumOf}
use Rattle.ff_meaning.specs.Refusals.{IsCodeRow}
use Rattle.ff_meaning.specs.Elements.{greatest_in_x, AreSumsOf, AreCoefficients}

abbrev Terms : Type 0
Terms = List (ℕ × ℕ × ℕ)

abbrev Entries : Type 0
Entries = List (List Term)

-- ---- sums

module _ (k : FieldOps) where
  sums_push : (es : Entries) (ss : List Terms) (e : List Term) (s : Terms) → AreSumsOf k es ss → IsSumOf k e s
      → AreSumsOf k (es ++ e ∷ []) (ss ++ s ∷ [])
  sums_push [] ss e s h one = rw h (one, refl)
  sums_push (f ∷ es) [] e s h one = absurd h
  sums_push (f ∷ es) (t ∷ ss) e s h one = (h.0, sums_push es ss e s h.1 one)

  pub sums_more : (es : Entries) (i : ℕ) (ss more : List Terms) (e : List Term) (s : Terms) → i < length es
      → e ≡ get_or es i e → AreSumsOf k (take i es) ss → IsSumOf k e s → more ≡ ss ++ s ∷ []
      → AreSumsOf k (take (i + 1) es) more
  sums_more es i ss more e s less at h one more_is =
      rw (take_more es i e less, more_is)
      (subst (λ f. AreSumsOf k (take i es ++ f ∷ []) (ss ++ s ∷ [])) at (sums_push (take i es) ss e s h one))

  pub length_sums : (es : Entries) (ss : List Terms) → AreSumsOf k es ss → length ss ≡ length es
  length_sums [] ss h = rw h refl
  length_sums (e ∷ es) [] h = absurd h
  length_sums (e ∷ es) (s ∷ ss) h = ap suc (length_sums es ss h.1)

  pub codes_below : (es : Entries) (ss : List Terms) → AreSumsOf k es ss
      → AreCodesBelow k.size (flat_map written_codes es)
  codes_below [] ss h = All-nil (λ c. c < k.size)
  codes_below (e ∷ es) [] h = absurd h
  codes_below (e ∷ es) (s ∷ ss) h = All-append (λ c. c < k.size) (written_codes e) (flat_map written_codes es)
      h.0.written (codes_below es ss h.1)

  pub sums_in : (es : Entries) (ss : List Terms) → AreSumsOf k es ss → All (All (λ t. t.2 < k.size)) ss
  sums_in [] ss h = rw h (All-nil (All (λ t. t.2 < k.size)))
  sums_in (e ∷ es) [] h = absurd h
  sums_in (e ∷ es) (s ∷ ss) h = All-cons (All (λ t. t.2 < k.size)) s ss h.0.codes_in (sums_in es ss h.1)

-- ---- the first code that is too great

module _ (size : ℕ) where
  -- the first in the entries is the first in those from i on
  abbrev pub IsFoundFrom : Entries → ℕ → Type 0
  IsFoundFrom es i = find (λ d. nat_le size d) (flat_map written_codes (drop i es))
      ≡ find (λ d. nat_le size d) (flat_map written_codes es)

  split : (es : Entries) (i : ℕ) (e : List Term) → i < length es → e ≡ get_or es i e
      → find (λ d. nat_le size d) (flat_map written_codes (drop i es))
      ≡ find (λ d. nat_le size d) (written_codes e ++ flat_map written_codes (drop (i + 1) es))
  split es i e less at =
      at_drop_more (λ fs. find (λ d. nat_le size d) (flat_map written_codes fs)) es i e less
      ∙ ap (λ f. find (λ d. nat_le size d) (written_codes f ++ flat_map written_codes (drop (i + 1) es))) (sym at)

  pub found_more : (es : Entries) (i : ℕ) (e : List Term) → i < length es → e ≡ get_or es i e
      → AreCodesBelow size (written_codes e) → IsFoundFrom es i → IsFoundFrom es (i + 1)
  found_more es i e less at below found = sym
      (split es i e less at ∙ found_behind size (written_codes e) (flat_map written_codes (drop (i + 1) es)) below)
      ∙ found

  pub row_of_entry : (es : Entries) (i : ℕ) (e : List Term) (r : Refusal) → i < length es → e ≡ get_or es i e
      → IsFoundFrom es i → IsCodeRow size (written_codes e) r → IsCodeRow size (flat_map written_codes es) r
  row_of_entry es i e r less at found row = (
    row.0,
    sym found ∙ split es i e less at
        ∙ found_front size (written_codes e) (flat_map written_codes (drop (i + 1) es)) row.0 row.1,
    row.2,
  )

  -- the first in the entries or, where there is none, in the denominator is the first in the element
  pub row_of_entries : (e : ElemText) (es : Entries) (r : Refusal) → es ≡ e.entries
      → IsCodeRow size (flat_map written_codes es) r → IsCodeRow size (codes_of_element e) r
  row_of_entries e es r same row = (
    row.0,
    found_front size (flat_map written_codes e.entries) (codes_of_den e.den) row.0
        (ap (λ fs. find (λ d. nat_le size d) (flat_map written_codes fs)) (sym same) ∙ row.1),
    row.2,
  )

  pub row_of_den : (e : ElemText) (o : Option (List Term)) (r : Refusal) → o ≡ e.den
      → AreCodesBelow size (flat_map written_codes e.entries) → IsCodeRow size (codes_of_den o) r
      → IsCodeRow size (codes_of_element e) r
  row_of_den e o r same below row = (
    row.0,
    found_behind size (flat_map written_codes e.entries) (codes_of_den e.den) below
        ∙ ap (λ o. find (λ d. nat_le size d) (codes_of_den o)) (sym same) ∙ row.1,
    row.2,
  )

-- ---- polynomials

pub low_each : (ss : List Terms) (i : ℕ) (s : Terms) → i < length ss → s ≡ get_or ss i s
    → degree_in_x s ≤ greatest_in_x ss
low_each ss i s less at = let h = go ss i less in let e = ap degree_in_x at in omega (arith, h, e)
  where
    go : (ss : List Terms) (i : ℕ) → i < length ss → degree_in_x (get_or ss i s) ≤ greatest_in_x ss
    go [] i less = absurd (omega arith)
    go (t ∷ ss) zero less = omega arith
    go (t ∷ ss) (suc i) less = let h = go ss i (omega arith) in omega (arith, h)

module _ (k : FieldOps) where
  coefficients_push : (ss : List Terms) (ps : List (List ℕ)) (s : Terms) (p : List ℕ) → AreCoefficients k ss ps
      → IsCoefficient k s 0 p → AreCoefficients k (ss ++ s ∷ []) (ps ++ p ∷ [])
  coefficients_push [] ps s p h one = rw h (one, refl)
  coefficients_push (t ∷ ss) [] s p h one = absurd h
  coefficients_push (t ∷ ss) (q ∷ ps) s p h one = (h.0, coefficients_push ss ps s p h.1 one)

  pub coefficients_more : (ss : List Terms) (i : ℕ) (ps more : List (List ℕ)) (s : Terms) (p : List ℕ) → i < length ss
      → s ≡ get_or ss i s → AreCoefficients k (take i ss) ps → IsCoefficient k s 0 p → more ≡ ps ++ p ∷ []
      → AreCoefficients k (take (i + 1) ss) more
  coefficients_more ss i ps more s p less at h one more_is =
      rw (take_more ss i s less, more_is)
      (subst (λ f. AreCoefficients k (take i ss ++ f ∷ []) (ps ++ p ∷ [])) at
      (coefficients_push (take i ss) ps s p h one))

  pub length_coefficients : (ss : List Terms) (ps : List (List ℕ)) → AreCoefficients k ss ps → length ps ≡ length ss
  length_coefficients [] ps h = rw h refl
  length_coefficients (s ∷ ss) [] h = absurd h
  length_coefficients (s ∷ ss) (p ∷ ps) h = ap suc (length_coefficients ss ps h.1)
