-- Polynomials at the front of a line, with a word byte behind them and their blanks: there is one at most, and it is
-- the longest one.
use Rattle.std.proofs.Common.{◌≡◌, ◌≢◌, ℕ, true, false, ◌≤◌, List, [], ◌∷◌, ◌++◌, length, drop, sym, ap, subst, ◌∙◌, arith, inl, inr}
use Rattle.std.specs.List.{slice_range}
use Rattle.std.proofs.lemmas.Bool.{both_ways, cases_lt}
use Rattle.std.proofs.lemmas.List.{append-nil}
use Rattle.ff_text.specs.declared.terms.Term.{Term}
use Rattle.ff_text.specs.Spelling.{SpellsTerms}
use Rattle.ff_text.specs.Reading.{IsLongestSpelling, IsNoSpelling}
use Rattle.ff_script.specs.Grammar.{begins_with_word, ends_with_word}
use Rattle.ff_script.specs.Reading.{behind_blanks, IsTermsFront}
use Rattle.ff_script.proofs.Spans.{blanks_passed, blanks_same, some_gap_no_word}
use Rattle.ff_script.proofs.Spelled.{terms_solid}
use Rattle.ff_script.proofs.Steps.{front_here, no_front, front_short, split_at, range_length, shorter_front}
use Rattle.ff_script.proofs.WordRuns.{Outside, terms_run, run_ends, not_longer}

-- ---- one polynomial

-- a polynomial ends with a word byte
terms_end : (g : List Term) (bytes : List ℕ) → SpellsTerms false g bytes → ends_with_word bytes ≡ true
terms_end g [] h = absurd (terms_solid false g [] h).starts
terms_end g (b ∷ bs) h = run_ends Outside b bs (terms_run false g (b ∷ bs) h)

-- blanks stand between a polynomial and a word byte
gap_some : (bytes : List ℕ) (g : List Term) (rest : List ℕ) (f : IsTermsFront g bytes rest) → f.front.gap ≢ []
gap_some bytes g rest f none =
    let ended : begins_with_word (f.front.gap ++ rest) ≡ false = f.front.apart
    (terms_end g f.front.front f.front.part) in
    both_ways (begins_with_word rest) (ap (λ (t : List ℕ). begins_with_word (t ++ rest)) (sym none) ∙ ended) f.behind

-- a polynomial at the front that isn't shorter is the same
front_same : (bytes : List ℕ) (g h : List Term) (rest : List ℕ) (f : IsTermsFront g bytes rest) (long x : List ℕ)
    → SpellsTerms false h long → bytes ≡ long ++ x → length f.front.front ≤ length long
    → (long ≡ f.front.front) × (x ≡ f.front.gap ++ rest)
front_same bytes g h rest f long x spelled whole short =
    let c = shorter_front long x f.front.front (f.front.gap ++ rest) short (sym whole ∙ f.front.whole) in
    let none : c.0 ≡ [] = not_longer f.front.front c.0 f.front.gap rest x
    (terms_run false g f.front.front f.front.part)
    (terms_run false h (f.front.front ++ c.0) (subst (SpellsTerms false h) c.1 spelled)) f.front.blanks
    (gap_some bytes g rest f) f.behind c.2 in (
      c.1 ∙ ap (λ (t : List ℕ). f.front.front ++ t) none ∙ append-nil f.front.front,
      sym (c.2 ∙ ap (λ (t : List ℕ). t ++ x) none),
    )

pub term_fronts_one : (bytes : List ℕ) (g h : List Term) (r s : List ℕ) (f : IsTermsFront g bytes r)
    (k : IsTermsFront h bytes s) → (f.front.front ≡ k.front.front) × (r ≡ s)
term_fronts_one bytes g h r s f k = elim (cases_lt (length k.front.front) (length f.front.front)) [
  | inl lt ↦
      let both = front_same bytes h g s k f.front.front (f.front.gap ++ r) f.front.part f.front.whole (omega arith) in
      (both.0, blanks_same f.front.gap k.front.gap r s f.front.blanks k.front.blanks f.front.edge k.front.edge both.1)
  | inr le ↦
      let both = front_same bytes g h r f k.front.front (k.front.gap ++ s) k.front.part k.front.whole le in (
        sym both.0,
        blanks_same f.front.gap k.front.gap r s f.front.blanks k.front.blanks f.front.edge k.front.edge (sym both.1),
      )
]

-- ---- what the reader says

module _ (bytes : List ℕ) (h : List Term) (end : ℕ) (longest : IsLongestSpelling (SpellsTerms false) bytes 0 h end)
  where
    -- behind the longest polynomial stands what stands behind the one with a word byte
    behind_longest : (g : List Term) (rest : List ℕ) (f : IsTermsFront g bytes rest)
        → drop end bytes ≡ f.front.gap ++ rest
    behind_longest g rest f =
        let short : length f.front.front ≤ length (slice_range bytes 0 end) = omega (
          arith,
          front_short (SpellsTerms false) bytes h end longest g rest f.front,
          range_length bytes end longest.within,
        ) in
        (front_same bytes g h rest f (slice_range bytes 0 end) (drop end bytes) longest.spelled (split_at bytes end)
        short).1

    -- none is there where the longest one goes on with a word byte
    pub none_goes_on : begins_with_word (drop end bytes) ≡ true → (g : List Term) (rest : List ℕ)
        → IsTermsFront g bytes rest → ⊥
    none_goes_on on g rest f = both_ways (begins_with_word (drop end bytes))
        (ap begins_with_word (behind_longest g rest f)
        ∙ some_gap_no_word f.front.gap rest f.front.blanks (gap_some bytes g rest f)) on

    -- nor where none stands behind its blanks
    pub none_behind : begins_with_word (behind_blanks (drop end bytes)) ≡ false → (g : List Term) (rest : List ℕ)
        → IsTermsFront g bytes rest → ⊥
    none_behind off g rest f =
        let passed : behind_blanks (drop end bytes) ≡ rest = ap behind_blanks (behind_longest g rest f)
        ∙ blanks_passed f.front.gap rest f.front.blanks f.front.edge in
        both_ways (begins_with_word rest) (ap begins_with_word (sym passed) ∙ off) f.behind

    pub longest_terms_front : begins_with_word (drop end bytes) ≡ false
        → begins_with_word (behind_blanks (drop end bytes)) ≡ true
        → IsTermsFront h bytes (behind_blanks (drop end bytes))
    longest_terms_front off behind = record {
      front = front_here (SpellsTerms false h) bytes (slice_range bytes 0 end) (drop end bytes) longest.spelled
          (split_at bytes end) (λ k. off);
      behind = behind;
    }

pub no_terms_front : (bytes : List ℕ) → IsNoSpelling (SpellsTerms false) bytes 0 → (g : List Term) (rest : List ℕ)
    → IsTermsFront g bytes rest → ⊥
no_terms_front bytes none g rest f = no_front (SpellsTerms false) bytes none g rest f.front
