-- Polynomials that are printed are read again.
use Rattle.std.proofs.Common.{◌≡◌, ◌≢◌, ℕ, zero, suc, ◌<◌, ◌≤◌, List, [], ◌∷◌, ◌++◌, length, reverse, codes, Some, None, refl, sym, ap, subst, ◌∙◌, append_assoc, arith}
use Rattle.std.proofs.lemmas.Bool.{eq-eqb}
use Rattle.std.proofs.lemmas.List.{reverse-append, reverse-reverse, length-reverse}
use Rattle.std.proofs.lemmas.List.Elements.{All-head, All-tail}
use Rattle.ff_fields.specs.Code.{is_zero_code}
use Rattle.ring_lemmas.specs.Lists.{IsTrimmed}
use Rattle.ff_text.specs.Printed.{term_text, poly_text, IsPrintable}
use Rattle.ff_text.specs.PrintedWriting.{plus_text}
use Rattle.ff_text.specs.PrintedReading.{after_text, number_at, power_at, term_at, plus_at, on_top, codes_at, poly_at}
use Rattle.ff_text.proofs.PrintedFound.{some_is, no_none, text_again}
use Rattle.ff_text.proofs.PrintedLists.{top_text}
use Rattle.ff_text.proofs.PrintedTerms.{IsTermEnd, other_text, no_digit, term_again}
use Rattle.ff_text.proofs.PrintedCodes.{ReadTerm, codes_skip, codes_take}
use Rattle.ff_text.proofs.PrintedPolys.{IsSmall, All-reverse, differ}

-- ---- what may follow

-- what may stand behind a polynomial
pub record IsPolyEnd (rest : List ℕ) : Type 0 where
  pub term_end : IsTermEnd rest
  pub plus : after_text (codes " + ") rest ≡ None

plus_end : (bs : List ℕ) → IsTermEnd (codes " + " ++ bs)
plus_end bs = record {
  power_end = record { digit = no_digit 32 (43 ∷ 32 ∷ bs) refl; power = other_text 94 32 [] (43 ∷ 32 ∷ bs) refl };
  product = other_text 42 32 [] (43 ∷ 32 ∷ bs) refl;
}

behind_end : (cs rest : List ℕ) → IsTermEnd rest → IsTermEnd (plus_text cs ++ rest)
behind_end [] rest end = end
behind_end (zero ∷ cs) rest end = behind_end cs rest end
behind_end (suc c ∷ cs) rest end = plus_end ((term_text (suc c) (length cs) ++ plus_text cs) ++ rest)

-- ---- lower terms

plus_again : (c j : ℕ) (rest : List ℕ) → 1 ≤ c → c < 65536 → j ≤ 1024 → IsTermEnd rest
    → plus_at ((codes " + " ++ term_text c j) ++ rest) ≡ Some ((c, j), rest)
unfolding plus_at
plus_again c j rest least small degree end = rw (text_again (codes " + ") (term_text c j ++ rest))
    (term_again c j rest least small degree end)

next_again : (c : ℕ) (cs rest : List ℕ) → IsSmall (suc c ∷ cs) → length cs ≤ 1024 → IsTermEnd rest
    → plus_at (plus_text (suc c ∷ cs) ++ rest) ≡ Some ((suc c, length cs), plus_text cs ++ rest)
next_again c cs rest small degree end =
    ap plus_at (append_assoc (codes " + " ++ term_text (suc c) (length cs)) (plus_text cs) rest)
    ∙ plus_again (suc c) (length cs) (plus_text cs ++ rest) (omega arith) (All-head (λ c. c < 65536) (suc c) cs small)
    degree (behind_end cs rest end)

-- the next term has a degree below that of all codes
next_below : (cs rest : List ℕ) → IsSmall cs → length cs ≤ 1025 → IsPolyEnd rest → (t : ReadTerm)
    → plus_at (plus_text cs ++ rest) ≡ Some t → t.0.1 < length cs
unfolding plus_at
next_below [] rest small short end t e = absurd (no_none (sym e ∙ rw end.plus refl))
next_below (zero ∷ cs) rest small short end t e =
    let below = next_below cs rest (All-tail (λ c. c < 65536) zero cs small) (omega arith) end t e in
    omega (arith, below)
next_below (suc c ∷ cs) rest small short end t e =
    let same = some_is ((suc c, length cs), plus_text cs ++ rest) t
    (sym (next_again c cs rest small (omega arith) end.term_end) ∙ e) in
    omega (arith, ap (λ (u : ReadTerm). u.0.1) same)

codes_again : (cs rest : List ℕ) → IsSmall cs → length cs ≤ 1025 → IsPolyEnd rest
    → codes_at (length cs) (plus_text cs ++ rest) ≡ (cs, rest)
unfolding codes_at
codes_again [] rest small short end = refl
codes_again (zero ∷ cs) rest small short end =
    let others = All-tail (λ c. c < 65536) zero cs small in
    codes_skip (length cs) (plus_text cs ++ rest)
    (λ t e same. let below = next_below cs rest others (omega arith) end t e in omega (arith, below))
    ∙ ap (on_top 0) (codes_again cs rest others (omega arith) end)
codes_again (suc c ∷ cs) rest small short end =
    codes_take (length cs) (plus_text (suc c ∷ cs) ++ rest) ((suc c, length cs), plus_text cs ++ rest)
    (next_again c cs rest small (omega arith) end.term_end) refl
    ∙ ap (on_top (suc c)) (codes_again cs rest (All-tail (λ c. c < 65536) (suc c) cs small) (omega arith) end)

-- ---- polynomials

zero_again : (rest : List ℕ) → poly_at (codes "0" ++ rest) ≡ Some ([], rest)
unfolding poly_at term_at number_at power_at after_text
zero_again rest = refl

top_again : (c : ℕ) (cs rest : List ℕ) → c ≢ 0 → IsSmall (c ∷ cs) → length cs ≤ 1024 → IsPolyEnd rest
    → poly_at ((term_text c (length cs) ++ plus_text cs) ++ rest) ≡ Some (reverse (c ∷ cs), rest)
unfolding poly_at
top_again c cs rest some small degree end =
    let one : term_at (term_text c (length cs) ++ (plus_text cs ++ rest))
    ≡ Some ((c, length cs), plus_text cs ++ rest) =
    term_again c (length cs) (plus_text cs ++ rest) (omega arith) (All-head (λ c. c < 65536) c cs small) degree
    (behind_end cs rest end.term_end) in
    let others = codes_again cs rest (All-tail (λ c. c < 65536) c cs small) (omega arith) end in
    ap poly_at (append_assoc (term_text c (length cs)) (plus_text cs) rest) ∙ rw (one, others) refl

trimmed_top : (xs : List ℕ) (c : ℕ) → IsTrimmed is_zero_code (xs ++ c ∷ []) → c ≢ 0
trimmed_top [] c trimmed none = differ (is_zero_code c) trimmed (eq-eqb c 0 none)
trimmed_top (x ∷ []) c trimmed none = differ (is_zero_code c) trimmed (eq-eqb c 0 none)
trimmed_top (x ∷ y ∷ ys) c trimmed none = trimmed_top (y ∷ ys) c trimmed none

pub poly_again : (p rest : List ℕ) → IsPrintable p → IsPolyEnd rest → poly_at (poly_text p ++ rest) ≡ Some (p, rest)
poly_again [] rest is end = zero_again rest
poly_again (a ∷ bs) rest is end = go (reverse (a ∷ bs)) refl
  where
    go : (ds : List ℕ) → reverse (a ∷ bs) ≡ ds → poly_at (poly_text (a ∷ bs) ++ rest) ≡ Some (a ∷ bs, rest)
    go [] e = absurd (omega (arith, ap length e, length-reverse (a ∷ bs)))
    go (c ∷ cs) e =
        let back : a ∷ bs ≡ reverse (c ∷ cs) = sym (reverse-reverse (a ∷ bs)) ∙ ap reverse e in
        let some : c ≢ 0 = trimmed_top (reverse cs) c
        (subst (IsTrimmed is_zero_code) (back ∙ reverse-append (c ∷ []) cs) is.poly.trimmed) in
        let small : IsSmall (c ∷ cs) = subst IsSmall e (All-reverse (λ c. c < 65536) (a ∷ bs) is.small) in
        ap (λ t. poly_at (t ++ rest)) (top_text c cs some (a ∷ bs) e)
        ∙ top_again c cs rest some small (omega (arith, is.short, ap length e, length-reverse (a ∷ bs))) end
        ∙ ap (λ p. Some (p, rest)) (sym back)
