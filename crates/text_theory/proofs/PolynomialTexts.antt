-- A polynomial is told by its text.
use Rattle.std.proofs.Common.{◌≡◌, ◌≢◌, ℕ, zero, suc, ◌-◌, ◌^◌, ◌<◌, ◌≤◌, Bool, true, eqb, ◌||◌, List, [], ◌∷◌, length, get_or, reverse, codes, All, refl, sym, ap, ap₂, subst, ◌∙◌, arith}
use Rattle.std.specs.Fmt.{decimal}
use Rattle.std.specs.List.{join_by}
use Rattle.std.proofs.lemmas.Fmt.{decimal_digit}
use Rattle.std.proofs.lemmas.List.{append-nil, reverse-reverse, length-reverse, get_or-reverse}
use Rattle.std.proofs.lemmas.List.Elements.{All-nil, All-cons, All-head, All-tail, All-weaker}
use Rattle.ff_poly.specs.Words.{IsPoly}
use Rattle.ff_poly.proofs.Quotients.{top_some}
use Rattle.ff_text.specs.Printed.{term_text, terms_down, poly_text}
use Rattle.ff_text.proofs.PrintedPolys.{All-reverse}
use Rattle.text_theory.specs.WrittenInFull.{IsWrittenInFull}
use Rattle.text_theory.proofs.JoinedTexts.{AllIn, AreTold, same_parts, one_joined, joined_in}
use Rattle.text_theory.proofs.TermTexts.{IsShortTerm, one_term, term_some, is_term_byte, term_bytes}

-- ---- the terms of a list of codes

down_below : (cs : List ℕ) (t : ℕ × ℕ) (ts : List (ℕ × ℕ)) → terms_down cs ≡ t ∷ ts → t.1 < length cs
down_below [] t ts e = absurd cc
down_below (zero ∷ cs) t ts e = omega (arith, down_below cs t ts e)
down_below (suc c ∷ cs) t ts e =
    let first = same_parts (suc c, length cs) t (terms_down cs) ts e in
    omega (arith, ap (λ (u : ℕ × ℕ). u.1) first.0)

one_down : (cs ds : List ℕ) → length cs ≡ length ds → terms_down cs ≡ terms_down ds → cs ≡ ds
one_down [] [] long e = refl
one_down [] (d ∷ ds) long e = absurd (omega arith)
one_down (c ∷ cs) [] long e = absurd (omega arith)
one_down (zero ∷ cs) (zero ∷ ds) long e = ap (λ xs. 0 ∷ xs) (one_down cs ds (omega arith) e)
one_down (zero ∷ cs) (suc d ∷ ds) long e =
    absurd (omega (arith, down_below cs (suc d, length ds) (terms_down ds) e))
one_down (suc c ∷ cs) (zero ∷ ds) long e =
    absurd (omega (arith, down_below ds (suc c, length cs) (terms_down cs) (sym e)))
one_down (suc c ∷ cs) (suc d ∷ ds) long e =
    let first = same_parts (suc c, length cs) (suc d, length ds) (terms_down cs) (terms_down ds) e in
    ap₂ (λ (x : ℕ) (xs : List ℕ). x ∷ xs) (ap (λ (u : ℕ × ℕ). u.0) first.0) (one_down cs ds (omega arith) first.1)

short_down : (cs : List ℕ) → All (λ c. c < 10 ^ 64) cs → length cs ≤ 10 ^ 64 → All IsShortTerm (terms_down cs)
short_down [] small short = All-nil IsShortTerm
short_down (zero ∷ cs) small short = short_down cs (All-tail (λ c. c < 10 ^ 64) zero cs small) (omega arith)
short_down (suc c ∷ cs) small short =
    All-cons IsShortTerm (suc c, length cs) (terms_down cs)
    (record { code = All-head (λ c. c < 10 ^ 64) (suc c) cs small; degree = omega arith })
    (short_down cs (All-tail (λ c. c < 10 ^ 64) (suc c) cs small) (omega arith))

-- ---- the terms of a polynomial

-- the terms that are written, the code 0 at degree 0 for 0
abbrev written_terms : List ℕ → List (ℕ × ℕ)
written_terms [] = (0, 0) ∷ []
written_terms (c ∷ cs) = terms_down (reverse (c ∷ cs))

terms_joined : (p : List ℕ) → poly_text p ≡ join_by (λ t. term_text t.0 t.1) (codes " + ") (written_terms p)
terms_joined [] = sym (append-nil (decimal 0) ∙ decimal_digit 0 (omega arith))
terms_joined (c ∷ cs) = refl

short_terms : (p : List ℕ) → IsWrittenInFull p → All IsShortTerm (written_terms p)
short_terms [] is = All-cons IsShortTerm (0, 0) [] (record { code = omega arith; degree = omega arith })
    (All-nil IsShortTerm)
short_terms (c ∷ cs) is = short_down (reverse (c ∷ cs)) (All-reverse (λ c. c < 10 ^ 64) (c ∷ cs) is.codes)
    (omega (arith, is.degree, length-reverse (c ∷ cs)))

-- from the top down, the first code of a polynomial that isn't 0 is none
top_down : (p : List ℕ) → IsPoly p → p ≢ [] → (c : ℕ) × (cs : List ℕ) × (reverse p ≡ suc c ∷ cs)
top_down p poly some = go (reverse p) refl
  where
    top : (0 < length p) × (get_or p (length p - 1) 0 ≢ 0)
    top = top_some p poly some

    first : get_or (reverse p) 0 0 ≡ get_or p (length p - 1) 0
    first = get_or-reverse p 0 0 top.0 ∙ ap (λ n. get_or p n 0) (omega arith)

    go : (ds : List ℕ) → reverse p ≡ ds → (c : ℕ) × (cs : List ℕ) × (reverse p ≡ suc c ∷ cs)
    go [] e = absurd (top.1 (sym first ∙ ap (λ ds. get_or ds 0 0) e))
    go (zero ∷ cs) e = absurd (top.1 (sym first ∙ ap (λ ds. get_or ds 0 0) e))
    go (suc c ∷ cs) e = (c, cs, e)

same_reverse : (p q : List ℕ) → reverse p ≡ reverse q → p ≡ q
same_reverse p q e = sym (reverse-reverse p) ∙ ap reverse e ∙ reverse-reverse q

one_top_down : (p q : List ℕ) → IsPoly p → IsPoly q → p ≢ [] → q ≢ [] → terms_down (reverse p) ≡ terms_down (reverse q)
    → p ≡ q
one_top_down p q p_poly q_poly p_some q_some e =
    let a = top_down p p_poly p_some in
    let b = top_down q q_poly q_some in
    let whole : terms_down (suc a.0 ∷ a.1) ≡ terms_down (suc b.0 ∷ b.1) =
    ap terms_down (sym a.2) ∙ e ∙ ap terms_down b.2 in
    let first = same_parts (suc a.0, length a.1) (suc b.0, length b.1) (terms_down a.1) (terms_down b.1) whole in
    let long : length a.1 ≡ length b.1 = ap (λ (u : ℕ × ℕ). u.1) first.0 in
    same_reverse p q (a.2 ∙ one_down (suc a.0 ∷ a.1) (suc b.0 ∷ b.1) (ap suc long) whole ∙ sym b.2)

not_zero_terms : (p : List ℕ) → IsPoly p → p ≢ [] → terms_down (reverse p) ≢ (0, 0) ∷ []
not_zero_terms p poly some e =
    let a = top_down p poly some in
    let first = same_parts (suc a.0, length a.1) (0, 0) (terms_down a.1) [] (ap terms_down (sym a.2) ∙ e) in
    omega (arith, ap (λ (u : ℕ × ℕ). u.0) first.0)

one_by_terms : (p q : List ℕ) → IsPoly p → IsPoly q → written_terms p ≡ written_terms q → p ≡ q
one_by_terms [] [] p_poly q_poly e = refl
one_by_terms [] (d ∷ ds) p_poly q_poly e = absurd (not_zero_terms (d ∷ ds) q_poly (λ none. absurd cc) (sym e))
one_by_terms (c ∷ cs) [] p_poly q_poly e = absurd (not_zero_terms (c ∷ cs) p_poly (λ none. absurd cc) e)
one_by_terms (c ∷ cs) (d ∷ ds) p_poly q_poly e =
    one_top_down (c ∷ cs) (d ∷ ds) p_poly q_poly (λ none. absurd cc) (λ none. absurd cc) e

-- ---- the laws of polynomials

terms_told : AreTold IsShortTerm (λ t. term_text t.0 t.1) is_term_byte 32 (codes "+ ")
terms_told = record { within = term_bytes; some = term_some; one = one_term; outside = refl }

pub one_poly : (p q : List ℕ) → IsWrittenInFull p → IsWrittenInFull q → poly_text p ≡ poly_text q → p ≡ q
one_poly p q p_is q_is e =
    one_by_terms p q p_is.poly q_is.poly
    (one_joined IsShortTerm (λ t. term_text t.0 t.1) is_term_byte 32 (codes "+ ") terms_told (written_terms p)
    (written_terms q) (short_terms p p_is) (short_terms q q_is) (sym (terms_joined p) ∙ e ∙ terms_joined q))

terms_some : (p : List ℕ) → IsPoly p → written_terms p ≢ []
terms_some [] poly none = cc
terms_some (c ∷ cs) poly none =
    let a = top_down (c ∷ cs) poly (λ empty. absurd cc) in
    let empty : terms_down (suc a.0 ∷ a.1) ≡ [] = ap terms_down (sym a.2) ∙ none in
    cc

pub poly_some : (p : List ℕ) → IsWrittenInFull p → poly_text p ≢ []
poly_some p is none = terms_some p is.poly
    (one_joined IsShortTerm (λ t. term_text t.0 t.1) is_term_byte 32 (codes "+ ") terms_told (written_terms p) []
    (short_terms p is) (All-nil IsShortTerm) (sym (terms_joined p) ∙ none))

-- a byte of terms, ` ` or `+`
abbrev pub is_poly_byte : ℕ → Bool
is_poly_byte b = is_term_byte b || (eqb b 32 || eqb b 43)

pub poly_bytes : (p : List ℕ) → IsWrittenInFull p → AllIn is_poly_byte (poly_text p)
poly_bytes p is =
    let P : ℕ → Type 0 = λ b. is_poly_byte b ≡ true in
    subst (AllIn is_poly_byte) (sym (terms_joined p))
    (joined_in IsShortTerm (λ t. term_text t.0 t.1) is_poly_byte 32 (codes "+ ")
    (λ t short. All-weaker (λ b. is_term_byte b ≡ true) P (λ b is. rw is refl) (term_text t.0 t.1) (term_bytes t short))
    (All-cons P 32 (43 ∷ 32 ∷ []) refl (All-cons P 43 (32 ∷ []) refl (All-cons P 32 [] refl (All-nil P))))
    (written_terms p) (short_terms p is))
