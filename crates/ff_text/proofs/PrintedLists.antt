-- The terms of a list of codes, and how they are written one after the other.
use Rattle.std.proofs.Common.{◌≡◌, ◌≢◌, ℕ, zero, suc, ◌-◌, ◌<◌, ◌≤◌, List, [], ◌∷◌, ◌++◌, length, take, get_or, reverse, codes, Some, refl, sym, ap, ◌∙◌, append_assoc, arith}
use Rattle.std.proofs.Math.Seq.{take-suc}
use Rattle.std.proofs.lemmas.List.{reverse-append, length-reverse, length-take-le, take_all}
use Rattle.std.specs.List.{join_by}
use Rattle.ff_poly.specs.Words.{degree_of}
use Rattle.ff_text.specs.Printed.{term_text, terms_down, poly_text, den_text, denominator_text}
use Rattle.ff_text.specs.PrintedWriting.{plus_text}
use Rattle.ff_text.proofs.PrintedFound.{some_is}

pub down_some : (c : ℕ) (cs : List ℕ) → c ≢ 0 → terms_down (c ∷ cs) ≡ (c, length cs) ∷ terms_down cs
down_some zero cs some = absurd (some refl)
down_some (suc c) cs some = refl

pub down_zero : (c : ℕ) (cs : List ℕ) → c ≡ 0 → terms_down (c ∷ cs) ≡ terms_down cs
down_zero zero cs e = refl
down_zero (suc c) cs e = absurd (omega arith)

pub plus_some : (c : ℕ) (cs : List ℕ) → c ≢ 0
    → plus_text (c ∷ cs) ≡ (codes " + " ++ term_text c (length cs)) ++ plus_text cs
plus_some c cs some = rw (down_some c cs some) refl

pub plus_zero : (c : ℕ) (cs : List ℕ) → c ≡ 0 → plus_text (c ∷ cs) ≡ plus_text cs
plus_zero c cs e = rw (down_zero c cs e) refl

-- ---- the codes below a degree, from the top down

pub reverse_take : (p : List ℕ) (i : ℕ) → i < length p → reverse (take (suc i) p) ≡ get_or p i 0 ∷ reverse (take i p)
reverse_take p i lt = ap reverse (take-suc p i 0 lt) ∙ reverse-append (take i p) (get_or p i 0 ∷ [])

length_reverse_take : (p : List ℕ) (i : ℕ) → i ≤ length p → length (reverse (take i p)) ≡ i
length_reverse_take p i le = length-reverse (take i p) ∙ length-take-le i p le

-- what one more term makes of a text
pub plus_more : (out p : List ℕ) (c i j : ℕ) → j ≡ suc i → i < length p → c ≡ get_or p i 0 → c ≢ 0
    → ((out ++ codes " + ") ++ term_text c i) ++ plus_text (reverse (take i p)) ≡ out ++ plus_text (reverse (take j p))
plus_more out p c i j e lt is some =
    let long : length (reverse (take i p)) ≡ i = length_reverse_take p i (omega arith) in
    let next : reverse (take j p) ≡ c ∷ reverse (take i p) = ap (λ n. reverse (take n p)) e ∙ reverse_take p i lt
    ∙ ap (λ d. d ∷ reverse (take i p)) (sym is) in
    let text : plus_text (reverse (take j p)) ≡ (codes " + " ++ term_text c i) ++ plus_text (reverse (take i p)) =
    ap plus_text next ∙ plus_some c (reverse (take i p)) some
    ∙ ap (λ n. (codes " + " ++ term_text c n) ++ plus_text (reverse (take i p))) long in
    append_assoc (out ++ codes " + ") (term_text c i) (plus_text (reverse (take i p)))
    ∙ append_assoc out (codes " + ") (term_text c i ++ plus_text (reverse (take i p)))
    ∙ ap (λ t. out ++ t) (sym (append_assoc (codes " + ") (term_text c i) (plus_text (reverse (take i p)))) ∙ sym text)

-- a list of codes from the top down, the first of them not 0
pub top_text : (c : ℕ) (cs : List ℕ) → c ≢ 0 → (p : List ℕ) → reverse p ≡ c ∷ cs
    → poly_text p ≡ term_text c (length cs) ++ plus_text cs
top_text c cs some [] e = absurd cc
top_text c cs some (a ∷ bs) e = ap (λ l. join_by (λ (t : ℕ × ℕ). term_text t.0 t.1) (codes " + ") (terms_down l)) e
    ∙ rw (down_some c cs some) refl

-- the text of a polynomial by its term on top
pub poly_first : (p : List ℕ) (d c : ℕ) → degree_of p ≡ Some d → c ≡ get_or p (length p - 1) 0 → c ≢ 0
    → poly_text p ≡ term_text c d ++ plus_text (reverse (take d p))
poly_first [] d c e is some = absurd cc
poly_first (a ∷ bs) d c e is some =
    let top : length bs ≡ d = some_is (length bs) d e in
    let code : c ≡ get_or (a ∷ bs) d 0 = is ∙ ap (λ i. get_or (a ∷ bs) i 0) (omega arith) in
    let long : length (reverse (take d (a ∷ bs))) ≡ d = length_reverse_take (a ∷ bs) d (omega arith) in
    let whole : reverse (a ∷ bs) ≡ c ∷ reverse (take d (a ∷ bs)) =
    ap reverse (sym (take_all (suc d) (a ∷ bs) (omega arith))) ∙ reverse_take (a ∷ bs) d (omega arith)
    ∙ ap (λ x. x ∷ reverse (take d (a ∷ bs))) (sym code) in
    top_text c (reverse (take d (a ∷ bs))) some (a ∷ bs) whole
    ∙ ap (λ n. term_text c n ++ plus_text (reverse (take d (a ∷ bs)))) long

pub length_from_degree : (p : List ℕ) (d : ℕ) → degree_of p ≡ Some d → length p ≡ suc d
length_from_degree [] d e = absurd cc
length_from_degree (c ∷ cs) d e = ap suc (some_is (length cs) d e)

-- ---- denominators

pub over_written : (d : List ℕ) → d ≢ 1 ∷ [] → denominator_text d ≡ codes "/" ++ den_text d
over_written [] other = refl
over_written (zero ∷ []) other = refl
over_written (suc zero ∷ []) other = absurd (other refl)
over_written (suc (suc c) ∷ []) other = refl
over_written (zero ∷ b ∷ bs) other = refl
over_written (suc zero ∷ b ∷ bs) other = refl
over_written (suc (suc c) ∷ b ∷ bs) other = refl
