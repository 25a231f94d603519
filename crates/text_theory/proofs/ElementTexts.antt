-- An element is told by its text.
use Rattle.std.proofs.Common.{◌≡◌, ◌≢◌, ℕ, zero, suc, Bool, true, false, cond, eqb, ltb, ◌||◌, List, [], ◌∷◌, ◌++◌, codes, All, refl, sym, ap, ap₂, subst, ◌∙◌, ◌⊎◌, inl, inr}
use Rattle.std.specs.List.{join_by}
use Rattle.std.proofs.lemmas.List.{append_cancel_right}
use Rattle.std.proofs.lemmas.List.Elements.{All-nil, All-cons, All-head, All-weaker}
use Rattle.ff_text.specs.Printed.{WrittenValue, poly_text, term_count, den_text, denominator_text, elem_text}
use Rattle.ff_text.proofs.PrintedLists.{over_written}
use Rattle.text_theory.specs.WrittenInFull.{IsWrittenInFull, IsElemWrittenInFull}
use Rattle.text_theory.proofs.JoinedTexts.{AllIn, AreTold, same_parts, one_front, one_joined, joined_in}
use Rattle.text_theory.proofs.PolynomialTexts.{one_poly, poly_some, is_poly_byte, poly_bytes}

-- ---- denominators

no_parenthesis : (p more : List ℕ) → IsWrittenInFull p → poly_text p ≢ 40 ∷ more
no_parenthesis p more is e =
    let first : is_poly_byte 40 ≡ true =
    All-head (λ b. is_poly_byte b ≡ true) 40 more (subst (AllIn is_poly_byte) e (poly_bytes p is)) in
    cc

one_by_count : (a b : Bool) (d e : List ℕ) → IsWrittenInFull d → IsWrittenInFull e
    → cond a (codes "(" ++ (poly_text d ++ codes ")")) (poly_text d)
    ≡ cond b (codes "(" ++ (poly_text e ++ codes ")")) (poly_text e)
    → d ≡ e
one_by_count true true d e d_is e_is same =
    let inner = same_parts 40 40 (poly_text d ++ codes ")") (poly_text e ++ codes ")") same in
    one_poly d e d_is e_is (append_cancel_right (poly_text d) (poly_text e) (codes ")") inner.1)
one_by_count true false d e d_is e_is same = absurd (no_parenthesis e (poly_text d ++ codes ")") e_is (sym same))
one_by_count false true d e d_is e_is same = absurd (no_parenthesis d (poly_text e ++ codes ")") d_is same)
one_by_count false false d e d_is e_is same = one_poly d e d_is e_is same

is_one : (d : List ℕ) → (d ≡ 1 ∷ []) ⊎ (d ≢ 1 ∷ [])
is_one [] = inr (λ e. absurd cc)
is_one (zero ∷ []) = inr (λ e. absurd cc)
is_one (suc zero ∷ []) = inl refl
is_one (suc (suc c) ∷ []) = inr (λ e. absurd cc)
is_one (c ∷ d ∷ ds) = inr (λ e. absurd cc)

some_over : (d : List ℕ) → d ≢ 1 ∷ [] → denominator_text d ≢ denominator_text (1 ∷ [])
some_over d other same =
    let written : denominator_text d ≡ 47 ∷ den_text d = over_written d other in
    cc

one_over : (d e : List ℕ) → IsWrittenInFull d → IsWrittenInFull e → denominator_text d ≡ denominator_text e → d ≡ e
one_over d e d_is e_is same = elim (is_one d) [
  | inl d_one ↦ elim (is_one e) [
    | inl e_one ↦ d_one ∙ sym e_one
    | inr e_other ↦ absurd (some_over e e_other (sym same ∙ ap denominator_text d_one))
  ]
  | inr d_other ↦ elim (is_one e) [
    | inl e_one ↦ absurd (some_over d d_other (same ∙ ap denominator_text e_one))
    | inr e_other ↦
        let inner = same_parts 47 47 (den_text d) (den_text e)
        (sym (over_written d d_other) ∙ same ∙ over_written e e_other) in
        one_by_count (ltb 1 (term_count d)) (ltb 1 (term_count e)) d e d_is e_is inner.1
  ]
]

-- ---- numerators

numerators_told : AreTold IsWrittenInFull poly_text is_poly_byte 44 (codes " ")
numerators_told = record { within = poly_bytes; some = poly_some; one = one_poly; outside = refl }

one_num : (num other : List (List ℕ)) → All IsWrittenInFull num → All IsWrittenInFull other
    → join_by poly_text (codes ", ") num ≡ join_by poly_text (codes ", ") other → num ≡ other
one_num = one_joined IsWrittenInFull poly_text is_poly_byte 44 (codes " ") numerators_told

-- a byte of polynomials, or `,`
abbrev is_num_byte : ℕ → Bool
is_num_byte b = is_poly_byte b || eqb b 44

num_bytes : (num : List (List ℕ)) → All IsWrittenInFull num → AllIn is_num_byte (join_by poly_text (codes ", ") num)
num_bytes =
    let P : ℕ → Type 0 = λ b. is_num_byte b ≡ true in
    joined_in IsWrittenInFull poly_text is_num_byte 44 (codes " ")
    (λ p is. All-weaker (λ b. is_poly_byte b ≡ true) P (λ b is. rw is refl) (poly_text p) (poly_bytes p is))
    (All-cons P 44 (32 ∷ []) refl (All-cons P 32 [] refl (All-nil P)))

-- ---- the law of elements

written_value : List (List ℕ) → List ℕ → WrittenValue
written_value num den = record { num = num; den = den }

pub one_elem : (z w : WrittenValue) → IsElemWrittenInFull z → IsElemWrittenInFull w
    → elem_text z.num z.den ≡ elem_text w.num w.den → z ≡ w
unfolding written_value
one_elem z w z_is w_is e =
    let z_num : List ℕ = join_by poly_text (codes ", ") z.num in
    let w_num : List ℕ = join_by poly_text (codes ", ") w.num in
    let inner = same_parts 91 91 (z_num ++ (93 ∷ denominator_text z.den)) (w_num ++ (93 ∷ denominator_text w.den)) e in
    let parts = one_front is_num_byte z_num w_num (93 ∷ denominator_text z.den) (93 ∷ denominator_text w.den)
    (num_bytes z.num z_is.numerators) (num_bytes w.num w_is.numerators) refl refl inner.1 in
    let behind = same_parts 93 93 (denominator_text z.den) (denominator_text w.den) parts.1 in
    ap₂ written_value (one_num z.num w.num z_is.numerators w_is.numerators parts.0)
    (one_over z.den w.den z_is.denominator w_is.denominator behind.1)
