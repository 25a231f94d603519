-- What is printed is spelled so.
use Rattle.std.proofs.Common.{◌≡◌, ◌≢◌, ℕ, ◌<◌, Bool, true, false, cond, eqb, List, [], ◌∷◌, ◌++◌, codes, Option, Some, None, refl, sym, ap, ◌∙◌, subst, append_assoc, inl, inr, arith}
use Rattle.std.specs.Prelude.{decimal, not, IfSome}
use Rattle.std.specs.List.{AllByRecursion}
use Rattle.std.proofs.lemmas.Bool.{eqb-true}
use Rattle.std.proofs.lemmas.Fmt.{decimal_is_IsNumeral, length-decimal-le}
use Rattle.std.proofs.lemmas.List.{append-nil}
use Rattle.ff_text.specs.declared.terms.Factor.{Factor}
use Rattle.ff_text.specs.declared.terms.Factor.TheVariants.{Code, X, Y}
use Rattle.ff_text.specs.declared.terms.Term.{Term}
use Rattle.ff_text.specs.declared.terms.ElemText.{ElemText}
use Rattle.ff_text.specs.Spelling.{Then, Around, Within, Each, SpellsNumber, SpellsPower, SpellsFactor, SpellsFactors, FirstSign, NextSign, SpellsNext, SpellsTerms, SpellsDen, SpellsTail, SpellsEntries, SpellsElement}
use Rattle.ff_text.specs.Printing.{letter_text, factor_text, next_factors_text, factors_text, first_sign, next_sign, next_terms_text, terms_text, next_entries_text, entries_text, is_one_term, divisor_text, element_text, IsWritableFactor, IsWritableTerm, IsWritableTerms, IsWritableElement}
use Rattle.ff_text.proofs.Texts.{then_of, around_of, then_blanks}

number_written : (n : ℕ) → n < 1000000000 → SpellsNumber n (decimal n)
number_written n small =
    let d = decimal_is_IsNumeral n (omega arith) in
    record { numeral = d.0; few = length-decimal-le 9 n (omega arith) (omega arith) (omega arith); value = d.1 }

power_written : (letter : List ℕ) (n : ℕ) → n < 1000000000 → SpellsPower letter n (letter_text letter n)
power_written letter n small = go (eqb n 1) refl
  where
    go : (b : Bool) → eqb n 1 ≡ b → SpellsPower letter n (cond b letter (letter ++ (codes "^" ++ decimal n)))
    go true is = inl (eqb-true n 1 is, refl)
    go false is = inr (then_of letter (codes "^" ++ decimal n) refl
        (then_of (codes "^") (decimal n) (around_of (codes "^") [] tt) (number_written n small)))

-- ", " and the like: a mark with a blank behind it, or on both sides
mark_blank : (mark : List ℕ) → Around mark (mark ++ codes " ")
mark_blank mark = record {
  front = [];
  back = mark
      ++ codes " ";
  first = tt;
  second = then_of mark (codes " ") refl (refl, tt);
  whole = refl;
}

blank_mark_blank : (mark : List ℕ) → Around mark (codes " " ++ (mark ++ codes " "))
blank_mark_blank mark = then_of (codes " ") (mark ++ codes " ") (refl, tt) (then_of mark (codes " ") refl (refl, tt))

module _ (y : Bool) where
  factor_written : (f : Factor) → IsWritableFactor y f → SpellsFactor y f (factor_text f)
  factor_written (Code n) w = number_written n w
  factor_written (X n) w = power_written (codes "x") n w
  factor_written (Y n) w = (w.0, power_written (codes "y") n w.1)

  next_factors_written : (fs : List Factor) → AllByRecursion (IsWritableFactor y) fs
      → Each (λ f. Then (Around (codes "*")) (SpellsFactor y f)) fs (next_factors_text fs)
  next_factors_written [] all = refl
  next_factors_written (f ∷ fs) all = then_of (codes "*" ++ factor_text f) (next_factors_text fs)
      (then_of (codes "*") (factor_text f) (around_of (codes "*") [] tt) (factor_written f all.0))
      (next_factors_written fs all.1)

  factors_written : (t : Term) (fs : List Factor) → t.factors ≡ fs → fs ≢ [] → AllByRecursion (IsWritableFactor y) fs
      → SpellsFactors y fs (factors_text fs)
  factors_written t [] is some all = absurd (some refl)
  factors_written t (f ∷ fs) is some all = then_of (factor_text f) (next_factors_text fs) (factor_written f all.0)
      (next_factors_written fs all.1)

  term_written : (t : Term) → IsWritableTerm y t → SpellsFactors y t.factors (factors_text t.factors)
  term_written t w = factors_written t t.factors refl w.0 w.1

  first_written : (m : Bool) → FirstSign m (first_sign m)
  first_written true = then_blanks (codes "-") refl
  first_written false = refl

  next_written : (m : Bool) → NextSign m (next_sign m)
  next_written true = blank_mark_blank (codes "-")
  next_written false = blank_mark_blank (codes "+")

  next_terms_written : (ts : List Term) → AllByRecursion (IsWritableTerm y) ts
      → Each (SpellsNext y) ts (next_terms_text ts)
  next_terms_written [] all = refl
  next_terms_written (t ∷ ts) all = then_of (next_sign t.minus ++ factors_text t.factors) (next_terms_text ts)
      (then_of (next_sign t.minus) (factors_text t.factors) (next_written t.minus) (term_written t all.0))
      (next_terms_written ts all.1)

  -- a polynomial that is printed is spelled so
  pub terms_written : (ts : List Term) → IsWritableTerms y ts → SpellsTerms y ts (terms_text ts)
  terms_written [] w = absurd (w.0 refl)
  terms_written (t ∷ ts) w =
      subst (SpellsTerms y (t ∷ ts)) (append_assoc (first_sign t.minus) (factors_text t.factors) (next_terms_text ts))
      (then_of (first_sign t.minus ++ factors_text t.factors) (next_terms_text ts)
      (then_of (first_sign t.minus) (factors_text t.factors) (first_written t.minus) (term_written t w.1.0))
      (next_terms_written ts w.1.1))

next_entries_written : (es : List (List Term)) → AllByRecursion (IsWritableTerms false) es
    → Each (λ e. Then (Around (codes ",")) (SpellsTerms false e)) es (next_entries_text es)
next_entries_written [] all = refl
next_entries_written (e ∷ es) all = then_of (codes ", " ++ terms_text e) (next_entries_text es)
    (then_of (codes ", ") (terms_text e) (mark_blank (codes ",")) (terms_written false e all.0))
    (next_entries_written es all.1)

entries_written : (es : List (List Term)) → es ≢ [] → AllByRecursion (IsWritableTerms false) es
    → SpellsEntries es (entries_text es)
entries_written [] some all = absurd (some refl)
entries_written (e ∷ es) some all = then_of (terms_text e) (next_entries_text es) (terms_written false e all.0)
    (next_entries_written es all.1)

-- without blanks inside the brackets
within_written : {Part : List ℕ → Type 0} (left g right : List ℕ) → Part g
    → Within left Part right (left ++ (g ++ right))
within_written left g right part =
    then_of left (g ++ right) refl (record {
      front = [];
      back = g ++ right;
      first = tt;
      second = then_of g right part
          (record { front = []; back = right; first = tt; second = refl; whole = refl });
      whole = refl;
    })

one_written : (t : Term) (m : Bool) → t.minus ≡ m → IsWritableTerms false (t ∷ [])
    → SpellsDen (t ∷ []) (cond (not m) (terms_text (t ∷ [])) (codes "(" ++ (terms_text (t ∷ []) ++ codes ")")))
one_written t true is w = inr (within_written (codes "(") (terms_text (t ∷ [])) (codes ")")
    (terms_written false (t ∷ []) w))
one_written t false is w =
    let plain : first_sign t.minus ++ (factors_text t.factors ++ [])
    ≡ factors_text t.factors = ap (λ m. first_sign m ++ (factors_text t.factors ++ [])) is
    ∙ append-nil (factors_text t.factors) in
    inl (is, subst (SpellsFactors false t.factors) (sym plain) (term_written false t w.1.0))

den_written : (d : List Term) → IsWritableTerms false d
    → SpellsDen d (cond (is_one_term d) (terms_text d) (codes "(" ++ (terms_text d ++ codes ")")))
den_written [] w = absurd (w.0 refl)
den_written (t ∷ []) w = one_written t t.minus refl w
den_written (t ∷ u ∷ ts) w = inr (within_written (codes "(") (terms_text (t ∷ u ∷ ts)) (codes ")")
    (terms_written false (t ∷ u ∷ ts) w))

tail_written : (den : Option (List Term)) → IfSome den (IsWritableTerms false) → SpellsTail den (divisor_text den)
tail_written None w = refl
tail_written (Some d) w = then_of (codes "/")
    (cond (is_one_term d) (terms_text d) (codes "(" ++ (terms_text d ++ codes ")"))) (around_of (codes "/") [] tt)
    (den_written d w)

-- an element that is printed is spelled so
pub element_written : (e : ElemText) → IsWritableElement e → SpellsElement e (element_text e)
element_written e w =
    let text : List ℕ = entries_text e.entries in
    subst (SpellsElement e) (ap (λ x. codes "[" ++ x) (append_assoc text (codes "]") (divisor_text e.den)))
    (then_of (codes "[" ++ (text ++ codes "]")) (divisor_text e.den)
    (within_written (codes "[") text (codes "]") (entries_written e.entries w.some w.entries))
    (tail_written e.den w.den))
