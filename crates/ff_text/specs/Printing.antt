-- How polynomials and elements are printed, and what can be read again.
use Rattle.std.specs.Prelude.{◌≢◌, ℕ, ◌<◌, ◌==◌, Bool, false, not, List, [], ◌∷◌, ◌++◌, codes, Option, Some, None, IsTrue, IfSome, decimal, flat_map, if◌then◌else◌}
use Rattle.std.specs.List.{AllByRecursion}
use Rattle.ff_text.specs.declared.terms.Factor.{Factor}
use Rattle.ff_text.specs.declared.terms.Factor.TheVariants.{Code, X, Y}
use Rattle.ff_text.specs.declared.terms.Term.{Term}
use Rattle.ff_text.specs.declared.terms.ElemText.{ElemText}

-- ---- texts

-- a power of the letter; an exponent 1 isn't written
abbrev pub letter_text : List ℕ → ℕ → List ℕ
letter_text letter n = if n == 1 then letter else letter ++ (codes "^" ++ decimal n)

abbrev pub factor_text : Factor → List ℕ
factor_text (Code n) = decimal n
factor_text (X n) = letter_text (codes "x") n
factor_text (Y n) = letter_text (codes "y") n

-- the factors, each behind `*`
abbrev pub next_factors_text : List Factor → List ℕ
next_factors_text fs = flat_map (λ f. codes "*" ++ factor_text f) fs

-- the factors with `*` between them
abbrev pub factors_text : List Factor → List ℕ
factors_text [] = []
factors_text (f ∷ fs) = factor_text f ++ next_factors_text fs

-- the sign before the first term, and before a further one
abbrev pub first_sign : Bool → List ℕ
first_sign minus = if minus then codes "-" else []

abbrev pub next_sign : Bool → List ℕ
next_sign minus = if minus then codes " - " else codes " + "

-- the terms, each behind its sign
abbrev pub next_terms_text : List Term → List ℕ
next_terms_text ts = flat_map (λ t. next_sign t.minus ++ factors_text t.factors) ts

-- a polynomial
abbrev pub terms_text : List Term → List ℕ
terms_text [] = []
terms_text (t ∷ ts) = first_sign t.minus ++ (factors_text t.factors ++ next_terms_text ts)

-- the polynomials, each behind `, `
abbrev pub next_entries_text : List (List Term) → List ℕ
next_entries_text es = flat_map (λ e. codes ", " ++ terms_text e) es

-- the polynomials with `, ` between them
abbrev pub entries_text : List (List Term) → List ℕ
entries_text [] = []
entries_text (e ∷ es) = terms_text e ++ next_entries_text es

-- one term without a minus
abbrev pub is_one_term : List Term → Bool
is_one_term [] = false
is_one_term (t ∷ []) = not t.minus
is_one_term (t ∷ u ∷ ts) = false

-- a denominator behind its slash, in parentheses unless it is one term without a minus
abbrev pub divisor_text : Option (List Term) → List ℕ
divisor_text None = []
divisor_text (Some d) = codes "/" ++ (if is_one_term d then terms_text d else codes "(" ++ (terms_text d ++ codes ")"))

-- an element
abbrev pub element_text : ElemText → List ℕ
element_text e = codes "[" ++ (entries_text e.entries ++ (codes "]" ++ divisor_text e.den))

-- ---- what is read again as it was

module _ (with_y : Bool) where
  -- its number has at most nine digits, and it isn't a power of y where none may stand
  abbrev pub IsWritableFactor : Factor → Type 0
  IsWritableFactor (Code n) = n < 1000000000
  IsWritableFactor (X n) = n < 1000000000
  IsWritableFactor (Y n) = IsTrue with_y × (n < 1000000000)

  -- one factor or more, each writable
  abbrev pub IsWritableTerm : Term → Type 0
  IsWritableTerm t = (t.factors ≢ []) × AllByRecursion IsWritableFactor t.factors

  -- one term or more, each writable
  abbrev pub IsWritableTerms : List Term → Type 0
  IsWritableTerms ts = (ts ≢ []) × AllByRecursion IsWritableTerm ts

-- one entry or more, each writable and without y, and so is the denominator
pub record IsWritableElement (e : ElemText) : Type 0 where
  pub some : e.entries ≢ []
  pub entries : AllByRecursion (IsWritableTerms false) e.entries
  pub den : IfSome e.den (IsWritableTerms false)
