-- How numbers, polynomials and elements are spelled, byte by byte.
use Rattle.std.specs.Prelude.{◌≡◌, ℕ, ◌≤◌, ◌⊎◌, ◌||◌, ◌==◌, Bool, true, false, List, [], ◌∷◌, ◌++◌, length, codes, Option, Some, None, IsTrue}
use Rattle.std.specs.List.{AllByRecursion}
use Rattle.std.specs.Str.Parse.{IsNumeral, digits_value}
use Rattle.ff_text.specs.declared.terms.Factor.{Factor}
use Rattle.ff_text.specs.declared.terms.Factor.TheVariants.{Code, X, Y}
use Rattle.ff_text.specs.declared.terms.Term.{Term}
use Rattle.ff_text.specs.declared.terms.ElemText.{ElemText}

-- ---- texts

-- a text, and then another
pub record Then (First Second : List ℕ → Type 0) (bytes : List ℕ) : Type 0 where
  pub front : List ℕ
  pub back : List ℕ
  pub first : First front
  pub second : Second back
  pub whole : bytes ≡ front ++ back

-- the text itself
abbrev pub Is : List ℕ → List ℕ → Type 0
Is text bytes = bytes ≡ text

-- a space, a tab or a carriage return
abbrev pub is_blank : ℕ → Bool
is_blank b = b == 32 || b == 9 || b == 13

-- any number of blanks
abbrev pub Blanks : List ℕ → Type 0
Blanks bytes = AllByRecursion (λ b. IsTrue (is_blank b)) bytes

-- the mark, with blanks on both sides
abbrev pub Around : List ℕ → List ℕ → Type 0
Around mark = Then Blanks (Then (Is mark) Blanks)

-- a text between brackets, with blanks inside of them
abbrev pub Within : List ℕ → (List ℕ → Type 0) → List ℕ → List ℕ → Type 0
Within left Part right = Then (Is left) (Then Blanks (Then Part (Then Blanks (Is right))))

-- one text for each value
abbrev pub Each : {V : Type 0} → (V → List ℕ → Type 0) → List V → List ℕ → Type 0
Each Part [] bytes = bytes ≡ []
Each Part (v ∷ vs) bytes = Then (Part v) (Each Part vs) bytes

-- one text for each of one or more values, with the mark between them
abbrev pub Joined : {V : Type 0} → List ℕ → (V → List ℕ → Type 0) → List V → List ℕ → Type 0
Joined mark Part [] bytes = ⊥
Joined mark Part (v ∷ vs) bytes = Then (Part v) (Each (λ w. Then (Around mark) (Part w)) vs) bytes

-- ---- numbers and terms

-- 1 to 9 decimal digits, and the number that they write
pub record SpellsNumber (n : ℕ) (bytes : List ℕ) : Type 0 where
  pub numeral : IsNumeral 10 bytes
  pub few : length bytes ≤ 9
  pub value : digits_value 10 bytes ≡ n

-- a letter alone, or with an exponent
abbrev pub SpellsPower : List ℕ → ℕ → List ℕ → Type 0
SpellsPower letter n bytes = ((n ≡ 1) × Is letter bytes)
    ⊎ Then (Is letter) (Then (Around (codes "^")) (SpellsNumber n)) bytes

module _ (with_y : Bool) where
  -- a number, a power of x, or one of y where it may stand
  abbrev pub SpellsFactor : Factor → List ℕ → Type 0
  SpellsFactor (Code n) bytes = SpellsNumber n bytes
  SpellsFactor (X n) bytes = SpellsPower (codes "x") n bytes
  SpellsFactor (Y n) bytes = IsTrue with_y × SpellsPower (codes "y") n bytes

  -- factors joined by `*`
  abbrev pub SpellsFactors : List Factor → List ℕ → Type 0
  SpellsFactors fs = Joined (codes "*") SpellsFactor fs

-- the sign before the first term: a minus that is written, or nothing
abbrev pub FirstSign : Bool → List ℕ → Type 0
FirstSign true = Then (Is (codes "-")) Blanks
FirstSign false = Is []

-- the sign before a further term
abbrev pub NextSign : Bool → List ℕ → Type 0
NextSign true = Around (codes "-")
NextSign false = Around (codes "+")

module _ (with_y : Bool) where
  -- the first term of a polynomial
  abbrev pub SpellsFirst : Term → List ℕ → Type 0
  SpellsFirst t = Then (FirstSign t.minus) (SpellsFactors with_y t.factors)

  -- a further term
  abbrev pub SpellsNext : Term → List ℕ → Type 0
  SpellsNext t = Then (NextSign t.minus) (SpellsFactors with_y t.factors)

  -- a polynomial, in which y may stand or not
  abbrev pub SpellsTerms : List Term → List ℕ → Type 0
  SpellsTerms [] bytes = ⊥
  SpellsTerms (t ∷ ts) bytes = Then (SpellsFirst t) (Each SpellsNext ts) bytes

-- ---- elements

-- one term without a minus
abbrev pub SpellsOneTerm : List Term → List ℕ → Type 0
SpellsOneTerm [] bytes = ⊥
SpellsOneTerm (t ∷ []) bytes = (t.minus ≡ false) × SpellsFactors false t.factors bytes
SpellsOneTerm (t ∷ u ∷ ts) bytes = ⊥

-- a denominator: one term, or a polynomial in parentheses
abbrev pub SpellsDen : List Term → List ℕ → Type 0
SpellsDen ts bytes = SpellsOneTerm ts bytes ⊎ Within (codes "(") (SpellsTerms false ts) (codes ")") bytes

-- the denominator behind its slash, if there is one
abbrev pub SpellsTail : Option (List Term) → List ℕ → Type 0
SpellsTail None = Is []
SpellsTail (Some d) = Then (Around (codes "/")) (SpellsDen d)

-- polynomials joined by `,`
abbrev pub SpellsEntries : List (List Term) → List ℕ → Type 0
SpellsEntries es = Joined (codes ",") (SpellsTerms false) es

-- an element: polynomials in x in brackets, and a denominator if there is one
abbrev pub SpellsElement : ElemText → List ℕ → Type 0
SpellsElement e = Then (Within (codes "[") (SpellsEntries e.entries) (codes "]")) (SpellsTail e.den)
