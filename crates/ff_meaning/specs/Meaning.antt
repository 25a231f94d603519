-- What polynomials and elements of a script mean over a field.
use Rattle.std.specs.Prelude.{◌≡◌, ℕ, ◌<◌, ◌-◌, List, [], ◌∷◌, ◌++◌, length, get_or, max, find, flat_map, nat_le, All, Option, Some, None}
use Rattle.ff_fields.specs.Field.{FieldOps}
use Rattle.ff_poly.specs.Words.{IsPoly, IsIrreducibleList}
use Rattle.ff_poly.specs.TermWords.{IsTerms, code_at}
use Rattle.function_field.specs.Values.{ElemValue}
use Rattle.ff_text.specs.declared.terms.Term.{Term}
use Rattle.ff_text.specs.declared.terms.ElemText.{ElemText}
use Rattle.ff_text.specs.Values.{triples_of, written_codes}
use Rattle.function_field.specs.declared.side.Side.{Side}
use Rattle.function_field.specs.declared.side.Side.TheVariants.{Finite, Infinite}
use Rattle.ff_script.specs.declared.script.Over.{Over}
use Rattle.ff_script.specs.declared.script.Over.TheVariants.{At, Inf}

-- the codes that are written in a denominator, and in an element, in their order
abbrev pub codes_of_den : Option (List Term) → List ℕ
codes_of_den None = []
codes_of_den (Some ts) = written_codes ts

abbrev pub codes_of_element : ElemText → List ℕ
codes_of_element e = flat_map written_codes e.entries ++ codes_of_den e.den

-- each written code is below q
abbrev pub AreCodesBelow : ℕ → List ℕ → Type 0
AreCodesBelow q codes = All (λ c. c < q) codes

-- c is the first written code that is q or more
abbrev pub IsFirstCodeFrom : ℕ → List ℕ → ℕ → Type 0
IsFirstCodeFrom q codes c = find (λ d. nat_le q d) codes ≡ Some c

module _ (k : FieldOps) where
  -- the sum of the terms of a polynomial in x and y, all of whose written codes are codes of the field
  pub record IsSumOf (ts : List Term) (sum : List (ℕ × ℕ × ℕ)) : Type 0 where
    pub written : AreCodesBelow k.size (written_codes ts)
    pub terms : IsTerms sum
    pub codes_in : All (λ t. t.2 < k.size) sum
    pub codes : (i j : ℕ) → code_at k i j sum ≡ code_at k i j (triples_of k ts)

  -- p is the polynomial in x that the terms, which have no y, add up to
  pub record IsPolyOf (ts : List Term) (p : List ℕ) : Type 0 where
    pub written : AreCodesBelow k.size (written_codes ts)
    pub poly : IsPoly p
    pub codes : (j : ℕ) → get_or p j 0 ≡ code_at k 0 j (triples_of k ts)

  -- one polynomial for each entry
  abbrev pub ArePolysOf : List (List Term) → List (List ℕ) → Type 0
  ArePolysOf [] ps = ps ≡ []
  ArePolysOf (e ∷ es) [] = ⊥
  ArePolysOf (e ∷ es) (p ∷ ps) = IsPolyOf e p × ArePolysOf es ps

  -- the denominator that is written, and 1 where there is none
  abbrev pub IsDenOf : Option (List Term) → List ℕ → Type 0
  IsDenOf None d = d ≡ 1 ∷ []
  IsDenOf (Some ts) d = IsPolyOf ts d

  -- the numerators and the denominator of an element as they are written
  pub record IsElementOf (e : ElemText) (z : ElemValue) : Type 0 where
    pub numerators : ArePolysOf e.entries z.num
    pub denominator : IsDenOf e.den z.den

  -- the side of the places, and the irreducible polynomial in its variable that they lie over: that is 1/x at infinity
  abbrev pub IsBase : Over → Side → List ℕ → Type 0
  IsBase (At g) s p = (s ≡ Finite) × IsPolyOf g p × IsIrreducibleList k p
  IsBase Inf s p = (s ≡ Infinite) × (p ≡ 0 ∷ 1 ∷ [])

-- the greatest of the degrees of polynomials, 0 where there are none
abbrev pub greatest_degree : List (List ℕ) → ℕ
greatest_degree [] = 0
greatest_degree (p ∷ ps) = max (length p - 1) (greatest_degree ps)

abbrev pub degree_of_element : ElemValue → ℕ
degree_of_element z = max (greatest_degree z.num) (length z.den - 1)
