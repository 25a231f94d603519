-- How polynomials and elements are printed, byte by byte.
use Rattle.std.specs.Prelude.{◌≡◌, ℕ, zero, suc, ◌<◌, ◌≤◌, ◌==◌, ◌||◌, not, Bool, true, if◌then◌else◌, nat_lt, nat_eq, IsTrue, List, [], ◌∷◌, ◌++◌, length, drop, reverse, codes, All, ⊤}
use Rattle.std.specs.List.{join_by, starts_with, count_by}
use Rattle.std.specs.Char.{is_ascii_digit}
use Rattle.std.specs.Fmt.{decimal}
use Rattle.ff_poly.specs.Words.{IsPoly, IsMonicList}
use Rattle.ff_text.specs.declared.fault.TextFault.{TextFault}
use Rattle.ff_text.specs.declared.fault.TextFault.TheVariants.{Syntax, CodeRange, Memory}

-- ---- polynomials

-- x to the power j: nothing at 0, and x alone at 1
abbrev pub power_text : ℕ → List ℕ
power_text zero = []
power_text (suc zero) = codes "x"
power_text (suc (suc j)) = codes "x^" ++ decimal (suc (suc j))

-- the code c at degree j; a code 1 isn't written before x
abbrev pub term_text : ℕ → ℕ → List ℕ
term_text c zero = decimal c
term_text c (suc j) = if c == 1 then power_text (suc j) else decimal c ++ (codes "*" ++ power_text (suc j))

-- the codes that aren't 0 with their degrees, where the codes are listed from the top down
abbrev pub terms_down : List ℕ → List (ℕ × ℕ)
terms_down [] = []
terms_down (zero ∷ cs) = terms_down cs
terms_down (suc c ∷ cs) = (suc c, length cs) ∷ terms_down cs

-- `0`, or the nonzero terms from the greatest degree down, joined by ` + `
abbrev pub poly_text : List ℕ → List ℕ
poly_text [] = codes "0"
poly_text (c ∷ cs) = join_by (λ t. term_text t.0 t.1) (codes " + ") (terms_down (reverse (c ∷ cs)))

-- what a reader answers: no zero on top, codes below 65,536, and a degree of at most 1,024
pub record IsPrintable (p : List ℕ) : Type 0 where
  pub poly : IsPoly p
  pub small : All (λ c. c < 65536) p
  pub short : length p ≤ 1025

-- what may stand behind a polynomial: no digit, no `^` or `*`, and not ` + `
abbrev pub ends_poly : List ℕ → Bool
ends_poly [] = true
ends_poly (c ∷ cs) = not (is_ascii_digit c || (c == 94 || (c == 42 || starts_with nat_eq (c ∷ cs) (codes " + "))))

-- the line has the text of p from column at to before column end, and what follows can't go on it
pub record IsPolyAt (line : List ℕ) (at : ℕ) (p : List ℕ) (end : ℕ) : Type 0 where
  pub printable : IsPrintable p
  pub text : drop at line ≡ poly_text p ++ drop end line
  pub within : end ≤ length line
  pub ends : IsTrue (ends_poly (drop end line))

-- ---- elements

-- how many codes aren't 0
abbrev pub term_count : List ℕ → ℕ
term_count p = count_by (λ c. nat_lt 0 c) p

-- in parentheses where there is more than one term
abbrev pub den_text : List ℕ → List ℕ
den_text d = if nat_lt 1 (term_count d) then codes "(" ++ (poly_text d ++ codes ")") else poly_text d

-- the denominator behind `/`, and nothing where it is 1
abbrev pub denominator_text : List ℕ → List ℕ
denominator_text (suc zero ∷ []) = []
denominator_text d = codes "/" ++ den_text d

-- the numerators in brackets, joined by `, `, over the denominator
abbrev pub elem_text : List (List ℕ) → List ℕ → List ℕ
elem_text num den = codes "[" ++ (join_by poly_text (codes ", ") num ++ (codes "]" ++ denominator_text den))

-- an element as it is printed: numerators at 1, y, and so on, over a denominator
pub record WrittenValue : Type 0 where
  pub num : List (List ℕ)
  pub den : List ℕ

-- what a reader of elements answers: one numerator or more, and a monic denominator, all printable
pub record IsPrintableElem (num : List (List ℕ)) (den : List ℕ) : Type 0 where
  pub some : 1 ≤ length num
  pub numerators : All IsPrintable num
  pub denominator : IsPrintable den
  pub monic : IsMonicList den

-- what may stand behind an element: no digit, no `^` and no `/`
abbrev pub ends_elem : List ℕ → Bool
ends_elem [] = true
ends_elem (c ∷ cs) = not (is_ascii_digit c || (c == 94 || c == 47))

-- the line has the text of the element from column at to before column end, and what follows can't go on it
pub record IsElemAt (line : List ℕ) (at : ℕ) (num : List (List ℕ)) (den : List ℕ) (end : ℕ) : Type 0 where
  pub printable : IsPrintableElem num den
  pub text : drop at line ≡ elem_text num den ++ drop end line
  pub within : end ≤ length line
  pub ends : IsTrue (ends_elem (drop end line))

-- ---- faults

-- memory ran out, or there is no such text: the fault is one of syntax at column 0
abbrev pub IsNoText : TextFault → Type 0 → Type 0
IsNoText Memory none = ⊤
IsNoText (Syntax column) none = (column ≡ 0) × none
IsNoText (CodeRange c) none = ⊥
