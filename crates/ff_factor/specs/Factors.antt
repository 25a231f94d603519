-- Factors of polynomials over a small field (Lang, Algebra).
use Rattle.std.specs.Prelude.{◌≡◌, ◌≢◌, ℕ, ◌<◌, ◌≤◌, ◌⊎◌, List, [], ◌∷◌, length, All}
use Rattle.ff_fields.specs.Field.{FieldOps}
use Rattle.ff_fields.specs.Over.{IsOver}
use Rattle.ff_poly.specs.Words.{IsIrreducibleList, multiple_of, product_of}
use Rattle.ff_poly.specs.PowerWords.{power_of}

-- a code, and polynomials with their exponents
pub record FactorsValue : Type 0 where
  pub unit : ℕ
  pub parts : List (List ℕ × ℕ)

-- lists of one length, compared from the last code down
abbrev pub IsBelow : List ℕ → List ℕ → Type 0
IsBelow [] [] = ⊥
IsBelow [] (y ∷ ys) = ⊥
IsBelow (x ∷ xs) [] = ⊥
IsBelow (x ∷ xs) (y ∷ ys) = IsBelow xs ys ⊎ ((xs ≡ ys) × (x < y))

-- the order of polynomials: by the degree, then by the codes from the top down
abbrev pub IsBeforePoly : List ℕ → List ℕ → Type 0
IsBeforePoly a b = (length a < length b) ⊎ ((length a ≡ length b) × IsBelow a b)

-- strictly ascending
abbrev pub AreAscendingPolys : List (List ℕ) → Type 0
AreAscendingPolys [] = Unit {0}
AreAscendingPolys (p ∷ ps) = All (IsBeforePoly p) ps × AreAscendingPolys ps

-- the polynomials of the parts
abbrev pub polys_of : List (List ℕ × ℕ) → List (List ℕ)
polys_of [] = []
polys_of (f ∷ fs) = f.0 ∷ polys_of fs

-- the product of the powers
abbrev pub product_of_parts : FieldOps → List (List ℕ × ℕ) → List ℕ
product_of_parts k [] = 1 ∷ []
product_of_parts k (f ∷ fs) = product_of k (power_of k f.0 f.1) (product_of_parts k fs)

-- g is a code that isn't 0 times powers of irreducible polynomials, which ascend strictly, with exponents 1 or more
pub record IsFactorisation (k : FieldOps) (g : List ℕ) (f : FactorsValue) : Type 0 where
  pub unit_in : f.unit < k.size
  pub unit_some : f.unit ≢ 0
  pub over : All (IsOver k) (polys_of f.parts)
  pub irreducible : All (IsIrreducibleList k) (polys_of f.parts)
  pub exponents : All (λ p. 1 ≤ p.1) f.parts
  pub ascending : AreAscendingPolys (polys_of f.parts)
  pub product : multiple_of k (product_of_parts k f.parts) f.unit ≡ g
