-- The basis that is made of a lattice over k[x] and one over k[t], and the one form that it has (F. Hess, Computing
-- Riemann-Roch spaces in algebraic function fields and related topics, 2002, section 4).
use Rattle.std.specs.Prelude.{◌≡◌, ◌⊎◌, ℕ, ◌<◌, ℤ, ◌<ℤ◌, List, [], ◌∷◌, length, map, All, IsPermutation}
use Rattle.ff_fields.specs.Field.{FieldOps, CodeField}
use Rattle.ff_fields.specs.Over.{IsOver}
use Rattle.ff_poly.specs.Words.{IsMonicList}
use Rattle.ff_poly.specs.Popov.{IsPopovMatrix}
use Rattle.function_field.specs.Values.{ElemValue, Functions, functions, function_of, IsElem, IsMonicElem}
use Rattle.function_field.specs.Curves.{CurveValue}
use Rattle.linear_theory.specs.Lists.{entry, tabulate}
use Rattle.ff_lattice.specs.Lattices.{LatticeValue}
use Rattle.split_theory.specs.Splits.{SpanMultiple, AreRowsOver, split_degree}
use Rattle.ff_written.specs.LowestTerms.{IsInLowestTerms}

-- functions with a degree each
pub record SplitValue : Type 0 where
  pub basis : List ElemValue
  pub degrees : List ℤ

-- n numerators in lowest terms over a monic denominator
pub record IsLowestElem (k : FieldOps) (n : ℕ) (z : ElemValue) : Type 0 where
  pub element : IsElem k n z
  pub trimmed : IsMonicElem z
  pub lowest : IsInLowestTerms k n z

-- each member stands so to all members behind it
abbrev pub IsInOrder : {X : Type 0} → (X → X → Type 0) → List X → Type 0
IsInOrder R [] = Unit {0}
IsInOrder R (x ∷ xs) = All (R x) xs × IsInOrder R xs

-- a smaller degree, or the same one and a smaller column
abbrev pub IsBefore : ℤ × ℕ → ℤ × ℕ → Type 0
IsBefore p q = (p.0 <ℤ q.0) ⊎ ((p.0 ≡ q.0) × (p.1 < q.1))

-- the degree of the pivot of each column over u, with the column
abbrev pub columns : List ℕ → List (List (List ℕ)) → List (ℤ × ℕ)
columns u m = tabulate (length m) (λ i. (split_degree u m i, i))

-- all columns, by their degrees and then from left to right
pub record AreOrdered (u : List ℕ) (m : List (List (List ℕ))) (order : List (ℤ × ℕ)) : Type 0 where
  pub all : IsPermutation (columns u m) order
  pub ascending : IsInOrder IsBefore order

module _ (k : CodeField) (c : CurveValue) (fin inf : LatticeValue) where
  -- a Popov matrix whose rows, in the functions of the infinite rows, span u times the lattice over k[x]
  pub record IsSplitMatrix (u : List ℕ) (m : List (List (List ℕ))) : Type 0 where
    pub over : IsOver k.ops u
    pub monic : IsMonicList u
    pub popov : IsPopovMatrix c.fin.n m
    pub spans : SpanMultiple k c inf fin u m

  -- the functions of the rows of such a matrix over u with the degrees of their pivots over u, in ascending order
  pub record IsSplitForm (s : SplitValue) : Type 0 where
    pub u : List ℕ
    pub m : List (List (List ℕ))
    pub bs : List (Functions k c.fin)
    pub order : List (ℤ × ℕ)
    pub matrix : IsSplitMatrix u m
    pub rows : AreRowsOver k c inf u m bs
    pub ordered : AreOrdered u m order
    pub functions : map (function_of k c.fin) s.basis ≡ map (λ p. entry (functions k c.fin).𝟘 bs p.1) order
    pub degrees : s.degrees ≡ map (λ p. p.0) order
