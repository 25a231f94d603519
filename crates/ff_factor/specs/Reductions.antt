-- The words of the private contracts on factors that are cancelled.
use Rattle.std.specs.Prelude.{◌≡◌, ◌≢◌, ℕ, List, [], map, All}
use Rattle.ring_theory.specs.Members.{In}
use Rattle.linear_theory.specs.Euclidean.{IsDivisorIn}
use Rattle.ff_fields.specs.Field.{CodeField}
use Rattle.ff_fields.specs.Over.{IsOver}
use Rattle.ff_poly.specs.Words.{IsPoly}
use Rattle.ff_poly.specs.Value.{value}
use Rattle.ff_poly.specs.Polynomials.{Polynomial, polynomials}

module _ (k : CodeField) where
  infixl 70 ◌⊗◌
  open polynomials k use {◌⊗◌}

  -- what the lists stand for
  abbrev pub values : List (List ℕ) → List (Polynomial k)
  values vs = map (value k) vs

  -- p divides each of the polynomials
  abbrev pub DividesAll : List ℕ → List (List ℕ) → Type 0
  DividesAll p vs = All (IsDivisorIn (polynomials k).ops (value k p)) (values vs)

  -- each polynomial is p times its quotient
  pub record AreQuotients (p : List ℕ) (vs qs : List (List ℕ)) : Type 0 where
    pub over : All (IsOver k.ops) qs
    pub products : values vs ≡ map (λ q. value k p ⊗ q) (values qs)

  -- p doesn't divide all parts of the fractions
  abbrev pub IsFree : List ℕ → List (List ℕ) → List ℕ → Type 0
  IsFree p num den = IsDivisorIn (polynomials k).ops (value k p) (value k den) → ¬ DividesAll p num

  -- each part of the fractions is the factor times the new one
  pub record AreReduced (factor : Polynomial k) (num : List (List ℕ)) (den : List ℕ) (num' : List (List ℕ))
      (den' : List ℕ) : Type 0 where
    pub num_over : All (IsOver k.ops) num'
    pub den_over : IsOver k.ops den'
    pub den_poly : IsPoly den'
    pub den_some : den' ≢ []
    pub num_is : values num ≡ map (λ v. factor ⊗ v) (values num')
    pub den_is : value k den ≡ factor ⊗ value k den'

  -- a common factor of all parts is cancelled, and none of these polynomials divides all parts that are left
  pub record AreLowerAt (ps : List (List ℕ)) (num : List (List ℕ)) (den : List ℕ) (num' : List (List ℕ)) (den' : List ℕ)
      : Type 0 where
    pub factor : Polynomial k
    pub reduced : AreReduced factor num den num' den'
    pub free : (p : List ℕ) → In p ps → IsFree p num' den'
