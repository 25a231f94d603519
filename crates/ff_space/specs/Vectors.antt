-- Vectors of codes as functions over a denominator: so many codes for each coordinate, those of 1, x, x^2, and so on,
-- and the coordinates at 1, y, and so on, one after another.
use Rattle.std.specs.Prelude.{◌≡◌, ℕ, zero, suc, ◌-◌, ◌*◌, List, [], ◌∷◌, ◌++◌, length, take, drop, replicate}
use Rattle.ff_fields.specs.Field.{CodeField}
use Rattle.ff_fields.specs.Over.{IsOver}
use Rattle.ff_poly.specs.Words.{poly_of}
use Rattle.function_field.specs.Values.{PresValue, Functions, function_of}

-- the polynomials whose codes stand one after another, so many codes for each
abbrev pub parts_of : ℕ → ℕ → List ℕ → List (List ℕ)
parts_of width zero v = []
parts_of width (suc n) v = poly_of (take width v) ∷ parts_of width n (drop width v)

-- the codes of polynomials one after another, each with zeros up to the width
abbrev pub vector_of : ℕ → List (List ℕ) → List ℕ
vector_of width [] = []
vector_of width (a ∷ others) = (a ++ replicate (width - length a) 0) ++ vector_of width others

module _ (k : CodeField) (p : PresValue) where
  -- the function of a vector over a denominator
  abbrev pub over_den : List ℕ → ℕ → List ℕ → Functions k p
  over_den den width v = function_of k p (record { num = parts_of width p.n v; den = den })

  -- a vector of so many codes for each coordinate, whose function over the denominator is in the set
  pub record IsVectorOf (In : Functions k p → Type 0) (den : List ℕ) (width : ℕ) (v : List ℕ) : Type 0 where
    pub count : length v ≡ p.n * width
    pub over : IsOver k.ops v
    pub is_in : In (over_den den width v)

  -- z is the function of a vector
  pub record HasVector (den : List ℕ) (width : ℕ) (z : Functions k p) : Type 0 where
    pub vector : List ℕ
    pub count : length vector ≡ p.n * width
    pub over : IsOver k.ops vector
    pub is : z ≡ over_den den width vector

  -- the denominator times each function of the set has polynomials of at most so many codes for its coordinates
  abbrev pub HaveVectors : (Functions k p → Type 0) → List ℕ → ℕ → Type 0
  HaveVectors In den width = (z : Functions k p) → In z → HasVector den width z
