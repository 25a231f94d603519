-- Fractions over one denominator, in lowest terms.
use Rattle.std.specs.Prelude.{◌≡◌, ◌≢◌, ℕ, ◌≤◌, List, [], length, map, All}
use Rattle.ring_theory.specs.Members.{In}
use Rattle.ff_fields.specs.Field.{FieldOps}
use Rattle.ff_fields.specs.Over.{IsOver}
use Rattle.ff_poly.specs.Words.{IsPoly, IsMonicList, IsIrreducibleList, DividesList, product_of}

module _ (k : FieldOps) where
  -- the fractions of num over den are those of num' over den': den' times each numerator is den times the other one
  abbrev pub AreSameFractions : List (List ℕ) → List ℕ → List (List ℕ) → List ℕ → Type 0
  AreSameFractions num den num' den' = map (product_of k den') num ≡ map (product_of k den) num'

  -- irreducible monic polynomials over the field
  pub record AreIrreducible (ps : List (List ℕ)) : Type 0 where
    pub over : All (IsOver k) ps
    pub irreducible : All (IsIrreducibleList k) ps

  -- each irreducible monic divisor of the denominator is listed
  abbrev pub HasFactorsOf : List (List ℕ) → List ℕ → Type 0
  HasFactorsOf factors den = (p : List ℕ) → IsOver k p → IsIrreducibleList k p → DividesList k p den → In p factors

  -- num' over den' are the fractions of num over den, den' is monic, and none of the factors divides den' and each of
  -- num'
  pub record AreCancelled (factors : List (List ℕ)) (num : List (List ℕ)) (den : List ℕ) (num' : List (List ℕ))
      (den' : List ℕ) : Type 0 where
    pub one_each : length num' ≡ length num
    pub same : AreSameFractions num' den' num den
    pub num_over : All (IsOver k) num'
    pub den_over : IsOver k den'
    pub num_poly : All IsPoly num'
    pub monic : IsMonicList den'
    pub free : (p : List ℕ) → In p factors → DividesList k p den' → ¬ All (DividesList k p) num'

  -- num' over den' are the fractions of num over den, den' is monic, and no denominator of the same fractions has a
  -- smaller degree
  pub record IsInLowestTermsOf (num : List (List ℕ)) (den : List ℕ) (num' : List (List ℕ)) (den' : List ℕ) : Type 0
    where
      pub one_each : length num' ≡ length num
      pub same : AreSameFractions num' den' num den
      pub num_over : All (IsOver k) num'
      pub den_over : IsOver k den'
      pub num_poly : All IsPoly num'
      pub monic : IsMonicList den'
      pub least : (ws : List (List ℕ)) (d : List ℕ) → All (IsOver k) ws → IsOver k d → IsPoly d → d ≢ []
          → AreSameFractions num' den' ws d → length den' ≤ length d
