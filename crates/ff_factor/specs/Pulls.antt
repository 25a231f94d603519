-- The words of the private contracts on factors that are divided out.
use Rattle.std.specs.Prelude.{◌≡◌, ◌≢◌, ℕ, ◌≤◌, List, [], ◌∷◌, All}
use Rattle.ring_lemmas.specs.Ring.{pow}
use Rattle.ring_theory.specs.Members.{In}
use Rattle.linear_theory.specs.Euclidean.{IsDivisorIn}
use Rattle.ff_fields.specs.Field.{FieldOps, CodeField}
use Rattle.ff_fields.specs.Over.{IsOver}
use Rattle.ff_poly.specs.Words.{IsPoly, IsIrreducibleList}
use Rattle.ff_poly.specs.Value.{value}
use Rattle.ff_poly.specs.Polynomials.{Polynomial, polynomials}
use Rattle.ff_factor.specs.Factors.{AreAscendingPolys, polys_of}
use Rattle.ff_falg.specs.Idempotents.{IsPrimitiveList}
use Rattle.ff_factor.specs.Primes.{IsPrimeAt}
use Rattle.ff_factor.specs.Quotients.{quotient_algebra}

-- g is p to the power count, times the rest, which p doesn't divide
pub record IsPulledOut (k : CodeField) (g p : List ℕ) (count : ℕ) (rest : List ℕ) : Type 0 where
  pub over : IsOver k.ops rest
  pub poly : IsPoly rest
  pub product : value k g ≡ (polynomials k).◌⊗◌ (pow (polynomials k).ops (value k p) count) (value k rest)
  pub free : ¬ IsDivisorIn (polynomials k).ops (value k p) (value k rest)

-- the new list has the members of the old one and p, in ascending order
pub record IsWith (old : List (List ℕ)) (p : List ℕ) (new : List (List ℕ)) : Type 0 where
  pub ascending : AreAscendingPolys new
  pub old_in : (q : List ℕ) → In q old → In q new
  pub here : In p new
  pub each : (q : List ℕ) → ¬ (q ≡ p) → In q new → In q old

-- the primes of some idempotents, in ascending order
pub record ArePrimesOf (k : FieldOps) (g : List ℕ) (es ps : List (List ℕ)) : Type 0 where
  pub each : (p : List ℕ) → In p ps → (e : List ℕ) × In e es × IsPrimeAt k g e p
  pub all : (e : List ℕ) → In e es → (p : List ℕ) × In p ps × IsPrimeAt k g e p
  pub ascending : AreAscendingPolys ps

-- the primes of all primitive idempotents, in ascending order
pub record ArePrimesOfIdempotents (k : FieldOps) (g : List ℕ) (ps : List (List ℕ)) : Type 0 where
  pub idempotents : List (List ℕ)
  pub list : IsPrimitiveList k (quotient_algebra g) idempotents
  pub primes : ArePrimesOf k g idempotents ps

-- the product of the powers, in k[x]
abbrev pub value_of_parts : (k : CodeField) → List (List ℕ × ℕ) → Polynomial k
value_of_parts k [] = (polynomials k).𝟙
value_of_parts k (f ∷ fs) = (polynomials k).◌⊗◌ (pow (polynomials k).ops (value k f.0) f.1) (value_of_parts k fs)

-- g is the product of powers of these polynomials and the rest, which none of them divides
pub record IsSplitOff (k : CodeField) (g : List ℕ) (ps : List (List ℕ)) (parts : List (List ℕ × ℕ)) (rest : List ℕ) :
    Type 0 where
  pub polys : polys_of parts ≡ ps
  pub over : IsOver k.ops rest
  pub poly : IsPoly rest
  pub some : rest ≢ []
  pub product : value k g ≡ (polynomials k).◌⊗◌ (value_of_parts k parts) (value k rest)
  pub free : (p : List ℕ) → In p ps → ¬ IsDivisorIn (polynomials k).ops (value k p) (value k rest)
  pub exponents : All (λ f. 1 ≤ f.1) parts

-- irreducible divisors of g in ascending order, of which none divides another
pub record IsPrimeList (k : CodeField) (g : List ℕ) (ps : List (List ℕ)) : Type 0 where
  pub over : (p : List ℕ) → In p ps → IsOver k.ops p
  pub irreducible : (p : List ℕ) → In p ps → IsIrreducibleList k.ops p
  pub divides : (p : List ℕ) → In p ps → IsDivisorIn (polynomials k).ops (value k p) (value k g)
  pub different : (p q : List ℕ) → In p ps → In q ps → ¬ (p ≡ q)
      → ¬ IsDivisorIn (polynomials k).ops (value k p) (value k q)
  pub ascending : AreAscendingPolys ps
