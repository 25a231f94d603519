-- Records of primes: data that show which primes of an order lie over an irreducible polynomial, and that the order is
-- maximal there.
use Rattle.std.specs.Prelude.{◌≡◌, ◌↔◌, ℕ, ◌+◌, ◌*◌, ◌-◌, ◌≤◌, List, [], ◌∷◌, length, All, AllPairs, ◌⊎◌}
use Rattle.std.specs.List.{Any}
use Rattle.ring_theory.specs.Subsets.{IsModule, Span, Product}
use Rattle.prime_theory.specs.Ideals.{SameSet, Multiple, Power}
use Rattle.prime_theory.specs.Orders.{MaximalAt}
use Rattle.prime_theory.specs.Places.{IsMaximalIdeal}
use Rattle.ff_fields.specs.Field.{CodeField}
use Rattle.ff_poly.specs.Words.{IsIrreducibleList}
use Rattle.ff_poly.specs.Polynomials.{Polynomial, codes_of}
use Rattle.function_field.specs.declared.side.Side.TheVariants.{Finite}
use Rattle.function_field.specs.Places.{Place, IsPlace, IsIn, IsSamePlace, LiesOver, IsIntegralAt}
use Rattle.function_field.specs.Divisors.{HasDegree, HasRamification}
use Rattle.function_field.specs.Functions.{Equation, FunctionOf, ring_of, of_poly, IsPolynomial, degree_of_y, setting_of}
use Rattle.function_field.specs.Indices.{HasIndex}
use Rattle.lattice_theory.specs.Lattices.{IsLattice}
use Rattle.order_theory.specs.Orders.{IsOrderUpTo}

-- the combinations of rows over the polynomials
abbrev pub RowSpan : {k : CodeField} (c : Equation k) → List (FunctionOf c) → FunctionOf c → Type 0
RowSpan c = Span (ring_of c).ops (IsPolynomial c)

module _ {k : CodeField} (c : Equation k) (O : FunctionOf c → Type 0) where
  -- at each irreducible polynomial the order is maximal, or M is the order up to functions prime to it
  abbrev pub IsAdmitted : (FunctionOf c → Type 0) → Type 0
  IsAdmitted M =
      (p : Polynomial k) → IsIrreducibleList k.ops (codes_of k p)
      → MaximalAt (ring_of c).ops (of_poly c p) (IsIntegralAt (setting_of c) Finite) O ⊎ IsOrderUpTo c p O M

  -- the rows of an ideal modulo which the order is a field, and those of its inverse, with an exponent and the index
  -- of the ideal
  pub record RecordedPrime : Type 0 where
    pub rows : List (FunctionOf c)
    pub inverse_rows : List (FunctionOf c)
    pub exponent : ℕ
    pub degree : ℕ
    pub lattice : IsLattice c (RowSpan c rows)
    pub field : IsMaximalIdeal (ring_of c).ops O (RowSpan c rows)
    pub closed : IsModule (ring_of c).ops O (RowSpan c inverse_rows)
    pub product : SameSet (Product (ring_of c).ops (RowSpan c rows) (RowSpan c inverse_rows)) O
    pub positive : 1 ≤ exponent
    pub index : HasIndex c (RowSpan c rows) O degree

  -- the product of the ideals with their exponents
  abbrev pub ProductOfPowers : List RecordedPrime → FunctionOf c → Type 0
  ProductOfPowers [] = O
  ProductOfPowers (P ∷ ps) =
      Product (ring_of c).ops (Power (ring_of c).ops O (RowSpan c P.rows) P.exponent) (ProductOfPowers ps)

  -- the sum of the exponents times the indices
  abbrev pub sum_of_record : List RecordedPrime → ℕ
  sum_of_record [] = 0
  sum_of_record (P ∷ ps) = P.exponent * P.degree + sum_of_record ps

  -- a record of primes over p: different ideals, whose product is within p·O, with n times the degree of p as the sum
  pub record IsRecordAt (p : Polynomial k) (ps : List RecordedPrime) : Type 0 where
    pub different : AllPairs (λ P Q. ¬ SameSet (RowSpan c P.rows) (RowSpan c Q.rows)) ps
    pub sum : sum_of_record ps ≡ degree_of_y c * (length p.0 - 1)
    pub within : (z : FunctionOf c) → ProductOfPowers ps z → Multiple (ring_of c).ops (of_poly c p) O z

-- the finite place that the rows span
abbrev pub place_of_rows : {E : Type 0} → List E → Place E
place_of_rows gs = record { side = Finite; generators = gs }

-- the rows of a record span the places over p, each once, with its exponents as their ramification indices, and its
-- numbers as their degrees
pub record AreAllPlaces {k : CodeField} (c : Equation k) (p : Polynomial k)
    (ps : List (RecordedPrime c (IsIntegralAt (setting_of c) Finite))) : Type 0 where
  pub places : All (λ P. IsPlace (setting_of c) (place_of_rows P.rows)) ps
  pub over : All (λ P. LiesOver (setting_of c) (place_of_rows P.rows) (of_poly c p)) ps
  pub ramified : All (λ P. HasRamification (setting_of c) (place_of_rows P.rows) (of_poly c p) P.exponent) ps
  pub degrees : All (λ P. HasDegree (setting_of c) (place_of_rows P.rows) P.degree) ps
  pub different : AllPairs (λ P Q. ¬ IsSamePlace (setting_of c) (place_of_rows P.rows) (place_of_rows Q.rows)) ps
  pub complete : (Q : Place (FunctionOf c)) → IsPlace (setting_of c) Q → LiesOver (setting_of c) Q (of_poly c p)
      → Any (λ P. IsSamePlace (setting_of c) (place_of_rows P.rows) Q) ps

-- the places of the primes of a record, for any order
module _ {k : CodeField} (c : Equation k) (O : FunctionOf c → Type 0) (p : Polynomial k) where
  -- a place over p that has, of the members of the order, the combinations of the rows
  pub record IsPlaceOfPrime (P : RecordedPrime c O) (M : Place (FunctionOf c)) : Type 0 where
    pub place : IsPlace (setting_of c) M
    pub over : LiesOver (setting_of c) M (of_poly c p)
    pub members : (z : FunctionOf c) → O z → IsIn (setting_of c) M z ↔ RowSpan c P.rows z

  -- each prime of the list is that of one place over p, with its exponent as the ramification index and its number as
  -- the degree, and each place over p is that of a prime of the list, different primes being those of different places
  pub record ArePrimesOfPlaces (ps : List (RecordedPrime c O)) : Type 0 where
    pub places : All (λ P. (M : Place (FunctionOf c)) × IsPlaceOfPrime P M) ps
    pub once : (P : RecordedPrime c O) (M N : Place (FunctionOf c)) → IsPlaceOfPrime P M → IsPlaceOfPrime P N
        → IsSamePlace (setting_of c) M N
    pub ramified : All (λ P. (M : Place (FunctionOf c)) → IsPlaceOfPrime P M
        → HasRamification (setting_of c) M (of_poly c p) P.exponent) ps
    pub degrees : All (λ P. (M : Place (FunctionOf c)) → IsPlaceOfPrime P M → HasDegree (setting_of c) M P.degree) ps
    pub different :
        AllPairs
        (λ P Q. (M N : Place (FunctionOf c)) → IsPlaceOfPrime P M → IsPlaceOfPrime Q N
        → ¬ IsSamePlace (setting_of c) M N) ps
    pub complete :
        (M : Place (FunctionOf c)) → IsPlace (setting_of c) M → LiesOver (setting_of c) M (of_poly c p)
        → Any (λ P. IsPlaceOfPrime P M) ps
