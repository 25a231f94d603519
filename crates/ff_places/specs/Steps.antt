-- The words of the private contracts.
use Rattle.std.specs.Prelude.{◌≡◌, ℕ, ◌<◌, List, length, get_or, map, All, AllPairs}
use Rattle.std.specs.List.{insert}
use Rattle.std.specs.List.Sorted.{IsPermutation}
use Rattle.ring_lemmas.specs.Lists.{add_lists, scale_list}
use Rattle.prime_theory.specs.Ideals.{SameSet, Multiple}
use Rattle.prime_theory.specs.Places.{IsMaximalIdeal}
use Rattle.ff_fields.specs.Field.{FieldOps, CodeField}
use Rattle.ff_fields.specs.Code.{raw_ring}
use Rattle.ff_poly.specs.Value.{value}
use Rattle.ff_falg.specs.Algebras.{AlgebraOps, IsVector}
use Rattle.function_field.specs.declared.side.Side.{Side}
use Rattle.function_field.specs.Curves.{CurveValue}
use Rattle.function_field.specs.Functions.{of_poly}
use Rattle.function_field.specs.Values.{Functions, functions, function_of, equation_of}
use Rattle.ff_lattice.specs.Lattices.{LatticeValue, Contains, IsSumOfMembers}
use Rattle.ff_lattice.specs.Quotients.{QuotientValue, IsIdealLattice, dimension, lifted}
use Rattle.value_theory.specs.Primes.{PrimeValue}
use Rattle.decomposition_theory.specs.Decompositions.{IsInComponentPrime}
use Rattle.ff_written.specs.TextOrder.{HasRowTexts, IsBeforeTexts}

-- ---- the primes of idempotents

-- 1 less an element
abbrev pub rest_of : FieldOps → AlgebraOps → List ℕ → List ℕ
rest_of k A e = add_lists (raw_ring k) A.unit (scale_list (raw_ring k) (k.neg 1) e)

-- an ideal of the order with the ideal of the quotient
pub record IsIdealAbove (k : CodeField) (q : QuotientValue) (l : LatticeValue) : Type 0 where
  pub ideal : IsIdealLattice k q.p q.order l
  pub has : (z : Functions k q.p) → Contains k q.p q.ideal z → Contains k q.p l z

-- z is a member of l plus a multiple of 1 less the lifted element by a member of the order
abbrev pub IsInComponent : (k : CodeField) (q : QuotientValue) → LatticeValue → List ℕ → Functions k q.p → Type 0
IsInComponent k q l e =
    let F = functions k q.p in
    IsSumOfMembers k q.p (Contains k q.p l)
    (Multiple F.ops (F.◌⊕◌ F.𝟙 (F.⊖◌ (function_of k q.p (lifted k.ops q e)))) (Contains k q.p q.order))

-- the prime of an idempotent is a maximal ideal with the polynomial, by the radical l
pub record HasComponent (k : CodeField) (q : QuotientValue) (pi : List ℕ) (l : LatticeValue) (e : List ℕ) : Type 0 where
  pub codes : IsVector k.ops (dimension q) e
  pub maximal : IsMaximalIdeal (functions k q.p).ops (Contains k q.p q.order) (IsInComponentPrime k q e)
  pub over : IsInComponentPrime k q e (of_poly (equation_of k q.p) (value k pi))
  pub spanned : SameSet (IsInComponentPrime k q e) (IsInComponent k q l e)

-- ---- primes by their texts

-- a prime with the texts of its rows
pub record ListedPrime : Type 0 where
  pub texts : List (List ℕ)
  pub prime : PrimeValue

-- the first comes before the second
abbrev pub ListedBefore : ListedPrime → ListedPrime → Type 0
ListedBefore a b = IsBeforeTexts a.texts b.texts

-- x stands behind the members that it doesn't come before, up to the first one that it comes before
pub record IsPutInto (old : List ListedPrime) (x : ListedPrime) (new : List ListedPrime) : Type 0 where
  pub position : ℕ
  pub is : new ≡ insert old position x
  pub behind : (j : ℕ) (d : ListedPrime) → j < position → j < length old → ¬ ListedBefore x (get_or old j d)
  pub ahead : (d : ListedPrime) → position < length old → ListedBefore x (get_or old position d)

-- the primes with the texts of their rows, such that no one comes before an earlier one
pub record AreListed (k : CodeField) (c : CurveValue) (s : Side) (Ps : List PrimeValue) (ls : List ListedPrime) : Type 0
  where
    pub same : IsPermutation Ps (map (λ l. l.prime) ls)
    pub texts : All (λ l. HasRowTexts k c s l.prime.rows l.texts) ls
    pub ascending : AllPairs (λ a b. ¬ ListedBefore b a) ls

-- the listed prime with a number
pub record IsNumbered (l : ListedPrime) (P : PrimeValue) : Type 0 where
  pub is : P ≡ record l.prime { number = P.number }
