-- Commutative algebras with unit of finite dimension over a small field: each element is the list of its coordinates
-- (Lang, Algebra; Lidl and Niederreiter, Finite Fields).
use Rattle.std.specs.Prelude.{◌≡◌, ◌≢◌, ℕ, zero, suc, ◌<◌, ◌⊎◌, List, length, replicate}
use Rattle.ff_fields.specs.Field.{FieldOps, CodeField}
use Rattle.ff_fields.specs.Code.{raw_ring}
use Rattle.ff_fields.specs.Over.{IsOver}
use Rattle.ring_lemmas.specs.Lists.{add_lists, scale_list}

-- what an algebra answers: its dimension, its unit, and the product over a field
pub record AlgebraOps : Type 0 where
  pub size : ℕ
  pub unit : List ℕ
  pub product : FieldOps → List ℕ → List ℕ → List ℕ

-- so many codes of the field
pub record IsVector (k : FieldOps) (n : ℕ) (v : List ℕ) : Type 0 where
  pub size : length v ≡ n
  pub over : IsOver k v

-- a commutative algebra with unit over k, on the vectors
pub record IsAlgebra (k : CodeField) (A : AlgebraOps) : Type 0 where
  pub unit_in : IsVector k.ops A.size A.unit
  pub product_in : (a b : List ℕ) → IsVector k.ops A.size a → IsVector k.ops A.size b
      → IsVector k.ops A.size (A.product k.ops a b)
  pub commutative : (a b : List ℕ) → IsVector k.ops A.size a → IsVector k.ops A.size b
      → A.product k.ops a b ≡ A.product k.ops b a
  pub associative : (a b c : List ℕ) → IsVector k.ops A.size a → IsVector k.ops A.size b → IsVector k.ops A.size c
      → A.product k.ops (A.product k.ops a b) c ≡ A.product k.ops a (A.product k.ops b c)
  pub unit_times : (a : List ℕ) → IsVector k.ops A.size a → A.product k.ops A.unit a ≡ a
  pub distributive : (a b c : List ℕ) → IsVector k.ops A.size a → IsVector k.ops A.size b → IsVector k.ops A.size c
      → A.product k.ops a (add_lists (raw_ring k.ops) b c)
      ≡ add_lists (raw_ring k.ops) (A.product k.ops a b) (A.product k.ops a c)
  pub linear : (c : ℕ) (a b : List ℕ) → c < k.size → IsVector k.ops A.size a → IsVector k.ops A.size b
      → A.product k.ops (scale_list (raw_ring k.ops) c a) b ≡ scale_list (raw_ring k.ops) c (A.product k.ops a b)

-- the zero of the algebra
abbrev pub zero_of : AlgebraOps → List ℕ
zero_of A = replicate A.size 0

-- a to the power e; to the power 0 it is the unit
abbrev pub power : FieldOps → AlgebraOps → List ℕ → ℕ → List ℕ
power k A a zero = A.unit
power k A a (suc e) = A.product k a (power k A a e)

-- some power of a is 0
pub record IsNilpotentVector (k : FieldOps) (A : AlgebraOps) (a : List ℕ) : Type 0 where
  pub exponent : ℕ
  pub is : power k A a exponent ≡ zero_of A

-- a is its own q-th power, where q is the size of the field
pub record IsFixedVector (k : FieldOps) (A : AlgebraOps) (a : List ℕ) : Type 0 where
  pub is : power k A a k.size ≡ a

-- an element that is its own square
pub record IsIdempotentVector (k : FieldOps) (A : AlgebraOps) (e : List ℕ) : Type 0 where
  pub vector : IsVector k A.size e
  pub square : A.product k e e ≡ e

-- an idempotent that isn't 0, of which each idempotent multiple is 0 or itself
pub record IsPrimitiveVector (k : FieldOps) (A : AlgebraOps) (e : List ℕ) : Type 0 where
  pub idempotent : IsIdempotentVector k A e
  pub nonzero : e ≢ zero_of A
  pub least : (f : List ℕ) → IsIdempotentVector k A f → A.product k f e ≡ f → (f ≡ zero_of A) ⊎ (f ≡ e)

-- the algebra is a field: 1 isn't 0, and each element that isn't 0 has an inverse
pub record IsFieldAlgebra (k : FieldOps) (A : AlgebraOps) : Type 0 where
  pub one_not_zero : A.unit ≢ zero_of A
  pub inverse : (a : List ℕ) → IsVector k A.size a → a ≢ zero_of A
      → (b : List ℕ) × IsVector k A.size b × (A.product k a b ≡ A.unit)
