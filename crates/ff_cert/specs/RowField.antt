-- The answers of `field`.
use Rattle.std.specs.Prelude.{◌≡◌, ℕ, ◌<◌, List, ◌++◌, Option, codes, decimal, ◌⊎◌}
use Rattle.ff_fields.specs.Field.{FieldOps}
use Rattle.ff_fields.specs.FieldData.{FieldData, IsFieldData, ops_of}
use Rattle.ff_script.specs.declared.script.Modulus.{Modulus}
use Rattle.ff_meaning.specs.FieldLines.{Names}
use Rattle.ff_meaning.specs.Bindings.{Bindings, with_field}
use Rattle.ff_cert.specs.Lines.{answer_line}

module _ (k : FieldOps) where
  -- q is the number of codes, and no product of two codes is 0 where neither is
  pub record IsFieldOf (q : ℕ) : Type 0 where
    pub size : q ≡ k.size
    pub no_divisors : (a b : ℕ) → a < q → b < q → k.mul a b ≡ 0 → (a ≡ 0) ⊎ (b ≡ 0)

-- the field that the line names is bound, and q is its size
pub record IsTrue (p : ℕ) (tail : Option Modulus) (q : ℕ) (next : Bindings) : Type 0 where
  pub field : FieldData
  pub is_field : IsFieldData field
  pub named : Names p tail (ops_of field)
  pub size : IsFieldOf (ops_of field) q
  pub bound : next ≡ with_field field

-- the line with the size
abbrev pub lines : ℕ → List ℕ
lines q = answer_line (codes "q " ++ decimal q)

-- no polynomial stands in it
abbrev pub degree : ℕ
degree = 0
