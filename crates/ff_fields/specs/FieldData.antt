-- Fields by their data, which a contract can hold where it can't hold the operations themselves.
use Rattle.std.specs.Prelude.{ℕ, List, ◌+◌, IsTrue, take}
use Rattle.ff_fields.specs.declared.fields.Field.{Field as AnyField}
use Rattle.ff_fields.specs.declared.fields.Field.TheVariants.{Prime, Residue, Table}
use Rattle.ff_fields.specs.declared.standard.Standard.{Standard}
use Rattle.ff_fields.specs.declared.standard.Standard.TheVariants as standard
use Rattle.ff_fields.specs.Field.{FieldOps, CodeField}
use Rattle.ff_fields.specs.Prime.{is_listed, prime_of, prime_field}
use Rattle.ff_fields.specs.Residue.{residue_of}
use Rattle.ff_fields.specs.Modulus.{IsFieldModulus, modulus_field}

-- a field by its data: the numbers modulo p, or the polynomials over them modulo one of degree m
pub data FieldData : Type 0 where
  Modulo : ℕ → FieldData
  ByModulus : ℕ → ℕ → List ℕ → FieldData

-- the operations on its codes
abbrev pub ops_of : FieldData → FieldOps
ops_of (Modulo p) = prime_of p
ops_of (ByModulus p m modulus) = residue_of p m modulus

-- there is such a field here
abbrev pub IsFieldData : FieldData → Type 0
IsFieldData (Modulo p) = IsTrue (is_listed p)
IsFieldData (ByModulus p m modulus) = IsFieldModulus p m modulus

-- its operations with their laws
abbrev pub with_laws : (d : FieldData) → IsFieldData d → CodeField
with_laws (Modulo p) is = prime_field p is
with_laws (ByModulus p m modulus) is = modulus_field p m modulus is

-- the data of a field that takes no memory, and of one that is held; a field by tables has those of the field that it
-- was made of
abbrev pub data_of_standard : Standard → FieldData
data_of_standard (standard.Prime k) = Modulo k.p
data_of_standard (standard.Residue k) = ByModulus k.p k.m (take (k.m + 1) k.modulus)

abbrev pub data_of : AnyField → FieldData
data_of (Prime k) = Modulo k.p
data_of (Residue k) = ByModulus k.p k.m (take (k.m + 1) k.modulus)
data_of (Table k) = data_of_standard k
