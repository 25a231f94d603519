-- The field by its data is the field that is held.
use Rattle.std.proofs.Common.{◌≡◌, refl, ◌∙◌, ap}
use native.Mathlib.Nat.{ℕ_set}
use Rattle.std.proofs.Math.Bool.{Bool-set}
use Rattle.std.proofs.Math.Bridge.{le_prop}
use Rattle.ff_fields.specs.declared.fields.Field.{Field as AnyField}
use Rattle.ff_fields.specs.declared.fields.Field.TheVariants.{Prime, Residue, Table}
use Rattle.ff_fields.specs.declared.standard.Standard.{Standard}
use Rattle.ff_fields.specs.declared.standard.Standard.TheVariants as standard
use Rattle.ff_fields.specs.Fields.{field_of}
use Rattle.ff_fields.specs.Standards.{standard_of}
use Rattle.ff_fields.specs.FieldData.{FieldData, Modulo, ByModulus, IsFieldData, ops_of, with_laws, data_of, data_of_standard}

standard_ops : (k : Standard) → ops_of (data_of_standard k) ≡ (standard_of k).ops
standard_ops (standard.Prime k) = refl
standard_ops (standard.Residue k) = refl

pub same_ops : (k : AnyField) → ops_of (data_of k) ≡ (field_of k).ops
same_ops (Prime k) = refl
same_ops (Residue k) = refl
same_ops (Table k) = standard_ops k

standard_is : (k : Standard) → IsFieldData (data_of_standard k)
standard_is (standard.Prime k) = k.listed
standard_is (standard.Residue k) = k.is_field

pub data_is : (k : AnyField) → IsFieldData (data_of k)
data_is (Prime k) = k.listed
data_is (Residue k) = k.is_field
data_is (Table k) = standard_is k

same_standard : (k : Standard) → with_laws (data_of_standard k) (standard_is k) ≡ standard_of k
unfolding standard_is
same_standard (standard.Prime k) = refl
same_standard (standard.Residue k) = refl

pub same_field : (k : AnyField) → with_laws (data_of k) (data_is k) ≡ field_of k
unfolding data_is
same_field (Prime k) = refl
same_field (Residue k) = refl
same_field (Table k) = same_standard k

IsField_prop : (d : FieldData) → IsProp (IsFieldData d)
IsField_prop (Modulo p) = hlevel (ℕ_set, le_prop, Bool-set)
IsField_prop (ByModulus p m modulus) = hlevel (ℕ_set, le_prop, Bool-set)

-- with the laws of any proof that there is such a field
pub laws_are : (k : AnyField) (is : IsFieldData (data_of k)) → with_laws (data_of k) is ≡ field_of k
laws_are k is = ap (with_laws (data_of k)) (IsField_prop (data_of k) is (data_is k)) ∙ same_field k
