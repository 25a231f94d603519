-- Fields with the same operations are the same: what their laws say has one proof at most.
use Rattle.std.proofs.Common.{◌≡◌, refl, sym, ap, ◌∙◌, subst}
use native.Mathlib.Nat.{ℕ_set}
use Rattle.std.proofs.Math.Bridge.{le_prop}
use Rattle.ff_fields.specs.Field.{FieldOps, FieldLaws, CodeField}
use Rattle.ff_fields.specs.FieldData.{FieldData, Modulo, ByModulus, IsFieldData, ops_of, with_laws}
use Rattle.ff_meaning.specs.SameBindings.{AreSameFields}

laws_prop : (k : FieldOps) → IsProp (FieldLaws k)
laws_prop k = hlevel (ℕ_set, le_prop)

abbrev field_from : (k : FieldOps) → FieldLaws k → CodeField
field_from k laws = record { ops = k; laws = laws }

same_laws : (k l : FieldOps) → k ≡ l → (a : FieldLaws k) (b : FieldLaws l) → field_from k a ≡ field_from l b
same_laws k l e =
    subst (λ m. (a : FieldLaws k) (b : FieldLaws m) → field_from k a ≡ field_from m b) e
    (λ a b. ap (field_from k) (laws_prop k a b))

ops_are : (d : FieldData) (is : IsFieldData d) → (with_laws d is).ops ≡ ops_of d
ops_are (Modulo p) is = refl
ops_are (ByModulus p m modulus) is = refl

-- data with the same operations
pub same_field : (d e : FieldData) (is : IsFieldData d) (is' : IsFieldData e) → ops_of d ≡ ops_of e
    → with_laws d is ≡ with_laws e is'
same_field d e is is' same =
    same_laws (with_laws d is).ops (with_laws e is').ops (ops_are d is ∙ same ∙ sym (ops_are e is'))
    (with_laws d is).laws (with_laws e is').laws

pub fields_same : (d e : FieldData) (h : AreSameFields d e) (is : IsFieldData d) (is' : IsFieldData e)
    → with_laws d is ≡ with_laws e is'
fields_same d e h is is' = same_field d e is is' h.ops

-- the operations of data, with their laws
pub ops_with_laws : (d : FieldData) (is : IsFieldData d) → ops_of d ≡ (with_laws d is).ops
ops_with_laws d is = sym (ops_are d is)
