-- Bindings that say the same, as a script can lead to them: one field, one curve over it, and the same names of its
-- places. Data of a field aren't
-- told apart by its operations, since a modulus of degree 1 may be any.
use Rattle.std.specs.Prelude.{◌≡◌, List}
use Rattle.ff_fields.specs.FieldData.{FieldData, IsFieldData, ops_of, with_laws}
use Rattle.function_field.specs.Curves.{CurveValue, IsCurve}
use Rattle.ff_meaning.specs.Bindings.{Bindings, NamedPlace, nothing, with_field, with_places}

-- two fields with the same operations
pub record AreSameFields (d e : FieldData) : Type 0 where
  pub left : IsFieldData d
  pub right : IsFieldData e
  pub ops : ops_of d ≡ ops_of e

-- and a curve over them
pub record AreSameCurves (d e : FieldData) (c : CurveValue) : Type 0 where
  pub fields : AreSameFields d e
  pub curve : IsCurve (with_laws d fields.left) c

-- both have bound nothing, or the same field, or the same curve over the same field and the same places
pub data AreSameBindings (a b : Bindings) : Type 0 where
  NothingBound : a ≡ nothing → b ≡ nothing → AreSameBindings a b
  OneField : (d e : FieldData) → AreSameFields d e → a ≡ with_field d → b ≡ with_field e → AreSameBindings a b
  OneCurve : (d e : FieldData) (c : CurveValue) (Ps : List NamedPlace) → AreSameCurves d e c → a ≡ with_places d c Ps
      → b ≡ with_places e c Ps → AreSameBindings a b
