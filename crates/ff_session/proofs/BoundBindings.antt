-- What a statement may bind keeps the bindings sound.
use Rattle.std.proofs.Common.{◌≡◌, Option, Some, None, sym, subst}
use Rattle.ff_fields.specs.declared.fields.Field.{Field as AnyField}
use Rattle.ff_fields.specs.Field.{CodeField}
use Rattle.ff_fields.specs.FieldData.{IsFieldData, with_laws}
use Rattle.ff_fields.proofs.FieldData.{data_is, laws_are}
use Rattle.ff_meaning.specs.Bindings.{Bindings, IsSomeWith, ForField}
use Rattle.ff_session.specs.declared.bindings.Bound.{Bound}
use Rattle.ff_session.specs.FunctionFields.{IsFunctionField}
use Rattle.ff_session.specs.Bound.{field_data, IsSound}

pub sound_curve : (f : Option AnyField) (old : Bindings) (b : Bound) → field_data f ≡ old.field
    → ForField old (λ d. (is : IsFieldData d) → IsFunctionField (with_laws d is) b.over) → IsSound f (Some b)
sound_curve None old b e h =
    subst (λ o. IsSomeWith o (λ d. (is : IsFieldData d) → IsFunctionField (with_laws d is) b.over)) (sym e) h
sound_curve (Some k) old b e h =
    let over =
    subst (λ o. IsSomeWith o (λ d. (is : IsFieldData d) → IsFunctionField (with_laws d is) b.over)) (sym e) h in
    subst (λ (l : CodeField). IsFunctionField l b.over) (laws_are k (data_is k)) (over (data_is k))
