-- The bindings that what is held stands for, and what a statement binds.
use Rattle.std.specs.Prelude.{◌≡◌, [], ◌∷◌, ◌++◌, Option, Some, None}
use Rattle.ff_fields.specs.declared.fields.Field.{Field as AnyField}
use Rattle.ff_fields.specs.Fields.{field_of}
use Rattle.ff_fields.specs.FieldData.{FieldData, IsFieldData, data_of, with_laws}
use Rattle.ff_meaning.specs.Bindings.{Bindings, nothing, with_field, ForField, ForBound, IsNameOf, Bound as BoundValue}
use Rattle.ff_session.specs.declared.bindings.Bound.{Bound}
use Rattle.ff_session.specs.declared.bindings.Change.{Change}
use Rattle.ff_session.specs.FunctionFields.{IsFunctionField}
use Rattle.ff_session.specs.declared.bindings.Change.TheVariants.{Nothing, Field, Curve, Place}

abbrev pub field_data : Option AnyField → Option FieldData
field_data None = None
field_data (Some k) = Some (data_of k)

abbrev pub what_is_bound : Option Bound → Option BoundValue
what_is_bound None = None
what_is_bound (Some b) = Some (record { curve = b.over.frame.curve; places = b.names })

-- a curve stands over a field, and its functions are a field
abbrev pub IsSound : Option AnyField → Option Bound → Type 0
IsSound k None = Unit {0}
IsSound None (Some b) = ⊥
IsSound (Some k) (Some b) = IsFunctionField (field_of k) b.over

-- what stands over the field, with one place more
abbrev pub with_place : Option BoundValue → Change → Option BoundValue
with_place None change = None
with_place (Some b) Nothing = Some b
with_place (Some b) (Field k) = Some b
with_place (Some b) (Curve F) = Some b
with_place (Some b) (Place name P) = Some
    (record { curve = b.curve; places = b.places ++ record { name = name; place = P } ∷ [] })

-- the bindings behind a statement that binds this
abbrev pub bindings_after : Bindings → Change → Bindings
bindings_after old Nothing = old
bindings_after old (Field k) = with_field (data_of k)
bindings_after old (Curve F) = record
    { field = old.field; bound = Some (record { curve = F.frame.curve; places = [] }) }
bindings_after old (Place name P) = record { field = old.field; bound = with_place old.bound (Place name P) }

-- a field is bound where nothing is, a curve of it behind it, and then names that aren't bound
abbrev pub MayTake : Bindings → Change → Type 0
MayTake old Nothing = Unit {0}
MayTake old (Field k) = old ≡ nothing
MayTake old (Curve F) = (old.bound ≡ None)
    × ForField old (λ d. (is : IsFieldData d) → IsFunctionField (with_laws d is) F)
MayTake old (Place name P) = ForBound old (λ d b. ¬ IsNameOf name b.places)
