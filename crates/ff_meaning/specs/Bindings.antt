-- What the statements of a script have bound: a field, a curve over it, and names of places of the curve.
use Rattle.std.specs.Prelude.{◌≡◌, ℕ, List, [], All, IfSome, Option, Some, None}
use Rattle.std.specs.List.{Any}
use Rattle.ff_fields.specs.FieldData.{FieldData}
use Rattle.function_field.specs.Curves.{CurveValue}
use Rattle.ff_text.specs.declared.terms.ElemText.{ElemText}
use Rattle.ff_text.specs.Values.{HasSmallExponents}
use Rattle.value_theory.specs.Primes.{PrimeValue}
use Rattle.ff_script.specs.declared.script.Over.{Over}
use Rattle.ff_script.specs.declared.script.Over.TheVariants.{At, Inf}
use Rattle.ff_script.specs.declared.script.Statement.{Statement}
use Rattle.ff_script.specs.declared.script.Statement.TheVariants.{FieldOf, CurveOf, Mul, Factor, OrderOf, Places, Place, Constants, Genus}

-- a place that is bound to a name; its key is its side, its polynomial and its number
pub record NamedPlace : Type 0 where
  pub name : List ℕ
  pub place : PrimeValue

-- what a curve statement binds, and those behind it: the curve, and the named places in the order of their statements
pub record Bound : Type 0 where
  pub curve : CurveValue
  pub places : List NamedPlace

-- what the statements so far have bound: a field, and what stands over it
pub record Bindings : Type 0 where
  pub field : Option FieldData
  pub bound : Option Bound

-- nothing is bound
abbrev pub nothing : Bindings
nothing = record { field = None; bound = None }

-- a field is bound, and nothing over it
abbrev pub with_field : FieldData → Bindings
with_field d = record { field = Some d; bound = None }

-- a field, a curve over it, and places of the curve are bound
abbrev pub with_places : FieldData → CurveValue → List NamedPlace → Bindings
with_places d c Ps = record { field = Some d; bound = Some (record { curve = c; places = Ps }) }

-- a field and a curve over it are bound, and no name
abbrev pub with_curve : FieldData → CurveValue → Bindings
with_curve d c = with_places d c []

-- there is a value, and it has the property
abbrev pub IsSomeWith : {A : Type 0} → Option A → (A → Type 0) → Type 0
IsSomeWith None P = ⊥
IsSomeWith (Some a) P = P a

-- P holds of the field that is bound
abbrev pub ForField : Bindings → (FieldData → Type 0) → Type 0
ForField s P = IsSomeWith s.field P

-- P holds of the field that is bound, and of what is bound over it
abbrev pub ForBound : Bindings → (FieldData → Bound → Type 0) → Type 0
ForBound s P = IsSomeWith s.field (λ d. IsSomeWith s.bound (λ b. P d b))

-- P holds of the field and the curve that are bound
abbrev pub ForCurve : Bindings → (FieldData → CurveValue → Type 0) → Type 0
ForCurve s P = ForBound s (λ d b. P d b.curve)

-- the name is that of one of the places
abbrev pub IsNameOf : List ℕ → List NamedPlace → Type 0
IsNameOf name Ps = Any (λ P. P.name ≡ name) Ps

-- `field` stands first, `curve` second, and neither again
abbrev pub IsInPlace : Bindings → Statement → Type 0
IsInPlace old (FieldOf p tail) = (old.field ≡ None) × (old.bound ≡ None)
IsInPlace old (CurveOf f) = ForField old (λ d. old.bound ≡ None)
IsInPlace old (Mul a b) = ForCurve old (λ d c. Unit {0})
IsInPlace old (Factor g) = ForCurve old (λ d c. Unit {0})
IsInPlace old (OrderOf s) = ForCurve old (λ d c. Unit {0})
IsInPlace old (Places over) = ForCurve old (λ d c. Unit {0})
IsInPlace old (Place name over index) = ForCurve old (λ d c. Unit {0})
IsInPlace old Constants = ForCurve old (λ d c. Unit {0})
IsInPlace old Genus = ForCurve old (λ d c. Unit {0})

-- the exponents of each variable add up to less than 2^64 in each term of the entries and of the denominator
pub record HasSmallElement (e : ElemText) : Type 0 where
  pub entries : All (All HasSmallExponents) e.entries
  pub den : IfSome e.den (All HasSmallExponents)

-- they do in each term of what places lie over
abbrev pub HasSmallOver : Over → Type 0
HasSmallOver (At g) = All HasSmallExponents g
HasSmallOver Inf = Unit {0}

-- they do in each term of the statement, which is what `collect` asks for
abbrev pub HasSmallPowers : Statement → Type 0
HasSmallPowers (FieldOf p tail) = Unit {0}
HasSmallPowers (CurveOf f) = All HasSmallExponents f
HasSmallPowers (Mul a b) = HasSmallElement a × HasSmallElement b
HasSmallPowers (Factor g) = All HasSmallExponents g
HasSmallPowers (OrderOf s) = Unit {0}
HasSmallPowers (Places over) = HasSmallOver over
HasSmallPowers (Place name over index) = HasSmallOver over
HasSmallPowers Constants = Unit {0}
HasSmallPowers Genus = Unit {0}
