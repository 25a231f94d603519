-- When a statement is refused, and how. The rows of a statement exclude each other: each says that those before it
-- don't hold.
use Rattle.std.specs.Prelude.{◌≡◌, ◌≢◌, ℕ, ◌<◌, ◌≤◌, ◌-◌, ◌*◌, ◌⊎◌, List, [], ◌∷◌, length, Option, Some, None, IsTrue}
use Rattle.ff_fields.specs.declared.fault.FieldFault.{FieldFault}
use Rattle.ff_fields.specs.declared.fault.FieldFault.TheVariants as fields
use Rattle.ff_fields.specs.Field.{FieldOps, CodeField}
use Rattle.ff_fields.specs.Prime.{is_listed}
use Rattle.ff_fields.specs.Modulus.{IsFaultOf}
use Rattle.ff_poly.specs.Words.{poly_of, top_of, IsIrreducibleList}
use Rattle.ff_factor.specs.Factors.{FactorsValue, IsFactorisation}
use Rattle.function_field.specs.declared.side.Side.{Side}
use Rattle.function_field.specs.Values.{ElemValue, Functions}
use Rattle.function_field.specs.Curves.{CurveValue, IsCurve}
use Rattle.function_field.specs.PlaceLists.{ListedPlace, AreAllPlacesAbove}
use Rattle.ff_algebra.specs.declared.curve.CurveFault.{CurveFault}
use Rattle.ff_algebra.specs.declared.curve.CurveFault.TheVariants as curves
use Rattle.ff_algebra.specs.CurveTerms.{IsCurveOf, IsCurveFault}
use Rattle.ff_text.specs.declared.terms.Term.{Term}
use Rattle.ff_text.specs.declared.terms.ElemText.{ElemText}
use Rattle.ff_text.specs.Values.{written_codes}
use Rattle.ff_text.specs.Printed.{WrittenValue}
use Rattle.ff_script.specs.declared.script.Modulus.{Modulus}
use Rattle.ff_script.specs.declared.script.Over.{Over}
use Rattle.ff_script.specs.declared.script.Over.TheVariants.{At, Inf}
use Rattle.ff_script.specs.declared.script.Statement.{Statement}
use Rattle.ff_script.specs.declared.script.Statement.TheVariants.{FieldOf, CurveOf, Mul, Factor, OrderOf, Places, Place, Constants, Genus}
use Rattle.ff_meaning.specs.declared.refusal.Refusal.{Refusal}
use Rattle.ff_meaning.specs.declared.refusal.Refusal.TheVariants.{FieldSize, NotField, LimitY, LimitX, NotMonic, NotSeparable, LimitDisc, LimitInf, Reducible, NameTaken, LimitPlace, NotIrreducible, NoSuchPlace, CodeRange, Length, Zero, Memory}
use Rattle.ff_fields.specs.FieldData.{FieldData, IsFieldData, ops_of, with_laws}
use Rattle.function_field.specs.Limits.{max_degree, max_degree_of_places}
use Rattle.ff_meaning.specs.Bindings.{Bindings, Bound, ForField, ForCurve, ForBound, IsNameOf}
use Rattle.ff_meaning.specs.FirstIdempotents.{IsFirstIdempotent}
use Rattle.ff_meaning.specs.Meaning.{AreCodesBelow, IsFirstCodeFrom, codes_of_element, IsSumOf, IsPolyOf, IsElementOf, IsBase, degree_of_element}

-- the row holds, unless the refusal is want of memory, which is no row
abbrev pub UnlessMemory : (Refusal → Type 0) → Refusal → Type 0
UnlessMemory Row r = r ≢ Memory → Row r

-- the refusal tells the first written code that is q or more
abbrev pub IsCodeRow : ℕ → List ℕ → Refusal → Type 0
IsCodeRow q codes r = (c : ℕ) × IsFirstCodeFrom q codes c × (r ≡ CodeRange c)

-- ---- the rows of a field line

-- why the numbers of the line give no field
abbrev pub IsFieldLineFault : ℕ → Option Modulus → FieldFault → Type 0
IsFieldLineFault p None fault = ¬ IsTrue (is_listed p) × (fault ≡ fields.FieldSize p 1)
IsFieldLineFault p (Some tail) fault = IsFaultOf p tail.m tail.codes fault

abbrev pub refusal_of_field : FieldFault → Refusal
refusal_of_field (fields.FieldSize p m) = FieldSize p m
refusal_of_field (fields.CodeRange c) = CodeRange c
refusal_of_field (fields.NotMonic c) = NotMonic (poly_of (c ∷ []))
refusal_of_field (fields.NotField a b) = NotField a b

pub record IsFieldRow (p : ℕ) (tail : Option Modulus) (r : Refusal) : Type 0 where
  pub fault : FieldFault
  pub holds : IsFieldLineFault p tail fault
  pub is : r ≡ refusal_of_field fault

-- ---- the rows of a curve

abbrev pub refusal_of_curve : CurveFault → Refusal
refusal_of_curve (curves.LimitY n) = LimitY n
refusal_of_curve (curves.LimitX d) = LimitX d
refusal_of_curve (curves.NotMonic p) = NotMonic p
refusal_of_curve curves.NotSeparable = NotSeparable
refusal_of_curve (curves.LimitDisc d) = LimitDisc d
refusal_of_curve (curves.LimitInf d) = LimitInf d
refusal_of_curve curves.Memory = Memory

-- a code is too great, or the sum of the terms gives no curve, or it gives one whose functions are no field: then z is
-- the first of the idempotents other than 0 and 1
pub data IsNoCurve (k : CodeField) (f : List Term) (r : Refusal) : Type 0 where
  range : IsCodeRow k.size (written_codes f) r → IsNoCurve k f r
  fault : (sum : List (ℕ × ℕ × ℕ)) → IsSumOf k.ops f sum → (e : CurveFault) → e ≢ curves.Memory → IsCurveFault k sum e
      → r ≡ refusal_of_curve e → IsNoCurve k f r
  reducible : (sum : List (ℕ × ℕ × ℕ)) → IsSumOf k.ops f sum → (c : CurveValue) → IsCurveOf k sum c
      → (z : WrittenValue) → IsFirstIdempotent k c.fin z → r ≡ Reducible z → IsNoCurve k f r

abbrev pub IsCurveRow : FieldData → List Term → Refusal → Type 0
IsCurveRow d f r = (is : IsFieldData d) × IsNoCurve (with_laws d is) f r

-- ---- the rows of a product

module _ (k : FieldOps) (n bound : ℕ) where
  -- an element of n entries, of degrees up to the bound, over a denominator that isn't 0
  pub record IsWithinDegrees (e : ElemText) : Type 0 where
    pub written : AreCodesBelow k.size (codes_of_element e)
    pub size : length e.entries ≡ n
    pub value : ElemValue
    pub is : IsElementOf k e value
    pub small : degree_of_element value ≤ bound
    pub over : value.den ≢ []

  pub data IsElementRow (e : ElemText) (r : Refusal) : Type 0 where
    range : IsCodeRow k.size (codes_of_element e) r → IsElementRow e r
    size : AreCodesBelow k.size (codes_of_element e) → length e.entries ≢ n → r ≡ Length (length e.entries)
        → IsElementRow e r
    degree : length e.entries ≡ n → (z : ElemValue) → IsElementOf k e z → bound < degree_of_element z
        → r ≡ LimitX (degree_of_element z) → IsElementRow e r
    zero_den : length e.entries ≡ n → (z : ElemValue) → IsElementOf k e z → degree_of_element z ≤ bound → z.den ≡ []
        → r ≡ Zero → IsElementRow e r

  -- the first element's rows come before the second's
  abbrev pub IsProductRow : ElemText → ElemText → Refusal → Type 0
  IsProductRow a b r = IsElementRow a r ⊎ (IsWithinDegrees a × IsElementRow b r)

-- ---- the rows of a factorisation

-- a code is too great, or the degree of the polynomial is above the bound, or it is 0
pub data IsFactorRow (k : FieldOps) (bound : ℕ) (g : List Term) (r : Refusal) : Type 0 where
  range : IsCodeRow k.size (written_codes g) r → IsFactorRow k bound g r
  degree : (p : List ℕ) → IsPolyOf k g p → bound < length p - 1 → r ≡ LimitX (length p - 1) → IsFactorRow k bound g r
  zero_sum : IsPolyOf k g [] → r ≡ Zero → IsFactorRow k bound g r

-- ---- the rows of places

-- h is the first of the polynomials
abbrev pub IsFirstPart : List (List ℕ × ℕ) → List ℕ → Type 0
IsFirstPart [] h = ⊥
IsFirstPart (part ∷ parts) h = h ≡ part.0

-- why p isn't irreducible and monic: it is constant, or its top coefficient isn't 1, or it has a proper factor; and
-- what is told of it: the constant, the coefficient, or the first of its irreducible factors
pub data IsReducible (k : FieldOps) (p h : List ℕ) : Type 0 where
  constant : length p ≤ 1 → h ≡ p → IsReducible k p h
  coefficient : 2 ≤ length p → top_of p ≢ 1 → h ≡ poly_of (top_of p ∷ []) → IsReducible k p h
  factor : 2 ≤ length p → top_of p ≡ 1 → ¬ IsIrreducibleList k p → (parts : FactorsValue)
      → IsFactorisation k p parts → IsFirstPart parts.parts h → IsReducible k p h

-- a code is too great, or n times the degree of the polynomial is above the bound, or it isn't irreducible and monic
pub data IsPolynomialRow (k : FieldOps) (n bound : ℕ) (g : List Term) (r : Refusal) : Type 0 where
  range : IsCodeRow k.size (written_codes g) r → IsPolynomialRow k n bound g r
  degree : (p : List ℕ) → IsPolyOf k g p → bound < n * (length p - 1) → r ≡ LimitPlace (n * (length p - 1))
      → IsPolynomialRow k n bound g r
  reducible : (p : List ℕ) → IsPolyOf k g p → n * (length p - 1) ≤ bound → (h : List ℕ) → IsReducible k p h
      → r ≡ NotIrreducible h → IsPolynomialRow k n bound g r

-- no polynomial is written for infinity
abbrev pub IsBaseRow : FieldOps → ℕ → ℕ → Over → Refusal → Type 0
IsBaseRow k n bound (At g) r = IsPolynomialRow k n bound g r
IsBaseRow k n bound Inf r = ⊥

-- the number of the place is 0, or above the number of all places
pub record IsNoPlace (k : CodeField) (c : CurveValue) (over : Over) (index : ℕ) (r : Refusal) : Type 0 where
  pub curve : IsCurve k c
  pub side : Side
  pub p : List ℕ
  pub base : IsBase k.ops over side p
  pub places : List (ListedPlace (Functions k c.fin))
  pub all : AreAllPlacesAbove k c side p places
  pub outside : (index ≡ 0) ⊎ (length places < index)
  pub is : r ≡ NoSuchPlace index (length places)

-- the name is bound, or a row of what the places lie over holds, or there is no such place
pub data IsPlaceRow (k : CodeField) (b : Bound) (name : List ℕ) (over : Over) (index : ℕ) (r : Refusal) : Type 0 where
  taken : IsNameOf name b.places → r ≡ NameTaken name → IsPlaceRow k b name over index r
  base : ¬ IsNameOf name b.places → IsBaseRow k.ops b.curve.fin.n max_degree_of_places over r
      → IsPlaceRow k b name over index r
  none : ¬ IsNameOf name b.places → ((t : Refusal) → ¬ IsBaseRow k.ops b.curve.fin.n max_degree_of_places over t)
      → IsNoPlace k b.curve over index r → IsPlaceRow k b name over index r

-- ---- all rows

abbrev pub IsRefusalRow : Bindings → Statement → Refusal → Type 0
IsRefusalRow old (FieldOf p tail) r = (old.field ≡ None) × IsFieldRow p tail r
IsRefusalRow old (CurveOf f) r = ForField old (λ d. IsCurveRow d f r)
IsRefusalRow old (Mul a b) r = ForCurve old (λ d c. IsProductRow (ops_of d) c.fin.n max_degree a b r)
IsRefusalRow old (Factor g) r = ForCurve old (λ d c. IsFactorRow (ops_of d) max_degree g r)
IsRefusalRow old (OrderOf s) r = ⊥
IsRefusalRow old Constants r = ⊥
IsRefusalRow old Genus r = ⊥
IsRefusalRow old (Places over) r = ForCurve old
    (λ d c. IsFieldData d × IsBaseRow (ops_of d) c.fin.n max_degree_of_places over r)
IsRefusalRow old (Place name over index) r = ForBound old
    (λ d b. (is : IsFieldData d) × IsPlaceRow (with_laws d is) b name over index r)

-- none of the rows of the statement holds
abbrev pub HasNoRow : Bindings → Statement → Type 0
HasNoRow old s = (r : Refusal) → ¬ IsRefusalRow old s r
