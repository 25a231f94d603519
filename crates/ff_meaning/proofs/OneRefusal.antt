-- The rows of a statement tell one refusal at most.
use Rattle.std.proofs.Common.{◌≡◌, ◌≢◌, ℕ, ◌-◌, ◌<◌, ◌≤◌, ◌⊎◌, inl, inr, List, [], ◌∷◌, length, get_or, refl, sym, ap, ap₂, ◌∙◌, subst, arith, Option, Some, None}
use Rattle.std.specs.Prelude.{flat_map}
use Rattle.std.proofs.lemmas.Bool.{cases_lt}
use Rattle.std.proofs.lemmas.List.Elements.{All-nil, All-append, All-get_or}
use Rattle.ff_fields.specs.declared.fault.FieldFault.{FieldFault}
use Rattle.ff_fields.specs.declared.fault.FieldFault.TheVariants as fields
use Rattle.ff_fields.specs.Field.{FieldOps, CodeField}
use Rattle.ff_fields.specs.Prime.{prime_of}
use Rattle.ff_fields.specs.Over.{IsOver}
use Rattle.ff_fields.specs.Modulus.{IsFirstOutside, IsZeroProduct, IsLeastZeroProduct, IsFaultOf}
use Rattle.ff_fields.specs.FieldData.{FieldData, IsFieldData, ops_of, with_laws}
use Rattle.function_field.specs.Values.{ElemValue}
use Rattle.function_field.specs.Curves.{CurveValue}
use Rattle.ff_algebra.specs.declared.curve.CurveFault.{CurveFault}
use Rattle.ff_algebra.specs.declared.curve.CurveFault.TheVariants as curves
use Rattle.ff_algebra.specs.CurveTerms.{IsCurveOf, IsCurveFault}
use Rattle.ff_algebra.proofs.CurveFaults.{one_fault, no_fault}
use Rattle.ff_algebra.proofs.OneInfinite.{one_curve}
use Rattle.ff_text.specs.declared.terms.Term.{Term}
use Rattle.ff_text.specs.declared.terms.ElemText.{ElemText}
use Rattle.ff_text.specs.Values.{written_codes}
use Rattle.ff_text.specs.Printed.{WrittenValue}
use Rattle.ff_script.specs.declared.script.Modulus.{Modulus}
use Rattle.ff_script.specs.declared.script.Over.{Over}
use Rattle.ff_script.specs.declared.script.Statement.{Statement}
use Rattle.ff_script.specs.declared.script.Statement.TheVariants.{FieldOf, CurveOf, Mul, Factor, OrderOf, Places, Place, Constants, Genus}
use Rattle.ff_meaning.specs.declared.refusal.Refusal.{Refusal}
use Rattle.ff_meaning.specs.declared.refusal.Refusal.TheVariants.{LimitX, Reducible, Memory}
use Rattle.function_field.specs.Limits.{max_degree, max_degree_of_places}
use Rattle.ff_meaning.specs.Bindings.{Bindings, Bound, NamedPlace, with_field, with_places, IsSomeWith}
use Rattle.ff_meaning.specs.SameBindings.{AreSameFields, AreSameBindings, NothingBound, OneField, OneCurve}
use Rattle.ff_meaning.specs.FirstIdempotents.{IsFirstIdempotent}
use Rattle.ff_meaning.specs.Meaning.{AreCodesBelow, codes_of_den, codes_of_element, IsSumOf, ArePolysOf, IsDenOf, IsElementOf, degree_of_element}
use Rattle.ff_meaning.specs.Refusals.{IsFieldLineFault, refusal_of_field, IsFieldRow, refusal_of_curve, IsNoCurve, IsElementRow, IsProductRow, IsFactorRow, IsBaseRow, IsPlaceRow, IsRefusalRow}
use Rattle.ff_meaning.specs.Refusals as rows
use Rattle.ff_meaning.proofs.TermCodes.{same_terms}
use Rattle.ff_meaning.proofs.ElementValues.{same_poly, same_polys, same_den, no_element_row}
use Rattle.ff_meaning.proofs.OneField.{same_field, fields_same, ops_with_laws}
use Rattle.ff_meaning.proofs.CodeRows.{same_code, no_code, code_some}
use Rattle.ff_meaning.proofs.BaseRows.{one_base_row, base_some}
use Rattle.ff_meaning.proofs.FirstIdempotents.{one_first}
use Rattle.ff_meaning.proofs.PlaceRows.{one_place_row, place_some}

-- ---- field lines

module _ (p m : ℕ) (codes : List ℕ) where
  outside : (c : ℕ) → IsFirstOutside p codes c → IsOver (prime_of p) codes → ⊥
  outside c h over =
      let below : get_or codes h.position 0 < p = All-get_or (λ c. c < p) codes h.position 0 h.within over.each in
      let is = h.is in
      let out = h.outside in
      omega (arith, below, is, out)

  same_outside : (c d : ℕ) → IsFirstOutside p codes c → IsFirstOutside p codes d → c ≡ d
  same_outside c d h g = go (cases_lt h.position g.position) (cases_lt g.position h.position)
    where
      before : (c d : ℕ) (h : IsFirstOutside p codes c) (g : IsFirstOutside p codes d) → h.position < g.position → ⊥
      before c d h g less =
          let below = g.before h.position less in
          let is = h.is in
          let out = h.outside in
          omega (arith, below, is, out)

      go : (h.position < g.position) ⊎ (g.position ≤ h.position) → (g.position < h.position) ⊎ (h.position ≤ g.position)
          → c ≡ d
      go (inl less) other = absurd (before c d h g less)
      go (inr le) (inl less) = absurd (before d c g h less)
      go (inr le) (inr ge) =
          let same : h.position ≡ g.position = omega arith in
          sym h.is ∙ ap (λ i. get_or codes i 0) same ∙ g.is

  same_product : (a b c d : ℕ) → IsLeastZeroProduct p m codes a b → IsLeastZeroProduct p m codes c d → (a ≡ c) × (b ≡ d)
  same_product a b c d h g =
      let low = h.least_a c d g.product in
      let high = g.least_a a b h.product in
      let first : a ≡ c = omega (arith, low, high) in
      let less = h.least_b d (subst (λ x. IsZeroProduct p m codes x d) (sym first) g.product) in
      let more = g.least_b b (subst (λ x. IsZeroProduct p m codes x b) first h.product) in
      (first, omega (arith, less, more))

  same_fault : (e d : FieldFault) → IsFaultOf p m codes e → IsFaultOf p m codes d → e ≡ d
  same_fault (fields.FieldSize q n) (fields.FieldSize r l) h g = ap₂ fields.FieldSize (h.0 ∙ sym g.0) (h.1 ∙ sym g.1)
  same_fault (fields.FieldSize q n) (fields.CodeRange c) h g = absurd (h.2 g.0)
  same_fault (fields.FieldSize q n) (fields.NotMonic c) h g = absurd (h.2 g.0)
  same_fault (fields.FieldSize q n) (fields.NotField a b) h g = absurd (h.2 g.0.size)
  same_fault (fields.CodeRange c) (fields.FieldSize q n) h g = absurd (g.2 h.0)
  same_fault (fields.CodeRange c) (fields.CodeRange d) h g = ap fields.CodeRange (same_outside c d h.1 g.1)
  same_fault (fields.CodeRange c) (fields.NotMonic d) h g = absurd (outside c h.1 g.1)
  same_fault (fields.CodeRange c) (fields.NotField a b) h g = absurd (outside c h.1 g.0.over)
  same_fault (fields.NotMonic c) (fields.FieldSize q n) h g = absurd (g.2 h.0)
  same_fault (fields.NotMonic c) (fields.CodeRange d) h g = absurd (outside d g.1 h.1)
  same_fault (fields.NotMonic c) (fields.NotMonic d) h g = ap fields.NotMonic (sym h.2 ∙ g.2)
  same_fault (fields.NotMonic c) (fields.NotField a b) h g = absurd (h.3 (sym h.2 ∙ g.0.monic))
  same_fault (fields.NotField a b) (fields.FieldSize q n) h g = absurd (g.2 h.0.size)
  same_fault (fields.NotField a b) (fields.CodeRange c) h g = absurd (outside c g.1 h.0.over)
  same_fault (fields.NotField a b) (fields.NotMonic c) h g = absurd (g.3 (sym g.2 ∙ h.0.monic))
  same_fault (fields.NotField a b) (fields.NotField c d) h g =
      let same = same_product a b c d h.1 g.1 in
      ap₂ fields.NotField same.0 same.1

same_line_fault : (p : ℕ) (tail : Option Modulus) (e d : FieldFault) → IsFieldLineFault p tail e
    → IsFieldLineFault p tail d → e ≡ d
same_line_fault p None e d h g = h.1 ∙ sym g.1
same_line_fault p (Some tail) e d h g = same_fault p tail.m tail.codes e d h g

one_field_row : (p : ℕ) (tail : Option Modulus) (r t : Refusal) → IsFieldRow p tail r → IsFieldRow p tail t → r ≡ t
one_field_row p tail r t h g = h.is ∙ ap refusal_of_field (same_line_fault p tail h.fault g.fault h.holds g.holds)
    ∙ sym g.is

-- ---- curves

module _ (k : CodeField) (f : List Term) where
  pub same_sum : (s u : List (ℕ × ℕ × ℕ)) → IsSumOf k.ops f s → IsSumOf k.ops f u → s ≡ u
  same_sum s u h g = same_terms k s u h.terms g.terms h.codes_in g.codes_in (λ i j. h.codes i j ∙ sym (g.codes i j))

  one_curve_row : (r t : Refusal) → IsNoCurve k f r → IsNoCurve k f t → r ≡ t
  one_curve_row r t (rows.range h) (rows.range g) = same_code k.size (written_codes f) r t h g
  one_curve_row r t (rows.range h) (rows.fault sum is e some holds told) = absurd
      (no_code k.ops (written_codes f) r is.written h)
  one_curve_row r t (rows.fault sum is e some holds told) (rows.range g) = absurd
      (no_code k.ops (written_codes f) t is.written g)
  one_curve_row r t (rows.fault sum is e some holds told) (rows.fault sum' is' e' some' holds' told') =
      let same = same_sum sum sum' is is' in
      told ∙ ap refusal_of_curve (one_fault k sum' e e' some some' (subst (λ s. IsCurveFault k s e) same holds) holds')
      ∙ sym told'
  one_curve_row r t (rows.range h) (rows.reducible sum is c c_is z first told) = absurd
      (no_code k.ops (written_codes f) r is.written h)
  one_curve_row r t (rows.reducible sum is c c_is z first told) (rows.range g) = absurd
      (no_code k.ops (written_codes f) t is.written g)
  one_curve_row r t (rows.fault sum is e some holds told) (rows.reducible sum' is' c c_is z first told') =
      let same = same_sum sum sum' is is' in
      absurd (no_fault k sum' e c some (subst (λ s. IsCurveFault k s e) same holds) c_is)
  one_curve_row r t (rows.reducible sum is c c_is z first told) (rows.fault sum' is' e some holds told') =
      let same = same_sum sum' sum is' is in
      absurd (no_fault k sum e c some (subst (λ s. IsCurveFault k s e) same holds) c_is)
  one_curve_row r t (rows.reducible sum is c c_is z first told) (rows.reducible sum' is' c' c_is' z' first' told') =
      let same = same_sum sum sum' is is' in
      let curves : c ≡ c' = one_curve k sum' c c' (subst (λ s. IsCurveOf k s c) same c_is) c_is' in
      let two = c_is'.curve.at_least_two in
      let one : z ≡ z' = one_first k c'.fin (omega (arith, two)) z z'
      (subst (λ (d : CurveValue). IsFirstIdempotent k d.fin z) curves first) first' in
      told ∙ ap (λ (x : WrittenValue). Reducible x) one ∙ sym told'

-- ---- elements and polynomials

module _ (k : FieldOps) where
  pub same_element : (e : ElemText) (z w : ElemValue) → IsElementOf k e z → IsElementOf k e w → z ≡ w
  same_element e z w h g =
      let nums = same_polys k e.entries z.num w.num h.numerators g.numerators in
      let dens = same_den k e.den z.den w.den h.denominator g.denominator in
      λ i. record { num = nums i; den = dens i }

  polys_written : (es : List (List Term)) (ps : List (List ℕ)) → ArePolysOf k es ps
      → AreCodesBelow k.size (flat_map written_codes es)
  polys_written [] ps h = All-nil (λ c. c < k.size)
  polys_written (e ∷ es) [] h = absurd h
  polys_written (e ∷ es) (p ∷ ps) h = All-append (λ c. c < k.size) (written_codes e) (flat_map written_codes es)
      h.0.written (polys_written es ps h.1)

  den_written : (o : Option (List Term)) (d : List ℕ) → IsDenOf k o d → AreCodesBelow k.size (codes_of_den o)
  den_written None d h = All-nil (λ c. c < k.size)
  den_written (Some ts) d h = h.written

  element_written : (e : ElemText) (z : ElemValue) → IsElementOf k e z → AreCodesBelow k.size (codes_of_element e)
  element_written e z h =
      All-append (λ c. c < k.size) (flat_map written_codes e.entries) (codes_of_den e.den)
      (polys_written e.entries z.num h.numerators) (den_written e.den z.den h.denominator)

  module _ (n bound : ℕ) where
    same_size : (e : ElemText) (z w : ElemValue) → IsElementOf k e z → IsElementOf k e w
        → degree_of_element z ≡ degree_of_element w
    same_size e z w h g = ap degree_of_element (same_element e z w h g)

    one_element_row : (e : ElemText) (r t : Refusal) → IsElementRow k n bound e r → IsElementRow k n bound e t → r ≡ t
    one_element_row e r t (rows.range h) (rows.range g) = same_code k.size (codes_of_element e) r t h g
    one_element_row e r t (rows.range h) (rows.size below other is) = absurd (no_code k (codes_of_element e) r below h)
    one_element_row e r t (rows.range h) (rows.degree long z z_is great is) = absurd
        (no_code k (codes_of_element e) r (element_written e z z_is) h)
    one_element_row e r t (rows.range h) (rows.zero_den long z z_is small none is) = absurd
        (no_code k (codes_of_element e) r (element_written e z z_is) h)
    one_element_row e r t (rows.size below other is) (rows.range g) = absurd (no_code k (codes_of_element e) t below g)
    one_element_row e r t (rows.size below other is) (rows.size below' other' is') = is ∙ sym is'
    one_element_row e r t (rows.size below other is) (rows.degree long z z_is great is') = absurd (other long)
    one_element_row e r t (rows.size below other is) (rows.zero_den long z z_is small none is') = absurd (other long)
    one_element_row e r t (rows.degree long z z_is great is) (rows.range g) = absurd
        (no_code k (codes_of_element e) t (element_written e z z_is) g)
    one_element_row e r t (rows.degree long z z_is great is) (rows.size below other is') = absurd (other long)
    one_element_row e r t (rows.degree long z z_is great is) (rows.degree long' w w_is great' is') =
        is ∙ ap (λ x. LimitX (degree_of_element x)) (same_element e z w z_is w_is) ∙ sym is'
    one_element_row e r t (rows.degree long z z_is great is) (rows.zero_den long' w w_is small none is') =
        absurd (let same = same_size e z w z_is w_is in omega (arith, same, great, small))
    one_element_row e r t (rows.zero_den long z z_is small none is) (rows.range g) = absurd
        (no_code k (codes_of_element e) t (element_written e z z_is) g)
    one_element_row e r t (rows.zero_den long z z_is small none is) (rows.size below other is') = absurd (other long)
    one_element_row e r t (rows.zero_den long z z_is small none is) (rows.degree long' w w_is great is') =
        absurd (let same = same_size e z w z_is w_is in omega (arith, same, great, small))
    one_element_row e r t (rows.zero_den long z z_is small none is) (rows.zero_den long' w w_is small' none' is') = is
        ∙ sym is'

    one_product_row : (a b : ElemText) (r t : Refusal) → IsProductRow k n bound a b r → IsProductRow k n bound a b t
        → r ≡ t
    one_product_row a b r t (inl h) (inl g) = one_element_row a r t h g
    one_product_row a b r t (inl h) (inr g) = absurd (no_element_row k n bound a r g.0 h)
    one_product_row a b r t (inr h) (inl g) = absurd (no_element_row k n bound a t h.0 g)
    one_product_row a b r t (inr h) (inr g) = one_element_row b r t h.1 g.1

  one_factor_row : (bound : ℕ) (g : List Term) (r t : Refusal) → IsFactorRow k bound g r → IsFactorRow k bound g t
      → r ≡ t
  one_factor_row bound g r t (rows.range h) (rows.range j) = same_code k.size (written_codes g) r t h j
  one_factor_row bound g r t (rows.range h) (rows.degree p p_is great is) = absurd
      (no_code k (written_codes g) r p_is.written h)
  one_factor_row bound g r t (rows.range h) (rows.zero_sum none is) = absurd
      (no_code k (written_codes g) r none.written h)
  one_factor_row bound g r t (rows.degree p p_is great is) (rows.range j) = absurd
      (no_code k (written_codes g) t p_is.written j)
  one_factor_row bound g r t (rows.degree p p_is great is) (rows.degree q q_is great' is') =
      is ∙ ap (λ (x : List ℕ). LimitX (length x - 1)) (same_poly k g p q p_is q_is) ∙ sym is'
  one_factor_row bound g r t (rows.degree p p_is great is) (rows.zero_sum none is') =
      absurd (let same = ap length (same_poly k g p [] p_is none) in omega (arith, same, great))
  one_factor_row bound g r t (rows.zero_sum none is) (rows.range j) = absurd
      (no_code k (written_codes g) t none.written j)
  one_factor_row bound g r t (rows.zero_sum none is) (rows.degree q q_is great is') =
      absurd (let same = ap length (same_poly k g q [] q_is none) in omega (arith, same, great))
  one_factor_row bound g r t (rows.zero_sum none is) (rows.zero_sum none' is') = is ∙ sym is'

-- ---- all rows

for_field : (P Q : FieldData → Type 0) (A : Type 0) → ((d : FieldData) → P d → Q d → A) → (o : Option FieldData)
    → IsSomeWith o P → IsSomeWith o Q → A
for_field P Q A f None h g = absurd h
for_field P Q A f (Some d) h g = f d h g

for_curve : (P Q : FieldData → CurveValue → Type 0) (A : Type 0)
    → ((d : FieldData) (c : CurveValue) → P d c → Q d c → A) → (o : Option FieldData) (b : Option Bound)
    → IsSomeWith o (λ d. IsSomeWith b (λ x. P d x.curve)) → IsSomeWith o (λ d. IsSomeWith b (λ x. Q d x.curve)) → A
for_curve P Q A f None b h g = absurd h
for_curve P Q A f (Some d) None h g = absurd h
for_curve P Q A f (Some d) (Some b) h g = f d b.curve h g

for_bound : (P Q : FieldData → Bound → Type 0) (A : Type 0)
    → ((d : FieldData) (b : Bound) → P d b → Q d b → A) → (o : Option FieldData) (b : Option Bound)
    → IsSomeWith o (λ d. IsSomeWith b (P d)) → IsSomeWith o (λ d. IsSomeWith b (Q d)) → A
for_bound P Q A f None b h g = absurd h
for_bound P Q A f (Some d) None h g = absurd h
for_bound P Q A f (Some d) (Some b) h g = f d b h g

abbrev BaseRow : Over → Refusal → FieldData → CurveValue → Type 0
BaseRow over r d c = IsFieldData d × IsBaseRow (ops_of d) c.fin.n max_degree_of_places over r

abbrev PlaceRow : List ℕ → Over → ℕ → Refusal → FieldData → Bound → Type 0
PlaceRow name over index r d b = (is : IsFieldData d) × IsPlaceRow (with_laws d is) b name over index r

-- the row over the operations with their laws
with_ops : (d : FieldData) (c : CurveValue) (over : Over) (r : Refusal) (is : IsFieldData d) → BaseRow over r d c
    → IsBaseRow (with_laws d is).ops c.fin.n max_degree_of_places over r
with_ops d c over r is h =
    subst (λ o. IsBaseRow o c.fin.n max_degree_of_places over r) (ops_with_laws d is) h.1

pub one_row : (old : Bindings) (s : Statement) (r t : Refusal) → IsRefusalRow old s r → IsRefusalRow old s t → r ≡ t
one_row old (FieldOf p tail) r t h g = one_field_row p tail r t h.1 g.1
one_row old (CurveOf f) r t h g =
    for_field (λ d. rows.IsCurveRow d f r) (λ d. rows.IsCurveRow d f t) (r ≡ t)
    (λ d a b. one_curve_row (with_laws d b.0) f r t (subst (λ k. IsNoCurve k f r) (same_field d d a.0 b.0 refl) a.1)
    b.1) old.field h g
one_row old (Mul a b) r t h g =
    for_curve (λ d c. IsProductRow (ops_of d) c.fin.n max_degree a b r)
    (λ d c. IsProductRow (ops_of d) c.fin.n max_degree a b t) (r ≡ t)
    (λ d c x y. one_product_row (ops_of d) c.fin.n max_degree a b r t x y) old.field old.bound h g
one_row old (Factor p) r t h g =
    for_curve (λ d c. IsFactorRow (ops_of d) max_degree p r) (λ d c. IsFactorRow (ops_of d) max_degree p t) (r ≡ t)
    (λ d c x y. one_factor_row (ops_of d) max_degree p r t x y) old.field old.bound h g
one_row old (OrderOf side) r t h g = absurd h
one_row old Constants r t h g = absurd h
one_row old Genus r t h g = absurd h
one_row old (Places over) r t h g =
    for_curve (BaseRow over r) (BaseRow over t) (r ≡ t)
    (λ d c x y. one_base_row (with_laws d y.0) c.fin.n max_degree_of_places over r t (with_ops d c over r y.0 x)
    (with_ops d c over t y.0 y)) old.field old.bound h g
one_row old (Place name over index) r t h g =
    for_bound (PlaceRow name over index r) (PlaceRow name over index t) (r ≡ t)
    (λ d b x y. one_place_row (with_laws d y.0) b name over index r t
    (subst (λ k. IsPlaceRow k b name over index r) (same_field d d x.0 y.0 refl) x.1) y.1) old.field old.bound h g

-- ---- want of memory is no row

field_some : (e : FieldFault) → refusal_of_field e ≢ Memory
field_some (fields.FieldSize p m) is = absurd cc
field_some (fields.CodeRange c) is = absurd cc
field_some (fields.NotMonic c) is = absurd cc
field_some (fields.NotField a b) is = absurd cc

curve_some : (e : CurveFault) → e ≢ curves.Memory → refusal_of_curve e ≢ Memory
curve_some (curves.LimitY n) some is = absurd cc
curve_some (curves.LimitX d) some is = absurd cc
curve_some (curves.NotMonic p) some is = absurd cc
curve_some curves.NotSeparable some is = absurd cc
curve_some (curves.LimitDisc d) some is = absurd cc
curve_some (curves.LimitInf d) some is = absurd cc
curve_some curves.Memory some is = some refl

no_curve_some : (k : CodeField) (f : List Term) (r : Refusal) → IsNoCurve k f r → r ≢ Memory
no_curve_some k f r (rows.range h) = code_some k.size (written_codes f) r h
no_curve_some k f r (rows.fault sum is e some holds told) = λ m. curve_some e some (sym told ∙ m)
no_curve_some k f r (rows.reducible sum is c c_is z first told) = λ m. absurd cc

element_some : (k : FieldOps) (n bound : ℕ) (e : ElemText) (r : Refusal) → IsElementRow k n bound e r → r ≢ Memory
element_some k n bound e r (rows.range h) m = code_some k.size (codes_of_element e) r h m
element_some k n bound e r (rows.size below other is) m = absurd cc
element_some k n bound e r (rows.degree long z z_is great is) m = absurd cc
element_some k n bound e r (rows.zero_den long z z_is small none is) m = absurd cc

product_some : (k : FieldOps) (n bound : ℕ) (a b : ElemText) (r : Refusal) → IsProductRow k n bound a b r → r ≢ Memory
product_some k n bound a b r (inl h) = element_some k n bound a r h
product_some k n bound a b r (inr h) = element_some k n bound b r h.1

factor_some : (k : FieldOps) (bound : ℕ) (g : List Term) (r : Refusal) → IsFactorRow k bound g r → r ≢ Memory
factor_some k bound g r (rows.range h) m = code_some k.size (written_codes g) r h m
factor_some k bound g r (rows.degree p p_is great is) m = absurd cc
factor_some k bound g r (rows.zero_sum none is) m = absurd cc

pub row_some : (old : Bindings) (s : Statement) (r : Refusal) → IsRefusalRow old s r → r ≢ Memory
row_some old (FieldOf p tail) r h m = field_some h.1.fault (sym h.1.is ∙ m)
row_some old (CurveOf f) r h m =
    for_field (λ d. rows.IsCurveRow d f r) (λ d. rows.IsCurveRow d f r) ⊥
    (λ d a b. no_curve_some (with_laws d a.0) f r a.1 m) old.field h h
row_some old (Mul a b) r h m =
    for_curve (λ d c. IsProductRow (ops_of d) c.fin.n max_degree a b r)
    (λ d c. IsProductRow (ops_of d) c.fin.n max_degree a b r) ⊥
    (λ d c x y. product_some (ops_of d) c.fin.n max_degree a b r x m) old.field old.bound h h
row_some old (Factor p) r h m =
    for_curve (λ d c. IsFactorRow (ops_of d) max_degree p r) (λ d c. IsFactorRow (ops_of d) max_degree p r) ⊥
    (λ d c x y. factor_some (ops_of d) max_degree p r x m) old.field old.bound h h
row_some old (OrderOf side) r h m = absurd h
row_some old Constants r h m = absurd h
row_some old Genus r h m = absurd h
row_some old (Places over) r h m =
    for_curve (BaseRow over r) (BaseRow over r) ⊥
    (λ d c x y. base_some (ops_of d) c.fin.n max_degree_of_places over r x.1 m) old.field old.bound h h
row_some old (Place name over index) r h m =
    for_bound (PlaceRow name over index r) (PlaceRow name over index r) ⊥
    (λ d b x y. place_some (with_laws d x.0) b name over index r x.1 m) old.field old.bound h h

-- ---- the same bindings have the same rows

field_moves : (d e : FieldData) (s : Statement) (r : Refusal) → AreSameFields d e → IsRefusalRow (with_field d) s r
    → IsRefusalRow (with_field e) s r
field_moves d e (FieldOf p tail) r same h = absurd (let none = h.0 in cc)
field_moves d e (CurveOf f) r same h = (
  same.right,
  subst (λ k. IsNoCurve k f r) (fields_same d e same h.0 same.right)
      h.1,
)
field_moves d e (Mul a b) r same h = absurd h
field_moves d e (Factor g) r same h = absurd h
field_moves d e (OrderOf side) r same h = absurd h
field_moves d e Constants r same h = absurd h
field_moves d e Genus r same h = absurd h
field_moves d e (Places over) r same h = absurd h
field_moves d e (Place name over index) r same h = absurd h

curve_moves : (d e : FieldData) (c : CurveValue) (Ps : List NamedPlace) (s : Statement) (r : Refusal)
    → AreSameFields d e
    → IsRefusalRow (with_places d c Ps) s r → IsRefusalRow (with_places e c Ps) s r
curve_moves d e c Ps (FieldOf p tail) r same h = absurd (let none = h.0 in cc)
curve_moves d e c Ps (CurveOf f) r same h =
    (same.right, subst (λ k. IsNoCurve k f r) (fields_same d e same h.0 same.right) h.1)
curve_moves d e c Ps (Mul a b) r same h = subst (λ o. IsProductRow o c.fin.n max_degree a b r) same.ops h
curve_moves d e c Ps (Factor g) r same h = subst (λ o. IsFactorRow o max_degree g r) same.ops h
curve_moves d e c Ps (OrderOf side) r same h = absurd h
curve_moves d e c Ps Constants r same h = absurd h
curve_moves d e c Ps Genus r same h = absurd h
curve_moves d e c Ps (Places over) r same h =
    (same.right, subst (λ o. IsBaseRow o c.fin.n max_degree_of_places over r) same.ops h.1)
curve_moves d e c Ps (Place name over index) r same h = (
  same.right,
  subst (λ k. IsPlaceRow k (record { curve = c; places = Ps }) name over index r)
      (fields_same d e same h.0 same.right) h.1,
)

pub row_moves : (a b : Bindings) (s : Statement) (r : Refusal) → AreSameBindings a b → IsRefusalRow a s r
    → IsRefusalRow b s r
row_moves a b s r (NothingBound a_is b_is) h = subst (λ x. IsRefusalRow x s r) (a_is ∙ sym b_is) h
row_moves a b s r (OneField d e same a_is b_is) h =
    subst (λ x. IsRefusalRow x s r) (sym b_is) (field_moves d e s r same (subst (λ x. IsRefusalRow x s r) a_is h))
row_moves a b s r (OneCurve d e c Ps same a_is b_is) h =
    subst (λ x. IsRefusalRow x s r) (sym b_is)
    (curve_moves d e c Ps s r same.fields (subst (λ x. IsRefusalRow x s r) a_is h))
