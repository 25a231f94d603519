-- A statement has one true answer at most, and leads to one field and one curve.
use Rattle.std.proofs.Common.{◌≡◌, ℕ, ◌≤◌, List, [], ◌∷◌, ◌++◌, map, refl, sym, ap, ap₂, ◌∙◌, subst, arith, Option, Some, None}
use Rattle.ff_fields.specs.Field.{FieldOps, CodeField}
use Rattle.ff_fields.specs.FieldData.{FieldData, IsFieldData, ops_of, with_laws}
use Rattle.function_field.specs.declared.side.Side.{Side}
use Rattle.function_field.specs.Values.{ElemValue, PresValue, functions, function_of}
use Rattle.function_field.specs.Curves.{CurveValue, IsCurve}
use Rattle.ff_algebra.specs.CurveTerms.{IsCurveOf}
use Rattle.ff_algebra.proofs.OneInfinite.{one_curve}
use Rattle.ff_factor.specs.Factors.{IsFactorisation}
use Rattle.ff_factor.proofs.OneFactorisation.{one_factorisation}
use Rattle.value_theory.specs.Primes.{PrimeValue}
use Rattle.ff_text.specs.declared.terms.Term.{Term}
use Rattle.ff_text.specs.declared.terms.ElemText.{ElemText}
use Rattle.ff_text.specs.Printed.{WrittenValue}
use Rattle.ff_script.specs.declared.script.Modulus.{Modulus}
use Rattle.ff_script.specs.declared.script.Over.{Over}
use Rattle.ff_script.specs.declared.script.Statement.{Statement}
use Rattle.ff_script.specs.declared.script.Statement.TheVariants.{FieldOf, CurveOf, Mul, Factor, OrderOf, Places, Place, Constants, Genus}
use Rattle.ff_meaning.specs.FieldLines.{Names}
use Rattle.ff_meaning.specs.Bindings.{Bindings, Bound, NamedPlace, with_curve, with_places, ForField, ForCurve, ForBound}
use Rattle.ff_meaning.specs.SameBindings.{AreSameFields, AreSameCurves, AreSameBindings, NothingBound, OneField, OneCurve}
use Rattle.ff_written.specs.LowestTerms.{IsWritten}
use Rattle.ff_meaning.proofs.ElementValues.{same_poly}
use Rattle.ff_meaning.proofs.OneField.{same_field, fields_same, ops_with_laws}
use Rattle.ff_meaning.proofs.OneRefusal.{same_sum, same_element}
use Rattle.ff_written.proofs.OneWritten.{one_written}
use Rattle.ff_cert.specs.declared.answer.Answer.{Answer}
use Rattle.ff_cert.specs.declared.answer.Answer.TheVariants as answers
use Rattle.ff_cert.specs.declared.answer.PlaceLines.{PlaceLines}
use Rattle.ff_cert.specs.declared.answer.PowerLine.{PowerLine}
use Rattle.ff_cert.specs.Answers.{Answers}
use Rattle.ff_cert.specs.RowField as field_row
use Rattle.ff_cert.specs.RowCurve as curve_row
use Rattle.ff_cert.specs.RowMul as mul_row
use Rattle.ff_cert.specs.RowFactor as factor_row
use Rattle.ff_cert.specs.RowOrder as order_row
use Rattle.ff_cert.specs.RowPlaces as places_row
use Rattle.ff_cert.specs.RowNamedPlace as named_place_row
use Rattle.ff_cert.specs.RowConstants as constants_row
use Rattle.ff_cert.specs.RowGenus as genus_row
use Rattle.ff_cert.proofs.OneConstants.{one_constants, one_genus}
use Rattle.ff_cert.proofs.OneOrder.{one_order}
use Rattle.ff_cert.proofs.OnePlaces.{one_listing, one_named}

-- ---- the answers of each statement

same_named : (p : ℕ) (tail : Option Modulus) (k l : FieldOps) → Names p tail k → Names p tail l → k ≡ l
same_named p None k l h g = h.1 ∙ sym g.1
same_named p (Some tail) k l h g = h.1 ∙ sym g.1

-- one answer, and one field and curve behind it
pub record IsOne (a b : Answer) (next after : Bindings) : Type 0 where
  pub answer : a ≡ b
  pub bindings : AreSameBindings next after

one_field : (p : ℕ) (tail : Option Modulus) (q r : ℕ) (next after : Bindings) → field_row.IsTrue p tail q next
    → field_row.IsTrue p tail r after
    → IsOne (answers.FieldOf q) (answers.FieldOf r) next after
one_field p tail q r next after h g =
    let same = same_named p tail (ops_of h.field) (ops_of g.field) h.named g.named in
    record {
      answer = ap answers.FieldOf (h.size.size ∙ ap (λ (k : FieldOps). k.size) same ∙ sym g.size.size);
      bindings = OneField h.field g.field (record { left = h.is_field; right = g.is_field; ops = same }) h.bound
          g.bound;
    }

one_curve_of : (k : CodeField) (f : List Term) (c d : CurveValue) → curve_row.IsCurveOfTerms k f c
    → curve_row.IsCurveOfTerms k f d → c ≡ d
one_curve_of k f c d h g =
    one_curve k g.sum c d (subst (λ s. IsCurveOf k s c) (same_sum k f h.sum g.sum h.is_sum g.is_sum) h.is_curve)
    g.is_curve

one_curve_answer : (d e : FieldData) (f : List Term) (m n b c : ℕ) (next after : Bindings) → AreSameFields d e
    → curve_row.IsTrue d f m b next → curve_row.IsTrue e f n c after
    → IsOne (answers.CurveOf m b) (answers.CurveOf n c) next after
one_curve_answer d e f m n b c next after same h g =
    let curves : h.curve ≡ g.curve
    = one_curve_of (with_laws e g.is_field) f h.curve g.curve
    (subst (λ k. curve_row.IsCurveOfTerms k f h.curve) (fields_same d e same h.is_field g.is_field) h.is_curve)
    g.is_curve in
    let curve = subst (λ k. IsCurve k h.curve) (same_field d d h.is_field same.left refl) h.is_curve.is_curve.curve in
    record {
      answer =
          ap₂ answers.CurveOf (h.degree ∙ ap (λ (x : CurveValue). x.fin.n) curves ∙ sym g.degree)
          (h.number ∙ ap (λ (x : CurveValue). x.c) curves ∙ sym g.number);
      bindings = OneCurve d e h.curve [] (record { fields = same; curve = curve }) h.bound
          (g.bound ∙ ap (with_curve e) (sym curves));
    }

one_product : (k : CodeField) (p : PresValue) → 1 ≤ p.n → (a b : ElemText) (z w : WrittenValue)
    → mul_row.IsTrue k p a b z → mul_row.IsTrue k p a b w → z ≡ w
one_product k p some a b z w h g =
    let product = λ (x y : ElemValue). (functions k p).◌⊗◌ (function_of k p x) (function_of k p y) in
    let left = same_element k.ops a h.left g.left h.is_left g.is_left in
    let right = same_element k.ops b h.right g.right h.is_right g.is_right in
    one_written k p some (product g.left g.right) z w
    (subst (λ f. IsWritten k p f z) (ap₂ product left right) h.product) g.product

-- the powers as a factorisation has them
abbrev pair : PowerLine → List ℕ × ℕ
pair l = (l.poly, l.exponent)

abbrev pairs : List PowerLine → List (List ℕ × ℕ)
pairs ls = map pair ls

same_powers : (ls ms : List PowerLine) → pairs ls ≡ pairs ms → ls ≡ ms
same_powers [] [] e = refl
same_powers [] (m ∷ ms) e = absurd cc
same_powers (l ∷ ls) [] e = absurd cc
same_powers (l ∷ ls) (m ∷ ms) e =
    let first : pair l ≡ pair m = cc in
    let others : pairs ls ≡ pairs ms = cc in
    ap₂ (λ x xs. x ∷ xs) (λ i. record { exponent = (first i).1; poly = (first i).0 }) (same_powers ls ms others)

one_factors : (k : CodeField) (g : List Term) (u v : ℕ) (ls ms : List PowerLine) → factor_row.IsTrue k.ops g u ls
    → factor_row.IsTrue k.ops g v ms → (u ≡ v) × (ls ≡ ms)
one_factors k g u v ls ms h j =
    let same = same_poly k.ops g h.sum j.sum h.is_sum j.is_sum in
    let one =
    one_factorisation k j.sum (record { unit = u; parts = pairs ls })
    (record { unit = v; parts = pairs ms })
    (subst (λ s. IsFactorisation k.ops s (record { unit = u; parts = pairs ls })) same h.factors) j.factors in
    (ap (λ f. f.unit) one, same_powers ls ms (ap (λ f. f.parts) one))

-- ---- what is said of a true answer

module _ (old next : Bindings) where
  abbrev Curve : List Term → ℕ → ℕ → FieldData → Type 0
  Curve f n c d = (old.bound ≡ None) × curve_row.IsTrue d f n c next

  abbrev Product : ElemText → ElemText → WrittenValue → FieldData → CurveValue → Type 0
  Product x y z d c = (is : IsFieldData d) × mul_row.IsTrue (with_laws d is) c.fin x y z × (next ≡ old)

  abbrev Factors : List Term → ℕ → List PowerLine → FieldData → CurveValue → Type 0
  Factors g u ls d c = factor_row.IsTrue (ops_of d) g u ls × (next ≡ old)

  abbrev Order : Side → List WrittenValue → FieldData → CurveValue → Type 0
  Order s zs d c = (is : IsFieldData d) × order_row.IsTrue (with_laws d is) c s zs × (next ≡ old)

  abbrev AllPlaces : Over → ℕ → List PlaceLines → FieldData → CurveValue → Type 0
  AllPlaces over n Ps d c = (is : IsFieldData d) × places_row.IsTrue (with_laws d is) c over n Ps × (next ≡ old)

  abbrev Named : List ℕ → Over → ℕ → PlaceLines → FieldData → Bound → Type 0
  Named name over index P d b =
      (is : IsFieldData d) × named_place_row.IsTrue (with_laws d is) d b name over index P next

  abbrev AllConstants : ℕ → List WrittenValue → FieldData → CurveValue → Type 0
  AllConstants n zs d c =
      (is : IsFieldData d) × constants_row.IsTrue (with_laws d is) c.fin n zs × (next ≡ old)

  abbrev GenusOf : ℕ → FieldData → CurveValue → Type 0
  GenusOf g d c = (is : IsFieldData d) × genus_row.IsTrue (with_laws d is) c.fin g × (next ≡ old)

-- ---- over the same bindings

for_field : (a b : Bindings) (P Q : FieldData → Type 0) (R : Type 0)
    → ((d e : FieldData) → AreSameFields d e → P d → Q e → R) → AreSameBindings a b → ForField a P → ForField b Q → R
for_field a b P Q R f (NothingBound a_is b_is) h g = absurd (subst (λ o. ForField o P) a_is h)
for_field a b P Q R f (OneField d e same a_is b_is) h g = f d e same (subst (λ o. ForField o P) a_is h)
    (subst (λ o. ForField o Q) b_is g)
for_field a b P Q R f (OneCurve d e c Ps same a_is b_is) h g = f d e same.fields (subst (λ o. ForField o P) a_is h)
    (subst (λ o. ForField o Q) b_is g)

for_curve : (a b : Bindings) (P Q : FieldData → CurveValue → Type 0) (R : Type 0)
    → ((d e : FieldData) (c : CurveValue) → AreSameCurves d e c → P d c → Q e c → R) → AreSameBindings a b
    → ForCurve a P → ForCurve b Q → R
for_curve a b P Q R f (NothingBound a_is b_is) h g = absurd (subst (λ o. ForCurve o P) a_is h)
for_curve a b P Q R f (OneField d e same a_is b_is) h g = absurd (subst (λ o. ForCurve o P) a_is h)
for_curve a b P Q R f (OneCurve d e c Ps same a_is b_is) h g = f d e c same (subst (λ o. ForCurve o P) a_is h)
    (subst (λ o. ForCurve o Q) b_is g)

for_bound : (a b : Bindings) (P Q : FieldData → Bound → Type 0) (R : Type 0)
    → ((d e : FieldData) (c : CurveValue) (Ps : List NamedPlace) → AreSameCurves d e c
    → P d (record { curve = c; places = Ps }) → Q e (record { curve = c; places = Ps }) → R)
    → AreSameBindings a b → ForBound a P → ForBound b Q → R
for_bound a b P Q R f (NothingBound a_is b_is) h g = absurd (subst (λ o. ForBound o P) a_is h)
for_bound a b P Q R f (OneField d e same a_is b_is) h g = absurd (subst (λ o. ForBound o P) a_is h)
for_bound a b P Q R f (OneCurve d e c Ps same a_is b_is) h g = f d e c Ps same (subst (λ o. ForBound o P) a_is h)
    (subst (λ o. ForBound o Q) b_is g)

same_next : (old other next after : Bindings) → AreSameBindings old other → next ≡ old → after ≡ other
    → AreSameBindings next after
same_next old other next after same h g = rw (h, g) same

module _ (d e : FieldData) (c : CurveValue) (same : AreSameCurves d e c) where
  -- the curve is one over either field
  curve_over : (is : IsFieldData e) → IsCurve (with_laws e is) c
  curve_over is = subst (λ k. IsCurve k c) (fields_same d e same.fields same.fields.left is) same.curve

  products_same : (x y : ElemText) (z w : WrittenValue) (is : IsFieldData d) (is' : IsFieldData e)
      → mul_row.IsTrue (with_laws d is) c.fin x y z → mul_row.IsTrue (with_laws e is') c.fin x y w → z ≡ w
  products_same x y z w is is' h g =
      let two = (curve_over is').at_least_two in
      let some : 1 ≤ c.fin.n = omega (arith, two) in
      one_product (with_laws e is') c.fin some x y z w
      (subst (λ k. mul_row.IsTrue k c.fin x y z) (fields_same d e same.fields is is') h) g

  factors_same : (g : List Term) (u v : ℕ) (ls ms : List PowerLine) → factor_row.IsTrue (ops_of d) g u ls
      → factor_row.IsTrue (ops_of e) g v ms → (u ≡ v) × (ls ≡ ms)
  factors_same g u v ls ms h j =
      let here = ops_with_laws e same.fields.right in
      one_factors (with_laws e same.fields.right) g u v ls ms
      (subst (λ o. factor_row.IsTrue o g u ls) (same.fields.ops ∙ here) h)
      (subst (λ o. factor_row.IsTrue o g v ms) here j)

  orders_same : (s : Side) (zs ws : List WrittenValue) (is : IsFieldData d) (is' : IsFieldData e)
      → order_row.IsTrue (with_laws d is) c s zs → order_row.IsTrue (with_laws e is') c s ws → zs ≡ ws
  orders_same s zs ws is is' h g =
      one_order (with_laws e is') c (curve_over is') s zs ws
      (subst (λ k. order_row.IsTrue k c s zs) (fields_same d e same.fields is is') h) g

  listings_same : (over : Over) (m n : ℕ) (Ps Qs : List PlaceLines) (is : IsFieldData d) (is' : IsFieldData e)
      → places_row.IsTrue (with_laws d is) c over m Ps → places_row.IsTrue (with_laws e is') c over n Qs
      → (m ≡ n) × (Ps ≡ Qs)
  listings_same over m n Ps Qs is is' h g =
      one_listing (with_laws e is') c over m n Ps Qs
      (subst (λ k. places_row.IsTrue k c over m Ps) (fields_same d e same.fields is is') h) g

  constants_same : (m n : ℕ) (zs ws : List WrittenValue) (is : IsFieldData d) (is' : IsFieldData e)
      → constants_row.IsTrue (with_laws d is) c.fin m zs → constants_row.IsTrue (with_laws e is') c.fin n ws
      → (m ≡ n) × (zs ≡ ws)
  constants_same m n zs ws is is' h g =
      one_constants (with_laws e is') c (curve_over is') m n zs ws
      (subst (λ k. constants_row.IsTrue k c.fin m zs) (fields_same d e same.fields is is') h) g

  genus_same : (g h : ℕ) (is : IsFieldData d) (is' : IsFieldData e)
      → genus_row.IsTrue (with_laws d is) c.fin g → genus_row.IsTrue (with_laws e is') c.fin h → g ≡ h
  genus_same g h is is' i j =
      one_genus (with_laws e is') c (curve_over is') g h
      (subst (λ k. genus_row.IsTrue k c.fin g) (fields_same d e same.fields is is') i) j

  -- the same place is bound to the name
  named_same : (names : List NamedPlace) (name : List ℕ) (over : Over) (index : ℕ) (P Q : PlaceLines)
      (next after : Bindings) (is : IsFieldData d) (is' : IsFieldData e)
      → named_place_row.IsTrue (with_laws d is) d (record { curve = c; places = names }) name over index P next
      → named_place_row.IsTrue (with_laws e is') e (record { curve = c; places = names }) name over index Q after
      → IsOne (answers.Place P) (answers.Place Q) next after
  named_same names name over index P Q next after is is' h g =
      let b : Bound = record { curve = c; places = names } in
      let left : named_place_row.IsTrue (with_laws e is') d b name over index P next
      = subst (λ k. named_place_row.IsTrue k d b name over index P next) (fields_same d e same.fields is is') h in
      let one = one_named (with_laws e is') d e b name over index P Q next after left g in
      record {
        answer = ap answers.Place one.0;
        bindings =
            OneCurve d e c (names ++ record { name = name; place = left.place } ∷ []) same left.bound
            (g.bound
            ∙ ap (λ (R : PrimeValue). with_places e c (names ++ record { name = name; place = R } ∷ [])) (sym one.1));
      }

module _ (old other next after : Bindings) (same : AreSameBindings old other) where
  -- answers that the same bindings stay behind
  stays : (a b x y : Answer) → a ≡ x → b ≡ y → x ≡ y → next ≡ old → after ≡ other → IsOne a b next after
  stays a b x y a_is b_is e h g = record
      { answer = a_is ∙ e ∙ sym b_is; bindings = same_next old other next after same h g }

  pub one_answer : (s : Statement) (a b : Answer) → Answers old s a next → Answers other s b after
      → IsOne a b next after
  one_answer (FieldOf p tail) a b h g =
      let l = h in
      let r = g in
      let one = one_field p tail l.0 r.0 next after l.3 r.3 in
      record { answer = l.1 ∙ one.answer ∙ sym r.1; bindings = one.bindings }
  one_answer (CurveOf f) a b h g =
      let l = h in
      let r = g in
      for_field old other (Curve old next f l.0 l.1) (Curve other after f r.0 r.1) (IsOne a b next after)
      (λ d e fields x y.
      let one = one_curve_answer d e f l.0 r.0 l.1 r.1 next after fields x.1 y.1 in
      record { answer = l.2 ∙ one.answer ∙ sym r.2; bindings = one.bindings })
      same l.3 r.3
  one_answer (Mul x y) a b h g =
      let l = h in
      let r = g in
      for_curve old other (Product old next x y l.0) (Product other after x y r.0) (IsOne a b next after)
      (λ d e c curves u v. stays a b (answers.Mul l.0) (answers.Mul r.0) l.1 r.1
      (ap answers.Mul (products_same d e c curves x y l.0 r.0 u.0 v.0 u.1 v.1)) u.2 v.2) same l.2 r.2
  one_answer (Factor p) a b h g =
      let l = h in
      let r = g in
      for_curve old other (Factors old next p l.0 l.1) (Factors other after p r.0 r.1) (IsOne a b next after)
      (λ d e c curves u v.
      let both = factors_same d e c curves p l.0 r.0 l.1 r.1 u.0 v.0 in
      stays a b (answers.Factor l.0 l.1) (answers.Factor r.0 r.1) l.2 r.2 (ap₂ answers.Factor both.0 both.1) u.1 v.1)
      same l.3 r.3
  one_answer (OrderOf s) a b h g =
      let l = h in
      let r = g in
      for_curve old other (Order old next s l.0) (Order other after s r.0) (IsOne a b next after)
      (λ d e c curves u v. stays a b (answers.OrderOf l.0) (answers.OrderOf r.0) l.1 r.1
      (ap answers.OrderOf (orders_same d e c curves s l.0 r.0 u.0 v.0 u.1 v.1)) u.2 v.2) same l.2 r.2
  one_answer (Places over) a b h g =
      let l = h in
      let r = g in
      for_curve old other (AllPlaces old next over l.0 l.1) (AllPlaces other after over r.0 r.1) (IsOne a b next after)
      (λ d e c curves u v.
      let both = listings_same d e c curves over l.0 r.0 l.1 r.1 u.0 v.0 u.1 v.1 in
      stays a b (answers.Places l.0 l.1) (answers.Places r.0 r.1) l.2 r.2 (ap₂ answers.Places both.0 both.1) u.2 v.2)
      same l.3 r.3
  one_answer (Place name over index) a b h g =
      let l = h in
      let r = g in
      for_bound old other (Named old next name over index l.0) (Named other after name over index r.0)
      (IsOne a b next after)
      (λ d e c names curves u v.
      let one = named_same d e c curves names name over index l.0 r.0 next after u.0 v.0 u.1 v.1 in
      record { answer = l.1 ∙ one.answer ∙ sym r.1; bindings = one.bindings })
      same l.2 r.2
  one_answer Constants a b h g =
      let l = h in
      let r = g in
      for_curve old other (AllConstants old next l.0 l.1) (AllConstants other after r.0 r.1) (IsOne a b next after)
      (λ d e c curves u v.
      let both = constants_same d e c curves l.0 r.0 l.1 r.1 u.0 v.0 u.1 v.1 in
      stays a b (answers.Constants l.0 l.1) (answers.Constants r.0 r.1) l.2 r.2 (ap₂ answers.Constants both.0 both.1)
      u.2 v.2)
      same l.3 r.3
  one_answer Genus a b h g =
      let l = h in
      let r = g in
      for_curve old other (GenusOf old next l.0) (GenusOf other after r.0) (IsOne a b next after)
      (λ d e c curves u v. stays a b (answers.Genus l.0) (answers.Genus r.0) l.1 r.1
      (ap answers.Genus (genus_same d e c curves l.0 r.0 u.0 v.0 u.1 v.1)) u.2 v.2) same l.2 r.2
