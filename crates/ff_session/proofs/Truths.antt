-- Answers that are true, and what is refused.
use Rattle.std.proofs.Common.{◌≡◌, ℕ, ◌+◌, ◌<◌, ◌⊎◌, inl, inr, List, length, Option, Some, None, refl, sym, ap, ◌∙◌, subst, arith, get_or}
use Rattle.std.proofs.lemmas.List.Elements.{All-get_or}
use native.Mathlib.Decide.{ℕ_discrete}
use Rattle.ff_fields.specs.declared.fields.Field.{Field as AnyField}
use Rattle.ff_fields.specs.declared.fault.FieldFault.{FieldFault}
use Rattle.ff_fields.specs.declared.fault.FieldFault.TheVariants as fields
use Rattle.ff_fields.specs.Field.{CodeField, FieldOps}
use Rattle.ff_fields.specs.Fields.{field_of}
use Rattle.ff_fields.specs.FieldData.{data_of}
use Rattle.ff_fields.proofs.FieldData.{same_ops, data_is, same_field, laws_are}
use Rattle.ff_fields.specs.Code.{Code, code_domain, same_code}
use Rattle.ff_fields.specs.Modulus.{IsFieldModulus, IsFaultOf}
use Rattle.function_field.specs.declared.side.Side.{Side}
use Rattle.function_field.specs.Curves.{CurveValue}
use Rattle.function_field.specs.Values.{Functions, functions}
use Rattle.ring_lemmas.specs.Ring.{IsField}
use Rattle.constants_theory.specs.Idempotents.{IsProperIdempotent}
use Rattle.value_theory.specs.Primes.{PrimeValue}
use Rattle.ff_algebra.specs.CurveTerms.{IsCurveOf, IsCurveFault}
use Rattle.ff_algebra.proofs.OneInfinite.{one_curve}
use Rattle.ff_algebra.proofs.CurveFaults.{no_fault}
use Rattle.ff_text.specs.Values.{written_codes}
use Rattle.ff_text.specs.Printed.{WrittenValue}
use Rattle.ff_text.specs.declared.terms.Term.{Term}
use Rattle.ff_text.specs.declared.terms.ElemText.{ElemText}
use Rattle.ff_script.specs.declared.script.Modulus.{Modulus}
use Rattle.ff_script.specs.declared.script.Over.{Over}
use Rattle.ff_script.specs.declared.script.Statement.{Statement}
use Rattle.ff_script.specs.declared.script.Statement.TheVariants.{FieldOf, CurveOf, Mul, Factor, OrderOf, Places, Place, Constants, Genus}
use Rattle.ff_meaning.specs.declared.refusal.Refusal.{Refusal}
use Rattle.ff_meaning.specs.FieldLines.{Names}
use Rattle.function_field.specs.Limits.{max_degree, max_degree_of_places}
use Rattle.ff_meaning.specs.Refusals.{UnlessMemory, IsFieldLineFault, IsFieldRow, IsNoCurve, range, fault, reducible, IsProductRow, IsFactorRow, IsBaseRow, IsPlaceRow, IsRefusalRow}
use Rattle.ff_meaning.specs.Bindings.{Bindings, Bound, NamedPlace, nothing, with_field, with_places}
use Rattle.ff_meaning.proofs.TermCodes.{same_terms}
use Rattle.ff_meaning.proofs.ElementValues.{none_found}
use Rattle.ff_cert.specs.declared.answer.Answer.{Answer}
use Rattle.ff_cert.specs.declared.answer.Answer.TheVariants as answers
use Rattle.ff_cert.specs.declared.answer.PowerLine.{PowerLine}
use Rattle.ff_cert.specs.Answers.{Answers}
use Rattle.ff_cert.specs.Blocks.{SessionValue}
use Rattle.ff_cert.specs.RowField.{IsFieldOf}
use Rattle.ff_cert.specs.RowCurve.{IsCurveOfTerms}
use Rattle.ff_cert.specs.RowMul as mul_row
use Rattle.ff_cert.specs.RowFactor as factor_row
use Rattle.ff_cert.specs.RowOrder as order_row
use Rattle.ff_cert.specs.RowPlaces as places_row
use Rattle.ff_cert.specs.RowConstants as constants_row
use Rattle.ff_cert.specs.RowGenus as genus_row
use Rattle.ff_cert.specs.RowNamedPlace as named_place_row
use Rattle.ff_cert.specs.declared.answer.PlaceLines.{PlaceLines}
use Rattle.ff_session.specs.declared.curves.FunctionField.{FunctionField}
use Rattle.ff_session.specs.declared.bindings.Change.{Change}
use Rattle.ff_session.specs.FunctionFields.{IsFunctionField}
use Rattle.ff_session.specs.declared.bindings.Change.TheVariants as changes
use Rattle.ff_session.specs.Bound.{bindings_after}
use Rattle.ff_session.proofs.ReducibleCurves.{whole}
use Rattle.ff_session.specs.Sessions.{IsStep}
use Rattle.ff_session.specs.Steps.{HasAnswer, IsAnswered, IsBlock, IsFieldAnswer, IsCurveAnswer, IsProductRead, AreFactorsRead, ArePlacesRead, IsPlaceRead}

-- a field has no zero divisors
no_divisors : (k : CodeField) (a b : ℕ) → a < k.ops.size → b < k.ops.size → k.ops.mul a b ≡ 0 → (a ≡ 0) ⊎ (b ≡ 0)
no_divisors k a b a_in b_in e = go (ℕ_discrete a 0)
  where
    go : Dec (a ≡ 0) → (a ≡ 0) ⊎ (b ≡ 0)
    go (yes z) = inl z
    go (no n) =
        let x : Code k = (a, a_in) in
        let y : Code k = (b, b_in) in
        inr (ap (λ w. w.0) ((code_domain k).cancel_zero x y (λ z. n (ap (λ w. w.0) z)) (same_code k _ _ e)))

-- ---- rows that can't hold

no_field_row : (p : ℕ) (tail : Option Modulus) (k : FieldOps) (r : Refusal) → Names p tail k → ¬ IsFieldRow p tail r
no_field_row p tail k r named h = none tail h.fault named h.holds
  where
    no_fault_of : (m : ℕ) (codes : List ℕ) (e : FieldFault) → IsFieldModulus p m codes → ¬ IsFaultOf p m codes e
    no_fault_of m codes (fields.FieldSize q n) is h = h.2 is.polynomial.size
    no_fault_of m codes (fields.CodeRange c) is h =
        let first = h.1 in
        let below : get_or codes first.position 0 < p = All-get_or (λ c. c < p) codes first.position 0 first.within
        is.polynomial.over.each in
        let e = first.is in let out = first.outside in
        omega (arith, below, e, out)
    no_fault_of m codes (fields.NotMonic c) is h = h.3 (sym h.2 ∙ is.polynomial.monic)
    no_fault_of m codes (fields.NotField a b) is h =
        let z = h.1.product in is.no_divisors a b z.a_in z.b_in z.a_some z.b_some z.null

    none : (tail : Option Modulus) (e : FieldFault) → Names p tail k → ¬ IsFieldLineFault p tail e
    none None e named h = h.0 named.0
    none (Some tail) e named h = no_fault_of tail.m tail.codes e named.0 h

no_curve_row : (k : CodeField) (f : List Term) (c : CurveValue) (r : Refusal) → IsCurveOfTerms k f c
    → IsField (functions k c.fin).ops → ¬ IsNoCurve k f r
no_curve_row k f c r h field (range found) = let none = none_found k.ops k.size
    (written_codes f) h.is_sum.written in absurd
    (let some = found.1 in cc)
no_curve_row k f c r h field (fault sum is e some holds told) =
    let same : sum ≡ h.sum = same_terms k sum h.sum is.terms h.is_sum.terms is.codes_in h.is_sum.codes_in
    (λ i j. is.codes i j ∙ sym (h.is_sum.codes i j)) in
    no_fault k h.sum e c some (subst (λ s. IsCurveFault k s e) same holds) h.is_curve
no_curve_row k f c r h field (reducible sum is d d_is z first told) =
    let same : sum ≡ h.sum = same_terms k sum h.sum is.terms h.is_sum.terms is.codes_in h.is_sum.codes_in
    (λ i j. is.codes i j ∙ sym (h.is_sum.codes i j)) in
    let curves : d ≡ c = one_curve k h.sum d c (subst (λ s. IsCurveOf k s d) same d_is) h.is_curve in
    whole k d.fin (subst (λ (x : CurveValue). IsField (functions k x.fin).ops) (sym curves) field) first.e first.proper

-- ---- fields and curves

pub field_answer : (s : Statement) (p : ℕ) (tail : Option Modulus) (a : Answer) (k : AnyField) → s ≡ FieldOf p tail
    → IsFieldAnswer p tail a k → IsAnswered nothing s a (changes.Field k)
field_answer s p tail a k s_is h =
    subst (λ t. IsAnswered nothing t a (changes.Field k)) (sym s_is)
    (subst (λ b. IsAnswered nothing (FieldOf p tail) b (changes.Field k)) (sym h.is) (record {
      answer = record {
        is_true = (
          (field_of k).ops.size,
          refl,
          refl,
          record {
            field = data_of k;
            is_field = data_is k;
            named = subst (Names p tail) (sym (same_ops k)) h.named;
            size = subst (λ (o : FieldOps). IsFieldOf o (field_of k).ops.size) (sym (same_ops k))
                (record { size = refl; no_divisors = no_divisors (field_of k) });
            bound = refl;
          },
        );
        not_refused = λ r found. no_field_row p tail (field_of k).ops r h.named found.1;
      };
      change = refl;
    }))

pub field_refused : (s : Statement) (p : ℕ) (tail : Option Modulus) (r : Refusal) → s ≡ FieldOf p tail
    → UnlessMemory (IsFieldRow p tail) r → UnlessMemory (IsRefusalRow nothing s) r
field_refused s p tail r s_is h some = subst (λ t. IsRefusalRow nothing t r) (sym s_is) (refl, h some)

pub curve_answer : (s : Statement) (f : List Term) (a : Answer) (k : AnyField) (F : FunctionField) → s ≡ CurveOf f
    → IsCurveAnswer (field_of k) f a F → IsAnswered (with_field (data_of k)) s a (changes.Curve F)
curve_answer s f a k F s_is h =
    let c = F.frame.curve in
    subst (λ t. IsAnswered (with_field (data_of k)) t a (changes.Curve F)) (sym s_is)
    (subst (λ b. IsAnswered (with_field (data_of k)) (CurveOf f) b (changes.Curve F)) (sym h.is) (record {
      answer = record {
        is_true = (
          c.fin.n,
          c.c,
          refl,
          (
            refl,
            record {
              is_field = data_is k;
              curve = c;
              is_curve = subst (λ (l : CodeField). IsCurveOfTerms l f c) (sym (same_field k)) h.curve;
              whole = subst (λ (l : CodeField). (e : Functions l c.fin) → ¬ IsProperIdempotent l c.fin e)
                  (sym (same_field k)) (whole (field_of k) c.fin h.over.field);
              degree = refl;
              number = refl;
              bound = refl;
            },
          ),
        );
        not_refused = λ r found. no_curve_row (field_of k) f c r h.curve h.over.field
            (subst (λ (l : CodeField). IsNoCurve l f r) (laws_are k found.0) found.1);
      };
      change = (refl, λ is. subst (λ (l : CodeField). IsFunctionField l F) (sym (laws_are k is)) h.over);
    }))

pub curve_refused : (s : Statement) (f : List Term) (k : AnyField) (r : Refusal) → s ≡ CurveOf f
    → UnlessMemory (IsNoCurve (field_of k) f) r → UnlessMemory (IsRefusalRow (with_field (data_of k)) s) r
curve_refused s f k r s_is h some =
    subst (λ t. IsRefusalRow (with_field (data_of k)) t r) (sym s_is)
    (data_is k, subst (λ (l : CodeField). IsNoCurve l f r) (sym (same_field k)) (h some))

-- ---- statements over a curve

module _ (k : AnyField) (c : CurveValue) (Ps : List NamedPlace) (s : Statement) where
  abbrev here : Bindings
  here = with_places (data_of k) c Ps

  -- a statement that binds nothing
  answered : (t : Statement) (a : Answer) → s ≡ t → HasAnswer here t a here → IsAnswered here s a changes.Nothing
  answered t a s_is h = subst (λ u. IsAnswered here u a changes.Nothing) (sym s_is) (record { answer = h; change = tt })

  pub mul_answer : (a b : ElemText) (z : WrittenValue) → s ≡ Mul a b → IsProductRead (field_of k) c.fin a b z
      → IsAnswered here s (answers.Mul z) changes.Nothing
  mul_answer a b z s_is h = answered (Mul a b) (answers.Mul z) s_is (record {
    is_true = (
      z,
      refl,
      (data_is k, subst (λ (l : CodeField). mul_row.IsTrue l c.fin a b z) (sym (same_field k)) h.is, refl),
    );
    not_refused = λ r found. h.no_row r
        (subst (λ (o : FieldOps). IsProductRow o c.fin.n max_degree a b r) (same_ops k) found);
  })

  pub mul_refused : (a b : ElemText) (r : Refusal) → s ≡ Mul a b
      → UnlessMemory (IsProductRow (field_of k).ops c.fin.n max_degree a b) r → UnlessMemory (IsRefusalRow here s) r
  mul_refused a b r s_is h some =
      subst (λ t. IsRefusalRow here t r) (sym s_is)
      (subst (λ (o : FieldOps). IsProductRow o c.fin.n max_degree a b r) (sym (same_ops k)) (h some))

  pub factor_answer : (g : List Term) (unit : ℕ) (parts : List PowerLine) → s ≡ Factor g
      → AreFactorsRead (field_of k).ops g unit parts → IsAnswered here s (answers.Factor unit parts) changes.Nothing
  factor_answer g unit parts s_is h = answered (Factor g) (answers.Factor unit parts) s_is (record {
    is_true = (
      unit,
      parts,
      refl,
      (subst (λ (o : FieldOps). factor_row.IsTrue o g unit parts) (sym (same_ops k)) h.is, refl),
    );
    not_refused = λ r found. h.no_row r (subst (λ (o : FieldOps). IsFactorRow o max_degree g r) (same_ops k) found);
  })

  pub factor_refused : (g : List Term) (r : Refusal) → s ≡ Factor g
      → UnlessMemory (IsFactorRow (field_of k).ops max_degree g) r → UnlessMemory (IsRefusalRow here s) r
  factor_refused g r s_is h some =
      subst (λ t. IsRefusalRow here t r) (sym s_is)
      (subst (λ (o : FieldOps). IsFactorRow o max_degree g r) (sym (same_ops k)) (h some))

  pub order_true : (side : Side) (zs : List WrittenValue) → s ≡ OrderOf side → order_row.IsTrue (field_of k) c side zs
      → IsAnswered here s (answers.OrderOf zs) changes.Nothing
  order_true side zs s_is h = answered (OrderOf side) (answers.OrderOf zs) s_is (record {
    is_true = (
      zs,
      refl,
      (data_is k, subst (λ (l : CodeField). order_row.IsTrue l c side zs) (sym (same_field k)) h, refl),
    );
    not_refused = λ r found. found;
  })

  pub constants_true : (dimension : ℕ) (zs : List WrittenValue) → s ≡ Constants
      → constants_row.IsTrue (field_of k) c.fin dimension zs
      → IsAnswered here s (answers.Constants dimension zs) changes.Nothing
  constants_true dimension zs s_is h = answered Constants (answers.Constants dimension zs) s_is (record {
    is_true = (
      dimension,
      zs,
      refl,
      (
        data_is k,
        subst (λ (l : CodeField). constants_row.IsTrue l c.fin dimension zs) (sym (same_field k)) h,
        refl,
      ),
    );
    not_refused = λ r found. found;
  })

  pub genus_true : (genus : ℕ) → s ≡ Genus → genus_row.IsTrue (field_of k) c.fin genus
      → IsAnswered here s (answers.Genus genus) changes.Nothing
  genus_true genus s_is h = answered Genus (answers.Genus genus) s_is (record {
    is_true = (
      genus,
      refl,
      (data_is k, subst (λ (l : CodeField). genus_row.IsTrue l c.fin genus) (sym (same_field k)) h, refl),
    );
    not_refused = λ r found. found;
  })

  pub places_true : (over : Over) (count : ℕ) (Ls : List PlaceLines) → s ≡ Places over
      → ArePlacesRead (field_of k) c over count Ls → IsAnswered here s (answers.Places count Ls) changes.Nothing
  places_true over count Ls s_is h = answered (Places over) (answers.Places count Ls) s_is (record {
    is_true = (
      count,
      Ls,
      refl,
      (
        data_is k,
        subst (λ (l : CodeField). places_row.IsTrue l c over count Ls) (sym (same_field k)) h.is,
        refl,
      ),
    );
    not_refused = λ r found. h.no_row r
        (subst (λ (o : FieldOps). IsBaseRow o c.fin.n max_degree_of_places over r) (same_ops k) found.1);
  })

  pub places_refused : (over : Over) (r : Refusal) → s ≡ Places over
      → UnlessMemory (IsBaseRow (field_of k).ops c.fin.n max_degree_of_places over) r
      → UnlessMemory (IsRefusalRow here s) r
  places_refused over r s_is h some =
      subst (λ t. IsRefusalRow here t r) (sym s_is) (
        data_is k,
        subst (λ (o : FieldOps). IsBaseRow o c.fin.n max_degree_of_places over r) (sym (same_ops k)) (h some),
      )

  abbrev bound : Bound
  bound = record { curve = c; places = Ps }

  pub place_true : (name : List ℕ) (over : Over) (index : ℕ) (L : PlaceLines) (Q : PrimeValue)
      → s ≡ Place name over index
      → IsPlaceRead (field_of k) c Ps name over index L Q
      → IsAnswered here s (answers.Place L) (changes.Place name Q)
  place_true name over index L Q s_is h =
      subst (λ t. IsAnswered here t (answers.Place L) (changes.Place name Q)) (sym s_is) (record {
        answer = record {
          is_true = (
            L,
            refl,
            (
              data_is k,
              subst is_true (sym (same_field k)) (record {
                count = h.count;
                places = h.places;
                all = h.all;
                among = h.among;
                number = h.number;
                place = Q;
                is_place = h.is_place;
                bound = refl;
              }),
            ),
          );
          not_refused = λ r found. h.no_row r
              (subst (λ (l : CodeField). IsPlaceRow l bound name over index r) (laws_are k found.0) found.1);
        };
        change = h.free;
      })
    where
      is_true : CodeField → Type 0
      is_true l = named_place_row.IsTrue l (data_of k) bound name over index L
          (bindings_after here (changes.Place name Q))

  pub place_refused : (name : List ℕ) (over : Over) (index : ℕ) (r : Refusal) → s ≡ Place name over index
      → UnlessMemory (IsPlaceRow (field_of k) bound name over index) r → UnlessMemory (IsRefusalRow here s) r
  place_refused name over index r s_is h some =
      subst (λ t. IsRefusalRow here t r) (sym s_is)
      (data_is k, subst (λ (l : CodeField). IsPlaceRow l bound name over index r) (sym (same_field k)) (h some))

-- ---- a step

-- the session has taken in the block of a true answer
pub stepped : (old new : SessionValue) (s : Statement) (a : Answer) (change : Change) (text : List ℕ)
    → IsAnswered old.bindings s a change → IsBlock old s a text
    → new.bindings ≡ bindings_after old.bindings change → new.printed ≡ old.printed + length text → new.bare ≡ old.bare
    → IsStep old s text new
stepped old new s a change text h b bound printed bare = record {
  answer = a;
  takes = record {
    is_true = subst (Answers old.bindings s a) (sym bound) h.answer.is_true;
    not_refused = h.answer.not_refused;
    small = b.small;
    room = b.room;
    count = printed ∙ ap (λ t. old.printed + length t) b.is;
    mode = bare;
  };
  printed = b.is;
}
