-- How a run goes on by one block.
use Rattle.std.proofs.Common.{◌≡◌, ℕ, ◌+◌, ◌≤◌, List, [], ◌∷◌, ◌++◌, map, refl, sym, ap, ◌∙◌, subst, arith, append_assoc}
use Rattle.std.proofs.lemmas.Grind.{flat_map-append, common_steps}
use Rattle.std.proofs.lemmas.List.{map-append}
use Rattle.ff_script.specs.declared.script.Statement.{Statement}
use Rattle.ff_script.specs.declared.script.Statement.TheVariants.{FieldOf, CurveOf, Mul, Factor, OrderOf, Places, Place, Constants, Genus}
use Rattle.ff_script.specs.Scripts.{MayFollow}
use Rattle.ff_fields.specs.FieldData.{FieldData}
use Rattle.function_field.specs.Curves.{CurveValue}
use Rattle.ff_meaning.specs.Bindings.{Bindings, NamedPlace, nothing, with_field, with_places, IsInPlace}
use Rattle.ff_cert.specs.declared.answer.Answer.{Answer}
use Rattle.ff_cert.specs.Answers.{Answers}
use Rattle.ff_cert.specs.Blocks.{SessionValue, Takes, block_text}
use Rattle.ff_session.specs.Sessions.{IsStep}
use Rattle.ff_program.specs.Output.{Block, blocks_text, AreTrue, IsAnsweredSoFar}
use Rattle.ff_program.specs.Ready.{IsAfter, AtStart, AfterField, AfterCurve}

true_push : (s : SessionValue) (bs : List Block) (mid : SessionValue) (b : Block) (next : SessionValue)
    → AreTrue s bs mid → Takes mid b.statement b.answer next → AreTrue s (bs ++ b ∷ []) next
true_push s [] mid b next h a = (next, subst_answers h a, refl)
  where
    subst_answers : s ≡ mid → Takes mid b.statement b.answer next → Takes s b.statement b.answer next
    subst_answers e a = subst (λ v. Takes v b.statement b.answer next) (sym e) a
true_push s (d ∷ ds) mid b next h a = (h.0, h.1, true_push h.0 ds mid b next h.2 a)

-- the blocks with the next one are true, and one statement fewer is left
pub answered_more : (ss : List Statement) (blocks : List Block) (old new : SessionValue) (s : Statement)
    (rest : List Statement) (text : List ℕ)
    → IsAnsweredSoFar ss blocks old (s ∷ rest) → (b : IsStep old s text new)
    → IsAnsweredSoFar ss (blocks ++ record { statement = s; answer = b.answer } ∷ []) new rest
answered_more ss blocks old new s rest text h b = record {
  blocks_true = true_push _ blocks old (record { statement = s; answer = b.answer }) new h.blocks_true b.takes;
  statements =
      h.statements
      ∙ sym (append_assoc (map (λ d. d.statement) blocks) (s ∷ []) rest)
      ∙ ap (λ ts. ts ++ rest) (sym (map-append (λ d. d.statement) blocks
      (record { statement = s; answer = b.answer } ∷ [])));
}

pub blocks_text_more : (blocks : List Block) (b : Block)
    → blocks_text (blocks ++ b ∷ []) ≡ blocks_text blocks ++ block_text b.statement b.answer
blocks_text_more blocks b = grind (
  arith,
  common_steps,
  flat_map-append (λ b. block_text b.statement b.answer) blocks
      (b ∷ []),
)

-- a statement that may follow stands in its place
place_nothing : (k : ℕ) (s : Statement) → k ≡ 0 → MayFollow k s → IsInPlace nothing s
place_nothing k (FieldOf p tail) h m = (refl, refl)
place_nothing k (CurveOf f) h m = absurd (omega arith)
place_nothing k (Mul x y) h m = absurd (omega arith)
place_nothing k (Factor g) h m = absurd (omega arith)
place_nothing k (OrderOf side) h m = absurd (omega arith)
place_nothing k (Places over) h m = absurd (omega arith)
place_nothing k (Place name over index) h m = absurd (omega arith)
place_nothing k Constants h m = absurd (omega arith)
place_nothing k Genus h m = absurd (omega arith)

place_field : (k : ℕ) (d : FieldData) (s : Statement) → k ≡ 1 → MayFollow k s → IsInPlace (with_field d) s
place_field k d (FieldOf p tail) h m = absurd (omega arith)
place_field k d (CurveOf f) h m = refl
place_field k d (Mul x y) h m = absurd (omega arith)
place_field k d (Factor g) h m = absurd (omega arith)
place_field k d (OrderOf side) h m = absurd (omega arith)
place_field k d (Places over) h m = absurd (omega arith)
place_field k d (Place name over index) h m = absurd (omega arith)
place_field k d Constants h m = absurd (omega arith)
place_field k d Genus h m = absurd (omega arith)

place_curve : (k : ℕ) (d : FieldData) (c : CurveValue) (Ps : List NamedPlace) (s : Statement) → 2 ≤ k → MayFollow k s
    → IsInPlace (with_places d c Ps) s
place_curve k d c Ps (FieldOf p tail) h m = absurd (omega arith)
place_curve k d c Ps (CurveOf f) h m = absurd (omega arith)
place_curve k d c Ps (Mul x y) h m = tt
place_curve k d c Ps (Factor g) h m = tt
place_curve k d c Ps (OrderOf side) h m = tt
place_curve k d c Ps (Places over) h m = tt
place_curve k d c Ps (Place name over index) h m = tt
place_curve k d c Ps Constants h m = tt
place_curve k d c Ps Genus h m = tt

pub in_place : (k : ℕ) (old : Bindings) (s : Statement) → IsAfter k old → MayFollow k s → IsInPlace old s
in_place k old s (AtStart h is) m = subst (λ o. IsInPlace o s) (sym is) (place_nothing k s h m)
in_place k old s (AfterField h d is) m = subst (λ o. IsInPlace o s) (sym is) (place_field k d s h m)
in_place k old s (AfterCurve h d c Ps is) m = subst (λ o. IsInPlace o s) (sym is) (place_curve k d c Ps s h m)

-- a statement that is answered leads to the next bindings
after_nothing : (k : ℕ) (s : Statement) (a : Answer) (new : Bindings) → k ≡ 0 → Answers nothing s a new
    → IsAfter (k + 1) new
after_nothing k (FieldOf p tail) a new h t = AfterField (omega (arith, h)) t.3.field t.3.bound
after_nothing k (CurveOf f) a new h t = absurd t.3
after_nothing k (Mul x y) a new h t = absurd t.2
after_nothing k (Factor g) a new h t = absurd t.3
after_nothing k (OrderOf side) a new h t = absurd t.2
after_nothing k (Places over) a new h t = absurd t.3
after_nothing k (Place name over index) a new h t = absurd t.2
after_nothing k Constants a new h t = absurd t.3
after_nothing k Genus a new h t = absurd t.2

after_field : (k : ℕ) (d : FieldData) (s : Statement) (a : Answer) (new : Bindings) → k ≡ 1
    → Answers (with_field d) s a new → IsAfter (k + 1) new
after_field k d (FieldOf p tail) a new h t = absurd (let none = t.2 in cc)
after_field k d (CurveOf f) a new h t = AfterCurve (omega (arith, h)) d t.3.1.curve [] t.3.1.bound
after_field k d (Mul x y) a new h t = absurd t.2
after_field k d (Factor g) a new h t = absurd t.3
after_field k d (OrderOf side) a new h t = absurd t.2
after_field k d (Places over) a new h t = absurd t.3
after_field k d (Place name over index) a new h t = absurd t.2
after_field k d Constants a new h t = absurd t.3
after_field k d Genus a new h t = absurd t.2

module _ (k : ℕ) (d : FieldData) (c : CurveValue) (Ps : List NamedPlace) where
  after_curve : (s : Statement) (a : Answer) (new : Bindings) → 2 ≤ k → Answers (with_places d c Ps) s a new
      → IsAfter (k + 1) new
  after_curve (FieldOf p tail) a new h t = absurd (let none = t.2 in cc)
  after_curve (CurveOf f) a new h t = absurd (let none = t.3.0 in cc)
  after_curve (Mul x y) a new h t = AfterCurve (omega (arith, h)) d c Ps t.2.2
  after_curve (Factor g) a new h t = AfterCurve (omega (arith, h)) d c Ps t.3.1
  after_curve (OrderOf side) a new h t = AfterCurve (omega (arith, h)) d c Ps t.2.2
  after_curve (Places over) a new h t = AfterCurve (omega (arith, h)) d c Ps t.3.2
  after_curve (Place name over index) a new h t = AfterCurve (omega (arith, h)) d c
      (Ps ++ record { name = name; place = t.2.1.place } ∷ []) t.2.1.bound
  after_curve Constants a new h t = AfterCurve (omega (arith, h)) d c Ps t.3.2
  after_curve Genus a new h t = AfterCurve (omega (arith, h)) d c Ps t.2.2

pub after_answer : (k : ℕ) (old : Bindings) (s : Statement) (a : Answer) (new : Bindings) → IsAfter k old
    → Answers old s a new → IsAfter (k + 1) new
after_answer k old s a new (AtStart h is) t = after_nothing k s a new h (subst (λ o. Answers o s a new) is t)
after_answer k old s a new (AfterField h d is) t = after_field k d s a new h (subst (λ o. Answers o s a new) is t)
after_answer k old s a new (AfterCurve h d c Ps is) t = after_curve k d c Ps s a new h
    (subst (λ o. Answers o s a new) is t)
