-- A session takes one block at most, or refuses the statement in one way, and not both.
use Rattle.std.proofs.Common.{◌≡◌, ℕ, ◌<◌, ◌≤◌, ◌+◌, ◌⊎◌, inl, inr, length, refl, sym, ap, ap₂, ◌∙◌, subst, arith}
use Rattle.ff_fields.specs.FieldData.{FieldData}
use Rattle.function_field.specs.Curves.{CurveValue, IsCurve}
use Rattle.ff_script.specs.declared.script.Statement.{Statement}
use Rattle.ff_meaning.specs.declared.refusal.Refusal.{Refusal}
use Rattle.ff_meaning.specs.declared.refusal.Refusal.TheVariants.{LimitDegree, LimitOutput}
use Rattle.function_field.specs.Limits.{max_answer_degree, max_output}
use Rattle.ff_meaning.specs.Bindings.{Bindings}
use Rattle.ff_meaning.specs.SameBindings.{AreSameFields, AreSameCurves, AreSameBindings, NothingBound, OneField, OneCurve}
use Rattle.ff_meaning.proofs.OneField.{fields_same}
use Rattle.ff_meaning.proofs.OneRefusal.{one_row, row_moves}
use Rattle.ff_cert.specs.declared.answer.Answer.{Answer}
use Rattle.ff_cert.specs.Answers.{Answers, degree_of_answer}
use Rattle.ff_cert.specs.Blocks.{SessionValue, output_after, block_text, IsTextRow, degree, output, Refuses, row, text, Takes}
use Rattle.ff_cert.specs.SameSessions.{AreSameSessions}
use Rattle.ff_cert.proofs.OneAnswer.{one_answer}

-- ---- the other way round

abbrev fields_turned : (d e : FieldData) → AreSameFields d e → AreSameFields e d
fields_turned d e h = record { left = h.right; right = h.left; ops = sym h.ops }

curves_turned : (d e : FieldData) (c : CurveValue) → AreSameCurves d e c → AreSameCurves e d c
curves_turned d e c h = record {
  fields = fields_turned d e h.fields;
  curve = subst (λ k. IsCurve k c) (fields_same d e h.fields h.fields.left h.fields.right) h.curve;
}

bindings_turned : (a b : Bindings) → AreSameBindings a b → AreSameBindings b a
bindings_turned a b (NothingBound a_is b_is) = NothingBound b_is a_is
bindings_turned a b (OneField d e same a_is b_is) = OneField e d (fields_turned d e same) b_is a_is
bindings_turned a b (OneCurve d e c Ps same a_is b_is) = OneCurve e d c Ps (curves_turned d e c same) b_is a_is

pub sessions_turned : (a b : SessionValue) → AreSameSessions a b → AreSameSessions b a
sessions_turned a b h = record { bindings = bindings_turned a.bindings b.bindings h.bindings; printed = sym h.printed }

-- ---- texts that may not be printed

below : (m n : ℕ) → m < n → n ≤ m → ⊥
below m n less le = omega arith

-- which of both rows holds, with what it tells
abbrev ByDegree : Answer → Refusal → Type 0
ByDegree a r = (max_answer_degree < degree_of_answer a) × (r ≡ LimitDegree (degree_of_answer a))

abbrev ByOutput : SessionValue → Statement → Answer → Refusal → Type 0
ByOutput s t a r =
    (degree_of_answer a ≤ max_answer_degree) × (max_output < output_after s.printed (block_text t a))
    × (r ≡ LimitOutput (output_after s.printed (block_text t a)))

which : (s : SessionValue) (t : Statement) (a : Answer) (r : Refusal) → IsTextRow s t a r
    → ByDegree a r ⊎ ByOutput s t a r
which s t a r (degree great) = inl (great, refl)
which s t a r (output small long) = inr (small, long, refl)

module _ (old other : SessionValue) (same : AreSameSessions old other) (s : Statement) where
  same_output : (a b : Answer) → a ≡ b → output_after old.printed (block_text s a)
      ≡ output_after other.printed (block_text s b)
  same_output a b e = ap₂ (λ n x. output_after n (block_text s x)) same.printed e

  -- a session takes one block
  pub one_taken : (a b : Answer) (new after : SessionValue) → Takes old s a new → Takes other s b after
      → (a ≡ b) × AreSameSessions new after
  one_taken a b new after h g =
      let one = one_answer old.bindings other.bindings new.bindings after.bindings same.bindings s a b h.is_true
      g.is_true in
      let count = ap₂ (λ n x. n + length (block_text s x)) same.printed one.answer in
      (one.answer, record { bindings = one.bindings; printed = h.count ∙ count ∙ sym g.count })

  no_text_row : (a : Answer) (new : SessionValue) (b : Answer) (next : Bindings) (r : Refusal) → Takes old s a new
      → Answers other.bindings s b next → ByDegree b r ⊎ ByOutput other s b r → ⊥
  no_text_row a new b next r h g (inl long) =
      let one = one_answer old.bindings other.bindings new.bindings next same.bindings s a b h.is_true g in
      below max_answer_degree (degree_of_answer b) long.0
      (subst (λ x. degree_of_answer x ≤ max_answer_degree) one.answer h.small)
  no_text_row a new b next r h g (inr long) =
      let one = one_answer old.bindings other.bindings new.bindings next same.bindings s a b h.is_true g in
      below max_output (output_after other.printed (block_text s b)) long.1
      (subst (λ n. n ≤ max_output) (same_output a b one.answer) h.room)

  -- a statement that is taken isn't refused
  pub not_both : (a : Answer) (new : SessionValue) (r : Refusal) → Takes old s a new → Refuses other s r → ⊥
  not_both a new r h (row g) = h.not_refused r
      (row_moves other.bindings old.bindings s r (bindings_turned old.bindings other.bindings same.bindings) g)
  not_both a new r h (text b next is none long) = no_text_row a new b next r h is (which other s b r long)

  same_text_row : (a b : Answer) (r t : Refusal) → a ≡ b → ByDegree a r ⊎ ByOutput old s a r
      → ByDegree b t ⊎ ByOutput other s b t → r ≡ t
  same_text_row a b r t e (inl h) (inl g) = h.1 ∙ ap (λ x. LimitDegree (degree_of_answer x)) e ∙ sym g.1
  same_text_row a b r t e (inl h) (inr g) = absurd
      (below max_answer_degree (degree_of_answer a) h.0
      (subst (λ x. degree_of_answer x ≤ max_answer_degree) (sym e) g.0))
  same_text_row a b r t e (inr h) (inl g) = absurd
      (below max_answer_degree (degree_of_answer a) (subst (λ x. max_answer_degree < degree_of_answer x) (sym e) g.0)
      h.0)
  same_text_row a b r t e (inr h) (inr g) = h.2 ∙ ap LimitOutput (same_output a b e) ∙ sym g.2

  -- a session refuses a statement in one way
  pub one_refused : (r t : Refusal) → Refuses old s r → Refuses other s t → r ≡ t
  one_refused r t (row h) (row g) = one_row other.bindings s r t
      (row_moves old.bindings other.bindings s r same.bindings h) g
  one_refused r t (row h) (text b next is none long) = absurd
      (none r (row_moves old.bindings other.bindings s r same.bindings h))
  one_refused r t (text a next is none long) (row g) =
      absurd (none t (row_moves other.bindings old.bindings s t
      (bindings_turned old.bindings other.bindings same.bindings) g))
  one_refused r t (text a next is none long) (text b after is' none' long') =
      let one = one_answer old.bindings other.bindings next after same.bindings s a b is is' in
      same_text_row a b r t one.answer (which old s a r long) (which other s b t long')
