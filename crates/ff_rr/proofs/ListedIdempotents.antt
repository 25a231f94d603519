-- The idempotents of a function field as they are listed by their coordinates in a basis of the constants.
use Rattle.std.proofs.Common.{◌≡◌, ◌↔◌, ◌⊎◌, inl, inr, ℕ, List, [], ◌∷◌, length, map, refl, sym, ◌∙◌, ap, subst, arith, All}
use Rattle.std.specs.List.{Any}
use Rattle.std.proofs.lemmas.List.{length-map}
use Rattle.std.proofs.lemmas.List.Elements.{All-nil, All-cons, All-head, All-map}
use Rattle.ring_lemmas.specs.Ring.{IsField}
use Rattle.ring_lemmas.proofs.Ring.{eq_of_sub, sub_of_eq}
use Rattle.ring_theory.specs.Members.{In}
use Rattle.ff_fields.specs.Field.{CodeField}
use Rattle.function_field.specs.Curves.{CurveValue, IsCurve}
use Rattle.function_field.specs.Functions.{Equation, FunctionOf, ring_of}
use Rattle.function_field.specs.Values.{Functions, functions, function_of, equation_of}
use Rattle.trace_theory.proofs.Reduced.{field_iff}
use Rattle.lattice_theory.proofs.Lattices.{span_decided}
use Rattle.constants_theory.specs.Idempotents.{IsProperIdempotent}
use Rattle.value_theory.proofs.InfiniteLattices.{finite_disc}
use Rattle.ff_falg.specs.Algebras.{IsVector}
use Rattle.ff_structure.specs.Structures.{StructureValue, structure_algebra}
use Rattle.ff_structure.specs.Idempotents.{IsProperIdempotentVector}
use Rattle.idempotents_theory.specs.Coordinates.{IsStructureOf, HaveSameIdempotents}
use Rattle.idempotents_theory.proofs.ConstantAlgebra.{same_idempotents}
use Rattle.ff_text.specs.Printed.{WrittenValue}
use Rattle.ff_written.specs.LowestTerms.{IsWritten}
use Rattle.ff_rr.specs.Frames.{FrameValue, IsFrame}
use Rattle.ff_rr.specs.Constants.{SpaceBasisValue, IsConstantSpace}
use Rattle.ff_rr.specs.Listings.{IsWrittenIdempotent, AreListed, function_at}
use Rattle.ff_rr.proofs.FrameSets.{frame_disc}
use Rattle.ff_rr.proofs.TextLists.{Writes, listed_each, listed_any}

module _ {k : CodeField} (c : Equation k) where
  infixr 80 ⊖◌
  infixl 65 ◌⊕◌
  open ring_of c use {𝟘, 𝟙, ◌⊕◌, ⊖◌}

  -- a function that is neither not 0 nor not 1
  zero_or_one : (e : FunctionOf c) → ¬ ((¬ (e ≡ 𝟘)) × (¬ (e ≡ 𝟙))) → (e ≡ 𝟘) ⊎ (e ≡ 𝟙)
  zero_or_one e n =
      elim (span_decided c [] e) [
        | yes h ↦ inl h
        | no h ↦ inr (one h)
      ]
    where
      one : ¬ (e ≡ 𝟘) → e ≡ 𝟙
      one h = elim (span_decided c [] (e ⊕ ⊖ 𝟙)) [
        | yes i ↦ eq_of_sub (ring_of c) e 𝟙 i
        | no i ↦ absurd (n (h, λ is. i (sub_of_eq (ring_of c) e 𝟙 is)))
      ]

module _ (k : CodeField) (c : CurveValue) (curve : IsCurve k c) where
  -- F is a field exactly where it has no other idempotents than 0 and 1
  pub field_is : IsField (functions k c.fin).ops ↔ ((e : Functions k c.fin) → ¬ IsProperIdempotent k c.fin e)
  field_is =
      let i = field_iff (equation_of k c.fin) (finite_disc k c curve) in (
        λ field e p. none (i.0 field e p.square) p,
        λ n. i.1 (λ e s. zero_or_one (equation_of k c.fin) e
            (λ h. n e (record { square = s; not_zero = h.0; not_one = h.1 }))),
      )
    where
      none : {e : Functions k c.fin} → (e ≡ (functions k c.fin).𝟘) ⊎ (e ≡ (functions k c.fin).𝟙)
          → IsProperIdempotent k c.fin e → ⊥
      none (inl h) p = p.not_zero h
      none (inr h) p = p.not_one h

in_map : {X Y : Type 0} (f : X → Y) (x : X) (xs : List X) → In x xs → In (f x) (map f xs)
in_map f x [] h = h
in_map f x (y ∷ xs) (inl e) = inl (ap f e)
in_map f x (y ∷ xs) (inr h) = inr (in_map f x xs h)

all_in : {X : Type 0} (P : X → Type 0) (xs : List X) → ((x : X) → In x xs → P x) → All P xs
all_in P [] h = All-nil P
all_in P (x ∷ xs) h = All-cons P x xs (h x (inl refl)) (all_in P xs (λ y m. h y (inr m)))

no_member : {X : Type 0} (P : X → Type 0) (xs : List X) → xs ≡ [] → Any P xs → ⊥
no_member P [] e h = absurd (omega (arith, h.2))
no_member P (x ∷ xs) e h = absurd (cc)

module _ (k : CodeField) (f : FrameValue) (h : IsFrame k f) (s : SpaceBasisValue) (c : IsConstantSpace k f s)
    (st : StructureValue)
    (is : IsStructureOf (equation_of k f.curve.fin) (map (function_of k f.curve.fin) s.space.functions) st)
    (vs : List (List ℕ))
    (each : (v : List ℕ) → In v vs → IsProperIdempotentVector k.ops (structure_algebra st) v) where
  same : HaveSameIdempotents (equation_of k f.curve.fin) (map (function_of k f.curve.fin) s.space.functions) st
  same =
      same_idempotents (equation_of k f.curve.fin) (frame_disc k f h)
      (map (function_of k f.curve.fin) s.space.functions) c.basis st is

  -- the vectors have one code for each function
  pub vectors_in : All (IsVector k.ops (length s.space.functions)) vs
  vectors_in = all_in (IsVector k.ops (length s.space.functions)) vs vector
    where
      vector : (v : List ℕ) → In v vs → IsVector k.ops (length s.space.functions) v
      vector v m =
          subst (λ n. IsVector k.ops n v)
          (is.one_in.size ∙ length-map s.space.functions (function_of k f.curve.fin)) (each v m).idempotent.vector

  module _ (all : (v : List ℕ) → IsProperIdempotentVector k.ops (structure_algebra st) v → In v vs)
      (zs : List WrittenValue)
      (listed : AreListed k f.curve.fin (map (function_at k f.curve.fin s.space.functions) vs) zs) where
    pub idempotents_each : All (IsWrittenIdempotent k f.curve.fin) zs
    idempotents_each = λ i d l. member (get i d l)
      where
        proper : (v : List ℕ) → In v vs
            → IsProperIdempotent k f.curve.fin (function_at k f.curve.fin s.space.functions v)
        proper v m =
            (same.members v (subst (λ n. IsVector k.ops n v) is.one_in.size (each v m).idempotent.vector)).0 (each v m)

        get : All (Writes k f.curve.fin (IsProperIdempotent k f.curve.fin)) zs
        get =
            listed_each k f.curve.fin (IsProperIdempotent k f.curve.fin)
            (map (function_at k f.curve.fin s.space.functions) vs) zs listed
            (All-map (IsProperIdempotent k f.curve.fin) (function_at k f.curve.fin s.space.functions) vs
            (all_in (λ v. IsProperIdempotent k f.curve.fin (function_at k f.curve.fin s.space.functions v)) vs proper))

        member : {z : WrittenValue} → Writes k f.curve.fin (IsProperIdempotent k f.curve.fin) z
            → IsWrittenIdempotent k f.curve.fin z
        member w = record { function = w.0; written = w.1; proper = w.2 }

    pub idempotents_all : (e : Functions k f.curve.fin) → IsProperIdempotent k f.curve.fin e
        → Any (IsWritten k f.curve.fin e) zs
    idempotents_all e p =
        let v = same.all e p in
        listed_any k f.curve.fin e (map (function_at k f.curve.fin s.space.functions) vs) zs listed
        (subst (λ g. In g (map (function_at k f.curve.fin s.space.functions) vs)) (sym v.2)
        (in_map (function_at k f.curve.fin s.space.functions) v.0 vs (all v.0 v.1)))

    -- there is none exactly where F is a field
    pub idempotents_field : (zs ≡ []) ↔ IsField (functions k f.curve.fin).ops
    idempotents_field =
        let i = field_is k f.curve h.curve in (
          λ e. i.1 (λ g p. no_member (IsWritten k f.curve.fin g) zs e (idempotents_all g p)),
          λ field. empty zs idempotents_each (i.0 field),
        )
      where
        empty : (ws : List WrittenValue) → All (IsWrittenIdempotent k f.curve.fin) ws
            → ((e : Functions k f.curve.fin) → ¬ IsProperIdempotent k f.curve.fin e) → ws ≡ []
        empty [] all n = refl
        empty (w ∷ ws) all n =
            let m = All-head (IsWrittenIdempotent k f.curve.fin) w ws all in
            absurd (n m.function m.proper)
