-- The lines of bytes, one after the other.
use Rattle.std.proofs.Common.{◌≡◌, ℕ, suc, Bool, true, false, cond, not, eqb, ltb, ◌+◌, ◌-◌, ◌<◌, ◌≤◌, List, [], ◌∷◌, length, take, drop, Option, Some, None, refl, sym, ap, subst, ◌∙◌, arith, inl, inr}
use Rattle.std.specs.Prelude.{position}
use Rattle.std.specs.List.{slice_split, onto_first, position_or_len}
use Rattle.std.proofs.lemmas.Bool.{cases_Bool, ltb-true, ltb-false}
use Rattle.std.proofs.lemmas.List.Splits.{slice_split_first, slice_split-cons_no}
use Rattle.std.proofs.lemmas.List.{take_rest, drop_all}
use Rattle.ff_script.specs.Scripts.{without_empty_last, lines_of}

pub lines_of_none : lines_of [] ≡ []
lines_of_none = refl

abbrev pub is_feed : ℕ → Bool
is_feed b = eqb b 10

abbrev IsSome : List (List ℕ) → Type 0
IsSome parts = (first : List ℕ) × (others : List (List ℕ)) × (parts ≡ first ∷ others)

onto_some : (b : ℕ) (parts : List (List ℕ)) → IsSome (onto_first b parts)
onto_some b [] = (b ∷ [], [], refl)
onto_some b (part ∷ parts) = (b ∷ part, parts, refl)

-- there is a first piece
split_some : (bytes : List ℕ) → IsSome (slice_split is_feed bytes)
split_some [] = ([], [], refl)
split_some (b ∷ bs) = elim (cases_Bool (eqb b 10)) [
  | inl is ↦ rw is ([], slice_split is_feed bs, refl)
  | inr other ↦ rw other (onto_some b (slice_split is_feed bs))
]

drop_empty : (piece : List ℕ) (parts : List (List ℕ)) → IsSome parts
    → without_empty_last (piece ∷ parts) ≡ piece ∷ without_empty_last parts
drop_empty piece [] some = let e = some.2 in absurd cc
drop_empty [] (next ∷ parts) some = refl
drop_empty (b ∷ bs) (next ∷ parts) some = refl

-- a first line, and the lines behind its line feed
pub lines_cut : (bytes line rest : List ℕ) → slice_split is_feed bytes ≡ line ∷ slice_split is_feed rest
    → lines_of bytes ≡ line ∷ lines_of rest
lines_cut bytes line rest e = ap without_empty_last e ∙ drop_empty line (slice_split is_feed rest) (split_some rest)

-- a last line
pub lines_last : (bytes rest : List ℕ) → 0 < length bytes → rest ≡ [] → slice_split is_feed bytes ≡ bytes ∷ []
    → lines_of bytes ≡ bytes ∷ lines_of rest
lines_last [] rest some none e = absurd (omega arith)
lines_last (b ∷ bs) rest some none e = ap without_empty_last e ∙ ap (λ (t : List ℕ). (b ∷ bs) ∷ lines_of t) (sym none)

-- ---- by the position of the first line feed

guarded : (b : Bool) (n i : ℕ) → cond b (Some n) None ≡ Some i → (b ≡ true) × (n ≡ i)
guarded true n i e = (refl, cc)
guarded false n i e = absurd cc

unguarded : (b : Bool) (n : ℕ) → cond b (Some n) None ≡ None → b ≡ false
unguarded true n e = absurd cc
unguarded false n e = refl

pub split_at_feed : (bytes : List ℕ) (i : ℕ) → position is_feed bytes ≡ Some i
    → slice_split is_feed bytes ≡ take i bytes ∷ slice_split is_feed (drop (i + 1) bytes)
split_at_feed bytes i e =
    let g = guarded (ltb (position_or_len is_feed bytes) (length bytes)) (position_or_len is_feed bytes) i e in
    let first = slice_split_first is_feed bytes 0 (ltb-true (position_or_len is_feed bytes) (length bytes) g.0) in
    subst (λ (n : ℕ). slice_split is_feed bytes ≡ take n bytes ∷ slice_split is_feed (drop (n + 1) bytes)) g.1 first

uncut : (bytes : List ℕ) → length bytes ≤ position_or_len is_feed bytes → slice_split is_feed bytes ≡ bytes ∷ []
uncut [] h = refl
uncut (b ∷ bs) h = go (eqb b 10) refl h (uncut bs)
  where
    go : (t : Bool) → eqb b 10 ≡ t → suc (length bs) ≤ cond (not t) (1 + position_or_len is_feed bs) 0
        → (length bs ≤ position_or_len is_feed bs → slice_split is_feed bs ≡ bs ∷ [])
        → slice_split is_feed (b ∷ bs) ≡ (b ∷ bs) ∷ []
    go true is l more = absurd (omega arith)
    go false other l more = slice_split-cons_no is_feed b bs other ∙ ap (onto_first b) (more (omega arith))

pub split_unfed : (bytes : List ℕ) → position is_feed bytes ≡ None → slice_split is_feed bytes ≡ bytes ∷ []
split_unfed bytes e = uncut bytes (ltb-false (position_or_len is_feed bytes) (length bytes)
    (unguarded (ltb (position_or_len is_feed bytes) (length bytes)) (position_or_len is_feed bytes) e))

-- ---- as the code cuts

pub cut_at : (bytes : List ℕ) (i : ℕ) (o : Option ℕ) → o ≡ position is_feed bytes → o ≡ Some i
    → lines_of bytes ≡ take i bytes ∷ lines_of (take (length bytes - (i + 1)) (drop (i + 1) bytes))
cut_at bytes i o found is = lines_cut bytes (take i bytes) (drop (i + 1) bytes) (split_at_feed bytes i (sym found ∙ is))
    ∙ ap (λ (t : List ℕ). take i bytes ∷ lines_of t) (sym (take_rest bytes (i + 1)))

pub uncut_at : (bytes : List ℕ) (o : Option ℕ) → 0 < length bytes → o ≡ position is_feed bytes → o ≡ None
    → lines_of bytes ≡ bytes ∷ lines_of (take (length bytes - length bytes) (drop (length bytes) bytes))
uncut_at bytes o some found is = lines_last bytes (take (length bytes - length bytes) (drop (length bytes) bytes)) some
    (take_rest bytes (length bytes) ∙ drop_all (length bytes) bytes (omega arith)) (split_unfed bytes (sym found ∙ is))
