-- Names at the front of a line, and what stands behind the words of places.
use Rattle.std.proofs.Common.{◌≡◌, ◌≢◌, ℕ, false, List, ◌++◌, codes, refl, sym, ap, subst, ◌∙◌}
use Rattle.std.proofs.lemmas.Bool.{both_ways}
use Rattle.ff_text.specs.Spelling.{Is}
use Rattle.ff_script.specs.declared.script.Over.{Over}
use Rattle.ff_script.specs.declared.script.Statement.{Statement}
use Rattle.ff_script.specs.Grammar.{begins_with_word, ends_with_word, IsName, SpellsName}
use Rattle.ff_script.specs.Reading.{behind_blanks, IsFront, IsOverAt, IsPlaceAt, IsNameFront, IsBehind}
use Rattle.ff_script.proofs.Spans.{AllWord, all_word_ends, words_same, blanks_passed}
use Rattle.ff_script.proofs.Spelled.{name_some}
use Rattle.ff_script.proofs.Fronts.{front_as}
use Rattle.ff_script.proofs.Steps.{front_here, word_rest}
use Rattle.ff_script.proofs.ByKind.{PlacesKind, PlaceKind, none_of_kind, IsWord}
use Rattle.ff_script.proofs.Behind.{word_same}

-- ---- one name

name_word : (name bytes rest : List ℕ) → IsFront (SpellsName name) bytes rest → IsWord name
name_word name bytes rest f =
    record { all = f.part.0.bytes; ends = all_word_ends name f.part.0.bytes (name_some name f.part.0) }

name_is : (name bytes rest : List ℕ) → IsFront (SpellsName name) bytes rest → IsFront (Is name) bytes rest
name_is name bytes rest f = front_as (SpellsName name) (Is name) bytes rest (λ b h. h.1) f

pub name_fronts_one : (bytes m n r s : List ℕ) → IsNameFront m bytes r → IsNameFront n bytes s → (m ≡ n) × (r ≡ s)
name_fronts_one bytes m n r s h k =
    let both = word_same m n bytes h.0 k.0 (name_word m bytes h.0 h.1) (name_word n bytes k.0 k.1)
    (name_is m bytes h.0 h.1) (name_is n bytes k.0 k.1) in (
      both.0,
      word_rest (codes "=") k.0 r s
          (subst (λ (t : List ℕ). IsFront (Is (codes "=")) t r) both.1 h.2) k.2,
    )

-- ---- what the code says

-- the first word, and what stands behind it
pub record IsFirstWord (bytes word rest : List ℕ) : Type 0 where
  pub whole : bytes ≡ word ++ rest
  pub all : AllWord word
  pub ended : begins_with_word rest ≡ false

module _ (bytes word rest : List ℕ) (first : IsFirstWord bytes word rest) where
  -- a name at the front is the first word
  name_split : (name r : List ℕ) → IsFront (SpellsName name) bytes r → (word ≡ name) × (behind_blanks rest ≡ r)
  name_split name r f =
      let fits : f.front ≡ name = f.part.1 in
      let is = name_word name bytes r f in
      let both = words_same word f.front rest (f.gap ++ r) first.all (subst AllWord (sym fits) is.all) first.ended
      (f.apart (ap ends_with_word fits ∙ is.ends)) (sym first.whole ∙ f.whole) in
      (both.0 ∙ fits, ap behind_blanks both.1 ∙ blanks_passed f.gap r f.blanks f.edge)

  pub no_name : (IsName word → ⊥) → (name r : List ℕ) → IsNameFront name bytes r → ⊥
  no_name other name r h = other (subst IsName (sym (name_split name h.0 h.1).0) h.1.part.0)

  pub no_mark : ((more : List ℕ) → behind_blanks rest ≢ codes "=" ++ more) → (name r : List ℕ)
      → IsNameFront name bytes r → ⊥
  no_mark none name r h = none (h.2.gap ++ r)
      ((name_split name h.0 h.1).1 ∙ h.2.whole ∙ ap (λ (t : List ℕ). t ++ (h.2.gap ++ r)) h.2.part)

  pub name_here : (more : List ℕ) → IsName word → behind_blanks rest ≡ codes "=" ++ more
      → IsNameFront word bytes (behind_blanks more)
  name_here more is mark = (
    behind_blanks rest,
    front_here (SpellsName word) bytes word rest (is, refl) first.whole (λ e. first.ended),
    front_here (Is (codes "=")) (behind_blanks rest) (codes "=") more refl mark (λ e. absurd (both_ways false refl e)),
  )

-- ---- behind the words

pub no_places_here : (bytes : List ℕ) → ((over : Over) → IsOverAt over bytes → ⊥) → (s : Statement)
    → IsBehind (codes "places") s bytes → ⊥
no_places_here bytes none s h = none_of_kind PlacesKind bytes none s h

pub no_name_behind : (bytes : List ℕ) → ((name rest : List ℕ) → IsNameFront name bytes rest → ⊥) → (s : Statement)
    → IsBehind (codes "place") s bytes → ⊥
no_name_behind bytes none s h = none_of_kind PlaceKind bytes (λ held k. none held.0 k.0 k.1) s h

pub no_place_behind : (bytes name rest : List ℕ) → IsNameFront name bytes rest
    → ((over : Over) (index : ℕ) → IsPlaceAt over index rest → ⊥) → (s : Statement)
    → IsBehind (codes "place") s bytes → ⊥
no_place_behind bytes name rest here none s h = none_of_kind PlaceKind bytes
    (λ held k. none held.1 held.2
    (subst (IsPlaceAt held.1 held.2) (name_fronts_one bytes held.0 name k.0 rest k.1 here).1 k.2)) s h
