-- Statements by their kind and what they hold, so that two behind one word are compared once for each kind.
use Rattle.std.proofs.Common.{◌≡◌, ℕ, ◌+◌, ◌*◌, true, false, eqb, List, [], ◌∷◌, codes, Option, refl, sym, ap, subst, ◌∙◌}
use Rattle.std.specs.Prelude.{if◌then◌else◌}
use Rattle.ff_text.specs.Spelling.{SpellsElement}
use Rattle.ff_text.specs.declared.terms.Term.{Term}
use Rattle.ff_text.specs.declared.terms.ElemText.{ElemText}
use Rattle.function_field.specs.declared.side.Side.{Side}
use Rattle.ff_script.specs.declared.script.Modulus.{Modulus}
use Rattle.ff_script.specs.declared.script.Over.{Over}
use Rattle.ff_script.specs.declared.script.Statement.{Statement}
use Rattle.ff_script.specs.declared.script.Statement.TheVariants.{FieldOf, CurveOf, Mul, Factor, OrderOf, Places, Place, Constants, Genus}
use Rattle.ff_script.specs.Grammar.{ends_with_word, numbers_of, IsWhole}
use Rattle.ff_script.specs.Reading.{IsFront, AreNumbersAt, AreTermsAt, IsSideAt, IsOverAt, IsPlaceAt, IsNameFront, IsBehind}
use Rattle.ff_script.proofs.Spans.{AllWord}

-- one for each word
pub data Kind : Type 0 where
  FieldKind : Kind
  CurveKind : Kind
  MulKind : Kind
  FactorKind : Kind
  OrderKind : Kind
  PlacesKind : Kind
  PlaceKind : Kind
  ConstantsKind : Kind
  GenusKind : Kind

abbrev pub word_of : Kind → List ℕ
word_of FieldKind = codes "field"
word_of CurveKind = codes "curve"
word_of MulKind = codes "mul"
word_of FactorKind = codes "factor"
word_of OrderKind = codes "order"
word_of PlacesKind = codes "places"
word_of PlaceKind = codes "place"
word_of ConstantsKind = codes "constants"
word_of GenusKind = codes "genus"

-- what a statement of the kind holds
abbrev pub Held : Kind → Type 0
Held FieldKind = ℕ × Option Modulus
Held CurveKind = List Term
Held MulKind = ElemText × ElemText
Held FactorKind = List Term
Held OrderKind = Side
Held PlacesKind = Over
Held PlaceKind = List ℕ × Over × ℕ
Held ConstantsKind = Unit {0}
Held GenusKind = Unit {0}

abbrev pub statement : (k : Kind) → Held k → Statement
statement FieldKind h = FieldOf h.0 h.1
statement CurveKind f = CurveOf f
statement MulKind h = Mul h.0 h.1
statement FactorKind g = Factor g
statement OrderKind side = OrderOf side
statement PlacesKind over = Places over
statement PlaceKind h = Place h.0 h.1 h.2
statement ConstantsKind h = Constants
statement GenusKind h = Genus

-- it is what the bytes behind the word are
abbrev pub IsHeldAt : (k : Kind) → Held k → List ℕ → Type 0
IsHeldAt FieldKind h bytes = IsWhole h.1 × AreNumbersAt (h.0 ∷ numbers_of h.1) bytes
IsHeldAt CurveKind f bytes = AreTermsAt true f bytes
IsHeldAt MulKind h bytes = (rest : List ℕ) × IsFront (SpellsElement h.0) bytes rest
    × IsFront (SpellsElement h.1) rest []
IsHeldAt FactorKind g bytes = AreTermsAt false g bytes
IsHeldAt OrderKind side bytes = IsSideAt side bytes
IsHeldAt PlacesKind over bytes = IsOverAt over bytes
IsHeldAt PlaceKind h bytes = (rest : List ℕ) × IsNameFront h.0 bytes rest × IsPlaceAt h.1 h.2 rest
IsHeldAt ConstantsKind h bytes = bytes ≡ []
IsHeldAt GenusKind h bytes = bytes ≡ []

-- ---- each statement is of one kind

abbrev pub kind_of : Statement → Kind
kind_of (FieldOf p tail) = FieldKind
kind_of (CurveOf f) = CurveKind
kind_of (Mul a b) = MulKind
kind_of (Factor g) = FactorKind
kind_of (OrderOf side) = OrderKind
kind_of (Places over) = PlacesKind
kind_of (Place name over index) = PlaceKind
kind_of Constants = ConstantsKind
kind_of Genus = GenusKind

abbrev pub held_by : (s : Statement) → Held (kind_of s)
held_by (FieldOf p tail) = (p, tail)
held_by (CurveOf f) = f
held_by (Mul a b) = (a, b)
held_by (Factor g) = g
held_by (OrderOf side) = side
held_by (Places over) = over
held_by (Place name over index) = (name, over, index)
held_by Constants = tt
held_by Genus = tt

made_again : (s : Statement) → s ≡ statement (kind_of s) (held_by s)
made_again (FieldOf p tail) = refl
made_again (CurveOf f) = refl
made_again (Mul a b) = refl
made_again (Factor g) = refl
made_again (OrderOf side) = refl
made_again (Places over) = refl
made_again (Place name over index) = refl
made_again Constants = refl
made_again Genus = refl

behind_held : (word : List ℕ) (s : Statement) (bytes : List ℕ) → IsBehind word s bytes
    → (word ≡ word_of (kind_of s)) × IsHeldAt (kind_of s) (held_by s) bytes
behind_held word (FieldOf p tail) bytes h = (h.0, (h.1, h.2))
behind_held word (CurveOf f) bytes h = h
behind_held word (Mul a b) bytes h = h
behind_held word (Factor g) bytes h = h
behind_held word (OrderOf side) bytes h = h
behind_held word (Places over) bytes h = h
behind_held word (Place name over index) bytes h = h
behind_held word Constants bytes h = h
behind_held word Genus bytes h = h

-- ---- each word is of one kind

-- a number that tells the words from each other
abbrev mark : List ℕ → ℕ
mark [] = 0
mark (b ∷ bs) = b + 2 * mark bs

abbrev kind_at : ℕ → Kind
kind_at n = if eqb n 3180 then FieldKind else if eqb n 3349 then CurveKind else if eqb n 775 then MulKind else if eqb n
    7044 then FactorKind else if eqb n 6804 then PlacesKind else if eqb n 3124 then PlaceKind else if eqb n
    57969 then ConstantsKind else if eqb n 3521 then GenusKind else OrderKind

told : (k : Kind) → kind_at (mark (word_of k)) ≡ k
told FieldKind = refl
told CurveKind = refl
told MulKind = refl
told FactorKind = refl
told OrderKind = refl
told PlacesKind = refl
told PlaceKind = refl
told ConstantsKind = refl
told GenusKind = refl

same_kind : (k l : Kind) → word_of k ≡ word_of l → k ≡ l
same_kind k l e = sym (told k) ∙ ap (λ (w : List ℕ). kind_at (mark w)) e ∙ told l

-- the statement is of the kind, and what it holds is what the bytes are
pub record IsOfKind (k : Kind) (s : Statement) (bytes : List ℕ) : Type 0 where
  pub held : Held k
  pub made : s ≡ statement k held
  pub at : IsHeldAt k held bytes

-- behind the word of a kind stands a statement of that kind
pub of_kind : (k : Kind) (s : Statement) (bytes : List ℕ) → IsBehind (word_of k) s bytes → IsOfKind k s bytes
of_kind k s bytes h =
    let b = behind_held (word_of k) s bytes h in
    subst (λ (l : Kind). IsOfKind l s bytes) (sym (same_kind k (kind_of s) b.0))
    (record { held = held_by s; made = made_again s; at = b.1 })

-- where the bytes aren't what the kind holds, no statement stands behind its word
pub none_of_kind : (k : Kind) (bytes : List ℕ) → ((held : Held k) → IsHeldAt k held bytes → ⊥) → (s : Statement)
    → IsBehind (word_of k) s bytes → ⊥
none_of_kind k bytes none s h = let o = of_kind k s bytes h in none o.held o.at

-- the word of a statement
pub word_of_behind : (word : List ℕ) (s : Statement) (bytes : List ℕ) → IsBehind word s bytes
    → word ≡ word_of (kind_of s)
word_of_behind word s bytes h = let b = behind_held word s bytes h in b.0

-- ---- words

-- word bytes alone, and one at the end
pub record IsWord (word : List ℕ) : Type 0 where
  pub all : AllWord word
  pub ends : ends_with_word word ≡ true

pub kind_word : (k : Kind) → IsWord (word_of k)
kind_word FieldKind = record { all = (refl, (refl, (refl, (refl, (refl, tt))))); ends = refl }
kind_word CurveKind = record { all = (refl, (refl, (refl, (refl, (refl, tt))))); ends = refl }
kind_word MulKind = record { all = (refl, (refl, (refl, tt))); ends = refl }
kind_word FactorKind = record { all = (refl, (refl, (refl, (refl, (refl, (refl, tt)))))); ends = refl }
kind_word OrderKind = record { all = (refl, (refl, (refl, (refl, (refl, tt))))); ends = refl }
kind_word PlacesKind = record { all = (refl, (refl, (refl, (refl, (refl, (refl, tt)))))); ends = refl }
kind_word PlaceKind = record { all = (refl, (refl, (refl, (refl, (refl, tt))))); ends = refl }
kind_word ConstantsKind = record {
  all = (refl, (refl, (refl, (refl, (refl, (refl, (refl, (refl, (refl, tt)))))))));
  ends = refl;
}
kind_word GenusKind = record { all = (refl, (refl, (refl, (refl, (refl, tt))))); ends = refl }

pub word_of_statement : (word : List ℕ) (s : Statement) (bytes : List ℕ) → IsBehind word s bytes → IsWord word
word_of_statement word s bytes h = subst IsWord (sym (word_of_behind word s bytes h)) (kind_word (kind_of s))
