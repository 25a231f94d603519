-- A line spells one statement at most.
use Rattle.std.proofs.Common.{◌≡◌, ℕ, Bool, true, false, List, [], ◌∷◌, ◌++◌, codes, Option, Some, None, refl, sym, ap, subst, ◌∙◌, arith, inl, inr}
use Rattle.std.proofs.lemmas.Bool.{both_ways}
use Rattle.std.proofs.lemmas.List.{append-nil}
use Rattle.ff_text.specs.Spelling.{Blanks, SpellsNumber, SpellsTerms, SpellsElement}
use Rattle.ff_text.specs.declared.terms.Term.{Term}
use Rattle.ff_text.specs.declared.terms.ElemText.{ElemText}
use Rattle.function_field.specs.declared.side.Side.{Side}
use Rattle.function_field.specs.declared.side.Side.TheVariants.{Finite, Infinite}
use Rattle.ff_script.specs.declared.script.Modulus.{Modulus}
use Rattle.ff_script.specs.declared.script.Over.{Over}
use Rattle.ff_script.specs.declared.script.Over.TheVariants.{At, Inf}
use Rattle.ff_script.specs.declared.script.Statement.{Statement}
use Rattle.ff_script.specs.declared.script.Statement.TheVariants.{FieldOf, CurveOf, Mul, Factor, OrderOf, Places, Place}
use Rattle.ff_script.specs.Grammar.{is_word_byte, numbers_of, SpellsSide, SpellsOver, IsSkipped, SpellsLine}
use Rattle.ff_script.specs.Reading.{behind_blanks, IsFront, AreNumbersAt, IsElementFront, IsPlaceAt, IsBehind}
use Rattle.ff_script.proofs.Spans.{head_same, stopped_same}
use Rattle.ff_script.proofs.Spelled.{IsSolid, terms_solid, side_solid, over_solid}
use Rattle.ff_script.proofs.Fronts.{line_at}
use Rattle.ff_script.proofs.Steps.{number_same, numbers_same, comment_at, blank_at}
use Rattle.ff_script.proofs.Elements.{begins_element, fronts_one}
use Rattle.ff_script.proofs.ByKind.{Kind, FieldKind, CurveKind, MulKind, FactorKind, OrderKind, PlacesKind, PlaceKind, ConstantsKind, GenusKind, word_of, Held, statement, IsHeldAt, kind_of, word_of_behind, IsWord, word_of_statement, of_kind}
use Rattle.ff_script.proofs.Behind.{statement_behind}
use Rattle.ff_script.proofs.WordRuns.{not_inf}
use Rattle.ff_script.proofs.OverFronts.{over_of_place, over_fronts_one}
use Rattle.ff_script.proofs.NameFronts.{name_fronts_one}

-- a text spells one value at most
abbrev pub OneValue : {V : Type 0} → (V → List ℕ → Type 0) → Type 0
OneValue {V} Spells = (v w : V) (bytes : List ℕ) → Spells v bytes → Spells w bytes → v ≡ w

abbrev modulus_from : ℕ → List ℕ → Modulus
modulus_from m codes = record { m = m; codes = codes }

modulus_same : (a b : Modulus) → a.m ≡ b.m → a.codes ≡ b.codes → a ≡ b
modulus_same a b e f = ap (λ (m : ℕ). modulus_from m a.codes) e ∙ ap (modulus_from b.m) f

tail_equal : (s t : Option Modulus) → numbers_of s ≡ numbers_of t → s ≡ t
tail_equal None None e = refl
tail_equal None (Some b) e = absurd cc
tail_equal (Some a) None e = absurd cc
tail_equal (Some a) (Some b) e =
    let degree : a.m ≡ b.m = cc in
    let others : a.codes ≡ b.codes = cc in
    ap (λ (m : Modulus). Some m) (modulus_same a b degree others)

field_same : (p q : ℕ) (s t : Option Modulus) (bytes : List ℕ) → AreNumbersAt (p ∷ numbers_of s) bytes
    → AreNumbersAt (q ∷ numbers_of t) bytes → FieldOf p s ≡ FieldOf q t
field_same p q s t bytes h k =
    let all : p ∷ numbers_of s ≡ q ∷ numbers_of t = numbers_same (p ∷ numbers_of s) (q ∷ numbers_of t) bytes h k in
    let first : p ≡ q = cc in
    let others : numbers_of s ≡ numbers_of t = cc in
    let tail : s ≡ t = tail_equal s t others in
    cc

other_word : (bytes : List ℕ) → bytes ≡ codes "finite" → bytes ≡ codes "infinite" → ⊥
other_word bytes h k = omega (arith, head_same 102 105 (codes "inite") (codes "nfinite") (sym h ∙ k))

one_side : OneValue SpellsSide
one_side Finite Finite bytes h k = refl
one_side Finite Infinite bytes h k = absurd (other_word bytes h k)
one_side Infinite Finite bytes h k = absurd (other_word bytes k h)
one_side Infinite Infinite bytes h k = refl

-- the last part spells one value at most
last_same : {V : Type 0} (Spells : V → List ℕ → Type 0) → OneValue Spells
    → ((v : V) (b : List ℕ) → Spells v b → IsSolid b) → (v w : V) (bytes : List ℕ) → IsFront (Spells v) bytes []
    → IsFront (Spells w) bytes [] → v ≡ w
last_same Spells one solid v w bytes h k =
    let blanks : Blanks (h.gap ++ []) = subst Blanks (sym (append-nil h.gap)) h.blanks in
    let others : Blanks (k.gap ++ []) = subst Blanks (sym (append-nil k.gap)) k.blanks in
    let fronts : h.front ≡ k.front = stopped_same h.front k.front (h.gap ++ []) (k.gap ++ [])
    (solid v h.front h.part).stops (solid w k.front k.part).stops blanks others (sym h.whole ∙ k.whole) in
    one v w k.front (subst (Spells v) fronts h.part) k.part

module _ (one_terms : (with_y : Bool) → OneValue (SpellsTerms with_y)) (one_element : OneValue SpellsElement) where
  -- an element at the front, and what stands behind it
  element_same : (a b : ElemText) (bytes r s : List ℕ) → IsElementFront a bytes r → IsElementFront b bytes s
      → (a ≡ b) × (r ≡ s)
  element_same a b bytes r s h k =
      let both = fronts_one bytes a b r s h k in
      (one_element a b k.front.front (subst (SpellsElement a) both.0 h.front.part) k.front.part, both.1)

  one_over : OneValue SpellsOver
  one_over (At g) (At h) bytes p q = ap (λ (x : List Term). At x) (one_terms false g h bytes p q)
  one_over (At g) Inf bytes p q = absurd (not_inf false g bytes [] (codes "nf") p (append-nil bytes ∙ q))
  one_over Inf (At h) bytes p q = absurd (not_inf false h bytes [] (codes "nf") q (append-nil bytes ∙ p))
  one_over Inf Inf bytes p q = refl

  place_same : (a b : Over) (i j : ℕ) (bytes : List ℕ) → IsPlaceAt a i bytes → IsPlaceAt b j bytes → (a ≡ b) × (i ≡ j)
  place_same a b i j bytes h k =
      let both = over_fronts_one bytes a b h.0 k.0 (over_of_place a i bytes h) (over_of_place b j bytes k) in (
        one_over a b k.1.front (subst (SpellsOver a) both.0 h.1.part) k.1.part,
        (number_same k.0 i j [] [] (subst (λ (t : List ℕ). IsFront (SpellsNumber i) t []) both.1 h.2) k.2).0,
      )

  -- the bytes are one thing of a kind at most
  held_same : (k : Kind) (a b : Held k) (bytes : List ℕ) → IsHeldAt k a bytes → IsHeldAt k b bytes
      → statement k a ≡ statement k b
  held_same FieldKind a b bytes h k = field_same a.0 b.0 a.1 b.1 bytes h.1 k.1
  held_same CurveKind f g bytes h k = ap (λ (x : List Term). CurveOf x)
      (last_same (SpellsTerms true) (one_terms true) (terms_solid true) f g bytes h k)
  held_same MulKind a b bytes h k =
      let left = element_same a.0 b.0 bytes h.0 k.0 (record { front = h.1; behind = begins_element a.1 h.0 [] h.2 })
      (record { front = k.1; behind = begins_element b.1 k.0 [] k.2 }) in
      let right = element_same a.1 b.1 k.0 [] []
      (record { front = subst (λ (t : List ℕ). IsFront (SpellsElement a.1) t []) left.1 h.2; behind = refl })
      (record { front = k.2; behind = refl }) in
      ap (λ (x : ElemText). Mul x a.1) left.0 ∙ ap (Mul b.0) right.0
  held_same FactorKind f g bytes h k = ap (λ (x : List Term). Factor x)
      (last_same (SpellsTerms false) (one_terms false) (terms_solid false) f g bytes h k)
  held_same OrderKind s t bytes h k = ap (λ (x : Side). OrderOf x)
      (last_same SpellsSide one_side side_solid s t bytes h k)
  held_same PlacesKind a b bytes h k = ap (λ (x : Over). Places x)
      (last_same SpellsOver one_over over_solid a b bytes h k)
  held_same PlaceKind a b bytes h k =
      let named = name_fronts_one bytes a.0 b.0 h.0 k.0 h.1 k.1 in
      let at = place_same a.1 b.1 a.2 b.2 k.0 (subst (IsPlaceAt a.1 a.2) named.1 h.2) k.2 in
      ap (λ (x : List ℕ). Place x a.1 a.2) named.0 ∙ ap (λ (x : Over). Place b.0 x a.2) at.0
      ∙ ap (λ (x : ℕ). Place b.0 b.1 x) at.1
  held_same ConstantsKind a b bytes h k = refl
  held_same GenusKind a b bytes h k = refl

  behind_same : (word bytes : List ℕ) (s t : Statement) → IsBehind word s bytes → IsBehind word t bytes → s ≡ t
  behind_same word bytes s t h k =
      let at : word ≡ word_of (kind_of s) = word_of_behind word s bytes h in
      let one = of_kind (kind_of s) s bytes (subst (λ (w : List ℕ). IsBehind w s bytes) at h) in
      let other = of_kind (kind_of s) t bytes (subst (λ (w : List ℕ). IsBehind w t bytes) at k) in
      one.made ∙ held_same (kind_of s) one.held other.held bytes one.at other.at ∙ sym other.made

  pub same_statement : (line : List ℕ) (s t : Statement) → SpellsLine s line → SpellsLine t line → s ≡ t
  same_statement line s t h k =
      let left = line_at s line h in
      let right = line_at t line k in
      let is = word_of_statement left.word s left.rest left.behind in
      behind_same left.word left.rest s t left.behind
      (statement_behind left.word (behind_blanks line) left.rest is left.front t right)

-- ---- skipped lines

-- bytes that begin with a word begin with a word byte
word_first : (word more : List ℕ) → IsWord word
    → (b : ℕ) × (bs : List ℕ) × (word ++ more ≡ b ∷ bs) × (is_word_byte b ≡ true)
word_first [] more h = let none : false ≡ true = h.ends in absurd cc
word_first (b ∷ bs) more h = (b, bs ++ more, refl, h.all.0)

begins : (line : List ℕ) (s : Statement) → SpellsLine s line
    → (b : ℕ) × (bs : List ℕ) × (behind_blanks line ≡ b ∷ bs) × (is_word_byte b ≡ true)
begins line s h =
    let at = line_at s line h in
    let first = word_first at.word (at.front.gap ++ at.rest) (word_of_statement at.word s at.rest at.behind) in (
      first.0,
      first.1,
      at.front.whole ∙ ap (λ (t : List ℕ). t ++ (at.front.gap ++ at.rest)) at.front.part
          ∙ first.2,
      first.3,
    )

-- a line that is skipped spells no statement
pub skipped_none : (line : List ℕ) (s : Statement) → IsSkipped line → SpellsLine s line → ⊥
skipped_none line s (inl blank) h =
    let first = begins line s h in
    let is : [] ≡ first.0 ∷ first.1 = sym (blank_at line blank) ∙ first.2 in
    cc
skipped_none line s (inr comment) h =
    let first = begins line s h in
    let mark = comment_at line comment in
    let same : first.0 ≡ 35 = head_same first.0 35 first.1 mark.0 (sym first.2 ∙ mark.1) in
    both_ways (is_word_byte first.0) (subst (λ (n : ℕ). is_word_byte n ≡ false) (sym same) refl) first.3
