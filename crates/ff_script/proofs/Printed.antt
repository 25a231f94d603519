-- Statements that can be written are spelled by their texts.
use Rattle.std.proofs.Common.{◌≡◌, ℕ, Bool, true, false, eqb, ◌<◌, List, [], ◌∷◌, ◌++◌, map, codes, refl, sym, ap, subst, ◌∙◌, append_assoc, inr}
use Rattle.std.specs.Prelude.{All, decimal}
use Rattle.std.specs.List.{AllByRecursion, slice_split}
use Rattle.std.proofs.lemmas.List.{append-nil}
use Rattle.std.proofs.lemmas.List.Elements.{All-nil, All-cons}
use Rattle.std.proofs.lemmas.List.Splits.{slice_split_at}
use Rattle.ff_text.specs.Spelling.{Blanks, SpellsNumber, SpellsTerms, SpellsElement}
use Rattle.ff_text.specs.Printing.{terms_text, element_text, IsWritableTerms, IsWritableElement}
use Rattle.ff_text.specs.declared.terms.Term.{Term}
use Rattle.ff_text.specs.declared.terms.ElemText.{ElemText}
use Rattle.function_field.specs.declared.side.Side.{Side}
use Rattle.function_field.specs.declared.side.Side.TheVariants.{Finite, Infinite}
use Rattle.ff_script.specs.declared.script.Over.{Over}
use Rattle.ff_script.specs.declared.script.Over.TheVariants.{At, Inf}
use Rattle.ff_script.specs.declared.script.Statement.{Statement}
use Rattle.ff_script.specs.declared.script.Statement.TheVariants.{FieldOf, CurveOf, Mul, Factor, OrderOf, Places, Place, Constants, Genus}
use Rattle.ff_script.specs.Grammar.{IsGap, SpellsParts, AreNumbers, numbers_of, SpellsSide, SpellsOver, ArePartsOf, SpellsLine}
use Rattle.ff_script.specs.Printing.{numbers_text, side_text, over_text, statement_text, script_text, IsShort, IsWritableOver, IsWritable}
use Rattle.ff_script.specs.Scripts.{lines_of, IsReadAs, IsInOrder, IsScript}
use Rattle.ff_script.proofs.Spans.{all_append, each_blank}
use Rattle.ff_script.proofs.Spelled.{AreInside, number_solid, terms_solid, side_solid, over_solid, name_solid, element_bracketed}
use Rattle.ff_script.proofs.Cuts.{is_feed, lines_cut}
use Rattle.ff_script.proofs.OneScript.{IsOneLine}

-- ---- no line feeds

abbrev IsUnfed : ℕ → Type 0
IsUnfed b = eqb b 10 ≡ false

abbrev pub AreUnfed : List ℕ → Type 0
AreUnfed bytes = AllByRecursion IsUnfed bytes

inside_unfed : (bytes : List ℕ) → AreInside bytes → AreUnfed bytes
inside_unfed [] h = tt
inside_unfed (b ∷ bs) h = (h.0.1, inside_unfed bs h.1)

blanks_unfed : (gap : List ℕ) → Blanks gap → AreUnfed gap
blanks_unfed [] h = tt
blanks_unfed (g ∷ gap) h = (each_blank IsUnfed refl refl refl g h.0, blanks_unfed gap h.1)

element_unfed : (e : ElemText) (bytes : List ℕ) → SpellsElement e bytes → AreUnfed bytes
element_unfed e bytes h =
    let b = element_bracketed e bytes h in
    subst AreUnfed (sym b.whole) (refl, inside_unfed b.body b.ending.inside)

numbers_unfed : (ns : List ℕ) (parts : List (List ℕ)) → AreNumbers ns parts → AllByRecursion AreUnfed parts
numbers_unfed [] parts h = subst (AllByRecursion AreUnfed) (sym h) tt
numbers_unfed (n ∷ ns) [] h = absurd h
numbers_unfed (n ∷ ns) (part ∷ parts) h =
    (inside_unfed part (number_solid n part h.0).inside, numbers_unfed ns parts h.1)

parts_unfed : (s : Statement) (parts : List (List ℕ)) → ArePartsOf s parts → AllByRecursion AreUnfed parts
parts_unfed (FieldOf p tail) parts h = subst (AllByRecursion AreUnfed) (sym h.1)
    ((refl, (refl, (refl, (refl, (refl, tt))))), numbers_unfed (p ∷ numbers_of tail) h.0 h.2)
parts_unfed (CurveOf f) parts h = subst (AllByRecursion AreUnfed) (sym h.1)
    ((refl, (refl, (refl, (refl, (refl, tt))))), (inside_unfed h.0 (terms_solid true f h.0 h.2).inside, tt))
parts_unfed (Mul a b) parts h = subst (AllByRecursion AreUnfed) (sym h.2)
    ((refl, (refl, (refl, tt))), (element_unfed a h.0 h.3, (element_unfed b h.1 h.4, tt)))
parts_unfed (Factor g) parts h = subst (AllByRecursion AreUnfed) (sym h.1)
    ((refl, (refl, (refl, (refl, (refl, (refl, tt)))))), (inside_unfed h.0 (terms_solid false g h.0 h.2).inside, tt))
parts_unfed (OrderOf side) parts h = subst (AllByRecursion AreUnfed) (sym h.1)
    ((refl, (refl, (refl, (refl, (refl, tt))))), (inside_unfed h.0 (side_solid side h.0 h.2).inside, tt))
parts_unfed (Places over) parts h = subst (AllByRecursion AreUnfed) (sym h.1)
    ((refl, (refl, (refl, (refl, (refl, (refl, tt)))))), (inside_unfed h.0 (over_solid over h.0 h.2).inside, tt))
parts_unfed (Place name over index) parts h = subst (AllByRecursion AreUnfed) (sym h.3) (
  (refl, (refl, (refl, (refl, (refl, tt))))),
  (
    inside_unfed h.0 (name_solid name h.0 h.4).inside,
    (
      (refl, tt),
      (
        inside_unfed h.1 (over_solid over h.1 h.5).inside,
        (inside_unfed h.2 (number_solid index h.2 h.6).inside, tt),
      ),
    ),
  ),
)
parts_unfed Constants parts h = subst (AllByRecursion AreUnfed) (sym h)
    ((refl, (refl, (refl, (refl, (refl, (refl, (refl, (refl, (refl, tt))))))))), tt)
parts_unfed Genus parts h = subst (AllByRecursion AreUnfed) (sym h)
    ((refl, (refl, (refl, (refl, (refl, tt))))), tt)

joined_unfed : (parts : List (List ℕ)) (core : List ℕ) → AllByRecursion AreUnfed parts → SpellsParts parts core
    → AreUnfed core
joined_unfed [] core h joined = subst AreUnfed (sym joined) tt
joined_unfed (part ∷ []) core h joined = subst AreUnfed (sym joined) h.0
joined_unfed (part ∷ next ∷ parts) core h joined =
    let first : AreUnfed joined.front = subst AreUnfed (sym joined.first) h.0 in
    let gap : AreUnfed joined.second.front = blanks_unfed joined.second.front joined.second.first.blanks in
    let more : AreUnfed joined.second.back = joined_unfed (next ∷ parts) joined.second.back h.1 joined.second.second in
    let behind : AreUnfed joined.back = subst AreUnfed (sym joined.second.whole)
    (all_append IsUnfed joined.second.front joined.second.back gap more) in
    subst AreUnfed (sym joined.whole) (all_append IsUnfed joined.front joined.back first behind)

-- a line that spells a statement has no line feed
pub line_unfed : (s : Statement) (line : List ℕ) → SpellsLine s line → AreUnfed line
line_unfed s line h =
    let core : AreUnfed h.second.front = joined_unfed h.second.first.parts h.second.front
    (parts_unfed s h.second.first.parts h.second.first.named) h.second.first.joined in
    let behind : AreUnfed h.back = subst AreUnfed (sym h.second.whole)
    (all_append IsUnfed h.second.front h.second.back core (blanks_unfed h.second.back h.second.second)) in
    subst AreUnfed (sym h.whole) (all_append IsUnfed h.front h.back (blanks_unfed h.front h.first) behind)

unfed_passes : (bytes : List ℕ) → AreUnfed bytes → All (λ b. is_feed b ≡ false) bytes
unfed_passes [] h = All-nil (λ b. is_feed b ≡ false)
unfed_passes (b ∷ bs) h = All-cons (λ b. is_feed b ≡ false) b bs h.0 (unfed_passes bs h.1)

-- ---- texts

-- a space is a gap
space_gap : (left right : List ℕ) → IsGap left right (codes " ")
space_gap left right = record { blanks = (refl, tt); apart = λ both e. cc }

spaced : (part next : List ℕ) (parts : List (List ℕ)) (rest : List ℕ) → SpellsParts (next ∷ parts) rest
    → SpellsParts (part ∷ next ∷ parts) (part ++ (32 ∷ rest))
spaced part next parts rest h = record {
  front = part;
  back = 32 ∷ rest;
  first = refl;
  second = record { front = codes " "; back = rest; first = space_gap part next; second = h; whole = refl };
  whole = refl;
}

numbers_spaced : (part : List ℕ) (ns : List ℕ) → SpellsParts (part ∷ map decimal ns) (part ++ numbers_text ns)
numbers_spaced part [] = append-nil part
numbers_spaced part (n ∷ ns) = spaced part (decimal n) (map decimal ns) (decimal n ++ numbers_text ns)
    (numbers_spaced (decimal n) ns)

side_spelled : (side : Side) → SpellsSide side (side_text side)
side_spelled Finite = refl
side_spelled Infinite = refl

-- numbers, polynomials and elements that can be written are spelled by their texts
pub record AreSpelled : Type 1 where
  pub number : (n : ℕ) → n < 1000000000 → SpellsNumber n (decimal n)
  pub terms : (with_y : Bool) (ts : List Term) → IsWritableTerms with_y ts → SpellsTerms with_y ts (terms_text ts)
  pub element : (e : ElemText) → IsWritableElement e → SpellsElement e (element_text e)

module _ (spelled : AreSpelled) where
  numbers_spelled : (ns : List ℕ) → AllByRecursion IsShort ns → AreNumbers ns (map decimal ns)
  numbers_spelled [] h = refl
  numbers_spelled (n ∷ ns) h = (spelled.number n h.0, numbers_spelled ns h.1)

  over_spelled : (over : Over) → IsWritableOver over → SpellsOver over (over_text over)
  over_spelled (At g) h = spelled.terms false g h
  over_spelled Inf h = refl

  abbrev parts_of : Statement → List (List ℕ)
  parts_of (FieldOf p tail) = codes "field" ∷ map decimal (p ∷ numbers_of tail)
  parts_of (CurveOf f) = codes "curve" ∷ terms_text f ∷ []
  parts_of (Mul a b) = codes "mul" ∷ element_text a ∷ element_text b ∷ []
  parts_of (Factor g) = codes "factor" ∷ terms_text g ∷ []
  parts_of (OrderOf side) = codes "order" ∷ side_text side ∷ []
  parts_of (Places over) = codes "places" ∷ over_text over ∷ []
  parts_of (Place name over index) = codes "place" ∷ name ∷ codes "=" ∷ over_text over ∷ decimal index ∷ []
  parts_of Constants = codes "constants" ∷ []
  parts_of Genus = codes "genus" ∷ []

  parts_named : (s : Statement) → IsWritable s → ArePartsOf s (parts_of s)
  parts_named (FieldOf p tail) h = (
    map decimal (p ∷ numbers_of tail),
    refl,
    numbers_spelled (p ∷ numbers_of tail) h.0,
    h.1,
  )
  parts_named (CurveOf f) h = (terms_text f, refl, spelled.terms true f h)
  parts_named (Mul a b) h = (element_text a, element_text b, refl, spelled.element a h.0, spelled.element b h.1)
  parts_named (Factor g) h = (terms_text g, refl, spelled.terms false g h)
  parts_named (OrderOf side) h = (side_text side, refl, side_spelled side)
  parts_named (Places over) h = (over_text over, refl, over_spelled over h)
  parts_named (Place name over index) h = (
    name,
    over_text over,
    decimal index,
    refl,
    (h.0, refl),
    over_spelled over h.1,
    spelled.number index h.2,
  )
  parts_named Constants h = refl
  parts_named Genus h = refl

  parts_joined : (s : Statement) → SpellsParts (parts_of s) (statement_text s)
  parts_joined (FieldOf p tail) = numbers_spaced (codes "field") (p ∷ numbers_of tail)
  parts_joined (CurveOf f) = spaced (codes "curve") (terms_text f) [] (terms_text f) refl
  parts_joined (Mul a b) = spaced (codes "mul") (element_text a) (element_text b ∷ [])
      (element_text a ++ (32 ∷ element_text b)) (spaced (element_text a) (element_text b) [] (element_text b) refl)
  parts_joined (Factor g) = spaced (codes "factor") (terms_text g) [] (terms_text g) refl
  parts_joined (OrderOf side) = spaced (codes "order") (side_text side) [] (side_text side) refl
  parts_joined (Places over) = spaced (codes "places") (over_text over) [] (over_text over) refl
  parts_joined (Place name over index) =
      let number : List ℕ = decimal index in
      let base : List ℕ = over_text over ++ (32 ∷ number) in
      let mark : List ℕ = codes "=" ++ (32 ∷ base) in
      spaced (codes "place") name (codes "=" ∷ over_text over ∷ number ∷ []) (name ++ (32 ∷ mark))
      (spaced name (codes "=") (over_text over ∷ number ∷ []) mark
      (spaced (codes "=") (over_text over) (number ∷ []) base
      (spaced (over_text over) number [] number refl)))
  parts_joined Constants = refl
  parts_joined Genus = refl

  pub text_spells : (s : Statement) → IsWritable s → SpellsLine s (statement_text s)
  text_spells s h = record {
    front = [];
    back = statement_text s;
    first = tt;
    second = record {
      front = statement_text s;
      back = [];
      first = record
          { parts = parts_of s; named = parts_named s h; joined = parts_joined s };
      second = tt;
      whole = sym
          (append-nil (statement_text s));
    };
    whole = refl;
  }

  pub same_text : IsOneLine → (s t : Statement) → IsWritable s → IsWritable t → statement_text s ≡ statement_text t
      → s ≡ t
  same_text one s t h k e = one (statement_text t) s t (subst (SpellsLine s) e (text_spells s h)) (text_spells t k)

  -- the first line of a printed script
  first_text : (s : Statement) (ss : List Statement) → IsWritable s
      → lines_of (script_text (s ∷ ss)) ≡ statement_text s ∷ lines_of (script_text ss)
  first_text s ss h =
      let unfed = unfed_passes (statement_text s) (line_unfed s (statement_text s) (text_spells s h)) in
      let regrouped : script_text (s ∷ ss)
      ≡ statement_text s ++ (10 ∷ script_text ss) = append_assoc (statement_text s) (codes "\n") (script_text ss)
      in
      lines_cut (script_text (s ∷ ss)) (statement_text s) (script_text ss)
      (ap (slice_split is_feed) regrouped ∙ slice_split_at is_feed (statement_text s) 10 (script_text ss) unfed
      refl)

  printed_read : (ss : List Statement) → AllByRecursion IsWritable ss → IsReadAs (lines_of (script_text ss)) ss
  printed_read [] h = refl
  printed_read (s ∷ ss) h = subst (λ (t : List (List ℕ)). IsReadAs t (s ∷ ss)) (sym (first_text s ss h.0))
      (inr (text_spells s h.0, printed_read ss h.1))

  pub printed_script : (ss : List Statement) → AllByRecursion IsWritable ss → IsInOrder ss
      → IsScript (script_text ss) ss
  printed_script ss h order = record { read = printed_read ss h; order = order }
