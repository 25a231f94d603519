-- The spelling of a line, read from left to right.
use Rattle.std.proofs.Common.{◌≡◌, ℕ, true, false, List, [], ◌∷◌, ◌++◌, codes, refl, sym, ap, subst, ◌∙◌, append_assoc, inl, inr}
use Rattle.std.specs.List.{AllByRecursion}
use Rattle.std.proofs.lemmas.Bool.{cases_Bool, both_ways, and_parts, and_from}
use Rattle.std.proofs.lemmas.List.{append-nil}
use Rattle.ff_text.specs.Spelling.{Is, Blanks, SpellsNumber, SpellsTerms, SpellsElement}
use Rattle.ff_text.specs.declared.terms.ElemText.{ElemText}
use Rattle.ff_script.specs.declared.script.Statement.{Statement}
use Rattle.ff_script.specs.declared.script.Statement.TheVariants.{FieldOf, CurveOf, Mul, Factor, OrderOf, Places, Place, Constants, Genus}
use Rattle.ff_script.specs.Grammar.{begins_with_word, ends_with_word, IsGap, SpellsParts, AreNumbers, numbers_of, SpellsSide, SpellsOver, SpellsName, ArePartsOf, SpellsLine}
use Rattle.ff_script.specs.Reading.{behind_blanks, begins_with_blank, IsFront, AreNumbersAt, IsBehind}
use Rattle.ff_script.proofs.Spans.{passed, blanks_passed, gap_no_word, some_gap_no_word, word_goes_on}
use Rattle.ff_script.proofs.Spelled.{Starts, starts_edge, number_solid, terms_solid, side_solid, over_solid, name_solid, element_bracketed}

-- ---- parts from left to right

abbrev pub AreFronts : List (List ℕ) → List ℕ → Type 0
AreFronts [] bytes = bytes ≡ []
AreFronts (part ∷ parts) bytes = (rest : List ℕ) × IsFront (Is part) bytes rest × AreFronts parts rest

pub front_as : (P Q : List ℕ → Type 0) (bytes rest : List ℕ) → ((b : List ℕ) → P b → Q b) → IsFront P bytes rest
    → IsFront Q bytes rest
front_as P Q bytes rest f h = record {
  front = h.front;
  gap = h.gap;
  part = f h.front h.part;
  blanks = h.blanks;
  whole =
      h.whole;
  edge = h.edge;
  apart = h.apart;
}

-- the front is the part that stands there
front_itself : (P : List ℕ → Type 0) (bytes rest : List ℕ) (h : IsFront P bytes rest) → IsFront (Is h.front) bytes rest
front_itself P bytes rest h = record {
  front = h.front;
  gap = h.gap;
  part = refl;
  blanks = h.blanks;
  whole = h.whole;
  edge = h.edge;
  apart = h.apart;
}

word_begins : (a b : List ℕ) → Starts a → begins_with_word (a ++ b) ≡ begins_with_word a
word_begins [] b h = absurd h
word_begins (c ∷ a) b h = refl

parts_begin : (part : List ℕ) (parts : List (List ℕ)) (core : List ℕ) → SpellsParts (part ∷ parts) core
    → (tail : List ℕ) × (core ≡ part ++ tail)
parts_begin part [] core h = ([], h ∙ sym (append-nil part))
parts_begin part (next ∷ parts) core h = (h.back, h.whole ∙ ap (λ (t : List ℕ). t ++ h.back) h.first)

regrouped : (a b c d : List ℕ) → (a ++ (b ++ c)) ++ d ≡ a ++ (b ++ (c ++ d))
regrouped a b c d = simp append_assoc

pub fronts_from : (part : List ℕ) (parts : List (List ℕ)) (core end : List ℕ) → AllByRecursion Starts (part ∷ parts)
    → SpellsParts (part ∷ parts) core → Blanks end → AreFronts (part ∷ parts) (core ++ end)
fronts_from part [] core end starts h blanks = (
  [],
  record {
    front = part;
    gap = end;
    part = refl;
    blanks = blanks;
    whole = ap (λ (t : List ℕ). t ++ end) h ∙ ap (λ (t : List ℕ). part ++ t) (sym (append-nil end));
    edge = refl;
    apart = λ e. gap_no_word end [] blanks refl;
  },
  refl,
)
fronts_from part (next ∷ parts) core end starts h blanks =
    let gap : List ℕ = h.second.front in
    let back : List ℕ = h.second.back in
    let begin = parts_begin next parts back h.second.second in
    let is : back ++ end ≡ next ++ (begin.0 ++ end) = ap (λ (t : List ℕ). t ++ end) begin.1
    ∙ append_assoc next begin.0 end in
    let joined : core ≡ part ++ (gap ++ back) = h.whole ∙ ap (λ (t : List ℕ). t ++ h.back) h.first
    ∙ ap (λ (t : List ℕ). part ++ t) h.second.whole in (
      back ++ end,
      record {
        front = part;
        gap = gap;
        part = refl;
        blanks = h.second.first.blanks;
        whole = ap (λ (t : List ℕ). t ++ end) joined ∙ regrouped part gap back end;
        edge = ap begins_with_blank is ∙ starts_edge next (begin.0 ++ end) starts.1.0;
        apart = λ ends. elim (cases_Bool (begins_with_word next)) [
          | inl begins ↦ some_gap_no_word gap (back ++ end) h.second.first.blanks
              (h.second.first.apart (and_from _ _ ends begins))
          | inr other ↦ gap_no_word gap (back ++ end) h.second.first.blanks
              (ap begins_with_word is ∙ word_begins next (begin.0 ++ end) starts.1.0 ∙ other)
        ];
      },
      fronts_from next parts back end starts.1 h.second.second blanks,
    )

-- parts with gaps between them, and blanks behind
pub record HasParts (parts : List (List ℕ)) (bytes : List ℕ) : Type 0 where
  pub core : List ℕ
  pub end : List ℕ
  pub joined : SpellsParts parts core
  pub blanks : Blanks end
  pub whole : bytes ≡ core ++ end

gap_between : (part next : List ℕ) (bytes rest tail : List ℕ) (f : IsFront (Is part) bytes rest) → rest ≡ next ++ tail
    → IsGap part next f.gap
gap_between part next bytes rest tail f is = record {
  blanks = f.blanks;
  apart = λ both none.
      let each = and_parts (ends_with_word part) (begins_with_word next) both in
      let ended : begins_with_word (f.gap ++ rest) ≡ false = f.apart (ap ends_with_word f.part ∙ each.0) in
      let here : f.gap ++ rest ≡ next ++ tail = ap (λ (t : List ℕ). t ++ rest) none ∙ is in
      both_ways (begins_with_word (next ++ tail)) (ap begins_with_word (sym here) ∙ ended)
      (word_goes_on next tail each.1);
}

pub parts_from : (part : List ℕ) (parts : List (List ℕ)) (bytes : List ℕ) → AreFronts (part ∷ parts) bytes
    → HasParts (part ∷ parts) bytes
parts_from part [] bytes h =
    let f = h.1 in
    record {
      core = part;
      end = f.gap;
      joined = refl;
      blanks = f.blanks;
      whole = f.whole ∙ ap (λ (t : List ℕ). t ++ (f.gap ++ h.0)) f.part ∙ ap (λ (t : List ℕ). part ++ (f.gap ++ t)) h.2
          ∙ ap (λ (t : List ℕ). part ++ t) (append-nil f.gap);
    }
parts_from part (next ∷ parts) bytes h =
    let f = h.1 in
    let more = parts_from next parts h.0 h.2 in
    let begin = parts_begin next parts more.core more.joined in
    let is : h.0 ≡ next ++ (begin.0 ++ more.end) = more.whole ∙ ap (λ (t : List ℕ). t ++ more.end) begin.1
    ∙ append_assoc next begin.0 more.end in
    record {
      core = part ++ (f.gap ++ more.core);
      end = more.end;
      joined = record {
        front = part;
        back = f.gap ++ more.core;
        first = refl;
        second = record {
          front = f.gap;
          back = more.core;
          first = gap_between part next bytes h.0 (begin.0 ++ more.end)
              f is;
          second = more.joined;
          whole = refl;
        };
        whole = refl;
      };
      blanks = more.blanks;
      whole = f.whole ∙ ap (λ (t : List ℕ). t ++ (f.gap ++ h.0)) f.part
          ∙ ap (λ (t : List ℕ). part ++ (f.gap ++ t)) more.whole ∙ sym (regrouped part f.gap more.core more.end);
    }

-- ---- the parts of a statement

-- the word of a statement, and what stands behind it
pub record IsStatementAt (s : Statement) (bytes : List ℕ) : Type 0 where
  pub word : List ℕ
  pub rest : List ℕ
  pub front : IsFront (Is word) bytes rest
  pub behind : IsBehind word s rest

numbers_start : (ns : List ℕ) (parts : List (List ℕ)) → AreNumbers ns parts → AllByRecursion Starts parts
numbers_start [] parts h = subst (AllByRecursion Starts) (sym h) tt
numbers_start (n ∷ ns) [] h = absurd h
numbers_start (n ∷ ns) (part ∷ parts) h = ((number_solid n part h.0).starts, numbers_start ns parts h.1)

element_starts : (e : ElemText) (bytes : List ℕ) → SpellsElement e bytes → Starts bytes
element_starts e bytes h = subst Starts (sym (element_bracketed e bytes h).whole) refl

pub parts_start : (s : Statement) (parts : List (List ℕ)) → ArePartsOf s parts → AllByRecursion Starts parts
parts_start (FieldOf p tail) parts h = subst (AllByRecursion Starts) (sym h.1)
    (refl, numbers_start (p ∷ numbers_of tail) h.0 h.2)
parts_start (CurveOf f) parts h = subst (AllByRecursion Starts) (sym h.1)
    (refl, ((terms_solid true f h.0 h.2).starts, tt))
parts_start (Mul a b) parts h = subst (AllByRecursion Starts) (sym h.2)
    (refl, (element_starts a h.0 h.3, (element_starts b h.1 h.4, tt)))
parts_start (Factor g) parts h = subst (AllByRecursion Starts) (sym h.1)
    (refl, ((terms_solid false g h.0 h.2).starts, tt))
parts_start (OrderOf side) parts h = subst (AllByRecursion Starts) (sym h.1)
    (refl, ((side_solid side h.0 h.2).starts, tt))
parts_start (Places over) parts h = subst (AllByRecursion Starts) (sym h.1)
    (refl, ((over_solid over h.0 h.2).starts, tt))
parts_start (Place name over index) parts h = subst (AllByRecursion Starts) (sym h.3) (
  refl,
  (
    (name_solid name h.0 h.4).starts,
    (refl, ((over_solid over h.1 h.5).starts, ((number_solid index h.2 h.6).starts, tt))),
  ),
)
parts_start Constants parts h = subst (AllByRecursion Starts) (sym h) (refl, tt)
parts_start Genus parts h = subst (AllByRecursion Starts) (sym h) (refl, tt)

no_parts : (s : Statement) → ArePartsOf s [] → ⊥
no_parts (FieldOf p tail) h = let e = h.1 in cc
no_parts (CurveOf f) h = let e = h.1 in cc
no_parts (Mul a b) h = let e = h.2 in cc
no_parts (Factor g) h = let e = h.1 in cc
no_parts (OrderOf side) h = let e = h.1 in cc
no_parts (Places over) h = let e = h.1 in cc
no_parts (Place name over index) h = let e = h.3 in cc
no_parts Constants h = let e = h in cc
no_parts Genus h = let e = h in cc

numbers_at : (ns : List ℕ) (parts : List (List ℕ)) (bytes : List ℕ) → AreNumbers ns parts → AreFronts parts bytes
    → AreNumbersAt ns bytes
numbers_at [] parts bytes h fronts = subst (λ (p : List (List ℕ)). AreFronts p bytes) h fronts
numbers_at (n ∷ ns) [] bytes h fronts = absurd h
numbers_at (n ∷ ns) (part ∷ parts) bytes h fronts = (
  fronts.0,
  front_as (Is part) (SpellsNumber n) bytes fronts.0 (λ b e. subst (SpellsNumber n) (sym e) h.0) fronts.1,
  numbers_at ns parts fronts.0 h.1 fronts.2,
)

numbers_parts : (ns : List ℕ) (bytes : List ℕ) → AreNumbersAt ns bytes
    → (parts : List (List ℕ)) × AreNumbers ns parts × AreFronts parts bytes
numbers_parts [] bytes h = ([], refl, h)
numbers_parts (n ∷ ns) bytes h =
    let more = numbers_parts ns h.0 h.2 in
    (h.1.front ∷ more.0, (h.1.part, more.1), (h.0, front_itself (SpellsNumber n) bytes h.0 h.1, more.2))

-- the last part stands up to the end
last_at : (Part : List ℕ → Type 0) (part bytes : List ℕ) → Part part → AreFronts (part ∷ []) bytes
    → IsFront Part bytes []
last_at Part part bytes h fronts = subst (IsFront Part bytes) fronts.2
    (front_as (Is part) Part bytes fronts.0 (λ b e. subst Part (sym e) h) fronts.1)

last_parts : (Part : List ℕ → Type 0) (bytes : List ℕ) → IsFront Part bytes []
    → (part : List ℕ) × Part part × AreFronts (part ∷ []) bytes
last_parts Part bytes h = (h.front, h.part, ([], front_itself Part bytes [] h, refl))

pub statement_at : (s : Statement) (parts : List (List ℕ)) (bytes : List ℕ) → ArePartsOf s parts → AreFronts parts bytes
    → IsStatementAt s bytes
statement_at (FieldOf p tail) parts bytes h fronts =
    let at = subst (λ (p : List (List ℕ)). AreFronts p bytes) h.1 fronts in
    record {
      word = codes "field";
      rest = at.0;
      front = at.1;
      behind =
          (refl, h.3, numbers_at (p ∷ numbers_of tail) h.0 at.0 h.2 at.2);
    }
statement_at (CurveOf f) parts bytes h fronts =
    let at = subst (λ (p : List (List ℕ)). AreFronts p bytes) h.1 fronts in
    record {
      word = codes "curve";
      rest = at.0;
      front = at.1;
      behind =
          (refl, last_at (SpellsTerms true f) h.0 at.0 h.2 at.2);
    }
statement_at (Mul a b) parts bytes h fronts =
    let at = subst (λ (p : List (List ℕ)). AreFronts p bytes) h.2 fronts in
    let left : IsFront (SpellsElement a) at.0 at.2.0 = front_as (Is h.0) (SpellsElement a) at.0 at.2.0
    (λ c e. subst (SpellsElement a) (sym e) h.3) at.2.1 in
    let right : IsFront (SpellsElement b) at.2.0 at.2.2.0 = front_as (Is h.1) (SpellsElement b) at.2.0 at.2.2.0
    (λ c e. subst (SpellsElement b) (sym e) h.4) at.2.2.1 in
    record {
      word = codes "mul";
      rest = at.0;
      front = at.1;
      behind =
          (refl, (at.2.0, left, subst (IsFront (SpellsElement b) at.2.0) at.2.2.2 right));
    }
statement_at (Factor g) parts bytes h fronts =
    let at = subst (λ (p : List (List ℕ)). AreFronts p bytes) h.1 fronts in
    record {
      word = codes "factor";
      rest = at.0;
      front = at.1;
      behind =
          (refl, last_at (SpellsTerms false g) h.0 at.0 h.2 at.2);
    }
statement_at (OrderOf side) parts bytes h fronts =
    let at = subst (λ (p : List (List ℕ)). AreFronts p bytes) h.1 fronts in
    record {
      word = codes "order";
      rest = at.0;
      front = at.1;
      behind =
          (refl, last_at (SpellsSide side) h.0 at.0 h.2 at.2);
    }
statement_at (Places over) parts bytes h fronts =
    let at = subst (λ (p : List (List ℕ)). AreFronts p bytes) h.1 fronts in
    record {
      word = codes "places";
      rest = at.0;
      front = at.1;
      behind =
          (refl, last_at (SpellsOver over) h.0 at.0 h.2 at.2);
    }
statement_at (Place name over index) parts bytes h fronts =
    let at = subst (λ (p : List (List ℕ)). AreFronts p bytes) h.3 fronts in
    let mark = at.2.2 in
    let base = mark.2 in
    let named : IsFront (SpellsName name) at.0 at.2.0 = front_as (Is h.0) (SpellsName name) at.0 at.2.0
    (λ c e. subst (SpellsName name) (sym e) h.4) at.2.1 in
    let lies : IsFront (SpellsOver over) mark.0 base.0 = front_as (Is h.1) (SpellsOver over) mark.0 base.0
    (λ c e. subst (SpellsOver over) (sym e) h.5) base.1 in
    record {
      word = codes "place";
      rest = at.0;
      front = at.1;
      behind = (
        refl,
        (mark.0, (at.2.0, named, mark.1), (base.0, lies, last_at (SpellsNumber index) h.2 base.0 h.6 base.2)),
      );
    }
statement_at Constants parts bytes h fronts =
    let at = subst (λ (p : List (List ℕ)). AreFronts p bytes) h fronts in
    record { word = codes "constants"; rest = at.0; front = at.1; behind = (refl, at.2) }
statement_at Genus parts bytes h fronts =
    let at = subst (λ (p : List (List ℕ)). AreFronts p bytes) h fronts in
    record { word = codes "genus"; rest = at.0; front = at.1; behind = (refl, at.2) }

abbrev IsNamed : Statement → List ℕ → Type 0
IsNamed s bytes = (parts : List (List ℕ)) × ArePartsOf s parts × AreFronts parts bytes

pub statement_parts : (s : Statement) (bytes : List ℕ) → IsStatementAt s bytes → IsNamed s bytes
statement_parts (FieldOf p tail) bytes h =
    let numbers = numbers_parts (p ∷ numbers_of tail) h.rest h.behind.2 in (
      codes "field" ∷ numbers.0,
      (numbers.0, refl, numbers.1, h.behind.1),
      (h.rest, subst (λ (w : List ℕ). IsFront (Is w) bytes h.rest) h.behind.0 h.front, numbers.2),
    )
statement_parts (CurveOf f) bytes h =
    let last = last_parts (SpellsTerms true f) h.rest h.behind.1 in (
      codes "curve" ∷ last.0 ∷ [],
      (last.0, refl, last.1),
      (h.rest, subst (λ (w : List ℕ). IsFront (Is w) bytes h.rest) h.behind.0 h.front, last.2),
    )
statement_parts (Mul a b) bytes h =
    let left = h.behind.1.1 in
    let right = h.behind.1.2 in (
      codes "mul" ∷ left.front ∷ right.front ∷ [],
      (left.front, right.front, refl, left.part, right.part),
      (
        h.rest,
        subst (λ (w : List ℕ). IsFront (Is w) bytes h.rest) h.behind.0 h.front,
        (
          h.behind.1.0,
          front_itself (SpellsElement a) h.rest h.behind.1.0 left,
          ([], front_itself (SpellsElement b) h.behind.1.0 [] right, refl),
        ),
      ),
    )
statement_parts (Factor g) bytes h =
    let last = last_parts (SpellsTerms false g) h.rest h.behind.1 in (
      codes "factor" ∷ last.0 ∷ [],
      (last.0, refl, last.1),
      (h.rest, subst (λ (w : List ℕ). IsFront (Is w) bytes h.rest) h.behind.0 h.front, last.2),
    )
statement_parts (OrderOf side) bytes h =
    let last = last_parts (SpellsSide side) h.rest h.behind.1 in (
      codes "order" ∷ last.0 ∷ [],
      (last.0, refl, last.1),
      (h.rest, subst (λ (w : List ℕ). IsFront (Is w) bytes h.rest) h.behind.0 h.front, last.2),
    )
statement_parts (Places over) bytes h =
    let last = last_parts (SpellsOver over) h.rest h.behind.1 in (
      codes "places" ∷ last.0 ∷ [],
      (last.0, refl, last.1),
      (h.rest, subst (λ (w : List ℕ). IsFront (Is w) bytes h.rest) h.behind.0 h.front, last.2),
    )
statement_parts (Place name over index) bytes h =
    let rest : List ℕ = h.behind.1.0 in
    let named = h.behind.1.1 in
    let at = h.behind.1.2 in
    let number = last_parts (SpellsNumber index) at.0 at.2 in (
      codes "place" ∷ named.1.front ∷ codes "=" ∷ at.1.front ∷ number.0 ∷ [],
      (named.1.front, at.1.front, number.0, refl, named.1.part, at.1.part, number.1),
      (
        h.rest,
        subst (λ (w : List ℕ). IsFront (Is w) bytes h.rest) h.behind.0 h.front,
        (
          named.0,
          front_itself (SpellsName name) h.rest named.0 named.1,
          (rest, named.2, (at.0, front_itself (SpellsOver over) rest at.0 at.1, number.2)),
        ),
      ),
    )
statement_parts Constants bytes h = (
  codes "constants" ∷ [],
  refl,
  (h.rest, subst (λ (w : List ℕ). IsFront (Is w) bytes h.rest) h.behind.0 h.front, h.behind.1),
)
statement_parts Genus bytes h = (
  codes "genus" ∷ [],
  refl,
  (h.rest, subst (λ (w : List ℕ). IsFront (Is w) bytes h.rest) h.behind.0 h.front, h.behind.1),
)

-- ---- lines

core_at : (s : Statement) (parts : List (List ℕ)) (core end : List ℕ) → ArePartsOf s parts → SpellsParts parts core
    → Blanks end → IsStatementAt s (core ++ end) × (begins_with_blank (core ++ end) ≡ false)
core_at s [] core end named joined blanks = absurd (no_parts s named)
core_at s (part ∷ parts) core end named joined blanks =
    let starts = parts_start s (part ∷ parts) named in
    let begin = parts_begin part parts core joined in (
      statement_at s (part ∷ parts) (core ++ end) named (fronts_from part parts core end starts joined blanks),
      ap begins_with_blank (ap (λ (t : List ℕ). t ++ end) begin.1 ∙ append_assoc part begin.0 end)
          ∙ starts_edge part (begin.0 ++ end) starts.0,
    )

-- a line that spells a statement has it behind its first blanks
pub line_at : (s : Statement) (line : List ℕ) → SpellsLine s line → IsStatementAt s (behind_blanks line)
line_at s line h =
    let core : List ℕ = h.second.front in
    let end : List ℕ = h.second.back in
    let at = core_at s h.second.first.parts core end h.second.first.named h.second.first.joined h.second.second in
    let whole : line ≡ h.front ++ (core ++ end) = h.whole ∙ ap (λ (t : List ℕ). h.front ++ t) h.second.whole in
    subst (IsStatementAt s) (sym (ap behind_blanks whole ∙ blanks_passed h.front (core ++ end) h.first at.1)) at.0

parts_of_line : (s : Statement) (parts : List (List ℕ)) (bytes : List ℕ) → ArePartsOf s parts → AreFronts parts bytes
    → HasParts parts bytes
parts_of_line s [] bytes named fronts = absurd (no_parts s named)
parts_of_line s (part ∷ parts) bytes named fronts = parts_from part parts bytes fronts

pub line_from : (s : Statement) (line : List ℕ) → IsStatementAt s (behind_blanks line) → SpellsLine s line
line_from s line h =
    let p = passed line in
    let n = statement_parts s (behind_blanks line) h in
    let parts = parts_of_line s n.0 (behind_blanks line) n.1 n.2 in
    record {
      front = p.gap;
      back = behind_blanks line;
      first = p.blanks;
      second = record {
        front = parts.core;
        back = parts.end;
        first = record
            { parts = n.0; named = n.1; joined = parts.joined };
        second = parts.blanks;
        whole = parts.whole;
      };
      whole = p.whole;
    }
