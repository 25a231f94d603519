-- What stands behind the word of a statement is read in one way.
use Rattle.std.proofs.Common.{◌≡◌, ◌≢◌, ℕ, suc, Bool, true, false, ◌+◌, List, [], ◌∷◌, ◌++◌, length, codes, Option, Some, None, Result, Ok, Err, refl, sym, ap, subst, ◌∙◌, arith}
use Rattle.std.specs.Prelude.{IfOk}
use Rattle.std.specs.declared.alloc.AllocError.{AllocError}
use Rattle.ff_text.specs.Spelling.{Is, SpellsNumber, SpellsTerms, SpellsElement}
use Rattle.ff_text.specs.Reading.{IsNoSpelling}
use Rattle.ff_text.specs.declared.terms.Term.{Term}
use Rattle.ff_text.specs.declared.terms.ElemText.{ElemText}
use Rattle.function_field.specs.declared.side.Side.{Side}
use Rattle.function_field.specs.declared.side.Side.TheVariants.{Finite, Infinite}
use Rattle.ff_script.specs.declared.script.Modulus.{Modulus}
use Rattle.ff_script.specs.declared.script.Statement.{Statement}
use Rattle.ff_script.specs.declared.script.Statement.TheVariants.{Mul}
use Rattle.ff_script.specs.Grammar.{ends_with_word, numbers_of, IsWhole, SpellsLine}
use Rattle.ff_script.specs.Reading.{IsReading, behind_blanks, IsFront, AreNumbersAt, IsModulusAt, AreTermsAt, IsSideAt, IsElementFront, IsBehind}
use Rattle.ff_script.proofs.Spans.{AllWord, blanks_same, words_same}
use Rattle.ff_script.proofs.ByKind.{Kind, FieldKind, CurveKind, MulKind, FactorKind, OrderKind, PlacesKind, PlaceKind, ConstantsKind, GenusKind, word_of, IsHeldAt, kind_of, none_of_kind, word_of_behind, IsWord, word_of_statement}
use Rattle.ff_script.proofs.Fronts.{IsStatementAt, line_at, line_from}
use Rattle.ff_script.proofs.Steps.{no_front, number_same, numbers_same}
use Rattle.ff_script.proofs.Elements.{begins_element, fronts_one}

-- ---- polynomials

-- where no polynomial is read, none is there
pub no_terms_here : (with_y : Bool) (bytes : List ℕ) → IsNoSpelling (SpellsTerms with_y) bytes 0 → (f : List Term)
    → AreTermsAt with_y f bytes → ⊥
no_terms_here with_y bytes none f k = no_front (SpellsTerms with_y) bytes none f [] k

pub no_curve_here : (bytes : List ℕ) → ((f : List Term) → AreTermsAt true f bytes → ⊥) → (s : Statement)
    → IsBehind (codes "curve") s bytes → ⊥
no_curve_here bytes none s h = none_of_kind CurveKind bytes none s h

pub no_factor_here : (bytes : List ℕ) → ((g : List Term) → AreTermsAt false g bytes → ⊥) → (s : Statement)
    → IsBehind (codes "factor") s bytes → ⊥
no_factor_here bytes none s h = none_of_kind FactorKind bytes none s h

-- ---- sides

pub no_side_here : (bytes : List ℕ) → (IsFront (Is (codes "finite")) bytes [] → ⊥)
    → (IsFront (Is (codes "infinite")) bytes [] → ⊥) → (side : Side) → IsSideAt side bytes → ⊥
no_side_here bytes no_finite no_infinite Finite h = no_finite h
no_side_here bytes no_finite no_infinite Infinite h = no_infinite h

pub no_order_here : (bytes : List ℕ) → ((side : Side) → IsSideAt side bytes → ⊥) → (s : Statement)
    → IsBehind (codes "order") s bytes → ⊥
no_order_here bytes none s h = none_of_kind OrderKind bytes none s h

-- ---- words alone

pub no_constants_here : (bytes : List ℕ) → bytes ≢ [] → (s : Statement) → IsBehind (codes "constants") s bytes → ⊥
no_constants_here bytes some s h = none_of_kind ConstantsKind bytes (λ held none. some none) s h

pub no_genus_here : (bytes : List ℕ) → bytes ≢ [] → (s : Statement) → IsBehind (codes "genus") s bytes → ⊥
no_genus_here bytes some s h = none_of_kind GenusKind bytes (λ held none. some none) s h

-- ---- numbers behind `field`

pub no_number_here : (bytes : List ℕ) → ((n : ℕ) (rest : List ℕ) → IsFront (SpellsNumber n) bytes rest → ⊥)
    → (s : Statement) → IsBehind (codes "field") s bytes → ⊥
no_number_here bytes none s h = none_of_kind FieldKind bytes (λ held k. none held.0 k.1.0 k.1.1) s h

pub no_modulus_here : (bytes : List ℕ) → ((n : ℕ) (rest : List ℕ) → IsFront (SpellsNumber n) bytes rest → ⊥)
    → (m : Modulus) → IsModulusAt m bytes → ⊥
no_modulus_here bytes none m h = none m.m h.1.0 h.1.1

pub no_codes_here : (bytes : List ℕ) (n : ℕ) (rest : List ℕ) → IsFront (SpellsNumber n) bytes rest
    → ((ns : List ℕ) → AreNumbersAt ns rest → ⊥) → (m : Modulus) → IsModulusAt m bytes → ⊥
no_codes_here bytes n rest f none m h =
    let both = number_same bytes n m.m rest h.1.0 f h.1.1 in
    none m.codes (subst (AreNumbersAt m.codes) (sym both.1) h.1.2)

pub other_count : (bytes : List ℕ) (n : ℕ) (rest : List ℕ) (ns : List ℕ) → IsFront (SpellsNumber n) bytes rest
    → AreNumbersAt ns rest → (length ns ≡ n + 1 → ⊥) → (m : Modulus) → IsModulusAt m bytes → ⊥
other_count bytes n rest ns f are other m h =
    let both = number_same bytes n m.m rest h.1.0 f h.1.1 in
    let same : ns ≡ m.codes = numbers_same ns m.codes rest are (subst (AreNumbersAt m.codes) (sym both.1) h.1.2) in
    let count : length ns ≡ length m.codes = ap length same in
    let degree : n ≡ m.m = both.0 in
    let whole : length m.codes ≡ suc m.m = h.0 in
    other (omega arith)

pub no_tail_here : (bytes : List ℕ) (n : ℕ) (rest : List ℕ) → IsFront (SpellsNumber n) bytes rest → rest ≢ []
    → ((m : Modulus) → IsModulusAt m rest → ⊥) → (s : Statement) → IsBehind (codes "field") s bytes → ⊥
no_tail_here bytes n rest f some none s h = none_of_kind FieldKind bytes (λ held k. go held.0 held.1 k.0 k.1) s h
  where
    go : (p : ℕ) (tail : Option Modulus) → IsWhole tail → AreNumbersAt (p ∷ numbers_of tail) bytes → ⊥
    go p None whole k = some ((number_same bytes n p rest k.0 f k.1).1 ∙ k.2)
    go p (Some m) whole k = none m (
      whole,
      subst (AreNumbersAt (numbers_of (Some m)))
          (sym (number_same bytes n p rest k.0 f k.1).1) k.2,
    )

-- ---- elements behind `mul`

-- the first element of a product, with the second behind it
first_front : (a b : ElemText) (bytes rest : List ℕ) → IsFront (SpellsElement a) bytes rest
    → IsFront (SpellsElement b) rest [] → IsElementFront a bytes rest
first_front a b bytes rest f g = record { front = f; behind = begins_element b rest [] g }

last_front : (b : ElemText) (rest : List ℕ) → IsFront (SpellsElement b) rest [] → IsElementFront b rest []
last_front b rest g = record { front = g; behind = refl }

-- where the first element was read, the second stands behind it
second_front : (bytes : List ℕ) (e : ElemText) (rest : List ℕ) → IsElementFront e bytes rest
    → (held : ElemText × ElemText) → IsHeldAt MulKind held bytes → IsElementFront held.1 rest []
second_front bytes e rest here held k =
    let same : k.0 ≡ rest = (fronts_one bytes held.0 e k.0 rest (first_front held.0 held.1 bytes k.0 k.1 k.2) here).1 in
    subst (λ (t : List ℕ). IsElementFront held.1 t []) same (last_front held.1 k.0 k.2)

pub no_first_element : (bytes : List ℕ) → ((e : ElemText) (rest : List ℕ) → IsElementFront e bytes rest → ⊥)
    → (s : Statement) → IsBehind (codes "mul") s bytes → ⊥
no_first_element bytes none s h = none_of_kind MulKind bytes
    (λ held k. none held.0 k.0 (first_front held.0 held.1 bytes k.0 k.1 k.2)) s h

pub no_second_element : (bytes : List ℕ) (e : ElemText) (rest : List ℕ) → IsElementFront e bytes rest
    → ((d : ElemText) (more : List ℕ) → IsElementFront d rest more → ⊥) → (s : Statement)
    → IsBehind (codes "mul") s bytes → ⊥
no_second_element bytes e rest here none s h = none_of_kind MulKind bytes
    (λ held k. none held.1 [] (second_front bytes e rest here held k)) s h

pub more_behind : (bytes : List ℕ) (e : ElemText) (rest : List ℕ) (d : ElemText) (more : List ℕ)
    → IsElementFront e bytes rest → IsElementFront d rest more → more ≢ [] → (s : Statement)
    → IsBehind (codes "mul") s bytes → ⊥
more_behind bytes e rest d more here there some s h =
    none_of_kind MulKind bytes (λ held k. some
    (fronts_one rest d held.1 more [] there (second_front bytes e rest here held k)).1) s h

pub two_elements : (bytes : List ℕ) (a : ElemText) (rest : List ℕ) (b : ElemText) (more : List ℕ)
    → IsElementFront a bytes rest → IsElementFront b rest more → more ≡ [] → IsBehind (codes "mul") (Mul a b) bytes
two_elements bytes a rest b more first second none =
    (refl, (rest, first.front, subst (IsFront (SpellsElement b) rest) none second.front))

-- ---- words

pub word_same : (v w bytes r s : List ℕ) → IsWord v → IsWord w → IsFront (Is v) bytes r → IsFront (Is w) bytes s
    → (v ≡ w) × (r ≡ s)
word_same v w bytes r s is_v is_w f g =
    let fits_f : f.front ≡ v = f.part in
    let fits_g : g.front ≡ w = g.part in
    let both = words_same f.front g.front (f.gap ++ r) (g.gap ++ s) (subst AllWord (sym fits_f) is_v.all)
    (subst AllWord (sym fits_g) is_w.all) (f.apart (ap ends_with_word fits_f ∙ is_v.ends))
    (g.apart (ap ends_with_word fits_g ∙ is_w.ends)) (sym f.whole ∙ g.whole) in
    (sym fits_f ∙ both.0 ∙ fits_g, blanks_same f.gap g.gap r s f.blanks g.blanks f.edge g.edge both.1)

pub statement_behind : (word bytes rest : List ℕ) → IsWord word → IsFront (Is word) bytes rest → (s : Statement)
    → IsStatementAt s bytes → IsBehind word s rest
statement_behind word bytes rest is f s h =
    let both = word_same h.word word bytes h.rest rest (word_of_statement h.word s h.rest h.behind) is h.front f in
    subst (λ (w : List ℕ). IsBehind w s rest) both.0 (subst (IsBehind h.word s) both.1 h.behind)

-- what is read behind the word is the reading of the line
pub reading_of_line : (word line rest : List ℕ) → IsWord word → IsFront (Is word) (behind_blanks line) rest
    → (o : Option Statement) → IsReading (IsBehind word) rest o → IsReading SpellsLine line o
reading_of_line word line rest is f None none = λ s h. none s
    (statement_behind word (behind_blanks line) rest is f s (line_at s line h))
reading_of_line word line rest is f (Some s) here = line_from s line
    (record { word = word; rest = rest; front = f; behind = here })

-- the same, unless memory ran out
pub read_of_line : (word line bytes rest : List ℕ) → bytes ≡ behind_blanks line → IsWord word
    → IsFront (Is word) bytes rest → (r : Result (Option Statement) AllocError)
    → IfOk r (IsReading (IsBehind word) rest) → IfOk r (IsReading SpellsLine line)
read_of_line word line bytes rest e is f (Ok o) h = reading_of_line word line rest is
    (subst (λ (t : List ℕ). IsFront (Is word) t rest) e f) o h
read_of_line word line bytes rest e is f (Err fault) h = tt

-- the word isn't at the front
abbrev pub IsNoWord : List ℕ → List ℕ → Type 0
IsNoWord word bytes = (rest : List ℕ) → IsFront (Is word) bytes rest → ⊥

pub no_statement : (line bytes : List ℕ) → bytes ≡ behind_blanks line → ((k : Kind) → IsNoWord (word_of k) bytes)
    → (s : Statement) → SpellsLine s line → ⊥
no_statement line bytes e none s h =
    let at = subst (IsStatementAt s) (sym e) (line_at s line h) in
    none (kind_of s) at.rest (subst (λ (w : List ℕ). IsFront (Is w) bytes at.rest)
    (word_of_behind at.word s at.rest at.behind) at.front)

-- there is one kind for each word that was looked for
pub no_kind : (bytes : List ℕ) → IsNoWord (codes "field") bytes → IsNoWord (codes "curve") bytes
    → IsNoWord (codes "mul") bytes → IsNoWord (codes "factor") bytes → IsNoWord (codes "places") bytes
    → IsNoWord (codes "place") bytes → IsNoWord (codes "order") bytes → IsNoWord (codes "constants") bytes
    → IsNoWord (codes "genus") bytes → (k : Kind) → IsNoWord (word_of k) bytes
no_kind bytes no_field no_curve no_mul no_factor no_places no_place no_order no_constants no_genus FieldKind = no_field
no_kind bytes no_field no_curve no_mul no_factor no_places no_place no_order no_constants no_genus CurveKind = no_curve
no_kind bytes no_field no_curve no_mul no_factor no_places no_place no_order no_constants no_genus MulKind = no_mul
no_kind bytes no_field no_curve no_mul no_factor no_places no_place no_order no_constants no_genus FactorKind = no_factor
no_kind bytes no_field no_curve no_mul no_factor no_places no_place no_order no_constants no_genus OrderKind = no_order
no_kind bytes no_field no_curve no_mul no_factor no_places no_place no_order no_constants no_genus PlacesKind = no_places
no_kind bytes no_field no_curve no_mul no_factor no_places no_place no_order no_constants no_genus PlaceKind = no_place
no_kind bytes no_field no_curve no_mul no_factor no_places no_place no_order no_constants no_genus ConstantsKind = no_constants
no_kind bytes no_field no_curve no_mul no_factor no_places no_place no_order no_constants no_genus GenusKind = no_genus
