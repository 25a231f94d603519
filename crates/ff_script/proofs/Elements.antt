-- Elements at the front of a line: there is one at most that the end or a further element stands behind.
use Rattle.std.proofs.Common.{◌≡◌, ℕ, Bool, true, false, eqb, ◌≤◌, List, [], ◌∷◌, ◌++◌, length, drop, refl, sym, ap, subst, ◌∙◌, append_assoc, arith}
use Rattle.std.specs.Prelude.{IsTrue}
use Rattle.std.specs.List.{slice_range}
use Rattle.std.proofs.lemmas.Bool.{both_ways, eqb-true}
use Rattle.std.proofs.lemmas.List.{append-nil, length-append}
use Rattle.ff_text.specs.Spelling.{is_blank, Blanks, SpellsElement}
use Rattle.ff_text.specs.Reading.{IsLongestSpelling, IsNoSpelling}
use Rattle.ff_text.specs.declared.terms.ElemText.{ElemText}
use Rattle.ff_script.specs.Grammar.{is_word_byte, begins_with_word}
use Rattle.ff_script.specs.Reading.{behind_blanks, IsFront, is_behind_element, IsElementFront}
use Rattle.ff_script.proofs.Spans.{head_same, tail_same, all_append, all_back, passed, blanks_passed, gap_no_word, IsStopped, stopped_same, stopped_within}
use Rattle.ff_script.proofs.Spelled.{IsInside, AreInside, blanks_inside, element_bracketed}
use Rattle.ff_script.proofs.Steps.{front_here, no_front, front_short, split_at, range_length, shorter_front}

-- ---- what may stand behind an element

-- a byte inside is no opening bracket
no_bracket : (b c : ℕ) → IsInside b → b ≡ c → eqb c 91 ≡ true → ⊥
no_bracket b c h e is = both_ways (eqb b 91) h.0 (ap (λ (n : ℕ). eqb n 91) e ∙ is)

-- up to an opening bracket or the end there is one text
inside_same : (a b r s : List ℕ) → AreInside a → AreInside b → IsTrue (is_behind_element r)
    → IsTrue (is_behind_element s) → a ++ r ≡ b ++ s → (a ≡ b) × (r ≡ s)
inside_same [] [] r s h k x y e = (refl, e)
inside_same [] (d ∷ b) [] s h k x y e = absurd cc
inside_same [] (d ∷ b) (c ∷ r) s h k x y e = absurd (no_bracket d c k.0 (sym (head_same c d r (b ++ s) e)) x)
inside_same (c ∷ a) [] r [] h k x y e = absurd cc
inside_same (c ∷ a) [] r (d ∷ s) h k x y e = absurd (no_bracket c d h.0 (head_same c d (a ++ r) s e) y)
inside_same (c ∷ a) (d ∷ b) r s h k x y e =
    let more = inside_same a b r s h.1 k.1 x y (tail_same c d (a ++ r) (b ++ s) e) in
    let head : c ≡ d = head_same c d (a ++ r) (b ++ s) e in
    let tail : a ≡ b = more.0 in
    (cc, more.1)

-- a text inside that stands where blanks do, and then the end or a bracket, is blank
inside_blank : (c x gap rest : List ℕ) → AreInside c → Blanks gap → IsTrue (is_behind_element rest)
    → gap ++ rest ≡ c ++ x → Blanks c
inside_blank [] x gap rest h blanks behind e = tt
inside_blank (d ∷ c) x [] [] h blanks behind e = absurd cc
inside_blank (d ∷ c) x [] (b ∷ rest) h blanks behind e = absurd
    (no_bracket d b h.0 (sym (head_same b d rest (c ++ x) e)) behind)
inside_blank (d ∷ c) x (g ∷ gap) rest h blanks behind e =
    let head : g ≡ d = head_same g d (gap ++ rest) (c ++ x) e in (
      subst (λ (n : ℕ). IsTrue (is_blank n)) head blanks.0,
      inside_blank c x gap rest h.1 blanks.1 behind
          (tail_same g d (gap ++ rest) (c ++ x) e),
    )

behind_no_word : (rest : List ℕ) → IsTrue (is_behind_element rest) → begins_with_word rest ≡ false
behind_no_word [] h = refl
behind_no_word (b ∷ rest) h = subst (λ (n : ℕ). is_word_byte n ≡ false) (sym (eqb-true b 91 h)) refl

-- what begins with an element may stand behind one
pub begins_element : (e : ElemText) (bytes rest : List ℕ) → IsFront (SpellsElement e) bytes rest
    → IsTrue (is_behind_element bytes)
begins_element e bytes rest f =
    let b = element_bracketed e f.front f.part in
    subst (λ (t : List ℕ). IsTrue (is_behind_element t))
    (sym (f.whole ∙ ap (λ (t : List ℕ). t ++ (f.gap ++ rest)) b.whole)) refl

-- ---- one element

pub fronts_one : (bytes : List ℕ) (d e : ElemText) (r s : List ℕ) (f : IsElementFront d bytes r)
    (g : IsElementFront e bytes s) → (f.front.front ≡ g.front.front) × (r ≡ s)
fronts_one bytes d e r s f g =
    let a = element_bracketed d f.front.front f.front.part in
    let b = element_bracketed e g.front.front g.front.part in
    let left = cut_behind f.front.front a.body f.front.gap r bytes f.front.whole a.whole in
    let right = cut_behind g.front.front b.body g.front.gap s bytes g.front.whole b.whole in
    let inside_a : AreInside (a.body ++ f.front.gap) = all_append IsInside a.body f.front.gap a.ending.inside
    (blanks_inside f.front.gap f.front.blanks) in
    let inside_b : AreInside (b.body ++ g.front.gap) = all_append IsInside b.body g.front.gap b.ending.inside
    (blanks_inside g.front.gap g.front.blanks) in
    let both = inside_same (a.body ++ f.front.gap) (b.body ++ g.front.gap) r s inside_a inside_b f.behind g.behind
    (tail_same 91 91 ((a.body ++ f.front.gap) ++ r) ((b.body ++ g.front.gap) ++ s) (sym left ∙ right)) in
    let body : a.body ≡ b.body = stopped_same a.body b.body f.front.gap g.front.gap a.ending.stops b.ending.stops
    f.front.blanks g.front.blanks both.0 in
    (a.whole ∙ ap (λ (t : List ℕ). 91 ∷ t) body ∙ sym b.whole, both.1)
  where
    cut_behind : (front body gap rest bytes : List ℕ) → bytes ≡ front ++ (gap ++ rest) → front ≡ 91 ∷ body
        → bytes ≡ 91 ∷ ((body ++ gap) ++ rest)
    cut_behind front body gap rest bytes e is = e ∙ ap (λ (t : List ℕ). t ++ (gap ++ rest)) is
        ∙ ap (λ (t : List ℕ). 91 ∷ t) (sym (append_assoc body gap rest))

-- ---- what the reader says

-- a stopped text is no shorter one with blanks behind it
no_blanks_more : (a b c : List ℕ) → IsStopped a → Blanks c → a ≡ b ++ c → c ≡ []
no_blanks_more a b [] stops blanks e = refl
no_blanks_more a b (d ∷ c) stops blanks e =
    let short : length a ≤ length b = stopped_within a b [] (d ∷ c) stops blanks (append-nil a ∙ e) in
    absurd (omega (arith, ap length e, length-append b (d ∷ c)))

-- the one element at the front is the longest
pub front_longest : (bytes : List ℕ) (d : ElemText) (end : ℕ) → IsLongestSpelling SpellsElement bytes 0 d end
    → (e : ElemText) (rest : List ℕ) → IsElementFront e bytes rest → behind_blanks (drop end bytes) ≡ rest
front_longest bytes d end h e rest f =
    let long : List ℕ = slice_range bytes 0 end in
    let a = element_bracketed d long h.spelled in
    let b = element_bracketed e f.front.front f.front.part in
    let short : length f.front.front ≤ length long = omega
    (arith, front_short SpellsElement bytes d end h e rest f.front, range_length bytes end h.within) in
    let c = shorter_front long (drop end bytes) f.front.front (f.front.gap ++ rest) short
    (sym (split_at bytes end) ∙ f.front.whole) in
    let body : a.body ≡ b.body ++ c.0 = tail_same 91 91 a.body (b.body ++ c.0)
    (sym a.whole ∙ c.1 ∙ ap (λ (t : List ℕ). t ++ c.0) b.whole) in
    let inside : AreInside c.0 = all_back IsInside b.body c.0 (subst AreInside body a.ending.inside) in
    let blanks : Blanks c.0 = inside_blank c.0 (drop end bytes) f.front.gap rest inside f.front.blanks f.behind c.2 in
    let none : c.0 ≡ [] = no_blanks_more a.body b.body c.0 a.ending.stops blanks body in
    ap behind_blanks (sym (c.2 ∙ ap (λ (t : List ℕ). t ++ drop end bytes) none))
    ∙ blanks_passed f.front.gap rest f.front.blanks f.front.edge

pub longest_front : (bytes : List ℕ) (e : ElemText) (end : ℕ) → IsLongestSpelling SpellsElement bytes 0 e end
    → IsTrue (is_behind_element (behind_blanks (drop end bytes)))
    → IsElementFront e bytes (behind_blanks (drop end bytes))
longest_front bytes e end h behind =
    let p = passed (drop end bytes) in
    let apart : begins_with_word (drop end bytes) ≡ false = ap begins_with_word p.whole
    ∙ gap_no_word p.gap (behind_blanks (drop end bytes)) p.blanks
    (behind_no_word (behind_blanks (drop end bytes)) behind) in
    record {
      front = front_here (SpellsElement e) bytes (slice_range bytes 0 end) (drop end bytes) h.spelled
          (split_at bytes end) (λ k. apart);
      behind = behind;
    }

-- no element is at the front where none was read
pub none_read_here : (bytes : List ℕ) → IsNoSpelling SpellsElement bytes 0 → (e : ElemText) (rest : List ℕ)
    → IsElementFront e bytes rest → ⊥
none_read_here bytes none e rest f = no_front SpellsElement bytes none e rest f.front

-- nor where the bytes go on behind the longest one
pub none_ends_here : (bytes : List ℕ) (d : ElemText) (end : ℕ) (b : Bool)
    → IsLongestSpelling SpellsElement bytes 0 d end → b ≡ is_behind_element (behind_blanks (drop end bytes)) → b ≡ false
    → (e : ElemText) (rest : List ℕ) → IsElementFront e bytes rest → ⊥
none_ends_here bytes d end b h tested not e rest f =
    both_ways (is_behind_element rest) (ap is_behind_element (sym (front_longest bytes d end h e rest f)) ∙ sym tested
    ∙ not) f.behind
