-- What is read of an element is spelled so.
use Rattle.std.proofs.Common.{◌≡◌, ℕ, Bool, true, false, cond, eqb, List, [], ◌∷◌, ◌++◌, codes, Option, Some, None, refl, sym, ap, ◌∙◌, subst, append_assoc, ◌⊎◌, inl, inr}
use Rattle.std.specs.Prelude.{is_some}
use Rattle.std.specs.Option.{option_map, option_to_list}
use Rattle.std.proofs.lemmas.Bool.{eqb-true}
use Rattle.ff_text.specs.declared.terms.Factor.{Factor}
use Rattle.ff_text.specs.declared.terms.Term.{Term}
use Rattle.ff_text.specs.declared.terms.ElemText.{ElemText}
use Rattle.ff_text.specs.declared.scan.Mark.{Mark}
use Rattle.ff_text.specs.declared.scan.Mark.TheVariants as marks
use Rattle.ff_text.specs.declared.scan.Position.{Position}
use Rattle.ff_text.specs.declared.scan.Position.TheVariants as positions
use Rattle.ff_text.specs.declared.scan.Scan.{Scan}
use Rattle.ff_text.specs.declared.element.Stage.{Stage}
use Rattle.ff_text.specs.declared.element.Stage.TheVariants.{Outside, Opened, Entry, Closed, Spaced, Slash, OneTerm, Paren, Inner, Done}
use Rattle.ff_text.specs.declared.element.ElementScan.{ElementScan}
use Rattle.ff_text.specs.Spelling.{Then, Is, is_blank, Blanks, Around, Within, SpellsTerms, SpellsOneTerm, SpellsDen, SpellsEntries, SpellsElement}
use Rattle.ff_text.specs.Scanning.{mark_of, term_of, ended, moved, after_mark, scan_step, begun, is_whole_position, last_terms, HasRoom}
use Rattle.ff_text.specs.ElementScanning.{in_x, opened, inside, entry_ended, stage_step, element_step, outside, is_whole_stage, over, last_at_stage}
use Rattle.ff_text.proofs.Machines.{Leads, leads_then, leads_one, along}
use Rattle.ff_text.proofs.Texts.{then_of, then_more, then_map_first, then_right, then_nothing, blanks_push, around_push, around_of, then_blanks, joined_push}
use Rattle.ff_text.proofs.ScanSound.{IsScannedAt, scanned, whole_factors, room_at, terms_done}
use Rattle.ff_text.proofs.ScanComplete.{last_ended}

-- the state of a reader of a polynomial in x, or of a term, behind these bytes
abbrev pub Reads : Bool → Scan → List ℕ → Type 0
Reads signs s h = Leads (scan_step (in_x signs)) begun h s

abbrev pub element_at : Stage → List (List Term) → Scan → ElementScan
element_at stage es s = record { stage = stage; entries = es; scan = s }

-- ---- what was read, from where it ends

-- the entries in brackets
abbrev pub Bracketed : List (List Term) → List ℕ → Type 0
Bracketed es = Within (codes "[") (SpellsEntries es) (codes "]")

-- the bytes before an entry
abbrev pub EntriesFront : List (List Term) → List ℕ → Type 0
EntriesFront es g = ((es ≡ []) × Then (Is (codes "[")) Blanks g)
    ⊎ Then (Is (codes "[")) (Then Blanks (Then (SpellsEntries es) (Around (codes ",")))) g

-- the bytes before a denominator
abbrev pub DenFront : List (List Term) → List ℕ → Type 0
DenFront es = Then (Bracketed es) (Around (codes "/"))

-- the bytes before a denominator in parentheses
abbrev pub ParenFront : List (List Term) → List ℕ → Type 0
ParenFront es = Then (DenFront es) (Then (Is (codes "(")) Blanks)

-- a denominator that was read
abbrev pub DenRead : Scan → List ℕ → Type 0
DenRead s h = (d : List Term) × (last_terms s ≡ Some d) × SpellsDen d h

abbrev pub IsStageRead : List (List Term) → Scan → Stage → List ℕ → Type 0
IsStageRead es s Outside g = (es ≡ []) × (s ≡ begun) × (g ≡ [])
IsStageRead es s Opened g = (s ≡ begun) × EntriesFront es g
IsStageRead es s Entry g = Then (EntriesFront es) (Reads true s) g
IsStageRead es s Closed g = (s ≡ begun) × Bracketed es g
IsStageRead es s Spaced g = (s ≡ begun) × Then (Bracketed es) Blanks g
IsStageRead es s Slash g = (s ≡ begun) × DenFront es g
IsStageRead es s OneTerm g = Then (DenFront es) (Reads false s) g
IsStageRead es s Paren g = (s ≡ begun) × ParenFront es g
IsStageRead es s Inner g = Then (ParenFront es) (Reads true s) g
IsStageRead es s Done g = HasRoom s.position × Then (Bracketed es) (Then (Around (codes "/")) (DenRead s)) g

abbrev pub IsElementRead : ElementScan → List ℕ → Type 0
IsElementRead e g = IsStageRead e.entries e.scan e.stage g

-- ---- bytes of a polynomial

reads_first : (signs : Bool) (s t : Scan) (b : ℕ) → s ≡ begun → scan_step (in_x signs) s b ≡ Some t
    → Reads signs t (b ∷ [])
reads_first signs s t b new e = leads_one (scan_step (in_x signs)) begun t b
    (subst (λ (u : Scan). scan_step (in_x signs) u b ≡ Some t) new e)

reads_more : (signs : Bool) (s t : Scan) (h : List ℕ) (b : ℕ) → Reads signs s h → scan_step (in_x signs) s b ≡ Some t
    → Reads signs t (h ++ b ∷ [])
reads_more signs s t h b r e = leads_then (scan_step (in_x signs)) begun s t h (b ∷ []) r
    (leads_one (scan_step (in_x signs)) s t b e)

pub inside_some : (signs : Bool) (stage : Stage) (e u : ElementScan) (b : ℕ) → inside signs stage e b ≡ Some u
    → (t : Scan) × (scan_step (in_x signs) e.scan b ≡ Some t) × (element_at stage e.entries t ≡ u)
inside_some signs stage e u b made = go (scan_step (in_x signs) e.scan b) refl made
  where
    go : (o : Option Scan) → scan_step (in_x signs) e.scan b ≡ o
        → option_map (λ s. element_at stage e.entries s) o ≡ Some u
        → (t : Scan) × (scan_step (in_x signs) e.scan b ≡ Some t) × (element_at stage e.entries t ≡ u)
    go None is none = absurd cc
    go (Some t) is some = (t, is, cc)

-- a polynomial that may end there
poly_done : (s : Scan) (h : List ℕ) → Reads true s h → is_some (ended s.position) ≡ true
    → (v : List Term) × (last_terms s ≡ Some v) × Then (SpellsTerms false v) Blanks h
poly_done s h r is = go (ended s.position) refl is
  where
    go : (o : Option Factor) → ended s.position ≡ o → is_some o ≡ true
        → (v : List Term) × (last_terms s ≡ Some v) × Then (SpellsTerms false v) Blanks h
    go None e none = absurd cc
    go (Some f) e some = (
      s.terms ++ term_of s.minus (s.factors ++ f ∷ []) ∷ [],
      last_ended (in_x true) s s.position f e,
      terms_done (in_x true) s.terms s.minus s.factors s.position h f (scanned (in_x true) h s r) e,
    )

-- ---- room for a digit

begun_room : (s : Scan) → s ≡ begun → HasRoom s.position
begun_room s new = subst (λ (t : Scan). HasRoom t.position) (sym new) tt

reads_room : (signs : Bool) (s : Scan) (h : List ℕ) → Reads signs s h → HasRoom s.position
reads_room signs s h r = room_at (in_x signs) s.terms s.minus s.factors s.position h (scanned (in_x signs) h s r)

-- ---- steps

front_push : (es : List (List Term)) (g : List ℕ) (b : ℕ) → is_blank b ≡ true → EntriesFront es g
    → EntriesFront es (g ++ b ∷ [])
front_push es g b is (inl first) = inl (first.0, then_more g (b ∷ []) first.1 (λ h all. blanks_push h b is all))
front_push es g b is (inr next) = inr (then_more g (b ∷ []) next
    (λ h t. then_more h (b ∷ []) t (λ i u. then_more i (b ∷ []) u (λ j v. around_push (codes ",") j b is v))))

-- an entry more
entry_push : (es : List (List Term)) (v : List Term) (g h : List ℕ) → EntriesFront es g
    → Then (SpellsTerms false v) Blanks h → Then (Is (codes "["))
    (Then Blanks (Then (SpellsEntries (es ++ v ∷ [])) Blanks)) (g ++ h)
entry_push es v g h (inl first) p =
    subst (λ (fs : List (List Term)). Then (Is (codes "[")) (Then Blanks (Then (SpellsEntries (fs ++ v ∷ [])) Blanks))
    (g ++ h)) (sym first.0)
    (then_more g h first.1 (λ i all. then_of i h all (then_map_first h p (λ j s. then_nothing j s))))
entry_push es v g h (inr next) p =
    then_more g h next (λ i t. then_more i h t (λ j u.
    subst (Then (SpellsEntries (es ++ v ∷ [])) Blanks) (ap (λ x. j ++ x) (sym p.whole)) (
    subst (Then (SpellsEntries (es ++ v ∷ [])) Blanks) (append_assoc j p.front p.back)
    (then_of (j ++ p.front) p.back (joined_push (codes ",") (SpellsTerms false) es v j p.front (inr u) p.first)
    p.second))))

choose : {A : Type 0} (t : Bool) (o p : Option A) (x : A) (P : Type 0) → cond t o p ≡ Some x
    → (t ≡ true → o ≡ Some x → P) → (t ≡ false → p ≡ Some x → P) → P
choose true o p x P e left right = left refl e
choose false o p x P e left right = right refl e

at_byte : (P : List ℕ → Type 0) (g : List ℕ) (b c : ℕ) → eqb b c ≡ true → P (g ++ c ∷ []) → P (g ++ b ∷ [])
at_byte P g b c e h = subst (λ (x : ℕ). P (g ++ x ∷ [])) (sym (eqb-true b c e)) h

arrive : (e u : ElementScan) (g : List ℕ) → Some e ≡ Some u → IsElementRead e g → IsElementRead u g
arrive e u g same h = let eq : e ≡ u = cc in subst (λ (d : ElementScan). IsElementRead d g) eq h

-- the end of an entry, at a byte
entry_step : (es : List (List Term)) (s : Scan) (stage : Stage) (u : ElementScan) (g : List ℕ) (c : ℕ)
    → Then (EntriesFront es) (Reads true s) g → entry_ended stage (element_at Entry es s) ≡ Some u
    → ((fs : List (List Term)) → Then (Is (codes "[")) (Then Blanks (Then (SpellsEntries fs) Blanks)) g
    → IsStageRead fs begun stage (g ++ c ∷ [])) → IsElementRead u (g ++ c ∷ [])
entry_step es s stage u g c h e behind =
    choose (is_some (ended s.position)) (Some (element_at stage (es ++ option_to_list (last_terms s)) begun)) None u
    (IsElementRead u (g ++ c ∷ [])) e
    (λ is made.
    let d = poly_done s h.back h.second is in
    let list : option_to_list (last_terms s) ≡ d.0 ∷ [] = ap option_to_list d.1 in
    arrive (element_at stage (es ++ option_to_list (last_terms s)) begun) u (g ++ c ∷ []) made
    (behind (es ++ option_to_list (last_terms s))
    (subst (λ (l : List (List Term)). Then (Is (codes "[")) (Then Blanks (Then (SpellsEntries (es ++ l)) Blanks)) g)
    (sym list)
    (subst (Then (Is (codes "[")) (Then Blanks (Then (SpellsEntries (es ++ d.0 ∷ [])) Blanks))) (sym h.whole)
    (entry_push es d.0 h.front h.back h.first d.2)))))
    (λ is none. absurd cc)

open_step : (es : List (List Term)) (s : Scan) (u : ElementScan) (g : List ℕ) (b : ℕ) → IsStageRead es s Outside g
    → opened (element_at Outside es s) b ≡ Some u → IsElementRead u (g ++ b ∷ [])
open_step es s u g b h e =
    choose (eqb b 91) (Some (element_at Opened es s)) None u (IsElementRead u (g ++ b ∷ [])) e
    (λ is made. arrive (element_at Opened es s) u (g ++ b ∷ []) made (
      h.1,
      inl (
        h.0,
        at_byte (Then (Is (codes "[")) Blanks) g b 91 is
            (subst (λ (x : List ℕ). Then (Is (codes "[")) Blanks (x ++ codes "[")) (sym h.2)
            (then_blanks (codes "[") refl)),
      ),
    ))
    (λ is none. absurd cc)

-- a byte of a polynomial
inside_step : (signs : Bool) (stage : Stage) (es : List (List Term)) (old : Stage) (s : Scan) (u : ElementScan)
    (g : List ℕ) (b : ℕ) → inside signs stage (element_at old es s) b ≡ Some u
    → ((t : Scan) → scan_step (in_x signs) s b ≡ Some t → IsStageRead es t stage (g ++ b ∷ []))
    → IsElementRead u (g ++ b ∷ [])
inside_step signs stage es old s u g b e steps =
    let w = inside_some signs stage (element_at old es s) u b e in
    subst (λ (d : ElementScan). IsElementRead d (g ++ b ∷ [])) w.2 (steps w.0 w.1)

-- a denominator in parentheses
den_done : (es : List (List Term)) (s : Scan) (d : List Term) (f i : List ℕ) → HasRoom s.position
    → last_terms s ≡ Some d → ParenFront es f → Then (SpellsTerms false d) Blanks i
    → IsStageRead es s Done ((f ++ i) ++ codes ")")
den_done es s d f i room e front p = (
  room,
  subst (Then (Bracketed es) (Then (Around (codes "/")) (DenRead s))) (sym (append_assoc f i (codes ")")))
      (then_right (f ++ (i ++ codes ")")) (then_more f (i ++ codes ")") front (λ j a. (
        d,
        e,
        inr (then_more j (i ++ codes ")") a
            (λ k all. then_of k (i ++ codes ")") all
            (then_more i (codes ")") p (λ l gap. then_of l (codes ")") gap refl)))),
      )))),
)

stage_read : (stage : Stage) (es : List (List Term)) (s : Scan) (u : ElementScan) (g : List ℕ) (b : ℕ)
    → IsStageRead es s stage g → stage_step (element_at stage es s) stage b ≡ Some u → IsElementRead u (g ++ b ∷ [])
stage_read Outside es s u g b h e = open_step es s u g b h e
stage_read Opened es s u g b h e =
    choose (is_blank b) (Some (element_at Opened es s)) (inside true Entry (element_at Opened es s) b) u
    (IsElementRead u (g ++ b ∷ [])) e
    (λ is made. arrive (element_at Opened es s) u (g ++ b ∷ []) made (h.0, front_push es g b is h.1))
    (λ is made. inside_step true Entry es Opened s u g b made
    (λ t r. then_of g (b ∷ []) h.1 (reads_first true s t b h.0 r)))
stage_read Entry es s u g b h e =
    choose (eqb b 44) (entry_ended Opened (element_at Entry es s))
    (cond (eqb b 93) (entry_ended Closed (element_at Entry es s)) (inside true Entry (element_at Entry es s) b)) u
    (IsElementRead u (g ++ b ∷ [])) e
    (λ is made. at_byte (IsElementRead u) g b 44 is
    (entry_step es s Opened u g 44 h made
    (λ fs w. (
      refl,
      inr (then_more g (codes ",") w
          (λ i t. then_more i (codes ",") t (λ j v. then_more j (codes ",") v
          (λ k all. around_of (codes ",") k all)))),
    ))))
    (λ is other. choose (eqb b 93) (entry_ended Closed (element_at Entry es s))
    (inside true Entry (element_at Entry es s) b) u (IsElementRead u (g ++ b ∷ [])) other
    (λ closes made. at_byte (IsElementRead u) g b 93 closes
    (entry_step es s Closed u g 93 h made
    (λ fs w. (
      refl,
      then_more g (codes "]") w
          (λ i t. then_more i (codes "]") t (λ j v. then_more j (codes "]") v
          (λ k all. then_of k (codes "]") all refl))),
    ))))
    (λ closes made. inside_step true Entry es Entry s u g b made
    (λ t r. then_more g (b ∷ []) h (λ i v. reads_more true s t i b v r))))
stage_read Closed es s u g b h e =
    choose (is_blank b) (Some (element_at Spaced es s)) (cond (eqb b 47) (Some (element_at Slash es s)) None) u
    (IsElementRead u (g ++ b ∷ [])) e
    (λ is made. arrive (element_at Spaced es s) u (g ++ b ∷ []) made (h.0, then_of g (b ∷ []) h.1 (is, tt)))
    (λ is other. choose (eqb b 47) (Some (element_at Slash es s)) None u (IsElementRead u (g ++ b ∷ [])) other
    (λ slash made. arrive (element_at Slash es s) u (g ++ b ∷ []) made
    (h.0, at_byte (DenFront es) g b 47 slash (then_of g (codes "/") h.1 (around_of (codes "/") [] tt))))
    (λ slash none. absurd cc))
stage_read Spaced es s u g b h e =
    choose (is_blank b) (Some (element_at Spaced es s)) (cond (eqb b 47) (Some (element_at Slash es s)) None) u
    (IsElementRead u (g ++ b ∷ [])) e
    (λ is made. arrive (element_at Spaced es s) u (g ++ b ∷ []) made
    (h.0, then_more g (b ∷ []) h.1 (λ i all. blanks_push i b is all)))
    (λ is other. choose (eqb b 47) (Some (element_at Slash es s)) None u (IsElementRead u (g ++ b ∷ [])) other
    (λ slash made. arrive (element_at Slash es s) u (g ++ b ∷ []) made
    (h.0, at_byte (DenFront es) g b 47 slash (then_more g (codes "/") h.1 (λ i all. around_of (codes "/") i all))))
    (λ slash none. absurd cc))
stage_read Slash es s u g b h e =
    choose (is_blank b) (Some (element_at Slash es s))
    (cond (eqb b 40) (Some (element_at Paren es s)) (inside false OneTerm (element_at Slash es s) b)) u
    (IsElementRead u (g ++ b ∷ [])) e
    (λ is made. arrive (element_at Slash es s) u (g ++ b ∷ []) made
    (h.0, then_more g (b ∷ []) h.1 (λ i t. around_push (codes "/") i b is t)))
    (λ is other. choose (eqb b 40) (Some (element_at Paren es s)) (inside false OneTerm (element_at Slash es s) b) u
    (IsElementRead u (g ++ b ∷ [])) other
    (λ paren made. arrive (element_at Paren es s) u (g ++ b ∷ []) made
    (h.0, at_byte (ParenFront es) g b 40 paren (then_of g (codes "(") h.1 (then_blanks (codes "(") refl))))
    (λ paren made. inside_step false OneTerm es Slash s u g b made
    (λ t r. then_of g (b ∷ []) h.1 (reads_first false s t b h.0 r))))
stage_read OneTerm es s u g b h e = inside_step false OneTerm es OneTerm s u g b e
    (λ t r. then_more g (b ∷ []) h (λ i v. reads_more false s t i b v r))
stage_read Paren es s u g b h e =
    choose (is_blank b) (Some (element_at Paren es s)) (inside true Inner (element_at Paren es s) b) u
    (IsElementRead u (g ++ b ∷ [])) e
    (λ is made. arrive (element_at Paren es s) u (g ++ b ∷ []) made
    (h.0, then_more g (b ∷ []) h.1 (λ i t. then_more i (b ∷ []) t (λ j all. blanks_push j b is all))))
    (λ is made. inside_step true Inner es Paren s u g b made
    (λ t r. then_of g (b ∷ []) h.1 (reads_first true s t b h.0 r)))
stage_read Inner es s u g b h e =
    choose (eqb b 41) (cond (is_some (ended s.position)) (Some (element_at Done es s)) None)
    (inside true Inner (element_at Inner es s) b) u (IsElementRead u (g ++ b ∷ [])) e
    (λ is other. choose (is_some (ended s.position)) (Some (element_at Done es s)) None u
    (IsElementRead u (g ++ b ∷ [])) other
    (λ may made.
    let d = poly_done s h.back h.second may in
    arrive (element_at Done es s) u (g ++ b ∷ []) made
    (at_byte (IsStageRead es s Done) g b 41 is
    (subst (λ (x : List ℕ). IsStageRead es s Done (x ++ codes ")")) (sym h.whole)
    (den_done es s d.0 h.front h.back (reads_room true s h.back h.second) d.1 h.first d.2))))
    (λ may none. absurd cc))
    (λ is made. inside_step true Inner es Inner s u g b made
    (λ t r. then_more g (b ∷ []) h (λ i v. reads_more true s t i b v r)))
stage_read Done es s u g b h e = absurd cc

element_read_step : (e u : ElementScan) (g : List ℕ) (b : ℕ) → IsElementRead e g → element_step e b ≡ Some u
    → IsElementRead u (g ++ b ∷ [])
unfolding element_step
element_read_step e u g b h made = stage_read e.stage e.entries e.scan u g b h made

-- what leads to a state is read so
pub element_read : (g : List ℕ) (e : ElementScan) → Leads element_step outside g e → IsElementRead e g
element_read g e leads = along element_step IsElementRead element_read_step outside e [] g (refl, refl, refl) leads

-- ---- what is whole is spelled

abbrev IsAlone : Scan → List ℕ → Type 0
IsAlone s g = (s.terms ≡ []) × (s.minus ≡ false)

alone_moved : (s t : Scan) (g : List ℕ) (o : Option Position) → IsAlone s g → moved s o ≡ Some t → IsAlone t g
alone_moved s t g None alone e = absurd cc
alone_moved s t g (Some q) alone e =
    let same : record { terms = s.terms; minus = s.minus; factors = s.factors; position = q } ≡ t = cc in
    subst (λ (u : Scan). IsAlone u g) same alone

alone_star : (s t : Scan) (g : List ℕ) (o : Option Factor) → IsAlone s g
    → option_map (λ f. record {
      terms = s.terms;
      minus = s.minus;
      factors = s.factors
          ++ f ∷ [];
      position = positions.Starred;
    }) o ≡ Some t → IsAlone t g
alone_star s t g None alone e = absurd cc
alone_star s t g (Some f) alone e =
    let same : record { terms = s.terms; minus = s.minus; factors = s.factors ++ f ∷ []; position = positions.Starred }
    ≡ t = cc in
    subst (λ (u : Scan). IsAlone u g) same alone

alone_mark : (m : Mark) (s t : Scan) (g : List ℕ) → IsAlone s g → after_mark (in_x false) s m ≡ Some t → IsAlone t g
alone_mark marks.Blank s t g alone e = alone_moved s t g _ alone e
alone_mark (marks.Digit d) s t g alone e = alone_moved s t g _ alone e
alone_mark marks.X s t g alone e = alone_moved s t g _ alone e
alone_mark marks.Y s t g alone e = alone_moved s t g None alone e
alone_mark marks.Raise s t g alone e = alone_moved s t g _ alone e
alone_mark marks.Star s t g alone e = alone_star s t g (ended s.position) alone e
alone_mark marks.Plus s t g alone e = absurd cc
alone_mark marks.Minus s t g alone e = absurd cc
alone_mark marks.Other s t g alone e = absurd cc

alone_step : (s t : Scan) (g : List ℕ) (b : ℕ) → IsAlone s g → scan_step (in_x false) s b ≡ Some t
    → IsAlone t (g ++ b ∷ [])
unfolding scan_step
alone_step s t g b alone e = alone_mark (mark_of b) s t g alone e

-- where no sign may stand, there is one term
alone : (s : Scan) (h : List ℕ) → Reads false s h → IsAlone s h
alone s h r = along (scan_step (in_x false)) IsAlone alone_step begun s [] h (refl, refl) r

one_term : (s : Scan) (h : List ℕ) → Reads false s h → is_whole_position s.position ≡ true
    → (d : List Term) × (last_terms s ≡ Some d) × SpellsOneTerm d h
one_term s h r is =
    let a = alone s h r in
    let at : IsScannedAt (in_x false) [] s.minus s.factors s.position h = subst
    (λ (ts : List Term). IsScannedAt (in_x false) ts s.minus s.factors s.position h) a.0
    (scanned (in_x false) h s r) in
    let w = whole_factors (in_x false) s.minus s.factors s.position h a.1 at is in (
      term_of false (s.factors ++ w.0 ∷ []) ∷ [],
      last_ended (in_x false) s s.position w.0 w.1
          ∙ ap (λ ts. Some (ts ++ term_of s.minus (s.factors ++ w.0 ∷ []) ∷ [])) a.0
          ∙ ap (λ m. Some (term_of m (s.factors ++ w.0 ∷ []) ∷ [])) a.1,
      (refl, w.2),
    )

pub whole_stage : (stage : Stage) (es : List (List Term)) (s : Scan) (g : List ℕ) → IsStageRead es s stage g
    → is_whole_stage s stage ≡ true → (v : ElemText) × (last_at_stage (element_at stage es s) stage ≡ Some v)
    × SpellsElement v g
whole_stage Outside es s g h is = absurd cc
whole_stage Opened es s g h is = absurd cc
whole_stage Entry es s g h is = absurd cc
whole_stage Closed es s g h is = (record { entries = es; den = None }, refl, then_nothing g h.1)
whole_stage Spaced es s g h is = absurd cc
whole_stage Slash es s g h is = absurd cc
whole_stage OneTerm es s g h is =
    let w = one_term s h.back h.second is in (
      record { entries = es; den = Some w.0 },
      ap (over es) w.1,
      then_right g (record { front = h.front; back = h.back; first = h.first; second = inl w.2; whole = h.whole }),
    )
whole_stage Paren es s g h is = absurd cc
whole_stage Inner es s g h is = absurd cc
whole_stage Done es s g h is =
    let t = h.1 in
    let d = t.second.second in (
      record { entries = es; den = Some d.0 },
      ap (over es) d.1,
      record {
        front = t.front;
        back = t.back;
        first = t.first;
        second = record {
          front = t.second.front;
          back = t.second.back;
          first = t.second.first;
          second = d.2;
          whole = t.second.whole;
        };
        whole = t.whole;
      },
    )

pub element_room : (stage : Stage) (es : List (List Term)) (s : Scan) (g : List ℕ) → IsStageRead es s stage g
    → HasRoom s.position
element_room Outside es s g h = begun_room s h.1
element_room Opened es s g h = begun_room s h.0
element_room Entry es s g h = reads_room true s h.back h.second
element_room Closed es s g h = begun_room s h.0
element_room Spaced es s g h = begun_room s h.0
element_room Slash es s g h = begun_room s h.0
element_room OneTerm es s g h = reads_room false s h.back h.second
element_room Paren es s g h = begun_room s h.0
element_room Inner es s g h = reads_room true s h.back h.second
element_room Done es s g h = h.0
