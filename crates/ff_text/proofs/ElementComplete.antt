-- What is spelled as an element is read.
use Rattle.std.proofs.Common.{◌≡◌, ℕ, Bool, true, false, cond, eqb, List, [], ◌∷◌, ◌++◌, codes, Option, Some, None, refl, sym, ap, ◌∙◌, subst, append_assoc, inl, inr}
use Rattle.std.specs.Prelude.{is_some}
use Rattle.std.specs.Option.{option_map, option_to_list}
use Rattle.std.proofs.lemmas.Bool.{eqb-true, cases_Bool}
use Rattle.std.proofs.lemmas.List.{append-nil}
use Rattle.ff_text.specs.declared.terms.Factor.TheVariants as factors
use Rattle.ff_text.specs.declared.terms.Term.{Term}
use Rattle.ff_text.specs.declared.terms.ElemText.{ElemText}
use Rattle.ff_text.specs.declared.scan.Mark.TheVariants as marks
use Rattle.ff_text.specs.declared.scan.Kind.TheVariants as kinds
use Rattle.ff_text.specs.declared.scan.Position.TheVariants as positions
use Rattle.ff_text.specs.declared.scan.Scan.{Scan}
use Rattle.ff_text.specs.declared.element.Stage.{Stage}
use Rattle.ff_text.specs.declared.element.Stage.TheVariants.{Outside, Opened, Entry, Closed, Spaced, Slash, OneTerm, Paren, Inner, Done}
use Rattle.ff_text.specs.declared.element.ElementScan.{ElementScan}
use Rattle.ff_text.specs.Spelling.{Then, Is, is_blank, Blanks, Around, Within, Each, SpellsTerms, SpellsOneTerm, SpellsDen, SpellsTail, SpellsEntries, SpellsElement}
use Rattle.ff_text.specs.Scanning.{mark_of, term_of, ended, after_mark, scan_step, begun, is_whole_position, last_terms}
use Rattle.ff_text.specs.ElementScanning.{in_x, inside, entry_ended, stage_step, element_step, outside, is_whole_stage, over, last_element}
use Rattle.ff_text.proofs.Machines.{Leads, leads_then, leads_one, first_step, IsMachine}
use Rattle.ff_text.proofs.Marks.{mark-blank}
use Rattle.ff_text.proofs.ScanComplete.{whole_ended, scan_gap, leads_term, leads_poly, last_ended, kept_scan, live_at}
use Rattle.ff_text.proofs.ElementSound.{Reads, element_at, IsStageRead, IsElementRead, element_read, whole_stage, inside_some}

abbrev ElementLeads : ElementScan → List ℕ → ElementScan → Type 0
ElementLeads = Leads element_step

element_then : (e f u : ElementScan) (a b : List ℕ) → ElementLeads e a f → ElementLeads f b u
    → ElementLeads e (a ++ b) u
element_then e f u a b first second = leads_then element_step e f u a b first second

element_parts : {A B : List ℕ → Type 0} (e f u : ElementScan) (g : List ℕ) (w : Then A B g) → ElementLeads e w.front f
    → ElementLeads f w.back u → ElementLeads e g u
element_parts e f u g w first second = subst (λ (h : List ℕ). ElementLeads e h u) (sym w.whole)
    (element_then e f u w.front w.back first second)

element_mark : (e u : ElementScan) (c : ℕ) (h : List ℕ) → Is (c ∷ []) h → element_step e c ≡ Some u → ElementLeads e h u
element_mark e u c h is step = subst (λ (i : List ℕ). ElementLeads e i u) (sym is) (leads_one element_step e u c step)

-- where blanks change nothing
element_blanks : (e : ElementScan) (g : List ℕ) → ((b : ℕ) → is_blank b ≡ true → element_step e b ≡ Some e) → Blanks g
    → ElementLeads e g e
element_blanks e [] stays all = refl
element_blanks e (b ∷ g) stays all = element_then e e e (b ∷ []) g (leads_one element_step e e b (stays b all.0))
    (element_blanks e g stays all.1)

-- ---- bytes of a polynomial

-- a byte that stands in no polynomial
other_byte : (signs : Bool) (c b : ℕ) (s t : Scan) → mark_of c ≡ marks.Other → scan_step (in_x signs) s b ≡ Some t
    → eqb b c ≡ false
unfolding scan_step
other_byte signs c b s t other e = elim (cases_Bool (eqb b c)) [
  | inl is ↦
      let same : b ≡ c = eqb-true b c is in
      let none : after_mark (in_x signs) s (mark_of b)
      ≡ None = ap (after_mark (in_x signs) s) (ap mark_of same ∙ other) in
      absurd cc
  | inr not ↦ not
]

-- the first byte of a polynomial isn't blank
not_blank : (signs : Bool) (b : ℕ) (t : Scan) → scan_step (in_x signs) begun b ≡ Some t → is_blank b ≡ false
unfolding scan_step
not_blank signs b t e = elim (cases_Bool (is_blank b)) [
  | inl is ↦
      let none : after_mark (in_x signs) begun (mark_of b)
      ≡ None = ap (after_mark (in_x signs) begun) (mark-blank b is) in
      absurd cc
  | inr not ↦ not
]

lift : (signs : Bool) (at : Scan → ElementScan)
    → ((s t : Scan) (b : ℕ) → scan_step (in_x signs) s b ≡ Some t → element_step (at s) b ≡ Some (at t))
    → (s t : Scan) (h : List ℕ) → Leads (scan_step (in_x signs)) s h t → ElementLeads (at s) h (at t)
lift signs at steps s t [] e = let same : s ≡ t = cc in ap (λ u. Some (at u)) same
lift signs at steps s t (b ∷ h) e =
    let w = first_step (scan_step (in_x signs)) s t b h e in
    element_then (at s) (at w.0) (at t) (b ∷ []) h (leads_one element_step (at s) (at w.0) b (steps s w.0 b w.1))
    (lift signs at steps w.0 t h w.2)

-- from a stage before the polynomial
lift_first : (signs : Bool) (e : ElementScan) (at : Scan → ElementScan)
    → ((t : Scan) (b : ℕ) → scan_step (in_x signs) begun b ≡ Some t → element_step e b ≡ Some (at t))
    → ((s t : Scan) (b : ℕ) → scan_step (in_x signs) s b ≡ Some t → element_step (at s) b ≡ Some (at t))
    → (t : Scan) (h : List ℕ) → Reads signs t h → is_whole_position t.position ≡ true → ElementLeads e h (at t)
lift_first signs e at first steps t [] r is =
    let same : begun ≡ t = cc in
    absurd (let not : is_whole_position t.position
    ≡ false = ap (λ (s : Scan). is_whole_position s.position) (sym same) in cc)
lift_first signs e at first steps t (b ∷ h) r is =
    let w = first_step (scan_step (in_x signs)) begun t b h r in
    element_then e (at w.0) (at t) (b ∷ []) h (leads_one element_step e (at w.0) b (first w.0 b w.1))
    (lift signs at steps w.0 t h w.2)

made : (stage : Stage) (es : List (List Term)) (t : Scan) (o : Option Scan) → o ≡ Some t
    → option_map (λ s. element_at stage es s) o ≡ Some (element_at stage es t)
made stage es t o e = ap (option_map (λ s. element_at stage es s)) e

entry_inside : (es : List (List Term)) (s t : Scan) (b : ℕ) → scan_step (in_x true) s b ≡ Some t
    → element_step (element_at Entry es s) b ≡ Some (element_at Entry es t)
unfolding element_step
entry_inside es s t b e = rw (other_byte true 44 b s t refl e, other_byte true 93 b s t refl e)
    (made Entry es t (scan_step (in_x true) s b) e)

inner_inside : (es : List (List Term)) (s t : Scan) (b : ℕ) → scan_step (in_x true) s b ≡ Some t
    → element_step (element_at Inner es s) b ≡ Some (element_at Inner es t)
unfolding element_step
inner_inside es s t b e = rw (other_byte true 41 b s t refl e) (made Inner es t (scan_step (in_x true) s b) e)

term_inside : (es : List (List Term)) (s t : Scan) (b : ℕ) → scan_step (in_x false) s b ≡ Some t
    → element_step (element_at OneTerm es s) b ≡ Some (element_at OneTerm es t)
unfolding element_step
term_inside es s t b e = made OneTerm es t (scan_step (in_x false) s b) e

entry_first : (es : List (List Term)) (t : Scan) (b : ℕ) → scan_step (in_x true) begun b ≡ Some t
    → element_step (element_at Opened es begun) b ≡ Some (element_at Entry es t)
unfolding element_step
entry_first es t b e = rw (not_blank true b t e) (made Entry es t (scan_step (in_x true) begun b) e)

inner_first : (es : List (List Term)) (t : Scan) (b : ℕ) → scan_step (in_x true) begun b ≡ Some t
    → element_step (element_at Paren es begun) b ≡ Some (element_at Inner es t)
unfolding element_step
inner_first es t b e = rw (not_blank true b t e) (made Inner es t (scan_step (in_x true) begun b) e)

term_first : (es : List (List Term)) (t : Scan) (b : ℕ) → scan_step (in_x false) begun b ≡ Some t
    → element_step (element_at Slash es begun) b ≡ Some (element_at OneTerm es t)
unfolding element_step
term_first es t b e = rw (not_blank false b t e, other_byte false 40 b begun t refl e)
    (made OneTerm es t (scan_step (in_x false) begun b) e)

-- ---- other bytes

step-open : element_step outside 91 ≡ Some (element_at Opened [] begun)
unfolding element_step
step-open = refl

step-comma : (es : List (List Term)) (s : Scan) (v : List Term) → is_some (ended s.position) ≡ true
    → last_terms s ≡ Some v → element_step (element_at Entry es s) 44 ≡ Some (element_at Opened (es ++ v ∷ []) begun)
unfolding element_step
step-comma es s v is e = rw (is, e) refl

step-close : (es : List (List Term)) (s : Scan) (v : List Term) → is_some (ended s.position) ≡ true
    → last_terms s ≡ Some v → element_step (element_at Entry es s) 93 ≡ Some (element_at Closed (es ++ v ∷ []) begun)
unfolding element_step
step-close es s v is e = rw (is, e) refl

step-done : (es : List (List Term)) (s : Scan) → is_some (ended s.position) ≡ true
    → element_step (element_at Inner es s) 41 ≡ Some (element_at Done es s)
unfolding element_step
step-done es s is = rw is refl

step-paren : (es : List (List Term)) → element_step (element_at Slash es begun) 40 ≡ Some (element_at Paren es begun)
unfolding element_step
step-paren es = refl

opened_stays : (es : List (List Term)) (b : ℕ) → is_blank b ≡ true
    → element_step (element_at Opened es begun) b ≡ Some (element_at Opened es begun)
unfolding element_step
opened_stays es b is = rw is refl

slash_stays : (es : List (List Term)) (b : ℕ) → is_blank b ≡ true
    → element_step (element_at Slash es begun) b ≡ Some (element_at Slash es begun)
unfolding element_step
slash_stays es b is = rw is refl

paren_stays : (es : List (List Term)) (b : ℕ) → is_blank b ≡ true
    → element_step (element_at Paren es begun) b ≡ Some (element_at Paren es begun)
unfolding element_step
paren_stays es b is = rw is refl

-- blanks and a slash behind the bracket
spaced_slash : (es : List (List Term)) (g : List ℕ) → Blanks g
    → ElementLeads (element_at Spaced es begun) (g ++ codes "/") (element_at Slash es begun)
unfolding element_step
spaced_slash es [] all = refl
spaced_slash es (b ∷ g) all = element_then (element_at Spaced es begun) (element_at Spaced es begun)
    (element_at Slash es begun) (b ∷ []) (g ++ codes "/")
    (leads_one element_step (element_at Spaced es begun) (element_at Spaced es begun) b (rw (all.0) refl))
    (spaced_slash es g all.1)

closed_slash : (es : List (List Term)) (g : List ℕ) → Blanks g
    → ElementLeads (element_at Closed es begun) (g ++ codes "/") (element_at Slash es begun)
unfolding element_step
closed_slash es [] all = refl
closed_slash es (b ∷ g) all = element_then (element_at Closed es begun) (element_at Spaced es begun)
    (element_at Slash es begun) (b ∷ []) (g ++ codes "/")
    (leads_one element_step (element_at Closed es begun) (element_at Spaced es begun) b (rw (all.0) refl))
    (spaced_slash es g all.1)

-- ---- entries

-- an entry is read to its end
record IsEntryRead (from : ElementScan) (g : List ℕ) (es : List (List Term)) : Type 0 where
  front : List (List Term)
  last : List Term
  scan : Scan
  leads : ElementLeads from g (element_at Entry front scan)
  is_whole : is_whole_position scan.position ≡ true
  value : last_terms scan ≡ Some last
  whole : front ++ last ∷ [] ≡ es

leads_entry : (es : List (List Term)) (v : List Term) (g : List ℕ) → SpellsTerms false v g
    → IsEntryRead (element_at Opened es begun) g (es ++ v ∷ [])
leads_entry es v g spelled =
    let p = leads_poly (in_x true) v g refl spelled in
    record {
      front = es;
      last = v;
      scan = p.0;
      leads = lift_first true (element_at Opened es begun) (element_at Entry es) (entry_first es) (entry_inside es) p.0
          g p.1 p.2;
      is_whole = p.2;
      value = p.3;
      whole = refl;
    }

leads_comma : (es : List (List Term)) (s : Scan) (v : List Term) (g : List ℕ) → is_whole_position s.position ≡ true
    → last_terms s ≡ Some v → Around (codes ",") g
    → ElementLeads (element_at Entry es s) g (element_at Opened (es ++ v ∷ []) begun)
leads_comma es s v g is e w =
    let gap = scan_gap (in_x true) s w.front is w.first in
    let behind = w.second in
    element_parts (element_at Entry es s) (element_at Entry es gap.0) (element_at Opened (es ++ v ∷ []) begun) g w
    (lift true (element_at Entry es) (entry_inside es) s gap.0 w.front gap.1)
    (element_parts (element_at Entry es gap.0) (element_at Opened (es ++ v ∷ []) begun)
    (element_at Opened (es ++ v ∷ []) begun) w.back behind
    (element_mark (element_at Entry es gap.0) (element_at Opened (es ++ v ∷ []) begun) 44 behind.front behind.first
    (step-comma es gap.0 v gap.2 (gap.3 ∙ e)))
    (element_blanks (element_at Opened (es ++ v ∷ []) begun) behind.back (opened_stays (es ++ v ∷ [])) behind.second))

leads_more_entries : (es more : List (List Term)) (s : Scan) (v : List Term) (g : List ℕ)
    → is_whole_position s.position ≡ true → last_terms s ≡ Some v
    → Each (λ w. Then (Around (codes ",")) (SpellsTerms false w)) more g
    → IsEntryRead (element_at Entry es s) g ((es ++ v ∷ []) ++ more)
leads_more_entries es [] s v g is e w = record {
  front = es;
  last = v;
  scan = s;
  leads = subst (λ (h : List ℕ). ElementLeads (element_at Entry es s) h (element_at Entry es s)) (sym w) refl;
  is_whole = is;
  value = e;
  whole = sym (append-nil (es ++ v ∷ []));
}
leads_more_entries es (u ∷ more) s v g is e w =
    let part = w.first in
    let comma = leads_comma es s v part.front is e part.first in
    let p = leads_poly (in_x true) u part.back refl part.second in
    let entry = lift_first true (element_at Opened (es ++ v ∷ []) begun) (element_at Entry (es ++ v ∷ []))
    (entry_first (es ++ v ∷ [])) (entry_inside (es ++ v ∷ [])) p.0 part.back p.1 p.2 in
    let rest = leads_more_entries (es ++ v ∷ []) more p.0 u w.back p.2 p.3 w.second in
    record {
      front = rest.front;
      last = rest.last;
      scan = rest.scan;
      leads = element_parts (element_at Entry es s) (element_at Entry (es ++ v ∷ []) p.0)
          (element_at Entry rest.front rest.scan) g w
          (element_parts (element_at Entry es s) (element_at Opened (es ++ v ∷ []) begun)
          (element_at Entry (es ++ v ∷ []) p.0) w.front part comma entry) rest.leads;
      is_whole = rest.is_whole;
      value = rest.value;
      whole = rest.whole ∙ append_assoc (es ++ v ∷ []) (u ∷ []) more;
    }

leads_entries : (all : List (List Term)) (g : List ℕ) → SpellsEntries all g
    → IsEntryRead (element_at Opened [] begun) g all
leads_entries [] g s = absurd s
leads_entries (v ∷ vs) g s =
    let p = leads_poly (in_x true) v s.front refl s.first in
    let entry = lift_first true (element_at Opened [] begun) (element_at Entry []) (entry_first []) (entry_inside [])
    p.0 s.front p.1 p.2 in
    let rest = leads_more_entries [] vs p.0 v s.back p.2 p.3 s.second in
    record {
      front = rest.front;
      last = rest.last;
      scan = rest.scan;
      leads = element_parts (element_at Opened [] begun) (element_at Entry [] p.0)
          (element_at Entry rest.front rest.scan) g s entry rest.leads;
      is_whole = rest.is_whole;
      value = rest.value;
      whole = rest.whole;
    }

-- a bracket behind blanks
leads_close : (es : List (List Term)) (s : Scan) (v : List Term) (g : List ℕ) → is_whole_position s.position ≡ true
    → last_terms s ≡ Some v → Then Blanks (Is (codes "]")) g
    → ElementLeads (element_at Entry es s) g (element_at Closed (es ++ v ∷ []) begun)
leads_close es s v g is e w =
    let gap = scan_gap (in_x true) s w.front is w.first in
    element_parts (element_at Entry es s) (element_at Entry es gap.0) (element_at Closed (es ++ v ∷ []) begun) g w
    (lift true (element_at Entry es) (entry_inside es) s gap.0 w.front gap.1)
    (element_mark (element_at Entry es gap.0) (element_at Closed (es ++ v ∷ []) begun) 93 w.back w.second
    (step-close es gap.0 v gap.2 (gap.3 ∙ e)))

leads_bracketed : (all : List (List Term)) (g : List ℕ) → Within (codes "[") (SpellsEntries all) (codes "]") g
    → ElementLeads outside g (element_at Closed all begun)
leads_bracketed all g w =
    let inner = w.second in
    let body = inner.second in
    let r = leads_entries all body.front body.first in
    let close = leads_close r.front r.scan r.last body.back r.is_whole r.value body.second in
    subst (λ (es : List (List Term)). ElementLeads outside g (element_at Closed es begun)) r.whole
    (element_parts outside (element_at Opened [] begun) (element_at Closed (r.front ++ r.last ∷ []) begun) g w
    (element_mark outside (element_at Opened [] begun) 91 w.front w.first step-open)
    (element_parts (element_at Opened [] begun) (element_at Opened [] begun)
    (element_at Closed (r.front ++ r.last ∷ []) begun) w.back inner
    (element_blanks (element_at Opened [] begun) inner.front (opened_stays []) inner.first)
    (element_parts (element_at Opened [] begun) (element_at Entry r.front r.scan)
    (element_at Closed (r.front ++ r.last ∷ []) begun) inner.back body r.leads close)))

-- ---- denominators

-- what is spelled leads to a whole state with its value
abbrev IsRead : ElementScan → List ℕ → ElemText → Type 0
IsRead from g v = (u : ElementScan) × ElementLeads from g u × (is_whole_stage u.scan u.stage ≡ true)
    × (last_element u ≡ Some v)

leads_slash : (es : List (List Term)) (g : List ℕ) → Around (codes "/") g
    → ElementLeads (element_at Closed es begun) g (element_at Slash es begun)
leads_slash es g w =
    let behind = w.second in
    let slash : ElementLeads (element_at Closed es begun) (w.front ++ behind.front) (element_at Slash es begun) = subst
    (λ (h : List ℕ). ElementLeads (element_at Closed es begun) (w.front ++ h) (element_at Slash es begun))
    (sym behind.first) (closed_slash es w.front w.first) in
    let whole : g ≡ (w.front ++ behind.front) ++ behind.back = w.whole ∙ ap (λ x. w.front ++ x) behind.whole
    ∙ sym (append_assoc w.front behind.front behind.back) in
    subst (λ (h : List ℕ). ElementLeads (element_at Closed es begun) h (element_at Slash es begun)) (sym whole)
    (element_then (element_at Closed es begun) (element_at Slash es begun) (element_at Slash es begun)
    (w.front ++ behind.front) behind.back slash
    (element_blanks (element_at Slash es begun) behind.back (slash_stays es) behind.second))

leads_one_term : (es : List (List Term)) (d : List Term) (g : List ℕ) → SpellsOneTerm d g
    → IsRead (element_at Slash es begun) g (record { entries = es; den = Some d })
leads_one_term es [] g s = absurd s
leads_one_term es (t ∷ u ∷ ts) g s = absurd s
leads_one_term es (t ∷ []) g s =
    let p = leads_term (in_x false) t.factors g s.1 in
    let same : term_of false t.factors ≡ t = ap (λ m. term_of m t.factors) (sym s.0) in (
      element_at OneTerm es p.0,
      lift_first false (element_at Slash es begun) (element_at OneTerm es) (term_first es) (term_inside es) p.0 g p.1
          p.2,
      p.2,
      ap (over es) (p.3 ∙ ap (λ (u : Term). Some (u ∷ [])) same),
    )

leads_inner : (es : List (List Term)) (d : List Term) (g : List ℕ)
    → Within (codes "(") (SpellsTerms false d) (codes ")") g
    → IsRead (element_at Slash es begun) g (record { entries = es; den = Some d })
leads_inner es d g w =
    let inner = w.second in
    let body = inner.second in
    let p = leads_poly (in_x true) d body.front refl body.first in
    let poly = lift_first true (element_at Paren es begun) (element_at Inner es) (inner_first es) (inner_inside es) p.0
    body.front p.1 p.2 in
    let end = body.second in
    let gap = scan_gap (in_x true) p.0 end.front p.2 end.first in (
      element_at Done es gap.0,
      element_parts (element_at Slash es begun) (element_at Paren es begun) (element_at Done es gap.0) g w
          (element_mark (element_at Slash es begun) (element_at Paren es begun) 40 w.front w.first (step-paren es))
          (element_parts (element_at Paren es begun) (element_at Paren es begun) (element_at Done es gap.0) w.back inner
          (element_blanks (element_at Paren es begun) inner.front (paren_stays es) inner.first)
          (element_parts (element_at Paren es begun) (element_at Inner es p.0) (element_at Done es gap.0) inner.back
          body poly
          (element_parts (element_at Inner es p.0) (element_at Inner es gap.0) (element_at Done es gap.0) body.back end
          (lift true (element_at Inner es) (inner_inside es) p.0 gap.0 end.front gap.1)
          (element_mark (element_at Inner es gap.0) (element_at Done es gap.0) 41 end.back end.second
          (step-done es gap.0 gap.2))))),
      refl,
      ap (over es) (gap.3 ∙ p.3),
    )

leads_den : (es : List (List Term)) (d : List Term) (g : List ℕ) → SpellsDen d g
    → IsRead (element_at Slash es begun) g (record { entries = es; den = Some d })
leads_den es d g (inl one) = leads_one_term es d g one
leads_den es d g (inr within) = leads_inner es d g within

leads_tail : (es : List (List Term)) (den : Option (List Term)) (g : List ℕ) → SpellsTail den g
    → IsRead (element_at Closed es begun) g (record { entries = es; den = den })
leads_tail es None g s = (
  element_at Closed es begun,
  subst
      (λ (h : List ℕ). ElementLeads (element_at Closed es begun) h (element_at Closed es begun)) (sym s) refl,
  refl,
  refl,
)
leads_tail es (Some d) g s =
    let r = leads_den es d s.back s.second in (
      r.0,
      element_parts (element_at Closed es begun) (element_at Slash es begun) r.0 g s
          (leads_slash es s.front s.first) r.1,
      r.2,
      r.3,
    )

leads_element : (v : ElemText) (g : List ℕ) → SpellsElement v g → IsRead outside g v
leads_element v g s =
    let r = leads_tail v.entries v.den s.back s.second in (
      r.0,
      element_parts outside (element_at Closed v.entries begun) r.0 g s (leads_bracketed v.entries s.front s.first)
          r.1,
      r.2,
      r.3,
    )

-- ---- what isn't whole keeps the last value

choose : {A : Type 0} (t : Bool) (o p : Option A) (x : A) (P : Type 0) → cond t o p ≡ Some x → (o ≡ Some x → P)
    → (p ≡ Some x → P) → P
choose true o p x P e left right = left e
choose false o p x P e left right = right e

-- the state and its value
abbrev Keeps : ElementScan → ElementScan → Type 0
Keeps e u = is_whole_stage u.scan u.stage ≡ false → last_element u ≡ last_element e

keeps_some : (e d u : ElementScan) → Some d ≡ Some u → Keeps e d → Keeps e u
keeps_some e d u same keeps = let eq : d ≡ u = cc in subst (Keeps e) eq keeps

keeps_inside : (signs : Bool) (stage : Stage) (e u : ElementScan) (b : ℕ) → inside signs stage e b ≡ Some u
    → ((t : Scan) → scan_step (in_x signs) e.scan b ≡ Some t → Keeps e (element_at stage e.entries t)) → Keeps e u
keeps_inside signs stage e u b e' keeps =
    let w = inside_some signs stage e u b e' in
    subst (Keeps e) w.2 (keeps w.0 w.1)

keeps_stage : (stage : Stage) (es : List (List Term)) (s : Scan) (u : ElementScan) (g : List ℕ) (b : ℕ)
    → IsStageRead es s stage g → stage_step (element_at stage es s) stage b ≡ Some u → Keeps (element_at stage es s) u
keeps_stage Outside es s u g b r e =
    choose (eqb b 91) (Some (element_at Opened es s)) None u (Keeps (element_at Outside es s) u) e
    (λ o. keeps_some (element_at Outside es s) (element_at Opened es s) u o (λ w. refl)) (λ o. absurd cc)
keeps_stage Opened es s u g b r e =
    choose (is_blank b) (Some (element_at Opened es s)) (inside true Entry (element_at Opened es s) b) u
    (Keeps (element_at Opened es s) u) e
    (λ o. keeps_some (element_at Opened es s) (element_at Opened es s) u o (λ w. refl))
    (λ o. keeps_inside true Entry (element_at Opened es s) u b o (λ t c w. refl))
keeps_stage Entry es s u g b r e =
    choose (eqb b 44) (entry_ended Opened (element_at Entry es s))
    (cond (eqb b 93) (entry_ended Closed (element_at Entry es s)) (inside true Entry (element_at Entry es s) b)) u
    (Keeps (element_at Entry es s) u) e
    (λ o. choose (is_some (ended s.position)) (Some (element_at Opened (es ++ option_to_list (last_terms s)) begun))
    None u (Keeps (element_at Entry es s) u) o
    (λ q. keeps_some (element_at Entry es s) (element_at Opened (es ++ option_to_list (last_terms s)) begun) u q
    (λ w. refl)) (λ q. absurd cc))
    (λ o. choose (eqb b 93) (entry_ended Closed (element_at Entry es s)) (inside true Entry (element_at Entry es s) b) u
    (Keeps (element_at Entry es s) u) o
    (λ p. choose (is_some (ended s.position)) (Some (element_at Closed (es ++ option_to_list (last_terms s)) begun))
    None u (Keeps (element_at Entry es s) u) p
    (λ q. keeps_some (element_at Entry es s) (element_at Closed (es ++ option_to_list (last_terms s)) begun) u q
    (λ w. absurd cc)) (λ q. absurd cc))
    (λ p. keeps_inside true Entry (element_at Entry es s) u b p (λ t c w. refl)))
keeps_stage Closed es s u g b r e =
    choose (is_blank b) (Some (element_at Spaced es s)) (cond (eqb b 47) (Some (element_at Slash es s)) None) u
    (Keeps (element_at Closed es s) u) e
    (λ o. keeps_some (element_at Closed es s) (element_at Spaced es s) u o (λ w. refl))
    (λ o. choose (eqb b 47) (Some (element_at Slash es s)) None u (Keeps (element_at Closed es s) u) o
    (λ p. keeps_some (element_at Closed es s) (element_at Slash es s) u p (λ w. refl)) (λ p. absurd cc))
keeps_stage Spaced es s u g b r e =
    choose (is_blank b) (Some (element_at Spaced es s)) (cond (eqb b 47) (Some (element_at Slash es s)) None) u
    (Keeps (element_at Spaced es s) u) e
    (λ o. keeps_some (element_at Spaced es s) (element_at Spaced es s) u o (λ w. refl))
    (λ o. choose (eqb b 47) (Some (element_at Slash es s)) None u (Keeps (element_at Spaced es s) u) o
    (λ p. keeps_some (element_at Spaced es s) (element_at Slash es s) u p (λ w. refl)) (λ p. absurd cc))
keeps_stage Slash es s u g b r e =
    choose (is_blank b) (Some (element_at Slash es s))
    (cond (eqb b 40) (Some (element_at Paren es s)) (inside false OneTerm (element_at Slash es s) b)) u
    (Keeps (element_at Slash es s) u) e
    (λ o. keeps_some (element_at Slash es s) (element_at Slash es s) u o (λ w. refl))
    (λ o. choose (eqb b 40) (Some (element_at Paren es s)) (inside false OneTerm (element_at Slash es s) b) u
    (Keeps (element_at Slash es s) u) o
    (λ p. keeps_some (element_at Slash es s) (element_at Paren es s) u p (λ w. refl))
    (λ p. keeps_inside false OneTerm (element_at Slash es s) u b p
    (λ t c w. ap (over es) (kept_scan (in_x false) s t b c w ∙ ap last_terms r.0))))
keeps_stage OneTerm es s u g b r e = keeps_inside false OneTerm (element_at OneTerm es s) u b e
    (λ t c w. ap (over es) (kept_scan (in_x false) s t b c w))
keeps_stage Paren es s u g b r e =
    choose (is_blank b) (Some (element_at Paren es s)) (inside true Inner (element_at Paren es s) b) u
    (Keeps (element_at Paren es s) u) e
    (λ o. keeps_some (element_at Paren es s) (element_at Paren es s) u o (λ w. refl))
    (λ o. keeps_inside true Inner (element_at Paren es s) u b o (λ t c w. refl))
keeps_stage Inner es s u g b r e =
    choose (eqb b 41) (cond (is_some (ended s.position)) (Some (element_at Done es s)) None)
    (inside true Inner (element_at Inner es s) b) u (Keeps (element_at Inner es s) u) e
    (λ o. choose (is_some (ended s.position)) (Some (element_at Done es s)) None u (Keeps (element_at Inner es s) u) o
    (λ q. keeps_some (element_at Inner es s) (element_at Done es s) u q (λ w. absurd cc)) (λ q. absurd cc))
    (λ o. keeps_inside true Inner (element_at Inner es s) u b o (λ t c w. refl))
keeps_stage Done es s u g b r e = absurd cc

kept_element : (g : List ℕ) (e u : ElementScan) (b : ℕ) → IsElementRead e g → element_step e b ≡ Some u → Keeps e u
unfolding element_step
kept_element g e u b r made = keeps_stage e.stage e.entries e.scan u g b r made

-- ---- each state that is reached can become whole

abbrev CanEnd : ElementScan → Type 0
CanEnd e = (rest : List ℕ) × (u : ElementScan) × ElementLeads e rest u × (is_whole_stage u.scan u.stage ≡ true)

-- from a state whose polynomial is begun
new_scan : (stage : Stage) (es : List (List Term)) (s : Scan) → s ≡ begun → CanEnd (element_at stage es begun)
    → CanEnd (element_at stage es s)
new_scan stage es s is can = subst (λ (t : Scan). CanEnd (element_at stage es t)) (sym is) can

can_end : (stage : Stage) (es : List (List Term)) (s : Scan) (g : List ℕ) → IsStageRead es s stage g
    → CanEnd (element_at stage es s)
unfolding element_step scan_step
can_end Outside es s g r = new_scan Outside es s r.1
    (codes "[0]", element_at Closed (es ++ (term_of false (factors.Code 0 ∷ []) ∷ []) ∷ []) begun, refl, refl)
can_end Opened es s g r = new_scan Opened es s r.0
    (codes "0]", element_at Closed (es ++ (term_of false (factors.Code 0 ∷ []) ∷ []) ∷ []) begun, refl, refl)
can_end Closed es s g r = ([], element_at Closed es s, refl, refl)
can_end Spaced es s g r = new_scan Spaced es s r.0 (
  codes "/0",
  element_at OneTerm es (record
      { terms = []; minus = false; factors = []; position = positions.Digits kinds.Code 1 0 }),
  refl,
  refl,
)
can_end Slash es s g r = new_scan Slash es s r.0 (
  codes "0",
  element_at OneTerm es (record
      { terms = []; minus = false; factors = []; position = positions.Digits kinds.Code 1 0 }),
  refl,
  refl,
)
can_end Paren es s g r = new_scan Paren es s r.0 (
  codes "0)",
  element_at Done es (record
      { terms = []; minus = false; factors = []; position = positions.Digits kinds.Code 1 0 }),
  refl,
  refl,
)
can_end Done es s g r = ([], element_at Done es s, refl, refl)
can_end OneTerm es s g r =
    let more = live_at (in_x false) s.terms s.minus s.factors s.position in (
      more.0,
      element_at OneTerm es more.1,
      lift false (element_at OneTerm es) (term_inside es) s more.1 more.0 more.2,
      more.3,
    )
can_end Entry es s g r =
    let more = live_at (in_x true) s.terms s.minus s.factors s.position in
    let f = whole_ended (in_x true) more.1.position more.3 in
    let last = last_ended (in_x true) more.1 more.1.position f.0 f.1 in
    let v : List Term = more.1.terms ++ term_of more.1.minus (more.1.factors ++ f.0 ∷ []) ∷ [] in (
      more.0 ++ codes "]",
      element_at Closed (es ++ v ∷ []) begun,
      element_then (element_at Entry es s) (element_at Entry es more.1) (element_at Closed (es ++ v ∷ []) begun) more.0
          (codes "]") (lift true (element_at Entry es) (entry_inside es) s more.1 more.0 more.2)
          (leads_one element_step (element_at Entry es more.1) (element_at Closed (es ++ v ∷ []) begun) 93
          (step-close es more.1 v (ap is_some f.1) last)),
      refl,
    )
can_end Inner es s g r =
    let more = live_at (in_x true) s.terms s.minus s.factors s.position in
    let f = whole_ended (in_x true) more.1.position more.3 in (
      more.0 ++ codes ")",
      element_at Done es more.1,
      element_then (element_at Inner es s) (element_at Inner es more.1) (element_at Done es more.1) more.0 (codes ")")
          (lift true (element_at Inner es) (inner_inside es) s more.1 more.0 more.2)
          (leads_one element_step (element_at Inner es more.1) (element_at Done es more.1) 41
          (step-done es more.1 (ap is_some f.1))),
      refl,
    )

-- ---- the machine of elements

abbrev pub is_whole_element : ElementScan → Bool
is_whole_element e = is_whole_stage e.scan e.stage

pub element_machine : IsMachine element_step outside is_whole_element last_element SpellsElement
element_machine = record {
  fresh = refl;
  none = refl;
  sound = λ g e leads is. whole_stage e.stage e.entries e.scan g (element_read g e leads) is;
  complete = λ v g spelled. leads_element v g spelled;
  live = λ g e leads. can_end e.stage e.entries e.scan g (element_read g e leads);
  kept = λ g e u b leads stepped unfinished. kept_element g e u b (element_read g e leads) stepped unfinished;
}
