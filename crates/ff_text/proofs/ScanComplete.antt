-- What is spelled as a polynomial is read.
use Rattle.std.proofs.Common.{◌≡◌, ℕ, suc, ◌+◌, ◌-◌, ◌*◌, ◌≤◌, Bool, true, false, cond, nat_lt, List, [], ◌∷◌, ◌++◌, length, codes, Option, Some, None, refl, sym, ap, ◌∙◌, subst, append_assoc, inl, inr, arith}
use Rattle.std.specs.Prelude.{is_some}
use Rattle.std.specs.Char.{digit_value}
use Rattle.std.specs.Str.Parse.{AllDigits, digits_value_after}
use Rattle.std.specs.Option.{option_map}
use Rattle.std.proofs.lemmas.Bool.{lt-ltb}
use Rattle.std.proofs.lemmas.List.{append-nil}
use Rattle.ff_text.specs.declared.terms.Factor.{Factor}
use Rattle.ff_text.specs.declared.terms.Factor.TheVariants as factors
use Rattle.ff_text.specs.declared.terms.Term.{Term}
use Rattle.ff_text.specs.declared.scan.Rules.{Rules}
use Rattle.ff_text.specs.declared.scan.Mark.{Mark}
use Rattle.ff_text.specs.declared.scan.Mark.TheVariants as marks
use Rattle.ff_text.specs.declared.scan.Kind.{Kind}
use Rattle.ff_text.specs.declared.scan.Kind.TheVariants as kinds
use Rattle.ff_text.specs.declared.scan.Position.{Position}
use Rattle.ff_text.specs.declared.scan.Position.TheVariants.{Begin, Signed, Starred, Letter, Spaced, Raised, Digits, Behind}
use Rattle.ff_text.specs.declared.scan.Scan.{Scan}
use Rattle.ff_text.specs.Spelling.{Then, is_blank, Blanks, Around, Each, SpellsNumber, SpellsPower, SpellsFactor, SpellsFactors, FirstSign, NextSign, SpellsNext, SpellsTerms}
use Rattle.ff_text.specs.Scanning.{mark_of, factor_of, term_of, after_blank, after_digit, after_letter, after_raise, ended, moved, after_star, after_sign, after_minus, after_mark, scan_step, begun, is_whole_position, some_terms, last_at, last_terms}
use Rattle.ff_text.proofs.Machines.{Leads, leads_then, leads_one, IsMachine}
use Rattle.ff_text.proofs.Digits.{IsDigit, digit_of_value}
use Rattle.ff_text.proofs.Marks.{mark-blank, mark-digit}
use Rattle.ff_text.proofs.ScanSound.{scan_at, scanned, whole_scan}

regrouped : {A : Type 0} (front : List A) (u v : A) (more all : List A) → u ≡ v → all ≡ (front ++ u ∷ []) ++ more
    → all ≡ front ++ v ∷ more
regrouped {A = A} front u v more all same whole = whole ∙ append_assoc front (u ∷ []) more
    ∙ ap (λ (w : A). front ++ w ∷ more) same

abbrev pub is_whole_scan : Scan → Bool
is_whole_scan s = is_whole_position s.position

module _ (rules : Rules) where
  abbrev pub ScanLeads : Scan → List ℕ → Scan → Type 0
  ScanLeads = Leads (scan_step rules)

  scan_then : (s t u : Scan) (a b : List ℕ) → ScanLeads s a t → ScanLeads t b u → ScanLeads s (a ++ b) u
  scan_then s t u a b first second = leads_then (scan_step rules) s t u a b first second

  -- over a text of two parts
  scan_parts : {A B : List ℕ → Type 0} (s t u : Scan) (g : List ℕ) (w : Then A B g) → ScanLeads s w.front t
      → ScanLeads t w.back u → ScanLeads s g u
  scan_parts s t u g w first second = subst (λ (h : List ℕ). ScanLeads s h u) (sym w.whole)
      (scan_then s t u w.front w.back first second)

  -- ---- steps

  step-blank : (s : Scan) (b : ℕ) → is_blank b ≡ true → scan_step rules s b ≡ moved s (after_blank s.position)
  unfolding scan_step
  step-blank s b is = ap (after_mark rules s) (mark-blank b is)

  step-digit : (s : Scan) (b : ℕ) → IsDigit b → scan_step rules s b ≡ moved s (after_digit (b - 48) s.position)
  unfolding scan_step
  step-digit s b d = ap (after_mark rules s) (mark-digit b d)

  step-x : (s : Scan) → scan_step rules s 120 ≡ moved s (after_letter kinds.X s.position)
  unfolding scan_step
  step-x s = refl

  step-y : (s : Scan) → rules.y ≡ true → scan_step rules s 121 ≡ moved s (after_letter kinds.Y s.position)
  unfolding scan_step
  step-y s is = ap (λ b. moved s (cond b (after_letter kinds.Y s.position) None)) is

  step-raise : (s : Scan) → scan_step rules s 94 ≡ moved s (after_raise s.position)
  unfolding scan_step
  step-raise s = refl

  step-star : (s : Scan) → scan_step rules s 42 ≡ after_star s
  unfolding scan_step
  step-star s = refl

  step-plus : (s : Scan) → rules.signs ≡ true → scan_step rules s 43 ≡ after_sign false s
  unfolding scan_step
  step-plus s is = ap (λ b. cond b (after_sign false s) None) is

  step-minus : (s : Scan) → rules.signs ≡ true → scan_step rules s 45 ≡ after_minus s s.position
  unfolding scan_step
  step-minus s is = ap (λ b. cond b (after_minus s s.position) None) is

  -- ---- blanks

  -- where blanks change nothing
  leads_blanks : (s : Scan) (g : List ℕ) → after_blank s.position ≡ Some s.position → Blanks g → ScanLeads s g s
  leads_blanks s [] stays all = refl
  leads_blanks s (b ∷ g) stays all =
      let step : scan_step rules s b ≡ Some s = step-blank s b all.0 ∙ ap (moved s) stays in
      scan_then s s s (b ∷ []) g (leads_one (scan_step rules) s s b step) (leads_blanks s g stays all.1)

  -- where a factor may end
  record IsGap (p : Position) (f : Factor) (q : Position) : Type 0 where
    is_ended : ended q ≡ Some f
    raise : after_raise q ≡ after_raise p

  blank_ended : (p : Position) (f : Factor) → ended p ≡ Some f → (q : Position) × (after_blank p ≡ Some q) × IsGap p f q
  blank_ended Begin f e = absurd cc
  blank_ended Signed f e = absurd cc
  blank_ended Starred f e = absurd cc
  blank_ended (Raised k) f e = absurd cc
  blank_ended (Letter k) f e = (Spaced k, refl, record { is_ended = e; raise = refl })
  blank_ended (Spaced k) f e = (Spaced k, refl, record { is_ended = e; raise = refl })
  blank_ended (Digits k count n) f e = (Behind k n, refl, record { is_ended = e; raise = refl })
  blank_ended (Behind k n) f e = (Behind k n, refl, record { is_ended = e; raise = refl })

  leads_gap : (ts : List Term) (m : Bool) (fs : List Factor) (p : Position) (f : Factor) (g : List ℕ) → ended p ≡ Some f
      → Blanks g → (q : Position) × ScanLeads (scan_at ts m fs p) g (scan_at ts m fs q) × IsGap p f q
  leads_gap ts m fs p f [] e all = (p, refl, record { is_ended = e; raise = refl })
  leads_gap ts m fs p f (b ∷ g) e all =
      let one = blank_ended p f e in
      let step : scan_step rules (scan_at ts m fs p) b
      ≡ Some (scan_at ts m fs one.0) = step-blank (scan_at ts m fs p) b all.0
      ∙ ap (moved (scan_at ts m fs p)) one.1 in
      let more = leads_gap ts m fs one.0 f g one.2.is_ended all.1 in (
        more.0,
        scan_then (scan_at ts m fs p) (scan_at ts m fs one.0) (scan_at ts m fs more.0) (b ∷ []) g
            (leads_one (scan_step rules) (scan_at ts m fs p) (scan_at ts m fs one.0) b step) more.1,
        record { is_ended = more.2.is_ended; raise = more.2.raise ∙ one.2.raise },
      )

  -- ---- numbers

  leads_digits : (ts : List Term) (m : Bool) (fs : List Factor) (k : Kind) (count n : ℕ) (ds : List ℕ) → AllDigits 10 ds
      → count + length ds ≤ 9 → ScanLeads (scan_at ts m fs (Digits k count n)) ds
      (scan_at ts m fs (Digits k (count + length ds) (digits_value_after 10 n ds)))
  leads_digits ts m fs k count n [] all few = let same : count
      ≡ count + 0 = omega arith in ap
      (λ i. Some (scan_at ts m fs (Digits k i n))) same
  leads_digits ts m fs k count n (c ∷ cs) all few =
      let d = digit_of_value c all.0 in
      let room : nat_lt count 9 ≡ true = lt-ltb count 9 (omega arith) in
      let number : 10 * n + (c - 48) ≡ n * 10 + digit_value c = let v = d.value in omega arith in
      let longer : count + 1 + length cs ≡ count + suc (length cs) = omega arith in
      let step : scan_step rules (scan_at ts m fs (Digits k count n)) c
      ≡ Some (scan_at ts m fs (Digits k (count + 1) (n * 10 + digit_value c))) =
      step-digit (scan_at ts m fs (Digits k count n)) c d
      ∙ ap (λ b. moved (scan_at ts m fs (Digits k count n))
      (cond b (Some (Digits k (count + 1) (10 * n + (c - 48)))) None)) room
      ∙ ap (λ i. Some (scan_at ts m fs (Digits k (count + 1) i))) number in
      let more : ScanLeads (scan_at ts m fs (Digits k (count + 1) (n * 10 + digit_value c))) cs
      (scan_at ts m fs (Digits k (count + 1 + length cs) (digits_value_after 10 (n * 10 + digit_value c) cs))) =
      leads_digits ts m fs k (count + 1) (n * 10 + digit_value c) cs all.1 (omega arith) in
      scan_then (scan_at ts m fs (Digits k count n)) (scan_at ts m fs (Digits k (count + 1) (n * 10 + digit_value c)))
      (scan_at ts m fs (Digits k (count + suc (length cs)) (digits_value_after 10 (n * 10 + digit_value c) cs)))
      (c ∷ []) cs
      (leads_one (scan_step rules) (scan_at ts m fs (Digits k count n))
      (scan_at ts m fs (Digits k (count + 1) (n * 10 + digit_value c))) c step)
      (more ∙ ap (λ i. Some (scan_at ts m fs (Digits k i (digits_value_after 10 (n * 10 + digit_value c) cs)))) longer)

  -- a number may begin there
  leads_number : (ts : List Term) (m : Bool) (fs : List Factor) (p : Position) (k : Kind) (n : ℕ) (g : List ℕ)
      → ((d : ℕ) → after_digit d p ≡ Some (Digits k 1 d)) → SpellsNumber n g
      → (count : ℕ) × ScanLeads (scan_at ts m fs p) g (scan_at ts m fs (Digits k count n))
  leads_number ts m fs p k n [] begins s = absurd (let some = s.numeral.0 in omega arith)
  leads_number ts m fs p k n (c ∷ cs) begins s =
      let d = digit_of_value c s.numeral.1.0 in
      let first : c - 48 ≡ 0 * 10 + digit_value c = let v = d.value in omega arith in
      let few = s.few in
      let step : scan_step rules (scan_at ts m fs p) c
      ≡ Some (scan_at ts m fs (Digits k 1 (0 * 10 + digit_value c))) = step-digit (scan_at ts m fs p) c d
      ∙ ap (moved (scan_at ts m fs p)) (begins (c - 48))
      ∙ ap (λ i. Some (scan_at ts m fs (Digits k 1 i))) first in
      let more = leads_digits ts m fs k 1 (0 * 10 + digit_value c) cs s.numeral.1.1 (omega arith) in (
        1 + length cs,
        scan_then (scan_at ts m fs p) (scan_at ts m fs (Digits k 1 (0 * 10 + digit_value c)))
            (scan_at ts m fs (Digits k (1 + length cs) n)) (c ∷ []) cs
            (leads_one (scan_step rules) (scan_at ts m fs p) (scan_at ts m fs (Digits k 1 (0 * 10 + digit_value c))) c
            step)
            (more ∙ ap (λ i. Some (scan_at ts m fs (Digits k (1 + length cs) i))) s.value),
      )

  -- ---- factors

  -- a factor may begin there
  pub record IsReady (p : Position) : Type 0 where
    pub digit : (d : ℕ) → after_digit d p ≡ Some (Digits kinds.Code 1 d)
    pub letter : (k : Kind) → after_letter k p ≡ Some (Letter k)

  -- a factor ends there
  pub record IsDone (p : Position) (f : Factor) : Type 0 where
    pub is_ended : ended p ≡ Some f
    pub is_whole : is_whole_position p ≡ true

  pub ready_begin : IsReady Begin
  ready_begin = record { digit = λ d. refl; letter = λ k. refl }

  ready_signed : IsReady Signed
  ready_signed = record { digit = λ d. refl; letter = λ k. refl }

  ready_starred : IsReady Starred
  ready_starred = record { digit = λ d. refl; letter = λ k. refl }

  -- behind its letter
  leads_exponent : (ts : List Term) (m : Bool) (fs : List Factor) (k : Kind) (n : ℕ) (g : List ℕ)
      → Then (Around (codes "^")) (SpellsNumber n) g
      → (count : ℕ) × ScanLeads (scan_at ts m fs (Letter k)) g (scan_at ts m fs (Digits k count n))
  leads_exponent ts m fs k n g w =
      let around = w.first in
      let gap = leads_gap ts m fs (Letter k) (factor_of k 1) around.front refl around.first in
      let raised = around.second in
      let step : scan_step rules (scan_at ts m fs gap.0) 94
      ≡ Some (scan_at ts m fs (Raised k)) = step-raise (scan_at ts m fs gap.0)
      ∙ ap (moved (scan_at ts m fs gap.0)) gap.2.raise in
      let mark : ScanLeads (scan_at ts m fs gap.0) raised.front (scan_at ts m fs (Raised k)) = subst
      (λ (h : List ℕ). ScanLeads (scan_at ts m fs gap.0) h (scan_at ts m fs (Raised k))) (sym raised.first)
      (leads_one (scan_step rules) (scan_at ts m fs gap.0) (scan_at ts m fs (Raised k)) 94 step) in
      let blanks = leads_blanks (scan_at ts m fs (Raised k)) raised.back refl raised.second in
      let number = leads_number ts m fs (Raised k) k n w.back (λ d. refl) w.second in (
        number.0,
        scan_parts (scan_at ts m fs (Letter k)) (scan_at ts m fs (Raised k)) (scan_at ts m fs (Digits k number.0 n)) g w
            (scan_parts (scan_at ts m fs (Letter k)) (scan_at ts m fs gap.0) (scan_at ts m fs (Raised k)) w.front around
            gap.1
            (scan_parts (scan_at ts m fs gap.0) (scan_at ts m fs (Raised k)) (scan_at ts m fs (Raised k)) around.back
            raised mark blanks))
            number.1,
      )

  leads_power : (ts : List Term) (m : Bool) (fs : List Factor) (p : Position) (k : Kind) (letter : List ℕ) (n : ℕ)
      (g : List ℕ) → ScanLeads (scan_at ts m fs p) letter (scan_at ts m fs (Letter k)) → SpellsPower letter n g
      → (q : Position) × ScanLeads (scan_at ts m fs p) g (scan_at ts m fs q) × IsDone q (factor_of k n)
  leads_power ts m fs p k letter n g read (inl alone) = (
    Letter k,
    subst (λ (h : List ℕ). ScanLeads (scan_at ts m fs p) h (scan_at ts m fs (Letter k))) (sym alone.1) read,
    record { is_ended = ap (λ i. Some (factor_of k i)) (sym alone.0); is_whole = refl },
  )
  leads_power ts m fs p k letter n g read (inr w) =
      let more = leads_exponent ts m fs k n w.back w.second in (
        Digits k more.0 n,
        scan_parts (scan_at ts m fs p) (scan_at ts m fs (Letter k)) (scan_at ts m fs (Digits k more.0 n)) g w
            (subst (λ (h : List ℕ). ScanLeads (scan_at ts m fs p) h (scan_at ts m fs (Letter k))) (sym w.first) read)
            more.1,
        record { is_ended = refl; is_whole = refl },
      )

  leads_factor : (ts : List Term) (m : Bool) (fs : List Factor) (p : Position) (f : Factor) (g : List ℕ) → IsReady p
      → SpellsFactor rules.y f g → (q : Position) × ScanLeads (scan_at ts m fs p) g (scan_at ts m fs q) × IsDone q f
  leads_factor ts m fs p (factors.Code n) g r s =
      let number = leads_number ts m fs p kinds.Code n g r.digit s in
      (Digits kinds.Code number.0 n, number.1, record { is_ended = refl; is_whole = refl })
  leads_factor ts m fs p (factors.X n) g r s =
      let step : scan_step rules (scan_at ts m fs p) 120
      ≡ Some (scan_at ts m fs (Letter kinds.X)) = step-x (scan_at ts m fs p)
      ∙ ap (moved (scan_at ts m fs p)) (r.letter kinds.X) in
      leads_power ts m fs p kinds.X (codes "x") n g
      (leads_one (scan_step rules) (scan_at ts m fs p) (scan_at ts m fs (Letter kinds.X)) 120 step) s
  leads_factor ts m fs p (factors.Y n) g r s =
      let step : scan_step rules (scan_at ts m fs p) 121
      ≡ Some (scan_at ts m fs (Letter kinds.Y)) = step-y (scan_at ts m fs p) s.0
      ∙ ap (moved (scan_at ts m fs p)) (r.letter kinds.Y) in
      leads_power ts m fs p kinds.Y (codes "y") n g
      (leads_one (scan_step rules) (scan_at ts m fs p) (scan_at ts m fs (Letter kinds.Y)) 121 step) s.1

  -- a mark that ends a factor, with blanks on both sides
  leads_mark : (ts : List Term) (m : Bool) (fs : List Factor) (p : Position) (f : Factor) (c : ℕ) (u : Scan)
      (g : List ℕ) → ended p ≡ Some f → ((q : Position) → ended q ≡ Some f
      → scan_step rules (scan_at ts m fs q) c ≡ Some u) → after_blank u.position ≡ Some u.position → Around (c ∷ []) g
      → ScanLeads (scan_at ts m fs p) g u
  leads_mark ts m fs p f c u g e step stays w =
      let gap = leads_gap ts m fs p f w.front e w.first in
      let behind = w.second in
      let mark : ScanLeads (scan_at ts m fs gap.0) behind.front u = subst
      (λ (h : List ℕ). ScanLeads (scan_at ts m fs gap.0) h u) (sym behind.first)
      (leads_one (scan_step rules) (scan_at ts m fs gap.0) u c (step gap.0 gap.2.is_ended)) in
      scan_parts (scan_at ts m fs p) (scan_at ts m fs gap.0) u g w gap.1
      (scan_parts (scan_at ts m fs gap.0) u u w.back behind mark (leads_blanks u behind.back stays behind.second))

  leads_star : (ts : List Term) (m : Bool) (fs : List Factor) (p : Position) (f : Factor) (g : List ℕ)
      → ended p ≡ Some f → Around (codes "*") g → ScanLeads (scan_at ts m fs p) g (scan_at ts m (fs ++ f ∷ []) Starred)
  leads_star ts m fs p f g e w = leads_mark ts m fs p f 42 (scan_at ts m (fs ++ f ∷ []) Starred) g e
      (λ q is. step-star (scan_at ts m fs q) ∙ ap (λ o. option_map (λ d. scan_at ts m (fs ++ d ∷ []) Starred) o) is)
      refl w

  -- all factors of a term are read
  pub record AreRead (ts : List Term) (m : Bool) (from : Scan) (all : List Factor) (g : List ℕ) : Type 0 where
    pub front : List Factor
    pub last : Factor
    pub position : Position
    pub done : IsDone position last
    pub leads : ScanLeads from g (scan_at ts m front position)
    pub whole : front ++ last ∷ [] ≡ all

  leads_more_factors : (ts : List Term) (m : Bool) (fs more : List Factor) (p : Position) (f : Factor) (g : List ℕ)
      → IsDone p f → Each (λ d. Then (Around (codes "*")) (SpellsFactor rules.y d)) more g
      → AreRead ts m (scan_at ts m fs p) ((fs ++ f ∷ []) ++ more) g
  leads_more_factors ts m fs [] p f g done s = record {
    front = fs;
    last = f;
    position = p;
    done = done;
    leads = subst (λ (h : List ℕ). ScanLeads (scan_at ts m fs p) h (scan_at ts m fs p)) (sym s) refl;
    whole = sym (append-nil (fs ++ f ∷ []));
  }
  leads_more_factors ts m fs (d ∷ more) p f g done s =
      let part = s.first in
      let star = leads_star ts m fs p f part.front done.is_ended part.first in
      let one = leads_factor ts m (fs ++ f ∷ []) Starred d part.back ready_starred part.second in
      let rest = leads_more_factors ts m (fs ++ f ∷ []) more one.0 d s.back one.2 s.second in
      record {
        front = rest.front;
        last = rest.last;
        position = rest.position;
        done = rest.done;
        leads = scan_parts (scan_at ts m fs p) (scan_at ts m (fs ++ f ∷ []) one.0)
            (scan_at ts m rest.front rest.position) g s
            (scan_parts (scan_at ts m fs p) (scan_at ts m (fs ++ f ∷ []) Starred) (scan_at ts m (fs ++ f ∷ []) one.0)
            s.front part star one.1) rest.leads;
        whole = rest.whole ∙ append_assoc (fs ++ f ∷ []) (d ∷ []) more;
      }

  pub leads_factors : (ts : List Term) (m : Bool) (p : Position) (all : List Factor) (g : List ℕ) → IsReady p
      → SpellsFactors rules.y all g → AreRead ts m (scan_at ts m [] p) all g
  leads_factors ts m p [] g r s = absurd s
  leads_factors ts m p (f ∷ fs) g r s =
      let one = leads_factor ts m [] p f s.front r s.first in
      let rest = leads_more_factors ts m [] fs one.0 f s.back one.2 s.second in
      record {
        front = rest.front;
        last = rest.last;
        position = rest.position;
        done = rest.done;
        leads = scan_parts (scan_at ts m [] p) (scan_at ts m [] one.0) (scan_at ts m rest.front rest.position) g s one.1
            rest.leads;
        whole = rest.whole;
      }

  -- ---- terms

  minus_ended : (s : Scan) (p : Position) (f : Factor) → ended p ≡ Some f → after_minus s p ≡ after_sign true s
  minus_ended s Begin f e = absurd cc
  minus_ended s Signed f e = absurd cc
  minus_ended s Starred f e = absurd cc
  minus_ended s (Raised k) f e = absurd cc
  minus_ended s (Letter k) f e = refl
  minus_ended s (Spaced k) f e = refl
  minus_ended s (Digits k count n) f e = refl
  minus_ended s (Behind k n) f e = refl

  leads_sign : (ts : List Term) (m n : Bool) (fs : List Factor) (p : Position) (f : Factor) (g : List ℕ)
      → rules.signs ≡ true → ended p ≡ Some f → NextSign n g
      → ScanLeads (scan_at ts m fs p) g (scan_at (ts ++ term_of m (fs ++ f ∷ []) ∷ []) n [] Signed)
  leads_sign ts m true fs p f g signs e w = leads_mark ts m fs p f 45
      (scan_at (ts ++ term_of m (fs ++ f ∷ []) ∷ []) true [] Signed) g e (λ q is.
      step-minus (scan_at ts m fs q) signs ∙ minus_ended (scan_at ts m fs q) q f is
      ∙ ap (λ o. option_map (λ d. scan_at (ts ++ term_of m (fs ++ d ∷ []) ∷ []) true [] Signed) o) is) refl w
  leads_sign ts m false fs p f g signs e w = leads_mark ts m fs p f 43
      (scan_at (ts ++ term_of m (fs ++ f ∷ []) ∷ []) false [] Signed) g e (λ q is.
      step-plus (scan_at ts m fs q) signs
      ∙ ap (λ o. option_map (λ d. scan_at (ts ++ term_of m (fs ++ d ∷ []) ∷ []) false [] Signed) o) is) refl w

  -- all terms of a polynomial are read
  record IsPolyRead (from : Scan) (all : List Term) (g : List ℕ) : Type 0 where
    terms : List Term
    minus : Bool
    front : List Factor
    last : Factor
    position : Position
    done : IsDone position last
    leads : ScanLeads from g (scan_at terms minus front position)
    whole : terms ++ term_of minus (front ++ last ∷ []) ∷ [] ≡ all

  leads_more_terms : (ts : List Term) (m : Bool) (fs : List Factor) (more : List Term) (p : Position) (f : Factor)
      (g : List ℕ) → rules.signs ≡ true → IsDone p f → Each (SpellsNext rules.y) more g
      → IsPolyRead (scan_at ts m fs p) ((ts ++ term_of m (fs ++ f ∷ []) ∷ []) ++ more) g
  leads_more_terms ts m fs [] p f g signs done s = record {
    terms = ts;
    minus = m;
    front = fs;
    last = f;
    position = p;
    done = done;
    leads = subst (λ (h : List ℕ). ScanLeads (scan_at ts m fs p) h (scan_at ts m fs p)) (sym s) refl;
    whole = sym (append-nil (ts ++ term_of m (fs ++ f ∷ []) ∷ []));
  }
  leads_more_terms ts m fs (t ∷ more) p f g signs done s =
      let part = s.first in
      let sign = leads_sign ts m t.minus fs p f part.front signs done.is_ended part.first in
      let one = leads_factors (ts ++ term_of m (fs ++ f ∷ []) ∷ []) t.minus Signed t.factors part.back ready_signed
      part.second in
      let rest = leads_more_terms (ts ++ term_of m (fs ++ f ∷ []) ∷ []) t.minus one.front more one.position one.last
      s.back signs one.done s.second in
      let same : term_of t.minus (one.front ++ one.last ∷ []) ≡ t = ap (term_of t.minus) one.whole in
      record {
        terms = rest.terms;
        minus = rest.minus;
        front = rest.front;
        last = rest.last;
        position = rest.position;
        done = rest.done;
        leads = scan_parts (scan_at ts m fs p)
            (scan_at (ts ++ term_of m (fs ++ f ∷ []) ∷ []) t.minus one.front one.position)
            (scan_at rest.terms rest.minus rest.front rest.position) g s
            (scan_parts (scan_at ts m fs p) (scan_at (ts ++ term_of m (fs ++ f ∷ []) ∷ []) t.minus [] Signed)
            (scan_at (ts ++ term_of m (fs ++ f ∷ []) ∷ []) t.minus one.front one.position) s.front part sign
            one.leads) rest.leads;
        whole = regrouped (ts ++ term_of m (fs ++ f ∷ []) ∷ []) (term_of t.minus (one.front ++ one.last ∷ [])) t more
            (rest.terms ++ term_of rest.minus (rest.front ++ rest.last ∷ []) ∷ []) same rest.whole;
      }

  leads_first : (m : Bool) (g : List ℕ) → rules.signs ≡ true → FirstSign m g
      → (p : Position) × ScanLeads begun g (scan_at [] m [] p) × IsReady p
  leads_first true g signs w =
      let mark : ScanLeads begun w.front (scan_at [] true [] Signed) = subst
      (λ (h : List ℕ). ScanLeads begun h (scan_at [] true [] Signed)) (sym w.first)
      (leads_one (scan_step rules) begun (scan_at [] true [] Signed) 45 (step-minus begun signs)) in (
        Signed,
        scan_parts begun (scan_at [] true [] Signed) (scan_at [] true [] Signed) g w mark
            (leads_blanks (scan_at [] true [] Signed) w.back refl w.second),
        ready_signed,
      )
  leads_first false g signs w = (Begin, subst (λ (h : List ℕ). ScanLeads begun h begun) (sym w) refl, ready_begin)

  leads_terms : (all : List Term) (g : List ℕ) → rules.signs ≡ true → SpellsTerms rules.y all g → IsPolyRead begun all g
  leads_terms [] g signs s = absurd s
  leads_terms (t ∷ ts) g signs s =
      let part = s.first in
      let sign = leads_first t.minus part.front signs part.first in
      let one = leads_factors [] t.minus sign.0 t.factors part.back sign.2 part.second in
      let rest = leads_more_terms [] t.minus one.front ts one.position one.last s.back signs one.done s.second in
      let same : term_of t.minus (one.front ++ one.last ∷ []) ≡ t = ap (term_of t.minus) one.whole in
      record {
        terms = rest.terms;
        minus = rest.minus;
        front = rest.front;
        last = rest.last;
        position = rest.position;
        done = rest.done;
        leads = scan_parts begun (scan_at [] t.minus one.front one.position)
            (scan_at rest.terms rest.minus rest.front rest.position) g s
            (scan_parts begun (scan_at [] t.minus [] sign.0) (scan_at [] t.minus one.front one.position) s.front part
            sign.1 one.leads) rest.leads;
        whole = regrouped [] (term_of t.minus (one.front ++ one.last ∷ [])) t ts
            (rest.terms ++ term_of rest.minus (rest.front ++ rest.last ∷ []) ∷ []) same rest.whole;
      }

  pub last_ended : (s : Scan) (p : Position) (f : Factor) → ended p ≡ Some f
      → last_at s p ≡ Some (s.terms ++ term_of s.minus (s.factors ++ f ∷ []) ∷ [])
  last_ended s Begin f e = absurd cc
  last_ended s Signed f e = absurd cc
  last_ended s Starred f e = absurd cc
  last_ended s (Raised k) f e = absurd cc
  last_ended s (Letter k) f e = ap (λ o. option_map (λ d. s.terms ++ term_of s.minus (s.factors ++ d ∷ []) ∷ []) o) e
  last_ended s (Spaced k) f e = ap (λ o. option_map (λ d. s.terms ++ term_of s.minus (s.factors ++ d ∷ []) ∷ []) o) e
  last_ended s (Digits k count n) f e = ap
      (λ o. option_map (λ d. s.terms ++ term_of s.minus (s.factors ++ d ∷ []) ∷ []) o) e
  last_ended s (Behind k n) f e = ap (λ o. option_map (λ d. s.terms ++ term_of s.minus (s.factors ++ d ∷ []) ∷ []) o) e

  -- what is spelled as a polynomial leads to its value
  pub leads_poly : (v : List Term) (g : List ℕ) → rules.signs ≡ true → SpellsTerms rules.y v g
      → (s : Scan) × ScanLeads begun g s × (is_whole_position s.position ≡ true) × (last_terms s ≡ Some v)
  leads_poly v g signs spelled =
      let r = leads_terms v g signs spelled in (
        scan_at r.terms r.minus r.front r.position,
        r.leads,
        r.done.is_whole,
        last_ended (scan_at r.terms r.minus r.front r.position) r.position r.last r.done.is_ended
            ∙ ap (λ u. Some u) r.whole,
      )

  pub whole_ended : (p : Position) → is_whole_position p ≡ true → (f : Factor) × (ended p ≡ Some f)
  whole_ended Begin is = absurd cc
  whole_ended Signed is = absurd cc
  whole_ended Starred is = absurd cc
  whole_ended (Letter k) is = (factor_of k 1, refl)
  whole_ended (Spaced k) is = absurd cc
  whole_ended (Raised k) is = absurd cc
  whole_ended (Digits k count n) is = (factor_of k n, refl)
  whole_ended (Behind k n) is = absurd cc

  -- blanks behind a polynomial keep it
  pub scan_gap : (s : Scan) (g : List ℕ) → is_whole_position s.position ≡ true → Blanks g
      → (t : Scan) × ScanLeads s g t × (is_some (ended t.position) ≡ true) × (last_terms t ≡ last_terms s)
  scan_gap s g is all =
      let f = whole_ended s.position is in
      let gap = leads_gap s.terms s.minus s.factors s.position f.0 g f.1 all in (
        scan_at s.terms s.minus s.factors gap.0,
        gap.1,
        ap is_some gap.2.is_ended,
        last_ended (scan_at s.terms s.minus s.factors gap.0) gap.0 f.0 gap.2.is_ended
            ∙ sym (last_ended s s.position f.0 f.1),
      )

  -- one term without a sign leads to its value, whether signs may stand or not
  pub leads_term : (all : List Factor) (g : List ℕ) → SpellsFactors rules.y all g
      → (s : Scan) × ScanLeads begun g s × (is_whole_position s.position ≡ true)
      × (last_terms s ≡ Some (term_of false all ∷ []))
  leads_term all g spelled =
      let r = leads_factors [] false Begin all g ready_begin spelled in (
        scan_at [] false r.front r.position,
        r.leads,
        r.done.is_whole,
        last_ended (scan_at [] false r.front r.position) r.position r.last r.done.is_ended
            ∙ ap (λ fs. Some (term_of false fs ∷ [])) r.whole,
      )

  -- ---- what isn't whole keeps the last value

  kept_blank : (s : Scan) (p q : Position) → after_blank p ≡ Some q
      → last_at (scan_at s.terms s.minus s.factors q) q ≡ last_at s p
  kept_blank s Begin q e = absurd cc
  kept_blank s Signed q e = let same : Signed
      ≡ q = cc in ap (λ r. last_at (scan_at s.terms s.minus s.factors r) r) (sym same)
  kept_blank s Starred q e = let same : Starred
      ≡ q = cc in ap (λ r. last_at (scan_at s.terms s.minus s.factors r) r) (sym same)
  kept_blank s (Letter k) q e = let same : Spaced k
      ≡ q = cc in ap (λ r. last_at (scan_at s.terms s.minus s.factors r) r) (sym same)
  kept_blank s (Spaced k) q e = let same : Spaced k
      ≡ q = cc in ap (λ r. last_at (scan_at s.terms s.minus s.factors r) r) (sym same)
  kept_blank s (Raised k) q e = let same : Raised k
      ≡ q = cc in ap (λ r. last_at (scan_at s.terms s.minus s.factors r) r) (sym same)
  kept_blank s (Digits k count n) q e = let same : Behind k n
      ≡ q = cc in ap (λ r. last_at (scan_at s.terms s.minus s.factors r) r)
      (sym same)
  kept_blank s (Behind k n) q e = let same : Behind k n
      ≡ q = cc in ap (λ r. last_at (scan_at s.terms s.minus s.factors r) r) (sym same)

  kept_raise : (s : Scan) (p q : Position) → after_raise p ≡ Some q
      → last_at (scan_at s.terms s.minus s.factors q) q ≡ last_at s p
  kept_raise s Begin q e = absurd cc
  kept_raise s Signed q e = absurd cc
  kept_raise s Starred q e = absurd cc
  kept_raise s (Letter k) q e = let same : Raised k
      ≡ q = cc in ap (λ r. last_at (scan_at s.terms s.minus s.factors r) r) (sym same)
  kept_raise s (Spaced k) q e = let same : Raised k
      ≡ q = cc in ap (λ r. last_at (scan_at s.terms s.minus s.factors r) r) (sym same)
  kept_raise s (Raised k) q e = absurd cc
  kept_raise s (Digits k count n) q e = absurd cc
  kept_raise s (Behind k n) q e = absurd cc

  digit_whole : (d : ℕ) (p q : Position) → after_digit d p ≡ Some q → is_whole_position q ≡ true
  digit_whole d Begin q e = let same : Digits kinds.Code 1 d ≡ q = cc in ap is_whole_position (sym same)
  digit_whole d Signed q e = let same : Digits kinds.Code 1 d ≡ q = cc in ap is_whole_position (sym same)
  digit_whole d Starred q e = let same : Digits kinds.Code 1 d ≡ q = cc in ap is_whole_position (sym same)
  digit_whole d (Letter k) q e = absurd cc
  digit_whole d (Spaced k) q e = absurd cc
  digit_whole d (Raised k) q e = let same : Digits k 1 d ≡ q = cc in ap is_whole_position (sym same)
  digit_whole d (Digits k count n) q e = go (nat_lt count 9) e
    where
      go : (t : Bool) → cond t (Some (Digits k (count + 1) (10 * n + d))) None ≡ Some q → is_whole_position q ≡ true
      go true is = let same : Digits k (count + 1) (10 * n + d) ≡ q = cc in ap is_whole_position (sym same)
      go false is = absurd cc
  digit_whole d (Behind k n) q e = absurd cc

  letter_whole : (k : Kind) (p q : Position) → after_letter k p ≡ Some q → is_whole_position q ≡ true
  letter_whole k Begin q e = let same : Letter k ≡ q = cc in ap is_whole_position (sym same)
  letter_whole k Signed q e = let same : Letter k ≡ q = cc in ap is_whole_position (sym same)
  letter_whole k Starred q e = let same : Letter k ≡ q = cc in ap is_whole_position (sym same)
  letter_whole k (Letter j) q e = absurd cc
  letter_whole k (Spaced j) q e = absurd cc
  letter_whole k (Raised j) q e = absurd cc
  letter_whole k (Digits j count n) q e = absurd cc
  letter_whole k (Behind j n) q e = absurd cc

  kept_moved : (s t : Scan) (o : Option Position) → moved s o ≡ Some t
      → ((q : Position) → o ≡ Some q → is_whole_position q ≡ false
      → last_at (scan_at s.terms s.minus s.factors q) q ≡ last_terms s) → is_whole_position t.position ≡ false
      → last_terms t ≡ last_terms s
  kept_moved s t None e keeps unfinished = absurd cc
  kept_moved s t (Some q) e keeps unfinished =
      let same : scan_at s.terms s.minus s.factors q ≡ t = cc in
      subst (λ (u : Scan). is_whole_position u.position ≡ false → last_terms u ≡ last_terms s) same (keeps q refl)
      unfinished

  not_both : {A : Type 0} (b : Bool) → b ≡ true → b ≡ false → A
  not_both b holds fails = absurd cc

  some_push : (ts : List Term) (t : Term) → some_terms (ts ++ t ∷ []) ≡ Some (ts ++ t ∷ [])
  some_push [] t = refl
  some_push (u ∷ ts) t = refl

  kept_star : (s t : Scan) → after_star s ≡ Some t → last_terms t ≡ last_terms s
  kept_star s t e = go (ended s.position) refl e
    where
      go : (o : Option Factor) → ended s.position ≡ o
          → option_map (λ f. scan_at s.terms s.minus (s.factors ++ f ∷ []) Starred) o ≡ Some t
          → last_terms t ≡ last_terms s
      go None is none = absurd cc
      go (Some f) is some =
          let same : scan_at s.terms s.minus (s.factors ++ f ∷ []) Starred ≡ t = cc in
          ap last_terms (sym same) ∙ sym (last_ended s s.position f is)

  kept_sign : (m : Bool) (s t : Scan) → after_sign m s ≡ Some t → last_terms t ≡ last_terms s
  kept_sign m s t e = go (ended s.position) refl e
    where
      go : (o : Option Factor) → ended s.position ≡ o
          → option_map (λ f. scan_at (s.terms ++ term_of s.minus (s.factors ++ f ∷ []) ∷ []) m [] Signed) o ≡ Some t
          → last_terms t ≡ last_terms s
      go None is none = absurd cc
      go (Some f) is some =
          let same : scan_at (s.terms ++ term_of s.minus (s.factors ++ f ∷ []) ∷ []) m [] Signed ≡ t = cc in
          ap last_terms (sym same) ∙ some_push s.terms (term_of s.minus (s.factors ++ f ∷ []))
          ∙ sym (last_ended s s.position f is)

  kept_minus : (s t : Scan) (p : Position) → s.position ≡ p → after_minus s p ≡ Some t → last_terms t ≡ last_terms s
  kept_minus s t Begin is e =
      let same : scan_at s.terms true s.factors Signed ≡ t = cc in
      ap last_terms (sym same) ∙ ap (last_at s) (sym is)
  kept_minus s t Signed is e = absurd cc
  kept_minus s t Starred is e = absurd cc
  kept_minus s t (Letter k) is e = kept_sign true s t e
  kept_minus s t (Spaced k) is e = kept_sign true s t e
  kept_minus s t (Raised k) is e = absurd cc
  kept_minus s t (Digits k count n) is e = kept_sign true s t e
  kept_minus s t (Behind k n) is e = kept_sign true s t e

  allowed : {A : Type 0} (b : Bool) (o : Option A) (x : A) → cond b o None ≡ Some x → o ≡ Some x
  allowed true o x e = e
  allowed false o x e = absurd cc

  kept_mark : (m : Mark) (s t : Scan) → after_mark rules s m ≡ Some t → is_whole_position t.position ≡ false
      → last_terms t ≡ last_terms s
  kept_mark marks.Blank s t e unfinished = kept_moved s t (after_blank s.position) e
      (λ q is not. kept_blank s s.position q is) unfinished
  kept_mark (marks.Digit d) s t e unfinished = kept_moved s t (after_digit d s.position) e
      (λ q is not. not_both (is_whole_position q) (digit_whole d s.position q is) not) unfinished
  kept_mark marks.X s t e unfinished = kept_moved s t (after_letter kinds.X s.position) e
      (λ q is not. not_both (is_whole_position q) (letter_whole kinds.X s.position q is) not) unfinished
  kept_mark marks.Y s t e unfinished = kept_moved s t (cond rules.y (after_letter kinds.Y s.position) None) e
      (λ q is not. not_both (is_whole_position q)
      (letter_whole kinds.Y s.position q (allowed rules.y (after_letter kinds.Y s.position) q is)) not) unfinished
  kept_mark marks.Raise s t e unfinished = kept_moved s t (after_raise s.position) e
      (λ q is not. kept_raise s s.position q is) unfinished
  kept_mark marks.Star s t e unfinished = kept_star s t e
  kept_mark marks.Plus s t e unfinished = kept_sign false s t (allowed rules.signs (after_sign false s) t e)
  kept_mark marks.Minus s t e unfinished = kept_minus s t s.position refl
      (allowed rules.signs (after_minus s s.position) t e)
  kept_mark marks.Other s t e unfinished = absurd cc

  pub kept_scan : (s t : Scan) (b : ℕ) → scan_step rules s b ≡ Some t → is_whole_position t.position ≡ false
      → last_terms t ≡ last_terms s
  unfolding scan_step
  kept_scan s t b e unfinished = kept_mark (mark_of b) s t e unfinished

  -- ---- each state can become whole

  pub live_at : (ts : List Term) (m : Bool) (fs : List Factor) (p : Position)
      → (rest : List ℕ) × (t : Scan) × ScanLeads (scan_at ts m fs p) rest t × (is_whole_position t.position ≡ true)
  unfolding scan_step
  live_at ts m fs Begin = (codes "0", scan_at ts m fs (Digits kinds.Code 1 0), refl, refl)
  live_at ts m fs Signed = (codes "0", scan_at ts m fs (Digits kinds.Code 1 0), refl, refl)
  live_at ts m fs Starred = (codes "0", scan_at ts m fs (Digits kinds.Code 1 0), refl, refl)
  live_at ts m fs (Letter k) = ([], scan_at ts m fs (Letter k), refl, refl)
  live_at ts m fs (Spaced k) = (codes "*0", scan_at ts m (fs ++ factor_of k 1 ∷ []) (Digits kinds.Code 1 0), refl, refl)
  live_at ts m fs (Raised k) = (codes "0", scan_at ts m fs (Digits k 1 0), refl, refl)
  live_at ts m fs (Digits k count n) = ([], scan_at ts m fs (Digits k count n), refl, refl)
  live_at ts m fs (Behind k n) = (
    codes "*0",
    scan_at ts m (fs ++ factor_of k n ∷ []) (Digits kinds.Code 1 0),
    refl,
    refl,
  )

  -- ---- the machine of polynomials

  pub scan_machine : rules.signs ≡ true → IsMachine (scan_step rules) begun is_whole_scan last_terms
      (SpellsTerms rules.y)
  scan_machine signs = record {
    fresh = refl;
    none = refl;
    sound = λ g s leads is. whole_scan rules s s.position g (scanned rules g s leads) is;
    complete = λ v g spelled. leads_poly v g signs spelled;
    live = λ g s leads. live_at s.terms s.minus s.factors s.position;
    kept = λ g s t b leads stepped unfinished. kept_scan s t b stepped unfinished;
  }
