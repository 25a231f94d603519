-- Between two words or numbers of a polynomial stands more than blanks. So it is told by three states: outside of a
-- word, in one, and behind one and blanks, where no further one may begin.
use Rattle.std.proofs.Common.{◌≡◌, ◌≢◌, ℕ, Bool, true, false, eqb, List, [], ◌∷◌, ◌++◌, codes, refl, sym, ap, subst, ◌∙◌, arith, inl, inr}
use Rattle.std.specs.Prelude.{if◌then◌else◌}
use Rattle.std.proofs.lemmas.Bool.{both_ways, cases_Bool}
use Rattle.ff_text.specs.declared.terms.Factor.{Factor}
use Rattle.ff_text.specs.declared.terms.Factor.TheVariants.{Code, X, Y}
use Rattle.ff_text.specs.declared.terms.Term.{Term}
use Rattle.ff_text.specs.Spelling.{Then, is_blank, Blanks, Around, Each, SpellsNumber, SpellsPower, SpellsFactor, SpellsFactors, FirstSign, NextSign, SpellsNext, SpellsTerms}
use Rattle.ff_script.specs.Grammar.{is_word_byte, begins_with_word, ends_with_word}
use Rattle.ff_script.proofs.Spans.{AllWord, head_same, tail_same, blank_no_word}
use Rattle.ff_script.proofs.Spelled.{digit_not, number_word, number_some}

-- ---- the states

pub data State : Type 0 where
  Outside : State
  InWord : State
  Apart : State
  Dead : State

abbrev on_word : State → State
on_word Outside = InWord
on_word InWord = InWord
on_word Apart = Dead
on_word Dead = Dead

abbrev on_blank : State → State
on_blank Outside = Outside
on_blank InWord = Apart
on_blank Apart = Apart
on_blank Dead = Dead

abbrev on_other : State → State
on_other Outside = Outside
on_other InWord = Outside
on_other Apart = Outside
on_other Dead = Dead

abbrev after : State → ℕ → State
after s b = if is_word_byte b then on_word s else if is_blank b then on_blank s else on_other s

-- the state behind the bytes
abbrev pub run : State → List ℕ → State
run s [] = s
run s (b ∷ bs) = run (after s b) bs

run_append : (s : State) (a b : List ℕ) → run s (a ++ b) ≡ run (run s a) b
run_append s [] b = refl
run_append s (c ∷ a) b = run_append (after s c) a b

run_then : {A B : List ℕ → Type 0} (s t u : State) (g : List ℕ) (w : Then A B g) → run s w.front ≡ t
    → run t w.back ≡ u → run s g ≡ u
run_then s t u g w first second = ap (run s) w.whole ∙ run_append s w.front w.back
    ∙ ap (λ (v : State). run v w.back) first ∙ second

stays_dead : (a : List ℕ) → run Dead a ≡ Dead
stays_dead [] = refl
stays_dead (b ∷ a) = elim (cases_Bool (is_word_byte b)) [
  | inl is ↦ rw is (stays_dead a)
  | inr not ↦ elim (cases_Bool (is_blank b)) [
    | inl is ↦ rw (not, is) (stays_dead a)
    | inr other ↦ rw (not, other) (stays_dead a)
  ]
]

-- ---- steps

step_word : (s : State) (b : ℕ) → is_word_byte b ≡ true → after s b ≡ on_word s
step_word s b is = rw is refl

step_blank : (s : State) (b : ℕ) → is_blank b ≡ true → after s b ≡ on_blank s
step_blank s b is = rw (blank_no_word b is, is) refl

words_stay : (a : List ℕ) → AllWord a → run InWord a ≡ InWord
words_stay [] h = refl
words_stay (b ∷ a) h = ap (λ (t : State). run t a) (step_word InWord b h.0) ∙ words_stay a h.1

words_run : (a : List ℕ) → AllWord a → a ≢ [] → run Outside a ≡ InWord
words_run [] h some = absurd (some refl)
words_run (b ∷ a) h some = ap (λ (t : State). run t a) (step_word Outside b h.0) ∙ words_stay a h.1

-- where blanks change nothing
blanks_stay : (s : State) (g : List ℕ) → on_blank s ≡ s → Blanks g → run s g ≡ s
blanks_stay s [] stays h = refl
blanks_stay s (b ∷ g) stays h = ap (λ (t : State). run t g) (step_blank s b h.0 ∙ stays) ∙ blanks_stay s g stays h.1

-- a mark behind a word and blanks
mark_run : (mark : List ℕ) → run InWord mark ≡ Outside → run Apart mark ≡ Outside → (g : List ℕ) → Around mark g
    → run InWord g ≡ Outside
mark_run mark near far g w = ap (run InWord) w.whole ∙ run_append InWord w.front w.back ∙ go w.front w.first
  where
    behind : (s : State) → run s mark ≡ Outside → run s w.back ≡ Outside
    behind s e = run_then s Outside Outside w.back w.second (ap (run s) w.second.first ∙ e)
        (blanks_stay Outside w.second.back refl w.second.second)

    go : (gap : List ℕ) → Blanks gap → run (run InWord gap) w.back ≡ Outside
    go [] h = behind InWord near
    go (b ∷ gap) h =
        let apart : run InWord (b ∷ gap) ≡ Apart = ap (λ (t : State). run t gap) (step_blank InWord b h.0)
        ∙ blanks_stay Apart gap refl h.1 in
        ap (λ (t : State). run t w.back) apart ∙ behind Apart far

-- ---- polynomials

number_run : (n : ℕ) (bytes : List ℕ) → SpellsNumber n bytes → run Outside bytes ≡ InWord
number_run n bytes h = words_run bytes (number_word n bytes h) (number_some n bytes h)

power_run : (letter : List ℕ) (n : ℕ) (bytes : List ℕ) → run Outside letter ≡ InWord → SpellsPower letter n bytes
    → run Outside bytes ≡ InWord
power_run letter n bytes e (inl h) = ap (run Outside) h.1 ∙ e
power_run letter n bytes e (inr h) =
    run_then Outside InWord InWord bytes h (ap (run Outside) h.first ∙ e)
    (run_then InWord Outside InWord h.back h.second (mark_run (codes "^") refl refl h.second.front h.second.first)
    (number_run n h.second.back h.second.second))

module _ {V : Type 0} (Part : V → List ℕ → Type 0) where
  each_run : (vs : List V) (bytes : List ℕ) → ((v : V) (b : List ℕ) → Part v b → run InWord b ≡ InWord)
      → Each Part vs bytes → run InWord bytes ≡ InWord
  each_run [] bytes one h = ap (run InWord) h
  each_run (v ∷ vs) bytes one h = run_then InWord InWord InWord bytes h (one v h.front h.first)
      (each_run vs h.back one h.second)

module _ (with_y : Bool) where
  factor_run : (f : Factor) (bytes : List ℕ) → SpellsFactor with_y f bytes → run Outside bytes ≡ InWord
  factor_run (Code n) bytes h = number_run n bytes h
  factor_run (X n) bytes h = power_run (codes "x") n bytes refl h
  factor_run (Y n) bytes h = power_run (codes "y") n bytes refl h.1

  factors_run : (fs : List Factor) (bytes : List ℕ) → SpellsFactors with_y fs bytes → run Outside bytes ≡ InWord
  factors_run [] bytes h = absurd h
  factors_run (f ∷ fs) bytes h = run_then Outside InWord InWord bytes h (factor_run f h.front h.first)
      (each_run (λ g. Then (Around (codes "*")) (SpellsFactor with_y g)) fs h.back
      (λ g b k. run_then InWord Outside InWord b k (mark_run (codes "*") refl refl k.front k.first)
      (factor_run g k.back k.second)) h.second)

  first_sign_run : (minus : Bool) (bytes : List ℕ) → FirstSign minus bytes → run Outside bytes ≡ Outside
  first_sign_run true bytes h = run_then Outside Outside Outside bytes h (ap (run Outside) h.first)
      (blanks_stay Outside h.back refl h.second)
  first_sign_run false bytes h = ap (run Outside) h

  next_sign_run : (minus : Bool) (bytes : List ℕ) → NextSign minus bytes → run InWord bytes ≡ Outside
  next_sign_run true bytes h = mark_run (codes "-") refl refl bytes h
  next_sign_run false bytes h = mark_run (codes "+") refl refl bytes h

  next_run : (t : Term) (bytes : List ℕ) → SpellsNext with_y t bytes → run InWord bytes ≡ InWord
  next_run t bytes h = run_then InWord Outside InWord bytes h (next_sign_run t.minus h.front h.first)
      (factors_run t.factors h.back h.second)

  -- a polynomial ends in a word
  pub terms_run : (ts : List Term) (bytes : List ℕ) → SpellsTerms with_y ts bytes → run Outside bytes ≡ InWord
  terms_run [] bytes h = absurd h
  terms_run (t ∷ ts) bytes h = run_then Outside InWord InWord bytes h
      (run_then Outside Outside InWord h.front h.first (first_sign_run t.minus h.first.front h.first.first)
      (factors_run t.factors h.first.back h.first.second))
      (each_run (SpellsNext with_y) ts h.back next_run h.second)

-- ---- where a run ends

blank_no_end : (s : State) → on_blank s ≢ InWord
blank_no_end Outside e = cc
blank_no_end InWord e = cc
blank_no_end Apart e = cc
blank_no_end Dead e = cc

other_no_end : (s : State) → on_other s ≢ InWord
other_no_end Outside e = cc
other_no_end InWord e = cc
other_no_end Apart e = cc
other_no_end Dead e = cc

last_word : (s : State) (b : ℕ) → after s b ≡ InWord → is_word_byte b ≡ true
last_word s b e = elim (cases_Bool (is_word_byte b)) [
  | inl is ↦ is
  | inr not ↦ elim (cases_Bool (is_blank b)) [
    | inl is ↦ absurd (blank_no_end s (sym (step_blank s b is) ∙ e))
    | inr other ↦ absurd (other_no_end s (rw (not, other) at e))
  ]
]

-- bytes that end in a word end with a word byte
pub run_ends : (s : State) (b : ℕ) (a : List ℕ) → run s (b ∷ a) ≡ InWord → ends_with_word (b ∷ a) ≡ true
run_ends s b [] e = last_word s b e
run_ends s b (c ∷ a) e = run_ends (after s b) c a e

-- of blanks and then a word byte, only blanks may stand behind a word and blanks, and no word ends there
apart_no_end : (gap rest c x : List ℕ) → Blanks gap → begins_with_word rest ≡ true → gap ++ rest ≡ c ++ x
    → run Apart c ≢ InWord
apart_no_end gap rest [] x blanks word e ended = let other : Apart ≡ InWord = ended in cc
apart_no_end [] [] (d ∷ c) x blanks word e ended = both_ways false refl word
apart_no_end [] (b ∷ rest) (d ∷ c) x blanks word e ended =
    let is : is_word_byte d ≡ true = subst (λ (n : ℕ). is_word_byte n ≡ true) (head_same b d rest (c ++ x) e) word in
    let dead : run Apart (d ∷ c) ≡ Dead = ap (λ (t : State). run t c) (step_word Apart d is) ∙ stays_dead c in
    let other : Dead ≡ InWord = sym dead ∙ ended in
    cc
apart_no_end (g ∷ gap) rest (d ∷ c) x blanks word e ended =
    let is : is_blank d ≡ true = subst (λ (n : ℕ). is_blank n ≡ true) (head_same g d (gap ++ rest) (c ++ x) e)
    blanks.0 in
    apart_no_end gap rest c x blanks.1 word (tail_same g d (gap ++ rest) (c ++ x) e)
    (ap (λ (t : State). run t c) (sym (step_blank Apart d is)) ∙ ended)

-- what ends in a word, with blanks and a word byte behind it, begins no longer text that does
pub not_longer : (a c gap rest x : List ℕ) → run Outside a ≡ InWord → run Outside (a ++ c) ≡ InWord → Blanks gap
    → gap ≢ [] → begins_with_word rest ≡ true → gap ++ rest ≡ c ++ x → c ≡ []
not_longer a [] gap rest x short long blanks some word e = refl
not_longer a (d ∷ c) [] rest x short long blanks some word e = absurd (some refl)
not_longer a (d ∷ c) (b ∷ gap) rest x short long blanks some word e =
    let is : is_blank d ≡ true = subst (λ (n : ℕ). is_blank n ≡ true) (head_same b d (gap ++ rest) (c ++ x) e)
    blanks.0 in
    let more : run Apart c ≡ InWord = ap (λ (t : State). run t c) (sym (step_blank InWord d is))
    ∙ ap (λ (t : State). run t (d ∷ c)) (sym short) ∙ sym (run_append Outside a (d ∷ c)) ∙ long in
    absurd (apart_no_end gap rest c x blanks.1 word (tail_same b d (gap ++ rest) (c ++ x) e) more)

-- ---- the first byte

-- the first byte isn't that of `inf`
abbrev IsNoInf : List ℕ → Type 0
IsNoInf [] = ⊥
IsNoInf (b ∷ bs) = eqb b 105 ≡ false

no_inf_before : (a b : List ℕ) → IsNoInf a → IsNoInf (a ++ b)
no_inf_before [] b h = absurd h
no_inf_before (c ∷ a) b h = h

number_no_inf : (n : ℕ) (bytes : List ℕ) → SpellsNumber n bytes → IsNoInf bytes
number_no_inf n [] h = absurd (number_some n [] h refl)
number_no_inf n (c ∷ cs) h = digit_not c 105 h.numeral.1.0 (λ k. omega arith)

power_no_inf : (letter : List ℕ) (n : ℕ) (bytes : List ℕ) → IsNoInf letter → SpellsPower letter n bytes → IsNoInf bytes
power_no_inf letter n bytes e (inl h) = subst IsNoInf (sym h.1) e
power_no_inf letter n bytes e (inr h) = subst IsNoInf (sym h.whole)
    (no_inf_before h.front h.back (subst IsNoInf (sym h.first) e))

factor_no_inf : (with_y : Bool) (f : Factor) (bytes : List ℕ) → SpellsFactor with_y f bytes → IsNoInf bytes
factor_no_inf with_y (Code n) bytes h = number_no_inf n bytes h
factor_no_inf with_y (X n) bytes h = power_no_inf (codes "x") n bytes refl h
factor_no_inf with_y (Y n) bytes h = power_no_inf (codes "y") n bytes refl h.1

factors_no_inf : (with_y : Bool) (fs : List Factor) (bytes : List ℕ) → SpellsFactors with_y fs bytes → IsNoInf bytes
factors_no_inf with_y [] bytes h = absurd h
factors_no_inf with_y (f ∷ fs) bytes h = subst IsNoInf (sym h.whole)
    (no_inf_before h.front h.back (factor_no_inf with_y f h.front h.first))

signed_no_inf : (minus : Bool) (front back : List ℕ) → FirstSign minus front → IsNoInf back → IsNoInf (front ++ back)
signed_no_inf true front back h k = no_inf_before front back
    (subst IsNoInf (sym h.whole) (no_inf_before h.front h.back (subst IsNoInf (sym h.first) refl)))
signed_no_inf false front back h k = subst (λ (t : List ℕ). IsNoInf (t ++ back)) (sym h) k

terms_no_inf : (with_y : Bool) (ts : List Term) (bytes : List ℕ) → SpellsTerms with_y ts bytes → IsNoInf bytes
terms_no_inf with_y [] bytes h = absurd h
terms_no_inf with_y (t ∷ ts) bytes h =
    let first : IsNoInf h.front = subst IsNoInf (sym h.first.whole)
    (signed_no_inf t.minus h.first.front h.first.back h.first.first
    (factors_no_inf with_y t.factors h.first.back h.first.second)) in
    subst IsNoInf (sym h.whole) (no_inf_before h.front h.back first)

-- no polynomial begins with the first letter of `inf`
pub not_inf : (with_y : Bool) (g : List Term) (front more x : List ℕ) → SpellsTerms with_y g front
    → front ++ more ≡ 105 ∷ x → ⊥
not_inf with_y g [] more x h e = terms_no_inf with_y g [] h
not_inf with_y g (c ∷ cs) more x h e =
    both_ways (eqb c 105) (terms_no_inf with_y g (c ∷ cs) h)
    (subst (λ (n : ℕ). eqb n 105 ≡ true) (sym (head_same c 105 (cs ++ more) x e)) refl)
