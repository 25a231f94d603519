-- Runs of blanks and of word bytes at the front of a list.
use Rattle.std.proofs.Common.{◌≡◌, ◌≢◌, ℕ, suc, Bool, true, false, cond, not, eqb, ltb, ◌+◌, ◌-◌, ◌<◌, ◌≤◌, ◌||◌, List, [], ◌∷◌, ◌++◌, length, take, drop, get_or, drop-cons, Some, None, refl, sym, ap, subst, ◌∙◌, arith, ◌⊎◌, inl, inr}
use Rattle.std.specs.Prelude.{IsTrue, position}
use Rattle.std.specs.List.{AllByRecursion, position_or_len}
use Rattle.std.proofs.lemmas.Bool.{eqb-true, or_cases, cases_Bool, both_ways, ltb-false}
use Rattle.std.proofs.lemmas.List.{get_or-take, length-take-le, take_rest}
use Rattle.std.proofs.lemmas.List.Elements.{recursion_from_All}
use Rattle.std.proofs.lemmas.List.Quantifiers.{position-Some}
use Rattle.ff_text.specs.Spelling.{is_blank, Blanks}
use Rattle.ff_script.specs.Grammar.{is_word_byte, begins_with_word, ends_with_word}
use Rattle.ff_script.specs.Reading.{behind_blanks, begins_with_blank}

-- ---- lists

pub head_same : (b c : ℕ) (bs cs : List ℕ) → b ∷ bs ≡ c ∷ cs → b ≡ c
head_same b c bs cs e = cc

pub tail_same : (b c : ℕ) (bs cs : List ℕ) → b ∷ bs ≡ c ∷ cs → bs ≡ cs
tail_same b c bs cs e = cc

-- two fronts of one length
pub fronts_same : (a b x y : List ℕ) → length a ≡ length b → a ++ x ≡ b ++ y → (a ≡ b) × (x ≡ y)
fronts_same [] [] x y l e = (refl, e)
fronts_same [] (c ∷ b) x y l e = absurd (omega arith)
fronts_same (c ∷ a) [] x y l e = absurd (omega arith)
fronts_same (c ∷ a) (d ∷ b) x y l e =
    let head : c ≡ d = head_same c d (a ++ x) (b ++ y) e in
    let more = fronts_same a b x y (omega arith) (tail_same c d (a ++ x) (b ++ y) e) in
    let tail : a ≡ b = more.0 in
    (cc, more.1)

module _ (P : ℕ → Type 0) where
  pub all_append : (a b : List ℕ) → AllByRecursion P a → AllByRecursion P b → AllByRecursion P (a ++ b)
  all_append [] b h k = k
  all_append (c ∷ a) b h k = (h.0, all_append a b h.1 k)

  pub all_front : (a b : List ℕ) → AllByRecursion P (a ++ b) → AllByRecursion P a
  all_front [] b h = tt
  all_front (c ∷ a) b h = (h.0, all_front a b h.1)

  pub all_back : (a b : List ℕ) → AllByRecursion P (a ++ b) → AllByRecursion P b
  all_back [] b h = h
  all_back (c ∷ a) b h = all_back a b h.1

-- ---- blanks

-- a blank is one of three bytes
pub blank_byte : (b : ℕ) → is_blank b ≡ true → (b ≡ 32) ⊎ ((b ≡ 9) ⊎ (b ≡ 13))
blank_byte b h = elim (or_cases (eqb b 32 || eqb b 9) (eqb b 13) h) [
  | inl k ↦ elim (or_cases (eqb b 32) (eqb b 9) k) [
    | inl e ↦ inl (eqb-true b 32 e)
    | inr e ↦ inr (inl (eqb-true b 9 e))
  ]
  | inr e ↦ inr (inr (eqb-true b 13 e))
]

-- a fact of the three blanks holds of each blank
pub each_blank : (P : ℕ → Type 0) → P 32 → P 9 → P 13 → (b : ℕ) → is_blank b ≡ true → P b
each_blank P p q r b h = elim (blank_byte b h) [
  | inl e ↦ subst P (sym e) p
  | inr k ↦ elim k [ inl e ↦ subst P (sym e) q | inr e ↦ subst P (sym e) r ]
]

pub blank_no_word : (b : ℕ) → is_blank b ≡ true → is_word_byte b ≡ false
blank_no_word b h = each_blank (λ c. is_word_byte c ≡ false) refl refl refl b h

-- blanks are passed
pub blanks_passed : (gap rest : List ℕ) → Blanks gap → begins_with_blank rest ≡ false
    → behind_blanks (gap ++ rest) ≡ rest
blanks_passed [] [] h e = refl
blanks_passed [] (b ∷ bs) h e = rw e refl
blanks_passed (g ∷ gap) rest h e = rw h.0 (blanks_passed gap rest h.1 e)

-- what is passed is blanks
pub record IsPassed (bytes rest : List ℕ) : Type 0 where
  pub gap : List ℕ
  pub blanks : Blanks gap
  pub whole : bytes ≡ gap ++ rest
  pub edge : begins_with_blank rest ≡ false

pub passed : (bytes : List ℕ) → IsPassed bytes (behind_blanks bytes)
passed [] = record { gap = []; blanks = tt; whole = refl; edge = refl }
passed (b ∷ bs) = elim (cases_Bool (is_blank b)) [
  | inl is ↦
      let more = passed bs in
      rw is (record {
        gap = b ∷ more.gap;
        blanks = (is, more.blanks);
        whole = ap (λ (t : List ℕ). b ∷ t) more.whole;
        edge = more.edge;
      })
  | inr not ↦ rw not (record { gap = []; blanks = tt; whole = refl; edge = not })
]

-- blanks, and then what doesn't begin with one, in one way
pub blanks_same : (a b x y : List ℕ) → Blanks a → Blanks b → begins_with_blank x ≡ false → begins_with_blank y ≡ false
    → a ++ x ≡ b ++ y → x ≡ y
blanks_same a b x y is_a is_b edge_x edge_y e = sym (blanks_passed a x is_a edge_x) ∙ ap behind_blanks e
    ∙ blanks_passed b y is_b edge_y

-- ---- word bytes

abbrev pub AllWord : List ℕ → Type 0
AllWord bytes = AllByRecursion (λ b. IsTrue (is_word_byte b)) bytes

pub gap_no_word : (gap rest : List ℕ) → Blanks gap → begins_with_word rest ≡ false
    → begins_with_word (gap ++ rest) ≡ false
gap_no_word [] rest h e = e
gap_no_word (g ∷ gap) rest h e = blank_no_word g h.0

pub some_gap_no_word : (gap rest : List ℕ) → Blanks gap → gap ≢ [] → begins_with_word (gap ++ rest) ≡ false
some_gap_no_word [] rest h some = absurd (some refl)
some_gap_no_word (g ∷ gap) rest h some = blank_no_word g h.0

pub word_goes_on : (a b : List ℕ) → begins_with_word a ≡ true → begins_with_word (a ++ b) ≡ true
word_goes_on [] b h = absurd (both_ways false refl h)
word_goes_on (c ∷ a) b h = h

pub all_word_ends : (a : List ℕ) → AllWord a → a ≢ [] → ends_with_word a ≡ true
all_word_ends [] h some = absurd (some refl)
all_word_ends (b ∷ []) h some = h.0
all_word_ends (b ∷ c ∷ a) h some = all_word_ends (c ∷ a) h.1 (λ e. cc)

-- a run of word bytes that isn't shorter than another, which ends there
pub words_longest : (a b x y : List ℕ) → AllWord a → begins_with_word y ≡ false → length b ≤ length a → a ++ x ≡ b ++ y
    → (a ≡ b) × (x ≡ y)
words_longest [] [] x y h ended l e = (refl, e)
words_longest [] (d ∷ b) x y h ended l e = absurd (omega arith)
words_longest (c ∷ a) [] x y h ended l e = absurd (both_ways (is_word_byte c) (ap begins_with_word e ∙ ended) h.0)
words_longest (c ∷ a) (d ∷ b) x y h ended l e =
    let head : c ≡ d = head_same c d (a ++ x) (b ++ y) e in
    let more = words_longest a b x y h.1 ended (omega arith) (tail_same c d (a ++ x) (b ++ y) e) in
    let tail : a ≡ b = more.0 in
    (cc, more.1)

-- two runs of word bytes that end where they end
pub words_same : (a b x y : List ℕ) → AllWord a → AllWord b → begins_with_word x ≡ false → begins_with_word y ≡ false
    → a ++ x ≡ b ++ y → (a ≡ b) × (x ≡ y)
words_same [] [] x y h k ended_x ended_y e = (refl, e)
words_same [] (d ∷ b) x y h k ended_x ended_y e = absurd
    (both_ways (is_word_byte d) (ap begins_with_word (sym e) ∙ ended_x) k.0)
words_same (c ∷ a) [] x y h k ended_x ended_y e = absurd
    (both_ways (is_word_byte c) (ap begins_with_word e ∙ ended_y) h.0)
words_same (c ∷ a) (d ∷ b) x y h k ended_x ended_y e =
    let head : c ≡ d = head_same c d (a ++ x) (b ++ y) e in
    let more = words_same a b x y h.1 k.1 ended_x ended_y (tail_same c d (a ++ x) (b ++ y) e) in
    let tail : a ≡ b = more.0 in
    (cc, more.1)

-- ---- the first byte that is no word byte

-- the test of a word's end
abbrev pub is_edge : ℕ → Bool
is_edge b = not (is_word_byte b)

not_edge : (b : ℕ) → is_edge b ≡ false → is_word_byte b ≡ true
not_edge b h = elim (cases_Bool (is_word_byte b)) [
  | inl is ↦ is
  | inr other ↦ absurd (both_ways (is_edge b) h (ap not other))
]

edge_no_word : (b : ℕ) → is_edge b ≡ true → is_word_byte b ≡ false
edge_no_word b h = elim (cases_Bool (is_word_byte b)) [
  | inl is ↦ absurd (both_ways (is_edge b) (ap not is) h)
  | inr other ↦ other
]

pub word_before : (bytes : List ℕ) (i : ℕ) → position is_edge bytes ≡ Some i → AllWord (take i bytes)
word_before bytes i e = recursion_from_All (λ b. IsTrue (is_word_byte b)) (take i bytes)
    (λ k d lt.
    let short : k < i = omega (arith, length-take-le i bytes (omega (arith, (position-Some is_edge bytes i d e).0))) in
    rw get_or-take (not_edge (get_or bytes k d) ((position-Some is_edge bytes i d e).2 k short)))

pub no_word_behind : (bytes : List ℕ) (i : ℕ) → position is_edge bytes ≡ Some i
    → begins_with_word (take (length bytes - i) (drop i bytes)) ≡ false
no_word_behind bytes i e =
    let at = position-Some is_edge bytes i 0 e in
    ap begins_with_word (take_rest bytes i ∙ drop-cons bytes i 0 at.0) ∙ edge_no_word (get_or bytes i 0) at.1

unguarded : (b : Bool) (n : ℕ) → cond b (Some n) None ≡ None → b ≡ false
unguarded true n e = absurd cc
unguarded false n e = refl

all_before : (bytes : List ℕ) → length bytes ≤ position_or_len is_edge bytes → AllWord bytes
all_before [] h = tt
all_before (b ∷ bs) h = go (is_word_byte b) refl h (all_before bs)
  where
    go : (t : Bool) → is_word_byte b ≡ t
        → suc (length bs) ≤ cond (not (not t)) (1 + position_or_len is_edge bs) 0
        → (length bs ≤ position_or_len is_edge bs → AllWord bs) → AllWord (b ∷ bs)
    go true is l more = (is, more (omega arith))
    go false other l more = absurd (omega arith)

pub word_whole : (bytes : List ℕ) → position is_edge bytes ≡ None → AllWord bytes
word_whole bytes e = all_before bytes (ltb-false (position_or_len is_edge bytes) (length bytes)
    (unguarded (ltb (position_or_len is_edge bytes) (length bytes)) (position_or_len is_edge bytes) e))

-- ---- the end of a text

-- the last byte is no blank
abbrev pub IsStopped : List ℕ → Type 0
IsStopped [] = ⊥
IsStopped (b ∷ []) = is_blank b ≡ false
IsStopped (b ∷ c ∷ bs) = IsStopped (c ∷ bs)

pub stopped_behind : (a b : List ℕ) → IsStopped b → IsStopped (a ++ b)
stopped_behind [] b h = h
stopped_behind (c ∷ []) [] h = absurd h
stopped_behind (c ∷ []) (d ∷ b) h = h
stopped_behind (c ∷ d ∷ a) b h = stopped_behind (d ∷ a) b h

pub stopped_no_blanks : (a : List ℕ) → IsStopped a → Blanks a → ⊥
stopped_no_blanks [] h k = h
stopped_no_blanks (b ∷ []) h k = both_ways (is_blank b) h k.0
stopped_no_blanks (b ∷ c ∷ a) h k = stopped_no_blanks (c ∷ a) h k.1

pub stopped_within : (a b g h : List ℕ) → IsStopped a → Blanks h → a ++ g ≡ b ++ h → length a ≤ length b
stopped_within a [] g h stops blanks e =
    let is : Blanks (a ++ g) = subst Blanks (sym e) blanks in
    absurd (stopped_no_blanks a stops (all_front (λ b. IsTrue (is_blank b)) a g is))
stopped_within [] (d ∷ b) g h stops blanks e = absurd stops
stopped_within (c ∷ []) (d ∷ b) g h stops blanks e = omega arith
stopped_within (c ∷ c' ∷ a) (d ∷ b) g h stops blanks e = omega
    (arith, stopped_within (c' ∷ a) b g h stops blanks (tail_same c d ((c' ∷ a) ++ g) (b ++ h) e))

-- a text without a blank at its end, and blanks behind it, in one way
pub stopped_same : (a b g h : List ℕ) → IsStopped a → IsStopped b → Blanks g → Blanks h → a ++ g ≡ b ++ h → a ≡ b
stopped_same a b g h stops_a stops_b is_g is_h e =
    let one = stopped_within a b g h stops_a is_h e in
    let other = stopped_within b a h g stops_b is_g (sym e) in
    (fronts_same a b g h (omega arith) e).0
