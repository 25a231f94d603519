-- What the lines so far came to, one line further.
use Rattle.std.proofs.Common.{◌≡◌, ◌≢◌, ℕ, suc, Bool, true, false, ◌+◌, ◌<◌, ◌≤◌, List, [], ◌∷◌, ◌++◌, length, Option, Some, None, refl, sym, ap, subst, ◌∙◌, append_assoc, zero-add, arith, inl, inr}
use Rattle.std.specs.Prelude.{All}
use Rattle.std.specs.Option.{is_some}
use Rattle.std.proofs.lemmas.Bool.{both_ways}
use Rattle.std.proofs.lemmas.List.Elements.{All-nil, All-cons, All-append}
use Rattle.std.proofs.lemmas.List.{append-nil, length-append}
use Rattle.ff_script.specs.declared.fault.ScriptFault.{ScriptFault}
use Rattle.ff_script.specs.declared.fault.ScriptFault.TheVariants.{Syntax, Misplaced, Memory}
use Rattle.ff_script.specs.declared.script.Statement.{Statement}
use Rattle.ff_script.specs.Grammar.{SpellsLine, IsSkipped, IsInGrammar}
use Rattle.ff_script.specs.Scripts.{lines_of, IsReadAs, MayFollow, AreInOrderFrom, IsScript, IsOutOfOrder, IsSyntaxFault, IsMisplaced, IsScriptFault}
use Rattle.ff_script.specs.Reading.{IsSoFar, IsLineFault}

-- ---- lists of lines

pub read_skip : (lines : List (List ℕ)) (ss : List Statement) (line : List ℕ) → IsReadAs lines ss → IsSkipped line
    → IsReadAs (lines ++ line ∷ []) ss
read_skip [] ss line h skipped = subst (IsReadAs (line ∷ [])) (sym h) (skipped, refl)
read_skip (l ∷ lines) [] line h skipped = (h.0, read_skip lines [] line h.1 skipped)
read_skip (l ∷ lines) (s ∷ ss) line (inl h) skipped = inl (h.0, read_skip lines (s ∷ ss) line h.1 skipped)
read_skip (l ∷ lines) (s ∷ ss) line (inr h) skipped = inr (h.0, read_skip lines ss line h.1 skipped)

pub read_spelled : (lines : List (List ℕ)) (ss : List Statement) (line : List ℕ) (s : Statement) → IsReadAs lines ss
    → SpellsLine s line → IsReadAs (lines ++ line ∷ []) (ss ++ s ∷ [])
read_spelled [] ss line s h spelled = subst (λ (t : List Statement). IsReadAs (line ∷ []) (t ++ s ∷ [])) (sym h)
    (inr (spelled, refl))
read_spelled (l ∷ lines) [] line s h spelled = inl (h.0, read_spelled lines [] line s h.1 spelled)
read_spelled (l ∷ lines) (t ∷ ss) line s (inl h) spelled = inl (h.0, read_spelled lines (t ∷ ss) line s h.1 spelled)
read_spelled (l ∷ lines) (t ∷ ss) line s (inr h) spelled = inr (h.0, read_spelled lines ss line s h.1 spelled)

pub read_good : (lines : List (List ℕ)) (ss : List Statement) → IsReadAs lines ss → All IsInGrammar lines
read_good [] ss h = All-nil IsInGrammar
read_good (l ∷ lines) [] h = All-cons IsInGrammar l lines (inl h.0) (read_good lines [] h.1)
read_good (l ∷ lines) (s ∷ ss) (inl h) = All-cons IsInGrammar l lines (inl h.0) (read_good lines (s ∷ ss) h.1)
read_good (l ∷ lines) (s ∷ ss) (inr h) = All-cons IsInGrammar l lines (inr (s, h.0)) (read_good lines ss h.1)

good_more : (lines : List (List ℕ)) (line : List ℕ) → All IsInGrammar lines → IsInGrammar line
    → All IsInGrammar (lines ++ line ∷ [])
good_more lines line h good = All-append IsInGrammar lines (line ∷ []) h
    (All-cons IsInGrammar line [] good (All-nil IsInGrammar))

-- ---- order

pub order_more : (k : ℕ) (ss : List Statement) (s : Statement) → AreInOrderFrom k ss → MayFollow (k + length ss) s
    → AreInOrderFrom k (ss ++ s ∷ [])
order_more k [] s h may = let at : k + 0 ≡ k = omega arith in (subst (λ (n : ℕ). MayFollow n s) at may, tt)
order_more k (t ∷ ss) s h may =
    let at : k + suc (length ss) ≡ suc k + length ss = omega arith in
    (h.0, order_more (suc k) ss s h.1 (subst (λ (n : ℕ). MayFollow n s) at may))

pub order_last : (k : ℕ) (ss : List Statement) (s : Statement) → AreInOrderFrom k (ss ++ s ∷ [])
    → MayFollow (k + length ss) s
order_last k [] s h = let at : k ≡ k + 0 = omega arith in subst (λ (n : ℕ). MayFollow n s) at h.0
order_last k (t ∷ ss) s h =
    let at : suc k + length ss ≡ k + suc (length ss) = omega arith in
    subst (λ (n : ℕ). MayFollow n s) at (order_last (suc k) ss s h.1)

-- ---- one line more

pub nothing_so_far : IsSoFar [] [] None
nothing_so_far = (refl, tt)

out_more : (lines more : List (List ℕ)) (n : ℕ) → IsOutOfOrder lines n → IsOutOfOrder (lines ++ more) n
out_more lines more n h = record {
  before = h.before;
  line = h.line;
  at = record {
    behind = h.at.behind ++ more;
    parts = ap (λ (t : List (List ℕ)). t ++ more) h.at.parts
        ∙ append_assoc h.before (h.line ∷ h.at.behind) more;
    number = h.at.number;
  };
  statements = h.statements;
  read = h.read;
  order = h.order;
  statement = h.statement;
  spelled = h.spelled;
  misplaced = h.misplaced;
}

pub skip_so_far : (lines : List (List ℕ)) (ss : List Statement) (o : Option ℕ) (line : List ℕ) → IsSkipped line
    → IsSoFar lines ss o → IsSoFar (lines ++ line ∷ []) ss o
skip_so_far lines ss None line skipped h = (read_skip lines ss line h.0 skipped, h.1)
skip_so_far lines ss (Some n) line skipped h =
    (good_more lines line h.0 (inl skipped), out_more lines (line ∷ []) n h.1)

pub not_none : (o : Option ℕ) (b : Bool) → b ≡ is_some o → b ≡ true → o ≢ None
not_none None b tested is e = both_ways b tested is
not_none (Some n) b tested is e = cc

pub is_none : (o : Option ℕ) (b : Bool) → b ≡ is_some o → b ≡ false → o ≡ None
is_none None b tested not = refl
is_none (Some n) b tested not = absurd (both_ways b not tested)

-- a statement behind a misplaced one
pub pass_so_far : (lines : List (List ℕ)) (ss : List Statement) (o : Option ℕ) (line : List ℕ) (s : Statement)
    → o ≢ None → SpellsLine s line → IsSoFar lines ss o → IsSoFar (lines ++ line ∷ []) ss o
pass_so_far lines ss None line s some spelled h = absurd (some refl)
pass_so_far lines ss (Some n) line s some spelled h =
    (good_more lines line h.0 (inr (s, spelled)), out_more lines (line ∷ []) n h.1)

-- a statement that stands out of order
pub stop_so_far : (lines : List (List ℕ)) (ss ts : List Statement) (o : Option ℕ) (line : List ℕ) (s : Statement)
    (n : ℕ) → o ≡ None → n ≡ suc (length lines) → SpellsLine s line → ¬ MayFollow (length ss) s → IsSoFar lines ss o
    → IsSoFar (lines ++ line ∷ []) ts (Some n)
stop_so_far lines ss ts (Some k) line s n none number spelled out h = absurd cc
stop_so_far lines ss ts None line s n none number spelled out h = (
  good_more lines line (read_good lines ss h.0) (inr (s, spelled)),
  record {
    before = lines;
    line = line;
    at = record { behind = []; parts = refl; number = number };
    statements = ss;
    read = h.0;
    order = h.1;
    statement = s;
    spelled = spelled;
    misplaced = λ order. out (subst (λ (k : ℕ). MayFollow k s) (zero-add (length ss)) (order_last 0 ss s order));
  },
)

-- the next statement
pub push_so_far : (lines : List (List ℕ)) (ss : List Statement) (o : Option ℕ) (line : List ℕ) (s : Statement)
    → o ≡ None → SpellsLine s line → MayFollow (length ss) s → IsSoFar lines ss o
    → IsSoFar (lines ++ line ∷ []) (ss ++ s ∷ []) o
push_so_far lines ss (Some k) line s none spelled may h = absurd cc
push_so_far lines ss None line s none spelled may h = (
  read_spelled lines ss line s h.0 spelled,
  order_more 0 ss s h.1
      (subst (λ (k : ℕ). MayFollow k s) (sym (zero-add (length ss))) may),
)

-- ---- all lines

-- the lines so far, and the bytes that are left
pub record HaveTaken (bytes rest : List ℕ) (count : ℕ) (ss : List Statement) (o : Option ℕ) : Type 0 where
  pub lines : List (List ℕ)
  pub whole : lines_of bytes ≡ lines ++ lines_of rest
  pub number : count ≡ length lines
  pub so_far : IsSoFar lines ss o
  pub room : count + length rest ≤ length bytes

pub none_taken : (bytes : List ℕ) → HaveTaken bytes bytes 0 [] None
none_taken bytes = record { lines = []; whole = refl; number = refl; so_far = nothing_so_far; room = omega arith }

pub take_more : (bytes rest behind line : List ℕ) (count : ℕ) (ss ts : List Statement) (o p : Option ℕ)
    → (h : HaveTaken bytes rest count ss o) → lines_of rest ≡ line ∷ lines_of behind → length behind < length rest
    → IsSoFar (h.lines ++ line ∷ []) ts p → HaveTaken bytes behind (count + 1) ts p
take_more bytes rest behind line count ss ts o p h first shorter so_far = record {
  lines = h.lines ++ line ∷ [];
  whole = h.whole ∙ ap (λ (t : List (List ℕ)). h.lines ++ t) first
      ∙ sym (append_assoc h.lines (line ∷ []) (lines_of behind));
  number = let k = h.number in omega (arith, length-append h.lines (line ∷ []));
  so_far = so_far;
  room = let k = h.room in omega arith;
}

-- no bytes are left
pub taken_all : (bytes rest : List ℕ) (count : ℕ) (ss : List Statement) (o : Option ℕ)
    → (h : HaveTaken bytes rest count ss o) → rest ≡ [] → lines_of bytes ≡ h.lines
taken_all bytes rest count ss o h none = h.whole ∙ ap (λ (t : List ℕ). h.lines ++ lines_of t) none ∙ append-nil h.lines

pub script_taken : (bytes rest : List ℕ) (count : ℕ) (ss : List Statement) (o : Option ℕ)
    → HaveTaken bytes rest count ss o → rest ≡ [] → o ≡ None → IsScript bytes ss
script_taken bytes rest count ss o h none is =
    let so_far = subst (IsSoFar h.lines ss) is h.so_far in
    record {
      read = subst (λ (t : List (List ℕ)). IsReadAs t ss) (sym (taken_all bytes rest count ss o h none))
          so_far.0;
      order = so_far.1;
    }

pub misplaced_taken : (bytes rest : List ℕ) (count : ℕ) (ss : List Statement) (o : Option ℕ) (n : ℕ)
    → HaveTaken bytes rest count ss o → rest ≡ [] → o ≡ Some n → IsMisplaced bytes n
misplaced_taken bytes rest count ss o n h none is =
    let so_far = subst (IsSoFar h.lines ss) is h.so_far in
    let all = sym (taken_all bytes rest count ss o h none) in
    record {
      good = subst (All IsInGrammar) all so_far.0;
      first = subst (λ (t : List (List ℕ)). IsOutOfOrder t n) all
          so_far.1;
    }

good_so_far : (lines : List (List ℕ)) (ss : List Statement) (o : Option ℕ) → IsSoFar lines ss o → All IsInGrammar lines
good_so_far lines ss None h = read_good lines ss h.0
good_so_far lines ss (Some n) h = h.0

pub syntax_taken : (bytes rest behind line : List ℕ) (count n : ℕ) (ss : List Statement) (o : Option ℕ)
    → HaveTaken bytes rest count ss o → lines_of rest ≡ line ∷ lines_of behind → n ≡ count + 1 → ¬ IsInGrammar line
    → IsSyntaxFault bytes n
syntax_taken bytes rest behind line count n ss o h first number bad = record {
  before = h.lines;
  line = line;
  at = record {
    behind = lines_of behind;
    parts = h.whole
        ∙ ap (λ (t : List (List ℕ)). h.lines ++ t) first;
    number = let k = h.number in omega arith;
  };
  good = good_so_far h.lines ss o h.so_far;
  bad = bad;
}

-- the fault of a line is that of the bytes
pub line_fault : (bytes rest behind line : List ℕ) (count : ℕ) (ss : List Statement) (o : Option ℕ) (e : ScriptFault)
    → HaveTaken bytes rest count ss o → lines_of rest ≡ line ∷ lines_of behind → IsLineFault line (count + 1) e
    → IsScriptFault bytes e
line_fault bytes rest behind line count ss o (Syntax n) h first fault = syntax_taken bytes rest behind line count n ss o
    h first fault.0 fault.1
line_fault bytes rest behind line count ss o (Misplaced n) h first fault = absurd fault
line_fault bytes rest behind line count ss o Memory h first fault = tt
