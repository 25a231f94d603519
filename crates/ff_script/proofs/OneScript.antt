-- Bytes are one script at most, and have one fault at most, and none if they are a script.
use Rattle.std.proofs.Common.{◌≡◌, ℕ, suc, ◌<◌, List, [], ◌∷◌, ◌++◌, length, Result, Ok, Err, sym, ap, subst, ◌∙◌, append_assoc, arith, inl, inr}
use Rattle.std.specs.Prelude.{All}
use Rattle.std.specs.Global.{Vec}
use Rattle.std.proofs.lemmas.Bool.{cases_order}
use Rattle.std.proofs.lemmas.List.{append-nil}
use Rattle.ff_script.specs.declared.script.Statement.{Statement}
use Rattle.ff_script.specs.declared.fault.ScriptFault.{ScriptFault}
use Rattle.ff_script.specs.declared.fault.ScriptFault.TheVariants.{Syntax, Misplaced, Memory}
use Rattle.ff_script.specs.Grammar.{SpellsLine, IsInGrammar}
use Rattle.ff_script.specs.Scripts.{lines_of, IsReadAs, AreInOrderFrom, IsInOrder, IsScript, IsLine, IsOutOfOrder, IsSyntaxFault, IsMisplaced, IsScriptFault, GivesScript}
use Rattle.ff_script.proofs.OneLine.{skipped_none}
use Rattle.ff_script.proofs.Progress.{read_good}

-- ---- lists

module _ {X : Type 0} (P : X → Type 0) where
  pub all_first : (x : X) (xs : List X) → All P (x ∷ xs) → P x
  all_first x xs h = h 0 x (omega arith)

  pub all_others : (x : X) (xs : List X) → All P (x ∷ xs) → All P xs
  all_others x xs h = λ k d lt. h (suc k) d (let l = lt in omega arith)

  pub all_at : (xs ys : List X) (x : X) → All P (xs ++ x ∷ ys) → P x
  all_at [] ys x h = all_first x ys h
  all_at (y ∷ xs) ys x h = all_at xs ys x (all_others y (xs ++ x ∷ ys) h)

module _ {X : Type 0} where
  -- where two splits of a list differ, the shorter front and its element begin the longer front
  longer : (a b c d : List X) (x y : X) → a ++ x ∷ c ≡ b ++ y ∷ d → length a < length b
      → (e : List X) × (b ≡ a ++ x ∷ e)
  longer [] [] c d x y e lt = absurd (omega arith)
  longer [] (z ∷ b) c d x y e lt = let head : x ≡ z = cc in (b, ap (λ (w : X). w ∷ b) (sym head))
  longer (w ∷ a) [] c d x y e lt = absurd (omega arith)
  longer (w ∷ a) (z ∷ b) c d x y e lt =
      let head : w ≡ z = cc in
      let tail : a ++ x ∷ c ≡ b ++ y ∷ d = cc in
      let more = longer a b c d x y tail (omega arith) in
      let is : b ≡ a ++ x ∷ more.0 = more.1 in
      (more.0, cc)

-- ---- readings

-- each line spells one statement at most
abbrev pub IsOneLine : Type 0
IsOneLine = (line : List ℕ) (s t : Statement) → SpellsLine s line → SpellsLine t line → s ≡ t

-- the statements of the first lines begin those of all
pub reading_begins : IsOneLine → (lines more : List (List ℕ)) (ss ts : List Statement) → IsReadAs lines ss
    → IsReadAs (lines ++ more) ts → (us : List Statement) × (ts ≡ ss ++ us) × IsReadAs more us
reading_begins one [] more ss ts h k = (ts, ap (λ (t : List Statement). t ++ ts) (sym h), k)
reading_begins one (l ∷ lines) more [] [] h k = reading_begins one lines more [] [] h.1 k.1
reading_begins one (l ∷ lines) more [] (t ∷ ts) h (inl k) = reading_begins one lines more [] (t ∷ ts) h.1 k.1
reading_begins one (l ∷ lines) more [] (t ∷ ts) h (inr k) = absurd (skipped_none l t h.0 k.0)
reading_begins one (l ∷ lines) more (s ∷ ss) [] (inl h) k = reading_begins one lines more (s ∷ ss) [] h.1 k.1
reading_begins one (l ∷ lines) more (s ∷ ss) [] (inr h) k = absurd (skipped_none l s k.0 h.0)
reading_begins one (l ∷ lines) more (s ∷ ss) (t ∷ ts) (inl h) (inl k) = reading_begins one lines more (s ∷ ss) (t ∷ ts)
    h.1 k.1
reading_begins one (l ∷ lines) more (s ∷ ss) (t ∷ ts) (inl h) (inr k) = absurd (skipped_none l t h.0 k.0)
reading_begins one (l ∷ lines) more (s ∷ ss) (t ∷ ts) (inr h) (inl k) = absurd (skipped_none l s k.0 h.0)
reading_begins one (l ∷ lines) more (s ∷ ss) (t ∷ ts) (inr h) (inr k) =
    let behind = reading_begins one lines more ss ts h.1 k.1 in
    let first : s ≡ t = one l s t h.0 k.0 in
    let others : ts ≡ ss ++ behind.0 = behind.1 in
    (behind.0, cc, behind.2)

pub same_reading : IsOneLine → (lines : List (List ℕ)) (ss ts : List Statement) → IsReadAs lines ss → IsReadAs lines ts
    → ss ≡ ts
same_reading one lines ss ts h k =
    let all : IsReadAs (lines ++ []) ts = subst (λ (t : List (List ℕ)). IsReadAs t ts) (sym (append-nil lines)) k in
    let more = reading_begins one lines [] ss ts h all in
    sym (more.1 ∙ ap (λ (t : List Statement). ss ++ t) more.2 ∙ append-nil ss)

-- the first line spells the first statement
first_statement : IsOneLine → (line : List ℕ) (lines : List (List ℕ)) (s : Statement) (us : List Statement)
    → SpellsLine s line → IsReadAs (line ∷ lines) us → (vs : List Statement) × (us ≡ s ∷ vs)
first_statement one line lines s [] h k = absurd (skipped_none line s k.0 h)
first_statement one line lines s (u ∷ us) h (inl k) = absurd (skipped_none line s k.0 h)
first_statement one line lines s (u ∷ us) h (inr k) = (us, ap (λ (t : Statement). t ∷ us) (one line u s k.0 h))

order_front : (k : ℕ) (ss ts : List Statement) → AreInOrderFrom k (ss ++ ts) → AreInOrderFrom k ss
order_front k [] ts h = tt
order_front k (s ∷ ss) ts h = (h.0, order_front (suc k) ss ts h.1)

-- where a line's statement stands out of order, so do the statements of all lines
pub out_of_order : IsOneLine → (before behind : List (List ℕ)) (line : List ℕ) (ss : List Statement) (s : Statement)
    (ts : List Statement) → IsReadAs before ss → SpellsLine s line → ¬ IsInOrder (ss ++ s ∷ [])
    → IsReadAs (before ++ line ∷ behind) ts → IsInOrder ts → ⊥
out_of_order one before behind line ss s ts read spelled out all order =
    let more = reading_begins one before (line ∷ behind) ss ts read all in
    let first = first_statement one line behind s more.0 spelled more.2 in
    let whole : ts ≡ (ss ++ s ∷ []) ++ first.0 = more.1 ∙ ap (λ (t : List Statement). ss ++ t) first.1
    ∙ sym (append_assoc ss (s ∷ []) first.0) in
    out (order_front 0 (ss ++ s ∷ []) first.0 (subst IsInOrder whole order))

-- ---- scripts and faults

pub same_script : IsOneLine → (bytes : List ℕ) (ss ts : List Statement) → IsScript bytes ss → IsScript bytes ts
    → ss ≡ ts
same_script one bytes ss ts h k = same_reading one (lines_of bytes) ss ts h.read k.read

bad_line : (lines : List (List ℕ)) (before : List (List ℕ)) (line : List ℕ) (n : ℕ) → IsLine lines before line n
    → ¬ IsInGrammar line → All IsInGrammar lines → ⊥
bad_line lines before line n at bad all = bad
    (all_at IsInGrammar before at.behind line (subst (All IsInGrammar) at.parts all))

pub script_no_syntax : (bytes : List ℕ) (ss : List Statement) (n : ℕ) → IsScript bytes ss → IsSyntaxFault bytes n → ⊥
script_no_syntax bytes ss n h k = bad_line (lines_of bytes) k.before k.line n k.at k.bad
    (read_good (lines_of bytes) ss h.read)

pub misplaced_no_syntax : (bytes : List ℕ) (m n : ℕ) → IsMisplaced bytes m → IsSyntaxFault bytes n → ⊥
misplaced_no_syntax bytes m n h k = bad_line (lines_of bytes) k.before k.line n k.at k.bad h.good

pub script_no_misplaced : IsOneLine → (bytes : List ℕ) (ss : List Statement) (n : ℕ) → IsScript bytes ss
    → IsMisplaced bytes n → ⊥
script_no_misplaced one bytes ss n h k =
    out_of_order one k.first.before k.first.at.behind k.first.line k.first.statements k.first.statement ss k.first.read
    k.first.spelled k.first.misplaced (subst (λ (t : List (List ℕ)). IsReadAs t ss) k.first.at.parts h.read) h.order

syntax_not_before : (bytes : List ℕ) (m n : ℕ) (h : IsSyntaxFault bytes m) (k : IsSyntaxFault bytes n)
    → length h.before < length k.before → ⊥
syntax_not_before bytes m n h k lt =
    let more = longer h.before k.before h.at.behind k.at.behind h.line k.line (sym h.at.parts ∙ k.at.parts) lt in
    h.bad (all_at IsInGrammar h.before more.0 h.line (subst (All IsInGrammar) more.1 k.good))

same_number : (lines a b : List (List ℕ)) (l k : List ℕ) (m n : ℕ) → IsLine lines a l m → IsLine lines b k n
    → (length a < length b → ⊥) → (length b < length a → ⊥) → m ≡ n
same_number lines a b l k m n g h no_less no_more = elim (cases_order (length a) (length b)) [
  | inl e ↦ let x = g.number in let y = h.number in omega arith
  | inr other ↦ elim other [ inl lt ↦ absurd (no_less lt) | inr gt ↦ absurd (no_more gt) ]
]

pub same_syntax : (bytes : List ℕ) (m n : ℕ) → IsSyntaxFault bytes m → IsSyntaxFault bytes n → m ≡ n
same_syntax bytes m n h k = same_number (lines_of bytes) h.before k.before h.line k.line m n h.at k.at
    (syntax_not_before bytes m n h k) (syntax_not_before bytes n m k h)

misplaced_not_before : IsOneLine → (lines : List (List ℕ)) (m n : ℕ) (h : IsOutOfOrder lines m)
    (k : IsOutOfOrder lines n) → length h.before < length k.before → ⊥
misplaced_not_before one lines m n h k lt =
    let more = longer h.before k.before h.at.behind k.at.behind h.line k.line (sym h.at.parts ∙ k.at.parts) lt in
    out_of_order one h.before more.0 h.line h.statements h.statement k.statements h.read h.spelled h.misplaced
    (subst (λ (t : List (List ℕ)). IsReadAs t k.statements) more.1 k.read) k.order

pub same_misplaced : IsOneLine → (bytes : List ℕ) (m n : ℕ) → IsMisplaced bytes m → IsMisplaced bytes n → m ≡ n
same_misplaced one bytes m n h k =
    same_number (lines_of bytes) h.first.before k.first.before h.first.line k.first.line m n h.first.at k.first.at
    (misplaced_not_before one (lines_of bytes) m n h.first k.first)
    (misplaced_not_before one (lines_of bytes) n m k.first h.first)

-- ---- what the reader answers

abbrev pub IsReadScript : List ℕ → Result (Vec Statement) ScriptFault → Type 0
IsReadScript bytes (Ok v) = IsScript bytes v.items
IsReadScript bytes (Err e) = IsScriptFault bytes e

-- a script is what was read, or memory ran out
pub script_given : IsOneLine → (bytes : List ℕ) (r : Result (Vec Statement) ScriptFault) (ss : List Statement)
    → IsReadScript bytes r → IsScript bytes ss → GivesScript r ss
script_given one bytes (Ok v) ss h k = same_script one bytes v.items ss h k
script_given one bytes (Err (Syntax n)) ss h k = script_no_syntax bytes ss n k h
script_given one bytes (Err (Misplaced n)) ss h k = script_no_misplaced one bytes ss n k h
script_given one bytes (Err Memory) ss h k = tt
