-- The statements of a short script can be taken by a session.
use Rattle.std.proofs.Common.{◌≡◌, ℕ, suc, ◌+◌, ◌^◌, ◌<◌, ◌≤◌, inl, inr, Bool, true, false, cond, List, [], ◌∷◌, length, All, codes, refl, sym, ap, ◌∙◌, subst, arith}
use Rattle.std.specs.Prelude.{◌==◌, IfSome, Option, Some, None}
use Rattle.std.specs.List.{slice_split, onto_first, AllByRecursion}
use Rattle.std.proofs.lemmas.List.{length-append, append-nil}
use Rattle.std.proofs.lemmas.List.Elements.{All-nil, All-cons}
use Rattle.function_field.specs.Limits.{max_script}
use Rattle.ff_text.specs.declared.terms.Term.{Term}
use Rattle.ff_text.specs.declared.terms.ElemText.{ElemText}
use Rattle.ff_text.specs.Spelling.{Then, Around, Each, FirstSign, SpellsFirst, SpellsOneTerm, SpellsTerms, SpellsDen, SpellsTail, SpellsEntries, SpellsElement}
use Rattle.ff_text.specs.Values.{HasSmallExponents}
use Rattle.ff_text.proofs.Exponents.{terms_small}
use Rattle.ff_script.specs.declared.script.Over.{Over}
use Rattle.ff_script.specs.declared.script.Over.TheVariants.{At, Inf}
use Rattle.ff_script.specs.declared.script.Statement.{Statement}
use Rattle.ff_script.specs.declared.script.Statement.TheVariants.{FieldOf, CurveOf, Mul, Factor, OrderOf, Places, Place, Constants, Genus}
use Rattle.ff_script.specs.Grammar.{SpellsParts, SpellsOver, ArePartsOf, SpellsLine}
use Rattle.ff_script.specs.Scripts.{without_empty_last, lines_of, IsReadAs, IsScript}
use Rattle.ff_script.proofs.Writable.{line_writable}
use Rattle.ff_meaning.specs.Bindings.{HasSmallElement, HasSmallOver, HasSmallPowers}
use Rattle.ff_program.specs.Ready.{IsReady}

length_then : {A B : List ℕ → Type 0} (g : List ℕ) (t : Then A B g) → length g ≡ length t.front + length t.back
length_then g t = ap length t.whole ∙ length-append t.front t.back

-- no longer than so many bytes
abbrev IsShort : ℕ → List ℕ → Type 0
IsShort n bytes = length bytes ≤ n

-- ---- lines

onto_short : (n b : ℕ) (parts : List (List ℕ)) → AllByRecursion (IsShort n) parts
    → AllByRecursion (IsShort (suc n)) (onto_first b parts)
onto_short n b [] h = (omega arith, tt)
onto_short n b (part ∷ parts) h = (let le = h.0 in omega (arith, le), longer parts h.1)
  where
    longer : (parts : List (List ℕ)) → AllByRecursion (IsShort n) parts → AllByRecursion (IsShort (suc n)) parts
    longer [] h = tt
    longer (part ∷ parts) h = (let le = h.0 in omega (arith, le), longer parts h.1)

one_longer : (n : ℕ) (parts : List (List ℕ)) → AllByRecursion (IsShort n) parts → AllByRecursion (IsShort (suc n)) parts
one_longer n [] h = tt
one_longer n (part ∷ parts) h = (let le = h.0 in omega (arith, le), one_longer n parts h.1)

pieces_short : (p : ℕ → Bool) (bytes : List ℕ) → AllByRecursion (IsShort (length bytes)) (slice_split p bytes)
pieces_short p [] = (omega arith, tt)
pieces_short p (b ∷ bs) = go (p b) (pieces_short p bs)
  where
    go : (t : Bool) → AllByRecursion (IsShort (length bs)) (slice_split p bs)
        → AllByRecursion (IsShort (suc (length bs))) (cond t ([] ∷ slice_split p bs) (onto_first b (slice_split p bs)))
    go true h = (omega arith, one_longer (length bs) (slice_split p bs) h)
    go false h = onto_short (length bs) b (slice_split p bs) h

kept_short : (n : ℕ) (pieces : List (List ℕ)) → AllByRecursion (IsShort n) pieces
    → AllByRecursion (IsShort n) (without_empty_last pieces)
kept_short n [] h = tt
kept_short n ([] ∷ []) h = tt
kept_short n ((b ∷ bs) ∷ []) h = h
kept_short n ([] ∷ next ∷ pieces) h = (h.0, kept_short n (next ∷ pieces) h.1)
kept_short n ((b ∷ bs) ∷ next ∷ pieces) h = (h.0, kept_short n (next ∷ pieces) h.1)

-- ---- statements

parts_short : (parts : List (List ℕ)) (bytes : List ℕ) → SpellsParts parts bytes
    → AllByRecursion (IsShort (length bytes)) parts
parts_short [] bytes h = tt
parts_short (part ∷ []) bytes h = (let e = ap length h in omega (arith, e), tt)
parts_short (part ∷ next ∷ parts) bytes h =
    let long = length_then bytes h in
    let here = ap length h.first in
    let rest = length_then h.back h.second in
    let others = parts_short (next ∷ parts) h.second.back h.second.second in (
      omega (arith, long, here),
      longer (length h.second.back) (length bytes) (next ∷ parts) (omega (arith, long, rest))
          others,
    )
  where
    longer : (m n : ℕ) (parts : List (List ℕ)) → m ≤ n → AllByRecursion (IsShort m) parts
        → AllByRecursion (IsShort n) parts
    longer m n [] le h = tt
    longer m n (part ∷ parts) le h = (let short = h.0 in omega (arith, short), longer m n parts le h.1)

more_small : (es : List (List Term)) (g : List ℕ) → length g < 2 ^ 34
    → Each (λ e. Then (Around (codes ",")) (SpellsTerms false e)) es g → All (All HasSmallExponents) es
more_small [] g short h = All-nil (All HasSmallExponents)
more_small (e ∷ es) g short h =
    let long = length_then g h in
    let part = length_then h.front h.first in
    All-cons (All HasSmallExponents) e es (terms_small false e h.first.back h.first.second (omega arith))
    (more_small es h.back (omega arith) h.second)

entries_small : (es : List (List Term)) (g : List ℕ) → length g < 2 ^ 34 → SpellsEntries es g
    → All (All HasSmallExponents) es
entries_small [] g short h = absurd h
entries_small (e ∷ es) g short h =
    let long = length_then g h in
    All-cons (All HasSmallExponents) e es (terms_small false e h.front h.first (omega arith))
    (more_small es h.back (omega arith) h.second)

one_term_small : (d : List Term) (g : List ℕ) → length g < 2 ^ 34 → SpellsOneTerm d g → All HasSmallExponents d
one_term_small [] g short h = absurd h
one_term_small (t ∷ []) g short h = terms_small false (t ∷ []) g spelled short
  where
    first : SpellsFirst false t g
    first = record {
      front = [];
      back = g;
      whole = refl;
      first = subst (λ m. FirstSign m []) (sym h.0) refl;
      second =
          h.1;
    }

    spelled : SpellsTerms false (t ∷ []) g
    spelled = record { front = g; back = []; whole = sym (append-nil g); first = first; second = refl }
one_term_small (t ∷ u ∷ ts) g short h = absurd h

den_small : (d : List Term) (g : List ℕ) → length g < 2 ^ 34 → SpellsDen d g → All HasSmallExponents d
den_small d g short (inl h) = one_term_small d g short h
den_small d g short (inr h) =
    let open_ = length_then g h in
    let blanks = length_then h.back h.second in
    let inner = length_then h.second.back h.second.second in
    terms_small false d h.second.second.front h.second.second.first (omega arith)

tail_small : (o : Option (List Term)) (g : List ℕ) → length g < 2 ^ 34 → SpellsTail o g
    → IfSome o (All HasSmallExponents)
tail_small None g short h = tt
tail_small (Some d) g short h =
    let slash = length_then g h in
    den_small d h.back (omega arith) h.second

element_small : (e : ElemText) (g : List ℕ) → length g < 2 ^ 34 → SpellsElement e g → HasSmallElement e
element_small e g short h =
    let whole = length_then g h in
    let open_ = length_then h.front h.first in
    let blanks = length_then h.first.back h.first.second in
    let inner = length_then h.first.second.back h.first.second.second in
    record {
      entries = entries_small e.entries h.first.second.second.front (omega arith) h.first.second.second.first;
      den = tail_small e.den h.back (omega arith) h.second;
    }

over_small : (over : Over) (g : List ℕ) → length g < 2 ^ 34 → SpellsOver over g → HasSmallOver over
over_small (At f) g short h = terms_small false f g h short
over_small Inf g short h = tt

powers_small : (s : Statement) (parts : List (List ℕ)) (n : ℕ) → n < 2 ^ 34 → AllByRecursion (IsShort n) parts
    → ArePartsOf s parts → HasSmallPowers s
powers_small (FieldOf p tail) parts n small short h = tt
powers_small (CurveOf f) parts n small short h =
    let all = subst (AllByRecursion (IsShort n)) h.1 short in
    let le = all.1.0 in
    terms_small true f h.0 h.2 (omega (arith, le))
powers_small (Mul a b) parts n small short h =
    let all = subst (AllByRecursion (IsShort n)) h.2 short in
    let left = all.1.0 in
    let right = all.1.1.0 in
    (element_small a h.0 (omega (arith, left)) h.3, element_small b h.1 (omega (arith, right)) h.4)
powers_small (Factor g) parts n small short h =
    let all = subst (AllByRecursion (IsShort n)) h.1 short in
    let le = all.1.0 in
    terms_small false g h.0 h.2 (omega (arith, le))
powers_small (OrderOf s) parts n small short h = tt
powers_small Constants parts n small short h = tt
powers_small Genus parts n small short h = tt
powers_small (Places over) parts n small short h =
    let all = subst (AllByRecursion (IsShort n)) h.1 short in
    let le = all.1.0 in
    over_small over h.0 (omega (arith, le)) h.2
powers_small (Place name over index) parts n small short h =
    let all = subst (AllByRecursion (IsShort n)) h.3 short in
    let le = all.1.1.1.0 in
    over_small over h.1 (omega (arith, le)) h.5

line_ready : (s : Statement) (line : List ℕ) → length line < 2 ^ 34 → SpellsLine s line → IsReady s
line_ready s line short h =
    let whole = length_then line h in
    let inner = length_then h.back h.second in
    let spelled = h.second.first in
    let small : length h.second.front < 2 ^ 34 = omega arith in (
      line_writable s line h,
      powers_small s spelled.parts (length h.second.front) small
          (parts_short spelled.parts h.second.front spelled.joined) spelled.named,
    )

lines_ready : (n : ℕ) (lines : List (List ℕ)) (ss : List Statement) → n < 2 ^ 34 → AllByRecursion (IsShort n) lines
    → IsReadAs lines ss → All IsReady ss
lines_ready n [] ss small short h = rw h (All-nil IsReady)
lines_ready n (line ∷ lines) [] small short h = All-nil IsReady
lines_ready n (line ∷ lines) (s ∷ ss) small short (inl h) = lines_ready n lines (s ∷ ss) small short.1 h.1
lines_ready n (line ∷ lines) (s ∷ ss) small short (inr h) =
    let le = short.0 in
    All-cons IsReady s ss (line_ready s line (omega (arith, le)) h.0) (lines_ready n lines ss small short.1 h.1)

-- a script of at most 65,536 bytes has only such statements
pub script_ready : (bytes : List ℕ) (ss : List Statement) → length bytes ≤ max_script → IsScript bytes ss
    → All IsReady ss
script_ready bytes ss short h =
    let small : length bytes < 2 ^ 34 = omega arith in
    lines_ready (length bytes) (lines_of bytes) ss small
    (kept_short (length bytes) (slice_split (λ b. b == 10) bytes) (pieces_short (λ b. b == 10) bytes)) h.read
