-- Machines that go on from byte to byte, and what they say of the parts of a line.
use Rattle.std.proofs.Common.{◌≡◌, ℕ, suc, ◌+◌, ◌-◌, ◌<◌, ◌≤◌, Bool, true, false, List, [], ◌∷◌, ◌++◌, length, take, drop, get_or, Option, Some, None, refl, sym, ap, ◌∙◌, subst, ◌⊎◌, inl, inr, arith}
use Rattle.std.specs.Prelude.{MatchOption}
use Rattle.std.specs.List.{slice_range}
use Rattle.std.specs.Option.{option_and_then}
use Rattle.std.proofs.Math.Seq.{take-suc, take-add, take-length}
use Rattle.std.proofs.Math.Nat.{eq-or-lt_of_le}
use Rattle.std.proofs.lemmas.Bool.{cases_lt}
use Rattle.std.proofs.lemmas.List.{append-nil, get_or-drop, length-drop}
use Rattle.ff_text.specs.declared.fault.TextFault.{TextFault}
use Rattle.ff_text.specs.declared.fault.TextFault.TheVariants.{Syntax, CodeRange, Memory}
use Rattle.ff_text.specs.Reading.{BeginsSpelling, IsLongestSpelling, IsNoSpelling, IsFurthest, IsReadFault}
use Rattle.ff_text.specs.Scanning.{run, Moves}

-- ---- runs

pub run-append : {S : Type 0} (step : S → ℕ → Option S) (s : S) (a b : List ℕ)
    → run step s (a ++ b) ≡ option_and_then (λ t. run step t b) (run step s a)
run-append step s [] b = refl
run-append {S = S} step s (x ∷ a) b = behind (step s x) (λ t. run-append step t a b)
  where
    behind : (o : Option S) → ((t : S) → run step t (a ++ b) ≡ option_and_then (λ u. run step u b) (run step t a))
        → option_and_then (λ t. run step t (a ++ b)) o
        ≡ option_and_then (λ t. run step t b) (option_and_then (λ t. run step t a) o)
    behind None again = refl
    behind (Some t) again = again t

-- the bytes lead from one state to another
abbrev pub Leads : {S : Type 0} → (S → ℕ → Option S) → S → List ℕ → S → Type 0
Leads step s bytes t = run step s bytes ≡ Some t

pub leads_then : {S : Type 0} (step : S → ℕ → Option S) (s t u : S) (a b : List ℕ) → Leads step s a t → Leads step t b u
    → Leads step s (a ++ b) u
leads_then step s t u a b first second = run-append step s a b ∙ ap (λ o. option_and_then (λ v. run step v b) o) first
    ∙ second

pub leads_one : {S : Type 0} (step : S → ℕ → Option S) (s t : S) (b : ℕ) → step s b ≡ Some t → Leads step s (b ∷ []) t
leads_one step s t b e = ap (λ o. option_and_then (λ v. Some v) o) e

-- what is dead stays dead
pub dead_then : {S : Type 0} (step : S → ℕ → Option S) (s : S) (a b : List ℕ) → run step s a ≡ None
    → run step s (a ++ b) ≡ None
dead_then step s a b dead = run-append step s a b ∙ ap (λ o. option_and_then (λ v. run step v b) o) dead

pub first_step : {S : Type 0} (step : S → ℕ → Option S) (s u : S) (b : ℕ) (bs : List ℕ) → Leads step s (b ∷ bs) u
    → (t : S) × (step s b ≡ Some t) × Leads step t bs u
first_step {S = S} step s u b bs e = parts (step s b) refl e
  where
    parts : (o : Option S) → step s b ≡ o → option_and_then (λ t. run step t bs) o ≡ Some u
        → (t : S) × (step s b ≡ Some t) × Leads step t bs u
    parts (Some t) is rest = (t, is, rest)
    parts None is rest = absurd cc

-- what holds at the start and is kept by each step holds of all that is reached
pub along : {S : Type 0} (step : S → ℕ → Option S) (P : S → List ℕ → Type 0)
    → ((s t : S) (g : List ℕ) (b : ℕ) → P s g → step s b ≡ Some t → P t (g ++ b ∷ [])) → (s t : S) (g bs : List ℕ)
    → P s g → Leads step s bs t → P t (g ++ bs)
along {S = S} step P keeps s t g [] p e =
    let same : s ≡ t = cc in
    subst (λ (h : List ℕ). P t h) (sym (append-nil g)) (subst (λ (u : S). P u g) same p)
along step P keeps s t g (b ∷ bs) p e =
    let w = first_step step s t b bs e in
    subst (λ (h : List ℕ). P t h) (regroup g b bs)
    (along step P keeps w.0 t (g ++ b ∷ []) bs (keeps s w.0 g b p w.1) w.2)
  where
    regroup : (g : List ℕ) (b : ℕ) (bs : List ℕ) → (g ++ b ∷ []) ++ bs ≡ g ++ b ∷ bs
    regroup [] b bs = refl
    regroup (x ∷ g) b bs = ap (λ (h : List ℕ). x ∷ h) (regroup g b bs)

-- ---- a machine of a relation

-- The machine reaches a whole state exactly by a spelling, and has its value. Each state that is reached can become
-- whole. The last value is that of the longest spelling so far.
pub record IsMachine {S V : Type 0} (step : S → ℕ → Option S) (start : S) (whole : S → Bool) (last : S → Option V)
    (Spells : V → List ℕ → Type 0) : Type 0 where
  pub fresh : whole start ≡ false
  pub none : last start ≡ None
  pub sound : (g : List ℕ) (s : S) → Leads step start g s → whole s ≡ true → (v : V) × (last s ≡ Some v) × Spells v g
  pub complete : (v : V) (g : List ℕ) → Spells v g
      → (s : S) × Leads step start g s × (whole s ≡ true) × (last s ≡ Some v)
  pub live : (g : List ℕ) (s : S) → Leads step start g s
      → (rest : List ℕ) × (t : S) × Leads step s rest t × (whole t ≡ true)
  pub kept : (g : List ℕ) (s t : S) (b : ℕ) → Leads step start g s → step s b ≡ Some t → whole t ≡ false
      → last t ≡ last s

-- ---- a step that may be refused

pub step_made : {S : Type 0} (next : Option S) (old new : S) (b : Bool) → Moves next old new b → b ≡ true
    → next ≡ Some new
step_made next old new true moves made = moves
step_made next old new false moves made = absurd cc

step_refused : {S : Type 0} (next : Option S) (old new : S) (b : Bool) → Moves next old new b → b ≡ false
    → (next ≡ None) × (new ≡ old)
step_refused next old new true moves refused = absurd cc
step_refused next old new false moves refused = moves

-- ---- parts of a line

slice_none : (line : List ℕ) (at : ℕ) → slice_range line at at ≡ []
slice_none line at = let none : at - at ≡ 0 = omega arith in ap (λ n. take n (drop at line)) none

slice_more : (line : List ℕ) (at j : ℕ) → at ≤ j → j < length line
    → slice_range line at (j + 1) ≡ slice_range line at j ++ get_or line j 0 ∷ []
slice_more line at j le lt =
    let more : j + 1 - at ≡ suc (j - at) = omega arith in
    let long : j - at < length (drop at line) = omega (arith, length-drop {A = ℕ}) in
    let position : at + (j - at) ≡ j = omega arith in
    ap (λ n. take n (drop at line)) more ∙ take-suc (drop at line) (j - at) 0 long
    ∙ ap (λ x. slice_range line at j ++ x ∷ [])
    (get_or-drop at line (j - at) 0 ∙ ap (λ i. get_or line i 0) position)

slice_split : (line : List ℕ) (at i j : ℕ) → at ≤ i → i ≤ j
    → slice_range line at j ≡ slice_range line at i ++ take (j - i) (drop (i - at) (drop at line))
slice_split line at i j first second =
    let sum : j - at ≡ (i - at) + (j - i) = omega arith in
    ap (λ n. take n (drop at line)) sum ∙ take-add (i - at) (j - i) (drop at line)

module _ {S V : Type 0} (step : S → ℕ → Option S) (start : S) (whole : S → Bool) (last : S → Option V)
    (Spells : V → List ℕ → Type 0) where
  -- the value of the longest spelling up to `reach`, which ends at `end`
  pub record IsLast (line : List ℕ) (at reach end : ℕ) (v : V) : Type 0 where
    pub from : at ≤ end
    pub within : end ≤ reach
    pub spelled : Spells v (slice_range line at end)
    pub longest : (w : V) (j : ℕ) → end < j → j ≤ reach → Spells w (slice_range line at j) → ⊥

  -- no spelling up to `reach`
  abbrev pub IsNoneYet : List ℕ → ℕ → ℕ → Type 0
  IsNoneYet line at reach = (w : V) (j : ℕ) → at ≤ j → j ≤ reach → Spells w (slice_range line at j) → ⊥

  -- the state behind the bytes from `at` to before `reach`, where the last spelling ends at `end`
  pub record IsRead (line : List ℕ) (at reach end : ℕ) (s : S) : Type 0 where
    pub from : at ≤ reach
    pub within : reach ≤ length line
    pub state : Leads step start (slice_range line at reach) s
    pub value : MatchOption (last s) (IsNoneYet line at reach) (IsLast line at reach end)

  abbrev Machine : Type 0
  Machine = IsMachine step start whole last Spells

  -- what isn't whole isn't spelled
  not_whole : Machine → (s : S) (g : List ℕ) (w : V) → Leads step start g s → whole s ≡ false → Spells w g → ⊥
  not_whole m s g w leads unfinished spelled =
      let c = m.complete w g spelled in
      let same : s ≡ c.0 = some_same s c.0 (sym leads ∙ c.1) in
      let both : whole c.0 ≡ false = subst (λ (t : S). whole t ≡ false) same unfinished in
      absurd cc
    where
      some_same : (x y : S) → Some x ≡ Some y → x ≡ y
      some_same x y e = cc

  pub read_start : Machine → (line : List ℕ) (at : ℕ) → at ≤ length line → IsRead line at at at start
  read_start m line at le = record {
    from = omega arith;
    within = le;
    state = ap (run step start) (slice_none line at);
    value = let P : Option V → Type 0 = λ o. MatchOption o (IsNoneYet line at at) (IsLast line at at at) in subst P
        (sym m.none) (λ w j low high spelled.
        let here : j ≡ at = omega arith in
        not_whole m start [] w refl m.fresh
        (subst (λ (h : List ℕ). Spells w h) (ap (λ i. slice_range line at i) here ∙ slice_none line at) spelled));
  }

  more_state : (line : List ℕ) (at reach end : ℕ) (s t : S) → IsRead line at reach end s → reach < length line
      → step s (get_or line reach 0) ≡ Some t → Leads step start (slice_range line at (reach + 1)) t
  more_state line at reach end s t r lt stepped =
      ap (run step start) (slice_more line at reach r.from lt)
      ∙ leads_then step start s t (slice_range line at reach) (get_or line reach 0 ∷ []) r.state
      (leads_one step s t (get_or line reach 0) stepped)

  pub read_whole : Machine → (line : List ℕ) (at reach end : ℕ) (s t : S) → IsRead line at reach end s
      → reach < length line → step s (get_or line reach 0) ≡ Some t → whole t ≡ true
      → IsRead line at (reach + 1) (reach + 1) t
  read_whole m line at reach end s t r lt stepped is =
      let state = more_state line at reach end s t r lt stepped in
      let found = m.sound (slice_range line at (reach + 1)) t state is in
      record {
        from = let le = r.from in omega arith;
        within = omega arith;
        state = state;
        value = let P : Option V → Type 0 = λ o. MatchOption o (IsNoneYet line at (reach + 1))
            (IsLast line at (reach + 1) (reach + 1)) in subst P (sym found.1) (record {
              from = let le = r.from in omega arith;
              within = omega arith;
              spelled = found.2;
              longest = λ w j low high spelled. absurd (omega arith);
            });
      }

  pub read_on : Machine → (line : List ℕ) (at reach end : ℕ) (s t : S) → IsRead line at reach end s
      → reach < length line → step s (get_or line reach 0) ≡ Some t → whole t ≡ false → IsRead line at (reach + 1) end t
  read_on m line at reach end s t r lt stepped is =
      let state = more_state line at reach end s t r lt stepped in
      let P : Option V → Type 0 = λ o. MatchOption o (IsNoneYet line at (reach + 1)) (IsLast line at (reach + 1) end) in
      record {
        from = let le = r.from in omega arith;
        within = omega arith;
        state = state;
        value = subst P (sym (m.kept (slice_range line at reach) s t (get_or line reach 0) r.state stepped is))
            (later (last s) r.value state);
      }
    where
      open_here : (w : V) (j : ℕ) → Leads step start (slice_range line at (reach + 1)) t → j ≡ reach + 1
          → Spells w (slice_range line at j) → ⊥
      open_here w j state here spelled = not_whole m t (slice_range line at (reach + 1)) w state is
          (subst (λ (i : ℕ). Spells w (slice_range line at i)) here spelled)

      none_later : IsNoneYet line at reach → Leads step start (slice_range line at (reach + 1)) t → (w : V) (j : ℕ)
          → at ≤ j → j ≤ reach + 1 → (j ≡ reach + 1) ⊎ (j < reach + 1) → Spells w (slice_range line at j) → ⊥
      none_later none state w j low high (inr early) spelled = none w j low (omega arith) spelled
      none_later none state w j low high (inl here) spelled = open_here w j state here spelled

      last_later : (v : V) → IsLast line at reach end v → Leads step start (slice_range line at (reach + 1)) t
          → (w : V) (j : ℕ) → end < j → j ≤ reach + 1 → (j ≡ reach + 1) ⊎ (j < reach + 1)
          → Spells w (slice_range line at j) → ⊥
      last_later v l state w j low high (inr early) spelled = l.longest w j low (omega arith) spelled
      last_later v l state w j low high (inl here) spelled = open_here w j state here spelled

      later : (o : Option V) → MatchOption o (IsNoneYet line at reach) (IsLast line at reach end)
          → Leads step start (slice_range line at (reach + 1)) t
          → MatchOption o (IsNoneYet line at (reach + 1)) (IsLast line at (reach + 1) end)
      later None none state = λ w j low high spelled. none_later none state w j low high (eq-or-lt_of_le high) spelled
      later (Some v) l state = record {
        from = l.from;
        within = let le = l.within in omega arith;
        spelled = l.spelled;
        longest = λ w j low high spelled. last_later v l state w j low high (eq-or-lt_of_le high) spelled;
      }

  -- nothing goes on from `reach`
  abbrev pub Stops : List ℕ → ℕ → S → Type 0
  Stops line reach s = (length line ≤ reach) ⊎ (step s (get_or line reach 0) ≡ None)

  -- where a loop over the bytes ended, nothing goes on
  abbrev pub IsReadToStop : List ℕ → ℕ → ℕ → ℕ → S → Type 0
  IsReadToStop line at reach end s = IsRead line at reach end s × Stops line reach s

  pub read_ended : (line : List ℕ) (at reach end : ℕ) (s t : S) → IsRead line at reach end s → t ≡ s
      → length line ≤ reach → IsReadToStop line at reach end t
  read_ended line at reach end s t r same le = (subst (IsRead line at reach end) (sym same) r, inl le)

  pub read_stopped : (line : List ℕ) (at reach end : ℕ) (s t u : S) (b : Bool) → IsRead line at reach end s → u ≡ t
      → Moves (step s (get_or line reach 0)) s t b → b ≡ false → IsReadToStop line at reach end u
  read_stopped line at reach end s t u b r same moves refused =
      let w = step_refused (step s (get_or line reach 0)) s t b moves refused in
      let back : u ≡ s = same ∙ w.1 in (
        subst (IsRead line at reach end) (sym back) r,
        inr
            (subst (λ (v : S). step v (get_or line reach 0) ≡ None) (sym back) w.0),
      )

  beyond : Machine → (line : List ℕ) (at reach end : ℕ) (s : S) → IsRead line at reach end s → Stops line reach s
      → (j : ℕ) → reach < j → j ≤ length line → BeginsSpelling Spells (slice_range line at j) → ⊥
  beyond m line at reach end s r (inl short) j lt le begins = omega arith
  beyond m line at reach end s r (inr stops) j lt le begins =
      let c = m.complete begins.0 (slice_range line at j ++ begins.1) begins.2 in
      let from = r.from in
      let stopped : run step start (slice_range line at reach ++ get_or line reach 0 ∷ []) ≡ None =
      run-append step start (slice_range line at reach) (get_or line reach 0 ∷ [])
      ∙ ap (λ o. option_and_then (λ u. run step u (get_or line reach 0 ∷ [])) o) r.state
      ∙ ap (λ o. option_and_then (λ u. Some u) o) stops in
      let dead : run step start (slice_range line at (reach + 1))
      ≡ None = ap (run step start) (slice_more line at reach from (omega arith)) ∙ stopped in
      let longer : run step start (slice_range line at j)
      ≡ None = ap (run step start) (slice_split line at (reach + 1) j (omega arith) (omega arith))
      ∙ dead_then step start (slice_range line at (reach + 1))
      (take (j - (reach + 1)) (drop (reach + 1 - at) (drop at line))) dead in
      let all : run step start (slice_range line at j ++ begins.1)
      ≡ None = dead_then step start (slice_range line at j) begins.1 longer in
      let some = c.1 in
      absurd cc

  beyond_none : Machine → (line : List ℕ) (at reach end : ℕ) (s : S) → IsRead line at reach end s → Stops line reach s
      → (w : V) (j : ℕ) → reach < j → j ≤ length line → Spells w (slice_range line at j) → ⊥
  beyond_none m line at reach end s r stops w j lt le spelled = beyond m line at reach end s r stops j lt le
      (w, [], subst (λ (h : List ℕ). Spells w h) (sym (append-nil (slice_range line at j))) spelled)

  -- the last value is that of the longest spelling
  pub read_found : Machine → (line : List ℕ) (at reach end : ℕ) (s : S) (v : V) → IsRead line at reach end s
      → Stops line reach s → last s ≡ Some v → IsLongestSpelling Spells line at v end
  read_found m line at reach end s v r stops e =
      let l : IsLast line at reach end v = let P : Option V
      → Type 0 = λ o. MatchOption o (IsNoneYet line at reach)
      (IsLast line at reach end) in subst P e r.value in
      record {
        from = l.from;
        within = let a = l.within in let b = r.within in omega arith;
        spelled = l.spelled;
        longest = λ w j low high spelled. further w j low high (cases_lt reach j) spelled l;
      }
    where
      further : (w : V) (j : ℕ) → end < j → j ≤ length line → (reach < j) ⊎ (j ≤ reach)
          → Spells w (slice_range line at j) → IsLast line at reach end v → ⊥
      further w j low high (inr early) spelled l = l.longest w j low early spelled
      further w j low high (inl late) spelled l = beyond_none m line at reach end s r stops w j late high spelled

  -- without a last value there is no spelling, and `reach` is the furthest column
  pub read_nothing : Machine → (line : List ℕ) (at reach end : ℕ) (s : S) → IsRead line at reach end s
      → Stops line reach s → last s ≡ None → IsNoSpelling Spells line at × IsFurthest Spells line at reach
  read_nothing m line at reach end s r stops e =
      let none : IsNoneYet line at reach = let P : Option V
      → Type 0 = λ o. MatchOption o (IsNoneYet line at reach)
      (IsLast line at reach end) in subst P e r.value in
      let more = m.live (slice_range line at reach) s r.state in
      let leads = leads_then step start s more.1 (slice_range line at reach) more.0 r.state more.2 in
      let found = m.sound (slice_range line at reach ++ more.0) more.1 leads more.3 in (
        λ w j low high spelled. further w j low high (cases_lt reach j) spelled none,
        record {
          from = r.from;
          within = r.within;
          begins = (found.0, more.0, found.2);
          furthest = beyond m line at reach end s r stops;
        },
      )
    where
      further : (w : V) (j : ℕ) → at ≤ j → j ≤ length line → (reach < j) ⊎ (j ≤ reach)
          → Spells w (slice_range line at j) → IsNoneYet line at reach → ⊥
      further w j low high (inr early) spelled none = none w j low early spelled
      further w j low high (inl late) spelled none = beyond_none m line at reach end s r stops w j late high spelled

  -- bytes spell one value
  pub one_value : Machine → (v w : V) (g : List ℕ) → Spells v g → Spells w g → v ≡ w
  one_value m v w g first second =
      let a = m.complete v g first in
      let b = m.complete w g second in
      let same : a.0 ≡ b.0 = some_same {A = S} a.0 b.0 (sym a.1 ∙ b.1) in
      some_same v w (sym a.3 ∙ ap last same ∙ b.3)
    where
      some_same : {A : Type 0} (x y : A) → Some x ≡ Some y → x ≡ y
      some_same x y e = cc

-- ---- a line that is a spelling

slice_whole : (text : List ℕ) → slice_range text 0 (length text) ≡ text
slice_whole text = let all : length text - 0 ≡ length text = omega arith in ap (λ n. take n text) all ∙ take-length text

module _ {V : Type 0} (Spells : V → List ℕ → Type 0) (one : (v w : V) (g : List ℕ) → Spells v g → Spells w g → v ≡ w)
  where
    -- it is read whole
    pub whole_read : (text : List ℕ) (v w : V) (end : ℕ) → Spells v text → IsLongestSpelling Spells text 0 w end
        → (w ≡ v) × (end ≡ length text)
    whole_read text v w end spelled r = go (cases_lt end (length text))
      where
        here : Spells v (slice_range text 0 (length text))
        here = subst (Spells v) (sym (slice_whole text)) spelled

        go : (end < length text) ⊎ (length text ≤ end) → (w ≡ v) × (end ≡ length text)
        go (inl short) = absurd (r.longest v (length text) short (omega arith) here)
        go (inr long) =
            let within = r.within in
            let same : end ≡ length text = omega arith in (
              one w v (slice_range text 0 (length text))
                  (subst (λ (i : ℕ). Spells w (slice_range text 0 i)) same r.spelled) here,
              same,
            )

    -- and it is refused for want of memory alone
    pub only_memory : (text : List ℕ) (v : V) (e : TextFault) → Spells v text → IsReadFault Spells text 0 e → e ≡ Memory
    only_memory text v (Syntax column) spelled fault = absurd
        (fault.0 v (length text) (omega arith) (omega arith) (subst (Spells v) (sym (slice_whole text)) spelled))
    only_memory text v (CodeRange code) spelled fault = absurd fault
    only_memory text v Memory spelled fault = refl
