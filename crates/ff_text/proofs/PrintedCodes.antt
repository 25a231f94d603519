-- The codes of terms that are read one after the other.
use Rattle.std.proofs.Common.{◌≡◌, ◌≢◌, ℕ, zero, suc, ◌-◌, ◌<◌, ◌≤◌, Bool, false, true, cond, eqb, ltb, List, [], ◌∷◌, ◌++◌, replicate, Option, Some, None, refl, sym, ap, ◌∙◌, append_assoc, arith, inl, inr}
use Rattle.std.proofs.lemmas.Bool.{ltb-true, ltb-false, eqb-true, eq-eqb, ne_eqb, cases_Bool}
use Rattle.ff_text.specs.PrintedReading.{◌>>=◌, plus_at, lower_at, on_top, codes_at}
use Rattle.ff_text.proofs.PrintedFound.{bind_some, guard_some, some_is, no_none}

abbrev pub ReadTerm : Type 0
ReadTerm = (ℕ × ℕ) × List ℕ

differ : (b : Bool) → b ≡ false → b ≡ true → ⊥
differ b is_false is_true = cc

-- ---- one step

-- no term of degree j comes next
pub codes_skip : (j : ℕ) (bytes : List ℕ) → ((t : ReadTerm) → plus_at bytes ≡ Some t → t.0.1 ≢ j)
    → codes_at (suc j) bytes ≡ on_top 0 (codes_at j bytes)
unfolding codes_at
codes_skip j bytes other = go (plus_at bytes) refl
  where
    go : (o : Option ReadTerm) → plus_at bytes ≡ o → codes_at (suc j) bytes ≡ on_top 0 (codes_at j bytes)
    go None e = rw e refl
    go (Some t) e = rw (e, ne_eqb t.0.1 j (other t e)) refl

-- the next term is of degree j
pub codes_take : (j : ℕ) (bytes : List ℕ) (t : ReadTerm) → plus_at bytes ≡ Some t → t.0.1 ≡ j
    → codes_at (suc j) bytes ≡ on_top t.0.0 (codes_at j t.1)
unfolding codes_at
codes_take j bytes t e same = rw (e, eq-eqb t.0.1 j same) refl

-- no term below degree j comes next
pub codes_past : (j : ℕ) (bytes : List ℕ) → ((t : ReadTerm) → plus_at bytes ≡ Some t → j ≤ t.0.1)
    → codes_at j bytes ≡ (replicate j 0, bytes)
unfolding codes_at
codes_past zero bytes past = refl
codes_past (suc j) bytes past =
    codes_skip j bytes (λ t e same. let above : suc j ≤ t.0.1 = past t e in omega arith)
    ∙ ap (on_top 0) (codes_past j bytes (λ t e. let above : suc j ≤ t.0.1 = past t e in omega arith))

-- the next term is of a degree below j: zeros, its code, and the codes behind it
pub codes_gap : (j : ℕ) (bytes : List ℕ) (t : ReadTerm) → plus_at bytes ≡ Some t → t.0.1 < j
    → codes_at j bytes ≡ (replicate (j - 1 - t.0.1) 0 ++ t.0.0 ∷ (codes_at t.0.1 t.1).0, (codes_at t.0.1 t.1).1)
codes_gap zero bytes t e below = absurd (omega arith)
codes_gap (suc j) bytes t e below = elim (cases_Bool (eqb t.0.1 j)) [
  | inl is ↦
      let same : t.0.1 ≡ j = eqb-true t.0.1 j is in
      let none : suc j - 1 - t.0.1 ≡ 0 = omega arith in
      codes_take j bytes t e same ∙ ap (λ i. on_top t.0.0 (codes_at i t.1)) (sym same)
      ∙ ap (λ n. (replicate n 0 ++ t.0.0 ∷ (codes_at t.0.1 t.1).0, (codes_at t.0.1 t.1).1)) (sym none)
  | inr not ↦
      let other : t.0.1 ≢ j = λ same. differ (eqb t.0.1 j) not (eq-eqb t.0.1 j same) in
      let less : t.0.1 < j = omega arith in
      let more : suc j - 1 - t.0.1 ≡ suc (j - 1 - t.0.1) = omega arith in
      codes_skip j bytes (λ u f same. other (ap (λ (v : ReadTerm). v.0.1) (some_is t u (sym e ∙ f)) ∙ same))
      ∙ ap (on_top 0) (codes_gap j bytes t e less)
      ∙ ap (λ n. (replicate n 0 ++ t.0.0 ∷ (codes_at t.0.1 t.1).0, (codes_at t.0.1 t.1).1)) (sym more)
]

-- ---- what the loop knows of the next term

pub lower_is : (bound : ℕ) (bytes : List ℕ) (t : ReadTerm) → lower_at bound bytes ≡ Some t
    → (plus_at bytes ≡ Some t) × (t.0.1 < bound)
unfolding lower_at
lower_is bound bytes t e =
    let a = bind_some (plus_at bytes) (λ u. cond (ltb u.0.1 bound) (Some u) None) t e in
    let g = guard_some (ltb a.0.0.1 bound) a.0 t a.2 in
    let degree : a.0.0.1 < bound = ltb-true a.0.0.1 bound g.0 in
    (a.1 ∙ ap Some g.1, omega (arith, ap (λ (u : ReadTerm). u.0.1) g.1))

pub lower_none : (bound : ℕ) (bytes : List ℕ) → lower_at bound bytes ≡ None → (t : ReadTerm) → plus_at bytes ≡ Some t
    → bound ≤ t.0.1
unfolding lower_at
lower_none bound bytes e t is = elim (cases_Bool (ltb t.0.1 bound)) [
  | inl below ↦ absurd (no_none (sym (let one :
      (plus_at bytes >>= λ (u : ReadTerm). cond (ltb u.0.1 bound) (Some u) None)
      ≡ Some t = rw (is, below) refl in one) ∙ e))
  | inr not ↦ ltb-false t.0.1 bound not
]

-- ---- what the loop keeps

pub codes_ended : (start whole : List ℕ) (bound : ℕ) (bytes : List ℕ) → lower_at bound bytes ≡ None
    → start ++ (codes_at bound bytes).0 ≡ whole → start ++ replicate bound 0 ≡ whole
codes_ended start whole bound bytes e kept = ap (λ (r : List ℕ × List ℕ). start ++ r.0)
    (sym (codes_past bound bytes (lower_none bound bytes e))) ∙ kept

pub rest_ended : (bound : ℕ) (bytes : List ℕ) → lower_at bound bytes ≡ None → (codes_at bound bytes).1 ≡ bytes
rest_ended bound bytes e = ap (λ (r : List ℕ × List ℕ). r.1) (codes_past bound bytes (lower_none bound bytes e))

pub codes_more : (start whole : List ℕ) (bound : ℕ) (bytes : List ℕ) (t : ReadTerm) → lower_at bound bytes ≡ Some t
    → start ++ (codes_at bound bytes).0 ≡ whole
    → ((start ++ replicate (bound - 1 - t.0.1) 0) ++ t.0.0 ∷ []) ++ (codes_at t.0.1 t.1).0 ≡ whole
codes_more start whole bound bytes t e kept =
    let is = lower_is bound bytes t e in
    let gap = replicate (bound - 1 - t.0.1) 0 in
    let behind = (codes_at t.0.1 t.1).0 in
    append_assoc (start ++ gap) (t.0.0 ∷ []) behind ∙ append_assoc start gap (t.0.0 ∷ behind)
    ∙ ap (λ (r : List ℕ × List ℕ). start ++ r.0) (sym (codes_gap bound bytes t is.0 is.1)) ∙ kept

pub rest_more : (bound : ℕ) (bytes : List ℕ) (t : ReadTerm) → lower_at bound bytes ≡ Some t
    → (codes_at t.0.1 t.1).1 ≡ (codes_at bound bytes).1
rest_more bound bytes t e = let is = lower_is bound bytes t e in ap (λ (r : List ℕ × List ℕ). r.1)
    (sym (codes_gap bound bytes t is.0 is.1))
