-- Terms that are read are printed so, and terms that are printed are read again.
use Rattle.std.proofs.Common.{◌≡◌, ℕ, zero, suc, ◌<◌, ◌≤◌, false, eqb, ltb, List, [], ◌∷◌, ◌++◌, codes, Some, None, refl, sym, ap, subst, ◌∙◌, append_assoc, arith, inl, inr}
use Rattle.std.specs.Char.{is_ascii_digit}
use Rattle.std.specs.Fmt.{decimal}
use Rattle.std.proofs.lemmas.Bool.{ltb-true, lt-ltb, ne_eqb}
use Rattle.ff_text.specs.Printed.{power_text, term_text}
use Rattle.ff_text.specs.PrintedReading.{◌>>=◌, after_text, digit_at, number_at, exponent_at, power_at, factor_at, behind_code, term_at}
use Rattle.ff_text.proofs.PrintedFound.{bind_some, choice_some, test_some, some_is, text_takes, text_again}
use Rattle.ff_text.proofs.PrintedNumbers.{digits_ended, number_takes, number_again}

-- what may stand behind a power of x: no digit and no `^`
pub record IsPowerEnd (rest : List ℕ) : Type 0 where
  pub digit : digit_at rest ≡ None
  pub power : after_text (codes "^") rest ≡ None

-- what may stand behind a term: no `*` either
pub record IsTermEnd (rest : List ℕ) : Type 0 where
  pub power_end : IsPowerEnd rest
  pub product : after_text (codes "*") rest ≡ None

-- ---- what a first byte rules out

pub other_text : (v b : ℕ) (vs bs : List ℕ) → eqb b v ≡ false → after_text (v ∷ vs) (b ∷ bs) ≡ None
unfolding after_text
other_text v b vs bs e = rw e refl

pub no_digit : (b : ℕ) (bs : List ℕ) → is_ascii_digit b ≡ false → digit_at (b ∷ bs) ≡ None
unfolding digit_at
no_digit b bs e = rw e refl

no_number : (b : ℕ) (bs : List ℕ) → eqb b 48 ≡ false → is_ascii_digit b ≡ false → number_at 1 65536 (b ∷ bs) ≡ None
unfolding number_at
no_number b bs e other = rw (other_text 48 b [] bs e, digits_ended 65536 0 (b ∷ bs) (no_digit b bs other)) refl

-- ---- powers of x

-- what is written behind x
abbrev pub exponent_text : ℕ → List ℕ
exponent_text zero = []
exponent_text (suc zero) = []
exponent_text (suc (suc j)) = 94 ∷ decimal (suc (suc j))

exponent_written : (j : ℕ) → 2 ≤ j → exponent_text j ≡ 94 ∷ decimal j
exponent_written zero h = absurd (omega arith)
exponent_written (suc zero) h = absurd (omega arith)
exponent_written (suc (suc j)) h = refl

pub power_written : (j : ℕ) → 1 ≤ j → power_text j ≡ 120 ∷ exponent_text j
power_written zero h = absurd (omega arith)
power_written (suc zero) h = refl
power_written (suc (suc j)) h = refl

-- an exponent from 1 to 1024 that is read, and what is before the rest
pub record IsPowerIn (text bytes : List ℕ) (j : ℕ) (rest : List ℕ) : Type 0 where
  pub parts : bytes ≡ text ++ rest
  pub least : 1 ≤ j
  pub most : j ≤ 1024

exponent_takes : (bytes : List ℕ) (j : ℕ) (rest : List ℕ) → exponent_at bytes ≡ Some (j, rest)
    → IsPowerIn (exponent_text j) bytes j rest
unfolding exponent_at
exponent_takes bytes j rest e =
    elim (choice_some (number_at 2 1025) (after_text (codes "^") bytes) (Some (1, bytes)) (j, rest) e) [
      | inl w ↦ subst (λ (p : ℕ × List ℕ). IsPowerIn (exponent_text p.0) bytes p.0 p.1)
          (some_is (1, bytes) (j, rest) w.1) (record { parts = refl; least = omega arith; most = omega arith })
      | inr w ↦
          let n = number_takes 2 1025 w.0 j rest (omega arith) (omega arith) w.2 in
          let least : 2 ≤ j = n.least in
          let below : j < 1025 = n.below in
          let written = exponent_written j least in
          record {
            parts = text_takes (codes "^") bytes w.0 w.1 ∙ ap (λ (t : List ℕ). 94 ∷ t) n.text
                ∙ ap (λ (t : List ℕ). t ++ rest) (sym written);
            least = omega arith;
            most = omega arith;
          }
    ]

exponent_again : (j : ℕ) (rest : List ℕ) → 1 ≤ j → j ≤ 1024 → IsPowerEnd rest
    → exponent_at (exponent_text j ++ rest) ≡ Some (j, rest)
unfolding exponent_at after_text
exponent_again zero rest least most end = absurd (omega arith)
exponent_again (suc zero) rest least most end = rw end.power refl
exponent_again (suc (suc j)) rest least most end = number_again 2 1025 (suc (suc j)) rest (omega arith) (omega arith)
    (omega arith) (omega arith) end.digit

pub power_takes : (bytes : List ℕ) (j : ℕ) (rest : List ℕ) → power_at bytes ≡ Some (j, rest)
    → IsPowerIn (power_text j) bytes j rest
unfolding power_at
power_takes bytes j rest e =
    let a = bind_some (after_text (codes "x") bytes) exponent_at (j, rest) e in
    let b = exponent_takes a.0 j rest a.2 in
    let written = power_written j b.least in
    record {
      parts = text_takes (codes "x") bytes a.0 a.1 ∙ ap (λ (t : List ℕ). 120 ∷ t) b.parts
          ∙ ap (λ (t : List ℕ). t ++ rest) (sym written);
      least = b.least;
      most = b.most;
    }

pub power_again : (j : ℕ) (rest : List ℕ) → 1 ≤ j → j ≤ 1024 → IsPowerEnd rest
    → power_at (power_text j ++ rest) ≡ Some (j, rest)
unfolding power_at
power_again j rest least most end =
    ap (λ (t : List ℕ). power_at (t ++ rest)) (power_written j least)
    ∙ rw (text_again (codes "x") (exponent_text j ++ rest)) (exponent_again j rest least most end)

-- ---- terms

pub one_written : (j : ℕ) → 1 ≤ j → term_text 1 j ≡ power_text j
one_written zero h = absurd (omega arith)
one_written (suc j) h = refl

factor_written : (c j : ℕ) → 1 < c → 1 ≤ j → term_text c j ≡ decimal c ++ (42 ∷ power_text j)
factor_written c zero more h = absurd (omega arith)
factor_written c (suc j) more h = rw (ne_eqb c 1 (λ e. omega (arith, e))) refl

-- a code and a degree that are read, and what is before the rest
pub record IsTermIn (bytes : List ℕ) (c j : ℕ) (rest : List ℕ) : Type 0 where
  pub parts : bytes ≡ term_text c j ++ rest
  pub least : 1 ≤ c
  pub small : c < 65536
  pub degree : j ≤ 1024

factor_takes : (bytes behind : List ℕ) (c : ℕ) (b : (ℕ × ℕ) × List ℕ) → bytes ≡ decimal c ++ (42 ∷ behind) → c < 65536
    → factor_at c behind ≡ Some b → IsTermIn bytes b.0.0 b.0.1 b.1
factor_takes bytes behind c b parts small e =
    let g = test_some (ltb 1 c) (power_at behind >>= λ j. Some ((c, j.0), j.1)) b e in
    let more : 1 < c = ltb-true 1 c g.0 in
    let a = bind_some (power_at behind) (λ j. Some ((c, j.0), j.1)) b g.1 in
    let q = power_takes behind a.0.0 a.0.1 a.1 in
    let whole : bytes ≡ decimal c ++ (42 ∷ (power_text a.0.0 ++ a.0.1)) = parts
    ∙ ap (λ (t : List ℕ). decimal c ++ (42 ∷ t)) q.parts in
    let regrouped : decimal c ++ (42 ∷ (power_text a.0.0 ++ a.0.1))
    ≡ (decimal c ++ (42 ∷ power_text a.0.0))
    ++ a.0.1 = sym (append_assoc (decimal c) (42 ∷ power_text a.0.0) a.0.1) in
    subst (λ (t : (ℕ × ℕ) × List ℕ). IsTermIn bytes t.0.0 t.0.1 t.1) (some_is ((c, a.0.0), a.0.1) b a.2)
    (record {
      parts = whole ∙ regrouped ∙ ap (λ (t : List ℕ). t ++ a.0.1) (sym (factor_written c a.0.0 more q.least));
      least = omega arith;
      small = small;
      degree = q.most;
    })

pub term_takes : (bytes : List ℕ) (b : (ℕ × ℕ) × List ℕ) → term_at bytes ≡ Some b → IsTermIn bytes b.0.0 b.0.1 b.1
unfolding term_at
term_takes bytes b e =
    let P : (ℕ × ℕ) × List ℕ → Type 0 = λ t. IsTermIn bytes t.0.0 t.0.1 t.1 in
    elim (choice_some behind_code (number_at 1 65536 bytes) (power_at bytes >>= λ j. Some ((1, j.0), j.1)) b e) [
      | inl w ↦
          let a = bind_some (power_at bytes) (λ j. Some ((1, j.0), j.1)) b w.1 in
          let q = power_takes bytes a.0.0 a.0.1 a.1 in
          subst P (some_is ((1, a.0.0), a.0.1) b a.2)
          (record {
            parts = q.parts ∙ ap (λ (t : List ℕ). t ++ a.0.1) (sym (one_written a.0.0 q.least));
            least =
                omega arith;
            small = omega arith;
            degree = q.most;
          })
      | inr w ↦
          let c = w.0 in
          let n = number_takes 1 65536 bytes c.0 c.1 (omega arith) (omega arith) w.1 in
          elim (choice_some (factor_at c.0) (after_text (codes "*") c.1) (Some ((c.0, 0), c.1)) b w.2) [
            | inl v ↦ subst P (some_is ((c.0, 0), c.1) b v.1)
                (record { parts = n.text; least = n.least; small = n.below; degree = omega arith })
            | inr v ↦ factor_takes bytes v.0 c.0 b
                (n.text ∙ ap (λ (t : List ℕ). decimal c.0 ++ t) (text_takes (codes "*") c.1 v.0 v.1)) n.below v.2
          ]
    ]

one_again : (j : ℕ) (rest : List ℕ) → 1 ≤ j → j ≤ 1024 → IsPowerEnd rest
    → term_at (power_text j ++ rest) ≡ Some ((1, j), rest)
unfolding term_at
one_again j rest least most end =
    let none : number_at 1 65536 (power_text j ++ rest)
    ≡ None = ap (λ (t : List ℕ). number_at 1 65536 (t ++ rest)) (power_written j least)
    ∙ no_number 120 (exponent_text j ++ rest) refl refl in
    rw (none, power_again j rest least most end) refl

factor_again : (c j : ℕ) (rest : List ℕ) → 1 < c → c < 65536 → 1 ≤ j → j ≤ 1024 → IsPowerEnd rest
    → term_at (decimal c ++ (42 ∷ (power_text j ++ rest))) ≡ Some ((c, j), rest)
unfolding term_at
factor_again c j rest more small least most end =
    let behind : List ℕ = power_text j ++ rest in
    let number : number_at 1 65536 (decimal c ++ (42 ∷ behind))
    ≡ Some (c, 42 ∷ behind) = number_again 1 65536 c (42 ∷ behind) (omega arith) (omega arith) (omega arith) small
    (no_digit 42 behind refl) in
    rw (number, text_again (codes "*") behind, lt-ltb 1 c more, power_again j rest least most end) refl

constant_again : (c : ℕ) (rest : List ℕ) → 1 ≤ c → c < 65536 → IsTermEnd rest
    → term_at (decimal c ++ rest) ≡ Some ((c, 0), rest)
unfolding term_at
constant_again c rest least small end =
    rw (number_again 1 65536 c rest (omega arith) (omega arith) least small end.power_end.digit, end.product) refl

pub term_again : (c j : ℕ) (rest : List ℕ) → 1 ≤ c → c < 65536 → j ≤ 1024 → IsTermEnd rest
    → term_at (term_text c j ++ rest) ≡ Some ((c, j), rest)
term_again c zero rest least small degree end = constant_again c rest least small end
term_again zero (suc j) rest least small degree end = absurd (omega arith)
term_again (suc zero) (suc j) rest least small degree end = one_again (suc j) rest (omega arith) degree end.power_end
term_again (suc (suc c)) (suc j) rest least small degree end =
    ap (λ (t : List ℕ). term_at (t ++ rest)) (factor_written (suc (suc c)) (suc j) (omega arith) (omega arith))
    ∙ ap term_at (append_assoc (decimal (suc (suc c))) (42 ∷ power_text (suc j)) rest)
    ∙ factor_again (suc (suc c)) (suc j) rest (omega arith) small (omega arith) degree end.power_end
