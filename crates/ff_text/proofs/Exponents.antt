-- The exponents of a polynomial that is spelled in few bytes are small.
use Rattle.std.proofs.Common.{◌≡◌, ℕ, ◌+◌, ◌-◌, ◌*◌, ◌^◌, ◌<◌, ◌≤◌, Bool, List, [], ◌∷◌, length, drop, codes, All, refl, ap, ◌∙◌, inl, inr, arith}
use Rattle.std.specs.Prelude.{sum_by}
use Rattle.std.specs.List.{slice_range}
use Rattle.std.proofs.lemmas.List.{length-append, length-drop, length-take-le}
use Rattle.std.proofs.lemmas.List.Sums.{sum_by-cons}
use Rattle.std.proofs.lemmas.List.Elements.{All-nil, All-cons}
use Rattle.ff_text.specs.declared.terms.Factor.{Factor}
use Rattle.ff_text.specs.declared.terms.Factor.TheVariants.{Code, X, Y}
use Rattle.ff_text.specs.declared.terms.Term.{Term}
use Rattle.ff_text.specs.Spelling.{Then, Around, Each, SpellsPower, SpellsFactor, SpellsFactors, SpellsNext, SpellsTerms}
use Rattle.ff_text.specs.Reading.{IsLongestSpelling}
use Rattle.ff_text.specs.Values.{exponent_of_x, exponent_of_y, HasSmallExponents}
use Rattle.ff_text.proofs.Digits.{number_small}

length_then : {A B : List ℕ → Type 0} (g : List ℕ) (t : Then A B g) → length g ≡ length t.front + length t.back
length_then g t = ap length t.whole ∙ length-append t.front t.back

power_small : (letter : List ℕ) (n : ℕ) (g : List ℕ) → length letter ≡ 1 → SpellsPower letter n g
    → n ≤ length g * 1000000000
power_small letter n g one (inl alone) =
    let long = ap length alone.1 in
    let value = alone.0 in
    omega arith
power_small letter n g one (inr t) =
    let long = length_then g t in
    let front = ap length t.first in
    let small = number_small n t.second.back t.second.second in
    omega arith

module _ (y : Bool) where
  -- a factor's exponents, by the length of its spelling
  x_small : (f : Factor) (g : List ℕ) → SpellsFactor y f g → exponent_of_x f ≤ length g * 1000000000
  x_small (Code n) g s = omega arith
  x_small (X n) g s = power_small (codes "x") n g refl s
  x_small (Y n) g s = omega arith

  y_small : (f : Factor) (g : List ℕ) → SpellsFactor y f g → exponent_of_y f ≤ length g * 1000000000
  y_small (Code n) g s = omega arith
  y_small (X n) g s = omega arith
  y_small (Y n) g s = power_small (codes "y") n g refl s.1

  module _ (exponent : Factor → ℕ) (small : (f : Factor) (g : List ℕ) → SpellsFactor y f g
      → exponent f ≤ length g * 1000000000) where
    next_small : (fs : List Factor) (g : List ℕ) → Each (λ f. Then (Around (codes "*")) (SpellsFactor y f)) fs g
        → sum_by exponent fs ≤ length g * 1000000000
    next_small [] g e = omega arith
    next_small (f ∷ fs) g t =
        let long = length_then g t in
        let part = length_then t.front t.first in
        let here = small f t.first.back t.first.second in
        let rest = next_small fs t.back t.second in
        let sum = sum_by-cons exponent f fs in
        omega arith

    factors_small : (fs : List Factor) (g : List ℕ) → SpellsFactors y fs g → sum_by exponent fs ≤ length g * 1000000000
    factors_small [] g s = absurd s
    factors_small (f ∷ fs) g t =
        let long = length_then g t in
        let here = small f t.front t.first in
        let rest = next_small fs t.back t.second in
        let sum = sum_by-cons exponent f fs in
        omega arith

  term_small : {Sign : List ℕ → Type 0} (t : Term) (g : List ℕ) → length g < 2 ^ 34
      → Then Sign (SpellsFactors y t.factors) g → HasSmallExponents t
  term_small t g short s =
      let long = length_then g s in
      let x_sum = factors_small exponent_of_x x_small t.factors s.back s.second in
      let y_sum = factors_small exponent_of_y y_small t.factors s.back s.second in
      record { x = omega arith; y = omega arith }

  next_terms_small : (ts : List Term) (g : List ℕ) → length g < 2 ^ 34 → Each (SpellsNext y) ts g
      → All HasSmallExponents ts
  next_terms_small [] g short s = All-nil HasSmallExponents
  next_terms_small (t ∷ ts) g short s =
      let long = length_then g s in
      All-cons HasSmallExponents t ts (term_small t s.front (omega arith) s.first)
      (next_terms_small ts s.back (omega arith) s.second)

  pub terms_small : (ts : List Term) (g : List ℕ) → SpellsTerms y ts g → length g < 2 ^ 34 → All HasSmallExponents ts
  terms_small [] g s short = absurd s
  terms_small (t ∷ ts) g s short =
      let long = length_then g s in
      All-cons HasSmallExponents t ts (term_small t s.front (omega arith) s.first)
      (next_terms_small ts s.back (omega arith) s.second)

  -- a polynomial that is read in a short line
  pub read_small : (line : List ℕ) (at : ℕ) (v : List Term) (end : ℕ) → IsLongestSpelling (SpellsTerms y) line at v end
      → length line < 2 ^ 34 → All HasSmallExponents v
  read_small line at v end r short =
      let within = r.within in
      let from = r.from in
      let left : length (drop at line) ≡ length line - at = length-drop at line in
      let cut : length (slice_range line at end) ≡ end - at = length-take-le (end - at) (drop at line) (omega arith) in
      terms_small v (slice_range line at end) r.spelled (omega arith)
