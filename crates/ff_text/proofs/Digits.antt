-- Digits, and the machine of numbers.
use Rattle.std.proofs.Common.{◌≡◌, ◌≢◌, ℕ, suc, ◌+◌, ◌-◌, ◌*◌, ◌^◌, ◌<◌, ◌≤◌, Bool, true, false, cond, List, [], ◌∷◌, ◌++◌, length, get_or, inl, inr, Option, Some, None, refl, sym, ap, ◌∙◌, subst, arith}
use Rattle.std.specs.Prelude.{◌&&◌, nat_lt}
use Rattle.std.specs.Char.{digit_value, is_ascii_digit}
use Rattle.std.specs.Int.{IsInRange}
use Rattle.std.specs.List.{slice_range}
use Rattle.std.specs.Str.Parse.{AllDigits, digits_value, digits_value_after}
use Rattle.std.proofs.lemmas.Bool.{ltb-true, ltb-false, leb-true, le-leb, lt-ltb, le-ltb, and_parts, and_from}
use Rattle.std.proofs.lemmas.List.{length-append}
use Rattle.std.proofs.lemmas.Str.{digit_value_digit}
use Rattle.std.proofs.lemmas.Str.Parse.{digit_from_value, digits_value_short, numerals_by_value, tells_digits}
use Rattle.std.proofs.lemmas.Int.Digits.{digits_push, digits_value_push}
use Rattle.ff_text.specs.Spelling.{SpellsNumber}
use Rattle.ff_text.specs.Reading.{IsLongestSpelling, IsReadFault}
use Rattle.ff_text.specs.declared.fault.TextFault.TheVariants.{Syntax}
use Rattle.ff_text.proofs.Machines.{Leads, IsMachine, IsRead, Stops, along, read_start, read_whole, read_found, read_nothing}

-- ---- one digit

-- what a test for a digit says
pub record IsDigit (c : ℕ) : Type 0 where
  pub low : 48 ≤ c
  pub high : c ≤ 57
  pub below : digit_value c < 10
  pub value : digit_value c ≡ c - 48
  pub test : is_ascii_digit c ≡ true

digit_in : (c : ℕ) → IsInRange 48 57 c → IsDigit c
digit_in c range =
    let value = digit_value_digit c range in
    record {
      low = range.0;
      high = range.1;
      below = omega (arith, range.0, range.1, value);
      value = omega (arith, range.0, range.1, value);
      test = and_from _ _ (le-leb 48 c range.0) (le-leb c 57 range.1);
    }

pub digit_of_test : (c : ℕ) → is_ascii_digit c ≡ true → IsDigit c
digit_of_test c is =
    let both = and_parts _ _ is in
    digit_in c (leb-true 48 c both.0, leb-true c 57 both.1)

pub digit_of_value : (c : ℕ) → digit_value c < 10 → IsDigit c
digit_of_value c lt = digit_in c (digit_from_value c lt)

-- ---- numbers

pub number_one : (c : ℕ) → IsDigit c → SpellsNumber (c - 48) (c ∷ [])
number_one c d = record {
  numeral = (omega arith, (d.below, tt));
  few = omega arith;
  value = let v = d.value in omega arith;
}

pub number_more : (n : ℕ) (g : List ℕ) (c : ℕ) → SpellsNumber n g → length g < 9 → IsDigit c
    → SpellsNumber (10 * n + (c - 48)) (g ++ c ∷ [])
number_more n g c s short d =
    let long : length (g ++ c ∷ []) ≡ length g + 1 = length-append g (c ∷ []) in
    let some = s.numeral.0 in
    record {
      numeral = (omega arith, digits_push 10 g c s.numeral.1 d.below);
      few = omega arith;
      value = let pushed = digits_value_push 10 g c in let was = s.value in let v = d.value in omega arith;
    }

pub number_small : (n : ℕ) (g : List ℕ) → SpellsNumber n g → n < 1000000000
number_small n g s =
    let bound : digits_value 10 g < 10 ^ 9 = digits_value_short (numerals_by_value (AllDigits 10) tells_digits) g 9
    s.numeral.1 s.few in
    let was = s.value in
    omega arith

pub number_room : (n : ℕ) (g : List ℕ) → SpellsNumber n g → length g < 9 → n < 100000000
number_room n g s short =
    let bound : digits_value 10 g < 10 ^ 8 = digits_value_short (numerals_by_value (AllDigits 10) tells_digits) g 8
    s.numeral.1 (omega arith) in
    let was = s.value in
    omega arith

-- ---- the machine: how many digits there are, and their number

abbrev pub number_step : ℕ × ℕ → ℕ → Option (ℕ × ℕ)
number_step s b = cond (is_ascii_digit b && nat_lt s.0 9) (Some (s.0 + 1, 10 * s.1 + (b - 48))) None

abbrev pub number_whole : ℕ × ℕ → Bool
number_whole s = nat_lt 0 s.0

abbrev pub number_last : ℕ × ℕ → Option ℕ
number_last s = cond (nat_lt 0 s.0) (Some s.1) None

-- what was read are so many digits, with the number as their value
record IsDigits (s : ℕ × ℕ) (g : List ℕ) : Type 0 where
  count : s.0 ≡ length g
  few : length g ≤ 9
  digits : AllDigits 10 g
  value : digits_value 10 g ≡ s.1

test_some : {A : Type 0} (b : Bool) (x y : A) → cond b (Some x) None ≡ Some y → (b ≡ true) × (x ≡ y)
test_some true x y e = (refl, cc)
test_some false x y e = absurd cc

digits_more : (s t : ℕ × ℕ) (g : List ℕ) (b : ℕ) → IsDigits s g → number_step s b ≡ Some t → IsDigits t (g ++ b ∷ [])
digits_more s t g b is e =
    let g' = test_some (is_ascii_digit b && nat_lt s.0 9) (s.0 + 1, 10 * s.1 + (b - 48)) t e in
    let both = and_parts (is_ascii_digit b) (nat_lt s.0 9) g'.0 in
    let d = digit_of_test b both.0 in
    let room : s.0 < 9 = ltb-true s.0 9 both.1 in
    let long : length (g ++ b ∷ []) ≡ length g + 1 = length-append g (b ∷ []) in
    let count = is.count in
    subst (λ (u : ℕ × ℕ). IsDigits u (g ++ b ∷ [])) g'.1 (record {
      count = omega arith;
      few = omega arith;
      digits = digits_push 10 g b is.digits d.below;
      value = let pushed = digits_value_push 10 g b in let was = is.value in let v = d.value in omega arith;
    })

-- digits that leave room for one more have a small number
pub leads_room : (s : ℕ × ℕ) (g : List ℕ) → Leads number_step (0, 0) g s → s.0 < 9 → s.1 < 100000000
leads_room s g leads short =
    let d = along number_step IsDigits digits_more (0, 0) s [] g
    (record { count = refl; few = omega arith; digits = tt; value = refl }) leads in
    let count = d.count in
    let bound : digits_value 10 g < 10 ^ 8 = digits_value_short (numerals_by_value (AllDigits 10) tells_digits) g 8
    d.digits (omega arith) in
    let was = d.value in
    omega arith

leads_digits : (k n : ℕ) (ds : List ℕ) → AllDigits 10 ds → k + length ds ≤ 9
    → Leads number_step (k, n) ds (k + length ds, digits_value_after 10 n ds)
leads_digits k n [] all few = let same : k ≡ k + 0 = omega arith in ap (λ i. Some (i, n)) same
leads_digits k n (c ∷ cs) all few =
    let d = digit_of_value c all.0 in
    let room : nat_lt k 9 ≡ true = lt-ltb k 9 (omega arith) in
    let both : is_ascii_digit c && nat_lt k 9 ≡ true = and_from (is_ascii_digit c) (nat_lt k 9) d.test room in
    let number : 10 * n + (c - 48) ≡ n * 10 + digit_value c = let v = d.value in omega arith in
    let count : k + 1 + length cs ≡ k + suc (length cs) = omega arith in
    let more : Leads number_step (k + 1, n * 10 + digit_value c) cs
    (k + 1 + length cs, digits_value_after 10 (n * 10 + digit_value c) cs) = leads_digits (k + 1)
    (n * 10 + digit_value c) cs all.1 (omega arith) in
    rw (both, number) (more ∙ ap (λ i. Some (i, digits_value_after 10 (n * 10 + digit_value c) cs)) count)

pub number_machine : IsMachine number_step (0, 0) number_whole number_last SpellsNumber
number_machine = record {
  fresh = refl;
  none = refl;
  sound = λ g s leads is.
      let d = along number_step IsDigits digits_more (0, 0) s [] g
      (record { count = refl; few = omega arith; digits = tt; value = refl }) leads in
      let some : 0 < s.0 = ltb-true 0 s.0 is in
      let count = d.count in (
        s.1,
        ap (λ b. cond b (Some s.1) None) is,
        record
            { numeral = (omega arith, d.digits); few = d.few; value = d.value },
      );
  complete = λ v g spelled.
      let some = spelled.numeral.0 in
      let is : nat_lt 0 (0 + length g) ≡ true = lt-ltb 0 (0 + length g) (omega arith) in (
        (0 + length g, digits_value 10 g),
        leads_digits 0 0 g spelled.numeral.1 (let few = spelled.few in omega arith),
        is,
        ap (λ b. cond b (Some (digits_value 10 g)) None) is ∙ ap (λ n. Some n) spelled.value,
      );
  live = λ g s leads. live s (nat_lt 0 s.0) refl;
  kept = λ g s t b leads stepped unfinished.
      let p = test_some (is_ascii_digit b && nat_lt s.0 9) (s.0 + 1, 10 * s.1 + (b - 48)) t stepped in
      let is : nat_lt 0 (s.0 + 1) ≡ true = lt-ltb 0 (s.0 + 1) (omega arith) in
      let was : nat_lt 0 (s.0 + 1) ≡ false = subst (λ (u : ℕ × ℕ). nat_lt 0 u.0 ≡ false) (sym p.1) unfinished in
      absurd cc;
}
  where
    live : (s : ℕ × ℕ) (b : Bool) → nat_lt 0 s.0 ≡ b
        → (rest : List ℕ) × (t : ℕ × ℕ) × Leads number_step s rest t × (number_whole t ≡ true)
    live s true is = ([], s, refl, is)
    live s false not =
        let none : s.0 ≤ 0 = ltb-false 0 s.0 not in
        let room : nat_lt s.0 9 ≡ true = lt-ltb s.0 9 (omega arith) in
        (48 ∷ [], (s.0 + 1, 10 * s.1 + (48 - 48)), rw room refl, lt-ltb 0 (s.0 + 1) (omega arith))

-- ---- reading a number in a line

abbrev pub IsReadNumber : List ℕ → ℕ → ℕ → ℕ → Type 0
IsReadNumber line at end n = IsRead number_step (0, 0) number_whole number_last SpellsNumber line at end end
    (end - at, n)

abbrev pub NumberStops : List ℕ → ℕ → ℕ → ℕ → Type 0
NumberStops line at end n = Stops number_step (0, 0) number_whole number_last SpellsNumber line end (end - at, n)

pub number_begins : (line : List ℕ) (at : ℕ) → at ≤ length line → IsReadNumber line at at 0
number_begins line at le =
    let none : 0 ≡ at - at = omega arith in
    subst (λ (k : ℕ). IsRead number_step (0, 0) number_whole number_last SpellsNumber line at at at (k, 0)) none
    (read_start number_step (0, 0) number_whole number_last SpellsNumber number_machine line at le)

pub number_goes_on : (line : List ℕ) (at end n m : ℕ) → IsReadNumber line at end n → end < length line → end - at < 9
    → is_ascii_digit (get_or line end 0) ≡ true → m ≡ 10 * n + (get_or line end 0 - 48)
    → IsReadNumber line at (end + 1) m
number_goes_on line at end n m r lt short digit value =
    let from = r.from in
    let both : is_ascii_digit (get_or line end 0) && nat_lt (end - at) 9
    ≡ true = and_from _ _ digit (lt-ltb (end - at) 9 short) in
    let count : end - at + 1 ≡ end + 1 - at = omega arith in
    let stepped : number_step (end - at, n) (get_or line end 0)
    ≡ Some (end + 1 - at, m) = rw both (ap (λ k. Some (k, 10 * n + (get_or line end 0 - 48))) count
    ∙ ap (λ k. Some (end + 1 - at, k)) (sym value)) in
    read_whole number_step (0, 0) number_whole number_last SpellsNumber number_machine line at end end (end - at, n)
    (end + 1 - at, m) r lt stepped (lt-ltb 0 (end + 1 - at) (omega arith))

pub number_room_at : (line : List ℕ) (at end n : ℕ) → IsReadNumber line at end n → end - at < 9 → n < 100000000
number_room_at line at end n r short = leads_room (end - at, n) (slice_range line at end) r.state short

pub stops_at_end : (line : List ℕ) (at end n : ℕ) → length line ≤ end → NumberStops line at end n
stops_at_end line at end n le = inl le

pub stops_at_nine : (line : List ℕ) (at end n : ℕ) → 9 ≤ end - at → NumberStops line at end n
stops_at_nine line at end n full = inr (stop (is_ascii_digit (get_or line end 0)))
  where
    stop : (b : Bool) → cond {A = Option (ℕ × ℕ)} (b && nat_lt (end - at) 9)
        (Some (end - at + 1, 10 * n + (get_or line end 0 - 48))) None ≡ None
    stop true = rw (le-ltb (end - at) 9 full) refl
    stop false = refl

pub stops_at_other : (line : List ℕ) (at end n : ℕ) → is_ascii_digit (get_or line end 0) ≡ false
    → NumberStops line at end n
stops_at_other line at end n not = inr (rw not refl)

pub number_found : (line : List ℕ) (at end n : ℕ) → IsReadNumber line at end n → NumberStops line at end n → end ≢ at
    → IsLongestSpelling SpellsNumber line at n end
number_found line at end n r stops some =
    let from = r.from in
    read_found number_step (0, 0) number_whole number_last SpellsNumber number_machine line at end end (end - at, n) n r
    stops (rw (lt-ltb 0 (end - at) (omega arith)) refl)

pub number_nothing : (line : List ℕ) (at end n : ℕ) → IsReadNumber line at end n → NumberStops line at end n → end ≡ at
    → IsReadFault SpellsNumber line at (Syntax at)
number_nothing line at end n r stops here =
    let none : nat_lt 0 (end - at) ≡ false = le-ltb 0 (end - at) (omega arith) in
    subst (λ (i : ℕ). IsReadFault SpellsNumber line at (Syntax i)) here
    (read_nothing number_step (0, 0) number_whole number_last SpellsNumber number_machine line at end end
    (end - at, n) r stops (rw none refl))

-- bytes spell one number at most
pub same_number : (m n : ℕ) (g : List ℕ) → SpellsNumber m g → SpellsNumber n g → m ≡ n
same_number m n g first second = sym first.value ∙ second.value
