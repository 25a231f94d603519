-- One text for one element.
use Rattle.std.proofs.Common.{◌≡◌, ◌≢◌, ℕ, ◌-◌, ◌≤◌, true, false, eqb, List, [], ◌∷◌, ◌++◌, length, drop, Some, None, refl, sym, ap, subst, ◌∙◌, append_assoc, arith}
use Rattle.std.specs.Char.{is_ascii_digit}
use Rattle.std.proofs.lemmas.List.{append-nil}
use Rattle.ff_text.specs.Printed.{denominator_text, elem_text, IsPrintableElem, IsElemAt, ends_elem}
use Rattle.ff_text.specs.PrintedReading.{◌>>=◌, after_text, num_at, over_at, elem_at}
use Rattle.ff_text.proofs.PrintedFound.{bind_some, some_is, no_none}
use Rattle.ff_text.proofs.PrintedTerms.{other_text, no_digit}
use Rattle.ff_text.proofs.PrintedTexts.{no_parts, not_true, power_end_nil, none_left, drop_rest, rest_fits, from, from_is, wrong_end}
use Rattle.ff_text.proofs.PrintedNumerators.{Polys, num_text, num_takes, num_again}
use Rattle.ff_text.proofs.PrintedDenominators.{IsElemEnd, over_takes, over_again}

abbrev pub ReadElem : Type 0
ReadElem = (List (List ℕ) × List ℕ) × List ℕ

-- the numerators, and then the denominator
elem_regrouped : (num : Polys) (den rest : List ℕ)
    → elem_text num den ++ rest ≡ num_text num ++ (denominator_text den ++ rest)
elem_regrouped num den rest = simp append_assoc

-- a printable element that is read, and what is before the rest
pub record IsElemIn (bytes : List ℕ) (num : List (List ℕ)) (den rest : List ℕ) : Type 0 where
  pub parts : bytes ≡ elem_text num den ++ rest
  pub printable : IsPrintableElem num den

pub elem_takes : (bytes : List ℕ) (b : ReadElem) → elem_at bytes ≡ Some b → IsElemIn bytes b.0.0 b.0.1 b.1
unfolding elem_at
elem_takes bytes b e =
    let num = bind_some (num_at bytes) (λ num. over_at num.1 >>= λ den. Some ((num.0, den.0), den.1)) b e in
    let den = bind_some (over_at num.0.1) (λ den. Some ((num.0.0, den.0), den.1)) b num.2 in
    let above = num_takes bytes num.0 num.1 in
    let below = over_takes num.0.1 den.0 den.1 in
    subst (λ (r : ReadElem). IsElemIn bytes r.0.0 r.0.1 r.1) (some_is ((num.0.0, den.0.0), den.0.1) b den.2) (record {
      parts = above.parts ∙ ap (λ (t : List ℕ). num_text num.0.0 ++ t) below.parts
          ∙ sym (elem_regrouped num.0.0 den.0.0 den.0.1);
      printable = record {
        some = above.some;
        numerators = above.are;
        denominator = below.printable;
        monic = below.monic;
      };
    })

pub elem_again : (num : Polys) (den rest : List ℕ) → IsPrintableElem num den → IsElemEnd rest
    → elem_at (elem_text num den ++ rest) ≡ Some ((num, den), rest)
unfolding elem_at
elem_again num den rest is end =
    ap elem_at (elem_regrouped num den rest)
    ∙ rw (
      num_again num (denominator_text den ++ rest) is.some is.numerators,
      over_again den rest is.denominator is.monic end,
    )
    refl

-- ---- what may follow

elem_end_nil : IsElemEnd []
unfolding after_text
elem_end_nil = record { power_end = power_end_nil; over = refl }

pub elem_end : (r : List ℕ) → ends_elem r ≡ true → IsElemEnd r
elem_end [] e = elem_end_nil
elem_end (c ∷ cs) e =
    let digit = no_parts (is_ascii_digit c) _ e in
    let power = no_parts (eqb c 94) _ digit.1 in
    record {
      power_end = record { digit = no_digit c cs digit.0; power = other_text 94 c [] cs power.0 };
      over = other_text 47 c [] cs (not_true _ power.1);
    }

-- ---- texts as a whole

read_whole : (num : Polys) (den b : List ℕ) → IsPrintableElem num den → elem_text num den ≡ b
    → elem_at b ≡ Some ((num, den), [])
read_whole num den b is e = ap elem_at (sym (append-nil (elem_text num den) ∙ e))
    ∙ elem_again num den [] is elem_end_nil

pub no_elem : (b : List ℕ) → elem_at b ≡ None → (num : Polys) (den : List ℕ) → IsPrintableElem num den
    → elem_text num den ≢ b
no_elem b none num den is e = no_none (sym (read_whole num den b is e) ∙ none)

pub longer_elem : (b : List ℕ) (read : ReadElem) → elem_at b ≡ Some read → length read.1 ≢ 0
    → (num : Polys) (den : List ℕ) → IsPrintableElem num den → elem_text num den ≢ b
longer_elem b read found long num den is e =
    let same = some_is ((num, den), []) read (sym (read_whole num den b is e) ∙ found) in
    long (sym (ap (λ (r : ReadElem). length r.1) same))

pub whole_elem : (b : List ℕ) (read : ReadElem) → elem_at b ≡ Some read → length read.1 ≡ 0
    → IsPrintableElem read.0.0 read.0.1 × (elem_text read.0.0 read.0.1 ≡ b)
whole_elem b read found e =
    let is = elem_takes b read found in (
      is.printable,
      sym (is.parts ∙ ap (λ r. elem_text read.0.0 read.0.1 ++ r) (none_left read.1 e)
          ∙ append-nil (elem_text read.0.0 read.0.1)),
    )

-- ---- texts inside a line

pub elem_found_at : (line : List ℕ) (read : ReadElem) (at : ℕ) → at ≤ length line → elem_at (from line at) ≡ Some read
    → ends_elem read.1 ≡ true → IsElemAt line at read.0.0 read.0.1 (length line - length read.1)
elem_found_at line read at within found ends =
    let is = elem_takes (drop at line) read (ap elem_at (sym (from_is line at)) ∙ found) in
    let left = drop_rest line (elem_text read.0.0 read.0.1) read.1 at within is.parts in
    record {
      printable = is.printable;
      text = is.parts ∙ ap (λ t. elem_text read.0.0 read.0.1 ++ t) (sym left);
      within = omega arith;
      ends = ap ends_elem left ∙ ends;
    }

pub elem_fits_at : (line : List ℕ) (read : ReadElem) (at : ℕ) → elem_at (from line at) ≡ Some read
    → length read.1 ≤ length line
elem_fits_at line read at found = rest_fits line (elem_text read.0.0 read.0.1) read.1 at
    (elem_takes (drop at line) read (ap elem_at (sym (from_is line at)) ∙ found)).parts

read_at : (line : List ℕ) (num : Polys) (den : List ℕ) (at end : ℕ) → IsElemAt line at num den end
    → elem_at (from line at) ≡ Some ((num, den), drop end line)
read_at line num den at end is = ap elem_at (from_is line at ∙ is.text)
    ∙ elem_again num den (drop end line) is.printable (elem_end (drop end line) is.ends)

pub no_elem_at : (line : List ℕ) (at : ℕ) → elem_at (from line at) ≡ None → (num : Polys) (den : List ℕ) (end : ℕ)
    → ¬ IsElemAt line at num den end
no_elem_at line at none num den end is = no_none (sym (read_at line num den at end is) ∙ none)

pub no_end_at : (line : List ℕ) (read : ReadElem) (at : ℕ) → elem_at (from line at) ≡ Some read
    → ends_elem read.1 ≡ false → (num : Polys) (den : List ℕ) (end : ℕ) → ¬ IsElemAt line at num den end
no_end_at line read at found open_end num den end is =
    let same = some_is ((num, den), drop end line) read (sym (read_at line num den at end is) ∙ found) in
    wrong_end (ends_elem read.1) open_end (ap (λ (r : ReadElem). ends_elem r.1) (sym same) ∙ is.ends)

-- ---- the law

pub one_elem : (num other : Polys) (den over r s : List ℕ) → IsPrintableElem num den → IsPrintableElem other over
    → ends_elem r ≡ true → ends_elem s ≡ true
    → elem_text num den ++ r ≡ elem_text other over ++ s → (num ≡ other) × (den ≡ over) × (r ≡ s)
one_elem num other den over r s is other_is r_ends s_ends e =
    let same = some_is ((num, den), r) ((other, over), s)
    (sym (elem_again num den r is (elem_end r r_ends)) ∙ ap elem_at e
    ∙ elem_again other over s other_is (elem_end s s_ends)) in
    (ap (λ (x : ReadElem). x.0.0) same, ap (λ (x : ReadElem). x.0.1) same, ap (λ (x : ReadElem). x.1) same)

pub same_elem : (num other : Polys) (den over : List ℕ) → IsPrintableElem num den → IsPrintableElem other over
    → elem_text num den ≡ elem_text other over → (num ≡ other) × (den ≡ over)
same_elem num other den over is other_is e = let all = one_elem num other den over [] [] is other_is refl refl
    (ap (λ t. t ++ []) e) in (all.0, all.1)
