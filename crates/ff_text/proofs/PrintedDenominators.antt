-- Denominators that are read are printed so, and denominators that are printed are read again.
use Rattle.std.proofs.Common.{◌≡◌, ◌≢◌, ℕ, zero, suc, ◌+◌, ◌-◌, ◌<◌, ◌≤◌, cond, eqb, ltb, ◌&&◌, List, [], ◌∷◌, ◌++◌, length, get_or, take, reverse, replicate, codes, Some, None, refl, sym, ap, subst, ◌∙◌, ◌⊎◌, append_assoc, arith, inl, inr}
use Rattle.std.specs.Prelude.{nat_lt}
use Rattle.std.proofs.lemmas.Bool.{eqb-true, eq-eqb, ltb-true, ltb-false, lt-ltb, le-ltb, and_parts, cases_Bool}
use Rattle.std.proofs.lemmas.List.{append-nil, length-append, length-replicate, reverse-append, replicate-append-replicate, take_all}
use Rattle.std.proofs.lemmas.List.Elements.{All-nil, All-cons, All-append, All-replicate}
use Rattle.std.proofs.lemmas.List.Sums.{sum_by-append, sum_by-cons}
use Rattle.std.proofs.lemmas.List.Folds.{sum_by-replicate}
use Rattle.std.proofs.Math.Seq.{get_or-append_seam, take-suc}
use Rattle.ff_fields.specs.Code.{is_zero_code}
use Rattle.ring_lemmas.proofs.Lists.{IsTrimmed_push, trim_trimmed}
use Rattle.ff_poly.specs.Words.{IsPoly, poly_of, IsMonicList, top_of}
use Rattle.ff_text.specs.Printed.{power_text, term_text, poly_text, term_count, den_text, denominator_text, IsPrintable}
use Rattle.ff_text.specs.PrintedWriting.{plus_text}
use Rattle.ff_text.specs.PrintedReading.{◌>>=◌, after_text, power_at, poly_at, inner_at, power_of_x, den_at, over_at}
use Rattle.ff_text.proofs.PrintedFound.{bind_some, choice_some, guard_some, some_is, text_takes, text_again, then_takes}
use Rattle.ff_text.proofs.PrintedLists.{top_text, over_written}
use Rattle.ff_text.proofs.PrintedTerms.{IsPowerEnd, other_text, exponent_text, one_written, power_written, power_takes, power_again}
use Rattle.ff_text.proofs.PrintedPolys.{poly_takes}
use Rattle.ff_text.proofs.PrintedAgain.{poly_again}
use Rattle.ff_text.proofs.PrintedTexts.{poly_end}

-- ---- monic polynomials

monic_top : (d : List ℕ) → top_of d ≡ 1 → IsMonicList d
monic_top [] e = absurd cc
monic_top (a ∷ bs) e =
    let last : get_or (a ∷ bs) (length bs) 0 ≡ 1 = ap (λ i. get_or (a ∷ bs) i 0) (omega arith) ∙ e in (
      take (length bs) (a ∷ bs),
      sym (take_all (suc (length bs)) (a ∷ bs) (omega arith))
          ∙ take-suc (a ∷ bs) (length bs) 0 (omega arith) ∙ ap (λ x. take (length bs) (a ∷ bs) ++ x ∷ []) last,
    )

top_monic : (d : List ℕ) → IsMonicList d → top_of d ≡ 1
top_monic d (lower, e) =
    let last : length (lower ++ 1 ∷ []) - 1 ≡ length lower = omega (arith, length-append lower (1 ∷ [])) in
    ap top_of e ∙ ap (λ i. get_or (lower ++ 1 ∷ []) i 0) last ∙ get_or-append_seam lower 1 [] 0

-- ---- powers of x

abbrev zeros : ℕ → List ℕ
zeros j = replicate j 0

length_zeros : (j : ℕ) → length (zeros j) ≡ j
length_zeros j = length-replicate j 0

length_power : (j : ℕ) → length (power_of_x j) ≡ suc j
length_power j = length-append (zeros j) (1 ∷ []) ∙ ap (λ n. n + 1) (length_zeros j) ∙ omega arith

reverse_zeros : (j : ℕ) → reverse (zeros j) ≡ zeros j
reverse_zeros zero = refl
reverse_zeros (suc j) =
    reverse-append (0 ∷ []) (zeros j) ∙ ap (λ zs. zs ++ 0 ∷ []) (reverse_zeros j)
    ∙ replicate-append-replicate j 1 0 ∙ ap zeros (let next : j + 1 ≡ suc j = omega arith in next)

reverse_power : (j : ℕ) → reverse (power_of_x j) ≡ 1 ∷ replicate j 0
reverse_power j = reverse-append (replicate j 0) (1 ∷ []) ∙ ap (λ zs. 1 ∷ zs) (reverse_zeros j)

plus_zeros : (j : ℕ) → plus_text (replicate j 0) ≡ []
plus_zeros zero = refl
plus_zeros (suc j) = plus_zeros j

power_poly_text : (j : ℕ) → 1 ≤ j → poly_text (power_of_x j) ≡ power_text j
power_poly_text j h =
    top_text 1 (zeros j) (λ e. absurd cc) (power_of_x j) (reverse_power j)
    ∙ ap (λ t. term_text 1 (length (zeros j)) ++ t) (plus_zeros j) ∙ append-nil (term_text 1 (length (zeros j)))
    ∙ ap (term_text 1) (length_zeros j) ∙ one_written j h

abbrev counts : ℕ → ℕ
counts c = cond (nat_lt 0 c) 1 0

count_append : (xs ys : List ℕ) → term_count (xs ++ ys) ≡ term_count xs + term_count ys
count_append xs ys = sum_by-append counts xs ys

count_zeros : (j : ℕ) → term_count (replicate j 0) ≡ 0
count_zeros j = sum_by-replicate counts j 0 ∙ omega arith

power_count : (j : ℕ) → term_count (power_of_x j) ≡ 1
power_count j = count_append (replicate j 0) (1 ∷ []) ∙ ap (λ n. n + 1) (count_zeros j)

count_some : (c : ℕ) → counts (suc c) ≡ 1
count_some c = rw (lt-ltb 0 (suc c) (omega arith)) refl

-- a list without terms is zeros
no_terms : (cs : List ℕ) → term_count cs ≡ 0 → cs ≡ replicate (length cs) 0
no_terms [] e = refl
no_terms (zero ∷ cs) e = ap (λ zs. 0 ∷ zs) (no_terms cs (omega (arith, sum_by-cons counts zero cs)))
no_terms (suc c ∷ cs) e = absurd (omega (arith, count_some c, sum_by-cons counts (suc c) cs))

power_is_poly : (j : ℕ) → IsPoly (power_of_x j)
power_is_poly j = record { trimmed = IsTrimmed_push is_zero_code (replicate j 0) 1 refl }

pub power_trimmed : (j : ℕ) → poly_of (power_of_x j) ≡ power_of_x j
power_trimmed j = trim_trimmed is_zero_code (power_of_x j) (power_is_poly j).trimmed

power_printable : (j : ℕ) → j ≤ 1024 → IsPrintable (power_of_x j)
power_printable j h = record {
  poly = power_is_poly j;
  small = All-append (λ c. c < 65536) (replicate j 0) (1 ∷ []) (All-replicate (λ c. c < 65536) j 0 (omega arith))
      (All-cons (λ c. c < 65536) 1 [] (omega arith) (All-nil (λ c. c < 65536)));
  short = omega (arith, length_power j);
}

-- ---- the text of a denominator

long_text : (d : List ℕ) → 1 < term_count d → den_text d ≡ codes "(" ++ (poly_text d ++ codes ")")
long_text d h = rw (lt-ltb 1 (term_count d) h) refl

short_text : (d : List ℕ) → term_count d ≤ 1 → den_text d ≡ poly_text d
short_text d h = rw (le-ltb 1 (term_count d) h) refl

power_den_text : (j : ℕ) → 1 ≤ j → den_text (power_of_x j) ≡ power_text j
power_den_text j h = short_text (power_of_x j) (omega (arith, power_count j)) ∙ power_poly_text j h

-- a denominator that is written, and what is before the rest
pub record IsDenIn (text bytes d rest : List ℕ) : Type 0 where
  pub parts : bytes ≡ text ++ rest
  pub printable : IsPrintable d
  pub monic : IsMonicList d

-- ---- in parentheses

inner_takes : (bytes : List ℕ) (b : List ℕ × List ℕ) → inner_at bytes ≡ Some b
    → IsDenIn (poly_text b.0 ++ codes ")") bytes b.0 b.1 × (1 < term_count b.0)
unfolding inner_at
inner_takes bytes b e =
    let d = bind_some (poly_at bytes) (λ d. after_text (codes ")") d.1 >>= λ rest. cond
    (eqb (top_of d.0) 1 && ltb 1 (term_count d.0)) (Some (d.0, rest)) None) b e in
    let rest = bind_some (after_text (codes ")") d.0.1)
    (λ rest. cond (eqb (top_of d.0.0) 1 && ltb 1 (term_count d.0.0)) (Some (d.0.0, rest)) None) b d.2 in
    let g = guard_some (eqb (top_of d.0.0) 1 && ltb 1 (term_count d.0.0)) (d.0.0, rest.0) b rest.2 in
    let tests = and_parts (eqb (top_of d.0.0) 1) (ltb 1 (term_count d.0.0)) g.0 in
    let is = poly_takes bytes d.0 d.1 in
    subst (λ (r : List ℕ × List ℕ). IsDenIn (poly_text r.0 ++ codes ")") bytes r.0 r.1 × (1 < term_count r.0)) g.1 (
      record {
        parts = then_takes bytes (poly_text d.0.0) d.0.1 (codes ")") rest.0 is.parts
            (text_takes (codes ")") d.0.1 rest.0 rest.1);
        printable = is.printable;
        monic = monic_top d.0.0 (eqb-true _ _ tests.0);
      },
      ltb-true _ _ tests.1,
    )

inner_again : (d rest : List ℕ) → IsPrintable d → IsMonicList d → 1 < term_count d
    → inner_at (poly_text d ++ (codes ")" ++ rest)) ≡ Some (d, rest)
unfolding inner_at
inner_again d rest printable monic more =
    let one = poly_again d (codes ")" ++ rest) printable (poly_end (41 ∷ rest) refl) in
    rw (one, text_again (codes ")") rest, eq-eqb (top_of d) 1 (top_monic d monic), lt-ltb 1 (term_count d) more) refl

-- ---- behind `/`

den_takes : (bytes : List ℕ) (b : List ℕ × List ℕ) → den_at bytes ≡ Some b
    → IsDenIn (den_text b.0) bytes b.0 b.1 × (b.0 ≢ 1 ∷ [])
unfolding den_at
den_takes bytes b e =
    let P : List ℕ × List ℕ → Type 0 = λ r. IsDenIn (den_text r.0) bytes r.0 r.1 × (r.0 ≢ 1 ∷ []) in
    elim (choice_some inner_at (after_text (codes "(") bytes)
    (power_at bytes >>= λ j. Some (power_of_x j.0, j.1)) b e) [
      | inl w ↦
          let j = bind_some (power_at bytes) (λ j. Some (power_of_x j.0, j.1)) b w.1 in
          let is = power_takes bytes j.0.0 j.0.1 j.1 in
          let least : 1 ≤ j.0.0 = is.least in
          subst P (some_is (power_of_x j.0.0, j.0.1) b j.2) (
            record {
              parts = is.parts ∙ ap (λ (t : List ℕ). t ++ j.0.1) (sym (power_den_text j.0.0 least));
              printable = power_printable j.0.0 is.most;
              monic = (replicate j.0.0 0, refl);
            },
            λ one. omega (arith, ap length one, length_power j.0.0),
          )
      | inr w ↦
          let is = inner_takes w.0 b w.2 in
          let more : 1 < term_count b.0 = is.1 in (
            record {
              parts = then_takes bytes (codes "(") w.0 (poly_text b.0 ++ codes ")") b.1
                  (text_takes (codes "(") bytes w.0 w.1) is.0.parts
                  ∙ ap (λ (t : List ℕ). t ++ b.1) (sym (long_text b.0 more));
              printable = is.0.printable;
              monic = is.0.monic;
            },
            λ one. omega (arith, ap (λ d. term_count d) one),
          )
    ]

-- a monic polynomial without a second term is a power of x
power_is : (d : List ℕ) → IsMonicList d → term_count d ≤ 1 → (j : ℕ) × (d ≡ power_of_x j)
power_is d (lower, e) few =
    let none : term_count lower ≡ 0 = omega (arith, ap (λ c. term_count c) e, count_append lower (1 ∷ [])) in
    (length lower, e ∙ ap (λ zs. zs ++ 1 ∷ []) (no_terms lower none))

den_again_power : (j : ℕ) (rest : List ℕ) → 1 ≤ j → j ≤ 1024 → IsPowerEnd rest
    → den_at (den_text (power_of_x j) ++ rest) ≡ Some (power_of_x j, rest)
unfolding den_at
den_again_power j rest least most end =
    let text : den_text (power_of_x j) ++ rest ≡ power_text j ++ rest = ap (λ t. t ++ rest) (power_den_text j least) in
    let none : after_text (codes "(") (power_text j ++ rest)
    ≡ None = ap (λ t. after_text (codes "(") (t ++ rest)) (power_written j least)
    ∙ other_text 40 120 [] (exponent_text j ++ rest) refl in
    ap den_at text ∙ rw (none, power_again j rest least most end) refl

den_again_long : (d rest : List ℕ) → IsPrintable d → IsMonicList d → 1 < term_count d
    → den_at (den_text d ++ rest) ≡ Some (d, rest)
unfolding den_at
den_again_long d rest printable monic more =
    let text : den_text d ++ rest ≡ codes "("
    ++ (poly_text d ++ (codes ")" ++ rest)) = ap (λ t. t ++ rest) (long_text d more)
    ∙ append_assoc (codes "(") (poly_text d ++ codes ")") rest
    ∙ ap (λ t. codes "(" ++ t) (append_assoc (poly_text d) (codes ")") rest) in
    ap den_at text ∙ rw (
      text_again (codes "(") (poly_text d ++ (codes ")" ++ rest)),
      inner_again d rest printable monic
          more,
    ) refl

den_again_short : (d rest : List ℕ) → IsPrintable d → (j : ℕ) × (d ≡ power_of_x j) → d ≢ 1 ∷ [] → IsPowerEnd rest
    → den_at (den_text d ++ rest) ≡ Some (d, rest)
den_again_short d rest printable (zero, e) other end = absurd (other e)
den_again_short d rest printable (suc j, e) other end =
    let long : suc (suc j) ≤ 1025 = omega (arith, printable.short, ap length e, length_power (suc j)) in
    subst (λ x. den_at (den_text x ++ rest) ≡ Some (x, rest)) (sym e)
    (den_again_power (suc j) rest (omega arith) (omega arith) end)

den_again : (d rest : List ℕ) → IsPrintable d → IsMonicList d → d ≢ 1 ∷ [] → IsPowerEnd rest
    → den_at (den_text d ++ rest) ≡ Some (d, rest)
den_again d rest printable monic other end = elim (cases_Bool (ltb 1 (term_count d))) [
  | inl many ↦ den_again_long d rest printable monic (ltb-true _ _ many)
  | inr few ↦ den_again_short d rest printable (power_is d monic (ltb-false _ _ few)) other end
]

-- ---- the denominator, 1 if none is written

-- what may stand behind an element
pub record IsElemEnd (rest : List ℕ) : Type 0 where
  pub power_end : IsPowerEnd rest
  pub over : after_text (codes "/") rest ≡ None

is_one : (d : List ℕ) → (d ≡ 1 ∷ []) ⊎ (d ≢ 1 ∷ [])
is_one [] = inr (λ e. absurd cc)
is_one (zero ∷ []) = inr (λ e. absurd cc)
is_one (suc zero ∷ []) = inl refl
is_one (suc (suc c) ∷ []) = inr (λ e. absurd cc)
is_one (c ∷ d ∷ ds) = inr (λ e. absurd cc)

one_printable : IsPrintable (1 ∷ [])
one_printable = power_printable 0 (omega arith)

pub over_takes : (bytes : List ℕ) (b : List ℕ × List ℕ) → over_at bytes ≡ Some b
    → IsDenIn (denominator_text b.0) bytes b.0 b.1
unfolding over_at
over_takes bytes b e =
    elim (choice_some den_at (after_text (codes "/") bytes) (Some (1 ∷ [], bytes)) b e) [
      | inl w ↦ subst (λ (r : List ℕ × List ℕ). IsDenIn (denominator_text r.0) bytes r.0 r.1) (some_is
          (1 ∷ [], bytes) b w.1)
          (record { parts = refl; printable = one_printable; monic = ([], refl) })
      | inr w ↦
          let is = den_takes w.0 b w.2 in
          record {
            parts = then_takes bytes (codes "/") w.0 (den_text b.0) b.1 (text_takes (codes "/") bytes w.0 w.1)
                is.0.parts ∙ ap (λ (t : List ℕ). t ++ b.1) (sym (over_written b.0 is.1));
            printable = is.0.printable;
            monic = is.0.monic;
          }
    ]

pub over_again : (d rest : List ℕ) → IsPrintable d → IsMonicList d → IsElemEnd rest
    → over_at (denominator_text d ++ rest) ≡ Some (d, rest)
unfolding over_at
over_again d rest printable monic end = elim (is_one d) [
  | inl one ↦ subst (λ x. over_at (denominator_text x ++ rest) ≡ Some (x, rest)) (sym one) (rw end.over refl)
  | inr other ↦
      ap (λ t. over_at (t ++ rest)) (over_written d other)
      ∙ rw (text_again (codes "/") (den_text d ++ rest), den_again d rest printable monic other end.power_end) refl
]
