-- Numerators that are read are printed so, and numerators that are printed are read again.
use Rattle.std.proofs.Common.{◌≡◌, ℕ, zero, suc, ◌<◌, ◌≤◌, List, [], ◌∷◌, ◌++◌, length, All, codes, Option, Some, None, refl, sym, ap, subst, ◌∙◌, append_assoc, arith, inl, inr}
use Rattle.std.specs.List.{join_by}
use Rattle.std.proofs.lemmas.List.{append-nil, length-append}
use Rattle.std.proofs.lemmas.List.Elements.{All-nil, All-cons, All-head, All-tail}
use Rattle.ff_text.specs.declared.fault.TextFault.{TextFault}
use Rattle.ff_text.specs.Printed.{poly_text, IsPrintable, IsNoText}
use Rattle.ff_text.specs.PrintedWriting.{commas_text}
use Rattle.ff_text.specs.PrintedReading.{◌>>=◌, with_front, with_first, after_text, poly_at, some_polys_at, polys_at, num_at}
use Rattle.ff_text.proofs.PrintedFound.{bind_some, choice_some, some_is, text_takes, text_again, then_takes, with_front_push}
use Rattle.ff_text.proofs.PrintedTerms.{other_text}
use Rattle.ff_text.proofs.PrintedPolys.{poly_takes}
use Rattle.ff_text.proofs.PrintedAgain.{IsPolyEnd, poly_again}
use Rattle.ff_text.proofs.PrintedTexts.{poly_end, no_text}

abbrev pub Polys : Type 0
Polys = List (List ℕ)

-- ---- how many polynomials may follow makes no difference

poly_no_longer : (bytes p rest : List ℕ) → poly_at bytes ≡ Some (p, rest) → length rest ≤ length bytes
poly_no_longer bytes p rest e = let is = poly_takes bytes (p, rest) e in omega
    (arith, ap length is.parts, length-append (poly_text p) rest)

Agrees : ℕ → ℕ → Type 0
Agrees k j = (bytes : List ℕ) → length bytes ≤ k → length bytes ≤ j → some_polys_at k bytes ≡ some_polys_at j bytes

agrees_behind : (k j : ℕ) (start : List ℕ) (o : Option (List ℕ × List ℕ)) → poly_at start ≡ o → length start ≤ k
    → length start ≤ j → Agrees k j
    → (poly_at start >>= λ p. with_first p.0 (some_polys_at k p.1))
    ≡ (poly_at start >>= λ p. with_first p.0 (some_polys_at j p.1))
unfolding Agrees
agrees_behind k j start None e h i before = rw e refl
agrees_behind k j start (Some p) e h i before =
    let less = poly_no_longer start p.0 p.1 e in
    rw (e, before p.1 (omega arith) (omega arith)) refl

agrees_after : (k j : ℕ) (bytes : List ℕ) (o : Option (List ℕ)) → after_text (codes ", ") bytes ≡ o
    → length bytes ≤ suc k → length bytes ≤ suc j → Agrees k j
    → some_polys_at (suc k) bytes ≡ some_polys_at (suc j) bytes
unfolding some_polys_at
agrees_after k j bytes None e h i before = rw e refl
agrees_after k j bytes (Some start) e h i before =
    let len = ap length (text_takes (codes ", ") bytes start e) in
    rw e (agrees_behind k j start (poly_at start) refl (omega (arith, len)) (omega (arith, len)) before)

agrees : (k j : ℕ) → Agrees k j
unfolding Agrees some_polys_at after_text
agrees zero zero bytes h i = refl
agrees zero (suc j) [] h i = refl
agrees zero (suc j) (c ∷ cs) h i = absurd (omega arith)
agrees (suc k) zero [] h i = refl
agrees (suc k) zero (c ∷ cs) h i = absurd (omega arith)
agrees (suc k) (suc j) bytes h i = agrees_after k j bytes (after_text (codes ", ") bytes) refl h i (agrees k j)

each_behind : (start : List ℕ) (k : ℕ) (o : Option (List ℕ × List ℕ)) → poly_at start ≡ o → length start ≤ k
    → (poly_at start >>= λ p. with_first p.0 (some_polys_at k p.1))
    ≡ (poly_at start >>= λ p. with_first p.0 (polys_at p.1))
unfolding Agrees polys_at
each_behind start k None e h = rw e refl
each_behind start k (Some p) e h =
    let less = poly_no_longer start p.0 p.1 e in
    rw (e, agrees k (length p.1) p.1 (omega arith) (omega arith)) refl

-- ---- reading one polynomial more

polys_ended : (bytes : List ℕ) → after_text (codes ", ") bytes ≡ None → polys_at bytes ≡ Some ([], bytes)
unfolding polys_at some_polys_at
polys_ended [] e = refl
polys_ended (c ∷ cs) e = rw e refl

polys_step : (bytes start : List ℕ) → after_text (codes ", ") bytes ≡ Some start
    → polys_at bytes ≡ (poly_at start >>= λ p. with_first p.0 (polys_at p.1))
unfolding polys_at some_polys_at after_text Agrees
polys_step [] start e = absurd cc
polys_step (c ∷ cs) start e =
    let len = ap length (text_takes (codes ", ") (c ∷ cs) start e) in
    rw e (each_behind start (length cs) (poly_at start) refl (omega (arith, len)))

polys_stopped : (bytes start : List ℕ) → after_text (codes ", ") bytes ≡ Some start → poly_at start ≡ None
    → polys_at bytes ≡ None
polys_stopped bytes start e none = polys_step bytes start e ∙ rw none refl

-- ---- what a loop keeps: what was read before, and what is still to be read

pub front_ended : (front : Polys) (bytes : List ℕ) (total : Option (Polys × List ℕ))
    → after_text (codes ", ") bytes ≡ None → with_front front (polys_at bytes) ≡ total → total ≡ Some (front, bytes)
front_ended front bytes total e so_far = sym so_far ∙ ap (with_front front) (polys_ended bytes e)
    ∙ ap (λ (ps : Polys). Some (ps, bytes)) (append-nil front)

pub front_more : (front : Polys) (bytes start p rest : List ℕ) (total : Option (Polys × List ℕ))
    → after_text (codes ", ") bytes ≡ Some start → poly_at start ≡ Some (p, rest)
    → with_front front (polys_at bytes) ≡ total → with_front (front ++ p ∷ []) (polys_at rest) ≡ total
front_more front bytes start p rest total e next so_far =
    let step : polys_at bytes ≡ with_first p (polys_at rest) = polys_step bytes start e ∙ rw next refl in
    with_front_push front p (polys_at rest) ∙ ap (with_front front) (sym step) ∙ so_far

pub front_stopped : (fault : TextFault) (front : Polys) (bytes start : List ℕ) (total : Option (Polys × List ℕ))
    → after_text (codes ", ") bytes ≡ Some start → IsNoText fault (poly_at start ≡ None)
    → with_front front (polys_at bytes) ≡ total → IsNoText fault (total ≡ None)
front_stopped fault front bytes start total e stop so_far =
    no_text fault (λ none. sym so_far ∙ ap (with_front front) (polys_stopped bytes start e none)) stop

pub polys_shorter : (bytes start p rest : List ℕ) → after_text (codes ", ") bytes ≡ Some start
    → poly_at start ≡ Some (p, rest) → length rest < length bytes
polys_shorter bytes start p rest e next = omega
    (arith, ap length (text_takes (codes ", ") bytes start e), poly_no_longer start p rest next)

-- ---- polynomials behind a first one

abbrev comma : List ℕ → List ℕ
comma p = codes ", " ++ poly_text p

-- printable polynomials, and what is before the rest
pub record ArePolysIn (bytes : List ℕ) (ps : List (List ℕ)) (rest : List ℕ) : Type 0 where
  pub parts : bytes ≡ commas_text ps ++ rest
  pub are : All IsPrintable ps

some_polys_take : (k : ℕ) (bytes : List ℕ) (b : Polys × List ℕ) → some_polys_at k bytes ≡ Some b
    → ArePolysIn bytes b.0 b.1
unfolding some_polys_at
some_polys_take zero bytes b e = subst (λ (a : Polys × List ℕ). ArePolysIn bytes a.0 a.1) (some_is ([], bytes) b e)
    (record { parts = refl; are = All-nil IsPrintable })
some_polys_take (suc k) bytes b e =
    let P : Polys × List ℕ → Type 0 = λ a. ArePolysIn bytes a.0 a.1 in
    elim (choice_some (λ start. poly_at start >>= λ p. with_first p.0 (some_polys_at k p.1))
    (after_text (codes ", ") bytes) (Some ([], bytes)) b e) [
      | inl w ↦ subst P (some_is ([], bytes) b w.1) (record { parts = refl; are = All-nil IsPrintable })
      | inr w ↦
          let p = bind_some (poly_at w.0) (λ p. with_first p.0 (some_polys_at k p.1)) b w.2 in
          let ps = bind_some (some_polys_at k p.0.1) (λ x. Some (p.0.0 ∷ x.0, x.1)) b p.2 in
          let one = poly_takes w.0 p.0 p.1 in
          let others = some_polys_take k p.0.1 ps.0 ps.1 in
          let start : bytes ≡ comma p.0.0
          ++ p.0.1 = then_takes bytes (codes ", ") w.0 (poly_text p.0.0) p.0.1
          (text_takes (codes ", ") bytes w.0 w.1) one.parts in
          subst P (some_is (p.0.0 ∷ ps.0.0, ps.0.1) b ps.2)
          (record {
            parts = then_takes bytes (comma p.0.0) p.0.1 (commas_text ps.0.0) ps.0.1 start others.parts;
            are =
                All-cons IsPrintable p.0.0 ps.0.0 one.printable others.are;
          })
    ]

polys_take : (bytes : List ℕ) (b : Polys × List ℕ) → polys_at bytes ≡ Some b → ArePolysIn bytes b.0 b.1
unfolding polys_at
polys_take bytes b e = some_polys_take (length bytes) bytes b e

comma_end : (ps : Polys) (rest : List ℕ) → IsPolyEnd rest → IsPolyEnd (commas_text ps ++ rest)
comma_end [] rest end = end
comma_end (p ∷ ps) rest end = poly_end ((comma p ++ commas_text ps) ++ rest) refl

polys_again : (ps : Polys) (rest : List ℕ) → All IsPrintable ps → IsPolyEnd rest → after_text (codes ", ") rest ≡ None
    → polys_at (commas_text ps ++ rest) ≡ Some (ps, rest)
polys_again [] rest are end none = polys_ended rest none
polys_again (p ∷ ps) rest are end none =
    let others : List ℕ = commas_text ps ++ rest in
    let regrouped : commas_text (p ∷ ps) ++ rest
    ≡ codes ", " ++ (poly_text p ++ others) = append_assoc (comma p) (commas_text ps) rest
    ∙ append_assoc (codes ", ") (poly_text p) others in
    let one : poly_at (poly_text p ++ others)
    ≡ Some (p, others) = poly_again p others (All-head IsPrintable p ps are) (comma_end ps rest end) in
    let more : polys_at others ≡ Some (ps, rest) = polys_again ps rest (All-tail IsPrintable p ps are) end none in
    ap polys_at regrouped ∙ polys_step (codes ", " ++ (poly_text p ++ others)) (poly_text p ++ others)
    (text_again (codes ", ") (poly_text p ++ others)) ∙ rw (one, more) refl

-- ---- numerators in brackets

-- the numerators as they are printed
abbrev pub num_text : Polys → List ℕ
num_text ps = codes "[" ++ (join_by poly_text (codes ", ") ps ++ codes "]")

num_regrouped : (p : List ℕ) (ps : Polys) (rest : List ℕ)
    → num_text (p ∷ ps) ++ rest ≡ codes "[" ++ (poly_text p ++ (commas_text ps ++ (codes "]" ++ rest)))
num_regrouped p ps rest = simp append_assoc

num_joined : (bytes start p behind : List ℕ) (ps : Polys) (rest : List ℕ) → bytes ≡ codes "[" ++ start
    → start ≡ poly_text p ++ behind → behind ≡ commas_text ps ++ (codes "]" ++ rest) → bytes ≡ num_text (p ∷ ps) ++ rest
num_joined bytes start p behind ps rest a b c =
    a ∙ ap (λ (t : List ℕ). codes "[" ++ t) (b ∙ ap (λ (t : List ℕ). poly_text p ++ t) c)
    ∙ sym (num_regrouped p ps rest)

-- one numerator or more, all printable, and what is before the rest
pub record AreNumeratorsIn (bytes : List ℕ) (ps : List (List ℕ)) (rest : List ℕ) : Type 0 where
  pub parts : bytes ≡ num_text ps ++ rest
  pub some : 1 ≤ length ps
  pub are : All IsPrintable ps

num_in : (bytes start : List ℕ) (first : List ℕ × List ℕ) (others : Polys × List ℕ) (rest : List ℕ)
    → after_text (codes "[") bytes ≡ Some start → poly_at start ≡ Some first → polys_at first.1 ≡ Some others
    → after_text (codes "]") others.1 ≡ Some rest
    → AreNumeratorsIn bytes (first.0 ∷ others.0) rest
num_in bytes start first others rest open_is first_is others_are closed_is =
    let one = poly_takes start first first_is in
    let more = polys_take first.1 others others_are in
    let closed : others.1 ≡ codes "]" ++ rest = text_takes (codes "]") others.1 rest closed_is in
    let inner : first.1 ≡ commas_text others.0 ++ (codes "]" ++ rest) = more.parts
    ∙ ap (λ (t : List ℕ). commas_text others.0 ++ t) closed in
    record {
      parts = num_joined bytes start first.0 first.1 others.0 rest (text_takes (codes "[") bytes start open_is)
          one.parts inner;
      some = omega arith;
      are = All-cons IsPrintable first.0 others.0 one.printable more.are;
    }

pub num_takes : (bytes : List ℕ) (b : Polys × List ℕ) → num_at bytes ≡ Some b → AreNumeratorsIn bytes b.0 b.1
unfolding num_at
num_takes bytes b e =
    let start = bind_some (after_text (codes "[") bytes)
    (λ start. poly_at start >>= λ first. polys_at first.1 >>= λ others. after_text (codes "]") others.1 >>= λ
    rest. Some (first.0 ∷ others.0, rest)) b e in
    let first = bind_some (poly_at start.0)
    (λ first. polys_at first.1 >>= λ others. after_text (codes "]") others.1 >>= λ rest. Some
    (first.0 ∷ others.0, rest)) b start.2 in
    let others = bind_some (polys_at first.0.1)
    (λ others. after_text (codes "]") others.1 >>= λ rest. Some (first.0.0 ∷ others.0, rest)) b first.2 in
    let rest = bind_some (after_text (codes "]") others.0.1) (λ rest. Some (first.0.0 ∷ others.0.0, rest)) b others.2 in
    subst (λ (c : Polys × List ℕ). AreNumeratorsIn bytes c.0 c.1) (some_is (first.0.0 ∷ others.0.0, rest.0) b rest.2)
    (num_in bytes start.0 first.0 others.0 rest.0 start.1 first.1 others.1 rest.1)

pub num_again : (ps : Polys) (rest : List ℕ) → 1 ≤ length ps → All IsPrintable ps
    → num_at (num_text ps ++ rest) ≡ Some (ps, rest)
unfolding num_at
num_again [] rest some are = absurd (omega arith)
num_again (p ∷ ps) rest some are =
    let closed : List ℕ = codes "]" ++ rest in
    let inner : List ℕ = commas_text ps ++ closed in
    let end : IsPolyEnd closed = poly_end (93 ∷ rest) refl in
    let one : poly_at (poly_text p ++ inner)
    ≡ Some (p, inner) = poly_again p inner (All-head IsPrintable p ps are) (comma_end ps closed end) in
    let more : polys_at inner ≡ Some (ps, closed) = polys_again ps closed (All-tail IsPrintable p ps are) end
    (other_text 44 93 (32 ∷ []) rest refl) in
    ap num_at (num_regrouped p ps rest) ∙ rw
    (text_again (codes "[") (poly_text p ++ inner), one, more, text_again (codes "]") rest) refl
