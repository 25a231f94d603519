-- One text for one polynomial.
use Rattle.std.proofs.Common.{◌≡◌, ◌≢◌, ℕ, ◌-◌, ◌≤◌, Bool, true, false, eqb, ◌||◌, not, List, [], ◌∷◌, ◌++◌, length, take, drop, codes, Some, None, refl, sym, ap, ◌∙◌, append_assoc, arith, inl, inr}
use Rattle.std.specs.Prelude.{nat_eq}
use Rattle.std.specs.Char.{is_ascii_digit}
use Rattle.std.specs.List.{starts_with}
use Rattle.std.proofs.lemmas.Bool.{eqb-true, eq-eqb, cases_Bool}
use Rattle.std.proofs.lemmas.List.{append-nil, length-append, length-drop, take-append-drop, take_all}
use Rattle.std.proofs.Math.Seq.{drop-append_seam}
use Rattle.ff_text.specs.declared.fault.TextFault.{TextFault}
use Rattle.ff_text.specs.declared.fault.TextFault.TheVariants.{Syntax, CodeRange, Memory}
use Rattle.ff_text.specs.Printed.{poly_text, IsPrintable, IsPolyAt, ends_poly, IsNoText}
use Rattle.ff_text.specs.PrintedReading.{after_text, digit_at, poly_at}
use Rattle.ff_text.proofs.PrintedFound.{some_is, no_none}
use Rattle.ff_text.proofs.PrintedTerms.{IsPowerEnd, other_text, no_digit}
use Rattle.ff_text.proofs.PrintedPolys.{poly_takes}
use Rattle.ff_text.proofs.PrintedAgain.{IsPolyEnd, poly_again}

-- ---- what may follow

pub no_parts : (a b : Bool) → not (a || b) ≡ true → (a ≡ false) × (not b ≡ true)
no_parts true b e = absurd cc
no_parts false b e = (refl, e)

pub not_true : (b : Bool) → not b ≡ true → b ≡ false
not_true true e = absurd cc
not_true false e = refl

no_front : (text bytes : List ℕ) → starts_with nat_eq bytes text ≡ false → after_text text bytes ≡ None
unfolding after_text
no_front [] bytes e = absurd cc
no_front (c ∷ cs) [] e = refl
no_front (c ∷ cs) (b ∷ bs) e = elim (cases_Bool (eqb b c)) [
  | inl is ↦ rw is (no_front cs bs (let same : eqb c b ≡ true = eq-eqb c b (sym (eqb-true b c is)) in rw same at e))
  | inr not ↦ rw not refl
]

pub power_end_nil : IsPowerEnd []
unfolding digit_at after_text
power_end_nil = record { digit = refl; power = refl }

poly_end_nil : IsPolyEnd []
unfolding after_text
poly_end_nil = record { term_end = record { power_end = power_end_nil; product = refl }; plus = refl }

pub poly_end : (r : List ℕ) → ends_poly r ≡ true → IsPolyEnd r
poly_end [] e = poly_end_nil
poly_end (c ∷ cs) e =
    let digit = no_parts (is_ascii_digit c) _ e in
    let power = no_parts (eqb c 94) _ digit.1 in
    let product = no_parts (eqb c 42) _ power.1 in
    record {
      term_end = record {
        power_end = record { digit = no_digit c cs digit.0; power = other_text 94 c [] cs power.0 };
        product = other_text 42 c [] cs product.0;
      };
      plus = no_front (codes " + ") (c ∷ cs) (not_true _ product.1);
    }

-- ---- texts as a whole

-- a fault stays one where there is no text for another reason
pub no_text : {P Q : Type 0} → (fault : TextFault) → (P → Q) → IsNoText fault P → IsNoText fault Q
no_text Memory f h = tt
no_text (Syntax column) f h = (h.0, f h.1)
no_text (CodeRange c) f h = h

read_whole : (p b : List ℕ) → IsPrintable p → poly_text p ≡ b → poly_at b ≡ Some (p, [])
read_whole p b is e = ap poly_at (sym (append-nil (poly_text p) ∙ e)) ∙ poly_again p [] is poly_end_nil

pub no_poly : (b : List ℕ) → poly_at b ≡ None → (p : List ℕ) → IsPrintable p → poly_text p ≢ b
no_poly b none p is e = no_none (sym (read_whole p b is e) ∙ none)

pub longer_poly : (b q rest : List ℕ) → poly_at b ≡ Some (q, rest) → length rest ≢ 0 → (p : List ℕ) → IsPrintable p
    → poly_text p ≢ b
longer_poly b q rest read long p is e =
    let same = some_is (p, []) (q, rest) (sym (read_whole p b is e) ∙ read) in
    long (sym (ap (λ (r : List ℕ × List ℕ). length r.1) same))

pub none_left : (rest : List ℕ) → length rest ≡ 0 → rest ≡ []
none_left [] e = refl
none_left (c ∷ cs) e = absurd (omega arith)

pub whole_poly : (b p rest : List ℕ) → poly_at b ≡ Some (p, rest) → length rest ≡ 0 → IsPrintable p × (poly_text p ≡ b)
whole_poly b p rest read e =
    let is = poly_takes b (p, rest) read in
    (is.printable, sym (is.parts ∙ ap (λ r. poly_text p ++ r) (none_left rest e) ∙ append-nil (poly_text p)))

-- ---- texts inside a line

-- what is left of a line is so long as what is behind the text
pub drop_rest : (line text rest : List ℕ) (at : ℕ) → at ≤ length line → drop at line ≡ text ++ rest
    → drop (length line - length rest) line ≡ rest
drop_rest line text rest at within e =
    let whole : line ≡ (take at line ++ text) ++ rest = sym (take-append-drop at line) ∙ ap (λ t. take at line ++ t) e
    ∙ sym (append_assoc (take at line) text rest) in
    let long : length line - length rest
    ≡ length (take at line ++ text) = omega (arith, ap length whole, length-append (take at line ++ text) rest) in
    ap (λ n. drop n line) long ∙ ap (λ l. drop (length (take at line ++ text)) l) whole
    ∙ drop-append_seam (take at line ++ text) rest

pub rest_fits : (line text rest : List ℕ) (at : ℕ) → drop at line ≡ text ++ rest → length rest ≤ length line
rest_fits line text rest at e = omega (arith, ap length e, length-append text rest, length-drop at line)

-- the slice from column at on, as the code takes it
abbrev pub from : List ℕ → ℕ → List ℕ
from line at = take (length line - at) (drop at line)

pub from_is : (line : List ℕ) (at : ℕ) → from line at ≡ drop at line
from_is line at = take_all (length line - at) (drop at line) (omega (arith, length-drop at line))

pub poly_found_at : (line p rest : List ℕ) (at : ℕ) → at ≤ length line → poly_at (from line at) ≡ Some (p, rest)
    → ends_poly rest ≡ true → IsPolyAt line at p (length line - length rest)
poly_found_at line p rest at within read ends =
    let is = poly_takes (drop at line) (p, rest) (ap poly_at (sym (from_is line at)) ∙ read) in
    let left = drop_rest line (poly_text p) rest at within is.parts in
    record {
      printable = is.printable;
      text = is.parts ∙ ap (λ t. poly_text p ++ t) (sym left);
      within = omega arith;
      ends = ap ends_poly left ∙ ends;
    }

pub poly_fits_at : (line p rest : List ℕ) (at : ℕ) → poly_at (from line at) ≡ Some (p, rest) → length rest ≤ length line
poly_fits_at line p rest at read = rest_fits line (poly_text p) rest at
    (poly_takes (drop at line) (p, rest) (ap poly_at (sym (from_is line at)) ∙ read)).parts

read_at : (line p : List ℕ) (at end : ℕ) → IsPolyAt line at p end → poly_at (from line at) ≡ Some (p, drop end line)
read_at line p at end is = ap poly_at (from_is line at ∙ is.text)
    ∙ poly_again p (drop end line) is.printable (poly_end (drop end line) is.ends)

pub no_poly_at : (line : List ℕ) (at : ℕ) → poly_at (from line at) ≡ None → (p : List ℕ) (end : ℕ)
    → ¬ IsPolyAt line at p end
no_poly_at line at none p end is = no_none (sym (read_at line p at end is) ∙ none)

pub wrong_end : (b : Bool) → b ≡ false → b ≡ true → ⊥
wrong_end b is_false is_true = cc

pub no_end_at : (line q rest : List ℕ) (at : ℕ) → poly_at (from line at) ≡ Some (q, rest) → ends_poly rest ≡ false
    → (p : List ℕ) (end : ℕ) → ¬ IsPolyAt line at p end
no_end_at line q rest at read open_end p end is =
    let same = some_is (p, drop end line) (q, rest) (sym (read_at line p at end is) ∙ read) in
    wrong_end (ends_poly rest) open_end (ap (λ (r : List ℕ × List ℕ). ends_poly r.1) (sym same) ∙ is.ends)

-- ---- the law

pub one_poly : (p q r s : List ℕ) → IsPrintable p → IsPrintable q → ends_poly r ≡ true → ends_poly s ≡ true
    → poly_text p ++ r ≡ poly_text q ++ s → (p ≡ q) × (r ≡ s)
one_poly p q r s p_is q_is r_ends s_ends e =
    let same = some_is (p, r) (q, s) (sym (poly_again p r p_is (poly_end r r_ends)) ∙ ap poly_at e
    ∙ poly_again q s q_is (poly_end s s_ends)) in
    (ap (λ (x : List ℕ × List ℕ). x.0) same, ap (λ (x : List ℕ × List ℕ). x.1) same)

pub same_poly : (p q : List ℕ) → IsPrintable p → IsPrintable q → poly_text p ≡ poly_text q → p ≡ q
same_poly p q p_is q_is e = (one_poly p q [] [] p_is q_is refl refl (ap (λ t. t ++ []) e)).0
