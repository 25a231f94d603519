-- Steps of the loops over the coefficients of a polynomial, and over the codes in search of roots.
use Rattle.std.proofs.Common.{◌≡◌, ℕ, zero, suc, ◌+◌, ◌-◌, ◌<◌, ◌≤◌, ◌⊎◌, inl, inr, List, [], ◌∷◌, ◌++◌, length, get_or, drop, set, map, refl, sym, ap, ap₂, ◌∙◌, subst, arith}
use native.Mathlib.Decide.{ℕ_discrete}
use Rattle.std.proofs.Math.Seq.{drop-cons}
use Rattle.ring_lemmas.specs.Lists.{neg_list}
use Rattle.ring_theory.specs.Members.{In, IsDistinct}
use Rattle.ff_fields.specs.Field.{FieldOps, CodeField}
use Rattle.ff_fields.specs.Code.{raw_ring}
use Rattle.ff_fields.specs.Over.{IsOver, IsOver_nil, IsOver_cons, IsOver_head, IsOver_tail}
use Rattle.finite_algebra_theory.proofs.Lists.{in_append, in_append_left, in_append_right}
use Rattle.ff_falg.specs.Roots.{monic_value, quotient_of, IsRootsBelow}

pub negatives : (k : FieldOps) (xs : List ℕ) → map k.neg xs ≡ neg_list (raw_ring k) xs
negatives k [] = refl
negatives k (x ∷ xs) = ap (λ w. k.neg x ∷ w) (negatives k xs)

-- the rest of a list from the position before
before : (xs : List ℕ) (j : ℕ) → 0 < j → j ≤ length xs → drop (j - 1) xs ≡ get_or xs (j - 1) 0 ∷ drop j xs
before xs j some le =
    drop-cons xs (j - 1) 0 (omega arith)
    ∙ ap (λ i. get_or xs (j - 1) 0 ∷ drop i xs) (let e : suc (j - 1) ≡ j = omega arith in e)

pub monic_step : (k : FieldOps) (lower : List ℕ) (c j v w x : ℕ) → 0 < j → j ≤ length lower
    → v ≡ monic_value k (drop j lower) c
    → w ≡ k.mul c v → x ≡ k.add (get_or lower (j - 1) 0) w → x ≡ monic_value k (drop (j - 1) lower) c
monic_step k lower c j v w x some le v_is w_is x_is =
    x_is ∙ ap (k.add (get_or lower (j - 1) 0)) (w_is ∙ ap (k.mul c) v_is)
    ∙ sym (ap (λ xs. monic_value k xs c) (before lower j some le))

set_here : (xs : List ℕ) (i v : ℕ) → i < length xs → drop i (set xs i v) ≡ v ∷ drop (suc i) xs
set_here [] i v less = absurd (omega arith)
set_here (x ∷ xs) zero v less = refl
set_here (x ∷ xs) (suc i) v less = set_here xs i v (omega arith)

pub quotient_step : (k : FieldOps) (lower quotient : List ℕ) (c j v : ℕ) → 0 < j → j ≤ length lower
    → length quotient ≡ length lower
    → v ≡ monic_value k (drop j lower) c → drop j quotient ≡ quotient_of k (drop j lower) c
    → drop (j - 1) (set quotient (j - 1) v) ≡ quotient_of k (drop (j - 1) lower) c
quotient_step k lower quotient c j v some le same v_is rest =
    set_here quotient (j - 1) v (omega arith)
    ∙ ap (λ i. v ∷ drop i quotient) (let e : suc (j - 1) ≡ j = omega arith in e)
    ∙ ap₂ ◌∷◌ v_is rest
    ∙ sym (ap (λ xs. quotient_of k xs c) (before lower j some le))

-- the search for roots

distinct_push : (xs : List ℕ) (x : ℕ) → IsDistinct xs → (In x xs → ⊥) → IsDistinct (xs ++ x ∷ [])
distinct_push [] x distinct out = ((λ i. i), tt)
distinct_push (y ∷ xs) x distinct out = (
  (λ i. elim (in_append y xs (x ∷ []) i)
      [ inl j ↦ distinct.0 j | inr j ↦ elim j [ inl e ↦ out (inl (sym e)) | inr h ↦ h ] ]),
  distinct_push xs x distinct.1 (λ i. out (inr i)),
)

pub roots_none : (k : FieldOps) (lower : List ℕ) → IsRootsBelow k lower 0 []
roots_none k lower = record { each = λ c i. absurd i; distinct = tt; all = λ c less. absurd (omega arith) }

pub roots_pass : (k : FieldOps) (lower : List ℕ) (n v : ℕ) (found : List ℕ) → v ≡ monic_value k lower n → ¬ (v ≡ 0)
    → IsRootsBelow k lower n found → IsRootsBelow k lower (n + 1) found
roots_pass k lower n v found v_is some h = record {
  each = λ c i. let r = h.each c i in (let l : c < n = r.0 in omega arith, r.1);
  distinct = h.distinct;
  all = λ c less z. go c less z (ℕ_discrete c n);
}
  where
    go : (c : ℕ) → c < n + 1 → monic_value k lower c ≡ 0 → Dec (c ≡ n) → In c found
    go c less z (yes e) = absurd (some (v_is ∙ ap (monic_value k lower) (sym e) ∙ z))
    go c less z (no ne) = h.all c (omega arith) z

pub roots_push : (k : FieldOps) (lower : List ℕ) (n v : ℕ) (found new : List ℕ) → v ≡ monic_value k lower n → v ≡ 0
    → new ≡ found ++ n ∷ [] → IsRootsBelow k lower n found → IsRootsBelow k lower (n + 1) new
roots_push k lower n v found new v_is none new_is h =
    subst (IsRootsBelow k lower (n + 1)) (sym new_is) (record {
      each = λ c i. each c (in_append c found (n ∷ []) i);
      distinct = distinct_push found n h.distinct (λ i. let l : n < n = (h.each n i).0 in omega arith);
      all = λ c less z. go c less z (ℕ_discrete c n);
    })
  where
    each : (c : ℕ) → In c found ⊎ In c (n ∷ []) → (c < n + 1) × (monic_value k lower c ≡ 0)
    each c (inl i) = let r = h.each c i in (let l : c < n = r.0 in omega arith, r.1)
    each c (inr (inl e)) = (omega arith, ap (monic_value k lower) e ∙ sym v_is ∙ none)
    each c (inr (inr i)) = absurd i

    go : (c : ℕ) → c < n + 1 → monic_value k lower c ≡ 0 → Dec (c ≡ n) → In c (found ++ n ∷ [])
    go c less z (yes e) = in_append_right c found (n ∷ []) (inl e)
    go c less z (no ne) = in_append_left c found (n ∷ []) (h.all c (omega arith) z)

pub length_quotient : (k : FieldOps) (lower : List ℕ) (c : ℕ) → length (quotient_of k lower c) ≡ length lower
length_quotient k [] c = refl
length_quotient k (d ∷ lower) c = ap suc (length_quotient k lower c)

module _ (k : CodeField) where
  pub monic_below : (lower : List ℕ) (c : ℕ) → IsOver k.ops lower → c < k.size → monic_value k.ops lower c < k.size
  monic_below [] c over c_in = k.laws.one_below
  monic_below (d ∷ lower) c over c_in =
      k.laws.add_below d _ (IsOver_head over) (k.laws.mul_below c _ c_in (monic_below lower c (IsOver_tail over) c_in))

  pub quotient_over : (lower : List ℕ) (c : ℕ) → IsOver k.ops lower → c < k.size
      → IsOver k.ops (quotient_of k.ops lower c)
  quotient_over [] c over c_in = IsOver_nil
  quotient_over (d ∷ lower) c over c_in = IsOver_cons (monic_below lower c (IsOver_tail over) c_in)
      (quotient_over lower c (IsOver_tail over) c_in)
