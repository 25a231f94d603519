-- The order of polynomials, and ascending lists of them.
use Rattle.std.proofs.Common.{◌≡◌, ◌≢◌, ℕ, zero, suc, ◌+◌, ◌<◌, ◌≤◌, ◌↔◌, ◌⊎◌, inl, inr, List, [], ◌∷◌, ◌++◌, length, get_or, drop, All, IsTrue, false, nat_lt, ◌-◌, refl, sym, ap, ap₂, ◌∙◌, subst, arith, add-one}
use Rattle.std.proofs.lemmas.List.Elements.{All-nil, All-cons, All-head, All-tail}
use Rattle.std.specs.List.{insert}
use Rattle.std.proofs.lemmas.Bool.{ltb-true, lt-ltb}
use native.Mathlib.Decide.{ℕ_discrete}
use Rattle.ring_theory.specs.Members.{In}
use Rattle.ff_factor.specs.Factors.{IsBelow, IsBeforePoly, AreAscendingPolys}
use Rattle.ff_factor.specs.Pulls.{IsWith}

-- the first position from the top at which two lists of one length differ decides
pub below_at : (a b : List ℕ) (i : ℕ) → length a ≡ length b → i < length a → drop (i + 1) a ≡ drop (i + 1) b
    → get_or a i 0 ≢ get_or b i 0
    → IsBelow a b ↔ (get_or a i 0 < get_or b i 0)
below_at a b i size less above differ = go a b i size less
    (ap (λ n. drop n a) (sym (add-one i)) ∙ above ∙ ap (λ n. drop n b) (add-one i)) differ
  where
    irreflexive : (xs ys : List ℕ) → xs ≡ ys → IsBelow xs ys → ⊥
    irreflexive [] [] e h = h
    irreflexive [] (y ∷ ys) e h = h
    irreflexive (x ∷ xs) [] e h = h
    irreflexive (x ∷ xs) (y ∷ ys) e (inl h) = irreflexive xs ys (ap (drop 1) e) h
    irreflexive (x ∷ xs) (y ∷ ys) e (inr h) = let f : x ≡ y = ap (λ w. get_or w 0 0) e in let l = h.1 in omega arith

    go : (a b : List ℕ) (i : ℕ) → length a ≡ length b → i < length a → drop (suc i) a ≡ drop (suc i) b
        → get_or a i 0 ≢ get_or b i 0
        → IsBelow a b ↔ (get_or a i 0 < get_or b i 0)
    go [] b i size less above differ = absurd (omega arith)
    go (x ∷ a) [] i size less above differ = absurd (omega arith)
    go (x ∷ a) (y ∷ b) zero size less above differ = (to, λ l. inr (above, l))
      where
        to : IsBelow (x ∷ a) (y ∷ b) → x < y
        to (inl h) = absurd (irreflexive a b above h)
        to (inr h) = h.1
    go (x ∷ a) (y ∷ b) (suc i) size less above differ = (
      to (go a b i (omega arith) (omega arith) above differ),
      λ l. inl
          ((go a b i (omega arith) (omega arith) above differ).1 l),
    )
      where
        to : (IsBelow a b ↔ (get_or a i 0 < get_or b i 0)) → IsBelow (x ∷ a) (y ∷ b) → get_or a i 0 < get_or b i 0
        to r (inl h) = r.0 h
        to r (inr h) = absurd (differ (ap (λ w. get_or w i 0) h.0))

pub below_same : (a b : List ℕ) → a ≡ b → IsBelow a b → ⊥
below_same [] [] e h = h
below_same [] (y ∷ ys) e h = h
below_same (x ∷ xs) [] e h = h
below_same (x ∷ xs) (y ∷ ys) e (inl h) = below_same xs ys (ap (drop 1) e) h
below_same (x ∷ xs) (y ∷ ys) e (inr h) = let f : x ≡ y = ap (λ w. get_or w 0 0) e in let l = h.1 in omega arith

below_trans : (a b c : List ℕ) → IsBelow a b → IsBelow b c → IsBelow a c
below_trans [] [] c h k = absurd h
below_trans [] (y ∷ b) c h k = absurd h
below_trans (x ∷ a) [] c h k = absurd h
below_trans (x ∷ a) (y ∷ b) [] h k = absurd k
below_trans (x ∷ a) (y ∷ b) (z ∷ c) (inl h) (inl k) = inl (below_trans a b c h k)
below_trans (x ∷ a) (y ∷ b) (z ∷ c) (inl h) (inr k) = inl (subst (IsBelow a) k.0 h)
below_trans (x ∷ a) (y ∷ b) (z ∷ c) (inr h) (inl k) = inl (subst (λ w. IsBelow w c) (sym h.0) k)
below_trans (x ∷ a) (y ∷ b) (z ∷ c) (inr h) (inr k) = inr (h.0 ∙ k.0, let l = h.1 in let m = k.1 in omega arith)

pub before_trans : (a b c : List ℕ) → IsBeforePoly a b → IsBeforePoly b c → IsBeforePoly a c
before_trans a b c (inl h) (inl k) = inl (omega arith)
before_trans a b c (inl h) (inr k) = inl (let e = k.0 in omega arith)
before_trans a b c (inr h) (inl k) = inl (let e = h.0 in omega arith)
before_trans a b c (inr h) (inr k) = inr (h.0 ∙ k.0, below_trans a b c h.1 k.1)

-- of two different lists one comes first
lists_same : (a b : List ℕ) → Dec (a ≡ b)
lists_same [] [] = yes refl
lists_same [] (y ∷ b) = no (λ e. (cc))
lists_same (x ∷ a) [] = no (λ e. (cc))
lists_same (x ∷ a) (y ∷ b) = both (ℕ_discrete x y) (lists_same a b)
  where
    both : Dec (x ≡ y) → Dec (a ≡ b) → Dec (x ∷ a ≡ y ∷ b)
    both (yes e) (yes f) = yes (ap₂ ◌∷◌ e f)
    both (yes e) (no n) = no (λ s. n (ap (drop 1) s))
    both (no n) d = no (λ s. n (ap (λ w. get_or w 0 0) s))

below_total : (a b : List ℕ) → length a ≡ length b → ¬ (a ≡ b) → ¬ IsBelow a b → IsBelow b a
below_total [] [] size ne not = absurd (ne refl)
below_total [] (y ∷ b) size ne not = absurd (omega arith)
below_total (x ∷ a) [] size ne not = absurd (omega arith)
below_total (x ∷ a) (y ∷ b) size ne not = go (lists_same a b) (λ n. below_total a b (omega arith) n (λ h. not (inl h)))
  where
    go : Dec (a ≡ b) → (¬ (a ≡ b) → IsBelow b a) → IsBelow (y ∷ b) (x ∷ a)
    go (yes e) f = inr (
      sym e,
      let f : ¬ (x ≡ y) = λ s. ne (ap₂ ◌∷◌ s e) in let g : ¬ (x < y) = λ l. not (inr (e, l)) in
          omega arith,
    )
    go (no n) f = inl (f n)

pub before_total : (a b : List ℕ) → ¬ (a ≡ b) → ¬ IsBeforePoly a b → IsBeforePoly b a
before_total a b ne not = go (compare (length a) (length b))
  where
    compare : (m n : ℕ) → (m < n) ⊎ ((m ≡ n) ⊎ (n < m))
    compare m n = grind arith

    go : (length a < length b) ⊎ ((length a ≡ length b) ⊎ (length b < length a)) → IsBeforePoly b a
    go (inl l) = absurd (not (inl l))
    go (inr (inl e)) = inr (sym e, below_total a b e ne (λ h. not (inr (e, h))))
    go (inr (inr l)) = inl l

-- ---- ascending lists

after_head : (p q : List ℕ) (qs : List (List ℕ)) → IsBeforePoly p q → All (IsBeforePoly q) qs → All (IsBeforePoly p) qs
after_head p q [] b all = All-nil (IsBeforePoly p)
after_head p q (r ∷ qs) b all =
    All-cons (IsBeforePoly p) r qs (before_trans p q r b (All-head (IsBeforePoly q) r qs all))
    (after_head p q qs b (All-tail (IsBeforePoly q) r qs all))

all_insert : (N : List ℕ → Type 0) (ps : List (List ℕ)) (i : ℕ) (p : List ℕ) → All N ps → N p → All N (insert ps i p)
all_insert N ps zero p all here = All-cons N p ps here all
all_insert N [] (suc i) p all here = All-cons N p [] here all
all_insert N (q ∷ ps) (suc i) p all here = All-cons N q (insert ps i p) (All-head N q ps all)
    (all_insert N ps i p (All-tail N q ps all) here)

ascending_insert : (ps : List (List ℕ)) (i : ℕ) (p : List ℕ) → AreAscendingPolys ps
    → ((j : ℕ) → j < i → IsBeforePoly (get_or ps j []) p)
    → IsBeforePoly p (get_or ps i []) → i < length ps → AreAscendingPolys (insert ps i p)
ascending_insert [] i p up before here less = absurd (omega arith)
ascending_insert (q ∷ ps) zero p up before here less =
    (All-cons (IsBeforePoly p) q ps here (after_head p q ps here up.0), up)
ascending_insert (q ∷ ps) (suc i) p up before here less = (
  all_insert (IsBeforePoly q) ps i p up.0 (before 0 (omega arith)),
  ascending_insert ps i p up.1 (λ j l. before (suc j) (omega arith)) here (omega arith),
)

ascending_push : (ps : List (List ℕ)) (p : List ℕ) → AreAscendingPolys ps
    → ((j : ℕ) → j < length ps → IsBeforePoly (get_or ps j []) p) → AreAscendingPolys (ps ++ p ∷ [])
ascending_push [] p up before = (All-nil (IsBeforePoly p), tt)
ascending_push (q ∷ ps) p up before = (pushed ps up.0, ascending_push ps p up.1 (λ j l. before (suc j) (omega arith)))
  where
    pushed : (ps : List (List ℕ)) → All (IsBeforePoly q) ps → All (IsBeforePoly q) (ps ++ p ∷ [])
    pushed [] all = All-cons (IsBeforePoly q) p [] (before 0 (omega arith)) (All-nil (IsBeforePoly q))
    pushed (r ∷ ps) all = All-cons (IsBeforePoly q) r (ps ++ p ∷ []) (All-head (IsBeforePoly q) r ps all)
        (pushed ps (All-tail (IsBeforePoly q) r ps all))

in_insert : (ps : List (List ℕ)) (i : ℕ) (p q : List ℕ) → In q ps → In q (insert ps i p)
in_insert ps zero p q h = inr h
in_insert [] (suc i) p q h = absurd h
in_insert (r ∷ ps) (suc i) p q (inl e) = inl e
in_insert (r ∷ ps) (suc i) p q (inr h) = inr (in_insert ps i p q h)

here_insert : (ps : List (List ℕ)) (i : ℕ) (p : List ℕ) → In p (insert ps i p)
here_insert ps zero p = inl refl
here_insert [] (suc i) p = inl refl
here_insert (r ∷ ps) (suc i) p = inr (here_insert ps i p)

of_insert : (ps : List (List ℕ)) (i : ℕ) (p q : List ℕ) → ¬ (q ≡ p) → In q (insert ps i p) → In q ps
of_insert ps zero p q ne (inl e) = absurd (ne e)
of_insert ps zero p q ne (inr h) = h
of_insert [] (suc i) p q ne (inl e) = absurd (ne e)
of_insert [] (suc i) p q ne (inr h) = absurd h
of_insert (r ∷ ps) (suc i) p q ne (inl e) = inl e
of_insert (r ∷ ps) (suc i) p q ne (inr h) = inr (of_insert ps i p q ne h)

in_get : (ps : List (List ℕ)) (i : ℕ) → i < length ps → In (get_or ps i []) ps
in_get [] i less = absurd (omega arith)
in_get (p ∷ ps) zero less = inl refl
in_get (p ∷ ps) (suc i) less = inr (in_get ps i (omega arith))

pub with_insert : (ps new : List (List ℕ)) (i : ℕ) (p : List ℕ) → AreAscendingPolys ps
    → ((j : ℕ) → j < i → IsBeforePoly (get_or ps j []) p)
    → IsBeforePoly p (get_or ps i []) → i < length ps → new ≡ insert ps i p → IsWith ps p new
with_insert ps new i p up before here less is = subst (IsWith ps p) (sym is) (record {
  ascending = ascending_insert ps i p up before here less;
  old_in = in_insert ps i p;
  here = here_insert ps i p;
  each = of_insert ps i p;
})

pub with_same : (ps : List (List ℕ)) (i : ℕ) (p : List ℕ) → AreAscendingPolys ps → p ≡ get_or ps i [] → i < length ps
    → IsWith ps p ps
with_same ps i p up same less = record {
  ascending = up;
  old_in = λ q h. h;
  here = subst (λ q. In q ps) (sym same) (in_get ps i less);
  each = λ q ne h. h;
}

pub with_push : (ps new : List (List ℕ)) (p : List ℕ) → AreAscendingPolys ps
    → ((j : ℕ) → j < length ps → IsBeforePoly (get_or ps j []) p)
    → new ≡ ps ++ p ∷ [] → IsWith ps p new
with_push ps new p up before is = subst (IsWith ps p) (sym is) (record {
  ascending = ascending_push ps p up before;
  old_in = old ps;
  here = here ps;
  each = each ps;
})
  where
    old : (ps : List (List ℕ)) (q : List ℕ) → In q ps → In q (ps ++ p ∷ [])
    old [] q h = absurd h
    old (r ∷ ps) q (inl e) = inl e
    old (r ∷ ps) q (inr h) = inr (old ps q h)

    here : (ps : List (List ℕ)) → In p (ps ++ p ∷ [])
    here [] = inl refl
    here (r ∷ ps) = inr (here ps)

    each : (ps : List (List ℕ)) (q : List ℕ) → ¬ (q ≡ p) → In q (ps ++ p ∷ []) → In q ps
    each [] q ne (inl e) = absurd (ne e)
    each [] q ne (inr h) = h
    each (r ∷ ps) q ne (inl e) = inl e
    each (r ∷ ps) q ne (inr h) = inr (each ps q ne h)

-- ---- the answers of the comparison

pub answer_at : (a b a' b' : List ℕ) (i : ℕ) → a ≡ a' → b ≡ b' → length a ≡ length b → 0 < i → i ≤ length a
    → drop i a ≡ drop i b
    → get_or a (i - 1) 0 ≢ get_or b (i - 1) 0
    → IsTrue (nat_lt (get_or a (i - 1) 0) (get_or b (i - 1) 0)) ↔ IsBeforePoly a' b'
answer_at a b a' b' i a_is b_is size some within above differ =
    subst (λ w. IsTrue (nat_lt (get_or a (i - 1) 0) (get_or b (i - 1) 0)) ↔ IsBeforePoly w b') a_is
    (subst (λ w. IsTrue (nat_lt (get_or a (i - 1) 0) (get_or b (i - 1) 0)) ↔ IsBeforePoly a w) b_is
    (λ t. inr (size, r.1 (ltb-true _ _ t)), λ h. lt-ltb _ _ (r.0 (from h))))
  where
    r : IsBelow a b ↔ (get_or a (i - 1) 0 < get_or b (i - 1) 0)
    r = below_at a b (i - 1) size (omega arith)
        (let e : i ≡ i - 1 + 1 = omega arith in subst (λ n. drop n a ≡ drop n b) e above) differ

    from : IsBeforePoly a b → IsBelow a b
    from (inl l) = absurd (omega arith)
    from (inr h) = h.1

pub answer_same : (a b a' b' : List ℕ) → a ≡ a' → b ≡ b' → a ≡ b → IsTrue false ↔ IsBeforePoly a' b'
answer_same a b a' b' a_is b_is same = (λ t. absurd (cc), λ h. absurd (none h))
  where
    e : a' ≡ b'
    e = sym a_is ∙ same ∙ b_is

    none : IsBeforePoly a' b' → ⊥
    none (inl l) = let s = ap length e in omega arith
    none (inr h) = below_same a' b' e h.1

pub at_start : (i : ℕ) (a b : List ℕ) → i ≡ 0 → drop i a ≡ drop i b → a ≡ b
at_start i a b e same = subst (λ n. drop n a ≡ drop n b) e same

pub not_so : IsTrue false → ⊥
not_so t = cc

pub before_irreflexive : (p : List ℕ) → IsBeforePoly p p → ⊥
before_irreflexive p (inl l) = omega arith
before_irreflexive p (inr h) = below_same p p refl h.1
