-- The order of the columns: what a sort of them makes, and that there is one.
use Rattle.std.proofs.Common.{◌≡◌, ℕ, zero, suc, ◌+◌, ◌<◌, ◌≤◌, ◌⊎◌, inl, inr, Bool, true, false, cond, eqb, List, [], ◌∷◌, ◌++◌, length, map, get_or, refl, sym, ◌∙◌, ap, ap₂, subst, arith, All, sum_by, IsPermutation, suc-add, Ordering, Less, Equal, Greater}
use Rattle.std.proofs.lemmas.Bool.{eqb-true, eqb-false}
use Rattle.std.proofs.lemmas.Cmp.{int_ranked, ranked, then_total, on_total, int_cmp_total, nat_cmp_total}
use Rattle.std.proofs.lemmas.Int.{ints}
use Rattle.std.proofs.lemmas.List.Elements.{All-nil, All-cons, All-head, All-tail}
use Rattle.std.proofs.lemmas.List.Sorted.{sorted_far, ranks_by, All-permutation, IsPermutation-sym, sum_by-IsPermutation}
use Rattle.std.proofs.lemmas.List.Sums.{sum_by-cons}
use Rattle.std.proofs.Math.IntN.{ℤ}
use Rattle.std.specs.Cmp.{IsStrictWeakOrder}
use Rattle.std.specs.Ordering.{MatchOrdering, int_cmp, nat_cmp, is_lt, ordering_then}
use Rattle.std.specs.Prelude.{◌<ℤ◌, ◌≤ℤ◌, IsSorted}
use Rattle.linear_theory.specs.Lists.{tabulate}
use Rattle.split_theory.specs.Splits.{split_degree}
use Rattle.ff_split.specs.Splits.{IsInOrder, IsBefore, columns, AreOrdered}

-- ---- each column stands once

abbrev hit : ℕ → ℤ × ℕ → ℕ
hit c p = cond (eqb p.1 c) 1 0

abbrev hits : ℕ → List (ℤ × ℕ) → ℕ
hits c ps = sum_by (hit c) ps

hit_cases : (c : ℕ) (p : ℤ × ℕ) → ((p.1 ≡ c) × (hit c p ≡ 1)) ⊎ ((p.1 ≡ c → ⊥) × (hit c p ≡ 0))
hit_cases c p = go (eqb p.1 c) refl
  where
    go : (b : Bool) → eqb p.1 c ≡ b → ((p.1 ≡ c) × (hit c p ≡ 1)) ⊎ ((p.1 ≡ c → ⊥) × (hit c p ≡ 0))
    go true e = inl (eqb-true p.1 c e, ap (λ b. cond b 1 0) e)
    go false e = inr (eqb-false p.1 c e, ap (λ b. cond b 1 0) e)

hit_own : (c : ℕ) (p : ℤ × ℕ) → p.1 ≡ c → hit c p ≡ 1
hit_own c p e = go (hit_cases c p)
  where
    go : ((p.1 ≡ c) × (hit c p ≡ 1)) ⊎ ((p.1 ≡ c → ⊥) × (hit c p ≡ 0)) → hit c p ≡ 1
    go (inl h) = h.1
    go (inr h) = absurd (h.0 e)

some_hit : (c : ℕ) (ps : List (ℤ × ℕ)) (j : ℕ) (d : ℤ × ℕ) → j < length ps → (get_or ps j d).1 ≡ c → 1 ≤ hits c ps
some_hit c [] j d less e = absurd (omega (arith, less))
some_hit c (p ∷ ps) zero d less e = omega (arith, sum_by-cons (hit c) p ps, hit_own c p e)
some_hit c (p ∷ ps) (suc j) d less e =
    omega (arith, sum_by-cons (hit c) p ps, some_hit c ps j d (omega (arith, less)) e)

apart : (ps : List (ℤ × ℕ)) → ((c : ℕ) → hits c ps ≤ 1) → (i j : ℕ) (d : ℤ × ℕ) → i < j → j < length ps
    → (get_or ps i d).1 ≡ (get_or ps j d).1 → ⊥
apart [] once i j d less inside e = omega (arith, inside)
apart (p ∷ ps) once i zero d less inside e = omega (arith, less)
apart (p ∷ ps) once zero (suc j) d less inside e =
    let a = once p.1 in
    let b = sum_by-cons (hit p.1) p ps in
    let f = hit_own p.1 p refl in
    let g = some_hit p.1 ps j d (omega (arith, inside)) (sym e) in
    omega (arith, a, b, f, g)
apart (p ∷ ps) once (suc i) (suc j) d less inside e =
    apart ps (λ c. let a = once c in let b = sum_by-cons (hit c) p ps in omega (arith, a, b)) i j d
    (omega (arith, less)) (omega (arith, inside)) e

numbered_once : (n s : ℕ) (f : ℕ → ℤ × ℕ) → ((i : ℕ) → (f i).1 ≡ s + i) → (c : ℕ)
    → (hits c (tabulate n f) ≤ 1) × (c < s → hits c (tabulate n f) ≡ 0)
numbered_once zero s f at c = (omega arith, λ less. refl)
numbered_once (suc n) s f at c =
    go (hit_cases c (f 0))
    (numbered_once n (suc s) (λ i. f (suc i)) (λ i. let a = at (suc i) in omega (arith, a)) c)
  where
    whole : hits c (tabulate (suc n) f) ≡ hit c (f 0) + hits c (tabulate n (λ i. f (suc i)))
    whole = sum_by-cons (hit c) (f 0) (tabulate n (λ i. f (suc i)))

    first : (f 0).1 ≡ s
    first = let a = at 0 in omega (arith, a)

    go : (((f 0).1 ≡ c) × (hit c (f 0) ≡ 1)) ⊎ (((f 0).1 ≡ c → ⊥) × (hit c (f 0) ≡ 0))
        → (hits c (tabulate n (λ i. f (suc i))) ≤ 1) × (c < suc s → hits c (tabulate n (λ i. f (suc i))) ≡ 0)
        → (hits c (tabulate (suc n) f) ≤ 1) × (c < s → hits c (tabulate (suc n) f) ≡ 0)
    go (inl h) r =
        let e = h.0 in
        let one = h.1 in
        let none = r.1 (omega (arith, e, first)) in
        (omega (arith, whole, one, none), λ less. absurd (omega (arith, less, e, first)))
    go (inr h) r =
        let none = h.1 in
        let rest = r.0 in (
          omega (arith, whole, none, rest),
          λ less. let nothing = r.1 (omega (arith, less)) in omega (arith, whole, none, nothing),
        )

pub tabulate_more : {X : Type 0} (n : ℕ) (f : ℕ → X) → tabulate (n + 1) f ≡ tabulate n f ++ f n ∷ []
tabulate_more zero f = refl
tabulate_more (suc n) f = rw (suc-add n 1) (ap (λ xs. f 0 ∷ xs) (tabulate_more n (λ i. f (suc i))))

-- ---- what a sort makes

in_order : {X : Type 0} (R : X → X → Type 0) (xs : List X)
    → ((i j : ℕ) (d : X) → i < j → j < length xs → R (get_or xs i d) (get_or xs j d)) → IsInOrder R xs
in_order R [] h = tt
in_order R (x ∷ xs) h = (
  (λ i d less. h 0 (suc i) d (omega arith) (omega (arith, less))),
  in_order R xs (λ i j d less inside. h (suc i) (suc j) d (omega (arith, less)) (omega (arith, inside))),
)

abbrev column_cmp : ℤ × ℕ → ℤ × ℕ → Ordering
column_cmp x y = ordering_then (int_cmp x.0 y.0) (nat_cmp x.1 y.1)

column_order : IsStrictWeakOrder (λ (x y : ℤ × ℕ). is_lt (column_cmp x y))
column_order =
    ranks_by (then_total (on_total (λ (p : ℤ × ℕ). p.0) int_cmp_total) (on_total (λ (p : ℤ × ℕ). p.1) nat_cmp_total))
    (λ p. p)

before_of : (p q : ℤ × ℕ) → is_lt (column_cmp q p) ≡ false → (p.1 ≡ q.1 → ⊥) → IsBefore p q
before_of p q e differ = go (int_cmp q.0 p.0) (nat_cmp q.1 p.1) (int_ranked q.0 p.0 _ refl) (ranked q.1 p.1 _ refl) e
  where
    go : (a b : Ordering) → MatchOrdering a (q.0 <ℤ p.0) (q.0 ≡ p.0) (p.0 <ℤ q.0)
        → MatchOrdering b (q.1 < p.1) (q.1 ≡ p.1) (p.1 < q.1) → is_lt (ordering_then a b) ≡ false → IsBefore p q
    go Less b h g e = absurd (cc)
    go Greater b h g e = inl h
    go Equal Less h g e = absurd (cc)
    go Equal Equal h g e = absurd (differ (sym g))
    go Equal Greater h g e = inr (sym h, g)

pub ordered_columns : (u : List ℕ) (m : List (List (List ℕ))) (cs ps : List (ℤ × ℕ)) → cs ≡ columns u m
    → IsPermutation cs ps → IsSorted (λ x y. ordering_then (int_cmp x.0 y.0) (nat_cmp x.1 y.1)) ps → AreOrdered u m ps
ordered_columns u m cs ps cs_are permuted sorted = record {
  all = all;
  ascending = in_order IsBefore ps (λ i j d less inside.
      before_of (get_or ps i d) (get_or ps j d)
      (sorted_far (λ (x y : ℤ × ℕ). is_lt (column_cmp x y)) column_order ps sorted i j d (omega (arith, less)) inside)
      (apart ps once i j d less inside));
}
  where
    all : IsPermutation (columns u m) ps
    all = subst (λ xs. IsPermutation xs ps) cs_are permuted

    once : (c : ℕ) → hits c ps ≤ 1
    once c =
        let a = (numbered_once (length m) 0 (λ i. (split_degree u m i, i)) (λ i. omega arith) c).0 in
        let b = sum_by-IsPermutation (hit c) (columns u m) ps all in
        omega (arith, a, b)

-- ---- the degrees rise

not_above : (p q : ℤ × ℕ) → IsBefore p q → p.0 ≤ℤ q.0
not_above p q (inl h) = omega (arith, ints, h)
not_above p q (inr h) = let e = h.0 in omega (arith, ints, e)

pub rising : (ps : List (ℤ × ℕ)) → IsInOrder IsBefore ps → IsInOrder ◌≤ℤ◌ (map (λ p. p.0) ps)
rising [] h = tt
rising (p ∷ ps) h = (all ps h.0, rising ps h.1)
  where
    all : (qs : List (ℤ × ℕ)) → All (IsBefore p) qs → All (λ d. p.0 ≤ℤ d) (map (λ (q : ℤ × ℕ). q.0) qs)
    all [] h = All-nil (λ d. p.0 ≤ℤ d)
    all (q ∷ qs) h =
        All-cons (λ d. p.0 ≤ℤ d) q.0 (map (λ (q : ℤ × ℕ). q.0) qs) (not_above p q (All-head (IsBefore p) q qs h))
        (all qs (All-tail (IsBefore p) q qs h))

-- ---- there is one order

In : {X : Type 0} → X → List X → Type 0
In x [] = ⊥
In x (y ∷ ys) = (x ≡ y) ⊎ In x ys

all_in : {X : Type 0} (P : X → Type 0) (xs : List X) → All P xs → (x : X) → In x xs → P x
unfolding In
all_in P [] h x i = absurd i
all_in P (y ∷ ys) h x (inl e) = subst P (sym e) (All-head P y ys h)
all_in P (y ∷ ys) h x (inr i) = all_in P ys (All-tail P y ys h) x i

all_of : {X : Type 0} (P : X → Type 0) (xs : List X) → ((x : X) → In x xs → P x) → All P xs
unfolding In
all_of P [] h = All-nil P
all_of P (y ∷ ys) h = All-cons P y ys (h y (inl refl)) (all_of P ys (λ x i. h x (inr i)))

in_permuted : {X : Type 0} (xs ys : List X) → IsPermutation xs ys → (x : X) → In x xs → In x ys
in_permuted xs ys p =
    all_in (λ x. In x ys) xs
    (All-permutation (λ x. In x ys) ys xs (IsPermutation-sym xs ys p) (all_of (λ x. In x ys) ys (λ x i. i)))

never_both : (p q : ℤ × ℕ) → IsBefore p q → IsBefore q p → ⊥
never_both p q (inl a) (inl b) = omega (arith, ints, a, b)
never_both p q (inl a) (inr b) = let e = b.0 in omega (arith, ints, a, e)
never_both p q (inr a) (inl b) = let e = a.0 in omega (arith, ints, b, e)
never_both p q (inr a) (inr b) = omega (arith, a.1, b.1)

one_order : (ps qs : List (ℤ × ℕ)) → IsInOrder IsBefore ps → IsInOrder IsBefore qs
    → ((x : ℤ × ℕ) → In x ps → In x qs) → ((x : ℤ × ℕ) → In x qs → In x ps) → ps ≡ qs
unfolding In
one_order [] [] a b f g = refl
one_order [] (q ∷ qs) a b f g = absurd (g q (inl refl))
one_order (p ∷ ps) [] a b f g = absurd (f p (inl refl))
one_order (p ∷ ps) (q ∷ qs) a b f g =
    ap₂ ◌∷◌ same
    (one_order ps qs a.1 b.1 (λ x i. tail x q qs (all_in (IsBefore p) ps a.0 x i) same (f x (inr i)))
    (λ x i. tail x p ps (all_in (IsBefore q) qs b.0 x i) (sym same) (g x (inr i))))
  where
    same : p ≡ q
    same = go (f p (inl refl)) (g q (inl refl))
      where
        go : (p ≡ q) ⊎ In p qs → (q ≡ p) ⊎ In q ps → p ≡ q
        go (inl e) j = e
        go (inr i) (inl e) = sym e
        go (inr i) (inr j) = absurd (never_both p q (all_in (IsBefore p) ps a.0 q j) (all_in (IsBefore q) qs b.0 p i))

    tail : (x r : ℤ × ℕ) (rs : List (ℤ × ℕ)) {o : ℤ × ℕ} → IsBefore o x → o ≡ r → (x ≡ r) ⊎ In x rs → In x rs
    tail x r rs {o} before e (inl h) =
        let s : IsBefore x x = subst (λ t. IsBefore t x) (e ∙ sym h) before in absurd (never_both x x s s)
    tail x r rs before e (inr i) = i

pub same_order : (xs ps qs : List (ℤ × ℕ)) → IsPermutation xs ps → IsPermutation xs qs → IsInOrder IsBefore ps
    → IsInOrder IsBefore qs → ps ≡ qs
same_order xs ps qs p q a b =
    one_order ps qs a b (λ x i. in_permuted xs qs q x (in_permuted ps xs (IsPermutation-sym xs ps p) x i))
    (λ x i. in_permuted xs ps p x (in_permuted qs xs (IsPermutation-sym xs qs q) x i))
