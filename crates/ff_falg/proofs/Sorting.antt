-- Lists of codes that are sorted: the same members, and each before the next.
use Rattle.std.proofs.Common.{◌≡◌, ◌≢◌, ℕ, zero, suc, ◌<◌, ◌⊎◌, inl, inr, true, false, List, [], ◌∷◌, length, get_or, refl, sym, ap, ap₂, ◌∙◌, subst, arith, add-one, IsPermutation, Equal, Less}
use native.Mathlib.Decide.{ℕ_discrete, dec_le}
use Rattle.std.specs.Global.{Vec}
use Rattle.std.proofs.lemmas.List.{get_or-map, length-map}
use Rattle.std.proofs.lemmas.Bool.Decides.{nat_tests}
use Rattle.std.specs.List.Sorted.{IsSorted}
use Rattle.std.proofs.lemmas.List.Sorted.{IsPermutation-keeps}
use Rattle.std.specs.Prelude.{swap}
use Rattle.std.specs.Ordering.{is_lt, nat_cmp, ordering_then}
use Rattle.std.specs.Cmp.Lexicographic.{slice_cmp}
use Rattle.ring_theory.specs.Members.{In, IsDistinct}
use Rattle.ff_linalg.proofs.Reduction.{swap_here, swap_there, swap_other, length_swap}
use Rattle.ff_falg.specs.Idempotents.{IsBeforeVector, AreAscendingVectors, elements_of}

-- by positions

pub in_at : (x : List ℕ) (xs : List (List ℕ)) → In x xs → (i : ℕ) × (i < length xs) × (get_or xs i [] ≡ x)
in_at x [] i = absurd i
in_at x (y ∷ xs) (inl e) = (0, omega arith, sym e)
in_at x (y ∷ xs) (inr i) = let r = in_at x xs i in (suc r.0, let l : r.0 < length xs = r.1 in omega arith, r.2)

pub at_in : (xs : List (List ℕ)) (i : ℕ) → i < length xs → In (get_or xs i []) xs
at_in [] i less = absurd (omega arith)
at_in (x ∷ xs) zero less = inl refl
at_in (x ∷ xs) (suc i) less = inr (at_in xs i (omega arith))

distinct_at : (xs : List (List ℕ)) → IsDistinct xs → (i j : ℕ) → i < length xs → j < length xs
    → get_or xs i [] ≡ get_or xs j [] → i ≡ j
distinct_at [] d i j l m e = absurd (omega arith)
distinct_at (x ∷ xs) d zero zero l m e = refl
distinct_at (x ∷ xs) d zero (suc j) l m e = absurd (d.0 (subst (λ y. In y xs) (sym e) (at_in xs j (omega arith))))
distinct_at (x ∷ xs) d (suc i) zero l m e = absurd (d.0 (subst (λ y. In y xs) e (at_in xs i (omega arith))))
distinct_at (x ∷ xs) d (suc i) (suc j) l m e = ap suc (distinct_at xs d.1 i j (omega arith) (omega arith) e)

at_distinct : (xs : List (List ℕ)) → ((i j : ℕ) → i < length xs → j < length xs → get_or xs i [] ≡ get_or xs j []
    → i ≡ j) → IsDistinct xs
at_distinct [] h = tt
at_distinct (x ∷ xs) h = (
  (λ i. let r = in_at x xs i in
      let l : r.0 < length xs = r.1 in
      let e : 0 ≡ suc r.0 = h 0 (suc r.0) (omega arith) (omega arith) (sym r.2) in
      absurd (omega arith)),
  at_distinct xs (λ i j l m e. let s : suc i ≡ suc j = h (suc i) (suc j) (omega arith) (omega arith) e in omega arith),
)

-- where the element at a position stood before two were exchanged
record Moved (xs : List (List ℕ)) (p q j : ℕ) : Type 0 where
  from : ℕ
  from_in : from < length xs
  is : get_or (swap xs p q) j [] ≡ get_or xs from []
  back : get_or (swap xs p q) from [] ≡ get_or xs j []
  which : ((j ≡ p) × (from ≡ q)) ⊎ (((j ≡ q) × (from ≡ p)) ⊎ (¬ (j ≡ p) × ¬ (j ≡ q) × (from ≡ j)))

moved : (xs : List (List ℕ)) (p q j : ℕ) → p < length xs → q < length xs → j < length xs → Moved xs p q j
moved xs p q j p_in q_in j_in = go (ℕ_discrete j p) (ℕ_discrete j q)
  where
    go : Dec (j ≡ p) → Dec (j ≡ q) → Moved xs p q j
    go (yes e) d = record {
      from = q;
      from_in = q_in;
      is = ap (λ i. get_or (swap xs p q) i []) e ∙ swap_here xs p q p_in q_in;
      back = swap_there xs p q p_in q_in ∙ ap (λ i. get_or xs i []) (sym e);
      which = inl (e, refl);
    }
    go (no n) (yes e) = record {
      from = p;
      from_in = p_in;
      is = ap (λ i. get_or (swap xs p q) i []) e ∙ swap_there xs p q p_in q_in;
      back = swap_here xs p q p_in q_in ∙ ap (λ i. get_or xs i []) (sym e);
      which = inr (inl (e, refl));
    }
    go (no n) (no m) = record {
      from = j;
      from_in = j_in;
      is = swap_other xs p q p_in q_in j n m;
      back = swap_other xs p q p_in q_in j n m;
      which = inr (inr (n, m, refl));
    }

moved_injective : (p q i j f g : ℕ) → f ≡ g
    → ((i ≡ p) × (f ≡ q)) ⊎ (((i ≡ q) × (f ≡ p)) ⊎ (¬ (i ≡ p) × ¬ (i ≡ q) × (f ≡ i)))
    → ((j ≡ p) × (g ≡ q)) ⊎ (((j ≡ q) × (g ≡ p)) ⊎ (¬ (j ≡ p) × ¬ (j ≡ q) × (g ≡ j))) → i ≡ j
moved_injective p q i j f g e (inl a) (inl b) = a.0 ∙ sym b.0
moved_injective p q i j f g e (inl a) (inr (inl b)) = a.0 ∙ sym b.1 ∙ sym e ∙ a.1 ∙ sym b.0
moved_injective p q i j f g e (inl a) (inr (inr b)) = absurd (b.1 (sym b.2 ∙ sym e ∙ a.1))
moved_injective p q i j f g e (inr (inl a)) (inl b) = a.0 ∙ sym b.1 ∙ sym e ∙ a.1 ∙ sym b.0
moved_injective p q i j f g e (inr (inl a)) (inr (inl b)) = a.0 ∙ sym b.0
moved_injective p q i j f g e (inr (inl a)) (inr (inr b)) = absurd (b.0 (sym b.2 ∙ sym e ∙ a.1))
moved_injective p q i j f g e (inr (inr a)) (inl b) = absurd (a.1 (sym a.2 ∙ e ∙ b.1))
moved_injective p q i j f g e (inr (inr a)) (inr (inl b)) = absurd (a.0 (sym a.2 ∙ e ∙ b.1))
moved_injective p q i j f g e (inr (inr a)) (inr (inr b)) = sym a.2 ∙ e ∙ b.2

-- the same members, each once
pub record IsReordered (xs ys : List (List ℕ)) : Type 0 where
  pub forth : (x : List ℕ) → In x xs → In x ys
  pub back : (x : List ℕ) → In x ys → In x xs
  pub distinct : IsDistinct ys

reordered_swap : (xs ys : List (List ℕ)) (p q : ℕ) → p < length ys → q < length ys → IsReordered xs ys
    → IsReordered xs (swap ys p q)
reordered_swap xs ys p q p_in q_in h = record {
  forth = λ x i.
      let r = in_at x ys (h.forth x i) in
      let m = moved ys p q r.0 p_in q_in r.1 in
      subst (λ y. In y (swap ys p q)) (m.back ∙ r.2)
      (at_in (swap ys p q) m.from (let l = m.from_in in let s = length_swap ys p q p_in q_in in omega arith));
  back = λ x i.
      let r = in_at x (swap ys p q) i in
      let m = moved ys p q r.0 p_in q_in
      (let l : r.0 < length (swap ys p q) = r.1 in let s = length_swap ys p q p_in q_in in omega arith) in
      h.back x (subst (λ y. In y ys) (sym m.is ∙ r.2) (at_in ys m.from m.from_in));
  distinct = at_distinct (swap ys p q) (λ i j l m e.
      let s = length_swap ys p q p_in q_in in
      let a = moved ys p q i p_in q_in (omega arith) in
      let b = moved ys p q j p_in q_in (omega arith) in
      moved_injective p q i j a.from b.from
      (distinct_at ys h.distinct a.from b.from a.from_in b.from_in (sym a.is ∙ e ∙ b.is)) a.which b.which);
}

pub reordered : (xs ys : List (List ℕ)) → IsDistinct xs → IsPermutation xs ys → IsReordered xs ys
reordered xs ys distinct p =
    IsPermutation-keeps xs (IsReordered xs) (record { forth = λ x i. i; back = λ x i. i; distinct = distinct })
    (λ l i j i_in j_in h. reordered_swap xs l i j i_in j_in h) ys p

-- what isn't before is after, or the same

cmp_same : (y x : ℕ) → y ≡ x → nat_cmp y x ≡ Equal
cmp_same y x e = grind (arith, nat_tests)

cmp_less : (y x : ℕ) → y < x → nat_cmp y x ≡ Less
cmp_less y x l = grind (arith, nat_tests)

before_of_cmp : (xs ys : List ℕ) → is_lt (slice_cmp nat_cmp ys xs) ≡ false → xs ≢ ys → IsBeforeVector xs ys
before_of_cmp [] [] e ne = ne refl
before_of_cmp [] (y ∷ ys) e ne = tt
before_of_cmp (x ∷ xs) [] e ne = (cc)
before_of_cmp (x ∷ xs) (y ∷ ys) e ne = go (ℕ_discrete x y) (dec_le (suc x) y) (before_of_cmp xs ys)
  where
    go : Dec (x ≡ y) → Dec (x < y) → (is_lt (slice_cmp nat_cmp ys xs) ≡ false → xs ≢ ys → IsBeforeVector xs ys)
        → (x < y) ⊎ ((x ≡ y) × IsBeforeVector xs ys)
    go (yes s) d rest =
        inr (
          s,
          rest (sym (ap (λ o. is_lt (ordering_then o (slice_cmp nat_cmp ys xs))) (cmp_same y x (sym s))) ∙ e)
              (λ f. ne (ap₂ ◌∷◌ s f)),
        )
    go (no n) (yes l) rest = inl l
    go (no n) (no m) rest =
        let f : true ≡ false
        = sym (ap (λ o. is_lt (ordering_then o (slice_cmp nat_cmp ys xs))) (cmp_less y x (omega arith))) ∙ e in
        absurd ((cc))

-- sorted vectors of different codes stand in ascending order
pub ascending : (ts : List (Vec ℕ)) → IsSorted (λ x y. slice_cmp nat_cmp x.items y.items) ts
    → IsDistinct (elements_of ts) → AreAscendingVectors (elements_of ts)
ascending ts sorted distinct = record { next = λ i less. go ts sorted distinct i less }
  where
    go : (ts : List (Vec ℕ)) → IsSorted (λ x y. slice_cmp nat_cmp x.items y.items) ts → IsDistinct (elements_of ts)
        → (i : ℕ) → suc i < length (elements_of ts)
        → IsBeforeVector (get_or (elements_of ts) i []) (get_or (elements_of ts) (suc i) [])
    go [] sorted distinct i less = absurd (omega arith)
    go (t ∷ ts) sorted distinct i less =
        let size = length-map (t ∷ ts) (λ v. v.items) in
        let l : suc i < length (t ∷ ts) = omega arith in
        let here = get_or-map (λ v. v.items) (t ∷ ts) i t [] (omega arith) in
        let there = get_or-map (λ v. v.items) (t ∷ ts) (suc i) t [] l in
        before_of_cmp _ _
        (ap₂ (λ x y. is_lt (slice_cmp nat_cmp x y)) (there ∙ ap (λ n. (get_or (t ∷ ts) n t).items) (sym (add-one i)))
        here
        ∙ sorted i t (omega arith) (subst (λ n. n < length (t ∷ ts)) (sym (add-one i)) l))
        (λ e. let f : i ≡ suc i = distinct_at (elements_of (t ∷ ts)) distinct i (suc i) (omega arith) less e in absurd
        (omega arith))
