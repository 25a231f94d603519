-- Lists in the order of their members: what putting one more into them keeps, and another order of the list.
use Rattle.std.proofs.Common.{◌≡◌, ℕ, zero, suc, ◌<◌, ◌≤◌, ◌⊎◌, inl, inr, List, [], ◌∷◌, length, get_or, refl, sym, ap, ◌∙◌, subst, arith, All}
use Rattle.std.specs.List.{insert, swap, AllPairs}
use Rattle.std.specs.List.Sorted.{IsPermutation}
use Rattle.std.proofs.lemmas.Bool.{cases_lt, cases_eq}
use Rattle.std.proofs.lemmas.List.Kept.{AllPairs-cons}
use Rattle.std.proofs.lemmas.List.Edits.{length-swap, swapped_from_swap}
use Rattle.std.proofs.lemmas.List.Elements.{All-nil, All-cons}
use Rattle.std.proofs.lemmas.List.Sorted.{IsPermutation-insert, IsPermutation-keeps, All-permutation}

-- ---- pairs of members of a list

module _ {X : Type 0} (R : X → X → Type 0) where
  pairs_head : (x : X) (xs : List X) → AllPairs R (x ∷ xs) → All (R x) xs
  pairs_head x xs h k d l = h 0 (suc k) d (omega arith) (omega arith)

  pairs_tail : (x : X) (xs : List X) → AllPairs R (x ∷ xs) → AllPairs R xs
  pairs_tail x xs h i j d l m = h (suc i) (suc j) d (omega arith) (omega arith)

  all_insert : (P : X → Type 0) (xs : List X) (i : ℕ) (y : X) → P y → All P xs → All P (insert xs i y)
  all_insert P xs i y here all =
      All-permutation P (y ∷ xs) (insert xs i y) (IsPermutation-insert xs i y) (All-cons P y xs here all)

  -- one more between those that may stand before it and those that may stand behind it
  pub pairs_insert : (xs : List X) (i : ℕ) (y : X) → AllPairs R xs
      → ((j : ℕ) (d : X) → j < i → j < length xs → R (get_or xs j d) y)
      → ((j : ℕ) (d : X) → i ≤ j → j < length xs → R y (get_or xs j d)) → AllPairs R (insert xs i y)
  pairs_insert xs zero y pairs behind ahead = AllPairs-cons R y xs (λ j d l. ahead j d (omega arith) l) pairs
  pairs_insert [] (suc i) y pairs behind ahead = AllPairs-cons R y [] (All-nil (R y)) pairs
  pairs_insert (x ∷ xs) (suc i) y pairs behind ahead =
      AllPairs-cons R x (insert xs i y)
      (all_insert (R x) xs i y (behind 0 x (omega arith) (omega arith)) (pairs_head x xs pairs))
      (pairs_insert xs i y (pairs_tail x xs pairs) (λ j d l m. behind (suc j) d (omega arith) (omega arith))
      (λ j d l m. ahead (suc j) d (omega arith) (omega arith)))

  -- in another order, where the order of two doesn't matter
  module _ (symmetric : (x y : X) → R x y → R y x) where
    abbrev Apart : List X → Type 0
    Apart xs = (i j : ℕ) (d : X) → ¬ (i ≡ j) → i < length xs → j < length xs → R (get_or xs i d) (get_or xs j d)

    apart_of : (xs : List X) → AllPairs R xs → Apart xs
    apart_of xs h i j d ne l m = go (cases_lt i j)
      where
        go : (i < j) ⊎ (j ≤ i) → R (get_or xs i d) (get_or xs j d)
        go (inl less) = h i j d less m
        go (inr least) = symmetric _ _ (h j i d (omega arith) l)

    -- where the member at a position stood before two were exchanged
    abbrev origin : (a b n : ℕ) → (n ≡ a) ⊎ (¬ (n ≡ a)) → (n ≡ b) ⊎ (¬ (n ≡ b)) → ℕ
    origin a b n (inl e) c = b
    origin a b n (inr e) (inl f) = a
    origin a b n (inr e) (inr f) = n

    origin_below : (a b n m : ℕ) (c : (n ≡ a) ⊎ (¬ (n ≡ a))) (d : (n ≡ b) ⊎ (¬ (n ≡ b))) → a < m → b < m → n < m
        → origin a b n c d < m
    origin_below a b n m (inl e) d l l' l'' = l'
    origin_below a b n m (inr e) (inl f) l l' l'' = l
    origin_below a b n m (inr e) (inr f) l l' l'' = l''

    origin_differs : (a b i j : ℕ) (c : (i ≡ a) ⊎ (¬ (i ≡ a))) (d : (i ≡ b) ⊎ (¬ (i ≡ b)))
        (c' : (j ≡ a) ⊎ (¬ (j ≡ a))) (d' : (j ≡ b) ⊎ (¬ (j ≡ b))) → ¬ (i ≡ j)
        → ¬ (origin a b i c d ≡ origin a b j c' d')
    origin_differs a b i j (inl e) d (inl e') d' ne o = omega arith
    origin_differs a b i j (inl e) d (inr e') (inl f') ne o = omega arith
    origin_differs a b i j (inl e) d (inr e') (inr f') ne o = omega arith
    origin_differs a b i j (inr e) (inl f) (inl e') d' ne o = omega arith
    origin_differs a b i j (inr e) (inl f) (inr e') (inl f') ne o = omega arith
    origin_differs a b i j (inr e) (inl f) (inr e') (inr f') ne o = omega arith
    origin_differs a b i j (inr e) (inr f) (inl e') d' ne o = omega arith
    origin_differs a b i j (inr e) (inr f) (inr e') (inl f') ne o = omega arith
    origin_differs a b i j (inr e) (inr f) (inr e') (inr f') ne o = ne o

    origin_is : (xs : List X) (a b : ℕ) (x : X) → a < length xs → b < length xs → (n : ℕ)
        (c : (n ≡ a) ⊎ (¬ (n ≡ a))) (d : (n ≡ b) ⊎ (¬ (n ≡ b)))
        → get_or (swap xs a b) n x ≡ get_or xs (origin a b n c d) x
    origin_is xs a b x a_in b_in n (inl e) d =
        ap (λ m. get_or (swap xs a b) m x) e ∙ (swapped_from_swap xs (swap xs a b) a b x a_in b_in refl).0
    origin_is xs a b x a_in b_in n (inr e) (inl f) =
        ap (λ m. get_or (swap xs a b) m x) f ∙ (swapped_from_swap xs (swap xs a b) a b x a_in b_in refl).1
    origin_is xs a b x a_in b_in n (inr e) (inr f) =
        (swapped_from_swap xs (swap xs a b) a b x a_in b_in refl).2 n e f

    apart_swap : (xs : List X) (a b : ℕ) → a < length xs → b < length xs → Apart xs → Apart (swap xs a b)
    apart_swap xs a b a_in b_in h i j d ne l m =
        let size = length-swap xs a b in
        let c = cases_eq i a in
        let c' = cases_eq i b in
        let e = cases_eq j a in
        let e' = cases_eq j b in
        subst (λ y. R y (get_or (swap xs a b) j d)) (sym (origin_is xs a b d a_in b_in i c c'))
        (subst (R (get_or xs (origin a b i c c') d)) (sym (origin_is xs a b d a_in b_in j e e'))
        (h (origin a b i c c') (origin a b j e e') d (origin_differs a b i j c c' e e' ne)
        (origin_below a b i (length xs) c c' a_in b_in (omega arith))
        (origin_below a b j (length xs) e e' a_in b_in (omega arith))))

    pub pairs_permutation : (xs ys : List X) → IsPermutation xs ys → AllPairs R xs → AllPairs R ys
    pairs_permutation xs ys p h i j d less within =
        IsPermutation-keeps xs Apart (apart_of xs h) (λ l a b a_in b_in kept. apart_swap l a b a_in b_in kept) ys p
        i j d (omega arith) (omega arith) within

-- ---- lists in which no member comes before an earlier one

module _ {X : Type 0} (B : X → X → Type 0) (irreflexive : (x y : X) → x ≡ y → ¬ B x y)
    (transitive : (x y z : X) → B x y → B y z → B x z) where
  -- one more behind those that it doesn't come before, and ahead of one that it comes before
  pub ascending_insert : (xs : List X) (i : ℕ) (y : X) → AllPairs (λ a b. ¬ B b a) xs
      → ((j : ℕ) (d : X) → j < i → j < length xs → ¬ B y (get_or xs j d))
      → ((d : X) → i < length xs → B y (get_or xs i d)) → AllPairs (λ a b. ¬ B b a) (insert xs i y)
  ascending_insert xs i y pairs behind ahead =
      pairs_insert (λ a b. ¬ B b a) xs i y pairs behind
      (λ j d l within h. above j d l within (ahead d (omega arith)) h (cases_lt i j))
    where
      above : (j : ℕ) (d : X) → i ≤ j → j < length xs → B y (get_or xs i d) → B (get_or xs j d) y
          → (i < j) ⊎ (j ≤ i) → ⊥
      above j d l within b h (inl m) = pairs i j d m within (transitive (get_or xs j d) y (get_or xs i d) h b)
      above j d l within b h (inr m) =
          let e : j ≡ i = omega arith in
          irreflexive (get_or xs j d) (get_or xs i d) (ap (λ n. get_or xs n d) e)
          (transitive (get_or xs j d) y (get_or xs i d) h b)
