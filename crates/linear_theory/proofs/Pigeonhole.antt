-- Different numbers below n are at most n, and n of them are all the numbers below n, in some order.
use Rattle.std.proofs.Common.{◌≡◌, ℕ, zero, suc, ◌<◌, ◌≤◌, ◌⊎◌, inl, inr, List, [], ◌∷◌, length, All, refl, sym, ◌∙◌, ap, ap₂, subst, arith}
use native.Mathlib.Decide.{ℕ_discrete}
use Rattle.std.proofs.lemmas.List.Elements.{All-nil, All-cons, All-head}
use Rattle.ring_theory.specs.Monoid.{CommMonoid}
use Rattle.linear_theory.specs.Distinct.{Distinct, product_over, product_below}
use Rattle.linear_theory.specs.Lists.{entry, remove}
use Rattle.linear_theory.proofs.Lists.{length_remove, All_remove, All_entry, All_both}

-- without a member the list is distinct, and the others are different from that member
distinct_remove : {X : Type 0} (d : X) (xs : List X) (i : ℕ) → i < length xs → Distinct xs
    → Distinct (remove i xs) × All (λ y. ¬ (y ≡ entry d xs i)) (remove i xs)
distinct_remove d [] i l h = absurd (omega arith)
distinct_remove d (x ∷ xs) zero l h = (h.1, h.0)
distinct_remove d (x ∷ xs) (suc i) l h =
    let k = distinct_remove d xs i (omega arith) h.1 in (
      (All_remove (λ y. ¬ (y ≡ x)) i xs h.0, k.0),
      All-cons (λ y. ¬ (y ≡ entry d xs i)) x (remove i xs)
          (λ e. All_entry (λ y. ¬ (y ≡ x)) d xs i h.0 (omega arith) (sym e)) k.1,
    )

-- the position of a number in a list, or it is not there
position_of : (n : ℕ) (xs : List ℕ) → ((i : ℕ) × (i < length xs) × (entry 0 xs i ≡ n)) ⊎ All (λ y. ¬ (y ≡ n)) xs
position_of n [] = inr (All-nil (λ y. ¬ (y ≡ n)))
position_of n (x ∷ xs) = go (ℕ_discrete x n) (position_of n xs)
  where
    go : Dec (x ≡ n) → ((i : ℕ) × (i < length xs) × (entry 0 xs i ≡ n)) ⊎ All (λ y. ¬ (y ≡ n)) xs
        → ((i : ℕ) × (i < suc (length xs)) × (entry 0 (x ∷ xs) i ≡ n)) ⊎ All (λ y. ¬ (y ≡ n)) (x ∷ xs)
    go (yes e) r = inl (0, omega arith, e)
    go (no ne) (inl p) = let l : p.0 < length xs = p.1 in inl (suc p.0, omega arith, p.2)
    go (no ne) (inr h) = inr (All-cons (λ y. ¬ (y ≡ n)) x xs ne h)

module _ {A : Type 0} (M : CommMonoid A) where
  infixl 70 ◌·◌
  open M use {𝟙, ◌·◌}

  product_remove : {I : Type 0} (d : I) (g : I → A) (xs : List I) (i : ℕ) → i < length xs
      → product_over M xs g ≡ g (entry d xs i) · product_over M (remove i xs) g
  product_remove d g [] i l = absurd (omega arith)
  product_remove d g (x ∷ xs) zero l = refl
  product_remove d g (x ∷ xs) (suc i) l =
      ap (λ y. g x · y) (product_remove d g xs i (omega arith)) ∙ sym (M.assoc _ _ _)
      ∙ ap (λ y. y · product_over M (remove i xs) g) (M.comm _ _) ∙ M.assoc _ _ _

-- smaller numbers, once n is not among them
smaller : (n : ℕ) (xs : List ℕ) → All (λ y. y < suc n) xs → All (λ y. ¬ (y ≡ n)) xs → All (λ y. y < n) xs
smaller n = All_both (λ y. y < suc n) (λ y. ¬ (y ≡ n)) (λ y. y < n) (λ y l ne. omega arith)

-- what is left of different numbers below n + 1 without n
left_below : (n : ℕ) (xs : List ℕ) (i : ℕ) → i < length xs → entry 0 xs i ≡ n → Distinct xs → All (λ y. y < suc n) xs
    → Distinct (remove i xs) × All (λ y. y < n) (remove i xs)
left_below n xs i l e apart h =
    let k = distinct_remove 0 xs i l apart in (
      k.0,
      smaller n (remove i xs) (All_remove (λ y. y < suc n) i xs h)
          (subst (λ m. All (λ y. ¬ (y ≡ m)) (remove i xs)) e k.1),
    )

pub distinct_below : (n : ℕ) (xs : List ℕ) → Distinct xs → All (λ y. y < n) xs → length xs ≤ n
distinct_below zero [] apart h = omega arith
distinct_below zero (x ∷ xs) apart h = let l : x < 0 = All-head (λ y. y < 0) x xs h in absurd (omega arith)
distinct_below (suc n) xs apart h = go (position_of n xs) (distinct_below n)
  where
    go : ((i : ℕ) × (i < length xs) × (entry 0 xs i ≡ n)) ⊎ All (λ y. ¬ (y ≡ n)) xs
        → ((ys : List ℕ) → Distinct ys → All (λ y. y < n) ys → length ys ≤ n) → length xs ≤ suc n
    go (inl p) ih =
        let k = left_below n xs p.0 p.1 p.2 apart h in
        let l : length (remove p.0 xs) ≤ n = ih (remove p.0 xs) k.0 k.1 in
        omega (arith, length_remove p.0 xs p.1)
    go (inr none) ih = let l : length xs ≤ n = ih xs apart (smaller n xs h none) in omega arith

-- and their product is the product over the numbers below n
pub product_of_all : {A : Type 0} (M : CommMonoid A) (g : ℕ → A) (n : ℕ) (xs : List ℕ) → Distinct xs
    → All (λ y. y < n) xs → length xs ≡ n → product_over M xs g ≡ product_below M n g
product_of_all M g zero [] apart h e = refl
product_of_all M g zero (x ∷ xs) apart h e = absurd (omega arith)
product_of_all M g (suc n) xs apart h e = go (position_of n xs) (product_of_all M g n)
  where
    go : ((i : ℕ) × (i < length xs) × (entry 0 xs i ≡ n)) ⊎ All (λ y. ¬ (y ≡ n)) xs
        → ((ys : List ℕ) → Distinct ys → All (λ y. y < n) ys → length ys ≡ n
        → product_over M ys g ≡ product_below M n g)
        → product_over M xs g ≡ M.◌·◌ (g n) (product_below M n g)
    go (inl p) ih =
        let k = left_below n xs p.0 p.1 p.2 apart h in
        product_remove M 0 g xs p.0 p.1
        ∙ ap₂ M.◌·◌ (ap g p.2) (ih (remove p.0 xs) k.0 k.1 (omega (arith, length_remove p.0 xs p.1)))
    go (inr none) ih =
        let l : length xs ≤ n = distinct_below n xs apart (smaller n xs h none) in absurd (omega arith)
