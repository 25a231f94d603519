-- Sums of sizes and of degrees, and ascending sequences of degrees that are told by their sizes.
use Rattle.std.proofs.Common.{◌≡◌, ℕ, zero, suc, ◌+◌, ◌<◌, ◌≤◌, ◌⊎◌, inl, inr, ℤ, pos, negsuc, ◌+ℤ◌, ◌-ℤ◌, ◌≤ℤ◌, ◌<ℤ◌, refl, sym, ap, subst, arith}
use Rattle.std.proofs.lemmas.Int.{ints, by_lt_z}
use Rattle.reduced_basis_theory.specs.Degree.{size, total, degree_sum, up_to, count_up_to, HasAscendingDegrees}
use Rattle.reduced_basis_theory.proofs.Degree.{size_is, size_cases}
use Rattle.reduced_basis_theory.proofs.Count.{sizes}

-- the integer m is at least each d i - 1
abbrev pub IsLarge : ℕ → (ℕ → ℤ) → ℤ → Type 0
IsLarge n d m = (i : ℕ) → i < n → d i ≤ℤ (m +ℤ pos 1)

pub large_weaker : (n : ℕ) (d : ℕ → ℤ) (m l : ℤ) → m ≤ℤ l → IsLarge n d m → IsLarge n d l
large_weaker n d m l h large i b = let e = large i b in omega (arith, ints)

pub own : (x : ℤ) → (y : ℕ) × (x ≤ℤ pos y)
own (pos y) = (y, omega (arith, ints))
own (negsuc y) = (0, omega (arith, ints))

-- there is a large number
pub large : (n : ℕ) (d : ℕ → ℤ) → (m : ℕ) × IsLarge n d (pos m)
large zero d = (0, λ i l. absurd (omega arith))
large (suc n) d = go (own (d 0)) (large n (λ i. d (suc i)))
  where
    go : ((y : ℕ) × (d 0 ≤ℤ pos y)) → ((m : ℕ) × IsLarge n (λ i. d (suc i)) (pos m)) → (m : ℕ)
        × IsLarge (suc n) d (pos m)
    go (y, h) (m, f) = (y + m, all)
      where
        all : IsLarge (suc n) d (pos (y + m))
        all zero l = omega (arith, ints)
        all (suc i) l = let e = f i (omega arith) in omega (arith, ints)

pub large_for_two : (n : ℕ) (d d' : ℕ → ℤ) → (m : ℤ) × IsLarge n d m × IsLarge n d' m
large_for_two n d d' = go (large n d) (large n d')
  where
    go : ((m : ℕ) × IsLarge n d (pos m)) → ((m : ℕ) × IsLarge n d' (pos m)) → (m : ℤ) × IsLarge n d m × IsLarge n d' m
    go (a, f) (b, g) = (
      pos (a + b),
      large_weaker n d (pos a) (pos (a + b)) (omega (arith, ints)) f,
      large_weaker n d' (pos b) (pos (a + b)) (omega (arith, ints)) g,
    )

-- at a large m the sum of the sizes is n·(m + 1) less the sum of the degrees
pub total_sizes : (n : ℕ) (d : ℕ → ℤ) (m : ℤ) → IsLarge n d m
    → (pos (total n (sizes d m)) +ℤ degree_sum n d) ≡ degree_sum n (λ i. m +ℤ pos 1)
total_sizes zero d m h = omega (arith, ints)
total_sizes (suc n) d m h =
    let a = total_sizes n (λ i. d (suc i)) m (λ i l. h (suc i) (omega arith)) in
    let b = h 0 (omega arith) in
    let c = size_is (m -ℤ d 0) (omega (arith, ints)) in
    omega (arith, ints)

-- the sum of the sizes falls as the degrees rise
pub degree_sum_le : (n : ℕ) (d d' : ℕ → ℤ) (m : ℤ) → IsLarge n d m → IsLarge n d' m
    → total n (sizes d m) ≤ total n (sizes d' m) → degree_sum n d' ≤ℤ degree_sum n d
degree_sum_le n d d' m h h' le =
    let a = total_sizes n d m h in
    let b = total_sizes n d' m h' in
    omega (arith, ints)

pub degree_sum_eq : (n : ℕ) (d d' : ℕ → ℤ) (m : ℤ) → IsLarge n d m → IsLarge n d' m
    → degree_sum n d ≡ degree_sum n d' → total n (sizes d m) ≡ total n (sizes d' m)
degree_sum_eq n d d' m h h' e =
    let a = total_sizes n d m h in
    let b = total_sizes n d' m h' in
    omega (arith, ints)

pub up_to_cases : (m : ℤ) → ((up_to m ≡ 1) × (pos 0 ≤ℤ m)) ⊎ ((up_to m ≡ 0) × (m <ℤ pos 0))
unfolding up_to
up_to_cases (pos n) = inl (refl, omega (arith, ints))
up_to_cases (negsuc n) = inr (refl, omega (arith, ints))

size_step : (m : ℤ) → size m ≡ up_to m + size (m -ℤ pos 1)
size_step m = go (up_to_cases m) (size_cases m) (size_cases (m -ℤ pos 1))
  where
    go : ((up_to m ≡ 1) × (pos 0 ≤ℤ m)) ⊎ ((up_to m ≡ 0) × (m <ℤ pos 0))
        → ((pos (size m) ≡ m +ℤ pos 1) × (pos 0 ≤ℤ m)) ⊎ ((size m ≡ 0) × (m <ℤ pos 0))
        → ((pos (size (m -ℤ pos 1)) ≡ (m -ℤ pos 1) +ℤ pos 1) × (pos 0 ≤ℤ (m -ℤ pos 1)))
        ⊎ ((size (m -ℤ pos 1) ≡ 0) × ((m -ℤ pos 1) <ℤ pos 0))
        → size m ≡ up_to m + size (m -ℤ pos 1)
    go (inl (a, b)) (inl (c, d)) (inl (e, f)) = omega (arith, ints)
    go (inl (a, b)) (inl (c, d)) (inr (e, f)) = omega (arith, ints)
    go (inl (a, b)) (inr (c, d)) x = absurd (omega (arith, ints))
    go (inr (a, b)) (inl (c, d)) x = absurd (omega (arith, ints))
    go (inr (a, b)) (inr (c, d)) (inl (e, f)) = absurd (omega (arith, ints))
    go (inr (a, b)) (inr (c, d)) (inr (e, f)) = omega (arith, ints)

-- the counting function is the difference of two sums of sizes
pub count_is : (n : ℕ) (d : ℕ → ℤ) (m : ℤ) → total n (sizes d m) ≡ count_up_to n d m + total n (sizes d (m -ℤ pos 1))
count_is zero d m = refl
count_is (suc n) d m =
    let a = count_is n (λ i. d (suc i)) m in
    let b = size_step (m -ℤ d 0) in
    let c : size ((m -ℤ d 0) -ℤ pos 1) ≡ size ((m -ℤ pos 1) -ℤ d 0) = ap size (omega (arith, ints)) in
    omega arith

count_none : (n : ℕ) (d : ℕ → ℤ) (m : ℤ) → ((i : ℕ) → i < n → m <ℤ d i) → count_up_to n d m ≡ 0
count_none zero d m h = refl
count_none (suc n) d m h =
    go (up_to_cases (m -ℤ d 0)) (h 0 (omega arith)) (count_none n (λ i. d (suc i)) m (λ i l. h (suc i) (omega arith)))
  where
    go : ((up_to (m -ℤ d 0) ≡ 1) × (pos 0 ≤ℤ (m -ℤ d 0))) ⊎ ((up_to (m -ℤ d 0) ≡ 0) × ((m -ℤ d 0) <ℤ pos 0)) → m <ℤ d 0
        → count_up_to n (λ i. d (suc i)) m ≡ 0 → count_up_to (suc n) d m ≡ 0
    go (inl (a, b)) c e = absurd (omega (arith, ints))
    go (inr (a, b)) c e = omega arith

count_some : (n : ℕ) (d : ℕ → ℤ) → 0 < count_up_to (suc n) d (d 0)
count_some n d = go (up_to_cases (d 0 -ℤ d 0))
  where
    go : ((up_to (d 0 -ℤ d 0) ≡ 1) × (pos 0 ≤ℤ (d 0 -ℤ d 0))) ⊎ ((up_to (d 0 -ℤ d 0) ≡ 0) × ((d 0 -ℤ d 0) <ℤ pos 0))
        → 0 < count_up_to (suc n) d (d 0)
    go (inl (a, b)) = omega arith
    go (inr (a, b)) = absurd (omega (arith, ints))

first_le : (n : ℕ) (d d' : ℕ → ℤ) → HasAscendingDegrees (suc n) d'
    → ((m : ℤ) → count_up_to (suc n) d m ≡ count_up_to (suc n) d' m) → d' 0 ≤ℤ d 0
first_le n d d' up same = by_lt_z (d 0) (d' 0) (λ l. absurd (no l)) (λ h. h)
  where
    no : d 0 <ℤ d' 0 → ⊥
    no l =
        let a = count_some n d in
        let c = count_none (suc n) d' (d 0) (λ i h. let e = up 0 i (omega arith) h in omega (arith, ints)) in
        let f : 0 < count_up_to (suc n) d' (d 0) = subst (λ w. 0 < w) (same (d 0)) a in
        let g : 0 < 0 = subst (λ w. 0 < w) c f in
        omega arith

cancel : (x y a b : ℕ) → x + a ≡ y + b → x ≡ y → a ≡ b
cancel x y a b e f = omega arith

-- two ascending sequences with the same counting function are the same
pub ascending_same : (n : ℕ) (d d' : ℕ → ℤ) → HasAscendingDegrees n d → HasAscendingDegrees n d'
    → ((m : ℤ) → count_up_to n d m ≡ count_up_to n d' m) → (i : ℕ) → i < n → d i ≡ d' i
ascending_same zero d d' up up' same i l = absurd (omega arith)
ascending_same (suc n) d d' up up' same i l =
    go i l (ascending_same n (λ i. d (suc i)) (λ i. d' (suc i))
    (λ i j h b. up (suc i) (suc j) (omega arith) (omega arith))
    (λ i j h b. up' (suc i) (suc j) (omega arith) (omega arith))
    (λ m. cancel _ _ _ _ (same m) (ap (λ w. up_to (m -ℤ w)) head)))
  where
    head : d 0 ≡ d' 0
    head = let a = first_le n d d' up' same in let b = first_le n d' d up (λ m. sym (same m)) in omega (arith, ints)

    go : (i : ℕ) → i < suc n → ((i : ℕ) → i < n → d (suc i) ≡ d' (suc i)) → d i ≡ d' i
    go zero l ih = head
    go (suc i) l ih = ih i (omega arith)

pub same_count : (n : ℕ) (d d' : ℕ → ℤ) (m : ℤ) → total n (sizes d m) ≡ total n (sizes d' m)
    → total n (sizes d (m -ℤ pos 1)) ≡ total n (sizes d' (m -ℤ pos 1)) → count_up_to n d m ≡ count_up_to n d' m
same_count n d d' m e f = let a = count_is n d m in let b = count_is n d' m in omega arith
