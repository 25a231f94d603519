-- The sum of the max(0, d - 1) over natural numbers d of a bounded sum.
use Rattle.std.proofs.Common.{◌≡◌, ℕ, zero, suc, ◌+◌, ◌/◌, ◌<◌, ◌≤◌, List, [], ◌∷◌, length, get_or, All, refl, sym, ◌∙◌, ap, ap₂, subst, arith, add-one, to_z, of_z}
use Rattle.std.proofs.lemmas.Int.{ints, to_z-of_z}
use lib.IntN.{nat_abs}
use mir.Syntax.{w64}
use mir.Val.{SFits}
use Rattle.std.proofs.Math.IntN.{ℤ, pos, negsuc, ◌+ℤ◌, ◌-ℤ◌}
use Rattle.std.specs.Prelude.{◌≤ℤ◌}
use Rattle.linear_theory.specs.Lists.{entry}
use Rattle.reduced_basis_theory.specs.Degree.{size, total, degree_sum, genus_sum}

pub total_more : (n : ℕ) (l : ℕ → ℕ) → total (suc n) l ≡ total n l + l n
total_more zero l = omega arith
total_more (suc n) l = let r = total_more n (λ i. l (suc i)) in omega (arith, r)

pub total_up : (n m : ℕ) (l : ℕ → ℕ) → n ≤ m → total n l ≤ total m l
total_up zero m l h = omega arith
total_up (suc n) zero l h = absurd (omega arith)
total_up (suc n) (suc m) l h = let r = total_up n m (λ i. l (suc i)) (omega arith) in omega (arith, r)

size_pos : (d : ℤ) (m : ℕ) → d ≡ pos m → size d ≡ suc m
unfolding size
size_pos d m e = ap size e

size_neg : (d : ℤ) (m : ℕ) → d ≡ negsuc m → size d ≡ 0
unfolding size
size_neg d m e = ap size e

-- max(0, d - 1)
pub excess_is : (d : ℤ) (x : ℕ) → (pos 1 ≤ℤ d → pos x ≡ d -ℤ pos 1) → (d ≤ℤ pos 1 → x ≡ 0) → size (d -ℤ pos 2) ≡ x
excess_is (pos zero) x h g = size_neg (pos 0 -ℤ pos 2) 1 (omega (arith, ints)) ∙ sym (g (omega (arith, ints)))
excess_is (pos (suc zero)) x h g = size_neg (pos 1 -ℤ pos 2) 0 (omega (arith, ints)) ∙ sym (g (omega (arith, ints)))
excess_is (pos (suc (suc n))) x h g =
    let e : pos x ≡ pos (suc (suc n)) -ℤ pos 1 = h (omega (arith, ints)) in
    let s = size_pos (pos (suc (suc n)) -ℤ pos 2) n (omega (arith, ints)) in
    omega (arith, ints, e, s)
excess_is (negsuc n) x h g =
    size_neg (negsuc n -ℤ pos 2) (n + 2) (omega (arith, ints)) ∙ sym (g (omega (arith, ints)))

pub excess_at_most : (d : ℤ) → pos 0 ≤ℤ d → pos (size (d -ℤ pos 2)) ≤ℤ d
excess_at_most (pos zero) h = let s = size_neg (pos 0 -ℤ pos 2) 1 (omega (arith, ints)) in omega (arith, ints, s)
excess_at_most (pos (suc zero)) h = let s = size_neg (pos 1 -ℤ pos 2) 0 (omega (arith, ints)) in omega (arith, ints, s)
excess_at_most (pos (suc (suc n))) h =
    let s = size_pos (pos (suc (suc n)) -ℤ pos 2) n (omega (arith, ints)) in omega (arith, ints, s)
excess_at_most (negsuc n) h = absurd (omega (arith, ints))

pub genus_at_most : (n : ℕ) (d : ℕ → ℤ) → ((i : ℕ) → i < n → pos 0 ≤ℤ d i) → pos (genus_sum n d) ≤ℤ degree_sum n d
genus_at_most zero d h = omega (arith, ints)
genus_at_most (suc n) d h =
    let r = genus_at_most n (λ i. d (suc i)) (λ i l. h (suc i) (omega arith)) in
    let s = excess_at_most (d 0) (h 0 (omega arith)) in
    omega (arith, ints, r, s)

-- the sum of degrees by two numbers of at most 0
pub small_sum : (s a b : ℤ) (m : ℕ) → s ≡ (a +ℤ b) +ℤ pos (m / 2) → a ≤ℤ pos 0 → b ≤ℤ pos 0 → m ≤ 224 → s ≤ℤ pos 112
small_sum s a b m e l l' h = omega (arith, ints, e, l, l', h)

sum_nonnegative : (n : ℕ) (d : ℕ → ℤ) → ((i : ℕ) → i < n → pos 0 ≤ℤ d i) → pos 0 ≤ℤ degree_sum n d
sum_nonnegative zero d h = omega (arith, ints)
sum_nonnegative (suc n) d h =
    let r = sum_nonnegative n (λ i. d (suc i)) (λ i l. h (suc i) (omega arith)) in
    let s = h 0 (omega arith) in
    omega (arith, ints, r, s)

pub member_at_most : (n : ℕ) (d : ℕ → ℤ) → ((i : ℕ) → i < n → pos 0 ≤ℤ d i) → (i : ℕ) → i < n → d i ≤ℤ degree_sum n d
member_at_most zero d h i l = absurd (omega arith)
member_at_most (suc n) d h zero l =
    let r = sum_nonnegative n (λ i. d (suc i)) (λ i l. h (suc i) (omega arith)) in omega (arith, ints, r)
member_at_most (suc n) d h (suc i) l =
    let r = member_at_most n (λ i. d (suc i)) (λ i l. h (suc i) (omega arith)) i (omega arith) in
    let s = h 0 (omega arith) in
    omega (arith, ints, r, s)

-- the members of a list by their numbers
pub entry_is : (ds : List ℤ) (i : ℕ) → entry (pos 0) ds i ≡ get_or ds i (pos 0)
entry_is [] i = refl
entry_is (d ∷ ds) zero = refl
entry_is (d ∷ ds) (suc i) = entry_is ds i

module _ (ds : List ℤ) (nonnegative : All (λ d. pos 0 ≤ℤ d) ds)
    (small : degree_sum (length ds) (entry (pos 0) ds) ≤ℤ pos 112) where
  entries : (i : ℕ) → i < length ds → pos 0 ≤ℤ entry (pos 0) ds i
  entries i l = subst (λ d. pos 0 ≤ℤ d) (sym (entry_is ds i)) (nonnegative i (pos 0) l)

  pub member_small : (i : ℕ) → i < length ds → get_or ds i (pos 0) ≤ℤ pos 112
  member_small i l =
      let a = member_at_most (length ds) (entry (pos 0) ds) entries i l in
      let b = subst (λ d. d ≤ℤ degree_sum (length ds) (entry (pos 0) ds)) (entry_is ds i) a in
      omega (arith, ints, b, small)

  -- one more of them
  pub excess_more : (i sum x : ℕ) → i < length ds → sum ≡ genus_sum i (entry (pos 0) ds)
      → x ≡ size (get_or ds i (pos 0) -ℤ pos 2) → sum + x ≡ genus_sum (i + 1) (entry (pos 0) ds)
  excess_more i sum x l e g =
      ap₂ ◌+◌ e (g ∙ ap (λ d. size (d -ℤ pos 2)) (sym (entry_is ds i)))
      ∙ sym (total_more i (λ j. size (entry (pos 0) ds j -ℤ pos 2)))
      ∙ ap (λ n. genus_sum n (entry (pos 0) ds)) (sym (add-one i))

  pub excess_small : (i sum x : ℕ) → i < length ds → sum ≡ genus_sum i (entry (pos 0) ds)
      → x ≡ size (get_or ds i (pos 0) -ℤ pos 2) → sum + x ≤ 112
  excess_small i sum x l e g =
      let m = excess_more i sum x l e g in
      let u = total_up (i + 1) (length ds) (λ j. size (entry (pos 0) ds j -ℤ pos 2)) (omega arith) in
      let v = genus_at_most (length ds) (entry (pos 0) ds) entries in
      omega (arith, ints, m, u, v, small)

fits_small : (x : ℤ) → pos 0 ≤ℤ x → x ≤ℤ pos 112 → SFits w64 x
fits_small (pos n) h l = record { sfits = let m : n ≤ 112 = omega (arith, ints, l) in omega (arith, m) }
fits_small (negsuc n) h l = absurd (omega (arith, ints, h))

pub read_is : (x : ℤ) → pos 0 ≤ℤ x → x ≤ℤ pos 112 → to_z w64 (of_z w64 x) ≡ x
read_is x h l = to_z-of_z w64 x (fits_small x h l)

abs_is : (d : ℤ) → pos 2 ≤ℤ d → nat_abs (d -ℤ pos 1) ≡ size (d -ℤ pos 2)
abs_is (pos zero) h = absurd (omega (arith, ints))
abs_is (pos (suc zero)) h = absurd (omega (arith, ints))
abs_is (pos (suc (suc n))) h =
    let e : pos (suc (suc n)) -ℤ pos 1 ≡ pos (suc n) = omega (arith, ints) in
    ap nat_abs e ∙ sym (size_pos (pos (suc (suc n)) -ℤ pos 2) n (omega (arith, ints)))
abs_is (negsuc n) h = absurd (omega (arith, ints))

pub less_is : (d : ℤ) → pos 2 ≤ℤ d → d ≤ℤ pos 112
    → nat_abs (to_z w64 (of_z w64 (to_z w64 (of_z w64 d) -ℤ pos 1))) ≡ size (d -ℤ pos 2)
less_is d h l =
    ap (λ y. nat_abs (to_z w64 (of_z w64 (y -ℤ pos 1)))) (read_is d (omega (arith, ints, h)) l)
    ∙ ap nat_abs (read_is (d -ℤ pos 1) (omega (arith, ints, h)) (omega (arith, ints, l))) ∙ abs_is d h
