-- Polynomials of bounded degree, where the bound is an integer, and sums of degrees.
use Rattle.std.specs.Prelude.{ℕ, zero, suc, ◌+◌, ◌<◌, ◌≤◌, ℤ, pos, negsuc, ◌+ℤ◌, ◌-ℤ◌, ◌≤ℤ◌, length}
use Rattle.ring_lemmas.specs.Ring.{TestedRing}
use Rattle.ring_lemmas.specs.Polynomials.{Pol}

-- the number of the coefficients of a polynomial whose degree is at most m: m + 1, or 0 for a negative m
unfoldable pub size : ℤ → ℕ
size (pos n) = suc n
size (negsuc n) = 0

-- p is zero, or its degree is at most m
abbrev pub DegreeAtMost : {C : Type 0} (k : TestedRing C) → Pol k → ℤ → Type 0
DegreeAtMost k p m = length p.0 ≤ size m

-- the degree of a polynomial that is not zero
abbrev pub degree : {C : Type 0} (k : TestedRing C) → Pol k → ℤ
degree k p = pos (length p.0) -ℤ pos 1

-- the sum of d i for i below n, of natural numbers and of integers
abbrev pub total : ℕ → (ℕ → ℕ) → ℕ
total zero l = 0
total (suc n) l = l 0 + total n (λ i. l (suc i))

abbrev pub degree_sum : ℕ → (ℕ → ℤ) → ℤ
degree_sum zero d = pos 0
degree_sum (suc n) d = d 0 +ℤ degree_sum n (λ i. d (suc i))

-- the sum of the numbers max(0, m + 1 - d i): the dimension of the intersection of I and x^m·N
abbrev pub dimension_sum : ℕ → (ℕ → ℤ) → ℤ → ℕ
dimension_sum n d m = total n (λ i. size (m -ℤ d i))

-- the sum of the numbers max(0, d i - 1): the dimension of V over I + N
abbrev pub genus_sum : ℕ → (ℕ → ℤ) → ℕ
genus_sum n d = total n (λ i. size (d i -ℤ pos 2))

-- 1 for m at least 0, else 0
unfoldable pub up_to : ℤ → ℕ
up_to (pos n) = 1
up_to (negsuc n) = 0

-- how many of the d i, i below n, are at most m
abbrev pub count_up_to : ℕ → (ℕ → ℤ) → ℤ → ℕ
count_up_to n d m = total n (λ i. up_to (m -ℤ d i))

-- not descending
abbrev pub HasAscendingDegrees : ℕ → (ℕ → ℤ) → Type 0
HasAscendingDegrees n d = (i j : ℕ) → i ≤ j → j < n → d i ≤ℤ d j
