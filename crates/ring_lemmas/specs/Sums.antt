-- Finite sums in a commutative ring, and the product of matrices as functions of two indices.
use Rattle.std.specs.Prelude.{ℕ, zero, suc, List, [], ◌∷◌}
use Rattle.ring_lemmas.specs.Ring.{Operations}

-- the sum of f i for i below n
abbrev pub sum_below : {A : Type 0} → Operations A → ℕ → (ℕ → A) → A
sum_below R zero f = R.𝟘
sum_below R (suc n) f = R.◌⊕◌ (sum_below R n f) (f n)

-- the sum of f x for the members x of a list
abbrev pub sum_over : {A I : Type 0} → Operations A → List I → (I → A) → A
sum_over R [] f = R.𝟘
sum_over R (x ∷ xs) f = R.◌⊕◌ (f x) (sum_over R xs f)

-- the product of two matrices whose inner size is n
abbrev pub matrix_product : {A : Type 0} → Operations A → ℕ → (ℕ → ℕ → A) → (ℕ → ℕ → A) → ℕ → ℕ → A
matrix_product R n p q i j = sum_below R n (λ k. R.◌⊗◌ (p i k) (q k j))

abbrev pub trace : {A : Type 0} → Operations A → ℕ → (ℕ → ℕ → A) → A
trace R n a = sum_below R n (λ i. a i i)
