-- Lists and sequences with one member more or less, and lists of the first terms.
use Rattle.std.specs.Prelude.{ℕ, zero, suc, List, [], ◌∷◌}

-- the member with a number, or a default past the end
abbrev pub entry : {X : Type 0} → X → List X → ℕ → X
entry d [] i = d
entry d (x ∷ xs) zero = x
entry d (x ∷ xs) (suc i) = entry d xs i

-- a list without the member with a number
abbrev pub remove : {X : Type 0} → ℕ → List X → List X
remove i [] = []
remove zero (x ∷ xs) = xs
remove (suc i) (x ∷ xs) = x ∷ remove i xs

-- a sequence with one more term, which gets the number i, and a sequence without its term i
abbrev pub insert : {A : Type 0} → ℕ → A → (ℕ → A) → ℕ → A
insert zero x c zero = x
insert zero x c (suc j) = c j
insert (suc i) x c zero = c 0
insert (suc i) x c (suc j) = insert i x (λ k. c (suc k)) j

abbrev pub omit : {A : Type 0} → ℕ → (ℕ → A) → ℕ → A
omit zero c j = c (suc j)
omit (suc i) c zero = c 0
omit (suc i) c (suc j) = omit i (λ k. c (suc k)) j

-- the terms of c below n, and then those of d
abbrev pub join : {A : Type 0} → ℕ → (ℕ → A) → (ℕ → A) → ℕ → A
join zero c d j = d j
join (suc n) c d zero = c 0
join (suc n) c d (suc j) = join n (λ k. c (suc k)) d j

-- the list of f 0, f 1, .., n of them
abbrev pub tabulate : {X : Type 0} → ℕ → (ℕ → X) → List X
tabulate zero f = []
tabulate (suc n) f = f 0 ∷ tabulate n (λ i. f (suc i))
