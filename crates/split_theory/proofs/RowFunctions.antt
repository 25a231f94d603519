-- Members of lists by their numbers.
use Rattle.std.proofs.Common.{◌≡◌, ℕ, zero, suc, ◌<◌, List, [], ◌∷◌, length, map, get_or, refl, ap, ap₂, arith}
use Rattle.linear_theory.specs.Lists.{entry, tabulate}

-- a list of images, by the numbers of the members
pub map_tabulate : {X Y : Type 0} (f : X → Y) (d : X) (xs : List X) → map f xs
    ≡ tabulate (length xs) (λ i. f (get_or xs i d))
map_tabulate f d [] = refl
map_tabulate f d (x ∷ xs) = ap (λ ys. f x ∷ ys) (map_tabulate f d xs)

pub tabulate_same : {X : Type 0} (n : ℕ) (f g : ℕ → X) → ((i : ℕ) → i < n → f i ≡ g i) → tabulate n f ≡ tabulate n g
tabulate_same zero f g h = refl
tabulate_same (suc n) f g h =
    ap₂ ◌∷◌ (h 0 (omega arith)) (tabulate_same n (λ i. f (suc i)) (λ i. g (suc i)) (λ i l. h (suc i) (omega arith)))

pub entry_map : {X Y : Type 0} (f : X → Y) (d : X) (e : Y) (xs : List X) (i : ℕ) → i < length xs
    → entry e (map f xs) i ≡ f (entry d xs i)
entry_map f d e [] i less = absurd (omega (arith, less))
entry_map f d e (x ∷ xs) zero less = refl
entry_map f d e (x ∷ xs) (suc i) less = entry_map f d e xs i (omega (arith, less))

-- lists with the same members
pub same_list : {X : Type 0} (d : X) (xs ys : List X) → length xs ≡ length ys
    → ((i : ℕ) → i < length xs → entry d xs i ≡ get_or ys i d) → xs ≡ ys
same_list d [] [] l h = refl
same_list d [] (y ∷ ys) l h = absurd (omega (arith, l))
same_list d (x ∷ xs) [] l h = absurd (omega (arith, l))
same_list d (x ∷ xs) (y ∷ ys) l h =
    ap₂ ◌∷◌ (h 0 (omega arith)) (same_list d xs ys (omega (arith, l)) (λ i less. h (suc i) (omega (arith, less))))

pub get_map : {X Y : Type 0} (f : X → Y) (d : X) (e : Y) (xs : List X) (i : ℕ) → i < length xs
    → get_or (map f xs) i e ≡ f (get_or xs i d)
get_map f d e [] i less = absurd (omega (arith, less))
get_map f d e (x ∷ xs) zero less = refl
get_map f d e (x ∷ xs) (suc i) less = get_map f d e xs i (omega (arith, less))

pub same_entries_list : {X : Type 0} (d : X) (xs ys : List X) → length xs ≡ length ys
    → ((i : ℕ) → i < length xs → entry d xs i ≡ entry d ys i) → xs ≡ ys
same_entries_list d [] [] l h = refl
same_entries_list d [] (y ∷ ys) l h = absurd (omega (arith, l))
same_entries_list d (x ∷ xs) [] l h = absurd (omega (arith, l))
same_entries_list d (x ∷ xs) (y ∷ ys) l h =
    ap₂ ◌∷◌ (h 0 (omega arith))
    (same_entries_list d xs ys (omega (arith, l)) (λ i less. h (suc i) (omega (arith, less))))
