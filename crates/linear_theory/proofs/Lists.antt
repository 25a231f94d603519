-- Lists and sequences with one member more or less.
use Rattle.std.proofs.Common.{◌≡◌, ℕ, zero, suc, ◌<◌, ◌+◌, List, [], ◌∷◌, ◌++◌, length, All, refl, ◌∙◌, ap, subst, zero-add, suc-add, arith}
use Rattle.std.proofs.lemmas.List.Elements.{All-nil, All-cons, All-head, All-tail}
use Rattle.linear_theory.specs.Lists.{entry, insert, join, omit, remove}

pub length_remove : {X : Type 0} (i : ℕ) (xs : List X) → i < length xs → length xs ≡ suc (length (remove i xs))
length_remove i [] l = absurd (omega arith)
length_remove zero (x ∷ xs) l = refl
length_remove (suc i) (x ∷ xs) l = ap suc (length_remove i xs (omega arith))

pub insert_here : {A : Type 0} (i : ℕ) (x : A) (c : ℕ → A) → insert i x c i ≡ x
insert_here zero x c = refl
insert_here (suc i) x c = insert_here i x (λ k. c (suc k))

-- the terms of c are terms of the sequence with one more
pub insert_there : {A : Type 0} (i : ℕ) (x : A) (c : ℕ → A) (n j : ℕ) → j < n
    → (k : ℕ) × (k < suc n) × (insert i x c k ≡ c j)
insert_there zero x c n j l = (suc j, omega arith, refl)
insert_there (suc i) x c n zero l = (0, omega arith, refl)
insert_there (suc i) x c zero (suc j) l = absurd (omega arith)
insert_there (suc i) x c (suc n) (suc j) l =
    let r = insert_there i x (λ k. c (suc k)) n j (omega arith) in
    let b : r.0 < suc n = r.1 in
    (suc r.0, omega arith, r.2)

pub insert_omit : {A : Type 0} (i : ℕ) (c : ℕ → A) (j : ℕ) → insert i (c i) (omit i c) j ≡ c j
insert_omit zero c zero = refl
insert_omit zero c (suc j) = refl
insert_omit (suc i) c zero = refl
insert_omit (suc i) c (suc j) = insert_omit i (λ k. c (suc k)) j

-- the terms of a joined sequence
pub join_left : {A : Type 0} (n : ℕ) (c d : ℕ → A) (i : ℕ) → i < n → join n c d i ≡ c i
join_left zero c d i l = absurd (omega arith)
join_left (suc n) c d zero l = refl
join_left (suc n) c d (suc i) l = join_left n (λ k. c (suc k)) d i (omega arith)

pub join_right : {A : Type 0} (n : ℕ) (c d : ℕ → A) (i : ℕ) → join n c d (n + i) ≡ d i
join_right zero c d i = ap d (zero-add i)
join_right (suc n) c d i = ap (join (suc n) c d) (suc-add n i) ∙ join_right n (λ k. c (suc k)) d i

pub All_remove : {X : Type 0} (P : X → Type 0) (i : ℕ) (xs : List X) → All P xs → All P (remove i xs)
All_remove P i [] h = h
All_remove P zero (x ∷ xs) h = All-tail P x xs h
All_remove P (suc i) (x ∷ xs) h = All-cons P x (remove i xs) (All-head P x xs h) (All_remove P i xs (All-tail P x xs h))

pub remove_append : {X : Type 0} (us vs : List X) (j : ℕ) → remove (length us + j) (us ++ vs) ≡ us ++ remove j vs
remove_append [] vs j = ap (λ k. remove k vs) (zero-add j)
remove_append (u ∷ us) vs j = ap (λ k. remove k (u ∷ us ++ vs)) (suc-add (length us) j)
    ∙ ap (λ x. u ∷ x) (remove_append us vs j)

-- the terms of the longer sequence: the one put in, and those of c
pub insert_split : {A : Type 0} (P : A → Type 0) (i : ℕ) (x : A) (c : ℕ → A) (n : ℕ) → i < suc n
    → ((k : ℕ) → k < suc n → P (insert i x c k)) → P x × ((j : ℕ) → j < n → P (c j))
insert_split P i x c n l h = (
  subst P (insert_here i x c) (h i l),
  λ j k. let r = insert_there i x c n j k in subst P
      r.2 (h r.0 r.1),
)

pub All_entry : {X : Type 0} (P : X → Type 0) (d : X) (xs : List X) (i : ℕ) → All P xs → i < length xs
    → P (entry d xs i)
All_entry P d [] i h l = absurd (omega arith)
All_entry P d (x ∷ xs) zero h l = All-head P x xs h
All_entry P d (x ∷ xs) (suc i) h l = All_entry P d xs i (All-tail P x xs h) (omega arith)

pub All_both : {X : Type 0} (P Q S : X → Type 0) → ((x : X) → P x → Q x → S x) → (xs : List X) → All P xs → All Q xs
    → All S xs
All_both P Q S f [] h k = All-nil S
All_both P Q S f (x ∷ xs) h k =
    All-cons S x xs (f x (All-head P x xs h) (All-head Q x xs k))
    (All_both P Q S f xs (All-tail P x xs h) (All-tail Q x xs k))
