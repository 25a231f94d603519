-- Every function has a row over a polynomial that can be found.
use Rattle.std.proofs.Common.{◌≡◌, ℕ, zero, suc, ◌+◌, ◌<◌, ◌≤◌, List, [], ◌∷◌, ◌++◌, length, map, refl, subst, arith, All}
use Rattle.std.proofs.lemmas.List.Elements.{All-nil, All-cons, All-head, All-tail}
use native.Mathlib.Decide.{ℕ_discrete}
use Rattle.ring_lemmas.specs.Rows.{Row}
use Rattle.ring_theory.proofs.Choose.{Member, here, there, choose}
use Rattle.ff_fields.specs.Field.{CodeField}
use Rattle.ff_poly.specs.Value.{value}
use Rattle.ff_poly.specs.Polynomials.{Polynomial, polynomials, polynomial_discrete, codes_of, value_codes_of}
use Rattle.function_field.specs.Values.{over_checked}
use Rattle.function_field.specs.Functions.{Equation, RowOver, FunctionOf, function, function_eq, functions_discrete, has_row}

upto : ℕ → List ℕ
upto zero = []
upto (suc n) = n ∷ upto n

upto_member : (n c : ℕ) → c < n → Member c (upto n)
unfolding upto
upto_member zero c h = absurd (omega arith)
upto_member (suc n) c h = at (ℕ_discrete c n) (upto_member n c)
  where
    at : Dec (c ≡ n) → (c < n → Member c (upto n)) → Member c (n ∷ upto n)
    at (yes e) rest = subst (λ t. Member c (t ∷ upto n)) e here
    at (no ne) rest = there (rest (omega arith))

module _ {A : Type 0} where
  member_left : (a : A) (xs ys : List A) → Member a xs → Member a (xs ++ ys)
  member_left a [] ys m = elim m [ ]
  member_left a (x ∷ xs) ys here = here
  member_left a (x ∷ xs) ys (there m) = there (member_left a xs ys m)

  member_right : (a : A) (xs ys : List A) → Member a ys → Member a (xs ++ ys)
  member_right a [] ys m = m
  member_right a (x ∷ xs) ys m = there (member_right a xs ys m)

module _ {A B : Type 0} (f : A → B) where
  member_map : (a : A) (xs : List A) → Member a xs → Member (f a) (map f xs)
  member_map a [] m = elim m [ ]
  member_map a (x ∷ xs) here = here
  member_map a (x ∷ xs) (there m) = there (member_map a xs m)

module _ {A B C : Type 0} (f : A → B → C) where
  -- f of each entry of the one and each of the other
  all_pairs : List A → List B → List C
  all_pairs [] ys = []
  all_pairs (x ∷ xs) ys = map (f x) ys ++ all_pairs xs ys

  pairs_member : (a : A) (b : B) (xs : List A) (ys : List B) → Member a xs → Member b ys
      → Member (f a b) (all_pairs xs ys)
  unfolding all_pairs
  pairs_member a b [] ys m l = elim m [ ]
  pairs_member a b (x ∷ xs) ys here l = member_left (f a b) (map (f a) ys) (all_pairs xs ys) (member_map (f a) b ys l)
  pairs_member a b (x ∷ xs) ys (there m) l = member_right (f a b) (map (f x) ys) (all_pairs xs ys)
      (pairs_member a b xs ys m l)

-- the lists of at most n of the letters
words : List ℕ → ℕ → List (List ℕ)
words letters zero = [] ∷ []
words letters (suc n) = [] ∷ all_pairs (λ c w. c ∷ w) letters (words letters n)

words_member : (letters : List ℕ) (n : ℕ) (w : List ℕ) → All (λ c. Member c letters) w → length w ≤ n
    → Member w (words letters n)
unfolding words
words_member letters zero [] h l = here
words_member letters zero (c ∷ w) h l = absurd (omega arith)
words_member letters (suc n) [] h l = here
words_member letters (suc n) (c ∷ w) hs l =
    let P : ℕ → Type 0 = λ d. Member d letters in
    there (pairs_member (λ c w. c ∷ w) c w letters (words letters n) (All-head P c w hs)
    (words_member letters n w (All-tail P c w hs) (omega arith)))

bound : List ℕ → ℕ
bound [] = 0
bound (c ∷ w) = suc (c + bound w)

bounded : (w : List ℕ) (n : ℕ) → bound w ≤ n → All (λ c. Member c (upto n)) w
unfolding bound
bounded [] n h = All-nil (λ c. Member c (upto n))
bounded (c ∷ w) n h = All-cons (λ c. Member c (upto n)) c w (upto_member n c (omega arith)) (bounded w n (omega arith))

length_bounded : (w : List ℕ) → length w ≤ bound w
unfolding bound
length_bounded [] = omega arith
length_bounded (c ∷ w) = let h : length w ≤ bound w = length_bounded w in omega arith

module _ (k : CodeField) where
  polys : ℕ → List (Polynomial k)
  polys n = map (value k) (words (upto n) n)

  poly_member : (p : Polynomial k) (n : ℕ) → bound (codes_of k p) ≤ n → Member p (polys n)
  unfolding polys
  poly_member p n h =
      let l : length (codes_of k p) ≤ bound (codes_of k p) = length_bounded (codes_of k p) in
      subst (λ q. Member q (map (value k) (words (upto n) n))) (value_codes_of k p)
      (member_map (value k) (codes_of k p) (words (upto n) n)
      (words_member (upto n) n (codes_of k p) (bounded (codes_of k p) n h) (omega arith)))

  rows : (m n : ℕ) → List (Row (Polynomial k) m)
  rows zero n = tt ∷ []
  rows (suc m) n = all_pairs (λ a v. (a, v)) (polys n) (rows m n)

  row_bound : (m : ℕ) → Row (Polynomial k) m → ℕ
  row_bound zero v = 0
  row_bound (suc m) (a, v) = bound (codes_of k a) + row_bound m v

  row_member : (m n : ℕ) (v : Row (Polynomial k) m) → row_bound m v ≤ n → Member v (rows m n)
  unfolding rows row_bound
  row_member zero n v h = here
  row_member (suc m) n (a, v) h =
      pairs_member (λ a v. (a, v)) a v (polys n) (rows m n) (poly_member a n (omega arith))
      (row_member m n v (omega arith))

module _ {k : CodeField} (c : Equation k) where
  make_function : (z : RowOver c) (d : Dec (z.den ≡ (polynomials k).𝟘))
      → function c (over_checked c z.num z.den d) ≡ function c z
  unfolding over_checked
  make_function z (yes e) = absurd (z.den_not_zero e)
  make_function z (no n) = function_eq c (record { num = z.num; den = z.den; den_not_zero = n }) z refl

  stage : ℕ → List (RowOver c)
  stage n = all_pairs (λ v d. over_checked c v d (polynomial_discrete k d (polynomials k).𝟘))
      (rows k (suc c.lower_degree) n) (polys k n)

  -- each function is that of a row which can be found
  pub row_of_function : (z : FunctionOf c) → (a : RowOver c) × (function c a ≡ z)
  unfolding stage
  row_of_function z =
      choose (function c) (functions_discrete c) stage
      (λ a. (
        row_bound k (suc c.lower_degree) a.num + bound (codes_of k a.den),
        over_checked c a.num a.den (polynomial_discrete k a.den (polynomials k).𝟘),
        pairs_member (λ v d. over_checked c v d (polynomial_discrete k d (polynomials k).𝟘)) a.num a.den
            (rows k (suc c.lower_degree) _) (polys k _)
            (row_member k (suc c.lower_degree) _ a.num (omega arith)) (poly_member k a.den _ (omega arith)),
        make_function a (polynomial_discrete k a.den (polynomials k).𝟘),
      ))
      z (has_row c z)
