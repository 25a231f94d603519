-- Lists of coefficients over a ring, lowest first, and their operations; sequences, multiplied as power series.
use Rattle.std.specs.Prelude.{◌≡◌, ℕ, zero, suc, ◌-◌, Bool, true, false, cond, refl, List, [], ◌∷◌, length, get_or, replicate}
use Rattle.ring_lemmas.specs.Ring.{Operations}

abbrev pub tail_of : {A : Type 0} → (ℕ → A) → ℕ → A
tail_of f n = f (suc n)

-- the coefficient at n of the product of two series: the sum of f i · g (n - i)
abbrev pub convolution : {A : Type 0} → Operations A → (ℕ → A) → (ℕ → A) → ℕ → A
convolution r f g zero = r.◌⊗◌ (f zero) (g zero)
convolution r f g (suc n) = r.◌⊕◌ (r.◌⊗◌ (f zero) (g (suc n))) (convolution r (tail_of f) g n)

-- the coefficient at n, zero past the end
abbrev pub coeff_of : {A : Type 0} → Operations A → List A → ℕ → A
coeff_of r xs n = get_or xs n r.𝟘

abbrev pub add_lists : {A : Type 0} → Operations A → List A → List A → List A
add_lists r [] ys = ys
add_lists r (x ∷ xs) [] = x ∷ xs
add_lists r (x ∷ xs) (y ∷ ys) = r.◌⊕◌ x y ∷ add_lists r xs ys

abbrev pub scale_list : {A : Type 0} → Operations A → A → List A → List A
scale_list r c [] = []
scale_list r c (y ∷ ys) = r.◌⊗◌ c y ∷ scale_list r c ys

abbrev pub neg_list : {A : Type 0} → Operations A → List A → List A
neg_list r [] = []
neg_list r (y ∷ ys) = r.⊖◌ y ∷ neg_list r ys

abbrev pub mul_lists : {A : Type 0} → Operations A → List A → List A → List A
mul_lists r [] ys = []
mul_lists r (x ∷ xs) ys = add_lists r (scale_list r x ys) (r.𝟘 ∷ mul_lists r xs ys)

-- the product added to zs, as a loop from the top makes it
abbrev pub mul_onto : {A : Type 0} → Operations A → List A → List A → List A → List A
mul_onto r [] ys zs = zs
mul_onto r (x ∷ xs) ys zs = add_lists r (r.𝟘 ∷ mul_onto r xs ys zs) (scale_list r x ys)

-- x before a trimmed list, unless that makes a zero on top
abbrev pub trim_onto : {A : Type 0} → (A → Bool) → A → List A → List A
trim_onto z x [] = cond (z x) [] (x ∷ [])
trim_onto z x (y ∷ ys) = x ∷ y ∷ ys

-- the list without the zeros on top
abbrev pub trim : {A : Type 0} → (A → Bool) → List A → List A
trim z [] = []
trim z (x ∷ xs) = trim_onto z x (trim z xs)

-- no zero on top
abbrev pub IsTrimmed : {A : Type 0} → (A → Bool) → List A → Type 0
IsTrimmed z [] = Unit {0}
IsTrimmed z (x ∷ []) = z x ≡ false
IsTrimmed z (x ∷ y ∷ ys) = IsTrimmed z (y ∷ ys)

-- trimmed, a list has none
IsTrimmed_trim_onto : {A : Type 0} (z : A → Bool) (x : A) (xs : List A) → IsTrimmed z xs
    → IsTrimmed z (trim_onto z x xs)
IsTrimmed_trim_onto z x [] t = go (z x) refl
  where
    go : (b : Bool) → z x ≡ b → IsTrimmed z (cond b [] (x ∷ []))
    go true e = tt
    go false e = e
IsTrimmed_trim_onto z x (y ∷ ys) t = t

pub IsTrimmed_trim : {A : Type 0} (z : A → Bool) (xs : List A) → IsTrimmed z (trim z xs)
IsTrimmed_trim z [] = tt
IsTrimmed_trim z (x ∷ xs) = IsTrimmed_trim_onto z x (trim z xs) (IsTrimmed_trim z xs)

-- how the loop divides: from the top, a multiple of b is taken away at each position

-- the code that clears the position where b ends
abbrev pub digit_of : {A : Type 0} → Operations A → List A → A → List A → A
digit_of r b inverse t = r.◌⊗◌ (get_or t (length b - 1) r.𝟘) inverse

abbrev pub rest_from : {A : Type 0} → Operations A → List A → A → List A → List A
rest_from r b inverse [] = replicate (length b - 1) r.𝟘
rest_from r b inverse (x ∷ xs) =
    let t = x ∷ rest_from r b inverse xs in add_lists r t (scale_list r (r.⊖◌ (digit_of r b inverse t)) b)

abbrev pub quotient_from : {A : Type 0} → Operations A → List A → A → List A → List A
quotient_from r b inverse [] = []
quotient_from r b inverse (x ∷ xs) = digit_of r b inverse (x ∷ rest_from r b inverse xs) ∷ quotient_from r b inverse xs
