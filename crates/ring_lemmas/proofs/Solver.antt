-- A solver for equations in any commutative ring: an expression is brought to a sum of sorted monomials, and two
-- expressions with the same sum are equal at all values.
use Prim.Native.Nat.{compare, Ordering}
use lib.Dec.{is_le, compare_is_eq}
use Rattle.std.proofs.Common.{leb-true, leb-false, ◌≡◌, ℕ, zero, suc, ◌+◌, ◌*◌, ◌-◌, ◌≤◌, true, false, leb, List, [], ◌∷◌, refl, sym, ◌∙◌, ap, ap₂, eqb-true, le_of_lt, arith}
use Rattle.ring_lemmas.specs.Ring.{Operations, CommRing, pow, nat}
use Rattle.ring_lemmas.specs.Lists.{coeff_of}
use Rattle.ring_lemmas.proofs.Ring.{zero_add, one_mul, add_mul, add_left_comm, mul_left_comm, add_add, mul_mul, mul_zero, zero_mul, mul_neg, neg_mul, neg_neg, neg_zero, neg_sum, nat_add, nat_mul, eq_of_sub, sub_of_eq}

infixl 65 ◌⊞◌
infixl 70 ◌⊠◌
infixr 80 ⊟◌
infixl 85 ◌⇑◌
-- an expression over variables that are named by their position in a list of values
pub data Expr : Type 0 where
  𝟎 𝟏 : Expr
  var num : ℕ → Expr
  ◌⊞◌ ◌⊠◌ : Expr → Expr → Expr
  ⊟◌ : Expr → Expr
  ◌⇑◌ : Expr → ℕ → Expr

-- a sum of terms: a positive and a negative coefficient, one of which is 0, and a sorted list of variables
pub data Poly : Type 0 where
  done : Poly
  term : ℕ → ℕ → List ℕ → Poly → Poly

-- which monomial comes first: the one with more of the first variable in which they differ
abbrev pub order : List ℕ → List ℕ → Ordering
order [] [] = Ordering.eq
order [] (y ∷ ys) = Ordering.gt
order (x ∷ xs) [] = Ordering.lt
order (x ∷ xs) (y ∷ ys) =
    elim (compare x y) [ Ordering.lt ↦ Ordering.lt | Ordering.eq ↦ order xs ys | Ordering.gt ↦ Ordering.gt ]

abbrev pub put_var : ℕ → (List ℕ → List ℕ) → List ℕ → List ℕ
put_var x k [] = x ∷ k []
put_var x k (y ∷ ys) = elim (leb x y) [ true ↦ x ∷ k (y ∷ ys) | false ↦ y ∷ put_var x k ys ]

abbrev pub times_mono : List ℕ → List ℕ → List ℕ
times_mono [] ys = ys
times_mono (x ∷ xs) ys = put_var x (times_mono xs) ys

abbrev pub put : ℕ → ℕ → List ℕ → Poly → Poly
put p n m r =
    elim (compare p n) [
      | Ordering.lt ↦ term 0 (n - p) m r
      | Ordering.eq ↦ r
      | Ordering.gt ↦ term (p - n) 0 m r
    ]

abbrev pub put_term : ℕ → ℕ → List ℕ → (Poly → Poly) → Poly → Poly
put_term p n m k done = term p n m (k done)
put_term p n m k (term p' n' m' r) =
    elim (order m m') [
      | Ordering.lt ↦ term p n m (k (term p' n' m' r))
      | Ordering.eq ↦ put (p + p') (n + n') m (k r)
      | Ordering.gt ↦ term p' n' m' (put_term p n m k r)
    ]

abbrev pub plus : Poly → Poly → Poly
plus done q = q
plus (term p n m r) q = put_term p n m (plus r) q

abbrev pub scale : ℕ → ℕ → List ℕ → Poly → Poly
scale p n m done = done
scale p n m (term p' n' m' r) =
    term (p * p' + n * n') (p * n' + n * p') (times_mono m m') (scale p n m r)

abbrev pub times : Poly → Poly → Poly
times done q = done
times (term p n m r) q = plus (scale p n m q) (times r q)

abbrev pub opposite : Poly → Poly
opposite done = done
opposite (term p n m r) = term n p m (opposite r)

abbrev pub power : Poly → ℕ → Poly
power q zero = term 1 0 [] done
power q (suc n) = times q (power q n)

abbrev pub norm : Expr → Poly
norm 𝟎 = done
norm 𝟏 = term 1 0 [] done
norm (var i) = term 1 0 (i ∷ []) done
norm (num n) = put n 0 [] done
norm (a ⊞ b) = plus (norm a) (norm b)
norm (a ⊠ b) = times (norm a) (norm b)
norm (⊟ a) = opposite (norm a)
norm (a ⇑ n) = power (norm a) n

abbrev pub eval : {A : Type 0} → Operations A → List A → Expr → A
eval R ρ 𝟎 = R.𝟘
eval R ρ 𝟏 = R.𝟙
eval R ρ (var i) = coeff_of R ρ i
eval R ρ (num n) = nat R n
eval R ρ (a ⊞ b) = R.◌⊕◌ (eval R ρ a) (eval R ρ b)
eval R ρ (a ⊠ b) = R.◌⊗◌ (eval R ρ a) (eval R ρ b)
eval R ρ (⊟ a) = R.⊖◌ (eval R ρ a)
eval R ρ (a ⇑ n) = pow R (eval R ρ a) n

compare_eq : (p n : ℕ) → compare p n ≡ Ordering.eq → p ≡ n
compare_eq p n e = eqb-true p n (ap compare_is_eq e)

compare_le : (p n : ℕ) → compare p n ≡ Ordering.lt → p ≤ n
compare_le p n e = leb-true p n (ap is_le e)

compare_ge : (p n : ℕ) → compare p n ≡ Ordering.gt → n ≤ p
compare_ge p n e = le_of_lt (leb-false p n (ap is_le e))

order_eq : (xs ys : List ℕ) → order xs ys ≡ Ordering.eq → xs ≡ ys
order_eq [] [] e = refl
order_eq [] (y ∷ ys) e = cc
order_eq (x ∷ xs) [] e = cc
order_eq (x ∷ xs) (y ∷ ys) e = go (compare x y) refl e (order_eq xs ys)
  where
    go : (o : Ordering) → compare x y ≡ o
        → elim o [ Ordering.lt ↦ Ordering.lt | Ordering.eq ↦ order xs ys | Ordering.gt ↦ Ordering.gt ] ≡ Ordering.eq
        → (order xs ys ≡ Ordering.eq → xs ≡ ys) → x ∷ xs ≡ y ∷ ys
    go Ordering.lt c h k = cc
    go Ordering.eq c h k = ap₂ ◌∷◌ (compare_eq x y c) (k h)
    go Ordering.gt c h k = cc

module _ {A : Type 0} (R : CommRing A) where
  infixl 65 ◌⊕◌
  infixl 70 ◌⊗◌
  infixr 80 ⊖◌
  open R use {𝟘, 𝟙, ◌⊕◌, ◌⊗◌, ⊖◌}

  -- the value of a coefficient
  coef : ℕ → ℕ → A
  coef p n = nat R.ops p ⊕ ⊖ nat R.ops n

  coef_add : (p n p' n' : ℕ) → coef (p + p') (n + n') ≡ coef p n ⊕ coef p' n'
  unfolding coef
  coef_add p n p' n' =
      ap₂ (λ x y. x ⊕ ⊖ y) (nat_add R p p') (nat_add R n n')
      ∙ ap (λ y. (nat R.ops p ⊕ nat R.ops p') ⊕ y) (neg_sum R (nat R.ops n) (nat R.ops n'))
      ∙ add_add R (nat R.ops p) (nat R.ops p') (⊖ nat R.ops n) (⊖ nat R.ops n')

  coef_neg : (p n : ℕ) → coef n p ≡ ⊖ coef p n
  unfolding coef
  coef_neg p n =
      R.add_comm (nat R.ops n) (⊖ nat R.ops p)
      ∙ ap (λ x. ⊖ nat R.ops p ⊕ x) (sym (neg_neg R (nat R.ops n)))
      ∙ sym (neg_sum R (nat R.ops p) (⊖ nat R.ops n))

  coef_mul_of : (p n p' n' : A)
      → (p ⊗ p' ⊕ n ⊗ n') ⊕ ⊖ (p ⊗ n' ⊕ n ⊗ p') ≡ (p ⊕ ⊖ n) ⊗ (p' ⊕ ⊖ n')
  coef_mul_of p n p' n' =
      simp (neg_sum R, R.mul_add, add_mul R, neg_mul R, mul_neg R, neg_neg R, R.add_assoc, R.add_comm, add_left_comm R)

  coef_mul : (p n p' n' : ℕ) → coef (p * p' + n * n') (p * n' + n * p') ≡ coef p n ⊗ coef p' n'
  unfolding coef
  coef_mul p n p' n' =
      let product : (a b c d : ℕ) → nat R.ops (a * b + c * d) ≡ nat R.ops a ⊗ nat R.ops b ⊕ nat R.ops c ⊗ nat R.ops d
      = λ a b c d. nat_add R (a * b) (c * d) ∙ ap₂ ◌⊕◌ (nat_mul R a b) (nat_mul R c d) in
      ap₂ (λ x y. x ⊕ ⊖ y) (product p p' n n') (product p n' n p')
      ∙ coef_mul_of (nat R.ops p) (nat R.ops n) (nat R.ops p') (nat R.ops n')

  coef_zero : (p : ℕ) → coef p p ≡ 𝟘
  unfolding coef
  coef_zero p = R.add_neg (nat R.ops p)

  -- a part that both coefficients have drops out
  coef_drop : (k p n : ℕ) → coef (k + p) (k + n) ≡ coef p n
  coef_drop k p n = coef_add k k p n ∙ ap (λ x. x ⊕ coef p n) (coef_zero k) ∙ zero_add R (coef p n)

  coef_less : (p n : ℕ) → p ≤ n → coef 0 (n - p) ≡ coef p n
  coef_less p n h =
      let f : p + 0 ≡ p = omega arith in
      let g : p + (n - p) ≡ n = omega arith in
      sym (coef_drop p 0 (n - p)) ∙ ap₂ coef f g

  coef_more : (p n : ℕ) → n ≤ p → coef (p - n) 0 ≡ coef p n
  coef_more p n h =
      let f : n + 0 ≡ n = omega arith in
      let g : n + (p - n) ≡ p = omega arith in
      sym (coef_drop n (p - n) 0) ∙ ap₂ coef g f

  -- the value of a monomial and of a sum
  mono_value : List A → List ℕ → A
  mono_value ρ [] = 𝟙
  mono_value ρ (i ∷ m) = coeff_of R.ops ρ i ⊗ mono_value ρ m

  value : List A → Poly → A
  value ρ done = 𝟘
  value ρ (term p n m r) = coef p n ⊗ mono_value ρ m ⊕ value ρ r

  put_var_value : (ρ : List A) (x : ℕ) (k : List ℕ → List ℕ) (a : A)
      → ((ys : List ℕ) → mono_value ρ (k ys) ≡ a ⊗ mono_value ρ ys)
      → (ys : List ℕ) → mono_value ρ (put_var x k ys) ≡ (coeff_of R.ops ρ x ⊗ a) ⊗ mono_value ρ ys
  unfolding mono_value
  put_var_value ρ x k a h [] = ap (λ z. coeff_of R.ops ρ x ⊗ z) (h []) ∙ sym (R.mul_assoc _ _ _)
  put_var_value ρ x k a h (y ∷ ys) =
      elim (leb x y) as (λ b. mono_value ρ (elim b [ true ↦ x ∷ k (y ∷ ys) | false ↦ y ∷ put_var x k ys ])
      ≡ (coeff_of R.ops ρ x ⊗ a) ⊗ (coeff_of R.ops ρ y ⊗ mono_value ρ ys)) [
        | true ↦ ap (λ z. coeff_of R.ops ρ x ⊗ z) (h (y ∷ ys)) ∙ sym (R.mul_assoc _ _ _)
        | false ↦ ap (λ z. coeff_of R.ops ρ y ⊗ z) (put_var_value ρ x k a h ys) ∙ mul_left_comm R _ _ _
      ]

  times_mono_value : (ρ : List A) (xs ys : List ℕ)
      → mono_value ρ (times_mono xs ys) ≡ mono_value ρ xs ⊗ mono_value ρ ys
  unfolding mono_value
  times_mono_value ρ [] ys = sym (one_mul R (mono_value ρ ys))
  times_mono_value ρ (x ∷ xs) ys =
      put_var_value ρ x (times_mono xs) (mono_value ρ xs) (times_mono_value ρ xs) ys

  put_value : (ρ : List A) (p n : ℕ) (m : List ℕ) (r : Poly)
      → value ρ (put p n m r) ≡ coef p n ⊗ mono_value ρ m ⊕ value ρ r
  unfolding value
  put_value ρ p n m r = go (compare p n) refl
    where
      go : (o : Ordering) → compare p n ≡ o
          → value ρ (elim o [ Ordering.lt ↦ term 0 (n - p) m r | Ordering.eq ↦ r | Ordering.gt ↦ term (p - n) 0 m r ])
          ≡ coef p n ⊗ mono_value ρ m ⊕ value ρ r
      go Ordering.lt c = ap (λ z. z ⊗ mono_value ρ m ⊕ value ρ r) (coef_less p n (compare_le p n c))
      go Ordering.eq c =
          let e : coef p n ≡ 𝟘 = ap (λ z. coef z n) (compare_eq p n c) ∙ coef_zero n in
          rw (e, zero_mul R, zero_add R)
      go Ordering.gt c = ap (λ z. z ⊗ mono_value ρ m ⊕ value ρ r) (coef_more p n (compare_ge p n c))

  put_term_value : (ρ : List A) (p n : ℕ) (m : List ℕ) (k : Poly → Poly) (a : A)
      → ((q : Poly) → value ρ (k q) ≡ a ⊕ value ρ q)
      → (q : Poly) → value ρ (put_term p n m k q) ≡ (coef p n ⊗ mono_value ρ m ⊕ a) ⊕ value ρ q
  unfolding value
  put_term_value ρ p n m k a h done =
      ap (λ z. coef p n ⊗ mono_value ρ m ⊕ z) (h done) ∙ sym (R.add_assoc _ _ _)
  put_term_value ρ p n m k a h (term p' n' m' r) =
      go (order m m') refl (put_term_value ρ p n m k a h r)
    where
      go : (o : Ordering) → order m m' ≡ o
          → value ρ (put_term p n m k r) ≡ (coef p n ⊗ mono_value ρ m ⊕ a) ⊕ value ρ r
          → value ρ (elim o [
            | Ordering.lt ↦ term p n m (k (term p' n' m' r))
            | Ordering.eq ↦ put (p + p') (n + n') m (k r)
            | Ordering.gt ↦ term p' n' m' (put_term p n m k r)
          ])
          ≡ (coef p n ⊗ mono_value ρ m ⊕ a) ⊕ (coef p' n' ⊗ mono_value ρ m' ⊕ value ρ r)
      go Ordering.lt c ih =
          ap (λ z. coef p n ⊗ mono_value ρ m ⊕ z) (h (term p' n' m' r)) ∙ sym (R.add_assoc _ _ _)
      go Ordering.eq c ih =
          put_value ρ (p + p') (n + n') m (k r)
          ∙ ap₂ ◌⊕◌ (ap (λ z. z ⊗ mono_value ρ m) (coef_add p n p' n') ∙ add_mul R _ _ _) (h r)
          ∙ add_add R _ _ _ _
          ∙ ap (λ z. (coef p n ⊗ mono_value ρ m ⊕ a) ⊕ (coef p' n' ⊗ mono_value ρ z ⊕ value ρ r)) (order_eq m m' c)
      go Ordering.gt c ih = ap (λ z. coef p' n' ⊗ mono_value ρ m' ⊕ z) ih ∙ add_left_comm R _ _ _

  plus_value : (ρ : List A) (q r : Poly) → value ρ (plus q r) ≡ value ρ q ⊕ value ρ r
  unfolding value
  plus_value ρ done r = sym (zero_add R (value ρ r))
  plus_value ρ (term p n m q) r = put_term_value ρ p n m (plus q) (value ρ q) (plus_value ρ q) r

  scale_value : (ρ : List A) (p n : ℕ) (m : List ℕ) (q : Poly)
      → value ρ (scale p n m q) ≡ (coef p n ⊗ mono_value ρ m) ⊗ value ρ q
  unfolding value
  scale_value ρ p n m done = sym (mul_zero R _)
  scale_value ρ p n m (term p' n' m' r) =
      ap₂ ◌⊕◌
      (ap₂ ◌⊗◌ (coef_mul p n p' n') (times_mono_value ρ m m') ∙ mul_mul R _ _ _ _)
      (scale_value ρ p n m r)
      ∙ sym (R.mul_add _ _ _)

  times_value : (ρ : List A) (q r : Poly) → value ρ (times q r) ≡ value ρ q ⊗ value ρ r
  unfolding value
  times_value ρ done r = sym (zero_mul R _)
  times_value ρ (term p n m q) r =
      plus_value ρ (scale p n m r) (times q r)
      ∙ ap₂ ◌⊕◌ (scale_value ρ p n m r) (times_value ρ q r)
      ∙ sym (add_mul R _ _ _)

  opposite_value : (ρ : List A) (q : Poly) → value ρ (opposite q) ≡ ⊖ value ρ q
  unfolding value
  opposite_value ρ done = sym (neg_zero R)
  opposite_value ρ (term p n m q) =
      ap₂ ◌⊕◌ (ap (λ z. z ⊗ mono_value ρ m) (coef_neg p n) ∙ neg_mul R _ _) (opposite_value ρ q)
      ∙ sym (neg_sum R _ _)

  coef_nat : (n : ℕ) → coef n 0 ≡ nat R.ops n
  unfolding coef
  coef_nat n = ap (λ z. nat R.ops n ⊕ z) (neg_zero R) ∙ R.add_zero (nat R.ops n)

  coef_one : coef 1 0 ≡ 𝟙
  coef_one = coef_nat 1 ∙ R.add_zero 𝟙

  one_value : (ρ : List A) → value ρ (term 1 0 [] done) ≡ 𝟙
  unfolding value mono_value
  one_value ρ = simp (coef_one, R.add_zero, R.mul_one)

  power_value : (ρ : List A) (q : Poly) (n : ℕ) → value ρ (power q n) ≡ pow R.ops (value ρ q) n
  power_value ρ q zero = one_value ρ
  power_value ρ q (suc n) = times_value ρ q (power q n) ∙ ap (λ z. value ρ q ⊗ z) (power_value ρ q n)

  norm_value : (ρ : List A) (e : Expr) → value ρ (norm e) ≡ eval R.ops ρ e
  unfolding value mono_value
  norm_value ρ 𝟎 = refl
  norm_value ρ 𝟏 = one_value ρ
  norm_value ρ (var i) = simp (coef_one, R.add_zero, R.mul_one, one_mul R)
  norm_value ρ (num n) = put_value ρ n 0 [] done ∙ simp (coef_nat, R.add_zero, R.mul_one)
  norm_value ρ (a ⊞ b) = plus_value ρ (norm a) (norm b) ∙ ap₂ ◌⊕◌ (norm_value ρ a) (norm_value ρ b)
  norm_value ρ (a ⊠ b) = times_value ρ (norm a) (norm b) ∙ ap₂ ◌⊗◌ (norm_value ρ a) (norm_value ρ b)
  norm_value ρ (⊟ a) = opposite_value ρ (norm a) ∙ ap ⊖◌ (norm_value ρ a)
  norm_value ρ (a ⇑ n) = power_value ρ (norm a) n ∙ ap (λ z. pow R.ops z n) (norm_value ρ a)

  -- two expressions with the same normal form are equal at all values
  pub solve : (ρ : List A) (a b : Expr) → norm a ≡ norm b → eval R.ops ρ a ≡ eval R.ops ρ b
  solve ρ a b e = sym (norm_value ρ a) ∙ ap (value ρ) e ∙ norm_value ρ b

-- Reading a goal: an unknown way to evaluate expressions, of which only these laws are known, so that rewriting by them
-- turns the two sides of a goal into expressions.
pub record Reading {A : Type 0} (R : Operations A) : Type 0 where
  pub of : Expr → A
  pub zero_is : R.𝟘 ≡ of 𝟎
  pub one_is : R.𝟙 ≡ of 𝟏
  pub sum_is : (a b : Expr) → R.◌⊕◌ (of a) (of b) ≡ of (a ⊞ b)
  pub product_is : (a b : Expr) → R.◌⊗◌ (of a) (of b) ≡ of (a ⊠ b)
  pub negative_is : (a : Expr) → R.⊖◌ (of a) ≡ of (⊟ a)
  pub power_is : (a : Expr) (n : ℕ) → pow R (of a) n ≡ of (a ⇑ n)
  pub nat_is : (n : ℕ) → nat R n ≡ of (num n)
  pub equal : (a b : Expr) → norm a ≡ norm b → of a ≡ of b

module _ {A : Type 0} (R : CommRing A) where
  pub reading : List A → Reading R.ops
  reading ρ = record {
    of = eval R.ops ρ;
    zero_is = refl;
    one_is = refl;
    sum_is = λ a b. refl;
    product_is = λ a b. refl;
    negative_is = λ a. refl;
    power_is = λ a n. refl;
    nat_is = λ n. refl;
    equal = solve R ρ;
  }

  -- the atoms of the goal are the members of the list
  pub ring : (ρ : List A) {l r : A}
      → ((q : Reading R.ops) → ((i : ℕ) → coeff_of R.ops ρ i ≡ q.of (var i)) → l ≡ r) → l ≡ r
  unfolding reading
  ring ρ f = f (reading ρ) (λ i. refl)

module _ {A : Type 0} {R : Operations A} (q : Reading R) where
  pub read_zero : R.𝟘 ≡ q.of 𝟎
  read_zero = q.zero_is

  pub read_one : R.𝟙 ≡ q.of 𝟏
  read_one = q.one_is

  pub read_sum : (a b : Expr) → R.◌⊕◌ (q.of a) (q.of b) ≡ q.of (a ⊞ b)
  read_sum = q.sum_is

  pub read_product : (a b : Expr) → R.◌⊗◌ (q.of a) (q.of b) ≡ q.of (a ⊠ b)
  read_product = q.product_is

  pub read_negative : (a : Expr) → R.⊖◌ (q.of a) ≡ q.of (⊟ a)
  read_negative = q.negative_is

  pub read_power : (a : Expr) (n : ℕ) → pow R (q.of a) n ≡ q.of (a ⇑ n)
  read_power = q.power_is

  pub read_nat : (n : ℕ) → nat R n ≡ q.of (num n)
  read_nat = q.nat_is

pub ruleset reads = (read_zero, read_one, read_sum, read_product, read_negative, read_power, read_nat)

-- A goal from ring equations that are known: the difference of its sides is a linear combination of theirs. The last
-- argument is an equation for `ring`.
module _ {A : Type 0} (R : CommRing A) where
  infixl 65 ◌⊕◌
  infixl 70 ◌⊗◌
  infixr 80 ⊖◌
  open R use {𝟘, 𝟙, ◌⊕◌, ◌⊗◌, ⊖◌}

  multiple_zero : (c : A) {l r : A} → l ≡ r → c ⊗ (l ⊕ ⊖ r) ≡ 𝟘
  multiple_zero c {l} {r} h = ap (λ z. c ⊗ z) (sub_of_eq R l r h) ∙ mul_zero R c

  pub from_one : (c : A) {l r a b : A} → l ≡ r → a ⊕ ⊖ b ≡ c ⊗ (l ⊕ ⊖ r) → a ≡ b
  from_one c {a} {b} h e = eq_of_sub R a b (e ∙ multiple_zero c h)

  pub from_two : (c c' : A) {l r l' r' a b : A} → l ≡ r → l' ≡ r'
      → a ⊕ ⊖ b ≡ c ⊗ (l ⊕ ⊖ r) ⊕ c' ⊗ (l' ⊕ ⊖ r') → a ≡ b
  from_two c c' {a} {b} h h' e =
      eq_of_sub R a b (e ∙ ap₂ ◌⊕◌ (multiple_zero c h) (multiple_zero c' h') ∙ R.add_zero 𝟘)

  pub from_three : (c c' c'' : A) {l r l' r' l'' r'' a b : A} → l ≡ r → l' ≡ r' → l'' ≡ r''
      → a ⊕ ⊖ b ≡ c ⊗ (l ⊕ ⊖ r) ⊕ c' ⊗ (l' ⊕ ⊖ r') ⊕ c'' ⊗ (l'' ⊕ ⊖ r'') → a ≡ b
  from_three c c' c'' {a} {b} h h' h'' e =
      eq_of_sub R a b
      (e ∙ ap₂ ◌⊕◌ (ap₂ ◌⊕◌ (multiple_zero c h) (multiple_zero c' h') ∙ R.add_zero 𝟘) (multiple_zero c'' h'')
      ∙ R.add_zero 𝟘)
