-- An element z is integral over S where a span over S that has 1 is closed under multiplication by z. The proof takes
-- no determinant: it eliminates one generator at a time from the equations that say how z acts on the generators.
use Rattle.std.proofs.Common.{◌≡◌, ℕ, zero, suc, ◌<◌, ◌≤◌, ◌+◌, eqb, cond, ◌⊎◌, inl, inr, eq-or-lt_of_le, le_of_suc-le-suc, List, [], ◌∷◌, length, refl, sym, ◌∙◌, ap, ap₂, subst, All, add_comm, suc-add, zero-add, arith}
use Rattle.std.proofs.lemmas.Bool.{eq-eqb, ne_eqb}
use Rattle.std.proofs.lemmas.List.Elements.{All-head, All-tail}
use Rattle.ring_lemmas.specs.Lists.{coeff_of}
use Rattle.ring_lemmas.specs.Ring.{Operations, CommRing, pow}
use Rattle.ring_lemmas.specs.Sums.{sum_below}
use Rattle.ring_theory.specs.Subsets.{IsSubring, Span}
use Rattle.ring_theory.specs.Integral.{IsIntegral}
use Rattle.ring_lemmas.proofs.Ring.{zero_add, one_mul, mul_zero, zero_mul, add_mul, mul_left_comm, pow_add}
use Rattle.ring_lemmas.proofs.Solver.{ring, reads, from_two, var, ◌⊞◌, ◌⊠◌, ⊟◌}
use Rattle.ring_theory.proofs.Subsets.{span_module}
use Rattle.ring_lemmas.proofs.Sums.{below_cong, below_add, below_scale, below_neg, below_zero, below_first}

-- s plus z times a member of a further set
pub record Stepped {A : Type 0} (R : Operations A) (S : A → Type 0) (z : A) (Rest : A → Type 0) (a : A) : Type 0 where
  pub constant : A
  pub constant_in : S constant
  pub rest : A
  pub rest_in : Rest rest
  pub is : a ≡ R.◌⊕◌ constant (R.◌⊗◌ z rest)

-- the values at z of the polynomials over S of degree below n
abbrev pub Low : {A : Type 0} → Operations A → (A → Type 0) → A → ℕ → A → Type 0
Low R S z zero a = a ≡ R.𝟘
Low R S z (suc n) a = Stepped R S z (Low R S z n) a

-- the values at z of the monic polynomials over S of degree n
pub record Monic {A : Type 0} (R : Operations A) (S : A → Type 0) (z : A) (n : ℕ) (a : A) : Type 0 where
  pub rest : A
  pub rest_in : Low R S z n rest
  pub is : a ≡ R.◌⊕◌ (pow R z n) rest

-- a sequence with one more term in front
cons : {A : Type 0} → A → (ℕ → A) → ℕ → A
cons a f zero = a
cons a f (suc i) = f i

-- z on the diagonal
diagonal_at : {A : Type 0} → Operations A → A → ℕ → ℕ → A
diagonal_at R z i j = cond (eqb i j) z R.𝟘

module _ {A : Type 0} (R : CommRing A) (S : A → Type 0) (𝓢 : IsSubring R.ops S) (z : A) where
  infixl 65 ◌⊕◌
  infixl 70 ◌⊗◌
  infixr 80 ⊖◌
  open R use {𝟘, 𝟙, ◌⊕◌, ◌⊗◌, ⊖◌}

  pub low_zero : (n : ℕ) → Low R.ops S z n 𝟘
  low_zero zero = refl
  low_zero (suc n) = record {
    constant = 𝟘;
    constant_in = 𝓢.zero_in;
    rest = 𝟘;
    rest_in = low_zero n;
    is = ring R (z ∷ []) λ q x. simp (reads, q, x 0) (q.equal _ _ refl);
  }

  pub low_sum : (n : ℕ) (a b : A) → Low R.ops S z n a → Low R.ops S z n b → Low R.ops S z n (a ⊕ b)
  low_sum zero a b h k = ap₂ ◌⊕◌ h k ∙ R.add_zero 𝟘
  low_sum (suc n) a b h k = record {
    constant = h.constant ⊕ k.constant;
    constant_in = 𝓢.sum_in _ _ h.constant_in k.constant_in;
    rest = h.rest ⊕ k.rest;
    rest_in = low_sum n _ _ h.rest_in k.rest_in;
    is = ap₂ ◌⊕◌ h.is k.is
        ∙ ring R (z ∷ h.constant ∷ k.constant ∷ h.rest ∷ k.rest ∷ []) λ q x.
        simp (reads, q, x 0, x 1, x 2, x 3, x 4) (q.equal _ _ refl);
  }

  pub low_scale : (n : ℕ) (s a : A) → S s → Low R.ops S z n a → Low R.ops S z n (s ⊗ a)
  low_scale zero s a m h = ap (λ x. s ⊗ x) h ∙ mul_zero R s
  low_scale (suc n) s a m h = record {
    constant = s ⊗ h.constant;
    constant_in = 𝓢.product_in _ _ m h.constant_in;
    rest = s ⊗ h.rest;
    rest_in = low_scale n s _ m h.rest_in;
    is = ap (λ x. s ⊗ x) h.is
        ∙ ring R (z ∷ s ∷ h.constant ∷ h.rest ∷ []) λ q x. simp (reads, q, x 0, x 1, x 2, x 3) (q.equal _ _ refl);
  }

  pub low_neg : (n : ℕ) (a : A) → Low R.ops S z n a → Low R.ops S z n (⊖ a)
  low_neg n a h =
      let e : ⊖ 𝟙 ⊗ a ≡ ⊖ a = ring R (a ∷ []) λ q x. simp (reads, q, x 0) (q.equal _ _ refl) in
      subst (Low R.ops S z n) e (low_scale n (⊖ 𝟙) a (𝓢.neg_in 𝟙 𝓢.one_in) h)

  -- the constants
  pub low_constant : (s : A) → S s → Low R.ops S z 1 s
  low_constant s m = record {
    constant = s;
    constant_in = m;
    rest = 𝟘;
    rest_in = refl;
    is = ring R (s ∷ z ∷ []) λ q x. simp (reads, q, x 0, x 1) (q.equal _ _ refl);
  }

  -- multiplication by z, and by its powers
  pub low_shift : (n : ℕ) (a : A) → Low R.ops S z n a → Low R.ops S z (suc n) (z ⊗ a)
  low_shift n a h = record {
    constant = 𝟘;
    constant_in = 𝓢.zero_in;
    rest = a;
    rest_in = h;
    is = ring R (a ∷ z ∷ []) λ q x. simp (reads, q, x 0, x 1) (q.equal _ _ refl);
  }

  pub low_power : (k n : ℕ) (a : A) → Low R.ops S z n a → Low R.ops S z (k + n) (pow R.ops z k ⊗ a)
  low_power zero n a h = rw (zero-add, one_mul R) h
  low_power (suc k) n a h = rw (suc-add, R.mul_assoc) (low_shift (k + n) (pow R.ops z k ⊗ a) (low_power k n a h))

  pub low_up : (n : ℕ) (a : A) → Low R.ops S z n a → Low R.ops S z (suc n) a
  low_up zero a h = subst (Low R.ops S z 1) (sym h) (low_zero 1)
  low_up (suc n) a h = record {
    constant = h.constant;
    constant_in = h.constant_in;
    rest = h.rest;
    rest_in = low_up n h.rest h.rest_in;
    is = h.is;
  }

  pub low_more : (k n : ℕ) (a : A) → Low R.ops S z n a → Low R.ops S z (k + n) a
  low_more zero n a h = rw zero-add h
  low_more (suc k) n a h = rw suc-add (low_up (k + n) a (low_more k n a h))

  pub low_product : (m n : ℕ) (a b : A) → Low R.ops S z m a → Low R.ops S z n b → Low R.ops S z (m + n) (a ⊗ b)
  low_product zero n a b h k = subst (Low R.ops S z (0 + n)) (sym (zero_mul R b) ∙ ap (λ x. x ⊗ b) (sym h))
      (low_zero (0 + n))
  low_product (suc m) n a b h k =
      let e : h.constant ⊗ b ⊕ z ⊗ (h.rest ⊗ b) ≡ a ⊗ b
      = ap (λ x. h.constant ⊗ b ⊕ x) (sym (R.mul_assoc _ _ _)) ∙ sym (add_mul R _ _ _) ∙ ap (λ x. x ⊗ b) (sym h.is) in
      let first : Low R.ops S z (suc (m + n)) (h.constant ⊗ b)
      = low_up (m + n) _ (low_more m n _ (low_scale n _ _ h.constant_in k)) in
      let others : Low R.ops S z (suc (m + n)) (z ⊗ (h.rest ⊗ b))
      = low_shift (m + n) _ (low_product m n _ _ h.rest_in k) in
      rw suc-add (subst (Low R.ops S z (suc (m + n))) e (low_sum (suc (m + n)) _ _ first others))

  pub low_monic : (m n : ℕ) (a b : A) → Low R.ops S z m a → Monic R.ops S z n b → Low R.ops S z (m + n) (a ⊗ b)
  low_monic m n a b h k =
      let e : pow R.ops z n ⊗ a ⊕ a ⊗ k.rest ≡ a ⊗ b
      = ap (λ x. x ⊕ a ⊗ k.rest) (R.mul_comm _ _) ∙ sym (R.mul_add _ _ _) ∙ ap (λ x. a ⊗ x) (sym k.is) in
      let first : Low R.ops S z (m + n) (pow R.ops z n ⊗ a) = rw (add_comm m n) (low_power n m a h) in
      subst (Low R.ops S z (m + n)) e (low_sum (m + n) _ _ first (low_product m n _ _ h k.rest_in))

  pub monic_product : (m n : ℕ) (a b : A) → Monic R.ops S z m a → Monic R.ops S z n b → Monic R.ops S z (m + n) (a ⊗ b)
  monic_product m n a b h k = record {
    rest = pow R.ops z m ⊗ k.rest ⊕ h.rest ⊗ b;
    rest_in = low_sum (m + n) _ _ (low_power m n _ k.rest_in) (low_monic m n _ _ h.rest_in k);
    is =
        let p = pow R.ops z m in
        let r = pow R.ops z n in
        let e : (p ⊕ h.rest) ⊗ b ≡ p ⊗ b ⊕ h.rest ⊗ b = add_mul R _ _ _ in
        let f : p ⊗ b ≡ p ⊗ r ⊕ p ⊗ k.rest = ap (λ x. p ⊗ x) k.is ∙ R.mul_add _ _ _ in
        ap (λ x. x ⊗ b) h.is ∙ e ∙ ap (λ x. x ⊕ h.rest ⊗ b) f ∙ R.add_assoc _ _ _
        ∙ ap (λ x. x ⊕ (p ⊗ k.rest ⊕ h.rest ⊗ b)) (sym (pow_add R z m n));
  }

  pub monic_add_low : (n : ℕ) (a r : A) → Monic R.ops S z n a → Low R.ops S z n r → Monic R.ops S z n (a ⊕ r)
  monic_add_low n a r h k = record {
    rest = h.rest ⊕ r;
    rest_in = low_sum n _ _ h.rest_in k;
    is = ap (λ x. x ⊕ r) h.is ∙ R.add_assoc _ _ _;
  }

  -- n equations in the generators b, with monic values of one degree on the diagonal and lower values elsewhere
  record System (n degree : ℕ) (b : ℕ → A) : Type 0 where
    entry : ℕ → ℕ → A
    diagonal : (i : ℕ) → i < n → Monic R.ops S z degree (entry i i)
    elsewhere : (i j : ℕ) → i < n → j < n → ¬ (i ≡ j) → Low R.ops S z degree (entry i j)
    equation : (i : ℕ) → i < n → sum_below R.ops n (λ j. entry i j ⊗ b j) ≡ 𝟘

  eliminated : (n : ℕ) → (ℕ → ℕ → A) → ℕ → ℕ → A
  eliminated n p i j = p i j ⊗ p n n ⊕ ⊖ (p i n ⊗ p n j)

  eliminated_equation : (n : ℕ) (p : ℕ → ℕ → A) (b : ℕ → A) (i : ℕ)
      → sum_below R.ops (suc n) (λ j. p i j ⊗ b j) ≡ 𝟘
      → sum_below R.ops (suc n) (λ j. p n j ⊗ b j) ≡ 𝟘
      → sum_below R.ops n (λ j. eliminated n p i j ⊗ b j) ≡ 𝟘
  unfolding eliminated
  eliminated_equation n p b i e f =
      let x = sum_below R.ops n (λ j. p i j ⊗ b j) in
      let y = sum_below R.ops n (λ j. p n j ⊗ b j) in
      let terms : (j : ℕ) → (p i j ⊗ p n n ⊕ ⊖ (p i n ⊗ p n j)) ⊗ b j ≡ p n n ⊗ (p i j ⊗ b j) ⊕ ⊖ p i n ⊗ (p n j ⊗ b j)
      = λ j. ring R (p i j ∷ p n n ∷ p i n ∷ p n j ∷ b j ∷ []) λ q h.
      simp (reads, q, h 0, h 1, h 2, h 3, h 4) (q.equal _ _ refl) in
      let sums : sum_below R.ops n (λ j. (p i j ⊗ p n n ⊕ ⊖ (p i n ⊗ p n j)) ⊗ b j) ≡ p n n ⊗ x ⊕ ⊖ p i n ⊗ y
      = below_cong R n _ _ (λ j l. terms j)
      ∙ below_add R n _ _
      ∙ ap₂ ◌⊕◌ (below_scale R n (p n n) (λ j. p i j ⊗ b j)) (below_scale R n (⊖ p i n) (λ j. p n j ⊗ b j)) in
      let e' : x ⊕ p i n ⊗ b n ≡ 𝟘 = e in
      let f' : y ⊕ p n n ⊗ b n ≡ 𝟘 = f in
      sums ∙ from_two R (p n n) (⊖ p i n) e' f' (ring R (p n n ∷ p i n ∷ x ∷ y ∷ b n ∷ []) λ q h.
      simp (reads, q, h 0, h 1, h 2, h 3, h 4) (q.equal _ _ refl))

  eliminate : (n degree : ℕ) (b : ℕ → A) → System (suc n) degree b → System n (degree + degree) b
  unfolding eliminated
  eliminate n d b s = record {
    entry = eliminated n s.entry;
    diagonal = λ i l.
        monic_add_low (d + d) _ _
        (monic_product d d _ _ (s.diagonal i (omega arith)) (s.diagonal n (omega arith)))
        (lower i i l l);
    elsewhere = λ i j l l' ne.
        low_sum (d + d) _ _
        (low_monic d d _ _ (s.elsewhere i j (omega arith) (omega arith) ne) (s.diagonal n (omega arith)))
        (lower i j l l');
    equation = λ i l.
        eliminated_equation n s.entry b i (s.equation i (omega arith)) (s.equation n (omega arith));
  }
    where
      lower : (i j : ℕ) → i < n → j < n → Low R.ops S z (d + d) (⊖ (s.entry i n ⊗ s.entry n j))
      lower i j l l' =
          low_neg (d + d) _
          (low_product d d _ _
          (s.elsewhere i n (omega arith) (omega arith) (λ e. omega arith))
          (s.elsewhere n j (omega arith) (omega arith) (λ e. omega arith)))

  -- what is left of a system: its first generator alone
  record Last (b : ℕ → A) : Type 0 where
    degree : ℕ
    positive : 0 < degree
    left : A
    left_monic : Monic R.ops S z degree left
    kills : left ⊗ b 0 ≡ 𝟘

  last : (n degree : ℕ) (b : ℕ → A) → 0 < degree → System (suc n) degree b → Last b
  last zero d b l s = record {
    degree = d;
    positive = l;
    left = s.entry 0 0;
    left_monic = s.diagonal 0 (omega arith);
    kills = sym (zero_add R _) ∙ s.equation 0 (omega arith);
  }
  last (suc n) d b l s = last n (d + d) b (omega arith) (eliminate (suc n) d b s)

  -- from the multiple of a generator in the span, a row of the system

  record Row (bs : List A) (a : A) : Type 0 where
    coefficient : ℕ → A
    coefficient_in : (i : ℕ) → S (coefficient i)
    is : a ≡ sum_below R.ops (length bs) (λ i. coefficient i ⊗ coeff_of R.ops bs i)

  row : (bs : List A) (a : A) → Span R.ops S bs a → Row bs a
  unfolding cons
  row [] a h = record { coefficient = λ i. 𝟘; coefficient_in = λ i. 𝓢.zero_in; is = h }
  row (b ∷ bs) a h =
      let r = row bs h.rest h.rest_in in
      record {
        coefficient = cons h.scalar r.coefficient;
        coefficient_in = elim [ zero ↦ h.scalar_in | suc i ↦ r.coefficient_in i ];
        is =
            h.is ∙ ap (λ x. h.scalar ⊗ b ⊕ x) r.is
            ∙ sym (below_first R (length bs) (λ i. cons h.scalar r.coefficient i ⊗ coeff_of R.ops (b ∷ bs) i));
      }

  diagonal_same : (i : ℕ) → diagonal_at R.ops z i i ≡ z
  unfolding diagonal_at
  diagonal_same i = ap (λ t. cond t z 𝟘) (eq-eqb i i refl)

  diagonal_other : (i j : ℕ) → ¬ (i ≡ j) → diagonal_at R.ops z i j ≡ 𝟘
  unfolding diagonal_at
  diagonal_other i j ne = ap (λ t. cond t z 𝟘) (ne_eqb i j ne)

  diagonal_none : (n : ℕ) (b : ℕ → A) (i : ℕ) → n ≤ i → sum_below R.ops n (λ j. diagonal_at R.ops z i j ⊗ b j) ≡ 𝟘
  diagonal_none n b i l =
      below_cong R n _ _ (λ j k. ap (λ x. x ⊗ b j) (diagonal_other i j (λ e. omega arith)) ∙ zero_mul R (b j))
      ∙ below_zero R n

  diagonal_sum : (n : ℕ) (b : ℕ → A) (i : ℕ) → i < n → sum_below R.ops n (λ j. diagonal_at R.ops z i j ⊗ b j) ≡ z ⊗ b i
  diagonal_sum zero b i l = absurd (omega arith)
  diagonal_sum (suc n) b i l = go (eq-or-lt_of_le (le_of_suc-le-suc l)) (diagonal_sum n b i)
    where
      go : (i ≡ n) ⊎ (i < n) → (i < n → sum_below R.ops n (λ j. diagonal_at R.ops z i j ⊗ b j) ≡ z ⊗ b i)
          → sum_below R.ops (suc n) (λ j. diagonal_at R.ops z i j ⊗ b j) ≡ z ⊗ b i
      go (inl e) ih =
          ap₂ ◌⊕◌
          (diagonal_none n b i (omega arith))
          (ap (λ k. diagonal_at R.ops z i k ⊗ b k) (sym e) ∙ ap (λ x. x ⊗ b i) (diagonal_same i))
          ∙ zero_add R _
      go (inr k) ih =
          ap₂ ◌⊕◌ (ih k) (ap (λ x. x ⊗ b n) (diagonal_other i n (λ e. omega arith)) ∙ zero_mul R (b n))
          ∙ R.add_zero _

  start : (bs : List A) → ((i : ℕ) → Span R.ops S bs (z ⊗ coeff_of R.ops bs i))
      → System (length bs) 1 (coeff_of R.ops bs)
  start bs h = record {
    entry = λ i j. diagonal_at R.ops z i j ⊕ ⊖ c i j;
    diagonal = λ i l. record {
      rest = ⊖ c i i;
      rest_in = low_constant (⊖ c i i) (c_in i i);
      is = ap (λ x. x ⊕ ⊖ c i i) (diagonal_same i ∙ sym (R.mul_one z));
    };
    elsewhere = λ i j l l' ne.
        subst (Low R.ops S z 1)
        (sym (zero_add R _) ∙ ap (λ x. x ⊕ ⊖ c i j) (sym (diagonal_other i j ne)))
        (low_constant (⊖ c i j) (c_in i j));
    equation = λ i l.
        below_cong R (length bs) _ _ (λ j k.
        times_gap (diagonal_at R.ops z i j) (c i j) (coeff_of R.ops bs j))
        ∙ below_add R (length bs) _ _
        ∙ ap₂ ◌⊕◌ (diagonal_sum (length bs) (coeff_of R.ops bs) i l) (below_neg R (length bs) _)
        ∙ ap (λ x. z ⊗ coeff_of R.ops bs i ⊕ ⊖ x) (sym (row bs _ (h i)).is)
        ∙ R.add_neg _;
  }
    where
      times_gap : (u v w : A) → (u ⊕ ⊖ v) ⊗ w ≡ u ⊗ w ⊕ ⊖ (v ⊗ w)
      times_gap u v w = ring R (u ∷ v ∷ w ∷ []) λ q x. simp (reads, q, x 0, x 1, x 2)
          (q.equal ((var 0 ⊞ ⊟ var 1) ⊠ var 2) (var 0 ⊠ var 2 ⊞ ⊟ (var 1 ⊠ var 2)) refl)

      c : ℕ → ℕ → A
      c i = (row bs (z ⊗ coeff_of R.ops bs i) (h i)).coefficient

      c_in : (i j : ℕ) → S (⊖ c i j)
      c_in i j = 𝓢.neg_in _ ((row bs (z ⊗ coeff_of R.ops bs i) (h i)).coefficient_in j)

  spans_at : (cs bs : List A) → All (λ b. Span R.ops S cs (z ⊗ b)) bs → (i : ℕ)
      → Span R.ops S cs (z ⊗ coeff_of R.ops bs i)
  spans_at cs [] h i = subst (Span R.ops S cs) (sym (mul_zero R z)) (span_module R S 𝓢 cs).zero_in
  spans_at cs (b ∷ bs) h zero = All-head (λ b. Span R.ops S cs (z ⊗ b)) b bs h
  spans_at cs (b ∷ bs) h (suc i) = spans_at cs bs (All-tail (λ b. Span R.ops S cs (z ⊗ b)) b bs h) i

  -- the value of a polynomial, by its coefficients
  record Polynomial (n : ℕ) (a : A) : Type 0 where
    coefficient : ℕ → A
    coefficient_in : (i : ℕ) → S (coefficient i)
    is : a ≡ sum_below R.ops n (λ i. coefficient i ⊗ pow R.ops z i)

  polynomial : (n : ℕ) (a : A) → Low R.ops S z n a → Polynomial n a
  unfolding cons
  polynomial zero a h = record { coefficient = λ i. 𝟘; coefficient_in = λ i. 𝓢.zero_in; is = h }
  polynomial (suc n) a h =
      let r = polynomial n h.rest h.rest_in in
      let c = cons h.constant r.coefficient in
      record {
        coefficient = c;
        coefficient_in = elim [ zero ↦ h.constant_in | suc i ↦ r.coefficient_in i ];
        is =
            h.is
            ∙ ap₂ ◌⊕◌ (sym (R.mul_one _))
            (ap (λ x. z ⊗ x) r.is
            ∙ sym (below_scale R n z _)
            ∙ below_cong R n _ _ (λ i l. mul_left_comm R z (r.coefficient i) (pow R.ops z i)))
            ∙ sym (below_first R n (λ i. c i ⊗ pow R.ops z i));
      }

  pub integral : (bs : List A) → All (λ b. Span R.ops S (𝟙 ∷ bs) (z ⊗ b)) (𝟙 ∷ bs) → IsIntegral R.ops S z
  integral bs h =
      let l = last (length bs) 1 (coeff_of R.ops (𝟙 ∷ bs)) (omega arith) (start (𝟙 ∷ bs) (spans_at (𝟙 ∷ bs) (𝟙 ∷ bs) h))
      in
      let p = polynomial l.degree l.left_monic.rest l.left_monic.rest_in in
      record {
        degree = l.degree;
        positive = l.positive;
        coefficient = p.coefficient;
        coefficient_in = p.coefficient_in;
        root =
            ap (λ x. pow R.ops z l.degree ⊕ x) (sym p.is) ∙ sym l.left_monic.is ∙ sym (R.mul_one l.left) ∙ l.kills;
      }
