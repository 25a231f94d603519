-- Steps of the loop that reduces a product.
use Rattle.std.proofs.Common.{◌≡◌, ℕ, zero, suc, ◌+◌, ◌-◌, ◌*◌, ◌%◌, ◌<◌, ◌≤◌, List, [], ◌∷◌, length, get_or, IsTrue, ◌⊎◌, inl, inr, refl, sym, ap, ap₂, ◌∙◌, arith, mod-lt, subst}
use Rattle.std.proofs.Math.Nat.{mod-add-mod, add-mod-mod, add-mul-mod_self_left}
use Rattle.std.proofs.lemmas.Bool.{cases_lt}
use Rattle.std.proofs.lemmas.List.{get_or_default}
use Rattle.ring_lemmas.specs.Ring.{CommRing, TestedRing}
use Rattle.ring_lemmas.specs.Lists.{coeff_of, convolution, scale_list, mul_onto}
use Rattle.ring_lemmas.proofs.Ring.{zero_add}
use Rattle.ring_lemmas.proofs.Lists.{coeff_add, coeff_scale}
use Rattle.ring_lemmas.proofs.Sequences.{convolution_null_left}
use Rattle.ff_fields.specs.Field.{CodeField}
use Rattle.ff_fields.specs.Prime.{is_listed, prime_of, prime_field}
use Rattle.ff_fields.specs.Code.{Code, code_ring, same_code, read_code, read_code_below}
use Rattle.ff_fields.specs.Over.{IsOver, get_or_below}
use Rattle.ff_fields.specs.Numbers.{read, numbers_read, numbers_get_or}
use Rattle.ff_fields.specs.Modulus.{IsReducedProduct, stepped}

-- each position of a list over the prime field is below p, also past its end
pub digit_below : (p : ℕ) → IsTrue (is_listed p) → (codes : List ℕ) → IsOver (prime_of p) codes → (n : ℕ)
    → get_or codes n 0 < p
digit_below p listed codes over n = get_or_below (prime_field p listed) codes n over

carried_below : (p : ℕ) → IsTrue (is_listed p) → (codes : List ℕ) → IsOver (prime_of p) codes → (n : ℕ)
    → get_or (0 ∷ codes) n 0 < p
carried_below p listed codes over zero = let above = (prime_field p listed).laws.one_below in omega (arith, above)
carried_below p listed codes over (suc n) = digit_below p listed codes over n

pub past_end : (xs : List ℕ) (n : ℕ) → length xs ≤ n → get_or xs n 0 ≡ 0
past_end [] n past = refl
past_end (x ∷ xs) zero past = absurd (omega arith)
past_end (x ∷ xs) (suc n) past = past_end xs n (omega arith)

past_carried : (xs : List ℕ) (n : ℕ) → length xs < n → get_or (0 ∷ xs) n 0 ≡ 0
past_carried xs zero past = absurd (omega arith)
past_carried xs (suc n) past = past_end xs n (omega arith)

at_carried : (xs : List ℕ) (n : ℕ) → 0 < n → get_or (0 ∷ xs) n 0 ≡ get_or xs (n - 1) 0
at_carried xs zero some = absurd (omega arith)
at_carried xs (suc n) some = let same : n ≡ suc n - 1 = omega arith in ap (λ i. get_or xs i 0) same

-- the multiple that was taken away and added again
given_back : (p old m r t c : ℕ) → t < p → ((old + (p - t) * m + c * r) % p + (t * m) % p) % p ≡ ((c * r) % p + old) % p
given_back p old m r t c less =
    mod-add-mod (old + (p - t) * m + c * r) p ((t * m) % p)
    ∙ add-mod-mod (old + (p - t) * m + c * r) (t * m) p
    ∙ ap (λ w. w % p) (whole (p - t) less)
    ∙ add-mul-mod_self_left (c * r + old) p m
    ∙ sym (mod-add-mod (c * r) p old)
  where
    whole : (u : ℕ) → t < p → (old + (p - t) * m + c * r) + t * m ≡ (c * r + old) + p * m
    whole u less =
        let split : p ≡ (p - t) + t = omega arith in
        let rows : p * m ≡ (p - t) * m + t * m = ap (λ w. w * m) split ∙ times_sum (p - t) t m in
        omega (arith, rows)
      where
        times_sum : (a b c : ℕ) → (a + b) * c ≡ a * c + b * c
        times_sum a b c = omega arith

-- ring equations of a step
module _ {A : Type 0} (R : CommRing A) where
  first_position : (new tm cb z : A) → z ≡ R.𝟘 → R.◌⊕◌ new tm ≡ R.◌⊕◌ cb z → R.◌⊕◌ z cb ≡ R.◌⊕◌ tm new
  first_position new tm cb z null e = R.add_comm z cb ∙ sym e ∙ R.add_comm new tm

  next_position : (new tm cb old w : A) → R.◌⊕◌ new tm ≡ R.◌⊕◌ cb old → R.◌⊕◌ (R.◌⊕◌ w old) cb ≡ R.◌⊕◌ (R.◌⊕◌ tm w) new
  next_position new tm cb old w e =
      R.add_assoc w old cb ∙ ap (R.◌⊕◌ w) (R.add_comm old cb ∙ sym e ∙ R.add_comm new tm) ∙ sym (R.add_assoc w tm new)
      ∙ ap (λ x. R.◌⊕◌ x new) (R.add_comm w tm)

-- what a step makes, at each position: the new rest and the multiple of the modulus are the old rest one position up
-- and c · row
module _ (p : ℕ) (listed : IsTrue (is_listed p)) where
  abbrev k : CodeField
  k = prime_field p listed

  abbrev K : TestedRing (Code k)
  K = code_ring k

  pub read_at : (codes : List ℕ) (n : ℕ) → IsOver (prime_of p) codes
      → (coeff_of K.ops (read k codes) n).0 ≡ get_or codes n 0
  read_at codes n over = numbers_get_or k (read k codes) n ∙ ap (λ w. get_or w n 0) (numbers_read k codes over)

  module _ (before row modulus rest : List ℕ) (c : ℕ) (some : 0 < length before) (c_in : c < p)
      (row_long : length row ≡ length before) (modulus_long : length modulus ≡ length before + 1)
      (monic : get_or modulus (length before) 0 ≡ 1) (before_in : IsOver (prime_of p) before)
      (row_in : IsOver (prime_of p) row) (modulus_in : IsOver (prime_of p) modulus)
      (rest_long : length rest ≡ length before) where
    abbrev t : ℕ
    t = get_or before (length before - 1) 0

    t_in : t < p
    t_in = digit_below p listed before before_in (length before - 1)

    balanced : ((n : ℕ) → n < length before → get_or rest n 0 ≡ stepped p before c row (p - t) modulus n) → (n : ℕ)
        → (get_or rest n 0 + (t * get_or modulus n 0) % p) % p
        ≡ ((c * get_or row n 0) % p + get_or (0 ∷ before) n 0) % p
    balanced each n = go (cases_lt n (length before))
      where
        at_top : (m : ℕ) → (n ≡ length before) ⊎ (length before < n) → get_or modulus n 0 ≡ m → get_or rest n 0 ≡ 0
            → get_or row n 0 ≡ 0 → (0 + (t * m) % p) % p ≡ ((c * 0) % p + get_or (0 ∷ before) n 0) % p
        at_top m (inl here) m_is rest_is row_is =
            let one : m ≡ 1 = sym m_is ∙ ap (λ i. get_or modulus i 0) here ∙ monic in
            let old : get_or (0 ∷ before) n 0 ≡ t = at_carried before n (omega arith)
            ∙ ap (λ i. get_or before (i - 1) 0) here in
            ap (λ w. (0 + (t * w) % p) % p) one ∙ ends t c ∙ ap (λ w. ((c * 0) % p + w) % p) (sym old)
          where
            ends : (t c : ℕ) → (0 + (t * 1) % p) % p ≡ ((c * 0) % p + t) % p
            ends t c = let one : t * 1 ≡ t
                + 0 = omega arith in let none : c * 0 ≡ 0 = omega arith in add-mod-mod 0 (t * 1) p
                ∙ ap (λ w. w % p) (sum t) ∙ sym (mod-add-mod (c * 0) p t)
              where
                sum : (t : ℕ) → 0 + t * 1 ≡ c * 0 + t
                sum t = omega arith
        at_top m (inr past) m_is rest_is row_is =
            let none : m ≡ 0 = sym m_is ∙ past_end modulus n (omega arith) in
            let old : get_or (0 ∷ before) n 0 ≡ 0 = past_carried before n past in
            ap (λ w. (0 + (t * w) % p) % p) none ∙ ends t c ∙ ap (λ w. ((c * 0) % p + w) % p) (sym old)
          where
            ends : (t c : ℕ) → (0 + (t * 0) % p) % p ≡ ((c * 0) % p + 0) % p
            ends t c = add-mod-mod 0 (t * 0) p ∙ ap (λ w. w % p) (sum t) ∙ sym (mod-add-mod (c * 0) p 0)
              where
                sum : (t : ℕ) → 0 + t * 0 ≡ c * 0 + 0
                sum t = omega arith

        split : (a b : ℕ) → b ≤ a → (a ≡ b) ⊎ (b < a)
        split a b le = elim (cases_lt b a) [ inl less ↦ inr less | inr more ↦ inl (omega arith) ]

        go : (n < length before) ⊎ (length before ≤ n)
            → (get_or rest n 0 + (t * get_or modulus n 0) % p) % p
            ≡ ((c * get_or row n 0) % p + get_or (0 ∷ before) n 0) % p
        go (inl less) = rw (each n less)
            (given_back p (get_or (0 ∷ before) n 0) (get_or modulus n 0) (get_or row n 0) t c t_in)
        go (inr more) =
            let rest_is = past_end rest n (omega arith) in
            let row_is = past_end row n (omega arith) in
            rw (rest_is, row_is) (at_top (get_or modulus n 0) (split n (length before) more) refl rest_is row_is)

    pub rest_over : ((n : ℕ) → n < length before → get_or rest n 0 ≡ stepped p before c row (p - t) modulus n)
        → IsOver (prime_of p) rest
    rest_over each = record {
      each = λ i d less.
          subst (λ w. w < p) (sym (get_or_default rest i d 0 less ∙ each i (omega arith)))
          (mod-lt (get_or (0 ∷ before) i 0 + (p - t) * get_or modulus i 0 + c * get_or row i 0) pos);
    }
      where
        pos : 0 < p
        pos = let above = k.laws.one_below in omega (arith, above)

    abbrev u : Code k
    u = read_code k t

    abbrev v : Code k
    v = read_code k c

    -- the same over the prime field
    step_at : ((n : ℕ) → n < length before → get_or rest n 0 ≡ stepped p before c row (p - t) modulus n) → (n : ℕ)
        → K.◌⊕◌ (coeff_of K.ops (read k rest) n) (K.◌⊗◌ u (coeff_of K.ops (read k modulus) n))
        ≡ K.◌⊕◌ (K.◌⊗◌ v (coeff_of K.ops (read k row) n)) (coeff_of K.ops (K.𝟘 ∷ read k before) n)
    step_at each n =
        same_code k _ _
        (ap₂ (λ x y. (x + y) % p) (read_at rest n (rest_over each))
        (ap₂ (λ x y. (x * y) % p) (read_code_below k t t_in) (read_at modulus n modulus_in))
        ∙ balanced each n
        ∙ sym (ap₂ (λ x y. (x + y) % p) (ap₂ (λ x y. (x * y) % p) (read_code_below k c c_in) (read_at row n row_in))
        (carried n)))
      where
        carried : (n : ℕ) → (coeff_of K.ops (K.𝟘 ∷ read k before) n).0 ≡ get_or (0 ∷ before) n 0
        carried zero = refl
        carried (suc n) = read_at before n before_in

    -- one position more is reduced
    more_at : ((n : ℕ) → n < length before → get_or rest n 0 ≡ stepped p before c row (p - t) modulus n)
        → (a start quotient : List ℕ) → IsReducedProduct p a row start quotient modulus before → (n : ℕ)
        → coeff_of K.ops (mul_onto K.ops (read k (c ∷ a)) (read k row) (read k start)) n
        ≡ K.◌⊕◌ (convolution K.ops (coeff_of K.ops (read k (t ∷ quotient))) (coeff_of K.ops (read k modulus)) n)
        (coeff_of K.ops (read k rest) n)
    more_at each a start quotient done n =
        coeff_add K (K.𝟘 ∷ mul_onto K.ops (read k a) (read k row) (read k start)) (scale_list K.ops v (read k row)) n
        ∙ ap (K.◌⊕◌ (coeff_of K.ops (K.𝟘 ∷ mul_onto K.ops (read k a) (read k row) (read k start)) n))
        (coeff_scale K v (read k row) n)
        ∙ go n
      where
        go : (n : ℕ) → K.◌⊕◌ (coeff_of K.ops (K.𝟘 ∷ mul_onto K.ops (read k a) (read k row) (read k start)) n)
            (K.◌⊗◌ v (coeff_of K.ops (read k row) n))
            ≡ K.◌⊕◌ (convolution K.ops (coeff_of K.ops (read k (t ∷ quotient))) (coeff_of K.ops (read k modulus)) n)
            (coeff_of K.ops (read k rest) n)
        go zero = first_position K.ring _ _ _ _ refl (step_at each zero)
        go (suc n) =
            ap (λ w. K.◌⊕◌ w (K.◌⊗◌ v (coeff_of K.ops (read k row) (suc n)))) (done.whole listed n)
            ∙ next_position K.ring _ _ _ _ _ (step_at each (suc n))

pub reduced_more : (p : ℕ) (before row modulus rest : List ℕ) (c : ℕ) → 0 < length before → c < p
    → length row ≡ length before → length modulus ≡ length before + 1 → get_or modulus (length before) 0 ≡ 1
    → IsOver (prime_of p) before → IsOver (prime_of p) row → IsOver (prime_of p) modulus → length rest ≡ length before
    → ((n : ℕ) → n < length before → get_or rest n 0
    ≡ stepped p before c row (p - get_or before (length before - 1) 0) modulus n) → (a start quotient : List ℕ)
    → IsReducedProduct p a row start quotient modulus before
    → IsReducedProduct p (c ∷ a) row start (get_or before (length before - 1) 0 ∷ quotient) modulus rest
reduced_more p before row modulus rest c some c_in row_long modulus_long monic before_in row_in modulus_in rest_long
    each a start quotient done = record {
      whole = λ listed. more_at p listed before row modulus rest c some c_in row_long modulus_long
          monic before_in row_in
          modulus_in rest_long each a start quotient done;
    }

-- nothing is reduced yet
pub reduced_none : (p : ℕ) (row modulus before : List ℕ) → IsReducedProduct p [] row before [] modulus before
reduced_none p row modulus before = record {
  whole = λ listed n.
      let r = code_ring (prime_field p listed) in
      sym (ap (λ w. r.◌⊕◌ w (coeff_of r.ops (read (prime_field p listed) before) n))
      (convolution_null_left r.ring (λ _. r.𝟘) (coeff_of r.ops (read (prime_field p listed) modulus)) (λ _. refl) n)
      ∙ zero_add r.ring _);
}
