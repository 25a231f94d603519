-- Powers of a code that is not 0, and their logarithms.
use Rattle.std.specs.Prelude.{◌≢◌, ◌-◌, ◌*◌, ◌≤◌}
use Rattle.std.proofs.Common.{◌≡◌, ℕ, zero, suc, ◌+◌, ◌/◌, ◌%◌, ◌<◌, refl, sym, ap, ◌∙◌, arith, zero-add}
use Rattle.std.proofs.Math.Nat.{div-add-mod}
use Rattle.ring_lemmas.proofs.Ring.{mul_zero}
use Rattle.ff_fields.specs.Field.{CodeField, pow_of}
use Rattle.ff_fields.specs.Code.{code_ring, zero_in}
use Rattle.ff_fields.proofs.Power.{pow_of_below, mul_one}

module _ (k : CodeField) where
  pub pow_of_add : (a i j : ℕ) → a < k.size → pow_of k.ops a (i + j) ≡ k.mul (pow_of k.ops a i) (pow_of k.ops a j)
  pow_of_add a zero j a_in = ap (pow_of k.ops a) (zero-add j)
      ∙ sym (k.laws.one_mul (pow_of k.ops a j) (pow_of_below k a j a_in))
  pow_of_add a (suc i) j a_in =
      let next : suc i + j ≡ suc (i + j) = omega arith in
      ap (pow_of k.ops a) next
      ∙ ap (k.mul a) (pow_of_add a i j a_in)
      ∙ sym (k.laws.mul_assoc a (pow_of k.ops a i) (pow_of k.ops a j) a_in (pow_of_below k a i a_in)
      (pow_of_below k a j a_in))

  pub pow_of_mul : (a i e : ℕ) → a < k.size → pow_of k.ops (pow_of k.ops a i) e ≡ pow_of k.ops a (i * e)
  pow_of_mul a i zero a_in = let none : i * 0 ≡ 0 = omega arith in ap (pow_of k.ops a) (sym none)
  pow_of_mul a i (suc e) a_in =
      ap (k.mul (pow_of k.ops a i)) (pow_of_mul a i e a_in)
      ∙ sym (pow_of_add a i (i * e) a_in)
      ∙ ap (pow_of k.ops a) (next i e)
    where
      next : (i e : ℕ) → i + i * e ≡ i * suc e
      next i e = omega arith

  pub null_mul : (a : ℕ) → a < k.size → k.mul a 0 ≡ 0
  null_mul a a_in = ap (λ x. x.0) (mul_zero (code_ring k).ring (a, a_in))

  -- a factor that is not 0 may be dropped
  pub cancel : (a b c : ℕ) → a < k.size → b < k.size → c < k.size → a ≢ 0 → k.mul a b ≡ k.mul a c → b ≡ c
  cancel a b c a_in b_in c_in some same = sym (back b b_in) ∙ ap (k.mul (k.inv a)) same ∙ back c c_in
    where
      back : (x : ℕ) → x < k.size → k.mul (k.inv a) (k.mul a x) ≡ x
      back x x_in =
          sym (k.laws.mul_assoc (k.inv a) a x (k.laws.inv_below a a_in some) a_in x_in)
          ∙ ap (λ w. k.mul w x) (k.laws.inv_mul a a_in some)
          ∙ k.laws.one_mul x x_in

  -- what makes 1 with a is its inverse
  pub inverse_is : (a b : ℕ) → a < k.size → b < k.size → a ≢ 0 → k.mul a b ≡ 1 → b ≡ k.inv a
  inverse_is a b a_in b_in some one =
      let inverse_in = k.laws.inv_below a a_in some in
      cancel a b (k.inv a) a_in b_in inverse_in some
      (one ∙ sym (k.laws.inv_mul a a_in some) ∙ k.laws.mul_comm (k.inv a) a inverse_in a_in)

  pub pow_of_some : (a e : ℕ) → a < k.size → a ≢ 0 → pow_of k.ops a e ≢ 0
  pow_of_some a zero a_in some null = absurd (omega (arith, null))
  pow_of_some a (suc e) a_in some null =
      pow_of_some a e a_in some (cancel a (pow_of k.ops a e) 0 a_in (pow_of_below k a e a_in) (zero_in k) some
      (null ∙ sym (null_mul a a_in)))

  pub pow_of_order : (a : ℕ) → a < k.size → a ≢ 0 → pow_of k.ops a (k.size - 1) ≡ 1
  pow_of_order a a_in some =
      let whole : suc (k.size - 1) ≡ k.size = omega (arith, k.laws.one_below) in
      cancel a (pow_of k.ops a (k.size - 1)) 1 a_in (pow_of_below k a (k.size - 1) a_in) k.laws.one_below some
      (ap (pow_of k.ops a) whole ∙ k.laws.pow_size a a_in ∙ sym (mul_one k a a_in))

  pub pow_of_one : (e : ℕ) → pow_of k.ops 1 e ≡ 1
  pow_of_one zero = refl
  pow_of_one (suc e) = ap (k.mul 1) (pow_of_one e) ∙ k.laws.one_mul 1 k.laws.one_below

  -- exponents count modulo q - 1
  pub pow_of_mod : (a e : ℕ) → a < k.size → a ≢ 0 → pow_of k.ops a (e % (k.size - 1)) ≡ pow_of k.ops a e
  pow_of_mod a e a_in some =
      let n = k.size - 1 in
      let rest = pow_of k.ops a (e % n) in
      let rest_in = pow_of_below k a (e % n) a_in in
      sym (
      ap (pow_of k.ops a) (parts n e)
      ∙ pow_of_add a (n * (e / n)) (e % n) a_in
      ∙ ap (λ w. k.mul w rest) (sym (pow_of_mul a n (e / n) a_in)
      ∙ ap (λ w. pow_of k.ops w (e / n)) (pow_of_order a a_in some) ∙ pow_of_one (e / n))
      ∙ k.laws.one_mul rest rest_in
      )
    where
      parts : (n e : ℕ) → e ≡ n * (e / n) + e % n
      parts n e = sym (div-add-mod e n)

  -- equal powers differ by an exponent whose power is 1
  pub pow_of_gap : (a i j : ℕ) → a < k.size → a ≢ 0 → i ≤ j → pow_of k.ops a i ≡ pow_of k.ops a j
      → pow_of k.ops a (j - i) ≡ 1
  pow_of_gap a i j a_in some le same =
      let whole : i + (j - i) ≡ j = omega arith in
      cancel (pow_of k.ops a i) (pow_of k.ops a (j - i)) 1 (pow_of_below k a i a_in) (pow_of_below k a (j - i) a_in)
      k.laws.one_below (pow_of_some a i a_in some)
      (sym (pow_of_add a i (j - i) a_in) ∙ ap (pow_of k.ops a) whole ∙ sym same
      ∙ sym (mul_one k _ (pow_of_below k a i a_in)))
