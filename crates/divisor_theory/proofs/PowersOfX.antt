-- The powers of x with exponents in the integers: exponents add on products.
use Rattle.std.proofs.Common.{◌≡◌, ℕ, suc, ◌+◌, sym, ◌∙◌, ap, ap₂, arith}
use Rattle.std.proofs.lemmas.Int.{ints}
use Rattle.std.proofs.Math.IntN.{ℤ, pos, negsuc, ◌+ℤ◌, ◌-ℤ◌}
use Rattle.ring_lemmas.specs.Ring.{pow}
use Rattle.ring_lemmas.proofs.Ring.{one_mul, mul_mul, pow_add}
use Rattle.prime_theory.specs.IntegerValues.{up, down}
use Rattle.ff_fields.specs.Field.{CodeField}
use Rattle.function_field.specs.Divisors.{x_to}
use Rattle.function_field.specs.Functions.{Equation, FunctionOf, ring_of, setting_of}
use Rattle.space_theory.proofs.InfiniteBases.{x_to_t}

-- an integer is its positive part less its negative part
parts_of : (m : ℤ) → m ≡ pos (up m) -ℤ pos (down m)
parts_of (pos n) = omega (arith, ints)
parts_of (negsuc n) = omega (arith, ints)

module _ {k : CodeField} (c : Equation k) where
  infixl 70 ◌⊗◌
  open ring_of c use {ops, 𝟙, ◌⊗◌}

  abbrev X : ℕ → FunctionOf c
  X n = pow (ring_of c).ops (setting_of c).x n

  abbrev T : ℕ → FunctionOf c
  T n = pow (ring_of c).ops (setting_of c).one_over_x n

  by_parts : (m : ℤ) → x_to (setting_of c) m ≡ X (up m) ⊗ T (down m)
  by_parts (pos n) = sym ((ring_of c).mul_one (X n))
  by_parts (negsuc n) = sym (one_mul (ring_of c) (T (suc n)))

  -- x^i·t^j, raised
  raised : (i j l : ℕ) → X i ⊗ T j ≡ X (i + l) ⊗ T (j + l)
  raised i j l =
      sym ((ring_of c).mul_one (X i ⊗ T j)) ∙ ap (λ w. X i ⊗ T j ⊗ w) (sym (x_to_t c l))
      ∙ mul_mul (ring_of c) (X i) (T j) (X l) (T l)
      ∙ ap₂ ◌⊗◌ (sym (pow_add (ring_of c) (setting_of c).x i l))
      (sym (pow_add (ring_of c) (setting_of c).one_over_x j l))

  same_power : (i j i' j' : ℕ) → i + j' ≡ i' + j → X i ⊗ T j ≡ X i' ⊗ T j'
  same_power i j i' j' e =
      raised i j j' ∙ ap₂ (λ a b. X a ⊗ T b) e (let w : j + j' ≡ j' + j = omega arith in w) ∙ sym (raised i' j' j)

  pub x_to_sum : (m l : ℤ) → x_to (setting_of c) (m +ℤ l) ≡ x_to (setting_of c) m ⊗ x_to (setting_of c) l
  x_to_sum m l =
      let a = parts_of m in
      let b = parts_of l in
      let e = parts_of (m +ℤ l) in
      let w : up (m +ℤ l) + (down m + down l) ≡ (up m + up l) + down (m +ℤ l) = omega (arith, ints) in
      by_parts (m +ℤ l) ∙ same_power (up (m +ℤ l)) (down (m +ℤ l)) (up m + up l) (down m + down l) w
      ∙ ap₂ ◌⊗◌ (pow_add (ring_of c) (setting_of c).x (up m) (up l))
      (pow_add (ring_of c) (setting_of c).one_over_x (down m) (down l))
      ∙ mul_mul (ring_of c) (X (up m)) (X (up l)) (T (down m)) (T (down l))
      ∙ ap₂ ◌⊗◌ (sym (by_parts m)) (sym (by_parts l))
