-- Powers of a code by squaring.
use Rattle.std.proofs.Common.{◌≡◌, ℕ, zero, suc, ◌+◌, ◌/◌, ◌%◌, ◌<◌, ◌⊎◌, refl, sym, ap, inl, inr, ◌∙◌, arith}
use Rattle.ff_fields.specs.Field.{CodeField, pow_of}

module _ (k : CodeField) where
  pub pow_of_below : (a e : ℕ) → a < k.size → pow_of k.ops a e < k.size
  pow_of_below a zero a_in = k.laws.one_below
  pow_of_below a (suc e) a_in = k.laws.mul_below a (pow_of k.ops a e) a_in (pow_of_below a e a_in)

  pub pow_of_double : (a e : ℕ) → a < k.size → pow_of k.ops a (e + e) ≡ pow_of k.ops (k.mul a a) e
  pow_of_double a zero a_in = refl
  pow_of_double a (suc e) a_in =
      let twice : suc e + suc e ≡ suc (suc (e + e)) = omega arith in
      let rest = pow_of k.ops (k.mul a a) e in
      ap (pow_of k.ops a) twice
      ∙ ap (λ w. k.mul a (k.mul a w)) (pow_of_double a e a_in)
      ∙ sym (k.laws.mul_assoc a a rest a_in a_in (pow_of_below (k.mul a a) e (k.laws.mul_below a a a_in a_in)))

  pub pow_of_even : (a e : ℕ) → a < k.size → e % 2 ≡ 0 → pow_of k.ops a e ≡ pow_of k.ops (k.mul a a) (e / 2)
  pow_of_even a e a_in even = let halves : e ≡ e / 2 + e / 2 = omega arith in ap (pow_of k.ops a) halves
      ∙ pow_of_double a (e / 2) a_in

  -- an odd power, beside a factor
  pub pow_of_odd : (b a e : ℕ) → b < k.size → a < k.size → e % 2 ≡ 1
      → k.mul b (pow_of k.ops a e) ≡ k.mul (k.mul b a) (pow_of k.ops (k.mul a a) (e / 2))
  pow_of_odd b a e b_in a_in odd =
      let halves : e ≡ suc (e / 2 + e / 2) = omega arith in
      let rest = pow_of k.ops (k.mul a a) (e / 2) in
      ap (λ w. k.mul b (pow_of k.ops a w)) halves
      ∙ ap (λ w. k.mul b (k.mul a w)) (pow_of_double a (e / 2) a_in)
      ∙ sym (k.laws.mul_assoc b a rest b_in a_in (pow_of_below (k.mul a a) (e / 2) (k.laws.mul_below a a a_in a_in)))

  pub mul_one : (a : ℕ) → a < k.size → k.mul a 1 ≡ a
  mul_one a a_in = k.laws.mul_comm a 1 a_in k.laws.one_below ∙ k.laws.one_mul a a_in

  -- one turn of the loop: an odd exponent gives its factor to `power`, and then the base is squared
  pub power_turn : (power square left total power' square' : ℕ) → power < k.size → square < k.size
      → k.mul power (pow_of k.ops square left) ≡ total
      → ((left % 2 ≡ 1) × (power' ≡ k.mul power square)) ⊎ ((left % 2 ≡ 0) × (power' ≡ power))
      → square' ≡ k.mul square square → (power' < k.size) × (square' < k.size)
      × (k.mul power' (pow_of k.ops square' (left / 2)) ≡ total)
  power_turn power square left total power' square' power_in square_in kept (inl (odd, p_is)) s_is = (
    rw p_is (k.laws.mul_below power square power_in square_in),
    rw s_is (k.laws.mul_below square square square_in square_in),
    rw (p_is, s_is) (sym (pow_of_odd power square left power_in square_in odd) ∙ kept),
  )
  power_turn power square left total power' square' power_in square_in kept (inr (even, p_is)) s_is = (
    rw p_is power_in,
    rw s_is (k.laws.mul_below square square square_in square_in),
    rw (p_is, s_is) (ap (k.mul power) (sym (pow_of_even square left square_in even)) ∙ kept),
  )
