-- Positions, degrees and columns: numbers s·w + j with j < w.
use Rattle.std.proofs.Common.{◌≡◌, ◌≢◌, ℕ, zero, suc, ◌<◌, ◌≤◌, ◌+◌, ◌*◌, ◌-◌, ◌/◌, ◌%◌, ◌⊎◌, inl, inr, refl, sym, ◌∙◌, ap, arith, add-mul}
use Rattle.std.proofs.lemmas.Nat.{div-add-mod', mod_below, mod-mul-add, mul-le, row_fits}
use Rattle.std.proofs.lemmas.Bool.{cases_lt}
use Rattle.popov_theory.specs.Module.{column}

module _ (w : ℕ) (positive : 0 < w) where
  -- a larger degree moves a position by a whole width
  pub row_le : (a b : ℕ) → a < b → a * w + w ≤ b * w
  row_le a b less = row_fits a w b w less (omega arith)

  pub degree_less : (a b i j : ℕ) → i < w → a * w + j < b * w + i → a ≤ b
  degree_less a b i j i_below h = go (cases_lt b a)
    where
      go : (b < a) ⊎ (a ≤ b) → a ≤ b
      go (inl more) = absurd (omega (arith, row_le b a more))
      go (inr le) = le

  -- to a column that isn't further to the right, the degree must rise
  pub degree_rises : (a b i j : ℕ) → i ≤ j → a * w + j < b * w + i → a < b
  degree_rises a b i j le h = go (cases_lt a b)
    where
      go : (a < b) ⊎ (b ≤ a) → a < b
      go (inl less) = less
      go (inr more) = absurd (omega (arith, mul-le b w a w more (omega arith)))

  mod_shift : (s n : ℕ) → (s * w + n) % w ≡ n % w
  mod_shift s n =
      ap (λ x. (s * w + x) % w) (sym (div-add-mod' n w))
      ∙ ap (λ x. x % w) (omega (arith, add-mul s (n / w) w))
      ∙ mod-mul-add (s + n / w) w (n % w) (mod_below n w positive)

  -- the column is kept by x
  pub column_shift : (s n : ℕ) → n ≢ 0 → column w (s * w + n) ≡ column w n
  column_shift s zero some = absurd (some refl)
  column_shift s (suc n) some =
      let e : s * w + suc n - 1 ≡ s * w + n = omega arith in
      let f : suc n - 1 ≡ n = omega arith in
      ap (λ x. x % w) e ∙ mod_shift s n ∙ ap (λ x. x % w) (sym f)

  pub column_at : (s j : ℕ) → j < w → column w (suc (s * w + j)) ≡ j
  column_at s j less =
      let e : suc (s * w + j) - 1 ≡ s * w + j = omega arith in
      ap (λ x. x % w) e ∙ mod-mul-add s w j less

  -- how many times x moves a number of positions to another of its column
  pub record Above (a b : ℕ) : Type 0 where
    pub times : ℕ
    pub is : a ≡ times * w + b

  pub above : (a b : ℕ) → a ≢ 0 → b ≢ 0 → b ≤ a → column w a ≡ column w b → Above a b
  above zero b a_some b_some le e = absurd (a_some refl)
  above (suc a) zero a_some b_some le e = absurd (b_some refl)
  above (suc a) (suc b) a_some b_some le e = record {
    times = a / w - b / w;
    is =
        let split_a = div-add-mod' a w in
        let split_b = div-add-mod' b w in
        let back : (a / w - b / w) * w + b / w * w ≡ a / w * w = sym (add-mul (a / w - b / w) (b / w) w)
        ∙ ap (λ x. x * w) (omega (arith, degrees)) in
        omega (arith, split_a, split_b, back, same_column);
  }
    where
      same_column : a % w ≡ b % w
      same_column =
          let f : suc a - 1 ≡ a = omega arith in
          let g : suc b - 1 ≡ b = omega arith in
          ap (λ x. x % w) (sym f) ∙ e ∙ ap (λ x. x % w) g

      go : (b / w < suc (a / w)) ⊎ (suc (a / w) ≤ b / w) → b / w ≤ a / w
      go (inl less) = omega arith
      go (inr more) =
          absurd (omega (arith, row_le (a / w) (b / w) more, div-add-mod' a w, div-add-mod' b w, same_column))

      degrees : b / w ≤ a / w
      degrees = go (cases_lt (b / w) (suc (a / w)))
