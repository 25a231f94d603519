-- Products of integers.
use Rattle.std.proofs.Common.{◌≡◌, zero, suc, ℤ, pos, negsuc, ◌+ℤ◌, ◌*ℤ◌, sym, ap₂, ◌∙◌, arith}
use Rattle.std.proofs.lemmas.Int.{ints}
use Rattle.std.proofs.Math.IntN.{zero-*ℤ, suc_ℤ-*ℤ, pred_ℤ-*ℤ}

-- a multiple of a sum is the sum of the multiples
pub *ℤ-sum : (m a b : ℤ) → m *ℤ (a +ℤ b) ≡ m *ℤ a +ℤ m *ℤ b
*ℤ-sum (pos zero) a b = zero-*ℤ (a +ℤ b) ∙ sym (ap₂ (λ x y. x +ℤ y) (zero-*ℤ a) (zero-*ℤ b))
*ℤ-sum (pos (suc n)) a b =
    let all = suc_ℤ-*ℤ (pos n) (a +ℤ b) in
    let left = suc_ℤ-*ℤ (pos n) a in
    let right = suc_ℤ-*ℤ (pos n) b in
    let rest = *ℤ-sum (pos n) a b in omega (arith, ints)
*ℤ-sum (negsuc zero) a b =
    let all = pred_ℤ-*ℤ (pos zero) (a +ℤ b) in
    let left = pred_ℤ-*ℤ (pos zero) a in
    let right = pred_ℤ-*ℤ (pos zero) b in
    omega (arith, ints, zero-*ℤ (a +ℤ b), zero-*ℤ a, zero-*ℤ b)
*ℤ-sum (negsuc (suc n)) a b =
    let all = pred_ℤ-*ℤ (negsuc n) (a +ℤ b) in
    let left = pred_ℤ-*ℤ (negsuc n) a in
    let right = pred_ℤ-*ℤ (negsuc n) b in
    let rest = *ℤ-sum (negsuc n) a b in omega (arith, ints)
