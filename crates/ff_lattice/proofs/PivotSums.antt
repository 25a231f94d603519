-- Sums of the degrees of pivots, and the integers that hold them.
use Rattle.std.proofs.Common.{◌≡◌, ℕ, suc, ◌+◌, ◌-◌, ◌*◌, ◌^◌, ◌<◌, ◌≤◌, ◌⊎◌, inl, inr, List, [], ◌∷◌, length, drop, get_or, refl, subst, sym, ap, ap₂, ◌∙◌, arith, pos, ◌+ℤ◌, ◌-ℤ◌, ◌*ℤ◌, to_z, of_z}
use Rattle.std.specs.Int.{w128}
use Rattle.std.proofs.Math.Seq.{drop-cons}
use Rattle.std.proofs.Math.IntN.{pos-*ℤ-pos, pos-+ℤ-pos}
use Rattle.std.proofs.Math.Facts.{to_z_pos, to_z-of_z}
use Rattle.std.proofs.Math.Nat.{mul-le-mul}
use Rattle.std.proofs.lemmas.Bool.{cases_lt}
use Rattle.std.proofs.lemmas.Int.{ints}
use Rattle.std.proofs.lemmas.List.{get_or_past}
use Rattle.std.specs.Global.{Vec}
use Rattle.ff_poly.specs.Popov.{entry_at, row_at, rows_of, pivot_degree, pivot_degree_from, IsPopovMatrix}
use Rattle.ff_popov.proofs.Entries.{any_default}
use Rattle.ff_lattice.proofs.Pushes.{read_row}
use Rattle.ff_lattice.specs.Steps.{pivot_sum}

-- the first i rows and those from i on
split : (rest rows : List (List (List ℕ))) (i : ℕ) → rest ≡ drop i rows → i + length rest ≡ length rows
    → pivot_sum rows i + pivot_degree_from i rest ≡ pivot_sum rows (length rows)
split [] rows i rest_is is =
    let end : i ≡ length rows = omega (arith, is) in
    omega (arith, ap (pivot_sum rows) end)
split (row ∷ rest) rows i rest_is is =
    let all = rest_is ∙ drop-cons rows i [] (omega (arith, is)) in
    let row_is : row ≡ row_at rows i = ap (λ xs. get_or xs 0 []) all in
    let rest_is' : rest ≡ drop (suc i) rows = ap (drop 1) all in
    omega (arith, ap (λ r. length (entry_at r i)) row_is, split rest rows (suc i) rest_is' (omega (arith, is)))

pub whole_sum : (rows : List (List (List ℕ))) → pivot_sum rows (length rows) ≡ pivot_degree rows
whole_sum rows = omega (arith, split rows rows 0 refl (omega arith))

pub next_sum : (rows : List (List (List ℕ))) (i : ℕ)
    → pivot_sum rows (i + 1) ≡ pivot_sum rows i + (length (entry_at (row_at rows i) i) - 1)
next_sum rows i =
    let next : i + 1 ≡ suc i = omega arith in
    ap (pivot_sum rows) next

-- one more pivot
pub added : (bits s i d : ℕ) → to_z w128 bits ≡ pos s → s ≤ i * 2 ^ 64 → i < 2 ^ 62 → d < 2 ^ 64
    → to_z w128 (of_z w128 (to_z w128 bits +ℤ to_z w128 d)) ≡ pos (s + d)
added bits s i d is low few small =
    ap (λ z. to_z w128 (of_z w128 z)) (ap₂ (λ a b. a +ℤ b) is (to_z_pos w128 (omega (arith, small))) ∙ pos-+ℤ-pos s d)
    ∙ to_z-of_z {w = w128} {z = pos (s + d)} (record { sfits = omega (arith, low, few, small) })

product_small : (n d : ℕ) → n < 2 ^ 62 → d < 2 ^ 64 → n * d < 2 ^ 127
product_small n d few small =
    let n_le : n ≤ 2 ^ 62 = omega (arith, few) in
    let d_le : d ≤ 2 ^ 64 = omega (arith, small) in
    let most = mul-le-mul n_le d_le in
    omega (arith, most)

-- the sum less the product
pub reduced : (bits s n d : ℕ) → to_z w128 bits ≡ pos s → n < 2 ^ 62 → d < 2 ^ 64 → s ≤ n * 2 ^ 64
    → to_z w128 (of_z w128 (to_z w128 bits -ℤ to_z w128 (of_z w128 (to_z w128 n *ℤ to_z w128 d))))
    ≡ pos s -ℤ pos (n * d)
reduced bits s n d is few small low =
    let product : to_z w128 (of_z w128 (to_z w128 n *ℤ to_z w128 d)) ≡ pos (n * d) =
    ap (λ z. to_z w128 (of_z w128 z)) (ap₂ (λ a b. a *ℤ b) (to_z_pos w128 (omega (arith, few)))
    (to_z_pos w128 (omega (arith, small))) ∙ pos-*ℤ-pos n d)
    ∙ to_z-of_z {w = w128} {z = pos (n * d)} (record { sfits = product_small n d few small }) in
    ap (λ z. to_z w128 (of_z w128 z)) (ap₂ (λ a b. a -ℤ b) is product)
    ∙ to_z-of_z {w = w128} {z = pos s -ℤ pos (n * d)} (omega (arith, ints, low, few, product_small n d few small))

-- the pivot of a row that is read
module _ (width : ℕ) (vs : List (Vec (List ℕ))) (popov : IsPopovMatrix width (rows_of vs)) (i : ℕ) (less : i < length vs)
    (wide : length vs ≡ width) (v : Vec (List ℕ)) (v_is : v ≡ get_or vs i v) where
  pub pivot_some : 0 < length (entry_at v.items i)
  pivot_some = subst (λ row. 0 < length (entry_at row i)) (sym (read_row vs i v less v_is))
      (popov.pivot_at i (omega (arith, less, wide))).some

  pub entry_inside : i < length v.items
  entry_inside = go (cases_lt i (length v.items))
    where
      go : (i < length v.items) ⊎ (length v.items ≤ i) → i < length v.items
      go (inl inside) = inside
      go (inr past) = absurd (omega (arith, pivot_some, ap length (get_or_past v.items i [] past)))

  pub pivot_is : (w : List ℕ) → w ≡ get_or v.items i w → w ≡ entry_at (row_at (rows_of vs) i) i
  pivot_is w w_is = w_is ∙ any_default v.items i w [] entry_inside
      ∙ ap (λ row. entry_at row i) (read_row vs i v less v_is)
