-- The unit rows, of which each row is the combination by its entries.
use Rattle.std.proofs.Common.{◌≡◌, ℕ, zero, suc, ◌<◌, List, [], ◌∷◌, length, get_or, map, replicate, All, refl, ap, ap₂, ◌∙◌, arith, subst}
use Rattle.std.proofs.lemmas.List.{length-map, length-replicate}
use Rattle.std.proofs.lemmas.List.Elements.{All-nil, All-cons, All-head, All-tail}
use Rattle.ring_lemmas.specs.Lists.{add_lists, scale_list}
use Rattle.ff_fields.specs.Field.{CodeField}
use Rattle.ff_fields.specs.Code.{raw_ring, zero_in}
use Rattle.ff_fields.specs.Over.{IsOver, IsOver_head, IsOver_tail, IsOver_cons, IsOver_zeros}
use Rattle.linear_theory.specs.Module.{combination}
use Rattle.ff_linalg.specs.Steps.{unit_row}
use Rattle.ff_linalg.specs.Space.{row_ops}
use Rattle.ff_falg.specs.Algebras.{IsVector}
use Rattle.ff_falg.proofs.Lists.{code_add_zero, code_mul_zero, lists_comm, lists_zero, scale_zeros}

-- the n unit rows of n codes
abbrev pub unit_rows : ℕ → List (List ℕ)
unit_rows zero = []
unit_rows (suc n) = (1 ∷ replicate n 0) ∷ map (λ r. 0 ∷ r) (unit_rows n)

pub length_unit_rows : (n : ℕ) → length (unit_rows n) ≡ n
length_unit_rows zero = refl
length_unit_rows (suc n) = ap suc (length-map (unit_rows n) (λ r. 0 ∷ r) ∙ length_unit_rows n)

get_map : (rows : List (List ℕ)) (i : ℕ) → i < length rows → get_or (map (λ r. 0 ∷ r) rows) i [] ≡ 0 ∷ get_or rows i []
get_map [] i l = absurd (omega arith)
get_map (r ∷ rows) zero l = refl
get_map (r ∷ rows) (suc i) l = get_map rows i (omega arith)

pub unit_rows_get : (n i : ℕ) → i < n → get_or (unit_rows n) i [] ≡ unit_row n i
unit_rows_get zero i l = absurd (omega arith)
unit_rows_get (suc n) zero l = refl
unit_rows_get (suc n) (suc i) l =
    get_map (unit_rows n) i (omega (arith, length_unit_rows n)) ∙ ap (λ r. 0 ∷ r) (unit_rows_get n i (omega arith))

module _ (k : CodeField) where
  longer : (n : ℕ) (rows : List (List ℕ)) → All (IsVector k.ops n) rows
      → All (IsVector k.ops (suc n)) (map (λ r. 0 ∷ r) rows)
  longer n [] all = All-nil (IsVector k.ops (suc n))
  longer n (r ∷ rows) all =
      let h = All-head (IsVector k.ops n) r rows all in
      All-cons (IsVector k.ops (suc n)) (0 ∷ r) (map (λ r. 0 ∷ r) rows)
      (record { size = ap suc h.size; over = IsOver_cons (zero_in k) h.over })
      (longer n rows (All-tail (IsVector k.ops n) r rows all))

  pub unit_rows_in : (n : ℕ) → All (IsVector k.ops n) (unit_rows n)
  unit_rows_in zero = All-nil (IsVector k.ops 0)
  unit_rows_in (suc n) =
      All-cons (IsVector k.ops (suc n)) (1 ∷ replicate n 0) (map (λ r. 0 ∷ r) (unit_rows n))
      (record { size = ap suc (length-replicate {A = ℕ} n 0); over = IsOver_cons k.laws.one_below (IsOver_zeros k n) })
      (longer n (unit_rows n) (unit_rows_in n))

  combination_longer : (n : ℕ) (cs : List ℕ) (rows : List (List ℕ)) → IsOver k.ops cs
      → combination (row_ops k.ops (suc n)) cs (map (λ r. 0 ∷ r) rows) ≡ 0 ∷ combination (row_ops k.ops n) cs rows
  combination_longer n [] rows cs_in = refl
  combination_longer n (c ∷ cs) [] cs_in = refl
  combination_longer n (c ∷ cs) (r ∷ rows) cs_in =
      ap (add_lists (raw_ring k.ops) (scale_list (raw_ring k.ops) c (0 ∷ r)))
      (combination_longer n cs rows (IsOver_tail cs_in))
      ∙ ap (λ x. x ∷ add_lists (raw_ring k.ops) (scale_list (raw_ring k.ops) c r)
      (combination (row_ops k.ops n) cs rows))
      (ap (λ x. k.add x 0) (code_mul_zero k c (IsOver_head cs_in)) ∙ code_add_zero k 0 (zero_in k))

  pub combination_units : (xs : List ℕ) → IsOver k.ops xs
      → combination (row_ops k.ops (length xs)) xs (unit_rows (length xs)) ≡ xs
  combination_units [] xs_in = refl
  combination_units (x ∷ xs) xs_in =
      ap (add_lists (raw_ring k.ops) (scale_list (raw_ring k.ops) x (1 ∷ replicate (length xs) 0)))
      (combination_longer (length xs) xs (unit_rows (length xs)) (IsOver_tail xs_in))
      ∙ ap₂ (λ y ys. y ∷ ys)
      (ap (λ y. k.add y 0) (k.laws.mul_comm x 1 (IsOver_head xs_in) k.laws.one_below
      ∙ k.laws.one_mul x (IsOver_head xs_in))
      ∙ code_add_zero k x (IsOver_head xs_in))
      (ap₂ (add_lists (raw_ring k.ops)) (scale_zeros k x (length xs) (IsOver_head xs_in))
      (combination_units xs (IsOver_tail xs_in))
      ∙ lists_comm k (replicate (length xs) 0) xs (IsOver_zeros k (length xs)) (IsOver_tail xs_in)
      ∙ lists_zero k xs (IsOver_tail xs_in))

  pub unit_in : (n i : ℕ) → i < n → IsVector k.ops n (unit_row n i)
  unit_in n i l = subst (IsVector k.ops n) (unit_rows_get n i l)
      (unit_rows_in n i [] (omega (arith, length_unit_rows n)))
