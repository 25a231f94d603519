-- How many codes a class has: the sum of the degrees of the ideal's pivots, less those of the order's.
use Rattle.std.proofs.Common.{◌≡◌, ℕ, zero, suc, ◌+◌, ◌-◌, ◌*◌, ◌<◌, ◌≤◌, ◌⊎◌, inl, inr, true, false, cond, nat_lt, List, refl, sym, ap, ap₂, ◌∙◌, arith, suc-mul}
use Rattle.std.proofs.lemmas.Bool.{cases_lt, ltb-true, lt-ltb, le-ltb}
use Rattle.std.proofs.lemmas.Nat.{div-mul-add, mod-mul-add}
use Rattle.ff_lattice.specs.Steps.{pivot_sum}
use Rattle.ff_lattice.specs.PositionLists.{pivot_length, is_outside, is_kept, code_count}
use Rattle.ff_lattice.proofs.PositionCodes.{true_or_false}
use Rattle.ff_lattice.proofs.PositionClasses.{count_outside, count_kept, count_ideal}

-- 1 where a list of this length has a code behind that of x^t
one_behind : ℕ → ℕ → ℕ
one_behind len t = cond (nat_lt (suc t) len) 1 0

behind_one : (len t : ℕ) → nat_lt (suc t) len ≡ true → one_behind len t ≡ 1
unfolding one_behind
behind_one len t e = ap (λ b. cond b 1 0) e

behind_none : (len t : ℕ) → nat_lt (suc t) len ≡ false → one_behind len t ≡ 0
unfolding one_behind
behind_none len t e = ap (λ b. cond b 1 0) e

-- the number of powers of x below x^t with a code behind theirs
degree_to : ℕ → ℕ → ℕ
degree_to len zero = 0
degree_to len (suc t) = degree_to len t + one_behind len t

-- the same of the first j pivots
behind_all : List (List (List ℕ)) → ℕ → ℕ → ℕ
behind_all rows t zero = 0
behind_all rows t (suc j) = behind_all rows t j + one_behind (pivot_length rows j) t

degrees_to : List (List (List ℕ)) → ℕ → ℕ → ℕ
degrees_to rows t zero = 0
degrees_to rows t (suc j) = degrees_to rows t j + degree_to (pivot_length rows j) t

degrees_next : (rows : List (List (List ℕ))) (t j : ℕ)
    → degrees_to rows (suc t) j ≡ degrees_to rows t j + behind_all rows t j
unfolding degrees_to degree_to behind_all
degrees_next rows t zero = refl
degrees_next rows t (suc j) = omega (arith, degrees_next rows t j)

degrees_zero : (rows : List (List (List ℕ))) (j : ℕ) → degrees_to rows 0 j ≡ 0
unfolding degrees_to degree_to
degrees_zero rows zero = refl
degrees_zero rows (suc j) = omega (arith, degrees_zero rows j)

-- below the degree all of them, and no more than the degree
degree_below : (len t : ℕ) → suc t ≤ len → degree_to len t ≡ t
unfolding degree_to
degree_below len zero le = refl
degree_below len (suc t) le = omega (
  arith,
  degree_below len t (omega (arith, le)),
  behind_one len t
      (lt-ltb (suc t) len (omega (arith, le))),
)

degree_whole : (len t : ℕ) → len ≤ suc t → degree_to len t ≡ len - 1
unfolding degree_to
degree_whole len zero le = omega (arith, le)
degree_whole len (suc t) le = go (cases_lt (suc t) len) (degree_whole len t)
  where
    go : (suc t < len) ⊎ (len ≤ suc t) → (len ≤ suc t → degree_to len t ≡ len - 1)
        → degree_to len t + one_behind len t ≡ len - 1
    go (inl less) h = omega (
      arith,
      le,
      less,
      degree_below len t (omega (arith, less)),
      behind_one len t
          (lt-ltb (suc t) len less),
    )
    go (inr more) h = omega (arith, h more, behind_none len t (le-ltb (suc t) len more))

degrees_whole : (rows : List (List (List ℕ))) (t j : ℕ) → ((i : ℕ) → i < j → pivot_length rows i ≤ suc t)
    → degrees_to rows t j ≡ pivot_sum rows j
unfolding degrees_to
degrees_whole rows t zero h = refl
degrees_whole rows t (suc j) h =
    omega (
      arith,
      degrees_whole rows t j (λ i less. h i (omega (arith, less))),
      degree_whole (pivot_length rows j) t
          (h j (omega arith)),
    )

module _ (n : ℕ) (order ideal : List (List (List ℕ)))
    (longer : (j : ℕ) → j < n → pivot_length order j ≤ pivot_length ideal j) where
  abbrev count : ℕ → ℕ
  count e = code_count n order ideal e

  -- one position
  count_position : (t j : ℕ) → j < n → count (suc (t * n + j)) + one_behind (pivot_length order j) t
      ≡ count (t * n + j) + one_behind (pivot_length ideal j) t
  count_position t j less = go (true_or_false (is_outside n order ideal e)) (true_or_false (is_kept n order ideal e))
    where
      e : ℕ
      e = t * n + j

      outside_is : is_outside n order ideal (t * n + j) ≡ nat_lt (suc t) (pivot_length order j)
      outside_is = ap₂ (λ s i. nat_lt (suc s) (pivot_length order i)) (div-mul-add t n j less) (mod-mul-add t n j less)

      kept_is : is_kept n order ideal (t * n + j) ≡ nat_lt (suc t) (pivot_length ideal j)
      kept_is = ap₂ (λ s i. nat_lt (suc s) (pivot_length ideal i)) (div-mul-add t n j less) (mod-mul-add t n j less)

      go : (is_outside n order ideal (t * n + j) ≡ true) ⊎ (is_outside n order ideal (t * n + j) ≡ false)
          → (is_kept n order ideal (t * n + j) ≡ true) ⊎ (is_kept n order ideal (t * n + j) ≡ false)
          → count (suc (t * n + j)) + one_behind (pivot_length order j) t
          ≡ count (t * n + j) + one_behind (pivot_length ideal j) t
      go (inl o) q =
          let under : suc t < pivot_length order j = ltb-true (suc t) (pivot_length order j) (sym outside_is ∙ o) in
          let under' : suc t < pivot_length ideal j = omega (arith, under, longer j less) in
          omega (
            arith,
            count_outside n order ideal e o,
            behind_one (pivot_length order j) t
                (lt-ltb (suc t) (pivot_length order j) under),
            behind_one (pivot_length ideal j) t
                (lt-ltb (suc t) (pivot_length ideal j) under'),
          )
      go (inr o) (inl q) =
          omega (
            arith,
            count_kept n order ideal e o q,
            behind_none (pivot_length order j) t (sym outside_is ∙ o),
            behind_one (pivot_length ideal j) t (sym kept_is ∙ q),
          )
      go (inr o) (inr q) =
          omega (
            arith,
            count_ideal n order ideal e o q,
            behind_none (pivot_length order j) t (sym outside_is ∙ o),
            behind_none (pivot_length ideal j) t (sym kept_is ∙ q),
          )

  -- the positions of one power of x
  count_power : (t j : ℕ) → j ≤ n → count (t * n + j) + behind_all order t j ≡ count (t * n) + behind_all ideal t j
  unfolding behind_all
  count_power t zero le =
      let e : t * n + 0 ≡ t * n = omega arith in
      ap (λ e. count e + 0) e
  count_power t (suc j) le =
      let e : t * n + suc j ≡ suc (t * n + j) = omega arith in
      omega (arith, ap count e, count_position t j (omega (arith, le)), count_power t j (omega (arith, le)))

  count_powers : (t : ℕ) → count (t * n) + degrees_to order t n ≡ degrees_to ideal t n
  count_powers zero =
      let e : 0 * n ≡ 0 = omega arith in
      omega (arith, ap count e, degrees_zero order n, degrees_zero ideal n)
  count_powers (suc t) =
      let e : suc t * n ≡ t * n + n = omega (arith, suc-mul t n) in
      omega (
        arith,
        ap count e,
        count_powers t,
        count_power t n (omega arith),
        degrees_next order t n,
        degrees_next
            ideal t n,
      )

  pub count_degrees : (depth : ℕ) → ((j : ℕ) → j < n → pivot_length ideal j ≤ depth)
      → count (depth * n) + pivot_sum order n ≡ pivot_sum ideal n
  count_degrees depth deep =
      omega (
        arith,
        count_powers depth,
        degrees_whole order depth n (λ j less. omega (arith, longer j less, deep j less)),
        degrees_whole ideal depth n (λ j less. omega (arith, deep j less)),
      )
