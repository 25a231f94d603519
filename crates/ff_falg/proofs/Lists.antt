-- The laws of sums and multiples of lists of codes.
use Rattle.std.proofs.Common.{◌≡◌, ℕ, zero, suc, ◌<◌, List, [], ◌∷◌, length, replicate, refl, ap, ap₂, ◌∙◌}
use Rattle.ff_fields.specs.Field.{CodeField}
use Rattle.ff_fields.specs.Code.{raw_ring, code_ring}
use Rattle.ff_fields.specs.Over.{IsOver, IsOver_head, IsOver_tail}
use Rattle.ring_lemmas.proofs.Ring.{zero_mul, mul_zero}
use Rattle.ring_lemmas.specs.Lists.{add_lists, neg_list, scale_list}

module _ (k : CodeField) where
  pub code_zero_mul : (c : ℕ) → c < k.size → k.mul 0 c ≡ 0
  code_zero_mul c c_in = ap (λ x. x.0) (zero_mul (code_ring k).ring (c, c_in))

  pub code_mul_zero : (c : ℕ) → c < k.size → k.mul c 0 ≡ 0
  code_mul_zero c c_in = ap (λ x. x.0) (mul_zero (code_ring k).ring (c, c_in))

  pub code_add_zero : (c : ℕ) → c < k.size → k.add c 0 ≡ c
  code_add_zero c c_in = ap (λ x. x.0) ((code_ring k).add_zero (c, c_in))

  pub code_add_neg : (c : ℕ) → c < k.size → k.add c (k.neg c) ≡ 0
  code_add_neg c c_in = ap (λ x. x.0) ((code_ring k).add_neg (c, c_in))

  code_add_mul : (c d x : ℕ) → c < k.size → d < k.size → x < k.size
      → k.mul (k.add c d) x ≡ k.add (k.mul c x) (k.mul d x)
  code_add_mul c d x c_in d_in x_in =
      k.laws.mul_comm _ x (k.laws.add_below c d c_in d_in) x_in ∙ k.laws.mul_add x c d x_in c_in d_in
      ∙ ap₂ k.add (k.laws.mul_comm x c x_in c_in) (k.laws.mul_comm x d x_in d_in)

  pub lists_comm : (xs ys : List ℕ) → IsOver k.ops xs → IsOver k.ops ys
      → add_lists (raw_ring k.ops) xs ys ≡ add_lists (raw_ring k.ops) ys xs
  lists_comm [] [] xs_in ys_in = refl
  lists_comm [] (y ∷ ys) xs_in ys_in = refl
  lists_comm (x ∷ xs) [] xs_in ys_in = refl
  lists_comm (x ∷ xs) (y ∷ ys) xs_in ys_in =
      ap₂ ◌∷◌ (k.laws.add_comm x y (IsOver_head xs_in) (IsOver_head ys_in))
      (lists_comm xs ys (IsOver_tail xs_in) (IsOver_tail ys_in))

  pub lists_assoc : (xs ys zs : List ℕ) → IsOver k.ops xs → IsOver k.ops ys → IsOver k.ops zs
      → add_lists (raw_ring k.ops) (add_lists (raw_ring k.ops) xs ys) zs
      ≡ add_lists (raw_ring k.ops) xs (add_lists (raw_ring k.ops) ys zs)
  lists_assoc [] ys zs xs_in ys_in zs_in = refl
  lists_assoc (x ∷ xs) [] zs xs_in ys_in zs_in = refl
  lists_assoc (x ∷ xs) (y ∷ ys) [] xs_in ys_in zs_in = refl
  lists_assoc (x ∷ xs) (y ∷ ys) (z ∷ zs) xs_in ys_in zs_in =
      ap₂ ◌∷◌ (k.laws.add_assoc x y z (IsOver_head xs_in) (IsOver_head ys_in) (IsOver_head zs_in))
      (lists_assoc xs ys zs (IsOver_tail xs_in) (IsOver_tail ys_in) (IsOver_tail zs_in))

  pub lists_zero : (xs : List ℕ) → IsOver k.ops xs → add_lists (raw_ring k.ops) xs (replicate (length xs) 0) ≡ xs
  lists_zero [] xs_in = refl
  lists_zero (x ∷ xs) xs_in = ap₂ ◌∷◌ (code_add_zero x (IsOver_head xs_in)) (lists_zero xs (IsOver_tail xs_in))

  pub lists_neg : (xs : List ℕ) → IsOver k.ops xs
      → add_lists (raw_ring k.ops) xs (neg_list (raw_ring k.ops) xs) ≡ replicate (length xs) 0
  lists_neg [] xs_in = refl
  lists_neg (x ∷ xs) xs_in = ap₂ ◌∷◌ (code_add_neg x (IsOver_head xs_in)) (lists_neg xs (IsOver_tail xs_in))

  pub scale_one : (xs : List ℕ) → IsOver k.ops xs → scale_list (raw_ring k.ops) 1 xs ≡ xs
  scale_one [] xs_in = refl
  scale_one (x ∷ xs) xs_in = ap₂ ◌∷◌ (k.laws.one_mul x (IsOver_head xs_in)) (scale_one xs (IsOver_tail xs_in))

  pub scale_zero : (xs : List ℕ) → IsOver k.ops xs → scale_list (raw_ring k.ops) 0 xs ≡ replicate (length xs) 0
  scale_zero [] xs_in = refl
  scale_zero (x ∷ xs) xs_in = ap₂ ◌∷◌ (code_zero_mul x (IsOver_head xs_in)) (scale_zero xs (IsOver_tail xs_in))

  pub scale_zeros : (c n : ℕ) → c < k.size → scale_list (raw_ring k.ops) c (replicate n 0) ≡ replicate n 0
  scale_zeros c zero c_in = refl
  scale_zeros c (suc n) c_in = ap₂ ◌∷◌ (code_mul_zero c c_in) (scale_zeros c n c_in)

  pub scale_sum : (c d : ℕ) (xs : List ℕ) → c < k.size → d < k.size → IsOver k.ops xs
      → scale_list (raw_ring k.ops) (k.add c d) xs
      ≡ add_lists (raw_ring k.ops) (scale_list (raw_ring k.ops) c xs) (scale_list (raw_ring k.ops) d xs)
  scale_sum c d [] c_in d_in xs_in = refl
  scale_sum c d (x ∷ xs) c_in d_in xs_in =
      ap₂ ◌∷◌ (code_add_mul c d x c_in d_in (IsOver_head xs_in)) (scale_sum c d xs c_in d_in (IsOver_tail xs_in))

  pub scale_product : (c d : ℕ) (xs : List ℕ) → c < k.size → d < k.size → IsOver k.ops xs
      → scale_list (raw_ring k.ops) (k.mul c d) xs ≡ scale_list (raw_ring k.ops) c (scale_list (raw_ring k.ops) d xs)
  scale_product c d [] c_in d_in xs_in = refl
  scale_product c d (x ∷ xs) c_in d_in xs_in =
      ap₂ ◌∷◌ (k.laws.mul_assoc c d x c_in d_in (IsOver_head xs_in))
      (scale_product c d xs c_in d_in (IsOver_tail xs_in))
