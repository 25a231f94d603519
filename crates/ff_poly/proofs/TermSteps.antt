-- A multiple by a term is taken away from a list, from a position on.
use Rattle.std.proofs.Common.{◌≡◌, ℕ, zero, suc, ◌-◌, ◌<◌, ◌≤◌, List, [], ◌∷◌, ◌++◌, length, take, drop, replicate, refl, sym, ap, ap₂, ◌∙◌, arith}
use Rattle.std.proofs.lemmas.List.{map-append, drop_all, length-drop, take_rest, append-nil}
use borrow.Rule.Slice.PartMut.{put_mid}
use Rattle.ff_fields.specs.Field.{CodeField}
use Rattle.ff_fields.specs.Code.{raw_ring, Code, code_ring}
use Rattle.ff_fields.specs.Numbers.{numbers, read, numbers_read, numbers_add, numbers_neg, numbers_mul, numbers_zeros, numbers_scale, numbers_trim}
use Rattle.ff_fields.specs.Over.{IsOver, IsOver_head, IsOver_tail}
use Rattle.ring_lemmas.specs.Ring.{TestedRing}
use Rattle.ring_lemmas.specs.Lists.{coeff_of, convolution, add_lists, neg_list, scale_list, mul_lists, trim}
use Rattle.ring_lemmas.proofs.Ring.{zero_add, zero_mul, neg_mul, neg_zero}
use Rattle.ring_lemmas.proofs.Sequences.{convolution_constant_left}
use Rattle.ring_lemmas.proofs.Lists.{coeff_add, coeff_neg, coeff_scale, coeff_mul, coeff_trim, coeff_append_zeros}
use Rattle.ff_poly.specs.Words.{poly_of}
use Rattle.ff_poly.specs.Value.{same_numbers}
use Rattle.ff_poly.specs.Terms.{term, less_multiple}

module _ {A : Type 0} (r : TestedRing A) where
  open r use {𝟘, ◌⊕◌, ◌⊗◌, ⊖◌}

  -- a sequence moved up by j positions
  moved : ℕ → (ℕ → A) → ℕ → A
  moved zero f n = f n
  moved (suc j) f zero = 𝟘
  moved (suc j) f (suc n) = moved j f n

  coeff_moved : (j : ℕ) (ys : List A) (n : ℕ) → coeff_of r.ops (replicate j 𝟘 ++ ys) n ≡ moved j (coeff_of r.ops ys) n
  unfolding moved
  coeff_moved zero ys n = refl
  coeff_moved (suc j) ys zero = refl
  coeff_moved (suc j) ys (suc n) = coeff_moved j ys n

  moved_same : (j : ℕ) (f g : ℕ → A) → ((n : ℕ) → f n ≡ g n) → (n : ℕ) → moved j f n ≡ moved j g n
  unfolding moved
  moved_same zero f g h n = h n
  moved_same (suc j) f g h zero = refl
  moved_same (suc j) f g h (suc n) = moved_same j f g h n

  moved_neg : (j : ℕ) (f : ℕ → A) (n : ℕ) → moved j (λ i. ⊖◌ (f i)) n ≡ ⊖◌ (moved j f n)
  unfolding moved
  moved_neg zero f n = refl
  moved_neg (suc j) f zero = sym (neg_zero r.ring)
  moved_neg (suc j) f (suc n) = moved_neg j f n

  term_convolution : (j : ℕ) (c : A) (g : ℕ → A) (n : ℕ)
      → convolution r.ops (coeff_of r.ops (replicate j 𝟘 ++ c ∷ [])) g n ≡ moved j (λ i. ◌⊗◌ c (g i)) n
  unfolding moved
  term_convolution zero c g n = convolution_constant_left r.ring (coeff_of r.ops (c ∷ [])) g (λ i. refl) n
  term_convolution (suc j) c g zero = zero_mul r.ring (g zero)
  term_convolution (suc j) c g (suc n) =
      ap₂ ◌⊕◌ (zero_mul r.ring (g (suc n))) (term_convolution j c g n) ∙ zero_add r.ring _

  -- the negative of c·x^j·ys, as the loop adds it
  pub coeff_term : (j : ℕ) (c : A) (ys : List A) (n : ℕ)
      → coeff_of r.ops (replicate j 𝟘 ++ scale_list r.ops (⊖◌ c) ys) n
      ≡ ⊖◌ (coeff_of r.ops (mul_lists r.ops (replicate j 𝟘 ++ c ∷ []) ys) n)
  coeff_term j c ys n =
      coeff_moved j (scale_list r.ops (⊖◌ c) ys) n
      ∙ moved_same j _ (λ i. ⊖◌ (◌⊗◌ c (coeff_of r.ops ys i)))
      (λ i. coeff_scale r (⊖◌ c) ys i ∙ neg_mul r.ring c (coeff_of r.ops ys i)) n
      ∙ moved_neg j (λ i. ◌⊗◌ c (coeff_of r.ops ys i)) n
      ∙ ap ⊖◌ (sym (coeff_mul r (replicate j 𝟘 ++ c ∷ []) ys n ∙ term_convolution j c (coeff_of r.ops ys) n))

module _ (k : CodeField) where
  written_term : (c : Code k) (j : ℕ) (ys : List (Code k))
      → replicate j 0 ++ scale_list (raw_ring k.ops) c.0 (numbers k ys)
      ≡ numbers k (replicate j (code_ring k).𝟘 ++ scale_list (code_ring k).ops c ys)
  written_term c j ys =
      ap₂ (λ x y. x ++ y) (sym (numbers_zeros k j)) (sym (numbers_scale k c ys))
      ∙ sym (map-append (λ x. x.0) (replicate j (code_ring k).𝟘) (scale_list (code_ring k).ops c ys))

  read_term : (c : Code k) (j : ℕ) → term c.0 j ≡ numbers k (replicate j (code_ring k).𝟘 ++ c ∷ [])
  read_term c j =
      ap (λ x. x ++ c.0 ∷ []) (sym (numbers_zeros k j))
      ∙ sym (map-append (λ x. x.0) (replicate j (code_ring k).𝟘) (c ∷ []))

  -- zeros on top of a, and the term's multiple added from position j on
  pub less_multiple_written : (a : List ℕ) (c : ℕ) (c_in : c < k.size) (j : ℕ) (b : List ℕ) (m : ℕ) → IsOver k.ops a
      → IsOver k.ops b
      → poly_of (add_lists (raw_ring k.ops) (a ++ replicate m 0)
      (replicate j 0 ++ scale_list (raw_ring k.ops) (k.neg c) b)) ≡ less_multiple k.ops a c j b
  less_multiple_written a c c_in j b m a_in b_in =
      same_numbers k _ _ (add_lists K.ops (xs ++ zeros) added)
      (add_lists K.ops xs (neg_list K.ops (trim K.is_zero product)))
      (ap₂ (add_lists (raw_ring k.ops))
      (ap₂ (λ x y. x ++ y) (sym (numbers_read k a a_in)) (sym (numbers_zeros k m))
      ∙ sym (map-append (λ x. x.0) xs zeros))
      (ap (λ w. replicate j 0 ++ scale_list (raw_ring k.ops) (k.neg c) w) (sym (numbers_read k b b_in))
      ∙ written_term (K.⊖◌ (c, c_in)) j ys)
      ∙ sym (numbers_add k (xs ++ zeros) added))
      (ap₂ (add_lists (raw_ring k.ops))
      (sym (numbers_read k a a_in))
      (ap (neg_list (raw_ring k.ops))
      (ap poly_of (ap₂ (mul_lists (raw_ring k.ops)) (read_term (c, c_in) j) (sym (numbers_read k b b_in))
      ∙ sym (numbers_mul k t ys)) ∙ sym (numbers_trim k product))
      ∙ sym (numbers_neg k (trim K.is_zero product)))
      ∙ sym (numbers_add k xs (neg_list K.ops (trim K.is_zero product))))
      (λ n.
      coeff_add K (xs ++ zeros) added n
      ∙ ap₂ K.◌⊕◌ (coeff_append_zeros K xs m n)
      (coeff_term K j (c, c_in) ys n ∙ ap K.⊖◌ (sym (coeff_trim K product n))
      ∙ sym (coeff_neg K (trim K.is_zero product) n))
      ∙ sym (coeff_add K xs (neg_list K.ops (trim K.is_zero product)) n))
    where
      K : TestedRing (Code k)
      K = code_ring k

      xs : List (Code k)
      xs = read k a

      ys : List (Code k)
      ys = read k b

      zeros : List (Code k)
      zeros = replicate m (code_ring k).𝟘

      added : List (Code k)
      added = replicate j (code_ring k).𝟘 ++ scale_list (code_ring k).ops ((code_ring k).⊖◌ (c, c_in)) (read k b)

      t : List (Code k)
      t = replicate j (code_ring k).𝟘 ++ (c, c_in) ∷ []

      product : List (Code k)
      product = mul_lists (code_ring k).ops (replicate j (code_ring k).𝟘 ++ (c, c_in) ∷ []) (read k b)

  -- below the position nothing changes
  added_from : (j : ℕ) (sum t : List ℕ) → IsOver k.ops sum → j ≤ length sum
      → take j sum ++ add_lists (raw_ring k.ops) (drop j sum) t ≡ add_lists (raw_ring k.ops) sum (replicate j 0 ++ t)
  added_from zero sum t sum_in le = refl
  added_from (suc j) [] t sum_in le = absurd (omega arith)
  added_from (suc j) (s ∷ sum) t sum_in le =
      let s_in = IsOver_head sum_in in
      ap₂ ◌∷◌ (sym (k.laws.add_comm s 0 s_in (omega (arith, s_in)) ∙ k.laws.zero_add s s_in))
      (added_from j sum t (IsOver_tail sum_in) (omega arith))

  pub part_written : (j : ℕ) (sum part now ys : List ℕ) (m c : ℕ) → IsOver k.ops sum → j ≤ length sum
      → part ≡ take (length sum - j) (drop j sum)
      → now ≡ add_lists (raw_ring k.ops) part (scale_list (raw_ring k.ops) m ys) → m ≡ c
      → put_mid j (length sum - j) sum now
      ≡ add_lists (raw_ring k.ops) sum (replicate j 0 ++ scale_list (raw_ring k.ops) c ys)
  part_written j sum part now ys m c sum_in le part_is now_is m_is =
      ap₂ (λ p q. take j sum ++ (p ++ q))
      (now_is ∙ ap₂ (λ w n. add_lists (raw_ring k.ops) w (scale_list (raw_ring k.ops) n ys)) (part_is ∙ take_rest sum j)
      m_is)
      (drop_all (length sum - j) (drop j sum) (omega (arith, length-drop j sum)))
      ∙ ap (λ w. take j sum ++ w) (append-nil _)
      ∙ added_from j sum (scale_list (raw_ring k.ops) c ys) sum_in le
