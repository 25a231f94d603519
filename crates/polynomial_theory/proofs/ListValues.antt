-- What sums, multiples, zeros and shifted lists of codes stand for, where zeros may be on top.
use Rattle.std.proofs.Common.{◌≡◌, ℕ, zero, suc, ◌+◌, ◌-◌, ◌<◌, ◌≤◌, List, [], ◌∷◌, ◌++◌, length, get_or, take, replicate, refl, sym, ap, ap₂, ◌∙◌, subst, arith}
use Rattle.std.proofs.lemmas.List.{length-map, get_or_push, length_push, take_more, take_all}
use Rattle.ring_lemmas.specs.Lists.{coeff_of, add_lists, scale_list, IsTrimmed}
use Rattle.ring_lemmas.proofs.Ring.{mul_zero}
use Rattle.ring_lemmas.proofs.Sequences.{convolution_constant_left}
use Rattle.ring_lemmas.proofs.Lists.{coeff_add, coeff_scale, IsTrimmed_push}
use Rattle.ring_lemmas.specs.Polynomials.{pol_ops}
use Rattle.ring_lemmas.proofs.Polynomials.{same_pol, series_add, series_mul}
use Rattle.ring_theory.proofs.Evaluate.{length_trim}
use Rattle.ff_fields.specs.Field.{CodeField}
use Rattle.ff_fields.specs.Code.{raw_ring, code_ring, same_code, read_code, read_code_below, zero_in, is_zero_code}
use Rattle.ff_fields.specs.Numbers.{numbers, read, read_numbers, numbers_read, numbers_add, numbers_scale, numbers_get_or}
use Rattle.ff_fields.specs.Over.{IsOver, IsOver_head, IsOver_tail}
use Rattle.ff_poly.specs.Words.{IsPoly, IsMonicList, top_of}
use Rattle.ff_poly.specs.Value.{value, numbers_value}
use Rattle.ff_poly.specs.Polynomials.{polynomials, constant_poly, x_poly, series_read, value_cons, value_one}

-- a list that ends in 1 is monic
pub monic_of_top : (g : List ℕ) → 0 < length g → top_of g ≡ 1 → IsMonicList g
monic_of_top g some e =
    let n = length g - 1 in
    (take n g, sym (take_all (n + 1) g (omega arith)) ∙ take_more g n 0 (omega arith) ∙ ap (λ a. take n g ++ a ∷ []) e)

pub top_of_monic : (g : List ℕ) → IsMonicList g → top_of g ≡ 1
top_of_monic g m =
    ap₂ (λ xs n. get_or xs n 0) m.1 (ap (λ n. n - 1) (ap length m.1 ∙ length_push m.0 1)
    ∙ let e : length m.0 + 1 - 1 ≡ length m.0 = omega arith in e)
    ∙ get_or_push m.0 1 0 (length m.0) refl

module _ (k : CodeField) where
  pub value_add_lists : (a b : List ℕ) → IsOver k.ops a → IsOver k.ops b
      → value k (add_lists (raw_ring k.ops) a b) ≡ (polynomials k).◌⊕◌ (value k a) (value k b)
  value_add_lists a b a_in b_in =
      ap (value k) (ap₂ (add_lists (raw_ring k.ops)) (sym (numbers_read k a a_in)) (sym (numbers_read k b b_in))
      ∙ sym (numbers_add k (read k a) (read k b)))
      ∙ same_pol (code_ring k) _ _ (λ n.
      series_read k (numbers k (add_lists (code_ring k).ops (read k a) (read k b))) n
      ∙ ap (λ xs. coeff_of (code_ring k).ops xs n) (read_numbers k (add_lists (code_ring k).ops (read k a) (read k b)))
      ∙ coeff_add (code_ring k) (read k a) (read k b) n
      ∙ ap₂ (code_ring k).◌⊕◌ (sym (series_read k a n)) (sym (series_read k b n))
      ∙ sym (series_add (code_ring k) (value k a) (value k b) n))

  pub value_scale_list : (c : ℕ) (a : List ℕ) → c < k.size → IsOver k.ops a
      → value k (scale_list (raw_ring k.ops) c a) ≡ (polynomials k).◌⊗◌ (constant_poly k c) (value k a)
  value_scale_list c a c_in a_in =
      let u = read_code k c in
      ap (value k)
      (ap₂ (scale_list (raw_ring k.ops)) (sym (read_code_below k c c_in)) (sym (numbers_read k a a_in))
      ∙ sym (numbers_scale k u (read k a)))
      ∙ same_pol (code_ring k) _ _ (λ n.
      series_read k (numbers k (scale_list (code_ring k).ops u (read k a))) n
      ∙ ap (λ xs. coeff_of (code_ring k).ops xs n) (read_numbers k (scale_list (code_ring k).ops u (read k a)))
      ∙ coeff_scale (code_ring k) u (read k a) n
      ∙ ap₂ (code_ring k).◌⊗◌ (sym (series_read k (c ∷ []) 0)) (sym (series_read k a n))
      ∙ sym (series_mul (code_ring k) (constant_poly k c) (value k a) n
      ∙ convolution_constant_left (code_ring k).ring _ (coeff_of (code_ring k).ops (value k a).0)
      (λ i. series_read k (c ∷ []) (suc i)) n))

  zeros_read : (n i : ℕ) → coeff_of (code_ring k).ops (read k (replicate n 0)) i ≡ (code_ring k).𝟘
  zeros_read zero i = refl
  zeros_read (suc n) zero = same_code k _ _ (read_code_below k 0 (zero_in k))
  zeros_read (suc n) (suc i) = zeros_read n i

  pub value_zeros : (n : ℕ) → value k (replicate n 0) ≡ (polynomials k).𝟘
  unfolding pol_ops
  value_zeros n = same_pol (code_ring k) _ _ (λ i. series_read k (replicate n 0) i ∙ zeros_read n i)

  -- 1 and zeros above it
  pub value_unit : (n : ℕ) → value k (1 ∷ replicate n 0) ≡ (polynomials k).𝟙
  value_unit n =
      value_cons k 1 (replicate n 0)
      ∙ ap₂ (polynomials k).◌⊕◌ (value_one k)
      (ap ((polynomials k).◌⊗◌ (x_poly k)) (value_zeros n) ∙ mul_zero (polynomials k).ring (x_poly k))
      ∙ (polynomials k).add_zero (polynomials k).𝟙

  -- x times a list
  pub value_up : (a : List ℕ) → value k (0 ∷ a) ≡ (polynomials k).◌⊗◌ (x_poly k) (value k a)
  value_up a =
      value_cons k 0 a ∙ ap (λ w. (polynomials k).◌⊕◌ w ((polynomials k).◌⊗◌ (x_poly k) (value k a))) (value_zeros 1)
      ∙ (polynomials k).add_comm (polynomials k).𝟘 ((polynomials k).◌⊗◌ (x_poly k) (value k a))
      ∙ (polynomials k).add_zero ((polynomials k).◌⊗◌ (x_poly k) (value k a))

  -- zeros on top
  pub value_padded : (a : List ℕ) (n : ℕ) → value k (a ++ replicate n 0) ≡ value k a
  value_padded [] n = value_zeros n ∙ sym (value_zeros 0)
  value_padded (c ∷ a) n =
      value_cons k c (a ++ replicate n 0)
      ∙ ap (λ w. (polynomials k).◌⊕◌ (constant_poly k c) ((polynomials k).◌⊗◌ (x_poly k) w)) (value_padded a n)
      ∙ sym (value_cons k c a)

  -- lists of one length that stand for the same are the same
  pub same_lists : (a b : List ℕ) → IsOver k.ops a → IsOver k.ops b → length a ≡ length b → value k a ≡ value k b
      → a ≡ b
  same_lists a b a_in b_in same e = go a b a_in b_in same
      (λ n. sym (series_read k a n) ∙ ap (λ p. coeff_of (code_ring k).ops p.0 n) e ∙ series_read k b n)
    where
      go : (a b : List ℕ) → IsOver k.ops a → IsOver k.ops b → length a ≡ length b
          → ((n : ℕ) → coeff_of (code_ring k).ops (read k a) n ≡ coeff_of (code_ring k).ops (read k b) n) → a ≡ b
      go [] [] a_in b_in same e = refl
      go [] (d ∷ b) a_in b_in same e = absurd (omega arith)
      go (c ∷ a) [] a_in b_in same e = absurd (omega arith)
      go (c ∷ a) (d ∷ b) a_in b_in same e =
          ap₂ ◌∷◌ (sym (read_code_below k c (IsOver_head a_in)) ∙ ap (λ x. x.0) (e zero)
          ∙ read_code_below k d (IsOver_head b_in))
          (go a b (IsOver_tail a_in) (IsOver_tail b_in) (omega arith) (λ n. e (suc n)))

  -- no more coefficients than codes
  pub value_short : (a : List ℕ) → length (value k a).0 ≤ length a
  value_short a = omega (arith, length_trim (code_ring k).is_zero (read k a), length-map a (read_code k))

  pub length_value : (a : List ℕ) → IsOver k.ops a → IsPoly a → length (value k a).0 ≡ length a
  length_value a a_in a_poly = sym (length-map (value k a).0 (λ x. x.0)) ∙ ap length (numbers_value k a a_in a_poly)

  -- a monic list has no zero on top, and its value ends in 1
  pub monic_poly : (g : List ℕ) → IsMonicList g → IsPoly g
  monic_poly g m = record {
    trimmed = subst (IsTrimmed is_zero_code) (sym m.1) (IsTrimmed_push is_zero_code m.0 1 refl);
  }

  pub monic_top : (g : List ℕ) → IsOver k.ops g → IsMonicList g
      → coeff_of (code_ring k).ops (value k g).0 (length (value k g).0 - 1) ≡ (code_ring k).𝟙
  monic_top g g_in m =
      same_code k _ _
      (numbers_get_or k (value k g).0 (length (value k g).0 - 1)
      ∙ ap₂ (λ xs n. get_or xs (n - 1) 0) (numbers_value k g g_in (monic_poly g m))
      (length_value g g_in (monic_poly g m))
      ∙ ap₂ (λ xs n. get_or xs n 0) m.1 (ap (λ n. n - 1) (ap length m.1 ∙ length_push m.0 1)
      ∙ let e : length m.0 + 1 - 1 ≡ length m.0 = omega arith in e)
      ∙ get_or_push m.0 1 0 (length m.0) refl)
