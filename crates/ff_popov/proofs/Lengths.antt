-- The length of a polynomial less a multiple of another by a term.
use Rattle.std.proofs.Common.{◌≡◌, ◌≢◌, ℕ, zero, suc, ◌+◌, ◌-◌, ◌<◌, ◌≤◌, Bool, true, false, cond, List, [], ◌∷◌, ◌++◌, length, get_or, take, replicate, refl, sym, ap, ap₂, ◌∙◌, arith, length-append}
use Rattle.std.proofs.lemmas.List.{length-replicate, length-take-le, append-nil, take_all, get_or-append_right}
use Rattle.ff_fields.specs.Field.{CodeField}
use Rattle.ff_fields.specs.Code.{raw_ring, code_ring, is_zero_code, Code}
use Rattle.ff_fields.specs.Over.{IsOver, get_or_below}
use Rattle.ring_lemmas.specs.Ring.{Operations}
use Rattle.ring_lemmas.specs.Lists.{add_lists, scale_list, trim, trim_onto}
use Rattle.ring_lemmas.proofs.Ring.{neg_mul}
use Rattle.ring_lemmas.proofs.Lists.{length_add_lists, length_scale_list, get_or_scale_list}
use Rattle.ff_poly.specs.Words.{IsPoly, poly_of}
use Rattle.ff_poly.specs.Terms.{less_multiple}
use Rattle.ff_poly.proofs.Trims.{poly_of_take_less}
use Rattle.ff_poly.proofs.Quotients.{top_some}
use Rattle.ff_poly.proofs.TermSteps.{less_multiple_written}

trim_onto_length : {A : Type 0} (z : A → Bool) (x : A) (xs : List A) → length (trim_onto z x xs) ≤ suc (length xs)
trim_onto_length z x [] = go (z x)
  where
    go : (b : Bool) → length (cond b [] (x ∷ [])) ≤ 1
    go true = omega arith
    go false = omega arith
trim_onto_length z x (y ∷ ys) = omega arith

pub trim_length : {A : Type 0} (z : A → Bool) (xs : List A) → length (trim z xs) ≤ length xs
trim_length z [] = omega arith
trim_length z (x ∷ xs) = omega (arith, trim_onto_length z x (trim z xs), trim_length z xs)

get_or_add : {A : Type 0} (r : Operations A) (xs ys : List A) (i : ℕ) (d : A) → i < length xs → i < length ys
    → get_or (add_lists r xs ys) i d ≡ r.◌⊕◌ (get_or xs i d) (get_or ys i d)
get_or_add r [] ys i d x_in y_in = absurd (omega (arith, x_in))
get_or_add r (x ∷ xs) [] i d x_in y_in = absurd (omega (arith, y_in))
get_or_add r (x ∷ xs) (y ∷ ys) zero d x_in y_in = refl
get_or_add r (x ∷ xs) (y ∷ ys) (suc i) d x_in y_in = get_or_add r xs ys i d (omega (arith, x_in)) (omega (arith, y_in))

-- a zero on top makes a list longer than its polynomial
top_zero_shorter : (xs : List ℕ) (n : ℕ) → length xs ≡ suc n → get_or xs n 0 ≡ 0 → length (poly_of xs) ≤ n
top_zero_shorter xs n size null =
    omega (
      arith,
      ap length (ap poly_of (take_all (length xs) xs (omega arith))),
      ap length (poly_of_take_less xs (length xs) (omega (arith, size)) (omega arith)
          (ap (λ i. get_or xs i 0) (omega (arith, size)) ∙ null)),
      trim_length is_zero_code (take (length xs - 1) xs),
      length-take-le (length xs - 1) xs (omega arith),
      size,
    )

module _ (k : CodeField) (a : List ℕ) (c s : ℕ) (b : List ℕ) (a_in : IsOver k.ops a) (c_in : c < k.size)
    (b_in : IsOver k.ops b) where
  added : List ℕ
  added = replicate s 0 ++ scale_list (raw_ring k.ops) (k.neg c) b

  added_length : length added ≡ s + length b
  unfolding added
  added_length = length-append (replicate s 0) (scale_list (raw_ring k.ops) (k.neg c) b)
      ∙ ap₂ ◌+◌ (length-replicate s 0) (length_scale_list (raw_ring k.ops) (k.neg c) b)

  -- it is no longer than both
  pub less_multiple_length : (n : ℕ) → length a ≤ n → s + length b ≤ n → length (less_multiple k.ops a c s b) ≤ n
  unfolding added
  less_multiple_length n a_le b_le =
      let padded = a ++ replicate (n - length a) 0 in
      let size = length-append a (replicate (n - length a) 0)
      ∙ ap (λ m. length a + m) (length-replicate (n - length a) 0) in
      omega (
        arith,
        ap length (sym (less_multiple_written k a c c_in s b (n - length a) a_in b_in)),
        trim_length is_zero_code (add_lists (raw_ring k.ops) padded added),
        length_add_lists (raw_ring k.ops) padded added (omega (arith, size, added_length, a_le, b_le)),
        size,
        a_le,
      )

  -- and shorter than a where c times the top of b is the top of a
  pub less_multiple_shorter : (n : ℕ) → length a ≡ suc n → s + length b ≡ suc n → 0 < length b
      → k.mul c (get_or b (length b - 1) 0) ≡ get_or a n 0 → length (less_multiple k.ops a c s b) < length a
  unfolding added
  less_multiple_shorter n a_size b_size some tops =
      omega (
        arith,
        ap length (sym (less_multiple_written k a c c_in s b 0 a_in b_in ∙ refl)),
        ap (λ w. length (poly_of (add_lists (raw_ring k.ops) w added))) (append-nil a),
        top_zero_shorter (add_lists (raw_ring k.ops) a added) n
            (length_add_lists (raw_ring k.ops) a added (omega (arith, added_length, a_size, b_size)) ∙ a_size) null,
        a_size,
      )
    where
      r : Operations ℕ
      r = raw_ring k.ops

      b_top : Code k
      b_top = (get_or b (length b - 1) 0, get_or_below k b (length b - 1) b_in)

      c_code : Code k
      c_code = (c, c_in)

      added_top : get_or added n 0 ≡ k.neg (get_or a n 0)
      added_top =
          get_or-append_right (replicate s 0) (scale_list (raw_ring k.ops) (k.neg c) b) s n 0 (length-replicate s 0)
          (omega (arith, b_size, some))
          ∙ ap (λ i. get_or (scale_list (raw_ring k.ops) (k.neg c) b) i 0) (omega (arith, b_size, some))
          ∙ get_or_scale_list (raw_ring k.ops) (k.neg c) b (length b - 1) 0 (omega (arith, some))
          ∙ ap (λ x. x.0) (neg_mul (code_ring k).ring (c, c_in)
          (get_or b (length b - 1) 0, get_or_below k b (length b - 1) b_in))
          ∙ ap k.neg tops

      null : get_or (add_lists (raw_ring k.ops) a added) n 0 ≡ 0
      null =
          get_or_add (raw_ring k.ops) a added n 0 (omega (arith, a_size)) (omega (arith, added_length, b_size))
          ∙ ap (k.add (get_or a n 0)) added_top
          ∙ ap (λ x. x.0) ((code_ring k).add_neg (get_or a n 0, get_or_below k a n a_in))

-- the term c·x^s that clears the top of a: c times the top of b is that of a
pub quotient_top : (k : CodeField) (top lead inverse c : ℕ) → top < k.size → lead < k.size → lead ≢ 0
    → inverse ≡ k.inv lead → c ≡ k.mul top inverse → (c < k.size) × (k.mul c lead ≡ top)
quotient_top k top lead inverse c top_in lead_in some inverse_is c_is = (
  rw (c_is, inverse_is) (k.laws.mul_below top (k.inv lead) top_in (k.laws.inv_below lead lead_in some)),
  ap (λ n. k.mul n lead) (c_is ∙ ap (k.mul top) inverse_is)
      ∙ k.laws.mul_assoc top (k.inv lead) lead top_in (k.laws.inv_below lead lead_in some) lead_in
      ∙ ap (k.mul top) (k.laws.inv_mul lead lead_in some)
      ∙ k.laws.mul_comm top 1 top_in k.laws.one_below
      ∙ k.laws.one_mul top top_in,
)

-- the top that is read at the length
pub read_top : (b : List ℕ) (len top : ℕ) → len ≡ length b → top ≡ get_or b (len - 1) 0
    → top ≡ get_or b (length b - 1) 0
read_top b len top len_is top_is = top_is ∙ ap (λ n. get_or b (n - 1) 0) len_is

pub read_not_zero : (b : List ℕ) (len top : ℕ) → IsPoly b → 0 < length b → len ≡ length b → top ≡ get_or b (len - 1) 0
    → top ≢ 0
read_not_zero b len top is_poly some len_is top_is e =
    (top_some b is_poly (λ z. absurd (omega (arith, ap length z, some)))).1 (sym (read_top b len top len_is top_is) ∙ e)
