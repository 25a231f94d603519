-- Steps of the division, and what it leaves.
use Rattle.std.proofs.Common.{◌≡◌, ◌≢◌, ℕ, suc, ◌+◌, ◌-◌, ◌<◌, ◌≤◌, List, [], ◌∷◌, ◌++◌, length, get_or, take, drop, set, refl, sym, ap, ap₂, ◌∙◌, arith, add-one, append_assoc}
use Rattle.std.proofs.lemmas.Bool.{eqb-false}
use Rattle.std.proofs.lemmas.List.{drop_all, drop_at, take_at, take_more, length-take-le, length-drop, length-map, drop_more, take_rest, append-nil, set_at, get_or-drop}
use mathlib.Core.Path.{fun_ext}
use borrow.Rule.Slice.PartMut.{put_mid}
use Rattle.ff_fields.specs.Field.{CodeField}
use Rattle.ring_lemmas.specs.Ring.{Operations, TestedRing}
use Rattle.ring_lemmas.specs.Lists.{convolution, coeff_of, add_lists, scale_list, trim, IsTrimmed, digit_of, rest_from, quotient_from, IsTrimmed_trim}
use Rattle.ring_lemmas.proofs.Sequences.{convolution_comm}
use Rattle.ff_fields.specs.Code.{raw_ring, Code, same_code, code_ring, read_code, is_zero_code}
use Rattle.ring_lemmas.proofs.Lists.{coeff_trim}
use Rattle.ring_lemmas.specs.Polynomials.{Pol}
use Rattle.ring_theory.specs.PolynomialRing.{pol_ring}
use Rattle.ring_lemmas.proofs.Polynomials.{same_pol, series_add, series_mul}
use Rattle.ring_lemmas.proofs.Division.{divided, rest_ends, length_bound}
use Rattle.ff_fields.specs.Over.{IsOver, IsOver_trim, IsOver_quotient_from, IsOver_rest_from, get_or_below}
use Rattle.ff_poly.specs.Words.{IsPoly, IsQuotientWithRest, poly_of, sum_of, product_of}
use Rattle.ff_poly.specs.PolyOver.{IsOver_sum_of, IsOver_product_of, IsPoly_poly_of}
use Rattle.ff_fields.specs.Numbers.{numbers, read, numbers_read, numbers_trim, numbers_rest_from, numbers_quotient_from, numbers_get_or}
use Rattle.ff_poly.specs.Value.{value, series_value, same_from_value, value_sum, value_product}

-- one element of a moves to what follows
front_move : (a ys : List ℕ) (n : ℕ) → n < length a → take (suc n) a ++ ys ≡ take n a ++ (get_or a n 0 ∷ ys)
front_move a ys n less =
    ap (λ m. take m a ++ ys) (sym (add-one n)) ∙ ap (λ w. w ++ ys) (take_more a n 0 less)
    ∙ append_assoc (take n a) (get_or a n 0 ∷ []) ys

module _ (r : Operations ℕ) (null : r.𝟘 ≡ 0) (b : List ℕ) (inverse : ℕ) (a : List ℕ) (i n : ℕ) (whole : i ≡ suc n)
    (within : i ≤ length a) where
  later : List ℕ
  later = rest_from r b inverse (drop (n + 1) a)

  -- what the loop has before a step, at the position of the step
  unfolded : (rest : List ℕ) → rest ≡ take i a ++ rest_from r b inverse (drop i a)
      → rest ≡ take n a ++ (get_or a n 0 ∷ later)
  unfolding later
  unfolded rest done =
      done
      ∙ ap (λ m. take m a ++ rest_from r b inverse (drop m a)) whole
      ∙ ap (λ m. take (suc n) a ++ rest_from r b inverse (drop m a)) (sym (add-one n))
      ∙ front_move a (rest_from r b inverse (drop (n + 1) a)) n (omega arith)

  dropped : (rest : List ℕ) → rest ≡ take i a ++ rest_from r b inverse (drop i a) → drop n rest ≡ get_or a n 0 ∷ later
  dropped rest done = ap (drop n) (unfolded rest done)
      ∙ drop_at (take n a) (get_or a n 0 ∷ later) n (length-take-le n a (omega arith))

  pub digit_step : (rest : List ℕ) (digit : ℕ) → rest ≡ take i a ++ rest_from r b inverse (drop i a)
      → digit ≡ r.◌⊗◌ (get_or rest (n + (length b - 1)) 0) inverse
      → digit ≡ digit_of r b inverse (get_or a n 0 ∷ rest_from r b inverse (drop (n + 1) a))
  unfolding later
  digit_step rest digit done digit_is =
      digit_is
      ∙ ap (λ c. r.◌⊗◌ c inverse)
      (sym (get_or-drop n rest (length b - 1) 0) ∙ ap (λ w. get_or w (length b - 1) 0) (dropped rest done)
      ∙ ap (λ z. get_or (get_or a n 0 ∷ later) (length b - 1) z) (sym null))

  pub rest_step : (rest part now : List ℕ) (digit : ℕ) → rest ≡ take i a ++ rest_from r b inverse (drop i a)
      → digit ≡ digit_of r b inverse (get_or a n 0 ∷ rest_from r b inverse (drop (n + 1) a))
      → part ≡ take (length rest - n) (drop n rest) → now ≡ add_lists r part (scale_list r (r.⊖◌ digit) b)
      → put_mid n (length rest - n) rest now ≡ take n a ++ rest_from r b inverse (drop n a)
  unfolding later
  rest_step rest part now digit done digit_is part_is now_is =
      ap₂ (λ p q. p ++ q)
      (ap (take n) (unfolded rest done) ∙ take_at (take n a) (get_or a n 0 ∷ later) n
      (length-take-le n a (omega arith)))
      (ap₂ (λ p q. p ++ q)
      (now_is
      ∙ ap₂ (λ w c. add_lists r w (scale_list r (r.⊖◌ c) b)) (part_is ∙ take_rest rest n ∙ dropped rest done) digit_is
      ∙ ap (rest_from r b inverse) (sym (drop_more a n 0 (omega arith))))
      (drop_all (length rest - n) (drop n rest) (omega (arith, length-drop n rest)))
      ∙ append-nil _)

  pub quotient_step : (first quotient : List ℕ) (digit : ℕ) → length first ≡ length a
      → quotient ≡ take i first ++ quotient_from r b inverse (drop i a)
      → digit ≡ digit_of r b inverse (get_or a n 0 ∷ rest_from r b inverse (drop (n + 1) a))
      → set quotient n digit ≡ take n first ++ quotient_from r b inverse (drop n a)
  quotient_step first quotient digit same done digit_is =
      ap (λ w. set w n digit)
      (done ∙ ap (λ m. take m first ++ quotient_from r b inverse (drop m a)) whole
      ∙ ap (λ m. take (suc n) first ++ quotient_from r b inverse (drop m a)) (sym (add-one n))
      ∙ front_move first (quotient_from r b inverse (drop (n + 1) a)) n (omega arith))
      ∙ set_at (take n first) (get_or first n 0) (quotient_from r b inverse (drop (n + 1) a)) digit n
      (length-take-le n first (omega arith))
      ∙ ap (λ c. take n first ++ (c ∷ quotient_from r b inverse (drop (n + 1) a))) digit_is
      ∙ ap (λ w. take n first ++ quotient_from r b inverse w) (sym (drop_more a n 0 (omega arith)))

-- the two lists that the loop leaves are quotient and rest
module _ (k : CodeField) (a b : List ℕ) (a_in : IsOver k.ops a) (b_in : IsOver k.ops b) (a_poly : IsPoly a)
    (top_some : get_or b (length b - 1) 0 ≢ 0) (b_some : 0 < length b) where
  abbrev K : TestedRing (Code k)
  K = code_ring k

  abbrev top : ℕ
  top = get_or b (length b - 1) 0

  abbrev xs : List (Code k)
  xs = read k a

  abbrev bs : List (Code k)
  bs = read k b

  abbrev inverse : Code k
  inverse = (k.inv top, k.laws.inv_below top (get_or_below k b (length b - 1) b_in) top_some)

  abbrev raw_quotient : List ℕ
  raw_quotient = quotient_from (raw_ring k.ops) b (k.inv top) a

  abbrev raw_rest : List ℕ
  raw_rest = rest_from (raw_ring k.ops) b (k.inv top) a

  quotient_is : raw_quotient ≡ numbers k (quotient_from K.ops bs inverse xs)
  quotient_is =
      ap₂ (λ x y. quotient_from (raw_ring k.ops) x (k.inv top) y) (sym (numbers_read k b b_in))
      (sym (numbers_read k a a_in))
      ∙ sym (numbers_quotient_from k bs xs inverse)

  rest_is : raw_rest ≡ numbers k (rest_from K.ops bs inverse xs)
  rest_is =
      ap₂ (λ x y. rest_from (raw_ring k.ops) x (k.inv top) y) (sym (numbers_read k b b_in))
      (sym (numbers_read k a a_in))
      ∙ sym (numbers_rest_from k bs xs inverse)

  length_bs : length bs ≡ length b
  length_bs = length-map b (read_code k)

  inverts : K.◌⊗◌ inverse (coeff_of K.ops bs (length bs - 1)) ≡ K.𝟙
  inverts =
      same_code k _ _
      (ap (k.mul (k.inv top))
      (numbers_get_or k bs (length bs - 1) ∙ ap₂ (λ ns n. get_or ns (n - 1) 0) (numbers_read k b b_in) length_bs)
      ∙ k.laws.inv_mul top (get_or_below k b (length b - 1) b_in) top_some)

  pub is_quotient : IsQuotientWithRest k.ops a b (poly_of raw_quotient) (poly_of raw_rest)
  is_quotient = record {
    whole = same_from_value k a (sum_of k.ops (product_of k.ops b q) rest) a_in (IsOver_sum_of k bq_in rest_in) a_poly
        (IsPoly_poly_of (add_lists (raw_ring k.ops) (product_of k.ops b q) rest))
        (same_pol K (value k a) (s.◌⊕◌ (s.◌⊗◌ (value k b) (value k q)) (value k rest)) (λ n.
        coeff_trim K xs n
        ∙ divided K bs inverse xs n
        ∙ ap₂ K.◌⊕◌
        (ap₂ (λ f g. convolution K.ops f g n)
        (fun_ext (λ i. sym (series_value k (quotient_from K.ops bs inverse xs) i)
        ∙ ap (λ ns. coeff_of K.ops (value k (poly_of ns)).0 i) (sym quotient_is)))
        (fun_ext (λ i. sym (coeff_trim K bs i)))
        ∙ convolution_comm K.ring _ _ n
        ∙ sym (series_mul K (value k b) (value k q) n))
        (sym (series_value k (rest_from K.ops bs inverse xs) n)
        ∙ ap (λ ns. coeff_of K.ops (value k (poly_of ns)).0 n) (sym rest_is))
        ∙ sym (series_add K (s.◌⊗◌ (value k b) (value k q)) (value k rest) n))
        ∙ sym (value_sum k (product_of k.ops b q) rest bq_in rest_in
        ∙ ap (λ w. s.◌⊕◌ w (value k rest)) (value_product k b q b_in q_in)));
    shorter = short;
    quotient_in = q_in;
    rest_in = rest_in;
    quotient_poly = IsPoly_poly_of raw_quotient;
    rest_poly = IsPoly_poly_of raw_rest;
  }
    where
      s : TestedRing (Pol K)
      s = pol_ring K

      q : List ℕ
      q = poly_of raw_quotient

      rest : List ℕ
      rest = poly_of raw_rest

      q_in : IsOver k.ops q
      q_in = IsOver_trim raw_quotient (IsOver_quotient_from k b a (k.inv top) b_in a_in inverse.1)

      rest_in : IsOver k.ops rest
      rest_in = IsOver_trim raw_rest (IsOver_rest_from k b a (k.inv top) b_in a_in inverse.1)

      bq_in : IsOver k.ops (product_of k.ops b q)
      bq_in = IsOver_product_of k b_in q_in

      bound : length (trim K.is_zero (rest_from K.ops bs inverse xs)) ≤ length bs - 1
      bound =
          length_bound K (trim K.is_zero (rest_from K.ops bs inverse xs)) (length bs - 1)
          (IsTrimmed_trim K.is_zero (rest_from K.ops bs inverse xs))
          (λ i le. coeff_trim K (rest_from K.ops bs inverse xs) i ∙ rest_ends K bs inverse inverts xs i le)

      rest_length : length rest ≡ length (trim K.is_zero (rest_from K.ops bs inverse xs))
      rest_length =
          ap (λ ns. length (poly_of ns)) rest_is
          ∙ ap length (sym (numbers_trim k (rest_from K.ops bs inverse xs)))
          ∙ length-map (trim K.is_zero (rest_from K.ops bs inverse xs)) (λ x. x.0)

      short : length rest < length b
      short = omega (arith, bound, rest_length, length_bs)

-- the same, of what the call has in hand
pub quotient_at : (k : CodeField) (a b a' b' q rest : List ℕ) (inverse : ℕ) → IsOver k.ops a → IsOver k.ops b → IsPoly a
    → get_or b (length b - 1) 0 ≢ 0 → 0 < length b → a' ≡ a → b' ≡ b → inverse ≡ k.inv (get_or b (length b - 1) 0)
    → q ≡ poly_of (quotient_from (raw_ring k.ops) b' inverse a')
    → rest ≡ poly_of (rest_from (raw_ring k.ops) b' inverse a') → IsQuotientWithRest k.ops a b q rest
quotient_at k a b a' b' q rest inverse a_in b_in a_poly top_some b_some a_is b_is inverse_is q_is rest_is =
    rw (q_is, rest_is, a_is, b_is, inverse_is) (is_quotient k a b a_in b_in a_poly top_some b_some)

-- a polynomial that is not zero has a top that is not zero
pub top_some : (b : List ℕ) → IsPoly b → b ≢ [] → (0 < length b) × (get_or b (length b - 1) 0 ≢ 0)
top_some [] poly some = absurd (some refl)
top_some (x ∷ xs) poly some =
    let last : suc (length xs) - 1 ≡ length xs = omega arith in
    (omega arith, λ e. go x xs poly.trimmed (ap (λ n. get_or (x ∷ xs) n 0) (sym last) ∙ e))
  where
    go : (x : ℕ) (xs : List ℕ) → IsTrimmed is_zero_code (x ∷ xs) → get_or (x ∷ xs) (length xs) 0 ≡ 0 → ⊥
    go x [] t e = eqb-false x 0 t e
    go x (y ∷ ys) t e = go y ys t e
