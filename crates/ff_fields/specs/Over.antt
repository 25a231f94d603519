-- What stays over the field: lists of codes below the size under the operations on lists.
use Rattle.std.specs.Prelude.{ℕ, zero, suc, ◌-◌, ◌<◌, Bool, true, false, cond, List, [], ◌∷◌, ◌++◌, length, take, drop, replicate, get_or, All}
use Rattle.std.proofs.Common.{arith}
use Rattle.std.proofs.lemmas.List.Elements.{All-append, All-take, All-drop, All-replicate}
use Rattle.ff_fields.specs.Field.{FieldOps, CodeField}
use Rattle.ff_fields.specs.Code.{raw_ring, is_zero_code, zero_in}
use Rattle.ring_lemmas.specs.Lists.{add_lists, neg_list, scale_list, mul_lists, mul_onto, trim_onto, trim, digit_of, rest_from, quotient_from}

-- each code is one of the field
pub record IsOver (k : FieldOps) (codes : List ℕ) : Type 0 where
  pub each : All (λ c. c < k.size) codes

pub IsOver_nil : {k : FieldOps} → IsOver k []
IsOver_nil = record { each = λ i d less. absurd (omega arith) }

pub IsOver_head : {k : FieldOps} {c : ℕ} {codes : List ℕ} → IsOver k (c ∷ codes) → c < k.size
IsOver_head over = over.each zero 0 (omega arith)

pub IsOver_tail : {k : FieldOps} {c : ℕ} {codes : List ℕ} → IsOver k (c ∷ codes) → IsOver k codes
IsOver_tail over = record { each = λ i d less. over.each (suc i) d (omega arith) }

pub IsOver_cons : {k : FieldOps} {c : ℕ} {codes : List ℕ} → c < k.size → IsOver k codes → IsOver k (c ∷ codes)
IsOver_cons {k = k} {c = c} {codes = codes} c_in over = record { each = all }
  where
    all : (i d : ℕ) → i < length (c ∷ codes) → get_or (c ∷ codes) i d < k.size
    all zero d less = c_in
    all (suc i) d less = over.each i d (omega arith)

pub IsOver_take : {k : FieldOps} (n : ℕ) {codes : List ℕ} → IsOver k codes → IsOver k (take n codes)
IsOver_take {k = k} n {codes = codes} over = record { each = All-take (λ c. c < k.size) n codes over.each }

pub IsOver_drop : {k : FieldOps} (n : ℕ) {codes : List ℕ} → IsOver k codes → IsOver k (drop n codes)
IsOver_drop {k = k} n {codes = codes} over = record { each = All-drop (λ c. c < k.size) n codes over.each }

pub IsOver_append : {k : FieldOps} {xs ys : List ℕ} → IsOver k xs → IsOver k ys → IsOver k (xs ++ ys)
IsOver_append {k = k} {xs = xs} {ys = ys} xs_in ys_in = record
    { each = All-append (λ c. c < k.size) xs ys xs_in.each ys_in.each }

pub IsOver_replicate : {k : FieldOps} (n : ℕ) {c : ℕ} → c < k.size → IsOver k (replicate n c)
IsOver_replicate {k = k} n {c = c} c_in = record { each = All-replicate (λ x. x < k.size) n c c_in }

IsOver_trim_onto : {k : FieldOps} (c : ℕ) (codes : List ℕ) → c < k.size → IsOver k codes
    → IsOver k (trim_onto is_zero_code c codes)
IsOver_trim_onto {k = k} c [] c_in over = go (is_zero_code c)
  where
    go : (b : Bool) → IsOver k (cond b [] (c ∷ []))
    go true = over
    go false = IsOver_cons c_in over
IsOver_trim_onto c (x ∷ codes) c_in over = IsOver_cons c_in over

pub IsOver_trim : {k : FieldOps} (codes : List ℕ) → IsOver k codes → IsOver k (trim is_zero_code codes)
IsOver_trim [] over = over
IsOver_trim (c ∷ codes) over = IsOver_trim_onto c (trim is_zero_code codes) (IsOver_head over)
    (IsOver_trim codes (IsOver_tail over))

module _ (k : CodeField) where
  pub IsOver_zeros : (n : ℕ) → IsOver k.ops (replicate n 0)
  IsOver_zeros n = IsOver_replicate n (zero_in k)

  pub IsOver_add : (xs ys : List ℕ) → IsOver k.ops xs → IsOver k.ops ys
      → IsOver k.ops (add_lists (raw_ring k.ops) xs ys)
  IsOver_add [] ys xs_in ys_in = ys_in
  IsOver_add (x ∷ xs) [] xs_in ys_in = xs_in
  IsOver_add (x ∷ xs) (y ∷ ys) xs_in ys_in =
      IsOver_cons (k.laws.add_below x y (IsOver_head xs_in) (IsOver_head ys_in))
      (IsOver_add xs ys (IsOver_tail xs_in) (IsOver_tail ys_in))

  pub IsOver_neg : (ys : List ℕ) → IsOver k.ops ys → IsOver k.ops (neg_list (raw_ring k.ops) ys)
  IsOver_neg [] over = over
  IsOver_neg (y ∷ ys) over = IsOver_cons (k.laws.neg_below y (IsOver_head over)) (IsOver_neg ys (IsOver_tail over))

  pub IsOver_scale : (c : ℕ) (ys : List ℕ) → c < k.size → IsOver k.ops ys
      → IsOver k.ops (scale_list (raw_ring k.ops) c ys)
  IsOver_scale c [] c_in over = over
  IsOver_scale c (y ∷ ys) c_in over = IsOver_cons (k.laws.mul_below c y c_in (IsOver_head over))
      (IsOver_scale c ys c_in (IsOver_tail over))

  pub IsOver_mul : (xs ys : List ℕ) → IsOver k.ops xs → IsOver k.ops ys
      → IsOver k.ops (mul_lists (raw_ring k.ops) xs ys)
  IsOver_mul [] ys xs_in ys_in = xs_in
  IsOver_mul (x ∷ xs) ys xs_in ys_in =
      IsOver_add (scale_list (raw_ring k.ops) x ys) (0 ∷ mul_lists (raw_ring k.ops) xs ys)
      (IsOver_scale x ys (IsOver_head xs_in) ys_in)
      (IsOver_cons (zero_in k) (IsOver_mul xs ys (IsOver_tail xs_in) ys_in))

  pub IsOver_mul_onto : (xs ys zs : List ℕ) → IsOver k.ops xs → IsOver k.ops ys → IsOver k.ops zs
      → IsOver k.ops (mul_onto (raw_ring k.ops) xs ys zs)
  IsOver_mul_onto [] ys zs xs_in ys_in zs_in = zs_in
  IsOver_mul_onto (x ∷ xs) ys zs xs_in ys_in zs_in =
      IsOver_add (0 ∷ mul_onto (raw_ring k.ops) xs ys zs) (scale_list (raw_ring k.ops) x ys)
      (IsOver_cons (zero_in k) (IsOver_mul_onto xs ys zs (IsOver_tail xs_in) ys_in zs_in))
      (IsOver_scale x ys (IsOver_head xs_in) ys_in)

  pub get_or_below : (codes : List ℕ) (i : ℕ) → IsOver k.ops codes → get_or codes i 0 < k.size
  get_or_below [] i over = (zero_in k)
  get_or_below (c ∷ codes) zero over = IsOver_head over
  get_or_below (c ∷ codes) (suc i) over = get_or_below codes i (IsOver_tail over)

  pub digit_of_below : (b t : List ℕ) (inverse : ℕ) → inverse < k.size → IsOver k.ops t
      → digit_of (raw_ring k.ops) b inverse t < k.size
  digit_of_below b t inverse inverse_in t_in = k.laws.mul_below _ inverse (get_or_below t (length b - 1) t_in)
      inverse_in

  pub IsOver_rest_from : (b xs : List ℕ) (inverse : ℕ) → IsOver k.ops b → IsOver k.ops xs → inverse < k.size
      → IsOver k.ops (rest_from (raw_ring k.ops) b inverse xs)
  IsOver_rest_from b [] inverse b_in xs_in inverse_in = IsOver_zeros (length b - 1)
  IsOver_rest_from b (x ∷ xs) inverse b_in xs_in inverse_in =
      let t = x ∷ rest_from (raw_ring k.ops) b inverse xs in
      let t_in = IsOver_cons (IsOver_head xs_in) (IsOver_rest_from b xs inverse b_in (IsOver_tail xs_in) inverse_in) in
      let digit = digit_of (raw_ring k.ops) b inverse t in
      IsOver_add t (scale_list (raw_ring k.ops) (k.neg digit) b) t_in
      (IsOver_scale (k.neg digit) b (k.laws.neg_below digit (digit_of_below b t inverse inverse_in t_in)) b_in)

  pub IsOver_quotient_from : (b xs : List ℕ) (inverse : ℕ) → IsOver k.ops b → IsOver k.ops xs → inverse < k.size
      → IsOver k.ops (quotient_from (raw_ring k.ops) b inverse xs)
  IsOver_quotient_from b [] inverse b_in xs_in inverse_in = xs_in
  IsOver_quotient_from b (x ∷ xs) inverse b_in xs_in inverse_in =
      IsOver_cons
      (digit_of_below b (x ∷ rest_from (raw_ring k.ops) b inverse xs) inverse inverse_in
      (IsOver_cons (IsOver_head xs_in) (IsOver_rest_from b xs inverse b_in (IsOver_tail xs_in) inverse_in)))
      (IsOver_quotient_from b xs inverse b_in (IsOver_tail xs_in) inverse_in)
