-- Polynomials over a prime field by their codes: a longer one has a larger code, and of two as long as each other the
-- one with the larger top.
use Rattle.std.proofs.Common.{◌≡◌, ◌≢◌, ℕ, zero, suc, ◌+◌, ◌-◌, ◌*◌, ◌^◌, ◌<◌, ◌≤◌, Bool, true, false, cond, List, [], ◌∷◌, length, get_or, IsTrue, ◌⊎◌, inl, inr, refl, sym, ap, ◌∙◌, arith, subst, mod-eq_of_lt, pow-suc, mul_comm, eqb-true, pos_of_ne-zero}
use Rattle.std.proofs.Math.Nat.{mul-le-mul_left, mul-le-mul_right, pow-le-pow_right, pow-zero, add-mul-mod_self_left, add-mul-div_left, div-eq_of_lt, le_trans}
use Rattle.std.proofs.lemmas.Bool.{cases_lt}
use Rattle.std.proofs.lemmas.List.{length-map}
use Rattle.ring_lemmas.specs.Ring.{TestedRing}
use Rattle.ring_lemmas.specs.Lists.{coeff_of, trim_onto, trim}
use Rattle.ring_lemmas.proofs.Lists.{coeff_trim}
use Rattle.ring_lemmas.specs.Polynomials.{Pol, pol_ops}
use Rattle.ring_theory.specs.PolynomialRing.{pol_ring}
use Rattle.ring_lemmas.proofs.Polynomials.{same_pol, coeff_top}
use Rattle.ff_fields.specs.Field.{CodeField}
use Rattle.ff_fields.specs.Prime.{is_listed, prime_of, prime_field}
use Rattle.ff_fields.specs.Code.{Code, code_ring, same_code, is_zero_code}
use Rattle.ff_fields.specs.Over.{IsOver, IsOver_head, IsOver_tail}
use Rattle.ff_fields.specs.Numbers.{read, numbers, numbers_read, numbers_trim, numbers_get_or, IsOver_numbers}
use Rattle.ff_fields.specs.Residue.{digits, number, number_digits, IsOver_digits}
use Rattle.ff_fields.specs.Modulus.{IsMonicCode, polynomial}
use Rattle.ff_fields.proofs.ReduceSteps.{read_at}

module _ (p : ℕ) (pos : 0 < p) where
  -- a number lies between its top digit and the next one, at its position
  pub number_from_top : (n : ℕ) (ds : List ℕ) → length ds ≡ suc n → get_or ds n 0 * p ^ n ≤ number p ds
  number_from_top n [] same = absurd (omega arith)
  number_from_top zero (d ∷ ds) same = omega (arith, pow-zero p, ap (λ w. d * w) (pow-zero p))
  number_from_top (suc n) (d ∷ ds) same =
      let rest : p * (get_or ds n 0 * p ^ n) ≤ p * number p ds = mul-le-mul_left p (number_from_top n ds (omega arith))
      in
      let whole : get_or ds n 0 * p ^ suc n ≡ p * (get_or ds n 0 * p ^ n) = ap (λ w. get_or ds n 0 * w) (pow-suc p n)
      ∙ turn (get_or ds n 0) (p ^ n) p in
      omega (arith, rest, whole)
    where
      turn : (t w p : ℕ) → t * (w * p) ≡ p * (t * w)
      turn t w p = grind arith

  pub number_to_top : (n : ℕ) (ds : List ℕ) → length ds ≡ suc n → IsOver (prime_of p) ds
      → number p ds < suc (get_or ds n 0) * p ^ n
  number_to_top n [] same over = absurd (omega arith)
  number_to_top zero (d ∷ []) same over = omega (arith, pow-zero p, ap (λ w. suc d * w) (pow-zero p))
  number_to_top zero (d ∷ e ∷ ds) same over = absurd (omega arith)
  number_to_top (suc n) (d ∷ ds) same over =
      let rest : p * suc (number p ds) ≤ p * (suc (get_or ds n 0) * p ^ n) = mul-le-mul_left p
      (number_to_top n ds (omega arith) (IsOver_tail over)) in
      let d_in : d < p = IsOver_head over in
      let whole : suc (get_or ds n 0) * p ^ suc n
      ≡ p * (suc (get_or ds n 0) * p ^ n) = ap (λ w. suc (get_or ds n 0) * w) (pow-suc p n)
      ∙ turn (suc (get_or ds n 0)) (p ^ n) p in
      omega (arith, rest, d_in, whole, mul_suc_lem p (number p ds))
    where
      turn : (t w p : ℕ) → t * (w * p) ≡ p * (t * w)
      turn t w p = grind arith

      mul_suc_lem : (a b : ℕ) → a * suc b ≡ a + a * b
      mul_suc_lem a b = omega arith

  -- the digits of a number are those that made it, and zeros
  pub digit_of_number : (m : ℕ) (ds : List ℕ) (n : ℕ) → length ds ≤ m → IsOver (prime_of p) ds
      → get_or (digits p m (number p ds)) n 0 ≡ get_or ds n 0
  digit_of_number zero [] n le over = refl
  digit_of_number zero (d ∷ ds) n le over = absurd (omega arith)
  digit_of_number (suc m) [] zero le over = mod-eq_of_lt pos
  digit_of_number (suc m) [] (suc n) le over = ap (λ c. get_or (digits p m c) n 0) (div-eq_of_lt pos)
      ∙ digit_of_number m [] n (omega arith) over
  digit_of_number (suc m) (d ∷ ds) zero le over = add-mul-mod_self_left d p (number p ds)
      ∙ mod-eq_of_lt (IsOver_head over)
  digit_of_number (suc m) (d ∷ ds) (suc n) le over =
      ap (λ c. get_or (digits p m c) n 0)
      (add-mul-div_left d (number p ds) pos ∙ ap (λ w. w + number p ds) (div-eq_of_lt (IsOver_head over))
      ∙ none (number p ds))
      ∙ digit_of_number m ds n (omega arith) (IsOver_tail over)
    where
      none : (n : ℕ) → 0 + n ≡ n
      none n = omega arith

-- zeros on top add nothing
number_trim_onto : (p c : ℕ) (ds : List ℕ) → number p (trim_onto is_zero_code c ds) ≡ c + p * number p ds
number_trim_onto p c [] = go (is_zero_code c) (eqb-true c 0)
  where
    go : (b : Bool) → (b ≡ true → c ≡ 0) → number p (cond b [] (c ∷ [])) ≡ c + p * 0
    go true null = let e : c ≡ 0 = null refl in omega (arith, e)
    go false null = refl
number_trim_onto p c (d ∷ ds) = refl

number_trim : (p : ℕ) (ds : List ℕ) → number p (trim is_zero_code ds) ≡ number p ds
number_trim p [] = refl
number_trim p (d ∷ ds) = number_trim_onto p d (trim is_zero_code ds) ∙ ap (λ w. d + p * w) (number_trim p ds)

module _ (p : ℕ) (listed : IsTrue (is_listed p)) where
  abbrev k : CodeField
  k = prime_field p listed

  abbrev K : TestedRing (Code k)
  K = code_ring k

  abbrev s : TestedRing (Pol K)
  s = pol_ring K

  pub base_pos : 0 < p
  base_pos = let above = k.laws.one_below in omega (arith, above)

  -- the code of a polynomial
  abbrev pub code : Pol K → ℕ
  code f = number p (numbers k f.0)

  length_numbers : (f : Pol K) → length (numbers k f.0) ≡ length f.0
  length_numbers f = length-map f.0 (λ x. x.0)

  -- its coefficient at n, as a number
  abbrev pub digit_at : Pol K → ℕ → ℕ
  digit_at f n = (coeff_of K.ops f.0 n).0

  pub code_from_top : (f : Pol K) (n : ℕ) → length f.0 ≡ suc n → digit_at f n * p ^ n ≤ code f
  code_from_top f n long =
      subst (λ w. w * p ^ n ≤ code f) (sym (numbers_get_or k f.0 n))
      (number_from_top p base_pos n (numbers k f.0) (length_numbers f ∙ long))

  pub code_to_top : (f : Pol K) (n : ℕ) → length f.0 ≡ suc n → code f < suc (digit_at f n) * p ^ n
  code_to_top f n long =
      subst (λ w. code f < suc w * p ^ n) (sym (numbers_get_or k f.0 n))
      (number_to_top p base_pos n (numbers k f.0) (length_numbers f ∙ long) (IsOver_numbers k f.0))

  pub top_some : (f : Pol K) (n : ℕ) → length f.0 ≡ suc n → coeff_of K.ops f.0 n ≢ K.𝟘
  top_some ([], t) n long = absurd (omega arith)
  top_some ((x ∷ xs), t) n long = let same : length xs
      ≡ n = omega arith in subst (λ i. coeff_of K.ops (x ∷ xs) i ≢ K.𝟘) same
      (coeff_top K x xs t)

  pub top_pos : (f : Pol K) (n : ℕ) → length f.0 ≡ suc n → 0 < digit_at f n
  top_pos f n long = pos_of_ne-zero (λ e. top_some f n long (same_code k _ K.𝟘 e))

  pub code_least : (f : Pol K) (n : ℕ) → length f.0 ≡ suc n → p ^ n ≤ code f
  code_least f n long =
      let one : 1 * p ^ n ≤ digit_at f n * p ^ n = mul-le-mul_right (p ^ n) (top_pos f n long) in
      omega (arith, one, code_from_top f n long)

  pub code_below : (f : Pol K) (n : ℕ) → length f.0 ≤ n → code f < p ^ n
  code_below f n le = go f (cases f) le
    where
      cases : (f : Pol K) → (length f.0 ≡ 0) ⊎ (length f.0 ≡ suc (length f.0 - 1))
      cases ([], t) = inl refl
      cases ((x ∷ xs), t) = inr (omega arith)

      empty : (f : Pol K) → length f.0 ≡ 0 → code f ≡ 0
      empty ([], t) e = refl
      empty ((x ∷ xs), t) e = absurd (omega arith)

      go : (f : Pol K) → (length f.0 ≡ 0) ⊎ (length f.0 ≡ suc (length f.0 - 1)) → length f.0 ≤ n → code f < p ^ n
      go f (inl e) le = subst (λ w. w < p ^ n) (sym (empty f e)) (le_trans one_le (pow-le-pow_right base_pos none))
        where
          none : 0 ≤ n
          none = omega arith

          one_le : 1 ≤ p ^ 0
          one_le = omega (arith, pow-zero p)
      go f (inr e) le =
          let i = length f.0 - 1 in
          let t_in : digit_at f i < p = (coeff_of K.ops f.0 i).1 in
          let rows : suc (digit_at f i) * p ^ i ≤ p * p ^ i = mul-le-mul_right (p ^ i) t_in in
          let next : p ^ suc i ≡ p * p ^ i = pow-suc p i ∙ mul_comm (p ^ i) p in
          let up : p ^ suc i ≤ p ^ n = pow-le-pow_right base_pos (omega arith) in
          omega (arith, rows, next, up, code_to_top f i e)

  -- a longer polynomial has the larger code
  pub code_longer : (f g : Pol K) → length f.0 < length g.0 → code f < code g
  code_longer f g less =
      let long : length g.0 ≡ suc (length g.0 - 1) = omega arith in
      le_trans (code_below f (length g.0 - 1) (omega arith)) (code_least g (length g.0 - 1) long)

  -- of two as long as each other, the one with the larger top
  pub code_higher : (f g : Pol K) (n : ℕ) → length f.0 ≡ suc n → length g.0 ≡ suc n → digit_at f n < digit_at g n
      → code f < code g
  code_higher f g n f_long g_long less =
      let rows : suc (digit_at f n) * p ^ n ≤ digit_at g n * p ^ n = mul-le-mul_right (p ^ n) less in
      omega (arith, rows, code_to_top f n f_long, code_from_top g n g_long)

  -- the polynomial of a code
  abbrev pub of_code : ℕ → ℕ → Pol K
  of_code m c = polynomial p listed (digits p m c)

  pub digit_of_code : (m c n : ℕ) → digit_at (of_code m c) n ≡ get_or (digits p m c) n 0
  digit_of_code m c n = ap (λ x. x.0) (coeff_trim K (read k (digits p m c)) n)
      ∙ read_at p listed (digits p m c) n (IsOver_digits p base_pos m c)

  -- each undoes the other
  pub of_code_code : (m : ℕ) (f : Pol K) → length f.0 ≤ m → of_code m (code f) ≡ f
  of_code_code m f le =
      same_pol K _ _ (λ n.
      same_code k _ _
      (digit_of_code m (code f) n
      ∙ digit_of_number p base_pos m (numbers k f.0) n (omega (arith, length_numbers f)) (IsOver_numbers k f.0)
      ∙ sym (numbers_get_or k f.0 n)))

  pub code_of_code : (m c : ℕ) → c < p ^ m → code (of_code m c) ≡ c
  code_of_code m c less =
      ap (number p) (numbers_trim k (read k (digits p m c))
      ∙ ap (trim is_zero_code) (numbers_read k (digits p m c) (IsOver_digits p base_pos m c)))
      ∙ number_trim p (digits p m c) ∙ number_digits p base_pos m c less

  pub code_null : code s.𝟘 ≡ 0
  unfolding pol_ops
  code_null = refl

  -- a monic polynomial of degree e has a code of that form, and no other has
  pub monic_code : (f : Pol K) (e : ℕ) → length f.0 ≡ suc e → coeff_of K.ops f.0 e ≡ K.𝟙 → IsMonicCode p e (code f)
  monic_code f e long monic = record {
    least = code_least f e long;
    below = subst (λ w. code f < suc w * p ^ e) (ap (λ x. x.0) monic) (code_to_top f e long);
  }

  pub code_monic : (f : Pol K) (e : ℕ) → IsMonicCode p e (code f) → (length f.0 ≡ suc e) × (coeff_of K.ops f.0 e ≡ K.𝟙)
  code_monic f e c = (long, same_code k _ _ (one_of (digit_at f e) (top_pos f e long) under))
    where
      not_short : length f.0 ≤ e → ⊥
      not_short le = let least = c.least in omega (arith, least, code_below f e le)

      not_long : suc e < length f.0 → ⊥
      not_long less =
          let whole : length f.0 ≡ suc (length f.0 - 1) = omega arith in
          let up : p ^ suc e ≤ p ^ (length f.0 - 1) = pow-le-pow_right base_pos (omega arith) in
          let two : 2 * p ^ e ≤ p * p ^ e = mul-le-mul_right (p ^ e) k.laws.one_below in
          let next : p ^ suc e ≡ p * p ^ e = pow-suc p e ∙ mul_comm (p ^ e) p in
          let under = c.below in
          omega (arith, under, up, two, next, code_least f (length f.0 - 1) whole)

      long : length f.0 ≡ suc e
      long = go (cases_lt e (length f.0)) (cases_lt (suc e) (length f.0))
        where
          go : (e < length f.0) ⊎ (length f.0 ≤ e) → (suc e < length f.0) ⊎ (length f.0 ≤ suc e) → length f.0 ≡ suc e
          go (inr short) b = absurd (not_short short)
          go (inl some) (inl more) = absurd (not_long more)
          go (inl some) (inr less) = omega arith

      under : digit_at f e * p ^ e < 2 * p ^ e
      under = let below = c.below in omega (arith, below, code_from_top f e long)

      one_of : (t : ℕ) → 0 < t → t * p ^ e < 2 * p ^ e → t ≡ 1
      one_of t some less = go (cases_lt t 2)
        where
          go : (t < 2) ⊎ (2 ≤ t) → t ≡ 1
          go (inl few) = omega arith
          go (inr many) = let rows : 2 * p ^ e ≤ t * p ^ e = mul-le-mul_right (p ^ e) many in absurd
              (omega (arith, rows))
