-- The least two codes whose product is 0: the first monic divisor of the modulus, in the order of codes and of at most
-- half its degree, and its cofactor.
use Rattle.std.proofs.Common.{◌≡◌, ℕ, zero, suc, ◌+◌, ◌-◌, ◌<◌, ◌≤◌, [], ◌∷◌, length, IsTrue, ◌⊎◌, inl, inr, refl, sym, ap, ap₂, ◌∙◌, arith, subst}
use Rattle.std.proofs.lemmas.Bool.{cases_lt, cases_eq}
use mathlib.Core.Path.{fun_ext}
use Rattle.ring_lemmas.specs.Ring.{CommRing, TestedRing, IsDomain}
use Rattle.ring_lemmas.specs.Lists.{coeff_of, convolution, rest_from, quotient_from}
use Rattle.ring_lemmas.proofs.Ring.{one_mul, mul_zero, mul_neg, add_mul, mul_left_comm}
use Rattle.ring_lemmas.proofs.Sequences.{convolution_comm, convolution_constant_left}
use Rattle.ring_lemmas.proofs.Lists.{coeff_trim}
use Rattle.ring_lemmas.specs.Polynomials.{Pol, pol_of, pol_ops}
use Rattle.ring_theory.specs.PolynomialRing.{pol_ring}
use Rattle.ring_theory.proofs.Polynomials.{pol_domain, length_product}
use Rattle.ring_lemmas.proofs.Polynomials.{same_pol, series_add, series_mul, coeff_past, length_from_top}
use Rattle.ring_lemmas.proofs.Division.{divided, rest_ends, length_bound}
use Rattle.ring_theory.proofs.Division.{short_multiple}
use Rattle.ff_fields.specs.Field.{CodeField}
use Rattle.ff_fields.specs.Prime.{is_listed, prime_field}
use Rattle.ff_fields.specs.Code.{Code, code_ring, code_field, code_domain, same_code}
use Rattle.ff_fields.proofs.PolyCodes.{code, digit_at, code_longer, code_higher, top_some, top_pos}

-- where f · g and M · t are one, and M is f · q and r, r · g is a multiple of M
module _ {A : Type 0} (R : CommRing A) where
  open R use {◌⊕◌, ◌⊗◌, ⊖◌}

  infixl 65 ◌⊕◌
  infixl 70 ◌⊗◌
  infixr 80 ⊖◌
  rest_null : (f g M t q r : A) → f ⊗ g ≡ M ⊗ t → M ≡ f ⊗ q ⊕ r → r ⊗ g ≡ M ⊗ (g ⊕ ⊖ (q ⊗ t))
  rest_null f g M t q r null whole =
      sym (R.mul_add M g (⊖ (q ⊗ t)) ∙ ap₂ ◌⊕◌ (ap (λ w. w ⊗ g) whole ∙ add_mul R (f ⊗ q) r g)
      (mul_neg R M (q ⊗ t) ∙ ap ⊖◌ (mul_left_comm R M q t ∙ ap (λ w. q ⊗ w) (sym null) ∙ turn f q g))
      ∙ cancels (f ⊗ q ⊗ g) (r ⊗ g))
    where
      turn : (f q g : A) → q ⊗ (f ⊗ g) ≡ f ⊗ q ⊗ g
      turn f q g = mul_left_comm R q f g ∙ sym (R.mul_assoc f q g)

      cancels : (x y : A) → (x ⊕ y) ⊕ ⊖ x ≡ y
      cancels x y = ap (λ w. w ⊕ ⊖ x) (R.add_comm x y) ∙ R.add_assoc y x (⊖ x) ∙ ap (λ w. y ⊕ w) (R.add_neg x)
          ∙ R.add_zero y

  scaled_pair : (i u f q : A) → i ⊗ u ≡ R.𝟙 → (i ⊗ f) ⊗ (u ⊗ q) ≡ f ⊗ q
  scaled_pair i u f q inverts =
      R.mul_assoc i f (u ⊗ q) ∙ ap (λ w. i ⊗ w) (mul_left_comm R f u q) ∙ sym (R.mul_assoc i u (f ⊗ q))
      ∙ ap (λ w. w ⊗ (f ⊗ q)) inverts ∙ one_mul R (f ⊗ q)

module _ (p : ℕ) (listed : IsTrue (is_listed p)) where
  abbrev k : CodeField
  k = prime_field p listed

  abbrev K : TestedRing (Code k)
  K = code_ring k

  abbrev pub s : TestedRing (Pol K)
  s = pol_ring K

  domain : IsDomain K.ops
  domain = code_domain k

  -- a constant
  constant : Code k → Pol K
  constant c = pol_of K (c ∷ [])

  coeff_constant : (c : Code k) (f : Pol K) (n : ℕ)
      → coeff_of K.ops (s.◌⊗◌ (constant c) f).0 n ≡ K.◌⊗◌ c (coeff_of K.ops f.0 n)
  unfolding constant
  coeff_constant c f n =
      series_mul K (constant c) f n
      ∙ convolution_constant_left K.ring (coeff_of K.ops (constant c).0) (coeff_of K.ops f.0)
      (λ i. coeff_trim K (c ∷ []) (suc i)) n
      ∙ ap (λ w. K.◌⊗◌ w (coeff_of K.ops f.0 n)) (coeff_trim K (c ∷ []) zero)

  constant_mul : (c d : Code k) → K.◌⊗◌ c d ≡ K.𝟙 → s.◌⊗◌ (constant c) (constant d) ≡ s.𝟙
  unfolding constant pol_ops
  constant_mul c d e =
      same_pol K _ _ (λ n.
      coeff_constant c (constant d) n ∙ ap (K.◌⊗◌ c) (coeff_trim K (d ∷ []) n) ∙ go n ∙ sym (coeff_trim K (K.𝟙 ∷ []) n))
    where
      go : (n : ℕ) → K.◌⊗◌ c (coeff_of K.ops (d ∷ []) n) ≡ coeff_of K.ops (K.𝟙 ∷ []) n
      go zero = e
      go (suc n) = mul_zero K.ring c

  pub long_some : (f : Pol K) (n : ℕ) → length f.0 ≡ suc n → ¬ (f ≡ s.𝟘)
  unfolding pol_ops
  long_some f n long e = absurd (omega (arith, long, ap (λ w. length w.0) e))

  -- what a polynomial that is not 0 has on top
  pub length_some : (f : Pol K) → ¬ (f ≡ s.𝟘) → length f.0 ≡ suc (length f.0 - 1)
  unfolding pol_ops
  length_some ([], t) some = absurd (some (same_pol K ([], t) s.𝟘 (λ n. refl)))
  length_some ((x ∷ xs), t) some = omega arith

  null_or_some : (f : Pol K) → (f ≡ s.𝟘) ⊎ ¬ (f ≡ s.𝟘)
  unfolding pol_ops
  null_or_some ([], t) = inl (same_pol K ([], t) s.𝟘 (λ n. refl))
  null_or_some ((x ∷ xs), t) = inr (long_some ((x ∷ xs), t) (length xs) refl)

  -- a division by a polynomial that is not 0
  module _ (f M : Pol K) (e : ℕ) (long : length f.0 ≡ suc e) where
    unit : (b : Code k) × (K.◌⊗◌ (coeff_of K.ops f.0 e) b ≡ K.𝟙)
    unit = (code_field k).inverse (coeff_of K.ops f.0 e) (top_some p listed f e long)

    by_quotient : Pol K
    by_quotient = pol_of K (quotient_from K.ops f.0 unit.0 M.0)

    by_rest : Pol K
    by_rest = pol_of K (rest_from K.ops f.0 unit.0 M.0)

    inverts : K.◌⊗◌ unit.0 (coeff_of K.ops f.0 (length f.0 - 1)) ≡ K.𝟙
    inverts =
        let last : length f.0 - 1 ≡ e = omega arith in
        ap (λ i. K.◌⊗◌ unit.0 (coeff_of K.ops f.0 i)) last ∙ K.mul_comm unit.0 (coeff_of K.ops f.0 e) ∙ unit.1

    by_whole : M ≡ s.◌⊕◌ (s.◌⊗◌ f by_quotient) by_rest
    unfolding by_quotient by_rest
    by_whole =
        same_pol K _ _ (λ n.
        divided K f.0 unit.0 M.0 n
        ∙ sym (series_add K (s.◌⊗◌ f by_quotient) by_rest n
        ∙ ap₂ K.◌⊕◌
        (series_mul K f by_quotient n ∙ convolution_comm K.ring _ _ n
        ∙ ap (λ g. convolution K.ops g (coeff_of K.ops f.0) n)
        (fun_ext (coeff_trim K (quotient_from K.ops f.0 unit.0 M.0))))
        (coeff_trim K (rest_from K.ops f.0 unit.0 M.0) n)))

    by_shorter : length by_rest.0 ≤ e
    unfolding by_rest
    by_shorter =
        length_bound K by_rest.0 e by_rest.1 (λ i le.
        coeff_trim K (rest_from K.ops f.0 unit.0 M.0) i
        ∙ rest_ends K f.0 unit.0 inverts M.0 i (omega (arith, long, le)))

  -- no monic polynomial of a degree from 1 to m / 2, with a code below the bound, divides M
  abbrev pub NoDivisor : ℕ → Pol K → ℕ → Type 0
  NoDivisor m M bound = (d c : Pol K) (e : ℕ) → 0 < e → e + e ≤ m → length d.0 ≡ suc e → coeff_of K.ops d.0 e ≡ K.𝟙
      → code p listed d < bound → s.◌⊗◌ d c ≡ M → ⊥

  module _ (m : ℕ) (M : Pol K) (M_long : length M.0 ≡ suc m) where
    -- the monic multiple of a divisor is a divisor, and no larger
    module _ (f q : Pol K) (e : ℕ) (long : length f.0 ≡ suc e) (whole : s.◌⊗◌ f q ≡ M) where
      abbrev u : Code k
      u = coeff_of K.ops f.0 e

      abbrev i : Code k
      i = (unit f M e long).0

      monic : Pol K
      monic = s.◌⊗◌ (constant i) f

      monic_top : coeff_of K.ops monic.0 e ≡ K.𝟙
      unfolding monic
      monic_top = coeff_constant i f e ∙ K.mul_comm i u ∙ (unit f M e long).1

      monic_long : length monic.0 ≡ suc e
      unfolding monic
      monic_long =
          length_from_top K monic.0 e monic.1 (λ null. domain.one_not_zero (sym monic_top ∙ null))
          (λ j less. coeff_constant i f j ∙ ap (K.◌⊗◌ i) (coeff_past K f.0 j (omega arith)) ∙ mul_zero K.ring i)

      monic_divides : s.◌⊗◌ monic (s.◌⊗◌ (constant u) q) ≡ M
      unfolding monic
      monic_divides = scaled_pair s.ring (constant i) (constant u) f q
          (constant_mul i u (K.mul_comm i u ∙ (unit f M e long).1)) ∙ whole

      monic_code : code p listed monic ≤ code p listed f
      unfolding monic
      monic_code = go (cases_lt (digit_at p listed f e) 2)
        where
          same : u ≡ K.𝟙 → monic ≡ f
          same one = same_pol K _ _ (λ n. coeff_constant i f n ∙ ap (λ w. K.◌⊗◌ w (coeff_of K.ops f.0 n)) inverse_one
              ∙ one_mul K.ring _)
            where
              inverse_one : i ≡ K.𝟙
              inverse_one = sym (one_mul K.ring i) ∙ ap (λ w. K.◌⊗◌ w i) (sym one) ∙ (unit f M e long).1

          go : (digit_at p listed f e < 2) ⊎ (2 ≤ digit_at p listed f e) → code p listed monic ≤ code p listed f
          go (inl few) =
              let one : digit_at p listed f e ≡ 1 = omega (arith, few, top_pos p listed f e long) in
              let code_is = ap (code p listed) (same (same_code k u K.𝟙 one)) in
              omega (arith, code_is)
          go (inr many) =
              let top : digit_at p listed monic e ≡ 1 = ap (λ x. x.0) monic_top in
              let less : code p listed monic < code p listed f = code_higher p listed monic f e monic_long long
              (omega (arith, top, many)) in
              omega (arith, less)

    -- codes below n have no product 0 with another
    abbrev NoNullBelow : ℕ → ℕ → Type 0
    NoNullBelow bound n = (f g t : Pol K) → code p listed f < n → code p listed f < bound → ¬ (f ≡ s.𝟘) → ¬ (g ≡ s.𝟘)
        → length f.0 ≤ m → length g.0 ≤ m → s.◌⊗◌ f g ≡ s.◌⊗◌ M t → ⊥

    module _ (bound : ℕ) (none : NoDivisor m M bound) (n : ℕ) (smaller : NoNullBelow bound n) (f g t : Pol K)
        (fuel : code p listed f < suc n) (below : code p listed f < bound) (f_some : ¬ (f ≡ s.𝟘)) (g_some : ¬ (g ≡ s.𝟘))
        (f_short : length f.0 ≤ m) (g_short : length g.0 ≤ m) (null : s.◌⊗◌ f g ≡ s.◌⊗◌ M t) (e : ℕ)
        (long : length f.0 ≡ suc e) where
      abbrev q : Pol K
      q = by_quotient f M e long

      abbrev r : Pol K
      r = by_rest f M e long

      constant_null : e ≡ 0 → ⊥
      constant_null e_is = g_some ((pol_domain K domain).cancel_zero f g f_some
          (null ∙ ap (s.◌⊗◌ M) none_left ∙ mul_zero s.ring M))
        where
          short : length (s.◌⊗◌ M t).0 < length M.0
          short = subst (λ w. length w.0 < length M.0) null
              (omega (arith, long, e_is, M_long, g_short, length_product K domain f g f_some g_some))

          none_left : t ≡ s.𝟘
          none_left = short_multiple K domain M t short

      divisor_null : s.◌⊗◌ f q ≡ M → ⊥
      divisor_null whole = cases (cases_eq e 0) (cases_lt e (length q.0))
        where
          q_some : ¬ (q ≡ s.𝟘)
          q_some null' = long_some M m M_long (sym whole ∙ ap (s.◌⊗◌ f) null' ∙ mul_zero s.ring f)

          lengths : suc (suc m) ≡ suc e + length q.0
          lengths = omega (arith, long, M_long, length_product K domain f q f_some q_some, ap (λ w. length w.0) whole)

          cases : (e ≡ 0) ⊎ (e ≡ 0 → ⊥) → (e < length q.0) ⊎ (length q.0 ≤ e) → ⊥
          cases (inl null') _ = constant_null null'
          cases (inr some) (inl longer) =
              none (monic f q e long whole) (s.◌⊗◌ (constant (coeff_of K.ops f.0 e)) q) e (omega (arith, some))
              (omega (arith, lengths, longer)) (monic_long f q e long whole) (monic_top f q e long whole)
              (omega (arith, below, monic_code f q e long whole))
              (monic_divides f q e long whole)
          cases (inr some) (inr shorter) =
              let less : code p listed q < code p listed f = code_longer p listed q f (omega (arith, long, shorter)) in
              smaller q f s.𝟙 (omega (arith, less, fuel)) (omega (arith, less, below)) q_some f_some
              (omega (arith, lengths, some)) f_short
              (s.mul_comm q f ∙ whole ∙ sym (s.mul_one M))

      null_step : (r ≡ s.𝟘) ⊎ ¬ (r ≡ s.𝟘) → ⊥
      null_step (inl null') = divisor_null
          (sym (by_whole f M e long ∙ ap (s.◌⊕◌ (s.◌⊗◌ f q)) null' ∙ s.add_zero (s.◌⊗◌ f q)))
      null_step (inr some) =
          let short = by_shorter f M e long in
          let less : code p listed r < code p listed f = code_longer p listed r f (omega (arith, long, short)) in
          smaller r g (s.◌⊕◌ g (s.⊖◌ (s.◌⊗◌ q t))) (omega (arith, less, fuel)) (omega (arith, less, below)) some g_some
          (omega (arith, short, long, f_short)) g_short
          (rest_null s.ring f g M t q r null (by_whole f M e long))

    -- then no code below the bound has a product 0 with another
    pub no_null : (bound : ℕ) → NoDivisor m M bound → (n : ℕ) → NoNullBelow bound n
    no_null bound none zero f g t fuel below f_some g_some f_short g_short null = absurd (omega arith)
    no_null bound none (suc n) f g t fuel below f_some g_some f_short g_short null =
        let long = length_some f f_some in
        null_step bound none n (no_null bound none n) f g t fuel below f_some g_some f_short g_short null
        (length f.0 - 1) long (null_or_some (by_rest f M (length f.0 - 1) long))

  -- of the multiples of a monic polynomial it has the least code itself
  pub least_multiple : (c t : Pol K) (n : ℕ) → length c.0 ≡ suc n → coeff_of K.ops c.0 n ≡ K.𝟙 → ¬ (t ≡ s.𝟘)
      → code p listed c ≤ code p listed (s.◌⊗◌ c t)
  least_multiple c t n long monic t_some = go (cases_lt (length t.0) 2)
    where
      c_some : ¬ (c ≡ s.𝟘)
      c_some = long_some c n long

      longer : 2 ≤ length t.0 → code p listed c ≤ code p listed (s.◌⊗◌ c t)
      longer two =
          let less : code p listed c < code p listed (s.◌⊗◌ c t) = code_longer p listed c (s.◌⊗◌ c t)
          (omega (arith, two, long, length_product K domain c t c_some t_some)) in
          omega (arith, less)

      same_length : length t.0 ≡ 1 → length (s.◌⊗◌ c t).0 ≡ suc n
      same_length one = omega (arith, one, long, length_product K domain c t c_some t_some)

      at : length t.0 ≡ 1 → (j : ℕ) → coeff_of K.ops (s.◌⊗◌ c t).0 j
          ≡ K.◌⊗◌ (coeff_of K.ops t.0 0) (coeff_of K.ops c.0 j)
      at one j =
          series_mul K c t j ∙ convolution_comm K.ring _ _ j
          ∙ convolution_constant_left K.ring (coeff_of K.ops t.0) (coeff_of K.ops c.0)
          (λ j. coeff_past K t.0 (suc j) (omega (arith, one))) j

      top : length t.0 ≡ 1 → coeff_of K.ops (s.◌⊗◌ c t).0 n ≡ coeff_of K.ops t.0 0
      top one = at one n ∙ ap (K.◌⊗◌ (coeff_of K.ops t.0 0)) monic ∙ K.mul_one _

      constant_case : length t.0 ≡ 1 → (digit_at p listed t 0 < 2) ⊎ (2 ≤ digit_at p listed t 0)
          → code p listed c ≤ code p listed (s.◌⊗◌ c t)
      constant_case one (inl few) =
          let unit : digit_at p listed t 0 ≡ 1 = omega (arith, few, top_pos p listed t 0 one) in
          let same : s.◌⊗◌ c t ≡ c = same_pol K _ _
          (λ j. at one j ∙ ap (λ w. K.◌⊗◌ w (coeff_of K.ops c.0 j)) (same_code k _ K.𝟙 unit) ∙ one_mul K.ring _)
          in
          let code_is = ap (code p listed) same in
          omega (arith, code_is)
      constant_case one (inr many) =
          let c_top : digit_at p listed c n ≡ 1 = ap (λ x. x.0) monic in
          let t_top : digit_at p listed (s.◌⊗◌ c t) n ≡ digit_at p listed t 0 = ap (λ x. x.0) (top one) in
          let less : code p listed c < code p listed (s.◌⊗◌ c t) = code_higher p listed c (s.◌⊗◌ c t) n long
          (same_length one) (omega (arith, c_top, t_top, many)) in
          omega (arith, less)

      go : (length t.0 < 2) ⊎ (2 ≤ length t.0) → code p listed c ≤ code p listed (s.◌⊗◌ c t)
      go (inl few) = let one : length t.0
          ≡ 1 = omega (arith, few, length_some t t_some) in constant_case one
          (cases_lt (digit_at p listed t 0) 2)
      go (inr many) = longer many
