-- Powers modulo a polynomial, by squares.
use Rattle.std.proofs.Common.{◌≡◌, ℕ, zero, suc, ◌+◌, ◌/◌, ◌%◌, ◌<◌, ◌≤◌, ◌⊎◌, inl, inr, List, [], ◌∷◌, length, drop, get_or, refl, sym, ap, ap₂, ◌∙◌, arith, add-one}
use Rattle.std.proofs.lemmas.List.{drop_more}
use Rattle.ring_lemmas.specs.Ring.{CommRing, pow}
use Rattle.ring_lemmas.specs.Congruence.{IsCongruent}
use Rattle.ring_lemmas.proofs.Ring.{pow_add, mul_pow, one_mul}
use Rattle.ring_lemmas.proofs.Congruence.{congruent_same, congruent_refl, congruent_sym, congruent_trans, congruent_mul}
use Rattle.ff_fields.specs.Field.{CodeField}
use Rattle.ff_fields.specs.Code.{zero_in}
use Rattle.ff_fields.specs.Over.{IsOver, IsOver_nil, IsOver_cons, IsOver_head, IsOver_tail}
use Rattle.ff_poly.specs.Words.{IsPoly, sum_of, product_of}
use Rattle.ff_poly.specs.PowerWords.{IsRest, power_of, value_at_code}
use Rattle.ff_poly.specs.PolyOver.{IsOver_sum_of, IsOver_product_of}
use Rattle.ff_poly.specs.Value.{value, value_sum, value_product, same_from_value}
use Rattle.ff_poly.specs.Polynomials.{Polynomial, polynomials, codes_of, value_codes_of, value_one, IsOver_codes_of, IsPoly_codes_of}
use Rattle.ff_poly.proofs.Parts.{IsPoly_sum_of, IsPoly_product_of}

-- ---- in any ring

module _ {A : Type 0} (s : CommRing A) (m : A) where
  open s use {◌⊕◌, ◌⊗◌, ⊖◌, 𝟘, 𝟙}

  infixl 65 ◌⊕◌
  infixl 70 ◌⊗◌
  infixr 80 ⊖◌
  congruent_pow : (x y : A) (n : ℕ) → IsCongruent s.ops m x y → IsCongruent s.ops m (pow s.ops x n) (pow s.ops y n)
  congruent_pow x y zero c = congruent_refl s m 𝟙
  congruent_pow x y (suc n) c = congruent_mul s m x y (pow s.ops x n) (pow s.ops y n) c (congruent_pow x y n c)

  pow_square : (x : A) (n : ℕ) → pow s.ops (x ⊗ x) n ≡ pow s.ops x (n + n)
  pow_square x n = mul_pow s x x n ∙ sym (pow_add s x n n)

  -- one turn of the loop: an odd exponent gives its factor to the power, and then the base is squared
  pub congruent_turn : (power square power' square' total : A) (left : ℕ)
      → IsCongruent s.ops m (power ⊗ pow s.ops square left) total
      → ((left % 2 ≡ 1) × IsCongruent s.ops m (power ⊗ square) power') ⊎ ((left % 2 ≡ 0) × (power' ≡ power))
      → IsCongruent s.ops m (square ⊗ square) square'
      → IsCongruent s.ops m (power' ⊗ pow s.ops square' (left / 2)) total
  congruent_turn power square power' square' total left kept (inl (odd, p_is)) s_is =
      let h = left / 2 in
      let halves : left ≡ suc (h + h) = omega arith in
      congruent_trans s m _ _ _
      (congruent_mul s m power' (power ⊗ square) (pow s.ops square' h) (pow s.ops (square ⊗ square) h)
      (congruent_sym s m _ _ p_is) (congruent_pow square' (square ⊗ square) h (congruent_sym s m _ _ s_is)))
      (congruent_trans s m _ _ _
      (congruent_same s m _ _
      (ap (λ w. power ⊗ square ⊗ w) (pow_square square h) ∙ s.mul_assoc power square (pow s.ops square (h + h))
      ∙ ap (λ n. power ⊗ pow s.ops square n) (sym halves)))
      kept)
  congruent_turn power square power' square' total left kept (inr (even, p_is)) s_is =
      let h = left / 2 in
      let halves : left ≡ h + h = omega arith in
      congruent_trans s m _ _ _
      (congruent_mul s m power' power (pow s.ops square' h) (pow s.ops (square ⊗ square) h)
      (congruent_same s m _ _ p_is) (congruent_pow square' (square ⊗ square) h (congruent_sym s m _ _ s_is)))
      (congruent_trans s m _ _ _
      (congruent_same s m _ _ (ap (λ w. power ⊗ w) (pow_square square h)
      ∙ ap (λ n. power ⊗ pow s.ops square n) (sym halves)))
      kept)

-- ---- on lists of codes

module _ (k : CodeField) where
  pub IsOver_one : IsOver k.ops (1 ∷ [])
  IsOver_one = IsOver_cons k.laws.one_below IsOver_nil

  pub IsOver_power_of : (a : List ℕ) (e : ℕ) → IsOver k.ops a → IsOver k.ops (power_of k.ops a e)
  IsOver_power_of a zero a_in = IsOver_one
  IsOver_power_of a (suc e) a_in = IsOver_product_of k a_in (IsOver_power_of a e a_in)

  IsPoly_power_of : (a : List ℕ) (e : ℕ) → IsPoly (power_of k.ops a e)
  IsPoly_power_of a zero = record { trimmed = refl }
  IsPoly_power_of a (suc e) = IsPoly_product_of k.ops a (power_of k.ops a e)

  pub value_power : (a : List ℕ) (e : ℕ) → IsOver k.ops a
      → value k (power_of k.ops a e) ≡ pow (polynomials k).ops (value k a) e
  value_power a zero a_in = value_one k
  value_power a (suc e) a_in =
      value_product k a (power_of k.ops a e) a_in (IsOver_power_of a e a_in)
      ∙ ap ((polynomials k).◌⊗◌ (value k a)) (value_power a e a_in)

  -- what is divided and the rest are congruent
  pub rest_congruent : (a m rest : List ℕ) → IsOver k.ops m → IsRest k.ops a m rest
      → IsCongruent (polynomials k).ops (value k m) (value k a) (value k rest)
  rest_congruent a m rest m_in r = record {
    times = value k r.quotient;
    differs =
        ap (value k) r.division.whole
        ∙ value_sum k (product_of k.ops m r.quotient) rest (IsOver_product_of k m_in r.division.quotient_in)
        r.division.rest_in
        ∙ (polynomials k).add_comm (value k (product_of k.ops m r.quotient)) (value k rest)
        ∙ ap ((polynomials k).◌⊕◌ (value k rest)) (value_product k m r.quotient m_in r.division.quotient_in);
  }

  -- a shorter polynomial that is congruent is the rest
  pub congruent_rest : (a m rest : List ℕ) → IsOver k.ops a → IsPoly a → IsOver k.ops m → IsOver k.ops rest
      → IsPoly rest → length rest < length m
      → IsCongruent (polynomials k).ops (value k m) (value k a) (value k rest) → IsRest k.ops a m rest
  congruent_rest a m rest a_in a_poly m_in rest_in rest_poly shorter c =
      let q = codes_of k c.times in
      let q_in = IsOver_codes_of k c.times in
      let S = polynomials k in
      record {
        quotient = q;
        division = record {
          whole =
              same_from_value k a (sum_of k.ops (product_of k.ops m q) rest) a_in
              (IsOver_sum_of k (IsOver_product_of k m_in q_in) rest_in) a_poly
              (IsPoly_sum_of k.ops (product_of k.ops m q) rest)
              (c.differs ∙ S.add_comm (value k rest) (S.◌⊗◌ (value k m) c.times)
              ∙ ap (λ w. S.◌⊕◌ (S.◌⊗◌ (value k m) w) (value k rest)) (sym (value_codes_of k c.times))
              ∙ sym (value_sum k (product_of k.ops m q) rest (IsOver_product_of k m_in q_in) rest_in
              ∙ ap (λ w. S.◌⊕◌ w (value k rest)) (value_product k m q m_in q_in)));
          shorter = shorter;
          quotient_in = q_in;
          rest_in = rest_in;
          quotient_poly = IsPoly_codes_of k c.times;
          rest_poly = rest_poly;
        };
      }

  -- what the loop leaves is the rest of the power
  pub power_rest : (a m power : List ℕ) (e : ℕ) → IsOver k.ops a → IsOver k.ops m → IsOver k.ops power → IsPoly power
      → length power < length m
      → IsCongruent (polynomials k).ops (value k m) ((polynomials k).◌⊗◌ (value k power) (polynomials k).𝟙)
      (pow (polynomials k).ops (value k a) e) → IsRest k.ops (power_of k.ops a e) m power
  power_rest a m power e a_in m_in power_in power_poly shorter c =
      let S = (polynomials k).ring in
      congruent_rest (power_of k.ops a e) m power (IsOver_power_of a e a_in) (IsPoly_power_of a e) m_in power_in
      power_poly shorter
      (congruent_trans S (value k m) _ _ _ (congruent_same S (value k m) _ _ (value_power a e a_in))
      (congruent_trans S (value k m) _ _ _ (congruent_sym S (value k m) _ _ c)
      (congruent_same S (value k m) _ _ (S.mul_one (value k power)))))

  -- ---- values

  pub value_at_code_below : (codes : List ℕ) (c : ℕ) → IsOver k.ops codes → c < k.size
      → value_at_code k.ops codes c < k.size
  value_at_code_below [] c codes_in c_in = zero_in k
  value_at_code_below (a ∷ codes) c codes_in c_in =
      k.laws.add_below a (k.mul c (value_at_code k.ops codes c)) (IsOver_head codes_in)
      (k.laws.mul_below c (value_at_code k.ops codes c) c_in (value_at_code_below codes c (IsOver_tail codes_in) c_in))

  pub value_step : (codes : List ℕ) (c i n a value product : ℕ) → i ≡ suc n → i ≤ length codes
      → value ≡ value_at_code k.ops (drop i codes) c → product ≡ k.mul c value → a ≡ get_or codes n 0
      → k.add a product ≡ value_at_code k.ops (drop n codes) c
  value_step codes c i n a value product whole within kept product_is a_is =
      ap₂ k.add a_is (product_is ∙ ap (k.mul c)
      (kept ∙ ap (λ m. value_at_code k.ops (drop m codes) c) (whole ∙ sym (add-one n))))
      ∙ ap (λ w. value_at_code k.ops w c) (sym (drop_more codes n 0 (omega arith)))

-- ---- the loop

module _ (k : CodeField) where
  product_congruent : (a b m rest : List ℕ) → IsOver k.ops a → IsOver k.ops b → IsOver k.ops m
      → IsRest k.ops (product_of k.ops a b) m rest
      → IsCongruent (polynomials k).ops (value k m) ((polynomials k).◌⊗◌ (value k a) (value k b)) (value k rest)
  product_congruent a b m rest a_in b_in m_in r =
      let S = (polynomials k).ring in
      congruent_trans S (value k m) _ _ _ (congruent_same S (value k m) _ _ (sym (value_product k a b a_in b_in)))
      (rest_congruent k (product_of k.ops a b) m rest m_in r)

  pub power_start : (a m power square : List ℕ) (e : ℕ) → IsOver k.ops m → power ≡ 1 ∷ [] → IsRest k.ops a m square
      → IsCongruent (polynomials k).ops (value k m)
      ((polynomials k).◌⊗◌ (value k power) (pow (polynomials k).ops (value k square) e))
      (pow (polynomials k).ops (value k a) e)
  power_start a m power square e m_in power_is r =
      let S = (polynomials k).ring in
      congruent_trans S (value k m) _ _ _
      (congruent_same S (value k m) _ _ (ap (λ p. S.◌⊗◌ p (pow S.ops (value k square) e))
      (ap (value k) power_is ∙ value_one k) ∙ one_mul S (pow S.ops (value k square) e)))
      (congruent_pow S (value k m) (value k square) (value k a) e
      (congruent_sym S (value k m) _ _ (rest_congruent k a m square m_in r)))

  pub power_turn : (m power square power' square' : List ℕ) (left : ℕ) (total : Polynomial k) → IsOver k.ops m
      → IsOver k.ops power → IsPoly power → length power < length m → IsOver k.ops square
      → IsCongruent (polynomials k).ops (value k m)
      ((polynomials k).◌⊗◌ (value k power) (pow (polynomials k).ops (value k square) left)) total
      → ((left % 2 ≡ 1) × IsRest k.ops (product_of k.ops power square) m power') ⊎ ((left % 2 ≡ 0) × (power' ≡ power))
      → IsRest k.ops (product_of k.ops square square) m square'
      → IsOver k.ops power' × IsPoly power' × (length power' < length m) × IsOver k.ops square'
      × IsCongruent (polynomials k).ops (value k m)
      ((polynomials k).◌⊗◌ (value k power') (pow (polynomials k).ops (value k square') (left / 2))) total
  power_turn m power square power' square' left total m_in power_in power_poly shorter square_in
      kept (inl (odd, p)) s = (
        p.division.rest_in,
        p.division.rest_poly,
        p.division.shorter,
        s.division.rest_in,
        congruent_turn (polynomials k).ring (value k m) (value k power) (value k square) (value k power')
            (value k square') total left kept
            (inl (odd, product_congruent power square m power' power_in square_in m_in p))
            (product_congruent square square m square' square_in square_in m_in s),
      )
  power_turn m power square power' square' left total m_in power_in power_poly shorter square_in kept (inr (even, p_is))
      s = (
        rw p_is power_in,
        rw p_is power_poly,
        rw p_is shorter,
        s.division.rest_in,
        congruent_turn (polynomials k).ring (value k m) (value k power) (value k square)
            (value k power') (value k square')
            total left kept
            (inr (even, ap (value k) p_is))
            (product_congruent square square m square' square_in square_in m_in s),
      )
