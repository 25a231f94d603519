-- The loop that finds a high power of x modulo a polynomial.
use Rattle.std.proofs.Common.{◌≡◌, ℕ, zero, suc, ◌-◌, ◌*◌, ◌<◌, ◌≤◌, ◌^◌, List, [], ◌∷◌, ◌++◌, length, take, replicate, min, sym, ap, ap₂, ◌∙◌, subst, arith}
use Rattle.std.proofs.Math.Nat.{mul-le-mul, pow-zero, pow-suc}
use Rattle.std.proofs.lemmas.List.{take_all}
use Rattle.ring_lemmas.specs.Ring.{CommRing, pow}
use Rattle.ring_lemmas.specs.Congruence.{IsCongruent}
use Rattle.ring_lemmas.proofs.Ring.{pow_mul}
use Rattle.ring_lemmas.proofs.Congruence.{congruent_same, congruent_sym, congruent_trans, congruent_mul, congruent_refl}
use Rattle.ff_fields.specs.Field.{CodeField}
use Rattle.ff_fields.specs.Over.{IsOver}
use Rattle.ff_poly.specs.PowerWords.{IsRest, power_of}
use Rattle.ff_poly.specs.Value.{value}
use Rattle.ff_poly.specs.Polynomials.{Polynomial, polynomials, x_poly}
use Rattle.ff_poly.proofs.PowerRests.{value_power, rest_congruent}
use Rattle.polynomial_theory.proofs.ListValues.{value_padded}
use Rattle.ff_factor.specs.Primes.{IsHighPower}

congruent_pow : {A : Type 0} (s : CommRing A) (m x y : A) (n : ℕ) → IsCongruent s.ops m x y
    → IsCongruent s.ops m (pow s.ops x n) (pow s.ops y n)
congruent_pow s m x y zero c = congruent_refl s m s.𝟙
congruent_pow s m x y (suc n) c = congruent_mul s m x y (pow s.ops x n) (pow s.ops y n) c (congruent_pow s m x y n c)

pub reach_grows : (r q s d : ℕ) → 0 < r → 1 < q → s ≡ min (r * q) 18446744073709551615 → r < d
    → d ≤ 18446744073709551615 → d - s < d - r
reach_grows r q s d some two is less fits =
    let two' : 2 ≤ q = omega arith in
    let r' : r ≤ r = omega arith in
    let l : r * 2 ≤ r * q = mul-le-mul r' two' in
    omega arith

pub reach_some : (r q s : ℕ) → 0 < r → 1 < q → s ≡ min (r * q) 18446744073709551615 → 0 < s
reach_some r q s some two is =
    let two' : 2 ≤ q = omega arith in
    let r' : r ≤ r = omega arith in
    let l : r * 2 ≤ r * q = mul-le-mul r' two' in
    omega arith

module _ (k : CodeField) (g : List ℕ) (g_in : IsOver k.ops g) where
  abbrev P : CommRing (Polynomial k)
  P = (polynomials k).ring

  rest_power : (a rest : List ℕ) (e : ℕ) → IsOver k.ops a → IsRest k.ops (power_of k.ops a e) g rest
      → IsCongruent P.ops (value k g) (value k rest) (pow P.ops (value k a) e)
  rest_power a rest e a_in r =
      congruent_sym P (value k g) _ _
      (congruent_trans P (value k g) _ _ _ (congruent_same P (value k g) _ _ (sym (value_power k a e a_in)))
      (rest_congruent k (power_of k.ops a e) g rest g_in r))

  pub high_start : (x power : List ℕ) (q : ℕ) → x ≡ 0 ∷ 1 ∷ [] → IsOver k.ops x → q ≡ k.size
      → IsRest k.ops (power_of k.ops x q) g power → IsHighPower k g q power
  high_start x power q x_is x_in q_is r = record {
    times = 1;
    reached = subst (λ n. q ≤ n) (sym once) (omega (arith, q_is));
    is = subst (λ n. IsCongruent P.ops (value k g) (value k power) (pow P.ops (x_poly k) n)) (q_is ∙ sym once)
        (subst (λ w. IsCongruent P.ops (value k g) (value k power) (pow P.ops (value k w) q)) x_is
        (rest_power x power q x_in r));
  }
    where
      once : k.size ^ 1 ≡ k.size
      once = pow-suc k.size 0 ∙ ap (λ n. n * k.size) (pow-zero k.size) ∙ omega arith

  pub high_step : (reach s q : ℕ) (power power' : List ℕ) → IsOver k.ops power → IsHighPower k g reach power
      → q ≡ k.size
      → IsRest k.ops (power_of k.ops power q) g power' → s ≡ min (reach * q) 18446744073709551615
      → IsHighPower k g s power'
  high_step reach s q power power' power_in h q_is r s_is = record {
    times = suc h.times;
    reached =
        subst (λ n. s ≤ n) (sym (pow-suc k.size h.times))
        (let q' : q ≤ k.size = omega (arith, q_is) in let l : reach * q ≤ k.size ^ h.times * k.size = mul-le-mul
        h.reached q' in omega arith);
    is =
        congruent_trans P (value k g) _ _ _
        (subst (λ e. IsCongruent P.ops (value k g) (value k power') (pow P.ops (value k power) e)) q_is
        (rest_power power power' q power_in r))
        (congruent_trans P (value k g) _ _ _
        (congruent_pow P (value k g) (value k power) _ k.size h.is)
        (congruent_same P (value k g) _ _
        (sym (pow_mul P (x_poly k) (k.size ^ h.times) k.size)
        ∙ ap (pow P.ops (x_poly k)) (sym (pow-suc k.size h.times)))));
  }

  pub high_end : (bound reach len : ℕ) (power codes w : List ℕ) → len ≡ length power → IsHighPower k g reach power
      → bound ≤ reach → length power ≤ bound
      → codes ≡ power → w ≡ take bound codes ++ replicate (bound - len) 0 → IsHighPower k g bound w
  high_end bound reach len power codes w len_is h le short codes_is w_is = record {
    times = h.times;
    reached = let r = h.reached in omega arith;
    is = subst (λ p. IsCongruent P.ops (value k g) p (pow P.ops (x_poly k) (k.size ^ h.times))) (sym same) h.is;
  }
    where
      same : value k w ≡ value k power
      same =
          ap (value k) (w_is ∙ ap₂ (λ c m. take bound c ++ replicate (bound - m) 0) codes_is len_is
          ∙ ap (λ c. c ++ replicate (bound - length power) 0) (take_all bound power short))
          ∙ value_padded k power (bound - length power)
