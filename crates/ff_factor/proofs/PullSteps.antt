-- The loop that divides by a polynomial as often as it goes.
use Rattle.std.proofs.Common.{◌≡◌, ◌≢◌, ℕ, suc, ◌+◌, ◌<◌, ◌≤◌, List, [], ◌∷◌, length, refl, sym, ap, ◌∙◌, subst, arith}
use Rattle.ring_lemmas.specs.Ring.{CommRing, pow}
use Rattle.ring_lemmas.proofs.Ring.{mul_zero, one_mul}
use Rattle.ring_theory.proofs.Polynomials.{length_product}
use Rattle.ring_theory.specs.Division.{IsDivision}
use Rattle.ring_theory.proofs.Division.{one_way}
use Rattle.ff_fields.specs.Field.{CodeField}
use Rattle.ff_fields.specs.Code.{code_ring, code_domain}
use Rattle.ff_fields.specs.Over.{IsOver}
use Rattle.linear_theory.specs.Euclidean.{IsDivisorIn}
use Rattle.ff_poly.specs.Words.{IsPoly, IsQuotientWithRest, product_of}
use Rattle.ff_poly.specs.PolyOver.{IsOver_product_of}
use Rattle.ff_poly.specs.Value.{value, value_sum, value_product}
use Rattle.ff_poly.specs.Polynomials.{Polynomial, polynomials, value_nil}
use Rattle.polynomial_theory.proofs.ListValues.{length_value}
use Rattle.ff_factor.specs.Pulls.{IsPulledOut}
use Rattle.polynomial_theory.proofs.Lengths.{zero_length}
use Rattle.polynomial_theory.proofs.Divisors.{some_value}

-- what stands at each turn: g is p to the power count times the rest, which isn't 0
pub record IsPulling (k : CodeField) (g p : List ℕ) (count : ℕ) (rest : List ℕ) : Type 0 where
  pub over : IsOver k.ops rest
  pub poly : IsPoly rest
  pub some : rest ≢ []
  pub product : value k g ≡ (polynomials k).◌⊗◌ (pow (polynomials k).ops (value k p) count) (value k rest)

module _ (k : CodeField) where
  infixl 65 ◌⊕◌
  infixl 70 ◌⊗◌
  open polynomials k use {𝟘, 𝟙, ◌⊕◌, ◌⊗◌}

  abbrev P : CommRing (Polynomial k)
  P = (polynomials k).ring

  pub positive : (d : List ℕ) → d ≢ [] → 0 < length d
  positive [] ne = absurd (ne refl)
  positive (x ∷ d) ne = omega arith

  pub list_some : (d : List ℕ) → IsOver k.ops d → IsPoly d → d ≢ [] → ¬ (value k d ≡ 𝟘)
  list_some d d_in d_poly ne = some_value k d d_in d_poly (positive d ne)

  quotient_value : (a b q r : List ℕ) → IsOver k.ops b → IsQuotientWithRest k.ops a b q r
      → value k a ≡ value k b ⊗ value k q ⊕ value k r
  quotient_value a b q r b_in d =
      ap (value k) d.whole ∙ value_sum k (product_of k.ops b q) r (IsOver_product_of k b_in d.quotient_in) d.rest_in
      ∙ ap (λ w. w ⊕ value k r) (value_product k b q b_in d.quotient_in)

  pub pulling_start : (g p rest : List ℕ) (count : ℕ) → IsOver k.ops g → IsPoly g → g ≢ [] → rest ≡ g → count ≡ 0
      → IsPulling k g p count rest
  pulling_start g p rest count g_in g_poly ne same none =
      subst (λ w. IsPulling k g p count w) (sym same) (subst (λ c. IsPulling k g p c g) (sym none)
      (record { over = g_in; poly = g_poly; some = ne; product = sym (one_mul P (value k g)) }))

  -- with rest 0 the divisor times the quotient is what is divided
  pub exact : (p rest q left : List ℕ) → IsOver k.ops p → IsQuotientWithRest k.ops rest p q left → left ≡ []
      → value k rest ≡ value k p ⊗ value k q
  exact p rest q left p_in d e =
      quotient_value rest p q left p_in d ∙ ap (λ w. value k p ⊗ value k q ⊕ w) (ap (value k) e ∙ value_nil k)
      ∙ P.add_zero _

  pub pulling_step : (g p rest q left : List ℕ) (count next : ℕ) → IsOver k.ops p → IsPulling k g p count rest
      → IsQuotientWithRest k.ops rest p q left → left ≡ []
      → next ≡ count + 1 → IsPulling k g p next q
  pulling_step g p rest q left count next p_in h d e next_is = subst (λ c. IsPulling k g p c q)
      (let f : suc count ≡ next = omega arith in f) (record {
        over = d.quotient_in;
        poly = d.quotient_poly;
        some = λ z. list_some rest h.over h.poly h.some
            (whole ∙ ap (λ w. value k p ⊗ w) (ap (value k) z ∙ value_nil k) ∙ mul_zero P (value k p));
        product =
            h.product ∙ ap (λ w. pow P.ops (value k p) count ⊗ w) whole
            ∙ sym (P.mul_assoc (pow P.ops (value k p) count) (value k p) (value k q))
            ∙ ap (λ w. w ⊗ value k q) (P.mul_comm (pow P.ops (value k p) count) (value k p));
      })
    where
      whole : value k rest ≡ value k p ⊗ value k q
      whole = exact p rest q left p_in d e

  pub pulling_shorter : (g p rest q left : List ℕ) (count : ℕ) → IsOver k.ops p → IsPoly p → 2 ≤ length p
      → IsPulling k g p count rest → IsQuotientWithRest k.ops rest p q left → left ≡ []
      → length q < length rest
  pulling_shorter g p rest q left count p_in p_poly long h d e =
      let p_some = some_value k p p_in p_poly (omega arith) in
      let whole = exact p rest q left p_in d e in
      let q_some : ¬ (value k q ≡ 𝟘) = λ z. list_some rest h.over h.poly h.some
      (whole ∙ ap (λ w. value k p ⊗ w) z ∙ mul_zero P (value k p)) in
      let l : length (value k rest).0 ≡ length (value k p ⊗ value k q).0 = ap (λ w. length w.0) whole in
      omega (
        arith,
        length_product (code_ring k) (code_domain k) (value k p) (value k q) p_some q_some,
        length_value k p p_in p_poly,
        length_value k q d.quotient_in d.quotient_poly,
        length_value k rest h.over h.poly,
      )

  -- with another rest it is no divisor
  pub not_divisor : (p a q left : List ℕ) → IsOver k.ops p → IsPoly p → 2 ≤ length p
      → IsQuotientWithRest k.ops a p q left → ¬ (left ≡ []) → ¬ IsDivisorIn P.ops (value k p) (value k a)
  not_divisor p a q left p_in p_poly long d ne c =
      list_some left d.rest_in d.rest_poly ne
      (one_way (code_ring k) (code_domain k) (value k a) (value k p) (value k q) c.0 (value k left) 𝟘 by_division
      (record { whole = c.1 ∙ sym (P.add_zero (value k p ⊗ c.0)); shorter = omega (arith, zero_length k, p_size) })).1
    where
      p_size : length (value k p).0 ≡ length p
      p_size = length_value k p p_in p_poly

      by_division : IsDivision (code_ring k) (value k a) (value k p) (value k q) (value k left)
      by_division = record {
        whole = quotient_value a p q left p_in d;
        shorter = omega (arith, d.shorter, p_size, length_value k left d.rest_in d.rest_poly);
      }

  pub pulled_out : (g p rest q left : List ℕ) (count : ℕ) → IsOver k.ops p → IsPoly p → 2 ≤ length p
      → IsPulling k g p count rest → IsQuotientWithRest k.ops rest p q left → ¬ (left ≡ [])
      → IsPulledOut k g p count rest
  pulled_out g p rest q left count p_in p_poly long h d ne =
      record {
        over = h.over;
        poly = h.poly;
        product = h.product;
        free = not_divisor p rest q left p_in p_poly long d ne;
      }
