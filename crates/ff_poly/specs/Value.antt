-- What a list of codes stands for: a polynomial of the ring k[x]. Here the laws hold without conditions.
use Rattle.std.specs.Prelude.{◌≡◌, ℕ, List, length}
use Rattle.std.proofs.Common.{sym, ap, ap₂, ◌∙◌, arith}
use Rattle.std.proofs.lemmas.List.{length-map}
use mathlib.Core.Path.{fun_ext}
use Rattle.ff_fields.specs.Field.{CodeField}
use Rattle.ring_lemmas.specs.Ring.{TestedRing}
use Rattle.ring_lemmas.specs.Lists.{convolution, coeff_of, add_lists, mul_lists, trim}
use Rattle.ff_fields.specs.Code.{raw_ring, is_zero_code, Code, code_ring, code_domain}
use Rattle.ring_lemmas.proofs.Lists.{trim_trimmed, coeff_add, coeff_mul, coeff_trim, same_trims}
use Rattle.ring_lemmas.specs.Polynomials.{Pol, pol_of}
use Rattle.ring_theory.specs.PolynomialRing.{pol_ring}
use Rattle.ring_lemmas.proofs.Polynomials.{same_pol, series_add, series_mul}
use Rattle.ring_theory.specs.Division.{IsDivision}
use Rattle.ring_theory.proofs.Division.{one_way}
use Rattle.ff_fields.specs.Over.{IsOver}
use Rattle.ff_fields.specs.Numbers.{numbers, read, numbers_read, read_numbers, numbers_add, numbers_mul, numbers_trim}
use Rattle.ff_poly.specs.PolyOver.{IsOver_sum_of, IsOver_product_of, IsPoly_poly_of}
use Rattle.ff_poly.specs.Words.{IsPoly, IsQuotientWithRest, poly_of, sum_of, product_of}

module _ (k : CodeField) where
  abbrev K : TestedRing (Code k)
  K = code_ring k

  -- lists of numbers with the same coefficients as codes are one polynomial
  pub same_numbers : (ns ms : List ℕ) (xs ys : List (Code k)) → ns ≡ numbers k xs → ms ≡ numbers k ys
      → ((n : ℕ) → coeff_of K.ops xs n ≡ coeff_of K.ops ys n) → poly_of ns ≡ poly_of ms
  same_numbers ns ms xs ys ns_is ms_is same =
      ap poly_of ns_is ∙ sym (numbers_trim k xs) ∙ ap (numbers k) (same_trims K xs ys same) ∙ numbers_trim k ys
      ∙ ap poly_of (sym ms_is)

  -- the polynomial that a list of numbers stands for
  abbrev pub value : List ℕ → Pol K
  value ns = pol_of K (read k ns)

  -- a list of codes without a zero on top is what its value writes
  pub numbers_value : (a : List ℕ) → IsOver k.ops a → IsPoly a → numbers k (value a).0 ≡ a
  numbers_value a a_in a_poly = numbers_trim k (read k a) ∙ ap poly_of (numbers_read k a a_in)
      ∙ trim_trimmed is_zero_code a a_poly.trimmed

  pub same_from_value : (a b : List ℕ) → IsOver k.ops a → IsOver k.ops b → IsPoly a → IsPoly b → value a ≡ value b
      → a ≡ b
  same_from_value a b a_in b_in a_poly b_poly same =
      sym (numbers_value a a_in a_poly) ∙ ap (λ p. numbers k p.0) same ∙ numbers_value b b_in b_poly

  -- what a list stands for has the coefficients of the list
  pub series_value : (xs : List (Code k)) (n : ℕ)
      → coeff_of K.ops (value (poly_of (numbers k xs))).0 n ≡ coeff_of K.ops xs n
  series_value xs n =
      coeff_trim K _ n
      ∙ ap (λ ys. coeff_of K.ops ys n) (ap (read k) (sym (numbers_trim k xs)) ∙ read_numbers k (trim K.is_zero xs))
      ∙ coeff_trim K xs n

  -- what the words of contracts stand for
  pub value_sum : (a b : List ℕ) → IsOver k.ops a → IsOver k.ops b
      → value (sum_of k.ops a b) ≡ (pol_ring K).◌⊕◌ (value a) (value b)
  value_sum a b a_in b_in =
      ap (λ ns. value (poly_of ns)) (ap₂ (add_lists (raw_ring k.ops)) (sym (numbers_read k a a_in))
      (sym (numbers_read k b b_in)) ∙ sym (numbers_add k (read k a) (read k b)))
      ∙ same_pol K _ _ (λ n.
      series_value (add_lists K.ops (read k a) (read k b)) n
      ∙ coeff_add K (read k a) (read k b) n
      ∙ ap₂ K.◌⊕◌ (sym (coeff_trim K (read k a) n)) (sym (coeff_trim K (read k b) n))
      ∙ sym (series_add K (value a) (value b) n))

  pub value_product : (a b : List ℕ) → IsOver k.ops a → IsOver k.ops b
      → value (product_of k.ops a b) ≡ (pol_ring K).◌⊗◌ (value a) (value b)
  value_product a b a_in b_in =
      ap (λ ns. value (poly_of ns)) (ap₂ (mul_lists (raw_ring k.ops)) (sym (numbers_read k a a_in))
      (sym (numbers_read k b b_in)) ∙ sym (numbers_mul k (read k a) (read k b)))
      ∙ same_pol K _ _ (λ n.
      series_value (mul_lists K.ops (read k a) (read k b)) n
      ∙ coeff_mul K (read k a) (read k b) n
      ∙ ap₂ (λ f g. convolution K.ops f g n) (sym (fun_ext (coeff_trim K (read k a))))
      (sym (fun_ext (coeff_trim K (read k b))))
      ∙ sym (series_mul K (value a) (value b) n))

  -- a law of the ring, said of lists of codes
  pub product_of_assoc : (a b c : List ℕ) → IsOver k.ops a → IsOver k.ops b → IsOver k.ops c
      → product_of k.ops (product_of k.ops a b) c ≡ product_of k.ops a (product_of k.ops b c)
  product_of_assoc a b c a_in b_in c_in =
      let s = pol_ring K in
      let ab_in = IsOver_product_of k a_in b_in in
      let bc_in = IsOver_product_of k b_in c_in in
      same_from_value _ _
      (IsOver_product_of k ab_in c_in) (IsOver_product_of k a_in bc_in)
      (IsPoly_poly_of (mul_lists (raw_ring k.ops) (product_of k.ops a b) c))
      (IsPoly_poly_of (mul_lists (raw_ring k.ops) a (product_of k.ops b c)))
      (value_product (product_of k.ops a b) c ab_in c_in
      ∙ ap (λ w. s.◌⊗◌ w (value c)) (value_product a b a_in b_in)
      ∙ (pol_ring K).mul_assoc (value a) (value b) (value c)
      ∙ sym (value_product a (product_of k.ops b c) a_in bc_in ∙ ap (s.◌⊗◌ (value a)) (value_product b c b_in c_in)))

  pub product_of_sum_of : (a b c : List ℕ) → IsOver k.ops a → IsOver k.ops b → IsOver k.ops c
      → product_of k.ops a (sum_of k.ops b c) ≡ sum_of k.ops (product_of k.ops a b) (product_of k.ops a c)
  product_of_sum_of a b c a_in b_in c_in =
      let s = pol_ring K in
      let bc_in = IsOver_sum_of k b_in c_in in
      let ab_in = IsOver_product_of k a_in b_in in
      let ac_in = IsOver_product_of k a_in c_in in
      same_from_value _ _
      (IsOver_product_of k a_in bc_in) (IsOver_sum_of k ab_in ac_in)
      (IsPoly_poly_of (mul_lists (raw_ring k.ops) a (sum_of k.ops b c)))
      (IsPoly_poly_of (add_lists (raw_ring k.ops) (product_of k.ops a b) (product_of k.ops a c)))
      (value_product a (sum_of k.ops b c) a_in bc_in
      ∙ ap (s.◌⊗◌ (value a)) (value_sum b c b_in c_in)
      ∙ (pol_ring K).mul_add (value a) (value b) (value c)
      ∙ sym (value_sum (product_of k.ops a b) (product_of k.ops a c) ab_in ac_in
      ∙ ap₂ s.◌⊕◌ (value_product a b a_in b_in) (value_product a c a_in c_in)))

  length_value : (a : List ℕ) → IsOver k.ops a → IsPoly a → length (value a).0 ≡ length a
  length_value a a_in a_poly = sym (length-map (value a).0 (λ x. x.0)) ∙ ap length (numbers_value a a_in a_poly)

  -- there is one quotient and one rest
  pub one_quotient : (a b q q' rest rest' : List ℕ) → IsOver k.ops b → IsPoly b → IsQuotientWithRest k.ops a b q rest
      → IsQuotientWithRest k.ops a b q' rest' → (q ≡ q') × (rest ≡ rest')
  one_quotient a b q q' rest rest' b_in b_poly d d' =
      let both = one_way K (code_domain k) (value a) (value b) (value q) (value q') (value rest) (value rest')
      (divides a b q rest b_in b_poly d) (divides a b q' rest' b_in b_poly d') in (
        same_from_value q q' d.quotient_in d'.quotient_in d.quotient_poly d'.quotient_poly both.0,
        same_from_value rest rest' d.rest_in d'.rest_in d.rest_poly d'.rest_poly both.1,
      )
    where
      divides : (a b q rest : List ℕ) → IsOver k.ops b → IsPoly b → IsQuotientWithRest k.ops a b q rest
          → IsDivision K (value a) (value b) (value q) (value rest)
      divides a b q rest b_in b_poly d = record {
        whole =
            ap value d.whole
            ∙ value_sum (product_of k.ops b q) rest (IsOver_product_of k b_in d.quotient_in) d.rest_in
            ∙ ap (λ w. (pol_ring K).◌⊕◌ w (value rest)) (value_product b q b_in d.quotient_in);
        shorter = omega (arith, d.shorter, length_value rest d.rest_in d.rest_poly, length_value b b_in b_poly);
      }
