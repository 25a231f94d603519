-- Division of polynomials, and k[x] as a Euclidean domain.
use mathlib.Core.Path.{fun_ext}
use Rattle.std.proofs.Common.{◌≡◌, ◌<◌, ◌≤◌, ◌-◌, inr, [], ◌∷◌, length, sym, ◌∙◌, ap, ap₂, arith}
use Rattle.ring_lemmas.specs.Lists.{coeff_of, convolution, rest_from, quotient_from}
use Rattle.ring_lemmas.proofs.Sequences.{convolution_comm}
use Rattle.ring_lemmas.proofs.Lists.{coeff_trim}
use Rattle.ring_lemmas.specs.Polynomials.{pol_of}
use Rattle.ring_lemmas.proofs.Polynomials.{same_pol, series_add, series_mul, coeff_top}
use Rattle.ring_lemmas.proofs.Division.{divided, rest_ends, length_bound}
use Rattle.linear_theory.specs.Euclidean.{Euclidean}
use Rattle.ff_fields.specs.Field.{CodeField}
use Rattle.ff_fields.specs.Code.{Code, code_ring, code_field}
use Rattle.ff_poly.specs.Polynomials.{Polynomial, polynomials, polynomials_domain, polynomial_discrete}
use Rattle.polynomial_theory.specs.Division.{Divided}
use Rattle.polynomial_theory.proofs.Lengths.{some_long, product_longer}

module _ (k : CodeField) where
  pub top_not_zero : (b : Polynomial k) → 0 < length b.0
      → ¬ (coeff_of (code_ring k).ops b.0 (length b.0 - 1) ≡ (code_ring k).𝟘)
  top_not_zero ([], t) l e = absurd (omega arith)
  top_not_zero ((x ∷ xs), t) l e =
      coeff_top (code_ring k) x xs t
      (ap (coeff_of (code_ring k).ops (x ∷ xs)) (let q : length xs ≡ length (x ∷ xs) - 1 = omega arith in q) ∙ e)

  pub divide : (a b : Polynomial k) → ¬ (b ≡ (polynomials k).𝟘) → Divided k a b
  divide a b n = record { quotient = by_quotient; rest = by_rest; is = by_whole; shorter = by_shorter }
    where
      unit : (u : Code k) × ((code_ring k).◌⊗◌ (coeff_of (code_ring k).ops b.0 (length b.0 - 1)) u ≡ (code_ring k).𝟙)
      unit = (code_field k).inverse (coeff_of (code_ring k).ops b.0 (length b.0 - 1)) (top_not_zero b (some_long k b n))

      by_quotient : Polynomial k
      by_quotient = pol_of (code_ring k) (quotient_from (code_ring k).ops b.0 unit.0 a.0)

      by_rest : Polynomial k
      by_rest = pol_of (code_ring k) (rest_from (code_ring k).ops b.0 unit.0 a.0)

      inverts : (code_ring k).◌⊗◌ unit.0 (coeff_of (code_ring k).ops b.0 (length b.0 - 1)) ≡ (code_ring k).𝟙
      inverts = (code_ring k).mul_comm unit.0 _ ∙ unit.1

      by_whole : a ≡ (polynomials k).◌⊕◌ ((polynomials k).◌⊗◌ b by_quotient) by_rest
      by_whole =
          same_pol (code_ring k) _ _ (λ n.
          divided (code_ring k) b.0 unit.0 a.0 n
          ∙ sym (series_add (code_ring k) ((polynomials k).◌⊗◌ b by_quotient) by_rest n
          ∙ ap₂ (code_ring k).◌⊕◌
          (series_mul (code_ring k) b by_quotient n ∙ convolution_comm (code_ring k).ring _ _ n
          ∙ ap (λ g. convolution (code_ring k).ops g (coeff_of (code_ring k).ops b.0) n)
          (fun_ext (coeff_trim (code_ring k) (quotient_from (code_ring k).ops b.0 unit.0 a.0))))
          (coeff_trim (code_ring k) (rest_from (code_ring k).ops b.0 unit.0 a.0) n)))

      short : length by_rest.0 ≤ length b.0 - 1
      short =
          length_bound (code_ring k) by_rest.0 (length b.0 - 1) by_rest.1 (λ i le.
          coeff_trim (code_ring k) (rest_from (code_ring k).ops b.0 unit.0 a.0) i
          ∙ rest_ends (code_ring k) b.0 unit.0 inverts a.0 i le)

      by_shorter : length by_rest.0 < length b.0
      by_shorter = omega (arith, short, some_long k b n)

  by_decision : (a b : Polynomial k) → Dec (b ≡ (polynomials k).𝟘) → Polynomial k × Polynomial k
  by_decision a b (yes e) = ((polynomials k).𝟘, a)
  by_decision a b (no n) = ((divide a b n).quotient, (divide a b n).rest)

  -- the quotient and the rest, total
  pub quotient_of : Polynomial k → Polynomial k → Polynomial k
  quotient_of a b = (by_decision a b (polynomial_discrete k b (polynomials k).𝟘)).0

  pub rest_of : Polynomial k → Polynomial k → Polynomial k
  rest_of a b = (by_decision a b (polynomial_discrete k b (polynomials k).𝟘)).1

  pub whole_of : (a b : Polynomial k) → ¬ (b ≡ (polynomials k).𝟘)
      → a ≡ (polynomials k).◌⊕◌ ((polynomials k).◌⊗◌ b (quotient_of a b)) (rest_of a b)
  unfolding quotient_of rest_of by_decision
  whole_of a b n = go (polynomial_discrete k b (polynomials k).𝟘)
    where
      go : (d : Dec (b ≡ (polynomials k).𝟘))
          → a ≡ (polynomials k).◌⊕◌ ((polynomials k).◌⊗◌ b (by_decision a b d).0) (by_decision a b d).1
      go (yes e) = absurd (n e)
      go (no m) = (divide a b m).is

  pub rest_shorter : (a b : Polynomial k) → ¬ (b ≡ (polynomials k).𝟘) → length (rest_of a b).0 < length b.0
  unfolding rest_of by_decision
  rest_shorter a b n = go (polynomial_discrete k b (polynomials k).𝟘)
    where
      go : (d : Dec (b ≡ (polynomials k).𝟘)) → length (by_decision a b d).1.0 < length b.0
      go (yes e) = absurd (n e)
      go (no m) = (divide a b m).shorter

  -- k[x] is Euclidean, by the number of coefficients
  abbrev pub euclidean : Euclidean (Polynomial k)
  euclidean = record {
    domain = record { tested = polynomials k; is_domain = polynomials_domain k };
    size = λ a. length a.0;
    quotient = quotient_of;
    rest = rest_of;
    division = whole_of;
    rest_smaller = λ a b n. inr (rest_shorter a b n);
    size_product = product_longer k;
  }
