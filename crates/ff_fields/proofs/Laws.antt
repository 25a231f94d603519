-- The polynomials that the sum and the product of two codes stand for.
use Rattle.std.specs.Prelude.{◌^◌, ◌↔◌, List, [], ◌∷◌, true, IsTrue, get_or}
use Rattle.std.proofs.Common.{◌≡◌, ℕ, zero, suc, ◌<◌, length, refl, sym, ap, ap₂, subst, ◌∙◌, arith}
use mathlib.Core.Bool.{Bool-set}
use Rattle.ring_lemmas.specs.Congruence.{IsCongruent}
use Rattle.ring_lemmas.specs.Lists.{add_lists}
use Rattle.ring_lemmas.proofs.Congruence.{congruent_sym, congruent_trans}
use Rattle.ring_lemmas.proofs.Lists.{length_add_lists}
use Rattle.ring_theory.specs.PolynomialRing.{pol_ring}
use Rattle.ring_lemmas.proofs.Polynomials.{same_pol, series_add}
use Rattle.ff_fields.specs.Code.{raw_ring, code_ring, same_code, zero_in}
use Rattle.ff_fields.specs.Field.{CodeField}
use Rattle.ff_fields.specs.Laws.{IsCodeSum, IsProductOf, polynomials}
use Rattle.ff_fields.specs.Modulus.{IsMonicModulus, polynomial}
use Rattle.ff_fields.specs.Over.{IsOver, IsOver_add}
use Rattle.ff_fields.specs.Prime.{is_listed, prime_of, prime_field}
use Rattle.ff_fields.specs.Residue.{digits, residue_of, residue_mul, length_digits, IsOver_digits, number_below}
use Rattle.ff_fields.proofs.PolyCodes.{code, of_code, code_of_code, base_pos}
use Rattle.ff_fields.proofs.Products.{one_class, below, same_residue}
use Rattle.ff_fields.proofs.Reductions.{coeff_polynomial, of_number}

added_at : (k : CodeField) (xs ys : List ℕ) (n : ℕ) → length xs ≡ length ys
    → get_or (add_lists (raw_ring k.ops) xs ys) n 0 ≡ k.add (get_or xs n 0) (get_or ys n 0)
added_at k [] [] n same = sym (k.laws.zero_add 0 (zero_in k))
added_at k [] (y ∷ ys) n same = absurd (omega arith)
added_at k (x ∷ xs) [] n same = absurd (omega arith)
added_at k (x ∷ xs) (y ∷ ys) zero same = refl
added_at k (x ∷ xs) (y ∷ ys) (suc n) same = added_at k xs ys n (omega arith)

module _ (p : ℕ) (listed : IsTrue (is_listed p)) (m a b : ℕ) where
  abbrev k : CodeField
  k = prime_field p listed

  abbrev sum : List ℕ
  sum = add_lists (raw_ring (prime_of p)) (digits p m a) (digits p m b)

  same_length : length (digits p m a) ≡ length (digits p m b)
  same_length = length_digits p m a ∙ sym (length_digits p m b)

  sum_over : IsOver (prime_of p) sum
  sum_over = IsOver_add k (digits p m a) (digits p m b) (IsOver_digits p (base_pos p listed) m a)
      (IsOver_digits p (base_pos p listed) m b)

  sum_long : length sum ≡ m
  sum_long = length_add_lists (raw_ring (prime_of p)) (digits p m a) (digits p m b) (omega (arith, same_length))
      ∙ length_digits p m a

  sum_polynomial : of_code p listed m ((residue_of p m []).add a b)
      ≡ (polynomials p listed).◌⊕◌ (of_code p listed m a) (of_code p listed m b)
  sum_polynomial =
      of_number p listed m sum (omega (arith, sum_long)) sum_over
      ∙ same_pol (code_ring k) _ _ (λ n.
      same_code k _ _
      (coeff_polynomial p listed sum n sum_over
      ∙ added_at k (digits p m a) (digits p m b) n same_length
      ∙ ap₂ k.add
      (sym (coeff_polynomial p listed (digits p m a) n (IsOver_digits p (base_pos p listed) m a)))
      (sym (coeff_polynomial p listed (digits p m b) n (IsOver_digits p (base_pos p listed) m b))))
      ∙ sym (series_add (code_ring k) (of_code p listed m a) (of_code p listed m b) n))

  sum_below : (residue_of p m []).add a b < p ^ m
  sum_below = number_below p (base_pos p listed) m sum sum_long sum_over

-- a + b is the one code that stands for the sum
pub sum_law : (p m : ℕ) (modulus : List ℕ) → IsMonicModulus p m modulus → (a b c : ℕ)
    → (c ≡ (residue_of p m modulus).add a b) ↔ IsCodeSum p m a b c
sum_law p m modulus poly a b c = (
  λ e. record {
    below = subst (λ w. w < p ^ m) (sym e) (sum_below p poly.size.listed m a b);
    sum = λ listed. ap (of_code p listed m) e ∙ sum_polynomial p listed m a b;
  },
  λ h.
      let listed = poly.size.listed in
      sym (code_of_code p listed m c h.below)
      ∙ ap (code p listed) (h.sum listed ∙ sym (sum_polynomial p listed m a b))
      ∙ code_of_code p listed m ((residue_of p m modulus).add a b) (sum_below p listed m a b),
)

abbrev IsClass : (p m : ℕ) (modulus : List ℕ) (a b : ℕ) → IsTrue (is_listed p) → ℕ → Type 0
IsClass p m modulus a b l c =
    IsCongruent (polynomials p l) (polynomial p l modulus) (of_code p l m c)
    ((polynomials p l).◌⊗◌ (of_code p l m a) (of_code p l m b))

-- a · b is the one code that stands for the class of the product
pub product_law : (p m : ℕ) (modulus : List ℕ) → IsMonicModulus p m modulus → (a b c : ℕ)
    → (c ≡ (residue_of p m modulus).mul a b) ↔ IsProductOf p m modulus a b c
product_law p m modulus poly a b c = (
  λ e. record {
    below = subst (λ w. w < p ^ m) (sym e) (below p m modulus poly a b);
    congruent = λ listed.
        subst (λ l. IsClass p m modulus a b l c) (Bool-set (is_listed p) true poly.size.listed listed)
        (subst (IsClass p m modulus a b poly.size.listed) (sym e) (same_residue p m modulus poly a b));
  },
  λ h.
      let s = pol_ring (code_ring (prime_field p poly.size.listed)) in
      let modulus_is = polynomial p poly.size.listed modulus in
      one_class p m modulus poly c (residue_mul p m modulus a b) h.below (below p m modulus poly a b)
      (congruent_trans s.ring modulus_is _ _ _ (h.congruent poly.size.listed)
      (congruent_sym s.ring modulus_is _ _ (same_residue p m modulus poly a b))),
)
