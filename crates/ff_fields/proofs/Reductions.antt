-- Reductions as equations of polynomials.
use Rattle.std.proofs.Common.{◌≡◌, ℕ, zero, suc, ◌^◌, ◌<◌, ◌≤◌, List, [], ◌∷◌, ◌++◌, length, get_or, take, replicate, IsTrue, refl, sym, ap, ap₂, ◌∙◌, arith}
use mathlib.Core.Path.{fun_ext}
use Rattle.ring_lemmas.specs.Ring.{TestedRing}
use Rattle.ring_lemmas.specs.Lists.{coeff_of, convolution, mul_onto, scale_list}
use Rattle.ring_lemmas.proofs.Ring.{zero_add, mul_zero}
use Rattle.ring_lemmas.proofs.Sequences.{convolution_comm}
use Rattle.ring_lemmas.proofs.Lists.{coeff_trim, coeff_add, coeff_scale, coeff_mul, coeff_mul_onto}
use Rattle.ring_lemmas.specs.Polynomials.{Pol}
use Rattle.ring_theory.specs.PolynomialRing.{pol_ring}
use Rattle.ring_lemmas.proofs.Polynomials.{same_pol, series_add, series_mul}
use Rattle.ring_lemmas.proofs.Division.{length_bound}
use Rattle.ff_fields.specs.Field.{CodeField}
use Rattle.ff_fields.specs.Prime.{is_listed, prime_of, prime_field}
use Rattle.ff_fields.specs.Code.{Code, code_ring, same_code, read_code_below}
use Rattle.ff_fields.specs.Over.{IsOver, IsOver_tail}
use Rattle.ff_fields.specs.Numbers.{read}
use Rattle.ff_fields.specs.Residue.{digits, number, length_digits, IsOver_digits}
use Rattle.ff_fields.specs.Modulus.{IsReducedProduct, polynomial}
use Rattle.ff_fields.proofs.ReduceSteps.{read_at, past_end}
use Rattle.ff_fields.proofs.PolyCodes.{of_code, of_code_code, code_of_code, digit_of_code, digit_of_number, base_pos}

-- the list [1, 0, .., 0], which stands for one
abbrev pub unit_list : ℕ → List ℕ
unit_list n = 1 ∷ replicate n 0

-- lists of numbers and their polynomials
module _ (p : ℕ) (listed : IsTrue (is_listed p)) where
  abbrev k : CodeField
  k = prime_field p listed

  abbrev K : TestedRing (Code k)
  K = code_ring k

  abbrev s : TestedRing (Pol K)
  s = pol_ring K

  pub coeff_polynomial : (codes : List ℕ) (n : ℕ) → IsOver (prime_of p) codes
      → (coeff_of K.ops (polynomial p listed codes).0 n).0 ≡ get_or codes n 0
  coeff_polynomial codes n over = ap (λ x. x.0) (coeff_trim K (read k codes) n) ∙ read_at p listed codes n over

  pub length_polynomial : (codes : List ℕ) → IsOver (prime_of p) codes
      → length (polynomial p listed codes).0 ≤ length codes
  length_polynomial codes over =
      length_bound K (polynomial p listed codes).0 (length codes) (polynomial p listed codes).1
      (λ i le. same_code k _ K.𝟘 (coeff_polynomial codes i over ∙ past_end codes i le))

  -- the digits of the number of a list are the list, up to zeros on top
  pub of_number : (m : ℕ) (codes : List ℕ) → length codes ≤ m → IsOver (prime_of p) codes
      → of_code p listed m (number p codes) ≡ polynomial p listed codes
  of_number m codes le over =
      same_pol K _ _ (λ n.
      same_code k _ _
      (digit_of_code p listed m (number p codes) n ∙ digit_of_number p (base_pos p listed) m codes n le over
      ∙ sym (coeff_polynomial codes n over)))

  -- codes of different lengths stand for the same polynomial
  pub of_code_same : (n m c : ℕ) → n ≤ m → c < p ^ n → of_code p listed m c ≡ of_code p listed n c
  of_code_same n m c le less =
      ap (of_code p listed m) (sym (code_of_code p listed n c less))
      ∙ of_code_code p listed m (of_code p listed n c)
      (le_trans_lem (length_polynomial (digits p n c) (IsOver_digits p (base_pos p listed) n c))
      (length_digits p n c))
    where
      le_trans_lem : length (polynomial p listed (digits p n c)).0 ≤ length (digits p n c) → length (digits p n c) ≡ n
          → length (polynomial p listed (digits p n c)).0 ≤ m
      le_trans_lem a b = omega (arith, a, b, le)

  -- the right side of a reduction
  reduced_at : (q f rest : List ℕ) (n : ℕ)
      → K.◌⊕◌ (convolution K.ops (coeff_of K.ops (read k q)) (coeff_of K.ops (read k f)) n)
      (coeff_of K.ops (read k rest) n) ≡ coeff_of K.ops
      (s.◌⊕◌ (s.◌⊗◌ (polynomial p listed f) (polynomial p listed q)) (polynomial p listed rest)).0 n
  reduced_at q f rest n =
      sym (series_add K (s.◌⊗◌ (polynomial p listed f) (polynomial p listed q)) (polynomial p listed rest) n
      ∙ ap₂ K.◌⊕◌
      (series_mul K (polynomial p listed f) (polynomial p listed q) n ∙ convolution_comm K.ring _ _ n
      ∙ ap₂ (λ f g. convolution K.ops f g n) (fun_ext (coeff_trim K (read k q))) (fun_ext (coeff_trim K (read k f))))
      (coeff_trim K (read k rest) n))

  zeros_at : (m n : ℕ) → coeff_of K.ops (read k (replicate m 0)) n ≡ K.𝟘
  zeros_at zero n = refl
  zeros_at (suc m) zero = same_code k _ K.𝟘 (read_code_below k 0 (base_pos p listed))
  zeros_at (suc m) (suc n) = zeros_at m n

  -- a product that was reduced
  pub reduced_product : (a b q f rest : List ℕ) (m : ℕ) → IsReducedProduct p a b (replicate m 0) q f rest
      → s.◌⊗◌ (polynomial p listed a) (polynomial p listed b)
      ≡ s.◌⊕◌ (s.◌⊗◌ (polynomial p listed f) (polynomial p listed q)) (polynomial p listed rest)
  reduced_product a b q f rest m done =
      same_pol K _ _ (λ n.
      series_mul K (polynomial p listed a) (polynomial p listed b) n
      ∙ ap₂ (λ f g. convolution K.ops f g n) (fun_ext (coeff_trim K (read k a))) (fun_ext (coeff_trim K (read k b)))
      ∙ sym (coeff_mul K (read k a) (read k b) n)
      ∙ sym (coeff_mul_onto K (read k a) (read k b) (read k (replicate m 0)) (zeros_at m) n)
      ∙ done.whole listed n
      ∙ reduced_at q f rest n)

  unit_zero : coeff_of K.ops (read k (1 ∷ [])) zero ≡ K.𝟙
  unit_zero = same_code k _ K.𝟙 (read_code_below k 1 k.laws.one_below)

  onto_unit : (xs zs : List (Code k)) (j n : ℕ)
      → coeff_of K.ops (mul_onto K.ops xs (read k (unit_list j)) zs) n ≡ coeff_of K.ops (xs ++ zs) n
  onto_unit [] zs j n = refl
  onto_unit (x ∷ xs) zs j n =
      coeff_add K (K.𝟘 ∷ mul_onto K.ops xs (read k (unit_list j)) zs) (scale_list K.ops x (read k (unit_list j))) n
      ∙ ap (K.◌⊕◌ (coeff_of K.ops (K.𝟘 ∷ mul_onto K.ops xs (read k (unit_list j)) zs) n))
      (coeff_scale K x (read k (unit_list j)) n)
      ∙ go n (onto_unit xs zs j)
    where
      go : (n : ℕ) → ((n : ℕ) → coeff_of K.ops (mul_onto K.ops xs (read k (unit_list j)) zs) n
          ≡ coeff_of K.ops (xs ++ zs) n) → K.◌⊕◌ (coeff_of K.ops (K.𝟘 ∷ mul_onto K.ops xs (read k (unit_list j)) zs) n)
          (K.◌⊗◌ x (coeff_of K.ops (read k (unit_list j)) n)) ≡ coeff_of K.ops (x ∷ (xs ++ zs)) n
      go zero rest = ap (λ w. K.◌⊕◌ K.𝟘 (K.◌⊗◌ x w)) unit_zero ∙ zero_add K.ring _ ∙ K.mul_one x
      go (suc n) rest = ap₂ (λ v w. K.◌⊕◌ v (K.◌⊗◌ x w)) (rest n) (zeros_at j n) ∙ ap (K.◌⊕◌ _) (mul_zero K.ring x)
          ∙ K.add_zero _

  -- the lower coefficients of a monic polynomial, and its top before zeros
  monic_split : (f : List ℕ) (m j n : ℕ) → length f ≡ suc m → IsOver (prime_of p) f → get_or f m 0 ≡ 1
      → coeff_of K.ops (read k (take m f) ++ read k (unit_list j)) n ≡ coeff_of K.ops (read k f) n
  monic_split [] m j n long over monic = absurd (omega arith)
  monic_split (c ∷ []) zero j zero long over monic = ap (λ w. coeff_of K.ops (read k (w ∷ [])) zero) (sym monic)
  monic_split (c ∷ []) zero j (suc n) long over monic = zeros_at j n
  monic_split (c ∷ d ∷ f) zero j n long over monic = absurd (omega arith)
  monic_split (c ∷ f) (suc m) j zero long over monic = refl
  monic_split (c ∷ f) (suc m) j (suc n) long over monic = monic_split f m j n (omega arith) (IsOver_tail over) monic

  -- a division of a monic polynomial
  pub reduced_quotient : (f q d rest : List ℕ) (m j : ℕ) → length f ≡ suc m → IsOver (prime_of p) f → get_or f m 0 ≡ 1
      → IsReducedProduct p (take m f) (unit_list j) (unit_list j) q d rest
      → polynomial p listed f ≡ s.◌⊕◌ (s.◌⊗◌ (polynomial p listed d) (polynomial p listed q)) (polynomial p listed rest)
  reduced_quotient f q d rest m j long over monic done =
      same_pol K _ _ (λ n.
      coeff_trim K (read k f) n
      ∙ sym (monic_split f m j n long over monic)
      ∙ sym (onto_unit (read k (take m f)) (read k (unit_list j)) j n)
      ∙ done.whole listed n
      ∙ reduced_at q d rest n)
