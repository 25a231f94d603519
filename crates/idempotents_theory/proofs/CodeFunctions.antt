-- The codes as functions: each code is one function, and sums and products of codes are those of functions.
use Rattle.std.proofs.Common.{◌≡◌, ℕ, zero, ◌<◌, List, [], ◌∷◌, refl, sym, ap, ap₂, ◌∙◌}
use Rattle.ring_lemmas.specs.Lists.{coeff_of}
use Rattle.ring_lemmas.specs.Polynomials.{constant}
use Rattle.ring_lemmas.proofs.Lists.{coeff_trim}
use Rattle.ff_fields.specs.Field.{CodeField}
use Rattle.ff_fields.specs.Code.{Code, code_ring, same_code, read_code, read_code_below, zero_in}
use Rattle.function_field.specs.Functions.{Equation, FunctionOf, ring_of, IsCode}
use Rattle.lattice_theory.proofs.Indices.{code_of, code_hom}
use Rattle.order_theory.proofs.Degrees.{code_is, code_at}
use Rattle.space_theory.proofs.RationalPart.{polynomial_same}
use Rattle.idempotents_theory.specs.Coordinates.{code_function}

module _ {k : CodeField} (c : Equation k) where
  infixl 65 ◌⊕◌
  infixl 70 ◌⊗◌
  open ring_of c use {𝟘, 𝟙, ◌⊕◌, ◌⊗◌}

  -- the function of a code
  pub code_value : (x : Code k) → code_function c x.0 ≡ code_of c x
  code_value x = ap (code_of c) (same_code k (read_code k x.0) x (read_code_below k x.0 x.1))

  pub code_zero : code_function c 0 ≡ 𝟘
  code_zero = code_value (0, zero_in k) ∙ (code_hom c).zero_is

  pub code_sum : (a b : ℕ) → a < k.size → b < k.size
      → code_function c (k.add a b) ≡ code_function c a ⊕ code_function c b
  code_sum a b a_in b_in =
      code_value (k.add a b, k.laws.add_below a b a_in b_in) ∙ (code_hom c).sum_is (a, a_in) (b, b_in)
      ∙ ap₂ ◌⊕◌ (sym (code_value (a, a_in))) (sym (code_value (b, b_in)))

  pub code_product : (a b : ℕ) → a < k.size → b < k.size
      → code_function c (k.mul a b) ≡ code_function c a ⊗ code_function c b
  code_product a b a_in b_in =
      code_value (k.mul a b, k.laws.mul_below a b a_in b_in) ∙ (code_hom c).product_is (a, a_in) (b, b_in)
      ∙ ap₂ ◌⊗◌ (sym (code_value (a, a_in))) (sym (code_value (b, b_in)))

  pub code_function_in : (a : ℕ) → IsCode c (code_function c a)
  code_function_in a = code_is c (read_code k a)

  -- each function that is a code is that of a number
  pub code_number : (z : FunctionOf c) → IsCode c z → (x : Code k) × (z ≡ code_function c x.0)
  code_number z h = let r = code_at c z h in (r.0, r.1 ∙ sym (code_value r.0))

  first_coefficient : (x : Code k) → coeff_of (code_ring k).ops (constant (code_ring k) x).0 0 ≡ x
  first_coefficient x = coeff_trim (code_ring k) (x ∷ []) 0

  pub code_once : (a b : ℕ) → a < k.size → b < k.size → code_function c a ≡ code_function c b → a ≡ b
  code_once a b a_in b_in e =
      let x : Code k = (a, a_in) in
      let y : Code k = (b, b_in) in
      let same : code_of c x ≡ code_of c y = sym (code_value x) ∙ e ∙ code_value y in
      ap (λ z. z.0)
      (sym (first_coefficient x)
      ∙ ap (λ p. coeff_of (code_ring k).ops p.0 0)
      (polynomial_same c (constant (code_ring k) x) (constant (code_ring k) y) same)
      ∙ first_coefficient y)
