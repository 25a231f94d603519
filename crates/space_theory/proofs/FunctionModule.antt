-- The functions of a curve as a module over the polynomials, with 1/x as division by the variable.
use Rattle.std.proofs.Common.{◌≡◌, ℕ, zero, suc, ℤ, pos, negsuc, [], ◌∷◌, sym, ◌∙◌, ap, ap₂, refl}
use Rattle.ring_lemmas.specs.Ring.{pow}
use Rattle.ring_lemmas.proofs.Ring.{one_mul}
use Rattle.ring_lemmas.specs.Polynomials.{pol_of}
use Rattle.ff_fields.specs.Field.{CodeField}
use Rattle.ff_fields.specs.Code.{code_ring, same_code, zero_in, read_code, read_code_below}
use Rattle.ff_poly.specs.Polynomials.{polynomials, x_poly, x_poly_not_zero}
use Rattle.function_field.specs.Functions.{Equation, FunctionOf, ring_of, of_poly, setting_of}
use Rattle.function_field.proofs.OnSide.{of_poly_zero, den_inverse}
use Rattle.linear_theory.specs.Module.{Module, IsHomomorphism}
use Rattle.linear_theory.proofs.Coefficients.{restricted}
use Rattle.places_theory.proofs.YRoot.{poly_hom}
use Rattle.lattice_theory.specs.Lattices.{polynomial_ops}
use Rattle.order_theory.proofs.LocalOrders.{power_value}
use Rattle.reduced_basis_theory.specs.Reduced.{variable, divided, MultipliedByPower, HasDivision}
use Rattle.space_theory.specs.Spaces.{multiples_of}
use Rattle.ring_lemmas.proofs.Solver.{ring, reads, from_one}

-- the variable, by its codes
pub variable_is : (k : CodeField) → variable (code_ring k) ≡ x_poly k
variable_is k =
    ap₂ (λ a b. pol_of (code_ring k) (a ∷ b ∷ []))
    (same_code k (code_ring k).𝟘 (read_code k 0) (sym (read_code_below k 0 (zero_in k))))
    (same_code k (code_ring k).𝟙 (read_code k 1) (sym (read_code_below k 1 k.laws.one_below)))

module _ {k : CodeField} (c : Equation k) where
  infixl 65 ◌⊕◌
  infixl 70 ◌⊗◌
  open ring_of c use {𝟘, 𝟙, ◌⊕◌, ◌⊗◌}

  pub polynomial_hom : IsHomomorphism (polynomials k).ops (ring_of c).ops (of_poly c)
  polynomial_hom =
      record {
        zero_is = sym (of_poly_zero c);
        one_is = (poly_hom c).𝟙;
        sum_is = (poly_hom c).add;
        product_is = (poly_hom c).mul;
      }

  -- F over k[x]
  abbrev pub functions_module : Module (polynomials k).ring (FunctionOf c)
  functions_module = restricted (polynomials k).ring (ring_of c) (of_poly c) polynomial_hom

  abbrev pub t : FunctionOf c
  t = (setting_of c).one_over_x

  abbrev pub x : FunctionOf c
  x = (setting_of c).x

  pub x_times_t : x ⊗ t ≡ 𝟙
  x_times_t = den_inverse c (x_poly k) (x_poly_not_zero k)

  pub cancel : (a b z : FunctionOf c) → a ⊗ b ≡ 𝟙 → a ⊗ (b ⊗ z) ≡ z
  cancel a b z e = sym ((ring_of c).mul_assoc a b z) ∙ ap (λ w. w ⊗ z) e ∙ one_mul (ring_of c) z

  -- a sum with both denominators
  pub over_both : (B E A s h r : FunctionOf c) → B ⊗ s ≡ A → B ⊗ E ⊗ (s ⊗ h ⊕ r) ≡ A ⊗ E ⊗ h ⊕ B ⊗ (E ⊗ r)
  over_both B E A s h r e =
      from_one (ring_of c) (E ⊗ h) e
      (ring (ring_of c) (B ∷ E ∷ A ∷ s ∷ h ∷ r ∷ []) λ q i. simp (reads, q, i 0, i 1, i 2, i 3, i 4, i 5)
      (q.equal _ _ refl))

  variable_x : of_poly c (variable (code_ring k)) ≡ x
  variable_x = ap (of_poly c) (variable_is k)

  abbrev pub division : HasDivision (code_ring k) (polynomial_ops c)
  division = record {
    divide = λ z. t ⊗ z;
    undo = λ z. ap (λ w. w ⊗ (t ⊗ z)) (ap (of_poly c) (variable_is k)) ∙ cancel (setting_of c).x t z x_times_t;
    redo = λ z.
        ap (λ w. t ⊗ (w ⊗ z)) (ap (of_poly c) (variable_is k))
        ∙ cancel t (setting_of c).x z ((ring_of c).mul_comm t (setting_of c).x ∙ x_times_t);
  }

  -- z divided by x^j
  divided_is : (j : ℕ) (z : FunctionOf c) → divided (λ z. t ⊗ z) j z ≡ pow (ring_of c).ops t j ⊗ z
  divided_is zero z = sym (one_mul (ring_of c) z)
  divided_is (suc j) z =
      divided_is j (t ⊗ z) ∙ sym ((ring_of c).mul_assoc _ t z) ∙ ap (λ w. w ⊗ z) ((ring_of c).mul_comm _ t)

  -- so the multiples x^m·N are those of the theory of reduced bases
  pub multiples_are : (N : FunctionOf c → Type 0) (m : ℤ) (z : FunctionOf c)
      → MultipliedByPower (code_ring k) (polynomial_ops c) (divided (λ z. t ⊗ z)) N m z ≡ multiples_of c N m z
  multiples_are N (pos zero) z = ap N (sym (one_mul (ring_of c) z))
  multiples_are N (pos (suc j)) z = ap N (divided_is (suc j) z)
  multiples_are N (negsuc j) z =
      ap (λ w. N (w ⊗ z)) (power_value c (variable (code_ring k)) (suc j)
      ∙ ap (λ w. pow (ring_of c).ops w (suc j)) variable_x)
