-- Pairs that are closed under O_fin and O_inf, in the words of families of multiples; and products with one function
-- as a linear map.
use Rattle.std.proofs.Common.{◌≡◌, List, [], ◌∷◌, map, refl, sym, ◌∙◌, ap, subst, arith}
use Rattle.std.specs.Prelude.{ℕ, neg_ℤ}
use Rattle.std.proofs.lemmas.Int.{ints}
use Rattle.std.proofs.Math.IntN.{ℤ, ◌+ℤ◌}
use Rattle.ring_lemmas.proofs.Ring.{mul_mul, mul_left_comm}
use Rattle.ring_lemmas.proofs.Solver.{ring, reads}
use Rattle.prime_theory.specs.Ideals.{Multiple, SameSet}
use Rattle.linear_theory.specs.Module.{IsLinear}
use Rattle.ff_fields.specs.Field.{CodeField}
use Rattle.ff_fields.specs.Code.{code_ring}
use Rattle.function_field.specs.declared.side.Side.TheVariants.{Finite, Infinite}
use Rattle.function_field.specs.Places.{IsIntegralAt}
use Rattle.function_field.specs.Divisors.{x_to}
use Rattle.function_field.specs.Functions.{Equation, FunctionOf, ring_of, of_poly, setting_of, degree_of_y}
use Rattle.lattice_theory.specs.Lattices.{polynomial_ops}
use Rattle.reduced_basis_theory.specs.Canonical.{IsModulePair}
use Rattle.reduced_basis_theory.proofs.Transport.{reduced_image, reduced_same}
use Rattle.space_theory.specs.Spaces.{IsReducedBasis, multiples_of}
use Rattle.space_theory.proofs.FunctionModule.{functions_module, cancel}
use Rattle.divisor_theory.proofs.PowersOfX.{x_to_sum}

module _ {k : CodeField} (c : Equation k) where
  infixl 65 ◌⊕◌
  infixl 70 ◌⊗◌
  open ring_of c use {ops, 𝟙, ◌⊕◌, ◌⊗◌}

  -- x^l·N takes products with x^l'·O_inf into x^(l + l')·N
  pub closed_pair : (I N : FunctionOf c → Type 0)
      → ((v u : FunctionOf c) → IsIntegralAt (setting_of c) Finite v → I u → I (v ⊗ u))
      → ((v u : FunctionOf c) → IsIntegralAt (setting_of c) Infinite v → N u → N (v ⊗ u))
      → IsModulePair (ring_of c).ops (IsIntegralAt (setting_of c) Finite)
      (multiples_of c (IsIntegralAt (setting_of c) Infinite)) I (multiples_of c N)
  closed_pair I N closed closed' = record {
    scale = closed;
    scale_family = λ l l' v u v_in u_in.
        let a = x_to (setting_of c) (neg_ℤ l') in
        let b = x_to (setting_of c) (neg_ℤ l) in
        subst N
        (mul_mul (ring_of c) a v b u
        ∙ ap (λ w. w ⊗ (v ⊗ u)) (sym (x_to_sum c (neg_ℤ l') (neg_ℤ l)) ∙ ap (x_to (setting_of c)) (opposite l l')))
        (closed' (a ⊗ v) (b ⊗ u) v_in u_in);
  }
    where
      opposite : (l l' : ℤ) → neg_ℤ l' +ℤ neg_ℤ l ≡ neg_ℤ (l +ℤ l')
      opposite l l' = omega (arith, ints)

  pub times_linear : (z : FunctionOf c) → IsLinear (polynomial_ops c) (polynomial_ops c) (◌⊗◌ z)
  times_linear z a u v = turn (of_poly c a) u v
    where
      turn : (a u v : FunctionOf c) → z ⊗ (a ⊗ u ⊕ v) ≡ a ⊗ (z ⊗ u) ⊕ z ⊗ v
      turn a u v = ring (ring_of c) (z ∷ a ∷ u ∷ v ∷ []) λ q i. simp (reads, q, i 0, i 1, i 2, i 3) (q.equal _ _ refl)

  -- the multiples of a pair by a function with an inverse have the same degrees
  module _ (z y : FunctionOf c) (inverse : z ⊗ y ≡ 𝟙) where
    back : y ⊗ z ≡ 𝟙
    back = (ring_of c).mul_comm y z ∙ inverse

    of_inverse : (M : FunctionOf c → Type 0) → SameSet (λ w. M (y ⊗ w)) (Multiple (ring_of c).ops z M)
    of_inverse M w = (
      λ m. record { quotient = y ⊗ w; quotient_in = m; is = sym (cancel c z y w inverse) },
      λ h. subst M (sym (ap (λ v. y ⊗ v) h.is ∙ cancel c y z h.quotient back)) h.quotient_in,
    )

    pub multiples_basis : (I N : FunctionOf c → Type 0) (b : List (FunctionOf c)) (d : ℕ → ℤ) → IsReducedBasis c I N b d
        → IsReducedBasis c (Multiple (ring_of c).ops z I) (Multiple (ring_of c).ops z N) (map (◌⊗◌ z) b) d
    multiples_basis I N b d reduced =
        reduced_same (code_ring k) (functions_module c) (degree_of_y c) (λ w. I (y ⊗ w)) (Multiple ops z I)
        (λ m w. multiples_of c N m (y ⊗ w))
        (multiples_of c (Multiple ops z N)) (map (◌⊗◌ z) b) d d (of_inverse I)
        (λ m w.
        let t = x_to (setting_of c) (neg_ℤ m) in
        let e = of_inverse N (t ⊗ w) in (
          λ h. e.0 (subst N (mul_left_comm (ring_of c) t y w) h),
          λ h. subst N (mul_left_comm (ring_of c) y t w) (e.1 h),
        ))
        (λ i. refl)
        (reduced_image (code_ring k) (functions_module c) (degree_of_y c) (◌⊗◌ z) (◌⊗◌ y) (times_linear z)
        (λ w. cancel c z y w inverse) (λ w. cancel c y z w back) I
        (multiples_of c N) b d reduced)
