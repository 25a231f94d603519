-- The family of the x^m·N out of N alone, where x has an inverse on V: bounds for N give bounds for the family.
use Rattle.std.proofs.Common.{◌≡◌, ℕ, suc, ◌<◌, ◌↔◌, ℤ, pos, negsuc, ◌+ℤ◌, ◌-ℤ◌, List, length, sym, ◌∙◌, ap, subst, arith}
use Rattle.std.proofs.lemmas.Int.{ints}
use Rattle.ring_lemmas.specs.Ring.{TestedRing, IsField}
use Rattle.ring_lemmas.proofs.Ring.{field_domain, product_not_zero}
use Rattle.ring_lemmas.specs.Polynomials.{Pol}
use Rattle.ring_theory.specs.PolynomialRing.{pol_ring}
use Rattle.linear_theory.specs.Module.{Module, combine}
use Rattle.linear_theory.proofs.Combination.{combine_scale}
use Rattle.reduced_basis_theory.specs.Degree.{DegreeAtMost, degree}
use Rattle.reduced_basis_theory.specs.Reduced.{Coordinates, CoordinatesAtMost, IsReducedAt, MultipliedByPower}
use Rattle.reduced_basis_theory.proofs.Degree.{degree_cancel, degree_product, degree_own, degree_multiply}
use Rattle.reduced_basis_theory.proofs.Constants.{polynomials}
use Rattle.reduced_basis_theory.proofs.Powers.{power, degree_power, power_nonzero}

module _ {C V : Type 0} (k : TestedRing C) (field : IsField k.ops) (M : Module (pol_ring k).ring V)
    (divide : ℕ → V → V) (undo : (j : ℕ) (z : V) → M.◌•◌ (power k field j) (divide j z) ≡ z) where
  infixr 75 ◌•◌
  open M use {𝟬, ◌•◌}

  infixl 70 ◌⊗◌
  open (pol_ring k) use {𝟘, 𝟙, ◌⊗◌}

  abbrev family : (V → Type 0) → ℤ → V → Type 0
  family = MultipliedByPower k M.ops divide

  module _ (n : ℕ) (N : V → Type 0) (b : List V) (d : ℕ → ℤ) (count : length b ≡ n)
      (free : (p : ℕ → Pol k) → combine M.ops p b ≡ 𝟬 → (i : ℕ) → i < n → p i ≡ 𝟘)
      (coordinates : (z : V) → Coordinates k M.ops b z)
      (degrees : (z : V) (e : Pol k) (p : ℕ → Pol k) → ¬ (e ≡ 𝟘) → e • z ≡ combine M.ops p b → N z
      ↔ CoordinatesAtMost k n d e p (pos 0)) where
    bounds : (m : ℤ) (z : V) (e : Pol k) (p : ℕ → Pol k) → ¬ (e ≡ 𝟘) → e • z ≡ combine M.ops p b → family N m z
        ↔ CoordinatesAtMost k n d e p m
    bounds (pos j) z e p some is =
        let u = power k field j in
        let domain = field_domain k.ring field in
        let h = degrees (divide j z) (e ⊗ u) p
        (product_not_zero (polynomials k field) e u some (power_nonzero k field j))
        (M.mul_scale e u (divide j z) ∙ ap (M.◌•◌ e) (undo j z) ∙ is) in
        let f = degree_power k field j in
        let g = degree_multiply k domain e u some (power_nonzero k field j) in
        let w : (i : ℕ) → degree k (e ⊗ u) +ℤ (pos 0 -ℤ d i)
        ≡ degree k e +ℤ (pos j -ℤ d i) = λ i. omega (arith, ints) in (
          λ z_in i l. subst (DegreeAtMost k (p i)) (w i) (h.0 z_in i l),
          λ bound. h.1 (λ i l. subst (DegreeAtMost k (p i)) (sym (w i)) (bound i l)),
        )
    bounds (negsuc j) z e p some is =
        let u = power k field (suc j) in
        let domain = field_domain k.ring field in
        let h = degrees (u • z) e (λ i. u ⊗ p i) some
        (sym (M.mul_scale e u z) ∙ ap (λ a. a • z) ((pol_ring k).mul_comm e u) ∙ M.mul_scale u e z ∙ ap (M.◌•◌ u) is
        ∙ sym (combine_scale M u p b)) in
        let f = degree_power k field (suc j) in
        let w : (i : ℕ) → degree k e +ℤ (pos 0 -ℤ d i)
        ≡ degree k u +ℤ (degree k e +ℤ (negsuc j -ℤ d i)) = λ i. omega (arith, ints) in (
          λ z_in i l. degree_cancel k domain u (p i) _ (power_nonzero k field (suc j))
              (subst (DegreeAtMost k (u ⊗ p i)) (w i) (h.0 z_in i l)),
          λ bound.
              h.1 (λ i l. subst (DegreeAtMost k (u ⊗ p i)) (sym (w i))
              (degree_product k domain u (p i) _ _ (degree_own k domain u) (bound i l))),
        )

    pub family_reduced : IsReducedAt k M.ops n (MultipliedByPower k M.ops divide N) b d
    family_reduced = record { count = count; free = free; coordinates = coordinates; degrees = bounds }
