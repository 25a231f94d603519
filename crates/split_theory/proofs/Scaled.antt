-- A reduced basis over a polynomial, and one whose degrees are written otherwise.
use Rattle.std.proofs.Common.{◌≡◌, ◌↔◌, ℕ, ◌<◌, ℤ, ◌+ℤ◌, ◌-ℤ◌, List, map, sym, ◌∙◌, ap, subst, arith}
use Rattle.std.proofs.lemmas.Int.{ints}
use Rattle.std.proofs.lemmas.List.{length-map}
use Rattle.ring_lemmas.specs.Ring.{TestedRing, IsField}
use Rattle.ring_lemmas.proofs.Ring.{field_domain, product_not_zero}
use Rattle.ring_lemmas.specs.Polynomials.{Pol}
use Rattle.ring_theory.specs.PolynomialRing.{pol_ring}
use Rattle.linear_theory.specs.Module.{Module, combine}
use Rattle.linear_theory.proofs.Combination.{combine_map}
use Rattle.linear_theory.proofs.Module.{scale_zero}
use Rattle.reduced_basis_theory.specs.Degree.{DegreeAtMost, degree}
use Rattle.reduced_basis_theory.specs.Reduced.{InLattice, IsReducedAt}
use Rattle.reduced_basis_theory.proofs.Degree.{degree_multiply}
use Rattle.reduced_basis_theory.proofs.Constants.{polynomials}
use Rattle.reduced_basis_theory.proofs.Rescale.{scaling_linear}

module _ {C V : Type 0} (k : TestedRing C) (field : IsField k.ops) (M : Module (pol_ring k).ring V) (n : ℕ)
    (N : ℤ → V → Type 0) where
  infixr 75 ◌•◌
  open M use {𝟬, ◌•◌}

  infixl 70 ◌⊗◌
  open (pol_ring k) use {𝟘, ◌⊗◌}

  -- the degrees count below n alone
  pub reduced_degrees : (b : List V) (d d' : ℕ → ℤ) → ((i : ℕ) → i < n → d i ≡ d' i) → IsReducedAt k M.ops n N b d
      → IsReducedAt k M.ops n N b d'
  reduced_degrees b d d' same reduced = record {
    count = reduced.count;
    free = reduced.free;
    coordinates = reduced.coordinates;
    degrees = λ m z e p some is.
        let a = reduced.degrees m z e p some is in (
          λ h i l. subst (λ x. DegreeAtMost k (p i) (degree k e +ℤ (m -ℤ x))) (same i l) (a.0 h i l),
          λ h. a.1 (λ i l. subst (λ x. DegreeAtMost k (p i) (degree k e +ℤ (m -ℤ x))) (sym (same i l)) (h i l)),
        );
  }

  module _ (e : Pol k) (some : ¬ (e ≡ 𝟘)) (cancel : (y z : V) → e • y ≡ e • z → y ≡ z) where
    pub combine_times : (p : ℕ → Pol k) (b : List V) → combine M.ops p (map (M.◌•◌ e) b) ≡ e • combine M.ops p b
    combine_times p b = sym (combine_map M M (M.◌•◌ e) (scaling_linear M e) p b)

    -- the multiples of a basis by a polynomial are reduced, so that the basis is, with smaller degrees
    pub reduced_over : (b : List V) (d : ℕ → ℤ) → IsReducedAt k M.ops n N (map (M.◌•◌ e) b) d
        → IsReducedAt k M.ops n N b (λ i. d i -ℤ degree k e)
    reduced_over b d reduced = record {
      count = sym (length-map b (M.◌•◌ e)) ∙ reduced.count;
      free = λ p null. reduced.free p (combine_times p b ∙ ap (M.◌•◌ e) null ∙ scale_zero M e);
      coordinates = λ z.
          let s = reduced.coordinates (e • z) in
          record {
            denominator = s.denominator;
            nonzero = s.nonzero;
            coefficient = s.coefficient;
            is = cancel (s.denominator • z) (combine M.ops s.coefficient b)
                (swap s.denominator z ∙ s.is ∙ combine_times s.coefficient b);
          };
      degrees = λ m z f p f_some is.
          let a = reduced.degrees m z (e ⊗ f) p (product_not_zero (polynomials k field) e f some f_some)
          (M.mul_scale e f z ∙ ap (M.◌•◌ e) is ∙ sym (combine_times p b)) in
          let w = λ (x : ℤ). bound f f_some m x in (
            λ h i l. subst (DegreeAtMost k (p i)) (w (d i)) (a.0 h i l),
            λ h. a.1 (λ i l. subst (DegreeAtMost k (p i)) (sym (w (d i))) (h i l)),
          );
    }
      where
        swap : (f : Pol k) (z : V) → e • (f • z) ≡ f • (e • z)
        swap f z = sym (M.mul_scale e f z) ∙ ap (λ g. g • z) ((pol_ring k).mul_comm e f) ∙ M.mul_scale f e z

        bound : (f : Pol k) → ¬ (f ≡ 𝟘) → (m x : ℤ) → degree k (e ⊗ f) +ℤ (m -ℤ x)
            ≡ degree k f +ℤ (m -ℤ (x -ℤ degree k e))
        bound f f_some m x =
            let a = degree_multiply k (field_domain k.ring field) e f some f_some in omega (arith, ints)

    -- the lattices that they span
    pub lattice_over : (b : List V) (z : V) → InLattice k M.ops (map (M.◌•◌ e) b) (e • z) ↔ InLattice k M.ops b z
    lattice_over b z = (
      λ m. record { coefficient = m.coefficient; is = cancel z _ (m.is ∙ combine_times m.coefficient b) },
      λ m. record { coefficient = m.coefficient; is = ap (M.◌•◌ e) m.is ∙ sym (combine_times m.coefficient b) },
    )
