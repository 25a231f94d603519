-- A matrix with predictable degrees makes a reduced basis out of a reduced one.
use Rattle.std.proofs.Common.{◌≡◌, ℕ, zero, suc, ◌<◌, ℤ, ◌+ℤ◌, ◌-ℤ◌, List, sym, ◌∙◌, ap, subst, arith}
use Rattle.std.proofs.lemmas.Int.{ints}
use Rattle.ring_lemmas.specs.Ring.{TestedRing}
use Rattle.ring_lemmas.specs.Polynomials.{Pol}
use Rattle.ring_theory.specs.PolynomialRing.{pol_ring}
use Rattle.linear_theory.specs.Module.{Module, combine}
use Rattle.linear_theory.proofs.Combination.{combine_zero, combine_linear}
use Rattle.reduced_basis_theory.specs.Degree.{DegreeAtMost, degree}
use Rattle.reduced_basis_theory.specs.Reduced.{Coordinates, IsReducedAt}
use Rattle.reduced_basis_theory.specs.Rows.{from_rows, row_times, IsPredictable}
use Rattle.reduced_basis_theory.proofs.DualBasis.{length_tabulate}

module _ {C V : Type 0} (k : TestedRing C) (M : Module (pol_ring k).ring V) where
  infixr 75 ◌•◌
  open M use {𝟬, ◌•◌}

  pub combine_rows : (n : ℕ) (h : List V) (c : ℕ → Pol k) (P : ℕ → ℕ → Pol k)
      → combine M.ops c (from_rows k M.ops n h P) ≡ combine M.ops (row_times k n c P) h
  combine_rows zero h c P = sym (combine_zero M h)
  combine_rows (suc n) h c P =
      ap (λ x. M.◌⊞◌ (c 0 • combine M.ops (P 0) h) x) (combine_rows n h (λ i. c (suc i)) (λ i. P (suc i)))
      ∙ sym (combine_linear M (c 0) (P 0) (row_times k n (λ i. c (suc i)) (λ i. P (suc i))) h)

  pub predictable_reduced : (n : ℕ) (N : ℤ → V → Type 0) (h : List V) (t : ℕ → ℤ) → IsReducedAt k M.ops n N h t
      → (P : ℕ → ℕ → Pol k) (d : ℕ → ℤ) → IsPredictable k n P t d
      → ((c : ℕ → Pol k) → ((j : ℕ) → j < n → row_times k n c P j ≡ (pol_ring k).𝟘) → (i : ℕ) → i < n → c i
      ≡ (pol_ring k).𝟘)
      → ((z : V) → Coordinates k M.ops (from_rows k M.ops n h P) z)
      → IsReducedAt k M.ops n N (from_rows k M.ops n h P) d
  predictable_reduced n N h t reduced P d predictable regular coordinates = record {
    count = length_tabulate n (λ i. combine M.ops (P i) h);
    free = λ c null. regular c (reduced.free (row_times k n c P) (sym (combine_rows n h c P) ∙ null));
    coordinates = coordinates;
    degrees = λ m z e c some is.
        let a = reduced.degrees m z e (row_times k n c P) some (is ∙ combine_rows n h c P) in
        let f = predictable c (degree k e +ℤ m) in
        let w : (x : ℤ) → degree k e +ℤ (m -ℤ x) ≡ (degree k e +ℤ m) -ℤ x = λ x. omega (arith, ints) in (
          λ z_in i l. subst (DegreeAtMost k (c i)) (sym (w (d i)))
              (f.0 (λ j l. subst (DegreeAtMost k (row_times k n c P j)) (w (t j)) (a.0 z_in j l)) i l),
          λ bound.
              a.1 (λ j l.
              subst (DegreeAtMost k (row_times k n c P j)) (sym (w (t j)))
              (f.1 (λ i l. subst (DegreeAtMost k (c i)) (w (d i)) (bound i l)) j l)),
        );
  }
