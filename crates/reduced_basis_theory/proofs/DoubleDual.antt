-- The dual of the dual is the pair itself, and the sum of the degrees of a dual lattice in a fixed family.
use Rattle.std.proofs.Common.{◌≡◌, ℕ, ◌↔◌, ℤ, ◌+ℤ◌, ◌-ℤ◌, List, sym, subst, arith}
use Rattle.std.proofs.lemmas.Int.{ints}
use Rattle.ring_lemmas.specs.Ring.{TestedRing, CommRing, IsField}
use Rattle.ring_lemmas.specs.Polynomials.{Pol}
use Rattle.ring_theory.specs.PolynomialRing.{pol_ring}
use Rattle.linear_theory.specs.Module.{Module}
use Rattle.reduced_basis_theory.specs.Degree.{DegreeAtMost, degree}
use Rattle.reduced_basis_theory.specs.Reduced.{IsReducedBasisOfPair}
use Rattle.reduced_basis_theory.specs.Dual.{AreFractions, IsSymmetricForm, DualLattice, DualFamily, IsDualBasis, negated}
use Rattle.reduced_basis_theory.proofs.Dual.{dual_symmetric, dual_reduced}

module _ {C V Q : Type 0} (k : TestedRing C) (field : IsField k.ops) (M : Module (pol_ring k).ring V) (R : CommRing Q)
    (ι : Pol k → Q) (fractions : AreFractions k R.ops ι) (T : V → V → Q) (form : IsSymmetricForm k M.ops R.ops ι T)
    (n : ℕ) (I : V → Type 0) (N : ℤ → V → Type 0) (b c : List V) (d : ℕ → ℤ)
    (reduced : IsReducedBasisOfPair k M.ops n I N b d) (dual : IsDualBasis k M.ops ι T n b c) where
  infixr 75 ◌•◌
  open M use {◌•◌}

  -- b is reduced for the dual of the dual pair
  double_dual : IsReducedBasisOfPair k M.ops n (DualLattice k ι T (DualLattice k ι T I))
      (DualFamily k R.ops ι T (DualFamily k R.ops ι T N)) b (negated (negated d))
  double_dual =
      dual_reduced k field M R ι fractions T form n c b
      (dual_symmetric k field M R ι fractions T form n b c reduced.at.count dual)
      (DualLattice k ι T I) (DualFamily k R.ops ι T N) (negated d)
      (dual_reduced k field M R ι fractions T form n b c dual I N d reduced)

  pub double_dual_lattice : (z : V) → DualLattice k ι T (DualLattice k ι T I) z ↔ I z
  double_dual_lattice z = (
    λ h. (reduced.lattice z).1 ((double_dual.lattice z).0 h),
    λ h. (double_dual.lattice z).1 ((reduced.lattice z).0 h),
  )

  pub double_dual_family : (m : ℤ) (z : V) → DualFamily k R.ops ι T (DualFamily k R.ops ι T N) m z ↔ N m z
  double_dual_family m z =
      let a = reduced.at.coordinates z in
      let e = degree k a.denominator in
      let w : (i : ℕ) → e +ℤ (m -ℤ negated (negated d) i) ≡ e +ℤ (m -ℤ d i) = λ i. omega (arith, ints) in
      let f = double_dual.at.degrees m z a.denominator a.coefficient a.nonzero a.is in
      let g = reduced.at.degrees m z a.denominator a.coefficient a.nonzero a.is in (
        λ h. g.1 (λ i l. subst (DegreeAtMost k (a.coefficient i)) (w i) (f.0 h i l)),
        λ h. f.1 (λ i l. subst (DegreeAtMost k (a.coefficient i)) (sym (w i)) (g.0 h i l)),
      )
