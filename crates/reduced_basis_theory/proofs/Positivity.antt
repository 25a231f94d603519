-- Elements with inverses: pairs that hold one have no more than the sum of the degrees of the ring's pair, and where
-- that sum is large no degree of a pair is above 1.
use Rattle.std.proofs.Common.{◌≡◌, ℕ, ◌+◌, ◌<◌, ℤ, pos, negsuc, ◌+ℤ◌, ◌-ℤ◌, ◌≤ℤ◌, ◌<ℤ◌, List, length, refl, sym, ◌∙◌, ap, subst, arith}
use Rattle.std.proofs.lemmas.Int.{ints, by_lt_z}
use Rattle.ring_lemmas.specs.Ring.{TestedRing, CommRing, IsField}
use Rattle.ring_lemmas.proofs.Ring.{one_mul}
use Rattle.ring_lemmas.specs.Polynomials.{Pol}
use Rattle.ring_theory.specs.PolynomialRing.{pol_ring}
use Rattle.linear_theory.specs.Module.{Module, IsLinear}
use Rattle.linear_theory.specs.Lists.{entry}
use Rattle.reduced_basis_theory.specs.Degree.{degree_sum}
use Rattle.reduced_basis_theory.specs.Reduced.{IsReducedBasisOfPair}
use Rattle.reduced_basis_theory.specs.Dual.{AreFractions, IsSymmetricForm, DualLattice, DualFamily, IsDualBasis, negated}
use Rattle.reduced_basis_theory.specs.Canonical.{IsModulePair, IsCanonicalPair}
use Rattle.reduced_basis_theory.proofs.Degree.{size_least}
use Rattle.reduced_basis_theory.proofs.Layers.{All_of_combine}
use Rattle.reduced_basis_theory.proofs.Count.{length_one}
use Rattle.reduced_basis_theory.proofs.Compare.{monotone, same_degree_sum}
use Rattle.reduced_basis_theory.proofs.Graded.{multiple_in}
use Rattle.reduced_basis_theory.proofs.Spaces.{lattice_zero}
use Rattle.reduced_basis_theory.proofs.Dual.{dual_reduced, entry_in}
use Rattle.reduced_basis_theory.proofs.Transport.{reduced_same, reduced_shift, reduced_image, degree_sum_from_two}
use Rattle.reduced_basis_theory.proofs.RiemannRoch.{dual_is_colon, dual_is_colon_family}

module _ {C V : Type 0} (k : TestedRing C) (field : IsField k.ops) (M : Module (pol_ring k).ring V) (n : ℕ)
    (F : CommRing V) (multiples_linear : (z : V) → IsLinear M.ops M.ops (F.◌⊗◌ z)) where
  infixr 75 ◌•◌
  open M use {𝟬, ◌•◌}

  infixl 70 ◌⊗◌
  open F use {𝟙, ◌⊗◌}

  undo : (z w y : V) → z ⊗ w ≡ 𝟙 → z ⊗ (w ⊗ y) ≡ y
  undo z w y e = sym (F.mul_assoc z w y) ∙ ap (λ x. x ⊗ y) e ∙ one_mul F y

  swapped : (z w : V) → z ⊗ w ≡ 𝟙 → w ⊗ z ≡ 𝟙
  swapped z w e = F.mul_comm w z ∙ e

  module _ (O : V → Type 0) (P : ℤ → V → Type 0) (β : List V) (δ : ℕ → ℤ)
      (reduced_one : IsReducedBasisOfPair k M.ops n O P β δ)
      (I : V → Type 0) (N : ℤ → V → Type 0) (module_pair : IsModulePair F.ops O P I N)
      (b : List V) (d : ℕ → ℤ) (reduced : IsReducedBasisOfPair k M.ops n I N b d) where
    -- an element with an inverse in the intersection of I and N bounds the sum of the degrees
    pub positivity : (z w : V) → z ⊗ w ≡ 𝟙 → I z → N (pos 0) z → degree_sum n d ≤ℤ degree_sum n δ
    positivity z w e z_in z_in' =
        monotone k field M n _ I _ N _ b δ d
        (reduced_image k M n (λ y. z ⊗ y) (λ y. w ⊗ y) (multiples_linear z) (λ y. undo z w y e)
        (λ y. undo w z y (swapped z w e)) O P β δ reduced_one)
        reduced
        (λ y h. subst I (taken y) (module_pair.scale (w ⊗ y) z h z_in))
        (λ m y h.
        let a : pos 0 +ℤ m ≡ m = omega (arith, ints) in
        subst (λ m. N m y) a (subst (N (pos 0 +ℤ m)) (taken y) (module_pair.scale_family (pos 0) m (w ⊗ y) z h z_in')))
      where
        taken : (y : V) → (w ⊗ y) ⊗ z ≡ y
        taken y = F.mul_comm _ z ∙ undo z w y e

  module _ {Q : Type 0} (R : CommRing Q) (ι : Pol k → Q) (fractions : AreFractions k R.ops ι)
      (T : V → V → Q) (form : IsSymmetricForm k M.ops R.ops ι T)
      (move : (x y z : V) → T (F.◌⊗◌ x y) z ≡ T x (F.◌⊗◌ y z)) where
    module _ (O : V → Type 0) (P : ℤ → V → Type 0) (β : List V) (δ : ℕ → ℤ)
        (reduced_one : IsReducedBasisOfPair k M.ops n O P β δ)
        (I : V → Type 0) (N : ℤ → V → Type 0) (module_pair : IsModulePair F.ops O P I N)
        (b : List V) (d : ℕ → ℤ) (reduced : IsReducedBasisOfPair k M.ops n I N b d) where
      -- a degree above 1 whose dual element has an inverse makes the sum of the degrees at least 2n less that of the
      -- ring
      pub special : (γ c : List V) → IsDualBasis k M.ops ι T n β γ → IsDualBasis k M.ops ι T n b c → O 𝟙 → P (pos 0) 𝟙
          → (i : ℕ) → i < n → pos 2 ≤ℤ d i → (w : V) → entry 𝟬 c i ⊗ w ≡ 𝟙
          → degree_sum n (λ i. pos 2 -ℤ δ i) ≤ℤ degree_sum n d
      special γ c γ_dual c_dual one one' i l high w e =
          monotone k field M n _ (DualLattice k ι T O) _ (λ m. DualFamily k R.ops ι T P (m -ℤ pos 2)) _ γ d
          (λ i. pos 2 -ℤ δ i)
          (reduced_image k M n (λ y. z ⊗ y) (λ y. w ⊗ y) (multiples_linear z) (λ y. undo z w y e)
          (λ y. undo w z y (swapped z w e)) I N b d reduced)
          (reduced_same k M n (DualLattice k ι T O) (DualLattice k ι T O) _ _ γ (λ i. negated δ i +ℤ pos 2)
          (λ i. pos 2 -ℤ δ i)
          (λ z. (λ h. h, λ h. h)) (λ m z. (λ h. h, λ h. h)) (λ i. omega (arith, ints))
          (reduced_shift k M n _ _ γ (negated δ) (pos 2)
          (dual_reduced k field M R ι fractions T form n β γ γ_dual O P δ reduced_one)))
          (λ y h.
          subst (DualLattice k ι T O) (undo z w y e)
          ((dual_is_colon k field M n F R ι fractions T form move O I one module_pair.scale z).1 z_in (w ⊗ y) h))
          (λ m y h.
          let a : negsuc 1 +ℤ m ≡ m -ℤ pos 2 = omega (arith, ints) in
          subst (λ m. DualFamily k R.ops ι T P m y) a
          (subst (DualFamily k R.ops ι T P (negsuc 1 +ℤ m)) (undo z w y e)
          ((dual_is_colon_family k field M n F R ι fractions T form move P N one' module_pair.scale_family (negsuc 1)
          z).1 z_in' m (w ⊗ y) h)))
        where
          z : V
          z = entry 𝟬 c i

          dual : IsReducedBasisOfPair k M.ops n (DualLattice k ι T I) (DualFamily k R.ops ι T N) c (negated d)
          dual = dual_reduced k field M R ι fractions T form n b c c_dual I N d reduced

          z_in : DualLattice k ι T I z
          z_in =
              entry_in (DualLattice k ι T I) 𝟬 c (lattice_zero k M _ c dual.lattice)
              (All_of_combine M (DualLattice k ι T I) c
              (λ p. (dual.lattice _).1 (record { coefficient = p; is = refl }))) i

          z_in' : DualFamily k R.ops ι T N (negsuc 1) z
          z_in' =
              let one = length_one k field in
              subst (DualFamily k R.ops ι T N (negsuc 1)) (M.one_scale z)
              (multiple_in k field M n (DualFamily k R.ops ι T N) c (negated d) dual.at (negsuc 1) i (pol_ring k).𝟙 l
              (size_least (length ((pol_ring k).𝟙).0) (negsuc 1 -ℤ negated d i) (omega (arith, ints))))

      -- so where the sum is less, each degree is at most 1
      pub nonspecial : (γ c : List V) → IsDualBasis k M.ops ι T n β γ → IsDualBasis k M.ops ι T n b c → O 𝟙
          → P (pos 0) 𝟙
          → ((i : ℕ) → i < n → (w : V) × (entry 𝟬 c i ⊗ w ≡ 𝟙)) → degree_sum n d <ℤ degree_sum n (λ i. pos 2 -ℤ δ i)
          → (i : ℕ) → i < n → d i ≤ℤ pos 1
      nonspecial γ c γ_dual c_dual one one' inverses less i l =
          by_lt_z (pos 1) (d i)
          (λ h.
          let w = inverses i l in
          let a = special γ c γ_dual c_dual one one' i l (omega (arith, ints)) w.0 w.1 in
          absurd (omega (arith, ints)))
          (λ h. h)

    -- the sum of the degrees of a canonical pair is 2n less that of the ring's pair
    pub canonical_sum : (O : V → Type 0) (P : ℤ → V → Type 0) (β γ : List V) (δ : ℕ → ℤ)
        → IsReducedBasisOfPair k M.ops n O P β δ
        → IsDualBasis k M.ops ι T n β γ → (W : V → Type 0) (X : ℤ → V → Type 0) → IsCanonicalPair k R.ops ι T O P W X
        → (b : List V) (d : ℕ → ℤ) → IsReducedBasisOfPair k M.ops n W X b d → (degree_sum n d +ℤ degree_sum n δ)
        ≡ pos (n + n)
    canonical_sum O P β γ δ reduced_one γ_dual W X canonical b d reduced =
        let a = same_degree_sum k field M n W X b γ d (λ i. pos 2 -ℤ δ i) reduced
        (reduced_same k M n (DualLattice k ι T O) W _ X γ (λ i. negated δ i +ℤ pos 2) (λ i. pos 2 -ℤ δ i)
        (λ z. ((canonical.lattice z).1, (canonical.lattice z).0))
        (λ m z. ((canonical.family m z).1, (canonical.family m z).0)) (λ i. omega (arith, ints))
        (reduced_shift k M n _ _ γ (negated δ) (pos 2)
        (dual_reduced k field M R ι fractions T form n β γ γ_dual O P δ reduced_one))) in
        let e = degree_sum_from_two n δ in
        omega (arith, ints)
