-- The shape of the theorem of Riemann and Roch: pairs of lattices in a ring with a form, their duals as colons, and
-- dimensions of intersections.
use Rattle.std.proofs.Common.{◌≡◌, ℕ, zero, suc, ◌↔◌, ◌⊎◌, inl, inr, ℤ, pos, ◌+ℤ◌, ◌-ℤ◌, ◌≤ℤ◌, ◌<ℤ◌, List, length, sym, ◌∙◌, ap, subst, arith}
use Rattle.std.proofs.lemmas.Int.{ints}
use Rattle.ring_lemmas.specs.Ring.{TestedRing, CommRing, IsField}
use Rattle.ring_theory.specs.Subsets.{Colon}
use Rattle.ring_lemmas.specs.Polynomials.{Pol}
use Rattle.ring_theory.specs.PolynomialRing.{pol_ring}
use Rattle.linear_theory.specs.Fields.{domain_of}
use Rattle.linear_theory.specs.Module.{Module}
use Rattle.linear_theory.specs.Basis.{IsBasis, IsNull}
use Rattle.linear_theory.proofs.Exchange.{bases_same_length}
use Rattle.reduced_basis_theory.specs.Degree.{size, total, degree_sum}
use Rattle.reduced_basis_theory.specs.Reduced.{IsReducedBasisOfPair, Section, constants_ops}
use Rattle.reduced_basis_theory.specs.Dual.{AreFractions, FractionAtMost, IsSymmetricForm, DualLattice, DualFamily, IsDualBasis, negated}
use Rattle.reduced_basis_theory.specs.Canonical.{ColonFamily, IsModulePair, IsCanonicalPair, IsDifferencePair}
use Rattle.reduced_basis_theory.proofs.Degree.{size_cases}
use Rattle.reduced_basis_theory.proofs.Constants.{coefficients}
use Rattle.reduced_basis_theory.proofs.Layers.{over_constants}
use Rattle.reduced_basis_theory.proofs.Count.{sizes, section_basis, length_section}
use Rattle.reduced_basis_theory.proofs.Compare.{null_in}
use Rattle.reduced_basis_theory.proofs.Dual.{dual_reduced}
use Rattle.reduced_basis_theory.proofs.Transport.{reduced_same, reduced_shift}

-- the identity of numbers: max(0, 1 - d) + d = 1 + max(0, d - 1), summed
pub size_identity : (d : ℤ) → (pos (size (pos 0 -ℤ d)) +ℤ d) ≡ (pos 1 +ℤ pos (size (pos 0 -ℤ (pos 2 -ℤ d))))
size_identity d = go (size_cases (pos 0 -ℤ d)) (size_cases (pos 0 -ℤ (pos 2 -ℤ d)))
  where
    go : ((pos (size (pos 0 -ℤ d)) ≡ (pos 0 -ℤ d) +ℤ pos 1) × (pos 0 ≤ℤ (pos 0 -ℤ d)))
        ⊎ ((size (pos 0 -ℤ d) ≡ 0) × ((pos 0 -ℤ d) <ℤ pos 0))
        → ((pos (size (pos 0 -ℤ (pos 2 -ℤ d))) ≡ (pos 0 -ℤ (pos 2 -ℤ d)) +ℤ pos 1) × (pos 0 ≤ℤ (pos 0 -ℤ (pos 2 -ℤ d))))
        ⊎ ((size (pos 0 -ℤ (pos 2 -ℤ d)) ≡ 0) × ((pos 0 -ℤ (pos 2 -ℤ d)) <ℤ pos 0))
        → (pos (size (pos 0 -ℤ d)) +ℤ d) ≡ (pos 1 +ℤ pos (size (pos 0 -ℤ (pos 2 -ℤ d))))
    go (inl (a, b)) (inl (c, e)) = absurd (omega (arith, ints))
    go (inl (a, b)) (inr (c, e)) = omega (arith, ints)
    go (inr (a, b)) (inl (c, e)) = omega (arith, ints)
    go (inr (a, b)) (inr (c, e)) = omega (arith, ints)

pub total_identity : (n : ℕ) (d : ℕ → ℤ)
    → (pos (total n (sizes d (pos 0))) +ℤ degree_sum n d) ≡ (pos n +ℤ pos (total n (sizes (λ i. pos 2 -ℤ d i) (pos 0))))
total_identity zero d = omega (arith, ints)
total_identity (suc n) d =
    let a = total_identity n (λ i. d (suc i)) in
    let b = size_identity (d 0) in
    omega (arith, ints)

module _ {C V : Type 0} (k : TestedRing C) (field : IsField k.ops) (M : Module (pol_ring k).ring V) (n : ℕ) where
  -- a list that is a basis, over the constants, of the intersection of I and N
  abbrev pub IsSectionBasis : (I : V → Type 0) (N : ℤ → V → Type 0) → List V → Type 0
  IsSectionBasis I N vs =
      IsBasis k.ops (constants_ops k M.ops) (IsNull (constants_ops k M.ops)) (Section I N (pos 0)) vs

  -- the dimension of the intersection of I and N
  pub dimension : (I : V → Type 0) (N : ℤ → V → Type 0) (b : List V) (d : ℕ → ℤ)
      → IsReducedBasisOfPair k M.ops n I N b d
      → (vs : List V) → IsSectionBasis I N vs → length vs ≡ total n (sizes d (pos 0))
  dimension I N b d reduced vs basis =
      bases_same_length (domain_of (coefficients k field)) (over_constants k M) (IsNull (constants_ops k M.ops))
      (null_in k field M n)
      (Section I N (pos 0)) vs _ basis (section_basis k field M n I N b d reduced (pos 0))
      ∙ length_section k field M n I N b d reduced (pos 0)

  module _ {Q : Type 0} (F : CommRing V) (R : CommRing Q) (ι : Pol k → Q) (fractions : AreFractions k R.ops ι)
      (T : V → V → Q) (form : IsSymmetricForm k M.ops R.ops ι T)
      (move : (x y z : V) → T (F.◌⊗◌ x y) z ≡ T x (F.◌⊗◌ y z)) where
    infixl 70 ◌⊗◌
    open F use {𝟙, ◌⊗◌}

    -- the dual of an O-module is what takes it into the dual of O
    pub dual_is_colon : (O I : V → Type 0) → O 𝟙 → ((v u : V) → O v → I u → I (v ⊗ u))
        → (z : V) → Colon F.ops (DualLattice k ι T O) I z ↔ DualLattice k ι T I z
    dual_is_colon O I one scale z = (
      λ h u u_in. let a = h u u_in 𝟙 one in (a.0, ap (T z) (sym (F.mul_one u)) ∙ sym (move z u 𝟙) ∙ a.1),
      λ h y y_in v v_in. let a = h (v ⊗ y) (scale v y v_in y_in) in (a.0, move z y v ∙ ap (T z) (F.mul_comm y v) ∙ a.1),
    )

    pub dual_is_colon_family : (O N : ℤ → V → Type 0) → O (pos 0) 𝟙
        → ((l l' : ℤ) (v u : V) → O l' v → N l u → N (l +ℤ l') (v ⊗ u))
        → (m : ℤ) (z : V) → ColonFamily F.ops (DualFamily k R.ops ι T O) N m z ↔ DualFamily k R.ops ι T N m z
    dual_is_colon_family O N one scale m z = (
      λ h l u u_in.
          let w : (m +ℤ l) +ℤ pos 0 ≡ m +ℤ l = omega (arith, ints) in
          subst (FractionAtMost k R.ops ι (T z u)) w
          (subst (λ t. FractionAtMost k R.ops ι t ((m +ℤ l) +ℤ pos 0)) (move z u 𝟙 ∙ ap (T z) (F.mul_one u))
          (h l u u_in (pos 0) 𝟙 one)),
      λ h l u u_in l' v v_in.
          let w : m +ℤ (l +ℤ l') ≡ (m +ℤ l) +ℤ l' = omega (arith, ints) in
          subst (FractionAtMost k R.ops ι (T (z ⊗ u) v)) w
          (subst (λ t. FractionAtMost k R.ops ι t (m +ℤ (l +ℤ l'))) (ap (T z) (F.mul_comm v u) ∙ sym (move z u v))
          (h (l +ℤ l') (v ⊗ u) (scale l l' v u v_in u_in))),
    )

    module _ (O : V → Type 0) (P : ℤ → V → Type 0) (one : O 𝟙) (one' : P (pos 0) 𝟙)
        (W : V → Type 0) (X : ℤ → V → Type 0) (canonical : IsCanonicalPair k R.ops ι T O P W X)
        (I : V → Type 0) (N : ℤ → V → Type 0) (module_pair : IsModulePair F.ops O P I N) where
      module _ (J : V → Type 0) (L : ℤ → V → Type 0) (difference : IsDifferencePair F.ops W X I N J L)
          (b : List V) (d : ℕ → ℤ) (reduced : IsReducedBasisOfPair k M.ops n I N b d) where
        -- duality of pairs: the dual basis is reduced for the difference, with the degrees 2 - d i
        pub difference_reduced : (c : List V) → IsDualBasis k M.ops ι T n b c
            → IsReducedBasisOfPair k M.ops n J L c (λ i. pos 2 -ℤ d i)
        difference_reduced c dual =
            reduced_same k M n _ J _ L c (λ i. negated d i +ℤ pos 2) (λ i. pos 2 -ℤ d i)
            (λ z.
            let a = dual_is_colon O I one module_pair.scale z in (
              λ h. (difference.lattice z).1 (λ y y_in. (canonical.lattice _).1 (a.1 h y y_in)),
              λ h. a.0 (λ y y_in. (canonical.lattice _).0 ((difference.lattice z).0 h y y_in)),
            ))
            (λ m z.
            let a = dual_is_colon_family P N one' module_pair.scale_family (m -ℤ pos 2) z in
            let w : (l : ℤ) → (m -ℤ pos 2) +ℤ l ≡ (m +ℤ l) -ℤ pos 2 = λ l. omega (arith, ints) in (
              λ h. (difference.family m z).1
                  (λ l u u_in. (canonical.family _ _).1
                  (subst (λ r. DualFamily k R.ops ι T P r (z ⊗ u)) (w l) (a.1 h l u u_in))),
              λ h. a.0 (λ l u u_in. subst (λ r. DualFamily k R.ops ι T P r (z ⊗ u)) (sym (w l))
                  ((canonical.family _ _).0 ((difference.family m z).0 h l u u_in))),
            ))
            (λ i. omega (arith, ints))
            (reduced_shift k M n _ _ c (negated d) (pos 2)
            (dual_reduced k field M R ι fractions T form n b c dual I N d reduced))

        -- Riemann-Roch: the two dimensions differ by n less the sum of the degrees
        pub riemann_roch : (c : List V) → IsDualBasis k M.ops ι T n b c → (vs ws : List V) → IsSectionBasis I N vs
            → IsSectionBasis J L ws
            → (pos (length vs) +ℤ degree_sum n d) ≡ (pos n +ℤ pos (length ws))
        riemann_roch c dual vs ws v_basis w_basis =
            let e = dimension I N b d reduced vs v_basis in
            let f = dimension J L c (λ i. pos 2 -ℤ d i) (difference_reduced c dual) ws w_basis in
            let g = total_identity n d in
            omega (arith, ints)
