-- The index of a family at the level 0, and the sum of the degrees of a pair by the index of a local lattice.
use Rattle.std.proofs.Common.{◌≡◌, ℕ, ◌+◌, ◌↔◌, ℤ, pos, ◌+ℤ◌, ◌-ℤ◌, List, length, map, sym, ◌∙◌, ap, ap₂, subst, arith}
use Rattle.std.proofs.lemmas.List.{length-map}
use Rattle.std.proofs.lemmas.Int.{ints}
use Rattle.ring_lemmas.specs.Ring.{TestedRing, IsField}
use Rattle.ring_lemmas.proofs.Ring.{field_domain}
use Rattle.ring_lemmas.specs.Polynomials.{Pol}
use Rattle.ring_theory.specs.PolynomialRing.{pol_ring}
use Rattle.linear_theory.specs.Fields.{domain_of}
use Rattle.linear_theory.specs.Module.{Module, IsLinear}
use Rattle.linear_theory.specs.Basis.{IsBasis, IsSubspace}
use Rattle.linear_theory.proofs.Dimension.{basis_image, basis_transport}
use Rattle.linear_theory.proofs.Exchange.{bases_same_length}
use Rattle.reduced_basis_theory.specs.Degree.{degree, degree_sum}
use Rattle.reduced_basis_theory.specs.Reduced.{IsReducedBasisOfPair, IsReducedAt, IsLocalPair, constant, constants_ops}
use Rattle.reduced_basis_theory.proofs.Degree.{degree_own}
use Rattle.reduced_basis_theory.proofs.Constants.{coefficients}
use Rattle.reduced_basis_theory.proofs.Layers.{over_constants}
use Rattle.reduced_basis_theory.proofs.Totals.{IsLarge, large, large_weaker}
use Rattle.reduced_basis_theory.proofs.Graded.{scale_in, divide_in}
use Rattle.reduced_basis_theory.proofs.Spaces.{family_space}
use Rattle.reduced_basis_theory.proofs.Powers.{power, degree_power, power_nonzero}
use Rattle.reduced_basis_theory.proofs.Index.{HasIndex, family_index}
use Rattle.reduced_basis_theory.proofs.Rescale.{scaling_linear, shift_law}

module _ {C V : Type 0} (k : TestedRing C) (field : IsField k.ops) (M : Module (pol_ring k).ring V) (n : ℕ)
    (divide : ℕ → V → V) (undo : (j : ℕ) (z : V) → M.◌•◌ (power k field j) (divide j z) ≡ z)
    (redo : (j : ℕ) (z : V) → divide j (M.◌•◌ (power k field j) z) ≡ z) where
  infixl 65 ◌⊞◌
  infixr 75 ◌•◌
  open M use {𝟬, ◌⊞◌, ◌•◌}
  open (pol_ring k) use {𝟘}

  divide_linear : (j : ℕ) → IsLinear (constants_ops k M.ops) (constants_ops k M.ops) (divide j)
  divide_linear j a u v =
      ap (divide j)
      (ap₂ (λ x y. constant k a • x ⊞ y) (sym (undo j u)) (sym (undo j v))
      ∙ sym (scaling_linear M (power k field j) (constant k a) (divide j u) (divide j v)))
      ∙ redo j _

  -- multiplication by x^j takes N 0 onto N j
  pub level : (N : ℤ → V → Type 0) (b : List V) (d : ℕ → ℤ) → IsReducedAt k M.ops n N b d → (j : ℕ) (v : V)
      → N (pos j) v ↔ N (pos 0) (divide j v)
  level N b d reduced j v =
      let u = power k field j in
      let e = degree_power k field j in
      let w : pos 0 +ℤ degree k u ≡ pos j = omega (arith, ints) in (
        λ h.
            divide_in k field M n N b d reduced (pos 0) u (divide j v) (power_nonzero k field j)
            (subst (λ m. N m (u • divide j v)) (sym w) (subst (N (pos j)) (sym (undo j v)) h)),
        λ h.
            subst (N (pos j)) (undo j v)
            (subst (λ m. N m (u • divide j v)) w
            (scale_in k field M n N b d reduced (pos 0) (degree k u) u (divide j v)
            (degree_own k (field_domain k.ring field) u) h)),
      )

  -- the index of a smaller family in a family, at the level 0
  pub family_index_zero : (I : V → Type 0) (N N' : ℤ → V → Type 0) (b b' : List V) (d d' : ℕ → ℤ)
      → IsReducedBasisOfPair k M.ops n I N b d → IsReducedBasisOfPair k M.ops n I N' b' d'
      → ((m : ℤ) (z : V) → N' m z → N m z)
      → HasIndex k field M n (N' (pos 0)) (N (pos 0)) (degree_sum n d) (degree_sum n d')
  family_index_zero I N N' b b' d d' reduced reduced' inner = go (large n d) (large n d')
    where
      go : ((m : ℕ) × IsLarge n d (pos m)) → ((m : ℕ) × IsLarge n d' (pos m))
          → HasIndex k field M n (N' (pos 0)) (N (pos 0)) (degree_sum n d) (degree_sum n d')
      go (x, l) (y, l') =
          let j = x + y in
          let r = family_index k field M n I N N' b b' d d' reduced reduced' inner (pos j)
          (large_weaker n d (pos x) (pos j) (omega (arith, ints)) l)
          (large_weaker n d' (pos y) (pos j) (omega (arith, ints)) l') in
          let e = r.index in
          let f = length-map r.members (divide j) in
          record {
            members = map (divide j) r.members;
            basis =
                basis_image (coefficients k field) (over_constants k M) (over_constants k M) (divide j)
                (divide_linear j)
                (N' (pos j)) (N (pos j)) (N' (pos 0)) (N (pos 0)) (family_space k M field n N b d reduced.at (pos j))
                (λ v h. (level N b d reduced.at j v).0 h)
                (λ w h. (
                  power k field j • w,
                  (level N b d reduced.at j _).1 (subst (N (pos 0)) (sym (redo j w)) h),
                  sym (redo j w),
                ))
                (λ v h. level N' b' d' reduced'.at j v)
                (λ v h. inner (pos j) v h)
                r.members r.basis;
            index = omega (arith, ints);
          }

  module _ (J J₀ : V → Type 0) (N N₀ : ℤ → V → Type 0) (local : IsLocalPair k M.ops J J₀ N N₀)
      (space : IsSubspace (constants_ops k M.ops) J₀)
      (us : List V) (us_basis : IsBasis k.ops (constants_ops k M.ops) J J₀ us)
      (I : V → Type 0) (b c : List V) (d f : ℕ → ℤ)
      (reduced : IsReducedBasisOfPair k M.ops n I N b d) (reduced₀ : IsReducedBasisOfPair k M.ops n I N₀ c f) where
    -- the index of a local lattice in the standard one is the difference of the sums of the degrees
    pub local_index : (pos (length us) +ℤ degree_sum n f) ≡ degree_sum n d
    local_index =
        let moved = basis_transport (coefficients k field) (over_constants k M) J J₀ (N (pos 0)) (N₀ (pos 0)) space
        (family_space k M field n N b d reduced.at (pos 0)) local.spans local.spans₀ local.common local.sums us
        us_basis in
        let r = family_index_zero I N₀ N c b f d reduced₀ reduced local.family_smaller in
        let e = bases_same_length (domain_of (coefficients k field)) (over_constants k M) (N (pos 0))
        (family_space k M field n N b d reduced.at (pos 0))
        (N₀ (pos 0)) us r.members moved r.basis in
        let g = r.index in
        omega (arith, ints)

    -- the sum of the degrees: the index of J, the sum of I in a further family Y, and the two sums of a standard
    -- lattice I₀
    pub sum_of_degrees : (I₀ : V → Type 0) (Y : ℤ → V → Type 0) (y b₀ y₀ : List V) (g d₀ g₀ : ℕ → ℤ)
        → IsReducedBasisOfPair k M.ops n I Y y g → IsReducedBasisOfPair k M.ops n I₀ N₀ b₀ d₀
        → IsReducedBasisOfPair k M.ops n I₀ Y y₀ g₀
        → (e : Pol k) → ¬ (e ≡ 𝟘) → ((z : V) → I₀ z → I (e • z))
        → degree_sum n d ≡ ((pos (length us) +ℤ degree_sum n g) +ℤ (degree_sum n d₀ -ℤ degree_sum n g₀))
    sum_of_degrees I₀ Y y b₀ y₀ g d₀ g₀ reduced_y standard standard_y e some inner =
        let a = local_index in
        let h = shift_law k field M n I I₀ N₀ Y c y b₀ y₀ f g d₀ g₀ reduced₀ reduced_y standard standard_y e some
        inner in
        omega (arith, ints)
