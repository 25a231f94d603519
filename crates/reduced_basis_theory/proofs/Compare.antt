-- Pairs of lattices compared by their reduced bases: monotone sums of degrees, and degrees that the pair determines.
use Rattle.std.proofs.Common.{◌≡◌, ℕ, ◌<◌, ◌≤◌, ℤ, pos, ◌-ℤ◌, ◌≤ℤ◌, List, arith}
use Rattle.std.proofs.lemmas.List.Elements.{All-weaker}
use Rattle.std.proofs.lemmas.Int.{ints}
use Rattle.ring_lemmas.specs.Ring.{TestedRing, IsField}
use Rattle.ring_theory.specs.PolynomialRing.{pol_ring}
use Rattle.linear_theory.specs.Fields.{domain_of}
use Rattle.linear_theory.specs.Module.{Module}
use Rattle.linear_theory.specs.Basis.{IsSubspace, IsCombination, IsNull}
use Rattle.linear_theory.proofs.Exchange.{exchange}
use Rattle.linear_theory.proofs.Bases.{null_subspace}
use Rattle.reduced_basis_theory.specs.Degree.{total, degree_sum, count_up_to, HasAscendingDegrees}
use Rattle.reduced_basis_theory.specs.Reduced.{IsReducedBasisOfPair, constants_ops, layers, Section}
use Rattle.reduced_basis_theory.proofs.Constants.{coefficients}
use Rattle.reduced_basis_theory.proofs.Layers.{over_constants}
use Rattle.reduced_basis_theory.proofs.Count.{sizes, section_basis, length_section}
use Rattle.reduced_basis_theory.proofs.Totals.{IsLarge, large_for_two, degree_sum_le, ascending_same, same_count}

module _ {C V : Type 0} (k : TestedRing C) (field : IsField k.ops) (M : Module (pol_ring k).ring V) (n : ℕ) where
  -- the subspace {0}
  abbrev pub Null : V → Type 0
  Null = IsNull (constants_ops k M.ops)

  pub null_in : IsSubspace (constants_ops k M.ops) Null
  null_in = null_subspace (coefficients k field) (over_constants k M)

  module _ (I I' : V → Type 0) (N N' : ℤ → V → Type 0) (b b' : List V) (d d' : ℕ → ℤ)
      (reduced : IsReducedBasisOfPair k M.ops n I N b d) (reduced' : IsReducedBasisOfPair k M.ops n I' N' b' d') where
    -- a smaller intersection has the smaller dimension
    pub section_le : (m m' : ℤ) → ((z : V) → Section I N m z → Section I' N' m' z)
        → total n (sizes d m) ≤ total n (sizes d' m')
    section_le m m' inner =
        let c = section_basis k field M n I N b d reduced m in
        let c' = section_basis k field M n I' N' b' d' reduced' m' in
        let h = exchange (domain_of (coefficients k field)) (over_constants k M) Null null_in _ _ c.independent
        (All-weaker (Section I N m) (IsCombination (constants_ops k M.ops) Null (layers k M.ops b' (sizes d' m')))
        (λ z z_in. c'.spanning z (inner z z_in)) _ c.members_in) in
        let e = length_section k field M n I N b d reduced m in
        let e' = length_section k field M n I' N' b' d' reduced' m' in
        omega arith

    -- a smaller pair has the greater sum of degrees
    pub monotone : ((z : V) → I z → I' z) → ((m : ℤ) (z : V) → N m z → N' m z) → degree_sum n d' ≤ℤ degree_sum n d
    monotone f g = go (large_for_two n d d')
      where
        go : ((m : ℤ) × IsLarge n d m × IsLarge n d' m) → degree_sum n d' ≤ℤ degree_sum n d
        go (m, l, l') = degree_sum_le n d d' m l l' (section_le m m (λ z h. (f z h.0, g m z h.1)))

  module _ (I : V → Type 0) (N : ℤ → V → Type 0) (b b' : List V) (d d' : ℕ → ℤ)
      (reduced : IsReducedBasisOfPair k M.ops n I N b d) (reduced' : IsReducedBasisOfPair k M.ops n I N b' d') where
    pub same_sizes : (m : ℤ) → total n (sizes d m) ≡ total n (sizes d' m)
    same_sizes m =
        let a = section_le I I N N b b' d d' reduced reduced' m m (λ z h. h) in
        let c = section_le I I N N b' b d' d reduced' reduced m m (λ z h. h) in
        omega arith

    -- two reduced bases of a pair have the same degrees, up to their order
    pub degrees_determined : (m : ℤ) → count_up_to n d m ≡ count_up_to n d' m
    degrees_determined m = same_count n d d' m (same_sizes m) (same_sizes (m -ℤ pos 1))

    pub ascending_degrees : HasAscendingDegrees n d → HasAscendingDegrees n d' → (i : ℕ) → i < n → d i ≡ d' i
    ascending_degrees up up' = ascending_same n d d' up up' degrees_determined

    pub same_degree_sum : degree_sum n d ≡ degree_sum n d'
    same_degree_sum =
        let a = monotone I I N N b b' d d' reduced reduced' (λ z h. h) (λ m z h. h) in
        let c = monotone I I N N b' b d' d reduced' reduced (λ z h. h) (λ m z h. h) in
        omega (arith, ints)
