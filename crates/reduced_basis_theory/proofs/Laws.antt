-- The theorems in the words of the contracts: dimensions over the constants.
use Rattle.std.proofs.Common.{◌≡◌, ℕ, zero, suc, ◌+◌, ◌*◌, ◌<◌, ◌↔◌, ℤ, pos, ◌+ℤ◌, ◌-ℤ◌, List, length, refl, sym, ◌∙◌, ap, ap₂, subst, arith}
use Rattle.std.proofs.lemmas.Int.{ints}
use Rattle.ring_lemmas.specs.Ring.{TestedRing, CommRing, IsField}
use Rattle.ring_lemmas.specs.Polynomials.{Pol}
use Rattle.ring_theory.specs.PolynomialRing.{pol_ring}
use Rattle.linear_theory.specs.Fields.{Field, domain_of}
use Rattle.linear_theory.specs.Module.{Module, combine}
use Rattle.linear_theory.specs.Basis.{IsBasis, IsNull, IsSubspace, IsSum}
use Rattle.linear_theory.proofs.Exchange.{bases_same_length}
use Rattle.reduced_basis_theory.specs.Degree.{DegreeAtMost, size, total, degree_sum, dimension_sum, genus_sum}
use Rattle.reduced_basis_theory.specs.Reduced.{IsReducedBasisOfPair, IsReducedAt, IsLocalPair, IsExtension, Section, HasDimension, HasDivision, constants_ops, layers}
use Rattle.reduced_basis_theory.specs.Dual.{IsDualBasis}
use Rattle.reduced_basis_theory.specs.Canonical.{IsTraceForm, IsModulePair, IsCanonicalPair, IsDifferencePair}
use Rattle.reduced_basis_theory.proofs.Constants.{coefficients, polynomials}
use Rattle.reduced_basis_theory.proofs.Layers.{over_constants}
use Rattle.reduced_basis_theory.proofs.Count.{sizes, section_basis, length_section, over_one}
use Rattle.reduced_basis_theory.proofs.Compare.{null_in}
use Rattle.reduced_basis_theory.proofs.Spaces.{lattice_space, family_space}
use Rattle.reduced_basis_theory.proofs.Index.{HasIndex, lattice_index}
use Rattle.reduced_basis_theory.proofs.SumOfDegrees.{family_index_zero, local_index, sum_of_degrees}
use Rattle.reduced_basis_theory.proofs.Genus.{genus, sum_space}
use Rattle.reduced_basis_theory.proofs.RiemannRoch.{total_identity, riemann_roch}
use Rattle.reduced_basis_theory.proofs.ScalarTower.{tower_dimension}
use Rattle.reduced_basis_theory.proofs.ScalarBasis.{scalar_basis}
use Rattle.reduced_basis_theory.proofs.Division.{quotient, undo_power, redo_power}

-- the sum of the max(0, d i - 1) is that of the dual degrees
pub genus_total : (n : ℕ) (d : ℕ → ℤ) → total n (sizes (λ i. pos 2 -ℤ d i) (pos 0)) ≡ genus_sum n d
genus_total zero d = refl
genus_total (suc n) d =
    ap₂ ◌+◌ (ap size (let w : pos 0 -ℤ (pos 2 -ℤ d 0) ≡ d 0 -ℤ pos 2 = omega (arith, ints) in w))
    (genus_total n (λ i. d (suc i)))

-- the two dimensions that a pair has differ by n less the sum of its degrees
pub euler : (n : ℕ) (d : ℕ → ℤ) → (pos (dimension_sum n d (pos 0)) -ℤ pos (genus_sum n d)) ≡ (pos n -ℤ degree_sum n d)
euler n d =
    let a = total_identity n d in
    let b = genus_total n d in
    omega (arith, ints)

module _ {C V : Type 0} (k : TestedRing C) (field : IsField k.ops) (M : Module (pol_ring k).ring V) where
  -- a basis over a subspace tells the dimension
  pub dimension_by : (U W : V → Type 0) → IsSubspace (constants_ops k M.ops) U → (b : List V) (d : ℤ)
      → IsBasis k.ops (constants_ops k M.ops) U W b → pos (length b) ≡ d → HasDimension k M.ops U W d
  dimension_by U W 𝓤 b d is size = record {
    basis = b;
    is = is;
    size = size;
    only_size =
        λ ws ws_is. ap pos (bases_same_length (domain_of (coefficients k field)) (over_constants k M) U 𝓤 W ws b
        ws_is is) ∙ size;
  }

  -- two dimensions of one space are the same
  pub same_dimension : (U W : V → Type 0) (d d' : ℤ) → HasDimension k M.ops U W d → HasDimension k M.ops U W d' → d ≡ d'
  same_dimension U W d d' h h' = sym (h.only_size h'.basis h'.is) ∙ h'.size

  module _ (n : ℕ) (I : V → Type 0) (N : ℤ → V → Type 0) (b : List V) (d : ℕ → ℤ)
      (reduced : IsReducedBasisOfPair k M.ops n I N b d) where
    pub section_dimension : (m : ℤ) → HasDimension k M.ops (IsNull M.ops) (Section I N m) (pos (dimension_sum n d m))
    section_dimension m =
        dimension_by (IsNull M.ops) (Section I N m) (null_in k field M n) (layers k M.ops b (sizes d m)) _
        (section_basis k field M n I N b d reduced m) (ap pos (length_section k field M n I N b d reduced m))

    pub genus_dimension : HasDivision k M.ops
        → HasDimension k M.ops (IsSum (constants_ops k M.ops) I (N (pos 0))) (λ z. Unit {0}) (pos (genus_sum n d))
    genus_dimension x =
        let g = genus k field M n (quotient k field M x) (undo_power k field M x) (redo_power k field M x) I N b d
        reduced in
        dimension_by _ (λ z. Unit {0})
        (sum_space (over_constants k M) I (N (pos 0)) (lattice_space k M I b reduced.lattice)
        (family_space k M field n N b d reduced.at (pos 0)))
        g.members _ g.basis (ap pos (g.count ∙ genus_total n d))

  -- predictable degree
  pub predicted : (n : ℕ) (N : ℤ → V → Type 0) (b : List V) (d : ℕ → ℤ) → IsReducedAt k M.ops n N b d
      → (p : ℕ → Pol k) (m : ℤ)
      → N m (combine M.ops p b) ↔ ((i : ℕ) → i < n → DegreeAtMost k (p i) (m -ℤ d i))
  predicted n N b d reduced p m =
      let h = reduced.degrees m (combine M.ops p b) (pol_ring k).𝟙 p (polynomials k field).one_not_zero
      (M.one_scale _) in (
        λ z_in i l. subst (DegreeAtMost k (p i)) (over_one k field (m -ℤ d i)) (h.0 z_in i l),
        λ bound. h.1 (λ i l. subst (DegreeAtMost k (p i)) (sym (over_one k field (m -ℤ d i))) (bound i l)),
      )

  module _ (n : ℕ) where
    by_index : (U W : V → Type 0) → IsSubspace (constants_ops k M.ops) U → (s s' : ℤ) → HasIndex k field M n U W s s'
        → HasDimension k M.ops U W (s' -ℤ s)
    by_index U W 𝓤 s s' r = dimension_by U W 𝓤 r.members _ r.basis (let e = r.index in omega (arith, ints))

    pub lattice_dimension : (I I' : V → Type 0) (N : ℤ → V → Type 0) (b b' : List V) (d d' : ℕ → ℤ)
        → IsReducedBasisOfPair k M.ops n I N b d → IsReducedBasisOfPair k M.ops n I' N b' d' → ((z : V) → I' z → I z)
        → HasDimension k M.ops I' I (degree_sum n d' -ℤ degree_sum n d)
    lattice_dimension I I' N b b' d d' reduced reduced' inner =
        by_index I' I (lattice_space k M I' b' reduced'.lattice) _ _
        (lattice_index k field M n I I' N b b' d d' reduced reduced' inner)

    pub family_dimension : HasDivision k M.ops → (I : V → Type 0) (N N' : ℤ → V → Type 0) (b b' : List V) (d d' : ℕ → ℤ)
        → IsReducedBasisOfPair k M.ops n I N b d → IsReducedBasisOfPair k M.ops n I N' b' d'
        → ((m : ℤ) (z : V) → N' m z → N m z)
        → HasDimension k M.ops (N' (pos 0)) (N (pos 0)) (degree_sum n d' -ℤ degree_sum n d)
    family_dimension x I N N' b b' d d' reduced reduced' inner =
        by_index (N' (pos 0)) (N (pos 0)) (family_space k M field n N' b' d' reduced'.at (pos 0)) _ _
        (family_index_zero k field M n (quotient k field M x) (undo_power k field M x) (redo_power k field M x)
        I N N' b b' d d' reduced reduced' inner)

    -- the index of a local lattice in the standard one, and the sum of the degrees by it
    module _ (x : HasDivision k M.ops) (J J₀ : V → Type 0) (N N₀ : ℤ → V → Type 0)
        (local : IsLocalPair k M.ops J J₀ N N₀)
        (space : IsSubspace (constants_ops k M.ops) J₀) (l : ℤ) (index : HasDimension k M.ops J J₀ l)
        (I : V → Type 0) (b c : List V) (d f : ℕ → ℤ) (reduced : IsReducedBasisOfPair k M.ops n I N b d)
        (reduced₀ : IsReducedBasisOfPair k M.ops n I N₀ c f) where
      pub local_dimension : l ≡ degree_sum n d -ℤ degree_sum n f
      local_dimension =
          let e = local_index k field M n (quotient k field M x) (undo_power k field M x) (redo_power k field M x)
          J J₀ N N₀ local space index.basis index.is I b c d f reduced reduced₀ in
          let h = index.size in
          omega (arith, ints)

      pub degrees_by_index : (I₀ : V → Type 0) (Y : ℤ → V → Type 0) (y b₀ y₀ : List V) (g d₀ g₀ : ℕ → ℤ)
          → IsReducedBasisOfPair k M.ops n I Y y g → IsReducedBasisOfPair k M.ops n I₀ N₀ b₀ d₀
          → IsReducedBasisOfPair k M.ops n I₀ Y y₀ g₀
          → (e : Pol k) → ¬ (e ≡ (pol_ring k).𝟘) → ((z : V) → I₀ z → I (M.◌•◌ e z))
          → degree_sum n d ≡ ((l +ℤ degree_sum n g) +ℤ (degree_sum n d₀ -ℤ degree_sum n g₀))
      degrees_by_index I₀ Y y b₀ y₀ g d₀ g₀ reduced_y standard standard_y e some inner =
          let a = sum_of_degrees k field M n (quotient k field M x) (undo_power k field M x) (redo_power k field M x)
          J J₀ N N₀ local space index.basis index.is I b c d f reduced reduced₀ I₀ Y y b₀ y₀ g d₀ g₀ reduced_y
          standard standard_y e some inner in
          let h = index.size in
          omega (arith, ints)

    -- the genus over a larger field of constants
    pub constants_genus : {B : Type 0} (L : Field B) (S : Module k.ring B) (X : Module L.ring V)
        → IsExtension k M.ops L.ring.ops S.ops X.ops
        → (θ : List B) → IsBasis k.ops S.ops (IsNull S.ops) (λ t. Unit {0}) θ
        → (I : V → Type 0) (N : ℤ → V → Type 0) (b : List V) (d : ℕ → ℤ) → IsReducedBasisOfPair k M.ops n I N b d
        → HasDivision k M.ops
        → (ws : List V) → IsBasis L.ring.ops X.ops (IsSum (constants_ops k M.ops) I (N (pos 0))) (λ z. Unit {0}) ws
        → length ws * length θ ≡ genus_sum n d
    constants_genus L S X extension θ θ_basis I N b d reduced x ws basis =
        let h = genus_dimension n I N b d reduced x in
        let e = tower_dimension (coefficients k field) L S (over_constants k M) X extension.sum extension.zero
        extension.scale θ θ_basis extension.null
        (IsSum (constants_ops k M.ops) I (N (pos 0))) (λ z. Unit {0})
        (record { zero_in = tt; sum_in = λ u v a c. tt; scale_in = λ a v c. tt }) ws basis
        (sum_space (over_constants k M) I (N (pos 0)) (lattice_space k M I b reduced.lattice)
        (family_space k M field n N b d reduced.at (pos 0)))
        h.basis h.is in
        let f = h.size in
        omega (arith, ints)

    -- a basis of V over I + N over a larger field of constants
    pub constants_basis : {B : Type 0} (L : Field B) (S : Module k.ring B) (X : Module L.ring V)
        → IsExtension k M.ops L.ring.ops S.ops X.ops
        → (θ : List B) → IsBasis k.ops S.ops (IsNull S.ops) (λ t. Unit {0}) θ
        → (I : V → Type 0) (N : ℤ → V → Type 0) (b : List V) (d : ℕ → ℤ) → IsReducedBasisOfPair k M.ops n I N b d
        → HasDivision k M.ops
        → IsSubspace X.ops (IsSum (constants_ops k M.ops) I (N (pos 0)))
        → (ws : List V) × IsBasis L.ring.ops X.ops (IsSum (constants_ops k M.ops) I (N (pos 0))) (λ z. Unit {0}) ws
    constants_basis L S X extension θ θ_basis I N b d reduced x closed =
        let h = genus_dimension n I N b d reduced x in
        scalar_basis (coefficients k field) L S (over_constants k M) X extension.sum extension.zero extension.scale θ
        θ_basis extension.null
        (IsSum (constants_ops k M.ops) I (N (pos 0)))
        (sum_space (over_constants k M) I (N (pos 0)) (lattice_space k M I b reduced.lattice)
        (family_space k M field n N b d reduced.at (pos 0)))
        closed h.basis h.is

    -- Riemann and Roch
    module _ {Q : Type 0} (F : CommRing V) (R : CommRing Q) (ι : Pol k → Q) (T : V → V → Q)
        (trace : IsTraceForm k M.ops F.ops R.ops ι T)
        (O : V → Type 0) (P : ℤ → V → Type 0) (one : O F.𝟙) (one' : P (pos 0) F.𝟙)
        (W : V → Type 0) (X : ℤ → V → Type 0) (canonical : IsCanonicalPair k R.ops ι T O P W X)
        (I : V → Type 0) (N : ℤ → V → Type 0) (module_pair : IsModulePair F.ops O P I N)
        (J : V → Type 0) (L : ℤ → V → Type 0) (difference : IsDifferencePair F.ops W X I N J L)
        (b : List V) (d : ℕ → ℤ) (reduced : IsReducedBasisOfPair k M.ops n I N b d) (c : List V)
        (dual : IsDualBasis k M.ops ι T n b c)
        (l l' : ℤ) (first : HasDimension k M.ops (IsNull M.ops) (Section I N (pos 0)) l)
        (second : HasDimension k M.ops (IsNull M.ops) (Section J L (pos 0)) l') where
      pub riemann_roch_dimension : l -ℤ l' ≡ pos n -ℤ degree_sum n d
      riemann_roch_dimension =
          let e = riemann_roch k field M n F R ι trace.fractions T trace.form trace.move O P one one' W X canonical I
          N module_pair J L difference
          b d reduced c dual first.basis second.basis first.is second.is in
          let f = first.size in
          let g = second.size in
          omega (arith, ints)

      -- with the genus
      pub riemann_roch_genus : HasDivision k M.ops → (β : List V) (δ : ℕ → ℤ) → IsReducedBasisOfPair k M.ops n O P β δ
          → (l₀ h : ℤ) → HasDimension k M.ops (IsNull M.ops) (Section O P (pos 0)) l₀
          → HasDimension k M.ops (IsSum (constants_ops k M.ops) O (P (pos 0))) (λ z. Unit {0}) h
          → l -ℤ l' ≡ (degree_sum n δ -ℤ degree_sum n d) +ℤ (l₀ -ℤ h)
      riemann_roch_genus x β δ reduced_one l₀ h constants genus_is =
          let a = riemann_roch_dimension in
          let e = same_dimension (IsNull M.ops) (Section O P (pos 0)) l₀ _ constants
          (section_dimension n O P β δ reduced_one (pos 0)) in
          let f = same_dimension _ (λ z. Unit {0}) h _ genus_is (genus_dimension n O P β δ reduced_one x) in
          let g = euler n δ in
          omega (arith, ints)
