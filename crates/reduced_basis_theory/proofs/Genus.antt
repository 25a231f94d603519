-- The dimension of V over I + N: the sum of the numbers max(0, d_i - 1).
use Rattle.std.proofs.Common.{◌≡◌, ℕ, zero, suc, ℤ, pos, ◌+ℤ◌, ◌-ℤ◌, List, [], ◌∷◌, length, refl, sym, ◌∙◌, ap, ap₂, subst, arith}
use Rattle.std.proofs.lemmas.Int.{ints}
use Rattle.ring_lemmas.specs.Ring.{TestedRing, CommRing, IsField}
use Rattle.ring_lemmas.proofs.Solver.{reads}
use Rattle.ring_theory.specs.PolynomialRing.{pol_ring}
use Rattle.linear_theory.specs.Module.{Module, combine}
use Rattle.linear_theory.specs.Basis.{IsBasis, IsNull, IsSubspace, IsSum}
use Rattle.linear_theory.proofs.Module.{linear, parts, vector, zero_plus}
use Rattle.linear_theory.proofs.Dimension.{Relative, relative_basis, basis_transport}
use Rattle.reduced_basis_theory.specs.Degree.{total, degree_sum}
use Rattle.reduced_basis_theory.specs.Reduced.{IsReducedBasisOfPair, Section, constants_ops, layers}
use Rattle.reduced_basis_theory.proofs.Constants.{coefficients}
use Rattle.reduced_basis_theory.proofs.Layers.{over_constants}
use Rattle.reduced_basis_theory.proofs.Count.{sizes, section_basis, length_section}
use Rattle.reduced_basis_theory.proofs.Totals.{IsLarge, large, large_weaker, total_sizes}
use Rattle.reduced_basis_theory.proofs.Graded.{rising}
use Rattle.reduced_basis_theory.proofs.Spaces.{lattice_space, family_space, intersection_space}
use Rattle.reduced_basis_theory.proofs.Powers.{power}
use Rattle.reduced_basis_theory.proofs.Compare.{null_in}
use Rattle.reduced_basis_theory.proofs.Index.{HasIndex, split}
use Rattle.reduced_basis_theory.proofs.Rescale.{degree_sum_plus}
use Rattle.reduced_basis_theory.proofs.Transport.{reduced_shift}
use Rattle.reduced_basis_theory.proofs.SumOfDegrees.{family_index_zero}
use Rattle.reduced_basis_theory.proofs.RiemannRoch.{total_identity}

module _ {A V : Type 0} {R : CommRing A} (M : Module R V) where
  regroup : (a b c e : V) → M.◌⊞◌ (M.◌⊞◌ a b) (M.◌⊞◌ c e) ≡ M.◌⊞◌ (M.◌⊞◌ a c) (M.◌⊞◌ b e)
  regroup a b c e =
      linear M (vector M a ∷ vector M b ∷ vector M c ∷ vector M e ∷ []) λ q h.
      simp (parts, reads, q, h 0, h 1, h 2, h 3) (q.equal _ _ refl)

  take_away : (x y : V) → M.◌⊞◌ (M.◌•◌ (R.⊖◌ R.𝟙) y) (M.◌⊞◌ x y) ≡ x
  take_away x y =
      linear M (vector M x ∷ vector M y ∷ []) λ q h.
      simp (parts, reads, q, h 0, h 1) (q.equal _ _ refl)

  -- the sum of two subspaces is one
  pub sum_space : (X Y : V → Type 0) → IsSubspace M.ops X → IsSubspace M.ops Y → IsSubspace M.ops (IsSum M.ops X Y)
  sum_space X Y 𝓧 𝓨 = record {
    zero_in = record { left = M.𝟬; left_in = 𝓧.zero_in; right = M.𝟬; right_in = 𝓨.zero_in; is = sym (M.add_zero M.𝟬) };
    sum_in = λ u v h l.
        record {
          left = M.◌⊞◌ h.left l.left;
          left_in = 𝓧.sum_in _ _ h.left_in l.left_in;
          right = M.◌⊞◌ h.right l.right;
          right_in = 𝓨.sum_in _ _ h.right_in l.right_in;
          is = ap₂ M.◌⊞◌ h.is l.is ∙ regroup h.left h.right l.left l.right;
        };
    scale_in = λ a v h.
        record {
          left = M.◌•◌ a h.left;
          left_in = 𝓧.scale_in a _ h.left_in;
          right = M.◌•◌ a h.right;
          right_in = 𝓨.scale_in a _ h.right_in;
          is = ap (M.◌•◌ a) h.is ∙ M.scale_add a h.left h.right;
        };
  }

constant_sum_plus : (n : ℕ) (j : ℤ) → (degree_sum n (λ i. (pos 0 -ℤ j) +ℤ pos 1) +ℤ degree_sum n (λ i. j)) ≡ pos n
constant_sum_plus zero j = omega (arith, ints)
constant_sum_plus (suc n) j = let e = constant_sum_plus n j in omega (arith, ints)

module _ {C V : Type 0} (k : TestedRing C) (field : IsField k.ops) (M : Module (pol_ring k).ring V) (n : ℕ)
    (divide : ℕ → V → V) (undo : (j : ℕ) (z : V) → M.◌•◌ (power k field j) (divide j z) ≡ z)
    (redo : (j : ℕ) (z : V) → divide j (M.◌•◌ (power k field j) z) ≡ z)
    (I : V → Type 0) (N : ℤ → V → Type 0) (b : List V) (d : ℕ → ℤ)
    (reduced : IsReducedBasisOfPair k M.ops n I N b d) where
  open M use {𝟬, ◌⊞◌, ◌•◌}

  infixl 65 ◌⊞◌
  infixr 75 ◌•◌
  -- all of V
  abbrev pub Whole : V → Type 0
  Whole z = Unit {0}

  -- I + N
  abbrev pub Both : V → Type 0
  Both = IsSum (constants_ops k M.ops) I (N (pos 0))

  -- a basis of V over I + N, and its length
  pub record HasGenus : Type 0 where
    pub members : List V
    pub basis : IsBasis k.ops (constants_ops k M.ops) Both Whole members
    pub count : length members ≡ total n (sizes (λ i. pos 2 -ℤ d i) (pos 0))

  pub genus : HasGenus
  genus = go (large n d)
    where
      go : ((j : ℕ) × IsLarge n d (pos j)) → HasGenus
      go (j, l) = record { members = last.members; basis = whole; count = size }
        where
          back : ℤ
          back = pos 0 -ℤ pos j

          m : ℤ
          m = pos 0 -ℤ back

          large_m : IsLarge n d m
          large_m = large_weaker n d (pos j) m (omega (arith, ints)) l

          𝓘 : IsSubspace (constants_ops k M.ops) I
          𝓘 = lattice_space k M I b reduced.lattice

          𝓝 : (m : ℤ) → IsSubspace (constants_ops k M.ops) (N m)
          𝓝 = family_space k M field n N b d reduced.at

          up : (z : V) → N (pos 0) z → N m z
          up z = rising k field M n N b d reduced.at (pos 0) m z (omega (arith, ints))

          steps : HasIndex k field M n (N (pos 0)) (N m) (degree_sum n (λ i. d i +ℤ back)) (degree_sum n d)
          steps =
              family_index_zero k field M n divide undo redo I (λ l. N (l -ℤ back)) N b b (λ i. d i +ℤ back) d
              (reduced_shift k M n I N b d back reduced) reduced
              (λ l z. rising k field M n N b d reduced.at l (l -ℤ back) z (omega (arith, ints)))

          sections : Relative (coefficients k field) (over_constants k M) (Section I N (pos 0)) (Section I N m)
              (layers k M.ops b (sizes d (pos 0))) (layers k M.ops b (sizes d m))
          sections =
              relative_basis (coefficients k field) (over_constants k M) (IsNull (constants_ops k M.ops))
              (Section I N (pos 0)) (Section I N m)
              (null_in k field M n) (intersection_space k M I (N (pos 0)) 𝓘 (𝓝 (pos 0)))
              (intersection_space k M I (N m) 𝓘 (𝓝 m))
              (λ v e. (subst I (sym e) 𝓘.zero_in, subst (N (pos 0)) (sym e) (𝓝 (pos 0)).zero_in))
              (λ v h. (h.0, up v h.1)) _ _
              (section_basis k field M n I N b d reduced (pos 0)) (section_basis k field M n I N b d reduced m)

          Middle : V → Type 0
          Middle z = Both z × N m z

          middle : IsBasis k.ops (constants_ops k M.ops) (N (pos 0)) Middle sections.members
          middle =
              basis_transport (coefficients k field) (over_constants k M) (Section I N (pos 0)) (Section I N m)
              (N (pos 0)) Middle
              (intersection_space k M I (N m) 𝓘 (𝓝 m)) (𝓝 (pos 0)) (λ v h. h.1)
              (λ v h. (
                record {
                  left = v;
                  left_in = h.0;
                  right = 𝟬;
                  right_in = (𝓝 (pos 0)).zero_in;
                  is = sym (M.add_zero v);
                },
                h.1,
              ))
              (λ v h h'. (h.0, h'))
              (λ v h.
              let s = h.0 in
              record {
                left = s.left;
                left_in = (
                  s.left_in,
                  subst (N m) (ap (λ x. (over_constants k M).◌⊞◌ ((over_constants k M).◌•◌ (k.⊖◌ k.𝟙) s.right) x)
                      s.is ∙ take_away (over_constants k M) s.left s.right)
                      ((𝓝 m).sum_in _ _ ((𝓝 m).scale_in (k.⊖◌ k.𝟙) _ (up _ s.right_in)) h.1),
                );
                right = s.right;
                right_in = s.right_in;
                is = s.is;
              })
              _ sections.basis

          last : Relative (coefficients k field) (over_constants k M) Middle (N m) sections.members steps.members
          last =
              relative_basis (coefficients k field) (over_constants k M) (N (pos 0)) Middle (N m) (𝓝 (pos 0))
              (intersection_space k M Both (N m) (sum_space (over_constants k M) I (N (pos 0)) 𝓘 (𝓝 (pos 0))) (𝓝 m))
              (𝓝 m)
              (λ v h. (
                record { left = 𝟬; left_in = 𝓘.zero_in; right = v; right_in = h; is = sym (zero_plus M v) },
                up v h,
              ))
              (λ v h. h.1) _ _ middle steps.basis

          whole : IsBasis k.ops (constants_ops k M.ops) Both Whole last.members
          whole =
              basis_transport (coefficients k field) (over_constants k M) Middle (N m) Both Whole (𝓝 m)
              (sum_space (over_constants k M) I (N (pos 0)) 𝓘 (𝓝 (pos 0))) (λ v h. h.0) (λ v h. tt) (λ v h h'. (h', h))
              (λ v h.
              let s = split k field M n N b d reduced.at m large_m v in
              let y = combine M.ops s.coefficient b in
              record {
                left = s.rest;
                left_in = s.rest_in;
                right = y;
                right_in =
                    record {
                      left = y;
                      left_in = (reduced.lattice y).1 (record { coefficient = s.coefficient; is = refl });
                      right = 𝟬;
                      right_in = (𝓝 (pos 0)).zero_in;
                      is = sym (M.add_zero y);
                    };
                is = s.is ∙ M.add_comm _ _;
              })
              _ last.basis

          size : length last.members ≡ total n (sizes (λ i. pos 2 -ℤ d i) (pos 0))
          size =
              let a = last.size in
              let c = sections.size in
              let e = steps.index in
              let f = degree_sum_plus n d back in
              let g = length_section k field M n I N b d reduced (pos 0) in
              let h = length_section k field M n I N b d reduced m in
              let u = total_sizes n d m large_m in
              let v = constant_sum_plus n back in
              let w = total_identity n d in
              omega (arith, ints)
