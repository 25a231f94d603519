-- n elements that span I, with b_i in x^(d_i)·N, are a reduced basis as soon as their degrees have the right sum.
use Rattle.std.proofs.Common.{◌≡◌, ℕ, ◌+◌, ◌<◌, ◌↔◌, ℤ, pos, ◌+ℤ◌, ◌-ℤ◌, ◌≤ℤ◌, List, length, All, refl, sym, ◌∙◌, ap, ap₂, subst, arith}
use Rattle.std.proofs.lemmas.List.Elements.{All-weaker}
use Rattle.std.proofs.lemmas.Int.{ints}
use Rattle.ring_lemmas.specs.Ring.{TestedRing, CommRing, IsField}
use Rattle.ring_lemmas.proofs.Ring.{field_domain, eq_of_sub, neg_mul, one_mul}
use Rattle.ring_lemmas.specs.Polynomials.{Pol}
use Rattle.ring_theory.specs.PolynomialRing.{pol_ring}
use Rattle.linear_theory.specs.Fields.{domain_of}
use Rattle.linear_theory.specs.Module.{Module, combine}
use Rattle.linear_theory.specs.Basis.{IsCombination, IsNull, IsBasis}
use Rattle.linear_theory.specs.Lists.{entry}
use Rattle.linear_theory.proofs.Module.{plus_negative}
use Rattle.linear_theory.proofs.Combination.{combine_linear, combine_scale}
use Rattle.linear_theory.proofs.Exchange.{exchange}
use Rattle.linear_theory.proofs.Bases.{null_subspace}
use Rattle.linear_theory.proofs.Dimension.{basis_of_full_length}
use Rattle.reduced_basis_theory.specs.Degree.{DegreeAtMost, degree, total, degree_sum}
use Rattle.reduced_basis_theory.specs.Reduced.{InLattice, Coordinates, CoordinatesAtMost, IsReducedBasisOfPair, Section, constants_ops, layers}
use Rattle.reduced_basis_theory.proofs.Degree.{degree_own, degree_cancel}
use Rattle.reduced_basis_theory.proofs.Constants.{coefficients, polynomial, length_polynomial, polynomial_zero}
use Rattle.reduced_basis_theory.proofs.Layers.{over_constants, All_of_combine, combine_layers, blocks_zero, block, length_layers}
use Rattle.reduced_basis_theory.proofs.Count.{sizes, section_basis, length_section}
use Rattle.reduced_basis_theory.proofs.Totals.{IsLarge, large, large_weaker, large_for_two, own, degree_sum_le, degree_sum_eq}
use Rattle.reduced_basis_theory.proofs.Graded.{scale_in, divide_in, combine_members}
use Rattle.reduced_basis_theory.proofs.Spaces.{lattice_space, family_space, intersection_space}
use Rattle.reduced_basis_theory.proofs.Powers.{power, degree_power, power_nonzero}
use Rattle.reduced_basis_theory.proofs.Free.{free_of_spanning}

-- the coefficients of a combination of free elements are determined
pub same_coefficients : {A V : Type 0} {R : CommRing A} (M : Module R V) (b : List V) (n : ℕ)
    → ((c : ℕ → A) → combine M.ops c b ≡ M.𝟬 → (i : ℕ) → i < n → c i ≡ R.𝟘)
    → (r q : ℕ → A) → combine M.ops r b ≡ combine M.ops q b → (i : ℕ) → i < n → r i ≡ q i
same_coefficients {R = R} M b n free r q same i l =
    eq_of_sub R (r i) (q i)
    (R.add_comm _ _ ∙ ap (λ w. R.◌⊕◌ w (r i)) (sym (neg_mul R R.𝟙 (q i) ∙ ap R.⊖◌ (one_mul R (q i))))
    ∙ free (λ i. R.◌⊕◌ (R.◌⊗◌ (R.⊖◌ R.𝟙) (q i)) (r i))
    (combine_linear M (R.⊖◌ R.𝟙) q r b ∙ ap (M.◌⊞◌ (M.◌•◌ (R.⊖◌ R.𝟙) (combine M.ops q b))) same ∙ M.add_comm _ _
    ∙ plus_negative M _) i l)

module _ {C V : Type 0} (k : TestedRing C) (field : IsField k.ops) (M : Module (pol_ring k).ring V) (n : ℕ)
    (I : V → Type 0) (N : ℤ → V → Type 0) (p : List V) (e : ℕ → ℤ) (reduced : IsReducedBasisOfPair k M.ops n I N p e)
    (b : List V) (count : length b ≡ n) (lattice : (z : V) → I z ↔ InLattice k M.ops b z) where
  infixl 65 ◌⊞◌
  infixr 75 ◌•◌
  open M use {𝟬, ◌⊞◌, ◌•◌}

  infixl 65 ◌⊕◌
  infixl 70 ◌⊗◌
  infixr 80 ⊖◌
  open (pol_ring k) use {𝟘, 𝟙, ◌⊕◌, ◌⊗◌, ⊖◌}

  -- n elements that span the lattice are free
  pub spanning_free : (r : ℕ → Pol k) → combine M.ops r b ≡ 𝟬 → (i : ℕ) → i < n → r i ≡ 𝟘
  spanning_free =
      let members : All I p = All_of_combine M I p
      (λ c. (reduced.lattice _).1 (record { coefficient = c; is = refl })) in
      free_of_spanning k field M n p reduced.at.count reduced.at.free b count
      (All-weaker I (InLattice k M.ops b) (λ v. (lattice v).0) p members)

  pub spanning_coordinates : (z : V) → Coordinates k M.ops b z
  spanning_coordinates z =
      let c = reduced.at.coordinates z in
      let a = (lattice _).0 ((reduced.lattice (c.denominator • z)).1
      (record { coefficient = c.coefficient; is = c.is })) in
      record { denominator = c.denominator; nonzero = c.nonzero; coefficient = a.coefficient; is = a.is }

  module _ (d : ℕ → ℤ) (inside : (i : ℕ) → i < n → N (d i) (entry 𝟬 b i)) where
    -- combinations of b with coordinates of bounded degree are in the family
    pub bounded_in : (m : ℤ) (r : ℕ → Pol k) → ((i : ℕ) → i < n → DegreeAtMost k (r i) (m -ℤ d i))
        → N m (combine M.ops r b)
    bounded_in m r h =
        combine_members k field M n N p e reduced.at m r b (λ i l.
        let l' : i < n = subst (λ n. i < n) count l in
        let w : d i +ℤ (m -ℤ d i) ≡ m = omega (arith, ints) in
        subst (λ m. N m (r i • entry 𝟬 b i)) w
        (scale_in k field M n N p e reduced.at (d i) (m -ℤ d i) (r i) (entry 𝟬 b i) (h i l') (inside i l')))

    members : (m : ℤ) → All (Section I N m) (layers k M.ops b (sizes d m))
    members m =
        All_of_combine (over_constants k M) (Section I N m) _ (λ c.
        subst (Section I N m) (sym (combine_layers k M b (sizes d m) c)) (
          (lattice _).1 (record { coefficient = λ i. polynomial k (sizes d m i) (block (sizes d m) c i); is = refl }),
          bounded_in m _ (λ i l. length_polynomial k (sizes d m i) (block (sizes d m) c i)),
        ))

    independent : (m : ℤ) (c : ℕ → C) → combine (constants_ops k M.ops) c (layers k M.ops b (sizes d m)) ≡ 𝟬
        → (i : ℕ) → i < length (layers k M.ops b (sizes d m)) → c i ≡ k.𝟘
    independent m c z i l =
        blocks_zero (λ a. a ≡ k.𝟘) (length b) (sizes d m) c
        (λ i l j h. polynomial_zero k (sizes d m i) _
        (spanning_free _ (sym (combine_layers k M b (sizes d m) c) ∙ z) i (subst (λ n. i < n) count l)) j h)
        i (subst (λ n. i < n) (length_layers k M b (sizes d m)) l)

    length_b : (m : ℤ) → length (layers k M.ops b (sizes d m)) ≡ total n (sizes d m)
    length_b m = length_layers k M b (sizes d m) ∙ ap (λ n. total n (sizes d m)) count

    -- such degrees have at least the sum of the reduced ones
    pub sum_bound : degree_sum n e ≤ℤ degree_sum n d
    sum_bound = go (large_for_two n d e)
      where
        go : ((m : ℤ) × IsLarge n d m × IsLarge n e m) → degree_sum n e ≤ℤ degree_sum n d
        go (m, l, l') =
            let c = section_basis k field M n I N p e reduced m in
            let h = exchange (domain_of (coefficients k field)) (over_constants k M) (IsNull (constants_ops k M.ops))
            (null_subspace (coefficients k field) (over_constants k M)) _ _ (independent m)
            (All-weaker (Section I N m)
            (IsCombination (constants_ops k M.ops) (IsNull (constants_ops k M.ops)) (layers k M.ops p (sizes e m)))
            c.spanning _ (members m)) in
            let f = length_b m in
            let f' = length_section k field M n I N p e reduced m in
            degree_sum_le n d e m l l' (omega arith)

    module _ (sum : degree_sum n d ≡ degree_sum n e) where
      layers_basis : (m : ℤ) → IsLarge n d m → IsLarge n e m
          → IsBasis k.ops (constants_ops k M.ops) (IsNull (constants_ops k M.ops)) (Section I N m)
          (layers k M.ops b (sizes d m))
      layers_basis m l l' =
          basis_of_full_length (coefficients k field) (over_constants k M) (IsNull (constants_ops k M.ops))
          (Section I N m)
          (null_subspace (coefficients k field) (over_constants k M))
          (intersection_space k M I (N m) (lattice_space k M I b lattice) (family_space k M field n N p e reduced.at m))
          _ _ (section_basis k field M n I N p e reduced m) (members m) (independent m)
          (length_b m ∙ degree_sum_eq n d e m l l' sum ∙ sym (length_section k field M n I N p e reduced m))

      -- at a large m, the coordinates of a member of I in x^m·N are bounded
      bounded_at : (m : ℤ) → IsLarge n d m → IsLarge n e m → (r : ℕ → Pol k) → N m (combine M.ops r b)
          → (i : ℕ) → i < n → DegreeAtMost k (r i) (m -ℤ d i)
      bounded_at m l l' r h i i_below =
          let c = (layers_basis m l l').spanning (combine M.ops r b)
          ((lattice _).1 (record { coefficient = r; is = refl }), h) in
          let q : ℕ → Pol k = λ i. polynomial k (sizes d m i) (block (sizes d m) c.coefficient i) in
          let same : combine M.ops r b ≡ combine M.ops q b
          = c.is ∙ ap₂ ◌⊞◌ (combine_layers k M b (sizes d m) c.coefficient) c.rest_in ∙ M.add_zero _ in
          let gap : r i ≡ q i = same_coefficients M b n spanning_free r q same i i_below in
          subst (λ w. DegreeAtMost k w (m -ℤ d i)) (sym gap)
          (length_polynomial k (sizes d m i) (block (sizes d m) c.coefficient i))

      converse_degrees : (m : ℤ) (z : V) (f : Pol k) (r : ℕ → Pol k) → ¬ (f ≡ 𝟘) → f • z ≡ combine M.ops r b
          → N m z → CoordinatesAtMost k n d f r m
      converse_degrees m z f r some is z_in i i_below = go (large n d) (large n e) (own (pos 0 -ℤ (m +ℤ degree k f)))
        where
          go : ((a : ℕ) × IsLarge n d (pos a)) → ((a : ℕ) × IsLarge n e (pos a))
              → ((y : ℕ) × ((pos 0 -ℤ (m +ℤ degree k f)) ≤ℤ pos y))
              → DegreeAtMost k (r i) (degree k f +ℤ (m -ℤ d i))
          go (a, l) (a', l') (y, h) =
              let u = power k field (a + a' + y) in
              let u_degree = degree_power k field (a + a' + y) in
              let m' : ℤ = (m +ℤ degree k f) +ℤ degree k u in
              let domain = field_domain k.ring field in
              let scaled : N (m +ℤ degree k f) (f • z) = scale_in k field M n N p e reduced.at m (degree k f) f z
              (degree_own k domain f) z_in in
              let again : N m' (u • (f • z)) = scale_in k field M n N p e reduced.at (m +ℤ degree k f) (degree k u) u
              (f • z) (degree_own k domain u) scaled in
              let is' : u • (f • z) ≡ combine M.ops (λ i. u ⊗ r i) b = ap (λ v. u • v) is
              ∙ sym (combine_scale M u r b) in
              let large_d : IsLarge n d m' = large_weaker n d (pos a) m' (omega (arith, ints)) l in
              let large_e : IsLarge n e m' = large_weaker n e (pos a') m' (omega (arith, ints)) l' in
              let bound = bounded_at m' large_d large_e (λ i. u ⊗ r i) (subst (N m') is' again) i i_below in
              let w : m' -ℤ d i ≡ degree k u +ℤ (degree k f +ℤ (m -ℤ d i)) = omega (arith, ints) in
              degree_cancel k domain u (r i) (degree k f +ℤ (m -ℤ d i)) (power_nonzero k field (a + a' + y))
              (subst (DegreeAtMost k (u ⊗ r i)) w bound)

      converse_members : (m : ℤ) (z : V) (f : Pol k) (r : ℕ → Pol k) → ¬ (f ≡ 𝟘) → f • z ≡ combine M.ops r b
          → CoordinatesAtMost k n d f r m → N m z
      converse_members m z f r some is h =
          divide_in k field M n N p e reduced.at m f z some
          (subst (N (m +ℤ degree k f)) (sym is)
          (bounded_in (m +ℤ degree k f) r (λ i l.
          let w : degree k f +ℤ (m -ℤ d i) ≡ (m +ℤ degree k f) -ℤ d i = omega (arith, ints) in
          subst (DegreeAtMost k (r i)) w (h i l))))

      -- the converse
      pub converse : IsReducedBasisOfPair k M.ops n I N b d
      converse = record {
        at = record {
          count = count;
          free = spanning_free;
          coordinates = spanning_coordinates;
          degrees = λ m z f r some is. (converse_degrees m z f r some is, converse_members m z f r some is);
        };
        lattice = lattice;
      }
