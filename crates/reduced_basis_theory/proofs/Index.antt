-- The index of one lattice in another, and of one family in another, is the difference of the sums of the degrees.
use Rattle.std.proofs.Common.{◌≡◌, ℕ, ◌-◌, ◌<◌, ◌≤◌, ℤ, pos, ◌+ℤ◌, ◌-ℤ◌, List, [], ◌∷◌, length, refl, sym, ◌∙◌, ap, ap₂, subst, arith}
use Rattle.std.proofs.lemmas.Int.{ints}
use Rattle.ring_lemmas.specs.Ring.{TestedRing, CommRing, IsField}
use Rattle.ring_lemmas.specs.Lists.{coeff_of, rest_from, quotient_from}
use Rattle.ring_lemmas.proofs.Ring.{field_domain}
use Rattle.ring_lemmas.proofs.Sequences.{convolution_comm}
use Rattle.ring_lemmas.proofs.Solver.{reads}
use Rattle.ring_lemmas.proofs.Lists.{coeff_trim}
use Rattle.ring_lemmas.specs.Polynomials.{Pol, pol_of}
use Rattle.ring_theory.specs.PolynomialRing.{pol_ring}
use Rattle.ring_lemmas.proofs.Polynomials.{same_pol, series_add, series_mul, coeff_top}
use Rattle.ring_lemmas.proofs.Division.{divided, rest_ends, length_bound}
use Rattle.ring_theory.proofs.Division.{length_neg}
use Rattle.linear_theory.specs.Module.{Module, combine}
use Rattle.linear_theory.specs.Basis.{IsBasis, IsNull}
use Rattle.linear_theory.proofs.Module.{linear, parts, vector, scalar}
use Rattle.linear_theory.proofs.Combination.{combine_linear}
use Rattle.linear_theory.proofs.Dimension.{relative_basis, basis_transport}
use Rattle.reduced_basis_theory.specs.Degree.{DegreeAtMost, degree, degree_sum}
use Rattle.reduced_basis_theory.specs.Reduced.{IsReducedBasisOfPair, IsReducedAt, Section, constants_ops}
use Rattle.reduced_basis_theory.proofs.Degree.{length_of_nonzero, size_least}
use Rattle.reduced_basis_theory.proofs.Constants.{coefficients, series}
use Rattle.reduced_basis_theory.proofs.Layers.{over_constants}
use Rattle.reduced_basis_theory.proofs.Count.{section_basis, length_section, length_one}
use Rattle.reduced_basis_theory.proofs.Totals.{IsLarge, large_for_two, total_sizes}
use Rattle.reduced_basis_theory.proofs.Graded.{scale_in}
use Rattle.reduced_basis_theory.proofs.Spaces.{lattice_sum, lattice_scale, lattice_space, family_space, intersection_space}
use Rattle.reduced_basis_theory.proofs.Compare.{null_in}

-- division with a rest over a field
pub record Divided {C : Type 0} (k : TestedRing C) (a e : Pol k) : Type 0 where
  pub quotient : Pol k
  pub rest : Pol k
  pub is : a ≡ (pol_ring k).◌⊕◌ ((pol_ring k).◌⊗◌ e quotient) rest
  pub shorter : length rest.0 ≤ length e.0 - 1

module _ {C : Type 0} (k : TestedRing C) (field : IsField k.ops) where
  pub divide : (a e : Pol k) → ¬ (e ≡ (pol_ring k).𝟘) → Divided k a e
  divide a e some = go e.0 refl (length_of_nonzero k (field_domain k.ring field) e some)
    where
      go : (xs : List C) → e.0 ≡ xs → 0 < length e.0 → Divided k a e
      go [] is l = let f : length e.0 ≡ 0 = ap length is in absurd (omega arith)
      go (x ∷ xs) is l =
          let top_nonzero : ¬ (coeff_of k.ops e.0 (length e.0 - 1) ≡ k.𝟘)
          = subst (λ ys. ¬ (coeff_of k.ops ys (length ys - 1) ≡ k.𝟘)) (sym is)
          (subst (λ j. ¬ (coeff_of k.ops (x ∷ xs) j ≡ k.𝟘)) (let w : length xs ≡ length (x ∷ xs) - 1 = omega arith in w)
          (coeff_top k x xs (subst (λ ys. Rattle.ring_lemmas.specs.Lists.IsTrimmed k.is_zero ys) is e.1))) in
          let i = field.inverse (coeff_of k.ops e.0 (length e.0 - 1)) top_nonzero in
          let q = pol_of k (quotient_from k.ops e.0 i.0 a.0) in
          let r = pol_of k (rest_from k.ops e.0 i.0 a.0) in
          record {
            quotient = q;
            rest = r;
            is = same_pol k _ _ (λ n. whole i.0 n);
            shorter =
                length_bound k r.0 (length e.0 - 1) r.1
                (λ n h. coeff_trim k (rest_from k.ops e.0 i.0 a.0) n
                ∙ rest_ends k e.0 i.0 (k.mul_comm _ _ ∙ i.1) a.0 n h);
          }
        where
          whole : (v : C) (n : ℕ) → series k a n
              ≡ series k ((pol_ring k).◌⊕◌ ((pol_ring k).◌⊗◌ e (pol_of k (quotient_from k.ops e.0 v a.0)))
              (pol_of k (rest_from k.ops e.0 v a.0))) n
          whole v n =
              divided k e.0 v a.0 n
              ∙ sym (series_add k _ _ n
              ∙ ap₂ k.◌⊕◌
              (series_mul k e _ n ∙ convolution_comm k.ring _ _ n
              ∙ ap (λ f. Rattle.ring_lemmas.specs.Lists.convolution k.ops f (series k e) n)
              (mathlib.Core.Path.fun_ext (coeff_trim k (quotient_from k.ops e.0 v a.0))))
              (coeff_trim k (rest_from k.ops e.0 v a.0) n))

-- a member less a combination, times the denominator
pub less : {A V : Type 0} {R : CommRing A} (M : Module R V) (e : A) (z y : V)
    → M.◌•◌ e (M.◌⊞◌ (M.◌•◌ (R.⊖◌ R.𝟙) y) z) ≡ M.◌⊞◌ (M.◌•◌ (R.⊖◌ R.𝟙) (M.◌•◌ e y)) (M.◌•◌ e z)
less M e z y =
    linear M (vector M z ∷ vector M y ∷ scalar M e ∷ []) λ q h.
    simp (parts, reads, q, h 0, h 1, h 2) (q.equal _ _ refl)

pub put_back : {A V : Type 0} {R : CommRing A} (M : Module R V) (z y : V) → z ≡ M.◌⊞◌ y (M.◌⊞◌ (M.◌•◌ (R.⊖◌ R.𝟙) y) z)
put_back M z y =
    linear M (vector M z ∷ vector M y ∷ []) λ q h.
    simp (parts, reads, q, h 0, h 1) (q.equal _ _ refl)

pub twice : {A V : Type 0} {R : CommRing A} (M : Module R V) (z y : V)
    → y ≡ M.◌⊞◌ (M.◌•◌ (R.⊖◌ R.𝟙) (M.◌⊞◌ (M.◌•◌ (R.⊖◌ R.𝟙) y) z)) z
twice M z y =
    linear M (vector M z ∷ vector M y ∷ []) λ q h.
    simp (parts, reads, q, h 0, h 1) (q.equal _ _ refl)

pub only_rest : {A V : Type 0} {R : CommRing A} (M : Module R V) (x y : V) → M.◌⊞◌ (M.◌•◌ (R.⊖◌ R.𝟙) x) (M.◌⊞◌ x y) ≡ y
only_rest M x y =
    linear M (vector M x ∷ vector M y ∷ []) λ q h.
    simp (parts, reads, q, h 0, h 1) (q.equal _ _ refl)

module _ {C V : Type 0} (k : TestedRing C) (field : IsField k.ops) (M : Module (pol_ring k).ring V) (n : ℕ) where
  infixl 65 ◌⊞◌
  infixr 75 ◌•◌
  open M use {𝟬, ◌⊞◌, ◌•◌}

  infixl 65 ◌⊕◌
  infixl 70 ◌⊗◌
  infixr 80 ⊖◌
  open (pol_ring k) use {𝟘, 𝟙, ◌⊕◌, ◌⊗◌, ⊖◌}

  -- at a large m each element is a combination of b and a member of x^m·N
  pub record Split (N : ℤ → V → Type 0) (b : List V) (m : ℤ) (z : V) : Type 0 where
    pub coefficient : ℕ → Pol k
    pub rest : V
    pub rest_in : N m rest
    pub rest_is : rest ≡ ⊖ 𝟙 • combine M.ops coefficient b ⊞ z
    pub is : z ≡ combine M.ops coefficient b ⊞ rest

  pub split : (N : ℤ → V → Type 0) (b : List V) (d : ℕ → ℤ) → IsReducedAt k M.ops n N b d
      → (m : ℤ) → IsLarge n d m → (z : V) → Split N b m z
  split N b d reduced m large z =
      let c = reduced.coordinates z in
      let quotients : ℕ → Pol k = λ i. (divide k field (c.coefficient i) c.denominator c.nonzero).quotient in
      let rests : ℕ → Pol k = λ i. (divide k field (c.coefficient i) c.denominator c.nonzero).rest in
      let y = combine M.ops quotients b in
      let parts_of : combine M.ops c.coefficient b ≡ c.denominator • y ⊞ combine M.ops rests b
      = ap (λ p. combine M.ops p b)
      (mathlib.Core.Path.fun_ext (λ i. (divide k field (c.coefficient i) c.denominator c.nonzero).is))
      ∙ combine_linear M c.denominator quotients rests b in
      let is : c.denominator • (⊖ 𝟙 • y ⊞ z) ≡ combine M.ops rests b
      = less M c.denominator z y ∙ ap (λ w. ⊖ 𝟙 • (c.denominator • y) ⊞ w) (c.is ∙ parts_of) ∙ only_rest M _ _ in
      record {
        coefficient = quotients;
        rest = ⊖ 𝟙 • y ⊞ z;
        rest_in =
            (reduced.degrees m (⊖ 𝟙 • y ⊞ z) c.denominator rests c.nonzero is).1
            (λ i l.
            let short = (divide k field (c.coefficient i) c.denominator c.nonzero).shorter in
            let big = large i l in
            let some = length_of_nonzero k (field_domain k.ring field) c.denominator c.nonzero in
            size_least (length (rests i).0) (degree k c.denominator +ℤ (m -ℤ d i)) (omega (arith, ints)));
        rest_is = refl;
        is = put_back M z y;
      }

  -- a basis over the constants, whose length is a difference
  pub record HasIndex (Y Y' : V → Type 0) (s s' : ℤ) : Type 0 where
    pub members : List V
    pub basis : IsBasis k.ops (constants_ops k M.ops) Y Y' members
    pub index : (pos (length members) +ℤ s) ≡ s'

  section_space : (I : V → Type 0) (N : ℤ → V → Type 0) (b : List V) (d : ℕ → ℤ)
      → IsReducedBasisOfPair k M.ops n I N b d → (m : ℤ)
      → Rattle.linear_theory.specs.Basis.IsSubspace (constants_ops k M.ops) (Section I N m)
  section_space I N b d reduced m =
      intersection_space k M I (N m) (lattice_space k M I b reduced.lattice)
      (family_space k M field n N b d reduced.at m)

  -- what the two index lemmas have in common: the relative basis of the intersections at a large m
  relative : (I I' : V → Type 0) (N N' : ℤ → V → Type 0) (b b' : List V) (d d' : ℕ → ℤ)
      → IsReducedBasisOfPair k M.ops n I N b d → IsReducedBasisOfPair k M.ops n I' N' b' d' → (m : ℤ) → IsLarge n d m
      → IsLarge n d' m
      → ((z : V) → Section I' N' m z → Section I N m z)
      → HasIndex (Section I' N' m) (Section I N m) (degree_sum n d) (degree_sum n d')
  relative I I' N N' b b' d d' reduced reduced' m l l' inner =
      let r = relative_basis (coefficients k field) (over_constants k M) (IsNull (constants_ops k M.ops))
      (Section I' N' m) (Section I N m)
      (null_in k field M n) (section_space I' N' b' d' reduced' m) (section_space I N b d reduced m)
      (λ v e. subst (Section I' N' m) (sym e) (section_space I' N' b' d' reduced' m).zero_in) inner _ _
      (section_basis k field M n I' N' b' d' reduced' m) (section_basis k field M n I N b d reduced m) in
      let e = r.size in
      let f = length_section k field M n I N b d reduced m in
      let g = length_section k field M n I' N' b' d' reduced' m in
      let x = total_sizes n d m l in
      let y = total_sizes n d' m l' in
      record { members = r.members; basis = r.basis; index = omega (arith, ints) }

  -- the index of a smaller lattice
  pub lattice_index : (I I' : V → Type 0) (N : ℤ → V → Type 0) (b b' : List V) (d d' : ℕ → ℤ)
      → IsReducedBasisOfPair k M.ops n I N b d → IsReducedBasisOfPair k M.ops n I' N b' d' → ((z : V) → I' z → I z)
      → HasIndex I' I (degree_sum n d) (degree_sum n d')
  lattice_index I I' N b b' d d' reduced reduced' inner = go (large_for_two n d d')
    where
      go : ((m : ℤ) × IsLarge n d m × IsLarge n d' m) → HasIndex I' I (degree_sum n d) (degree_sum n d')
      go (m, l, l') =
          let r = relative I I' N N b b' d d' reduced reduced' m l l' (λ z h. (inner z h.0, h.1)) in
          record {
            members = r.members;
            index = r.index;
            basis =
                basis_transport (coefficients k field) (over_constants k M) (Section I' N m) (Section I N m) I' I
                (section_space I N b d reduced m) (lattice_space k M I' b' reduced'.lattice)
                (λ v h. h.0) (λ v h. h.0) (λ v h h'. (h', h.1))
                (λ v v_in.
                let s = split N b' d' reduced'.at m l' v in
                let own : I' (combine M.ops s.coefficient b') = (reduced'.lattice _).1
                (record { coefficient = s.coefficient; is = refl }) in
                record {
                  left = s.rest;
                  left_in = (
                    subst I (sym s.rest_is)
                        (lattice_sum k M I b reduced.lattice _ _
                        (lattice_scale k M I b reduced.lattice (⊖ 𝟙) _ (inner _ own)) v_in),
                    s.rest_in,
                  );
                  right = combine M.ops s.coefficient b';
                  right_in = own;
                  is = s.is ∙ M.add_comm _ _;
                })
                _ r.basis;
          }

  -- the index of a smaller family, at a large m
  pub family_index : (I : V → Type 0) (N N' : ℤ → V → Type 0) (b b' : List V) (d d' : ℕ → ℤ)
      → IsReducedBasisOfPair k M.ops n I N b d → IsReducedBasisOfPair k M.ops n I N' b' d'
      → ((m : ℤ) (z : V) → N' m z → N m z)
      → (m : ℤ) → IsLarge n d m → IsLarge n d' m → HasIndex (N' m) (N m) (degree_sum n d) (degree_sum n d')
  family_index I N N' b b' d d' reduced reduced' inner m l l' =
      let r = relative I I N N' b b' d d' reduced reduced' m l l' (λ z h. (h.0, inner m z h.1)) in
      let 𝓝 = family_space k M field n N b d reduced.at m in
      record {
        members = r.members;
        index = r.index;
        basis =
            basis_transport (coefficients k field) (over_constants k M) (Section I N' m) (Section I N m) (N' m) (N m)
            (section_space I N b d reduced m) (family_space k M field n N' b' d' reduced'.at m)
            (λ v h. h.1) (λ v h. h.1) (λ v h h'. (h.0, h'))
            (λ v v_in.
            let s = split N' b' d' reduced'.at m l' v in
            record {
              left = combine M.ops s.coefficient b';
              left_in = (
                (reduced'.lattice _).1 (record { coefficient = s.coefficient; is = refl }),
                let w : m +ℤ pos 0 ≡ m = omega (arith, ints) in
                    subst (N m) (ap (λ x. ⊖ 𝟙 • x ⊞ v) s.rest_is ∙ sym (twice M v _))
                    (𝓝.sum_in _ _ (subst (λ m. N m (⊖ 𝟙 • s.rest)) w
                    (scale_in k field M n N b d reduced.at m (pos 0) (⊖ 𝟙) s.rest minus_one
                    (inner m s.rest s.rest_in))) v_in),
              );
              right = s.rest;
              right_in = s.rest_in;
              is = s.is;
            })
            _ r.basis;
      }
    where
      minus_one : DegreeAtMost k (⊖ 𝟙) (pos 0)
      minus_one =
          let e = length_one k field in
          let f = length_neg k 𝟙 1 (omega arith) in
          size_least (length (⊖ 𝟙).0) (pos 0) (omega (arith, ints))
