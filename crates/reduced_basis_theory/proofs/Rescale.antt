-- The lattice e·I of a polynomial e, and the law that the difference of two sums of degrees does not depend on the
-- lattice.
use Rattle.std.proofs.Common.{◌≡◌, ℕ, zero, suc, ℤ, ◌+ℤ◌, ◌-ℤ◌, List, [], ◌∷◌, map, refl, sym, ◌∙◌, ap, subst, arith}
use Rattle.std.proofs.lemmas.List.{length-map}
use Rattle.std.proofs.lemmas.Int.{ints}
use Rattle.ring_lemmas.specs.Ring.{TestedRing, CommRing, IsField}
use Rattle.ring_lemmas.proofs.Ring.{field_domain, product_not_zero}
use Rattle.ring_lemmas.proofs.Solver.{reads}
use Rattle.ring_lemmas.specs.Polynomials.{Pol}
use Rattle.ring_theory.specs.PolynomialRing.{pol_ring}
use Rattle.linear_theory.specs.Fields.{domain_of}
use Rattle.linear_theory.specs.Module.{Module, combine, IsLinear}
use Rattle.linear_theory.proofs.Module.{linear, parts, vector, scalar}
use Rattle.linear_theory.proofs.Combination.{combine_map, combine_scale}
use Rattle.linear_theory.proofs.Exchange.{bases_same_length}
use Rattle.reduced_basis_theory.specs.Degree.{DegreeAtMost, degree, degree_sum}
use Rattle.reduced_basis_theory.specs.Reduced.{IsReducedBasisOfPair}
use Rattle.reduced_basis_theory.proofs.Degree.{degree_cancel, degree_product, degree_own}
use Rattle.reduced_basis_theory.proofs.Constants.{coefficients, polynomials}
use Rattle.reduced_basis_theory.proofs.Layers.{over_constants}
use Rattle.reduced_basis_theory.proofs.Spaces.{lattice_space}
use Rattle.reduced_basis_theory.proofs.Index.{lattice_index}

pub scaling_linear : {A V : Type 0} {R : CommRing A} (M : Module R V) (e : A) → IsLinear M.ops M.ops (M.◌•◌ e)
scaling_linear M e a u v =
    linear M (vector M u ∷ vector M v ∷ scalar M e ∷ scalar M a ∷ []) λ q h.
    simp (parts, reads, q, h 0, h 1, h 2, h 3) (q.equal _ _ refl)

pub degree_sum_plus : (n : ℕ) (d : ℕ → ℤ) (j : ℤ) → degree_sum n (λ i. d i +ℤ j)
    ≡ degree_sum n d +ℤ degree_sum n (λ i. j)
degree_sum_plus zero d j = omega (arith, ints)
degree_sum_plus (suc n) d j = let e = degree_sum_plus n (λ i. d (suc i)) j in omega (arith, ints)

module _ {C V : Type 0} (k : TestedRing C) (field : IsField k.ops) (M : Module (pol_ring k).ring V) (n : ℕ) where
  infixl 65 ◌⊞◌
  infixr 75 ◌•◌
  open M use {𝟬, ◌⊞◌, ◌•◌}

  infixl 70 ◌⊗◌
  open (pol_ring k) use {𝟘, ◌⊗◌}

  -- the multiples by e of the members of I
  pub record Multiples (e : Pol k) (I : V → Type 0) (y : V) : Type 0 where
    pub member : V
    pub member_in : I member
    pub is : y ≡ e • member

  combine_multiples : (e : Pol k) (p : ℕ → Pol k) (b : List V) → combine M.ops p (map (M.◌•◌ e) b)
      ≡ combine M.ops (λ i. e ⊗ p i) b
  combine_multiples e p b = sym (combine_map M M (M.◌•◌ e) (scaling_linear M e) p b) ∙ sym (combine_scale M e p b)

  pub reduced_multiples : (I : V → Type 0) (N : ℤ → V → Type 0) (b : List V) (d : ℕ → ℤ) (e : Pol k) → ¬ (e ≡ 𝟘)
      → IsReducedBasisOfPair k M.ops n I N b d
      → IsReducedBasisOfPair k M.ops n (Multiples e I) N (map (M.◌•◌ e) b) (λ i. d i +ℤ degree k e)
  reduced_multiples I N b d e some reduced = record {
    at = record {
      count = length-map b (M.◌•◌ e) ∙ reduced.at.count;
      free = λ p null i l.
          (polynomials k field).cancel_zero e (p i) some
          (reduced.at.free (λ i. e ⊗ p i) (sym (combine_multiples e p b) ∙ null) i l);
      coordinates = λ z.
          let c = reduced.at.coordinates z in
          record {
            denominator = e ⊗ c.denominator;
            nonzero = product_not_zero (polynomials k field) e c.denominator some c.nonzero;
            coefficient = c.coefficient;
            is = M.mul_scale e c.denominator z ∙ ap (M.◌•◌ e) c.is
                ∙ combine_map M M (M.◌•◌ e) (scaling_linear M e) c.coefficient b;
          };
      degrees = λ m z f p nonzero is.
          let h = reduced.at.degrees m z f (λ i. e ⊗ p i) nonzero (is ∙ combine_multiples e p b) in
          let domain = field_domain k.ring field in
          let w : (i : ℕ) → degree k f +ℤ (m -ℤ d i)
          ≡ degree k e +ℤ (degree k f +ℤ (m -ℤ (d i +ℤ degree k e))) = λ i. omega (arith, ints) in (
            λ z_in i l. degree_cancel k domain e (p i) _ some (subst (DegreeAtMost k (e ⊗ p i)) (w i) (h.0 z_in i l)),
            λ bounds.
                h.1 (λ i l. subst (DegreeAtMost k (e ⊗ p i)) (sym (w i))
                (degree_product k domain e (p i) _ _ (degree_own k domain e) (bounds i l))),
          );
    };
    lattice = λ y. (
      λ h.
          let a = (reduced.lattice h.member).0 h.member_in in
          record {
            coefficient = a.coefficient;
            is = h.is ∙ ap (M.◌•◌ e) a.is ∙ combine_map M M (M.◌•◌ e) (scaling_linear M e) a.coefficient b;
          },
      λ h.
          record {
            member = combine M.ops h.coefficient b;
            member_in = (reduced.lattice _).1 (record { coefficient = h.coefficient; is = refl });
            is = h.is ∙ sym (combine_map M M (M.◌•◌ e) (scaling_linear M e) h.coefficient b);
          },
    );
  }

  -- the difference of the sums of two families is the same at a smaller lattice
  pub same_difference : (I I' : V → Type 0) (N X : ℤ → V → Type 0) (b c b' c' : List V) (d f d' f' : ℕ → ℤ)
      → IsReducedBasisOfPair k M.ops n I N b d → IsReducedBasisOfPair k M.ops n I X c f
      → IsReducedBasisOfPair k M.ops n I' N b' d' → IsReducedBasisOfPair k M.ops n I' X c' f' → ((z : V) → I' z → I z)
      → (degree_sum n d -ℤ degree_sum n f) ≡ (degree_sum n d' -ℤ degree_sum n f')
  same_difference I I' N X b c b' c' d f d' f' one two three four inner =
      let x = lattice_index k field M n I I' N b b' d d' one three inner in
      let y = lattice_index k field M n I I' X c c' f f' two four inner in
      let e = bases_same_length (domain_of (coefficients k field)) (over_constants k M) I'
      (lattice_space k M I' b' three.lattice) I
      x.members y.members x.basis y.basis in
      let u = x.index in
      let v = y.index in
      omega (arith, ints)

  -- and at each lattice of which a multiple is smaller
  pub shift_law : (I I' : V → Type 0) (N X : ℤ → V → Type 0) (b c b' c' : List V) (d f d' f' : ℕ → ℤ)
      → IsReducedBasisOfPair k M.ops n I N b d → IsReducedBasisOfPair k M.ops n I X c f
      → IsReducedBasisOfPair k M.ops n I' N b' d' → IsReducedBasisOfPair k M.ops n I' X c' f' → (e : Pol k)
      → ¬ (e ≡ 𝟘) → ((z : V) → I' z → I (e • z))
      → (degree_sum n d -ℤ degree_sum n f) ≡ (degree_sum n d' -ℤ degree_sum n f')
  shift_law I I' N X b c b' c' d f d' f' one two three four e some inner =
      let a = same_difference I (Multiples e I') N X b c _ _ d f (λ i. d' i +ℤ degree k e) (λ i. f' i +ℤ degree k e)
      one two
      (reduced_multiples I' N b' d' e some three) (reduced_multiples I' X c' f' e some four)
      (λ y h. subst I (sym h.is) (inner h.member h.member_in)) in
      let x = degree_sum_plus n d' (degree k e) in
      let y = degree_sum_plus n f' (degree k e) in
      omega (arith, ints)
