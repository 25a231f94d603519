-- The dual basis of a reduced basis of (I, N) is a reduced basis of the dual pair, with the negated degrees.
use Rattle.std.proofs.Common.{◌≡◌, ℕ, zero, suc, ◌<◌, ℤ, ◌+ℤ◌, ◌-ℤ◌, List, [], ◌∷◌, length, All, refl, sym, ◌∙◌, ap, ap₂, subst, arith, ◌↔◌}
use Rattle.std.proofs.lemmas.List.Elements.{All-head, All-tail}
use Rattle.std.proofs.lemmas.Int.{ints}
use Rattle.ring_lemmas.specs.Ring.{TestedRing, CommRing, IsField}
use Rattle.ring_lemmas.proofs.Ring.{field_domain, product_not_zero, mul_left_comm}
use Rattle.ring_lemmas.specs.Polynomials.{Pol}
use Rattle.ring_theory.specs.PolynomialRing.{pol_ring}
use Rattle.linear_theory.specs.Module.{Module, combine}
use Rattle.linear_theory.specs.Lists.{entry, insert}
use Rattle.reduced_basis_theory.specs.Degree.{DegreeAtMost, degree}
use Rattle.reduced_basis_theory.specs.Reduced.{InLattice, Coordinates, CoordinatesAtMost, IsReducedBasisOfPair, IsReducedAt}
use Rattle.reduced_basis_theory.specs.Dual.{AreFractions, IsSymmetricForm, DualLattice, DualFamily, IsDualBasis, dot, negated}
use Rattle.reduced_basis_theory.proofs.Degree.{degree_product, degree_cancel, degree_own, degree_multiply, size_least}
use Rattle.reduced_basis_theory.proofs.Constants.{polynomials}
use Rattle.reduced_basis_theory.proofs.Layers.{All_of_combine}
use Rattle.reduced_basis_theory.proofs.Count.{length_one}
use Rattle.reduced_basis_theory.proofs.Graded.{multiple_in}
use Rattle.reduced_basis_theory.proofs.Spaces.{lattice_zero}
use Rattle.reduced_basis_theory.proofs.Forms.{dot_single, dot_degree, form_zero, form_combine, same_by_forms, common}

-- a member of the list, or the default, is in W
pub entry_in : {V : Type 0} (W : V → Type 0) (z : V) (vs : List V) → W z → All W vs → (i : ℕ) → W (entry z vs i)
entry_in W z [] z_in h i = z_in
entry_in W z (v ∷ vs) z_in h zero = All-head W v vs h
entry_in W z (v ∷ vs) z_in h (suc i) = entry_in W z vs z_in (All-tail W v vs h) i

pub unit_symmetric : {A : Type 0} (x z : A) (i j : ℕ) → insert j x (λ l. z) i ≡ insert i x (λ l. z) j
unit_symmetric x z zero zero = refl
unit_symmetric x z zero (suc j) = refl
unit_symmetric x z (suc i) zero = refl
unit_symmetric x z (suc i) (suc j) = unit_symmetric x z i j

-- the members of a basis of a lattice are in it
pub in_lattice : {C V : Type 0} (k : TestedRing C) (M : Module (pol_ring k).ring V) (I : V → Type 0) (b : List V)
    → ((z : V) → I z ↔ InLattice k M.ops b z) → (i : ℕ) → I (entry M.𝟬 b i)
in_lattice k M I b lattice =
    entry_in I M.𝟬 b (lattice_zero k M I b lattice)
    (All_of_combine M I b (λ c. (lattice _).1 (record { coefficient = c; is = refl })))

module _ {C V Q : Type 0} (k : TestedRing C) (field : IsField k.ops) (M : Module (pol_ring k).ring V) (R : CommRing Q)
    (ι : Pol k → Q) (fractions : AreFractions k R.ops ι) (T : V → V → Q) (form : IsSymmetricForm k M.ops R.ops ι T)
    (n : ℕ) where
  infixl 65 ◌⊞◌
  infixr 75 ◌•◌
  open M use {𝟬, ◌⊞◌, ◌•◌}

  abbrev s : TestedRing (Pol k)
  s = pol_ring k

  -- b is the dual basis of its dual basis
  pub dual_symmetric : (b c : List V) → length b ≡ n → IsDualBasis k M.ops ι T n b c → IsDualBasis k M.ops ι T n c b
  dual_symmetric b c count dual = record {
    count = count;
    forms = λ i j i_below j_below.
        form.symmetric _ _ ∙ dual.forms j i j_below i_below ∙ ap ι (unit_symmetric s.𝟙 s.𝟘 j i);
  }

  module _ (b c : List V) (dual : IsDualBasis k M.ops ι T n b c) where
    -- the coordinates in the dual basis are the forms with the basis
    pub dual_coordinate : (p : ℕ → Pol k) (j : ℕ) → j < n → T (combine M.ops p c) (entry 𝟬 b j) ≡ ι (p j)
    dual_coordinate p j l =
        form_combine k M R ι fractions T form c p (insert j s.𝟙 (λ l. s.𝟘)) (entry 𝟬 b j)
        (λ i l'. dual.forms i j (subst (λ n. i < n) dual.count l') l)
        ∙ ap ι (dot_single k (length c) p j (subst (λ n. j < n) (sym dual.count) l))

    pub dual_form : (count : length b ≡ n) (p q : ℕ → Pol k) → T (combine M.ops q b) (combine M.ops p c)
        ≡ ι (dot k (length b) q p)
    dual_form count p q =
        form_combine k M R ι fractions T form b q p (combine M.ops p c)
        (λ i l. form.symmetric _ _ ∙ dual_coordinate p i (subst (λ n. i < n) count l))

    module _ (N : ℤ → V → Type 0) (d : ℕ → ℤ) (reduced : IsReducedAt k M.ops n N b d) where
      same : (y z : V) → ((i : ℕ) → i < n → T y (entry 𝟬 b i) ≡ T z (entry 𝟬 b i)) → y ≡ z
      same y z h =
          same_by_forms k M R ι fractions T form b reduced.coordinates y z
          (λ i l. h i (subst (λ n. i < n) reduced.count l))

      dual_free : (p : ℕ → Pol k) → combine M.ops p c ≡ 𝟬 → (i : ℕ) → i < n → p i ≡ s.𝟘
      dual_free p e i l =
          fractions.injective (p i) s.𝟘
          (sym (dual_coordinate p i l) ∙ ap (λ v. T v (entry 𝟬 b i)) e ∙ form_zero k M R ι fractions T form _
          ∙ sym fractions.zero_is)

      dual_coordinates : (z : V) → Coordinates k M.ops c z
      dual_coordinates z =
          let f = common k R ι fractions field n (λ i. T z (entry 𝟬 b i)) in
          record {
            denominator = f.denominator;
            nonzero = f.nonzero;
            coefficient = f.numerator;
            is = same _ _ (λ i l. form.scale f.denominator z (entry 𝟬 b i) ∙ f.is i l
                ∙ sym (dual_coordinate f.numerator i l));
          }

      own_member : (i : ℕ) → i < n → N (d i) (entry 𝟬 b i)
      own_member i l =
          let one = length_one k field in
          subst (N (d i)) (M.one_scale (entry 𝟬 b i))
          (multiple_in k field M n N b d reduced (d i) i s.𝟙 l
          (size_least (length (s.𝟙).0) (d i -ℤ d i) (omega (arith, ints))))

      bounded : (m : ℤ) (z : V) (e : Pol k) (p : ℕ → Pol k) → ¬ (e ≡ s.𝟘) → e • z ≡ combine M.ops p c
          → DualFamily k R.ops ι T N m z → CoordinatesAtMost k n (negated d) e p m
      bounded m z e p some is z_in i l =
          let f = z_in (d i) (entry 𝟬 b i) (own_member i l) in
          let t = T z (entry 𝟬 b i) in
          let a : R.◌⊗◌ (ι e) t ≡ ι (p i) = sym (form.scale e z _) ∙ ap (λ v. T v (entry 𝟬 b i)) is
          ∙ dual_coordinate p i l in
          let crossed : s.◌⊗◌ f.fraction.denominator (p i) ≡ s.◌⊗◌ e f.fraction.numerator
          = fractions.injective _ _
          (fractions.product_is _ _ ∙ ap (R.◌⊗◌ (ι f.fraction.denominator)) (sym a) ∙ mul_left_comm R _ _ _
          ∙ ap (R.◌⊗◌ (ι e)) f.fraction.is ∙ sym (fractions.product_is _ _)) in
          let domain = field_domain k.ring field in
          let w : degree k e +ℤ (degree k f.fraction.denominator +ℤ (m +ℤ d i))
          ≡ degree k f.fraction.denominator +ℤ (degree k e +ℤ (m -ℤ negated d i))
          = omega (arith, ints) in
          degree_cancel k domain f.fraction.denominator (p i) (degree k e +ℤ (m -ℤ negated d i)) f.fraction.nonzero
          (subst (λ q. DegreeAtMost k q (degree k f.fraction.denominator +ℤ (degree k e +ℤ (m -ℤ negated d i))))
          (sym crossed)
          (subst (DegreeAtMost k (s.◌⊗◌ e f.fraction.numerator)) w
          (degree_product k domain e f.fraction.numerator (degree k e)
          (degree k f.fraction.denominator +ℤ (m +ℤ d i)) (degree_own k domain e) f.bound)))

      member : (m : ℤ) (z : V) (e : Pol k) (p : ℕ → Pol k) → ¬ (e ≡ s.𝟘) → e • z ≡ combine M.ops p c
          → CoordinatesAtMost k n (negated d) e p m → DualFamily k R.ops ι T N m z
      member m z e p some is h l u u_in =
          let f = reduced.coordinates u in
          let g = (reduced.degrees l u f.denominator f.coefficient f.nonzero f.is).0 u_in in
          let domain = field_domain k.ring field in
          let w = degree_multiply k domain e f.denominator some f.nonzero in
          record {
            fraction = record {
              denominator = s.◌⊗◌ e f.denominator;
              nonzero = product_not_zero (polynomials k field) e f.denominator some f.nonzero;
              numerator = dot k (length b) f.coefficient p;
              is =
                  ap (λ a. R.◌⊗◌ a (T z u)) (fractions.product_is e f.denominator ∙ R.mul_comm _ _) ∙ R.mul_assoc _ _ _
                  ∙ ap (R.◌⊗◌ (ι f.denominator)) (sym (form.scale e z u) ∙ form.symmetric _ u)
                  ∙ sym (form.scale f.denominator u (e • z)) ∙ ap₂ T f.is is ∙ dual_form reduced.count p f.coefficient;
            };
            bound =
                dot_degree k field (length b) f.coefficient p (degree k (s.◌⊗◌ e f.denominator) +ℤ (m +ℤ l))
                (λ i i_below.
                let i_in : i < n = subst (λ n. i < n) reduced.count i_below in
                let x : (degree k f.denominator +ℤ (l -ℤ d i)) +ℤ (degree k e +ℤ (m -ℤ negated d i))
                ≡ degree k (s.◌⊗◌ e f.denominator) +ℤ (m +ℤ l)
                = omega (arith, ints) in
                subst (DegreeAtMost k (s.◌⊗◌ (f.coefficient i) (p i))) x
                (degree_product k domain (f.coefficient i) (p i) _ _ (g i i_in) (h i i_in)));
          }

      -- the dual basis for the family alone
      pub dual_reduced_at : IsReducedAt k M.ops n (DualFamily k R.ops ι T N) c (negated d)
      dual_reduced_at = record {
        count = dual.count;
        free = dual_free;
        coordinates = dual_coordinates;
        degrees = λ m z e p some is. (bounded m z e p some is, member m z e p some is);
      }

    module _ (I : V → Type 0) (N : ℤ → V → Type 0) (d : ℕ → ℤ) (reduced : IsReducedBasisOfPair k M.ops n I N b d) where
      to_dual : (z : V) → DualLattice k ι T I z → InLattice k M.ops c z
      to_dual z h = record {
        coefficient = λ i. (h (entry 𝟬 b i) (in_lattice k M I b reduced.lattice i)).0;
        is =
            same N d reduced.at z _ (λ i l.
            (h (entry 𝟬 b i) (in_lattice k M I b reduced.lattice i)).1
            ∙ sym (dual_coordinate (λ i. (h (entry 𝟬 b i) (in_lattice k M I b reduced.lattice i)).0) i l));
      }

      from_dual : (z : V) → InLattice k M.ops c z → DualLattice k ι T I z
      from_dual z h u u_in =
          let a = (reduced.lattice u).0 u_in in (
            dot k (length b) a.coefficient h.coefficient,
            form.symmetric z u ∙ ap₂ T a.is h.is ∙ dual_form reduced.at.count h.coefficient a.coefficient,
          )

      -- duality
      pub dual_reduced : IsReducedBasisOfPair k M.ops n (DualLattice k ι T I) (DualFamily k R.ops ι T N) c (negated d)
      dual_reduced = record { at = dual_reduced_at N d reduced.at; lattice = λ z. (to_dual z, from_dual z) }
