-- Forms of combinations, and elements that are told apart by their forms with a basis.
use Rattle.std.proofs.Common.{◌≡◌, ℕ, zero, suc, ◌<◌, ℤ, List, [], ◌∷◌, length, refl, sym, ◌∙◌, ap, ap₂, arith}
use Rattle.ring_lemmas.specs.Ring.{TestedRing, CommRing, IsField}
use Rattle.ring_lemmas.proofs.Ring.{field_domain, zero_mul, mul_zero, zero_add, product_not_zero}
use Rattle.ring_lemmas.specs.Polynomials.{Pol}
use Rattle.ring_theory.specs.PolynomialRing.{pol_ring}
use Rattle.linear_theory.specs.Module.{Module, combine}
use Rattle.linear_theory.specs.Lists.{entry, insert}
use Rattle.reduced_basis_theory.specs.Degree.{DegreeAtMost}
use Rattle.reduced_basis_theory.specs.Reduced.{Coordinates}
use Rattle.reduced_basis_theory.specs.Dual.{PolynomialFraction, AreFractions, IsSymmetricForm, dot}
use Rattle.reduced_basis_theory.proofs.Degree.{degree_zero, degree_sum_in}
use Rattle.reduced_basis_theory.proofs.Constants.{polynomials}

module _ {C : Type 0} (k : TestedRing C) where
  abbrev s : TestedRing (Pol k)
  s = pol_ring k

  dot_none : (n : ℕ) (p : ℕ → Pol k) → dot k n p (λ i. s.𝟘) ≡ s.𝟘
  dot_none zero p = refl
  dot_none (suc n) p = ap₂ s.◌⊕◌ (mul_zero s.ring (p 0)) (dot_none n (λ i. p (suc i))) ∙ s.add_zero s.𝟘

  -- the dot product with a unit sequence
  pub dot_single : (n : ℕ) (p : ℕ → Pol k) (j : ℕ) → j < n → dot k n p (insert j s.𝟙 (λ i. s.𝟘)) ≡ p j
  dot_single zero p j l = absurd (omega arith)
  dot_single (suc n) p zero l =
      ap₂ s.◌⊕◌ (s.mul_one (p 0)) (dot_none n (λ i. p (suc i))) ∙ s.add_zero (p 0)
  dot_single (suc n) p (suc j) l =
      ap₂ s.◌⊕◌ (mul_zero s.ring (p 0)) (dot_single n (λ i. p (suc i)) j (omega arith)) ∙ zero_add s.ring (p (suc j))

  pub dot_degree : (field : IsField k.ops) (n : ℕ) (p q : ℕ → Pol k) (m : ℤ)
      → ((i : ℕ) → i < n → DegreeAtMost k (s.◌⊗◌ (p i) (q i)) m) → DegreeAtMost k (dot k n p q) m
  dot_degree field zero p q m h = degree_zero k (field_domain k.ring field) m
  dot_degree field (suc n) p q m h =
      degree_sum_in k (field_domain k.ring field) _ _ m (h 0 (omega arith))
      (dot_degree field n (λ i. p (suc i)) (λ i. q (suc i)) m (λ i l. h (suc i) (omega arith)))

module _ {C Q : Type 0} (k : TestedRing C) (R : CommRing Q) (ι : Pol k → Q) (fractions : AreFractions k R.ops ι) where
  infixl 70 ◌⊗◌
  open R use {◌⊗◌}

  -- one denominator for several fractions
  pub record Common (n : ℕ) (r : ℕ → Q) : Type 0 where
    pub denominator : Pol k
    pub nonzero : ¬ (denominator ≡ (pol_ring k).𝟘)
    pub numerator : ℕ → Pol k
    pub is : (i : ℕ) → i < n → ι denominator ⊗ r i ≡ ι (numerator i)

  pub common : (field : IsField k.ops) (n : ℕ) (r : ℕ → Q) → Common n r
  common field zero r = record {
    denominator = (pol_ring k).𝟙;
    nonzero = (polynomials k field).one_not_zero;
    numerator = λ i. (pol_ring k).𝟘;
    is = λ i l. absurd (omega arith);
  }
  common field (suc n) r = go (fractions.fraction (r 0)) (common field n (λ i. r (suc i)))
    where
      go : PolynomialFraction k R.ops ι (r 0) → Common n (λ i. r (suc i)) → Common (suc n) r
      go f c = record {
        denominator = (pol_ring k).◌⊗◌ f.denominator c.denominator;
        nonzero = product_not_zero (polynomials k field) _ _ f.nonzero c.nonzero;
        numerator = numerators;
        is = all;
      }
        where
          numerators : ℕ → Pol k
          numerators =
              insert 0 ((pol_ring k).◌⊗◌ c.denominator f.numerator)
              (λ i. (pol_ring k).◌⊗◌ f.denominator (c.numerator i))

          all : (i : ℕ) → i < suc n → ι ((pol_ring k).◌⊗◌ f.denominator c.denominator) ⊗ r i ≡ ι (numerators i)
          all zero l =
              ap (λ a. a ⊗ r 0) (fractions.product_is _ _ ∙ R.mul_comm _ _) ∙ R.mul_assoc _ _ _
              ∙ ap (λ a. ι c.denominator ⊗ a) f.is
              ∙ sym (fractions.product_is _ _)
          all (suc i) l =
              ap (λ a. a ⊗ r (suc i)) (fractions.product_is _ _) ∙ R.mul_assoc _ _ _
              ∙ ap (λ a. ι f.denominator ⊗ a) (c.is i (omega arith))
              ∙ sym (fractions.product_is _ _)

module _ {C V Q : Type 0} (k : TestedRing C) (M : Module (pol_ring k).ring V) (R : CommRing Q)
    (ι : Pol k → Q) (fractions : AreFractions k R.ops ι) (T : V → V → Q)
    (form : IsSymmetricForm k M.ops R.ops ι T) where
  infixl 65 ◌⊞◌
  infixr 75 ◌•◌
  open M use {𝟬, ◌⊞◌, ◌•◌}

  infixl 65 ◌⊕◌
  infixl 70 ◌⊗◌
  open R use {◌⊕◌, ◌⊗◌}

  pub form_zero : (w : V) → T 𝟬 w ≡ R.𝟘
  form_zero w =
      ap (λ v. T v w) (sym (M.zero_scale 𝟬)) ∙ form.scale (pol_ring k).𝟘 𝟬 w ∙ ap (λ a. a ⊗ T 𝟬 w) fractions.zero_is
      ∙ zero_mul R _

  -- the form of a combination with an element that has polynomial forms with the list
  pub form_combine : (vs : List V) (p q : ℕ → Pol k) (w : V) → ((i : ℕ) → i < length vs → T (entry 𝟬 vs i) w ≡ ι (q i))
      → T (combine M.ops p vs) w ≡ ι (dot k (length vs) p q)
  form_combine [] p q w h = form_zero w ∙ sym fractions.zero_is
  form_combine (v ∷ vs) p q w h =
      form.sum _ _ w
      ∙ ap₂ ◌⊕◌ (form.scale (p 0) v w ∙ ap (λ a. ι (p 0) ⊗ a) (h 0 (omega arith)) ∙ sym (fractions.product_is _ _))
      (form_combine vs (λ i. p (suc i)) (λ i. q (suc i)) w (λ i l. h (suc i) (omega arith)))
      ∙ sym (fractions.sum_is _ _)

  form_equal : (vs : List V) (p : ℕ → Pol k) (y z : V)
      → ((i : ℕ) → i < length vs → T (entry 𝟬 vs i) y ≡ T (entry 𝟬 vs i) z)
      → T (combine M.ops p vs) y ≡ T (combine M.ops p vs) z
  form_equal [] p y z h = form_zero y ∙ sym (form_zero z)
  form_equal (v ∷ vs) p y z h =
      form.sum _ _ y
      ∙ ap₂ ◌⊕◌ (form.scale (p 0) v y ∙ ap (λ a. ι (p 0) ⊗ a) (h 0 (omega arith)) ∙ sym (form.scale (p 0) v z))
      (form_equal vs (λ i. p (suc i)) y z (λ i l. h (suc i) (omega arith)))
      ∙ sym (form.sum _ _ z)

  -- elements with the same forms with a basis are the same
  pub same_by_forms : (b : List V) → ((u : V) → Coordinates k M.ops b u) → (y z : V)
      → ((i : ℕ) → i < length b → T y (entry 𝟬 b i) ≡ T z (entry 𝟬 b i)) → y ≡ z
  same_by_forms b coordinates y z h =
      form.separates y z (λ u.
      let c = coordinates u in
      fractions.cancel c.denominator (T y u) (T z u) c.nonzero
      (ap (λ a. ι c.denominator ⊗ a) (form.symmetric y u) ∙ sym (form.scale c.denominator u y)
      ∙ ap (λ v. T v y) c.is
      ∙ form_equal b c.coefficient y z (λ i l. form.symmetric _ y ∙ h i l ∙ form.symmetric z _)
      ∙ sym (ap (λ v. T v z) c.is)
      ∙ form.scale c.denominator u z ∙ ap (λ a. ι c.denominator ⊗ a) (form.symmetric u z)))
