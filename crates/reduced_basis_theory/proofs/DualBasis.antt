-- Each basis has a dual basis, where V can be divided by polynomials: by a linear relation between the forms.
use Rattle.std.proofs.Common.{◌≡◌, ℕ, zero, suc, ◌<◌, List, [], ◌∷◌, length, map, refl, sym, ◌∙◌, ap, ap₂, subst, arith}
use Rattle.std.proofs.lemmas.List.{length-map}
use Rattle.ring_lemmas.specs.Ring.{TestedRing, CommRing, IsField}
use Rattle.ring_lemmas.proofs.Ring.{neg_unique, neg_mul, neg_neg, neg_zero, zero_mul, zero_add}
use Rattle.ring_lemmas.specs.Polynomials.{Pol}
use Rattle.ring_theory.specs.PolynomialRing.{pol_ring}
use Rattle.linear_theory.specs.Module.{Module, combine, sequence_ops}
use Rattle.linear_theory.specs.Basis.{Relation}
use Rattle.linear_theory.specs.Lists.{entry, insert, tabulate}
use Rattle.linear_theory.proofs.Relation.{relation}
use Rattle.reduced_basis_theory.specs.Reduced.{Coordinates}
use Rattle.reduced_basis_theory.specs.Dual.{AreFractions, IsSymmetricForm, IsDualBasis}
use Rattle.linear_theory.proofs.Domain.{decide_equal}
use Rattle.reduced_basis_theory.proofs.Constants.{polynomials, polynomial_domain}
use Rattle.reduced_basis_theory.proofs.Forms.{form_zero, same_by_forms, Common, common}
use Rattle.reduced_basis_theory.proofs.Dual.{unit_symmetric}

pub length_tabulate : {V : Type 0} (n : ℕ) (f : ℕ → V) → length (tabulate n f) ≡ n
length_tabulate zero f = refl
length_tabulate (suc n) f = ap suc (length_tabulate n (λ i. f (suc i)))

pub entry_tabulate : {V : Type 0} (z : V) (n : ℕ) (f : ℕ → V) (i : ℕ) → i < n → entry z (tabulate n f) i ≡ f i
entry_tabulate z zero f i l = absurd (omega arith)
entry_tabulate z (suc n) f zero l = refl
entry_tabulate z (suc n) f (suc i) l = entry_tabulate z n (λ i. f (suc i)) i (omega arith)

module _ {C V Q : Type 0} (k : TestedRing C) (field : IsField k.ops) (M : Module (pol_ring k).ring V) (R : CommRing Q)
    (ι : Pol k → Q) (fractions : AreFractions k R.ops ι) (T : V → V → Q) (form : IsSymmetricForm k M.ops R.ops ι T)
    (n : ℕ) (b : List V) (count : length b ≡ n)
    (free : (p : ℕ → Pol k) → combine M.ops p b ≡ M.𝟬 → (i : ℕ) → i < n → p i ≡ (pol_ring k).𝟘)
    (coordinates : (z : V) → Coordinates k M.ops b z)
    (divisible : (e : Pol k) → ¬ (e ≡ (pol_ring k).𝟘) → (z : V) → (w : V) × (M.◌•◌ e w ≡ z)) where
  infixl 65 ◌⊞◌
  infixr 75 ◌•◌
  open M use {𝟬, ◌⊞◌, ◌•◌}

  infixl 65 ◌⊕◌
  infixl 70 ◌⊗◌
  infixr 80 ⊖◌
  open (pol_ring k) use {𝟘, 𝟙, ◌⊕◌, ◌⊗◌, ⊖◌}

  abbrev forms_of : (v : V) → Common k R ι fractions n (λ j. T v (entry 𝟬 b j))
  forms_of v = common k R ι fractions field n (λ j. T v (entry 𝟬 b j))

  abbrev forms_row : V → ℕ → Pol k
  forms_row v = (forms_of v).numerator

  abbrev scaled : List V → (ℕ → Pol k) → ℕ → Pol k
  scaled vs c i = c i ⊗ (forms_of (entry 𝟬 vs i)).denominator

  -- the forms of a combination with the basis, by the rows
  forms_combine : (vs : List V) (c : ℕ → Pol k) (j : ℕ) → j < n
      → T (combine M.ops (scaled vs c) vs) (entry 𝟬 b j)
      ≡ ι (combine (sequence_ops (pol_ring k).ops) c (map forms_row vs) j)
  forms_combine [] c j l = form_zero k M R ι fractions T form _ ∙ sym fractions.zero_is
  forms_combine (v ∷ vs) c j l =
      form.sum _ _ _
      ∙ ap₂ R.◌⊕◌
      (form.scale _ v _ ∙ ap (λ a. R.◌⊗◌ a (T v (entry 𝟬 b j))) (fractions.product_is _ _) ∙ R.mul_assoc _ _ _
      ∙ ap (R.◌⊗◌ (ι (c 0))) ((forms_of v).is j l) ∙ sym (fractions.product_is _ _))
      (forms_combine vs (λ i. c (suc i)) j l)
      ∙ sym (fractions.sum_is _ _)

  negative_nonzero : (a : Pol k) → ¬ (a ≡ 𝟘) → ¬ (⊖ a ≡ 𝟘)
  negative_nonzero a some e = some (sym (neg_neg (pol_ring k).ring a) ∙ ap ⊖◌ e ∙ neg_zero (pol_ring k).ring)

  -- an element whose forms with the basis are those of the unit sequence
  pub record DualElement (i : ℕ) : Type 0 where
    pub element : V
    pub forms : (j : ℕ) → j < n → T element (entry 𝟬 b j) ≡ ι (insert i 𝟙 (λ l. 𝟘) j)

  dual_element : (i : ℕ) → DualElement i
  dual_element i =
      go (relation (polynomial_domain k field) n (unit ∷ map forms_row b)
      (let e = length-map b forms_row in let f = count in omega arith))
    where
      unit : ℕ → Pol k
      unit = insert i 𝟙 (λ l. 𝟘)

      go : Relation (pol_ring k).ops n (unit ∷ map forms_row b) → DualElement i
      go s = by_first (decide_equal (pol_ring k) (s.coefficient 0) 𝟘)
        where
          later : ℕ → Pol k
          later = λ i. s.coefficient (suc i)

          z : V
          z = combine M.ops (scaled b later) b

          all_zero : s.coefficient 0 ≡ 𝟘 → (l : ℕ) → l < suc n → s.coefficient l ≡ 𝟘
          all_zero e zero h = e
          all_zero e (suc l) h =
              let null : z ≡ 𝟬
              = same_by_forms k M R ι fractions T form b coordinates z 𝟬 (λ j h.
              forms_combine b later j (subst (λ n. j < n) count h)
              ∙ ap ι (sym (zero_add (pol_ring k).ring _)
              ∙ ap (λ x. x ⊕ combine (sequence_ops (pol_ring k).ops) later (map forms_row b) j)
              (sym (ap (λ x. x ⊗ unit j) e ∙ zero_mul (pol_ring k).ring (unit j)))
              ∙ s.is j (subst (λ n. j < n) count h))
              ∙ fractions.zero_is ∙ sym (form_zero k M R ι fractions T form _)) in
              (polynomials k field).cancel_zero (forms_of (entry 𝟬 b l)).denominator (later l)
              (forms_of (entry 𝟬 b l)).nonzero
              ((pol_ring k).mul_comm _ _ ∙ free (scaled b later) null l (omega arith))

          by_first : Dec (s.coefficient 0 ≡ 𝟘) → DualElement i
          by_first (yes e) =
              let size = length-map b forms_row in
              let h = s.position_below in
              let f = count in
              absurd (s.nonzero (all_zero e s.position (omega arith)))
          by_first (no some) =
              let a = negative_nonzero (s.coefficient 0) some in
              let w = divisible (⊖ (s.coefficient 0)) a z in
              record {
                element = w.0;
                forms = λ j l.
                    fractions.cancel (⊖ (s.coefficient 0)) _ _ a
                    (sym (form.scale _ w.0 _) ∙ ap (λ v. T v (entry 𝟬 b j)) w.1 ∙ forms_combine b later j l
                    ∙ ap ι (neg_unique (pol_ring k).ring (s.coefficient 0 ⊗ unit j) _ (s.is j l)
                    ∙ sym (neg_mul (pol_ring k).ring (s.coefficient 0) (unit j)))
                    ∙ fractions.product_is _ _);
              }

  -- the dual basis
  pub dual_basis : (c : List V) × IsDualBasis k M.ops ι T n b c
  dual_basis = (
    tabulate n (λ i. (dual_element i).element),
    record {
      count = length_tabulate n (λ i. (dual_element i).element);
      forms = λ i j i_below j_below.
          ap (λ v. T v (entry 𝟬 b j)) (entry_tabulate 𝟬 n (λ i. (dual_element i).element) i i_below)
          ∙ (dual_element i).forms j j_below ∙ ap ι (unit_symmetric 𝟙 𝟘 j i);
    },
  )
