-- What a reduced basis says of the family N: the N m are closed under sums, and polynomials and denominators shift
-- them.
use Rattle.std.proofs.Common.{◌≡◌, ℕ, zero, suc, ◌<◌, ℤ, ◌+ℤ◌, ◌-ℤ◌, ◌≤ℤ◌, List, [], ◌∷◌, length, refl, sym, ◌∙◌, ap, ap₂, subst, arith}
use Rattle.std.proofs.lemmas.Int.{ints}
use Rattle.ring_lemmas.specs.Ring.{TestedRing, CommRing, IsField}
use Rattle.ring_lemmas.proofs.Ring.{field_domain, product_not_zero}
use Rattle.ring_lemmas.proofs.Solver.{reads}
use Rattle.ring_lemmas.specs.Polynomials.{Pol}
use Rattle.ring_theory.specs.PolynomialRing.{pol_ring}
use Rattle.linear_theory.specs.Module.{Module, combine}
use Rattle.linear_theory.specs.Lists.{entry, insert, remove}
use Rattle.linear_theory.proofs.Module.{linear, parts, vector, scalar, scale_zero}
use Rattle.linear_theory.proofs.Combination.{combine_insert, combine_zero, combine_scale, combine_linear}
use Rattle.reduced_basis_theory.specs.Degree.{DegreeAtMost, degree}
use Rattle.reduced_basis_theory.specs.Reduced.{IsReducedAt}
use Rattle.reduced_basis_theory.proofs.Degree.{degree_zero, degree_sum_in, degree_product, degree_cancel, degree_own, degree_multiply, degree_weaker}
use Rattle.reduced_basis_theory.proofs.Count.{over_one}
use Rattle.reduced_basis_theory.proofs.Constants.{polynomials}

-- x at the position i, and a default at the others
abbrev pub single : {A : Type 0} → A → ℕ → A → ℕ → A
single z i x = insert i x (λ j. z)

pub single_other : {A : Type 0} (z : A) (i : ℕ) (x : A) (j : ℕ) → ¬ (j ≡ i) → single z i x j ≡ z
single_other z zero x zero h = absurd (h refl)
single_other z zero x (suc j) h = refl
single_other z (suc i) x zero h = refl
single_other z (suc i) x (suc j) h = single_other z i x j (λ e. h (ap suc e))

pub single_all : {A : Type 0} (P : ℕ → A → Type 0) (z : A) (i : ℕ) (x : A) → P i x → ((j : ℕ) → P j z) → (j : ℕ)
    → P j (single z i x j)
single_all P z zero x h f zero = h
single_all P z zero x h f (suc j) = f (suc j)
single_all P z (suc i) x h f zero = f 0
single_all P z (suc i) x h f (suc j) = single_all (λ j. P (suc j)) z i x h (λ j. f (suc j)) j

-- a sum of two members times the product of their denominators
pub scale_both : {A V : Type 0} {R : CommRing A} (M : Module R V) (a c : A) (y z : V)
    → M.◌•◌ (R.◌⊗◌ a c) (M.◌⊞◌ y z) ≡ M.◌⊞◌ (M.◌•◌ c (M.◌•◌ a y)) (M.◌•◌ a (M.◌•◌ c z))
scale_both M a c y z =
    linear M (vector M y ∷ vector M z ∷ scalar M a ∷ scalar M c ∷ []) λ q h.
    simp (parts, reads, q, h 0, h 1, h 2, h 3) (q.equal _ _ refl)

module _ {C V : Type 0} (k : TestedRing C) (field : IsField k.ops) (M : Module (pol_ring k).ring V) (n : ℕ)
    (N : ℤ → V → Type 0) (b : List V) (d : ℕ → ℤ) (reduced : IsReducedAt k M.ops n N b d) where
  infixl 65 ◌⊞◌
  infixr 75 ◌•◌
  open M use {𝟬, ◌⊞◌, ◌•◌}

  infixl 65 ◌⊕◌
  infixl 70 ◌⊗◌
  abbrev s : TestedRing (Pol k)
  s = pol_ring k

  open s use {𝟘, 𝟙, ◌⊕◌, ◌⊗◌}

  pub combine_single : (i : ℕ) (p : Pol k) → i < length b → combine M.ops (single 𝟘 i p) b ≡ p • entry 𝟬 b i
  combine_single i p l = combine_insert M i p (λ j. 𝟘) b l
      ∙ ap (λ x. p • entry 𝟬 b i ⊞ x) (combine_zero M (remove i b)) ∙ M.add_zero _

  pub zero_in : (m : ℤ) → N m 𝟬
  zero_in m =
      (reduced.degrees m 𝟬 𝟙 (λ i. 𝟘) (polynomials k field).one_not_zero (scale_zero M 𝟙 ∙ sym (combine_zero M b))).1
      (λ i l. degree_zero k (field_domain k.ring field) _)

  -- x^m·N holds the multiples of b i by polynomials of degree at most m - d i
  pub multiple_in : (m : ℤ) (i : ℕ) (p : Pol k) → i < n → DegreeAtMost k p (m -ℤ d i) → N m (p • entry 𝟬 b i)
  multiple_in m i p l h =
      (reduced.degrees m _ 𝟙 (single 𝟘 i p) (polynomials k field).one_not_zero
      (M.one_scale _ ∙ sym (combine_single i p (subst (λ n. i < n) (sym reduced.count) l)))).1
      (λ j l'. single_all (λ j q. DegreeAtMost k q (degree k 𝟙 +ℤ (m -ℤ d j))) 𝟘 i p
      (subst (λ w. DegreeAtMost k p w) (sym (over_one k field (m -ℤ d i))) h)
      (λ j. degree_zero k (field_domain k.ring field) _) j)

  scaled_one : (e p : Pol k) (z : V) → e • (p • z) ≡ p • (e • z)
  scaled_one e p z = sym (M.mul_scale e p z) ∙ ap (λ a. a • z) (s.mul_comm e p) ∙ M.mul_scale p e z

  -- a polynomial of degree at most l takes x^m·N into x^(m+l)·N
  pub scale_in : (m l : ℤ) (p : Pol k) (z : V) → DegreeAtMost k p l → N m z → N (m +ℤ l) (p • z)
  scale_in m l p z h z_in =
      let c = reduced.coordinates z in
      let f = (reduced.degrees m z c.denominator c.coefficient c.nonzero c.is).0 z_in in
      (reduced.degrees (m +ℤ l) (p • z) c.denominator (λ i. p ⊗ c.coefficient i) c.nonzero
      (scaled_one c.denominator p z ∙ ap (λ v. p • v) c.is ∙ sym (combine_scale M p c.coefficient b))).1
      (λ i l'.
      let e : l +ℤ (degree k c.denominator +ℤ (m -ℤ d i))
      ≡ degree k c.denominator +ℤ ((m +ℤ l) -ℤ d i) = omega (arith, ints) in
      subst (DegreeAtMost k (p ⊗ c.coefficient i)) e
      (degree_product k (field_domain k.ring field) p (c.coefficient i) l _ h (f i l')))

  -- and a denominator takes it back
  pub divide_in : (m : ℤ) (e : Pol k) (z : V) → ¬ (e ≡ 𝟘) → N (m +ℤ degree k e) (e • z) → N m z
  divide_in m e z some h =
      let c = reduced.coordinates z in
      let f = (reduced.degrees (m +ℤ degree k e) (e • z) c.denominator (λ i. e ⊗ c.coefficient i) c.nonzero
      (scaled_one c.denominator e z ∙ ap (λ v. e • v) c.is ∙ sym (combine_scale M e c.coefficient b))).0 h in
      (reduced.degrees m z c.denominator c.coefficient c.nonzero c.is).1
      (λ i l.
      let w : degree k c.denominator +ℤ ((m +ℤ degree k e) -ℤ d i)
      ≡ degree k e +ℤ (degree k c.denominator +ℤ (m -ℤ d i)) = omega (arith, ints) in
      degree_cancel k (field_domain k.ring field) e (c.coefficient i) _ some
      (subst (DegreeAtMost k (e ⊗ c.coefficient i)) w (f i l)))

  pub sum_in : (m : ℤ) (y z : V) → N m y → N m z → N m (y ⊞ z)
  sum_in m y z y_in z_in =
      let a = reduced.coordinates y in
      let c = reduced.coordinates z in
      let domain = field_domain k.ring field in
      let f = (reduced.degrees m y a.denominator a.coefficient a.nonzero a.is).0 y_in in
      let g = (reduced.degrees m z c.denominator c.coefficient c.nonzero c.is).0 z_in in
      (reduced.degrees m (y ⊞ z) (a.denominator ⊗ c.denominator)
      (λ i. c.denominator ⊗ a.coefficient i ⊕ a.denominator ⊗ c.coefficient i)
      (product_not_zero (polynomials k field) _ _ a.nonzero c.nonzero)
      (scale_both M a.denominator c.denominator y z ∙ ap₂ (λ u v. c.denominator • u ⊞ a.denominator • v) a.is c.is
      ∙ ap (λ v. c.denominator • combine M.ops a.coefficient b ⊞ v)
      (sym (combine_scale M a.denominator c.coefficient b))
      ∙ sym (combine_linear M c.denominator a.coefficient (λ i. a.denominator ⊗ c.coefficient i) b))).1
      (λ i l.
      let w = degree_multiply k domain a.denominator c.denominator a.nonzero c.nonzero in
      let e : degree k c.denominator +ℤ (degree k a.denominator +ℤ (m -ℤ d i))
      ≡ degree k (a.denominator ⊗ c.denominator) +ℤ (m -ℤ d i) = omega (arith, ints) in
      let e' : degree k a.denominator +ℤ (degree k c.denominator +ℤ (m -ℤ d i))
      ≡ degree k (a.denominator ⊗ c.denominator) +ℤ (m -ℤ d i) = omega (arith, ints) in
      degree_sum_in k domain _ _ (degree k (a.denominator ⊗ c.denominator) +ℤ (m -ℤ d i))
      (subst (DegreeAtMost k (c.denominator ⊗ a.coefficient i)) e
      (degree_product k domain _ _ _ _ (degree_own k domain c.denominator) (f i l)))
      (subst (DegreeAtMost k (a.denominator ⊗ c.coefficient i)) e'
      (degree_product k domain _ _ _ _ (degree_own k domain a.denominator) (g i l))))

  -- combinations of members
  pub combine_members : (m : ℤ) (p : ℕ → Pol k) (vs : List V) → ((i : ℕ) → i < length vs → N m (p i • entry 𝟬 vs i))
      → N m (combine M.ops p vs)
  combine_members m p [] h = zero_in m
  combine_members m p (v ∷ vs) h =
      sum_in m _ _ (h 0 (omega arith)) (combine_members m (λ i. p (suc i)) vs (λ i l. h (suc i) (omega arith)))

  -- the families rise with m
  pub rising : (m l : ℤ) (z : V) → m ≤ℤ l → N m z → N l z
  rising m l z h z_in =
      let c = reduced.coordinates z in
      let f = (reduced.degrees m z c.denominator c.coefficient c.nonzero c.is).0 z_in in
      (reduced.degrees l z c.denominator c.coefficient c.nonzero c.is).1
      (λ i b. degree_weaker k (field_domain k.ring field) (c.coefficient i) _ _ (let u = h in omega (arith, ints))
      (f i b))
