-- Where O modulo p is a finite algebra, its primitive idempotents give a prime system at p.
use Rattle.std.proofs.Common.{◌≡◌, ◌↔◌, ◌⊎◌, inl, inr, ℕ, zero, suc, List, [], ◌∷◌, refl, sym, ◌∙◌, ap, ap₂, subst}
use Rattle.ring_lemmas.specs.Ring.{CommRing, pow}
use Rattle.ring_lemmas.specs.Sums.{sum_over}
use Rattle.ring_theory.specs.Subsets.{IsSubring}
use Rattle.ring_lemmas.proofs.Ring.{mul_zero, add_cancel_left, sub_of_eq}
use Rattle.ring_theory.proofs.Local.{power_in}
use Rattle.ring_theory.specs.Members.{In}
use Rattle.prime_theory.specs.Ideals.{Multiple}
use Rattle.prime_theory.specs.Orders.{Radical}
use Rattle.prime_theory.specs.Systems.{IsDecomposition, IsSystem, PrimeAt}
use Rattle.prime_theory.proofs.Idempotents.{idempotent_system}
use Rattle.finite_algebra_theory.specs.Algebra.{FiniteAlgebra, IsPrimitive, IsNilpotent, IsInvertibleAt}
use Rattle.finite_algebra_theory.specs.Maximal.{NilpotentAt}
use Rattle.finite_algebra_theory.proofs.Frobenius.{idempotent_power}
use Rattle.finite_algebra_theory.proofs.Maximal.{nilpotent_or_invertible}
use Rattle.finite_algebra_theory.proofs.Existence.{primitives}
use Rattle.ring_lemmas.proofs.Solver.{ring, reads, from_two}
use Rattle.places_theory.specs.Reductions.{IsReduction, Primitive}

-- two primitive idempotents are equal or have product 0
pub primitive_pair : {B : Type 0} (Q : CommRing B) (e f : B) → IsPrimitive Q.ops e → IsPrimitive Q.ops f
    → (e ≡ f) ⊎ (Q.◌⊗◌ e f ≡ Q.𝟘)
primitive_pair Q e f p r = go (p.least (Q.◌⊗◌ f e) (idem p.idempotent r.idempotent)
    (Q.mul_assoc f e e ∙ ap (Q.◌⊗◌ f) p.idempotent))
    (r.least (Q.◌⊗◌ f e) (idem p.idempotent r.idempotent) (twice r.idempotent))
  where
    idem : Q.◌⊗◌ e e ≡ e → Q.◌⊗◌ f f ≡ f → Q.◌⊗◌ (Q.◌⊗◌ f e) (Q.◌⊗◌ f e) ≡ Q.◌⊗◌ f e
    idem h k = from_two Q (Q.◌⊗◌ f f) e h k (ring Q (e ∷ f ∷ []) λ q i. simp (reads, q, i 0, i 1) (q.equal _ _ refl))

    twice : Q.◌⊗◌ f f ≡ f → Q.◌⊗◌ (Q.◌⊗◌ f e) f ≡ Q.◌⊗◌ f e
    twice k = Q.mul_comm (Q.◌⊗◌ f e) f ∙ sym (Q.mul_assoc f f e) ∙ ap (λ x. Q.◌⊗◌ x e) k

    go : (Q.◌⊗◌ f e ≡ Q.𝟘) ⊎ (Q.◌⊗◌ f e ≡ e) → (Q.◌⊗◌ f e ≡ Q.𝟘) ⊎ (Q.◌⊗◌ f e ≡ f) → (e ≡ f) ⊎ (Q.◌⊗◌ e f ≡ Q.𝟘)
    go (inl z) t = inr (Q.mul_comm e f ∙ z)
    go (inr s) (inl z) = inr (Q.mul_comm e f ∙ z)
    go (inr s) (inr t) = inl (sym s ∙ t)

module _ {A B : Type 0} (R : CommRing A) (O : A → Type 0) (𝓞 : IsSubring R.ops O) (p : A)
    (Q : CommRing B) (reduce : A → B) (lift : B → A) (red : IsReduction R.ops O p Q.ops reduce lift) where
  infixl 65 ◌⊕◌
  infixl 70 ◌⊗◌
  infixr 80 ⊖◌
  open R use {𝟘, 𝟙, ◌⊕◌, ◌⊗◌, ⊖◌}

  reduce_zero : reduce 𝟘 ≡ Q.𝟘
  reduce_zero =
      add_cancel_left Q (reduce 𝟘) (reduce 𝟘) Q.𝟘
      (sym (red.add 𝟘 𝟘 𝓞.zero_in 𝓞.zero_in) ∙ ap reduce (R.add_zero 𝟘) ∙ sym (Q.add_zero (reduce 𝟘)))

  reduce_neg : (a : A) → O a → reduce (⊖ a) ≡ Q.⊖◌ (reduce a)
  reduce_neg a h =
      add_cancel_left Q (reduce a) (reduce (⊖ a)) (Q.⊖◌ (reduce a))
      (sym (red.add a (⊖ a) h (𝓞.neg_in a h)) ∙ ap reduce (R.add_neg a) ∙ reduce_zero ∙ sym (Q.add_neg (reduce a)))

  reduce_less : (a c : A) → O a → O c → reduce (a ⊕ ⊖ c) ≡ Q.◌⊕◌ (reduce a) (Q.⊖◌ (reduce c))
  reduce_less a c h i = red.add a (⊖ c) h (𝓞.neg_in c i) ∙ ap (Q.◌⊕◌ (reduce a)) (reduce_neg c i)

  reduce_power : (a : A) → O a → (n : ℕ) → reduce (pow R.ops a n) ≡ pow Q.ops (reduce a) n
  reduce_power a h zero = red.one
  reduce_power a h (suc n) =
      red.mul a (pow R.ops a n) h (power_in R O 𝓞 a h n) ∙ ap (Q.◌⊗◌ (reduce a)) (reduce_power a h n)

  -- members of O that reduce to the same differ by a multiple of p
  same : (a c : A) → O a → O c → reduce a ≡ reduce c → Multiple R.ops p O (a ⊕ ⊖ c)
  same a c h i e = (red.kernel (a ⊕ ⊖ c) (𝓞.sum_in _ _ h (𝓞.neg_in c i))).0
      (reduce_less a c h i ∙ sub_of_eq Q (reduce a) (reduce c) e)

  abbrev pub lifted : Primitive Q.ops → A
  lifted i = lift i.0

  reduce_sum : (xs : List (Primitive Q.ops))
      → O (sum_over R.ops xs lifted) × (reduce (sum_over R.ops xs lifted) ≡ sum_over Q.ops xs (λ i. i.0))
  reduce_sum [] = (𝓞.zero_in, reduce_zero)
  reduce_sum (i ∷ xs) =
      let r = reduce_sum xs in (
        𝓞.sum_in _ _ (red.lift_in i.0) r.0,
        red.add _ _ (red.lift_in i.0) r.0 ∙ ap₂ Q.◌⊕◌ (red.reduce_lift i.0) r.1,
      )

  -- the radical modulo p, and the prime of an idempotent, are what reduces to nilpotent elements
  reduced_nilpotent : (a : A) → Radical R.ops O p a → IsNilpotent Q.ops (reduce a)
  reduced_nilpotent a h = (
    suc h.nilpotent.exponent,
    sym (reduce_power a h.within (suc h.nilpotent.exponent))
        ∙ (red.kernel _ (power_in R O 𝓞 a h.within (suc h.nilpotent.exponent))).1 h.nilpotent.power_in,
  )

  of_nilpotent : (a : A) → O a → IsNilpotent Q.ops (reduce a) → Radical R.ops O p a
  of_nilpotent a h n = record {
    within = h;
    nilpotent = record {
      exponent = n.0;
      power_in =
          (red.kernel (pow R.ops a (suc n.0)) (power_in R O 𝓞 a h (suc n.0))).0
          (reduce_power a h (suc n.0) ∙ ap (Q.◌⊗◌ (reduce a)) n.1 ∙ mul_zero Q (reduce a));
    };
  }

  pub radical_iff : (a : A) → Radical R.ops O p a ↔ (O a × IsNilpotent Q.ops (reduce a))
  radical_iff a = (λ h. (h.within, reduced_nilpotent a h), λ h. of_nilpotent a h.0 h.1)

  pub prime_iff : (i : Primitive Q.ops) (z : A)
      → PrimeAt R.ops O p (lifted i) z ↔ (O z × NilpotentAt Q.ops i.0 (reduce z))
  prime_iff i z = (
    λ h. (h.within, subst (IsNilpotent Q.ops) (at h.within) (reduced_nilpotent (z ⊗ lift i.0) h.nilpotent)),
    λ h. record {
      within = h.0;
      nilpotent = of_nilpotent (z ⊗ lift i.0) (𝓞.product_in _ _ h.0 (red.lift_in i.0))
          (subst (IsNilpotent Q.ops) (sym (at h.0)) h.1);
    },
  )
    where
      at : O z → reduce (z ⊗ lift i.0) ≡ Q.◌⊗◌ (reduce z) i.0
      at h = red.mul z (lift i.0) h (red.lift_in i.0) ∙ ap (Q.◌⊗◌ (reduce z)) (red.reduce_lift i.0)

  module _ (K : B → Type 0) (𝓐 : FiniteAlgebra Q.ops K) (is : List (Primitive Q.ops))
      (one : sum_over Q.ops is (λ i. i.0) ≡ Q.𝟙) where
    reduce_at : (z : A) → O z → (i : Primitive Q.ops) → reduce (z ⊗ lift i.0) ≡ Q.◌⊗◌ (reduce z) i.0
    reduce_at z h i = red.mul z (lift i.0) h (red.lift_in i.0) ∙ ap (Q.◌⊗◌ (reduce z)) (red.reduce_lift i.0)

    pub decomposition : IsDecomposition R.ops O p (Primitive Q.ops) lifted is
    decomposition = record {
      within = λ i. red.lift_in i.0;
      idempotent = λ i.
          same (lift i.0 ⊗ lift i.0) (lift i.0) (𝓞.product_in _ _ (red.lift_in i.0) (red.lift_in i.0)) (red.lift_in i.0)
          (reduce_at (lift i.0) (red.lift_in i.0) i ∙ ap (λ x. Q.◌⊗◌ x i.0) (red.reduce_lift i.0) ∙ i.1.idempotent
          ∙ sym (red.reduce_lift i.0));
      orthogonal = λ i j. apart i j (primitive_pair Q i.0 j.0 i.1 j.1);
      sum_one =
          same 𝟙 (sum_over R.ops is lifted) 𝓞.one_in (reduce_sum is).0 (red.one ∙ sym one ∙ sym (reduce_sum is).1);
      not_nilpotent = λ i h.
          i.1.nonzero (sym (idempotent_power Q K 𝓐 i.0 h.nilpotent.exponent i.1.idempotent)
          ∙ ap (λ x. pow Q.ops x (suc h.nilpotent.exponent)) (sym (red.reduce_lift i.0))
          ∙ sym (reduce_power (lift i.0) (red.lift_in i.0) (suc h.nilpotent.exponent))
          ∙ (red.kernel _ (power_in R O 𝓞 (lift i.0) (red.lift_in i.0) (suc h.nilpotent.exponent))).1
          h.nilpotent.power_in);
      locality = λ i z z_in. local i z z_in (nilpotent_or_invertible Q K 𝓐 i.0 i.1 (reduce z));
    }
      where
        apart : (i j : Primitive Q.ops) → (i.0 ≡ j.0) ⊎ (Q.◌⊗◌ i.0 j.0 ≡ Q.𝟘)
            → (lift i.0 ≡ lift j.0) ⊎ Multiple R.ops p O (lift i.0 ⊗ lift j.0)
        apart i j (inl e) = inl (ap lift e)
        apart i j (inr z) =
            inr ((red.kernel _ (𝓞.product_in _ _ (red.lift_in i.0) (red.lift_in j.0))).0
            (reduce_at (lift i.0) (red.lift_in i.0) j ∙ ap (λ x. Q.◌⊗◌ x j.0) (red.reduce_lift i.0) ∙ z))

        turn : (a b c : B) → Q.◌⊗◌ b (Q.◌⊗◌ a c) ≡ Q.◌⊗◌ (Q.◌⊗◌ a b) c
        turn a b c = ring Q (a ∷ b ∷ c ∷ []) λ q i. simp (reads, q, i 0, i 1, i 2) (q.equal _ _ refl)

        local : (i : Primitive Q.ops) (z : A) → O z
            → NilpotentAt Q.ops i.0 (reduce z) ⊎ IsInvertibleAt Q.ops i.0 (reduce z)
            → Radical R.ops O p (z ⊗ lift i.0) ⊎ ((c : A) × O c × Multiple R.ops p O (c ⊗ (z ⊗ lift i.0) ⊕ ⊖ lift i.0))
        local i z z_in (inl n) =
            inl (of_nilpotent (z ⊗ lift i.0) (𝓞.product_in _ _ z_in (red.lift_in i.0))
            (subst (IsNilpotent Q.ops) (sym (reduce_at z z_in i)) n))
        local i z z_in (inr u) =
            let c = lift u.0 in
            let c_in = red.lift_in u.0 in
            let w_in = 𝓞.product_in _ _ z_in (red.lift_in i.0) in
            inr (
              c,
              c_in,
              same (c ⊗ (z ⊗ lift i.0)) (lift i.0) (𝓞.product_in _ _ c_in w_in) (red.lift_in i.0)
                  (red.mul c _ c_in w_in ∙ ap₂ Q.◌⊗◌ (red.reduce_lift u.0) (reduce_at z z_in i)
                  ∙ turn (reduce z) u.0 i.0 ∙ u.1 ∙ sym (red.reduce_lift i.0)),
            )

  -- the list of the primitive idempotents, each with the proof that it is one
  attach : (xs : List B) → ((x : B) → In x xs → IsPrimitive Q.ops x) → List (Primitive Q.ops)
  attach [] f = []
  attach (x ∷ xs) f = (x, f x (inl refl)) ∷ attach xs (λ y i. f y (inr i))

  attach_sum : (xs : List B) (f : (x : B) → In x xs → IsPrimitive Q.ops x)
      → sum_over Q.ops (attach xs f) (λ i. i.0) ≡ sum_over Q.ops xs (λ e. e)
  unfolding attach
  attach_sum [] f = refl
  attach_sum (x ∷ xs) f = ap (Q.◌⊕◌ x) (attach_sum xs (λ y i. f y (inr i)))

  -- O has a prime system at p
  pub prime_system : O p → (K : B → Type 0) → FiniteAlgebra Q.ops K
      → (is : List (Primitive Q.ops)) × IsDecomposition R.ops O p (Primitive Q.ops) lifted is
      × IsSystem R.ops O p (Primitive Q.ops) (λ i. PrimeAt R.ops O p (lifted i)) is
  prime_system p_in K 𝓐 =
      let es = primitives Q K 𝓐 in
      let is = attach es.0 (λ x i. (es.1 x).1 i) in
      let dec = decomposition K 𝓐 is (attach_sum es.0 (λ x i. (es.1 x).1 i) ∙ es.3) in
      (is, dec, idempotent_system R O 𝓞 p p_in (Primitive Q.ops) lifted is dec)
