-- Prime systems at p: powers of one prime, the factorisation of p and of ideals that p is nilpotent in, approximation.
use Rattle.prime_theory.proofs.Lists.{both, everywhere, pairs_head, pairs_tail}
use Rattle.std.proofs.Common.{◌≡◌, ◌↔◌, ◌⊎◌, inl, inr, ℕ, zero, suc, ◌+◌, List, [], ◌∷◌, refl, sym, ◌∙◌, ap, ap₂, subst, arith, zero-add, All, add-zero}
use Rattle.std.proofs.lemmas.List.Elements.{All-nil, All-cons, All-head, All-tail, All-weaker}
use Rattle.ring_lemmas.specs.Ring.{CommRing, pow}
use Rattle.ring_theory.specs.Subsets.{IsSubring, IsModule, Product, Colon}
use Rattle.ring_lemmas.proofs.Ring.{one_mul, mul_left_comm, pow_add, pow_one_base}
use Rattle.ring_theory.proofs.Subsets.{product_member}
use Rattle.ring_lemmas.proofs.Solver.{ring, reads, from_one}
use Rattle.prime_theory.specs.Ideals.{SameSet, Inverse, Power, Multiple}
use Rattle.prime_theory.specs.Primes.{Different, AtLeast, Exactly}
use Rattle.prime_theory.specs.Systems.{IdealPower, IdealProduct, PrimeExponent, IsFamily, IsSystem, AreDistinctPrimes, counted}
use Rattle.prime_theory.proofs.Products.{product_into, own_module, additive_of_module, power_member, power_module}
use Rattle.prime_theory.proofs.Primes.{ideal_module, one_outside, one_in_inverse, inverse_module, different_symmetric}
use Rattle.prime_theory.proofs.Valuation.{theta_left, ge_of_member, ge_quotient, ge_reindex, ge_of_eq}
use Rattle.prime_theory.proofs.AtPrime.{at_of, value_of_at, inverse_product, ideal_power_module, product_exchange}
use Rattle.prime_theory.proofs.PrimeProducts.{up_at, down_at, ideal_product_module, value_of_ideal_product, value_same}
use Rattle.prime_theory.proofs.Systems.{conditions, exponent_of_p}

module _ {A : Type 0} (R : CommRing A) (O : A → Type 0) (𝓞 : IsSubring R.ops O) (p : A) (p_in : O p)
    (I : Type 0) (P : I → A → Type 0) (fam : IsFamily R.ops O I P) where
  infixl 65 ◌⊕◌
  infixl 70 ◌⊗◌
  infixr 80 ⊖◌
  open R use {𝟘, 𝟙, ◌⊕◌, ◌⊗◌, ⊖◌}

  abbrev tau : I → A
  tau i = (fam.pair i).tau

  abbrev gamma : I → A
  gamma i = (fam.pair i).gamma

  abbrev Ge : I → A → ℕ → ℕ → Type 0
  Ge i z a b = AtLeast R.ops O (P i) (tau i) (gamma i) z a b

  abbrev Eq : I → A → ℕ → ℕ → Type 0
  Eq i z a b = Exactly R.ops O (P i) (tau i) (gamma i) z a b

  abbrev Up : I → List (PrimeExponent I) → ℕ
  Up = up_at R O 𝓞 I P fam

  abbrev Down : I → List (PrimeExponent I) → ℕ
  Down = down_at R O 𝓞 I P fam

  abbrev Prod : List (PrimeExponent I) → A → Type 0
  Prod l = IdealProduct R.ops O P l

  abbrev Q : I → A → Type 0
  Q i = Inverse R.ops O (P i)

  𝓟m : (i : I) → IsModule R.ops O (P i)
  𝓟m i = ideal_module R O 𝓞 (P i) (fam.prime i).ideal

  𝓠m : (i : I) → IsModule R.ops O (Q i)
  𝓠m i = inverse_module R O 𝓞 (P i) (fam.prime i)

  times_one : (M : A → Type 0) → IsModule R.ops O M → (z : A) → Product R.ops M O z → M z
  times_one M 𝓜 =
      product_into R M O M (additive_of_module R O M 𝓜) (λ a b m n. subst M (R.mul_comm b a) (𝓜.scale_in b a n m))

  -- the n-th powers of P and of its inverse have their product in O
  pub powers_cancel : (i : I) (n : ℕ) (z : A) → Product R.ops (Power R.ops O (P i) n) (Power R.ops O (Q i) n) z → O z
  powers_cancel i zero z h = times_one O (own_module R O 𝓞) z h
  powers_cancel i (suc n) z h =
      product_into R (Product R.ops (P i) (Q i)) (Product R.ops (Power R.ops O (P i) n) (Power R.ops O (Q i) n)) O
      (additive_of_module R O O (own_module R O 𝓞))
      (λ a b j k. 𝓞.product_in _ _ ((inverse_product R O 𝓞 (P i) (fam.prime i) (fam.pair i) a).0 j)
      (powers_cancel i n b k))
      z
      (product_exchange R O 𝓞 (P i) (Power R.ops O (P i) n) (Q i) (Power R.ops O (Q i) n)
      (𝓟m i) (power_module R O 𝓞 (P i) (𝓟m i) n) (𝓠m i) z h)

  module _ (f g : I → ℕ) where
    -- each prime of a list with the exponent f - g
    unfoldable pub entries : List I → List (PrimeExponent I)
    entries [] = []
    entries (i ∷ is) = record { index = i; up = f i; down = g i } ∷ entries is

    counted_self : (i : I) (n : ℕ) (c : SameSet (P i) (P i) ⊎ Different (P i) (P i)) → counted n c ≡ n
    counted_self i n (inl s) = refl
    counted_self i n (inr d) = absurd (d.first_out d.first_in)

    counted_other : (i j : I) (n : ℕ) → Different (P i) (P j) → (c : SameSet (P i) (P j) ⊎ Different (P i) (P j))
        → counted n c ≡ 0
    counted_other i j n d (inl s) = absurd (d.first_out ((s d.first).0 d.first_in))
    counted_other i j n d (inr e) = refl

    absent : (i : I) (js : List I) → All (λ j. Different (P j) (P i)) js → (Up i (entries js) ≡ 0)
        × (Down i (entries js) ≡ 0)
    unfolding entries
    absent i [] h = (refl, refl)
    absent i (j ∷ js) h =
        let ih = absent i js (All-tail (λ j. Different (P j) (P i)) j js h) in
        let d = All-head (λ j. Different (P j) (P i)) j js h in
        let e = counted_other j i (f j) d (fam.compare j i) in
        let e' = counted_other j i (g j) d (fam.compare j i) in
        (ap₂ ◌+◌ e ih.0, ap₂ ◌+◌ e' ih.1)

    abbrev Apart : I → I → Type 0
    Apart i j = Different (P i) (P j)

    totals : (is : List I) → AreDistinctPrimes P is
        → All (λ i. (Up i (entries is) ≡ f i) × (Down i (entries is) ≡ g i)) is
    unfolding entries
    totals [] h = All-nil (λ i. (Up i (entries []) ≡ f i) × (Down i (entries []) ≡ g i))
    totals (i ∷ is) h =
        let T : I → Type 0 = λ j. (Up j (entries (i ∷ is)) ≡ f j) × (Down j (entries (i ∷ is)) ≡ g j) in
        let rest = absent i is (All-weaker (λ j. Different (P i) (P j)) (λ j. Different (P j) (P i))
        (λ j. different_symmetric (P i) (P j)) is (pairs_head Apart i is h)) in
        All-cons T i is (
          ap₂ ◌+◌ (counted_self i (f i) (fam.compare i i)) rest.0 ∙ add-zero (f i),
          ap₂ ◌+◌ (counted_self i (g i) (fam.compare i i)) rest.1 ∙ add-zero (g i),
        )
        (All-weaker (λ j. Different (P i) (P j) × ((Up j (entries is) ≡ f j) × (Down j (entries is) ≡ g j))) T
        (λ j k. (
          ap₂ ◌+◌ (counted_other i j (f i) k.0 (fam.compare i j)) k.1.0 ∙ zero-add (f j),
          ap₂ ◌+◌ (counted_other i j (g i) k.0 (fam.compare i j)) k.1.1 ∙ zero-add (g j),
        ))
        is (both (λ j. Different (P i) (P j)) (λ j. (Up j (entries is) ≡ f j) × (Down j (entries is) ≡ g j)) is
        (pairs_head Apart i is h) (totals is (pairs_tail Apart i is h))))

    -- a power of p is in the product, and takes the product into O
    pub power_in_product : (is : List I) → All (λ i. P i p) is → (n : ℕ) × Prod (entries is) (pow R.ops p n)
    unfolding entries
    power_in_product [] h = (0, 𝓞.one_in)
    power_in_product (i ∷ is) h =
        let r = power_in_product is (All-tail (λ i. P i p) i is h) in
        let a = power_member R O 𝓞 (P i) (𝓟m i) p (All-head (λ i. P i p) i is h) (f i) in
        let b = power_member R O 𝓞 (Q i) (𝓠m i) 𝟙 (one_in_inverse R O 𝓞 (P i) (fam.prime i)) (g i) in
        let c : IdealPower R.ops O (P i) (f i) (g i) (pow R.ops p (f i))
        = subst (IdealPower R.ops O (P i) (f i) (g i))
        (ap (λ x. pow R.ops p (f i) ⊗ x) (pow_one_base R (g i)) ∙ R.mul_one _)
        (product_member R O 𝓞 _ _ _ _ a b) in
        (f i + r.0, subst (Prod (entries (i ∷ is))) (sym (pow_add R p (f i) r.0)) (product_member R O 𝓞 _ _ _ _ c r.1))

    pub product_bounded : (is : List I) → All (λ i. P i p) is → (n : ℕ)
        × ((z : A) → Prod (entries is) z → O (pow R.ops p n ⊗ z))
    unfolding entries
    product_bounded [] h = (0, λ z m. subst O (sym (one_mul R z)) m)
    product_bounded (i ∷ is) h =
        let r = product_bounded is (All-tail (λ i. P i p) i is h) in
        let h' = All-head (λ i. P i p) i is h in
        let split : (x y a b : A) → (a ⊗ x) ⊗ (b ⊗ y) ≡ (a ⊗ b) ⊗ (x ⊗ y)
        = λ x y a b. ring R (x ∷ y ∷ a ∷ b ∷ []) λ q k. simp (reads, q, k 0, k 1, k 2, k 3) (q.equal _ _ refl) in (
          g i + r.0,
          λ z.
              product_into_multiple (g i + r.0) (IdealPower R.ops O (P i) (f i) (g i)) (Prod (entries is))
              (λ x y m n.
              subst O (split x y (pow R.ops p (g i)) (pow R.ops p r.0)
              ∙ ap (λ c. c ⊗ (x ⊗ y)) (sym (pow_add R p (g i) r.0)))
              (𝓞.product_in _ _ (head i h' (f i) (g i) x m) (r.1 y n)))
              z,
        )
      where
        product_into_multiple : (n : ℕ) (M N : A → Type 0) → ((x y : A) → M x → N y → O (pow R.ops p n ⊗ (x ⊗ y)))
            → (z : A) → Product R.ops M N z → O (pow R.ops p n ⊗ z)
        product_into_multiple n M N k z m =
            Rattle.prime_theory.proofs.Products.product_universal R M N O
            (additive_of_module R O O (own_module R O 𝓞)) (pow R.ops p n) k z m

        head : (i : I) → P i p → (a b : ℕ) (x : A) → IdealPower R.ops O (P i) a b x → O (pow R.ops p b ⊗ x)
        head i h' a b x m =
            product_into_multiple b (Power R.ops O (P i) a) (Power R.ops O (Q i) b)
            (λ u v j k.
            subst O (mul_left_comm R _ _ _)
            (𝓞.product_in _ _ (Rattle.prime_theory.proofs.PrimeProducts.power_within R O 𝓞 (P i) (fam.prime i).ideal
            a u j)
            (Rattle.prime_theory.proofs.Products.power_cancel R O 𝓞 (Q i) p
            (λ c n. subst O (R.mul_comm _ _) (n p h')) b v k)))
            x m

    pub values_of_entries : (is : List I) → AreDistinctPrimes P is → (z : A) → Prod (entries is) z
        → All (λ i. Ge i z (f i) (g i)) is
    values_of_entries is d z m =
        All-weaker (λ i. (Up i (entries is) ≡ f i) × (Down i (entries is) ≡ g i)) (λ i. Ge i z (f i) (g i))
        (λ i k. subst (λ n. Ge i z n (g i)) k.0 (subst (λ n. Ge i z (Up i (entries is)) n) k.1
        (value_of_ideal_product R O 𝓞 I P fam i (entries is) z m)))
        is (totals is d)

    pub conditions_entries : (is : List I) → IsSystem R.ops O p I P is → AreDistinctPrimes P is → (z : A) (n : ℕ)
        → All (λ i. Ge i z (f i) (g i)) is → Prod (entries is) (pow R.ops p n ⊗ z) → Prod (entries is) z
    conditions_entries is sys d z n h m =
        subst (Prod (entries is)) (one_mul R z)
        (conditions R O 𝓞 p p_in I P fam is sys (entries is) z 𝟙 n
        (All-weaker (λ i. Ge i z (f i) (g i) × ((Up i (entries is) ≡ f i) × (Down i (entries is) ≡ g i)))
        (λ i. Ge i z (Up i (entries is)) (Down i (entries is)))
        (λ i k. subst (λ n. Ge i z n (Down i (entries is))) (sym k.1.0) (subst (λ n. Ge i z (f i) n) (sym k.1.1) k.0))
        is (both (λ i. Ge i z (f i) (g i)) (λ i. (Up i (entries is) ≡ f i) × (Down i (entries is) ≡ g i)) is h
        (totals is d)))
        𝓞.one_in
        (subst (Prod (entries is)) (ap (λ x. x ⊗ z) (sym (R.mul_one _))) m))

  module _ (is : List I) (sys : IsSystem R.ops O p I P is) where
    -- for members of O: the m-th power of P is the value at least m
    pub power_of_value : (i : I) → P i p → (m : ℕ) (z : A) → O z → Ge i z m 0 → Power R.ops O (P i) m z
    power_of_value i h m z z_in k =
        times_one (Power R.ops O (P i) m) (power_module R O 𝓞 (P i) (𝓟m i) m) z
        (times_one (IdealPower R.ops O (P i) m 0) (ideal_power_module R O 𝓞 (P i) (fam.prime i) (fam.pair i) m 0) z
        (subst (Prod l) (one_mul R z)
        (conditions R O 𝓞 p p_in I P fam is sys l z 𝟙 m
        (everywhere (λ j. Ge j z (Up j l) (Down j l)) (λ j. at j (fam.compare i j)) is)
        𝓞.one_in
        (product_member R O 𝓞 (IdealPower R.ops O (P i) m 0) O _ _
        (product_member R O 𝓞 (Power R.ops O (P i) m) O _ _ (power_member R O 𝓞 (P i) (𝓟m i) p h m) 𝓞.one_in)
        z_in))))
      where
        l : List (PrimeExponent I)
        l = record { index = i; up = m; down = 0 } ∷ []

        at : (j : I) (c : SameSet (P i) (P j) ⊎ Different (P i) (P j)) → Ge j z (counted m c + 0) (counted 0 c + 0)
        at j (inl s) =
            ge_reindex R O 𝓞 (P j) (fam.prime j) (fam.pair j) z m 0 (m + 0) (0 + 0) (omega arith)
            (value_same R O 𝓞 (P i) (P j) (fam.prime i) (fam.prime j) (fam.pair i) (fam.pair j) s z m 0 k)
        at j (inr d) = ge_of_member R O 𝓞 (P j) (fam.prime j) (fam.pair j) z z_in

    pub value_of_power : (i : I) (m : ℕ) (z : A) → Power R.ops O (P i) m z → Ge i z m 0
    value_of_power i m z h =
        value_of_at R O 𝓞 (P i) (fam.prime i) (fam.pair i) z m 0
        (at_of R O 𝓞 (P i) (fam.prime i) (IdealPower R.ops O (P i) m 0) z
        (subst (IdealPower R.ops O (P i) m 0) (R.mul_one z)
        (product_member R O 𝓞 (Power R.ops O (P i) m) O z 𝟙 h 𝓞.one_in)))

    -- the m-th power of P by the m-th power of its inverse
    pub power_iff_colon : (i : I) → P i p → (m : ℕ) (z : A) → Power R.ops O (P i) m z
        ↔ Colon R.ops O (Power R.ops O (Q i) m) z
    power_iff_colon i h m z = (
      λ k y n. powers_cancel i m _ (product_member R O 𝓞 (Power R.ops O (P i) m) (Power R.ops O (Q i) m) z y k n),
      λ k.
          let one : Power R.ops O (Q i) m 𝟙
          = subst (Power R.ops O (Q i) m) (pow_one_base R m)
          (power_member R O 𝓞 (Q i) (𝓠m i) 𝟙 (one_in_inverse R O 𝓞 (P i) (fam.prime i)) m) in
          let gam : Power R.ops O (Q i) m (pow R.ops (gamma i) m)
          = power_member R O 𝓞 (Q i) (𝓠m i) (gamma i) (fam.pair i).gamma_in m in
          let v : Ge i z m 0 = record {
            unit = 𝟙;
            unit_out = one_outside R O 𝓞 (P i) (fam.prime i);
            inside = subst O (sym (ap₂ ◌⊗◌ (one_mul R z) (theta_left R (tau i) (gamma i) m))) (k _ gam);
          } in
          power_of_value i h m z (subst O (R.mul_one z) (k 𝟙 one)) v,
    )

    -- the value of p, as a function of the prime
    pub ramification : I → ℕ
    ramification i = (exponent_of_p R O 𝓞 p p_in I P fam is sys i).0

    pub value_of_p_at : (i : I) → Eq i p (ramification i) 0
    unfolding ramification
    value_of_p_at i = (exponent_of_p R O 𝓞 p p_in I P fam is sys i).1

    -- p·O is the product of the powers of the primes with the values of p, where p has an inverse
    pub factor_p : (q : A) → q ⊗ p ≡ 𝟙 → AreDistinctPrimes P is → (z : A)
        → Multiple R.ops p O z ↔ Prod (entries ramification (λ i. 0) is) z
    factor_p q e d z =
        let E = ramification in
        let l = entries E (λ i. 0) is in
        let 𝓜 = ideal_product_module R O 𝓞 I P fam l in
        let start = power_in_product E (λ i. 0) is sys.over in
        let p_member : Prod l p
        = conditions_entries E (λ i. 0) is sys d p start.0
        (everywhere (λ i. Ge i p (E i) 0)
        (λ i. ge_of_eq R O 𝓞 (P i) (fam.prime i) (fam.pair i) p (E i) 0 (value_of_p_at i)) is)
        (subst (Prod l) (R.mul_comm p _) (𝓜.scale_in p _ p_in start.1)) in
        let bounded = product_bounded E (λ i. 0) is sys.over in
        let pq : (y : A) → p ⊗ (q ⊗ y) ≡ y
        = λ y. from_one R y e (ring R (p ∷ q ∷ y ∷ []) λ q k. simp (reads, q, k 0, k 1, k 2) (q.equal _ _ refl)) in (
          λ h. subst (Prod l) (R.mul_comm _ _ ∙ sym h.is) (𝓜.scale_in _ p h.quotient_in p_member),
          λ h.
              let values = values_of_entries E (λ i. 0) is d z h in
              let at_all : All (λ i. Ge i (q ⊗ z) 0 0) is
              = All-weaker (λ i. Ge i z (E i) 0) (λ i. Ge i (q ⊗ z) 0 0)
              (λ i k.
              ge_reindex R O 𝓞 (P i) (fam.prime i) (fam.pair i) (q ⊗ z) (E i + 0) (0 + E i) 0 0 (omega arith)
              (ge_quotient R O 𝓞 (P i) (fam.prime i) (fam.pair i) p (q ⊗ z) (E i) 0 (E i) 0 (value_of_p_at i)
              (subst (λ y. Ge i y (E i) 0) (sym (pq z)) k)))
              is values in
              let n = bounded.0 in
              let inside : O (pow R.ops p (suc n) ⊗ 𝟙 ⊗ (q ⊗ z))
              = subst O
              (sym (ap (λ x. x ⊗ (q ⊗ z)) (R.mul_one _ ∙ R.mul_comm _ _) ∙ R.mul_assoc _ _ _
              ∙ ap (λ x. pow R.ops p n ⊗ x) (pq z)))
              (bounded.1 z h) in
              record {
                quotient = q ⊗ z;
                quotient_in =
                    subst O (one_mul R _)
                    (conditions R O 𝓞 p p_in I P fam is sys [] (q ⊗ z) 𝟙 (suc n) at_all 𝓞.one_in inside);
                is = sym (pq z);
              },
        )
