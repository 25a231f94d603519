-- Valuations at a prime with a pair: the rules.
use Rattle.std.proofs.Common.{◌≡◌, ◌⊎◌, inl, inr, ℕ, zero, suc, ◌+◌, ◌*◌, ◌-◌, ◌≤◌, ◌<◌, [], ◌∷◌, refl, sym, ◌∙◌, ap, ap₂, subst, arith, zero-add, suc-add, add_comm, zero-mul}
use Rattle.ring_lemmas.specs.Ring.{CommRing, pow}
use Rattle.ring_theory.specs.Subsets.{IsSubring, IsModule}
use Rattle.ring_lemmas.proofs.Ring.{mul_zero, zero_mul, one_mul, mul_left_comm, pow_add, mul_pow, mul_mul}
use Rattle.ring_lemmas.proofs.Solver.{ring, reads, from_one}
use Rattle.prime_theory.specs.Primes.{IsPrime, Outside, Pair, theta, Valued, AtLeast, Exactly}
use Rattle.prime_theory.proofs.Primes.{outside_product, outside_power, outside_add, one_outside, in_prime}

pub le_or_lt : (m n : ℕ) → (m ≤ n) ⊎ (n < m)
le_or_lt m n = grind arith

module _ {A : Type 0} (R : CommRing A) (t g : A) where
  infixl 65 ◌⊕◌
  infixl 70 ◌⊗◌
  infixr 80 ⊖◌
  open R use {𝟘, 𝟙, ◌⊕◌, ◌⊗◌, ⊖◌}

  -- powers of gamma and tau
  pub theta_add : (a b c d : ℕ) → theta R.ops t g (a + c) (b + d) ≡ theta R.ops t g a b ⊗ theta R.ops t g c d
  unfolding theta
  theta_add a b c d = ap₂ ◌⊗◌ (pow_add R g a c) (pow_add R t b d) ∙ mul_mul R _ _ _ _

  pub theta_zero : theta R.ops t g 0 0 ≡ 𝟙
  unfolding theta
  theta_zero = R.mul_one 𝟙

  pub theta_up : (a b : ℕ) → theta R.ops t g (suc a) b ≡ g ⊗ theta R.ops t g a b
  unfolding theta
  theta_up a b = R.mul_assoc _ _ _

  pub theta_down : (a b : ℕ) → theta R.ops t g a (suc b) ≡ t ⊗ theta R.ops t g a b
  unfolding theta
  theta_down a b = mul_left_comm R _ _ _

  pub theta_both : (n : ℕ) → theta R.ops t g n n ≡ pow R.ops (t ⊗ g) n
  unfolding theta
  theta_both n = R.mul_comm _ _ ∙ sym (mul_pow R t g n)

  pub theta_cross : (a b : ℕ) → theta R.ops t g a b ⊗ theta R.ops t g b a ≡ pow R.ops (t ⊗ g) (a + b)
  theta_cross a b =
      sym (theta_add a b b a) ∙ ap (λ n. theta R.ops t g (a + b) n) (add_comm b a) ∙ theta_both (a + b)

  pub theta_right : (n : ℕ) → theta R.ops t g 0 n ≡ pow R.ops t n
  unfolding theta
  theta_right n = one_mul R _

  pub theta_left : (n : ℕ) → theta R.ops t g n 0 ≡ pow R.ops g n
  unfolding theta
  theta_left n = R.mul_one _

module _ {A : Type 0} (R : CommRing A) (O : A → Type 0) (𝓞 : IsSubring R.ops O)
    (P : A → Type 0) (𝓟 : IsPrime R.ops O P) (pair : Pair R.ops O P) where
  infixl 65 ◌⊕◌
  infixl 70 ◌⊗◌
  infixr 80 ⊖◌
  open R use {𝟘, 𝟙, ◌⊕◌, ◌⊗◌, ⊖◌}

  abbrev t : A
  t = pair.tau

  abbrev g : A
  g = pair.gamma

  abbrev th : ℕ → ℕ → A
  th a b = theta R.ops t g a b

  abbrev Ge : A → ℕ → ℕ → Type 0
  Ge = AtLeast R.ops O P t g

  abbrev Eq : A → ℕ → ℕ → Type 0
  Eq = Exactly R.ops O P t g

  tau_O : O t
  tau_O = 𝓟.ideal.within t pair.tau_in

  -- for a set X that is closed under products and has the elements outside P
  module _ (X : A → Type 0) (mul : (a b : A) → X a → X b → X (a ⊗ b)) (units : (u : A) → Outside O P u → X u) where
    abbrev V : A → ℕ → ℕ → Type 0
    V = Valued R.ops O P X t g

    -- both numbers one up, and back
    valued_up : (z : A) (a b : ℕ) → V z a b → V z (suc a) (suc b)
    valued_up z a b h = record {
      unit = h.unit;
      unit_out = h.unit_out;
      inside =
          let f : (x : A) → (t ⊗ g) ⊗ (h.unit ⊗ z ⊗ x) ≡ h.unit ⊗ z ⊗ (g ⊗ (t ⊗ x))
          = λ x. ring R (t ∷ g ∷ h.unit ∷ z ∷ x ∷ []) λ q i. simp (reads, q, i 0, i 1, i 2, i 3, i 4)
          (q.equal _ _ refl) in
          subst X
          (f (th a b) ∙ ap (λ x. h.unit ⊗ z ⊗ x)
          (ap (λ x. g ⊗ x) (sym (theta_down R t g a b)) ∙ sym (theta_up R t g a (suc b))))
          (mul _ _ (units _ pair.outside) h.inside);
    }

    valued_down : (z : A) (a b : ℕ) → V z (suc a) (suc b) → V z a b
    valued_down z a b h = record {
      unit = h.unit ⊗ (t ⊗ g);
      unit_out = outside_product R O 𝓞 P 𝓟 _ _ h.unit_out pair.outside;
      inside =
          let f : (x : A) → h.unit ⊗ z ⊗ (g ⊗ (t ⊗ x)) ≡ h.unit ⊗ (t ⊗ g) ⊗ z ⊗ x
          = λ x. ring R (t ∷ g ∷ h.unit ∷ z ∷ x ∷ []) λ q i. simp (reads, q, i 0, i 1, i 2, i 3, i 4)
          (q.equal _ _ refl) in
          subst X
          (ap (λ x. h.unit ⊗ z ⊗ x) (theta_up R t g a (suc b) ∙ ap (λ x. g ⊗ x) (theta_down R t g a b)) ∙ f (th a b))
          h.inside;
    }

    valued_up_by : (k : ℕ) (z : A) (a b : ℕ) → V z a b → V z (k + a) (k + b)
    valued_up_by zero z a b h = rw (zero-add a, zero-add b) h
    valued_up_by (suc k) z a b h = rw (suc-add k a, suc-add k b) (valued_up z (k + a) (k + b) (valued_up_by k z a b h))

    valued_down_by : (k : ℕ) (z : A) (a b : ℕ) → V z (k + a) (k + b) → V z a b
    valued_down_by zero z a b h = subst (λ n. V z n b) (zero-add a) (subst (λ n. V z (0 + a) n) (zero-add b) h)
    valued_down_by (suc k) z a b h =
        valued_down_by k z a b
        (valued_down z (k + a) (k + b)
        (subst (λ n. V z n (suc (k + b))) (suc-add k a) (subst (λ n. V z (suc k + a) n) (suc-add k b) h)))

    -- only the difference a - b counts
    pub reindex : (z : A) (a b c d : ℕ) → a + d ≡ c + b → V z a b → V z c d
    reindex z a b c d e h =
        let first : d + a ≡ b + c = omega arith in
        let second : d + b ≡ b + d = omega arith in
        valued_down_by b z c d
        (subst (λ n. V z n (b + d)) first (subst (λ n. V z (d + a) n) second (valued_up_by d z a b h)))

    -- products
    pub valued_product : (z w : A) (a b c d : ℕ) → V z a b → V w c d → V (z ⊗ w) (a + c) (b + d)
    valued_product z w a b c d h k = record {
      unit = h.unit ⊗ k.unit;
      unit_out = outside_product R O 𝓞 P 𝓟 _ _ h.unit_out k.unit_out;
      inside =
          let f : (x y : A) → (h.unit ⊗ z ⊗ x) ⊗ (k.unit ⊗ w ⊗ y) ≡ h.unit ⊗ k.unit ⊗ (z ⊗ w) ⊗ (x ⊗ y)
          = λ x y. ring R (h.unit ∷ k.unit ∷ z ∷ w ∷ x ∷ y ∷ []) λ q i.
          simp (reads, q, i 0, i 1, i 2, i 3, i 4, i 5) (q.equal _ _ refl) in
          subst X
          (f (th a b) (th c d) ∙ ap (λ x. h.unit ⊗ k.unit ⊗ (z ⊗ w) ⊗ x) (sym (theta_add R t g a b c d)))
          (mul _ _ h.inside k.inside);
    }

    pub valued_power : (z : A) (a b : ℕ) → V z a b → (n : ℕ) → V (pow R.ops z n) (n * a) (n * b)
    valued_power z a b h zero = rw (zero-mul a, zero-mul b) (record {
      unit = 𝟙;
      unit_out = one_outside R O 𝓞 P 𝓟;
      inside = subst X (sym (ap₂ ◌⊗◌ (R.mul_one 𝟙) (theta_zero R t g) ∙ R.mul_one 𝟙)) (units 𝟙 (one_outside R O 𝓞 P 𝓟));
    })
    valued_power z a b h (suc n) =
        subst (λ x. V (pow R.ops z (suc n)) x (suc n * b)) (step n a)
        (subst (λ x. V (pow R.ops z (suc n)) (a + n * a) x) (step n b)
        (valued_product z (pow R.ops z n) a b (n * a) (n * b) h (valued_power z a b h n)))
      where
        step : (n c : ℕ) → c + n * c ≡ suc n * c
        step n c = omega arith

    -- quotients
    pub valued_quotient : (d z : A) (a b a' b' : ℕ) → Eq d a' b' → V (d ⊗ z) a b → V z (a + b') (b + a')
    valued_quotient d z a b a' b' k h = record {
      unit = h.unit ⊗ (k.unit ⊗ d ⊗ th a' b');
      unit_out = outside_product R O 𝓞 P 𝓟 _ _ h.unit_out k.inside;
      inside =
          let f : (x y y' r : A) → y ⊗ y' ≡ r → k.unit ⊗ r ⊗ (h.unit ⊗ (d ⊗ z) ⊗ x)
          ≡ h.unit ⊗ (k.unit ⊗ d ⊗ y) ⊗ z ⊗ (x ⊗ y')
          = λ x y y' r e.
          from_one R (⊖ (k.unit ⊗ h.unit ⊗ d ⊗ z ⊗ x)) e
          (ring R (h.unit ∷ k.unit ∷ d ∷ z ∷ x ∷ y ∷ y' ∷ r ∷ []) λ q i.
          simp (reads, q, i 0, i 1, i 2, i 3, i 4, i 5, i 6, i 7) (q.equal _ _ refl)) in
          subst X
          (f (th a b) (th a' b') (th b' a') (pow R.ops (t ⊗ g) (a' + b')) (theta_cross R t g a' b')
          ∙ ap (λ x. h.unit ⊗ (k.unit ⊗ d ⊗ th a' b') ⊗ z ⊗ x) (sym (theta_add R t g a b b' a')))
          (mul _ _
          (units _ (outside_product R O 𝓞 P 𝓟 _ _ k.unit_out (outside_power R O 𝓞 P 𝓟 _ pair.outside (a' + b'))))
          h.inside);
    }

  abbrev eq_mul : (a b : A) → Outside O P a → Outside O P b → Outside O P (a ⊗ b)
  eq_mul = outside_product R O 𝓞 P 𝓟

  pub ge_reindex : (z : A) (a b c d : ℕ) → a + d ≡ c + b → Ge z a b → Ge z c d
  ge_reindex = reindex O 𝓞.product_in (λ u h. h.within)

  pub eq_reindex : (z : A) (a b c d : ℕ) → a + d ≡ c + b → Eq z a b → Eq z c d
  eq_reindex = reindex (Outside O P) eq_mul (λ u h. h)

  pub ge_product : (z w : A) (a b c d : ℕ) → Ge z a b → Ge w c d → Ge (z ⊗ w) (a + c) (b + d)
  ge_product = valued_product O 𝓞.product_in (λ u h. h.within)

  pub eq_product : (z w : A) (a b c d : ℕ) → Eq z a b → Eq w c d → Eq (z ⊗ w) (a + c) (b + d)
  eq_product = valued_product (Outside O P) eq_mul (λ u h. h)

  pub eq_power : (z : A) (a b : ℕ) → Eq z a b → (n : ℕ) → Eq (pow R.ops z n) (n * a) (n * b)
  eq_power = valued_power (Outside O P) eq_mul (λ u h. h)

  pub ge_quotient : (d z : A) (a b a' b' : ℕ) → Eq d a' b' → Ge (d ⊗ z) a b → Ge z (a + b') (b + a')
  ge_quotient = valued_quotient O 𝓞.product_in (λ u h. h.within)

  pub eq_quotient : (d z : A) (a b a' b' : ℕ) → Eq d a' b' → Eq (d ⊗ z) a b → Eq z (a + b') (b + a')
  eq_quotient = valued_quotient (Outside O P) eq_mul (λ u h. h)

  pub ge_of_eq : (z : A) (a b : ℕ) → Eq z a b → Ge z a b
  ge_of_eq z a b h = record { unit = h.unit; unit_out = h.unit_out; inside = h.inside.within }

  -- a smaller bound
  ge_lower : (z : A) (a b : ℕ) → Ge z a b → Ge z a (suc b)
  ge_lower z a b h = record {
    unit = h.unit;
    unit_out = h.unit_out;
    inside =
        subst O (mul_left_comm R _ _ _ ∙ ap (λ x. h.unit ⊗ z ⊗ x) (sym (theta_down R t g a b)))
        (𝓞.product_in _ _ tau_O h.inside);
  }

  ge_lower_by : (k : ℕ) (z : A) (a b : ℕ) → Ge z a b → Ge z a (k + b)
  ge_lower_by zero z a b h = rw zero-add h
  ge_lower_by (suc k) z a b h = rw suc-add (ge_lower z a (k + b) (ge_lower_by k z a b h))

  pub ge_weaker : (z : A) (a b c d : ℕ) → c + b ≤ a + d → Ge z a b → Ge z c d
  ge_weaker z a b c d l h =
      let k = (a + d) - (c + b) in
      let e : a + d ≡ c + (((a + d) - (c + b)) + b) = omega arith in
      ge_reindex z a (k + b) c d e (ge_lower_by k z a b h)

  -- the value is bounded by an exact one
  eq_not_more : (z : A) (a b : ℕ) → Eq z a b → Ge z (suc a) b → ⊥
  eq_not_more z a b h k =
      let s = h.unit ⊗ z ⊗ th a b in
      let f : (x : A) → h.unit ⊗ (k.unit ⊗ z ⊗ (g ⊗ x)) ≡ k.unit ⊗ (h.unit ⊗ z ⊗ x) ⊗ g
      = λ x. ring R (h.unit ∷ k.unit ∷ z ∷ g ∷ x ∷ []) λ q i. simp (reads, q, i 0, i 1, i 2, i 3, i 4)
      (q.equal _ _ refl) in
      let out = eq_mul k.unit s k.unit_out h.inside in
      out.out
      (in_prime R O 𝓞 P 𝓟 pair (k.unit ⊗ s) out.within
      (subst O
      (ap (λ x. h.unit ⊗ (k.unit ⊗ z ⊗ x)) (theta_up R t g a b) ∙ f (th a b))
      (𝓞.product_in _ _ h.unit_out.within k.inside)))

  pub ge_bounded : (z : A) (a b c d : ℕ) → Eq z a b → Ge z c d → c + b ≤ a + d
  ge_bounded z a b c d h k = go (le_or_lt (c + b) (a + d))
    where
      go : (c + b ≤ a + d) ⊎ (a + d < c + b) → c + b ≤ a + d
      go (inl l) = l
      go (inr l) = absurd (eq_not_more z a b h (ge_weaker z c d (suc a) b (omega arith) k))

  -- the value is one more, or it is exact
  pub more_or_exact : (z : A) (a b : ℕ) → Ge z a b → Ge z (suc a) b ⊎ Eq z a b
  more_or_exact z a b h = go (𝓟.decide _ h.inside)
    where
      go : P (h.unit ⊗ z ⊗ th a b) ⊎ (¬ (P (h.unit ⊗ z ⊗ th a b))) → Ge z (suc a) b ⊎ Eq z a b
      go (inl m) = inl (record {
        unit = h.unit;
        unit_out = h.unit_out;
        inside =
            subst O (mul_left_comm R _ _ _ ∙ ap (λ x. h.unit ⊗ z ⊗ x) (sym (theta_up R t g a b)))
            (pair.gamma_in _ m);
      })
      go (inr n) = inr (record { unit = h.unit; unit_out = h.unit_out; inside = record { within = h.inside; out = n } })

  -- within k steps up there is an exact value, or the bound holds k steps up
  pub climb : (k : ℕ) (z : A) (a b : ℕ) → Ge z a b → Ge z (k + a) b ⊎ ((j : ℕ) × (j < k) × Eq z (j + a) b)
  climb zero z a b h = inl (rw zero-add h)
  climb (suc k) z a b h = go (climb k z a b h)
    where
      next : Ge z (suc (k + a)) b ⊎ Eq z (k + a) b → Ge z (suc k + a) b ⊎ ((j : ℕ) × (j < suc k) × Eq z (j + a) b)
      next (inl m) = inl (rw suc-add m)
      next (inr m) = inr (k, omega arith, m)

      go : Ge z (k + a) b ⊎ ((j : ℕ) × (j < k) × Eq z (j + a) b) → Ge z (suc k + a) b
          ⊎ ((j : ℕ) × (j < suc k) × Eq z (j + a) b)
      go (inl m) = next (more_or_exact z (k + a) b m)
      go (inr m) = inr (m.0, omega arith, m.2)

  -- sums
  pub ge_sum : (z w : A) (a b : ℕ) → Ge z a b → Ge w a b → Ge (z ⊕ w) a b
  ge_sum z w a b h k = record {
    unit = h.unit ⊗ k.unit;
    unit_out = eq_mul _ _ h.unit_out k.unit_out;
    inside =
        let f : (x : A) → k.unit ⊗ (h.unit ⊗ z ⊗ x) ⊕ h.unit ⊗ (k.unit ⊗ w ⊗ x) ≡ h.unit ⊗ k.unit ⊗ (z ⊕ w) ⊗ x
        = λ x. ring R (h.unit ∷ k.unit ∷ z ∷ w ∷ x ∷ []) λ q i. simp (reads, q, i 0, i 1, i 2, i 3, i 4)
        (q.equal _ _ refl) in
        subst O (f (th a b))
        (𝓞.sum_in _ _ (𝓞.product_in _ _ k.unit_out.within h.inside) (𝓞.product_in _ _ h.unit_out.within k.inside));
  }

  pub eq_sum : (z w : A) (a b : ℕ) → Eq z a b → Ge w (suc a) b → Eq (z ⊕ w) a b
  eq_sum z w a b h k = record {
    unit = h.unit ⊗ (k.unit ⊗ (t ⊗ g));
    unit_out = eq_mul _ _ h.unit_out (eq_mul _ _ k.unit_out pair.outside);
    inside =
        let f : (x : A) → k.unit ⊗ (t ⊗ g) ⊗ (h.unit ⊗ z ⊗ x) ⊕ h.unit ⊗ (k.unit ⊗ w ⊗ (g ⊗ x)) ⊗ t
        ≡ h.unit ⊗ (k.unit ⊗ (t ⊗ g)) ⊗ (z ⊕ w) ⊗ x
        = λ x. ring R (h.unit ∷ k.unit ∷ z ∷ w ∷ x ∷ t ∷ g ∷ []) λ q i.
        simp (reads, q, i 0, i 1, i 2, i 3, i 4, i 5, i 6) (q.equal _ _ refl) in
        subst (Outside O P) (f (th a b))
        (outside_add R O 𝓞 P 𝓟 _ _
        (eq_mul _ _ (eq_mul _ _ k.unit_out pair.outside) h.inside)
        (𝓟.ideal.scale_in _ _
        (𝓞.product_in _ _ h.unit_out.within (subst O (ap (λ x. k.unit ⊗ w ⊗ x) (theta_up R t g a b)) k.inside))
        pair.tau_in));
  }

  -- members of O
  pub ge_of_member : (z : A) → O z → Ge z 0 0
  ge_of_member z m = record {
    unit = 𝟙;
    unit_out = one_outside R O 𝓞 P 𝓟;
    inside = subst O (sym (ap₂ ◌⊗◌ (one_mul R z) (theta_zero R t g) ∙ R.mul_one z)) m;
  }

  pub eq_of_outside : (z : A) → Outside O P z → Eq z 0 0
  eq_of_outside z m = record {
    unit = 𝟙;
    unit_out = one_outside R O 𝓞 P 𝓟;
    inside = subst (Outside O P) (sym (ap₂ ◌⊗◌ (one_mul R z) (theta_zero R t g) ∙ R.mul_one z)) m;
  }

  pub ge_of_prime : (z : A) → P z → Ge z 1 0
  ge_of_prime z m = record {
    unit = 𝟙;
    unit_out = one_outside R O 𝓞 P 𝓟;
    inside =
        subst O (sym (ap₂ ◌⊗◌ (one_mul R z) (theta_left R t g 1 ∙ R.mul_one g) ∙ R.mul_comm z g)) (pair.gamma_in z m);
  }

  pub eq_theta : (a b : ℕ) → Eq (th a b) b a
  eq_theta a b = record {
    unit = 𝟙;
    unit_out = one_outside R O 𝓞 P 𝓟;
    inside =
        subst (Outside O P) (sym (ap (λ x. x ⊗ th b a) (one_mul R _) ∙ theta_cross R t g a b))
        (outside_power R O 𝓞 P 𝓟 _ pair.outside (a + b));
  }

  pub eq_tau : Eq t 1 0
  eq_tau = subst (λ x. Eq x 1 0) (theta_right R t g 1 ∙ R.mul_one t) (eq_theta 0 1)

  -- the elements of value at least a - b are a module over O
  pub ge_module : (a b : ℕ) → IsModule R.ops O (λ z. Ge z a b)
  ge_module a b = record {
    zero_in = record {
      unit = 𝟙;
      unit_out = one_outside R O 𝓞 P 𝓟;
      inside = subst O (sym (ap (λ x. x ⊗ th a b) (mul_zero R 𝟙) ∙ zero_mul R _)) 𝓞.zero_in;
    };
    sum_in = λ z w h k. ge_sum z w a b h k;
    scale_in = λ s z m h.
        subst (λ n. Ge (s ⊗ z) n b) (zero-add a)
        (subst (λ n. Ge (s ⊗ z) (0 + a) n) (zero-add b) (ge_product s z 0 0 a b (ge_of_member s m) h));
  }
