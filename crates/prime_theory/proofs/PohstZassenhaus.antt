-- The criterion of Pohst and Zassenhaus: an order that has the multiplier ring of its radical modulo p is maximal at p.
use Rattle.ring_theory.proofs.Local.{power_in}
use Rattle.std.proofs.Common.{◌≡◌, ℕ, zero, suc, ◌+◌, ◌*◌, ◌<◌, List, [], ◌∷◌, refl, sym, ◌∙◌, ap, ap₂, subst, arith, suc-add, All}
use Rattle.std.proofs.lemmas.List.Elements.{All-head, All-tail, All-weaker}
use Rattle.ring_lemmas.specs.Ring.{CommRing, pow}
use Rattle.ring_theory.specs.Subsets.{IsSubring, Colon, Span, Combined}
use Rattle.ring_theory.specs.Integral.{IsIntegral}
use Rattle.ring_lemmas.proofs.Ring.{mul_zero, one_mul, add_mul, mul_left_comm, mul_pow, pow_mul}
use Rattle.ring_theory.proofs.Integral.{Low}
use Rattle.prime_theory.proofs.Adjoined.{low_times, low_by_root, low_has, power_low}
use Rattle.ring_lemmas.proofs.Solver.{ring, reads}
use Rattle.prime_theory.specs.Ideals.{IsIdeal, Multiple}
use Rattle.prime_theory.specs.Orders.{MaximalAt, Radical, Iterated}

module _ {A : Type 0} (R : CommRing A) (O : A → Type 0) (𝓞 : IsSubring R.ops O) where
  infixl 65 ◌⊕◌
  infixl 70 ◌⊗◌
  infixr 80 ⊖◌
  open R use {𝟘, 𝟙, ◌⊕◌, ◌⊗◌, ⊖◌}

  -- iterated colons into an ideal

  module _ (C : A → Type 0) (𝓒 : IsIdeal R.ops O C) where
    iterated_sum : (M : A → Type 0) (k : ℕ) (x y : A) → Iterated R.ops M C k x → Iterated R.ops M C k y
        → Iterated R.ops M C k (x ⊕ y)
    iterated_sum M zero x y h i = 𝓒.sum_in _ _ h i
    iterated_sum M (suc k) x y h i = λ v m.
        subst (Iterated R.ops M C k) (sym (add_mul R _ _ _)) (iterated_sum M k (x ⊗ v) (y ⊗ v) (h v m) (i v m))

    iterated_scale : (M : A → Type 0) (k : ℕ) (s x : A) → O s → Iterated R.ops M C k x → Iterated R.ops M C k (s ⊗ x)
    iterated_scale M zero s x j h = 𝓒.scale_in s x j h
    iterated_scale M (suc k) s x j h = λ v m.
        subst (Iterated R.ops M C k) (sym (R.mul_assoc _ _ _)) (iterated_scale M k s (x ⊗ v) j (h v m))

    iterated_of : (M : A → Type 0) → ((y : A) → M y → O y) → (k : ℕ) (x : A) → C x → Iterated R.ops M C k x
    iterated_of M f zero x h = h
    iterated_of M f (suc k) x h = λ v m. iterated_of M f k (x ⊗ v) (subst C (R.mul_comm _ _) (𝓒.scale_in v x (f v m) h))

    -- one more generator
    module _ (M : A → Type 0) (within : (v : A) → M v → O v) (y : A) (y_in : O y) where
      abbrev More : A → Type 0
      More = Combined R.ops O y M

      more_within : (v : A) → More v → O v
      more_within v m = subst O (sym m.is) (𝓞.sum_in _ _ (𝓞.product_in _ _ m.scalar_in y_in) (within _ m.rest_in))

      more_nilpotent : (i j : ℕ) (x : A) → C (x ⊗ pow R.ops y i) → Iterated R.ops M C j x
          → Iterated R.ops More C (i + j) x
      more_nilpotent zero j x h k = iterated_of More more_within (0 + j) x (subst C (R.mul_one x) h)
      more_nilpotent (suc i) zero x h k = iterated_of More more_within (suc i + 0) x k
      more_nilpotent (suc i) (suc j) x h k =
          rw suc-add (λ v m.
          let total = i + suc j in
          let first : Iterated R.ops More C (i + suc j) (m.scalar ⊗ (y ⊗ x))
          = iterated_scale More (i + suc j) m.scalar (y ⊗ x) m.scalar_in
          (more_nilpotent i (suc j) (y ⊗ x)
          (subst C (shuffle x y (pow R.ops y i)) h)
          (iterated_scale M (suc j) y x y_in k)) in
          let second : Iterated R.ops More C (suc i + j) (x ⊗ m.rest)
          = more_nilpotent (suc i) j (x ⊗ m.rest)
          (subst C (swap x m.rest (pow R.ops y (suc i))) (𝓒.scale_in m.rest _ (within _ m.rest_in) h))
          (k m.rest m.rest_in) in
          let n : suc i + j ≡ i + suc j = omega arith in
          subst (Iterated R.ops More C (i + suc j))
          (regroup x y m.scalar m.rest ∙ ap (λ w. x ⊗ w) (sym m.is))
          (iterated_sum More (i + suc j) _ _ first (subst (λ d. Iterated R.ops More C d (x ⊗ m.rest)) n second)))
        where
          shuffle : (x y w : A) → x ⊗ (y ⊗ w) ≡ y ⊗ x ⊗ w
          shuffle x y w = ring R (x ∷ y ∷ w ∷ []) λ q i. simp (reads, q, i 0, i 1, i 2) (q.equal _ _ refl)

          swap : (x r w : A) → r ⊗ (x ⊗ w) ≡ x ⊗ r ⊗ w
          swap x r w = ring R (x ∷ r ∷ w ∷ []) λ q i. simp (reads, q, i 0, i 1, i 2) (q.equal _ _ refl)

          regroup : (x y s r : A) → s ⊗ (y ⊗ x) ⊕ x ⊗ r ≡ x ⊗ (s ⊗ y ⊕ r)
          regroup x y s r = ring R (x ∷ y ∷ s ∷ r ∷ []) λ q i. simp (reads, q, i 0, i 1, i 2, i 3) (q.equal _ _ refl)

    -- an ideal of O that is spanned by elements with powers in C has a power in C
    pub span_nilpotent : (ys : List A) → All (λ y. O y × ((n : ℕ) × C (pow R.ops y n))) ys
        → (k : ℕ) × ((v : A) → Span R.ops O ys v → O v) × Iterated R.ops (Span R.ops O ys) C k 𝟙
    span_nilpotent [] h =
        (1, λ v m. subst O (sym m) 𝓞.zero_in, λ v m. subst C (sym (ap (λ x. 𝟙 ⊗ x) m ∙ mul_zero R 𝟙)) 𝓒.zero_in)
    span_nilpotent (y ∷ ys) h =
        let Y : A → Type 0 = λ y. O y × ((n : ℕ) × C (pow R.ops y n)) in
        let first = All-head Y y ys h in
        let r = span_nilpotent ys (All-tail Y y ys h) in (
          first.1.0 + r.0,
          more_within (Span R.ops O ys) r.1 y first.0,
          more_nilpotent (Span R.ops O ys) r.1 y first.0 first.1.0 r.0 𝟙 (subst C (sym (one_mul R _)) first.1.1) r.2,
        )

  iterated_narrower : (M M' C : A → Type 0) → ((v : A) → M v → M' v) → (k : ℕ) (x : A) → Iterated R.ops M' C k x
      → Iterated R.ops M C k x
  iterated_narrower M M' C f zero x h = h
  iterated_narrower M M' C f (suc k) x h = λ v m. iterated_narrower M M' C f k (x ⊗ v) (h v (f v m))

  iterated_multiple : (M C D : A → Type 0) (w : A) → ((v : A) → C v → D (w ⊗ v)) → (k : ℕ) (x : A)
      → Iterated R.ops M C k x
      → Iterated R.ops M D k (w ⊗ x)
  iterated_multiple M C D w f zero x h = f x h
  iterated_multiple M C D w f (suc k) x h = λ v m.
      subst (Iterated R.ops M D k) (sym (R.mul_assoc _ _ _)) (iterated_multiple M C D w f k (x ⊗ v) (h v m))

  -- the criterion

  module _ (p : A) (p_in : O p) where
    pub multiples_ideal : (d : A) → O d → IsIdeal R.ops O (Multiple R.ops d O)
    multiples_ideal d d_in = record {
      within = λ a m. subst O (sym m.is) (𝓞.product_in _ _ d_in m.quotient_in);
      zero_in = record { quotient = 𝟘; quotient_in = 𝓞.zero_in; is = sym (mul_zero R d) };
      sum_in = λ a b m n. record {
        quotient = m.quotient ⊕ n.quotient;
        quotient_in = 𝓞.sum_in _ _ m.quotient_in n.quotient_in;
        is = ap₂ ◌⊕◌ m.is n.is ∙ sym (R.mul_add _ _ _);
      };
      scale_in = λ s a k m. record {
        quotient = s ⊗ m.quotient;
        quotient_in = 𝓞.product_in _ _ k m.quotient_in;
        is = ap (λ x. s ⊗ x) m.is ∙ mul_left_comm R _ _ _;
      };
    }

    abbrev I : A → Type 0
    I = Radical R.ops O p

    -- a power of a member of the radical is divisible by p^d
    radical_power : (d : ℕ) (y : A) → I y → (n : ℕ) × Multiple R.ops (pow R.ops p d) O (pow R.ops y n)
    radical_power d y h = (
      suc h.nilpotent.exponent * d,
      record {
        quotient = pow R.ops h.nilpotent.power_in.quotient d;
        quotient_in = power_in R O 𝓞 _ h.nilpotent.power_in.quotient_in d;
        is = pow_mul R y (suc h.nilpotent.exponent) d ∙ ap (λ x. pow R.ops x d) h.nilpotent.power_in.is
            ∙ mul_pow R p _ d;
      },
    )

    module _ (ys : List A) (ys_in : All I ys) (spanned : (y : A) → I y → Span R.ops O ys y)
        (multipliers : (w : A) → Colon R.ops I I w → O w) where
      module _ (W : A → Type 0) (W_times : (a b : A) → W a → W b → W (a ⊗ b)) (W_has : (a : A) → O a → W a)
          (d : ℕ) (bounded : (w : A) → W w → O (pow R.ops p d ⊗ w)) where
        W_power : (w : A) → W w → (n : ℕ) → W (pow R.ops w n)
        W_power w h zero = W_has 𝟙 𝓞.one_in
        W_power w h (suc n) = W_times _ _ h (W_power w h n)

        -- an element of W that takes the radical into O takes it into itself
        step : (w : A) → W w → ((y : A) → I y → O (w ⊗ y)) → O w
        step w h f = multipliers w (λ y m.
            let s = suc m.nilpotent.exponent in
            let r = m.nilpotent.power_in in
            let n = s * suc d in
            let e : (a b c x : A) → x ⊗ ((p ⊗ a) ⊗ (b ⊗ c)) ≡ p ⊗ (b ⊗ c ⊗ (a ⊗ x))
            = λ a b c x. ring R (a ∷ b ∷ c ∷ x ∷ p ∷ []) λ q i. simp (reads, q, i 0, i 1, i 2, i 3, i 4)
            (q.equal _ _ refl) in
            let y_power : pow R.ops y n ≡ (p ⊗ pow R.ops p d) ⊗ (r.quotient ⊗ pow R.ops r.quotient d)
            = pow_mul R y s (suc d) ∙ ap (λ x. pow R.ops x (suc d)) r.is ∙ mul_pow R p r.quotient (suc d) in
            let k : n ≡ suc (m.nilpotent.exponent * suc d + d) = count m.nilpotent.exponent d in
            record {
              within = f y m;
              nilpotent = record {
                exponent = m.nilpotent.exponent * suc d + d;
                power_in = record {
                  quotient = r.quotient ⊗ pow R.ops r.quotient d ⊗ (pow R.ops p d ⊗ pow R.ops w n);
                  quotient_in =
                      𝓞.product_in _ _ (power_in R O 𝓞 r.quotient r.quotient_in (suc d)) (bounded _ (W_power w h n));
                  is =
                      ap (pow R.ops (w ⊗ y)) (sym k) ∙ mul_pow R w y n ∙ ap (λ x. pow R.ops w n ⊗ x) y_power
                      ∙ e (pow R.ops p d) r.quotient (pow R.ops r.quotient d) (pow R.ops w n);
                };
              };
            })
          where
            count : (e d : ℕ) → suc e * suc d ≡ suc (e * suc d + d)
            count e d = omega arith

        down : (k : ℕ) (w : A) → W w → Iterated R.ops I O k w → O w
        down zero w h i = i
        down (suc k) w h i =
            step w h (λ y m. down k (w ⊗ y) (W_times w y h (W_has y m.within)) (i y m))

        pub bounded_ring_within : (w : A) → W w → O w
        bounded_ring_within w h =
            let pd = pow R.ops p d in
            let C = Multiple R.ops pd O in
            let 𝓒 = multiples_ideal pd (power_in R O 𝓞 p p_in d) in
            let r = span_nilpotent C 𝓒 ys
            (All-weaker I (λ y. O y × ((n : ℕ) × C (pow R.ops y n))) (λ y m. (m.within, radical_power d y m)) ys
            ys_in) in
            let one : Iterated R.ops I C r.0 𝟙 = iterated_narrower I (Span R.ops O ys) C spanned r.0 𝟙 r.2 in
            let f : (v : A) → C v → O (w ⊗ v)
            = λ v m.
            subst O (regroup m.quotient pd w ∙ turn pd w v m.quotient m.is)
            (𝓞.product_in _ _ m.quotient_in (bounded w h)) in
            down r.0 w h (subst (Iterated R.ops I O r.0) (R.mul_one w) (iterated_multiple I C O w f r.0 𝟙 one))
          where
            regroup : (c d w : A) → c ⊗ (d ⊗ w) ≡ (d ⊗ c) ⊗ w
            regroup c d w = mul_left_comm R c d w ∙ sym (R.mul_assoc d c w)

            turn : (d w v c : A) → v ≡ d ⊗ c → (d ⊗ c) ⊗ w ≡ w ⊗ v
            turn d w v c e = R.mul_comm _ _ ∙ ap (λ x. w ⊗ x) (sym e)

      -- the multiples of a ring O[z] by a power of p are in O
      denominator : (z : A) (a : ℕ) → O (pow R.ops p a ⊗ z) → (m : ℕ) (w : A) → Low R.ops O z m w
          → O (pow R.ops (pow R.ops p a) m ⊗ w)
      denominator z a h zero w k = subst O (sym (one_mul R w)) (subst O (sym k) 𝓞.zero_in)
      denominator z a h (suc m) w k =
          let f : (x y c r : A) → x ⊗ y ⊗ c ⊕ (x ⊗ z) ⊗ (y ⊗ r) ≡ x ⊗ y ⊗ (c ⊕ z ⊗ r)
          = λ x y c r. ring R (x ∷ y ∷ c ∷ r ∷ z ∷ []) λ q i. simp (reads, q, i 0, i 1, i 2, i 3, i 4)
          (q.equal _ _ refl) in
          let pa = pow R.ops p a in
          subst O (f pa (pow R.ops pa m) k.constant k.rest ∙ ap (λ x. pa ⊗ pow R.ops pa m ⊗ x) (sym k.is))
          (𝓞.sum_in _ _
          (𝓞.product_in _ _ (power_in R O 𝓞 pa (power_in R O 𝓞 p p_in a) (suc m)) k.constant_in)
          (𝓞.product_in _ _ h (denominator z a h m k.rest k.rest_in)))

      pub pohst_zassenhaus : MaximalAt R.ops p (IsIntegral R.ops O) O
      pohst_zassenhaus z a h k = go h.degree h.positive (power_low R O 𝓞 z h)
        where
          go : (m : ℕ) → 0 < m → Low R.ops O z m (pow R.ops z m) → O z
          go zero l r = absurd (omega arith)
          go (suc n) l r =
              let W = Low R.ops O z (suc n) in
              let z_in : W z = subst W (R.mul_one z) (low_by_root R O 𝓞 z (suc n) r 𝟙 (low_has R O 𝓞 z n 𝟙 𝓞.one_in)) in
              bounded_ring_within W (low_times R O 𝓞 z (suc n) r) (low_has R O 𝓞 z n) (a * suc n)
              (λ w j. subst (λ x. O (x ⊗ w)) (sym (pow_mul R p a (suc n))) (denominator z a k (suc n) w j))
              z z_in
