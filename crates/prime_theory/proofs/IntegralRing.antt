-- The elements that are integral over S are a ring; multipliers of a span are integral; the unit trick.
use Rattle.ring_theory.proofs.Local.{power_in}
use Rattle.std.proofs.Common.{◌≡◌, ℕ, zero, suc, ◌<◌, List, [], ◌∷◌, map, refl, sym, ◌∙◌, ap, subst, arith, All}
use Rattle.std.proofs.lemmas.List.Elements.{All-nil, All-cons, All-weaker, All-map}
use Rattle.ring_lemmas.specs.Ring.{CommRing, pow}
use Rattle.ring_theory.specs.Subsets.{IsSubring, IsModule, Span, Product, products}
use Rattle.ring_theory.specs.Integral.{IsIntegral}
use Rattle.ring_lemmas.proofs.Ring.{mul_zero, one_mul, add_mul, mul_left_comm}
use Rattle.ring_theory.proofs.Subsets.{span_module, span_head, span_tail, span_members, span_least, span_multiples, product_of_spans, product_member, product_module}
use Rattle.ring_theory.proofs.Integral.{Low, low_zero, low_sum, low_scale, low_neg, low_shift, integral}
use Rattle.ring_lemmas.proofs.Solver.{ring, reads, from_two}
use Rattle.prime_theory.proofs.Adjoined.{low_times, low_by_root, low_has, power_low}
use Rattle.prime_theory.proofs.Products.{product_universal, additive_of_module}

module _ {A : Type 0} (R : CommRing A) (S : A → Type 0) (𝓢 : IsSubring R.ops S) where
  infixl 65 ◌⊕◌
  infixl 70 ◌⊗◌
  infixr 80 ⊖◌
  open R use {𝟘, 𝟙, ◌⊕◌, ◌⊗◌, ⊖◌}

  -- a multiplier of a span that has 1
  pub integral_of_multiplier : (bs : List A) (z : A) → Span R.ops S bs 𝟙
      → ((y : A) → Span R.ops S bs y → Span R.ops S bs (z ⊗ y))
      → IsIntegral R.ops S z
  integral_of_multiplier bs z one f =
      let up : (y : A) → Span R.ops S bs y → Span R.ops S (𝟙 ∷ bs) y = span_tail R S 𝓢 𝟙 bs in
      integral R S 𝓢 z bs
      (All-cons (λ b. Span R.ops S (𝟙 ∷ bs) (z ⊗ b)) 𝟙 bs (up _ (f 𝟙 one))
      (All-weaker (Span R.ops S bs) (λ b. Span R.ops S (𝟙 ∷ bs) (z ⊗ b)) (λ b m. up _ (f b m)) bs
      (span_members R S 𝓢 bs)))

  -- a multiplier of a span that has an element with an inverse
  -- the members of a ring that finitely many elements span are integral
  pub integral_of_order : (O : A → Type 0) → IsSubring R.ops O → (bs : List A) → ((z : A) → O z → Span R.ops S bs z)
      → ((z : A) → Span R.ops S bs z → O z)
      → (z : A) → O z → IsIntegral R.ops S z
  integral_of_order O 𝓞 bs to from z h =
      integral_of_multiplier bs z (to 𝟙 𝓞.one_in) (λ y m. to (z ⊗ y) (𝓞.product_in z y h (from y m)))

  pub integral_of_stable : (bs : List A) (d e z : A) → e ⊗ d ≡ 𝟙 → Span R.ops S bs d
      → ((y : A) → Span R.ops S bs y → Span R.ops S bs (z ⊗ y)) → IsIntegral R.ops S z
  integral_of_stable bs d e z u d_in f =
      let cs = map (R.ops.◌⊗◌ e) bs in
      let scaled : (y : A) → Span R.ops S bs y → Span R.ops S cs (e ⊗ y) = span_multiples R S 𝓢 e bs in
      let 𝓓 : IsModule R.ops S (λ y. Span R.ops S cs (z ⊗ y)) = record {
        zero_in = subst (Span R.ops S cs) (sym (mul_zero R z)) (span_module R S 𝓢 cs).zero_in;
        sum_in = λ a b h k. subst (Span R.ops S cs) (sym (R.mul_add _ _ _)) ((span_module R S 𝓢 cs).sum_in _ _ h k);
        scale_in = λ s a m h. subst (Span R.ops S cs) (mul_left_comm R _ _ _) ((span_module R S 𝓢 cs).scale_in _ _ m h);
      } in
      integral_of_multiplier cs z (subst (Span R.ops S cs) u (scaled d d_in))
      (span_least R S 𝓢 (λ y. Span R.ops S cs (z ⊗ y)) 𝓓 cs
      (All-map (λ y. Span R.ops S cs (z ⊗ y)) (R.ops.◌⊗◌ e) bs
      (All-weaker (Span R.ops S bs) (λ b. Span R.ops S cs (z ⊗ (e ⊗ b)))
      (λ b m. subst (Span R.ops S cs) (mul_left_comm R _ _ _) (scaled _ (f b m))) bs (span_members R S 𝓢 bs))))

  -- the powers of z below n as a list: their span is that of the values of degree below n
  pub powers : A → ℕ → List A
  powers z zero = []
  powers z (suc n) = 𝟙 ∷ map (R.ops.◌⊗◌ z) (powers z n)

  pub low_span : (z : A) (n : ℕ) (a : A) → Low R.ops S z n a → Span R.ops S (powers z n) a
  unfolding powers
  low_span z zero a h = h
  low_span z (suc n) a h = record {
    scalar = h.constant;
    scalar_in = h.constant_in;
    rest = z ⊗ h.rest;
    rest_in = span_multiples R S 𝓢 z (powers z n) h.rest (low_span z n h.rest h.rest_in);
    is = h.is ∙ ap (λ x. x ⊕ z ⊗ h.rest) (sym (R.mul_one _));
  }

  pub low_module : (z : A) (n : ℕ) → IsModule R.ops S (Low R.ops S z n)
  low_module z n = record { zero_in = low_zero R S 𝓢 z n; sum_in = low_sum R S 𝓢 z n; scale_in = low_scale R S 𝓢 z n }

  pub span_low : (z : A) (n : ℕ) → All (Low R.ops S z n) (powers z n)
  unfolding powers
  span_low z zero = All-nil (Low R.ops S z 0)
  span_low z (suc n) =
      All-cons (Low R.ops S z (suc n)) 𝟙 (map (R.ops.◌⊗◌ z) (powers z n)) (low_has R S 𝓢 z n 𝟙 𝓢.one_in)
      (All-map (Low R.ops S z (suc n)) (R.ops.◌⊗◌ z) (powers z n)
      (All-weaker (Low R.ops S z n) (λ b. Low R.ops S z (suc n) (z ⊗ b)) (low_shift R S 𝓢 z n) (powers z n)
      (span_low z n)))

  -- the ring S[z, w], z and w integral, and its multipliers

  module _ (z w : A) (h : IsIntegral R.ops S z) (k : IsIntegral R.ops S w) where
    abbrev m : ℕ
    m = h.degree

    abbrev n : ℕ
    n = k.degree

    abbrev Both : A → Type 0
    Both = Product R.ops (Low R.ops S z m) (Low R.ops S w n)

    both_module : IsModule R.ops S Both
    both_module = product_module R S 𝓢 _ _ (low_module z m)

    low_one : (x : A) (d : ℕ) → 0 < d → Low R.ops S x d 𝟙
    low_one x zero l = absurd (omega arith)
    low_one x (suc d) l = low_has R S 𝓢 x d 𝟙 𝓢.one_in

    multiplier : (v : A) → ((y : A) → Both y → Both (v ⊗ y)) → IsIntegral R.ops S v
    multiplier v f =
        let bs = powers z m in
        let cs = powers w n in
        let into : (y : A) → Both y → Span R.ops S (products R.ops bs cs) y
        = λ y b. (product_of_spans R S 𝓢 bs cs y).0
        (product_into_spans y b) in
        let back : (y : A) → Span R.ops S (products R.ops bs cs) y → Both y
        = λ y b. spans_into_product y ((product_of_spans R S 𝓢 bs cs y).1 b) in
        integral_of_multiplier (products R.ops bs cs) v
        (into 𝟙 (subst Both (R.mul_one 𝟙)
        (product_member R S 𝓢 _ _ 𝟙 𝟙 (low_one z m h.positive) (low_one w n k.positive))))
        (λ y b. into _ (f y (back y b)))
      where
        product_into_spans : (y : A) → Both y → Product R.ops (Span R.ops S (powers z m)) (Span R.ops S (powers w n)) y
        product_into_spans =
            Rattle.prime_theory.proofs.Products.product_into R (Low R.ops S z m) (Low R.ops S w n) _
            (additive_of_module R S _ (product_module R S 𝓢 _ _ (span_module R S 𝓢 (powers z m))))
            (λ a b i j. product_member R S 𝓢 _ _ a b (low_span z m a i) (low_span w n b j))

        spans_into_product : (y : A) → Product R.ops (Span R.ops S (powers z m)) (Span R.ops S (powers w n)) y → Both y
        spans_into_product =
            Rattle.prime_theory.proofs.Products.product_into R (Span R.ops S (powers z m))
            (Span R.ops S (powers w n)) Both
            (additive_of_module R S Both both_module)
            (λ a b i j.
            product_member R S 𝓢 (Low R.ops S z m) (Low R.ops S w n) a b
            (span_least R S 𝓢 (Low R.ops S z m) (low_module z m) (powers z m) (span_low z m) a i)
            (span_least R S 𝓢 (Low R.ops S w n) (low_module w n) (powers w n) (span_low w n) b j))

    both_first : (y : A) → Both y → Both (z ⊗ y)
    both_first =
        product_universal R (Low R.ops S z m) (Low R.ops S w n) Both (additive_of_module R S Both both_module) z
        (λ a b i j. subst Both (R.mul_assoc z a b)
        (product_member R S 𝓢 (Low R.ops S z m) (Low R.ops S w n) (z ⊗ a) b
        (low_by_root R S 𝓢 z m (power_low R S 𝓢 z h) a i) j))

    both_second : (y : A) → Both y → Both (w ⊗ y)
    both_second =
        product_universal R (Low R.ops S z m) (Low R.ops S w n) Both (additive_of_module R S Both both_module) w
        (λ a b i j. subst Both (mul_left_comm R a w b)
        (product_member R S 𝓢 (Low R.ops S z m) (Low R.ops S w n) a (w ⊗ b) i
        (low_by_root R S 𝓢 w n (power_low R S 𝓢 w k) b j)))

    pub integral_sum : IsIntegral R.ops S (z ⊕ w)
    integral_sum =
        multiplier (z ⊕ w) (λ y b. subst Both (sym (add_mul R _ _ _))
        (both_module.sum_in _ _ (both_first y b) (both_second y b)))

    pub integral_product : IsIntegral R.ops S (z ⊗ w)
    integral_product = multiplier (z ⊗ w) (λ y b. subst Both (sym (R.mul_assoc _ _ _)) (both_first _ (both_second y b)))

  pub integral_base : (s : A) → S s → IsIntegral R.ops S s
  integral_base s s_in =
      integral_of_multiplier (𝟙 ∷ []) s (span_head R S 𝓢 𝟙 []) (λ y b. (span_module R S 𝓢 (𝟙 ∷ [])).scale_in s y s_in b)

  pub integral_ring : IsSubring R.ops (IsIntegral R.ops S)
  integral_ring = record {
    zero_in = integral_base 𝟘 𝓢.zero_in;
    one_in = integral_base 𝟙 𝓢.one_in;
    sum_in = λ a b h k. integral_sum a b h k;
    neg_in = λ a h.
        subst (IsIntegral R.ops S) (ring R (a ∷ []) λ q i. simp (reads, q, i 0) (q.equal _ _ refl))
        (integral_product (⊖ 𝟙) a (integral_base (⊖ 𝟙) (𝓢.neg_in 𝟙 𝓢.one_in)) h);
    product_in = λ a b h k. integral_product a b h k;
  }

  reduce_step : (c s v x t y b d : A) → v ≡ 𝟙 ⊕ ⊖ (c ⊗ s) → x ⊗ y ≡ c ⊗ b ⊕ v ⊗ d
      → c ⊗ x ⊗ (t ⊕ s ⊗ y) ≡ c ⊗ (x ⊗ t ⊕ b) ⊕ v ⊗ (d ⊕ ⊖ (c ⊗ b ⊕ v ⊗ d))
  reduce_step c s v x t y b d e f =
      from_two R (c ⊗ b ⊕ v ⊗ d) (c ⊗ s) e f
      (ring R (c ∷ s ∷ v ∷ x ∷ t ∷ y ∷ b ∷ d ∷ []) λ q i.
      simp (reads, q, i 0, i 1, i 2, i 3, i 4, i 5, i 6, i 7) (q.equal _ _ refl))

  one_step : (c s v x y t : A) → v ≡ 𝟙 ⊕ ⊖ (c ⊗ s) → x ⊗ y ≡ 𝟙 ⊕ v ⊗ t → c ⊗ x ⊗ (s ⊗ y) ≡ 𝟙 ⊕ v ⊗ (t ⊕ ⊖ (𝟙 ⊕ v ⊗ t))
  one_step c s v x y t e f =
      from_two R (𝟙 ⊕ v ⊗ t) (c ⊗ s) e f
      (ring R (c ∷ s ∷ v ∷ x ∷ y ∷ t ∷ []) λ q i. simp (reads, q, i 0, i 1, i 2, i 3, i 4, i 5) (q.equal _ _ refl))

  unit_step : (c v w b x y : A) → w ≡ 𝟙 ⊕ v ⊗ x → w ≡ c ⊗ b ⊕ v ⊗ y → v ⊗ (y ⊕ ⊖ x) ≡ 𝟙 ⊕ c ⊗ ⊖ b
  unit_step c v w b x y e f =
      from_two R 𝟙 (⊖ 𝟙) e f
      (ring R (c ∷ v ∷ w ∷ b ∷ x ∷ y ∷ []) λ q i. simp (reads, q, i 0, i 1, i 2, i 3, i 4, i 5) (q.equal _ _ refl))

  -- the unit trick: 1 - c·s divides some 1 + c·b
  pub record Unit (c s : A) (m : ℕ) : Type 0 where
    pub cofactor : A
    pub cofactor_in : Low R.ops S s m cofactor
    pub base : A
    pub base_in : S base
    pub is : (𝟙 ⊕ ⊖ (c ⊗ s)) ⊗ cofactor ≡ 𝟙 ⊕ c ⊗ base

  module _ (c s : A) (c_in : S c) (h : IsIntegral R.ops S s) where
    abbrev v : A
    v = 𝟙 ⊕ ⊖ (c ⊗ s)

    abbrev L : A → Type 0
    L = Low R.ops S s h.degree

    L_has : (a : A) → S a → L a
    L_has a a_in = go h.degree h.positive
      where
        go : (d : ℕ) → 0 < d → Low R.ops S s d a
        go zero l = absurd (omega arith)
        go (suc d) l = low_has R S 𝓢 s d a a_in

    L_times : (a b : A) → L a → L b → L (a ⊗ b)
    L_times = low_times R S 𝓢 s h.degree (power_low R S 𝓢 s h)

    v_in : L v
    v_in =
        low_sum R S 𝓢 s h.degree _ _ (L_has 𝟙 𝓢.one_in)
        (low_neg R S 𝓢 s h.degree _
        (low_scale R S 𝓢 s h.degree _ _ c_in
        (subst L (R.mul_one s) (low_by_root R S 𝓢 s h.degree (power_low R S 𝓢 s h) 𝟙 (L_has 𝟙 𝓢.one_in)))))

    -- c·b + v·x with b in S and x in S[s]
    record Reduced (a : A) : Type 0 where
      base : A
      base_in : S base
      cofactor : A
      cofactor_in : L cofactor
      is : a ≡ c ⊗ base ⊕ v ⊗ cofactor

    zero_plain : (x : A) → 𝟘 ≡ c ⊗ 𝟘 ⊕ x ⊗ 𝟘
    zero_plain x = ring R (c ∷ x ∷ []) λ q i. simp (reads, q, i 0, i 1) (q.equal _ _ refl)

    one_plain : (x : A) → 𝟙 ⊗ 𝟙 ≡ 𝟙 ⊕ x ⊗ 𝟘
    one_plain x = ring R (x ∷ []) λ q i. simp (reads, q, i 0) (q.equal _ _ refl)

    -- c^n times a value of degree below n
    reduced : (n : ℕ) (a : A) → Low R.ops S s n a → Reduced (pow R.ops c n ⊗ a)
    reduced zero a k = record {
      base = 𝟘;
      base_in = 𝓢.zero_in;
      cofactor = 𝟘;
      cofactor_in = low_zero R S 𝓢 s h.degree;
      is = one_mul R a ∙ k ∙ zero_plain v;
    }
    reduced (suc n) a k =
        let r = reduced n k.rest k.rest_in in
        let b = pow R.ops c n ⊗ k.constant ⊕ r.base in
        record {
          base = b;
          base_in = 𝓢.sum_in _ _ (𝓢.product_in _ _ (power_in R S 𝓢 c c_in n) k.constant_in) r.base_in;
          cofactor = r.cofactor ⊕ ⊖ (c ⊗ r.base ⊕ v ⊗ r.cofactor);
          cofactor_in =
              low_sum R S 𝓢 s h.degree _ _ r.cofactor_in
              (low_neg R S 𝓢 s h.degree _
              (low_sum R S 𝓢 s h.degree _ _ (L_has _ (𝓢.product_in _ _ c_in r.base_in))
              (L_times _ _ v_in r.cofactor_in)));
          is =
              ap (λ x. c ⊗ pow R.ops c n ⊗ x) k.is
              ∙ reduce_step c s v (pow R.ops c n) k.constant k.rest r.base r.cofactor refl r.is;
        }

    -- (c·s)^n is 1 up to a multiple of v
    power_one : (n : ℕ) → (x : A) × L x × (pow R.ops c n ⊗ pow R.ops s n ≡ 𝟙 ⊕ v ⊗ x)
    power_one zero = (𝟘, low_zero R S 𝓢 s h.degree, one_plain v)
    power_one (suc n) =
        let r = power_one n in (
          r.0 ⊕ ⊖ (𝟙 ⊕ v ⊗ r.0),
          low_sum R S 𝓢 s h.degree _ _ r.1
              (low_neg R S 𝓢 s h.degree _ (low_sum R S 𝓢 s h.degree _ _ (L_has 𝟙 𝓢.one_in) (L_times _ _ v_in r.1))),
          one_step c s v (pow R.ops c n) (pow R.ops s n) r.0 refl r.2,
        )

    pub unit_trick : Unit c s h.degree
    unit_trick =
        let d = h.degree in
        let one = power_one d in
        let low = power_low R S 𝓢 s h in
        let r = reduced d (pow R.ops s d) low in
        record {
          cofactor = r.cofactor ⊕ ⊖ one.0;
          cofactor_in = low_sum R S 𝓢 s d _ _ r.cofactor_in (low_neg R S 𝓢 s d _ one.1);
          base = ⊖ r.base;
          base_in = 𝓢.neg_in _ r.base_in;
          is = unit_step c v _ r.base one.0 r.cofactor one.2 r.is;
        }
