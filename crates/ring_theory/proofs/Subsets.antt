-- Spans, products and colons of subsets are modules, and the product of two spans is the span of the products.
use Rattle.std.proofs.Common.{◌≡◌, List, [], ◌∷◌, ◌++◌, map, refl, sym, ◌∙◌, ap, ap₂, subst, All, ◌↔◌}
use Rattle.std.proofs.lemmas.List.Elements.{All-nil, All-cons, All-head, All-tail, All-weaker, All-append, All-map}
use Rattle.ring_lemmas.specs.Ring.{CommRing}
use Rattle.ring_lemmas.specs.Sums.{sum_over}
use Rattle.ring_theory.specs.Subsets.{IsSubring, IsModule, Span, Factors, Product, Colon, products}
use Rattle.ring_lemmas.proofs.Ring.{mul_zero, zero_mul, add_mul}
use Rattle.ring_lemmas.proofs.Solver.{ring, reads}
use Rattle.ring_lemmas.proofs.Sums.{over_append, over_map, over_scale, over_cong}

module _ {A : Type 0} (R : CommRing A) where
  infixl 65 ◌⊕◌
  infixl 70 ◌⊗◌
  infixr 80 ⊖◌
  open R use {𝟘, 𝟙, ◌⊕◌, ◌⊗◌, ⊖◌}

  module _ (S : A → Type 0) (𝓢 : IsSubring R.ops S) where
    pub span_zero : (bs : List A) → Span R.ops S bs 𝟘
    span_zero [] = refl
    span_zero (b ∷ bs) = record {
      scalar = 𝟘;
      scalar_in = 𝓢.zero_in;
      rest = 𝟘;
      rest_in = span_zero bs;
      is = ring R (b ∷ []) λ q h. simp (reads, q, h 0) (q.equal _ _ refl);
    }

    pub span_sum : (bs : List A) (a c : A) → Span R.ops S bs a → Span R.ops S bs c → Span R.ops S bs (a ⊕ c)
    span_sum [] a c h k = ap₂ ◌⊕◌ h k ∙ R.add_zero 𝟘
    span_sum (b ∷ bs) a c h k = record {
      scalar = h.scalar ⊕ k.scalar;
      scalar_in = 𝓢.sum_in _ _ h.scalar_in k.scalar_in;
      rest = h.rest ⊕ k.rest;
      rest_in = span_sum bs _ _ h.rest_in k.rest_in;
      is = ap₂ ◌⊕◌ h.is k.is
          ∙ ring R (b ∷ h.scalar ∷ k.scalar ∷ h.rest ∷ k.rest ∷ []) λ q x.
          simp (reads, q, x 0, x 1, x 2, x 3, x 4) (q.equal _ _ refl);
    }

    pub span_scale : (bs : List A) (s a : A) → S s → Span R.ops S bs a → Span R.ops S bs (s ⊗ a)
    span_scale [] s a m h = ap (λ z. s ⊗ z) h ∙ mul_zero R s
    span_scale (b ∷ bs) s a m h = record {
      scalar = s ⊗ h.scalar;
      scalar_in = 𝓢.product_in _ _ m h.scalar_in;
      rest = s ⊗ h.rest;
      rest_in = span_scale bs s _ m h.rest_in;
      is = ap (λ z. s ⊗ z) h.is
          ∙ ring R (b ∷ s ∷ h.scalar ∷ h.rest ∷ []) λ q x. simp (reads, q, x 0, x 1, x 2, x 3) (q.equal _ _ refl);
    }

    pub span_module : (bs : List A) → IsModule R.ops S (Span R.ops S bs)
    span_module bs = record { zero_in = span_zero bs; sum_in = span_sum bs; scale_in = span_scale bs }

    pub span_head : (b : A) (bs : List A) → Span R.ops S (b ∷ bs) b
    span_head b bs = record {
      scalar = 𝟙;
      scalar_in = 𝓢.one_in;
      rest = 𝟘;
      rest_in = span_zero bs;
      is = ring R (b ∷ []) λ q h. simp (reads, q, h 0) (q.equal _ _ refl);
    }

    pub span_tail : (b : A) (bs : List A) (a : A) → Span R.ops S bs a → Span R.ops S (b ∷ bs) a
    span_tail b bs a h = record {
      scalar = 𝟘;
      scalar_in = 𝓢.zero_in;
      rest = a;
      rest_in = h;
      is = ring R (b ∷ a ∷ []) λ q h. simp (reads, q, h 0, h 1) (q.equal _ _ refl);
    }

    pub span_members : (bs : List A) → All (Span R.ops S bs) bs
    span_members [] = All-nil (Span R.ops S [])
    span_members (b ∷ bs) =
        All-cons (Span R.ops S (b ∷ bs)) b bs (span_head b bs)
        (All-weaker (Span R.ops S bs) (Span R.ops S (b ∷ bs)) (span_tail b bs) bs (span_members bs))

    -- a module that has the generators has the span
    pub span_least : (N : A → Type 0) → IsModule R.ops S N → (bs : List A) → All N bs → (a : A) → Span R.ops S bs a
        → N a
    span_least N 𝓝 [] m a h = subst N (sym h) 𝓝.zero_in
    span_least N 𝓝 (b ∷ bs) m a h =
        subst N (sym h.is)
        (𝓝.sum_in _ _
        (𝓝.scale_in _ _ h.scalar_in (All-head N b bs m))
        (span_least N 𝓝 bs (All-tail N b bs m) h.rest h.rest_in))

    pub span_within : (bs cs : List A) → All (Span R.ops S cs) bs → (a : A) → Span R.ops S bs a → Span R.ops S cs a
    span_within bs cs = span_least (Span R.ops S cs) (span_module cs) bs

    pub span_append_right : (bs cs : List A) (a : A) → Span R.ops S cs a → Span R.ops S (bs ++ cs) a
    span_append_right [] cs a h = h
    span_append_right (b ∷ bs) cs a h = span_tail b (bs ++ cs) a (span_append_right bs cs a h)

    pub span_append_left : (bs cs : List A) (a : A) → Span R.ops S bs a → Span R.ops S (bs ++ cs) a
    span_append_left [] cs a h = subst (Span R.ops S cs) (sym h) (span_zero cs)
    span_append_left (b ∷ bs) cs a h =
        record {
          scalar = h.scalar;
          scalar_in = h.scalar_in;
          rest = h.rest;
          rest_in = span_append_left bs cs h.rest h.rest_in;
          is = h.is;
        }

    -- products of modules

    pub product_module : (M N : A → Type 0) → IsModule R.ops S M → IsModule R.ops S (Product R.ops M N)
    product_module M N 𝓜 = record {
      zero_in = ([], refl);
      sum_in = λ a c h k. (h.0 ++ k.0, ap₂ ◌⊕◌ h.1 k.1 ∙ sym (over_append R _ h.0 k.0));
      scale_in = λ s a m h.
          let by : Factors M N → Factors M N
          = λ p. record p { left = s ⊗ p.left; left_in = 𝓜.scale_in s p.left m p.left_in } in (
            map by h.0,
            ap (λ z. s ⊗ z) h.1 ∙ sym (over_scale R s _ h.0)
                ∙ over_cong R _ _ (λ p. sym (R.mul_assoc s p.left p.right)) h.0
                ∙ sym (over_map R (λ p. p.left ⊗ p.right) by h.0),
          );
    }

    pub product_member : (M N : A → Type 0) (a c : A) → M a → N c → Product R.ops M N (a ⊗ c)
    product_member M N a c m n =
        (record { left = a; left_in = m; right = c; right_in = n } ∷ [], sym (R.add_zero (a ⊗ c)))

    -- a module that has all products of a member of M and a member of N has the product of M and N
    pub product_least : (M N P : A → Type 0) → IsModule R.ops S P
        → ((a c : A) → M a → N c → P (a ⊗ c)) → (a : A) → Product R.ops M N a → P a
    product_least M N P 𝓟 f a h = subst P (sym h.1) (go h.0)
      where
        go : (ps : List (Factors M N)) → P (sum_over R.ops ps (λ p. p.left ⊗ p.right))
        go [] = 𝓟.zero_in
        go (p ∷ ps) = 𝓟.sum_in _ _ (f p.left p.right p.left_in p.right_in) (go ps)

    -- the set of all a with a·c in P
    module _ (P : A → Type 0) (𝓟 : IsModule R.ops S P) (c : A) where
      abbrev Divided : A → Type 0
      Divided a = P (a ⊗ c)

      divided_module : IsModule R.ops S Divided
      divided_module = record {
        zero_in = subst P (sym (zero_mul R c)) 𝓟.zero_in;
        sum_in = λ a b h k. subst P (sym (add_mul R a b c)) (𝓟.sum_in _ _ h k);
        scale_in = λ s a m h. subst P (sym (R.mul_assoc s a c)) (𝓟.scale_in _ _ m h);
      }

    pub colon_module : (M N : A → Type 0) → IsModule R.ops S M → IsModule R.ops S (Colon R.ops M N)
    colon_module M N 𝓜 = record {
      zero_in = λ y n. (divided_module M 𝓜 y).zero_in;
      sum_in = λ a b h k y n. (divided_module M 𝓜 y).sum_in a b (h y n) (k y n);
      scale_in = λ s a m h y n. (divided_module M 𝓜 y).scale_in s a m (h y n);
    }

    -- b·a is spanned by the b·c, where a is spanned by the c
    pub span_multiples : (b : A) (cs : List A) (a : A) → Span R.ops S cs a → Span R.ops S (map (◌⊗◌ b) cs) (b ⊗ a)
    span_multiples b [] a h = ap (λ z. b ⊗ z) h ∙ mul_zero R b
    span_multiples b (c ∷ cs) a h = record {
      scalar = h.scalar;
      scalar_in = h.scalar_in;
      rest = b ⊗ h.rest;
      rest_in = span_multiples b cs h.rest h.rest_in;
      is = ap (λ z. b ⊗ z) h.is
          ∙ ring R (b ∷ c ∷ h.scalar ∷ h.rest ∷ []) λ q x. simp (reads, q, x 0, x 1, x 2, x 3) (q.equal _ _ refl);
    }

    pub span_product_in : (bs cs : List A) (a c : A) → Span R.ops S bs a → Span R.ops S cs c
        → Span R.ops S (products R.ops bs cs) (a ⊗ c)
    span_product_in [] cs a c h k = ap (λ z. z ⊗ c) h ∙ zero_mul R c
    span_product_in (b ∷ bs) cs a c h k =
        let all = map (◌⊗◌ b) cs ++ products R.ops bs cs in
        let first : Span R.ops S all (b ⊗ c)
        = span_append_left (map (◌⊗◌ b) cs) (products R.ops bs cs) (b ⊗ c) (span_multiples b cs c k) in
        let others : Span R.ops S all (h.rest ⊗ c)
        = span_append_right (map (◌⊗◌ b) cs) (products R.ops bs cs) (h.rest ⊗ c)
        (span_product_in bs cs h.rest c h.rest_in k) in
        let e : h.scalar ⊗ (b ⊗ c) ⊕ h.rest ⊗ c ≡ a ⊗ c
        = ap (λ z. z ⊕ h.rest ⊗ c) (sym (R.mul_assoc _ _ _)) ∙ sym (add_mul R _ _ _) ∙ ap (λ z. z ⊗ c) (sym h.is) in
        subst (Span R.ops S all) e (span_sum all _ _ (span_scale all _ _ h.scalar_in first) others)

    pub products_in : (bs cs : List A) → All (Product R.ops (Span R.ops S bs) (Span R.ops S cs)) (products R.ops bs cs)
    products_in [] cs = All-nil (Product R.ops (Span R.ops S []) (Span R.ops S cs))
    products_in (b ∷ bs) cs =
        let all = Product R.ops (Span R.ops S (b ∷ bs)) (Span R.ops S cs) in
        let fewer = Product R.ops (Span R.ops S bs) (Span R.ops S cs) in
        let wider : (a : A) → fewer a → all a
        = product_least (Span R.ops S bs) (Span R.ops S cs) all
        (product_module (Span R.ops S (b ∷ bs)) (Span R.ops S cs) (span_module (b ∷ bs)))
        (λ a c m n. product_member (Span R.ops S (b ∷ bs)) (Span R.ops S cs) a c (span_tail b bs a m) n) in
        All-append all (map (◌⊗◌ b) cs) (products R.ops bs cs)
        (All-map all (◌⊗◌ b) cs
        (All-weaker (Span R.ops S cs) (λ c. all (b ⊗ c))
        (λ c n. product_member (Span R.ops S (b ∷ bs)) (Span R.ops S cs) b c (span_head b bs) n)
        cs (span_members cs)))
        (All-weaker fewer all wider (products R.ops bs cs) (products_in bs cs))

    -- the product of two spans is the span of the products of generators
    pub product_of_spans : (bs cs : List A) (a : A)
        → Product R.ops (Span R.ops S bs) (Span R.ops S cs) a ↔ Span R.ops S (products R.ops bs cs) a
    product_of_spans bs cs a = (
      product_least (Span R.ops S bs) (Span R.ops S cs) (Span R.ops S (products R.ops bs cs)) (span_module _)
          (span_product_in bs cs) a,
      span_least (Product R.ops (Span R.ops S bs) (Span R.ops S cs)) (product_module _ _ (span_module bs)) _
          (products_in bs cs) a,
    )
