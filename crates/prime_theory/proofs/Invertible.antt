-- Invertible modules: a local criterion at p without prime ideals, uniqueness of the inverse, products.
use Rattle.std.proofs.Common.{◌≡◌, ◌⊎◌, inl, inr, ℕ, zero, suc, List, [], ◌∷◌, refl, sym, ap, subst, All}
use Rattle.std.proofs.lemmas.List.Elements.{All-nil, All-cons, All-head, All-tail, All-weaker}
use Rattle.ring_lemmas.specs.Ring.{CommRing, pow}
use Rattle.ring_theory.specs.Subsets.{Span, IsSubring, IsModule, Product, Colon}
use Rattle.ring_lemmas.proofs.Ring.{one_mul, mul_zero, mul_left_comm}
use Rattle.ring_theory.proofs.Subsets.{product_member, product_module, colon_module, span_least}
use Rattle.ring_lemmas.proofs.Solver.{ring, reads, from_one}
use Rattle.prime_theory.specs.Ideals.{IsIdeal, SameSet, Inverse, Invertible, Multiple}
use Rattle.prime_theory.specs.Systems.{UnitModulo}
use Rattle.prime_theory.proofs.Localisation.{lift}
use Rattle.prime_theory.proofs.Products.{product_into, product_universal, own_module, additive_of_module}
use Rattle.prime_theory.proofs.AtPrime.{product_exchange}

module _ {A : Type 0} (R : CommRing A) (O : A → Type 0) (𝓞 : IsSubring R.ops O) where
  infixl 65 ◌⊕◌
  infixl 70 ◌⊗◌
  infixr 80 ⊖◌
  open R use {𝟘, 𝟙, ◌⊕◌, ◌⊗◌, ⊖◌}

  pub inverse_is_module : (M : A → Type 0) → IsModule R.ops O (Inverse R.ops O M)
  inverse_is_module M = colon_module R O 𝓞 O M (own_module R O 𝓞)

  -- the product of a module and its inverse is an ideal
  pub trace_ideal : (M : A → Type 0) → IsModule R.ops O M → IsIdeal R.ops O (Product R.ops M (Inverse R.ops O M))
  trace_ideal M 𝓜 =
      let 𝓟 = product_module R O 𝓞 M (Inverse R.ops O M) 𝓜 in
      record {
        within =
            product_into R M (Inverse R.ops O M) O (additive_of_module R O O (own_module R O 𝓞))
            (λ a b m n. subst O (R.mul_comm b a) (n a m));
        zero_in = 𝓟.zero_in;
        sum_in = 𝓟.sum_in;
        scale_in = 𝓟.scale_in;
      }

  -- annihilators modulo an ideal

  module _ (C : A → Type 0) (𝓒 : IsIdeal R.ops O C) (decide : (x : A) → O x → C x ⊎ (¬ (C x))) where
    -- a multiple of b outside C that c takes into C
    record Killed (b c : A) : Type 0 where
      multiplier : A
      multiplier_in : O multiplier
      out : ¬ (C (multiplier ⊗ b))
      kills : C (multiplier ⊗ b ⊗ c)

    killed : (c : A) → O c → (n : ℕ) (b : A) → O b → ¬ (C b) → C (b ⊗ pow R.ops c n) → Killed b c
    killed c c_in zero b b_in h k = absurd (h (subst C (R.mul_one b) k))
    killed c c_in (suc n) b b_in h k = go (decide (b ⊗ c) bc_in) (killed c c_in n (b ⊗ c) bc_in)
      where
        bc_in : O (b ⊗ c)
        bc_in = 𝓞.product_in _ _ b_in c_in

        go : C (b ⊗ c) ⊎ (¬ (C (b ⊗ c))) → (¬ (C (b ⊗ c)) → C (b ⊗ c ⊗ pow R.ops c n) → Killed (b ⊗ c) c) → Killed b c
        go (inl m) f = record {
          multiplier = 𝟙;
          multiplier_in = 𝓞.one_in;
          out = λ j. h (subst C (one_mul R b) j);
          kills = subst C (ap (λ x. x ⊗ c) (sym (one_mul R b))) m;
        }
        go (inr m) f =
            let r = f m (subst C (sym (R.mul_assoc _ _ _)) k) in
            let e : (x : A) → x ⊗ (b ⊗ c) ≡ x ⊗ c ⊗ b
            = λ x. ring R (x ∷ b ∷ c ∷ []) λ q i. simp (reads, q, i 0, i 1, i 2) (q.equal _ _ refl) in
            record {
              multiplier = r.multiplier ⊗ c;
              multiplier_in = 𝓞.product_in _ _ r.multiplier_in c_in;
              out = λ j. r.out (subst C (sym (e r.multiplier)) j);
              kills = subst C (ap (λ x. x ⊗ c) (e r.multiplier)) r.kills;
            }

    -- an element outside C that takes all members of a list into C
    pub record Annihilator (b : A) (cs : List A) : Type 0 where
      pub multiplier : A
      pub multiplier_in : O multiplier
      pub out : ¬ (C (multiplier ⊗ b))
      pub kills : All (λ c. C (multiplier ⊗ b ⊗ c)) cs

    pub annihilator : (b : A) → O b → ¬ (C b) → (cs : List A) → All (λ c. O c × ((n : ℕ) × C (b ⊗ pow R.ops c n))) cs
        → Annihilator b cs
    annihilator b b_in h [] k = record {
      multiplier = 𝟙;
      multiplier_in = 𝓞.one_in;
      out = λ j. h (subst C (one_mul R b) j);
      kills = All-nil (λ c. C (𝟙 ⊗ b ⊗ c));
    }
    annihilator b b_in h (c ∷ cs) k =
        let K : A → Type 0 = λ c. O c × ((n : ℕ) × C (b ⊗ pow R.ops c n)) in
        let first = All-head K c cs k in
        let r = annihilator b b_in h cs (All-tail K c cs k) in
        let b' = r.multiplier ⊗ b in
        let s = killed c first.0 first.1.0 b' (𝓞.product_in _ _ r.multiplier_in b_in) r.out
        (subst C (sym (R.mul_assoc _ _ _)) (𝓒.scale_in _ _ r.multiplier_in first.1.1)) in
        let m = s.multiplier ⊗ r.multiplier in
        record {
          multiplier = m;
          multiplier_in = 𝓞.product_in _ _ s.multiplier_in r.multiplier_in;
          out = λ j. s.out (subst C (R.mul_assoc _ _ _) j);
          kills =
              All-cons (λ x. C (m ⊗ b ⊗ x)) c cs (subst C (ap (λ x. x ⊗ c) (sym (R.mul_assoc _ _ _))) s.kills)
              (All-weaker (λ x. C (r.multiplier ⊗ b ⊗ x)) (λ x. C (m ⊗ b ⊗ x))
              (λ x j.
              let e : s.multiplier ⊗ (r.multiplier ⊗ b ⊗ x) ≡ m ⊗ b ⊗ x
              = ring R (s.multiplier ∷ r.multiplier ∷ b ∷ x ∷ []) λ q i. simp (reads, q, i 0, i 1, i 2, i 3)
              (q.equal _ _ refl) in
              subst C e (𝓒.scale_in _ _ s.multiplier_in j))
              cs r.kills);
        }

  -- an element of O outside p·O that takes the trace ideal into p·O
  pub record Obstruction (p : A) (M : A → Type 0) : Type 0 where
    pub element : A
    pub element_in : O element
    pub out : ¬ (Multiple R.ops p O element)
    pub kills : (y : A) → Product R.ops M (Inverse R.ops O M) y → Multiple R.ops p O (element ⊗ y)

  -- at p, an inverse of p in hand: where O has the multipliers z of the inverse with p·z in O, there is no obstruction
  pub no_obstruction : (p r : A) → r ⊗ p ≡ 𝟙 → (M : A → Type 0) → IsModule R.ops O M
      → ((z : A) → Colon R.ops (Inverse R.ops O M) (Inverse R.ops O M) z → O (p ⊗ z) → O z) → Obstruction p M → ⊥
  no_obstruction p r e M 𝓜 maximal b =
      let z = r ⊗ b.element in
      let pz : p ⊗ z ≡ b.element
      = from_one R b.element e (ring R (p ∷ r ∷ b.element ∷ []) λ q i. simp (reads, q, i 0, i 1, i 2)
      (q.equal _ _ refl)) in
      let z_in : O z
      = maximal z
      (λ y m x n.
      let k = b.kills (x ⊗ y) (product_member R O 𝓞 M (Inverse R.ops O M) x y n m) in
      subst O (back x y k.quotient k.is) k.quotient_in)
      (subst O (sym pz) b.element_in) in
      b.out (record { quotient = z; quotient_in = z_in; is = sym pz })
    where
      back : (x y w : A) → b.element ⊗ (x ⊗ y) ≡ p ⊗ w → w ≡ r ⊗ b.element ⊗ y ⊗ x
      back x y w f =
          Rattle.ring_lemmas.proofs.Solver.from_two R (⊖ w) (⊖ r) e f
          (ring R (p ∷ r ∷ b.element ∷ x ∷ y ∷ w ∷ []) λ q i. simp (reads, q, i 0, i 1, i 2, i 3, i 4, i 5)
          (q.equal _ _ refl))

  -- so, with the decision, the trace ideal has a member that is 1 modulo p
  pub unit_at : (p r : A) → r ⊗ p ≡ 𝟙 → (M : A → Type 0) → IsModule R.ops O M
      → ((z : A) → Colon R.ops (Inverse R.ops O M) (Inverse R.ops O M) z → O (p ⊗ z) → O z)
      → UnitModulo R.ops O p (Product R.ops M (Inverse R.ops O M)) ⊎ Obstruction p M
      → UnitModulo R.ops O p (Product R.ops M (Inverse R.ops O M))
  unit_at p r e M 𝓜 maximal (inl u) = u
  unit_at p r e M 𝓜 maximal (inr b) = absurd (no_obstruction p r e M 𝓜 maximal b)

  -- and each w of O with p^n·w in the trace ideal is in it
  pub trace_at : (p : A) → O p → (M : A → Type 0) → IsModule R.ops O M
      → UnitModulo R.ops O p (Product R.ops M (Inverse R.ops O M)) → (n : ℕ) (w : A) → O w
      → Product R.ops M (Inverse R.ops O M) (pow R.ops p n ⊗ w) → Product R.ops M (Inverse R.ops O M) w
  trace_at p p_in M 𝓜 u n w = lift R O 𝓞 p p_in _ (trace_ideal M 𝓜) u.member u.member_in u.one_modulo n w

  -- where M is O up to factors w, w', the trace ideal has w·w'
  pub trace_of_local : (M : A → Type 0) (w w' : A) → ((x : A) → M x → O (w ⊗ x)) → M w'
      → Product R.ops M (Inverse R.ops O M) (w' ⊗ w)
  trace_of_local M w w' f m = product_member R O 𝓞 M (Inverse R.ops O M) w' w m f

  -- an obstruction from an element outside p·O that powers of generators of the trace ideal take into p·O
  pub obstruction : (p : A) → O p → ((x : A) → O x → Multiple R.ops p O x ⊎ (¬ (Multiple R.ops p O x)))
      → IsIdeal R.ops O (Multiple R.ops p O) → (M : A → Type 0) (cs : List A)
      → ((y : A) → Product R.ops M (Inverse R.ops O M) y → Span R.ops O cs y)
      → (b : A) → O b → ¬ (Multiple R.ops p O b)
      → All (λ c. O c × ((n : ℕ) × Multiple R.ops p O (b ⊗ pow R.ops c n))) cs
      → Obstruction p M
  obstruction p p_in decide 𝓒 M cs spanned b b_in out h =
      let a = annihilator (Multiple R.ops p O) 𝓒 decide b b_in out cs h in
      let e = a.multiplier ⊗ b in
      let 𝓓 : IsModule R.ops O (λ y. Multiple R.ops p O (e ⊗ y)) = record {
        zero_in = subst (Multiple R.ops p O) (sym (mul_zero R e)) 𝓒.zero_in;
        sum_in = λ x y j k. subst (Multiple R.ops p O) (sym (R.mul_add _ _ _)) (𝓒.sum_in _ _ j k);
        scale_in = λ s x j k. subst (Multiple R.ops p O) (mul_left_comm R _ _ _) (𝓒.scale_in _ _ j k);
      } in
      record {
        element = e;
        element_in = 𝓞.product_in _ _ a.multiplier_in b_in;
        out = a.out;
        kills = λ y m. span_least R O 𝓞 (λ y. Multiple R.ops p O (e ⊗ y)) 𝓓 cs a.kills y (spanned y m);
      }

  -- the inverse is unique
  pub inverse_unique : (M J : A → Type 0) → IsModule R.ops O J → Product R.ops M J 𝟙
      → ((a b : A) → M a → J b → O (a ⊗ b)) → SameSet J (Inverse R.ops O M)
  inverse_unique M J 𝓙 one f z = (
    λ m x n. subst O (R.mul_comm _ _) (f x z n m),
    λ m.
        subst J (R.mul_one z)
        (product_universal R M J J (additive_of_module R O J 𝓙) z
        (λ a b i j. subst J (R.mul_assoc _ _ _) (𝓙.scale_in _ _ (m a i) j)) 𝟙 one),
  )

  -- products of invertible modules
  pub invertible_product : (M N : A → Type 0) → IsModule R.ops O M → IsModule R.ops O N → Invertible R.ops O M
      → Invertible R.ops O N
      → Product R.ops (Product R.ops M N) (Product R.ops (Inverse R.ops O M) (Inverse R.ops O N)) 𝟙
  invertible_product M N 𝓜 𝓝 h k =
      let M' = Inverse R.ops O M in
      let N' = Inverse R.ops O N in
      product_exchange R O 𝓞 M M' N N' 𝓜 (inverse_is_module M) 𝓝 𝟙
      (subst (Product R.ops (Product R.ops M M') (Product R.ops N N')) (R.mul_one 𝟙)
      (product_member R O 𝓞 (Product R.ops M M') (Product R.ops N N') 𝟙 𝟙 h k))

  pub inverse_of_product : (M N : A → Type 0) → IsModule R.ops O M → IsModule R.ops O N → Invertible R.ops O M
      → Invertible R.ops O N
      → SameSet (Product R.ops (Inverse R.ops O M) (Inverse R.ops O N)) (Inverse R.ops O (Product R.ops M N))
  inverse_of_product M N 𝓜 𝓝 h k =
      let M' = Inverse R.ops O M in
      let N' = Inverse R.ops O N in
      inverse_unique (Product R.ops M N) (Product R.ops M' N') (product_module R O 𝓞 M' N' (inverse_is_module M))
      (invertible_product M N 𝓜 𝓝 h k)
      (λ a b i j. all (a ⊗ b) (product_member R O 𝓞 (Product R.ops M N) (Product R.ops M' N') a b i j))
    where
      all : (z : A) → Product R.ops (Product R.ops M N) (Product R.ops (Inverse R.ops O M) (Inverse R.ops O N)) z → O z
      all z m =
          product_into R (Product R.ops M (Inverse R.ops O M)) (Product R.ops N (Inverse R.ops O N)) O
          (additive_of_module R O O (own_module R O 𝓞))
          (λ a b i j. 𝓞.product_in _ _ ((trace_ideal M 𝓜).within a i) ((trace_ideal N 𝓝).within b j)) z
          (product_exchange R O 𝓞 M N (Inverse R.ops O M) (Inverse R.ops O N) 𝓜 𝓝 (inverse_is_module M) z m)
