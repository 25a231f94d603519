-- Places of a ring B over an order O that has B locally at p: places and primes correspond, and their valuations agree.
use Rattle.std.proofs.Common.{◌≡◌, ◌↔◌, ◌⊎◌, inl, inr, ℕ, zero, suc, List, [], ◌∷◌, refl, sym, ◌∙◌, ap, ap₂, subst, All}
use Rattle.std.proofs.lemmas.List.Elements.{All-weaker}
use Rattle.ring_lemmas.specs.Ring.{CommRing, pow}
use Rattle.ring_theory.specs.Subsets.{IsSubring, IsModule, Span}
use Rattle.ring_theory.specs.Local.{Comaximal, PrimeTo, Locally}
use Rattle.ring_lemmas.proofs.Ring.{mul_zero, one_mul, mul_left_comm, mul_mul, mul_pow}
use Rattle.ring_theory.proofs.Local.{locally_module, by_comaximal}
use Rattle.ring_theory.proofs.Subsets.{span_least}
use Rattle.ring_lemmas.proofs.Solver.{ring, reads, from_one}
use Rattle.prime_theory.specs.Ideals.{IsIdeal, Power}
use Rattle.prime_theory.specs.Primes.{IsPrime, Outside, Pair, AtLeast}
use Rattle.prime_theory.specs.Places.{IsMaximalIdeal, PlaceOf, PlaceAtLeast, PlaceAtLeastMinus}
use Rattle.prime_theory.proofs.Localisation.{locally_ring, common}
use Rattle.prime_theory.proofs.Products.{product_universal, power_module, power_member, power_cancel}
use Rattle.prime_theory.proofs.Primes.{outside_product, outside_power, comaximal_outside}
use Rattle.prime_theory.proofs.Valuation.{theta_left, theta_right}

module _ {A : Type 0} (R : CommRing A) (S : A → Type 0) (𝓢 : IsSubring R.ops S) (N : A → Type 0) (p : A)
    (𝓝 : PrimeTo R.ops S N p)
    (O : A → Type 0) (𝓞 : IsSubring R.ops O) (base : (s : A) → S s → O s)
    (B : A → Type 0) (𝓑 : IsSubring R.ops B) (whole : (a : A) → O a → B a)
    (locally : (z : A) → B z → Locally R.ops N O z) where
  infixl 65 ◌⊕◌
  infixl 70 ◌⊗◌
  infixr 80 ⊖◌
  open R use {𝟘, 𝟙, ◌⊕◌, ◌⊗◌, ⊖◌}

  N_O : (w : A) → N w → O w
  N_O w m = base w (𝓝.within w m)

  over : (T M : A → Type 0) → ((s : A) → S s → T s) → IsIdeal R.ops T M → IsModule R.ops S M
  over T M f 𝓜 = record { zero_in = 𝓜.zero_in; sum_in = 𝓜.sum_in; scale_in = λ s a m n. 𝓜.scale_in s a (f s m) n }

  -- z is in an ideal with p that has a multiple w·z, w in N
  divide : (T M : A → Type 0) → ((s : A) → S s → T s) → IsIdeal R.ops T M → M p → (w z : A) → N w → T z → M (w ⊗ z)
      → M z
  divide T M f 𝓜 p_in w z w_in z_in h =
      by_comaximal R S 𝓢 M (over T M f 𝓜) w p z (𝓝.comaximal w w_in) h
      (subst M (R.mul_comm z p) (𝓜.scale_in z p z_in p_in))

  -- an inverse modulo a place, taken into O
  inverse_step : (v w u : A) (c : Comaximal R.ops S v p)
      → (w ⊗ u ⊕ ⊖ 𝟙) ⊕ ⊖ (c.right ⊗ w ⊗ u) ⊗ p ≡ c.left ⊗ (v ⊗ w) ⊗ u ⊕ ⊖ 𝟙
  inverse_step v w u c =
      from_one R (⊖ (w ⊗ u)) c.is
      (ring R (v ∷ w ∷ u ∷ p ∷ c.left ∷ c.right ∷ []) λ q x. simp (reads, q, x 0, x 1, x 2, x 3, x 4, x 5)
      (q.equal _ _ refl))

  -- the members in O of a place with p are a prime of O, where they are decided
  module _ (M : A → Type 0) (𝓜 : IsMaximalIdeal R.ops B M) (p_in : M p) where
    pub prime_of_place : ((u : A) → O u → M u ⊎ (¬ (M u))) → IsPrime R.ops O (λ a. O a × M a)
    prime_of_place decide = record {
      ideal = record {
        within = λ a h. h.0;
        zero_in = (𝓞.zero_in, 𝓜.ideal.zero_in);
        sum_in = λ a b h k. (𝓞.sum_in _ _ h.0 k.0, 𝓜.ideal.sum_in _ _ h.1 k.1);
        scale_in = λ s a h k. (𝓞.product_in _ _ h k.0, 𝓜.ideal.scale_in _ _ (whole s h) k.1);
      };
      proper = λ h. 𝓜.proper h.1;
      invert = λ u u_in n.
          let i = 𝓜.invert u (whole u u_in) (λ m. n (u_in, m)) in
          let l = locally i.inverse i.inverse_in in
          let c = 𝓝.comaximal l.factor l.factor_in in
          let y_in : O (c.left ⊗ (l.factor ⊗ i.inverse)) = 𝓞.product_in _ _ (base _ c.left_in) l.multiple_in in
          record {
            inverse = c.left ⊗ (l.factor ⊗ i.inverse);
            inverse_in = y_in;
            is = (
              𝓞.sum_in _ _ (𝓞.product_in _ _ y_in u_in) (𝓞.neg_in _ 𝓞.one_in),
              subst M (inverse_step l.factor i.inverse u c)
                  (𝓜.ideal.sum_in _ _ i.is
                  (𝓜.ideal.scale_in _ p
                  (𝓑.neg_in _ (𝓑.product_in _ _ (𝓑.product_in _ _ (whole _ (base _ c.right_in)) i.inverse_in)
                  (whole u u_in)))
                  p_in)),
            );
          };
      decide = λ u u_in. elim (decide u u_in) [ inl m ↦ inl (u_in, m) | inr n ↦ inr (λ h. n h.1) ];
    }

    -- the place is known from its members in O
    pub place_from_prime : (z : A) → M z ↔ PlaceOf R.ops B N (λ a. O a × M a) z
    place_from_prime z = (
      λ h.
          let z_in = 𝓜.ideal.within z h in
          let l = locally z z_in in (
            z_in,
            record {
              factor = l.factor;
              factor_in = l.factor_in;
              multiple_in = (l.multiple_in, 𝓜.ideal.scale_in _ _ (whole _ (N_O _ l.factor_in)) h);
            },
          ),
      λ h.
          divide B M (λ s m. whole s (base s m)) 𝓜.ideal p_in h.1.factor z h.1.factor_in h.0 h.1.multiple_in.1,
    )

  -- from a prime of O over p to a place
  module _ (P : A → Type 0) (𝓟 : IsPrime R.ops O P) (p_in : P p) where
    pub place_within : (z : A) → O z → PlaceOf R.ops B N P z ↔ P z
    place_within z z_in = (
      λ h. divide O P base 𝓟.ideal p_in h.1.factor z h.1.factor_in z_in h.1.multiple_in,
      λ h. (whole z z_in, record { factor = 𝟙; factor_in = 𝓝.one_in; multiple_in = subst P (sym (one_mul R z)) h }),
    )

    pub place_of_prime : IsMaximalIdeal R.ops B (PlaceOf R.ops B N P)
    place_of_prime = record {
      ideal = record {
        within = λ a h. h.0;
        zero_in = (𝓑.zero_in, local_module.zero_in);
        sum_in = λ a b h k. (𝓑.sum_in _ _ h.0 k.0, local_module.sum_in a b h.1 k.1);
        scale_in = λ s a h k.
            let l = locally s h in (
              𝓑.product_in _ _ h k.0,
              record {
                factor = l.factor ⊗ k.1.factor;
                factor_in = 𝓝.product_in _ _ l.factor_in k.1.factor_in;
                multiple_in = subst P (mul_mul R _ _ _ _) (𝓟.ideal.scale_in _ _ l.multiple_in k.1.multiple_in);
              },
            );
      };
      proper = λ h. 𝓟.proper ((place_within 𝟙 𝓞.one_in).0 h);
      invert = λ u u_in n.
          let l = locally u u_in in
          let i = 𝓟.invert (l.factor ⊗ u) l.multiple_in
          (λ m. n (u_in, record { factor = l.factor; factor_in = l.factor_in; multiple_in = m })) in
          let y_in : O (i.inverse ⊗ l.factor) = 𝓞.product_in _ _ i.inverse_in (N_O _ l.factor_in) in
          let k : P (i.inverse ⊗ l.factor ⊗ u ⊕ ⊖ 𝟙) = subst P (ap (λ x. x ⊕ ⊖ 𝟙) (sym (R.mul_assoc _ _ _))) i.is in
          record {
            inverse = i.inverse ⊗ l.factor;
            inverse_in = whole _ y_in;
            is = (
              whole _ (𝓟.ideal.within _ k),
              record {
                factor = 𝟙;
                factor_in = 𝓝.one_in;
                multiple_in = subst P (sym (one_mul R _)) k;
              },
            );
          };
    }
      where
        local_module : IsModule R.ops S (Locally R.ops N P)
        local_module = locally_module R S 𝓢 N p 𝓝 P (over O P base 𝓟.ideal)

  -- the valuation of a place and of its prime
  module _ (P : A → Type 0) (𝓟 : IsPrime R.ops O P) (p_in : P p) (t : Pair R.ops O P)
      (M : A → Type 0) (𝓜 : IsIdeal R.ops B M) (to_prime : (z : A) → M z → Locally R.ops N P z)
      (from_prime : (z : A) → P z → M z) where
    abbrev tau : A
    tau = t.tau

    abbrev gamma : A
    gamma = t.gamma

    𝓜b : IsModule R.ops B M
    𝓜b = record { zero_in = 𝓜.zero_in; sum_in = 𝓜.sum_in; scale_in = 𝓜.scale_in }

    N_outside : (w : A) → N w → Outside O P w
    N_outside w m =
        let c = 𝓝.comaximal w m in
        comaximal_outside R O 𝓞 P 𝓟 w p (N_O w m) p_in (record {
          left = c.left;
          left_in = base _ c.left_in;
          right = c.right;
          right_in = base _ c.right_in;
          is = c.is;
        })

    -- outside the place and outside the prime
    outside_down : (u w : A) → B u → ¬ (M u) → N w → O (w ⊗ u) → Outside O P (w ⊗ u)
    outside_down u w u_in n w_in h = record {
      within = h;
      out = λ m. n (divide B M (λ s k. whole s (base s k)) 𝓜 (from_prime p p_in) w u w_in u_in (from_prime _ m));
    }

    outside_up : (u : A) → Outside O P u → ¬ (M u)
    outside_up u h m =
        let l = to_prime u m in
        (outside_product R O 𝓞 P 𝓟 l.factor u (N_outside l.factor l.factor_in) h).out l.multiple_in

    O_local : IsSubring R.ops (Locally R.ops N O)
    O_local =
        locally_ring R S 𝓢 N (record { within = 𝓝.within; one_in = 𝓝.one_in; product_in = 𝓝.product_in }) O
        (record { zero_in = 𝓞.zero_in; sum_in = 𝓞.sum_in; scale_in = λ s a m n. 𝓞.product_in _ _ (base s m) n }) 𝓞

    -- gamma^m takes the m-th power of the place into O locally
    power_down : (m : ℕ) (a : A) → Power R.ops B M m a → Locally R.ops N O (pow R.ops gamma m ⊗ a)
    power_down zero a h = subst (Locally R.ops N O) (sym (one_mul R a)) (locally a h)
    power_down (suc m) a h =
        product_universal R M (Power R.ops B M m) (Locally R.ops N O)
        (record { zero_in = O_local.zero_in; sum_in = O_local.sum_in }) (pow R.ops gamma (suc m))
        (λ b c i j.
        let l = to_prime b i in
        let first : Locally R.ops N O (gamma ⊗ b) = record {
          factor = l.factor;
          factor_in = l.factor_in;
          multiple_in = subst O (mul_left_comm R _ _ _) (t.gamma_in _ l.multiple_in);
        } in
        subst (Locally R.ops N O) (mul_mul R _ _ _ _) (O_local.product_in _ _ first (power_down m c j)))
        a h

    cleared_unit : (u x y : A) → N y → O (x ⊗ u) → O (x ⊗ y ⊗ u)
    cleared_unit u x y y_in m =
        subst O (ap (λ w. w ⊗ u) (R.mul_comm y x))
        (subst O (sym (R.mul_assoc y x u)) (𝓞.product_in _ _ (N_O y y_in) m))

    pub value_of_place : (z : A) (m : ℕ) → PlaceAtLeast R.ops B M z m → AtLeast R.ops O P tau gamma z m 0
    value_of_place z m h =
        let a = power_down m (h.unit ⊗ z) h.inside in
        let l = locally h.unit h.unit_in in
        let w = l.factor ⊗ a.factor in
        let w_in = 𝓝.product_in _ _ l.factor_in a.factor_in in
        let f : (x y u g : A) → x ⊗ (y ⊗ (g ⊗ (u ⊗ z))) ≡ x ⊗ y ⊗ u ⊗ z ⊗ g
        = λ x y u g. ring R (x ∷ y ∷ u ∷ g ∷ z ∷ []) λ q i. simp (reads, q, i 0, i 1, i 2, i 3, i 4)
        (q.equal _ _ refl) in
        record {
          unit = w ⊗ h.unit;
          unit_out = outside_down h.unit w h.unit_in h.unit_out w_in
              (cleared_unit h.unit l.factor a.factor a.factor_in l.multiple_in);
          inside =
              subst O (f l.factor a.factor h.unit (pow R.ops gamma m)
              ∙ ap (λ x. w ⊗ h.unit ⊗ z ⊗ x) (sym (theta_left R tau gamma m)))
              (𝓞.product_in _ _ (N_O _ l.factor_in) a.multiple_in);
        }

    pub place_of_value : (z : A) (m : ℕ) → AtLeast R.ops O P tau gamma z m 0 → PlaceAtLeast R.ops B M z m
    place_of_value z m h =
        let u = h.unit ⊗ pow R.ops (tau ⊗ gamma) m in
        let u_out = outside_product R O 𝓞 P 𝓟 _ _ h.unit_out (outside_power R O 𝓞 P 𝓟 _ t.outside m) in
        let f : (v x y : A) → v ⊗ z ⊗ y ⊗ x ≡ v ⊗ (x ⊗ y) ⊗ z
        = λ v x y. ring R (v ∷ x ∷ y ∷ z ∷ []) λ q i. simp (reads, q, i 0, i 1, i 2, i 3) (q.equal _ _ refl) in
        record {
          unit = u;
          unit_in = whole _ u_out.within;
          unit_out = outside_up u u_out;
          inside =
              subst (Power R.ops B M m)
              (ap (λ x. h.unit ⊗ z ⊗ x ⊗ pow R.ops tau m) (theta_left R tau gamma m)
              ∙ f h.unit (pow R.ops tau m) (pow R.ops gamma m) ∙ ap (λ x. h.unit ⊗ x ⊗ z) (sym (mul_pow R tau gamma m)))
              ((power_module R B 𝓑 M 𝓜b m).scale_in _ _ (whole _ h.inside)
              (power_member R B 𝓑 M 𝓜b tau (from_prime tau t.tau_in) m));
        }

    pub value_of_place_minus : (z : A) (m : ℕ) → PlaceAtLeastMinus R.ops B M z m → AtLeast R.ops O P tau gamma z 0 m
    value_of_place_minus z m h =
        let a = locally _ (h.takes _ (power_member R B 𝓑 M 𝓜b tau (from_prime tau t.tau_in) m)) in
        let l = locally h.unit h.unit_in in
        let w = l.factor ⊗ a.factor in
        let w_in = 𝓝.product_in _ _ l.factor_in a.factor_in in
        let f : (x y u g : A) → x ⊗ (y ⊗ (u ⊗ z ⊗ g)) ≡ x ⊗ y ⊗ u ⊗ z ⊗ g
        = λ x y u g. ring R (x ∷ y ∷ u ∷ g ∷ z ∷ []) λ q i. simp (reads, q, i 0, i 1, i 2, i 3, i 4)
        (q.equal _ _ refl) in
        record {
          unit = w ⊗ h.unit;
          unit_out = outside_down h.unit w h.unit_in h.unit_out w_in
              (cleared_unit h.unit l.factor a.factor a.factor_in l.multiple_in);
          inside =
              subst O (f l.factor a.factor h.unit (pow R.ops tau m)
              ∙ ap (λ x. w ⊗ h.unit ⊗ z ⊗ x) (sym (theta_right R tau gamma m)))
              (𝓞.product_in _ _ (N_O _ l.factor_in) a.multiple_in);
        }

    -- with finitely many generators of the place there is one factor for gamma
    module _ (gens : List A) (gens_in : All M gens) (spanned : (b : A) → M b → Span R.ops B gens b) where
      record Factor : Type 0 where
        factor : A
        factor_in : N factor
        takes : (b : A) → M b → B (factor ⊗ gamma ⊗ b)

      factor_of : Factor
      factor_of =
          let c = common R S 𝓢 N p 𝓝 P (over O P base 𝓟.ideal) gens
          (All-weaker M (Locally R.ops N P) to_prime gens gens_in) in
          let W = c.factor in
          let 𝓓 : IsModule R.ops B (λ b. B (W ⊗ gamma ⊗ b)) = record {
            zero_in = subst B (sym (mul_zero R _)) 𝓑.zero_in;
            sum_in = λ x y h k. subst B (sym (R.mul_add _ _ _)) (𝓑.sum_in _ _ h k);
            scale_in = λ s x h k. subst B (mul_left_comm R _ _ _) (𝓑.product_in _ _ h k);
          } in
          let f : (b : A) → gamma ⊗ (W ⊗ b) ≡ W ⊗ gamma ⊗ b
          = λ b. mul_left_comm R _ _ _ ∙ sym (R.mul_assoc _ _ _) in
          record {
            factor = W;
            factor_in = c.factor_in;
            takes = λ b m.
                span_least R B 𝓑 (λ b. B (W ⊗ gamma ⊗ b)) 𝓓 gens
                (All-weaker (λ z. P (W ⊗ z)) (λ b. B (W ⊗ gamma ⊗ b))
                (λ b k. subst B (f b) (whole _ (t.gamma_in _ k))) gens c.multiples_in)
                b (spanned b m);
          }

      pub place_minus_of_value : (z : A) (m : ℕ) → AtLeast R.ops O P tau gamma z 0 m → PlaceAtLeastMinus R.ops B M z m
      place_minus_of_value z m h =
          let W = factor_of.factor in
          let r = pow R.ops (tau ⊗ gamma) m in
          let u = h.unit ⊗ (pow R.ops W m ⊗ r) in
          let u_out
          = outside_product R O 𝓞 P 𝓟 _ _ h.unit_out
          (outside_product R O 𝓞 P 𝓟 _ _
          (outside_power R O 𝓞 P 𝓟 _ (N_outside W factor_of.factor_in) m)
          (outside_power R O 𝓞 P 𝓟 _ t.outside m)) in
          let f : (v x y w a : A) → v ⊗ z ⊗ x ⊗ (w ⊗ y ⊗ a) ≡ v ⊗ (w ⊗ (x ⊗ y)) ⊗ z ⊗ a
          = λ v x y w a. ring R (v ∷ x ∷ y ∷ w ∷ a ∷ z ∷ []) λ q i. simp (reads, q, i 0, i 1, i 2, i 3, i 4, i 5)
          (q.equal _ _ refl) in
          record {
            unit = u;
            unit_in = whole _ u_out.within;
            unit_out = outside_up u u_out;
            takes = λ a k.
                let c : B (pow R.ops (W ⊗ gamma) m ⊗ a) = power_cancel R B 𝓑 M (W ⊗ gamma) factor_of.takes m a k in
                subst B
                (ap₂ (λ x y. h.unit ⊗ z ⊗ x ⊗ (y ⊗ a)) (theta_right R tau gamma m) (mul_pow R W gamma m)
                ∙ f h.unit (pow R.ops tau m) (pow R.ops gamma m) (pow R.ops W m) a
                ∙ ap (λ x. h.unit ⊗ (pow R.ops W m ⊗ x) ⊗ z ⊗ a) (sym (mul_pow R tau gamma m)))
                (𝓑.product_in _ _ (whole _ h.inside) c);
          }
