-- Local orthogonal idempotents modulo p give a prime system at p.
use Rattle.std.proofs.Common.{◌≡◌, ◌⊎◌, inl, inr, List, [], ◌∷◌, refl, sym, subst, All, ℕ, zero, suc}
use Rattle.std.proofs.lemmas.List.Elements.{All-nil, All-cons, All-head, All-tail}
use Rattle.ring_lemmas.specs.Ring.{CommRing, pow}
use Rattle.ring_lemmas.specs.Sums.{sum_over}
use Rattle.ring_theory.specs.Subsets.{IsSubring}
use Rattle.ring_lemmas.proofs.Ring.{one_mul, mul_zero, zero_mul, add_mul, mul_pow}
use Rattle.ring_lemmas.proofs.Solver.{ring, reads}
use Rattle.prime_theory.specs.Ideals.{IsIdeal, Multiple, SameSet}
use Rattle.prime_theory.specs.Primes.{IsPrime, InverseModulo, Different}
use Rattle.prime_theory.specs.Orders.{Radical}
use Rattle.prime_theory.specs.Systems.{IsSystem, IsDecomposition, PrimeAt}
use Rattle.prime_theory.proofs.Primes.{ideal_neg}
use Rattle.prime_theory.proofs.PohstZassenhaus.{multiples_ideal}
use Rattle.prime_theory.proofs.Radicals.{radical_ideal, p_in_radical}
use Rattle.ring_theory.proofs.Local.{power_in}

module _ {A : Type 0} (R : CommRing A) (O : A → Type 0) (𝓞 : IsSubring R.ops O) (p : A) (p_in : O p)
    (I : Type 0) (e : I → A) (is : List I) (dec : IsDecomposition R.ops O p I e is) where
  infixl 65 ◌⊕◌
  infixl 70 ◌⊗◌
  infixr 80 ⊖◌
  open R use {𝟘, 𝟙, ◌⊕◌, ◌⊗◌, ⊖◌}

  abbrev pO : A → Type 0
  pO = Multiple R.ops p O

  abbrev Rad : A → Type 0
  Rad = Radical R.ops O p

  𝓡 : IsIdeal R.ops O (Radical R.ops O p)
  𝓡 = radical_ideal R O 𝓞 p p_in

  𝓟 : IsIdeal R.ops O (Multiple R.ops p O)
  𝓟 = multiples_ideal R O 𝓞 p p_in p p_in

  rad_of : (a : A) → pO a → Rad a
  rad_of = p_in_radical R O 𝓞 p p_in

  abbrev P : I → A → Type 0
  P i = PrimeAt R.ops O p (e i)

  -- a and b are both in an ideal where their difference and b are
  recover : (C : A → Type 0) → IsIdeal R.ops O C → (a b : A) → C a → C (a ⊕ ⊖ b) → C b
  recover C 𝓒 a b h k =
      subst C (ring R (a ∷ b ∷ []) λ q x. simp (reads, q, x 0, x 1) (q.equal _ _ refl))
      (𝓒.sum_in _ _ h (ideal_neg R O 𝓞 C 𝓒 _ k))

  -- powers of an idempotent
  idempotent_power : (i : I) (n : ℕ) → Multiple R.ops p O (pow R.ops (e i) (suc n) ⊕ ⊖ (e i))
  idempotent_power i zero =
      let f : (x : A) → 𝟘 ≡ x ⊗ 𝟙 ⊕ ⊖ x = λ x. ring R (x ∷ []) λ q j. simp (reads, q, j 0) (q.equal _ _ refl) in
      subst (Multiple R.ops p O) (f (e i)) 𝓟.zero_in
  idempotent_power i (suc n) =
      let f : (x y : A) → x ⊗ (y ⊕ ⊖ x) ⊕ (x ⊗ x ⊕ ⊖ x) ≡ x ⊗ y ⊕ ⊖ x
      = λ x y. ring R (x ∷ y ∷ []) λ q j. simp (reads, q, j 0, j 1) (q.equal _ _ refl) in
      subst (Multiple R.ops p O) (f (e i) (pow R.ops (e i) (suc n)))
      (𝓟.sum_in _ _ (𝓟.scale_in _ _ (dec.within i) (idempotent_power i n)) (dec.idempotent i))

  -- what is nilpotent at an idempotent has a power that takes it into p·O
  pub killed : (i : I) (c : A) → O c → Radical R.ops O p (c ⊗ e i) → (n : ℕ) × Multiple R.ops p O (e i ⊗ pow R.ops c n)
  killed i c c_in h =
      let n = suc h.nilpotent.exponent in
      let f : (x y z : A) → x ⊗ y ⊕ ⊖ (x ⊗ (y ⊕ ⊖ z)) ≡ z ⊗ x
      = λ x y z. ring R (x ∷ y ∷ z ∷ []) λ q j. simp (reads, q, j 0, j 1, j 2) (q.equal _ _ refl) in (
        n,
        subst (Multiple R.ops p O) (f (pow R.ops c n) (pow R.ops (e i) n) (e i))
            (𝓟.sum_in _ _ (subst (Multiple R.ops p O) (mul_pow R c (e i) n) h.nilpotent.power_in)
            (ideal_neg R O 𝓞 (Multiple R.ops p O) 𝓟 _
            (𝓟.scale_in _ _ (power_in R O 𝓞 c c_in n) (idempotent_power i h.nilpotent.exponent)))),
      )

  pub idempotent_prime : (i : I) → IsPrime R.ops O (PrimeAt R.ops O p (e i))
  idempotent_prime i = record {
    ideal = record {
      within = λ a h. h.within;
      zero_in = record { within = 𝓞.zero_in; nilpotent = subst Rad (sym (zero_mul R (e i))) 𝓡.zero_in };
      sum_in = λ a b h k. record {
        within = 𝓞.sum_in _ _ h.within k.within;
        nilpotent = subst Rad (sym (add_mul R _ _ _)) (𝓡.sum_in _ _ h.nilpotent k.nilpotent);
      };
      scale_in = λ s a m h. record {
        within = 𝓞.product_in _ _ m h.within;
        nilpotent = subst Rad (sym (R.mul_assoc _ _ _)) (𝓡.scale_in _ _ m h.nilpotent);
      };
    };
    proper = λ h. dec.not_nilpotent i (subst Rad (one_mul R (e i)) h.nilpotent);
    invert = λ u u_in n. unit u u_in n (dec.locality i u u_in);
    decide = λ u u_in. decided u u_in (dec.locality i u u_in);
  }
    where
      Local : A → Type 0
      Local u = Rad (u ⊗ e i) ⊎ ((c : A) × O c × pO (c ⊗ (u ⊗ e i) ⊕ ⊖ (e i)))

      unit : (u : A) → O u → ¬ (PrimeAt R.ops O p (e i) u)
          → Rad (u ⊗ e i) ⊎ ((c : A) × O c × pO (c ⊗ (u ⊗ e i) ⊕ ⊖ (e i)))
          → InverseModulo R.ops O (PrimeAt R.ops O p (e i)) u
      unit u u_in n (inl h) = absurd (n (record { within = u_in; nilpotent = h }))
      unit u u_in n (inr h) =
          let f : (c x : A) → c ⊗ (u ⊗ x) ⊕ ⊖ x ≡ (c ⊗ u ⊕ ⊖ 𝟙) ⊗ x
          = λ c x. ring R (c ∷ u ∷ x ∷ []) λ q j. simp (reads, q, j 0, j 1, j 2) (q.equal _ _ refl) in
          record {
            inverse = h.0;
            inverse_in = h.1;
            is = record {
              within = 𝓞.sum_in _ _ (𝓞.product_in _ _ h.1 u_in) (𝓞.neg_in _ 𝓞.one_in);
              nilpotent = rad_of _ (subst pO (f h.0 (e i)) h.2);
            };
          }

      decided : (u : A) → O u → Rad (u ⊗ e i) ⊎ ((c : A) × O c × pO (c ⊗ (u ⊗ e i) ⊕ ⊖ (e i)))
          → PrimeAt R.ops O p (e i) u ⊎ (¬ (PrimeAt R.ops O p (e i) u))
      decided u u_in (inl h) = inl (record { within = u_in; nilpotent = h })
      decided u u_in (inr h) =
          inr (λ k. dec.not_nilpotent i
          (recover Rad 𝓡 (h.0 ⊗ (u ⊗ e i)) (e i) (𝓡.scale_in _ _ h.1 k.nilpotent) (rad_of _ h.2)))

  -- an idempotent is not in its own prime, and is in the others
  own_out : (i : I) → ¬ (PrimeAt R.ops O p (e i) (e i))
  own_out i h = dec.not_nilpotent i (recover Rad 𝓡 (e i ⊗ e i) (e i) h.nilpotent (rad_of _ (dec.idempotent i)))

  pub idempotent_compare : (i j : I) → SameSet (PrimeAt R.ops O p (e i)) (PrimeAt R.ops O p (e j))
      ⊎ Different (PrimeAt R.ops O p (e i)) (PrimeAt R.ops O p (e j))
  idempotent_compare i j = go (dec.orthogonal i j)
    where
      go : (e i ≡ e j) ⊎ Multiple R.ops p O (e i ⊗ e j) → SameSet (PrimeAt R.ops O p (e i)) (PrimeAt R.ops O p (e j))
          ⊎ Different (PrimeAt R.ops O p (e i)) (PrimeAt R.ops O p (e j))
      go (inl q) =
          inl (λ a. (
            subst (λ x. PrimeAt R.ops O p x a) q,
            subst (λ x. PrimeAt R.ops O p x a) (sym q),
          ))
      go (inr m) = inr (record {
        first = e j;
        first_in = record { within = dec.within j; nilpotent = rad_of _ (subst pO (R.mul_comm _ _) m) };
        first_out = own_out j;
        second = e i;
        second_in = record { within = dec.within i; nilpotent = rad_of _ m };
        second_out = own_out i;
      })

  in_sum : (z : A) (js : List I) → All (λ i. PrimeAt R.ops O p (e i) z) js → Rad (z ⊗ sum_over R.ops js e)
  in_sum z [] h = subst Rad (sym (mul_zero R z)) 𝓡.zero_in
  in_sum z (j ∷ js) h =
      subst Rad (sym (R.mul_add _ _ _))
      (𝓡.sum_in _ _ (All-head (λ i. P i z) j js h).nilpotent (in_sum z js (All-tail (λ i. P i z) j js h)))

  over : (js : List I) → All (λ i. PrimeAt R.ops O p (e i) p) js
  over [] = All-nil (λ i. PrimeAt R.ops O p (e i) p)
  over (j ∷ js) =
      All-cons (λ i. PrimeAt R.ops O p (e i) p) j js
      (record {
        within = p_in;
        nilpotent = rad_of _
            (record { quotient = e j; quotient_in = dec.within j; is = refl });
      })
      (over js)

  pub idempotent_system : IsSystem R.ops O p I (λ i. PrimeAt R.ops O p (e i)) is
  idempotent_system = record {
    over = over is;
    nilpotent = λ z z_in h.
        let s = sum_over R.ops is e in
        let f : (s : A) → z ⊗ s ⊕ z ⊗ (𝟙 ⊕ ⊖ s) ≡ z
        = λ s. ring R (z ∷ s ∷ []) λ q x. simp (reads, q, x 0, x 1) (q.equal _ _ refl) in
        (subst Rad (f s) (𝓡.sum_in _ _ (in_sum z is h) (rad_of _ (𝓟.scale_in z _ z_in dec.sum_one)))).nilpotent;
  }
