-- The order loop: the least value of a list; values of integral elements; a value or a bound for a quotient by a power.
use Rattle.std.specs.List.{Any}
use Rattle.prime_theory.proofs.Lists.{any_here, any_there, any_weaker}
use Rattle.ring_theory.proofs.Local.{power_in}
use Rattle.std.proofs.Common.{◌≡◌, ◌⊎◌, inl, inr, ℕ, zero, suc, ◌+◌, ◌*◌, ◌-◌, ◌≤◌, ◌<◌, List, [], ◌∷◌, refl, sym, ◌∙◌, ap, subst, arith, zero-add, All}
use Rattle.std.proofs.lemmas.List.Elements.{All-nil, All-cons, All-head, All-tail, All-weaker}
use Rattle.ring_lemmas.specs.Ring.{CommRing, pow}
use Rattle.ring_lemmas.specs.Sums.{sum_below}
use Rattle.ring_theory.specs.Subsets.{IsSubring, Span}
use Rattle.ring_theory.specs.Integral.{IsIntegral}
use Rattle.ring_lemmas.proofs.Ring.{mul_zero, one_mul, mul_left_comm, mul_pow}
use Rattle.ring_theory.proofs.Subsets.{span_least}
use Rattle.ring_lemmas.proofs.Solver.{ring, reads, from_one}
use Rattle.prime_theory.specs.Primes.{IsPrime, Outside, Pair, theta, AtLeast, Exactly}
use Rattle.prime_theory.proofs.Primes.{ideal_neg, outside_power, one_outside}
use Rattle.prime_theory.proofs.Valuation.{theta_zero, theta_up, theta_right, ge_reindex, eq_reindex, ge_module, ge_quotient, eq_power, climb}

module _ {A : Type 0} (R : CommRing A) (O : A → Type 0) (𝓞 : IsSubring R.ops O)
    (P : A → Type 0) (𝓟 : IsPrime R.ops O P) (pair : Pair R.ops O P) where
  infixl 65 ◌⊕◌
  infixl 70 ◌⊗◌
  infixr 80 ⊖◌
  open R use {𝟘, 𝟙, ◌⊕◌, ◌⊗◌, ⊖◌}

  abbrev t : A
  t = pair.tau

  abbrev g : A
  g = pair.gamma

  abbrev th : ℕ → ℕ → A
  th a b = theta R.ops t g a b

  abbrev Ge : A → ℕ → ℕ → Type 0
  Ge = AtLeast R.ops O P t g

  abbrev Eq : A → ℕ → ℕ → Type 0
  Eq = Exactly R.ops O P t g

  -- the least value of the members of a list
  pub record LeastValue (xs : List A) : Type 0 where
    pub value : ℕ
    pub all : All (λ x. Ge x value 0) xs
    pub some : Any (λ x. Eq x value 0) xs

  -- all multiples by theta are in P, or some is outside
  scan : (m : ℕ) (xs : List A) → All (λ x. O (x ⊗ th m 0)) xs
      → All (λ x. P (x ⊗ th m 0)) xs ⊎ Any (λ x. Outside O P (x ⊗ th m 0)) xs
  scan m [] h = inl (All-nil (λ x. P (x ⊗ th m 0)))
  scan m (x ∷ xs) h = go (𝓟.decide _ here) (scan m xs (All-tail (λ x. O (x ⊗ th m 0)) x xs h))
    where
      here : O (x ⊗ th m 0)
      here = All-head (λ x. O (x ⊗ th m 0)) x xs h

      go : P (x ⊗ th m 0) ⊎ (¬ (P (x ⊗ th m 0))) → All (λ x. P (x ⊗ th m 0)) xs ⊎ Any (λ x. Outside O P (x ⊗ th m 0)) xs
          → All (λ x. P (x ⊗ th m 0)) (x ∷ xs) ⊎ Any (λ x. Outside O P (x ⊗ th m 0)) (x ∷ xs)
      go (inr n) r = inr (any_here (λ x. Outside O P (x ⊗ th m 0)) x xs (record { within = here; out = n }))
      go (inl m') (inl r) = inl (All-cons (λ x. P (x ⊗ th m 0)) x xs m' r)
      go (inl m') (inr r) = inr (any_there (λ x. Outside O P (x ⊗ th m 0)) x xs r)

  ge_here : (m : ℕ) (x : A) → O (x ⊗ th m 0) → Ge x m 0
  ge_here m x h = record {
    unit = 𝟙;
    unit_out = one_outside R O 𝓞 P 𝓟;
    inside = subst O (ap (λ y. y ⊗ th m 0) (sym (one_mul R x))) h;
  }

  eq_here : (m : ℕ) (x : A) → Outside O P (x ⊗ th m 0) → Eq x m 0
  eq_here m x h = record {
    unit = 𝟙;
    unit_out = one_outside R O 𝓞 P 𝓟;
    inside = subst (Outside O P) (ap (λ y. y ⊗ th m 0) (sym (one_mul R x))) h;
  }

  loop : (xs : List A) (bound : ℕ) → ((m : ℕ) → All (λ x. Ge x m 0) xs → m ≤ bound)
      → (fuel m : ℕ) → m + fuel ≡ suc bound → All (λ x. O (x ⊗ th m 0)) xs → LeastValue xs
  loop xs bound f zero m e h =
      absurd (let l : m ≤ bound = f m (All-weaker (λ x. O (x ⊗ th m 0)) (λ x. Ge x m 0) (ge_here m) xs h) in
      omega arith)
  loop xs bound f (suc fuel) m e h = go (scan m xs h) (loop xs bound f fuel (suc m) (omega arith))
    where
      go : All (λ x. P (x ⊗ th m 0)) xs ⊎ Any (λ x. Outside O P (x ⊗ th m 0)) xs
          → (All (λ x. O (x ⊗ th (suc m) 0)) xs → LeastValue xs) → LeastValue xs
      go (inl r) next =
          next
          (All-weaker (λ x. P (x ⊗ th m 0)) (λ x. O (x ⊗ th (suc m) 0))
          (λ x k. subst O (mul_left_comm R _ _ _ ∙ ap (λ y. x ⊗ y) (sym (theta_up R t g m 0))) (pair.gamma_in _ k))
          xs r)
      go (inr r) next = record {
        value = m;
        all = All-weaker (λ x. O (x ⊗ th m 0)) (λ x. Ge x m 0) (ge_here m) xs h;
        some = any_weaker (λ x. Outside O P (x ⊗ th m 0)) (λ x. Eq x m 0) (eq_here m) xs r;
      }

  pub least_value : (xs : List A) (bound : ℕ) → All O xs → ((m : ℕ) → All (λ x. Ge x m 0) xs → m ≤ bound)
      → LeastValue xs
  least_value xs bound h f =
      loop xs bound f (suc bound) 0 (zero-add (suc bound))
      (All-weaker O (λ x. O (x ⊗ th 0 0)) (λ x k. subst O (sym (ap (λ y. x ⊗ y) (theta_zero R t g) ∙ R.mul_one x)) k)
      xs h)

  -- the bound comes from one element of the span
  pub least_value_of_span : (xs : List A) (a : A) (bound : ℕ) → All O xs → Span R.ops O xs a
      → ((m : ℕ) → Ge a m 0 → m ≤ bound) → LeastValue xs
  least_value_of_span xs a bound h k f =
      least_value xs bound h
      (λ m r. f m (span_least R O 𝓞 (λ z. Ge z m 0) (ge_module R O 𝓞 P 𝓟 pair m 0) xs r a k))

  -- an element that is integral over O has no negative value
  integral_terms : (v z s : A) → P v → O s → v ⊗ z ≡ s → (c : ℕ → A) → ((i : ℕ) → O (c i))
      → (n : ℕ) → P (pow R.ops v n ⊗ sum_below R.ops n (λ i. c i ⊗ pow R.ops z i))
  integral_terms v z s v_in s_in e c c_in zero = subst P (sym (mul_zero R _)) 𝓟.ideal.zero_in
  integral_terms v z s v_in s_in e c c_in (suc n) =
      let ih = integral_terms v z s v_in s_in e c c_in n in
      let f : (x y w d : A) → v ⊗ (x ⊗ y) ⊕ d ⊗ (x ⊗ w) ⊗ v ≡ v ⊗ x ⊗ (y ⊕ d ⊗ w)
      = λ x y w d. ring R (v ∷ x ∷ y ∷ w ∷ d ∷ []) λ q i. simp (reads, q, i 0, i 1, i 2, i 3, i 4) (q.equal _ _ refl) in
      let last : O (c n ⊗ (pow R.ops v n ⊗ pow R.ops z n))
      = 𝓞.product_in _ _ (c_in n)
      (subst O (ap (λ x. pow R.ops x n) (sym e) ∙ mul_pow R v z n) (power_in R O 𝓞 s s_in n)) in
      subst P (f (pow R.ops v n) (sum_below R.ops n (λ i. c i ⊗ pow R.ops z i)) (pow R.ops z n) (c n))
      (𝓟.ideal.sum_in _ _ (𝓟.ideal.scale_in v _ (𝓟.ideal.within v v_in) ih) (𝓟.ideal.scale_in _ v last v_in))

  pub integral_not_negative : (z : A) (m : ℕ) → IsIntegral R.ops O z → Eq z 0 (suc m) → ⊥
  integral_not_negative z m h k =
      let n = h.degree in
      let v = k.unit ⊗ pow R.ops t (suc m) in
      let s = k.unit ⊗ z ⊗ th 0 (suc m) in
      let f : (x u : A) → u ⊗ x ⊗ z ≡ u ⊗ z ⊗ x
      = λ x u. ring R (u ∷ x ∷ z ∷ []) λ q i. simp (reads, q, i 0, i 1, i 2) (q.equal _ _ refl) in
      let e : v ⊗ z ≡ s = f (pow R.ops t (suc m)) k.unit ∙ ap (λ x. k.unit ⊗ z ⊗ x) (sym (theta_right R t g (suc m))) in
      let v_in : P v = 𝓟.ideal.scale_in k.unit _ k.unit_out.within (tau_power m) in
      let lower = integral_terms v z s v_in k.inside.within e h.coefficient h.coefficient_in n in
      let all : pow R.ops s n ⊕ pow R.ops v n ⊗ sum_below R.ops n (λ i. h.coefficient i ⊗ pow R.ops z i) ≡ 𝟘
      = ap (λ x. x ⊕ pow R.ops v n ⊗ sum_below R.ops n (λ i. h.coefficient i ⊗ pow R.ops z i))
      (ap (λ x. pow R.ops x n) (sym e) ∙ mul_pow R v z n)
      ∙ sym (R.mul_add _ _ _) ∙ ap (λ x. pow R.ops v n ⊗ x) h.root ∙ mul_zero R _ in
      let g : (x y : A) → x ⊕ y ≡ 𝟘 → ⊖ y ≡ x
      = λ x y q. from_one R (⊖ 𝟙) q (ring R (x ∷ y ∷ []) λ q i. simp (reads, q, i 0, i 1) (q.equal _ _ refl)) in
      (outside_power R O 𝓞 P 𝓟 s k.inside n).out (subst P (g _ _ all) (ideal_neg R O 𝓞 P 𝓟.ideal _ lower))
    where
      tau_power : (m : ℕ) → P (pow R.ops t (suc m))
      tau_power zero = subst P (sym (R.mul_one t)) pair.tau_in
      tau_power (suc m) = 𝓟.ideal.scale_in t _ (𝓟.ideal.within t pair.tau_in) (tau_power m)

  -- a quotient of a member of O by a power of p, whose value is e, has value at least 0 or an exact negative one
  pub quotient_value : (p z : A) (e n : ℕ) → Eq p e 0 → Ge (pow R.ops p n ⊗ z) 0 0 → Ge z 0 0
      ⊎ ((j : ℕ) × Eq z 0 (suc j))
  quotient_value p z e n h k = go (climb R O 𝓞 P 𝓟 pair (n * e) z 0 (n * e) start)
    where
      start : Ge z 0 (n * e)
      start =
          ge_reindex R O 𝓞 P 𝓟 pair z (0 + n * 0) (0 + n * e) 0 (n * e) (omega arith)
          (ge_quotient R O 𝓞 P 𝓟 pair (pow R.ops p n) z 0 0 (n * e) (n * 0) (eq_power R O 𝓞 P 𝓟 pair p e 0 h n) k)

      go : Ge z (n * e + 0) (n * e) ⊎ ((j : ℕ) × (j < n * e) × Eq z (j + 0) (n * e)) → Ge z 0 0
          ⊎ ((j : ℕ) × Eq z 0 (suc j))
      go (inl m) = inl (ge_reindex R O 𝓞 P 𝓟 pair z (n * e + 0) (n * e) 0 0 (omega arith) m)
      go (inr m) =
          let j = m.0 in
          let l : j < n * e = m.1 in
          inr (
            ((n * e) - suc j),
            eq_reindex R O 𝓞 P 𝓟 pair z (j + 0) (n * e) 0 (suc ((n * e) - suc j)) (omega arith) m.2,
          )
