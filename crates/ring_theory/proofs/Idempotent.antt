-- Two of n + 1 numbers below n are equal, so an element whose powers have codes below a bound has an idempotent power.
use Rattle.std.proofs.Common.{◌≡◌, ℕ, zero, suc, ◌<◌, ◌≤◌, ◌+◌, ◌*◌, ◌-◌, ◌⊎◌, inl, inr, Bool, true, false, eqb, cond, refl, sym, ◌∙◌, ap, arith, zero-add, suc-add}
use native.Mathlib.Decide.{ℕ_discrete}
use Rattle.std.proofs.lemmas.Bool.{eqb-true, eqb-false}
use Rattle.ring_theory.specs.Monoid.{CommMonoid, power, FinitePowers, IdempotentPower}

-- two positions below n + 1 with one value
record Collision (n : ℕ) (f : ℕ → ℕ) : Type 0 where
  first : ℕ
  second : ℕ
  apart : first < second
  within : second ≤ n
  same : f first ≡ f second

-- a position below n with the value v, or none
find : (n v : ℕ) (f : ℕ → ℕ) → ((k : ℕ) × (k < n) × (f k ≡ v)) ⊎ ((k : ℕ) → k < n → ¬ (f k ≡ v))
find zero v f = inr (λ k l. absurd (omega arith))
find (suc n) v f = go (find n v f) (ℕ_discrete (f n) v)
  where
    go : ((k : ℕ) × (k < n) × (f k ≡ v)) ⊎ ((k : ℕ) → k < n → ¬ (f k ≡ v)) → Dec (f n ≡ v)
        → ((k : ℕ) × (k < suc n) × (f k ≡ v)) ⊎ ((k : ℕ) → k < suc n → ¬ (f k ≡ v))
    go (inl p) d = inl (p.0, omega arith, p.2)
    go (inr none) (yes e) = inl (n, omega arith, e)
    go (inr none) (no ne) = inr (λ k l e.
        let last : k ≡ n → ⊥ = λ q. ne (ap f (sym q) ∙ e) in
        let earlier : k < n → ⊥ = λ q. none k q e in
        omega arith)

-- the value v in place of n
replaced : ℕ → ℕ → ℕ → ℕ
replaced n v x = cond (eqb x n) v x

replaced_cases : (n v x : ℕ) → ((x ≡ n) × (replaced n v x ≡ v)) ⊎ ((¬ (x ≡ n)) × (replaced n v x ≡ x))
unfolding replaced
replaced_cases n v x = go (eqb x n) refl
  where
    go : (t : Bool) → eqb x n ≡ t → ((x ≡ n) × (cond t v x ≡ v)) ⊎ ((¬ (x ≡ n)) × (cond t v x ≡ x))
    go true e = inl (eqb-true x n e, refl)
    go false e = inr (eqb-false x n e, refl)

pigeonhole : (n : ℕ) (f : ℕ → ℕ) → ((k : ℕ) → k ≤ n → f k < n) → Collision n f
pigeonhole zero f h = absurd (let l : f 0 < 0 = h 0 (omega arith) in omega arith)
pigeonhole (suc n) f h = go (find (suc n) (f (suc n)) f) (pigeonhole n (λ k. replaced n (f (suc n)) (f k)))
  where
    below : ((k : ℕ) → k < suc n → ¬ (f k ≡ f (suc n))) → (k : ℕ) → k ≤ n → replaced n (f (suc n)) (f k) < n
    below none k l =
        let last : f (suc n) < suc n = h (suc n) (omega arith) in
        let here : f k < suc n = h k (omega arith) in
        let other : f k ≡ f (suc n) → ⊥ = none k (omega arith) in
        elim (replaced_cases n (f (suc n)) (f k)) [ inl p ↦ omega arith | inr p ↦ omega arith ]

    go : ((k : ℕ) × (k < suc n) × (f k ≡ f (suc n))) ⊎ ((k : ℕ) → k < suc n → ¬ (f k ≡ f (suc n)))
        → (((k : ℕ) → k ≤ n → replaced n (f (suc n)) (f k) < n) → Collision n (λ k. replaced n (f (suc n)) (f k)))
        → Collision (suc n) f
    go (inl p) ih = record { first = p.0; second = suc n; apart = p.1; within = omega arith; same = p.2 }
    go (inr none) ih =
        let c = ih (below none) in
        let i = c.first in
        let j = c.second in
        let early : i < j = c.apart in
        let late : j ≤ n = c.within in
        let e : replaced n (f (suc n)) (f i) ≡ replaced n (f (suc n)) (f j) = c.same in
        let not_i : f i ≡ f (suc n) → ⊥ = none i (omega arith) in
        let not_j : f j ≡ f (suc n) → ⊥ = none j (omega arith) in
        record {
          first = i;
          second = j;
          apart = c.apart;
          within = omega arith;
          same =
              elim (replaced_cases n (f (suc n)) (f i)) [
                | inl p ↦ elim (replaced_cases n (f (suc n)) (f j)) [ inl r ↦ omega arith | inr r ↦ omega arith ]
                | inr p ↦ elim (replaced_cases n (f (suc n)) (f j)) [ inl r ↦ omega arith | inr r ↦ omega arith ]
              ];
        }

module _ {A : Type 0} (M : CommMonoid A) (a : A) where
  infixl 70 ◌·◌
  open M use {𝟙, ◌·◌}

  power_add : (m n : ℕ) → power M a (m + n) ≡ power M a m · power M a n
  power_add zero n = ap (power M a) (zero-add n) ∙ sym (M.comm 𝟙 _ ∙ M.one_right _)
  power_add (suc m) n = ap (power M a) (suc-add m n) ∙ ap (λ x. a · x) (power_add m n) ∙ sym (M.assoc _ _ _)

  -- from the i-th power on the powers have the period d
  periods : (i d m : ℕ) → power M a i ≡ power M a (i + d) → power M a (i + m * d) ≡ power M a i
  periods i d zero e = ap (power M a) (let q : i + 0 * d ≡ i = omega arith in q)
  periods i d (suc m) e =
      let q : i + suc m * d ≡ (i + d) + m * d = omega arith in
      ap (power M a) q ∙ power_add (i + d) (m * d) ∙ ap (λ x. x · power M a (m * d)) (sym e)
      ∙ sym (power_add i (m * d)) ∙ periods i d m e

  pub idempotent_power : FinitePowers M a → IdempotentPower M a
  idempotent_power p =
      let c = pigeonhole p.bound p.code (λ k l. p.code_below k) in
      let i = c.first in
      let gap = c.second - suc i in
      let d = suc gap in
      let apart : i < c.second = c.apart in
      let e : power M a i ≡ power M a (i + d)
      = p.same i c.second c.same ∙ ap (power M a) (let q : c.second ≡ i + suc (c.second - suc i) = omega arith in q) in
      let n = suc i * d in
      let r = n - i in
      let q : n ≡ i + r = let l : suc i * suc gap ≡ i + (suc i * suc gap - i) = omega arith in l in
      let s : n + n ≡ (i + n) + r = omega arith in
      record {
        exponent = n;
        positive = let l : 0 < suc i * suc gap = omega arith in l;
        idempotent =
            sym (power_add n n) ∙ ap (power M a) s ∙ power_add (i + n) r
            ∙ ap (λ x. x · power M a r) (periods i d (suc i) e)
            ∙ sym (power_add i r) ∙ ap (power M a) (sym q);
      }
