-- Each invertible element has an exact value at a prime over p.
use Rattle.prime_theory.proofs.Lists.{any_one}
use Rattle.std.proofs.Common.{◌≡◌, ℕ, ◌+◌, ◌*◌, ◌≤◌, [], ◌∷◌, refl, sym, subst, arith, All}
use Rattle.std.proofs.lemmas.List.Elements.{All-nil, All-cons, All-head}
use Rattle.ring_lemmas.specs.Ring.{CommRing, pow}
use Rattle.ring_theory.specs.Subsets.{IsSubring}
use Rattle.ring_lemmas.proofs.Solver.{ring, reads, from_one}
use Rattle.prime_theory.specs.Primes.{IsPrime, Outside, Pair, AtLeast, Exactly}
use Rattle.prime_theory.proofs.Valuation.{ge_product, ge_bounded, ge_of_member, eq_product, eq_power, eq_quotient, eq_of_outside}
use Rattle.prime_theory.proofs.Orders.{least_value}

module _ {A : Type 0} (R : CommRing A) (O : A → Type 0) (𝓞 : IsSubring R.ops O) (P : A → Type 0) (𝓟 : IsPrime R.ops O P)
    (t : Pair R.ops O P) where
  infixl 65 ◌⊕◌
  infixl 70 ◌⊗◌
  infixr 80 ⊖◌
  open R use {𝟘, 𝟙, ◌⊕◌, ◌⊗◌, ⊖◌}

  abbrev Ge : A → ℕ → ℕ → Type 0
  Ge = AtLeast R.ops O P t.tau t.gamma

  abbrev Eq : A → ℕ → ℕ → Type 0
  Eq = Exactly R.ops O P t.tau t.gamma

  -- a member of O that divides, within O, an element of exact value b
  pub exact_of_divisor : (x y c : A) (b : ℕ) → O x → O y → x ⊗ y ≡ c → Eq c b 0 → (m : ℕ) × Eq x m 0
  exact_of_divisor x y c b x_in y_in e h =
      let r = least_value R O 𝓞 P 𝓟 t (x ∷ []) b (All-cons O x [] x_in (All-nil O)) bound in
      (r.value, any_one (λ x. Eq x r.value 0) x r.some)
    where
      bound : (m : ℕ) → All (λ x. Ge x m 0) (x ∷ []) → m ≤ b
      bound m k =
          let g : Ge c (m + 0) (0 + 0)
          = subst (λ z. Ge z (m + 0) (0 + 0)) e
          (ge_product R O 𝓞 P 𝓟 t x y m 0 0 0 (All-head (λ x. Ge x m 0) x [] k) (ge_of_member R O 𝓞 P 𝓟 t y y_in)) in
          let l : m + 0 + 0 ≤ b + (0 + 0) = ge_bounded R O 𝓞 P 𝓟 t c b 0 (m + 0) (0 + 0) h g in
          omega arith

  -- z with the inverse y, d·z and d'·y in O, and d·d' = p^n·w, w outside P, p of exact value
  pub exact_of_invertible : (p z y d d' w : A) (e n : ℕ) → z ⊗ y ≡ 𝟙 → O d → O d' → O (d ⊗ z) → O (d' ⊗ y)
      → d ⊗ d' ≡ pow R.ops p n ⊗ w → Outside O P w → Eq p e 0 → (a : ℕ) × (b : ℕ) × Eq z a b
  exact_of_invertible p z y d d' w e n u d_in d'_in dz_in d'y_in split w_out h =
      let c = d ⊗ d' in
      let v : Eq c (n * e + 0) (n * 0 + 0)
      = subst (λ x. Eq x (n * e + 0) (n * 0 + 0)) (sym split)
      (eq_product R O 𝓞 P 𝓟 t (pow R.ops p n) w (n * e) (n * 0) 0 0 (eq_power R O 𝓞 P 𝓟 t p e 0 h n)
      (eq_of_outside R O 𝓞 P 𝓟 t w w_out)) in
      let v' : Eq c (n * e) 0
      = Rattle.prime_theory.proofs.Valuation.eq_reindex R O 𝓞 P 𝓟 t c (n * e + 0) (n * 0 + 0) (n * e) 0 (omega arith)
      v in
      let f : (d ⊗ z) ⊗ (d' ⊗ y) ≡ c
      = from_one R (d ⊗ d') u (ring R (d ∷ z ∷ d' ∷ y ∷ []) λ q i. simp (reads, q, i 0, i 1, i 2, i 3)
      (q.equal _ _ refl)) in
      let first = exact_of_divisor (d ⊗ z) (d' ⊗ y) c (n * e) dz_in d'y_in f v' in
      let second = exact_of_divisor d d' c (n * e) d_in d'_in refl v' in
      (first.0 + 0, 0 + second.0, eq_quotient R O 𝓞 P 𝓟 t d z first.0 0 second.0 0 second.1 first.1)
