-- The primes of local orthogonal idempotents modulo p are invertible where O has the multipliers of their inverses:
-- they are a family.
use Rattle.std.proofs.Common.{◌≡◌, ◌⊎◌, inl, inr, ℕ, List, [], ◌∷◌, refl, subst, All}
use Rattle.std.proofs.lemmas.List.Elements.{All-nil, All-cons, All-head, All-tail}
use Rattle.ring_lemmas.specs.Ring.{CommRing, pow}
use Rattle.ring_theory.specs.Subsets.{IsSubring, Product, Colon}
use Rattle.ring_theory.proofs.Subsets.{product_member}
use Rattle.ring_lemmas.proofs.Solver.{ring, reads}
use Rattle.prime_theory.specs.Ideals.{IsIdeal, Inverse, Invertible, Multiple}
use Rattle.prime_theory.specs.Primes.{IsPrime}
use Rattle.prime_theory.specs.Systems.{TraceGenerators, IsFamily, IsDecomposition, PrimeAt}
use Rattle.prime_theory.proofs.Primes.{ideal_module, ideal_neg, one_in_inverse, pair_of_invertible}
use Rattle.prime_theory.proofs.PohstZassenhaus.{multiples_ideal}
use Rattle.prime_theory.proofs.Radicals.{p_in_radical}
use Rattle.prime_theory.proofs.Invertible.{trace_ideal, obstruction, no_obstruction}
use Rattle.prime_theory.proofs.Idempotents.{idempotent_prime, idempotent_compare, killed}

module _ {A : Type 0} (R : CommRing A) (O : A → Type 0) (𝓞 : IsSubring R.ops O) (p : A) (p_in : O p)
    (I : Type 0) (e : I → A) (is : List I) (dec : IsDecomposition R.ops O p I e is)
    (r : A) (inverse_of_p : R.ops.◌⊗◌ r p ≡ R.𝟙)
    (decide : (x : A) → O x → Multiple R.ops p O x ⊎ (¬ (Multiple R.ops p O x)))
    (multipliers : (i : I) (z : A)
    → Colon R.ops (Inverse R.ops O (PrimeAt R.ops O p (e i))) (Inverse R.ops O (PrimeAt R.ops O p (e i))) z
    → O (R.ops.◌⊗◌ p z) → O z)
    (gens : (i : I) → TraceGenerators R.ops O (PrimeAt R.ops O p (e i))) where
  infixl 65 ◌⊕◌
  infixl 70 ◌⊗◌
  infixr 80 ⊖◌
  open R use {𝟘, 𝟙, ◌⊕◌, ◌⊗◌, ⊖◌}

  abbrev pO : A → Type 0
  pO = Multiple R.ops p O

  abbrev P : I → A → Type 0
  P i = PrimeAt R.ops O p (e i)

  abbrev T : I → A → Type 0
  T i = Product R.ops (P i) (Inverse R.ops O (P i))

  𝓟 : IsIdeal R.ops O (Multiple R.ops p O)
  𝓟 = multiples_ideal R O 𝓞 p p_in p p_in

  prime : (i : I) → IsPrime R.ops O (PrimeAt R.ops O p (e i))
  prime = idempotent_prime R O 𝓞 p p_in I e is dec

  𝓣 : (i : I) → IsIdeal R.ops O (Product R.ops (PrimeAt R.ops O p (e i)) (Inverse R.ops O (PrimeAt R.ops O p (e i))))
  𝓣 i = trace_ideal R O 𝓞 (P i) (ideal_module R O 𝓞 (P i) (prime i).ideal)

  -- all members of a list are killed, or one is outside the prime
  scan : (i : I) (cs : List A)
      → All (Product R.ops (PrimeAt R.ops O p (e i)) (Inverse R.ops O (PrimeAt R.ops O p (e i)))) cs
      → All (λ c. O c × ((n : ℕ) × Multiple R.ops p O (e i ⊗ pow R.ops c n))) cs
      ⊎ ((c : A) × T i c × (¬ (PrimeAt R.ops O p (e i) c)))
  scan i [] h = inl (All-nil (λ c. O c × ((n : ℕ) × Multiple R.ops p O (e i ⊗ pow R.ops c n))))
  scan i (c ∷ cs) h = go ((prime i).decide c c_in) (scan i cs (All-tail (T i) c cs h))
    where
      c_in : O c
      c_in = (𝓣 i).within c (All-head (T i) c cs h)

      go : PrimeAt R.ops O p (e i) c ⊎ (¬ (PrimeAt R.ops O p (e i) c))
          → All (λ c. O c × ((n : ℕ) × Multiple R.ops p O (e i ⊗ pow R.ops c n))) cs
          ⊎ ((c : A) × T i c × (¬ (PrimeAt R.ops O p (e i) c)))
          → All (λ c. O c × ((n : ℕ) × Multiple R.ops p O (e i ⊗ pow R.ops c n))) (c ∷ cs)
          ⊎ ((c : A) × T i c × (¬ (PrimeAt R.ops O p (e i) c)))
      go (inr n) s = inr (c, All-head (T i) c cs h, n)
      go (inl m) (inl s) =
          inl (All-cons (λ c. O c × ((n : ℕ) × Multiple R.ops p O (e i ⊗ pow R.ops c n))) c cs
          (c_in, killed R O 𝓞 p p_in I e is dec i c m.within m.nilpotent) s)
      go (inl m) (inr s) = inr s

  pub idempotent_invertible : (i : I) → Invertible R.ops O (PrimeAt R.ops O p (e i))
  idempotent_invertible i = go (scan i (gens i).list (gens i).members)
    where
      go : All (λ c. O c × ((n : ℕ) × Multiple R.ops p O (e i ⊗ pow R.ops c n))) (gens i).list
          ⊎ ((c : A) × T i c × (¬ (PrimeAt R.ops O p (e i) c)))
          → Invertible R.ops O (PrimeAt R.ops O p (e i))
      go (inl h) =
          absurd
          (no_obstruction R O 𝓞 p r inverse_of_p (P i) (ideal_module R O 𝓞 (P i) (prime i).ideal) (multipliers i)
          (obstruction R O 𝓞 p p_in decide 𝓟 (P i) (gens i).list (gens i).spanned (e i) (dec.within i)
          (λ m. dec.not_nilpotent i (p_in_radical R O 𝓞 p p_in (e i) m)) h))
      go (inr h) =
          let inv = (prime i).invert h.0 ((𝓣 i).within h.0 h.1) h.2 in
          let f : (x : A) → x ⊕ ⊖ (x ⊕ ⊖ 𝟙) ≡ 𝟙 = λ x. ring R (x ∷ []) λ q j. simp (reads, q, j 0) (q.equal _ _ refl) in
          let rest : T i (inv.inverse ⊗ h.0 ⊕ ⊖ 𝟙)
          = subst (T i) (R.mul_one _)
          (product_member R O 𝓞 (P i) (Inverse R.ops O (P i)) _ 𝟙 inv.is (one_in_inverse R O 𝓞 (P i) (prime i))) in
          subst (T i) (f (inv.inverse ⊗ h.0))
          ((𝓣 i).sum_in _ _ ((𝓣 i).scale_in _ _ inv.inverse_in h.1) (ideal_neg R O 𝓞 (T i) (𝓣 i) _ rest))

  pub idempotent_family : IsFamily R.ops O I (λ i. PrimeAt R.ops O p (e i))
  idempotent_family = record {
    prime = prime;
    pair = λ i. pair_of_invertible R O 𝓞 (P i) (prime i) (idempotent_invertible i);
    compare = idempotent_compare R O 𝓞 p p_in I e is dec;
  }
