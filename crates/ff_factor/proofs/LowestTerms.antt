-- Fractions over one denominator, none of whose primes divides all numerators: the denominator divides every other one.
use Rattle.std.proofs.Common.{◌≡◌, ℕ, zero, suc, ◌+◌, ◌<◌, ◌≤◌, ◌⊎◌, inl, inr, List, [], ◌∷◌, length, All, refl, sym, ap, ap₂, ◌∙◌, subst, arith}
use Rattle.std.proofs.lemmas.List.Elements.{All-nil, All-cons}
use Rattle.ring_lemmas.specs.Ring.{CommRing, pow}
use Rattle.ring_theory.specs.Members.{In}
use Rattle.ring_lemmas.proofs.Ring.{zero_mul, mul_zero, zero_add, eq_of_sub, sub_of_eq}
use Rattle.ring_lemmas.proofs.Solver.{ring, reads}
use Rattle.ring_theory.proofs.Polynomials.{length_product}
use Rattle.ff_fields.specs.Field.{CodeField}
use Rattle.ff_fields.specs.Code.{code_ring, code_domain}
use Rattle.ff_fields.specs.Over.{IsOver}
use Rattle.linear_theory.specs.Euclidean.{IsDivisorIn, IsUnit, Bezout}
use Rattle.linear_theory.proofs.Euclid.{bezout, bezout_power, bezout_product, bezout_swap, divisor_of_coprime, divisor_trans}
use Rattle.ff_poly.specs.Words.{IsIrreducibleList}
use Rattle.ff_poly.specs.Value.{value, numbers_value}
use Rattle.ff_poly.specs.Polynomials.{Polynomial, polynomials, polynomials_domain, codes_of}
use Rattle.ff_factor.specs.Factors.{polys_of}
use Rattle.polynomial_theory.proofs.ListValues.{monic_poly, length_value}
use Rattle.ff_factor.specs.Pulls.{value_of_parts}
use Rattle.polynomial_theory.proofs.Division.{euclidean}
use Rattle.polynomial_theory.proofs.Irreducible.{irreducible, prime, decide_divides, short_unit}
use Rattle.polynomial_theory.proofs.IrreducibleDivisors.{IrreducibleDivisor, irreducible_divisor}
use Rattle.polynomial_theory.proofs.Lengths.{some_long}

module _ (k : CodeField) where
  infixl 65 ◌⊕◌
  infixl 70 ◌⊗◌
  infixr 80 ⊖◌
  open polynomials k use {𝟘, 𝟙, ◌⊕◌, ◌⊗◌, ⊖◌}

  abbrev P : CommRing (Polynomial k)
  P = (polynomials k).ring

  pub cancel : (p x y : Polynomial k) → ¬ (p ≡ 𝟘) → p ⊗ x ≡ p ⊗ y → x ≡ y
  cancel p x y some e = eq_of_sub P x y ((polynomials_domain k).cancel_zero p (x ⊕ ⊖ y) some
      (step p x y ∙ sub_of_eq P _ _ e))
    where
      step : (p x y : Polynomial k) → p ⊗ (x ⊕ ⊖ y) ≡ p ⊗ x ⊕ ⊖ (p ⊗ y)
      step p x y = ring P (p ∷ x ∷ y ∷ []) λ q h. simp (reads, q, h 0, h 1, h 2) (q.equal _ _ refl)

  -- an irreducible polynomial, said of its list
  pub record IsPrime (p : List ℕ) : Type 0 where
    pub over : IsOver k.ops p
    pub irreducible : IsIrreducibleList k.ops p

  pub of_codes : (p : List ℕ) → IsPrime p → IsIrreducibleList k.ops (codes_of k (value k p))
  of_codes p h = subst (IsIrreducibleList k.ops) (sym (numbers_value k p h.over (monic_poly k p h.irreducible.monic)))
      h.irreducible

  -- what none of the primes divides is coprime to the product of their powers
  coprime_parts : (r : Polynomial k) (fs : List (List ℕ × ℕ)) → ((p : List ℕ) → In p (polys_of fs) → IsPrime p)
      → ((p : List ℕ) → In p (polys_of fs) → ¬ IsDivisorIn P.ops (value k p) r) → Bezout P.ops r (value_of_parts k fs)
  coprime_parts r [] primes none = record
      { left = 𝟘; right = 𝟙; is = ap₂ ◌⊕◌ (zero_mul P r) (P.mul_one 𝟙) ∙ zero_add P 𝟙 }
  coprime_parts r (f ∷ fs) primes none =
      bezout_product P r (pow P.ops (value k f.0) f.1) (value_of_parts k fs)
      (bezout_power P r (value k f.0) f.1
      (bezout (euclidean k) (value k f.0) (irreducible k (value k f.0) (of_codes f.0 (primes f.0 (inl refl)))) r
      (none f.0 (inl refl))))
      (coprime_parts r fs (λ p i. primes p (inr i)) (λ p i. none p (inr i)))

  -- some of the primes divides r, or none
  some_prime : (r : Polynomial k) (fs : List (List ℕ × ℕ)) → ((p : List ℕ) → In p (polys_of fs) → IsPrime p)
      → ((p : List ℕ) × In p (polys_of fs) × IsDivisorIn P.ops (value k p) r)
      ⊎ ((p : List ℕ) → In p (polys_of fs) → ¬ IsDivisorIn P.ops (value k p) r)
  some_prime r [] primes = inr (λ p i. absurd i)
  some_prime r (f ∷ fs) primes =
      go (decide_divides k (value k f.0) (of_codes f.0 (primes f.0 (inl refl))) r)
      (some_prime r fs (λ p i. primes p (inr i)))
    where
      go : Dec (IsDivisorIn P.ops (value k f.0) r)
          → ((p : List ℕ) × In p (polys_of fs) × IsDivisorIn P.ops (value k p) r)
          ⊎ ((p : List ℕ) → In p (polys_of fs) → ¬ IsDivisorIn P.ops (value k p) r)
          → ((p : List ℕ) × In p (polys_of (f ∷ fs)) × IsDivisorIn P.ops (value k p) r)
          ⊎ ((p : List ℕ) → In p (polys_of (f ∷ fs)) → ¬ IsDivisorIn P.ops (value k p) r)
      go (yes d) rest = inl (f.0, inl refl, d)
      go (no n) (inl s) = inl (s.0, inr s.1, s.2)
      go (no n) (inr none) = inr none'
        where
          none' : (p : List ℕ) → In p (polys_of (f ∷ fs)) → ¬ IsDivisorIn P.ops (value k p) r
          none' p (inl e) d = n (subst (λ x. IsDivisorIn P.ops (value k x) r) e d)
          none' p (inr i) d = none p i d

  -- a divisor of the product of powers of primes, up to a unit, has one of them or is a unit
  pub prime_or_unit : (fs : List (List ℕ × ℕ)) → ((p : List ℕ) → In p (polys_of fs) → IsPrime p) → (c : Polynomial k)
      → IsUnit P.ops c
      → (r : Polynomial k) → IsDivisorIn P.ops r (value_of_parts k fs ⊗ c)
      → ((p : List ℕ) × In p (polys_of fs) × IsDivisorIn P.ops (value k p) r) ⊎ IsUnit P.ops r
  prime_or_unit fs primes c unit r d = go (some_prime r fs primes)
    where
      go : ((p : List ℕ) × In p (polys_of fs) × IsDivisorIn P.ops (value k p) r)
          ⊎ ((p : List ℕ) → In p (polys_of fs) → ¬ IsDivisorIn P.ops (value k p) r)
          → ((p : List ℕ) × In p (polys_of fs) × IsDivisorIn P.ops (value k p) r) ⊎ IsUnit P.ops r
      go (inl s) = inl s
      go (inr none) =
          let b = divisor_of_coprime P (value_of_parts k fs) c r
          (bezout_swap P r (value_of_parts k fs) (coprime_parts r fs primes none)) d in
          inr (b.0 ⊗ unit.0, sym (P.mul_assoc r b.0 unit.0) ∙ ap (λ x. x ⊗ unit.0) (sym b.1) ∙ unit.1)

  -- a member that p doesn't divide
  missed : (p : List ℕ) → IsPrime p → (vs : List (Polynomial k)) → ¬ All (IsDivisorIn P.ops (value k p)) vs
      → (v : Polynomial k) × In v vs × (¬ IsDivisorIn P.ops (value k p) v)
  missed p h [] no_all = absurd (no_all (All-nil (IsDivisorIn P.ops (value k p))))
  missed p h (v ∷ vs) no_all = go (decide_divides k (value k p) (of_codes p h) v) (missed p h vs)
    where
      go : Dec (IsDivisorIn P.ops (value k p) v)
          → (¬ All (IsDivisorIn P.ops (value k p)) vs
          → (v : Polynomial k) × In v vs × (¬ IsDivisorIn P.ops (value k p) v))
          → (w : Polynomial k) × In w (v ∷ vs) × (¬ IsDivisorIn P.ops (value k p) w)
      go (no n) f = (v, inl refl, n)
      go (yes d) f =
          let r = f (λ all. no_all (All-cons (IsDivisorIn P.ops (value k p)) v vs d all)) in (r.0, inr r.1, r.2)

  -- a denominator none of whose irreducible divisors divides all numerators divides each e for which e times the
  -- fractions are polynomials
  pub least_denominator : (n : ℕ) (d : Polynomial k) → length d.0 < n → ¬ (d ≡ 𝟘) → (vs : List (Polynomial k))
      → ((p : List ℕ) → IsPrime p → IsDivisorIn P.ops (value k p) d → ¬ All (IsDivisorIn P.ops (value k p)) vs)
      → (e : Polynomial k) → ((v : Polynomial k) → In v vs → IsDivisorIn P.ops d (e ⊗ v)) → IsDivisorIn P.ops d e
  least_denominator zero d short d_some vs free e whole = absurd (omega arith)
  least_denominator (suc n) d short d_some vs free e whole = go (one_or_more (length d.0) (some_long k d d_some))
      (least_denominator n)
    where
      one_or_more : (n : ℕ) → 0 < n → (n ≡ 1) ⊎ (2 ≤ n)
      one_or_more n l = grind arith

      go : (length d.0 ≡ 1) ⊎ (2 ≤ length d.0)
          → ((d : Polynomial k) → length d.0 < n → ¬ (d ≡ 𝟘) → (vs : List (Polynomial k))
          → ((p : List ℕ) → IsPrime p → IsDivisorIn P.ops (value k p) d → ¬ All (IsDivisorIn P.ops (value k p)) vs)
          → (e : Polynomial k) → ((v : Polynomial k) → In v vs → IsDivisorIn P.ops d (e ⊗ v)) → IsDivisorIn P.ops d e)
          → IsDivisorIn P.ops d e
      go (inl l) ih =
          let u = short_unit k d l in
          (u.0 ⊗ e, sym (sym (P.mul_assoc d u.0 e) ∙ ap (λ x. x ⊗ e) u.1 ∙ P.mul_comm 𝟙 e ∙ P.mul_one e))
      go (inr l) ih =
          let a = ih d' d'_short d'_some vs free' e' whole' in
          (a.0, e_is ∙ ap (λ x. p ⊗ x) a.1 ∙ sym (P.mul_assoc p d' a.0) ∙ ap (λ x. x ⊗ a.0) (sym d_is))
        where
          r : IrreducibleDivisor k d
          r = irreducible_divisor k (length d.0 + 1) d l (omega arith) d_some

          h : IsPrime r.codes
          h = record { over = r.over; irreducible = r.irreducible }

          p : Polynomial k
          p = value k r.codes

          d' : Polynomial k
          d' = r.divides.0

          d_is : d ≡ p ⊗ d'
          d_is = r.divides.1

          miss : (v : Polynomial k) × In v vs × (¬ IsDivisorIn P.ops p v)
          miss = missed r.codes h vs (free r.codes h r.divides)

          p_divides : IsDivisorIn P.ops p e
          p_divides = pick (prime k p (of_codes r.codes h) e miss.0
              (divisor_trans P p d (e ⊗ miss.0) r.divides (whole miss.0 miss.1)))
            where
              pick : IsDivisorIn P.ops p e ⊎ IsDivisorIn P.ops p miss.0 → IsDivisorIn P.ops p e
              pick (inl x) = x
              pick (inr x) = absurd (miss.2 x)

          e' : Polynomial k
          e' = p_divides.0

          e_is : e ≡ p ⊗ e'
          e_is = p_divides.1

          d'_some : ¬ (d' ≡ 𝟘)
          d'_some z = d_some (d_is ∙ ap (λ x. p ⊗ x) z ∙ mul_zero P p)

          p_some : ¬ (p ≡ 𝟘)
          p_some z = d_some (d_is ∙ ap (λ x. x ⊗ d') z ∙ zero_mul P d')

          d'_short : length d'.0 < n
          d'_short =
              let s : length d.0 ≡ length (p ⊗ d').0 = ap (λ x. length x.0) d_is in
              let l = h.irreducible.not_constant in
              omega (
                arith,
                length_product (code_ring k) (code_domain k) p d' p_some d'_some,
                length_value k r.codes
                    h.over (monic_poly k r.codes h.irreducible.monic),
              )

          divides' : IsDivisorIn P.ops d' d
          divides' = (p, d_is ∙ P.mul_comm p d')

          free' : (q : List ℕ) → IsPrime q → IsDivisorIn P.ops (value k q) d' → ¬ All (IsDivisorIn P.ops (value k q)) vs
          free' q g x = free q g (divisor_trans P (value k q) d' d x divides')

          whole' : (v : Polynomial k) → In v vs → IsDivisorIn P.ops d' (e' ⊗ v)
          whole' v i =
              let w = whole v i in (
                w.0,
                cancel p (e' ⊗ v) (d' ⊗ w.0) p_some
                    (sym (P.mul_assoc p e' v) ∙ ap (λ x. x ⊗ v) (sym e_is) ∙ w.1 ∙ ap (λ x. x ⊗ w.0) d_is
                    ∙ P.mul_assoc p d' w.0),
              )
