-- The factorisations of p and of an ideal between powers of p, with integers as exponents.
use Rattle.std.proofs.Common.{◌≡◌, ◌⊎◌, inl, inr, ℕ, ◌+◌, ◌-◌, ◌≤◌, ◌<◌, List, [], ◌∷◌, map, refl, sym, subst, arith, All}
use Rattle.std.proofs.lemmas.List.Elements.{All-weaker}
use Rattle.std.proofs.lemmas.Int.{ints}
use Rattle.std.proofs.Math.IntN.{ℤ, pos, negsuc, ◌-ℤ◌}
use Rattle.ring_lemmas.specs.Ring.{CommRing, pow}
use Rattle.ring_theory.specs.Subsets.{IsSubring, IsModule, Span, Product}
use Rattle.ring_theory.proofs.Subsets.{product_member}
use Rattle.prime_theory.specs.Ideals.{SameSet, Multiple}
use Rattle.prime_theory.specs.Systems.{IdealPower, IdealProduct, PrimeExponent, IsFamily, IsSystem, AreDistinctPrimes}
use Rattle.prime_theory.specs.IntegerValues.{up, down, ValueIs, entry}
use Rattle.prime_theory.proofs.Products.{product_into, product_monotone, additive_of_module}
use Rattle.prime_theory.proofs.AtPrime.{ideal_power_module, ideal_power_add}
use Rattle.prime_theory.proofs.Valuation.{le_or_lt, eq_reindex}
use Rattle.prime_theory.proofs.DivisorProducts.{powers_one}
use Rattle.prime_theory.proofs.Factorisation.{entries, ramification, value_of_p_at, factor_p}
use Rattle.prime_theory.proofs.IdealFactors.{ideal_value, ideal_factors, approximate}

-- the difference of two numbers has them as parts, up to what they have in common
pub parts_of : (a b : ℕ) → a + down (pos a -ℤ pos b) ≡ up (pos a -ℤ pos b) + b
parts_of a b = go (pos a -ℤ pos b) refl
  where
    go : (m : ℤ) → pos a -ℤ pos b ≡ m → a + down m ≡ up m + b
    go (pos n) e = omega (arith, ints)
    go (negsuc n) e = omega (arith, ints)

module _ {A : Type 0} (R : CommRing A) (O : A → Type 0) (𝓞 : IsSubring R.ops O) (p : A) (p_in : O p)
    (I : Type 0) (P : I → A → Type 0) (fam : IsFamily R.ops O I P) where
  infixl 65 ◌⊕◌
  infixl 70 ◌⊗◌
  infixr 80 ⊖◌
  open R use {𝟘, 𝟙, ◌⊕◌, ◌⊗◌, ⊖◌}

  𝓚 : (i : I) (a b : ℕ) → IsModule R.ops O (IdealPower R.ops O (P i) a b)
  𝓚 i a b = ideal_power_module R O 𝓞 (P i) (fam.prime i) (fam.pair i) a b

  -- only the difference of the two exponents counts
  pub power_reindex : (i : I) (a b c d : ℕ) → a + d ≡ c + b → (z : A) → IdealPower R.ops O (P i) a b z
      → IdealPower R.ops O (P i) c d z
  power_reindex i a b c d e z h = go (le_or_lt a c)
    where
      one : (n : ℕ) → SameSet (IdealPower R.ops O (P i) n n) O
      one n = powers_one R O 𝓞 p p_in I P fam i n

      add : (a b n : ℕ) → SameSet (Product R.ops (IdealPower R.ops O (P i) a b) (IdealPower R.ops O (P i) n n))
          (IdealPower R.ops O (P i) (a + n) (b + n))
      add a b n = ideal_power_add R O 𝓞 (P i) (fam.prime i) (fam.pair i) a b n n

      more : (n : ℕ) → IdealPower R.ops O (P i) (a + n) (b + n) z
      more n =
          (add a b n z).0
          (subst (Product R.ops (IdealPower R.ops O (P i) a b) (IdealPower R.ops O (P i) n n)) (R.mul_one z)
          (product_member R O 𝓞 (IdealPower R.ops O (P i) a b) (IdealPower R.ops O (P i) n n) z 𝟙 h
          ((one n 𝟙).1 𝓞.one_in)))

      less : (n : ℕ) → IdealPower R.ops O (P i) (c + n) (d + n) z → IdealPower R.ops O (P i) c d z
      less n k =
          product_into R (IdealPower R.ops O (P i) c d) (IdealPower R.ops O (P i) n n) (IdealPower R.ops O (P i) c d)
          (additive_of_module R O (IdealPower R.ops O (P i) c d) (𝓚 i c d))
          (λ x y m l. subst (IdealPower R.ops O (P i) c d) (R.mul_comm y x)
          ((𝓚 i c d).scale_in y x ((one n y).0 l) m)) z ((add c d n z).1 k)

      move : (a b c d : ℕ) → a ≡ c → b ≡ d → IdealPower R.ops O (P i) a b z → IdealPower R.ops O (P i) c d z
      move a b c d e f k =
          subst (λ n. IdealPower R.ops O (P i) n d z) e (subst (λ n. IdealPower R.ops O (P i) a n z) f k)

      go : (a ≤ c) ⊎ (c < a) → IdealPower R.ops O (P i) c d z
      go (inl l) = move (a + (c - a)) (b + (c - a)) c d (omega arith) (omega arith) (more (c - a))
      go (inr l) = less (a - c) (move a b (c + (a - c)) (d + (a - c)) (omega arith) (omega arith) h)

  -- the product of the powers with given exponents
  abbrev pub powers_of : (I → ℤ) → List I → List (PrimeExponent I)
  powers_of v is = map (λ i. entry i (v i)) is

  pub entries_integers : (f g : I → ℕ) (v : I → ℤ) → ((i : I) → f i + down (v i) ≡ up (v i) + g i) → (is : List I)
      → SameSet (IdealProduct R.ops O P (entries R O 𝓞 p p_in I P fam f g is)) (IdealProduct R.ops O P (powers_of v is))
  unfolding entries
  entries_integers f g v e [] z = (λ h. h, λ h. h)
  entries_integers f g v e (i ∷ is) z =
      let rest = entries_integers f g v e is in
      let l = entries R O 𝓞 p p_in I P fam f g is in (
        product_monotone R O 𝓞 (IdealPower R.ops O (P i) (f i) (g i)) (IdealProduct R.ops O P l)
            (IdealPower R.ops O (P i) (up (v i)) (down (v i))) (IdealProduct R.ops O P (powers_of v is))
            (𝓚 i (up (v i)) (down (v i)))
            (power_reindex i (f i) (g i) (up (v i)) (down (v i)) (e i)) (λ x. (rest x).0) z,
        product_monotone R O 𝓞 (IdealPower R.ops O (P i) (up (v i)) (down (v i)))
            (IdealProduct R.ops O P (powers_of v is))
            (IdealPower R.ops O (P i) (f i) (g i)) (IdealProduct R.ops O P l) (𝓚 i (f i) (g i))
            (power_reindex i (up (v i)) (down (v i)) (f i) (g i) (sym (e i))) (λ x. (rest x).1) z,
      )

  module _ (is : List I) (sys : IsSystem R.ops O p I P is) (apart : AreDistinctPrimes P is) where
    -- p·O is the product of the powers of the primes with the values of p
    pub ramification_of : (q : A) → q ⊗ p ≡ 𝟙
        → (e : I → ℕ) × ((i : I) → ValueIs R.ops O (P i) (fam.pair i) p (pos (e i)))
        × SameSet (Multiple R.ops p O) (IdealProduct R.ops O P (powers_of (λ i. pos (e i)) is))
    ramification_of q inverse =
        let e = ramification R O 𝓞 p p_in I P fam is sys in (
          e,
          value_of_p_at R O 𝓞 p p_in I P fam is sys,
          λ z.
              let s = factor_p R O 𝓞 p p_in I P fam is sys q inverse apart z in
              let t = entries_integers e (λ i. 0) (λ i. pos (e i)) (λ i. refl) is z in
              (λ h. t.0 (s.0 h), λ h. s.1 (t.1 h)),
        )

    -- an ideal between powers of p is the product of its values, and has an element with all of them
    pub factorisation_of : (M : A → Type 0) → IsModule R.ops O M → (gens : List A) → SameSet M (Span R.ops O gens)
        → (a : ℕ) → M (pow R.ops p a) → ((z : A) → M z → O (pow R.ops p a ⊗ z))
        → (v : I → ℤ) × SameSet M (IdealProduct R.ops O P (powers_of v is))
        × ((z : A) × M z × All (λ i. ValueIs R.ops O (P i) (fam.pair i) z (v i)) is)
    factorisation_of M 𝓜 gens spanned a has bounded =
        let val = ideal_value R O 𝓞 p p_in I P fam is sys M 𝓜 gens spanned a has bounded in
        let f : I → ℕ = λ i. (val i).up in
        let g : I → ℕ = λ i. (val i).down in
        let v : I → ℤ = λ i. pos (val i).up -ℤ pos (val i).down in
        let best = approximate R O 𝓞 p p_in I P fam is M 𝓜 f g
        (λ i. ((val i).member, (val i).member_in, (val i).exact)) (λ i. (val i).all) apart in (
          v,
          (λ z.
              let s = ideal_factors R O 𝓞 p p_in I P fam is sys M 𝓜 gens spanned a has bounded apart z in
              let t = entries_integers f g v (λ i. parts_of (f i) (g i)) is z in
              (λ h. t.0 (s.0 h), λ h. s.1 (t.1 h))),
          (
            best.0,
            best.1,
            All-weaker
                (λ i. Rattle.prime_theory.specs.Primes.Exactly R.ops O (P i) (fam.pair i).tau (fam.pair i).gamma
                best.0 (f i) (g i))
                (λ i. ValueIs R.ops O (P i) (fam.pair i) best.0 (v i))
                (λ i. eq_reindex R O 𝓞 (P i) (fam.prime i) (fam.pair i) best.0 (f i) (g i) (up (v i)) (down (v i))
                (parts_of (f i) (g i)))
                is best.2,
          ),
        )
