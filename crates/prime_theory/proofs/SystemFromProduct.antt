-- Primes whose product, with exponents at least 1, is p·O are a prime system at p.
use Rattle.std.proofs.Common.{ℕ, suc, ◌+◌, List, [], ◌∷◌, sym, subst, All}
use Rattle.std.proofs.lemmas.List.Elements.{All-nil, All-cons, All-head, All-tail}
use Rattle.ring_lemmas.specs.Ring.{CommRing, pow}
use Rattle.ring_theory.specs.Subsets.{IsSubring, Product}
use Rattle.ring_lemmas.proofs.Ring.{pow_add}
use Rattle.ring_theory.proofs.Subsets.{product_member}
use Rattle.prime_theory.specs.Ideals.{IsAdditive, Multiple, Power}
use Rattle.prime_theory.specs.Systems.{IdealPower, IdealProduct, PrimeExponent, IsFamily, IsSystem}
use Rattle.prime_theory.proofs.Products.{product_into, own_module, additive_of_module, power_member}
use Rattle.prime_theory.proofs.Primes.{ideal_module, ideal_additive}
use Rattle.prime_theory.proofs.PrimeProducts.{power_within}
use Rattle.prime_theory.proofs.PohstZassenhaus.{multiples_ideal}

module _ {A : Type 0} (R : CommRing A) (O : A → Type 0) (𝓞 : IsSubring R.ops O) (p : A) (p_in : O p)
    (I : Type 0) (P : I → A → Type 0) (fam : IsFamily R.ops O I P) (f : I → ℕ) where
  infixl 65 ◌⊕◌
  infixl 70 ◌⊗◌
  infixr 80 ⊖◌
  open R use {𝟘, 𝟙, ◌⊕◌, ◌⊗◌, ⊖◌}

  -- each prime of a list with the exponent f + 1
  abbrev pub positive_entries : List I → List (PrimeExponent I)
  positive_entries [] = []
  positive_entries (i ∷ is) = record { index = i; up = suc (f i); down = 0 } ∷ positive_entries is

  abbrev Prod : List I → A → Type 0
  Prod is = IdealProduct R.ops O P (positive_entries is)

  O_additive : IsAdditive R.ops O
  O_additive = additive_of_module R O O (own_module R O 𝓞)

  P_additive : (i : I) → IsAdditive R.ops (P i)
  P_additive i = ideal_additive R O 𝓞 (P i) (fam.prime i).ideal

  -- a positive power is in the prime
  head_within : (i : I) (z : A) → IdealPower R.ops O (P i) (suc (f i)) 0 z → P i z
  head_within i =
      product_into R (Power R.ops O (P i) (suc (f i))) O (P i) (P_additive i)
      (λ a b m n.
      subst (P i) (R.mul_comm b a)
      ((fam.prime i).ideal.scale_in b a n
      (product_into R (P i) (Power R.ops O (P i) (f i)) (P i) (P_additive i)
      (λ x y j k.
      subst (P i) (R.mul_comm y x)
      ((fam.prime i).ideal.scale_in y x (power_within R O 𝓞 (P i) (fam.prime i).ideal (f i) y k) j))
      a m)))

  product_within : (is : List I) (z : A) → IdealProduct R.ops O P (positive_entries is) z → O z
  product_within [] z h = h
  product_within (i ∷ is) z h =
      product_into R (IdealPower R.ops O (P i) (suc (f i)) 0) (Prod is) O O_additive
      (λ a b m n. 𝓞.product_in _ _ ((fam.prime i).ideal.within a (head_within i a m)) (product_within is b n)) z h

  -- a product that is within O, of a set within P j and a set within O, is in P j
  times : (M N : A → Type 0) (j : I) → ((a : A) → M a → O a) → ((b : A) → N b → P j b) → (z : A)
      → Product R.ops M N z → P j z
  times M N j f g =
      product_into R M N (P j) (P_additive j) (λ a b m n. (fam.prime j).ideal.scale_in a b (f a m) (g b n))

  -- where all members of N are in the primes of a list, so are the members of M·N
  times_all : (M N : A → Type 0) → ((a : A) → M a → O a) → (js : List I) → ((b : A) → N b → All (λ j. P j b) js)
      → (z : A) → Product R.ops M N z → All (λ j. P j z) js
  times_all M N f [] g z h = All-nil (λ j. P j z)
  times_all M N f (j ∷ js) g z h =
      All-cons (λ j. P j z) j js (times M N j f (λ b n. All-head (λ j. P j b) j js (g b n)) z h)
      (times_all M N f js (λ b n. All-tail (λ j. P j b) j js (g b n)) z h)

  -- the product is in each of the primes
  pub product_in_primes : (is : List I) (z : A) → IdealProduct R.ops O P (positive_entries is) z → All (λ i. P i z) is
  product_in_primes [] z h = All-nil (λ i. P i z)
  product_in_primes (i ∷ is) z h =
      All-cons (λ j. P j z) i is
      (product_into R (IdealPower R.ops O (P i) (suc (f i)) 0) (Prod is) (P i) (P_additive i)
      (λ a b m n. subst (P i) (R.mul_comm b a)
      ((fam.prime i).ideal.scale_in b a (product_within is b n) (head_within i a m))) z h)
      (times_all (IdealPower R.ops O (P i) (suc (f i)) 0) (Prod is)
      (λ a m. (fam.prime i).ideal.within a (head_within i a m)) is (product_in_primes is) z h)

  -- an element of all of the primes has a power in the product
  pub power_of_common : (is : List I) (z : A) → All (λ i. P i z) is → (n : ℕ)
      × IdealProduct R.ops O P (positive_entries is) (pow R.ops z n)
  power_of_common [] z h = (0, 𝓞.one_in)
  power_of_common (i ∷ is) z h =
      let r = power_of_common is z (All-tail (λ i. P i z) i is h) in
      let m = suc (f i) in
      let a = power_member R O 𝓞 (P i) (ideal_module R O 𝓞 (P i) (fam.prime i).ideal) z
      (All-head (λ i. P i z) i is h) m in
      let b : IdealPower R.ops O (P i) m 0 (pow R.ops z m)
      = subst (IdealPower R.ops O (P i) m 0) (R.mul_one _)
      (product_member R O 𝓞 (Power R.ops O (P i) m) O _ 𝟙 a 𝓞.one_in) in (
        m + r.0,
        subst (Prod (i ∷ is)) (sym (pow_add R z m r.0))
            (product_member R O 𝓞 (IdealPower R.ops O (P i) m 0) (Prod is) _ _ b r.1),
      )

  pub system_of_product : (is : List I)
      → ((z : A) → IdealProduct R.ops O P (positive_entries is) z → Multiple R.ops p O z)
      → IdealProduct R.ops O P (positive_entries is) p → IsSystem R.ops O p I P is
  system_of_product is within p_member = record {
    over = product_in_primes is p p_member;
    nilpotent = λ z z_in h.
        let r = power_of_common is z h in
        record {
          exponent = r.0;
          power_in = (multiples_ideal R O 𝓞 p p_in p p_in).scale_in z _ z_in (within _ r.1);
        };
  }
