-- Products of powers of primes: of two lists together, and of a list with opposite exponents.
use Rattle.std.proofs.Common.{ℕ, zero, suc, ◌+◌, List, [], ◌∷◌, ◌++◌, subst, add_comm}
use Rattle.ring_lemmas.specs.Ring.{CommRing}
use Rattle.ring_theory.specs.Subsets.{IsSubring, IsModule, Product}
use Rattle.ring_theory.proofs.Subsets.{product_member, product_module}
use Rattle.prime_theory.specs.Ideals.{SameSet, Inverse, Power}
use Rattle.prime_theory.specs.Systems.{IdealPower, IdealProduct, PrimeExponent, IsFamily, opposite}
use Rattle.prime_theory.proofs.Products.{own_module, product_monotone, product_assoc, product_assoc_back, product_one, power_module}
use Rattle.prime_theory.proofs.Primes.{ideal_module, inverse_module, invertible_of_pair}
use Rattle.prime_theory.proofs.AtPrime.{product_exchange, ideal_power_module, ideal_power_add}
use Rattle.prime_theory.proofs.PrimeProducts.{ideal_product_module}
use Rattle.prime_theory.proofs.Factorisation.{powers_cancel}

module _ {A : Type 0} (R : CommRing A) (O : A → Type 0) (𝓞 : IsSubring R.ops O) (p : A) (p_in : O p)
    (I : Type 0) (P : I → A → Type 0) (fam : IsFamily R.ops O I P) where
  infixl 65 ◌⊕◌
  infixl 70 ◌⊗◌
  infixr 80 ⊖◌
  open R use {𝟘, 𝟙, ◌⊕◌, ◌⊗◌, ⊖◌}

  abbrev K : PrimeExponent I → A → Type 0
  K e = IdealPower R.ops O (P e.index) e.up e.down

  abbrev Prod : List (PrimeExponent I) → A → Type 0
  Prod l = IdealProduct R.ops O P l

  𝓚 : (e : PrimeExponent I) → IsModule R.ops O (K e)
  𝓚 e = ideal_power_module R O 𝓞 (P e.index) (fam.prime e.index) (fam.pair e.index) e.up e.down

  𝓛 : (l : List (PrimeExponent I)) → IsModule R.ops O (Prod l)
  𝓛 = ideal_product_module R O 𝓞 I P fam

  pub product_append : (l l' : List (PrimeExponent I)) → SameSet (Prod (l ++ l')) (Product R.ops (Prod l) (Prod l'))
  product_append [] l' z = let s = product_one R O 𝓞 (Prod l') (𝓛 l') z in (s.1, s.0)
  product_append (e ∷ l) l' z =
      let ih = product_append l l' in (
        λ h.
            product_assoc_back R O 𝓞 (K e) (Prod l) (Prod l') (𝓚 e) z
            (product_monotone R O 𝓞 (K e) (Prod (l ++ l')) (K e) (Product R.ops (Prod l) (Prod l')) (𝓚 e) (λ a m. m)
            (λ a. (ih a).0) z h),
        λ h.
            product_monotone R O 𝓞 (K e) (Product R.ops (Prod l) (Prod l')) (K e) (Prod (l ++ l')) (𝓚 e) (λ a m. m)
            (λ a. (ih a).1) z
            (product_assoc R O 𝓞 (K e) (Prod l) (Prod l') (𝓚 e) z h),
      )

  -- equal exponents cancel
  one_in_powers : (i : I) (n : ℕ) → IdealPower R.ops O (P i) n n 𝟙
  one_in_powers i zero = subst (Product R.ops O O) (R.mul_one 𝟙) (product_member R O 𝓞 O O 𝟙 𝟙 𝓞.one_in 𝓞.one_in)
  one_in_powers i (suc n) =
      let Q = Inverse R.ops O (P i) in
      let 𝓟 = ideal_module R O 𝓞 (P i) (fam.prime i).ideal in
      let 𝓠 = inverse_module R O 𝓞 (P i) (fam.prime i) in
      product_exchange R O 𝓞 (P i) Q (Power R.ops O (P i) n) (Power R.ops O Q n) 𝓟 𝓠 (power_module R O 𝓞 (P i) 𝓟 n) 𝟙
      (subst (Product R.ops (Product R.ops (P i) Q) (IdealPower R.ops O (P i) n n)) (R.mul_one 𝟙)
      (product_member R O 𝓞 (Product R.ops (P i) Q) (IdealPower R.ops O (P i) n n) 𝟙 𝟙
      (invertible_of_pair R O 𝓞 (P i) (fam.prime i) (fam.pair i)) (one_in_powers i n)))

  pub powers_one : (i : I) (n : ℕ) → SameSet (IdealPower R.ops O (P i) n n) O
  powers_one i n z = (
    powers_cancel R O 𝓞 p p_in I P fam i n z,
    λ m.
        subst (IdealPower R.ops O (P i) n n) (R.mul_one z)
        ((ideal_power_module R O 𝓞 (P i) (fam.prime i) (fam.pair i) n n).scale_in z 𝟙 m (one_in_powers i n)),
  )

  -- the products of a list and of its opposite are inverse
  pub product_opposite : (l : List (PrimeExponent I)) → SameSet (Product R.ops (Prod l) (Prod (opposite l))) O
  product_opposite [] z = product_one R O 𝓞 O (own_module R O 𝓞) z
  product_opposite (e ∷ l) z =
      let e' : PrimeExponent I = record { index = e.index; up = e.down; down = e.up } in
      let ih = product_opposite l in
      let n = e.up + e.down in
      let add = ideal_power_add R O 𝓞 (P e.index) (fam.prime e.index) (fam.pair e.index) e.up e.down e.down e.up in
      let one = powers_one e.index n in
      let both : SameSet (Product R.ops (K e) (K e')) O
      = λ x. (
        λ h. (one x).0 (subst (λ m. IdealPower R.ops O (P e.index) n m x) (add_comm e.down e.up) ((add x).0 h)),
        λ h. (add x).1 (subst (λ m. IdealPower R.ops O (P e.index) n m x) (add_comm e.up e.down) ((one x).1 h)),
      ) in
      let own = product_one R O 𝓞 O (own_module R O 𝓞) in (
        λ h.
            (own z).0
            (product_monotone R O 𝓞 (Product R.ops (K e) (K e')) (Product R.ops (Prod l) (Prod (opposite l))) O O
            (own_module R O 𝓞)
            (λ x. (both x).0) (λ x. (ih x).0) z
            (product_exchange R O 𝓞 (K e) (Prod l) (K e') (Prod (opposite l)) (𝓚 e) (𝓛 l) (𝓚 e') z h)),
        λ h.
            product_exchange R O 𝓞 (K e) (K e') (Prod l) (Prod (opposite l)) (𝓚 e) (𝓚 e') (𝓛 l) z
            (product_monotone R O 𝓞 O O (Product R.ops (K e) (K e')) (Product R.ops (Prod l) (Prod (opposite l)))
            (product_module R O 𝓞 (K e) (K e') (𝓚 e))
            (λ x. (both x).1) (λ x. (ih x).1) z ((own z).1 h)),
      )
