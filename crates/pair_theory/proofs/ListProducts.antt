-- The product of the powers of a list of primes, one after another: it is the lattice of their divisor.
use Rattle.std.proofs.Common.{◌≡◌, ◌↔◌, ◌⊎◌, inl, inr, List, [], ◌∷◌, All, sym, ◌∙◌, subst, arith}
use Rattle.std.specs.Prelude.{neg_ℤ}
use Rattle.std.proofs.lemmas.Int.{ints}
use Rattle.std.proofs.lemmas.List.Elements.{All-nil, All-cons, All-head, All-tail}
use Rattle.std.proofs.Math.IntN.{ℤ, pos, ◌+ℤ◌}
use Rattle.ring_lemmas.specs.Ring.{CommRing}
use Rattle.ring_theory.specs.Subsets.{IsSubring, IsModule, Product}
use Rattle.ring_theory.proofs.Subsets.{product_module}
use Rattle.prime_theory.specs.Ideals.{SameSet}
use Rattle.prime_theory.proofs.Products.{own_module, product_monotone, product_swap, product_one, product_assoc, product_assoc_back}
use Rattle.ff_fields.specs.Field.{CodeField}
use Rattle.function_field.specs.declared.side.Side.{Side}
use Rattle.function_field.specs.Places.{Place, IsPlace}
use Rattle.function_field.specs.Divisors.{Divisor, HasMultiplicity}
use Rattle.function_field.specs.Values.{PresValue, Functions, functions, setting, equation_of}
use Rattle.function_field.specs.Curves.{CurveValue, IsCurve}
use Rattle.divisor_theory.proofs.Differences.{places_same_decided}
use Rattle.ff_lattice.specs.Lattices.{LatticeValue, IsLatticeValue, Contains}
use Rattle.value_theory.specs.IntegralLattices.{presentation, IsIntegralLattice}
use Rattle.value_theory.specs.Primes.{PrimeValue}
use Rattle.value_theory.proofs.InfiniteLattices.{finite_disc}
use Rattle.ff_ideal.specs.Powers.{IntegerPower}
use Rattle.ff_ideal.proofs.IntegerPowers.{same_module}
use Rattle.pair_theory.specs.Pairs.{IsSidePrime, ArePrimesOfSides, IsDivisorOfPrimes, IsLatticeOfDivisor, IsPowerLattice, IsProductOfAll, PowersOn, none, power, passed, divisor_of_primes, place_of_prime}
use Rattle.pair_theory.proofs.Sides.{order_is}
use Rattle.pair_theory.proofs.OneMore.{allowed_within}
use Rattle.pair_theory.proofs.Tame.{tame_integer}
use Rattle.pair_theory.proofs.DivisorSets.{IsSetOfDivisor, set_same, set_allowed, set_of_none, set_more, tame_prime}
use Rattle.pair_theory.proofs.DivisorLattices.{lattice_of_set}
use Rattle.pair_theory.proofs.PrimeDivisors.{primes_head, primes_tail, is_divisor, sum_before, prime_place}

module _ (k : CodeField) (q : PresValue) (O : Functions k q → Type 0)
    (𝓞 : IsSubring (functions k q).ops O) where
  abbrev R : CommRing (Functions k q)
  R = functions k q

  abbrev IsModuleOf : LatticeValue → Type 0
  IsModuleOf j = IsModule R.ops O (Contains k q j)

  -- the product of the lattices of a list over the ring
  pub product_of : List LatticeValue → Functions k q → Type 0
  product_of [] = O
  product_of (j ∷ js) = Product (functions k q).ops (Contains k q j) (product_of js)

  pub products_module : (js : List LatticeValue) → All IsModuleOf js → IsModule (functions k q).ops O (product_of js)
  unfolding product_of
  products_module [] h = own_module R O 𝓞
  products_module (j ∷ js) h =
      product_module R O 𝓞 (Contains k q j) (product_of js) (All-head IsModuleOf j js h)

  products_are : (a : LatticeValue) (js : List LatticeValue) (l : LatticeValue)
      → IsModule (functions k q).ops O (Contains k q a) → All IsModuleOf js → IsProductOfAll k q a js l
      → SameSet (Contains k q l) (Product (functions k q).ops (Contains k q a) (product_of js))
  unfolding product_of
  products_are a [] l 𝓐 h e z =
      subst (λ x. Contains k q x z ↔ Product R.ops (Contains k q a) O z) (sym e) (
        λ m. product_swap R O 𝓞 O (Contains k q a) 𝓐 z ((product_one R O 𝓞 (Contains k q a) 𝓐 z).1 m),
        λ m.
            (product_one R O 𝓞 (Contains k q a) 𝓐 z).0
            (product_swap R O 𝓞 (Contains k q a) O (own_module R O 𝓞) z m),
      )
  products_are a (j ∷ js) l 𝓐 h r z =
      let A = Contains k q a in
      let J = Contains k q j in
      let B = Contains k q r.0 in
      let W = product_of js in
      let 𝓟 = product_module R O 𝓞 A J 𝓐 in
      let 𝓑 = same_module R O 𝓞 B (Product R.ops A J) r.1.members 𝓟 in
      let i = products_are r.0 js l 𝓑 (All-tail IsModuleOf j js h) r.2 z in (
        λ m.
            product_assoc R O 𝓞 A J W 𝓐 z
            (product_monotone R O 𝓞 B W (Product R.ops A J) W 𝓟 (λ x. (r.1.members x).0) (λ x n. n) z (i.0 m)),
        λ m.
            i.1 (product_monotone R O 𝓞 (Product R.ops A J) W B W 𝓑 (λ x. (r.1.members x).1) (λ x n. n) z
            (product_assoc_back R O 𝓞 A J W 𝓐 z m)),
      )

  -- from the lattice of the ring itself
  pub products_from : (o : LatticeValue) (js : List LatticeValue) (l : LatticeValue) → SameSet (Contains k q o) O
      → All IsModuleOf js → IsProductOfAll k q o js l → SameSet (Contains k q l) (product_of js)
  products_from o js l s h r z =
      let own = own_module R O 𝓞 in
      let W = product_of js in
      let 𝓦 = products_module js h in
      let 𝓐 = same_module R O 𝓞 (Contains k q o) O s own in
      let i = products_are o js l 𝓐 h r z in
      let one = product_one R O 𝓞 W 𝓦 z in (
        λ m. one.0 (product_monotone R O 𝓞 (Contains k q o) W O W own (λ x. (s x).0) (λ x n. n) z (i.0 m)),
        λ m. i.1 (product_monotone R O 𝓞 O W (Contains k q o) W 𝓐 (λ x. (s x).1) (λ x n. n) z (one.1 m)),
      )

  -- the product has the form of a lattice
  pub product_form : (a : LatticeValue) (js : List LatticeValue) (l : LatticeValue) → IsLatticeValue k.ops q.n a
      → IsProductOfAll k q a js l → IsLatticeValue k.ops q.n l
  product_form a [] l form e = subst (IsLatticeValue k.ops q.n) (sym e) form
  product_form a (j ∷ js) l form r = product_form r.0 js l r.1.form r.2

module _ (k : CodeField) (c : CurveValue) (curve : IsCurve k c) (o : Side → LatticeValue)
    (whole : (s : Side) → IsIntegralLattice k c s (o s)) (s : Side) where
  abbrev Os : Functions k (presentation c s) → Type 0
  Os = Contains k (presentation c s) (o s)

  abbrev Powers : List PrimeValue → List ℤ → List LatticeValue → Type 0
  Powers = PowersOn k (presentation c s) (o s) s

  𝓞 : IsSubring (functions k (presentation c s)).ops (Contains k (presentation c s) (o s))
  𝓞 = (order_is k c curve s (o s) (whole s)).ring

  own_prime : (P : PrimeValue) (Ps : List PrimeValue) → ArePrimesOfSides k c o (P ∷ Ps) → P.side ≡ s
      → IsSidePrime k c s (o s) P
  own_prime P Ps h e = subst (λ t. IsSidePrime k c t (o t) P) e (primes_head k c curve o whole P Ps h)

  power_module : (P : PrimeValue) → IsSidePrime k c s (o s) P → (m : ℤ) (j : LatticeValue)
      → IsPowerLattice k (presentation c s) (o s) P m j
      → IsModule (functions k (presentation c s)).ops (Contains k (presentation c s) (o s))
      (Contains k (presentation c s) j)
  power_module P prime m j p =
      let R = functions k (presentation c s) in
      let M = Contains k (presentation c s) P.rows in
      same_module R Os 𝓞 (Contains k (presentation c s) j) (IntegerPower R.ops Os M (neg_ℤ m)) p.members
      (tame_integer k c curve s (o s) (whole s) M (tame_prime k c curve s (o s) (whole s) P prime m)
      (neg_ℤ m)).invertible.module_is

  powers_modules : (Ps : List PrimeValue) (ms : List ℤ) (js : List LatticeValue) → ArePrimesOfSides k c o Ps
      → PowersOn k (presentation c s) (o s) s Ps ms js
      → All (λ j. IsModule (functions k (presentation c s)).ops (Contains k (presentation c s) (o s))
      (Contains k (presentation c s) j)) js
  powers_modules [] [] [] h none =
      All-nil (λ j. IsModule (functions k (presentation c s)).ops Os (Contains k (presentation c s) j))
  powers_modules [] [] (j ∷ js) h x = elim x [ ]
  powers_modules [] (m ∷ ms) js h x = elim x [ ]
  powers_modules (P ∷ Ps) [] js h x = elim x [ ]
  powers_modules (P ∷ Ps) (m ∷ ms) (j ∷ js) h (power e some p rest) =
      All-cons (λ j. IsModule (functions k (presentation c s)).ops Os (Contains k (presentation c s) j)) j js
      (power_module P (own_prime P Ps h e) m j p)
      (powers_modules Ps ms js (primes_tail k c curve o whole P Ps h) rest)
  powers_modules (P ∷ Ps) (m ∷ ms) js h (passed off rest) =
      powers_modules Ps ms js (primes_tail k c curve o whole P Ps h) rest

  -- a prime that is passed doesn't count on the side
  passed_same : (P : PrimeValue) (Ps : List PrimeValue) (m : ℤ) (ms : List ℤ) → ArePrimesOfSides k c o (P ∷ Ps)
      → ¬ (P.side ≡ s) ⊎ (m ≡ pos 0) → (M : Place (Functions k c.fin)) → IsPlace (setting k c.fin) M → M.side ≡ s
      → (n : ℤ) → HasMultiplicity (setting k c.fin) (divisor_of_primes k c Ps ms) M n
      → HasMultiplicity (setting k c.fin) (divisor_of_primes k c (P ∷ Ps) (m ∷ ms)) M n
  passed_same P Ps m ms h (inl other) M place e n n_is =
      (sum_before k c curve o whole P Ps m ms h).elsewhere M place (λ same. other (sym same.side ∙ e)) n n_is
  passed_same P Ps m ms h (inr nought) M place e n n_is =
      let sum = sum_before k c curve o whole P Ps m ms h in
      elim (places_same_decided (equation_of k c.fin) M (place_of_prime k c P) place
      (prime_place k c curve o whole P (primes_head k c curve o whole P Ps h))) [
        | yes same ↦
            subst (HasMultiplicity (setting k c.fin) (divisor_of_primes k c (P ∷ Ps) (m ∷ ms)) M) (nothing n m nought)
            (sum.here M place same n n_is)
        | no other ↦ sum.elsewhere M place other n n_is
      ]
    where
      nothing : (n m : ℤ) → m ≡ pos 0 → n +ℤ m ≡ n
      nothing n m e = omega (arith, ints)

  powers_set : (Ps : List PrimeValue) (ms : List ℤ) (js : List LatticeValue) → ArePrimesOfSides k c o Ps
      → PowersOn k (presentation c s) (o s) s Ps ms js
      → IsSetOfDivisor k c curve s (o s) (whole s) (divisor_of_primes k c Ps ms)
      (product_of k (presentation c s) (Contains k (presentation c s) (o s)) 𝓞 js)
  unfolding product_of
  powers_set [] [] [] h none =
      set_of_none k c curve s (o s) (whole s) (is_divisor k c curve o whole [] [] h)
  powers_set [] [] (j ∷ js) h x = elim x [ ]
  powers_set [] (m ∷ ms) js h x = elim x [ ]
  powers_set (P ∷ Ps) [] js h x = elim x [ ]
  powers_set (P ∷ Ps) (m ∷ ms) (j ∷ js) h (power e some p rest) =
      let R = functions k (presentation c s) in
      let M = Contains k (presentation c s) P.rows in
      let J = Contains k (presentation c s) j in
      let K = IntegerPower R.ops Os M (neg_ℤ m) in
      let W = product_of k (presentation c s) Os 𝓞 js in
      let tail = primes_tail k c curve o whole P Ps h in
      let prime = own_prime P Ps h e in
      let 𝓙 = power_module P prime m j p in
      let 𝓚 = (tame_integer k c curve s (o s) (whole s) M (tame_prime k c curve s (o s) (whole s) P prime m)
      (neg_ℤ m)).invertible.module_is in
      set_same k c curve s (o s) (whole s) (divisor_of_primes k c (P ∷ Ps) (m ∷ ms)) (Product R.ops K W)
      (Product R.ops J W)
      (λ z. (
        product_monotone R Os 𝓞 K W J W 𝓙 (λ x. (p.members x).1) (λ x n. n) z,
        product_monotone R Os 𝓞 J W K W 𝓚 (λ x. (p.members x).0) (λ x n. n) z,
      ))
      (set_more k c curve s (o s) (whole s) P prime m (divisor_of_primes k c Ps ms)
      (divisor_of_primes k c (P ∷ Ps) (m ∷ ms)) (is_divisor k c curve o whole Ps ms tail)
      (sum_before k c curve o whole P Ps m ms h) W (powers_set Ps ms js tail rest))
  powers_set (P ∷ Ps) (m ∷ ms) js h (passed off rest) =
      let tail = primes_tail k c curve o whole P Ps h in
      let D = divisor_of_primes k c Ps ms in
      let E = divisor_of_primes k c (P ∷ Ps) (m ∷ ms) in
      set_allowed k c curve s (o s) (whole s) D E (product_of k (presentation c s) Os 𝓞 js)
      (allowed_within (equation_of k c.fin) (finite_disc k c curve) D E (is_divisor k c curve o whole Ps ms tail) s
      (passed_same P Ps m ms h off)) (powers_set Ps ms js tail rest)

  -- the product of the powers is the lattice of each divisor of the primes
  pub powers_lattice : (Ps : List PrimeValue) (ms : List ℤ) (js : List LatticeValue) (l : LatticeValue)
      (D : Divisor (Functions k c.fin)) → ArePrimesOfSides k c o Ps → IsDivisorOfPrimes k c Ps ms D
      → PowersOn k (presentation c s) (o s) s Ps ms js → IsProductOfAll k (presentation c s) (o s) js l
      → IsLatticeOfDivisor k c s D l
  powers_lattice Ps ms js l D h d powers product =
      let q = presentation c s in
      let D' = divisor_of_primes k c Ps ms in
      let W = product_of k q Os 𝓞 js in
      let e = products_from k q Os 𝓞 (o s) js l (λ z. (λ m. m, λ m. m)) (powers_modules Ps ms js h powers) product in
      lattice_of_set k c curve s (o s) (whole s) D l (product_form k q Os 𝓞 (o s) js l (whole s).form product)
      (set_allowed k c curve s (o s) (whole s) D' D (Contains k q l)
      (allowed_within (equation_of k c.fin) (finite_disc k c curve) D' D (is_divisor k c curve o whole Ps ms h) s
      (λ M place on_s a a_is. d.values M place a a_is))
      (set_same k c curve s (o s) (whole s) D' W (Contains k q l) (λ z. ((e z).1, (e z).0))
      (powers_set Ps ms js h powers)))
