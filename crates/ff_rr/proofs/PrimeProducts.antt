-- Products of powers of primes on one side, one prime after another, are the lattices of the divisors of the primes.
use Rattle.std.proofs.Common.{◌≡◌, ◌↔◌, ℕ, ◌+◌, ◌<◌, ◌⊎◌, inl, inr, List, [], ◌∷◌, ◌++◌, length, take, get_or, refl, sym, ◌∙◌, subst, arith}
use Rattle.std.proofs.lemmas.List.{take_more}
use Rattle.std.proofs.Math.IntN.{ℤ, pos}
use Rattle.std.specs.Prelude.{Result, Ok, Err, IfOk, neg_ℤ}
use Rattle.std.specs.declared.alloc.AllocError.{AllocError}
use Rattle.ring_theory.specs.Subsets.{Product}
use Rattle.ff_fields.specs.Field.{CodeField}
use Rattle.function_field.specs.declared.side.Side.{Side}
use Rattle.function_field.specs.declared.side.Side.TheVariants.{Finite, Infinite}
use Rattle.function_field.specs.Divisors.{Divisor}
use Rattle.function_field.specs.Values.{PresValue, IsPresOver, Functions, functions}
use Rattle.ff_lattice.specs.Lattices.{LatticeValue, IsLatticeValue, Contains}
use Rattle.ff_lattice.specs.Orders.{IsOrderLattice}
use Rattle.value_theory.specs.IntegralLattices.{presentation, IsIntegralLattice}
use Rattle.value_theory.specs.Primes.{PrimeValue}
use Rattle.place_lists_theory.proofs.IntegralOrders.{integral_order}
use Rattle.ff_ideal.specs.Powers.{IntegerPower}
use Rattle.pair_theory.specs.Pairs.{IsSidePrime, IsAdmittedLattice, IsDivisorOfPrimes, IsLatticeOfDivisor, IsPowerLattice, IsProductLattice, IsProductOfAll, PowersOn, none, power, passed, divisor_of_primes}
use Rattle.pair_theory.proofs.PrimePowers.{rows_admitted, inverse_admitted, power_by_inverse}
use Rattle.pair_theory.proofs.PrimeDivisors.{divisor_exists}
use Rattle.pair_theory.proofs.ListProducts.{powers_lattice}
use Rattle.pair_theory.proofs.ListDegrees.{degree_of_primes}
use Rattle.ff_rr.specs.Frames.{FrameValue, IsFrame, order_on}
use Rattle.ff_rr.specs.Products as products
use Rattle.ff_rr.specs.Products.{IsWithPrime, IsProductOfPowers, ArePrimesOfFrame, IsLatticeOfPrimes}

module _ (k : CodeField) (q : PresValue) (o : LatticeValue) (s : Side) where
  -- one power more, behind the others
  powers_behind : (Ps : List PrimeValue) (ms : List ℤ) (js : List LatticeValue) (P : PrimeValue) (m : ℤ)
      (j : LatticeValue) → P.side ≡ s → ¬ (m ≡ pos 0) → IsPowerLattice k q o P m j → PowersOn k q o s Ps ms js
      → PowersOn k q o s (Ps ++ P ∷ []) (ms ++ m ∷ []) (js ++ j ∷ [])
  powers_behind _ _ _ P m j side some is none = power side some is none
  powers_behind _ _ _ P m j side some is (power {Ps = Ps} {ms = ms} {js = js} a b c rest) =
      power a b c (powers_behind Ps ms js P m j side some is rest)
  powers_behind _ _ _ P m j side some is (passed {Ps = Ps} {ms = ms} {js = js} a rest) =
      passed a (powers_behind Ps ms js P m j side some is rest)

  powers_passed : (Ps : List PrimeValue) (ms : List ℤ) (js : List LatticeValue) (P : PrimeValue) (m : ℤ)
      → ¬ (P.side ≡ s) ⊎ (m ≡ pos 0) → PowersOn k q o s Ps ms js
      → PowersOn k q o s (Ps ++ P ∷ []) (ms ++ m ∷ []) js
  powers_passed _ _ _ P m off none = passed off none
  powers_passed _ _ _ P m off (power {Ps = Ps} {ms = ms} {js = js} a b c rest) =
      power a b c (powers_passed Ps ms js P m off rest)
  powers_passed _ _ _ P m off (passed {Ps = Ps} {ms = ms} {js = js} a rest) =
      passed a (powers_passed Ps ms js P m off rest)

  product_behind : (a : LatticeValue) (js : List LatticeValue) (l j l' : LatticeValue) → IsProductOfAll k q a js l
      → IsProductLattice k q l j l' → IsProductOfAll k q a (js ++ j ∷ []) l'
  product_behind a [] l j l' l_is h = (l', subst (λ b. IsProductLattice k q b j l') l_is h, refl)
  product_behind a (i ∷ js) l j l' h is = (h.0, h.1, product_behind h.0 js l j l' h.2 is)

  -- what a power and a product with it answer
  with_product : (P : PrimeValue) (m : ℤ) (l j : LatticeValue) → P.side ≡ s → ¬ (m ≡ pos 0) → IsPowerLattice k q o P m j
      → (r : Result LatticeValue AllocError) → IfOk r (IsLatticeValue k.ops q.n)
      → IfOk r (λ l'. (z : Functions k q) → Contains k q l' z
      ↔ Product (functions k q).ops (Contains k q l) (Contains k q j) z) → IfOk r (IsWithPrime k q o s P m l)
  with_product P m l j side some is (Ok l') form members =
      products.times side some j is (record { form = form; members = members })
  with_product P m l j side some is (Err e) form members = form

  pub product_start : IsProductOfPowers k q o s [] [] o
  product_start = record { powers = []; are = none; product = refl }

  product_behind_all : (Ps : List PrimeValue) (ms : List ℤ) (P : PrimeValue) (m : ℤ) (l l' : LatticeValue)
      → IsProductOfPowers k q o s Ps ms l → IsWithPrime k q o s P m l l'
      → IsProductOfPowers k q o s (Ps ++ P ∷ []) (ms ++ m ∷ []) l'
  product_behind_all Ps ms P m l l' h (products.passed off l_is) = record {
    powers = h.powers;
    are = powers_passed Ps ms h.powers P m off h.are;
    product = subst (IsProductOfAll k q o h.powers) (sym l_is) h.product;
  }
  product_behind_all Ps ms P m l l' h (products.times side some j is product) = record {
    powers = h.powers ++ j ∷ [];
    are = powers_behind Ps ms h.powers P m j side some is h.are;
    product = product_behind o h.powers l j l' h.product product;
  }

  pub product_more : (Ps : List PrimeValue) (ms : List ℤ) (i : ℕ) (P : PrimeValue) (m : ℤ) (l l' : LatticeValue)
      → i < length Ps → length Ps ≡ length ms → P ≡ get_or Ps i P → m ≡ get_or ms i m
      → IsProductOfPowers k q o s (take i Ps) (take i ms) l → IsWithPrime k q o s P m l l'
      → IsProductOfPowers k q o s (take (i + 1) Ps) (take (i + 1) ms) l'
  product_more Ps ms i P m l l' less same P_is m_is h step =
      let ps = sym (take_more Ps i P less ∙ end Ps i P P_is) in
      let ns = sym (take_more ms i m (omega (arith, less, same)) ∙ end ms i m m_is) in
      subst (λ (Qs : List PrimeValue). IsProductOfPowers k q o s Qs (take (i + 1) ms) l') ps
      (subst (λ (ns : List ℤ). IsProductOfPowers k q o s (take i Ps ++ P ∷ []) ns l') ns
      (product_behind_all (take i Ps) (take i ms) P m l l' h step))
    where
      end : {A : Type 0} (xs : List A) (i : ℕ) (x : A) → x ≡ get_or xs i x
          → take i xs ++ get_or xs i x ∷ [] ≡ take i xs ++ x ∷ []
      end xs i x e = subst (λ y. take i xs ++ y ∷ [] ≡ take i xs ++ x ∷ []) e refl

-- a power by the inverse, or by the rows of the prime, over equal presentations and orders
module _ (k : CodeField) (q q' : PresValue) (o o' : LatticeValue) (P : PrimeValue) (m : ℤ) (q_is : q' ≡ q)
    (o_is : o' ≡ o) where
  moved : (r : Result LatticeValue AllocError) → IfOk r (IsPowerLattice k q' o' P m)
      → IfOk r (IsPowerLattice k q o P m)
  moved r h =
      subst (λ (a : LatticeValue). IfOk r (IsPowerLattice k q a P m)) o_is
      (subst (λ (p : PresValue). IfOk r (IsPowerLattice k p o' P m)) q_is h)

  pub by_rows : (rows : LatticeValue) (e : ℤ) → rows ≡ P.rows → e ≡ neg_ℤ m → (r : Result LatticeValue AllocError)
      → IfOk r (IsLatticeValue k.ops q'.n)
      → IfOk r (λ j. (z : Functions k q') → Contains k q' j z
      ↔ IntegerPower (functions k q').ops (Contains k q' o') (Contains k q' rows) e z)
      → IfOk r (IsPowerLattice k q o P m)
  by_rows rows e rows_is e_is (Ok j) form members =
      moved (Ok j) (record {
        form = form;
        members =
            subst (λ (d : ℤ). (z : Functions k q') → Contains k q' j z
            ↔ IntegerPower (functions k q').ops (Contains k q' o') (Contains k q' P.rows) d z) e_is
            (subst (λ (i : LatticeValue). (z : Functions k q') → Contains k q' j z
            ↔ IntegerPower (functions k q').ops (Contains k q' o') (Contains k q' i) e z) rows_is members);
      })
  by_rows rows e rows_is e_is (Err f) form members = form

-- a product with a power, over an equal presentation
pub with_of_equals : (k : CodeField) (q q' : PresValue) (o : LatticeValue) (s : Side) (P : PrimeValue) (m : ℤ)
    (l j : LatticeValue) → q' ≡ q → P.side ≡ s → ¬ (m ≡ pos 0) → IsPowerLattice k q o P m j
    → (r : Result LatticeValue AllocError) → IfOk r (IsLatticeValue k.ops q'.n)
    → IfOk r (λ l'. (z : Functions k q') → Contains k q' l' z
    ↔ Product (functions k q').ops (Contains k q' l) (Contains k q' j) z)
    → IfOk r (IsWithPrime k q o s P m l)
with_of_equals k q q' o s P m l j q_is side some is r form members =
    subst (λ (p : PresValue). IfOk r (IsWithPrime k p o s P m l)) q_is
    (with_product k q' o s P m l j side some
    (subst (λ (p : PresValue). IsPowerLattice k p o P m j) (sym q_is) is) r form members)

module _ (k : CodeField) (f : FrameValue) (h : IsFrame k f) where
  pub presentation_at : (s : Side) → IsPresOver k.ops (presentation f.curve s)
  presentation_at Finite = h.curve.fin_over
  presentation_at Infinite = h.curve.inf_over

  -- a prime of its side is one of the side
  pub prime_at : (s : Side) (P : PrimeValue) → P.side ≡ s
      → IsSidePrime k f.curve P.side (order_on f P.side) P → IsSidePrime k f.curve s (order_on f s) P
  prime_at s P e = subst (λ (t : Side). IsSidePrime k f.curve t (order_on f t) P) e

  pub integral_at : (s : Side) → IsIntegralLattice k f.curve s (order_on f s)
  integral_at Finite = h.finite
  integral_at Infinite = h.infinite

  pub order_at : (s : Side) → IsOrderLattice k (presentation f.curve s) (order_on f s)
  order_at s = integral_order k f.curve h.curve (order_on f s) s (integral_at s)

  -- a prime of the side, and its inverse, have powers
  pub rows_at : (s : Side) (P : PrimeValue) → IsSidePrime k f.curve s (order_on f s) P
      → IsAdmittedLattice k (presentation f.curve s) (order_on f s) P.rows
  rows_at s P prime = rows_admitted k f.curve h.curve s (order_on f s) (integral_at s) P prime

  pub inverse_at : (s : Side) (P : PrimeValue) → IsSidePrime k f.curve s (order_on f s) P
      → IsAdmittedLattice k (presentation f.curve s) (order_on f s) P.inverse
  inverse_at s P prime = inverse_admitted k f.curve h.curve s (order_on f s) (integral_at s) P prime

  -- what a power of the inverse answers, over equal presentations, orders and inverses
  pub by_inverse : (s : Side) (P : PrimeValue) (m : ℤ) → IsSidePrime k f.curve s (order_on f s) P → (q' : PresValue)
      (o' inverse : LatticeValue) (e : ℤ) → q' ≡ presentation f.curve s → o' ≡ order_on f s → inverse ≡ P.inverse
      → e ≡ m → (r : Result LatticeValue AllocError) → IfOk r (IsLatticeValue k.ops q'.n)
      → IfOk r (λ j. (z : Functions k q') → Contains k q' j z
      ↔ IntegerPower (functions k q').ops (Contains k q' o') (Contains k q' inverse) e z)
      → IfOk r (IsPowerLattice k (presentation f.curve s) (order_on f s) P m)
  by_inverse s P m prime q' o' inverse e q_is o_is i_is e_is r form members =
      own r
      (subst (λ (q : PresValue). IfOk r (IsLatticeValue k.ops q.n)) q_is form)
      (subst (λ (q : PresValue). IfOk r (λ j. (z : Functions k q) → Contains k q j z
      ↔ IntegerPower (functions k q).ops (Contains k q (order_on f s)) (Contains k q P.inverse) m z)) q_is
      (subst (λ (o : LatticeValue). IfOk r (λ j. (z : Functions k q') → Contains k q' j z
      ↔ IntegerPower (functions k q').ops (Contains k q' o) (Contains k q' P.inverse) m z)) o_is
      (subst (λ (d : ℤ). IfOk r (λ j. (z : Functions k q') → Contains k q' j z
      ↔ IntegerPower (functions k q').ops (Contains k q' o') (Contains k q' P.inverse) d z)) e_is
      (subst (λ (i : LatticeValue). IfOk r (λ j. (z : Functions k q') → Contains k q' j z
      ↔ IntegerPower (functions k q').ops (Contains k q' o') (Contains k q' i) e z)) i_is members))))
    where
      own : (r : Result LatticeValue AllocError) → IfOk r (IsLatticeValue k.ops (presentation f.curve s).n)
          → IfOk r (λ j. (z : Functions k (presentation f.curve s)) → Contains k (presentation f.curve s) j z
          ↔ IntegerPower (functions k (presentation f.curve s)).ops
          (Contains k (presentation f.curve s) (order_on f s)) (Contains k (presentation f.curve s) P.inverse) m z)
          → IfOk r (IsPowerLattice k (presentation f.curve s) (order_on f s) P m)
      own (Ok j) form members =
          power_by_inverse k f.curve h.curve s (order_on f s) (integral_at s) P prime m j form members
      own (Err e) form members = form

  pub product_done : (s : Side) (Ps : List PrimeValue) (ms : List ℤ) (l : LatticeValue) → ArePrimesOfFrame k f Ps
      → IsProductOfPowers k (presentation f.curve s) (order_on f s) s Ps ms l → IsLatticeOfPrimes k f s Ps ms l
  product_done s Ps ms l primes p =
      let lattice : (D : Divisor (Functions k f.curve.fin)) → IsDivisorOfPrimes k f.curve Ps ms D
      → IsLatticeOfDivisor k f.curve s D l
      = λ D d. powers_lattice k f.curve h.curve
      (order_on f) integral_at s Ps ms p.powers l D primes d p.are p.product in
      let exists = divisor_exists k f.curve h.curve (order_on f) integral_at Ps ms primes in
      record {
        lattice = lattice;
        degree =
            degree_of_primes k f.curve h.curve (order_on f) integral_at s Ps ms (divisor_of_primes k f.curve Ps ms) l
            primes exists (lattice (divisor_of_primes k f.curve Ps ms) exists);
      }
