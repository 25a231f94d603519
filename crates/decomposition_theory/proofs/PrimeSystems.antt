-- Different primes over a polynomial, such that what is in all of them is nilpotent modulo it, are all of them: the
-- multiples of the polynomial are the product of their powers, so that its index is the sum of e·f.
use Rattle.std.proofs.Common.{◌≡◌, ◌≢◌, ◌⊎◌, inl, inr, ℕ, suc, ◌+◌, ◌*◌, ◌-◌, ◌<◌, ◌≤◌, List, [], ◌∷◌, map, length, get_or, pos, refl, sym, ◌∙◌, ap, ap₂, subst, arith, All}
use Rattle.std.specs.List.{AllPairs}
use Rattle.std.proofs.lemmas.Bool.{cases_lt}
use Rattle.std.proofs.lemmas.List.Elements.{All-nil, All-cons, All-head, All-tail}
use Rattle.std.proofs.lemmas.List.Kept.{AllPairs-cons}
use Rattle.ring_theory.specs.Subsets.{Product}
use Rattle.prime_theory.specs.Ideals.{SameSet, Multiple, Power}
use Rattle.prime_theory.specs.IntegerValues.{ValueIs, entry}
use Rattle.prime_theory.specs.Primes.{Different}
use Rattle.prime_theory.specs.Systems.{IdealProduct, IsFamily, IsSystem, AreDistinctPrimes}
use Rattle.prime_theory.proofs.Factorisation.{power_of_value, value_of_power}
use Rattle.prime_theory.proofs.IntegerFactors.{ramification_of}
use Rattle.prime_theory.proofs.Lists.{pairs_head, pairs_tail}
use Rattle.prime_theory.proofs.Valuation.{ge_bounded, ge_of_eq, ge_weaker}
use Rattle.polynomial_theory.proofs.Irreducible.{irreducible_some}
use Rattle.ff_fields.specs.Field.{CodeField}
use Rattle.ff_fields.specs.Over.{IsOver}
use Rattle.ff_poly.specs.Words.{IsIrreducibleList}
use Rattle.ff_poly.specs.Value.{value}
use Rattle.ff_poly.specs.Polynomials.{Polynomial, codes_of}
use Rattle.function_field.specs.Functions.{Equation, FunctionOf, ring_of, of_poly, degree_of_y}
use Rattle.function_field.specs.Values.{PresValue, Functions, functions, equation_of}
use Rattle.lattice_theory.proofs.Bases.{index_same}
use Rattle.lattice_theory.proofs.Indices.{index_once}
use Rattle.lattice_theory.proofs.Operations.{inverse_of}
use Rattle.order_theory.specs.Orders.{IsOrder}
use Rattle.order_theory.proofs.IndexProducts.{total}
use Rattle.order_theory.proofs.ReductionAt.{p_in, multiple_is_lattice, index_of_p}
use Rattle.ideal_theory.specs.Records.{RowSpan, RecordedPrime, ProductOfPowers}
use Rattle.ideal_theory.proofs.Records.{IdealOf, Powers, recorded_family, powers_index, powers_plain}
use Rattle.ff_lattice.specs.Lattices.{LatticeValue, Contains}
use Rattle.ff_lattice.specs.Orders.{IsOrderLattice}
use Rattle.ff_lattice.proofs.OneForm.{one_form}
use Rattle.ff_lattice.proofs.Scaled.{value_length}
use Rattle.value_theory.specs.Primes.{PrimeValue, IsPrimeOf, AreAllPrimes, ProductOfPrimes, sum_of_primes}
use Rattle.value_theory.proofs.Bridge.{order_set, irreducible_poly, irreducible_value}
use Rattle.value_theory.proofs.Primes.{recorded}
use Rattle.decomposition_theory.specs.Laws.{IsPrimeSystem}

-- recorded primes that are a system, each with the greatest power that has p as its exponent: p·O is their product
module _ {k : CodeField} (c : Equation k) (p : Polynomial k) (h : IsIrreducibleList k.ops (codes_of k p))
    (O : FunctionOf c → Type 0) (𝓞 : IsOrder c O) where
  open ring_of c use {ops, ◌⊗◌}

  -- the exponent is that of the greatest power that has p
  pub record HasGreatestPower (i : RecordedPrime c O) : Type 0 where
    pub has : Power (ring_of c).ops O (RowSpan c i.rows) i.exponent (of_poly c p)
    pub not_more : ¬ Power (ring_of c).ops O (RowSpan c i.rows) (suc i.exponent) (of_poly c p)

  abbrev I : Type 0
  I = RecordedPrime c O

  abbrev P : RecordedPrime c O → FunctionOf c → Type 0
  P = IdealOf c p h O 𝓞

  fam : IsFamily (ring_of c).ops O (RecordedPrime c O) (IdealOf c p h O 𝓞)
  fam = recorded_family c p h O 𝓞

  same_entries : (f g : RecordedPrime c O → ℕ) (ps : List (RecordedPrime c O)) → All (λ i. f i ≡ g i) ps
      → map (λ i. entry i (pos (f i))) ps ≡ map (λ i. entry i (pos (g i))) ps
  same_entries f g [] s = refl
  same_entries f g (i ∷ ps) s =
      ap₂ (λ n l. entry i (pos n) ∷ l) (All-head (λ i. f i ≡ g i) i ps s)
      (same_entries f g ps (All-tail (λ i. f i ≡ g i) i ps s))

  module _ (ps : List (RecordedPrime c O))
      (sys : IsSystem (ring_of c).ops O (of_poly c p) (RecordedPrime c O) (IdealOf c p h O 𝓞) ps) where
    -- the value of p is the exponent
    exponent_is : (i : RecordedPrime c O) → IdealOf c p h O 𝓞 i (of_poly c p) → HasGreatestPower i → (e : ℕ)
        → ValueIs (ring_of c).ops O (IdealOf c p h O 𝓞 i) (fam.pair i) (of_poly c p) (pos e) → e ≡ i.exponent
    exponent_is i over g e is = go (cases_lt i.exponent e)
      where
        below : i.exponent + 0 ≤ e + 0
        below =
            ge_bounded (ring_of c) O 𝓞.ring (P i) (fam.prime i) (fam.pair i) (of_poly c p) e 0 i.exponent 0 is
            (value_of_power (ring_of c) O 𝓞.ring (of_poly c p) (p_in c p h O 𝓞) I P fam ps sys i i.exponent
            (of_poly c p) g.has)

        go : (i.exponent < e) ⊎ (e ≤ i.exponent) → e ≡ i.exponent
        go (inl more) =
            absurd
            (g.not_more
            (power_of_value (ring_of c) O 𝓞.ring (of_poly c p) (p_in c p h O 𝓞) I P fam ps sys i over (suc i.exponent)
            (of_poly c p) (p_in c p h O 𝓞)
            (ge_weaker (ring_of c) O 𝓞.ring (P i) (fam.prime i) (fam.pair i) (of_poly c p) e 0 (suc i.exponent) 0
            (omega (arith, more))
            (ge_of_eq (ring_of c) O 𝓞.ring (P i) (fam.prime i) (fam.pair i) (of_poly c p) e 0 is))))
        go (inr less) = let b = below in omega arith

    module _ (apart : AreDistinctPrimes (IdealOf c p h O 𝓞) ps) (greatest : All HasGreatestPower ps) where
      pub multiples_are_powers : SameSet (Multiple (ring_of c).ops (of_poly c p) O)
          (Powers c p h O 𝓞 (λ i. i.exponent) ps)
      multiples_are_powers =
          let u = inverse_of c p (irreducible_some k p h) in
          let r = ramification_of (ring_of c) O 𝓞.ring (of_poly c p) (p_in c p h O 𝓞) I P fam ps sys apart u.0
          ((ring_of c).mul_comm _ _ ∙ u.1) in
          let s : All (λ i. r.0 i ≡ i.exponent) ps
          = λ j d l. exponent_is (get_or ps j d) (sys.over j d l) (greatest j d l) (r.0 (get_or ps j d))
          (r.1 (get_or ps j d)) in
          subst (λ l. SameSet (Multiple ops (of_poly c p) O) (IdealProduct ops O P l))
          (same_entries r.0 (λ i. i.exponent) ps s) r.2

      pub products_within : (z : FunctionOf c) → ProductOfPowers c O ps z → Multiple (ring_of c).ops (of_poly c p) O z
      products_within z m = (multiples_are_powers z).1 ((powers_plain c p h O 𝓞 ps z).1 m)

      pub total_is : total (λ i. i.exponent) (λ i. i.degree) ps ≡ degree_of_y c * (length p.0 - 1)
      total_is =
          let X = Powers c p h O 𝓞 (λ i. i.exponent) ps in
          let pO = Multiple ops (of_poly c p) O in
          index_once c pO O (multiple_is_lattice c p h O 𝓞) _ _
          (index_same c X pO O O (λ z. let s = multiples_are_powers z in (s.1, s.0)) (λ z. (λ m. m, λ m. m)) _
          (powers_index c p h O 𝓞 (λ i. i.exponent) ps).1)
          (index_of_p c p h O 𝓞)

-- the same of the primes of an order of codes
module _ (k : CodeField) (q : PresValue) (positive : 0 < q.n) (o : LatticeValue) (order : IsOrderLattice k q o) where
  abbrev T : PrimeValue → Type 0
  T = IsPrimeOf k q o

  abbrev J : Type 0
  J = RecordedPrime (equation_of k q) (Contains k q o)

  -- the records of the primes
  listed : (Ps : List PrimeValue) → All (IsPrimeOf k q o) Ps → List (RecordedPrime (equation_of k q) (Contains k q o))
  listed [] h = []
  listed (P ∷ Ps) h = recorded k q positive o order P (All-head T P Ps h) ∷ listed Ps (All-tail T P Ps h)

  -- what the primes have, their records have; and the other way round
  module _ (X : PrimeValue → Type 0) (Y : RecordedPrime (equation_of k q) (Contains k q o) → Type 0) where
    forth : ((P : PrimeValue) (t : IsPrimeOf k q o P) → X P → Y (recorded k q positive o order P t))
        → (Ps : List PrimeValue) (h : All (IsPrimeOf k q o) Ps) → All X Ps → All Y (listed Ps h)
    unfolding listed
    forth f [] h a = All-nil Y
    forth f (P ∷ Ps) h a =
        All-cons Y (recorded k q positive o order P (All-head T P Ps h)) (listed Ps (All-tail T P Ps h))
        (f P (All-head T P Ps h) (All-head X P Ps a)) (forth f Ps (All-tail T P Ps h) (All-tail X P Ps a))

    back : ((P : PrimeValue) (t : IsPrimeOf k q o P) → Y (recorded k q positive o order P t) → X P)
        → (Ps : List PrimeValue) (h : All (IsPrimeOf k q o) Ps) → All Y (listed Ps h) → All X Ps
    unfolding listed
    back f [] h a = All-nil X
    back f (P ∷ Ps) h a =
        let R = recorded k q positive o order P (All-head T P Ps h) in
        let rest = listed Ps (All-tail T P Ps h) in
        All-cons X P Ps (f P (All-head T P Ps h) (All-head Y R rest a))
        (back f Ps (All-tail T P Ps h) (All-tail Y R rest a))

  sums : (Ps : List PrimeValue) (h : All (IsPrimeOf k q o) Ps)
      → total (λ i. i.exponent) (λ i. i.degree) (listed Ps h) ≡ sum_of_primes k q o Ps
  unfolding listed recorded
  sums [] h = refl
  sums (P ∷ Ps) h = ap (λ n. P.e * P.degree + n) (sums Ps (All-tail T P Ps h))

  products : (Ps : List PrimeValue) (h : All (IsPrimeOf k q o) Ps)
      → ◌≡◌ {A = Functions k q → Type 0} (ProductOfPowers (equation_of k q) (Contains k q o) (listed Ps h))
      (ProductOfPrimes k q o Ps)
  unfolding listed recorded
  products [] h = refl
  products (P ∷ Ps) h =
      ap (Product (functions k q).ops (Power (functions k q).ops (Contains k q o) (Contains k q P.rows) P.e))
      (products Ps (All-tail T P Ps h))

  module _ (pi : List ℕ) (pi_in : IsOver k.ops pi) (irreducible : IsIrreducibleList k.ops pi) where
    abbrev c : Equation k
    c = equation_of k q

    abbrev O : Functions k q → Type 0
    O = Contains k q o

    𝓞 : IsOrder (equation_of k q) (Contains k q o)
    𝓞 = order_set k q positive o order

    prime_p : IsIrreducibleList k.ops (codes_of k (value k pi))
    prime_p = irreducible_value k pi pi_in irreducible

    abbrev Ideal : RecordedPrime (equation_of k q) (Contains k q o) → Functions k q → Type 0
    Ideal = IdealOf (equation_of k q) (value k pi) prime_p (Contains k q o) 𝓞

    -- different rows are different ideals
    other : (P : PrimeValue) (t : IsPrimeOf k q o P) (Q : PrimeValue) (u : IsPrimeOf k q o Q) → P.rows ≢ Q.rows
        → Different (Ideal (recorded k q positive o order P t)) (Ideal (recorded k q positive o order Q u))
    unfolding recorded
    other P t Q u n =
        elim
        ((recorded_family c (value k pi) prime_p O 𝓞).compare (recorded k q positive o order P t)
        (recorded k q positive o order Q u)) [
          | inl s ↦ absurd (n (one_form k q P.rows Q.rows t.ideal.lattice u.ideal.lattice s positive))
          | inr e ↦ e
        ]

    pairs : (Ps : List PrimeValue) (h : All (IsPrimeOf k q o) Ps) → AllPairs (λ P Q. P.rows ≢ Q.rows) Ps
        → AreDistinctPrimes Ideal (listed Ps h)
    unfolding listed
    pairs [] h d = λ i j e l m. absurd (omega (arith, m))
    pairs (P ∷ Ps) h d =
        AllPairs-cons (λ i j. Different (Ideal i) (Ideal j)) (recorded k q positive o order P (All-head T P Ps h))
        (listed Ps (All-tail T P Ps h))
        (forth (λ Q. P.rows ≢ Q.rows)
        (λ i. Different (Ideal (recorded k q positive o order P (All-head T P Ps h))) (Ideal i))
        (other P (All-head T P Ps h)) Ps (All-tail T P Ps h) (pairs_head (λ P Q. P.rows ≢ Q.rows) P Ps d))
        (pairs Ps (All-tail T P Ps h) (pairs_tail (λ P Q. P.rows ≢ Q.rows) P Ps d))

    over_record : (P : PrimeValue) (t : IsPrimeOf k q o P) → P.p ≡ pi
        → Ideal (recorded k q positive o order P t) (of_poly (equation_of k q) (value k pi))
    unfolding recorded
    over_record P t e = subst (λ a. Contains k q P.rows (of_poly c (value k a))) e t.over

    in_record : (z : Functions k q) (P : PrimeValue) (t : IsPrimeOf k q o P)
        → Ideal (recorded k q positive o order P t) z → Contains k q P.rows z
    unfolding recorded
    in_record z P t m = m

    greatest_record : (P : PrimeValue) (t : IsPrimeOf k q o P) → P.p ≡ pi
        → HasGreatestPower (equation_of k q) (value k pi) prime_p (Contains k q o) 𝓞
        (recorded k q positive o order P t)
    unfolding recorded
    greatest_record P t e = record {
      has = subst (λ a. Power (functions k q).ops O (Contains k q P.rows) P.e (of_poly c (value k a))) e t.ramified;
      not_more = λ m.
          t.not_more
          (subst (λ a. Power (functions k q).ops O (Contains k q P.rows) (suc P.e) (of_poly c (value k a)))
          (sym e) m);
    }

    module _ (Ps : List PrimeValue) (h : IsPrimeSystem k q o pi Ps) where
      system : IsSystem (functions k q).ops (Contains k q o) (of_poly (equation_of k q) (value k pi))
          (RecordedPrime (equation_of k q) (Contains k q o)) Ideal (listed Ps h.primes)
      system = record {
        over = forth (λ P. P.p ≡ pi) (λ i. Ideal i (of_poly c (value k pi))) over_record Ps h.primes h.over;
        nilpotent = λ z z_in m.
            h.nilpotent z z_in (back (λ P. Contains k q P.rows z) (λ i. Ideal i z) (in_record z) Ps h.primes m);
      }

      greatest : All (HasGreatestPower (equation_of k q) (value k pi) prime_p (Contains k q o) 𝓞) (listed Ps h.primes)
      greatest =
          forth (λ P. P.p ≡ pi) (HasGreatestPower c (value k pi) prime_p O 𝓞) greatest_record Ps h.primes h.over

      pub all_primes : AreAllPrimes k q o pi Ps
      all_primes =
          let is = listed Ps h.primes in
          let d = pairs Ps h.primes h.different in
          record {
            primes = h.primes;
            over = h.over;
            different = h.different;
            sum =
                let size = value_length k pi pi_in (irreducible_poly k pi pi_in irreducible) in
                let n : suc (q.n - 1) ≡ q.n = omega arith in
                sym (sums Ps h.primes) ∙ total_is c (value k pi) prime_p O 𝓞 is system d greatest
                ∙ ap₂ (λ n d. n * (d - 1)) n size;
            within = λ z m.
                products_within c (value k pi) prime_p O 𝓞 is system d greatest z
                (subst (λ F. F z) (sym (products Ps h.primes)) m);
          }
