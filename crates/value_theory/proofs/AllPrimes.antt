-- All primes of an order of codes over a polynomial, as a record of primes of the theory.
use Rattle.std.proofs.Common.{◌≡◌, ◌≢◌, ℕ, suc, ◌+◌, ◌*◌, ◌-◌, ◌<◌, List, [], ◌∷◌, refl, ◌∙◌, sym, ap, ap₂, subst, arith, All}
use Rattle.std.specs.List.{AllPairs}
use Rattle.std.proofs.lemmas.List.Elements.{All-nil, All-cons, All-head, All-tail}
use Rattle.std.proofs.lemmas.List.Kept.{AllPairs-cons}
use Rattle.ring_theory.specs.Subsets.{Product}
use Rattle.prime_theory.specs.Ideals.{SameSet, Power}
use Rattle.prime_theory.proofs.Lists.{pairs_head, pairs_tail}
use Rattle.ff_fields.specs.Field.{CodeField}
use Rattle.ff_fields.specs.Over.{IsOver}
use Rattle.ff_poly.specs.Words.{IsIrreducibleList}
use Rattle.ff_poly.specs.Value.{value}
use Rattle.function_field.specs.Values.{PresValue, Functions, functions, equation_of}
use Rattle.ideal_theory.specs.Records.{RowSpan, RecordedPrime, ProductOfPowers, sum_of_record, IsRecordAt}
use Rattle.ideal_theory.proofs.OrderPlaces.{order_places}
use Rattle.ff_lattice.specs.Lattices.{LatticeValue, Contains}
use Rattle.ff_lattice.specs.Orders.{IsOrderLattice}
use Rattle.ff_lattice.proofs.OneForm.{one_form}
use Rattle.ff_lattice.proofs.Scaled.{value_length}
use Rattle.value_theory.specs.Laws.{AreRecordsOf, IsRecordOfPrimes}
use Rattle.value_theory.specs.Primes.{PrimeValue, IsPrimeOf, AreAllPrimes, ProductOfPrimes, sum_of_primes}
use Rattle.value_theory.proofs.Bridge.{order_set, irreducible_poly, irreducible_value}
use Rattle.value_theory.proofs.Primes.{recorded, recorded_is}

module _ (k : CodeField) (q : PresValue) (positive : 0 < q.n) (o : LatticeValue) (order : IsOrderLattice k q o) where
  abbrev T : PrimeValue → Type 0
  T = IsPrimeOf k q o

  abbrev I : Type 0
  I = RecordedPrime (equation_of k q) (Contains k q o)

  -- the records of the primes
  pub records : (Ps : List PrimeValue) → All (IsPrimeOf k q o) Ps
      → List (RecordedPrime (equation_of k q) (Contains k q o))
  records [] h = []
  records (P ∷ Ps) h = recorded k q positive o order P (All-head T P Ps h) ∷ records Ps (All-tail T P Ps h)

  records_are : (Ps : List PrimeValue) (h : All (IsPrimeOf k q o) Ps) → AreRecordsOf k q o Ps (records Ps h)
  unfolding records
  records_are [] h = tt
  records_are (P ∷ Ps) h = (recorded_is k q positive o order P (All-head T P Ps h), records_are Ps (All-tail T P Ps h))

  -- different lattices are different ideals
  abbrev Apart : I → I → Type 0
  Apart R R' = ¬ SameSet (RowSpan (equation_of k q) R.rows) (RowSpan (equation_of k q) R'.rows)

  apart : (P : PrimeValue) (prime : IsPrimeOf k q o P) (Ps : List PrimeValue) (h : All (IsPrimeOf k q o) Ps)
      → All (λ Q. P.rows ≢ Q.rows) Ps → All (Apart (recorded k q positive o order P prime)) (records Ps h)
  unfolding records recorded
  apart P prime [] h d = All-nil (Apart (recorded k q positive o order P prime))
  apart P prime (Q ∷ Ps) h d =
      All-cons (Apart (recorded k q positive o order P prime)) (recorded k q positive o order Q (All-head T Q Ps h))
      (records Ps (All-tail T Q Ps h))
      (λ s.
      All-head (λ Q. P.rows ≢ Q.rows) Q Ps d
      (one_form k q P.rows Q.rows prime.ideal.lattice (All-head T Q Ps h).ideal.lattice s positive))
      (apart P prime Ps (All-tail T Q Ps h) (All-tail (λ Q. P.rows ≢ Q.rows) Q Ps d))

  pairs : (Ps : List PrimeValue) (h : All (IsPrimeOf k q o) Ps) → AllPairs (λ P Q. P.rows ≢ Q.rows) Ps
      → AllPairs Apart (records Ps h)
  unfolding records
  pairs [] h d = λ i j e l m. absurd (omega (arith, m))
  pairs (P ∷ Ps) h d =
      AllPairs-cons Apart (recorded k q positive o order P (All-head T P Ps h)) (records Ps (All-tail T P Ps h))
      (apart P (All-head T P Ps h) Ps (All-tail T P Ps h) (pairs_head (λ P Q. P.rows ≢ Q.rows) P Ps d))
      (pairs Ps (All-tail T P Ps h) (pairs_tail (λ P Q. P.rows ≢ Q.rows) P Ps d))

  sums : (Ps : List PrimeValue) (h : All (IsPrimeOf k q o) Ps)
      → sum_of_record (equation_of k q) (Contains k q o) (records Ps h) ≡ sum_of_primes k q o Ps
  unfolding records recorded
  sums [] h = refl
  sums (P ∷ Ps) h = ap (λ n. P.e * P.degree + n) (sums Ps (All-tail T P Ps h))

  products : (Ps : List PrimeValue) (h : All (IsPrimeOf k q o) Ps)
      → ◌≡◌ {A = Functions k q → Type 0} (ProductOfPowers (equation_of k q) (Contains k q o) (records Ps h))
      (ProductOfPrimes k q o Ps)
  unfolding records recorded
  products [] h = refl
  products (P ∷ Ps) h =
      ap (Product (functions k q).ops (Power (functions k q).ops (Contains k q o) (Contains k q P.rows) P.e))
      (products Ps (All-tail T P Ps h))

  module _ (pi : List ℕ) (pi_in : IsOver k.ops pi) (irreducible : IsIrreducibleList k.ops pi) (Ps : List PrimeValue)
      (h : AreAllPrimes k q o pi Ps) where
    pub record_is : IsRecordAt (equation_of k q) (Contains k q o) (value k pi) (records Ps h.primes)
    record_is = record {
      different = pairs Ps h.primes h.different;
      sum =
          let size = value_length k pi pi_in (irreducible_poly k pi pi_in irreducible) in
          let n : suc (q.n - 1) ≡ q.n = omega arith in
          sums Ps h.primes ∙ h.sum ∙ ap₂ (λ n d. n * (d - 1)) (sym n) (sym size);
      within = λ z m. h.within z (subst (λ F. F z) (products Ps h.primes) m);
    }

    pub all_primes : (Rs : List (RecordedPrime (equation_of k q) (Contains k q o))) × IsRecordOfPrimes k q o pi Ps Rs
    all_primes = (
      records Ps h.primes,
      record {
        each = records_are Ps h.primes;
        record_is = record_is;
        places = λ some.
            order_places (equation_of k q) some (value k pi) (irreducible_value k pi pi_in irreducible) (Contains k q o)
            (order_set k q positive o order) (records Ps h.primes) record_is;
      },
    )
