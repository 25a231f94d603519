-- What holds of the records of a list of primes holds of the primes.
use Rattle.std.proofs.Common.{inl, inr, List, [], ◌∷◌, arith, All}
use Rattle.std.specs.List.{Any, AllPairs}
use Rattle.std.proofs.lemmas.List.Elements.{All-nil, All-cons, All-head, All-tail}
use Rattle.std.proofs.lemmas.List.Kept.{AllPairs-cons}
use Rattle.prime_theory.proofs.Lists.{any_here, any_there, any_none, any_cases, pairs_head, pairs_tail}
use Rattle.ff_fields.specs.Field.{CodeField}
use Rattle.function_field.specs.Values.{PresValue, equation_of}
use Rattle.ideal_theory.specs.Records.{RecordedPrime}
use Rattle.ff_lattice.specs.Lattices.{LatticeValue, Contains}
use Rattle.value_theory.specs.Laws.{IsRecordOf, AreRecordsOf}
use Rattle.value_theory.specs.Primes.{PrimeValue}

module _ (k : CodeField) (p : PresValue) (o : LatticeValue) where
  pub all_of_records : (T : RecordedPrime (equation_of k p) (Contains k p o) → Type 0) (U : PrimeValue → Type 0)
      → ((P : PrimeValue) (R : RecordedPrime (equation_of k p) (Contains k p o)) → IsRecordOf k p o P R → T R → U P)
      → (Ps : List PrimeValue) (Rs : List (RecordedPrime (equation_of k p) (Contains k p o)))
      → AreRecordsOf k p o Ps Rs → All T Rs → All U Ps
  all_of_records T U f [] Rs h a = All-nil U
  all_of_records T U f (P ∷ Ps) [] h a = absurd h
  all_of_records T U f (P ∷ Ps) (R ∷ Rs) h a =
      All-cons U P Ps (f P R h.0 (All-head T R Rs a)) (all_of_records T U f Ps Rs h.1 (All-tail T R Rs a))

  pub any_of_records : (T : RecordedPrime (equation_of k p) (Contains k p o) → Type 0) (U : PrimeValue → Type 0)
      → ((P : PrimeValue) (R : RecordedPrime (equation_of k p) (Contains k p o)) → IsRecordOf k p o P R → T R → U P)
      → (Ps : List PrimeValue) (Rs : List (RecordedPrime (equation_of k p) (Contains k p o)))
      → AreRecordsOf k p o Ps Rs → Any T Rs → Any U Ps
  any_of_records T U f [] [] h a = absurd (any_none T a)
  any_of_records T U f [] (R ∷ Rs) h a = absurd h
  any_of_records T U f (P ∷ Ps) [] h a = absurd h
  any_of_records T U f (P ∷ Ps) (R ∷ Rs) h a =
      elim (any_cases T R Rs a) [
        | inl t ↦ any_here U P Ps (f P R h.0 t)
        | inr r ↦ any_there U P Ps (any_of_records T U f Ps Rs h.1 r)
      ]

  pub pairs_of_records : (T : RecordedPrime (equation_of k p) (Contains k p o)
      → RecordedPrime (equation_of k p) (Contains k p o) → Type 0) (U : PrimeValue → PrimeValue → Type 0)
      → ((P Q : PrimeValue) (R S : RecordedPrime (equation_of k p) (Contains k p o))
      → IsRecordOf k p o P R → IsRecordOf k p o Q S → T R S → U P Q)
      → (Ps : List PrimeValue) (Rs : List (RecordedPrime (equation_of k p) (Contains k p o)))
      → AreRecordsOf k p o Ps Rs → AllPairs T Rs → AllPairs U Ps
  pairs_of_records T U f [] Rs h a = λ i j e l m. absurd (omega (arith, m))
  pairs_of_records T U f (P ∷ Ps) [] h a = absurd h
  pairs_of_records T U f (P ∷ Ps) (R ∷ Rs) h a =
      AllPairs-cons U P Ps
      (all_of_records (T R) (U P) (λ Q S is t. f P Q R S h.0 is t) Ps Rs h.1 (pairs_head T R Rs a))
      (pairs_of_records T U f Ps Rs h.1 (pairs_tail T R Rs a))
