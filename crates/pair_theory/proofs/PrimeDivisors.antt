-- The divisor of a list of different primes with integers: it is one, its multiplicities are determined, and one more
-- prime, before the others or behind them, adds it.
use Rattle.std.proofs.Common.{◌≡◌, ◌↔◌, inl, inr, List, [], ◌∷◌, ◌++◌, length, All, sym, subst, arith}
use Rattle.std.specs.List.{AllPairs}
use Rattle.std.proofs.lemmas.Int.{ints}
use Rattle.std.proofs.lemmas.List.Elements.{All-nil, All-cons, All-head, All-tail, All-weaker}
use Rattle.std.proofs.lemmas.List.Kept.{AllPairs-cons}
use Rattle.std.proofs.Math.IntN.{ℤ, pos, ◌+ℤ◌}
use Rattle.prime_theory.proofs.Lists.{pairs_head, pairs_tail}
use Rattle.ff_fields.specs.Field.{CodeField}
use Rattle.function_field.specs.declared.side.Side.{Side}
use Rattle.function_field.specs.Places.{Place, IsPlace, IsSamePlace, IsIn}
use Rattle.function_field.specs.Divisors.{Divisor, IsDivisor, HasMultiplicity}
use Rattle.function_field.specs.PlaceLists.{listed_place}
use Rattle.function_field.specs.Values.{Functions, setting, equation_of}
use Rattle.function_field.specs.Curves.{CurveValue, IsCurve}
use Rattle.places_theory.proofs.Multiplicities.{multiplicity_unique, multiplicity_elsewhere}
use Rattle.places_theory.proofs.SamePlaces.{same_place_sym, same_place_trans}
use Rattle.divisor_theory.proofs.Differences.{multiplicity_at}
use Rattle.ff_lattice.specs.Lattices.{LatticeValue}
use Rattle.value_theory.specs.IntegralLattices.{IsIntegralLattice}
use Rattle.value_theory.specs.Primes.{PrimeValue}
use Rattle.place_lists_theory.specs.Lists.{listed_prime}
use Rattle.pair_theory.specs.Pairs.{IsSidePrime, ArePrimesOfSides, IsDivisorOfPrimes, IsSumWith, divisor_of_primes, place_of_prime}
use Rattle.pair_theory.proofs.SidePrimes.{place_is, same_rows}

-- the divisor 0
module _ (k : CodeField) (c : CurveValue) where
  pub no_places : IsDivisor (setting k c.fin) []
  no_places = record {
    places = All-nil (λ e. IsPlace (setting k c.fin) e.place);
    different = λ i j d l m. absurd (omega (arith, m));
  }

module _ (k : CodeField) (c : CurveValue) (curve : IsCurve k c) (o : Side → LatticeValue)
    (whole : (s : Side) → IsIntegralLattice k c s (o s)) where
  abbrev E : Type 0
  E = Functions k c.fin

  -- a prime that isn't another one
  abbrev Other : PrimeValue → PrimeValue → Type 0
  Other P Q = ¬ ((P.side ≡ Q.side) × (P.rows ≡ Q.rows))

  abbrev Own : PrimeValue → Type 0
  Own P = IsSidePrime k c P.side (o P.side) P

  pub prime_place : (P : PrimeValue) → IsSidePrime k c P.side (o P.side) P
      → IsPlace (setting k c.fin) (place_of_prime k c P)
  prime_place P p = place_is k c curve (o P.side) P P.side (whole P.side) p

  -- different primes have different places
  pub apart : (P Q : PrimeValue) → IsSidePrime k c P.side (o P.side) P → IsSidePrime k c Q.side (o Q.side) Q
      → ¬ ((P.side ≡ Q.side) × (P.rows ≡ Q.rows))
      → ¬ IsSamePlace (setting k c.fin) (place_of_prime k c P) (place_of_prime k c Q)
  apart P Q p q n same =
      let e : P.side ≡ Q.side = same.side in
      n (
        e,
        same_rows k c curve P.side (o P.side) (whole P.side) P Q p
            (subst (λ t. IsSidePrime k c t (o t) Q) (sym e) q)
            (subst (λ t. (z : E) → IsIn (setting k c.fin) (place_of_prime k c P) z
            ↔ IsIn (setting k c.fin) (listed_place k c t (listed_prime k c t Q)) z) (sym e) same.members),
      )

  pub primes_tail : (P : PrimeValue) (Ps : List PrimeValue) → ArePrimesOfSides k c o (P ∷ Ps)
      → ArePrimesOfSides k c o Ps
  primes_tail P Ps h =
      record { primes = All-tail Own P Ps h.primes; different = pairs_tail Other P Ps h.different }

  pub primes_head : (P : PrimeValue) (Ps : List PrimeValue) → ArePrimesOfSides k c o (P ∷ Ps)
      → IsSidePrime k c P.side (o P.side) P
  primes_head P Ps h = All-head Own P Ps h.primes

  -- what holds of the places of the primes holds of those of the divisor
  entries_all : (T : Place E → Type 0) (Ps : List PrimeValue) (ms : List ℤ)
      → All (λ P. T (place_of_prime k c P)) Ps → All (λ e. T e.place) (divisor_of_primes k c Ps ms)
  entries_all T [] ms h = All-nil (λ e. T e.place)
  entries_all T (P ∷ Ps) [] h = All-nil (λ e. T e.place)
  entries_all T (P ∷ Ps) (m ∷ ms) h =
      All-cons (λ e. T e.place) (record { place = place_of_prime k c P; times = m }) (divisor_of_primes k c Ps ms)
      (All-head (λ P. T (place_of_prime k c P)) P Ps h)
      (entries_all T Ps ms (All-tail (λ P. T (place_of_prime k c P)) P Ps h))

  -- the places of the others are others
  others : (P : PrimeValue) (Ps : List PrimeValue) → ArePrimesOfSides k c o (P ∷ Ps)
      → All (λ Q. ¬ IsSamePlace (setting k c.fin) (place_of_prime k c P) (place_of_prime k c Q)) Ps
  others P Ps h i d l =
      apart P _ (primes_head P Ps h) (All-tail Own P Ps h.primes i d l) (pairs_head Other P Ps h.different i d l)

  different : (Ps : List PrimeValue) (ms : List ℤ) → ArePrimesOfSides k c o Ps
      → AllPairs (λ e e'. ¬ IsSamePlace (setting k c.fin) e.place e'.place) (divisor_of_primes k c Ps ms)
  different [] ms h = λ i j d l m. absurd (omega (arith, m))
  different (P ∷ Ps) [] h = λ i j d l m. absurd (omega (arith, m))
  different (P ∷ Ps) (m ∷ ms) h =
      AllPairs-cons (λ e e'. ¬ IsSamePlace (setting k c.fin) e.place e'.place)
      (record { place = place_of_prime k c P; times = m }) (divisor_of_primes k c Ps ms)
      (entries_all (λ Q. ¬ IsSamePlace (setting k c.fin) (place_of_prime k c P) Q) Ps ms (others P Ps h))
      (different Ps ms (primes_tail P Ps h))

  pub is_divisor : (Ps : List PrimeValue) (ms : List ℤ) → ArePrimesOfSides k c o Ps
      → IsDivisor (setting k c.fin) (divisor_of_primes k c Ps ms)
  is_divisor Ps ms h = record {
    places = entries_all (IsPlace (setting k c.fin)) Ps ms
        (All-weaker Own (λ P. IsPlace (setting k c.fin) (place_of_prime k c P)) prime_place Ps h.primes);
    different = different Ps ms h;
  }

  pub divisor_exists : (Ps : List PrimeValue) (ms : List ℤ) → ArePrimesOfSides k c o Ps
      → IsDivisorOfPrimes k c Ps ms (divisor_of_primes k c Ps ms)
  divisor_exists Ps ms h = record { divisor = is_divisor Ps ms h; values = λ M place m n. n }

  pub divisor_once : (Ps : List PrimeValue) (ms : List ℤ) (D D' : Divisor (Functions k c.fin))
      → ArePrimesOfSides k c o Ps → IsDivisorOfPrimes k c Ps ms D → IsDivisorOfPrimes k c Ps ms D'
      → (M : Place (Functions k c.fin)) → IsPlace (setting k c.fin) M → (m : ℤ)
      → HasMultiplicity (setting k c.fin) D M m → HasMultiplicity (setting k c.fin) D' M m
  divisor_once Ps ms D D' h d d' M place m m_is =
      let n = multiplicity_at (equation_of k c.fin) (divisor_of_primes k c Ps ms) (is_divisor Ps ms h) M place in
      subst (HasMultiplicity (setting k c.fin) D' M)
      (multiplicity_unique (setting k c.fin) D M n.0 m (d.values M place n.0 n.1) m_is) (d'.values M place n.0 n.1)

  -- one more prime before the others
  pub sum_before : (P : PrimeValue) (Ps : List PrimeValue) (m : ℤ) (ms : List ℤ) → ArePrimesOfSides k c o (P ∷ Ps)
      → IsSumWith k c (divisor_of_primes k c Ps ms) P m (divisor_of_primes k c (P ∷ Ps) (m ∷ ms))
  sum_before P Ps m ms h = record {
    divisor = is_divisor (P ∷ Ps) (m ∷ ms) h;
    here = λ M place same n n_is.
        let D = divisor_of_primes k c Ps ms in
        let zero : n ≡ pos 0
        = multiplicity_unique (setting k c.fin) D M n (pos 0) n_is
        (multiplicity_elsewhere (setting k c.fin) D M
        (entries_all (λ Q. ¬ IsSamePlace (setting k c.fin) M Q) Ps ms
        (All-weaker (λ Q. ¬ IsSamePlace (setting k c.fin) (place_of_prime k c P) (place_of_prime k c Q))
        (λ Q. ¬ IsSamePlace (setting k c.fin) M (place_of_prime k c Q))
        (λ Q a b.
        a (same_place_trans (setting k c.fin) (place_of_prime k c P) M (place_of_prime k c Q)
        (same_place_sym (setting k c.fin) M (place_of_prime k c P) same) b)) Ps (others P Ps h)))) in
        inl (same, none n m zero);
    elsewhere = λ M place other n n_is. inr (other, n_is);
  }
    where
      none : (n m : ℤ) → n ≡ pos 0 → m ≡ n +ℤ m
      none n m e = omega (arith, ints)

  -- one more prime behind them
  module _ (P : PrimeValue) (m : ℤ) where
    abbrev Longer : List PrimeValue → List ℤ → Divisor (Functions k c.fin)
    Longer Ps ms = divisor_of_primes k c (Ps ++ P ∷ []) (ms ++ m ∷ [])

    at_end : (M : Place (Functions k c.fin)) → IsSamePlace (setting k c.fin) M (place_of_prime k c P)
        → (Ps : List PrimeValue) (ms : List ℤ) → length Ps ≡ length ms
        → All (λ Q. ¬ IsSamePlace (setting k c.fin) (place_of_prime k c Q) (place_of_prime k c P)) Ps → (n : ℤ)
        → HasMultiplicity (setting k c.fin) (divisor_of_primes k c Ps ms) M n
        → HasMultiplicity (setting k c.fin) (divisor_of_primes k c (Ps ++ P ∷ []) (ms ++ m ∷ [])) M (n +ℤ m)
    at_end M same [] [] l h n n_is = inl (same, none n m n_is)
      where
        none : (n m : ℤ) → n ≡ pos 0 → m ≡ n +ℤ m
        none n m e = omega (arith, ints)
    at_end M same [] (a ∷ ms) l h n n_is = absurd (omega (arith, l))
    at_end M same (Q ∷ Ps) [] l h n n_is = absurd (omega (arith, l))
    at_end M same (Q ∷ Ps) (a ∷ ms) l h n (inl i) =
        absurd (All-head (λ Q. ¬ IsSamePlace (setting k c.fin) (place_of_prime k c Q) (place_of_prime k c P)) Q Ps h
        (same_place_trans (setting k c.fin) (place_of_prime k c Q) M (place_of_prime k c P)
        (same_place_sym (setting k c.fin) M (place_of_prime k c Q) i.0) same))
    at_end M same (Q ∷ Ps) (a ∷ ms) l h n (inr i) =
        inr (
          i.0,
          at_end M same Ps ms (omega (arith, l))
              (All-tail (λ Q. ¬ IsSamePlace (setting k c.fin) (place_of_prime k c Q) (place_of_prime k c P)) Q Ps h) n
              i.1,
        )

    not_at_end : (M : Place (Functions k c.fin)) → ¬ IsSamePlace (setting k c.fin) M (place_of_prime k c P)
        → (Ps : List PrimeValue) (ms : List ℤ) → length Ps ≡ length ms → (n : ℤ)
        → HasMultiplicity (setting k c.fin) (divisor_of_primes k c Ps ms) M n
        → HasMultiplicity (setting k c.fin) (divisor_of_primes k c (Ps ++ P ∷ []) (ms ++ m ∷ [])) M n
    not_at_end M other [] [] l n n_is = inr (other, n_is)
    not_at_end M other [] (a ∷ ms) l n n_is = absurd (omega (arith, l))
    not_at_end M other (Q ∷ Ps) [] l n n_is = absurd (omega (arith, l))
    not_at_end M other (Q ∷ Ps) (a ∷ ms) l n (inl i) = inl i
    not_at_end M other (Q ∷ Ps) (a ∷ ms) l n (inr i) = inr (i.0, not_at_end M other Ps ms (omega (arith, l)) n i.1)

    -- the primes before the last one are others
    before_last : (Ps : List PrimeValue) → ArePrimesOfSides k c o (Ps ++ P ∷ [])
        → All (λ Q. ¬ IsSamePlace (setting k c.fin) (place_of_prime k c Q) (place_of_prime k c P)) Ps
    before_last [] h = All-nil (λ Q. ¬ IsSamePlace (setting k c.fin) (place_of_prime k c Q) (place_of_prime k c P))
    before_last (Q ∷ Ps) h =
        All-cons (λ Q. ¬ IsSamePlace (setting k c.fin) (place_of_prime k c Q) (place_of_prime k c P)) Q Ps
        (last (λ R. ¬ IsSamePlace (setting k c.fin) (place_of_prime k c Q) (place_of_prime k c R)) Ps
        (others Q (Ps ++ P ∷ []) h)) (before_last Ps (primes_tail Q (Ps ++ P ∷ []) h))
      where
        last : (T : PrimeValue → Type 0) (Ps : List PrimeValue) → All T (Ps ++ P ∷ []) → T P
        last T [] h = All-head T P [] h
        last T (Q ∷ Ps) h = last T Ps (All-tail T Q (Ps ++ P ∷ []) h)

    pub sum_behind : (Ps : List PrimeValue) (ms : List ℤ) → length Ps ≡ length ms
        → ArePrimesOfSides k c o (Ps ++ P ∷ [])
        → IsSumWith k c (divisor_of_primes k c Ps ms) P m (divisor_of_primes k c (Ps ++ P ∷ []) (ms ++ m ∷ []))
    sum_behind Ps ms l h = record {
      divisor = is_divisor (Ps ++ P ∷ []) (ms ++ m ∷ []) h;
      here = λ M place same n n_is. at_end M same Ps ms l (before_last Ps h) n n_is;
      elsewhere = λ M place other n n_is. not_at_end M other Ps ms l n n_is;
    }
