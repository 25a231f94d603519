-- The pivot degree of the lattice of a divisor: that of the order less the sum of the integers times the degrees of the
-- primes.
use Rattle.std.proofs.Common.{◌≡◌, ℕ, zero, suc, ◌*◌, List, [], ◌∷◌, refl, sym, ◌∙◌, subst, arith}
use Rattle.std.specs.Prelude.{neg_ℤ}
use Rattle.std.proofs.lemmas.Int.{ints}
use Rattle.std.proofs.Math.IntN.{ℤ, pos, negsuc, ◌+ℤ◌, ◌-ℤ◌, ◌*ℤ◌}
use Rattle.ring_theory.specs.Subsets.{Product}
use Rattle.ff_fields.specs.Field.{CodeField}
use Rattle.function_field.specs.declared.side.Side.{Side}
use Rattle.function_field.specs.declared.side.Side.TheVariants.{Finite, Infinite}
use Rattle.function_field.specs.Divisors.{Divisor, IsDivisor}
use Rattle.function_field.specs.Values.{Functions, functions, setting, equation_of}
use Rattle.function_field.specs.Curves.{CurveValue, IsCurve}
use Rattle.places_theory.proofs.SamePlaces.{side_discrete}
use Rattle.lattice_theory.proofs.Indices.{index_none}
use Rattle.ideal_theory.specs.Indices.{HasRelativeIndex}
use Rattle.ideal_theory.proofs.RelativeIndex.{relative_add, relative_of_index, relative_once, relative_same}
use Rattle.ff_lattice.specs.Lattices.{LatticeValue, Contains, pivot_degree_of}
use Rattle.value_theory.specs.IntegralLattices.{presentation, IsIntegralLattice}
use Rattle.value_theory.specs.Primes.{PrimeValue}
use Rattle.value_theory.proofs.Laws.{indices_by_degrees}
use Rattle.ff_ideal.specs.Powers.{IntegerPower}
use Rattle.pair_theory.specs.Pairs.{IsSidePrime, ArePrimesOfSides, IsDivisorOfPrimes, IsSumWith, IsLatticeOfDivisor, IsPowerLattice, IsProductLattice, divisor_of_primes, degree_on, where_same}
use Rattle.pair_theory.proofs.Sides.{positive_on, order_is, lattice_on}
use Rattle.pair_theory.proofs.OneMore.{allowed_within}
use Rattle.pair_theory.proofs.DivisorSets.{IsSetOfDivisor, set_once, set_allowed, set_of_none, set_more, index_more}
use Rattle.pair_theory.proofs.DivisorLattices.{set_of_lattice, product_set}
use Rattle.pair_theory.proofs.PrimeDivisors.{primes_head, primes_tail, is_divisor, sum_before}
use Rattle.value_theory.proofs.InfiniteLattices.{finite_disc}

-- a number times an opposite
neg_times : (m : ℤ) (f : ℕ) → neg_ℤ m *ℤ pos f ≡ neg_ℤ (m *ℤ pos f)
neg_times (pos zero) f = let q : 0 * f ≡ 0 = omega arith in omega (arith, ints)
neg_times (pos (suc n)) f = omega (arith, ints)
neg_times (negsuc n) f = omega (arith, ints)

pub counted : (s t : Side) (x : ℤ) → t ≡ s → where_same s t x ≡ x
counted Finite Finite x e = refl
counted Finite Infinite x e = absurd (cc)
counted Infinite Finite x e = absurd (cc)
counted Infinite Infinite x e = refl

pub not_counted : (s t : Side) (x : ℤ) → ¬ (t ≡ s) → where_same s t x ≡ pos 0
not_counted Finite Finite x n = absurd (n refl)
not_counted Finite Infinite x n = refl
not_counted Infinite Finite x n = refl
not_counted Infinite Infinite x n = absurd (n refl)

module _ (k : CodeField) (c : CurveValue) (curve : IsCurve k c) (s : Side) (o : LatticeValue)
    (whole : IsIntegralLattice k c s o) where
  abbrev O : Functions k (presentation c s) → Type 0
  O = Contains k (presentation c s) o

  -- one more prime
  pub degree_more : (D : Divisor (Functions k c.fin)) (P : PrimeValue) (m : ℤ) (l j l' : LatticeValue)
      → IsDivisor (setting k c.fin) D → IsSidePrime k c s o P → IsLatticeOfDivisor k c s D l
      → IsPowerLattice k (presentation c s) o P m j → IsProductLattice k (presentation c s) l j l'
      → pivot_degree_of l' ≡ pivot_degree_of l -ℤ (m *ℤ pos P.degree)
  degree_more D P m l j l' is prime h power product =
      let q = equation_of k (presentation c s) in
      let R = functions k (presentation c s) in
      let L = Contains k (presentation c s) l in
      let L' = Contains k (presentation c s) l' in
      let K = IntegerPower R.ops O (Contains k (presentation c s) P.rows) (neg_ℤ m) in
      let set = set_of_lattice k c curve s o whole D is l h in
      let e = product_set k c curve s o whole D is l h P prime m j l' power product in
      let i =
      relative_same q (Product R.ops K L) L' L L e (λ z. (λ n. n, λ n. n)) (neg_ℤ m *ℤ pos P.degree)
      (index_more k c curve s o whole P prime m L set.lattice) in
      let d = (indices_by_degrees k (presentation c s) (positive_on k c curve s)).relative l' l product.form h.form in
      let one =
      relative_once q L' L (lattice_on k c curve s l' product.form) (lattice_on k c curve s l h.form)
      (pivot_degree_of l' -ℤ pivot_degree_of l) (neg_ℤ m *ℤ pos P.degree) d i in
      let t = neg_times m P.degree in
      omega (arith, ints)

-- all primes of a list
module _ (k : CodeField) (c : CurveValue) (curve : IsCurve k c) (o : Side → LatticeValue)
    (whole : (s : Side) → IsIntegralLattice k c s (o s)) (s : Side) where
  abbrev Os : Functions k (presentation c s) → Type 0
  Os = Contains k (presentation c s) (o s)

  pub record SetOfPrimes (Ps : List PrimeValue) (ms : List ℤ) : Type 1 where
    pub members : Functions k (presentation c s) → Type 0
    pub is : IsSetOfDivisor k c curve s (o s) (whole s) (divisor_of_primes k c Ps ms) members
    pub index : HasRelativeIndex (equation_of k (presentation c s)) members (Contains k (presentation c s) (o s))
        (pos 0 -ℤ degree_on s Ps ms)

  none_is : IsDivisor (setting k c.fin) [] → (d : ℤ) → d ≡ pos 0
      → (X : Functions k (presentation c s) → Type 0) × IsSetOfDivisor k c curve s (o s) (whole s) [] X
      × HasRelativeIndex (equation_of k (presentation c s)) X (Contains k (presentation c s) (o s)) (pos 0 -ℤ d)
  none_is is d e =
      let 𝓞 = (order_is k c curve s (o s) (whole s)).lattice in
      let q = equation_of k (presentation c s) in (
        Os,
        set_of_none k c curve s (o s) (whole s) is,
        subst (HasRelativeIndex q Os Os) (zero_less d e)
            (relative_of_index q Os Os 𝓞 (λ z m. m) 0 (index_none q Os Os 𝓞 (λ z m. m))),
      )
    where
      zero_less : (d : ℤ) → d ≡ pos 0 → pos 0 ≡ pos 0 -ℤ d
      zero_less d e = omega (arith, ints)

  pub set_of_primes : (Ps : List PrimeValue) (ms : List ℤ) → ArePrimesOfSides k c o Ps → SetOfPrimes Ps ms
  set_of_primes [] ms h =
      let r = none_is (is_divisor k c curve o whole [] ms h) (degree_on s [] ms) refl in
      record { members = r.0; is = r.1; index = r.2 }
  set_of_primes (P ∷ Ps) [] h =
      let r = none_is (is_divisor k c curve o whole (P ∷ Ps) [] h) (degree_on s (P ∷ Ps) []) refl in
      record { members = r.0; is = r.1; index = r.2 }
  set_of_primes (P ∷ Ps) (m ∷ ms) h =
      go (set_of_primes Ps ms (primes_tail k c curve o whole P Ps h)) (side_discrete P.side s)
    where
      D : Divisor (Functions k c.fin)
      D = divisor_of_primes k c Ps ms

      is : IsDivisor (setting k c.fin) (divisor_of_primes k c Ps ms)
      is = is_divisor k c curve o whole Ps ms (primes_tail k c curve o whole P Ps h)

      sum : IsSumWith k c (divisor_of_primes k c Ps ms) P m (divisor_of_primes k c (P ∷ Ps) (m ∷ ms))
      sum = sum_before k c curve o whole P Ps m ms h

      go : SetOfPrimes Ps ms → Dec (P.side ≡ s) → SetOfPrimes (P ∷ Ps) (m ∷ ms)
      go r (yes e) =
          let q = equation_of k (presentation c s) in
          let R = functions k (presentation c s) in
          let prime = subst (λ t. IsSidePrime k c t (o t) P) e (primes_head k c curve o whole P Ps h) in
          let K = IntegerPower R.ops Os (Contains k (presentation c s) P.rows) (neg_ℤ m) in
          let X = r.members in
          let set = set_more k c curve s (o s) (whole s) P prime m (divisor_of_primes k c Ps ms)
          (divisor_of_primes k c (P ∷ Ps) (m ∷ ms)) is sum X r.is in
          record {
            members = Product R.ops K X;
            is = set;
            index =
                subst (HasRelativeIndex q (Product R.ops K X) Os)
                (less (neg_ℤ m *ℤ pos P.degree) (m *ℤ pos P.degree) (degree_on s Ps ms)
                (where_same s P.side (m *ℤ pos P.degree)) (neg_times m P.degree)
                (counted s P.side (m *ℤ pos P.degree) e))
                (relative_add q (Product R.ops K X) X set.lattice.invertible.lattice r.is.lattice.invertible.lattice
                Os (order_is k c curve s (o s) (whole s)).lattice (neg_ℤ m *ℤ pos P.degree) (pos 0 -ℤ degree_on s Ps ms)
                (index_more k c curve s (o s) (whole s) P prime m X r.is.lattice) r.index);
          }
        where
          less : (x y d w : ℤ) → x ≡ neg_ℤ y → w ≡ y → x +ℤ (pos 0 -ℤ d) ≡ pos 0 -ℤ (w +ℤ d)
          less x y d w e f = omega (arith, ints)
      go r (no n) = record {
        members = r.members;
        is =
            set_allowed k c curve s (o s) (whole s) (divisor_of_primes k c Ps ms)
            (divisor_of_primes k c (P ∷ Ps) (m ∷ ms))
            r.members
            (allowed_within (equation_of k c.fin) (finite_disc k c curve) (divisor_of_primes k c Ps ms)
            (divisor_of_primes k c (P ∷ Ps) (m ∷ ms)) is s
            (λ M place on_s a a_is.
            sum.elsewhere M place (λ same. n (sym same.side ∙ on_s)) a a_is)) r.is;
        index =
            subst
            (HasRelativeIndex (equation_of k (presentation c s)) r.members (Contains k (presentation c s) (o s)))
            (same (degree_on s Ps ms) (where_same s P.side (m *ℤ pos P.degree))
            (not_counted s P.side (m *ℤ pos P.degree) n)) r.index;
      }
        where
          same : (d w : ℤ) → w ≡ pos 0 → pos 0 -ℤ d ≡ pos 0 -ℤ (w +ℤ d)
          same d w e = omega (arith, ints)

  pub degree_of_primes : (Ps : List PrimeValue) (ms : List ℤ) (D : Divisor (Functions k c.fin)) (l : LatticeValue)
      → ArePrimesOfSides k c o Ps → IsDivisorOfPrimes k c Ps ms D → IsLatticeOfDivisor k c s D l
      → pivot_degree_of l ≡ pivot_degree_of (o s) -ℤ degree_on s Ps ms
  degree_of_primes Ps ms D l h d lattice =
      let q = equation_of k (presentation c s) in
      let L = Contains k (presentation c s) l in
      let D' = divisor_of_primes k c Ps ms in
      let r = set_of_primes Ps ms h in
      let set = set_of_lattice k c curve s (o s) (whole s) D d.divisor l lattice in
      let set' = set_allowed k c curve s (o s) (whole s) D' D r.members
      (allowed_within (equation_of k c.fin) (finite_disc k c curve) D' D
      (is_divisor k c curve o whole Ps ms h) s (λ M place on_s a a_is. d.values M place a a_is)) r.is in
      let e = set_once k c curve s (o s) (whole s) D r.members L set' set in
      let i = relative_same q r.members L Os Os e (λ z. (λ n. n, λ n. n)) (pos 0 -ℤ degree_on s Ps ms) r.index in
      let j = (indices_by_degrees k (presentation c s) (positive_on k c curve s)).relative l (o s) lattice.form
      (whole s).form in
      let one =
      relative_once q L Os (lattice_on k c curve s l lattice.form) (order_is k c curve s (o s) (whole s)).lattice
      (pivot_degree_of l -ℤ pivot_degree_of (o s)) (pos 0 -ℤ degree_on s Ps ms) j i in
      omega (arith, ints)
