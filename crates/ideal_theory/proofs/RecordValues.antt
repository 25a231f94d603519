-- In an order with a record of primes over p, the values of p at the primes of the record are its exponents.
use Rattle.std.proofs.Common.{◌≡◌, ◌⊎◌, inl, inr, ℕ, zero, suc, ◌+◌, ◌*◌, ◌≤◌, List, [], ◌∷◌, pos, refl, sym, ◌∙◌, subst, arith, All, suc-mul, mul-le-mul_right}
use Rattle.std.proofs.lemmas.List.Elements.{All-nil, All-cons, All-head, All-tail, All-weaker}
use Rattle.prime_theory.specs.Ideals.{SameSet}
use Rattle.prime_theory.specs.IntegerValues.{ValueIs}
use Rattle.prime_theory.specs.Primes.{AtLeast}
use Rattle.prime_theory.specs.Systems.{IsFamily, IsSystem, AreDistinctPrimes}
use Rattle.prime_theory.proofs.Factorisation.{values_of_entries}
use Rattle.prime_theory.proofs.IntegerFactors.{entries_integers, ramification_of}
use Rattle.prime_theory.proofs.Valuation.{ge_bounded}
use Rattle.ff_fields.specs.Field.{CodeField}
use Rattle.ff_poly.specs.Words.{IsIrreducibleList}
use Rattle.ff_poly.specs.Polynomials.{Polynomial, codes_of}
use Rattle.function_field.specs.Functions.{Equation, FunctionOf, ring_of, of_poly}
use Rattle.polynomial_theory.proofs.Irreducible.{irreducible_some}
use Rattle.function_field.specs.Indices.{HasIndex}
use Rattle.lattice_theory.proofs.Bases.{index_same}
use Rattle.lattice_theory.proofs.Indices.{index_once, index_zero}
use Rattle.lattice_theory.proofs.Operations.{inverse_of}
use Rattle.order_theory.specs.Orders.{IsOrder}
use Rattle.order_theory.proofs.IndexProducts.{total}
use Rattle.order_theory.proofs.ReductionAt.{pO, p_in}
use Rattle.ideal_theory.specs.Records.{RowSpan, RecordedPrime, IsRecordAt}
use Rattle.ideal_theory.proofs.Records.{IdealOf, Powers, recorded_family, powers_index, record_powers, record_system, record_distinct}
use Rattle.std.proofs.lemmas.Bool.{cases_lt}

-- where exponents are bounded by others with the same sum of products, they are equal
module _ {I : Type 0} (e f d : I → ℕ) (some : (i : I) → 1 ≤ d i) where
  total_le : (is : List I) → All (λ i. f i ≤ e i) is → total f d is ≤ total e d is
  total_le [] h = omega arith
  total_le (i ∷ is) h =
      let a : f i * d i ≤ e i * d i = mul-le-mul_right (d i) (All-head (λ i. f i ≤ e i) i is h) in
      let b = total_le is (All-tail (λ i. f i ≤ e i) i is h) in
      omega (arith, a, b)

  equal_exponents : (is : List I) → All (λ i. f i ≤ e i) is → total e d is ≡ total f d is → All (λ i. f i ≡ e i) is
  equal_exponents [] h t = All-nil (λ i. f i ≡ e i)
  equal_exponents (i ∷ is) h t =
      let l = All-head (λ i. f i ≤ e i) i is h in
      let rest = All-tail (λ i. f i ≤ e i) i is h in
      let a : f i * d i ≤ e i * d i = mul-le-mul_right (d i) l in
      let b = total_le is rest in
      All-cons (λ i. f i ≡ e i) i is
      (equal l (cases_lt (f i) (e i))
      (let s : e i * d i + total e d is ≡ f i * d i + total f d is = t in omega (arith, a, b, s)))
      (equal_exponents is rest (let s : e i * d i + total e d is ≡ f i * d i + total f d is = t in
      omega (arith, a, b, s)))
    where
      equal : f i ≤ e i → (suc (f i) ≤ e i) ⊎ (e i ≤ f i) → f i * d i ≡ e i * d i → f i ≡ e i
      equal l (inr g) p = omega (arith, l, g)
      equal l (inl g) p =
          let a : suc (f i) * d i ≤ e i * d i = mul-le-mul_right (d i) g in
          let b : suc (f i) * d i ≡ f i * d i + d i = suc-mul (f i) (d i) in
          let c = some i in
          absurd (omega (arith, a, b, c, p))

module _ {k : CodeField} (c : Equation k) (p : Polynomial k) (h : IsIrreducibleList k.ops (codes_of k p))
    (O : FunctionOf c → Type 0) (𝓞 : IsOrder c O)
    (ps : List (RecordedPrime c O)) (valid : IsRecordAt c O p ps) where
  open ring_of c use {ops, 𝟙, ◌⊗◌}

  abbrev I : Type 0
  I = RecordedPrime c O

  abbrev P : RecordedPrime c O → FunctionOf c → Type 0
  P = IdealOf c p h O 𝓞

  abbrev fam : IsFamily (ring_of c).ops O (RecordedPrime c O) (IdealOf c p h O 𝓞)
  fam = recorded_family c p h O 𝓞

  sys : IsSystem (ring_of c).ops O (of_poly c p) (RecordedPrime c O) (IdealOf c p h O 𝓞) ps
  sys = record_system c p h O 𝓞 ps valid

  apart : AreDistinctPrimes (IdealOf c p h O 𝓞) ps
  apart = record_distinct c p h O 𝓞 ps valid

  abbrev p_int : O (of_poly c p)
  p_int = p_in c p h O 𝓞

  -- the values of p
  r : (e : RecordedPrime c O → ℕ)
      × ((i : RecordedPrime c O) → ValueIs (ring_of c).ops O (P i) (fam.pair i) (of_poly c p) (pos (e i)))
      × SameSet (pO c p h O 𝓞) (Powers c p h O 𝓞 e ps)
  r =
      let u = inverse_of c p (irreducible_some k p h) in
      ramification_of (ring_of c) O 𝓞.ring (of_poly c p) p_int I P fam ps sys apart u.0 ((ring_of c).mul_comm _ _ ∙ u.1)

  -- they are at least the exponents of the record
  bounded : All (λ i. i.exponent ≤ r.0 i) ps
  bounded =
      All-weaker (λ i. AtLeast ops O (P i) (fam.pair i).tau (fam.pair i).gamma (of_poly c p) i.exponent 0)
      (λ i. i.exponent ≤ r.0 i)
      (λ i v.
      let l = ge_bounded (ring_of c) O 𝓞.ring (P i) (fam.prime i) (fam.pair i) (of_poly c p) (r.0 i) 0 i.exponent 0
      (r.1 i) v in
      omega (arith, l)) ps
      (values_of_entries (ring_of c) O 𝓞.ring (of_poly c p) p_int I P fam (λ i. i.exponent) (λ i. 0) ps apart
      (of_poly c p)
      ((entries_integers (ring_of c) O 𝓞.ring (of_poly c p) p_int I P fam (λ i. i.exponent) (λ i. 0)
      (λ i. pos i.exponent) (λ i. refl) ps (of_poly c p)).1
      ((record_powers c p h O 𝓞 ps valid (of_poly c p)).0
      (record { quotient = 𝟙; quotient_in = 𝓞.ring.one_in; is = sym ((ring_of c).mul_one (of_poly c p)) }))))

  positive_degree : (i : RecordedPrime c O) → 1 ≤ i.degree
  positive_degree i = go i.degree i.index
    where
      go : (g : ℕ) → HasIndex c (P i) O g → 1 ≤ g
      go zero j = absurd (i.field.proper (index_zero c (P i) O i.lattice j 𝟙 𝓞.ring.one_in))
      go (suc g) j = omega arith

  -- so they are equal, since both products are p·O
  exponents : All (λ i. i.exponent ≡ r.0 i) ps
  exponents =
      let a = powers_index c p h O 𝓞 r.0 ps in
      let b = powers_index c p h O 𝓞 (λ i. i.exponent) ps in
      let X = Powers c p h O 𝓞 r.0 ps in
      let Y = Powers c p h O 𝓞 (λ i. i.exponent) ps in
      let s = record_powers c p h O 𝓞 ps valid in
      let same : SameSet Y X = λ z. (λ m. (r.2 z).0 ((s z).1 m), λ m. (s z).0 ((r.2 z).1 m)) in
      equal_exponents r.0 (λ i. i.exponent) (λ i. i.degree) positive_degree ps bounded
      (index_once c X O a.0.lattice _ _ a.1 (index_same c Y X O O same (λ z. (λ m. m, λ m. m)) _ b.1))

  pub record_values : All (λ i. ValueIs (ring_of c).ops O (RowSpan c i.rows) ((recorded_family c p h O 𝓞).pair i)
      (of_poly c p) (pos i.exponent)) ps
  record_values =
      All-weaker (λ i. i.exponent ≡ r.0 i)
      (λ i. ValueIs (ring_of c).ops O (P i) (fam.pair i) (of_poly c p) (pos i.exponent))
      (λ i e. subst (λ n. ValueIs (ring_of c).ops O (P i) (fam.pair i) (of_poly c p) (pos n)) (sym e) (r.1 i)) ps
      exponents
