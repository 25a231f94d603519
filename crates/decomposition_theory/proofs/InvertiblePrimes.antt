-- A maximal ideal over a polynomial at which the order is maximal: its inverse, and the greatest power that has the
-- polynomial.
use Rattle.std.proofs.Common.{◌≡◌, ◌↔◌, inl, inr, ℕ, zero, suc, ◌+◌, ◌*◌, ◌-◌, ◌≤◌, List, length, pos, sym, ◌∙◌, subst, arith}
use Rattle.std.proofs.lemmas.Bool.{cases_lt}
use Rattle.std.proofs.lemmas.Int.{ints}
use Rattle.std.proofs.Math.IntN.{◌-ℤ◌}
use Rattle.ring_lemmas.specs.Ring.{CommRing}
use Rattle.ring_theory.specs.Subsets.{IsSubring, IsModule, Product}
use Rattle.ring_theory.proofs.Subsets.{product_member, product_module}
use Rattle.prime_theory.specs.Ideals.{SameSet, IsIdeal, Inverse, Multiple, Power}
use Rattle.prime_theory.specs.Places.{IsMaximalIdeal}
use Rattle.prime_theory.specs.Primes.{IsPrime}
use Rattle.prime_theory.proofs.Primes.{ideal_module}
use Rattle.prime_theory.proofs.PrimeProducts.{power_within}
use Rattle.prime_theory.proofs.Products.{product_into, product_monotone, own_module, power_module, additive_of_module}
use Rattle.ff_fields.specs.Field.{CodeField}
use Rattle.ff_poly.specs.Words.{IsIrreducibleList}
use Rattle.ff_poly.specs.Value.{value}
use Rattle.ff_poly.specs.Polynomials.{Polynomial, codes_of}
use Rattle.function_field.specs.Functions.{Equation, FunctionOf, ring_of, of_poly, degree_of_y}
use Rattle.function_field.specs.Indices.{HasIndex}
use Rattle.function_field.specs.Values.{PresValue, Functions, functions, equation_of}
use Rattle.lattice_theory.specs.Lattices.{IsLattice}
use Rattle.lattice_theory.proofs.Indices.{index_add, index_none, index_of, index_once, index_zero}
use Rattle.lattice_theory.proofs.Lattices.{lattice_decided}
use Rattle.order_theory.specs.Orders.{IsOrder}
use Rattle.order_theory.proofs.InvertibleIdeals.{one_of_two}
use Rattle.order_theory.proofs.ReductionAt.{pO, p_within, multiple_is_lattice, index_of_p}
use Rattle.ideal_theory.proofs.GreatestPowers.{prime_lattice_invertible, greatest}
use Rattle.ideal_theory.proofs.IdealIndices.{IsInvertibleLattice, power_of_prime}
use Rattle.ideal_theory.proofs.RelativeIndex.{relative_at}
use Rattle.ff_lattice.specs.Lattices.{LatticeValue, Contains}
use Rattle.ff_lattice.specs.Quotients.{IsIdealLattice}
use Rattle.ff_lattice.proofs.PivotIndices.{lattice_over, index_is}
use Rattle.ff_lattice.proofs.Scaled.{value_length}
use Rattle.value_theory.proofs.Bridge.{lattice_set, order_set, irreducible_poly, irreducible_value}
use Rattle.decomposition_theory.specs.Decompositions.{IsMaximalOrderAt}
use Rattle.decomposition_theory.specs.Laws.{IsInvertiblePrime}

module _ {A : Type 0} (R : CommRing A) (O : A → Type 0) (𝓞 : IsSubring R.ops O) (P : A → Type 0)
    (𝓟 : IsIdeal R.ops O P) where
  open R use {𝟙, ◌⊗◌}

  𝓜 : IsModule R.ops O P
  𝓜 = ideal_module R O 𝓞 P 𝓟

  -- each power of an ideal is within those before it
  power_descends : (n : ℕ) (z : A) → Power R.ops O P (suc n) z → Power R.ops O P n z
  power_descends n =
      let 𝓝 = power_module R O 𝓞 P 𝓜 n in
      product_into R P (Power R.ops O P n) (Power R.ops O P n) (additive_of_module R O (Power R.ops O P n) 𝓝)
      (λ a b m l. 𝓝.scale_in a b (𝓟.within a m) l)

  powers_below : (d n : ℕ) (z : A) → Power R.ops O P (d + n) z → Power R.ops O P n z
  powers_below zero n z h = subst (λ i. Power R.ops O P i z) (let e : 0 + n ≡ n = omega arith in e) h
  powers_below (suc d) n z h =
      powers_below d n z
      (power_descends (d + n) z (subst (λ i. Power R.ops O P i z) (let e : suc d + n ≡ suc (d + n) = omega arith in e)
      h))

  -- the powers that have z are those up to the last one
  pub powers_up_to : (z : A) (e : ℕ) → Power R.ops O P e z → ¬ Power R.ops O P (suc e) z → (j : ℕ)
      → Power R.ops O P j z ↔ (j ≤ e)
  powers_up_to z e has not_more j = (
    λ h. elim (cases_lt e j) [
      | inl more ↦ absurd (not_more (powers_below (j - suc e) (suc e) z
          (subst (λ i. Power R.ops O P i z) (let n : j ≡ j - suc e + suc e = omega arith in n) h)))
      | inr less ↦ less
    ],
    λ less.
        powers_below (e - j) j z
        (subst (λ i. Power R.ops O P i z) (let n : e ≡ e - j + j = omega arith in n) has),
  )

  -- a member is in the first power
  pub first_power : (z : A) → P z → Power R.ops O P 1 z
  first_power z m = subst (Power R.ops O P 1) (R.mul_one z) (product_member R O 𝓞 P O z 𝟙 m 𝓞.one_in)

  -- the product of P and a set with the members of an inverse of it is the ring
  pub product_with_inverse : Product R.ops P (Inverse R.ops O P) 𝟙 → (K : A → Type 0)
      → SameSet K (Inverse R.ops O P) → SameSet (Product R.ops P K) O
  product_with_inverse one K same z = (
    product_into R P K O (additive_of_module R O O (own_module R O 𝓞))
        (λ a b m n. subst O (R.mul_comm b a) ((same b).0 n a m)) z,
    λ z_in.
        subst (Product R.ops P K) (R.mul_one z)
        ((product_module R O 𝓞 P K 𝓜).scale_in z 𝟙 z_in
        (product_monotone R O 𝓞 P (Inverse R.ops O P) P K 𝓜 (λ a m. m) (λ a m. (same a).1 m) 𝟙 one)),
  )

-- a prime over p of an order that is maximal at p, with its index
module _ {k : CodeField} (c : Equation k) (p : Polynomial k) (h : IsIrreducibleList k.ops (codes_of k p))
    (O : FunctionOf c → Type 0) (𝓞 : IsOrder c O) (P : FunctionOf c → Type 0) (𝓟 : IsPrime (ring_of c).ops O P)
    (inv : IsInvertibleLattice c O 𝓞 P) (f : ℕ) (index : HasIndex c P O f) where
  open ring_of c use {ops, 𝟙}

  pub index_positive : 1 ≤ f
  index_positive = go f index
    where
      go : (f : ℕ) → HasIndex c P O f → 1 ≤ f
      go zero i = absurd (𝓟.proper (index_zero c P O inv.lattice i 𝟙 𝓞.ring.one_in))
      go (suc f) i = omega arith

  -- a power that has p has an index of at most that of p
  pub power_bounded : (e : ℕ) → Power (ring_of c).ops O P e (of_poly c p) → e * f ≤ degree_of_y c * (length p.0 - 1)
  power_bounded e has =
      let Pe = Power ops O P e in
      let r = power_of_prime c O 𝓞 P 𝓟 inv f index e in
      let inner : (z : FunctionOf c) → Pe z → O z = power_within (ring_of c) O 𝓞.ring P 𝓟.ideal e in
      let outer : (z : FunctionOf c) → Multiple ops (of_poly c p) O z → Pe z
      = λ z m. subst Pe ((ring_of c).mul_comm _ _ ∙ sym m.is)
      ((power_module (ring_of c) O 𝓞.ring P inv.module_is e).scale_in m.quotient (of_poly c p) m.quotient_in has) in
      let D = Multiple ops (of_poly c p) O in
      let 𝓓 = multiple_is_lattice c p h O 𝓞 in
      let t = index_of c D Pe 𝓓 r.0.lattice outer in
      let u = index_of c Pe O r.0.lattice 𝓞.lattice inner in
      let a : pos (e * f) ≡ pos u.0 -ℤ pos 0
      = relative_at c Pe O r.0.lattice 𝓞.lattice (pos (e * f)) r.1 O 𝓞.lattice inner (λ z x. x) u.0 0
      u.1 (index_none c O O 𝓞.lattice (λ z x. x)) in
      let b = index_once c D O 𝓓 _ _ (index_add c D Pe O 𝓓 r.0.lattice 𝓞.lattice outer inner t.0 u.0 t.1 u.1)
      (index_of_p c p h O 𝓞) in
      omega (arith, ints, a, b)

module _ (k : CodeField) (p : PresValue) (o m : LatticeValue) (pi : List ℕ) (at : IsMaximalOrderAt k p o pi)
    (ideal : IsIdealLattice k p o m)
    (maximal : IsMaximalIdeal (functions k p).ops (Contains k p o) (Contains k p m))
    (over : Contains k p m (of_poly (equation_of k p) (value k pi))) where
  abbrev c : Equation k
  c = equation_of k p

  abbrev O : Functions k p → Type 0
  O = Contains k p o

  abbrev M : Functions k p → Type 0
  M = Contains k p m

  prime_p : IsIrreducibleList k.ops (codes_of k (value k pi))
  prime_p = irreducible_value k pi at.pi_in at.irreducible

  𝓞 : IsOrder (equation_of k p) (Contains k p o)
  𝓞 = order_set k p at.positive o at.order

  M_lattice : IsLattice (equation_of k p) (Contains k p m)
  M_lattice = lattice_set k p at.positive m ideal.lattice

  𝓟 : IsPrime (functions k p).ops (Contains k p o) (Contains k p m)
  𝓟 = record {
    ideal = maximal.ideal;
    proper = maximal.proper;
    invert = maximal.invert;
    decide = λ u u_in. one_of_two (lattice_decided c M M_lattice u);
  }

  inv : IsInvertibleLattice (equation_of k p) (Contains k p o) 𝓞 (Contains k p m)
  inv = prime_lattice_invertible c (value k pi) prime_p O 𝓞 at.maximal M 𝓟 over

  index : (f : ℕ) × HasIndex (equation_of k p) (Contains k p m) (Contains k p o) f
  index = index_of c M O M_lattice 𝓞.lattice ideal.within

  -- the greatest power that has the polynomial
  last : (e : ℕ) × Power (functions k p).ops (Contains k p o) (Contains k p m) e (of_poly (equation_of k p) (value k pi))
      × (¬ Power (functions k p).ops (Contains k p o) (Contains k p m) (suc e)
      (of_poly (equation_of k p) (value k pi)))
  last =
      let F = functions k p in
      let x = of_poly c (value k pi) in
      let 𝓜 = power_module F O 𝓞.ring M inv.module_is in
      let g = greatest c (value k pi) prime_p O 𝓞 at.maximal M 𝓟 over (pO c (value k pi) prime_p O 𝓞)
      (multiple_is_lattice c (value k pi) prime_p O 𝓞) (p_within c (value k pi) prime_p O 𝓞) in (
        g.0,
        g.1 x (record { quotient = F.𝟙; quotient_in = 𝓞.ring.one_in; is = sym (F.mul_one x) }),
        λ more. g.2 (λ z z_in.
            subst (Power F.ops O M (suc g.0)) (F.mul_comm z_in.quotient x ∙ sym z_in.is)
            ((𝓜 (suc g.0)).scale_in z_in.quotient x z_in.quotient_in more)),
      )

  pub invertible_prime : IsInvertiblePrime k p o pi m
  invertible_prime =
      let F = functions k p in
      let x = of_poly c (value k pi) in
      let powers = powers_up_to F O 𝓞.ring M maximal.ideal x last.0 last.1 last.2 in
      record {
        product = λ l members. product_with_inverse F O 𝓞.ring M maximal.ideal inv.invertible (Contains k p l) members;
        exponent = last.0;
        powers = powers;
        exponent_positive = (powers 1).0 (first_power F O 𝓞.ring M maximal.ideal x over);
        degree = index.0;
        degree_is =
            (index_is k p at.positive m o (lattice_over k p m ideal.lattice) (lattice_over k p o at.order.lattice)
            ideal.within index.0).0 index.1;
        degree_positive = index_positive c (value k pi) prime_p O 𝓞 M 𝓟 inv index.0 index.1;
        bounded =
            let b = power_bounded c (value k pi) prime_p O 𝓞 M 𝓟 inv index.0 index.1 last.0 last.1 in
            let size = value_length k pi at.pi_in (irreducible_poly k pi at.pi_in at.irreducible) in
            let positive = at.positive in
            let n : suc (p.n - 1) ≡ p.n = omega arith in
            subst (λ d. last.0 * index.0 ≤ p.n * (d - 1)) size
            (subst (λ n. last.0 * index.0 ≤ n * (length (value k pi).0 - 1)) n b);
      }
