-- The ideals of a record of primes are a prime system at p with the product p·O, so the order is maximal at p.
use Rattle.std.proofs.Common.{◌≡◌, ◌⊎◌, inl, inr, ℕ, suc, ◌+◌, ◌*◌, ◌-◌, List, [], ◌∷◌, map, length, get_or, pos, refl, sym, ap, ap₂, subst, arith}
use Rattle.ring_theory.specs.Subsets.{IsModule}
use Rattle.ring_theory.proofs.Subsets.{product_member, product_module}
use Rattle.prime_theory.specs.Ideals.{Inverse, Invertible, SameSet, Multiple, Power}
use Rattle.prime_theory.specs.IntegerValues.{entry}
use Rattle.prime_theory.specs.Orders.{MaximalAt}
use Rattle.prime_theory.specs.Primes.{IsPrime, Different}
use Rattle.prime_theory.specs.Systems.{IdealProduct, IdealPower, IsFamily, IsSystem, AreDistinctPrimes}
use Rattle.prime_theory.proofs.Compare.{family_of_generators}
use Rattle.prime_theory.proofs.Invertible.{inverse_unique}
use Rattle.prime_theory.proofs.Primes.{ideal_module, pair_of_invertible}
use Rattle.prime_theory.proofs.Products.{product_monotone, product_swap, product_one, own_module, power_module}
use Rattle.prime_theory.proofs.Scalars.{integral_wider}
use Rattle.prime_theory.proofs.SystemFromProduct.{positive_entries, system_of_product}
use Rattle.prime_theory.proofs.Systems.{system_closed}
use Rattle.ff_fields.specs.Field.{CodeField}
use Rattle.ff_poly.specs.Words.{IsIrreducibleList}
use Rattle.ff_poly.specs.Polynomials.{Polynomial, codes_of}
use Rattle.function_field.specs.declared.side.Side.TheVariants.{Finite}
use Rattle.function_field.specs.Places.{IsIntegralAt}
use Rattle.function_field.specs.Functions.{Equation, FunctionOf, ring_of, of_poly, IsPolynomial, degree_of_y, setting_of}
use Rattle.function_field.specs.Indices.{HasIndex}
use Rattle.lattice_theory.proofs.Indices.{index_add, index_of, index_once, index_zero}
use Rattle.lattice_theory.proofs.Lattices.{lattice_decided, lattice_module}
use Rattle.order_theory.specs.Orders.{IsOrder}
use Rattle.order_theory.proofs.IndexProducts.{total, IsFactor, product_index}
use Rattle.order_theory.proofs.PrimesOver.{order_generators}
use Rattle.order_theory.proofs.ReductionAt.{pO, p_in, p_within, multiple_is_lattice, index_of_p}
use Rattle.ideal_theory.specs.Records.{RowSpan, RecordedPrime, ProductOfPowers, sum_of_record, IsRecordAt}
use Rattle.order_theory.proofs.InvertibleIdeals.{one_of_two}

module _ {k : CodeField} (c : Equation k) (O : FunctionOf c → Type 0) (𝓞 : IsOrder c O) where
  open ring_of c use {ops, 𝟙, ◌⊗◌}

  -- the second rows span the inverse
  pub recorded_inverse : (i : RecordedPrime c O)
      → SameSet (RowSpan c i.inverse_rows) (Inverse (ring_of c).ops O (RowSpan c i.rows))
  recorded_inverse i =
      let K = RowSpan c i.inverse_rows in
      inverse_unique (ring_of c) O 𝓞.ring (RowSpan c i.rows) K i.closed ((i.product 𝟙).1 𝓞.ring.one_in)
      (λ a b m n. (i.product (a ⊗ b)).0 (product_member (ring_of c) O 𝓞.ring (RowSpan c i.rows) K a b m n))

module _ {k : CodeField} (c : Equation k) (p : Polynomial k) (h : IsIrreducibleList k.ops (codes_of k p))
    (O : FunctionOf c → Type 0) (𝓞 : IsOrder c O) where
  infixl 70 ◌⊗◌
  open ring_of c use {ops, 𝟙, ◌⊗◌}

  -- the ideals of a record
  abbrev pub IdealOf : RecordedPrime c O → FunctionOf c → Type 0
  IdealOf i = RowSpan c i.rows

  pub recorded_prime : (i : RecordedPrime c O) → IsPrime (ring_of c).ops O (IdealOf i)
  recorded_prime i = record {
    ideal = i.field.ideal;
    proper = i.field.proper;
    invert = i.field.invert;
    decide = λ u u_in. one_of_two (lattice_decided c (IdealOf i) i.lattice u);
  }

  module_of : (i : RecordedPrime c O) → IsModule (ring_of c).ops O (IdealOf i)
  module_of i = ideal_module (ring_of c) O 𝓞.ring (IdealOf i) i.field.ideal

  pub recorded_invertible : (i : RecordedPrime c O) → Invertible (ring_of c).ops O (IdealOf i)
  recorded_invertible i =
      let K = RowSpan c i.inverse_rows in
      product_monotone (ring_of c) O 𝓞.ring (IdealOf i) K (IdealOf i) (Inverse ops O (IdealOf i)) (module_of i)
      (λ z m. m)
      (λ b n y m. subst O ((ring_of c).mul_comm y b)
      ((i.product (y ⊗ b)).0 (product_member (ring_of c) O 𝓞.ring (IdealOf i) K y b m n))) 𝟙
      ((i.product 𝟙).1 𝓞.ring.one_in)

  pub recorded_family : IsFamily (ring_of c).ops O (RecordedPrime c O) IdealOf
  recorded_family =
      family_of_generators (ring_of c) O 𝓞.ring (RecordedPrime c O) IdealOf recorded_prime
      (λ i. pair_of_invertible (ring_of c) O 𝓞.ring (IdealOf i) (recorded_prime i) (recorded_invertible i))
      (λ i. order_generators c p h O 𝓞 (IdealOf i) i.lattice)

  pub recorded_factor : (i : RecordedPrime c O) → IsFactor c O 𝓞 (IdealOf i)
  recorded_factor i =
      record {
        lattice = i.lattice;
        module_is = module_of i;
        invertible = recorded_invertible i;
        within = i.field.ideal.within;
      }

  -- products of powers, as products of a family
  abbrev pub Powers : (RecordedPrime c O → ℕ) → List (RecordedPrime c O) → FunctionOf c → Type 0
  Powers e ps = IdealProduct (ring_of c).ops O IdealOf (map (λ i. entry i (pos (e i))) ps)

  pub powers_index : (e : RecordedPrime c O → ℕ) (ps : List (RecordedPrime c O)) → IsFactor c O 𝓞 (Powers e ps)
      × HasIndex c (Powers e ps) O (total e (λ i. i.degree) ps)
  powers_index =
      product_index c O 𝓞 (RecordedPrime c O) IdealOf recorded_prime recorded_factor (λ i. i.degree) (λ i. i.index)

  -- the power of an ideal, without the factor for exponents below 0
  plain : (i : RecordedPrime c O) (n : ℕ)
      → SameSet (IdealPower (ring_of c).ops O (IdealOf i) n 0) (Power (ring_of c).ops O (IdealOf i) n)
  plain i n z =
      let 𝓜 = power_module (ring_of c) O 𝓞.ring (IdealOf i) (module_of i) n in
      let one = product_one (ring_of c) O 𝓞.ring (Power ops O (IdealOf i) n) 𝓜 z in (
        λ m. one.0 (product_swap (ring_of c) O 𝓞.ring (Power ops O (IdealOf i) n) O (own_module (ring_of c) O 𝓞.ring)
            z m),
        λ m. product_swap (ring_of c) O 𝓞.ring O (Power ops O (IdealOf i) n) 𝓜 z (one.1 m),
      )

  pub powers_plain : (ps : List (RecordedPrime c O)) → SameSet (Powers (λ i. i.exponent) ps) (ProductOfPowers c O ps)
  powers_plain [] z = (λ m. m, λ m. m)
  powers_plain (i ∷ ps) z =
      let e = i.exponent in
      let rest = powers_plain ps in
      let 𝓜 = power_module (ring_of c) O 𝓞.ring (IdealOf i) (module_of i) e in
      let 𝓝 : IsModule ops O (IdealPower ops O (IdealOf i) e 0)
      = product_module (ring_of c) O 𝓞.ring (Power ops O (IdealOf i) e) O 𝓜 in (
        product_monotone (ring_of c) O 𝓞.ring (IdealPower ops O (IdealOf i) e 0) (Powers (λ i. i.exponent) ps)
            (Power ops O (IdealOf i) e) (ProductOfPowers c O ps) 𝓜
            (λ a. (plain i e a).0) (λ a. (rest a).0) z,
        product_monotone (ring_of c) O 𝓞.ring (Power ops O (IdealOf i) e) (ProductOfPowers c O ps)
            (IdealPower ops O (IdealOf i) e 0) (Powers (λ i. i.exponent) ps) 𝓝
            (λ a. (plain i e a).1) (λ a. (rest a).1) z,
      )

  -- the exponents less 1
  abbrev less : RecordedPrime c O → ℕ
  less i = i.exponent - 1

  powers_positive : (ps : List (RecordedPrime c O))
      → positive_entries (ring_of c) O 𝓞.ring (of_poly c p) (p_in c p h O 𝓞) (RecordedPrime c O) IdealOf
      recorded_family less ps
      ≡ map (λ i. entry i (pos i.exponent)) ps
  powers_positive [] = refl
  powers_positive (i ∷ ps) =
      let e : suc (i.exponent - 1) ≡ i.exponent = let l = i.positive in omega arith in
      ap₂ (λ n l. record { index = i; up = n; down = 0 } ∷ l) e (powers_positive ps)

  sum_is : (ps : List (RecordedPrime c O)) → sum_of_record c O ps ≡ total (λ i. i.exponent) (λ i. i.degree) ps
  sum_is [] = refl
  sum_is (i ∷ ps) = ap (λ n. i.exponent * i.degree + n) (sum_is ps)

  module _ (ps : List (RecordedPrime c O)) (valid : IsRecordAt c O p ps) where
    abbrev X : FunctionOf c → Type 0
    X = Powers (λ i. i.exponent) ps

    in_pO : (z : FunctionOf c) → X z → pO c p h O 𝓞 z
    in_pO z m = valid.within z ((powers_plain ps z).0 m)

    -- the product is p·O, since both have one index
    all_of_pO : (z : FunctionOf c) → pO c p h O 𝓞 z → X z
    all_of_pO =
        let r = powers_index (λ i. i.exponent) ps in
        let 𝓠 = multiple_is_lattice c p h O 𝓞 in
        let t = index_of c X (pO c p h O 𝓞) r.0.lattice 𝓠 in_pO in
        let a = index_once c X O r.0.lattice _ _
        (index_add c X (pO c p h O 𝓞) O r.0.lattice 𝓠 𝓞.lattice in_pO (p_within c p h O 𝓞) t.0
        (degree_of_y c * (length p.0 - 1)) t.1 (index_of_p c p h O 𝓞)) r.1 in
        let b : sum_of_record c O ps ≡ degree_of_y c * (length p.0 - 1) = valid.sum in
        let d : sum_of_record c O ps ≡ total (λ i. i.exponent) (λ i. i.degree) ps = sum_is ps in
        let zero : t.0 ≡ 0 = omega (arith, a, b, d) in
        index_zero c X (pO c p h O 𝓞) r.0.lattice (subst (HasIndex c X (pO c p h O 𝓞)) zero t.1)

    pub record_product : SameSet (ProductOfPowers c O ps) (Multiple (ring_of c).ops (of_poly c p) O)
    record_product z = (valid.within z, λ m. (powers_plain ps z).0 (all_of_pO z m))

    pub record_powers : SameSet (Multiple (ring_of c).ops (of_poly c p) O) (Powers (λ i. i.exponent) ps)
    record_powers z = (all_of_pO z, in_pO z)

    pub record_system : IsSystem (ring_of c).ops O (of_poly c p) (RecordedPrime c O) IdealOf ps
    record_system =
        system_of_product (ring_of c) O 𝓞.ring (of_poly c p) (p_in c p h O 𝓞) (RecordedPrime c O) IdealOf
        recorded_family less ps
        (λ z m. in_pO z (subst (λ l. IdealProduct ops O IdealOf l z) (powers_positive ps) m))
        (subst (λ l. IdealProduct ops O IdealOf l (of_poly c p)) (sym (powers_positive ps))
        (all_of_pO (of_poly c p) (record
        { quotient = 𝟙; quotient_in = 𝓞.ring.one_in; is = sym ((ring_of c).mul_one (of_poly c p)) })))

    pub record_distinct : AreDistinctPrimes IdealOf ps
    record_distinct i j d l m = by (recorded_family.compare (get_or ps i d) (get_or ps j d)) (valid.different i j d l m)
      where
        by : {P Q : FunctionOf c → Type 0} → SameSet P Q ⊎ Different P Q → ¬ SameSet P Q → Different P Q
        by (inl s) n = absurd (n s)
        by (inr d) n = d

    pub record_maximal : MaximalAt (ring_of c).ops (of_poly c p) (IsIntegralAt (setting_of c) Finite) O
    record_maximal z n z_int m =
        system_closed (ring_of c) O 𝓞.ring (of_poly c p) (p_in c p h O 𝓞) (RecordedPrime c O) IdealOf recorded_family
        ps record_system z n
        (integral_wider (ring_of c) (IsPolynomial c) O
        (λ s m. subst O ((ring_of c).mul_one s) ((lattice_module c O 𝓞.lattice).scale_in s 𝟙 m 𝓞.ring.one_in)) z
        z_int) m
