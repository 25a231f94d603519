-- The index of the product of a power of a prime with an invertible lattice, relative to the lattice, is the exponent
-- times the index of the prime; so the index of the ideal of a divisor relative to the integral functions is its
-- degree.
use Rattle.std.proofs.Common.{◌≡◌, ℕ, zero, suc, ◌+◌, ◌*◌, sym, subst, arith, suc-mul}
use Rattle.std.proofs.lemmas.Int.{ints}
use Rattle.std.proofs.Math.IntN.{ℤ, pos, negsuc, ◌+ℤ◌, ◌-ℤ◌, ◌*ℤ◌}
use Rattle.ring_theory.specs.Subsets.{IsModule, Product}
use Rattle.ring_lemmas.proofs.Ring.{one_mul}
use Rattle.ring_theory.proofs.Subsets.{product_member, product_module}
use Rattle.prime_theory.specs.Ideals.{Inverse, Invertible, SameSet, Power}
use Rattle.prime_theory.specs.IntegerValues.{up, down, PrimePower}
use Rattle.prime_theory.specs.Primes.{IsPrime}
use Rattle.prime_theory.proofs.Products.{product_into, product_monotone, product_swap, product_assoc, product_assoc_back, product_one, own_module, power_module, additive_of_module}
use Rattle.prime_theory.proofs.Invertible.{inverse_is_module, inverse_of_product, invertible_product, trace_ideal}
use Rattle.ff_fields.specs.Field.{CodeField}
use Rattle.function_field.specs.Functions.{Equation, FunctionOf, ring_of}
use Rattle.function_field.specs.Indices.{HasIndex}
use Rattle.lattice_theory.specs.Lattices.{IsLattice}
use Rattle.lattice_theory.proofs.Bases.{index_same}
use Rattle.lattice_theory.proofs.Indices.{index_none}
use Rattle.lattice_theory.proofs.Operations.{product_lattice, colon_lattice}
use Rattle.order_theory.specs.Orders.{IsOrder}
use Rattle.order_theory.proofs.IndexProducts.{lattice_same, times_index}
use Rattle.ideal_theory.specs.Indices.{HasRelativeIndex}
use Rattle.ideal_theory.proofs.RelativeIndex.{relative_add, relative_same, relative_of_index, relative_back}

-- an integer times a number, by its two parts
pub times_parts : (m : ℤ) (f : ℕ) → pos (up m * f) +ℤ (pos 0 -ℤ pos (down m * f)) ≡ m *ℤ pos f
times_parts (pos n) f = let q : 0 * f ≡ 0 = omega arith in omega (arith, ints)
times_parts (negsuc n) f = let q : 0 * f ≡ 0 = omega arith in omega (arith, ints)

module _ {k : CodeField} (c : Equation k) (O : FunctionOf c → Type 0) (𝓞 : IsOrder c O) where
  infixl 65 ◌⊕◌
  infixl 70 ◌⊗◌
  open ring_of c use {ops, 𝟘, 𝟙, ◌⊕◌, ◌⊗◌}

  -- a lattice that is closed under the order, and invertible
  pub record IsInvertibleLattice (X : FunctionOf c → Type 0) : Type 0 where
    pub lattice : IsLattice c X
    pub module_is : IsModule ops O X
    pub invertible : Invertible ops O X

  pub invertible_same : (X Y : FunctionOf c → Type 0) → SameSet X Y → IsInvertibleLattice X → IsInvertibleLattice Y
  invertible_same X Y s h = record {
    lattice = lattice_same c O 𝓞 X Y s h.lattice;
    module_is = 𝓨;
    invertible =
        product_monotone (ring_of c) O 𝓞.ring X (Inverse ops O X) Y (Inverse ops O Y) 𝓨 (λ z. (s z).0)
        (λ z m y n. m y ((s y).1 n)) 𝟙 h.invertible;
  }
    where
      𝓨 : IsModule (ring_of c).ops O Y
      𝓨 = record {
        zero_in = (s 𝟘).0 h.module_is.zero_in;
        sum_in = λ a b m n. (s _).0 (h.module_is.sum_in a b ((s a).1 m) ((s b).1 n));
        scale_in = λ r a r_in m. (s _).0 (h.module_is.scale_in r a r_in ((s a).1 m));
      }

  pub order_invertible : IsInvertibleLattice O
  order_invertible = record {
    lattice = 𝓞.lattice;
    module_is = own_module (ring_of c) O 𝓞.ring;
    invertible =
        subst (Product ops O (Inverse ops O O)) ((ring_of c).mul_one 𝟙)
        (product_member (ring_of c) O 𝓞.ring O (Inverse ops O O) 𝟙 𝟙 𝓞.ring.one_in
        (λ y m. 𝓞.ring.product_in _ _ 𝓞.ring.one_in m));
  }

  pub times_invertible : (X Y : FunctionOf c → Type 0) → IsInvertibleLattice X → IsInvertibleLattice Y
      → IsInvertibleLattice (Product (ring_of c).ops X Y)
  times_invertible X Y h i = record {
    lattice = product_lattice c X Y h.lattice i.lattice;
    module_is = product_module (ring_of c) O 𝓞.ring X Y h.module_is;
    invertible =
        product_monotone (ring_of c) O 𝓞.ring (Product ops X Y) (Product ops (Inverse ops O X) (Inverse ops O Y))
        (Product ops X Y) (Inverse ops O (Product ops X Y))
        (product_module (ring_of c) O 𝓞.ring X Y h.module_is) (λ z m. m)
        (λ z. (inverse_of_product (ring_of c) O 𝓞.ring X Y h.module_is i.module_is h.invertible i.invertible z).0) 𝟙
        (invertible_product (ring_of c) O 𝓞.ring X Y h.module_is i.module_is h.invertible i.invertible);
  }

  pub inverse_invertible : (X : FunctionOf c → Type 0) → IsInvertibleLattice X
      → IsInvertibleLattice (Inverse (ring_of c).ops O X)
  inverse_invertible X h = record {
    lattice = colon_lattice c O X 𝓞.lattice h.lattice;
    module_is = inverse_is_module (ring_of c) O 𝓞.ring X;
    invertible =
        product_monotone (ring_of c) O 𝓞.ring (Inverse ops O X) X (Inverse ops O X) (Inverse ops O (Inverse ops O X))
        (inverse_is_module (ring_of c) O 𝓞.ring X)
        (λ z m. m) (λ z m y n. subst O ((ring_of c).mul_comm y z) (n z m)) 𝟙
        (product_swap (ring_of c) O 𝓞.ring X (Inverse ops O X) (inverse_is_module (ring_of c) O 𝓞.ring X) 𝟙
        h.invertible);
  }

  -- powers of A times X, where one factor A changes the index by d
  module _ (A : FunctionOf c → Type 0) (𝓐 : IsInvertibleLattice A) (d : ℤ) (v : ℕ → ℤ) (start : v 0 ≡ pos 0)
      (next : (n : ℕ) → v (suc n) ≡ d +ℤ v n)
      (step : (X : FunctionOf c → Type 0) → IsInvertibleLattice X
      → HasRelativeIndex c (Product (ring_of c).ops A X) X d) where
    power_index : (n : ℕ) (X : FunctionOf c → Type 0) → IsInvertibleLattice X
        → IsInvertibleLattice (Product (ring_of c).ops (Power (ring_of c).ops O A n) X)
        × HasRelativeIndex c (Product (ring_of c).ops (Power (ring_of c).ops O A n) X) X (v n)
    power_index zero X h =
        let s : SameSet X (Product ops O X) = λ z. (
          (product_one (ring_of c) O 𝓞.ring X h.module_is z).1,
          (product_one (ring_of c) O 𝓞.ring X h.module_is z).0,
        ) in (
          invertible_same X (Product ops O X) s h,
          relative_same c X (Product ops O X) X X s (λ z. (λ m. m, λ m. m)) (v 0)
              (subst (HasRelativeIndex c X X) (sym start)
              (relative_of_index c X X h.lattice (λ z m. m) 0 (index_none c X X h.lattice (λ z m. m)))),
        )
    power_index (suc n) X h =
        let r = power_index n X h in
        let Y = Product ops (Power ops O A n) X in
        let s : SameSet (Product ops A Y) (Product ops (Power ops O A (suc n)) X)
        = λ z. (
          product_assoc_back (ring_of c) O 𝓞.ring A (Power ops O A n) X 𝓐.module_is z,
          product_assoc (ring_of c) O 𝓞.ring A (Power ops O A n) X 𝓐.module_is z,
        ) in
        let t = times_invertible A Y 𝓐 r.0 in (
          invertible_same (Product ops A Y) (Product ops (Power ops O A (suc n)) X) s t,
          relative_same c (Product ops A Y) (Product ops (Power ops O A (suc n)) X) X X s (λ z. (λ m. m, λ m. m))
              (v (suc n))
              (subst (HasRelativeIndex c (Product ops A Y) X) (sym (next n))
              (relative_add c (Product ops A Y) Y t.lattice r.0.lattice X h.lattice d (v n) (step Y r.0) r.1)),
        )

  module _ (P : FunctionOf c → Type 0) (𝓟 : IsPrime (ring_of c).ops O P) (inv : IsInvertibleLattice P) (f : ℕ)
      (index : HasIndex c P O f) where
    abbrev Q : FunctionOf c → Type 0
    Q = Inverse (ring_of c).ops O P

    step_up : (X : FunctionOf c → Type 0) → IsInvertibleLattice X
        → HasRelativeIndex c (Product (ring_of c).ops P X) X (pos f)
    step_up X h =
        relative_of_index c (Product ops P X) X h.lattice
        (product_into (ring_of c) P X X (additive_of_module (ring_of c) O X h.module_is)
        (λ a b m n. h.module_is.scale_in a b (𝓟.ideal.within a m) n)) f
        (index_same c (Product ops X P) (Product ops P X) X X
        (λ z. (
          product_swap (ring_of c) O 𝓞.ring X P inv.module_is z,
          product_swap (ring_of c) O 𝓞.ring P X h.module_is z,
        )) (λ z. (λ m. m, λ m. m)) f
        (times_index c O 𝓞 P 𝓟 f index X h.module_is h.invertible))

    step_down : (X : FunctionOf c → Type 0) → IsInvertibleLattice X
        → HasRelativeIndex c (Product (ring_of c).ops (Inverse (ring_of c).ops O P) X) X (pos 0 -ℤ pos f)
    step_down X h =
        relative_back c Y X i.lattice
        (λ z m. subst Y (one_mul (ring_of c) z) (product_member (ring_of c) O 𝓞.ring Q X 𝟙 z one m)) f
        (index_same c (Product ops Y P) X Y Y (λ z. (to z, from z)) (λ z. (λ m. m, λ m. m)) f
        (times_index c O 𝓞 P 𝓟 f index Y i.module_is i.invertible))
      where
        Y : FunctionOf c → Type 0
        Y = Product (ring_of c).ops (Inverse (ring_of c).ops O P) X

        i : IsInvertibleLattice (Product (ring_of c).ops (Inverse (ring_of c).ops O P) X)
        i = times_invertible Q X (inverse_invertible P inv) h

        one : Inverse (ring_of c).ops O P 𝟙
        one y m = subst O (sym (one_mul (ring_of c) y)) (𝓟.ideal.within y m)

        to : (z : FunctionOf c) → Product (ring_of c).ops Y P z → X z
        to z m =
            (product_one (ring_of c) O 𝓞.ring X h.module_is z).0
            (product_monotone (ring_of c) O 𝓞.ring (Product ops P Q) X O X (own_module (ring_of c) O 𝓞.ring)
            (trace_ideal (ring_of c) O 𝓞.ring P inv.module_is).within (λ a x. x) z
            (product_assoc_back (ring_of c) O 𝓞.ring P Q X inv.module_is z
            (product_swap (ring_of c) O 𝓞.ring Y P inv.module_is z m)))

        from : (z : FunctionOf c) → X z → Product (ring_of c).ops Y P z
        from z m =
            product_swap (ring_of c) O 𝓞.ring P Y i.module_is z
            (product_assoc (ring_of c) O 𝓞.ring P Q X inv.module_is z
            (subst (Product ops (Product ops P Q) X) (one_mul (ring_of c) z)
            (product_member (ring_of c) O 𝓞.ring (Product ops P Q) X 𝟙 z inv.invertible m)))

    -- an integer power of the prime
    pub prime_power_index : (m : ℤ) (X : FunctionOf c → Type 0) → IsInvertibleLattice X
        → IsInvertibleLattice (Product (ring_of c).ops (PrimePower (ring_of c).ops O P m) X)
        × HasRelativeIndex c (Product (ring_of c).ops (PrimePower (ring_of c).ops O P m) X) X (m *ℤ pos f)
    prime_power_index m X h =
        let below = power_index Q (inverse_invertible P inv) (pos 0 -ℤ pos f) (λ n. pos 0 -ℤ pos (n * f))
        (let q : 0 * f ≡ 0 = omega arith in omega (arith, ints))
        (λ n. let q : suc n * f ≡ n * f + f = suc-mul n f in omega (arith, ints)) step_down (down m) X h in
        let Z = Product ops (Power ops O Q (down m)) X in
        let above = power_index P inv (pos f) (λ n. pos (n * f))
        (let q : 0 * f ≡ 0 = omega arith in omega (arith, ints))
        (λ n. let q : suc n * f ≡ n * f + f = suc-mul n f in omega (arith, ints)) step_up (up m) Z below.0 in
        let 𝓤 = power_module (ring_of c) O 𝓞.ring P inv.module_is (up m) in
        let U = Product ops (Power ops O P (up m)) Z in
        let s : SameSet U (Product ops (PrimePower ops O P m) X)
        = λ z. (
          product_assoc_back (ring_of c) O 𝓞.ring (Power ops O P (up m)) (Power ops O Q (down m)) X 𝓤 z,
          product_assoc (ring_of c) O 𝓞.ring (Power ops O P (up m)) (Power ops O Q (down m)) X 𝓤 z,
        ) in (
          invertible_same U (Product ops (PrimePower ops O P m) X) s above.0,
          relative_same c U (Product ops (PrimePower ops O P m) X) X X s (λ z. (λ m. m, λ m. m)) (m *ℤ pos f)
              (subst (HasRelativeIndex c U X) (times_parts m f)
              (relative_add c U Z above.0.lattice below.0.lattice X h.lattice (pos (up m * f))
              (pos 0 -ℤ pos (down m * f)) above.1 below.1)),
        )

    -- a power of the prime itself
    pub power_of_prime : (m : ℕ) → IsInvertibleLattice (Power (ring_of c).ops O P m)
        × HasRelativeIndex c (Power (ring_of c).ops O P m) O (pos (m * f))
    power_of_prime m =
        let r = power_index P inv (pos f) (λ n. pos (n * f)) (let q : 0 * f ≡ 0 = omega arith in omega (arith, ints))
        (λ n. let q : suc n * f ≡ n * f + f = suc-mul n f in omega (arith, ints)) step_up m O order_invertible in
        let 𝓤 = power_module (ring_of c) O 𝓞.ring P inv.module_is m in
        let s : SameSet (Product ops (Power ops O P m) O) (Power ops O P m)
        = λ z. (
          λ x. (product_one (ring_of c) O 𝓞.ring (Power ops O P m) 𝓤 z).0
              (product_swap (ring_of c) O 𝓞.ring (Power ops O P m) O (own_module (ring_of c) O 𝓞.ring) z x),
          λ x. product_swap (ring_of c) O 𝓞.ring O (Power ops O P m) 𝓤 z
              ((product_one (ring_of c) O 𝓞.ring (Power ops O P m) 𝓤 z).1 x),
        ) in (
          invertible_same (Product ops (Power ops O P m) O) (Power ops O P m) s r.0,
          relative_same c (Product ops (Power ops O P m) O) (Power ops O P m) O O s (λ z. (λ x. x, λ x. x))
              (pos (m * f)) r.1,
        )
