-- The index of a product with an invertible prime is the sum of the indices; so the index of a product of powers of
-- primes is the sum of the exponents times the indices of the primes.
use Rattle.std.proofs.Common.{◌≡◌, ℕ, zero, suc, ◌+◌, ◌*◌, ◌<◌, List, [], ◌∷◌, map, pos, refl, sym, ◌∙◌, ap, ap₂, subst, arith, suc-mul}
use Rattle.std.proofs.lemmas.List.{length-map}
use Rattle.std.proofs.lemmas.List.Elements.{All-map, All-weaker}
use Rattle.ring_theory.specs.Subsets.{IsSubring, IsModule, Product}
use Rattle.ring_lemmas.proofs.Ring.{mul_zero, mul_left_comm}
use Rattle.ring_lemmas.proofs.Solver.{ring, reads}
use Rattle.ring_theory.proofs.Subsets.{product_member, product_module}
use Rattle.prime_theory.specs.Ideals.{Inverse, Invertible, SameSet, Power}
use Rattle.prime_theory.specs.Primes.{IsPrime}
use Rattle.prime_theory.specs.Systems.{IdealPower, IdealProduct}
use Rattle.prime_theory.specs.IntegerValues.{entry}
use Rattle.prime_theory.proofs.Products.{product_into, product_monotone, product_swap, product_assoc, product_assoc_back, product_one, own_module, power_module, additive_of_module}
use Rattle.prime_theory.proofs.Invertible.{inverse_of_product, invertible_product}
use Rattle.prime_theory.proofs.Residues.{Generator, generator, generated, generator_free}
use Rattle.linear_theory.specs.Module.{combine}
use Rattle.linear_theory.specs.Basis.{IsSubspace}
use Rattle.linear_theory.proofs.Bases.{combine_in}
use Rattle.ff_fields.specs.Field.{CodeField}
use Rattle.ff_fields.specs.Code.{Code}
use Rattle.function_field.specs.Functions.{Equation, FunctionOf, ring_of}
use Rattle.function_field.specs.Indices.{HasIndex, space_ops}
use Rattle.lattice_theory.specs.Lattices.{IsLattice}
use Rattle.order_theory.specs.Orders.{IsOrder}
use Rattle.lattice_theory.proofs.Indices.{codes, space, lattice_subspace, index_add, index_none}
use Rattle.lattice_theory.proofs.Bases.{index_same}
use Rattle.lattice_theory.proofs.Operations.{product_lattice}

-- the sum of e_i·f_i over a list
abbrev pub total : {I : Type 0} → (I → ℕ) → (I → ℕ) → List I → ℕ
total e f [] = 0
total e f (i ∷ is) = e i * f i + total e f is

module _ {k : CodeField} (c : Equation k) where
  infixl 65 ◌⊕◌
  infixl 70 ◌⊗◌
  open ring_of c use {𝟘, 𝟙, ◌⊕◌, ◌⊗◌}

  -- a factor of all members of a list is one of their combinations
  pub combine_times : (a : FunctionOf c) (e : ℕ → Code k) (vs : List (FunctionOf c))
      → combine (space_ops c) e (map (◌⊗◌ a) vs) ≡ a ⊗ combine (space_ops c) e vs
  combine_times a e [] = sym (mul_zero (ring_of c) a)
  combine_times a e (v ∷ vs) = ap₂ ◌⊕◌ (mul_left_comm (ring_of c) _ a v) (combine_times a (λ i. e (suc i)) vs)
      ∙ sym ((ring_of c).mul_add a _ _)

  module _ (O : FunctionOf c → Type 0) (𝓞 : IsSubring (ring_of c).ops O) (space_in : IsSubspace (space_ops c) O)
      (P : FunctionOf c → Type 0) (𝓟 : IsPrime (ring_of c).ops O P) (f : ℕ) (index : HasIndex c P O f) where
    -- the index of X·P in X is that of P in a ring over the field
    pub times_index_over : (X : FunctionOf c → Type 0) → IsModule (ring_of c).ops O X → Invertible (ring_of c).ops O X
        → HasIndex c (Product (ring_of c).ops X P) X f
    times_index_over X 𝓧 inverse = record {
      basis = map (◌⊗◌ a.element) index.basis;
      is = record {
        members_in =
            All-map X (◌⊗◌ a.element) index.basis
            (All-weaker O (λ w. X (a.element ⊗ w))
            (λ w m. subst X ((ring_of c).mul_comm w a.element) (𝓧.scale_in w a.element m a.element_in)) index.basis
            index.is.members_in);
        spanning = λ z z_in.
            let r = generated (ring_of c) O 𝓞 P 𝓟 X 𝓧 a z z_in in
            let t = index.is.spanning r.scalar r.scalar_in in
            let XP = Product (ring_of c).ops X P in
            record {
              coefficient = t.coefficient;
              rest = a.element ⊗ t.rest ⊕ r.rest;
              rest_in =
                  (product_module (ring_of c) O 𝓞 X P 𝓧).sum_in _ _
                  (product_member (ring_of c) O 𝓞 X P a.element t.rest a.element_in t.rest_in) r.rest_in;
              is =
                  r.is ∙ ap (λ x. a.element ⊗ x ⊕ r.rest) t.is
                  ∙ moved a.element (combine (space_ops c) t.coefficient index.basis) t.rest r.rest
                  ∙ ap (λ x. x ⊕ (a.element ⊗ t.rest ⊕ r.rest))
                  (sym (combine_times a.element t.coefficient index.basis));
            };
        independent = λ e m i l.
            index.is.independent e
            (generator_free (ring_of c) O 𝓞 P 𝓟 X 𝓧 a (combine (space_ops c) e index.basis)
            (combine_in (codes k) (space c) O (space_in) e index.basis index.is.members_in)
            (subst (Product (ring_of c).ops X P) (combine_times a.element e index.basis) m)) i
            (subst (λ n. i < n) (length-map index.basis (◌⊗◌ a.element)) l);
      };
      count = length-map index.basis (◌⊗◌ a.element) ∙ index.count;
    }
      where
        a : Generator (ring_of c) O P X
        a = generator (ring_of c) O 𝓞 P 𝓟 X 𝓧 inverse

        moved : (a v r s : FunctionOf c) → a ⊗ (v ⊕ r) ⊕ s ≡ a ⊗ v ⊕ (a ⊗ r ⊕ s)
        moved a v r s =
            ring (ring_of c) (a ∷ v ∷ r ∷ s ∷ []) λ q h. simp (reads, q, h 0, h 1, h 2, h 3) (q.equal _ _ refl)

module _ {k : CodeField} (c : Equation k) (O : FunctionOf c → Type 0) (𝓞 : IsOrder c O) where
  infixl 65 ◌⊕◌
  infixl 70 ◌⊗◌
  infixr 80 ⊖◌
  open ring_of c use {𝟘, 𝟙, ◌⊕◌, ◌⊗◌, ⊖◌}

  -- a lattice in the order, closed under it and invertible
  pub record IsFactor (X : FunctionOf c → Type 0) : Type 0 where
    pub lattice : IsLattice c X
    pub module_is : IsModule (ring_of c).ops O X
    pub invertible : Invertible (ring_of c).ops O X
    pub within : (z : FunctionOf c) → X z → O z

  pub lattice_same : (X Y : FunctionOf c → Type 0) → SameSet X Y → IsLattice c X → IsLattice c Y
  lattice_same X Y s 𝓧 = record {
    generators = 𝓧.generators;
    spanned = λ z. (λ h. (𝓧.spanned z).0 ((s z).1 h), λ h. (s z).0 ((𝓧.spanned z).1 h));
    full = λ z. let f = 𝓧.full z in record { factor = f.factor; some = f.some; multiple_in = (s _).0 f.multiple_in };
  }

  same_factor : (X Y : FunctionOf c → Type 0) → SameSet X Y → IsFactor X → IsFactor Y
  same_factor X Y s h = record {
    lattice = lattice_same X Y s h.lattice;
    module_is = 𝓨;
    invertible =
        product_monotone (ring_of c) O 𝓞.ring X (Inverse (ring_of c).ops O X) Y (Inverse (ring_of c).ops O Y) 𝓨
        (λ z. (s z).0)
        (λ z m y n. m y ((s y).1 n)) 𝟙 h.invertible;
    within = λ z m. h.within z ((s z).1 m);
  }
    where
      𝓨 : IsModule (ring_of c).ops O Y
      𝓨 = record {
        zero_in = (s 𝟘).0 h.module_is.zero_in;
        sum_in = λ a b m n. (s _).0 (h.module_is.sum_in a b ((s a).1 m) ((s b).1 n));
        scale_in = λ r a r_in m. (s _).0 (h.module_is.scale_in r a r_in ((s a).1 m));
      }

  order_factor : IsFactor O
  order_factor = record {
    lattice = 𝓞.lattice;
    module_is = own_module (ring_of c) O 𝓞.ring;
    invertible =
        subst (Product (ring_of c).ops O (Inverse (ring_of c).ops O O)) ((ring_of c).mul_one 𝟙)
        (product_member (ring_of c) O 𝓞.ring O (Inverse (ring_of c).ops O O) 𝟙 𝟙 𝓞.ring.one_in
        (λ y m. 𝓞.ring.product_in _ _ 𝓞.ring.one_in m));
    within = λ z m. m;
  }

  module _ (P : FunctionOf c → Type 0) (𝓟 : IsPrime (ring_of c).ops O P) (f : ℕ) (index : HasIndex c P O f) where
    -- the index of X·P in X is that of P in the order
    pub times_index : (X : FunctionOf c → Type 0) → IsModule (ring_of c).ops O X → Invertible (ring_of c).ops O X
        → HasIndex c (Product (ring_of c).ops X P) X f
    times_index = times_index_over c O 𝓞.ring (lattice_subspace c O 𝓞.lattice) P 𝓟 f index

  module _ (P : FunctionOf c → Type 0) (𝓟 : IsPrime (ring_of c).ops O P) (factor : IsFactor P) (f : ℕ)
      (index : HasIndex c P O f) where
    times_within : (X : FunctionOf c → Type 0) → IsFactor X → (z : FunctionOf c) → Product (ring_of c).ops X P z → X z
    times_within X h =
        product_into (ring_of c) X P X (additive_of_module (ring_of c) O X h.module_is)
        (λ a b m n. subst X ((ring_of c).mul_comm b a) (h.module_is.scale_in b a (factor.within b n) m))

    times_factor : (X : FunctionOf c → Type 0) → IsFactor X → IsFactor (Product (ring_of c).ops X P)
    times_factor X h = record {
      lattice = product_lattice c X P h.lattice factor.lattice;
      module_is = product_module (ring_of c) O 𝓞.ring X P h.module_is;
      invertible =
          product_monotone (ring_of c) O 𝓞.ring (Product (ring_of c).ops X P)
          (Product (ring_of c).ops (Inverse (ring_of c).ops O X) (Inverse (ring_of c).ops O P))
          (Product (ring_of c).ops X P) (Inverse (ring_of c).ops O (Product (ring_of c).ops X P))
          (product_module (ring_of c) O 𝓞.ring X P h.module_is)
          (λ z m. m) (λ z. (inverse_of_product (ring_of c) O 𝓞.ring X P h.module_is factor.module_is h.invertible
          factor.invertible z).0) 𝟙
          (invertible_product (ring_of c) O 𝓞.ring X P h.module_is factor.module_is h.invertible factor.invertible);
      within = λ z m. h.within z (times_within X h z m);
    }

    abbrev Powered : ℕ → (FunctionOf c → Type 0) → FunctionOf c → Type 0
    Powered n X = Product (ring_of c).ops (IdealPower (ring_of c).ops O P n 0) X

    W : (n : ℕ) → IsModule (ring_of c).ops O (Power (ring_of c).ops O P n)
    W n = power_module (ring_of c) O 𝓞.ring P factor.module_is n

    -- one more factor P
    powered_next : (n : ℕ) (X : FunctionOf c → Type 0) → IsModule (ring_of c).ops O X
        → SameSet (Product (ring_of c).ops (Powered n X) P) (Powered (suc n) X)
    powered_next n X 𝓧 z = (
      λ m.
          product_monotone (ring_of c) O 𝓞.ring (Product (ring_of c).ops P WO) X
          (IdealPower (ring_of c).ops O P (suc n) 0) X 𝓗
          (product_assoc_back (ring_of c) O 𝓞.ring P (Power (ring_of c).ops O P n) O factor.module_is) (λ a h. h) z
          (product_assoc_back (ring_of c) O 𝓞.ring P WO X factor.module_is z
          (product_swap (ring_of c) O 𝓞.ring (Powered n X) P factor.module_is z m)),
      λ m.
          product_swap (ring_of c) O 𝓞.ring P (Powered n X) 𝓣 z
          (product_assoc (ring_of c) O 𝓞.ring P WO X factor.module_is z
          (product_monotone (ring_of c) O 𝓞.ring (IdealPower (ring_of c).ops O P (suc n) 0) X
          (Product (ring_of c).ops P WO) X
          (product_module (ring_of c) O 𝓞.ring P WO factor.module_is)
          (product_assoc (ring_of c) O 𝓞.ring P (Power (ring_of c).ops O P n) O factor.module_is) (λ a h. h) z m)),
    )
      where
        WO : FunctionOf c → Type 0
        WO = Product (ring_of c).ops (Power (ring_of c).ops O P n) O

        𝓗 : IsModule (ring_of c).ops O (IdealPower (ring_of c).ops O P (suc n) 0)
        𝓗 = product_module (ring_of c) O 𝓞.ring (Power (ring_of c).ops O P (suc n)) O (W (suc n))

        𝓣 : IsModule (ring_of c).ops O (Powered n X)
        𝓣 = product_module (ring_of c) O 𝓞.ring WO X
            (product_module (ring_of c) O 𝓞.ring (Power (ring_of c).ops O P n) O (W n))

    -- the zeroth power changes nothing
    powered_none : (X : FunctionOf c → Type 0) → IsModule (ring_of c).ops O X → SameSet X (Powered 0 X)
    powered_none X 𝓧 z = (
      λ m.
          product_monotone (ring_of c) O 𝓞.ring O X (Product (ring_of c).ops O O) X
          (product_module (ring_of c) O 𝓞.ring O O 𝓞𝓞)
          (λ a. (product_one (ring_of c) O 𝓞.ring O 𝓞𝓞 a).1) (λ a h. h) z
          ((product_one (ring_of c) O 𝓞.ring X 𝓧 z).1 m),
      λ m.
          (product_one (ring_of c) O 𝓞.ring X 𝓧 z).0
          (product_monotone (ring_of c) O 𝓞.ring (Product (ring_of c).ops O O) X O X 𝓞𝓞
          (λ a. (product_one (ring_of c) O 𝓞.ring O 𝓞𝓞 a).0) (λ a h. h) z m),
    )
      where
        𝓞𝓞 : IsModule (ring_of c).ops O O
        𝓞𝓞 = own_module (ring_of c) O 𝓞.ring

    power_of : (n : ℕ) (z : FunctionOf c) → Power (ring_of c).ops O P n z → O z
    power_of zero z m = m
    power_of (suc n) z m =
        product_into (ring_of c) P (Power (ring_of c).ops O P n) O
        (additive_of_module (ring_of c) O O (own_module (ring_of c) O 𝓞.ring))
        (λ a b i j. 𝓞.ring.product_in a b (factor.within a i) (power_of n b j)) z m

    powered_within : (n : ℕ) (X : FunctionOf c → Type 0) → IsFactor X → (z : FunctionOf c) → Powered n X z → X z
    powered_within n X h =
        product_into (ring_of c) (IdealPower (ring_of c).ops O P n 0) X X
        (additive_of_module (ring_of c) O X h.module_is)
        (λ a b m l. h.module_is.scale_in a b
        (product_into (ring_of c) (Power (ring_of c).ops O P n) O O
        (additive_of_module (ring_of c) O O (own_module (ring_of c) O 𝓞.ring))
        (λ a b i j. 𝓞.ring.product_in a b (power_of n a i) j) a m) l)

    pub powered : (n : ℕ) (X : FunctionOf c → Type 0) → IsFactor X → IsFactor (Powered n X)
        × HasIndex c (Powered n X) X (n * f)
    powered zero X h = (
      same_factor X (Powered 0 X) (powered_none X h.module_is) h,
      subst (HasIndex c (Powered 0 X) X) (let q : 0 ≡ 0 * f = omega arith in q)
          (index_none c (Powered 0 X) X (same_factor X (Powered 0 X) (powered_none X h.module_is) h).lattice
          (λ z. (powered_none X h.module_is z).0)),
    )
    powered (suc n) X h =
        let r = powered n X h in
        let s = powered_next n X h.module_is in
        let t = times_factor (Powered n X) r.0 in (
          same_factor (Product (ring_of c).ops (Powered n X) P) (Powered (suc n) X) s t,
          index_same c (Product (ring_of c).ops (Powered n X) P) (Powered (suc n) X) X X s (λ z. (λ m. m, λ m. m)) _
              (subst (HasIndex c (Product (ring_of c).ops (Powered n X) P) X)
              (let q : f + n * f ≡ suc n * f = omega (arith, suc-mul n f) in q)
              (index_add c (Product (ring_of c).ops (Powered n X) P) (Powered n X) X t.lattice r.0.lattice h.lattice
              (times_within (Powered n X) r.0)
              (powered_within n X h) f (n * f) (times_index P 𝓟 f index (Powered n X) r.0.module_is r.0.invertible)
              r.1)),
        )

  -- the product of powers of several primes
  module _ (I : Type 0) (P : I → FunctionOf c → Type 0) (prime : (i : I) → IsPrime (ring_of c).ops O (P i))
      (factor : (i : I) → IsFactor (P i)) (f : I → ℕ)
      (index : (i : I) → HasIndex c (P i) O (f i)) where
    abbrev pub Powers : (I → ℕ) → List I → FunctionOf c → Type 0
    Powers e is = IdealProduct (ring_of c).ops O P (map (λ i. entry i (pos (e i))) is)

    pub product_index : (e : I → ℕ) (is : List I) → IsFactor (Powers e is) × HasIndex c (Powers e is) O (total e f is)
    product_index e [] = (order_factor, index_none c O O 𝓞.lattice (λ z m. m))
    product_index e (i ∷ is) =
        let r = product_index e is in
        let t = powered (P i) (prime i) (factor i) (f i) (index i) (e i) (Powers e is) r.0 in (
          t.0,
          index_add c (Powers e (i ∷ is)) (Powers e is) O t.0.lattice r.0.lattice 𝓞.lattice
              (powered_within (P i) (prime i) (factor i) (f i) (index i) (e i) (Powers e is) r.0) r.0.within
              (e i * f i) (total e f is) t.1 r.1,
        )
