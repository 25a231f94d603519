-- The primes over p of an order that is maximal at p: they are lattices with inverses, finitely many, and listed.
use Rattle.std.proofs.Common.{◌≡◌, arith, All, ◌⊎◌, inl, inr, ℕ, suc, List, [], ◌∷◌, map, refl, sym, ◌∙◌, ap, subst}
use Rattle.std.proofs.lemmas.List.Elements.{All-nil, All-cons, All-head, All-tail}
use Rattle.std.proofs.lemmas.List.Kept.{AllPairs-cons}
use Rattle.ring_lemmas.specs.Ring.{CommRing}
use Rattle.ring_theory.specs.Subsets.{Colon, Span, Product}
use Rattle.ring_theory.specs.Maps.{IsHom}
use Rattle.prime_theory.specs.Ideals.{Inverse, Invertible, SameSet, IsIdeal}
use Rattle.prime_theory.specs.Primes.{Different, IsPrime}
use Rattle.prime_theory.specs.Orders.{MaximalAt}
use Rattle.prime_theory.specs.Systems.{AreDistinctPrimes, TraceGenerators, IsDecomposition, IsSystem, IsFamily, PrimeAt, Generators}
use Rattle.prime_theory.proofs.Idempotents.{idempotent_prime}
use Rattle.prime_theory.proofs.IdempotentFamily.{idempotent_family, idempotent_invertible}
use Rattle.prime_theory.proofs.Scalars.{span_wider}
use Rattle.prime_theory.proofs.Radicals.{p_in_radical}
use Rattle.polynomial_theory.proofs.Irreducible.{irreducible_some}
use Rattle.linear_theory.specs.Module.{combine}
use Rattle.linear_theory.proofs.Bases.{combine_in}
use Rattle.finite_algebra_theory.specs.Algebra.{FiniteAlgebra}
use Rattle.finite_algebra_theory.specs.ByMap.{Image}
use Rattle.finite_algebra_theory.proofs.ByMap.{algebra}
use Rattle.ff_fields.specs.Field.{CodeField}
use Rattle.ff_fields.specs.Code.{Code, code_ring}
use Rattle.ff_poly.specs.Words.{IsIrreducibleList}
use Rattle.ff_poly.specs.Polynomials.{Polynomial, codes_of}
use Rattle.function_field.specs.declared.side.Side.TheVariants.{Finite}
use Rattle.function_field.specs.Places.{IsIntegralAt}
use Rattle.function_field.specs.Functions.{Equation, FunctionOf, ring_of, of_poly, IsPolynomial, setting_of}
use Rattle.polynomial_theory.proofs.CodeFields.{code_finite}
use Rattle.places_theory.proofs.Decomposition.{prime_system}
use Rattle.places_theory.specs.Reductions.{IsReduction, Primitive}
use Rattle.function_field.specs.Indices.{space_ops}
use Rattle.lattice_theory.specs.Lattices.{IsLattice}
use Rattle.order_theory.specs.Orders.{IsOrder}
use Rattle.lattice_theory.proofs.Lattices.{lattice_decided, lattice_generators}
use Rattle.lattice_theory.proofs.Indices.{codes, space, code_of, code_hom, lattice_subspace}
use Rattle.lattice_theory.proofs.Between.{lattice_between}
use Rattle.lattice_theory.proofs.Operations.{inverse_of, product_lattice, colon_lattice}
use Rattle.order_theory.proofs.LocalOrders.{stable_integral, order_polynomials}
use Rattle.order_theory.proofs.Classes.{class_reduction}
use Rattle.order_theory.proofs.ReductionAt.{pO, p_in, p_not_unit, multiple_is_lattice, index_of_p, Classes, lift, reduce, code_rows, representatives, residue_ring}

-- the members of a list of primes, each once
record Thinned {A I : Type 0} (P : I → A → Type 0) (T : I → Type 0) (is : List I) : Type 0 where
  pub list : List I
  pub distinct : AreDistinctPrimes P list
  pub kept : All T is → All T list
  pub all : (z : A) → All (λ i. P i z) list → All (λ i. P i z) is

module _ {A : Type 0} (R : CommRing A) (O : A → Type 0) (I : Type 0) (P : I → A → Type 0)
    (fam : IsFamily R.ops O I P) where
  -- i is in the list up to sameness, or different from all of it
  find : (i : I) (js : List I) → ((z : A) → All (λ j. P j z) js → P i z) ⊎ All (λ j. Different (P i) (P j)) js
  find i [] = inr (All-nil (λ j. Different (P i) (P j)))
  find i (j ∷ js) = go (fam.compare i j) (find i js)
    where
      go : SameSet (P i) (P j) ⊎ Different (P i) (P j) → ((z : A) → All (λ j. P j z) js → P i z)
          ⊎ All (λ j. Different (P i) (P j)) js
          → ((z : A) → All (λ j. P j z) (j ∷ js) → P i z) ⊎ All (λ j. Different (P i) (P j)) (j ∷ js)
      go (inl s) r = inl (λ z m. (s z).1 (All-head (λ j. P j z) j js m))
      go (inr d) (inl f) = inl (λ z m. f z (All-tail (λ j. P j z) j js m))
      go (inr d) (inr e) = inr (All-cons (λ j. Different (P i) (P j)) j js d e)

  thin : (T : I → Type 0) (is : List I) → Thinned P T is
  thin T [] = record { list = []; distinct = λ i j d l m. absurd (omega arith); kept = λ m. m; all = λ z m. m }
  thin T (i ∷ is) = go (thin T is)
    where
      by : (t : Thinned P T is) → ((z : A) → All (λ j. P j z) t.list → P i z)
          ⊎ All (λ j. Different (P i) (P j)) t.list → Thinned P T (i ∷ is)
      by t (inl f) = record {
        list = t.list;
        distinct = t.distinct;
        kept = λ m. t.kept (All-tail T i is m);
        all = λ z m. All-cons (λ j. P j z) i is (f z m) (t.all z m);
      }
      by t (inr e) = record {
        list = i ∷ t.list;
        distinct = AllPairs-cons (λ i j. Different (P i) (P j)) i t.list e t.distinct;
        kept = λ m. All-cons T i t.list (All-head T i is m) (t.kept (All-tail T i is m));
        all = λ z m. All-cons (λ j. P j z) i is (All-head (λ j. P j z) i t.list m)
            (t.all z (All-tail (λ j. P j z) i t.list m));
      }

      go : Thinned P T is → Thinned P T (i ∷ is)
      go t = by t (find i t.list)

module _ {k : CodeField} (c : Equation k) (p : Polynomial k) (h : IsIrreducibleList k.ops (codes_of k p))
    (O : FunctionOf c → Type 0) (𝓞 : IsOrder c O) where
  infixl 65 ◌⊕◌
  infixl 70 ◌⊗◌
  infixr 80 ⊖◌
  open ring_of c use {𝟘, 𝟙, ◌⊕◌, ◌⊗◌, ⊖◌}

  abbrev Q : CommRing (Classes c p h O 𝓞)
  Q = residue_ring c p h O 𝓞

  abbrev down : FunctionOf c → Classes c p h O 𝓞
  down = reduce c p h O 𝓞

  red : IsReduction (ring_of c).ops O (of_poly c p) (residue_ring c p h O 𝓞).ops (reduce c p h O 𝓞) (lift c p h O 𝓞)
  red = class_reduction (ring_of c) O 𝓞.ring (of_poly c p) (p_in c p h O 𝓞) (reduce c p h O 𝓞) (lift c p h O 𝓞)
      (representatives c p h O 𝓞)

  polynomial_in : (s : FunctionOf c) → IsPolynomial c s → O s
  polynomial_in = order_polynomials c O 𝓞

  code_in : (a : Code k) → O (code_of c a)
  code_in a = polynomial_in _ (record { polynomial = _; value = refl })

  pub residue_hom : IsHom (code_ring k).ring (residue_ring c p h O 𝓞) (λ a. reduce c p h O 𝓞 (code_of c a))
  residue_hom = record {
    add = λ a b. ap down ((code_hom c).sum_is a b) ∙ red.add _ _ (code_in a) (code_in b);
    mul = λ a b. ap down ((code_hom c).product_is a b) ∙ red.mul _ _ (code_in a) (code_in b);
    𝟙 = ap down (code_hom c).one_is ∙ red.one;
  }

  spans : (vs : List (FunctionOf c)) → All O vs → (e : ℕ → Code k)
      → Span (residue_ring c p h O 𝓞).ops (Image (λ a. reduce c p h O 𝓞 (code_of c a))) (map (reduce c p h O 𝓞) vs)
      (reduce c p h O 𝓞 (combine (space_ops c) e vs))
  spans [] all e = refl
  spans (v ∷ vs) all e = record {
    scalar = down (code_of c (e 0));
    scalar_in = (e 0, refl);
    rest = down (combine (space_ops c) (λ i. e (suc i)) vs);
    rest_in = spans vs (All-tail O v vs all) (λ i. e (suc i));
    is =
        red.add _ _ (𝓞.ring.product_in _ _ (code_in (e 0)) (All-head O v vs all))
        (combine_in (codes k) (space c) O (lattice_subspace c O 𝓞.lattice) (λ i. e (suc i)) vs (All-tail O v vs all))
        ∙ ap (λ x. Q.◌⊕◌ x (down (combine (space_ops c) (λ i. e (suc i)) vs)))
        (red.mul _ _ (code_in (e 0)) (All-head O v vs all));
  }

  all_spanned : (x : Classes c p h O 𝓞)
      → Span (residue_ring c p h O 𝓞).ops (Image (λ a. reduce c p h O 𝓞 (code_of c a)))
      (map (reduce c p h O 𝓞) (index_of_p c p h O 𝓞).basis) x
  unfolding lift
  all_spanned x =
      subst (Span Q.ops (Image (λ a. down (code_of c a))) (map (reduce c p h O 𝓞) (index_of_p c p h O 𝓞).basis))
      (red.reduce_lift x)
      (spans (index_of_p c p h O 𝓞).basis (index_of_p c p h O 𝓞).is.members_in _)

  pub residue_algebra : FiniteAlgebra (residue_ring c p h O 𝓞).ops (Image (λ a. reduce c p h O 𝓞 (code_of c a)))
  residue_algebra =
      algebra (code_ring k).ring (residue_ring c p h O 𝓞) (λ a. reduce c p h O 𝓞 (code_of c a)) residue_hom
      (code_finite k)
      (code_rows k _)
      (λ e. p_not_unit c p h O 𝓞 ((red.kernel 𝟙 𝓞.ring.one_in).0 (red.one ∙ e)))
      (map (reduce c p h O 𝓞) (index_of_p c p h O 𝓞).basis) all_spanned

  abbrev pub Index : Type 0
  Index = Primitive (residue_ring c p h O 𝓞).ops

  -- the primes over p
  abbrev pub PrimeOf : Index → FunctionOf c → Type 0
  PrimeOf i = PrimeAt (ring_of c).ops O (of_poly c p) (lift c p h O 𝓞 i.0)

  pub listed : (is : List Index) × IsDecomposition (ring_of c).ops O (of_poly c p) Index (λ i. lift c p h O 𝓞 i.0) is
      × IsSystem (ring_of c).ops O (of_poly c p) Index PrimeOf is
  listed =
      prime_system (ring_of c) O 𝓞.ring (of_poly c p) (residue_ring c p h O 𝓞) (reduce c p h O 𝓞) (lift c p h O 𝓞)
      red (p_in c p h O 𝓞) _ residue_algebra

  pub prime_is : (i : Index) → IsPrime (ring_of c).ops O (PrimeOf i)
  prime_is =
      idempotent_prime (ring_of c) O 𝓞.ring (of_poly c p) (p_in c p h O 𝓞) Index (λ i. lift c p h O 𝓞 i.0) listed.0
      listed.1

  -- an ideal of the order with p, with decided membership, is a lattice
  pub ideal_lattice : (P : FunctionOf c → Type 0) → IsIdeal (ring_of c).ops O P → P (of_poly c p)
      → ((u : FunctionOf c) → O u → P u ⊎ (¬ (P u))) → IsLattice c P
  ideal_lattice P 𝓟 over decide =
      lattice_between c P O 𝓞.lattice (λ z m. by z (decide z m)) (pO c p h O 𝓞) (multiple_is_lattice c p h O 𝓞)
      (record {
        zero_in = 𝓟.zero_in;
        sum_in = 𝓟.sum_in;
        scale_in = λ s a s_in m. 𝓟.scale_in s a (polynomial_in s s_in) m;
      })
      (λ z m. subst P ((ring_of c).mul_comm _ _ ∙ sym m.is) (𝓟.scale_in _ _ m.quotient_in over))
      𝓟.within
    where
      by : (z : FunctionOf c) → P z ⊎ (¬ (P z)) → Dec (P z)
      by z (inl m) = yes m
      by z (inr n) = no n

  pub prime_over : (i : Index) → PrimeOf i (of_poly c p)
  prime_over i = record {
    within = p_in c p h O 𝓞;
    nilpotent = p_in_radical (ring_of c) O 𝓞.ring (of_poly c p) (p_in c p h O 𝓞) (of_poly c p ⊗ lift c p h O 𝓞 i.0)
        (record { quotient = lift c p h O 𝓞 i.0; quotient_in = red.lift_in i.0; is = refl });
  }

  pub prime_lattice : (i : Index) → IsLattice c (PrimeOf i)
  prime_lattice i = ideal_lattice (PrimeOf i) (prime_is i).ideal (prime_over i) (prime_is i).decide

  -- generators over the order
  pub order_generators : (L : FunctionOf c → Type 0) → IsLattice c L → Generators (ring_of c).ops O L
  order_generators L 𝓛 = record {
    list = 𝓛.generators;
    members = lattice_generators c L 𝓛;
    spanned = λ a m. span_wider (ring_of c) (IsPolynomial c) O polynomial_in 𝓛.generators a ((𝓛.spanned a).0 m);
  }

  -- where the order is maximal at p, the primes over p have inverses
  module _ (maximal : MaximalAt (ring_of c).ops (of_poly c p) (IsIntegralAt (setting_of c) Finite) O) where
    p_decided : (x : FunctionOf c) → O x → pO c p h O 𝓞 x ⊎ (¬ (pO c p h O 𝓞 x))
    p_decided x m = by (lattice_decided c (pO c p h O 𝓞) (multiple_is_lattice c p h O 𝓞) x)
      where
        by : Dec (pO c p h O 𝓞 x) → pO c p h O 𝓞 x ⊎ (¬ (pO c p h O 𝓞 x))
        by (yes m) = inl m
        by (no n) = inr n

    multipliers : (i : Index) (z : FunctionOf c)
        → Colon (ring_of c).ops (Inverse (ring_of c).ops O (PrimeOf i)) (Inverse (ring_of c).ops O (PrimeOf i)) z
        → O (of_poly c p ⊗ z) → O z
    multipliers i z m n =
        maximal z 1
        (stable_integral c (Inverse (ring_of c).ops O (PrimeOf i))
        (colon_lattice c O (PrimeOf i) 𝓞.lattice (prime_lattice i)) z (λ y y_in. m y y_in))
        (subst (λ x. O (x ⊗ z)) (sym ((ring_of c).mul_one _)) n)

    trace_generators : (i : Index) → TraceGenerators (ring_of c).ops O (PrimeOf i)
    trace_generators i =
        order_generators (Product (ring_of c).ops (PrimeOf i) (Inverse (ring_of c).ops O (PrimeOf i)))
        (product_lattice c (PrimeOf i) (Inverse (ring_of c).ops O (PrimeOf i)) (prime_lattice i)
        (colon_lattice c O (PrimeOf i) 𝓞.lattice (prime_lattice i)))

    inverse : (u : FunctionOf c) × (u ⊗ of_poly c p ≡ 𝟙)
    inverse = let u = inverse_of c p (irreducible_some k p h) in (u.0, (ring_of c).mul_comm _ _ ∙ u.1)

    pub prime_invertible : (i : Index) → Invertible (ring_of c).ops O (PrimeOf i)
    prime_invertible =
        idempotent_invertible (ring_of c) O 𝓞.ring (of_poly c p) (p_in c p h O 𝓞) Index (λ i. lift c p h O 𝓞 i.0)
        listed.0 listed.1
        inverse.0 inverse.1 p_decided multipliers trace_generators

    pub family_of : IsFamily (ring_of c).ops O Index PrimeOf
    family_of =
        idempotent_family (ring_of c) O 𝓞.ring (of_poly c p) (p_in c p h O 𝓞) Index (λ i. lift c p h O 𝓞 i.0)
        listed.0 listed.1
        inverse.0 inverse.1 p_decided multipliers trace_generators

    -- the primes over p, each once
    pub record PrimesAt : Type 0 where
      pub list : List Index
      pub system : IsSystem (ring_of c).ops O (of_poly c p) Index PrimeOf list
      pub distinct : AreDistinctPrimes PrimeOf list

    pub primes_at : PrimesAt
    primes_at =
        let t = thin (ring_of c) O Index PrimeOf family_of (λ i. PrimeOf i (of_poly c p)) listed.0 in
        record {
          list = t.list;
          system = record {
            over = t.kept listed.2.over;
            nilpotent = λ z z_in m. listed.2.nilpotent z z_in (t.all z m);
          };
          distinct = t.distinct;
        }
