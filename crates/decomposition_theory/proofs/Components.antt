-- An order modulo a polynomial as its quotient algebra: the primitive idempotents of the algebra are a decomposition of
-- the order at the polynomial, and the prime of one of them is that of its lift.
use Rattle.std.proofs.Common.{◌≡◌, ◌↔◌, ◌⊎◌, inl, inr, ℕ, ◌<◌, ◌≤◌, List, [], ◌∷◌, replicate, refl, sym, ◌∙◌, ap, subst, arith, All}
use Rattle.std.proofs.lemmas.Bool.{cases_lt}
use Rattle.std.proofs.lemmas.List.{nil_from_length}
use Rattle.std.proofs.lemmas.List.Elements.{All-nil, All-cons, All-head, All-tail}
use Rattle.ring_lemmas.specs.Ring.{CommRing}
use Rattle.ring_lemmas.specs.Lists.{add_lists}
use Rattle.ring_lemmas.specs.Sums.{sum_over}
use Rattle.ring_theory.specs.Members.{In}
use Rattle.prime_theory.specs.Ideals.{SameSet}
use Rattle.prime_theory.specs.Systems.{IsDecomposition, PrimeAt}
use Rattle.finite_algebra_theory.specs.Algebra.{FiniteAlgebra, IsNilpotent}
use Rattle.finite_algebra_theory.specs.ByMap.{Image}
use Rattle.finite_algebra_theory.specs.Maximal.{NilpotentAt}
use Rattle.ff_fields.specs.Field.{CodeField}
use Rattle.ff_fields.specs.Code.{raw_ring}
use Rattle.ff_poly.specs.Words.{IsIrreducibleList}
use Rattle.ff_poly.specs.Value.{value}
use Rattle.ff_poly.specs.Polynomials.{codes_of}
use Rattle.ff_falg.specs.Algebras.{AlgebraOps, IsAlgebra, IsPrimitiveVector, IsNilpotentVector}
use Rattle.ff_falg.specs.Idempotents.{vector_sum}
use Rattle.ff_falg.proofs.PrimitiveLists.{value_primitive}
use Rattle.ff_falg.proofs.Vectors.{Vector, vector_ring, same_vector, zeros_in, power_value}
use Rattle.ff_falg.proofs.VectorAlgebra.{scalar, vector_algebra}
use Rattle.function_field.specs.Functions.{of_poly}
use Rattle.function_field.specs.Values.{Functions, functions, function_of, equation_of}
use Rattle.places_theory.specs.Reductions.{IsReduction, Primitive}
use Rattle.places_theory.proofs.Decomposition.{decomposition, prime_iff}
use Rattle.lattice_theory.proofs.Lattices.{lattice_decided}
use Rattle.order_theory.specs.Orders.{IsOrder}
use Rattle.order_theory.proofs.ReductionAt.{p_not_unit}
use Rattle.ff_lattice.specs.Lattices.{Contains}
use Rattle.ff_lattice.specs.Quotients.{QuotientValue, IsClassOf, HasClasses, dimension, lifted, class_algebra}
use Rattle.ff_lattice.proofs.QuotientLaws.{lift_member, has_classes}
use Rattle.value_theory.proofs.Bridge.{order_set, irreducible_value}
use Rattle.value_theory.proofs.Ideals.{class_of_member}
use Rattle.decomposition_theory.specs.Decompositions.{IsMaximalOrderAt, AreIdempotentsModulo, IsInComponentPrime}

-- primitive idempotents as lists of coordinates and as vectors
module _ (k : CodeField) (A : AlgebraOps) (law : IsAlgebra k A) where
  abbrev pub component : (e : List ℕ) → IsPrimitiveVector k.ops A e → Primitive (vector_ring k A law).ops
  component e t = ((e, t.idempotent.vector), value_primitive k A law e t)

  abbrev pub components : (es : List (List ℕ)) → ((e : List ℕ) → In e es → IsPrimitiveVector k.ops A e)
      → List (Primitive (vector_ring k A law).ops)
  components [] f = []
  components (e ∷ es) f = component e (f e (inl refl)) ∷ components es (λ x i. f x (inr i))

  pub components_sum : (es : List (List ℕ)) (f : (e : List ℕ) → In e es → IsPrimitiveVector k.ops A e)
      → (sum_over (vector_ring k A law).ops (components es f) (λ i. i.0)).0 ≡ vector_sum k.ops A es
  components_sum [] f = refl
  components_sum (e ∷ es) f = ap (add_lists (raw_ring k.ops) e) (components_sum es (λ x i. f x (inr i)))

  -- what holds at each idempotent holds at each component
  pub at_components : (X : List ℕ → Type 0) (Y : Primitive (vector_ring k A law).ops → Type 0) (es : List (List ℕ))
      (f : (e : List ℕ) → In e es → IsPrimitiveVector k.ops A e)
      → ((e : List ℕ) (i : In e es) → X e → Y (component e (f e i)))
      → All X es → All Y (components es f)
  at_components X Y [] f g h = All-nil Y
  at_components X Y (e ∷ es) f g h =
      All-cons Y (component e (f e (inl refl))) (components es (λ x i. f x (inr i)))
      (g e (inl refl) (All-head X e es h))
      (at_components X Y es (λ x i. f x (inr i)) (λ x i. g x (inr i)) (All-tail X e es h))

  -- a vector is nilpotent as a list exactly where it is so in the ring
  pub nilpotent_iff : (x : Vector k A.size) → IsNilpotentVector k.ops A x.0 ↔ IsNilpotent (vector_ring k A law).ops x
  nilpotent_iff x = (
    λ h. (h.exponent, same_vector k A.size _ _ (power_value k A law x h.exponent ∙ h.is)),
    λ h. record { exponent = h.0; is = sym (power_value k A law x h.0) ∙ ap (λ y. y.0) h.1 },
  )

module _ (k : CodeField) (q : QuotientValue) (pi : List ℕ) (es : List (List ℕ))
    (at : IsMaximalOrderAt k q.p q.order pi) (h : AreIdempotentsModulo k q pi es) where
  abbrev F : CommRing (Functions k q.p)
  F = functions k q.p

  abbrev O : Functions k q.p → Type 0
  O = Contains k q.p q.order

  abbrev x : Functions k q.p
  x = of_poly (equation_of k q.p) (value k pi)

  abbrev A : AlgebraOps
  A = class_algebra q

  pub order_is : IsOrder (equation_of k q.p) (Contains k q.p q.order)
  order_is = order_set k q.p at.positive q.order at.order

  prime_p : IsIrreducibleList k.ops (codes_of k (value k pi))
  prime_p = irreducible_value k pi at.pi_in at.irreducible

  abbrev law : IsAlgebra k (class_algebra q)
  law = h.quotient.algebra

  abbrev pub classes_ring : CommRing (Vector k (dimension q))
  classes_ring = vector_ring k (class_algebra q) h.quotient.algebra

  classes : HasClasses k q
  classes = has_classes k q h.quotient.quotient.frame h.quotient.quotient.one_is

  abbrev pub lift : Vector k (dimension q) → Functions k q.p
  lift a = function_of k q.p (lifted k.ops q a.0)

  pub lift_in : (a : Vector k (dimension q)) → Contains k q.p q.order (lift a)
  lift_in a = lift_member k q h.quotient.quotient.frame a.0 a.1

  -- the class of a member, and 0 elsewhere
  abbrev class_at : (z : Functions k q.p) → Dec (Contains k q.p q.order z) → Vector k (dimension q)
  class_at z (yes z_in) = let a = class_of_member k q h.quotient.quotient z z_in in (a.0, a.1.codes)
  class_at z (no n) = (replicate (dimension q) 0, zeros_in k (dimension q))

  pub reduce : Functions k q.p → Vector k (dimension q)
  reduce z = class_at z (lattice_decided (equation_of k q.p) O order_is.lattice z)

  pub reduce_is : (z : Functions k q.p) → Contains k q.p q.order z → (a : List ℕ) → IsClassOf k q z a → (reduce z).0 ≡ a
  unfolding reduce
  reduce_is z z_in a a_of = go (lattice_decided (equation_of k q.p) O order_is.lattice z)
    where
      go : (d : Dec (Contains k q.p q.order z)) → (class_at z d).0 ≡ a
      go (yes i) = let b = class_of_member k q h.quotient.quotient z i in classes.only z b.0 a b.1 a_of
      go (no n) = absurd (n z_in)

  pub reduce_class : (z : Functions k q.p) → Contains k q.p q.order z → IsClassOf k q z (reduce z).0
  reduce_class z z_in =
      let b = class_of_member k q h.quotient.quotient z z_in in
      subst (IsClassOf k q z) (sym (reduce_is z z_in b.0 b.1)) b.1

  pub reduce_lift : (a : Vector k (dimension q)) → reduce (lift a) ≡ a
  reduce_lift a = same_vector k (dimension q) _ _ (reduce_is (lift a) (lift_in a) a.0 (classes.of_lifted a.0 a.1))

  -- the quotient is the order modulo the polynomial
  pub reduction : IsReduction (functions k q.p).ops (Contains k q.p q.order)
      (of_poly (equation_of k q.p) (value k pi)) classes_ring.ops reduce lift
  reduction = record {
    lift_in = lift_in;
    reduce_lift = reduce_lift;
    one = same (reduce_is F.𝟙 order_is.ring.one_in q.one classes.of_one);
    add = λ a c a_in c_in.
        same (reduce_is _ (order_is.ring.sum_in a c a_in c_in) _
        (classes.of_sum a c _ _ (reduce_class a a_in) (reduce_class c c_in)));
    mul = λ a c a_in c_in.
        same (reduce_is _ (order_is.ring.product_in a c a_in c_in) _
        (classes.of_product a c _ _ a_in c_in (reduce_class a a_in) (reduce_class c c_in)));
    kernel = λ a a_in. (
      λ e. (h.ideal a).0 ((classes.of_ideal a).0 (subst (IsClassOf k q a) (ap (λ y. y.0) e) (reduce_class a a_in))),
      λ m. same (reduce_is a a_in (replicate (dimension q) 0) ((classes.of_ideal a).1 ((h.ideal a).1 m))),
    );
  }
    where
      same : {y z : Vector k (dimension q)} → y.0 ≡ z.0 → y ≡ z
      same e = same_vector k (dimension q) _ _ e

  -- the polynomial has no inverse in the order, so that the quotient isn't 0
  pub some : 0 < dimension q
  some = go (cases_lt 0 (dimension q))
    where
      go : (0 < dimension q) ⊎ (dimension q ≤ 0) → 0 < dimension q
      go (inl l) = l
      go (inr n) =
          let none : dimension q ≡ 0 = omega arith in
          let e : q.one ≡ replicate (dimension q) 0 = nil_from_length q.one (law.unit_in.size ∙ none)
          ∙ sym (ap (λ n. replicate n 0) none) in
          absurd
          (p_not_unit (equation_of k q.p) (value k pi) prime_p O order_is
          ((h.ideal F.𝟙).0 ((classes.of_ideal F.𝟙).0 (subst (IsClassOf k q F.𝟙) e classes.of_one))))

  abbrev pub algebra : FiniteAlgebra (vector_ring k (class_algebra q) h.quotient.algebra).ops
      (Image (scalar k (class_algebra q) h.quotient.algebra))
  algebra = vector_algebra k A law some

  pub primitive : (e : List ℕ) → In e es → IsPrimitiveVector k.ops (class_algebra q) e
  primitive e = (h.idempotents.members e).0

  abbrev pub idempotents : List (Primitive (vector_ring k (class_algebra q) h.quotient.algebra).ops)
  idempotents = components k A law es primitive

  -- the idempotents split the order at the polynomial
  pub split : IsDecomposition (functions k q.p).ops (Contains k q.p q.order) (of_poly (equation_of k q.p) (value k pi))
      (Primitive (vector_ring k (class_algebra q) h.quotient.algebra).ops) (λ i. lift i.0) idempotents
  split =
      decomposition F O order_is.ring x classes_ring reduce lift reduction (Image (scalar k A law)) algebra idempotents
      (same_vector k (dimension q) _ _ (components_sum k A law es primitive ∙ h.idempotents.sum))

  -- the prime of an idempotent, in the ring of classes and in the order
  pub component_nilpotent : (e : List ℕ) (t : IsPrimitiveVector k.ops (class_algebra q) e) (z : Functions k q.p)
      → IsInComponentPrime k q e z
      ↔ (Contains k q.p q.order z
      × NilpotentAt (vector_ring k (class_algebra q) h.quotient.algebra).ops (e, t.idempotent.vector) (reduce z))
  component_nilpotent e t z =
      let v : Vector k (dimension q) = (e, t.idempotent.vector) in
      let n = nilpotent_iff k A law (classes_ring.◌⊗◌ (reduce z) v) in (
        λ m. (
          m.within,
          n.0
              (subst (λ a. IsNilpotentVector k.ops A (A.product k.ops a e))
              (sym (reduce_is z m.within m.codes m.are)) m.nilpotent),
        ),
        λ m. record {
          within = m.0;
          codes = (reduce z).0;
          are = reduce_class z m.0;
          nilpotent = n.1 m.1;
        },
      )

  pub component_prime : (e : List ℕ) (t : IsPrimitiveVector k.ops (class_algebra q) e)
      → SameSet (IsInComponentPrime k q e)
      (PrimeAt (functions k q.p).ops (Contains k q.p q.order) (of_poly (equation_of k q.p) (value k pi))
      (function_of k q.p (lifted k.ops q e)))
  component_prime e t z =
      let a = component_nilpotent e t z in
      let b = prime_iff F O order_is.ring x classes_ring reduce lift reduction (component k A law e t) z in
      (λ m. b.1 (a.0 m), λ m. a.1 (b.0 m))
