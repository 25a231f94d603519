-- The primes of the primitive idempotents of an order modulo a polynomial.
use Rattle.std.proofs.Common.{◌≡◌, ◌≢◌, ◌⊎◌, inl, inr, ℕ, List, refl, sym, ◌∙◌, ap, All}
use Rattle.ring_lemmas.specs.Ring.{CommRing}
use Rattle.ring_theory.specs.Members.{In}
use Rattle.prime_theory.specs.Ideals.{SameSet, Multiple, PowerIn}
use Rattle.prime_theory.specs.Orders.{Radical}
use Rattle.prime_theory.specs.Places.{IsMaximalIdeal}
use Rattle.prime_theory.specs.Systems.{PrimeAt}
use Rattle.prime_theory.proofs.Idempotents.{idempotent_prime, idempotent_system}
use Rattle.finite_algebra_theory.specs.ByMap.{Image}
use Rattle.finite_algebra_theory.proofs.Lists.{all_of_in}
use Rattle.finite_algebra_theory.proofs.Maximal.{nilpotent_not_invertible}
use Rattle.ff_fields.specs.Field.{CodeField}
use Rattle.ff_poly.specs.Value.{value}
use Rattle.ff_falg.specs.Algebras.{AlgebraOps, IsAlgebra}
use Rattle.ff_falg.proofs.PrimitiveUse.{ascending_distinct}
use Rattle.ff_falg.proofs.VectorAlgebra.{scalar}
use Rattle.function_field.specs.Functions.{of_poly}
use Rattle.function_field.specs.Values.{Functions, functions, function_of, equation_of}
use Rattle.places_theory.specs.Reductions.{Primitive}
use Rattle.order_theory.proofs.ReductionAt.{p_in}
use Rattle.ff_lattice.specs.Lattices.{Contains, IsSumOfMembers}
use Rattle.ff_lattice.specs.Quotients.{QuotientValue, lifted, class_algebra}
use Rattle.value_theory.proofs.Bridge.{irreducible_value}
use Rattle.decomposition_theory.specs.Decompositions.{IsMaximalOrderAt, AreIdempotentsModulo, IsInComponentPrime}
use Rattle.decomposition_theory.specs.Laws.{HaveComponentPrimes}
use Rattle.decomposition_theory.proofs.Components.{component, at_components, order_is, classes_ring, reduce, reduce_lift, algebra, primitive, idempotents, split, component_nilpotent, component_prime}
use Rattle.decomposition_theory.proofs.Splits.{pairs_of_in, maximal_same, prime_has_p, prime_has_orthogonal, split_part, prime_of_parts}

module _ (k : CodeField) (q : QuotientValue) (pi : List ℕ) (es : List (List ℕ))
    (at : IsMaximalOrderAt k q.p q.order pi) (h : AreIdempotentsModulo k q pi es) where
  infixl 65 ◌⊕◌
  infixl 70 ◌⊗◌
  infixr 80 ⊖◌
  open functions k q.p use {𝟙, ◌⊕◌, ◌⊗◌, ⊖◌}

  abbrev F : CommRing (Functions k q.p)
  F = functions k q.p

  abbrev O : Functions k q.p → Type 0
  O = Contains k q.p q.order

  abbrev x : Functions k q.p
  x = of_poly (equation_of k q.p) (value k pi)

  abbrev A : AlgebraOps
  A = class_algebra q

  abbrev law : IsAlgebra k (class_algebra q)
  law = h.quotient.algebra

  abbrev I : Type 0
  I = Primitive (classes_ring k q pi es at h).ops

  abbrev E : List ℕ → Functions k q.p
  E e = function_of k q.p (lifted k.ops q e)

  x_in : Contains k q.p q.order (of_poly (equation_of k q.p) (value k pi))
  x_in = p_in (equation_of k q.p) (value k pi) (irreducible_value k pi at.pi_in at.irreducible) O
      (order_is k q pi es at h)

  -- the component of a listed idempotent
  abbrev at_e : (e : List ℕ) → In e es → Primitive (classes_ring k q pi es at h).ops
  at_e e i = component k A law e (primitive k q pi es at h e i)

  same : (e : List ℕ) → In e es
      → SameSet (IsInComponentPrime k q e)
      (PrimeAt (functions k q.p).ops (Contains k q.p q.order) (of_poly (equation_of k q.p) (value k pi))
      (function_of k q.p (lifted k.ops q e)))
  same e i = component_prime k q pi es at h e (primitive k q pi es at h e i)

  maximal : (e : List ℕ) → In e es
      → IsMaximalIdeal (functions k q.p).ops (Contains k q.p q.order) (IsInComponentPrime k q e)
  maximal e i =
      maximal_same F O (PrimeAt F.ops O x (E e)) (IsInComponentPrime k q e) (same e i)
      (idempotent_prime F O (order_is k q pi es at h).ring x x_in I
      (λ j. E j.0.0) (idempotents k q pi es at h) (split k q pi es at h) (at_e e i))

  over : (e : List ℕ) → In e es → IsInComponentPrime k q e (of_poly (equation_of k q.p) (value k pi))
  over e i =
      (same e i x).1
      (prime_has_p F O (order_is k q pi es at h).ring x x_in (E e) ((split k q pi es at h).within (at_e e i)))

  -- an idempotent isn't in its own prime
  own_out : (e : List ℕ) → In e es → ¬ IsInComponentPrime k q e (function_of k q.p (lifted k.ops q e))
  own_out e i m =
      let Q = classes_ring k q pi es at h in
      let v = at_e e i in
      let n = (component_nilpotent k q pi es at h e (primitive k q pi es at h e i) (E e)).0 m in
      nilpotent_not_invertible Q (Image (scalar k A law)) (algebra k q pi es at h) v.0 v.1
      (reduce k q pi es at h (E e)) n.1 (
        Q.𝟙,
        ap (λ y. Q.◌⊗◌ y v.0) (Q.mul_one _) ∙ ap (λ y. Q.◌⊗◌ y v.0) (reduce_lift k q pi es at h v.0)
            ∙ v.1.idempotent,
      )

  different : (e f : List ℕ) → In e es → In f es → e ≢ f
      → ¬ SameSet (IsInComponentPrime k q e) (IsInComponentPrime k q f)
  different e f i j n s = own_out e i ((s (E e)).1 ((same f j (E e)).1 (go ((split k q pi es at h).orthogonal
      (at_e e i) (at_e f j)))))
    where
      go : (function_of k q.p (lifted k.ops q e) ≡ function_of k q.p (lifted k.ops q f))
          ⊎ Multiple (functions k q.p).ops (of_poly (equation_of k q.p) (value k pi)) (Contains k q.p q.order)
          (function_of k q.p (lifted k.ops q e) ⊗ function_of k q.p (lifted k.ops q f))
          → PrimeAt (functions k q.p).ops (Contains k q.p q.order) (of_poly (equation_of k q.p) (value k pi))
          (function_of k q.p (lifted k.ops q f)) (function_of k q.p (lifted k.ops q e))
      go (inl d) = absurd (n (ap (λ y. y.0) (sym (reduce_lift k q pi es at h (at_e e i).0)
          ∙ ap (reduce k q pi es at h) d ∙ reduce_lift k q pi es at h (at_e f j).0)))
      go (inr m) =
          prime_has_orthogonal F O (order_is k q pi es at h).ring x x_in (E f) (E e)
          ((split k q pi es at h).within (at_e e i)) m

  nilpotent : (z : Functions k q.p) → Contains k q.p q.order z → All (λ e. IsInComponentPrime k q e z) es
      → PowerIn (functions k q.p).ops
      (Multiple (functions k q.p).ops (of_poly (equation_of k q.p) (value k pi)) (Contains k q.p q.order)) z
  nilpotent z z_in m =
      (idempotent_system F O (order_is k q pi es at h).ring x x_in I (λ j. E j.0.0) (idempotents k q pi es at h)
      (split k q pi es at h)).nilpotent z z_in
      (at_components k A law (λ e. IsInComponentPrime k q e z) (λ j. PrimeAt F.ops O x (E j.0.0) z) es
      (primitive k q pi es at h) (λ e i n. (same e i z).0 n) m)

  spanned : (e : List ℕ) → In e es
      → SameSet (IsInComponentPrime k q e)
      (IsSumOfMembers k q.p
      (Radical (functions k q.p).ops (Contains k q.p q.order) (of_poly (equation_of k q.p) (value k pi)))
      (Multiple (functions k q.p).ops (𝟙 ⊕ ⊖ function_of k q.p (lifted k.ops q e)) (Contains k q.p q.order)))
  spanned e i z = (
    λ m. let n = (same e i z).0 m in record {
      left = z ⊗ E e;
      left_in = n.nilpotent;
      right = (𝟙 ⊕ ⊖ E e) ⊗ z;
      right_in = record { quotient = z; quotient_in = n.within; is = refl };
      is = split_part F O (order_is k q pi es at h).ring x x_in (E e) z;
    },
    λ m.
        (same e i z).1
        (prime_of_parts F O (order_is k q pi es at h).ring x x_in (E e) m.left m.right_in.quotient z
        ((split k q pi es at h).within (at_e e i)) ((split k q pi es at h).idempotent (at_e e i)) m.left_in
        m.right_in.quotient_in (m.is ∙ ap (◌⊕◌ m.left) m.right_in.is)),
  )

  pub component_primes : HaveComponentPrimes k q pi es
  component_primes = record {
    maximal =
        all_of_in (λ e. IsMaximalIdeal F.ops O (IsInComponentPrime k q e)) es maximal;
    over = all_of_in (λ e. IsInComponentPrime k q e x) es over;
    different =
        pairs_of_in (λ e f. ¬ SameSet (IsInComponentPrime k q e) (IsInComponentPrime k q f)) es
        (ascending_distinct es h.idempotents.ascending) different;
    nilpotent = nilpotent;
    spanned =
        all_of_in (λ e. SameSet (IsInComponentPrime k q e) (IsSumOfMembers k q.p (Radical F.ops O x)
        (Multiple F.ops (𝟙 ⊕ ⊖ E e) O))) es spanned;
  }
