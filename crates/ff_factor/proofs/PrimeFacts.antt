-- The primes of primitive idempotents are irreducible, different ones don't divide each other, and what none of them
-- divides is a unit modulo g.
use Rattle.std.proofs.Common.{◌≡◌, ℕ, ◌-◌, ◌<◌, ◌≤◌, ◌↔◌, ◌⊎◌, inl, inr, List, [], ◌∷◌, ◌++◌, length, refl, sym, ap, ap₂, ◌∙◌, subst, arith}
use Rattle.std.proofs.lemmas.List.{length_push}
use Rattle.ring_lemmas.specs.Ring.{CommRing}
use Rattle.ring_lemmas.specs.Lists.{add_lists}
use Rattle.ring_lemmas.specs.Congruence.{IsCongruent}
use Rattle.ring_lemmas.proofs.Congruence.{congruent_same, congruent_sym, congruent_trans, congruent_mul, congruent_refl}
use Rattle.ring_theory.proofs.RowMaps.{hom_neg}
use Rattle.ring_theory.specs.Members.{In}
use Rattle.ring_lemmas.proofs.Ring.{mul_zero, zero_add}
use Rattle.ring_lemmas.proofs.Solver.{ring, reads, from_one, from_two}
use Rattle.ring_theory.proofs.Polynomials.{length_product}
use Rattle.ff_fields.specs.Field.{CodeField}
use Rattle.ff_fields.specs.Code.{code_ring, code_domain, raw_ring}
use Rattle.ff_fields.specs.Over.{IsOver}
use Rattle.linear_theory.specs.Euclidean.{IsDivisorIn}
use Rattle.ff_poly.specs.Words.{IsPoly, IsMonicList, IsIrreducibleList, DividesList}
use Rattle.ff_poly.specs.Value.{value}
use Rattle.ff_poly.specs.Polynomials.{value_one, Polynomial, polynomials, codes_of, IsOver_codes_of, IsPoly_codes_of, value_codes_of}
use Rattle.finite_algebra_theory.specs.ByMap.{Image}
use Rattle.finite_algebra_theory.specs.Maximal.{NilpotentAt}
use Rattle.finite_algebra_theory.proofs.Above.{maximal_prime}
use Rattle.finite_algebra_theory.proofs.Maximal.{nilpotent_or_invertible}
use Rattle.ff_falg.specs.Algebras.{IsAlgebra, IsPrimitiveVector, zero_of}
use Rattle.ff_falg.specs.Idempotents.{vector_sum}
use Rattle.ff_falg.proofs.Vectors.{same_vector}
use Rattle.ff_falg.proofs.VectorAlgebra.{scalar, vector_algebra}
use Rattle.ff_factor.specs.Quotients.{IsModulus, product_modulo, quotient_algebra}
use Rattle.ff_factor.specs.Primes.{IsPrimeAt}
use Rattle.ff_factor.specs.QuotientLaws.{quotient_laws, value_product_modulo, value_quotient_unit}
use Rattle.polynomial_theory.proofs.ListValues.{length_value, monic_poly}
use Rattle.ff_factor.proofs.PrimeIdeals.{At, at_maximal, at_nilpotent}
use Rattle.ff_factor.proofs.VectorClasses.{V, ring_of_vectors, primitive_vector, vector_of, vector_of_is, vector_hom, onto, same_classes}
use Rattle.polynomial_theory.proofs.Divisors.{some_value, divisor_of_divides, divides_of_divisor, divisor_refl, divisor_length}

idempotent_less : {A : Type 0} (R : CommRing A) (x : A) → R.◌⊗◌ x x ≡ x → R.◌⊗◌ (R.◌⊕◌ x (R.⊖◌ R.𝟙)) x ≡ R.𝟘
idempotent_less R x i = from_one R R.𝟙 i (ring R (x ∷ []) λ q y. simp (reads, q, y 0) (q.equal _ _ refl))

module _ (k : CodeField) where
  infixl 65 ◌⊕◌
  infixl 70 ◌⊗◌
  infixr 80 ⊖◌
  open polynomials k use {𝟘, 𝟙, ◌⊕◌, ◌⊗◌, ⊖◌}

  abbrev P : CommRing (Polynomial k)
  P = (polynomials k).ring

  module _ (g : List ℕ) (h : IsModulus k.ops g) where
    abbrev law : IsAlgebra k (quotient_algebra g)
    law = quotient_laws k g h

    some : 0 < length g - 1
    some = let l = h.not_constant in omega arith

    abbrev R : CommRing (V k g h)
    R = ring_of_vectors k g h

    abbrev of : Polynomial k → V k g h
    of = vector_of k g h

    -- the multiples of the prime of e are the polynomials that are nilpotent there
    pub generates : (e p : List ℕ) (primitive : IsPrimitiveVector k.ops (quotient_algebra g) e) → IsPrimeAt k.ops g e p
        → (u : Polynomial k) → At k g h e primitive u ↔ IsDivisorIn P.ops (value k p) u
    generates e p primitive is u =
        subst (λ w. At k g h e primitive w ↔ IsDivisorIn P.ops (value k p) w) (value_codes_of k u) (
          λ a. let d = (is.multiples c c_in c_poly).1 ((at_nilpotent k g h e primitive c c_in).0 a) in
              (value k d.quotient, divisor_of_divides k p c is.over d),
          λ d. (at_nilpotent k g h e primitive c c_in).1
              ((is.multiples c c_in c_poly).0 (divides_of_divisor k p c is.over c_in c_poly d)),
        )
      where
        c : List ℕ
        c = codes_of k u

        c_in : IsOver k.ops c
        c_in = IsOver_codes_of k u

        c_poly : IsPoly c
        c_poly = IsPoly_codes_of k u

    pub prime_irreducible : (e p : List ℕ) (primitive : IsPrimitiveVector k.ops (quotient_algebra g) e)
        → IsPrimeAt k.ops g e p → IsIrreducibleList k.ops p
    prime_irreducible e p primitive is = record {
      monic = is.monic;
      not_constant = long;
      no_divisor = none;
    }
      where
        positive : 0 < length p
        positive = let l = ap length is.monic.1 in let m = length_push is.monic.0 1 in omega arith

        p_some : ¬ (value k p ≡ 𝟘)
        p_some = some_value k p is.over (monic_poly k p is.monic) positive

        p_size : length (value k p).0 ≡ length p
        p_size = length_value k p is.over (monic_poly k p is.monic)

        long : 2 ≤ length p
        long = go (one_or_more (length p) positive) is.monic
          where
            one_or_more : (n : ℕ) → 0 < n → (n ≡ 1) ⊎ (2 ≤ n)
            one_or_more n l = grind arith

            single : (m : List ℕ) → p ≡ m ++ 1 ∷ [] → length p ≡ 1 → p ≡ 1 ∷ []
            single [] f l = f
            single (x ∷ m) f l = let a = ap length f in let b = length_push m 1 in absurd (omega arith)

            go : (length p ≡ 1) ⊎ (2 ≤ length p) → IsMonicList p → 2 ≤ length p
            go (inr l) m = l
            go (inl l) m =
                absurd ((at_maximal k g h e primitive).proper
                ((generates e p primitive is 𝟙).1 (unit_divides (single m.0 m.1 l))))
              where
                unit_divides : p ≡ 1 ∷ [] → IsDivisorIn P.ops (value k p) 𝟙
                unit_divides f = (𝟙, sym (P.mul_one (value k p) ∙ ap (value k) f ∙ value_one k))

        none : (b : List ℕ) → IsOver k.ops b → IsMonicList b → 2 ≤ length b → length b < length p → ¬ DividesList k.ops b p
        none b b_in b_monic b_long b_short d =
            go (maximal_prime P (At k g h e primitive) (at_maximal k g h e primitive) B Q
            ((generates e p primitive is (B ⊗ Q)).1
            (subst (IsDivisorIn P.ops (value k p)) whole (divisor_refl k (value k p)))))
          where
            B : Polynomial k
            B = value k b

            Q : Polynomial k
            Q = value k d.quotient

            whole : value k p ≡ B ⊗ Q
            whole = divisor_of_divides k b p b_in d

            b_some : ¬ (B ≡ 𝟘)
            b_some = some_value k b b_in (monic_poly k b b_monic) (omega arith)

            q_some : ¬ (Q ≡ 𝟘)
            q_some z = p_some (whole ∙ ap (λ w. B ⊗ w) z ∙ mul_zero P B)

            b_size : length B.0 ≡ length b
            b_size = length_value k b b_in (monic_poly k b b_monic)

            go : At k g h e primitive B ⊎ At k g h e primitive Q → ⊥
            go (inl a) =
                let l = divisor_length k (value k p) B b_some ((generates e p primitive is B).0 a) in omega
                (arith, b_size, p_size)
            go (inr a) =
                let l = divisor_length k (value k p) Q q_some ((generates e p primitive is Q).0 a) in
                let w : length (value k p).0 ≡ length (B ⊗ Q).0 = ap (λ x. length x.0) whole in
                omega (arith, b_size, p_size, length_product (code_ring k) (code_domain k) B Q b_some q_some)

    -- a prime divides g
    pub prime_divides_modulus : (e p : List ℕ) (primitive : IsPrimitiveVector k.ops (quotient_algebra g) e)
        → IsPrimeAt k.ops g e p
        → IsDivisorIn P.ops (value k p) (value k g)
    prime_divides_modulus e p primitive is =
        (generates e p primitive is (value k g)).0
        (subst (At k g h e primitive) (zero_add P (value k g)) null)
      where
        zero_of_g : of (value k g) ≡ of 𝟘
        zero_of_g =
            same_classes k g h _ _ (value k g) 𝟘 (vector_of_is k g h (value k g)) (vector_of_is k g h 𝟘)
            (record { times = 𝟙; differs = sym (zero_add P (value k g ⊗ 𝟙) ∙ P.mul_one (value k g)) })

        null : At k g h e primitive (𝟘 ⊕ value k g)
        null =
            subst (NilpotentAt R.ops (e, primitive.idempotent.vector))
            (sym (ap of (zero_add P (value k g)) ∙ zero_of_g))
            (at_maximal k g h e primitive).ideal.zero_in

    -- of different idempotents with product 0, the prime of one doesn't divide that of the other
    pub primes_different : (e f p q : List ℕ) (pe : IsPrimitiveVector k.ops (quotient_algebra g) e)
        (pf : IsPrimitiveVector k.ops (quotient_algebra g) f)
        → IsPrimeAt k.ops g e p → IsPrimeAt k.ops g f q → product_modulo k.ops g e f ≡ zero_of (quotient_algebra g)
        → ¬ IsDivisorIn P.ops (value k p) (value k q)
    primes_different e f p q pe pf is_p is_q null d =
        (at_maximal k g h e pe).proper
        (subst (At k g h e pe) (back u) ((at_maximal k g h e pe).ideal.sum_in u (⊖ 𝟙 ⊗ w) at_e
        ((at_maximal k g h e pe).ideal.scale_in (⊖ 𝟙) w tt w_at_e)))
      where
        E : V k g h
        E = (e, pe.idempotent.vector)

        F : V k g h
        F = (f, pf.idempotent.vector)

        ff : R.◌⊗◌ F F ≡ F
        ff = (primitive_vector k (quotient_algebra g) law f pf).idempotent

        o : (u : Polynomial k) × (F ≡ of u)
        o = onto k g h F

        u : Polynomial k
        u = o.0

        w : Polynomial k
        w = u ⊕ ⊖ 𝟙

        back : (u : Polynomial k) → u ⊕ ⊖ 𝟙 ⊗ (u ⊕ ⊖ 𝟙) ≡ 𝟙
        back u = ring P (u ∷ []) λ x y. simp (reads, x, y 0) (x.equal _ _ refl)

        at_e : At k g h e pe u
        at_e =
            subst (NilpotentAt R.ops E) o.1
            (1, R.mul_one _ ∙ R.mul_comm F E ∙ same_vector k (length g - 1) _ _ null)

        w_is : of w ≡ R.◌⊕◌ F (R.⊖◌ R.𝟙)
        w_is =
            (vector_hom k g h).add u (⊖ 𝟙)
            ∙ ap₂ R.◌⊕◌ (sym o.1) (hom_neg P R of (vector_hom k g h) 𝟙 ∙ ap R.⊖◌ (vector_hom k g h).𝟙)

        w_at_f : At k g h f pf w
        w_at_f = (1, R.mul_one _ ∙ ap (λ y. R.◌⊗◌ y F) w_is ∙ idempotent_less R F ff)

        w_at_e : At k g h e pe w
        w_at_e =
            let a = (generates f q pf is_q w).0 w_at_f in
            (generates e p pe is_p w).1 (d.0 ⊗ a.0, a.1 ∙ ap (λ x. x ⊗ a.0) d.1 ∙ P.mul_assoc (value k p) d.0 a.0)

    -- what lies in none of the ideals is invertible on the sum of the idempotents
    over_sum : (r : Polynomial k) (es : List (List ℕ))
        (primitive : (e : List ℕ) → In e es → IsPrimitiveVector k.ops (quotient_algebra g) e)
        → ((e : List ℕ) (i : In e es) → ¬ At k g h e (primitive e i) r)
        → (b : V k g h) × ((R.◌⊗◌ (of r) b).0 ≡ vector_sum k.ops (quotient_algebra g) es)
    over_sum r [] primitive out = (R.𝟘, ap (λ y. y.0) (mul_zero R (of r)))
    over_sum r (e ∷ es) primitive out =
        let rest = over_sum r es (λ f i. primitive f (inr i)) (λ f i. out f (inr i)) in
        let p = primitive e (inl refl) in
        let E : V k g h = (e, p.idempotent.vector) in
        let i = pick (nilpotent_or_invertible R (Image (scalar k (quotient_algebra g) law))
        (vector_algebra k (quotient_algebra g) law some) E (primitive_vector k (quotient_algebra g) law e p)
        (of r)) (out e (inl refl)) in (
          R.◌⊕◌ (R.◌⊗◌ i.0 E) rest.0,
          ap (λ y. y.0) (R.mul_add (of r) (R.◌⊗◌ i.0 E) rest.0
              ∙ ap (λ y. R.◌⊕◌ y (R.◌⊗◌ (of r) rest.0)) (sym (R.mul_assoc (of r) i.0 E) ∙ i.1))
              ∙ ap (add_lists (raw_ring k.ops) e) rest.1,
        )
      where
        pick : {N M : Type 0} → N ⊎ M → ¬ N → M
        pick (inl n) not = absurd (not n)
        pick (inr m) not = m

    -- a divisor of g that lies in none of the ideals is a unit
    pub rest_unit : (r : Polynomial k) (es : List (List ℕ))
        (primitive : (e : List ℕ) → In e es → IsPrimitiveVector k.ops (quotient_algebra g) e)
        → vector_sum k.ops (quotient_algebra g) es ≡ (quotient_algebra g).unit → IsDivisorIn P.ops r (value k g)
        → ((e : List ℕ) (i : In e es) → ¬ At k g h e (primitive e i) r) → (v : Polynomial k) × (r ⊗ v ≡ 𝟙)
    rest_unit r es primitive sum d out =
        let b = over_sum r es primitive out in
        let B = value k b.0.0 in
        let c : IsCongruent P.ops (value k g) (r ⊗ B) 𝟙
        = congruent_trans P (value k g) (r ⊗ B) (value k (of r).0 ⊗ B) 𝟙
        (congruent_mul P (value k g) r (value k (of r).0) B B (congruent_sym P (value k g) _ r (vector_of_is k g h r))
        (congruent_refl P (value k g) B))
        (congruent_trans P (value k g) _ (value k (product_modulo k.ops g (of r).0 b.0.0)) 𝟙
        (congruent_sym P (value k g) _ _ (value_product_modulo k g h (of r).0 b.0.0 (of r).1.over b.0.1))
        (congruent_same P (value k g) _ _ (ap (value k) (b.1 ∙ sum) ∙ value_quotient_unit k g h))) in
        (B ⊕ ⊖ (d.0 ⊗ c.times), from_two P c.times 𝟙 d.1 c.differs (step (value k g) r B d.0 c.times))
      where
        step : (g r b d t : Polynomial k)
            → r ⊗ (b ⊕ ⊖ (d ⊗ t)) ⊕ ⊖ 𝟙 ≡ t ⊗ (g ⊕ ⊖ (r ⊗ d)) ⊕ 𝟙 ⊗ (r ⊗ b ⊕ ⊖ (𝟙 ⊕ g ⊗ t))
        step g r b d t = ring P (g ∷ r ∷ b ∷ d ∷ t ∷ []) λ x y. simp (reads, x, y 0, y 1, y 2, y 3, y 4)
            (x.equal _ _ refl)
