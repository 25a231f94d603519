-- A polynomial has one factorisation.
use Rattle.std.proofs.Common.{◌≡◌, ℕ, zero, suc, ◌≤◌, ◌⊎◌, inl, inr, List, [], ◌∷◌, All, refl, sym, ap, ap₂, ◌∙◌, subst, arith}
use Rattle.std.proofs.lemmas.List.Elements.{All-head, All-tail}
use Rattle.ring_lemmas.specs.Ring.{CommRing, pow}
use Rattle.ring_theory.specs.Members.{In}
use Rattle.ring_lemmas.proofs.Ring.{one_mul}
use Rattle.ff_fields.specs.Field.{CodeField}
use Rattle.ff_fields.specs.Over.{IsOver, IsOver_nil, IsOver_cons}
use Rattle.linear_theory.specs.Euclidean.{IsDivisorIn, IsUnit}
use Rattle.linear_theory.proofs.Euclid.{divisor_product, order_unique}
use Rattle.ff_poly.specs.Words.{IsIrreducibleList}
use Rattle.ff_poly.specs.Value.{value}
use Rattle.ff_poly.specs.Polynomials.{Polynomial, polynomials, constant_poly}
use Rattle.ff_factor.specs.LowestTerms.{HasFactorsOf}
use Rattle.ff_factor.specs.Factors.{FactorsValue, IsFactorisation, IsBeforePoly, AreAscendingPolys, polys_of}
use Rattle.polynomial_theory.proofs.ListValues.{same_lists}
use Rattle.ff_factor.specs.Pulls.{value_of_parts}
use Rattle.polynomial_theory.proofs.Division.{euclidean}
use Rattle.ff_factor.proofs.Factorisations.{code_inverts}
use Rattle.polynomial_theory.proofs.IrreducibleDivisors.{irreducible_unique}
use Rattle.polynomial_theory.proofs.Divisors.{divisor_of_divides}
use Rattle.polynomial_theory.proofs.Irreducible.{irreducible, prime}
use Rattle.ff_factor.proofs.LowestTerms.{IsPrime, of_codes, prime_or_unit}
use Rattle.ff_factor.proofs.LowerTerms.{den_parts}
use Rattle.ff_factor.proofs.Orders.{before_trans, before_irreflexive}
use Rattle.ff_factor.proofs.SplitSteps.{in_of_all, of_parts}

-- ascending lists with the same members are equal
one_order : (ps qs : List (List ℕ)) → AreAscendingPolys ps → AreAscendingPolys qs → ((x : List ℕ) → In x ps → In x qs)
    → ((x : List ℕ) → In x qs → In x ps) → ps ≡ qs
one_order [] [] p_up q_up to back = refl
one_order [] (q ∷ qs) p_up q_up to back = absurd (back q (inl refl))
one_order (p ∷ ps) [] p_up q_up to back = absurd (to p (inl refl))
one_order (p ∷ ps) (q ∷ qs) p_up q_up to back =
    ap₂ ◌∷◌ first (one_order ps qs p_up.1 q_up.1 (inner p q ps qs first p_up.0 to)
    (inner q p qs ps (sym first) q_up.0 back))
  where
    heads : (p ≡ q) ⊎ In p qs → (q ≡ p) ⊎ In q ps → p ≡ q
    heads (inl e) other = e
    heads (inr i) (inl e) = sym e
    heads (inr i) (inr j) =
        absurd (before_irreflexive p (before_trans p q p (in_of_all (IsBeforePoly p) ps p_up.0 q j)
        (in_of_all (IsBeforePoly q) qs q_up.0 p i)))

    first : p ≡ q
    first = heads (to p (inl refl)) (back q (inl refl))

    inner : (p q : List ℕ) (ps qs : List (List ℕ)) → p ≡ q → All (IsBeforePoly p) ps
        → ((x : List ℕ) → In x (p ∷ ps) → In x (q ∷ qs)) → (x : List ℕ) → In x ps → In x qs
    inner p q ps qs same up to x i = go (to x (inr i))
      where
        go : (x ≡ q) ⊎ In x qs → In x qs
        go (inl e) = absurd (before_irreflexive p
            (subst (IsBeforePoly p) (e ∙ sym same) (in_of_all (IsBeforePoly p) ps up x i)))
        go (inr j) = j

module _ (k : CodeField) where
  infixl 65 ◌⊕◌
  infixl 70 ◌⊗◌
  open polynomials k use {𝟘, 𝟙, ◌⊕◌, ◌⊗◌}

  abbrev P : CommRing (Polynomial k)
  P = (polynomials k).ring

  nonunit : (p : List ℕ) → IsPrime k p → ¬ IsUnit P.ops (value k p)
  nonunit p h = (irreducible k (value k p) (of_codes k p h)).nonunit

  -- a polynomial of the parts divides their product
  member_divides : (fs : List (List ℕ × ℕ)) → All (λ f. 1 ≤ f.1) fs → (p : List ℕ) → In p (polys_of fs)
      → IsDivisorIn P.ops (value k p) (value_of_parts k fs)
  member_divides [] exponents p i = absurd i
  member_divides (f ∷ fs) exponents p (inl e) =
      subst (λ x. IsDivisorIn P.ops (value k x) (value_of_parts k (f ∷ fs))) (sym e)
      (divisor_product P (value k f.0) (pow P.ops (value k f.0) f.1) (value_of_parts k fs)
      (power f.1 (All-head (λ f. 1 ≤ f.1) f fs exponents)))
    where
      power : (n : ℕ) → 1 ≤ n → IsDivisorIn P.ops (value k f.0) (pow P.ops (value k f.0) n)
      power zero l = absurd (omega arith)
      power (suc n) l = (pow P.ops (value k f.0) n, refl)
  member_divides (f ∷ fs) exponents p (inr i) =
      let d = member_divides fs (All-tail (λ f. 1 ≤ f.1) f fs exponents) p i in
      subst (IsDivisorIn P.ops (value k p)) (P.mul_comm (value_of_parts k fs) (pow P.ops (value k f.0) f.1))
      (divisor_product P (value k p) (value_of_parts k fs) (pow P.ops (value k f.0) f.1) d)

  -- each irreducible divisor is a part
  listed : (g : List ℕ) (b : FactorsValue) → IsFactorisation k.ops g b → (x : List ℕ) → IsPrime k x
      → IsDivisorIn P.ops (value k x) (value k g) → In x (polys_of b.parts)
  listed g b j x h d =
      go (prime_or_unit k b.parts others (constant_poly k b.unit) (
        constant_poly k (k.inv b.unit),
        P.mul_comm (constant_poly k b.unit) (constant_poly k (k.inv b.unit))
            ∙ code_inverts k b.unit j.unit_in j.unit_some,
      )
      (value k x) (subst (IsDivisorIn P.ops (value k x)) (den_parts k g b j) d))
    where
      others : (p : List ℕ) → In p (polys_of b.parts) → IsPrime k p
      others p l = record {
        over = in_of_all (IsOver k.ops) (polys_of b.parts) j.over p l;
        irreducible = in_of_all
            (IsIrreducibleList k.ops) (polys_of b.parts) j.irreducible p l;
      }

      go : ((p : List ℕ) × In p (polys_of b.parts) × IsDivisorIn P.ops (value k p) (value k x))
          ⊎ IsUnit P.ops (value k x) → In x (polys_of b.parts)
      go (inl r) = subst (λ y. In y (polys_of b.parts))
          (irreducible_unique k r.0 x (others r.0 r.1).over (others r.0 r.1).irreducible h.over h.irreducible r.2) r.1
      go (inr u) = absurd (nonunit x h u)

  pub has_factors : (g : List ℕ) (b : FactorsValue) → IsFactorisation k.ops g b
      → HasFactorsOf k.ops (polys_of b.parts) g
  has_factors g b j p p_in p_irreducible d =
      listed g b j p (record { over = p_in; irreducible = p_irreducible })
      (value k d.quotient, divisor_of_divides k p g p_in d)

  -- the primes of one factorisation are those of the other
  same_primes : (g : List ℕ) (a b : FactorsValue) → IsFactorisation k.ops g a → IsFactorisation k.ops g b → (x : List ℕ)
      → In x (polys_of a.parts) → In x (polys_of b.parts)
  same_primes g a b h j x i =
      listed g b j x
      (record {
        over = in_of_all (IsOver k.ops) (polys_of a.parts) h.over x i;
        irreducible = in_of_all
            (IsIrreducibleList k.ops) (polys_of a.parts) h.irreducible x i;
      })
      (subst (IsDivisorIn P.ops (value k x)) (sym (den_parts k g a h))
      (divisor_product P (value k x) (value_of_parts k a.parts) (constant_poly k a.unit)
      (member_divides a.parts h.exponents x i)))

  -- a prime that isn't among the parts divides no product of their powers and a unit
  free_of : (p : List ℕ) → IsPrime k p → (fs : List (List ℕ × ℕ)) → ((q : List ℕ) → In q (polys_of fs) → IsPrime k q)
      → All (IsBeforePoly p) (polys_of fs)
      → (u : Polynomial k) → IsUnit P.ops u → ¬ IsDivisorIn P.ops (value k p) (value_of_parts k fs ⊗ u)
  free_of p h fs primes after u unit d = go (prime k (value k p) (of_codes k p h) (value_of_parts k fs) u d)
    where
      different : (q : List ℕ) → In q (polys_of fs) → ¬ IsDivisorIn P.ops (value k p) (value k q)
      different q i e =
          before_irreflexive p
          (subst (IsBeforePoly p) (sym (irreducible_unique k p q h.over h.irreducible (primes q i).over
          (primes q i).irreducible e)) (in_of_all (IsBeforePoly p) (polys_of fs) after q i))

      go : IsDivisorIn P.ops (value k p) (value_of_parts k fs) ⊎ IsDivisorIn P.ops (value k p) u → ⊥
      go (inl e) = of_parts k p h.over h.irreducible fs different e
      go (inr e) = nonunit p h (
        e.0 ⊗ unit.0,
        sym (P.mul_assoc (value k p) e.0 unit.0) ∙ ap (λ x. x ⊗ unit.0) (sym e.1)
            ∙ unit.1,
      )

  -- the exponents and the units are the same
  same_exponents : (fs gs : List (List ℕ × ℕ)) (u v : Polynomial k) → polys_of fs ≡ polys_of gs
      → ((q : List ℕ) → In q (polys_of fs) → IsPrime k q) → AreAscendingPolys (polys_of fs)
      → IsUnit P.ops u → IsUnit P.ops v → value_of_parts k fs ⊗ u ≡ value_of_parts k gs ⊗ v → (fs ≡ gs) × (u ≡ v)
  same_exponents [] [] u v polys primes up u_unit v_unit e = (refl, sym (one_mul P u) ∙ e ∙ one_mul P v)
  same_exponents [] (g ∷ gs) u v polys primes up u_unit v_unit e = let none : [] ≡ g.0 ∷ polys_of gs = polys in absurd
      (cc)
  same_exponents (f ∷ fs) [] u v polys primes up u_unit v_unit e = let none : f.0 ∷ polys_of fs ≡ [] = polys in absurd
      (cc)
  same_exponents (f ∷ fs) (g ∷ gs) u v polys primes up u_unit v_unit e =
      let whole : f.0 ∷ polys_of fs ≡ g.0 ∷ polys_of gs = polys in
      let first : f.0 ≡ g.0 = cc in
      let rest : polys_of fs ≡ polys_of gs = cc in
      let p_prime = primes f.0 (inl refl) in
      let r = order_unique (euclidean k) (value k f.0) (irreducible k (value k f.0) (of_codes k f.0 p_prime)) f.1 g.1
      (value_of_parts k fs ⊗ u) (value_of_parts k gs ⊗ v)
      (free_of f.0 p_prime fs (λ q i. primes q (inr i)) up.0 u u_unit)
      (free_of f.0 p_prime gs (λ q i. primes q (inr (subst (In q) (sym rest) i)))
      (subst (All (IsBeforePoly f.0)) rest up.0) v v_unit)
      (sym (P.mul_assoc (pow P.ops (value k f.0) f.1) (value_of_parts k fs) u) ∙ e
      ∙ ap (λ x. pow P.ops (value k x) g.1 ⊗ value_of_parts k gs ⊗ v) (sym first)
      ∙ P.mul_assoc (pow P.ops (value k f.0) g.1) (value_of_parts k gs) v) in
      let s = same_exponents fs gs u v rest (λ q i. primes q (inr i)) up.1 u_unit v_unit r.1 in
      (ap₂ ◌∷◌ (ap₂ (λ x n. (x, n)) first r.0) s.0, s.1)

  pub one_factorisation : (g : List ℕ) (a b : FactorsValue) → IsFactorisation k.ops g a → IsFactorisation k.ops g b
      → a ≡ b
  one_factorisation g a b h j = ap₂ (λ u fs. record { unit = u; parts = fs }) units both.0
    where
      both : (a.parts ≡ b.parts) × (constant_poly k a.unit ≡ constant_poly k b.unit)
      both =
          same_exponents a.parts b.parts (constant_poly k a.unit) (constant_poly k b.unit)
          (one_order (polys_of a.parts) (polys_of b.parts) h.ascending j.ascending (same_primes g a b h j)
          (same_primes g b a j h))
          (λ q i. record {
            over = in_of_all (IsOver k.ops) (polys_of a.parts) h.over q i;
            irreducible = in_of_all
                (IsIrreducibleList k.ops) (polys_of a.parts) h.irreducible q i;
          })
          h.ascending (
            constant_poly k (k.inv a.unit),
            P.mul_comm (constant_poly k a.unit) (constant_poly k (k.inv a.unit))
                ∙ code_inverts k a.unit h.unit_in h.unit_some,
          ) (
            constant_poly k (k.inv b.unit),
            P.mul_comm (constant_poly k b.unit) (constant_poly k (k.inv b.unit))
                ∙ code_inverts k b.unit j.unit_in j.unit_some,
          )
          (sym (den_parts k g a h) ∙ den_parts k g b j)

      units : a.unit ≡ b.unit
      units =
          let same : a.unit ∷ [] ≡ b.unit ∷ []
          = same_lists k (a.unit ∷ []) (b.unit ∷ []) (IsOver_cons h.unit_in IsOver_nil)
          (IsOver_cons j.unit_in IsOver_nil) refl both.1 in
          (cc)
