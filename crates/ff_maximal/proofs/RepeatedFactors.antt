-- The factors of the discriminant, each as often as its exponent says, and those whose squares divide it.
use Rattle.std.proofs.Common.{◌≡◌, ◌⊎◌, ℕ, zero, suc, ◌+◌, ◌<◌, ◌≤◌, true, false, cond, nat_lt, List, [], ◌∷◌, ◌++◌, length, get_or, map, replicate, inl, inr, refl, sym, ◌∙◌, ap, ap₂, subst, arith, All}
use Rattle.std.specs.List.{Any}
use Rattle.std.proofs.lemmas.List.Elements.{All-nil, All-cons, All-append, All-head, All-tail, All-map, All-weaker, All-replicate}
use Rattle.std.proofs.lemmas.Bool.{cases_lt}
use Rattle.std.proofs.lemmas.Bool.Decides.{nat_tests}
use Rattle.ring_lemmas.specs.Ring.{CommRing, pow}
use Rattle.ring_lemmas.proofs.Ring.{one_mul}
use Rattle.linear_theory.specs.Euclidean.{IsDivisorIn}
use Rattle.ff_fields.specs.Field.{CodeField}
use Rattle.ff_fields.specs.Over.{IsOver, IsOver_nil, IsOver_cons}
use Rattle.ff_poly.specs.Words.{IsIrreducibleList, poly_of}
use Rattle.ff_poly.specs.PolyOver.{IsOver_product_of}
use Rattle.ff_poly.specs.PowerWords.{power_of}
use Rattle.ff_poly.specs.Value.{value, value_product}
use Rattle.ff_poly.specs.Polynomials.{Polynomial, polynomials, codes_of, constant_poly, value_one}
use Rattle.ff_poly.proofs.Parts.{value_multiple}
use Rattle.ff_poly.proofs.PowerRests.{value_power}
use Rattle.ff_factor.specs.Factors.{FactorsValue, IsFactorisation, polys_of, product_of_parts, IsBelow, IsBeforePoly, AreAscendingPolys}
use Rattle.trace_theory.specs.Traces.{polynomial_product}
use Rattle.ff_order.specs.Enlargements.{repeated}
use Rattle.value_theory.proofs.Bridge.{irreducible_value}
use Rattle.ff_order.proofs.IntegralFunctions.{any_value}
use Rattle.ff_order.proofs.SquareParts.{IsPrime, AreDifferent, product_of_powers, square_part}

-- no polynomial comes before itself
below_self : (a : List ℕ) → ¬ IsBelow a a
below_self [] h = h
below_self (x ∷ a) (inl h) = below_self a h
below_self (x ∷ a) (inr h) = absurd (let l = h.1 in omega arith)

before_differs : (a b : List ℕ) → IsBeforePoly a b → ¬ (a ≡ b)
before_differs a b (inl l) e = absurd (omega (arith, l, ap length e))
before_differs a b (inr h) e = below_self b (subst (λ c. IsBelow c b) e h.1)

-- a part with an exponent of 2 or more is among those
pub repeated_has : (fs : List (List ℕ × ℕ)) (i : ℕ) → i < length fs → 2 ≤ (get_or fs i ([], 0)).1
    → Any (λ r. r ≡ (get_or fs i ([], 0)).0) (repeated fs)
repeated_has [] i l h = absurd (omega (arith, l))
repeated_has (f ∷ fs) i l h = go (cases_lt 1 f.1) i l h (λ j m n. repeated_has fs j m n)
  where
    shown : nat_lt 1 f.1 ≡ true → repeated (f ∷ fs) ≡ f.0 ∷ repeated fs
    shown e = ap (λ b. cond b (f.0 ∷ repeated fs) (repeated fs)) e

    hidden : nat_lt 1 f.1 ≡ false → repeated (f ∷ fs) ≡ repeated fs
    hidden e = ap (λ b. cond b (f.0 ∷ repeated fs) (repeated fs)) e

    later : (P : List ℕ → Type 0) (x : List ℕ) (xs : List (List ℕ)) → Any P xs → Any P (x ∷ xs)
    later P x xs (j, y, less, at, is) = (suc j, y, omega arith, at, is)

    go : (1 < f.1) ⊎ (f.1 ≤ 1) → (i : ℕ) → i < length (f ∷ fs) → 2 ≤ (get_or (f ∷ fs) i ([], 0)).1
        → ((j : ℕ) → j < length fs → 2 ≤ (get_or fs j ([], 0)).1 → Any (λ r. r ≡ (get_or fs j ([], 0)).0) (repeated fs))
        → Any (λ r. r ≡ (get_or (f ∷ fs) i ([], 0)).0) (repeated (f ∷ fs))
    go (inl m) zero l h rest = subst (Any (λ r. r ≡ f.0)) (sym (shown (grind (arith, nat_tests))))
        (0, f.0, omega arith, refl, refl)
    go (inl m) (suc i) l h rest =
        subst (Any (λ r. r ≡ (get_or fs i ([], 0)).0)) (sym (shown (grind (arith, nat_tests))))
        (later (λ r. r ≡ (get_or fs i ([], 0)).0) f.0 (repeated fs) (rest i (omega (arith, l)) h))
    go (inr m) zero l h rest = absurd (omega (arith, m, h))
    go (inr m) (suc i) l h rest =
        subst (Any (λ r. r ≡ (get_or fs i ([], 0)).0)) (sym (hidden (grind (arith, nat_tests))))
        (rest i (omega (arith, l)) h)

-- each polynomial as often as its exponent says
pub expanded : List (List ℕ × ℕ) → List (List ℕ)
expanded [] = []
expanded (f ∷ fs) = replicate f.1 f.0 ++ expanded fs

module _ (k : CodeField) where
  abbrev S : CommRing (Polynomial k)
  S = (polynomials k).ring

  pub all_expanded : (P : List ℕ → Type 0) (fs : List (List ℕ × ℕ)) → All P (polys_of fs) → All P (expanded fs)
  unfolding expanded
  all_expanded P [] h = All-nil P
  all_expanded P (f ∷ fs) h =
      All-append P (replicate f.1 f.0) (expanded fs) (All-replicate P f.1 f.0 (All-head P f.0 (polys_of fs) h))
      (all_expanded P fs (All-tail P f.0 (polys_of fs) h))

  -- their product is that of the powers
  powers_product : (e : ℕ) (p : List ℕ) (qs : List (List ℕ))
      → polynomial_product k (map (value k) (replicate e p ++ qs))
      ≡ (polynomials k).◌⊗◌ (pow (polynomials k).ops (value k p) e) (polynomial_product k (map (value k) qs))
  powers_product zero p qs = sym (one_mul S _)
  powers_product (suc e) p qs = ap ((polynomials k).◌⊗◌ (value k p)) (powers_product e p qs) ∙ sym (S.mul_assoc _ _ _)

  expanded_product : (fs : List (List ℕ × ℕ))
      → polynomial_product k (map (value k) (expanded fs)) ≡ product_of_powers k fs
  unfolding expanded product_of_powers
  expanded_product [] = refl
  expanded_product (f ∷ fs) =
      powers_product f.1 f.0 (expanded fs)
      ∙ ap ((polynomials k).◌⊗◌ (pow (polynomials k).ops (value k f.0) f.1)) (expanded_product fs)

  power_over : (a : List ℕ) (e : ℕ) → IsOver k.ops a → IsOver k.ops (power_of k.ops a e)
  power_over a zero a_in = IsOver_cons k.laws.one_below IsOver_nil
  power_over a (suc e) a_in = IsOver_product_of k a_in (power_over a e a_in)

  parts_over : (fs : List (List ℕ × ℕ)) → All (IsOver k.ops) (polys_of fs) → IsOver k.ops (product_of_parts k.ops fs)
  parts_over [] h = IsOver_cons k.laws.one_below IsOver_nil
  parts_over (f ∷ fs) h =
      IsOver_product_of k (power_over f.0 f.1 (All-head (IsOver k.ops) f.0 (polys_of fs) h))
      (parts_over fs (All-tail (IsOver k.ops) f.0 (polys_of fs) h))

  parts_value : (fs : List (List ℕ × ℕ)) → All (IsOver k.ops) (polys_of fs)
      → value k (product_of_parts k.ops fs) ≡ product_of_powers k fs
  unfolding product_of_powers
  parts_value [] h = value_one k
  parts_value (f ∷ fs) h =
      let f_in = All-head (IsOver k.ops) f.0 (polys_of fs) h in
      let rest_in = All-tail (IsOver k.ops) f.0 (polys_of fs) h in
      value_product k (power_of k.ops f.0 f.1) (product_of_parts k.ops fs) (power_over f.0 f.1 f_in)
      (parts_over fs rest_in)
      ∙ ap₂ (polynomials k).◌⊗◌ (value_power k f.0 f.1 f_in) (parts_value fs rest_in)

  different : (fs : List (List ℕ × ℕ)) → All (IsOver k.ops) (polys_of fs) → All (IsIrreducibleList k.ops) (polys_of fs)
      → AreAscendingPolys (polys_of fs) → AreDifferent k fs
  different [] over irreducible ascending = tt
  different (f ∷ fs) over irreducible ascending = (
    record {
      over = All-head (IsOver k.ops) f.0 (polys_of fs) over;
      irreducible = All-head (IsIrreducibleList k.ops) f.0
          (polys_of fs) irreducible;
    },
    others fs (All-tail (IsOver k.ops) f.0 (polys_of fs) over)
        (All-tail (IsIrreducibleList k.ops) f.0 (polys_of fs) irreducible) ascending.0,
    different fs (All-tail (IsOver k.ops) f.0 (polys_of fs) over)
        (All-tail (IsIrreducibleList k.ops) f.0 (polys_of fs) irreducible) ascending.1,
  )
    where
      Other : List ℕ × ℕ → Type 0
      Other g = IsPrime k g.0 × ¬ (f.0 ≡ g.0)

      others : (gs : List (List ℕ × ℕ)) → All (IsOver k.ops) (polys_of gs) → All (IsIrreducibleList k.ops) (polys_of gs)
          → All (IsBeforePoly f.0) (polys_of gs)
          → All (λ (g : List ℕ × ℕ). IsPrime k g.0 × ¬ (f.0 ≡ g.0)) gs
      others [] a b c = All-nil (λ (g : List ℕ × ℕ). IsPrime k g.0 × ¬ (f.0 ≡ g.0))
      others (g ∷ gs) a b c =
          All-cons (λ (g : List ℕ × ℕ). IsPrime k g.0 × ¬ (f.0 ≡ g.0)) g gs (
            record {
              over = All-head (IsOver k.ops) g.0 (polys_of gs) a;
              irreducible = All-head
                  (IsIrreducibleList k.ops) g.0 (polys_of gs) b;
            },
            before_differs f.0 g.0 (All-head (IsBeforePoly f.0) g.0 (polys_of gs) c),
          )
          (others gs (All-tail (IsOver k.ops) g.0 (polys_of gs) a)
          (All-tail (IsIrreducibleList k.ops) g.0 (polys_of gs) b)
          (All-tail (IsBeforePoly f.0) g.0 (polys_of gs) c))

  module _ (d : List ℕ) (f : FactorsValue) (h : IsFactorisation k.ops d f) where
    abbrev u : Polynomial k
    u = constant_poly k f.unit

    abbrev v : Polynomial k
    v = constant_poly k (k.inv f.unit)

    inverse_in : k.inv f.unit < k.size
    inverse_in = k.laws.inv_below f.unit h.unit_in h.unit_some

    unit : (polynomials k).◌⊗◌ (constant_poly k f.unit) (constant_poly k (k.inv f.unit)) ≡ (polynomials k).𝟙
    unit =
        sym (value_multiple k (k.inv f.unit ∷ []) f.unit (IsOver_cons inverse_in IsOver_nil) h.unit_in)
        ∙ ap (λ c. value k (poly_of (c ∷ [])))
        (k.laws.mul_comm f.unit (k.inv f.unit) h.unit_in inverse_in ∙ k.laws.inv_mul f.unit h.unit_in h.unit_some)
        ∙ value_one k

    whole : value k d ≡ (polynomials k).◌⊗◌ (constant_poly k f.unit) (product_of_powers k f.parts)
    whole =
        ap (value k) (sym h.product) ∙ value_multiple k (product_of_parts k.ops f.parts) f.unit
        (parts_over f.parts h.over) h.unit_in
        ∙ ap ((polynomials k).◌⊗◌ u) (parts_value f.parts h.over)

    -- the polynomial divides the product of its factors
    pub divides_expanded : IsDivisorIn (polynomials k).ops (value k d)
        (polynomial_product k (map (value k) (expanded f.parts)))
    divides_expanded = (
      v,
      expanded_product f.parts
          ∙ sym (one_mul S _) ∙ ap (λ x. (polynomials k).◌⊗◌ x (product_of_powers k f.parts)) (sym unit)
          ∙ turn u v (product_of_powers k f.parts) ∙ ap (λ x. (polynomials k).◌⊗◌ x v) (sym whole),
    )
      where
        turn : (u v w : Polynomial k) → (polynomials k).◌⊗◌ ((polynomials k).◌⊗◌ u v) w
            ≡ (polynomials k).◌⊗◌ ((polynomials k).◌⊗◌ u w) v
        turn u v w = S.mul_assoc u v w ∙ ap ((polynomials k).◌⊗◌ u) (S.mul_comm v w) ∙ sym (S.mul_assoc u w v)

    primes : All (IsPrime k) (expanded f.parts)
    primes =
        all_expanded (IsPrime k) f.parts
        (λ j q less. record { over = h.over j q less; irreducible = h.irreducible j q less })

    pub expanded_irreducible : All (λ Q. IsIrreducibleList k.ops (codes_of k Q)) (map (value k) (expanded f.parts))
    expanded_irreducible =
        All-map (λ Q. IsIrreducibleList k.ops (codes_of k Q)) (value k) (expanded f.parts)
        (All-weaker (IsPrime k) (λ q. IsIrreducibleList k.ops (codes_of k (value k q)))
        (λ q prime. irreducible_value k q prime.over prime.irreducible) (expanded f.parts) primes)

    -- those whose squares divide it are the repeated ones
    pub listed : ¬ (value k d ≡ (polynomials k).𝟘)
        → All (λ Q. IsDivisorIn (polynomials k).ops ((polynomials k).◌⊗◌ Q Q) (value k d)
        → Any (λ r. r ≡ Q) (map (value k) (repeated f.parts))) (map (value k) (expanded f.parts))
    listed some =
        All-map (λ Q. IsDivisorIn (polynomials k).ops ((polynomials k).◌⊗◌ Q Q) (value k d)
        → Any (λ r. r ≡ Q) (map (value k) (repeated f.parts))) (value k) (expanded f.parts)
        (All-weaker (IsPrime k)
        (λ q. IsDivisorIn (polynomials k).ops ((polynomials k).◌⊗◌ (value k q) (value k q)) (value k d)
        → Any (λ r. r ≡ value k q) (map (value k) (repeated f.parts)))
        (λ q prime square.
        let s = square_part k q prime u v (value k d) f.parts (different f.parts h.over h.irreducible h.ascending) unit
        whole some square in
        any_value k (repeated f.parts) q
        (subst (λ r. Any (λ x. x ≡ r) (repeated f.parts)) s.2 (repeated_has f.parts s.0 s.1 s.3)))
        (expanded f.parts) primes)
