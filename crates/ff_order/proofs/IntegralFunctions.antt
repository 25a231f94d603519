-- An order that has k[x][y], enlarged at the irreducible polynomials whose squares divide the discriminant, has all
-- integral functions.
use Rattle.std.proofs.Common.{◌≡◌, ◌↔◌, ℕ, ◌<◌, List, [], ◌∷◌, get_or, map, refl, sym, ap, ◌∙◌, subst, All}
use Rattle.std.specs.List.{Any}
use Rattle.std.proofs.lemmas.List.Elements.{All-weaker, All-map}
use Rattle.std.proofs.lemmas.List.{length-map, get_or-map}
use Rattle.ring_lemmas.proofs.Ring.{one_mul}
use Rattle.prime_theory.specs.Orders.{MaximalAt, PowersOf}
use Rattle.linear_theory.specs.Euclidean.{IsDivisorIn}
use Rattle.ff_fields.specs.Field.{CodeField}
use Rattle.ff_fields.specs.Over.{IsOver}
use Rattle.ff_poly.specs.Words.{IsIrreducibleList}
use Rattle.ff_poly.specs.Value.{value}
use Rattle.ff_poly.specs.Polynomials.{Polynomial, polynomials, codes_of}
use Rattle.function_field.specs.declared.side.Side.TheVariants.{Finite}
use Rattle.function_field.specs.Places.{IsIntegralAt}
use Rattle.function_field.specs.Functions.{Equation, FunctionOf, ring_of, of_poly, setting_of}
use Rattle.function_field.specs.Discriminant.{discriminant}
use Rattle.trace_theory.specs.Traces.{HasPolynomialCoordinates, polynomial_product}
use Rattle.trace_theory.proofs.MaximalOrder.{maximal_order}
use Rattle.order_theory.specs.Orders.{IsOrder}
use Rattle.order_theory.proofs.LocalOrders.{order_integral}
use Rattle.order_theory.proofs.Enlargements.{products_maximal}
use Rattle.ff_lattice.proofs.OrderRows.{all_from_map}
use Rattle.ff_order.specs.Enlargements.{TakenByProducts}
use Rattle.value_theory.proofs.Bridge.{irreducible_value}

module _ {k : CodeField} (c : Equation k) where
  abbrev Int : FunctionOf c → Type 0
  Int = IsIntegralAt (setting_of c) Finite

  -- the words of the contract, and those of the theory
  pub products_words : (ps : List (Polynomial k)) (O : FunctionOf c → Type 0) (z : FunctionOf c)
      → TakenByProducts c ps O z
      ↔ (IsIntegralAt (setting_of c) Finite z
      × ((d : FunctionOf c) × PowersOf (ring_of c) (map (of_poly c) ps) d × O ((ring_of c).◌⊗◌ d z)))
  products_words ps O z = (
    λ t. (t.integral, (t.product, t.of_powers, t.inside)),
    λ t. record { integral = t.0; product = t.1.0; of_powers = t.1.1; inside = t.1.2 },
  )

  -- 1 is a product of powers
  one_power : (es : List (FunctionOf c)) → PowersOf (ring_of c) es (ring_of c).𝟙
  one_power [] = refl
  one_power (a ∷ es) = (0, (ring_of c).𝟙, one_power es, sym (one_mul (ring_of c) (ring_of c).𝟙))

  module _ (O M : FunctionOf c → Type 0) (𝓞 : IsOrder c O) (𝓜 : IsOrder c M) (ps : List (Polynomial k))
      (is : (z : FunctionOf c) → M z ↔ TakenByProducts c ps O z) where
    -- it is maximal at each of the polynomials
    pub taken_maximal : All (λ a. MaximalAt (ring_of c).ops a (IsIntegralAt (setting_of c) Finite) M)
        (map (of_poly c) ps)
    taken_maximal =
        products_maximal c (map (of_poly c) ps) O M
        (λ z. let w = products_words ps O z in (λ m. w.0 ((is z).0 m), λ t. (is z).1 (w.1 t)))

    maximal_at : (q : Polynomial k) → Any (λ r. r ≡ q) ps
        → MaximalAt (ring_of c).ops (of_poly c q) (IsIntegralAt (setting_of c) Finite) M
    maximal_at q h = subst At h.4 (subst At h.3
        (all_from_map (of_poly c) (λ a. MaximalAt (ring_of c).ops a Int M) ps taken_maximal h.0 h.1 h.2))
      where
        At : Polynomial k → Type 0
        At r = MaximalAt (ring_of c).ops (of_poly c r) (IsIntegralAt (setting_of c) Finite) M

    -- where the polynomials are all whose squares divide the discriminant, these are all integral functions
    pub all_integral : ((z : FunctionOf c) → HasPolynomialCoordinates c z → O z) → (qs : List (Polynomial k))
        → IsDivisorIn (polynomials k).ops (discriminant c) (polynomial_product k qs)
        → All (λ q. IsIrreducibleList k.ops (codes_of k q)) qs
        → All (λ q. IsDivisorIn (polynomials k).ops ((polynomials k).◌⊗◌ q q) (discriminant c) → Any (λ r. r ≡ q) ps) qs
        → (z : FunctionOf c) → M z ↔ IsIntegralAt (setting_of c) Finite z
    all_integral start qs divides irreducible listed z = (
      λ m. ((is z).0 m).integral,
      maximal_order c M 𝓜.ring contains qs divides irreducible
          (All-weaker (λ q. IsDivisorIn (polynomials k).ops ((polynomials k).◌⊗◌ q q) (discriminant c)
          → Any (λ r. r ≡ q) ps)
          (λ q. IsDivisorIn (polynomials k).ops ((polynomials k).◌⊗◌ q q) (discriminant c)
          → MaximalAt (ring_of c).ops (of_poly c q) (IsIntegralAt (setting_of c) Finite) M)
          (λ q listed d. maximal_at q (listed d)) qs listed) z,
    )
      where
        contains : (z : FunctionOf c) → HasPolynomialCoordinates c z → M z
        contains z h =
            (is z).1
            (record {
              integral = order_integral c O 𝓞 z (start z h);
              product = (ring_of c).𝟙;
              of_powers = one_power (map (of_poly c) ps);
              inside = subst O (sym (one_mul (ring_of c) z)) (start z h);
            })

-- lists of codes and the polynomials that they stand for
module _ (k : CodeField) where
  pub any_value : (qs : List (List ℕ)) (q : List ℕ) → Any (λ r. r ≡ q) qs → Any (λ r. r ≡ value k q) (map (value k) qs)
  any_value qs q (j, r, less, at, is) = (
    j,
    value k r,
    subst (λ n. j < n) (sym (length-map qs (value k))) less,
    get_or-map (value k) qs j r (value k r)
        less ∙ ap (value k) at,
    ap (value k) is,
  )

  pub irreducible_values : (qs : List (List ℕ)) → All (IsOver k.ops) qs → All (IsIrreducibleList k.ops) qs
      → All (λ q. IsIrreducibleList k.ops (codes_of k q)) (map (value k) qs)
  irreducible_values qs over irreducible =
      All-map (λ q. IsIrreducibleList k.ops (codes_of k q)) (value k) qs
      (λ j d less. irreducible_value k (get_or qs j d) (over j d less) (irreducible j d less))

  pub listed_values : (c : Equation k) (primes qs : List (List ℕ))
      → All (λ q. IsDivisorIn (polynomials k).ops ((polynomials k).◌⊗◌ (value k q) (value k q)) (discriminant c)
      → Any (λ r. r ≡ q) primes) qs
      → All (λ q. IsDivisorIn (polynomials k).ops ((polynomials k).◌⊗◌ q q) (discriminant c)
      → Any (λ r. r ≡ q) (map (value k) primes)) (map (value k) qs)
  listed_values c primes qs listed =
      All-map (λ q. IsDivisorIn (polynomials k).ops ((polynomials k).◌⊗◌ q q) (discriminant c)
      → Any (λ r. r ≡ q) (map (value k) primes)) (value k) qs
      (All-weaker (λ q. IsDivisorIn (polynomials k).ops ((polynomials k).◌⊗◌ (value k q) (value k q)) (discriminant c)
      → Any (λ r. r ≡ q) primes)
      (λ q. IsDivisorIn (polynomials k).ops ((polynomials k).◌⊗◌ (value k q) (value k q)) (discriminant c)
      → Any (λ r. r ≡ value k q) (map (value k) primes))
      (λ q find d. any_value primes q (find d)) qs listed)
