-- A prime over t of an order over k[t] that is maximal at t has the degree and the valuation of the infinite place
-- that it gives.
use Rattle.std.proofs.Common.{◌≡◌, ◌↔◌, ◌⊎◌, inl, inr, ℕ, List, map}
use Rattle.std.specs.Prelude.{ℤ}
use Rattle.ring_theory.specs.Subsets.{Span}
use Rattle.prime_theory.specs.Ideals.{SameSet}
use Rattle.prime_theory.specs.IntegerValues.{ValueIs}
use Rattle.prime_theory.specs.Orders.{MaximalAt}
use Rattle.prime_theory.specs.Primes.{IsPrime, Pair}
use Rattle.ff_fields.specs.Field.{CodeField}
use Rattle.ff_poly.specs.Polynomials.{polynomials, x_poly}
use Rattle.function_field.specs.declared.side.Side.TheVariants.{Finite}
use Rattle.function_field.specs.Functions.{of_poly, IsPolynomial}
use Rattle.function_field.specs.Discriminant.{discriminant}
use Rattle.function_field.specs.Values.{PresValue, Functions, functions, setting, equation_of}
use Rattle.function_field.specs.Places.{IsPlace, IsIn, IsIntegralAt, HasValuation}
use Rattle.function_field.specs.Divisors.{HasDegree}
use Rattle.function_field.proofs.ScalarRings.{scalars_subring}
use Rattle.places_theory.specs.Orders.{IsOrderAt, InPrime}
use Rattle.places_theory.proofs.PlaceValues.{valuation_iff}
use Rattle.function_field.specs.Indices.{HasIndex}
use Rattle.order_theory.specs.Orders.{IsOrder, IsPrimeTo}
use Rattle.order_theory.proofs.Degrees.{classes_of_index}
use Rattle.order_theory.proofs.LocalOrders.{order_integral, order_polynomials, maximal_order_at}
use Rattle.order_theory.proofs.FinitePlaces.{finite}
use Rattle.order_theory.proofs.PlaceEntries.{outside_same}
use Rattle.infinite_theory.specs.InfiniteMaps.{IsInfiniteMap}
use Rattle.infinite_theory.proofs.InfiniteTransport.{x_irreducible}
use Rattle.infinite_theory.proofs.LocalIntegral.{maximal_local}
use Rattle.infinite_theory.proofs.PushedPlaces.{pushed, prime_members, prime_place}
use Rattle.infinite_theory.proofs.PushedDegrees.{prime_degree}
use Rattle.infinite_theory.proofs.PulledPlaces.{rows, to_rows, of_rows, pulled_over, pulled_place, value_down, value_up}

module _ (k : CodeField) (p q : PresValue) (c : ℕ) (f : Functions k q → Functions k p) (g : IsInfiniteMap k p q c f)
    (O : Functions k q → Type 0) (𝓞 : IsOrder (equation_of k q) O)
    (maximal : MaximalAt (functions k q).ops (of_poly (equation_of k q) (x_poly k))
    (IsIntegralAt (setting k q) Finite) O)
    (P : Functions k q → Type 0) (𝓟 : IsPrime (functions k q).ops O P) (over : P (of_poly (equation_of k q) (x_poly k)))
    (gs : List (Functions k q))
    (spanned : SameSet P (Span (functions k q).ops (IsPolynomial (equation_of k q)) gs)) where
  base : (s : Functions k q) → IsPolynomial (equation_of k q) s → O s
  base = order_polynomials (equation_of k q) O 𝓞

  -- its index in the order is the degree of the place
  pub degree_at_infinity : (d : ℕ) → HasIndex (equation_of k q) P O d
      → HasDegree (setting k p) (pushed k p q c f g gs) d
  degree_at_infinity d i =
      prime_degree k p q c f g O P 𝓞.ring base
      (maximal_local (equation_of k q) (x_poly k) (x_irreducible k) O 𝓞 maximal) 𝓟 over gs spanned d
      (classes_of_index (equation_of k q) O P d i)

  place : IsPlace (setting k p) (pushed k p q c f g gs)
  place = prime_place k p q c f g O P 𝓞.ring base
      (maximal_local (equation_of k q) (x_poly k) (x_irreducible k) O 𝓞 maximal) 𝓟 over gs spanned

  members : (z : Functions k q) → O z → IsIn (setting k p) (pushed k p q c f g gs) (f z) ↔ P z
  members =
      prime_members k p q c f g O P 𝓞.ring base
      (maximal_local (equation_of k q) (x_poly k) (x_irreducible k) O 𝓞 maximal) 𝓟 over gs spanned

  module _ (some : ¬ (discriminant (equation_of k q) ≡ (polynomials k).𝟘)) where
    -- the finite place that gives the same infinite place has the members of the prime in the order
    abbrev hs : List (Functions k q)
    hs = rows k p q c f g (map f gs) place some

    in_prime : SameSet P (InPrime (setting k q) (finite (equation_of k q) hs) O)
    in_prime z = (
      λ m. let z_in = 𝓟.ideal.within z m in (
        z_in,
        to_rows k p q c f g (map f gs) place some z
            (order_integral (equation_of k q) O 𝓞 z z_in, (members z z_in).1 m),
      ),
      λ m. (members z m.0).0 (of_rows k p q c f g (map f gs) place some z m.1).1,
    )

    order_at : IsOrderAt (setting k q) Finite (IsPolynomial (equation_of k q))
        (IsPrimeTo (equation_of k q) (x_poly k)) (of_poly (equation_of k q) (x_poly k)) O
    order_at = maximal_order_at (equation_of k q) (x_poly k) (x_irreducible k) O 𝓞 maximal

    decide : (u : Functions k q) → O u → IsIn (setting k q) (finite (equation_of k q) hs) u
        ⊎ (¬ (IsIn (setting k q) (finite (equation_of k q) hs) u))
    decide u u_in =
        elim (𝓟.decide u u_in) [ inl m ↦ inl ((in_prime u).0 m).1 | inr n ↦ inr (λ m. n ((in_prime u).1 (u_in, m))) ]

    back : SameSet (InPrime (setting k q) (finite (equation_of k q) hs) O) P
    back z = ((in_prime z).1, (in_prime z).0)

    module _ (t : Pair (functions k q).ops O P) where
      pair : Pair (functions k q).ops O (InPrime (setting k q) (finite (equation_of k q) hs) O)
      pair = record {
        tau = t.tau;
        tau_in = (in_prime t.tau).0 t.tau_in;
        gamma = t.gamma;
        gamma_in = λ y m. t.gamma_in y ((in_prime y).1 m);
        outside = outside_same O P (InPrime (setting k q) (finite (equation_of k q) hs) O) in_prime _ t.outside;
      }

      -- the valuation of the place is that of the prime
      pub value_at_infinity : (z : Functions k q) (m : ℤ)
          → HasValuation (setting k p) (pushed k p q c f g gs) (f z) m ↔ ValueIs (functions k q).ops O P t z m
      unfolding pair
      value_at_infinity z m =
          let i =
          valuation_iff (setting k q) (scalars_subring (equation_of k q)) (finite (equation_of k q) hs)
          (pulled_place k p q c f g (map f gs) place some)
          (IsPolynomial (equation_of k q)) (IsPrimeTo (equation_of k q) (x_poly k)) O
          (of_poly (equation_of k q) (x_poly k)) order_at
          (pulled_over k p q c f g (map f gs) place some) decide pair z m in (
            λ v. let w = i.0 (value_down k p q c f g (map f gs) place some z m v) in record {
              unit = w.unit;
              unit_out = outside_same O (InPrime (setting k q) (finite (equation_of k q) hs) O) P back _ w.unit_out;
              inside = outside_same O (InPrime (setting k q) (finite (equation_of k q) hs) O) P back _ w.inside;
            },
            λ w.
                value_up k p q c f g (map f gs) place some z m
                (i.1 (record {
                  unit = w.unit;
                  unit_out =
                      outside_same O P (InPrime (setting k q) (finite (equation_of k q) hs) O) in_prime _ w.unit_out;
                  inside = outside_same O P (InPrime (setting k q) (finite (equation_of k q) hs) O) in_prime _ w.inside;
                })),
          )
