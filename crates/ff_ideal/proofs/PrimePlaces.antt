-- The value at a prime of an order that is maximal at its polynomial is the valuation of the place that has, of the
-- members of the order, those of the prime: on the finite side and, over k[t], on the infinite one.
use Rattle.std.proofs.Common.{◌≡◌, ◌↔◌, ◌⊎◌, inl, inr, ℕ, List, map}
use Rattle.std.specs.Prelude.{ℤ}
use Rattle.ring_theory.specs.Subsets.{Span}
use Rattle.prime_theory.specs.Ideals.{SameSet}
use Rattle.prime_theory.specs.IntegerValues.{ValueIs}
use Rattle.prime_theory.specs.Orders.{MaximalAt}
use Rattle.prime_theory.specs.Primes.{IsPrime, Pair}
use Rattle.ff_fields.specs.Field.{CodeField}
use Rattle.ff_poly.specs.Words.{IsIrreducibleList}
use Rattle.ff_poly.specs.Polynomials.{Polynomial, polynomials, codes_of, x_poly}
use Rattle.function_field.specs.declared.side.Side.TheVariants.{Finite, Infinite}
use Rattle.function_field.specs.Discriminant.{discriminant}
use Rattle.function_field.specs.Places.{Place, IsPlace, IsIn, IsIntegralAt, LiesOver, HasValuation}
use Rattle.function_field.specs.Functions.{Equation, FunctionOf, ring_of, of_poly, IsPolynomial, setting_of}
use Rattle.function_field.specs.Values.{PresValue, Functions, functions, setting, equation_of}
use Rattle.function_field.proofs.ScalarRings.{scalars_subring}
use Rattle.places_theory.specs.Orders.{IsOrderAt, InPrime}
use Rattle.places_theory.proofs.PlaceValues.{valuation_iff}
use Rattle.order_theory.specs.Orders.{IsOrder, IsPrimeTo}
use Rattle.order_theory.proofs.FinitePlaces.{finite}
use Rattle.order_theory.proofs.LocalOrders.{maximal_order_at}
use Rattle.order_theory.proofs.PlaceEntries.{outside_same}
use Rattle.infinite_theory.specs.InfiniteMaps.{IsInfiniteMap}
use Rattle.infinite_theory.proofs.PrimeValues.{value_at_infinity}
use Rattle.infinite_theory.proofs.PulledPrimes.{every_prime}
use Rattle.infinite_theory.proofs.SamePlaceValues.{value_same}
use Rattle.ideal_theory.proofs.PowerValues.{on_side}

module _ {k : CodeField} (c : Equation k) (p : Polynomial k) (h : IsIrreducibleList k.ops (codes_of k p))
    (O : FunctionOf c → Type 0) (𝓞 : IsOrder c O)
    (maximal : MaximalAt (ring_of c).ops (of_poly c p) (IsIntegralAt (setting_of c) Finite) O)
    (P : FunctionOf c → Type 0) (𝓟 : IsPrime (ring_of c).ops O P) (t : Pair (ring_of c).ops O P) where
  order : IsOrderAt (setting_of c) Finite (IsPolynomial c) (IsPrimeTo c p) (of_poly c p) O
  order = maximal_order_at c p h O 𝓞 maximal

  module _ (gs : List (FunctionOf c)) (place : IsPlace (setting_of c) (finite c gs))
      (p_in : IsIn (setting_of c) (finite c gs) (of_poly c p))
      (members : (z : FunctionOf c) → O z → IsIn (setting_of c) (finite c gs) z ↔ P z) where
    in_prime : SameSet P (InPrime (setting_of c) (finite c gs) O)
    in_prime z = (
      λ m. let z_in = 𝓟.ideal.within z m in (z_in, (members z z_in).1 m),
      λ m. (members z m.0).0 m.1,
    )

    decided : (u : FunctionOf c) → O u → IsIn (setting_of c) (finite c gs) u
        ⊎ (¬ (IsIn (setting_of c) (finite c gs) u))
    decided u u_in =
        elim (𝓟.decide u u_in)
        [ inl m ↦ inl ((members u u_in).1 m) | inr n ↦ inr (λ m. n ((members u u_in).0 m)) ]

    pair : Pair (ring_of c).ops O (InPrime (setting_of c) (finite c gs) O)
    pair = record {
      tau = t.tau;
      tau_in = (in_prime t.tau).0 t.tau_in;
      gamma = t.gamma;
      gamma_in = λ y m. t.gamma_in y ((in_prime y).1 m);
      outside = outside_same O P (InPrime (setting_of c) (finite c gs) O) in_prime _ t.outside;
    }

    finite_value_at : (z : FunctionOf c) (m : ℤ) → ValueIs (ring_of c).ops O P t z m
        → HasValuation (setting_of c) (finite c gs) z m
    unfolding pair
    finite_value_at z m v =
        (valuation_iff (setting_of c) (scalars_subring c) (finite c gs) place (IsPolynomial c) (IsPrimeTo c p) O
        (of_poly c p) order p_in decided pair z m).1
        (record {
          unit = v.unit;
          unit_out = outside_same O P (InPrime (setting_of c) (finite c gs) O) in_prime _ v.unit_out;
          inside = outside_same O P (InPrime (setting_of c) (finite c gs) O) in_prime _ v.inside;
        })

  pub finite_value : (M : Place (FunctionOf c)) → IsPlace (setting_of c) M
      → LiesOver (setting_of c) M (of_poly c p) → ((z : FunctionOf c) → O z → IsIn (setting_of c) M z ↔ P z)
      → (z : FunctionOf c) (m : ℤ) → ValueIs (ring_of c).ops O P t z m → HasValuation (setting_of c) M z m
  finite_value M place over members z m v =
      on_side (setting_of c) (scalars_subring c) Finite
      (λ M. IsPlace (setting_of c) M → IsIn (setting_of c) M (of_poly c p)
      → ((z : FunctionOf c) → O z → IsIn (setting_of c) M z ↔ P z) → HasValuation (setting_of c) M z m)
      (λ gs place p_in members. finite_value_at gs place p_in members z m v) M over.side place over.member members

module _ (k : CodeField) (p q : PresValue) (c : ℕ) (f : Functions k q → Functions k p) (g : IsInfiniteMap k p q c f)
    (some : ¬ (discriminant (equation_of k q) ≡ (polynomials k).𝟘))
    (O : Functions k q → Type 0) (𝓞 : IsOrder (equation_of k q) O)
    (maximal : MaximalAt (functions k q).ops (of_poly (equation_of k q) (x_poly k))
    (IsIntegralAt (setting k q) Finite) O)
    (P : Functions k q → Type 0) (𝓟 : IsPrime (functions k q).ops O P) (over : P (of_poly (equation_of k q) (x_poly k)))
    (gs : List (Functions k q))
    (spanned : SameSet P (Span (functions k q).ops (IsPolynomial (equation_of k q)) gs))
    (t : Pair (functions k q).ops O P) where
  pub infinite_value : (Q : Place (Functions k p)) → IsPlace (setting k p) Q → Q.side ≡ Infinite
      → ((z : Functions k q) → O z → IsIn (setting k p) Q (f z) ↔ P z)
      → (z : Functions k q) (m : ℤ) → ValueIs (functions k q).ops O P t z m → HasValuation (setting k p) Q (f z) m
  infinite_value Q place side members z m v =
      on_side (setting k p) (scalars_subring (equation_of k p)) Infinite
      (λ Q. IsPlace (setting k p) Q → Q.side ≡ Infinite
      → ((z : Functions k q) → O z → IsIn (setting k p) Q (f z) ↔ P z) → HasValuation (setting k p) Q (f z) m)
      (λ ws place side members.
      let same = (every_prime k p q c f g O 𝓞 maximal (record { side = Infinite; generators = ws }) place side).3 gs
      (λ u. (
        λ n. (spanned u).0 ((members u n.0).0 n.1),
        λ n. let u_in = (spanned u).1 n in let u_O = 𝓟.ideal.within u u_in in (u_O, (members u u_O).1 u_in),
      )) in
      value_same (setting k p) Infinite (map f gs) ws same.members (f z) m
      ((value_at_infinity k p q c f g O 𝓞 maximal P 𝓟 over gs spanned some t z m).1 v)) Q side place side members
