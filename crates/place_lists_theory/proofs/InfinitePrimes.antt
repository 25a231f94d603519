-- The rows of a prime over the variable, of an order that is maximal at it, span an infinite place.
use Rattle.std.proofs.Common.{◌≡◌, ◌↔◌, [], ◌∷◌, map, subst}
use Rattle.prime_theory.specs.Orders.{MaximalAt}
use Rattle.prime_theory.specs.Primes.{IsPrime}
use Rattle.ff_fields.specs.Field.{CodeField}
use Rattle.ff_poly.specs.Value.{value}
use Rattle.ff_poly.specs.Polynomials.{x_poly}
use Rattle.function_field.specs.declared.side.Side.TheVariants.{Finite, Infinite}
use Rattle.function_field.specs.Functions.{of_poly}
use Rattle.function_field.specs.Places.{Place, IsPlace, IsIn, IsIntegralAt}
use Rattle.function_field.specs.Values.{Functions, functions, setting, function_of, equation_of}
use Rattle.function_field.specs.Curves.{CurveValue, IsCurve}
use Rattle.order_theory.specs.Orders as theory_orders
use Rattle.infinite_theory.proofs.InfiniteOrders.{prime_at_infinity}
use Rattle.infinite_theory.proofs.InfiniteTransport.{x_irreducible}
use Rattle.ideal_theory.specs.Records.{RowSpan}
use Rattle.ideal_theory.proofs.Records.{recorded_prime}
use Rattle.ff_lattice.specs.Lattices.{LatticeValue, Contains, row_elems}
use Rattle.ff_lattice.specs.Orders.{IsOrderLattice}
use Rattle.value_theory.specs.Primes.{PrimeValue, IsPrimeOf}
use Rattle.value_theory.proofs.Bridge.{order_set}
use Rattle.value_theory.proofs.InfiniteLattices.{some_inf, image_of, rows_are}
use Rattle.value_theory.proofs.Primes.{recorded, recorded_is}
use Rattle.function_field.specs.PlaceLists.{listed_place}
use Rattle.place_lists_theory.specs.Lists.{listed_prime}
use Rattle.place_lists_theory.proofs.PlacesOfPrimes.{at_infinity}

module _ (k : CodeField) (c : CurveValue) (curve : IsCurve k c) (o : LatticeValue) (order : IsOrderLattice k c.inf o)
    (P : PrimeValue) (prime : IsPrimeOf k c.inf o P) where
  -- the place is that of the rows, and of the members of the order it has those of the prime
  pub record IsPlaceOfRows (M : Place (Functions k c.fin)) : Type 0 where
    pub place : IsPlace (setting k c.fin) M
    pub members :
        (z : Functions k c.inf)
        → Contains k c.inf o z
        → IsIn (setting k c.fin) M (image_of k c curve z)
        ↔ Contains k c.inf P.rows z

  𝓞 : theory_orders.IsOrder (equation_of k c.inf) (Contains k c.inf o)
  𝓞 = order_set k c.inf (some_inf k c curve) o order

  prime_is : IsPrime (functions k c.inf).ops (Contains k c.inf o) (Contains k c.inf P.rows)
  prime_is =
      subst (λ rows. IsPrime (functions k c.inf).ops (Contains k c.inf o) (RowSpan (equation_of k c.inf) rows))
      (recorded_is k c.inf (some_inf k c curve) o order P prime).rows
      (recorded_prime (equation_of k c.inf) (x_poly k) (x_irreducible k) (Contains k c.inf o) 𝓞
      (recorded k c.inf (some_inf k c curve) o order P prime))

  pub place_of_rows : P.p ≡ 0 ∷ 1 ∷ [] → MaximalAt (functions k c.inf).ops (of_poly (equation_of k c.inf) (x_poly k))
      (IsIntegralAt (setting k c.inf) Finite) (Contains k c.inf o)
      → IsPlaceOfRows (listed_place k c Infinite (listed_prime k c Infinite P))
  place_of_rows is maximal =
      let t = prime_at_infinity k c.fin c.inf c.c (image_of k c curve) (at_infinity k c curve) (Contains k c.inf o) 𝓞
      maximal (Contains k c.inf P.rows) prime_is
      (subst (λ w. Contains k c.inf P.rows (of_poly (equation_of k c.inf) (value k w))) is prime.over)
      (map (function_of k c.inf) (row_elems P.rows)) (λ z. (λ m. m, λ m. m)) in
      subst (λ hs. IsPlaceOfRows (record { side = Infinite; generators = hs }))
      (rows_are k c curve P.rows prime.ideal.lattice)
      (record { place = t.0; members = t.1 })
