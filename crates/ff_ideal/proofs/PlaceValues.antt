-- The value at a prime of an order of codes is the valuation of its place, on both sides.
use Rattle.std.proofs.Common.{◌≡◌, ◌↔◌, suc, ◌-◌, ◌<◌, sym, ◌∙◌, ap, subst, arith}
use Rattle.std.specs.Prelude.{ℤ}
use Rattle.prime_theory.specs.Ideals.{Inverse, Invertible}
use Rattle.prime_theory.specs.Orders.{MaximalAt}
use Rattle.prime_theory.specs.Primes.{Pair}
use Rattle.prime_theory.proofs.Primes.{ideal_module, pair_of_invertible}
use Rattle.prime_theory.proofs.Products.{product_into, product_monotone}
use Rattle.ff_fields.specs.Field.{CodeField}
use Rattle.ff_fields.specs.Over.{IsOver}
use Rattle.ff_poly.specs.Words.{IsIrreducibleList}
use Rattle.ff_poly.specs.Value.{value}
use Rattle.function_field.specs.declared.side.Side.TheVariants.{Finite, Infinite}
use Rattle.function_field.specs.Functions.{of_poly, over}
use Rattle.function_field.specs.Curves.{CurveValue, IsCurve}
use Rattle.function_field.specs.Infinity.{function_on}
use Rattle.function_field.specs.Places.{Place, IsIn, IsIntegralAt, HasValuation}
use Rattle.function_field.proofs.SameValues.{monic_some}
use Rattle.function_field.specs.Values.{ElemValue, PresValue, IsElem, IsMonicElem, Functions, functions, function_of, equation_of, setting}
use Rattle.infinite_theory.specs.InfiniteMaps.{IsInfiniteMap}
use Rattle.infinite_theory.proofs.InfiniteTransport.{infinite_map}
use Rattle.places_theory.proofs.PresentationMap.{presentation_map}
use Rattle.ff_lattice.specs.Lattices.{LatticeValue, IsLatticeValue, Contains}
use Rattle.ff_lattice.specs.Orders.{IsOrderLattice}
use Rattle.ff_lattice.proofs.Divisors.{monic_value}
use Rattle.ff_lattice.proofs.Elements.{elem_over, in_span_of}
use Rattle.ff_lattice.proofs.Spaces.{codes_row, codes_row_length, codes_row_over, codes_row_poly, read_codes_row}
use Rattle.value_theory.specs.Laws.{row_functions}
use Rattle.value_theory.specs.Primes.{PrimeValue, IsPrimeOf}
use Rattle.value_theory.proofs.Bridge.{order_set, irreducible_value}
use Rattle.value_theory.proofs.InfiniteLattices.{some, infinite_disc}
use Rattle.ff_ideal.specs.Places.{IsPlaceOf, IsInfinitePlaceOf, HasPrimeValue}
use Rattle.ff_ideal.proofs.LatticePrimes.{ring_is, prime_is}
use Rattle.ff_ideal.proofs.PrimePlaces.{finite_value, infinite_value}

-- a member of a lattice as an element
pub record IsElemOf (k : CodeField) (p : PresValue) (z : Functions k p) (w : ElemValue) : Type 0 where
  pub elem : IsElem k.ops p.n w
  pub monic : IsMonicElem w
  pub is : function_of k p w ≡ z

pub member_elem : (k : CodeField) (p : PresValue) → 0 < p.n → (l : LatticeValue) → IsLatticeValue k.ops p.n l
    → (z : Functions k p) → Contains k p l z → (w : ElemValue) × IsElemOf k p z w
member_elem k p positive l form z z_in =
    let some = monic_value k l.den form.den_in form.den_poly form.monic in
    let m = (in_span_of k p l.den some l.rows z).0 z_in in
    let n = suc (p.n - 1) in
    let size : suc (p.n - 1) ≡ p.n = omega arith in
    let num = codes_row k n m.numerator in (
      record { num = num; den = l.den },
      record {
        elem = record {
          one_each = codes_row_length k n m.numerator ∙ size;
          num_over = codes_row_over k n m.numerator;
          den_over = form.den_in;
        };
        monic = record {
          num_poly = codes_row_poly k n m.numerator;
          den_poly = form.den_poly;
          monic = form.monic;
        };
        is =
            elem_over k p l.den some num
            ∙ ap (λ u. over (equation_of k p) u (value k l.den) some) (read_codes_row k n m.numerator) ∙ sym m.is;
      },
    )

module _ (k : CodeField) (p : PresValue) (positive : 0 < p.n) (o : LatticeValue) (order : IsOrderLattice k p o)
    (P : PrimeValue) (prime : IsPrimeOf k p o P) where
  -- a prime of an order is invertible
  pub prime_invertible : Invertible (functions k p).ops (Contains k p o) (Contains k p P.rows)
  prime_invertible =
      let 𝓞 = ring_is k p positive o P.rows order prime.ideal.lattice prime.maximal in
      product_monotone (functions k p) (Contains k p o) 𝓞 (Contains k p P.rows) (Contains k p P.inverse)
      (Contains k p P.rows) (Inverse (functions k p).ops (Contains k p o) (Contains k p P.rows))
      (ideal_module (functions k p) (Contains k p o) 𝓞 (Contains k p P.rows) prime.maximal.ideal)
      (λ a m. m) (λ a. (prime.inverse a).0) (functions k p).𝟙 ((prime.product (functions k p).𝟙).1 order.one_in)

  -- so that its inverse isn't within the order
  pub inverse_outside : ¬ ((z : Functions k p) → Contains k p P.inverse z → Contains k p o z)
  inverse_outside within =
      prime.maximal.proper
      (product_into (functions k p) (Contains k p P.rows) (Contains k p P.inverse) (Contains k p P.rows)
      (record { zero_in = prime.maximal.ideal.zero_in; sum_in = prime.maximal.ideal.sum_in })
      (λ a b m n. subst (Contains k p P.rows) ((functions k p).mul_comm b a)
      (prime.maximal.ideal.scale_in b a (within b n) m))
      (functions k p).𝟙 ((prime.product (functions k p).𝟙).1 order.one_in))

  pub prime_pair : Pair (functions k p).ops (Contains k p o) (Contains k p P.rows)
  prime_pair =
      pair_of_invertible (functions k p) (Contains k p o)
      (ring_is k p positive o P.rows order prime.ideal.lattice prime.maximal) (Contains k p P.rows)
      (prime_is k p positive o P.rows order prime.ideal.lattice prime.maximal) prime_invertible

  module _ (poly_in : IsOver k.ops P.p) (irreducible : IsIrreducibleList k.ops P.p)
      (maximal : MaximalAt (functions k p).ops (of_poly (equation_of k p) (value k P.p))
      (IsIntegralAt (setting k p) Finite) (Contains k p o))
      (z : Functions k p) (m : ℤ) (is : HasPrimeValue k p o P.rows z m) where
    -- so that the valuation of its place is its value
    pub place_value : (M : Place (Functions k p)) → IsPlaceOf k p o P M → HasValuation (setting k p) M z m
    place_value M h =
        finite_value (equation_of k p) (value k P.p) (irreducible_value k P.p poly_in irreducible) (Contains k p o)
        (order_set k p positive o order) maximal (Contains k p P.rows)
        (prime_is k p positive o P.rows order prime.ideal.lattice prime.maximal) prime_pair M h.place h.over h.members
        z m (is prime_pair)

-- what is known of a prime and a value at it
pub record IsValuedAt (k : CodeField) (p : PresValue) (o : LatticeValue) (P : PrimeValue) (z : ElemValue) (m : ℤ) :
    Type 0 where
  pub positive : 0 < p.n
  pub order : IsOrderLattice k p o
  pub prime : IsPrimeOf k p o P
  pub maximal : MaximalAt (functions k p).ops (of_poly (equation_of k p) (value k P.p))
      (IsIntegralAt (setting k p) Finite) (Contains k p o)
  pub elem : IsElem k.ops p.n z
  pub value_is : HasPrimeValue k p o P.rows (function_of k p z) m

module _ (k : CodeField) (c : CurveValue) (curve : IsCurve k c) (o : LatticeValue) (P : PrimeValue) (z : ElemValue)
    (monic : IsMonicElem z) (m : ℤ) where
  abbrev q : PresValue
  q = c.inf

  abbrev f : Functions k c.inf → Functions k c.fin
  f = presentation_map k c.fin c.inf c.c curve.infinite (some k c curve)

  g : IsInfiniteMap k c.fin c.inf c.c (presentation_map k c.fin c.inf c.c curve.infinite (some k c curve))
  g = infinite_map k c.fin c.inf c.c curve.infinite (some k c curve)

  -- on the infinite side
  at_infinity : IsValuedAt k c.inf o P z m → (Q : Place (Functions k c.fin)) → IsInfinitePlaceOf k c o P Q
      → HasValuation (setting k c.fin) Q (function_on k c.fin c.c Infinite z) m
  at_infinity h Q place =
      let t = prime_pair k q h.positive o h.order P h.prime in
      let T = of_poly (equation_of k q) in
      subst (λ w. HasValuation (setting k c.fin) Q w m)
      (g.elements z h.elem monic.den_poly (monic_some z.den monic.monic))
      (infinite_value k c.fin q c.c f g (infinite_disc k c curve) (Contains k q o) (order_set k q h.positive o h.order)
      (subst (λ a. MaximalAt (functions k q).ops (T a) (IsIntegralAt (setting k q) Finite) (Contains k q o)) place.over
      h.maximal)
      (Contains k q P.rows)
      (prime_is k q h.positive o P.rows h.order h.prime.ideal.lattice h.prime.maximal)
      (subst (λ a. Contains k q P.rows (T a)) place.over h.prime.over)
      (row_functions k q P.rows) (λ u. (λ n. n, λ n. n)) t Q place.place place.side members (function_of k q z) m
      (h.value_is t))
    where
      members : (u : Functions k c.inf) → Contains k c.inf o u → IsIn (setting k c.fin) Q (f u)
          ↔ Contains k c.inf P.rows u
      members u u_in =
          let w = member_elem k q h.positive o h.order.lattice u u_in in
          let e = w.1 in
          let image : f (function_of k q w.0) ≡ function_on k c.fin c.c Infinite w.0
          = g.elements w.0 e.elem e.monic.den_poly (monic_some w.0.den e.monic.monic) in
          subst (λ v. IsIn (setting k c.fin) Q (f v) ↔ Contains k q P.rows v) e.is
          (subst (λ v. IsIn (setting k c.fin) Q v ↔ Contains k q P.rows (function_of k q w.0)) (sym image)
          (place.members w.0 e.elem e.monic (subst (Contains k q o) (sym e.is) u_in)))

  pub infinite_place_value : (p : PresValue) → c.inf ≡ p → IsValuedAt k p o P z m → (Q : Place (Functions k c.fin))
      → IsInfinitePlaceOf k c o P Q
      → HasValuation (setting k c.fin) Q (function_on k c.fin c.c Infinite z) m
  infinite_place_value p e h = at_infinity (subst (λ p. IsValuedAt k p o P z m) (sym e) h)
