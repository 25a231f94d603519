-- The order k[t][Y], enlarged at t, has the functions of O_inf that have powers of t as denominators, and spans O_inf.
use Rattle.std.proofs.Common.{◌≡◌, ℕ, ◌↔◌, List, [], ◌∷◌, length, map, sym, ap, subst, arith}
use Rattle.std.specs.Prelude.{Result, Ok, Err, IfOk}
use Rattle.std.specs.declared.alloc.AllocError.{AllocError}
use Rattle.ring_theory.specs.Subsets.{Span}
use Rattle.ff_fields.specs.Field.{CodeField}
use Rattle.ff_fields.specs.Over.{IsOver}
use Rattle.ff_poly.specs.Words.{IsIrreducibleList}
use Rattle.ff_poly.specs.Value.{value}
use Rattle.ff_poly.specs.Polynomials.{polynomials, x_poly}
use Rattle.function_field.specs.declared.side.Side.TheVariants.{Finite, Infinite}
use Rattle.function_field.specs.Functions.{of_poly, IsPolynomial}
use Rattle.function_field.specs.Places.{IsIntegralAt}
use Rattle.function_field.specs.Discriminant.{discriminant}
use Rattle.function_field.specs.Values.{PresValue, Functions, functions, function_of, equation_of, setting}
use Rattle.function_field.specs.Infinity.{function_on, IsPolynomialOn}
use Rattle.function_field.specs.Curves.{CurveValue, IsCurve}
use Rattle.prime_theory.specs.Orders.{MaximalAt}
use Rattle.prime_theory.specs.Ideals.{SameSet}
use Rattle.places_theory.specs.InfiniteSide.{InReverse}
use Rattle.places_theory.proofs.Transport.{span_iff}
use Rattle.trace_theory.specs.Traces.{HasPolynomialCoordinates}
use Rattle.order_theory.specs.Orders as theory
use Rattle.order_theory.specs.Orders.{TakenByPowers}
use Rattle.infinite_theory.specs.Supported.{IsSupportedAt}
use Rattle.infinite_theory.specs.InfiniteMaps.{IsInfiniteMap}
use Rattle.infinite_theory.proofs.InfiniteTransport.{x_irreducible, infinite_map}
use Rattle.infinite_theory.proofs.LocalIntegral.{taken_is_supported, taken_maximal}
use Rattle.infinite_theory.proofs.InfiniteOrders.{infinite_integral, infinite_members}
use Rattle.ff_lattice.specs.Lattices.{LatticeValue, Contains, row_elems}
use Rattle.ff_lattice.specs.Orders.{IsOrderLattice}
use Rattle.value_theory.proofs.Bridge.{order_set}
use Rattle.value_theory.proofs.InfiniteLattices.{image_of, some, some_inf, infinite_disc, rows_are, power_to, power_from}
use Rattle.ff_infinite.proofs.LowZeros.{power_over}
use Rattle.value_theory.specs.IntegralLattices.{IsOverPowerOfT, SpansIntegral, SpansOverPowersOfT, IsIntegralLattice}

-- the list of the variable's codes is an irreducible polynomial
pub variable_irreducible : (k : CodeField) (t : List ℕ) → t ≡ 0 ∷ 1 ∷ [] → IsIrreducibleList k.ops t
variable_irreducible k t is =
    let size : length t ≡ 2 = ap length is in
    record {
      monic = (0 ∷ [], is);
      not_constant = omega (arith, size);
      no_divisor = λ b b_in b_monic long short. absurd (omega (arith, size, long, short));
    }

pub variable_over : (k : CodeField) (t : List ℕ) → t ≡ 0 ∷ 1 ∷ [] → IsOver k.ops t
variable_over k t is = subst (IsOver k.ops) (sym is) (power_over k 1)

module _ (k : CodeField) (c : CurveValue) (curve : IsCurve k c) where
  abbrev f : Functions k c.inf → Functions k c.fin
  f = image_of k c curve

  g : IsInfiniteMap k c.fin c.inf c.c (image_of k c curve)
  g = infinite_map k c.fin c.inf c.c curve.infinite (some k c curve)

  disc_at_infinity : ¬ (discriminant (equation_of k c.inf) ≡ (polynomials k).𝟘)
  disc_at_infinity = infinite_disc k c curve

  module _ (m : LatticeValue) (m_order : IsOrderLattice k c.inf m)
      (members : (z : Functions k c.inf)
      → Contains k c.inf m z ↔ TakenByPowers (equation_of k c.inf) (x_poly k)
      (HasPolynomialCoordinates (equation_of k c.inf)) z) where
    maximal : MaximalAt (functions k c.inf).ops (of_poly (equation_of k c.inf) (x_poly k))
        (IsIntegralAt (setting k c.inf) Finite) (Contains k c.inf m)
    maximal z n integral inside = (members z).1
        (taken_maximal (equation_of k c.inf) (x_poly k) (x_irreducible k) z n integral ((members _).0 inside))

    tame : IsSupportedAt (equation_of k c.inf) (x_poly k) (Contains k c.inf m)
    tame =
        let t = taken_is_supported (equation_of k c.inf) (x_poly k) (x_irreducible k) disc_at_infinity in
        record {
          exponent = t.exponent;
          has = λ i less. (members _).1 (t.has i less);
          within = λ z h. t.within z
              ((members z).0 h);
        }

    order : theory.IsOrder (equation_of k c.inf) (Contains k c.inf m)
    order = order_set k c.inf (some_inf k c curve) m m_order

    itself : SameSet (Contains k c.inf m)
        (Span (functions k c.inf).ops (IsPolynomial (equation_of k c.inf)) (map (function_of k c.inf) (row_elems m)))
    itself z = (λ h. h, λ h. h)

    span : SpansIntegral k c Infinite (map (function_on k c.fin c.c Infinite) (row_elems m))
    span z =
        let w = g.isomorphism.onto z in
        let i = infinite_integral k c.fin c.inf c.c f g (Contains k c.inf m) order maximal
        (map (function_of k c.inf) (row_elems m)) itself w.0 in
        subst (λ y. Span (functions k c.fin).ops ((setting k c.fin).IsScalar Infinite)
        (map (function_on k c.fin c.c Infinite) (row_elems m)) y ↔ IsIntegralAt (setting k c.fin) Infinite y) w.1
        (subst (λ hs. Span (functions k c.fin).ops ((setting k c.fin).IsScalar Infinite) hs (f w.0)
        ↔ IsIntegralAt (setting k c.fin) Infinite (f w.0)) (rows_are k c curve m m_order.lattice) (i.1, i.0))

    whole : SpansOverPowersOfT k c Infinite (map (function_on k c.fin c.c Infinite) (row_elems m))
    whole z =
        let w = g.isomorphism.onto z in
        let s = span_iff (functions k c.inf) (functions k c.fin) f g.isomorphism (IsPolynomial (equation_of k c.inf))
        (InReverse k c.fin) g.polynomials (map (function_of k c.inf) (row_elems m)) w.0 in
        let b = infinite_members k c.fin c.inf c.c f g (Contains k c.inf m) order maximal tame w.0 in
        subst (λ y. Span (functions k c.fin).ops (IsPolynomialOn k c.fin Infinite)
        (map (function_on k c.fin c.c Infinite) (row_elems m)) y
        ↔ (IsIntegralAt (setting k c.fin) Infinite y × IsOverPowerOfT k c y)) w.1
        (subst (λ hs. Span (functions k c.fin).ops (IsPolynomialOn k c.fin Infinite) hs (f w.0)
        ↔ (IsIntegralAt (setting k c.fin) Infinite (f w.0) × IsOverPowerOfT k c (f w.0)))
        (rows_are k c curve m m_order.lattice) (
          λ h. let n = b.0 (s.1 h) in (n.1, power_to k c curve w.0 n.0),
          λ h. s.0 (b.1 (power_from k c curve w.0 h.1, h.0)),
        ))

    pub infinite_lattice : IsIntegralLattice k c Infinite m
    infinite_lattice = record { form = m_order.lattice; span = span; whole = whole }

  -- what an answer for the presentation promises
  abbrev Promise : PresValue → Type 0
  Promise p =
      (t : List ℕ)
      → t ≡ 0 ∷ 1 ∷ []
      → (o : LatticeValue)
      → ((z : Functions k c.inf) → Contains k c.inf o z ↔ HasPolynomialCoordinates (equation_of k c.inf) z)
      → (r : Result LatticeValue AllocError)
      → IfOk r (IsOrderLattice k p)
      → IfOk r (λ m. (z : Functions k p)
      → Contains k p m z ↔ TakenByPowers (equation_of k p) (value k t) (Contains k p o) z)
      → IfOk r (IsIntegralLattice k c Infinite)

  promise : Promise c.inf
  promise t is o start (Ok m) m_order members = infinite_lattice m m_order taken
    where
      taken : (z : Functions k c.inf) → Contains k c.inf m z
          ↔ TakenByPowers (equation_of k c.inf) (x_poly k) (HasPolynomialCoordinates (equation_of k c.inf)) z
      taken z =
          let both = subst (λ a. Contains k c.inf m z
          ↔ TakenByPowers (equation_of k c.inf) (value k a) (Contains k c.inf o) z) is (members z) in (
            λ h. let e = both.0 h in record { in_Int = e.in_Int; exponent = e.exponent; inside = (start _).0 e.inside },
            λ e. both.1 (record { in_Int = e.in_Int; exponent = e.exponent; inside = (start _).1 e.inside }),
          )
  promise t is o start (Err e) m_order members = members

  pub infinite_answer : (p : PresValue) → p ≡ c.inf → Promise p
  infinite_answer p is = subst Promise (sym is) promise

  pub some_disc_at_infinity : (p : PresValue) → p ≡ c.inf → ¬ (discriminant (equation_of k p) ≡ (polynomials k).𝟘)
  some_disc_at_infinity p is = subst (λ q. ¬ (discriminant (equation_of k q) ≡ (polynomials k).𝟘)) (sym is)
      disc_at_infinity
