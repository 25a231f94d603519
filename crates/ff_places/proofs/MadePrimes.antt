-- A prime of an order that is maximal at a polynomial, from its rows, those of its inverse, and its numbers.
use Rattle.std.proofs.Common.{◌≡◌, ◌↔◌, ℕ, suc, List, pos, ◌-ℤ◌, subst}
use Rattle.ring_lemmas.specs.Ring.{CommRing}
use Rattle.ring_theory.specs.Subsets.{IsModule, Product}
use Rattle.ring_theory.proofs.Subsets.{product_least}
use Rattle.prime_theory.specs.Ideals.{SameSet, Inverse, Invertible, Power}
use Rattle.prime_theory.specs.Places.{IsMaximalIdeal}
use Rattle.prime_theory.proofs.Products.{product_monotone}
use Rattle.order_theory.specs.Orders.{IsOrder}
use Rattle.ff_fields.specs.Field.{CodeField}
use Rattle.ff_poly.specs.Value.{value}
use Rattle.function_field.specs.declared.side.Side.{Side}
use Rattle.function_field.specs.Functions.{of_poly}
use Rattle.function_field.specs.Values.{PresValue, Functions, functions, equation_of}
use Rattle.ff_lattice.specs.Lattices.{LatticeValue, IsLatticeValue, Contains, pivot_degree_of}
use Rattle.ff_lattice.specs.Colons.{IsColon}
use Rattle.ff_lattice.specs.Quotients.{IsIdealLattice}
use Rattle.value_theory.specs.Primes.{IsPrimeOf}
use Rattle.value_theory.proofs.Bridge.{order_set}
use Rattle.decomposition_theory.specs.Decompositions.{IsMaximalOrderAt}
use Rattle.decomposition_theory.proofs.InvertiblePrimes.{invertible_prime}

module _ (k : CodeField) (p : PresValue) (o : LatticeValue) (pi : List ℕ) (at : IsMaximalOrderAt k p o pi)
    (m : LatticeValue) (ideal : IsIdealLattice k p o m)
    (maximal : IsMaximalIdeal (functions k p).ops (Contains k p o) (Contains k p m))
    (over : Contains k p m (of_poly (equation_of k p) (value k pi))) (l : LatticeValue)
    (members : (z : Functions k p) → Contains k p l z ↔ IsColon k p o m z) where
  abbrev F : CommRing (Functions k p)
  F = functions k p

  abbrev O : Functions k p → Type 0
  O = Contains k p o

  abbrev M : Functions k p → Type 0
  M = Contains k p m

  abbrev L : Functions k p → Type 0
  L = Contains k p l

  𝓞 : IsOrder (equation_of k p) (Contains k p o)
  𝓞 = order_set k p at.positive o at.order

  𝓜 : IsModule (functions k p).ops (Contains k p o) (Contains k p m)
  𝓜 = record { zero_in = maximal.ideal.zero_in; sum_in = maximal.ideal.sum_in; scale_in = maximal.ideal.scale_in }

  product : SameSet (Product (functions k p).ops (Contains k p m) (Contains k p l)) (Contains k p o)
  product = (invertible_prime k p o m pi at ideal maximal over).product l members

  pub prime_invertible : Invertible (functions k p).ops (Contains k p o) (Contains k p m)
  prime_invertible =
      product_monotone F O 𝓞.ring M L M (Inverse F.ops O M) 𝓜 (λ a a_in. a_in) (λ a a_in. (members a).0 a_in) F.𝟙
      ((product F.𝟙).1 at.order.one_in)

  -- the inverse doesn't lie in the order
  pub inverse_outside : ((z : Functions k p) → L z → O z) → ⊥
  inverse_outside within =
      maximal.proper
      (product_least F O 𝓞.ring M L M 𝓜
      (λ a c a_in c_in. subst M (F.mul_comm c a) (maximal.ideal.scale_in c a (within c c_in) a_in)) F.𝟙
      ((product F.𝟙).1 at.order.one_in))

  pub made_prime : (s : Side) (n e f : ℕ) → IsLatticeValue k.ops p.n l
      → pos f ≡ pivot_degree_of m -ℤ pivot_degree_of o
      → Power (functions k p).ops (Contains k p o) (Contains k p m) e (of_poly (equation_of k p) (value k pi))
      → ¬ Power (functions k p).ops (Contains k p o) (Contains k p m) (suc e) (of_poly (equation_of k p) (value k pi))
      → IsPrimeOf k p o
      (record { side = s; p = pi; number = n; e = e; degree = f; rows = m; inverse = l })
  made_prime s n e f form degree inside not_more = record {
    ideal = ideal;
    inverse_form = form;
    maximal = maximal;
    over = over;
    degree = degree;
    inverse = members;
    product = product;
    ramified = inside;
    not_more = not_more;
  }
