-- The words of the private contracts.
use Rattle.std.specs.Prelude.{◌≡◌, ℕ, ◌↔◌, List, map, All}
use Rattle.ff_fields.specs.Field.{CodeField}
use Rattle.ff_poly.specs.Value.{value}
use Rattle.function_field.specs.declared.side.Side.TheVariants.{Finite}
use Rattle.function_field.specs.Places.{IsIntegralAt}
use Rattle.function_field.specs.Functions.{of_poly, setting_of}
use Rattle.function_field.specs.Values.{ElemValue, PresValue, IsElem, Functions, functions, function_of, equation_of}
use Rattle.prime_theory.specs.Ideals.{PowerIn}
use Rattle.prime_theory.specs.Orders.{MaximalAt}
use Rattle.order_theory.specs.Orders.{TakenByPowers}
use Rattle.ff_lattice.specs.Lattices.{LatticeValue, Contains, InSpanOf, IsSumOfMembers}
use Rattle.ff_lattice.specs.Orders.{IsOrderLattice}
use Rattle.ff_lattice.specs.Quotients.{QuotientValue, lifted}
use Rattle.ff_order.specs.Enlargements.{TakenByProducts}

-- the functions of the elements are those that the codes are lifted to
pub record AreLifts (k : CodeField) (q : QuotientValue) (codes : List (List ℕ)) (zs : List ElemValue) : Type 0 where
  pub elems : All (IsElem k.ops q.p.n) zs
  pub functions : map (function_of k q.p) zs ≡ map (λ a. function_of k q.p (lifted k.ops q a)) codes

module _ (k : CodeField) (p : PresValue) where
  -- a member of the order with a power in the ideal
  pub record IsNilpotentModulo (order ideal : LatticeValue) (z : Functions k p) : Type 0 where
    pub within : Contains k p order z
    pub nilpotent : PowerIn (functions k p).ops (Contains k p ideal) z

  -- elements with powers in the ideal; each member of the order with a power in the ideal is a combination of them and
  -- a member of the ideal
  pub record IsNilpotentBasis (order ideal : LatticeValue) (zs : List ElemValue) : Type 0 where
    pub elems : All (IsElem k.ops p.n) zs
    pub nilpotent : All (λ z. IsNilpotentModulo order ideal (function_of k p z)) zs
    pub spanning : (z : Functions k p) → IsNilpotentModulo order ideal z
        → IsSumOfMembers k p (InSpanOf k p zs) (Contains k p ideal) z

  -- an order between o and the integral functions that powers of pi take into o; where it is o, o is maximal at pi
  pub record IsTurn (pi : List ℕ) (o next : LatticeValue) : Type 0 where
    pub order : IsOrderLattice k p next
    pub has : (z : Functions k p) → Contains k p o z → Contains k p next z
    pub taken : (z : Functions k p) → Contains k p next z
        → TakenByPowers (equation_of k p) (value k pi) (Contains k p o) z
    pub last : next ≡ o
        → MaximalAt (functions k p).ops (of_poly (equation_of k p) (value k pi))
        (IsIntegralAt (setting_of (equation_of k p)) Finite) (Contains k p o)

  -- an order between o and the integral functions that powers of pi take into o
  pub record IsBetween (pi : List ℕ) (o cur : LatticeValue) : Type 0 where
    pub order : IsOrderLattice k p cur
    pub has : (z : Functions k p) → Contains k p o z → Contains k p cur z
    pub taken : (z : Functions k p) → Contains k p cur z
        → TakenByPowers (equation_of k p) (value k pi) (Contains k p o) z

  -- an order of the integral functions that products of powers of the polynomials take into o
  pub record IsEnlarged (primes : List (List ℕ)) (o cur : LatticeValue) : Type 0 where
    pub order : IsOrderLattice k p cur
    pub members : (z : Functions k p) → Contains k p cur z
        ↔ TakenByProducts (equation_of k p) (map (value k) primes) (Contains k p o) z
