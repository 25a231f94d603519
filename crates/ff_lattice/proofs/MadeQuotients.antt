-- A quotient that is made from its parts.
use Rattle.std.proofs.Common.{ℕ, ◌≤◌, ◌↔◌, List, length, sym, subst, arith, All}
use Rattle.ff_fields.specs.Field.{CodeField}
use Rattle.ff_poly.specs.Popov.{IsRow, IsPopovMatrix}
use Rattle.function_field.specs.Values.{PresValue, IsPresOver, Functions, functions}
use Rattle.ff_lattice.specs.Lattices.{LatticeValue, Contains, InSpanOf, elems_over}
use Rattle.ff_lattice.specs.Orders.{IsOrderLattice}
use Rattle.ff_lattice.specs.PositionLists.{IsDeepest}
use Rattle.ff_lattice.specs.Quotients.{QuotientValue, IsFrame, IsQuotient, IsClassOf, IsIdealLattice, AreCodesOf, AreProducts, codes_of_row}
use Rattle.ff_lattice.proofs.QuotientLaws.{class_of_row}

abbrev pub made_value : List (List (List ℕ)) → ℕ → List (List (List (List ℕ))) → List ℕ → PresValue → LatticeValue
    → LatticeValue → QuotientValue
made_value rows depth products one p order ideal = record
    { p = p; order = order; ideal = ideal; rows = rows; depth = depth; products = products; one = one }

-- the codes of a row that stands for z are those of its class
pub class_of_codes : (k : CodeField) (q : QuotientValue) → IsFrame k q → (z : Functions k q.p) (codes : List ℕ)
    → Contains k q.p q.order z → AreCodesOf k q.p q.order q.rows q.depth z codes → IsClassOf k q z codes
class_of_codes k q frame z codes member h =
    subst (IsClassOf k q z) (sym h.are)
    (subst (λ x. IsClassOf k q x (codes_of_row k.ops q h.row)) h.row_is.is
    (class_of_row k q frame h.row h.row_is.row_in (subst (Contains k q.p q.order) (sym h.row_is.is) member)))

module _ (k : CodeField) (q : QuotientValue) (positive : 1 ≤ q.p.n) (p_in : IsPresOver k.ops q.p)
    (order : IsOrderLattice k q.p q.order) (ideal : IsIdealLattice k q.p q.order q.ideal)
    (rows_in : All (IsRow k.ops q.p.n) q.rows) (popov : IsPopovMatrix q.p.n q.rows)
    (members : (z : Functions k q.p) → Contains k q.p q.ideal z ↔ InSpanOf k q.p (elems_over q.rows q.order.den) z)
    (deep : IsDeepest q.rows q.p.n q.depth) (products : AreProducts k q.p q.order (length q.order.rows) q.products)
  where
    pub made_frame : IsFrame k q
    made_frame =
        let size = order.lattice.popov.size in
        record {
          positive = positive;
          p_in = p_in;
          order = order;
          ideal = ideal;
          rows_in = rows_in;
          rows_popov = popov;
          rows_are = members;
          deep = deep;
          products_size = omega (arith, products.size, size);
          products_each = λ i less. omega (arith, products.each i (omega (arith, less, size)), size);
          products_are = λ i j i_less j_less. products.are i j (omega (arith, i_less, size))
              (omega (arith, j_less, size));
        }

    pub made_quotient : AreCodesOf k q.p q.order q.rows q.depth (functions k q.p).𝟙 q.one → IsQuotient k q
    made_quotient one_is = record {
      frame = made_frame;
      one_is = class_of_codes k q made_frame (functions k q.p).𝟙 q.one
          order.one_in one_is;
    }
