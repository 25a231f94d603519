-- The quotient of an order by an ideal: a finite algebra, by lists of codes.
use Rattle.std.specs.Prelude.{◌≡◌, ℕ, ◌*◌, ◌<◌, ◌≤◌, ◌↔◌, List, [], length, get_or, map, max, replicate, All}
use Rattle.ring_lemmas.specs.Lists.{add_lists}
use Rattle.ff_fields.specs.Field.{FieldOps, CodeField}
use Rattle.ff_fields.specs.Code.{raw_ring}
use Rattle.ff_poly.specs.Words.{IsPoly}
use Rattle.ff_poly.specs.Popov.{row_at, longest, IsRow, IsPopovMatrix}
use Rattle.function_field.specs.Values.{ElemValue, PresValue, IsPresOver, Functions, functions, function_of}
use Rattle.ff_falg.specs.Algebras.{AlgebraOps, IsAlgebra, IsVector}
use Rattle.ff_lattice.specs.Lattices.{LatticeValue, IsLatticeValue, Contains, InSpanOf, elems_over}
use Rattle.ff_lattice.specs.Orders.{IsOrderLattice}
use Rattle.ff_lattice.specs.PositionLists.{IsDeepest, code_count, codes_below, spread_onto}

-- a presentation, an order, an ideal, and what the quotient keeps of them
pub record QuotientValue : Type 0 where
  pub p : PresValue
  pub order : LatticeValue
  pub ideal : LatticeValue
  -- the rows of the ideal over the denominator of the order, and the greatest length of their pivots
  pub rows : List (List (List ℕ))
  pub depth : ℕ
  -- for each row of the order its products by the rows, over the denominator of the order
  pub products : List (List (List (List ℕ)))
  -- the codes of 1
  pub one : List ℕ

-- how many codes a class has
abbrev pub dimension : QuotientValue → ℕ
dimension q = code_count q.p.n q.order.rows q.rows (q.depth * q.p.n)

module _ (k : FieldOps) (q : QuotientValue) where
  -- the combination of rows by codes
  abbrev pub spread : List (List (List ℕ)) → List ℕ → List (List ℕ)
  spread rows a = spread_onto q.p.n q.order.rows q.rows k rows (q.depth * q.p.n) a (replicate q.p.n [])

  -- the codes of a row over the denominator of the order
  abbrev pub codes_of_row : List (List ℕ) → List ℕ
  codes_of_row v = codes_below q.p.n q.order.rows q.rows k (max q.depth (longest v) * q.p.n) v

  -- the element that codes stand for
  abbrev pub lifted : List ℕ → ElemValue
  lifted a = record { num = spread q.order.rows a; den = q.order.den }

  -- the codes of the product
  abbrev pub product_codes : List ℕ → List ℕ → List ℕ
  product_codes a b = codes_of_row (spread (map (λ rows. spread rows b) q.products) a)

-- the quotient as an algebra
abbrev pub class_algebra : QuotientValue → AlgebraOps
class_algebra q = record { size = dimension q; unit = q.one; product = λ k a b. product_codes k q a b }

-- the codes a stand for z: it differs from what they are lifted to by a member of the ideal
pub record IsClassOf (k : CodeField) (q : QuotientValue) (z : Functions k q.p) (a : List ℕ) : Type 0 where
  pub codes : IsVector k.ops (dimension q) a
  pub difference : Contains k q.p q.ideal
      ((functions k q.p).◌⊕◌ z ((functions k q.p).⊖◌ (function_of k q.p (lifted k.ops q a))))

-- the ideal lies in the order and is closed under multiplication by it
pub record IsIdealLattice (k : CodeField) (p : PresValue) (order ideal : LatticeValue) : Type 0 where
  pub lattice : IsLatticeValue k.ops p.n ideal
  pub within : (z : Functions k p) → Contains k p ideal z → Contains k p order z
  pub closed : (u v : Functions k p) → Contains k p order u → Contains k p ideal v
      → Contains k p ideal ((functions k p).◌⊗◌ u v)

-- a row over the denominator of the order stands for z
pub record IsRowOf (k : CodeField) (p : PresValue) (order : LatticeValue) (z : Functions k p) (row : List (List ℕ)) :
    Type 0 where
  pub row_in : IsRow k.ops p.n row
  pub row_poly : All IsPoly row
  pub is : function_of k p (record { num = row; den = order.den }) ≡ z

-- the codes of a row for z, modulo the ideal that has these rows over the denominator of the order
pub record AreCodesOf (k : CodeField) (p : PresValue) (order : LatticeValue) (rows : List (List (List ℕ))) (depth : ℕ)
    (z : Functions k p) (codes : List ℕ) : Type 0 where
  pub row : List (List ℕ)
  pub row_is : IsRowOf k p order z row
  pub are : codes ≡ codes_below p.n order.rows rows k.ops (max depth (longest row) * p.n) row

-- the rows that stand for the products of row i of the order by all rows
pub record AreRowProducts (k : CodeField) (p : PresValue) (order : LatticeValue) (i : ℕ) (rows : List (List (List ℕ))) :
    Type 0 where
  pub size : length rows ≡ length order.rows
  pub are : (j : ℕ) → j < length order.rows
      → IsRowOf k p order
      ((functions k p).◌⊗◌ (function_of k p (record { num = row_at order.rows i; den = order.den }))
      (function_of k p (record { num = row_at order.rows j; den = order.den })))
      (row_at rows j)

-- for the first rows of the order the rows that stand for their products by all rows
pub record AreProducts (k : CodeField) (p : PresValue) (order : LatticeValue) (count : ℕ)
    (products : List (List (List (List ℕ)))) : Type 0 where
  pub size : length products ≡ count
  pub each : (i : ℕ) → i < count → length (get_or products i []) ≡ length order.rows
  pub are : (i j : ℕ) → i < count → j < length order.rows
      → IsRowOf k p order
      ((functions k p).◌⊗◌ (function_of k p (record { num = row_at order.rows i; den = order.den }))
      (function_of k p (record { num = row_at order.rows j; den = order.den })))
      (row_at (get_or products i []) j)

-- an order, an ideal of it, and their rows and products over the denominator of the order
pub record IsFrame (k : CodeField) (q : QuotientValue) : Type 0 where
  pub positive : 1 ≤ q.p.n
  pub p_in : IsPresOver k.ops q.p
  pub order : IsOrderLattice k q.p q.order
  pub ideal : IsIdealLattice k q.p q.order q.ideal
  pub rows_in : All (IsRow k.ops q.p.n) q.rows
  pub rows_popov : IsPopovMatrix q.p.n q.rows
  pub rows_are : (z : Functions k q.p) → Contains k q.p q.ideal z ↔ InSpanOf k q.p (elems_over q.rows q.order.den) z
  pub deep : IsDeepest q.rows q.p.n q.depth
  pub products_size : length q.products ≡ q.p.n
  pub products_each : (i : ℕ) → i < q.p.n → length (get_or q.products i []) ≡ q.p.n
  pub products_are : (i j : ℕ) → i < q.p.n → j < q.p.n
      → IsRowOf k q.p q.order
      ((functions k q.p).◌⊗◌ (function_of k q.p (record { num = row_at q.order.rows i; den = q.order.den }))
      (function_of k q.p (record { num = row_at q.order.rows j; den = q.order.den })))
      (row_at (get_or q.products i []) j)

-- rows that stand for elements
pub record IsRowsOf (k : CodeField) (p : PresValue) (order : LatticeValue) (zs : List ElemValue)
    (rows : List (List (List ℕ))) : Type 0 where
  pub size : length rows ≡ length zs
  pub each : (j : ℕ) (d : ElemValue) → j < length zs
      → IsRowOf k p order (function_of k p (get_or zs j d)) (row_at rows j)

-- the quotient was made over this field
pub record IsQuotient (k : CodeField) (q : QuotientValue) : Type 0 where
  pub frame : IsFrame k q
  pub one_is : IsClassOf k q (functions k q.p).𝟙 q.one

-- the same, and that it is an algebra over the field (which `quotient_law` says of each that was made)
pub record IsQuotientOver (k : CodeField) (q : QuotientValue) : Type 0 where
  pub quotient : IsQuotient k q
  pub algebra : IsAlgebra k (class_algebra q)

-- taking classes: each has one list of codes, and sums, products, 1 and the ideal go to sums, products, the unit and 0
pub record HasClasses (k : CodeField) (q : QuotientValue) : Type 0 where
  pub only : (z : Functions k q.p) (a b : List ℕ) → IsClassOf k q z a → IsClassOf k q z b → a ≡ b
  pub of_lifted : (a : List ℕ) → IsVector k.ops (dimension q) a → IsClassOf k q (function_of k q.p (lifted k.ops q a)) a
  pub of_sum : (z w : Functions k q.p) (a b : List ℕ) → IsClassOf k q z a → IsClassOf k q w b
      → IsClassOf k q ((functions k q.p).◌⊕◌ z w) (add_lists (raw_ring k.ops) a b)
  pub of_product : (z w : Functions k q.p) (a b : List ℕ) → Contains k q.p q.order z → Contains k q.p q.order w
      → IsClassOf k q z a → IsClassOf k q w b
      → IsClassOf k q ((functions k q.p).◌⊗◌ z w) (product_codes k.ops q a b)
  pub of_one : IsClassOf k q (functions k q.p).𝟙 q.one
  pub of_ideal : (z : Functions k q.p) → IsClassOf k q z (replicate (dimension q) 0) ↔ Contains k q.p q.ideal z
