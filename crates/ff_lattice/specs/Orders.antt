-- Orders of F: the lattices that are rings (Zassenhaus, Ein Algorithmus zur Berechnung einer Minimalbasis über
-- gegebener Ordnung).
use Rattle.std.specs.Prelude.{All}
use Rattle.ff_fields.specs.Field.{CodeField}
use Rattle.function_field.specs.Values.{PresValue, Functions, functions, function_of}
use Rattle.ff_lattice.specs.Lattices.{LatticeValue, IsLatticeValue, Contains, row_elems}

module _ (k : CodeField) (p : PresValue) where
  -- a lattice that contains 1 and the product of each two members
  pub record IsOrderLattice (l : LatticeValue) : Type 0 where
    pub lattice : IsLatticeValue k.ops p.n l
    pub one_in : Contains k p l (functions k p).𝟙
    pub product_in : (u v : Functions k p) → Contains k p l u → Contains k p l v
        → Contains k p l ((functions k p).◌⊗◌ u v)

  -- the products of z and the rows are members
  abbrev pub TakesRowsIn : LatticeValue → Functions k p → Type 0
  TakesRowsIn l z = All (λ w. Contains k p l ((functions k p).◌⊗◌ z (function_of k p w))) (row_elems l)

  -- 1 and the products of the rows are members
  pub record IsOrderByRows (l : LatticeValue) : Type 0 where
    pub one_in : Contains k p l (functions k p).𝟙
    pub products_in : All (λ z. TakesRowsIn l (function_of k p z)) (row_elems l)
