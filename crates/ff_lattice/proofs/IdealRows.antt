-- Ideals of an order by their rows.
use Rattle.std.proofs.Common.{◌≡◌, ◌↔◌, Bool, true, false, IsTrue, map, sym, ◌∙◌, subst, All}
use Rattle.std.specs.Prelude.{Result, IfOk}
use Rattle.ring_theory.proofs.Subsets.{span_module, span_least}
use Rattle.ff_fields.specs.Field.{CodeField}
use Rattle.function_field.specs.Functions.{IsPolynomial}
use Rattle.function_field.specs.Values.{PresValue, Functions, functions, function_of, equation_of}
use Rattle.function_field.proofs.ScalarRings.{polynomials_subring}
use Rattle.ff_lattice.specs.Lattices.{LatticeValue, IsLatticeValue, Contains, row_elems}
use Rattle.ff_lattice.specs.Orders.{TakesRowsIn}
use Rattle.ff_lattice.specs.Quotients.{IsIdealLattice}
use Rattle.ff_lattice.proofs.OrderRows.{all_of_map, products_from_rows, rows_members, false_true}
use Rattle.ff_lattice.proofs.Results.{ok_through}

module _ (k : CodeField) (p : PresValue) (l i : LatticeValue) where
  -- a lattice lies in another where its rows do
  pub within_from_rows : All (λ w. Contains k p l (function_of k p w)) (row_elems i) → (z : Functions k p)
      → Contains k p i z → Contains k p l z
  within_from_rows all =
      span_least (functions k p) (IsPolynomial (equation_of k p)) (polynomials_subring (equation_of k p))
      (Contains k p l)
      (span_module (functions k p) (IsPolynomial (equation_of k p)) (polynomials_subring (equation_of k p))
      (map (function_of k p) (row_elems l)))
      (map (function_of k p) (row_elems i)) (all_of_map (function_of k p) (Contains k p l) (row_elems i) all)

  pub ideal_from_rows : IsLatticeValue k.ops p.n i → All (λ w. Contains k p l (function_of k p w)) (row_elems i)
      → All (λ z. TakesRowsIn k p i (function_of k p z)) (row_elems l) → IsIdealLattice k p l i
  ideal_from_rows lattice inside products = record {
    lattice = lattice;
    within = within_from_rows inside;
    closed = products_from_rows k p i (row_elems l) products;
  }

  pub rows_inside : IsIdealLattice k p l i → All (λ w. Contains k p l (function_of k p w)) (row_elems i)
  rows_inside h = λ j d less. h.within _ (rows_members k p i j d less)

  pub rows_taken : IsIdealLattice k p l i → All (λ z. TakesRowsIn k p i (function_of k p z)) (row_elems l)
  rows_taken h = λ j d less m e less'. h.closed _ _ (rows_members k p l j d less) (rows_members k p i m e less')

module _ (k : CodeField) (p : PresValue) (o l i : LatticeValue) (same : l ≡ o) where
  -- a row that isn't in the order
  pub not_inside : (inside : Bool) → (IsTrue inside ↔ All (λ w. Contains k p l (function_of k p w)) (row_elems i))
      → inside ≡ false → IsTrue false ↔ IsIdealLattice k p o i
  not_inside inside decides outside = (
    λ t. absurd (false_true t),
    λ h. sym outside ∙ decides.1 (rows_inside k p l i (subst (λ l. IsIdealLattice k p l i) (sym same) h)),
  )

  -- rows in the order, of which the products are decided
  pub inside_decided : {E : Type 0} → IsLatticeValue k.ops p.n i → (inside : Bool)
      → (IsTrue inside ↔ All (λ w. Contains k p l (function_of k p w)) (row_elems i)) → inside ≡ true
      → (r : Result Bool E)
      → IfOk r (λ t. IsTrue t ↔ All (λ z. TakesRowsIn k p i (function_of k p z)) (row_elems l))
      → IfOk r (λ t. IsTrue t ↔ IsIdealLattice k p o i)
  inside_decided lattice inside decides is_inside r h =
      ok_through r (λ t e. (
        λ is. subst (λ l. IsIdealLattice k p l i) same (ideal_from_rows k p l i lattice (decides.0 is_inside) (e.0 is)),
        λ ideal. e.1 (rows_taken k p l i (subst (λ l. IsIdealLattice k p l i) (sym same) ideal)),
      )) h
