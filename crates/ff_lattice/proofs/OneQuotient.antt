-- A presentation, an order and an ideal have one quotient over a field.
use Rattle.std.proofs.Common.{◌≡◌, ℕ, suc, ◌-◌, ◌<◌, ◌≤◌, List, [], get_or, sym, ◌∙◌, ap, ap₂, subst, arith}
use Rattle.std.proofs.lemmas.List.{ext_get_or}
use Rattle.ff_fields.specs.Field.{CodeField}
use Rattle.ff_poly.specs.Value.{value}
use Rattle.ff_poly.specs.Polynomials.{polynomials}
use Rattle.ff_popov.specs.Reading.{read_row}
use Rattle.ff_popov.proofs.ReadRows.{same_from_read}
use Rattle.function_field.specs.Values.{PresValue, Functions, functions, equation_of}
use Rattle.ff_lattice.specs.Lattices.{LatticeValue, IsLatticeValue}
use Rattle.ff_lattice.specs.PositionLists.{pivot_length}
use Rattle.ff_lattice.specs.Quotients.{QuotientValue, IsFrame, IsQuotient, IsClassOf, IsRowOf}
use Rattle.ff_lattice.proofs.Divisors.{monic_value}
use Rattle.ff_lattice.proofs.Elements.{elem_over}
use Rattle.ff_lattice.proofs.Fracs.{over_injective}
use Rattle.ff_lattice.proofs.OneForm.{one_basis}
use Rattle.ff_lattice.proofs.QuotientLaws.{has_classes}
use Rattle.ff_lattice.proofs.MadeQuotients.{made_value}

module _ (k : CodeField) (p : PresValue) (order : LatticeValue) (lattice : IsLatticeValue k.ops p.n order) where
  some : ¬ (value k order.den ≡ (polynomials k).𝟘)
  some = monic_value k order.den lattice.den_in lattice.den_poly lattice.monic

  -- over one denominator one row stands for a function
  one_row : (z : Functions k p) (v w : List (List ℕ)) → IsRowOf k p order z v → IsRowOf k p order z w → v ≡ w
  one_row z v w v_of w_of =
      same_from_read k p.n v w v_of.row_in w_of.row_in v_of.row_poly w_of.row_poly
      (over_injective (equation_of k p) (read_row k (suc (p.n - 1)) v) (read_row k (suc (p.n - 1)) w)
      (value k order.den) some
      (sym (elem_over k p order.den some v) ∙ v_of.is ∙ sym w_of.is ∙ elem_over k p order.den some w))

module _ (k : CodeField) (p : PresValue) (order ideal : LatticeValue) (rows rows' : List (List (List ℕ)))
    (depth depth' : ℕ) (products products' : List (List (List (List ℕ)))) (one one' : List ℕ)
    (is : IsQuotient k (made_value rows depth products one p order ideal))
    (is' : IsQuotient k (made_value rows' depth' products' one' p order ideal)) where
  abbrev h : IsFrame k (made_value rows depth products one p order ideal)
  h = is.frame

  abbrev h' : IsFrame k (made_value rows' depth' products' one' p order ideal)
  h' = is'.frame

  rows_same : rows ≡ rows'
  rows_same =
      one_basis k p order.den (some k p order h.order.lattice) rows rows' h.rows_in h'.rows_in h.rows_popov
      h'.rows_popov
      (λ z. (λ x. (h'.rows_are z).0 ((h.rows_are z).1 x), λ x. (h.rows_are z).0 ((h'.rows_are z).1 x))) h.positive

  depth_same : depth ≡ depth'
  depth_same =
      let below = h.deep.least depth' (λ j less. subst (λ rs. pivot_length rs j ≤ depth') (sym rows_same)
      (h'.deep.bound j less)) in
      let above = h'.deep.least depth (λ j less. subst (λ rs. pivot_length rs j ≤ depth) rows_same
      (h.deep.bound j less)) in
      omega (arith, below, above)

  products_same : products ≡ products'
  products_same =
      ext_get_or [] products products' (h.products_size ∙ sym h'.products_size) (λ i less.
      let in_n : i < p.n = omega (arith, less, h.products_size) in
      let size = h.products_each i in_n in
      ext_get_or [] (get_or products i []) (get_or products' i []) (size ∙ sym (h'.products_each i in_n)) (λ j j_less.
      let j_in : j < p.n = omega (arith, j_less, size) in
      one_row k p order h.order.lattice _ (get_or (get_or products i []) j []) (get_or (get_or products' i []) j [])
      (h.products_are i j in_n j_in) (h'.products_are i j in_n j_in)))

  one_same : one ≡ one'
  one_same =
      let moved = subst (λ rs. IsClassOf k (made_value rs depth' products' one' p order ideal) (functions k p).𝟙 one')
      (sym rows_same) is'.one_is in
      let there = subst (λ d. IsClassOf k (made_value rows d products' one' p order ideal) (functions k p).𝟙 one')
      (sym depth_same) moved in
      (has_classes k (made_value rows depth products one p order ideal) h is.one_is).only (functions k p).𝟙 one one'
      is.one_is (record { codes = there.codes; difference = there.difference })

  same_made : made_value rows depth products one p order ideal ≡ made_value rows' depth' products' one' p order ideal
  same_made =
      ap₂ (λ rs d. made_value rs d products one p order ideal) rows_same depth_same
      ∙ ap₂ (λ ms v. made_value rows' depth' ms v p order ideal) products_same one_same

pub one_quotient : (k : CodeField) (q r : QuotientValue) → IsQuotient k q → IsQuotient k r → q.p ≡ r.p
    → q.order ≡ r.order → q.ideal ≡ r.ideal → q ≡ r
one_quotient k q r q_is r_is p_is order_is ideal_is =
    let v = made_value r.rows r.depth r.products r.one in
    let there : IsQuotient k (v q.p q.order q.ideal)
    = subst (λ x. IsQuotient k (v x q.order q.ideal)) (sym p_is)
    (subst (λ x. IsQuotient k (v r.p x q.ideal)) (sym order_is)
    (subst (λ x. IsQuotient k (v r.p r.order x)) (sym ideal_is) r_is)) in
    same_made k q.p q.order q.ideal q.rows r.rows q.depth r.depth q.products r.products q.one r.one q_is there
    ∙ ap (λ x. v x q.order q.ideal) p_is ∙ ap₂ (v r.p) order_is ideal_is
