-- Rows of lattices within another lattice, and polynomials that take an element into an order.
use Rattle.std.proofs.Common.{◌≡◌, ℕ, ◌<◌, List, [], ◌∷◌, ◌++◌, length, map, sym, ap, ◌∙◌, subst, All, Some}
use Rattle.std.specs.Prelude.{slice_get}
use Rattle.std.proofs.lemmas.List.Elements.{All-nil, All-cons, All-append}
use Rattle.std.proofs.lemmas.Option.{get_or_from_slice_get}
use Rattle.ring_lemmas.specs.Ring.{CommRing}
use Rattle.ring_lemmas.proofs.Ring.{one_mul}
use Rattle.ring_theory.specs.Subsets.{Span}
use Rattle.ring_theory.proofs.Subsets.{span_least, span_head, span_append_right}
use Rattle.ff_fields.specs.Field.{CodeField}
use Rattle.ff_poly.specs.Value.{value}
use Rattle.ff_poly.specs.Polynomials.{value_one}
use Rattle.function_field.specs.Functions.{IsPolynomial, of_poly}
use Rattle.function_field.specs.Values.{ElemValue, PresValue, IsElem, Functions, functions, function_of, equation_of}
use Rattle.function_field.proofs.ScalarRings.{polynomials_subring, of_poly_one}
use Rattle.ff_lattice.specs.Lattices.{LatticeValue, IsLatticeValue, Contains, InSpanOf, IsFullLattice, row_elems}
use Rattle.ff_lattice.proofs.OrderRows.{all_of_map, rows_members}
use Rattle.ff_lattice.proofs.SpannedSets.{lattice_full}
use Rattle.ff_lattice.proofs.SumsAndProducts.{map_join, rows_elems, sum_full}
use Rattle.value_theory.proofs.Ideals.{members_module}

module _ (k : CodeField) (p : PresValue) where
  abbrev F : CommRing (Functions k p)
  F = functions k p

  abbrev T : Functions k p → Type 0
  T = IsPolynomial (equation_of k p)

  abbrev f : ElemValue → Functions k p
  f z = function_of k p z

  -- a lattice whose rows are in another is within it
  pub rows_within : (l a : LatticeValue) → All (λ z. Contains k p a (function_of k p z)) (row_elems l)
      → (z : Functions k p) → Contains k p l z → Contains k p a z
  rows_within l a rows =
      span_least F T (polynomials_subring (equation_of k p)) (Contains k p a) (members_module k p a)
      (map f (row_elems l)) (all_of_map f (Contains k p a) (row_elems l) rows)

  -- a row is a member
  pub row_inside : (l : LatticeValue) (i : ℕ) (row : ElemValue) → i < length (row_elems l)
      → slice_get (row_elems l) i ≡ Some row → Contains k p l (function_of k p row)
  row_inside l i row less is =
      subst (λ z. Contains k p l (f z)) (get_or_from_slice_get (row_elems l) i row row is)
      (rows_members k p l i row less)

  module _ (o : LatticeValue) (form : IsLatticeValue k.ops p.n o) (z : ElemValue) where
    -- the rows and one element more
    pub with_elems : IsElem k.ops p.n z → All (IsElem k.ops p.n) (row_elems o ++ z ∷ [])
    with_elems z_in =
        All-append (IsElem k.ops p.n) (row_elems o) (z ∷ []) (rows_elems k p.n o form)
        (All-cons (IsElem k.ops p.n) z [] z_in (All-nil (IsElem k.ops p.n)))

    pub with_full : 0 < p.n → IsFullLattice k p (InSpanOf k p (row_elems o ++ z ∷ []))
    with_full positive = sum_full k p (row_elems o) (z ∷ []) (lattice_full k p o positive form)

    pub with_member : InSpanOf k p (row_elems o ++ z ∷ []) (function_of k p z)
    with_member =
        subst (λ gs. Span F.ops T gs (f z)) (sym (map_join f (row_elems o) (z ∷ [])))
        (span_append_right F T (polynomials_subring (equation_of k p)) (map f (row_elems o)) (f z ∷ []) (f z)
        (span_head F T (polynomials_subring (equation_of k p)) (f z) []))

  -- 1 takes a member of the order into it
  pub one_takes : (o : LatticeValue) (z : Functions k p) (h : List ℕ) → h ≡ 1 ∷ [] → Contains k p o z
      → Contains k p o ((functions k p).◌⊗◌ (of_poly (equation_of k p) (value k h)) z)
  one_takes o z h e z_in =
      subst (λ a. Contains k p o (F.◌⊗◌ (of_poly (equation_of k p) (value k a)) z)) (sym e)
      (subst (Contains k p o) (sym (ap (λ u. F.◌⊗◌ u z) one_is ∙ one_mul F z)) z_in)
    where
      one_is : of_poly (equation_of k p) (value k (1 ∷ [])) ≡ (functions k p).𝟙
      one_is = ap (of_poly (equation_of k p)) (value_one k) ∙ sym (of_poly_one (equation_of k p))
