-- The coefficients that a preimage gives are those of the functions whose product with w is in a.
use Rattle.std.proofs.Common.{◌≡◌, ℕ, List, length, map, sym, ◌∙◌, ap, subst, All}
use Rattle.std.proofs.lemmas.List.{length-map}
use Rattle.ff_fields.specs.Field.{CodeField}
use Rattle.ff_fields.specs.Over.{IsOver}
use Rattle.ff_poly.specs.Words.{IsMonicList}
use Rattle.ff_poly.specs.Value.{value}
use Rattle.ff_poly.specs.Polynomials.{polynomials}
use Rattle.ff_poly.specs.Popov.{IsRow, InRowSpan, combination_list, multiple_of_row}
use Rattle.ff_popov.proofs.Spans.{combination_row}
use Rattle.function_field.specs.Values.{ElemValue, PresValue, IsElem, Functions, functions, function_of}
use Rattle.ff_lattice.specs.Lattices.{LatticeValue, IsLatticeValue, Contains, row_elems}
use Rattle.ff_lattice.specs.Colons.{IsKept}
use Rattle.ff_lattice.specs.Steps.{IsExpanded, IsPreimage}
use Rattle.ff_lattice.proofs.CommonDenominators.{expanded_rows, expanded_functions}
use Rattle.ff_lattice.proofs.Divisors.{monic_value}
use Rattle.ff_lattice.proofs.Membership.{contains_iff}
use Rattle.ff_lattice.proofs.Normal.{monic_poly}
use Rattle.ff_lattice.proofs.RowCombinations.{combination_times, combination_multiples}
use Rattle.ff_lattice.proofs.RowElems.{elems_length}
use Rattle.ff_lattice.proofs.Spaces.{combination_poly}

module _ (k : CodeField) (p : PresValue) (l a : LatticeValue) (w : ElemValue) (l_form : IsLatticeValue k.ops p.n l)
    (a_form : IsLatticeValue k.ops p.n a) (gens : List ElemValue) (gens_in : All (IsElem k.ops p.n) gens)
    (gens_is : map (function_of k p) gens
    ≡ map ((functions k p).◌⊗◌ (function_of k p w)) (map (function_of k p) (row_elems l)))
    (e : List ℕ) (e_in : IsOver k.ops e) (e_monic : IsMonicList e) (rows : List (List (List ℕ)))
    (expanded : IsExpanded k.ops p.n e gens rows) where
  abbrev f : ElemValue → Functions k p
  f z = function_of k p z

  rows_in : All (IsRow k.ops p.n) rows
  rows_in = expanded_rows k p.n e e_in e_monic gens rows gens_in expanded

  pub gens_size : length gens ≡ p.n
  gens_size =
      sym (length-map gens f) ∙ ap length gens_is ∙ length-map (map f (row_elems l)) ((functions k p).◌⊗◌ (f w))
      ∙ length-map (row_elems l) f
      ∙ elems_length l ∙ l_form.popov.size

  pub rows_size : length rows ≡ p.n
  rows_size = expanded.size ∙ gens_size

  e_some : ¬ (value k e ≡ (polynomials k).𝟘)
  e_some = monic_value k e e_in (monic_poly e e_monic) e_monic

  l_some : ¬ (value k l.den ≡ (polynomials k).𝟘)
  l_some = monic_value k l.den l_form.den_in l_form.den_poly l_form.monic

  abbrev times : List (List ℕ) → ElemValue
  times z = record { num = combination_list k.ops p.n z rows; den = e }

  abbrev own : List (List ℕ) → ElemValue
  own z = record { num = combination_list k.ops p.n z l.rows; den = l.den }

  times_is : (z : List (List ℕ)) → IsRow k.ops p.n z → f (times z) ≡ (functions k p).◌⊗◌ (f w) (f (own z))
  times_is z z_row =
      combination_times k p z l.rows rows l.den e (f w) l_some e_some (z_row.size ∙ sym l_form.popov.size)
      (z_row.size ∙ sym rows_size) z_row.over l_form.rows_in rows_in
      (expanded_functions k p.n e e_in e_monic p gens rows gens_in expanded ∙ gens_is)

  times_elem : (z : List (List ℕ)) → IsRow k.ops p.n z → IsElem k.ops p.n (times z)
  times_elem z z_row =
      let row = combination_row k p.n z rows z_row.over rows_in in
      record { one_each = row.size; num_over = row.over; den_over = e_in }

  pub kept_is : (basis : List (List (List ℕ)))
      → IsPreimage k.ops p.n p.n (map (multiple_of_row k.ops a.den) rows) (map (multiple_of_row k.ops e) a.rows) basis
      → IsKept k p l w a basis
  kept_is basis pre = record {
    rows_in = pre.rows_in;
    popov = pre.popov;
    members = λ z z_row z_poly.
        let iff = contains_iff k p a a_form (times z) (times_elem z z_row)
        (record {
          num_poly = combination_poly k p.n z rows (z_row.size ∙ sym rows_size) z_row.over;
          den_poly =
              monic_poly e e_monic;
          monic = e_monic;
        }) in
        let is = combination_multiples k p.n a.den z rows a_form.den_in (z_row.size ∙ sym rows_size) z_row.over rows_in
        in
        let m = pre.members z z_row z_poly in (
          λ h. subst (Contains k p a) (times_is z z_row)
              (iff.0 (subst (InRowSpan k.ops p.n (map (multiple_of_row k.ops e) a.rows)) is (m.0 h))),
          λ h. m.1 (subst (InRowSpan k.ops p.n (map (multiple_of_row k.ops e) a.rows)) (sym is)
              (iff.1 (subst (Contains k p a) (sym (times_is z z_row)) h))),
        );
  }
