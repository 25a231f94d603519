-- A member of a lattice as a row over the lattice's denominator.
use Rattle.std.proofs.Common.{◌≡◌, ℕ, suc, ◌-◌, ◌<◌, List, [], length, sym, ◌∙◌, ap, subst, arith, All}
use Rattle.std.proofs.lemmas.List.{length-map}
use Rattle.ring_lemmas.specs.Ring.{CommRing}
use Rattle.ring_lemmas.specs.Rows.{row_scale, entry}
use Rattle.ff_fields.specs.Field.{CodeField}
use Rattle.ff_fields.specs.Code.{code_ring}
use Rattle.ff_fields.specs.Over.{IsOver}
use Rattle.ff_poly.specs.Words.{DividesList, product_of}
use Rattle.ff_poly.specs.Value.{value}
use Rattle.ff_poly.specs.Polynomials.{Polynomial, polynomials}
use Rattle.ff_poly.specs.Popov.{entry_at, multiple_of_row}
use Rattle.ring_theory.proofs.PolynomialRows.{entry_scale}
use Rattle.ff_popov.specs.Reading.{read_row, read_rows}
use Rattle.ff_popov.proofs.Entries.{any_default}
use Rattle.ff_popov.proofs.ReadRows.{entry_read, read_multiple, over_at}
use Rattle.ff_popov.proofs.Spans.{multiple_over}
use Rattle.function_field.specs.Functions.{Equation}
use Rattle.function_field.specs.Values.{ElemValue, PresValue, IsElem, IsMonicElem, function_of, equation_of}
use Rattle.ff_lattice.specs.Lattices.{LatticeValue, IsLatticeValue, Contains}
use Rattle.ff_lattice.specs.Steps.{IsRowQuotient}
use Rattle.ff_lattice.specs.Quotients.{IsRowOf}
use Rattle.ff_lattice.proofs.Fracs.{over_eq, over_same}
use Rattle.ff_lattice.proofs.Members.{Member}
use Rattle.ff_lattice.proofs.Elements.{elem_over, in_span_of, divides_codes}
use Rattle.ff_lattice.proofs.Divisors.{monic_value}
use Rattle.ff_lattice.proofs.SpannedSets.{multiple_poly}

module _ (k : CodeField) (p : PresValue) (l : LatticeValue) (lattice : IsLatticeValue k.ops p.n l) (z : ElemValue)
    (z_in : IsElem k.ops p.n z) (z_monic : IsMonicElem z) where
  abbrev c : Equation k
  c = equation_of k p

  abbrev S : CommRing (Polynomial k)
  S = (polynomials k).ring

  abbrev n : ℕ
  n = suc (p.n - 1)

  den_some : ¬ (value k l.den ≡ (polynomials k).𝟘)
  den_some = monic_value k l.den lattice.den_in lattice.den_poly lattice.monic

  e_some : ¬ (value k z.den ≡ (polynomials k).𝟘)
  e_some = monic_value k z.den z_in.den_over z_monic.den_poly z_monic.monic

  abbrev scaled : List (List ℕ)
  scaled = multiple_of_row k.ops l.den z.num

  scaled_read : read_row k n scaled ≡ row_scale S.ops n (value k l.den) (read_row k n z.num)
  scaled_read = read_multiple k n l.den z.num lattice.den_in z_in.num_over

  pub scaled_over : All (IsOver k.ops) scaled
  scaled_over = multiple_over k l.den z.num lattice.den_in z_in.num_over

  scaled_size : length scaled ≡ p.n
  scaled_size = length-map z.num (product_of k.ops l.den) ∙ z_in.one_each

  -- the denominator of z divides each entry of its numerators times the lattice's denominator
  pub divides_scaled : Contains k p l (function_of k p z) → All (DividesList k.ops z.den) scaled
  divides_scaled member j d less =
      subst (DividesList k.ops z.den) (any_default scaled j [] d less)
      (divides_codes k z.den (entry_at scaled j) z_in.den_over (over_at k scaled scaled_over j)
      (multiple_poly k l.den z.num j [] less)
      (record {
        quotient = entry S.ops n j m.numerator;
        is = sym (entry_read k n j scaled in_row)
            ∙ ap (entry S.ops n j) is ∙ entry_scale (code_ring k) n j (value k z.den) m.numerator;
      }))
    where
      m : Member (equation_of k p) (value k l.den) den_some (read_rows k p.n l.rows) (function_of k p z)
      m = (in_span_of k p l.den den_some l.rows (function_of k p z)).0 member

      in_row : j < suc (p.n - 1)
      in_row = omega (arith, less, scaled_size)

      is : read_row k (suc (p.n - 1)) (multiple_of_row k.ops l.den z.num)
          ≡ row_scale S.ops (suc (p.n - 1)) (value k z.den) m.numerator
      is =
          scaled_read
          ∙ over_same c (read_row k n z.num) m.numerator (value k z.den) (value k l.den) e_some den_some
          (sym (elem_over k p z.den e_some z.num) ∙ m.is)

  -- the quotient is the row
  pub quotient_is_row : (r : List (List ℕ)) → IsRowQuotient k.ops z.den scaled r → IsRowOf k p l (function_of k p z) r
  quotient_is_row r h = record {
    row_in = record {
      size = sym (length-map r (product_of k.ops z.den)) ∙ ap length h.is
          ∙ scaled_size;
      over = h.over;
    };
    row_poly = h.poly;
    is =
        elem_over k p l.den den_some r
        ∙ over_eq c (read_row k n r) (read_row k n z.num) (value k l.den) (value k z.den) den_some e_some
        (sym (read_multiple k n z.den r z_in.den_over h.over) ∙ ap (read_row k n) h.is ∙ scaled_read)
        ∙ sym (elem_over k p z.den e_some z.num);
  }
