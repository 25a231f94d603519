-- Each row has a multiple in the lattice of a Popov basis by a polynomial whose degree is at most the pivot degree.
use Rattle.std.proofs.Common.{◌≡◌, ℕ, suc, ◌+◌, ◌-◌, ◌<◌, List, [], ◌∷◌, length, refl, sym, ◌∙◌, ap, subst, arith, All}
use Rattle.ring_lemmas.specs.Rows.{Row}
use Rattle.ff_fields.specs.Field.{CodeField}
use Rattle.ff_fields.specs.Code.{code_ring, code_field}
use Rattle.ff_poly.specs.Value.{value}
use Rattle.ff_poly.specs.Polynomials.{Polynomial, codes_of, IsOver_codes_of, IsPoly_codes_of, value_codes_of, value_nil}
use Rattle.ff_poly.specs.Popov.{row_at, entry_at, IsRow, IsPopovMatrix, multiple_of_row, pivot_degree, pivot_degree_from}
use Rattle.popov_theory.specs.Module.{PolynomialModule, row_degree}
use Rattle.popov_theory.specs.Popov as theory
use Rattle.popov_theory.specs.Span as spans
use Rattle.popov_theory.proofs.ShortMultiples.{ShortMultiple, short_multiple}
use Rattle.ff_popov.specs.Reading.{read_row, row_space, read_rows}
use Rattle.ff_popov.proofs.ReadRows.{over_at}
use Rattle.ff_popov.proofs.Spans.{from_space, space_multiple, multiple_row}
use Rattle.ff_popov.proofs.Measures.{measured}
use Rattle.ff_popov.proofs.PopovBasis.{basis_popov}
use Rattle.ff_lattice.specs.Steps.{HasShortMultiples, pivot_sum}
use Rattle.ff_lattice.proofs.PivotSums.{whole_sum}
use Rattle.ff_lattice.proofs.Scaled.{value_length}
use Rattle.ff_lattice.proofs.SpannedSets.{multiple_poly}

module _ (k : CodeField) (w : ℕ) (positive : 0 < w) (rows : List (List (List ℕ))) (rows_in : All (IsRow k.ops w) rows)
    (popov : IsPopovMatrix w rows) where
  abbrev M : PolynomialModule (code_ring k) (Row (Polynomial k) (suc (w - 1)))
  M = row_space k w

  abbrev rs : List (Row (Polynomial k) (suc (w - 1)))
  rs = read_rows k w rows

  degrees_read : (xs : List (List (List ℕ))) (i : ℕ)
      → ((j m : ℕ) → j < length xs → m ≡ i + j
      → row_degree M (read_row k (suc (w - 1)) (row_at xs j)) ≡ length (entry_at (row_at xs j) m) - 1)
      → theory.pivot_degree M (read_rows k w xs) ≡ pivot_degree_from i xs
  degrees_read [] i h = refl
  degrees_read (x ∷ xs) i h =
      omega (
        arith,
        h 0 i (omega arith) (omega arith),
        degrees_read xs (suc i)
            (λ j m less e. h (suc j) m (omega (arith, less)) (omega (arith, e))),
      )

  row_degrees : theory.pivot_degree M rs ≡ pivot_degree rows
  row_degrees = degrees_read rows 0 (λ j m less e.
      let at : m ≡ j = omega (arith, e) in
      let j_less : j < w = omega (arith, less, popov.size) in
      let row = rows_in j [] less in
      (measured k w (row_at rows j) j row.size (popov.pivot_at j j_less) (over_at k (row_at rows j) row.over j)
      (popov.trimmed j j)).1
      ∙ ap (λ n. length (entry_at (row_at rows j) n) - 1) (sym at))

  found : (v : List (List ℕ)) → ShortMultiple M rs (read_row k (suc (w - 1)) v)
  found v = short_multiple M (code_field k) rs (basis_popov k w rows rows_in popov positive)
      (read_row k (suc (w - 1)) v)

  codes_length : (p : Polynomial k) → length (codes_of k p) ≡ length p.0
  codes_length p = sym (value_length k (codes_of k p) (IsOver_codes_of k p) (IsPoly_codes_of k p))
      ∙ ap (λ q. length q.0) (value_codes_of k p)

  pub short_multiples : (bound : ℕ) → bound ≡ pivot_sum rows (length rows) + 1 → HasShortMultiples k.ops w rows bound
  short_multiples bound e = record {
    multiple = λ v row.
        let p = (found v).factor in
        record {
          factor = codes_of k p;
          factor_in = IsOver_codes_of k p;
          factor_poly = IsPoly_codes_of k p;
          factor_some = λ z. (found v).some (sym (value_codes_of k p) ∙ ap (value k) z ∙ value_nil k);
          in_span =
              from_space k w rows rows_in (multiple_of_row k.ops (codes_of k p) v)
              (multiple_row k w (codes_of k p) v (IsOver_codes_of k p) row) (multiple_poly k (codes_of k p) v)
              (subst (spans.InSpan M rs)
              (ap (λ q. M.◌·◌ q (read_row k (suc (w - 1)) v)) (sym (value_codes_of k p))
              ∙ sym (space_multiple k w (codes_of k p) v (IsOver_codes_of k p) row.over))
              (found v).in_span);
        };
    short = λ v row. omega (arith, e, codes_length (found v).factor, (found v).short, row_degrees, whole_sum rows);
  }
