-- The dimension of a quotient by pivot degrees.
use Rattle.std.proofs.Common.{◌≡◌, ℕ, suc, List, ◌+◌, ◌-◌, ◌*◌, ◌<◌, ◌≤◌, length, refl, sym, ◌∙◌, ap, arith, pos, ◌-ℤ◌}
use Rattle.std.proofs.lemmas.Int.{ints}
use Rattle.ring_lemmas.specs.Rows.{Row}
use Rattle.popov_theory.specs.Module.{PolynomialModule}
use Rattle.popov_theory.specs.Span.{IsWithin}
use Rattle.popov_theory.proofs.Monotone.{degree_within}
use Rattle.ff_fields.specs.Field.{CodeField}
use Rattle.ff_fields.specs.Code.{code_ring, code_field}
use Rattle.ff_poly.specs.Value.{value}
use Rattle.ff_poly.specs.Polynomials.{Polynomial}
use Rattle.ff_poly.specs.Popov.{pivot_degree}
use Rattle.ff_popov.specs.Reading.{row_space, read_rows}
use Rattle.ff_popov.proofs.Measures.{space_width}
use Rattle.ff_popov.proofs.PopovBasis.{basis_measured, basis_popov}
use Rattle.function_field.specs.Functions.{over}
use Rattle.function_field.specs.Values.{equation_of}
use Rattle.ff_lattice.specs.Lattices.{LatticeValue, pivot_degree_of}
use Rattle.ff_lattice.specs.Steps.{pivot_sum}
use Rattle.ff_lattice.specs.PositionLists.{pivot_length}
use Rattle.ff_lattice.specs.Quotients.{QuotientValue, IsFrame, dimension}
use Rattle.ff_lattice.proofs.Members.{member_numerator}
use Rattle.ff_lattice.proofs.Elements.{in_span_of}
use Rattle.ff_lattice.proofs.PivotSums.{whole_sum}
use Rattle.ff_lattice.proofs.QuotientLaws.{den_some}
use Rattle.ff_lattice.proofs.CodeCounts.{count_degrees}
use Rattle.ff_lattice.proofs.PivotIndices.{IsOverMonic, lattice_over, one_degree}

difference : (d w j m : ℕ) → d + w ≡ j → pos d ≡ (pos j -ℤ pos m) -ℤ (pos w -ℤ pos m)
difference d w j m h = omega (arith, ints, h)

module _ (k : CodeField) (q : QuotientValue) (h : IsFrame k q) where
  abbrev n : ℕ
  n = q.p.n

  abbrev M : PolynomialModule (code_ring k) (Row (Polynomial k) (suc (q.p.n - 1)))
  M = row_space k q.p.n

  abbrev ws : List (Row (Polynomial k) (suc (q.p.n - 1)))
  ws = read_rows k q.p.n q.order.rows

  abbrev js : List (Row (Polynomial k) (suc (q.p.n - 1)))
  js = read_rows k q.p.n q.rows

  -- the ideal over the denominator of the order
  abbrev over_order : LatticeValue
  over_order = record { rows = q.rows; den = q.order.den }

  is_over : IsOverMonic k q.p over_order
  is_over = let l = h.order.lattice in record
      { rows_in = h.rows_in; popov = h.rows_popov; den_in = l.den_in; den_poly = l.den_poly; monic = l.monic }

  ideal_degree : pivot_degree_of q.ideal ≡ pivot_degree_of over_order
  ideal_degree = one_degree k q.p h.positive q.ideal over_order (lattice_over k q.p q.ideal h.ideal.lattice) is_over
      h.rows_are

  rows_within : IsWithin M js ws
  rows_within = record {
    within = λ v v_in.
        let c = equation_of k q.p in
        let some = den_some k q h in
        let z = over c v (value k q.order.den) some in
        member_numerator c (value k q.order.den) some ws v
        ((in_span_of k q.p q.order.den some q.order.rows z).0
        (h.ideal.within z ((h.rows_are z).1
        ((in_span_of k q.p q.order.den some q.rows z).1 (record { numerator = v; in_rows = v_in; is = refl })))));
  }

  -- the pivots of the ideal are no shorter than those of the order
  longer : (j : ℕ) → j < n → pivot_length q.order.rows j ≤ pivot_length q.rows j
  longer j less =
      let l = h.order.lattice in
      let in_width : j < M.width = omega (arith, less, space_width k q.p.n, h.positive) in
      let le =
      degree_within M (code_field k) js ws (basis_popov k n q.rows h.rows_in h.rows_popov h.positive)
      (basis_popov k n q.order.rows l.rows_in l.popov h.positive) rows_within j in_width in
      omega (
        arith,
        le,
        (basis_measured k n q.rows h.rows_in h.rows_popov j less).1,
        (basis_measured k n q.order.rows l.rows_in l.popov j less).1,
        (h.rows_popov.pivot_at j less).some,
      )

  pub dimension_is : pos (dimension q) ≡ pivot_degree_of q.ideal -ℤ pivot_degree_of q.order
  dimension_is =
      let w : pivot_sum q.order.rows n ≡ pivot_degree q.order.rows = ap (pivot_sum q.order.rows)
      (sym h.order.lattice.popov.size) ∙ whole_sum q.order.rows in
      let j : pivot_sum q.rows n ≡ pivot_degree q.rows = ap (pivot_sum q.rows) (sym h.rows_popov.size)
      ∙ whole_sum q.rows in
      let same : length q.rows ≡ length q.order.rows = h.rows_popov.size ∙ sym h.order.lattice.popov.size in
      difference (dimension q) (pivot_degree q.order.rows) (pivot_degree q.rows)
      (length q.order.rows * (length q.order.den - 1))
      (omega (arith, w, j, count_degrees n q.order.rows q.rows longer q.depth h.deep.bound))
      ∙ ap (λ m. (pos (pivot_degree q.rows) -ℤ pos (m * (length q.order.den - 1))) -ℤ pivot_degree_of q.order)
      (sym same)
      ∙ ap (λ x. x -ℤ pivot_degree_of q.order) (sym ideal_degree)
