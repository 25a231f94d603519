-- Indices: the relative index of two lattices of codes is the difference of their pivot degrees.
use Rattle.std.proofs.Common.{◌≡◌, ℕ, suc, ◌-◌, ◌<◌, List, [], ◌∷◌, refl, sym, ◌∙◌, ap, subst, arith}
use Rattle.std.proofs.lemmas.Int.{ints}
use Rattle.std.proofs.Math.IntN.{ℤ, pos, ◌-ℤ◌}
use Rattle.ring_lemmas.specs.Ring.{CommRing}
use Rattle.ring_lemmas.specs.Rows.{row_scale}
use Rattle.ring_lemmas.proofs.Rows.{row_scale_scale}
use Rattle.ff_fields.specs.Field.{CodeField}
use Rattle.ff_fields.specs.Over.{IsOver_nil, IsOver_cons}
use Rattle.ff_poly.specs.Words.{product_of}
use Rattle.ff_poly.specs.PolyOver.{IsOver_product_of}
use Rattle.ff_poly.specs.Value.{value, value_product}
use Rattle.ff_poly.specs.Polynomials.{Polynomial, polynomials}
use Rattle.ff_poly.proofs.Parts.{IsMonic_product}
use Rattle.function_field.specs.Values.{PresValue, Functions, equation_of}
use Rattle.trace_theory.specs.Traces.{HasPolynomialCoordinates}
use Rattle.ideal_theory.specs.Indices.{HasRelativeIndex}
use Rattle.ideal_theory.proofs.RelativeIndex.{relative_in, relative_same}
use Rattle.ff_lattice.specs.Lattices.{LatticeValue, Contains, pivot_degree_of}
use Rattle.ff_lattice.proofs.Divisors.{monic_value}
use Rattle.ff_popov.specs.Reading.{read_rows}
use Rattle.ff_lattice.proofs.Elements.{in_span_of}
use Rattle.ff_lattice.proofs.Members.{Member}
use Rattle.ff_lattice.proofs.Fracs.{over_eq}
use Rattle.ff_lattice.proofs.PivotIndices.{IsOverMonic, number, number_is, index_number_is}
use Rattle.value_theory.proofs.Bridge.{full_lattice}
use Rattle.ff_lattice.proofs.UnitRows.{unit_rows_length, unit_degree}
use Rattle.value_theory.proofs.UnitRows.{unit_lattice, unit_over_monic, unit_members, unit_full, coordinate_members}

module _ (k : CodeField) (p : PresValue) where
  abbrev S : CommRing (Polynomial k)
  S = (polynomials k).ring

  module _ (positive : 0 < p.n) where
    -- a lattice lies in that of the unit rows over a multiple of its denominator
    in_units : (a : LatticeValue) → IsOverMonic k p a
        → (den : List ℕ) (some : ¬ (value k den ≡ (polynomials k).𝟘)) (e : Polynomial k)
        → value k den ≡ (polynomials k).◌⊗◌ (value k a.den) e → (z : Functions k p) → Contains k p a z
        → Contains k p (unit_lattice p.n den) z
    in_units a over_a den some e den_is z h =
        subst (Contains k p (unit_lattice p.n den))
        (sym (m.is
        ∙ over_eq (equation_of k p) m.numerator (row_scale S.ops (suc (p.n - 1)) e m.numerator) (value k a.den)
        (value k den) a_some some
        (ap (λ d. row_scale S.ops (suc (p.n - 1)) d m.numerator) den_is
        ∙ row_scale_scale S (suc (p.n - 1)) (value k a.den) e m.numerator)))
        (unit_members k p positive den some (row_scale S.ops (suc (p.n - 1)) e m.numerator))
      where
        a_some : ¬ (value k a.den ≡ (polynomials k).𝟘)
        a_some = monic_value k a.den over_a.den_in over_a.den_poly over_a.monic

        m : Member (equation_of k p) (value k a.den) a_some (read_rows k p.n a.rows) z
        m = (in_span_of k p a.den a_some a.rows z).0 h

    module _ (a b : LatticeValue) (over_a : IsOverMonic k p a) (over_b : IsOverMonic k p b) where
      den : List ℕ
      den = product_of k.ops a.den b.den

      common : IsOverMonic k p (unit_lattice p.n den)
      unfolding den
      common =
          unit_over_monic k p (product_of k.ops a.den b.den) (IsOver_product_of k over_a.den_in over_b.den_in)
          (IsMonic_product k a.den b.den over_a.den_in over_b.den_in over_a.monic over_b.monic)

      some : ¬ (value k den ≡ (polynomials k).𝟘)
      some = monic_value k den common.den_in common.den_poly common.monic

      den_is : value k den ≡ S.◌⊗◌ (value k a.den) (value k b.den)
      unfolding den
      den_is = value_product k a.den b.den over_a.den_in over_b.den_in

      first : (z : Functions k p) → Contains k p a z → Contains k p (unit_lattice p.n den) z
      first = in_units a over_a den some (value k b.den) den_is

      second : (z : Functions k p) → Contains k p b z → Contains k p (unit_lattice p.n den) z
      second = in_units b over_b den some (value k a.den) (den_is ∙ S.mul_comm (value k a.den) (value k b.den))

      pub relative_degrees : HasRelativeIndex (equation_of k p) (Contains k p a) (Contains k p b)
          (pivot_degree_of a -ℤ pivot_degree_of b)
      relative_degrees =
          let U = unit_lattice p.n den in
          let g = number k p positive a U over_a common first in
          let h = number k p positive b U over_b common second in
          relative_in (equation_of k p) (Contains k p a) (Contains k p b) (Contains k p U)
          (full_lattice k p U (unit_full k p positive den some)) first second g h
          (pivot_degree_of a -ℤ pivot_degree_of b)
          (index_number_is k p positive a U over_a common first)
          (index_number_is k p positive b U over_b common second)
          (difference (pivot_degree_of a) (pivot_degree_of b) (pivot_degree_of U) g h
          (number_is k p positive a U over_a common first) (number_is k p positive b U over_b common second))
        where
          difference : (x y u : ℤ) (g h : ℕ) → pos g ≡ x -ℤ u → pos h ≡ y -ℤ u → x -ℤ y ≡ pos g -ℤ pos h
          difference x y u g h i j = omega (arith, ints)

    -- k[x][y] as a lattice of codes
    abbrev U : LatticeValue
    U = unit_lattice p.n (1 ∷ [])

    over_u : IsOverMonic k p U
    over_u = unit_over_monic k p (1 ∷ []) (IsOver_cons k.laws.one_below IsOver_nil) ([], refl)

    unit_pivot_degree : pivot_degree_of U ≡ pos 0
    unit_pivot_degree = omega (arith, ints, unit_degree p.n, unit_rows_length p.n p.n)

    less_none : (x y : ℤ) → y ≡ pos 0 → x -ℤ y ≡ x
    less_none x y e = omega (arith, ints)

    -- relative to k[x][y] the index is the pivot degree
    pub coordinate_degree : (a : LatticeValue) → IsOverMonic k p a
        → HasRelativeIndex (equation_of k p) (Contains k p a) (HasPolynomialCoordinates (equation_of k p))
        (pivot_degree_of a)
    coordinate_degree a over_a =
        relative_same (equation_of k p) (Contains k p a) (Contains k p a) (Contains k p U)
        (HasPolynomialCoordinates (equation_of k p))
        (λ z. (λ x. x, λ x. x)) (coordinate_members k p positive) (pivot_degree_of a)
        (subst (HasRelativeIndex (equation_of k p) (Contains k p a) (Contains k p U))
        (less_none (pivot_degree_of a) (pivot_degree_of U) unit_pivot_degree) (relative_degrees a U over_a over_u))
