-- The measure of the enlargement: the index of an order in the integral functions, as a number that is found for any
-- rows over a polynomial.
use Rattle.std.proofs.Common.{◌≡◌, ℕ, ◌<◌, ◌⊎◌, inl, inr, List}
use Rattle.ff_fields.specs.Field.{CodeField}
use Rattle.ff_fields.specs.Code.{code_field}
use Rattle.ff_poly.specs.Value.{value}
use Rattle.ff_poly.specs.Polynomials.{polynomials, polynomial_discrete}
use Rattle.popov_theory.specs.Span as spans
use Rattle.popov_theory.proofs.Existence.{full_rank_or_not, rank_from_full}
use Rattle.ff_popov.specs.Reading.{row_space, read_rows}
use Rattle.ff_popov.proofs.PopovBasis.{basis_weak, basis_full}
use Rattle.function_field.specs.declared.side.Side.TheVariants.{Finite}
use Rattle.function_field.specs.Places.{IsIntegralAt}
use Rattle.function_field.specs.Functions.{setting_of}
use Rattle.function_field.specs.Discriminant.{discriminant}
use Rattle.function_field.specs.Values.{PresValue, Functions, equation_of}
use Rattle.lattice_theory.specs.Lattices as theory
use Rattle.function_field.specs.Indices.{HasIndex}
use Rattle.lattice_theory.proofs.Operations.{lattice_within}
use Rattle.lattice_theory.proofs.Indices.{index_of, index_less}
use Rattle.order_theory.proofs.IntegralLattice.{integral_lattice}
use Rattle.order_theory.proofs.LocalOrders.{order_integral}
use Rattle.ff_lattice.specs.Lattices.{LatticeValue, Contains}
use Rattle.ff_lattice.specs.Orders.{IsOrderLattice}
use Rattle.ff_lattice.proofs.Divisors.{monic_value}
use Rattle.ff_lattice.proofs.OneForm.{one_form}
use Rattle.ff_lattice.proofs.SpannedSets.{full_from_rank}
use Rattle.ff_order.specs.Steps.{IsTurn}
use Rattle.value_theory.proofs.Bridge.{full_lattice, lattice_set, order_set}

module _ (k : CodeField) (p : PresValue) where
  abbrev Int : Functions k p → Type 0
  Int = IsIntegralAt (setting_of (equation_of k p)) Finite

  module _ (l : LatticeValue) where
    -- rows of full rank over a polynomial span a lattice
    rows_lattice : ¬ (value k l.den ≡ (polynomials k).𝟘) → spans.HasFullRank (row_space k p.n) (read_rows k p.n l.rows)
        → theory.IsLattice (equation_of k p) (Contains k p l)
    rows_lattice some full = full_lattice k p l (full_from_rank k p l.den some l.rows full)

    index_within : ¬ (discriminant (equation_of k p) ≡ (polynomials k).𝟘)
        → theory.IsLattice (equation_of k p) (Contains k p l)
        → Dec ((z : Functions k p) → Contains k p l z → IsIntegralAt (setting_of (equation_of k p)) Finite z) → ℕ
    index_within some lattice (yes within) =
        (index_of (equation_of k p) (Contains k p l) Int lattice (integral_lattice (equation_of k p) some) within).0
    index_within some lattice (no n) = 0

    index_full : ¬ (discriminant (equation_of k p) ≡ (polynomials k).𝟘) → ¬ (value k l.den ≡ (polynomials k).𝟘)
        → spans.HasFullRank (row_space k p.n) (read_rows k p.n l.rows)
        ⊎ (spans.HasFullRank (row_space k p.n) (read_rows k p.n l.rows) → ⊥) → ℕ
    index_full some den_some (inl full) =
        let lattice = rows_lattice den_some full in
        index_within some lattice (lattice_within (equation_of k p) (Contains k p l) Int lattice
        (integral_lattice (equation_of k p) some))
    index_full some den_some (inr none) = 0

    index_by : Dec (discriminant (equation_of k p) ≡ (polynomials k).𝟘) → Dec (value k l.den ≡ (polynomials k).𝟘) → ℕ
    index_by (no some) (no den_some) = index_full some den_some
        (full_rank_or_not (row_space k p.n) (code_field k) (read_rows k p.n l.rows))
    index_by (yes null) d = 0
    index_by (no some) (yes null) = 0

    -- the index of the lattice of the rows in the integral functions, and 0 where there is none
    pub measure : ℕ
    measure = index_by (polynomial_discrete k (discriminant (equation_of k p)) (polynomials k).𝟘)
        (polynomial_discrete k (value k l.den) (polynomials k).𝟘)

    -- it is the index of each order
    module _ (positive : 0 < p.n) (some : ¬ (discriminant (equation_of k p) ≡ (polynomials k).𝟘))
        (order : IsOrderLattice k p l) where
      integral : (z : Functions k p) → Contains k p l z → IsIntegralAt (setting_of (equation_of k p)) Finite z
      integral = order_integral (equation_of k p) (Contains k p l) (order_set k p positive l order)

      full : spans.HasFullRank (row_space k p.n) (read_rows k p.n l.rows)
      full =
          rank_from_full (row_space k p.n) (code_field k) (read_rows k p.n l.rows)
          (basis_weak k p.n l.rows order.lattice.rows_in order.lattice.popov)
          (basis_full k p.n l.rows order.lattice.rows_in order.lattice.popov positive)

      within_is : (n : ¬ (discriminant (equation_of k p) ≡ (polynomials k).𝟘))
          (lattice : theory.IsLattice (equation_of k p) (Contains k p l))
          (d : Dec ((z : Functions k p) → Contains k p l z → IsIntegralAt (setting_of (equation_of k p)) Finite z))
          → HasIndex (equation_of k p) (Contains k p l) (IsIntegralAt (setting_of (equation_of k p)) Finite)
          (index_within n lattice d)
      unfolding index_within
      within_is n lattice (yes within) =
          (index_of (equation_of k p) (Contains k p l) Int lattice (integral_lattice (equation_of k p) n) within).1
      within_is n lattice (no m) = absurd (m integral)

      full_is : (n : ¬ (discriminant (equation_of k p) ≡ (polynomials k).𝟘)) (m : ¬ (value k l.den ≡ (polynomials k).𝟘))
          (d : spans.HasFullRank (row_space k p.n) (read_rows k p.n l.rows)
          ⊎ (spans.HasFullRank (row_space k p.n) (read_rows k p.n l.rows) → ⊥))
          → HasIndex (equation_of k p) (Contains k p l) (IsIntegralAt (setting_of (equation_of k p)) Finite)
          (index_full n m d)
      unfolding index_full
      full_is n m (inl f) =
          let lattice = rows_lattice m f in
          within_is n lattice (lattice_within (equation_of k p) (Contains k p l) Int lattice
          (integral_lattice (equation_of k p) n))
      full_is n m (inr none) = absurd (none full)

      by_is : (d : Dec (discriminant (equation_of k p) ≡ (polynomials k).𝟘))
          (e : Dec (value k l.den ≡ (polynomials k).𝟘))
          → HasIndex (equation_of k p) (Contains k p l) (IsIntegralAt (setting_of (equation_of k p)) Finite)
          (index_by d e)
      unfolding index_by
      by_is (no n) (no m) = full_is n m (full_rank_or_not (row_space k p.n) (code_field k) (read_rows k p.n l.rows))
      by_is (yes null) e = absurd (some null)
      by_is (no n) (yes null) = absurd (monic_value k l.den order.lattice.den_in order.lattice.den_poly
          order.lattice.monic null)

      pub measure_is : HasIndex (equation_of k p) (Contains k p l) (IsIntegralAt (setting_of (equation_of k p)) Finite)
          measure
      unfolding measure
      measure_is = by_is (polynomial_discrete k (discriminant (equation_of k p)) (polynomials k).𝟘)
          (polynomial_discrete k (value k l.den) (polynomials k).𝟘)

  -- a turn that isn't the last lowers it
  pub turn_smaller : 0 < p.n → ¬ (discriminant (equation_of k p) ≡ (polynomials k).𝟘)
      → (pi : List ℕ) (cur next : LatticeValue) → IsOrderLattice k p cur → IsTurn k p pi cur next
      → ¬ (next ≡ cur) → measure next < measure cur
  turn_smaller positive some pi cur next order t differ =
      index_less (equation_of k p) (Contains k p cur) (Contains k p next) Int
      (lattice_set k p positive cur order.lattice)
      (lattice_set k p positive next t.order.lattice) (integral_lattice (equation_of k p) some) t.has
      (integral next positive some t.order)
      (λ back. differ (one_form k p next cur t.order.lattice order.lattice (λ z. (back z, t.has z)) positive))
      (measure cur) (measure next) (measure_is cur positive some order) (measure_is next positive some t.order)
