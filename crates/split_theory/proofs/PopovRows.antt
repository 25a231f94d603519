-- A Popov basis of codes has predictable degrees: those of its pivots.
use Rattle.std.proofs.Common.{◌≡◌, ℕ, suc, ◌-◌, ◌<◌, ◌⊎◌, inl, inr, List, length, get_or, sym, ◌∙◌, subst, arith, All}
use Rattle.std.proofs.lemmas.Int.{ints}
use Rattle.std.proofs.Math.IntN.{ℤ, pos, negsuc, ◌-ℤ◌}
use Rattle.ring_lemmas.proofs.Ring.{one_mul}
use Rattle.ring_theory.proofs.PolynomialRows.{same_entries}
use Rattle.ff_fields.specs.Field.{CodeField}
use Rattle.ff_fields.specs.Code.{code_ring, code_field, code_domain}
use Rattle.ff_poly.specs.Value.{value}
use Rattle.ff_poly.specs.Polynomials.{Polynomial, polynomials, polynomials_domain}
use Rattle.ff_poly.specs.Popov.{row_at, entry_at, IsRow, IsPopovMatrix}
use Rattle.popov_theory.specs.Module.{row_degree}
use Rattle.reduced_basis_theory.specs.Degree.{DegreeAtMost, size}
use Rattle.reduced_basis_theory.specs.Rows.{row_times, IsPredictable}
use Rattle.reduced_basis_theory.proofs.Degree.{decide_zero, degree_of_zero}
use Rattle.reduced_basis_theory.proofs.Powers.{degree_power}
use Rattle.reduced_basis_theory.proofs.WeightedRows.{weighted, entry_weighted, weighted_predictable}
use Rattle.ff_popov.specs.Reading.{row_space, read_rows}
use Rattle.ff_popov.proofs.ReadRows.{entry_read, read_row_at}
use Rattle.ff_popov.proofs.PopovBasis.{basis_length, basis_measured, basis_weak}

module _ (k : CodeField) (w : ℕ) (positive : 0 < w) (m : List (List (List ℕ))) (all : All (IsRow k.ops w) m)
    (popov : IsPopovMatrix w m) where
  -- the entries of the matrix
  abbrev pub matrix : ℕ → ℕ → Polynomial k
  matrix i j = value k (entry_at (row_at m i) j)

  abbrev pub pivot_degrees : ℕ → ℤ
  pivot_degrees i = pos (length (entry_at (row_at m i) i)) -ℤ pos 1

  degrees_are : (i : ℕ) → i < suc (w - 1)
      → pos (row_degree (row_space k w) (get_or (read_rows k w m) i (row_space k w).𝟎)) -ℤ pos 0 ≡ pivot_degrees i
  degrees_are i less =
      let l : i < w = omega (arith, less, positive) in
      let e = (basis_measured k w m all popov i l).1 in
      let some = (popov.pivot_at i l).some in
      omega (arith, ints)

  pub predictable : IsPredictable (code_ring k) (suc (w - 1)) matrix (λ j. pos 0)
      (λ i. pos (row_degree (row_space k w) (get_or (read_rows k w m) i (row_space k w).𝟎)) -ℤ pos 0)
  predictable =
      weighted_predictable (code_ring k) (code_field k) (w - 1) (λ j. (polynomials k).𝟙)
      (λ j. (polynomials_domain k).one_not_zero) (read_rows k w m)
      (omega (arith, basis_length k w m all popov, positive))
      (basis_weak k w m all popov)
      (λ i less z. absurd (omega (arith, z, (basis_measured k w m all popov i (omega (arith, less, positive))).0)))
      matrix rows_are (λ j. pos 0) (pos 0) (λ j less. degree_power (code_ring k) (code_field k) 0)
    where
      rows_are : (i : ℕ) → i < suc (w - 1) → get_or (read_rows k w m) i (row_space k w).𝟎
          ≡ weighted (code_ring k) (code_field k) (w - 1) (λ j. (polynomials k).𝟙)
          (λ j. (polynomials_domain k).one_not_zero) (matrix i)
      rows_are i less =
          read_row_at k w m i
          ∙ same_entries (code_ring k) (suc (w - 1)) _ _ (λ j l.
          entry_read k (suc (w - 1)) j (row_at m i) l
          ∙ sym (entry_weighted (code_ring k) (code_field k) (w - 1) (λ j. (polynomials k).𝟙)
          (λ j. (polynomials_domain k).one_not_zero) (matrix i) j l ∙ one_mul (polynomials k).ring (matrix i j)))

  -- so the rows are independent
  pub regular : (p : ℕ → Polynomial k)
      → ((j : ℕ) → j < suc (w - 1) → row_times (code_ring k) (suc (w - 1)) p matrix j ≡ (polynomials k).𝟘) → (i : ℕ)
      → i < suc (w - 1) → p i ≡ (polynomials k).𝟘
  unfolding size
  regular p null i less =
      let d = pos (row_degree (row_space k w) (get_or (read_rows k w m) i (row_space k w).𝟎)) -ℤ pos 0 in
      let none : (d -ℤ pos 1) -ℤ d ≡ negsuc 0 = omega (arith, ints) in
      zero_of (p i)
      (subst (DegreeAtMost (code_ring k) (p i)) none
      ((predictable p (d -ℤ pos 1)).0 (λ j l. degree_of_zero (code_ring k) (code_domain k) _ _ (null j l)) i less))
    where
      zero_of : (a : Polynomial k) → DegreeAtMost (code_ring k) a (negsuc 0) → a ≡ (polynomials k).𝟘
      zero_of a h = go (decide_zero (code_ring k) (code_domain k) a)
        where
          go : (a ≡ (polynomials k).𝟘) ⊎ (0 < length a.0) → a ≡ (polynomials k).𝟘
          go (inl e) = e
          go (inr l) = absurd (omega (arith, h, l))

  pub split_rows : IsPredictable (code_ring k) (suc (w - 1)) matrix (λ j. pos 0) pivot_degrees
  split_rows p n = (
    λ h i l. subst (λ x. DegreeAtMost (code_ring k) (p i) (n -ℤ x)) (degrees_are i l) ((predictable p n).0 h i l),
    λ h. (predictable p n).1
        (λ i l. subst (λ x. DegreeAtMost (code_ring k) (p i) (n -ℤ x)) (sym (degrees_are i l)) (h i l)),
  )
