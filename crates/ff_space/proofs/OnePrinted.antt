-- A space is printed in one way: two least denominators divide each other, and the reduced echelon form is one.
use Rattle.std.proofs.Common.{◌≡◌, ℕ, ◌*◌, ◌≤◌, List, [], ◌∷◌, length, refl, sym, ◌∙◌, ap, ap₂, subst, arith, ◌↔◌, All}
use Rattle.ff_fields.specs.Field.{CodeField}
use Rattle.ff_fields.specs.Code.{Code, code_ring}
use Rattle.ff_fields.specs.Over.{IsOver}
use Rattle.ff_poly.specs.Words.{DividesList}
use Rattle.ff_poly.specs.Value.{value}
use Rattle.ff_poly.specs.Polynomials.{polynomials}
use Rattle.ring_lemmas.specs.Ring.{CommRing}
use Rattle.linear_theory.specs.Echelon.{SameRowSpace, InRowSpace, row}
use Rattle.linear_theory.specs.Euclidean.{IsDivisorIn}
use Rattle.linear_theory.proofs.Echelon.{same_rank}
use Rattle.polynomial_theory.proofs.Divisors.{divisor_of_divides, monic_unique}
use Rattle.ff_linalg.specs.Forms.{sequences_of, IsReducedBelow}
use Rattle.ff_linalg.specs.Matrix.{MatrixValue, HasShape, IsMatrixOver}
use Rattle.ff_linalg.specs.Space.{IsInRowSpace, IsReducedForm}
use Rattle.ff_linalg.proofs.Beside.{domain_of_codes}
use Rattle.ff_linalg.proofs.Bridge.{codes_of_form}
use Rattle.ff_linalg.proofs.Unique.{rows_within, unique_form}
use Rattle.function_field.specs.Values.{ElemValue, PresValue, Functions}
use Rattle.ff_written.proofs.OneWritten.{one_written}
use Rattle.ff_text.specs.Printed.{WrittenValue}
use Rattle.ff_space.specs.Spaces.{SpaceValue, AreRowFunctions, IsPrintedSpace, IsPrintedBasis, written}
use Rattle.ff_space.specs.Vectors.{over_den, IsVectorOf, HaveVectors}

-- matrices in reduced form without a row that is 0, of one width and one row space, are the same
module _ (k : CodeField) (a b : MatrixValue) (cols : ℕ) (a_shape : HasShape a (length a.rows) cols)
    (b_shape : HasShape b (length b.rows) cols) (a_in : IsMatrixOver k.ops a) (b_in : IsMatrixOver k.ops b)
    (f : IsReducedForm k.ops a (length a.rows)) (g : IsReducedForm k.ops b (length b.rows))
    (same : (v : List ℕ) → IsInRowSpace k.ops a v ↔ IsInRowSpace k.ops b v) where
  abbrev R : CommRing (Code k)
  R = (code_ring k).ring

  cols_same : a.cols ≡ b.cols
  cols_same = a_shape.col_count ∙ sym b_shape.col_count

  a_wide : All (λ r. length r ≡ a.cols) a.rows
  a_wide = subst (λ n. All (λ r. length r ≡ n) a.rows) (sym a_shape.col_count) a_shape.each

  b_wide : All (λ r. length r ≡ b.cols) b.rows
  b_wide = subst (λ n. All (λ r. length r ≡ n) b.rows) (sym b_shape.col_count) b_shape.each

  spaces : SameRowSpace R.ops a.cols (sequences_of k a.rows) (sequences_of k b.rows)
  spaces = record {
    first_in = rows_within k a b cols_same a_in b_in a_wide (λ v. (same v).0);
    second_in = λ i l.
        subst (λ n. InSpace n i) (sym cols_same) (rows_within k b a (sym cols_same) b_in a_in b_wide (λ v.
        (same v).1) i l);
  }
    where
      InSpace : ℕ → ℕ → Type 0
      InSpace n i = InRowSpace R.ops n (sequences_of k a.rows) (row R.ops (sequences_of k b.rows) i)

  count_same : length a.rows ≡ length b.rows
  count_same =
      let x : IsReducedBelow k a.cols a.rows (length a.rows) = codes_of_form k a (length a.rows) f in
      let y : IsReducedBelow k a.cols b.rows (length b.rows)
      = subst (λ n. IsReducedBelow k n b.rows (length b.rows)) (sym cols_same) (codes_of_form k b (length b.rows) g) in
      sym x.rank_is
      ∙ same_rank (domain_of_codes k) a.cols (sequences_of k a.rows) (sequences_of k b.rows) x.form y.form spaces
      ∙ y.rank_is

  pub one_matrix : a ≡ b
  one_matrix =
      (unique_form k a b (length a.rows) (length b.rows)
      (record { row_count = refl; col_count = refl; each = a_wide })
      (record {
        row_count = sym count_same;
        col_count = sym cols_same;
        each = subst (λ n. All (λ r. length r ≡ n) b.rows) (sym cols_same) b_wide;
      }) a_in b_in f g same).0

module _ (k : CodeField) (p : PresValue) (some_n : 1 ≤ p.n) where
  one_list : (den : List ℕ) (width : ℕ) (rows : List (List ℕ)) (zs ws : List ElemValue)
      → AreRowFunctions k p den width rows zs → AreRowFunctions k p den width rows ws → zs ≡ ws
  one_list den width [] zs ws h g = h ∙ sym g
  one_list den width (r ∷ rows) [] ws h g = absurd h
  one_list den width (r ∷ rows) (z ∷ zs) [] h g = absurd g
  one_list den width (r ∷ rows) (z ∷ zs) (w ∷ ws) h g =
      ap₂ ◌∷◌
      (ap (λ (x : WrittenValue). record { num = x.num; den = x.den })
      (one_written k p some_n (over_den k p den width r) (written z) (written w) h.0 g.0))
      (one_list den width rows zs ws h.1 g.1)

  module _ (In : Functions k p → Type 0) (s t : SpaceValue) (a : IsPrintedSpace k p In s) (b : IsPrintedSpace k p In t)
    where
      divides : (d e : List ℕ) → IsOver k.ops d → DividesList k.ops d e
          → IsDivisorIn (polynomials k).ops (value k d) (value k e)
      divides d e d_in h = (value k h.quotient, divisor_of_divides k d e d_in h)

      den_same : s.den ≡ t.den
      den_same =
          monic_unique k s.den t.den a.form.den_over b.form.den_over a.form.monic b.form.monic
          (divides s.den t.den a.form.den_over (a.least_den t.den t.width b.form.den_over b.form.monic b.vectors))
          (divides t.den s.den b.form.den_over (b.least_den s.den s.width a.form.den_over a.form.monic a.vectors))

      width_same : s.width ≡ t.width
      width_same =
          let l = a.least_width t.width (subst (λ d. HaveVectors k p In d t.width) (sym den_same) b.vectors) in
          let m = b.least_width s.width (subst (λ d. HaveVectors k p In d s.width) den_same a.vectors) in
          omega (arith, l, m)

      vectors_same : (v : List ℕ) → IsVectorOf k p In t.den t.width v ↔ IsVectorOf k p In s.den s.width v
      vectors_same v =
          subst (λ w. IsVectorOf k p In t.den t.width v ↔ IsVectorOf k p In s.den w v) (sym width_same)
          (subst (λ d. IsVectorOf k p In t.den t.width v ↔ IsVectorOf k p In d t.width v) (sym den_same)
          (λ h. h, λ h. h))

      rows_same : s.rows ≡ t.rows
      rows_same =
          one_matrix k s.rows t.rows (p.n * s.width) a.form.shape
          (subst (λ w. HasShape t.rows (length t.rows.rows) (p.n * w)) (sym width_same) b.form.shape) a.form.over
          b.form.over a.reduced b.reduced
          (λ v. (
            λ h. (b.row_space v).1 ((vectors_same v).1 ((a.row_space v).0 h)),
            λ h. (a.row_space v).1 ((vectors_same v).0 ((b.row_space v).0 h)),
          ))

      pub one_space : s.functions ≡ t.functions
      one_space =
          one_list t.den t.width t.rows.rows s.functions t.functions
          (subst (λ m. AreRowFunctions k p t.den t.width m s.functions) (ap (λ (m : MatrixValue). m.rows) rows_same)
          (subst (λ w. AreRowFunctions k p t.den w s.rows.rows s.functions) width_same
          (subst (λ d. AreRowFunctions k p d s.width s.rows.rows s.functions) den_same a.form.functions)))
          b.form.functions

  pub one_basis : (In : Functions k p → Type 0) (zs ws : List ElemValue) → IsPrintedBasis k p In zs
      → IsPrintedBasis k p In ws → zs ≡ ws
  one_basis In zs ws a b = a.are ∙ one_space In a.space b.space a.printed b.printed ∙ sym b.are
