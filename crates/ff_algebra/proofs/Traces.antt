-- The trace of a row, one power of y after another, and the trace of an element.
use Rattle.std.proofs.Common.{◌≡◌, ℕ, zero, suc, ◌+◌, ◌-◌, ◌<◌, List, [], ◌∷◌, get_or, refl, sym, ap, ap₂, ◌∙◌, arith, add-one}
use Rattle.ring_lemmas.specs.Rows.{Row, entry, y_to, row_times, diagonal_sum, row_trace, row_one, row_mul}
use Rattle.ring_lemmas.proofs.Rows.{pair_path, row_mul_one, times_times_y}
use Rattle.ff_fields.specs.Field.{CodeField}
use Rattle.ff_fields.specs.Over.{IsOver}
use Rattle.ff_poly.specs.Words.{sum_of}
use Rattle.ff_poly.specs.Value.{value, value_sum}
use Rattle.ff_poly.specs.Polynomials.{Polynomial, polynomials, value_nil}
use Rattle.function_field.specs.Functions.{pair_trace, trace_function}
use Rattle.function_field.specs.Values.{ElemValue, PresValue, IsElem, IsMonicElem, row_of_list, equation_of, row_over, function_of, setting}
use Rattle.ff_algebra.specs.RowProducts.{row_at, y_times}
use Rattle.function_field.proofs.SameValues.{elem_den, row_over_num, row_over_den}
use Rattle.ff_algebra.proofs.RowProducts.{row_of_zeros}
use Rattle.ff_algebra.proofs.ElemParts.{function_parts}

module _ (k : CodeField) where
  entry_of_list : (n i : ℕ) (vs : List (List ℕ)) → i < n
      → entry (polynomials k).ops n i (row_of_list k n vs) ≡ value k (get_or vs i [])
  unfolding entry
  entry_of_list zero i vs less = absurd (omega arith)
  entry_of_list (suc n) zero [] less = sym (value_nil k)
  entry_of_list (suc n) zero (v ∷ vs) less = refl
  entry_of_list (suc n) (suc i) [] less = entry_of_list n i [] (omega arith) ∙ refl
  entry_of_list (suc n) (suc i) (v ∷ vs) less = entry_of_list n i vs (omega arith)

module _ (k : CodeField) (p : PresValue) where
  -- the row times y^i, and the sum of the first i entries of the diagonal
  abbrev pub times_power : Row (Polynomial k) (suc (p.n - 1)) → ℕ → Row (Polynomial k) (suc (p.n - 1))
  times_power v i = row_times (polynomials k).ops (suc (p.n - 1)) (suc (p.n - 1)) (equation_of k p).coefficients v
      (y_to (polynomials k).ops (p.n - 1) (equation_of k p).coefficients i)

  abbrev pub diagonal : Row (Polynomial k) (suc (p.n - 1)) → ℕ → Polynomial k
  diagonal v i = diagonal_sum (polynomials k).ops (p.n - 1) i (equation_of k p).coefficients v

  pub trace_start : (v : Row (Polynomial k) (suc (p.n - 1))) → v ≡ times_power v 0
  unfolding y_to row_mul row_one
  trace_start v = sym (row_mul_one (polynomials k).ring (p.n - 1) (equation_of k p).coefficients v)

  pub sum_start : (v : Row (Polynomial k) (suc (p.n - 1))) → value k [] ≡ diagonal v 0
  unfolding diagonal_sum
  sum_start v = value_nil k

  pub trace_more : (v : Row (Polynomial k) (suc (p.n - 1))) (i : ℕ) (old new : List (List ℕ))
      → row_at k p old ≡ times_power v i → row_at k p new ≡ y_times k p (row_at k p old)
      → row_at k p new ≡ times_power v (i + 1)
  unfolding y_to
  trace_more v i old new old_is new_is =
      new_is ∙ ap (y_times k p) old_is
      ∙ sym (times_times_y (polynomials k).ring (suc (p.n - 1)) (equation_of k p).coefficients (suc (p.n - 1)) v
      (y_to (polynomials k).ops (p.n - 1) (equation_of k p).coefficients i))
      ∙ ap (times_power v) (sym (add-one i))

  pub sum_more : (v : Row (Polynomial k) (suc (p.n - 1))) (i : ℕ) (row : List (List ℕ)) (sum a new : List ℕ)
      → i < suc (p.n - 1) → row_at k p row ≡ times_power v i → value k sum ≡ diagonal v i
      → a ≡ get_or row i [] → IsOver k.ops sum → IsOver k.ops a → new ≡ sum_of k.ops sum a
      → value k new ≡ diagonal v (i + 1)
  unfolding diagonal_sum
  sum_more v i row sum a new less row_is sum_is a_is sum_in a_in new_is =
      ap (value k) new_is ∙ value_sum k sum a sum_in a_in
      ∙ ap₂ (polynomials k).◌⊕◌ sum_is (ap (value k) a_is ∙ sym (entry_of_list k (suc (p.n - 1)) i row less)
      ∙ ap (entry (polynomials k).ops (suc (p.n - 1)) i) row_is)
      ∙ ap (diagonal v) (sym (add-one i))

  pub trace_end : (v : Row (Polynomial k) (suc (p.n - 1))) (i : ℕ) → i ≡ suc (p.n - 1)
      → diagonal v i ≡ row_trace (polynomials k).ops (p.n - 1) (equation_of k p).coefficients v
  unfolding row_trace
  trace_end v i all = ap (diagonal v) all

  -- the trace of an element
  pub trace_parts : (a : ElemValue) (n : ℕ) (t d : List ℕ) → IsElem k.ops n a → IsMonicElem a
      → value k t ≡ row_trace (polynomials k).ops (p.n - 1) (equation_of k p).coefficients (row_at k p a.num)
      → d ≡ a.den
      → (setting k p).trace (function_of k p a) ≡ function_of k p (record { num = t ∷ []; den = d })
  trace_parts a n t d a_in a_monic num den =
      trace_function (equation_of k p) (row_over k p a)
      ∙ sym (function_parts k p (record { num = t ∷ []; den = d }) (pair_trace (equation_of k p) (row_over k p a))
      (pair_path (num ∙ ap (row_trace (polynomials k).ops (p.n - 1) (equation_of k p).coefficients)
      (sym (row_over_num k p a))) (row_of_zeros k (p.n - 1) 0))
      (ap (value k) den ∙ sym (row_over_den k p a (elem_den k p a n a_in a_monic))))
