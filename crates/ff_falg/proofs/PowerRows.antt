-- The rows e, x·e, x·x·e, .. of a matrix.
use Rattle.std.proofs.Common.{◌≡◌, ℕ, zero, suc, ◌+◌, ◌-◌, ◌<◌, ◌≤◌, List, [], ◌∷◌, length, refl, sym, ap, ◌∙◌, subst, arith}
use Rattle.std.proofs.lemmas.List.Elements.{All-nil, All-cons}
use Rattle.ff_fields.specs.Field.{CodeField}
use Rattle.ff_fields.specs.Over.{IsOver}
use Rattle.ff_linalg.specs.Matrix.{MatrixValue, HasShape, matrix_row, zero_matrix}
use Rattle.ff_falg.specs.Algebras.{AlgebraOps, IsAlgebra, IsVector, power}
use Rattle.ff_falg.specs.Steps.{HasRowsBelow, with_matrix_row}
use Rattle.ff_falg.specs.Relations.{AreWritten, IsPowers, IsPowersBelow, IsFirstRow}
use Rattle.ff_falg.proofs.Vectors.{power_in}
use Rattle.ff_falg.proofs.RowSteps.{holds_step, zero_holds}

module _ (k : CodeField) (A : AlgebraOps) (law : IsAlgebra k A) (x : List ℕ) (x_in : IsVector k.ops A.size x) where
  -- power l, times e
  abbrev pub at : List ℕ → ℕ → List ℕ
  at e l = A.product k.ops (power k.ops A x l) e

  pub at_in : (e : List ℕ) (l : ℕ) → IsVector k.ops A.size e → IsVector k.ops A.size (at e l)
  at_in e l e_in = law.product_in (power k.ops A x l) e (power_in k A law x l x_in) e_in

  pub next_at : (e : List ℕ) (l : ℕ) → IsVector k.ops A.size e → 0 < l → A.product k.ops x (at e (l - 1)) ≡ at e l
  next_at e l e_in some =
      sym (law.associative x (power k.ops A x (l - 1)) e x_in (power_in k A law x (l - 1) x_in) e_in)
      ∙ ap (at e) (let h : suc (l - 1) ≡ l = omega arith in h)

  pub powers_first : (e : List ℕ) (m : MatrixValue) → IsVector k.ops A.size e → 0 < length m.rows
      → IsPowers k.ops A x e m → matrix_row m 0 ≡ e
  powers_first e m e_in some h = h.written.rows 0 some ∙ law.unit_times e e_in

  pub single_powers : (e : List ℕ) (m : MatrixValue) → IsVector k.ops A.size e → IsFirstRow e m → IsPowers k.ops A x e m
  single_powers e m e_in is =
      subst (IsPowers k.ops A x e) (sym is) (record {
        written = record {
          shape = record {
            row_count = refl;
            col_count = e_in.size;
            each = All-cons (λ r. length r ≡ A.size) e [] e_in.size (All-nil (λ r. length r ≡ A.size));
          };
          over = record { each = All-cons (IsOver k.ops) e [] e_in.over (All-nil (IsOver k.ops)) };
          rows = first;
        };
      })
    where
      first : (l : ℕ) → l < 1 → matrix_row (record { cols = length e; rows = e ∷ [] }) l ≡ at e l
      first zero less = sym (law.unit_times e e_in)
      first (suc l) less = absurd (omega arith)

  pub written_start : (e : List ℕ) (count : ℕ) (m : MatrixValue) → m ≡ zero_matrix count A.size
      → AreWritten k.ops A x e count 0 m
  written_start e count m is =
      subst (AreWritten k.ops A x e count 0) (sym is)
      (record { size = (zero_holds k (at e) count A.size).shape.row_count; written = zero_holds k (at e) count A.size })

  pub written_step : (e : List ℕ) (count l : ℕ) (m new : MatrixValue) (row : List ℕ) → IsVector k.ops A.size e
      → l < count
      → row ≡ at e l → new ≡ with_matrix_row m l row → AreWritten k.ops A x e count l m
      → AreWritten k.ops A x e count (l + 1) new
  written_step e count l m new row e_in less row_is new_is before =
      let h = holds_step k (at e) count A.size l m new row less (at_in e l e_in) row_is new_is before.written in
      record { size = h.shape.row_count; written = h }

  pub written_below : (e : List ℕ) (count l : ℕ) (m : MatrixValue) → AreWritten k.ops A x e count l m
      → IsPowersBelow k.ops A x e l m
  written_below e count l m h = record {
    written = subst (λ n. HasRowsBelow k.ops (at e) n A.size l m) (sym h.size)
        h.written;
  }

  pub written_all : (e : List ℕ) (count l : ℕ) (m : MatrixValue) → count ≤ l → AreWritten k.ops A x e count l m
      → IsPowers k.ops A x e m
  written_all e count l m le h = record {
    written = record {
      shape = subst (λ n. HasShape m n A.size) (sym h.size) h.written.shape;
      over = h.written.over;
      rows = λ i less. h.written.rows i (let s = h.size in omega arith);
    };
  }
