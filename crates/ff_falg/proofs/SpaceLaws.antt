-- Kernels as spaces of elements: the nilpotent ones, and those that are their own q-th powers.
use Rattle.std.proofs.Common.{◌≡◌, ℕ, zero, suc, ◌+◌, ◌*◌, ◌^◌, ◌<◌, ◌≤◌, List, [], ◌∷◌, length, get_or, set, replicate, refl, sym, ap, ap₂, ◌∙◌, subst, arith, pow-add, min}
use native.Mathlib.Decide.{ℕ_discrete}
use Rattle.std.proofs.Math.Nat.{mul-le-mul}
use Rattle.std.proofs.lemmas.List.{length-set}
use Rattle.std.proofs.lemmas.List.Elements.{All-set}
use Rattle.ring_lemmas.proofs.Ring.{neg_zero, eq_of_sub, sub_of_eq}
use Rattle.ring_lemmas.specs.Ring.{pow}
use Rattle.ring_lemmas.specs.Lists.{add_lists, neg_list}
use Rattle.ff_fields.specs.Field.{CodeField, sub_of}
use Rattle.ff_fields.specs.Code.{raw_ring, code_ring}
use Rattle.ff_fields.specs.Over.{IsOver, IsOver_head, IsOver_tail, get_or_below}
use Rattle.ff_linalg.specs.Matrix.{MatrixValue, IsMatrixOver, HasShape, matrix_row, entry_of, with_entry}
use Rattle.ff_linalg.specs.Steps.{unit_row}
use Rattle.ff_linalg.specs.Space.{row_product}
use Rattle.ff_linalg.specs.Kernel.{IsKernelBasis}
use Rattle.finite_algebra_theory.specs.ByMap.{Image}
use Rattle.finite_algebra_theory.proofs.Nilpotent.{nilpotent_kernel}
use Rattle.ff_falg.specs.Algebras.{AlgebraOps, IsAlgebra, IsVector, IsNilpotentVector, IsFixedVector, power, zero_of}
use Rattle.ff_falg.specs.Spaces.{IsEchelonBasisMatrix, IsFrobenius}
use Rattle.ff_falg.specs.Steps.{IsIterate, IsProductBelow, IsLessUnit}
use Rattle.ff_falg.proofs.Lists.{code_add_zero, lists_zero}
use Rattle.ff_falg.proofs.UnitRows.{unit_in}
use Rattle.ff_falg.proofs.RowSteps.{row_in, with_row_shape, with_row_over, with_row_same, with_row_other}
use Rattle.ff_falg.proofs.Vectors.{vector_ring, same_vector, zeros_in, power_value, power_in}
use Rattle.ff_falg.proofs.VectorAlgebra.{vector_algebra, scalar, length_scalars, length_basis, basis}
use Rattle.ff_falg.proofs.PowerLaws.{power_power, iterate_values, less_values, by_dimension, once}

-- a square that stops at the greatest number of the program
pub square_low : (r s : ℕ) → 2 ≤ r → s ≡ min (r * r) 18446744073709551615 → 2 ≤ s
square_low r s low is = let l = mul-le-mul low low in omega arith

pub square_high : (r s : ℕ) → s ≡ min (r * r) 18446744073709551615 → s ≤ r * r
square_high r s is = omega arith

module _ (k : CodeField) where
  code_neg_zero : k.neg 0 ≡ 0
  code_neg_zero = ap (λ x. x.0) (neg_zero (code_ring k).ring)

  neg_zeros : (n : ℕ) → neg_list (raw_ring k.ops) (replicate n 0) ≡ replicate n 0
  neg_zeros zero = refl
  neg_zeros (suc n) = ap₂ ◌∷◌ code_neg_zero (neg_zeros n)

  -- a row less a unit row
  less_unit : (row : List ℕ) (i : ℕ) → IsOver k.ops row → i < length row
      → set row i (sub_of k.ops (get_or row i 0) 1)
      ≡ add_lists (raw_ring k.ops) row (neg_list (raw_ring k.ops) (unit_row (length row) i))
  less_unit [] i over less = absurd (omega arith)
  less_unit (x ∷ row) zero over less =
      ap (λ w. k.add x (k.neg 1) ∷ w)
      (sym (ap (add_lists (raw_ring k.ops) row) (neg_zeros (length row)) ∙ lists_zero k row (IsOver_tail over)))
  less_unit (x ∷ row) (suc i) over less =
      ap₂ ◌∷◌ (sym (ap (k.add x) code_neg_zero ∙ code_add_zero k x (IsOver_head over)))
      (less_unit row i (IsOver_tail over) (omega arith))

  pub entry_in : (m : MatrixValue) (n cols i j : ℕ) → HasShape m n cols → IsMatrixOver k.ops m → i < n
      → entry_of m i j < k.size
  entry_in m n cols i j shape over less = get_or_below k (matrix_row m i) j (row_in k m n cols i shape over less).over

  pub less_step : (m now : MatrixValue) (i x : ℕ) → HasShape m m.cols m.cols → i < m.cols
      → x ≡ sub_of k.ops (entry_of now i i) 1 → IsLessUnit k.ops m i now
      → IsLessUnit k.ops m (i + 1) (with_entry now i i x)
  less_step m now i x shape less x_is before = record {
    shape = with_row_shape now m.cols m.cols i _ before.shape (length-set (matrix_row now i) i x ∙ row.size);
    over = with_row_over k now i _ before.over
        (record {
          each = All-set (λ c. c < k.size) (matrix_row now i) i x (subst (λ c. c < k.size) (sym x_is) value_in)
              row.over.each;
        });
    done = λ l h. go l h (ℕ_discrete l i);
    rest = λ l h. with_row_other now i l _ (λ e. omega arith) ∙ before.rest l (omega arith);
  }
    where
      row : IsVector k.ops m.cols (matrix_row now i)
      row = row_in k now m.cols m.cols i before.shape before.over less

      value_in : sub_of k.ops (entry_of now i i) 1 < k.size
      value_in = k.laws.add_below _ _ (get_or_below k (matrix_row now i) i row.over)
          (k.laws.neg_below 1 k.laws.one_below)

      go : (l : ℕ) → l < i + 1 → Dec (l ≡ i) → matrix_row (with_entry now i i x) l
          ≡ add_lists (raw_ring k.ops) (matrix_row m l) (neg_list (raw_ring k.ops) (unit_row m.cols l))
      go l h (yes e) =
          ap (matrix_row (with_entry now i i x)) e
          ∙ with_row_same now i _ (let s = before.shape.row_count in omega arith)
          ∙ ap (set (matrix_row now i) i) x_is
          ∙ less_unit (matrix_row now i) i row.over (let s = row.size in omega arith)
          ∙ ap₂ (λ r n. add_lists (raw_ring k.ops) r (neg_list (raw_ring k.ops) (unit_row n i)))
          (before.rest i (omega arith)) row.size
          ∙ ap (λ j. add_lists (raw_ring k.ops) (matrix_row m j) (neg_list (raw_ring k.ops) (unit_row m.cols j)))
          (sym e)
      go l h (no ne) = with_row_other now i l _ ne ∙ before.done l (omega arith)

  -- the kernel of a square matrix, as a space of vectors
  pub kernel_space : (n : ℕ) (a m : MatrixValue) (space : List ℕ → Type 0) → HasShape a n n → IsKernelBasis k.ops a m
      → ((v : List ℕ) → IsVector k.ops n v → row_product k.ops v a ≡ replicate n 0 → space v)
      → ((v : List ℕ) → IsVector k.ops n v → space v → row_product k.ops v a ≡ replicate n 0)
      → IsEchelonBasisMatrix k.ops n space m
  kernel_space n a m space shape kernel to from = record {
    shape = subst (HasShape m (length m.rows)) shape.row_count kernel.shape;
    over = kernel.over;
    reduced = kernel.reduced;
    row_space = λ v. (
      (λ h.
          let s = (kernel.row_space v).0 h in
          let v_in : IsVector k.ops n v = record { size = s.one_each ∙ shape.row_count; over = s.over } in
          (v_in, to v v_in (s.product ∙ ap (λ c. replicate c 0) shape.col_count))),
      (λ p. (kernel.row_space v).1 (record {
        one_each = p.0.size ∙ sym shape.row_count;
        over = p.0.over;
        product = from v p.0 p.1 ∙ ap (λ c. replicate c 0) (sym shape.col_count);
      })),
    );
  }

module _ (k : CodeField) (A : AlgebraOps) (law : IsAlgebra k A) where
  pub iterate_start : (m : MatrixValue) → IsFrobenius k.ops A m → IsIterate k.ops A k.size m
  iterate_start m h = record {
    shape = h.shape;
    over = h.over;
    times = 1;
    reached = subst (λ n. k.size ≤ n) (sym (once k A law)) (omega arith);
    rows = λ l less. h.rows l less ∙ ap (power k.ops A (unit_row A.size l)) (sym (once k A law));
  }

  pub iterate_step : (bound bound' : ℕ) (m new : MatrixValue) → IsIterate k.ops A bound m
      → IsProductBelow k.ops m m (length m.rows) new
      → bound' ≤ bound * bound → IsIterate k.ops A bound' new
  iterate_step bound bound' m new h p le = record {
    shape = subst (λ c. HasShape new c A.size) h.shape.row_count
        (subst (HasShape new (length m.rows)) h.shape.col_count p.written.shape);
    over = p.written.over;
    times = h.times + h.times;
    reached = subst (λ n. bound' ≤ n) (sym doubled) (let a = mul-le-mul h.reached h.reached in omega arith);
    rows = λ l less.
        let unit = unit_in k A.size l less in
        p.written.rows l (let s = h.shape.row_count in omega arith)
        ∙ iterate_values k A law h.times m h.shape h.rows (matrix_row m l)
        (row_in k m A.size A.size l h.shape h.over less)
        ∙ ap (λ r. power k.ops A r (k.size ^ h.times)) (h.rows l less)
        ∙ power_power k A law (unit_row A.size l) (k.size ^ h.times) (k.size ^ h.times) unit
        ∙ ap (power k.ops A (unit_row A.size l)) (sym doubled);
  }
    where
      doubled : k.size ^ (h.times + h.times) ≡ k.size ^ h.times * k.size ^ h.times
      doubled = pow-add k.size h.times h.times

  -- the nilpotent elements are the kernel of a high iterate
  pub nilpotent_space : (a m : MatrixValue) → IsIterate k.ops A A.size a → IsKernelBasis k.ops a m
      → IsEchelonBasisMatrix k.ops A.size (IsNilpotentVector k.ops A) m
  nilpotent_space a m h kernel =
      kernel_space k A.size a m (IsNilpotentVector k.ops A) h.shape kernel
      (λ v v_in e. record {
        exponent = k.size ^ h.times;
        is = sym
            (iterate_values k A law h.times a h.shape h.rows v v_in) ∙ e;
      })
      (λ v v_in n.
      iterate_values k A law h.times a h.shape h.rows v v_in
      ∙ by_dimension k A law _ _ (power_in k A law v (k.size ^ h.times) v_in) (zeros_in k A.size)
      (λ some. killed some v v_in n))
    where
      killed : 0 < A.size → (v : List ℕ) (v_in : IsVector k.ops A.size v) → IsNilpotentVector k.ops A v
          → power k.ops A v (k.size ^ h.times) ≡ zero_of A
      killed some v v_in n =
          sym (power_value k A law (v, v_in) (k.size ^ h.times))
          ∙ ap (λ y. y.0) (ap (λ e. pow (vector_ring k A law).ops (v, v_in) (e ^ h.times))
          (sym (length_scalars k A law some))
          ∙ (nilpotent_kernel (vector_ring k A law) (Image (scalar k A law)) (vector_algebra k A law some) h.times
          (subst (λ e. length (basis k A law) ≤ e ^ h.times) (sym (length_scalars k A law some))
          (let e = length_basis k A law in let r = h.reached in omega arith))
          (v, v_in)).0 (n.exponent, same_vector k A.size _ _ (power_value k A law (v, v_in) n.exponent ∙ n.is)))

  -- the elements that are their own q-th powers are the kernel of the map a to a^q - a
  pub fixed_space : (f a m : MatrixValue) → IsFrobenius k.ops A f → IsLessUnit k.ops f f.cols a
      → IsKernelBasis k.ops a m
      → IsEchelonBasisMatrix k.ops A.size (IsFixedVector k.ops A) m
  fixed_space f a m h less kernel =
      kernel_space k A.size a m (IsFixedVector k.ops A) shape kernel
      (λ v v_in e. record {
        is =
            ap (λ y. y.0) (eq_of_sub (vector_ring k A law) (power k.ops A v k.size, power_in k A law v k.size v_in)
            (v, v_in)
            (same_vector k A.size _ _ (sym (values v v_in) ∙ e)));
      })
      (λ v v_in s.
      values v v_in
      ∙ ap (λ y. y.0) (sub_of_eq (vector_ring k A law) (power k.ops A v k.size, power_in k A law v k.size v_in)
      (v, v_in)
      (same_vector k A.size _ _ s.is)))
    where
      shape : HasShape a A.size A.size
      shape = subst (λ c. HasShape a c c) h.shape.col_count less.shape

      values : (v : List ℕ) → IsVector k.ops A.size v
          → row_product k.ops v a ≡ add_lists (raw_ring k.ops) (power k.ops A v k.size) (neg_list (raw_ring k.ops) v)
      values =
          less_values k A law a shape (λ l l_less.
          less.done l (let e = h.shape.col_count in omega arith)
          ∙ ap₂ (λ r n. add_lists (raw_ring k.ops) r (neg_list (raw_ring k.ops) (unit_row n l))) (h.rows l l_less)
          h.shape.col_count)
