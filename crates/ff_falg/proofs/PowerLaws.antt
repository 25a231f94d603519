-- Powers of vectors, and the matrix whose rows are powers of the unit rows.
use Rattle.std.proofs.Common.{◌≡◌, ℕ, zero, suc, ◌+◌, ◌*◌, ◌/◌, ◌%◌, ◌^◌, ◌<◌, List, [], ◌∷◌, map, All, refl, sym, ap, ap₂, ◌∙◌, arith}
use Rattle.std.proofs.Math.Nat.{pow-zero, pow-suc, one-mul}
use Rattle.std.proofs.lemmas.List.{length-map, get_or-map, same_lists, nil_from_length, get_or_default}
use Rattle.std.proofs.lemmas.List.Elements.{All-head, All-tail}
use Rattle.ring_lemmas.specs.Ring.{CommRing, pow}
use Rattle.ring_lemmas.specs.Lists.{add_lists, neg_list}
use Rattle.ring_lemmas.proofs.Solver.{ring, reads, from_one}
use Rattle.ring_lemmas.proofs.Ring.{pow_add, pow_mul, mul_pow}
use Rattle.ff_fields.specs.Field.{CodeField}
use Rattle.ff_fields.specs.Code.{raw_ring}
use Rattle.ff_fields.specs.Numbers.{read}
use Rattle.linear_theory.specs.Module.{combination as row_combination}
use Rattle.ff_linalg.specs.Matrix.{MatrixValue, IsMatrixOver, HasShape, matrix_row}
use Rattle.ff_linalg.specs.Steps.{unit_row}
use Rattle.ff_linalg.specs.Space.{row_ops, row_product}
use Rattle.finite_algebra_theory.specs.ByMap.{Image}
use Rattle.finite_algebra_theory.specs.Horner.{combination}
use Rattle.finite_algebra_theory.proofs.Horner.{iterate_combination}
use Rattle.ff_falg.specs.Algebras.{AlgebraOps, IsAlgebra, IsVector, power}
use Rattle.ff_falg.specs.Spaces.{IsFrobenius}
use Rattle.ff_falg.proofs.UnitRows.{unit_rows, unit_rows_in, unit_rows_get, length_unit_rows, combination_units}
use Rattle.ff_falg.proofs.Vectors.{Vector, vector_ring, same_vector, power_value, power_in, sum_in, neg_in}
use Rattle.ff_falg.proofs.VectorAlgebra.{vectors, rows_of_vectors, scalar, scalars_in, basis, combination_read, vector_algebra, length_scalars}

-- a list without codes, or a vector of dimension 1 and above
pub empty_or : (n : ℕ) (P : Type 0) → (n ≡ 0 → P) → (0 < n → P) → P
empty_or zero P empty some = empty refl
empty_or (suc n) P empty some = some (omega arith)

spread : {E : Type 0} (R : CommRing E) (c p b s t u : E) → s ≡ R.◌⊕◌ t (R.⊖◌ u)
    → R.◌⊕◌ (R.◌⊗◌ c (R.◌⊕◌ p (R.⊖◌ b))) s ≡ R.◌⊕◌ (R.◌⊕◌ (R.◌⊗◌ c p) t) (R.⊖◌ (R.◌⊕◌ (R.◌⊗◌ c b) u))
spread R c p b s t u f =
    from_one R R.𝟙 f (ring R (c ∷ p ∷ b ∷ s ∷ t ∷ u ∷ []) λ q h. simp (reads, q, h 0, h 1, h 2, h 3, h 4, h 5)
    (q.equal _ _ refl))

module _ (k : CodeField) (A : AlgebraOps) (law : IsAlgebra k A) where
  abbrev R : CommRing (Vector k A.size)
  R = vector_ring k A law

  pub power_add : (x : List ℕ) (m n : ℕ) → IsVector k.ops A.size x
      → A.product k.ops (power k.ops A x m) (power k.ops A x n) ≡ power k.ops A x (m + n)
  power_add x m n x_in =
      sym (ap₂ (A.product k.ops) (power_value k A law (x, x_in) m) (power_value k A law (x, x_in) n))
      ∙ sym (ap (λ y. y.0) (pow_add R (x, x_in) m n)) ∙ power_value k A law (x, x_in) (m + n)

  pub power_even : (x : List ℕ) (e : ℕ) → IsVector k.ops A.size x → e % 2 ≡ 0
      → A.product k.ops (power k.ops A x (e / 2)) (power k.ops A x (e / 2)) ≡ power k.ops A x e
  power_even x e x_in even = power_add x (e / 2) (e / 2) x_in
      ∙ ap (power k.ops A x) (let h : e / 2 + e / 2 ≡ e = omega arith in h)

  pub power_odd : (x : List ℕ) (e : ℕ) → IsVector k.ops A.size x → ¬ (e % 2 ≡ 0)
      → A.product k.ops x (A.product k.ops (power k.ops A x (e / 2)) (power k.ops A x (e / 2))) ≡ power k.ops A x e
  power_odd x e x_in odd =
      ap (A.product k.ops x) (power_add x (e / 2) (e / 2) x_in)
      ∙ ap (power k.ops A x) (let h : suc (e / 2 + e / 2) ≡ e = omega arith in h)

  pub power_first : (x : List ℕ) → IsVector k.ops A.size x → power k.ops A x 1 ≡ x
  power_first x x_in = law.commutative x A.unit x_in law.unit_in ∙ law.unit_times x x_in

  -- the power of a product is that of the factors
  pub power_product : (x y : List ℕ) (e : ℕ) → IsVector k.ops A.size x → IsVector k.ops A.size y
      → A.product k.ops (power k.ops A x e) (power k.ops A y e) ≡ power k.ops A (A.product k.ops x y) e
  power_product x y e x_in y_in =
      sym (ap₂ (A.product k.ops) (power_value k A law (x, x_in) e) (power_value k A law (y, y_in) e))
      ∙ sym (ap (λ z. z.0) (mul_pow R (x, x_in) (y, y_in) e))
      ∙ power_value k A law (A.product k.ops x y, law.product_in x y x_in y_in) e

  pub power_power : (x : List ℕ) (m n : ℕ) → IsVector k.ops A.size x
      → power k.ops A (power k.ops A x m) n ≡ power k.ops A x (m * n)
  power_power x m n x_in =
      sym (ap (λ y. power k.ops A y n) (power_value k A law (x, x_in) m))
      ∙ sym (power_value k A law (pow R.ops (x, x_in) m) n)
      ∙ sym (ap (λ y. y.0) (pow_mul R (x, x_in) m n)) ∙ power_value k A law (x, x_in) (m * n)

  values_of_vectors : (F : Vector k A.size → Vector k A.size) (f : List ℕ → List ℕ)
      → ((x : Vector k A.size) → (F x).0 ≡ f x.0)
      → (rows : List (List ℕ)) (all : All (IsVector k.ops A.size) rows)
      → map (λ y. y.0) (map F (vectors k A.size rows all)) ≡ map f rows
  values_of_vectors F f same [] all = refl
  values_of_vectors F f same (r ∷ rows) all =
      ap₂ ◌∷◌ (same (r, All-head (IsVector k.ops A.size) r rows all))
      (values_of_vectors F f same rows (All-tail (IsVector k.ops A.size) r rows all))

  rows_are : (f : List ℕ → List ℕ) (m : MatrixValue) → HasShape m A.size A.size
      → ((l : ℕ) → l < A.size → matrix_row m l ≡ f (unit_row A.size l))
      → m.rows ≡ map f (unit_rows A.size)
  rows_are f m shape rows =
      same_lists m.rows (map f (unit_rows A.size))
      (shape.row_count ∙ sym (length-map (unit_rows A.size) f ∙ length_unit_rows A.size))
      (λ l d less.
      let h : l < A.size = let s = shape.row_count in omega arith in
      get_or_default m.rows l d [] less ∙ rows l h
      ∙ sym (get_or-map f (unit_rows A.size) l [] d (omega (arith, length_unit_rows A.size))
      ∙ ap f (unit_rows_get A.size l h)))

  -- each vector is the combination of the unit rows by its codes
  pub whole : (v : List ℕ) (v_in : IsVector k.ops A.size v)
      → combination R.ops (map (scalar k A law) (read k v)) (basis k A law) ≡ (v, v_in)
  whole v v_in =
      same_vector k A.size _ _
      (combination_read k A law v (basis k A law) v_in.over
      ∙ ap (λ rows. row_combination (row_ops k.ops A.size) v rows)
      (rows_of_vectors k A.size (unit_rows A.size) (unit_rows_in k A.size))
      ∙ ap (λ n. row_combination (row_ops k.ops n) v (unit_rows n)) (sym v_in.size)
      ∙ combination_units k v v_in.over)

  -- v times a matrix whose rows are the values of a map at the unit rows
  pub mapped_product : (F : Vector k A.size → Vector k A.size) (f : List ℕ → List ℕ)
      → ((x : Vector k A.size) → (F x).0 ≡ f x.0)
      → (m : MatrixValue) → HasShape m A.size A.size → ((l : ℕ) → l < A.size → matrix_row m l ≡ f (unit_row A.size l))
      → (v : List ℕ) → IsVector k.ops A.size v
      → row_product k.ops v m ≡ (combination R.ops (map (scalar k A law) (read k v)) (map F (basis k A law))).0
  mapped_product F f same m shape rows v v_in =
      ap₂ (λ n rows. row_combination (row_ops k.ops n) v rows) shape.col_count
      (rows_are f m shape rows ∙ sym (values_of_vectors F f same (unit_rows A.size) (unit_rows_in k A.size)))
      ∙ sym (combination_read k A law v (map F (basis k A law)) v_in.over)

  powers_combination : 0 < A.size → (t : ℕ) (v : List ℕ) (v_in : IsVector k.ops A.size v)
      → combination R.ops (map (scalar k A law) (read k v)) (map (λ b. pow R.ops b (k.size ^ t)) (basis k A law))
      ≡ pow R.ops (v, v_in) (k.size ^ t)
  powers_combination some t v v_in =
      sym (ap (λ e. pow R.ops (combination R.ops (map (scalar k A law) (read k v)) (basis k A law)) (e ^ t))
      (sym (length_scalars k A law some))
      ∙ iterate_combination R (Image (scalar k A law)) (vector_algebra k A law some) t (map (scalar k A law) (read k v))
      (basis k A law)
      (scalars_in k A law (read k v))
      ∙ ap (λ e. combination R.ops (map (scalar k A law) (read k v)) (map (λ b. pow R.ops b (e ^ t)) (basis k A law)))
      (length_scalars k A law some))
      ∙ ap (λ y. pow R.ops y (k.size ^ t)) (whole v v_in)

  -- two vectors of dimension 0 are equal
  pub by_dimension : (x y : List ℕ) → IsVector k.ops A.size x → IsVector k.ops A.size y → (0 < A.size → x ≡ y) → x ≡ y
  by_dimension x y x_in y_in above =
      empty_or A.size (x ≡ y) (λ e. nil_from_length x (x_in.size ∙ e) ∙ sym (nil_from_length y (y_in.size ∙ e))) above

  -- the matrix of an iterate of the map a to a^q
  pub iterate_values : (t : ℕ) (m : MatrixValue) → HasShape m A.size A.size
      → ((l : ℕ) → l < A.size → matrix_row m l ≡ power k.ops A (unit_row A.size l) (k.size ^ t))
      → (v : List ℕ) → IsVector k.ops A.size v → row_product k.ops v m ≡ power k.ops A v (k.size ^ t)
  iterate_values t m shape rows v v_in =
      value ∙ by_dimension _ (power k.ops A v (k.size ^ t)) (combination R.ops _ _).1
      (power_in k A law v (k.size ^ t) v_in)
      (λ some. ap (λ y. y.0) (powers_combination some t v v_in) ∙ power_value k A law (v, v_in) (k.size ^ t))
    where
      value : row_product k.ops v m
          ≡ (combination R.ops (map (scalar k A law) (read k v))
          (map (λ b. pow R.ops b (k.size ^ t)) (basis k A law))).0
      value =
          mapped_product (λ b. pow R.ops b (k.size ^ t)) (λ r. power k.ops A r (k.size ^ t))
          (λ x. power_value k A law x (k.size ^ t)) m shape rows v v_in

  pub once : k.size ^ 1 ≡ k.size
  once = pow-suc k.size 0 ∙ ap (λ n. n * k.size) (pow-zero k.size) ∙ one-mul k.size

  less_combination : (cs : List (Vector k A.size)) (bs : List (Vector k A.size)) (e : ℕ)
      → combination R.ops cs (map (λ b. R.◌⊕◌ (pow R.ops b e) (R.⊖◌ b)) bs)
      ≡ R.◌⊕◌ (combination R.ops cs (map (λ b. pow R.ops b e) bs)) (R.⊖◌ (combination R.ops cs bs))
  less_combination [] bs e = sym (R.add_neg R.𝟘)
  less_combination (c ∷ cs) [] e = sym (R.add_neg R.𝟘)
  less_combination (c ∷ cs) (b ∷ bs) e =
      step c (pow R.ops b e) b _ _ _ (less_combination cs bs e)
    where
      step : (c p b s t u : Vector k A.size) → s ≡ R.◌⊕◌ t (R.⊖◌ u)
          → R.◌⊕◌ (R.◌⊗◌ c (R.◌⊕◌ p (R.⊖◌ b))) s ≡ R.◌⊕◌ (R.◌⊕◌ (R.◌⊗◌ c p) t) (R.⊖◌ (R.◌⊕◌ (R.◌⊗◌ c b) u))
      step c p b s t u f = spread R c p b s t u f

  -- the matrix of the map a to a^q - a
  pub less_values : (m : MatrixValue) → HasShape m A.size A.size
      → ((l : ℕ) → l < A.size → matrix_row m l
      ≡ add_lists (raw_ring k.ops) (power k.ops A (unit_row A.size l) k.size)
      (neg_list (raw_ring k.ops) (unit_row A.size l)))
      → (v : List ℕ) → IsVector k.ops A.size v
      → row_product k.ops v m ≡ add_lists (raw_ring k.ops) (power k.ops A v k.size) (neg_list (raw_ring k.ops) v)
  less_values m shape rows v v_in =
      value ∙ by_dimension _ _ (combination R.ops _ _).1
      (sum_in k A.size _ _ (power_in k A law v k.size v_in) (neg_in k A.size v v_in))
      (λ some. ap (λ y. y.0) (less_combination (map (scalar k A law) (read k v)) (basis k A law) k.size)
      ∙ ap₂ (λ x y. add_lists (raw_ring k.ops) x (neg_list (raw_ring k.ops) y))
      (ap (λ y. y.0) (ap (λ e. combination R.ops (map (scalar k A law) (read k v))
      (map (λ b. pow R.ops b e) (basis k A law))) (sym once)
      ∙ powers_combination some 1 v v_in ∙ ap (pow R.ops (v, v_in)) once)
      ∙ power_value k A law (v, v_in) k.size)
      (ap (λ y. y.0) (whole v v_in)))
    where
      value : row_product k.ops v m
          ≡ (combination R.ops (map (scalar k A law) (read k v))
          (map (λ b. R.◌⊕◌ (pow R.ops b k.size) (R.⊖◌ b)) (basis k A law))).0
      value =
          mapped_product (λ b. R.◌⊕◌ (pow R.ops b k.size) (R.⊖◌ b))
          (λ r. add_lists (raw_ring k.ops) (power k.ops A r k.size) (neg_list (raw_ring k.ops) r))
          (λ x. ap (λ p. add_lists (raw_ring k.ops) p (neg_list (raw_ring k.ops) x.0)) (power_value k A law x k.size)) m
          shape rows v v_in

  -- a matrix whose rows are the q-th powers of the unit rows is that of the map a to a^q
  pub frobenius_values : (m : MatrixValue)
      → ((l : ℕ) → l < A.size → matrix_row m l ≡ power k.ops A (unit_row A.size l) k.size)
      → HasShape m A.size A.size → IsMatrixOver k.ops m → IsFrobenius k.ops A m
  frobenius_values m rows shape over = record {
    shape = shape;
    over = over;
    rows = rows;
    values = λ v v_in.
        iterate_values 1 m shape (λ l less. rows l less ∙ ap (power k.ops A (unit_row A.size l)) (sym once)) v v_in
        ∙ ap (power k.ops A v) once;
  }
