-- The vectors of an algebra as a finite algebra over the multiples of the unit.
use Rattle.std.proofs.Common.{◌≡◌, ℕ, suc, ◌<◌, List, [], ◌∷◌, length, map, All, refl, sym, ap, ap₂, ◌∙◌, subst}
use Rattle.std.proofs.lemmas.List.{length-map}
use Rattle.std.proofs.lemmas.List.Elements.{All-nil, All-cons, All-head, All-tail}
use Rattle.ring_lemmas.specs.Ring.{CommRing}
use Rattle.ring_theory.specs.Subsets.{Span}
use Rattle.ring_lemmas.specs.Lists.{add_lists, scale_list}
use Rattle.ring_lemmas.proofs.Ring.{mul_zero}
use Rattle.ring_theory.specs.Maps.{IsHom}
use Rattle.ff_fields.specs.Field.{CodeField}
use Rattle.ff_fields.specs.Code.{Code, code_ring, raw_ring}
use Rattle.ff_fields.specs.Over.{IsOver}
use Rattle.ff_fields.specs.Numbers.{numbers, read, numbers_read}
use Rattle.linear_theory.specs.Module.{combination as row_combination}
use Rattle.ff_linalg.specs.Space.{row_ops}
use Rattle.finite_algebra_theory.specs.Algebra.{FiniteAlgebra}
use Rattle.finite_algebra_theory.specs.ByMap.{Image}
use Rattle.finite_algebra_theory.specs.Horner.{combination}
use Rattle.finite_algebra_theory.proofs.ByMap.{algebra, image_subring}
use Rattle.finite_algebra_theory.proofs.Horner.{span_of_combination}
use Rattle.ff_falg.specs.Algebras.{AlgebraOps, IsAlgebra, IsVector}
use Rattle.ff_falg.proofs.Lists.{scale_one, scale_sum, scale_product}
use Rattle.polynomial_theory.proofs.CodeFields.{code_finite, length_codes}
use Rattle.ff_falg.proofs.UnitRows.{unit_rows, unit_rows_in, length_unit_rows, combination_units}
use Rattle.ff_falg.proofs.Vectors.{Vector, vector_ring, vector_discrete, same_vector, some_vector, multiple_in}

module _ (k : CodeField) (n : ℕ) where
  -- rows of n codes as vectors
  abbrev pub vectors : (rows : List (List ℕ)) → All (IsVector k.ops n) rows → List (Vector k n)
  vectors [] all = []
  vectors (r ∷ rows) all = (r, All-head (IsVector k.ops n) r rows all) ∷ vectors rows
      (All-tail (IsVector k.ops n) r rows all)

  pub rows_of_vectors : (rows : List (List ℕ)) (all : All (IsVector k.ops n) rows)
      → map (λ x. x.0) (vectors rows all) ≡ rows
  rows_of_vectors [] all = refl
  rows_of_vectors (r ∷ rows) all = ap (λ w. r ∷ w) (rows_of_vectors rows (All-tail (IsVector k.ops n) r rows all))

  pub length_vectors : (rows : List (List ℕ)) (all : All (IsVector k.ops n) rows)
      → length (vectors rows all) ≡ length rows
  length_vectors rows all = sym (length-map (vectors rows all) (λ x. x.0)) ∙ ap length (rows_of_vectors rows all)

module _ (k : CodeField) (A : AlgebraOps) (law : IsAlgebra k A) where
  abbrev R : CommRing (Vector k A.size)
  R = vector_ring k A law

  -- the multiples of the unit
  abbrev pub scalar : Code k → Vector k A.size
  scalar c = (scale_list (raw_ring k.ops) c.0 A.unit, multiple_in k A.size c.0 A.unit c.1 law.unit_in)

  pub scalar_times : (c : Code k) (x : Vector k A.size) → (R.◌⊗◌ (scalar c) x).0 ≡ scale_list (raw_ring k.ops) c.0 x.0
  scalar_times c x =
      law.linear c.0 A.unit x.0 c.1 law.unit_in x.1 ∙ ap (scale_list (raw_ring k.ops) c.0) (law.unit_times x.0 x.1)

  pub scalar_map : IsHom (code_ring k).ring R scalar
  scalar_map = record {
    add = λ a b. same_vector k A.size _ _ (scale_sum k a.0 b.0 A.unit a.1 b.1 law.unit_in.over);
    mul = λ a b. same_vector k A.size _ _
        (scale_product k a.0 b.0 A.unit a.1 b.1 law.unit_in.over ∙ sym (scalar_times a (scalar b)));
    𝟙 = same_vector k A.size _ _ (scale_one k A.unit law.unit_in.over);
  }

  -- combinations of rows are those of vectors
  pub combination_value : (cs : List (Code k)) (bs : List (Vector k A.size))
      → (combination R.ops (map scalar cs) bs).0
      ≡ row_combination (row_ops k.ops A.size) (numbers k cs) (map (λ x. x.0) bs)
  combination_value [] bs = refl
  combination_value (c ∷ cs) [] = refl
  combination_value (c ∷ cs) (b ∷ bs) = ap₂ (add_lists (raw_ring k.ops)) (scalar_times c b) (combination_value cs bs)

  pub combination_read : (cs : List ℕ) (bs : List (Vector k A.size)) → IsOver k.ops cs
      → (combination R.ops (map scalar (read k cs)) bs).0
      ≡ row_combination (row_ops k.ops A.size) cs (map (λ x. x.0) bs)
  combination_read cs bs over =
      combination_value (read k cs) bs
      ∙ ap (λ xs. row_combination (row_ops k.ops A.size) xs (map (λ x. x.0) bs)) (numbers_read k cs over)

  pub scalars_in : (cs : List (Code k)) → All (Image scalar) (map scalar cs)
  scalars_in [] = All-nil (Image scalar)
  scalars_in (c ∷ cs) = All-cons (Image scalar) (scalar c) (map scalar cs) (c, refl) (scalars_in cs)

  -- a member of the span is a combination, and a combination is a member
  pub span_combination : (bs : List (Vector k A.size)) (x : Vector k A.size) → Span R.ops (Image scalar) bs x
      → (cs : List (Code k)) × (length cs ≡ length bs) × (x ≡ combination R.ops (map scalar cs) bs)
  span_combination [] x h = ([], refl, h)
  span_combination (b ∷ bs) x h =
      let r = span_combination bs h.rest h.rest_in in
      (h.scalar_in.0 ∷ r.0, ap suc r.1, h.is ∙ ap₂ R.◌⊕◌ (ap (λ c. R.◌⊗◌ c b) h.scalar_in.1) r.2)

  pub combination_span : (cs : List ℕ) (bs : List (Vector k A.size)) (x : Vector k A.size) → IsOver k.ops cs
      → x.0 ≡ row_combination (row_ops k.ops A.size) cs (map (λ x. x.0) bs) → Span R.ops (Image scalar) bs x
  combination_span cs bs x over e =
      subst (Span R.ops (Image scalar) bs) (same_vector k A.size _ _ (combination_read cs bs over ∙ sym e))
      (span_of_combination R (Image scalar) (image_subring (code_ring k).ring R scalar scalar_map)
      (map scalar (read k cs)) bs (scalars_in (read k cs)))

  abbrev pub basis : List (Vector k A.size)
  basis = vectors k A.size (unit_rows A.size) (unit_rows_in k A.size)

  pub length_basis : length basis ≡ A.size
  length_basis = length_vectors k A.size (unit_rows A.size) (unit_rows_in k A.size) ∙ length_unit_rows A.size

  pub basis_spans : (x : Vector k A.size) → Span R.ops (Image scalar) basis x
  basis_spans x =
      combination_span x.0 basis x x.1.over
      (sym (ap (λ rows. row_combination (row_ops k.ops A.size) x.0 rows)
      (rows_of_vectors k A.size (unit_rows A.size) (unit_rows_in k A.size))
      ∙ ap (λ n. row_combination (row_ops k.ops n) x.0 (unit_rows n)) (sym x.1.size)
      ∙ combination_units k x.0 x.1.over))

  module _ (some : 0 < A.size) where
    pub one_not_zero : ¬ (R.𝟙 ≡ R.𝟘)
    one_not_zero e =
        let x = some_vector k A.size some in
        x.1 (ap (λ v. v.0) (sym (R.mul_one x.0) ∙ ap (R.◌⊗◌ x.0) e ∙ mul_zero R x.0))

    abbrev pub vector_algebra : FiniteAlgebra R.ops (Image scalar)
    vector_algebra = algebra (code_ring k).ring R scalar scalar_map (code_finite k) (vector_discrete k A.size)
        one_not_zero basis basis_spans

    pub length_scalars : length vector_algebra.codes ≡ k.size
    length_scalars = length-map (code_finite k).codes scalar ∙ length_codes k
