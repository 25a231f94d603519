-- What a call of `split` does.
use Rattle.std.proofs.Common.{◌≡◌, ◌≢◌, ℕ, ◌<◌, ◌≤◌, List, [], ◌∷◌, length, get_or, map, replicate, All, refl, sym, ap, ap₂, ◌∙◌, subst, arith}
use Rattle.std.proofs.lemmas.List.{length-map, nil_from_length}
use Rattle.ring_lemmas.specs.Ring.{CommRing, pow}
use Rattle.ring_lemmas.specs.Lists.{neg_list}
use Rattle.ring_lemmas.proofs.Ring.{pow_one}
use Rattle.ring_lemmas.proofs.Lists.{length_neg_list}
use Rattle.ff_fields.specs.Field.{CodeField}
use Rattle.ff_fields.specs.Code.{Code, raw_ring, read_code}
use Rattle.ff_fields.specs.Numbers.{read}
use Rattle.ff_fields.specs.Over.{IsOver, IsOver_neg}
use Rattle.ff_linalg.specs.Matrix.{MatrixValue, matrix_row, first_rows_of}
use Rattle.ff_linalg.specs.Space.{IsSolution}
use Rattle.finite_algebra_theory.specs.Algebra.{powers}
use Rattle.finite_algebra_theory.specs.ByMap.{Image}
use Rattle.finite_algebra_theory.specs.Horner.{value, combination}
use Rattle.finite_algebra_theory.specs.Minimal.{Minimal}
use Rattle.finite_algebra_theory.proofs.Idempotents.{split_one}
use Rattle.finite_algebra_theory.proofs.Lists.{all_of_in}
use Rattle.ff_falg.specs.Algebras.{AlgebraOps, IsAlgebra, IsVector, IsIdempotentVector, IsFixedVector, zero_of}
use Rattle.ff_falg.specs.Relations.{IsRelation}
use Rattle.ff_falg.specs.Roots.{IsRoots}
use Rattle.ff_falg.specs.Splits.{IsSimple, IsSplit, part_of}
use Rattle.ff_falg.proofs.PolynomialValues.{negatives_scalar, read_in, over_of_in}
use Rattle.ff_falg.proofs.PowerLaws.{empty_or}
use Rattle.ff_falg.proofs.PowerRows.{powers_first}
use Rattle.ff_falg.proofs.PowerSpans.{solution_relation, minimal_of_first}
use Rattle.ff_falg.proofs.SplitLaws.{weight_some, parts_split, parts_are}
use Rattle.ff_falg.proofs.Splittings.{split_value}
use Rattle.ff_falg.proofs.Vectors.{Vector, vector_ring, same_vector, power_value}
use Rattle.ff_falg.proofs.VectorAlgebra.{scalar, vector_algebra, length_scalars}

module _ (k : CodeField) (A : AlgebraOps) (law : IsAlgebra k A) where
  abbrev R : CommRing (Vector k A.size)
  R = vector_ring k A law

  abbrev ι : Code k → Vector k A.size
  ι = scalar k A law

  -- an element that isn't 0 is of a dimension above 0
  pub size_some : (e : List ℕ) → IsVector k.ops A.size e → e ≢ zero_of A → 0 < A.size
  size_some e e_in ne =
      empty_or A.size (0 < A.size)
      (λ z. absurd (ne (nil_from_length e (e_in.size ∙ z) ∙ sym (ap (λ n. replicate n 0) z)))) (λ l. l)

  module _ (x e : List ℕ) (x_in : IsVector k.ops A.size x) (fixed : IsFixedVector k.ops A x)
      (idem : IsIdempotentVector k.ops A e) (ne : e ≢ zero_of A)
      (m : MatrixValue) (v : List ℕ) (r : IsRelation k.ops A x e m v) where
    abbrev a : Vector k A.size
    a = (x, x_in)

    abbrev u : Vector k A.size
    u = (e, idem.vector)

    some : 0 < A.size
    some = size_some e idem.vector ne

    idempotent : R.◌⊗◌ u u ≡ u
    idempotent = same_vector k A.size _ _ idem.square

    pub v_over : IsOver k.ops v
    v_over = r.first.relation.over

    pub relation_some : 0 < length v
    relation_some = go v refl
      where
        go : (w : List ℕ) → v ≡ w → 0 < length w
        go [] n =
            let within : 0 < length m.rows = let l = r.first.within in omega arith in
            let p = subst (λ y. IsSolution k.ops (first_rows_of m (length y)) (matrix_row m (length y)) y) n
            r.first.relation in
            absurd (ne (sym (powers_first k A law x x_in e m idem.vector within r.powers) ∙ sym p.product
            ∙ ap (λ c. replicate c 0) r.powers.written.shape.col_count))
        go (c ∷ w) n = omega arith

    -- with one coefficient, x is a scalar at e
    pub one_split : length v ≡ 1 → IsSplit k.ops A x e (e ∷ [])
    one_split one =
        split_value k A law a u (u ∷ [])
        (split_one R (Image ι) a u idempotent (λ z. ne (ap (λ y. y.0) z))
        (ι (read_code k (get_or v 0 0)), (read_code k (get_or v 0 0), refl), value_is))
      where
        single : (w : List ℕ) → length w ≡ 1 → read k w ≡ read_code k (get_or w 0 0) ∷ []
        single [] e = absurd (omega arith)
        single (x ∷ []) e = refl
        single (x ∷ y ∷ w) e = absurd (omega arith)

        value_is : R.◌⊗◌ a u ≡ R.◌⊗◌ (ι (read_code k (get_or v 0 0))) u
        value_is =
            ap (λ y. R.◌⊗◌ y u) (sym (pow_one R a) ∙ ap (pow R.ops a) (sym one))
            ∙ solution_relation k A law x e x_in idem.vector m r.powers (length v) v r.first.within r.first.relation
            ∙ ap₂ (λ cs n. combination R.ops (map ι cs) (powers R.ops a u n)) (single v one) one
            ∙ R.add_zero _

    minimal : (lower : List ℕ) → lower ≡ neg_list (raw_ring k.ops) v
        → Minimal R.ops (Image ι) a u (length (map ι (read k lower))) (value R.ops (map ι (read k lower)) R.𝟙)
    minimal lower is =
        subst (λ xs. Minimal R.ops (Image ι) a u (length xs) (value R.ops xs R.𝟙))
        (negatives_scalar k A law v v_over ∙ ap (λ xs. map ι (read k xs)) (sym is))
        (subst (λ n. Minimal R.ops (Image ι) a u n (value R.ops (map R.⊖◌ (map ι (read k v))) R.𝟙))
        (sym (length-map (map ι (read k v)) R.⊖◌))
        (minimal_of_first k A law x e x_in idem.vector m r.powers some v r.first))

    fixed_vector : pow R.ops a (length (vector_algebra k A law some).codes) ≡ a
    fixed_vector =
        ap (pow R.ops a) (length_scalars k A law some)
        ∙ same_vector k A.size _ _ (power_value k A law a k.size ∙ fixed.is)

    module _ (lower : List ℕ) (is : lower ≡ neg_list (raw_ring k.ops) v) where
      pub lower_over : IsOver k.ops lower
      lower_over = subst (IsOver k.ops) (sym is) (IsOver_neg k v v_over)

      length_lower : length lower ≡ length v
      length_lower = ap length is ∙ length_neg_list (raw_ring k.ops) v

      pub lower_some : 0 < length lower
      lower_some = let l = length_lower in let s = relation_some in omega arith

      pub lower_within : length lower ≤ length m.rows
      lower_within = let l = length_lower in let w = r.first.within in omega arith

      -- the roots are simple, and the parts there split e
      pub roots_simple : (rs : List ℕ) → IsRoots k.ops lower rs → All (IsSimple k.ops lower) rs
      roots_simple rs roots = go lower lower_over lower_some (minimal lower is) roots
        where
          go : (xs : List ℕ) → IsOver k.ops xs → 0 < length xs
              → Minimal R.ops (Image ι) a u (length (map ι (read k xs))) (value R.ops (map ι (read k xs)) R.𝟙)
              → IsRoots k.ops xs rs → All (IsSimple k.ops xs) rs
          go [] over l min roots = absurd (omega arith)
          go (d ∷ xs) over l min roots =
              all_of_in (IsSimple k.ops (d ∷ xs)) rs (λ c i. record {
                code = roots.within c i;
                weight =
                    weight_some k A law some a u fixed_vector idempotent d xs over min rs roots (c, roots.within c i)
                    (read_in k (c, roots.within c i) rs (over_of_in k rs roots.within) i);
              })

      pub parts_split_value : (rs : List ℕ) → IsRoots k.ops lower rs
          → IsSplit k.ops A x e (map (part_of k.ops lower m) rs)
      parts_split_value rs roots = go lower lower_over lower_some (minimal lower is) roots lower_within
        where
          go : (xs : List ℕ) → IsOver k.ops xs → 0 < length xs
              → Minimal R.ops (Image ι) a u (length (map ι (read k xs))) (value R.ops (map ι (read k xs)) R.𝟙)
              → IsRoots k.ops xs rs → length xs ≤ length m.rows → IsSplit k.ops A x e (map (part_of k.ops xs m) rs)
          go [] over l min roots w = absurd (omega arith)
          go (d ∷ xs) over l min roots w =
              subst (IsSplit k.ops A x e)
              (parts_are k A law some a u fixed_vector idempotent d xs over min rs roots m r.powers w)
              (split_value k A law a u _ (parts_split k A law some a u fixed_vector idempotent d xs over min rs roots))
