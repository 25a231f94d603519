-- A fixed element splits an idempotent: the roots of its minimal polynomial there, and the parts at the roots.
use Rattle.std.proofs.Common.{◌≡◌, ◌≢◌, ℕ, suc, ◌<◌, ◌≤◌, ◌⊎◌, inl, inr, List, [], ◌∷◌, ◌++◌, length, take, map, refl, sym, ap, ap₂, ◌∙◌, subst, arith}
use Rattle.std.proofs.lemmas.List.{length-map, map-append}
use Rattle.ring_lemmas.specs.Ring.{CommRing}
use Rattle.ring_lemmas.specs.Lists.{scale_list}
use Rattle.ring_lemmas.proofs.Ring.{zero_add}
use Rattle.ring_theory.proofs.RowMaps.{hom_zero}
use Rattle.ring_theory.specs.Members.{In, IsDistinct}
use Rattle.ff_fields.specs.Field.{CodeField}
use Rattle.ff_fields.specs.Code.{Code, code_ring, raw_ring, read_code, read_code_below, same_code}
use Rattle.ff_fields.specs.Numbers.{read}
use Rattle.ff_fields.specs.Over.{IsOver, IsOver_head, IsOver_tail}
use Rattle.linear_theory.specs.Module.{combination as row_combination}
use Rattle.ff_linalg.specs.Matrix.{MatrixValue}
use Rattle.ff_linalg.specs.Space.{row_ops, row_product}
use Rattle.finite_algebra_theory.specs.Algebra.{FiniteAlgebra, powers, IsIdempotent, IsFixed}
use Rattle.finite_algebra_theory.specs.ByMap.{Image}
use Rattle.finite_algebra_theory.specs.Horner.{value, combination, suffix_values}
use Rattle.finite_algebra_theory.specs.Idempotents.{Split}
use Rattle.finite_algebra_theory.specs.Polynomial.{Monic}
use Rattle.finite_algebra_theory.specs.Minimal.{Minimal, Lagrange, LagrangeList}
use Rattle.finite_algebra_theory.proofs.Horner.{synthetic, length_suffix_values, suffix_values_in, leading_list, lagrange_of_list}
use Rattle.finite_algebra_theory.proofs.Lists.{in_map, of_map, distinct_map}
use Rattle.finite_algebra_theory.proofs.Frobenius.{cancel}
use Rattle.finite_algebra_theory.proofs.Splitting.{monic_roots, minimal_roots, roots_among, roots_among_in, roots_among_distinct}
use Rattle.finite_algebra_theory.proofs.Lagrange.{lagrange_split}
use Rattle.ff_falg.specs.Algebras.{AlgebraOps, IsAlgebra}
use Rattle.ff_falg.specs.Relations.{IsPowers}
use Rattle.ff_falg.specs.Roots.{quotient_of, IsRoots}
use Rattle.ff_falg.specs.Splits.{weight_of, part_of}
use Rattle.polynomial_theory.proofs.CodeFields.{code_finite}
use Rattle.ff_falg.proofs.Pigeonhole.{at_most}
use Rattle.ff_falg.proofs.PolynomialValues.{value_combination, suffix_read, weight_read, read_in, of_read, read_distinct, over_of_in, scalar_injective, value_scalar, suffix_scalar, root_scalar, scalar_root}
use Rattle.ff_falg.proofs.PowerSpans.{powers_rows}
use Rattle.ff_falg.proofs.RootSteps.{length_quotient}
use Rattle.ff_falg.proofs.Vectors.{Vector, vector_ring, vector_discrete}
use Rattle.ff_falg.proofs.VectorAlgebra.{scalar, scalar_map, scalar_times, scalars_in, combination_value, vector_algebra}

-- only as many rows count as there are coefficients
combination_take : (k : CodeField) (n : ℕ) (cs : List ℕ) (rows : List (List ℕ))
    → row_combination (row_ops k.ops n) cs (take (length cs) rows) ≡ row_combination (row_ops k.ops n) cs rows
combination_take k n [] rows = refl
combination_take k n (c ∷ cs) [] = refl
combination_take k n (c ∷ cs) (r ∷ rows) = ap ((row_ops k.ops n).◌⊞◌ (scale_list (raw_ring k.ops) c r))
    (combination_take k n cs rows)

module _ (k : CodeField) (A : AlgebraOps) (law : IsAlgebra k A) (some : 0 < A.size) where
  abbrev R : CommRing (Vector k A.size)
  R = vector_ring k A law

  abbrev ι : Code k → Vector k A.size
  ι = scalar k A law

  abbrev S : Vector k A.size → Type 0
  S = Image ι

  abbrev 𝓐 : FiniteAlgebra R.ops S
  𝓐 = vector_algebra k A law some

  module _ (a u : Vector k A.size) (fixed : IsFixed R.ops (length 𝓐.codes) a) (idem : IsIdempotent R.ops u)
      (d : ℕ) (lower : List ℕ) (over : IsOver k.ops (d ∷ lower))
      (min : Minimal R.ops S a u (length (map ι (read k (d ∷ lower)))) (value R.ops (map ι (read k (d ∷ lower))) R.𝟙))
      (rs : List ℕ) (roots : IsRoots k.ops (d ∷ lower) rs) where
    abbrev f : Vector k A.size → Vector k A.size
    f = value R.ops (map ι (read k (d ∷ lower))) R.𝟙

    abbrev degree : ℕ
    degree = length (map ι (read k lower))

    abbrev cs : List (Vector k A.size)
    cs = map ι (read k rs)

    degree_is : degree ≡ length lower
    degree_is = length-map (read k lower) ι ∙ length-map lower (read_code k)

    length_cs : length cs ≡ length rs
    length_cs = length-map (read k rs) ι ∙ length-map rs (read_code k)

    rs_over : IsOver k.ops rs
    rs_over = over_of_in k rs roots.within

    distinct : IsDistinct cs
    distinct = distinct_map ι (scalar_injective k A law some) (read k rs)
        (read_distinct k rs rs_over roots.below.distinct)

    cs_roots : (c : Vector k A.size) → In c cs → S c × (f c ≡ R.𝟘)
    cs_roots c i =
        let r = of_map ι (read k rs) c i in (
          (r.0, r.2),
          ap f r.2 ∙ root_scalar k A law (d ∷ lower) r.0 over
              (roots.below.each r.0.0 (of_read k r.0 rs rs_over r.1)).1,
        )

    number : length cs ≡ suc degree
    number = go roots.end
      where
        most : length cs ≤ suc degree
        most = monic_roots R S 𝓐 (suc degree) f min.monic cs distinct cs_roots

        within : (c : Vector k A.size) → roots.bound ≡ k.size → In c (roots_among R S 𝓐 f 𝓐.codes) → In c cs
        within c e i =
            let r = roots_among_in R S 𝓐 f 𝓐.codes c i in
            let s = of_map ι (code_finite k).codes c r.0 in
            subst (λ y. In y cs) (sym s.2)
            (in_map ι (read k rs) s.0 (read_in k s.0 rs rs_over
            (roots.below.all s.0.0 (subst (λ n. s.0.0 < n) (sym e) s.0.1)
            (scalar_root k A law some (d ∷ lower) s.0 over (ap f (sym s.2) ∙ r.1)))))

        go : (length rs ≡ length (d ∷ lower)) ⊎ (roots.bound ≡ k.size) → length cs ≡ suc degree
        go (inl e) = length_cs ∙ e ∙ ap suc (sym degree_is)
        go (inr e) =
            let l = at_most (roots_among R S 𝓐 f 𝓐.codes) cs (roots_among_distinct R S 𝓐 f 𝓐.codes 𝓐.codes_distinct)
            (λ c i. within c e i) in
            let s = minimal_roots R S 𝓐 a u fixed (suc degree) f min in
            let m = most in omega arith

    -- the quotient by t - c
    abbrev quotient : Code k → Vector k A.size → Vector k A.size
    quotient c = value R.ops (suffix_values R.ops (map ι (read k lower)) R.𝟙 (ι c)) R.𝟙

    quotient_monic : (c : Code k) → Monic R.ops S degree (quotient c)
    quotient_monic c =
        subst (λ n. Monic R.ops S n (quotient c)) (length_suffix_values R (map ι (read k lower)) R.𝟙 (ι c))
        (leading_list R S 𝓐.subring (suffix_values R.ops (map ι (read k lower)) R.𝟙 (ι c)) R.𝟙
        (suffix_values_in R S 𝓐.subring (map ι (read k lower)) R.𝟙 (ι c) (scalars_in k A law (read k lower))
        𝓐.subring.one_in (c, refl)))

    quotient_divides : (c : Code k) → f (ι c) ≡ R.𝟘 → (t : Vector k A.size)
        → f t ≡ R.◌⊗◌ (R.◌⊕◌ t (R.⊖◌ (ι c))) (quotient c t)
    quotient_divides c root t =
        synthetic R (ι (read_code k d)) (map ι (read k lower)) R.𝟙 (ι c) t
        ∙ ap (λ y. R.◌⊕◌ y (R.◌⊗◌ (R.◌⊕◌ t (R.⊖◌ (ι c))) (quotient c t))) root ∙ zero_add R _

    abbrev weight : Code k → Code k
    weight c = value (code_ring k).ops (suffix_values (code_ring k).ops (read k lower) (code_ring k).𝟙 c)
        (code_ring k).𝟙 c

    quotient_weight : (c : Code k) → quotient c (ι c) ≡ ι (weight c)
    quotient_weight c =
        ap (λ xs. value R.ops xs R.𝟙 (ι c)) (suffix_scalar k A law (read k lower) c)
        ∙ value_scalar k A law (suffix_values (code_ring k).ops (read k lower) (code_ring k).𝟙 c) c

    root_of : (c : Code k) → In c (read k rs) → f (ι c) ≡ R.𝟘
    root_of c i = (cs_roots (ι c) (in_map ι (read k rs) c i)).1

    -- each root is simple
    pub weight_some : (c : Code k) → In c (read k rs) → weight_of k.ops (d ∷ lower) c.0 ≢ 0
    weight_some c i z =
        let l = monic_roots R S 𝓐 degree (quotient c) (quotient_monic c) cs distinct
        (λ y j. ((cs_roots y j).0, go y j (vector_discrete k A.size y (ι c)))) in
        let n = number in absurd (omega arith)
      where
        zero_there : quotient c (ι c) ≡ R.𝟘
        zero_there =
            quotient_weight c ∙ ap ι (same_code k _ (code_ring k).𝟘 (weight_read k d lower c (IsOver_tail over) ∙ z))
            ∙ hom_zero (code_ring k).ring R ι (scalar_map k A law)

        go : (y : Vector k A.size) → In y cs → Dec (y ≡ ι c) → quotient c y ≡ R.𝟘
        go y j (yes e) = ap (quotient c) e ∙ zero_there
        go y j (no ne) =
            cancel R S 𝓐 y (ι c) (quotient c y) (cs_roots y j).0 (c, refl) ne
            (sym (quotient_divides c (root_of c i) y) ∙ (cs_roots y j).1)

    -- the parts, as vectors
    abbrev inverse : Code k → Code k
    inverse c = read_code k (k.inv (weight_of k.ops (d ∷ lower) c.0))

    abbrev pub part_vector : Code k → Vector k A.size
    part_vector c = R.◌⊗◌ (ι (inverse c)) (R.◌⊗◌ (quotient c a) u)

    inverse_value : (c : Code k) → In c (read k rs) → (inverse c).0 ≡ k.inv (weight_of k.ops (d ∷ lower) c.0)
    inverse_value c i =
        read_code_below k _
        (k.laws.inv_below (weight_of k.ops (d ∷ lower) c.0)
        (subst (λ n. n < k.size) (weight_read k d lower c (IsOver_tail over)) (weight c).1)
        (weight_some c i))

    is_inverse : (c : Code k) → In c (read k rs) → R.◌⊗◌ (quotient c (ι c)) (ι (inverse c)) ≡ R.𝟙
    is_inverse c i =
        ap (λ y. R.◌⊗◌ y (ι (inverse c))) (quotient_weight c)
        ∙ sym ((scalar_map k A law).mul (weight c) (inverse c))
        ∙ ap ι (same_code k _ (code_ring k).𝟙
        (ap₂ k.mul (weight_read k d lower c (IsOver_tail over)) (inverse_value c i)
        ∙ k.laws.mul_comm _ _ below (k.laws.inv_below _ below (weight_some c i))
        ∙ k.laws.inv_mul _ below (weight_some c i)))
        ∙ (scalar_map k A law).𝟙
      where
        below : weight_of k.ops (d ∷ lower) c.0 < k.size
        below = subst (λ n. n < k.size) (weight_read k d lower c (IsOver_tail over)) (weight c).1

    part_lagrange : (c : Code k) → In c (read k rs) → Lagrange R.ops S a u degree f (ι c) (part_vector c)
    part_lagrange c i =
        lagrange_of_list R S 𝓐 a u (ι (read_code k d)) (map ι (read k lower)) (read_code k d, refl)
        (scalars_in k A law (read k lower))
        (ι c) (c, refl) (root_of c i) (ι (inverse c)) (inverse c, refl) (is_inverse c i)

    part_list : (ds : List (Code k)) → ((c : Code k) → In c ds → In c (read k rs))
        → LagrangeList R.ops S a u degree f (map ι ds) (map part_vector ds)
    part_list [] w = tt
    part_list (c ∷ ds) w = (part_lagrange c (w c (inl refl)), part_list ds (λ y i. w y (inr i)))

    pub parts_split : Split R.ops S a u (map part_vector (read k rs))
    parts_split =
        lagrange_split R S 𝓐 a u idem degree f min cs distinct cs_roots number (map part_vector (read k rs))
        (part_list (read k rs) (λ c i. i))

    -- the parts that are computed from the rows of powers are these
    module _ (m : MatrixValue) (h : IsPowers k.ops A a.0 u.0 m) (within : length (d ∷ lower) ≤ length m.rows) where
      part_value : (c : Code k) → In c (read k rs) → (part_vector c).0 ≡ part_of k.ops (d ∷ lower) m c.0
      part_value c i =
          scalar_times k A law (inverse c) (R.◌⊗◌ (quotient c a) u)
          ∙ ap₂ (scale_list (raw_ring k.ops)) (inverse_value c i) quotient_value
        where
          suffixes : List (Code k)
          suffixes = suffix_values (code_ring k).ops (read k lower) (code_ring k).𝟙 c

          quotient_value : (R.◌⊗◌ (quotient c a) u).0 ≡ row_product k.ops (quotient_of k.ops (d ∷ lower) c.0) m
          quotient_value =
              ap (λ y. y.0) (value_combination R (suffix_values R.ops (map ι (read k lower)) R.𝟙 (ι c)) R.𝟙 a u
              ∙ ap₂ (λ xs n. combination R.ops xs (powers R.ops a u (suc n)))
              (ap₂ (λ xs y. xs ++ y ∷ []) (suffix_scalar k A law (read k lower) c) (sym (scalar_map k A law).𝟙)
              ∙ sym (map-append ι (suffix_values (code_ring k).ops (read k lower) (code_ring k).𝟙 c)
              ((code_ring k).𝟙 ∷ [])))
              (length_suffix_values R (map ι (read k lower)) R.𝟙 (ι c) ∙ degree_is))
              ∙ combination_value k A law
              (suffix_values (code_ring k).ops (read k lower) (code_ring k).𝟙 c ++ (code_ring k).𝟙 ∷ [])
              (powers R.ops a u (suc (length lower)))
              ∙ ap₂ (row_combination (row_ops k.ops A.size))
              (map-append (λ y. y.0) (suffix_values (code_ring k).ops (read k lower) (code_ring k).𝟙 c)
              ((code_ring k).𝟙 ∷ [])
              ∙ suffix_read k d lower c (IsOver_tail over))
              (powers_rows k A law a.0 u.0 a.1 u.1 m h (suc (length lower)) within
              ∙ ap (λ n. take n m.rows) (sym (length_quotient k.ops (d ∷ lower) c.0)))
              ∙ combination_take k A.size (quotient_of k.ops (d ∷ lower) c.0) m.rows
              ∙ ap (λ n. row_combination (row_ops k.ops n) (quotient_of k.ops (d ∷ lower) c.0) m.rows)
              (sym h.written.shape.col_count)

      parts_value : (xs : List ℕ) → IsOver k.ops xs → ((c : Code k) → In c (read k xs) → In c (read k rs))
          → map (λ y. y.0) (map part_vector (read k xs)) ≡ map (part_of k.ops (d ∷ lower) m) xs
      parts_value [] xs_over w = refl
      parts_value (x ∷ xs) xs_over w =
          ap₂ ◌∷◌
          (part_value (read_code k x) (w (read_code k x) (inl refl))
          ∙ ap (part_of k.ops (d ∷ lower) m) (read_code_below k x (IsOver_head xs_over)))
          (parts_value xs (IsOver_tail xs_over) (λ c i. w c (inr i)))

      pub parts_are : map (λ y. y.0) (map part_vector (read k rs)) ≡ map (part_of k.ops (d ∷ lower) m) rs
      parts_are = parts_value rs rs_over (λ c i. i)
