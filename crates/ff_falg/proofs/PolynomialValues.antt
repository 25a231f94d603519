-- Polynomials as lists of codes and as lists of vectors: values, quotients, roots.
use Rattle.std.proofs.Common.{◌≡◌, ℕ, suc, ◌-◌, ◌<◌, List, [], ◌∷◌, ◌++◌, length, take, map, inl, inr, refl, sym, ap, ap₂, ◌∙◌, subst, arith}
use Rattle.std.proofs.lemmas.List.{length-map, take_at}
use Rattle.ring_lemmas.specs.Ring.{CommRing}
use Rattle.ring_theory.proofs.RowMaps.{hom_neg, hom_zero}
use Rattle.ring_theory.specs.Members.{In, IsDistinct}
use Rattle.ring_lemmas.proofs.Solver.{ring, reads, from_one}
use Rattle.ring_lemmas.specs.Lists.{neg_list}
use Rattle.ff_fields.specs.Field.{CodeField}
use Rattle.ff_fields.specs.Code.{Code, code_ring, raw_ring, read_code, read_code_below, same_code}
use Rattle.ff_fields.specs.Numbers.{numbers, read}
use Rattle.ff_fields.specs.Over.{IsOver, IsOver_nil, IsOver_cons, IsOver_head, IsOver_tail}
use Rattle.finite_algebra_theory.specs.Algebra.{powers}
use Rattle.finite_algebra_theory.specs.Horner.{value, combination, suffix_values}
use Rattle.finite_algebra_theory.proofs.ByMap.{map_value, map_injective}
use Rattle.ff_falg.specs.Algebras.{AlgebraOps, IsAlgebra}
use Rattle.ff_falg.specs.Roots.{monic_value, quotient_of}
use Rattle.ff_falg.specs.Splits.{weight_of}
use Rattle.polynomial_theory.proofs.CodeFields.{code_finite}
use Rattle.ff_falg.proofs.Vectors.{Vector, vector_ring, vector_discrete}
use Rattle.ff_falg.proofs.VectorAlgebra.{scalar, scalar_map, one_not_zero, basis, basis_spans}

module _ {E : Type 0} (R : CommRing E) where
  infixl 65 ◌⊕◌
  infixl 70 ◌⊗◌
  open R use {◌⊕◌, ◌⊗◌}

  -- the value at a, times e, as a combination of the powers of a at e
  pub value_combination : (cs : List E) (top a e : E)
      → value R.ops cs top a ⊗ e ≡ combination R.ops (cs ++ top ∷ []) (powers R.ops a e (suc (length cs)))
  value_combination [] top a e = sym (R.add_zero _)
  value_combination (c ∷ cs) top a e =
      step c (value R.ops cs top a) _ (value_combination cs top a (a ⊗ e))
    where
      step : (c v s : E) → v ⊗ (a ⊗ e) ≡ s → (c ⊕ a ⊗ v) ⊗ e ≡ c ⊗ e ⊕ s
      step c v s f = from_one R R.𝟙 f (ring R (c ∷ v ∷ s ∷ a ∷ e ∷ []) λ q h. simp (reads, q, h 0, h 1, h 2, h 3, h 4)
          (q.equal _ _ refl))

module _ (k : CodeField) where
  -- the value of a list of codes is that of the numbers
  pub value_read : (lower : List ℕ) (c : Code k) → IsOver k.ops lower
      → (value (code_ring k).ops (read k lower) (code_ring k).𝟙 c).0 ≡ monic_value k.ops lower c.0
  value_read [] c over = refl
  value_read (d ∷ lower) c over =
      ap₂ k.add (read_code_below k d (IsOver_head over)) (ap (k.mul c.0) (value_read lower c (IsOver_tail over)))

  pub value_numbers : (cs : List (Code k)) (c : Code k)
      → (value (code_ring k).ops cs (code_ring k).𝟙 c).0 ≡ monic_value k.ops (numbers k cs) c.0
  value_numbers [] c = refl
  value_numbers (d ∷ cs) c = ap (λ v. k.add d.0 (k.mul c.0 v)) (value_numbers cs c)

  -- the quotient by t - c
  pub suffix_read : (d : ℕ) (lower : List ℕ) (c : Code k) → IsOver k.ops lower
      → numbers k (suffix_values (code_ring k).ops (read k lower) (code_ring k).𝟙 c) ++ 1 ∷ []
      ≡ quotient_of k.ops (d ∷ lower) c.0
  suffix_read d [] c over = refl
  suffix_read d (b ∷ lower) c over = ap₂ ◌∷◌ (value_read (b ∷ lower) c over) (suffix_read b lower c (IsOver_tail over))

  length_suffixes : (cs : List (Code k)) (c : Code k)
      → length (suffix_values (code_ring k).ops cs (code_ring k).𝟙 c) ≡ length cs
  length_suffixes [] c = refl
  length_suffixes (d ∷ cs) c = ap suc (length_suffixes cs c)

  pub weight_read : (d : ℕ) (lower : List ℕ) (c : Code k) → IsOver k.ops lower
      → (value (code_ring k).ops (suffix_values (code_ring k).ops (read k lower) (code_ring k).𝟙 c) (code_ring k).𝟙 c).0
      ≡ weight_of k.ops (d ∷ lower) c.0
  weight_read d lower c over =
      value_numbers (suffix_values (code_ring k).ops (read k lower) (code_ring k).𝟙 c) c
      ∙ ap (λ xs. monic_value k.ops xs c.0)
      (sym (ap (take (length (d ∷ lower) - 1)) (sym (suffix_read d lower c over))
      ∙ take_at (numbers k (suffix_values (code_ring k).ops (read k lower) (code_ring k).𝟙 c)) (1 ∷ [])
      (length (d ∷ lower) - 1) size))
    where
      size : length (numbers k (suffix_values (code_ring k).ops (read k lower) (code_ring k).𝟙 c))
          ≡ length (d ∷ lower) - 1
      size =
          length-map (suffix_values (code_ring k).ops (read k lower) (code_ring k).𝟙 c) (λ y. y.0)
          ∙ length_suffixes (read k lower) c ∙ length-map lower (read_code k)
          ∙ (let e : length lower ≡ length (d ∷ lower) - 1 = omega arith in e)

  pub read_in : (c : Code k) (xs : List ℕ) → IsOver k.ops xs → In c.0 xs → In c (read k xs)
  read_in c [] over i = absurd i
  read_in c (x ∷ xs) over (inl e) = inl (same_code k c (read_code k x)
      (e ∙ sym (read_code_below k x (IsOver_head over))))
  read_in c (x ∷ xs) over (inr i) = inr (read_in c xs (IsOver_tail over) i)

  pub of_read : (c : Code k) (xs : List ℕ) → IsOver k.ops xs → In c (read k xs) → In c.0 xs
  of_read c [] over i = absurd i
  of_read c (x ∷ xs) over (inl e) = inl (ap (λ y. y.0) e ∙ read_code_below k x (IsOver_head over))
  of_read c (x ∷ xs) over (inr i) = inr (of_read c xs (IsOver_tail over) i)

  pub read_distinct : (xs : List ℕ) → IsOver k.ops xs → IsDistinct xs → IsDistinct (read k xs)
  read_distinct [] over distinct = tt
  read_distinct (x ∷ xs) over distinct = (
    (λ i. distinct.0 (subst (λ n. In n xs) (read_code_below k x (IsOver_head over))
        (of_read (read_code k x) xs (IsOver_tail over) i))),
    read_distinct xs (IsOver_tail over) distinct.1,
  )

  pub over_of_in : (xs : List ℕ) → ((c : ℕ) → In c xs → c < k.size) → IsOver k.ops xs
  over_of_in [] within = IsOver_nil
  over_of_in (x ∷ xs) within = IsOver_cons (within x (inl refl)) (over_of_in xs (λ c i. within c (inr i)))

module _ (k : CodeField) (A : AlgebraOps) (law : IsAlgebra k A) where
  abbrev R : CommRing (Vector k A.size)
  R = vector_ring k A law

  abbrev ι : Code k → Vector k A.size
  ι = scalar k A law

  pub scalar_injective : 0 < A.size → (a b : Code k) → ι a ≡ ι b → a ≡ b
  scalar_injective some =
      map_injective (code_ring k).ring R ι (scalar_map k A law) (code_finite k) (vector_discrete k A.size)
      (one_not_zero k A law some)
      (basis k A law) (basis_spans k A law)

  pub value_scalar : (cs : List (Code k)) (c : Code k)
      → value R.ops (map ι cs) R.𝟙 (ι c) ≡ ι (value (code_ring k).ops cs (code_ring k).𝟙 c)
  value_scalar cs c =
      ap (λ y. value R.ops (map ι cs) y (ι c)) (sym (scalar_map k A law).𝟙)
      ∙ map_value (code_ring k).ring R ι (scalar_map k A law) cs (code_ring k).𝟙 c

  pub suffix_scalar : (cs : List (Code k)) (c : Code k)
      → suffix_values R.ops (map ι cs) R.𝟙 (ι c) ≡ map ι (suffix_values (code_ring k).ops cs (code_ring k).𝟙 c)
  suffix_scalar [] c = refl
  suffix_scalar (d ∷ cs) c = ap₂ ◌∷◌ (value_scalar (d ∷ cs) c) (suffix_scalar cs c)

  -- the negatives of scalars
  pub negatives_scalar : (v : List ℕ) → IsOver k.ops v
      → map R.⊖◌ (map ι (read k v)) ≡ map ι (read k (neg_list (raw_ring k.ops) v))
  negatives_scalar [] over = refl
  negatives_scalar (c ∷ v) over =
      ap₂ ◌∷◌
      (sym (hom_neg (code_ring k).ring R ι (scalar_map k A law) (read_code k c))
      ∙ ap ι (same_code k _ _ (ap k.neg (read_code_below k c (IsOver_head over))
      ∙ sym (read_code_below k (k.neg c) (k.laws.neg_below c (IsOver_head over))))))
      (negatives_scalar v (IsOver_tail over))

  -- c is a root among the scalars exactly where it is one among the codes
  pub root_scalar : (lower : List ℕ) (c : Code k) → IsOver k.ops lower → monic_value k.ops lower c.0 ≡ 0
      → value R.ops (map ι (read k lower)) R.𝟙 (ι c) ≡ R.𝟘
  root_scalar lower c over z =
      value_scalar (read k lower) c ∙ ap ι (same_code k _ (code_ring k).𝟘 (value_read k lower c over ∙ z))
      ∙ hom_zero (code_ring k).ring R ι (scalar_map k A law)

  pub scalar_root : 0 < A.size → (lower : List ℕ) (c : Code k) → IsOver k.ops lower
      → value R.ops (map ι (read k lower)) R.𝟙 (ι c) ≡ R.𝟘
      → monic_value k.ops lower c.0 ≡ 0
  scalar_root some lower c over z =
      sym (value_read k lower c over)
      ∙ ap (λ y. y.0) (scalar_injective some _ (code_ring k).𝟘
      (sym (value_scalar (read k lower) c) ∙ z ∙ sym (hom_zero (code_ring k).ring R ι (scalar_map k A law))))
