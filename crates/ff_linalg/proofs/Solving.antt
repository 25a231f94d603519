-- Solutions of v·a = b are relations of the rows of a with b above them, whose first coefficient is 1.
use Rattle.std.proofs.Common.{◌≡◌, ℕ, zero, suc, ◌-◌, ◌<◌, List, [], ◌∷◌, ◌++◌, length, get_or, take, drop, replicate, refl, sym, ◌∙◌, ap, subst, arith}
use Rattle.std.proofs.lemmas.List.{length-replicate, take_all}
use Rattle.std.proofs.lemmas.List.Elements.{All-cons}
use Rattle.std.specs.Prelude.{All}
use Rattle.ff_fields.specs.Field.{FieldOps, CodeField}
use Rattle.ff_fields.specs.Code.{Code, code_ring, raw_ring}
use Rattle.ff_fields.specs.Numbers.{read, numbers_read, read_numbers, numbers_neg}
use Rattle.ff_fields.specs.Over.{IsOver, IsOver_cons, IsOver_tail, IsOver_neg, IsOver_zeros}
use Rattle.ring_lemmas.specs.Ring.{CommRing}
use Rattle.ring_lemmas.specs.Lists.{coeff_of, neg_list}
use Rattle.ring_lemmas.proofs.Ring.{neg_unique, neg_neg, neg_mul, one_mul}
use Rattle.ring_lemmas.proofs.Lists.{length_neg_list, coeff_neg}
use Rattle.linear_theory.specs.Module.{combine, sequence_ops}
use Rattle.linear_theory.specs.Echelon.{row, InRowSpace}
use Rattle.linear_theory.proofs.Combination.{sequences, combine_cong, combine_scale}
use Rattle.linear_theory.proofs.Echelon.{Leading, leading_is_pivot}
use Rattle.ff_linalg.specs.Matrix.{MatrixValue, IsMatrixOver, HasShape, with_first_row}
use Rattle.ff_linalg.specs.Steps.{matrix_entry}
use Rattle.ff_linalg.specs.Forms.{sequences_of, IsReducedBelow}
use Rattle.ff_linalg.specs.Space.{row_product, IsSolution, HasNoSolution}
use Rattle.ff_linalg.specs.Kernel.{IsInKernel, IsKernelBasis}
use Rattle.ff_linalg.proofs.Reading.{read_one, read_same, row_entry, entry_in}
use Rattle.ff_linalg.proofs.Bridge.{coeff_zeros, combination_over, length_combination, combination_is, codes_ext, space_of_codes, codes_of_form, own_row_codes}
use Rattle.ff_linalg.proofs.Beside.{domain_of_codes}

module _ (k : CodeField) where
  abbrev R : CommRing (Code k)
  R = (code_ring k).ring

  coeff_read_neg : (xs : List ℕ) (i : ℕ) → IsOver k.ops xs
      → coeff_of R.ops (read k (neg_list (raw_ring k.ops) xs)) i ≡ R.⊖◌ (coeff_of R.ops (read k xs) i)
  coeff_read_neg xs i over =
      ap (λ ys. coeff_of R.ops ys i)
      (ap (λ ns. read k (neg_list (raw_ring k.ops) ns)) (sym (numbers_read k xs over))
      ∙ ap (read k) (sym (numbers_neg k (read k xs))) ∙ read_numbers k (neg_list R.ops (read k xs)))
      ∙ coeff_neg (code_ring k) (read k xs) i

  -- a combination with the negative coefficients
  negated : (c : ℕ → Code k) (F : List (ℕ → Code k)) (j : ℕ)
      → combine (sequence_ops R.ops) (λ i. R.⊖◌ (c i)) F j ≡ R.⊖◌ (combine (sequence_ops R.ops) c F j)
  negated c F j =
      ap (λ s. s j) (combine_cong (sequences R) (λ i. R.⊖◌ (c i)) (λ i. R.◌⊗◌ (R.⊖◌ R.𝟙) (c i)) F
      (λ i l. sym (minus (c i))) ∙ combine_scale (sequences R) (R.⊖◌ R.𝟙) c F)
      ∙ minus (combine (sequence_ops R.ops) c F j)
    where
      minus : (x : Code k) → R.◌⊗◌ (R.⊖◌ R.𝟙) x ≡ R.⊖◌ x
      minus x = neg_mul R R.𝟙 x ∙ ap R.⊖◌ (one_mul R x)

  pub combination_neg : (cols : ℕ) (v : List ℕ) (rows : List (List ℕ)) → IsOver k.ops v → All (IsOver k.ops) rows
      → (j : ℕ)
      → combine (sequence_ops R.ops) (coeff_of R.ops (read k (neg_list (raw_ring k.ops) v))) (sequences_of k rows) j
      ≡ R.⊖◌ (combine (sequence_ops R.ops) (coeff_of R.ops (read k v)) (sequences_of k rows) j)
  combination_neg cols v rows v_in over j =
      ap (λ s. s j) (combine_cong (sequences R) (coeff_of R.ops (read k (neg_list (raw_ring k.ops) v)))
      (λ i. R.⊖◌ (coeff_of R.ops (read k v) i)) (sequences_of k rows) (λ i l. coeff_read_neg v i v_in))
      ∙ negated (coeff_of R.ops (read k v)) (sequences_of k rows) j

  module _ (a : MatrixValue) (b : List ℕ) (over : All (IsOver k.ops) a.rows)
      (wide : All (λ r. length r ≡ a.cols) a.rows) (b_in : IsOver k.ops b) (b_long : length b ≡ a.cols) where
    abbrev S : MatrixValue
    S = with_first_row b a

    s_over : All (IsOver k.ops) S.rows
    s_over = All-cons (IsOver k.ops) b a.rows b_in over

    s_wide : All (λ r. length r ≡ a.cols) S.rows
    s_wide = All-cons (λ r. length r ≡ a.cols) b a.rows b_long wide

    -- the coefficients with 1 in front
    abbrev total : List ℕ → ℕ → Code k
    total v j = combine (sequence_ops R.ops) (coeff_of R.ops (read k v)) (sequences_of k a.rows) j

    first_one : (v : List ℕ) → IsOver k.ops v → (j : ℕ)
        → coeff_of R.ops (read k (row_product k.ops (1 ∷ v) S)) j ≡ R.◌⊕◌ (coeff_of R.ops (read k b) j) (total v j)
    first_one v v_in j =
        combination_is k a.cols (1 ∷ v) S.rows (IsOver_cons k.laws.one_below v_in) s_over j
        ∙ ap (λ x. R.◌⊕◌ (R.◌⊗◌ x (coeff_of R.ops (read k b) j)) (total v j)) (read_one k)
        ∙ ap (λ x. R.◌⊕◌ x (total v j)) (one_mul R (coeff_of R.ops (read k b) j))

    -- a relation whose first coefficient is 1 is a solution
    pub solution_of_relation : (w : List ℕ) → IsInKernel k.ops S (1 ∷ w)
        → IsSolution k.ops a b (neg_list (raw_ring k.ops) w)
    solution_of_relation w h = record {
      one_each = length_neg_list (raw_ring k.ops) w ∙ (let e = h.one_each in omega (arith, e));
      over = IsOver_neg k w w_in;
      product = codes_ext k (row_product k.ops (neg_list (raw_ring k.ops) w) a) b
          (combination_over k a.cols (neg_list (raw_ring k.ops) w) a.rows (IsOver_neg k w w_in) over) b_in
          (length_combination k a.cols (neg_list (raw_ring k.ops) w) a.rows wide ∙ sym b_long) (λ j l.
          combination_is k a.cols (neg_list (raw_ring k.ops) w) a.rows (IsOver_neg k w w_in) over j
          ∙ combination_neg a.cols w a.rows w_in over j
          ∙ ap R.⊖◌ (neg_unique R (coeff_of R.ops (read k b) j) (total w j)
          (sym (first_one w w_in j) ∙ ap (λ xs. coeff_of R.ops (read k xs) j) h.product ∙ coeff_zeros k a.cols j))
          ∙ neg_neg R (coeff_of R.ops (read k b) j));
    }
      where
        w_in : IsOver k.ops w
        w_in = IsOver_tail h.over

    -- and the other way round
    relation_of_solution : (v : List ℕ) → IsSolution k.ops a b v → IsInKernel k.ops S (1 ∷ neg_list (raw_ring k.ops) v)
    relation_of_solution v h = record {
      one_each = ap suc (length_neg_list (raw_ring k.ops) v ∙ h.one_each);
      over = w_in;
      product = codes_ext k (row_product k.ops (1 ∷ w) S) (replicate a.cols 0)
          (combination_over k a.cols (1 ∷ w) S.rows w_in s_over) (IsOver_zeros k a.cols)
          (length_combination k a.cols (1 ∷ w) S.rows s_wide ∙ sym (length-replicate a.cols 0)) (λ j l.
          first_one w (IsOver_neg k v h.over) j
          ∙ ap (λ x. R.◌⊕◌ (coeff_of R.ops (read k b) j) x) (combination_neg a.cols v a.rows h.over over j
          ∙ ap R.⊖◌ (sym (combination_is k a.cols v a.rows h.over over j)
          ∙ ap (λ xs. coeff_of R.ops (read k xs) j) h.product))
          ∙ R.add_neg (coeff_of R.ops (read k b) j) ∙ sym (coeff_zeros k a.cols j));
    }
      where
        w : List ℕ
        w = neg_list (raw_ring k.ops) v

        w_in : IsOver k.ops (1 ∷ w)
        w_in = IsOver_cons k.laws.one_below (IsOver_neg k v h.over)

    module _ (m : MatrixValue) (basis : IsKernelBasis k.ops S m) where
      -- the first row of the basis begins with 1 where there is a solution
      pub record BeginsWithOne : Type 0 where
        pub some : 0 < length m.rows
        pub one : matrix_entry m.rows 0 0 ≡ 1

      pub first_of_solution : (v : List ℕ) → IsSolution k.ops a b v → BeginsWithOne
      first_of_solution v h = go (leading_is_pivot (domain_of_codes k) m.cols (sequences_of k m.rows) r.form
          (coeff_of R.ops (read k w)) member 0 leads)
        where
          w : List ℕ
          w = 1 ∷ neg_list (raw_ring k.ops) v

          r : IsReducedBelow k m.cols m.rows (length m.rows)
          r = codes_of_form k m (length m.rows) basis.reduced

          member : InRowSpace R.ops m.cols (sequences_of k m.rows) (coeff_of R.ops (read k w))
          member = space_of_codes k m w basis.over.each ((basis.row_space w).1 (relation_of_solution v h))

          leads : Leading (domain_of_codes k) m.cols (coeff_of R.ops (read k w)) 0
          leads = record {
            below = let e = basis.shape.col_count in omega (arith, e);
            nonzero = λ e. (domain_of_codes k).one_not_zero (sym (read_one k) ∙ e);
            earlier = λ j l. absurd (omega arith);
          }

          first : (i : ℕ) → i < r.form.rank → 0 ≡ r.form.pivot i → BeginsWithOne
          first zero l e = record {
            some = omega (arith, l, r.rank_is);
            one = read_same k (matrix_entry m.rows 0 0) 1 (entry_in k m.rows 0 0 basis.over.each) k.laws.one_below
                (sym (row_entry k m.rows 0 0) ∙ ap (row R.ops (sequences_of k m.rows) 0) e ∙ r.form.pivot_one 0 l
                ∙ sym (read_one k));
          }
          first (suc i) l e = absurd (let a = r.form.increasing 0 (suc i) (omega arith) l in omega (arith, a, e))

          go : (i : ℕ) × (i < r.form.rank) × (0 ≡ r.form.pivot i) → BeginsWithOne
          go p = first p.0 p.1 p.2

      pub no_solution : ¬ BeginsWithOne → HasNoSolution k.ops a b
      no_solution none v h = none (first_of_solution v h)

      -- and gives one
      pub solution_of_first : (w : List ℕ) → 0 < length m.rows → get_or m.rows 0 [] ≡ 1 ∷ w
          → IsSolution k.ops a b (neg_list (raw_ring k.ops) w)
      solution_of_first w some e =
          solution_of_relation w
          (subst (IsInKernel k.ops S) e
          ((basis.row_space (get_or m.rows 0 [])).0 (own_row_codes k m basis.over.each
          (subst (λ n. All (λ r. length r ≡ n) m.rows) (sym basis.shape.col_count) basis.shape.each) 0 some)))

split_first : (xs : List ℕ) → 0 < length xs → (rest : List ℕ) × (xs ≡ get_or xs 0 0 ∷ take (length xs - 1) (drop 1 xs))
split_first [] l = absurd (omega arith)
split_first (x ∷ xs) l = (xs, ap (λ ys. x ∷ ys) (sym (take_all (length (x ∷ xs) - 1) xs (omega arith))))

-- what the code knows of the matrices
module _ (k : CodeField) (a : MatrixValue) (b : List ℕ) (s m : MatrixValue) (s_is : s ≡ with_first_row b a)
    (shape : HasShape a (length a.rows) a.cols)
    (a_in : IsMatrixOver k.ops a) (b_in : IsOver k.ops b) (width : length b ≡ a.cols) (basis : IsKernelBasis k.ops s m)
  where
    of_stack : IsKernelBasis k.ops (with_first_row b a) m
    of_stack = subst (λ v. IsKernelBasis k.ops v m) s_is basis

    pub solve_none : ¬ ((0 < length m.rows) × (matrix_entry m.rows 0 0 ≡ 1)) → HasNoSolution k.ops a b
    solve_none none = no_solution k a b a_in.each shape.each b_in width m of_stack (λ h. none (h.some, h.one))

    pub solve_some : (first v : List ℕ) → first ≡ get_or m.rows 0 [] → 0 < length m.rows → get_or first 0 0 ≡ 1
        → v ≡ neg_list (raw_ring k.ops) (take (length first - 1) (drop 1 first)) → IsSolution k.ops a b v
    solve_some first v first_is some one v_is =
        subst (IsSolution k.ops a b) (sym v_is)
        (solution_of_first k a b a_in.each shape.each b_in width m of_stack
        (take (length first - 1) (drop 1 first)) some
        (sym first_is ∙ (split_first first long).1 ∙ ap (λ x. x ∷ take (length first - 1) (drop 1 first)) one))
      where
        long : 0 < length first
        long = nonempty first one
          where
            nonempty : (xs : List ℕ) → get_or xs 0 0 ≡ 1 → 0 < length xs
            nonempty [] e = absurd (omega arith)
            nonempty (x ∷ xs) e = omega arith

-- codes are negated one after another
pub neg_list_more : (k : FieldOps) (xs : List ℕ) (i : ℕ) → i < length xs
    → neg_list (raw_ring k) (take (suc i) xs) ≡ neg_list (raw_ring k) (take i xs) ++ k.neg (get_or xs i 0) ∷ []
neg_list_more k [] i l = absurd (omega arith)
neg_list_more k (x ∷ xs) zero l = refl
neg_list_more k (x ∷ xs) (suc i) l = ap (λ ys. k.neg x ∷ ys) (neg_list_more k xs i (omega arith))
