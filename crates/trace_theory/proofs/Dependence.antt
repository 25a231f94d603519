-- Over a domain a square matrix whose determinant is 0 has a relation between its rows.
use Rattle.std.proofs.Common.{◌≡◌, ℕ, zero, suc, ◌<◌, ◌⊎◌, inl, inr, ◌∷◌, refl, sym, ◌∙◌, ap, subst, arith}
use native.Mathlib.Decide.{ℕ_discrete}
use Rattle.ring_lemmas.specs.Ring.{CommRing}
use Rattle.ring_lemmas.specs.Sums.{sum_below, matrix_product}
use Rattle.ring_theory.specs.Determinant.{determinant, with_row}
use Rattle.ring_lemmas.proofs.Ring.{mul_zero, zero_mul, zero_add, neg_mul, neg_unique, product_not_zero}
use Rattle.ring_lemmas.proofs.Sums.{below_first, below_cong, below_neg}
use Rattle.ring_theory.proofs.Determinant.{determinant_product}
use Rattle.linear_theory.specs.Fields.{Domain}
use Rattle.linear_theory.specs.Module.{combine, sequence_ops}
use Rattle.linear_theory.specs.Basis.{Relation, IsIndependent}
use Rattle.linear_theory.proofs.Independence.{Vanishes, independent_or_relation}
use Rattle.linear_theory.proofs.Relation.{relation}
use Rattle.linear_theory.specs.Lists.{tabulate}
use Rattle.linear_theory.proofs.Elimination.{length_tabulate}
use Rattle.ring_theory.proofs.Cramer.{cramer}
use Rattle.trace_theory.proofs.RowForm.{with_row_cong}
use Rattle.trace_theory.proofs.TraceForm.{Choice, choose}
use Rattle.trace_theory.proofs.Determinants.{diagonal, product_below, diagonal_determinant, diagonal_here, diagonal_other, determinant_cong, zero_row}

module _ {A : Type 0} (R : CommRing A) where
  infixl 70 ◌⊗◌
  open R use {𝟘, ◌⊗◌}

  pub combine_listed : (n : ℕ) (c : ℕ → A) (m : ℕ → ℕ → A) (j : ℕ)
      → combine (sequence_ops R.ops) c (tabulate n m) j ≡ sum_below R.ops n (λ i. c i ⊗ m i j)
  combine_listed zero c m j = refl
  combine_listed (suc n) c m j =
      ap (λ s. R.◌⊕◌ (c 0 ⊗ m 0 j) s) (combine_listed n (λ i. c (suc i)) (λ i. m (suc i)) j)
      ∙ sym (below_first R n (λ i. c i ⊗ m i j))

module _ {A : Type 0} (D : Domain A) where
  infixl 65 ◌⊕◌
  infixl 70 ◌⊗◌
  infixr 80 ⊖◌
  open D.ring use {𝟘, 𝟙, ◌⊕◌, ◌⊗◌, ⊖◌}

  abbrev R : CommRing A
  R = D.ring

  -- coefficients, not all 0, whose combination of the rows is 0
  pub record RowRelation (n : ℕ) (m : ℕ → ℕ → A) : Type 0 where
    pub coefficient : ℕ → A
    pub position : ℕ
    pub position_below : position < n
    pub nonzero : ¬ (coefficient position ≡ 𝟘)
    pub is : (j : ℕ) → j < n → sum_below R.ops n (λ i. coefficient i ⊗ m i j) ≡ 𝟘

  of_relation : (n : ℕ) (m : ℕ → ℕ → A) → Relation R.ops n (tabulate n m) → RowRelation n m
  of_relation n m r = record {
    coefficient = r.coefficient;
    position = r.position;
    position_below = subst (λ l. r.position < l) (length_tabulate n m) r.position_below;
    nonzero = r.nonzero;
    is = λ j l. sym (combine_listed R n r.coefficient m j) ∙ r.is j l;
  }

  -- a combination of the rows that is a multiple of a row of the unit matrix
  pub record UnitMultiple (n : ℕ) (m : ℕ → ℕ → A) (j : ℕ) (w : ℕ → A) : Type 0 where
    pub factor : A
    pub factor_nonzero : ¬ (factor ≡ 𝟘)
    pub is : (l : ℕ) → l < n → sum_below R.ops n (λ i. w i ⊗ m i l) ≡ factor ⊗ diagonal R.ops (λ i. 𝟙) j l

  unit_multiple : (n : ℕ) (m : ℕ → ℕ → A) → IsIndependent R.ops (sequence_ops R.ops) (Vanishes R n) (tabulate n m)
      → (j : ℕ) → j < n → (w : ℕ → A) × UnitMultiple n m j w
  unit_multiple n m free j l =
      let rows = diagonal R.ops (λ i. 𝟙) j ∷ tabulate n m in
      let r = relation D n rows (let q = length_tabulate n m in omega arith) in
      let w : ℕ → A = λ i. ⊖ r.coefficient (suc i) in (
        w,
        record {
          factor = r.coefficient 0;
          factor_nonzero = λ e. r.nonzero
              (all_zero r.coefficient (λ l b. r.is l b) e r.position
              (let b = r.position_below in let q = length_tabulate n m in omega arith));
          is = λ l b. turned r.coefficient l (r.is l b);
        },
      )
    where
      value : (c : ℕ → A) (l : ℕ) → combine (sequence_ops R.ops) c (diagonal R.ops (λ i. 𝟙) j ∷ tabulate n m) l
          ≡ c 0 ⊗ diagonal R.ops (λ i. 𝟙) j l ⊕ sum_below R.ops n (λ i. c (suc i) ⊗ m i l)
      value c l = ap (λ s. c 0 ⊗ diagonal R.ops (λ i. 𝟙) j l ⊕ s) (combine_listed R n (λ i. c (suc i)) m l)

      turned : (c : ℕ → A) (l : ℕ) → combine (sequence_ops R.ops) c (diagonal R.ops (λ i. 𝟙) j ∷ tabulate n m) l ≡ 𝟘
          → sum_below R.ops n (λ i. ⊖ c (suc i) ⊗ m i l) ≡ c 0 ⊗ diagonal R.ops (λ i. 𝟙) j l
      turned c l e =
          below_cong R n _ _ (λ i b. neg_mul R _ _) ∙ below_neg R n _
          ∙ sym (neg_unique R (sum_below R.ops n (λ i. c (suc i) ⊗ m i l)) (c 0 ⊗ diagonal R.ops (λ i. 𝟙) j l)
          (R.add_comm _ _ ∙ sym (value c l) ∙ e))

      all_zero : (c : ℕ → A) → ((l : ℕ) → l < n
          → combine (sequence_ops R.ops) c (diagonal R.ops (λ i. 𝟙) j ∷ tabulate n m) l ≡ 𝟘) → c 0 ≡ 𝟘
          → (i : ℕ) → i < suc n → c i ≡ 𝟘
      all_zero c h e zero b = e
      all_zero c h e (suc i) b =
          free (λ i. c (suc i))
          (λ l k.
          sym (zero_add R _ ∙ refl) ∙ ap (λ x. x ⊕ combine (sequence_ops R.ops) (λ i. c (suc i)) (tabulate n m) l)
          (sym (ap (λ x. x ⊗ diagonal R.ops (λ i. 𝟙) j l) e ∙ zero_mul R _)) ∙ h l k)
          i (let q = length_tabulate n m in omega arith)

  product_nonzero : (n : ℕ) (f : ℕ → A) → ((i : ℕ) → i < n → ¬ (f i ≡ 𝟘)) → ¬ (product_below R.ops n f ≡ 𝟘)
  product_nonzero zero f h = D.one_not_zero
  product_nonzero (suc n) f h =
      product_not_zero D.is_domain (f 0) _ (h 0 (omega arith))
      (product_nonzero n (λ i. f (suc i)) (λ i l. h (suc i) (omega arith)))

  -- rows that are independent have a determinant that isn't 0
  independent_determinant : (n : ℕ) (m : ℕ → ℕ → A)
      → IsIndependent R.ops (sequence_ops R.ops) (Vanishes R n) (tabulate n m)
      → ¬ (determinant R.ops n m ≡ 𝟘)
  independent_determinant n m free e =
      let W : Choice (λ j w. UnitMultiple n m j w) n = choose (λ j w. UnitMultiple n m j w) n (λ i. 𝟘)
      (unit_multiple n m free) in
      let F : Choice (λ j a. (¬ (a ≡ 𝟘))
      × ((l : ℕ) → l < n → sum_below R.ops n (λ i. W.chosen j i ⊗ m i l) ≡ a ⊗ diagonal R.ops (λ i. 𝟙) j l)) n
      = choose (λ j a. (¬ (a ≡ 𝟘)) × ((l : ℕ) → l < n
      → sum_below R.ops n (λ i. W.chosen j i ⊗ m i l) ≡ a ⊗ diagonal R.ops (λ i. 𝟙) j l)) n 𝟘
      (λ j b. let u = W.holds j b in (u.factor, (u.factor_nonzero, u.is))) in
      product_nonzero n F.chosen (λ i l. (F.holds i l).0)
      (sym (diagonal_determinant R n F.chosen)
      ∙ determinant_cong R n (diagonal R.ops F.chosen) (matrix_product R.ops n W.chosen m)
      (λ i j k l. sym ((F.holds i k).1 j l ∙ scaled F.chosen i j (ℕ_discrete j i)))
      ∙ determinant_product R n W.chosen m ∙ ap (λ d. determinant R.ops n W.chosen ⊗ d) e ∙ mul_zero R _)
    where
      scaled : (r : ℕ → A) (i j : ℕ) → Dec (j ≡ i) → r i ⊗ diagonal R.ops (λ i. 𝟙) i j ≡ diagonal R.ops r i j
      scaled r i j (yes q) =
          ap (λ l. r i ⊗ diagonal R.ops (λ i. 𝟙) i l) q ∙ ap (λ x. r i ⊗ x) (diagonal_here R (λ i. 𝟙) i)
          ∙ R.mul_one (r i)
          ∙ sym (diagonal_here R r i) ∙ ap (diagonal R.ops r i) (sym q)
      scaled r i j (no ne) =
          ap (λ x. r i ⊗ x) (diagonal_other R (λ i. 𝟙) i j ne) ∙ mul_zero R _ ∙ sym (diagonal_other R r i j ne)

  -- rows with a relation have determinant 0: in position of the row with a nonzero coefficient their combination is 0
  relation_determinant : (n : ℕ) (m : ℕ → ℕ → A) → RowRelation n m → determinant R.ops n m ≡ 𝟘
  relation_determinant n m r =
      D.is_domain.cancel_zero (r.coefficient r.position) (determinant R.ops n m) r.nonzero
      (sym (cramer R n r.position r.position_below r.coefficient m)
      ∙ determinant_cong R n _ (with_row r.position (λ j. 𝟘) m)
      (λ i j k l. with_row_cong n r.position (λ j. sum_below R.ops n (λ i. r.coefficient i ⊗ m i j)) (λ j. 𝟘) m r.is i j
      l)
      ∙ zero_row R n r.position r.position_below m)

  pub row_relation : (n : ℕ) (m : ℕ → ℕ → A) → determinant R.ops n m ≡ 𝟘 → RowRelation n m
  row_relation n m e = go (independent_or_relation D n (tabulate n m))
    where
      go : Relation R.ops n (tabulate n m) ⊎ IsIndependent R.ops (sequence_ops R.ops) (Vanishes R n) (tabulate n m)
          → RowRelation n m
      go (inl r) = of_relation n m r
      go (inr free) = absurd (independent_determinant n m free e)

  -- where the determinant isn't 0, each row of the unit matrix has a multiple that is a combination of the rows
  pub unit_multiples : (n : ℕ) (m : ℕ → ℕ → A) → ¬ (determinant R.ops n m ≡ 𝟘) → (j : ℕ) → j < n
      → (w : ℕ → A) × UnitMultiple n m j w
  unit_multiples n m some j l = unit_multiple n m (free (independent_or_relation D n (tabulate n m))) j l
    where
      free : Relation R.ops n (tabulate n m) ⊎ IsIndependent R.ops (sequence_ops R.ops) (Vanishes R n) (tabulate n m)
          → IsIndependent R.ops (sequence_ops R.ops) (Vanishes R n) (tabulate n m)
      free (inr h) = h
      free (inl r) = absurd (some (relation_determinant n m (of_relation n m r)))
