-- Functions by their coordinates in a list: sums, multiples, products, and that the coordinates are determined.
use Rattle.std.proofs.Common.{◌≡◌, ℕ, zero, suc, ◌<◌, List, [], ◌∷◌, ◌++◌, length, map, replicate, All, refl, sym, ap, ap₂, ◌∙◌, subst, arith}
use Rattle.std.proofs.lemmas.List.{length-map, map-append}
use Rattle.std.proofs.lemmas.List.Elements.{All-nil, All-cons, All-head, All-tail}
use Rattle.ring_lemmas.specs.Ring.{CommRing}
use Rattle.ring_lemmas.specs.Lists.{add_lists, scale_list}
use Rattle.ring_lemmas.proofs.Ring.{zero_mul, mul_zero, zero_add, eq_of_sub, sub_of_eq}
use Rattle.ring_lemmas.proofs.Solver.{ring, reads}
use Rattle.ring_theory.specs.Subsets.{Span, products}
use Rattle.ff_fields.specs.Field.{CodeField}
use Rattle.ff_fields.specs.Code.{raw_ring}
use Rattle.ff_fields.specs.Over.{IsOver, IsOver_nil, IsOver_cons, IsOver_head, IsOver_tail}
use Rattle.function_field.specs.Functions.{Equation, FunctionOf, ring_of, IsCode}
use Rattle.function_field.specs.Spans.{combination, IsIndependentList}
use Rattle.linear_theory.specs.Module.{combination as row_combination}
use Rattle.ff_linalg.specs.Space.{row_ops}
use Rattle.ff_falg.specs.Algebras.{IsVector}
use Rattle.ff_falg.proofs.RowSteps.{combination_in}
use Rattle.ff_falg.proofs.Vectors.{multiple_in}
use Rattle.ff_structure.specs.Structures.{entry_products}
use Rattle.divisor_theory.proofs.Constants.{code_subring}
use Rattle.idempotents_theory.specs.Coordinates.{code_function, function_at}
use Rattle.idempotents_theory.proofs.CodeFunctions.{code_zero, code_sum, code_product, code_function_in, code_number, code_once}

module _ {E : Type 0} (R : CommRing E) where
  infixl 65 ◌⊕◌
  infixl 70 ◌⊗◌
  infixr 80 ⊖◌
  open R use {𝟘, 𝟙, ◌⊕◌, ◌⊗◌, ⊖◌}

  sum_step : (x y b u v : E) → (x ⊕ y) ⊗ b ⊕ (u ⊕ v) ≡ (x ⊗ b ⊕ u) ⊕ (y ⊗ b ⊕ v)
  sum_step x y b u v = ring R (x ∷ y ∷ b ∷ u ∷ v ∷ [])
      λ q h. simp (reads, q, h 0, h 1, h 2, h 3, h 4) (q.equal _ _ refl)

  multiple_step : (x y b u : E) → (x ⊗ y) ⊗ b ⊕ x ⊗ u ≡ x ⊗ (y ⊗ b ⊕ u)
  multiple_step x y b u = ring R (x ∷ y ∷ b ∷ u ∷ []) λ q h. simp (reads, q, h 0, h 1, h 2, h 3) (q.equal _ _ refl)

  difference_step : (x y b u v : E) → (x ⊕ ⊖ y) ⊗ b ⊕ (u ⊕ ⊖ v) ≡ (x ⊗ b ⊕ u) ⊕ ⊖ (y ⊗ b ⊕ v)
  difference_step x y b u v = ring R (x ∷ y ∷ b ∷ u ∷ v ∷ [])
      λ q h. simp (reads, q, h 0, h 1, h 2, h 3, h 4) (q.equal _ _ refl)

  product_step : (x y b d u : E) → (x ⊗ y) ⊗ (b ⊗ d) ⊕ (x ⊗ b) ⊗ u ≡ (x ⊗ b) ⊗ (y ⊗ d ⊕ u)
  product_step x y b d u = ring R (x ∷ y ∷ b ∷ d ∷ u ∷ [])
      λ q h. simp (reads, q, h 0, h 1, h 2, h 3, h 4) (q.equal _ _ refl)

  append_step : (x b u v : E) → x ⊗ b ⊕ (u ⊕ v) ≡ (x ⊗ b ⊕ u) ⊕ v
  append_step x b u v = sym (R.add_assoc (x ⊗ b) u v)

  expand_step : (x b u w : E) → (x ⊗ b) ⊗ w ⊕ u ⊗ w ≡ (x ⊗ b ⊕ u) ⊗ w
  expand_step x b u w = ring R (x ∷ b ∷ u ∷ w ∷ []) λ q h. simp (reads, q, h 0, h 1, h 2, h 3) (q.equal _ _ refl)

  -- two lists of coefficients, one after the other
  combination_append : (xs ys gs hs : List E) → length xs ≡ length gs
      → combination R.ops (xs ++ ys) (gs ++ hs) ≡ combination R.ops xs gs ⊕ combination R.ops ys hs
  combination_append [] ys [] hs e = sym (zero_add R (combination R.ops ys hs))
  combination_append [] ys (g ∷ gs) hs e = absurd (omega arith)
  combination_append (x ∷ xs) ys [] hs e = absurd (omega arith)
  combination_append (x ∷ xs) ys (g ∷ gs) hs e =
      ap (λ u. x ⊗ g ⊕ u) (combination_append xs ys gs hs (omega arith))
      ∙ append_step x g (combination R.ops xs gs) (combination R.ops ys hs)

module _ {k : CodeField} (c : Equation k) where
  infixl 65 ◌⊕◌
  infixl 70 ◌⊗◌
  infixr 80 ⊖◌
  open ring_of c use {𝟘, 𝟙, ◌⊕◌, ◌⊗◌, ⊖◌}

  abbrev F : CommRing (FunctionOf c)
  F = ring_of c

  abbrev f : ℕ → FunctionOf c
  f = code_function c

  tail_vector : {x n : ℕ} {v : List ℕ} → IsVector k.ops (suc n) (x ∷ v) → IsVector k.ops n v
  tail_vector {x} {n} {v} h = record {
    size = (let e : suc (length v) ≡ suc n = h.size in omega arith);
    over = IsOver_tail h.over;
  }

  pub at_zero : (bs : List (FunctionOf c)) → function_at c bs (replicate (length bs) 0) ≡ 𝟘
  at_zero [] = refl
  at_zero (b ∷ bs) =
      ap₂ ◌⊕◌ (ap (λ x. x ⊗ b) (code_zero c) ∙ zero_mul F b) (at_zero bs) ∙ F.add_zero 𝟘

  pub at_sum : (bs : List (FunctionOf c)) (v w : List ℕ) → IsVector k.ops (length bs) v → IsVector k.ops (length bs) w
      → function_at c bs (add_lists (raw_ring k.ops) v w) ≡ function_at c bs v ⊕ function_at c bs w
  at_sum [] [] [] v_in w_in = sym (F.add_zero 𝟘)
  at_sum [] [] (y ∷ w) v_in w_in = absurd (let e = w_in.size in omega arith)
  at_sum [] (x ∷ v) w v_in w_in = absurd (let e = v_in.size in omega arith)
  at_sum (b ∷ bs) [] w v_in w_in = absurd (let e = v_in.size in omega arith)
  at_sum (b ∷ bs) (x ∷ v) [] v_in w_in = absurd (let e = w_in.size in omega arith)
  at_sum (b ∷ bs) (x ∷ v) (y ∷ w) v_in w_in =
      ap₂ (λ s t. s ⊗ b ⊕ t) (code_sum c x y (IsOver_head v_in.over) (IsOver_head w_in.over))
      (at_sum bs v w (tail_vector v_in) (tail_vector w_in))
      ∙ sum_step F (f x) (f y) b (function_at c bs v) (function_at c bs w)

  pub at_multiple : (bs : List (FunctionOf c)) (a : ℕ) (v : List ℕ) → a < k.size → IsVector k.ops (length bs) v
      → function_at c bs (scale_list (raw_ring k.ops) a v) ≡ f a ⊗ function_at c bs v
  at_multiple [] a [] a_in v_in = sym (mul_zero F (f a))
  at_multiple [] a (x ∷ v) a_in v_in = absurd (let e = v_in.size in omega arith)
  at_multiple (b ∷ bs) a [] a_in v_in = absurd (let e = v_in.size in omega arith)
  at_multiple (b ∷ bs) a (x ∷ v) a_in v_in =
      ap₂ (λ s t. s ⊗ b ⊕ t) (code_product c a x a_in (IsOver_head v_in.over))
      (at_multiple bs a v a_in (tail_vector v_in))
      ∙ multiple_step F (f a) (f x) b (function_at c bs v)

  -- a combination of vectors
  pub at_combination : (bs : List (FunctionOf c)) (cs : List ℕ) (rows : List (List ℕ)) → IsOver k.ops cs
      → All (IsVector k.ops (length bs)) rows
      → function_at c bs (row_combination (row_ops k.ops (length bs)) cs rows)
      ≡ combination F.ops (map f cs) (map (function_at c bs) rows)
  at_combination bs [] rows cs_in all = at_zero bs
  at_combination bs (x ∷ cs) [] cs_in all = at_zero bs
  at_combination bs (x ∷ cs) (r ∷ rows) cs_in all =
      let n = length bs in
      let x_in = IsOver_head cs_in in
      let r_in = All-head (IsVector k.ops n) r rows all in
      let rest = All-tail (IsVector k.ops n) r rows all in
      at_sum bs (scale_list (raw_ring k.ops) x r) (row_combination (row_ops k.ops n) cs rows)
      (multiple_in k n x r x_in r_in) (combination_in k n cs rows (IsOver_tail cs_in) rest)
      ∙ ap₂ ◌⊕◌ (at_multiple bs x r x_in r_in) (at_combination bs cs rows (IsOver_tail cs_in) rest)

  -- the products of the entries by one, at the products of the functions by one
  times_one : (bs : List (FunctionOf c)) (x : ℕ) (b : FunctionOf c) (w : List ℕ) → x < k.size → IsOver k.ops w
      → combination F.ops (map f (map (k.mul x) w)) (map (◌⊗◌ b) bs) ≡ (f x ⊗ b) ⊗ combination F.ops (map f w) bs
  times_one bs x b [] x_in w_in = sym (mul_zero F (f x ⊗ b))
  times_one [] x b (y ∷ w) x_in w_in = sym (mul_zero F (f x ⊗ b))
  times_one (d ∷ bs) x b (y ∷ w) x_in w_in =
      ap₂ (λ s t. s ⊗ (b ⊗ d) ⊕ t) (code_product c x y x_in (IsOver_head w_in))
      (times_one bs x b w x_in (IsOver_tail w_in))
      ∙ product_step F (f x) (f y) b d (combination F.ops (map f w) bs)

  pub times_all : (gs bs : List (FunctionOf c)) (v w : List ℕ) → IsOver k.ops v → IsVector k.ops (length bs) w
      → combination F.ops (map f (entry_products k.ops v w)) (products F.ops gs bs)
      ≡ combination F.ops (map f v) gs ⊗ combination F.ops (map f w) bs
  times_all gs bs [] w v_in w_in = sym (zero_mul F _)
  times_all [] bs (x ∷ v) w v_in w_in = none (map f (entry_products k.ops (x ∷ v) w)) ∙ sym (zero_mul F _)
    where
      none : (xs : List (FunctionOf c)) → combination F.ops xs [] ≡ 𝟘
      none [] = refl
      none (x ∷ xs) = refl
  times_all (b ∷ gs) bs (x ∷ v) w v_in w_in =
      ap (λ xs. combination F.ops xs (map (◌⊗◌ b) bs ++ products F.ops gs bs))
      (map-append f (map (k.mul x) w) (entry_products k.ops v w))
      ∙ combination_append F (map f (map (k.mul x) w)) (map f (entry_products k.ops v w)) (map (◌⊗◌ b) bs)
      (products F.ops gs bs)
      (length-map (map (k.mul x) w) f ∙ length-map w (k.mul x) ∙ w_in.size ∙ sym (length-map bs (◌⊗◌ b)))
      ∙ ap₂ ◌⊕◌ (times_one bs x b w (IsOver_head v_in) w_in.over)
      (times_all gs bs v w (IsOver_tail v_in) w_in)
      ∙ expand_step F (f x) b (combination F.ops (map f v) gs) (combination F.ops (map f w) bs)

  -- a member of the span has coordinates
  pub coordinates : (bs : List (FunctionOf c)) (z : FunctionOf c) → Span F.ops (IsCode c) bs z
      → (v : List ℕ) × IsVector k.ops (length bs) v × (z ≡ function_at c bs v)
  coordinates [] z h = ([], record { size = refl; over = IsOver_nil }, h)
  coordinates (b ∷ bs) z h =
      let r = coordinates bs h.rest h.rest_in in
      let a = code_number c h.scalar h.scalar_in in (
        a.0.0 ∷ r.0,
        record { size = ap suc r.1.size; over = IsOver_cons a.0.1 r.1.over },
        h.is ∙ ap₂ ◌⊕◌ (ap (λ x. x ⊗ b) a.1) r.2,
      )

  -- the differences of the entries as functions
  differences : List ℕ → List ℕ → List (FunctionOf c)
  differences [] w = []
  differences (x ∷ v) [] = []
  differences (x ∷ v) (y ∷ w) = (f x ⊕ ⊖ f y) ∷ differences v w

  differences_codes : (v w : List ℕ) → All (IsCode c) (differences v w)
  unfolding differences
  differences_codes [] w = All-nil (IsCode c)
  differences_codes (x ∷ v) [] = All-nil (IsCode c)
  differences_codes (x ∷ v) (y ∷ w) =
      All-cons (IsCode c) (f x ⊕ ⊖ f y) (differences v w)
      ((code_subring c).sum_in (f x) (⊖ f y) (code_function_in c x)
      ((code_subring c).neg_in (f y) (code_function_in c y)))
      (differences_codes v w)

  differences_length : (v w : List ℕ) → length v ≡ length w → length (differences v w) ≡ length v
  unfolding differences
  differences_length [] w e = refl
  differences_length (x ∷ v) [] e = absurd (omega arith)
  differences_length (x ∷ v) (y ∷ w) e = ap suc (differences_length v w (omega arith))

  differences_at : (bs : List (FunctionOf c)) (v w : List ℕ) → length v ≡ length w
      → combination F.ops (differences v w) bs ≡ function_at c bs v ⊕ ⊖ function_at c bs w
  unfolding differences
  differences_at bs [] [] e = sym (F.add_neg 𝟘)
  differences_at bs [] (y ∷ w) e = absurd (omega arith)
  differences_at bs (x ∷ v) [] e = absurd (omega arith)
  differences_at [] (x ∷ v) (y ∷ w) e = sym (F.add_neg 𝟘)
  differences_at (b ∷ bs) (x ∷ v) (y ∷ w) e =
      ap (λ u. (f x ⊕ ⊖ f y) ⊗ b ⊕ u) (differences_at bs v w (omega arith))
      ∙ difference_step F (f x) (f y) b (function_at c bs v) (function_at c bs w)

  differences_none : (v w : List ℕ) → IsOver k.ops v → IsOver k.ops w → length v ≡ length w
      → All (λ r. r ≡ 𝟘) (differences v w) → v ≡ w
  unfolding differences
  differences_none [] [] v_in w_in e h = refl
  differences_none [] (y ∷ w) v_in w_in e h = absurd (omega arith)
  differences_none (x ∷ v) [] v_in w_in e h = absurd (omega arith)
  differences_none (x ∷ v) (y ∷ w) v_in w_in e h =
      ap₂ ◌∷◌
      (code_once c x y (IsOver_head v_in) (IsOver_head w_in)
      (eq_of_sub F (f x) (f y) (All-head (λ r. r ≡ 𝟘) (f x ⊕ ⊖ f y) (differences v w) h)))
      (differences_none v w (IsOver_tail v_in) (IsOver_tail w_in) (omega arith)
      (All-tail (λ r. r ≡ 𝟘) (f x ⊕ ⊖ f y) (differences v w) h))

  -- in an independent list the coordinates are determined
  pub coordinates_once : (bs : List (FunctionOf c)) → IsIndependentList F.ops (IsCode c) bs → (v w : List ℕ)
      → IsVector k.ops (length bs) v → IsVector k.ops (length bs) w → function_at c bs v ≡ function_at c bs w → v ≡ w
  coordinates_once bs independent v w v_in w_in e =
      let same = v_in.size ∙ sym w_in.size in
      differences_none v w v_in.over w_in.over same
      (independent (differences v w) (differences_length v w same ∙ v_in.size) (differences_codes v w)
      (differences_at bs v w same ∙ sub_of_eq F (function_at c bs v) (function_at c bs w) e))
