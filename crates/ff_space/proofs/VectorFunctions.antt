-- The functions of vectors over a denominator: linear in the vector, and one vector for each function.
use Rattle.std.proofs.Common.{◌≡◌, ℕ, suc, ◌-◌, ◌*◌, ◌≤◌, List, [], ◌∷◌, length, map, replicate, sym, ◌∙◌, ap, ap₂, subst, arith, All}
use Rattle.std.proofs.lemmas.List.Elements.{All-head, All-tail}
use Rattle.ring_lemmas.specs.Lists.{coeff_of, add_lists, scale_list}
use Rattle.ff_fields.specs.Field.{CodeField}
use Rattle.ff_fields.specs.Code.{raw_ring, code_ring}
use Rattle.ff_fields.specs.Numbers.{read}
use Rattle.ff_fields.specs.Over.{IsOver, IsOver_head, IsOver_tail, IsOver_cons, IsOver_nil, IsOver_scale}
use Rattle.ff_poly.specs.Value.{value}
use Rattle.ff_poly.specs.Polynomials.{polynomials, constant_poly}
use Rattle.linear_theory.specs.Module.{combine, combination}
use Rattle.ff_linalg.specs.Space.{row_ops}
use Rattle.ff_linalg.proofs.Bridge.{combination_over}
use Rattle.function_field.specs.Functions.{Equation, over, of_poly}
use Rattle.function_field.specs.Indices.{space_ops}
use Rattle.function_field.specs.Values.{PresValue, functions, equation_of, row_of_list}
use Rattle.ff_lattice.proofs.Elements.{elem_over, read_is}
use Rattle.ff_lattice.proofs.Fracs.{over_add, over_scale, over_zero, over_injective}
use Rattle.ff_space.specs.Vectors.{over_den, parts_of}
use Rattle.ff_space.proofs.VectorParts.{part_row, row_of_sum, row_of_multiple, row_of_zeros, vector_of_row}

module _ (k : CodeField) (p : PresValue) (some_n : 1 ≤ p.n) (den : List ℕ)
    (some : ¬ (value k den ≡ (polynomials k).𝟘)) (width : ℕ) where
  infixl 65 ◌⊕◌
  infixl 70 ◌⊗◌
  open functions k p use {𝟘, ◌⊕◌, ◌⊗◌}

  abbrev c : Equation k
  c = equation_of k p

  n_is : p.n ≡ suc (p.n - 1)
  n_is = omega arith

  pub by_row : (v : List ℕ)
      → over_den k p den width v ≡ over (equation_of k p) (part_row k width (suc (p.n - 1)) v) (value k den) some
  by_row v =
      elem_over k p den some (parts_of width p.n v)
      ∙ ap (λ r. over c r (value k den) some) (read_is k (suc (p.n - 1)) (parts_of width p.n v)
      ∙ ap (λ m. row_of_list k (suc (p.n - 1)) (parts_of width m v)) n_is)

  pub over_den_sum : (a b : List ℕ) → IsOver k.ops a → IsOver k.ops b
      → over_den k p den width (add_lists (raw_ring k.ops) a b)
      ≡ over_den k p den width a ⊕ over_den k p den width b
  over_den_sum a b a_in b_in =
      by_row (add_lists (raw_ring k.ops) a b)
      ∙ ap (λ r. over c r (value k den) some) (row_of_sum k width (suc (p.n - 1)) a b a_in b_in)
      ∙ sym (over_add c (part_row k width (suc (p.n - 1)) a) (part_row k width (suc (p.n - 1)) b) (value k den) some)
      ∙ ap₂ ◌⊕◌ (sym (by_row a)) (sym (by_row b))

  pub over_den_multiple : (e : ℕ) (a : List ℕ) → IsOver k.ops (e ∷ []) → IsOver k.ops a
      → over_den k p den width (scale_list (raw_ring k.ops) e a)
      ≡ of_poly (equation_of k p) (constant_poly k e) ⊗ over_den k p den width a
  over_den_multiple e a e_in a_in =
      by_row (scale_list (raw_ring k.ops) e a)
      ∙ ap (λ r. over c r (value k den) some) (row_of_multiple k width (suc (p.n - 1)) e a e_in a_in)
      ∙ sym (over_scale c (constant_poly k e) (part_row k width (suc (p.n - 1)) a) (value k den) some)
      ∙ ap (λ z. of_poly c (constant_poly k e) ⊗ z) (sym (by_row a))

  pub over_den_zeros : (m : ℕ) → over_den k p den width (replicate m 0) ≡ 𝟘
  over_den_zeros m =
      by_row (replicate m 0) ∙ ap (λ r. over c r (value k den) some) (row_of_zeros k width (suc (p.n - 1)) m)
      ∙ over_zero c (value k den) some

  -- a combination of vectors has the combination of their functions
  pub over_den_combination : (cols : ℕ) (cs : List ℕ) (rows : List (List ℕ)) → length cs ≡ length rows
      → IsOver k.ops cs → All (IsOver k.ops) rows
      → over_den k p den width (combination (row_ops k.ops cols) cs rows)
      ≡ combine (space_ops (equation_of k p)) (coeff_of (code_ring k).ops (read k cs))
      (map (over_den k p den width) rows)
  over_den_combination cols [] [] size cs_in rows_in = over_den_zeros cols
  over_den_combination cols [] (r ∷ rows) size cs_in rows_in = absurd (omega arith)
  over_den_combination cols (e ∷ cs) [] size cs_in rows_in = absurd (omega arith)
  over_den_combination cols (e ∷ cs) (r ∷ rows) size cs_in rows_in =
      let r_in = All-head (IsOver k.ops) r rows rows_in in
      let rest_in = All-tail (IsOver k.ops) r rows rows_in in
      over_den_sum (scale_list (raw_ring k.ops) e r) (combination (row_ops k.ops cols) cs rows)
      (IsOver_scale k e r (IsOver_head cs_in) r_in)
      (combination_over k cols cs rows (IsOver_tail cs_in) rest_in)
      ∙ ap₂ ◌⊕◌ (over_den_multiple e r (IsOver_cons (IsOver_head cs_in) IsOver_nil) r_in)
      (over_den_combination cols cs rows (omega arith) (IsOver_tail cs_in) rest_in)

  pub over_den_injective : (a b : List ℕ) → length a ≡ p.n * width → length b ≡ p.n * width → IsOver k.ops a
      → IsOver k.ops b → over_den k p den width a ≡ over_den k p den width b → a ≡ b
  over_den_injective a b a_long b_long a_in b_in e =
      vector_of_row k width (suc (p.n - 1)) a b (subst (λ m. length a ≡ m * width) n_is a_long)
      (subst (λ m. length b ≡ m * width) n_is b_long) a_in b_in
      (over_injective c (part_row k width (suc (p.n - 1)) a) (part_row k width (suc (p.n - 1)) b) (value k den) some
      (sym (by_row a) ∙ e ∙ by_row b))
