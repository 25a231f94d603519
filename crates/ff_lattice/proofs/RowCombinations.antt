-- Combinations of rows over a denominator, as functions.
use Rattle.std.proofs.Common.{◌≡◌, ℕ, zero, suc, ◌-◌, ◌<◌, List, [], ◌∷◌, length, map, refl, sym, ◌∙◌, ap, ap₂, arith, All}
use Rattle.std.proofs.lemmas.List.{length-map}
use Rattle.std.proofs.lemmas.List.Elements.{All-head, All-tail}
use mathlib.Core.Path.{fun_ext}
use Rattle.ring_lemmas.specs.Ring.{CommRing, TestedRing}
use Rattle.ring_lemmas.specs.Lists.{tail_of}
use Rattle.ring_lemmas.specs.Rows.{Row, entry}
use Rattle.ring_lemmas.proofs.Ring.{mul_zero}
use Rattle.ring_lemmas.proofs.Solver.{ring, reads}
use Rattle.ring_lemmas.specs.Polynomials.{Pol}
use Rattle.ring_theory.specs.PolynomialRing.{pol_ring}
use Rattle.ff_fields.specs.Field.{CodeField}
use Rattle.ff_fields.specs.Code.{code_ring}
use Rattle.ff_fields.specs.Over.{IsOver}
use Rattle.ff_poly.specs.Value.{value}
use Rattle.ff_poly.specs.Polynomials.{Polynomial, polynomials}
use Rattle.ff_poly.specs.Popov.{entry_at, IsRow, multiple_of_row, combination_list}
use Rattle.popov_theory.specs.Module.{PolynomialModule}
use Rattle.popov_theory.specs.Span.{combine}
use Rattle.popov_theory.specs.Span as theory
use Rattle.popov_theory.proofs.Module.{scale_zero, scale_add, scale_scale, zero_scale}
use Rattle.popov_theory.proofs.Span.{combine_add, combine_scale}
use Rattle.popov_theory.proofs.Kernel.{IsLinear}
use Rattle.popov_theory.proofs.PolynomialRows.{row_module_zero, row_module_add, row_module_scale}
use Rattle.ring_theory.proofs.PolynomialRows.{entry_add, entry_scale}
use Rattle.ff_popov.specs.Reading.{read_row, row_space, read_rows}
use Rattle.ff_popov.proofs.ReadRows.{entry_read, same_from_read}
use Rattle.ff_popov.proofs.Spans.{combination_read, combination_row, combine_same, space_multiple, multiple_row}
use Rattle.function_field.specs.Functions.{Equation, FunctionOf, ring_of, of_poly, over}
use Rattle.function_field.specs.Values.{PresValue, Functions, functions, function_of, equation_of}
use Rattle.ff_lattice.specs.Lattices.{elems_over}
use Rattle.ff_lattice.proofs.Fracs.{over_zero}
use Rattle.ff_lattice.proofs.Elements.{elem_over, elems_functions}
use Rattle.ff_lattice.proofs.Members.{overs, frac_add, frac_scale}
use Rattle.ff_lattice.proofs.Membership.{read_multiples, multiples_in}
use Rattle.ff_lattice.proofs.Spaces.{combination_poly}
use Rattle.ff_lattice.proofs.SpannedSets.{multiple_poly}

module _ {A V : Type 0} {k : TestedRing A} (M : PolynomialModule k V) (h : Pol k) where
  pub combine_multiples : (rs : List V) (c : ℕ → Pol k) → combine M c (map (M.◌·◌ h) rs) ≡ M.◌·◌ h (combine M c rs)
  combine_multiples [] c = sym (scale_zero M h)
  combine_multiples (r ∷ rs) c =
      ap₂ M.◌⊞◌
      (sym (scale_scale M (c zero) h r) ∙ ap (λ d. M.◌·◌ d r) ((pol_ring k).mul_comm (c zero) h)
      ∙ scale_scale M h (c zero) r)
      (combine_multiples rs (tail_of c))
      ∙ sym (scale_add M h _ _)

-- a linear map takes combinations to combinations
module _ {A V U : Type 0} {k : TestedRing A} (M : PolynomialModule k V) (N : PolynomialModule k U) (φ : V → U)
    (linear : IsLinear M N φ) (at_zero : φ M.𝟎 ≡ N.𝟎) where
  pub linear_combine : (rs : List V) (c : ℕ → Pol k) → φ (combine M c rs) ≡ combine N c (map φ rs)
  linear_combine [] c = at_zero
  linear_combine (r ∷ rs) c = linear.add (M.◌·◌ (c zero) r) (combine M (tail_of c) rs)
      ∙ ap₂ N.◌⊞◌ (linear.scale (c zero) r) (linear_combine rs (tail_of c))

module _ {k : CodeField} (c : Equation k) where
  abbrev F : CommRing (FunctionOf c)
  F = ring_of c

  -- the sum of the functions with these coefficients
  pub lin : (ℕ → Polynomial k) → List (FunctionOf c) → FunctionOf c
  lin a [] = (ring_of c).𝟘
  lin a (g ∷ gs) = (ring_of c).◌⊕◌ ((ring_of c).◌⊗◌ (of_poly c (a zero)) g) (lin (tail_of a) gs)

  pub lin_times : (w : FunctionOf c) (a : ℕ → Polynomial k) (gs : List (FunctionOf c))
      → lin a (map (F.◌⊗◌ w) gs) ≡ F.◌⊗◌ w (lin a gs)
  unfolding lin
  lin_times w a [] = sym (mul_zero F w)
  lin_times w a (g ∷ gs) = ap (F.◌⊕◌ (F.◌⊗◌ (of_poly c (a zero)) (F.◌⊗◌ w g))) (lin_times w (tail_of a) gs)
      ∙ move (of_poly c (a zero)) w g (lin (tail_of a) gs)
    where
      move : (s w g r : FunctionOf c) → (ring_of c).◌⊕◌ ((ring_of c).◌⊗◌ s ((ring_of c).◌⊗◌ w g)) ((ring_of c).◌⊗◌ w r)
          ≡ (ring_of c).◌⊗◌ w ((ring_of c).◌⊕◌ ((ring_of c).◌⊗◌ s g) r)
      move s w g r = ring (ring_of c) (s ∷ w ∷ g ∷ r ∷ []) λ q x. simp (reads, q, x 0, x 1, x 2, x 3) (q.equal _ _ refl)

  pub lin_one : (a : ℕ → Polynomial k) (g : FunctionOf c) → lin a (g ∷ []) ≡ F.◌⊗◌ (of_poly c (a zero)) g
  unfolding lin
  lin_one a g = F.add_zero (F.◌⊗◌ (of_poly c (a zero)) g)

module _ (k : CodeField) (p : PresValue) where
  abbrev c : Equation k
  c = equation_of k p

  abbrev M : PolynomialModule (code_ring k) (Row (Polynomial k) (suc (p.n - 1)))
  M = row_space k p.n

  module _ (den : List ℕ) (some : ¬ (value k den ≡ (polynomials k).𝟘)) where
    over_combine : (rs : List (Row (Polynomial k) (suc (p.n - 1)))) (a : ℕ → Polynomial k)
        → over c (combine M a rs) (value k den) some ≡ lin c a (overs c (value k den) some rs)
    unfolding lin
    over_combine [] a = ap (λ v. over c v (value k den) some) (row_module_zero (code_ring k) (p.n - 1))
        ∙ over_zero c (value k den) some
    over_combine (r ∷ rs) a =
        sym (frac_add c (value k den) some (M.◌·◌ (a zero) r) (combine M (tail_of a) rs))
        ∙ ap₂ (functions k p).◌⊕◌ (sym (frac_scale c (value k den) some (a zero) r)) (over_combine rs (tail_of a))

    -- a combination of rows over the denominator is the combination of the functions
    pub combination_function : (cs : List (List ℕ)) (rows : List (List (List ℕ))) → length cs ≡ length rows
        → All (IsOver k.ops) cs → All (IsRow k.ops p.n) rows
        → function_of k p (record { num = combination_list k.ops p.n cs rows; den = den })
        ≡ lin c (λ i. value k (entry_at cs i)) (map (function_of k p) (elems_over rows den))
    combination_function cs rows size cs_in rows_in =
        elem_over k p den some (combination_list k.ops p.n cs rows)
        ∙ ap (λ v. over c v (value k den) some) (combination_read k p.n cs rows size cs_in rows_in)
        ∙ over_combine (read_rows k p.n rows) (λ i. value k (entry_at cs i))
        ∙ ap (lin c (λ i. value k (entry_at cs i))) (sym (elems_functions k p den some rows))

  -- rows that are w times the others combine to w times the function
  pub combination_times : (cs : List (List ℕ)) (rows rows' : List (List (List ℕ))) (den den' : List ℕ)
      (w : Functions k p) → ¬ (value k den ≡ (polynomials k).𝟘) → ¬ (value k den' ≡ (polynomials k).𝟘)
      → length cs ≡ length rows → length cs ≡ length rows' → All (IsOver k.ops) cs → All (IsRow k.ops p.n) rows
      → All (IsRow k.ops p.n) rows'
      → map (function_of k p) (elems_over rows' den')
      ≡ map ((functions k p).◌⊗◌ w) (map (function_of k p) (elems_over rows den))
      → function_of k p (record { num = combination_list k.ops p.n cs rows'; den = den' })
      ≡ (functions k p).◌⊗◌ w (function_of k p (record { num = combination_list k.ops p.n cs rows; den = den }))
  combination_times cs rows rows' den den' w some some' size size' cs_in rows_in rows_in' is =
      combination_function den' some' cs rows' size' cs_in rows_in'
      ∙ ap (lin c (λ i. value k (entry_at cs i))) is
      ∙ lin_times c w (λ i. value k (entry_at cs i)) (map (function_of k p) (elems_over rows den))
      ∙ sym (ap ((functions k p).◌⊗◌ w) (combination_function den some cs rows size cs_in rows_in))

-- the combination of multiples is the multiple of the combination
pub combination_multiples : (k : CodeField) (n : ℕ) (g : List ℕ) (cs : List (List ℕ)) (rows : List (List (List ℕ)))
    → IsOver k.ops g → length cs ≡ length rows → All (IsOver k.ops) cs → All (IsRow k.ops n) rows
    → combination_list k.ops n cs (map (multiple_of_row k.ops g) rows)
    ≡ multiple_of_row k.ops g (combination_list k.ops n cs rows)
combination_multiples k n g cs rows g_in size cs_in rows_in =
    let size' : length cs ≡ length (map (multiple_of_row k.ops g) rows) = size
    ∙ sym (length-map rows (multiple_of_row k.ops g)) in
    let rows_in' = multiples_in k n g rows g_in rows_in in
    let row = combination_row k n cs rows cs_in rows_in in
    same_from_read k n (combination_list k.ops n cs (map (multiple_of_row k.ops g) rows))
    (multiple_of_row k.ops g (combination_list k.ops n cs rows))
    (combination_row k n cs (map (multiple_of_row k.ops g) rows) cs_in rows_in')
    (multiple_row k n g (combination_list k.ops n cs rows) g_in row)
    (combination_poly k n cs (map (multiple_of_row k.ops g) rows) size' cs_in)
    (multiple_poly k g (combination_list k.ops n cs rows))
    (combination_read k n cs (map (multiple_of_row k.ops g) rows) size' cs_in rows_in'
    ∙ ap (combine (row_space k n) (λ i. value k (entry_at cs i))) (read_multiples k n g rows g_in rows_in)
    ∙ combine_multiples (row_space k n) (value k g) (read_rows k n rows) (λ i. value k (entry_at cs i))
    ∙ sym (space_multiple k n g (combination_list k.ops n cs rows) g_in row.over
    ∙ ap ((row_space k n).◌·◌ (value k g)) (combination_read k n cs rows size cs_in rows_in)))

-- z·rows, as a map of rows
module _ (k : CodeField) (n : ℕ) (rows : List (List (List ℕ))) (size : length rows ≡ n) (positive : 0 < n)
    (rows_in : All (IsRow k.ops n) rows) where
  abbrev N : PolynomialModule (code_ring k) (Row (Polynomial k) (suc (n - 1)))
  N = row_space k n

  abbrev rs : List (Row (Polynomial k) (suc (n - 1)))
  rs = read_rows k n rows

  pub apply : Row (Polynomial k) (suc (n - 1)) → Row (Polynomial k) (suc (n - 1))
  apply v = combine (row_space k n) (λ i. entry (polynomials k).ops (suc (n - 1)) i v) (read_rows k n rows)

  apply_linear : IsLinear N N apply
  unfolding apply
  apply_linear = record {
    add = λ u v.
        ap (λ f. combine N f rs)
        (fun_ext (λ i. ap (entry (polynomials k).ops (suc (n - 1)) i) (row_module_add (code_ring k) (n - 1) u v)
        ∙ entry_add (code_ring k) (suc (n - 1)) i u v))
        ∙ combine_add N rs (λ i. entry (polynomials k).ops (suc (n - 1)) i u)
        (λ i. entry (polynomials k).ops (suc (n - 1)) i v);
    scale = λ a v.
        ap (λ f. combine N f rs)
        (fun_ext (λ i. ap (entry (polynomials k).ops (suc (n - 1)) i) (row_module_scale (code_ring k) (n - 1) a v)
        ∙ entry_scale (code_ring k) (suc (n - 1)) i a v))
        ∙ combine_scale N rs a (λ i. entry (polynomials k).ops (suc (n - 1)) i v);
  }

  pub apply_read : (z : List (List ℕ)) → IsRow k.ops n z
      → apply (read_row k (suc (n - 1)) z) ≡ read_row k (suc (n - 1)) (combination_list k.ops n z rows)
  unfolding apply
  apply_read z z_row =
      combine_same k n N rs (λ i. entry (polynomials k).ops (suc (n - 1)) i (read_row k (suc (n - 1)) z))
      (λ i. value k (entry_at z i))
      (λ i less. entry_read k (suc (n - 1)) i z
      (omega (arith, less, length-map rows (read_row k (suc (n - 1))), size, positive)))
      ∙ sym (combination_read k n z rows (z_row.size ∙ sym size) z_row.over rows_in)

  apply_zero : apply N.𝟎 ≡ N.𝟎
  apply_zero = ap apply (sym (zero_scale' N.𝟎)) ∙ apply_linear.scale (polynomials k).𝟘 N.𝟎 ∙ zero_scale' (apply N.𝟎)
    where
      zero_scale' : (v : Row (Polynomial k) (suc (n - 1))) → (row_space k n).◌·◌ (polynomials k).𝟘 v ≡ (row_space k n).𝟎
      zero_scale' v = zero_scale (row_space k n) v

  images : (basis : List (List (List ℕ))) → All (IsRow k.ops n) basis
      → map apply (read_rows k n basis) ≡ read_rows k n (map (λ z. combination_list k.ops n z rows) basis)
  images [] basis_in = refl
  images (b ∷ basis) basis_in = ap₂ ◌∷◌ (apply_read b (All-head (IsRow k.ops n) b basis basis_in))
      (images basis (All-tail (IsRow k.ops n) b basis basis_in))

  -- what a member of the span of the basis combines to is in the span of the combinations
  pub image_in : (basis : List (List (List ℕ))) → All (IsRow k.ops n) basis → (v : Row (Polynomial k) (suc (n - 1)))
      → theory.InSpan N (read_rows k n basis) v
      → theory.InSpan N (read_rows k n (map (λ z. combination_list k.ops n z rows) basis)) (apply v)
  image_in basis basis_in v h = record {
    coefficients = h.coefficients;
    is = ap apply h.is ∙ linear_combine N N apply apply_linear apply_zero (read_rows k n basis) h.coefficients
        ∙ ap (combine N h.coefficients) (images basis basis_in);
  }
