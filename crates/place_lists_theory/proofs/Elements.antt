-- Each function is that of an element of its presentation; on the finite side an element stands for its own function.
use Rattle.std.proofs.Common.{◌≡◌, ℕ, zero, suc, ◌-◌, ◌≤◌, List, [], ◌∷◌, length, sym, ap, ap₂, ◌∙◌, refl, arith}
use Rattle.ff_fields.specs.Field.{CodeField}
use Rattle.ff_poly.specs.Words.{IsPoly}
use Rattle.ff_poly.specs.Value.{value}
use Rattle.ff_poly.specs.Polynomials.{codes_of, IsOver_codes_of, IsPoly_codes_of, value_codes_of, value_nil, value_not_zero}
use Rattle.function_field.specs.declared.side.Side.TheVariants.{Finite}
use Rattle.function_field.specs.Functions.{of_poly}
use Rattle.function_field.specs.Values.{ElemValue, IsElem, PresValue, Functions, functions, function_of, equation_of, row_of_list, row_over}
use Rattle.function_field.specs.Infinity.{variable, generator, row_value_at, function_on}
use Rattle.function_field.proofs.Horner.{horner, den_times_function}
use Rattle.function_field.proofs.OnSide.{value_at_x, stands_once}
use Rattle.function_field.proofs.SameValues.{row_over_num, row_over_den}
use Rattle.function_field.proofs.Stages.{row_of_function}
use Rattle.ff_algebra.proofs.ElemParts.{function_parts}
use Rattle.ff_lattice.proofs.Elements.{read_is}
use Rattle.ff_lattice.proofs.Spaces.{codes_row, codes_row_length, codes_row_over, read_codes_row}

module _ (k : CodeField) (p : PresValue) where
  -- an element of the presentation that stands for the function
  pub record ElementOf (z : Functions k p) : Type 0 where
    pub element : ElemValue
    pub in_range : IsElem k.ops p.n element
    pub den_poly : IsPoly element.den
    pub den_some : ¬ (element.den ≡ [])
    pub is : function_of k p element ≡ z

  pub element_of : 1 ≤ p.n → (z : Functions k p) → ElementOf z
  element_of some z =
      let a = row_of_function (equation_of k p) z in
      record {
        element = record { num = codes_row k (suc (p.n - 1)) a.0.num; den = codes_of k a.0.den };
        in_range = record {
          one_each =
              codes_row_length k (suc (p.n - 1)) a.0.num ∙ (let e : suc (p.n - 1) ≡ p.n = omega (arith, some) in e);
          num_over = codes_row_over k (suc (p.n - 1)) a.0.num;
          den_over = IsOver_codes_of k a.0.den;
        };
        den_poly = IsPoly_codes_of k a.0.den;
        den_some = λ e. a.0.den_not_zero (sym (value_codes_of k a.0.den) ∙ ap (value k) e ∙ value_nil k);
        is =
            function_parts k p (record { num = codes_row k (suc (p.n - 1)) a.0.num; den = codes_of k a.0.den }) a.0
            (sym (read_is k (suc (p.n - 1)) (codes_row k (suc (p.n - 1)) a.0.num))
            ∙ read_codes_row k (suc (p.n - 1)) a.0.num)
            (value_codes_of k a.0.den)
            ∙ a.1;
      }

  horner_at : (c m : ℕ) (vs : List (List ℕ)) → length vs ≡ m
      → horner (equation_of k p) m (row_of_list k m vs)
      ≡ row_value_at k p (variable k p Finite) (generator k p c Finite) vs
  unfolding horner
  horner_at c zero [] e = refl
  horner_at c zero (v ∷ vs) e = absurd (omega arith)
  horner_at c (suc m) [] e = absurd (omega arith)
  horner_at c (suc m) (v ∷ vs) e =
      ap₂ (λ s r. (functions k p).◌⊕◌ s ((functions k p).◌⊗◌ (generator k p c Finite) r)) (sym (value_at_x k p v))
      (horner_at c m vs (omega arith))

  -- on the finite side an element stands for its own function
  pub on_finite : (c : ℕ) (z : ElemValue) → 1 ≤ p.n → IsElem k.ops p.n z → IsPoly z.den → ¬ (z.den ≡ [])
      → function_of k p z ≡ function_on k p c Finite z
  on_finite c z some z_in poly not_null =
      stands_once k p c Finite z (function_of k p z) z_in.den_over poly not_null
      (ap (λ s. (functions k p).◌⊗◌ s (function_of k p z))
      (value_at_x k p z.den ∙ ap (of_poly (equation_of k p))
      (sym (row_over_den k p z (value_not_zero k z.den z_in.den_over poly not_null))))
      ∙ den_times_function (equation_of k p) (row_over k p z)
      ∙ ap (horner (equation_of k p) (suc (p.n - 1))) (row_over_num k p z)
      ∙ horner_at c (suc (p.n - 1)) z.num (let e : length z.num ≡ p.n = z_in.one_each in omega arith))
