-- The elements that rows of codes are over a denominator, as functions.
use Rattle.std.proofs.Common.{◌≡◌, ℕ, zero, suc, ◌-◌, List, [], ◌∷◌, map, refl, sym, ◌∙◌, ap, ap₂, subst, ◌↔◌}
use Rattle.ring_theory.specs.Subsets.{Span}
use Rattle.ring_lemmas.proofs.Rows.{pair_path}
use Rattle.ff_fields.specs.Field.{CodeField}
use Rattle.ff_fields.specs.Over.{IsOver}
use Rattle.ff_poly.specs.Words.{IsPoly, DividesList, product_of}
use Rattle.ff_poly.specs.PolyOver.{IsOver_product_of}
use Rattle.ff_poly.specs.Value.{value, value_product, same_from_value}
use Rattle.ff_poly.specs.Polynomials.{Polynomial, polynomials, codes_of, IsOver_codes_of, IsPoly_codes_of, value_codes_of}
use Rattle.ff_poly.proofs.Parts.{IsPoly_product_of}
use Rattle.ff_popov.specs.Reading.{read_row, read_rows}
use Rattle.function_field.specs.Functions.{IsPolynomial, over}
use Rattle.function_field.specs.Values.{PresValue, Functions, functions, function_of, equation_of, row_of_list}
use Rattle.ff_algebra.proofs.ElemParts.{function_parts}
use Rattle.ff_lattice.specs.Lattices.{elems_over, InSpanOf}
use Rattle.ff_lattice.proofs.Members.{overs, Member, span_member}

module _ (k : CodeField) where
  pub read_is : (n : ℕ) (v : List (List ℕ)) → read_row k n v ≡ row_of_list k n v
  read_is zero v = refl
  read_is (suc n) [] = pair_path refl (read_is n [])
  read_is (suc n) (a ∷ v) = pair_path refl (read_is n v)

  -- divisibility of lists of codes is that of what they stand for
  pub record DividesPol (d a : Polynomial k) : Type 0 where
    pub quotient : Polynomial k
    pub is : a ≡ (polynomials k).◌⊗◌ d quotient

  pub divides_value : (d a : List ℕ) → IsOver k.ops d → DividesList k.ops d a → DividesPol (value k d) (value k a)
  divides_value d a d_in h = record {
    quotient = value k h.quotient;
    is = ap (value k) h.product ∙ value_product k d h.quotient d_in h.quotient_in;
  }

  pub divides_codes : (d a : List ℕ) → IsOver k.ops d → IsOver k.ops a → IsPoly a → DividesPol (value k d) (value k a)
      → DividesList k.ops d a
  divides_codes d a d_in a_in a_poly h = record {
    quotient = codes_of k h.quotient;
    quotient_in = IsOver_codes_of k h.quotient;
    quotient_poly = IsPoly_codes_of k h.quotient;
    product =
        same_from_value k a (product_of k.ops d (codes_of k h.quotient)) a_in
        (IsOver_product_of k d_in (IsOver_codes_of k h.quotient)) a_poly
        (IsPoly_product_of k.ops d (codes_of k h.quotient))
        (h.is ∙ ap ((polynomials k).◌⊗◌ (value k d)) (sym (value_codes_of k h.quotient))
        ∙ sym (value_product k d (codes_of k h.quotient) d_in (IsOver_codes_of k h.quotient)));
  }

module _ (k : CodeField) (p : PresValue) (den : List ℕ) (some : ¬ (value k den ≡ (polynomials k).𝟘)) where
  -- the function of a row over the denominator
  pub elem_over : (v : List (List ℕ)) → function_of k p (record { num = v; den = den })
      ≡ over (equation_of k p) (read_row k (suc (p.n - 1)) v) (value k den) some
  elem_over v =
      function_parts k p (record { num = v; den = den })
      (record { num = read_row k (suc (p.n - 1)) v; den = value k den; den_not_zero = some })
      (sym (read_is k (suc (p.n - 1)) v)) refl

  pub elems_functions : (rows : List (List (List ℕ)))
      → map (function_of k p) (elems_over rows den) ≡ overs (equation_of k p) (value k den) some (read_rows k p.n rows)
  elems_functions [] = refl
  elems_functions (v ∷ rows) = ap₂ ◌∷◌ (elem_over v) (elems_functions rows)

  -- the span of rows over a denominator, by numerators
  pub in_span_of : (rows : List (List (List ℕ))) (z : Functions k p)
      → InSpanOf k p (elems_over rows den) z ↔ Member (equation_of k p) (value k den) some (read_rows k p.n rows) z
  in_span_of rows z =
      let m = span_member (equation_of k p) (value k den) some (read_rows k p.n rows) z in
      let S = λ (fs : List (Functions k p)). Span (functions k p).ops (IsPolynomial (equation_of k p)) fs z in (
        λ h. m.0 (subst S (elems_functions rows) h),
        λ h. subst S (sym (elems_functions rows)) (m.1 h),
      )
