-- The q-th power of a sum of rows of polynomials is the sum of the q-th powers, q being the number of codes of the
-- field.
use Rattle.std.proofs.Common.{◌≡◌, suc, refl, sym}
use Rattle.ring_lemmas.specs.Ring.{pow}
use Rattle.ring_lemmas.specs.Rows.{Row, row_zero, row_add, row_one}
use Rattle.ring_lemmas.proofs.Rows.{pair_path, row_add_zero}
use Rattle.ring_theory.specs.Maps.{IsHom}
use Rattle.ring_lemmas.specs.Polynomials.{constant}
use Rattle.ring_theory.proofs.Evaluate.{constant_hom, hom_after}
use Rattle.ff_fields.specs.Field.{CodeField}
use Rattle.ff_fields.specs.Code.{code_ring}
use Rattle.ff_poly.specs.Polynomials.{Polynomial}
use Rattle.function_field.specs.Functions.{Equation, row_of}
use Rattle.function_field.proofs.OnSide.{row_product}
use Rattle.trace_theory.proofs.FunctionTraces.{K, R}
pub use Rattle.polynomial_theory.proofs.Frobenius.{codes, size_less, q, size_some, power_add, polynomial_power_add}

module _ {k : CodeField} (c : Equation k) where
  pub row_hom : IsHom (K c) (R c) (row_of c)
  unfolding row_add row_one
  row_hom = record {
    add = λ a b. pair_path refl (sym (row_add_zero (K c) c.lower_degree (row_zero (K c).ops c.lower_degree)));
    mul = λ a b. sym (row_product c a b);
    𝟙 = refl;
  }

  pub row_power_add : (v w : Row (Polynomial k) (suc c.lower_degree))
      → pow (R c).ops ((R c).◌⊕◌ v w) (q k) ≡ (R c).◌⊕◌ (pow (R c).ops v (q k)) (pow (R c).ops w (q k))
  row_power_add v w =
      power_add k (R c) (λ a. row_of c (constant (code_ring k) a))
      (hom_after (code_ring k).ring (K c) (R c) (constant (code_ring k)) (row_of c) (constant_hom (code_ring k))
      row_hom) v w
