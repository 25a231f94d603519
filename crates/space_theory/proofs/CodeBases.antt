-- Bases over k in the words of divisors.
use Rattle.std.proofs.Common.{◌≡◌, ◌∙◌, List, sym, ap, subst}
use Rattle.ring_theory.specs.Subsets.{Span}
use Rattle.linear_theory.specs.Module.{combine}
use Rattle.linear_theory.specs.Basis.{IsNull, IsBasis as IsBasisOver}
use Rattle.ff_fields.specs.Field.{CodeField}
use Rattle.ff_fields.specs.Code.{code_ring}
use Rattle.function_field.specs.Functions.{Equation, FunctionOf, ring_of, setting_of, IsCode}
use Rattle.function_field.specs.Divisors.{IsSpaceBasis}
use Rattle.function_field.specs.Indices.{space_ops}
use Rattle.lattice_theory.proofs.Indices.{code_of, code_hom}
use Rattle.order_theory.proofs.Degrees.{code_is, code_at}
use Rattle.space_theory.proofs.ScalarLists.{combine_spanned, independent_lists}

module _ {k : CodeField} (c : Equation k) where
  infixl 65 ◌⊕◌
  open ring_of c use {𝟘, ◌⊕◌}

  pub basis_by_codes : (W : FunctionOf c → Type 0) (ws : List (FunctionOf c))
      → IsBasisOver (code_ring k).ops (space_ops c) (IsNull (space_ops c)) W ws
      → IsSpaceBasis (setting_of c) W ws
  basis_by_codes W ws b = record {
    members = b.members_in;
    independent =
        λ cs l h e. independent_lists (code_ring k).ring (ring_of c) (code_of c) (code_hom c) (IsCode c) (code_at c)
        (λ v. v ≡ 𝟘) ws b.independent cs l h e;
    spanning = λ z z_in.
        let s = b.spanning z z_in in
        subst (Span (ring_of c).ops (IsCode c) ws)
        (sym (s.is ∙ ap (λ w. combine (space_ops c) s.coefficient ws ⊕ w) s.rest_in ∙ (ring_of c).add_zero _))
        (combine_spanned (code_ring k).ring (ring_of c) (code_of c) (code_hom c) (IsCode c) (code_is c) s.coefficient
        ws);
  }
