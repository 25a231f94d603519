-- The constants as a ring and as a space over k, and the idempotents among them.
use Rattle.std.proofs.Common.{◌≡◌, ℕ, ℤ, pos, ◌-ℤ◌, List}
use Rattle.std.proofs.lemmas.List.Elements.{All-weaker}
use Rattle.ring_theory.specs.Subsets.{IsSubring}
use Rattle.ff_fields.specs.Field.{CodeField}
use Rattle.ff_fields.specs.Code.{code_ring}
use Rattle.ff_poly.specs.Polynomials.{polynomials}
use Rattle.function_field.specs.declared.side.Side.TheVariants.{Finite, Infinite}
use Rattle.function_field.specs.Discriminant.{discriminant}
use Rattle.function_field.specs.Places.{IsIntegralAt}
use Rattle.function_field.specs.Divisors.{IsConstant, IsSpaceBasis}
use Rattle.function_field.specs.Functions.{Equation, FunctionOf, ring_of, setting_of}
use Rattle.trace_theory.proofs.IntegralLaw.{idempotent_at}
use Rattle.lattice_theory.specs.Lattices.{polynomial_ops}
use Rattle.reduced_basis_theory.specs.Degree.{size}
use Rattle.reduced_basis_theory.specs.Reduced.{layers}
use Rattle.space_theory.specs.Spaces.{IsReducedBasis}
use Rattle.space_theory.proofs.Laws.{space_basis}
use Rattle.divisor_theory.proofs.Constants.{OnBothSides, both_subring, constants_are}

module _ {k : CodeField} (c : Equation k) (some : ¬ (discriminant c ≡ (polynomials k).𝟘)) where
  infixl 70 ◌⊗◌
  open ring_of c use {◌⊗◌}

  abbrev Constant : FunctionOf c → Type 0
  Constant = IsConstant (setting_of c)

  to_both : (z : FunctionOf c) → Constant z → OnBothSides c z
  to_both z = (constants_are c some z).0

  from_both : (z : FunctionOf c) → OnBothSides c z → Constant z
  from_both z = (constants_are c some z).1

  pub constants_ring : IsSubring (ring_of c).ops (IsConstant (setting_of c))
  constants_ring =
      let r = both_subring c in
      record {
        zero_in = from_both _ r.zero_in;
        one_in = from_both _ r.one_in;
        sum_in = λ a b h i. from_both _ (r.sum_in a b (to_both a h) (to_both b i));
        neg_in = λ a h. from_both _ (r.neg_in a (to_both a h));
        product_in = λ a b h i. from_both _ (r.product_in a b (to_both a h) (to_both b i));
      }

  pub idempotent_constant : (e : FunctionOf c) → e ⊗ e ≡ e → IsConstant (setting_of c) e
  idempotent_constant e h = from_both e (idempotent_at c Finite e h, idempotent_at c Infinite e h)

  pub constants_space : (bs : List (FunctionOf c)) (d : ℕ → ℤ)
      → IsReducedBasis c (IsIntegralAt (setting_of c) Finite) (IsIntegralAt (setting_of c) Infinite) bs d
      → IsSpaceBasis (setting_of c) (IsConstant (setting_of c))
      (layers (code_ring k) (polynomial_ops c) bs (λ i. size (pos 0 -ℤ d i)))
  constants_space bs d reduced =
      let b = space_basis c (IsIntegralAt (setting_of c) Finite) (IsIntegralAt (setting_of c) Infinite) bs d reduced in
      record {
        members = All-weaker (OnBothSides c) Constant from_both _ b.members;
        independent = b.independent;
        spanning = λ z h. b.spanning z (to_both z h);
      }
