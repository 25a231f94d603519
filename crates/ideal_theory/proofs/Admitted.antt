-- Products and inverses of admitted lattices are admitted.
use Rattle.std.proofs.Common.{◌⊎◌, inl, inr, subst}
use Rattle.ring_theory.specs.Subsets.{Product}
use Rattle.ring_theory.proofs.Subsets.{product_member}
use Rattle.ring_lemmas.proofs.Ring.{mul_mul}
use Rattle.prime_theory.specs.Ideals.{Inverse}
use Rattle.prime_theory.specs.Orders.{MaximalAt}
use Rattle.prime_theory.proofs.Products.{product_universal, own_module, additive_of_module}
use Rattle.ff_fields.specs.Field.{CodeField}
use Rattle.ff_poly.specs.Polynomials.{Polynomial}
use Rattle.function_field.specs.declared.side.Side.TheVariants.{Finite}
use Rattle.function_field.specs.Places.{IsIntegralAt}
use Rattle.function_field.specs.Functions.{Equation, FunctionOf, ring_of, of_poly, setting_of}
use Rattle.order_theory.specs.Orders.{IsOrder, IsOrderUpTo}
use Rattle.order_theory.proofs.LocalOrders.{prime_to}
use Rattle.ideal_theory.specs.Records.{IsAdmitted}

module _ {k : CodeField} (c : Equation k) (O : FunctionOf c → Type 0) (𝓞 : IsOrder c O) where
  infixl 70 ◌⊗◌
  open ring_of c use {ops, ◌⊗◌}

  abbrev Maximal : Polynomial k → Type 0
  Maximal p = MaximalAt (ring_of c).ops (of_poly c p) (IsIntegralAt (setting_of c) Finite) O

  pub product_admitted : (M N : FunctionOf c → Type 0) → IsAdmitted c O M → IsAdmitted c O N
      → IsAdmitted c O (Product (ring_of c).ops M N)
  product_admitted M N f g p h = go (f p h) (g p h)
    where
      go : Maximal p ⊎ IsOrderUpTo c p O M → Maximal p ⊎ IsOrderUpTo c p O N → Maximal p
          ⊎ IsOrderUpTo c p O (Product (ring_of c).ops M N)
      go (inl m) r = inl m
      go (inr a) (inl m) = inl m
      go (inr a) (inr b) = inr (record {
        factor = a.factor ⊗ b.factor;
        factor_in = (prime_to c p h).product_in a.factor b.factor a.factor_in b.factor_in;
        takes =
            product_universal (ring_of c) M N O
            (additive_of_module (ring_of c) O O (own_module (ring_of c) O 𝓞.ring)) (a.factor ⊗ b.factor)
            (λ x y m n. subst O (mul_mul (ring_of c) a.factor x b.factor y)
            (𝓞.ring.product_in _ _ (a.takes x m) (b.takes y n)));
        member = a.member ⊗ b.member;
        member_in = (prime_to c p h).product_in a.member b.member a.member_in b.member_in;
        has = product_member (ring_of c) O 𝓞.ring M N a.member b.member a.has b.has;
      })

  pub inverse_admitted : (M : FunctionOf c → Type 0) → IsAdmitted c O M → IsAdmitted c O (Inverse (ring_of c).ops O M)
  inverse_admitted M f p h = go (f p h)
    where
      go : Maximal p ⊎ IsOrderUpTo c p O M → Maximal p ⊎ IsOrderUpTo c p O (Inverse (ring_of c).ops O M)
      go (inl m) = inl m
      go (inr a) = inr (record {
        factor = a.member;
        factor_in = a.member_in;
        takes = λ z m. subst O ((ring_of c).mul_comm z a.member) (m a.member a.has);
        member = a.factor;
        member_in = a.factor_in;
        has = λ y m. a.takes y m;
      })
