-- An order that is maximal at p has each integral function of the side up to a factor prime to p.
use Rattle.std.proofs.Common.{sym, subst}
use Rattle.ring_theory.specs.Subsets.{IsSubring, IsModule}
use Rattle.ring_theory.specs.Integral.{IsIntegral}
use Rattle.ring_theory.specs.Local.{PrimeTo, Locally}
use Rattle.prime_theory.specs.Orders.{MaximalAt, Denominator}
use Rattle.prime_theory.proofs.IntegralRing.{integral_product, integral_base}
use Rattle.prime_theory.proofs.Maximal.{maximal_iff_locally}
use Rattle.prime_theory.proofs.Scalars.{integral_wider}
use Rattle.function_field.specs.declared.side.Side.{Side}
use Rattle.function_field.specs.Setting.{Setting}
use Rattle.function_field.specs.Places.{IsIntegralAt}
use Rattle.places_theory.specs.Orders.{IsOrderAt}

module _ {E : Type 0} (S : Setting E) (s : Side) (Base N : E → Type 0) (p : E) (O : E → Type 0) where
  open S.functions use {ops, ◌⊗◌}

  pub order_of_maximal : IsSubring ops Base → PrimeTo ops Base N p → IsSubring ops O → ((z : E) → Base z → O z)
      → ((z : E) → O z → IsIntegralAt S s z) → ((z : E) → IsIntegralAt S s z → Locally ops N (IsIntegral ops Base) z)
      → ((z : E) → IsIntegral ops Base z → Denominator ops N O p z) → MaximalAt ops p (IsIntegral ops O) O
      → IsOrderAt S s Base N p O
  order_of_maximal 𝓑 𝓝 𝓞 base integral down den maximal = record {
    base_ring = 𝓑;
    prime_to = 𝓝;
    ring = 𝓞;
    base = base;
    integral = integral;
    locally = λ z h.
        let d = down z h in
        let l = at_base (d.factor ⊗ z) d.multiple_in in
        record {
          factor = l.factor ⊗ d.factor;
          factor_in = 𝓝.product_in _ _ l.factor_in d.factor_in;
          multiple_in = subst O (sym (S.functions.mul_assoc _ _ _)) l.multiple_in;
        };
  }
    where
      module_of : IsModule ops Base O
      module_of = record {
        zero_in = 𝓞.zero_in;
        sum_in = 𝓞.sum_in;
        scale_in = λ a z i m. 𝓞.product_in _ _ (base a i) m;
      }

      at_base : (z : E) → IsIntegral ops Base z → Locally ops N O z
      at_base =
          (maximal_iff_locally S.functions Base 𝓑 N p 𝓝 (IsIntegral ops Base) O module_of
          (λ w z m h. integral_product S.functions Base 𝓑 w z (integral_base S.functions Base 𝓑 w (𝓝.within w m)) h)
          den).0
          (λ z n h m. maximal z n (integral_wider S.functions Base O base z h) m)
