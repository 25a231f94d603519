-- The words of the private contracts.
use Rattle.std.specs.Prelude.{◌≡◌, ℕ, List, [], ◌∷◌, ◌++◌, get_or, replicate}
use Rattle.ff_fields.specs.Field.{CodeField}
use Rattle.function_field.specs.Values.{ElemValue, PresValue, function_of}

-- v is w over the power of the variable that divides w's denominator, without the rest of it
pub record IsFreed (k : CodeField) (w v : ElemValue) : Type 0 where
  pub exponent : ℕ
  pub rest : List ℕ
  pub den : w.den ≡ replicate exponent 0 ++ rest
  pub first : ¬ (get_or rest 0 0 ≡ 0)
  pub functions : (p : PresValue) → function_of k p v
      ≡ function_of k p (record { num = w.num; den = replicate exponent 0 ++ 1 ∷ [] })
