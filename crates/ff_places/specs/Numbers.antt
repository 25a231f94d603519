-- The order in which the places over a polynomial are listed, and their numbers.
use Rattle.std.specs.Prelude.{◌≡◌, ℕ, suc, List, [], ◌∷◌, AllPairs}
use Rattle.ff_fields.specs.Field.{CodeField}
use Rattle.function_field.specs.declared.side.Side.{Side}
use Rattle.function_field.specs.Curves.{CurveValue}
use Rattle.ff_written.specs.TextOrder.{HasRowTexts, IsBeforeTexts}
use Rattle.value_theory.specs.Primes.{PrimeValue}

-- the numbers go up by one from the first
abbrev pub NumberedFrom : ℕ → List PrimeValue → Type 0
NumberedFrom first [] = Unit {0}
NumberedFrom first (P ∷ Ps) = (P.number ≡ first) × NumberedFrom (suc first) Ps

module _ (k : CodeField) (c : CurveValue) (s : Side) where
  -- the texts of the rows of Q don't come before those of P
  pub record IsNotAfter (P Q : PrimeValue) : Type 0 where
    pub texts : (ts us : List (List ℕ)) → HasRowTexts k c s P.rows ts → HasRowTexts k c s Q.rows us
        → ¬ IsBeforeTexts us ts

  -- no prime has texts that come before those of an earlier one
  abbrev pub AreInOrder : List PrimeValue → Type 0
  AreInOrder Ps = AllPairs IsNotAfter Ps
