-- The answers of `genus`: the genus over the field of constants (Stichtenoth, chapter 1).
use Rattle.std.specs.Prelude.{ℕ, List, ◌++◌, codes, decimal}
use Rattle.ring_lemmas.specs.Ring.{IsField}
use Rattle.ff_fields.specs.Field.{CodeField}
use Rattle.function_field.specs.Divisors.{HasGenus}
use Rattle.function_field.specs.Values.{PresValue, functions, setting}
use Rattle.ff_cert.specs.Lines.{answer_line}

module _ (k : CodeField) (p : PresValue) where
  -- the functions are a field, and this is its genus
  pub record IsTrue (genus : ℕ) : Type 0 where
    pub field : IsField (functions k p).ops
    pub is : HasGenus (setting k p) genus

-- the line with the genus
abbrev pub lines : ℕ → List ℕ
lines genus = answer_line (codes "genus " ++ decimal genus)

-- no polynomial stands in it
abbrev pub degree : ℕ
degree = 0
