-- The fields that lines name.
use Rattle.std.specs.Prelude.{◌≡◌, ℕ, Option, Some, None, IsTrue}
use Rattle.ff_fields.specs.Field.{FieldOps}
use Rattle.ff_fields.specs.Prime.{is_listed, prime_of}
use Rattle.ff_fields.specs.Residue.{residue_of}
use Rattle.ff_fields.specs.Modulus.{IsFieldModulus}
use Rattle.ff_script.specs.declared.script.Modulus.{Modulus}

-- the line names a field, with these operations
abbrev pub Names : ℕ → Option Modulus → FieldOps → Type 0
Names p None k = IsTrue (is_listed p) × (k ≡ prime_of p)
Names p (Some tail) k = IsFieldModulus p tail.m tail.codes × (k ≡ residue_of p tail.m tail.codes)
