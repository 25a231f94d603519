-- The fields of any kind.
use Rattle.std.specs.Prelude.{◌+◌, take}
use Rattle.ff_fields.specs.declared.fields.Field.{Field}
use Rattle.ff_fields.specs.declared.fields.Field.TheVariants.{Prime, Residue, Table}
use Rattle.ff_fields.specs.Field.{CodeField}
use Rattle.ff_fields.specs.Prime.{prime_field}
use Rattle.ff_fields.specs.Modulus.{modulus_field}
use Rattle.ff_fields.specs.Standards.{standard_of}

-- the operations on codes with their laws, of the field that it holds
abbrev pub field_of : Field → CodeField
field_of (Prime k) = prime_field k.p k.listed
field_of (Residue k) = modulus_field k.p k.m (take (k.m + 1) k.modulus) k.is_field
field_of (Table k) = standard_of k
