-- The fields of either kind that take no memory.
use Rattle.std.specs.Prelude.{◌+◌, take}
use Rattle.ff_fields.specs.declared.standard.Standard.{Standard}
use Rattle.ff_fields.specs.declared.standard.Standard.TheVariants.{Prime, Residue}
use Rattle.ff_fields.specs.Field.{CodeField}
use Rattle.ff_fields.specs.Prime.{prime_field}
use Rattle.ff_fields.specs.Modulus.{modulus_field}

-- the operations on codes with their laws, of the field that it holds
abbrev pub standard_of : Standard → CodeField
standard_of (Prime k) = prime_field k.p k.listed
standard_of (Residue k) = modulus_field k.p k.m (take (k.m + 1) k.modulus) k.is_field
