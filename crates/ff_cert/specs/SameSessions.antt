-- Sessions that answer the same: over the same field and curve, with as many bytes printed.
use Rattle.std.specs.Prelude.{◌≡◌}
use Rattle.ff_meaning.specs.SameBindings.{AreSameBindings}
use Rattle.ff_cert.specs.Blocks.{SessionValue}

-- the bindings are the same, and the count of bytes
pub record AreSameSessions (a b : SessionValue) : Type 0 where
  pub bindings : AreSameBindings a.bindings b.bindings
  pub printed : a.printed ≡ b.printed
