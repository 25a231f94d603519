-- Curves whose functions are a field, with what is computed of them once.
use Rattle.ring_lemmas.specs.Ring.{IsField}
use Rattle.ff_fields.specs.Field.{CodeField}
use Rattle.function_field.specs.Values.{functions}
use Rattle.ff_rr.specs.Frames.{IsFrame}
use Rattle.ff_rr.specs.Constants.{IsConstantSpace}
use Rattle.ff_session.specs.declared.curves.FunctionField.{FunctionField}

-- the orders are those of the integral functions, the constants are all constants, and the functions are a field
pub record IsFunctionField (k : CodeField) (f : FunctionField) : Type 0 where
  pub frame : IsFrame k f.frame
  pub constants : IsConstantSpace k f.frame f.constants
  pub field : IsField (functions k f.frame.curve.fin).ops
