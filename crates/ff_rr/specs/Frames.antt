-- A curve with the order of each side, from which all that belongs to its function field is made.
use Rattle.ff_fields.specs.Field.{CodeField}
use Rattle.function_field.specs.declared.side.Side.{Side}
use Rattle.function_field.specs.declared.side.Side.TheVariants.{Finite, Infinite}
use Rattle.function_field.specs.Curves.{CurveValue, IsCurve}
use Rattle.ff_lattice.specs.Lattices.{LatticeValue}
use Rattle.value_theory.specs.IntegralLattices.{IsIntegralLattice}

-- a curve with a lattice over k[x] and one over k[t], t = 1/x
pub record FrameValue : Type 0 where
  pub curve : CurveValue
  pub fin : LatticeValue
  pub inf : LatticeValue

-- the lattice of a side
abbrev pub order_on : FrameValue → Side → LatticeValue
order_on f Finite = f.fin
order_on f Infinite = f.inf

-- the lattices are those of the integral functions of the two sides
pub record IsFrame (k : CodeField) (f : FrameValue) : Type 0 where
  pub curve : IsCurve k f.curve
  pub finite : IsIntegralLattice k f.curve Finite f.fin
  pub infinite : IsIntegralLattice k f.curve Infinite f.inf
