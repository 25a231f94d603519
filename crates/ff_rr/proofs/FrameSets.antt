-- The lattices of a frame as the integral functions of its two sides.
use Rattle.std.proofs.Common.{◌≡◌, ◌↔◌}
use Rattle.ff_fields.specs.Field.{CodeField}
use Rattle.ff_poly.specs.Polynomials.{polynomials, x_poly}
use Rattle.function_field.specs.declared.side.Side.TheVariants.{Finite, Infinite}
use Rattle.function_field.specs.Discriminant.{discriminant}
use Rattle.function_field.specs.Places.{IsIntegralAt}
use Rattle.function_field.specs.Values.{Functions, setting, equation_of}
use Rattle.infinite_theory.specs.Supported.{IsSupportedAt}
use Rattle.ff_lattice.specs.Lattices.{Contains}
use Rattle.value_theory.proofs.InfiniteLattices.{finite_disc, integral_supported}
use Rattle.place_lists_theory.proofs.IntegralOrders.{finite_members}
use Rattle.split_theory.specs.Splits.{AtInfinity}
use Rattle.ff_rr.specs.Frames.{FrameValue, IsFrame}

module _ (k : CodeField) (f : FrameValue) (h : IsFrame k f) where
  pub frame_disc : ¬ (discriminant (equation_of k f.curve.fin) ≡ (polynomials k).𝟘)
  frame_disc = finite_disc k f.curve h.curve

  -- k[x]: the members of the finite lattice are the functions that are integral over it
  pub frame_finite : (z : Functions k f.curve.fin)
      → Contains k f.curve.fin f.fin z ↔ IsIntegralAt (setting k f.curve.fin) Finite z
  frame_finite z = finite_members k f.curve h.curve f.fin h.finite z

  -- the combinations of the infinite rows over the fractions of degree at most 0 are the functions that are integral
  -- over them
  pub frame_infinite : (z : Functions k f.curve.fin)
      → AtInfinity k f.curve f.inf z ↔ IsIntegralAt (setting k f.curve.fin) Infinite z
  frame_infinite z = h.infinite.span z

  pub frame_tame : IsSupportedAt (equation_of k f.curve.inf) (x_poly k) (Contains k f.curve.inf f.inf)
  frame_tame = integral_supported k f.curve h.curve f.inf h.infinite
