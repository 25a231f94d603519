-- The discriminant of the finite presentation of a curve isn't 0.
use Rattle.std.proofs.Common.{◌≡◌, sym, subst, ◌∙◌}
use Rattle.ff_fields.specs.Field.{CodeField}
use Rattle.ff_poly.specs.Value.{value}
use Rattle.ff_poly.specs.Polynomials.{polynomials, value_not_zero}
use Rattle.function_field.specs.Discriminant.{discriminant}
use Rattle.function_field.specs.Values.{PresValue, equation_of}
use Rattle.function_field.specs.Curves.{CurveValue, IsCurve}

module _ (k : CodeField) (c : CurveValue) (curve : IsCurve k c) where
  value_some : ¬ (value k c.disc ≡ (polynomials k).𝟘)
  value_some = value_not_zero k c.disc curve.disc.over curve.disc.poly curve.separable

  disc_some : ¬ (discriminant (equation_of k c.fin) ≡ (polynomials k).𝟘)
  disc_some zero = value_some (curve.disc.value ∙ zero)

  pub some_disc : (p : PresValue) → p ≡ c.fin → ¬ (discriminant (equation_of k p) ≡ (polynomials k).𝟘)
  some_disc p is = subst (λ q. ¬ (discriminant (equation_of k q) ≡ (polynomials k).𝟘)) (sym is) disc_some
