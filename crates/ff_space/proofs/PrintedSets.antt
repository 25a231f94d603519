-- Sets with the same members have the same printed form.
use Rattle.std.proofs.Common.{List, ◌↔◌}
use Rattle.ff_fields.specs.Field.{CodeField}
use Rattle.function_field.specs.Values.{ElemValue, PresValue, Functions}
use Rattle.ff_space.specs.Spaces.{SpaceValue, IsPrintedSpace, IsPrintedBasis}
use Rattle.ff_space.specs.Vectors.{over_den}

module _ (k : CodeField) (p : PresValue) (In Out : Functions k p → Type 0) (same : (z : Functions k p)
    → In z ↔ Out z) where
  pub space_of_same : (s : SpaceValue) → IsPrintedSpace k p In s → IsPrintedSpace k p Out s
  space_of_same s h = record {
    form = h.form;
    vectors = λ z z_in. h.vectors z ((same z).1 z_in);
    least_den = λ den width over monic have. h.least_den den width over monic (λ z z_in. have z ((same z).0 z_in));
    least_width = λ width have. h.least_width width (λ z z_in. have z ((same z).0 z_in));
    reduced = h.reduced;
    row_space = λ v.
        let f = over_den k p s.den s.width v in (
          λ m. let t = (h.row_space v).0 m in
              record { count = t.count; over = t.over; is_in = (same f).0 t.is_in },
          λ t. (h.row_space v).1 (record { count = t.count; over = t.over; is_in = (same f).1 t.is_in }),
        );
  }

  pub basis_of_same : (zs : List ElemValue) → IsPrintedBasis k p In zs → IsPrintedBasis k p Out zs
  basis_of_same zs h = record { space = h.space; printed = space_of_same h.space h.printed; are = h.are }
