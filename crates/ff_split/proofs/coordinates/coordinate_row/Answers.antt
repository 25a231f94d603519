use Rattle.std.proofs.Common.{◌≡◌, length, subst, sym, ap, ap₂, ◌∙◌, All}
use Rattle.ff_fields.specs.Over.{IsOver}
use Rattle.ff_poly.specs.Popov.{rows_of}
use Rattle.ff_split.specs.Steps.{power_row}
use Rattle.ff_split.proofs.PowerRows.{power_row_over, power_row_size}
use Rattle.ff_split.proofs.FoundRows.{decided_same}
use Rattle.ff_split.proofs.coordinates.coordinate_row.Goals as goal

pub coordinates-requires-clause-v_in : goal.coordinates-requires-clause-v_in
coordinates-requires-clause-v_in g c =
    let k = g.K.SmallField.field c.args.k.now in
    let inf = c.args.inf.now in
    let n = length inf.rows in
    let v_is : c.deref.result.now ≡ power_row n inf.den c.args.exponent c.args.j
    = c.deref.ensures.value ∙ c.in_ok-row.ensures
    ∙ ap₂ (λ m d. power_row m d c.args.exponent c.args.j) c.len.ensures c.den.ensures.den in
    subst (All (IsOver k.ops)) (sym v_is) (power_row_over k n inf.den c.args.exponent c.args.j c.requires.form.den_in)

pub returns : goal.returns
returns g c =
    let k = g.K.SmallField.field c.args.k.now in
    let inf = c.args.inf.now in
    let n = length inf.rows in
    let v_is : c.deref.result.now ≡ power_row n inf.den c.args.exponent c.args.j
    = c.deref.ensures.value ∙ c.in_ok-row.ensures
    ∙ ap₂ (λ m d. power_row m d c.args.exponent c.args.j) c.len.ensures c.den.ensures.den in
    decided_same k.ops c.coordinates.result (length c.deref.result.now) n (rows_of c.rows.result.now) inf.rows
    c.deref.result.now (power_row n inf.den c.args.exponent c.args.j)
    (ap length v_is ∙ power_row_size n inf.den c.args.exponent c.args.j) c.rows.ensures.rows v_is
    c.coordinates.ensures
