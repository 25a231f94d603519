use Rattle.std.proofs.Common.{◌≡◌, length, map, subst, sym, ap, ap₂, All, ◌∙◌}
use Rattle.std.specs.Prelude.{MatchOption}
use Rattle.std.proofs.lemmas.List.{length-map}
use Rattle.ff_fields.specs.Over.{IsOver}
use Rattle.ff_poly.specs.Words.{product_of}
use Rattle.ff_poly.specs.Popov.{rows_of, IsRow, IsPopovMatrix, InRowSpan, IsCombinationList, multiple_of_row}
use Rattle.ff_popov.proofs.Spans.{multiple_over}
use Rattle.ff_lattice.proofs.Normal.{popov_poly, trimmed_rows}
use Rattle.ff_lattice.proofs.Scaled.{popov_multiples}
use Rattle.ff_lattice.proofs.Membership.{multiples_in, contains_decided}
use Rattle.ff_lattice.proofs.sets.contains.Goals as goal

pub coordinates-requires-clause-basis_in : goal.coordinates-requires-clause-basis_in
coordinates-requires-clause-basis_in g c =
    let k = g.K.SmallField.field c.args.k.now in
    let a = c.args.a.now in
    let z = c.args.z.now in
    let n = length a.rows in
    let rows_is : rows_of c.deref.result.now ≡ map (multiple_of_row k.ops z.den) a.rows
    = ap rows_of c.deref.ensures.value ∙ c.in_ok-rows.ensures
    ∙ ap₂ (λ d xs. map (multiple_of_row k.ops d) xs) c.den-2.ensures.den c.rows.ensures.rows in
    let v_is : c.deref-2.result.now ≡ multiple_of_row k.ops a.den z.num
    = c.deref-2.ensures.value ∙ c.in_ok-v.ensures ∙ ap₂ (multiple_of_row k.ops) c.den.ensures.den c.num.ensures in
    let size : length c.deref-2.result.now ≡ n = ap length v_is ∙ length-map z.num (product_of k.ops a.den)
    ∙ c.requires.z_in.one_each in
    subst (λ m. All (IsRow k.ops m) (rows_of c.deref.result.now)) (sym size)
    (subst (All (IsRow k.ops n)) (sym rows_is)
    (multiples_in k n z.den a.rows c.requires.z_in.den_over c.requires.a_form.rows_in))

pub coordinates-requires-clause-popov : goal.coordinates-requires-clause-popov
coordinates-requires-clause-popov g c =
    let k = g.K.SmallField.field c.args.k.now in
    let a = c.args.a.now in
    let z = c.args.z.now in
    let n = length a.rows in
    let rows_is : rows_of c.deref.result.now ≡ map (multiple_of_row k.ops z.den) a.rows
    = ap rows_of c.deref.ensures.value ∙ c.in_ok-rows.ensures
    ∙ ap₂ (λ d xs. map (multiple_of_row k.ops d) xs) c.den-2.ensures.den c.rows.ensures.rows in
    let v_is : c.deref-2.result.now ≡ multiple_of_row k.ops a.den z.num
    = c.deref-2.ensures.value ∙ c.in_ok-v.ensures ∙ ap₂ (multiple_of_row k.ops) c.den.ensures.den c.num.ensures in
    let size : length c.deref-2.result.now ≡ n = ap length v_is ∙ length-map z.num (product_of k.ops a.den)
    ∙ c.requires.z_in.one_each in
    let monic = c.den-2.ensures.monic in
    let form = c.requires.a_form in
    subst (λ m. IsPopovMatrix m (rows_of c.deref.result.now)) (sym size)
    (subst (IsPopovMatrix n) (sym rows_is)
    (popov_multiples k z.den c.requires.z_in.den_over monic.den_poly monic.monic n a.rows form.rows_in
    (trimmed_rows a.rows (popov_poly n a.rows form.popov)) form.popov))

pub coordinates-requires-clause-v_in : goal.coordinates-requires-clause-v_in
coordinates-requires-clause-v_in g c =
    let k = g.K.SmallField.field c.args.k.now in
    let a = c.args.a.now in
    let z = c.args.z.now in
    let n = length a.rows in
    let rows_is : rows_of c.deref.result.now ≡ map (multiple_of_row k.ops z.den) a.rows
    = ap rows_of c.deref.ensures.value ∙ c.in_ok-rows.ensures
    ∙ ap₂ (λ d xs. map (multiple_of_row k.ops d) xs) c.den-2.ensures.den c.rows.ensures.rows in
    let v_is : c.deref-2.result.now ≡ multiple_of_row k.ops a.den z.num
    = c.deref-2.ensures.value ∙ c.in_ok-v.ensures ∙ ap₂ (multiple_of_row k.ops) c.den.ensures.den c.num.ensures in
    let size : length c.deref-2.result.now ≡ n = ap length v_is ∙ length-map z.num (product_of k.ops a.den)
    ∙ c.requires.z_in.one_each in
    subst (All (IsOver k.ops)) (sym v_is)
    (multiple_over k a.den z.num c.requires.a_form.den_in c.requires.z_in.num_over)

pub returns : goal.returns
returns g c =
    let k = g.K.SmallField.field c.args.k.now in
    let a = c.args.a.now in
    let z = c.args.z.now in
    let n = length a.rows in
    let rows_is : rows_of c.deref.result.now ≡ map (multiple_of_row k.ops z.den) a.rows
    = ap rows_of c.deref.ensures.value ∙ c.in_ok-rows.ensures
    ∙ ap₂ (λ d xs. map (multiple_of_row k.ops d) xs) c.den-2.ensures.den c.rows.ensures.rows in
    let v_is : c.deref-2.result.now ≡ multiple_of_row k.ops a.den z.num
    = c.deref-2.ensures.value ∙ c.in_ok-v.ensures ∙ ap₂ (multiple_of_row k.ops) c.den.ensures.den c.num.ensures in
    let size : length c.deref-2.result.now ≡ n = ap length v_is ∙ length-map z.num (product_of k.ops a.den)
    ∙ c.requires.z_in.one_each in
    let found = c.in_ok-found.found in
    let m =
    subst (λ m. MatchOption found (¬ InRowSpan k.ops m (map (multiple_of_row k.ops z.den) a.rows)
    (multiple_of_row k.ops a.den z.num)) (λ x. IsCombinationList k.ops m (map (multiple_of_row k.ops z.den) a.rows)
    (multiple_of_row k.ops a.den z.num) x.items)) size
    (subst (λ v. MatchOption found (¬ InRowSpan k.ops (length c.deref-2.result.now)
    (map (multiple_of_row k.ops z.den) a.rows) v)
    (λ x. IsCombinationList k.ops (length c.deref-2.result.now) (map (multiple_of_row k.ops z.den) a.rows) v
    x.items)) v_is
    (subst (λ rows. MatchOption found (¬ InRowSpan k.ops (length c.deref-2.result.now) rows c.deref-2.result.now)
    (λ x. IsCombinationList k.ops (length c.deref-2.result.now) rows c.deref-2.result.now x.items)) rows_is
    c.in_ok-found.ensures)) in
    contains_decided k n a z found c.is_some.result c.requires.a_form c.requires.z_in c.den-2.ensures.monic m
    c.is_some.ensures
