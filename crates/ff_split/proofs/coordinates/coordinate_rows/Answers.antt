use Rattle.std.proofs.Common.{◌+◌, length, subst, sym, ap, ◌∙◌, arith}
use Rattle.std.proofs.lemmas.List.{length_push}
use Rattle.std.specs.Prelude.{MatchOption}
use Rattle.ff_poly.specs.Popov.{rows_of, row_at, InRowSpan, IsCombinationList}
use Rattle.ff_lattice.specs.Lattices.{IsLatticeValue}
use Rattle.ff_split.specs.Steps.{power_row}
use Rattle.ff_split.proofs.FoundRows.{each_more, found_rows}
use Rattle.ff_split.proofs.coordinates.coordinate_rows.Goals as goal

pub coordinate_row-requires-clause-form : goal.coordinate_row-requires-clause-form
coordinate_row-requires-clause-form g c =
    let k = g.K.SmallField.field c.args.k.now in
    subst (λ n. IsLatticeValue k.ops n c.args.inf.now) (sym c.requires.form.popov.size) c.requires.form

pub loop-j-preserved : goal.loop-j-preserved
loop-j-preserved g c =
    let k = g.K.SmallField.field c.args.k.now in
    let inf = c.args.inf.now in
    let n = length inf.rows in
    let e = c.args.exponent in
    let j = c.loop-j.j in
    let found = subst (λ f. MatchOption f (¬ InRowSpan k.ops n inf.rows (power_row n inf.den e j))
    (λ q. IsCombinationList k.ops n inf.rows (power_row n inf.den e j) q.items)) c.in-Some.is
    c.in_ok-coordinate_row.ensures in
    record {
      count =
          ap length c.in_ok-push-in-Some.ensures.items ∙ length_push c.loop-j.rows.items c.in-Some.row
          ∙ ap (λ m. m + 1) c.loop-j.invariant.count;
      each =
          each_more (λ i row. IsCombinationList k.ops n inf.rows (power_row n inf.den e i) row) c.loop-j.rows.items
          c.push.new.self.items c.in-Some.row j c.loop-j.invariant.count c.loop-j.invariant.each found
          c.in_ok-push-in-Some.ensures.items;
    }

pub returns : goal.returns
returns g c =
    let k = g.K.SmallField.field c.args.k.now in
    let inf = c.args.inf.now in
    let q = c.loop-j.rows.items in
    let size = c.requires.form.popov.size in
    let end = c.len-j-end.ensures in
    let at_end = c.loop-j.auto.j-end in
    let over = c.loop-j-test.false in
    let count = c.loop-j.invariant.count in
    found_rows k c.args.c.now inf c.requires.curve c.requires.form c.args.exponent q
    (omega (arith, size, end, at_end, over, count))
    (λ j less.
    subst (λ m. IsCombinationList k.ops m inf.rows (power_row m inf.den c.args.exponent j) (row_at (rows_of q) j)) size
    (c.loop-j.invariant.each j (omega (arith, less, size, end, at_end, over))))
