use Rattle.std.proofs.Common.{◌≡◌, ◌+◌, ◌*◌, length, ◌∙◌, ap, arith}
use Rattle.std.proofs.lemmas.List.{length-replicate}
use Rattle.ff_linalg.proofs.kernels.eliminate_whole.Goals as goal
use Rattle.ff_linalg.specs.Matrix.{rows_in}
use Rattle.ff_linalg.proofs.Flat.{length_rows_in, rows_in_wide, rows_in_over, over_from_rows}
use Rattle.ff_linalg.proofs.Reading.{length_sequences}
use Rattle.ff_linalg.proofs.Reduction.{reduced_start}
use Rattle.ff_linalg.proofs.UnitRows.{beside_over}
use Rattle.ff_linalg.proofs.Beside.{eliminated_at}

pub reduce-rank-requires-clause-entries_in : goal.reduce-rank-requires-clause-entries_in
reduce-rank-requires-clause-entries_in g c =
    let k = g.K.SmallField.field c.args.k.now in
    let w = c.args.cols + c.args.rows in
    let whole = c.write_beside_unit.new.whole in
    let long : length whole ≡ c.args.rows * w = omega
    (arith, ap length c.requires.zeros ∙ length-replicate (c.args.rows * w) 0) in
    over_from_rows k.ops w c.args.rows whole long
    (beside_over k c.args.rows (rows_in c.args.cols c.args.rows c.args.entries.now) (rows_in w c.args.rows whole)
    (length_rows_in c.args.cols c.args.rows c.args.entries.now) (length_rows_in w c.args.rows whole)
    c.write_beside_unit.ensures
    (rows_in_over k.ops c.args.cols c.args.rows c.args.entries.now c.requires.entries_in))

pub reduce-rank-requires-clause-reduced : goal.reduce-rank-requires-clause-reduced
reduce-rank-requires-clause-reduced g c = reduced_start (g.K.SmallField.field c.args.k.now) _

pub returns-clause-within : goal.returns-clause-within
returns-clause-within g c =
    let k = g.K.SmallField.field c.args.k.now in
    let w = c.args.cols + c.args.rows in
    let r = c.reduce-rank.ensures.reduced in
    omega (
      arith,
      r.rank_is,
      r.form.rank_within,
      length_sequences k (rows_in w c.args.rows c.reduce-rank.new.entries),
      length_rows_in w c.args.rows c.reduce-rank.new.entries,
    )

pub returns-clause-eliminated : goal.returns-clause-eliminated
returns-clause-eliminated g c =
    let k = g.K.SmallField.field c.args.k.now in
    let w = c.args.cols + c.args.rows in
    eliminated_at k c.args.cols c.args.rows (rows_in c.args.cols c.args.rows c.args.entries.now)
    (rows_in w c.args.rows c.write_beside_unit.new.whole)
    (rows_in w c.args.rows c.reduce-rank.new.entries) (rows_in w c.args.rows c.reduce.new.entries) c.reduce-rank.result
    c.reduce.result
    (length_rows_in c.args.cols c.args.rows c.args.entries.now)
    (rows_in_wide c.args.cols c.args.rows c.args.entries.now c.requires.shape)
    (length_rows_in w c.args.rows c.write_beside_unit.new.whole) c.write_beside_unit.ensures
    c.reduce-rank.ensures.reduced c.reduce-rank.ensures.same c.reduce.ensures.reduced c.reduce.ensures.same
