use Rattle.std.proofs.Common.{◌-◌, length, refl, subst}
use Rattle.ff_poly.specs.Popov.{rows_of}
use Rattle.ff_popov.specs.Rows.{IsCongruentRow}
use Rattle.ff_popov.proofs.basis.reduce_row.Goals as goal
use Rattle.ff_popov.proofs.Lowering.{low_start, low_next}
use Rattle.ff_popov.proofs.Congruence.{congruent_refl, congruent_trans}

pub loop-level-init : goal.loop-level-init
loop-level-init g c = record {
  low = low_start (rows_of c.args.rows.now) c.args.owners.now (length c.args.row.now) c.args.len c.args.row.now
      c.requires.bounded refl;
  congruent = congruent_refl (g.K.SmallField.field c.args.k.now) (length c.args.row.now) (rows_of c.args.rows.now)
      c.args.row.now c.requires.row_in;
}

pub loop-level-preserved : goal.loop-level-preserved
loop-level-preserved g c =
    let k = g.K.SmallField.field c.args.k.now in
    let size = c.loop-level.invariant.congruent.row.size in
    let congruent =
    congruent_trans k (length c.args.row.now) (rows_of c.args.rows.now) c.args.row.now c.loop-level.row
    c.lower_level.new.row c.loop-level.invariant.congruent
    (subst (λ n. IsCongruentRow k n (rows_of c.args.rows.now) c.loop-level.row c.lower_level.new.row) size
    c.in_ok-lower_level.ensures.congruent) in
    record {
      low = low_next (rows_of c.args.rows.now) c.args.owners.now (length c.args.row.now) (c.loop-level.level - 1)
          c.lower_level.new.row c.in_ok-lower_level.ensures.low congruent.row.size;
      congruent = congruent;
    }
