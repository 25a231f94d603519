use Rattle.std.proofs.Common.{◌-◌, ◌<◌, inl, inr, [], length, get_or, refl, sym, ap, ◌∙◌, arith, subst}
use Rattle.ff_poly.specs.Popov.{rows_of, entry_at, IsRow}
use Rattle.ff_popov.specs.Rows.{IsLow}
use Rattle.ff_popov.proofs.basis.lower_level.Goals as goal
use Rattle.ff_popov.proofs.basis.lower_level.Goals.{else-len-via-then-len+else-len-2, else-len-via-else-len}
use Rattle.ff_popov.proofs.Entries.{any_default}
use Rattle.ff_popov.proofs.Lowering.{owner_row, low_skip, low_step}
use Rattle.ff_popov.proofs.Congruence.{congruent_refl, congruent_step}

pub loop-column-init : goal.loop-column-init
loop-column-init g c = record {
  low = c.requires.low;
  congruent = congruent_refl (g.K.SmallField.field c.args.k.now) (length c.args.row.now) (rows_of c.args.rows.now)
      c.args.row.now c.requires.row_in;
}

pub clear_entry-requires-clause-other_in : goal.clear_entry-requires-clause-other_in
clear_entry-requires-clause-other_in g c =
    let k = g.K.SmallField.field c.args.k.now in
    let j = c.loop-column.column - 1 in
    let w = length c.args.row.now in
    let size = c.loop-column.invariant.congruent.row.size in
    let less : j < w = omega arith in
    let o = owner_row k.ops w c.args.rows.now c.args.owners.now j _ c.index-rows-owners.result c.deref.result.now
    c.requires.rows_in c.requires.owners less refl c.index-rows-owners.is c.deref.ensures.value in
    subst (λ n. IsRow k.ops n c.deref.result.now) (sym size) o.1

pub loop-column-preserved-then-len-2 : goal.loop-column-preserved-then-len-2
loop-column-preserved-then-len-2 g c =
    let k = g.K.SmallField.field c.args.k.now in
    let j = c.loop-column.column - 1 in
    let w = length c.args.row.now in
    let size = c.loop-column.invariant.congruent.row.size in
    let less : j < w = omega arith in
    let o = owner_row k.ops w c.args.rows.now c.args.owners.now j _ c.index-rows-owners.result c.deref.result.now
    c.requires.rows_in c.requires.owners less refl c.index-rows-owners.is c.deref.ensures.value in
    let s = c.in_ok-clear_entry.ensures in
    record {
      low = low_step (rows_of c.args.rows.now) c.args.owners.now c.args.len j c.loop-column.row k.ops c.deref.result.now
          c.clear_entry.new.row
          (subst (λ n. IsLow (rows_of c.args.rows.now) c.args.owners.now c.args.len n c.loop-column.row) (omega arith)
          c.loop-column.invariant.low)
          (omega (
            arith,
            c.if-len.true,
            c.len.ensures.length,
            ap length
                (any_default c.loop-column.row j c.index-row-column.result [] (omega (arith, less, size))),
          )) s;
      congruent = congruent_step k w (rows_of c.args.rows.now) c.args.row.now c.loop-column.row c.deref.result.now
          c.clear_entry.new.row (get_or c.args.owners.now j 0) s.scalar s.power
          c.loop-column.invariant.congruent o.1 o.0 s.scalar_in s.is;
    }

pub loop-column-preserved : goal.loop-column-preserved
loop-column-preserved g c =
    let k = g.K.SmallField.field c.args.k.now in
    let j = c.loop-column.column - 1 in
    let w = length c.args.row.now in
    let size = c.loop-column.invariant.congruent.row.size in
    let less : j < w = omega arith in
    let low = subst (λ n. IsLow (rows_of c.args.rows.now) c.args.owners.now c.args.len n c.loop-column.row)
    (omega arith) c.loop-column.invariant.low in
    let o = owner_row k.ops w c.args.rows.now c.args.owners.now j _ c.index-rows-owners.result
    c.index-rows-owners.result.items c.requires.rows_in c.requires.owners less refl c.index-rows-owners.is refl in
    record {
      low = low_skip (rows_of c.args.rows.now) c.args.owners.now c.args.len j c.loop-column.row low
          (elim c.else-len.branch [
            | else-len-via-then-len+else-len-2 w ↦ inr
                (omega (
                  arith,
                  w.if-len-2.false,
                  w.len-then-len.ensures.length,
                  ap length
                      (w.index.ensures ∙ any_default c.index-rows-owners.result.items j w.index.result.now []
                      (omega (arith, less, o.1.size))),
                  ap (λ r. length (entry_at r j)) o.0,
                ))
            | else-len-via-else-len w ↦ inl
                (λ e. w.if-len.false (c.len.ensures.length
                ∙ ap length (any_default c.loop-column.row j c.index-row-column.result [] (omega (arith, less, size)))
                ∙ e))
          ]);
      congruent = c.loop-column.invariant.congruent;
    }
