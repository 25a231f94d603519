use Rattle.std.proofs.Common.{◌-◌, ap, ap₂, ◌∙◌, arith, length, sym, subst, ◌<◌}
use Rattle.ff_poly.specs.Words.{shifted}
use Rattle.ff_linalg.specs.Matrix.{zero_matrix}
use Rattle.ff_lattice.specs.Residues.{IsRestModulo}
use Rattle.ff_lattice.proofs.ResidueSteps.{own_shape, residues_start, residues_step, residues_end, rest_start, rest_step}
use Rattle.ff_lattice.proofs.multipliers.residues.Goals as goal

pub loop-j-init : goal.loop-j-init
loop-j-init g c =
    let k = g.K.SmallField.field c.args.k.now in
    record {
      rows =
          residues_start k c.args.e.now c.args.v.now c.in_ok-rows.rows
          (c.in_ok-rows.ensures ∙ ap₂ (λ a b. zero_matrix a (b - 1)) c.len.ensures.length c.len-2.ensures.length);
      rest =
          subst (IsRestModulo k.ops c.args.e.now (shifted c.args.v.now 0)) (sym c.in_ok-rest.ensures)
          (rest_start k c.args.e.now c.args.v.now c.requires.e_in c.requires.v_in c.requires.v_poly c.requires.short);
    }

pub write_start-requires-clause-row_in : goal.write_start-requires-clause-row_in
write_start-requires-clause-row_in g c =
    omega (arith, c.loop-j.invariant.rows.shape.row_count, c.loop-j-test.true, c.len-j-end.ensures.length)

pub write_start-requires-clause-fits : goal.write_start-requires-clause-fits
write_start-requires-clause-fits g c =
    omega (
      arith,
      ap length c.codes.ensures.codes,
      c.loop-j.invariant.rest.division.shorter,
      c.loop-j.invariant.rows.shape.col_count,
    )

pub write_start-requires-clause-shape : goal.write_start-requires-clause-shape
write_start-requires-clause-shape g c =
    own_shape c.loop-j.rows (length c.args.e.now) (length c.args.e.now - 1) c.loop-j.invariant.rows.shape

pub times_x-requires-clause-v_in : goal.times_x-requires-clause-v_in
times_x-requires-clause-v_in g c = c.loop-j.invariant.rest.division.rest_in

pub loop-j-preserved : goal.loop-j-preserved
loop-j-preserved g c =
    let k = g.K.SmallField.field c.args.k.now in
    let less : c.loop-j.j < length c.args.e.now = omega (arith, c.loop-j-test.true, c.len-j-end.ensures.length) in
    record {
      rows =
          residues_step k c.args.e.now c.args.v.now c.loop-j.rest c.codes.result.now c.loop-j.j c.loop-j.rows
          c.write_start.new.m less c.loop-j.invariant.rest
          c.codes.ensures.codes c.write_start.ensures c.loop-j.invariant.rows;
      rest =
          rest_step k c.args.e.now c.args.v.now c.loop-j.rest c.in_ok-rest-2.rest c.loop-j.j c.requires.e_in
          c.requires.v_in c.loop-j.invariant.rest
          c.in_ok-rest-2.ensures;
    }

pub returns-clause-residues : goal.returns-clause-residues
returns-clause-residues g c =
    let k = g.K.SmallField.field c.args.k.now in
    residues_end k c.args.e.now c.args.v.now c.loop-j.j c.loop-j.rows
    (omega (arith, c.loop-j-test.false, c.len-j-end.ensures.length))
    (omega (arith, c.loop-j.auto.j-end, c.len-j-end.ensures.length)) c.loop-j.invariant.rows

pub returns-clause-poly : goal.returns-clause-poly
returns-clause-poly g c = c.len.ensures.trimmed
