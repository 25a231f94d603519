use Rattle.std.proofs.Common.{◌<◌, length, arith}
use Rattle.ff_falg.proofs.rows.scale_all.Goals as goal
use Rattle.ff_fields.specs.Code.{raw_ring}
use Rattle.ff_linalg.proofs.Multiples.{scale_step, scale_read, scale_end}

pub mul-requires-clause-b_in : goal.mul-requires-clause-b_in
mul-requires-clause-b_in g c =
    let within : c.loop-j.j < length c.args.codes.now = omega arith in
    rw (scale_read (raw_ring (g.K.SmallField.field c.args.k.now).ops) c.args.c c.args.codes.now c.loop-j.codes
    c.loop-j.j c.loop-j.invariant within)
    (c.requires.codes_in.each c.loop-j.j 0 within)

pub loop-j-preserved : goal.loop-j-preserved
loop-j-preserved g c =
    scale_step (raw_ring (g.K.SmallField.field c.args.k.now).ops) c.args.c c.args.codes.now c.loop-j.codes c.loop-j.j _
    c.loop-j.invariant (omega arith) c.mul.ensures

pub returns : goal.returns
returns g c =
    scale_end (raw_ring (g.K.SmallField.field c.args.k.now).ops) c.args.c c.args.codes.now c.loop-j.codes c.loop-j.j
    c.loop-j.invariant (omega arith)
