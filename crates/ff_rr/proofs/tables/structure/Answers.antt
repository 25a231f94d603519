use Rattle.ff_falg.specs.Idempotents.{elements_of}
use Rattle.ff_rr.proofs.Combinations.{function_one}
use Rattle.ff_rr.proofs.TableVectors.{constant_one, structure_is}
use Rattle.ff_rr.proofs.tables.structure.Goals as goal

pub constant_coordinates-requires-clause-constant : goal.constant_coordinates-requires-clause-constant
constant_coordinates-requires-clause-constant g c =
    let k = g.K.SmallField.field c.args.k.now in
    constant_one k c.args.p.now c.requires.ring c.in_ok-one-2.one
    (function_one k c.args.p.now c.in_ok-one-2.one c.in_ok-one.field-0 c.n.result c.in_ok-one.ensures c.n.ensures.n
    c.in_ok-one-2.ensures.is)

pub returns : goal.returns
returns g c =
    let k = g.K.SmallField.field c.args.k.now in
    structure_is k c.args.p.now c.args.s.now.functions c.new.result c.in_ok-unit.unit.items
    (elements_of c.in_ok-table.table.items) c.in_ok-one-2.one c.new.ensures c.in_ok-unit.ensures.vector
    c.in_ok-unit.ensures.is
    (function_one k c.args.p.now c.in_ok-one-2.one c.in_ok-one.field-0 c.n.result c.in_ok-one.ensures c.n.ensures.n
    c.in_ok-one-2.ensures.is)
    c.in_ok-table.ensures
