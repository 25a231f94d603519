use Rattle.std.proofs.Common.{Some}
use Rattle.std.proofs.lemmas.Option.{same_Some}
use Rattle.ff_io.proofs.Writing.{written_begins}
use Rattle.stream_tests.proofs.tests.write_some.Goals as goal

pub returns : goal.returns
returns c =
    let w = c.write_all.ensures in
    let p = written_begins c.write_all.result c.args.out.now.taken c.args.bytes.now (Some c.write_all.new.out.taken)
    w.whole w.part in
    (p.0, p.1, same_Some _ _ p.2)
