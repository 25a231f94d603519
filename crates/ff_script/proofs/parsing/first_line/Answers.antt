use Rattle.ff_script.proofs.Cuts.{cut_at, uncut_at}
use Rattle.ff_script.proofs.parsing.first_line.Goals as goal

pub returns-in-Some-clause-line : goal.returns-in-Some-clause-line
returns-in-Some-clause-line c = cut_at c.args.bytes.now c.in-Some.end c.line_end.result c.line_end.ensures c.in-Some.is

pub returns-in-None-clause-line : goal.returns-in-None-clause-line
returns-in-None-clause-line c = uncut_at c.args.bytes.now c.line_end.result c.requires c.line_end.ensures c.in-None.is
