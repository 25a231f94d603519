use Rattle.ff_script.proofs.Progress.{skip_so_far}
use Rattle.ff_script.proofs.parsing.Progress.take.Goals as goal

pub returns-then-is_skipped-clause-ok : goal.returns-then-is_skipped-clause-ok
returns-then-is_skipped-clause-ok c = λ lines number so_far. skip_so_far lines c.args.self.now.statements.items
    c.args.self.now.misplaced c.args.line.now (c.is_skipped.ensures.0 c.if-is_skipped.true) so_far
