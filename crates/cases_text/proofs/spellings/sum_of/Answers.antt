use Rattle.std.proofs.Common.{true, arith}
use Rattle.ff_text.proofs.Exponents.{read_small}
use Rattle.cases_text.proofs.spellings.sum_of.Goals as goal

pub collect-requires : goal.collect-requires
collect-requires c = read_small true c.args.line.now 0 c.in_ok-terms.terms c.in_ok-terms.field-0-1
    c.in_ok-terms.ensures.found (omega arith)
