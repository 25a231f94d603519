use Rattle.std.proofs.Common.{◌≡◌, ◌++◌}
use Rattle.ff_text.specs.PrintedReading.{codes_at}
use Rattle.ff_text.proofs.printed.poly.push_codes.Given as goal

-- the codes so far, and those below the bound, are the whole
abbrev pub invariant-loop-code : goal.invariant-loop-code
invariant-loop-code l = record {
  codes : l.codes.items ++ (codes_at l.bound l.rest).0 ≡ l.fn.codes.items ++ (codes_at l.degree l.bytes).0;
  rest : (codes_at l.bound l.rest).1 ≡ (codes_at l.degree l.bytes).1;
}

abbrev pub decreases-loop-code : goal.decreases-loop-code
decreases-loop-code l = l.bound
