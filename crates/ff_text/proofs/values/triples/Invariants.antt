use Rattle.ff_text.proofs.Gathered.{IsListed}
use Rattle.ff_text.proofs.values.triples.Given as goal

abbrev pub invariant-loop-t : goal.invariant-loop-t
invariant-loop-t g l = IsListed (g.K.SmallField.field l.k).ops l.terms l.t-index l.list.items
