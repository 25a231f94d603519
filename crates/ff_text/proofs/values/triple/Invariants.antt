use Rattle.ff_text.proofs.Gathered.{IsGathered}
use Rattle.ff_text.proofs.values.triple.Given as goal

abbrev pub invariant-loop-f : goal.invariant-loop-f
invariant-loop-f g l = IsGathered (g.K.SmallField.field l.k).ops l.f-items l.t.factors l.f-index l.code l.x l.y
