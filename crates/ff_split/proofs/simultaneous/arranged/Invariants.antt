use Rattle.std.proofs.Common.{◌≡◌, [], map, take}
use Rattle.linear_theory.specs.Lists.{entry}
use Rattle.ff_split.proofs.simultaneous.arranged.Given as goal

abbrev pub invariant-loop-p : goal.invariant-loop-p
invariant-loop-p l =
    l.out.items ≡ map (λ p. entry (record { num = []; den = [] }) l.elems p.1) (take l.p-index l.order)
