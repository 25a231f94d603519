use Rattle.std.proofs.Common.{[], ◌∷◌, All, sym, subst}
use Rattle.std.proofs.lemmas.List.Elements.{All-nil, All-cons, All-append}
use Rattle.ff_fields.specs.Over.{IsOver}
use Rattle.ff_poly.specs.Words.{IsIrreducibleList}
use Rattle.cases_lattice.proofs.enlarged.primes.Goals as goal

pub loop-part-preserved : goal.loop-part-preserved
loop-part-preserved g c =
    let k = g.K.SmallField.field c.args.k.now in (
      subst (All (IsOver k.ops)) (sym c.in_ok-push.ensures.items)
          (All-append (IsOver k.ops) c.loop-part.found.items (c.in_ok-g.g ∷ []) c.loop-part.invariant.0
          (All-cons (IsOver k.ops) c.in_ok-g.g [] c.in_ok-g.ensures.over (All-nil (IsOver k.ops)))),
      subst (All (IsIrreducibleList k.ops)) (sym c.in_ok-push.ensures.items)
          (All-append (IsIrreducibleList k.ops) c.loop-part.found.items (c.in_ok-g.g ∷ []) c.loop-part.invariant.1
          (All-cons (IsIrreducibleList k.ops) c.in_ok-g.g [] c.in_ok-g.ensures.irreducible
          (All-nil (IsIrreducibleList k.ops)))),
    )
