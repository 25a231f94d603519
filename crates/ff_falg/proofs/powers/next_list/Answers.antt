use Rattle.std.proofs.Common.{◌+◌, length, sym, ap, ◌∙◌}
use Rattle.std.proofs.lemmas.List.{length_push}
use Rattle.ff_falg.proofs.powers.next_list.Goals as goal
use Rattle.ff_falg.proofs.ChainSteps.{no_steps, steps_more}

pub loop-j-init : goal.loop-j-init
loop-j-init g c =
    let k = g.K.SmallField.field c.args.k.now in
    let A = g.A.FiniteAlgebra.algebra c.args.a.now in
    record {
      size = ap length c.new-next.ensures.items;
      steps = no_steps k A c.args.z.now _ c.new-next.ensures.items;
    }

pub loop-j-preserved : goal.loop-j-preserved
loop-j-preserved g c =
    let k = g.K.SmallField.field c.args.k.now in
    let A = g.A.FiniteAlgebra.algebra c.args.a.now in
    record {
      size =
          ap length c.in_ok-push.ensures.items ∙ length_push c.loop-j.next.items c.in_ok-next_of.field-0
          ∙ ap (λ n. n + 1) c.loop-j.invariant.size;
      steps =
          steps_more k A c.args.z.now c.loop-j.next.items _ c.in_ok-next_of.field-0 c.loop-j.j
          (sym c.loop-j.invariant.size)
          c.in_ok-push.ensures.items c.in_ok-next_of.ensures c.loop-j.invariant.steps;
    }
