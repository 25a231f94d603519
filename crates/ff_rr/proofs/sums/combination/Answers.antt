use Rattle.std.proofs.Common.{subst}
use Rattle.function_field.specs.Values.{IsElem}
use Rattle.ff_rr.proofs.Combinations.{function_none, function_step}
use Rattle.ff_rr.proofs.sums.combination.Goals as goal

pub loop-i-init : goal.loop-i-init
loop-i-init g c =
    let k = g.K.SmallField.field c.args.k.now in
    record {
      is =
          function_none k c.args.p.now c.in_ok-sum.sum c.zero.result c.n.result c.zero.ensures c.n.ensures.n
          c.in_ok-sum.ensures.is;
      in_range = subst (λ n. IsElem k.ops n c.in_ok-sum.sum) c.n.ensures.n c.in_ok-sum.ensures.in_range;
    }

pub loop-i-preserved : goal.loop-i-preserved
loop-i-preserved g c =
    let k = g.K.SmallField.field c.args.k.now in
    record {
      is =
          function_step k c.args.p.now c.args.functions.now c.args.codes.now c.loop-i.i c.index-functions-i.result
          c.loop-i.sum c.in_ok-term.term c.in_ok-sum-2.sum c.requires.one_each c.loop-i-test.true
          c.index-functions-i.is c.loop-i.invariant.is c.in_ok-term.ensures.product
          (c.in_ok-sum-2.ensures.sum c.args.p.now);
      in_range =
          subst (λ n. IsElem k.ops n c.in_ok-sum-2.sum) c.loop-i.invariant.in_range.one_each
          c.in_ok-sum-2.ensures.in_range;
    }
