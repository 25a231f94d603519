use Rattle.std.proofs.Common.{ap, ◌∙◌}
use Rattle.ff_poly.specs.Words.{poly_of}
use Rattle.ff_space.proofs.LayerLists.{part_more, rest_long}
use Rattle.ff_space.proofs.vectors.parts_of.Goals as goal

pub loop-i-preserved : goal.loop-i-preserved
loop-i-preserved c = record {
  long = rest_long c.args.width c.args.n c.loop-i.i c.loop-i.rest.now c.split_at.result.1.now c.loop-i-test.true
      c.loop-i.invariant.long c.split_at.ensures.back;
  is = part_more c.args.width c.args.n c.loop-i.i c.loop-i.rest.now c.split_at.result.1.now c.loop-i.polys.items
      c.push.new.self.items _ c.from_codes.result c.loop-i-test.true c.loop-i.invariant.is c.split_at.ensures.back
      (c.from_codes.ensures ∙ ap poly_of (c.in_ok-to_vec.ensures.items_if_clones_equal (λ x y e. e)
      ∙ c.split_at.ensures.front))
      c.in_ok-push.ensures.items;
}
