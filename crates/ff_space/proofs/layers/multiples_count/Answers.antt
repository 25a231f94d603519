use Rattle.std.proofs.Common.{◌∙◌, ◌<ℤ◌, ◌≤ℤ◌, pos, ap, arith, unsigned_abs}
use Rattle.std.proofs.lemmas.Int.{ints, to_z-of_z}
use mir.Syntax.{w64}
use Rattle.ff_space.proofs.LayerLists.{no_multiples, some_multiples}
use Rattle.ff_space.proofs.layers.multiples_count.Goals as goal

pub returns-then-d-gt0 : goal.returns-then-d-gt0
returns-then-d-gt0 c = let greater : pos 0 <ℤ c.args.d = grind (arith, ints) in no_multiples c.args.d greater

pub returns : goal.returns
returns c =
    let at_most : c.args.d ≤ℤ pos 0 = grind (arith, ints) in
    some_multiples c.args.d c.unsigned_abs.result at_most
    (c.unsigned_abs.ensures.value ∙ ap unsigned_abs (to_z-of_z w64 c.args.d c.ranges.d))
