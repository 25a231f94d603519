use Rattle.std.proofs.Common.{◌≡◌, take}
use Rattle.function_field.specs.Values.{IsElem, function_of}
use Rattle.ff_rr.specs.Listings.{function_at}
use Rattle.ff_rr.proofs.sums.combination.Given as goal

-- the sum so far
abbrev pub invariant-loop-i : goal.invariant-loop-i
invariant-loop-i g l =
    let k = g.K.SmallField.field l.k in
    record {
      is : function_of k l.p l.sum ≡ function_at k l.p (take l.i l.functions) (take l.i l.codes);
      in_range : IsElem k.ops l.p.n l.sum;
    }
