use Rattle.std.proofs.Common.{map, take}
use Rattle.ff_falg.specs.Idempotents.{elements_of}
use Rattle.ff_rr.specs.Listings.{AreListed, function_at}
use Rattle.ff_rr.proofs.listing.listed.Given as goal

-- the functions so far
abbrev pub invariant-loop-codes : goal.invariant-loop-codes
invariant-loop-codes g l =
    let k = g.K.SmallField.field l.k in
    AreListed k l.p (map (function_at k l.p l.functions) (elements_of (take l.codes-index l.vectors))) l.list.items
