use Rattle.ff_session.proofs.NameMaps.{IsCopied}
use Rattle.ff_session.proofs.names.Names.copy.Given as goal

-- the places so far are those of the copy
abbrev pub invariant-loop-name : goal.invariant-loop-name
invariant-loop-name l = IsCopied l.self l.places.entries l.name-iterator
