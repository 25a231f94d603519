use Rattle.std.proofs.Common.{◌≡◌, max, drop}
use Rattle.ff_cert.specs.RowPlaces.{degree}
use Rattle.ff_cert.proofs.text.degree_of_places.Given as goal

-- the greatest so far and those to come
abbrev pub invariant-loop-p : goal.invariant-loop-p
invariant-loop-p l = max l.degree (degree (drop l.p-index l.places)) ≡ degree l.places
