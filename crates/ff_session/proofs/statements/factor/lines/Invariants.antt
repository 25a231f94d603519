use Rattle.std.proofs.Common.{◌≡◌, take, map}
use Rattle.ff_cert.specs.declared.answer.PowerLine.{PowerLine}
use Rattle.ff_session.proofs.statements.factor.lines.Given as goal

-- the powers so far have their lines
abbrev pub invariant-loop-part : goal.invariant-loop-part
invariant-loop-part l = map (λ (x : PowerLine). (x.poly, x.exponent)) l.powers.items ≡ take l.part-index l.parts
