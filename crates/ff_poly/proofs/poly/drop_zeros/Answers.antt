use Rattle.std.proofs.Common.{◌≡◌, ◌-◌, ◌∙◌, sym, inl, inr, take, arith}
use Rattle.std.proofs.lemmas.List.{get_or_read}
use Rattle.ff_poly.proofs.poly.drop_zeros.Goals as goal
use Rattle.ff_poly.specs.Words.{IsPoly, poly_of}
use Rattle.ff_poly.proofs.Trims.{poly_of_take_less, trimmed}
use Rattle.ff_poly.proofs.poly.drop_zeros.Goals.{else-loop-len-test, then-loop-len-test+then-index-ne0}

pub loop-len-preserved : goal.loop-len-preserved
loop-len-preserved c =
    let read = get_or_read c.args.codes.now.items (c.loop-len.len - 1) _ (omega arith) c.index.ensures 0 in
    record {
      within = omega arith;
      kept = poly_of_take_less c.args.codes.now.items c.loop-len.len c.loop-len-test.true c.loop-len.invariant.within
          (sym read ∙ c.if-index-ne0.false) ∙ c.loop-len.invariant.kept;
    }

ended : (c : goal.After-truncate) → IsPoly (take c.loop-len.len c.args.codes.now.items)
    × (take c.loop-len.len c.args.codes.now.items ≡ poly_of c.args.codes.now.items)
ended c =
    elim c.loop-len-test.branch [
      | else-loop-len-test w ↦
          trimmed c.args.codes.now.items c.loop-len.len c.loop-len.invariant.within (inl (omega arith))
          c.loop-len.invariant.kept
      | then-loop-len-test+then-index-ne0 w ↦
          let read = get_or_read c.args.codes.now.items (c.loop-len.len - 1) _ (omega arith) w.index.ensures 0 in
          trimmed c.args.codes.now.items c.loop-len.len c.loop-len.invariant.within
          (inr (w.loop-len-test.true, λ e. w.if-index-ne0.true (read ∙ e))) c.loop-len.invariant.kept
    ]

pub returns-clause-dropped : goal.returns-clause-dropped
returns-clause-dropped c = c.truncate.ensures.items ∙ (ended c).1

pub returns-clause-poly : goal.returns-clause-poly
returns-clause-poly c = rw c.truncate.ensures.items (ended c).0
