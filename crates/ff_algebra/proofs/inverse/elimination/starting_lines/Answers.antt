use Rattle.std.proofs.Common.{◌≡◌, ◌+◌, [], ◌∷◌, length, set, replicate, ap, ◌∙◌, arith}
use Rattle.std.proofs.lemmas.List.{length-append, length-map}
use Rattle.ff_poly.specs.Popov.{rows_of}
use Rattle.ff_algebra.proofs.EliminatedLines.{IsStart, eliminated_start}
use Rattle.ff_algebra.proofs.LineReads.{pushed_line}
use Rattle.ff_algebra.proofs.inverse.elimination.starting_lines.Goals as goal

pub loop-i-preserved : goal.loop-i-preserved
loop-i-preserved g c =
    let k = g.K.SmallField.field c.args.k.now in
    let p = c.args.p.now in
    record {
      count = ap length c.in_ok-push.ensures.items ∙ length-append c.loop-i.lines.items (c.in_ok-line_of.field-0 ∷ [])
          ∙ ap (λ n. n + 1) c.loop-i.invariant.count;
      starts = pushed_line (IsStart k p c.args.v.now) c.loop-i.i c.loop-i.lines.items c.push.new.self.items
          c.in_ok-line_of.field-0 c.loop-i.invariant.count c.in_ok-push.ensures.items c.loop-i.invariant.starts
          (record {
            line_is = c.in_ok-line_of.ensures.line;
            factors = c.in_ok-line_of.ensures.factors ∙ c.in_ok-factors.ensures
                ∙ ap (λ n. set (replicate (n + 1) []) c.loop-i.i (1 ∷ [])) c.n-count.ensures.n;
          });
    }

pub returns-clause-lines : goal.returns-clause-lines
returns-clause-lines g c =
    let k = g.K.SmallField.field c.args.k.now in
    let p = c.args.p.now in
    let size : length c.loop-i.lines.items ≡ p.n + 1 = omega (arith, c.n-count.ensures.n, c.loop-i.invariant.count) in
    eliminated_start k p c.args.v.now (rows_of c.loop-i.lines.items)
    (length-map c.loop-i.lines.items (λ r. r.items) ∙ size)
    (λ j less. c.loop-i.invariant.starts j (omega arith))
