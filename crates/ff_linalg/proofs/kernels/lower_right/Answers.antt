use Rattle.std.proofs.Common.{◌≡◌, ◌+◌, ◌-◌, ◌*◌, ◌<◌, ◌≤◌, length, take, drop, map, refl, sym, ap, ◌∙◌, arith}
use Rattle.std.proofs.Math.Nat.{zero-mul}
use Rattle.ff_linalg.proofs.kernels.lower_right.Goals as goal
use Rattle.ff_linalg.specs.Matrix.{rows_in}
use Rattle.ff_linalg.proofs.Flat.{row_end, lower_step, lower_end}

pub loop-i-init : goal.loop-i-init
loop-i-init c = record {
  long = ap length c.new-out.ensures.items ∙ sym (zero-mul (c.args.width - c.args.left));
  rows = refl;
}

pub slice_bounds-extend_from_slice-end : goal.slice_bounds-extend_from_slice-end
slice_bounds-extend_from_slice-end c =
    let within : c.args.top + c.loop-i.i < c.args.rows = omega arith in
    let h : (c.args.top + c.loop-i.i) * c.args.width
    + c.args.width ≤ length c.args.entries.now = omega
    (arith, c.requires.shape, row_end (c.args.top + c.loop-i.i) c.args.rows c.args.width within) in
    h

pub loop-i-preserved : goal.loop-i-preserved
loop-i-preserved c =
    let within : c.args.top + c.loop-i.i < c.args.rows = omega arith in
    let h = c.in_ok-extend_from_slice.ensures in
    let step = lower_step c.args.width c.args.left c.args.top c.loop-i.i c.args.rows c.args.entries.now
    c.loop-i.out.items _ c.extend_from_slice.new.self.items
    c.requires.shape c.requires.left_in within c.loop-i.invariant.long c.loop-i.invariant.rows refl h.items in
    record { long = step.0; rows = step.1 }

pub returns-clause-length : goal.returns-clause-length
returns-clause-length c =
    let done : c.loop-i.i ≡ c.args.rows - c.args.top = omega arith in
    c.loop-i.invariant.long ∙ ap (λ n. n * (c.args.width - c.args.left)) done

pub returns-clause-rows : goal.returns-clause-rows
returns-clause-rows c =
    let done : c.loop-i.i ≡ c.args.rows - c.args.top = omega arith in
    ap (λ n. rows_in (c.args.width - c.args.left) n c.loop-i.out.items) (sym done) ∙ c.loop-i.invariant.rows
    ∙ ap (λ n. map (drop c.args.left) (take n (drop c.args.top (rows_in c.args.width c.args.rows c.args.entries.now))))
    done
    ∙ lower_end c.args.width c.args.left c.args.top c.args.rows c.args.entries.now c.requires.top_in
