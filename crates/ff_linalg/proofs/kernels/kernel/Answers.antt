use Rattle.std.proofs.Common.{◌≡◌, ◌+◌, ◌-◌, ◌*◌, length, drop, map, sym, ap, ap₂, ◌∙◌, subst, arith}
use Rattle.std.proofs.lemmas.List.{take_at, length-replicate}
use Rattle.ff_linalg.proofs.kernels.kernel.Goals as goal
use Rattle.ff_fields.specs.Over.{IsOver}
use Rattle.ff_linalg.specs.Matrix.{rows_in}
use Rattle.ff_linalg.specs.Forms.{IsEliminated}
use Rattle.ff_linalg.proofs.Reduced.{entries_over}
use Rattle.ff_linalg.proofs.KernelBasis.{kernel_view}

pub eliminate_whole-rank-requires-clause-entries_in : goal.eliminate_whole-rank-requires-clause-entries_in
eliminate_whole-rank-requires-clause-entries_in g c =
    let k = g.K.SmallField.field c.args.k.now in
    subst (IsOver k.ops) (sym c.as_slice.ensures.value)
    (entries_over k c.a.inside.cols c.a.inside.rows c.a.inside.entries.items c.args.a.now c.a.view_is c.requires
    c.a.invariant)

pub returns : goal.returns
returns g c =
    let k = g.K.SmallField.field c.args.k.now in
    let n = c.a.inside.rows in
    let cols = c.a.inside.cols in
    let rank = c.eliminate_whole-rank.result in
    let whole = c.eliminate_whole-rank.new.whole in
    let width : c.in_ok-width.width ≡ cols + n = (rw c.in_ok-width.ensures.ok_part at c.checked_add.ensures).1 in
    let zeros_long : length c.in_ok-whole.whole.items ≡ n * c.in_ok-width.width = ap length c.in_ok-whole.ensures
    ∙ length-replicate (n * c.in_ok-width.width) 0 in
    let long : length whole ≡ n * (cols + n) =
    (let e : length whole ≡ length c.in_ok-whole.whole.items = omega arith in e) ∙ zeros_long
    ∙ ap (λ m. n * m) width in
    let written = c.as_slice-2.ensures.value ∙ take_at whole _ _ (omega arith) in
    kernel_view k cols n rank c.a.inside.entries.items whole c.in_ok-entries.entries.items c.args.a.now c.a.view_is
    c.requires c.a.invariant long
    c.eliminate_whole-rank.ensures.over
    (subst (λ xs. IsEliminated k cols (rows_in cols n xs) (rows_in (cols + n) n whole) rank) c.as_slice.ensures.value
    c.eliminate_whole-rank.ensures.eliminated)
    (ap (λ m. rows_in (m - cols) (n - rank) c.in_ok-entries.entries.items) (sym width) ∙ c.in_ok-entries.ensures.rows
    ∙ ap₂ (λ m xs. map (drop cols) (drop rank (rows_in m n xs))) width written)
