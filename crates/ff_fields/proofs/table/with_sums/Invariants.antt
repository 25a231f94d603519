use Rattle.std.proofs.Common.{◌≡◌, ℕ, ◌<◌, length}
use Rattle.ff_fields.specs.Tables.{IsPowerOf}
use Rattle.ff_fields.proofs.table.with_sums.Given as goal

abbrev pub invariant-loop-code : goal.invariant-loop-code
invariant-loop-code g l =
    let k = g.K.SmallField.field l.k in
    record {
      long : length l.powers.items ≡ l.code-index;
      each : (i : ℕ) → i < l.code-index → IsPowerOf k.ops l.codes l.logs l.powers.items i;
    }
