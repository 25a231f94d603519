use Rattle.std.proofs.Common.{◌≡◌, ℕ, ◌-◌, ◌<◌, length, slice_index}
use Rattle.ff_fields.specs.Tables.{HasPowers}
use Rattle.ff_fields.proofs.table.generator.Given as goal

abbrev pub invariant-loop-g : goal.invariant-loop-g
invariant-loop-g g l =
    let k = g.K.SmallField.field l.k in
    record {
      codes_long : length l.codes ≡ k.size - 1;
      logs_long : length l.logs ≡ k.size;
      mark : slice_index l.logs 0 ≡ 65535;
      none : (h : ℕ) → 0 < h → h < l.g → ¬ HasPowers k.ops h (k.size - 1);
    }
