use Rattle.std.proofs.Common.{length, ◌-◌, ◌≡◌, ◌≢◌, ℕ, ◌<◌, ◌≤◌, slice_index}
use Rattle.ff_fields.specs.Field.{pow_of}
use Rattle.ff_fields.specs.Tables.{AreWrittenTables}
use Rattle.ff_fields.proofs.table.write_powers.Given as goal

abbrev pub invariant-loop-count : goal.invariant-loop-count
invariant-loop-count g l =
    let k = g.K.SmallField.field l.k in
    record {
      codes_long : length l.codes ≡ k.size - 1;
      logs_long : length l.logs ≡ k.size;
      mark : slice_index l.logs 0 ≡ 65535;
      written : AreWrittenTables k.ops l.fn.g l.count l.codes l.logs;
      power_is : l.power ≡ pow_of k.ops l.fn.g l.count;
      not_one : (i : ℕ) → 0 < i → i ≤ l.count → pow_of k.ops l.fn.g i ≢ 1;
      within : l.count ≤ k.size - 1;
    }

abbrev pub decreases-loop-count : goal.decreases-loop-count
decreases-loop-count g l = length l.initial.codes - l.count
