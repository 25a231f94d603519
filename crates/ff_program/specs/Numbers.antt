-- The exit statuses.
use Rattle.std.specs.Prelude.{ℕ}
use Rattle.ff_program.specs.declared.status.Status.{Status}
use Rattle.ff_program.specs.declared.status.Status.TheVariants.{Done, Refused, Usage, ReadFault, WriteFault, WantOfMemory, CheckNo}

-- the exit status of a command that ended so
abbrev pub status_number : Status → ℕ
status_number Done = 0
status_number Refused = 1
status_number Usage = 2
status_number ReadFault = 3
status_number WriteFault = 4
status_number WantOfMemory = 5
status_number CheckNo = 6
