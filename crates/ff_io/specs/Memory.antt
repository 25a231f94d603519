-- Sources and sinks that lie in memory, with calls that fail where they are told to.
use Rattle.std.specs.Prelude.{◌≡◌, ℕ, ◌-◌, ◌^◌, ◌<◌, List, [], length, drop, Option, Some, None, ◌&&◌, ◌==◌, nat_lt, if◌then◌else◌}
use Rattle.std.proofs.Common.{arith}
use Rattle.std.proofs.lemmas.Bool.Decides.{nat_tests}
use Rattle.std.proofs.lemmas.Option.{cond_some}

-- the bytes, the place of the next, the number of calls so far, the numbers of the calls that fail (from 1), the number
-- of faults, and the most bytes that one call moves
pub record SourceState : Type 0 where
  pub bytes : List ℕ
  pub place : ℕ
  pub calls : ℕ
  pub failing : List ℕ
  pub faults : ℕ
  pub step : ℕ

-- the bytes taken, and the most that it takes; the others as of a source
pub record SinkState : Type 0 where
  pub taken : List ℕ
  pub room : ℕ
  pub calls : ℕ
  pub failing : List ℕ
  pub faults : ℕ
  pub step : ℕ

-- the bytes still to come
abbrev pub left_of : SourceState → Option (List ℕ)
left_of s = Some (drop s.place s.bytes)

-- no call fails, and a fault would be counted
abbrev pub IsSteady : SourceState → Type 0
IsSteady s = (s.failing ≡ []) × (s.faults < 2 ^ 64 - 1)

-- the bytes for which there is room, where no call fails but for want of room, and a fault would be counted
abbrev pub free_of : SinkState → Option ℕ
free_of s = if length s.failing == 0 && nat_lt s.faults (2 ^ 64 - 1) then Some (s.room - length s.taken) else None

-- a sink that tells its room has room for a fault in its count
pub free_below : (s : SinkState) (f : ℕ) → free_of s ≡ Some f → s.faults < 2 ^ 64 - 1
free_below s f told =
    let test = cond_some (length s.failing == 0 && nat_lt s.faults (2 ^ 64 - 1)) (s.room - length s.taken) f told in
    grind (arith, nat_tests)
