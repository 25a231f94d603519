-- What a call does to the bytes of a stream, where the stream tells them, and to its count of faults.
use Rattle.std.specs.Prelude.{◌≡◌, ℕ, ◌+◌, ◌-◌, ◌^◌, ◌≤◌, min, List, ◌++◌, length, take, drop, Option, Some, IfSome}

-- one more; a count stands still at its last value
abbrev pub next_count : ℕ → ℕ
next_count n = min (n + 1) (2 ^ 64 - 1)

-- A count rose in a call, or stands at its last value.
abbrev pub Rose : ℕ → ℕ → Type 0
Rose before now = next_count before ≤ now

-- the second list goes on from the first
pub record IsPrefix (front whole : List ℕ) : Type 0 where
  pub rest : List ℕ
  pub joined : front ++ rest ≡ whole

-- The first n bytes of the buffer are the first n of those that were left, and the others are left now.
pub record Took (n : ℕ) (buffer before : List ℕ) (now : Option (List ℕ)) : Type 0 where
  pub within : n ≤ length before
  pub same : take n buffer ≡ take n before
  pub others : now ≡ Some (drop n before)

-- A sink that told its bytes has these after them.
abbrev pub Appends : Option (List ℕ) → Option (List ℕ) → List ℕ → Type 0
Appends before now bytes = IfSome before (λ xs. now ≡ Some (xs ++ bytes))

-- A sink that told its bytes has some first part of these after them.
abbrev pub AppendsPart : Option (List ℕ) → Option (List ℕ) → List ℕ → Type 0
AppendsPart before now bytes = (n : ℕ) × (n ≤ length bytes) × Appends before now (take n bytes)

-- A sink that had room for f more bytes has room for n fewer, and had no fault.
pub record Fills (n f : ℕ) (now : Option ℕ) (faults_before faults_now : ℕ) : Type 0 where
  pub room : now ≡ Some (f - n)
  pub faultless : faults_now ≡ faults_before

-- a reader or a writer, with a count of its faults
pub record Counted (T : Type 0) : Type 0 where
  pub inner : T
  pub faults : ℕ
