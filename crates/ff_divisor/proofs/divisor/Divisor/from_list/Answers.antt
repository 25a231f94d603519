use Rattle.std.proofs.Common.{rules, ◌≡◌, ◌≢◌, ◌<◌, ◌≤◌, ◌-◌, ◌^◌, ◌+ℤ◌, ◌++◌, ◌+◌, ℕ, ℤ, pos, List, length, get_or, IsPermutation, FitsSigned, w64, to_z, of_z, ap, ◌∙◌, arith}
use Rattle.std.specs.Int.{w128}
use Rattle.std.specs.List.Sorted.{IsNonDecreasingBy}
use Rattle.std.proofs.lemmas.Int.{to_z-of_z}
use Rattle.std.proofs.lemmas.List.{get_or_default}
use Rattle.std.proofs.lemmas.List.Sorted.{IsNonDecreasingBy-from_sort_by_key}
use native.Mathlib.Decide.{ℕ_discrete}
use Rattle.ff_divisor.specs.FormalSums.{IsFormalSum, multiplicity}
use Rattle.ff_divisor.specs.Steps.{IsRunAfter, entry_of}
use Rattle.ff_divisor.proofs.Runs.{run_start, run_same, run_other, other_fits, room_more, ended_fits, ended_formal, ended_multiplicities}
use Rattle.ff_divisor.proofs.divisor.Divisor.from_list.Goals as goal

-- an entry of the same place or of a later one, as the code reads it
module _ (entries : List (ℕ × ℤ)) (i : ℕ) (sums : List (ℕ × ℤ)) (run : ℕ × ℤ) (kept : IsRunAfter entries i sums run)
    (less : i < length entries) (fits : FitsSigned w64 (get_or entries i (0, pos 0)).1) where
  same_integer : to_z w64 (of_z w64 (get_or entries i (0, pos 0)).1) ≡ (get_or entries i (0, pos 0)).1
  same_integer = to_z-of_z w64 (get_or entries i (0, pos 0)).1 fits

  has_room : i < 2 ^ 64 - 1 → FitsSigned w128 (run.1 +ℤ to_z w64 (of_z w64 (get_or entries i (0, pos 0)).1))
  has_room small =
      let e = get_or entries i (0, pos 0) in
      rw same_integer (room_more entries i sums run kept e less (get_or_default entries i (0, pos 0) e less) fits small)

  run_more : (new : List (ℕ × ℤ)) (r : ℕ × ℤ) → IsNonDecreasingBy (λ f. f.0) entries
      → (run.0 ≡ (get_or entries i (0, pos 0)).0
      → (r ≡ ((get_or entries i (0, pos 0)).0, run.1 +ℤ to_z w64 (of_z w64 (get_or entries i (0, pos 0)).1)))
      × (new ≡ sums))
      → (run.0 ≢ (get_or entries i (0, pos 0)).0
      → (r ≡ ((get_or entries i (0, pos 0)).0, to_z w64 (of_z w64 (get_or entries i (0, pos 0)).1)))
      × (new ≡ sums ++ entry_of run.0 run.1))
      → IsRunAfter entries (i + 1) new r
  run_more new r rises same other =
      let e = get_or entries i (0, pos 0) in
      let e_is = get_or_default entries i (0, pos 0) e less in
      elim (ℕ_discrete run.0 e.0) [
        | yes place ↦ run_same entries i sums run kept e less e_is new r fits place
            ((same place).0 ∙ ap (λ z. (e.0, run.1 +ℤ z)) same_integer) (same place).1
        | no differ ↦ run_other entries i sums run kept e less e_is rises differ new r fits
            ((other differ).0 ∙ ap (λ z. (e.0, z)) same_integer) (other differ).1
      ]

-- the entries are those of the list
sorted_list : (list copied sorted entries : List (ℕ × ℤ)) → copied ≡ list → IsPermutation copied sorted
    → entries ≡ sorted → IsPermutation list entries
sorted_list list copied sorted entries same permutation entries_are = rw (← same, entries_are) permutation

-- the last run is written
module _ (list copied sorted entries sums : List (ℕ × ℤ)) (i : ℕ) (run : ℕ × ℤ) (same : copied ≡ list)
    (permutation : IsPermutation copied sorted) (entries_are : entries ≡ sorted)
    (in_range : (p : ℕ) → FitsSigned w64 (multiplicity p list)) (kept : IsRunAfter entries i sums run)
    (end : length entries ≤ i) where
  fits : FitsSigned w64 run.1
  fits = ended_fits entries i sums run kept list (sorted_list list copied sorted entries same permutation entries_are)
      in_range end

  wide : FitsSigned w128 run.1
  wide = let narrow = fits in record { sfits = omega arith }

  last_fits : FitsSigned w64 (to_z w128 (of_z w128 run.1))
  last_fits = rw (to_z-of_z w128 run.1 wide) fits

  module _ (new : List (ℕ × ℤ))
      (new_is : new ≡ sums ++ entry_of run.0 (to_z w64 (of_z w64 (to_z w128 (of_z w128 run.1))))) where
    new_of : new ≡ sums ++ entry_of run.0 run.1
    new_of = new_is
        ∙ ap (λ m. sums ++ entry_of run.0 m) (to_z-of_z w64 _ last_fits ∙ to_z-of_z w128 run.1 wide)

    new_formal : IsFormalSum new
    new_formal = rw new_of (ended_formal entries i sums run kept)

    new_multiplicities : (p : ℕ) → multiplicity p new ≡ multiplicity p list
    new_multiplicities p = ap (multiplicity p) new_of
        ∙ ended_multiplicities entries i sums run kept list
        (sorted_list list copied sorted entries same permutation entries_are) end p

pub loop-i-init : goal.loop-i-init
loop-i-init c = rw c.new-sums.ensures.items (run_start c.as_slice-entries.result.now)

pub take_entry-requires-clause-room : goal.take_entry-requires-clause-room
take_entry-requires-clause-room c =
    let fits : FitsSigned w64 (get_or c.as_slice-entries.result.now c.loop-i.i (0, pos 0)).1 = search rules in
    has_room c.as_slice-entries.result.now c.loop-i.i c.loop-i.sums.items c.loop-i.run c.loop-i.invariant
    c.loop-i-test.true fits (omega arith)

pub take_entry-requires-clause-in_range : goal.take_entry-requires-clause-in_range
take_entry-requires-clause-in_range c = λ other.
    let entries = c.as_slice-entries.result.now in
    let e = get_or entries c.loop-i.i (0, pos 0) in
    let rises : IsNonDecreasingBy (λ e. e.0) entries = rw c.as_slice-entries.ensures.value
    (IsNonDecreasingBy-from_sort_by_key (λ e. e.0) _ c.sort_unstable_by_key.ensures.sorted
    (λ a r q k. search rules)) in
    let permutation = sorted_list c.args.list.now c.in_ok-sorted.sorted.items c.sort_unstable_by_key.new.self.items
    entries (c.in_ok-sorted.ensures.items_if_clones_equal (λ x y e. λ i. (e.0 i, e.1 i)))
    c.sort_unstable_by_key.ensures.permutation c.as_slice-entries.ensures.value in
    other_fits entries c.loop-i.i c.loop-i.sums.items c.loop-i.run c.loop-i.invariant e c.loop-i-test.true
    (get_or_default entries c.loop-i.i (0, pos 0) e c.loop-i-test.true) rises other c.args.list.now permutation
    c.requires.in_range

pub loop-i-preserved : goal.loop-i-preserved
loop-i-preserved c =
    let entries = c.as_slice-entries.result.now in
    let fits : FitsSigned w64 (get_or entries c.loop-i.i (0, pos 0)).1 = search rules in
    let rises : IsNonDecreasingBy (λ e. e.0) entries = rw c.as_slice-entries.ensures.value
    (IsNonDecreasingBy-from_sort_by_key (λ e. e.0) _ c.sort_unstable_by_key.ensures.sorted
    (λ a r q k. search rules)) in
    run_more entries c.loop-i.i c.loop-i.sums.items c.loop-i.run c.loop-i.invariant c.loop-i-test.true fits
    c.take_entry.new.sums.items c.in_ok-run.run' rises c.in_ok-run.ensures.same c.in_ok-run.ensures.other

pub overflow_cast-run : goal.overflow_cast-run
overflow_cast-run c =
    last_fits c.args.list.now c.in_ok-sorted.sorted.items c.sort_unstable_by_key.new.self.items
    c.as_slice-entries.result.now c.loop-i.sums.items c.loop-i.i c.loop-i.run
    (c.in_ok-sorted.ensures.items_if_clones_equal (λ x y e. λ i. (e.0 i, e.1 i)))
    c.sort_unstable_by_key.ensures.permutation c.as_slice-entries.ensures.value c.requires.in_range c.loop-i.invariant
    c.loop-i-test.false

pub invariant_of-result : goal.invariant_of-result
invariant_of-result c =
    new_formal c.args.list.now c.in_ok-sorted.sorted.items c.sort_unstable_by_key.new.self.items
    c.as_slice-entries.result.now c.loop-i.sums.items c.loop-i.i c.loop-i.run
    (c.in_ok-sorted.ensures.items_if_clones_equal (λ x y e. λ i. (e.0 i, e.1 i)))
    c.sort_unstable_by_key.ensures.permutation c.as_slice-entries.ensures.value c.requires.in_range c.loop-i.invariant
    c.loop-i-test.false c.push_entry.new.list.items
    c.in_ok-push_entry.ensures

pub returns-clause-multiplicities : goal.returns-clause-multiplicities
returns-clause-multiplicities c =
    new_multiplicities c.args.list.now c.in_ok-sorted.sorted.items c.sort_unstable_by_key.new.self.items
    c.as_slice-entries.result.now c.loop-i.sums.items c.loop-i.i c.loop-i.run
    (c.in_ok-sorted.ensures.items_if_clones_equal (λ x y e. λ i. (e.0 i, e.1 i)))
    c.sort_unstable_by_key.ensures.permutation c.as_slice-entries.ensures.value c.requires.in_range c.loop-i.invariant
    c.loop-i-test.false c.push_entry.new.list.items
    c.in_ok-push_entry.ensures

pub returns-clause-formal : goal.returns-clause-formal
returns-clause-formal c =
    new_formal c.args.list.now c.in_ok-sorted.sorted.items c.sort_unstable_by_key.new.self.items
    c.as_slice-entries.result.now c.loop-i.sums.items c.loop-i.i c.loop-i.run
    (c.in_ok-sorted.ensures.items_if_clones_equal (λ x y e. λ i. (e.0 i, e.1 i)))
    c.sort_unstable_by_key.ensures.permutation c.as_slice-entries.ensures.value c.requires.in_range c.loop-i.invariant
    c.loop-i-test.false c.push_entry.new.list.items
    c.in_ok-push_entry.ensures
