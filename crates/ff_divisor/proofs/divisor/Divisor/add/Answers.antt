use Rattle.std.proofs.Common.{rules, ◌≡◌, ◌<◌, ◌≤◌, ◌-◌, ◌⊎◌, inl, inr, ◌+ℤ◌, ℕ, ℤ, pos, FitsSigned, List, ◌++◌, length, take, drop, get_or, w64, to_z, of_z, ap, ap₂, subst, ◌∙◌, arith}
use Rattle.std.proofs.lemmas.Int.{to_z-of_z}
use Rattle.std.proofs.lemmas.List.{get_or_default, take_rest}
use Rattle.ff_divisor.specs.FormalSums.{IsFormalSum, multiplicity}
use Rattle.ff_divisor.specs.Steps.{IsSumOf}
use Rattle.ff_divisor.proofs.Multiplicities.{multiplicity_at}
use Rattle.ff_divisor.proofs.Steps.{sum_left, sum_right, sum_both, sum_formal, sum_multiplicities}
use Rattle.ff_divisor.proofs.divisor.Divisor.add.Goals as goal
use Rattle.ff_divisor.proofs.divisor.Divisor.add.Goals.{then-loop-i-test+else-j-b, else-loop-i-test}

-- the integers of one place, as the code reads and adds them
module _ (a b a_now b_now : List (ℕ × ℤ)) (i j : ℕ) (a_formal : IsFormalSum a) (b_formal : IsFormalSum b)
    (a_same : a ≡ a_now) (b_same : b ≡ b_now)
    (in_range : (p : ℕ) → FitsSigned w64 (multiplicity p a_now +ℤ multiplicity p b_now))
    (i_less : i < length a) (j_less : j < length b)
    (x_fits : FitsSigned w64 (get_or a i (0, pos 0)).1) (y_fits : FitsSigned w64 (get_or b j (0, pos 0)).1)
    (place : (get_or a i (0, pos 0)).0 ≡ (get_or b j (0, pos 0)).0) where
  sum_fits : FitsSigned w64
      (to_z w64 (of_z w64 (get_or a i (0, pos 0)).1) +ℤ to_z w64 (of_z w64 (get_or b j (0, pos 0)).1))
  sum_fits =
      let x = get_or a i (0, pos 0) in
      let y = get_or b j (0, pos 0) in
      let read : (p : ℕ) → FitsSigned w64 (multiplicity p a +ℤ multiplicity p b) =
      λ p. rw (a_same, b_same) (in_range p) in
      rw (to_z-of_z w64 x.1 x_fits, to_z-of_z w64 y.1 y_fits)
      (subst (FitsSigned w64) (ap₂ (λ u v. u +ℤ v) (multiplicity_at a i (0, pos 0) a_formal i_less)
      (ap (λ p. multiplicity p b) place ∙ multiplicity_at b j (0, pos 0) b_formal j_less)) (read x.0))

  sum_is : to_z w64 (of_z w64
      (to_z w64 (of_z w64 (get_or a i (0, pos 0)).1) +ℤ to_z w64 (of_z w64 (get_or b j (0, pos 0)).1)))
      ≡ (get_or a i (0, pos 0)).1 +ℤ (get_or b j (0, pos 0)).1
  sum_is = to_z-of_z w64 _ sum_fits ∙ ap₂ (λ u v. u +ℤ v) (to_z-of_z w64 (get_or a i (0, pos 0)).1 x_fits)
      (to_z-of_z w64 (get_or b j (0, pos 0)).1 y_fits)

pub loop-i-preserved-then-a-i : goal.loop-i-preserved-then-a-i
loop-i-preserved-then-a-i c =
    let a = c.as_slice-a.result.now in
    let b = c.as_slice-b.result.now in
    let i = c.loop-i.i in
    let j = c.loop-i.j in
    let x = get_or a i (0, pos 0) in
    let y = get_or b j (0, pos 0) in
    let a_formal : IsFormalSum a = rw c.as_slice-a.ensures.value c.self.invariant in
    let b_formal : IsFormalSum b = rw c.as_slice-b.ensures.value c.other.invariant in
    record {
      sum = sum_left a i b j c.loop-i.sum.items c.push.new.self.items x y a_formal b_formal c.loop-i.invariant.sum
          c.loop-i-test.true (get_or_default a i (0, pos 0) x c.loop-i-test.true) c.if-j-b.true
          (get_or_default b j (0, pos 0) y c.if-j-b.true) (a_formal.nonzero i (0, pos 0) c.loop-i-test.true)
          c.if-a-i.true c.in_ok-push.ensures.items;
      i_in = omega arith;
      j_in = omega arith;
    }

pub loop-i-preserved-then-b-j : goal.loop-i-preserved-then-b-j
loop-i-preserved-then-b-j c =
    let a = c.as_slice-a.result.now in
    let b = c.as_slice-b.result.now in
    let i = c.loop-i.i in
    let j = c.loop-i.j in
    let x = get_or a i (0, pos 0) in
    let y = get_or b j (0, pos 0) in
    let a_formal : IsFormalSum a = rw c.as_slice-a.ensures.value c.self.invariant in
    let b_formal : IsFormalSum b = rw c.as_slice-b.ensures.value c.other.invariant in
    record {
      sum = sum_right a i b j c.loop-i.sum.items c.push-then-b-j.new.self.items x y a_formal b_formal
          c.loop-i.invariant.sum c.loop-i-test.true (get_or_default a i (0, pos 0) x c.loop-i-test.true) c.if-j-b.true
          (get_or_default b j (0, pos 0) y c.if-j-b.true) (b_formal.nonzero j (0, pos 0) c.if-j-b.true)
          c.if-b-j.true c.in_ok-push-2.ensures.items;
      i_in = omega arith;
      j_in = omega arith;
    }

pub overflow_add-a : goal.overflow_add-a
overflow_add-a c =
    let a = c.as_slice-a.result.now in
    let b = c.as_slice-b.result.now in
    let a_formal : IsFormalSum a = rw c.as_slice-a.ensures.value c.self.invariant in
    let b_formal : IsFormalSum b = rw c.as_slice-b.ensures.value c.other.invariant in
    let x_fits : FitsSigned w64 (get_or a c.loop-i.i (0, pos 0)).1 = search rules in
    let y_fits : FitsSigned w64 (get_or b c.loop-i.j (0, pos 0)).1 = search rules in
    sum_fits a b c.args.self.now c.args.other.now c.loop-i.i c.loop-i.j a_formal b_formal
    (c.as_slice-a.ensures.value ∙ c.self.view_is) (c.as_slice-b.ensures.value ∙ c.other.view_is) c.requires.in_range
    c.loop-i-test.true c.if-j-b.true x_fits y_fits (omega arith)

pub loop-i-preserved : goal.loop-i-preserved
loop-i-preserved c =
    let a = c.as_slice-a.result.now in
    let b = c.as_slice-b.result.now in
    let i = c.loop-i.i in
    let j = c.loop-i.j in
    let x = get_or a i (0, pos 0) in
    let y = get_or b j (0, pos 0) in
    let a_formal : IsFormalSum a = rw c.as_slice-a.ensures.value c.self.invariant in
    let b_formal : IsFormalSum b = rw c.as_slice-b.ensures.value c.other.invariant in
    let x_fits : FitsSigned w64 x.1 = search rules in
    let y_fits : FitsSigned w64 y.1 = search rules in
    let place : x.0 ≡ y.0 = omega arith in
    record {
      sum = sum_both a i b j c.loop-i.sum.items c.push_entry.new.list.items x y a_formal b_formal
          c.loop-i.invariant.sum c.loop-i-test.true (get_or_default a i (0, pos 0) x c.loop-i-test.true) c.if-j-b.true
          (get_or_default b j (0, pos 0) y c.if-j-b.true)
          (to_z w64 (of_z w64 (to_z w64 (of_z w64 x.1) +ℤ to_z w64 (of_z w64 y.1))))
          (sum_is a b c.args.self.now c.args.other.now i j a_formal b_formal
          (c.as_slice-a.ensures.value ∙ c.self.view_is) (c.as_slice-b.ensures.value ∙ c.other.view_is)
          c.requires.in_range c.loop-i-test.true c.if-j-b.true x_fits
          y_fits place) place c.in_ok-push_entry.ensures;
      i_in = omega arith;
      j_in = omega arith;
    }

-- what is left of both lists was written behind
module _ (a b a_items b_items sum part all : List (ℕ × ℤ)) (i j : ℕ) (a_is : a ≡ a_items) (b_is : b ≡ b_items)
    (a_formal : IsFormalSum a_items) (b_formal : IsFormalSum b_items) (kept : IsSumOf a i b j sum)
    (ended : (length a ≤ i) ⊎ (length b ≤ j)) (part_is : part ≡ sum ++ take (length a - i) (drop i a))
    (all_is : all ≡ part ++ take (length b - j) (drop j b)) where
  all_of : all ≡ (sum ++ drop i a) ++ drop j b
  all_of = all_is ∙ ap₂ (λ u v. u ++ v) (part_is ∙ ap (λ w. sum ++ w) (take_rest a i)) (take_rest b j)

  all_formal : IsFormalSum all
  all_formal = rw all_of (sum_formal a i b j sum (rw a_is a_formal) (rw b_is b_formal) kept ended)

  all_multiplicities : (p : ℕ) → multiplicity p all ≡ multiplicity p a_items +ℤ multiplicity p b_items
  all_multiplicities p =
      ap (multiplicity p) all_of ∙ sum_multiplicities a i b j sum (rw a_is a_formal) (rw b_is b_formal) kept ended p
      ∙ ap₂ (λ u v. multiplicity p u +ℤ multiplicity p v) a_is b_is

pub invariant_of-result : goal.invariant_of-result
invariant_of-result c =
    let ended : (length c.as_slice-a.result.now ≤ c.loop-i.i) ⊎ (length c.as_slice-b.result.now ≤ c.loop-i.j) =
    elim c.loop-i-test.branch [
      | then-loop-i-test+else-j-b w ↦ inr w.if-j-b.false
      | else-loop-i-test w ↦ inl w.loop-i-test.false
    ] in
    all_formal c.as_slice-a.result.now c.as_slice-b.result.now c.self.inside.list.items c.other.inside.list.items
    c.loop-i.sum.items c.extend_from_slice.new.self.items c.extend_from_slice-2.new.self.items c.loop-i.i c.loop-i.j
    c.as_slice-a.ensures.value c.as_slice-b.ensures.value c.self.invariant c.other.invariant c.loop-i.invariant.sum
    ended c.in_ok-extend_from_slice.ensures.items c.in_ok-extend_from_slice-2.ensures.items

pub returns-clause-multiplicities : goal.returns-clause-multiplicities
returns-clause-multiplicities c = λ p.
    let ended : (length c.as_slice-a.result.now ≤ c.loop-i.i) ⊎ (length c.as_slice-b.result.now ≤ c.loop-i.j) =
    elim c.loop-i-test.branch [
      | then-loop-i-test+else-j-b w ↦ inr w.if-j-b.false
      | else-loop-i-test w ↦ inl w.loop-i-test.false
    ] in
    all_multiplicities c.as_slice-a.result.now c.as_slice-b.result.now c.self.inside.list.items
    c.other.inside.list.items c.loop-i.sum.items c.extend_from_slice.new.self.items
    c.extend_from_slice-2.new.self.items c.loop-i.i c.loop-i.j c.as_slice-a.ensures.value c.as_slice-b.ensures.value
    c.self.invariant c.other.invariant c.loop-i.invariant.sum ended c.in_ok-extend_from_slice.ensures.items
    c.in_ok-extend_from_slice-2.ensures.items p
    ∙ ap₂ (λ u v. multiplicity p u +ℤ multiplicity p v) c.self.view_is c.other.view_is

pub returns-clause-formal : goal.returns-clause-formal
returns-clause-formal c = invariant_of-result c
