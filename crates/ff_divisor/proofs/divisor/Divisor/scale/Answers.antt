use Rattle.std.proofs.Common.{rules, ◌≡◌, ◌<◌, ◌*ℤ◌, ℕ, ℤ, pos, FitsSigned, List, length, get_or, w64, to_z, of_z, ap, ◌∙◌}
use Rattle.std.proofs.lemmas.Int.{to_z-of_z}
use Rattle.std.proofs.lemmas.List.{get_or_default}
use Rattle.ff_divisor.specs.FormalSums.{IsFormalSum, multiplicity}
use Rattle.ff_divisor.proofs.Multiplicities.{all_integers}
use Rattle.ff_divisor.proofs.Steps.{multiple_start, multiple_step}
use Rattle.ff_divisor.proofs.divisor.Divisor.scale.Goals as goal

pub loop-i-init : goal.loop-i-init
loop-i-init c = rw c.new-multiple.ensures.items (multiple_start _ c.as_slice-list.result.now)

-- the integers that are multiplied, as the code reads them
module _ (list now : List (ℕ × ℤ)) (m : ℤ) (i : ℕ) (formal : IsFormalSum list) (same : list ≡ now)
    (in_range : (p : ℕ) → FitsSigned w64 (m *ℤ multiplicity p now)) (less : i < length list)
    (m_fits : FitsSigned w64 m) (fits : FitsSigned w64 (get_or list i (0, pos 0)).1) where
  product_fits : FitsSigned w64
      (to_z w64 (of_z w64 m) *ℤ to_z w64 (of_z w64 (get_or list i (0, pos 0)).1))
  product_fits = rw (to_z-of_z w64 m m_fits, to_z-of_z w64 (get_or list i (0, pos 0)).1 fits)
      (all_integers (λ z. FitsSigned w64 (m *ℤ z)) list i (0, pos 0) formal (λ p. rw same (in_range p)) less)

  product_is : to_z w64 (of_z w64 (to_z w64 (of_z w64 m) *ℤ to_z w64 (of_z w64 (get_or list i (0, pos 0)).1)))
      ≡ to_z w64 (of_z w64 m) *ℤ (get_or list i (0, pos 0)).1
  product_is = to_z-of_z w64 _ product_fits
      ∙ ap (λ z. to_z w64 (of_z w64 m) *ℤ z) (to_z-of_z w64 (get_or list i (0, pos 0)).1 fits)

pub overflow_mul-m : goal.overflow_mul-m
overflow_mul-m c =
    let list = c.as_slice-list.result.now in
    let same : list ≡ c.args.self.now = c.as_slice-list.ensures.value ∙ c.self.view_is in
    let formal : IsFormalSum list = rw c.as_slice-list.ensures.value c.self.invariant in
    let fits : FitsSigned w64 (get_or list c.loop-i.i (0, pos 0)).1 = search rules in
    product_fits list c.args.self.now c.args.m c.loop-i.i formal same c.requires.in_range
    c.loop-i-test.true c.ranges.m fits

pub loop-i-preserved : goal.loop-i-preserved
loop-i-preserved c =
    let list = c.as_slice-list.result.now in
    let same : list ≡ c.args.self.now = c.as_slice-list.ensures.value ∙ c.self.view_is in
    let formal : IsFormalSum list = rw c.as_slice-list.ensures.value c.self.invariant in
    let entry = get_or list c.loop-i.i (0, pos 0) in
    let fits : FitsSigned w64 entry.1 = search rules in
    multiple_step (to_z w64 (of_z w64 c.args.m)) list c.loop-i.i c.loop-i.multiple.items c.push_entry.new.list.items
    entry _ formal c.loop-i.invariant c.loop-i-test.true
    (get_or_default list c.loop-i.i (0, pos 0) entry c.loop-i-test.true)
    (product_is list c.args.self.now c.args.m c.loop-i.i formal same c.requires.in_range c.loop-i-test.true
    c.ranges.m fits)
    c.in_ok-push_entry.ensures
