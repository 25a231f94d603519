use Rattle.std.proofs.Common.{◌≡◌, ◌≢◌, ℕ, zero, suc, ◌+◌, ◌-◌, ◌<◌, ◌≤◌, ◌⊎◌, arith, inl, inr, subst, eq-or-lt_of_le}
use Rattle.ff_fields.specs.Field.{CodeField}
use Rattle.ff_fields.specs.Tables.{HasPowers}
use Rattle.ff_fields.proofs.TableSteps.{comes_early, none_at_zero}
use Rattle.ff_fields.proofs.table.generator.Goals as goal

none_more : (k : CodeField) (g : ℕ) → ((h : ℕ) → 0 < h → h < g → ¬ HasPowers k.ops h (k.size - 1))
    → ¬ HasPowers k.ops g (k.size - 1) → (h : ℕ) → 0 < h → h < g + 1 → ¬ HasPowers k.ops h (k.size - 1)
none_more k g before here h pos less = let le : h ≤ g = omega arith in go (eq-or-lt_of_le le)
  where
    go : (h ≡ g) ⊎ (h < g) → ¬ HasPowers k.ops h (k.size - 1)
    go (inl e) all = here (subst (λ w. HasPowers k.ops w (k.size - 1)) e all)
    go (inr smaller) all = before h pos smaller all

none_at : (k : CodeField) → ((h : ℕ) → 0 < h → h < k.size → ¬ HasPowers k.ops h (k.size - 1)) → (h : ℕ) → h < k.size
    → ¬ HasPowers k.ops h (k.size - 1)
none_at k none zero h_in all = none_at_zero k none all
none_at k none (suc h) h_in all = none (suc h) (omega arith) h_in all

pub loop-g-preserved : goal.loop-g-preserved
loop-g-preserved g c =
    let k = g.K.SmallField.field c.args.k.now in
    let done = c.write_powers.ensures in
    let g_in : c.loop-g.g < k.size = omega (arith, c.loop-g-test.true, c.size-g-end.ensures) in
    let g_some : c.loop-g.g ≢ 0 = omega (arith, c.loop-g.auto.g) in
    let early : c.write_powers.result < k.size - 1 = omega
    (arith, c.if-write_powers-codes.false, done.within, done.codes_long) in
    record {
      codes_long = done.codes_long;
      logs_long = done.logs_long;
      mark = done.mark;
      none = none_more k c.loop-g.g c.loop-g.invariant.none
          (comes_early k c.loop-g.g g_in g_some c.write_powers.result done.some early done.comes_again);
    }

pub returns-clause-none : goal.returns-clause-none
returns-clause-none g c =
    let k = g.K.SmallField.field c.args.k.now in
    let last : k.size ≤ c.loop-g.g = omega (arith, c.loop-g-test.false, c.size-g-end.ensures) in
    none_at k (λ h pos h_in. c.loop-g.invariant.none h pos (omega (arith, h_in, last)))
