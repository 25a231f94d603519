use Rattle.std.proofs.Common.{◌<◌, ◌/◌, ◌∙◌, ◌≤ℤ◌, ℤ, pos, List, length, sym, ap, ap₂, subst, All, mul_comm}
use Rattle.function_field.specs.Divisors.{HasGenus}
use Rattle.function_field.specs.Values.{setting}
use Rattle.linear_theory.specs.Lists.{entry}
use Rattle.reduced_basis_theory.specs.Degree.{degree_sum, genus_sum}
use Rattle.ff_split.specs.Splits.{SplitValue}
use Rattle.ff_rr.proofs.PrintedSpaces.{degrees_count, degrees_small, some_functions, frame_genus, genus_times, all_nonnegative}
use Rattle.ff_rr.proofs.genera.genus.Goals as goal

pub excess-requires-clause-nonnegative : goal.excess-requires-clause-nonnegative
excess-requires-clause-nonnegative g c =
    let k = g.K.SmallField.field c.args.k.now in
    subst (All (λ d. pos 0 ≤ℤ d))
    (sym (c.degrees.ensures ∙ ap (λ (s : SplitValue). s.degrees) c.split.ensures))
    (all_nonnegative k c.args.f.now c.requires.frame c.args.constants.now c.requires.constants c.requires.field)

pub excess-requires-clause-small : goal.excess-requires-clause-small
excess-requires-clause-small g c =
    let k = g.K.SmallField.field c.args.k.now in
    let n = degrees_count k c.args.f.now c.requires.frame c.args.constants.now c.requires.constants in
    subst (λ (ds : List ℤ). degree_sum (length ds) (entry (pos 0) ds) ≤ℤ pos 112)
    (sym (c.degrees.ensures ∙ ap (λ (s : SplitValue). s.degrees) c.split.ensures))
    (subst (λ m. degree_sum m (entry (pos 0) c.args.constants.now.split.degrees) ≤ℤ pos 112) (sym n)
    (degrees_small k c.args.f.now c.requires.frame c.args.constants.now c.requires.constants))

pub nonzero_div-result : goal.nonzero_div-result
nonzero_div-result g c =
    let k = g.K.SmallField.field c.args.k.now in
    subst (λ zs. 0 < length zs) (sym c.functions-dimension.ensures)
    (some_functions k c.args.f.now c.requires.frame c.args.constants.now c.requires.constants c.requires.field)

pub returns-clause-genus : goal.returns-clause-genus
returns-clause-genus g c =
    let k = g.K.SmallField.field c.args.k.now in
    let n = degrees_count k c.args.f.now c.requires.frame c.args.constants.now c.requires.constants in
    let e = c.degrees.ensures ∙ ap (λ (s : SplitValue). s.degrees) c.split.ensures in
    subst (HasGenus (setting k c.args.f.now.curve.fin))
    (sym (ap₂ ◌/◌ (c.excess.ensures ∙ ap (λ (ds : List ℤ). genus_sum (length ds) (entry (pos 0) ds)) e
    ∙ ap (λ m. genus_sum m (entry (pos 0) c.args.constants.now.split.degrees)) n)
    (ap length c.functions-dimension.ensures)))
    (frame_genus k c.args.f.now c.requires.frame c.args.constants.now c.requires.constants c.requires.field)

pub returns-clause-sum : goal.returns-clause-sum
returns-clause-sum g c =
    let k = g.K.SmallField.field c.args.k.now in
    let n = degrees_count k c.args.f.now c.requires.frame c.args.constants.now c.requires.constants in
    let e = c.degrees.ensures ∙ ap (λ (s : SplitValue). s.degrees) c.split.ensures in
    let r =
    subst (HasGenus (setting k c.args.f.now.curve.fin))
    (sym (ap₂ ◌/◌ (c.excess.ensures ∙ ap (λ (ds : List ℤ). genus_sum (length ds) (entry (pos 0) ds)) e
    ∙ ap (λ m. genus_sum m (entry (pos 0) c.args.constants.now.split.degrees)) n)
    (ap length c.functions-dimension.ensures)))
    (frame_genus k c.args.f.now c.requires.frame c.args.constants.now c.requires.constants c.requires.field) in
    mul_comm _ _
    ∙ genus_times k c.args.f.now c.requires.frame c.args.constants.now c.requires.constants c.requires.field
    (c.excess.result / length c.functions-dimension.result.now) r
