use Rattle.std.proofs.Common.{◌∷◌, ◌++◌, [], ℕ, ap, ap₂, sym, ◌∙◌, rules, w64}
use Rattle.std.proofs.lemmas.Int.{to_z-of_z}
use Rattle.std.proofs.Math.IntN.{ℤ}
use Rattle.ff_poly.specs.Popov.{rows_of}
use Rattle.split_theory.specs.Splits.{split_degree}
use Rattle.ff_split.proofs.Orders.{tabulate_more}
use Rattle.ff_split.proofs.order.columns.Goals as goal

pub loop-i-preserved : goal.loop-i-preserved
loop-i-preserved c =
    c.in_ok-push.ensures.items
    ∙ ap₂ (λ xs (x : ℤ × ℕ). xs ++ x ∷ []) c.loop-i.invariant
    (ap (λ (d : ℤ). (d, c.loop-i.i)) (to_z-of_z w64 c.in_ok-degree.field-0 (search rules) ∙ c.in_ok-degree.ensures))
    ∙ sym (tabulate_more c.loop-i.i (λ i. (split_degree c.args.u.now (rows_of c.args.rows.now) i, i)))
