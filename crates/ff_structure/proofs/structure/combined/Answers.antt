use Rattle.std.proofs.Common.{arith, ap, ◌∙◌, ℕ, length}
use Rattle.std.proofs.lemmas.List.{take_at, length-replicate}
use Rattle.ring_lemmas.specs.Lists.{add_lists}
use Rattle.ff_fields.specs.Code.{raw_ring}
use Rattle.linear_theory.specs.Module.{combination}
use Rattle.ff_linalg.specs.Space.{row_ops}
use Rattle.ff_falg.specs.Idempotents.{elements_of}
use Rattle.ff_falg.proofs.RowSteps.{combination_in, zero_first}
use Rattle.ff_structure.proofs.structure.combined.Goals as goal

pub returns : goal.returns
returns g c =
    let k = g.K.SmallField.field c.args.k.now in
    let vs = elements_of c.args.vectors.now in
    let zeros = c.as_mut_slice.ensures.value ∙ c.in_ok-sum.ensures in
    let size = ap length zeros ∙ length-replicate {A = ℕ} c.args.n 0 in
    take_at c.add_combination.new.sum _ c.in_ok-sum.sum.len (omega arith)
    ∙ c.add_combination.ensures
    ∙ ap (λ n. add_lists (raw_ring k.ops) c.as_mut_slice.result.now
    (combination (row_ops k.ops n) c.args.factors.now vs)) size
    ∙ ap (λ xs. add_lists (raw_ring k.ops) xs (combination (row_ops k.ops c.args.n) c.args.factors.now vs)) zeros
    ∙ zero_first k c.args.n _ (combination_in k c.args.n c.args.factors.now vs c.requires.factors_in c.requires.vectors_in)
