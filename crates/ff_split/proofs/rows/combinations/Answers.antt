use Rattle.std.proofs.Common.{List, ℕ, [], ◌∙◌, sym, ap, subst, length, All}
use Rattle.ff_fields.specs.Over.{IsOver}
use Rattle.ff_poly.specs.Popov.{rows_of, IsRow, combination_list}
use Rattle.ff_lattice.proofs.Pushes.{read_all, pushed_rows}
use Rattle.ff_split.proofs.rows.combinations.Goals as goal

pub combined-requires-clause-one_each : goal.combined-requires-clause-one_each
combined-requires-clause-one_each g c =
    let k = g.K.SmallField.field c.args.k.now in
    ap length c.deref.ensures.value ∙ (read_all (IsRow k.ops
    (length c.args.rows.now)) c.args.coefficients.now c.loop-c.c-index
    c.c-item.result c.requires.coefficients_in c.loop-c-test.true c.c-item.is).size

pub combined-requires-clause-coefficients_in : goal.combined-requires-clause-coefficients_in
combined-requires-clause-coefficients_in g c =
    let k = g.K.SmallField.field c.args.k.now in
    subst (All (IsOver k.ops)) (sym c.deref.ensures.value)
    (read_all (IsRow k.ops (length c.args.rows.now)) c.args.coefficients.now c.loop-c.c-index c.c-item.result
    c.requires.coefficients_in c.loop-c-test.true c.c-item.is).over

pub loop-c-preserved : goal.loop-c-preserved
loop-c-preserved g c =
    let k = (g.K.SmallField.field c.args.k.now).ops in
    let f : List (List ℕ) → List (List ℕ) = λ z. combination_list k c.args.n z (rows_of c.args.rows.now) in
    pushed_rows f c.loop-c.out.items c.push.new.self.items [] c.args.coefficients.now c.loop-c.c-index c.c-item.result
    c.in_ok-combined.field-0
    c.loop-c.invariant c.loop-c-test.true c.c-item.is (c.in_ok-combined.ensures ∙ ap f c.deref.ensures.value)
    c.in_ok-push.ensures.items
