use Rattle.std.proofs.Common.{◌≡◌, ◌*◌, List, ℕ, length, sym, subst, ◌↔◌, arith}
use Rattle.std.proofs.lemmas.List.{take_at}
use Rattle.ff_linalg.proofs.elimination.echelon.Goals as goal
use Rattle.ff_fields.specs.Over.{IsOver}
use Rattle.ff_linalg.specs.Matrix.{rows_in, IsMatrixOver, HasShape}
use Rattle.ff_linalg.specs.Forms.{HaveSameSpace}
use Rattle.ff_linalg.specs.Space.{IsInRowSpace, IsReducedForm}
use Rattle.ff_linalg.proofs.Views.{view_of}
use Rattle.ff_linalg.proofs.Reduction.{reduced_start}
use Rattle.ff_linalg.proofs.Bridge.{form_of_codes}
use Rattle.ff_linalg.proofs.Reduced.{entries_over, reduced_shape, reduced_over, reduced_space}

pub reduce-requires-clause-entries_in : goal.reduce-requires-clause-entries_in
reduce-requires-clause-entries_in g c =
    let k = g.K.SmallField.field c.args.k.now in
    subst (IsOver k.ops) (sym c.as_mut_slice.ensures.value)
    (entries_over k c.a.inside.cols c.a.inside.rows c.a.inside.entries.items c.args.a.now c.a.view_is c.requires
    c.a.invariant)

pub reduce-requires-clause-reduced : goal.reduce-requires-clause-reduced
reduce-requires-clause-reduced g c = reduced_start (g.K.SmallField.field c.args.k.now) _

pub returns-clause-shape : goal.returns-clause-shape
returns-clause-shape g c =
    let k = g.K.SmallField.field c.args.k.now in
    let new = c.reduce.new.entries in
    let long : length new ≡ c.a.inside.rows * c.a.inside.cols = omega (arith, c.a.invariant) in
    subst (λ xs. HasShape (view_of c.a.inside.cols c.a.inside.rows xs) (length c.args.a.now.rows) c.args.a.now.cols)
    (sym (take_at new _ _ (omega arith)))
    (reduced_shape k c.a.inside.cols c.a.inside.rows c.a.inside.entries.items new c.args.a.now c.a.view_is c.requires
    c.a.invariant long c.reduce.ensures.over)

pub returns-clause-over : goal.returns-clause-over
returns-clause-over g c =
    let k = g.K.SmallField.field c.args.k.now in
    let new = c.reduce.new.entries in
    let long : length new ≡ c.a.inside.rows * c.a.inside.cols = omega (arith, c.a.invariant) in
    subst (λ xs. IsMatrixOver k.ops (view_of c.a.inside.cols c.a.inside.rows xs)) (sym (take_at new _ _ (omega arith)))
    (reduced_over k c.a.inside.cols c.a.inside.rows c.a.inside.entries.items new c.args.a.now c.a.view_is c.requires
    c.a.invariant long c.reduce.ensures.over)

pub returns-clause-reduced : goal.returns-clause-reduced
returns-clause-reduced g c =
    let k = g.K.SmallField.field c.args.k.now in
    let new = c.reduce.new.entries in
    let long : length new ≡ c.a.inside.rows * c.a.inside.cols = omega (arith, c.a.invariant) in
    let over = reduced_over k c.a.inside.cols c.a.inside.rows c.a.inside.entries.items new c.args.a.now c.a.view_is
    c.requires c.a.invariant long c.reduce.ensures.over in
    subst (λ xs. IsReducedForm k.ops (view_of c.a.inside.cols c.a.inside.rows xs) c.reduce.result)
    (sym (take_at new _ _ (omega arith)))
    (form_of_codes k (view_of c.a.inside.cols c.a.inside.rows new) c.reduce.result over.each c.reduce.ensures.reduced)

pub returns-clause-row_space : goal.returns-clause-row_space
returns-clause-row_space g c =
    let k = g.K.SmallField.field c.args.k.now in
    let new = c.reduce.new.entries in
    let long : length new ≡ c.a.inside.rows * c.a.inside.cols = omega (arith, c.a.invariant) in
    let same = subst (λ xs. HaveSameSpace k c.a.inside.cols (rows_in c.a.inside.cols c.a.inside.rows new)
    (rows_in c.a.inside.cols c.a.inside.rows xs))
    c.as_mut_slice.ensures.value c.reduce.ensures.same in
    subst (λ xs. (w : List ℕ) → IsInRowSpace k.ops (view_of c.a.inside.cols c.a.inside.rows xs) w
    ↔ IsInRowSpace k.ops c.args.a.now w) (sym (take_at new _ _ (omega arith)))
    (reduced_space k c.a.inside.cols c.a.inside.rows c.a.inside.entries.items new c.args.a.now c.a.view_is c.requires
    c.a.invariant long c.reduce.ensures.over same)
