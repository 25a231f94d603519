use Rattle.std.proofs.Common.{ℕ, List, subst, length}
use Rattle.ff_space.specs.Steps.{AreLeastNumerators, IsEchelonBasisOf, IsLongest, vector_rows}
use Rattle.ff_space.proofs.PrintedSpaces.{printed_space}
use Rattle.ff_space.proofs.space.span.Goals as goal

pub returns : goal.returns
returns g c =
    let k = g.K.SmallField.field c.args.k.now in
    let p = c.args.p.now in
    let zs = c.args.zs.now in
    let ws = c.in_ok-num.num.items in
    let den = c.in_ok-num.den in
    let width = c.longest-width.result in
    let rows = c.in_ok-rows.rows in
    printed_space k p c.requires.positive zs ws den
    (subst (λ n. AreLeastNumerators k n zs ws den) c.n.ensures.n c.in_ok-num.ensures) width
    (subst (λ (vs : List (List ℕ)). IsLongest vs width) c.as_slice.ensures.value c.longest-width.ensures) rows
    (subst (λ (vs : List (List ℕ)). IsEchelonBasisOf k (vector_rows vs (length zs) p.n width) rows)
    c.as_slice-2.ensures.value
    (subst (λ n. IsEchelonBasisOf k (vector_rows c.as_slice-2.result.now (length zs) n width) rows) c.n-2.ensures.n
    c.in_ok-rows.ensures))
    c.in_ok-functions.functions.items c.in_ok-functions.ensures
