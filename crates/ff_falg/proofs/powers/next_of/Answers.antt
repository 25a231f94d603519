use Rattle.std.proofs.Common.{rules, ◌≡◌, length, sym, ap, ◌∙◌, arith}
use Rattle.ff_linalg.specs.Steps.{unit_row}
use Rattle.ff_falg.proofs.powers.next_of.Goals as goal
use Rattle.ff_falg.proofs.UnitRows.{unit_in}

pub returns-then-eq : goal.returns-then-eq
returns-then-eq g c =
    let k = g.K.SmallField.field c.args.k.now in
    let A = g.A.FiniteAlgebra.algebra c.args.a.now in
    let law = g.A.FiniteAlgebra.laws c.args.a.now k c.requires.over in
    let element = c.as_slice.ensures.value ∙ c.in_ok-element.ensures ∙ ap (λ n. unit_row n c.args.j) c.dim.ensures in
    let product = c.in_ok-product.ensures ∙ ap (A.product k.ops c.args.z.now) element in
    let size : length c.in_ok-product.product.items ≡ A.size
    = ap length product ∙ (law.product_in c.args.z.now (unit_row A.size c.args.j) c.requires.z_in
    (unit_in k A.size c.args.j c.requires.within)).size in
    let l : c.len.result ≡ A.size = let e = c.len.ensures in omega (arith, size) in
    let same : c.in_ok-product.product.items ≡ c.in_ok-other.other.items = search rules in
    record {
      within = let b = c.in-Some.ensures in let v = ap length c.as_slice-2.ensures.value in omega arith;
      is = sym product ∙ same ∙ c.in_ok-other.ensures ∙ ap (λ n. unit_row n c.in-Some.i) l;
    }
