use Rattle.std.proofs.Common.{◌<◌, ◌≤◌, [], length, get_or, map, sym, ap, ◌∙◌, subst, arith, All}
use Rattle.std.proofs.lemmas.List.{length-map, take_all}
use Rattle.ff_poly.specs.Popov.{rows_of, IsRow}
use Rattle.ff_lattice.specs.Quotients.{QuotientValue, spread}
use Rattle.ff_lattice.proofs.QuotientLaws.{products_in}
use Rattle.ff_lattice.proofs.QuotientSteps.{read_matrix, rows_more}
use Rattle.ff_lattice.proofs.quotient.Quotient.multiples.Goals as goal

pub spread-requires-clause-rows_in : goal.spread-requires-clause-rows_in
spread-requires-clause-rows_in g c =
    let k = g.K.SmallField.field c.args.k.now in
    let q = c.args.self.now in
    let ms = c.self.inside.products.items in
    let products = ap (λ (q : QuotientValue). q.products) c.self.view_is in
    let less : c.loop-i.i < length ms = omega arith in
    let in_n : c.loop-i.i < q.p.n = omega
    (arith, less, length-map ms (λ m. rows_of m.items), ap length products, c.requires.over.frame.products_size)
    in
    let is = ap rows_of c.deref.ensures.value ∙ read_matrix ms c.loop-i.i c.index.result.now less c.index.ensures
    ∙ ap (λ xs. get_or xs c.loop-i.i []) products in
    subst (All (IsRow k.ops q.p.n)) (sym is) (products_in k q c.requires.over.frame c.loop-i.i in_n)

pub spread-requires-clause-rows_size : goal.spread-requires-clause-rows_size
spread-requires-clause-rows_size g c =
    let q = c.args.self.now in
    let ms = c.self.inside.products.items in
    let products = ap (λ (q : QuotientValue). q.products) c.self.view_is in
    let less : c.loop-i.i < length ms = omega arith in
    let in_n : c.loop-i.i < q.p.n = omega
    (arith, less, length-map ms (λ m. rows_of m.items), ap length products, c.requires.over.frame.products_size)
    in
    let is = ap rows_of c.deref.ensures.value ∙ read_matrix ms c.loop-i.i c.index.result.now less c.index.ensures
    ∙ ap (λ xs. get_or xs c.loop-i.i []) products in
    sym (length-map c.deref.result.now (λ v. v.items)) ∙ ap length is
    ∙ c.requires.over.frame.products_each c.loop-i.i in_n

pub loop-i-preserved : goal.loop-i-preserved
loop-i-preserved g c =
    let k = g.K.SmallField.field c.args.k.now in
    let q = c.args.self.now in
    let ms = c.self.inside.products.items in
    let products = ap (λ (q : QuotientValue). q.products) c.self.view_is in
    let less : c.loop-i.i < length ms = omega arith in
    let in_products : c.loop-i.i < length q.products = omega
    (arith, less, length-map ms (λ m. rows_of m.items), ap length products) in
    let is = ap rows_of c.deref.ensures.value ∙ read_matrix ms c.loop-i.i c.index.result.now less c.index.ensures
    ∙ ap (λ xs. get_or xs c.loop-i.i []) products in
    rows_more (λ rows. spread k.ops q rows c.args.b.now) q.products c.loop-i.multiples.items c.push.new.self.items
    c.in_ok-spread.field-0 c.loop-i.i (rows_of c.deref.result.now) in_products
    is c.in_ok-spread.ensures c.in_ok-push.ensures.items c.loop-i.invariant

pub returns : goal.returns
returns g c =
    let k = g.K.SmallField.field c.args.k.now in
    let q = c.args.self.now in
    let ms = c.self.inside.products.items in
    let products = ap (λ (q : QuotientValue). q.products) c.self.view_is in
    let done : length q.products ≤ c.loop-i.i = omega (arith, length-map ms (λ m. rows_of m.items), ap length products)
    in
    c.loop-i.invariant ∙ ap (map (λ rows. spread k.ops q rows c.args.b.now)) (take_all c.loop-i.i q.products done)
