use Rattle.std.proofs.Common.{◌≡◌, length, map, sym, ap, ◌∙◌, subst, All}
use Rattle.std.proofs.lemmas.List.{length-map}
use Rattle.ff_poly.specs.Popov.{rows_of, IsRow, IsPopovMatrix}
use Rattle.ff_lattice.specs.Lattices.{LatticeValue}
use Rattle.ff_lattice.specs.Quotients.{QuotientValue, spread}
use Rattle.ff_lattice.proofs.QuotientLaws.{multiples_in, multiples_size, product_row, codes_read}
use Rattle.ff_lattice.proofs.quotient.QuotientFiniteAlgebra.mul.Goals as goal

pub spread-requires-clause-rows_in : goal.spread-requires-clause-rows_in
spread-requires-clause-rows_in g c =
    let k = g.K.SmallField.field c.args.k.now in
    let q = c.args.self.now in
    let a = c.args.a.now in
    let b = c.args.b.now in
    let h = c.requires.over.quotient.frame in
    let ms = map (λ rows. spread k.ops q rows b) q.products in
    let ms_is = ap rows_of c.deref.ensures.value ∙ c.in_ok-multiples.ensures in
    subst (All (IsRow k.ops q.p.n)) (sym ms_is) (multiples_in k q h b c.requires.b_in.over)

pub spread-requires-clause-rows_size : goal.spread-requires-clause-rows_size
spread-requires-clause-rows_size g c =
    let k = g.K.SmallField.field c.args.k.now in
    let q = c.args.self.now in
    let a = c.args.a.now in
    let b = c.args.b.now in
    let h = c.requires.over.quotient.frame in
    let ms = map (λ rows. spread k.ops q rows b) q.products in
    let ms_is = ap rows_of c.deref.ensures.value ∙ c.in_ok-multiples.ensures in
    sym (length-map c.deref.result.now (λ v. v.items)) ∙ ap length ms_is ∙ multiples_size k q h b

pub read_codes-requires-clause-row_in : goal.read_codes-requires-clause-row_in
read_codes-requires-clause-row_in g c =
    let k = g.K.SmallField.field c.args.k.now in
    let q = c.args.self.now in
    let a = c.args.a.now in
    let b = c.args.b.now in
    let h = c.requires.over.quotient.frame in
    let ms = map (λ rows. spread k.ops q rows b) q.products in
    let ms_is = ap rows_of c.deref.ensures.value ∙ c.in_ok-multiples.ensures in
    let made = spread k.ops q ms a in
    let row_is = c.deref_mut.ensures.value ∙ c.in_ok-row.ensures ∙ ap (λ rows. spread k.ops q rows a) ms_is in
    let made_in : IsRow k.ops q.p.n made = (product_row k q h a b c.requires.a_in c.requires.b_in).0 in
    let size : length c.deref_mut.result.now ≡ q.p.n = ap length row_is ∙ made_in.size in
    let order_is = c.rows-rows.ensures.rows
    ∙ ap (λ (l : LatticeValue). l.rows) (c.lattice.ensures ∙ ap (λ (q : QuotientValue). q.order) c.self.view_is)
    in
    let ideal_is = ap rows_of c.deref-2.ensures.value ∙ ap (λ (q : QuotientValue). q.rows) c.self.view_is in
    subst (λ m. IsRow k.ops m c.deref_mut.result.now) (sym size) (subst (IsRow k.ops q.p.n) (sym row_is) made_in)

pub read_codes-requires-clause-order_in : goal.read_codes-requires-clause-order_in
read_codes-requires-clause-order_in g c =
    let k = g.K.SmallField.field c.args.k.now in
    let q = c.args.self.now in
    let a = c.args.a.now in
    let b = c.args.b.now in
    let h = c.requires.over.quotient.frame in
    let ms = map (λ rows. spread k.ops q rows b) q.products in
    let ms_is = ap rows_of c.deref.ensures.value ∙ c.in_ok-multiples.ensures in
    let made = spread k.ops q ms a in
    let row_is = c.deref_mut.ensures.value ∙ c.in_ok-row.ensures ∙ ap (λ rows. spread k.ops q rows a) ms_is in
    let made_in : IsRow k.ops q.p.n made = (product_row k q h a b c.requires.a_in c.requires.b_in).0 in
    let size : length c.deref_mut.result.now ≡ q.p.n = ap length row_is ∙ made_in.size in
    let order_is = c.rows-rows.ensures.rows
    ∙ ap (λ (l : LatticeValue). l.rows) (c.lattice.ensures ∙ ap (λ (q : QuotientValue). q.order) c.self.view_is)
    in
    let ideal_is = ap rows_of c.deref-2.ensures.value ∙ ap (λ (q : QuotientValue). q.rows) c.self.view_is in
    subst (λ m. All (IsRow k.ops m) (rows_of c.rows-rows.result.now)) (sym size)
    (subst (All (IsRow k.ops q.p.n)) (sym order_is) h.order.lattice.rows_in)

pub read_codes-requires-clause-order_popov : goal.read_codes-requires-clause-order_popov
read_codes-requires-clause-order_popov g c =
    let k = g.K.SmallField.field c.args.k.now in
    let q = c.args.self.now in
    let a = c.args.a.now in
    let b = c.args.b.now in
    let h = c.requires.over.quotient.frame in
    let ms = map (λ rows. spread k.ops q rows b) q.products in
    let ms_is = ap rows_of c.deref.ensures.value ∙ c.in_ok-multiples.ensures in
    let made = spread k.ops q ms a in
    let row_is = c.deref_mut.ensures.value ∙ c.in_ok-row.ensures ∙ ap (λ rows. spread k.ops q rows a) ms_is in
    let made_in : IsRow k.ops q.p.n made = (product_row k q h a b c.requires.a_in c.requires.b_in).0 in
    let size : length c.deref_mut.result.now ≡ q.p.n = ap length row_is ∙ made_in.size in
    let order_is = c.rows-rows.ensures.rows
    ∙ ap (λ (l : LatticeValue). l.rows) (c.lattice.ensures ∙ ap (λ (q : QuotientValue). q.order) c.self.view_is)
    in
    let ideal_is = ap rows_of c.deref-2.ensures.value ∙ ap (λ (q : QuotientValue). q.rows) c.self.view_is in
    subst (λ m. IsPopovMatrix m (rows_of c.rows-rows.result.now)) (sym size)
    (subst (IsPopovMatrix q.p.n) (sym order_is) h.order.lattice.popov)

pub read_codes-requires-clause-ideal_in : goal.read_codes-requires-clause-ideal_in
read_codes-requires-clause-ideal_in g c =
    let k = g.K.SmallField.field c.args.k.now in
    let q = c.args.self.now in
    let a = c.args.a.now in
    let b = c.args.b.now in
    let h = c.requires.over.quotient.frame in
    let ms = map (λ rows. spread k.ops q rows b) q.products in
    let ms_is = ap rows_of c.deref.ensures.value ∙ c.in_ok-multiples.ensures in
    let made = spread k.ops q ms a in
    let row_is = c.deref_mut.ensures.value ∙ c.in_ok-row.ensures ∙ ap (λ rows. spread k.ops q rows a) ms_is in
    let made_in : IsRow k.ops q.p.n made = (product_row k q h a b c.requires.a_in c.requires.b_in).0 in
    let size : length c.deref_mut.result.now ≡ q.p.n = ap length row_is ∙ made_in.size in
    let order_is = c.rows-rows.ensures.rows
    ∙ ap (λ (l : LatticeValue). l.rows) (c.lattice.ensures ∙ ap (λ (q : QuotientValue). q.order) c.self.view_is)
    in
    let ideal_is = ap rows_of c.deref-2.ensures.value ∙ ap (λ (q : QuotientValue). q.rows) c.self.view_is in
    subst (λ m. All (IsRow k.ops m) (rows_of c.deref-2.result.now)) (sym size)
    (subst (All (IsRow k.ops q.p.n)) (sym ideal_is) h.rows_in)

pub read_codes-requires-clause-ideal_popov : goal.read_codes-requires-clause-ideal_popov
read_codes-requires-clause-ideal_popov g c =
    let k = g.K.SmallField.field c.args.k.now in
    let q = c.args.self.now in
    let a = c.args.a.now in
    let b = c.args.b.now in
    let h = c.requires.over.quotient.frame in
    let ms = map (λ rows. spread k.ops q rows b) q.products in
    let ms_is = ap rows_of c.deref.ensures.value ∙ c.in_ok-multiples.ensures in
    let made = spread k.ops q ms a in
    let row_is = c.deref_mut.ensures.value ∙ c.in_ok-row.ensures ∙ ap (λ rows. spread k.ops q rows a) ms_is in
    let made_in : IsRow k.ops q.p.n made = (product_row k q h a b c.requires.a_in c.requires.b_in).0 in
    let size : length c.deref_mut.result.now ≡ q.p.n = ap length row_is ∙ made_in.size in
    let order_is = c.rows-rows.ensures.rows
    ∙ ap (λ (l : LatticeValue). l.rows) (c.lattice.ensures ∙ ap (λ (q : QuotientValue). q.order) c.self.view_is)
    in
    let ideal_is = ap rows_of c.deref-2.ensures.value ∙ ap (λ (q : QuotientValue). q.rows) c.self.view_is in
    subst (λ m. IsPopovMatrix m (rows_of c.deref-2.result.now)) (sym size) (subst (IsPopovMatrix q.p.n) (sym ideal_is) h.rows_popov)

pub returns : goal.returns
returns g c =
    let k = g.K.SmallField.field c.args.k.now in
    let q = c.args.self.now in
    let a = c.args.a.now in
    let b = c.args.b.now in
    let h = c.requires.over.quotient.frame in
    let ms = map (λ rows. spread k.ops q rows b) q.products in
    let ms_is = ap rows_of c.deref.ensures.value ∙ c.in_ok-multiples.ensures in
    let made = spread k.ops q ms a in
    let row_is = c.deref_mut.ensures.value ∙ c.in_ok-row.ensures ∙ ap (λ rows. spread k.ops q rows a) ms_is in
    let made_in : IsRow k.ops q.p.n made = (product_row k q h a b c.requires.a_in c.requires.b_in).0 in
    let size : length c.deref_mut.result.now ≡ q.p.n = ap length row_is ∙ made_in.size in
    let order_is = c.rows-rows.ensures.rows
    ∙ ap (λ (l : LatticeValue). l.rows) (c.lattice.ensures ∙ ap (λ (q : QuotientValue). q.order) c.self.view_is)
    in
    let ideal_is = ap rows_of c.deref-2.ensures.value ∙ ap (λ (q : QuotientValue). q.rows) c.self.view_is in
    codes_read k q (length c.deref_mut.result.now) c.self.inside.depth (rows_of c.rows-rows.result.now)
    (rows_of c.deref-2.result.now) c.deref_mut.result.now made c.in_ok-codes.codes.items
    size order_is ideal_is (ap (λ (q : QuotientValue). q.depth) c.self.view_is) row_is c.in_ok-codes.ensures
