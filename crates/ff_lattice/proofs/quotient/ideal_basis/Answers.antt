use Rattle.std.proofs.Common.{◌≡◌, ◌++◌, get_or, sym, ap, ◌∙◌, subst, All}
use Rattle.std.specs.Prelude.{MatchOption}
use Rattle.ff_poly.specs.Popov.{rows_of, IsRow, IsPopovMatrix, HaveSameRowSpan, HasFullRankMatrix}
use Rattle.function_field.specs.Values.{IsElem, function_of}
use Rattle.ff_lattice.specs.Lattices.{Contains, row_elems}
use Rattle.ff_lattice.specs.Quotients.{IsRowsOf}
use Rattle.ff_lattice.proofs.OrderRows.{rows_members}
use Rattle.ff_lattice.proofs.SumsAndProducts.{rows_elems}
use Rattle.ff_lattice.proofs.QuotientSteps.{rows_are_rows, ideal_rank, ideal_members}
use Rattle.ff_lattice.proofs.quotient.ideal_basis.Goals as goal

pub rows_over-requires-clause-zs_in : goal.rows_over-requires-clause-zs_in
rows_over-requires-clause-zs_in g c =
    let k = g.K.SmallField.field c.args.k.now in
    let p = c.args.p.now in
    let l = c.args.l.now in
    let i = c.args.i.now in
    let lattice = c.requires.ideal.lattice in
    let is : c.deref.result.now ≡ row_elems i = c.deref.ensures.value ∙ c.in_ok-push_rows.ensures.all
    ∙ ap (λ xs. xs ++ row_elems i) c.new-gens.ensures.items in
    subst (All (IsElem k.ops p.n)) (sym is) (rows_elems k p.n i lattice)

pub rows_over-requires-clause-members : goal.rows_over-requires-clause-members
rows_over-requires-clause-members g c =
    let k = g.K.SmallField.field c.args.k.now in
    let p = c.args.p.now in
    let l = c.args.l.now in
    let i = c.args.i.now in
    let lattice = c.requires.ideal.lattice in
    let is : c.deref.result.now ≡ row_elems i = c.deref.ensures.value ∙ c.in_ok-push_rows.ensures.all
    ∙ ap (λ xs. xs ++ row_elems i) c.new-gens.ensures.items in
    subst (All (λ z. Contains k p l (function_of k p z))) (sym is)
    (λ j d less. c.requires.ideal.within (function_of k p (get_or (row_elems i) j d)) (rows_members k p i j d less))

pub popov-requires : goal.popov-requires
popov-requires g c =
    let k = g.K.SmallField.field c.args.k.now in
    let p = c.args.p.now in
    let l = c.args.l.now in
    let i = c.args.i.now in
    let lattice = c.requires.ideal.lattice in
    let is : c.deref.result.now ≡ row_elems i = c.deref.ensures.value ∙ c.in_ok-push_rows.ensures.all
    ∙ ap (λ xs. xs ++ row_elems i) c.new-gens.ensures.items in
    let rows = rows_of c.in_ok-rows.rows.items in
    let h = subst (λ zs. IsRowsOf k p l zs rows) is c.in_ok-rows.ensures in
    subst (λ n. All (IsRow k.ops n) rows) (sym c.n.ensures.n) (rows_are_rows k p l (row_elems i) rows h)

pub unreachable-requires : goal.unreachable-requires
unreachable-requires g c =
    let k = g.K.SmallField.field c.args.k.now in
    let p = c.args.p.now in
    let l = c.args.l.now in
    let i = c.args.i.now in
    let lattice = c.requires.ideal.lattice in
    let is : c.deref.result.now ≡ row_elems i = c.deref.ensures.value ∙ c.in_ok-push_rows.ensures.all
    ∙ ap (λ xs. xs ++ row_elems i) c.new-gens.ensures.items in
    let rows = rows_of c.in_ok-rows.rows.items in
    let h = subst (λ zs. IsRowsOf k p l zs rows) is c.in_ok-rows.ensures in
    let none = subst (λ f. MatchOption f (¬ HasFullRankMatrix k.ops c.n.result rows)
    (λ basis. IsPopovMatrix c.n.result (rows_of basis.items) × All (IsRow k.ops c.n.result) (rows_of basis.items)
    × HaveSameRowSpan k.ops c.n.result rows (rows_of basis.items))) c.in-None.is c.in_ok-popov.ensures in
    subst (λ n. ¬ HasFullRankMatrix k.ops n rows) c.n.ensures.n none
    (ideal_rank k p l c.requires.l_form i lattice rows h c.n.ensures.range.positive)

pub returns-clause-members : goal.returns-clause-members
returns-clause-members g c =
    let k = g.K.SmallField.field c.args.k.now in
    let p = c.args.p.now in
    let l = c.args.l.now in
    let i = c.args.i.now in
    let lattice = c.requires.ideal.lattice in
    let is : c.deref.result.now ≡ row_elems i = c.deref.ensures.value ∙ c.in_ok-push_rows.ensures.all
    ∙ ap (λ xs. xs ++ row_elems i) c.new-gens.ensures.items in
    let rows = rows_of c.in_ok-rows.rows.items in
    let h = subst (λ zs. IsRowsOf k p l zs rows) is c.in_ok-rows.ensures in
    let basis = rows_of c.in-Some.basis.items in
    let found = subst (λ f. MatchOption f (¬ HasFullRankMatrix k.ops c.n.result rows)
    (λ basis. IsPopovMatrix c.n.result (rows_of basis.items) × All (IsRow k.ops c.n.result) (rows_of basis.items)
    × HaveSameRowSpan k.ops c.n.result rows (rows_of basis.items))) c.in-Some.is c.in_ok-popov.ensures in
    ideal_members k p l c.requires.l_form i lattice rows h basis
    (subst (λ n. IsPopovMatrix n basis) c.n.ensures.n found.0) (subst (λ n. All (IsRow k.ops n) basis) c.n.ensures.n found.1)
    (subst (λ n. HaveSameRowSpan k.ops n rows basis) c.n.ensures.n found.2)
