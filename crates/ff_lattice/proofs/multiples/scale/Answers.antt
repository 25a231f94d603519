use Rattle.std.proofs.Common.{◌≡◌, length, map, subst, sym, ap₂, All, ◌∙◌}
use Rattle.std.specs.Prelude.{MatchOption, IfSome}
use Rattle.ff_poly.specs.Words.{IsPoly, IsMonicList, product_of, multiple_of}
use Rattle.ff_poly.specs.PolyOver.{IsOver_multiple_of}
use Rattle.ff_poly.specs.Polynomials.{value_not_zero}
use Rattle.ff_poly.specs.Popov.{rows_of, IsRow, HasFullRankMatrix, multiple_of_row}
use Rattle.ff_poly.proofs.Parts.{IsMonic_product}
use Rattle.ff_lattice.specs.Lattices.{IsLatticeValue, IsSpannedBy, elems_over}
use Rattle.ff_lattice.proofs.Membership.{multiples_in}
use Rattle.ff_lattice.proofs.ScaledSets.{made_monic, multiples_poly, scaled_rank, multiple_not_zero, scaled_members}
use Rattle.ff_lattice.proofs.multiples.scale.Goals as goal

pub from_rows-requires-clause-rows_in : goal.from_rows-requires-clause-rows_in
from_rows-requires-clause-rows_in g c =
    let k = g.K.SmallField.field c.args.k.now in
    let a = c.args.a.now in
    let n = length a.rows in
    let num = c.args.num.now in
    let den = c.args.den.now in
    let inverse = c.inv-inverse.result in
    let made = made_monic k den inverse c.top.result c.requires.den_in c.requires.den_some c.inv-inverse.ensures
    c.top.ensures.top c.top.ensures.not_zero in
    let top_in = IsOver_multiple_of k c.requires.num_in made.0 in
    let rows_is : rows_of c.in_ok-rows.rows.items ≡ map (multiple_of_row k.ops (multiple_of k.ops num inverse)) a.rows
    = c.in_ok-rows.ensures ∙ ap₂ (λ t xs. map (multiple_of_row k.ops t) xs) c.in_ok-top.ensures.multiple
    c.rows.ensures.rows in
    let e_is : c.in_ok-e.e ≡ product_of k.ops (multiple_of k.ops den inverse) a.den
    = c.in_ok-e.ensures.product ∙ ap₂ (product_of k.ops) c.in_ok-bottom.ensures.multiple c.den.ensures.den in
    let e_monic : IsMonicList c.in_ok-e.e
    = subst IsMonicList (sym e_is) (IsMonic_product k (multiple_of k.ops den inverse) a.den
    (IsOver_multiple_of k c.requires.den_in made.0) c.requires.a_form.den_in made.1 c.requires.a_form.monic) in
    subst (λ m. All (IsRow k.ops m) (rows_of c.in_ok-rows.rows.items)) (sym c.len-2.ensures)
    (subst (All (IsRow k.ops n)) (sym rows_is)
    (multiples_in k n (multiple_of k.ops num inverse) a.rows top_in c.requires.a_form.rows_in))

pub from_rows-requires-clause-rows_poly : goal.from_rows-requires-clause-rows_poly
from_rows-requires-clause-rows_poly g c =
    let k = g.K.SmallField.field c.args.k.now in
    let a = c.args.a.now in
    let n = length a.rows in
    let num = c.args.num.now in
    let den = c.args.den.now in
    let inverse = c.inv-inverse.result in
    let made = made_monic k den inverse c.top.result c.requires.den_in c.requires.den_some c.inv-inverse.ensures
    c.top.ensures.top c.top.ensures.not_zero in
    let top_in = IsOver_multiple_of k c.requires.num_in made.0 in
    let rows_is : rows_of c.in_ok-rows.rows.items ≡ map (multiple_of_row k.ops (multiple_of k.ops num inverse)) a.rows
    = c.in_ok-rows.ensures ∙ ap₂ (λ t xs. map (multiple_of_row k.ops t) xs) c.in_ok-top.ensures.multiple
    c.rows.ensures.rows in
    let e_is : c.in_ok-e.e ≡ product_of k.ops (multiple_of k.ops den inverse) a.den
    = c.in_ok-e.ensures.product ∙ ap₂ (product_of k.ops) c.in_ok-bottom.ensures.multiple c.den.ensures.den in
    let e_monic : IsMonicList c.in_ok-e.e
    = subst IsMonicList (sym e_is) (IsMonic_product k (multiple_of k.ops den inverse) a.den
    (IsOver_multiple_of k c.requires.den_in made.0) c.requires.a_form.den_in made.1 c.requires.a_form.monic) in
    subst (All (All IsPoly)) (sym rows_is) (multiples_poly k (multiple_of k.ops num inverse) a.rows)

pub from_rows-requires-clause-e_monic : goal.from_rows-requires-clause-e_monic
from_rows-requires-clause-e_monic g c =
    let k = g.K.SmallField.field c.args.k.now in
    let a = c.args.a.now in
    let n = length a.rows in
    let num = c.args.num.now in
    let den = c.args.den.now in
    let inverse = c.inv-inverse.result in
    let made = made_monic k den inverse c.top.result c.requires.den_in c.requires.den_some c.inv-inverse.ensures
    c.top.ensures.top c.top.ensures.not_zero in
    let top_in = IsOver_multiple_of k c.requires.num_in made.0 in
    let rows_is : rows_of c.in_ok-rows.rows.items ≡ map (multiple_of_row k.ops (multiple_of k.ops num inverse)) a.rows
    = c.in_ok-rows.ensures ∙ ap₂ (λ t xs. map (multiple_of_row k.ops t) xs) c.in_ok-top.ensures.multiple
    c.rows.ensures.rows in
    let e_is : c.in_ok-e.e ≡ product_of k.ops (multiple_of k.ops den inverse) a.den
    = c.in_ok-e.ensures.product ∙ ap₂ (product_of k.ops) c.in_ok-bottom.ensures.multiple c.den.ensures.den in
    let e_monic : IsMonicList c.in_ok-e.e
    = subst IsMonicList (sym e_is) (IsMonic_product k (multiple_of k.ops den inverse) a.den
    (IsOver_multiple_of k c.requires.den_in made.0) c.requires.a_form.den_in made.1 c.requires.a_form.monic) in
    e_monic

pub unreachable-requires : goal.unreachable-requires
unreachable-requires g c =
    let k = g.K.SmallField.field c.args.k.now in
    let a = c.args.a.now in
    let n = length a.rows in
    let num = c.args.num.now in
    let den = c.args.den.now in
    let inverse = c.inv-inverse.result in
    let made = made_monic k den inverse c.top.result c.requires.den_in c.requires.den_some c.inv-inverse.ensures
    c.top.ensures.top c.top.ensures.not_zero in
    let top_in = IsOver_multiple_of k c.requires.num_in made.0 in
    let rows_is : rows_of c.in_ok-rows.rows.items ≡ map (multiple_of_row k.ops (multiple_of k.ops num inverse)) a.rows
    = c.in_ok-rows.ensures ∙ ap₂ (λ t xs. map (multiple_of_row k.ops t) xs) c.in_ok-top.ensures.multiple
    c.rows.ensures.rows in
    let e_is : c.in_ok-e.e ≡ product_of k.ops (multiple_of k.ops den inverse) a.den
    = c.in_ok-e.ensures.product ∙ ap₂ (product_of k.ops) c.in_ok-bottom.ensures.multiple c.den.ensures.den in
    let e_monic : IsMonicList c.in_ok-e.e
    = subst IsMonicList (sym e_is) (IsMonic_product k (multiple_of k.ops den inverse) a.den
    (IsOver_multiple_of k c.requires.den_in made.0) c.requires.a_form.den_in made.1 c.requires.a_form.monic) in
    let found = subst (λ f. MatchOption f (¬ HasFullRankMatrix k.ops c.len-2.result (rows_of c.in_ok-rows.rows.items))
    (IsLatticeValue k.ops c.len-2.result)) c.in-None.is c.in_ok-lattice.ensures.form in
    let none = subst (λ xs. ¬ HasFullRankMatrix k.ops n xs) rows_is
    (subst (λ m. ¬ HasFullRankMatrix k.ops m (rows_of c.in_ok-rows.rows.items)) c.len-2.ensures found) in
    none (scaled_rank k n a (multiple_of k.ops num inverse) c.requires.some c.requires.a_form top_in
    (multiple_not_zero k num den inverse c.requires.num_in c.requires.den_in made.0 made.1
    (value_not_zero k num c.requires.num_in c.len-len.ensures.trimmed c.requires.num_some)))

pub returns-clause-members : goal.returns-clause-members
returns-clause-members g c =
    let k = g.K.SmallField.field c.args.k.now in
    let a = c.args.a.now in
    let n = length a.rows in
    let num = c.args.num.now in
    let den = c.args.den.now in
    let inverse = c.inv-inverse.result in
    let made = made_monic k den inverse c.top.result c.requires.den_in c.requires.den_some c.inv-inverse.ensures
    c.top.ensures.top c.top.ensures.not_zero in
    let top_in = IsOver_multiple_of k c.requires.num_in made.0 in
    let rows_is : rows_of c.in_ok-rows.rows.items ≡ map (multiple_of_row k.ops (multiple_of k.ops num inverse)) a.rows
    = c.in_ok-rows.ensures ∙ ap₂ (λ t xs. map (multiple_of_row k.ops t) xs) c.in_ok-top.ensures.multiple
    c.rows.ensures.rows in
    let e_is : c.in_ok-e.e ≡ product_of k.ops (multiple_of k.ops den inverse) a.den
    = c.in_ok-e.ensures.product ∙ ap₂ (product_of k.ops) c.in_ok-bottom.ensures.multiple c.den.ensures.den in
    let e_monic : IsMonicList c.in_ok-e.e
    = subst IsMonicList (sym e_is) (IsMonic_product k (multiple_of k.ops den inverse) a.den
    (IsOver_multiple_of k c.requires.den_in made.0) c.requires.a_form.den_in made.1 c.requires.a_form.monic) in
    let spanned = subst (λ f. IfSome f (IsSpannedBy k c.len-2.result
    (elems_over (rows_of c.in_ok-rows.rows.items) c.in_ok-e.e))) c.in-Some.is c.in_ok-lattice.ensures.members in
    let spanned_n = subst (λ xs. IsSpannedBy k n (elems_over xs c.in_ok-e.e) c.in-Some.lattice) rows_is
    (subst (λ m. IsSpannedBy k m (elems_over (rows_of c.in_ok-rows.rows.items) c.in_ok-e.e) c.in-Some.lattice)
    c.len-2.ensures spanned) in
    scaled_members k n a c.in-Some.lattice num den inverse c.in_ok-e.e c.requires.a_form c.requires.num_in
    c.requires.den_in made.0 e_is c.in_ok-e.ensures.over e_monic spanned_n
