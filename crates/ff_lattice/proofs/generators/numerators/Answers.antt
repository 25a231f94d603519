use Rattle.std.proofs.Common.{subst, sym, ap, All, ◌∙◌}
use Rattle.ff_fields.specs.Over.{IsOver}
use Rattle.ff_poly.specs.Words.{product_of}
use Rattle.ff_poly.specs.Popov.{multiple_of_row}
use Rattle.function_field.specs.Values.{IsElem}
use Rattle.ff_popov.proofs.Entries.{read_default}
use Rattle.ff_lattice.proofs.Normal.{monic_poly}
use Rattle.ff_lattice.proofs.CommonDenominators.{rows_more}
use Rattle.ff_lattice.proofs.generators.numerators.Goals as goal

pub exact_quotient-requires-clause-a_poly : goal.exact_quotient-requires-clause-a_poly
exact_quotient-requires-clause-a_poly g c = monic_poly c.args.e.now c.requires.e_monic

pub multiple_row-requires-clause-row_in : goal.multiple_row-requires-clause-row_in
multiple_row-requires-clause-row_in g c =
    let k = g.K.SmallField.field c.args.k.now in
    subst (All (IsOver k.ops)) (sym c.num.ensures)
    (read_default (IsElem k.ops c.args.n) c.args.gens.now c.loop-z.z-index c.z-item.result c.requires.gens_in
    c.loop-z-test.true c.z-item.is).num_over

pub loop-z-preserved : goal.loop-z-preserved
loop-z-preserved g c =
    let k = g.K.SmallField.field c.args.k.now in
    let more =
    rows_more k c.args.n c.args.e.now c.args.gens.now c.loop-z.rows.items c.push.new.self.items c.loop-z.z-index
    c.z-item.result c.in_ok-row.row c.loop-z-test.true c.z-item.is c.loop-z.invariant.size c.loop-z.invariant.each
    (record {
      factor = c.in_ok-factor.factor;
      factor_in = c.in_ok-factor.ensures.over;
      den_is = c.in_ok-factor.ensures.product ∙ ap (λ d. product_of k.ops d c.in_ok-factor.factor) c.den.ensures.den;
      num_is = c.in_ok-row.ensures ∙ ap (multiple_of_row k.ops c.in_ok-factor.factor) c.num.ensures;
    })
    c.in_ok-push.ensures.items in
    record { size = more.0; each = more.1 }
