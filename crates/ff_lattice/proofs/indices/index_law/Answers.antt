-- The theorems of `PivotIndices`.
use Rattle.ff_lattice.proofs.PivotIndices.{lattice_over, number, index_number_is, index_is, same_lattice}
use Rattle.ff_lattice.proofs.indices.index_law.Goals as goal

pub returns-clause-index : goal.returns-clause-index
returns-clause-index g c =
    let k = g.K.SmallField.field c.args.k.now in
    let p = c.args.p.now in
    let a = c.args.a.now in
    let b = c.args.b.now in
    index_is k p c.requires.positive a b (lattice_over k p a c.requires.a_form) (lattice_over k p b c.requires.b_form)
    c.requires.within

pub returns-clause-exists : goal.returns-clause-exists
returns-clause-exists g c =
    let k = g.K.SmallField.field c.args.k.now in
    let p = c.args.p.now in
    let a = c.args.a.now in
    let b = c.args.b.now in (
      number k p c.requires.positive a b (lattice_over k p a c.requires.a_form) (lattice_over k p b c.requires.b_form)
          c.requires.within,
      index_number_is k p c.requires.positive a b (lattice_over k p a c.requires.a_form)
          (lattice_over k p b c.requires.b_form) c.requires.within,
    )

pub returns-clause-same : goal.returns-clause-same
returns-clause-same g c =
    let k = g.K.SmallField.field c.args.k.now in
    let p = c.args.p.now in
    let a = c.args.a.now in
    let b = c.args.b.now in
    same_lattice k p c.requires.positive a b (lattice_over k p a c.requires.a_form)
    (lattice_over k p b c.requires.b_form) c.requires.within c.requires.a_form c.requires.b_form
