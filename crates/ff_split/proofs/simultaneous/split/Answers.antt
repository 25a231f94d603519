use Rattle.ff_lattice.proofs.Results.{ok_through}
use Rattle.ff_split.proofs.Forms.{form_both, form_sum, form_ascending}
use Rattle.ff_split.proofs.simultaneous.split.Goals as goal

pub returns-clause-both : goal.returns-clause-both
returns-clause-both g c =
    let k = g.K.SmallField.field c.args.k.now in
    ok_through c.from_matrix.result
    (λ s form. form_both k c.args.c.now c.requires.curve c.args.fin.now c.args.inf.now c.requires.finite
    c.requires.infinite s form) c.from_matrix.ensures.form

pub returns-clause-elements : goal.returns-clause-elements
returns-clause-elements g c =
    ok_through c.from_matrix.result (λ s all. λ i d less. (all i d less).element) c.from_matrix.ensures.lowest

pub returns-clause-ascending : goal.returns-clause-ascending
returns-clause-ascending g c =
    let k = g.K.SmallField.field c.args.k.now in
    ok_through c.from_matrix.result
    (λ s form. form_ascending k c.args.c.now c.requires.curve c.args.fin.now c.args.inf.now c.requires.finite
    c.requires.infinite s form) c.from_matrix.ensures.form

pub returns-clause-sum : goal.returns-clause-sum
returns-clause-sum g c =
    let k = g.K.SmallField.field c.args.k.now in
    ok_through c.from_matrix.result
    (λ s form. form_sum k c.args.c.now c.requires.curve c.args.fin.now c.args.inf.now c.requires.finite
    c.requires.infinite s form c.requires.tame) c.from_matrix.ensures.form
