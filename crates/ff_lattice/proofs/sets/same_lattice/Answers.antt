use Rattle.std.proofs.Common.{sym, subst, arith}
use Rattle.ff_lattice.specs.Lattices.{IsLatticeValue, Contains}
use Rattle.ff_lattice.proofs.OneForm.{one_form}
use Rattle.ff_lattice.proofs.sets.same_lattice.Goals as goal

pub returns-clause-sets : goal.returns-clause-sets
returns-clause-sets g c =
    let k = g.K.SmallField.field c.args.k.now in
    let a = c.args.a.now in
    let b = c.args.b.now in
    λ p positive n_is. (
      λ t z. let same = c.same_form.ensures.0 t in
          (subst (λ l. Contains k p l z) same, subst (λ l. Contains k p l z) (sym same)),
      λ same.
          c.same_form.ensures.1
          (one_form k p a b (subst (λ n. IsLatticeValue k.ops n a) (sym n_is) c.requires.a_form)
          (subst (λ n. IsLatticeValue k.ops n b) (sym n_is) c.requires.b_form) same (omega (arith, positive))),
    )
