use Rattle.std.proofs.Common.{◌+◌, sym, ap, subst, ◌∙◌}
use Rattle.std.proofs.lemmas.List.{length-map}
use Rattle.ff_poly.specs.Popov.{rows_of, IsPopovMatrix}
use Rattle.ff_lattice.specs.Steps.{pivot_sum}
use Rattle.ff_lattice.proofs.ShortMultiples.{short_multiples}
use Rattle.ff_lattice.proofs.preimage.preimage.Goals as goal

pub multiples_bound-requires : goal.multiples_bound-requires
multiples_bound-requires g c =
    subst (λ n. IsPopovMatrix n (rows_of c.args.ls.now)) (sym c.requires.popov.size ∙ length-map c.args.ls.now (λ v. v.items))
    c.requires.popov

pub preimage_within-requires-clause-short : goal.preimage_within-requires-clause-short
preimage_within-requires-clause-short g c =
    let k = g.K.SmallField.field c.args.k.now in
    short_multiples k c.args.width c.requires.positive (rows_of c.args.ls.now) c.requires.ls_in c.requires.popov
    c.in_ok-bound.bound
    (c.in_ok-bound.ensures ∙ ap (λ n. pivot_sum (rows_of c.args.ls.now) n + 1)
    (sym (length-map c.args.ls.now (λ v. v.items))))
