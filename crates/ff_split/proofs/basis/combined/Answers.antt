use Rattle.std.proofs.Common.{◌<◌, [], length, subst, ap, ◌∙◌, arith}
use Rattle.ff_fields.specs.Over.{IsOver}
use Rattle.ff_poly.specs.Value.{value}
use Rattle.ff_poly.specs.Popov.{entry_at}
use Rattle.ff_popov.proofs.Entries.{any_default, read_default}
use Rattle.function_field.specs.Functions.{of_poly}
use Rattle.function_field.specs.Values.{IsElem, functions, function_of, equation_of}
use Rattle.ff_split.proofs.Elements.{term_more}
use Rattle.ff_split.proofs.basis.combined.Goals as goal

pub multiple-requires-in-loop-j-clause-a_in : goal.multiple-requires-in-loop-j-clause-a_in
multiple-requires-in-loop-j-clause-a_in g c =
    let k = g.K.SmallField.field c.args.k.now in
    read_default (IsOver k.ops) c.args.row.now c.loop-j.j c.index-row-j.result c.requires.row_in
    (omega (arith, c.loop-j-test.true, c.requires.one_each)) c.index-row-j.is

pub loop-j-preserved : goal.loop-j-preserved
loop-j-preserved g c =
    let k = g.K.SmallField.field c.args.k.now in
    let p = c.args.p.now in
    let row = c.args.row.now in
    let a = c.index-row-j.result in
    let z = c.index-elems-j.result in
    let less : c.loop-j.j < length row = omega (arith, c.loop-j-test.true, c.requires.one_each) in
    record {
      some = omega arith;
      sum =
          term_more k p (λ j. value k (entry_at row j)) c.args.elems.now z c.loop-j.j (function_of k p c.loop-j.sum)
          (function_of k p c.in_ok-term.term) (function_of k p c.in_ok-sum-2.sum) c.loop-j-test.true c.index-elems-j.is
          c.loop-j.invariant.sum
          (c.in_ok-term.ensures.product
          ∙ ap (λ b. (functions k p).◌⊗◌ (of_poly (equation_of k p) (value k b)) (function_of k p z))
          (c.index-row-j.is ∙ any_default row c.loop-j.j a [] less))
          (c.in_ok-sum-2.ensures.sum p);
      in_range =
          subst (λ n. IsElem k.ops n c.in_ok-sum-2.sum) c.loop-j.invariant.in_range.one_each
          c.in_ok-sum-2.ensures.in_range;
    }
