use Rattle.std.proofs.Common.{◌≡◌, ◌++◌, [], ◌∷◌, map, arith, sym, ap, ◌∙◌, subst}
use Rattle.std.proofs.lemmas.List.{take_at, map-append}
use Rattle.std.proofs.lemmas.Result.{IfOk-weaker}
use Rattle.ring_lemmas.specs.Lists.{neg_list}
use Rattle.ff_fields.specs.Code.{raw_ring}
use Rattle.ff_falg.specs.Roots.{IsRoots}
use Rattle.ff_falg.specs.Splits.{part_of}
use Rattle.ff_falg.proofs.parts.split.Goals as goal
use Rattle.ff_falg.proofs.SplitSteps.{one_split, lower_over, lower_some, lower_within, roots_simple, parts_split_value}

pub returns-then-len-eq1 : goal.returns-then-len-eq1
returns-then-len-eq1 g c =
    let k = g.K.SmallField.field c.args.k.now in
    let A = g.A.FiniteAlgebra.algebra c.args.a.now in
    let law = g.A.FiniteAlgebra.laws c.args.a.now k c.requires.over in
    record {
      parts = c.args.e.now ∷ [];
      is =
          ap (map (λ v. v.items)) c.in_ok-push.ensures.items
          ∙ map-append (λ v. v.items) c.args.out.now.items (c.in_ok-to_vec.field-0 ∷ [])
          ∙ ap (λ y. map (λ v. v.items) c.args.out.now.items ++ y ∷ [])
          (c.in_ok-to_vec.ensures.items_if_clones_equal (λ x y e. e));
      split =
          one_split k A law c.args.x.now c.args.e.now c.requires.x_in c.requires.fixed c.requires.idempotent
          c.requires.nonzero _ _
          c.in_ok-relation.ensures (omega arith);
    }

pub roots-requires : goal.roots-requires
roots-requires g c =
    let k = g.K.SmallField.field c.args.k.now in
    let A = g.A.FiniteAlgebra.algebra c.args.a.now in
    let law = g.A.FiniteAlgebra.laws c.args.a.now k c.requires.over in
    let is : c.as_slice.result.now ≡ neg_list (raw_ring k.ops) c.in_ok-relation.relation.coefficients.items
    = c.as_slice.ensures.value ∙ take_at c.negate_all.new.codes _ _ (omega arith) ∙ c.negate_all.ensures
    ∙ ap (neg_list (raw_ring k.ops)) c.as_mut_slice.ensures.value in
    lower_over k A law c.args.x.now c.args.e.now c.requires.x_in c.requires.fixed c.requires.idempotent
    c.requires.nonzero _ _
    c.in_ok-relation.ensures c.as_slice.result.now is

pub push_parts-requires-clause-lower_in : goal.push_parts-requires-clause-lower_in
push_parts-requires-clause-lower_in g c =
    let k = g.K.SmallField.field c.args.k.now in
    let A = g.A.FiniteAlgebra.algebra c.args.a.now in
    let law = g.A.FiniteAlgebra.laws c.args.a.now k c.requires.over in
    let is : c.as_slice-2.result.now ≡ neg_list (raw_ring k.ops) c.in_ok-relation.relation.coefficients.items
    = c.as_slice-2.ensures.value ∙ take_at c.negate_all.new.codes _ _ (omega arith) ∙ c.negate_all.ensures
    ∙ ap (neg_list (raw_ring k.ops)) c.as_mut_slice.ensures.value in
    lower_over k A law c.args.x.now c.args.e.now c.requires.x_in c.requires.fixed c.requires.idempotent
    c.requires.nonzero _ _
    c.in_ok-relation.ensures c.as_slice-2.result.now is

pub push_parts-requires-clause-some : goal.push_parts-requires-clause-some
push_parts-requires-clause-some g c =
    let k = g.K.SmallField.field c.args.k.now in
    let A = g.A.FiniteAlgebra.algebra c.args.a.now in
    let law = g.A.FiniteAlgebra.laws c.args.a.now k c.requires.over in
    let is : c.as_slice-2.result.now ≡ neg_list (raw_ring k.ops) c.in_ok-relation.relation.coefficients.items
    = c.as_slice-2.ensures.value ∙ take_at c.negate_all.new.codes _ _ (omega arith) ∙ c.negate_all.ensures
    ∙ ap (neg_list (raw_ring k.ops)) c.as_mut_slice.ensures.value in
    lower_some k A law c.args.x.now c.args.e.now c.requires.x_in c.requires.fixed c.requires.idempotent
    c.requires.nonzero _ _
    c.in_ok-relation.ensures c.as_slice-2.result.now is

pub push_parts-requires-clause-within : goal.push_parts-requires-clause-within
push_parts-requires-clause-within g c =
    let k = g.K.SmallField.field c.args.k.now in
    let A = g.A.FiniteAlgebra.algebra c.args.a.now in
    let law = g.A.FiniteAlgebra.laws c.args.a.now k c.requires.over in
    let is : c.as_slice-2.result.now ≡ neg_list (raw_ring k.ops) c.in_ok-relation.relation.coefficients.items
    = c.as_slice-2.ensures.value ∙ take_at c.negate_all.new.codes _ _ (omega arith) ∙ c.negate_all.ensures
    ∙ ap (neg_list (raw_ring k.ops)) c.as_mut_slice.ensures.value in
    lower_within k A law c.args.x.now c.args.e.now c.requires.x_in c.requires.fixed c.requires.idempotent
    c.requires.nonzero _ _
    c.in_ok-relation.ensures c.as_slice-2.result.now is

pub push_parts-requires-clause-simple : goal.push_parts-requires-clause-simple
push_parts-requires-clause-simple g c =
    let k = g.K.SmallField.field c.args.k.now in
    let A = g.A.FiniteAlgebra.algebra c.args.a.now in
    let law = g.A.FiniteAlgebra.laws c.args.a.now k c.requires.over in
    let is : c.as_slice-2.result.now ≡ neg_list (raw_ring k.ops) c.in_ok-relation.relation.coefficients.items
    = c.as_slice-2.ensures.value ∙ take_at c.negate_all.new.codes _ _ (omega arith) ∙ c.negate_all.ensures
    ∙ ap (neg_list (raw_ring k.ops)) c.as_mut_slice.ensures.value in
    let roots : IsRoots k.ops c.as_slice-2.result.now c.as_slice-3.result.now
    = subst (IsRoots k.ops c.as_slice-2.result.now) (sym c.as_slice-3.ensures.value)
    (subst (λ xs. IsRoots k.ops xs c.in_ok-found.found.items)
    (c.as_slice.ensures.value ∙ sym c.as_slice-2.ensures.value) c.in_ok-found.ensures) in
    roots_simple k A law c.args.x.now c.args.e.now c.requires.x_in c.requires.fixed c.requires.idempotent
    c.requires.nonzero _ _
    c.in_ok-relation.ensures c.as_slice-2.result.now is c.as_slice-3.result.now roots

pub returns : goal.returns
returns g c =
    let k = g.K.SmallField.field c.args.k.now in
    let A = g.A.FiniteAlgebra.algebra c.args.a.now in
    let law = g.A.FiniteAlgebra.laws c.args.a.now k c.requires.over in
    let is : c.as_slice-2.result.now ≡ neg_list (raw_ring k.ops) c.in_ok-relation.relation.coefficients.items
    = c.as_slice-2.ensures.value ∙ take_at c.negate_all.new.codes _ _ (omega arith) ∙ c.negate_all.ensures
    ∙ ap (neg_list (raw_ring k.ops)) c.as_mut_slice.ensures.value in
    let roots : IsRoots k.ops c.as_slice-2.result.now c.as_slice-3.result.now
    = subst (IsRoots k.ops c.as_slice-2.result.now) (sym c.as_slice-3.ensures.value)
    (subst (λ xs. IsRoots k.ops xs c.in_ok-found.found.items)
    (c.as_slice.ensures.value ∙ sym c.as_slice-2.ensures.value) c.in_ok-found.ensures) in
    IfOk-weaker c.push_parts.result _ _
    (λ t e. record {
      parts = map (part_of k.ops c.as_slice-2.result.now c.in_ok-relation.relation.powers) c.as_slice-3.result.now;
      is = e;
      split =
          parts_split_value k A law c.args.x.now c.args.e.now c.requires.x_in c.requires.fixed c.requires.idempotent
          c.requires.nonzero _ _
          c.in_ok-relation.ensures c.as_slice-2.result.now is c.as_slice-3.result.now roots;
    })
    c.push_parts.ensures
