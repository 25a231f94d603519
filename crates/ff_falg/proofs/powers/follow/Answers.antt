use Rattle.std.proofs.Common.{◌<◌, length, refl, sym, ap, ◌∙◌, subst, arith}
use Rattle.ff_falg.specs.Algebras.{IsVector}
use Rattle.ff_falg.proofs.powers.follow.Goals as goal
use Rattle.ff_falg.proofs.ChainSteps.{flag_here, flags_kept, flags_same, flags_trans, power_at_in, filled, next_power, next_within, chain_power_in, filled_row_in}

pub loop-init : goal.loop-init
loop-init g c = record {
  filled = c.requires.filled;
  within = c.requires.within;
  here = c.requires.first;
  kept = flags_same c.args.done.now;
}

pub bounds : goal.bounds
bounds g c = let s = c.requires.chains.size in let w = c.loop.invariant.within in omega arith

pub bounds-done-i : goal.bounds-done-i
bounds-done-i g c =
    let k = g.K.SmallField.field c.args.k.now in
    let A = g.A.FiniteAlgebra.algebra c.args.a.now in
    let law = g.A.FiniteAlgebra.laws c.args.a.now k c.requires.over in
    let l = next_within k A law c.args.z_power.now c.args.next.now c.loop.j c.in-Some.i c.requires.chains
    c.loop.invariant.within c.in-Some.is in
    let s = c.loop.invariant.filled.size in omega arith

pub row-requires : goal.row-requires
row-requires g c = let s = c.loop.invariant.filled.shape.row_count in let w = c.loop.invariant.within in omega arith

pub mul-requires-clause-a_in : goal.mul-requires-clause-a_in
mul-requires-clause-a_in g c =
    let k = g.K.SmallField.field c.args.k.now in
    let A = g.A.FiniteAlgebra.algebra c.args.a.now in
    let law = g.A.FiniteAlgebra.laws c.args.a.now k c.requires.over in
    chain_power_in k A law c.args.z_power.now c.args.next.now c.requires.chains

pub mul-requires-clause-b_in : goal.mul-requires-clause-b_in
mul-requires-clause-b_in g c =
    let k = g.K.SmallField.field c.args.k.now in
    let A = g.A.FiniteAlgebra.algebra c.args.a.now in
    let law = g.A.FiniteAlgebra.laws c.args.a.now k c.requires.over in
    subst (IsVector k.ops A.size) (sym c.row.ensures)
    (filled_row_in k A law c.loop.done c.loop.rows c.loop.j c.loop.invariant.filled c.loop.invariant.within)

pub set_row-requires-clause-row_in : goal.set_row-requires-clause-row_in
set_row-requires-clause-row_in g c =
    let k = g.K.SmallField.field c.args.k.now in
    let A = g.A.FiniteAlgebra.algebra c.args.a.now in
    let law = g.A.FiniteAlgebra.laws c.args.a.now k c.requires.over in
    let l = next_within k A law c.args.z_power.now c.args.next.now c.loop.j c.in-Some.i c.requires.chains
    c.loop.invariant.within c.in-Some.is in
    let s = c.loop.invariant.filled.shape.row_count in omega arith

pub set_row-requires-clause-width : goal.set_row-requires-clause-width
set_row-requires-clause-width g c =
    let k = g.K.SmallField.field c.args.k.now in
    let A = g.A.FiniteAlgebra.algebra c.args.a.now in
    let law = g.A.FiniteAlgebra.laws c.args.a.now k c.requires.over in
    let l = next_within k A law c.args.z_power.now c.args.next.now c.loop.j c.in-Some.i c.requires.chains
    c.loop.invariant.within c.in-Some.is in
    ap length (c.as_slice.ensures.value ∙ c.in_ok-row.ensures ∙ ap (A.product k.ops c.args.z_power.now) c.row.ensures
    ∙ next_power k A law c.args.z_power.now c.args.next.now c.loop.done c.loop.rows c.loop.j c.in-Some.i
    c.requires.chains c.loop.invariant.filled c.loop.invariant.within c.in-Some.is c.loop.invariant.here)
    ∙ (power_at_in k A law c.in-Some.i l).size ∙ sym c.loop.invariant.filled.shape.col_count

pub bounds-done-i-in-loop : goal.bounds-done-i-in-loop
bounds-done-i-in-loop g c =
    let k = g.K.SmallField.field c.args.k.now in
    let A = g.A.FiniteAlgebra.algebra c.args.a.now in
    let law = g.A.FiniteAlgebra.laws c.args.a.now k c.requires.over in
    let l = next_within k A law c.args.z_power.now c.args.next.now c.loop.j c.in-Some.i c.requires.chains
    c.loop.invariant.within c.in-Some.is in
    let s = c.loop.invariant.filled.size in omega arith

pub loop-preserved : goal.loop-preserved
loop-preserved g c =
    let k = g.K.SmallField.field c.args.k.now in
    let A = g.A.FiniteAlgebra.algebra c.args.a.now in
    let law = g.A.FiniteAlgebra.laws c.args.a.now k c.requires.over in
    let l = next_within k A law c.args.z_power.now c.args.next.now c.loop.j c.in-Some.i c.requires.chains
    c.loop.invariant.within c.in-Some.is in
    let d : c.in-Some.i < length c.loop.done = let s = c.loop.invariant.filled.size in omega arith in
    record {
      filled =
          filled k A law c.loop.done _ c.loop.rows _ c.in-Some.i c.as_slice.result.now l
          (c.as_slice.ensures.value ∙ c.in_ok-row.ensures ∙ ap (A.product k.ops c.args.z_power.now) c.row.ensures
          ∙ next_power k A law c.args.z_power.now c.args.next.now c.loop.done c.loop.rows c.loop.j c.in-Some.i
          c.requires.chains c.loop.invariant.filled c.loop.invariant.within c.in-Some.is c.loop.invariant.here)
          c.set_row.ensures refl c.loop.invariant.filled;
      within = l;
      here = flag_here c.loop.done _ c.in-Some.i d refl;
      kept = flags_trans c.args.done.now c.loop.done _ c.loop.invariant.kept
          (flags_kept c.loop.done _ c.in-Some.i d refl);
    }
