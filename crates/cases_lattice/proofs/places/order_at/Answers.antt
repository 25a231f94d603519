use Rattle.std.proofs.Common.{◌≡◌, ℕ, List, [], ◌∷◌}
use Rattle.std.specs.Prelude.{Result, Ok, Err, IfOk}
use Rattle.ff_fields.specs.Field.{CodeField}
use Rattle.ff_fields.specs.Over.{IsOver}
use Rattle.ff_poly.specs.Words.{IsIrreducibleList}
use Rattle.function_field.specs.declared.side.Side.{Side}
use Rattle.function_field.specs.declared.side.Side.TheVariants.{Infinite}
use Rattle.function_field.specs.Curves.{CurveValue, IsCurve}
use Rattle.ff_lattice.specs.Lattices.{LatticeValue}
use Rattle.value_theory.specs.IntegralLattices.{presentation, IsIntegralLattice}
use Rattle.decomposition_theory.specs.Decompositions.{IsMaximalOrderAt}
use Rattle.place_lists_theory.proofs.IntegralOrders.{integral_maximal}
use Rattle.cases_lattice.proofs.places.order_at.Goals as goal

maximal_answer : {E : Type 0} (k : CodeField) (c : CurveValue) (s : Side) (pi : List ℕ) → IsCurve k c → IsOver k.ops pi
    → IsIrreducibleList k.ops pi → (s ≡ Infinite → pi ≡ 0 ∷ 1 ∷ []) → (r : Result LatticeValue E)
    → IfOk r (IsIntegralLattice k c s) → IfOk r (λ o. IsMaximalOrderAt k (presentation c s) o pi)
maximal_answer k c s pi curve pi_in irreducible at_t (Ok o) h = integral_maximal k c curve o s pi h pi_in irreducible at_t
maximal_answer k c s pi curve pi_in irreducible at_t (Err e) h = h

pub returns : goal.returns
returns g c =
    maximal_answer (g.K.SmallField.field c.args.k.now) c.args.c.now c.args.side c.args.pi.now c.requires.curve
    c.requires.pi_in c.requires.irreducible c.requires.infinite c.maximal_order.result c.maximal_order.ensures
