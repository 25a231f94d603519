-- Division by powers of the variable, where the variable acts with an inverse.
use Rattle.std.proofs.Common.{◌≡◌, ℕ, zero, suc, ◌∙◌, ap}
use Rattle.ring_lemmas.specs.Ring.{TestedRing, IsField}
use Rattle.ring_theory.specs.PolynomialRing.{pol_ring}
use Rattle.linear_theory.specs.Module.{Module}
use Rattle.reduced_basis_theory.specs.Reduced.{variable, divided, HasDivision}
use Rattle.reduced_basis_theory.proofs.Powers.{power}

module _ {C V : Type 0} (k : TestedRing C) (field : IsField k.ops) (M : Module (pol_ring k).ring V)
    (x : HasDivision k M.ops) where
  infixr 75 ◌•◌
  open M use {◌•◌}

  -- z divided by x^j
  abbrev pub quotient : ℕ → V → V
  quotient = divided x.divide

  pub undo_power : (j : ℕ) (z : V) → power k field j • quotient j z ≡ z
  undo_power zero z = M.one_scale z
  undo_power (suc j) z =
      M.mul_scale (variable k) (power k field j) (quotient j (x.divide z))
      ∙ ap (λ w. variable k • w) (undo_power j (x.divide z)) ∙ x.undo z

  pub redo_power : (j : ℕ) (z : V) → quotient j (power k field j • z) ≡ z
  redo_power zero z = M.one_scale z
  redo_power (suc j) z =
      ap (λ w. quotient j (x.divide w)) (M.mul_scale (variable k) (power k field j) z)
      ∙ ap (quotient j) (x.redo (power k field j • z)) ∙ redo_power j z
