-- No degree is negative where the intersection of I and N is a field in the ring V.
use Rattle.std.proofs.Common.{◌≡◌, ℕ, zero, suc, ◌<◌, ℤ, pos, ◌-ℤ◌, ◌≤ℤ◌, ◌<ℤ◌, List, length, All, sym, ◌∙◌, ap, subst, arith}
use Rattle.std.proofs.lemmas.List.Elements.{All-nil, All-cons, All-weaker}
use Rattle.std.proofs.lemmas.Int.{ints, by_lt_z}
use Rattle.ring_lemmas.specs.Ring.{TestedRing, CommRing, IsField}
use Rattle.ring_lemmas.specs.Polynomials.{Pol}
use Rattle.ring_theory.specs.PolynomialRing.{pol_ring}
use Rattle.linear_theory.specs.Fields.{domain_of}
use Rattle.linear_theory.specs.Module.{Module, IsLinear}
use Rattle.linear_theory.specs.Basis.{IsCombination, IsNull}
use Rattle.linear_theory.specs.Lists.{entry, insert}
use Rattle.linear_theory.proofs.Lists.{insert_here}
use Rattle.linear_theory.proofs.Module.{scale_zero}
use Rattle.linear_theory.proofs.Combination.{linear_zero}
use Rattle.linear_theory.proofs.Exchange.{exchange}
use Rattle.reduced_basis_theory.specs.Reduced.{IsReducedBasisOfPair, Section, constants_ops, multiples, variable, layers}
use Rattle.reduced_basis_theory.proofs.Degree.{size_least}
use Rattle.reduced_basis_theory.proofs.Constants.{coefficients, polynomials, polynomial_zero}
use Rattle.reduced_basis_theory.proofs.Layers.{over_constants, combine_multiples, length_multiples}
use Rattle.reduced_basis_theory.proofs.Count.{sizes, section_basis, length_one}
use Rattle.reduced_basis_theory.proofs.Powers.{length_variable}
use Rattle.reduced_basis_theory.proofs.Graded.{combine_single, multiple_in}
use Rattle.reduced_basis_theory.proofs.Spaces.{lattice_scale}
use Rattle.reduced_basis_theory.proofs.Compare.{null_in}
use Rattle.reduced_basis_theory.proofs.Dual.{in_lattice}

module _ {C V : Type 0} (k : TestedRing C) (field : IsField k.ops) (M : Module (pol_ring k).ring V) (n : ℕ)
    (F : CommRing V) (multiples_linear : (z : V) → IsLinear M.ops M.ops (F.◌⊗◌ z))
    (embedded : (p : Pol k) → M.◌•◌ p F.𝟙 ≡ M.𝟬 → p ≡ (pol_ring k).𝟘)
    (I : V → Type 0) (N : ℤ → V → Type 0) (b : List V) (d : ℕ → ℤ) (reduced : IsReducedBasisOfPair k M.ops n I N b d)
    (one : Section I N (pos 0) F.𝟙)
    (product : (u v : V) → Section I N (pos 0) u → Section I N (pos 0) v → Section I N (pos 0) (F.◌⊗◌ u v))
    (inverse : (u : V) → Section I N (pos 0) u → ¬ (u ≡ M.𝟬) → (v : V) × Section I N (pos 0) v
    × (F.◌⊗◌ u v ≡ F.𝟙)) where
  infixl 65 ◌⊞◌
  infixr 75 ◌•◌
  open M use {𝟬, ◌⊞◌, ◌•◌}

  infixl 70 ◌⊗◌
  open F use {𝟙, ◌⊗◌}

  abbrev Constant : V → Type 0
  Constant = Section I N (pos 0)

  scaled : (p : Pol k) (u v : V) → u ⊗ (p • v) ≡ p • (u ⊗ v)
  scaled p u v =
      ap (λ w. u ⊗ w) (sym (M.add_zero _)) ∙ multiples_linear u p v 𝟬
      ∙ ap (λ w. p • (u ⊗ v) ⊞ w) (linear_zero M M (F.◌⊗◌ u) (multiples_linear u)) ∙ M.add_zero _

  -- where x·z is a constant for a constant z with an inverse, all x^j are constants
  variable_in : (u v : V) → u ⊗ v ≡ 𝟙 → Constant v → Constant (variable k • u) → Constant (variable k • 𝟙)
  variable_in u v e v_in h =
      subst Constant (scaled (variable k) v u ∙ ap (λ w. variable k • w) (F.mul_comm v u ∙ e))
      (product v (variable k • u) v_in h)

  powers_in : Constant (variable k • 𝟙) → (l : ℕ) (u : V) → Constant u → All Constant (multiples k M.ops l u)
  powers_in x_in zero u u_in = All-nil Constant
  powers_in x_in (suc l) u u_in =
      All-cons Constant u _ u_in
      (powers_in x_in l (variable k • u)
      (subst Constant (scaled (variable k) u 𝟙 ∙ ap (λ w. variable k • w) (F.mul_one u))
      (product u (variable k • 𝟙) u_in x_in)))

  -- but then there are more independent constants than the dimension
  variable_not_in : ¬ Constant (variable k • 𝟙)
  variable_not_in x_in =
      let c = section_basis k field M n I N b d reduced (pos 0) in
      let ws = layers k M.ops b (sizes d (pos 0)) in
      let l = suc (length ws) in
      let h = exchange (domain_of (coefficients k field)) (over_constants k M) (IsNull (constants_ops k M.ops))
      (null_in k field M n)
      (multiples k M.ops l 𝟙) ws
      (λ a e i i_below.
      polynomial_zero k l a (embedded _ (sym (combine_multiples k M l a 𝟙) ∙ e)) i
      (subst (λ n. i < n) (length_multiples k M l 𝟙) i_below))
      (All-weaker Constant (IsCombination (constants_ops k M.ops) (IsNull (constants_ops k M.ops)) ws) c.spanning
      (multiples k M.ops l 𝟙) (powers_in x_in l 𝟙 one)) in
      let e = length_multiples k M l 𝟙 in
      omega arith

  -- a member of the basis is not zero
  basis_nonzero : (i : ℕ) → i < n → ¬ (entry 𝟬 b i ≡ 𝟬)
  basis_nonzero i l e =
      (polynomials k field).one_not_zero
      (sym (insert_here i (pol_ring k).𝟙 (λ j. (pol_ring k).𝟘))
      ∙ reduced.at.free (insert i (pol_ring k).𝟙 (λ j. (pol_ring k).𝟘))
      (combine_single k field M n N b d reduced.at i (pol_ring k).𝟙 (subst (λ n. i < n) (sym reduced.at.count) l)
      ∙ ap (λ w. (pol_ring k).𝟙 • w) e ∙ scale_zero M _) i l)

  no_negative : (i : ℕ) → i < n → d i <ℤ pos 0 → ⊥
  no_negative i l negative =
      let u = entry 𝟬 b i in
      let e = length_one k field in
      let f = length_variable k field in
      let u_in : Constant u
      = (
        in_lattice k M I b reduced.lattice i,
        subst (N (pos 0)) (M.one_scale u)
            (multiple_in k field M n N b d reduced.at (pos 0) i (pol_ring k).𝟙 l
            (size_least (length ((pol_ring k).𝟙).0) (pos 0 -ℤ d i) (omega (arith, ints)))),
      ) in
      let xu_in : Constant (variable k • u)
      = (
        lattice_scale k M I b reduced.lattice (variable k) u (in_lattice k M I b reduced.lattice i),
        multiple_in k field M n N b d reduced.at (pos 0) i (variable k) l
            (size_least (length (variable k).0) (pos 0 -ℤ d i) (omega (arith, ints))),
      ) in
      let v = inverse u u_in (basis_nonzero i l) in
      variable_not_in (variable_in u v.0 v.2 v.1 xu_in)

  -- the degrees are natural numbers
  pub nonnegative : (i : ℕ) → i < n → pos 0 ≤ℤ d i
  nonnegative i l = by_lt_z (d i) (pos 0) (λ h. absurd (no_negative i l h)) (λ h. h)
