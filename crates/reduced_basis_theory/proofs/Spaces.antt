-- The lattice I, the members N m of the family, and their intersections are spaces over the constants.
use Rattle.std.proofs.Common.{◌≡◌, ℕ, ◌↔◌, ℤ, pos, ◌+ℤ◌, List, length, sym, ◌∙◌, ap, ap₂, subst, arith}
use Rattle.std.proofs.lemmas.Int.{ints}
use Rattle.ring_lemmas.specs.Ring.{TestedRing, IsField}
use Rattle.ring_lemmas.specs.Polynomials.{Pol}
use Rattle.ring_theory.specs.PolynomialRing.{pol_ring}
use Rattle.linear_theory.specs.Module.{Module}
use Rattle.linear_theory.specs.Basis.{IsSubspace}
use Rattle.linear_theory.proofs.Combination.{combine_zero, combine_sum, combine_scale}
use Rattle.reduced_basis_theory.specs.Degree.{DegreeAtMost}
use Rattle.reduced_basis_theory.specs.Reduced.{InLattice, IsReducedAt, constant, constants_ops}
use Rattle.reduced_basis_theory.proofs.Constants.{length_constant}
use Rattle.reduced_basis_theory.proofs.Degree.{size_least}
use Rattle.reduced_basis_theory.proofs.Graded.{zero_in, sum_in, scale_in}

module _ {C V : Type 0} (k : TestedRing C) (M : Module (pol_ring k).ring V) where
  infixl 65 ◌⊞◌
  infixr 75 ◌•◌
  open M use {𝟬, ◌⊞◌, ◌•◌}

  infixl 65 ◌⊕◌
  infixl 70 ◌⊗◌
  open (pol_ring k) use {𝟘, 𝟙, ◌⊕◌, ◌⊗◌}

  module _ (I : V → Type 0) (b : List V) (lattice : (z : V) → I z ↔ InLattice k M.ops b z) where
    pub lattice_zero : I 𝟬
    lattice_zero = (lattice 𝟬).1 (record { coefficient = λ i. 𝟘; is = sym (combine_zero M b) })

    pub lattice_sum : (y z : V) → I y → I z → I (y ⊞ z)
    lattice_sum y z y_in z_in =
        let a = (lattice y).0 y_in in
        let c = (lattice z).0 z_in in
        (lattice (y ⊞ z)).1 (record {
          coefficient = λ i. a.coefficient i ⊕ c.coefficient i;
          is = ap₂ ◌⊞◌ a.is c.is ∙ sym (combine_sum M a.coefficient c.coefficient b);
        })

    pub lattice_scale : (p : Pol k) (z : V) → I z → I (p • z)
    lattice_scale p z z_in =
        let c = (lattice z).0 z_in in
        (lattice (p • z)).1 (record {
          coefficient = λ i. p ⊗ c.coefficient i;
          is = ap (λ v. p • v) c.is ∙ sym (combine_scale M p c.coefficient b);
        })

    pub lattice_space : IsSubspace (constants_ops k M.ops) I
    lattice_space = record {
      zero_in = lattice_zero;
      sum_in = lattice_sum;
      scale_in = λ a v h. lattice_scale (constant k a) v h;
    }

  module _ (field : IsField k.ops) (n : ℕ) (N : ℤ → V → Type 0) (b : List V) (d : ℕ → ℤ)
      (reduced : IsReducedAt k M.ops n N b d) where
    constant_degree : (a : C) → DegreeAtMost k (constant k a) (pos 0)
    constant_degree a =
        let e = length_constant k a in
        size_least (length (constant k a).0) (pos 0) (omega (arith, ints))

    pub family_space : (m : ℤ) → IsSubspace (constants_ops k M.ops) (N m)
    family_space m = record {
      zero_in = zero_in k field M n N b d reduced m;
      sum_in = sum_in k field M n N b d reduced m;
      scale_in = λ a v h.
          let e : m +ℤ pos 0 ≡ m = omega (arith, ints) in
          subst (λ l. N l (constant k a • v)) e
          (scale_in k field M n N b d reduced m (pos 0) (constant k a) v (constant_degree a) h);
    }

  pub intersection_space : (X Y : V → Type 0) → IsSubspace (constants_ops k M.ops) X
      → IsSubspace (constants_ops k M.ops) Y
      → IsSubspace (constants_ops k M.ops) (λ z. X z × Y z)
  intersection_space X Y 𝓧 𝓨 = record {
    zero_in = (𝓧.zero_in, 𝓨.zero_in);
    sum_in = λ u v h l. (𝓧.sum_in u v h.0 l.0, 𝓨.sum_in u v h.1 l.1);
    scale_in = λ a v h. (𝓧.scale_in a v h.0, 𝓨.scale_in a v h.1);
  }
