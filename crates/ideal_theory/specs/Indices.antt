-- The index of one lattice relative to another, neither of which need lie in the other (Hess, section 2).
use Rattle.std.specs.Prelude.{◌≡◌, ℕ, ℤ, pos, ◌-ℤ◌, List}
use Rattle.ring_theory.specs.Subsets.{Span}
use Rattle.ff_fields.specs.Field.{CodeField}
use Rattle.function_field.specs.Functions.{Equation, FunctionOf, ring_of, IsPolynomial}
use Rattle.function_field.specs.Indices.{HasIndex}
use Rattle.lattice_theory.specs.Lattices.{IsLattice}

module _ {k : CodeField} (c : Equation k) where
  -- in a lattice that has both A and B, the index of A less that of B
  pub record HasRelativeIndex (A B : FunctionOf c → Type 0) (m : ℤ) : Type 0 where
    pub larger : List (FunctionOf c)
    pub lattice : IsLattice c (Span (ring_of c).ops (IsPolynomial c) larger)
    pub has_first : (z : FunctionOf c) → A z → Span (ring_of c).ops (IsPolynomial c) larger z
    pub has_second : (z : FunctionOf c) → B z → Span (ring_of c).ops (IsPolynomial c) larger z
    pub first : ℕ
    pub first_index : HasIndex c A (Span (ring_of c).ops (IsPolynomial c) larger) first
    pub second : ℕ
    pub second_index : HasIndex c B (Span (ring_of c).ops (IsPolynomial c) larger) second
    pub is : m ≡ pos first -ℤ pos second
