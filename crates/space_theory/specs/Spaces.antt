-- Lattices at infinity, and pairs of a lattice over the polynomials and one at infinity, which stand for divisors
-- (F. Hess, Computing Riemann-Roch spaces in algebraic function fields and related topics, 2002, sections 2 and 4).
use Rattle.std.specs.Prelude.{◌≡◌, ℕ, ℤ, neg_ℤ, List, length}
use Rattle.ring_lemmas.specs.Ring.{pow}
use Rattle.ring_theory.specs.Subsets.{Span}
use Rattle.prime_theory.specs.Ideals.{SameSet}
use Rattle.ff_fields.specs.Field.{CodeField}
use Rattle.ff_fields.specs.Code.{code_ring}
use Rattle.function_field.specs.declared.side.Side.TheVariants.{Finite, Infinite}
use Rattle.function_field.specs.Functions.{Equation, FunctionOf, ring_of, setting_of, degree_of_y, IsFiniteAtInfinity}
use Rattle.function_field.specs.Divisors.{x_to, shifted, SpansOnce}
use Rattle.lattice_theory.specs.Lattices.{polynomial_ops}
use Rattle.reduced_basis_theory.specs.Reduced.{IsReducedBasisOfPair}

module _ {k : CodeField} (c : Equation k) where
  -- finitely many functions span N over the fractions of degree at most 0, and a power of 1/x takes each function into
  -- N
  pub record IsLatticeAtInfinity (N : FunctionOf c → Type 0) : Type 0 where
    pub generators : List (FunctionOf c)
    pub spanned : SameSet N (Span (ring_of c).ops (IsFiniteAtInfinity c) generators)
    pub exponent : FunctionOf c → ℕ
    pub taken : (z : FunctionOf c) → N ((ring_of c).◌⊗◌ (pow (ring_of c).ops (setting_of c).one_over_x (exponent z)) z)

  -- x^m·N
  abbrev pub multiples_of : (FunctionOf c → Type 0) → ℤ → FunctionOf c → Type 0
  multiples_of N m z = N ((ring_of c).◌⊗◌ (x_to (setting_of c) (neg_ℤ m)) z)

  -- b is a basis of I over the polynomials, and the sum of the r_i·b_i is in x^m·N exactly where each r_i has degree
  -- at most m - d_i
  abbrev pub IsReducedBasis : (FunctionOf c → Type 0) → (FunctionOf c → Type 0) → List (FunctionOf c) → (ℕ → ℤ) → Type 0
  IsReducedBasis I N b d = IsReducedBasisOfPair (code_ring k) (polynomial_ops c) (degree_of_y c) I (multiples_of N) b d

  -- b is a basis of I over the polynomials, and the x^(-d_i)·b_i are one of N over the fractions of degree at most 0
  pub record IsBasisOfBoth (I N : FunctionOf c → Type 0) (bs : List (FunctionOf c)) (ds : List ℤ) : Type 0 where
    pub count : length bs ≡ degree_of_y c
    pub one_each : length ds ≡ degree_of_y c
    pub finite : SpansOnce (setting_of c) Finite I bs
    pub infinite : SpansOnce (setting_of c) Infinite N (shifted (setting_of c) ds bs)
