-- Lattices: modules over k[x] that finitely many functions span and that have a multiple of each function (Stichtenoth,
-- Algebraic Function Fields and Codes, chapter 3).
use Rattle.std.specs.Prelude.{◌≡◌, List}
use Rattle.ring_theory.specs.Subsets.{Span}
use Rattle.prime_theory.specs.Ideals.{SameSet}
use Rattle.linear_theory.specs.Module.{ModuleOps, restricted_ops}
use Rattle.linear_theory.specs.Basis.{IsBasis, IsNull}
use Rattle.ff_fields.specs.Field.{CodeField}
use Rattle.ff_poly.specs.Polynomials.{Polynomial, polynomials}
use Rattle.function_field.specs.Functions.{Equation, FunctionOf, ring_of, of_poly, IsPolynomial}

module _ {k : CodeField} (c : Equation k) where
  -- a multiple of z by a polynomial other than 0 is in L
  pub record HasMultiple (L : FunctionOf c → Type 0) (z : FunctionOf c) : Type 0 where
    pub factor : Polynomial k
    pub some : ¬ (factor ≡ (polynomials k).𝟘)
    pub multiple_in : L ((ring_of c).◌⊗◌ (of_poly c factor) z)

  -- L is spanned by finitely many functions over the polynomials, and has a multiple of each function
  pub record IsLattice (L : FunctionOf c → Type 0) : Type 0 where
    pub generators : List (FunctionOf c)
    pub spanned : SameSet L (Span (ring_of c).ops (IsPolynomial c) generators)
    pub full : (z : FunctionOf c) → HasMultiple L z

  -- the functions as a module over the polynomials
  abbrev pub polynomial_ops : ModuleOps (Polynomial k) (FunctionOf c)
  polynomial_ops = restricted_ops (ring_of c).ops (of_poly c)

  -- a basis of L over the polynomials: each member is a combination of the list, in one way only
  abbrev pub IsBasisOf : (FunctionOf c → Type 0) → List (FunctionOf c) → Type 0
  IsBasisOf L bs = IsBasis (polynomials k).ops polynomial_ops (IsNull polynomial_ops) L bs
