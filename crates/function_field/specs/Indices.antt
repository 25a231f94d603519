-- The index of a set of functions in a larger one: the dimension over k of the one modulo the other (Stichtenoth,
-- Algebraic Function Fields and Codes, chapter 1).
use Rattle.std.specs.Prelude.{◌≡◌, ℕ, List, length}
use Rattle.ring_lemmas.specs.Polynomials.{constant}
use Rattle.linear_theory.specs.Module.{ModuleOps, restricted_ops}
use Rattle.linear_theory.specs.Basis.{IsBasis}
use Rattle.ff_fields.specs.Field.{CodeField}
use Rattle.ff_fields.specs.Code.{Code, code_ring}
use Rattle.function_field.specs.Functions.{Equation, FunctionOf, ring_of, of_poly}

module _ {k : CodeField} (c : Equation k) where
  -- the functions as a vector space over k
  abbrev pub space_ops : ModuleOps (Code k) (FunctionOf c)
  space_ops = restricted_ops (ring_of c).ops (λ a. of_poly c (constant (code_ring k) a))

  -- B has the dimension g over k modulo A: a list of g functions is a basis of B modulo A
  pub record HasIndex (A B : FunctionOf c → Type 0) (g : ℕ) : Type 0 where
    pub basis : List (FunctionOf c)
    pub is : IsBasis (code_ring k).ops space_ops A B basis
    pub count : length basis ≡ g
