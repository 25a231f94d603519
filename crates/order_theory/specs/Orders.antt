-- Orders of F: lattices that are rings; and what is prime to a polynomial.
use Rattle.std.specs.Prelude.{◌≡◌}
use Rattle.function_field.specs.declared.side.Side.TheVariants.{Finite}
use Rattle.function_field.specs.Places.{IsIntegralAt}
use Rattle.ring_theory.specs.Subsets.{IsSubring}
use Rattle.linear_theory.specs.Euclidean.{IsDivisorIn}
use Rattle.ff_fields.specs.Field.{CodeField}
use Rattle.ff_poly.specs.Polynomials.{Polynomial, polynomials}
use Rattle.function_field.specs.Functions.{Equation, FunctionOf, ring_of, of_poly, setting_of}
use Rattle.lattice_theory.specs.Lattices.{IsLattice}
use Rattle.prime_theory.specs.Orders.{Enlarged}

module _ {k : CodeField} (c : Equation k) where
  -- a lattice with 1 that is closed under products
  pub record IsOrder (O : FunctionOf c → Type 0) : Type 0 where
    pub lattice : IsLattice c O
    pub ring : IsSubring (ring_of c).ops O

  -- a polynomial that p doesn't divide
  pub record IsPrimeTo (p : Polynomial k) (z : FunctionOf c) : Type 0 where
    pub polynomial : Polynomial k
    pub not_divided : ¬ IsDivisorIn (polynomials k).ops p polynomial
    pub value : z ≡ of_poly c polynomial

  -- the integral functions that a power of p takes into O
  abbrev pub TakenByPowers : Polynomial k → (FunctionOf c → Type 0) → FunctionOf c → Type 0
  TakenByPowers p O = Enlarged (ring_of c) (IsIntegralAt (setting_of c) Finite) (of_poly c p) O

  -- M is O up to functions prime to p: one takes M into O, and one is in M
  pub record IsOrderUpTo (p : Polynomial k) (O M : FunctionOf c → Type 0) : Type 0 where
    pub factor : FunctionOf c
    pub factor_in : IsPrimeTo p factor
    pub takes : (z : FunctionOf c) → M z → O ((ring_of c).◌⊗◌ factor z)
    pub member : FunctionOf c
    pub member_in : IsPrimeTo p member
    pub has : M member
