-- The lattices of the functions that are integral over the ring of a side (Stichtenoth, chapter 3).
use Rattle.std.specs.Prelude.{◌≡◌, ℕ, ◌↔◌, List, ◌∷◌, [], ◌++◌, map, replicate}
use Rattle.ring_theory.specs.Subsets.{Span}
use Rattle.ff_fields.specs.Field.{CodeField}
use Rattle.function_field.specs.declared.side.Side.{Side}
use Rattle.function_field.specs.declared.side.Side.TheVariants.{Finite, Infinite}
use Rattle.function_field.specs.Places.{IsIntegralAt}
use Rattle.function_field.specs.Values.{ElemValue, PresValue, IsElem, Functions, functions, setting}
use Rattle.function_field.specs.Infinity.{StandsFor, function_on, IsPolynomialOn}
use Rattle.function_field.specs.Curves.{CurveValue}
use Rattle.ff_lattice.specs.Lattices.{LatticeValue, IsLatticeValue, row_elems}

-- the presentation of a side
abbrev pub presentation : CurveValue → Side → PresValue
presentation c Finite = c.fin
presentation c Infinite = c.inf

module _ (k : CodeField) (c : CurveValue) where
  -- the combinations of gs over R_s are O_s, the functions that are integral over R_s
  abbrev pub SpansIntegral : Side → List (Functions k c.fin) → Type 0
  SpansIntegral s gs = (z : Functions k c.fin) → Span (functions k c.fin).ops ((setting k c.fin).IsScalar s) gs z
      ↔ IsIntegralAt (setting k c.fin) s z

  -- k[t, 1/t][Y]: z is an element of the infinite presentation over t^exponent
  pub record IsOverPowerOfT (z : Functions k c.fin) : Type 0 where
    pub element : ElemValue
    pub in_range : IsElem k.ops c.inf.n element
    pub exponent : ℕ
    pub power : element.den ≡ replicate exponent 0 ++ 1 ∷ []
    pub stands : StandsFor k c.fin c.c Infinite element z

  -- On the infinite side the combinations of gs over k[t] are the members of O_inf in k[t, 1/t][Y]. On the finite side
  -- R_s is the ring of the lattice's coefficients already, and nothing more is asked.
  abbrev pub SpansOverPowersOfT : Side → List (Functions k c.fin) → Type 0
  SpansOverPowersOfT Finite gs = Unit {0}
  SpansOverPowersOfT Infinite gs =
      (z : Functions k c.fin)
      → Span (functions k c.fin).ops (IsPolynomialOn k c.fin Infinite) gs z
      ↔ (IsIntegralAt (setting k c.fin) Infinite z × IsOverPowerOfT z)

  -- the lattice of a side's integral functions
  pub record IsIntegralLattice (s : Side) (l : LatticeValue) : Type 0 where
    pub form : IsLatticeValue k.ops (presentation c s).n l
    pub span : SpansIntegral s (map (function_on k c.fin c.c s) (row_elems l))
    pub whole : SpansOverPowersOfT s (map (function_on k c.fin c.c s) (row_elems l))
