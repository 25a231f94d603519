-- The constants of a function field by their basis over k, and by the basis of the two orders that it is read from.
use Rattle.std.specs.Prelude.{◌≡◌, ◌≤ℤ◌, ◌-◌, ◌*◌, ◌/◌, ◌+ℤ◌, pos, map, All}
use Rattle.ff_fields.specs.Field.{CodeField}
use Rattle.function_field.specs.Divisors.{IsConstant, IsSpaceBasis}
use Rattle.function_field.specs.Values.{IsElem, setting, function_of, equation_of}
use Rattle.linear_theory.specs.Lists.{entry}
use Rattle.reduced_basis_theory.specs.Degree.{degree_sum}
use Rattle.space_theory.specs.Spaces.{IsBasisOfBoth}
use Rattle.ff_lattice.specs.Lattices.{Contains, pivot_degree_of}
use Rattle.split_theory.specs.Splits.{AtInfinity}
use Rattle.ff_split.specs.Splits.{SplitValue, IsLowestElem, IsInOrder, IsSplitForm}
use Rattle.ff_space.specs.Spaces.{SpaceValue, IsPrintedSpace}
use Rattle.ff_rr.specs.Frames.{FrameValue}

-- a space of functions by its printed basis over k, with the basis of both orders that it is read from
pub record SpaceBasisValue : Type 0 where
  pub split : SplitValue
  pub space : SpaceValue

module _ (k : CodeField) (f : FrameValue) where
  -- the one basis of both orders of a frame that is read from a Popov basis, by ascending degrees
  pub record IsSplitOf (s : SplitValue) : Type 0 where
    pub both :
        IsBasisOfBoth (equation_of k f.curve.fin) (Contains k f.curve.fin f.fin) (AtInfinity k f.curve f.inf)
        (map (function_of k f.curve.fin) s.basis) s.degrees
    pub form : IsSplitForm k f.curve f.fin f.inf s
    pub elements : All (IsElem k.ops f.curve.fin.n) s.basis
    pub lowest : All (IsLowestElem k.ops f.curve.fin.n) s.basis
    pub ascending : IsInOrder ◌≤ℤ◌ s.degrees
    pub sum :
        degree_sum f.curve.fin.n (entry (pos 0) s.degrees)
        ≡ (pivot_degree_of f.fin +ℤ pivot_degree_of f.inf)
        +ℤ pos (f.curve.c * (f.curve.fin.n * (f.curve.fin.n - 1)) / 2)

  -- the constants: the functions are their printed basis over k, read from the basis of both orders
  pub record IsConstantSpace (s : SpaceBasisValue) : Type 0 where
    pub split : IsSplitOf s.split
    pub printed : IsPrintedSpace k f.curve.fin (IsConstant (setting k f.curve.fin)) s.space
    pub elements : All (IsElem k.ops f.curve.fin.n) s.space.functions
    pub basis :
        IsSpaceBasis (setting k f.curve.fin) (IsConstant (setting k f.curve.fin))
        (map (function_of k f.curve.fin) s.space.functions)
