-- The constants of F by their coordinates in a basis over k, with the products of the basis as structure constants
-- (Hess, Computing Riemann-Roch spaces in algebraic function fields; Lang, Algebra).
use Rattle.std.specs.Prelude.{◌≡◌, ◌↔◌, ◌<◌, ℕ, List, length, map, replicate, All}
use Rattle.ring_lemmas.specs.Lists.{add_lists, scale_list}
use Rattle.ring_theory.specs.Subsets.{products}
use Rattle.ff_fields.specs.Field.{CodeField}
use Rattle.ff_fields.specs.Code.{raw_ring}
use Rattle.ff_poly.specs.Polynomials.{constant_poly}
use Rattle.function_field.specs.Functions.{Equation, FunctionOf, ring_of, setting_of, of_poly}
use Rattle.function_field.specs.Divisors.{IsConstant}
use Rattle.function_field.specs.Spans.{combination}
use Rattle.ff_falg.specs.Algebras.{IsVector}
use Rattle.ff_structure.specs.Structures.{StructureValue, IsStructure, structure_algebra, table_product}
use Rattle.ff_structure.specs.Idempotents.{IsProperIdempotentVector}
use Rattle.constants_theory.specs.Idempotents.{IsProperIdempotentOf}

module _ {k : CodeField} (c : Equation k) where
  infixl 65 ◌⊕◌
  infixl 70 ◌⊗◌
  open ring_of c use {𝟘, 𝟙, ◌⊕◌, ◌⊗◌}

  -- the code a as a function
  abbrev pub code_function : ℕ → FunctionOf c
  code_function a = of_poly c (constant_poly k a)

  -- the function with the coordinates v: the sum of v_i times function i of the basis
  abbrev pub function_at : List (FunctionOf c) → List ℕ → FunctionOf c
  function_at bs v = combination (ring_of c).ops (map code_function v) bs

  -- the structure's vectors are the coordinates of 1, and of the products of any two functions of the list, in the order
  -- of the table
  pub record IsStructureOf (bs : List (FunctionOf c)) (s : StructureValue) : Type 0 where
    pub one_in : IsVector k.ops (length bs) s.one
    pub one_is : function_at bs s.one ≡ 𝟙
    pub products_in : All (IsVector k.ops (length bs)) s.table
    pub products_are : map (function_at bs) s.table ≡ products (ring_of c).ops bs bs

  -- the vectors of codes, with the product of the structure, are the constants: each is the function with one vector
  pub record AreConstants (bs : List (FunctionOf c)) (s : StructureValue) : Type 0 where
    pub members : (v : List ℕ) → IsVector k.ops (length bs) v → IsConstant (setting_of c) (function_at bs v)
    pub all : (z : FunctionOf c) → IsConstant (setting_of c) z
        → (v : List ℕ) × IsVector k.ops (length bs) v × (z ≡ function_at bs v)
    pub once : (v w : List ℕ) → IsVector k.ops (length bs) v → IsVector k.ops (length bs) w
        → function_at bs v ≡ function_at bs w → v ≡ w
    pub zero_is : function_at bs (replicate (length bs) 0) ≡ 𝟘
    pub one_is : function_at bs s.one ≡ 𝟙
    pub sum_is : (v w : List ℕ) → IsVector k.ops (length bs) v → IsVector k.ops (length bs) w
        → function_at bs (add_lists (raw_ring k.ops) v w) ≡ function_at bs v ⊕ function_at bs w
    pub multiple_is : (a : ℕ) (v : List ℕ) → a < k.size → IsVector k.ops (length bs) v
        → function_at bs (scale_list (raw_ring k.ops) a v) ≡ code_function a ⊗ function_at bs v
    pub product_is : (v w : List ℕ) → IsVector k.ops (length bs) v → IsVector k.ops (length bs) w
        → function_at bs (table_product s k.ops v w) ≡ function_at bs v ⊗ function_at bs w

  -- the idempotents other than 0 and 1 are the functions with such vectors
  pub record HaveSameIdempotents (bs : List (FunctionOf c)) (s : StructureValue) : Type 0 where
    pub members : (v : List ℕ) → IsVector k.ops (length bs) v
        → IsProperIdempotentVector k.ops (structure_algebra s) v ↔ IsProperIdempotentOf c (function_at bs v)
    pub all : (e : FunctionOf c) → IsProperIdempotentOf c e
        → (v : List ℕ) × IsProperIdempotentVector k.ops (structure_algebra s) v × (e ≡ function_at bs v)
