-- k[x] modulo a monic polynomial g of degree n, on lists of n codes: the coordinates for the basis 1, x, up to x^(n-1)
-- (Lang, Algebra).
use Rattle.std.specs.Prelude.{ℕ, ◌-◌, ◌≤◌, List, [], ◌∷◌, length, replicate, slice_index, take}
use Rattle.ff_fields.specs.Field.{FieldOps}
use Rattle.ff_fields.specs.Code.{raw_ring}
use Rattle.ff_fields.specs.Over.{IsOver}
use Rattle.ring_lemmas.specs.Lists.{add_lists, scale_list}
use Rattle.ff_poly.specs.Words.{IsMonicList, DividesList, difference_of}
use Rattle.ff_falg.specs.Algebras.{AlgebraOps, IsVector}

-- monic over the field, of degree 1 or more
pub record IsModulus (k : FieldOps) (g : List ℕ) : Type 0 where
  pub over : IsOver k g
  pub monic : IsMonicList g
  pub not_constant : 2 ≤ length g

-- monic of degree 1 or more
pub record IsMonicOverOne (g : List ℕ) : Type 0 where
  pub monic : IsMonicList g
  pub not_constant : 2 ≤ length g

-- x times v: the codes move up one position, and the code that comes to the position of the leading 1 of g is taken
-- away times g
abbrev pub times_x : FieldOps → List ℕ → List ℕ → List ℕ
times_x k g v =
    let n = length g - 1 in add_lists (raw_ring k) (take n (0 ∷ v))
    (scale_list (raw_ring k) (k.neg (slice_index v (n - 1))) (take n g))

-- a times b: with a = c + x·a', it is x·(a'·b) + c·b
abbrev pub product_modulo : FieldOps → List ℕ → List ℕ → List ℕ → List ℕ
product_modulo k g [] b = replicate (length g - 1) 0
product_modulo k g (c ∷ a) b = add_lists (raw_ring k) (times_x k g (product_modulo k g a b))
    (scale_list (raw_ring k) c b)

-- k[x] modulo g
abbrev pub quotient_algebra : List ℕ → AlgebraOps
quotient_algebra g = record {
  size = length g - 1;
  unit = 1 ∷ replicate (length g - 1 - 1) 0;
  product = λ k a b. product_modulo k g a b;
}

-- r is what a polynomial leaves modulo g: g divides the difference, and r has as many codes as the degree of g says, so
-- that it stands for a polynomial of lower degree
pub record IsResidue (k : FieldOps) (g p r : List ℕ) : Type 0 where
  pub vector : IsVector k (length g - 1) r
  pub congruent : DividesList k g (difference_of k p r)
