-- The dimension over k of the functions over the sum of the two members of a pair.
use Rattle.std.proofs.Common.{◌≡◌, ℕ, ℤ, pos, List, arith}
use Rattle.std.proofs.lemmas.Int.{ints}
use Rattle.ff_fields.specs.Field.{CodeField}
use Rattle.ff_fields.specs.Code.{code_ring, code_field}
use Rattle.function_field.specs.Functions.{Equation, FunctionOf, degree_of_y}
use Rattle.linear_theory.specs.Basis.{IsSum}
use Rattle.function_field.specs.Indices.{HasIndex, space_ops}
use Rattle.lattice_theory.proofs.Bases.{index_same}
use Rattle.reduced_basis_theory.specs.Degree.{genus_sum}
use Rattle.reduced_basis_theory.proofs.Laws.{genus_dimension}
use Rattle.space_theory.specs.Spaces.{multiples_of, IsReducedBasis}
use Rattle.space_theory.proofs.FunctionModule.{functions_module, division}
use Rattle.space_theory.proofs.InfiniteIndices.{level_zero}

module _ {k : CodeField} (c : Equation k) where
  same_natural : (g h : ℕ) → pos g ≡ pos h → g ≡ h
  same_natural g h e = omega (arith, ints)

  pub genus_index : (I N : FunctionOf c → Type 0) (bs : List (FunctionOf c)) (d : ℕ → ℤ) → IsReducedBasis c I N bs d
      → HasIndex c (IsSum (space_ops c) I N) (λ z. Unit {0}) (genus_sum (degree_of_y c) d)
  genus_index I N bs d reduced =
      let h = genus_dimension (code_ring k) (code_field k) (functions_module c) (degree_of_y c) I (multiples_of c N)
      bs d reduced (division c) in
      index_same c (IsSum (space_ops c) I (multiples_of c N (pos 0))) (IsSum (space_ops c) I N) (λ z. Unit {0})
      (λ z. Unit {0})
      (λ z. (
        λ m. record {
          left = m.left;
          left_in = m.left_in;
          right = m.right;
          right_in = (level_zero c N m.right).0 m.right_in;
          is = m.is;
        },
        λ m. record {
          left = m.left;
          left_in = m.left_in;
          right = m.right;
          right_in = (level_zero c N m.right).1 m.right_in;
          is = m.is;
        },
      ))
      (λ z. (λ m. m, λ m. m)) _ (record { basis = h.basis; is = h.is; count = same_natural _ _ h.size })
