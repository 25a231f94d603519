-- Elements times powers of x: the list of all x^j·b_i with 0 ≤ j ≤ -d_i.
use Rattle.std.specs.Prelude.{ℕ, zero, suc, ℤ, pos, ◌-ℤ◌, List, [], ◌∷◌, ◌++◌, map}
use Rattle.linear_theory.specs.Lists.{entry}
use Rattle.ff_fields.specs.Field.{CodeField}
use Rattle.ff_fields.specs.Code.{code_ring}
use Rattle.ff_poly.specs.Words.{shifted}
use Rattle.function_field.specs.Values.{ElemValue, PresValue, Functions, function_of, equation_of}
use Rattle.lattice_theory.specs.Lattices.{polynomial_ops}
use Rattle.reduced_basis_theory.specs.Degree.{size}
use Rattle.reduced_basis_theory.specs.Reduced.{layers}

-- x times the element
abbrev pub x_times : ElemValue → ElemValue
x_times z = record { num = map (λ v. shifted v 1) z.num; den = z.den }

-- z, x·z, and so on, so many
abbrev pub multiples_of : ℕ → ElemValue → List ElemValue
multiples_of zero z = []
multiples_of (suc l) z = z ∷ multiples_of l (x_times z)

-- those of each element, as many as its degree asks for
abbrev pub layers_of : List ElemValue → List ℤ → List ElemValue
layers_of [] ds = []
layers_of (z ∷ zs) [] = []
layers_of (z ∷ zs) (d ∷ ds) = multiples_of (size (pos 0 -ℤ d)) z ++ layers_of zs ds

-- the functions x^j·b_i with 0 ≤ j ≤ -d_i, for the functions b_i of the elements
abbrev pub layer_functions : (k : CodeField) (p : PresValue) → List ElemValue → List ℤ → List (Functions k p)
layer_functions k p zs ds =
    layers (code_ring k) (polynomial_ops (equation_of k p)) (map (function_of k p) zs)
    (λ i. size (pos 0 -ℤ entry (pos 0) ds i))
