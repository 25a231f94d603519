-- The functions of elements times powers of x.
use Rattle.std.proofs.Common.{◌≡◌, ℕ, zero, suc, ◌-◌, ℤ, pos, ◌-ℤ◌, List, [], ◌∷◌, ◌++◌, length, map, replicate, refl, sym, ◌∙◌, ap, ap₂, arith, All}
use Rattle.std.proofs.lemmas.List.{map-append}
use Rattle.std.proofs.lemmas.List.Elements.{All-nil, All-cons, All-head, All-tail, All-append}
use Rattle.ring_lemmas.specs.Ring.{CommRing}
use Rattle.ring_lemmas.specs.Rows.{Row, row_scale}
use Rattle.ring_lemmas.proofs.Ring.{mul_zero}
use Rattle.ring_lemmas.proofs.Rows.{pair_path}
use Rattle.ff_fields.specs.Field.{CodeField}
use Rattle.ff_fields.specs.Code.{code_ring}
use Rattle.ff_fields.specs.Over.{IsOver, IsOver_append, IsOver_trim, IsOver_zeros}
use Rattle.ff_poly.specs.Words.{shifted}
use Rattle.ff_poly.specs.Value.{value}
use Rattle.ff_poly.specs.Polynomials.{Polynomial, polynomials, polynomials_domain, polynomial_discrete, x_poly}
use Rattle.function_field.specs.Functions.{Equation, function, over, of_poly}
use Rattle.function_field.specs.Values.{ElemValue, PresValue, functions, IsElem, function_of, equation_of, row_of_list, row_over, over_checked}
use Rattle.lattice_theory.specs.Lattices.{polynomial_ops}
use Rattle.reduced_basis_theory.specs.Degree.{size}
use Rattle.reduced_basis_theory.specs.Reduced.{multiples}
use Rattle.space_theory.proofs.FunctionModule.{variable_is}
use Rattle.ff_lattice.proofs.Fracs.{over_scale}
use Rattle.ff_lattice.proofs.Spaces.{value_shifted}
use Rattle.ff_space.specs.Layers.{x_times, multiples_of, layers_of, layer_functions}

module _ (k : CodeField) where
  abbrev P : CommRing (Polynomial k)
  P = (polynomials k).ring

  shifted_row : (n : ℕ) (vs : List (List ℕ)) → All (IsOver k.ops) vs
      → row_of_list k n (map (λ v. shifted v 1) vs) ≡ row_scale P.ops n (x_poly k) (row_of_list k n vs)
  unfolding row_scale
  shifted_row zero vs over = refl
  shifted_row (suc n) [] over = pair_path (sym (mul_zero P (x_poly k))) (shifted_row n [] (All-nil (IsOver k.ops)))
  shifted_row (suc n) (v ∷ vs) over =
      pair_path (value_shifted k v 1 (All-head (IsOver k.ops) v vs over))
      (shifted_row n vs (All-tail (IsOver k.ops) v vs over))

  shifted_over : (vs : List (List ℕ)) → All (IsOver k.ops) vs → All (IsOver k.ops) (map (λ v. shifted v 1) vs)
  shifted_over [] over = All-nil (IsOver k.ops)
  shifted_over (v ∷ vs) over =
      All-cons (IsOver k.ops) (shifted v 1) (map (λ v. shifted v 1) vs)
      (IsOver_trim (replicate 1 0 ++ v) (IsOver_append (IsOver_zeros k 1) (All-head (IsOver k.ops) v vs over)))
      (shifted_over vs (All-tail (IsOver k.ops) v vs over))

  shifted_count : (vs : List (List ℕ)) → length (map (λ v. shifted v 1) vs) ≡ length vs
  shifted_count [] = refl
  shifted_count (v ∷ vs) = ap suc (shifted_count vs)

  pub x_times_elem : (n : ℕ) (z : ElemValue) → IsElem k.ops n z → IsElem k.ops n (x_times z)
  x_times_elem n z h = record {
    one_each = shifted_count z.num ∙ h.one_each;
    num_over = shifted_over z.num h.num_over;
    den_over = h.den_over;
  }

  pub multiples_in : (n l : ℕ) (z : ElemValue) → IsElem k.ops n z → All (IsElem k.ops n) (multiples_of l z)
  multiples_in n zero z h = All-nil (IsElem k.ops n)
  multiples_in n (suc l) z h =
      All-cons (IsElem k.ops n) z (multiples_of l (x_times z)) h (multiples_in n l (x_times z) (x_times_elem n z h))

  pub layers_in : (n : ℕ) (zs : List ElemValue) (ds : List ℤ) → All (IsElem k.ops n) zs
      → All (IsElem k.ops n) (layers_of zs ds)
  layers_in n [] ds h = All-nil (IsElem k.ops n)
  layers_in n (z ∷ zs) [] h = All-nil (IsElem k.ops n)
  layers_in n (z ∷ zs) (d ∷ ds) h =
      All-append (IsElem k.ops n) (multiples_of (size (pos 0 -ℤ d)) z) (layers_of zs ds)
      (multiples_in n (size (pos 0 -ℤ d)) z (All-head (IsElem k.ops n) z zs h))
      (layers_in n zs ds (All-tail (IsElem k.ops n) z zs h))

  module _ (p : PresValue) where
    abbrev c : Equation k
    c = equation_of k p

    checked : (v : Row (Polynomial k) (suc (p.n - 1))) (d : Polynomial k) (h : Dec (d ≡ (polynomials k).𝟘))
        → function c (over_checked c (row_scale P.ops (suc (p.n - 1)) (x_poly k) v) d h)
        ≡ (functions k p).◌⊗◌ (of_poly c (x_poly k)) (function c (over_checked c v d h))
    unfolding over_checked
    checked v d (yes e) = sym (over_scale c (x_poly k) v (polynomials k).𝟙 (polynomials_domain k).one_not_zero)
    checked v d (no n) = sym (over_scale c (x_poly k) v d n)

    x_function : (z : ElemValue) → All (IsOver k.ops) z.num
        → function_of k p (x_times z)
        ≡ (functions k p).◌⊗◌ (of_poly (equation_of k p) (x_poly k)) (function_of k p z)
    unfolding row_over
    x_function z over =
        let h = polynomial_discrete k (value k z.den) (polynomials k).𝟘 in
        ap (λ v. function c (over_checked c v (value k z.den) h)) (shifted_row (suc (p.n - 1)) z.num over)
        ∙ checked (row_of_list k (suc (p.n - 1)) z.num) (value k z.den) h

    multiples_functions : (n l : ℕ) (z : ElemValue) → IsElem k.ops n z
        → map (function_of k p) (multiples_of l z)
        ≡ multiples (code_ring k) (polynomial_ops (equation_of k p)) l (function_of k p z)
    multiples_functions n zero z h = refl
    multiples_functions n (suc l) z h =
        ap (λ fs. function_of k p z ∷ fs)
        (multiples_functions n l (x_times z) (x_times_elem n z h)
        ∙ ap (multiples (code_ring k) (polynomial_ops c) l)
        (x_function z h.num_over
        ∙ ap (λ a. (functions k p).◌⊗◌ (of_poly c a) (function_of k p z)) (sym (variable_is k))))

    pub layers_functions : (n : ℕ) (zs : List ElemValue) (ds : List ℤ) → length zs ≡ length ds
        → All (IsElem k.ops n) zs
        → map (function_of k p) (layers_of zs ds) ≡ layer_functions k p zs ds
    layers_functions n [] ds size_is h = refl
    layers_functions n (z ∷ zs) [] size_is h = absurd (omega arith)
    layers_functions n (z ∷ zs) (d ∷ ds) size_is h =
        map-append (function_of k p) (multiples_of (size (pos 0 -ℤ d)) z) (layers_of zs ds)
        ∙ ap₂ ◌++◌ (multiples_functions n (size (pos 0 -ℤ d)) z (All-head (IsElem k.ops n) z zs h))
        (layers_functions n zs ds (omega arith) (All-tail (IsElem k.ops n) z zs h))
