-- The index of a lattice at infinity in a larger one: there is one, it is one number, and it is the difference of the
-- sums of degrees.
use Rattle.std.proofs.Common.{◌≡◌, ℕ, ◌+◌, ℤ, pos, ◌-ℤ◌, List, [], ◌∷◌, ◌++◌, length, refl, sym, ◌∙◌, ap, subst, arith}
use Rattle.std.proofs.lemmas.List.{length-append}
use Rattle.ring_theory.specs.Subsets.{IsModule}
use Rattle.ring_lemmas.proofs.Ring.{one_mul}
use Rattle.ring_theory.proofs.Subsets.{span_module}
use Rattle.ring_lemmas.specs.Polynomials.{constant}
use Rattle.ring_theory.proofs.Evaluate.{length_trim}
use Rattle.prime_theory.specs.Ideals.{SameSet}
use Rattle.linear_theory.specs.Fields.{domain_of}
use Rattle.linear_theory.specs.Basis.{IsSubspace}
use Rattle.linear_theory.proofs.Exchange.{bases_same_length}
use Rattle.linear_theory.proofs.Dimension.{basis_tower}
use Rattle.ff_fields.specs.Field.{CodeField}
use Rattle.ff_fields.specs.Code.{Code, code_ring, code_field}
use Rattle.ff_poly.specs.Polynomials.{polynomials, polynomials_domain}
use Rattle.function_field.specs.Functions.{Equation, FunctionOf, ring_of, of_poly, degree_of_y, IsFiniteAtInfinity}
use Rattle.function_field.proofs.ScalarRings.{finite_at_infinity_subring}
use Rattle.trace_theory.specs.Traces.{HasPolynomialCoordinates}
use Rattle.function_field.specs.Indices.{HasIndex, space_ops}
use Rattle.lattice_theory.specs.Lattices.{polynomial_ops}
use Rattle.lattice_theory.proofs.Bases.{index_same}
use Rattle.lattice_theory.proofs.Indices.{codes, space}
use Rattle.lattice_theory.proofs.Operations.{polynomial_lattice}
use Rattle.reduced_basis_theory.specs.Degree.{degree_sum}
use Rattle.reduced_basis_theory.specs.Reduced.{HasDimension}
use Rattle.reduced_basis_theory.proofs.Count.{length_one}
use Rattle.reduced_basis_theory.proofs.Laws.{family_dimension}
use Rattle.space_theory.specs.Spaces.{IsLatticeAtInfinity, multiples_of, IsReducedBasis}
use Rattle.space_theory.proofs.FunctionModule.{functions_module, division}
use Rattle.space_theory.proofs.Pairs.{reduced_basis}

module _ {k : CodeField} (c : Equation k) where
  infixl 70 ◌⊗◌
  open ring_of c use {𝟙, ◌⊗◌}

  pub code_finite : (a : Code k) → IsFiniteAtInfinity c (of_poly c (constant (code_ring k) a))
  code_finite a = record {
    top = constant (code_ring k) a;
    bottom = (polynomials k).𝟙;
    not_null = (polynomials_domain k).one_not_zero;
    degrees = let l = length_one (code_ring k) (code_field k) in
        let m = length_trim (code_ring k).is_zero (a ∷ []) in omega (arith, l, m);
    value = refl;
  }

  pub infinite_module : (N : FunctionOf c → Type 0) → IsLatticeAtInfinity c N
      → IsModule (ring_of c).ops (IsFiniteAtInfinity c) N
  infinite_module N 𝓝 =
      let s = span_module (ring_of c) (IsFiniteAtInfinity c) (finite_at_infinity_subring c) 𝓝.generators in
      record {
        zero_in = (𝓝.spanned _).1 s.zero_in;
        sum_in = λ a b h h'. (𝓝.spanned _).1 (s.sum_in a b ((𝓝.spanned a).0 h) ((𝓝.spanned b).0 h'));
        scale_in = λ r a r_in h. (𝓝.spanned _).1 (s.scale_in r a r_in ((𝓝.spanned a).0 h));
      }

  pub infinite_space : (N : FunctionOf c → Type 0) → IsLatticeAtInfinity c N → IsSubspace (space_ops c) N
  infinite_space N 𝓝 =
      let m = infinite_module N 𝓝 in
      record { zero_in = m.zero_in; sum_in = m.sum_in; scale_in = λ a v h. m.scale_in _ v (code_finite a) h }

  -- N is x^0·N
  pub level_zero : (N : FunctionOf c → Type 0) → SameSet (multiples_of c N (pos 0)) N
  level_zero N z = (subst N (one_mul (ring_of c) z), subst N (sym (one_mul (ring_of c) z)))

  module _ (A B : FunctionOf c → Type 0) (𝓐 : IsLatticeAtInfinity c A) where
    pub infinite_index_once : (g h : ℕ) → HasIndex c A B g → HasIndex c A B h → g ≡ h
    infinite_index_once g h i j =
        sym i.count ∙ bases_same_length (domain_of (codes k)) (space c) A (infinite_space A 𝓐) B i.basis j.basis i.is
        j.is ∙ j.count

    module _ (𝓑 : IsLatticeAtInfinity c B) (within : (z : FunctionOf c) → A z → B z) where
      -- the difference of the sums of degrees, for any reduced bases with one lattice
      by_degrees : (I : FunctionOf c → Type 0) (a b : List (FunctionOf c)) (d e : ℕ → ℤ) → IsReducedBasis c I A a d
          → IsReducedBasis c I B b e
          → HasDimension (code_ring k) (polynomial_ops c) (multiples_of c A (pos 0)) (multiples_of c B (pos 0))
          (degree_sum (degree_of_y c) d -ℤ degree_sum (degree_of_y c) e)
      by_degrees I a b d e reduced reduced' =
          family_dimension (code_ring k) (code_field k) (functions_module c) (degree_of_y c) (division c) I
          (multiples_of c B) (multiples_of c A) b a e d reduced' reduced
          (λ m z h. within _ h)

      of_dimension : (l : ℤ) (h : HasDimension (code_ring k) (polynomial_ops c) (multiples_of c A (pos 0))
          (multiples_of c B (pos 0)) l) → HasIndex c A B (length h.basis)
      of_dimension l h =
          index_same c (multiples_of c A (pos 0)) A (multiples_of c B (pos 0)) B (level_zero A) (level_zero B)
          (length h.basis)
          (record { basis = h.basis; is = h.is; count = refl })

      pub infinite_index : (g : ℕ) × HasIndex c A B g
      infinite_index =
          let r = reduced_basis c (HasPolynomialCoordinates c) A (polynomial_lattice c) 𝓐 in
          let s = reduced_basis c (HasPolynomialCoordinates c) B (polynomial_lattice c) 𝓑 in
          let h = by_degrees (HasPolynomialCoordinates c) r.0 s.0 r.1 s.1 r.2 s.2 in
          (length h.basis, of_dimension _ h)

      pub infinite_index_degrees : (I : FunctionOf c → Type 0) (a b : List (FunctionOf c)) (d e : ℕ → ℤ)
          → IsReducedBasis c I A a d → IsReducedBasis c I B b e
          → (g : ℕ) → HasIndex c A B g → pos g ≡ degree_sum (degree_of_y c) d -ℤ degree_sum (degree_of_y c) e
      infinite_index_degrees I a b d e reduced reduced' g i =
          let h = by_degrees I a b d e reduced reduced' in
          ap pos (infinite_index_once g (length h.basis) i (of_dimension _ h)) ∙ h.size

  pub infinite_index_add : (A B C : FunctionOf c → Type 0) → IsLatticeAtInfinity c A → IsLatticeAtInfinity c B
      → IsLatticeAtInfinity c C
      → ((z : FunctionOf c) → A z → B z) → ((z : FunctionOf c) → B z → C z) → (g h : ℕ) → HasIndex c A B g
      → HasIndex c B C h → HasIndex c A C (g + h)
  infinite_index_add A B C 𝓐 𝓑 𝓒 inner outer g h i j = record {
    basis = j.basis ++ i.basis;
    is =
        basis_tower (codes k) (space c) A B C (infinite_space A 𝓐) (infinite_space B 𝓑) (infinite_space C 𝓒) inner outer
        i.basis j.basis i.is j.is;
    count = let e = i.count in let f = j.count in omega (arith, length-append j.basis i.basis);
  }
