-- Lattices over the polynomials, with the words of the theory of reduced bases.
use Rattle.std.proofs.Common.{ℕ, suc, ◌<◌, List, [], ◌∷◌, refl, sym, ◌∙◌, ap, ap₂, subst}
use Rattle.ring_theory.specs.Subsets.{Span}
use Rattle.ring_theory.proofs.Subsets.{span_least}
use Rattle.ff_fields.specs.Field.{CodeField}
use Rattle.ff_fields.specs.Code.{code_ring}
use Rattle.ff_poly.specs.Polynomials.{Polynomial, polynomials}
use Rattle.function_field.specs.Functions.{Equation, FunctionOf, ring_of, of_poly, degree_of_y, IsPolynomial}
use Rattle.function_field.proofs.ScalarRings.{polynomials_subring}
use Rattle.linear_theory.specs.Module.{combine}
use Rattle.linear_theory.specs.Lists.{insert}
use Rattle.lattice_theory.specs.Lattices.{IsLattice, polynomial_ops}
use Rattle.lattice_theory.proofs.Bases.{lattice_basis}
use Rattle.lattice_theory.proofs.Lattices.{lattice_module}
use Rattle.reduced_basis_theory.specs.Reduced.{InLattice, IsLatticeBasis}

module _ {k : CodeField} (c : Equation k) where
  infixl 65 ◌⊕◌
  infixl 70 ◌⊗◌
  open ring_of c use {𝟘, 𝟙, ◌⊕◌, ◌⊗◌}

  -- a span is what the combinations of the list are
  pub lattice_of_span : (bs : List (FunctionOf c)) (z : FunctionOf c) → Span (ring_of c).ops (IsPolynomial c) bs z
      → InLattice (code_ring k) (polynomial_ops c) bs z
  lattice_of_span [] z m = record { coefficient = λ i. (polynomials k).𝟘; is = m }
  lattice_of_span (b ∷ bs) z m =
      let r = lattice_of_span bs m.rest m.rest_in in
      record {
        coefficient = insert 0 m.scalar_in.polynomial r.coefficient;
        is = m.is ∙ ap₂ (λ s w. s ⊗ b ⊕ w) m.scalar_in.value r.is;
      }

  combination_in : (bs : List (FunctionOf c)) (e : ℕ → Polynomial k)
      → Span (ring_of c).ops (IsPolynomial c) bs (combine (polynomial_ops c) e bs)
  combination_in [] e = refl
  combination_in (b ∷ bs) e = record {
    scalar = of_poly c (e 0);
    scalar_in = record { polynomial = e 0; value = refl };
    rest = combine (polynomial_ops c) (λ i. e (suc i)) bs;
    rest_in = combination_in bs (λ i. e (suc i));
    is = refl;
  }

  pub span_of_lattice : (bs : List (FunctionOf c)) (z : FunctionOf c)
      → InLattice (code_ring k) (polynomial_ops c) bs z → Span (ring_of c).ops (IsPolynomial c) bs z
  span_of_lattice bs z m = subst (Span (ring_of c).ops (IsPolynomial c) bs) (sym m.is) (combination_in bs m.coefficient)

  -- a lattice has a basis in this sense
  pub basis_of_lattice : (L : FunctionOf c → Type 0) → IsLattice c L
      → (bs : List (FunctionOf c)) × IsLatticeBasis (code_ring k) (polynomial_ops c) (degree_of_y c) L bs
  basis_of_lattice L 𝓛 =
      let b = lattice_basis c L 𝓛 in (
        b.0,
        record {
          count = b.1;
          free = λ p e i l. b.2.independent p e i (subst (λ n. i < n) (sym b.1) l);
          coordinates = λ z.
              let f = 𝓛.full z in
              let s = b.2.spanning _ f.multiple_in in
              record {
                denominator = f.factor;
                nonzero = f.some;
                coefficient = s.coefficient;
                is = s.is ∙ ap (λ w. combine (polynomial_ops c) s.coefficient b.0 ⊕ w) s.rest_in
                    ∙ (ring_of c).add_zero _;
              };
          lattice = λ z. (
            λ m.
                let s = b.2.spanning z m in
                record {
                  coefficient = s.coefficient;
                  is = s.is ∙ ap (λ w. combine (polynomial_ops c) s.coefficient b.0 ⊕ w) s.rest_in
                      ∙ (ring_of c).add_zero _;
                },
            λ m. span_least (ring_of c) (IsPolynomial c) (polynomials_subring c) L (lattice_module c L 𝓛) b.0
                b.2.members_in z (span_of_lattice b.0 z m),
          );
        },
      )
