-- Whether a function is in the span of a list up to a factor prime to p is decided: it is where the list with p times
-- the function spans it.
use Rattle.std.proofs.Common.{◌≡◌, ◌↔◌, List, [], ◌∷◌, refl, sym, ◌∙◌, ap, ap₂, subst}
use Rattle.ring_theory.specs.Subsets.{Span}
use Rattle.ring_lemmas.proofs.Solver.{ring, reads, from_one}
use Rattle.ring_theory.proofs.Subsets.{span_module}
use Rattle.ring_theory.proofs.RowMaps.{hom_neg}
use Rattle.ff_fields.specs.Field.{CodeField}
use Rattle.ff_poly.specs.Words.{IsIrreducibleList}
use Rattle.ff_poly.specs.Polynomials.{Polynomial, polynomials, codes_of}
use Rattle.function_field.specs.Functions.{Equation, FunctionOf, ring_of, of_poly, IsPolynomial}
use Rattle.function_field.proofs.ScalarRings.{polynomials_subring}
use Rattle.places_theory.proofs.YRoot.{poly_hom}
use Rattle.polynomial_theory.proofs.Irreducible.{irreducible}
use Rattle.lattice_theory.specs.Lattices.{IsLattice}
use Rattle.lattice_theory.proofs.Lattices.{span_decided}
use Rattle.order_theory.specs.Orders.{IsPrimeTo}
use Rattle.order_theory.proofs.LocalOrders.{prime_to}
use Rattle.infinite_theory.specs.Supported.{IsLocallyIn}

module _ {k : CodeField} (c : Equation k) (p : Polynomial k) (h : IsIrreducibleList k.ops (codes_of k p)) where
  infixl 65 ◌⊕◌
  infixl 70 ◌⊗◌
  infixr 80 ⊖◌
  open ring_of c use {𝟘, 𝟙, ◌⊕◌, ◌⊗◌, ⊖◌}

  abbrev Spanned : List (FunctionOf c) → FunctionOf c → Type 0
  Spanned gs = Span (ring_of c).ops (IsPolynomial c) gs

  -- 1 - p·b is prime to p
  one_less : (b : Polynomial k)
      → IsPrimeTo c p (of_poly c ((polynomials k).◌⊕◌ (polynomials k).𝟙 ((polynomials k).⊖◌ ((polynomials k).◌⊗◌ p b))))
  one_less b = record {
    polynomial = (polynomials k).◌⊕◌ (polynomials k).𝟙 ((polynomials k).⊖◌ ((polynomials k).◌⊗◌ p b));
    not_divided = λ d. (irreducible k p h).nonunit ((polynomials k).◌⊕◌ d.0 b, unit p b d.0 d.1);
    value = refl;
  }
    where
      unit : (p b d : Polynomial k)
          → (polynomials k).◌⊕◌ (polynomials k).𝟙 ((polynomials k).⊖◌ ((polynomials k).◌⊗◌ p b))
          ≡ (polynomials k).◌⊗◌ p d
          → (polynomials k).◌⊗◌ p ((polynomials k).◌⊕◌ d b) ≡ (polynomials k).𝟙
      unit p b d e =
          from_one (polynomials k).ring ((polynomials k).⊖◌ (polynomials k).𝟙) e
          (ring (polynomials k).ring (p ∷ b ∷ d ∷ []) λ q i. simp (reads, q, i 0, i 1, i 2) (q.equal _ _ refl))

  -- with p·z the list spans z where it does so up to a factor prime to p
  pub locally_spanned : (gs : List (FunctionOf c)) (z : FunctionOf c)
      → IsLocallyIn c p (Span (ring_of c).ops (IsPolynomial c) gs) z
      ↔ Span (ring_of c).ops (IsPolynomial c) (of_poly c p ⊗ z ∷ gs) z
  locally_spanned gs z = (to, from)
    where
      to : IsLocallyIn c p (Span (ring_of c).ops (IsPolynomial c) gs) z
          → Span (ring_of c).ops (IsPolynomial c) (of_poly c p ⊗ z ∷ gs) z
      to m = let b = (prime_to c p h).comaximal m.factor m.factor_in in record {
        scalar = b.right;
        scalar_in = b.right_in;
        rest = b.left ⊗ (m.factor ⊗ z);
        rest_in =
            (span_module (ring_of c) (IsPolynomial c) (polynomials_subring c) gs).scale_in b.left _ b.left_in
            m.multiple_in;
        is = sum b.left m.factor b.right (of_poly c p) z b.is;
      }
        where
          sum : (l u r p z : FunctionOf c) → l ⊗ u ⊕ r ⊗ p ≡ 𝟙 → z ≡ r ⊗ (p ⊗ z) ⊕ l ⊗ (u ⊗ z)
          sum l u r p z e =
              sym (from_one (ring_of c) z e
              (ring (ring_of c) (l ∷ u ∷ r ∷ p ∷ z ∷ []) λ q i. simp (reads, q, i 0, i 1, i 2, i 3, i 4)
              (q.equal _ _ refl)))

      from : Span (ring_of c).ops (IsPolynomial c) (of_poly c p ⊗ z ∷ gs) z
          → IsLocallyIn c p (Span (ring_of c).ops (IsPolynomial c) gs) z
      from m =
          let b = m.scalar_in.polynomial in
          record {
            factor = of_poly c ((polynomials k).◌⊕◌ (polynomials k).𝟙 ((polynomials k).⊖◌ ((polynomials k).◌⊗◌ p b)));
            factor_in = one_less b;
            multiple_in =
                subst (Spanned gs)
                (sym (ap (λ x. x ⊗ z) (less b ∙ ap (λ x. 𝟙 ⊕ ⊖ (of_poly c p ⊗ x)) (sym m.scalar_in.value))
                ∙ left m.scalar (of_poly c p) z m.rest m.is)) m.rest_in;
          }
        where
          less : (b : Polynomial k)
              → of_poly c ((polynomials k).◌⊕◌ (polynomials k).𝟙 ((polynomials k).⊖◌ ((polynomials k).◌⊗◌ p b)))
              ≡ 𝟙 ⊕ ⊖ (of_poly c p ⊗ of_poly c b)
          less b =
              (poly_hom c).add _ _
              ∙ ap₂ ◌⊕◌ (poly_hom c).𝟙 (hom_neg (polynomials k).ring (ring_of c) (of_poly c) (poly_hom c) _
              ∙ ap ⊖◌ ((poly_hom c).mul p b))

          left : (s p z r : FunctionOf c) → z ≡ s ⊗ (p ⊗ z) ⊕ r → (𝟙 ⊕ ⊖ (p ⊗ s)) ⊗ z ≡ r
          left s p z r e =
              from_one (ring_of c) 𝟙 e (ring (ring_of c) (s ∷ p ∷ z ∷ r ∷ []) λ q i. simp
              (reads, q, i 0, i 1, i 2, i 3) (q.equal _ _ refl))

  pub locally_spanned_decided : (gs : List (FunctionOf c)) (z : FunctionOf c)
      → Dec (IsLocallyIn c p (Span (ring_of c).ops (IsPolynomial c) gs) z)
  locally_spanned_decided gs z = go (span_decided c (of_poly c p ⊗ z ∷ gs) z)
    where
      go : Dec (Span (ring_of c).ops (IsPolynomial c) (of_poly c p ⊗ z ∷ gs) z)
          → Dec (IsLocallyIn c p (Span (ring_of c).ops (IsPolynomial c) gs) z)
      go (yes m) = yes ((locally_spanned gs z).1 m)
      go (no n) = no (λ m. n ((locally_spanned gs z).0 m))

  -- so is membership in a lattice up to such a factor
  pub locally_in_decided : (L : FunctionOf c → Type 0) → IsLattice c L → (z : FunctionOf c) → Dec (IsLocallyIn c p L z)
  locally_in_decided L 𝓛 z = go (locally_spanned_decided 𝓛.generators z)
    where
      go : Dec (IsLocallyIn c p (Span (ring_of c).ops (IsPolynomial c) 𝓛.generators) z) → Dec (IsLocallyIn c p L z)
      go (yes m) =
          yes (record { factor = m.factor; factor_in = m.factor_in; multiple_in = (𝓛.spanned _).1 m.multiple_in })
      go (no n) =
          no (λ m. n (record {
            factor = m.factor;
            factor_in = m.factor_in;
            multiple_in = (𝓛.spanned _).0 m.multiple_in;
          }))
