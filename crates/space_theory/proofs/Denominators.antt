-- Combinations over the fractions of degree at most 0, by one denominator: coordinates whose degrees are at most its
-- own.
use Rattle.std.proofs.Common.{◌≡◌, ℕ, zero, suc, ◌≤◌, ◌<◌, List, [], ◌∷◌, length, refl, sym, ◌∙◌, ap, ap₂, subst, arith}
use Rattle.ring_theory.specs.Subsets.{Span}
use Rattle.ring_lemmas.proofs.Ring.{mul_zero}
use Rattle.ring_lemmas.proofs.Solver.{ring, reads, from_one}
use Rattle.ring_theory.proofs.Polynomials.{length_product, length_product_le}
use Rattle.ff_fields.specs.Field.{CodeField}
use Rattle.ff_fields.specs.Code.{code_ring, code_domain}
use Rattle.ff_poly.specs.Polynomials.{Polynomial, polynomials, polynomials_domain}
use Rattle.function_field.specs.Functions.{Equation, FunctionOf, ring_of, of_poly, row_of, over, IsFiniteAtInfinity}
use Rattle.function_field.proofs.OnSide.{den_inverse}
use Rattle.function_field.proofs.ScalarRings.{bottoms_not_zero}
use Rattle.linear_theory.specs.Module.{combine}
use Rattle.linear_theory.specs.Lists.{insert}
use Rattle.linear_theory.proofs.Combination.{combine_scale}
use Rattle.places_theory.proofs.YRoot.{poly_hom, over_times_den}
use Rattle.lattice_theory.specs.Lattices.{polynomial_ops}
use Rattle.reduced_basis_theory.proofs.Degree.{length_zero}
use Rattle.space_theory.proofs.FunctionModule.{functions_module, cancel, over_both}

module _ {k : CodeField} (c : Equation k) where
  infixl 65 ◌⊕◌
  infixl 70 ◌⊗◌
  infixr 80 ⊖◌
  open ring_of c use {𝟘, 𝟙, ◌⊕◌, ◌⊗◌, ⊖◌}

  -- coordinates of z whose degrees are at most that of their denominator
  pub record ShortCoordinates (hs : List (FunctionOf c)) (z : FunctionOf c) : Type 0 where
    pub denominator : Polynomial k
    pub nonzero : ¬ (denominator ≡ (polynomials k).𝟘)
    pub coefficient : ℕ → Polynomial k
    pub short : (i : ℕ) → length (coefficient i).0 ≤ length denominator.0
    pub is : of_poly c denominator ⊗ z ≡ combine (polynomial_ops c) coefficient hs

  product_short : (a b e : Polynomial k) → ¬ (b ≡ (polynomials k).𝟘) → ¬ (e ≡ (polynomials k).𝟘) → (p : Polynomial k)
      → length a.0 ≤ length b.0 → length p.0 ≤ length e.0
      → length ((polynomials k).◌⊗◌ a p).0 ≤ length ((polynomials k).◌⊗◌ b e).0
  product_short a b e some some' p s s' =
      omega (
        arith,
        s,
        s',
        length_product (code_ring k) (code_domain k) b e some some',
        length_product_le (code_ring k) (code_domain k) a p,
      )

  pub short_coordinates : (hs : List (FunctionOf c)) (z : FunctionOf c)
      → Span (ring_of c).ops (IsFiniteAtInfinity c) hs z → ShortCoordinates hs z
  short_coordinates [] z m = record {
    denominator = (polynomials k).𝟙;
    nonzero = (polynomials_domain k).one_not_zero;
    coefficient = λ i. (polynomials k).𝟘;
    short = λ i. let e = length_zero (code_ring k) (code_domain k) in omega arith;
    is = ap (λ w. of_poly c (polynomials k).𝟙 ⊗ w) m ∙ mul_zero (ring_of c) _;
  }
  short_coordinates (h ∷ hs) z m =
      let s = m.scalar_in in
      let r = short_coordinates hs m.rest m.rest_in in
      record {
        denominator = (polynomials k).◌⊗◌ s.bottom r.denominator;
        nonzero = bottoms_not_zero c s.bottom r.denominator s.not_null r.nonzero;
        coefficient =
            insert 0 ((polynomials k).◌⊗◌ s.top r.denominator) (λ i. (polynomials k).◌⊗◌ s.bottom (r.coefficient i));
        short = at_each s.top s.bottom r.denominator s.not_null r.nonzero r.coefficient s.degrees r.short;
        is =
            ap₂ ◌⊗◌ ((poly_hom c).mul s.bottom r.denominator) m.is
            ∙ over_both c (of_poly c s.bottom) (of_poly c r.denominator) (of_poly c s.top) m.scalar h m.rest
            (ap (λ w. of_poly c s.bottom ⊗ w) s.value ∙ over_times_den c s.top s.bottom s.not_null)
            ∙ ap₂ ◌⊕◌ (ap (λ w. w ⊗ h) (sym ((poly_hom c).mul s.top r.denominator)))
            (ap (λ w. of_poly c s.bottom ⊗ w) r.is
            ∙ sym (combine_scale (functions_module c) s.bottom r.coefficient hs));
      }
    where
      at_each : (a b e : Polynomial k) → ¬ (b ≡ (polynomials k).𝟘) → ¬ (e ≡ (polynomials k).𝟘)
          → (p : ℕ → Polynomial k) → length a.0 ≤ length b.0
          → ((i : ℕ) → length (p i).0 ≤ length e.0) → (i : ℕ)
          → length (insert 0 ((polynomials k).◌⊗◌ a e) (λ i. (polynomials k).◌⊗◌ b (p i)) i).0 ≤ length
          ((polynomials k).◌⊗◌ b e).0
      at_each a b e n n' p l s zero = product_short a b e n n' e l (omega arith)
      at_each a b e n n' p l s (suc i) = product_short b b e n n' (p i) (omega arith) (s i)

  -- with short coordinates z is such a combination
  module _ (e : Polynomial k) (some : ¬ (e ≡ (polynomials k).𝟘)) where
    abbrev part_of : FunctionOf c
    part_of = over c (row_of c (polynomials k).𝟙) e some

    pub share : (i h r E p s : FunctionOf c) → E ⊗ i ≡ 𝟙 → E ⊗ s ≡ p → i ⊗ (p ⊗ h ⊕ r) ≡ s ⊗ h ⊕ i ⊗ r
    share i h r E p s f g =
        ap (λ w. i ⊗ (w ⊗ h ⊕ r)) (sym g)
        ∙ from_one (ring_of c) (s ⊗ h) f
        (ring (ring_of c) (i ∷ h ∷ r ∷ E ∷ s ∷ []) λ q x. simp (reads, q, x 0, x 1, x 2, x 3, x 4) (q.equal _ _ refl))

    parts_in : (hs : List (FunctionOf c)) (p : ℕ → Polynomial k)
        → ((i : ℕ) → i < length hs → length (p i).0 ≤ length e.0)
        → Span (ring_of c).ops (IsFiniteAtInfinity c) hs (part_of ⊗ combine (polynomial_ops c) p hs)
    parts_in [] p short = mul_zero (ring_of c) part_of
    parts_in (h ∷ hs) p short = record {
      scalar = over c (row_of c (p 0)) e some;
      scalar_in = record { top = p 0; bottom = e; not_null = some; degrees = short 0 (omega arith); value = refl };
      rest = part_of ⊗ combine (polynomial_ops c) (λ i. p (suc i)) hs;
      rest_in = parts_in hs (λ i. p (suc i)) (λ i l. short (suc i) (omega arith));
      is = share part_of h _ (of_poly c e) (of_poly c (p 0)) (over c (row_of c (p 0)) e some) (den_inverse c e some)
          (over_times_den c (p 0) e some);
    }

    pub span_of_short : (hs : List (FunctionOf c)) (z : FunctionOf c) (p : ℕ → Polynomial k)
        → ((i : ℕ) → i < length hs → length (p i).0 ≤ length e.0)
        → of_poly c e ⊗ z ≡ combine (polynomial_ops c) p hs → Span (ring_of c).ops (IsFiniteAtInfinity c) hs z
    span_of_short hs z p short is =
        subst (Span (ring_of c).ops (IsFiniteAtInfinity c) hs)
        (ap (λ w. part_of ⊗ w) (sym is)
        ∙ cancel c part_of (of_poly c e) z ((ring_of c).mul_comm _ _ ∙ den_inverse c e some))
        (parts_in hs p short)
