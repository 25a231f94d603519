-- Functions that are independent over the polynomials are so over the rational functions.
use Rattle.std.proofs.Common.{◌≡◌, ℕ, suc, ◌<◌, List, [], ◌∷◌, length, All, sym, ◌∙◌, ap, ap₂, arith}
use Rattle.std.proofs.lemmas.List.Elements.{All-nil, All-cons, All-head, All-tail}
use Rattle.ring_lemmas.proofs.Ring.{mul_zero}
use Rattle.ff_fields.specs.Field.{CodeField}
use Rattle.ff_poly.specs.Polynomials.{Polynomial, polynomials, polynomials_domain}
use Rattle.function_field.specs.Functions.{Equation, FunctionOf, ring_of, of_poly, row_of, over}
use Rattle.function_field.specs.Spans.{combination}
use Rattle.function_field.proofs.OnSide.{of_poly_zero, den_inverse}
use Rattle.function_field.proofs.ScalarRings.{bottoms_not_zero}
use Rattle.linear_theory.specs.Module.{combine}
use Rattle.linear_theory.specs.Lists.{insert}
use Rattle.linear_theory.proofs.Combination.{combine_scale}
use Rattle.places_theory.proofs.YRoot.{poly_hom, over_times_den}
use Rattle.trace_theory.specs.Traces.{IsRational}
use Rattle.lattice_theory.specs.Lattices.{polynomial_ops}
use Rattle.space_theory.proofs.FunctionModule.{functions_module, cancel, over_both}

module _ {k : CodeField} (c : Equation k) where
  infixl 65 ◌⊕◌
  infixl 70 ◌⊗◌
  infixr 80 ⊖◌
  open ring_of c use {𝟘, 𝟙, ◌⊕◌, ◌⊗◌, ⊖◌}

  -- what a polynomial other than 0 takes to 0 is 0
  pub torsion_free : (e : Polynomial k) (z : FunctionOf c) → ¬ (e ≡ (polynomials k).𝟘) → of_poly c e ⊗ z ≡ 𝟘 → z ≡ 𝟘
  torsion_free e z some h =
      sym (cancel c (over c (row_of c (polynomials k).𝟙) e some) (of_poly c e) z
      ((ring_of c).mul_comm _ _ ∙ den_inverse c e some))
      ∙ ap (λ w. over c (row_of c (polynomials k).𝟙) e some ⊗ w) h ∙ mul_zero (ring_of c) _

  -- one denominator takes the combination to one over the polynomials, whose coefficients are 0 only where those of
  -- the list are
  record Cleared (rs bs : List (FunctionOf c)) : Type 0 where
    denominator : Polynomial k
    nonzero : ¬ (denominator ≡ (polynomials k).𝟘)
    coefficient : ℕ → Polynomial k
    is : of_poly c denominator ⊗ combination (ring_of c).ops rs bs ≡ combine (polynomial_ops c) coefficient bs
    zeros : ((i : ℕ) → i < length bs → coefficient i ≡ (polynomials k).𝟘) → All (λ r. r ≡ 𝟘) rs

  null_factor : (e p : Polynomial k) → ¬ (e ≡ (polynomials k).𝟘) → (polynomials k).◌⊗◌ e p ≡ (polynomials k).𝟘 → p
      ≡ (polynomials k).𝟘
  null_factor e p some h = (polynomials_domain k).cancel_zero e p some h

  cleared : (rs bs : List (FunctionOf c)) → length rs ≡ length bs → All (IsRational c) rs → Cleared rs bs
  cleared [] [] l h = record {
    denominator = (polynomials k).𝟙;
    nonzero = (polynomials_domain k).one_not_zero;
    coefficient = λ i. (polynomials k).𝟘;
    is = mul_zero (ring_of c) _;
    zeros = λ f. All-nil (λ r. r ≡ 𝟘);
  }
  cleared [] (b ∷ bs) l h = absurd (omega arith)
  cleared (r ∷ rs) [] l h = absurd (omega arith)
  cleared (r ∷ rs) (b ∷ bs) l h =
      let a = All-head (IsRational c) r rs h in
      let s = cleared rs bs (omega arith) (All-tail (IsRational c) r rs h) in
      record {
        denominator = (polynomials k).◌⊗◌ a.bottom s.denominator;
        nonzero = bottoms_not_zero c a.bottom s.denominator a.not_null s.nonzero;
        coefficient =
            insert 0 ((polynomials k).◌⊗◌ a.top s.denominator) (λ i. (polynomials k).◌⊗◌ a.bottom (s.coefficient i));
        is =
            ap (λ w. w ⊗ (r ⊗ b ⊕ combination (ring_of c).ops rs bs)) ((poly_hom c).mul a.bottom s.denominator)
            ∙ over_both c (of_poly c a.bottom) (of_poly c s.denominator) (of_poly c a.top) r b _
            (ap (λ w. of_poly c a.bottom ⊗ w) a.value ∙ over_times_den c a.top a.bottom a.not_null)
            ∙ ap₂ ◌⊕◌ (ap (λ w. w ⊗ b) (sym ((poly_hom c).mul a.top s.denominator)))
            (ap (λ w. of_poly c a.bottom ⊗ w) s.is
            ∙ sym (combine_scale (functions_module c) a.bottom s.coefficient bs));
        zeros = λ f.
            All-cons (λ r. r ≡ 𝟘) r rs
            (torsion_free a.bottom r a.not_null
            (ap (λ w. of_poly c a.bottom ⊗ w) a.value ∙ over_times_den c a.top a.bottom a.not_null
            ∙ ap (of_poly c) (null_factor s.denominator a.top s.nonzero
            ((polynomials k).mul_comm _ _ ∙ f 0 (omega arith))) ∙ sym (of_poly_zero c)))
            (s.zeros (λ i m. null_factor a.bottom (s.coefficient i) a.not_null (f (suc i) (omega (arith, m)))));
      }

  pub rational_independent : (bs : List (FunctionOf c))
      → ((p : ℕ → Polynomial k) → combine (polynomial_ops c) p bs ≡ 𝟘 → (i : ℕ) → i < length bs → p i
      ≡ (polynomials k).𝟘)
      → (rs : List (FunctionOf c)) → length rs ≡ length bs → All (IsRational c) rs
      → combination (ring_of c).ops rs bs ≡ 𝟘 → All (λ r. r ≡ 𝟘) rs
  rational_independent bs free rs l h e =
      let s = cleared rs bs l h in
      s.zeros (free s.coefficient (sym s.is ∙ ap (λ w. of_poly c s.denominator ⊗ w) e ∙ mul_zero (ring_of c) _))
