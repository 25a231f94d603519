-- The rational functions among the functions of a curve, as a ring of fractions of polynomials.
use Rattle.std.proofs.Common.{◌≡◌, ℕ, zero, suc, refl, sym, ◌∙◌, ap, ap₂, subst}
use Rattle.ring_lemmas.specs.Ring.{CommRing}
use Rattle.ring_lemmas.specs.Rows.{Row, row_zero, row_scale}
use Rattle.ring_theory.specs.Subsets.{IsSubring}
use Rattle.ring_lemmas.proofs.Ring.{one_mul}
use Rattle.ring_lemmas.proofs.Rows.{pair_path, row_scale_zero}
use Rattle.ff_fields.specs.Field.{CodeField}
use Rattle.ff_fields.specs.Code.{code_ring}
use Rattle.ff_poly.specs.Polynomials.{Polynomial, polynomials, polynomials_domain}
use Rattle.function_field.specs.Functions.{Equation, FunctionOf, ring_of, of_poly, row_of, over}
use Rattle.function_field.proofs.OnSide.{of_poly_zero, den_inverse}
use Rattle.function_field.proofs.ScalarRings.{bottoms_not_zero, of_poly_one, over_plus, over_times, over_neg}
use Rattle.places_theory.proofs.YRoot.{over_times_den}
use Rattle.trace_theory.specs.Traces.{IsRational}
use Rattle.trace_theory.proofs.FunctionTraces.{R, as_row, over_same, polynomial_value}
use Rattle.reduced_basis_theory.specs.Dual.{AreFractions}
use Rattle.space_theory.proofs.FunctionModule.{polynomial_hom, cancel}
use Rattle.space_theory.proofs.PartRing.{same_part, part_ring}

-- a row that is 0 up to factors other than 0 is 0
row_null : (k : CodeField) (n : ℕ) (d : Polynomial k) (v : Row (Polynomial k) n) → ¬ (d ≡ (polynomials k).𝟘)
    → row_scale (polynomials k).ops n d v ≡ row_zero (polynomials k).ops n → v ≡ row_zero (polynomials k).ops n
unfolding row_scale row_zero
row_null k zero d v some h = refl
row_null k (suc m) d (a, v) some h =
    pair_path ((polynomials_domain k).cancel_zero d a some (ap (λ t. t.0) h)) (row_null k m d v some (ap (λ t. t.1) h))

module _ {k : CodeField} (c : Equation k) where
  infixl 70 ◌⊗◌
  open ring_of c use {𝟘, 𝟙, ◌⊗◌}

  -- the row of z has nothing but a first entry
  abbrev pub IsFirst : FunctionOf c → Type 0
  IsFirst z = (as_row c z).num ≡ row_of c (as_row c z).num.0

  pub first_prop : (z : FunctionOf c) → IsProp (IsFirst z)
  first_prop z = λ p q. (R c).is_set _ _ p q

  pub first_rational : (z : FunctionOf c) → IsFirst z → IsRational c z
  first_rational z h =
      let r = as_row c z in
      record {
        top = r.num.0;
        bottom = r.den;
        not_null = r.not_zero;
        value = r.is ∙ ap (λ v. over c v r.den r.not_zero) h;
      }

  pub rational_first : (z : FunctionOf c) → IsRational c z → IsFirst z
  unfolding row_scale
  rational_first z h = first_of (as_row c z).num (as_row c z).den (as_row c z).not_zero (sym (as_row c z).is ∙ h.value)
    where
      first_of : (v : Row (Polynomial k) (suc c.lower_degree)) (d : Polynomial k) (n : ¬ (d ≡ (polynomials k).𝟘))
          → over c v d n ≡ over c (row_of c h.top) h.bottom h.not_null
          → v ≡ row_of c v.0
      first_of (a, v) d n e =
          pair_path refl
          (row_null k c.lower_degree h.bottom v h.not_null
          (ap (λ t. t.1) (over_same c (a, v) (row_of c h.top) d h.bottom n h.not_null e)
          ∙ row_scale_zero (polynomials k).ring c.lower_degree d))

  pub polynomial_rational : (a : Polynomial k) → IsRational c (of_poly c a)
  polynomial_rational a =
      record { top = a; bottom = (polynomials k).𝟙; not_null = (polynomials_domain k).one_not_zero; value = refl }

  pub first_subring : IsSubring (ring_of c).ops IsFirst
  first_subring = record {
    zero_in = rational_first 𝟘 (subst (IsRational c) (sym (of_poly_zero c)) (polynomial_rational (polynomials k).𝟘));
    one_in = rational_first 𝟙 (subst (IsRational c) (sym (of_poly_one c)) (polynomial_rational (polynomials k).𝟙));
    sum_in = λ a b a_in b_in.
        let h = first_rational a a_in in
        let g = first_rational b b_in in
        rational_first _
        (record {
          top = (polynomials k).◌⊕◌ ((polynomials k).◌⊗◌ g.bottom h.top) ((polynomials k).◌⊗◌ h.bottom g.top);
          bottom = (polynomials k).◌⊗◌ h.bottom g.bottom;
          not_null = bottoms_not_zero c h.bottom g.bottom h.not_null g.not_null;
          value = ap₂ (ring_of c).◌⊕◌ h.value g.value ∙ over_plus c h.top g.top h.bottom g.bottom h.not_null g.not_null;
        });
    neg_in = λ a a_in.
        let h = first_rational a a_in in
        rational_first _
        (record {
          top = (polynomials k).⊖◌ h.top;
          bottom = h.bottom;
          not_null = h.not_null;
          value = ap (ring_of c).⊖◌ h.value ∙ over_neg c h.top h.bottom h.not_null;
        });
    product_in = λ a b a_in b_in.
        let h = first_rational a a_in in
        let g = first_rational b b_in in
        rational_first _
        (record {
          top = (polynomials k).◌⊗◌ h.top g.top;
          bottom = (polynomials k).◌⊗◌ h.bottom g.bottom;
          not_null = bottoms_not_zero c h.bottom g.bottom h.not_null g.not_null;
          value = ap₂ ◌⊗◌ h.value g.value ∙ over_times c h.top g.top h.bottom g.bottom h.not_null g.not_null;
        });
  }

  abbrev pub rational_ring : CommRing ((a : FunctionOf c) × ((as_row c a).num ≡ row_of c (as_row c a).num.0))
  rational_ring = part_ring (ring_of c) IsFirst first_subring first_prop

  pub same_rational : (a b : (z : FunctionOf c) × ((as_row c z).num ≡ row_of c (as_row c z).num.0)) → a.0 ≡ b.0 → a ≡ b
  same_rational = same_part (ring_of c) IsFirst first_subring first_prop

  abbrev pub polynomial_part : Polynomial k → (z : FunctionOf c) × ((as_row c z).num ≡ row_of c (as_row c z).num.0)
  polynomial_part p = (
    of_poly c p,
    rational_first (of_poly c p)
        (record { top = p; bottom = (polynomials k).𝟙; not_null = (polynomials_domain k).one_not_zero; value = refl }),
  )

  pub polynomial_same : (p q : Polynomial k) → of_poly c p ≡ of_poly c q → p ≡ q
  polynomial_same p q e = polynomial_value c p q (polynomials k).𝟙 (polynomials_domain k).one_not_zero e
      ∙ one_mul (polynomials k).ring q

  pub rational_fractions : AreFractions (code_ring k) rational_ring.ops polynomial_part
  rational_fractions = record {
    homomorphism = record {
      zero_is = same_rational _ _ (polynomial_hom c).zero_is;
      one_is = same_rational _ _ (polynomial_hom c).one_is;
      sum_is = λ a b. same_rational _ _ ((polynomial_hom c).sum_is a b);
      product_is = λ a b. same_rational _ _ ((polynomial_hom c).product_is a b);
    };
    injective = λ p q e. polynomial_same p q (ap (λ a. a.0) e);
    fraction = λ r.
        let h = first_rational r.0 r.1 in
        record {
          denominator = h.bottom;
          nonzero = h.not_null;
          numerator = h.top;
          is = same_rational _ _ (ap (λ w. of_poly c h.bottom ⊗ w) h.value
              ∙ over_times_den c h.top h.bottom h.not_null);
        };
    cancel = λ e r s some same.
        let i = over c (row_of c (polynomials k).𝟙) e some in
        let inverse : i ⊗ of_poly c e ≡ 𝟙 = (ring_of c).mul_comm _ _ ∙ den_inverse c e some in
        same_rational _ _
        (sym (cancel c i (of_poly c e) r.0 inverse) ∙ ap (λ w. i ⊗ w) (ap (λ a. a.0) same)
        ∙ cancel c i (of_poly c e) s.0 inverse);
  }
