-- Divisibility of polynomials, as members of k[x] and as lists of codes.
use Rattle.std.proofs.Common.{◌≡◌, ◌≢◌, ℕ, ◌<◌, ◌≤◌, ◌↔◌, List, [], ◌∷◌, length, refl, sym, ◌∙◌, ap, ap₂, subst, arith}
use Rattle.ring_lemmas.specs.Ring.{CommRing}
use Rattle.ring_lemmas.proofs.Ring.{domain_cancel}
use Rattle.ring_lemmas.proofs.Solver.{ring, reads, from_two}
use Rattle.ff_fields.specs.Field.{CodeField}
use Rattle.ff_fields.specs.Over.{IsOver, IsOver_nil}
use Rattle.ff_poly.specs.Words.{IsPoly, IsMonicList, IsQuotientWithRest, DividesList, product_of, sum_of}
use Rattle.ff_poly.specs.PolyOver.{IsOver_product_of, IsOver_sum_of}
use Rattle.ff_poly.specs.Value.{value, value_product, value_sum, same_from_value, one_quotient}
use Rattle.ff_poly.specs.Polynomials.{Polynomial, polynomials, polynomials_domain, value_nil, value_not_zero}
use Rattle.ff_poly.proofs.Parts.{IsPoly_product_of, IsPoly_sum_of, top_of_monic}
use Rattle.ff_poly.proofs.Results.{product_of_nil}
use Rattle.ff_lattice.proofs.Elements.{DividesPol, divides_value, divides_codes}
use Rattle.ff_lattice.proofs.Scaled.{product_length}

module _ (k : CodeField) where
  abbrev S : CommRing (Polynomial k)
  S = (polynomials k).ring

  -- ---- in k[x]

  pub pol_self : (d b : Polynomial k) → DividesPol k d ((polynomials k).◌⊗◌ d b)
  pol_self d b = record { quotient = b; is = refl }

  pub pol_times : (d a b : Polynomial k) → DividesPol k d a → DividesPol k d ((polynomials k).◌⊗◌ a b)
  pol_times d a b h = record {
    quotient = (polynomials k).◌⊗◌ h.quotient b;
    is = ap (λ x. (polynomials k).◌⊗◌ x b) h.is ∙ S.mul_assoc d h.quotient b;
  }

  pub pol_scale : (c d a : Polynomial k) → DividesPol k d a
      → DividesPol k ((polynomials k).◌⊗◌ c d) ((polynomials k).◌⊗◌ c a)
  pol_scale c d a h = record {
    quotient = h.quotient;
    is = ap ((polynomials k).◌⊗◌ c) h.is
        ∙ sym (S.mul_assoc c d h.quotient);
  }

  pub pol_cancel : (c d a : Polynomial k) → ¬ (c ≡ (polynomials k).𝟘)
      → DividesPol k ((polynomials k).◌⊗◌ c d) ((polynomials k).◌⊗◌ c a) → DividesPol k d a
  pol_cancel c d a some h = record {
    quotient = h.quotient;
    is = domain_cancel S (polynomials_domain k) c a ((polynomials k).◌⊗◌ d h.quotient) some
        (h.is ∙ S.mul_assoc c d h.quotient);
  }

  pub pol_sum : (d a b : Polynomial k) → DividesPol k d a → DividesPol k d b → DividesPol k d ((polynomials k).◌⊕◌ a b)
  pol_sum d a b h h' = record {
    quotient = (polynomials k).◌⊕◌ h.quotient h'.quotient;
    is = ap₂ (polynomials k).◌⊕◌ h.is h'.is ∙ sym (S.mul_add d h.quotient h'.quotient);
  }

  -- modulo e only the rest matters
  pub pol_rest : (e u v q w : Polynomial k) → v ≡ (polynomials k).◌⊕◌ ((polynomials k).◌⊗◌ e q) w
      → DividesPol k e ((polynomials k).◌⊗◌ u v) ↔ DividesPol k e ((polynomials k).◌⊗◌ u w)
  pol_rest e u v q w v_is = (
    λ h. record {
      quotient = (polynomials k).◌⊕◌ h.quotient ((polynomials k).⊖◌ ((polynomials k).◌⊗◌ u q));
      is =
          from_two S (polynomials k).𝟙 ((polynomials k).⊖◌ u) h.is v_is
          (ring S (e ∷ u ∷ v ∷ q ∷ w ∷ h.quotient ∷ []) λ q' x. simp (reads, q', x 0, x 1, x 2, x 3, x 4, x 5)
          (q'.equal _ _ refl));
    },
    λ h. record {
      quotient = (polynomials k).◌⊕◌ h.quotient ((polynomials k).◌⊗◌ u q);
      is =
          from_two S (polynomials k).𝟙 u h.is v_is
          (ring S (e ∷ u ∷ v ∷ q ∷ w ∷ h.quotient ∷ []) λ q' x. simp (reads, q', x 0, x 1, x 2, x 3, x 4, x 5)
          (q'.equal _ _ refl));
    },
  )

  -- ---- lists of codes

  pub divides_self : (d : List ℕ) → IsOver k.ops d → IsPoly d → DividesList k.ops d d
  divides_self d d_in d_poly =
      divides_codes k d d d_in d_in d_poly (record { quotient = (polynomials k).𝟙; is = sym (S.mul_one (value k d)) })

  -- u·v as what the lists stand for
  pub divides_product : (e u v : List ℕ) → IsOver k.ops e → IsOver k.ops u → IsOver k.ops v
      → DividesList k.ops e (product_of k.ops u v)
      ↔ DividesPol k (value k e) ((polynomials k).◌⊗◌ (value k u) (value k v))
  divides_product e u v e_in u_in v_in =
      let is = value_product k u v u_in v_in in (
        λ h. subst (DividesPol k (value k e)) is (divides_value k e (product_of k.ops u v) e_in h),
        λ h. divides_codes k e (product_of k.ops u v) e_in (IsOver_product_of k u_in v_in) (IsPoly_product_of k.ops u v)
            (subst (DividesPol k (value k e)) (sym is) h),
      )

  pub product_comm : (a b : List ℕ) → IsOver k.ops a → IsOver k.ops b → product_of k.ops a b ≡ product_of k.ops b a
  product_comm a b a_in b_in =
      same_from_value k (product_of k.ops a b) (product_of k.ops b a) (IsOver_product_of k a_in b_in)
      (IsOver_product_of k b_in a_in) (IsPoly_product_of k.ops a b) (IsPoly_product_of k.ops b a)
      (value_product k a b a_in b_in ∙ S.mul_comm (value k a) (value k b) ∙ sym (value_product k b a b_in a_in))

  pub sum_nil : (a : List ℕ) → IsOver k.ops a → IsPoly a → sum_of k.ops a [] ≡ a
  sum_nil a a_in a_poly =
      same_from_value k (sum_of k.ops a []) a (IsOver_sum_of k a_in IsOver_nil) a_in (IsPoly_sum_of k.ops a []) a_poly
      (value_sum k a [] a_in IsOver_nil ∙ ap ((polynomials k).◌⊕◌ (value k a)) (value_nil k) ∙ S.add_zero (value k a))

  -- the quotient by a divisor leaves no rest
  pub exact : (a b q rest : List ℕ) → IsOver k.ops a → IsPoly a → IsOver k.ops b → IsPoly b → b ≢ []
      → DividesList k.ops b a → IsQuotientWithRest k.ops a b q rest → a ≡ product_of k.ops b q
  exact a b q rest a_in a_poly b_in b_poly some h division =
      h.product
      ∙ ap (product_of k.ops b)
      (one_quotient k a b h.quotient q [] rest b_in b_poly
      (record {
        whole = h.product ∙ sym (sum_nil (product_of k.ops b h.quotient) (IsOver_product_of k b_in h.quotient_in)
            (IsPoly_product_of k.ops b h.quotient));
        shorter = positive b some;
        quotient_in = h.quotient_in;
        rest_in = IsOver_nil;
        quotient_poly = h.quotient_poly;
        rest_poly = record { trimmed = tt };
      })
      division).0
    where
      positive : (b : List ℕ) → b ≢ [] → 0 < length b
      positive [] some = absurd (some refl)
      positive (c ∷ b) some = omega arith

  -- a divisor of what isn't 0 is no longer
  pub divisor_short : (d a : List ℕ) → IsOver k.ops d → IsPoly d → DividesList k.ops d a → 0 < length a
      → length d ≤ length a
  divisor_short d a d_in d_poly h some = go d h.quotient d_in d_poly h.quotient_in h.quotient_poly h.product
    where
      go : (d q : List ℕ) → IsOver k.ops d → IsPoly d → IsOver k.ops q → IsPoly q → a ≡ product_of k.ops d q
          → length d ≤ length a
      go [] q d_in d_poly q_in q_poly e = omega arith
      go (c ∷ d) [] d_in d_poly q_in q_poly e = absurd
          (omega (arith, some, ap length (e ∙ product_of_nil k.ops (c ∷ d))))
      go (c ∷ d) (b ∷ q) d_in d_poly q_in q_poly e =
          omega (
            arith,
            ap length e,
            product_length k (c ∷ d) (b ∷ q) d_in d_poly q_in q_poly (omega arith)
                (omega arith),
          )

  pub monic_value : (d : List ℕ) → IsOver k.ops d → IsPoly d → IsMonicList d → ¬ (value k d ≡ (polynomials k).𝟘)
  monic_value d d_in d_poly monic =
      let size = (top_of_monic d monic).1 in
      value_not_zero k d d_in d_poly (λ e. absurd (omega (arith, size, ap length e)))
