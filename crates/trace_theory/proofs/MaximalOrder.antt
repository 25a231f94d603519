-- A ring over k[x][y] that is maximal at the irreducible polynomials whose squares divide the discriminant has all
-- integral functions.
use Rattle.std.proofs.Common.{◌≡◌, List, [], ◌∷◌, All, refl, sym, ◌∙◌, ap, ap₂, subst}
use Rattle.std.proofs.lemmas.List.Elements.{All-head, All-tail}
use Rattle.ring_theory.specs.Subsets.{IsSubring}
use Rattle.ring_lemmas.proofs.Ring.{one_mul, product_not_zero}
use Rattle.ring_lemmas.proofs.Solver.{ring, reads, from_one}
use Rattle.prime_theory.specs.Orders.{MaximalAt}
use Rattle.prime_theory.proofs.IntegralRing.{integral_base}
use Rattle.linear_theory.specs.Euclidean.{IsDivisorIn, Bezout}
use Rattle.linear_theory.proofs.Euclid.{bezout, decide_divisor}
use Rattle.ff_fields.specs.Field.{CodeField}
use Rattle.ff_poly.specs.Words.{IsIrreducibleList}
use Rattle.ff_poly.specs.Polynomials.{Polynomial, polynomials, polynomials_domain, codes_of}
use Rattle.function_field.specs.declared.side.Side.TheVariants.{Finite}
use Rattle.function_field.specs.Places.{IsIntegralAt}
use Rattle.function_field.specs.Functions.{Equation, FunctionOf, ring_of, row_of, of_poly, IsPolynomial, setting_of}
use Rattle.function_field.specs.Discriminant.{discriminant}
use Rattle.function_field.proofs.ScalarRings.{of_poly_one, polynomials_subring}
use Rattle.places_theory.proofs.YRoot.{poly_hom}
use Rattle.trace_theory.specs.Traces.{HasPolynomialCoordinates, polynomial_product}
use Rattle.trace_theory.proofs.IntegralLaw.{integral_times, discriminant_clears}
use Rattle.polynomial_theory.proofs.Irreducible.{irreducible, irreducible_some}
use Rattle.polynomial_theory.proofs.Division.{euclidean}
use Rattle.trace_theory.proofs.SquareLaw.{whole_at}

module _ {k : CodeField} (c : Equation k) (O : FunctionOf c → Type 0) (𝓞 : IsSubring (ring_of c).ops O)
    (contains : (z : FunctionOf c) → HasPolynomialCoordinates c z → O z) where
  infixl 65 ◌⊕◌
  infixl 70 ◌⊗◌
  open ring_of c use {𝟙, ◌⊕◌, ◌⊗◌}

  abbrev Int : FunctionOf c → Type 0
  Int = IsIntegralAt (setting_of c) Finite

  polynomial_in : (a : Polynomial k) → O (of_poly c a)
  polynomial_in a = contains (of_poly c a) (record { coordinates = row_of c a; value = refl })

  polynomial_integral : (a : Polynomial k) → Int (of_poly c a)
  polynomial_integral a = integral_base (ring_of c) (IsPolynomial c) (polynomials_subring c) (of_poly c a)
      (record { polynomial = a; value = refl })

  -- what two coprime polynomials take into O is in O
  by_bezout : (a b : Polynomial k) → Bezout (polynomials k).ops a b → (w : FunctionOf c) → O (of_poly c a ⊗ w)
      → O (of_poly c b ⊗ w) → O w
  by_bezout a b h w a_in b_in =
      subst O (sum (of_poly c h.left) (of_poly c a) (of_poly c h.right) (of_poly c b) w one)
      (𝓞.sum_in _ _ (𝓞.product_in _ _ (polynomial_in h.left) a_in) (𝓞.product_in _ _ (polynomial_in h.right) b_in))
    where
      one : (ring_of c).◌⊕◌ ((ring_of c).◌⊗◌ (of_poly c h.left) (of_poly c a))
          ((ring_of c).◌⊗◌ (of_poly c h.right) (of_poly c b)) ≡ (ring_of c).𝟙
      one =
          sym ((poly_hom c).add _ _ ∙ ap₂ (ring_of c).◌⊕◌ ((poly_hom c).mul h.left a) ((poly_hom c).mul h.right b))
          ∙ ap (of_poly c) h.is ∙ (poly_hom c).𝟙

      sum : (l a r b w : FunctionOf c) → (ring_of c).◌⊕◌ ((ring_of c).◌⊗◌ l a) ((ring_of c).◌⊗◌ r b) ≡ (ring_of c).𝟙
          → (ring_of c).◌⊕◌ ((ring_of c).◌⊗◌ l ((ring_of c).◌⊗◌ a w)) ((ring_of c).◌⊗◌ r ((ring_of c).◌⊗◌ b w)) ≡ w
      sum l a r b w e =
          from_one (ring_of c) w e (ring (ring_of c) (l ∷ a ∷ r ∷ b ∷ w ∷ []) λ q h. simp
          (reads, q, h 0, h 1, h 2, h 3, h 4) (q.equal _ _ refl))

  module _ (p : Polynomial k) (h : IsIrreducibleList k.ops (codes_of k p)) where
    decide : (a b : Polynomial k) → ¬ (b ≡ (polynomials k).𝟘) → Dec (IsDivisorIn (polynomials k).ops b a)
    decide a b n = decide_divisor (euclidean k) b a n

    -- where the square of p doesn't divide the discriminant, O has what p takes into it
    free_step : ¬ IsDivisorIn (polynomials k).ops ((polynomials k).◌⊗◌ p p) (discriminant c) → (w : FunctionOf c)
        → Int w → O (of_poly c p ⊗ w) → O w
    free_step free w w_int p_in = go (decide (discriminant c) p (irreducible_some k p h))
      where
        at_cofactor : (u : Polynomial k) → discriminant c ≡ (polynomials k).◌⊗◌ p u → O w
        at_cofactor u is =
            by_bezout u p
            (bezout (euclidean k) p (irreducible k p h) u
            (λ d. free (d.0, is ∙ ap ((polynomials k).◌⊗◌ p) d.1 ∙ sym ((polynomials k).mul_assoc p p d.0)))) w
            (contains ((ring_of c).◌⊗◌ (of_poly c u) w)
            (whole_at c p h free ((ring_of c).◌⊗◌ (of_poly c u) w)
            (integral_times c (of_poly c u) w (polynomial_integral u) w_int)
            (subst (HasPolynomialCoordinates c)
            (ap (λ d. (ring_of c).◌⊗◌ d w) (ap (of_poly c) is ∙ (poly_hom c).mul p u) ∙ (ring_of c).mul_assoc _ _ _)
            (discriminant_clears c w w_int)))) p_in

        go : Dec (IsDivisorIn (polynomials k).ops p (discriminant c)) → O w
        go (yes (u, is)) = at_cofactor u is
        go (no n) =
            by_bezout (discriminant c) p (bezout (euclidean k) p (irreducible k p h) (discriminant c) n) w
            (contains ((ring_of c).◌⊗◌ (of_poly c (discriminant c)) w) (discriminant_clears c w w_int)) p_in

    step : (IsDivisorIn (polynomials k).ops ((polynomials k).◌⊗◌ p p) (discriminant c)
        → MaximalAt (ring_of c).ops (of_poly c p) Int O)
        → (w : FunctionOf c) → Int w → O (of_poly c p ⊗ w) → O w
    step maximal w w_int p_in = go (decide (discriminant c) ((polynomials k).◌⊗◌ p p)
        (product_not_zero (polynomials_domain k) p p (irreducible_some k p h) (irreducible_some k p h)))
      where
        go : Dec (IsDivisorIn (polynomials k).ops ((polynomials k).◌⊗◌ p p) (discriminant c)) → O w
        go (yes d) = maximal d w 1 w_int
            (subst (λ x. O ((ring_of c).◌⊗◌ x w)) (sym ((ring_of c).mul_one (of_poly c p))) p_in)
        go (no n) = free_step n w w_int p_in

  abbrev SupportedAt : Polynomial k → Type 0
  SupportedAt p = IsDivisorIn (polynomials k).ops ((polynomials k).◌⊗◌ p p) (discriminant c)
      → MaximalAt (ring_of c).ops (of_poly c p) Int O

  cleared : (ps : List (Polynomial k)) → All (λ p. IsIrreducibleList k.ops (codes_of k p)) ps → All SupportedAt ps
      → (z : FunctionOf c) → Int z → O (of_poly c (polynomial_product k ps) ⊗ z) → O z
  cleared [] h m z z_int z_in = subst O (ap (λ x. x ⊗ z) (sym (of_poly_one c)) ∙ one_mul (ring_of c) z) z_in
  cleared (p ∷ ps) h m z z_int z_in =
      cleared ps (All-tail (λ p. IsIrreducibleList k.ops (codes_of k p)) p ps h) (All-tail SupportedAt p ps m) z z_int
      (step p (All-head (λ p. IsIrreducibleList k.ops (codes_of k p)) p ps h) (All-head SupportedAt p ps m)
      (of_poly c (polynomial_product k ps) ⊗ z)
      (integral_times c (of_poly c (polynomial_product k ps)) z (polynomial_integral (polynomial_product k ps)) z_int)
      (subst O (ap (λ x. x ⊗ z) ((poly_hom c).mul p (polynomial_product k ps)) ∙ (ring_of c).mul_assoc _ _ _) z_in))

  pub maximal_order : (ps : List (Polynomial k))
      → IsDivisorIn (polynomials k).ops (discriminant c) (polynomial_product k ps)
      → All (λ p. IsIrreducibleList k.ops (codes_of k p)) ps → All SupportedAt ps → (z : FunctionOf c) → Int z → O z
  maximal_order ps (u, is) h m z z_int =
      cleared ps h m z z_int
      (subst O
      (sym ((ring_of c).mul_assoc _ _ _)
      ∙ ap (λ x. x ⊗ z) (sym ((poly_hom c).mul u (discriminant c))
      ∙ ap (of_poly c) ((polynomials k).mul_comm u (discriminant c) ∙ sym is)))
      (𝓞.product_in _ _ (polynomial_in u) (contains (of_poly c (discriminant c) ⊗ z) (discriminant_clears c z z_int))))
