-- Finite places: each has a polynomial other than 0, so it is a lattice, and a prime of the ring of integral functions.
use Rattle.std.proofs.Common.{◌≡◌, ◌⊎◌, inl, inr, ℕ, zero, suc, ◌≤◌, List, [], ◌∷◌, length, refl, sym, ◌∙◌, ap, ap₂, subst, arith}
use Rattle.ring_theory.specs.Subsets.{IsModule}
use Rattle.ring_theory.proofs.Integral.{Low}
use Rattle.ring_lemmas.proofs.Ring.{one_mul, mul_zero, neg_mul, product_not_zero}
use Rattle.ring_lemmas.proofs.Solver.{ring, reads, from_one}
use Rattle.ring_lemmas.specs.Polynomials.{pol_ops}
use Rattle.ring_theory.proofs.Evaluate.{length_trim}
use Rattle.ring_theory.proofs.Subsets.{span_module}
use Rattle.prime_theory.specs.Primes.{IsPrime}
use Rattle.prime_theory.proofs.IntegralRing.{Unit, unit_trick}
use Rattle.ff_fields.specs.Field.{CodeField}
use Rattle.ff_fields.specs.Code.{code_ring}
use Rattle.ff_poly.specs.Polynomials.{Polynomial, polynomials, polynomials_domain, polynomial_discrete, x_poly, x_poly_not_zero}
use Rattle.function_field.specs.declared.side.Side.TheVariants.{Finite}
use Rattle.function_field.specs.Places.{Place, IsPlace, IsIn, IsIntegralAt}
use Rattle.function_field.specs.Functions.{Equation, FunctionOf, ring_of, of_poly, IsPolynomial, setting_of}
use Rattle.function_field.proofs.ScalarRings.{polynomials_subring, scalars_subring}
use Rattle.places_theory.proofs.Sides.{place_ideal}
use Rattle.places_theory.proofs.YRoot.{poly_hom, den_times, at_y_plain}
use Rattle.polynomial_theory.proofs.Lengths.{product_longer, x_power_long}
use Rattle.trace_theory.proofs.FunctionTraces.{as_row}
use Rattle.lattice_theory.specs.Lattices.{IsLattice, HasMultiple}
use Rattle.lattice_theory.proofs.Lattices.{span_decided}
use Rattle.order_theory.proofs.IntegralLattice.{integral_subring, polynomial_integral, coordinates_integral}

pub one_short : (k : CodeField) → length (polynomials k).𝟙.0 ≤ 1
unfolding pol_ops
one_short k = length_trim (code_ring k).is_zero ((code_ring k).𝟙 ∷ [])

pub x_long : (k : CodeField) → 2 ≤ length (x_poly k).0
x_long k = subst (λ p. 2 ≤ length p.0) ((polynomials k).mul_one (x_poly k)) (x_power_long k 1)

module _ {k : CodeField} (c : Equation k) where
  infixl 65 ◌⊕◌
  infixl 70 ◌⊗◌
  infixr 80 ⊖◌
  open ring_of c use {𝟘, 𝟙, ◌⊕◌, ◌⊗◌, ⊖◌}

  abbrev pub Int : FunctionOf c → Type 0
  Int = IsIntegralAt (setting_of c) Finite

  -- the finite place that functions span
  abbrev pub finite : List (FunctionOf c) → Place (FunctionOf c)
  finite gs = record { side = Finite; generators = gs }

  module _ (gs : List (FunctionOf c)) (place : IsPlace (setting_of c) (finite gs)) where
    abbrev pub M : FunctionOf c → Type 0
    M = IsIn (setting_of c) (finite gs)

    𝓜 : IsModule (ring_of c).ops (IsPolynomial c) M
    𝓜 = span_module (ring_of c) (IsPolynomial c) (polynomials_subring c) gs

    pub in_place_decided : (z : FunctionOf c) → Dec (M z)
    in_place_decided z = span_decided c gs z

    low_integral : (s : FunctionOf c) → Int s → (n : ℕ) (a : FunctionOf c)
        → Low (ring_of c).ops (IsPolynomial c) s n a → Int a
    low_integral s s_int zero a h = subst Int (sym h) (integral_subring c).zero_in
    low_integral s s_int (suc n) a h =
        subst Int (sym h.is)
        ((integral_subring c).sum_in _ _ (polynomial_integral c _ h.constant_in)
        ((integral_subring c).product_in _ _ s_int (low_integral s s_int n h.rest h.rest_in)))

    minus_in : (z : FunctionOf c) → M z → M (⊖ z)
    minus_in z h =
        subst M (neg_mul (ring_of c) 𝟙 z ∙ ap ⊖◌ (one_mul (ring_of c) z))
        (𝓜.scale_in (⊖ 𝟙) z ((polynomials_subring c).neg_in 𝟙 (polynomials_subring c).one_in) h)

    -- 1 + x·b isn't 0
    one_more : (b : Polynomial k)
        → ¬ ((polynomials k).◌⊕◌ (polynomials k).𝟙 ((polynomials k).◌⊗◌ (x_poly k) b) ≡ (polynomials k).𝟘)
    one_more b e = go (polynomial_discrete k d (polynomials k).𝟘)
      where
        d : Polynomial k
        d = (polynomials k).⊖◌ b

        inverse : (u v : Polynomial k) → (polynomials k).◌⊕◌ (polynomials k).𝟙 ((polynomials k).◌⊗◌ u v)
            ≡ (polynomials k).𝟘
            → (polynomials k).◌⊗◌ u ((polynomials k).⊖◌ v) ≡ (polynomials k).𝟙
        inverse u v f =
            from_one (polynomials k).ring ((polynomials k).⊖◌ (polynomials k).𝟙) f
            (ring (polynomials k).ring (u ∷ v ∷ []) λ q h. simp (reads, q, h 0, h 1) (q.equal _ _ refl))

        is : (polynomials k).◌⊗◌ (x_poly k) ((polynomials k).⊖◌ b) ≡ (polynomials k).𝟙
        is = inverse (x_poly k) b e

        go : Dec ((polynomials k).⊖◌ b ≡ (polynomials k).𝟘) → ⊥
        go (yes z) =
            (polynomials_domain k).one_not_zero
            (sym is ∙ ap ((polynomials k).◌⊗◌ (x_poly k)) z ∙ mul_zero (polynomials k).ring (x_poly k))
        go (no n) =
            let l = product_longer k (x_poly k) ((polynomials k).⊖◌ b) (x_poly_not_zero k) n in
            let m : length ((polynomials k).◌⊗◌ (x_poly k) ((polynomials k).⊖◌ b)).0
            ≡ length (polynomials k).𝟙.0 = ap (λ p. length p.0) is in
            let o = one_short k in
            let x = x_long k in absurd (omega arith)

    -- a polynomial other than 0 in the place
    pub place_polynomial : (a : Polynomial k) × (¬ (a ≡ (polynomials k).𝟘)) × M (of_poly c a)
    place_polynomial = go (in_place_decided (of_poly c (x_poly k)))
      where
        at : (w : FunctionOf c) (w_int : Int w) → M (of_poly c (x_poly k) ⊗ w ⊕ ⊖ 𝟙)
            → Unit (ring_of c) (IsPolynomial c) (polynomials_subring c) (of_poly c (x_poly k)) w w_int.degree
            → (a : Polynomial k) × (¬ (a ≡ (polynomials k).𝟘)) × M (of_poly c a)
        at w w_int m u = let b = u.base_in in (
          (polynomials k).◌⊕◌ (polynomials k).𝟙 ((polynomials k).◌⊗◌ (x_poly k) b.polynomial),
          one_more b.polynomial,
          subst M
              (ap (λ x. x ⊗ u.cofactor) (turned (of_poly c (x_poly k) ⊗ w)) ∙ u.is
              ∙ ap (λ x. 𝟙 ⊕ of_poly c (x_poly k) ⊗ x) b.value
              ∙ sym ((poly_hom c).add _ _ ∙ ap₂ ◌⊕◌ (poly_hom c).𝟙 ((poly_hom c).mul _ _)))
              (subst M ((ring_of c).mul_comm _ _)
              (place.ideal u.cofactor _ (low_integral w w_int w_int.degree u.cofactor u.cofactor_in) (minus_in _ m))),
        )
          where
            turned : (x : FunctionOf c) → ⊖ (x ⊕ ⊖ 𝟙) ≡ 𝟙 ⊕ ⊖ x
            turned x = ring (ring_of c) (x ∷ []) λ q h. simp (reads, q, h 0) (q.equal _ _ refl)

        go : Dec (M (of_poly c (x_poly k))) → (a : Polynomial k) × (¬ (a ≡ (polynomials k).𝟘)) × M (of_poly c a)
        go (yes m) = (x_poly k, x_poly_not_zero k, m)
        go (no n) =
            let i = place.inverse (of_poly c (x_poly k))
            (polynomial_integral c _ (record { polynomial = x_poly k; value = refl })) n in
            at i.0 i.1 i.2
            (unit_trick (ring_of c) (IsPolynomial c) (polynomials_subring c) (of_poly c (x_poly k)) i.0
            (record { polynomial = x_poly k; value = refl }) i.1)

    -- a finite place is a lattice
    pub place_lattice : IsLattice c M
    place_lattice = record { generators = gs; spanned = λ z. (λ h. h, λ h. h); full = full }
      where
        a : (a : Polynomial k) × (¬ (a ≡ (polynomials k).𝟘)) × M (of_poly c a)
        a = place_polynomial

        full : (z : FunctionOf c) → HasMultiple c M z
        full z = let r = as_row c z in record {
          factor = (polynomials k).◌⊗◌ r.den a.0;
          some = product_not_zero (polynomials_domain k) r.den a.0 r.not_zero a.1;
          multiple_in =
              subst M
              (ap (λ x. x ⊗ of_poly c a.0)
              (sym (ap (λ x. of_poly c r.den ⊗ x) r.is
              ∙ den_times c (record { num = r.num; den = r.den; den_not_zero = r.not_zero }) ∙ at_y_plain c r.num))
              ∙ moved (of_poly c r.den) z (of_poly c a.0) ∙ ap (λ x. x ⊗ z) (sym ((poly_hom c).mul r.den a.0)))
              (place.ideal _ (of_poly c a.0)
              (coordinates_integral c _ (record { coordinates = r.num; value = refl })) a.2);
        }
          where
            moved : (d z a : FunctionOf c) → (d ⊗ z) ⊗ a ≡ (d ⊗ a) ⊗ z
            moved d z a = ring (ring_of c) (d ∷ z ∷ a ∷ []) λ q h. simp (reads, q, h 0, h 1, h 2) (q.equal _ _ refl)

    -- and a prime of the ring of integral functions
    pub place_prime : IsPrime (ring_of c).ops Int M
    place_prime = record {
      ideal = place_ideal (setting_of c) (scalars_subring c) (finite gs) place;
      proper = place.proper;
      invert = λ u u_in n. let i = place.inverse u u_in n in
          record { inverse = i.0; inverse_in = i.1; is = subst M (ap (λ x. x ⊕ ⊖ 𝟙) ((ring_of c).mul_comm u i.0)) i.2 };
      decide = λ u u_in. by u (in_place_decided u);
    }
      where
        by : (u : FunctionOf c) → Dec (M u) → M u ⊎ (¬ (M u))
        by u (yes m) = inl m
        by u (no n) = inr n
