-- Each infinite place where it is decided whether t = 1/x is a member has t.
use Rattle.std.proofs.Common.{◌≡◌, ◌⊎◌, inl, inr, ℕ, zero, suc, ◌<◌, ◌≤◌, ◌-◌, List, [], ◌∷◌, length, refl, sym, ◌∙◌, ap, subst, arith}
use Rattle.ring_theory.specs.Subsets.{IsSubring, IsModule}
use Rattle.ring_theory.proofs.Integral.{Low}
use Rattle.ring_lemmas.proofs.Ring.{one_mul, neg_mul}
use Rattle.ring_lemmas.proofs.Solver.{ring, reads, from_two}
use Rattle.ring_theory.proofs.Subsets.{span_module}
use Rattle.ring_theory.proofs.Division.{length_add, length_neg}
use Rattle.prime_theory.proofs.IntegralRing.{unit_trick, integral_ring, integral_base}
use Rattle.ff_fields.specs.Field.{CodeField}
use Rattle.ff_fields.specs.Code.{code_ring, code_domain}
use Rattle.ring_theory.proofs.Polynomials.{length_product}
use Rattle.ff_poly.specs.Polynomials.{Polynomial, polynomials, x_poly, x_poly_not_zero}
use Rattle.function_field.specs.declared.side.Side.TheVariants.{Infinite}
use Rattle.function_field.specs.Places.{Place, IsPlace, IsIn, IsIntegralAt}
use Rattle.function_field.specs.Functions.{Equation, FunctionOf, ring_of, of_poly, row_of, over, IsFiniteAtInfinity, setting_of}
use Rattle.function_field.proofs.ScalarRings.{finite_at_infinity_subring, of_poly_one}
use Rattle.places_theory.proofs.YRoot.{poly_hom, over_times_den}
use Rattle.polynomial_theory.proofs.Lengths.{zero_length}
use Rattle.order_theory.proofs.FinitePlaces.{one_short, x_long}
use Rattle.std.proofs.lemmas.Bool.{cases_lt}

-- what is added is shorter: the sum isn't
sum_long : (k : CodeField) (a b : Polynomial k) → length a.0 < length b.0
    → length b.0 ≤ length ((polynomials k).◌⊕◌ b a).0
sum_long k a b short = go (cases_lt (length ((polynomials k).◌⊕◌ b a).0) (length b.0))
  where
    back : (a b : Polynomial k) → (polynomials k).◌⊕◌ ((polynomials k).◌⊕◌ b a) ((polynomials k).⊖◌ a) ≡ b
    back a b = ring (polynomials k).ring (a ∷ b ∷ []) λ q h. simp (reads, q, h 0, h 1) (q.equal _ _ refl)

    go : (length ((polynomials k).◌⊕◌ b a).0 < length b.0) ⊎ (length b.0 ≤ length ((polynomials k).◌⊕◌ b a).0)
        → length b.0 ≤ length ((polynomials k).◌⊕◌ b a).0
    go (inr le) = le
    go (inl less) =
        let l = length_add (code_ring k) ((polynomials k).◌⊕◌ b a) ((polynomials k).⊖◌ a) (length b.0 - 1) (omega arith)
        (length_neg (code_ring k) a (length b.0 - 1) (omega arith)) in
        let e : length ((polynomials k).◌⊕◌ ((polynomials k).◌⊕◌ b a) ((polynomials k).⊖◌ a)).0
        ≡ length b.0 = ap (λ p. length p.0) (back a b) in
        absurd (omega (arith, l, e, short))

module _ {k : CodeField} (c : Equation k) where
  infixl 65 ◌⊕◌
  infixl 70 ◌⊗◌
  infixr 80 ⊖◌
  open ring_of c use {𝟘, 𝟙, ◌⊕◌, ◌⊗◌, ⊖◌}

  abbrev S : FunctionOf c → Type 0
  S = IsFiniteAtInfinity c

  𝓢 : IsSubring (ring_of c).ops (IsFiniteAtInfinity c)
  𝓢 = finite_at_infinity_subring c

  -- 1/x
  abbrev pub t : FunctionOf c
  t = over c (row_of c (polynomials k).𝟙) (x_poly k) (x_poly_not_zero k)

  t_in : S t
  t_in = record {
    top = (polynomials k).𝟙;
    bottom = x_poly k;
    not_null = x_poly_not_zero k;
    degrees = let a = one_short k in let b = x_long k in omega arith;
    value = refl;
  }

  x_times_t : of_poly c (x_poly k) ⊗ t ≡ 𝟙
  x_times_t = over_times_den c (polynomials k).𝟙 (x_poly k) (x_poly_not_zero k) ∙ sym (of_poly_one c)

  -- 1 + t·s is invertible among the scalars
  unit_of : (s : FunctionOf c) → S s → (v : FunctionOf c) × S v × (v ⊗ (𝟙 ⊕ t ⊗ s) ≡ 𝟙)
  unit_of s s_in = (
    over c (row_of c xb) n n_some,
    record { top = xb; bottom = n; not_null = n_some; degrees = long; value = refl },
    inverse,
  )
    where
      xb : Polynomial k
      xb = (polynomials k).◌⊗◌ (x_poly k) s_in.bottom

      n : Polynomial k
      n = (polynomials k).◌⊕◌ ((polynomials k).◌⊗◌ (x_poly k) s_in.bottom) s_in.top

      bigger : length s_in.bottom.0 < length ((polynomials k).◌⊗◌ (x_poly k) s_in.bottom).0
      bigger =
          let l = length_product (code_ring k) (code_domain k) (x_poly k) s_in.bottom (x_poly_not_zero k)
          s_in.not_null in
          let b = x_long k in omega arith

      long : length ((polynomials k).◌⊗◌ (x_poly k) s_in.bottom).0 ≤ length
          ((polynomials k).◌⊕◌ ((polynomials k).◌⊗◌ (x_poly k) s_in.bottom) s_in.top).0
      long = sum_long k s_in.top ((polynomials k).◌⊗◌ (x_poly k) s_in.bottom)
          (let d = s_in.degrees in let b = bigger in omega arith)

      n_some : ¬ ((polynomials k).◌⊕◌ ((polynomials k).◌⊗◌ (x_poly k) s_in.bottom) s_in.top ≡ (polynomials k).𝟘)
      n_some e =
          let z : length ((polynomials k).◌⊕◌ ((polynomials k).◌⊗◌ (x_poly k) s_in.bottom) s_in.top).0
          ≡ 0 = ap (λ p. length p.0) e ∙ zero_length k in
          let l = long in let b = bigger in absurd (omega (arith, z, l, b))

      scaled : (X B u r A : FunctionOf c) → X ⊗ u ≡ 𝟙 → B ⊗ r ≡ A → (X ⊗ B) ⊗ (𝟙 ⊕ u ⊗ r) ≡ X ⊗ B ⊕ A
      scaled X B u r A e f =
          from_two (ring_of c) (B ⊗ r) 𝟙 e f
          (ring (ring_of c) (X ∷ B ∷ u ∷ r ∷ A ∷ []) λ q h. simp (reads, q, h 0, h 1, h 2, h 3, h 4) (q.equal _ _ refl))

      bottom_times : of_poly c s_in.bottom ⊗ s ≡ of_poly c s_in.top
      bottom_times = ap (λ z. of_poly c s_in.bottom ⊗ z) s_in.value
          ∙ over_times_den c s_in.top s_in.bottom s_in.not_null

      whole : of_poly c ((polynomials k).◌⊗◌ (x_poly k) s_in.bottom) ⊗ (𝟙 ⊕ t ⊗ s)
          ≡ of_poly c ((polynomials k).◌⊕◌ ((polynomials k).◌⊗◌ (x_poly k) s_in.bottom) s_in.top)
      whole =
          ap (λ z. z ⊗ (𝟙 ⊕ t ⊗ s)) ((poly_hom c).mul _ _)
          ∙ scaled (of_poly c (x_poly k)) (of_poly c s_in.bottom) t s (of_poly c s_in.top) x_times_t bottom_times
          ∙ sym ((poly_hom c).add _ _ ∙ ap (λ z. z ⊕ of_poly c s_in.top) ((poly_hom c).mul _ _))

      cancel : (N j v w X : FunctionOf c) → N ⊗ j ≡ 𝟙 → N ⊗ v ≡ X → X ⊗ w ≡ N → v ⊗ w ≡ 𝟙
      cancel N j v w X e f g =
          sym (one_mul (ring_of c) _) ∙ ap (λ z. z ⊗ (v ⊗ w)) (sym e) ∙ moved N j v w ∙ ap (λ z. j ⊗ (z ⊗ w)) f
          ∙ ap (λ z. j ⊗ z) g ∙ (ring_of c).mul_comm j N ∙ e
        where
          moved : (N j v w : FunctionOf c) → (N ⊗ j) ⊗ (v ⊗ w) ≡ j ⊗ ((N ⊗ v) ⊗ w)
          moved N j v w =
              ring (ring_of c) (N ∷ j ∷ v ∷ w ∷ []) λ q h. simp (reads, q, h 0, h 1, h 2, h 3) (q.equal _ _ refl)

      inverse : over c (row_of c ((polynomials k).◌⊗◌ (x_poly k) s_in.bottom))
          ((polynomials k).◌⊕◌ ((polynomials k).◌⊗◌ (x_poly k) s_in.bottom) s_in.top) n_some ⊗ (𝟙 ⊕ t ⊗ s) ≡ 𝟙
      inverse =
          cancel (of_poly c n) (over c (row_of c (polynomials k).𝟙) n n_some) _ (𝟙 ⊕ t ⊗ s) (of_poly c xb)
          (over_times_den c (polynomials k).𝟙 n n_some ∙ sym (of_poly_one c)) (over_times_den c xb n n_some) whole

  abbrev pub infinite : List (FunctionOf c) → Place (FunctionOf c)
  infinite gs = record { side = Infinite; generators = gs }

  module _ (gs : List (FunctionOf c)) (place : IsPlace (setting_of c) (infinite gs)) where
    abbrev M : FunctionOf c → Type 0
    M = IsIn (setting_of c) (infinite gs)

    𝓜 : IsModule (ring_of c).ops (IsFiniteAtInfinity c) M
    𝓜 = span_module (ring_of c) (IsFiniteAtInfinity c) 𝓢 gs

    abbrev Int : FunctionOf c → Type 0
    Int = IsIntegralAt (setting_of c) Infinite

    𝓘 : IsSubring (ring_of c).ops Int
    𝓘 = integral_ring (ring_of c) (IsFiniteAtInfinity c) 𝓢

    scalar_integral : (s : FunctionOf c) → S s → Int s
    scalar_integral s h = integral_base (ring_of c) (IsFiniteAtInfinity c) 𝓢 s h

    low_integral : (s : FunctionOf c) → Int s → (n : ℕ) (a : FunctionOf c)
        → Low (ring_of c).ops (IsFiniteAtInfinity c) s n a → Int a
    low_integral s s_int zero a h = subst Int (sym h) 𝓘.zero_in
    low_integral s s_int (suc n) a h =
        subst Int (sym h.is) (𝓘.sum_in _ _ (scalar_integral _ h.constant_in)
        (𝓘.product_in _ _ s_int (low_integral s s_int n h.rest h.rest_in)))

    minus_in : (z : FunctionOf c) → M z → M (⊖ z)
    minus_in z h =
        subst M (neg_mul (ring_of c) 𝟙 z ∙ ap ⊖◌ (one_mul (ring_of c) z)) (𝓜.scale_in (⊖ 𝟙) z (𝓢.neg_in 𝟙 𝓢.one_in) h)

    pub infinite_over_t : Dec (M t) → M t
    infinite_over_t (yes m) = m
    infinite_over_t (no n) =
        let i = place.inverse t (scalar_integral t t_in) n in
        let u = unit_trick (ring_of c) (IsFiniteAtInfinity c) 𝓢 t i.0 t_in i.1 in
        let v = unit_of u.base u.base_in in
        let m : M (𝟙 ⊕ t ⊗ u.base)
        = subst M (ap (λ z. z ⊗ u.cofactor) (turned (t ⊗ i.0)) ∙ u.is)
        (subst M ((ring_of c).mul_comm _ _)
        (place.ideal u.cofactor _ (low_integral i.0 i.1 i.1.degree u.cofactor u.cofactor_in) (minus_in _ i.2))) in
        absurd (place.proper (subst M v.2 (𝓜.scale_in v.0 _ v.1 m)))
      where
        turned : (z : FunctionOf c) → ⊖ (z ⊕ ⊖ 𝟙) ≡ 𝟙 ⊕ ⊖ z
        turned z = ring (ring_of c) (z ∷ []) λ q h. simp (reads, q, h 0) (q.equal _ _ refl)
