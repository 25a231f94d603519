-- The isomorphism between the functions of the infinite presentation and those of the curve carries the variable to t
-- = 1/x, fractions with denominators that the variable doesn't divide to those of degree at most 0, and what is
-- integral, or spanned, over the ones to what is so over the others.
use Rattle.std.proofs.Common.{◌≡◌, ◌↔◌, ℕ, ◌≤◌, List, [], ◌∷◌, length, map, get_or, refl, sym, ◌∙◌, ap, ap₂, subst, arith}
use Rattle.std.proofs.lemmas.List.{length-map}
use Rattle.ring_lemmas.specs.Ring.{CommRing}
use Rattle.ring_lemmas.specs.Lists.{coeff_of}
use Rattle.ring_theory.specs.Subsets.{Span}
use Rattle.ring_theory.specs.Local.{Locally}
use Rattle.ring_theory.specs.Integral.{IsIntegral}
use Rattle.ring_lemmas.proofs.Ring.{zero_mul, zero_add, mul_zero}
use Rattle.ring_lemmas.proofs.Solver.{ring, reads}
use Rattle.ring_lemmas.proofs.Polynomials.{series_mul}
use Rattle.ring_theory.proofs.RowMaps.{hom_zero}
use Rattle.ff_fields.specs.Field.{CodeField}
use Rattle.ff_fields.specs.Over.{IsOver, IsOver_nil, IsOver_cons, IsOver_head}
use Rattle.ff_fields.specs.Code.{code_ring, same_code, zero_in, read_code, read_code_below}
use Rattle.ff_fields.specs.Numbers.{read}
use Rattle.linear_theory.specs.Euclidean.{IsDivisorIn}
use Rattle.ff_poly.specs.Value.{value, numbers_value}
use Rattle.ff_poly.specs.Words.{IsIrreducibleList}
use Rattle.ff_poly.specs.Polynomials.{Polynomial, polynomials, codes_of, value_codes_of, value_nil, value_one, value_cons, series_read, IsOver_codes_of, x_poly, constant_poly}
use Rattle.function_field.specs.declared.side.Side.TheVariants.{Finite, Infinite}
use Rattle.function_field.specs.Functions.{of_poly, IsPolynomial, IsFiniteAtInfinity}
use Rattle.function_field.specs.Values.{PresValue, Functions, functions, setting, equation_of}
use Rattle.function_field.specs.Places.{IsIntegralAt}
use Rattle.function_field.specs.Infinity.{value_at, variable, IsInfinitePresentation}
use Rattle.places_theory.specs.Maps.{IsIsomorphism}
use Rattle.places_theory.specs.InfiniteSide.{InReverse, IsPrimeToT}
use Rattle.places_theory.proofs.AtInfinity.{at_codes, value_at_is, constant_zero}
use Rattle.places_theory.proofs.InfinitePresentation.{polynomial_iff, integral_reverse}
use Rattle.places_theory.proofs.InfiniteSide.{scalars_local, integral_local, span_local}
use Rattle.places_theory.proofs.PresentationMap.{presentation_map, map_poly, map_y, map_element}
use Rattle.places_theory.proofs.Presentations.{map_injective, presentation_isomorphism}
use Rattle.places_theory.proofs.Transport.{span_iff}
use Rattle.places_theory.proofs.YRoot.{poly_hom}
use Rattle.trace_theory.proofs.InfiniteTraces.{same_trace}
use Rattle.order_theory.specs.Orders.{IsPrimeTo}
use Rattle.infinite_theory.specs.Supported.{IsLocallyIn}
use Rattle.infinite_theory.specs.InfiniteMaps.{IsInfiniteMap}

module _ (k : CodeField) where
  x_codes : codes_of k (x_poly k) ≡ 0 ∷ 1 ∷ []
  x_codes =
      numbers_value k (0 ∷ 1 ∷ []) (IsOver_cons (zero_in k) (IsOver_cons k.laws.one_below IsOver_nil))
      (record { trimmed = refl })

  pub x_length : length (x_poly k).0 ≡ 2
  x_length = sym (length-map (x_poly k).0 (λ x. x.0)) ∙ ap length x_codes

  pub x_irreducible : IsIrreducibleList k.ops (codes_of k (x_poly k))
  x_irreducible = record {
    monic = (0 ∷ [], x_codes);
    not_constant = let e : length (codes_of k (x_poly k)) ≡ 2 = ap length x_codes in omega arith;
    no_divisor = λ b b_in b_monic long short. let e : length (codes_of k (x_poly k)) ≡ 2 = ap length x_codes in
        absurd (omega arith);
  }

  -- the variable divides what it has a factor of, and then the first code is 0
  first_of_multiple : (a : Polynomial k) → IsDivisorIn (polynomials k).ops (x_poly k) a
      → coeff_of (code_ring k).ops a.0 0 ≡ (code_ring k).𝟘
  first_of_multiple a d =
      ap (λ b. coeff_of (code_ring k).ops b.0 0) d.1 ∙ series_mul (code_ring k) (x_poly k) d.0 0
      ∙ ap (λ s. (code_ring k).◌⊗◌ s (coeff_of (code_ring k).ops d.0.0 0)) low ∙ zero_mul (code_ring k).ring _
    where
      low : coeff_of (code_ring k).ops (x_poly k).0 0 ≡ (code_ring k).𝟘
      low = series_read k (0 ∷ 1 ∷ []) 0 ∙ same_code k (read_code k 0) (code_ring k).𝟘 (read_code_below k 0 (zero_in k))

  first_read : (w : List ℕ) → IsOver k.ops w → (coeff_of (code_ring k).ops (read k w) 0).0 ≡ get_or w 0 0
  first_read [] h = refl
  first_read (c ∷ w) h = read_code_below k c (IsOver_head h)

  -- a list that does not begin with 0 stands for no multiple of the variable
  pub first_not_zero : (w : List ℕ) → IsOver k.ops w → ¬ (get_or w 0 0 ≡ 0)
      → ¬ (IsDivisorIn (polynomials k).ops (x_poly k) (value k w))
  first_not_zero w w_in n d =
      n (sym (first_read w w_in) ∙ ap (λ x. x.0) (sym (series_read k w 0) ∙ first_of_multiple (value k w) d))

  -- a list that begins with 0 stands for a multiple
  pub first_zero : (w : List ℕ) → get_or w 0 0 ≡ 0 → IsDivisorIn (polynomials k).ops (x_poly k) (value k w)
  first_zero [] e = ((polynomials k).𝟘, value_nil k ∙ sym (mul_zero (polynomials k).ring (x_poly k)))
  first_zero (c ∷ w) e =
      let z : c ≡ 0 = e in (
        value k w,
        ap (λ a. value k (a ∷ w)) z ∙ value_cons k 0 w
            ∙ ap (λ a. (polynomials k).◌⊕◌ a ((polynomials k).◌⊗◌ (x_poly k) (value k w))) (constant_zero k)
            ∙ zero_add (polynomials k).ring _,
      )

-- locally on the one side is locally on the other
locally_map : {A B : Type 0} (R : CommRing A) (R' : CommRing B) (f : A → B) → IsIsomorphism R R' f
    → (N L : A → Type 0) (N' L' : B → Type 0)
    → ((w : A) → N w ↔ N' (f w)) → ((z : A) → L z ↔ L' (f z)) → (z : A) → Locally R.ops N L z
    ↔ Locally R'.ops N' L' (f z)
locally_map R R' f iso N L N' L' n l z = (
  λ m. record {
    factor = f m.factor;
    factor_in = (n m.factor).0 m.factor_in;
    multiple_in = subst L' (iso.hom.mul m.factor z) ((l _).0 m.multiple_in);
  },
  λ m.
      let w = iso.onto m.factor in
      record {
        factor = w.0;
        factor_in = (n w.0).1 (subst N' (sym w.1) m.factor_in);
        multiple_in = (l _).1 (subst L' (sym (iso.hom.mul w.0 z ∙ ap (λ x. R'.◌⊗◌ x (f z)) w.1)) m.multiple_in);
      },
)

module _ (k : CodeField) (p q : PresValue) (c : ℕ) (h : IsInfinitePresentation k p c q) (some : 1 ≤ p.n) where
  abbrev f : Functions k q → Functions k p
  f = presentation_map k p q c h some

  iso : IsIsomorphism (functions k q) (functions k p) (presentation_map k p q c h some)
  iso = presentation_isomorphism k p q c h some

  abbrev T : Functions k p
  T = variable k p Infinite

  -- what the variable doesn't divide goes to what t doesn't divide
  prime_map : (w : Functions k q) → IsPrimeTo (equation_of k q) (x_poly k) w
      ↔ IsPrimeToT k p (presentation_map k p q c h some w)
  prime_map w = (
    λ m. record {
      codes = codes_of k m.polynomial;
      codes_over = IsOver_codes_of k m.polynomial;
      first = λ e. m.not_divided
          (subst (IsDivisorIn (polynomials k).ops (x_poly k)) (value_codes_of k m.polynomial)
          (first_zero k (codes_of k m.polynomial) e));
      value = ap f m.value ∙ map_poly k p q c h some m.polynomial ∙ at_codes k p T m.polynomial;
    },
    λ m. record {
      polynomial = value k m.codes;
      not_divided = first_not_zero k m.codes m.codes_over m.first;
      value =
          map_injective k p q c h some w (of_poly (equation_of k q) (value k m.codes))
          (m.value ∙ value_at_is k p T m.codes ∙ sym (map_poly k p q c h some (value k m.codes)));
    },
  )

  scalar_map : (z : Functions k q)
      → IsLocallyIn (equation_of k q) (x_poly k) (IsPolynomial (equation_of k q)) z
      ↔ IsFiniteAtInfinity (equation_of k p) (presentation_map k p q c h some z)
  scalar_map z =
      let e = locally_map (functions k q) (functions k p) f iso _ (IsPolynomial (equation_of k q)) _ (InReverse k p)
      prime_map (polynomial_iff k p q c h some) z in
      (λ m. (scalars_local k p (f z)).1 (e.0 m), λ m. e.1 ((scalars_local k p (f z)).0 m))

  integral_map : (z : Functions k q) → IsLocallyIn (equation_of k q) (x_poly k) (IsIntegralAt (setting k q) Finite) z
      ↔ IsIntegralAt (setting k p) Infinite (presentation_map k p q c h some z)
  integral_map z =
      let e = locally_map (functions k q) (functions k p) f iso _ (IsIntegralAt (setting k q) Finite) _
      (IsIntegral (functions k p).ops (InReverse k p)) prime_map (integral_reverse k p q c h some) z in
      (λ m. (integral_local k p (f z)).1 (e.0 m), λ m. e.1 ((integral_local k p (f z)).0 m))

  span_map : (gs : List (Functions k q)) (z : Functions k q)
      → IsLocallyIn (equation_of k q) (x_poly k) (Span (functions k q).ops (IsPolynomial (equation_of k q)) gs) z
      ↔ Span (functions k p).ops (IsFiniteAtInfinity (equation_of k p)) (map (presentation_map k p q c h some) gs)
      (presentation_map k p q c h some z)
  span_map gs z =
      let e =
      locally_map (functions k q) (functions k p) f iso _
      (Span (functions k q).ops (IsPolynomial (equation_of k q)) gs) _
      (Span (functions k p).ops (InReverse k p) (map (presentation_map k p q c h some) gs)) prime_map
      (span_iff (functions k q) (functions k p) f iso (IsPolynomial (equation_of k q)) (InReverse k p)
      (polynomial_iff k p q c h some) gs) z in
      (λ m. (span_local k p (map f gs) (f z)).1 (e.0 m), λ m. e.1 ((span_local k p (map f gs) (f z)).0 m))

  -- the variable goes to t
  variable_map : presentation_map k p q c h some (of_poly (equation_of k q) (x_poly k)) ≡ variable k p Infinite
  variable_map = map_poly k p q c h some (x_poly k) ∙ sym (value_at_is k p T (0 ∷ 1 ∷ [])) ∙ at_t
    where
      plain : (t : Functions k p)
          → (functions k p).◌⊕◌ (functions k p).𝟘
          ((functions k p).◌⊗◌ t ((functions k p).◌⊕◌ (functions k p).𝟙 ((functions k p).◌⊗◌ t (functions k p).𝟘))) ≡ t
      plain t = ring (functions k p) (t ∷ []) λ q i. simp (reads, q, i 0) (q.equal _ _ refl)

      zero_code : of_poly (equation_of k p) (constant_poly k 0) ≡ (functions k p).𝟘
      zero_code = ap (of_poly (equation_of k p)) (constant_zero k)
          ∙ hom_zero (polynomials k).ring (functions k p) (of_poly (equation_of k p)) (poly_hom (equation_of k p))

      one_code : of_poly (equation_of k p) (constant_poly k 1) ≡ (functions k p).𝟙
      one_code = ap (of_poly (equation_of k p)) (value_one k) ∙ (poly_hom (equation_of k p)).𝟙

      at_t : value_at k p (variable k p Infinite) (0 ∷ 1 ∷ []) ≡ variable k p Infinite
      at_t =
          ap₂ (λ a b. (functions k p).◌⊕◌ a
          ((functions k p).◌⊗◌ T ((functions k p).◌⊕◌ b ((functions k p).◌⊗◌ T (functions k p).𝟘)))) zero_code one_code
          ∙ plain (variable k p Infinite)

  pub infinite_map : IsInfiniteMap k p q c (presentation_map k p q c h some)
  infinite_map = record {
    isomorphism = iso;
    elements = map_element k p q c h some;
    traces = same_trace k p q c h some;
    variable = variable_map;
    generator_is = map_y k p q c h some;
    values = λ a. map_poly k p q c h some a ∙ at_codes k p T a;
    polynomials = polynomial_iff k p q c h some;
    prime_to = prime_map;
    reverse = integral_reverse k p q c h some;
    scalars = scalar_map;
    integral = integral_map;
    spans = span_map;
  }
