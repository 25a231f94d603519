-- Where the discriminant isn't 0, the functions that are integral over the polynomials are a lattice: whether a
-- function is integral is decided by a chain of lattices, and they lie between k[x][y] and its multiple by
-- 1/discriminant.
use Rattle.std.proofs.Common.{◌≡◌, All, ℕ, zero, suc, ◌<◌, List, ◌++◌, map, refl, sym, ◌∙◌, ap, subst, arith}
use Rattle.std.proofs.lemmas.List.Elements.{All-append, All-weaker, All-map}
use Rattle.ring_theory.specs.Subsets.{IsSubring, IsModule, Span}
use Rattle.ring_lemmas.specs.Ring.{pow}
use Rattle.ring_lemmas.specs.Rows.{Row, entry}
use Rattle.ring_lemmas.proofs.Ring.{one_mul}
use Rattle.ring_theory.proofs.RowMaps.{eval_none, eval_cons}
use Rattle.ring_theory.proofs.Subsets.{span_least, span_members, span_append_left, span_append_right, span_multiples}
use Rattle.prime_theory.specs.Ideals.{Multiple}
use Rattle.prime_theory.proofs.IntegralRing.{integral_ring, integral_base, integral_of_stable}
use Rattle.ff_fields.specs.Field.{CodeField}
use Rattle.ff_poly.specs.Polynomials.{Polynomial, polynomials}
use Rattle.function_field.specs.declared.side.Side.TheVariants.{Finite}
use Rattle.function_field.specs.Places.{IsIntegralAt}
use Rattle.function_field.specs.Functions.{Equation, FunctionOf, ring_of, of_poly, row_of, y_of, IsPolynomial, setting_of}
use Rattle.function_field.specs.Discriminant.{discriminant}
use Rattle.function_field.proofs.ScalarRings.{polynomials_subring, of_poly_one}
use Rattle.places_theory.proofs.SamePlaces.{decide_all}
use Rattle.places_theory.proofs.YRoot.{poly_hom, at_y, at_y_plain, y_root}
use Rattle.trace_theory.specs.Traces.{HasPolynomialCoordinates}
use Rattle.trace_theory.proofs.IntegralLaw.{discriminant_clears, eval_sum}
use Rattle.function_field.specs.Indices.{HasIndex}
use Rattle.lattice_theory.specs.Lattices.{IsLattice, HasMultiple}
use Rattle.lattice_theory.proofs.Lattices.{lattice_module, lattice_decided, lattice_generators, span_decided}
use Rattle.lattice_theory.proofs.Indices.{index_of, index_less}
use Rattle.lattice_theory.proofs.Between.{lattice_between}
use Rattle.lattice_theory.proofs.Operations.{multiple_lattice, polynomial_lattice, inverse_of, quotient_module}

module _ {k : CodeField} (c : Equation k) where
  infixl 65 ◌⊕◌
  infixl 70 ◌⊗◌
  infixr 80 ⊖◌
  open ring_of c use {𝟘, 𝟙, ◌⊕◌, ◌⊗◌, ⊖◌}

  abbrev Spanned : List (FunctionOf c) → FunctionOf c → Type 0
  Spanned gs = Span (ring_of c).ops (IsPolynomial c) gs

  𝓢 : IsSubring (ring_of c).ops (IsPolynomial c)
  𝓢 = polynomials_subring c

  abbrev Int : FunctionOf c → Type 0
  Int = IsIntegralAt (setting_of c) Finite

  pub integral_subring : IsSubring (ring_of c).ops Int
  integral_subring = integral_ring (ring_of c) (IsPolynomial c) 𝓢

  pub polynomial_integral : (s : FunctionOf c) → IsPolynomial c s → Int s
  polynomial_integral s h = integral_base (ring_of c) (IsPolynomial c) 𝓢 s h

  pub polynomial_in : (a : Polynomial k) → Int (of_poly c a)
  polynomial_in a = polynomial_integral (of_poly c a) (record { polynomial = a; value = refl })

  pub integral_module : IsModule (ring_of c).ops (IsPolynomial c) Int
  integral_module = record {
    zero_in = integral_subring.zero_in;
    sum_in = integral_subring.sum_in;
    scale_in = λ s a s_in h. integral_subring.product_in s a (polynomial_integral s s_in) h;
  }

  -- y and the members of k[x][y] are integral
  pub y_integral : Int (y_of c)
  y_integral = record {
    degree = suc c.lower_degree;
    positive = omega arith;
    coefficient = λ i. of_poly c (entry (polynomials k).ops (suc c.lower_degree) i c.coefficients);
    coefficient_in =
        λ i. record { polynomial = entry (polynomials k).ops (suc c.lower_degree) i c.coefficients; value = refl };
    root =
        ap (λ s. pow (ring_of c).ops (y_of c) (suc c.lower_degree) ⊕ s)
        (sym (eval_sum (polynomials k).ring (ring_of c) (of_poly c) (poly_hom c) (y_of c) (suc c.lower_degree)
        c.coefficients)) ∙ y_root c;
  }

  at_y_integral : (m : ℕ) (v : Row (Polynomial k) m) → Int (at_y c m v)
  at_y_integral zero v =
      subst Int (sym (eval_none (polynomials k).ring (ring_of c) (of_poly c) (poly_hom c) (y_of c) v))
      integral_subring.zero_in
  at_y_integral (suc m) (a, v) =
      subst Int (sym (eval_cons (polynomials k).ring (ring_of c) (of_poly c) (poly_hom c) (y_of c) m a v))
      (integral_subring.sum_in _ _ (polynomial_in a)
      (integral_subring.product_in _ _ y_integral (at_y_integral m v)))

  pub coordinates_integral : (z : FunctionOf c) → HasPolynomialCoordinates c z → Int z
  coordinates_integral z h =
      subst Int (at_y_plain c h.coordinates ∙ sym h.value) (at_y_integral (suc c.lower_degree) h.coordinates)

  -- the lattice of finitely many functions, and that with more of them
  span_lattice : (gs : List (FunctionOf c)) → ((z : FunctionOf c) → HasMultiple c (Spanned gs) z)
      → IsLattice c (Spanned gs)
  span_lattice gs full = record { generators = gs; spanned = λ z. (λ h. h, λ h. h); full = full }

  module _ (B : FunctionOf c → Type 0) (𝓑 : IsLattice c B) (bounded : (z : FunctionOf c) → Int z → B z)
      (z : FunctionOf c) where
    -- a lattice with 1 grows by its multiples by z until z takes it into itself or it leaves B
    decide_from : (n : ℕ) (gs : List (FunctionOf c)) (full : (w : FunctionOf c) → HasMultiple c (Spanned gs) w)
        → Spanned gs 𝟙
        → ((w : FunctionOf c) → Spanned gs w → B w) → (Int z → All Int gs) → (g : ℕ) → HasIndex c (Spanned gs) B g
        → g < n → Dec (Int z)
    decide_from zero gs full one within int g i l = absurd (omega arith)
    decide_from (suc n) gs full one within int g i l =
        go (decide_all (λ b. Spanned gs (z ⊗ b)) (λ b. span_decided c gs (z ⊗ b)) gs)
        (decide_all (λ b. B (z ⊗ b)) (λ b. lattice_decided c B 𝓑 (z ⊗ b)) gs)
        (λ full' one' within' int' g' i' l'. decide_from n (gs ++ map (◌⊗◌ z) gs) full' one' within' int' g' i' l')
      where
        next : List (FunctionOf c)
        next = gs ++ map (◌⊗◌ z) gs

        wider : (w : FunctionOf c) → Spanned gs w → Spanned (gs ++ map (◌⊗◌ z) gs) w
        wider w h = span_append_left (ring_of c) (IsPolynomial c) 𝓢 gs (map (◌⊗◌ z) gs) w h

        next_full : (w : FunctionOf c) → HasMultiple c (Spanned (gs ++ map (◌⊗◌ z) gs)) w
        next_full w = let f = full w in record { factor = f.factor; some = f.some; multiple_in = wider _ f.multiple_in }

        next_int : Int z → All Int (gs ++ map (◌⊗◌ z) gs)
        next_int h =
            All-append Int gs (map (◌⊗◌ z) gs) (int h)
            (All-map Int (◌⊗◌ z) gs (All-weaker Int (λ b. Int (z ⊗ b))
            (λ b b_in. integral_subring.product_in z b h b_in) gs (int h)))

        next_within : All (λ b. B (z ⊗ b)) gs → (w : FunctionOf c) → Spanned (gs ++ map (◌⊗◌ z) gs) w → B w
        next_within h =
            span_least (ring_of c) (IsPolynomial c) 𝓢 B (lattice_module c B 𝓑) (gs ++ map (◌⊗◌ z) gs)
            (All-append B gs (map (◌⊗◌ z) gs)
            (All-weaker (Spanned gs) B within gs (span_members (ring_of c) (IsPolynomial c) 𝓢 gs))
            (All-map B (◌⊗◌ z) gs h))

        stays : ((w : FunctionOf c) → Spanned (gs ++ map (◌⊗◌ z) gs) w → Spanned gs w)
            → All (λ b. Spanned gs (z ⊗ b)) gs
        stays h =
            All-weaker (Spanned gs) (λ b. Spanned gs (z ⊗ b))
            (λ b b_in. h (z ⊗ b) (span_append_right (ring_of c) (IsPolynomial c) 𝓢 gs (map (◌⊗◌ z) gs) (z ⊗ b)
            (span_multiples (ring_of c) (IsPolynomial c) 𝓢 z gs b b_in))) gs
            (span_members (ring_of c) (IsPolynomial c) 𝓢 gs)

        go : Dec (All (λ b. Spanned gs (z ⊗ b)) gs) → Dec (All (λ b. B (z ⊗ b)) gs)
            → ((full' : (w : FunctionOf c) → HasMultiple c (Spanned (gs ++ map (◌⊗◌ z) gs)) w)
            → Spanned (gs ++ map (◌⊗◌ z) gs) 𝟙
            → ((w : FunctionOf c) → Spanned (gs ++ map (◌⊗◌ z) gs) w → B w)
            → (Int z → All Int (gs ++ map (◌⊗◌ z) gs)) → (g' : ℕ)
            → HasIndex c (Spanned (gs ++ map (◌⊗◌ z) gs)) B g' → g' < n → Dec (Int z))
            → Dec (Int z)
        go (yes h) b again =
            yes (integral_of_stable (ring_of c) (IsPolynomial c) 𝓢 gs 𝟙 𝟙 z ((ring_of c).mul_one 𝟙) one
            (span_least (ring_of c) (IsPolynomial c) 𝓢 (λ y. Spanned gs (z ⊗ y))
            (quotient_module (ring_of c) (IsPolynomial c) (Spanned gs)
            (lattice_module c (Spanned gs) (span_lattice gs full)) z) gs h))
        go (no n) (no m) again =
            no (λ h. m (All-weaker Int (λ b. B (z ⊗ b))
            (λ b b_in. bounded (z ⊗ b) (integral_subring.product_in z b h b_in)) gs (int h)))
        go (no m) (yes h) again =
            let t = index_of c (Spanned next) B (span_lattice next next_full) 𝓑 (next_within h) in
            let less : t.0 < g
            = index_less c (Spanned gs) (Spanned next) B (span_lattice gs full) (span_lattice next next_full) 𝓑 wider
            (next_within h)
            (λ e. m (stays e)) g t.0 i t.1 in
            again next_full (wider 𝟙 one) (next_within h) next_int t.0 t.1 (omega arith)

    pub integral_decided : Dec (Int z)
    integral_decided =
        decide_from (suc t.0) 𝓟.generators full ((𝓟.spanned 𝟙).0 one) within all_int t.0 t.1 (omega arith)
      where
        𝓟 : IsLattice c (HasPolynomialCoordinates c)
        𝓟 = polynomial_lattice c

        one : HasPolynomialCoordinates c 𝟙
        one = record { coordinates = row_of c (polynomials k).𝟙; value = of_poly_one c }

        full : (w : FunctionOf c) → HasMultiple c (Spanned 𝓟.generators) w
        full w = let f = 𝓟.full w in
            record { factor = f.factor; some = f.some; multiple_in = (𝓟.spanned _).0 f.multiple_in }

        within : (w : FunctionOf c) → Spanned 𝓟.generators w → B w
        within w h = bounded w (coordinates_integral w ((𝓟.spanned w).1 h))

        all_int : Int z → All Int 𝓟.generators
        all_int h =
            All-weaker (HasPolynomialCoordinates c) Int coordinates_integral 𝓟.generators
            (lattice_generators c (HasPolynomialCoordinates c) 𝓟)

        t : (g : ℕ) × HasIndex c (Spanned 𝓟.generators) B g
        t = index_of c (Spanned 𝓟.generators) B (span_lattice 𝓟.generators full) 𝓑 within

  -- the integral functions are a lattice
  pub integral_lattice : ¬ (discriminant c ≡ (polynomials k).𝟘) → IsLattice c Int
  integral_lattice some =
      lattice_between c Int B 𝓑 (λ z h. integral_decided B 𝓑 bounded z) (HasPolynomialCoordinates c)
      (polynomial_lattice c) integral_module coordinates_integral bounded
    where
      u : (u : FunctionOf c) × (of_poly c (discriminant c) ⊗ u ≡ 𝟙)
      u = inverse_of c (discriminant c) some

      B : FunctionOf c → Type 0
      B = Multiple (ring_of c).ops u.0 (HasPolynomialCoordinates c)

      𝓑 : IsLattice c (Multiple (ring_of c).ops u.0 (HasPolynomialCoordinates c))
      𝓑 = multiple_lattice c (HasPolynomialCoordinates c) (polynomial_lattice c) u.0 (of_poly c (discriminant c))
          ((ring_of c).mul_comm _ _ ∙ u.1)

      bounded : (z : FunctionOf c) → Int z → Multiple (ring_of c).ops u.0 (HasPolynomialCoordinates c) z
      bounded z h = record {
        quotient = of_poly c (discriminant c) ⊗ z;
        quotient_in = discriminant_clears c z h;
        is = sym (sym ((ring_of c).mul_assoc _ _ z) ∙ ap (λ x. x ⊗ z) ((ring_of c).mul_comm _ _ ∙ u.1)
            ∙ one_mul (ring_of c) z);
      }
