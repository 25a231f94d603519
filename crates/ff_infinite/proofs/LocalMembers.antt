-- Membership over the fractions of degree at most 0 is membership over k[t], once the denominator is a power of t.
use Rattle.std.proofs.Common.{◌≡◌, ◌↔◌, All, ℕ, zero, suc, ◌-◌, ◌≤◌, Bool, IsTrue, List, [], ◌∷◌, ◌++◌, map, get_or, replicate, refl, sym, ◌∙◌, ap, ap₂, subst}
use Rattle.std.proofs.lemmas.List.Elements.{All-head, All-tail}
use Rattle.ring_lemmas.specs.Ring.{pow}
use Rattle.ring_theory.specs.Subsets.{Span}
use Rattle.ring_lemmas.proofs.Ring.{one_mul, zero_add}
use Rattle.ring_theory.proofs.Subsets.{span_module}
use Rattle.ring_lemmas.proofs.Solver.{ring, reads, from_two}
use Rattle.ff_fields.specs.Field.{CodeField}
use Rattle.ff_fields.specs.Over.{IsOver}
use Rattle.ff_poly.specs.Words.{IsPoly}
use Rattle.ff_poly.specs.Value.{value}
use Rattle.ff_poly.specs.Popov.{IsRow}
use Rattle.ff_poly.specs.Polynomials.{Polynomial, polynomials, value_cons, value_one, x_poly}
use Rattle.function_field.specs.declared.side.Side.TheVariants.{Infinite}
use Rattle.function_field.specs.Functions.{of_poly, over, row_of, IsPolynomial}
use Rattle.function_field.specs.Values.{PresValue, ElemValue, IsElem, IsMonicElem, Functions, functions, setting, equation_of, row_of_list, row_over, function_of}
use Rattle.function_field.specs.Infinity.{variable, function_on, IsInfinitePresentation}
use Rattle.function_field.specs.InfiniteSpans.{InInfiniteSpan}
use Rattle.function_field.proofs.OnSide.{den_inverse}
use Rattle.function_field.proofs.SameValues.{row_over_num, row_over_den, monic_some, elem_den}
use Rattle.function_field.proofs.ScalarRings.{polynomials_subring}
use Rattle.places_theory.proofs.YRoot.{poly_hom, at_y, den_times, at_y_plain}
use Rattle.polynomial_theory.proofs.Lengths.{x_power_not_zero}
use Rattle.places_theory.proofs.AtInfinity.{constant_zero, x_power, at_codes, value_at_is}
use Rattle.places_theory.proofs.PresentationMap.{presentation_map}
use Rattle.order_theory.specs.Orders.{IsPrimeTo}
use Rattle.infinite_theory.specs.Supported.{IsSupportedAt, HasPowerDenominator, IsLocallyIn}
use Rattle.infinite_theory.specs.InfiniteMaps.{IsInfiniteMap}
use Rattle.infinite_theory.proofs.InfiniteTransport.{x_irreducible, infinite_map}
use Rattle.infinite_theory.proofs.SupportedLattices.{local_member}
use Rattle.ff_lattice.specs.Lattices.{LatticeValue, IsLatticeValue, Contains, elems_over, row_elems}
use Rattle.ff_infinite.specs.Steps.{IsFreed}
use Rattle.ff_infinite.proofs.LowZeros.{over_right}

module _ (k : CodeField) where
  value_above_zeros : (b : ℕ) (u : List ℕ)
      → value k (replicate b 0 ++ u) ≡ (polynomials k).◌⊗◌ (pow (polynomials k).ops (x_poly k) b) (value k u)
  value_above_zeros zero u = sym (one_mul (polynomials k).ring (value k u))
  value_above_zeros (suc b) u =
      value_cons k 0 (replicate b 0 ++ u)
      ∙ ap₂ (polynomials k).◌⊕◌ (constant_zero k) (ap ((polynomials k).◌⊗◌ (x_poly k)) (value_above_zeros b u))
      ∙ zero_add (polynomials k).ring _
      ∙ sym ((polynomials k).mul_assoc (x_poly k) (pow (polynomials k).ops (x_poly k) b) (value k u))

module _ (k : CodeField) (q : PresValue) where
  infixl 65 ◌⊕◌
  infixl 70 ◌⊗◌
  infixr 80 ⊖◌
  open functions k q use {𝟘, 𝟙, ◌⊕◌, ◌⊗◌, ⊖◌}

  abbrev of : Polynomial k → Functions k q
  of a = of_poly (equation_of k q) a

  -- the sum of the v_i·y^i
  abbrev sum_of : List (List ℕ) → Functions k q
  sum_of vs = at_y (equation_of k q) (suc (q.n - 1)) (row_of_list k (suc (q.n - 1)) vs)

  den_times_elem : (z : ElemValue) → ¬ (value k z.den ≡ (polynomials k).𝟘)
      → of (value k z.den) ⊗ function_of k q z ≡ sum_of z.num
  den_times_elem z some =
      ap (λ d. of d ⊗ function_of k q z) (sym (row_over_den k q z some))
      ∙ den_times (equation_of k q) (row_over k q z)
      ∙ ap (at_y (equation_of k q) (suc (q.n - 1))) (row_over_num k q z)

  module _ (w v : ElemValue) (some : ¬ (value k w.den ≡ (polynomials k).𝟘)) (h : IsFreed k w v) where
    abbrev power : Polynomial k
    power = pow (polynomials k).ops (x_poly k) h.exponent

    abbrev plain_v : ElemValue
    plain_v = record { num = w.num; den = replicate h.exponent 0 ++ 1 ∷ [] }

    power_is : value k (replicate h.exponent 0 ++ 1 ∷ []) ≡ power
    power_is = value_above_zeros k h.exponent (1 ∷ []) ∙ ap ((polynomials k).◌⊗◌ power) (value_one k)
        ∙ (polynomials k).mul_one power

    freed_sum : of power ⊗ function_of k q v ≡ sum_of w.num
    freed_sum =
        ap₂ (λ d z. of d ⊗ z) (sym power_is) (h.functions q)
        ∙ den_times_elem plain_v (λ e. x_power_not_zero k h.exponent (sym power_is ∙ e))

    whole_sum : of power ⊗ (of (value k h.rest) ⊗ function_of k q w) ≡ sum_of w.num
    whole_sum =
        sym ((functions k q).mul_assoc (of power) (of (value k h.rest)) (function_of k q w))
        ∙ ap (λ d. d ⊗ function_of k q w)
        (sym ((poly_hom (equation_of k q)).mul power (value k h.rest))
        ∙ ap of (sym (ap (value k) h.den ∙ value_above_zeros k h.exponent h.rest)))
        ∙ den_times_elem w some

    -- v is w times the rest of the denominator
    freed_product : function_of k q v ≡ of (value k h.rest) ⊗ function_of k q w
    freed_product =
        cancel (of power) (over (equation_of k q) (row_of (equation_of k q) (polynomials k).𝟙) power
        (x_power_not_zero k h.exponent))
        (function_of k q v) (of (value k h.rest) ⊗ function_of k q w)
        (den_inverse (equation_of k q) power (x_power_not_zero k h.exponent)) (freed_sum ∙ sym whole_sum)
      where
        cancel : (d i z w : Functions k q) → d ⊗ i ≡ 𝟙 → d ⊗ z ≡ d ⊗ w → z ≡ w
        cancel d i z w f g =
            from_two (functions k q) (w ⊕ ⊖ z) i f g
            (ring (functions k q) (d ∷ i ∷ z ∷ w ∷ []) λ o n. simp (reads, o, n 0, n 1, n 2, n 3) (o.equal _ _ refl))

    -- a power of the variable takes v to polynomial coordinates
    freed_power : HasPowerDenominator (equation_of k q) (x_poly k) (function_of k q v)
    freed_power = record {
      exponent = h.exponent;
      cleared = record {
        coordinates = row_of_list k (suc (q.n - 1)) w.num;
        value =
            ap (λ d. d ⊗ function_of k q v) (sym (x_power k q h.exponent)) ∙ freed_sum
            ∙ at_y_plain (equation_of k q) (row_of_list k (suc (q.n - 1)) w.num);
      };
    }

module _ (k : CodeField) (p q : PresValue) (c : ℕ) (h : IsInfinitePresentation k p c q) (some : 1 ≤ p.n) where
  abbrev f : Functions k q → Functions k p
  f = presentation_map k p q c h some

  m : IsInfiniteMap k p q c (presentation_map k p q c h some)
  m = infinite_map k p q c h some

  -- the rows go to the functions that they stand for
  images : (rows : List (List (List ℕ))) (den : List ℕ) → All (IsRow k.ops q.n) rows → IsOver k.ops den → IsPoly den
      → ¬ (den ≡ [])
      → map f (map (function_of k q) (elems_over rows den)) ≡ map (function_on k p c Infinite) (elems_over rows den)
  images [] den rows_in den_in den_poly n = refl
  images (v ∷ rows) den rows_in den_in den_poly n =
      let r = All-head (IsRow k.ops q.n) v rows rows_in in
      ap₂ ◌∷◌ (m.elements (record { num = v; den = den })
      (record { one_each = r.size; num_over = r.over; den_over = den_in }) den_poly n)
      (images rows den (All-tail (IsRow k.ops q.n) v rows rows_in) den_in den_poly n)

  -- what the variable doesn't divide
  prime_to : (u : List ℕ) → IsOver k.ops u → ¬ (get_or u 0 0 ≡ 0)
      → IsPrimeTo (equation_of k q) (x_poly k) (of_poly (equation_of k q) (value k u))
  prime_to u u_in first =
      (m.prime_to (of_poly (equation_of k q) (value k u))).1 (record {
        codes = u;
        codes_over = u_in;
        first = first;
        value = m.values (value k u) ∙ sym (at_codes k p (variable k p Infinite) (value k u))
            ∙ sym (value_at_is k p (variable k p Infinite) u);
      })

  pub local_members : (l : LatticeValue) → IsLatticeValue k.ops q.n l
      → IsSupportedAt (equation_of k q) (x_poly k) (Contains k q l)
      → (z : Functions k p) (w v : ElemValue) → IsElem k.ops q.n w → IsMonicElem w → function_on k p c Infinite w ≡ z
      → (e : IsFreed k w v)
      → (b : Bool) → IsTrue b ↔ Contains k q l (function_of k q v) → IsTrue b ↔ InInfiniteSpan k p c (row_elems l) z
  local_members l l_in tame z w v w_in w_monic z_is e b decided = (
    λ t. to_z (spans.0 (local.1 (subst (Contains k q l) product (decided.0 t)))),
    λ s. decided.1 (subst (Contains k q l) (sym product) (local.0 (spans.1 (from_z s)))),
  )
    where
      rest_in : IsOver k.ops e.rest
      rest_in = over_right k.ops (replicate e.exponent 0) e.rest (subst (IsOver k.ops) e.den w_in.den_over)

      product : function_of k q v ≡ (functions k q).◌⊗◌ (of_poly (equation_of k q) (value k e.rest)) (function_of k q w)
      product = freed_product k q w v (elem_den k q w q.n w_in w_monic) e

      local : IsLocallyIn (equation_of k q) (x_poly k) (Contains k q l) (function_of k q w)
          ↔ Contains k q l ((functions k q).◌⊗◌ (of_poly (equation_of k q) (value k e.rest)) (function_of k q w))
      local =
          local_member (equation_of k q) (x_poly k) (x_irreducible k) (Contains k q l)
          (span_module (functions k q) (IsPolynomial (equation_of k q)) (polynomials_subring (equation_of k q))
          (map (function_of k q) (row_elems l))) tame
          (function_of k q w) (of_poly (equation_of k q) (value k e.rest)) (prime_to e.rest rest_in e.first)
          (subst (HasPowerDenominator (equation_of k q) (x_poly k))
          (freed_product k q w v (elem_den k q w q.n w_in w_monic) e)
          (freed_power k q w v (elem_den k q w q.n w_in w_monic) e))

      spans : IsLocallyIn (equation_of k q) (x_poly k) (Contains k q l) (function_of k q w)
          ↔ Span (functions k p).ops ((setting k p).IsScalar Infinite) (map f (map (function_of k q) (row_elems l)))
          (f (function_of k q w))
      spans = m.spans (map (function_of k q) (row_elems l)) (function_of k q w)

      rows_are : map f (map (function_of k q) (row_elems l)) ≡ map (function_on k p c Infinite) (row_elems l)
      rows_are = images l.rows l.den l_in.rows_in l_in.den_in l_in.den_poly (monic_some l.den l_in.monic)

      is_z : f (function_of k q w) ≡ z
      is_z = m.elements w w_in w_monic.den_poly (monic_some w.den w_monic.monic) ∙ z_is

      to_z : Span (functions k p).ops ((setting k p).IsScalar Infinite) (map f (map (function_of k q) (row_elems l)))
          (f (function_of k q w))
          → InInfiniteSpan k p c (row_elems l) z
      to_z s =
          subst (InInfiniteSpan k p c (row_elems l)) is_z
          (subst (λ hs. Span (functions k p).ops ((setting k p).IsScalar Infinite) hs (f (function_of k q w))) rows_are
          s)

      from_z : InInfiniteSpan k p c (row_elems l) z
          → Span (functions k p).ops ((setting k p).IsScalar Infinite) (map f (map (function_of k q) (row_elems l)))
          (f (function_of k q w))
      from_z s =
          subst (λ hs. Span (functions k p).ops ((setting k p).IsScalar Infinite) hs (f (function_of k q w)))
          (sym rows_are)
          (subst (InInfiniteSpan k p c (row_elems l)) (sym is_z) s)
