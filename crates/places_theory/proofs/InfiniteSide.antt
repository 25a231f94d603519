-- The infinite side: its scalars are k[t] with the inverses of what t does not divide, so its integral functions and
-- its spans are those over k[t] up to such factors.
use Rattle.prime_theory.proofs.Scalars.{span_wider, integral_wider}
use Rattle.std.proofs.Common.{◌≡◌, ℕ, zero, suc, ◌+◌, ◌-◌, ◌≤◌, ◌<◌, Bool, true, false, List, [], ◌∷◌, ◌++◌, length, map, get_or, reverse, replicate, refl, sym, ◌∙◌, ap, ap₂, subst, arith, true≢false, eqb-true, eq-eqb}
use Rattle.std.proofs.lemmas.List.{length-append, length-map, length-replicate, length-reverse, reverse-reverse, map-append}
use mathlib.Core.List.{reverse-cons}
use Rattle.ring_lemmas.specs.Ring.{CommRing, pow}
use Rattle.ring_lemmas.specs.Lists.{coeff_of, IsTrimmed}
use Rattle.ring_theory.specs.Subsets.{IsSubring, Span}
use Rattle.ring_theory.specs.Local.{Locally}
use Rattle.ring_theory.specs.Integral.{IsIntegral}
use Rattle.ring_lemmas.proofs.Ring.{product_not_zero}
use Rattle.ring_lemmas.proofs.Lists.{trim_trimmed, IsTrimmed_push}
use Rattle.ring_lemmas.specs.Polynomials.{pol_ops}
use Rattle.ring_lemmas.proofs.Polynomials.{series_mul}
use Rattle.ring_theory.proofs.Polynomials.{length_product, length_product_le}
use Rattle.ring_theory.proofs.RowMaps.{hom_zero, hom_neg}
use Rattle.ring_lemmas.proofs.Solver.{ring, reads, from_one, from_two, from_three}
use Rattle.ff_fields.specs.Field.{CodeField}
use Rattle.ff_fields.specs.Over.{IsOver, IsOver_nil, IsOver_cons, IsOver_head, IsOver_tail, IsOver_append}
use Rattle.ff_fields.specs.Code.{is_zero_code, Code, code_ring, code_domain, same_code, read_code, read_code_below}
use Rattle.ff_fields.specs.Numbers.{read}
use Rattle.ff_poly.specs.Value.{value}
use Rattle.ff_poly.specs.Words.{IsPoly}
use Rattle.ff_poly.specs.Polynomials.{Polynomial, polynomials, polynomials_domain, codes_of, value_codes_of, value_nil, value_one, series_read, IsOver_codes_of, IsPoly_codes_of, x_poly, x_poly_not_zero}
use Rattle.function_field.specs.declared.side.Side.TheVariants.{Finite, Infinite}
use Rattle.function_field.specs.Functions.{of_poly, over, row_of, IsFiniteAtInfinity}
use Rattle.function_field.specs.Values.{PresValue, Functions, functions, equation_of}
use Rattle.function_field.specs.Infinity.{value_at, variable}
use Rattle.prime_theory.specs.Ideals.{IsMultiplicative, SameSet}
use Rattle.prime_theory.proofs.Denominators.{integral_cleared, integral_of_cleared, span_cleared, span_of_cleared}
use Rattle.places_theory.specs.InfiniteSide.{InReverse, IsPrimeToT}
use Rattle.places_theory.proofs.YRoot.{poly_hom, over_times_den, over_unique}
use Rattle.polynomial_theory.proofs.Lengths.{x_power_not_zero}
use Rattle.places_theory.proofs.AtInfinity.{at, at_hom, at_codes, value_at_is, reversed, x_power, powers_cancel}
use Rattle.polynomial_theory.proofs.Irreducible.{length_codes}
use Rattle.polynomial_theory.proofs.ListValues.{value_short, value_padded}

module _ (k : CodeField) where
  -- a list of codes whose last is not 0 stands for a polynomial of its length
  length_last : (w : List ℕ) (c : ℕ) → c < k.size → ¬ (c ≡ 0) → length (value k (w ++ c ∷ [])).0 ≡ suc (length w)
  length_last w c c_in some =
      ap length (trim_trimmed (code_ring k).is_zero (read k (w ++ c ∷ [])) trimmed)
      ∙ length-map (w ++ c ∷ []) (read_code k) ∙ (let e = length-append w (c ∷ []) in omega arith)
    where
      nonzero : (b : Bool) → (code_ring k).is_zero (read_code k c) ≡ b → (code_ring k).is_zero (read_code k c) ≡ false
      nonzero true e = absurd (some (sym (read_code_below k c c_in) ∙ eqb-true (read_code k c).0 0 e))
      nonzero false e = e

      trimmed : IsTrimmed (code_ring k).is_zero (read k (w ++ c ∷ []))
      trimmed =
          subst (IsTrimmed (code_ring k).is_zero) (sym (map-append (read_code k) w (c ∷ [])))
          (IsTrimmed_push (code_ring k).is_zero (read k w) (read_code k c)
          (nonzero ((code_ring k).is_zero (read_code k c)) refl))

  x_length : length (x_poly k).0 ≡ 2
  x_length = length_last (0 ∷ []) 1 k.laws.one_below (λ e. absurd (omega arith))

  -- each factor x makes one more
  x_times : (m : ℕ) (a : Polynomial k) → length ((polynomials k).◌⊗◌ (pow (polynomials k).ops (x_poly k) m) a).0 ≤ m
      + length a.0
  x_times zero a =
      subst (λ b. length b.0 ≤ 0 + length a.0)
      (sym ((polynomials k).mul_comm (polynomials k).𝟙 a ∙ (polynomials k).mul_one a)) (omega arith)
  x_times (suc m) a =
      let b = (polynomials k).◌⊗◌ (pow (polynomials k).ops (x_poly k) m) a in
      subst (λ b. length b.0 ≤ suc m + length a.0)
      (sym ((polynomials k).mul_assoc (x_poly k) (pow (polynomials k).ops (x_poly k) m) a))
      (omega (arith, x_times m a, length_product_le (code_ring k) (code_domain k) (x_poly k) b, x_length))

  x_times_exact : (m : ℕ) (a : Polynomial k) → ¬ (a ≡ (polynomials k).𝟘)
      → length ((polynomials k).◌⊗◌ (pow (polynomials k).ops (x_poly k) m) a).0 ≡ m + length a.0
  x_times_exact zero a n =
      ap (λ b. length b.0) ((polynomials k).mul_comm (polynomials k).𝟙 a ∙ (polynomials k).mul_one a) ∙ (omega arith)
  x_times_exact (suc m) a n =
      let b = (polynomials k).◌⊗◌ (pow (polynomials k).ops (x_poly k) m) a in
      let some = product_not_zero (polynomials_domain k) (pow (polynomials k).ops (x_poly k) m) a (x_power_not_zero k m)
      n in
      ap (λ b. length b.0) ((polynomials k).mul_assoc (x_poly k) (pow (polynomials k).ops (x_poly k) m) a)
      ∙ (omega (
        arith,
        x_times_exact m a n,
        length_product (code_ring k) (code_domain k) (x_poly k) b
            (x_poly_not_zero k) some,
        x_length,
      ))

  over_reverse : (w : List ℕ) → IsOver k.ops w → IsOver k.ops (reverse w)
  over_reverse [] h = IsOver_nil
  over_reverse (c ∷ w) h =
      subst (IsOver k.ops) (sym (reverse-cons c w))
      (IsOver_append (over_reverse w (IsOver_tail h)) (IsOver_cons (IsOver_head h) IsOver_nil))

module _ (k : CodeField) (p : PresValue) where
  infixl 65 ◌⊕◌
  infixl 70 ◌⊗◌
  infixr 80 ⊖◌
  open functions k p use {𝟘, 𝟙, ◌⊕◌, ◌⊗◌, ⊖◌}

  abbrev F : CommRing (Functions k p)
  F = functions k p

  abbrev X : Functions k p
  X = variable k p Finite

  abbrev T : Functions k p
  T = variable k p Infinite

  abbrev U : Functions k p → Type 0
  U = IsPrimeToT k p

  abbrev of : Polynomial k → Functions k p
  of a = of_poly (equation_of k p) a

  -- k[t] is a ring
  pub reverse_ring : IsSubring F.ops (InReverse k p)
  reverse_ring = record {
    zero_in = record {
      polynomial = (polynomials k).𝟘;
      value = sym
          (hom_zero (polynomials k).ring F (at k p T) (at_hom k p T)) ∙ at_codes k p T (polynomials k).𝟘;
    };
    one_in = record { polynomial = (polynomials k).𝟙; value = sym (at_hom k p T).𝟙 ∙ at_codes k p T (polynomials k).𝟙 };
    sum_in = λ a b h g. record {
      polynomial = (polynomials k).◌⊕◌ h.polynomial g.polynomial;
      value =
          ap₂ (λ s r. s ⊕ r) (h.value ∙ sym (at_codes k p T h.polynomial)) (g.value ∙ sym (at_codes k p T g.polynomial))
          ∙ sym ((at_hom k p T).add h.polynomial g.polynomial)
          ∙ at_codes k p T ((polynomials k).◌⊕◌ h.polynomial g.polynomial);
    };
    neg_in = λ a h. record {
      polynomial = (polynomials k).⊖◌ h.polynomial;
      value =
          ap ⊖◌ (h.value ∙ sym (at_codes k p T h.polynomial))
          ∙ sym (hom_neg (polynomials k).ring F (at k p T) (at_hom k p T) h.polynomial)
          ∙ at_codes k p T ((polynomials k).⊖◌ h.polynomial);
    };
    product_in = λ a b h g. record {
      polynomial = (polynomials k).◌⊗◌ h.polynomial g.polynomial;
      value =
          ap₂ (λ s r. s ⊗ r) (h.value ∙ sym (at_codes k p T h.polynomial)) (g.value ∙ sym (at_codes k p T g.polynomial))
          ∙ sym ((at_hom k p T).mul h.polynomial g.polynomial)
          ∙ at_codes k p T ((polynomials k).◌⊗◌ h.polynomial g.polynomial);
    };
  }

  in_reverse : (w : List ℕ) → InReverse k p (value_at k p T w)
  in_reverse w = record { polynomial = value k w; value = value_at_is k p T w ∙ at_codes k p T (value k w) }

  -- the first code of a polynomial is its coefficient at 0
  first_code : (w : List (Code k)) → get_or (map (λ x. x.0) w) 0 0 ≡ (coeff_of (code_ring k).ops w 0).0
  first_code [] = refl
  first_code (x ∷ w) = refl

  first_read : (w : List ℕ) → IsOver k.ops w → (coeff_of (code_ring k).ops (read k w) 0).0 ≡ get_or w 0 0
  first_read [] h = refl
  first_read (c ∷ w) h = read_code_below k c (IsOver_head h)

  pub denominators : IsMultiplicative F.ops (InReverse k p) U
  denominators = record {
    within = λ w h. subst (InReverse k p) (sym h.value) (in_reverse h.codes);
    one_in = record {
      codes = 1 ∷ [];
      codes_over = IsOver_cons k.laws.one_below IsOver_nil;
      first = λ e. absurd (omega arith);
      value = sym (value_at_is k p T (1 ∷ []) ∙ ap (at k p T) (value_one k) ∙ (at_hom k p T).𝟙);
    };
    product_in = λ a b h g.
        let P = (polynomials k).◌⊗◌ (value k h.codes) (value k g.codes) in
        record {
          codes = codes_of k P;
          codes_over = IsOver_codes_of k P;
          first = λ e. both h g (sym (first_code P.0) ∙ e);
          value =
              ap₂ (λ s r. s ⊗ r) (h.value ∙ value_at_is k p T h.codes) (g.value ∙ value_at_is k p T g.codes)
              ∙ sym ((at_hom k p T).mul (value k h.codes) (value k g.codes)) ∙ at_codes k p T P;
        };
  }
    where
      at_zero : (w : List ℕ) → IsOver k.ops w → ¬ (get_or w 0 0 ≡ 0)
          → ¬ (coeff_of (code_ring k).ops (value k w).0 0 ≡ (code_ring k).𝟘)
      at_zero w w_in n e = n (sym (first_read w w_in) ∙ ap (λ x. x.0) (sym (series_read k w 0) ∙ e))

      both : {a b : Functions k p} → (h : IsPrimeToT k p a) → (g : IsPrimeToT k p b)
          → (coeff_of (code_ring k).ops ((polynomials k).◌⊗◌ (value k h.codes) (value k g.codes)).0 0).0 ≡ 0 → ⊥
      both h g e =
          product_not_zero (code_domain k) _ _ (at_zero h.codes h.codes_over h.first)
          (at_zero g.codes g.codes_over g.first)
          (sym (series_mul (code_ring k) (value k h.codes) (value k g.codes) 0) ∙ same_code k _ (code_ring k).𝟘 e)

  -- a list that does not begin with 0, reversed: a polynomial of the list's length
  record Turned (w : List ℕ) : Type 0 where
    polynomial : Polynomial k
    exact : length polynomial.0 ≡ length w
    nonzero : ¬ (polynomial ≡ (polynomials k).𝟘)
    is : pow F.ops X (length w) ⊗ value_at k p T w ≡ of ((polynomials k).◌⊗◌ (x_poly k) polynomial)

  turned_list : (w : List ℕ) → IsOver k.ops w → ¬ (get_or w 0 0 ≡ 0) → Turned w
  unfolding pol_ops
  turned_list [] h n = absurd (n refl)
  turned_list (c ∷ w) h n =
      let e = length_last k (reverse w) c (IsOver_head h) n in
      record {
        polynomial = value k (reverse (c ∷ w));
        exact = ap (λ v. length (value k v).0) (reverse-cons c w) ∙ e ∙ (let f = length-reverse w in omega arith);
        nonzero = λ z. some (ap (λ v. length (value k v).0) (sym (reverse-cons c w)) ∙ ap (λ a. length a.0) z) e;
        is = reversed k p (c ∷ w);
      }
    where
      some : length (value k (reverse w ++ c ∷ [])).0 ≡ 0
          → length (value k (reverse w ++ c ∷ [])).0 ≡ suc (length (reverse w)) → ⊥
      some f g = absurd (omega arith)

  -- each has an inverse
  pub denominator_inverse : (w : Functions k p) → U w → (u : Functions k p) × (u ⊗ w ≡ 𝟙)
  denominator_inverse w h =
      let r = turned_list h.codes h.codes_over h.first in
      let b = (polynomials k).◌⊗◌ (x_poly k) r.polynomial in
      let n = product_not_zero (polynomials_domain k) (x_poly k) r.polynomial (x_poly_not_zero k) r.nonzero in
      let i = over (equation_of k p) (row_of (equation_of k p) (polynomials k).𝟙) b n in (
        i ⊗ pow F.ops X (length h.codes),
        product (of b) i (pow F.ops X (length h.codes)) w
            (ap (λ s. pow F.ops X (length h.codes) ⊗ s) h.value ∙ r.is)
            (over_times_den (equation_of k p) (polynomials k).𝟙 b n ∙ (poly_hom (equation_of k p)).𝟙),
      )
    where
      product : (b i s w : Functions k p) → s ⊗ w ≡ b → b ⊗ i ≡ 𝟙 → i ⊗ s ⊗ w ≡ 𝟙
      product b i s w e f = from_two F i 𝟙 e f
          (ring F (b ∷ i ∷ s ∷ w ∷ []) λ o n. simp (reads, o, n 0, n 1, n 2, n 3) (o.equal _ _ refl))

  -- what is finite at infinity is in k[t] up to a factor that t does not divide
  to_local : (z : Functions k p) → IsFiniteAtInfinity (equation_of k p) z → Locally F.ops U (InReverse k p) z
  to_local z h = go (codes_of k h.bottom) refl
    where
      padded_length : length (reverse (codes_of k h.top
          ++ replicate (length (codes_of k h.bottom) - length (codes_of k h.top)) 0)) ≡ length (codes_of k h.bottom)
      padded_length =
          let l : length h.top.0 ≤ length h.bottom.0 = h.degrees in
          let e = length_codes k h.top in
          let f = length_codes k h.bottom in
          length-reverse _ ∙ length-append (codes_of k h.top) _
          ∙ ap (λ n. length (codes_of k h.top) + n)
          (length-replicate (length (codes_of k h.bottom) - length (codes_of k h.top)) 0)
          ∙ (omega arith)

      bottom_is : pow F.ops X (length (codes_of k h.bottom)) ⊗ value_at k p T (reverse (codes_of k h.bottom))
          ≡ X ⊗ of h.bottom
      bottom_is =
          ap (λ n. pow F.ops X n ⊗ value_at k p T (reverse (codes_of k h.bottom)))
          (sym (length-reverse (codes_of k h.bottom)))
          ∙ reversed k p (reverse (codes_of k h.bottom)) ∙ (poly_hom (equation_of k p)).mul (x_poly k) _
          ∙ ap (λ a. X ⊗ of a) (ap (value k) (reverse-reverse (codes_of k h.bottom)) ∙ value_codes_of k h.bottom)

      top_is : pow F.ops X (length (codes_of k h.bottom))
          ⊗ value_at k p T (reverse (codes_of k h.top
          ++ replicate (length (codes_of k h.bottom) - length (codes_of k h.top)) 0)) ≡ X ⊗ of h.top
      top_is =
          ap (λ n. pow F.ops X n ⊗ value_at k p T
          (reverse (codes_of k h.top ++ replicate (length (codes_of k h.bottom) - length (codes_of k h.top)) 0)))
          (sym padded_length)
          ∙ reversed k p (reverse (codes_of k h.top
          ++ replicate (length (codes_of k h.bottom) - length (codes_of k h.top)) 0))
          ∙ (poly_hom (equation_of k p)).mul (x_poly k) _
          ∙ ap (λ a. X ⊗ of a)
          (ap (value k) (reverse-reverse
          (codes_of k h.top ++ replicate (length (codes_of k h.bottom) - length (codes_of k h.top)) 0))
          ∙ value_padded k (codes_of k h.top) (length (codes_of k h.bottom) - length (codes_of k h.top))
          ∙ value_codes_of k h.top)

      cancel : (s r b w a v : Functions k p) → s ⊗ r ≡ 𝟙 → s ⊗ w ≡ X ⊗ b → s ⊗ v ≡ X ⊗ a → b ⊗ z ≡ a → w ⊗ z ≡ v
      cancel s r b w a v e f g i = sym (undo (w ⊗ z)) ∙ ap (λ q. r ⊗ q) middle ∙ undo v
        where
          undo : (q : Functions k p) → r ⊗ (s ⊗ q) ≡ q
          undo q = from_one F q e (ring F (s ∷ r ∷ q ∷ []) λ o n. simp (reads, o, n 0, n 1, n 2) (o.equal _ _ refl))

          middle : s ⊗ (w ⊗ z) ≡ s ⊗ v
          middle =
              from_three F z (⊖ 𝟙) X f g i
              (ring F (s ∷ w ∷ b ∷ v ∷ a ∷ z ∷ X ∷ []) λ o n. simp (reads, o, n 0, n 1, n 2, n 3, n 4, n 5, n 6)
              (o.equal _ _ refl))

      multiple : value_at k p T (reverse (codes_of k h.bottom)) ⊗ z
          ≡ value_at k p T (reverse (codes_of k h.top
          ++ replicate (length (codes_of k h.bottom) - length (codes_of k h.top)) 0))
      multiple =
          cancel (pow F.ops X (length (codes_of k h.bottom))) (pow F.ops T (length (codes_of k h.bottom))) (of h.bottom)
          (value_at k p T (reverse (codes_of k h.bottom))) (of h.top) _
          (powers_cancel k p (length (codes_of k h.bottom))) bottom_is top_is
          (ap (λ s. of h.bottom ⊗ s) h.value ∙ over_times_den (equation_of k p) h.top h.bottom h.not_null)

      ends : (w : List ℕ) → IsPoly w → ¬ (w ≡ []) → ¬ (get_or (reverse w) 0 0 ≡ 0)
      ends w w_poly n = last w w_poly.trimmed n
        where
          last : (w : List ℕ) → IsTrimmed is_zero_code w → ¬ (w ≡ []) → ¬ (get_or (reverse w) 0 0 ≡ 0)
          last [] t n e = n refl
          last (c ∷ []) t n e = true≢false (sym (eq-eqb c 0 e) ∙ t)
          last (a ∷ d ∷ w) t n e = last (d ∷ w) t (λ f. cc)
              (sym (first (reverse (d ∷ w)) (ap length (reverse-cons d w) ∙ length-append (reverse w) (d ∷ [])))
              ∙ ap (λ v. get_or v 0 0) (sym (reverse-cons a (d ∷ w))) ∙ e)
            where
              first : (v : List ℕ) → length v ≡ length (reverse w) + 1 → get_or (v ++ a ∷ []) 0 0 ≡ get_or v 0 0
              first [] l = absurd (omega arith)
              first (b ∷ v) l = refl

      go : (w : List ℕ) → codes_of k h.bottom ≡ w → Locally F.ops U (InReverse k p) z
      go [] e = absurd (h.not_null (sym (value_codes_of k h.bottom) ∙ ap (value k) e ∙ value_nil k))
      go (c ∷ w) e = record {
        factor = value_at k p T (reverse (codes_of k h.bottom));
        factor_in = record {
          codes = reverse (codes_of k h.bottom);
          codes_over = over_reverse k (codes_of k h.bottom) (IsOver_codes_of k h.bottom);
          first = ends (codes_of k h.bottom) (IsPoly_codes_of k h.bottom)
              (λ f. h.not_null (sym (value_codes_of k h.bottom) ∙ ap (value k) f ∙ value_nil k));
          value = refl;
        };
        multiple_in = subst (InReverse k p) (sym multiple) (in_reverse _);
      }

  -- and conversely
  of_local : (z : Functions k p) → Locally F.ops U (InReverse k p) z → IsFiniteAtInfinity (equation_of k p) z
  of_local z h =
      let w = h.factor_in.codes in
      let r = turned_list w h.factor_in.codes_over h.factor_in.first in
      let v = codes_of k h.multiple_in.polynomial in
      let m = length w in
      let n = length v in
      let A = (polynomials k).◌⊗◌ (x_poly k) (value k (reverse v)) in
      let B = (polynomials k).◌⊗◌ (x_poly k) r.polynomial in
      let some = product_not_zero (polynomials_domain k) (x_poly k) r.polynomial (x_poly_not_zero k) r.nonzero in
      let bottom = (polynomials k).◌⊗◌ (pow (polynomials k).ops (x_poly k) n) B in
      let top = (polynomials k).◌⊗◌ (pow (polynomials k).ops (x_poly k) m) A in
      let not_null = product_not_zero (polynomials_domain k) (pow (polynomials k).ops (x_poly k) n) B
      (x_power_not_zero k n) some in
      record {
        top = top;
        bottom = bottom;
        not_null = not_null;
        degrees =
            omega (
              arith,
              x_times k m A,
              x_times_exact k n B some,
              length_product_le (code_ring k) (code_domain k) (x_poly k) (value k (reverse v)),
              length_product (code_ring k) (code_domain k) (x_poly k) r.polynomial (x_poly_not_zero k) r.nonzero,
              x_length k,
              r.exact,
              value_short k (reverse v),
              length-reverse v,
            );
        value =
            over_unique (equation_of k p) top bottom not_null z
            (ap (λ s. s ⊗ z) ((poly_hom (equation_of k p)).mul _ B ∙ ap₂ (λ s t. s ⊗ t) (x_power k p n) (sym r.is))
            ∙ cross (pow F.ops X n) (pow F.ops X m) (value_at k p T w) (value_at k p T v)
            (ap (λ s. s ⊗ z) (sym h.factor_in.value) ∙ h.multiple_in.value)
            ∙ sym ((poly_hom (equation_of k p)).mul _ A ∙ ap₂ (λ s t. s ⊗ t) (x_power k p m) (sym (reversed k p v))));
      }
    where
      cross : (s r w v : Functions k p) → w ⊗ z ≡ v → s ⊗ (r ⊗ w) ⊗ z ≡ r ⊗ (s ⊗ v)
      cross s r w v e =
          from_one F (s ⊗ r) e (ring F (s ∷ r ∷ w ∷ v ∷ z ∷ []) λ o n. simp (reads, o, n 0, n 1, n 2, n 3, n 4)
          (o.equal _ _ refl))

  -- the scalars of the infinite side are k[t] with denominators that t does not divide
  pub scalars_local : SameSet (IsFiniteAtInfinity (equation_of k p)) (Locally F.ops U (InReverse k p))
  scalars_local z = (to_local z, of_local z)

  -- a function is integral there where a multiple by such a denominator is integral over k[t]
  pub integral_local : SameSet (IsIntegral F.ops (IsFiniteAtInfinity (equation_of k p)))
      (Locally F.ops U (IsIntegral F.ops (InReverse k p)))
  integral_local z = (
    λ h. integral_cleared F (InReverse k p) reverse_ring U denominators z
        (integral_wider F (IsFiniteAtInfinity (equation_of k p)) (Locally F.ops U (InReverse k p)) to_local z h),
    λ h. integral_wider F (Locally F.ops U (InReverse k p)) (IsFiniteAtInfinity (equation_of k p)) of_local z
        (integral_of_cleared F (InReverse k p) reverse_ring U denominators denominator_inverse z h),
  )

  -- and likewise for spans
  pub span_local : (bs : List (Functions k p))
      → SameSet (Span F.ops (IsFiniteAtInfinity (equation_of k p)) bs) (Locally F.ops U (Span F.ops (InReverse k p) bs))
  span_local bs z = (
    λ h. span_cleared F (InReverse k p) reverse_ring U denominators bs z
        (span_wider F (IsFiniteAtInfinity (equation_of k p)) (Locally F.ops U (InReverse k p)) to_local bs z h),
    λ h. span_wider F (Locally F.ops U (InReverse k p)) (IsFiniteAtInfinity (equation_of k p)) of_local bs z
        (span_of_cleared F (InReverse k p) reverse_ring U denominators denominator_inverse bs z h),
  )
