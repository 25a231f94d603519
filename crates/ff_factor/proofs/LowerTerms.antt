-- Primes are cancelled from fractions until they are in lowest terms.
use Rattle.std.proofs.Common.{◌≡◌, ◌≢◌, ℕ, zero, suc, ◌+◌, ◌-◌, ◌<◌, ◌≤◌, ◌⊎◌, inl, inr, List, [], ◌∷◌, ◌++◌, length, get_or, take, drop, map, All, refl, sym, ap, ap₂, ◌∙◌, subst, arith}
use Rattle.std.specs.Prelude.{Result, Ok, Err, OnOk}
use Rattle.std.proofs.lemmas.List.{length-map, map-append, get_or-map, take_more}
use Rattle.std.proofs.lemmas.List.Elements.{All-nil, All-cons, All-append, All-map}
use Rattle.ring_lemmas.specs.Ring.{CommRing}
use Rattle.ring_theory.specs.Members.{In}
use Rattle.ring_lemmas.proofs.Ring.{mul_zero, one_mul, mul_left_comm}
use Rattle.ring_theory.proofs.Polynomials.{length_product}
use Rattle.ff_fields.specs.Field.{CodeField}
use Rattle.ff_fields.specs.Code.{code_ring, code_domain}
use Rattle.ff_fields.specs.Over.{IsOver, get_or_below}
use Rattle.linear_theory.specs.Euclidean.{IsDivisorIn}
use Rattle.linear_theory.proofs.Euclid.{divisor_trans}
use Rattle.ff_poly.specs.Words.{IsPoly, IsMonicList, IsIrreducibleList, DividesList, IsQuotientWithRest, top_of, multiple_of}
use Rattle.ff_poly.specs.PolyOver.{IsOver_multiple_of}
use Rattle.ff_poly.specs.Value.{value}
use Rattle.ff_poly.specs.Polynomials.{Polynomial, polynomials, constant_poly, value_nil}
use Rattle.ff_poly.proofs.Parts.{IsPoly_multiple_of, IsMonic_multiple, value_multiple}
use Rattle.ff_factor.specs.Factors.{FactorsValue, IsFactorisation, polys_of, product_of_parts}
use Rattle.ff_factor.specs.LowestTerms.{AreSameFractions, AreIrreducible, HasFactorsOf, AreCancelled, IsInLowestTermsOf}
use Rattle.polynomial_theory.proofs.ListValues.{length_value}
use Rattle.ff_factor.specs.Pulls.{value_of_parts}
use Rattle.ff_factor.specs.Reductions.{values, DividesAll, AreQuotients, IsFree, AreReduced, AreLowerAt}
use Rattle.ff_factor.proofs.CommonFactors.{times, times_one, times_times, times_swap, divides_members, divides_times}
use Rattle.ff_factor.proofs.ValueLists.{same_values, same_products, values_multiples, over_multiples, poly_multiples}
use Rattle.ff_factor.proofs.Factorisations.{parts_over, parts_value, code_inverts}
use Rattle.ff_factor.proofs.LowestTerms.{IsPrime, least_denominator}
use Rattle.polynomial_theory.proofs.Divisors.{divisor_length, divisor_of_divides, divides_of_divisor}
use Rattle.ff_factor.proofs.PullSteps.{positive, list_some, exact, not_divisor}
use Rattle.ff_factor.proofs.SplitSteps.{in_of_all, of_push}

pub on_ok_as : {A E P Q : Type 0} (r : Result A E) → OnOk r P → (P → Q) → OnOk r Q
on_ok_as (Ok x) h f = f h
on_ok_as (Err e) h f = tt

in_list : (ps : List (List ℕ)) (i : ℕ) (p : List ℕ) → i < length ps → In (get_or ps i p) ps
in_list [] i p less = absurd (omega arith)
in_list (x ∷ ps) zero p less = inl refl
in_list (x ∷ ps) (suc i) p less = inr (in_list ps i p (omega arith))

-- what is still to be done is as it was
pub multiples_read : {A : Type 0} (f : A → A) (old now : List A) (i : ℕ) (d : A) → i < length old
    → now ≡ map f (take i old) ++ drop i old → get_or now i d ≡ get_or old i d
multiples_read {A = A} f old now i d less now_is = ap (λ w. get_or w i d) now_is ∙ go old i less
  where
    go : (old : List A) (i : ℕ) → i < length old → get_or (map f (take i old) ++ drop i old) i d ≡ get_or old i d
    go [] i less = absurd (omega arith)
    go (o ∷ old) zero less = refl
    go (o ∷ old) (suc i) less = go old i (omega arith)

module _ (k : CodeField) where
  infixl 65 ◌⊕◌
  infixl 70 ◌⊗◌
  open polynomials k use {𝟘, 𝟙, ◌⊕◌, ◌⊗◌}

  abbrev P : CommRing (Polynomial k)
  P = (polynomials k).ring

  -- ---- the quotients of a list

  pub quotients_none : (p : List ℕ) (qs : List (List ℕ)) → qs ≡ [] → AreQuotients k p [] qs
  quotients_none p qs none = subst (AreQuotients k p []) (sym none)
      (record { over = All-nil (IsOver k.ops); products = refl })

  pub quotients_more : (p : List ℕ) (vs qs new : List (List ℕ)) (v q left : List ℕ) (i : ℕ) → i < length vs
      → v ≡ get_or vs i [] → IsOver k.ops p
      → AreQuotients k p (take i vs) qs → IsQuotientWithRest k.ops v p q left → left ≡ [] → new ≡ qs ++ q ∷ []
      → AreQuotients k p (take (i + 1) vs) new
  quotients_more p vs qs new v q left i less v_is p_in h d none new_is = subst (AreQuotients k p (take (i + 1) vs))
      (sym new_is) (record {
        over = All-append (IsOver k.ops) qs (q ∷ []) h.over
            (All-cons (IsOver k.ops) q [] d.quotient_in (All-nil (IsOver k.ops)));
        products =
            ap (values k) (take_more vs i [] less ∙ ap (λ x. take i vs ++ x ∷ []) (sym v_is))
            ∙ map-append (value k) (take i vs) (v ∷ [])
            ∙ ap₂ (λ xs x. xs ++ x ∷ []) h.products (exact k p v q left p_in d none)
            ∙ sym (map-append (λ x. value k p ⊗ x) (values k qs) (value k q ∷ []))
            ∙ ap (times P (value k p)) (sym (map-append (value k) qs (q ∷ [])));
      })

  pub not_all : (p : List ℕ) (vs : List (List ℕ)) (v q left : List ℕ) (i : ℕ) → i < length vs → v ≡ get_or vs i []
      → IsOver k.ops p → IsPoly p → 2 ≤ length p
      → IsQuotientWithRest k.ops v p q left → ¬ (left ≡ []) → ¬ DividesAll k p vs
  not_all p vs v q left i less v_is p_in p_poly long d some all =
      not_divisor k p v q left p_in p_poly long d some
      (subst (IsDivisorIn P.ops (value k p)) (get_or-map (value k) vs i [] (value k []) less ∙ ap (value k) (sym v_is))
      (all i (value k []) (omega (arith, length-map vs (value k)))))

  -- ---- a prime is cancelled

  pub reduced_once : (p : List ℕ) (num : List (List ℕ)) (den : List ℕ) (qs : List (List ℕ)) (q left : List ℕ)
      → IsOver k.ops p → IsOver k.ops den → IsPoly den → den ≢ []
      → AreQuotients k p num qs → IsQuotientWithRest k.ops den p q left → left ≡ []
      → AreReduced k (value k p) num den qs q
  reduced_once p num den qs q left p_in den_in den_poly some h d none = record {
    num_over = h.over;
    den_over = d.quotient_in;
    den_poly = d.quotient_poly;
    den_some = λ z. list_some k den den_in den_poly some
        (whole ∙ ap (λ w. value k p ⊗ w) (ap (value k) z ∙ value_nil k) ∙ mul_zero P (value k p));
    num_is = h.products;
    den_is = whole;
  }
    where
      whole : value k den ≡ value k p ⊗ value k q
      whole = exact k p den q left p_in d none

  pub reduced_shorter : (p : List ℕ) (num : List (List ℕ)) (den : List ℕ) (num' : List (List ℕ)) (den' : List ℕ)
      → IsOver k.ops p → IsPoly p → 2 ≤ length p
      → IsOver k.ops den → IsPoly den → AreReduced k (value k p) num den num' den' → length den' < length den
  reduced_shorter p num den num' den' p_in p_poly long den_in den_poly h =
      let p_some = list_some k p p_in p_poly (λ e. let l = ap length e in absurd (omega arith)) in
      let q_some = list_some k den' h.den_over h.den_poly h.den_some in
      let l : length (value k den).0 ≡ length (value k p ⊗ value k den').0 = ap (λ w. length w.0) h.den_is in
      omega (
        arith,
        length_product (code_ring k) (code_domain k) (value k p) (value k den') p_some q_some,
        length_value k p p_in p_poly,
        length_value k den' h.den_over h.den_poly,
        length_value k den den_in den_poly,
      )

  -- what divides all parts of the new fractions divides those of the old ones
  free_kept : (c : Polynomial k) (p : List ℕ) (num : List (List ℕ)) (den : List ℕ) (num' : List (List ℕ))
      (den' : List ℕ) → AreReduced k c num den num' den'
      → IsFree k p num den → IsFree k p num' den'
  free_kept c p num den num' den' h free d all =
      free (c ⊗ d.0, h.den_is ∙ ap (λ x. c ⊗ x) d.1 ∙ mul_left_comm P c (value k p) d.0)
      (subst (All (IsDivisorIn P.ops (value k p))) (sym h.num_is) (divides_times P (value k p) c (values k num') all))

  pub lower_start : (num : List (List ℕ)) (den : List ℕ) → All (IsOver k.ops) num → IsOver k.ops den → IsPoly den
      → den ≢ [] → AreLowerAt k [] num den num den
  lower_start num den num_in den_in den_poly some = record {
    factor = 𝟙;
    reduced = record {
      num_over = num_in;
      den_over = den_in;
      den_poly = den_poly;
      den_some = some;
      num_is = sym (times_one P (values k num));
      den_is = sym (one_mul P (value k den));
    };
    free = λ p i. absurd i;
  }

  pub lower_more : (c : Polynomial k) (ps : List (List ℕ)) (num : List (List ℕ)) (den : List ℕ) (n : List (List ℕ))
      (d : List ℕ) (n' : List (List ℕ)) (d' : List ℕ)
      → AreLowerAt k ps num den n d → AreReduced k c n d n' d' → AreLowerAt k ps num den n' d'
  lower_more c ps num den n d n' d' low h = record {
    factor = low.factor ⊗ c;
    reduced = record {
      num_over = h.num_over;
      den_over = h.den_over;
      den_poly = h.den_poly;
      den_some = h.den_some;
      num_is = low.reduced.num_is ∙ ap (times P low.factor) h.num_is ∙ times_times P low.factor c (values k n');
      den_is = low.reduced.den_is ∙ ap (λ x. low.factor ⊗ x) h.den_is ∙ sym (P.mul_assoc low.factor c (value k d'));
    };
    free = λ p i. free_kept c p n d n' d' h (low.free p i);
  }

  pub lower_done : (p : List ℕ) (num : List (List ℕ)) (den : List ℕ) (n : List (List ℕ)) (d : List ℕ)
      → AreLowerAt k [] num den n d → IsFree k p n d → AreLowerAt k (p ∷ []) num den n d
  lower_done p num den n d low free = record { factor = low.factor; reduced = low.reduced; free = free' }
    where
      free' : (q : List ℕ) → In q (p ∷ []) → IsFree k q n d
      free' q (inl e) = subst (λ x. IsFree k x n d) (sym e) free
      free' q (inr i) = absurd i

  lower_join : (p : List ℕ) (ps : List (List ℕ)) (num : List (List ℕ)) (den : List ℕ) (n : List (List ℕ)) (d : List ℕ)
      (n' : List (List ℕ)) (d' : List ℕ)
      → AreLowerAt k ps num den n d → AreLowerAt k (p ∷ []) n d n' d' → AreLowerAt k (ps ++ p ∷ []) num den n' d'
  lower_join p ps num den n d n' d' low next = record { factor = more.factor; reduced = more.reduced; free = free }
    where
      more : AreLowerAt k ps num den n' d'
      more = lower_more next.factor ps num den n d n' d' low next.reduced

      free : (q : List ℕ) → In q (ps ++ p ∷ []) → IsFree k q n' d'
      free q i = go (of_push q p ps i)
        where
          go : In q ps ⊎ (q ≡ p) → IsFree k q n' d'
          go (inl j) = more.free q j
          go (inr e) = next.free q (inl e)

  pub lower_next : (ps : List (List ℕ)) (i : ℕ) (p : List ℕ) (num : List (List ℕ)) (den : List ℕ) (n : List (List ℕ))
      (d : List ℕ) (n' : List (List ℕ)) (d' : List ℕ)
      → i < length ps → p ≡ get_or ps i p → AreLowerAt k (take i ps) num den n d → AreLowerAt k (p ∷ []) n d n' d'
      → AreLowerAt k (take (i + 1) ps) num den n' d'
  lower_next ps i p num den n d n' d' less p_is low next =
      subst (λ qs. AreLowerAt k qs num den n' d')
      (sym (take_more ps i p less ∙ ap (λ x. take i ps ++ x ∷ []) (sym p_is)))
      (lower_join p (take i ps) num den n d n' d' low next)

  -- ---- the members of a list of factors

  pub factor_at : (ps : List (List ℕ)) (i : ℕ) (p : List ℕ) → i < length ps → p ≡ get_or ps i p
      → AreIrreducible k.ops ps → IsPrime k p
  factor_at ps i p less p_is h = subst (IsPrime k) (sym p_is) (factor_in ps (get_or ps i p) (in_list ps i p less) h)
    where
      factor_in : (ps : List (List ℕ)) (p : List ℕ) → In p ps → AreIrreducible k.ops ps → IsPrime k p
      factor_in ps p i h = record {
        over = in_of_all (IsOver k.ops) ps h.over p i;
        irreducible = in_of_all
            (IsIrreducibleList k.ops) ps h.irreducible p i;
      }

  -- ---- lowest terms

  monic_reduced : (n : List (List ℕ)) (d : List ℕ) → All (IsOver k.ops) n → IsOver k.ops d → IsPoly d → d ≢ []
      → top_of d ≢ 0
      → AreReduced k (constant_poly k (top_of d)) n d (map (λ v. multiple_of k.ops v (k.inv (top_of d))) n)
      (multiple_of k.ops d (k.inv (top_of d)))
  monic_reduced n d n_in d_in d_poly some top_some = record {
    num_over = over_multiples k u n u_in n_in;
    den_over = IsOver_multiple_of k d_in u_in;
    den_poly = IsPoly_multiple_of k.ops d u;
    den_some = λ z. list_some k d d_in d_poly some
        (den_is ∙ ap (λ x. T ⊗ x) (ap (value k) z ∙ value_nil k) ∙ mul_zero P T);
    num_is =
        sym (times_one P (values k n)) ∙ ap (λ x. times P x (values k n)) (sym one)
        ∙ sym (times_times P T U (values k n))
        ∙ ap (times P T) (sym (values_multiples k u n u_in n_in));
    den_is = den_is;
  }
    where
      t_in : top_of d < k.size
      t_in = get_or_below k d (length d - 1) d_in

      u : ℕ
      u = k.inv (top_of d)

      u_in : k.inv (top_of d) < k.size
      u_in = k.laws.inv_below (top_of d) t_in top_some

      T : Polynomial k
      T = constant_poly k (top_of d)

      U : Polynomial k
      U = constant_poly k (k.inv (top_of d))

      one : T ⊗ U ≡ 𝟙
      one = P.mul_comm T U ∙ code_inverts k (top_of d) t_in top_some

      den_is : value k d ≡ T ⊗ value k (multiple_of k.ops d u)
      den_is =
          sym (one_mul P (value k d)) ∙ ap (λ x. x ⊗ value k d) (sym one) ∙ P.mul_assoc T U (value k d)
          ∙ ap (λ x. T ⊗ x) (sym (value_multiple k d u d_in u_in))

  -- den is the product of the parts times a constant
  pub den_parts : (den : List ℕ) (f : FactorsValue) → IsFactorisation k.ops den f
      → value k den ≡ value_of_parts k f.parts ⊗ constant_poly k f.unit
  den_parts den f h =
      let over : (p : List ℕ) → In p (polys_of f.parts)
      → IsOver k.ops p = λ p i. in_of_all (IsOver k.ops) (polys_of f.parts) h.over p i in
      ap (value k) (sym h.product) ∙ value_multiple k (product_of_parts k.ops f.parts) f.unit
      (parts_over k f.parts over) h.unit_in
      ∙ ap (λ x. constant_poly k f.unit ⊗ x) (parts_value k f.parts over)
      ∙ P.mul_comm (constant_poly k f.unit) (value_of_parts k f.parts)

  pub factored : (den : List ℕ) (f : FactorsValue) → IsFactorisation k.ops den f
      → AreIrreducible k.ops (polys_of f.parts)
  factored den f h = record { over = h.over; irreducible = h.irreducible }

  -- the fractions that are left, made monic
  pub record AreMadeMonic (ps : List (List ℕ)) (num : List (List ℕ)) (den : List ℕ) (n : List (List ℕ)) (d : List ℕ) :
      Type 0 where
    pub low : AreLowerAt k ps num den n d
    pub poly : All IsPoly n
    pub monic : IsMonicList d

  pub made_monic : (ps : List (List ℕ)) (num : List (List ℕ)) (den : List ℕ) (n : List (List ℕ)) (d : List ℕ)
      (n' : List (List ℕ)) (d' : List ℕ)
      → AreLowerAt k ps num den n d → top_of d ≢ 0 → n' ≡ map (λ v. multiple_of k.ops v (k.inv (top_of d))) n
      → d' ≡ multiple_of k.ops d (k.inv (top_of d))
      → AreMadeMonic ps num den n' d'
  made_monic ps num den n d n' d' low top n_is d_is =
      let r = low.reduced in
      let N = map (λ v. multiple_of k.ops v (k.inv (top_of d))) n in
      let D = multiple_of k.ops d (k.inv (top_of d)) in
      subst (λ x. AreMadeMonic ps num den x d') (sym n_is) (subst (AreMadeMonic ps num den N) (sym d_is) (record {
        low = lower_more (constant_poly k (top_of d)) ps num den n d N D low
            (monic_reduced n d r.num_over r.den_over r.den_poly r.den_some top);
        poly = poly_multiples k (k.inv (top_of d)) n;
        monic = IsMonic_multiple k d r.den_over top (positive k d r.den_some);
      }))

  module _ (ps : List (List ℕ)) (num : List (List ℕ)) (den : List ℕ) (num_in : All (IsOver k.ops) num)
      (den_in : IsOver k.ops den)
      (n : List (List ℕ)) (d : List ℕ) (h : AreMadeMonic ps num den n d) where
    abbrev c : Polynomial k
    c = h.low.factor

    one_each : length n ≡ length num
    one_each =
        sym (length-map n (value k)) ∙ sym (length-map (values k n) (λ v. c ⊗ v)) ∙ ap length (sym h.low.reduced.num_is)
        ∙ length-map num (value k)

    same : AreSameFractions k.ops n d num den
    same =
        same_products k den d n num den_in h.low.reduced.den_over h.low.reduced.num_over num_in
        (ap (λ x. times P x (values k n)) h.low.reduced.den_is ∙ sym (times_times P c (value k d) (values k n))
        ∙ times_swap P c (value k d) (values k n) ∙ ap (times P (value k d)) (sym h.low.reduced.num_is))

    pub cancelled : AreIrreducible k.ops ps → AreCancelled k.ops ps num den n d
    cancelled factors = record {
      one_each = one_each;
      same = same;
      num_over = h.low.reduced.num_over;
      den_over = h.low.reduced.den_over;
      num_poly = h.poly;
      monic = h.monic;
      free = free;
    }
      where
        free : (p : List ℕ) → In p ps → DividesList k.ops p d → ¬ All (DividesList k.ops p) n
        free p i divides all =
            h.low.free p i (value k divides.quotient, divisor_of_divides k p d p_in divides)
            (All-map (IsDivisorIn P.ops (value k p)) (value k) n
            (λ j v less. (
              value k (all j v less).quotient,
              divisor_of_divides k p (get_or n j v) p_in
                  (all j v less),
            )))
          where
            p_in : IsOver k.ops p
            p_in = in_of_all (IsOver k.ops) ps factors.over p i

    -- where all irreducible divisors of the denominator are listed, none divides all parts
    pub lowest : IsPoly den → HasFactorsOf k.ops ps den → IsInLowestTermsOf k.ops num den n d
    lowest den_poly all = record {
      one_each = one_each;
      same = same;
      num_over = h.low.reduced.num_over;
      den_over = h.low.reduced.den_over;
      num_poly = h.poly;
      monic = h.monic;
      least = λ ws e ws_in e_in e_poly some same.
          least ws e ws_in e_in e_poly some
          (same_values k e d n ws e_in h.low.reduced.den_over h.low.reduced.num_over ws_in same);
    }
      where
        free : (p : List ℕ) → IsPrime k p → IsDivisorIn P.ops (value k p) (value k d)
            → ¬ All (IsDivisorIn P.ops (value k p)) (values k n)
        free p g divides =
            h.low.free p
            (all p g.over g.irreducible
            (divides_of_divisor k p den g.over den_in den_poly
            (divisor_trans P (value k p) (value k d) (value k den) divides
            (c, h.low.reduced.den_is ∙ P.mul_comm c (value k d)))))
            divides

        least : (ws : List (List ℕ)) (e : List ℕ) → All (IsOver k.ops) ws → IsOver k.ops e → IsPoly e → e ≢ []
            → times P (value k e) (values k n) ≡ times P (value k d) (values k ws) → length d ≤ length e
        least ws e ws_in e_in e_poly some same =
            let divides : IsDivisorIn P.ops (value k d) (value k e)
            = least_denominator k (length (value k d).0 + 1) (value k d) (omega arith)
            (list_some k d h.low.reduced.den_over h.low.reduced.den_poly h.low.reduced.den_some) (values k n) free
            (value k e) (divides_members P (value k d) (value k e) (values k n) (values k ws) same) in
            omega (
              arith,
              divisor_length k (value k d) (value k e) (list_some k e e_in e_poly some) divides,
              length_value k d h.low.reduced.den_over h.low.reduced.den_poly,
              length_value k e e_in e_poly,
            )
