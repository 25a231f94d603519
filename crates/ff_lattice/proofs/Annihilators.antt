-- The polynomials that take a polynomial, a row or rows into the multiples of e have one monic generator.
use Rattle.std.proofs.Common.{◌≡◌, ℕ, ◌+◌, ◌<◌, ◌≤◌, ◌↔◌, List, [], ◌∷◌, length, get_or, take, refl, sym, ◌∙◌, ap, ap₂, subst, arith, All}
use Rattle.std.proofs.lemmas.List.{get_or-take, length-take-le, take_more, take_all}
use Rattle.std.proofs.lemmas.List.Elements.{All-nil, All-cons, All-append}
use Rattle.ring_lemmas.specs.Ring.{TestedRing}
use Rattle.ring_lemmas.proofs.Ring.{one_mul}
use Rattle.ring_lemmas.proofs.Solver.{ring, reads}
use Rattle.ff_fields.specs.Field.{CodeField}
use Rattle.ff_fields.specs.Over.{IsOver, IsOver_nil, IsOver_cons}
use Rattle.ff_poly.specs.Words.{IsPoly, IsMonicList, IsQuotientWithRest, DividesList, product_of}
use Rattle.ff_poly.specs.PolyOver.{IsOver_product_of}
use Rattle.ff_poly.specs.Value.{value, value_product, value_sum}
use Rattle.ff_poly.specs.Polynomials.{Polynomial, polynomials, codes_of, IsOver_codes_of, IsPoly_codes_of, value_codes_of, value_one}
use Rattle.ff_poly.proofs.Parts.{IsPoly_product_of, IsMonic_product}
use Rattle.ff_poly.proofs.Results.{product_of_nil}
use Rattle.ff_lattice.specs.Steps.{IsAnnihilator, IsNext, IsRowMultiplier, IsLeastMultiplier}
use Rattle.ff_lattice.proofs.Elements.{DividesPol, divides_value, divides_codes}
use Rattle.ff_lattice.proofs.Divisors.{pol_rest, pol_times, pol_scale, divides_product, divides_self}

-- a fact of each entry of a first part, and of the next
pub all_more : {X : Type 0} (P : X → Type 0) (xs : List X) (i : ℕ) (d : X) → i < length xs
    → (All P (take i xs) × P (get_or xs i d)) ↔ All P (take (i + 1) xs)
all_more {X} P xs i d less = (to, from)
  where
    part : length (take (i + 1) xs) ≡ i + 1
    part = length-take-le (i + 1) xs (omega (arith, less))

    first : length (take i xs) ≡ i
    first = length-take-le i xs (omega (arith, less))

    to : All P (take i xs) × P (get_or xs i d) → All P (take (i + 1) xs)
    to (h, p) =
        subst (All P) (sym (take_more xs i d less))
        (All-append P (take i xs) (get_or xs i d ∷ []) h (All-cons P (get_or xs i d) [] p (All-nil P)))

    from : All P (take (i + 1) xs) → All P (take i xs) × P (get_or xs i d)
    from h = (
      λ j e j_less.
          let below : j < i = omega (arith, j_less, first) in
          subst P (get_or-take (i + 1) xs j e (omega (arith, below)) ∙ sym (get_or-take i xs j e below))
          (h j e (omega (arith, below, part))),
      subst P (get_or-take (i + 1) xs i d (omega arith)) (h i d (omega (arith, part))),
    )

module _ (k : CodeField) where
  -- e divides u·v exactly where it divides u·w, for the rest w of v
  rest_divides : (e v q w u : List ℕ) → IsOver k.ops e → IsOver k.ops v → IsOver k.ops u
      → IsQuotientWithRest k.ops v e q w → DividesList k.ops e (product_of k.ops u v)
      ↔ DividesList k.ops e (product_of k.ops u w)
  rest_divides e v q w u e_in v_in u_in d =
      let v_is = ap (value k) d.whole
      ∙ value_sum k (product_of k.ops e q) w (IsOver_product_of k e_in d.quotient_in) d.rest_in
      ∙ ap (λ x. (polynomials k).◌⊕◌ x (value k w)) (value_product k e q e_in d.quotient_in) in
      let whole = divides_product k e u v e_in u_in v_in in
      let rest = divides_product k e u w e_in u_in d.rest_in in
      let both = pol_rest k (value k e) (value k u) (value k v) (value k q) (value k w) v_is in (
        λ h. rest.1 (both.0 (whole.0 h)),
        λ h. whole.1 (both.1 (rest.0 h)),
      )

  -- the annihilator of the rest is that of v
  pub annihilator_of_rest : (e v q w h : List ℕ) → IsOver k.ops e → IsOver k.ops v → IsQuotientWithRest k.ops v e q w
      → IsAnnihilator k.ops e w h → IsAnnihilator k.ops e v h
  annihilator_of_rest e v q w h e_in v_in d a = record {
    over = a.over;
    poly = a.poly;
    monic = a.monic;
    divides = λ u u_in u_poly.
        let r = rest_divides e v q w u e_in v_in u_in d in let b = a.divides u u_in u_poly in (
          λ hu. r.1 (b.0 hu),
          λ euv. b.1 (r.0 euv),
        );
  }

  one_divides : (u : List ℕ) → IsOver k.ops u → IsPoly u → DividesList k.ops (1 ∷ []) u
  one_divides u u_in u_poly =
      divides_codes k (1 ∷ []) u (IsOver_cons k.laws.one_below IsOver_nil) u_in u_poly
      (record {
        quotient = value k u;
        is = sym (ap (λ x. (polynomials k).◌⊗◌ x (value k u)) (value_one k) ∙ one_mul (polynomials k).ring (value k u));
      })

  -- what e divides is taken to its multiples by 1
  pub annihilator_one : (e v q w h : List ℕ) → IsOver k.ops e → IsOver k.ops v → IsQuotientWithRest k.ops v e q w
      → w ≡ [] → h ≡ 1 ∷ [] → IsAnnihilator k.ops e v h
  annihilator_one e v q w h e_in v_in d w_is h_is =
      annihilator_of_rest e v q w h e_in v_in d
      (subst (λ w. IsAnnihilator k.ops e w h) (sym w_is) (subst (IsAnnihilator k.ops e []) (sym h_is) (record {
        over = IsOver_cons k.laws.one_below IsOver_nil;
        poly = record { trimmed = refl };
        monic = ([], refl);
        divides = λ u u_in u_poly. (
          λ _. record {
            quotient = [];
            quotient_in = IsOver_nil;
            quotient_poly = record { trimmed = tt };
            product = product_of_nil k.ops u ∙ sym (product_of_nil k.ops e);
          },
          λ _. one_divides u u_in u_poly,
        );
      })))

  -- h times the annihilator of h·v
  pub next_is : (e h v hv a : List ℕ) → IsOver k.ops e → IsOver k.ops h → IsPoly h → IsMonicList h → IsOver k.ops v
      → hv ≡ product_of k.ops h v → IsAnnihilator k.ops e hv a
      → IsNext k.ops h (λ u. DividesList k.ops e (product_of k.ops u v)) (product_of k.ops h a)
  next_is e h v hv a e_in h_in h_poly h_monic v_in hv_is ann = record {
    over = IsOver_product_of k h_in ann.over;
    poly = IsPoly_product_of k.ops h a;
    monic = IsMonic_product k h a h_in ann.over h_monic ann.monic;
    divides = λ u u_in u_poly. (
      λ d.
          let dp = divides_value k (product_of k.ops h a) u (IsOver_product_of k h_in ann.over) d in
          let t = dp.quotient in
          let u_is : value k u ≡ P.◌⊗◌ (P.◌⊗◌ (value k h) (value k a)) t = dp.is
          ∙ ap (λ x. P.◌⊗◌ x t) (value_product k h a h_in ann.over) in (
            divides_codes k h u h_in u_in u_poly
                (record { quotient = P.◌⊗◌ (value k a) t; is = u_is ∙ P.mul_assoc (value k h) (value k a) t }),
            (divides_product k e u v e_in u_in v_in).1
                (subst (DividesPol k (value k e))
                (swap_left (value k a) t (value k h) (value k v) ∙ ap (λ x. P.◌⊗◌ x (value k v)) (sym u_is))
                (pol_times k (value k e) (P.◌⊗◌ (value k a) (P.◌⊗◌ (value k h) (value k v))) t
                (subst (DividesPol k (value k e)) (ap (P.◌⊗◌ (value k a)) hv_value)
                ((divides_product k e a hv e_in ann.over hv_in).0
                ((ann.divides a ann.over ann.poly).0 (divides_self_of a ann.over ann.poly)))))),
          ),
      λ both.
          let dp = divides_value k h u h_in both.0 in
          let t = dp.quotient in
          let uv = (divides_product k e u v e_in u_in v_in).0 both.1 in
          let t_codes = codes_of k t in
          let t_in = IsOver_codes_of k t in
          let thv : DividesPol k (value k e) (P.◌⊗◌ t (P.◌⊗◌ (value k h) (value k v)))
          = subst (DividesPol k (value k e))
          (ap (λ x. P.◌⊗◌ x (value k v)) dp.is ∙ swap_right (value k h) t (value k v)) uv in
          let at = (ann.divides t_codes t_in (IsPoly_codes_of k t)).1
          ((divides_product k e t_codes hv e_in t_in hv_in).1
          (subst (DividesPol k (value k e)) (ap₂ P.◌⊗◌ (sym (value_codes_of k t)) (sym hv_value)) thv)) in
          divides_codes k (product_of k.ops h a) u (IsOver_product_of k h_in ann.over) u_in u_poly
          (subst (λ x. DividesPol k x (value k u)) (sym (value_product k h a h_in ann.over))
          (subst (DividesPol k (P.◌⊗◌ (value k h) (value k a))) (sym dp.is)
          (pol_scale k (value k h) (value k a) t
          (subst (DividesPol k (value k a)) (value_codes_of k t) (divides_value k a t_codes ann.over at))))),
    );
  }
    where
      P : TestedRing (Polynomial k)
      P = polynomials k

      hv_in : IsOver k.ops hv
      hv_in = subst (IsOver k.ops) (sym hv_is) (IsOver_product_of k h_in v_in)

      hv_value : value k hv ≡ (polynomials k).◌⊗◌ (value k h) (value k v)
      hv_value = ap (value k) hv_is ∙ value_product k h v h_in v_in

      divides_self_of : (d : List ℕ) → IsOver k.ops d → IsPoly d → DividesList k.ops d d
      divides_self_of d d_in d_poly = divides_self k d d_in d_poly

      swap_left : (a t h v : Polynomial k)
          → (polynomials k).◌⊗◌ ((polynomials k).◌⊗◌ a ((polynomials k).◌⊗◌ h v)) t
          ≡ (polynomials k).◌⊗◌ ((polynomials k).◌⊗◌ ((polynomials k).◌⊗◌ h a) t) v
      swap_left a t h v = ring (polynomials k).ring (a ∷ t ∷ h ∷ v ∷ []) λ q x. simp (reads, q, x 0, x 1, x 2, x 3)
          (q.equal _ _ refl)

      swap_right : (h t v : Polynomial k)
          → (polynomials k).◌⊗◌ ((polynomials k).◌⊗◌ h t) v ≡ (polynomials k).◌⊗◌ t ((polynomials k).◌⊗◌ h v)
      swap_right h t v = ring (polynomials k).ring (h ∷ t ∷ v ∷ []) λ q x. simp (reads, q, x 0, x 1, x 2)
          (q.equal _ _ refl)

  -- ---- entry by entry and row by row

  pub next_start : (h : List ℕ) (X : Type 0) (P : List ℕ → X → Type 0) → IsOver k.ops h → IsPoly h → IsMonicList h
      → IsNext k.ops h (λ u. All (P u) []) h
  next_start h X P h_in h_poly h_monic = record {
    over = h_in;
    poly = h_poly;
    monic = h_monic;
    divides = λ u u_in u_poly. (λ d. (d, All-nil (P u)), λ both. both.0);
  }

  -- one member more of a list
  pub next_more : {X : Type 0} (start h h' : List ℕ) (P : List ℕ → X → Type 0) (xs : List X) (i : ℕ) (d : X)
      → i < length xs → IsNext k.ops start (λ u. All (P u) (take i xs)) h → IsNext k.ops h (λ u. P u (get_or xs i d)) h'
      → IsNext k.ops start (λ u. All (P u) (take (i + 1) xs)) h'
  next_more start h h' P xs i d less so_far next = record {
    over = next.over;
    poly = next.poly;
    monic = next.monic;
    divides = λ u u_in u_poly.
        let a = so_far.divides u u_in u_poly in
        let b = next.divides u u_in u_poly in
        let more = all_more (P u) xs i d less in (
          λ x. ((a.0 (b.0 x).0).0, more.0 ((a.0 (b.0 x).0).1, (b.0 x).1)),
          λ both. b.1 (a.1 (both.0, (more.1 both.1).0), (more.1 both.1).1),
        );
  }

  pub next_all : {X : Type 0} (start h : List ℕ) (P : List ℕ → X → Type 0) (xs : List X) (i : ℕ) → length xs ≤ i
      → IsNext k.ops start (λ u. All (P u) (take i xs)) h → IsNext k.ops start (λ u. All (P u) xs) h
  next_all start h P xs i le so_far = subst (λ ys. IsNext k.ops start (λ u. All (P u) ys) h) (take_all i xs le) so_far

  -- from 1 on
  pub least_multiplier_is : (rows : List (List (List ℕ))) (e h : List ℕ)
      → IsNext k.ops (1 ∷ []) (λ u. All (λ row. IsRowMultiplier k.ops e row u) rows) h
      → IsLeastMultiplier k.ops rows e h
  least_multiplier_is rows e h next = record {
    over = next.over;
    poly = next.poly;
    monic = next.monic;
    divides = λ u u_in u_poly.
        let d = next.divides u u_in u_poly in (
          λ hu. record { each = (d.0 hu).1 },
          λ m. d.1 (one_divides u u_in u_poly, m.each),
        );
  }
