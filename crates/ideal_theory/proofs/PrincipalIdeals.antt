-- The divisor of a function with an inverse on a side, and the ideal of its multiples as the ideal of that divisor.
use Rattle.std.proofs.Common.{◌≡◌, ◌⊎◌, ◌↔◌, inl, inr, List, [], ◌∷◌, sym, ◌∙◌, ap, subst, arith, All}
use Rattle.std.specs.List.{Any, AllPairs}
use Rattle.std.specs.Prelude.{neg_ℤ}
use Rattle.std.proofs.lemmas.List.Elements.{All-nil, All-cons, All-head, All-tail, All-weaker}
use Rattle.std.proofs.lemmas.List.Kept.{AllPairs-cons}
use Rattle.std.proofs.lemmas.Int.{ints}
use Rattle.std.proofs.Math.IntN.{ℤ, pos, ◌+ℤ◌}
use lib.Signed.{◌≤ℤ◌}
use Rattle.ring_lemmas.proofs.Ring.{one_mul}
use Rattle.prime_theory.specs.Ideals.{Invertible, Multiple, SameSet}
use Rattle.prime_theory.specs.Primes.{IsPrime}
use Rattle.prime_theory.proofs.Lists.{both, any_here, any_there, any_none, any_cases, any_weaker}
use Rattle.ff_fields.specs.Field.{CodeField}
use Rattle.ff_poly.specs.Polynomials.{polynomials}
use Rattle.function_field.specs.declared.side.Side.{Side}
use Rattle.function_field.specs.Setting.{Setting}
use Rattle.function_field.specs.Places.{Place, IsPlace, IsIn, IsSamePlace, IsIntegralAt, HasValuationAtLeast, HasValuation}
use Rattle.function_field.specs.Divisors.{Entry, Divisor, HasMultiplicity}
use Rattle.function_field.specs.Functions.{Equation, FunctionOf, ring_of, setting_of}
use Rattle.function_field.specs.Discriminant.{discriminant}
use Rattle.function_field.proofs.ScalarRings.{scalars_subring}
use Rattle.places_theory.proofs.Sides.{side_ring}
use Rattle.places_theory.proofs.SamePlaces.{same_place_sym, same_place_trans}
use Rattle.places_theory.proofs.Multiplicities.{multiplicity_exists}
use Rattle.places_theory.proofs.Valuations.{at_least_of_integral, at_least_product, at_least_weaker, valuation_of_outside, valuation_unique}
use Rattle.infinite_theory.proofs.SamePlaceValues.{value_same}
use Rattle.infinite_theory.proofs.ValueRules.{product_rule}
use Rattle.ideal_theory.specs.Ideals.{IsDivisorOn, IsDivisorOf, DivisorIdeal}
use Rattle.ideal_theory.proofs.DivisorIdeals.{PlaceOn, same_decided, values_of_ideal, ideal_of_values}

pub opposite_of : (m n : ℤ) → m +ℤ n ≡ pos 0 → neg_ℤ m ≤ℤ n
opposite_of m n e = omega (arith, ints)

module _ {E : Type 0} (S : Setting E) where
  -- the same place has the same values
  pub value_along : (P Q : Place E) → IsSamePlace S P Q → (z : E) (m : ℤ) → HasValuation S Q z m → HasValuation S P z m
  value_along P Q e z m v = go Q.side e.side (λ x. ((e.members x).1, (e.members x).0)) v
    where
      go : (s : Side) → P.side ≡ s
          → ((x : E) → IsIn S (record { side = Q.side; generators = Q.generators }) x ↔ IsIn S P x)
          → HasValuation S (record { side = Q.side; generators = Q.generators }) z m → HasValuation S P z m
      go s f same =
          subst (λ r. ((x : E) → IsIn S (record { side = r; generators = Q.generators }) x ↔ IsIn S P x)
          → HasValuation S (record { side = r; generators = Q.generators }) z m → HasValuation S P z m) e.side
          (λ same v. value_same S P.side Q.generators P.generators same z m v) same

  -- D(P) is the number of an entry at P, or there is none and it is 0
  pub locate : (T : Place E → ℤ → Type 0) → (D : Divisor E) (P : Place E) (m : ℤ) → All (λ e. T e.place e.times) D
      → HasMultiplicity S D P m
      → ((Q : Place E) × IsSamePlace S P Q × T Q m) ⊎ ((m ≡ pos 0) × All (λ e. ¬ IsSamePlace S P e.place) D)
  locate T [] P m h t = inr (t, All-nil (λ e. ¬ IsSamePlace S P e.place))
  locate T (e ∷ D) P m h (inl t) = inl (e.place, t.0, subst (T e.place) t.1 (All-head (λ e. T e.place e.times) e D h))
  locate T (e ∷ D) P m h (inr t) = go (locate T D P m (All-tail (λ e. T e.place e.times) e D h) t.1)
    where
      go : ((Q : Place E) × IsSamePlace S P Q × T Q m) ⊎ ((m ≡ pos 0) × All (λ e. ¬ IsSamePlace S P e.place) D)
          → ((Q : Place E) × IsSamePlace S P Q × T Q m) ⊎ ((m ≡ pos 0) × All (λ e. ¬ IsSamePlace S P e.place) (e ∷ D))
      go (inl r) = inl r
      go (inr r) = inr (r.0, All-cons (λ e. ¬ IsSamePlace S P e.place) e D t.0 r.1)

  -- a place can't be in a list and differ from all in it
  pub not_both : (D : Divisor E) (P : Place E) → Any (λ e. IsSamePlace S e.place P) D
      → All (λ e. ¬ IsSamePlace S P e.place) D → ⊥
  not_both [] P a h = any_none (λ e. IsSamePlace S e.place P) a
  not_both (e ∷ D) P a h =
      elim (any_cases (λ e. IsSamePlace S e.place P) e D a) [
        | inl s ↦ All-head (λ e. ¬ IsSamePlace S P e.place) e D h (same_place_sym S e.place P s)
        | inr r ↦ not_both D P r (All-tail (λ e. ¬ IsSamePlace S P e.place) e D h)
      ]

module _ {k : CodeField} (c : Equation k) (some : ¬ (discriminant c ≡ (polynomials k).𝟘)) (s : Side)
    (prime : (P : Place (FunctionOf c)) → IsPlace (setting_of c) P → P.side ≡ s
    → IsPrime (ring_of c).ops (IsIntegralAt (setting_of c) s) (IsIn (setting_of c) P))
    (invertible : (P : Place (FunctionOf c)) → IsPlace (setting_of c) P → P.side ≡ s
    → Invertible (ring_of c).ops (IsIntegralAt (setting_of c) s) (IsIn (setting_of c) P))
    (regular : (z : FunctionOf c)
    → ((P : Place (FunctionOf c)) → IsPlace (setting_of c) P → P.side ≡ s
    → HasValuationAtLeast (setting_of c) P z (pos 0))
    → IsIntegralAt (setting_of c) s z)
    (value : (P : Place (FunctionOf c)) → IsPlace (setting_of c) P → P.side ≡ s → (z y : FunctionOf c)
    → (ring_of c).◌⊗◌ z y ≡ (ring_of c).𝟙
    → (m : ℤ) × HasValuation (setting_of c) P z m) where
  infixl 70 ◌⊗◌
  open ring_of c use {𝟙, ◌⊗◌}

  abbrev S : Setting (FunctionOf c)
  S = setting_of c

  decided : (P Q : PlaceOn (setting_of c) (scalars_subring c) s prime invertible)
      → Dec (IsSamePlace (setting_of c) P.0 Q.0)
  decided = same_decided (setting_of c) (scalars_subring c) s prime invertible

  -- the inverse of a function has the opposite value
  opposite_value : (P : Place (FunctionOf c)) → IsPlace (setting_of c) P → P.side ≡ s → (z y : FunctionOf c) → z ⊗ y
      ≡ 𝟙 → (m : ℤ) → HasValuation (setting_of c) P z m
      → HasValuationAtLeast (setting_of c) P y (neg_ℤ m)
  opposite_value P place e z y inverse m v =
      let n = value P place e y z ((ring_of c).mul_comm y z ∙ inverse) in
      let one = subst (λ x. HasValuation S P x (m +ℤ n.0)) inverse (product_rule k c P some place z y m n.0 v n.1) in
      let zero = valuation_of_outside S (scalars_subring c) P place 𝟙 (side_ring S (scalars_subring c) P.side).one_in
      place.proper in
      at_least_weaker S (scalars_subring c) P place y n.0 (neg_ℤ m)
      (opposite_of m n.0 (valuation_unique S (scalars_subring c) P place 𝟙 (m +ℤ n.0) (pos 0) one zero)) n.1.reached

  module _ (z y : FunctionOf c) (inverse : z ⊗ y ≡ 𝟙) (D : Divisor (FunctionOf c))
      (d : IsDivisorOf (setting_of c) s D z) where
    to_ideal : (w : FunctionOf c) → Multiple (ring_of c).ops z (IsIntegralAt (setting_of c) s) w
        → DivisorIdeal (setting_of c) s D w
    to_ideal w h =
        ideal_of_values S (scalars_subring c) s prime invertible D d.on regular w
        (λ P place e m t.
        subst (λ x. HasValuationAtLeast S P x m) (sym h.is)
        (at_least_weaker S (scalars_subring c) P place (z ⊗ h.quotient) (m +ℤ pos 0) m (omega (arith, ints))
        (at_least_product S (scalars_subring c) P place z h.quotient m (pos 0) (d.values P place e m t).reached
        (at_least_of_integral S (scalars_subring c) P place h.quotient
        (subst (λ r. IsIntegralAt S r h.quotient) (sym e) h.quotient_in)))))

    of_ideal : (w : FunctionOf c) → DivisorIdeal (setting_of c) s D w
        → Multiple (ring_of c).ops z (IsIntegralAt (setting_of c) s) w
    of_ideal w i = record {
      quotient = y ⊗ w;
      quotient_in =
          regular (y ⊗ w)
          (λ P place e.
          let t = multiplicity_exists S D P
          (All-weaker (λ e. IsPlace S e.place × (e.place.side ≡ s)) (λ e. Dec (IsSamePlace S P e.place))
          (λ f p. decided (P, place, e) (f.place, p.0, p.1)) D
          (both (λ e. IsPlace S e.place) (λ e. e.place.side ≡ s) D d.on.divisor.places d.on.sides)) in
          let v = d.values P place e t.0 t.1 in
          at_least_weaker S (scalars_subring c) P place (y ⊗ w) (neg_ℤ t.0 +ℤ t.0) (pos 0) (cancels t.0)
          (at_least_product S (scalars_subring c) P place y w (neg_ℤ t.0) t.0
          (opposite_value P place e z y inverse t.0 v)
          (values_of_ideal S (scalars_subring c) s prime invertible D d.on w i P place e t.0 t.1)));
      is = sym (one_mul (ring_of c) w) ∙ ap (λ x. x ⊗ w) (sym inverse) ∙ (ring_of c).mul_assoc z y w;
    }
      where
        cancels : (m : ℤ) → pos 0 ≤ℤ (neg_ℤ m +ℤ m)
        cancels m = omega (arith, ints)

    pub principal : SameSet (DivisorIdeal (setting_of c) s D)
        (Multiple (ring_of c).ops z (IsIntegralAt (setting_of c) s))
    principal w = (of_ideal w, to_ideal w)

  -- the divisor, from a list of places that has each place with another value than 0
  module _ (z y : FunctionOf c) (inverse : z ⊗ y ≡ 𝟙) where
    record Thinned (ps : List (PlaceOn (setting_of c) (scalars_subring c) s prime invertible)) : Type 0 where
      divisor : Divisor (FunctionOf c)
      on : All (λ e. IsPlace (setting_of c) e.place × (e.place.side ≡ s)) divisor
      apart : AllPairs (λ e e'. ¬ IsSamePlace (setting_of c) e.place e'.place) divisor
      values : All (λ e. HasValuation (setting_of c) e.place z e.times) divisor
      covers : (P : Place (FunctionOf c)) → Any (λ Q. IsSamePlace (setting_of c) Q.0 P) ps
          → Any (λ e. IsSamePlace (setting_of c) e.place P) divisor

    abbrev Fits : Entry (FunctionOf c) → Type 0
    Fits e = IsPlace (setting_of c) e.place × (e.place.side ≡ s)

    find : (Q : PlaceOn (setting_of c) (scalars_subring c) s prime invertible) (D : Divisor (FunctionOf c))
        → All (λ e. IsPlace (setting_of c) e.place × (e.place.side ≡ s)) D
        → Any (λ e. IsSamePlace (setting_of c) e.place Q.0) D ⊎ All (λ e. ¬ IsSamePlace (setting_of c) Q.0 e.place) D
    find Q [] h = inr (All-nil (λ e. ¬ IsSamePlace S Q.0 e.place))
    find Q (e ∷ D) h = let p = All-head Fits e D h in
        go (decided Q (e.place, p.0, p.1)) (find Q D (All-tail Fits e D h))
      where
        go : Dec (IsSamePlace S Q.0 e.place) → Any (λ e. IsSamePlace S e.place Q.0) D
            ⊎ All (λ e. ¬ IsSamePlace S Q.0 e.place) D
            → Any (λ e. IsSamePlace S e.place Q.0) (e ∷ D) ⊎ All (λ e. ¬ IsSamePlace S Q.0 e.place) (e ∷ D)
        go (yes t) r = inl (any_here (λ e. IsSamePlace S e.place Q.0) e D (same_place_sym S Q.0 e.place t))
        go (no n) (inl r) = inl (any_there (λ e. IsSamePlace S e.place Q.0) e D r)
        go (no n) (inr r) = inr (All-cons (λ e. ¬ IsSamePlace S Q.0 e.place) e D n r)

    thin : (ps : List (PlaceOn (setting_of c) (scalars_subring c) s prime invertible)) → Thinned ps
    thin [] = record {
      divisor = [];
      on = All-nil Fits;
      apart = λ i j d l m. absurd (omega arith);
      values = All-nil (λ e. HasValuation S e.place z e.times);
      covers = λ P a. absurd (any_none (λ Q. IsSamePlace S Q.0 P) a);
    }
    thin (Q ∷ ps) = by (thin ps)
      where
        go : (t : Thinned ps) → Any (λ e. IsSamePlace S e.place Q.0) t.divisor
            ⊎ All (λ e. ¬ IsSamePlace S Q.0 e.place) t.divisor → Thinned (Q ∷ ps)
        go t (inl a) = record {
          divisor = t.divisor;
          on = t.on;
          apart = t.apart;
          values = t.values;
          covers = λ P h.
              elim (any_cases (λ Q. IsSamePlace S Q.0 P) Q ps h) [
                | inl r ↦ any_weaker (λ e. IsSamePlace S e.place Q.0) (λ e. IsSamePlace S e.place P)
                    (λ e u. same_place_trans S e.place Q.0 P u r) t.divisor a
                | inr r ↦ t.covers P r
              ];
        }
        go t (inr n) =
            let v = value Q.0 Q.1 Q.2 z y inverse in
            let e : Entry (FunctionOf c) = record { place = Q.0; times = v.0 } in
            record {
              divisor = e ∷ t.divisor;
              on = All-cons Fits e t.divisor (Q.1, Q.2) t.on;
              apart = AllPairs-cons (λ e e'. ¬ IsSamePlace S e.place e'.place) e t.divisor n t.apart;
              values = All-cons (λ e. HasValuation S e.place z e.times) e t.divisor v.1 t.values;
              covers = λ P h.
                  elim (any_cases (λ Q. IsSamePlace S Q.0 P) Q ps h) [
                    | inl r ↦ any_here (λ e. IsSamePlace S e.place P) e t.divisor r
                    | inr r ↦ any_there (λ e. IsSamePlace S e.place P) e t.divisor (t.covers P r)
                  ];
            }

        by : Thinned ps → Thinned (Q ∷ ps)
        by t = go t (find Q t.divisor t.on)

    pub divisor_of_function : (ps : List (PlaceOn (setting_of c) (scalars_subring c) s prime invertible))
        → ((P : Place (FunctionOf c)) → IsPlace (setting_of c) P → P.side ≡ s
        → HasValuation (setting_of c) P z (pos 0) ⊎ Any (λ Q. IsSamePlace (setting_of c) Q.0 P) ps)
        → (D : Divisor (FunctionOf c)) × IsDivisorOf (setting_of c) s D z
    divisor_of_function ps listed = (
      t.divisor,
      record {
        on = on;
        values = λ P place e m h. at P place e m (locate S (λ P m. HasValuation S P z m) t.divisor P m t.values h);
      },
    )
      where
        t : Thinned ps
        t = thin ps

        on : IsDivisorOn S s t.divisor
        on = record {
          divisor =
              record {
                places = All-weaker Fits (λ e. IsPlace S e.place) (λ e p. p.0) t.divisor t.on;
                different = t.apart;
              };
          sides = All-weaker Fits (λ e. e.place.side ≡ s) (λ e p. p.1) t.divisor t.on;
        }

        at : (P : Place (FunctionOf c)) → IsPlace S P → P.side ≡ s → (m : ℤ)
            → ((Q : Place (FunctionOf c)) × IsSamePlace S P Q × HasValuation S Q z m)
            ⊎ ((m ≡ pos 0) × All (λ e. ¬ IsSamePlace S P e.place) t.divisor)
            → HasValuation S P z m
        at P place e m (inl r) = value_along S P r.0 r.1 z m r.2
        at P place e m (inr r) =
            elim (listed P place e) [
              | inl v ↦ subst (HasValuation S P z) (sym r.0) v
              | inr a ↦ absurd (not_both S t.divisor P (t.covers P a) r.1)
            ]
