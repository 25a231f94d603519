-- Where F is a field, an invertible module over the integral functions of a side is what its least values at the
-- places of the side allow. So two such modules, one a side, are what a divisor allows.
use Rattle.std.proofs.Common.{◌≡◌, ◌⊎◌, inl, inr, List, [], ◌∷◌, ◌++◌, All, refl, sym, ◌∙◌, ap, subst, arith}
use Rattle.std.specs.List.{Any}
use Rattle.std.specs.Prelude.{neg_ℤ}
use Rattle.std.proofs.lemmas.Int.{ints, by_lt_z}
use Rattle.std.proofs.lemmas.List.Elements.{All-nil, All-cons, All-head, All-tail, All-weaker}
use Rattle.std.proofs.Math.IntN.{ℤ, pos, negsuc, ◌+ℤ◌}
use lib.Signed.{◌≤ℤ◌}
use Rattle.ring_lemmas.specs.Ring.{IsField}
use Rattle.ring_lemmas.specs.Sums.{sum_over}
use Rattle.ring_theory.specs.Subsets.{IsModule, Factors}
use Rattle.ring_lemmas.proofs.Ring.{zero_mul, mul_zero}
use Rattle.ring_lemmas.proofs.Solver.{ring, reads}
use Rattle.prime_theory.specs.Ideals.{SameSet, Inverse, Invertible}
use Rattle.prime_theory.proofs.Products.{product_universal, additive_of_module}
use Rattle.prime_theory.proofs.Residues.{Generator, generator}
use Rattle.ff_fields.specs.Field.{CodeField}
use Rattle.ff_poly.specs.Polynomials.{polynomials}
use Rattle.function_field.specs.declared.side.Side.{Side}
use Rattle.function_field.specs.declared.side.Side.TheVariants.{Finite, Infinite}
use Rattle.function_field.specs.Discriminant.{discriminant}
use Rattle.function_field.specs.Places.{Place, IsPlace, IsSamePlace, IsIn, IsIntegralAt, InPower, HasValuationAtLeast, HasValuation}
use Rattle.function_field.specs.Divisors.{Divisor, IsDivisor, MeetsOn}
use Rattle.function_field.specs.Functions.{Equation, FunctionOf, ring_of, setting_of, functions_discrete}
use Rattle.function_field.proofs.ScalarRings.{scalars_subring}
use Rattle.places_theory.proofs.Multiplicities.{multiplicity_unique}
use Rattle.places_theory.proofs.SamePlaces.{same_place_sym}
use Rattle.places_theory.proofs.Sides.{side_ring}
use Rattle.places_theory.proofs.Valuations.{at_least_of_integral, at_least_product, at_least_weaker, valuation_of_outside, valuation_unique, outside_product}
use Rattle.order_theory.proofs.SideOfPlaces.{regular_functions}
use Rattle.infinite_theory.proofs.InfiniteLaws.{regular_integral}
use Rattle.infinite_theory.proofs.ValueRules.{product_rule}
use Rattle.ideal_theory.proofs.PowerValues.{values_additive}
use Rattle.ideal_theory.proofs.PrincipalIdeals.{value_along, opposite_of}
use Rattle.ideal_theory.proofs.SideIdeals.{side_divisor}
use Rattle.divisor_theory.proofs.Differences.{side_prime}
use Rattle.divisor_theory.proofs.PrincipalDivisors.{value_at}
use Rattle.divisor_theory.proofs.DivisorsByValues.{Placed, places_of, places_cover, divisor_by_values}
use Rattle.prime_theory.proofs.Lists.{any_left, any_right}

module _ {k : CodeField} (c : Equation k) (some : ¬ (discriminant c ≡ (polynomials k).𝟘)) where
  infixl 65 ◌⊕◌
  infixl 70 ◌⊗◌
  open ring_of c use {ops, 𝟘, 𝟙, ◌⊕◌, ◌⊗◌}

  abbrev O : Side → FunctionOf c → Type 0
  O = IsIntegralAt (setting_of c)

  -- v_P(z) ≥ m
  abbrev Ge : Place (FunctionOf c) → FunctionOf c → ℤ → Type 0
  Ge = HasValuationAtLeast (setting_of c)

  side_regular : (s : Side) (z : FunctionOf c)
      → ((P : Place (FunctionOf c)) → IsPlace (setting_of c) P → P.side ≡ s → Ge P z (pos 0)) → O s z
  side_regular Finite z h = (regular_functions c z some).0 h
  side_regular Infinite z h = (regular_integral k c some z).0 h

  module _ (P : Place (FunctionOf c)) (place : IsPlace (setting_of c) P) where
    -- a value bounds what the value is at least
    value_bound : (z : FunctionOf c) (m n : ℤ) → HasValuation (setting_of c) P z m → Ge P z n → n ≤ℤ m
    value_bound z m n v h =
        by_lt_z m n
        (λ l. absurd (v.not_more (at_least_weaker (setting_of c) (scalars_subring c) P place z n (m +ℤ pos 1)
        (omega (arith, ints)) h)))
        (λ l. l)

    -- a factor outside the place doesn't change the value
    at_least_of_multiple : (u z : FunctionOf c) → O P.side u → ¬ IsIn (setting_of c) P u → (m : ℤ) → Ge P (u ⊗ z) m
        → Ge P z m
    at_least_of_multiple u z u_in u_out (pos n) h = record {
      factor = h.factor ⊗ u;
      integral = (side_ring (setting_of c) (scalars_subring c) P.side).product_in _ _ h.integral u_in;
      outside = outside_product (setting_of c) (scalars_subring c) P place h.factor u h.integral h.outside u_out u_in;
      product = subst (InPower (setting_of c) P n) (sym ((ring_of c).mul_assoc h.factor u z)) h.product;
    }
    at_least_of_multiple u z u_in u_out (negsuc n) h = record {
      factor = h.factor ⊗ u;
      integral = (side_ring (setting_of c) (scalars_subring c) P.side).product_in _ _ h.integral u_in;
      outside = outside_product (setting_of c) (scalars_subring c) P place h.factor u h.integral h.outside u_out u_in;
      products = λ w i. subst (λ v. O P.side (v ⊗ w)) (sym ((ring_of c).mul_assoc h.factor u z)) (h.products w i);
    }

    -- the inverse has the opposite value
    inverse_value : (z y : FunctionOf c) → z ⊗ y ≡ 𝟙 → (m : ℤ) → HasValuation (setting_of c) P z m → Ge P y (neg_ℤ m)
    inverse_value z y inverse m v =
        let n = value_at c some P place y z ((ring_of c).mul_comm y z ∙ inverse) in
        let one = subst (λ x. HasValuation (setting_of c) P x (m +ℤ n.0)) inverse
        (product_rule k c P some place z y m n.0 v n.1) in
        let zero = valuation_of_outside (setting_of c) (scalars_subring c) P place 𝟙
        (side_ring (setting_of c) (scalars_subring c) P.side).one_in place.proper in
        at_least_weaker (setting_of c) (scalars_subring c) P place y n.0 (neg_ℤ m)
        (opposite_of m n.0 (valuation_unique (setting_of c) (scalars_subring c) P place 𝟙 (m +ℤ n.0) (pos 0) one zero))
        n.1.reached

    -- a sum of products that a function takes to values of at least 0
    listed_sum : (X Y : FunctionOf c → Type 0) (h : FunctionOf c) (fs : List (Factors X Y))
        → All (λ f. Ge P (h ⊗ (f.left ⊗ f.right)) (pos 0)) fs
        → Ge P (h ⊗ sum_over (ring_of c).ops fs (λ f. f.left ⊗ f.right)) (pos 0)
    listed_sum X Y h [] all =
        subst (λ z. Ge P z (pos 0)) (sym (mul_zero (ring_of c) h))
        (values_additive (setting_of c) (scalars_subring c) P.side P.generators place (pos 0)).zero_in
    listed_sum X Y h (f ∷ fs) all =
        subst (λ z. Ge P z (pos 0)) (sym ((ring_of c).mul_add h _ _))
        ((values_additive (setting_of c) (scalars_subring c) P.side P.generators place (pos 0)).sum_in _ _
        (All-head (λ f. Ge P (h ⊗ (f.left ⊗ f.right)) (pos 0)) f fs all)
        (listed_sum X Y h fs (All-tail (λ f. Ge P (h ⊗ (f.left ⊗ f.right)) (pos 0)) f fs all)))

  module _ (field : IsField (ring_of c).ops) (X : Side → FunctionOf c → Type 0)
      (modules : (s : Side) → IsModule (ring_of c).ops (IsIntegralAt (setting_of c) s) (X s))
      (invertible : (s : Side) → Invertible (ring_of c).ops (IsIntegralAt (setting_of c) s) (X s)) where
    abbrev Q : Side → FunctionOf c → Type 0
    Q s = Inverse (ring_of c).ops (IsIntegralAt (setting_of c) s) (X s)

    -- m is the least value of the members of the module at P
    record IsLeast (P : Place (FunctionOf c)) (m : ℤ) : Type 0 where
      below : (z : FunctionOf c) → X P.side z → Ge P z m
      member : FunctionOf c
      member_in : X P.side member
      reached : HasValuation (setting_of c) P member m
      inverse : FunctionOf c
      is_inverse : member ⊗ inverse ≡ 𝟙
      partner : FunctionOf c
      partner_in : Q P.side partner
      unit : HasValuation (setting_of c) P (member ⊗ partner) (pos 0)

    least : (P : Place (FunctionOf c)) → IsPlace (setting_of c) P → (m : ℤ) × IsLeast P m
    least P place = (
      v.0,
      record {
        below = λ z z_in.
            at_least_of_multiple P place u z a.outside.within a.outside.out v.0
            (subst (λ w. Ge P w v.0) (sym ((ring_of c).mul_assoc a.element a.partner z))
            (at_least_weaker (setting_of c) (scalars_subring c) P place (a.element ⊗ (a.partner ⊗ z)) (v.0 +ℤ pos 0)
            v.0 (same v.0)
            (at_least_product (setting_of c) (scalars_subring c) P place a.element (a.partner ⊗ z) v.0 (pos 0)
            v.1.reached
            (at_least_of_integral (setting_of c) (scalars_subring c) P place (a.partner ⊗ z) (a.partner_in z z_in)))));
        member = a.element;
        member_in = a.element_in;
        reached = v.1;
        inverse = y.0;
        is_inverse = y.1;
        partner = a.partner;
        partner_in = a.partner_in;
        unit = valuation_of_outside (setting_of c) (scalars_subring c) P place u a.outside.within a.outside.out;
      },
    )
      where
        same : (m : ℤ) → m ≤ℤ (m +ℤ pos 0)
        same m = omega (arith, ints)

        a : Generator (ring_of c) (O P.side) (IsIn (setting_of c) P) (X P.side)
        a =
            generator (ring_of c) (O P.side) (side_ring (setting_of c) (scalars_subring c) P.side)
            (IsIn (setting_of c) P) (side_prime c some P.side P place refl)
            (X P.side) (modules P.side) (invertible P.side)

        u : FunctionOf c
        u = a.element ⊗ a.partner

        nonzero : ¬ (a.element ≡ 𝟘)
        nonzero e =
            a.outside.out
            (subst (IsIn (setting_of c) P) (sym (ap (λ x. x ⊗ a.partner) e ∙ zero_mul (ring_of c) a.partner))
            (side_prime c some P.side P place refl).ideal.zero_in)

        y : (b : FunctionOf c) × (a.element ⊗ b ≡ 𝟙)
        y = field.inverse a.element nonzero

        v : (m : ℤ) × HasValuation (setting_of c) P a.element m
        v = value_at c some P place a.element y.0 y.1

    value : (P : Place (FunctionOf c)) → IsPlace (setting_of c) P → ℤ
    value P place = (least P place).0

    value_least : (P : Place (FunctionOf c)) (place : IsPlace (setting_of c) P) → IsLeast P (value P place)
    unfolding value
    value_least P place = (least P place).1

    value_at_most : (P R : Place (FunctionOf c)) → IsPlace (setting_of c) R → IsSamePlace (setting_of c) P R
        → (m n : ℤ) → IsLeast P m → IsLeast R n → n ≤ℤ m
    value_at_most P R place s m n h i =
        value_bound R place h.member m n
        (value_along (setting_of c) R P (same_place_sym (setting_of c) P R s) h.member m h.reached)
        (i.below h.member (subst (λ t. X t h.member) s.side h.member_in))

    value_same : (P R : Place (FunctionOf c)) (h : IsPlace (setting_of c) P) (i : IsPlace (setting_of c) R)
        → IsSamePlace (setting_of c) P R → value P h ≡ value R i
    value_same P R h i s =
        let a = value_at_most P R i s (value P h) (value R i) (value_least P h) (value_least R i) in
        let b = value_at_most R P h (same_place_sym (setting_of c) P R s) (value R i) (value P h) (value_least R i)
        (value_least P h) in
        omega (arith, ints)

    -- a function with at least these values is a member
    member_of_values : (s : Side) (z : FunctionOf c)
        → ((P : Place (FunctionOf c)) (place : IsPlace (setting_of c) P) → P.side ≡ s → Ge P z (value P place)) → X s z
    member_of_values s z h =
        subst (X s) ((ring_of c).mul_one z)
        (product_universal (ring_of c) (X s) (Q s) (X s) (additive_of_module (ring_of c) (O s) (X s) (modules s)) z
        (λ a b i j. subst (X s) (turn a b) ((modules s).scale_in (z ⊗ b) a (side_regular s (z ⊗ b) (at b j)) i)) 𝟙
        (invertible s))
      where
        turn : (a b : FunctionOf c) → z ⊗ b ⊗ a ≡ z ⊗ (a ⊗ b)
        turn a b = ring (ring_of c) (z ∷ a ∷ b ∷ []) λ q i. simp (reads, q, i 0, i 1, i 2) (q.equal _ _ refl)

        total : (m : ℤ) → pos 0 ≤ℤ (m +ℤ (pos 0 +ℤ neg_ℤ m))
        total m = omega (arith, ints)

        at : (b : FunctionOf c) → Q s b → (P : Place (FunctionOf c)) → IsPlace (setting_of c) P → P.side ≡ s
            → Ge P (z ⊗ b) (pos 0)
        at b j P place e =
            let l = value_least P place in
            let m = value P place in
            at_least_weaker (setting_of c) (scalars_subring c) P place (z ⊗ b) (m +ℤ (pos 0 +ℤ neg_ℤ m)) (pos 0)
            (total m)
            (at_least_product (setting_of c) (scalars_subring c) P place z b m (pos 0 +ℤ neg_ℤ m) (h P place e)
            (subst (λ w. Ge P w (pos 0 +ℤ neg_ℤ m))
            ((ring_of c).mul_assoc b l.member l.inverse ∙ ap (λ w. b ⊗ w) l.is_inverse ∙ (ring_of c).mul_one b)
            (at_least_product (setting_of c) (scalars_subring c) P place (b ⊗ l.member) l.inverse (pos 0) (neg_ℤ m)
            (at_least_of_integral (setting_of c) (scalars_subring c) P place (b ⊗ l.member)
            (subst (λ t. O t (b ⊗ l.member)) (sym e) (j l.member (subst (λ t. X t l.member) e l.member_in))))
            (inverse_value P place l.member l.inverse l.is_inverse m l.reached))))

    -- the places of a side at which a function has a value below 0 are listed
    record Covered (s : Side) (z : FunctionOf c) : Type 0 where
      places : List (Placed c)
      covers : (P : Place (FunctionOf c)) → IsPlace (setting_of c) P → P.side ≡ s → Ge P z (pos 0)
          ⊎ Any (λ R. IsSamePlace (setting_of c) R.0 P) places

    covered : (s : Side) (z : FunctionOf c) → Covered s z
    covered s z = go (functions_discrete c z 𝟘)
      where
        go : Dec (z ≡ 𝟘) → Covered s z
        go (yes e) = record {
          places = [];
          covers = λ P place h.
              inl (subst (λ w. Ge P w (pos 0)) (sym e)
              (values_additive (setting_of c) (scalars_subring c) P.side P.generators place (pos 0)).zero_in);
        }
        go (no n) =
            let y = field.inverse z n in
            let D = side_divisor c some s z y.0 y.1 in
            record {
              places = places_of c D.0 D.1.on.divisor.places;
              covers = λ P place h.
                  elim (places_cover c D.0 D.1.on.divisor.places P place)
                  [ inl m ↦ inl (D.1.values P place h (pos 0) m).reached | inr a ↦ inr a ];
            }

    -- for the factors of a list of products
    abbrev BothAt : (s : Side) → Place (FunctionOf c) → List (Factors (X s) (Q s)) → Type 0
    BothAt s P fs = All (λ f. Ge P f.left (pos 0) × Ge P f.right (pos 0)) fs

    record AllCovered (s : Side) (fs : List (Factors (X s) (Q s))) : Type 0 where
      places : List (Placed c)
      covers : (P : Place (FunctionOf c)) → IsPlace (setting_of c) P → P.side ≡ s → BothAt s P fs
          ⊎ Any (λ R. IsSamePlace (setting_of c) R.0 P) places

    all_covered : (s : Side) (fs : List (Factors (X s) (Q s))) → AllCovered s fs
    all_covered s [] =
        record { places = []; covers = λ P place e. inl (All-nil (λ f. Ge P f.left (pos 0) × Ge P f.right (pos 0))) }
    all_covered s (f ∷ fs) =
        let a = covered s f.left in
        let b = covered s f.right in
        let r = all_covered s fs in
        record {
          places = a.places ++ (b.places ++ r.places);
          covers =
              λ P place e. go P a.places b.places r.places (a.covers P place e) (b.covers P place e)
              (r.covers P place e);
        }
      where
        go : (P : Place (FunctionOf c)) (ls bs rs : List (Placed c)) → Ge P f.left (pos 0)
            ⊎ Any (λ R. IsSamePlace (setting_of c) R.0 P) ls
            → Ge P f.right (pos 0) ⊎ Any (λ R. IsSamePlace (setting_of c) R.0 P) bs → BothAt s P fs
            ⊎ Any (λ R. IsSamePlace (setting_of c) R.0 P) rs
            → BothAt s P (f ∷ fs) ⊎ Any (λ R. IsSamePlace (setting_of c) R.0 P) (ls ++ (bs ++ rs))
        go P ls bs rs (inr a) b r = inr (any_left (λ R. IsSamePlace (setting_of c) R.0 P) ls (bs ++ rs) a)
        go P ls bs rs (inl a) (inr b) r =
            inr (any_right (λ R. IsSamePlace (setting_of c) R.0 P) ls (bs ++ rs)
            (any_left (λ R. IsSamePlace (setting_of c) R.0 P) bs rs b))
        go P ls bs rs (inl a) (inl b) (inr r) =
            inr (any_right (λ R. IsSamePlace (setting_of c) R.0 P) ls (bs ++ rs)
            (any_right (λ R. IsSamePlace (setting_of c) R.0 P) bs rs r))
        go P ls bs rs (inl a) (inl b) (inl r) =
            inl (All-cons (λ f. Ge P f.left (pos 0) × Ge P f.right (pos 0)) f fs (a, b) r)

    -- at all other places the least value is 0
    module _ (P : Place (FunctionOf c)) (place : IsPlace (setting_of c) P) (fs : List (Factors (X P.side) (Q P.side)))
        (one : 𝟙 ≡ sum_over (ring_of c).ops fs (λ f. f.left ⊗ f.right)) (both : BothAt P.side P fs) where
      sum : pos 0 +ℤ pos 0 ≡ pos 0
      sum = omega (arith, ints)

      member_positive : (a : FunctionOf c) → X P.side a → Ge P a (pos 0)
      member_positive a a_in =
          subst (λ w. Ge P w (pos 0)) (ap (λ w. a ⊗ w) (sym one) ∙ (ring_of c).mul_one a)
          (listed_sum P place (X P.side) (Q P.side) a fs
          (All-weaker (λ f. Ge P f.left (pos 0) × Ge P f.right (pos 0)) (λ f. Ge P (a ⊗ (f.left ⊗ f.right)) (pos 0))
          (λ f h.
          subst (λ w. Ge P w (pos 0)) (turn f.left f.right)
          (subst (Ge P (f.right ⊗ a ⊗ f.left)) sum
          (at_least_product (setting_of c) (scalars_subring c) P place (f.right ⊗ a) f.left (pos 0) (pos 0)
          (at_least_of_integral (setting_of c) (scalars_subring c) P place (f.right ⊗ a) (f.right_in a a_in)) h.0)))
          fs both))
        where
          turn : (l r : FunctionOf c) → r ⊗ a ⊗ l ≡ a ⊗ (l ⊗ r)
          turn l r = ring (ring_of c) (a ∷ l ∷ r ∷ []) λ q i. simp (reads, q, i 0, i 1, i 2) (q.equal _ _ refl)

      partner_positive : (b : FunctionOf c) → Q P.side b → Ge P b (pos 0)
      partner_positive b b_in =
          subst (λ w. Ge P w (pos 0)) (ap (λ w. b ⊗ w) (sym one) ∙ (ring_of c).mul_one b)
          (listed_sum P place (X P.side) (Q P.side) b fs
          (All-weaker (λ f. Ge P f.left (pos 0) × Ge P f.right (pos 0)) (λ f. Ge P (b ⊗ (f.left ⊗ f.right)) (pos 0))
          (λ f h.
          subst (λ w. Ge P w (pos 0)) ((ring_of c).mul_assoc b f.left f.right)
          (subst (Ge P (b ⊗ f.left ⊗ f.right)) sum
          (at_least_product (setting_of c) (scalars_subring c) P place (b ⊗ f.left) f.right (pos 0) (pos 0)
          (at_least_of_integral (setting_of c) (scalars_subring c) P place (b ⊗ f.left) (b_in f.left f.left_in))
          h.1))) fs both))

      least_none : (m : ℤ) → IsLeast P m → m ≡ pos 0
      least_none m l =
          let a = value_bound P place l.member m (pos 0) l.reached (member_positive l.member l.member_in) in
          let b = value_bound P place (l.member ⊗ l.partner) (pos 0) (m +ℤ pos 0) l.unit
          (at_least_product (setting_of c) (scalars_subring c) P place l.member l.partner m (pos 0) l.reached.reached
          (partner_positive l.partner l.partner_in)) in
          omega (arith, ints)

    -- a divisor that allows the members of the modules
    pub module_divisor : (D : Divisor (FunctionOf c)) × IsDivisor (setting_of c) D
        × ((s : Side) → SameSet (X s) (MeetsOn (setting_of c) D s))
    module_divisor =
        let r = divisor_by_values c opposite opposite_same (places Finite ++ places Infinite) elsewhere in (
          r.0,
          r.1,
          λ s z. (
            λ z_in P place e m h.
                let n : opposite P place ≡ m = multiplicity_unique (setting_of c) r.0 P (opposite P place) m
                (r.2 P place) h in
                subst (Ge P z) (twice P place ∙ ap neg_ℤ n)
                ((value_least P place).below z (subst (λ t. X t z) (sym e) z_in)),
            λ h. member_of_values s z
                (λ P place e. subst (Ge P z) (sym (twice P place)) (h P place e (opposite P place) (r.2 P place))),
          ),
        )
      where
        opposite : (P : Place (FunctionOf c)) → IsPlace (setting_of c) P → ℤ
        opposite P place = neg_ℤ (value P place)

        negated_twice : (m : ℤ) → m ≡ neg_ℤ (neg_ℤ m)
        negated_twice m = omega (arith, ints)

        twice : (P : Place (FunctionOf c)) (place : IsPlace (setting_of c) P) → value P place ≡ neg_ℤ (opposite P place)
        twice P place = negated_twice (value P place)

        opposite_same : (P R : Place (FunctionOf c)) (h : IsPlace (setting_of c) P) (i : IsPlace (setting_of c) R)
            → IsSamePlace (setting_of c) P R
            → opposite P h ≡ opposite R i
        opposite_same P R h i s = ap neg_ℤ (value_same P R h i s)

        places : Side → List (Placed c)
        places s = (all_covered s (invertible s).0).places

        one_side : (P : Place (FunctionOf c)) (h : IsPlace (setting_of c) P)
            → (opposite P h ≡ pos 0) ⊎ Any (λ R. IsSamePlace (setting_of c) R.0 P) (places P.side)
        one_side P h = go ((all_covered P.side (invertible P.side).0).covers P h refl)
          where
            go : BothAt P.side P (invertible P.side).0 ⊎ Any (λ R. IsSamePlace (setting_of c) R.0 P) (places P.side)
                → (opposite P h ≡ pos 0) ⊎ Any (λ R. IsSamePlace (setting_of c) R.0 P) (places P.side)
            go (inl b) =
                inl (ap neg_ℤ (least_none P h (invertible P.side).0 (invertible P.side).1 b (value P h)
                (value_least P h)))
            go (inr a) = inr a

        elsewhere : (P : Place (FunctionOf c)) (h : IsPlace (setting_of c) P)
            → (opposite P h ≡ pos 0) ⊎ Any (λ R. IsSamePlace (setting_of c) R.0 P) (places Finite ++ places Infinite)
        elsewhere P h = go P.side (one_side P h)
          where
            go : (s : Side) → (opposite P h ≡ pos 0) ⊎ Any (λ R. IsSamePlace (setting_of c) R.0 P) (places s)
                → (opposite P h ≡ pos 0) ⊎ Any (λ R. IsSamePlace (setting_of c) R.0 P)
                (places Finite ++ places Infinite)
            go s (inl e) = inl e
            go Finite (inr a) =
                inr (any_left (λ R. IsSamePlace (setting_of c) R.0 P) (places Finite) (places Infinite) a)
            go Infinite (inr a) =
                inr (any_right (λ R. IsSamePlace (setting_of c) R.0 P) (places Finite) (places Infinite) a)
